use Rattle.std.proofs.Common.{◌∷◌, [], map, refl, sym, ap, ◌∙◌, subst}
use Rattle.std.proofs.lemmas.List.{map-append}
use Rattle.bit_keys.specs.Branch.{width_of}
use Rattle.trie_model.specs.Items.{IsValid, IsWholeItem}
use Rattle.trie_items.specs.Items.{item_of}
use Rattle.trie_items.proofs.OrderedItems.{accepted, refused}
use Rattle.trie_items.proofs.item_list.ItemList.push.Goals as goal

pub returns-then-not-may_follow-clause-order : goal.returns-then-not-may_follow-clause-order
returns-then-not-may_follow-clause-order c = (
  λ e v. refused _ _ _ _ _ (ap (map item_of) c.as_slice.ensures.value ∙ ap (λ s. s.items) c.self.view_is) c.may_follow.ensures.1 c.if-not-may_follow.true v,
  λ n. refl,
)

pub returns-in_err-push-clause-order : goal.returns-in_err-push-clause-order
returns-in_err-push-clause-order c = (
  λ e v. let f = rw e at c.from_residual.ensures in absurd cc,
  λ n. absurd (n (accepted _ _ _ _ _ (ap (map item_of) c.as_slice.ensures.value ∙ ap (λ s. s.items) c.self.view_is) (subst (λ s. IsValid s.width s.items) c.self.view_is c.self.invariant) c.requires c.may_follow.ensures.0 c.if-not-may_follow.false)),
)

pub invariant_of-self-2 : goal.invariant_of-self-2
invariant_of-self-2 c = let v = accepted _ _ _ _ _ (ap (map item_of) c.as_slice.ensures.value) c.self.invariant (subst (λ s. IsWholeItem s.width (item_of c.args.item)) (sym c.self.view_is) c.requires) c.may_follow.ensures.0 c.if-not-may_follow.false in
    subst (IsValid (width_of c.self.inside.branch)) (sym (ap (map item_of) c.in_ok-push.ensures.items ∙ map-append item_of c.self.inside.items.items (c.args.item ∷ []))) v

pub returns-clause-order : goal.returns-clause-order
returns-clause-order c = (
  λ e. absurd cc,
  λ n. absurd (n (accepted _ _ _ _ _ (ap (map item_of) c.as_slice.ensures.value ∙ ap (λ s. s.items) c.self.view_is) (subst (λ s. IsValid s.width s.items) c.self.view_is c.self.invariant) c.requires c.may_follow.ensures.0 c.if-not-may_follow.false)),
)
