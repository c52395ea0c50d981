use Rattle.std.proofs.Common.{◌≡◌, ap, ◌∙◌, leb, refl, rules}
use Rattle.std.specs.FinMap.{get}
use Rattle.std.proofs.lemmas.Map.Entries.{filter_from_retain_pairs}
use Rattle.value_store.specs.Index.{Places, places_of, up_to}
use Rattle.value_store.proofs.IndexEntries.{get-filter}
use Rattle.value_store.proofs.ShortKeys.{short-cut}
use Rattle.value_store.proofs.index.Index.cut.Goals as goal

pub returns : goal.returns
returns c = λ key.
    let kept = filter_from_retain_pairs _ (λ f. f.0.now ≡ c.args.end) (λ e. leb e.1.start c.args.end) (λ f k v b w f' i t. search rules) _ c.self.inside.places.entries c.retain.new.self.entries refl c.retain.ensures.filtered in
    get-filter c.args.end c.self.inside.places.entries c.retain.new.self.entries c.self.invariant.0 c.retain.ensures.ordered kept key
    ∙ ap (λ (m : Places). up_to c.args.end (get m key)) c.self.view_is

pub invariant_of-self : goal.invariant_of-self
invariant_of-self c =
    let es = c.self.inside.places.entries in
    let new = c.retain.new.self.entries in
    let kept = filter_from_retain_pairs _ (λ f. f.0.now ≡ c.args.end) (λ e. leb e.1.start c.args.end) (λ f k v b w f' i t. search rules) _ es new refl c.retain.ensures.filtered in
    (search rules, short-cut c.args.end (places_of es) (places_of new) (λ key. get-filter c.args.end es new c.self.invariant.0 c.retain.ensures.ordered kept key) c.self.invariant.1)
