use Rattle.std.proofs.Common.{◌≡◌, ℕ, List, sym, ap, ◌∙◌, subst, Less, arith, ◌++◌, ◌∷◌, []}
use Rattle.std.specs.List.{AllByRecursion}
use Rattle.base_model.specs.Bytes.{bytes_cmp}
use Rattle.map_root.proofs.Pairs.{bytes_below, one_more, one_more_pair}
use Rattle.map_root.proofs.builder.Builder.add.Goals as goal

pub invariant_of-self-2 : goal.invariant_of-self-2
invariant_of-self-2 c =
    one_more c.self.inside.entries.items c.push.new.self.items (record { key = c.in-Ok.key; digest = c.args.digest }) c.args.key.now c.in_ok-push.ensures.items c.in-Ok.ensures
    (bytes_below c.args.key.now (λ i. omega (arith, c.type_inv.key i))) c.self.invariant.0 c.self.invariant.1 c.self.invariant.2 c.bytes-bytes.ensures.short
    (subst (λ b. AllByRecursion (λ (e : List ℕ × List ℕ). bytes_cmp e.0 c.args.key.now ≡ Less) b.pairs) (sym c.self.view_is) c.requires.above)

pub returns-clause-ok : goal.returns-clause-ok
returns-clause-ok c =
    one_more_pair c.self.inside.entries.items c.push.new.self.items (record { key = c.in-Ok.key; digest = c.args.digest }) c.args.key.now c.in_ok-push.ensures.items c.in-Ok.ensures
    (bytes_below c.args.key.now (λ i. omega (arith, c.type_inv.key i)))
    ∙ ap (λ b. b.pairs ++ (c.args.key.now, c.args.digest) ∷ []) c.self.view_is
