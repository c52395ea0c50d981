use Rattle.std.proofs.Common.{◌≡◌, ◌∙◌, sym, ap, subst, Less, List, ℕ, get_or}
use Rattle.std.specs.List.{AllByRecursion}
use Rattle.base_model.specs.Bytes.{bytes_cmp}
use Rattle.node_table.specs.Pairs.{key_of}
use Rattle.node_table.proofs.KeysInOrder.{lower_ahead}
use Rattle.node_table.proofs.source.told.Goals as goal

pub add-requires : goal.add-requires
add-requires c =
    let item = c.loop-key-item.result in
    let same = c.as_slice.ensures.value ∙ ap key_of c.loop-key-item.is in
    let below = lower_ahead c.args.pairs.now c.loop-key.key-index item c.requires c.loop-key-test.true in
    record {
      above = subst (λ k. AllByRecursion (λ (e : List ℕ × List ℕ). bytes_cmp e.0 k ≡ Less) c.loop-key.builder.pairs) (sym same)
          (subst (AllByRecursion (λ (e : List ℕ × List ℕ). bytes_cmp e.0 (key_of (get_or c.args.pairs.now c.loop-key.key-index item)) ≡ Less)) (sym c.loop-key.invariant.pairs) below);
    }
