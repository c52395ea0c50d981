use Rattle.std.proofs.Common.{sym, ap, ◌∙◌}
use Rattle.std.specs.FinMap.{find, get-entries}
use Rattle.base_model.specs.Bytes.{bytes_cmp}
use Rattle.node_table.specs.Pairs.{pairs_of}
use Rattle.node_table.proofs.source.TableSourceNodeSource.value.Goals as goal

pub returns-clause-value : goal.returns-clause-value
returns-clause-value c = λ m t.
    c.in_ok-value_in.ensures
    ∙ ap (λ ps. find bytes_cmp c.args.key.now (pairs_of ps)) c.as_slice.ensures.value
    ∙ ap (find bytes_cmp c.args.key.now) (sym t.pairs)
    ∙ sym (get-entries m c.args.key.now)
