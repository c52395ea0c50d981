use Rattle.std.proofs.Common.{◌+◌, length, ap, ◌∙◌, subst}
use Rattle.std.proofs.lemmas.Result.{IfOk-weaker, on_ok_weaker, on_err_weaker}
use Rattle.trie_model.specs.Ids.{id}
use Rattle.trie_model.specs.Table.{items_table}
use Rattle.map_root.specs.Hashes.{GrewAtMost}
use Rattle.map_root.proofs.Pairs.{made_same, count_same, table_stored, whole_keys}
use Rattle.map_root.proofs.builder.pass_over.Goals as goal

pub pass-requires-clause-whole : goal.pass-requires-clause-whole
pass-requires-clause-whole g c = whole_keys c.builder.inside.branch c.builder.inside.entries.items c.builder.invariant.1

pub returns-clause-id : goal.returns-clause-id
returns-clause-id g c = IfOk-weaker c.pass.result _ _ (λ made e. e ∙ made_same id c.args.builder c.builder.inside.branch c.builder.inside.entries.items c.builder.invariant.1 c.builder.view_is) c.pass.ensures.id

pub returns-clause-rows : goal.returns-clause-rows
returns-clause-rows g c = on_ok_weaker c.pass.result (subst (g.K.NodeSink.holds c.pass.new.sink) (made_same items_table c.args.builder c.builder.inside.branch c.builder.inside.entries.items c.builder.invariant.1 c.builder.view_is)) c.pass.ensures.rows

pub returns-clause-ticks : goal.returns-clause-ticks
returns-clause-ticks g c = on_ok_weaker c.pass.result (λ e. e ∙ ap (λ rows. c.args.steps.now + length rows) (made_same items_table c.args.builder c.builder.inside.branch c.builder.inside.entries.items c.builder.invariant.1 c.builder.view_is)) c.pass.ensures.cost

pub returns-clause-cost : goal.returns-clause-cost
returns-clause-cost g c = on_ok_weaker c.pass.result (λ e. e ∙ ap (λ n. c.args.steps.now + n) (count_same c.args.builder c.builder.inside.branch c.builder.inside.entries.items c.builder.invariant.0 c.builder.invariant.1 c.builder.view_is)) c.pass.ensures.cost

pub returns-clause-err : goal.returns-clause-err
returns-clause-err g c =
    on_err_weaker c.pass.result (subst (λ n. GrewAtMost n c.args.steps.now c.pass.new.steps) (count_same c.args.builder c.builder.inside.branch c.builder.inside.entries.items c.builder.invariant.0 c.builder.invariant.1 c.builder.view_is)) c.pass.ensures.err

pub returns-clause-stored : goal.returns-clause-stored
returns-clause-stored g c = table_stored c.args.builder c.builder.inside.branch c.builder.inside.entries.items c.builder.invariant.0 c.builder.invariant.1 c.builder.invariant.2 c.builder.view_is
