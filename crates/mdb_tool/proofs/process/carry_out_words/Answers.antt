use Rattle.std.proofs.Common.{◌∙◌, subst}
use Rattle.std.specs.Prelude.{map, string_bytes}
use Rattle.std.specs.Process.{exit_status}
use Rattle.run_model.specs.OutsideThings.{output_seen}
use Rattle.mdb_tool.specs.declared.hints.Hint.{Hint}
use Rattle.mdb_tool.specs.declared.hints.TheConstants.{GREETING}
use Rattle.mdb_tool.specs.Ends.{end_of}
use Rattle.mdb_tool.specs.Process.{told_text, is_greeted, EndsBy}
use Rattle.mdb_tool.proofs.ProcessEnds.{ends_by}
use Rattle.mdb_tool.proofs.process.carry_out_words.Goals as goal

pub returns : goal.returns
returns g c =
    let given = map string_bytes c.args.words.now in
    let status = c.answer-status.result in
    let untold = output_seen (g.E.Sink.taken c.args.err.now) (g.E.Sink.faults c.args.err.now) in
    let greeted = output_seen (g.E.Sink.taken c.greet.new.err) (g.E.Sink.faults c.greet.new.err) in
    let told = output_seen (g.E.Sink.taken c.report.new.err) (g.E.Sink.faults c.report.new.err) in
    let Ends : Hint → Type 0 = λ hint. EndsBy (is_greeted c.args.terminals given) GREETING.now (told_text c.args.terminals.errors given hint (end_of status)) (end_of status) untold told (exit_status c.from.result) in (
      status,
      record { asked = c.answer-status.ensures.asked; run = c.answer-status.ensures.run },
      subst Ends c.end_hint-hint.ensures
          (ends_by _ _ _ status untold greeted told _ c.greet.ensures c.report.ensures.quiet c.report.ensures.told (c.from.ensures ∙ c.status_number.ensures)),
    )
