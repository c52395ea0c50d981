use Rattle.std.proofs.Common.{◌∙◌, [], refl, subst, false}
use Rattle.std.specs.Process.{exit_status}
use Rattle.run_model.specs.OutsideThings.{output_seen}
use Rattle.mdb_tool.specs.declared.hints.Hint.{Hint}
use Rattle.mdb_tool.specs.declared.hints.TheConstants.{GREETING}
use Rattle.mdb_tool.specs.Ends.{end_of}
use Rattle.mdb_tool.specs.Process.{told_text, EndsBy}
use Rattle.mdb_tool.proofs.ProcessEnds.{ends_by}
use Rattle.mdb_tool.proofs.process.refuse.Goals as goal

pub returns : goal.returns
returns g c =
    let status = c.args.status.now in
    let untold = output_seen (g.E.Sink.taken c.args.err.now) (g.E.Sink.faults c.args.err.now) in
    let told = output_seen (g.E.Sink.taken c.report.new.err) (g.E.Sink.faults c.report.new.err) in
    let Ends : Hint → Type 0 = λ hint. EndsBy false GREETING.now (told_text c.args.terminals.errors [] hint (end_of status)) (end_of status) untold told (exit_status c.from.result) in
    subst Ends c.unread_hint-hint.ensures
    (ends_by false GREETING.now _ status untold untold told _ refl c.report.ensures.quiet c.report.ensures.told (c.from.ensures ∙ c.status_number.ensures))
