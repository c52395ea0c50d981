use Rattle.std.specs.Prelude.{is_ok}
use Rattle.std.proofs.Common.{◌≡◌, ℕ, ap, refl, subst, arith, Ok, Bool, false}
use Rattle.text_model.specs.ReadLine.{Batch, is_line}
use Rattle.batch_text.specs.Stream.{SettlesNothing}
use Rattle.mdb_tool.specs.MapLines.{FirstBad}
use Rattle.mdb_tool.proofs.ReadingOfLines.{at_start, goes_on, at_end, past_end, at_overlong, at_bad}
use Rattle.text_model.proofs.LinesWithin.{overlong_lines_are_bad}
use Rattle.batch_text.proofs.UsedBytes.{none_used, line_used, good_so_far}
use Rattle.mdb_tool.proofs.map_lines.read_map.Goals as goal

pub lines-init : goal.lines-init
lines-init g c = record {
  so_far = at_start (g.S.Source.left c.args.input.now) c.new-digests.result c.new-reader.result c.new-digests.ensures c.new-reader.ensures.held c.new-reader.ensures.allowed;
  used = none_used (is_line Batch) (overlong_lines_are_bad Batch) (g.S.Source.left c.args.input.now) c.new-reader.result c.new-reader.ensures.held c.new-reader.ensures.allowed;
  room = omega arith;
  ended = λ h. let no = rw c.new-reader.ensures.ended at h in let none : ⊥ = cc no in absurd none;
  tells = (λ x. x, λ x. x);
  later = omega arith;
}

pub returns-in-Ok-false-clause-made : goal.returns-in-Ok-false-clause-made
returns-in-Ok-false-clause-made g c =
    let k = c.lines.invariant in
    let end = c.in-Ok-false.ensures.end (ap (λ (b : Bool). Ok b) c.in-Ok-false.field-0-test) in
    at_end (g.S.Source.left c.args.input.now) (g.S.Source.left c.lines.input) c.lines.number c.lines.digests c.lines.reader k.tells k.so_far end.0

pub returns-in-Err-Read-clause-undecided : goal.returns-in-Err-Read-clause-undecided
returns-in-Err-Read-clause-undecided g c = λ _.
    let k = c.lines.invariant in
    let ensured = rw c.in-Err-Read.field-0-is at c.in-Err-Read.ensures in
    let kept = ensured.kept (λ is. let no : ⊥ = cc is in no) in
    let held = c.advance.new.self.held in
    let nothing : SettlesNothing c.lines.reader.allowed held = subst (λ (n : ℕ). SettlesNothing n held) kept.1 (ensured.undecided refl) in
    good_so_far (is_line Batch) (overlong_lines_are_bad Batch) (g.S.Source.left c.args.input.now) (g.S.Source.left c.lines.input) (g.S.Source.left c.advance.new.input) c.lines.reader held k.tells k.used kept.0 nothing

pub returns-in-Err-Limit-clause-limit : goal.returns-in-Err-Limit-clause-limit
returns-in-Err-Limit-clause-limit g c = λ _.
    let k = c.lines.invariant in
    let ensured = rw c.in-Err-Limit.field-0-is at c.in-Err-Limit.ensures in
    past_end (g.S.Source.left c.args.input.now) (g.S.Source.left c.lines.input) c.lines.number c.lines.digests c.lines.reader k.tells k.so_far (ensured.limit refl)

pub returns-in-Err-Overlong-clause-line : goal.returns-in-Err-Overlong-clause-line
returns-in-Err-Overlong-clause-line g c = λ n is.
    let k = c.lines.invariant in
    let ensured = rw c.in-Err-Overlong.field-0-is at c.in-Err-Overlong.ensures in
    let number : c.lines.number ≡ n = cc is in
    subst (FirstBad (g.S.Source.left c.args.input.now)) number
    (at_overlong (g.S.Source.left c.args.input.now) (g.S.Source.left c.lines.input) c.lines.number c.lines.digests c.lines.reader k.tells k.so_far (ensured.overlong refl))

pub returns-in-Ok-false-apply_line-clause-line : goal.returns-in-Ok-false-apply_line-clause-line
returns-in-Ok-false-apply_line-clause-line g c = λ n is.
    let k = c.lines.invariant in
    let gives = c.in-Ok-true.ensures.line (ap (λ (b : Bool). Ok b) c.in-Ok-true.field-0-test) in
    let bad : is_line Batch c.advance.new.self.line ≡ false = rw (← c.line.ensures) (c.in-Ok-false-apply_line.ensures.bad (ap (λ (b : Bool). Ok b) c.in-Ok-false-apply_line.field-0-test)) in
    let number : c.lines.number ≡ n = cc is in
    subst (FirstBad (g.S.Source.left c.args.input.now)) number
    (at_bad (g.S.Source.left c.args.input.now) (g.S.Source.left c.lines.input) (g.S.Source.left c.advance.new.input) c.lines.number c.lines.digests c.lines.reader c.advance.new.self k.tells c.advance.ensures.tells k.so_far gives bad)

pub lines-preserved : goal.lines-preserved
lines-preserved g c =
    let k = c.lines.invariant in
    let given = ap (λ (b : Bool). Ok b) c.in-Ok-true.field-0-test in
    let gives = c.in-Ok-true.ensures.line given in
    let shorter = c.in-Ok-true.ensures.shorter given in
    let lays = rw c.line.ensures at (c.in-Ok-true-apply_line.ensures.good (ap (λ (b : Bool). Ok b) c.in-Ok-true-apply_line.field-0-test)) in
    record {
      so_far = goes_on (g.S.Source.left c.args.input.now) (g.S.Source.left c.lines.input) (g.S.Source.left c.advance.new.input) c.lines.number c.lines.digests c.apply_line.new.digests c.lines.reader c.advance.new.self k.tells k.so_far gives lays;
      used = line_used (is_line Batch) (overlong_lines_are_bad Batch) (g.S.Source.left c.args.input.now) (g.S.Source.left c.lines.input) (g.S.Source.left c.advance.new.input) c.lines.reader c.advance.new.self k.tells k.used (c.in-Ok-true.ensures.takes given) (ap is_ok lays.is);
      room = omega (arith, k.room, shorter);
      ended = c.advance.ensures.ended;
      tells = (λ x. k.tells.0 (c.advance.ensures.tells.0 x), λ x. c.advance.ensures.tells.1 (k.tells.1 x));
      later = omega (arith, c.advance.ensures.later);
    }
