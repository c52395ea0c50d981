use Rattle.std.proofs.Common.{◌≡◌, length, take, arith, sym, subst, List, ℕ, ◌∙◌, ap, Ok}
use Rattle.std.proofs.lemmas.List.{take_all}
use Rattle.std.specs.Str.Lines.{strip_carriage_return}
use Rattle.base_model.specs.Streams.{AtEnd}
use Rattle.batch_text.specs.Stream.{NoNewline, SettlesNothing}
use Rattle.batch_text.proofs.Newlines.{none_held}
use Rattle.batch_text.proofs.HeldBytes.{pulls_on}
use Rattle.batch_text.proofs.LinesAhead.{held_settles_none}
use Rattle.batch_text.proofs.reader.fill.Goals as goal

pub returns-in_err-pull-clause-bytes : goal.returns-in_err-pull-clause-bytes
returns-in_err-pull-clause-bytes g c =
    let k = c.pulls.invariant in
    pulls_on c.args.held.now c.pulls.held c.pull.new.self (g.S.Source.left c.args.input.now) (g.S.Source.left c.pulls.input) (g.S.Source.left c.pull.new.input) k.tells k.bytes c.pull.ensures.bytes

pub returns-in_err-pull-clause-undecided : goal.returns-in_err-pull-clause-undecided
returns-in_err-pull-clause-undecided g c = λ _.
    let bytes = c.bytes-bytes.result.now in
    let none : NoNewline c.pulls.held = none_held c.pulls.held bytes c.min.result c.bytes-bytes.ensures.value (omega arith) c.in_default.ensures in
    let usable : take c.min.result bytes ≡ c.pulls.held = take_all c.min.result bytes (omega arith) ∙ c.bytes-bytes.ensures.value in
    let text : take c.text_len.result c.pulls.held ≡ strip_carriage_return c.pulls.held = subst (λ (x : List ℕ). take c.text_len.result x ≡ strip_carriage_return x) usable c.text_len.ensures.text in
    let size : length bytes ≡ length c.pulls.held = ap length c.bytes-bytes.ensures.value in
    subst (SettlesNothing c.args.allowed) (sym c.in_err-pull.ensures.kept)
    (held_settles_none c.args.allowed c.text_len.result c.pulls.held (omega (arith, c.if-allowed-bytes.false)) none text c.if-text_len-gt-LINE_LIMIT.false (omega (arith, c.text_len.ensures.within, ap length usable)))

pub returns-then-branch-eq0-clause-found : goal.returns-then-branch-eq0-clause-found
returns-then-branch-eq0-clause-found g c =
    let none : NoNewline c.pulls.held = none_held c.pulls.held c.bytes-bytes.result.now c.min.result c.bytes-bytes.ensures.value (omega arith) c.in_default.ensures in
    let size : length c.pull.new.self ≡ length c.pulls.held = omega (arith, c.in_ok-pull.ensures.count, c.if-branch-eq0.true) in
    let same : c.pull.new.self ≡ c.pulls.held = sym (take_all (length c.pulls.held) c.pull.new.self (omega arith)) ∙ c.in_ok-pull.ensures.front in
    (subst NoNewline (sym same) none, c.in_ok-pull.ensures.end (ap (λ (n : ℕ). Ok n) c.if-branch-eq0.true), omega (arith, ap length c.bytes-bytes.ensures.value, c.if-allowed-bytes.false))

pub returns-then-ended-clause-found : goal.returns-then-ended-clause-found
returns-then-ended-clause-found g c =
    let none : NoNewline c.pulls.held = none_held c.pulls.held c.bytes-bytes.result.now c.min.result c.bytes-bytes.ensures.value (omega arith) c.in_default.ensures in
    let same = c.pulls.invariant.alone c.if-ended.true in
    (none, subst (λ (input : _). AtEnd (g.S.Source.left input)) (sym same) (c.requires c.if-ended.true), omega (arith, ap length c.bytes-bytes.ensures.value, c.if-allowed-bytes.false))

pub pulls-preserved : goal.pulls-preserved
pulls-preserved g c =
    let k = c.pulls.invariant in
    let none : NoNewline c.pulls.held = none_held c.pulls.held c.bytes-bytes.result.now c.min.result c.bytes-bytes.ensures.value (omega arith) c.in_default.ensures in
    let size : length c.bytes-bytes.result.now ≡ length c.pulls.held = ap length c.bytes-bytes.ensures.value in
    let front : take (length c.bytes-bytes.result.now) c.pull.new.self ≡ c.pulls.held = rw size c.in_ok-pull.ensures.front in
    record {
      passed = omega (arith, c.in_ok-pull.ensures.count);
      usable = omega (arith, c.if-allowed-bytes.false);
      none = subst NoNewline (sym front) none;
      bytes = pulls_on c.args.held.now c.pulls.held c.pull.new.self (g.S.Source.left c.args.input.now) (g.S.Source.left c.pulls.input) (g.S.Source.left c.pull.new.input) k.tells k.bytes c.pull.ensures.bytes;
      tells = (λ x. k.tells.0 (c.pull.ensures.tells.0 x), λ x. c.pull.ensures.tells.1 (k.tells.1 x));
      alone = λ ended. let no : ⊥ = cc (ended, c.if-ended.false) in absurd no;
      later = omega (arith, c.pull.ensures.later);
    }
