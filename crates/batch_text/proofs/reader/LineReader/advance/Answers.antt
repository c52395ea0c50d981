use Rattle.std.proofs.Common.{◌≡◌, ◌<◌, length, take, drop, arith, subst, List, ℕ, rules, ap, refl}
use Rattle.std.specs.Prelude.{IsErrOf}
use Rattle.std.specs.Str.Lines.{strip_carriage_return}
use Rattle.std.proofs.lemmas.List.{take_all, drop_all}
use Rattle.batch_text.specs.Stream.{Pulls}
use Rattle.batch_text.specs.declared.reader.ReaderFault.TheVariants.{Limit, Overlong}
use Rattle.batch_text.specs.contracts.reader.LineReader.{the_view}
use Rattle.batch_text.proofs.LinesAhead.{gives_at, gives_last, takes_at, takes_last, past, text_at}
use Rattle.batch_text.proofs.OverlongLines.{begins_overlong}
use Rattle.batch_text.proofs.reader.LineReader.advance.Goals as goal

pub returns-in_err-at-clause-limit : goal.returns-in_err-at-clause-limit
returns-in_err-at-clause-limit g c = λ is.
    let left = g.S.Source.left c.args.input.now in
    let left' = g.S.Source.left c.fill.new.input in
    let held = c.fill.new.held in
    let pulls : Pulls (drop c.self.inside.used c.self.inside.held) left held left' = subst (λ (x : List ℕ). Pulls x left held left') c.skip.ensures c.fill.ensures.bytes in
    let fault : IsErrOf c.fill.result Limit = search rules in
    let found = c.fill.ensures.limit fault in
    rw (← c.self.view_is) (past (the_view c.self.inside) left left' held pulls c.fill.ensures.tells found.0 found.1 found.2)

pub returns-in_err-at-clause-overlong : goal.returns-in_err-at-clause-overlong
returns-in_err-at-clause-overlong g c = λ is.
    let left = g.S.Source.left c.args.input.now in
    let left' = g.S.Source.left c.fill.new.input in
    let held = c.fill.new.held in
    let pulls : Pulls (drop c.self.inside.used c.self.inside.held) left held left' = subst (λ (x : List ℕ). Pulls x left held left') c.skip.ensures c.fill.ensures.bytes in
    let fault : IsErrOf c.fill.result Overlong = search rules in
    let found = c.fill.ensures.overlong fault in
    rw (← c.self.view_is) (begins_overlong (the_view c.self.inside) left left' held pulls c.fill.ensures.tells found.0 found.1)

pub returns-in-Some-clause-line : goal.returns-in-Some-clause-line
returns-in-Some-clause-line g c = λ _.
    let left = g.S.Source.left c.args.input.now in
    let left' = g.S.Source.left c.fill.new.input in
    let held = c.fill.new.held in
    let pulls : Pulls (drop c.self.inside.used c.self.inside.held) left held left' = subst (λ (x : List ℕ). Pulls x left held left') c.skip.ensures c.fill.ensures.bytes in
    let found = rw c.in-Some.is at c.in_ok-at.ensures.found in
    let text : take c.text_len-self-inside.result held ≡ strip_carriage_return (take c.in-Some.at held) =
    text_at held c.bytes.result.now c.text_len-self-inside.result c.in-Some.at c.bytes.ensures.value c.text_len-self-inside.ensures.within c.text_len-self-inside.ensures.text in
    rw (← c.self.view_is) (gives_at (the_view c.self.inside) _ left left' held c.in-Some.at pulls found refl refl text)

pub returns-in-Some-clause-takes : goal.returns-in-Some-clause-takes
returns-in-Some-clause-takes g c = λ _.
    let left = g.S.Source.left c.args.input.now in
    let left' = g.S.Source.left c.fill.new.input in
    let held = c.fill.new.held in
    let pulls : Pulls (drop c.self.inside.used c.self.inside.held) left held left' = subst (λ (x : List ℕ). Pulls x left held left') c.skip.ensures c.fill.ensures.bytes in
    let found = rw c.in-Some.is at c.in_ok-at.ensures.found in
    let text : take c.text_len-self-inside.result held ≡ strip_carriage_return (take c.in-Some.at held) =
    text_at held c.bytes.result.now c.text_len-self-inside.result c.in-Some.at c.bytes.ensures.value c.text_len-self-inside.ensures.within c.text_len-self-inside.ensures.text in
    rw (← c.self.view_is) (takes_at (the_view c.self.inside) _ left left' held c.in-Some.at pulls found refl refl text)

pub returns-else-rest-eq0-clause-line : goal.returns-else-rest-eq0-clause-line
returns-else-rest-eq0-clause-line g c = λ _.
    let left = g.S.Source.left c.args.input.now in
    let left' = g.S.Source.left c.fill.new.input in
    let held = c.fill.new.held in
    let pulls : Pulls (drop c.self.inside.used c.self.inside.held) left held left' = subst (λ (x : List ℕ). Pulls x left held left') c.skip.ensures c.fill.ensures.bytes in
    let found = rw c.in-None.is at c.in_ok-at.ensures.found in
    let size : length c.bytes-rest.result.now ≡ length held = ap length c.bytes-rest.ensures.value in
    let some : 0 < length held = omega (arith, c.if-rest-eq0.false) in
    rw (← c.self.view_is) (gives_last (the_view c.self.inside) _ left left' held pulls found some (drop_all (length c.bytes-rest.result.now) held (omega arith)) (take_all (length c.bytes-rest.result.now) held (omega arith)))

pub returns-else-rest-eq0-clause-takes : goal.returns-else-rest-eq0-clause-takes
returns-else-rest-eq0-clause-takes g c = λ _.
    let left = g.S.Source.left c.args.input.now in
    let left' = g.S.Source.left c.fill.new.input in
    let held = c.fill.new.held in
    let pulls : Pulls (drop c.self.inside.used c.self.inside.held) left held left' = subst (λ (x : List ℕ). Pulls x left held left') c.skip.ensures c.fill.ensures.bytes in
    let found = rw c.in-None.is at c.in_ok-at.ensures.found in
    let size : length c.bytes-rest.result.now ≡ length held = ap length c.bytes-rest.ensures.value in
    rw (← c.self.view_is) (takes_last (the_view c.self.inside) _ left left' held (length c.bytes-rest.result.now) pulls found size (drop_all (length c.bytes-rest.result.now) held (omega arith)) refl (take_all (length c.bytes-rest.result.now) held (omega arith)))
