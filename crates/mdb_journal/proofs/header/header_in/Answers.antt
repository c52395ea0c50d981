use Rattle.std.proofs.Common.{◌≡◌, true, false, get_or, Ok, sym, ap, ◌∙◌, rules}
use Rattle.store_model.specs.Header.{NotAStore, Damaged, is_width}
use Rattle.mdb_journal.specs.Opening.{as_answer}
use Rattle.mdb_journal.proofs.HeaderFields.{wrong_name, wrong_width, wrong_zeros, wrong_generation, right}
use Rattle.mdb_journal.proofs.header.header_in.Goals as goal

pub returns-in-Some : goal.returns-in-Some
returns-in-Some c = sym (ap as_answer (wrong_name c.args.file c.args.bytes.now (c.in-Some.ensures.some (λ _. NotAStore c.args.file))))

pub returns-then-not-is_token_width : goal.returns-then-not-is_token_width
returns-then-not-is_token_width c =
    let width : is_width (get_or c.args.bytes.now 9 0) ≡ false = search rules in
    sym (ap as_answer (wrong_width c.args.file c.args.bytes.now c.requires (c.in_default.ensures.none (λ _. NotAStore c.args.file)) width))

pub returns-in-Some-first_wrong : goal.returns-in-Some-first_wrong
returns-in-Some-first_wrong c =
    let width : is_width (get_or c.args.bytes.now 9 0) ≡ true = search rules in
    sym (ap as_answer (wrong_zeros c.args.file c.args.bytes.now c.requires (c.in_default.ensures.none (λ _. NotAStore c.args.file)) width c.in-Some-first_wrong.at (c.in-Some-first_wrong.ensures.some (Damaged c.args.file))))

pub returns-then-generation-eq0 : goal.returns-then-generation-eq0
returns-then-generation-eq0 c =
    let width : is_width (get_or c.args.bytes.now 9 0) ≡ true = search rules in
    sym (ap as_answer (wrong_generation c.args.file c.args.bytes.now c.requires (c.in_default.ensures.none (λ _. NotAStore c.args.file)) width (c.in_default-first_wrong.ensures.none (Damaged c.args.file)) (sym c.generation_in-generation.ensures ∙ c.if-generation-eq0.true)))

pub returns : goal.returns
returns c =
    let width : is_width (get_or c.args.bytes.now 9 0) ≡ true = search rules in
    let number = c.generation_in-generation.ensures in
    let r = right c.args.file c.args.bytes.now c.requires (c.in_default.ensures.none (λ _. NotAStore c.args.file)) width (c.in_default-first_wrong.ensures.none (Damaged c.args.file)) (λ e. c.if-generation-eq0.false (number ∙ e)) in
    ap (λ n. Ok (record { width = get_or c.args.bytes.now 9 0; generation = n })) number ∙ sym (ap as_answer r)
