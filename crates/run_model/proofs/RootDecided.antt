-- What the first bytes of an input decide of `root`.
use Rattle.std.proofs.Common.{◌≡◌, ℕ, Bool, true, false, nat_le, List, ◌++◌, length, take, refl, sym, ap, ◌∙◌, Option, Some, None, arith, length-append}
use Rattle.std.proofs.lemmas.Bool.{leb-true, leb-false, lt-leb}
use Rattle.std.proofs.lemmas.List.{take_all}
use Rattle.text_model.specs.Lines.{input_limit, settled_lines, lines_within}
use Rattle.text_model.specs.ReadLine.{Batch, is_line}
use Rattle.text_model.specs.MapOfLines.{bad_line}
use Rattle.text_model.specs.Texts.{Input}
use Rattle.text_model.proofs.LinesWithin.{overlong_lines_are_bad}
use Rattle.text_model.proofs.SettledLines.{bad_within, past_limit, whole_lines}
use Rattle.run_model.specs.End.{BadLine, Limit}
use Rattle.run_model.specs.Outcome.{Outcome, silent}
use Rattle.run_model.specs.Root.{root_outcome, decided_of, root_decided}
use Rattle.run_model.specs.Laws.{UndecidedRootFinishes}

-- what is decided of `root` stays
pub root_stays : (w : ℕ) (front rest : List ℕ) (o : Outcome) → root_decided front ≡ Some o → root_outcome w (front ++ rest) ≡ o
root_stays w front rest o = go (bad_line (settled_lines (take input_limit front))) (nat_le (length front) input_limit) refl refl
  where
    go : (bad : Option ℕ) (b : Bool) → bad_line (settled_lines (take input_limit front)) ≡ bad → nat_le (length front) input_limit ≡ b → decided_of bad b ≡ Some o → root_outcome w (front ++ rest) ≡ o
    go (Some n) b bad is h =
        let same : silent (BadLine n) ≡ o = cc h in
        let stays = bad_within (is_line Batch) (overlong_lines_are_bad Batch) input_limit front rest n bad in
        rw stays same
    go None true bad is h = let no : ⊥ = cc h in absurd no
    go None false bad is h =
        let same : silent (Limit Input) ≡ o = cc h in
        let lt = leb-false (length front) input_limit is in
        let none : bad_line (lines_within input_limit (front ++ rest)) ≡ None = ap bad_line (past_limit input_limit front rest lt) ∙ bad in
        let over : nat_le (length (front ++ rest)) input_limit ≡ false = lt-leb (length (front ++ rest)) input_limit (omega (arith, length-append front rest)) in
        rw (none, over) same

-- where nothing is decided no line is bad and the bytes are within the limit
none_decided : (bad : Option ℕ) (b : Bool) → decided_of bad b ≡ None → (bad ≡ None) × (b ≡ true)
none_decided (Some n) b h = let no : ⊥ = cc h in absurd no
none_decided None true h = (refl, refl)
none_decided None false h = let no : ⊥ = cc h in absurd no

pub undecided_root_finishes : UndecidedRootFinishes
undecided_root_finishes w front h whole =
    let none = none_decided (bad_line (settled_lines (take input_limit front))) (nat_le (length front) input_limit) h in
    let all : take input_limit front ≡ front = take_all input_limit front (leb-true (length front) input_limit none.1) in
    let rows : lines_within input_limit front ≡ settled_lines (take input_limit front) = rw none.1 (whole_lines front whole ∙ ap settled_lines (sym all)) in
    let good : bad_line (lines_within input_limit front) ≡ None = ap bad_line rows ∙ none.0 in
    rw (good, none.1) refl
