-- Pieces that a sink took, one after another.
use Rattle.std.proofs.Common.{◌≡◌, ℕ, ◌+◌, ◌-◌, List, ◌++◌, length, take, drop, Option, Some, None, sym, ◌∙◌, ap, append_assoc}
use Rattle.std.proofs.Math.Seq.{take-add}
use Rattle.std.proofs.lemmas.List.{take_rest}
use Rattle.std.specs.Io.KnownBytes.{Appends}
use Rattle.base_model.specs.Faults.{TellsAlike}

-- a piece behind those that were taken
pub wrote_on : (text : List ℕ) (done n : ℕ) (old mid new : Option (List ℕ)) → TellsAlike old mid → Appends old mid (take done text) → Appends mid new (take n (take (length text - done) (drop done text))) → Appends old new (take (done + n) text)
wrote_on text done n None mid new tells first second = tt
wrote_on text done n (Some a) None new tells first second = absurd first
wrote_on text done n (Some a) (Some b) None tells first second = absurd second
wrote_on text done n (Some a) (Some b) (Some d) tells first second =
    let piece : take n (take (length text - done) (drop done text)) ≡ take n (drop done text) = ap (λ (l : List ℕ). take n l) (take_rest text done) in
    second ∙ ap (λ (l : List ℕ). l ++ take n (take (length text - done) (drop done text))) first
    ∙ ap (λ (l : List ℕ). (a ++ take done text) ++ l) piece ∙ append_assoc a (take done text) (take n (drop done text)) ∙ ap (λ (l : List ℕ). a ++ l) (sym (take-add done n text))
