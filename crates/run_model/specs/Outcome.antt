-- What a run comes to where nothing outside fails and memory lasts: how it ends, and the text that is printed by then.
use Rattle.std.specs.Prelude.{◌≡◌, ◌⊎◌, ℕ, List, [], ◌++◌, Option, None, IfSome, Result}
use Rattle.std.specs.Io.KnownBytes.{Appends}
use Rattle.base_model.specs.Faults.{Rose}
use Rattle.base_model.specs.Streams.{AppendsPrefix}
use Rattle.trie_model.specs.Maps.{Map}
use Rattle.store_model.specs.Refusals.{Refusal}
use Rattle.run_model.specs.OutsideThings.{Outside}
use Rattle.run_model.specs.End.{End, NoMemory}

pub record Outcome : Type 0 where
  pub end : End
  pub text : List ℕ

-- a run that ends so, and prints nothing
abbrev pub silent : End → Outcome
silent end = record { end = end; text = [] }

-- where the input tells its bytes, the outcome on all of them ends so
abbrev pub EndsAs : (List ℕ → Outcome) → Outside → End → Type 0
EndsAs outcome_on before end = IfSome before.input.left (λ bytes. (outcome_on bytes).end ≡ end)

-- the output took exactly the text of the outcome
abbrev pub Prints : (List ℕ → Outcome) → Outside → Outside → Type 0
Prints outcome_on before after = IfSome before.input.left (λ bytes. Appends before.output.taken after.output.taken (outcome_on bytes).text)

-- the output took a prefix of that text
abbrev pub PrintsPrefix : (List ℕ → Outcome) → Outside → Outside → Type 0
PrintsPrefix outcome_on before after = IfSome before.input.left (λ bytes. AppendsPrefix before.output.taken after.output.taken (outcome_on bytes).text)

-- the output took nothing
abbrev pub PrintsNothing : Outside → Outside → Type 0
PrintsNothing before after = Appends before.output.taken after.output.taken []

-- the bytes that the input gave decide nothing, so that the outcome hangs on those that it has left
abbrev pub IsUndecided : {A : Type 0} → (List ℕ → Option A) → Outside → Outside → Type 0
IsUndecided decided_on before after =
    IfSome before.input.left (λ bytes. IfSome after.input.left (λ rest. (given : List ℕ) × (bytes ≡ given ++ rest) × (decided_on given ≡ None)))

-- memory ran out, or the run ended as its outcome says and printed its text
abbrev pub CameTo : Outcome → Outside → Outside → End → Type 0
CameTo outcome before after end = (end ≡ NoMemory) ⊎ ((end ≡ outcome.end) × Appends before.output.taken after.output.taken outcome.text)

-- Where the input tells its bytes and its count of faults and the output's don't rise, the run came to the outcome on these
-- bytes, for each map, or refusal, of the store that the command needs.
abbrev pub IsComplete : (Outside → Outside → Result Map Refusal → Type 0) → (Result Map Refusal → List ℕ → Outcome) → Outside → Outside → End → Type 0
IsComplete needs outcome_on before after end =
    (Rose before.input.faults after.input.faults → ⊥) → (Rose before.output.faults after.output.faults → ⊥)
    → IfSome before.input.left (λ bytes. (found : Result Map Refusal) → needs before after found → CameTo (outcome_on found bytes) before after end)
