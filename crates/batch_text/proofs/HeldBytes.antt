-- Steps that take bytes of a source, one after another.
use Rattle.std.proofs.Common.{◌≡◌, ℕ, ◌+◌, ◌≤◌, List, ◌++◌, length, take, Option, Some, None, refl, sym, ◌∙◌, ap, arith, append_assoc, length-append}
use Rattle.std.proofs.Math.Seq.{take-append-add}
use Rattle.std.proofs.lemmas.List.{take-take, take-append-le}
use Rattle.std.specs.Io.KnownBytes.{Consumes, Keeps}
use Rattle.base_model.specs.Faults.{TellsAlike}
use Rattle.batch_text.specs.Stream.{Pulls}

-- two steps are one
pub pulls_on : (h0 h1 h2 : List ℕ) (l0 l1 l2 : Option (List ℕ)) → TellsAlike l0 l1 → Pulls h0 l0 h1 l1 → Pulls h1 l1 h2 l2 → Pulls h0 l0 h2 l2
pulls_on h0 h1 h2 None l1 l2 tells first second = tt
pulls_on h0 h1 h2 (Some a) None l2 tells first second = let no : ⊥ = cc (tells.1 refl) in absurd no
pulls_on h0 h1 h2 (Some a) (Some b) None tells first second = tt
pulls_on h0 h1 h2 (Some a) (Some b) (Some d) tells first second = second ∙ first

-- where nothing is read, nothing is lost
pub pulls_none : (old now : List ℕ) (left left' : Option (List ℕ)) → now ≡ old → Keeps left left' → Pulls old left now left'
pulls_none old now None left' is kept = tt
pulls_none old now (Some l) None is kept = tt
pulls_none old now (Some l) (Some l') is kept = cc

-- bytes that were read stand behind those that are held
behind : (old read now : List ℕ) (left left' : Option (List ℕ)) → now ≡ old ++ read → Consumes left left' read → Pulls old left now left'
behind old read now None left' is took = tt
behind old read now (Some l) None is took = tt
behind old read now (Some l) (Some l') is took = ap (λ (x : List ℕ). x ++ l') is ∙ append_assoc old read l' ∙ ap (λ (x : List ℕ). old ++ x) (sym took)

-- a read into the room behind the bytes that are held, of which what was not filled is cut off
pub pulls_behind : (old front into over after now : List ℕ) (held count size : ℕ) (left left' : Option (List ℕ)) → now ≡ take (held + count) (take size ((front ++ (into ++ over)) ++ after))
    → front ≡ old → held ≡ length old → count ≤ length into → held + count ≤ size → Consumes left left' (take count into) → Pulls old left now left'
pulls_behind old front into over after now held count size left left' is same old_size within room took =
    let fits : length front ≡ held = ap length same ∙ sym old_size in
    let all = front ++ (into ++ over) in
    let most : held + count ≤ length all = omega (arith, length-append front (into ++ over), length-append into over) in
    let cut : take (held + count) (take size (all ++ after)) ≡ take (held + count) all = take-take (held + count) size (all ++ after) room ∙ take-append-le (held + count) all after most in
    let split : take (held + count) all ≡ front ++ take count (into ++ over) = ap (λ (n : ℕ). take (n + count) all) (sym fits) ∙ take-append-add front (into ++ over) count in
    let first : take count (into ++ over) ≡ take count into = take-append-le count into over within in
    behind old (take count into) now left left' (is ∙ cut ∙ split ∙ ap (λ (x : List ℕ). front ++ x) first ∙ ap (λ (x : List ℕ). x ++ take count into) same) took
