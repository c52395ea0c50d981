-- Of things outside that tell what they hold, and of counts of faults.
use Rattle.std.proofs.Common.{ℕ, ◌≤◌, List, [], length, Option, Some, None, sym, le_refl, arith}
use Rattle.std.specs.Prelude.{IfSome}
use Rattle.std.specs.Io.KnownBytes.{Appends}
use Rattle.std.proofs.lemmas.List.{take_all, append-nil}
use Rattle.base_model.specs.Faults.{Rose}
use Rattle.base_model.specs.Streams.{AppendsPrefix}

-- of an input that tells
pub where_told : (P Q : List ℕ → Type 0) (left : Option (List ℕ)) → ((bytes : List ℕ) → P bytes → Q bytes) → IfSome left P → IfSome left Q
where_told P Q None gives h = tt
where_told P Q (Some bytes) gives h = gives bytes h

pub always : (Q : List ℕ → Type 0) (left : Option (List ℕ)) → ((bytes : List ℕ) → Q bytes) → IfSome left Q
always Q None holds = tt
always Q (Some bytes) holds = holds bytes

-- an output that was not written to took nothing
pub took_nothing : (taken : Option (List ℕ)) → Appends taken taken []
took_nothing None = tt
took_nothing (Some a) = sym (append-nil a)

-- a text is a prefix of itself
pub whole : (taken taken' : Option (List ℕ)) (text : List ℕ) → Appends taken taken' text → AppendsPrefix taken taken' text
whole taken taken' text h = (length text, rw (take_all (length text) text (le_refl (length text))) h)

-- a count that rose at last rose
pub rose_at_last : (a b c : ℕ) → a ≤ b → Rose b c → Rose a c
rose_at_last a b c le h = grind arith

-- a count that rose at first rose
pub rose_at_first : (a b c : ℕ) → Rose a b → b ≤ c → Rose a c
rose_at_first a b c h le = grind arith
