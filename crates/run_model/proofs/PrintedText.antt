-- What an output took, one text after another.
use Rattle.std.proofs.Common.{◌≡◌, ℕ, ◌+◌, min, List, [], ◌++◌, length, take, Option, Some, None, sym, ◌∙◌, ap, subst, append_assoc, arith}
use Rattle.std.proofs.Math.Seq.{take-append-add}
use Rattle.std.proofs.Math.Nat.{min-le_right}
use Rattle.std.proofs.lemmas.List.{append-nil, take_all, take_min, take-append-le}
use Rattle.std.specs.Io.KnownBytes.{Appends}
use Rattle.base_model.specs.Streams.{AppendsPrefix}

-- nothing
pub nothing : (taken : Option (List ℕ)) → Appends taken taken []
nothing None = tt
nothing (Some a) = sym (append-nil a)

pub nothing_yet : (taken : Option (List ℕ)) (text : List ℕ) → AppendsPrefix taken taken text
nothing_yet taken text = (0, nothing taken)

-- a text, and then another
pub and_then : (s t : List ℕ) (old mid new : Option (List ℕ)) → Appends old mid s → Appends mid new t → Appends old new (s ++ t)
and_then s t None mid new first second = tt
and_then s t (Some a) None new first second = absurd first
and_then s t (Some a) (Some b) None first second = absurd second
and_then s t (Some a) (Some b) (Some d) first second = second ∙ ap (λ (l : List ℕ). l ++ t) first ∙ append_assoc a s t

-- the same text, said otherwise
pub same_text : {s t : List ℕ} (old new : Option (List ℕ)) → s ≡ t → Appends old new s → Appends old new t
same_text old new is = subst (λ (l : List ℕ). Appends old new l) is

pub same_prefix : {s t : List ℕ} (old new : Option (List ℕ)) → s ≡ t → AppendsPrefix old new s → AppendsPrefix old new t
same_prefix old new is = subst (λ (l : List ℕ). AppendsPrefix old new l) is

-- a whole text is one of its prefixes
pub whole : (text : List ℕ) (old new : Option (List ℕ)) → Appends old new text → AppendsPrefix old new text
whole text old new h = (length text, same_text old new (sym (take_all (length text) text (omega arith))) h)

-- a text, and then a prefix of another
pub then_prefix : (s t : List ℕ) (old mid new : Option (List ℕ)) → Appends old mid s → AppendsPrefix mid new t → AppendsPrefix old new (s ++ t)
then_prefix s t old mid new first second = (length s + second.0, same_text old new (sym (take-append-add s t second.0)) (and_then s (take second.0 t) old mid new first second.1))

-- a prefix of a text is one of more text
pub prefix_of_more : (s t : List ℕ) (old new : Option (List ℕ)) → AppendsPrefix old new s → AppendsPrefix old new (s ++ t)
prefix_of_more s t old new h = (min h.0 (length s), same_text old new (sym (take-append-le (min h.0 (length s)) s t (min-le_right h.0 (length s)) ∙ take_min h.0 s)) h.1)
