-- The bounds of a range, kept as keys.
use Rattle.std.proofs.Common.{◌≡◌, ℕ, suc, ◌<◌, Bool, true, List, [], ◌∷◌, get_or, Option, Some, None, option_map, refl, sym, ap, ◌∙◌, subst}
use Rattle.std.specs.Prelude.{IfSome}
use Rattle.base_model.specs.Bytes.{AreBytes}
use Rattle.base_model.proofs.PackedBits.{packed-bits_of_bytes, bytes-small}
use Rattle.trie_model.specs.Bits.{bits_of_bytes, packed}
use Rattle.trie_model.specs.Maps.{limits}
use Rattle.range_model.specs.Ranges.{IsRange, are_in_order}
use Rattle.bit_keys.specs.Ranges.{range_of, IsShort, IsOfBytes, AreKept}

-- bytes are bytes, place by place
pub are_bytes : (bs : List ℕ) → ((i : ℕ) → get_or bs i 0 < 256) → AreBytes bs
are_bytes [] each = tt
are_bytes (b ∷ bs) each = (each 0, are_bytes bs (λ i. each (suc i)))

-- the bits of bytes are those of whole bytes
of_bytes : (b : Option (List ℕ)) → IfSome b AreBytes → IfSome (option_map bits_of_bytes b) IsOfBytes
of_bytes None h = tt
of_bytes (Some b) h = ap bits_of_bytes (packed-bits_of_bytes b (bytes-small b h))

-- a bound is read back from its key
pub read_back : (b : Option (List ℕ)) → IfSome b AreBytes → option_map packed (option_map bits_of_bytes b) ≡ b
read_back None h = refl
read_back (Some b) h = ap Some (packed-bits_of_bytes b (bytes-small b h))

-- bounds that were tested are those of a range
pub tested : (s e : Option (List ℕ)) → IfSome s AreBytes → IfSome e AreBytes → IsShort s → IsShort e → are_in_order s e ≡ true → IsRange limits (range_of s e)
tested s e p q m n o = record { start_bytes = p; end_bytes = q; start_short = m; end_short = n; order = o }

-- and may be kept as keys
pub kept : (s e : Option (List ℕ)) (a b : Option (List Bool)) → a ≡ option_map bits_of_bytes s → b ≡ option_map bits_of_bytes e → IfSome s AreBytes → IfSome e AreBytes → IsShort s → IsShort e → are_in_order s e ≡ true → AreKept a b
kept s e a b f g p q m n o = subst2 a b f g (record {
  start_whole = of_bytes s p;
  end_whole = of_bytes e q;
  range = back s e (read_back s p) (read_back e q) (tested s e p q m n o);
})
  where
    back : (s e : Option (List ℕ)) → option_map packed (option_map bits_of_bytes s) ≡ s → option_map packed (option_map bits_of_bytes e) ≡ e → IsRange limits (range_of s e) → IsRange limits (range_of (option_map packed (option_map bits_of_bytes s)) (option_map packed (option_map bits_of_bytes e)))
    back s e u v h = subst (λ x. IsRange limits (range_of x (option_map packed (option_map bits_of_bytes e)))) (sym u) (subst (λ x. IsRange limits (range_of s x)) (sym v) h)

    subst2 : (a b : Option (List Bool)) → a ≡ option_map bits_of_bytes s → b ≡ option_map bits_of_bytes e → AreKept (option_map bits_of_bytes s) (option_map bits_of_bytes e) → AreKept a b
    subst2 a b f g h = subst (λ x. AreKept x b) (sym f) (subst (AreKept (option_map bits_of_bytes s)) (sym g) h)

-- a range that keeps them is the range of these bounds
pub seen : (s e : Option (List ℕ)) (a b : Option (List Bool)) → a ≡ option_map bits_of_bytes s → b ≡ option_map bits_of_bytes e → IfSome s AreBytes → IfSome e AreBytes → range_of (option_map packed a) (option_map packed b) ≡ range_of s e
seen s e a b f g p q =
    ap (λ x. range_of x (option_map packed b)) (ap (option_map packed) f ∙ read_back s p) ∙ ap (range_of s) (ap (option_map packed) g ∙ read_back e q)
