use Rattle.std.proofs.Common.{◌≡◌, ℕ, zero, suc, ◌-◌, ◌*◌, ◌/◌, ◌%◌, ◌^◌, ◌<◌, ◌≤◌, Bool, List, [], ◌∷◌, ◌++◌, length, length-take, get_or, take, refl, sym, ap, ◌∙◌, arith}
use Rattle.std.proofs.Math.Nat.{min-eq_left}
use Rattle.std.proofs.lemmas.List.{take-take, append-nil}
use Rattle.base_model.proofs.BitsAt.{packed-take, last_kept}
use Rattle.trie_model.specs.Bits.{bits_of_bytes, packed}
use Rattle.bit_keys.proofs.KeyFacts.{IsKey, key_bits, key_bytes}

-- the byte that keeps its r highest bits
kept_byte : (r x : ℕ) → 0 < r → r < 8 → (x / (1 * 2 ^ (8 - r) % 256) * (1 * 2 ^ (8 - r) % 256)) ∷ [] ≡ last_kept r x
kept_byte zero x h k = absurd (omega arith)
kept_byte (suc zero) x h k = refl
kept_byte (suc (suc zero)) x h k = refl
kept_byte (suc (suc (suc zero))) x h k = refl
kept_byte (suc (suc (suc (suc zero)))) x h k = refl
kept_byte (suc (suc (suc (suc (suc zero))))) x h k = refl
kept_byte (suc (suc (suc (suc (suc (suc zero)))))) x h k = refl
kept_byte (suc (suc (suc (suc (suc (suc (suc zero))))))) x h k = refl
kept_byte (suc (suc (suc (suc (suc (suc (suc (suc r)))))))) x h k = absurd (omega arith)

-- the bytes of a cut with a part of a byte at its end
pub with_part : (n x : ℕ) (bs vs ws : List ℕ) → 0 < n % 8 → ws ≡ take (n / 8) bs → x ≡ get_or bs (n / 8) 0 → vs ≡ ws ++ (x / (1 * 2 ^ (8 - n % 8) % 256) * (1 * 2 ^ (8 - n % 8) % 256)) ∷ [] → vs ≡ take (n / 8) bs ++ last_kept (n % 8) (get_or bs (n / 8) 0)
with_part n x bs vs ws r e f g = g ∙ ap (λ y. ws ++ y) (kept_byte (n % 8) x r (omega arith)) ∙ ap (λ x. ws ++ last_kept (n % 8) x) f ∙ ap (λ ws. ws ++ last_kept (n % 8) (get_or bs (n / 8) 0)) e

-- and of one without
pub without_part : (n : ℕ) (bs vs : List ℕ) → n % 8 ≤ 0 → vs ≡ take (n / 8) bs → vs ≡ take (n / 8) bs ++ last_kept (n % 8) (get_or bs (n / 8) 0)
without_part n bs vs r e = let z : 0 ≡ n % 8 = omega arith in e ∙ sym (append-nil (take (n / 8) bs)) ∙ ap (λ r. take (n / 8) bs ++ last_kept r (get_or bs (n / 8) 0)) z

-- a cut lies inside of the bytes
cut_fits : (n m : ℕ) (bs : List ℕ) (k : List Bool) → IsKey m bs k → n ≤ length k → n ≤ 8 * length bs
cut_fits n m bs k e h = omega (arith, h, key_bits m bs k e, e.1)

-- the bytes of the first n bits
pub cut_bytes : (n m : ℕ) (bs vs : List ℕ) (k : List Bool) → IsKey m bs k → n ≤ length k → vs ≡ take (n / 8) bs ++ last_kept (n % 8) (get_or bs (n / 8) 0) → vs ≡ packed (take n k)
cut_bytes n m bs vs k e h f =
    f ∙ sym (packed-take bs n (key_bytes m bs k e) (cut_fits n m bs k e h))
    ∙ ap packed (sym (take-take n m (bits_of_bytes bs) (omega (arith, h, key_bits m bs k e))) ∙ ap (take n) e.0)

-- how many bits a cut has
pub length-cut : (n : ℕ) (k : List Bool) → n ≤ length k → n ≡ length (take n k)
length-cut n k h = sym (length-take n k ∙ min-eq_left h)
