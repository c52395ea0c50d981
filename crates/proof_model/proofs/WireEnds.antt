-- The two ends of a form: its head is read and stands there, and nothing follows its last field.
use Rattle.std.proofs.Common.{◌≡◌, ℕ, ◌^◌, ◌≤◌, true, List, [], ◌∷◌, length, drop, Ok, refl, ap, ◌∙◌, arith, eqb, length-drop}
use Rattle.std.proofs.lemmas.Bool.Decides.{nat_tests}
use Rattle.std.proofs.lemmas.List.{nil_from_length}
use Rattle.std.proofs.Math.Nat.{pow-le-pow_right}
use Rattle.base_model.proofs.Fields.{got, IsRead, Stands, Stands-then}
use Rattle.base_model.proofs.Results.{ok_is, bind_ok, met}
use Rattle.trie_model.specs.Bits.{IsWidth}
use Rattle.proof_model.specs.Wire.{Version, Kind, Trailing, wrong, version, byte_at, head_at, all_read}
use Rattle.proof_model.proofs.WireFields.{byte_at-IsRead, byte_at-Stands}

-- bytes from their first place on
pub start : (x : List ℕ) → drop 0 x ≡ x
start [] = refl
start (b ∷ x) = refl

-- a token has at most eight bits
pub factor_small : (w : ℕ) → IsWidth w → 2 ^ w ≤ 256
factor_small w h = pow-le-pow_right {n = 2} (omega arith) {i = w} {j = 8} (width_small w h)
  where
    width_small : (w : ℕ) → IsWidth w → w ≤ 8
    width_small w h = grind (arith, h.1.1)

-- the head of a form is read
pub head_at-IsRead : (second : ℕ) (bytes rest : List ℕ) → bytes ≡ version ∷ second ∷ rest → IsRead (head_at second bytes) second bytes rest
unfolding head_at
head_at-IsRead second bytes rest e =
    let a = byte_at-IsRead Version version bytes 0 (second ∷ rest) (omega arith) (start bytes ∙ e) in
    let b = byte_at-IsRead Kind second bytes a.place rest a.inside a.left in
    record { place = b.place; is = rw a.is b.is; left = b.left; inside = b.inside }

-- a head that was read stands there
pub head_at-Stands : (second : ℕ) (bytes : List ℕ) (x next : ℕ) → head_at second bytes ≡ got x next → Stands bytes 0 (version ∷ second ∷ []) next
unfolding head_at
head_at-Stands second bytes x next e =
    let a = bind_ok (byte_at Version version bytes 0) (λ first. byte_at Kind second bytes first.1) (x, next) e in
    let s = byte_at-Stands Version version bytes 0 a.0.0 a.0.1 a.1 in
    let t = byte_at-Stands Kind second bytes a.0.1 x next a.2 in
    Stands-then bytes 0 a.0.1 next (version ∷ []) (second ∷ []) s.0 t.0

-- where nothing is left, all was read
pub all_read-end : {A : Type 0} (bytes : List ℕ) (x : A) (p : ℕ) → drop p bytes ≡ [] → p ≤ length bytes → all_read bytes (x, p) ≡ Ok x
unfolding all_read
all_read-end bytes x p e h = let l = ap length e in let k : p ≡ length bytes = omega (arith, l, h, length-drop p bytes) in let t : eqb p (length bytes) ≡ true = grind (arith, nat_tests) in rw t refl

-- where all was read, nothing is left
pub all_read-nil : {A : Type 0} (bytes : List ℕ) (x y : A) (p : ℕ) → all_read bytes (x, p) ≡ Ok y → (x ≡ y) × (drop p bytes ≡ [])
unfolding all_read
all_read-nil bytes x y p e =
    let g = met (eqb p (length bytes)) (wrong Trailing p) (Ok x) y e in
    (ok_is x y g.1, nil_from_length (drop p bytes) (omega (arith, length-drop p bytes, the_end p (length bytes) g.0)))
  where
    the_end : (p n : ℕ) → eqb p n ≡ true → p ≡ n
    the_end p n t = grind (arith, nat_tests)
