-- The bytes that are filled in around a payload.
use Rattle.std.proofs.Common.{◌≡◌, ℕ, ◌+◌, ◌-◌, ◌≤◌, List, [], ◌∷◌, ◌++◌, length, take, drop, slice_set, refl, sym, ap, ◌∙◌, arith}
use Rattle.std.proofs.lemmas.List.{append-nil, drop_all}
use Rattle.byteorder.specs.Endian.{big_bytes}
use borrow.Rule.Slice.PartMut.{put_mid, mid_of}
use Rattle.store_model.specs.Laws.{gated}
use Rattle.mdb_journal.specs.Journal.{record_in, payload_in}

-- a write at the last place
set_last : (x : ℕ) (rest : List ℕ) (b : ℕ) → slice_set (x ∷ rest) (length rest) b ≡ take (length rest) (x ∷ rest) ++ b ∷ []
set_last x [] b = refl
set_last x (y ∷ rest) b = ap (λ l. x ∷ l) (set_last y rest b)

take_whole : (xs : List ℕ) (n : ℕ) → n ≡ length xs → take n xs ≡ xs
take_whole xs n e = ap (λ n. take n xs) e ∙ all xs
  where
    all : (xs : List ℕ) → take (length xs) xs ≡ xs
    all [] = refl
    all (x ∷ xs) = ap (λ l. x ∷ l) (all xs)

-- kind, length and gate, each written at its place
pub filled : (room : List ℕ) (kind n : ℕ) (buf : List ℕ) → 6 ≤ length room → n ≡ length (payload_in room)
    → buf ≡ big_bytes 4 n ++ drop 4 (mid_of 1 (length (slice_set room 0 kind) - 1) (slice_set room 0 kind))
    → slice_set (put_mid 1 (length (slice_set room 0 kind) - 1) (slice_set room 0 kind) buf) (length room - 1) 0 ≡ gated (record_in kind room)
filled [] kind n buf long count is = absurd (omega arith)
filled (a ∷ []) kind n buf long count is = absurd (omega arith)
filled (a ∷ b ∷ []) kind n buf long count is = absurd (omega arith)
filled (a ∷ b ∷ c ∷ []) kind n buf long count is = absurd (omega arith)
filled (a ∷ b ∷ c ∷ d ∷ []) kind n buf long count is = absurd (omega arith)
filled (a ∷ b ∷ c ∷ d ∷ e ∷ []) kind n buf long count is = absurd (omega arith)
filled (a ∷ b ∷ c ∷ d ∷ e ∷ x ∷ t) kind n buf long count is =
    let room = a ∷ b ∷ c ∷ d ∷ e ∷ x ∷ t in
    let rest : List ℕ = b ∷ c ∷ d ∷ e ∷ x ∷ t in
    let k : length (kind ∷ rest) - 1 ≡ length rest = omega arith in
    let mid : mid_of 1 (length (kind ∷ rest) - 1) (kind ∷ rest) ≡ rest = take_whole rest (length (kind ∷ rest) - 1) k in
    let buf_is : buf ≡ big_bytes 4 n ++ x ∷ t = is ∙ ap (λ l. big_bytes 4 n ++ drop 4 l) mid in
    let none : drop (length (kind ∷ rest) - 1) rest ≡ [] = drop_all (length (kind ∷ rest) - 1) rest (omega (arith, k)) in
    let whole : put_mid 1 (length (kind ∷ rest) - 1) (kind ∷ rest) buf ≡ kind ∷ (big_bytes 4 n ++ x ∷ t) = ap (λ l. kind ∷ l) (ap (λ l. buf ++ l) none ∙ append-nil buf ∙ buf_is) in
    let last : length room - 1 ≡ 5 + length t = omega arith in
    let payload : length room - 6 ≡ length t = omega arith in
    ap (λ l. slice_set l (length room - 1) 0) whole
    ∙ ap (λ i. slice_set (kind ∷ (big_bytes 4 n ++ x ∷ t)) i 0) last
    ∙ five kind n
    ∙ ap (λ k. kind ∷ (big_bytes 4 k ++ (take (length t) (x ∷ t) ++ 0 ∷ []))) count
    ∙ ap (λ k. kind ∷ (big_bytes 4 (length (payload_in room)) ++ (take k (x ∷ t) ++ 0 ∷ []))) (sym payload)
  where
    five : (kind n : ℕ) → slice_set (kind ∷ (big_bytes 4 n ++ x ∷ t)) (5 + length t) 0 ≡ kind ∷ (big_bytes 4 n ++ (take (length t) (x ∷ t) ++ 0 ∷ []))
    five kind n =
        let i : 5 + length t ≡ length (kind ∷ (big_bytes 4 n ++ t)) = omega arith in
        ap (λ i. slice_set (kind ∷ (big_bytes 4 n ++ x ∷ t)) i 0) i ∙ ap (λ l. kind ∷ (big_bytes 4 n ++ l)) (set_last x t 0)
