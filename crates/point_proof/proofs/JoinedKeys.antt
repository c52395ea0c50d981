-- Tokens of one key behind another key.
use Rattle.std.proofs.Common.{◌≡◌, ℕ, ◌+◌, ◌*◌, ◌<◌, ◌≤◌, Bool, true, List, [], ◌++◌, length, take, drop, suc, sym, ap, ◌∙◌, arith, append_assoc, append-nil, length-drop, Result, Ok, Err, IfOk}
use Rattle.std.proofs.lemmas.List.{length-take-le, take-append-drop, drop-drop}
use Rattle.std.proofs.Math.ListN.{drop_of_length-le}
use Rattle.std.proofs.Math.Nat.{mul-le-mul_left}
use Rattle.std.proofs.Math.Seq.{take-add}
use Rattle.base_model.proofs.Bits.{bits_of-number_of}
use Rattle.trie_model.proofs.Prefixes.{length-is_prefix, take-is_prefix}
use Rattle.trie_model.specs.Bits.{bits_of, is_prefix, number_of, token_at}

-- one token more
pub token_more : (w at next : ℕ) (key rest : List Bool) → next ≡ at + w → next ≤ length rest → (key ++ bits_of w (token_at w at rest)) ++ drop next rest ≡ key ++ drop at rest
token_more w at next key rest e l =
    let b = take w (drop at rest) in
    let size : length b ≡ w = length-take-le w (drop at rest) (omega (arith, e, l, length-drop at rest)) in
    append_assoc key (bits_of w (number_of b)) (drop next rest)
    ∙ ap (λ r. key ++ r) (ap (λ r. r ++ drop next rest) (ap (λ n. bits_of n (number_of b)) (sym size) ∙ bits_of-number_of b) ∙ ap (λ r. b ++ r) (ap (λ n. drop n rest) e ∙ sym (drop-drop w at rest)) ∙ take-append-drop w (drop at rest))

-- where all tokens stand behind a key, all of the other key does
pub all_tokens : {E : Type 0} (r : Result (List Bool) E) (front mid rest : List Bool) (n h : ℕ) → IfOk r (λ k. k ++ drop (1 * n) rest ≡ mid ++ drop (1 * (8 * h)) rest) → n ≡ length rest
    → mid ++ drop (8 * h) rest ≡ front ++ drop (8 * 0) rest → IfOk r (λ k. k ≡ front ++ rest)
all_tokens (Err e) front mid rest n h p size q = tt
all_tokens (Ok k) front mid rest n h p size q =
    let end : drop (1 * n) rest ≡ [] = drop_of_length-le rest {i = 1 * n} (omega (arith, size)) in
    sym (append-nil k) ∙ ap (λ r. k ++ r) (sym end) ∙ p ∙ ap (λ n. mid ++ drop n rest) (omega arith) ∙ q

-- a token in front of the end of others ends within them
pub token_end : (w i to n : ℕ) → i < to → w * to ≤ n → w * i + w ≤ n
token_end w i to n l h = omega (arith, mul-le-mul_left {m = suc i} {n = to} w (omega arith))

-- what stands behind the first bits of a key ends within it, and is cut off it with them
pub cut_off : (at n : ℕ) (k rest : List Bool) → at ≤ length k → n ≡ length rest → is_prefix rest (drop at k) ≡ true → (at + n ≤ length k) × (take (at + n) k ≡ take at k ++ rest)
cut_off at n k rest l e p = (
  omega (arith, l, e, length-is_prefix rest (drop at k) p, length-drop at k),
  take-add at n k ∙ ap (λ r. take at k ++ r) (ap (λ n. take n (drop at k)) e ∙ take-is_prefix rest (drop at k) p),
)
