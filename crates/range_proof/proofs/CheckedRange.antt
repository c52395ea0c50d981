-- The range for which a range proof is checked, and that the check tells what the definitions tell.
use Rattle.std.proofs.Common.{◌≡◌, ℕ, zero, suc, ◌-◌, ◌≤◌, Bool, true, false, cond, List, [], ◌∷◌, length, map, refl, sym, ap, ◌∙◌, subst, arith, inl, inr, Option, Some, None, Result, Ok, Err}
use Rattle.std.specs.List.{AllByRecursion, slice_get}
use Rattle.base_model.specs.Bytes.{AreBytes}
use Rattle.trie_model.specs.Maps.{limits, key_limit}
use Rattle.trie_model.specs.Strings.{strings}
use Rattle.trie_model.proofs.KeySets.{All-of}
use Rattle.trie_model.proofs.Lists.{All-member}
use Rattle.trie_model.proofs.PartsOfValues.{All-append}
use Rattle.range_model.specs.Ranges.{Range, IsRange, holds}
use Rattle.bit_keys.specs.Ranges.{range_of}
use Rattle.proof_model.specs.Claims.{Claim, claim_items}
use Rattle.proof_model.specs.Paths.{ProofNode, IsProofNode}
use Rattle.proof_model.specs.Proofs.{Pair}
use Rattle.proof_model.specs.RangeLaws.{IsRangeClaim}
use Rattle.proof_model.specs.RangeProofs.{RangeProof, keys_of, reached_range, range_claim, range_refusal}
use Rattle.proof_model.specs.Refusals.{Refusal, Unsorted, Outside, first_break, first_place, is_less, lies_outside, or_else, refusal}
use Rattle.proof_model.specs.Refusals as words
use Rattle.proof_model.specs.SoundProofs.{AreSorted}
use Rattle.proof_model.specs.TakenEntries.{last_key, end_or}
use Rattle.proof_model.proofs.LastKeys.{Reach, whole, up_to, reach_of, up_to-IsRange, holds-up_to}
use Rattle.proof_check.specs.Claims.{pair_of, IsCheckable}
use Rattle.proof_check.specs.Claims as checked
use Rattle.proof_check.specs.CheckResults.{Tells, Costs}
use Rattle.proof_check.specs.declared.claim.Entry.{Entry}
use Rattle.proof_check.specs.declared.verify_fault.VerifyFault.{VerifyFault}
use Rattle.proof_check.specs.declared.verify_fault.VerifyFault.TheVariants as faults
use Rattle.range_proof.specs.ReachedRanges.{EndsOutside, StandsFor}

-- ---- the last entry

module _ {A : Type 0} (key : A → List ℕ) where
  last_at : (xs : List A) (n : ℕ) (x : A) → length xs ≡ suc n → slice_get xs n ≡ Some x → last_key (map key xs) ≡ Some (key x)
  last_at [] n x l h = absurd cc
  last_at (y ∷ []) zero x l h = ap (λ (o : Option A). elim o [ Some e ↦ Some (key e) | None ↦ None ]) h
  last_at (y ∷ []) (suc n) x l h = absurd (omega arith)
  last_at (y ∷ z ∷ xs) zero x l h = absurd (omega arith)
  last_at (y ∷ z ∷ xs) (suc n) x l h = last_at (z ∷ xs) n x (omega arith) h

  -- what a list answers as its last entry has the last key
  pub last_is : (all xs : List A) (o : Option A) (x : A) → o ≡ slice_get xs (length xs - 1) → xs ≡ all → o ≡ Some x → last_key (map key all) ≡ Some (key x)
  last_is all xs o x h p q = subst (λ (xs : List A). last_key (map key xs) ≡ Some (key x)) p (go xs refl)
    where
      go : (ys : List A) → xs ≡ ys → last_key (map key xs) ≡ Some (key x)
      go [] f = absurd (let k : o ≡ None = h ∙ ap (λ (ys : List A). slice_get ys (length ys - 1)) f in cc)
      go (y ∷ ys) f =
          let l = ap length f in
          last_at xs (length xs - 1) x (omega arith) (sym h ∙ q)

pub reached_end-cut : (r : Range) (cut : Bool) (es : List Pair) (last k : List ℕ) → cut ≡ true → last_key (keys_of es) ≡ Some last → k ≡ last → Some k ≡ (reached_range r cut es).end
reached_end-cut r cut es last k c h e = rw (c, h) (ap Some e)

pub reached_range-cut : (r : Range) (cut : Bool) (es : List Pair) (last : List ℕ) → cut ≡ true → last_key (keys_of es) ≡ Some last → end_or (Some last) r ≡ reached_range r cut es
reached_range-cut r cut es last c h = rw (c, h) refl

-- bounds that are those of a range up to a key make a range
pub up_to-bounds : (r : Range) (last end : List ℕ) (start : Option (List ℕ)) → IsRange limits r → AreBytes last → length last ≤ key_limit → holds r last ≡ true → start ≡ r.start → end ≡ last → IsRange limits (range_of start (Some end))
up_to-bounds r last end start fits bytes short inside s e = rw (s, e) (up_to-IsRange limits r last fits bytes (omega (arith, short)) inside)

-- ---- the claim

-- a range proof as a claim for some range
abbrev pub claim_for : Range → RangeProof → Claim
claim_for r p = record { keys = keys_of p.pairs; reached = r; pairs = p.pairs; start = p.start; end = p.end; idle = None }

pub claim_is : (es : List Entry) (r : Range) (start end : List ProofNode) (p : RangeProof) → checked.keys_of es ≡ keys_of p.pairs → map pair_of es ≡ p.pairs → start ≡ p.start → end ≡ p.end
    → record { keys = checked.keys_of es; reached = r; pairs = map pair_of es; start = start; end = end; idle = None } ≡ claim_for r p
claim_is es r start end p k e s n = λ i. record { keys = k i; reached = r; pairs = e i; start = s i; end = n i; idle = None }

module _ (asked : Range) (p : RangeProof) (r : Range) (h : StandsFor asked p r) where
  -- pairs in order that lie in the range that was asked for lie in the one that they are checked for
  still_inside : AreSorted p.pairs → AllByRecursion (λ (e : Pair). holds asked e.0 ≡ true) p.pairs → AllByRecursion (λ (e : Pair). holds r e.0 ≡ true) p.pairs
  still_inside sorted inside = elim h.tells [
    | inl q ↦ subst (λ r. AllByRecursion (λ (e : Pair). holds r e.0 ≡ true) p.pairs) (sym q) (go (reach_of asked p.cut p.pairs sorted))
    | inr q ↦ subst (λ r. AllByRecursion (λ (e : Pair). holds r e.0 ≡ true) p.pairs) (sym q.0) inside
  ]
    where
      go : Reach asked p.cut p.pairs → AllByRecursion (λ (e : Pair). holds (reached_range asked p.cut p.pairs) e.0 ≡ true) p.pairs
      go (whole q) = subst (λ r. AllByRecursion (λ (e : Pair). holds r e.0 ≡ true) p.pairs) (sym q) inside
      go (up_to g n u q) =
          subst (λ r. AllByRecursion (λ (e : Pair). holds r e.0 ≡ true) p.pairs) (sym q)
          (All-of (λ (e : Pair). holds (end_or (Some g.0) asked) e.0 ≡ true) p.pairs (λ e m. holds-up_to asked e.0 g.0 (All-member (λ (e : Pair). holds asked e.0 ≡ true) p.pairs e inside m) (u e m)))

  pub checkable : (w : ℕ) → IsRangeClaim limits w p → IsCheckable w asked (claim_for r p)
  checkable w c = record { range = h.range; reaches = still_inside; shown = All-append (IsProofNode w) p.start p.end c.start c.end }

-- ---- the reason

-- where the last key lies outside, a place of a key outside is found
outside_found : (asked : Range) (n : ℕ) (ks : List (List ℕ)) (last : List ℕ) → last_key ks ≡ Some last → holds asked last ≡ false → first_place (lies_outside asked) n ks ≡ None → ⊥
outside_found asked n [] last q o h = cc
outside_found asked n (k ∷ []) last q o h =
    let same : last ≡ k = cc in
    let out : lies_outside asked k ≡ true = ap (λ b. cond b false true) (ap (holds asked) (sym same) ∙ o) in
    let found : first_place (lies_outside asked) n (k ∷ []) ≡ Some n = ap (λ b. cond b (Some n) None) out in
    cc
outside_found asked n (k ∷ l ∷ ks) last q o h = go (lies_outside asked k) h (outside_found asked (suc n) (l ∷ ks) last q o)
  where
    go : (b : Bool) → cond b (Some n) (first_place (lies_outside asked) (suc n) (l ∷ ks)) ≡ None → (first_place (lies_outside asked) (suc n) (l ∷ ks) ≡ None → ⊥) → ⊥
    go true e ih = cc
    go false e ih = ih e

-- then the first reason is one of the pairs, whatever follows
alike : (unsorted outside : Option ℕ) (x y : Option Refusal) → (outside ≡ None → ⊥) → or_else Unsorted unsorted (or_else Outside outside x) ≡ or_else Unsorted unsorted (or_else Outside outside y)
alike (Some i) o x y h = refl
alike None (Some j) x y h = refl
alike None None x y h = absurd (h refl)

-- and neither none nor another root
refused_early : (unsorted outside : Option ℕ) (x : Option Refusal) → (outside ≡ None → ⊥) → or_else Unsorted unsorted (or_else Outside outside x) ≡ None → ⊥
refused_early (Some i) o x h e = cc
refused_early None (Some j) x h e = cc
refused_early None None x h e = h refl

no_root : (unsorted outside : Option ℕ) (x : Option Refusal) (have want : List ℕ) → (outside ≡ None → ⊥) → or_else Unsorted unsorted (or_else Outside outside x) ≡ Some (words.RootDiffers have want) → ⊥
no_root (Some i) o x have want h e = cc
no_root None (Some j) x have want h e = cc
no_root None None x have want h e = h refl

-- a check that ends in such a reason costs nothing, whatever there is to hash
costs_alike : (r : Result (Unit {0}) VerifyFault) (why : Option Refusal) (old new n k : ℕ) → (why ≡ None → ⊥) → ((have want : List ℕ) → why ≡ Some (words.RootDiffers have want) → ⊥) → Tells r why → Costs r old new n → Costs r old new k
costs_alike (Ok x) why old new n k f g told h = absurd (f told)
costs_alike (Err (faults.Unsorted place)) why old new n k f g told h = h
costs_alike (Err (faults.Outside place)) why old new n k f g told h = h
costs_alike (Err (faults.PathOrder place)) why old new n k f g told h = h
costs_alike (Err (faults.PathsDiffer place)) why old new n k f g told h = h
costs_alike (Err (faults.Idle place)) why old new n k f g told h = h
costs_alike (Err (faults.RootDiffers have want)) why old new n k f g told h = absurd (g have want told)
costs_alike (Err faults.Failed) why old new n k f g told h = h
costs_alike (Err faults.NoMemory) why old new n k f g told h = tt

module _ (w : ℕ) (asked : Range) (root : List ℕ) (p : RangeProof) (r : Range) (h : StandsFor asked p r) where
  is_outside : EndsOutside asked p → first_place (lies_outside asked) 0 (keys_of p.pairs) ≡ None → ⊥
  is_outside o = outside_found asked 0 (keys_of p.pairs) o.0 o.1 o.2

  -- the reason is that of the range that the pairs tell of
  same_refusal : refusal w asked root (claim_for r p) ≡ range_refusal w asked root p
  unfolding refusal
  same_refusal = elim h.tells [
    | inl q ↦ ap (λ r. refusal w asked root (claim_for r p)) q
    | inr q ↦ alike (first_break is_less 0 (keys_of p.pairs)) (first_place (lies_outside asked) 0 (keys_of p.pairs)) _ _ (is_outside q.1)
  ]

  pub range_told : (result : Result (Unit {0}) VerifyFault) (c : Claim) → c ≡ claim_for r p → Tells result (refusal w asked root c) → Tells result (range_refusal w asked root p)
  range_told result c e told = subst (Tells result) (ap (refusal w asked root) e ∙ same_refusal) told

  early : EndsOutside asked p → (refusal w asked root (claim_for r p) ≡ None → ⊥) × ((have want : List ℕ) → refusal w asked root (claim_for r p) ≡ Some (words.RootDiffers have want) → ⊥)
  unfolding refusal
  early o = (
    refused_early (first_break is_less 0 (keys_of p.pairs)) (first_place (lies_outside asked) 0 (keys_of p.pairs)) _ (is_outside o),
    λ have want. no_root (first_break is_less 0 (keys_of p.pairs)) (first_place (lies_outside asked) 0 (keys_of p.pairs)) _ have want (is_outside o),
  )

  -- and so is the cost
  pub range_cost : (result : Result (Unit {0}) VerifyFault) (old new : ℕ) (c : Claim) → c ≡ claim_for r p → Tells result (refusal w asked root c)
      → Costs result old new (length (strings w (claim_items w c))) → Costs result old new (length (strings w (claim_items w (range_claim asked p))))
  range_cost result old new c e told cost =
      let here : Costs result old new (length (strings w (claim_items w (claim_for r p)))) = subst (λ (c : Claim). Costs result old new (length (strings w (claim_items w c)))) e cost in
      elim h.tells [
        | inl q ↦ subst (λ r. Costs result old new (length (strings w (claim_items w (claim_for r p))))) q here
        | inr q ↦ let f = early q.1 in
            costs_alike result (refusal w asked root (claim_for r p)) old new (length (strings w (claim_items w (claim_for r p)))) (length (strings w (claim_items w (range_claim asked p)))) f.0 f.1 (subst (Tells result) (ap (refusal w asked root) e) told) here
      ]
