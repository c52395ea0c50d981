-- What an accepted range proof says of the map whose root it was checked against.
use Rattle.std.proofs.Common.{◌≡◌, ℕ, suc, Bool, true, false, cond, List, [], ◌∷◌, sym, ap, ◌∙◌, arith, subst, ◌⊎◌, inl, inr, Option, Some, None, refl, Ordering, Less, Equal, Greater}
use Rattle.std.specs.Ordering.{is_lt}
use Rattle.std.proofs.lemmas.Cmp.{nat_list_cmp_total}
use Rattle.base_model.specs.Bytes.{bytes_cmp}
use Rattle.base_model.specs.Member.{Member}
use Rattle.trie_model.specs.Maps.{Limits}
use Rattle.trie_model.proofs.KeySets.{All-of}
use Rattle.trie_model.proofs.Lists.{All-member, All-weaker}
use Rattle.trie_model.proofs.PartsOfValues.{All-append}
use Rattle.range_model.specs.Laws.{SlotsLieAsTheirKeys, BytesLieAsTheirBits}
use Rattle.range_model.specs.Ranges.{Range, IsRange, holds}
use Rattle.proof_model.specs.Claims.{Claim}
use Rattle.proof_model.specs.Paths.{IsProofNode}
use Rattle.proof_model.specs.Proofs.{Pair}
use Rattle.proof_model.specs.RangeLaws.{HasKey, IsRangeClaim, AcceptedRangesAreTrue, UncutRangesAreWhole}
use Rattle.proof_model.specs.RangeProofs.{RangeProof, keys_of, pairs_in, reached_range, range_claim}
use Rattle.proof_model.specs.Refusals.{Refusal, Unsorted, Outside, first_break, first_place, is_less, lies_outside, or_else, refusal}
use Rattle.proof_model.specs.SoundProofs.{LiesIn, AreSorted, IsClaim}
use Rattle.proof_model.proofs.AcceptedClaims.{later, accepted_claims_are_true}
use Rattle.proof_model.proofs.LastKeys.{Reach, whole, up_to, reach_of, all_reached, up_to-IsRange, holds-up_to}

-- ---- what is not refused
-- where there is no refusal, the first reason is none
not_first : (reason : ℕ → Refusal) (o : Option ℕ) (next : Option Refusal) → or_else reason o next ≡ None → o ≡ None
not_first reason None next e = refl
not_first reason (Some i) next e = absurd (cc)

module _ (w : ℕ) (asked : Range) (want : List ℕ) (c : Claim) (e : refusal w asked want c ≡ None) where
  -- no key is out of order
  pub none_unsorted : first_break is_less 0 c.keys ≡ None
  unfolding refusal
  none_unsorted = not_first Unsorted (first_break is_less 0 c.keys) _ e

  -- nor does one lie outside
  pub none_outside : first_place (lies_outside asked) 0 c.keys ≡ None
  unfolding refusal
  none_outside = not_first Outside (first_place (lies_outside asked) 0 c.keys) _ (later Unsorted (first_break is_less 0 c.keys) _ e)

-- keys of which each follows the one before it are in order
pub in_turn-AreSorted : (n : ℕ) (es : List Pair) → first_break is_less n (keys_of es) ≡ None → AreSorted es
in_turn-AreSorted n [] h = tt
in_turn-AreSorted n (e ∷ []) h = (tt, tt)
in_turn-AreSorted n (e ∷ f ∷ es) h = go (bytes_cmp e.0 f.0) refl h (in_turn-AreSorted (suc n) (f ∷ es))
  where
    go : (o : Ordering) → bytes_cmp e.0 f.0 ≡ o → cond (is_lt o) (first_break is_less (suc n) (keys_of (f ∷ es))) (Some (suc n)) ≡ None → (first_break is_less (suc n) (keys_of (f ∷ es)) ≡ None → AreSorted (f ∷ es)) → AreSorted (e ∷ f ∷ es)
    go Less q h ih =
        let s = ih h in
        ((q, All-weaker (λ (g : Pair). bytes_cmp f.0 g.0 ≡ Less) (λ (g : Pair). bytes_cmp e.0 g.0 ≡ Less) es (λ g k. nat_list_cmp_total.trans e.0 f.0 g.0 q k) s.0), s)
    go Equal q h ih = absurd (cc)
    go Greater q h ih = absurd (cc)

-- keys of which none lies outside lie inside
pub all_inside : (r : Range) (n : ℕ) (es : List Pair) → first_place (lies_outside r) n (keys_of es) ≡ None → (e : Pair) → Member es e → holds r e.0 ≡ true
all_inside r n [] h e m = absurd m
all_inside r n (x ∷ es) h e m = go (holds r x.0) refl h (λ h. all_inside r (suc n) es h e) m
  where
    go : (b : Bool) → holds r x.0 ≡ b → cond (cond b false true) (Some n) (first_place (lies_outside r) (suc n) (keys_of es)) ≡ None → (first_place (lies_outside r) (suc n) (keys_of es) ≡ None → Member es e → holds r e.0 ≡ true) → (x ≡ e) ⊎ Member es e → holds r e.0 ≡ true
    go true q h ih (inl p) = subst (λ (e : Pair). holds r e.0 ≡ true) p q
    go true q h ih (inr m) = ih h m
    go false q h ih m = absurd (cc)

-- ---- claims
module _ (l : Limits) (w : ℕ) (asked : Range) (p : RangeProof) (range : IsRange l asked) (h : IsRangeClaim l w p) (sorted : AreSorted p.pairs) (inside : (e : Pair) → Member p.pairs e → holds asked e.0 ≡ true) where
  has_key : (e : Pair) → Member p.pairs e → HasKey l e
  has_key e m = All-member (HasKey l) p.pairs e h.listed m

  reached-IsRange : Reach asked p.cut p.pairs → IsRange l (reached_range asked p.cut p.pairs)
  reached-IsRange (whole q) = subst (IsRange l) (sym q) range
  reached-IsRange (up_to e m u q) =
      let k = has_key e m in
      subst (IsRange l) (sym q) (up_to-IsRange l asked e.0 range k.bytes (omega (arith, k.short)) (inside e m))

  reached_holds : Reach asked p.cut p.pairs → (e : Pair) → Member p.pairs e → holds (reached_range asked p.cut p.pairs) e.0 ≡ true
  reached_holds (whole q) e m = subst (λ r. holds r e.0 ≡ true) (sym q) (inside e m)
  reached_holds (up_to g n u q) e m = subst (λ r. holds r e.0 ≡ true) (sym q) (holds-up_to asked e.0 g.0 (inside e m) (u e m))

  range_claim-IsClaim : IsClaim l w (range_claim asked p)
  range_claim-IsClaim =
      let reach = reach_of asked p.cut p.pairs sorted in
      record {
        range = reached-IsRange reach;
        listed = All-of (LiesIn (reached_range asked p.cut p.pairs)) p.pairs (λ e m. record { bytes = (has_key e m).bytes; inside = reached_holds reach e m });
        sorted = sorted;
        shown = All-append (IsProofNode w) p.start p.end h.start h.end;
      }

pub accepted_ranges_are_true : SlotsLieAsTheirKeys → BytesLieAsTheirBits → AcceptedRangesAreTrue
accepted_ranges_are_true slots bits l w asked p m ww range h is_map e =
    let sorted = in_turn-AreSorted 0 p.pairs (none_unsorted w asked _ (range_claim asked p) e) in
    let inside = all_inside asked 0 p.pairs (none_outside w asked _ (range_claim asked p) e) in
    accepted_claims_are_true slots bits l w asked (range_claim asked p) m ww (range_claim-IsClaim l w asked p range h sorted inside) is_map e

pub uncut_ranges_are_whole : SlotsLieAsTheirKeys → BytesLieAsTheirBits → UncutRangesAreWhole
uncut_ranges_are_whole slots bits l w asked p m ww range h is_map e uncut = elim (accepted_ranges_are_true slots bits l w asked p m ww range h is_map e) [
  | inl b ↦ inl b
  | inr s ↦ inr (s ∙ ap (pairs_in m) (all_reached asked p.cut p.pairs uncut))
]
