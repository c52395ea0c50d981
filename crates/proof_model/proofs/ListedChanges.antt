-- Changes with their keys in order and in a range: what the first two reasons of a refusal leave, and where they reach.
use Rattle.std.proofs.Common.{◌≡◌, ℕ, suc, ◌≤◌, Bool, true, false, List, [], ◌∷◌, map, refl, sym, ap, ◌∙◌, subst, arith, ◌⊎◌, inl, inr, Option, Some, None, Less}
use Rattle.std.specs.List.{AllByRecursion}
use Rattle.std.specs.Ordering.{is_le, is_lt}
use Rattle.base_model.specs.Bytes.{bytes_cmp}
use Rattle.base_model.specs.Member.{Member}
use Rattle.trie_model.specs.Maps.{Limits}
use Rattle.trie_model.proofs.KeySets.{All-of, Member-map-in, Member-map-of}
use Rattle.trie_model.proofs.Lists.{All-member}
use Rattle.range_model.specs.Ranges.{Range, IsRange, holds}
use Rattle.batch_model.specs.Batch.{Change, AreRising, comes_after}
use Rattle.proof_model.specs.ChangeProofs.{changed_keys, changes_reach}
use Rattle.proof_model.specs.Proofs.{Pair}
use Rattle.proof_model.specs.RangeLaws.{IsKey}
use Rattle.proof_model.specs.RangeProofs.{keys_of, reached_range}
use Rattle.proof_model.specs.Refusals.{first_break, first_place, is_less, lies_outside}
use Rattle.proof_model.specs.SoundProofs.{AreSorted}
use Rattle.proof_model.specs.TakenEntries.{last_key, reached_by, end_or}
use Rattle.proof_model.proofs.AcceptedRanges.{in_turn-AreSorted, all_inside}
use Rattle.proof_model.proofs.LastKeys.{Reach, whole, up_to, reach_of, up_to-IsRange, holds-up_to}
use Rattle.proof_model.proofs.TrueClaims.{map-map, no_unsorted, none_outside}

-- a change by its key alone, as a pair
abbrev pub keyed : Change → Pair
keyed c = (c.key, [])

pub keys-keyed : (cs : List Change) → keys_of (map keyed cs) ≡ changed_keys cs
keys-keyed cs = map-map keyed (λ (e : Pair). e.0) cs

-- the keys of changes rise
abbrev pub AreOrdered : List Change → Type 0
AreOrdered cs = AreSorted (map keyed cs)

pub rising_ordered : (last : Option (List ℕ)) (cs : List Change) → AreRising last cs → AreOrdered cs
rising_ordered last cs h = in_turn-AreSorted 0 (map keyed cs) (ap (first_break is_less 0) (keys-keyed cs) ∙ in_turn last cs 0 h)
  where
    in_turn : (last : Option (List ℕ)) (cs : List Change) (n : ℕ) → AreRising last cs → first_break is_less n (changed_keys cs) ≡ None
    in_turn last [] n h = refl
    in_turn last (c ∷ []) n h = refl
    in_turn last (c ∷ d ∷ cs) n h = rw (h.1.0) (in_turn (Some c.key) (d ∷ cs) (suc n) h.1)

pub ordered_rising : (cs : List Change) → AreOrdered cs → AreRising None cs
ordered_rising [] h = tt
ordered_rising (c ∷ cs) h = (refl, behind c cs h)
  where
    behind : (c : Change) (cs : List Change) → AreOrdered (c ∷ cs) → AreRising (Some c.key) cs
    behind c [] h = tt
    behind c (d ∷ cs) h = (ap is_lt h.0.0, behind d cs h.1)

pub ordered : (cs : List Change) → first_break is_less 0 (changed_keys cs) ≡ None → AreOrdered cs
ordered cs e = in_turn-AreSorted 0 (map keyed cs) (ap (first_break is_less 0) (keys-keyed cs) ∙ e)

pub not_unsorted : (cs : List Change) → AreOrdered cs → first_break is_less 0 (changed_keys cs) ≡ None
not_unsorted cs h = ap (first_break is_less 0) (sym (keys-keyed cs)) ∙ no_unsorted 0 (map keyed cs) h

-- they lie in a range
pub inside : (r : Range) (cs : List Change) → first_place (lies_outside r) 0 (changed_keys cs) ≡ None → (c : Change) → Member cs c → holds r c.key ≡ true
inside r cs e c n = all_inside r 0 (map keyed cs) (ap (first_place (lies_outside r) 0) (keys-keyed cs) ∙ e) (keyed c) (Member-map-in keyed cs c n)

pub not_outside : (r : Range) (cs : List Change) → ((c : Change) → Member cs c → holds r c.key ≡ true) → first_place (lies_outside r) 0 (changed_keys cs) ≡ None
not_outside r cs h =
    ap (first_place (lies_outside r) 0) (sym (keys-keyed cs))
    ∙ none_outside r 0 (map keyed cs) (λ e m. let x = Member-map-of keyed cs e m in subst (λ (e : Pair). holds r e.0 ≡ true) x.2 (h x.0 x.1))

-- ---- where they reach
-- all of the range, or its front up to the last change
pub data ReachOf (r : Range) (cut : Bool) (cs : List Change) : Type 0 where
  all : changes_reach r cut cs ≡ r → ReachOf r cut cs
  front : (c : Change) → Member cs c → ((d : Change) → Member cs d → is_le (bytes_cmp d.key c.key) ≡ true) → changes_reach r cut cs ≡ end_or (Some c.key) r → ReachOf r cut cs

pub reach-of : (r : Range) (cut : Bool) (cs : List Change) → AreOrdered cs → ReachOf r cut cs
reach-of r cut cs h = go (reach_of r cut (map keyed cs) h)
  where
    same : reached_range r cut (map keyed cs) ≡ changes_reach r cut cs
    same = ap (reached_by r cut) (keys-keyed cs)

    go : Reach r cut (map keyed cs) → ReachOf r cut cs
    go (whole q) = all (sym same ∙ q)
    go (up_to e m u q) =
        let x = Member-map-of keyed cs e m in
        let key : x.0.key ≡ e.0 = ap (λ (e : Pair). e.0) x.2 in
        front x.0 x.1 (λ d n. subst (λ k. is_le (bytes_cmp d.key k) ≡ true) (sym key) (u (keyed d) (Member-map-in keyed cs d n)))
        (sym same ∙ q ∙ ap (λ k. end_or (Some k) r) (sym key))

-- a range for which changes tell is one, and they lie in it
module _ (l : Limits) (asked : Range) (cut : Bool) (cs : List Change) (range : IsRange l asked) (keys : (c : Change) → Member cs c → IsKey l c.key) (within : (c : Change) → Member cs c → holds asked c.key ≡ true) where
  pub reach-IsRange : ReachOf asked cut cs → IsRange l (changes_reach asked cut cs)
  reach-IsRange (all q) = subst (IsRange l) (sym q) range
  reach-IsRange (front c n u q) =
      let k = keys c n in
      subst (IsRange l) (sym q) (up_to-IsRange l asked c.key range k.bytes (omega (arith, k.short)) (within c n))

pub reach-holds : (asked : Range) (cut : Bool) (cs : List Change) → ((c : Change) → Member cs c → holds asked c.key ≡ true) → ReachOf asked cut cs → (c : Change) → Member cs c → holds (changes_reach asked cut cs) c.key ≡ true
reach-holds asked cut cs within (all q) d n = subst (λ r. holds r d.key ≡ true) (sym q) (within d n)
reach-holds asked cut cs within (front c m u q) d n = subst (λ r. holds r d.key ≡ true) (sym q) (holds-up_to asked d.key c.key (within d n) (u d n))

-- changes that are cut reach up to the last of them
pub last_reach : (r : Range) (cs : List Change) (k : List ℕ) → last_key (keys_of (map keyed cs)) ≡ Some k → changes_reach r true cs ≡ end_or (Some k) r
last_reach r cs k q = ap (reached_by r true) (sym (keys-keyed cs)) ∙ ap (λ o. end_or o r) q

-- from the start of the range
pub reach-start : (r : Range) (cut : Bool) (cs : List Change) → (changes_reach r cut cs).start ≡ r.start
reach-start r false cs = refl
reach-start r true cs = go (last_key (changed_keys cs))
  where
    go : (o : Option (List ℕ)) → (end_or o r).start ≡ r.start
    go None = refl
    go (Some k) = refl
