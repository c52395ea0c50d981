-- Change proofs that are made of two maps are accepted against the root of the later one.
use Rattle.std.proofs.Common.{◌≡◌, ℕ, suc, ◌≤◌, Bool, true, false, cond, List, [], ◌∷◌, ◌++◌, length, map, refl, sym, ap, ◌∙◌, subst, ◌⊎◌, inl, inr, Option, Some, None, Less}
use Rattle.std.specs.FinMap.{entries, get}
use Rattle.std.specs.List.{filter}
use Rattle.std.specs.Ordering.{is_le}
use Rattle.std.proofs.lemmas.List.{append-nil, map-append}
use Rattle.base_model.specs.Bytes.{bytes_cmp}
use Rattle.base_model.specs.Member.{Member}
use Rattle.trie_model.specs.Bits.{IsWidth}
use Rattle.trie_model.specs.Ids.{id}
use Rattle.trie_model.specs.Maps.{Map, Limits, IsMap, IsPair, root}
use Rattle.trie_model.proofs.Entries.{member_of_get}
use Rattle.trie_model.proofs.KeySets.{Member-append-of, Member-flat-of, Member-map-in, Member-map-of}
use Rattle.trie_model.proofs.Lists.{All-member, Member-append-left, Member-filter-of}
use Rattle.range_model.specs.Laws.{SlotsLieAsTheirKeys, BytesLieAsTheirBits}
use Rattle.range_model.specs.Ranges.{Range, IsRange, holds, is_from, is_up_to}
use Rattle.batch_model.specs.Batch.{Change, after_batch}
use Rattle.history_model.specs.Changes.{Delta, same_value, delta_at, keys_of_both, deltas, change_of, change_size, lies_in, changes}
use Rattle.history_model.specs.Laws.{ChangesLead, ChangesRise}
use Rattle.proof_model.specs.ChangeLaws.{TrueChangesAreAccepted}
use Rattle.proof_model.specs.ChangeProofs.{changes_reach, change_proof, proof_of_changes, is_idle, change_claim, change_refusal}
use Rattle.proof_model.specs.Claims.{Claim, claim_items}
use Rattle.proof_model.specs.Proofs.{Pair}
use Rattle.proof_model.specs.RangeLaws.{IsKey}
use Rattle.proof_model.specs.RangeProofs.{pairs_in}
use Rattle.proof_model.specs.Refusals.{Refusal, Unsorted, Outside, Idle, first_break, first_place, is_less, lies_outside, or_else, path_refusal, root_refusal, refusal}
use Rattle.proof_model.specs.SoundProofs.{AreSorted}
use Rattle.proof_model.specs.TakenEntries.{taken, is_cut, end_or, IsLongest}
use Rattle.proof_model.specs.TrueClaims.{path_to, IsTrueClaim}
use Rattle.proof_model.proofs.ChangedMaps.{pairs_in-same, get-changed, get-unchanged, At, here, apart, at_or_apart}
use Rattle.proof_model.proofs.LastKeys.{Last, none, one, last_of, AreSorted-front}
use Rattle.proof_model.proofs.ListedChanges.{keyed, AreOrdered, rising_ordered, ordered_rising, not_unsorted, not_outside, ReachOf, reach-of, reach-IsRange, last_reach, reach-start}
use Rattle.proof_model.proofs.TakenEntries.{taken-IsLongest, cut_some, uncut_all}
use Rattle.proof_model.proofs.TrueClaims.{both, up_to-through, no_root_refusal, true_claim_paths, true_claim_root}
use Rattle.proof_model.proofs.TruePoints.{turned}

-- no change of a list without idle ones is the first that is idle
no_idle : (m : Map) (n : ℕ) (cs : List Change) → ((c : Change) → Member cs c → is_idle m c ≡ false) → first_place (is_idle m) n cs ≡ None
no_idle m n [] h = refl
no_idle m n (c ∷ cs) h = ap (λ b. cond b (Some n) (first_place (is_idle m) (suc n) cs)) (h c (inl refl)) ∙ no_idle m (suc n) cs (λ d k. h d (inr k))

nil_keyed : (cs : List Change) → map keyed cs ≡ [] → cs ≡ []
nil_keyed [] e = refl
nil_keyed (c ∷ cs) e = absurd cc

-- a key is that of a change, or of none
data Among (k : List ℕ) (cs : List Change) : Type 0 where
  of_one : (c : Change) → Member cs c → k ≡ c.key → Among k cs
  of_none : ((c : Change) → Member cs c → k ≡ c.key → ⊥) → Among k cs

among : (k : List ℕ) (cs : List Change) → Among k cs
among k [] = of_none (λ c n s. n)
among k (c ∷ cs) = go (at_or_apart k c.key) (among k cs)
  where
    go : At k c.key → Among k cs → Among k (c ∷ cs)
    go (here s) ih = of_one c (inl refl) s
    go (apart f) (of_one d n s) = of_one d (inr n) s
    go (apart f) (of_none g) = of_none (λ d n s. elim n [
      | inl e ↦ f (s ∙ ap (λ (c : Change). c.key) (sym e))
      | inr k ↦ g d k s
    ])

module _ (lead : ChangesLead) (rise : ChangesRise) (m1 m2 : Map) (asked : Range) where
  abbrev cs : List Change
  cs = changes m1 m2 asked

  -- the change of a delta in the range
  record Of (c : Change) : Type 0 where
    delta : Delta
    among_all : Member (deltas m1 m2) delta
    lies : holds asked delta.key ≡ true
    is : change_of delta ≡ c

  of_delta : (c : Change) → Member cs c → Of c
  of_delta c n =
      let x = Member-map-of change_of (filter (lies_in asked) (deltas m1 m2)) c n in
      let y = Member-filter-of (lies_in asked) (deltas m1 m2) x.0 x.1 in
      record { delta = x.0; among_all = y.0; lies = y.1; is = x.2 }

  -- it lies there
  lies_there : (c : Change) → Member cs c → holds asked c.key ≡ true
  lies_there c n = let d = of_delta c n in subst (λ (c : Change). holds asked c.key ≡ true) d.is d.lies

  -- and is not idle on the former map
  not_idle : (c : Change) → Member cs c → is_idle m1 c ≡ false
  unfolding deltas
  not_idle c n =
      let d = of_delta c n in
      let x = Member-flat-of (delta_at m1 m2) (keys_of_both m1 m2) d.delta d.among_all in
      subst (λ (c : Change). is_idle m1 c ≡ false) d.is (go x.0 d.delta (same_value (get m1 x.0) (get m2 x.0)) refl x.2)
    where
      go : (k : List ℕ) (d : Delta) (b : Bool) → same_value (get m1 k) (get m2 k) ≡ b → Member (cond b [] (record { key = k; before = get m1 k; after = get m2 k } ∷ [])) d → is_idle m1 (change_of d) ≡ false
      go k d true e h = absurd h
      go k d false e (inl q) = subst (λ (d : Delta). is_idle m1 (change_of d) ≡ false) q e
      go k d false e (inr h) = absurd h

  -- it gives its key the value of the later map
  gives : (c : Change) → Member cs c → c.value ≡ get m2 c.key
  gives c n = sym (get-changed None m1 cs (rise m1 m2 asked) c n) ∙ lead m1 m2 asked c.key ∙ ap (λ b. get (cond b m2 m1) c.key) (lies_there c n)

  -- where there is none, the maps answer alike
  alike : (k : List ℕ) → holds asked k ≡ true → ((c : Change) → Member cs c → k ≡ c.key → ⊥) → get m1 k ≡ get m2 k
  alike k h f = sym (get-unchanged m1 cs k f) ∙ lead m1 m2 asked k ∙ ap (λ b. get (cond b m2 m1) k) h

  -- ---- a front of them
  module _ (front rest : List Change) (begins : cs ≡ front ++ rest) where
    of_all : (c : Change) → Member front c → Member cs c
    of_all c n = subst (λ xs. Member xs c) (sym begins) (Member-append-left front rest c n)

    parts : AreOrdered front × ((e f : Pair) → Member (map keyed front) e → Member (map keyed rest) f → bytes_cmp e.0 f.0 ≡ Less)
    parts = AreSorted-front (map keyed front) (map keyed rest) (subst AreSorted (map-append keyed front rest) (subst AreOrdered begins (rising_ordered None cs (rise m1 m2 asked))))

    -- a key that none of the front is on, and all behind it are above, has the same value in both maps
    agrees : (k : List ℕ) → holds asked k ≡ true → ((c : Change) → Member rest c → k ≡ c.key → ⊥) → get (after_batch m1 front) k ≡ get m2 k
    agrees k h behind = go (among k front)
      where
        go : Among k front → get (after_batch m1 front) k ≡ get m2 k
        go (of_one c n s) =
            subst (λ q. get (after_batch m1 front) q ≡ get m2 q) (sym s) (get-changed None m1 front (ordered_rising front parts.0) c n ∙ gives c (of_all c n))
        go (of_none f) =
            get-unchanged m1 front k f
            ∙ alike k h (λ c n s. elim (Member-append-of front rest c (subst (λ xs. Member xs c) begins n)) [
              | inl x ↦ f c x s
              | inr x ↦ behind c x s
            ])

    -- the front up to its last change
    module _ (last : Pair) (there : Member (map keyed front) last) where
      up_to_last : (k : List ℕ) → holds (end_or (Some last.0) asked) k ≡ true → get (after_batch m1 front) k ≡ get m2 k
      up_to_last k h =
          let c = Member-map-of keyed front last there in
          let inside : holds asked last.0 ≡ true = subst (λ (e : Pair). holds asked e.0 ≡ true) c.2 (lies_there c.0 (of_all c.0 c.1)) in
          let y = both (is_from asked.start k) (is_le (bytes_cmp k last.0)) h in
          let z = both (is_from asked.start last.0) (is_up_to asked.end last.0) inside in
          let within : holds asked k ≡ true = rw (y.0, up_to-through asked.end k last.0 y.1 z.1) refl in
          agrees k within (λ d n s.
          let e : bytes_cmp last.0 d.key ≡ Less = parts.1 last (keyed d) there (Member-map-in keyed rest d n) in
          let f = ap is_le (ap (λ q. bytes_cmp q last.0) s ∙ turned last.0 d.key Less e) in
          cc)

  -- ---- what is taken of them
  module _ (n z : ℕ) (pos : 1 ≤ n) where
    abbrev front : List Change
    front = taken change_size n z cs

    longest : IsLongest change_size n z cs front
    longest = taken-IsLongest change_size n z cs pos

    -- where they reach, they lead to the later map
    leads : (cut : Bool) → is_cut change_size n z cs ≡ cut → (k : List ℕ) → holds (changes_reach asked cut front) k ≡ true → get (after_batch m1 front) k ≡ get m2 k
    leads false c k h = agrees front [] (sym (uncut_all change_size n z cs pos c) ∙ sym (append-nil front)) k h (λ d n s. n)
    leads true c k h = go (last_of (map keyed front) (parts front longest.rest longest.begins).0) h
      where
        go : Last (map keyed front) → holds (changes_reach asked true front) k ≡ true → get (after_batch m1 front) k ≡ get m2 k
        go (none e q) h = absurd (cut_some change_size n z cs pos c (nil_keyed front e))
        go (one e there q u) h = up_to_last front longest.rest longest.begins e there k (subst (λ r. holds r k ≡ true) (last_reach asked front e.0 q) h)

-- ---- the whole proof
-- the key of a change is one of a map
key_fits : (l : Limits) (m1 m2 : Map) (k : List ℕ) → IsMap l m1 → IsMap l m2 → same_value (get m1 k) (get m2 k) ≡ false → IsKey l k
key_fits l m1 m2 k is1 is2 h = go (get m1 k) refl (get m2 k) refl h
  where
    of_map : (m : Map) (v : List ℕ) → IsMap l m → get m k ≡ Some v → IsKey l k
    of_map m v is_map e = let p = All-member (IsPair l) (entries m) (k, v) is_map (member_of_get m k v e) in record { bytes = p.key_bytes; short = p.key_short }

    go : (u : Option (List ℕ)) → get m1 k ≡ u → (v : Option (List ℕ)) → get m2 k ≡ v → same_value u v ≡ false → IsKey l k
    go (Some u) e v f h = of_map m1 u is1 e
    go None e (Some v) f h = of_map m2 v is2 f
    go None e None f h = absurd cc

-- a claim whose entries are the pairs themselves has the same items
as_pairs : Claim → Claim
as_pairs c = record { keys = map (λ (e : Pair). e.0) c.pairs; reached = c.reached; pairs = c.pairs; start = c.start; end = c.end; idle = None }

same_items : (w : ℕ) (c : Claim) → claim_items w c ≡ claim_items w (as_pairs c)
unfolding claim_items as_pairs
same_items w c = refl

module _ (slots : SlotsLieAsTheirKeys) (bits : BytesLieAsTheirBits) (lead : ChangesLead) (rise : ChangesRise) (l : Limits) (w : ℕ) (m1 m2 : Map) (asked : Range) (n z : ℕ) (ww : IsWidth w) (is1 : IsMap l m1) (is2 : IsMap l m2) (fits : IsRange l asked) (pos : 1 ≤ n) where
  abbrev taken_changes : List Change
  taken_changes = taken change_size n z (changes m1 m2 asked)

  abbrev cut : Bool
  cut = is_cut change_size n z (changes m1 m2 asked)

  abbrev claim : Claim
  claim = change_claim asked m1 (change_proof w m1 m2 asked n z)

  longest-taken : IsLongest change_size n z (changes m1 m2 asked) taken_changes
  longest-taken = taken-IsLongest change_size n z (changes m1 m2 asked) pos

  of_changes : (c : Change) → Member taken_changes c → Member (changes m1 m2 asked) c
  of_changes = of_all lead rise m1 m2 asked taken_changes longest-taken.rest longest-taken.begins

  within : (c : Change) → Member taken_changes c → holds asked c.key ≡ true
  within c k = lies_there lead rise m1 m2 asked c (of_changes c k)

  working : (c : Change) → Member taken_changes c → is_idle m1 c ≡ false
  working c k = not_idle lead rise m1 m2 asked c (of_changes c k)

  keys : (c : Change) → Member taken_changes c → IsKey l c.key
  keys c k = key_fits l m1 m2 c.key is1 is2 (ap (same_value (get m1 c.key)) (sym (gives lead rise m1 m2 asked c (of_changes c k))) ∙ working c k)

  in_turn : AreOrdered taken_changes
  in_turn = (parts lead rise m1 m2 asked taken_changes longest-taken.rest longest-taken.begins).0

  range : IsRange l (changes_reach asked cut taken_changes)
  range = reach-IsRange l asked cut taken_changes fits keys within (reach-of asked cut taken_changes in_turn)

  true_claim : IsTrueClaim w m2 (as_pairs claim)
  unfolding as_pairs
  true_claim = record {
    keys = refl;
    pairs = pairs_in-same (after_batch m1 taken_changes) m2 (changes_reach asked cut taken_changes) (leads lead rise m1 m2 asked n z pos cut refl);
    start = ap (path_to w m2) (sym (reach-start asked cut taken_changes));
    end = inl refl;
    idle = refl;
  }

  root-claim : id w (claim_items w claim) ≡ root w m2
  unfolding as_pairs
  root-claim = ap (id w) (same_items w claim) ∙ true_claim_root slots bits l w m2 ww is2 (as_pairs claim) range true_claim

  paths-claim : (next : Option Refusal) → path_refusal claim.start claim.end next ≡ next
  unfolding as_pairs
  paths-claim next = true_claim_paths slots bits l w m2 ww is2 (as_pairs claim) range true_claim next

  accepted : refusal w asked (root w m2) claim ≡ None
  unfolding refusal
  accepted =
      let last = or_else Idle claim.idle (root_refusal (id w (claim_items w claim)) (root w m2)) in
      ap (λ o. or_else Unsorted o (or_else Outside (first_place (lies_outside asked) 0 claim.keys) (path_refusal claim.start claim.end last))) (not_unsorted taken_changes in_turn)
      ∙ ap (λ o. or_else Outside o (path_refusal claim.start claim.end last)) (not_outside asked taken_changes within)
      ∙ paths-claim last
      ∙ ap (λ o. or_else Idle o (root_refusal (id w (claim_items w claim)) (root w m2))) (no_idle m1 0 taken_changes working)
      ∙ ap (λ i. root_refusal i (root w m2)) root-claim
      ∙ no_root_refusal (root w m2)

pub true_changes_are_accepted : SlotsLieAsTheirKeys → BytesLieAsTheirBits → ChangesLead → ChangesRise → TrueChangesAreAccepted
true_changes_are_accepted slots bits lead rise l w m1 m2 asked n z ww is1 is2 fits pos = accepted slots bits lead rise l w m1 m2 asked n z ww is1 is2 fits pos
