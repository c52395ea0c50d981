-- Range proofs that are made of a map are accepted against its root.
use Rattle.std.proofs.Common.{◌≡◌, ℕ, ◌<◌, ◌≤◌, Bool, true, false, List, [], ◌++◌, length, refl, sym, ap, ◌∙◌, arith, subst, ltb, inl, inr, Some, Less, length-append}
use Rattle.std.specs.FinMap.{entries}
use Rattle.std.specs.Ordering.{is_le}
use Rattle.std.proofs.lemmas.Bool.Decides.{nat_tests}
use Rattle.std.proofs.lemmas.List.{append-nil, nil_from_length}
use Rattle.base_model.specs.Bytes.{bytes_cmp}
use Rattle.base_model.specs.Member.{Member}
use Rattle.trie_model.specs.Maps.{Map}
use Rattle.trie_model.proofs.Entries.{entries-IsAscending}
use Rattle.trie_model.proofs.KeySets.{Member-append-of, Member-map-in}
use Rattle.trie_model.proofs.Lists.{Member-append-left, Member-filter-of, Member-filter-in}
use Rattle.range_model.specs.Laws.{SlotsLieAsTheirKeys, BytesLieAsTheirBits}
use Rattle.range_model.specs.Ranges.{Range, holds, is_from, is_up_to}
use Rattle.proof_model.specs.Proofs.{Pair, pair_size}
use Rattle.proof_model.specs.RangeLaws.{TrueRangesAreAccepted}
use Rattle.proof_model.specs.RangeProofs.{pairs_in, reached_range, range_proof, range_claim}
use Rattle.proof_model.specs.SoundProofs.{AreSorted}
use Rattle.proof_model.specs.TakenEntries.{taken, is_cut, end_or, IsLongest}
use Rattle.proof_model.specs.TrueClaims.{path_to, IsReached}
use Rattle.proof_model.proofs.LastKeys.{Last, none, one, last_of, AreSorted-front, holds-up_to}
use Rattle.proof_model.proofs.SortedPairs.{same_pairs, AreSorted-filter, AreSorted-IsAscending}
use Rattle.proof_model.proofs.TakenEntries.{taken-IsLongest, cut_some, uncut_all}
use Rattle.proof_model.proofs.TrueClaims.{both, up_to-through, true_claims_are_accepted}
use Rattle.proof_model.proofs.TruePoints.{turned}

-- the pairs of a map in a range are in order
pub pairs_in-AreSorted : (m : Map) (r : Range) → AreSorted (pairs_in m r)
pairs_in-AreSorted m r = AreSorted-filter (λ (e : Pair). holds r e.0) (entries m) (AreSorted-IsAscending (entries m) (entries-IsAscending m))

-- ---- a front of what a map has in a range
module _ (m : Map) (asked : Range) (es rest : List Pair) (begins : pairs_in m asked ≡ es ++ rest) where
  parts : AreSorted es × ((e f : Pair) → Member es e → Member rest f → bytes_cmp e.0 f.0 ≡ Less)
  parts = AreSorted-front es rest (subst AreSorted begins (pairs_in-AreSorted m asked))

  -- a pair of the front is an entry in the range
  of_map : (e : Pair) → Member es e → Member (entries m) e × (holds asked e.0 ≡ true)
  of_map e n = Member-filter-of (λ (e : Pair). holds asked e.0) (entries m) e (subst (λ xs. Member xs e) (sym begins) (Member-append-left es rest e n))

  module _ (last : Pair) (there : Member es last) (highest : (f : Pair) → Member es f → is_le (bytes_cmp f.0 last.0) ≡ true) where
    -- an entry up to its last pair is one of it
    in_front : (e : Pair) → Member (pairs_in m (end_or (Some last.0) asked)) e → Member es e
    in_front e n =
        let x = Member-filter-of (λ (e : Pair). holds (end_or (Some last.0) asked) e.0) (entries m) e n in
        let y = both (is_from asked.start e.0) (is_le (bytes_cmp e.0 last.0)) x.1 in
        let z = both (is_from asked.start last.0) (is_up_to asked.end last.0) (of_map last there).1 in
        let inside : holds asked e.0 ≡ true = rw (y.0, up_to-through asked.end e.0 last.0 y.1 z.1) refl in
        elim (Member-append-of es rest e (subst (λ xs. Member xs e) begins (Member-filter-in (λ (e : Pair). holds asked e.0) (entries m) e x.0 inside))) [
          | inl k ↦ k
          | inr k ↦ absurd (let g = ap is_le (turned last.0 e.0 Less (parts.1 last e there k)) in cc)
        ]

    -- so it is all that the map has up to there
    front_pairs : es ≡ pairs_in m (end_or (Some last.0) asked)
    front_pairs =
        same_pairs es (pairs_in m (end_or (Some last.0) asked)) parts.0 (pairs_in-AreSorted m (end_or (Some last.0) asked))
        (λ e n. let x = of_map e n in Member-filter-in (λ (e : Pair). holds (end_or (Some last.0) asked) e.0) (entries m) e x.0 (holds-up_to asked e.0 last.0 x.1 (highest e n))) in_front

    front_reached : IsReached m asked (end_or (Some last.0) asked)
    front_reached =
        let x = of_map last there in
        record { start = refl; end = inr (last.0, refl, Member-map-in (λ (e : Pair). e.0) (entries m) last x.0, x.1) }

-- ---- what is taken
module _ (m : Map) (asked : Range) (n z : ℕ) (pos : 1 ≤ n) where
  abbrev xs : List Pair
  xs = pairs_in m asked

  abbrev es : List Pair
  es = taken pair_size n z xs

  front : IsLongest pair_size n z xs es
  front = taken-IsLongest pair_size n z xs pos

  -- the range that it tells of, and that it is all that the map has there
  taken_reached : (cut : Bool) → is_cut pair_size n z xs ≡ cut → IsReached m asked (reached_range asked cut es) × (es ≡ pairs_in m (reached_range asked cut es))
  taken_reached false c = (record { start = refl; end = inl refl }, uncut_all pair_size n z xs pos c)
  taken_reached true c = go (last_of es (parts m asked es front.rest front.begins).0)
    where
      go : Last es → IsReached m asked (reached_range asked true es) × (es ≡ pairs_in m (reached_range asked true es))
      go (none e q) = absurd (cut_some pair_size n z xs pos c e)
      go (one e there q highest) =
          subst (λ r. IsReached m asked r × (es ≡ pairs_in m r)) (sym (ap (λ o. end_or o asked) q))
          (front_reached m asked es front.rest front.begins e there highest, front_pairs m asked es front.rest front.begins e there highest)

pub true_ranges_are_accepted : SlotsLieAsTheirKeys → BytesLieAsTheirBits → TrueRangesAreAccepted
true_ranges_are_accepted slots bits l w m asked n z ww is_map fits pos =
    let r = taken_reached m asked n z pos (is_cut pair_size n z (pairs_in m asked)) refl in
    true_claims_are_accepted slots bits l w m asked (range_claim asked (range_proof w m asked n z)) ww is_map fits r.0
    (record { keys = refl; pairs = r.1; start = ap (path_to w m) (sym r.0.start); end = inl refl; idle = refl })
