-- What an accepted proof says of the map whose root it was checked against: its pairs are the map's, or there is a break.
use Rattle.std.proofs.Common.{◌≡◌, ◌≢◌, ℕ, ◌≤◌, true, List, [], ◌∷◌, ◌++◌, length, map, refl, sym, ap, ◌∙◌, arith, subst, leb, ◌⊎◌, inl, inr, Option, Some, None, Ordering, Less, Equal, Greater}
use Rattle.std.specs.List.{filter, AllByRecursion}
use Rattle.std.specs.FinMap.{get, entries}
use Rattle.std.specs.Cmp.{tied_itself}
use Rattle.std.proofs.lemmas.Cmp.{nat_list_cmp_total}
use Rattle.sha2.proofs.Facts256.{length-sha256}
use Rattle.base_model.specs.Member.{Member}
use Rattle.base_model.specs.Bytes.{AreBytes, bytes_cmp}
use Rattle.trie_model.specs.Bits.{bits_of_bytes, IsWidth}
use Rattle.trie_model.specs.Hashing.{hash_length, value_digest}
use Rattle.trie_model.specs.Ids.{id}
use Rattle.trie_model.specs.Items.{Item, Val, Stub}
use Rattle.trie_model.specs.Laws.{Describes}
use Rattle.trie_model.specs.Maps.{Map, Limits, IsMap, IsPair, entry_item, map_items, root, long_value, map_strings}
use Rattle.trie_model.specs.Strings.{strings, Break, twins}
use Rattle.trie_model.proofs.Digests.{Digested, short, long, digested}
use Rattle.trie_model.proofs.Entries.{tied_equal, entries-IsAscending, get_of_member, member_of_get}
use Rattle.trie_model.proofs.KeyOrder.{bytes-injective}
use Rattle.trie_model.proofs.KeySets.{Member-map-in, Member-map-of}
use Rattle.trie_model.proofs.Lists.{All-member, Member-append-left, Member-append-right, Member-filter-of, Member-filter-in}
use Rattle.trie_model.proofs.Roots.{soundness}
use Rattle.trie_model.proofs.Strings.{Break-wider, bytes_same_or_not}
use Rattle.range_model.specs.Ranges.{Range, only, key_place, is_inside, holds}
use Rattle.range_model.specs.Laws.{SlotsLieAsTheirKeys, BytesLieAsTheirBits}
use Rattle.proof_model.specs.Paths.{IsProofNode}
use Rattle.proof_model.specs.Proofs.{Pair, PointProof}
use Rattle.proof_model.specs.Claims.{Claim, nodes, in_order, claim_items, claim_strings, pair_of, point_claim}
use Rattle.proof_model.specs.Refusals.{Refusal, PathOrder, PathsDiffer, Unsorted, Outside, Idle, RootDiffers, first_break, first_place, is_less, lies_outside, disagrees_with, path_break, or_else, path_refusal, root_refusal, refusal}
use Rattle.proof_model.specs.SoundProofs.{LiesIn, AreSorted, IsClaim, AcceptedClaimsAreTrue, AcceptedPointsAreTrue}
use Rattle.proof_model.proofs.ClaimItems.{told_items, Told, told, told_by_pair, told_outside, pair_told, claim_items_are_valid}
use Rattle.proof_model.proofs.ItemOrder.{in_order-of}
use Rattle.proof_model.proofs.SortedPairs.{same_pairs, AreSorted-filter, AreSorted-IsAscending}

-- ---- what is not refused
-- where there is no refusal, neither of the later reasons is one
pub later : (reason : ℕ → Refusal) (o : Option ℕ) (next : Option Refusal) → or_else reason o next ≡ None → next ≡ None
later reason None next e = e
later reason (Some i) next e = absurd (cc)

-- an ID that is not refused is the root
same_root : (have want : List ℕ) → root_refusal have want ≡ None → have ≡ want
same_root have want e = go (bytes_cmp have want) refl e
  where
    go : (o : Ordering) → bytes_cmp have want ≡ o → root_refusal have want ≡ None → have ≡ want
    go Equal f e = tied_equal have want f
    go Less f e = absurd (let g : Some (RootDiffers have want) ≡ None = rw f at e in cc)
    go Greater f e = absurd (let g : Some (RootDiffers have want) ≡ None = rw f at e in cc)

-- so the items of an accepted proof have the root for their ID
accepted_root : (w : ℕ) (asked : Range) (want : List ℕ) (c : Claim) → refusal w asked want c ≡ None → id w (claim_items w c) ≡ want
unfolding refusal path_refusal
accepted_root w asked want c e =
    same_root (id w (claim_items w c)) want (later Idle c.idle _ (later PathsDiffer (first_place (disagrees_with c.start) (length c.start) c.end) _ (later PathOrder (path_break c.start c.end) _
    (later Outside (first_place (lies_outside asked) 0 c.keys) _ (later Unsorted (first_break is_less 0 c.keys) _ e)))))

-- ---- values and their digests
-- two values with one digest are one, or there is a break by strings that have the long ones
one_value : (A B : List (List ℕ)) (u v : List ℕ) → (leb hash_length (length u) ≡ true → Member A u) → (leb hash_length (length v) ≡ true → Member B v) → value_digest u ≡ value_digest v → Break A B ⊎ (u ≡ v)
one_value A B u v p q d = go (digested u) (digested v) (bytes_same_or_not u v)
  where
    go : Digested u → Digested v → (u ≡ v) ⊎ (u ≢ v) → Break A B ⊎ (u ≡ v)
    go a b (inl s) = inr s
    go (short a t) (short b f) (inr s) = inr (sym t ∙ d ∙ f)
    go (short a t) (long b f) (inr s) = absurd (let x = ap length (sym t ∙ d ∙ f) ∙ length-sha256 v in omega (arith, x))
    go (long a t) (short b f) (inr s) = absurd (let x = ap length (sym f ∙ sym d ∙ t) ∙ length-sha256 u in omega (arith, x))
    go (long a t) (long b f) (inr s) = inl (twins u v (p a) (q b) s (sym t ∙ d ∙ f))

-- a long value is one of the strings of what has its pair
long_among : (xs : List (List ℕ)) (es : List Pair) (e : Pair) → Member es e → leb hash_length (length e.1) ≡ true → Member (xs ++ map (λ (e : Pair). e.1) (filter long_value es)) e.1
long_among xs es e m l = Member-append-right xs _ e.1 (Member-map-in (λ (e : Pair). e.1) (filter long_value es) e (Member-filter-in long_value es e m l))

-- a break, or a fact of each member
each_or : {A B : Type 0} (P : A → Type 0) (xs : List A) → ((x : A) → Member xs x → B ⊎ P x) → B ⊎ ((x : A) → Member xs x → P x)
each_or P [] f = inr (λ x m. absurd m)
each_or {A = A} {B = B} P (x ∷ xs) f = go (f x (inl refl)) (each_or P xs (λ y m. f y (inr m)))
  where
    go : B ⊎ P x → B ⊎ ((y : A) → Member xs y → P y) → B ⊎ ((y : A) → Member (x ∷ xs) y → P y)
    go (inl b) r = inl b
    go (inr p) (inl b) = inl b
    go (inr p) (inr g) = inr (λ y m. elim m [ inl e ↦ subst P e p | inr n ↦ g y n ])

-- ---- pairs, by what is known of ranges
module _ (slots : SlotsLieAsTheirKeys) (bits : BytesLieAsTheirBits) (l : Limits) (w : ℕ) (c : Claim) (m : Map) (ww : IsWidth w) (h : IsClaim l w c) (is_map : IsMap l m) where
  broken : Type 0
  broken = Break (claim_strings w c) (map_strings w m)

  claim_value : (e : Pair) → Member c.pairs e → leb hash_length (length e.1) ≡ true → Member (claim_strings w c) e.1
  claim_value e p k = long_among (strings w (claim_items w c)) c.pairs e p k

  map_value : (e : Pair) → Member (entries m) e → leb hash_length (length e.1) ≡ true → Member (map_strings w m) e.1
  map_value e p k = long_among (strings w (map_items m)) (entries m) e p k

  -- a pair and an entry with one item are one, or there is a break
  one_entry : (e f : Pair) → Member c.pairs e → Member (entries m) f → entry_item e ≡ entry_item f → broken ⊎ (e ≡ f)
  unfolding broken
  one_entry e f p q s =
      let keys : bits_of_bytes e.0 ≡ bits_of_bytes f.0 = cc in
      let digests : value_digest e.1 ≡ value_digest f.1 = cc in
      let a = All-member (LiesIn c.reached) c.pairs e h.listed p in
      let b = All-member (IsPair l) (entries m) f is_map q in
      let k = bytes-injective e.0 f.0 a.bytes b.key_bytes keys in
      elim (one_value (claim_strings w c) (map_strings w m) e.1 f.1 (claim_value e p) (map_value f q) digests) [
        | inl x ↦ inl x
        | inr x ↦ inr (λ i. (k i, x i))
      ]

  -- each pair is an entry of the map in the range
  pair_there : Describes w (claim_items w c) (map_items m) → (e : Pair) → Member c.pairs e → broken ⊎ Member (filter (λ (e : Pair). holds c.reached e.0) (entries m)) e
  unfolding claim_items
  pair_there d e p =
      let there = d.val (bits_of_bytes e.0) (value_digest e.1) (pair_told slots bits l w c.reached c.pairs (nodes c) ww h.range h.listed h.shown h.sorted e p) in
      let f = Member-map-of entry_item (entries m) (entry_item e) there in
      elim (one_entry e f.0 p f.1 (sym f.2)) [
        | inl x ↦ inl x
        | inr x ↦ inr (Member-filter-in (λ (e : Pair). holds c.reached e.0) (entries m) e (subst (λ f. Member (entries m) f) (sym x) f.1) (All-member (LiesIn c.reached) c.pairs e h.listed p).inside)
      ]

  -- each entry of the map in the range is a pair
  entry_listed : Describes w (claim_items w c) (map_items m) → (e : Pair) → Member (filter (λ (e : Pair). holds c.reached e.0) (entries m)) e → broken ⊎ Member c.pairs e
  unfolding claim_items
  entry_listed d e p =
      let q = Member-filter-of (λ (e : Pair). holds c.reached e.0) (entries m) e p in
      let bytes = (All-member (IsPair l) (entries m) e is_map q.0).key_bytes in
      let inside : is_inside (key_place c.reached (bits_of_bytes e.0)) ≡ true = sym (bits c.reached e.0 h.range.start_bytes h.range.end_bytes bytes) ∙ q.1 in
      elim (d.only (bits_of_bytes e.0) (value_digest e.1) (Member-map-in entry_item (entries m) e q.0)) [
        | inl i ↦ at q.0 (told_by_pair slots bits l w c.reached c.pairs (nodes c) ww h.range h.listed h.shown (bits_of_bytes e.0) (value_digest e.1) inside (item (Val (bits_of_bytes e.0) (value_digest e.1)) i))
        | inr s ↦ absurd (let o = told_outside slots bits l w c.reached c.pairs (nodes c) ww h.range h.listed h.shown s.0 s.1 (bits_of_bytes e.0) (item (Stub s.0 s.1) s.2) s.3 in cc)
      ]
    where
      item : (i : Item) → Member (in_order (told_items w c.reached c.pairs (nodes c))) i → Told w c.reached c.pairs (nodes c) i
      item i n = told w c.reached c.pairs (nodes c) i (in_order-of (told_items w c.reached c.pairs (nodes c)) i n)

      at : Member (entries m) e → (f : Pair) × Member c.pairs f × (entry_item f ≡ entry_item e) → broken ⊎ Member c.pairs e
      at q f = elim (one_entry f.0 e f.1 q f.2) [
        | inl x ↦ inl x
        | inr x ↦ inr (subst (λ f. Member c.pairs f) x f.1)
      ]

  -- so the pairs are these entries
  pairs_are_entries : Describes w (claim_items w c) (map_items m) → broken ⊎ (c.pairs ≡ filter (λ (e : Pair). holds c.reached e.0) (entries m))
  pairs_are_entries d = go (each_or (λ e. Member (filter (λ (e : Pair). holds c.reached e.0) (entries m)) e) c.pairs (pair_there d)) (each_or (λ e. Member c.pairs e) (filter (λ (e : Pair). holds c.reached e.0) (entries m)) (entry_listed d))
    where
      go : broken ⊎ ((e : Pair) → Member c.pairs e → Member (filter (λ (e : Pair). holds c.reached e.0) (entries m)) e) → broken ⊎ ((e : Pair) → Member (filter (λ (e : Pair). holds c.reached e.0) (entries m)) e → Member c.pairs e) → broken ⊎ (c.pairs ≡ filter (λ (e : Pair). holds c.reached e.0) (entries m))
      go (inl x) r = inl x
      go (inr f) (inl x) = inl x
      go (inr f) (inr g) = inr (same_pairs c.pairs (filter (λ (e : Pair). holds c.reached e.0) (entries m)) h.sorted (AreSorted-filter (λ (e : Pair). holds c.reached e.0) (entries m) (AreSorted-IsAscending (entries m) (entries-IsAscending m))) f g)

pub accepted_claims_are_true : SlotsLieAsTheirKeys → BytesLieAsTheirBits → AcceptedClaimsAreTrue
unfolding broken
accepted_claims_are_true slots bits l w asked c m ww h is_map e = elim (soundness l w (claim_items w c) m ww (claim_items_are_valid slots bits l w c ww h) is_map (accepted_root w asked (root w m) c e)) [
  | inl b ↦ inl (Break-wider (strings w (claim_items w c)) (map_strings w m) (claim_strings w c) (map_strings w m) (λ a p. Member-append-left (strings w (claim_items w c)) _ a p) (λ a p. p) b)
  | inr d ↦ pairs_are_entries slots bits l w c m ww h is_map d
]

-- ---- points
-- a key lies in the range of it alone
holds_itself : (key : List ℕ) → holds (only key) key ≡ true
holds_itself key = let e = tied_itself nat_list_cmp_total key in rw e refl

-- what holds of each of a list holds of each with nothing behind it
All-nil : {A : Type 0} (P : A → Type 0) (xs : List A) → AllByRecursion P xs → AllByRecursion P (xs ++ [])
All-nil P [] h = tt
All-nil P (x ∷ xs) h = (h.0, All-nil P xs h.1)

-- a point proof is a claim
point_claim-IsClaim : (l : Limits) (w : ℕ) (key : List ℕ) (p : PointProof) → AreBytes key → length key ≤ l.key → AllByRecursion (IsProofNode w) p.path → IsClaim l w (point_claim key p)
point_claim-IsClaim l w key p bytes fits shown = record {
  range = record { start_bytes = bytes; end_bytes = bytes; start_short = omega arith; end_short = omega arith; order = let e = tied_itself nat_list_cmp_total key in rw e refl };
  listed = listed p.value;
  sorted = sorted p.value;
  shown = All-nil (IsProofNode w) p.path shown;
}
  where
    listed : (o : Option (List ℕ)) → AllByRecursion (LiesIn (only key)) (pair_of key o)
    listed None = tt
    listed (Some v) = (record { bytes = bytes; inside = holds_itself key }, tt)

    sorted : (o : Option (List ℕ)) → AreSorted (pair_of key o)
    sorted None = tt
    sorted (Some v) = (tt, tt)

-- the pairs at a key tell its value
point_value : (m : Map) (key : List ℕ) (o : Option (List ℕ)) → pair_of key o ≡ filter (λ (e : Pair). holds (only key) e.0) (entries m) → get m key ≡ o
point_value m key (Some v) e = get_of_member m key v (Member-filter-of (λ (e : Pair). holds (only key) e.0) (entries m) (key, v) (subst (λ es. Member es (key, v)) e (inl refl))).0
point_value m key None e = go (get m key) refl
  where
    go : (o : Option (List ℕ)) → get m key ≡ o → get m key ≡ None
    go None f = f
    go (Some v) f = absurd (subst (λ es. Member es (key, v)) (sym e) (Member-filter-in (λ (e : Pair). holds (only key) e.0) (entries m) (key, v) (member_of_get m key v f) (holds_itself key)))

pub accepted_points_are_true : SlotsLieAsTheirKeys → BytesLieAsTheirBits → AcceptedPointsAreTrue
accepted_points_are_true slots bits l w key p m ww bytes fits shown is_map e = elim (accepted_claims_are_true slots bits l w (only key) (point_claim key p) m ww (point_claim-IsClaim l w key p bytes fits shown) is_map e) [
  | inl b ↦ inl b
  | inr s ↦ inr (point_value m key p.value s)
]
