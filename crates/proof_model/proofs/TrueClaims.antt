-- Proofs that are made of a map are accepted against its root.
use Rattle.std.proofs.Common.{◌≡◌, ℕ, suc, ◌*◌, ◌≤◌, Bool, true, false, cond, ◌&&◌, List, [], ◌∷◌, ◌++◌, length, map, refl, sym, ap, ◌∙◌, arith, subst, ◌⊎◌, inl, inr, Option, Some, None, Ordering, Less, Equal, Greater}
use Rattle.std.specs.Prelude.{IfSome}
use Rattle.std.specs.List.{filter}
use Rattle.std.specs.FinMap.{entries}
use Rattle.std.specs.Ordering.{is_le}
use Rattle.std.proofs.Math.Nat.{mul_assoc}
use Rattle.std.proofs.lemmas.Cmp.{nat_list_cmp_total}
use Rattle.std.proofs.lemmas.List.{map-append}
use Rattle.base_model.specs.Bytes.{AreBytes, bytes_cmp}
use Rattle.base_model.specs.Member.{Member}
use Rattle.base_model.proofs.PackedBits.{length-bits_of_bytes}
use Rattle.trie_model.specs.Bits.{bits_of_bytes, IsWidth}
use Rattle.trie_model.specs.Ids.{id}
use Rattle.trie_model.specs.Items.{Item, Val, places, AreValues}
use Rattle.trie_model.specs.Maps.{Map, Limits, IsMap, IsPair, entry_item, map_items, root}
use Rattle.trie_model.specs.Table.{node_keys, row_at}
use Rattle.trie_model.proofs.Entries.{tied_equal, entries-IsAscending}
use Rattle.trie_model.proofs.KeySets.{Member-append-of, Member-map-in, Member-map-of}
use Rattle.trie_model.proofs.Lists.{All-member, Member-append-left, Member-append-right, Member-filter-of, Member-filter-in}
use Rattle.trie_model.proofs.Tables.{AreValues-map_items}
use Rattle.trie_model.proofs.Valid.{valid_by_members, map_items-IsValid}
use Rattle.range_model.specs.Laws.{SlotsLieAsTheirKeys, BytesLieAsTheirBits}
use Rattle.range_model.specs.Ranges.{Range, IsRange, holds, is_from, is_up_to, are_in_order, key_place, is_inside, bound_limit}
use Rattle.proof_model.specs.Paths.{shown_row}
use Rattle.proof_model.specs.Proofs.{Pair}
use Rattle.proof_model.specs.Claims.{Claim, items_beside, in_order, claim_items}
use Rattle.proof_model.specs.Refusals.{Refusal, Unsorted, Outside, Idle, first_break, first_place, is_less, lies_outside, or_else, path_refusal, root_refusal, refusal}
use Rattle.proof_model.specs.SoundProofs.{AreSorted}
use Rattle.proof_model.specs.TrueClaims.{path_to, IsReached, IsTrueClaim, TrueClaimsAreAccepted}
use Rattle.proof_model.proofs.ClaimItems.{told_items}
use Rattle.proof_model.proofs.DescribedValues.{id-drawn}
use Rattle.proof_model.proofs.PathKeys.{AreNodeKeys, IsChain, path_keys, path_keys-IsChain, path_keys-of, path_keys-root, path_keys-closed, path_keys-child}
use Rattle.proof_model.proofs.RangeBounds.{IsBound}
use Rattle.proof_model.proofs.SortedPairs.{AreSorted-filter, AreSorted-IsAscending}
use Rattle.proof_model.proofs.TrueItems.{IsShown, AreAllInside, items-Drawn}
use Rattle.proof_model.proofs.TruePaths.{node_keys-AreNodeKeys, shown, path_rows-keys, no_path_refusal, same_bytes-itself}

-- ---- ranges
-- what two tests tell together, each tells
pub both : (a b : Bool) → (a && b) ≡ true → (a ≡ true) × (b ≡ true)
both true true e = (refl, refl)
both true false e = absurd cc
both false b e = absurd cc

-- a byte string that is at most another is at most what that is at most
pub le-through : (a b c : List ℕ) → is_le (bytes_cmp a b) ≡ true → is_le (bytes_cmp b c) ≡ true → is_le (bytes_cmp a c) ≡ true
le-through a b c p q = go (bytes_cmp a b) refl (bytes_cmp b c) refl p q
  where
    go : (x : Ordering) → bytes_cmp a b ≡ x → (y : Ordering) → bytes_cmp b c ≡ y → is_le x ≡ true → is_le y ≡ true → is_le (bytes_cmp a c) ≡ true
    go Less e Less f p q = ap is_le (nat_list_cmp_total.trans a b c e f)
    go Less e Equal f p q = ap is_le (ap (bytes_cmp a) (sym (tied_equal b c f)) ∙ e)
    go Equal e y f p q = ap is_le (ap (λ a. bytes_cmp a c) (tied_equal a b e) ∙ f) ∙ q
    go x e Greater f p q = absurd cc
    go Greater e y f p q = absurd cc

-- so the end of a range may be moved back
pub up_to-through : (o : Option (List ℕ)) (key last : List ℕ) → is_le (bytes_cmp key last) ≡ true → is_up_to o last ≡ true → is_up_to o key ≡ true
up_to-through None key last p q = refl
up_to-through (Some b) key last p q = le-through key last b p q

module _ (l : Limits) (m : Map) (asked reached : Range) (is_map : IsMap l m) (fits : IsRange l asked) (h : IsReached m asked reached) where
  -- a key of the map is a byte string within the limit
  key_of_map : (k : List ℕ) → Member (map (λ (e : Pair). e.0) (entries m)) k → AreBytes k × (length k ≤ bound_limit l)
  key_of_map k n =
      let e = Member-map-of (λ (e : Pair). e.0) (entries m) k n in
      let p = All-member (IsPair l) (entries m) e.0 is_map e.1 in
      (subst AreBytes e.2 p.key_bytes, omega (arith, p.key_short, ap length e.2))

  -- the range that is reached is a range
  reached-IsRange : IsRange l reached
  reached-IsRange = record {
    start_bytes = subst (λ o. IfSome o AreBytes) (sym h.start) fits.start_bytes;
    start_short = subst (λ o. IfSome o (λ a. length a ≤ bound_limit l)) (sym h.start) fits.start_short;
    end_bytes = elim h.end [
      | inl e ↦ subst (λ o. IfSome o AreBytes) (sym e) fits.end_bytes
      | inr e ↦ subst (λ o. IfSome o AreBytes) (sym e.1) (key_of_map e.0 e.2).0
    ];
    end_short = elim h.end [
      | inl e ↦ subst (λ o. IfSome o (λ a. length a ≤ bound_limit l)) (sym e) fits.end_short
      | inr e ↦ subst (λ o. IfSome o (λ a. length a ≤ bound_limit l)) (sym e.1) (key_of_map e.0 e.2).1
    ];
    order = ap (λ o. are_in_order o reached.end) h.start ∙ elim h.end [
      | inl e ↦ ap (are_in_order asked.start) e ∙ fits.order
      | inr e ↦ ap (are_in_order asked.start) e.1 ∙ from asked.start e.0 (both (is_from asked.start e.0) (is_up_to asked.end e.0) e.3).0
    ];
  }
    where
      from : (o : Option (List ℕ)) (last : List ℕ) → is_from o last ≡ true → are_in_order o (Some last) ≡ true
      from None last e = refl
      from (Some a) last e = e

  -- what lies in it was asked for
  reached_asked : (key : List ℕ) → holds reached key ≡ true → holds asked key ≡ true
  reached_asked key e =
      let p = both (is_from reached.start key) (is_up_to reached.end key) e in
      rw (ap (λ o. is_from o key) (sym h.start) ∙ p.0, upper p.1) refl
    where
      upper : is_up_to reached.end key ≡ true → is_up_to asked.end key ≡ true
      upper q = elim h.end [
        | inl e ↦ ap (λ o. is_up_to o key) (sym e) ∙ q
        | inr e ↦ up_to-through asked.end key e.0 (ap (λ o. is_up_to o key) (sym e.1) ∙ q) (both (is_from asked.start e.0) (is_up_to asked.end e.0) e.3).1
      ]

-- ---- entries
-- sorted pairs have no key that is not above the one before it
pub no_unsorted : (n : ℕ) (es : List Pair) → AreSorted es → first_break is_less n (map (λ (e : Pair). e.0) es) ≡ None
no_unsorted n [] h = refl
no_unsorted n (e ∷ []) h = refl
no_unsorted n (e ∷ f ∷ es) h = rw (h.0.0) (no_unsorted (suc n) (f ∷ es) h.1)

-- pairs that lie in a range have no key outside
pub none_outside : (r : Range) (n : ℕ) (es : List Pair) → ((e : Pair) → Member es e → holds r e.0 ≡ true) → first_place (lies_outside r) n (map (λ (e : Pair). e.0) es) ≡ None
none_outside r n [] h = refl
none_outside r n (e ∷ es) h = go (holds r e.0) (h e (inl refl)) (none_outside r (suc n) es (λ f m. h f (inr m)))
  where
    go : (b : Bool) → b ≡ true → first_place (lies_outside r) (suc n) (map (λ (e : Pair). e.0) es) ≡ None → cond (cond b false true) (Some n) (first_place (lies_outside r) (suc n) (map (λ (e : Pair). e.0) es)) ≡ None
    go true f ih = ih
    go false f ih = absurd cc

-- an ID is not refused against itself
pub no_root_refusal : (a : List ℕ) → root_refusal a a ≡ None
no_root_refusal a = rw (same_bytes-itself a) refl

-- ---- what is shown
-- what is made of what is made of a list
pub map-map : {A B C : Type 0} (f : A → B) (g : B → C) (xs : List A) → map g (map f xs) ≡ map (λ x. g (f x)) xs
map-map f g [] = refl
map-map f g (x ∷ xs) = ap (λ r. g (f x) ∷ r) (map-map f g xs)

module _ (slots : SlotsLieAsTheirKeys) (bits : BytesLieAsTheirBits) (l : Limits) (w : ℕ) (m : Map) (ww : IsWidth w) (is_map : IsMap l m) where
  abbrev is : List Item
  is = map_items m

  abbrev ks : List (List Bool)
  ks = node_keys w (places is)

  values : AreValues w is
  values = AreValues-map_items l w m ww is_map

  keys : AreNodeKeys w ks
  keys = node_keys-AreNodeKeys w is values

  -- ---- paths
  -- the keys of the path to a bound
  abbrev keys_to : Option (List ℕ) → List (List Bool)
  keys_to None = []
  keys_to (Some b) = path_keys w (bits_of_bytes b) ks

  -- the bits of bytes are whole tokens
  tall : (b : List ℕ) → (n : ℕ) × (length (bits_of_bytes b) ≡ w * n)
  tall b = (ww.1.0 * length b, length-bits_of_bytes b ∙ ap (λ c. c * length b) ww.1.1 ∙ mul_assoc w ww.1.0 (length b))

  keys_to-IsChain : (o : Option (List ℕ)) → IsChain (keys_to o)
  keys_to-IsChain None = tt
  keys_to-IsChain (Some b) = path_keys-IsChain w ks keys (bits_of_bytes b) (tall b)

  -- its nodes
  path_to-keys : (o : Option (List ℕ)) → path_to w m o ≡ map (shown w is) (keys_to o)
  path_to-keys None = refl
  path_to-keys (Some b) = ap (map shown_row) (path_rows-keys w is (bits_of_bytes b)) ∙ map-map (row_at w is) shown_row (path_keys w (bits_of_bytes b) ks)

  -- the keys of paths to the bounds of a range are shown for it
  paths-IsShown : (r : Range) (cs : List (List Bool)) →
      ((c : List Bool) → Member cs c → (b : List ℕ) × Member (keys_to (Some b)) c × ((d : List Bool) → Member (keys_to (Some b)) d → Member cs d)) →
      ((b : List ℕ) → IsBound r b → (d : List Bool) → Member (keys_to (Some b)) d → Member cs d) → IsShown w ks r cs
  paths-IsShown r cs f g = record {
    of = λ c n. let x = f c n in path_keys-of w ks keys (bits_of_bytes x.0) (tall x.0) c x.1;
    closed = λ d c n o b. let x = f d n in x.2 c (path_keys-closed w ks keys (bits_of_bytes x.0) (tall x.0) d c x.1 o b);
    root = λ b n q. g b n q.key (path_keys-root w ks keys (bits_of_bytes b) (tall b) q);
    child = λ b n c s o a e h q. g b n q.key (path_keys-child w ks keys (bits_of_bytes b) (tall b) c s o a e h q);
  }

  -- ---- pairs
  module _ (r : Range) (range : IsRange l r) where
    abbrev pairs : List Pair
    pairs = filter (λ (e : Pair). holds r e.0) (entries m)

    -- where a key of the map lies, by its bits
    bits_lie : (e : Pair) → Member (entries m) e → holds r e.0 ≡ is_inside (key_place r (bits_of_bytes e.0))
    bits_lie e n = bits r e.0 range.start_bytes range.end_bytes (All-member (IsPair l) (entries m) e is_map n).key_bytes

    pairs-AreAllInside : AreAllInside r pairs is
    pairs-AreAllInside = record {
      of = λ e n. let x = Member-filter-of (λ (e : Pair). holds r e.0) (entries m) e n in (Member-map-in entry_item (entries m) e x.0, sym (bits_lie e x.0) ∙ x.1);
      all = λ k d n i.
          let x = Member-map-of entry_item (entries m) (Val k d) n in
          let same : bits_of_bytes x.0.0 ≡ k = cc in
          let there = bits_lie x.0 x.1 ∙ ap (λ k. is_inside (key_place r k)) same ∙ i in
          subst (Member (map entry_item pairs)) x.2 (Member-map-in entry_item pairs x.0 (Member-filter-in (λ (e : Pair). holds r e.0) (entries m) x.0 x.1 there));
    }

    -- the items of a true proof have the root of the map
    pub told_root : (cs : List (List Bool)) → IsShown w ks r cs → id w (in_order (told_items w r pairs (map (shown w is) cs))) ≡ root w m
    told_root cs s =
        id-drawn w (in_order (told_items w r pairs (map (shown w is) cs))) is
        (items-Drawn slots l w is r pairs cs values (valid_by_members w is (map_items-IsValid l w m ww is_map)) range pairs-AreAllInside s)

  -- ---- claims
  module _ (c : Claim) (range : IsRange l c.reached) (h : IsTrueClaim w m c) where
    -- the keys of the end path
    record EndKeys : Type 0 where
      cs : List (List Bool)
      nodes : c.end ≡ map (shown w is) cs
      chain : IsChain cs
      of : (d : List Bool) → Member cs d → (b : List ℕ) × IsBound c.reached b × Member (keys_to (Some b)) d
      has : (b : List ℕ) → c.reached.end ≡ Some b → (d : List Bool) → Member (keys_to (Some b)) d → Member cs d ⊎ (c.reached.start ≡ Some b)

    -- a key of the path to a bound is of one
    to_bound : (o : Option (List ℕ)) (d : List Bool) → Member (keys_to o) d → (b : List ℕ) × (o ≡ Some b) × Member (keys_to (Some b)) d
    to_bound None d n = absurd n
    to_bound (Some b) d n = (b, refl, n)

    end_keys : EndKeys
    end_keys = elim h.end [
      | inl e ↦ record {
        cs = keys_to c.reached.end;
        nodes = e ∙ path_to-keys c.reached.end;
        chain = keys_to-IsChain c.reached.end;
        of = λ d n. let x = to_bound c.reached.end d n in (x.0, inr x.1, x.2);
        has = λ b f d n. inl (subst (λ o. Member (keys_to o) d) (sym f) n);
      }
      | inr e ↦ record { cs = []; nodes = e.1; chain = tt; of = λ d n. absurd n; has = λ b f d n. inr (sym e.0 ∙ f) }
    ]

    abbrev start_keys : List (List Bool)
    start_keys = keys_to c.reached.start

    start_nodes : c.start ≡ map (shown w is) start_keys
    start_nodes = h.start ∙ path_to-keys c.reached.start

    -- both paths are shown for the range
    both_shown : IsShown w ks c.reached (start_keys ++ end_keys.cs)
    both_shown = paths-IsShown c.reached (start_keys ++ end_keys.cs) (λ d n. let x = bound d n in (x.0, x.2, all x.0 x.1)) all
      where
        bound : (d : List Bool) → Member (start_keys ++ end_keys.cs) d → (b : List ℕ) × IsBound c.reached b × Member (keys_to (Some b)) d
        bound d n = elim (Member-append-of start_keys end_keys.cs d n) [
          | inl x ↦ let y = to_bound c.reached.start d x in (y.0, inl y.1, y.2)
          | inr x ↦ end_keys.of d x
        ]

        at_start : (b : List ℕ) (d : List Bool) → c.reached.start ≡ Some b → Member (keys_to (Some b)) d → Member (start_keys ++ end_keys.cs) d
        at_start b d e n = Member-append-left start_keys end_keys.cs d (subst (λ o. Member (keys_to o) d) (sym e) n)

        all : (b : List ℕ) → IsBound c.reached b → (d : List Bool) → Member (keys_to (Some b)) d → Member (start_keys ++ end_keys.cs) d
        all b (inl e) d n = at_start b d e n
        all b (inr e) d n = elim (end_keys.has b e d n) [
          | inl x ↦ Member-append-right start_keys end_keys.cs d x
          | inr x ↦ at_start b d x n
        ]

    -- so the items have the root of the map
    pub true_claim_root : id w (claim_items w c) ≡ root w m
    unfolding claim_items
    true_claim_root =
        ap (λ es. id w (in_order (map entry_item es ++ items_beside w c.reached (c.start ++ c.end)))) h.pairs
        ∙ ap (λ ns. id w (in_order (told_items w c.reached (pairs c.reached range) (ns ++ c.end)))) start_nodes
        ∙ ap (λ ns. id w (in_order (told_items w c.reached (pairs c.reached range) (map (shown w is) start_keys ++ ns)))) end_keys.nodes
        ∙ ap (λ ns. id w (in_order (told_items w c.reached (pairs c.reached range) ns))) (sym (map-append (shown w is) start_keys end_keys.cs))
        ∙ told_root c.reached range (start_keys ++ end_keys.cs) both_shown

    -- and the paths are not refused
    pub true_claim_paths : (next : Option Refusal) → path_refusal c.start c.end next ≡ next
    true_claim_paths next =
        ap (λ ns. path_refusal ns c.end next) start_nodes
        ∙ ap (λ ns. path_refusal (map (shown w is) start_keys) ns next) end_keys.nodes
        ∙ no_path_refusal w is start_keys end_keys.cs next (keys_to-IsChain c.reached.start) end_keys.chain

    -- nor is the claim, where all of its range was asked for
    pub true_claim_passes : (asked : Range) → ((key : List ℕ) → holds c.reached key ≡ true → holds asked key ≡ true) → refusal w asked (root w m) c ≡ None
    unfolding refusal
    true_claim_passes asked inside =
        let es = pairs c.reached range in
        let listed : c.keys ≡ map (λ (e : Pair). e.0) es = h.keys ∙ ap (map (λ (e : Pair). e.0)) h.pairs in
        let sorted = AreSorted-filter (λ (e : Pair). holds c.reached e.0) (entries m) (AreSorted-IsAscending (entries m) (entries-IsAscending m)) in
        let last = or_else Idle c.idle (root_refusal (id w (claim_items w c)) (root w m)) in
        ap (λ o. or_else Unsorted o (or_else Outside (first_place (lies_outside asked) 0 c.keys) (path_refusal c.start c.end last))) (ap (first_break is_less 0) listed ∙ no_unsorted 0 es sorted)
        ∙ ap (λ o. or_else Outside o (path_refusal c.start c.end last)) (ap (first_place (lies_outside asked) 0) listed ∙ none_outside asked 0 es (λ e n. inside e.0 (Member-filter-of (λ (e : Pair). holds c.reached e.0) (entries m) e n).1))
        ∙ true_claim_paths last
        ∙ ap (λ o. or_else Idle o (root_refusal (id w (claim_items w c)) (root w m))) h.idle
        ∙ ap (λ i. root_refusal i (root w m)) true_claim_root
        ∙ no_root_refusal (root w m)

pub true_claims_are_accepted : SlotsLieAsTheirKeys → BytesLieAsTheirBits → TrueClaimsAreAccepted
true_claims_are_accepted slots bits l w m asked c ww is_map fits reached h =
    true_claim_passes slots bits l w m ww is_map c (reached-IsRange l m asked c.reached is_map fits reached) h asked (reached_asked l m asked c.reached is_map fits reached)
