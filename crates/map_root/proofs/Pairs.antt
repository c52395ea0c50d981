-- What a builder was told, and the entries that it keeps.
use Rattle.std.proofs.Common.{◌≡◌, Bool, ℕ, suc, ◌*◌, ◌<◌, ◌≤◌, List, [], ◌∷◌, ◌++◌, length, map, get_or, refl, sym, ap, ◌∙◌, arith, subst, inl, inr, Less}
use Rattle.std.specs.List.{AllByRecursion}
use Rattle.std.proofs.lemmas.List.{map-append}
use Rattle.base_model.specs.Bytes.{AreBytes, bytes_cmp}
use Rattle.trie_model.specs.Bits.{key_cmp, IsRising}
use Rattle.trie_model.specs.Items.{Item}
use Rattle.trie_model.specs.Strings.{strings}
use Rattle.trie_model.specs.Table.{items_table}
use Rattle.trie_model.specs.Laws.{AreShort, AreStored}
use Rattle.trie_model.proofs.StoredRows.{value_rows_are_stored}
use Rattle.trie_model.specs.Maps.{Limits, Map, entry_item, digest_entry, map_items, map_digests}
use Rattle.std.specs.FinMap.{entries}
use Rattle.base_model.proofs.PackedBits.{length-bits_of_bytes, packed-bits_of_bytes, bytes-small}
use Rattle.trie_model.proofs.KeyOrder.{cmp-bytes}
use Rattle.base_model.specs.Bits.{bits_of_bytes, packed}
use Rattle.bit_keys.specs.declared.branch.Branch.{Branch}
use Rattle.bit_keys.specs.declared.branch.Branch.TheVariants.{B2, B4, B16, B256}
use Rattle.bit_keys.specs.Branch.{width_of}
use Rattle.map_root.specs.declared.entry.Entry.{Entry}
use Rattle.map_root.specs.BuilderPairs.{Built, pair_items, AreWithin}
use Rattle.trie_model.proofs.TableCounts.{same_count}
use Rattle.map_root.proofs.EntryItems.{plain_entries}
use Rattle.map_root.specs.Entries.{key_of, keys_of, items_of, pair_of, pairs_of, AreOfBytes, AreShortDigests, AreWhole}

-- ---- bytes
-- numbers that are below 256 at each place are bytes
pub bytes_below : (bs : List ℕ) → ((i : ℕ) → get_or bs i 0 < 256) → AreBytes bs
bytes_below [] h = tt
bytes_below (b ∷ bs) h = (h 0, bytes_below bs (λ i. h (suc i)))

-- the bytes of a key that was made of bytes
key_bytes : (bs : List ℕ) (k : List Bool) → AreBytes bs → k ≡ bits_of_bytes bs → packed k ≡ bs
key_bytes bs k h e = ap packed e ∙ packed-bits_of_bytes bs (bytes-small bs h)

-- ---- items
-- the items of the pairs are those of the entries
items_of_pairs : (es : List Entry) → AreOfBytes es → pair_items (pairs_of es) ≡ items_of es
items_of_pairs [] h = refl
items_of_pairs (e ∷ es) h =
    let p : bits_of_bytes (packed e.key) ≡ e.key = ap bits_of_bytes (key_bytes h.0.0 e.key h.0.1 h.0.2) ∙ sym h.0.2 in
    rw (p, items_of_pairs es h.1) refl

-- the items of a map are those of its digests
items_of_digests : (es : List (List ℕ × List ℕ)) → map entry_item es ≡ pair_items (map digest_entry es)
items_of_digests [] = refl
items_of_digests (e ∷ es) = ap (λ r. entry_item e ∷ r) (items_of_digests es)

-- a builder that was told the digests of a map keeps the items of the map
pub items_of_map : (m : Map) (ps : List (List ℕ × List ℕ)) → map_digests m ≡ ps → map_items m ≡ pair_items ps
items_of_map m ps e = items_of_digests (entries m) ∙ ap pair_items e

-- ---- keys of bytes are of whole tokens
-- a number of bits that eight divides is one that the width divides
whole_key : (b : Branch) (n l : ℕ) → l ≡ 8 * n → (m : ℕ) × (l ≡ width_of b * m)
whole_key B2 n l e = (8 * n, omega (arith, e))
whole_key B4 n l e = (4 * n, omega (arith, e))
whole_key B16 n l e = (2 * n, omega (arith, e))
whole_key B256 n l e = (n, omega (arith, e))

-- so keys of bytes are of whole tokens
pub whole_keys : (b : Branch) (es : List Entry) → AreOfBytes es → AreWhole (width_of b) es
whole_keys b [] h = tt
whole_keys b (e ∷ es) h = (whole_key b (length h.0.0) (length e.key) (ap length h.0.2 ∙ length-bits_of_bytes h.0.0), whole_keys b es h.1)

-- ---- what a builder keeps
-- is seen as what it was told, so what is made of it is made of that
pub made_same : {A : Type 0} (f : ℕ → List Item → A) (b : Built) (r : Branch) (es : List Entry) → AreOfBytes es → record { branch = r; pairs = pairs_of es } ≡ b → f (width_of r) (items_of es) ≡ f (width_of b.branch) (pair_items b.pairs)
made_same f b r es h v = ap (f (width_of r)) (sym (items_of_pairs es h)) ∙ ap (λ (b : Built). f (width_of b.branch) (pair_items b.pairs)) v

-- its table has as many rows as strings are hashed
pub count_same : (b : Built) (r : Branch) (es : List Entry) → IsRising (keys_of es) → AreOfBytes es → record { branch = r; pairs = pairs_of es } ≡ b → length (items_table (width_of r) (items_of es)) ≡ length (strings (width_of b.branch) (pair_items b.pairs))
count_same b r es a h v = same_count (length (items_of es)) (width_of r) (items_of es) (plain_entries r es a (whole_keys r es h)) (omega arith) ∙ ap length (made_same strings b r es h v)

-- its keys are within the limits in bits, and its digests are short
pairs_short : (l : Limits) (es : List Entry) → AreOfBytes es → AreShortDigests es → AreWithin l (pairs_of es) → AreShort l (items_of es)
pairs_short l [] h s t k d m = absurd m
pairs_short l (e ∷ es) h s t k d (inl m) =
    let a : e.key ≡ k = cc in
    let b : e.digest ≡ d = cc in
    let c = ap length (key_bytes h.0.0 e.key h.0.1 h.0.2) in
    let n = ap length h.0.2 ∙ length-bits_of_bytes h.0.0 in
    let f = ap length a in
    (let x = t.0 in omega (arith, c, n, f, x), subst (λ d. length d ≤ 32) b s.0)
pairs_short l (e ∷ es) h s t k d (inr m) = pairs_short l es h.1 s.1 t.1 k d m

-- so its table is in the grammar of stored nodes
pub table_stored : (b : Built) (r : Branch) (es : List Entry) → IsRising (keys_of es) → AreOfBytes es → AreShortDigests es → record { branch = r; pairs = pairs_of es } ≡ b → (l : Limits) → AreWithin l b.pairs → AreStored l (width_of b.branch) (items_table (width_of b.branch) (pair_items b.pairs))
table_stored b r es a h s v l t =
    let short = pairs_short l es h s (subst (λ (b : Built). AreWithin l b.pairs) (sym v) t) in
    subst (λ (p : ℕ × List Item). AreStored l p.0 (items_table p.0 p.1)) (made_same (λ w is. (w, is)) b r es h v) (value_rows_are_stored l (width_of r) (items_of es) (plain_entries r es a (whole_keys r es h)) short)

-- ---- one more entry
-- what holds of each and of one more holds of each of them with it at the end
All-push : {A : Type 0} (P : A → Type 0) (xs : List A) (x : A) → AllByRecursion P xs → P x → AllByRecursion P (xs ++ x ∷ [])
All-push P [] x h p = (p, tt)
All-push P (y ∷ xs) x h p = (h.0, All-push P xs x h.1 p)

-- rising keys and one above them rise
IsRising-push : (ks : List (List Bool)) (k : List Bool) → IsRising ks → AllByRecursion (λ l. key_cmp l k ≡ Less) ks → IsRising (ks ++ k ∷ [])
IsRising-push [] k h a = (tt, tt)
IsRising-push (l ∷ ks) k h a = (All-push (λ m. key_cmp l m ≡ Less) ks k h.0 a.0, IsRising-push ks k h.1 a.1)

-- bytes above all bytes so far are a key above all keys so far
above : (es : List Entry) (bs : List ℕ) → AreOfBytes es → AreBytes bs → AllByRecursion (λ (p : List ℕ × List ℕ). bytes_cmp p.0 bs ≡ Less) (pairs_of es) →
    AllByRecursion (λ k. key_cmp k (bits_of_bytes bs) ≡ Less) (keys_of es)
above [] bs h b a = tt
above (e ∷ es) bs h b a =
    (ap (λ k. key_cmp k (bits_of_bytes bs)) h.0.2 ∙ cmp-bytes h.0.0 bs h.0.1 b ∙ ap (λ x. bytes_cmp x bs) (sym (key_bytes h.0.0 e.key h.0.1 h.0.2)) ∙ a.0, above es bs h.1 b a.1)

-- what a builder keeps stays in order, and made of bytes
pub one_more : (es new : List Entry) (e : Entry) (bs : List ℕ) → new ≡ es ++ e ∷ [] → e.key ≡ bits_of_bytes bs → AreBytes bs → IsRising (keys_of es) → AreOfBytes es →
    AreShortDigests es → length e.digest ≤ 32 → AllByRecursion (λ (p : List ℕ × List ℕ). bytes_cmp p.0 bs ≡ Less) (pairs_of es) → IsRising (keys_of new) × AreOfBytes new × AreShortDigests new
one_more es new e bs n k b r o s l a = (
  subst IsRising (sym (ap keys_of n ∙ map-append key_of es (e ∷ []))) (IsRising-push (keys_of es) e.key r (subst (λ q. AllByRecursion (λ k. key_cmp k q ≡ Less) (keys_of es)) (sym k) (above es bs o b a))),
  subst AreOfBytes (sym n) (All-push (λ (e : Entry). (bs : List ℕ) × AreBytes bs × (e.key ≡ bits_of_bytes bs)) es e o (bs, b, k)),
  subst AreShortDigests (sym n) (All-push (λ (e : Entry). length e.digest ≤ 32) es e s l),
)

-- the pairs have one more at their end
pub one_more_pair : (es new : List Entry) (e : Entry) (bs : List ℕ) → new ≡ es ++ e ∷ [] → e.key ≡ bits_of_bytes bs → AreBytes bs → pairs_of new ≡ pairs_of es ++ (bs, e.digest) ∷ []
one_more_pair es new e bs n k b = ap pairs_of n ∙ map-append pair_of es (e ∷ []) ∙ ap (λ x. pairs_of es ++ (x, e.digest) ∷ []) (key_bytes bs e.key b k)
