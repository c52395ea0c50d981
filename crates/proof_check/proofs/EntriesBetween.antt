-- Entries between what a path tells on the way down and on the way back up.
use Rattle.std.proofs.Common.{◌≡◌, ℕ, ◌+◌, ◌≤◌, Bool, true, false, cond, List, [], ◌∷◌, ◌++◌, length, get_or, map, take, drop, refl, sym, ap, ◌∙◌, subst, arith, append_assoc, add-one}
use Rattle.std.specs.List.{AllByRecursion, prefix_len}
use Rattle.std.proofs.lemmas.List.{append-nil, length-map, drop-map}
use Rattle.std.proofs.Math.Seq.{drop-append_seam, take-append_seam}
use Rattle.trie_model.specs.Bits.{bits_of_bytes}
use Rattle.trie_model.specs.Items.{Item}
use Rattle.trie_model.specs.Maps.{limits, entry_item}
use Rattle.trie_items.specs.Items.{item_of}
use Rattle.trie_items.specs.declared.items.Item.{Item as Listed}
use Rattle.bit_keys.specs.declared.branch.Branch.{Branch}
use Rattle.bit_keys.specs.Branch.{width_of}
use Rattle.range_model.specs.Laws.{BytesLieAsTheirBits}
use Rattle.proof_model.specs.Claims.{Claim, in_order, claim_items}
use Rattle.proof_model.specs.SoundProofs.{IsClaim}
use Rattle.proof_check.specs.Claims.{claim_of, pair_of, told_of, AreUnbroken}
use Rattle.proof_check.specs.Descents.{told_down, told_up}
use Rattle.proof_check.specs.ItemFronts.{is_before, begins_before, put_before}
use Rattle.proof_check.specs.declared.claim.Claim.{Claim as Checked}
use Rattle.proof_check.specs.declared.claim.Entry.{Entry}
use Rattle.proof_check.proofs.ItemsInRange.{some_listed, beside_out}
use Rattle.proof_check.proofs.Descents.{descent, one_more, start_path}
use Rattle.proof_check.proofs.ClaimItems.{gathered}
use Rattle.proof_check.proofs.OrderedItems.{in_order-rising}
use Rattle.proof_check.proofs.ItemsBeside.{rises_made, width_positive}

-- ---- where entries belong
-- where all of the first items come before a key, and the first of the others doesn't, those are as many as come before it
front_all : (k : List Bool) (xs ys : List Item) → prefix_len (is_before k) xs ≡ length xs → begins_before k ys ≡ false → prefix_len (is_before k) (xs ++ ys) ≡ length xs
front_all k [] [] e h = refl
front_all k [] (y ∷ ys) e h = ap (λ b. cond b (1 + prefix_len (is_before k) ys) 0) h
front_all k (x ∷ xs) ys e h = go (is_before k x) (λ f. front_all k xs ys f h) e
  where
    go : (b : Bool) → (prefix_len (is_before k) xs ≡ length xs → prefix_len (is_before k) (xs ++ ys) ≡ length xs) → cond b (1 + prefix_len (is_before k) xs) 0 ≡ length (x ∷ xs) → cond b (1 + prefix_len (is_before k) (xs ++ ys)) 0 ≡ length (x ∷ xs)
    go true ih e = let f = ih (omega (arith, e)) in omega (arith, f)
    go false ih e = absurd (omega (arith, e))

-- so entries between the two stand where they belong
seam : (k : List Bool) (ls xs ys : List Item) → prefix_len (is_before k) xs ≡ length xs → begins_before k ys ≡ false → put_before k ls (xs ++ ys) ≡ xs ++ (ls ++ ys)
seam k ls xs ys e h =
    ap (λ n. take n (xs ++ ys) ++ (ls ++ drop n (xs ++ ys))) (front_all k xs ys e h)
    ∙ ap (λ r. r ++ (ls ++ drop (length xs) (xs ++ ys))) (take-append_seam xs ys)
    ∙ ap (λ r. xs ++ (ls ++ r)) (drop-append_seam xs ys)

-- what was put together step by step
pub between : (k : List Bool) (ls down up : List Item) (a b d : List Listed) → map item_of a ≡ down → map item_of b ≡ map item_of a ++ ls → map item_of d ≡ map item_of b ++ up →
    prefix_len (is_before k) (map item_of a) ≡ length a → begins_before k (map item_of (drop (length b) d)) ≡ false → map item_of d ≡ put_before k ls (down ++ up)
between k ls down up a b d e f g n h =
    g ∙ ap (λ r. r ++ up) f ∙ append_assoc (map item_of a) ls up ∙ sym (seam k ls (map item_of a) up (n ∙ sym (length-map a item_of)) above) ∙ ap (λ r. put_before k ls (r ++ up)) e
  where
    above : begins_before k up ≡ false
    above =
        sym (ap (begins_before k) (sym (drop-map item_of (length b) d) ∙ ap (drop (length b)) g ∙ ap (λ n. drop n (map item_of b ++ up)) (sym (length-map b item_of)) ∙ drop-append_seam (map item_of b) up)) ∙ h

-- ---- a claim without an end path
pub one_path : BytesLieAsTheirBits → (b : Branch) (x : Checked) (k : List Bool) (d : Entry) (all : List Item) → IsClaim limits (width_of b) (claim_of x) → AreUnbroken (claim_of x) → x.end.now ≡ [] →
    1 ≤ length x.entries.now → k ≡ bits_of_bytes (get_or x.entries.now 0 d).key.now →
    all ≡ put_before k (map entry_item (map pair_of x.entries.now)) (told_down (width_of b) (claim_of x) x.start.now ++ told_up (width_of b) (claim_of x) x.start.now) → all ≡ claim_items (width_of b) (claim_of x)
one_path law b x k d all claim unbroken alone some key put =
    gathered w c (map entry_item c.pairs) start end beside all refl refl refl ordered
    (some_listed law c.reached claim.range k beside all (beside_out w c start end beside refl refl ordered) (rises_made beside (start ++ end) ordered) x.entries.now d some key claim.listed claim.sorted put)
  where
    w : ℕ
    w = width_of b

    c : Claim
    c = claim_of x

    start : List Item
    start = in_order (told_of w c c.start)

    end : List Item
    end = in_order (told_of w c c.end)

    beside : List Item
    beside = told_down w c c.start ++ told_up w c c.start

    ordered : beside ≡ in_order (start ++ end)
    ordered =
        sym (ap in_order (ap (λ ns. start ++ in_order (told_of w c ns)) alone ∙ append-nil start) ∙ in_order-rising start (rises_made start (told_of w c c.start) refl) ∙ descent w c c.start (width_positive b) (start_path w c claim.shown unbroken.start))
