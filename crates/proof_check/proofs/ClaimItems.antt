-- The items of a claim: its entries, and what both paths tell.
use Rattle.std.proofs.Common.{◌≡◌, ℕ, List, [], ◌∷◌, ◌++◌, map, sym, ap, ◌∙◌, subst, Less}
use Rattle.std.specs.List.{AllByRecursion}
use Rattle.base_model.specs.Bytes.{AreBytes, bytes_cmp}
use Rattle.trie_model.specs.Bits.{bits_of_bytes, IsRising}
use Rattle.trie_model.specs.Items.{Item, places, IsValid}
use Rattle.trie_model.specs.Maps.{limits, entry_item}
use Rattle.trie_model.proofs.KeyOrder.{cmp-bytes}
use Rattle.bit_keys.specs.declared.branch.Branch.{Branch}
use Rattle.bit_keys.specs.Branch.{width_of}
use Rattle.range_model.specs.Ranges.{Range}
use Rattle.proof_model.specs.Proofs.{Pair}
use Rattle.proof_model.specs.Claims.{Claim, in_order, claim_items}
use Rattle.proof_model.specs.SoundProofs.{LiesIn, AreSorted, IsClaim, ClaimItemsAreValid}
use Rattle.proof_check.specs.Claims.{told_of}
use Rattle.proof_check.proofs.WholePoints.{width_of-IsWidth}
use Rattle.proof_check.proofs.OrderedItems.{AllAbove, in_order-parts, in_order-back}
use Rattle.proof_check.proofs.ItemsBeside.{told_of-append}

-- ---- parts of lists
pub All-front : {A : Type 0} (P : A → Type 0) (xs ys : List A) → AllByRecursion P (xs ++ ys) → AllByRecursion P xs
All-front P [] ys h = tt
All-front P (x ∷ xs) ys h = (h.0, All-front P xs ys h.1)

pub All-back : {A : Type 0} (P : A → Type 0) (xs ys : List A) → AllByRecursion P (xs ++ ys) → AllByRecursion P ys
All-back P [] ys h = h
All-back P (x ∷ xs) ys h = All-back P xs ys h.1

pub All-append : {A : Type 0} (P : A → Type 0) (xs ys : List A) → AllByRecursion P xs → AllByRecursion P ys → AllByRecursion P (xs ++ ys)
All-append P [] ys h k = k
All-append P (x ∷ xs) ys h k = (h.0, All-append P xs ys h.1 k)

-- ---- entries
entries_above : (r : Range) (k : List ℕ) (es : List Pair) → AreBytes k → AllByRecursion (LiesIn r) es → AllByRecursion (λ (f : Pair). bytes_cmp k f.0 ≡ Less) es → AllAbove (bits_of_bytes k) (map entry_item es)
entries_above r k [] b h l = tt
entries_above r k (e ∷ es) b h l = (cmp-bytes k e.0 b h.0.bytes ∙ l.0, entries_above r k es b h.1 l.1)

-- the items of entries rise as their keys do
pub entries_rise : (r : Range) (es : List Pair) → AllByRecursion (LiesIn r) es → AreSorted es → IsRising (places (map entry_item es))
entries_rise r [] h s = tt
entries_rise r (e ∷ es) h s = (entries_above r e.0 es h.0.bytes h.1 s.0, entries_rise r es h.1 s.1)

-- ---- all items
-- what was gathered step by step is what the claim has
pub gathered : (w : ℕ) (c : Claim) (listed start end beside all : List Item) → listed ≡ map entry_item c.pairs → start ≡ in_order (told_of w c c.start) → end ≡ in_order (told_of w c c.end) →
    beside ≡ in_order (start ++ end) → all ≡ in_order (listed ++ beside) → all ≡ claim_items w c
unfolding claim_items
gathered w c listed start end beside all l s e b a =
    a ∙ ap (λ r. in_order (r ++ beside)) l
    ∙ ap (λ r. in_order (map entry_item c.pairs ++ r)) (b ∙ ap (λ r. in_order (r ++ end)) s ∙ ap (λ r. in_order (in_order (told_of w c c.start) ++ r)) e ∙ in_order-parts (told_of w c c.start) (told_of w c c.end))
    ∙ in_order-back (map entry_item c.pairs) (told_of w c c.start ++ told_of w c c.end)
    ∙ ap (λ r. in_order (map entry_item c.pairs ++ r)) (sym (told_of-append w c c.start c.end))

-- items that are those of a claim are a valid list
pub claim_valid : ClaimItemsAreValid → (b : Branch) (c : Claim) (is : List Item) → IsClaim limits (width_of b) c → is ≡ claim_items (width_of b) c → IsValid (width_of b) is
claim_valid law b c is h e = subst (IsValid (width_of b)) (sym e) (law limits (width_of b) c (width_of-IsWidth b) h)
