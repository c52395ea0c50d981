-- The check for the range that changes tell of: which claim is checked, and that it tells what the definitions tell.
use Rattle.std.proofs.Common.{◌≡◌, ℕ, suc, Bool, true, false, cond, List, [], ◌∷◌, ◌++◌, length, map, refl, sym, ap, ◌∙◌, subst, ◌⊎◌, inl, inr, Option, Some, None, Result, Ok, Err}
use Rattle.std.specs.Prelude.{IsErrOf}
use Rattle.std.specs.FinMap.{find}
use Rattle.std.specs.List.{AllByRecursion}
use Rattle.base_model.specs.Bytes.{bytes_cmp}
use Rattle.base_model.specs.Member.{Member}
use Rattle.trie_model.specs.Ids.{id}
use Rattle.trie_model.specs.Maps.{Map, limits}
use Rattle.trie_model.specs.Strings.{strings}
use Rattle.trie_model.proofs.KeySets.{All-of}
use Rattle.trie_model.proofs.Lists.{All-member}
use Rattle.trie_model.proofs.PartsOfValues.{All-append}
use Rattle.range_model.specs.Ranges.{Range, IsRange, holds}
use Rattle.batch_model.specs.Batch.{Change, after_batch}
use Rattle.history_model.specs.Changes.{same_value}
use Rattle.trie_items.specs.Sources.{SourceWords, IsSource, Answers}
use Rattle.trie_items.specs.declared.source_fault.SourceFault.{SourceFault}
use Rattle.trie_items.specs.declared.source_fault.SourceFault.TheVariants as sources
use Rattle.proof_model.specs.ChangeProofs.{ChangeProof, is_idle}
use Rattle.proof_model.specs.Claims.{Claim, claim_items}
use Rattle.proof_model.specs.Paths.{ProofNode, IsProofNode}
use Rattle.proof_model.specs.Proofs.{Pair}
use Rattle.proof_model.specs.RangeProofs.{pairs_in}
use Rattle.proof_model.specs.Refusals.{Refusal, Unsorted, Outside, Idle, RootDiffers, first_break, first_place, is_less, lies_outside, or_else, path_refusal, root_refusal, refusal, same_bytes}
use Rattle.proof_model.specs.SoundProofs.{AreSorted}
use Rattle.proof_model.proofs.TrueClaims.{map-map, no_unsorted, none_outside}
use Rattle.proof_check.specs.Claims.{pair_of, IsCheckable}
use Rattle.proof_check.specs.Claims as checked
use Rattle.proof_check.specs.CheckResults.{Tells, Costs, of_source}
use Rattle.proof_check.proofs.FirstReasons.{path_next}
use Rattle.proof_check.specs.declared.claim.Entry.{Entry}
use Rattle.proof_check.specs.declared.verify_fault.VerifyFault.{VerifyFault}
use Rattle.proof_check.specs.declared.verify_fault.VerifyFault.TheVariants as faults
use Rattle.point_proof.proofs.SourceCalls.{WentWell}
use Rattle.change_proof.specs.LaidChanges.{laid, with_change, put_of, is_idle_in}
use Rattle.change_proof.specs.CheckAnswers.{TellsOr, TellsEarly, reached_claim, late_refusal, source_answer}
use Rattle.change_proof.proofs.ChangedPairs.{with_change-of, put_of-of, with_change-AreSorted, laid-pairs_in, find-pairs_in}

-- ---- the pairs that are checked
pub laid-AreSorted : (cs : List Change) (es : List Pair) → AreSorted es → AreSorted (laid es cs)
laid-AreSorted [] es h = h
laid-AreSorted (c ∷ cs) es h = laid-AreSorted cs (with_change c es) (with_change-AreSorted c es h)

pub laid-inside : (r : Range) (cs : List Change) (es : List Pair) → AreSorted es → AllByRecursion (λ (c : Change). holds r c.key ≡ true) cs → AllByRecursion (λ (e : Pair). holds r e.0 ≡ true) es → AllByRecursion (λ (e : Pair). holds r e.0 ≡ true) (laid es cs)
laid-inside r [] es s h a = a
laid-inside r (c ∷ cs) es s h a =
    laid-inside r cs (with_change c es) (with_change-AreSorted c es s) h.1
    (All-of (λ (e : Pair). holds r e.0 ≡ true) (with_change c es) (λ e n. elim (with_change-of c es s e n) [
      | inl k ↦ ap (holds r) (put_of-of c e k).0 ∙ h.0
      | inr k ↦ All-member (λ (e : Pair). holds r e.0 ≡ true) es e a k.0
    ]))

-- ---- the claim that is checked
abbrev pub made_claim : Range → List Pair → ChangeProof → Claim
made_claim r es p = record { keys = map (λ (e : Pair). e.0) es; reached = r; pairs = es; start = p.start; end = p.end; idle = None }

pub claim_is : (entries : List Entry) (r : Range) (start end : List ProofNode) (es : List Pair) (p : ChangeProof) → map pair_of entries ≡ es → start ≡ p.start → end ≡ p.end
    → record { keys = checked.keys_of entries; reached = r; pairs = map pair_of entries; start = start; end = end; idle = None } ≡ made_claim r es p
claim_is entries r start end es p q s n =
    let keys : checked.keys_of entries ≡ map (λ (e : Pair). e.0) es = sym (map-map pair_of (λ (e : Pair). e.0) entries) ∙ ap (map (λ (e : Pair). e.0)) q in
    λ i. record { keys = keys i; reached = r; pairs = q i; start = s i; end = n i; idle = None }

module _ (w : ℕ) (r : Range) (p : ChangeProof) where
  pub checkable : (es : List Pair) → IsRange limits r → AllByRecursion (IsProofNode w) p.start → AllByRecursion (IsProofNode w) p.end → IsCheckable w r (made_claim r es p)
  checkable es range s n = record { range = range; reaches = λ sorted inside. inside; shown = All-append (IsProofNode w) p.start p.end s n }

  -- pairs in order in the range, and paths that are not refused, leave the root alone to tell
  pub made_refusal : (root : List ℕ) (es : List Pair) → AreSorted es → AllByRecursion (λ (e : Pair). holds r e.0 ≡ true) es → path_refusal p.start p.end None ≡ None
      → refusal w r root (made_claim r es p) ≡ root_refusal (id w (claim_items w (made_claim r es p))) root
  unfolding refusal
  made_refusal root es s a q =
      let last = root_refusal (id w (claim_items w (made_claim r es p))) root in
      ap (λ o. or_else Unsorted o (or_else Outside (first_place (lies_outside r) 0 (map (λ (e : Pair). e.0) es)) (path_refusal p.start p.end last))) (no_unsorted 0 es s)
      ∙ ap (λ o. or_else Outside o (path_refusal p.start p.end last)) (none_outside r 0 es (λ e n. All-member (λ (e : Pair). holds r e.0 ≡ true) es e a n))
      ∙ path_next p.start p.end last q

  -- its items are those of the claim by the definitions, where the pairs are the same
  pub same_items : (m : Map) (es : List Pair) → es ≡ pairs_in (after_batch m p.changes) r → claim_items w (made_claim r es p) ≡ claim_items w (reached_claim r m p)
  unfolding claim_items
  same_items m es q = ap (λ (es : List Pair). claim_items w (made_claim r es p)) q

  -- ---- a map that is told
  module _ (m : Map) (local : List Pair) (told : local ≡ pairs_in m r) (inside : AllByRecursion (λ (c : Change). holds r c.key ≡ true) p.changes) where
    pub idle-is : first_place (is_idle_in local) 0 p.changes ≡ first_place (is_idle m) 0 p.changes
    idle-is = go p.changes 0 inside
      where
        go : (cs : List Change) (n : ℕ) → AllByRecursion (λ (c : Change). holds r c.key ≡ true) cs → first_place (is_idle_in local) n cs ≡ first_place (is_idle m) n cs
        go [] n h = refl
        go (c ∷ cs) n h =
            ap (λ b. cond b (Some n) (first_place (is_idle_in local) (suc n) cs)) (ap (λ v. same_value v c.value) (ap (find bytes_cmp c.key) told ∙ find-pairs_in r m c.key h.0))
            ∙ ap (λ o. cond (is_idle m c) (Some n) o) (go cs (suc n) h.1)

    pub pairs-is : laid local p.changes ≡ pairs_in (after_batch m p.changes) r
    pairs-is = ap (λ es. laid es p.changes) told ∙ laid-pairs_in r p.changes m inside

    -- no change is idle, and the root tells
    pub late_root : (root : List ℕ) → first_place (is_idle_in local) 0 p.changes ≡ None → late_refusal w r m root p ≡ root_refusal (id w (claim_items w (made_claim r (laid local p.changes) p))) root
    late_root root none =
        ap (λ o. or_else Idle o (root_refusal (id w (claim_items w (reached_claim r m p))) root)) (sym idle-is ∙ none)
        ∙ ap (λ is. root_refusal (id w is) root) (sym (same_items m (laid local p.changes) pairs-is))

    -- one is
    pub late_idle : (root : List ℕ) (place : ℕ) → first_place (is_idle_in local) 0 p.changes ≡ Some place → late_refusal w r m root p ≡ Some (Idle place)
    late_idle root place some = ap (λ o. or_else Idle o (root_refusal (id w (claim_items w (reached_claim r m p))) root)) (sym idle-is ∙ some)

-- ---- what is told
pub tells_or : (result : Result (Unit {0}) VerifyFault) (why : Option Refusal) → Tells result why → TellsOr result why
tells_or (Ok x) why h = h
tells_or (Err (faults.Unsorted i)) why h = h
tells_or (Err (faults.Outside i)) why h = h
tells_or (Err (faults.PathOrder i)) why h = h
tells_or (Err (faults.PathsDiffer i)) why h = h
tells_or (Err (faults.Idle i)) why h = h
tells_or (Err (faults.RootDiffers have want)) why h = h
tells_or (Err faults.Failed) why h = tt
tells_or (Err faults.NoMemory) why h = tt

-- a root is no reason that comes early
pub root_late : (result : Result (Unit {0}) VerifyFault) (have want : List ℕ) → Tells result (root_refusal have want) → TellsEarly result None
root_late result have want h = go result (same_bytes have want) h
  where
    go : (result : Result (Unit {0}) VerifyFault) (b : Bool) → Tells result (cond b None (Some (RootDiffers have want))) → TellsEarly result None
    go (Ok x) b h = refl
    go (Err (faults.Unsorted i)) true h = absurd cc
    go (Err (faults.Unsorted i)) false h = absurd cc
    go (Err (faults.Outside i)) true h = absurd cc
    go (Err (faults.Outside i)) false h = absurd cc
    go (Err (faults.PathOrder i)) true h = absurd cc
    go (Err (faults.PathOrder i)) false h = absurd cc
    go (Err (faults.PathsDiffer i)) true h = absurd cc
    go (Err (faults.PathsDiffer i)) false h = absurd cc
    go (Err (faults.Idle i)) b h = refl
    go (Err (faults.RootDiffers have want)) b h = refl
    go (Err faults.Failed) b h = refl
    go (Err faults.NoMemory) b h = tt

-- ---- idle changes
-- what was searched, in the words of the pairs and of the proof
pub idle_at : (o : Option ℕ) (es local : List Pair) (ds cs : List Change) → o ≡ first_place (is_idle_in es) 0 ds → es ≡ local → ds ≡ cs → first_place (is_idle_in local) 0 cs ≡ o
idle_at o es local ds cs h p q = ap (λ cs. first_place (is_idle_in local) 0 cs) (sym q) ∙ ap (λ es. first_place (is_idle_in es) 0 ds) (sym p) ∙ sym h

-- ---- the whole check
module _ (w : ℕ) (r : Range) (p : ChangeProof) (root : List ℕ) (local : List Pair) (entries : List Entry) (start end : List ProofNode) (sorted : AreSorted local) (inside : AllByRecursion (λ (e : Pair). holds r e.0 ≡ true) local)
    (within : AllByRecursion (λ (c : Change). holds r c.key ≡ true) p.changes) (paths : path_refusal p.start p.end None ≡ None) (q : map pair_of entries ≡ laid local p.changes) (s : start ≡ p.start) (n : end ≡ p.end) where
  abbrev checked_claim : Claim
  checked_claim = record { keys = checked.keys_of entries; reached = r; pairs = map pair_of entries; start = start; end = end; idle = None }

  module _ (result : Result (Unit {0}) VerifyFault) (told : Tells result (refusal w r root checked_claim)) where
    root_tells : Tells result (root_refusal (id w (claim_items w (made_claim r (laid local p.changes) p))) root)
    root_tells =
        subst (Tells result)
        (ap (refusal w r root) (claim_is entries r start end (laid local p.changes) p q s n) ∙ made_refusal w r p root (laid local p.changes) (laid-AreSorted p.changes local sorted) (laid-inside r p.changes local sorted within inside) paths) told

    -- no reason that comes early is told
    pub is_late : TellsEarly result None
    is_late = root_late result (id w (claim_items w (made_claim r (laid local p.changes) p))) root root_tells

    -- by a map that is told the reason is that of the definitions
    pub is_told : (m : Map) → local ≡ pairs_in m r → first_place (is_idle_in local) 0 p.changes ≡ None → TellsOr result (late_refusal w r m root p)
    is_told m t none = subst (TellsOr result) (sym (late_root w r p m local t within root none)) (tells_or result (root_refusal (id w (claim_items w (made_claim r (laid local p.changes) p))) root) root_tells)

  -- and so is the cost
  pub is_cost : (result : Result (Unit {0}) VerifyFault) (old new : ℕ) (m : Map) → local ≡ pairs_in m r → Costs result old new (length (strings w (claim_items w checked_claim))) → Costs result old new (length (strings w (claim_items w (reached_claim r m p))))
  is_cost result old new m t cost =
      subst (λ is. Costs result old new (length (strings w is))) (ap (claim_items w) (claim_is entries r start end (laid local p.changes) p q s n) ∙ same_items w r p m (laid local p.changes) (pairs-is w r p m local t within)) cost
