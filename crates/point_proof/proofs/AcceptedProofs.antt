-- What the check of a claim says of a point proof.
use Rattle.std.proofs.Common.{◌≡◌, ◌⊎◌, ℕ, ◌<◌, ◌≤◌, List, [], ◌∷◌, length, map, get_or, refl, ap, ◌∙◌, subst, arith, Option, Some, None, Result, Ok, Err, OnOk}
use Rattle.std.specs.Prelude.{IfErr, IsSome, SomeIff}
use Rattle.std.specs.List.{AllByRecursion}
use Rattle.std.specs.FinMap as map_of
use Rattle.std.specs.Ordering.{is_le}
use Rattle.std.specs.Cmp.{tied_itself}
use Rattle.std.proofs.lemmas.Cmp.{nat_list_cmp_total}
use Rattle.trie_model.specs.Bits.{IsWidth}
use Rattle.trie_model.specs.Maps.{Map, IsMap, key_limit, limits, map_strings}
use Rattle.trie_model.specs.Maps.{root as root_of}
use Rattle.trie_model.specs.Strings.{Break, strings}
use Rattle.range_model.specs.Ranges.{Range, IsRange, only}
use Rattle.bit_keys.specs.Ranges.{range_of}
use Rattle.bit_keys.proofs.Bounds.{are_bytes}
use Rattle.proof_model.specs.Paths.{ProofNode, IsProofNode}
use Rattle.proof_model.specs.Proofs.{PointProof, Pair, point_proof}
use Rattle.proof_model.specs.Claims.{Claim, point_claim, claim_items, claim_strings}
use Rattle.proof_model.specs.Claims.{pair_of as pairs_of}
use Rattle.proof_model.specs.Refusals.{Refusal, refusal, point_refusal}
use Rattle.proof_model.specs.SoundProofs.{AcceptedPointsAreTrue}
use Rattle.proof_model.specs.TrueClaims.{TruePointsAreAccepted}
use Rattle.proof_check.specs.Claims.{keys_of, pair_of}
use Rattle.proof_check.specs.CheckResults.{IsReason, Tells, Costs}
use Rattle.proof_check.specs.declared.claim.Entry.{Entry}
use Rattle.proof_check.specs.declared.verify_fault.VerifyFault.{VerifyFault}
use Rattle.proof_check.specs.declared.verify_fault.VerifyFault.TheVariants as faults

-- ---- the range of one key

pub only-IsRange : (key start end : List ℕ) → ((i : ℕ) → get_or key i 0 < 256) → length key ≤ key_limit → start ≡ key → end ≡ key → IsRange limits (range_of (Some start) (Some end))
only-IsRange key start end h l e f = rw (e, f) (record {
  start_bytes = are_bytes key h;
  end_bytes = are_bytes key h;
  start_short = omega (arith, l);
  end_short = omega (arith, l);
  order = ap is_le (tied_itself nat_list_cmp_total key);
})

pub is_there : {T : Type 0} (o : Option T) (P : Type 0) (v : T) → SomeIff o P v → P → IsSome o
is_there None P v h p = absurd (h p)
is_there (Some x) P v h p = refl

-- ---- a point proof as a claim

keys_of_pairs : (es : List Entry) → keys_of es ≡ map (λ (e : Pair). e.0) (map pair_of es)
keys_of_pairs [] = refl
keys_of_pairs (e ∷ es) = ap (λ r. e.key.now ∷ r) (keys_of_pairs es)

pub claim_is : (es : List Entry) (r : Range) (start end : List ProofNode) (key : List ℕ) (p : PointProof) → map pair_of es ≡ pairs_of key p.value → r ≡ only key → start ≡ p.path → end ≡ []
    → record { keys = keys_of es; reached = r; pairs = map pair_of es; start = start; end = end; idle = None } ≡ point_claim key p
claim_is es r start end key p e f s n =
    ap (λ (ks : List (List ℕ)). record { keys = ks; reached = r; pairs = map pair_of es; start = start; end = end; idle = None }) (keys_of_pairs es)
    ∙ ap (λ (ps : List Pair). record { keys = map (λ (e : Pair). e.0) ps; reached = r; pairs = ps; start = start; end = end; idle = None }) e
    ∙ rw (f, s, n) refl

pub told_of_point : (r : Result (Unit {0}) VerifyFault) (w : ℕ) (asked : Range) (root : List ℕ) (c : Claim) (key : List ℕ) (p : PointProof) → asked ≡ only key → c ≡ point_claim key p → Tells r (refusal w asked root c) → Tells r (point_refusal w key root p)
told_of_point r w asked root c key p e f h = subst (λ c. Tells r (refusal w (only key) root c)) f (subst (λ a. Tells r (refusal w a root c)) e h)

pub cost_of_point : (r : Result (Unit {0}) VerifyFault) (w old new : ℕ) (c : Claim) (key : List ℕ) (p : PointProof) → c ≡ point_claim key p → Costs r old new (length (strings w (claim_items w c))) → Costs r old new (length (strings w (claim_items w (point_claim key p))))
cost_of_point r w old new c key p f h = subst (λ c. Costs r old new (length (strings w (claim_items w c)))) f h

-- ---- what is accepted

-- where there is no reason, the fault is want of memory
pub no_reason : (f : VerifyFault) (why : Option Refusal) → why ≡ None → IsReason f why → f ≡ faults.NoMemory
no_reason (faults.Unsorted place) why e h = absurd (cc)
no_reason (faults.Outside place) why e h = absurd (cc)
no_reason (faults.PathOrder place) why e h = absurd (cc)
no_reason (faults.PathsDiffer place) why e h = absurd (cc)
no_reason (faults.Idle place) why e h = absurd (cc)
no_reason (faults.RootDiffers have want) why e h = absurd (cc)
no_reason faults.Failed why e h = absurd h
no_reason faults.NoMemory why e h = refl

module _ (w : ℕ) (ww : IsWidth w) (root key : List ℕ) (bytes : (i : ℕ) → get_or key i 0 < 256) (short : length key ≤ key_limit) (p : PointProof) where
  -- is true of each map with the root
  pub accepted_is_true : AcceptedPointsAreTrue → (r : Result (Unit {0}) VerifyFault) → AllByRecursion (IsProofNode w) p.path → Tells r (point_refusal w key root p)
      → OnOk r ((m : Map) → IsMap limits m → root ≡ root_of w m → Break (claim_strings w (point_claim key p)) (map_strings w m) ⊎ (map_of.get m key ≡ p.value))
  accepted_is_true law (Ok x) nodes told = λ m h e. law limits w key p m ww (are_bytes key bytes) short nodes h (subst (λ root. point_refusal w key root p ≡ None) e told)
  accepted_is_true law (Err f) nodes told = tt

  -- and what is true is accepted, where there is memory
  pub true_is_accepted : TruePointsAreAccepted → (r : Result (Unit {0}) VerifyFault) → Tells r (point_refusal w key root p)
      → (m : Map) → IsMap limits m → root ≡ root_of w m → p ≡ point_proof w m key → IfErr r (λ fault. fault ≡ faults.NoMemory)
  true_is_accepted law (Ok x) told m h e q = tt
  true_is_accepted law (Err f) told m h e q =
      no_reason f (point_refusal w key root p) (ap (λ root. point_refusal w key root p) e ∙ ap (point_refusal w key (root_of w m)) q ∙ law limits w m key ww h (are_bytes key bytes) short) told
