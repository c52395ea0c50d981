-- The worked change proofs, by computing.
use Rattle.std.proofs.Common.{◌≡◌, ℕ, true, false, List, [], ◌∷◌, Option, Some, None, refl, ap, ◌∙◌}
use Rattle.std.specs.FinMap.{get, get-empty}
use Rattle.base_model.specs.Bytes.{bytes_cmp}
use Rattle.base_model.specs.Uvarint.{uvarint}
use Rattle.trie_model.specs.Maps.{Map}
use Rattle.range_model.specs.Ranges.{everything}
use Rattle.batch_model.specs.Batch.{Change}
use Rattle.history_model.specs.Changes.{change_size, same_value}
use Rattle.history_model.specs.Held.{no_map}
use Rattle.history_model.specs.Laws.{NoneToItself}
use Rattle.history_model.specs.Worked.{first, third, ChangesOfThree}
use Rattle.proof_model.specs.ChangeProofs.{proof_of_changes, is_idle, change_refusal}
use Rattle.proof_model.specs.ChangeWire.{changes_form}
use Rattle.proof_model.specs.Refusals.{Idle, refusal, path_refusal}
use Rattle.proof_model.specs.TakenEntries.{taken, is_cut}
use Rattle.proof_model.specs.WorkedChanges.{bare_changes, put_a, delete, OneChange, NoChange, IdleIsRefused, TwiceIsRefused, BesideIsRefused}
use Rattle.proof_model.proofs.ChangedMaps.{get-at, get-beside}

-- the bytes of a proof of these changes
bytes_of : Map → List Change → List ℕ
bytes_of m cs = changes_form (proof_of_changes 4 m everything (is_cut change_size 10 100 cs) (taken change_size 10 100 cs))

pub one_change : ChangesOfThree → OneChange
unfolding bytes_of taken uvarint
one_change law = ap (bytes_of third) law.0

pub no_change : NoneToItself → NoChange
unfolding bytes_of taken uvarint
no_change law m = ap (bytes_of m) (law m everything)

-- ---- refusals
has_a : get first (0x0a ∷ []) ≡ Some (0x61 ∷ [])
has_a = get-at no_map (0x0a ∷ []) (Some (0x61 ∷ []))

has_no_b : get first (0x0b ∷ []) ≡ None
has_no_b = get-beside no_map (0x0a ∷ []) (Some (0x61 ∷ [])) (0x0b ∷ []) (λ e. cc) ∙ get-empty bytes_cmp (0x0b ∷ [])

-- one change that is idle, and a second one
idle_first : (c : Change) (want : List ℕ) → is_idle first c ≡ true → change_refusal 4 everything first want (bare_changes (c ∷ [])) ≡ Some (Idle 0)
unfolding refusal path_refusal
idle_first c want e = rw e refl

idle_second : (want : List ℕ) → is_idle first (put_a (0x62 ∷ [])) ≡ false → is_idle first (delete (0x0b ∷ [])) ≡ true → change_refusal 4 everything first want (bare_changes (put_a (0x62 ∷ []) ∷ delete (0x0b ∷ []) ∷ [])) ≡ Some (Idle 1)
unfolding refusal path_refusal
idle_second want e f = rw (e, f) refl

pub idle_is_refused : IdleIsRefused
idle_is_refused = (
  λ want. idle_first (put_a (0x61 ∷ [])) want (ap (λ v. same_value v (Some (0x61 ∷ []))) has_a),
  λ want. idle_second want (ap (λ v. same_value v (Some (0x62 ∷ []))) has_a) (ap (λ v. same_value v None) has_no_b),
  ap (λ v. same_value v None) has_a,
)

pub twice_is_refused : TwiceIsRefused
unfolding refusal
twice_is_refused want local = refl

pub beside_is_refused : BesideIsRefused
unfolding refusal
beside_is_refused want local = refl
