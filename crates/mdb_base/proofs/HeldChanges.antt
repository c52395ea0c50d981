-- What a change that is set makes of the changes that a batch holds.
use Rattle.std.proofs.Common.{◌≡◌, ℕ, ◌+◌, ◌-◌, ◌^◌, ◌<◌, ◌≤◌, List, length, get_or, set, None, refl, subst, arith}
use Rattle.std.specs.List.{flat_map, insert, AllByRecursion}
use Rattle.std.proofs.lemmas.List.Concat.{length-flat_map}
use Rattle.std.proofs.lemmas.List.Sums.{sum_by-set, sum_by-insert, get_or-le-sum_by}
use Rattle.trie_model.specs.Maps.{limits}
use Rattle.batch_model.specs.Batch.{Change, IsChange, AreRising, change_form}
use Rattle.batch_model.proofs.SetChanges.{set_changes_keep_batches}
use Rattle.mdb_base.specs.Batches.{IsPlaceOf, IsGapFor}
use Rattle.mdb_base.specs.HeldChanges.{AreHeld}

bytes_of : Change → ℕ
bytes_of x = length (change_form x)

-- ---- how many bytes the changes take

-- one change takes no more than all
pub one_of_all : (cs : List Change) (n : ℕ) (at : ℕ) (d : Change) → AreHeld cs n → at < length cs → length (change_form (get_or cs at d)) ≤ n
unfolding bytes_of
one_of_all cs n at d held l = omega (arith, held.bytes, length-flat_map change_form cs, get_or-le-sum_by bytes_of cs at d l)

bytes-set : (cs : List Change) (at : ℕ) (c d : Change) → at < length cs → length (flat_map change_form (set cs at c)) + length (change_form (get_or cs at d)) ≡ length (flat_map change_form cs) + length (change_form c)
unfolding bytes_of
bytes-set cs at c d l = omega (arith, length-flat_map change_form cs, length-flat_map change_form (set cs at c), sum_by-set bytes_of cs at c d l)

bytes-insert : (cs : List Change) (at : ℕ) (c : Change) → length (flat_map change_form (insert cs at c)) ≡ length (flat_map change_form cs) + length (change_form c)
unfolding bytes_of
bytes-insert cs at c = omega (arith, length-flat_map change_form cs, length-flat_map change_form (insert cs at c), sum_by-insert bytes_of cs at c)

-- ---- the changes after one was set

-- in the place of the one with its key
pub held-set : (cs : List Change) (n : ℕ) (at : ℕ) (c d : Change) (m : ℕ) → AreHeld cs n → IsPlaceOf cs c.key at → IsChange limits c → m ≡ n - length (change_form (get_or cs at d)) + length (change_form c) → m < 2 ^ 63 → AreHeld (set cs at c) m
held-set cs n at c d m held place fits e few =
    let kept = set_changes_keep_batches limits cs c fits held.changes held.rising in
    let both = subst (λ (xs : List Change). AllByRecursion (IsChange limits) xs × AreRising None xs) (place.set c refl) kept in
    record {
      changes = both.0;
      rising = both.1;
      bytes = omega (arith, e, held.bytes, one_of_all cs n at d held place.inside, bytes-set cs at c d place.inside);
      few = few;
    }

-- where no change has its key
pub held-insert : (cs : List Change) (n : ℕ) (at : ℕ) (c : Change) (m : ℕ) → AreHeld cs n → IsGapFor cs c.key at → IsChange limits c → m ≡ n + length (change_form c) → m < 2 ^ 63 → AreHeld (insert cs at c) m
held-insert cs n at c m held gap fits e few =
    let kept = set_changes_keep_batches limits cs c fits held.changes held.rising in
    let both = subst (λ (xs : List Change). AllByRecursion (IsChange limits) xs × AreRising None xs) (gap.set c refl) kept in
    record {
      changes = both.0;
      rising = both.1;
      bytes = omega (arith, e, held.bytes, bytes-insert cs at c);
      few = few;
    }
