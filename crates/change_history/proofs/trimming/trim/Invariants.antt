use Rattle.std.proofs.Common.{◌≡◌, ◌≤◌, ℕ, length}
use Rattle.std.specs.List.{sum_by}
use Rattle.change_history.specs.Histories.{commit_weight, kept}
use Rattle.change_history.proofs.trimming.trim.Given as goal

abbrev pub invariant-loop-sum : goal.invariant-loop-sum
invariant-loop-sum l = record {
  same : (n : ℕ) → length l.fn.ring.items ≤ n → kept n l.limit l.ring.items ≡ kept n l.limit l.fn.ring.items;
  few : length l.ring.items ≤ length l.fn.ring.items;
  weight : l.sum ≡ sum_by commit_weight l.ring.items;
  capacity : l.ring.capacity ≡ l.fn.ring.capacity;
}

abbrev pub decreases-loop-sum : goal.decreases-loop-sum
decreases-loop-sum l = length l.ring.items
