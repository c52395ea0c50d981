use Rattle.std.proofs.Common.{◌≡◌, ◌+◌, ◌-◌, ◌≤◌, length, drop, eqb}
use Rattle.std.specs.List.{common_prefix_len}
use Rattle.bit_keys.proofs.key.equal_bytes.Given as goal

abbrev pub invariant-loop-equal : goal.invariant-loop-equal
invariant-loop-equal l = record {
  in_a : l.equal ≤ length l.a;
  in_b : l.equal ≤ length l.b;
  so_far : l.equal + common_prefix_len eqb (drop l.equal l.a) (drop l.equal l.b) ≡ common_prefix_len eqb l.a l.b;
}

abbrev pub decreases-loop-equal : goal.decreases-loop-equal
decreases-loop-equal l = length l.a - l.equal
