use Rattle.std.proofs.Common.{◌≡◌, ◌≤◌, ◌<◌, ◌-◌, min, drop, length, take, arith, rules, length-drop}
use Rattle.std.proofs.lemmas.List.{length-take}
use Rattle.mdb_base.proofs.ReadStep.{left_splits, nothing_left}
use Rattle.mdb_base.proofs.memory.MemSourceSource.read.Goals as goal

pub returns-clause-bytes : goal.returns-clause-bytes
returns-clause-bytes c =
    let xs = c.self.inside.bytes.items in
    let at = c.self.inside.at in
    let p = c.self.inside.piece in
    let got = c.copy_from_slice.new.self in
    let n = c.min-count.result in
    let is : got ≡ take n (drop at xs) = search rules in
    let le : at ≤ length xs = search rules in
    let some : 0 < p = search rules in
    let count : n ≡ min (min (length c.args.into.now) p) (length xs - at) = search rules in
    let size : length got ≡ n = rw is (omega (arith, length-take n (drop at xs), length-drop at xs)) in
    rw (← c.self.view_is) (
      left_splits xs got _ at n is size,
      λ none room. nothing_left xs got c.args.into.now at n p le some count size none room,
    )
