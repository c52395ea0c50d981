use Rattle.std.proofs.Common.{◌≡◌, drop}
use Rattle.proof_model.specs.Refusals.{first_place, same_bytes}
use Rattle.change_history.specs.Histories.{roots}
use Rattle.change_history.proofs.history.History.find.Given as goal

abbrev pub invariant-loop-place : goal.invariant-loop-place
invariant-loop-place l = first_place (same_bytes l.root) l.place (drop l.place (roots l.self)) ≡ first_place (same_bytes l.root) l.from (drop l.from (roots l.self))
