use Rattle.std.proofs.Common.{◌≡◌, ◌≤◌, take, length}
use Rattle.std.specs.FinMap as map_of
use Rattle.trie_model.specs.Maps.{Map}
use Rattle.view_model.specs.Maps.{laid}
use Rattle.view_stack.specs.ViewAnswers.{numbers}
use Rattle.mdb_core.proofs.store.Db.last_change.Given as goal

abbrev pub invariant-loop-left : goal.invariant-loop-left
invariant-loop-left l = record {
  within : l.left ≤ length l.fn.ids;
  rest : (m : Map) → map_of.get (laid l.fn.self.forest m (numbers l.fn.ids)) l.fn.key ≡ map_of.get (laid l.fn.self.forest m (numbers (take l.left l.fn.ids))) l.fn.key;
}

abbrev pub decreases-loop-left : goal.decreases-loop-left
decreases-loop-left l = l.left
