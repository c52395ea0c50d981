-- The words of stored nodes, as the types of this crate have them.
use Rattle.std.specs.Prelude.{◌≡◌, List, map, Result, Ok, Err}
use Rattle.trie_model.specs.StoredNode.{StoredChild, StoredFault}
use Rattle.trie_model.specs.StoredNode as stored
use Rattle.node_codec.specs.declared.node.Child.{Child}
use Rattle.node_codec.specs.declared.fault.NodeFault.{NodeFault}
use Rattle.node_codec.specs.declared.fault.NodeFault.TheVariants as faults

-- a child as data
abbrev pub stored_child : Child → StoredChild
stored_child c = record { index = c.index; rest = c.rest; id = c.id; has_value = c.has_value }

abbrev pub stored_children : List Child → List StoredChild
stored_children cs = map stored_child cs

-- the fault that reading gives; want of memory may come in the place of any answer
abbrev pub Fails : {A : Type 0} → NodeFault → Result A StoredFault → Type 0
Fails faults.NoMemory read = Unit {0}
Fails (faults.Short at) read = read ≡ Err (stored.Short at)
Fails (faults.BadFlag at) read = read ≡ Err (stored.BadFlag at)
Fails (faults.BadVarint at) read = read ≡ Err (stored.BadVarint at)
Fails (faults.Order at) read = read ≡ Err (stored.Order at)
Fails (faults.Padding at) read = read ≡ Err (stored.Padding at)
Fails (faults.Index at) read = read ≡ Err (stored.Index at)
Fails (faults.LongDigest at) read = read ≡ Err (stored.LongDigest at)
Fails (faults.Rest at) read = read ≡ Err (stored.Rest at)
Fails (faults.Trailing at) read = read ≡ Err (stored.Trailing at)

-- what a function returned, seen by view, is what reading gives, unless memory ran out
abbrev pub Gives : {X A : Type 0} → (X → A) → Result X NodeFault → Result A StoredFault → Type 0
Gives view (Ok x) read = read ≡ Ok (view x)
Gives view (Err e) read = Fails e read
