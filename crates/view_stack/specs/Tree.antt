-- Views by their numbers, and how they are linked.
use Rattle.std.specs.Prelude.{ℕ, zero, suc, ◌+◌, ◌-◌, ◌<◌, ◌≤◌, ◌==◌, Bool, true, false, if◌then◌else◌, List, [], ◌∷◌, ◌++◌, length, slice_index_or, slice_set}
use Rattle.std.specs.List.{sum_by}
use Rattle.view_model.specs.Forest.{payload}
use Rattle.view_stack.specs.declared.slot.Slot.{Slot}
use Rattle.view_stack.specs.declared.slot.Kept.{Kept}
use Rattle.view_stack.specs.declared.slot.Kept.TheVariants.{Live, Committed, Invalid, Closed}
use Rattle.view_stack.specs.Slots.{TreeState}

abbrev pub no_tree : TreeState
no_tree = record { slots = []; last = 0; top = 0; weight = 0; capacity = 0 }

-- in the place of a view that was never made
abbrev pub no_slot : Slot
no_slot = record { parent = 0; first = 0; next = 0; prev = 0; kept = Invalid }

abbrev pub slot_at : List Slot → ℕ → Slot
slot_at slots zero = no_slot
slot_at slots (suc i) = slice_index_or slots i no_slot

-- the number was given
pub record Has (t : TreeState) (n : ℕ) : Type 0 where
  pub given : 0 < n
  pub within : n ≤ length t.slots

abbrev pub with_slot : TreeState → ℕ → Slot → TreeState
with_slot t n s = record t { slots = slice_set t.slots (n - 1) s }

-- ---- links

-- the first live view on a view that is live or was committed last
abbrev pub first_on : TreeState → ℕ → ℕ
first_on t p = if p == t.last then t.top else (slot_at t.slots p).first

abbrev pub with_first : TreeState → ℕ → ℕ → TreeState
with_first t p first =
    if p == t.last then record t { top = first } else
    if p == 0 then t else with_slot t p (record (slot_at t.slots p) { first = first })

abbrev pub with_next : TreeState → ℕ → ℕ → TreeState
with_next t n next = with_slot t n (record (slot_at t.slots n) { next = next })

abbrev pub with_prev : TreeState → ℕ → ℕ → TreeState
with_prev t n prev = with_slot t n (record (slot_at t.slots n) { prev = prev })

-- what is left of the links where a view is taken out of those that were made on the same one
abbrev pub unlinked : TreeState → ℕ → TreeState
unlinked t n =
    let slot = slot_at t.slots n in
    let before = if slot.prev == 0 then with_first t slot.parent slot.next else with_next t slot.prev slot.next in
    if slot.next == 0 then before else with_prev before slot.next slot.prev

-- ---- what is kept

abbrev pub is_live_kept : Kept → Bool
is_live_kept (Live batch) = true
is_live_kept Committed = false
is_live_kept Invalid = false
is_live_kept Closed = false

abbrev pub kept_weight : Kept → ℕ
kept_weight (Live batch) = payload batch.value
kept_weight Committed = 0
kept_weight Invalid = 0
kept_weight Closed = 0

abbrev pub kept_at : TreeState → ℕ → Kept
kept_at t n = (slot_at t.slots n).kept

abbrev pub live_at : TreeState → ℕ → Bool
live_at t n = is_live_kept (kept_at t n)

abbrev pub marked : Bool → Kept
marked closed = if closed then Closed else Invalid

-- something else is kept of a view that was live
abbrev pub let_go : TreeState → ℕ → Kept → TreeState
let_go t n mark = record (with_slot t n (record (slot_at t.slots n) { kept = mark })) { weight = t.weight - kept_weight (kept_at t n) }

abbrev pub slot_weight : Slot → ℕ
slot_weight s = kept_weight s.kept

abbrev pub held_weight : List Slot → ℕ
held_weight slots = sum_by slot_weight slots

-- ---- one more

-- a slot more at the end
abbrev pub with_more : TreeState → Slot → TreeState
with_more t s = record t { slots = t.slots ++ s ∷ [] }

-- the links on a view, or on the store, with a number more that is higher than all of them
abbrev pub linked_to : TreeState → ℕ → ℕ → TreeState
linked_to t parent n =
    let next = first_on t parent in
    let first = with_first t parent n in
    if next == 0 then first else with_prev first next n

-- a live view more, with its changes
abbrev pub added : TreeState → ℕ → Kept → TreeState
added t parent kept =
    let more = with_more (linked_to t parent (length t.slots + 1)) (record { parent = parent; first = 0; next = first_on t parent; prev = 0; kept = kept }) in
    record more { weight = t.weight + kept_weight kept }

-- a batch that is committed at once, where no view is live
abbrev pub added_committed : TreeState → TreeState
added_committed t = record (with_more t (record { parent = t.last; first = 0; next = 0; prev = 0; kept = Committed })) { last = length t.slots + 1 }

-- the only live view on the store is committed
abbrev pub taken : TreeState → ℕ → TreeState
taken t n = record (let_go t n Committed) { last = n; top = (slot_at t.slots n).first }
