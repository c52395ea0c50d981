-- What each call does to a forest of views, and why it is refused.
use Rattle.std.specs.Prelude.{nat_eq, ◌≡◌, ℕ, ◌+◌, ◌-◌, ◌≤◌, ◌<◌, true, false, nat_lt, nat_le, if◌then◌else◌, List, [], ◌∷◌, ◌++◌, length, map, Option, Some, None, Bool}
use Rattle.std.specs.Option.{option_or}
use lib.Pointwise.{pointwise}
use Rattle.batch_model.specs.Batch.{Change}
use Rattle.view_model.specs.Forest.{View, Forest, ViewState, Live, Committed, Invalid, Closed, path, is_prefix, is_live, state, path_of, next_number, payload, weight}

-- ---- limits

-- how many numbers are given at most
abbrev pub number_limit : ℕ
number_limit = 1000000

-- how many numbers a new path has behind that of the store, at most
abbrev pub depth_limit : ℕ
depth_limit = 64

-- how many bytes the payloads of all live views have at most
abbrev pub weight_limit : ℕ
weight_limit = 268435456

-- ---- refusals

pub data Refusal : Type 0 where
  -- the number was never given
  Unknown : Refusal
  -- the view of this number is no longer live
  NotLive : ViewState → Refusal
  -- all numbers were given
  TooMany : Refusal
  -- the path would go too far past that of the store
  TooDeep : Refusal
  -- the live views would weigh too much
  TooHeavy : Refusal

-- why nothing is done with a view, by its state: it has to be live
abbrev pub refused_in : Option ViewState → Option Refusal
refused_in None = Some Unknown
refused_in (Some Live) = None
refused_in (Some Committed) = Some (NotLive Committed)
refused_in (Some Invalid) = Some (NotLive Invalid)
refused_in (Some Closed) = Some (NotLive Closed)

abbrev pub view_refused : Forest → ℕ → Option Refusal
view_refused f n = refused_in (state f n)

-- a parent is the store, or a view that has to be live
abbrev pub parent_refused : Forest → Option ℕ → Option Refusal
parent_refused f None = None
parent_refused f (Some n) = view_refused f n

-- the path of a parent
abbrev pub parent_path : Forest → Option ℕ → List ℕ
parent_path f None = f.store
parent_path f (Some n) = path_of f n

-- how far the path of a new view would go past that of the store
abbrev pub new_depth : Forest → Option ℕ → ℕ
new_depth f parent = (length (parent_path f parent) + 1) - length f.store

-- the first limit that one view more would pass
abbrev pub limit_passed : Forest → Option ℕ → List Change → Option Refusal
limit_passed f parent batch =
    if nat_le number_limit (length f.views) then Some TooMany else
    if nat_lt depth_limit (new_depth f parent) then Some TooDeep else
    if nat_lt weight_limit (weight f + payload batch) then Some TooHeavy else
    None

-- why a view is not made
abbrev pub make_refused : Forest → Option ℕ → List Change → Option Refusal
make_refused f parent batch = option_or (parent_refused f parent) (limit_passed f parent batch)

-- only its own number parts the view of this number from the store
abbrev pub is_next : Forest → ℕ → Bool
is_next f n = pointwise nat_eq (path_of f n) (f.store ++ n ∷ [])

-- a live view may be committed where only its own number parts it from the store
abbrev pub MayCommit : Forest → ℕ → Type 0
MayCommit f n = (state f n ≡ Some Live) × (path_of f n ≡ f.store ++ n ∷ [])

-- ---- calls

-- one view more, on the store or on a view
abbrev pub made : Forest → Option ℕ → List Change → Forest
made f parent batch =
    record f { views = f.views ++ record { number = next_number f; parent = parent_path f parent; batch = Some batch; closed = false } ∷ [] }

-- of a view that is not live the changes are not kept
abbrev pub kept_by : List ℕ → View → View
kept_by store v = record v { batch = if is_live store v then v.batch else None }

-- the path of the store goes on by a number
abbrev pub committed : Forest → ℕ → Forest
committed f n = let store = f.store ++ n ∷ [] in record { store = store; views = map (kept_by store) f.views }

-- a direct batch is a view on the store that is committed at once; its changes are not kept
abbrev pub directed : Forest → Forest
directed f = committed (made f None []) (next_number f)

-- a view is closed where its path leads through this one
abbrev pub closed_by : List ℕ → View → View
closed_by through v = if is_prefix through (path v) then record v { batch = None; closed = true } else v

-- a view is closed, and those that stand on it
abbrev pub closed : Forest → ℕ → Forest
closed f n = record f { views = map (closed_by (path_of f n)) f.views }

-- ---- lists of calls

pub data Call : Type 0 where
  -- a view with these changes, on the store or on the view of a number
  Make : Option ℕ → List Change → Call
  -- a batch that is committed at once
  Direct : Call
  Close : ℕ → Call
  Commit : ℕ → Call

pub data Answer : Type 0 where
  -- a number was given
  Given : ℕ → Answer
  Done : Answer
  Refused : Refusal → Answer
  NoMemory : Answer

-- a call with its answer leads from one forest to the next
abbrev pub Step : Forest → Call → Answer → Forest → Type 0
Step f (Make parent batch) (Given n) g = (make_refused f parent batch ≡ None) × (n ≡ next_number f) × (g ≡ made f parent batch)
Step f (Make parent batch) (Refused r) g = (make_refused f parent batch ≡ Some r) × (g ≡ f)
Step f (Make parent batch) NoMemory g = (make_refused f parent batch ≡ None) × (g ≡ f)
Step f (Make parent batch) Done g = ⊥
Step f Direct (Given n) g = (length f.views < number_limit) × (n ≡ next_number f) × (g ≡ directed f)
Step f Direct (Refused r) g = (number_limit ≤ length f.views) × (r ≡ TooMany) × (g ≡ f)
Step f Direct NoMemory g = g ≡ f
Step f Direct Done g = ⊥
Step f (Close n) Done g = (view_refused f n ≡ None) × (g ≡ closed f n)
Step f (Close n) (Refused r) g = (view_refused f n ≡ Some r) × (g ≡ f)
Step f (Close n) (Given m) g = ⊥
Step f (Close n) NoMemory g = ⊥
Step f (Commit n) Done g = MayCommit f n × (g ≡ committed f n)
Step f (Commit n) (Given m) g = ⊥
Step f (Commit n) (Refused r) g = ⊥
Step f (Commit n) NoMemory g = ⊥

-- calls with their answers, one after another
abbrev pub Steps : Forest → List (Call × Answer) → Forest → Type 0
Steps f [] g = g ≡ f
Steps f (s ∷ ss) g = (between : Forest) × Step f s.0 s.1 between × Steps between ss g

-- the numbers that were given
abbrev pub given : List (Call × Answer) → List ℕ
given [] = []
given ((c, Given n) ∷ ss) = n ∷ given ss
given ((c, Done) ∷ ss) = given ss
given ((c, Refused r) ∷ ss) = given ss
given ((c, NoMemory) ∷ ss) = given ss
