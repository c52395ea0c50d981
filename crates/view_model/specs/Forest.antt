-- Views: changes that are proposed on a store or on other views. Each has a number, and the path of numbers that leads to it.
use Rattle.std.specs.Prelude.{ℕ, ◌+◌, Bool, true, false, ◌&&◌, ◌==◌, nat_lt, if◌then◌else◌, List, [], ◌∷◌, ◌++◌, length, Option, Some, None, option_map, unwrap_or}
use Rattle.std.specs.List.{find, list_any, sum_by}
use Rattle.batch_model.specs.Batch.{Change, batch_form}

-- A view. Its changes are kept as long as it is live. It is closed where it, or a view on its path, was closed while it
-- was live.
pub record View : Type 0 where
  pub number : ℕ
  -- the path of its parent, which is the store or a view
  pub parent : List ℕ
  pub batch : Option (List Change)
  pub closed : Bool

-- the numbers that were committed so far, and every view that was ever made, both in their order
pub record Forest : Type 0 where
  pub store : List ℕ
  pub views : List View

-- before the first view
abbrev pub no_views : Forest
no_views = record { store = []; views = [] }

-- ---- paths

-- the path of a view: that of its parent, and its own number
abbrev pub path : View → List ℕ
path v = v.parent ++ v.number ∷ []

abbrev pub is_prefix : List ℕ → List ℕ → Bool
is_prefix [] ys = true
is_prefix (x ∷ xs) [] = false
is_prefix (x ∷ xs) (y ∷ ys) = x == y && is_prefix xs ys

abbrev pub is_proper_prefix : List ℕ → List ℕ → Bool
is_proper_prefix xs ys = is_prefix xs ys && nat_lt (length xs) (length ys)

abbrev pub is_among : ℕ → List ℕ → Bool
is_among n ns = list_any (λ m. m == n) ns

-- ---- states

pub data ViewState : Type 0 where
  Live : ViewState
  Committed : ViewState
  Invalid : ViewState
  Closed : ViewState

-- the state of a view, by the path of the store
abbrev pub state_of : List ℕ → View → ViewState
state_of store v =
    if is_among v.number store then Committed else
    if v.closed then Closed else
    if is_proper_prefix store (path v) then Live else
    Invalid

abbrev pub is_live : List ℕ → View → Bool
is_live store v = elim (state_of store v) [ Live ↦ true | Committed ↦ false | Invalid ↦ false | Closed ↦ false ]

-- ---- by their numbers

abbrev pub view_of : Forest → ℕ → Option View
view_of f n = find (λ (v : View). v.number == n) f.views

-- the state of the view of a number; None where that was never given
abbrev pub state : Forest → ℕ → Option ViewState
state f n = option_map (state_of f.store) (view_of f n)

-- the path of the view of a number, where there is one
abbrev pub path_of : Forest → ℕ → List ℕ
path_of f n = unwrap_or (option_map path (view_of f n)) []

-- the view of a number stands on another, directly or not
abbrev pub stands_on : Forest → ℕ → ℕ → Bool
stands_on f n other = is_proper_prefix (path_of f other) (path_of f n)

-- the number that is given next
abbrev pub next_number : Forest → ℕ
next_number f = length f.views + 1

-- ---- weight

-- how many bytes a batch takes as it is spelled
abbrev pub payload : List Change → ℕ
payload cs = length (batch_form cs)

abbrev pub batch_payload : Option (List Change) → ℕ
batch_payload None = 0
batch_payload (Some cs) = payload cs

-- what a view weighs: live ones the payload of their batch, others nothing
abbrev pub view_weight : List ℕ → View → ℕ
view_weight store v = if is_live store v then batch_payload v.batch else 0

abbrev pub weight : Forest → ℕ
weight f = sum_by (view_weight f.store) f.views
