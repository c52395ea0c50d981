-- What the words on views say of each other.
use Rattle.std.specs.Prelude.{◌≡◌, ◌≢◌, ◌↔◌, ℕ, suc, List, [], ◌∷◌, Some, true, false, ◌+◌, ◌++◌, length, ◌≤◌, Option, None}
use Rattle.view_model.specs.Forest.{Forest, ViewState, Live, Committed, Invalid, no_views, state, path_of, stands_on, weight, next_number}
use Rattle.view_model.specs.Calls.{Call, Answer, Steps, is_next, MayCommit, committed, given, number_limit, depth_limit, weight_limit, Step, parent_refused, made, directed}
use Rattle.trie_model.specs.Maps.{Map}
use Rattle.batch_model.specs.Batch.{Change, after_batch}
use Rattle.view_model.specs.Maps.{changes_of, view_map, parent_map, Moves}
use Rattle.view_model.specs.Standing.{IsForest}

-- after a commit exactly the views stay live that stand on the one that was committed
abbrev pub CommitsKeepWhatStandsOn : Type 0
CommitsKeepWhatStandsOn =
    (f : Forest) (n m : ℕ) → MayCommit f n → (state (committed f n) m ≡ Some Live) ↔ ((state f m ≡ Some Live) × (stands_on f m n ≡ true))

-- every other live view becomes invalid, and the view itself is committed
abbrev pub CommitsEndTheOthers : Type 0
CommitsEndTheOthers =
    (f : Forest) (n : ℕ) → MayCommit f n → (state (committed f n) n ≡ Some Committed)
    × ((m : ℕ) → m ≢ n → state f m ≡ Some Live → stands_on f m n ≡ false → state (committed f n) m ≡ Some Invalid)

-- the test and the condition of a commit are one
abbrev pub NextIsTold : Type 0
NextIsTold = (f : Forest) (n : ℕ) → (is_next f n ≡ true) ↔ (path_of f n ≡ f.store ++ n ∷ [])

-- a live view whose path is one number longer than that of the store may be committed
abbrev pub OneNumberMore : Type 0
OneNumberMore = (f : Forest) (n : ℕ) → state f n ≡ Some Live → length (path_of f n) ≡ length f.store + 1 → MayCommit f n

-- a view that is no longer live stays what it is, whatever is called
abbrev pub DeadViewsStay : Type 0
DeadViewsStay =
    (before after : List (Call × Answer)) (f g : Forest) → Steps no_views before f → Steps f after g
    → (n : ℕ) (s : ViewState) → state f n ≡ Some s → s ≢ Live → state g n ≡ Some s

-- no limit is passed: of numbers, of weight, and of how far the live views are from the store
pub record KeepsLimits (f : Forest) : Type 0 where
  pub few : length f.views ≤ number_limit
  pub light : weight f ≤ weight_limit
  pub near : (n : ℕ) → state f n ≡ Some Live → length (path_of f n) ≤ length f.store + depth_limit

-- after any list of calls no limit is passed
abbrev pub LimitsHold : Type 0
LimitsHold = (calls : List (Call × Answer)) (f : Forest) → Steps no_views calls f → KeepsLimits f

-- numbers from one on, each one more than that before it
abbrev pub AreFrom : ℕ → List ℕ → Type 0
AreFrom k [] = Unit {0}
AreFrom k (n ∷ ns) = (n ≡ k) × AreFrom (suc k) ns

-- the numbers that are given are 1, 2, 3 and so on, so none is given twice
abbrev pub NumbersAreGivenOnce : Type 0
NumbersAreGivenOnce = (calls : List (Call × Answer)) (f : Forest) → Steps no_views calls f → AreFrom 1 (given calls)

-- ---- forests that calls make

-- in each of them live views stand on the store or on live views
abbrev pub ForestsAreReached : Type 0
ForestsAreReached = (calls : List (Call × Answer)) (f : Forest) → Steps no_views calls f → IsForest f

-- and each call leaves it so
abbrev pub CallsKeepForests : Type 0
CallsKeepForests = (f g : Forest) (c : Call) (a : Answer) → IsForest f → Step f c a g → IsForest g

-- after a batch that is committed at once no view is live
abbrev pub DirectsEndAll : Type 0
DirectsEndAll = (f : Forest) (n : ℕ) → IsForest f → state (directed f) n ≡ Some Live → ⊥

-- ---- maps

-- a view that was just made is live, and its map is that of its parent with its batch laid on
abbrev pub MadeOnParents : Type 0
MadeOnParents =
    (f : Forest) (m : Map) (parent : Option ℕ) (batch : List Change) → IsForest f → parent_refused f parent ≡ None
    → (state (made f parent batch) (next_number f) ≡ Some Live) × (view_map (made f parent batch) m (next_number f) ≡ after_batch (parent_map f m parent) batch)

-- as long as a view stays live its map stays what it is, whatever is called
abbrev pub LiveMapsStay : Type 0
LiveMapsStay =
    (f g : Forest) (c : Call) (a : Answer) (m k : Map) → IsForest f → Step f c a g → Moves f m c a k
    → (n : ℕ) → state f n ≡ Some Live → state g n ≡ Some Live → view_map g k n ≡ view_map f m n

-- what a commit makes of the store's map is the map of the view
abbrev pub CommitsTakeMaps : Type 0
CommitsTakeMaps = (f : Forest) (m : Map) (n : ℕ) → is_next f n ≡ true → after_batch m (changes_of f n) ≡ view_map f m n
