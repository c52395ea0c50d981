-- How a view stands, and why a line of a script is refused, in the words that are printed.
use Rattle.std.specs.Prelude.{ℕ, if◌then◌else◌, List, ◌++◌, codes, Option, Some, None, option_map}
use Rattle.std.specs.Option.{option_or}
use Rattle.view_model.specs.Forest.{Forest, ViewState, Live, Committed, Invalid, Closed}
use Rattle.view_model.specs.Calls.{Refusal, Unknown, NotLive, TooMany, TooDeep, TooHeavy, view_refused, is_next}

abbrev pub state_word : ViewState → List ℕ
state_word Live = codes "Live"
state_word Committed = codes "Committed"
state_word Invalid = codes "Invalid"
state_word Closed = codes "Closed"

abbrev pub cause_words : Refusal → List ℕ
cause_words Unknown = codes "unknown"
cause_words (NotLive state) = codes "not live " ++ state_word state
cause_words TooMany = codes "too many"
cause_words TooDeep = codes "too deep"
cause_words TooHeavy = codes "too heavy"

-- why the view of a number is not committed, in words: it has to be live, and its parent has to be the store as it is now
abbrev pub take_refused : Forest → ℕ → Option (List ℕ)
take_refused f n = option_or (option_map cause_words (view_refused f n)) (if is_next f n then None else Some (codes "not parent"))
