-- What the words on scripts say of each other.
use Rattle.std.specs.Prelude.{◌≡◌, ℕ, ◌≤◌, List, [], ◌∷◌, ◌++◌, length, take, true, Option, Some, None, Result, Ok, Err, reverse}
use Rattle.trie_model.specs.Maps.{Map, root}
use Rattle.batch_model.specs.Batch.{Change, after_batch}
use Rattle.text_model.specs.Texts.{view_text, root_text, taken_text}
use Rattle.text_model.specs.Words.{PlaceWord, View as OfView}
use Rattle.range_model.specs.Ranges.{Range}
use Rattle.history_model.specs.Changes.{changes}
use Rattle.history_model.specs.Between.{ChangesRefusal, changes_between}
use Rattle.history_model.specs.Held.{commit_limit, weight_limit, held}
use Rattle.view_model.specs.Forest.{Live, state, next_number}
use Rattle.view_model.specs.Calls.{make_refused, is_next}
use Rattle.session_model.specs.MapsByRoot.{between}
use Rattle.session_model.specs.Session.{Stop, start, prints, view_at, map_at, viewed, view_step, take_step, told}
use Rattle.session_model.specs.Script.{play, script, decided, text_of, batches_of, after_steps, acknowledged, session}

-- the map at which a script stands is that after its steps
abbrev pub StepsMakeTheMap : Type 0
StepsMakeTheMap = (w : ℕ) (m : Map) (bytes : List ℕ) → (script w m bytes).session.map ≡ after_steps m (script w m bytes).steps

-- and it is the last of the maps of the session
abbrev pub MapsEndThere : Type 0
MapsEndThere = (w : ℕ) (m : Map) (g : ℕ) (bytes : List ℕ) → (earlier : List Map) × ((session w m g bytes).maps ≡ earlier ++ (script w m bytes).session.map ∷ [])

-- the maps that it holds at its end are those that are held of all maps of the session, of which the last stands first
abbrev pub HeldOfAllMaps : Type 0
HeldOfAllMaps = (w : ℕ) (m : Map) (g : ℕ) (bytes : List ℕ) → (script w m bytes).session.holding.maps ≡ held commit_limit weight_limit (reverse (session w m g bytes).maps)

-- what is told of the changes between two roots
abbrev pub AreTold : Option (Map × Map) → Range → Result (List Change) ChangesRefusal → Type 0
AreTold None asked told = (why : ChangesRefusal) × (told ≡ Err why)
AreTold (Some ms) asked told = told ≡ Ok (changes ms.0 ms.1 asked)

-- the two maps that are named where changes are told are those between which a history tells them
abbrev pub ChangesAreNamed : Type 0
ChangesAreNamed = (w : ℕ) (maps : List Map) (from to : List ℕ) (asked : Range) → AreTold (between w maps from to) asked (changes_between w maps from to asked)

-- what the first bytes of an input decide, the whole input does not change
abbrev pub DecidedStops : Type 0
DecidedStops = (w : ℕ) (m : Map) (front rest : List ℕ) (stop : Stop) → decided w m front ≡ Some stop → (script w m (front ++ rest)).stop ≡ Some stop

-- where so many bytes were taken of the text of the first steps, what they acknowledge is what these steps committed, up to some batch
abbrev pub AcknowledgedStand : Type 0
AcknowledgedStand =
    (w : ℕ) (m : Map) (bytes : List ℕ) (n count : ℕ) → let steps = (script w m bytes).steps in
    n ≤ length (text_of (take count steps)) → (more : List (List Change)) × (batches_of (take count steps) ≡ acknowledged n steps ++ more)

-- what `view` printed as the root of a view is what `root` and `take` print of it later, where it is still live
abbrev pub ViewRootsStay : Type 0
ViewRootsStay =
    (w number later : ℕ) (m : Map) (before after : List (List ℕ)) (place : PlaceWord) → let s = (play w number (start m) before).session in
    make_refused s.views (view_at place) s.pending ≡ None → let t = (play w later (viewed s place) after).session in
    let n = next_number s.views in let id = root w (after_batch (map_at s place) s.pending) in
    state t.views n ≡ Some Live → ((view_step w s place).text ≡ view_text n id)
    × (told t (OfView n) (λ k. root_text (root w k)) ≡ prints (root_text id))
    × (is_next t.views n ≡ true → (take_step w t n).text ≡ taken_text n id)
