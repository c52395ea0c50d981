-- What a store holds after a commit, which map a root names in it, and what changed between two of them.
use Rattle.std.proofs.Common.{◌≡◌, ℕ, Bool, true, false, cond, List, [], ◌∷◌, refl, sym, ap, ◌∙◌, subst, Option, Some, None, option_map, Result, Ok, Err}
use Rattle.std.specs.Prelude.{is_some, IfSome}
use Rattle.std.specs.Option.{option_and_then}
use Rattle.trie_model.specs.Maps.{Map, root}
use Rattle.range_model.specs.Ranges.{Range}
use Rattle.batch_model.specs.Batch.{Change}
use Rattle.history_model.specs.Changes.{changes, change_size}
use Rattle.history_model.specs.Between.{ChangesRefusal, changes_between}
use Rattle.history_model.specs.Held.{held, until_root, with_root}
use Rattle.proof_model.specs.Refusals.{same_bytes}
use Rattle.proof_model.specs.TakenEntries.{taken as taken_of}
use Rattle.proof_model.specs.ChangeProofs.{ChangeProof, proof_of_changes}
use Rattle.proof_model.specs.ChangeWire.{changes_form}
use Rattle.text_model.specs.Texts.{changes_text}
use Rattle.text_model.specs.Words.{RootWord}
use Rattle.session_model.specs.MapsByRoot.{holds_next, root_meant, named, and_later, leading_to, between, changes_proof_of, changes_proved}
use Rattle.session_model.specs.Laws.{AreTold}
use Rattle.session_model.proofs.NamedMaps.{changes_are_named}
use Rattle.change_history.specs.ToldChanges.{Tells}
use Rattle.change_history.specs.declared.telling.Taken.{Taken}
use Rattle.change_history.specs.declared.fault.HistoryFault.{HistoryFault}
use Rattle.change_history.specs.declared.fault.HistoryFault.TheVariants as faults
use Rattle.disk_model.specs.Files.{Files}
use Rattle.change_history.proofs.ToldMaps.{root_names}
use Rattle.mdb_core.specs.Stores.{DbState, Keeps, held_maps}
use Rattle.mdb_core.specs.Places.{is_named}
use Rattle.mdb_core.specs.Spots.{IsSpotOf}
use Rattle.mdb_core.specs.declared.spot.Spot.{Spot}
use Rattle.mdb_core.specs.declared.store.At.TheVariants.{Root}
use Rattle.script_run.specs.NamedSpots.{IsSpotNamed, IsTakenBetween, IsProofBetween}
use Rattle.store_opening.specs.Opening.{holding_of}

-- one map more, of which the limits stay
pub held_next : (db db' : DbState) (m next : Map) → (db'.history.commits ≡ db.history.commits) × (db'.history.weight ≡ db.history.weight)
    → held_maps db' next ≡ held db.history.commits db.history.weight (next ∷ held_maps db m) → holding_of db' next ≡ holds_next (holding_of db m) next
held_next db db' m next limits maps =
    ap (λ n. record { commits = n; weight = db'.history.weight; maps = held_maps db' next }) limits.0
    ∙ ap (λ z. record { commits = db.history.commits; weight = z; maps = held_maps db' next }) limits.1
    ∙ ap (λ (ms : List Map). record { commits = db.history.commits; weight = db.history.weight; maps = ms }) maps

-- ---- which map a root names

pub none_meant : (w : ℕ) (maps : List Map) (word : RootWord) → None ≡ root_meant w maps word → named w maps word ≡ None
none_meant w maps word is = ap (option_and_then (with_root w maps)) (sym is)

pub some_meant : (w : ℕ) (maps : List Map) (word : RootWord) (id : List ℕ) → Some id ≡ root_meant w maps word → named w maps word ≡ with_root w maps id
some_meant w maps word id is = ap (option_and_then (with_root w maps)) (sym is)

module _ (s : DbState) (m : Map) (files : Files) (keeps : Keeps s m files) (id : List ℕ) where
  told_named : is_some (with_root s.width (held_maps s m) id) ≡ is_named s (Root id)
  told_named = root_names s.width s.history m id keeps.history

  pub not_named : is_named s (Root id) ≡ false → with_root s.width (held_maps s m) id ≡ None
  not_named is = go (with_root s.width (held_maps s m) id) (told_named ∙ is)
    where
      go : (o : Option Map) → is_some o ≡ false → o ≡ None
      go None e = refl
      go (Some n) e = let no : ⊥ = cc e in absurd no

  pub spot_named : (spot : Spot) → is_named s (Root id) ≡ true → IfSome (with_root s.width (held_maps s m) id) (IsSpotOf s m spot) → IsSpotNamed s m (Some spot) (with_root s.width (held_maps s m) id)
  spot_named spot is = go (with_root s.width (held_maps s m) id) (told_named ∙ is)
    where
      go : (o : Option Map) → is_some o ≡ true → IfSome o (IsSpotOf s m spot) → IsSpotNamed s m (Some spot) o
      go None e h = let no : ⊥ = cc e in no
      go (Some n) e h = h

-- what a root names, by its spot
pub none_of : (s : DbState) (m : Map) (o : Option Map) → IsSpotNamed s m None o → o ≡ None
none_of s m None h = refl
none_of s m (Some n) h = absurd h

pub one_of : (s : DbState) (m : Map) (spot : Spot) (o : Option Map) → IsSpotNamed s m (Some spot) o → (n : Map) × (o ≡ Some n) × IsSpotOf s m spot n
one_of s m spot None h = absurd h
one_of s m spot (Some n) h = (n, refl, h)

-- ---- changes between two of them

-- the later map is the one that its root names
first_named : (w : ℕ) (maps : List Map) (id : List ℕ) (later : Map) (rest : List Map) → until_root w maps id ≡ later ∷ rest → with_root w maps id ≡ Some later
first_named w [] id later rest is = let no : ⊥ = cc is in absurd no
first_named w (m ∷ maps) id later rest is = go (same_bytes id (root w m)) (first_named w maps id later rest) is
  where
    go : (b : Bool) → (until_root w maps id ≡ later ∷ rest → with_root w maps id ≡ Some later) → cond b (m ∷ maps) (until_root w maps id) ≡ later ∷ rest → cond b (Some m) (with_root w maps id) ≡ Some later
    go true ih e = let p : m ≡ later = cc e in ap Some p
    go false ih e = ih e

later_is : (later : Map) (maps : List Map) (ms : Map × Map) → and_later later maps ≡ Some ms → later ≡ ms.1
later_is later [] ms is = let no : ⊥ = cc is in absurd no
later_is later (former ∷ maps) ms is = let p : (former, later) ≡ ms = cc is in ap (λ (x : Map × Map). x.1) p

pub later_named : (w : ℕ) (maps : List Map) (from to : List ℕ) (ms : Map × Map) → between w maps from to ≡ Some ms → with_root w maps to ≡ Some ms.1
later_named w maps from to ms = go (until_root w maps to) refl
  where
    go : (found : List Map) → until_root w maps to ≡ found → leading_to w found from ≡ Some ms → with_root w maps to ≡ Some ms.1
    go [] is e = let no : ⊥ = cc e in absurd no
    go (later ∷ rest) is e = first_named w maps to later rest is ∙ ap Some (later_is later (until_root w (later ∷ rest) from) ms e)

-- what a history tells of the changes between two roots is taken of those between the maps that they name
module _ (w : ℕ) (maps : List Map) (from to : List ℕ) (asked : Range) (n z : ℕ) where
  abbrev Between : Option Taken → Type 0
  Between taken = IsTakenBetween n z asked (between w maps from to) taken

  pub taken_told : (t : Taken) → Tells n z (changes_between w maps from to asked) (Ok t) → Between (Some t)
  taken_told t tells = go (between w maps from to) (changes_are_named w maps from to asked)
    where
      go : (o : Option (Map × Map)) → AreTold o asked (changes_between w maps from to asked) → IsTakenBetween n z asked o (Some t)
      go None why = let no : Tells n z (Err why.0) (Ok t) = subst (λ (r : Result (List Change) ChangesRefusal). Tells n z r (Ok t)) why.1 tells in no
      go (Some ms) is = subst (λ (r : Result (List Change) ChangesRefusal). Tells n z r (Ok t)) is tells

  pub none_told : (fault : HistoryFault) → (fault ≡ faults.NoMemory → ⊥) → Tells n z (changes_between w maps from to asked) (Err fault) → Between None
  none_told fault other tells = go (between w maps from to) (changes_are_named w maps from to asked)
    where
      go : (o : Option (Map × Map)) → AreTold o asked (changes_between w maps from to asked) → IsTakenBetween n z asked o None
      go None why = tt
      go (Some ms) is = absurd (other (subst (λ (r : Result (List Change) ChangesRefusal). Tells n z r (Err fault)) is tells))

-- the proof of what was taken
pub proof_taken : (w n z : ℕ) (asked : Range) (o : Option (Map × Map)) (taken : Taken) (proof : ChangeProof) → IsTakenBetween n z asked o (Some taken)
    → ((ms : Map × Map) → o ≡ Some ms → proof ≡ proof_of_changes w ms.1 asked taken.cut taken.changes.items) → IsProofBetween w asked n z o (Some proof)
proof_taken w n z asked None taken proof is made = is
proof_taken w n z asked (Some ms) taken proof is made =
    made ms refl
    ∙ ap (λ (cs : List Change). proof_of_changes w ms.1 asked taken.cut cs) is.listed
    ∙ ap (λ (b : Bool). proof_of_changes w ms.1 asked b (taken_of change_size n z (changes ms.0 ms.1 asked))) is.known

-- nothing is taken where nothing is named
pub none_taken : (w n z : ℕ) (asked : Range) (o : Option (Map × Map)) → IsTakenBetween n z asked o None → IsProofBetween w asked n z o None
none_taken w n z asked None is = tt
none_taken w n z asked (Some ms) is = is

pub none_between : (w n z : ℕ) (asked : Range) (o : Option (Map × Map)) → ((ms : Map × Map) → o ≡ Some ms → ⊥) → IsProofBetween w asked n z o None
none_between w n z asked None never = tt
none_between w n z asked (Some ms) never = never ms refl

-- the line of a proof, where two roots have a meaning
module _ (w : ℕ) (maps : List Map) (asked : Range) (n z : ℕ) (from to : RootWord) where
  abbrev Line : Option (List ℕ) → Type 0
  Line line = line ≡ option_map changes_text (changes_proved w maps from to asked n z)

  pub no_former : None ≡ root_meant w maps from → Line None
  no_former is = ap (λ (o : Option (List ℕ)). option_map changes_text (option_map (changes_proof_of w asked n z) (option_and_then (λ f. option_and_then (between w maps f) (root_meant w maps to)) o))) is

  pub no_later : (f : List ℕ) → Some f ≡ root_meant w maps from → None ≡ root_meant w maps to → Line None
  no_later f was is =
      ap (λ (o : Option (List ℕ)). option_map changes_text (option_map (changes_proof_of w asked n z) (option_and_then (between w maps f) o))) is
      ∙ ap (λ (o : Option (List ℕ)). option_map changes_text (option_map (changes_proof_of w asked n z) (option_and_then (λ f. option_and_then (between w maps f) (root_meant w maps to)) o))) was

  pub line_between : (f t : List ℕ) (proof : Option ChangeProof) → Some f ≡ root_meant w maps from → Some t ≡ root_meant w maps to → IsProofBetween w asked n z (between w maps f t) proof → Line (option_map (λ (p : ChangeProof). changes_text (changes_form p)) proof)
  line_between f t proof was is made =
      shown (between w maps f t) proof made
      ∙ ap (λ (o : Option (List ℕ)). option_map changes_text (option_map (changes_proof_of w asked n z) (option_and_then (between w maps f) o))) is
      ∙ ap (λ (o : Option (List ℕ)). option_map changes_text (option_map (changes_proof_of w asked n z) (option_and_then (λ f. option_and_then (between w maps f) (root_meant w maps to)) o))) was
    where
      shown : (o : Option (Map × Map)) (proof : Option ChangeProof) → IsProofBetween w asked n z o proof → option_map (λ (p : ChangeProof). changes_text (changes_form p)) proof ≡ option_map changes_text (option_map (changes_proof_of w asked n z) o)
      shown None None h = refl
      shown None (Some p) h = absurd h
      shown (Some ms) None h = absurd h
      shown (Some ms) (Some p) h = ap (λ (x : ChangeProof). Some (changes_text (changes_form x))) h
