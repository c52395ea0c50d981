-- Lines on views that commit nothing.
use Rattle.std.proofs.Common.{◌≡◌, ◌⊎◌, inl, inr, ℕ, ◌<◌, true, false, List, [], Option, Some, None, Result, Ok, Err, refl, sym, ◌∙◌, ap, subst}
use Rattle.std.specs.Prelude.{IfOk, IfErr, OnOk, MatchOption, String, string_bytes}
use Rattle.std.specs.Global.{Global}
use Rattle.std.proofs.lemmas.Bool.{le-ltb, lt-ltb}
use Rattle.disk_model.specs.Files.{Files}
use Rattle.disk_model.specs.Moments.{Moments}
use Rattle.std.specs.FinMap as map_of
use Rattle.trie_model.specs.Maps.{Map, limits, root}
use Rattle.store_model.specs.Journal.{Stands}
use Rattle.mdb_core.proofs.StoreFiles.{kept_stands}
use Rattle.batch_model.specs.Batch.{Change, after_batch}
use Rattle.text_model.specs.Texts.{Batch, view_text, closed_text, refused_text, value_text}
use Rattle.text_model.specs.Words.{PlaceWord, Db, View as OfView}
use Rattle.view_model.specs.Forest.{ViewState, state, next_number, payload}
use Rattle.view_model.specs.Calls.{Refusal, view_refused, parent_refused, make_refused, made as made_of, closed}
use Rattle.view_model.specs.Maps.{parent_map}
use Rattle.session_model.specs.Limits.{payload_limit}
use Rattle.session_model.specs.Refusals.{cause_words}
use Rattle.session_model.specs.Session.{Session, Step, Stop, Limit, view_at, map_at, viewed, view_step, view, close, told, told_unless, told_state, told_proof, told_range, told_changes, prints, refuses, or_limit}
use Rattle.mdb_core.specs.Stores.{DbState, Keeps, is_failed}
use Rattle.mdb_core.specs.Places.{Refuses, GetFails, fault_of_refusal, number_at, is_named}
use Rattle.mdb_core.specs.declared.store.At.{At}
use Rattle.mdb_core.specs.Proposals.{Makes, MakeFails}
use Rattle.mdb_core.specs.declared.fault.DbFault.{DbFault}
use Rattle.mdb_core.specs.declared.fault.DbFault.TheVariants.{Disk, NotAStore, BranchDiffers, Damaged, Failed, Unknown, NotLive, NotHeld, TooMany, TooDeep, TooHeavy, TooLarge, NotParent, Full, NoMemory}
use Rattle.script_run.specs.declared.end.SessionEnd.{SessionEnd}
use Rattle.script_run.specs.Ends.{fault_end, cause_told, IsTextOf}
use Rattle.store_opening.specs.Opening.{holding_of}
use Rattle.script_run.specs.ScriptSteps.{IsAt, IsQuiet, session_of}
use Rattle.script_run.specs.declared.end.SessionEnd.TheVariants.{Disk as failed_disk, NoMemory as no_memory}
use Rattle.script_run.proofs.LinesToPrint.{Went}
use Rattle.script_run.proofs.Refusals.{words_told, text_quiet, refused_quiet}

-- what the store tells of a fault, in this result
abbrev pub Told : DbFault → Result (String Global) SessionEnd → Type 0
Told fault r = MatchOption (cause_told fault) (r ≡ Err (fault_end fault)) (λ cause. IsTextOf (refused_text cause) r)

pub told_cause : (fault : DbFault) (r : Result (String Global) SessionEnd) (why : Refusal) → fault ≡ fault_of_refusal why → Told fault r → IsTextOf (refused_text (cause_words why)) r
told_cause fault r why is of = subst (λ (o : Option (List ℕ)). MatchOption o (r ≡ Err (fault_end fault)) (λ cause. IsTextOf (refused_text cause) r)) (ap cause_told is ∙ words_told why) of

-- ---- a view that is made
module _ (w : ℕ) (m : Map) (db : DbState) (batch : List Change) (place : PlaceWord) (files : Files) (keeps : Keeps db m files) where
  abbrev here : Session
  here = session_of m db batch

  abbrev made : Result (Session × Step) Stop
  made = or_limit (view w here place)

  made_so : Makes db (view_at place) batch → made ≡ Ok (viewed here place, view_step w here place)
  made_so a = let one = a.may.allowed in let two = le-ltb payload_limit (payload batch) a.fits in rw (one, two) refl

  large : make_refused db.forest (view_at place) batch ≡ None → payload_limit < payload batch → made ≡ Err (Limit Batch)
  large one lt = let two = lt-ltb payload_limit (payload batch) lt in rw (one, two) refl

  refused_so : (r : Refusal) → make_refused db.forest (view_at place) batch ≡ Some r → made ≡ Ok (record here { pending = [] }, refuses (cause_words r))
  refused_so r is = rw is refl

  map_is : (p : PlaceWord) → map_at here p ≡ parent_map db.forest m (view_at p)
  map_is Db = refl
  map_is (OfView n) = refl

  pub view_made : (db' : DbState) (r : Result (String Global) SessionEnd) (number : ℕ) (id : List ℕ) → Makes db (view_at place) batch → number ≡ next_number db.forest → id ≡ root w (after_batch (parent_map db.forest m (view_at place)) batch)
      → db'.forest ≡ made_of db.forest (view_at place) batch → holding_of db' m ≡ holding_of db m → Keeps db' m files → IsTextOf (view_text number id) r → IsQuiet made r db' [] files
  view_made db' r number id a number_is id_is views holds keeps' of =
      let same : view_text number id ≡ (view_step w here place).text = ap (λ n. view_text n id) number_is ∙ ap (view_text (next_number db.forest)) (id_is ∙ ap (λ k. root w (after_batch k batch)) (sym (map_is place))) in
      text_quiet made (viewed here place) db' [] files r (view_step w here place).text (made_so a) (record { keeps_map = keeps'; holding_is = holds; pending_is = refl; views_are = views })
      (subst (λ (t : List ℕ). IsTextOf t r) same of)

  module _ (r : Result (String Global) SessionEnd) where
    by_refusal : (fault : DbFault) → Refuses db (make_refused db.forest (view_at place) batch) fault → Told fault r → IsQuiet made r db [] files
    by_refusal fault why of = refused_quiet made (record here { pending = [] }) db [] files r (cause_words why.1) (refused_so why.1 why.2) (record { keeps_map = keeps; holding_is = refl; pending_is = refl; views_are = refl }) (told_cause fault r why.1 why.3 of)

    pub not_made : (fault : DbFault) → is_failed db ≡ false → MakeFails db (view_at place) batch fault → Told fault r → IsQuiet made r db [] files
    not_made Disk works why of = by_refusal Disk why of
    not_made (NotAStore file) works why of = by_refusal (NotAStore file) why of
    not_made (BranchDiffers kept asked) works why of = by_refusal (BranchDiffers kept asked) why of
    not_made (Damaged file at) works why of = by_refusal (Damaged file at) why of
    not_made Failed works why of = let no : ⊥ = cc (sym works ∙ why) in absurd no
    not_made Unknown works why of = by_refusal Unknown why of
    not_made (NotLive x) works why of = by_refusal (NotLive x) why of
    not_made TooMany works why of = by_refusal TooMany why of
    not_made TooDeep works why of = by_refusal TooDeep why of
    not_made TooHeavy works why of = by_refusal TooHeavy why of
    not_made (TooLarge n) works why of = subst (λ r. IsQuiet made r db [] files) (sym of) (large why.0.allowed (subst (λ (k : ℕ). payload_limit < k) why.1 why.2))
    not_made NotParent works why of = by_refusal NotParent why of
    not_made NotHeld works why of = by_refusal NotHeld why of
    not_made Full works why of = by_refusal Full why of
    not_made NoMemory works why of = subst (λ r. IsQuiet made r db [] files) (sym of) tt

-- ---- a view that is closed
module _ (m : Map) (db : DbState) (pending : List Change) (files : Files) (n : ℕ) (keeps : Keeps db m files) where
  abbrev there : Session
  there = session_of m db pending

  abbrev closes : Result (Session × Step) Stop
  closes = Ok (close there n)

  pub close_done : (db' : DbState) (r : Result (String Global) SessionEnd) (res : Result (Unit {0}) DbFault) (x : Unit {0}) → res ≡ Ok x
      → MatchOption (view_refused db.forest n) ((res ≡ Ok tt) × (db' ≡ record db { forest = closed db.forest n })) (λ r. (res ≡ Err (fault_of_refusal r)) × (db' ≡ db))
      → Keeps db' m files → IsTextOf (closed_text n) r → IsQuiet closes r db' pending files
  close_done db' r res x is = go (view_refused db.forest n) refl
    where
      go : (o : Option Refusal) → view_refused db.forest n ≡ o → MatchOption o ((res ≡ Ok tt) × (db' ≡ record db { forest = closed db.forest n })) (λ r. (res ≡ Err (fault_of_refusal r)) × (db' ≡ db)) → Keeps db' m files → IsTextOf (closed_text n) r → IsQuiet closes r db' pending files
      go None o h keeps' of = text_quiet closes (record there { views = closed db.forest n }) db' pending files r (closed_text n) (rw o refl) (record { keeps_map = keeps'; holding_is = ap (λ (d : DbState). holding_of d m) h.1; pending_is = refl; views_are = ap (λ (d : DbState). d.forest) h.1 }) of
      go (Some why) o h keeps' of = let no : ⊥ = cc (sym is ∙ h.0) in absurd no

  pub close_refused : (db' : DbState) (r : Result (String Global) SessionEnd) (res : Result (Unit {0}) DbFault) (fault : DbFault) → res ≡ Err fault
      → MatchOption (view_refused db.forest n) ((res ≡ Ok tt) × (db' ≡ record db { forest = closed db.forest n })) (λ r. (res ≡ Err (fault_of_refusal r)) × (db' ≡ db))
      → Told fault r → IsQuiet closes r db' pending files
  close_refused db' r res fault is = go (view_refused db.forest n) refl
    where
      go : (o : Option Refusal) → view_refused db.forest n ≡ o → MatchOption o ((res ≡ Ok tt) × (db' ≡ record db { forest = closed db.forest n })) (λ r. (res ≡ Err (fault_of_refusal r)) × (db' ≡ db)) → Told fault r → IsQuiet closes r db' pending files
      go None o h of = let no : ⊥ = cc (sym is ∙ h.0) in absurd no
      go (Some why) o h of =
          let p : Err fault ≡ Err (fault_of_refusal why) = sym is ∙ h.0 in
          let same : fault ≡ fault_of_refusal why = cc p in
          subst (λ (d : DbState). IsQuiet closes r d pending files) (sym h.1)
          (refused_quiet closes there db pending files r (cause_words why) (rw o refl) (record { keeps_map = keeps; holding_is = refl; pending_is = refl; views_are = refl }) (told_cause fault r why same of))

-- ---- lines that only read
module _ (m : Map) (db : DbState) (pending : List Change) (files : Files) (keeps : Keeps db m files) where
  abbrev reads : Step → Result (Session × Step) Stop
  reads step = Ok (session_of m db pending, step)

  read_quiet : (step : Step) → step ≡ prints step.text → (r : Result (String Global) SessionEnd) → IsTextOf step.text r → IsQuiet (reads step) r db pending files
  read_quiet step is r of = text_quiet (reads step) (session_of m db pending) db pending files r step.text (ap reads is) (record { keeps_map = keeps; holding_is = refl; pending_is = refl; views_are = refl }) of

  state_prints : (n : ℕ) (o : Option ViewState) → told_state n o ≡ prints (told_state n o).text
  state_prints n None = refl
  state_prints n (Some x) = refl

  told_prints : (o : Option Refusal) (text : List ℕ) → told_unless o text ≡ prints (told_unless o text).text
  told_prints None text = refl
  told_prints (Some why) text = refl

  pub state_quiet : (n : ℕ) (r : Result (String Global) SessionEnd) → IsTextOf (told_state n (state db.forest n)).text r → IsQuiet (reads (told_state n (state db.forest n))) r db pending files
  state_quiet n r of = read_quiet (told_state n (state db.forest n)) (state_prints n (state db.forest n)) r of

  pub told_quiet : (place : PlaceWord) (text_of : Map → List ℕ) (r : Result (String Global) SessionEnd) → IsTextOf (told (session_of m db []) place text_of).text r → IsQuiet (reads (told (session_of m db pending) place text_of)) r db pending files
  told_quiet place text_of r of = read_quiet (told (session_of m db pending) place text_of) (told_prints (parent_refused db.forest (view_at place)) (text_of (map_at (session_of m db pending) place))) r (same place of)
    where
      same : (p : PlaceWord) → IsTextOf (told (session_of m db []) p text_of).text r → IsTextOf (told (session_of m db pending) p text_of).text r
      same Db of = of
      same (OfView n) of = of

  -- a value, or a disk that failed
  pub got : (step : Step) → step ≡ prints step.text → (db' : DbState) (files' : Files) (old now : Moments) (rose : Type 0) (r : Result (String Global) SessionEnd) → IfOk r (λ t. string_bytes t ≡ step.text) → IfErr r (λ end. (end ≡ no_memory) ⊎ ((end ≡ failed_disk) × rose))
      → OnOk r (db' ≡ db) → files' ≡ files → now ≡ old → Went m (reads step) Disk r db' pending files' old now
  got step is db' files' old now rose (Ok t) text end stays same still =
      let at = subst (λ (d : DbState). IsAt (session_of m db pending) d pending files') (sym stays) (record { keeps_map = subst (λ (f : Files). Keeps db m f) (sym same) keeps; holding_is = refl; pending_is = refl; views_are = refl }) in
      inr (record {
        quiet = text_quiet (reads step) (session_of m db pending) db' pending files' (Ok t) step.text (ap reads is) at text;
        stands = subst (λ (f : Files). Stands limits f m) (sym same) (kept_stands db m files keeps);
        still = still;
      })
  got step is db' files' old now rose (Err end) text why stays same still = elim why [
    | inl none ↦ inr (record {
      quiet = subst (λ (e : SessionEnd). IsQuiet (reads step) (Err e) db' pending files') (sym none) tt;
      stands = subst (λ (f : Files). Stands limits f m) (sym same) (kept_stands db m files keeps);
      still = still;
    })
    | inr lost ↦ inl (refl, ap (λ (e : SessionEnd). let x : Result (String Global) SessionEnd = Err e in x) lost.0)
  ]

  pub told_got : (place : PlaceWord) (text_of : Map → List ℕ) (db' : DbState) (files' : Files) (old now : Moments) (rose : Type 0) (r : Result (String Global) SessionEnd) → IfOk r (λ t. string_bytes t ≡ (told (session_of m db []) place text_of).text) → IfErr r (λ end. (end ≡ no_memory) ⊎ ((end ≡ failed_disk) × rose))
      → OnOk r (db' ≡ db) → files' ≡ files → now ≡ old → Went m (reads (told (session_of m db pending) place text_of)) Disk r db' pending files' old now
  told_got Db text_of db' files' old now rose r text = got (told (session_of m db pending) Db text_of) (told_prints None (text_of m)) db' files' old now rose r text
  told_got (OfView n) text_of db' files' old now rose r text = got (told (session_of m db pending) (OfView n) text_of) (told_prints (view_refused db.forest n) (text_of (map_at (session_of m db pending) (OfView n)))) db' files' old now rose r text

  pub proof_got : (found : Option (List ℕ)) (db' : DbState) (files' : Files) (old now : Moments) (rose : Type 0) (r : Result (String Global) SessionEnd) → IfOk r (λ t. string_bytes t ≡ (told_proof found).text) → IfErr r (λ end. (end ≡ no_memory) ⊎ ((end ≡ failed_disk) × rose))
      → OnOk r (db' ≡ db) → files' ≡ files → now ≡ old → Went m (reads (told_proof found)) Disk r db' pending files' old now
  proof_got None db' files' old now rose r text = got (told_proof None) refl db' files' old now rose r text
  proof_got (Some bytes) db' files' old now rose r text = got (told_proof (Some bytes)) refl db' files' old now rose r text

  pub range_got : (found : Option (List ℕ)) (db' : DbState) (files' : Files) (old now : Moments) (rose : Type 0) (r : Result (String Global) SessionEnd) → IfOk r (λ t. string_bytes t ≡ (told_range found).text) → IfErr r (λ end. (end ≡ no_memory) ⊎ ((end ≡ failed_disk) × rose))
      → OnOk r (db' ≡ db) → files' ≡ files → now ≡ old → Went m (reads (told_range found)) Disk r db' pending files' old now
  range_got None db' files' old now rose r text = got (told_range None) refl db' files' old now rose r text
  range_got (Some bytes) db' files' old now rose r text = got (told_range (Some bytes)) refl db' files' old now rose r text

  pub changes_got : (found : Option (List ℕ)) (db' : DbState) (files' : Files) (old now : Moments) (rose : Type 0) (r : Result (String Global) SessionEnd) → IfOk r (λ t. string_bytes t ≡ (told_changes found).text) → IfErr r (λ end. (end ≡ no_memory) ⊎ ((end ≡ failed_disk) × rose))
      → OnOk r (db' ≡ db) → files' ≡ files → now ≡ old → Went m (reads (told_changes found)) Disk r db' pending files' old now
  changes_got None db' files' old now rose r text = got (told_changes None) refl db' files' old now rose r text
  changes_got (Some bytes) db' files' old now rose r text = got (told_changes (Some bytes)) refl db' files' old now rose r text

-- ---- values that are read
module _ (m : Map) (db : DbState) (place : PlaceWord) (key : List ℕ) where
  abbrev value_told : List ℕ
  value_told = (told (session_of m db []) place (λ k. value_text (map_of.get k key))).text

  here_map : (p : PlaceWord) → map_at (session_of m db []) p ≡ parent_map db.forest m (view_at p)
  here_map Db = refl
  here_map (OfView n) = refl

  -- the value at a place that is read
  pub value_read : (at : At) (value : Option (List ℕ)) (r : Result (String Global) SessionEnd) → number_at at ≡ view_at place → parent_refused db.forest (number_at at) ≡ None
      → value ≡ map_of.get (parent_map db.forest m (view_at place)) key → IsTextOf (value_text value) r → IfOk r (λ t. string_bytes t ≡ value_told)
  value_read at value (Err end) number admitted is of = tt
  value_read at value (Ok t) number admitted is of =
      let allowed : parent_refused db.forest (view_at place) ≡ None = ap (parent_refused db.forest) (sym number) ∙ admitted in
      let same : value_told ≡ value_text (map_of.get (map_at (session_of m db []) place) key) = ap (λ o. (told_unless o (value_text (map_of.get (map_at (session_of m db []) place) key))).text) allowed in
      of ∙ ap value_text is ∙ ap (λ k. value_text (map_of.get k key)) (sym (here_map place)) ∙ sym same

  ended : (r : Result (String Global) SessionEnd) (end : SessionEnd) → r ≡ Err end → IfOk r (λ t. string_bytes t ≡ value_told)
  ended r end is = subst (λ x. IfOk x (λ t. string_bytes t ≡ value_told)) (sym is) tt

  -- why a place is not read
  module _ (at : At) (r : Result (String Global) SessionEnd) (number : number_at at ≡ view_at place) where
    not_admitted : (fault : DbFault) → Refuses db (parent_refused db.forest (number_at at)) fault → Told fault r → IfOk r (λ t. string_bytes t ≡ value_told)
    not_admitted fault why of = go r (told_cause fault r why.1 why.3 of)
      where
        refused : parent_refused db.forest (view_at place) ≡ Some why.1
        refused = ap (parent_refused db.forest) (sym number) ∙ why.2

        go : (x : Result (String Global) SessionEnd) → IsTextOf (refused_text (cause_words why.1)) x → IfOk x (λ t. string_bytes t ≡ value_told)
        go (Err end) of = tt
        go (Ok t) of = let same : value_told ≡ refused_text (cause_words why.1) = ap (λ o. (told_unless o (value_text (map_of.get (map_at (session_of m db []) place) key))).text) refused in of ∙ sym same

    pub value_unread : (fault : DbFault) → is_failed db ≡ false → is_named db at ≡ true → GetFails db at fault → Told fault r → IfOk r (λ t. string_bytes t ≡ value_told)
    value_unread Disk works named why of = ended r failed_disk of
    value_unread NoMemory works named why of = ended r no_memory of
    value_unread Failed works named why of = let no : ⊥ = cc (sym works ∙ why) in absurd no
    value_unread NotHeld works named why of = let no : ⊥ = cc (sym named ∙ why.1) in absurd no
    value_unread (NotAStore file) works named why of = not_admitted (NotAStore file) why of
    value_unread (BranchDiffers kept asked) works named why of = not_admitted (BranchDiffers kept asked) why of
    value_unread (Damaged file place) works named why of = not_admitted (Damaged file place) why of
    value_unread Unknown works named why of = not_admitted Unknown why of
    value_unread (NotLive x) works named why of = not_admitted (NotLive x) why of
    value_unread TooMany works named why of = not_admitted TooMany why of
    value_unread TooDeep works named why of = not_admitted TooDeep why of
    value_unread TooHeavy works named why of = not_admitted TooHeavy why of
    value_unread (TooLarge n) works named why of = not_admitted (TooLarge n) why of
    value_unread NotParent works named why of = not_admitted NotParent why of
    value_unread Full works named why of = not_admitted Full why of
