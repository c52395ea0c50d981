-- What a commit of a pending batch, and of a view, comes to.
use Rattle.std.proofs.Common.{◌≡◌, ℕ, ◌<◌, ◌≤◌, true, false, List, [], Option, Some, None, Result, Ok, Err, refl, sym, ◌∙◌, ap, subst, inl, inr}
use Rattle.std.specs.Prelude.{nat_lt, nat_le, length, codes, IfOk, IfErr, MatchOption, String, string_bytes}
use Rattle.std.specs.Global.{Global}
use Rattle.std.proofs.lemmas.Bool.{le-leb, lt-leb, le-ltb, lt-ltb}
use Rattle.std.specs.FinMap as map_of
use Rattle.base_model.specs.Faults.{Rose}
use Rattle.disk_model.specs.Files.{Files}
use Rattle.disk_model.specs.Moments.{Moments, LeavesOnly, Meanwhile}
use Rattle.trie_model.specs.Maps.{Map, limits, root}
use Rattle.batch_model.specs.Batch.{Change, after_batch}
use Rattle.text_model.specs.Texts.{Pairs, Batch, commit_text, taken_text, refused_text}
use Rattle.store_model.specs.Journal.{Stands}
use Rattle.view_model.specs.Forest.{Live, next_number, payload, state}
use Rattle.view_model.specs.Calls.{Refusal, number_limit, view_refused, is_next, directed, committed as committed_by}
use Rattle.view_model.specs.Maps.{changes_of}
use Rattle.view_model.proofs.Commits.{next_is_told}
use Rattle.session_model.specs.Limits.{pairs_limit, payload_limit}
use Rattle.session_model.specs.Refusals.{cause_words, take_refused}
use Rattle.session_model.specs.Session.{Session, Step, Stop, Limit, committed, commit_step, commit, taken, taken_map, take_step, take, refuses, or_limit}
use Rattle.mdb_core.specs.Stores.{DbState, Keeps, is_failed}
use Rattle.mdb_core.specs.Places.{Refuses}
use Rattle.mdb_core.specs.AppliedBatches.{MayNumber, Applies, ApplyFails}
use Rattle.mdb_core.specs.Proposals.{MayTake, Takes, TakeFails}
use Rattle.mdb_core.proofs.StoreFiles.{kept_stands, kept_keys}
use Rattle.mdb_core.specs.declared.fault.DbFault.{DbFault}
use Rattle.mdb_core.specs.declared.fault.DbFault.TheVariants.{Disk as DiskFault, NotAStore, BranchDiffers, Damaged, Failed, Unknown, NotLive, NotHeld, TooMany, TooDeep, TooHeavy, TooLarge, NotParent, Full, NoMemory as NoMemoryFault}
use Rattle.script_run.specs.declared.end.SessionEnd.{SessionEnd}
use Rattle.script_run.specs.Ends.{end_of, fault_end, cause_told, IsTextOf, StepCause}
use Rattle.session_model.specs.MapsByRoot.{holds_next}
use Rattle.store_opening.specs.Opening.{holding_of}
use Rattle.script_run.specs.ScriptSteps.{IsAt, IsMade, IsQuiet, RunsUnprinted, KeptUnprinted, KeptPrinting, played, session_of}
use Rattle.script_run.proofs.Refusals.{words_told, refused_quiet}
use Rattle.script_run.proofs.LinesToPrint.{made_text, unmade_text, Went}
use Rattle.script_run.proofs.KeptFiles.{kept_leaves}
use Rattle.script_run.proofs.WrittenBatches.{written, printing, begun}
use Rattle.run_model.specs.Script.{HasSteps}
use Rattle.mdb_journal.specs.DiskMoves.{AreSynced}
use Rattle.value_store.specs.Writes.{StandEither}

-- ---- a pending batch
module _ (w : ℕ) (m : Map) (db : DbState) (batch : List Change) (files : Files) (keeps : Keeps db m files) where
  abbrev here : Session
  here = session_of m db batch

  few : MayNumber db → nat_le number_limit (length here.views.views) ≡ false
  few may = lt-leb number_limit (length here.views.views) may.left

  fits : payload batch ≤ payload_limit → nat_lt payload_limit (payload batch) ≡ false
  fits le = le-ltb payload_limit (payload batch) le

  pub applied : Applies db batch → or_limit (commit w here) ≡ Ok (committed here, commit_step w here)
  applied a =
      let one = few a.number in
      let two = fits a.writes.may.fits in
      let three = le-ltb pairs_limit (map_of.len (after_batch m batch)) (a.writes.room m (kept_keys db m files keeps)) in
      rw (one, two, three) refl

  many : number_limit ≤ length here.views.views → or_limit (commit w here) ≡ Err (Limit Batch)
  many le = let one = le-leb number_limit (length here.views.views) le in rw one refl

  large : MayNumber db → payload_limit < payload batch → or_limit (commit w here) ≡ Err (Limit Batch)
  large may lt = let one = few may in let two = lt-ltb payload_limit (payload batch) lt in rw (one, two) refl

  full : MayNumber db → payload batch ≤ payload_limit → pairs_limit < map_of.len (after_batch m batch) → or_limit (commit w here) ≡ Err (Limit Pairs)
  full may le lt = let one = few may in let two = fits le in let three = lt-ltb pairs_limit (map_of.len (after_batch m batch)) lt in rw (one, two, three) refl

  module _ (db' : DbState) (files' : Files) (old now : Moments) where
    abbrev Was : DbFault → SessionEnd → Type 0
    Was fault end = Went m (or_limit (commit w here)) fault (Err end) db' [] files' old now

    quietly : (fault : DbFault) (end : SessionEnd) → IsQuiet (or_limit (commit w here)) (Err end) db' [] files' → (files' ≡ files) × (now ≡ old) → Was fault end
    quietly fault end q same = inr (record { quiet = q; stands = subst (λ (f : Files). Stands limits f m) (sym same.0) (kept_stands db m files keeps); still = same.1 })

    pub not_applied : (fault : DbFault) → is_failed db ≡ false → ApplyFails db batch fault → ((fault ≡ DiskFault → ⊥) → (files' ≡ files) × (now ≡ old)) → Was fault (fault_end fault)
    not_applied DiskFault works why same = inl (refl, refl)
    not_applied (NotAStore file) works why same = absurd why
    not_applied (BranchDiffers kept asked) works why same = absurd why
    not_applied (Damaged file place) works why same = absurd why
    not_applied Failed works why same = let no : ⊥ = cc (sym works ∙ why) in absurd no
    not_applied Unknown works why same = absurd why
    not_applied (NotLive x) works why same = absurd why
    not_applied TooMany works why same = quietly TooMany (fault_end TooMany) (many why.1) (same (λ is. let no : ⊥ = cc is in no))
    not_applied TooDeep works why same = absurd why
    not_applied TooHeavy works why same = absurd why
    not_applied (TooLarge n) works why same = quietly (TooLarge n) (fault_end (TooLarge n)) (large why.0 (subst (λ (k : ℕ). payload_limit < k) why.1 why.2)) (same (λ is. let no : ⊥ = cc is in no))
    not_applied NotParent works why same = absurd why
    not_applied NotHeld works why same = absurd why
    not_applied Full works why same = quietly Full (fault_end Full) (full why.0 why.1.fits (why.2 m (kept_keys db m files keeps))) (same (λ is. let no : ⊥ = cc is in no))
    not_applied NoMemoryFault works why same = quietly NoMemoryFault (fault_end NoMemoryFault) tt (same (λ is. let no : ⊥ = cc is in no))

  -- a batch that was committed
  module _ (db' : DbState) (files' : Files) (a : Applies db batch) (keeps' : Keeps db' (after_batch m batch) files') (r : Result (String Global) SessionEnd) where
    pub commit_made : (number : ℕ) (id : List ℕ) → number ≡ next_number db.forest → db'.forest ≡ directed db.forest → holding_of db' (after_batch m batch) ≡ holds_next (holding_of db m) (after_batch m batch) → id ≡ db'.root → db'.width ≡ w → IsTextOf (commit_text number id) r → IfOk r (λ t. IsMade (or_limit (commit w here)) (string_bytes t) db' [] files')
    commit_made number id number_is views holds root_is width of =
        let same = root_is ∙ keeps'.roots.map ∙ ap (λ v. root v (after_batch m batch)) width in
        made_text (or_limit (commit w here)) (committed here) (commit_step w here) (commit_text number id) db' [] files' r of (applied a)
        (ap (λ n. commit_text n id) number_is ∙ ap (commit_text (next_number db.forest)) same)
        (record { keeps_map = keeps'; holding_is = holds; pending_is = refl; views_are = views })

    pub commit_unmade : (text : List ℕ) → IsTextOf text r → IfErr r (λ end. RunsUnprinted here (or_limit (commit w here)) files' (end_of end))
    commit_unmade text of =
        unmade_text here (or_limit (commit w here)) text files' r of
        (subst (λ made. HasSteps m (played here made).steps 0 files') (sym (applied a)) (written m batch (commit_step w here).text files' (kept_stands db' (after_batch m batch) files' keeps')))

  pub commit_printing : (old now : Moments) (file : ℕ) → Applies db batch → Meanwhile (StandEither old file m (after_batch m batch)) old now → LeavesOnly (λ image. Stands limits image (after_batch m batch)) now.now → KeptPrinting here (or_limit (commit w here)) old now
  commit_printing old now file a run left =
      subst (λ made. KeptPrinting here made old now) (sym (applied a)) (printing m batch (commit_step w here).text old now file run left)

  pub commit_begun : (old now : Moments) (file : ℕ) → AreSynced files old → Applies db batch → Meanwhile (StandEither old file m (after_batch m batch)) old now → KeptUnprinted here (or_limit (commit w here)) old now
  commit_begun old now file synced a run =
      subst (λ made. KeptUnprinted here made old now) (sym (applied a)) (begun m batch (commit_step w here).text old now file (kept_leaves db m files old keeps synced) run)

-- ---- a view
module _ (w : ℕ) (m : Map) (db : DbState) (pending : List Change) (files : Files) (keeps : Keeps db m files) (n : ℕ) where
  abbrev there : Session
  there = session_of m db pending

  abbrev made : Result (Session × Step) Stop
  made = or_limit (take w there n)

  live_not_refused : state db.forest n ≡ Some Live → view_refused db.forest n ≡ None
  live_not_refused live = rw live refl

  next_not_refused : state db.forest n ≡ Some Live → is_next db.forest n ≡ true → take_refused db.forest n ≡ None
  next_not_refused live next = let one = live_not_refused live in rw (one, next) refl

  not_parent : state db.forest n ≡ Some Live → is_next db.forest n ≡ false → take_refused db.forest n ≡ Some (codes "not parent")
  not_parent live next = let one = live_not_refused live in rw (one, next) refl

  may_not_refused : MayTake db n → take_refused db.forest n ≡ None
  may_not_refused may = next_not_refused may.next.0 ((next_is_told db.forest n).1 may.next.1)

  pub taken_so : Takes db n → made ≡ Ok (taken there n, take_step w there n)
  taken_so t =
      let one = may_not_refused t.may in
      let two = le-ltb pairs_limit (map_of.len (after_batch m (changes_of db.forest n))) (t.writes.room m (kept_keys db m files keeps)) in
      rw (one, two) refl

  full_view : MayTake db n → pairs_limit < map_of.len (after_batch m (changes_of db.forest n)) → made ≡ Err (Limit Pairs)
  full_view may lt =
      let one = may_not_refused may in
      let two = lt-ltb pairs_limit (map_of.len (after_batch m (changes_of db.forest n))) lt in
      rw (one, two) refl

  refused_view : (cause : List ℕ) → take_refused db.forest n ≡ Some cause → made ≡ Ok (there, refuses cause)
  refused_view cause is = rw is refl

  by_view : (r : Refusal) → view_refused db.forest n ≡ Some r → take_refused db.forest n ≡ Some (cause_words r)
  by_view r is = rw is refl

  -- a view that was committed
  module _ (db' : DbState) (files' : Files) (t : Takes db n) (keeps' : Keeps db' (taken_map there n) files') (r : Result (String Global) SessionEnd) where
    pub take_made : (id : List ℕ) → db'.forest ≡ committed_by db.forest n → holding_of db' (taken_map there n) ≡ holds_next (holding_of db m) (taken_map there n) → id ≡ db'.root → db'.width ≡ w → IsTextOf (taken_text n id) r → IfOk r (λ t. IsMade made (string_bytes t) db' pending files')
    take_made id views holds root_is width of =
        let same = root_is ∙ keeps'.roots.map ∙ ap (λ v. root v (taken_map there n)) width in
        made_text made (taken there n) (take_step w there n) (taken_text n id) db' pending files' r of (taken_so t) (ap (taken_text n) same)
        (record { keeps_map = keeps'; holding_is = holds; pending_is = refl; views_are = views })

    pub take_unmade : (text : List ℕ) → IsTextOf text r → IfErr r (λ end. RunsUnprinted there made files' (end_of end))
    take_unmade text of =
        unmade_text there made text files' r of
        (subst (λ made. HasSteps m (played there made).steps 0 files') (sym (taken_so t)) (written m (changes_of db.forest n) (take_step w there n).text files' (kept_stands db' (taken_map there n) files' keeps')))

  pub take_printing : (old now : Moments) (file : ℕ) → Takes db n → Meanwhile (StandEither old file m (taken_map there n)) old now → LeavesOnly (λ image. Stands limits image (taken_map there n)) now.now → KeptPrinting there made old now
  take_printing old now file t run left =
      subst (λ made. KeptPrinting there made old now) (sym (taken_so t)) (printing m (changes_of db.forest n) (take_step w there n).text old now file run left)

  pub take_begun : (old now : Moments) (file : ℕ) → AreSynced files old → Takes db n → Meanwhile (StandEither old file m (taken_map there n)) old now → KeptUnprinted there made old now
  take_begun old now file synced t run =
      subst (λ made. KeptUnprinted there made old now) (sym (taken_so t)) (begun m (changes_of db.forest n) (take_step w there n).text old now file (kept_leaves db m files old keeps synced) run)

  module _ (db' : DbState) (files' : Files) (old now : Moments) (r : Result (String Global) SessionEnd) where
    abbrev WasTaken : DbFault → Type 0
    WasTaken fault = Went m made fault r db' pending files' old now

    settled : (fault : DbFault) → IsQuiet made r db pending files → (db' ≡ db) × (files' ≡ files) × (now ≡ old) → WasTaken fault
    settled fault q same = inr (record {
      quiet = subst (λ (d : DbState). IsQuiet made r d pending files') (sym same.0) (subst (λ (f : Files). IsQuiet made r db pending f) (sym same.1) q);
      stands = subst (λ (f : Files). Stands limits f m) (sym same.1) (kept_stands db m files keeps);
      still = same.2;
    })

    abbrev Told : DbFault → Type 0
    Told fault = MatchOption (cause_told fault) (r ≡ Err (fault_end fault)) (λ cause. IsTextOf (refused_text cause) r)

    at_there : IsAt there db pending files
    at_there = record { keeps_map = keeps; holding_is = refl; pending_is = refl; views_are = refl }

    refused_so : (fault : DbFault) (cause : List ℕ) → cause_told fault ≡ Some cause → take_refused db.forest n ≡ Some cause → Told fault → IsQuiet made r db pending files
    refused_so fault cause told why of = refused_quiet made there db pending files r cause (refused_view cause why) at_there (subst (λ (o : Option (List ℕ)). MatchOption o (r ≡ Err (fault_end fault)) (λ cause. IsTextOf (refused_text cause) r)) told of)

    by_refusal : (fault : DbFault) → Refuses db (view_refused db.forest n) fault → Told fault → IsQuiet made r db pending files
    by_refusal fault why of = refused_so fault (cause_words why.1) (ap cause_told why.3 ∙ words_told why.1) (by_view why.1 why.2) of

    pub not_taken : (fault : DbFault) → is_failed db ≡ false → TakeFails db n fault → Told fault → ((fault ≡ DiskFault → ⊥) → (db' ≡ db) × (files' ≡ files) × (now ≡ old)) → WasTaken fault
    not_taken DiskFault works why of same = inl (refl, of)
    not_taken (NotAStore file) works why of same = settled (NotAStore file) (by_refusal (NotAStore file) why of) (same (λ is. let no : ⊥ = cc is in no))
    not_taken (BranchDiffers kept asked) works why of same = settled (BranchDiffers kept asked) (by_refusal (BranchDiffers kept asked) why of) (same (λ is. let no : ⊥ = cc is in no))
    not_taken (Damaged file place) works why of same = settled (Damaged file place) (by_refusal (Damaged file place) why of) (same (λ is. let no : ⊥ = cc is in no))
    not_taken Failed works why of same = let no : ⊥ = cc (sym works ∙ why) in absurd no
    not_taken NotHeld works why of same = settled NotHeld (by_refusal NotHeld why of) (same (λ is. let no : ⊥ = cc is in no))
    not_taken Unknown works why of same = settled Unknown (by_refusal Unknown why of) (same (λ is. let no : ⊥ = cc is in no))
    not_taken (NotLive x) works why of same = settled (NotLive x) (by_refusal (NotLive x) why of) (same (λ is. let no : ⊥ = cc is in no))
    not_taken TooMany works why of same = settled TooMany (by_refusal TooMany why of) (same (λ is. let no : ⊥ = cc is in no))
    not_taken TooDeep works why of same = settled TooDeep (by_refusal TooDeep why of) (same (λ is. let no : ⊥ = cc is in no))
    not_taken TooHeavy works why of same = settled TooHeavy (by_refusal TooHeavy why of) (same (λ is. let no : ⊥ = cc is in no))
    not_taken (TooLarge k) works why of same = settled (TooLarge k) (by_refusal (TooLarge k) why of) (same (λ is. let no : ⊥ = cc is in no))
    not_taken NotParent works why of same = settled NotParent (refused_so NotParent (codes "not parent") refl (not_parent why.1 why.2) of) (same (λ is. let no : ⊥ = cc is in no))
    not_taken Full works why of same =
        settled Full (subst (λ r. IsQuiet made r db pending files) (sym of) (full_view why.0 (why.1 m (kept_keys db m files keeps)))) (same (λ is. let no : ⊥ = cc is in no))
    not_taken NoMemoryFault works why of same = settled NoMemoryFault (subst (λ r. IsQuiet made r db pending files) (sym of) tt) (same (λ is. let no : ⊥ = cc is in no))

-- ---- the causes of its faults
pub commit_cause : (db : DbState) (batch : List Change) (fault : DbFault) (writes writes' disks disks' : ℕ) → is_failed db ≡ false → ApplyFails db batch fault → (fault ≡ DiskFault → Rose disks disks') → StepCause writes writes' disks disks' (fault_end fault)
commit_cause db batch DiskFault writes writes' disks disks' works why rose = rose refl
commit_cause db batch (NotAStore file) writes writes' disks disks' works why rose = absurd why
commit_cause db batch (BranchDiffers kept asked) writes writes' disks disks' works why rose = absurd why
commit_cause db batch (Damaged file place) writes writes' disks disks' works why rose = absurd why
commit_cause db batch Failed writes writes' disks disks' works why rose = let no : ⊥ = cc (sym works ∙ why) in absurd no
commit_cause db batch Unknown writes writes' disks disks' works why rose = absurd why
commit_cause db batch (NotLive x) writes writes' disks disks' works why rose = absurd why
commit_cause db batch TooMany writes writes' disks disks' works why rose = tt
commit_cause db batch TooDeep writes writes' disks disks' works why rose = absurd why
commit_cause db batch TooHeavy writes writes' disks disks' works why rose = absurd why
commit_cause db batch (TooLarge n) writes writes' disks disks' works why rose = tt
commit_cause db batch NotParent writes writes' disks disks' works why rose = absurd why
commit_cause db batch NotHeld writes writes' disks disks' works why rose = absurd why
commit_cause db batch Full writes writes' disks disks' works why rose = tt
commit_cause db batch NoMemoryFault writes writes' disks disks' works why rose = tt
