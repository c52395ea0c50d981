-- Why a line is refused, in the words of the store and in those that are printed.
use Rattle.std.proofs.Common.{◌≡◌, ℕ, List, Some, Result, Ok, Err, refl, sym, ◌∙◌, ap, subst}
use Rattle.std.specs.Prelude.{String}
use Rattle.std.specs.Global.{Global}
use Rattle.disk_model.specs.Files.{Files}
use Rattle.batch_model.specs.Batch.{Change}
use Rattle.text_model.specs.Texts.{refused_text}
use Rattle.view_model.specs.Forest.{Live, Committed, Invalid, Closed}
use Rattle.view_model.specs.Calls.{Refusal, Unknown, NotLive, TooMany, TooDeep, TooHeavy}
use Rattle.session_model.specs.Refusals.{cause_words}
use Rattle.session_model.specs.Session.{Session, Step, Stop, prints, refuses}
use Rattle.mdb_core.specs.Stores.{DbState}
use Rattle.mdb_core.specs.Places.{fault_of_refusal}
use Rattle.script_run.specs.declared.end.SessionEnd.{SessionEnd}
use Rattle.script_run.specs.Ends.{cause_told, IsTextOf}
use Rattle.script_run.specs.ScriptSteps.{IsAt, IsQuiet}

-- the words of a refusal are told
pub words_told : (r : Refusal) → cause_told (fault_of_refusal r) ≡ Some (cause_words r)
words_told Unknown = refl
words_told (NotLive Live) = refl
words_told (NotLive Committed) = refl
words_told (NotLive Invalid) = refl
words_told (NotLive Closed) = refl
words_told TooMany = refl
words_told TooDeep = refl
words_told TooHeavy = refl

-- a line that only prints
pub text_quiet : (made : Result (Session × Step) Stop) (next : Session) (db : DbState) (pending : List Change) (files : Files) (r : Result (String Global) SessionEnd) (text : List ℕ) → made ≡ Ok (next, prints text) → IsAt next db pending files → IsTextOf text r → IsQuiet made r db pending files
text_quiet made next db pending files (Ok t) text is at of = record { next = next; is = is ∙ ap (λ (u : List ℕ). let x : Result (Session × Step) Stop = Ok (next, prints u) in x) (sym of); at = at }
text_quiet made next db pending files (Err end) text is at of = subst (λ (e : SessionEnd). IsQuiet made (Err e) db pending files) (sym of) tt

-- a line that is refused
pub refused_quiet : (made : Result (Session × Step) Stop) (next : Session) (db : DbState) (pending : List Change) (files : Files) (r : Result (String Global) SessionEnd) (cause : List ℕ) → made ≡ Ok (next, refuses cause) → IsAt next db pending files → IsTextOf (refused_text cause) r → IsQuiet made r db pending files
refused_quiet made next db pending files r cause is at of = text_quiet made next db pending files r (refused_text cause) is at of
