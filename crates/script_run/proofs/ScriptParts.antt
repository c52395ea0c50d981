-- What parts of a script promise, put together.
use Rattle.std.proofs.Common.{◌≡◌, ◌≢◌, ℕ, ◌+◌, List, [], ◌∷◌, ◌++◌, length, Option, Some, None, Result, Ok, Err, Bool, true, false, refl, sym, ◌∙◌, ap, subst, append_assoc, arith}
use Rattle.std.proofs.lemmas.List.{append-nil}
use Rattle.std.specs.Io.KnownBytes.{Appends}
use Rattle.disk_model.specs.Files.{Files}
use Rattle.disk_model.specs.Moments.{Moments, Meanwhile}
use Rattle.trie_model.specs.Maps.{Map}
use Rattle.batch_model.specs.Batch.{Change}
use Rattle.text_model.specs.Texts.{LimitKind}
use Rattle.session_model.specs.Session.{Session, Step, Stop, commit}
use Rattle.session_model.specs.Script.{Played, then_play, and_then as and_then_play, at_end, ended, text_of}
use Rattle.session_model.proofs.MapsOfScripts.{IsAfterSteps}
use Rattle.session_model.proofs.PlayedLines.{followed, text_of-append}
use Rattle.run_model.specs.End.{End, Done}
use Rattle.run_model.specs.Script.{HasSteps, end_of_stop, Keeps}
use Rattle.script_run.specs.ScriptSteps.{CameTo, PartRuns, played}
use Rattle.run_model.proofs.PrintedText.{and_then, then_prefix, prefix_of_more, same_text, same_prefix}
use Rattle.script_run.proofs.KeptSteps.{with_more, further, fewer, stops, kept_of_more}

-- ---- a part at the front of another

-- one begins another: with more steps behind it, or, where it stops, the same
pub record Begins (p q : Played) : Type 0 where
  pub more : List Step
  pub steps_are : q.steps ≡ p.steps ++ more
  pub stays : (why : Stop) → p.stop ≡ Some why → q ≡ p

begins_itself : (p : Played) → Begins p p
begins_itself p = record { more = []; steps_are = sym (append-nil p.steps); stays = λ why is. refl }

pub begins_both : (p q r : Played) → Begins p q → Begins q r → Begins p r
begins_both p q r first second = record {
  more = first.more ++ second.more;
  steps_are = second.steps_are ∙ ap (λ (xs : List Step). xs ++ second.more) first.steps_are ∙ append_assoc p.steps first.more second.more;
  stays = λ why is. let same = first.stays why is in second.stays why (ap (λ (x : Played). x.stop) same ∙ is) ∙ same;
}

-- one step begins all
pub begins_steps : (s : Session) (made : Result (Session × Step) Stop) (others : Session → Played) → Begins (played s made) (then_play s made others)
begins_steps s (Ok next) others = record { more = (others next.0).steps; steps_are = refl; stays = λ why is. let no : ⊥ = cc is in absurd no }
begins_steps s (Err why) others = record { more = []; steps_are = refl; stays = λ why is. refl }

-- behind the same steps
pub begins_behind : (p q r : Played) → Begins q r → Begins (followed None p q) (followed None p r)
begins_behind p q r b = record {
  more = b.more;
  steps_are = ap (λ (xs : List Step). p.steps ++ xs) b.steps_are ∙ sym (append_assoc p.steps q.steps b.more);
  stays = λ why is. ap (followed None p) (b.stays why is);
}

-- a part that goes on begins whatever comes behind it
pub begins_rest : (p q : Played) → p.stop ≡ None → Begins p (followed None p q)
begins_rest p q none = record { more = q.steps; steps_are = refl; stays = λ why is. let no : ⊥ = cc (sym none ∙ is) in absurd no }

-- lines begin their script
begins_made : (p : Played) (made : Result (Session × Step) LimitKind) → p.stop ≡ None → Begins p (and_then_play p made)
begins_made p (Ok next) none = record { more = next.1 ∷ []; steps_are = refl; stays = λ why is. let no : ⊥ = cc (sym none ∙ is) in absurd no }
begins_made p (Err kind) none = record { more = []; steps_are = sym (append-nil p.steps); stays = λ why is. let no : ⊥ = cc (sym none ∙ is) in absurd no }

begins_end : (w : ℕ) (p : Played) (cs : List Change) → p.stop ≡ None → Begins p (at_end w p cs)
begins_end w p [] none = begins_itself p
begins_end w p (c ∷ cs) none = begins_made p (commit w p.session) none

pub begins_script : (w : ℕ) (p : Played) (stop : Option Stop) (within : Bool) → p.stop ≡ stop → Begins p (ended w p stop within)
begins_script w p (Some why) within is = begins_itself p
begins_script w p None false is = record { more = []; steps_are = sym (append-nil p.steps); stays = λ why h. let no : ⊥ = cc (sym is ∙ h) in absurd no }
begins_script w p None true is = begins_end w p p.session.pending is

-- ---- what parts promise

-- a part behind steps that were done and printed
pub runs_behind : (m : Map) (p q : Played) (taken taken' taken'' : Option (List ℕ)) (files : Files) (end : End) → IsAfterSteps m p → Appends taken taken' (text_of p.steps) → PartRuns q p.session.map taken' taken'' files end → PartRuns (followed None p q) m taken taken'' files end
runs_behind m p q taken taken' taken'' files end map_is text runs =
    let texts = sym (text_of-append p.steps q.steps) in record {
      came = λ is. let c = runs.came is in record {
        stops = c.stops;
        text = same_text taken taken'' texts (and_then (text_of p.steps) (text_of q.steps) taken taken' taken'' text c.text);
        stands = c.stands;
      };
      prefix = same_prefix taken taken'' texts (then_prefix (text_of p.steps) (text_of q.steps) taken taken' taken'' text runs.prefix);
      files_are = λ ne. fewer m (p.steps ++ q.steps) 0 (length p.steps + 0) (omega arith) files
          (further m p.steps q.steps 0 files (subst (λ (k : Map). HasSteps k q.steps 0 files) map_is (runs.files_are ne)));
    }

-- a part that begins another, where the run didn't end as done
pub runs_of_more : (m : Map) (p q : Played) (taken taken' : Option (List ℕ)) (files : Files) (end : End) → Begins p q → end ≢ Done → PartRuns p m taken taken' files end → PartRuns q m taken taken' files end
runs_of_more m p q taken taken' files end b ne runs = record {
  came = λ is. by_stop p.stop refl (runs.came is);
  prefix = same_prefix taken taken' (sym (ap text_of b.steps_are ∙ text_of-append p.steps b.more)) (prefix_of_more (text_of p.steps) (text_of b.more) taken taken' runs.prefix);
  files_are = λ other. subst (λ (xs : List Step). HasSteps m xs 0 files) (sym b.steps_are) (with_more m p.steps b.more 0 (omega arith) files (runs.files_are other));
}
  where
    by_stop : (o : Option Stop) → p.stop ≡ o → CameTo p taken taken' files end → CameTo q taken taken' files end
    by_stop None is c = absurd (ne (c.stops ∙ ap end_of_stop is))
    by_stop (Some why) is c = subst (λ (x : Played). CameTo x taken taken' files end) (sym (b.stays why is)) c

-- the same of what a crash leaves
pub keeps_behind : (m : Map) (p q : Played) (taken taken' taken'' : Option (List ℕ)) (old mid now : Moments) → IsAfterSteps m p → Meanwhile (HasSteps m p.steps 0) old mid → Appends taken taken' (text_of p.steps) → Keeps p.session.map q.steps taken' taken'' mid now → Keeps m (followed None p q).steps taken taken'' old now
keeps_behind m p q taken taken' taken'' old mid now map_is run text kept =
    stops m p.steps q.steps taken taken' taken'' old mid now run text (subst (λ (k : Map). Keeps k q.steps taken' taken'' mid now) map_is kept)

pub keeps_of_more : (m : Map) (p q : Played) (taken taken' : Option (List ℕ)) (old now : Moments) → Begins p q → Keeps m p.steps taken taken' old now → Keeps m q.steps taken taken' old now
keeps_of_more m p q taken taken' old now b kept = subst (λ (xs : List Step). Keeps m xs taken taken' old now) (sym b.steps_are) (kept_of_more m p.steps b.more taken taken' old now kept)
