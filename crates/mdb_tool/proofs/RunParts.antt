-- From what the run of a job promises to what the run of its words does.
use Rattle.std.proofs.Common.{◌≡◌, ℕ, List, Result, Ok, Err, sym, subst, ◌∙◌}
use Rattle.run_model.specs.Command.{Root, Apply, Get, Prove, Range, Changes, Verify, Job, job_of}
use Rattle.run_model.specs.OutsideThings.{Outside}
use Rattle.run_model.specs.End.{End}
use Rattle.run_model.specs.Outcome.{IsComplete}
use Rattle.run_model.specs.Runs.{Needs, JobNeeds, outcome, job_outcome, AsksForStore, StoreHasCause, TellsOwn, IsOwnEnd, SharedRuns, command_runs, RootPart, ApplyPart, GetPart, ProvePart, RangePart, ChangesPart, VerifyPart}

pub words_complete : (given : List (List ℕ)) (job : Job) (before after : Outside) (end : End) → job_of given ≡ Ok job → SharedRuns job.command job.width before after end → IsComplete (Needs given) (outcome given) before after end
words_complete given job before after end is shared = subst (λ (asked : Result Job ℕ). IsComplete (JobNeeds asked) (job_outcome asked) before after end) (sym is) shared.complete

pub words_store : (given : List (List ℕ)) (job : Job) (before after : Outside) (end : End) → job_of given ≡ Ok job → SharedRuns job.command job.width before after end → StoreHasCause given before.disk end
words_store given job before after end is shared = λ why told. subst (λ (asked : Result Job ℕ). AsksForStore asked before.disk why) (sym is) (shared.store why told)

-- the job is the one that was asked for
asked_for : (given : List (List ℕ)) (job asked : Job) (before after : Outside) (end : End) → job_of given ≡ Ok job → job_of given ≡ Ok asked → command_runs job.command job.width before after end → command_runs asked.command asked.width before after end
asked_for given job asked before after end is asks runs =
    let same : job ≡ asked = cc (sym is ∙ asks) in
    subst (λ (job : Job). command_runs job.command job.width before after end) same runs

pub root_part : (given : List (List ℕ)) (job : Job) (before after : Outside) (end : End) → job_of given ≡ Ok job → command_runs job.command job.width before after end → RootPart given before after end
root_part given job before after end is runs = λ w asks. asked_for given job (record { width = w; command = Root }) before after end is asks runs

pub apply_part : (given : List (List ℕ)) (job : Job) (before after : Outside) (end : End) → job_of given ≡ Ok job → command_runs job.command job.width before after end → ApplyPart given before after end
apply_part given job before after end is runs = λ w asks. asked_for given job (record { width = w; command = Apply }) before after end is asks runs

pub get_part : (given : List (List ℕ)) (job : Job) (before after : Outside) (end : End) → job_of given ≡ Ok job → command_runs job.command job.width before after end → GetPart given before after end
get_part given job before after end is runs = λ w key asks. asked_for given job (record { width = w; command = Get key }) before after end is asks runs

pub prove_part : (given : List (List ℕ)) (job : Job) (before after : Outside) (end : End) → job_of given ≡ Ok job → command_runs job.command job.width before after end → ProvePart given before after end
prove_part given job before after end is runs = λ w root key asks. asked_for given job (record { width = w; command = Prove root key }) before after end is asks runs

pub range_part : (given : List (List ℕ)) (job : Job) (before after : Outside) (end : End) → job_of given ≡ Ok job → command_runs job.command job.width before after end → RangePart given before after end
range_part given job before after end is runs = λ w root range pairs bytes asks. asked_for given job (record { width = w; command = Range root range pairs bytes }) before after end is asks runs

pub changes_part : (given : List (List ℕ)) (job : Job) (before after : Outside) (end : End) → job_of given ≡ Ok job → command_runs job.command job.width before after end → ChangesPart given before after end
changes_part given job before after end is runs = λ w from to range pairs bytes asks. asked_for given job (record { width = w; command = Changes from to range pairs bytes }) before after end is asks runs

pub verify_part : (given : List (List ℕ)) (job : Job) (before after : Outside) (end : End) → job_of given ≡ Ok job → command_runs job.command job.width before after end → VerifyPart given before after end
verify_part given job before after end is runs = λ w asks. asked_for given job (record { width = w; command = Verify }) before after end is asks runs

-- an end is one that the command which was asked for may come to
pub own_part : (given : List (List ℕ)) (job : Job) (before after : Outside) (end : End) → job_of given ≡ Ok job → SharedRuns job.command job.width before after end → TellsOwn given end
own_part given job before after end is shared = λ asked asks. let same : job ≡ asked = cc (sym is ∙ asks) in subst (λ (j : Job). IsOwnEnd j.command end) same shared.own

-- no such end is told where a word is wrong
pub own_words : (given : List (List ℕ)) (place : ℕ) (end : End) → job_of given ≡ Err place → TellsOwn given end
own_words given place end is = λ asked asks. let no : ⊥ = cc (sym is ∙ asks) in absurd no
