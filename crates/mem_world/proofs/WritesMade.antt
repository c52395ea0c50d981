-- What a write to a disk in memory promises, by what it made of the files.
use Rattle.std.proofs.Common.{◌≡◌, ℕ, ◌+◌, ◌<◌, List, [], ◌∷◌, length, map, Vec, Result, Ok, Err, OnOk, OnErr, inl, sym, ◌∙◌, ap, subst}
use Rattle.std.proofs.lemmas.List.{get_or-set_other, get_or-set_same}
use Rattle.std.specs.declared.alloc.Global.{Global}
use Rattle.disk_model.specs.Files.{Torn, Alone, Writes, written, first_touched}
use Rattle.disk_model.specs.Crash.{after_write}
use Rattle.disk_model.specs.Moments.{Ticks}
use Rattle.mem_world.specs.declared.changes.Call.{Call}
use Rattle.mem_world.specs.declared.changes.Change.TheVariants.{Write}
use Rattle.mem_world.specs.File.{File, resting}
use Rattle.mem_world.specs.Changes.{changed, file_at, step}
use Rattle.mem_world.specs.Seen.{seen_in, unsynced_in, moments_of}
use Rattle.mem_world.proofs.Kept.{torn_same}

-- one file is changed, as a part of it shows
alone_in : {X : Type 0} (see : File → X) (files files' : List File) (call : Call) (change : X → X) → call.file < length files → see (changed call.change (file_at files call.file)) ≡ change (see (file_at files call.file)) → files' ≡ step call files
    → Alone call.file (λ was is. is ≡ change was) (λ k. see (file_at files k)) (λ k. see (file_at files' k))
alone_in see files files' call change lt is made = record {
  here = ap (λ (l : List File). see (file_at l call.file)) made ∙ ap see (get_or-set_same files call.file (changed call.change (file_at files call.file)) (resting []) lt) ∙ is;
  others = λ other ne. ap (λ (l : List File). see (file_at l other)) made ∙ ap see (get_or-set_other files call.file other (changed call.change (file_at files call.file)) (resting []) ne);
}

pub write_done : {T E : Type 0} (result : Result T E) (files files' : List File) (past past' : List (List File)) (file at : ℕ) (copy : Vec ℕ Global) (bytes : List ℕ) → copy.items ≡ bytes → file < length files
    → OnOk result (files' ≡ step (record { file = file; change = Write at copy }) files) → OnOk result (past' ≡ files ∷ past) → OnErr result (files' ≡ files) → OnErr result (past' ≡ past)
    → Alone file (Writes at bytes result) (seen_in files) (seen_in files') × Ticks result file (after_write (first_touched (seen_in files file) at) (at + length bytes)) (moments_of files past) (moments_of files' past')
write_done (Ok x) files files' past past' file at copy bytes same lt made noted none none' =
    let call : Call = record { file = file; change = Write at copy } in
    let seen = alone_in (λ (f : File). f.seen) files files' call (λ (l : List ℕ). written l at bytes) lt (ap (λ (b : List ℕ). written (seen_in files file) at b) same) made in
    let unsynced = alone_in (λ (f : File). f.unsynced) files files' call (after_write (first_touched (seen_in files file) at) (at + length bytes)) lt (ap (λ (b : List ℕ). after_write (first_touched (seen_in files file) at) (at + length b) (unsynced_in files file)) same) made in (
      record { here = record { ok = seen.here; err = tt }; others = seen.others },
      record { ok = record { past = ap (λ (l : List (List File)). map unsynced_in l) noted; now = unsynced }; err = tt },
    )
write_done (Err e) files files' past past' file at copy bytes same lt none none' stays stays' = (
  record { here = record { ok = tt; err = subst (λ (l : List File). Torn (first_touched (seen_in files file) at) (at + length bytes) (seen_in files file) (seen_in l file)) (sym stays) (torn_same (first_touched (seen_in files file) at) (at + length bytes) (seen_in files file)) }; others = λ other ne. ap (λ (l : List File). seen_in l other) stays },
  record { ok = tt; err = inl (ap (λ (l : List File). moments_of l past') stays ∙ ap (λ (l : List (List File)). moments_of files l) stays') },
)

-- what holds anyway holds at an answer
pub at_ok : {T E : Type 0} (P : Type 0) (result : Result T E) → P → OnOk result P
at_ok P (Ok x) p = p
at_ok P (Err e) p = tt
