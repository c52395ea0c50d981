-- The calls so far and one more.
use Rattle.std.proofs.Common.{◌≡◌, ◌⊎◌, inl, inr, ◌<◌, List, [], ◌∷◌, ◌++◌, length, map, get_or, set, Result, Ok, Err, OnOk, OnErr, refl, sym, ◌∙◌, ap}
use Rattle.std.proofs.lemmas.List.{get_or-map, map-set}
use Rattle.mem_world.specs.declared.file.MemFile.{MemFile}
use Rattle.mem_world.specs.declared.changes.Call.{Call}
use Rattle.mem_world.specs.File.{File, resting}
use Rattle.mem_world.specs.Changes.{changed, step, after, earlier}
use Rattle.mem_world.specs.Seen.{file_of}

pub stepped : (files : List MemFile) (call : Call) (old new : MemFile) → call.file < length files → file_of new ≡ changed call.change (file_of (get_or files call.file old)) → map file_of (set files call.file new) ≡ step call (map file_of files)
stepped files call old new lt made =
    map-set file_of files call.file new ∙ ap (λ (f : File). set (map file_of files) call.file f) (made ∙ ap (λ (f : File). changed call.change f) (sym (get_or-map file_of files call.file old (resting []) lt)))

after-push : (files : List File) (calls : List Call) (call : Call) → after files (calls ++ call ∷ []) ≡ step call (after files calls)
after-push files [] call = refl
after-push files (c ∷ calls) call = after-push (step c files) calls call

earlier-push : (files : List File) (calls : List Call) (call : Call) → earlier files (calls ++ call ∷ []) ≡ after files calls ∷ earlier files calls
earlier-push files [] call = refl
earlier-push files (c ∷ calls) call = ap (λ (l : List (List File)). l ++ files ∷ []) (earlier-push (step c files) calls call)

pub replayed : {T E : Type 0} (result : Result T E) (start files files' : List File) (calls calls' : List Call) (call : Call) → files ≡ after start calls
    → OnOk result (files' ≡ step call files) → OnOk result (calls' ≡ calls ++ call ∷ []) → OnErr result (files' ≡ files) → OnErr result (calls' ≡ calls) → files' ≡ after start calls'
replayed (Ok x) start files files' calls calls' call now made noted same same' = made ∙ ap (λ (f : List File). step call f) now ∙ sym (after-push start calls call) ∙ ap (λ (l : List Call). after start l) (sym noted)
replayed (Err e) start files files' calls calls' call now made noted same same' = same ∙ now ∙ ap (λ (l : List Call). after start l) (sym same')

pub one_earlier : (start files : List File) (calls calls' : List Call) (call : Call) → files ≡ after start calls → calls' ≡ calls ++ call ∷ [] → earlier start calls' ≡ files ∷ earlier start calls
one_earlier start files calls calls' call now noted = ap (λ (l : List Call). earlier start l) noted ∙ earlier-push start calls call ∙ ap (λ (f : List File). f ∷ earlier start calls) (sym now)

-- a call that was made, or for which there was no memory, with what a later count of faults leaves
pub ended : {T E : Type 0} (result : Result T E) (start files files' files'' : List File) (calls calls' : List Call) (past : List (List File)) (call : Call) → files ≡ after start calls
    → OnOk result (files' ≡ step call files) → OnOk result (calls' ≡ calls ++ call ∷ []) → OnErr result (files' ≡ files) → OnErr result (calls' ≡ calls) → files'' ≡ files' → past ≡ earlier start calls'
    → ((files'' ≡ files) × (past ≡ earlier start calls)) ⊎ ((files'' ≡ step call files) × (past ≡ files ∷ earlier start calls))
ended (Ok x) start files files' files'' calls calls' past call now made noted same same' f p = inr (f ∙ made, p ∙ one_earlier start files calls calls' call now noted)
ended (Err e) start files files' files'' calls calls' past call now made noted same same' f p = inl (f ∙ same, p ∙ ap (λ (l : List Call). earlier start l) same')
