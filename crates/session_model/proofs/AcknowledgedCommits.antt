-- What the first bytes of a script's text acknowledge.
use Rattle.std.proofs.Common.{◌≡◌, ℕ, zero, suc, ◌-◌, ◌<◌, ◌≤◌, Bool, true, false, nat_lt, cond, List, [], ◌∷◌, ◌++◌, length, take, refl, ap, Option, Some, None, arith, length-append}
use Rattle.std.specs.List.{AllByRecursion, cons_option}
use Rattle.std.specs.Result.{IfOk}
use Rattle.std.proofs.lemmas.Bool.{ltb-false, lt-ltb}
use Rattle.trie_model.specs.Maps.{Map}
use Rattle.batch_model.specs.Batch.{Change}
use Rattle.text_model.specs.Texts.{numbered_text}
use Rattle.session_model.specs.Session.{Session, Step, commit, commit_step, step}
use Rattle.session_model.specs.Script.{script, text_of, batches_of, acknowledged}
use Rattle.session_model.specs.Laws.{AcknowledgedStand}
use Rattle.session_model.proofs.PlayedLines.{script-all}
use Rattle.session_model.proofs.Outcomes.{Holds, of_commit, of_step}

-- ---- each commit prints a line

abbrev PrintsOf : Option (List Change) → List ℕ → Type 0
PrintsOf None text = Unit {0}
PrintsOf (Some batch) text = 0 < length text

-- a step that commits prints something
abbrev Prints : Step → Type 0
Prints t = PrintsOf t.committed t.text

prints_nothing : (t : Step) → t.committed ≡ None → Prints t
prints_nothing t none = rw none tt

prints_line : (sort : List ℕ) (number : ℕ) (id : List ℕ) → 0 < length sort → 0 < length (numbered_text sort number id)
prints_line [] number id some = absurd (omega arith)
prints_line (b ∷ sort) number id some = omega arith

prints_commit : (w : ℕ) (s : Session) → Prints (commit_step w s)
prints_commit w s = omega arith

commit-prints : (w : ℕ) (s : Session) → IfOk (commit w s) (λ (next : Session × Step). Prints next.1)
commit-prints w s = of_commit (λ (next : Session × Step). Prints next.1) w s (prints_commit w s)

step-prints : (w n : ℕ) (s : Session) (line : List ℕ) → IfOk (step w n s line) (λ (next : Session × Step). Prints next.1)
step-prints w n s line = of_step (λ (next : Session × Step). Prints next.1) w s holds n line
  where
    holds : Holds (λ (next : Session × Step). Prints next.1) w s
    holds = record {
      still = prints_nothing;
      pends = λ key value asks. tt;
      commits = prints_commit w s;
      drops = λ cause. tt;
      views = λ place may. tt;
      takes = λ k may. omega arith;
      closes = λ k. tt;
    }

script-prints : (w : ℕ) (m : Map) (bytes : List ℕ) → AllByRecursion Prints (script w m bytes).steps
script-prints w m bytes = script-all Prints w (step-prints w) (commit-prints w) m bytes

-- ---- steps

-- a list begins with another
abbrev Begins : List (List Change) → List (List Change) → Type 0
Begins xs ys = (more : List (List Change)) × (ys ≡ xs ++ more)

begins_on : (o : Option (List Change)) (xs ys : List (List Change)) → Begins xs ys → Begins (cons_option o xs) (cons_option o ys)
begins_on None xs ys h = h
begins_on (Some x) xs ys h = (h.0, ap (λ (zs : List (List Change)). x ∷ zs) h.1)

-- no bytes acknowledge nothing
none-acknowledged : (steps : List Step) → AllByRecursion Prints steps → acknowledged 0 steps ≡ []
none-acknowledged [] h = refl
none-acknowledged (s ∷ steps) h = go s.committed s.text h.0 (none-acknowledged steps h.1)
  where
    go : (o : Option (List Change)) (text : List ℕ) → PrintsOf o text → acknowledged 0 steps ≡ [] → cond (nat_lt 0 (length text)) [] (cons_option o (acknowledged (0 - length text) steps)) ≡ []
    go o (b ∷ text) prints later = let some : nat_lt 0 (length (b ∷ text)) ≡ true = lt-ltb 0 (length (b ∷ text)) (omega arith) in rw some refl
    go None [] prints later = later
    go (Some batch) [] prints later = absurd (omega arith)

-- what bytes of the text of the first steps acknowledge
stands : (n count : ℕ) (steps : List Step) → AllByRecursion Prints steps → n ≤ length (text_of (take count steps)) → Begins (acknowledged n steps) (batches_of (take count steps))
stands n zero steps h le =
    let none : n ≡ 0 = omega arith in
    ([], rw (none, none-acknowledged steps h) refl)
stands n (suc count) [] h le = ([], refl)
stands n (suc count) (s ∷ steps) h le = go (nat_lt n (length s.text)) refl (stands (n - length s.text) count steps h.1)
  where
    go : (b : Bool) → nat_lt n (length s.text) ≡ b → (n - length s.text ≤ length (text_of (take count steps)) → Begins (acknowledged (n - length s.text) steps) (batches_of (take count steps))) → Begins (cond b [] (cons_option s.committed (acknowledged (n - length s.text) steps))) (cons_option s.committed (batches_of (take count steps)))
    go true is later = (cons_option s.committed (batches_of (take count steps)), refl)
    go false is later =
        let whole : length s.text ≤ n = ltb-false n (length s.text) is in
        let rest : n - length s.text ≤ length (text_of (take count steps)) = omega (arith, length-append s.text (text_of (take count steps))) in
        begins_on s.committed (acknowledged (n - length s.text) steps) (batches_of (take count steps)) (later rest)

pub acknowledged_stand : AcknowledgedStand
acknowledged_stand w m bytes n count le = stands n count (script w m bytes).steps (script-prints w m bytes) le
