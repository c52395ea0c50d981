-- Lines that are played one after another: in two parts, and what holds of each of their steps.
use Rattle.std.proofs.Common.{◌≡◌, ℕ, zero, suc, ◌+◌, Bool, true, false, List, [], ◌∷◌, ◌++◌, length, take, refl, sym, ap, ◌∙◌, Option, Some, None, Result, Ok, Err, arith, append_assoc}
use Rattle.std.specs.Result.{IfOk}
use Rattle.std.proofs.Math.Seq.{take-append_seam}
use Rattle.std.proofs.lemmas.Grind.{flat_map-append}
use Rattle.std.proofs.lemmas.List.{append-nil}
use Rattle.std.specs.List.{AllByRecursion}
use Rattle.std.specs.Prelude.{nat_le}
use Rattle.trie_model.specs.Maps.{Map}
use Rattle.batch_model.specs.Batch.{Change}
use Rattle.text_model.specs.Texts.{LimitKind, Input}
use Rattle.text_model.specs.Lines.{input_limit, lines_within}
use Rattle.session_model.specs.Session.{Session, Step, Stop, Limit, start, commit, step}
use Rattle.session_model.specs.Script.{Played, then_play, play, and_then, at_end, ended, script, text_of, after_step, after_steps}

-- ---- one line

-- a step, and then what others came to
abbrev pub put_first : Step → Played → Played
put_first t p = record { session = p.session; steps = t ∷ p.steps; stop = p.stop }

-- a line that goes on
pub play-on : (w n : ℕ) (s : Session) (line : List ℕ) (lines : List (List ℕ)) (next : Session × Step) → step w n s line ≡ Ok next → play w n s (line ∷ lines) ≡ put_first next.1 (play w (suc n) next.0 lines)
play-on w n s line lines next is = ap (λ (r : Result (Session × Step) Stop). then_play s r (λ (t : Session). play w (suc n) t lines)) is

-- a line that stops
pub play-stop : (w n : ℕ) (s : Session) (line : List ℕ) (lines : List (List ℕ)) (stop : Stop) → step w n s line ≡ Err stop → play w n s (line ∷ lines) ≡ record { session = s; steps = []; stop = Some stop }
play-stop w n s line lines stop is = ap (λ (r : Result (Session × Step) Stop). then_play s r (λ (t : Session). play w (suc n) t lines)) is

-- ---- two parts

-- what lines came to, and others after them, where the first were not left
abbrev pub followed : Option Stop → Played → Played → Played
followed (Some stop) p q = p
followed None p q = record { session = q.session; steps = p.steps ++ q.steps; stop = q.stop }

put_first-followed : (t : Step) (o : Option Stop) (p q r : Played) → q ≡ r → put_first t (followed o p q) ≡ followed o (put_first t p) r
put_first-followed t (Some stop) p q r is = refl
put_first-followed t None p q r is = ap (λ (x : Played). put_first t (followed None p x)) is

-- lines in two parts
pub play-append : (w n : ℕ) (s : Session) (xs ys : List (List ℕ)) → play w n s (xs ++ ys) ≡ followed (play w n s xs).stop (play w n s xs) (play w (n + length xs) (play w n s xs).session ys)
play-append w n s [] ys = ap (λ (k : ℕ). play w k s ys) (let e : n ≡ n + 0 = omega arith in e)
play-append w n s (x ∷ xs) ys = go (step w n s x) (λ t. play-append w (suc n) t xs ys)
  where
    go : (r : Result (Session × Step) Stop)
        → ((t : Session) → play w (suc n) t (xs ++ ys) ≡ followed (play w (suc n) t xs).stop (play w (suc n) t xs) (play w (suc n + length xs) (play w (suc n) t xs).session ys))
        → then_play s r (λ (t : Session). play w (suc n) t (xs ++ ys))
        ≡ (let p = then_play s r (λ (t : Session). play w (suc n) t xs) in followed p.stop p (play w (n + length (x ∷ xs)) p.session ys))
    go (Err stop) later = refl
    go (Ok next) later =
        let p = play w (suc n) next.0 xs in
        ap (put_first next.1) (later next.0)
        ∙ put_first-followed next.1 p.stop p (play w (suc n + length xs) p.session ys) (play w (n + length (x ∷ xs)) p.session ys)
        (ap (λ (k : ℕ). play w k p.session ys) (let e : suc n + length xs ≡ n + length (x ∷ xs) = omega arith in e))

-- where the first part was left, the second makes no difference
pub play-left : (w n : ℕ) (s : Session) (xs ys : List (List ℕ)) (stop : Stop) → (play w n s xs).stop ≡ Some stop → play w n s (xs ++ ys) ≡ play w n s xs
play-left w n s xs ys stop is =
    let p = play w n s xs in
    play-append w n s xs ys ∙ ap (λ (o : Option Stop). followed o p (play w (n + length xs) p.session ys)) is

-- where the first part was done, the second goes on from there
pub play-done : (w n : ℕ) (s : Session) (xs ys : List (List ℕ)) → (play w n s xs).stop ≡ None → play w n s (xs ++ ys) ≡ followed None (play w n s xs) (play w (n + length xs) (play w n s xs).session ys)
play-done w n s xs ys is =
    let p = play w n s xs in
    play-append w n s xs ys ∙ ap (λ (o : Option Stop). followed o p (play w (n + length xs) p.session ys)) is

-- one line more, which goes on
pub play-more : (w n : ℕ) (s : Session) (xs : List (List ℕ)) (line : List ℕ) (next : Session × Step) → (play w n s xs).stop ≡ None → step w (n + length xs) (play w n s xs).session line ≡ Ok next
    → play w n s (xs ++ line ∷ []) ≡ record { session = next.0; steps = (play w n s xs).steps ++ next.1 ∷ []; stop = None }
play-more w n s xs line next done is =
    let p = play w n s xs in
    play-done w n s xs (line ∷ []) done ∙ ap (followed None p) (play-on w (n + length xs) p.session line [] next is)

-- one line more, which stops: no lines after it make a difference
pub play-last : (w n : ℕ) (s : Session) (xs : List (List ℕ)) (line : List ℕ) (ys : List (List ℕ)) (stop : Stop) → (play w n s xs).stop ≡ None → step w (n + length xs) (play w n s xs).session line ≡ Err stop
    → play w n s (xs ++ line ∷ ys) ≡ record { session = (play w n s xs).session; steps = (play w n s xs).steps; stop = Some stop }
play-last w n s xs line ys stop done is =
    let p = play w n s xs in
    play-done w n s xs (line ∷ ys) done
    ∙ ap (followed None p) (play-stop w (n + length xs) p.session line ys stop is)
    ∙ ap (λ (ts : List Step). let q : Played = record { session = p.session; steps = ts; stop = Some stop } in q) (append-nil p.steps)

-- ---- how a script ends

-- where its lines were left
pub ended-left : (w : ℕ) (p : Played) (within : Bool) (stop : Stop) → p.stop ≡ Some stop → ended w p p.stop within ≡ p
ended-left w p within stop is = ap (λ (o : Option Stop). ended w p o within) is

-- where they were all done, and the input goes on past its limit
pub ended-long : (w : ℕ) (p : Played) (within : Bool) → p.stop ≡ None → within ≡ false → ended w p p.stop within ≡ record p { stop = Some (Limit Input) }
ended-long w p within done long = ap (λ (o : Option Stop). ended w p o within) done ∙ ap (ended w p None) long

-- where they were all done, and are the whole input
pub ended-done : (w : ℕ) (p : Played) (within : Bool) → p.stop ≡ None → within ≡ true → ended w p p.stop within ≡ at_end w p p.session.pending
ended-done w p within done whole = ap (λ (o : Option Stop). ended w p o within) done ∙ ap (ended w p None) whole

-- ---- steps in two parts

-- steps, and maybe more of them
abbrev pub GoesOn : List Step → List Step → Type 0
GoesOn xs ys = (more : List Step) × (ys ≡ xs ++ more)

followed-goes_on : (o : Option Stop) (p q : Played) → GoesOn p.steps (followed o p q).steps
followed-goes_on (Some stop) p q = ([], sym (append-nil p.steps))
followed-goes_on None p q = (q.steps, refl)

-- the steps of the first lines are the first steps
pub play-goes_on : (w n : ℕ) (s : Session) (xs ys : List (List ℕ)) → GoesOn (play w n s xs).steps (play w n s (xs ++ ys)).steps
play-goes_on w n s xs ys =
    let p = play w n s xs in
    let q = play w (n + length xs) p.session ys in
    let on = followed-goes_on p.stop p q in
    (on.0, ap (λ (r : Played). r.steps) (play-append w n s xs ys) ∙ on.1)

and_then-goes_on : (p : Played) (r : Result (Session × Step) LimitKind) → GoesOn p.steps (and_then p r).steps
and_then-goes_on p (Ok next) = (next.1 ∷ [], refl)
and_then-goes_on p (Err kind) = ([], sym (append-nil p.steps))

at_end-goes_on : (w : ℕ) (p : Played) (cs : List Change) → GoesOn p.steps (at_end w p cs).steps
at_end-goes_on w p [] = ([], sym (append-nil p.steps))
at_end-goes_on w p (c ∷ cs) = and_then-goes_on p (commit w p.session)

pub ended-goes_on : (w : ℕ) (p : Played) (stop : Option Stop) (within : Bool) → GoesOn p.steps (ended w p stop within).steps
ended-goes_on w p (Some stop) within = ([], sym (append-nil p.steps))
ended-goes_on w p None false = ([], sym (append-nil p.steps))
ended-goes_on w p None true = at_end-goes_on w p p.session.pending

-- those of the first lines of an input are the first steps of its script
pub script-goes_on : (w : ℕ) (m : Map) (bytes : List ℕ) (xs ys : List (List ℕ)) → lines_within input_limit bytes ≡ xs ++ ys → GoesOn (play w 1 (start m) xs).steps (script w m bytes).steps
script-goes_on w m bytes xs ys is =
    let p = play w 1 (start m) (lines_within input_limit bytes) in
    let first = play-goes_on w 1 (start m) xs ys in
    let last = ended-goes_on w p p.stop (nat_le (length bytes) input_limit) in
    let same : p.steps ≡ (play w 1 (start m) xs).steps ++ first.0 = ap (λ (ls : List (List ℕ)). (play w 1 (start m) ls).steps) is ∙ first.1 in
    (first.0 ++ last.0, last.1 ∙ ap (λ (ts : List Step). ts ++ last.0) same ∙ append_assoc (play w 1 (start m) xs).steps first.0 last.0)

pub text_of-append : (xs ys : List Step) → text_of (xs ++ ys) ≡ text_of xs ++ text_of ys
text_of-append xs ys = flat_map-append (λ (s : Step). s.text) xs ys

pub after_steps-append : (m : Map) (xs ys : List Step) → after_steps m (xs ++ ys) ≡ after_steps (after_steps m xs) ys
after_steps-append m [] ys = refl
after_steps-append m (x ∷ xs) ys = after_steps-append (after_step m x.committed) xs ys

-- the first steps of more
pub text_of-front : (xs ys : List Step) → text_of (take (length xs) (xs ++ ys)) ≡ text_of xs
text_of-front xs ys = ap text_of (take-append_seam xs ys)

pub after_steps-front : (m : Map) (xs ys : List Step) → after_steps m (take (length xs) (xs ++ ys)) ≡ after_steps m xs
after_steps-front m xs ys = ap (after_steps m) (take-append_seam xs ys)

-- ---- what holds of each step

-- of steps and of one more
pub all_and : (P : Step → Type 0) (xs : List Step) (x : Step) → AllByRecursion P xs → P x → AllByRecursion P (xs ++ x ∷ [])
all_and P [] x h p = (p, tt)
all_and P (y ∷ xs) x h p = (h.0, all_and P xs x h.1 p)

-- of the first of them
pub all_front : (P : Step → Type 0) (n : ℕ) (xs : List Step) → AllByRecursion P xs → AllByRecursion P (take n xs)
all_front P zero xs h = tt
all_front P (suc n) [] h = tt
all_front P (suc n) (x ∷ xs) h = (h.0, all_front P n xs h.1)

module _ (P : Step → Type 0) (w : ℕ) (lines_have : (n : ℕ) (s : Session) (line : List ℕ) → IfOk (step w n s line) (λ (next : Session × Step). P next.1)) where
  -- what the step of each line has, the steps of lines have
  pub play-all : (n : ℕ) (s : Session) (lines : List (List ℕ)) → AllByRecursion P (play w n s lines).steps
  play-all n s [] = tt
  play-all n s (line ∷ lines) = go (step w n s line) (lines_have n s line) (λ t. play-all (suc n) t lines)
    where
      go : (r : Result (Session × Step) Stop) → IfOk r (λ (next : Session × Step). P next.1) → ((t : Session) → AllByRecursion P (play w (suc n) t lines).steps) → AllByRecursion P (then_play s r (λ (t : Session). play w (suc n) t lines)).steps
      go (Err stop) h later = tt
      go (Ok next) h later = (h, later next.0)

module _ (P : Step → Type 0) (w : ℕ) (commits_have : (s : Session) → IfOk (commit w s) (λ (next : Session × Step). P next.1)) where
  last-all : (p : Played) (r : Result (Session × Step) LimitKind) → AllByRecursion P p.steps → IfOk r (λ (next : Session × Step). P next.1) → AllByRecursion P (and_then p r).steps
  last-all p (Ok next) h last = all_and P p.steps next.1 h last
  last-all p (Err kind) h last = h

  pub ended-all : (p : Played) (stop : Option Stop) (within : Bool) → AllByRecursion P p.steps → AllByRecursion P (ended w p stop within).steps
  ended-all p (Some stop) within h = h
  ended-all p None false h = h
  ended-all p None true h = go p.session.pending
    where
      go : (cs : List Change) → AllByRecursion P (at_end w p cs).steps
      go [] = h
      go (c ∷ cs) = last-all p (commit w p.session) h (commits_have p.session)

-- and so do those of a script
pub script-all : (P : Step → Type 0) (w : ℕ) → ((n : ℕ) (s : Session) (line : List ℕ) → IfOk (step w n s line) (λ (next : Session × Step). P next.1)) → ((s : Session) → IfOk (commit w s) (λ (next : Session × Step). P next.1))
    → (m : Map) (bytes : List ℕ) → AllByRecursion P (script w m bytes).steps
script-all P w lines_have commits_have m bytes =
    let p = play w 1 (start m) (lines_within input_limit bytes) in
    ended-all P w commits_have p p.stop (nat_le (length bytes) input_limit) (play-all P w lines_have 1 (start m) (lines_within input_limit bytes))
