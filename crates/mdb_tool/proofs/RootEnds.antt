-- What a run of `root` promises, by how its reading and its writing ended.
use Rattle.std.proofs.Common.{◌≡◌, ℕ, ◌<◌, ◌≤◌, nat_le, Bool, List, ◌++◌, length, Option, Some, None, Result, refl, sym, ap, ◌∙◌, inl, inr}
use Rattle.std.specs.Prelude.{IfSome}
use Rattle.std.specs.Io.KnownBytes.{Appends}
use Rattle.std.proofs.lemmas.Bool.{le-leb, lt-leb}
use Rattle.std.proofs.lemmas.List.{take_all}
use Rattle.base_model.specs.Faults.{Rose}
use Rattle.base_model.specs.Streams.{AtEnd, AppendsPrefix}
use Rattle.trie_model.specs.Maps.{Map, map_digests, root}
use Rattle.text_model.specs.Lines.{input_limit, settled_lines, lines_within}
use Rattle.text_model.specs.Texts.{Input, root_text}
use Rattle.text_model.specs.MapOfLines.{map_of_lines, bad_line}
use Rattle.store_model.specs.Refusals.{Refusal}
use Rattle.run_model.specs.OutsideThings.{Outside}
use Rattle.run_model.specs.End.{End, Done, BadLine, Limit, Read, Write, NoMemory}
use Rattle.run_model.specs.Outcome.{Outcome, silent, EndsAs, Prints, PrintsPrefix, PrintsNothing, IsUndecided, CameTo, IsComplete}
use Rattle.run_model.specs.Root.{outcome_of, root_outcome, root_decided, RootRuns}
use Rattle.run_model.specs.Command.{Root}
use Rattle.run_model.specs.Runs.{SharedRuns, CommandNeeds, command_outcome}
use Rattle.mdb_tool.specs.declared.map_lines.MapFault.{MapFault}
use Rattle.mdb_tool.specs.declared.map_lines.MapFault.TheVariants.{Line as AtLine, Read as AtRead, Limit as AtLimit, NoMemory as AtMemory}
use Rattle.mdb_tool.specs.Ends.{end_of}
use Rattle.run_model.proofs.ToldThings.{where_told, always, whole}
use Rattle.mdb_tool.specs.MapLines.{MakesMap, Makes, FirstBad, IsPastLimit, GoodSoFar, status_of_fault}

-- all that a run of `root` promises
pub record RootPromises (w : ℕ) (before after : Outside) (end : End) : Type 0 where
  pub shared : SharedRuns Root w before after end
  pub root : RootRuns w before after end

-- ---- the outcome
-- a first bad line
bad_outcome : (w : ℕ) (bytes : List ℕ) (n : ℕ) → bad_line (lines_within input_limit bytes) ≡ Some n → root_outcome w bytes ≡ silent (BadLine n)
bad_outcome w bytes n h = rw h refl

-- too much input
long_outcome : (w : ℕ) (bytes : List ℕ) → input_limit < length bytes → bad_line (lines_within input_limit bytes) ≡ None → root_outcome w bytes ≡ silent (Limit Input)
long_outcome w bytes beyond good = rw (good, lt-leb (length bytes) input_limit beyond) refl

-- lines that make a map with this root
made_outcome : (w : ℕ) (bytes : List ℕ) (digests : List (List ℕ × List ℕ)) (id : List ℕ) → MakesMap bytes digests → ((m : Map) → digests ≡ map_digests m → id ≡ root w m) → (text : List ℕ) → text ≡ root_text id → root_outcome w bytes ≡ record { end = Done; text = text }
made_outcome w bytes digests id made is text spelled =
    let lines = lines_within input_limit bytes in
    let printed : text ≡ root_text (root w (map_of_lines lines)) = spelled ∙ ap root_text (is (map_of_lines lines) made.digests_of) in
    ap (λ (bad : Option ℕ). outcome_of w lines bad (nat_le (length bytes) input_limit)) made.good
    ∙ ap (λ (within : Bool). outcome_of w lines None within) (le-leb (length bytes) input_limit made.within)
    ∙ ap (λ (t : List ℕ). let o : Outcome = record { end = Done; text = t } in o) (sym printed)

-- good lines within the limit decide nothing
undecided : (given : List ℕ) → length given ≤ input_limit → bad_line (settled_lines given) ≡ None → root_decided given ≡ None
undecided given within good =
    let bad = ap (λ (front : List ℕ). bad_line (settled_lines front)) (take_all input_limit given within) ∙ good in
    rw (bad, le-leb (length given) input_limit within) refl

-- ---- of an input that tells
-- the outcome on the whole input is this one
Comes : ℕ → Outside → Outcome → Type 0
Comes w before o = IfSome before.input.left (λ bytes. root_outcome w bytes ≡ o)

ends_as : (w : ℕ) (before : Outside) (o : Outcome) → Comes w before o → EndsAs (root_outcome w) before o.end
unfolding Comes
ends_as w before o comes = where_told (λ bytes. root_outcome w bytes ≡ o) (λ bytes. (root_outcome w bytes).end ≡ o.end) before.input.left (λ bytes is. ap (λ (x : Outcome). x.end) is) comes

-- a run that ended as its outcome and printed its text
came : (w : ℕ) (before after : Outside) (o : Outcome) → Comes w before o → Appends before.output.taken after.output.taken o.text → IsComplete (CommandNeeds Root w) (command_outcome Root w) before after o.end
unfolding Comes
came w before after o comes printed = λ _ _. where_told (λ bytes. root_outcome w bytes ≡ o) (λ bytes. (found : Result Map Refusal) → CommandNeeds Root w before after found → CameTo (root_outcome w bytes) before after o.end) before.input.left (λ bytes is found _. rw is (inr (refl, printed))) comes

prints : (w : ℕ) (before after : Outside) (o : Outcome) → Comes w before o → Appends before.output.taken after.output.taken o.text → Prints (root_outcome w) before after
unfolding Comes
prints w before after o comes printed = where_told (λ bytes. root_outcome w bytes ≡ o) (λ bytes. Appends before.output.taken after.output.taken (root_outcome w bytes).text) before.input.left (λ bytes is. rw is printed) comes

prints_prefix : (w : ℕ) (before after : Outside) (o : Outcome) → Comes w before o → AppendsPrefix before.output.taken after.output.taken o.text → PrintsPrefix (root_outcome w) before after
unfolding Comes
prints_prefix w before after o comes printed = where_told (λ bytes. root_outcome w bytes ≡ o) (λ bytes. AppendsPrefix before.output.taken after.output.taken (root_outcome w bytes).text) before.input.left (λ bytes is. rw is printed) comes

-- nothing is a prefix of every text
nothing_is_prefix : (w : ℕ) (before after : Outside) → PrintsNothing before after → PrintsPrefix (root_outcome w) before after
nothing_is_prefix w before after printed = always (λ bytes. AppendsPrefix before.output.taken after.output.taken (root_outcome w bytes).text) before.input.left (λ bytes. (0, printed))

-- ---- the ends of a run
-- at the first bad line
at_line : (w : ℕ) (before after : Outside) (n : ℕ) → FirstBad before.input.left n → PrintsNothing before after → after.disk ≡ before.disk → RootPromises w before after (BadLine n)
unfolding Comes
at_line w before after n bad printed kept =
    let comes : Comes w before (silent (BadLine n)) = where_told (λ bytes. bad_line (lines_within input_limit bytes) ≡ Some n) (λ bytes. root_outcome w bytes ≡ silent (BadLine n)) before.input.left (λ bytes h. bad_outcome w bytes n h) bad in
    record {
      shared = record {
        words = λ i is. let no : ⊥ = cc is in no;
        read = λ is. let no : ⊥ = cc is in absurd no;
        write = λ is. let no : ⊥ = cc is in absurd no;
        disk = λ is. let no : ⊥ = cc is in absurd no;
        store = λ why is. let no : ⊥ = cc is in absurd no;
        own = record { held = λ is. let no : ⊥ = cc is in absurd no; accepted = λ number cause is. let no : ⊥ = cc is in absurd no };
        limit = λ is. let no : ⊥ = cc is in absurd no;
        complete = came w before after (silent (BadLine n)) comes printed;
      };
      root = record {
        done = λ is. let no : ⊥ = cc is in absurd no;
        prefix = nothing_is_prefix w before after printed;
        nothing = λ _ _. printed;
        line = λ m is. rw (← is) (ends_as w before (silent (BadLine n)) comes);
        limit = λ kind is. let no : ⊥ = cc is in absurd no;
        write = λ is. let no : ⊥ = cc is in absurd no;
        disk = kept;
        undecided = λ is. let no : ⊥ = cc is in absurd no;
      };
    }

-- past the limit of an input
at_limit : (w : ℕ) (before after : Outside) → IsPastLimit before.input.left → PrintsNothing before after → after.disk ≡ before.disk → RootPromises w before after (Limit Input)
unfolding Comes
at_limit w before after long printed kept =
    let comes : Comes w before (silent (Limit Input)) = where_told (λ bytes. (input_limit < length bytes) × (bad_line (lines_within input_limit bytes) ≡ None)) (λ bytes. root_outcome w bytes ≡ silent (Limit Input)) before.input.left (λ bytes h. long_outcome w bytes h.0 h.1) long in
    record {
      shared = record {
        words = λ i is. let no : ⊥ = cc is in no;
        read = λ is. let no : ⊥ = cc is in absurd no;
        write = λ is. let no : ⊥ = cc is in absurd no;
        disk = λ is. let no : ⊥ = cc is in absurd no;
        store = λ why is. let no : ⊥ = cc is in absurd no;
        own = record { held = λ is. let no : ⊥ = cc is in absurd no; accepted = λ number cause is. let no : ⊥ = cc is in absurd no };
        limit = λ _. where_told (λ bytes. (input_limit < length bytes) × (bad_line (lines_within input_limit bytes) ≡ None)) (λ bytes. input_limit < length bytes) before.input.left (λ bytes h. h.0) long;
        complete = came w before after (silent (Limit Input)) comes printed;
      };
      root = record {
        done = λ is. let no : ⊥ = cc is in absurd no;
        prefix = nothing_is_prefix w before after printed;
        nothing = λ _ _. printed;
        line = λ m is. let no : ⊥ = cc is in absurd no;
        limit = λ kind is. let same : Input ≡ kind = cc is in (rw (← same) (ends_as w before (silent (Limit Input)) comes), sym same);
        write = λ is. let no : ⊥ = cc is in absurd no;
        disk = kept;
        undecided = λ is. let no : ⊥ = cc is in absurd no;
      };
    }

-- at a read that failed
at_read : (w : ℕ) (before after : Outside) → Rose before.input.faults after.input.faults → IsUndecided root_decided before after → PrintsNothing before after → after.disk ≡ before.disk → RootPromises w before after Read
at_read w before after rose open_still printed kept = record {
  shared = record {
    words = λ i is. let no : ⊥ = cc is in no;
    read = λ _. rose;
    write = λ is. let no : ⊥ = cc is in absurd no;
    disk = λ is. let no : ⊥ = cc is in absurd no;
    store = λ why is. let no : ⊥ = cc is in absurd no;
    own = record { held = λ is. let no : ⊥ = cc is in absurd no; accepted = λ number cause is. let no : ⊥ = cc is in absurd no };
    limit = λ is. let no : ⊥ = cc is in absurd no;
    complete = λ quiet _. absurd (quiet rose);
  };
  root = record {
    done = λ is. let no : ⊥ = cc is in absurd no;
    prefix = nothing_is_prefix w before after printed;
    nothing = λ _ _. printed;
    line = λ m is. let no : ⊥ = cc is in absurd no;
    limit = λ kind is. let no : ⊥ = cc is in absurd no;
    write = λ is. let no : ⊥ = cc is in absurd no;
    disk = kept;
    undecided = λ _. open_still;
  };
}

-- at want of memory
pub at_memory : (w : ℕ) (before after : Outside) → PrintsNothing before after → after.disk ≡ before.disk → RootPromises w before after NoMemory
at_memory w before after printed kept = record {
  shared = record {
    words = λ i is. let no : ⊥ = cc is in no;
    read = λ is. let no : ⊥ = cc is in absurd no;
    write = λ is. let no : ⊥ = cc is in absurd no;
    disk = λ is. let no : ⊥ = cc is in absurd no;
    store = λ why is. let no : ⊥ = cc is in absurd no;
    own = record { held = λ is. let no : ⊥ = cc is in absurd no; accepted = λ number cause is. let no : ⊥ = cc is in absurd no };
    limit = λ is. let no : ⊥ = cc is in absurd no;
    complete = λ _ _. always (λ bytes. (found : Result Map Refusal) → CommandNeeds Root w before after found → CameTo (root_outcome w bytes) before after NoMemory) before.input.left (λ bytes found _. inl refl);
  };
  root = record {
    done = λ is. let no : ⊥ = cc is in absurd no;
    prefix = nothing_is_prefix w before after printed;
    nothing = λ _ _. printed;
    line = λ m is. let no : ⊥ = cc is in absurd no;
    limit = λ kind is. let no : ⊥ = cc is in absurd no;
    write = λ is. let no : ⊥ = cc is in absurd no;
    disk = kept;
    undecided = λ is. let no : ⊥ = cc is in absurd no;
  };
}

-- what is still open after bytes that settle good lines
still_open : (before after : Outside) → GoodSoFar before.input.left after.input.left → IsUndecided root_decided before after
still_open before after h = by_told before.input.left after.input.left h
  where
    by_told : (left left' : Option (List ℕ)) → GoodSoFar left left' → IfSome left (λ bytes. IfSome left' (λ rest. (given : List ℕ) × (bytes ≡ given ++ rest) × (root_decided given ≡ None)))
    by_told None left' g = tt
    by_told (Some bytes) None g = tt
    by_told (Some bytes) (Some rest) g = (g.0, g.1, undecided g.0 g.2 g.3)

-- where its lines made no map
pub stopped : (w : ℕ) (before after : Outside) (fault : MapFault) → PrintsNothing before after → after.disk ≡ before.disk → ((n : ℕ) → fault ≡ AtLine n → FirstBad before.input.left n) → (fault ≡ AtLimit → IsPastLimit before.input.left) → (fault ≡ AtRead → Rose before.input.faults after.input.faults) → (fault ≡ AtRead → GoodSoFar before.input.left after.input.left) → RootPromises w before after (end_of (status_of_fault fault))
stopped w before after (AtLine n) printed kept line limit read good = at_line w before after n (line n refl) printed kept
stopped w before after AtRead printed kept line limit read good = at_read w before after (read refl) (still_open before after (good refl)) printed kept
stopped w before after AtLimit printed kept line limit read good = at_limit w before after (limit refl) printed kept
stopped w before after AtMemory printed kept line limit read good = at_memory w before after printed kept

-- lines that make a map with this root
pub Found : ℕ → Outside → List ℕ → Type 0
Found w before text = Comes w before (record { end = Done; text = text })

pub found : (w : ℕ) (before : Outside) (digests : List (List ℕ × List ℕ)) (id text : List ℕ) → Makes before.input.left digests → ((m : Map) → digests ≡ map_digests m → id ≡ root w m) → text ≡ root_text id → Found w before text
unfolding Comes Found
found w before digests id text makes is spelled = where_told (λ bytes. MakesMap bytes digests) (λ bytes. root_outcome w bytes ≡ record { end = Done; text = text }) before.input.left (λ bytes made. made_outcome w bytes digests id made is text spelled) makes

-- its line was written
pub printed_all : (w : ℕ) (before after : Outside) (text : List ℕ) → Found w before text → AtEnd after.input.left → Appends before.output.taken after.output.taken text → after.disk ≡ before.disk → RootPromises w before after Done
unfolding Found
printed_all w before after text comes end printed kept =
    let o : Outcome = record { end = Done; text = text } in
    record {
      shared = record {
        words = λ i is. let no : ⊥ = cc is in no;
        read = λ is. let no : ⊥ = cc is in absurd no;
        write = λ is. let no : ⊥ = cc is in absurd no;
        disk = λ is. let no : ⊥ = cc is in absurd no;
        store = λ why is. let no : ⊥ = cc is in absurd no;
        own = record { held = λ is. let no : ⊥ = cc is in absurd no; accepted = λ number cause is. let no : ⊥ = cc is in absurd no };
        limit = λ is. let no : ⊥ = cc is in absurd no;
        complete = came w before after o comes printed;
      };
      root = record {
        done = λ _. (ends_as w before o comes, prints w before after o comes printed, end);
        prefix = prints_prefix w before after o comes (whole before.output.taken after.output.taken text printed);
        nothing = λ differs _. absurd (differs refl);
        line = λ m is. let no : ⊥ = cc is in absurd no;
        limit = λ kind is. let no : ⊥ = cc is in absurd no;
        write = λ is. let no : ⊥ = cc is in absurd no;
        disk = kept;
        undecided = λ is. let no : ⊥ = cc is in absurd no;
      };
    }

-- its writing failed
pub printed_part : (w : ℕ) (before after : Outside) (text : List ℕ) → Found w before text → Rose before.output.faults after.output.faults → AppendsPrefix before.output.taken after.output.taken text → after.disk ≡ before.disk → RootPromises w before after Write
unfolding Found
printed_part w before after text comes rose printed kept =
    let o : Outcome = record { end = Done; text = text } in
    record {
      shared = record {
        words = λ i is. let no : ⊥ = cc is in no;
        read = λ is. let no : ⊥ = cc is in absurd no;
        write = λ _. rose;
        disk = λ is. let no : ⊥ = cc is in absurd no;
        store = λ why is. let no : ⊥ = cc is in absurd no;
        own = record { held = λ is. let no : ⊥ = cc is in absurd no; accepted = λ number cause is. let no : ⊥ = cc is in absurd no };
        limit = λ is. let no : ⊥ = cc is in absurd no;
        complete = λ _ quiet. absurd (quiet rose);
      };
      root = record {
        done = λ is. let no : ⊥ = cc is in absurd no;
        prefix = prints_prefix w before after o comes printed;
        nothing = λ _ differs. absurd (differs refl);
        line = λ m is. let no : ⊥ = cc is in absurd no;
        limit = λ kind is. let no : ⊥ = cc is in absurd no;
        write = λ _. ends_as w before o comes;
        disk = kept;
        undecided = λ is. let no : ⊥ = cc is in absurd no;
      };
    }
