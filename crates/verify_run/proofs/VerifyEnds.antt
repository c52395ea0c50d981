-- What a run of `verify` promises, by how its lines ended.
use Rattle.std.proofs.Common.{◌≡◌, ◌≢◌, ◌⊎◌, ℕ, ◌+◌, ◌≤◌, ◌<◌, Bool, true, false, nat_le, cond, List, [], ◌∷◌, ◌++◌, length, take, Option, Some, None, Result, Ok, Err, refl, sym, ap, ◌∙◌, subst, inl, inr}
use Rattle.std.specs.Prelude.{IfSome, is_ok}
use Rattle.std.specs.Option.{option_or, is_some}
use Rattle.std.proofs.lemmas.Bool.{leb-false, le-leb, lt-leb}
use Rattle.std.proofs.lemmas.List.{take_all}
use Rattle.base_model.specs.Faults.{Rose, TellsAlike}
use Rattle.base_model.specs.Streams.{AtEnd, AppendsPrefix}
use Rattle.trie_model.specs.Bits.{IsWidth}
use Rattle.trie_model.specs.Maps.{Map, IsMap, limits}
use Rattle.text_model.specs.FirstBad.{first_told, first_bad}
use Rattle.text_model.specs.Lines.{input_limit, settled_lines, lines_within}
use Rattle.text_model.specs.Texts.{LimitKind, Input}
use Rattle.text_model.specs.ReadLine.{Verify as proof_lines, read_line}
use Rattle.store_model.specs.Refusals.{Refusal}
use Rattle.mdb_core.specs.Stores.{DbState}
use Rattle.batch_text.specs.Stream.{Stream, Gives, NoMore, Past, BeginsOverlong}
use Rattle.batch_text.specs.PassedLines.{PassSoFar}
use Rattle.batch_text.specs.declared.reader.ReaderFault.{ReaderFault}
use Rattle.batch_text.specs.declared.reader.ReaderFault.TheVariants.{Read as ReadFault, Limit as LimitFault, Overlong, NoMemory as NoMemoryOfReader}
use Rattle.run_model.specs.Command.{Verify}
use Rattle.run_model.specs.End.{End, Done, BadWords, BadLine, VerifyRefused, NotHeld, NotOpened, Limit, Read, Write, Disk, NoMemory}
use Rattle.run_model.specs.Laws.{PassedLinesAreTrue}
use Rattle.run_model.specs.Outcome.{CameTo}
use Rattle.run_model.specs.OutsideThings.{DiskSeen, Outside, outside}
use Rattle.run_model.specs.Runs.{SharedRuns}
use Rattle.run_model.specs.Store.{IsFound, NeedsStore, OnMap}
use Rattle.run_model.specs.Verify.{Fault, NotUnderstood, Refused, Unopened, fault_end, verdict, asks_store, asks_on, end_unless, line_end, passed, verify_decided, verify_outcome, IsFoundIfAsked, IsVerdict, VerifyRuns}
use Rattle.run_model.proofs.StoredMaps.{true_of_store}
use Rattle.run_model.proofs.ToldThings.{where_told, always, rose_at_last}
use Rattle.verify_run.specs.declared.end.VerifyEnd.{VerifyEnd}
use Rattle.verify_run.specs.declared.end.VerifyEnd.TheVariants as ends
use Rattle.proof_check.specs.RefusalReasons.{seen_cause}
use Rattle.store_opening.specs.Opening.{end_of_fault}
use Rattle.verify_run.specs.Checks.{TellsStore}
use Rattle.verify_run.specs.Ends.{end_of, reader_end, LineEnds, MayEnd}
use Rattle.verify_run.specs.LocalStores.{IsLocal, IsLeft, asked_by, IsFoundWhere, Stops}
use Rattle.proof_model.specs.CheckedBytes.{Cause}
use Rattle.verify_run.proofs.StoresLeft.{local_left, local_untouched, store_end}
use Rattle.verify_run.proofs.LinesSoFar.{passes, DoneLines, SoFar, Within, Ends, EndsSo, PrintsFront, front_printed, ends_at_end, ends_past, ends_overlong, ends_given, breaks_given, asks_given}

-- all that a run of `verify` promises
pub record Promises (w : ℕ) (before after : Outside) (end : End) : Type 0 where
  pub shared : SharedRuns Verify w before after end
  pub verify : VerifyRuns w before after end

-- ---- by what is known of an end

-- the ends that lines may come to, and those that what is outside may
abbrev MayBe : End → Type 0
MayBe end = IsVerdict end ⊎ (end ≡ Read) ⊎ (end ≡ Write) ⊎ (end ≡ Disk) ⊎ (end ≡ NoMemory)

-- what is known of a run, whatever the files of the store are found to be, where it asks for them
record Facts (w : ℕ) (before after : Outside) (end : End) : Type 0 where
  may : MayBe end
  came : IsVerdict end → (found : Result Map Refusal) → IsFoundIfAsked w before found → EndsSo w found before.input.left before.output.taken after.output.taken end
  prefix : (found : Result Map Refusal) → IsFoundIfAsked w before found → PrintsFront w found before.input.left before.output.taken after.output.taken
  done : end ≡ Done → AtEnd after.input.left
  read : end ≡ Read → Rose before.input.faults after.input.faults
  write : end ≡ Write → Rose before.output.faults after.output.faults
  limit : (kind : LimitKind) → end ≡ Limit kind → (kind ≡ Input) × IfSome before.input.left (λ bytes. input_limit < length bytes)
  undecided : end ≡ Read → (found : Result Map Refusal) → IsFoundIfAsked w before found → PassSoFar (passes w found) before.input.left after.input.left
  left : IsLeft w before.disk after.disk end
  untouched : (found : Result Map Refusal) → IfSome before.input.left (λ bytes. asks_on w found bytes ≡ false → (after.disk ≡ before.disk) × (end ≢ Disk))

-- an end that neither lines nor what is outside come to
none_of : (end : End) (P : End → Type 0) → ((e : End) → IsVerdict e → P e) → P Read → P Write → P Disk → P NoMemory → MayBe end → P end
none_of end P verdict read write disk memory (inl h) = verdict end h
none_of end P verdict read write disk memory (inr (inl h)) = subst P (sym h) read
none_of end P verdict read write disk memory (inr (inr (inl h))) = subst P (sym h) write
none_of end P verdict read write disk memory (inr (inr (inr (inl h)))) = subst P (sym h) disk
none_of end P verdict read write disk memory (inr (inr (inr (inr h)))) = subst P (sym h) memory

-- lines come to none of other ends
no_verdict : (other : End) → other ≢ Done → ((n : ℕ) → other ≢ BadLine n) → ((n : ℕ) (cause : Cause) → other ≢ VerifyRefused n cause) → ((kind : LimitKind) → other ≢ Limit kind) → ((why : Refusal) → other ≢ NotOpened why) → (e : End) → IsVerdict e → e ≢ other
no_verdict other done line proof limit opened e (inl h) is = done (sym is ∙ h)
no_verdict other done line proof limit opened e (inr (inl h)) is = line h.0 (sym is ∙ h.1)
no_verdict other done line proof limit opened e (inr (inr (inl h))) is = proof h.0 h.1 (sym is ∙ h.2)
no_verdict other done line proof limit opened e (inr (inr (inr (inl h)))) is = limit h.0 (sym is ∙ h.1)
no_verdict other done line proof limit opened e (inr (inr (inr (inr h)))) is = opened h.0 (sym is ∙ h.1)

not_words : (i : ℕ) (e : End) → IsVerdict e → e ≢ BadWords i
not_words i = no_verdict (BadWords i) (λ is. cc is) (λ n is. cc is) (λ n cause is. cc is) (λ kind is. cc is) (λ why is. cc is)

not_held : (e : End) → IsVerdict e → e ≢ NotHeld
not_held = no_verdict NotHeld (λ is. cc is) (λ n is. cc is) (λ n cause is. cc is) (λ kind is. cc is) (λ why is. cc is)

-- nor of those that what is outside comes to
not_read : IsVerdict Read → ⊥
not_read h = no_verdict Read (λ is. cc is) (λ n is. cc is) (λ n cause is. cc is) (λ kind is. cc is) (λ why is. cc is) Read h refl

not_write : IsVerdict Write → ⊥
not_write h = no_verdict Write (λ is. cc is) (λ n is. cc is) (λ n cause is. cc is) (λ kind is. cc is) (λ why is. cc is) Write h refl

not_disk : IsVerdict Disk → ⊥
not_disk h = no_verdict Disk (λ is. cc is) (λ n is. cc is) (λ n cause is. cc is) (λ kind is. cc is) (λ why is. cc is) Disk h refl

not_memory : IsVerdict NoMemory → ⊥
not_memory h = no_verdict NoMemory (λ is. cc is) (λ n is. cc is) (λ n cause is. cc is) (λ kind is. cc is) (λ why is. cc is) NoMemory h refl

-- lines that pass decide nothing
told-none : (w : ℕ) (found : Result Map Refusal) (n : ℕ) (ls : List (List ℕ)) → first_bad (passes w found) n ls ≡ None → first_told (line_end w found) n ls ≡ None
told-none w found n [] h = refl
told-none w found n (line ∷ ls) h = go (verdict w found line) h (told-none w found (n + 1) ls)
  where
    go : (v : Result (List ℕ) Fault) → cond (is_ok v) (first_bad (passes w found) (n + 1) ls) (Some n) ≡ None → (first_bad (passes w found) (n + 1) ls ≡ None → first_told (line_end w found) (n + 1) ls ≡ None)
        → option_or (end_unless n v) (first_told (line_end w found) (n + 1) ls) ≡ None
    go (Ok text) h later = later h
    go (Err fault) h later = let no : ⊥ = cc h in absurd no

nothing_decided : (w : ℕ) (found : Result Map Refusal) (given : List ℕ) → length given ≤ input_limit → first_bad (passes w found) 1 (settled_lines given) ≡ None → verify_decided w found given ≡ None
nothing_decided w found given short good =
    let all : take input_limit given ≡ given = take_all input_limit given short in
    let within : nat_le (length given) input_limit ≡ true = le-leb (length given) input_limit short in
    let none : first_told (line_end w found) 1 (settled_lines (take input_limit given)) ≡ None = ap (λ g. first_told (line_end w found) 1 (settled_lines g)) all ∙ told-none w found 1 (settled_lines given) good in
    rw (none, within) refl

undecided_by : (w : ℕ) (found : Result Map Refusal) (left left' : Option (List ℕ)) → PassSoFar (passes w found) left left' → IfSome left (λ bytes. IfSome left' (λ rest. (given : List ℕ) × (bytes ≡ given ++ rest) × (verify_decided w found given ≡ None)))
undecided_by w found None left' h = tt
undecided_by w found (Some bytes) None h = tt
undecided_by w found (Some bytes) (Some rest) h = (h.0, h.1, nothing_decided w found h.0 h.2 h.3)

-- where neither input nor output failed, nor the disk where it was asked for
came_to : (w : ℕ) (found : Result Map Refusal) (before after : Outside) (end : End) (bytes : List ℕ) → Facts w before after end → (Rose before.input.faults after.input.faults → ⊥) → (Rose before.output.faults after.output.faults → ⊥) → (end ≡ Disk → ⊥)
    → (IsVerdict end → Ends w found bytes before.output.taken after.output.taken end) → CameTo (verify_outcome w found bytes) before after end
came_to w found before after end bytes f no_read no_write no_disk came = go f.may
  where
    go : MayBe end → CameTo (verify_outcome w found bytes) before after end
    go (inl h) = let e = came h in inr (sym e.ends, e.text)
    go (inr (inl h)) = absurd (no_read (f.read h))
    go (inr (inr (inl h))) = absurd (no_write (f.write h))
    go (inr (inr (inr (inl h)))) = absurd (no_disk h)
    go (inr (inr (inr (inr h)))) = inl h

promises : (w : ℕ) → IsWidth w → PassedLinesAreTrue → (before after : Outside) (end : End) → OnMap w before.disk (λ m. IsMap limits m) → Facts w before after end → Promises w before after end
promises w ww true_lines before after end stored f = record {
  shared = record {
    words = λ i. none_of end (λ e. e ≢ BadWords i) (not_words i) (λ is. cc is) (λ is. cc is) (λ is. cc is) (λ is. cc is) f.may;
    read = f.read;
    write = f.write;
    disk = f.left.rose;
    store = λ why is. (refl, f.left.refused why is);
    own = record {
      held = λ is. absurd (none_of end (λ e. e ≢ NotHeld) not_held (λ is. cc is) (λ is. cc is) (λ is. cc is) (λ is. cc is) f.may is);
      accepted = λ number cause is. refl;
    };
    limit = λ is. (f.limit Input is).1;
    complete = λ no_read no_write. told before.input.left f.came f.untouched no_read no_write;
  };
  verify = record {
    came = λ is found fits. (where_told _ _ before.input.left (λ bytes e. e.ends) (f.came is found fits), where_told _ _ before.input.left (λ bytes e. e.text) (f.came is found fits));
    prefix = f.prefix;
    shown = λ found. always _ before.input.left (λ bytes. true_lines w found (lines_within input_limit bytes) ww);
    within = stored;
    true_of_store = λ m found. always _ before.input.left (λ bytes. true_of_store w m (passed w (Ok m) (lines_within input_limit bytes)) (stored m found) (true_lines w (Ok m) (lines_within input_limit bytes) ww));
    done = f.done;
    untouched = f.untouched;
    files = f.left.files;
    opens = λ tells m found. f.left.opens tells m found.1.0;
    undecided = λ is found fits. undecided_by w found before.input.left after.input.left (f.undecided is found fits);
  };
}
  where
    told : (left : Option (List ℕ)) → (IsVerdict end → (found : Result Map Refusal) → IfSome left (λ bytes. asks_on w found bytes ≡ true → IsFound w before.disk found) → EndsSo w found left before.output.taken after.output.taken end)
        → ((found : Result Map Refusal) → IfSome left (λ bytes. asks_on w found bytes ≡ false → (after.disk ≡ before.disk) × (end ≢ Disk)))
        → (Rose before.input.faults after.input.faults → ⊥) → (Rose before.output.faults after.output.faults → ⊥)
        → IfSome left (λ bytes. (found : Result Map Refusal) → IfSome left (λ b. asks_on w found b ≡ true → NeedsStore w before after found) → CameTo (verify_outcome w found bytes) before after end)
    told None came untouched no_read no_write = tt
    told (Some bytes) came untouched no_read no_write = λ found needs.
        came_to w found before after end bytes f no_read no_write (no_disk found needs (asks_on w found bytes) refl) (λ is. came is found (λ asks. (needs asks).1))
      where
        no_disk : (found : Result Map Refusal) → (asks_on w found bytes ≡ true → NeedsStore w before after found) → (asks : Bool) → asks_on w found bytes ≡ asks → end ≡ Disk → ⊥
        no_disk found needs true is failed = (needs is).0 (f.left.rose failed)
        no_disk found needs false is failed = (untouched found is).1 failed

-- ---- by what ends the lines

-- what holds of each input that tells, by what was done of it
where_done : (P : List ℕ → Type 0) (w : ℕ) (found : Result Map Refusal) (start left : Option (List ℕ)) (n : ℕ) (old : Stream) (taken taken' : Option (List ℕ)) → TellsAlike start left → SoFar w found start n old left taken taken'
    → ((bytes l : List ℕ) → start ≡ Some bytes → left ≡ Some l → DoneLines w found bytes n old l taken taken' → P bytes) → IfSome start P
where_done P w found None left n old taken taken' tells so_far holds = tt
where_done P w found (Some bytes) None n old taken taken' tells so_far holds = let no : ⊥ = cc (tells.1 refl) in absurd no
where_done P w found (Some bytes) (Some l) n old taken taken' tells so_far holds = holds bytes l refl refl so_far

-- whether an input asks for the store
abbrev pub Asks : ℕ → Result Map Refusal → Option (List ℕ) → Type 0
Asks w found start = IfSome start (λ bytes. asks_on w found bytes ≡ true)

-- where it does, the files of the store are found to be this
abbrev Fits : ℕ → DiskSeen → Result Map Refusal → Option (List ℕ) → Type 0
Fits w disk found start = IfSome start (λ bytes. asks_on w found bytes ≡ true → IsFound w disk found)

-- what holds of the bytes of an input that tells
each : (P : List ℕ → Type 0) (start : Option (List ℕ)) → ((bytes : List ℕ) → start ≡ Some bytes → P bytes) → IfSome start P
each P None holds = tt
each P (Some bytes) holds = holds bytes refl

at : (P : List ℕ → Type 0) (start : Option (List ℕ)) (bytes : List ℕ) → start ≡ Some bytes → IfSome start P → P bytes
at P start bytes is h = subst (λ o. IfSome o P) is h

-- what was done of an input that tells
done_of : (w : ℕ) (found : Result Map Refusal) (start left : Option (List ℕ)) (n : ℕ) (old : Stream) (taken taken' : Option (List ℕ)) (bytes : List ℕ) → TellsAlike start left → start ≡ Some bytes → SoFar w found start n old left taken taken'
    → (l : List ℕ) × (left ≡ Some l) × DoneLines w found bytes n old l taken taken'
done_of w found start None n old taken taken' bytes tells is so_far = let no : false ≡ true = tells.1 (ap is_some is) in let none : ⊥ = cc no in absurd none
done_of w found start (Some l) n old taken taken' bytes tells is so_far = (l, refl, subst (λ o. SoFar w found o n old (Some l) taken taken') is so_far)

-- what the lines of an input so far say: where they asked for the store, so does the input; and what was done of it is known, where
-- the store is found to be what it is
pub record Known (w : ℕ) (disk : DiskSeen) (asked : Bool) (start : Option (List ℕ)) (n : ℕ) (old : Stream) (left : Option (List ℕ)) (taken taken' : Option (List ℕ)) : Type 0 where
  pub asks : asked ≡ true → (found : Result Map Refusal) → Asks w found start
  pub so_far : (found : Result Map Refusal) → IsFoundWhere asked w disk found → SoFar w found start n old left taken taken'

module _ (w : ℕ) (ww : IsWidth w) (true_lines : PassedLinesAreTrue) (start left left' : Option (List ℕ)) (n : ℕ) (old : Stream) (taken taken' : Option (List ℕ)) (reads reads' writes : ℕ) (disk disk' : DiskSeen) (s : Option DbState)
    (tells : TellsAlike start left) (within : Within start old left) (known : Known w disk (is_some s) start n old left taken taken') (stored : OnMap w disk (λ m. IsMap limits m)) where
  -- where the lines asked for the store, and the input is one for which it is found to be this
  found_for : (asked : Bool) → (asked ≡ true → (found : Result Map Refusal) → Asks w found start) → (found : Result Map Refusal) → Fits w disk found start → (bytes : List ℕ) → start ≡ Some bytes → IsFoundWhere asked w disk found
  found_for asked asks found fits bytes is = λ was. at (λ b. asks_on w found b ≡ true → IsFound w disk found) start bytes is fits (at (λ b. asks_on w found b ≡ true) start bytes is (asks was found))

  -- what holds of an input by what was done of it
  by_done : (P : List ℕ → Type 0) (found : Result Map Refusal) → Fits w disk found start → ((bytes l : List ℕ) → start ≡ Some bytes → left ≡ Some l → DoneLines w found bytes n old l taken taken' → P bytes) → IfSome start P
  by_done P found fits holds = each P start (λ bytes is.
      let d = done_of w found start left n old taken taken' bytes tells is (known.so_far found (found_for (is_some s) known.asks found fits bytes is)) in
      holds bytes d.0 is d.1 d.2)

  printed_so_far : (found : Result Map Refusal) → Fits w disk found start → PrintsFront w found start taken taken'
  printed_so_far found fits = by_done _ found fits (λ bytes l told is d. front_printed w found bytes n old l taken taken' d)

  -- where the input does not ask for the store, no line did
  untouched_so : (asked : Bool) (end : End) → (asked ≡ true → (found : Result Map Refusal) → Asks w found start) → (asked ≡ false → (disk' ≡ disk) × (end ≢ Disk)) → (found : Result Map Refusal) → IfSome start (λ bytes. asks_on w found bytes ≡ false → (disk' ≡ disk) × (end ≢ Disk))
  untouched_so asked end asks untouched found = each _ start (λ bytes is none. go bytes asked refl (λ was. at (λ b. asks_on w found b ≡ true) start bytes is (asks was found)) none)
    where
      go : (bytes : List ℕ) (b : Bool) → asked ≡ b → (asked ≡ true → asks_on w found bytes ≡ true) → asks_on w found bytes ≡ false → (disk' ≡ disk) × (end ≢ Disk)
      go bytes true was asks none = let no : ⊥ = cc (sym none ∙ asks was) in absurd no
      go bytes false was asks none = untouched was

  abbrev Kept : ℕ → Option (List ℕ) → End → Type 0
  Kept writes' last end = Promises w (outside start reads taken writes disk) (outside left' reads' last writes' disk') end

  -- ---- an end between lines

  abbrev IsKept : Type 0
  IsKept = IsLocal w disk disk' s

  kept_so : IsKept → (end : End) → end ≢ Disk → (found : Result Map Refusal) → IfSome start (λ bytes. asks_on w found bytes ≡ false → (disk' ≡ disk) × (end ≢ Disk))
  kept_so kept end other = untouched_so (is_some s) end known.asks (λ none. (local_untouched w disk disk' s kept none, other))

  -- an end that lines come to
  by_verdict : IsKept → (writes' : ℕ) (end : End) → IsVerdict end → ((found : Result Map Refusal) → Fits w disk found start → EndsSo w found start taken taken' end) → ((why : Refusal) → end ≢ NotOpened why) → (end ≡ Done → AtEnd left')
      → ((kind : LimitKind) → end ≡ Limit kind → (kind ≡ Input) × IfSome start (λ bytes. input_limit < length bytes)) → Kept writes' taken' end
  by_verdict kept writes' end is came opened done limit = promises w ww true_lines (outside start reads taken writes disk) (outside left' reads' taken' writes' disk') end stored (record {
    may = inl is;
    came = λ h. came;
    prefix = printed_so_far;
    done = done;
    read = λ h. absurd (not_read (subst IsVerdict h is));
    write = λ h. absurd (not_write (subst IsVerdict h is));
    limit = limit;
    undecided = λ h. absurd (not_read (subst IsVerdict h is));
    left = local_left w disk disk' s end kept (λ h. not_disk (subst IsVerdict h is)) opened;
    untouched = kept_so kept end (λ h. not_disk (subst IsVerdict h is));
  })

  -- at the end of the input
  pub at_end : IsKept → (writes' : ℕ) → NoMore old left → AtEnd left' → Kept writes' taken' (end_of ends.Done)
  at_end kept writes' none end = by_verdict kept writes' Done (inl refl) (λ found fits. by_done _ found fits (λ bytes l told is d. ends_at_end w found bytes n old l taken taken' d (subst (NoMore old) is none))) (λ why h. cc h) (λ h. end) (λ kind h. absurd (cc h))

  past_the_limit : Past old left → IfSome start (λ bytes. input_limit < length bytes)
  past_the_limit past = each _ start (λ bytes is. over left refl bytes is past)
    where
      over : (o : Option (List ℕ)) → left ≡ o → (bytes : List ℕ) → start ≡ Some bytes → Past old left → input_limit < length bytes
      over None none bytes is h = let no : false ≡ true = sym (ap is_some none) ∙ tells.1 (ap is_some is) in let never : ⊥ = cc no in absurd never
      over (Some l) there bytes is h =
          let p : Past old (Some l) = subst (Past old) there h in
          let same : nat_le (length (old.held ++ l)) old.allowed ≡ nat_le (length bytes) input_limit = subst (λ o. Within o old (Some l)) is (subst (λ o. Within start old o) there within) in
          leb-false (length bytes) input_limit (sym same ∙ lt-leb (length (old.held ++ l)) old.allowed p.1)

  -- at a fault of the reader
  pub reader_stops : IsKept → (writes' : ℕ) (fault : ReaderFault) → (fault ≡ LimitFault → Past old left) → (fault ≡ Overlong → BeginsOverlong old left) → (fault ≡ ReadFault → Rose reads reads')
      → (fault ≡ ReadFault → (found : Result Map Refusal) → IsFoundWhere (is_some s) w disk found → PassSoFar (passes w found) start left') → Kept writes' taken' (end_of (reader_end n fault))
  reader_stops kept writes' ReadFault limit overlong rose undecided = promises w ww true_lines (outside start reads taken writes disk) (outside left' reads' taken' writes' disk') Read stored (record {
    may = inr (inl refl);
    came = λ h. absurd (not_read h);
    prefix = printed_so_far;
    done = λ h. absurd (cc h);
    read = λ h. rose refl;
    write = λ h. absurd (cc h);
    limit = λ kind h. absurd (cc h);
    undecided = λ h found fits. each _ start (λ bytes is. at (λ b. IfSome left' (λ rest. (given : List ℕ) × (b ≡ given ++ rest) × (length given ≤ input_limit) × (first_bad (passes w found) 1 (settled_lines given) ≡ None))) start bytes is (undecided refl found (found_for (is_some s) known.asks found fits bytes is)));
    left = local_left w disk disk' s Read kept (λ h. cc h) (λ why h. cc h);
    untouched = kept_so kept Read (λ h. cc h);
  })
  reader_stops kept writes' LimitFault limit overlong rose undecided =
      by_verdict kept writes' (Limit Input) (inr (inr (inr (inl (Input, refl))))) (λ found fits. by_done _ found fits (λ bytes l told is d. ends_past w found bytes n old l taken taken' d (subst (Past old) is (limit refl)))) (λ why h. cc h) (λ h. absurd (cc h))
      (λ kind h. (cc h, past_the_limit (limit refl)))
  reader_stops kept writes' Overlong limit overlong rose undecided =
      by_verdict kept writes' (BadLine n) (inr (inl (n, refl))) (λ found fits. by_done _ found fits (λ bytes l told is d. ends_overlong w found bytes n old l taken taken' d (subst (BeginsOverlong old) is (overlong refl)))) (λ why h. cc h) (λ h. absurd (cc h))
      (λ kind h. absurd (cc h))
  reader_stops kept writes' NoMemoryOfReader limit overlong rose undecided = promises w ww true_lines (outside start reads taken writes disk) (outside left' reads' taken' writes' disk') NoMemory stored (record {
    may = inr (inr (inr (inr refl)));
    came = λ h. absurd (not_memory h);
    prefix = printed_so_far;
    done = λ h. absurd (cc h);
    read = λ h. absurd (cc h);
    write = λ h. absurd (cc h);
    limit = λ kind h. absurd (cc h);
    undecided = λ h. absurd (cc h);
    left = local_left w disk disk' s NoMemory kept (λ h. cc h) (λ why h. cc h);
    untouched = kept_so kept NoMemory (λ h. cc h);
  })

  -- ---- a line

  module _ (new : Stream) (later : TellsAlike left left') (gives : Gives old left new left') where
    later_told : (l : List ℕ) → left ≡ Some l → left' ≡ None → ⊥
    later_told l is none = let there : is_some left' ≡ true = later.1 (ap is_some is) in let no : false ≡ true = sym (ap is_some none) ∙ there in cc no

    -- the input that is left behind the line
    given_at : (P : Type 0) (l : List ℕ) → left ≡ Some l → ((k : List ℕ) → Gives old (Some l) new (Some k) → P) → P
    given_at P l is holds = go left' refl
      where
        go : (o : Option (List ℕ)) → left' ≡ o → P
        go None none = absurd (later_told l is none)
        go (Some k) there = holds k (subst (λ o. Gives old o new (Some k)) is (subst (λ o. Gives old left new o) there gives))

    -- where the line asks for the store, so does the input
    pub asks_now : asked_by s (read_line proof_lines new.line) ≡ true → (found : Result Map Refusal) → Asks w found start
    asks_now asked found = each _ start (λ bytes is. go (is_some s) refl bytes is asked)
      where
        go : (b : Bool) → is_some s ≡ b → (bytes : List ℕ) → start ≡ Some bytes → cond b true (asks_store new.line) ≡ true → asks_on w found bytes ≡ true
        go true was bytes is h = at (λ b. asks_on w found b ≡ true) start bytes is (known.asks was found)
        go false was bytes is h =
            let d = done_of w found start left n old taken taken' bytes tells is (known.so_far found (λ asks. let no : ⊥ = cc (sym was ∙ asks) in absurd no)) in
            given_at (asks_on w found bytes ≡ true) d.0 d.1 (λ k gives'. asks_given w found bytes n old d.0 taken taken' d.2 new k gives' h)

    -- the verdict of the line, where the input is one for which the store is found to be this
    module _ (end : VerifyEnd) (last : Option (List ℕ)) (mid writes' : ℕ) (le : writes ≤ mid) (stops : Stops w disk disk' s (read_line proof_lines new.line) (end_of end) (λ v. LineEnds n v taken' last mid writes' end)) (may : MayEnd taken' last mid writes' end) where
      said : (found : Result Map Refusal) → Fits w disk found start → (bytes : List ℕ) → start ≡ Some bytes → LineEnds n (verdict w found new.line) taken' last mid writes' end
      said found fits bytes is = stops.says found (found_for (asked_by s (read_line proof_lines new.line)) asks_now found fits bytes is)

      -- what is known of an end of the line
      by_end : MayBe (end_of end) → end_of end ≢ Done → end_of end ≢ Read → ((kind : LimitKind) → end_of end ≢ Limit kind) → (end_of end ≡ Write → Rose writes writes')
          → (IsVerdict (end_of end) → (found : Result Map Refusal) → Fits w disk found start → EndsSo w found start taken last (end_of end)) → ((found : Result Map Refusal) → Fits w disk found start → PrintsFront w found start taken last) → Kept writes' last (end_of end)
      by_end is done read limit write came prefix = promises w ww true_lines (outside start reads taken writes disk) (outside left' reads' last writes' disk') (end_of end) stored (record {
        may = is;
        came = came;
        prefix = prefix;
        done = λ h. absurd (done h);
        read = λ h. absurd (read h);
        write = write;
        limit = λ kind h. absurd (limit kind h);
        undecided = λ h. absurd (read h);
        left = stops.left;
        untouched = untouched_so (asked_by s (read_line proof_lines new.line)) (end_of end) asks_now stops.untouched;
      })

      -- the line does not pass for this reason, and nothing more was printed
      fails : (found : Result Map Refusal) → Fits w disk found start → last ≡ taken' → (fault : Fault) → ((bytes : List ℕ) → start ≡ Some bytes → verdict w found new.line ≡ Err fault) → EndsSo w found start taken last (fault_end n fault)
      fails found fits same fault bad = subst (λ t. EndsSo w found start taken t (fault_end n fault)) (sym same)
          (by_done _ found fits (λ bytes l told is d. given_at (Ends w found bytes taken taken' (fault_end n fault)) l is (λ k gives'. ends_given w found bytes n old l taken taken' d new k fault gives' (bad bytes told))))

      same_front : last ≡ taken' → (found : Result Map Refusal) → Fits w disk found start → PrintsFront w found start taken last
      same_front same found fits = subst (λ t. PrintsFront w found start taken t) (sym same) (printed_so_far found fits)

  -- at a line that ends the run
  pub line_stops : (new : Stream) → TellsAlike left left' → Gives old left new left' → (end : VerifyEnd) (last : Option (List ℕ)) (mid writes' : ℕ) → writes ≤ mid
      → Stops w disk disk' s (read_line proof_lines new.line) (end_of end) (λ v. LineEnds n v taken' last mid writes' end) → MayEnd taken' last mid writes' end → Kept writes' last (end_of end)
  line_stops new later gives ends.Done last mid writes' le stops may = absurd may
  line_stops new later gives ends.Limit last mid writes' le stops may = absurd may
  line_stops new later gives ends.Read last mid writes' le stops may = absurd may
  line_stops new later gives ends.Write last mid writes' le stops may =
      by_end new later gives ends.Write last mid writes' le stops may (inr (inr (inl refl))) (λ h. cc h) (λ h. cc h) (λ kind h. cc h) (λ h. rose_at_last writes mid writes' le may) (λ h. absurd (not_write h))
      (λ found fits. by_done _ found fits (λ bytes l told is d. given_at new later gives (AppendsPrefix taken last (verify_outcome w found bytes).text) l is (λ k gives'.
      let breaks = (said new later gives ends.Write last mid writes' le stops may found fits bytes told).0 in
      breaks_given w found bytes n old l taken taken' d new k breaks.0 last gives' breaks.1 breaks.2)))
  line_stops new later gives ends.NoMemory last mid writes' le stops may =
      by_end new later gives ends.NoMemory last mid writes' le stops may (inr (inr (inr (inr refl)))) (λ h. cc h) (λ h. cc h) (λ kind h. cc h) (λ h. absurd (cc h)) (λ h. absurd (not_memory h)) (same_front new later gives ends.NoMemory last mid writes' le stops may may)
  line_stops new later gives (ends.BadLine m) last mid writes' le stops may =
      by_end new later gives (ends.BadLine m) last mid writes' le stops may (inl (inr (inl (m, refl)))) (λ h. cc h) (λ h. cc h) (λ kind h. cc h) (λ h. absurd (cc h))
      (λ h found fits.
      let told = said new later gives (ends.BadLine m) last mid writes' le stops may found fits in
      each _ start (λ bytes is. subst (λ k. Ends w found bytes taken last (BadLine k)) (sym (told bytes is).0.0)
      (at (λ b. Ends w found b taken last (BadLine n)) start bytes is (fails new later gives (ends.BadLine m) last mid writes' le stops may found fits may NotUnderstood (λ b t. (told b t).0.1)))))
      (same_front new later gives (ends.BadLine m) last mid writes' le stops may may)
  line_stops new later gives (ends.Refused m cause) last mid writes' le stops may =
      by_end new later gives (ends.Refused m cause) last mid writes' le stops may (inl (inr (inr (inl (m, seen_cause cause, refl))))) (λ h. cc h) (λ h. cc h) (λ kind h. cc h) (λ h. absurd (cc h))
      (λ h found fits.
      let told = said new later gives (ends.Refused m cause) last mid writes' le stops may found fits in
      each _ start (λ bytes is. subst (λ k. Ends w found bytes taken last (VerifyRefused k (seen_cause cause))) (sym (told bytes is).0.0)
      (at (λ b. Ends w found b taken last (VerifyRefused n (seen_cause cause))) start bytes is (fails new later gives (ends.Refused m cause) last mid writes' le stops may found fits may (Refused (seen_cause cause)) (λ b t. (told b t).0.1)))))
      (same_front new later gives (ends.Refused m cause) last mid writes' le stops may may)
  line_stops new later gives (ends.Store fault) last mid writes' le stops may = go (store_end fault)
    where
      same : last ≡ taken'
      same = may

      front : (found : Result Map Refusal) → Fits w disk found start → PrintsFront w found start taken last
      front = same_front new later gives (ends.Store fault) last mid writes' le stops may may

      finish : MayBe (end_of_fault fault) → end_of_fault fault ≢ Done → end_of_fault fault ≢ Read → ((kind : LimitKind) → end_of_fault fault ≢ Limit kind) → (end_of_fault fault ≡ Write → Rose writes writes')
          → (IsVerdict (end_of_fault fault) → (found : Result Map Refusal) → Fits w disk found start → EndsSo w found start taken last (end_of_fault fault)) → Kept writes' last (end_of_fault fault)
      finish is done read limit write came = by_end new later gives (ends.Store fault) last mid writes' le stops may is done read limit write came front

      go : ((why : Refusal) × (end_of_fault fault ≡ NotOpened why)) ⊎ (end_of_fault fault ≡ Disk) ⊎ (end_of_fault fault ≡ NoMemory) → Kept writes' last (end_of_fault fault)
      go (inl h) = finish (inl (inr (inr (inr (inr h))))) (λ is. cc (sym h.1 ∙ is)) (λ is. cc (sym h.1 ∙ is)) (λ kind is. cc (sym h.1 ∙ is)) (λ is. absurd (cc (sym h.1 ∙ is)))
          (λ v found fits.
          let told = said new later gives (ends.Store fault) last mid writes' le stops may found fits in
          subst (EndsSo w found start taken last) (sym h.1) (fails new later gives (ends.Store fault) last mid writes' le stops may found fits same (Unopened h.0) (λ b t. subst (λ e. TellsStore e (verdict w found new.line)) h.1 (told b t).0)))
      go (inr (inl h)) = finish (inr (inr (inr (inl h)))) (λ is. cc (sym h ∙ is)) (λ is. cc (sym h ∙ is)) (λ kind is. cc (sym h ∙ is)) (λ is. absurd (cc (sym h ∙ is))) (λ v. absurd (not_disk (subst IsVerdict h v)))
      go (inr (inr h)) = finish (inr (inr (inr (inr h)))) (λ is. cc (sym h ∙ is)) (λ is. cc (sym h ∙ is)) (λ kind is. cc (sym h ∙ is)) (λ is. absurd (cc (sym h ∙ is))) (λ v. absurd (not_memory (subst IsVerdict h v)))
