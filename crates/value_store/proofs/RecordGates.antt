-- From gate to gate of a journal whose records are known.
use Rattle.std.proofs.Common.{◌≡◌, ◌≢◌, ℕ, ◌+◌, ◌≤◌, true, false, cond, List, [], ◌∷◌, ◌++◌, length, get_or, take, drop, option_map, Result, Ok, Err, refl, sym, ap, ◌∙◌, arith, subst, eqb, append_assoc, length-append}
use Rattle.std.specs.List.{AllByRecursion}
use Rattle.std.specs.FinMap as map_of
use Rattle.std.specs.FinMap.{get-empty}
use Rattle.std.proofs.Math.Seq.{get_or-append_seam}
use Rattle.std.proofs.lemmas.Bool.Decides.{nat_tests}
use Rattle.std.proofs.lemmas.List.{append-nil, drop_at, take_at, drop-drop}
use Rattle.base_model.specs.Bytes.{bytes_cmp}
use Rattle.base_model.proofs.Results.{ok_is}
use Rattle.disk_model.specs.Files.{Files}
use Rattle.trie_model.specs.Maps.{Map, limits}
use Rattle.batch_model.specs.Batch.{Outside, batch_of}
use Rattle.store_model.specs.Header.{Header, header_form, first_gate, open_gate}
use Rattle.store_model.specs.Record.{Record, IsRecord, record_form, records_form, record_at, batch_kind}
use Rattle.store_model.specs.Journal.{IsJournal, end_of, after_record, after_records}
use Rattle.store_model.specs.Refusals.{IsOpen}
use Rattle.store_model.proofs.Records.{spelled_records_are_read, records_form-push}
use Rattle.store_model.proofs.Journals.{maps_follow_records}
use Rattle.store_model.proofs.Appends.{whole}
use Rattle.mdb_journal.specs.Journal.{JournalState, Knows}
use Rattle.mdb_journal.specs.GateWalk.{IsFound, AtGate}
use Rattle.mdb_journal.specs.declared.fault.JournalFault.{JournalFault}
use Rattle.mdb_journal.specs.declared.fault.JournalFault.TheVariants.{Disk, NotAStore, BranchDiffers, Damaged, TooLarge, Failed, NoMemory}
use Rattle.mdb_journal.specs.declared.record.Record.{Record as found_record}
use Rattle.value_store.specs.Values.{value_in}
use Rattle.std.specs.Prelude.{IfSome}
use Rattle.value_store.specs.Index.{Places, AreInFile, IsInFile}
use Rattle.value_store.specs.BatchReading.{Shows, BatchRead, Standing, Found, WrongBatch, RecordsFail, store_fault, payload_at, batch_into}

-- ---- a file whose records are known

-- behind the records the gate is not open
pub shut_at_end : (h : Header) (rs : List Record) (bytes : List ℕ) → IsJournal h rs bytes → IsOpen bytes (end_of rs) → ⊥
shut_at_end h rs bytes j gate =
    let place : end_of rs ≡ length (header_form h ++ records_form rs) = omega arith in
    j.begins.closed (sym (get_or-append_seam (header_form h ++ records_form rs) j.begins.gate j.begins.junk 0) ∙ ap (λ b. get_or b (length (header_form h ++ records_form rs)) 0) (sym (whole h rs bytes j)) ∙ ap (λ n. get_or bytes n 0) (sym place) ∙ gate)

records_form-split : (before : List Record) (r : Record) (rest : List Record) → records_form (before ++ r ∷ rest) ≡ records_form before ++ open_gate ∷ (record_form r ++ records_form rest)
records_form-split [] r rest = refl
records_form-split (q ∷ before) r rest =
    ap (λ x. open_gate ∷ (record_form q ++ x)) (records_form-split before r rest)
    ∙ ap (λ x. open_gate ∷ x) (sym (append_assoc (record_form q) (records_form before) (open_gate ∷ (record_form r ++ records_form rest))))

-- records end with a gate
gate_behind : (rs : List Record) (gate : ℕ) (junk : List ℕ) → (next : ℕ) × (more : List ℕ) × (records_form rs ++ gate ∷ junk ≡ next ∷ more)
gate_behind [] gate junk = (gate, junk, refl)
gate_behind (r ∷ rs) gate junk = (1, (record_form r ++ records_form rs) ++ gate ∷ junk, refl)

one_of : (before : List Record) (r : Record) (rest : List Record) → AllByRecursion IsRecord (before ++ r ∷ rest) → IsRecord r
one_of [] r rest all = all.0
one_of (q ∷ before) r rest all = one_of before r rest all.1

-- the record behind a gate of the file
pub record StandsAt (bytes : List ℕ) (at : ℕ) (r : Record) : Type 0 where
  pub gate : IsOpen bytes at
  pub is : record_at at bytes at ≡ Ok (r, at + 1 + length (record_form r))
  pub behind : List ℕ
  pub payload : drop (at + 6) bytes ≡ r.payload ++ behind

module _ (h : Header) (before : List Record) (r : Record) (rest : List Record) (bytes : List ℕ) (j : IsJournal h (before ++ r ∷ rest) bytes) where
  abbrev front : List ℕ
  front = header_form h ++ records_form before

  place : end_of before ≡ length front
  place = omega arith

  spelled : (next : ℕ) × (more : List ℕ) × (bytes ≡ front ++ open_gate ∷ (record_form r ++ next ∷ more))
  spelled =
      let g = gate_behind rest j.begins.gate j.begins.junk in (
        g.0,
        g.1,
        j.is
            ∙ ap (λ x. header_form h ++ x) (j.begins.is
            ∙ ap (λ x. x ++ j.begins.gate ∷ j.begins.junk) (records_form-split before r rest)
            ∙ append_assoc (records_form before) (open_gate ∷ (record_form r ++ records_form rest)) (j.begins.gate ∷ j.begins.junk)
            ∙ ap (λ x. records_form before ++ open_gate ∷ x) (append_assoc (record_form r) (records_form rest) (j.begins.gate ∷ j.begins.junk) ∙ ap (λ x. record_form r ++ x) g.2))
            ∙ sym (append_assoc (header_form h) (records_form before) (open_gate ∷ (record_form r ++ g.0 ∷ g.1))),
      )

  pub stands_at : StandsAt bytes (end_of before) r
  stands_at =
      let s = spelled in
      let fits = one_of before r rest j.begins.records in
      let tail = record_form r ++ s.0 ∷ s.1 in
      let six : end_of before + 6 ≡ length front + 6 = omega (arith, place) in
      let behind : drop (end_of before + 6) bytes ≡ r.payload ++ s.0 ∷ s.1 =
      ap (λ n. drop n bytes) six ∙ sym (drop-drop 6 (length front) bytes) ∙ ap (λ b. drop 6 (drop (length front) b)) s.2 ∙ ap (drop 6) (drop_at front (open_gate ∷ tail) (length front) refl) in
      record {
        gate = ap (λ n. get_or bytes n 0) place ∙ ap (λ b. get_or b (length front) 0) s.2 ∙ get_or-append_seam front open_gate tail 0;
        is =
            ap (λ n. record_at (end_of before) bytes n) place
            ∙ ap (λ b. record_at (end_of before) b (length front)) s.2
            ∙ spelled_records_are_read r (end_of before) front open_gate s.0 s.1 fits
            ∙ ap (λ n. Ok (r, n + 1 + length (record_form r))) (sym place);
        behind = s.0 ∷ s.1;
        payload = behind;
      }

pub end_of-push : (before : List Record) (r : Record) → end_of (before ++ r ∷ []) ≡ end_of before + 1 + length (record_form r)
end_of-push before r = omega (arith, ap length (records_form-push before r), length-append (records_form before) (open_gate ∷ record_form r))

end_of-split : (before : List Record) (r : Record) (rest : List Record) → end_of before + 1 + length (record_form r) ≤ end_of (before ++ r ∷ rest)
end_of-split before r rest = omega (arith, ap length (records_form-split before r rest), length-append (records_form before) (open_gate ∷ (record_form r ++ records_form rest)), length-append (record_form r) (records_form rest))

-- ---- on the way

module _ (files : Files) (j : JournalState) (rs : List Record) (k : Knows j rs files) where
  abbrev bytes_of : List ℕ
  bytes_of = files j.file

  -- no gate is open: all records were read
  pub none_left : (at : ℕ) (index : Places) → Standing bytes_of rs at index → (IsOpen bytes_of at → ⊥) → Found bytes_of rs index
  none_left at index s shut = go s.after s.split
    where
      go : (after : List Record) → rs ≡ s.before ++ after → Found bytes_of rs index
      go [] split = record { map = s.map; is = ap (after_records limits map_of.empty) (split ∙ append-nil s.before) ∙ s.is; shows = s.shows }
      go (r ∷ rest) split =
          let t = stands_at k.header s.before r rest bytes_of (subst (λ rs. IsJournal k.header rs bytes_of) split k.journal) in
          absurd (shut (ap (λ n. get_or bytes_of n 0) s.place ∙ t.gate))

  -- an open gate has a whole record
  pub not_damaged : (at : ℕ) (index : Places) → Standing bytes_of rs at index → IsOpen bytes_of at → record_at at bytes_of at ≡ Err at → ⊥
  not_damaged at index s gate wrong = go s.after s.split
    where
      apart : (x : Record × ℕ) → ◌≡◌ {A = Result (Record × ℕ) ℕ} (Ok x) (Err at) → ⊥
      apart x e = absurd cc

      go : (after : List Record) → rs ≡ s.before ++ after → ⊥
      go [] split = shut_at_end k.header rs bytes_of k.journal (ap (λ n. get_or bytes_of n 0) (ap end_of (split ∙ append-nil s.before) ∙ sym s.place) ∙ gate)
      go (r ∷ rest) split =
          let t = stands_at k.header s.before r rest bytes_of (subst (λ rs. IsJournal k.header rs bytes_of) split k.journal) in
          apart _ (sym t.is ∙ ap (λ n. record_at n bytes_of n) (sym s.place) ∙ wrong)

  -- the record that was found is the next one
  pub record IsNext (at : ℕ) (index : Places) (s : Standing bytes_of rs at index) (found : found_record) : Type 0 where
    pub one : Record
    pub rest : List Record
    pub split : rs ≡ s.before ++ one ∷ rest
    pub kind : one.kind ≡ found.kind
    pub payload : one.payload ≡ payload_at bytes_of found.place found.length
    pub next : found.next ≡ end_of (s.before ++ one ∷ [])
    pub fits : found.next ≤ j.end

  pub next_record : (at : ℕ) (index : Places) (s : Standing bytes_of rs at index) (found : found_record) → IsOpen bytes_of at → IsFound bytes_of at found → IsNext at index s found
  next_record at index s found gate f = go s.after s.split
    where
      go : (after : List Record) → rs ≡ s.before ++ after → IsNext at index s found
      go [] split = absurd (shut_at_end k.header rs bytes_of k.journal (ap (λ n. get_or bytes_of n 0) (ap end_of (split ∙ append-nil s.before) ∙ sym s.place) ∙ gate))
      go (r ∷ rest) split =
          let t = stands_at k.header s.before r rest bytes_of (subst (λ rs. IsJournal k.header rs bytes_of) split k.journal) in
          let same = ok_is (r, end_of s.before + 1 + length (record_form r)) (record { kind = found.kind; payload = f.payload }, found.next) (sym t.is ∙ ap (λ n. record_at n bytes_of n) (sym s.place) ∙ f.is) in
          let one : r ≡ record { kind = found.kind; payload = f.payload } = ap (λ (x : Record × ℕ). x.0) same in
          let next : end_of s.before + 1 + length (record_form r) ≡ found.next = ap (λ (x : Record × ℕ). x.1) same in
          let payload : r.payload ≡ f.payload = ap (λ (x : Record). x.payload) one in
          let count : length r.payload ≡ found.length = ap length payload ∙ sym f.length in
          record {
            one = r;
            rest = rest;
            split = split;
            kind = ap (λ (x : Record). x.kind) one;
            payload = sym (take_at r.payload t.behind (length r.payload) refl) ∙ ap (take (length r.payload)) (sym t.payload) ∙ ap (λ n. take n (drop (end_of s.before + 6) bytes_of)) count ∙ ap (λ n. take found.length (drop n bytes_of)) (ap (λ n. n + 6) (sym s.place) ∙ sym f.place);
            next = sym next ∙ sym (end_of-push s.before r);
            fits = omega (arith, next, end_of-split s.before r rest, k.place, ap end_of split);
          }

  module _ (at : ℕ) (index : Places) (s : Standing bytes_of rs at index) (found : found_record) (n : IsNext at index s found) where
    -- with what the record makes of the map
    pub goes_on : (map : Map) (new : Places) → after_record limits s.map n.one ≡ Ok map → Shows bytes_of map new → Standing bytes_of rs found.next new
    goes_on map new is shows = record {
      before = s.before ++ n.one ∷ [];
      after = n.rest;
      split = n.split ∙ sym (append_assoc s.before (n.one ∷ []) n.rest);
      place = n.next;
      map = map;
      is = maps_follow_records limits map_of.empty s.map s.before n.one s.is ∙ is;
      shows = shows;
    }

    -- a record that is no batch changes nothing
    pub other_record : found.kind ≢ 1 → Standing bytes_of rs found.next index
    other_record other =
        let test : eqb n.one.kind batch_kind ≡ false = differs n.one.kind (λ e. other (sym n.kind ∙ e)) in
        goes_on s.map index (ap (λ b. cond b (batch_into n.one.payload s.map) (Ok s.map)) test) s.shows
      where
        differs : (a : ℕ) → a ≢ 1 → eqb a 1 ≡ false
        differs a ne = grind (arith, nat_tests)

    -- a batch changes the map
    pub batch_record : (new : Places) → found.kind ≡ 1 → BatchRead bytes_of (payload_at bytes_of found.place found.length) s.map new → Standing bytes_of rs found.next new
    batch_record new kind b =
        let test : eqb n.one.kind batch_kind ≡ true = same n.one.kind (n.kind ∙ kind) in
        goes_on b.map new (ap (λ t. cond t (batch_into n.one.payload s.map) (Ok s.map)) test ∙ ap (λ p. batch_into p s.map) n.payload ∙ b.is) b.shows
      where
        same : (a : ℕ) → a ≡ 1 → eqb a 1 ≡ true
        same a e = grind (arith, nat_tests)

    -- a payload that is no batch
    pub wrong_record : found.kind ≡ 1 → batch_of limits (payload_at bytes_of found.place found.length) ≡ Err Outside → WrongBatch rs at
    wrong_record kind outside = record {
      before = s.before;
      wrong = n.one;
      after = n.rest;
      split = n.split;
      place = s.place;
      map = s.map;
      good = s.is;
      kind = n.kind ∙ kind;
      outside = ap (batch_of limits) n.payload ∙ outside;
    }

-- the records end within the file
pub end_inside : (files : Files) (j : JournalState) (rs : List Record) → Knows j rs files → j.end ≤ length (files j.file)
end_inside files j rs k =
    let front = header_form k.header ++ records_form rs in
    let place : end_of rs ≡ length front = omega arith in
    omega (arith, k.place, place, ap length (whole k.header rs (files j.file) k.journal), length-append front (k.journal.begins.gate ∷ k.journal.begins.junk))

-- at the first gate nothing was read
pub at_first : (file : List ℕ) (rs : List Record) → Standing file rs first_gate map_of.empty
at_first file rs = record {
  before = [];
  after = rs;
  split = refl;
  place = refl;
  map = map_of.empty;
  is = refl;
  shows = record { at = λ key. get-empty bytes_cmp key ∙ ap (option_map (value_in file)) (sym (get-empty bytes_cmp key)) };
}

-- why a record is not read
pub read_fails : (bytes : List ℕ) (file at : ℕ) (rs : List Record) (fault : JournalFault) → (IsOpen bytes at → record_at at bytes at ≡ Err at → ⊥) → AtGate bytes file at (Err fault) → RecordsFail file rs (store_fault fault)
read_fails bytes file at rs Disk sound h = tt
read_fails bytes file at rs (Damaged f p) sound h = absurd (sound h.2 h.3)
read_fails bytes file at rs (NotAStore f) sound h = absurd h
read_fails bytes file at rs (BranchDiffers kept asked) sound h = absurd h
read_fails bytes file at rs (TooLarge n) sound h = absurd h
read_fails bytes file at rs Failed sound h = absurd h
read_fails bytes file at rs NoMemory sound h = absurd h

pub none_in_file : (end : ℕ) → AreInFile end map_of.empty
none_in_file end = λ key. subst (λ o. IfSome o (IsInFile end)) (sym (get-empty bytes_cmp key)) tt

-- what is known of the same files, by the same value
pub still_knows : (files now : Files) (j k : JournalState) (rs : List Record) → now ≡ files → k ≡ j → Knows j rs files → Knows k rs now
still_knows files now j k rs same value knows = subst (λ (x : Files). Knows k rs x) (sym same) (subst (λ (y : JournalState). Knows y rs files) (sym value) knows)

pub still_file : (files now : Files) (j k : JournalState) → now ≡ files → k ≡ j → now k.file ≡ files j.file
still_file files now j k same value = ap (λ (x : Files). x k.file) same ∙ ap (λ (y : JournalState). files y.file) value
