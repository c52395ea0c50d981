-- What files are found to be, they are found to be once: a map, or one reason why they are not opened.
use Rattle.std.proofs.Common.{◌≡◌, ◌≢◌, ◌⊎◌, inl, inr, ℕ, zero, suc, ◌+◌, ◌^◌, ◌<◌, List, [], ◌∷◌, ◌++◌, length, get_or, drop, Option, Some, None, Result, Ok, Err, refl, sym, ap, ◌∙◌, subst, arith, append_assoc, get_or-drop, length-append}
use Rattle.std.specs.List.{AllByRecursion}
use Rattle.std.specs.FinMap as map_of
use Rattle.std.proofs.lemmas.List.{drop-drop, drop_at}
use Rattle.base_model.specs.Fields.{◌>>=◌}
use Rattle.base_model.proofs.Results.{ok_is, bind_ok}
use Rattle.disk_model.specs.Files.{Files}
use Rattle.trie_model.specs.Maps.{Limits, Map}
use Rattle.batch_model.specs.Batch.{BatchFault, Outside, batch_of}
use Rattle.store_model.specs.Header.{Header, StoreFault, NotAStore as no_name, Damaged as damaged, first_gate, open_gate, header_form}
use Rattle.store_model.specs.Record.{Record, IsRecord, Begins, record_form, records_form, record_at, batch_kind}
use Rattle.store_model.specs.Journal.{IsJournal, Hold, RecordsOf, Stands, active, end_of, after_record, after_records}
use Rattle.store_model.specs.Refusals.{Refusal, NotAStore, BranchDiffers, Damaged, Refused, HasWidth, Found, IsOpen, Passed, IsDamaged, OtherFactor, DamagedRecord, DamagedBatch}
use Rattle.store_model.specs.Laws.{FilesAreFoundOnce}
use Rattle.store_model.proofs.Records.{records_are_prefix_free, record_at-IsRead}
use Rattle.store_model.proofs.Journals.{files_hold_one_list, files_stand_for_one_map}

-- ---- where a row of records ends
-- at this place no record goes on: its gate is not open, or what is behind it is no record
record Ends (bytes : List ℕ) (at : ℕ) : Type 0 where
  inside : at < length bytes
  why : ¬ (IsOpen bytes at) ⊎ (record_at at bytes at ≡ Err at)

start : (x : List ℕ) → drop 0 x ≡ x
start [] = refl
start (b ∷ x) = refl

at_front : (bytes : List ℕ) (at : ℕ) → get_or (drop at bytes) 0 0 ≡ get_or bytes at 0
at_front bytes at = let z : at + 0 ≡ at = omega arith in get_or-drop at bytes 0 0 ∙ ap (λ i. get_or bytes i 0) z

-- what is left at a place inside is not empty
some_left : (bytes : List ℕ) (at : ℕ) → at < length bytes → (next : ℕ) × (rest : List ℕ) × (drop at bytes ≡ next ∷ rest)
some_left [] at h = absurd (omega (arith, h))
some_left (b ∷ bytes) zero h = (b, bytes, refl)
some_left (b ∷ bytes) (suc at) h = some_left bytes at (omega (arith, h))

-- a gate stands behind a record
gate_behind : (rs : List Record) (bytes : List ℕ) (at : ℕ) → at < length bytes → (next : ℕ) × (rest : List ℕ) × (records_form rs ++ drop at bytes ≡ next ∷ rest)
gate_behind [] bytes at h = some_left bytes at h
gate_behind (r ∷ rs) bytes at h = (1, (record_form r ++ records_form rs) ++ drop at bytes, refl)

-- where a whole record stands nothing ends
goes_on : (bytes : List ℕ) (from at : ℕ) (r : Record) (rs : List Record) → IsRecord r → drop from bytes ≡ records_form (r ∷ rs) ++ drop at bytes → at < length bytes → Ends bytes from → ⊥
goes_on bytes from at r rs fits is inside ends =
    let n = gate_behind rs bytes at inside in
    let one : drop from bytes ≡ 1 ∷ (record_form r ++ n.0 ∷ n.1) = is ∙ ap (λ l. 1 ∷ l) (append_assoc (record_form r) (records_form rs) (drop at bytes)) ∙ ap (λ l. 1 ∷ (record_form r ++ l)) n.2 in
    let left : drop (from + 1) bytes ≡ record_form r ++ n.0 ∷ n.1 = sym (drop-drop 1 from bytes) ∙ ap (drop 1) one ∙ start (record_form r ++ n.0 ∷ n.1) in
    which n.0 n.1 one left ends.why
  where
    apart : (x : Record) (p : ℕ) → ◌≡◌ {A = Result (Record × ℕ) ℕ} (Ok (x, p)) (Err from) → ⊥
    apart x p e = absurd cc

    which : (next : ℕ) (rest : List ℕ) → drop from bytes ≡ 1 ∷ (record_form r ++ next ∷ rest) → drop (from + 1) bytes ≡ record_form r ++ next ∷ rest → ¬ (IsOpen bytes from) ⊎ (record_at from bytes from ≡ Err from) → ⊥
    which next rest one left (inl shut) = shut (sym (at_front bytes from) ∙ ap (λ l. get_or l 0 0) one)
    which next rest one left (inr outside) =
        let read = record_at-IsRead from r bytes from next rest fits ends.inside left in
        apart r read.place (sym read.is ∙ outside)

-- behind a record
behind : (bytes : List ℕ) (from at : ℕ) (r : Record) (x : List ℕ) → drop from bytes ≡ 1 ∷ (record_form r ++ x) → drop (from + 1 + length (record_form r)) bytes ≡ x
behind bytes from at r x is =
    sym (drop-drop (length (record_form r)) (from + 1) bytes)
    ∙ ap (drop (length (record_form r))) (sym (drop-drop 1 from bytes) ∙ ap (drop 1) is ∙ start (record_form r ++ x))
    ∙ drop_at (record_form r) x (length (record_form r)) refl

-- rows of records from one place on end at one place
same_end : (rs qs : List Record) (bytes : List ℕ) (from a b : ℕ) → AllByRecursion IsRecord rs → AllByRecursion IsRecord qs
    → drop from bytes ≡ records_form rs ++ drop a bytes → drop from bytes ≡ records_form qs ++ drop b bytes
    → a ≡ from + length (records_form rs) → b ≡ from + length (records_form qs) → Ends bytes a → Ends bytes b → a ≡ b
same_end [] [] bytes from a b fr fq ra qb pa pb ea eb = omega (arith, pa, pb)
same_end [] (q ∷ qs) bytes from a b fr fq ra qb pa pb ea eb =
    let here : a ≡ from = omega (arith, pa) in
    absurd (goes_on bytes from b q qs fq.0 qb eb.inside (subst (Ends bytes) here ea))
same_end (r ∷ rs) [] bytes from a b fr fq ra qb pa pb ea eb =
    let here : b ≡ from = omega (arith, pb) in
    absurd (goes_on bytes from a r rs fr.0 ra ea.inside (subst (Ends bytes) here eb))
same_end (r ∷ rs) (q ∷ qs) bytes from a b fr fq ra qb pa pb ea eb =
    let x = records_form rs ++ drop a bytes in
    let y = records_form qs ++ drop b bytes in
    let one : drop from bytes ≡ 1 ∷ (record_form r ++ x) = ra ∙ ap (λ l. 1 ∷ l) (append_assoc (record_form r) (records_form rs) (drop a bytes)) in
    let two : drop from bytes ≡ 1 ∷ (record_form q ++ y) = qb ∙ ap (λ l. 1 ∷ l) (append_assoc (record_form q) (records_form qs) (drop b bytes)) in
    let f = records_are_prefix_free r q x y fr.0 fq.0 (ap (drop 1) (sym one ∙ two)) in
    let next = from + 1 + length (record_form r) in
    let left = behind bytes from a r x one in
    let size : length (record_form r) ≡ length (record_form q) = ap (λ s. length (record_form s)) f.0 in
    same_end rs qs bytes next a b fr.1 fq.1 left (left ∙ f.1) (omega (arith, pa, length-append (record_form r) (records_form rs))) (omega (arith, pb, size, length-append (record_form q) (records_form qs))) ea eb

-- ---- a file
gate_inside : (bytes : List ℕ) (at : ℕ) → IsOpen bytes at → at < length bytes
gate_inside [] zero e = absurd (omega (arith, e))
gate_inside [] (suc at) e = absurd (omega (arith, e))
gate_inside (b ∷ bytes) zero e = omega arith
gate_inside (b ∷ bytes) (suc at) e = omega (arith, gate_inside bytes at e)

damage_ends : (bytes : List ℕ) (at : ℕ) → IsDamaged bytes at → Ends bytes at
damage_ends bytes at d = record { inside = gate_inside bytes at d.gate; why = inr d.outside }

one_damage : (bytes : List ℕ) (a b : ℕ) → IsDamaged bytes a → IsDamaged bytes b → a ≡ b
one_damage bytes a b d e =
    same_end d.passed.records e.passed.records bytes first_gate a b d.passed.known e.passed.known d.passed.is e.passed.is d.passed.place e.passed.place (damage_ends bytes a d) (damage_ends bytes b e)

-- a journal file has no damage
not_damaged : (h : Header) (rs : List Record) (bytes : List ℕ) (at : ℕ) → IsJournal h rs bytes → IsDamaged bytes at → ⊥
not_damaged h rs bytes at j d =
    let b = j.begins in
    let n = length (records_form rs) in
    let tail = b.gate ∷ b.junk in
    let row : drop first_gate bytes ≡ records_form rs ++ tail = ap (drop first_gate) j.is ∙ start j.behind ∙ b.is in
    let left : drop (end_of rs) bytes ≡ tail = sym (drop-drop n first_gate bytes) ∙ ap (drop n) row ∙ drop_at (records_form rs) tail n refl in
    let shut : ¬ (IsOpen bytes (end_of rs)) = λ gate. b.closed (sym (ap (λ l. get_or l 0 0) left) ∙ at_front bytes (end_of rs) ∙ gate) in
    let inside : end_of rs < length bytes = has_gate (end_of rs) bytes b.gate b.junk left in
    let ends : Ends bytes (end_of rs) = record { inside = inside; why = inl shut } in
    let same = same_end d.passed.records rs bytes first_gate at (end_of rs) d.passed.known b.records d.passed.is (row ∙ ap (λ l. records_form rs ++ l) (sym left)) d.passed.place refl (damage_ends bytes at d) ends in
    shut (subst (IsOpen bytes) same d.gate)
  where
    has_gate : (at : ℕ) (bytes : List ℕ) (gate : ℕ) (junk : List ℕ) → drop at bytes ≡ gate ∷ junk → at < length bytes
    has_gate zero [] gate junk e = absurd cc
    has_gate (suc at) [] gate junk e = absurd cc
    has_gate zero (c ∷ bytes) gate junk e = omega arith
    has_gate (suc at) (c ∷ bytes) gate junk e = omega (arith, has_gate at bytes gate junk e)

-- ---- the batches of records
-- records of which one is no batch make no map
no_map : (l : Limits) (start_map at_map m : Map) (before : List Record) (wrong : Record) (after : List Record) → after_records l start_map before ≡ Ok at_map → after_record l at_map wrong ≡ Err Outside → after_records l start_map (before ++ wrong ∷ after) ≡ Ok m → ⊥
no_map l start_map at_map m [] wrong after good bad is =
    let s = bind_ok (after_record l start_map wrong) (λ next. after_records l next after) m is in
    let here : after_record l start_map wrong ≡ Err Outside = ap (λ n. after_record l n wrong) (ok_is start_map at_map good) ∙ bad in
    absurd (cc (here, s.1))
no_map l start_map at_map m (r ∷ before) wrong after good bad is =
    let g = bind_ok (after_record l start_map r) (λ next. after_records l next before) at_map good in
    let s = bind_ok (after_record l start_map r) (λ next. after_records l next (before ++ wrong ∷ after)) m is in
    let same : s.0 ≡ g.0 = ok_is s.0 g.0 (sym s.1 ∙ g.1) in
    no_map l g.0 at_map m before wrong after g.2 bad (ap (λ n. after_records l n (before ++ wrong ∷ after)) (sym same) ∙ s.2)

-- the first that is no batch
first_wrong : (l : Limits) (start_map map_a map_b : Map) (xs ys : List Record) (wrong_a wrong_b : Record) (after_a after_b : List Record)
    → xs ++ wrong_a ∷ after_a ≡ ys ++ wrong_b ∷ after_b → after_records l start_map xs ≡ Ok map_a → after_records l start_map ys ≡ Ok map_b
    → after_record l map_a wrong_a ≡ Err Outside → after_record l map_b wrong_b ≡ Err Outside → xs ≡ ys
first_wrong l start_map map_a map_b [] [] wrong_a wrong_b after_a after_b is ga gb ba bb = refl
first_wrong l start_map map_a map_b [] (b ∷ ys) wrong_a wrong_b after_a after_b is ga gb ba bb =
    let same : wrong_a ≡ b = cc is in
    let g = bind_ok (after_record l start_map b) (λ next. after_records l next ys) map_b gb in
    let here : after_record l start_map b ≡ Err Outside = ap (λ r. after_record l start_map r) (sym same) ∙ ap (λ n. after_record l n wrong_a) (ok_is start_map map_a ga) ∙ ba in
    absurd (cc (here, g.1))
first_wrong l start_map map_a map_b (a ∷ xs) [] wrong_a wrong_b after_a after_b is ga gb ba bb =
    let same : a ≡ wrong_b = cc is in
    let g = bind_ok (after_record l start_map a) (λ next. after_records l next xs) map_a ga in
    let here : after_record l start_map a ≡ Err Outside = ap (λ r. after_record l start_map r) same ∙ ap (λ n. after_record l n wrong_b) (ok_is start_map map_b gb) ∙ bb in
    absurd (cc (here, g.1))
first_wrong l start_map map_a map_b (a ∷ xs) (b ∷ ys) wrong_a wrong_b after_a after_b is ga gb ba bb =
    let same : a ≡ b = cc is in
    let rest : xs ++ wrong_a ∷ after_a ≡ ys ++ wrong_b ∷ after_b = cc is in
    let g = bind_ok (after_record l start_map a) (λ next. after_records l next xs) map_a ga in
    let h = bind_ok (after_record l start_map b) (λ next. after_records l next ys) map_b gb in
    let next : h.0 ≡ g.0 = ok_is h.0 g.0 (sym h.1 ∙ ap (after_record l start_map) (sym same) ∙ g.1) in
    ap (λ r. r ∷ xs) same ∙ ap (λ rs. b ∷ rs) (first_wrong l g.0 map_a map_b xs ys wrong_a wrong_b after_a after_b rest g.2 (ap (λ n. after_records l n ys) (sym next) ∙ h.2) ba bb)

wrong_record : (l : Limits) (m : Map) (r : Record) → r.kind ≡ batch_kind → batch_of l r.payload ≡ Err Outside → after_record l m r ≡ Err Outside
wrong_record l m r kind outside = rw (kind, outside) refl

-- ---- what is found, by the active file
-- a header outside the format
abbrev told_of : StoreFault → Refusal
told_of (no_name file) = NotAStore file
told_of (damaged file at) = Damaged file at

by_fault : (l : Limits) (w : ℕ) (files : Files) (fault : StoreFault) (a : Result Map Refusal) → active files ≡ Err fault → Found l w files a → a ≡ Err (told_of fault)
by_fault l w files fault (Ok m) is found = absurd (subst (HasWidth w) is found.1)
by_fault l w files fault (Err (NotAStore file)) is found = let same : fault ≡ no_name file = cc (is, found) in ap (λ f. Err (told_of f)) (sym same)
by_fault l w files fault (Err (BranchDiffers kept asked)) is found = let no : ⊥ = cc (is, found.is) in absurd no
by_fault l w files fault (Err (Damaged file at)) is (inl found) = let same : fault ≡ damaged file at = cc (is, found) in ap (λ f. Err (told_of f)) (sym same)
by_fault l w files fault (Err (Damaged file at)) is (inr (inl found)) = let no : ⊥ = cc (is, found.is) in absurd no
by_fault l w files fault (Err (Damaged file at)) is (inr (inr found)) = let no : ⊥ = cc (is, found.is) in absurd no

-- no open header
by_none : (l : Limits) (w : ℕ) (files : Files) (a : Result Map Refusal) → active files ≡ Ok None → Found l w files a → (m : Map) × (a ≡ Ok m) × Stands l files m
by_none l w files (Ok m) is found = (m, refl, found.0)
by_none l w files (Err (NotAStore file)) is found = let no : ⊥ = cc (is, found) in absurd no
by_none l w files (Err (BranchDiffers kept asked)) is found = let no : ⊥ = cc (is, found.is) in absurd no
by_none l w files (Err (Damaged file at)) is (inl found) = let no : ⊥ = cc (is, found) in absurd no
by_none l w files (Err (Damaged file at)) is (inr (inl found)) = let no : ⊥ = cc (is, found.is) in absurd no
by_none l w files (Err (Damaged file at)) is (inr (inr found)) = let no : ⊥ = cc (is, found.is) in absurd no

-- an open header: it is of another factor, or a record is damaged, or a batch is, or there is a map
data Told (l : Limits) (w : ℕ) (files : Files) (file : ℕ) (h : Header) (a : Result Map Refusal) : Type 0 where
  Differs : h.width ≢ w → a ≡ Err (BranchDiffers (2 ^ h.width) (2 ^ w)) → Told l w files file h a
  Stopped : h.width ≡ w → (at : ℕ) → IsDamaged (files file) at → a ≡ Err (Damaged file at) → Told l w files file h a
  Unread : h.width ≡ w → (at : ℕ) → DamagedBatch l w files file at → a ≡ Err (Damaged file at) → Told l w files file h a
  Reads : h.width ≡ w → (m : Map) → Stands l files m → a ≡ Ok m → Told l w files file h a

one_active : (files : Files) (f g : ℕ) (h k : Header) → active files ≡ Ok (Some (f, h)) → active files ≡ Ok (Some (g, k)) → (g ≡ f) × (k ≡ h)
one_active files f g h k a b =
    let both : ◌≡◌ {A = ℕ × Header} (g, k) (f, h) = cc (a, b) in
    (ap (λ (p : ℕ × Header). p.0) both, ap (λ (p : ℕ × Header). p.1) both)

by_open : (l : Limits) (w : ℕ) (files : Files) (file : ℕ) (h : Header) (a : Result Map Refusal) → active files ≡ Ok (Some (file, h)) → Found l w files a → Told l w files file h a
by_open l w files file h (Ok m) is found = Reads (subst (HasWidth w) is found.1) m found.0 refl
by_open l w files file h (Err (NotAStore other)) is found = let no : ⊥ = cc (is, found) in absurd no
by_open l w files file h (Err (BranchDiffers kept asked)) is found =
    let same = one_active files file found.file h found.header is found.is in
    let width = ap (λ (h : Header). h.width) same.1 in
    Differs (λ e. found.differs (width ∙ e)) (ap (λ k. Err (BranchDiffers k asked)) (found.kept_is ∙ ap (λ n. 2 ^ n) width) ∙ ap (λ k. Err (BranchDiffers (2 ^ h.width) k)) found.asked_is)
by_open l w files file h (Err (Damaged other at)) is (inl found) = let no : ⊥ = cc (is, found) in absurd no
by_open l w files file h (Err (Damaged other at)) is (inr (inl found)) =
    let same = one_active files file other h found.header is found.is in
    Stopped (sym (ap (λ (h : Header). h.width) same.1) ∙ found.width_is) at (subst (λ f. IsDamaged (files f) at) same.0 found.damaged) (ap (λ f. Err (Damaged f at)) same.0)
by_open l w files file h (Err (Damaged other at)) is (inr (inr found)) =
    let same = one_active files file other h found.header is found.is in
    Unread (sym (ap (λ (h : Header). h.width) same.1) ∙ found.width_is) at (subst (λ f. DamagedBatch l w files f at) same.0 found) (ap (λ f. Err (Damaged f at)) same.0)

-- files that hold records have no damaged one
held_not_damaged : (files : Files) (file : ℕ) (h : Header) (rs : List Record) (at : ℕ) → active files ≡ Ok (Some (file, h)) → Hold files rs → IsDamaged (files file) at → ⊥
held_not_damaged files file h rs at is hold d = not_damaged h rs (files file) at (subst (RecordsOf files rs) is hold) d

-- a batch outside the format makes no map
unread_no_map : (l : Limits) (w : ℕ) (files : Files) (file at : ℕ) (m : Map) → DamagedBatch l w files file at → Stands l files m → ⊥
unread_no_map l w files file at m u s =
    let same = files_hold_one_list files s.records (u.before ++ u.wrong ∷ u.after) s.hold u.hold in
    no_map l map_of.empty u.map m u.before u.wrong u.after u.good (wrong_record l u.map u.wrong u.kind u.outside) (ap (after_records l map_of.empty) (sym same) ∙ s.is)

one_unread : (l : Limits) (w : ℕ) (files : Files) (file a b : ℕ) → DamagedBatch l w files file a → DamagedBatch l w files file b → a ≡ b
one_unread l w files file a b u v =
    let same = files_hold_one_list files (u.before ++ u.wrong ∷ u.after) (v.before ++ v.wrong ∷ v.after) u.hold v.hold in
    let before = first_wrong l map_of.empty u.map v.map u.before v.before u.wrong v.wrong u.after v.after same u.good v.good (wrong_record l u.map u.wrong u.kind u.outside) (wrong_record l v.map v.wrong v.kind v.outside) in
    u.place ∙ ap end_of before ∙ sym v.place

told_once : (l : Limits) (w : ℕ) (files : Files) (file : ℕ) (h : Header) (a b : Result Map Refusal) → active files ≡ Ok (Some (file, h)) → Told l w files file h a → Told l w files file h b → a ≡ b
told_once l w files file h a b is (Differs n e) (Differs n' e') = e ∙ sym e'
told_once l w files file h a b is (Differs n e) (Stopped same at d e') = absurd (n same)
told_once l w files file h a b is (Differs n e) (Unread same at u e') = absurd (n same)
told_once l w files file h a b is (Differs n e) (Reads same m s e') = absurd (n same)
told_once l w files file h a b is (Stopped same at d e) (Differs n e') = absurd (n same)
told_once l w files file h a b is (Stopped same at d e) (Stopped same' at' d' e') = e ∙ ap (λ n. Err (Damaged file n)) (one_damage (files file) at at' d d') ∙ sym e'
told_once l w files file h a b is (Stopped same at d e) (Unread same' at' u e') = absurd (held_not_damaged files file h (u.before ++ u.wrong ∷ u.after) at is u.hold d)
told_once l w files file h a b is (Stopped same at d e) (Reads same' m s e') = absurd (held_not_damaged files file h s.records at is s.hold d)
told_once l w files file h a b is (Unread same at u e) (Differs n e') = absurd (n same)
told_once l w files file h a b is (Unread same at u e) (Stopped same' at' d e') = absurd (held_not_damaged files file h (u.before ++ u.wrong ∷ u.after) at' is u.hold d)
told_once l w files file h a b is (Unread same at u e) (Unread same' at' u' e') = e ∙ ap (λ n. Err (Damaged file n)) (one_unread l w files file at at' u u') ∙ sym e'
told_once l w files file h a b is (Unread same at u e) (Reads same' m s e') = absurd (unread_no_map l w files file at m u s)
told_once l w files file h a b is (Reads same m s e) (Differs n e') = absurd (n same)
told_once l w files file h a b is (Reads same m s e) (Stopped same' at d e') = absurd (held_not_damaged files file h s.records at is s.hold d)
told_once l w files file h a b is (Reads same m s e) (Unread same' at u e') = absurd (unread_no_map l w files file at m u s)
told_once l w files file h a b is (Reads same m s e) (Reads same' m' s' e') = e ∙ ap (λ n. Ok n) (files_stand_for_one_map l files m m' s s') ∙ sym e'

pub files_are_found_once : FilesAreFoundOnce
files_are_found_once l w files a b fa fb = by_active (active files) refl
  where
    by_active : (x : Result (Option (ℕ × Header)) StoreFault) → active files ≡ x → a ≡ b
    by_active (Err fault) is = by_fault l w files fault a is fa ∙ sym (by_fault l w files fault b is fb)
    by_active (Ok None) is =
        let m = by_none l w files a is fa in
        let n = by_none l w files b is fb in
        m.1 ∙ ap (λ x. Ok x) (files_stand_for_one_map l files m.0 n.0 m.2 n.2) ∙ sym n.1
    by_active (Ok (Some x)) is = told_once l w files x.0 x.1 a b is (by_open l w files x.0 x.1 a is fa) (by_open l w files x.0 x.1 b is fb)
