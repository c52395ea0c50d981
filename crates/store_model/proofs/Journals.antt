-- What files hold and stand for: at most one list of records, and at most one map.
use Rattle.std.proofs.Common.{◌≡◌, ◌≢◌, ℕ, ◌≤◌, Bool, true, false, cond, List, [], ◌∷◌, ◌++◌, drop, Option, Some, None, Result, Ok, Err, refl, sym, ap, ◌∙◌, arith, subst, ltb}
use Rattle.std.specs.FinMap as map_of
use Rattle.base_model.specs.Fields.{◌>>=◌}
use Rattle.base_model.proofs.Results.{ok_is, bind_ok}
use Rattle.disk_model.specs.Files.{Files}
use Rattle.store_model.specs.Header.{Header, StoreFault, header_form, header_of, first_gate}
use Rattle.store_model.specs.Record.{Record, Begins, record_form, records_form}
use Rattle.store_model.specs.Journal.{IsJournal, Hold, RecordsOf, active, later, after_record, after_records}
use Rattle.trie_model.specs.Maps.{Map}
use Rattle.batch_model.specs.Batch.{BatchFault}
use Rattle.store_model.specs.Laws.{FilesHoldOneList, FilesStandForOneMap, MapsFollowRecords, ActiveFileCounts}
use Rattle.store_model.proofs.Headers.{spelled_headers_are_read}
use Rattle.store_model.proofs.Records.{begins_once}

-- one file is the journal of one list
pub journal_once : (h : Header) (rs qs : List Record) (bytes : List ℕ) → IsJournal h rs bytes → IsJournal h qs bytes → rs ≡ qs
journal_once h rs qs bytes a b =
    let same : b.behind ≡ a.behind = sym (start b.behind) ∙ ap (drop first_gate) (sym b.is ∙ a.is) ∙ start a.behind in
    begins_once rs qs a.behind a.begins (subst (λ x. Begins qs x) same b.begins)
  where
    start : (x : List ℕ) → drop 0 x ≡ x
    start [] = refl
    start (c ∷ x) = refl

-- the header of a journal file
pub journal_header : (file : ℕ) (h : Header) (rs : List Record) (bytes : List ℕ) → IsJournal h rs bytes → header_of file bytes ≡ Ok (Some h)
journal_header file h [] bytes j =
    ap (header_of file) (j.is ∙ ap (λ x. header_form h ++ x) j.begins.is) ∙ spelled_headers_are_read file h j.begins.gate j.begins.junk j.header
journal_header file h (r ∷ rs) bytes j =
    ap (header_of file) (j.is ∙ ap (λ x. header_form h ++ x) j.begins.is) ∙ spelled_headers_are_read file h 1 ((record_form r ++ records_form rs) ++ j.begins.gate ∷ j.begins.junk) j.header

pub files_hold_one_list : FilesHoldOneList
files_hold_one_list files rs qs a b = which (active files) a b
  where
    which : (x : Result (Option (ℕ × Header)) StoreFault) → RecordsOf files rs x → RecordsOf files qs x → rs ≡ qs
    which (Ok None) a b = a ∙ sym b
    which (Ok (Some x)) a b = journal_once x.1 rs qs (files x.0) a b
    which (Err fault) a b = absurd a

pub files_stand_for_one_map : FilesStandForOneMap
files_stand_for_one_map l files m n a b =
    let same = files_hold_one_list files b.records a.records b.hold a.hold in
    ok_is m n (sym a.is ∙ sym (ap (after_records l map_of.empty) same) ∙ b.is)

-- the active file is that of one of the two headers
data Chosen (a b : Option Header) (file : ℕ) (h : Header) : Type 0 where
  First : file ≡ 0 → a ≡ Some h → Chosen a b file h
  Second : file ≡ 1 → b ≡ Some h → Chosen a b file h

pair_is : (x y : ℕ × Header) → Some x ≡ Some y → x ≡ y
pair_is x y e = cc

first : (a : Header) (b : Option Header) (file : ℕ) (h : Header) → ◌≡◌ {A = Option (ℕ × Header)} (Some (0, a)) (Some (file, h)) → Chosen (Some a) b file h
first a b file h e = let p = pair_is (0, a) (file, h) e in First (sym (ap (λ (p : ℕ × Header). p.0) p)) (ap (λ (p : ℕ × Header). Some p.1) p)

second : (a : Option Header) (b : Header) (file : ℕ) (h : Header) → ◌≡◌ {A = Option (ℕ × Header)} (Some (1, b)) (Some (file, h)) → Chosen a (Some b) file h
second a b file h e = let p = pair_is (1, b) (file, h) e in Second (sym (ap (λ (p : ℕ × Header). p.0) p)) (ap (λ (p : ℕ × Header). Some p.1) p)

chosen : (a b : Option Header) (file : ℕ) (h : Header) → later a b ≡ Some (file, h) → Chosen a b file h
chosen None None file h e = absurd cc
chosen (Some a) None file h e = first a None file h e
chosen None (Some b) file h e = second None b file h e
chosen (Some a) (Some b) file h e = test (ltb a.generation b.generation) e
  where
    test : (t : Bool) → ◌≡◌ {A = Option (ℕ × Header)} (cond t (Some (1, b)) (Some (0, a))) (Some (file, h)) → Chosen (Some a) (Some b) file h
    test true e = second (Some a) b file h e
    test false e = first a (Some b) file h e

-- the active file and its header
pub active_header : (files : Files) (file : ℕ) (h : Header) → active files ≡ Ok (Some (file, h)) → (file ≤ 1) × (header_of file (files file) ≡ Ok (Some h))
active_header files file h is =
    let a = bind_ok (header_of 0 (files 0)) (λ first. header_of 1 (files 1) >>= λ second. Ok (later first second)) (Some (file, h)) is in
    let b = bind_ok (header_of 1 (files 1)) (λ second. Ok (later a.0 second)) (Some (file, h)) a.2 in
    which (chosen a.0 b.0 file h (ok_is (later a.0 b.0) (Some (file, h)) b.2)) a.1 b.1
  where
    which : {a b : Option Header} → Chosen a b file h → header_of 0 (files 0) ≡ Ok a → header_of 1 (files 1) ≡ Ok b → (file ≤ 1) × (header_of file (files file) ≡ Ok (Some h))
    which (First zero same) e f = (omega (arith, zero), ap (λ k. header_of k (files k)) zero ∙ e ∙ ap (λ x. Ok x) same)
    which (Second one same) e f = (omega (arith, one), ap (λ k. header_of k (files k)) one ∙ f ∙ ap (λ x. Ok x) same)

-- where no header is open, both are closed
pub none_active : (files : Files) → active files ≡ Ok None → (header_of 0 (files 0) ≡ Ok None) × (header_of 1 (files 1) ≡ Ok None)
none_active files is =
    let a = bind_ok (header_of 0 (files 0)) (λ first. header_of 1 (files 1) >>= λ second. Ok (later first second)) None is in
    let b = bind_ok (header_of 1 (files 1)) (λ second. Ok (later a.0 second)) None a.2 in
    which a.0 b.0 a.1 b.1 (ok_is (later a.0 b.0) None b.2)
  where
    picked : (t : Bool) (x y : ℕ × Header) → ◌≡◌ {A = Option (ℕ × Header)} (cond t (Some x) (Some y)) None → ⊥
    picked true x y e = absurd cc
    picked false x y e = absurd cc

    which : (a b : Option Header) → header_of 0 (files 0) ≡ Ok a → header_of 1 (files 1) ≡ Ok b → later a b ≡ None → (header_of 0 (files 0) ≡ Ok None) × (header_of 1 (files 1) ≡ Ok None)
    which None None e f g = (e, f)
    which (Some a) None e f g = absurd cc
    which None (Some b) e f g = absurd cc
    which (Some a) (Some b) e f g = absurd (picked (ltb a.generation b.generation) (1, b) (0, a) g)

-- which headers there are says what is active
pub active_is : (files : Files) (a b : Option Header) → header_of 0 (files 0) ≡ Ok a → header_of 1 (files 1) ≡ Ok b → active files ≡ Ok (later a b)
active_is files a b e f = rw (e, f) refl

-- the active file stays it while it keeps its header and the other of the two stays
pub active_stays : (files image : Files) (file : ℕ) (h : Header) (rs : List Record) → active files ≡ Ok (Some (file, h)) → IsJournal h rs (image file) → ((other : ℕ) → other ≤ 1 → other ≢ file → image other ≡ files other) → active image ≡ Ok (Some (file, h))
active_stays files image file h rs is journal stays =
    let a = bind_ok (header_of 0 (files 0)) (λ first. header_of 1 (files 1) >>= λ second. Ok (later first second)) (Some (file, h)) is in
    let b = bind_ok (header_of 1 (files 1)) (λ second. Ok (later a.0 second)) (Some (file, h)) a.2 in
    let picked = ok_is (later a.0 b.0) (Some (file, h)) b.2 in
    by_file a.0 b.0 a.1 b.1 picked (chosen a.0 b.0 file h picked)
  where
    both : (a b : Option Header) → header_of 0 (image 0) ≡ Ok a → header_of 1 (image 1) ≡ Ok b → later a b ≡ Some (file, h) → active image ≡ Ok (Some (file, h))
    both a b first second picked =
        rw (first, second) (ap (λ x. Ok x) picked)

    by_file : (a b : Option Header) → header_of 0 (files 0) ≡ Ok a → header_of 1 (files 1) ≡ Ok b → later a b ≡ Some (file, h) → Chosen a b file h → active image ≡ Ok (Some (file, h))
    by_file a b first second picked (First zero same) =
        let here : header_of 0 (image 0) ≡ Ok a = journal_header 0 h rs (image 0) (subst (λ f. IsJournal h rs (image f)) zero journal) ∙ ap (λ x. Ok x) (sym same) in
        let other : image 1 ≡ files 1 = stays 1 (omega arith) (λ e. absurd (omega (arith, e, zero))) in
        both a b here (ap (header_of 1) other ∙ second) picked
    by_file a b first second picked (Second one same) =
        let here : header_of 1 (image 1) ≡ Ok b = journal_header 1 h rs (image 1) (subst (λ f. IsJournal h rs (image f)) one journal) ∙ ap (λ x. Ok x) (sym same) in
        let other : image 0 ≡ files 0 = stays 0 (omega arith) (λ e. absurd (omega (arith, e, one))) in
        both a b (ap (header_of 0) other ∙ first) here picked

pub active_file_counts : ActiveFileCounts
active_file_counts files image file h rs is journal stays = subst (RecordsOf image rs) (sym (active_stays files image file h rs is journal stays)) journal

-- files hold what their first two hold
pub hold_as_read : (files image : Files) (rs : List Record) → ((file : ℕ) → file ≤ 1 → image file ≡ files file) → Hold files rs → Hold image rs
hold_as_read files image rs same hold =
    let first = same 0 (omega arith) in
    let second = same 1 (omega arith) in
    which (header_of 0 (files 0)) (header_of 1 (files 1)) (ap (header_of 0) first) (ap (header_of 1) second) hold
  where
    from : (a b : Option Header) → RecordsOf files rs (Ok (later a b)) → RecordsOf image rs (Ok (later a b))
    from None None r = r
    from (Some a) None r = subst (λ x. IsJournal a rs x) (sym (same 0 (omega arith))) r
    from None (Some b) r = subst (λ x. IsJournal b rs x) (sym (same 1 (omega arith))) r
    from (Some a) (Some b) r = test (ltb a.generation b.generation) r
      where
        test : (t : Bool) → RecordsOf files rs (Ok (cond t (Some (1, b)) (Some (0, a)))) → RecordsOf image rs (Ok (cond t (Some (1, b)) (Some (0, a))))
        test true r = subst (λ x. IsJournal b rs x) (sym (same 1 (omega arith))) r
        test false r = subst (λ x. IsJournal a rs x) (sym (same 0 (omega arith))) r

    which : (x y : Result (Option Header) StoreFault) → header_of 0 (image 0) ≡ x → header_of 1 (image 1) ≡ y → RecordsOf files rs (x >>= λ first. y >>= λ second. Ok (later first second)) → Hold image rs
    which (Ok a) (Ok b) e f r = subst (RecordsOf image rs) (sym (ap (λ x. x >>= λ first. header_of 1 (image 1) >>= λ second. Ok (later first second)) e ∙ ap (λ y. y >>= λ second. Ok (later a second)) f)) (from a b r)
    which (Ok a) (Err d) e f r = absurd r
    which (Err d) y e f r = absurd r

pub maps_follow_records : MapsFollowRecords
maps_follow_records l m n [] r e = ap (λ x. after_record l x r >>= λ y. Ok y) (ok_is m n e) ∙ alone (after_record l n r)
  where
    alone : (x : Result Map BatchFault) → (x >>= λ y. Ok y) ≡ x
    alone (Ok y) = refl
    alone (Err why) = refl
maps_follow_records l m n (q ∷ rs) r e =
    let s = bind_ok (after_record l m q) (λ next. after_records l next rs) n e in
    ap (λ x. x >>= λ next. after_records l next (rs ++ r ∷ [])) s.1 ∙ maps_follow_records l s.0 n rs r s.2
