-- Files that hold records are not refused as damaged.
use Rattle.std.proofs.Common.{◌≡◌, ◌≢◌, inl, inr, ℕ, zero, suc, ◌+◌, ◌<◌, List, [], ◌∷◌, ◌++◌, length, get_or, drop, Result, Ok, Err, refl, sym, ap, ◌∙◌, subst, arith, append_assoc, get_or-drop}
use Rattle.std.proofs.lemmas.List.{drop-drop}
use Rattle.std.specs.List.{AllByRecursion}
use Rattle.disk_model.specs.Files.{Files}
use Rattle.store_model.specs.Header.{first_gate}
use Rattle.store_model.specs.Record.{Record, IsRecord, Begins, record_form, records_form, record_at}
use Rattle.store_model.specs.Journal.{Hold, IsJournal, RecordsOf}
use Rattle.store_model.proofs.Records.{records_are_prefix_free, record_at-IsRead}
use Rattle.store_model.specs.Refusals.{IsDamaged, IsOpen}
use Rattle.mdb_journal.specs.Opening.{Refuses, FailsOrDiffers}
use Rattle.mdb_journal.specs.declared.fault.JournalFault.{JournalFault}
use Rattle.mdb_journal.specs.declared.fault.JournalFault.TheVariants.{Disk, NotAStore, BranchDiffers, Damaged, TooLarge, Failed, NoMemory}

-- a whole record with its gates stands here
record Continues (tail : List ℕ) : Type 0 where
  one : Record
  fits : IsRecord one
  next : ℕ
  rest : List ℕ
  is : tail ≡ 1 ∷ (record_form one ++ next ∷ rest)

-- records end with a gate
first_gate_of : (rs : List Record) (gate : ℕ) (junk : List ℕ) → (next : ℕ) × (rest : List ℕ) × (records_form rs ++ gate ∷ junk ≡ next ∷ rest)
first_gate_of [] gate junk = (gate, junk, refl)
first_gate_of (r ∷ rs) gate junk = (1, (record_form r ++ records_form rs) ++ gate ∷ junk, refl)

-- behind some of the records, an open gate has a whole record
continues : (ps rs : List Record) (tail : List ℕ) (gate : ℕ) (junk : List ℕ) → AllByRecursion IsRecord ps → AllByRecursion IsRecord rs → records_form ps ++ tail ≡ records_form rs ++ gate ∷ junk → gate ≢ 1 → get_or tail 0 0 ≡ 1 → Continues tail
continues [] [] tail gate junk fp fr e shut open_here = absurd (shut (sym (ap (λ l. get_or l 0 0) e) ∙ open_here))
continues [] (r ∷ rs) tail gate junk fp fr e shut open_here =
    let n = first_gate_of rs gate junk in
    record { one = r; fits = fr.0; next = n.0; rest = n.1; is = e ∙ ap (λ l. 1 ∷ l) (append_assoc (record_form r) (records_form rs) (gate ∷ junk)) ∙ ap (λ l. 1 ∷ (record_form r ++ l)) n.2 }
continues (p ∷ ps) [] tail gate junk fp fr e shut open_here = let same : gate ≡ 1 = cc in absurd (shut same)
continues (p ∷ ps) (r ∷ rs) tail gate junk fp fr e shut open_here =
    let one = ap (drop 1) e in
    let f = records_are_prefix_free p r (records_form ps ++ tail) (records_form rs ++ gate ∷ junk) fp.0 fr.0 (sym (append_assoc (record_form p) (records_form ps) tail) ∙ one ∙ append_assoc (record_form r) (records_form rs) (gate ∷ junk)) in
    continues ps rs tail gate junk fp.1 fr.1 f.1 shut open_here

-- a whole record is read
whole : (bytes : List ℕ) (at : ℕ) → Continues (drop at bytes) → at < length bytes → record_at at bytes at ≡ Err at → ⊥
whole bytes at c inside e =
    let left : drop (at + 1) bytes ≡ record_form c.one ++ c.next ∷ c.rest = sym (drop-drop 1 at bytes) ∙ ap (drop 1) c.is in
    let r = record_at-IsRead at c.one bytes at c.next c.rest c.fits inside left in
    absurd (apart c.one r.place (sym r.is ∙ e))
  where
    apart : (x : Record) (p : ℕ) → ◌≡◌ {A = Result (Record × ℕ) ℕ} (Ok (x, p)) (Err at) → ⊥
    apart x p e = absurd cc

-- a journal file has no damaged record
pub not_damaged : (bytes behind : List ℕ) (rs : List Record) → behind ≡ drop first_gate bytes → Begins rs behind → (at : ℕ) → at < length bytes → IsDamaged bytes at → ⊥
not_damaged bytes behind rs same b at inside d =
    let e = sym d.passed.is ∙ sym same ∙ b.is in
    let here : get_or (drop at bytes) 0 0 ≡ 1 = at_front bytes at ∙ d.gate in
    whole bytes at (continues d.passed.records rs (drop at bytes) b.gate b.junk d.passed.known b.records e b.closed here) inside d.outside
  where
    at_front : (bytes : List ℕ) (at : ℕ) → get_or (drop at bytes) 0 0 ≡ get_or bytes at 0
    at_front bytes at = let z : at + 0 ≡ at = omega arith in get_or-drop at bytes 0 0 ∙ ap (λ i. get_or bytes i 0) z

-- an open gate is inside its file
gate_inside : (bytes : List ℕ) (at : ℕ) → IsOpen bytes at → at < length bytes
gate_inside [] zero e = absurd (omega (arith, e))
gate_inside [] (suc at) e = absurd (omega (arith, e))
gate_inside (b ∷ bytes) zero e = omega arith
gate_inside (b ∷ bytes) (suc at) e = omega (arith, gate_inside bytes at e)

pub sound_fault : (files : Files) (rs : List Record) → Hold files rs → (w : ℕ) (fault : JournalFault) → Refuses w files fault → FailsOrDiffers fault
sound_fault files rs hold w Disk r = tt
sound_fault files rs hold w (BranchDiffers kept asked) r = tt
sound_fault files rs hold w (NotAStore file) r = subst (RecordsOf files rs) r hold
sound_fault files rs hold w (Damaged file at) (inl r) = subst (RecordsOf files rs) r hold
sound_fault files rs hold w (Damaged file at) (inr r) =
    let j : IsJournal r.header rs (files file) = subst (RecordsOf files rs) r.is hold in
    let same : j.behind ≡ drop first_gate (files file) = sym (ap (drop first_gate) j.is ∙ start j.behind) in
    not_damaged (files file) j.behind rs same j.begins at (gate_inside (files file) at r.damaged.gate) r.damaged
  where
    start : (x : List ℕ) → drop 0 x ≡ x
    start [] = refl
    start (b ∷ x) = refl
sound_fault files rs hold w (TooLarge n) r = absurd r
sound_fault files rs hold w Failed r = absurd r
sound_fault files rs hold w NoMemory r = absurd r
