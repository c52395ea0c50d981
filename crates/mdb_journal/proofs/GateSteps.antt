-- From one gate to the next.
use Rattle.std.proofs.Common.{◌≡◌, ℕ, suc, ◌+◌, ◌<◌, List, [], ◌∷◌, ◌++◌, length, get_or, drop, sym, ap, ◌∙◌, arith, length-append, length-drop, append_assoc, drop-cons}
use Rattle.base_model.specs.Bytes.{AreBytes}
use Rattle.store_model.specs.Record.{Record as record_of, record_form, records_form}
use Rattle.store_model.proofs.Records.{record_at-Stands, records_form-push, IsRecord-push}
use Rattle.store_model.specs.Refusals.{IsOpen, Passed}
use Rattle.mdb_journal.specs.declared.record.Record.{Record}
use Rattle.mdb_journal.specs.GateWalk.{IsFound, Ends}

-- the byte at a place, and what is behind it
at_place : (bytes : List ℕ) (at : ℕ) → at < length bytes → drop at bytes ≡ get_or bytes at 0 ∷ drop (at + 1) bytes
at_place bytes at inside = let one : at + 1 ≡ suc at = omega arith in drop-cons bytes at 0 inside ∙ ap (λ p. get_or bytes at 0 ∷ drop p bytes) (sym one)

-- one record more was passed
pub one_more : (bytes : List ℕ) (at : ℕ) (r : Record) → AreBytes bytes → at < length bytes → Passed bytes at → IsOpen bytes at → IsFound bytes at r → Passed bytes r.next
one_more bytes at r fits inside p gate f =
    let new : record_of = record { kind = r.kind; payload = f.payload } in
    let t = record_at-Stands at bytes at new r.next fits f.is in
    let here : drop at bytes ≡ (1 ∷ record_form new) ++ drop r.next bytes = at_place bytes at inside ∙ ap (λ b. b ∷ drop (at + 1) bytes) gate ∙ ap (λ l. 1 ∷ l) t.0 in
    let form = records_form-push p.records new in
    record {
      records = p.records ++ new ∷ [];
      known = IsRecord-push p.records new p.known t.1;
      is = p.is ∙ ap (λ l. records_form p.records ++ l) here ∙ sym (append_assoc (records_form p.records) (1 ∷ record_form new) (drop r.next bytes)) ∙ ap (λ l. l ++ drop r.next bytes) (sym form);
      place = omega (arith, p.place, t.2, ap length t.0, length-append (record_form new) (drop r.next bytes), length-drop (at + 1) bytes, length-drop r.next bytes, ap length form, length-append (records_form p.records) (1 ∷ record_form new));
    }

-- the end of the records
pub at_end : (bytes : List ℕ) (at : ℕ) → at < length bytes → Passed bytes at → (IsOpen bytes at → ⊥) → Ends bytes at
at_end bytes at inside p shut = record {
  records = p.records;
  begins = record { gate = get_or bytes at 0; junk = drop (at + 1) bytes; is = p.is ∙ ap (λ l. records_form p.records ++ l) (at_place bytes at inside); closed = shut; records = p.known };
  place = p.place;
}
