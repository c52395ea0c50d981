-- The worked journal, by computing.
use Rattle.std.proofs.Common.{◌≡◌, ◌≢◌, ℕ, List, [], ◌∷◌, ◌++◌, Some, None, Ok, refl, sym, ap, subst, arith}
use Rattle.std.specs.FinMap as map_of
use Rattle.base_model.specs.Fields.{◌>>=◌, number_at, bytes_at, flag_at}
use Rattle.base_model.specs.ReadUvarint.{uvarint_read}
use Rattle.trie_model.specs.Maps.{limits}
use Rattle.batch_model.specs.Sized.{sized_at}
use Rattle.store_model.specs.Fields.{byte_at, these_at, big_endian_at}
use Rattle.store_model.specs.Header.{Header, IsHeader, header_of, header_behind_gate, width_at, generation_at}
use Rattle.store_model.specs.Record.{Record}
use Rattle.batch_model.specs.Batch.{key_at, value_at, changes_at, batch_of}
use Rattle.store_model.specs.Journal.{IsJournal, Hold, RecordsOf, active, later, after_records}
use Rattle.store_model.specs.Worked.{WorkedJournals, WrongHeaders, worked_header, worked_record, alone, one_pair}
use Rattle.store_model.proofs.Journals.{journal_header}

header : Header
header = record { width = 4; generation = 1 }

put_76 : Record
put_76 = record { kind = 1; payload = 0x01 ∷ 0x01 ∷ 0x6b ∷ 0x01 ∷ 0x01 ∷ 0x76 ∷ [] }

fits : IsHeader header
unfolding header
fits = record { width = refl; positive = omega arith; fits = omega arith }

-- the header alone, with a gate that is not open
none : (gate : ℕ) (junk : List ℕ) → gate ≢ 1 → IsJournal header [] (worked_header ++ gate ∷ junk)
unfolding header
none gate junk closed = record { header = fits; behind = gate ∷ junk; is = refl; begins = record { gate = gate; junk = junk; is = refl; closed = closed; records = tt } }

-- with the record
one : (gate : ℕ) (junk : List ℕ) → gate ≢ 1 → IsJournal header (put_76 ∷ []) (worked_header ++ worked_record ++ gate ∷ junk)
unfolding header put_76
one gate junk closed = record {
  header = fits;
  behind = worked_record ++ gate ∷ junk;
  is = refl;
  begins = record { gate = gate; junk = junk; is = refl; closed = closed; records = (record { known = refl; short = omega arith }, tt) };
}

-- its map
map_is : after_records limits map_of.empty (put_76 ∷ []) ≡ Ok one_pair
unfolding put_76 batch_of changes_at key_at value_at sized_at number_at bytes_at flag_at uvarint_read
map_is = refl

-- a file with that header is active, where there is no other
alone_active : (bytes : List ℕ) (rs : List Record) → IsJournal header rs bytes → Hold (alone bytes) rs
unfolding header_of
alone_active bytes rs j =
    let here : header_of 0 bytes ≡ Ok (Some header) = journal_header 0 header rs bytes j in
    let whole : active (alone bytes) ≡ Ok (Some (0, header)) = ap (λ r. r >>= λ first. Ok (later first None)) here in
    subst (RecordsOf (alone bytes) rs) (sym whole) j

pub worked_journals : WorkedJournals
unfolding header_of
worked_journals = (
  record { records = put_76 ∷ []; hold = alone_active _ _ (one 0x00 [] (omega arith)); is = map_is },
  record { records = put_76 ∷ []; hold = alone_active _ _ (one 0x00 worked_record (omega arith)); is = map_is },
  record { records = put_76 ∷ []; hold = alone_active _ _ (one 0x02 worked_record (omega arith)); is = map_is },
  record { records = []; hold = alone_active _ _ (none 0x00 worked_record (omega arith)); is = refl },
  record { records = []; hold = refl; is = refl },
  record { records = []; hold = refl; is = refl },
)

pub wrong_headers : WrongHeaders
unfolding header_of header_behind_gate width_at generation_at byte_at these_at big_endian_at bytes_at
wrong_headers = (refl, refl, refl, refl)
