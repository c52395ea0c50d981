-- The two writes of an append: what they make of a journal, and what a crash leaves of them.
use Rattle.std.proofs.Common.{◌≡◌, ◌≢◌, ◌⊎◌, inl, inr, ℕ, ◌+◌, min, List, [], ◌∷◌, ◌++◌, length, get_or, drop, refl, sym, ◌∙◌, ap, subst, arith, append_assoc}
use Rattle.std.proofs.lemmas.Bool.{cases_eq}
use Rattle.disk_model.specs.Files.{Torn, written, first_touched}
use Rattle.disk_model.specs.Crash.{IsImage, at_rest, after_write}
use Rattle.disk_model.proofs.RestImages.{rest_image}
use Rattle.disk_model.proofs.TornImages.{torn_from}
use Rattle.store_model.specs.Header.{Header, header_form, open_gate}
use Rattle.store_model.specs.Record.{Record, IsRecord, record_form, records_form}
use Rattle.store_model.specs.Journal.{IsJournal, end_of}
use Rattle.store_model.specs.Laws.{AppendsAdd, StagingIsSafe, OpeningIsSafe, gated, staged, appended}
use Rattle.store_model.proofs.Gates.{torn_behind, written_behind, torn_gate, written_gate}
use Rattle.store_model.proofs.Records.{records_form-push, IsRecord-push}

-- an image of a file that was synced and then written to is torn from it
pub torn_image : (bytes image : List ℕ) (at to : ℕ) → IsImage (at_rest bytes) bytes → IsImage (after_write (first_touched bytes at) to (at_rest bytes)) image → Torn (first_touched bytes at) to bytes image
torn_image bytes image at to real is =
    let t = torn_from (at_rest bytes) bytes image (first_touched bytes at) to real (omega arith) is in
    subst (λ b. Torn (first_touched bytes at) to b image) (rest_image bytes t.0 t.1) t.2

module _ (h : Header) (rs : List Record) where
  -- all in front of the first gate that is not open
  abbrev pub front : List ℕ
  front = header_form h ++ records_form rs

  place : end_of rs ≡ length front
  place = omega arith

  pub whole : (bytes : List ℕ) (j : IsJournal h rs bytes) → bytes ≡ front ++ j.begins.gate ∷ j.begins.junk
  whole bytes j = j.is ∙ ap (λ x. header_form h ++ x) j.begins.is ∙ sym (append_assoc (header_form h) (records_form rs) (j.begins.gate ∷ j.begins.junk))

  -- with another gate that is not open, and whatever behind it
  pub without : (bytes image : List ℕ) (gate : ℕ) (rest : List ℕ) → IsJournal h rs bytes → gate ≢ 1 → image ≡ front ++ gate ∷ rest → IsJournal h rs image
  without bytes image gate rest j closed is = record {
    header = j.header;
    behind = records_form rs ++ gate ∷ rest;
    is = is ∙ append_assoc (header_form h) (records_form rs) (gate ∷ rest);
    begins = record { gate = gate; junk = rest; is = refl; closed = closed; records = j.begins.records };
  }

  module _ (r : Record) where
    -- the record behind the gate, with a closed gate and whatever behind it
    abbrev pub tail : List ℕ → List ℕ
    tail junk = record_form r ++ 0 ∷ junk

    -- with an open gate, the record is one more
    pub with_it : (bytes image junk : List ℕ) → IsJournal h rs bytes → IsRecord r → image ≡ front ++ 1 ∷ tail junk → IsJournal h (rs ++ r ∷ []) image
    with_it bytes image junk j fits is = record {
      header = j.header;
      behind = records_form rs ++ 1 ∷ tail junk;
      is = is ∙ append_assoc (header_form h) (records_form rs) (1 ∷ tail junk);
      begins = record {
        gate = 0;
        junk = junk;
        is = sym (append_assoc (records_form rs) (1 ∷ record_form r) (0 ∷ junk)) ∙ ap (λ l. l ++ 0 ∷ junk) (sym (records_form-push rs r));
        closed = omega arith;
        records = IsRecord-push rs r j.begins.records fits;
      };
    }

    -- what stands behind the closed gate after the first write
    abbrev pub back : (bytes : List ℕ) → List ℕ
    back bytes = drop (end_of rs + 1 + length (gated r)) bytes

    -- after the first write
    pub staged_is : (bytes : List ℕ) (j : IsJournal h rs bytes) → staged bytes rs r ≡ front ++ j.begins.gate ∷ tail (back bytes)
    staged_is bytes j =
        let w = whole bytes j in
        let gate = j.begins.gate in
        ap (λ l. written l (end_of rs + 1) (gated r)) w
        ∙ written_behind front gate (end_of rs) place j.begins.junk (gated r)
        ∙ ap (λ l. front ++ gate ∷ (gated r ++ drop (end_of rs + 1 + length (gated r)) l)) (sym w)
        ∙ ap (λ l. front ++ gate ∷ l) (append_assoc (record_form r) (0 ∷ []) (back bytes))

    -- after both
    pub appended_is : (bytes : List ℕ) (j : IsJournal h rs bytes) → appended bytes rs r ≡ front ++ 1 ∷ tail (back bytes)
    appended_is bytes j =
        ap (λ l. written l (end_of rs) (open_gate ∷ [])) (staged_is bytes j) ∙ written_gate front j.begins.gate (end_of rs) place 1 (tail (back bytes))

    -- torn by the first write
    pub torn_staging : (bytes image : List ℕ) (to : ℕ) → IsJournal h rs bytes → Torn (first_touched bytes (end_of rs + 1)) to bytes image → IsJournal h rs image
    torn_staging bytes image to j torn =
        let t = subst (λ b. Torn (min (end_of rs + 1) (length b)) to b image) (whole bytes j) torn in
        without bytes image j.begins.gate (drop (end_of rs + 1) image) j j.begins.closed (torn_behind front j.begins.gate (end_of rs) place j.begins.junk image to t)

    -- torn by the second
    pub torn_opening : (bytes image : List ℕ) → IsRecord r → IsJournal h rs bytes → Torn (first_touched (staged bytes rs r) (end_of rs)) (end_of rs + 1) (staged bytes rs r) image → IsJournal h rs image ⊎ IsJournal h (rs ++ r ∷ []) image
    torn_opening bytes image fits j torn =
        let t = subst (λ b. Torn (min (end_of rs) (length b)) (end_of rs + 1) b image) (staged_is bytes j) torn in
        let is : image ≡ front ++ get_or image (end_of rs) 0 ∷ tail (back bytes) = torn_gate front j.begins.gate (end_of rs) place (tail (back bytes)) image t in
        elim (cases_eq (get_or image (end_of rs) 0) 1) [
          | inl is_open ↦ inr (with_it bytes image (back bytes) j fits (is ∙ ap (λ n. front ++ n ∷ tail (back bytes)) is_open))
          | inr shut ↦ inl (without bytes image (get_or image (end_of rs) 0) (tail (back bytes)) j shut is)
        ]

pub appends_add : AppendsAdd
appends_add h rs r bytes fits j = (
  without h rs bytes (staged bytes rs r) j.begins.gate (tail h rs r (back h rs r bytes)) j j.begins.closed (staged_is h rs r bytes j),
  with_it h rs r bytes (appended bytes rs r) (back h rs r bytes) j fits (appended_is h rs r bytes j),
)

pub staging_is_safe : StagingIsSafe
staging_is_safe h rs r bytes image real j is =
    torn_staging h rs r bytes image _ j (torn_image bytes image (end_of rs + 1) (end_of rs + 1 + length (gated r)) real is)

pub opening_is_safe : OpeningIsSafe
opening_is_safe h rs r bytes image fits j real is =
    torn_opening h rs r bytes image fits j (torn_image (staged bytes rs r) image (end_of rs) (end_of rs + 1) real is)
