-- What a crash leaves while the first header is made.
use Rattle.std.proofs.Common.{◌≡◌, inl, inr, ℕ, ◌+◌, ◌<◌, ◌≤◌, min, true, List, [], ◌∷◌, ◌++◌, length, get_or, take, drop, Some, None, Result, Ok, Err, refl, sym, ◌∙◌, ap, subst, arith, append_assoc}
use Rattle.std.proofs.lemmas.Bool.{cases_eq}
use Rattle.base_model.specs.Fields.{◌>>=◌}
use Rattle.disk_model.specs.Files.{Files, Torn, written, first_touched}
use Rattle.disk_model.specs.Crash.{Unsynced, IsImage}
use Rattle.disk_model.specs.Moments.{Moments}
use Rattle.disk_model.proofs.RestImages.{rest_image}
use Rattle.store_model.specs.Header.{Header, StoreFault, header_form, header_of, header_behind_gate, first_gate, is_width}
use Rattle.store_model.specs.Journal.{IsJournal, RecordsOf}
use Rattle.store_model.proofs.Gates.{torn_behind, written_behind, torn_gate, written_gate}
use Rattle.store_model.proofs.Journals.{active_is, journal_header}
use Rattle.mdb_journal.specs.DiskMoves.{AreSynced, IsSynced, TornAlone, OthersAsBefore}
use Rattle.mdb_journal.specs.FirstHeader.{BothClosed, IsShut, HoldNone, first_header}
use Rattle.mdb_journal.proofs.HeaderFields.{too_short, closed_gate, open_header}

-- with both headers closed
pub none_held : (image : Files) → header_of 0 (image 0) ≡ Ok None → header_of 1 (image 1) ≡ Ok None → HoldNone image
none_held image first second = subst (RecordsOf image []) (sym (active_is image None None first second)) refl

-- with the first header alone
pub first_held : (image : Files) (width : ℕ) → IsJournal (first_header width) [] (image 0) → header_of 1 (image 1) ≡ Ok None → HoldNone image
first_held image width j second = subst (RecordsOf image []) (sym (active_is image (Some (first_header width)) None (journal_header 0 (first_header width) [] (image 0) j) second)) j

-- the other file, which was synced
pub second_closed : (old : Moments) (seen image : Files) → IsSynced 1 seen old → header_of 1 (seen 1) ≡ Ok None → OthersAsBefore old 0 image → header_of 1 (image 1) ≡ Ok None
second_closed old seen image synced closed others = ap (header_of 1) (rest_image (seen 1) (image 1) (subst (λ (u : Unsynced). IsImage u (image 1)) synced (others 1 (λ e. absurd (omega (arith, e)))))) ∙ closed

-- ---- the gate

-- a closed header that is long enough has a closed gate
pub long_shut : (bytes : List ℕ) → header_of 0 bytes ≡ Ok None → first_gate < length bytes → IsShut bytes
long_shut [] closed long = absurd (omega (arith, long))
long_shut (b ∷ bytes) closed long = record { gate = b; rest = bytes; is = refl; closed = λ e. opened (header_behind_gate 0 (take first_gate (b ∷ bytes))) (sym (open_header 0 (b ∷ bytes) long e) ∙ closed) }
  where
    opened : (r : Result Header StoreFault) → (r >>= λ h. Ok (Some h)) ≡ Ok None → ⊥
    opened (Ok h) e = absurd cc
    opened (Err d) e = absurd cc

-- a gate that was written is closed
pub written_shut : (bytes now : List ℕ) → now ≡ written bytes 0 (0 ∷ []) → IsShut now
written_shut [] now is = record { gate = 0; rest = []; is = is; closed = λ e. absurd (omega (arith, e)) }
written_shut (b ∷ bytes) now is = record { gate = 0; rest = drop 0 bytes; is = is ∙ written_gate [] b 0 refl 0 bytes ∙ ap (λ l. 0 ∷ l) (sym (start bytes)); closed = λ e. absurd (omega (arith, e)) }
  where
    start : (x : List ℕ) → drop 0 x ≡ x
    start [] = refl
    start (c ∷ x) = refl

-- while the gate of a short file is closed
pub while_closing : (old : Moments) (seen image : Files) → BothClosed seen → AreSynced seen old → length (seen 0) ≤ first_gate → TornAlone old 0 (first_touched (seen 0) 0) 1 (seen 0) image → HoldNone image
while_closing old seen image closed synced short torn =
    none_held image (too_short 0 (image 0) (omega (arith, torn.here.no_longer, short))) (second_closed old seen image (synced 1 (omega arith)) closed.second torn.others)

-- ---- the header

-- while it is written behind the gate
pub while_heading : (old : Moments) (seen image : Files) (to : ℕ) → BothClosed seen → AreSynced seen old → (shut : IsShut (seen 0)) → TornAlone old 0 (first_touched (seen 0) 1) to (seen 0) image → HoldNone image
while_heading old seen image to closed synced shut torn =
    let t : Torn (min (0 + 1) (length ([] ++ shut.gate ∷ shut.rest))) to ([] ++ shut.gate ∷ shut.rest) (image 0) = subst (λ b. Torn (min 1 (length b)) to b (image 0)) shut.is torn.here in
    let is = torn_behind [] shut.gate 0 refl shut.rest (image 0) to t in
    none_held image (closed_gate 0 (image 0) (λ e. shut.closed (sym (ap (λ l. get_or l 0 0) is) ∙ e))) (second_closed old seen image (synced 1 (omega arith)) closed.second torn.others)

-- what is there then: the gate, the header, and a closed gate behind it
pub headed : (bytes now body : List ℕ) (width : ℕ) → (shut : IsShut bytes) → now ≡ written bytes 1 body → 1 ∷ body ≡ header_form (first_header width) ++ 0 ∷ [] → (junk : List ℕ) × (now ≡ shut.gate ∷ (drop 1 (header_form (first_header width)) ++ 0 ∷ junk))
headed bytes now body width shut is form =
    let junk = drop (1 + length body) (shut.gate ∷ shut.rest) in
    (junk, is ∙ ap (λ b. written b 1 body) shut.is ∙ written_behind [] shut.gate 0 refl shut.rest body ∙ ap (λ l. shut.gate ∷ (drop 1 l ++ junk)) form ∙ ap (λ l. shut.gate ∷ l) (append_assoc (drop 1 (header_form (first_header width))) (0 ∷ []) junk))

-- with an open gate it is the first journal
pub first_journal : (bytes junk : List ℕ) (width : ℕ) → is_width width ≡ true → bytes ≡ 1 ∷ (drop 1 (header_form (first_header width)) ++ 0 ∷ junk) → IsJournal (first_header width) [] bytes
first_journal bytes junk width known is = record {
  header = record { width = known; positive = omega arith; fits = omega arith };
  behind = 0 ∷ junk;
  is = is;
  begins = record { gate = 0; junk = junk; is = refl; closed = λ e. absurd (omega (arith, e)); records = tt };
}

-- while the gate is opened
pub while_opening : (old : Moments) (seen image : Files) (gate width : ℕ) (junk : List ℕ) → is_width width ≡ true → header_of 1 (seen 1) ≡ Ok None → IsSynced 1 seen old → seen 0 ≡ gate ∷ (drop 1 (header_form (first_header width)) ++ 0 ∷ junk) → TornAlone old 0 (first_touched (seen 0) 0) 1 (seen 0) image → HoldNone image
while_opening old seen image gate width junk known closed synced is torn =
    let tail = drop 1 (header_form (first_header width)) ++ 0 ∷ junk in
    let t : Torn (min 0 (length ([] ++ gate ∷ tail))) (0 + 1) ([] ++ gate ∷ tail) (image 0) = subst (λ b. Torn (min 0 (length b)) 1 b (image 0)) is torn.here in
    let now : image 0 ≡ get_or (image 0) 0 0 ∷ tail = torn_gate [] gate 0 refl tail (image 0) t in
    let second = second_closed old seen image synced closed torn.others in
    elim (cases_eq (get_or (image 0) 0 0) 1) [
      | inl is_open ↦ first_held image width (first_journal (image 0) junk width known (now ∙ ap (λ b. b ∷ tail) is_open)) second
      | inr shut ↦ none_held image (closed_gate 0 (image 0) shut) second
    ]

-- after it was opened
pub opened_is : (mid now junk : List ℕ) (gate width : ℕ) → is_width width ≡ true → mid ≡ gate ∷ (drop 1 (header_form (first_header width)) ++ 0 ∷ junk) → now ≡ written mid 0 (1 ∷ []) → IsJournal (first_header width) [] now
opened_is mid now junk gate width known is after =
    let tail = drop 1 (header_form (first_header width)) ++ 0 ∷ junk in
    first_journal now junk width known (after ∙ ap (λ b. written b 0 (1 ∷ [])) is ∙ written_gate [] gate 0 refl 1 tail)

-- a file with a closed gate has no open header
pub shut_closed : (bytes : List ℕ) → IsShut bytes → header_of 0 bytes ≡ Ok None
shut_closed bytes shut = closed_gate 0 bytes (λ e. shut.closed (sym (ap (λ l. get_or l 0 0) shut.is) ∙ e))
