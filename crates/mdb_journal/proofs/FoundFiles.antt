-- What the headers and the walk say of the files.
use Rattle.std.proofs.Common.{◌≡◌, ◌≢◌, inl, inr, ℕ, ◌^◌, ◌<◌, true, false, ◌++◌, length, drop, Some, Ok, Err, Result, refl, sym, ap, ◌∙◌, subst}
use Rattle.base_model.proofs.Results.{ok_is}
use Rattle.base_model.specs.Bytes.{AreBytes}
use Rattle.disk_model.specs.Files.{Files}
use Rattle.store_model.specs.Header.{Header, IsHeader, StoreFault, header_form, first_gate, is_width}
use Rattle.store_model.specs.Journal.{active}
use Rattle.store_model.proofs.Headers.{read_headers_are_spelled, header_is_open}
use Rattle.store_model.proofs.Journals.{active_header}
use Rattle.store_model.specs.Refusals.{OtherFactor, DamagedRecord}
use Rattle.mdb_journal.specs.Opening.{Unless, as_answer, IsOpened, Refuses}
use Rattle.mdb_journal.specs.GateWalk.{Ends, Walked}
use Rattle.mdb_journal.specs.declared.fault.JournalFault.{JournalFault}
use Rattle.mdb_journal.specs.declared.fault.JournalFault.TheVariants.{Disk, NotAStore, BranchDiffers, Damaged, TooLarge, Failed, NoMemory}

-- a value that was answered is that of the definition
pub answered : {A : Type 0} (r : Result A StoreFault) (x : A) → Unless (as_answer r) (Ok x) → r ≡ Ok x
answered (Ok y) x (inl e) = ap (λ z. Ok z) (sym (ok_is x y e))
answered (Err why) x (inl e) = absurd cc
answered r x (inr e) = absurd cc

module _ (files : Files) (file : ℕ) (h : Header) (is : active files ≡ Ok (Some (file, h))) where
  pub header_inside : first_gate < length (files file)
  header_inside = header_is_open file (files file) h (active_header files file h is).1

  module _ (fits : AreBytes (files file)) (w : ℕ) where
    stands : IsHeader h × (files file ≡ header_form h ++ drop first_gate (files file))
    stands = read_headers_are_spelled file (files file) h fits (active_header files file h is).1

    pub width_known : is_width h.width ≡ true
    width_known = stands.0.width

    -- a walk that came to the end
    pub opened : (end : ℕ) → h.width ≡ w → Ends (files file) end → IsOpened w files (record { file = file; generation = h.generation; end = end; failed = false })
    opened end same e = record {
      records = e.records;
      knows = record { header = h; active = is; generation = refl; journal = record { header = stands.0; behind = drop first_gate (files file); is = stands.1; begins = e.begins }; place = e.place };
      width_is = same;
      works = refl;
    }

  -- a walk that failed
  pub refused : (w : ℕ) (fault : JournalFault) → h.width ≡ w → Walked (files file) file (Err fault) → Refuses w files fault
  refused w Disk same e = tt
  refused w (NotAStore f) same e = absurd e
  refused w (BranchDiffers kept asked) same e = absurd e
  refused w (Damaged f at) same e = inr (subst (λ f. DamagedRecord w files f at) (sym e.0) (record { header = h; is = is; width_is = same; damaged = e.1 }))
  refused w (TooLarge n) same e = absurd e
  refused w Failed same e = absurd e
  refused w NoMemory same e = absurd e

-- the active file has another factor
pub other_factor : (files : Files) (file : ℕ) (h : Header) (w kept asked width : ℕ) → active files ≡ Ok (Some (file, h)) → width ≡ h.width → width ≢ w → kept ≡ 2 ^ width → asked ≡ 2 ^ w → OtherFactor w files kept asked
other_factor files file h w kept asked width is same differs k a = record { file = file; header = h; is = is; differs = λ e. differs (same ∙ e); kept_is = k ∙ ap (λ n. 2 ^ n) same; asked_is = a }
