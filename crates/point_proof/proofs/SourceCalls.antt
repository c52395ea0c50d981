-- Calls of a source, one after another.
use Rattle.std.proofs.Common.{◌≡◌, ℕ, ◌≤◌, Bool, true, false, ◌⊎◌, inl, inr, arith, Result, Ok, Err}
use Rattle.std.specs.Result.{IsErrAnd}
use Rattle.base_model.specs.Faults.{Rose}
use Rattle.trie_items.specs.Sources.{SourceWords, IsSource, Answers}
use Rattle.trie_items.specs.declared.source_fault.SourceFault.{SourceFault}
use Rattle.trie_items.specs.declared.source_fault.SourceFault.TheVariants.{NoMemory}

-- calls that went well lie between two states
pub record WentWell {S : Type 0} (w : SourceWords S) (old new : S) : Type 0 where
  pub calm : w.calm old new
  pub later : w.faults old ≤ w.faults new
  pub becomes : w.failed new ≡ true → Rose (w.faults old) (w.faults new) ⊎ (w.failed old ≡ true)
  pub well : w.failed old ≡ false → w.failed new ≡ false

rose_later : (a b c : ℕ) → Rose a b → b ≤ c → Rose a c
rose_later a b c r h = omega arith

rose_before : (a b c : ℕ) → a ≤ b → Rose b c → Rose a c
rose_before a b c h r = omega arith

-- what failed or was so before, behind calls that went well
since : (a b c : ℕ) (p q : Bool) → a ≤ b → (q ≡ true → Rose a b ⊎ (p ≡ true)) → b ≤ c → Rose b c ⊎ (q ≡ true) → Rose a c ⊎ (p ≡ true)
since a b c p q l g h (inl r) = inl (rose_before a b c l r)
since a b c p q l g h (inr s) = elim (g s) [ inl t ↦ inl (rose_later a b c t h) | inr t ↦ inr t ]

through : (a b c : ℕ) → a ≤ b → b ≤ c → a ≤ c
through a b c h l = omega arith

module _ {S : Type 0} (w : SourceWords S) (laws : IsSource w) where
  -- nothing was called
  pub nothing_called : (s : S) → WentWell w s s
  nothing_called s = record { calm = laws.calm_itself s; later = omega arith; becomes = λ e. inr e; well = λ e. e }

  -- one call more that went well
  pub then_well : {T : Type 0} (a b c : S) (x : T) → WentWell w a b → Answers {T = T} w b c (Ok x) → WentWell w a c
  then_well a b c x g h = record {
    calm = laws.calm_through a b c g.calm h.calm;
    later = through (w.faults a) (w.faults b) (w.faults c) g.later h.reason.later;
    becomes = λ e. since (w.faults a) (w.faults b) (w.faults c) (w.failed a) (w.failed b) g.later g.becomes h.reason.later (h.reason.becomes e);
    well = λ e. elim (h.reason.well (g.well e)) [ inl s ↦ absurd (cc) | inr s ↦ s ];
  }

  -- want of memory may be the answer
  pub lacks_memory : (T : Type 0) (a b : S) (r : Result T SourceFault) → IsErrAnd r (λ e. e ≡ NoMemory) → WentWell w a b → Answers w a b r
  lacks_memory T a b (Ok x) h g = absurd h
  lacks_memory T a b (Err e) h g = record { calm = g.calm; reason = record { later = g.later; failed = λ f. absurd (cc); becomes = g.becomes; well = λ f. inr (g.well f) } }
