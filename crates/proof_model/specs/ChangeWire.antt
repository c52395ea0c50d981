-- Change proofs as bytes: their one spelling, and what is read of any bytes.
use Rattle.std.specs.Prelude.{ℕ, List, ◌∷◌, ◌++◌, Result, Ok}
use Rattle.base_model.specs.Fields.{Field, ◌>>=◌, flag_form, flag_at}
use Rattle.trie_model.specs.Maps.{Limits}
use Rattle.batch_model.specs.Batch.{Change, IsChange, change_form}
use Rattle.proof_model.specs.ChangeProofs.{ChangeProof}
use Rattle.proof_model.specs.Wire.{WireFault, Short, Flag, LongKey, LongValue, wrong, version, counted_form, path_form, AreCounted, IsPath, sized_at, maybe_at, counted_at, path_at, head_at, all_read}

-- ---- spelling

-- the second byte
abbrev pub change_kind : ℕ
change_kind = 2

-- version, kind, flag, number of changes, each change as a batch spells it, path to the start, path to where they reach
abbrev pub changes_form : ChangeProof → List ℕ
changes_form p = version ∷ change_kind ∷ (flag_form p.cut ++ (counted_form change_form p.changes ++ (path_form p.start ++ path_form p.end)))

-- ---- the grammar, for maps within the limits and tokens of w bits

-- the keys may have any order here
pub record IsChangeProof (l : Limits) (w : ℕ) (p : ChangeProof) : Type 0 where
  pub changes : AreCounted (IsChange l) p.changes
  pub start : IsPath l w p.start
  pub end : IsPath l w p.end

-- ---- reading

unfoldable pub change_at : Limits → List ℕ → ℕ → Field WireFault Change
change_at l bytes at = do
  key ← sized_at LongKey l.key bytes at
  value ← maybe_at LongValue l.value bytes key.1
  Ok (record { key = key.0; value = value.0 }, value.1)

-- a change proof
unfoldable pub changes_of : Limits → ℕ → List ℕ → Result ChangeProof WireFault
changes_of l w bytes = do
  head ← head_at change_kind bytes
  cut ← flag_at (wrong Short) (wrong Flag) bytes head.1
  changes ← counted_at (change_at l) bytes cut.1
  start ← path_at l w bytes changes.1
  end ← path_at l w bytes start.1
  all_read bytes (record { cut = cut.0; changes = changes.0; start = start.0; end = end.0 }, end.1)
