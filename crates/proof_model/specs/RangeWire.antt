-- Range proofs as bytes: their one spelling, and what is read of any bytes.
use Rattle.std.specs.Prelude.{ℕ, ◌≤◌, List, ◌∷◌, ◌++◌, length, Result, Ok}
use Rattle.base_model.specs.Fields.{Field, ◌>>=◌, flag_form, flag_at}
use Rattle.trie_model.specs.Maps.{Limits}
use Rattle.batch_model.specs.Sized.{sized_form}
use Rattle.proof_model.specs.Proofs.{Pair}
use Rattle.proof_model.specs.RangeProofs.{RangeProof}
use Rattle.proof_model.specs.Wire.{WireFault, Short, Flag, LongKey, LongValue, wrong, version, counted_form, path_form, AreCounted, IsPath, sized_at, counted_at, path_at, head_at, all_read}

-- ---- spelling

-- the second byte
abbrev pub range_kind : ℕ
range_kind = 1

-- key and value, each behind its length
abbrev pub pair_form : Pair → List ℕ
pair_form e = sized_form e.0 ++ sized_form e.1

-- number of pairs, pairs
abbrev pub pairs_form : List Pair → List ℕ
pairs_form es = counted_form pair_form es

-- version, kind, flag, pairs, path to the start, path to where the pairs reach
abbrev pub range_form : RangeProof → List ℕ
range_form p = version ∷ range_kind ∷ (flag_form p.cut ++ (pairs_form p.pairs ++ (path_form p.start ++ path_form p.end)))

-- ---- the grammar, for maps within the limits and tokens of w bits

pub record IsWirePair (l : Limits) (e : Pair) : Type 0 where
  pub key : length e.0 ≤ l.key
  pub value : length e.1 ≤ l.value

abbrev pub ArePairs : Limits → List Pair → Type 0
ArePairs l es = AreCounted (IsWirePair l) es

-- the keys may have any order here
pub record IsRangeProof (l : Limits) (w : ℕ) (p : RangeProof) : Type 0 where
  pub pairs : ArePairs l p.pairs
  pub start : IsPath l w p.start
  pub end : IsPath l w p.end

-- ---- reading

unfoldable pub pair_at : Limits → List ℕ → ℕ → Field WireFault Pair
pair_at l bytes at = do
  key ← sized_at LongKey l.key bytes at
  value ← sized_at LongValue l.value bytes key.1
  Ok ((key.0, value.0), value.1)

abbrev pub pairs_at : Limits → List ℕ → ℕ → Field WireFault (List Pair)
pairs_at l = counted_at (pair_at l)

-- a range proof
unfoldable pub range_of : Limits → ℕ → List ℕ → Result RangeProof WireFault
range_of l w bytes = do
  head ← head_at range_kind bytes
  cut ← flag_at (wrong Short) (wrong Flag) bytes head.1
  pairs ← pairs_at l bytes cut.1
  start ← path_at l w bytes pairs.1
  end ← path_at l w bytes start.1
  all_read bytes (record { cut = cut.0; pairs = pairs.0; start = start.0; end = end.0 }, end.1)
