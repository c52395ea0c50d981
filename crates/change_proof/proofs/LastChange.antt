-- The range that changes tell of, by the last of them.
use Rattle.std.proofs.Common.{◌≡◌, ℕ, Bool, true, List, refl, ap, Some}
use Rattle.range_model.specs.Ranges.{Range}
use Rattle.batch_model.specs.Batch.{Change}
use Rattle.proof_model.specs.ChangeProofs.{changed_keys, changes_reach}
use Rattle.proof_model.specs.TakenEntries.{last_key, end_or}

pub reached_end-cut : (r : Range) (cut : Bool) (cs : List Change) (last k : List ℕ) → cut ≡ true → last_key (changed_keys cs) ≡ Some last → k ≡ last → Some k ≡ (changes_reach r cut cs).end
reached_end-cut r cut cs last k c h e = rw (c, h) (ap Some e)

pub changes_reach-cut : (r : Range) (cut : Bool) (cs : List Change) (last : List ℕ) → cut ≡ true → last_key (changed_keys cs) ≡ Some last → end_or (Some last) r ≡ changes_reach r cut cs
changes_reach-cut r cut cs last c h = rw (c, h) refl
