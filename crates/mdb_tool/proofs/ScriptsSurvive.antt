-- What a crash leaves of a run that opens a store and then does a script.
use Rattle.std.proofs.Common.{inl, inr, ℕ, List, [], Option, le_refl}
use Rattle.std.specs.Io.KnownBytes.{Appends}
use Rattle.disk_model.specs.Files.{Files}
use Rattle.disk_model.specs.Moments.{Moments, LeavesOnly, Meanwhile}
use Rattle.disk_model.proofs.Meanwhile.{weaker, joined, at_last}
use Rattle.trie_model.specs.Maps.{Map, limits}
use Rattle.store_model.specs.Journal.{Stands}
use Rattle.store_model.specs.Openings.{Opens}
use Rattle.session_model.specs.Session.{Step}
use Rattle.run_model.specs.Script.{HasSteps, Keeps, Survives}

-- files that stand for the map before a script have none of its steps
pub no_step : (m : Map) (steps : List Step) (image : Files) → Stands limits image m → HasSteps m steps 0 image
no_step m steps image stands = record { count = 0; at_least = le_refl 0; stands = stands }

-- before the script
pub opening_survives : (m : Map) (steps : List Step) (taken taken' : Option (List ℕ)) (old now : Moments) → Appends taken taken' [] → Opens limits m old now → Survives m steps taken taken' old now
opening_survives m steps taken taken' old now printed (inl run) = inl (record { meanwhile = run; text = printed })
opening_survives m steps taken taken' old now printed (inr s) =
    let steps_there : LeavesOnly (HasSteps m steps 0) s.at.now = λ image is. no_step m steps image (s.there image is) in
    let steps_since : Meanwhile (HasSteps m steps 0) s.at now = weaker s.after (no_step m steps) in
    inr (record { at = s.at; before = s.before; there = s.there; kept = record { meanwhile = steps_since; told = 0; text = (0, printed); left = at_last steps_there steps_since } })

-- and with it
pub script_survives : (m : Map) (steps : List Step) (taken taken' : Option (List ℕ)) (old mid now : Moments) → Opens limits m old mid → LeavesOnly (λ image. Stands limits image m) mid.now → Keeps m steps taken taken' mid now → Survives m steps taken taken' old now
script_survives m steps taken taken' old mid now (inl run) there kept = inr (record { at = mid; before = run; there = there; kept = kept })
script_survives m steps taken taken' old mid now (inr s) there kept = inr (record {
  at = s.at;
  before = s.before;
  there = s.there;
  kept = record { meanwhile = joined (weaker s.after (no_step m steps)) kept.meanwhile; told = kept.told; text = kept.text; left = kept.left };
})
