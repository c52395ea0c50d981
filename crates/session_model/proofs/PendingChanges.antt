-- The changes that are pending are in the order of their keys, and within the limits.
use Rattle.std.proofs.Common.{ℕ, suc, List, [], ◌∷◌, None, Result, Ok, Err}
use Rattle.std.specs.List.{AllByRecursion}
use Rattle.std.specs.Result.{IfOk}
use Rattle.trie_model.specs.Maps.{Map, limits}
use Rattle.batch_model.specs.Batch.{Change, IsChange, AreRising, set_change}
use Rattle.batch_model.proofs.SetChanges.{set_changes_keep_batches}
use Rattle.session_model.specs.Session.{Session, Step, Stop, start, commit, step}
use Rattle.session_model.specs.Script.{then_play, play}
use Rattle.session_model.proofs.Outcomes.{Holds, of_commit, of_step}

-- changes with strictly increasing keys, within the limits
pub record ArePending (cs : List Change) : Type 0 where
  pub changes : AllByRecursion (IsChange limits) cs
  pub rising : AreRising None cs

pub none_pending : ArePending []
none_pending = record { changes = tt; rising = tt }

more_pending : (cs : List Change) (c : Change) → ArePending cs → IsChange limits c → ArePending (set_change cs c)
more_pending cs c h p = let both = set_changes_keep_batches limits cs c p h.changes h.rising in record { changes = both.0; rising = both.1 }

-- what is pending after a line
abbrev pub PendingAfter : Session × Step → Type 0
PendingAfter next = ArePending next.0.pending

-- after a commit nothing is pending
pub commit-pending : (w : ℕ) (s : Session) → IfOk (commit w s) PendingAfter
commit-pending w s = of_commit PendingAfter w s none_pending

pending_holds : (w : ℕ) (s : Session) → ArePending s.pending → Holds PendingAfter w s
pending_holds w s h = record {
  still = λ t none. h;
  pends = λ key value asks. more_pending s.pending (record { key = key; value = value }) h asks;
  commits = none_pending;
  drops = λ cause. none_pending;
  views = λ place may. none_pending;
  takes = λ n may. h;
  closes = λ n. h;
}

-- a line keeps them so
pub step-pending : (w n : ℕ) (s : Session) (line : List ℕ) → ArePending s.pending → IfOk (step w n s line) PendingAfter
step-pending w n s line h = of_step PendingAfter w s (pending_holds w s h) n line

-- and so do lines
pub play-pending : (w n : ℕ) (s : Session) (lines : List (List ℕ)) → ArePending s.pending → ArePending (play w n s lines).session.pending
play-pending w n s [] h = h
play-pending w n s (line ∷ lines) h = go (step w n s line) (step-pending w n s line h) (λ t. play-pending w (suc n) t lines)
  where
    go : (r : Result (Session × Step) Stop) → IfOk r PendingAfter → ((t : Session) → ArePending t.pending → ArePending (play w (suc n) t lines).session.pending)
        → ArePending (then_play s r (λ (t : Session). play w (suc n) t lines)).session.pending
    go (Err stop) p later = h
    go (Ok next) p later = later next.0 p

-- what is pending after lines from the first on
pub pending_changes : (w : ℕ) (m : Map) (lines : List (List ℕ)) → ArePending (play w 1 (start m) lines).session.pending
pending_changes w m lines = play-pending w 1 (start m) lines none_pending
