-- What an accepted change proof says of the map whose root it was checked against.
use Rattle.std.proofs.Common.{◌≡◌, ℕ, true, List, sym, ap, ◌∙◌, subst, inl, inr, None, Some}
use Rattle.std.specs.FinMap.{entries}
use Rattle.std.specs.List.{AllByRecursion}
use Rattle.base_model.specs.Bytes.{AreBytes}
use Rattle.base_model.specs.Member.{Member}
use Rattle.trie_model.specs.Maps.{Map, Limits, IsMap, IsPair}
use Rattle.trie_model.proofs.Entries.{member_of_get}
use Rattle.trie_model.proofs.KeySets.{All-of}
use Rattle.trie_model.proofs.Lists.{All-member}
use Rattle.trie_model.proofs.PartsOfValues.{All-append}
use Rattle.range_model.specs.Laws.{SlotsLieAsTheirKeys, BytesLieAsTheirBits}
use Rattle.range_model.specs.Ranges.{Range, IsRange, holds}
use Rattle.batch_model.specs.Batch.{Change, after_batch}
use Rattle.proof_model.specs.ChangeLaws.{IsChangeClaim, AcceptedChangesAreTrue}
use Rattle.proof_model.specs.ChangeProofs.{ChangeProof, changes_reach, change_claim}
use Rattle.proof_model.specs.Paths.{IsProofNode}
use Rattle.proof_model.specs.Proofs.{Pair}
use Rattle.proof_model.specs.RangeLaws.{IsKey}
use Rattle.proof_model.specs.RangeProofs.{pairs_in}
use Rattle.proof_model.specs.SoundProofs.{LiesIn, IsClaim}
use Rattle.proof_model.proofs.AcceptedClaims.{accepted_claims_are_true}
use Rattle.proof_model.proofs.AcceptedRanges.{none_unsorted, none_outside}
use Rattle.proof_model.proofs.ChangedMaps.{pairs_in-of, key_after}
use Rattle.proof_model.proofs.ListedChanges.{AreOrdered, ordered, inside, reach-of, reach-IsRange}
use Rattle.proof_model.proofs.TrueRanges.{pairs_in-AreSorted}

-- the keys of a map with changes made are bytes
module _ (l : Limits) (local : Map) (is_local : IsMap l local) (cs : List Change) (keys : (c : Change) → Member cs c → IsKey l c.key) where
  pub bytes_after : (r : Range) (e : Pair) → Member (pairs_in (after_batch local cs) r) e → AreBytes e.0
  bytes_after r e n = elim (key_after local cs e.0 e.1 (pairs_in-of (after_batch local cs) r e n).0) [
    | inl x ↦ subst AreBytes x.2 (keys x.0 x.1).bytes
    | inr g ↦ (All-member (IsPair l) (entries local) (e.0, e.1) is_local (member_of_get local e.0 e.1 g)).key_bytes
  ]

module _ (l : Limits) (w : ℕ) (asked : Range) (local : Map) (p : ChangeProof) (range : IsRange l asked) (is_local : IsMap l local) (h : IsChangeClaim l w p) where
  pub keys_of_changes : (c : Change) → Member p.changes c → IsKey l c.key
  keys_of_changes c n = All-member (λ (c : Change). IsKey l c.key) p.changes c h.listed n

  pub change_claim-IsClaim : AreOrdered p.changes → ((c : Change) → Member p.changes c → holds asked c.key ≡ true) → IsClaim l w (change_claim asked local p)
  change_claim-IsClaim rises within =
      let reach = changes_reach asked p.cut p.changes in
      let after = after_batch local p.changes in
      record {
        range = reach-IsRange l asked p.cut p.changes range keys_of_changes within (reach-of asked p.cut p.changes rises);
        listed = All-of (LiesIn reach) (pairs_in after reach) (λ e n. record { bytes = bytes_after l local is_local p.changes keys_of_changes reach e n; inside = (pairs_in-of after reach e n).1 });
        sorted = pairs_in-AreSorted after reach;
        shown = All-append (IsProofNode w) p.start p.end h.start h.end;
      }

pub accepted_changes_are_true : SlotsLieAsTheirKeys → BytesLieAsTheirBits → AcceptedChangesAreTrue
accepted_changes_are_true slots bits l w asked local p m ww range h is_local is_map e =
    let claim = change_claim asked local p in
    let rises = ordered p.changes (none_unsorted w asked _ claim e) in
    let within = inside asked p.changes (none_outside w asked _ claim e) in
    accepted_claims_are_true slots bits l w asked claim m ww (change_claim-IsClaim l w asked local p range is_local h rises within) is_map e
