-- One live view ends on which no live one stands.
use Rattle.std.proofs.Common.{◌≡◌, ◌⊎◌, inl, inr, ℕ, ◌≤◌, true, false, refl, sym, ap, ◌∙◌, arith}
use Rattle.std.proofs.lemmas.Bool.{cases_eq}
use Rattle.view_stack.specs.declared.slot.Kept.{Kept}
use Rattle.view_stack.specs.declared.slot.Kept.TheVariants.{Live, Committed, Invalid, Closed}
use Rattle.view_stack.specs.Slots.{TreeState}
use Rattle.view_stack.specs.Tree.{Has, slot_at, kept_at, live_at, is_live_kept, kept_weight, held_weight, let_go, unlinked}
use Rattle.view_stack.specs.Links.{IsLinked, IsSound}
use Rattle.view_stack.specs.EndedViews.{Ends}
use Rattle.view_stack.proofs.WrittenViews.{live_has, same_parents}
use Rattle.view_stack.proofs.Weights.{held_same, held-with_slot}
use Rattle.view_stack.proofs.LinksAfterRemoval.{TakenOut, taken_out, rewired_live, linked_without}

pub dead_weight : (k : Kept) → is_live_kept k ≡ false → kept_weight k ≡ 0
dead_weight (Live b) h = absurd (cc)
dead_weight Committed h = refl
dead_weight Invalid h = refl
dead_weight Closed h = refl

-- what is held of one weighs no more than all
pub kept_within : (t : TreeState) (n : ℕ) → t.weight ≡ held_weight t.slots → Has t n → kept_weight (kept_at t n) ≤ t.weight
kept_within t n weighs h = omega (arith, weighs, held-with_slot t n (record (slot_at t.slots n) { kept = Invalid }) h)

-- what is let go weighs no more
pub weighs-let_go : (t : TreeState) (n : ℕ) (mark : Kept) → is_live_kept mark ≡ false → t.weight ≡ held_weight t.slots → Has t n → (let_go t n mark).weight ≡ held_weight (let_go t n mark).slots
weighs-let_go t n mark dead weighs h = omega (arith, weighs, dead_weight mark dead, held-with_slot t n (record (slot_at t.slots n) { kept = mark }) h)

pub has_unlinked : (t : TreeState) (n : ℕ) → IsLinked t → live_at t n ≡ true → Has (unlinked t n) n
has_unlinked t n link live = let h = live_has t n live in record { given = h.given; within = omega (arith, h.within, (rewired_live t n link live).views.count) }

pub weighs-unlinked : (t : TreeState) (n : ℕ) → IsSound t → live_at t n ≡ true → (unlinked t n).weight ≡ held_weight (unlinked t n).slots
weighs-unlinked t n sound live =
    let r = (rewired_live t n sound.linked live).views in
    r.weight ∙ (sound.weighs ∙ sym (held_same t (unlinked t n) r.count r.kept))

pub sound_without : (t : TreeState) (n : ℕ) (mark : Kept) → is_live_kept mark ≡ false → IsSound t → live_at t n ≡ true → (slot_at t.slots n).first ≡ 0 → IsSound (let_go (unlinked t n) n mark)
sound_without t n mark dead sound live alone = record {
  linked = linked_without t (let_go (unlinked t n) n mark) n mark sound.linked live alone dead (taken_out t n mark sound.linked live);
  weighs = weighs-let_go (unlinked t n) n mark dead (weighs-unlinked t n sound live) (has_unlinked t n sound.linked live);
}

pub ends_one : (t : TreeState) (n : ℕ) (mark : Kept) → IsLinked t → live_at t n ≡ true → Ends mark (λ m. m ≡ n) t (let_go (unlinked t n) n mark)
ends_one t n mark link live =
    let out = taken_out t n mark link live in
    record {
      parents_stay = same_parents t (let_go (unlinked t n) n mark) out.count out.parent;
      last = out.last;
      capacity = out.capacity;
      kept = kept out;
    }
  where
    kept : TakenOut t (let_go (unlinked t n) n mark) n mark → (m : ℕ) → (kept_at (let_go (unlinked t n) n mark) m ≡ kept_at t m) ⊎ ((live_at t m ≡ true) × (m ≡ n) × (kept_at (let_go (unlinked t n) n mark) m ≡ mark))
    kept out m = elim (cases_eq m n) [
      | inl e ↦ inr (ap (live_at t) e ∙ live, e, ap (kept_at (let_go (unlinked t n) n mark)) e ∙ out.here)
      | inr apart ↦ inl (out.others m apart)
    ]
