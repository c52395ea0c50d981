-- The path of the store goes on, and the links of what is left hold.
use Rattle.std.proofs.Common.{◌≡◌, ◌≢◌, inl, inr, ℕ, zero, suc, ◌+◌, ◌<◌, ◌≤◌, true, cond, length, refl, sym, ap, ◌∙◌, subst, arith, add-zero}
use Rattle.std.proofs.lemmas.Bool.{cases_eq, cases_lt, cases_order, ne_eqb, eq-eqb, both_ways, false_from_ne_true}
use Rattle.std.proofs.lemmas.List.Sums.{sum_by_push}
use Rattle.view_stack.specs.declared.slot.Slot.{Slot}
use Rattle.view_stack.specs.declared.slot.Kept.TheVariants.{Committed}
use Rattle.view_stack.specs.Slots.{TreeState}
use Rattle.view_stack.specs.Tree.{Has, slot_at, first_on, taken, added_committed, kept_at, live_at, is_live_kept, slot_weight, held_weight}
use Rattle.view_stack.specs.Links.{parent_at, next_at, prev_at, IsOpen, IsOn, IsRooted, IsLinked, IsSound}
use Rattle.view_stack.proofs.WrittenViews.{live_has, length-with_slot, slot_at-same, slot_at-other, slot_at-field, slot_at-more, slot_at-last, length-with_more}
use Rattle.view_stack.proofs.OneViewEnds.{weighs-let_go}
use Rattle.view_stack.proofs.ManyViewsEnd.{first_on-live}
use Rattle.view_stack.proofs.Siblings.{below_top}

-- ---- one view is committed

-- the only live view on the store
pub record IsOnly (t : TreeState) (n : ℕ) : Type 0 where
  pub on : IsOn t t.last n
  pub top : t.top ≡ n
  pub alone : next_at t n ≡ 0

module _ (t : TreeState) (n : ℕ) (link : IsLinked t) (only : IsOnly t n) where
  has : Has t n
  has = live_has t n only.on.live

  not_last : n ≢ t.last
  not_last e = both_ways (live_at t t.last) link.rooted.done (ap (live_at t) (sym e) ∙ only.on.live)

  one : (m : ℕ) → IsOn t t.last m → m ≡ n
  one m on = elim (cases_order m n) [ inl e ↦ e | inr apart ↦ elim apart [ inl l ↦ absurd (low l) | inr l ↦ absurd (omega (arith, l, below_top t m link on, only.top)) ] ]
    where
      low : m < n → ⊥
      low l = omega (arith, link.lower n m only.on.live (record { live = on.live; parent = on.parent ∙ sym only.on.parent }) l, only.alone, (live_has t m on.live).given)

  pub parent_same : (m : ℕ) → parent_at (taken t n) m ≡ parent_at t m
  parent_same m = slot_at-field (λ (x : Slot). x.parent) t n (record (slot_at t.slots n) { kept = Committed }) (live_has t n only.on.live) refl m

  next_same : (m : ℕ) → next_at (taken t n) m ≡ next_at t m
  next_same m = slot_at-field (λ (x : Slot). x.next) t n (record (slot_at t.slots n) { kept = Committed }) (live_has t n only.on.live) refl m

  prev_same : (m : ℕ) → prev_at (taken t n) m ≡ prev_at t m
  prev_same m = slot_at-field (λ (x : Slot). x.prev) t n (record (slot_at t.slots n) { kept = Committed }) (live_has t n only.on.live) refl m

  pub kept_other : (m : ℕ) → m ≢ n → kept_at (taken t n) m ≡ kept_at t m
  kept_other m apart = ap (λ (x : Slot). x.kept) (slot_at-other t n (record (slot_at t.slots n) { kept = Committed }) m (live_has t n only.on.live).given apart)

  pub kept_here : kept_at (taken t n) n ≡ Committed
  kept_here = ap (λ (x : Slot). x.kept) (slot_at-same t n (record (slot_at t.slots n) { kept = Committed }) (live_has t n only.on.live))

  first_same : (q : ℕ) → q ≢ t.last → first_on (taken t n) q ≡ first_on t q
  first_same q apart = elim (cases_eq q n) [ inl e ↦ here e | inr other ↦ there other ]
    where
      here : q ≡ n → first_on (taken t n) q ≡ first_on t q
      here e =
          ap (first_on (taken t n)) e
          ∙ (ap (λ b. cond b (slot_at t.slots n).first (slot_at (taken t n).slots n).first) (eq-eqb n n refl)
          ∙ (sym (first_on-live t n link.rooted only.on.live) ∙ ap (first_on t) (sym e)))

      there : q ≢ n → first_on (taken t n) q ≡ first_on t q
      there other =
          ap (λ b. cond b (slot_at t.slots n).first (slot_at (taken t n).slots q).first) (ne_eqb q n other)
          ∙ (slot_at-field (λ (x : Slot). x.first) t n (record (slot_at t.slots n) { kept = Committed }) (live_has t n only.on.live) refl q
          ∙ sym (ap (λ b. cond b t.top (slot_at t.slots q).first) (ne_eqb q t.last apart)))

  pub was_live : (m : ℕ) → live_at (taken t n) m ≡ true → (live_at t m ≡ true) × (m ≢ n)
  was_live m h = (ap is_live_kept (sym (kept_other m apart)) ∙ h, apart)
    where
      apart : m ≢ n
      apart e = both_ways (live_at (taken t n) n) (ap is_live_kept kept_here) (ap (live_at (taken t n)) (sym e) ∙ h)

  still_on : (q m : ℕ) → IsOn t q m → m ≢ n → IsOn (taken t n) q m
  still_on q m on apart = record { live = ap is_live_kept (kept_other m apart) ∙ on.live; parent = parent_same m ∙ on.parent }

  -- none is on what was the store
  off : (m : ℕ) → live_at t m ≡ true → m ≢ n → parent_at t m ≢ t.last
  off m h apart e = apart (one m (record { live = h; parent = e }))

  -- what is on another than that is another than the one that is committed
  other : (q m : ℕ) → q ≢ t.last → IsOn t q m → m ≢ n
  other q m apart on e = apart (sym on.parent ∙ (ap (parent_at t) e ∙ only.on.parent))

  rooted_on : IsRooted (taken t n)
  rooted_on = record {
    known = omega (arith, has.within, length-with_slot t n (record (slot_at t.slots n) { kept = Committed }));
    done = ap is_live_kept kept_here;
    below = λ m h. omega (arith, link.rooted.below m (record { given = h.given; within = omega (arith, h.within, length-with_slot t n (record (slot_at t.slots n) { kept = Committed })) }), parent_same m);
    stands = λ m h. subst (IsOpen (taken t n)) (sym (parent_same m)) (stands m (was_live m h).0 (was_live m h).1 (link.rooted.stands m (was_live m h).0));
  }
    where
      stands : (m : ℕ) → live_at t m ≡ true → m ≢ n → IsOpen t (parent_at t m) → IsOpen (taken t n) (parent_at t m)
      stands m h apart (inl e) = absurd (off m h apart e)
      stands m h apart (inr l) = elim (cases_eq (parent_at t m) n) [ inl e ↦ inl e | inr away ↦ inr (ap is_live_kept (kept_other (parent_at t m) away) ∙ l) ]

  highest_on : (m : ℕ) → live_at (taken t n) m ≡ true → m ≤ first_on (taken t n) (parent_at (taken t n) m)
  highest_on m h =
      let w = was_live m h in
      omega (arith, link.highest m w.0, ap (first_on (taken t n)) (parent_same m), first_same (parent_at t m) (off m w.0 w.1))

  first_at : (q : ℕ) → IsOpen (taken t n) q → first_on (taken t n) q ≢ 0 → IsOn (taken t n) q (first_on (taken t n) q)
  first_at q open' some = elim open' [
    | inl e ↦ go (λ s. not_last (sym e ∙ s)) (inr (ap (live_at t) e ∙ only.on.live))
    | inr l ↦ go (λ s. both_ways (live_at t t.last) link.rooted.done (ap (live_at t) (sym s) ∙ (was_live q l).0)) (inr (was_live q l).0)
  ]
    where
      go : q ≢ t.last → IsOpen t q → IsOn (taken t n) q (first_on (taken t n) q)
      go apart was =
          let e = first_same q apart in
          let on = link.first q was (λ z. some (e ∙ z)) in
          subst (IsOn (taken t n) q) (sym e) (still_on q (first_on t q) on (other q (first_on t q) apart on))

  next_at_on : (m : ℕ) → live_at (taken t n) m ≡ true → next_at (taken t n) m ≢ 0 → IsOn (taken t n) (parent_at (taken t n) m) (next_at (taken t n) m) × (next_at (taken t n) m < m)
  next_at_on m h some =
      let w = was_live m h in
      let e = next_same m in
      let on = link.next m w.0 (λ z. some (e ∙ z)) in (
        subst (IsOn (taken t n) (parent_at (taken t n) m)) (sym e) (subst (λ q. IsOn (taken t n) q (next_at t m)) (sym (parent_same m)) (still_on (parent_at t m) (next_at t m) on.0 (other (parent_at t m) (next_at t m) (off m w.0 w.1) on.0))),
        omega (arith, e, on.1),
      )

  lower_on : (c m : ℕ) → live_at (taken t n) c ≡ true → IsOn (taken t n) (parent_at (taken t n) c) m → m < c → m ≤ next_at (taken t n) c
  lower_on c m h on l =
      let w = was_live c h in
      omega (arith, link.lower c m w.0 (record { live = (was_live m on.live).0; parent = sym (parent_same m) ∙ (on.parent ∙ parent_same c) }) l, next_same c)

  prev_on : (m : ℕ) → live_at (taken t n) m ≡ true → prev_at (taken t n) m ≢ 0 → IsOn (taken t n) (parent_at (taken t n) m) (prev_at (taken t n) m) × (next_at (taken t n) (prev_at (taken t n) m) ≡ m)
  prev_on m h some =
      let w = was_live m h in
      let e = prev_same m in
      let on = link.prev m w.0 (λ z. some (e ∙ z)) in (
        subst (IsOn (taken t n) (parent_at (taken t n) m)) (sym e) (subst (λ q. IsOn (taken t n) q (prev_at t m)) (sym (parent_same m)) (still_on (parent_at t m) (prev_at t m) on.0 (other (parent_at t m) (prev_at t m) (off m w.0 w.1) on.0))),
        ap (next_at (taken t n)) e ∙ (next_same (prev_at t m) ∙ on.1),
      )

  none_on : (m : ℕ) → live_at (taken t n) m ≡ true → prev_at (taken t n) m ≡ 0 → first_on (taken t n) (parent_at (taken t n) m) ≡ m
  none_on m h z =
      let w = was_live m h in
      ap (first_on (taken t n)) (parent_same m) ∙ (first_same (parent_at t m) (off m w.0 w.1) ∙ link.none m w.0 (sym (prev_same m) ∙ z))

  pub linked_on : IsLinked (taken t n)
  linked_on = record { rooted = rooted_on; highest = highest_on; first = first_at; next = next_at_on; lower = lower_on; prev = prev_on; none = none_on }

pub sound_taken : (t : TreeState) (n : ℕ) → IsSound t → IsOnly t n → IsSound (taken t n)
sound_taken t n sound only = record {
  linked = linked_on t n sound.linked only;
  weighs = weighs-let_go t n Committed refl sound.weighs (live_has t n only.on.live);
}

-- ---- a direct batch

-- where none is live on the store, none is live at all
none_live_within : (most : ℕ) (t : TreeState) → IsLinked t → t.top ≡ 0 → (m : ℕ) → m ≤ most → live_at t m ≡ true → ⊥
none_live_within zero t link empty m l live = omega (arith, l, (live_has t m live).given)
none_live_within (suc most) t link empty m l live =
    go (link.rooted.stands m live) (λ a. none_live_within most t link empty (parent_at t m) (omega (arith, l, link.rooted.below m (live_has t m live))) a)
  where
    go : IsOpen t (parent_at t m) → (live_at t (parent_at t m) ≡ true → ⊥) → ⊥
    go (inl e) ih = omega (arith, below_top t m link (record { live = live; parent = e }), empty, (live_has t m live).given)
    go (inr a) ih = ih a

pub none_live : (t : TreeState) → IsLinked t → t.top ≡ 0 → (m : ℕ) → live_at t m ≡ true → ⊥
none_live t link empty m live = none_live_within m t link empty m (omega arith) live

pub direct_none : (t : TreeState) → IsLinked t → t.top ≡ 0 → (m : ℕ) → live_at (added_committed t) m ≡ true → ⊥
direct_none t link empty m live = elim (cases_lt (length t.slots) m) [ inl l ↦ new l | inr l ↦ old l ]
  where
    old : m ≤ length t.slots → ⊥
    old l = none_live t link empty m (ap (λ (x : Slot). is_live_kept x.kept) (sym (slot_at-more t _ m l)) ∙ live)

    new : length t.slots < m → ⊥
    new l =
        let within = (live_has (added_committed t) m live).within in
        let e : m ≡ length t.slots + 1 = omega (arith, l, within, length-with_more t (record { parent = t.last; first = 0; next = 0; prev = 0; kept = Committed })) in
        both_ways (live_at (added_committed t) m) (ap (λ (x : Slot). is_live_kept x.kept) (slot_at-last t (record { parent = t.last; first = 0; next = 0; prev = 0; kept = Committed }) m e)) live

pub sound_direct : (t : TreeState) → IsSound t → t.top ≡ 0 → IsSound (added_committed t)
sound_direct t sound empty = record {
  linked = record {
    rooted = record {
      known = omega (arith, long);
      done = false_from_ne_true _ (none (length t.slots + 1));
      below = below;
      stands = λ m h. absurd (none m h);
    };
    highest = λ m h. absurd (none m h);
    first = first;
    next = λ m h. absurd (none m h);
    lower = λ c m h. absurd (none c h);
    prev = λ m h. absurd (none m h);
    none = λ m h. absurd (none m h);
  };
  weighs = sound.weighs ∙ sym (sum_by_push slot_weight t.slots (record { parent = t.last; first = 0; next = 0; prev = 0; kept = Committed }) ∙ add-zero (held_weight t.slots));
}
  where
    none : (m : ℕ) → live_at (added_committed t) m ≡ true → ⊥
    none m live = direct_none t sound.linked empty m live

    long : length (added_committed t).slots ≡ length t.slots + 1
    long = length-with_more t (record { parent = t.last; first = 0; next = 0; prev = 0; kept = Committed })

    below : (m : ℕ) → Has (added_committed t) m → parent_at (added_committed t) m < m
    below m h = elim (cases_lt (length t.slots) m) [
      | inl l ↦ (let e : m ≡ length t.slots + 1 = omega (arith, l, h.within, long) in
          omega (arith, l, ap (λ (x : Slot). x.parent) (slot_at-last t (record { parent = t.last; first = 0; next = 0; prev = 0; kept = Committed }) m e), sound.linked.rooted.known))
      | inr l ↦ omega (arith, ap (λ (x : Slot). x.parent) (slot_at-more t (record { parent = t.last; first = 0; next = 0; prev = 0; kept = Committed }) m l), sound.linked.rooted.below m (record { given = h.given; within = l }))
    ]

    first : (q : ℕ) → IsOpen (added_committed t) q → first_on (added_committed t) q ≢ 0 → IsOn (added_committed t) q (first_on (added_committed t) q)
    first q (inl e) some = absurd (some (ap (λ b. cond b t.top (slot_at (added_committed t).slots q).first) (eq-eqb q (length t.slots + 1) e) ∙ empty))
    first q (inr l) some = absurd (none q l)
