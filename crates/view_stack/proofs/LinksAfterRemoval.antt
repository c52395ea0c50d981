-- A live view on which no live one stands is taken out, and the links of the others hold.
use Rattle.std.proofs.Common.{◌≡◌, ◌≢◌, ◌⊎◌, inl, inr, ℕ, ◌<◌, ◌≤◌, true, false, cond, nat_eq, length, refl, sym, ap, ◌∙◌, subst, arith}
use Rattle.std.proofs.lemmas.Bool.{cases_eq, cases_order, ne_eqb, both_ways}
use Rattle.view_stack.specs.declared.slot.Slot.{Slot}
use Rattle.view_stack.specs.declared.slot.Kept.{Kept}
use Rattle.view_stack.specs.Slots.{TreeState}
use Rattle.view_stack.specs.Tree.{Has, slot_at, with_slot, first_on, kept_at, live_at, is_live_kept, let_go, unlinked}
use Rattle.view_stack.specs.Links.{parent_at, next_at, prev_at, IsOpen, IsOn, IsRooted, IsLinked}
use Rattle.view_stack.proofs.WrittenViews.{live_has, length-with_slot, slot_at-same, slot_at-other, slot_at-field}
use Rattle.view_stack.proofs.RelinkedViews.{Rewired, rewired}

-- ---- links before it

-- at most one view leads on to another
next_one : (t : TreeState) (n c k : ℕ) → IsLinked t → live_at t n ≡ true → live_at t c ≡ true → parent_at t c ≡ parent_at t n → next_at t n ≡ k → next_at t c ≡ k → k ≢ 0 → c ≡ n
next_one t n c k link live live_c same e f some = elim (cases_order c n) [ inl e ↦ e | inr apart ↦ elim apart [ inl l ↦ absurd (low l) | inr l ↦ absurd (high l) ] ]
  where
    low : c < n → ⊥
    low l =
        let a = link.lower n c live (record { live = live_c; parent = same }) l in
        let b = (link.next c live_c (λ z. some (sym f ∙ z))).1 in
        omega (arith, a, b, e, f)

    high : n < c → ⊥
    high l =
        let a = link.lower c n live_c (record { live = live; parent = sym same }) l in
        let b = (link.next n live (λ z. some (sym e ∙ z))).1 in
        omega (arith, a, b, e, f)

-- what leads to the next one is the view itself
before_next : (t : TreeState) (n : ℕ) → IsLinked t → live_at t n ≡ true → next_at t n ≢ 0 → prev_at t (next_at t n) ≡ n
before_next t n link live some = elim (cases_eq (prev_at t (next_at t n)) 0) [ inl z ↦ absurd (first z) | inr before ↦ found before ]
  where
    first : prev_at t (next_at t n) ≡ 0 → ⊥
    first z =
        let on = link.next n live some in
        let top = link.none (next_at t n) on.0.live z in
        let high = link.highest n live in
        omega (arith, high, top, on.1, ap (first_on t) on.0.parent)

    found : prev_at t (next_at t n) ≢ 0 → prev_at t (next_at t n) ≡ n
    found before =
        let on = link.next n live some in
        let back = link.prev (next_at t n) on.0.live before in
        next_one t n (prev_at t (next_at t n)) (next_at t n) link live back.0.live (back.0.parent ∙ on.0.parent) refl back.1 some

-- ---- what is taken out

pub record TakenOut (t u : TreeState) (n : ℕ) (mark : Kept) : Type 0 where
  pub parent : (m : ℕ) → parent_at u m ≡ parent_at t m
  pub count : length u.slots ≡ length t.slots
  pub last : u.last ≡ t.last
  pub capacity : u.capacity ≡ t.capacity
  pub here : kept_at u n ≡ mark
  pub others : (m : ℕ) → m ≢ n → kept_at u m ≡ kept_at t m
  pub before : prev_at t n ≢ 0 → next_at u (prev_at t n) ≡ next_at t n
  pub next : (m : ℕ) → (prev_at t n ≢ 0 → m ≢ prev_at t n) → next_at u m ≡ next_at t m
  pub after : next_at t n ≢ 0 → prev_at u (next_at t n) ≡ prev_at t n
  pub prev : (m : ℕ) → m ≢ next_at t n → prev_at u m ≡ prev_at t m
  pub highest : prev_at t n ≡ 0 → first_on u (parent_at t n) ≡ next_at t n
  pub first : (q : ℕ) → (prev_at t n ≡ 0 → q ≢ parent_at t n) → first_on u q ≡ first_on t q

pub rewired_live : (t : TreeState) (n : ℕ) → IsLinked t → live_at t n ≡ true → Rewired t (unlinked t n) n
rewired_live t n link live = rewired t n (λ z. known (link.rooted.stands n live)) (λ some. live_has t (prev_at t n) (link.prev n live some).0.live) (λ some. live_has t (next_at t n) (link.next n live some).0.live)
  where
    known : IsOpen t (parent_at t n) → (parent_at t n ≡ t.last) ⊎ Has t (parent_at t n)
    known (inl e) = inl e
    known (inr l) = inr (live_has t (parent_at t n) l)

pub taken_out : (t : TreeState) (n : ℕ) (mark : Kept) → IsLinked t → live_at t n ≡ true → TakenOut t (let_go (unlinked t n) n mark) n mark
taken_out t n mark link live =
    let r = rewired_live t n link live in
    let h = live_has t n live in
    let v : TreeState = unlinked t n in
    let s : Slot = record (slot_at v.slots n) { kept = mark } in
    let has : Has v n = record { given = h.given; within = omega (arith, h.within, r.views.count) } in
    let first : (q : ℕ) → first_on (with_slot v n s) q ≡ first_on v q = λ q. ap (λ x. cond (nat_eq q v.last) v.top x) (slot_at-field (λ (x : Slot). x.first) v n s has refl q) in
    let next : (m : ℕ) → next_at (with_slot v n s) m ≡ next_at v m = slot_at-field (λ (x : Slot). x.next) v n s has refl in
    let prev : (m : ℕ) → prev_at (with_slot v n s) m ≡ prev_at v m = slot_at-field (λ (x : Slot). x.prev) v n s has refl in
    record {
      parent = λ m. slot_at-field (λ (x : Slot). x.parent) v n s has refl m ∙ r.views.parent m;
      count = length-with_slot v n s ∙ r.views.count;
      last = r.views.last;
      capacity = r.views.capacity;
      here = ap (λ (x : Slot). x.kept) (slot_at-same v n s has);
      others = λ m apart. ap (λ (x : Slot). x.kept) (slot_at-other v n s m has.given apart) ∙ r.views.kept m;
      before = λ some. next (prev_at t n) ∙ r.before some;
      next = λ m apart. next m ∙ r.next m apart;
      after = λ some. prev (next_at t n) ∙ r.after some;
      prev = λ m apart. prev m ∙ r.prev m apart;
      highest = λ z. first (parent_at t n) ∙ r.highest z;
      first = λ q apart. first q ∙ r.first q apart;
    }

-- ---- links after it

module _ (t u : TreeState) (n : ℕ) (mark : Kept) (link : IsLinked t) (live : live_at t n ≡ true) (alone : (slot_at t.slots n).first ≡ 0) (dead : is_live_kept mark ≡ false) (out : TakenOut t u n mark) where
  -- what is live afterwards was live, and is another one
  was_live : (m : ℕ) → live_at u m ≡ true → (live_at t m ≡ true) × (m ≢ n)
  was_live m h = (ap is_live_kept (sym (out.others m apart)) ∙ h, apart)
    where
      apart : m ≢ n
      apart e = both_ways (live_at u n) (ap is_live_kept out.here ∙ dead) (ap (live_at u) (sym e) ∙ h)

  still_live : (m : ℕ) → live_at t m ≡ true → m ≢ n → live_at u m ≡ true
  still_live m h apart = ap is_live_kept (out.others m apart) ∙ h

  still_on : (p m : ℕ) → IsOn t p m → m ≢ n → IsOn u p m
  still_on p m on apart = record { live = still_live m on.live apart; parent = out.parent m ∙ on.parent }

  was_on : (p m : ℕ) → IsOn u p m → IsOn t p m
  was_on p m on = record { live = (was_live m on.live).0; parent = sym (out.parent m) ∙ on.parent }

  was_open : (p : ℕ) → IsOpen u p → IsOpen t p
  was_open p (inl e) = inl (e ∙ out.last)
  was_open p (inr l) = inr (was_live p l).0

  -- the view is not the one that was committed last
  not_last : n ≢ t.last
  not_last e = both_ways (live_at t t.last) link.rooted.done (ap (live_at t) (sym e) ∙ live)

  -- no live view was made on it
  childless : (m : ℕ) → live_at t m ≡ true → parent_at t m ≢ n
  childless m h e =
      let high = link.highest m h in
      let none : first_on t n ≡ 0 = ap (λ b. cond b t.top (slot_at t.slots n).first) (ne_eqb n t.last not_last) ∙ alone in
      absurd (omega (arith, high, ap (first_on t) e, none, (live_has t m h).given))

  rooted_still : IsRooted u
  rooted_still = record {
    known = omega (arith, link.rooted.known, out.last, out.count);
    done = ap (live_at u) out.last ∙ (ap is_live_kept (out.others t.last (λ e. not_last (sym e))) ∙ link.rooted.done);
    below = λ m h. omega (arith, link.rooted.below m (record { given = h.given; within = omega (arith, h.within, out.count) }), out.parent m);
    stands = λ m h. stands m (was_live m h).0;
  }
    where
      stands : (m : ℕ) → live_at t m ≡ true → IsOpen u (parent_at u m)
      stands m h = subst (IsOpen u) (sym (out.parent m)) (elim (link.rooted.stands m h) as (λ _. IsOpen u (parent_at t m)) [ inl e ↦ inl (e ∙ sym out.last) | inr l ↦ inr (still_live (parent_at t m) l (childless m h)) ])

  -- if it was the highest one, the next one is now, and no other parent has another
  first_now : (q : ℕ) (P : ℕ → Type 0) → (prev_at t n ≡ 0 → q ≡ parent_at t n → P (next_at t n)) → ((prev_at t n ≡ 0 → q ≢ parent_at t n) → P (first_on t q)) → P (first_on u q)
  first_now q P changed same = elim (cases_eq (prev_at t n) 0) [ inl z ↦ by_parent z | inr some ↦ subst P (sym (out.first q (λ z. absurd (some z)))) (same (λ z. absurd (some z))) ]
    where
      by_parent : prev_at t n ≡ 0 → P (first_on u q)
      by_parent z = elim (cases_eq q (parent_at t n)) [
        | inl e ↦ subst P (sym (ap (first_on u) e ∙ out.highest z)) (changed z e)
        | inr apart ↦ subst P (sym (out.first q (λ _. apart))) (same (λ _. apart))
      ]

  highest_still : (m : ℕ) → live_at u m ≡ true → m ≤ first_on u (parent_at u m)
  highest_still m h = subst (λ q. m ≤ first_on u q) (sym (out.parent m)) (first_now (parent_at t m) (λ f. m ≤ f) below (λ _. link.highest m (was_live m h).0))
    where
      below : prev_at t n ≡ 0 → parent_at t m ≡ parent_at t n → m ≤ next_at t n
      below z e =
          let top = link.none n live z in
          let high = link.highest m (was_live m h).0 in
          let apart = (was_live m h).1 in
          link.lower n m live (record { live = (was_live m h).0; parent = e }) (omega (arith, top, high, ap (first_on t) e, apart))

  first_still : (q : ℕ) → IsOpen u q → first_on u q ≢ 0 → IsOn u q (first_on u q)
  first_still q open' = first_now q (λ f. f ≢ 0 → IsOn u q f) changed same
    where
      changed : prev_at t n ≡ 0 → q ≡ parent_at t n → next_at t n ≢ 0 → IsOn u q (next_at t n)
      changed z e some =
          let on = link.next n live some in
          still_on q (next_at t n) (record { live = on.0.live; parent = on.0.parent ∙ sym e }) (λ f. absurd (omega (arith, on.1, f)))

      same : (prev_at t n ≡ 0 → q ≢ parent_at t n) → first_on t q ≢ 0 → IsOn u q (first_on t q)
      same apart some = still_on q (first_on t q) on other
        where
          on : IsOn t q (first_on t q)
          on = link.first q (was_open q open') some

          other : first_on t q ≢ n
          other e =
              let here : q ≡ parent_at t n = sym on.parent ∙ ap (parent_at t) e in
              let back = link.prev n live (λ z. apart z here) in
              let high = link.highest (prev_at t n) back.0.live in
              let down = (link.next (prev_at t n) back.0.live (λ z. absurd (omega (arith, back.1, z, (live_has t n live).given)))).1 in
              absurd (omega (arith, high, down, back.1, e, ap (first_on t) (back.0.parent ∙ sym here)))

  -- what led to it leads on now, and the others are as before
  next_now : (m : ℕ) (P : ℕ → Type 0) → (prev_at t n ≢ 0 → m ≡ prev_at t n → P (next_at t n)) → ((prev_at t n ≢ 0 → m ≢ prev_at t n) → P (next_at t m)) → P (next_at u m)
  next_now m P changed same = elim (cases_eq (prev_at t n) 0) [ inl z ↦ subst P (sym (out.next m (λ some. absurd (some z)))) (same (λ some. absurd (some z))) | inr some ↦ by_place some ]
    where
      by_place : prev_at t n ≢ 0 → P (next_at u m)
      by_place some = elim (cases_eq m (prev_at t n)) [
        | inl e ↦ subst P (sym (ap (next_at u) e ∙ out.before some)) (changed some e)
        | inr apart ↦ subst P (sym (out.next m (λ _. apart))) (same (λ _. apart))
      ]

  next_still : (m : ℕ) → live_at u m ≡ true → next_at u m ≢ 0 → IsOn u (parent_at u m) (next_at u m) × (next_at u m < m)
  next_still m h = subst (λ q. next_at u m ≢ 0 → IsOn u q (next_at u m) × (next_at u m < m)) (sym (out.parent m)) (next_now m (λ k. k ≢ 0 → IsOn u (parent_at t m) k × (k < m)) changed same)
    where
      changed : prev_at t n ≢ 0 → m ≡ prev_at t n → next_at t n ≢ 0 → IsOn u (parent_at t m) (next_at t n) × (next_at t n < m)
      changed before e some =
          let back = link.prev n live before in
          let on = link.next n live some in
          let down = (link.next (prev_at t n) back.0.live (λ z. absurd (omega (arith, back.1, z, (live_has t n live).given)))).1 in (
            still_on (parent_at t m) (next_at t n) (record { live = on.0.live; parent = on.0.parent ∙ (sym back.0.parent ∙ ap (parent_at t) (sym e)) }) (λ f. absurd (omega (arith, on.1, f))),
            omega (arith, on.1, down, back.1, e),
          )

      same : (prev_at t n ≢ 0 → m ≢ prev_at t n) → next_at t m ≢ 0 → IsOn u (parent_at t m) (next_at t m) × (next_at t m < m)
      same apart some = (still_on (parent_at t m) (next_at t m) on.0 other, on.1)
        where
          on : IsOn t (parent_at t m) (next_at t m) × (next_at t m < m)
          on = link.next m (was_live m h).0 some

          same_parent : next_at t m ≡ n → parent_at t n ≡ parent_at t m
          same_parent e = ap (parent_at t) (sym e) ∙ on.0.parent

          is_first : next_at t m ≡ n → prev_at t n ≡ 0 → ⊥
          is_first e z =
              let top = link.none n live z in
              let high = link.highest m (was_live m h).0 in
              omega (arith, top, high, on.1, e, ap (first_on t) (same_parent e))

          is_later : next_at t m ≡ n → prev_at t n ≢ 0 → ⊥
          is_later e before =
              let back = link.prev n live before in
              let given = (live_has t n live).given in
              let one : m ≡ prev_at t n = next_one t (prev_at t n) m n link back.0.live (was_live m h).0 (sym (same_parent e) ∙ sym back.0.parent) back.1 e (λ z. absurd (omega (arith, z, given))) in
              apart before one

          other : next_at t m ≢ n
          other e = elim (cases_eq (prev_at t n) 0) [ inl z ↦ is_first e z | inr before ↦ is_later e before ]

  lower_still : (k m : ℕ) → live_at u k ≡ true → IsOn u (parent_at u k) m → m < k → m ≤ next_at u k
  lower_still k m h on l = next_now k (λ x. m ≤ x) changed (λ _. down)
    where
      was : IsOn t (parent_at t k) m
      was = was_on (parent_at t k) m (subst (λ q. IsOn u q m) (out.parent k) on)

      down : m ≤ next_at t k
      down = link.lower k m (was_live k h).0 was l

      changed : prev_at t n ≢ 0 → k ≡ prev_at t n → m ≤ next_at t n
      changed before e =
          let back = link.prev n live before in
          let apart = (was_live m on.live).1 in
          link.lower n m live (record { live = was.live; parent = was.parent ∙ (ap (parent_at t) e ∙ back.0.parent) }) (omega (arith, down, ap (next_at t) e, back.1, apart))

  prev_still : (m : ℕ) → live_at u m ≡ true → prev_at u m ≢ 0 → IsOn u (parent_at u m) (prev_at u m) × (next_at u (prev_at u m) ≡ m)
  prev_still m h = subst (λ q. prev_at u m ≢ 0 → IsOn u q (prev_at u m) × (next_at u (prev_at u m) ≡ m)) (sym (out.parent m)) (elim (cases_eq m (next_at t n)) [ inl e ↦ changed e | inr apart ↦ same apart ])
    where
      given : 0 < m
      given = (live_has t m (was_live m h).0).given

      changed : m ≡ next_at t n → prev_at u m ≢ 0 → IsOn u (parent_at t m) (prev_at u m) × (next_at u (prev_at u m) ≡ m)
      changed e = subst (λ x. x ≢ 0 → IsOn u (parent_at t m) x × (next_at u x ≡ m)) (sym (ap (prev_at u) e ∙ out.after (λ z. absurd (omega (arith, e, z, given))))) (λ before.
          let back = link.prev n live before in
          let on = link.next n live (λ z. absurd (omega (arith, e, z, given))) in
          let down = (link.next (prev_at t n) back.0.live (λ z. absurd (omega (arith, back.1, z, (live_has t n live).given)))).1 in (
            still_on (parent_at t m) (prev_at t n) (record { live = back.0.live; parent = back.0.parent ∙ (sym on.0.parent ∙ ap (parent_at t) (sym e)) }) (λ f. absurd (omega (arith, down, back.1, f))),
            out.before before ∙ sym e,
          ))

      same : m ≢ next_at t n → prev_at u m ≢ 0 → IsOn u (parent_at t m) (prev_at u m) × (next_at u (prev_at u m) ≡ m)
      same apart = subst (λ x. x ≢ 0 → IsOn u (parent_at t m) x × (next_at u x ≡ m)) (sym (out.prev m apart)) (λ before.
          let back = link.prev m (was_live m h).0 before in (
            still_on (parent_at t m) (prev_at t m) back.0 (λ f. apart (sym back.1 ∙ ap (next_at t) f)),
            out.next (prev_at t m) (λ some e. (was_live m h).1 (sym back.1 ∙ (ap (next_at t) e ∙ (link.prev n live some).1))) ∙ back.1,
          ))

  none_still : (m : ℕ) → live_at u m ≡ true → prev_at u m ≡ 0 → first_on u (parent_at u m) ≡ m
  none_still m h z = ap (first_on u) (out.parent m) ∙ elim (cases_eq m (next_at t n)) [ inl e ↦ changed e | inr apart ↦ same apart ]
    where
      changed : m ≡ next_at t n → first_on u (parent_at t m) ≡ m
      changed e =
          let given : 0 < m = (live_has t m (was_live m h).0).given in
          let some : next_at t n ≢ 0 = λ zero. absurd (omega (arith, e, zero, given)) in
          let on = link.next n live some in
          let top : prev_at t n ≡ 0 = sym (out.after some) ∙ (ap (prev_at u) (sym e) ∙ z) in
          ap (first_on u) (ap (parent_at t) e ∙ on.0.parent) ∙ (out.highest top ∙ sym e)

      same : m ≢ next_at t n → first_on u (parent_at t m) ≡ m
      same apart =
          let top : first_on t (parent_at t m) ≡ m = link.none m (was_live m h).0 (sym (out.prev m apart) ∙ z) in
          out.first (parent_at t m) (λ zero e. (was_live m h).1 (sym top ∙ (ap (first_on t) e ∙ link.none n live zero))) ∙ top

  pub linked_without : IsLinked u
  linked_without = record { rooted = rooted_still; highest = highest_still; first = first_still; next = next_still; lower = lower_still; prev = prev_still; none = none_still }
