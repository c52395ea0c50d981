-- A live view more, and the links with it.
use Rattle.std.proofs.Common.{◌≡◌, ◌≢◌, ◌⊎◌, inl, inr, ℕ, ◌+◌, ◌<◌, ◌≤◌, Bool, true, false, cond, nat_eq, length, refl, sym, ap, ◌∙◌, subst, arith}
use Rattle.std.proofs.lemmas.Bool.{cases_eq, cases_lt, ne_eqb, eqb-true, eqb-false}
use Rattle.std.proofs.lemmas.List.Sums.{sum_by_push}
use Rattle.view_stack.specs.declared.slot.Slot.{Slot}
use Rattle.view_stack.specs.declared.slot.Kept.{Kept}
use Rattle.view_stack.specs.Slots.{TreeState}
use Rattle.view_stack.specs.Tree.{Has, slot_at, first_on, with_first, with_prev, with_more, linked_to, added, kept_at, live_at, is_live_kept, kept_weight, slot_weight}
use Rattle.view_stack.specs.Links.{parent_at, next_at, prev_at, IsOpen, IsOn, IsRooted, IsLinked, IsSound}
use Rattle.view_stack.proofs.WrittenViews.{live_has, open_within, slot_at-more, slot_at-last, length-with_more}
use Rattle.view_stack.proofs.Weights.{held_same}
use Rattle.view_stack.proofs.RelinkedViews.{SameViews, FirstSet, first_set, prev_set, views_then}

-- ---- the links of the others

pub record LinkedTo (t u : TreeState) (p n : ℕ) : Type 0 where
  pub views : SameViews t u
  pub next : (m : ℕ) → next_at u m ≡ next_at t m
  pub here : first_on u p ≡ n
  pub others : (q : ℕ) → q ≢ p → first_on u q ≡ first_on t q
  pub after : first_on t p ≢ 0 → prev_at u (first_on t p) ≡ n
  pub prev : (m : ℕ) → m ≢ first_on t p → prev_at u m ≡ prev_at t m

pub linked_to_is : (t : TreeState) (p n : ℕ) → (p ≡ t.last) ⊎ Has t p → (first_on t p ≢ 0 → Has t (first_on t p)) → LinkedTo t (linked_to t p n) p n
linked_to_is t p n known next_known = go (with_first t p n) (first_set t p n known) (nat_eq (first_on t p) 0) refl
  where
    go : (u : TreeState) → FirstSet t u p n → (b : Bool) → nat_eq (first_on t p) 0 ≡ b → LinkedTo t (cond b u (with_prev u (first_on t p) n)) p n
    go u f true e =
        let none = eqb-true (first_on t p) 0 e in
        record { views = f.views; next = f.next; here = f.here; others = f.others; after = λ some. absurd (some none); prev = λ m apart. f.prev m }
    go u f false e =
        let h = next_known (eqb-false (first_on t p) 0 e) in
        let g = prev_set u (first_on t p) n (record { given = h.given; within = omega (arith, h.within, f.views.count) }) in
        record {
          views = views_then t u _ f.views g.views;
          next = λ m. g.next m ∙ f.next m;
          here = g.first p ∙ f.here;
          others = λ q apart. g.first q ∙ f.others q apart;
          after = λ z. g.here;
          prev = λ m apart. g.others m apart ∙ f.prev m;
        }

-- ---- with the new one

pub record Added (t u : TreeState) (p n : ℕ) (k : Kept) : Type 0 where
  pub count : length u.slots ≡ n
  pub last : u.last ≡ t.last
  pub capacity : u.capacity ≡ t.capacity
  pub parent : (m : ℕ) → m < n → parent_at u m ≡ parent_at t m
  pub kept : (m : ℕ) → m < n → kept_at u m ≡ kept_at t m
  pub next : (m : ℕ) → m < n → next_at u m ≡ next_at t m
  pub prev : (m : ℕ) → m < n → m ≢ first_on t p → prev_at u m ≡ prev_at t m
  pub after : first_on t p ≢ 0 → prev_at u (first_on t p) ≡ n
  pub here : first_on u p ≡ n
  pub others : (q : ℕ) → q < n → q ≢ p → first_on u q ≡ first_on t q
  pub new_parent : parent_at u n ≡ p
  pub new_kept : kept_at u n ≡ k
  pub new_next : next_at u n ≡ first_on t p
  pub new_prev : prev_at u n ≡ 0
  pub new_first : first_on u n ≡ 0

known_open : (t : TreeState) (p : ℕ) → IsOpen t p → (p ≡ t.last) ⊎ Has t p
known_open t p (inl e) = inl e
known_open t p (inr l) = inr (live_has t p l)

first_has : (t : TreeState) (p : ℕ) → IsLinked t → IsOpen t p → first_on t p ≢ 0 → Has t (first_on t p)
first_has t p link on some = live_has t (first_on t p) (link.first p on some).live

pub linked_to_open : (t : TreeState) (p n : ℕ) → IsLinked t → IsOpen t p → LinkedTo t (linked_to t p n) p n
linked_to_open t p n link on = linked_to_is t p n (known_open t p on) (first_has t p link on)

pub added_is : (t : TreeState) (p : ℕ) (k : Kept) → IsLinked t → IsOpen t p → Added t (added t p k) p (length t.slots + 1) k
added_is t p k link on =
    let n : ℕ = length t.slots + 1 in
    let v : TreeState = linked_to t p n in
    let f = linked_to_open t p n link on in
    let s : Slot = record { parent = p; first = 0; next = first_on t p; prev = 0; kept = k } in
    let low : (m : ℕ) → m < n → slot_at (with_more v s).slots m ≡ slot_at v.slots m = λ m l. slot_at-more v s m (omega (arith, l, f.views.count)) in
    let new : slot_at (with_more v s).slots n ≡ s = slot_at-last v s n (omega (arith, f.views.count)) in
    let old_last : n ≢ v.last = λ e. absurd (omega (arith, e, f.views.last, link.rooted.known)) in
    let inside : p < n = omega (arith, open_within t p link.rooted.known on) in
    record {
      count = length-with_more v s ∙ ap (λ l. l + 1) f.views.count;
      last = f.views.last;
      capacity = f.views.capacity;
      parent = λ m l. ap (λ (x : Slot). x.parent) (low m l) ∙ f.views.parent m;
      kept = λ m l. ap (λ (x : Slot). x.kept) (low m l) ∙ f.views.kept m;
      next = λ m l. ap (λ (x : Slot). x.next) (low m l) ∙ f.next m;
      prev = λ m l apart. ap (λ (x : Slot). x.prev) (low m l) ∙ f.prev m apart;
      after = λ some. ap (λ (x : Slot). x.prev) (low (first_on t p) (let h = first_has t p link on some in omega (arith, h.within))) ∙ f.after some;
      here = ap (λ (x : Slot). cond (nat_eq p v.last) v.top x.first) (low p inside) ∙ f.here;
      others = λ q l apart. ap (λ (x : Slot). cond (nat_eq q v.last) v.top x.first) (low q l) ∙ f.others q apart;
      new_parent = ap (λ (x : Slot). x.parent) new;
      new_kept = ap (λ (x : Slot). x.kept) new;
      new_next = ap (λ (x : Slot). x.next) new;
      new_prev = ap (λ (x : Slot). x.prev) new;
      new_first = ap (λ b. cond b v.top (slot_at (with_more v s).slots n).first) (ne_eqb n v.last old_last) ∙ ap (λ (x : Slot). x.first) new;
    }

module _ (t u : TreeState) (p n : ℕ) (k : Kept) (link : IsLinked t) (on : IsOpen t p) (fresh : n ≡ length t.slots + 1) (alive : is_live_kept k ≡ true) (a : Added t u p n k) where
  low : (m : ℕ) → live_at t m ≡ true → m < n
  low m h = omega (arith, (live_has t m h).within, fresh)

  still : (m : ℕ) → live_at t m ≡ true → live_at u m ≡ true
  still m h = ap is_live_kept (a.kept m (low m h)) ∙ h

  still_on : (q m : ℕ) → IsOn t q m → IsOn u q m
  still_on q m h = record { live = still m h.live; parent = a.parent m (low m h.live) ∙ h.parent }

  new_live : live_at u n ≡ true
  new_live = ap is_live_kept a.new_kept ∙ alive

  -- what is live afterwards was live, or is the new one
  cases : (m : ℕ) → live_at u m ≡ true → (live_at t m ≡ true) ⊎ (m ≡ n)
  cases m h = elim (cases_lt m n) [ inl l ↦ inl (ap is_live_kept (sym (a.kept m l)) ∙ h) | inr l ↦ inr (let w = (live_has u m h).within in omega (arith, l, w, a.count)) ]

  was_on : (q m : ℕ) → IsOn u q m → m < n → IsOn t q m
  was_on q m h l = record { live = ap is_live_kept (sym (a.kept m l)) ∙ h.live; parent = sym (a.parent m l) ∙ h.parent }

  still_open : (q : ℕ) → IsOpen t q → IsOpen u q
  still_open q (inl e) = inl (e ∙ sym a.last)
  still_open q (inr l) = inr (still q l)

  low_parent : (m : ℕ) → live_at t m ≡ true → parent_at t m < n
  low_parent m h = omega (arith, link.rooted.below m (live_has t m h), low m h)

  by_cases : (m : ℕ) (P : ℕ → Type 0) → live_at u m ≡ true → (live_at t m ≡ true → P m) → P n → P m
  by_cases m P h old new = elim (cases m h) [ inl live ↦ old live | inr e ↦ subst P (sym e) new ]

  rooted_more : IsRooted u
  rooted_more = record {
    known = omega (arith, link.rooted.known, a.last, a.count, fresh);
    done = ap (live_at u) a.last ∙ (ap is_live_kept (a.kept t.last (omega (arith, link.rooted.known, fresh))) ∙ link.rooted.done);
    below = below;
    stands = λ m h. by_cases m (λ x. IsOpen u (parent_at u x)) h (λ live. subst (IsOpen u) (sym (a.parent m (low m live))) (still_open (parent_at t m) (link.rooted.stands m live))) (subst (IsOpen u) (sym a.new_parent) (still_open p on));
  }
    where
      below : (m : ℕ) → Has u m → parent_at u m < m
      below m h = elim (cases_lt m n) [
        | inl l ↦ omega (arith, link.rooted.below m (record { given = h.given; within = omega (arith, l, fresh) }), a.parent m l)
        | inr l ↦ omega (arith, l, h.within, a.count, ap (parent_at u) (let e : m ≡ n = omega (arith, l, h.within, a.count) in e), a.new_parent, open_within t p link.rooted.known on, fresh)
      ]

  highest_more : (m : ℕ) → live_at u m ≡ true → m ≤ first_on u (parent_at u m)
  highest_more m h = by_cases m (λ x. x ≤ first_on u (parent_at u x)) h old (omega (arith, ap (first_on u) a.new_parent, a.here))
    where
      old : live_at t m ≡ true → m ≤ first_on u (parent_at u m)
      old live = subst (λ q. m ≤ first_on u q) (sym (a.parent m (low m live))) (elim (cases_eq (parent_at t m) p) [
        | inl e ↦ omega (arith, ap (first_on u) e, a.here, low m live)
        | inr apart ↦ omega (arith, a.others (parent_at t m) (low_parent m live) apart, link.highest m live)
      ])

  -- on one that was open
  first_old : (q : ℕ) → IsOpen t q → q < n → first_on u q ≢ 0 → IsOn u q (first_on u q)
  first_old q open' l some = elim (cases_eq q p) [
    | inl e ↦ subst (IsOn u q) (sym (ap (first_on u) e ∙ a.here)) (record { live = new_live; parent = a.new_parent ∙ sym e })
    | inr apart ↦ subst (IsOn u q) (sym (a.others q l apart)) (still_on q (first_on t q) (link.first q open' (λ z. some (a.others q l apart ∙ z))))
  ]

  first_more : (q : ℕ) → IsOpen u q → first_on u q ≢ 0 → IsOn u q (first_on u q)
  first_more q (inl e) some = first_old q (inl (e ∙ a.last)) (omega (arith, e, a.last, link.rooted.known, fresh)) some
  first_more q (inr h) some = by_cases q (λ x. first_on u x ≢ 0 → IsOn u x (first_on u x)) h (λ live. first_old q (inr live) (low q live)) (λ more. absurd (more a.new_first)) some

  next_more : (m : ℕ) → live_at u m ≡ true → next_at u m ≢ 0 → IsOn u (parent_at u m) (next_at u m) × (next_at u m < m)
  next_more m h = by_cases m (λ x. next_at u x ≢ 0 → IsOn u (parent_at u x) (next_at u x) × (next_at u x < x)) h old new
    where
      old : live_at t m ≡ true → next_at u m ≢ 0 → IsOn u (parent_at u m) (next_at u m) × (next_at u m < m)
      old live some =
          let e = a.next m (low m live) in
          let h = link.next m live (λ z. some (e ∙ z)) in
          (subst (λ x. IsOn u (parent_at u m) x) (sym e) (subst (λ q. IsOn u q (next_at t m)) (sym (a.parent m (low m live))) (still_on (parent_at t m) (next_at t m) h.0)), omega (arith, e, h.1))

      new : next_at u n ≢ 0 → IsOn u (parent_at u n) (next_at u n) × (next_at u n < n)
      new some =
          let on' = link.first p on (λ z. some (a.new_next ∙ z)) in
          (subst (λ x. IsOn u (parent_at u n) x) (sym a.new_next) (subst (λ q. IsOn u q (first_on t p)) (sym a.new_parent) (still_on p (first_on t p) on')), omega (arith, a.new_next, low (first_on t p) on'.live))

  lower_more : (c m : ℕ) → live_at u c ≡ true → IsOn u (parent_at u c) m → m < c → m ≤ next_at u c
  lower_more c m h = by_cases c (λ x. IsOn u (parent_at u x) m → m < x → m ≤ next_at u x) h old new
    where
      old : live_at t c ≡ true → IsOn u (parent_at u c) m → m < c → m ≤ next_at u c
      old live on' l =
          let was = was_on (parent_at t c) m (subst (λ q. IsOn u q m) (a.parent c (low c live)) on') (omega (arith, l, low c live)) in
          omega (arith, link.lower c m live was l, a.next c (low c live))

      new : IsOn u (parent_at u n) m → m < n → m ≤ next_at u n
      new on' l =
          let was = was_on p m (subst (λ q. IsOn u q m) a.new_parent on') l in
          omega (arith, link.highest m was.live, ap (first_on t) was.parent, a.new_next)

  prev_more : (m : ℕ) → live_at u m ≡ true → prev_at u m ≢ 0 → IsOn u (parent_at u m) (prev_at u m) × (next_at u (prev_at u m) ≡ m)
  prev_more m h = by_cases m (λ x. prev_at u x ≢ 0 → IsOn u (parent_at u x) (prev_at u x) × (next_at u (prev_at u x) ≡ x)) h old (λ some. absurd (some a.new_prev))
    where
      old : live_at t m ≡ true → prev_at u m ≢ 0 → IsOn u (parent_at u m) (prev_at u m) × (next_at u (prev_at u m) ≡ m)
      old live some = elim (cases_eq m (first_on t p)) [ inl e ↦ top e | inr apart ↦ other apart ]
        where
          top : m ≡ first_on t p → IsOn u (parent_at u m) (prev_at u m) × (next_at u (prev_at u m) ≡ m)
          top e =
              let given = (live_has t m live).given in
              let more : first_on t p ≢ 0 = λ z. absurd (omega (arith, e, z, given)) in
              let back : prev_at u m ≡ n = ap (prev_at u) e ∙ a.after more in
              let own : parent_at u m ≡ p = a.parent m (low m live) ∙ (ap (parent_at t) e ∙ (link.first p on more).parent) in
              (subst (λ x. IsOn u (parent_at u m) x) (sym back) (record { live = new_live; parent = a.new_parent ∙ sym own }), ap (next_at u) back ∙ (a.new_next ∙ sym e))

          other : m ≢ first_on t p → IsOn u (parent_at u m) (prev_at u m) × (next_at u (prev_at u m) ≡ m)
          other apart =
              let e = a.prev m (low m live) apart in
              let h = link.prev m live (λ z. some (e ∙ z)) in (
                subst (λ x. IsOn u (parent_at u m) x) (sym e) (subst (λ q. IsOn u q (prev_at t m)) (sym (a.parent m (low m live))) (still_on (parent_at t m) (prev_at t m) h.0)),
                ap (next_at u) e ∙ (a.next (prev_at t m) (low (prev_at t m) h.0.live) ∙ h.1),
              )

  none_more : (m : ℕ) → live_at u m ≡ true → prev_at u m ≡ 0 → first_on u (parent_at u m) ≡ m
  none_more m h = by_cases m (λ x. prev_at u x ≡ 0 → first_on u (parent_at u x) ≡ x) h old (λ z. ap (first_on u) a.new_parent ∙ a.here)
    where
      old : live_at t m ≡ true → prev_at u m ≡ 0 → first_on u (parent_at u m) ≡ m
      old live z = elim (cases_eq m (first_on t p)) [ inl e ↦ top e | inr apart ↦ other apart ]
        where
          top : m ≡ first_on t p → first_on u (parent_at u m) ≡ m
          top e =
              let given = (live_has t m live).given in
              let back : prev_at u m ≡ n = ap (prev_at u) e ∙ a.after (λ zero. absurd (omega (arith, e, zero, given))) in
              absurd (omega (arith, back, z, fresh))

          other : m ≢ first_on t p → first_on u (parent_at u m) ≡ m
          other apart =
              let top = link.none m live (sym (a.prev m (low m live) apart) ∙ z) in
              ap (first_on u) (a.parent m (low m live)) ∙ (a.others (parent_at t m) (low_parent m live) (λ e. apart (sym top ∙ ap (first_on t) e)) ∙ top)

  pub linked_more : IsLinked u
  linked_more = record { rooted = rooted_more; highest = highest_more; first = first_more; next = next_more; lower = lower_more; prev = prev_more; none = none_more }

pub sound_added : (t : TreeState) (p : ℕ) (k : Kept) → IsSound t → IsOpen t p → is_live_kept k ≡ true → IsSound (added t p k)
sound_added t p k sound on alive =
    let f = (linked_to_open t p (length t.slots + 1) sound.linked on).views in
    record {
      linked = linked_more t (added t p k) p (length t.slots + 1) k sound.linked on refl alive (added_is t p k sound.linked on);
      weighs = ap (λ w. w + kept_weight k) (sound.weighs ∙ sym (held_same t (linked_to t p (length t.slots + 1)) f.count f.kept)) ∙ sym (sum_by_push slot_weight (linked_to t p (length t.slots + 1)).slots _);
    }
