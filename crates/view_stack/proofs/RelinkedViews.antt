-- The links of a view that is taken out of those that were made on the same one.
use Rattle.std.proofs.Common.{◌≡◌, ◌≢◌, ◌⊎◌, inl, inr, ℕ, Bool, true, false, cond, nat_eq, length, refl, sym, ap, ◌∙◌, arith}
use Rattle.std.proofs.lemmas.Bool.{eqb-true, eqb-false, ne_eqb}
use Rattle.view_stack.specs.declared.slot.Slot.{Slot}
use Rattle.view_stack.specs.Slots.{TreeState}
use Rattle.view_stack.specs.Tree.{Has, slot_at, with_slot, first_on, with_first, with_next, with_prev, unlinked, kept_at}
use Rattle.view_stack.specs.Links.{parent_at, next_at, prev_at}
use Rattle.view_stack.proofs.WrittenViews.{length-with_slot, slot_at-same, slot_at-other, slot_at-field}

-- what no link changes
pub record SameViews (t u : TreeState) : Type 0 where
  pub parent : (m : ℕ) → parent_at u m ≡ parent_at t m
  pub kept : (m : ℕ) → kept_at u m ≡ kept_at t m
  pub count : length u.slots ≡ length t.slots
  pub last : u.last ≡ t.last
  pub weight : u.weight ≡ t.weight
  pub capacity : u.capacity ≡ t.capacity

-- one is written, but neither its parent nor what is kept of it
same_views : (t : TreeState) (n : ℕ) (s : Slot) → Has t n → s.parent ≡ parent_at t n → s.kept ≡ kept_at t n → SameViews t (with_slot t n s)
same_views t n s h p k = record {
  parent = slot_at-field (λ (x : Slot). x.parent) t n s h p;
  kept = slot_at-field (λ (x : Slot). x.kept) t n s h k;
  count = length-with_slot t n s;
  last = refl;
  weight = refl;
  capacity = refl;
}

-- ---- the first one

-- the first link of a view is another; p is one that was made, or committed last
pub record FirstSet (t u : TreeState) (p first : ℕ) : Type 0 where
  pub views : SameViews t u
  pub next : (m : ℕ) → next_at u m ≡ next_at t m
  pub prev : (m : ℕ) → prev_at u m ≡ prev_at t m
  pub here : first_on u p ≡ first
  pub others : (q : ℕ) → q ≢ p → first_on u q ≡ first_on t q

pub first_set : (t : TreeState) (p first : ℕ) → (p ≡ t.last) ⊎ Has t p → FirstSet t (with_first t p first) p first
first_set t p first known = go (nat_eq p t.last) refl (nat_eq p 0) refl
  where
    none : p ≡ 0 → (p ≡ t.last) ⊎ Has t p → (p ≡ t.last → ⊥) → ⊥
    none zero (inl e) apart = apart e
    none zero (inr h) apart = absurd (omega (arith, h.given))

    at_last : nat_eq p t.last ≡ true → FirstSet t (record t { top = first }) p first
    at_last e = record {
      views = record { parent = λ m. refl; kept = λ m. refl; count = refl; last = refl; weight = refl; capacity = refl };
      next = λ m. refl;
      prev = λ m. refl;
      here = ap (λ b. cond b first (slot_at t.slots p).first) e;
      others = λ q apart. let no : nat_eq q t.last ≡ false = ne_eqb q t.last (λ s. apart (s ∙ sym (eqb-true p t.last e))) in ap (λ b. cond b first (slot_at t.slots q).first) no ∙ sym (ap (λ b. cond b t.top (slot_at t.slots q).first) no);
    }

    at_slot : nat_eq p t.last ≡ false → Has t p → FirstSet t (with_slot t p (record (slot_at t.slots p) { first = first })) p first
    at_slot e h =
        let s : Slot = record (slot_at t.slots p) { first = first } in
        record {
          views = same_views t p s h refl refl;
          next = slot_at-field (λ (x : Slot). x.next) t p s h refl;
          prev = slot_at-field (λ (x : Slot). x.prev) t p s h refl;
          here = ap (λ b. cond b t.top (slot_at (with_slot t p s).slots p).first) e ∙ ap (λ (x : Slot). x.first) (slot_at-same t p s h);
          others = λ q apart. ap (λ (x : Slot). cond (nat_eq q t.last) t.top x.first) (slot_at-other t p s q h.given apart);
        }

    go : (a : Bool) → nat_eq p t.last ≡ a → (b : Bool) → nat_eq p 0 ≡ b → FirstSet t (cond a (record t { top = first }) (cond b t (with_slot t p (record (slot_at t.slots p) { first = first })))) p first
    go true e b f = at_last e
    go false e true f = absurd (none (eqb-true p 0 f) known (eqb-false p t.last e))
    go false e false f = at_slot e (elim known [ inl s ↦ absurd (eqb-false p t.last e s) | inr h ↦ h ])

-- ---- the next one, and the one before

pub record NextSet (t u : TreeState) (n next : ℕ) : Type 0 where
  pub views : SameViews t u
  pub first : (q : ℕ) → first_on u q ≡ first_on t q
  pub prev : (m : ℕ) → prev_at u m ≡ prev_at t m
  pub here : next_at u n ≡ next
  pub others : (m : ℕ) → m ≢ n → next_at u m ≡ next_at t m

pub next_set : (t : TreeState) (n next : ℕ) → Has t n → NextSet t (with_next t n next) n next
next_set t n next h =
    let s : Slot = record (slot_at t.slots n) { next = next } in
    record {
      views = same_views t n s h refl refl;
      first = λ q. ap (λ x. cond (nat_eq q t.last) t.top x) (slot_at-field (λ (x : Slot). x.first) t n s h refl q);
      prev = slot_at-field (λ (x : Slot). x.prev) t n s h refl;
      here = ap (λ (x : Slot). x.next) (slot_at-same t n s h);
      others = λ m apart. ap (λ (x : Slot). x.next) (slot_at-other t n s m h.given apart);
    }

pub record PrevSet (t u : TreeState) (n prev : ℕ) : Type 0 where
  pub views : SameViews t u
  pub first : (q : ℕ) → first_on u q ≡ first_on t q
  pub next : (m : ℕ) → next_at u m ≡ next_at t m
  pub here : prev_at u n ≡ prev
  pub others : (m : ℕ) → m ≢ n → prev_at u m ≡ prev_at t m

pub prev_set : (t : TreeState) (n prev : ℕ) → Has t n → PrevSet t (with_prev t n prev) n prev
prev_set t n prev h =
    let s : Slot = record (slot_at t.slots n) { prev = prev } in
    record {
      views = same_views t n s h refl refl;
      first = λ q. ap (λ x. cond (nat_eq q t.last) t.top x) (slot_at-field (λ (x : Slot). x.first) t n s h refl q);
      next = slot_at-field (λ (x : Slot). x.next) t n s h refl;
      here = ap (λ (x : Slot). x.prev) (slot_at-same t n s h);
      others = λ m apart. ap (λ (x : Slot). x.prev) (slot_at-other t n s m h.given apart);
    }

pub views_then : (t u v : TreeState) → SameViews t u → SameViews u v → SameViews t v
views_then t u v h k = record {
  parent = λ m. k.parent m ∙ h.parent m;
  kept = λ m. k.kept m ∙ h.kept m;
  count = k.count ∙ h.count;
  last = k.last ∙ h.last;
  weight = k.weight ∙ h.weight;
  capacity = k.capacity ∙ h.capacity;
}

-- ---- both

-- the links lead past a view
pub record Rewired (t u : TreeState) (n : ℕ) : Type 0 where
  pub views : SameViews t u
  pub before : prev_at t n ≢ 0 → next_at u (prev_at t n) ≡ next_at t n
  pub next : (m : ℕ) → (prev_at t n ≢ 0 → m ≢ prev_at t n) → next_at u m ≡ next_at t m
  pub after : next_at t n ≢ 0 → prev_at u (next_at t n) ≡ prev_at t n
  pub prev : (m : ℕ) → m ≢ next_at t n → prev_at u m ≡ prev_at t m
  pub highest : prev_at t n ≡ 0 → first_on u (parent_at t n) ≡ next_at t n
  pub first : (q : ℕ) → (prev_at t n ≡ 0 → q ≢ parent_at t n) → first_on u q ≡ first_on t q

-- the half of it that leads on
record Onward (t u : TreeState) (n : ℕ) : Type 0 where
  views : SameViews t u
  before : prev_at t n ≢ 0 → next_at u (prev_at t n) ≡ next_at t n
  next : (m : ℕ) → (prev_at t n ≢ 0 → m ≢ prev_at t n) → next_at u m ≡ next_at t m
  prev : (m : ℕ) → prev_at u m ≡ prev_at t m
  highest : prev_at t n ≡ 0 → first_on u (parent_at t n) ≡ next_at t n
  first : (q : ℕ) → (prev_at t n ≡ 0 → q ≢ parent_at t n) → first_on u q ≡ first_on t q

onward : (t : TreeState) (n : ℕ) → (prev_at t n ≡ 0 → (parent_at t n ≡ t.last) ⊎ Has t (parent_at t n)) → (prev_at t n ≢ 0 → Has t (prev_at t n))
    → Onward t (cond (nat_eq (prev_at t n) 0) (with_first t (parent_at t n) (next_at t n)) (with_next t (prev_at t n) (next_at t n))) n
onward t n parent_known prev_known = go (nat_eq (prev_at t n) 0) refl
  where
    go : (b : Bool) → nat_eq (prev_at t n) 0 ≡ b → Onward t (cond b (with_first t (parent_at t n) (next_at t n)) (with_next t (prev_at t n) (next_at t n))) n
    go true e =
        let none : prev_at t n ≡ 0 = eqb-true (prev_at t n) 0 e in
        let f = first_set t (parent_at t n) (next_at t n) (parent_known none) in
        record {
          views = f.views;
          before = λ some. absurd (some none);
          next = λ m apart. f.next m;
          prev = f.prev;
          highest = λ z. f.here;
          first = λ q apart. f.others q (apart none);
        }
    go false e =
        let some : prev_at t n ≢ 0 = eqb-false (prev_at t n) 0 e in
        let f = next_set t (prev_at t n) (next_at t n) (prev_known some) in
        record {
          views = f.views;
          before = λ z. f.here;
          next = λ m apart. f.others m (apart some);
          prev = f.prev;
          highest = λ none. absurd (some none);
          first = λ q apart. f.first q;
        }

pub rewired : (t : TreeState) (n : ℕ) → (prev_at t n ≡ 0 → (parent_at t n ≡ t.last) ⊎ Has t (parent_at t n)) → (prev_at t n ≢ 0 → Has t (prev_at t n)) → (next_at t n ≢ 0 → Has t (next_at t n))
    → Rewired t (unlinked t n) n
rewired t n parent_known prev_known next_known = go _ (onward t n parent_known prev_known) (nat_eq (next_at t n) 0) refl
  where
    go : (u : TreeState) → Onward t u n → (b : Bool) → nat_eq (next_at t n) 0 ≡ b → Rewired t (cond b u (with_prev u (next_at t n) (prev_at t n))) n
    go u o true e =
        let none : next_at t n ≡ 0 = eqb-true (next_at t n) 0 e in
        record {
          views = o.views;
          before = o.before;
          next = o.next;
          after = λ some. absurd (some none);
          prev = λ m apart. o.prev m;
          highest = o.highest;
          first = o.first;
        }
    go u o false e =
        let some : next_at t n ≢ 0 = eqb-false (next_at t n) 0 e in
        let h = next_known some in
        let f = prev_set u (next_at t n) (prev_at t n) (record { given = h.given; within = omega (arith, h.within, o.views.count) }) in
        record {
          views = views_then t u _ o.views f.views;
          before = λ z. f.next (prev_at t n) ∙ o.before z;
          next = λ m apart. f.next m ∙ o.next m apart;
          after = λ z. f.here;
          prev = λ m apart. f.others m apart ∙ o.prev m;
          highest = λ z. f.first (parent_at t n) ∙ o.highest z;
          first = λ q apart. f.first q ∙ o.first q apart;
        }
