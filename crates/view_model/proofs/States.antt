-- What each state of a view says, and from what it follows.
use Rattle.std.proofs.Common.{◌≡◌, ℕ, Bool, true, false, cond, List, refl}
use Rattle.view_model.specs.Forest.{View, ViewState, Live, Committed, Invalid, Closed, path, is_proper_prefix, is_among, state_of}

-- the state by the three tests
by_tests : Bool → Bool → Bool → ViewState
by_tests among closed begins = cond among Committed (cond closed Closed (cond begins Live Invalid))

pub record LiveIn (store : List ℕ) (v : View) : Type 0 where
  pub waits : is_among v.number store ≡ false
  pub opened : v.closed ≡ false
  pub ahead : is_proper_prefix store (path v) ≡ true

pub live_parts : (store : List ℕ) (v : View) → state_of store v ≡ Live → LiveIn store v
live_parts store v h = go (is_among v.number store) v.closed (is_proper_prefix store (path v)) refl refl refl h
  where
    go : (a c p : Bool) → is_among v.number store ≡ a → v.closed ≡ c → is_proper_prefix store (path v) ≡ p → cond a Committed (cond c Closed (cond p Live Invalid)) ≡ Live → LiveIn store v
    go true c p ea ec ep e = absurd (cc)
    go false true p ea ec ep e = absurd (cc)
    go false false true ea ec ep e = record { waits = ea; opened = ec; ahead = ep }
    go false false false ea ec ep e = absurd (cc)

pub live_from : (store : List ℕ) (v : View) → LiveIn store v → state_of store v ≡ Live
live_from store v h = rw (h.waits, h.opened, h.ahead) refl

pub committed_from : (store : List ℕ) (v : View) → is_among v.number store ≡ true → state_of store v ≡ Committed
committed_from store v h = rw h refl

pub closed_from : (store : List ℕ) (v : View) → is_among v.number store ≡ false → v.closed ≡ true → state_of store v ≡ Closed
closed_from store v h c = rw (h, c) refl

pub invalid_from : (store : List ℕ) (v : View) → is_among v.number store ≡ false → v.closed ≡ false → is_proper_prefix store (path v) ≡ false → state_of store v ≡ Invalid
invalid_from store v h c p = rw (h, c, p) refl

-- a view that is not live, with what tells its state
pub data Dead (store : List ℕ) (v : View) : ViewState → Type 0 where
  ByCommit : is_among v.number store ≡ true → Dead store v Committed
  ByClose : is_among v.number store ≡ false → v.closed ≡ true → Dead store v Closed
  ByOthers : is_among v.number store ≡ false → v.closed ≡ false → is_proper_prefix store (path v) ≡ false → Dead store v Invalid

pub dead_parts : (store : List ℕ) (v : View) → (state_of store v ≡ Live → ⊥) → Dead store v (state_of store v)
dead_parts store v h = go (is_among v.number store) v.closed (is_proper_prefix store (path v)) refl refl refl h
  where
    go : (a c p : Bool) → is_among v.number store ≡ a → v.closed ≡ c → is_proper_prefix store (path v) ≡ p → (cond a Committed (cond c Closed (cond p Live Invalid)) ≡ Live → ⊥)
        → Dead store v (cond a Committed (cond c Closed (cond p Live Invalid)))
    go true c p ea ec ep e = ByCommit ea
    go false true p ea ec ep e = ByClose ea ec
    go false false true ea ec ep e = absurd (e refl)
    go false false false ea ec ep e = ByOthers ea ec ep
