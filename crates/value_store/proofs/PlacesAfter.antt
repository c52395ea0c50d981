-- What a batch makes of the places, key by key.
use Rattle.std.proofs.Common.{◌≡◌, ℕ, ◌+◌, ◌-◌, ◌<◌, ◌≤◌, Bool, true, false, cond, not, ◌&&◌, List, [], ◌∷◌, length, get_or, drop, length-append, refl, sym, ap, ◌∙◌, subst, arith, Option, Some, None, is_some, leb, Ordering, Less, Equal, Greater, inl, inr}
use Rattle.std.specs.Prelude.{IsSome, IfSome, count_by}
use Rattle.std.specs.Ordering.{is_eq, is_lt, eq_by_cmp}
use Rattle.std.specs.List.{AllByRecursion, flat_map}
use Rattle.std.specs.FinMap.{get, insert, remove, len, get-empty, empty_of_len, get-insert, get-remove, len-insert, len-remove}
use Rattle.std.specs.Cmp.{tied_itself}
use Rattle.std.proofs.lemmas.Cmp.{nat_list_cmp_total}
use Rattle.std.proofs.lemmas.Bool.{false≢true, cases_lt}
use Rattle.std.proofs.lemmas.Bool.Decides.{nat_tests}
use Rattle.std.proofs.lemmas.List.{drop_more}
use Rattle.std.proofs.lemmas.List.Concat.{flat_map-cons}
use Rattle.std.proofs.lemmas.List.Sums.{sum_by-cons}
use Rattle.base_model.specs.Uvarint.{uvarint}
use Rattle.batch_model.specs.Sized.{sized_form}
use Rattle.base_model.specs.Bytes.{bytes_cmp}
use Rattle.trie_model.proofs.Entries.{tied_equal}
use Rattle.batch_model.specs.Batch.{Change, AreRising, change_form}
use Rattle.value_store.specs.Values.{Place}
use Rattle.value_store.specs.Index.{Places, up_to}
use Rattle.value_store.specs.BatchReading.{laid}
use Rattle.value_store.specs.ValuePlaces.{value_place, laid_all, room_for, with_room, adds, takes, or_else, pending, new_place, HasRoom}
use Rattle.value_store.proofs.IndexEntries.{same_places}

-- ---- keys that rise are distinct

equal : (o : Ordering) → is_eq o ≡ true → o ≡ Equal
equal Less h = absurd cc
equal Equal h = refl
equal Greater h = absurd cc

less : (o : Ordering) → is_lt o ≡ true → o ≡ Less
less Less h = refl
less Equal h = absurd cc
less Greater h = absurd cc

-- the keys of rising changes are above the last one
above_all : (k : List ℕ) (cs : List Change) → AreRising (Some k) cs → AllByRecursion (λ (c : Change). bytes_cmp k c.key ≡ Less) cs
above_all k [] r = tt
above_all k (c ∷ cs) r =
    let first = less (bytes_cmp k c.key) r.0 in
    (first, through cs (above_all c.key cs r.1))
  where
    through : (cs : List Change) → AllByRecursion (λ (d : Change). bytes_cmp c.key d.key ≡ Less) cs → AllByRecursion (λ (d : Change). bytes_cmp k d.key ≡ Less) cs
    through [] h = tt
    through (d ∷ cs) h = (nat_list_cmp_total.trans k c.key d.key (less (bytes_cmp k c.key) r.0) h.0, through cs h.1)

-- no change is of a key below all of theirs
pub none_pending : (at : ℕ) (cs : List Change) (k : List ℕ) → AllByRecursion (λ (c : Change). bytes_cmp k c.key ≡ Less) cs → pending at cs k ≡ None
none_pending at [] k h = refl
none_pending at (c ∷ cs) k h =
    ap (λ o. or_else o (cond (eq_by_cmp bytes_cmp k c.key) (Some (value_place at c)) None)) (none_pending (at + length (change_form c)) cs k h.1)
    ∙ ap (λ o. cond (is_eq o) (Some (value_place at c)) None) h.0

-- the first of rising changes alone is of its key
pub pending-first : (last : Option (List ℕ)) (at : ℕ) (c : Change) (cs : List Change) → AreRising last (c ∷ cs) → (q : List ℕ) → eq_by_cmp bytes_cmp q c.key ≡ true → pending (at + length (change_form c)) cs q ≡ None
pending-first last at c cs r q t =
    let same = tied_equal q c.key (equal (bytes_cmp q c.key) t) in
    ap (pending (at + length (change_form c)) cs) same ∙ none_pending (at + length (change_form c)) cs c.key (above_all c.key cs r.1)

-- ---- one change

pub get-laid : (index : Places) (key : List ℕ) (p : Option Place) (q : List ℕ) → get (laid index key p) q ≡ cond (eq_by_cmp bytes_cmp q key) p (get index q)
get-laid index key None q = get-remove nat_list_cmp_total index key q
get-laid index key (Some p) q = get-insert nat_list_cmp_total index key p q

pub get-room_for : (index : Places) (key : List ℕ) (p : Option Place) (q : List ℕ) → get (room_for index key p) q ≡ or_else (get index q) (cond (eq_by_cmp bytes_cmp q key) p None)
get-room_for index key None q = by_both (eq_by_cmp bytes_cmp q key) (get index q)
  where
    by_both : (b : Bool) (x : Option Place) → x ≡ or_else x (cond b None None)
    by_both true None = refl
    by_both false None = refl
    by_both b (Some x) = refl
get-room_for index key (Some p) q = go (get index key) refl
  where
    alike : eq_by_cmp bytes_cmp q key ≡ true → get index q ≡ get index key
    alike t = ap (get index) (tied_equal q key (equal (bytes_cmp q key) t))

    there : (b : Bool) (x : Option Place) → (b ≡ true → IsSome x) → x ≡ or_else x (cond b (Some p) None)
    there b (Some x) h = refl
    there true None h = absurd (not_there (h refl))
      where
        not_there : IsSome {T = Place} None → ⊥
        not_there e = absurd cc
    there false None h = refl

    absent : (b : Bool) (x : Option Place) → (b ≡ true → x ≡ None) → cond b (Some p) x ≡ or_else x (cond b (Some p) None)
    absent true x h = sym (ap (λ x. or_else x (Some p)) (h refl))
    absent false None h = refl
    absent false (Some x) h = refl

    go : (o : Option Place) → get index key ≡ o → get (cond (is_some o) index (insert index key p)) q ≡ or_else (get index q) (cond (eq_by_cmp bytes_cmp q key) (Some p) None)
    go (Some x) e = there (eq_by_cmp bytes_cmp q key) (get index q) (λ t. subst (λ o. IsSome o) (sym (alike t ∙ e)) refl)
    go None e = get-insert nat_list_cmp_total index key p q ∙ absent (eq_by_cmp bytes_cmp q key) (get index q) (λ t. alike t ∙ e)

-- ---- all changes

abbrev overridden : Option (Option Place) → Option Place → Option Place
overridden None x = x
overridden (Some p) x = p

pub get-laid_all : (at : ℕ) (cs : List Change) (index : Places) (q : List ℕ) → get (laid_all at cs index) q ≡ overridden (pending at cs q) (get index q)
get-laid_all at [] index q = refl
get-laid_all at (c ∷ cs) index q =
    get-laid_all (at + length (change_form c)) cs (laid index c.key (value_place at c)) q
    ∙ ap (overridden (pending (at + length (change_form c)) cs q)) (get-laid index c.key (value_place at c) q)
    ∙ by_both (pending (at + length (change_form c)) cs q) (eq_by_cmp bytes_cmp q c.key)
  where
    by_both : (o : Option (Option Place)) (b : Bool) → overridden o (cond b (value_place at c) (get index q)) ≡ overridden (or_else o (cond b (Some (value_place at c)) None)) (get index q)
    by_both (Some p) b = refl
    by_both None true = refl
    by_both None false = refl

pub get-with_room : (last : Option (List ℕ)) (at : ℕ) (cs : List Change) → AreRising last cs → (index : Places) (q : List ℕ) → get (with_room at cs index) q ≡ or_else (get index q) (new_place (pending at cs q))
get-with_room last at [] r index q = by_one (get index q)
  where
    by_one : (x : Option Place) → x ≡ or_else x None
    by_one None = refl
    by_one (Some x) = refl
get-with_room last at (c ∷ cs) r index q =
    get-with_room (Some c.key) (at + length (change_form c)) cs r.1 (room_for index c.key (value_place at c)) q
    ∙ ap (λ x. or_else x (new_place (pending (at + length (change_form c)) cs q))) (get-room_for index c.key (value_place at c) q)
    ∙ by_all (get index q) (pending (at + length (change_form c)) cs q) (eq_by_cmp bytes_cmp q c.key) (pending-first last at c cs r q)
  where
    by_all : (x : Option Place) (o : Option (Option Place)) (b : Bool) → (b ≡ true → o ≡ None) → or_else (or_else x (cond b (value_place at c) None)) (new_place o) ≡ or_else x (new_place (or_else o (cond b (Some (value_place at c)) None)))
    by_all (Some x) o b h = refl
    by_all None None true h = by_one (value_place at c)
      where
        by_one : (x : Option Place) → or_else x None ≡ x
        by_one None = refl
        by_one (Some x) = refl
    by_all None None false h = refl
    by_all None (Some p) true h = absurd (no (h refl))
      where
        no : Some p ≡ None → ⊥
        no e = absurd cc
    by_all None (Some p) false h = refl

-- with the room or without, the changes make the same
pub laid_all-with_room : (at : ℕ) (cs : List Change) → AreRising None cs → (index : Places) → laid_all at cs (with_room at cs index) ≡ laid_all at cs index
laid_all-with_room at cs r index = same_places _ _ (λ q.
    get-laid_all at cs (with_room at cs index) q
    ∙ ap (overridden (pending at cs q)) (get-with_room None at cs r index q)
    ∙ by_one (pending at cs q) (get index q)
    ∙ sym (get-laid_all at cs index q))
  where
    by_one : (o : Option (Option Place)) (x : Option Place) → overridden o (or_else x (new_place o)) ≡ overridden o x
    by_one None None = refl
    by_one None (Some x) = refl
    by_one (Some p) x = refl

-- ---- room

pub has_room : (at : ℕ) (cs : List Change) → AreRising None cs → (index : Places) → HasRoom at cs (with_room at cs index)
has_room at cs r index = record { for = λ q some. subst (λ o. IsSome o) (sym (get-with_room None at cs r index q)) (either (get index q) (new_place (pending at cs q)) some) }
  where
    either : (x y : Option Place) → IsSome y → IsSome (or_else x y)
    either None y h = h
    either (Some x) y h = refl

-- the first change has a key that is there, where it puts one
pub room_now : (last : Option (List ℕ)) (at : ℕ) (c : Change) (cs : List Change) (index : Places) → AreRising last (c ∷ cs) → HasRoom at (c ∷ cs) index → IsSome (value_place at c) → IsSome (get index c.key)
room_now last at c cs index r h some =
    let itself : eq_by_cmp bytes_cmp c.key c.key ≡ true = ap is_eq (tied_itself nat_list_cmp_total c.key) in
    let none = pending-first last at c cs r c.key itself in
    h.for c.key (subst (λ o. IsSome (new_place o)) (sym (ap (λ o. or_else o (cond (eq_by_cmp bytes_cmp c.key c.key) (Some (value_place at c)) None)) none ∙ ap (λ b. cond b (Some (value_place at c)) None) itself)) some)

-- and the others keep their room
pub room_later : (last : Option (List ℕ)) (at : ℕ) (c : Change) (cs : List Change) (index : Places) → AreRising last (c ∷ cs) → HasRoom at (c ∷ cs) index → HasRoom (at + length (change_form c)) cs (laid index c.key (value_place at c))
room_later last at c cs index r h = record { for = λ q some. go q (eq_by_cmp bytes_cmp q c.key) refl some }
  where
    rest : List ℕ → Option (Option Place)
    rest q = pending (at + length (change_form c)) cs q

    no : IsSome {T = Place} None → ⊥
    no e = absurd cc

    keeps : (o : Option (Option Place)) (x : Option (Option Place)) → IsSome (new_place o) → IsSome (new_place (or_else o x))
    keeps None x h = absurd (no h)
    keeps (Some p) x h = h

    go : (q : List ℕ) (b : Bool) → eq_by_cmp bytes_cmp q c.key ≡ b → IsSome (new_place (pending (at + length (change_form c)) cs q)) → IsSome (get (laid index c.key (value_place at c)) q)
    go q true t some = absurd (no (subst (λ o. IsSome (new_place o)) (pending-first last at c cs r q t) some))
    go q false t some =
        subst (λ o. IsSome o) (sym (get-laid index c.key (value_place at c) q ∙ ap (λ b. cond b (value_place at c) (get index q)) t))
        (h.for q (keeps (pending (at + length (change_form c)) cs q) (cond (eq_by_cmp bytes_cmp q c.key) (Some (value_place at c)) None) some))

-- the places up to the end are those from before
pub room_behind : (end : ℕ) (was now : Places) (key : List ℕ) (p : Option Place) → ((q : List ℕ) → up_to end (get now q) ≡ get was q) → IfSome p (λ p. end < p.start) → (q : List ℕ) → up_to end (get (room_for now key p) q) ≡ get was q
room_behind end was now key p same behind q =
    ap (up_to end) (get-room_for now key p q) ∙ go (get now q) (cond (eq_by_cmp bytes_cmp q key) p None) (later (eq_by_cmp bytes_cmp q key) p behind) (same q)
  where
    later : (b : Bool) (p : Option Place) → IfSome p (λ p. end < p.start) → IfSome (cond b p None) (λ p. end < p.start)
    later true p h = h
    later false p h = tt

    go : (x y : Option Place) → IfSome y (λ p. end < p.start) → up_to end x ≡ get was q → up_to end (or_else x y) ≡ get was q
    go (Some x) y h e = e
    go None None h e = e
    go None (Some y) h e = let t : leb y.start end ≡ false = grind (arith, nat_tests) in ap (λ b. cond b (Some y) None) t ∙ e

-- where all places are up to the end, they stay so
pub up_to_all : (end : ℕ) (index : Places) → ((q : List ℕ) → IfSome (get index q) (λ p. p.start ≤ end)) → (q : List ℕ) → up_to end (get index q) ≡ get index q
up_to_all end index all q = go (get index q) (all q)
  where
    go : (x : Option Place) → IfSome x (λ p. p.start ≤ end) → up_to end x ≡ x
    go None h = refl
    go (Some x) h = let t : leb x.start end ≡ true = grind (arith, nat_tests) in ap (λ b. cond b (Some x) None) t

-- ---- how many keys there are

-- a map with a key is not empty
some_key : (index : Places) (k : List ℕ) → is_some (get index k) ≡ true → 0 < len index
some_key index k e = elim (cases_lt 0 (len index)) [
  | inl l ↦ l
  | inr l ↦ absurd (false≢true (sym (ap is_some (ap (λ (m : Places). get m k) (empty_of_len index (omega arith)) ∙ get-empty bytes_cmp k)) ∙ e))
]

-- what is removed and what is added
len_after-go : (at : ℕ) (last : Option (List ℕ)) (cs : List Change) (first now : Places) → AreRising last cs → ((q : List ℕ) → IsSome (pending at cs q) → get now q ≡ get first q)
    → len (laid_all at cs now) + count_by (takes first) cs ≡ len now + count_by (adds first) cs
len_after-go at last [] first now r same = refl
len_after-go at last (c ∷ cs) first now r same =
    let ih = len_after-go (at + length (change_form c)) (Some c.key) cs first (laid now c.key (value_place at c)) r.1 (λ q some. later q (eq_by_cmp bytes_cmp q c.key) refl some) in
    let itself : eq_by_cmp bytes_cmp c.key c.key ≡ true = ap is_eq (tied_itself nat_list_cmp_total c.key) in
    let here : get now c.key ≡ get first c.key = same c.key (any (pending (at + length (change_form c)) cs c.key) (cond (eq_by_cmp bytes_cmp c.key c.key) (Some (value_place at c)) None) (subst (λ b. IsSome (cond b (Some (value_place at c)) None)) (sym itself) refl)) in
    let one = step c.value (is_some (get first c.key)) (ap is_some here) in
    ap (λ n. len (laid_all (at + length (change_form c)) cs (laid now c.key (value_place at c))) + n) (sum_by-cons (λ x. cond (takes first x) 1 0) c cs)
    ∙ counted (takes first c) (adds first c) ih one
    ∙ ap (λ n. len now + n) (sym (sum_by-cons (λ x. cond (adds first x) 1 0) c cs))
  where
    any : (o x : Option (Option Place)) → IsSome x → IsSome (or_else o x)
    any None x h = h
    any (Some p) x h = refl

    no : IsSome {T = Option Place} None → ⊥
    no e = absurd cc

    front : (o x : Option (Option Place)) → IsSome o → IsSome (or_else o x)
    front None x h = absurd (no h)
    front (Some p) x h = refl

    later : (q : List ℕ) (b : Bool) → eq_by_cmp bytes_cmp q c.key ≡ b → IsSome (pending (at + length (change_form c)) cs q) → get (laid now c.key (value_place at c)) q ≡ get first q
    later q true t some = absurd (no (subst (λ o. IsSome o) (pending-first last at c cs r q t) some))
    later q false t some =
        get-laid now c.key (value_place at c) q ∙ ap (λ b. cond b (value_place at c) (get now q)) t
        ∙ same q (front (pending (at + length (change_form c)) cs q) (cond (eq_by_cmp bytes_cmp q c.key) (Some (value_place at c)) None) some)

    step : (v : Option (List ℕ)) (b : Bool) → is_some (get now c.key) ≡ b → len (laid now c.key (value_place at (record { key = c.key; value = v }))) + cond (not (is_some v) && b) 1 0 ≡ len now + cond (is_some v && not b) 1 0
    step None true e = let l : len (remove now c.key) ≡ len now - 1 = len-remove nat_list_cmp_total now c.key ∙ ap (λ b. cond b (len now - 1) (len now)) e in omega (arith, l, some_key now c.key e)
    step None false e = let l : len (remove now c.key) ≡ len now = len-remove nat_list_cmp_total now c.key ∙ ap (λ b. cond b (len now - 1) (len now)) e in omega (arith, l)
    step (Some v) b e = let l = len-insert nat_list_cmp_total now c.key (record { start = at + length (sized_form c.key) + 1 + length (uvarint (length v)); count = length v }) ∙ ap (λ b. cond b (len now) (len now + 1)) e in added b l
      where
        added : (b : Bool) → len (insert now c.key (record { start = at + length (sized_form c.key) + 1 + length (uvarint (length v)); count = length v })) ≡ cond b (len now) (len now + 1)
            → len (insert now c.key (record { start = at + length (sized_form c.key) + 1 + length (uvarint (length v)); count = length v })) + 0 ≡ len now + cond (not b) 1 0
        added true l = omega (arith, l)
        added false l = omega (arith, l)

    counted : (t a : Bool) → len (laid_all (at + length (change_form c)) cs (laid now c.key (value_place at c))) + count_by (takes first) cs ≡ len (laid now c.key (value_place at c)) + count_by (adds first) cs
        → len (laid now c.key (value_place at c)) + cond t 1 0 ≡ len now + cond a 1 0
        → len (laid_all (at + length (change_form c)) cs (laid now c.key (value_place at c))) + (cond t 1 0 + count_by (takes first) cs) ≡ len now + (cond a 1 0 + count_by (adds first) cs)
    counted t a ih one = omega arith

pub len_after : (at : ℕ) (cs : List Change) (index : Places) → AreRising None cs → len (laid_all at cs index) + count_by (takes index) cs ≡ len index + count_by (adds index) cs
len_after at cs index r = len_after-go at None cs index index r (λ q some. refl)

-- ---- from one change to the next

module _ (cs : List Change) (i : ℕ) (d : Change) (inside : i < length cs) where
  pub left_is : drop i cs ≡ get_or cs i d ∷ drop (i + 1) cs
  left_is = drop_more cs i d inside

  pub left_length : length (flat_map change_form (drop i cs)) ≡ length (change_form (get_or cs i d)) + length (flat_map change_form (drop (i + 1) cs))
  left_length = ap (λ l. length (flat_map change_form l)) left_is ∙ ap length (flat_map-cons change_form (get_or cs i d) (drop (i + 1) cs)) ∙ length-append (change_form (get_or cs i d)) (flat_map change_form (drop (i + 1) cs))

-- behind the last change nothing is left
pub none_left : (cs : List Change) → drop (length cs) cs ≡ []
none_left [] = refl
none_left (c ∷ cs) = none_left cs

-- a value stands behind the place of its change
pub value_behind_start : (end at : ℕ) (c : Change) → end < at → IfSome (value_place at c) (λ p. end < p.start)
value_behind_start end at c behind = go c.value
  where
    go : (v : Option (List ℕ)) → IfSome (value_place at (record { key = c.key; value = v })) (λ p. end < p.start)
    go None = tt
    go (Some v) = omega (arith, behind)
