-- What an answer of a call says, taken on to the caller.
use Rattle.std.proofs.Common.{◌≡◌, ℕ, zero, suc, ◌+◌, ◌-◌, ◌<◌, ◌≤◌, ◌^◌, Bool, true, false, List, [], ◌∷◌, ◌++◌, drop, take, length, get_or, map, refl, sym, ap, ◌∙◌, subst, arith, Option, Some, None, option_map, Result, Ok, Err}
use Rattle.std.specs.Prelude.{IfOk, ◌&&◌, nat_lt, nat_le}
use Rattle.std.proofs.lemmas.Bool.{leb-true}
use Rattle.std.proofs.lemmas.List.{append-nil, length-drop}
use Rattle.proof_model.specs.TakenEntries.{taken, is_cut}
use Rattle.trie_model.specs.Maps.{Map}
use Rattle.range_model.specs.Ranges.{Range, everything}
use Rattle.batch_model.specs.Batch.{Change, after_batch}
use Rattle.history_model.specs.Changes.{Delta, change_of, change_size, changes}
use Rattle.history_model.specs.Held.{no_map, until_root}
use Rattle.history_model.specs.Between.{changes_between}
use Rattle.history_model.specs.Between as words
use Rattle.proof_model.specs.Refusals.{first_place, same_bytes}
use Rattle.change_history.specs.declared.net.Net.{Net}
use Rattle.change_history.specs.declared.merging.Step.{Step}
use Rattle.change_history.specs.declared.telling.Taken.{Taken}
use Rattle.change_history.specs.declared.fault.HistoryFault.TheVariants as faults
use Rattle.change_history.specs.Histories.{HistoryState, Recalls, held_by, roots, undo_of}
use Rattle.change_history.specs.MergedDeltas.{added_of, turn_of}
use Rattle.change_history.specs.NetChanges.{Turn, net_of, nets_of, turn, map_at, IsSum}
use Rattle.change_history.specs.ToldChanges.{fits, AreListed, Tells, LeadsBack}
use Rattle.change_history.proofs.MergedRuns.{Merging, merging_goes}
use Rattle.change_history.proofs.TakenChanges.{Taking, takes_one, takes_no_more, takes_all}
use Rattle.change_history.proofs.WayBack.{undone}
use Rattle.change_history.proofs.RootPlaces.{Located, found_at}
use Rattle.change_history.proofs.NetsBetweenMaps.{drop-front, not_ended, not_started, both_found}

pub if_ok : {A E : Type 0} (P Q : A → Type 0) (r : Result A E) → ((x : A) → P x → Q x) → IfOk r P → IfOk r Q
if_ok P Q (Ok x) f h = f x h
if_ok P Q (Err e) f h = tt

-- ---- lists of nets

drop-none : {A : Type 0} (k : ℕ) → ◌≡◌ {A = List A} (drop k []) []
drop-none zero = refl
drop-none (suc k) = refl

drop-drop : {A : Type 0} (xs : List A) (i j k : ℕ) → k ≡ i + j → drop j (drop i xs) ≡ drop k xs
drop-drop xs zero j k e = ap (λ n. drop n xs) (omega (arith, e))
drop-drop {A = A} [] (suc i) j k e = drop-none {A = A} j ∙ sym (drop-none {A = A} k)
drop-drop (x ∷ xs) (suc i) j zero e = absurd (omega (arith, e))
drop-drop (x ∷ xs) (suc i) j (suc k) e = drop-drop xs i j k (omega (arith, e))

pub nets-drop : (ns : List Net) (i : ℕ) → nets_of (drop i ns) ≡ drop i (nets_of ns)
nets-drop ns zero = refl
nets-drop [] (suc i) = refl
nets-drop (n ∷ ns) (suc i) = nets-drop ns i

drop_item : (ns : List Net) (i : ℕ) (x : Net) → i < length ns → x ≡ get_or ns i x → drop i ns ≡ x ∷ drop (suc i) ns
drop_item [] i x l is = absurd (omega (arith, l))
drop_item (n ∷ ns) zero x l is = ap (λ n. n ∷ ns) (sym is)
drop_item (n ∷ ns) (suc i) x l is = drop_item ns i x (omega (arith, l)) is

take_item : (ns : List Net) (i : ℕ) (x : Net) → i < length ns → x ≡ get_or ns i x → take (suc i) ns ≡ take i ns ++ x ∷ []
take_item [] i x l is = absurd (omega (arith, l))
take_item (n ∷ ns) zero x l is = ap (λ n. n ∷ []) (sym is)
take_item (n ∷ ns) (suc i) x l is = ap (λ ns. n ∷ ns) (take_item ns i x (omega (arith, l)) is)

nets-push : (ns : List Net) (x : Net) → map undo_of (nets_of (ns ++ x ∷ [])) ≡ map undo_of (nets_of ns) ++ undo_of (net_of x) ∷ []
nets-push [] x = refl
nets-push (n ∷ ns) x = ap (λ cs. undo_of (net_of n) ∷ cs) (nets-push ns x)

-- one more of them, in a loop
pub one_further : (ns : List Net) (i : ℕ) (x : Net) → i < length ns → x ≡ get_or ns i x → map undo_of (nets_of (take i ns)) ++ undo_of (net_of x) ∷ [] ≡ map undo_of (nets_of (take (i + 1) ns))
one_further ns i x l is =
    let next : suc i ≡ i + 1 = omega arith in
    sym (ap (λ ns. map undo_of (nets_of ns)) (take_item ns i x l is) ∙ nets-push (take i ns) x) ∙ ap (λ k. map undo_of (nets_of (take k ns))) next

-- ---- merging

pub merge_step : (older newer merged more added : List Delta) (at beside i j : ℕ) → Merging older newer merged (drop at older) (drop beside newer)
    → Some (record { added = added; older = drop i (drop at older); newer = drop j (drop beside newer) }) ≡ turn (drop at older) (drop beside newer) → more ≡ merged ++ added
    → Merging older newer more (drop (at + i) older) (drop (beside + j) newer)
merge_step older newer merged more added at beside i j m is e =
    let next = merging_goes older newer merged (drop at older) (drop beside newer) (record { added = added; older = drop i (drop at older); newer = drop j (drop beside newer) }) m is in
    subst (λ ds. Merging older newer ds (drop (at + i) older) (drop (beside + j) newer)) (sym e)
    (subst (λ ds. Merging older newer (merged ++ added) ds (drop (beside + j) newer)) (drop-drop older at i (at + i) refl)
    (subst (λ ds. Merging older newer (merged ++ added) (drop i (drop at older)) ds) (drop-drop newer beside j (beside + j) refl) next))

take_most : (ns : List Net) (k : ℕ) → length ns ≤ k → take k ns ≡ ns
take_most [] zero h = refl
take_most [] (suc k) h = refl
take_most (n ∷ ns) zero h = absurd (omega (arith, h))
take_most (n ∷ ns) (suc k) h = ap (λ ns. n ∷ ns) (take_most ns k (omega (arith, h)))

-- the rest of a slice from a place on
pub slice_rest : (ns : List Net) (i : ℕ) → nets_of (take (length ns - i) (drop i ns)) ≡ drop i (nets_of ns)
slice_rest ns i = ap nets_of (take_most (drop i ns) (length ns - i) (omega (arith, length-drop i ns))) ∙ nets-drop ns i

pub step_within : (ns : List Net) (i j : ℕ) → i ≤ length ns → j ≤ length (take (length ns - i) (drop i ns)) → i + j ≤ length ns
step_within ns i j h l = omega (arith, h, l, ap length (take_most (drop i ns) (length ns - i) (omega (arith, length-drop i ns))), length-drop i ns)

pub turned_here : (xs ys us vs : List Delta) (s : Step) (r : Option Step) → option_map (turn_of xs ys) r ≡ turn xs ys → r ≡ Some s → xs ≡ us → ys ≡ vs → Some (turn_of us vs s) ≡ turn us vs
turned_here xs ys us vs s r is e p q =
    subst (λ xs. Some (turn_of xs vs s) ≡ turn xs vs) p (subst (λ ys. Some (turn_of xs ys s) ≡ turn xs ys) q (sym (ap (option_map (turn_of xs ys)) e) ∙ is))

nets-append : (ns : List Net) (x : Net) → nets_of (ns ++ x ∷ []) ≡ nets_of ns ++ net_of x ∷ []
nets-append [] x = refl
nets-append (n ∷ ns) x = ap (λ ds. net_of n ∷ ds) (nets-append ns x)

pub one_added : (merged more : List Net) (o : Option Net) (x : Net) → o ≡ Some x → more ≡ merged ++ x ∷ [] → nets_of more ≡ nets_of merged ++ added_of o
one_added merged more o x e is = ap nets_of is ∙ nets-append merged x ∙ ap (λ o. nets_of merged ++ added_of o) (sym e)

pub none_added : (merged more : List Net) (o : Option Net) → o ≡ None → more ≡ merged → nets_of more ≡ nets_of merged ++ added_of o
none_added merged more o e is = ap nets_of is ∙ sym (append-nil (nets_of merged)) ∙ ap (λ o. nets_of merged ++ added_of o) (sym e)

-- ---- taking

module _ (n z : ℕ) (ns : List Net) (front : List Change) (used i : ℕ) where
  pub item_ahead : (x : Net) → i < length ns → x ≡ get_or ns i x → Taking change_size n z (map change_of (nets_of ns)) front (map change_of (nets_of (drop i ns))) used
      → Taking change_size n z (map change_of (nets_of ns)) front (change_of (net_of x) ∷ map change_of (nets_of (drop (i + 1) ns))) used
  item_ahead x l is t =
      let next : suc i ≡ i + 1 = omega arith in
      subst (λ cs. Taking change_size n z (map change_of (nets_of ns)) front cs used) (ap (λ ns. map change_of (nets_of ns)) (drop_item ns i x l is) ∙ ap (λ k. change_of (net_of x) ∷ map change_of (nets_of (drop k ns))) next) t

  fit_told : (k s : ℕ) (x : Change) (r b : Bool) → r ≡ fits k used s n z → k ≡ length front → s ≡ change_size x → r ≡ b → fits (length front) used (change_size x) n z ≡ b
  fit_told k s x r b is e f t = sym (is ∙ ap (λ k. fits k used s n z) e ∙ ap (λ s. fits (length front) used s n z) f) ∙ t

  pub taken_no_more : (k s : ℕ) (x : Net) (r : Bool) → i < length ns → x ≡ get_or ns i x → r ≡ fits k used s n z → k ≡ length front → s ≡ change_size (change_of (net_of x)) → r ≡ false
      → Taking change_size n z (map change_of (nets_of ns)) front (map change_of (nets_of (drop i ns))) used
      → (front ≡ taken change_size n z (map change_of (nets_of ns))) × (true ≡ is_cut change_size n z (map change_of (nets_of ns)))
  taken_no_more k s x r l is told e f full t =
      takes_no_more change_size n z (map change_of (nets_of ns)) front (map change_of (nets_of (drop (i + 1) ns))) used (change_of (net_of x)) (item_ahead x l is t) (fit_told k s (change_of (net_of x)) r false told e f full)

  pub taken_more : (k s : ℕ) (x : Net) (r : Bool) (c : Change) (more : List Change) → i < length ns → x ≡ get_or ns i x → r ≡ fits k used s n z → k ≡ length front → s ≡ change_size (change_of (net_of x)) → r ≡ true
      → c ≡ change_of (net_of x) → more ≡ front ++ c ∷ []
      → Taking change_size n z (map change_of (nets_of ns)) front (map change_of (nets_of (drop i ns))) used
      → Taking change_size n z (map change_of (nets_of ns)) more (map change_of (nets_of (drop (i + 1) ns))) (used + s)
  taken_more k s x r c more l is told e f room made pushed t =
      subst (λ u. Taking change_size n z (map change_of (nets_of ns)) more (map change_of (nets_of (drop (i + 1) ns))) (used + u)) (sym f)
      (subst (λ cs. Taking change_size n z (map change_of (nets_of ns)) cs (map change_of (nets_of (drop (i + 1) ns))) (used + change_size (change_of (net_of x)))) (sym (pushed ∙ ap (λ c. front ++ c ∷ []) made))
      (takes_one change_size n z (map change_of (nets_of ns)) front (map change_of (nets_of (drop (i + 1) ns))) used (change_of (net_of x)) (item_ahead x l is t) (fit_told k s (change_of (net_of x)) r true told e f room)))

  -- the bytes that are used stay few
  pub still_few : (k s : ℕ) (r : Bool) → r ≡ fits k used s n z → k ≡ length front → r ≡ true → (length front ≡ 0 → used ≡ 0) → s < 2 ^ 64 → z < 2 ^ 32 → used + s < 2 ^ 65
  still_few zero s r told e room fresh small bytes = omega (arith, fresh (sym e), small)
  still_few (suc k) s r told e room fresh small bytes = omega (arith, leb-true (used + s) z (second (nat_lt (suc k) n) (nat_le (used + s) z) (sym told ∙ room)), bytes)
    where
      second : (a b : Bool) → (a && b) ≡ true → b ≡ true
      second true b e = e
      second false b e = absurd (cc)

  pub taken_all : length ns ≤ i → Taking change_size n z (map change_of (nets_of ns)) front (map change_of (nets_of (drop i ns))) used
      → (front ≡ taken change_size n z (map change_of (nets_of ns))) × (false ≡ is_cut change_size n z (map change_of (nets_of ns)))
  taken_all h t = takes_all change_size n z (map change_of (nets_of ns)) front used (subst (λ ms. Taking change_size n z (map change_of (nets_of ns)) front (map change_of (nets_of ms)) used) (none ns i h) t)
    where
      none : (ms : List Net) (k : ℕ) → length ms ≤ k → drop k ms ≡ []
      none [] zero h = refl
      none [] (suc k) h = refl
      none (m ∷ ms) zero h = absurd (omega (arith, h))
      none (m ∷ ms) (suc k) h = none ms k (omega (arith, h))

-- ---- the way back

pub led_back : (h : HistoryState) (place : ℕ) (batch : List Change) (ns ms : List Net) → ((m : Map) → after_batch m batch ≡ after_batch m (map undo_of (nets_of ms))) → ms ≡ ns → IsSum h everything place 0 (nets_of ns)
    → (w : ℕ) (maps : List Map) → Recalls w h maps → after_batch (map_at (held_by h maps) 0) batch ≡ map_at (held_by h maps) place
led_back h place batch ns ms same e sum w maps r =
    same (map_at (held_by h maps) 0) ∙ ap (λ ns. after_batch (map_at (held_by h maps) 0) (map undo_of (nets_of ns))) e
    ∙ undone (map_at (held_by h maps) place) (map_at (held_by h maps) 0) (nets_of ns) (sum w maps r)

-- ---- what is told

module _ (w : ℕ) (h : HistoryState) (maps : List Map) (r : Recalls w h maps) where
  ends_nowhere : (id : List ℕ) (o : Option ℕ) → o ≡ first_place (same_bytes id) 0 (drop 0 (roots h)) → o ≡ None → until_root w (held_by h maps) id ≡ []
  ends_nowhere id o is none = subst (Located w (held_by h maps) id 0) none (found_at w h maps id 0 o is r)

  ends_at : (id : List ℕ) (o : Option ℕ) (p : ℕ) → o ≡ first_place (same_bytes id) 0 (drop 0 (roots h)) → o ≡ Some p → (p < length (held_by h maps)) × (until_root w (held_by h maps) id ≡ drop p (held_by h maps))
  ends_at id o p is some = go (subst (Located w (held_by h maps) id 0) some (found_at w h maps id 0 o is r))
    where
      go : Located w (held_by h maps) id 0 (Some p) → (p < length (held_by h maps)) × (until_root w (held_by h maps) id ≡ drop p (held_by h maps))
      go l = let e : l.0 ≡ p = omega (arith, l.1) in (omega (arith, l.1, l.2), l.3 ∙ ap (λ k. drop k (held_by h maps)) e)

  module _ (from to : List ℕ) (g : Range) (n z : ℕ) (o : Option ℕ) (is : o ≡ first_place (same_bytes to) 0 (drop 0 (roots h))) where
    pub tells_no_end : o ≡ None → Tells n z (changes_between w (held_by h maps) from to g) (Err faults.NoEnd)
    tells_no_end none = subst (λ (x : Result (List Change) words.ChangesRefusal). Tells n z x (Err faults.NoEnd)) (sym (not_ended w (held_by h maps) from to g (ends_nowhere to o is none))) refl

    module _ (p : ℕ) (some : o ≡ Some p) (u : Option ℕ) (was : u ≡ first_place (same_bytes from) p (drop p (roots h))) where
      pub tells_no_start : u ≡ None → Tells n z (changes_between w (held_by h maps) from to g) (Err faults.NoStart)
      tells_no_start none =
          let e = ends_at to o p is some in
          subst (λ (x : Result (List Change) words.ChangesRefusal). Tells n z x (Err faults.NoStart))
          (sym (not_started w (held_by h maps) from to g p e.1 e.0 (subst (Located w (drop p (held_by h maps)) from p) none (found_at w h maps from p u was r)))) refl

      told_between : (q : ℕ) → u ≡ Some q → changes_between w (held_by h maps) from to g ≡ Ok (changes (map_at (held_by h maps) q) (map_at (held_by h maps) p) g)
      told_between q found = go (subst (Located w (drop p (held_by h maps)) from p) found (found_at w h maps from p u was r))
        where
          go : Located w (drop p (held_by h maps)) from p (Some q) → changes_between w (held_by h maps) from to g ≡ Ok (changes (map_at (held_by h maps) q) (map_at (held_by h maps) p) g)
          go l = let e = ends_at to o p is some in both_found w (held_by h maps) from to g p l.0 q e.1 e.0 l.3 l.2 l.1

      pub tells_changes : (q : ℕ) → u ≡ Some q → (t : Taken) → AreListed h g q p n z t → Tells n z (changes_between w (held_by h maps) from to g) (Ok t)
      tells_changes q found t l = subst (λ (x : Result (List Change) words.ChangesRefusal). Tells n z x (Ok t)) (sym (told_between q found)) (l w maps r)

      pub tells_want : (q : ℕ) → u ≡ Some q → Tells n z (changes_between w (held_by h maps) from to g) (Err faults.NoMemory)
      tells_want q found = subst (λ (x : Result (List Change) words.ChangesRefusal). Tells n z x (Err faults.NoMemory)) (sym (told_between q found)) refl

  module _ (id : List ℕ) (o : Option ℕ) (is : o ≡ first_place (same_bytes id) 0 (drop 0 (roots h))) where
    pub leads_nowhere : o ≡ None → LeadsBack (held_by h maps) (until_root w (held_by h maps) id) (Err faults.NoEnd)
    leads_nowhere none = subst (λ ms. LeadsBack (held_by h maps) ms (Err faults.NoEnd)) (sym (ends_nowhere id o is none)) refl

    target : (p : ℕ) → o ≡ Some p → until_root w (held_by h maps) id ≡ map_at (held_by h maps) p ∷ drop (suc p) (held_by h maps)
    target p some = let e = ends_at id o p is some in e.1 ∙ drop-front (held_by h maps) p e.0

    pub leads_want : (p : ℕ) → o ≡ Some p → LeadsBack (held_by h maps) (until_root w (held_by h maps) id) (Err faults.NoMemory)
    leads_want p some = subst (λ ms. LeadsBack (held_by h maps) ms (Err faults.NoMemory)) (sym (target p some)) refl

    pub leads_back : (p : ℕ) → o ≡ Some p → (batch : List Change) → after_batch (map_at (held_by h maps) 0) batch ≡ map_at (held_by h maps) p → LeadsBack (held_by h maps) (until_root w (held_by h maps) id) (Ok batch)
    leads_back p some batch e = subst (λ ms. LeadsBack (held_by h maps) ms (Ok batch)) (sym (target p some)) (go maps r e)
      where
        go : (ms : List Map) → Recalls w h ms → after_batch (map_at (held_by h ms) 0) batch ≡ map_at (held_by h maps) p → LeadsBack (held_by h ms) (map_at (held_by h maps) p ∷ drop (suc p) (held_by h maps)) (Ok batch)
        go [] r e = absurd r
        go (m ∷ ms) r e = e
