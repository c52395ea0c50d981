-- Two runs of deltas as one, step by step.
use Rattle.std.proofs.Common.{◌≡◌, ℕ, Bool, true, false, cond, List, [], ◌∷◌, ◌++◌, map, refl, sym, ap, ◌∙◌, subst, Option, Some, None, Ordering, Less, Equal, Greater}
use Rattle.std.specs.Prelude.{T, ◌&&◌}
use Rattle.std.specs.List.{filter, AllByRecursion}
use Rattle.std.specs.Ordering.{is_lt, is_eq, eq_by_cmp, ordering_reverse, match_ordering}
use Rattle.std.specs.FinMap.{is_sorted}
use Rattle.std.specs.FinMap.Entries.{below_all}
use Rattle.std.proofs.lemmas.Cmp.{nat_list_cmp_total}
use Rattle.std.proofs.lemmas.List.{append-nil}
use Rattle.base_model.specs.Bytes.{bytes_cmp}
use Rattle.trie_model.specs.Maps.{Map}
use Rattle.trie_model.proofs.Entries.{tied_equal}
use Rattle.range_model.specs.Ranges.{Range, holds}
use Rattle.history_model.specs.Changes.{Delta, same_value, deltas, lies_in}
use Rattle.history_model.specs.Laws.{values_at, joined}
use Rattle.history_model.proofs.Values.{same_key}
use Rattle.history_model.proofs.Deltas.{Values, keyed, deltas-sorted, one_list}
use Rattle.history_model.proofs.Changes.{AreSorted, not_found, first, second, inside, inside-sorted, values_at-inside, steps_add_up}
use Rattle.change_history.specs.NetChanges.{Turn, paired, turn}
use Rattle.change_history.specs.MergedDeltas.{AreJoined}

abbrev or : Option Values → Option Values → Option Values
or None v = v
or (Some u) v = Some u

-- ---- order

both : (a b : Bool) → T a → T b → T (a && b)
both true b p q = q
both false b p q = absurd p

less : (o : Ordering) → T (is_lt o) → o ≡ Less
less Less h = refl
less Equal h = absurd h
less Greater h = absurd h

is_less : (o : Ordering) → o ≡ Less → T (is_lt o)
is_less Less h = tt
is_less Equal h = absurd (cc)
is_less Greater h = absurd (cc)

abbrev IsBelow : List ℕ → List Delta → Type 0
IsBelow k ds = T (below_all bytes_cmp k (map keyed ds))

below-through : (j k : List ℕ) (ds : List Delta) → bytes_cmp j k ≡ Less → IsBelow k ds → IsBelow j ds
below-through j k [] e h = tt
below-through j k (d ∷ ds) e h =
    both (is_lt (bytes_cmp j d.key)) (below_all bytes_cmp j (map keyed ds)) (is_less (bytes_cmp j d.key) (nat_list_cmp_total.trans j k d.key e (less (bytes_cmp k d.key) (first _ _ h)))) (below-through j k ds e (second _ _ h))

below-push : (k : List ℕ) (ds : List Delta) (d : Delta) → IsBelow k ds → T (is_lt (bytes_cmp k d.key)) → IsBelow k (ds ++ d ∷ [])
below-push k [] d h l = both (is_lt (bytes_cmp k d.key)) true l tt
below-push k (x ∷ ds) d h l = both (is_lt (bytes_cmp k x.key)) (below_all bytes_cmp k (map keyed (ds ++ d ∷ []))) (first _ _ h) (below-push k ds d (second _ _ h) l)

sorted-push : (ds : List Delta) (d : Delta) → AreSorted ds → AllByRecursion (λ (x : Delta). T (is_lt (bytes_cmp x.key d.key))) ds → AreSorted (ds ++ d ∷ [])
sorted-push [] d h l = tt
sorted-push (x ∷ ds) d h l = both (below_all bytes_cmp x.key (map keyed (ds ++ d ∷ []))) (is_sorted bytes_cmp (map keyed (ds ++ d ∷ []))) (below-push x.key ds d (first _ _ h) l.0) (sorted-push ds d (second _ _ h) l.1)

-- ---- what is found

or-none : (u : Option Values) → or u None ≡ u
or-none None = refl
or-none (Some u) = refl

or-stop : (u : Option Values) (v : Values) (w : Option Values) → or (or u (Some v)) w ≡ or u (Some v)
or-stop None v w = refl
or-stop (Some u) v w = refl

values_at-append : (ds es : List Delta) (q : List ℕ) → values_at (ds ++ es) q ≡ or (values_at ds q) (values_at es q)
values_at-append [] es q = refl
values_at-append (d ∷ ds) es q = go (eq_by_cmp bytes_cmp q d.key) (values_at-append ds es q)
  where
    go : (b : Bool) → values_at (ds ++ es) q ≡ or (values_at ds q) (values_at es q) → cond b (Some (d.before, d.after)) (values_at (ds ++ es) q) ≡ or (cond b (Some (d.before, d.after)) (values_at ds q)) (values_at es q)
    go true ih = refl
    go false ih = ih

-- a key that is another one below all
missed : (q k : List ℕ) (ds : List Delta) → eq_by_cmp bytes_cmp q k ≡ true → IsBelow k ds → values_at ds q ≡ None
missed q k ds e h = ap (values_at ds) (same_key q k e) ∙ not_found k ds h

-- ---- steps

-- of two runs some deltas are merged, and these are left
pub record Merging (xs ys out ds es : List Delta) : Type 0 where
  pub sorted : AreSorted out
  pub left : AreSorted ds
  pub right : AreSorted es
  pub below : AllByRecursion (λ (d : Delta). IsBelow d.key ds × IsBelow d.key es) out
  pub each : (q : List ℕ) → or (values_at out q) (joined (values_at ds q) (values_at es q)) ≡ joined (values_at xs q) (values_at ys q)

pub merging_starts : (xs ys : List Delta) → AreSorted xs → AreSorted ys → Merging xs ys [] xs ys
merging_starts xs ys p q = record { sorted = tt; left = p; right = q; below = tt; each = λ q. refl }

pub merging_ends : (xs ys out : List Delta) → Merging xs ys out [] [] → AreJoined xs ys out
merging_ends xs ys out m = record { ordered = m.sorted; each = λ q. sym (or-none (values_at out q)) ∙ m.each q }

each-push : (P Q : Delta → Type 0) (ds : List Delta) (d : Delta) → ((x : Delta) → P x → Q x) → AllByRecursion P ds → Q d → AllByRecursion Q (ds ++ d ∷ [])
each-push P Q [] d f h q = (q, tt)
each-push P Q (x ∷ ds) d f h q = (f x h.0, each-push P Q ds d f h.1 q)

each-map : (P Q : Delta → Type 0) (ds : List Delta) → ((x : Delta) → P x → Q x) → AllByRecursion P ds → AllByRecursion Q ds
each-map P Q [] f h = tt
each-map P Q (x ∷ ds) f h = (f x h.0, each-map P Q ds f h.1)

module _ (xs ys out : List Delta) where
  left_step : (d : Delta) (ds es : List Delta) → Merging xs ys out (d ∷ ds) es → IsBelow d.key es → Merging xs ys (out ++ d ∷ []) ds es
  left_step d ds es m h = record {
    sorted = sorted-push out d m.sorted (each-map (λ (x : Delta). IsBelow x.key (d ∷ ds) × IsBelow x.key es) (λ (x : Delta). T (is_lt (bytes_cmp x.key d.key))) out (λ x p. first _ _ p.0) m.below);
    left = second _ _ m.left;
    right = m.right;
    below = each-push (λ (x : Delta). IsBelow x.key (d ∷ ds) × IsBelow x.key es) (λ (x : Delta). IsBelow x.key ds × IsBelow x.key es) out d (λ x p. (second _ _ p.0, p.1)) m.below (first _ _ m.left, h);
    each = λ q. ap (λ u. or u (joined (values_at ds q) (values_at es q))) (values_at-append out (d ∷ []) q) ∙ go q (eq_by_cmp bytes_cmp q d.key) refl ∙ m.each q;
  }
    where
      go : (q : List ℕ) (b : Bool) → eq_by_cmp bytes_cmp q d.key ≡ b
          → or (or (values_at out q) (cond b (Some (d.before, d.after)) None)) (joined (values_at ds q) (values_at es q)) ≡ or (values_at out q) (joined (cond b (Some (d.before, d.after)) (values_at ds q)) (values_at es q))
      go q true e = or-stop (values_at out q) (d.before, d.after) (joined (values_at ds q) (values_at es q)) ∙ ap (λ u. or (values_at out q) (joined (Some (d.before, d.after)) u)) (sym (missed q d.key es e h))
      go q false e = ap (λ u. or u (joined (values_at ds q) (values_at es q))) (or-none (values_at out q))

  right_step : (e : Delta) (ds es : List Delta) → Merging xs ys out ds (e ∷ es) → IsBelow e.key ds → Merging xs ys (out ++ e ∷ []) ds es
  right_step e ds es m h = record {
    sorted = sorted-push out e m.sorted (each-map (λ (x : Delta). IsBelow x.key ds × IsBelow x.key (e ∷ es)) (λ (x : Delta). T (is_lt (bytes_cmp x.key e.key))) out (λ x p. first _ _ p.1) m.below);
    left = m.left;
    right = second _ _ m.right;
    below = each-push (λ (x : Delta). IsBelow x.key ds × IsBelow x.key (e ∷ es)) (λ (x : Delta). IsBelow x.key ds × IsBelow x.key es) out e (λ x p. (p.0, second _ _ p.1)) m.below (h, first _ _ m.right);
    each = λ q. ap (λ u. or u (joined (values_at ds q) (values_at es q))) (values_at-append out (e ∷ []) q) ∙ go q (eq_by_cmp bytes_cmp q e.key) refl ∙ m.each q;
  }
    where
      go : (q : List ℕ) (b : Bool) → eq_by_cmp bytes_cmp q e.key ≡ b
          → or (or (values_at out q) (cond b (Some (e.before, e.after)) None)) (joined (values_at ds q) (values_at es q)) ≡ or (values_at out q) (joined (values_at ds q) (cond b (Some (e.before, e.after)) (values_at es q)))
      go q true t = or-stop (values_at out q) (e.before, e.after) (joined (values_at ds q) (values_at es q)) ∙ ap (λ u. or (values_at out q) (joined u (Some (e.before, e.after)))) (sym (missed q e.key ds t h))
      go q false t = ap (λ u. or u (joined (values_at ds q) (values_at es q))) (or-none (values_at out q))

  both_step : (d e : Delta) (ds es : List Delta) → Merging xs ys out (d ∷ ds) (e ∷ es) → d.key ≡ e.key → Merging xs ys (out ++ paired d e) ds es
  both_step d e ds es m k = record {
    sorted = sorted (same_value d.before e.after);
    left = second _ _ m.left;
    right = second _ _ m.right;
    below = below (same_value d.before e.after);
    each = λ q. ap (λ u. or u (joined (values_at ds q) (values_at es q))) (values_at-append out (paired d e) q) ∙ go q (same_value d.before e.after) (eq_by_cmp bytes_cmp q d.key) refl refl
        ∙ ap (λ b. or (values_at out q) (joined (cond (eq_by_cmp bytes_cmp q d.key) (Some (d.before, d.after)) (values_at ds q)) (cond b (Some (e.before, e.after)) (values_at es q)))) (ap (eq_by_cmp bytes_cmp q) k) ∙ m.each q;
  }
    where
      right_below : IsBelow d.key es
      right_below = subst (λ k. IsBelow k es) (sym k) (first _ _ m.right)

      sorted : (s : Bool) → AreSorted (out ++ cond s [] (record { key = d.key; before = d.before; after = e.after } ∷ []))
      sorted true = subst AreSorted (sym (append-nil out)) m.sorted
      sorted false = sorted-push out (record { key = d.key; before = d.before; after = e.after }) m.sorted (each-map (λ (x : Delta). IsBelow x.key (d ∷ ds) × IsBelow x.key (e ∷ es)) (λ (x : Delta). T (is_lt (bytes_cmp x.key d.key))) out (λ x p. first _ _ p.0) m.below)

      below : (s : Bool) → AllByRecursion (λ (x : Delta). IsBelow x.key ds × IsBelow x.key es) (out ++ cond s [] (record { key = d.key; before = d.before; after = e.after } ∷ []))
      below true = subst (AllByRecursion (λ (x : Delta). IsBelow x.key ds × IsBelow x.key es)) (sym (append-nil out)) (each-map (λ (x : Delta). IsBelow x.key (d ∷ ds) × IsBelow x.key (e ∷ es)) (λ (x : Delta). IsBelow x.key ds × IsBelow x.key es) out (λ x p. (second _ _ p.0, second _ _ p.1)) m.below)
      below false = each-push (λ (x : Delta). IsBelow x.key (d ∷ ds) × IsBelow x.key (e ∷ es)) (λ (x : Delta). IsBelow x.key ds × IsBelow x.key es) out (record { key = d.key; before = d.before; after = e.after }) (λ x p. (second _ _ p.0, second _ _ p.1)) m.below (first _ _ m.left, right_below)

      told : Bool → Option Values
      told s = cond s None (Some (d.before, e.after))

      paired_at : (q : List ℕ) (s : Bool) → values_at (cond s [] (record { key = d.key; before = d.before; after = e.after } ∷ [])) q ≡ cond (eq_by_cmp bytes_cmp q d.key) (told s) None
      paired_at q true = none (eq_by_cmp bytes_cmp q d.key)
        where
          none : (b : Bool) → ◌≡◌ {A = Option Values} None (cond b None None)
          none true = refl
          none false = refl
      paired_at q false = refl

      go : (q : List ℕ) (s b : Bool) → same_value d.before e.after ≡ s → eq_by_cmp bytes_cmp q d.key ≡ b
          → or (or (values_at out q) (values_at (paired d e) q)) (joined (values_at ds q) (values_at es q))
          ≡ or (values_at out q) (joined (cond (eq_by_cmp bytes_cmp q d.key) (Some (d.before, d.after)) (values_at ds q)) (cond (eq_by_cmp bytes_cmp q d.key) (Some (e.before, e.after)) (values_at es q)))
      go q s true t u =
          ap (λ v. or (or (values_at out q) v) (joined (values_at ds q) (values_at es q))) (paired_at q (same_value d.before e.after) ∙ ap (λ b. cond b (told (same_value d.before e.after)) None) u)
          ∙ ap (λ v. or (or (values_at out q) (told (same_value d.before e.after))) (joined v (values_at es q))) (missed q d.key ds u (first _ _ m.left))
          ∙ ap (λ v. or (or (values_at out q) (told (same_value d.before e.after))) v) (missed q d.key es u right_below)
          ∙ or-none (or (values_at out q) (told (same_value d.before e.after)))
          ∙ sym (ap (λ b. or (values_at out q) (joined (cond b (Some (d.before, d.after)) (values_at ds q)) (cond b (Some (e.before, e.after)) (values_at es q)))) u)
      go q s false t u =
          ap (λ v. or (or (values_at out q) v) (joined (values_at ds q) (values_at es q))) (paired_at q (same_value d.before e.after) ∙ ap (λ b. cond b (told (same_value d.before e.after)) None) u)
          ∙ ap (λ v. or v (joined (values_at ds q) (values_at es q))) (or-none (values_at out q))
          ∙ sym (ap (λ b. or (values_at out q) (joined (cond b (Some (d.before, d.after)) (values_at ds q)) (cond b (Some (e.before, e.after)) (values_at es q)))) u)

abbrev turned : Delta → List Delta → Delta → List Delta → Ordering → Turn
turned d ds e es o = match_ordering o (record { added = d ∷ []; older = ds; newer = e ∷ es }) (record { added = paired d e; older = ds; newer = es }) (record { added = e ∷ []; older = d ∷ ds; newer = es })

-- one step
pub merging_goes : (xs ys out ds es : List Delta) (t : Turn) → Merging xs ys out ds es → Some t ≡ turn ds es → Merging xs ys (out ++ t.added) t.older t.newer
merging_goes xs ys out [] [] t m e = absurd (cc)
merging_goes xs ys out (d ∷ ds) [] t m e = subst (λ (t : Turn). Merging xs ys (out ++ t.added) t.older t.newer) (some_turn e) (left_step xs ys out d ds [] m tt)
  where
    some_turn : Some t ≡ Some (record { added = d ∷ []; older = ds; newer = [] }) → record { added = d ∷ []; older = ds; newer = [] } ≡ t
    some_turn e = cc
merging_goes xs ys out [] (e ∷ es) t m f = subst (λ (t : Turn). Merging xs ys (out ++ t.added) t.older t.newer) (some_turn f) (right_step xs ys out e [] es m tt)
  where
    some_turn : Some t ≡ Some (record { added = e ∷ []; older = []; newer = es }) → record { added = e ∷ []; older = []; newer = es } ≡ t
    some_turn e = cc
merging_goes xs ys out (d ∷ ds) (e ∷ es) t m f = subst (λ (t : Turn). Merging xs ys (out ++ t.added) t.older t.newer) (some_turn (turned d ds e es (bytes_cmp d.key e.key)) f) (go (bytes_cmp d.key e.key) refl)
  where
    some_turn : (s : Turn) → Some t ≡ Some s → s ≡ t
    some_turn s e = cc

    go : (o : Ordering) → bytes_cmp d.key e.key ≡ o → Merging xs ys (out ++ (turned d ds e es o).added) (turned d ds e es o).older (turned d ds e es o).newer
    go Less l = left_step xs ys out d ds (e ∷ es) m (both (is_lt (bytes_cmp d.key e.key)) (below_all bytes_cmp d.key (map keyed es)) (is_less (bytes_cmp d.key e.key) l) (below-through d.key e.key es l (first _ _ m.right)))
    go Equal l = both_step xs ys out d e ds es m (tied_equal d.key e.key l)
    go Greater l =
        let k : bytes_cmp e.key d.key ≡ Less = nat_list_cmp_total.antisymm e.key d.key ∙ ap ordering_reverse l in
        right_step xs ys out e (d ∷ ds) es m (both (is_lt (bytes_cmp e.key d.key)) (below_all bytes_cmp e.key (map keyed ds)) (is_less (bytes_cmp e.key d.key) k) (below-through e.key d.key ds k (first _ _ m.left)))

-- no step is left
pub merging_done : (ds es : List Delta) → None ≡ turn ds es → (ds ≡ []) × (es ≡ [])
merging_done [] [] e = (refl, refl)
merging_done (d ∷ ds) [] e = absurd (cc)
merging_done [] (d ∷ es) e = absurd (cc)
merging_done (d ∷ ds) (e ∷ es) f = absurd (cc)

-- ---- between three maps

-- the deltas of two steps in a range, as those of one
pub joined_between : (a b c : Map) (r : Range) (ds : List Delta) → AreJoined (inside r (deltas a b)) (inside r (deltas b c)) ds → ds ≡ inside r (deltas a c)
joined_between a b c r ds j = one_list ds (inside r (deltas a c)) j.ordered (inside-sorted r (deltas a c) (deltas-sorted a c)) (λ q.
    j.each q ∙ ap (λ u. joined u (values_at (inside r (deltas b c)) q)) (values_at-inside r (deltas a b) q)
    ∙ ap (joined (cond (holds r q) (values_at (deltas a b) q) None)) (values_at-inside r (deltas b c) q)
    ∙ go (holds r q) (values_at (deltas a b) q) (values_at (deltas b c) q)
    ∙ ap (λ u. cond (holds r q) u None) (sym (steps_add_up a b c q)) ∙ sym (values_at-inside r (deltas a c) q))
  where
    go : (b : Bool) (u v : Option Values) → joined (cond b u None) (cond b v None) ≡ cond b (joined u v) None
    go true u v = refl
    go false u v = refl
