-- What holds of every store holds of it after each call.
use Rattle.std.proofs.Common.{◌≡◌, ◌⊎◌, inl, inr, ℕ, zero, suc, ◌+◌, ◌<◌, ◌≤◌, List, [], ◌∷◌, ◌++◌, length, drop, refl, sym, ap, ◌∙◌, subst, arith, length-append, Option, Some, None, Result, Ok, Err}
use Rattle.std.proofs.lemmas.List.{get_or_append_left, get_or_at, length-map}
use Rattle.trie_model.specs.Maps.{Map, map_digests, root}
use Rattle.trie_model.specs.Table.{Row}
use Rattle.batch_model.specs.Batch.{Change, after_batch}
use Rattle.view_model.specs.Forest.{Forest, Live, no_views, state, path_of, payload, next_number}
use Rattle.view_model.specs.Calls.{made, committed, directed, closed, closed_by, kept_by, MayCommit, parent_refused}
use Rattle.view_model.specs.Maps.{changes_of, view_map, parent_map}
use Rattle.view_model.proofs.LiveViews.{new_view}
use Rattle.view_model.proofs.Commits.{next_is_told}
use Rattle.view_model.proofs.Forests.{no_views-IsForest, new_found}
use Rattle.view_model.proofs.ViewMaps.{changes_found, made_on_parents, commits_take_maps, directs_end_all}
use Rattle.view_model.proofs.Following.{IsThere, Follows, made_follows, closed_follows, committed_follows, directed_follows, made_there, closed_there, committed_there}
use Rattle.change_history.specs.Histories.{HistoryState, held_by, recalled, Remembers}
use Rattle.node_table.specs.Pairs.{AreShort}
use Rattle.mdb_journal.specs.Journal.{payload_limit}
use Rattle.value_store.specs.Values.{ValueState}
use Rattle.view_model.specs.Calls.{Step, Close}
use Rattle.view_stack.specs.ViewAnswers.{done_answer}
use Rattle.view_stack.specs.declared.fault.ViewFault.{ViewFault}
use Rattle.view_stack.specs.declared.fault.ViewFault.TheVariants.{Unknown, NotLive, TooMany, TooDeep, TooHeavy, NoMemory}
use Rattle.disk_model.specs.Files.{Files}
use Rattle.value_store.specs.Values.{Keeps as ValuesKeep}
use Rattle.mdb_core.specs.Stores.{DbState, Keeps, root_at, HasRoots, keys_of, AreDigests, IsStore}
use Rattle.mdb_core.proofs.RootsByDigests.{root_by_digests, laid_by_digests}

-- ---- roots by their numbers

root_at-more : (roots more : List (List ℕ)) (n : ℕ) → 0 < n → n ≤ length roots → root_at (roots ++ more) n ≡ root_at roots n
root_at-more roots more zero some within = absurd (omega arith)
root_at-more roots more (suc i) some within = get_or_append_left roots more [] i (omega arith)

root_at-last : (roots : List (List ℕ)) (id : List ℕ) (n : ℕ) → n ≡ length roots + 1 → root_at (roots ++ id ∷ []) n ≡ id
root_at-last roots id zero e = absurd (omega (arith, e))
root_at-last roots id (suc i) e = get_or_at roots id [] [] i (omega (arith, e))

-- ---- opening

pub opened-IsStore : (v : ValueState) (ds : List (List ℕ × List ℕ)) (w : ℕ) (id : List ℕ) (h : HistoryState) → AreDigests ds → ((m : Map) → ds ≡ map_digests m → id ≡ root w m) → h.root ≡ id
    → IsStore (record { values = v; digests = ds; width = w; root = id; forest = no_views; roots = []; history = h }) None
opened-IsStore v ds w id h some is newest = record {
  digests = some;
  roots = λ m e. record { map = is m e; views = λ n live. absurd (cc) };
  forest = no_views-IsForest;
  counted = refl;
  fits = λ n live. absurd (cc);
  newest = newest;
  nodes_are = tt;
}

-- the disk failed
pub values-IsStore : {rows : Option (List Row)} (s : DbState) (v : ValueState) → IsStore s rows → IsStore (record s { values = v }) rows
values-IsStore s v h = record {
  digests = h.digests;
  roots = λ m e. record { map = (h.roots m e).map; views = (h.roots m e).views };
  forest = h.forest;
  counted = h.counted;
  fits = h.fits;
  newest = h.newest;
  nodes_are = h.nodes_are;
}

-- ---- views that are made

module _ (s : DbState) (rows : Option (List Row)) (h : IsStore s rows) (parent : Option ℕ) (batch : List Change) (may : parent_refused s.forest parent ≡ None) (id : List ℕ) where
  with_view : DbState
  with_view = record s { forest = made s.forest parent batch; roots = s.roots ++ id ∷ [] }

  follows : (m : Map) → Follows s.forest m (made s.forest parent batch) m
  follows m = made_follows s.forest m parent batch h.forest may

  old_root : (n : ℕ) → IsThere s.forest n → root_at (s.roots ++ id ∷ []) n ≡ root_at s.roots n
  old_root n t = let l = h.forest.given n t.0 t.1 in root_at-more s.roots (id ∷ []) n l.0 (omega (arith, l.1, h.counted))

  new_root : root_at (s.roots ++ id ∷ []) (next_number s.forest) ≡ id
  new_root = root_at-last s.roots id (next_number s.forest) (omega (arith, h.counted))

  new_changes : changes_of (made s.forest parent batch) (next_number s.forest) ≡ batch
  new_changes = changes_found (made s.forest parent batch) (next_number s.forest) (new_view s.forest parent batch) (new_found s.forest parent batch h.forest)

  module _ (is : (m : Map) → s.digests ≡ map_digests m → id ≡ root s.width (after_batch (parent_map s.forest m parent) batch)) where
    made-HasRoots : (m : Map) → s.digests ≡ map_digests m → HasRoots (record s { forest = made s.forest parent batch; roots = s.roots ++ id ∷ [] }) m
    made-HasRoots m e = record { map = (h.roots m e).map; views = λ n live. go n live (made_there s.forest parent batch n live) }
      where
        go : (n : ℕ) → state (made s.forest parent batch) n ≡ Some Live → IsThere s.forest n ⊎ (n ≡ next_number s.forest) → root_at (s.roots ++ id ∷ []) n ≡ root s.width (view_map (made s.forest parent batch) m n)
        go n live (inl t) =
            let was = (follows m).live n t live in
            old_root n t ∙ ((h.roots m e).views n was.0 ∙ ap (root s.width) (sym was.1))
        go n live (inr new) =
            ap (root_at (s.roots ++ id ∷ [])) new
            ∙ (new_root ∙ (is m e ∙ (ap (root s.width) (sym (made_on_parents s.forest m parent batch h.forest may).1) ∙ ap (λ k. root s.width (view_map (made s.forest parent batch) m k)) (sym new))))

    pub made-IsStore : payload batch ≤ payload_limit → IsStore (record s { forest = made s.forest parent batch; roots = s.roots ++ id ∷ [] }) rows
    made-IsStore small = record {
      digests = h.digests;
      roots = made-HasRoots;
      forest = (follows h.digests.0).forest;
      counted = omega (arith, h.counted, length-append s.roots (id ∷ []), length-append s.forest.views (new_view s.forest parent batch ∷ []));
      fits = λ n live. go n live (made_there s.forest parent batch n live);
      newest = h.newest;
      nodes_are = h.nodes_are;
    }
      where
        go : (n : ℕ) → state (made s.forest parent batch) n ≡ Some Live → IsThere s.forest n ⊎ (n ≡ next_number s.forest) → payload (changes_of (made s.forest parent batch) n) ≤ payload_limit
        go n live (inl t) =
            let was = (follows h.digests.0).live n t live in
            subst (λ cs. payload cs ≤ payload_limit) (sym was.2) (h.fits n was.0)
        go n live (inr new) = subst (λ cs. payload cs ≤ payload_limit) (sym new_changes ∙ ap (changes_of (made s.forest parent batch)) (sym new)) small

-- ---- views that are closed

pub closed-IsStore : {rows : Option (List Row)} (s : DbState) (c : ℕ) → IsStore s rows → IsStore (record s { forest = closed s.forest c }) rows
closed-IsStore s c h = record {
  digests = h.digests;
  roots = λ m e. record {
    map = (h.roots m e).map;
    views = λ n live. let was = (closed_follows s.forest m c h.forest).live n (closed_there s.forest c n live) live in (h.roots m e).views n was.0 ∙ ap (root s.width) (sym was.1);
  };
  forest = (closed_follows s.forest h.digests.0 c h.forest).forest;
  counted = omega (arith, h.counted, length-map s.forest.views (closed_by (path_of s.forest c)));
  fits = λ n live.
      let was = (closed_follows s.forest h.digests.0 c h.forest).live n (closed_there s.forest c n live) live in
      subst (λ cs. payload cs ≤ payload_limit) (sym was.2) (h.fits n was.0);
  newest = h.newest;
  nodes_are = h.nodes_are;
}

-- ---- views that are committed

module _ (s : DbState) (rows : Option (List Row)) (h : IsStore s rows) (c : ℕ) (may : MayCommit s.forest c) (v : ValueState) (ds : List (List ℕ × List ℕ)) (is : (m : Map) → s.digests ≡ map_digests m → ds ≡ map_digests (after_batch m (changes_of s.forest c))) (short : AreShort (keys_of ds)) (past : HistoryState) (newest : past.root ≡ root_at s.roots c) where
  committed-HasRoots : (m : Map) → ds ≡ map_digests m → HasRoots (record s { values = v; digests = ds; root = root_at s.roots c; forest = committed s.forest c; history = past }) m
  committed-HasRoots m e = record {
    map =
        (h.roots h.digests.0 h.digests.1).views c may.0
        ∙ (ap (root s.width) (sym (commits_take_maps s.forest h.digests.0 c ((next_is_told s.forest c).1 may.1))) ∙ root_by_digests s.width (after_batch h.digests.0 (changes_of s.forest c)) m same);
    views = λ n live.
        let was = (committed_follows s.forest h.digests.0 c h.forest may).live n (committed_there s.forest c n may live) live in
        let g : Forest = committed s.forest c in
        (h.roots h.digests.0 h.digests.1).views n was.0
        ∙ (ap (root s.width) (sym was.1)
        ∙ root_by_digests s.width (view_map g (after_batch h.digests.0 (changes_of s.forest c)) n) (view_map g m n) (laid_by_digests g (after_batch h.digests.0 (changes_of s.forest c)) m (drop (length g.store) (path_of g n)) same));
  }
    where
      same : map_digests (after_batch h.digests.0 (changes_of s.forest c)) ≡ map_digests m
      same = sym (is h.digests.0 h.digests.1) ∙ e

  pub committed-IsStore : IsStore (record s { values = v; digests = ds; root = root_at s.roots c; forest = committed s.forest c; history = past }) None
  committed-IsStore = record {
    digests = (after_batch h.digests.0 (changes_of s.forest c), is h.digests.0 h.digests.1, short);
    roots = committed-HasRoots;
    forest = (committed_follows s.forest h.digests.0 c h.forest may).forest;
    counted = omega (arith, h.counted, length-map s.forest.views (kept_by (s.forest.store ++ c ∷ [])));
    fits = λ n live.
        let was = (committed_follows s.forest h.digests.0 c h.forest may).live n (committed_there s.forest c n may live) live in
        subst (λ cs. payload cs ≤ payload_limit) (sym was.2) (h.fits n was.0);
    newest = newest;
    nodes_are = tt;
  }

-- ---- direct batches

pub directed-IsStore : {rows : Option (List Row)} (s : DbState) (v : ValueState) (ds : List (List ℕ × List ℕ)) (id : List ℕ) (past : HistoryState) → IsStore s rows → AreDigests ds → ((m : Map) → ds ≡ map_digests m → id ≡ root s.width m) → past.root ≡ id
    → IsStore (record s { values = v; digests = ds; root = id; forest = directed s.forest; roots = s.roots ++ id ∷ []; history = past }) None
directed-IsStore s v ds id past h some is newest = record {
  digests = some;
  roots = λ m e. record { map = is m e; views = λ n live. absurd (directs_end_all s.forest n h.forest live) };
  forest = (directed_follows s.forest h.digests.0 h.digests.0 h.forest).forest;
  counted = omega (arith, h.counted, length-append s.roots (id ∷ []), length-map (made s.forest None []).views (kept_by (s.forest.store ++ next_number s.forest ∷ [])), length-append s.forest.views (new_view s.forest None [] ∷ []));
  fits = λ n live. absurd (directs_end_all s.forest n h.forest live);
  newest = newest;
  nodes_are = tt;
}

-- ---- as calls leave the parts of a store

pub kept : {rows : Option (List Row)} (s : DbState) (m : Map) (files : Files) → IsStore s rows → ValuesKeep s.values m files → s.digests ≡ map_digests m → Remembers s.width s.history m → Keeps s m files
kept s m files h values digests past = record { values = values; digests = digests; short = h.digests.2; roots = h.roots m digests; history = past }

-- s is what a store was, as its parts are seen and as the call was told of it
pub applied : {rows : Option (List Row)} (s t : DbState) (v : ValueState) (ds : List (List ℕ × List ℕ)) (id : List ℕ) (past : HistoryState) (batch : List Change) (f g : Forest) (rs qs : List (List ℕ)) → s ≡ t → IsStore s rows
    → ((m : Map) → t.digests ≡ map_digests m → ds ≡ map_digests (after_batch m batch)) → AreShort (keys_of ds) → ((m : Map) → ds ≡ map_digests m → id ≡ root t.width m)
    → past.root ≡ id → f ≡ s.forest → g ≡ directed f → rs ≡ s.roots → qs ≡ rs ++ id ∷ []
    → IsStore (record { values = v; digests = ds; width = s.width; root = id; forest = g; roots = qs; history = past }) None
applied s t v ds id past batch f g rs qs same h laid short is newest f-is g-is rs-is qs-is =
    let forest : directed s.forest ≡ g = ap directed (sym f-is) ∙ sym g-is in
    let roots : s.roots ++ id ∷ [] ≡ qs = ap (λ xs. xs ++ id ∷ []) (sym rs-is) ∙ sym qs-is in
    let some : AreDigests ds = (after_batch h.digests.0 batch, laid h.digests.0 (ap (λ (x : DbState). x.digests) (sym same) ∙ h.digests.1), short) in
    let id-is : (m : Map) → ds ≡ map_digests m → id ≡ root s.width m = λ m e. is m e ∙ ap (λ (x : DbState). root x.width m) (sym same) in
    subst (λ (x : Forest). IsStore (record { values = v; digests = ds; width = s.width; root = id; forest = x; roots = qs; history = past }) None) forest
    (subst (λ (xs : List (List ℕ)). IsStore (record { values = v; digests = ds; width = s.width; root = id; forest = directed s.forest; roots = xs; history = past }) None) roots
    (directed-IsStore s v ds id past h some id-is newest))

pub taken : {rows : Option (List Row)} (s t : DbState) (v : ValueState) (ds : List (List ℕ × List ℕ)) (id : List ℕ) (past : HistoryState) (n : ℕ) (g : Forest) → s ≡ t → IsStore s rows → MayCommit t.forest n
    → ((m : Map) → t.digests ≡ map_digests m → ds ≡ map_digests (after_batch m (changes_of t.forest n))) → AreShort (keys_of ds) → id ≡ root_at t.roots n → past.root ≡ id → g ≡ committed s.forest n
    → IsStore (record { values = v; digests = ds; width = s.width; root = id; forest = g; roots = s.roots; history = past }) None
taken {rows} s t v ds id past n g same h may laid short id-is newest g-is =
    let may' : MayCommit s.forest n = subst (λ (x : DbState). MayCommit x.forest n) (sym same) may in
    let laid' = subst (λ (x : DbState). (m : Map) → x.digests ≡ map_digests m → ds ≡ map_digests (after_batch m (changes_of x.forest n))) (sym same) laid in
    let root_is : id ≡ root_at s.roots n = id-is ∙ ap (λ (x : DbState). root_at x.roots n) (sym same) in
    subst (λ (x : Forest). IsStore (record { values = v; digests = ds; width = s.width; root = id; forest = x; roots = s.roots; history = past }) None) (sym g-is)
    (subst (λ (x : List ℕ). IsStore (record { values = v; digests = ds; width = s.width; root = x; forest = committed s.forest n; roots = s.roots; history = past }) None) (sym root_is)
    (committed-IsStore s rows h n may' v ds laid' short past (newest ∙ root_is)))

-- the history of the store n that a commit made of s: it is that of the map after it, and holds the latest maps
pub recorded : {rows : Option (List Row)} (s t n : DbState) (former m : Map) → s ≡ t → IsStore n rows → n.digests ≡ map_digests m → n.width ≡ s.width
    → ((w : ℕ) → Remembers w s.history former → n.root ≡ root w m → Remembers w n.history m × (recalled n.history m ≡ held_by s.history (m ∷ recalled s.history former)))
    → Remembers t.width t.history former → Remembers n.width n.history m × (recalled n.history m ≡ held_by t.history (m ∷ recalled t.history former))
recorded s t n former m same h digests width-is remembers past =
    let there : Remembers s.width s.history former = subst (λ (x : DbState). Remembers x.width x.history former) (sym same) past in
    subst (λ (x : DbState). Remembers n.width n.history m × (recalled n.history m ≡ held_by x.history (m ∷ recalled x.history former))) same
    (remembers n.width (subst (λ (k : ℕ). Remembers k s.history former) (sym width-is) there) (h.roots m digests).map)

pub proposed : {rows : Option (List Row)} (s t : DbState) (id : List ℕ) (parent : Option ℕ) (batch : List Change) (g : Forest) (rs qs : List (List ℕ)) → s ≡ t → IsStore s rows → parent_refused t.forest parent ≡ None → payload batch ≤ payload_limit
    → ((m : Map) → t.digests ≡ map_digests m → id ≡ root t.width (after_batch (parent_map t.forest m parent) batch)) → g ≡ made s.forest parent batch → rs ≡ s.roots → qs ≡ rs ++ id ∷ []
    → IsStore (record s { forest = g; roots = qs }) rows
proposed {rows} s t id parent batch g rs qs same h may small is g-is rs-is qs-is =
    let may' : parent_refused s.forest parent ≡ None = subst (λ (x : DbState). parent_refused x.forest parent ≡ None) (sym same) may in
    let is' = subst (λ (x : DbState). (m : Map) → x.digests ≡ map_digests m → id ≡ root x.width (after_batch (parent_map x.forest m parent) batch)) (sym same) is in
    let roots : s.roots ++ id ∷ [] ≡ qs = ap (λ xs. xs ++ id ∷ []) (sym rs-is) ∙ sym qs-is in
    subst (λ (x : Forest). IsStore (record s { forest = x; roots = qs }) rows) (sym g-is)
    (subst (λ (xs : List (List ℕ)). IsStore (record s { forest = made s.forest parent batch; roots = xs }) rows) roots
    (made-IsStore s rows h parent batch may' id is' small))

-- the root of a view that was just made
pub root_at-made : {rows : Option (List Row)} (s : DbState) (id : List ℕ) (qs : List (List ℕ)) (n : ℕ) → IsStore s rows → qs ≡ s.roots ++ id ∷ [] → n ≡ next_number s.forest → root_at qs n ≡ id
root_at-made s id qs n h qs-is e = ap (λ xs. root_at xs n) qs-is ∙ root_at-last s.roots id n (omega (arith, e, h.counted))

-- where a view was closed, or not
pub closed_or_not : {rows : Option (List Row)} (s : DbState) (n : ℕ) (res : Result (Unit {0}) ViewFault) (g : Forest) → IsStore s rows → Step s.forest (Close n) (done_answer res) g → IsStore (record s { forest = g }) rows
closed_or_not {rows} s n (Ok x) g h step = subst (λ (f : Forest). IsStore (record s { forest = f }) rows) (sym step.1) (closed-IsStore s n h)
closed_or_not {rows} s n (Err Unknown) g h step = subst (λ (f : Forest). IsStore (record s { forest = f }) rows) (sym step.1) h
closed_or_not {rows} s n (Err (NotLive x)) g h step = subst (λ (f : Forest). IsStore (record s { forest = f }) rows) (sym step.1) h
closed_or_not {rows} s n (Err TooMany) g h step = subst (λ (f : Forest). IsStore (record s { forest = f }) rows) (sym step.1) h
closed_or_not {rows} s n (Err TooDeep) g h step = subst (λ (f : Forest). IsStore (record s { forest = f }) rows) (sym step.1) h
closed_or_not {rows} s n (Err TooHeavy) g h step = subst (λ (f : Forest). IsStore (record s { forest = f }) rows) (sym step.1) h
closed_or_not {rows} s n (Err NoMemory) g h step = absurd step
