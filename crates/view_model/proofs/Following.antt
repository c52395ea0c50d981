-- A forest and a map of its store follow on others: what is live was live before, where it was there, and has the map that it had.
use Rattle.std.proofs.Common.{◌≡◌, ℕ, List, [], ◌∷◌, ◌++◌, refl, sym, ap, ◌∙◌, Option, Some, None, option_map, ◌⊎◌, inl, inr}
use Rattle.trie_model.specs.Maps.{Map}
use Rattle.batch_model.specs.Batch.{Change, after_batch}
use Rattle.view_model.specs.Forest.{View, Forest, Live, view_of, state, path_of, next_number}
use Rattle.view_model.specs.Calls.{made, committed, directed, closed, closed_by, kept_by, MayCommit, parent_refused}
use Rattle.view_model.specs.Maps.{changes_of, view_map}
use Rattle.view_model.specs.Standing.{IsForest}
use Rattle.view_model.proofs.Found.{found-append}
use Rattle.view_model.proofs.Commits.{commits_keep_what_stands_on}
use Rattle.view_model.proofs.LiveViews.{IsAlive, alive, live_found, new_view, found_cases, spared, closed_view, committed_view}
use Rattle.view_model.proofs.Forests.{made-IsForest, closed-IsForest, committed-IsForest, directed-IsForest}
use Rattle.view_model.proofs.ViewMaps.{same_changes, made_view, changes_of-committed, view_map-made, view_map-closed, view_map-committed, directs_end_all}
use Rattle.std.proofs.lemmas.Option.{same_Some}

-- the view of a number is there
abbrev pub IsThere : Forest → ℕ → Type 0
IsThere f n = (v : View) × (view_of f n ≡ Some v)

pub record Follows (f : Forest) (m : Map) (g : Forest) (k : Map) : Type 0 where
  pub forest : IsForest g
  pub there : (n : ℕ) → IsThere f n → IsThere g n
  pub live : (n : ℕ) → IsThere f n → state g n ≡ Some Live → (state f n ≡ Some Live) × (view_map g k n ≡ view_map f m n) × (changes_of g n ≡ changes_of f n)

pub itself_follows : (f : Forest) (m : Map) → IsForest f → Follows f m f m
itself_follows f m h = record { forest = h; there = λ n t. t; live = λ n t l. (l, refl, refl) }

pub follows_through : (f : Forest) (m : Map) (g : Forest) (k : Map) (h : Forest) (l : Map) → Follows f m g k → Follows g k h l → Follows f m h l
follows_through f m g k h l first second = record {
  forest = second.forest;
  there = λ n t. second.there n (first.there n t);
  live = λ n t on. let b = second.live n (first.there n t) on in let a = first.live n t b.0 in (a.0, b.1 ∙ a.1, b.2 ∙ a.2);
}

pub made_follows : (f : Forest) (m : Map) (parent : Option ℕ) (batch : List Change) → IsForest f → parent_refused f parent ≡ None → Follows f m (made f parent batch) m
made_follows f m parent batch h may = record {
  forest = made-IsForest f parent batch h may;
  there = λ n t. (t.0, found-append n f.views (new_view f parent batch ∷ []) t.0 t.1);
  live = λ n t on. live n t (alive (made f parent batch) n on);
}
  where
    live : (n : ℕ) → IsThere f n → IsAlive (made f parent batch) n → (state f n ≡ Some Live) × (view_map (made f parent batch) m n ≡ view_map f m n) × (changes_of (made f parent batch) n ≡ changes_of f n)
    live n t a =
        let same : a.view ≡ t.0 = same_Some _ _ (sym a.is ∙ found-append n f.views (new_view f parent batch ∷ []) t.0 t.1) in
        let before : state f n ≡ Some Live = live_found f n a.view (t.1 ∙ ap Some (sym same)) a.live in
        (before, view_map-made f parent batch m n h before, same_changes f (made f parent batch) n (made_view f parent batch n before))

pub closed_follows : (f : Forest) (m : Map) (c : ℕ) → IsForest f → Follows f m (closed f c) m
closed_follows f m c h = record {
  forest = closed-IsForest f c h;
  there = λ n t. (closed_by (path_of f c) t.0, closed_view f c n ∙ ap (option_map (closed_by (path_of f c))) t.1);
  live = λ n t on. let s = spared f c n (alive (closed f c) n on) in (live_found f n s.before.view s.before.is s.before.live, view_map-closed f c m n h on, same_changes f (closed f c) n s.same);
}

pub committed_follows : (f : Forest) (m : Map) (c : ℕ) → IsForest f → MayCommit f c → Follows f m (committed f c) (after_batch m (changes_of f c))
committed_follows f m c h may = record {
  forest = committed-IsForest f c h may;
  there = λ n t. (kept_by (f.store ++ c ∷ []) t.0, committed_view f c n ∙ ap (option_map (kept_by (f.store ++ c ∷ []))) t.1);
  live = λ n t on. (((commits_keep_what_stands_on f c n may).0 on).0, view_map-committed f c m n h may on, changes_of-committed f c n on);
}

-- whatever the map is then: no view is live
pub directed_follows : (f : Forest) (m k : Map) → IsForest f → Follows f m (directed f) k
directed_follows f m k h = record {
  forest = directed-IsForest f h;
  there = λ n t. (
    kept_by (f.store ++ next_number f ∷ []) t.0,
    committed_view (made f None []) (next_number f) n ∙ ap (option_map (kept_by (f.store ++ next_number f ∷ []))) (found-append n f.views (new_view f None [] ∷ []) t.0 t.1),
  );
  live = λ n t on. absurd (directs_end_all f n h on);
}

-- ---- which views were there before

pub made_there : (f : Forest) (parent : Option ℕ) (batch : List Change) (n : ℕ) → state (made f parent batch) n ≡ Some Live → IsThere f n ⊎ (n ≡ next_number f)
made_there f parent batch n on = go (alive (made f parent batch) n on)
  where
    go : IsAlive (made f parent batch) n → IsThere f n ⊎ (n ≡ next_number f)
    go a = elim (found_cases n f.views (new_view f parent batch) a.view a.is) [ inl old ↦ inl (a.view, old) | inr new ↦ inr (sym new.1) ]

pub closed_there : (f : Forest) (c n : ℕ) → state (closed f c) n ≡ Some Live → IsThere f n
closed_there f c n on = let s = spared f c n (alive (closed f c) n on) in (s.before.view, s.before.is)

pub committed_there : (f : Forest) (c n : ℕ) → MayCommit f c → state (committed f c) n ≡ Some Live → IsThere f n
committed_there f c n may on = let a = alive f n ((commits_keep_what_stands_on f c n may).0 on).0 in (a.view, a.is)
