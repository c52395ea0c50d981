-- The roots of the views of a script.
use Rattle.std.proofs.Common.{◌≡◌, ℕ, suc, Bool, true, false, cond, List, [], ◌∷◌, refl, ap, ◌∙◌, Option, Some, None, Result, Ok, Err, option_map}
use Rattle.std.specs.Option.{option_or}
use Rattle.std.specs.Result.{IfOk}
use Rattle.std.specs.Prelude.{codes}
use Rattle.trie_model.specs.Maps.{Map, root}
use Rattle.batch_model.specs.Batch.{after_batch}
use Rattle.text_model.specs.Texts.{root_text, taken_text}
use Rattle.text_model.specs.Words.{PlaceWord, Db, View as OfView}
use Rattle.view_model.specs.Forest.{Forest, Live, state, next_number}
use Rattle.view_model.specs.Calls.{Refusal, view_refused, refused_in, make_refused, is_next, MayCommit}
use Rattle.view_model.specs.Maps.{view_map, parent_map}
use Rattle.view_model.specs.Standing.{IsForest}
use Rattle.view_model.proofs.Commits.{next_is_told}
use Rattle.view_model.proofs.DeadViews.{live_unless_refused}
use Rattle.view_model.proofs.LiveViews.{new_view}
use Rattle.view_model.proofs.Forests.{no_views-IsForest, new_found, parent_passed}
use Rattle.view_model.proofs.ViewMaps.{made_on_parents, commits_take_maps}
use Rattle.view_model.proofs.Following.{Follows, itself_follows, follows_through, made_follows, closed_follows, committed_follows, directed_follows}
use Rattle.session_model.specs.Refusals.{cause_words, take_refused}
use Rattle.session_model.specs.Session.{Session, Step, Stop, start, step, prints, view_at, map_at, viewed, told, told_unless, take_step}
use Rattle.session_model.specs.Script.{then_play, play}
use Rattle.session_model.specs.Laws.{ViewRootsStay}
use Rattle.session_model.proofs.Outcomes.{Holds, of_step}

-- ---- what a view is committed by

-- a view that is not refused may be committed
may_take : (f : Forest) (n : ℕ) → take_refused f n ≡ None → MayCommit f n
may_take f n h = go (view_refused f n) (is_next f n) refl refl h
  where
    go : (o : Option Refusal) (b : Bool) → view_refused f n ≡ o → is_next f n ≡ b → option_or (option_map cause_words o) (cond b None (Some (codes "not parent"))) ≡ None → MayCommit f n
    go (Some why) b e t h = absurd (cc)
    go None false e t h = absurd (cc)
    go None true e t h = (live_unless_refused (state f n) e, (next_is_told f n).0 t)

-- ---- sessions that follow on others

abbrev pub Goes : Session → Session → Type 0
Goes s t = Follows s.views s.map t.views t.map

line_goes : (w : ℕ) (s : Session) → IsForest s.views → Holds (λ (next : Session × Step). Goes s next.0) w s
line_goes w s h = record {
  still = λ t none. itself_follows s.views s.map h;
  pends = λ key value asks. itself_follows s.views s.map h;
  commits = directed_follows s.views s.map (after_batch s.map s.pending) h;
  drops = λ cause. itself_follows s.views s.map h;
  views = λ place may. made_follows s.views s.map (view_at place) s.pending h (parent_passed s.views (view_at place) s.pending may);
  takes = λ n may. committed_follows s.views s.map n h (may_take s.views n may);
  closes = λ n. closed_follows s.views s.map n h;
}

-- lines go on from where they begin
pub lines_go : (w n : ℕ) (s : Session) (lines : List (List ℕ)) → IsForest s.views → Goes s (play w n s lines).session
lines_go w n s [] h = itself_follows s.views s.map h
lines_go w n s (line ∷ lines) h = go (step w n s line) (of_step (λ (next : Session × Step). Goes s next.0) w s (line_goes w s h) n line) (λ t k. lines_go w (suc n) t lines k)
  where
    go : (r : Result (Session × Step) Stop) → IfOk r (λ (next : Session × Step). Goes s next.0) → ((t : Session) → IsForest t.views → Goes t (play w (suc n) t lines).session)
        → Goes s (then_play s r (λ (t : Session). play w (suc n) t lines)).session
    go (Err stop) first later = itself_follows s.views s.map h
    go (Ok next) first later =
        let t : Session = next.0 in
        let u : Session = (play w (suc n) t lines).session in
        follows_through s.views s.map t.views t.map u.views u.map first (later t first.forest)

-- ---- what is printed

place_map : (s : Session) (place : PlaceWord) → parent_map s.views s.map (view_at place) ≡ map_at s place
place_map s Db = refl
place_map s (OfView n) = refl

-- the map of a view that was made in a session, in one that goes on from there
view_later : (s t : Session) (place : PlaceWord) → IsForest s.views → make_refused s.views (view_at place) s.pending ≡ None → Goes (viewed s place) t → state t.views (next_number s.views) ≡ Some Live
    → view_map t.views t.map (next_number s.views) ≡ after_batch (map_at s place) s.pending
view_later s t place h may goes live =
    let passed = parent_passed s.views (view_at place) s.pending may in
    (goes.live (next_number s.views) (new_view s.views (view_at place) s.pending, new_found s.views (view_at place) s.pending h) live).1
    ∙ ((made_on_parents s.views s.map (view_at place) s.pending h passed).1 ∙ ap (λ (k : Map). after_batch k s.pending) (place_map s place))

-- of a live view the root of its map is told
told_live : (w : ℕ) (t : Session) (n : ℕ) (k : Map) → state t.views n ≡ Some Live → view_map t.views t.map n ≡ k → told t (OfView n) (λ k. root_text (root w k)) ≡ prints (root_text (root w k))
told_live w t n k live e =
    ap (λ o. told_unless (refused_in o) (root_text (root w (view_map t.views t.map n)))) live ∙ ap (λ (x : Map). prints (root_text (root w x))) e

-- and what is printed once it is committed
taken_next : (w : ℕ) (t : Session) (n : ℕ) (k : Map) → is_next t.views n ≡ true → view_map t.views t.map n ≡ k → (take_step w t n).text ≡ taken_text n (root w k)
taken_next w t n k next e = ap (λ (x : Map). taken_text n (root w x)) (commits_take_maps t.views t.map n next ∙ e)

pub view_roots_stay : ViewRootsStay
view_roots_stay w number later m before after place may live =
    let s : Session = (play w number (start m) before).session in
    let t : Session = (play w later (viewed s place) after).session in
    let h : IsForest s.views = (lines_go w number (start m) before no_views-IsForest).forest in
    let made_forest : IsForest (viewed s place).views = (made_follows s.views s.map (view_at place) s.pending h (parent_passed s.views (view_at place) s.pending may)).forest in
    let e = view_later s t place h may (lines_go w later (viewed s place) after made_forest) live in
    (refl, told_live w t (next_number s.views) (after_batch (map_at s place) s.pending) live e, λ next. taken_next w t (next_number s.views) (after_batch (map_at s place) s.pending) next e)
