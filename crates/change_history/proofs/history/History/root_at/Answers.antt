use Rattle.std.proofs.Common.{◌≡◌, ◌-◌, ◌∙◌, ap, sym, arith, Some, None, option_map, refl}
use Rattle.std.specs.List.{slice_get}
use Rattle.std.specs.Option.{option_copied}
use Rattle.change_history.specs.Histories.{CommitState, HistoryState, roots}
use Rattle.change_history.proofs.RootPlaces.{root_behind}
use Rattle.change_history.proofs.history.History.root_at.Goals as goal

pub returns-in-Some : goal.returns-in-Some
returns-in-Some c =
    ap Some c.former.ensures
    ∙ root_behind c.args.self.now c.args.place (c.args.place - 1) (Some c.in-Some.commit.now) (omega (arith, c.if-place-eq0.false)) refl (sym (ap option_copied c.in-Some.is) ∙ c.get.ensures ∙ ap (λ (h : HistoryState). slice_get h.ring (c.args.place - 1)) c.self.view_is)

pub returns-in-None : goal.returns-in-None
returns-in-None c =
    root_behind c.args.self.now c.args.place (c.args.place - 1) None (omega (arith, c.if-place-eq0.false)) refl (sym (ap option_copied c.in-None.is) ∙ c.get.ensures ∙ ap (λ (h : HistoryState). slice_get h.ring (c.args.place - 1)) c.self.view_is)
