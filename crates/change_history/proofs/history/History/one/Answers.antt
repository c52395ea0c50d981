use Rattle.std.proofs.Common.{◌≡◌, ◌+◌, ◌∙◌, ap, sym, Vec, Global}
use Rattle.std.specs.List.{slice_get, filter}
use Rattle.std.specs.Option.{option_copied}
use Rattle.history_model.specs.Changes.{lies_in}
use Rattle.change_history.specs.declared.net.Net.{Net}
use Rattle.change_history.specs.Histories.{HistoryState}
use Rattle.change_history.specs.NetChanges.{nets_of, IsSum}
use Rattle.change_history.proofs.CallAnswers.{if_ok}
use Rattle.change_history.proofs.NetsBetweenMaps.{one_sum, none_there}
use Rattle.change_history.proofs.history.History.one.Goals as goal

pub returns-in-Some : goal.returns-in-Some
returns-in-Some c =
    if_ok (λ (v : Vec Net Global). nets_of v.items ≡ filter (lies_in c.args.range.now) c.deltas.result.now) (λ (v : Vec Net Global). IsSum c.args.self.now c.args.range.now (c.args.place + 1) c.args.place (nets_of v.items)) c.list.result
    (λ v e. one_sum c.args.self.now c.args.range.now c.args.place c.in-Some.commit.now (nets_of v.items)
    (sym (ap option_copied c.in-Some.is) ∙ c.get.ensures ∙ ap (λ (h : HistoryState). slice_get h.ring c.args.place) c.self.view_is) (e ∙ ap (filter (lies_in c.args.range.now)) c.deltas.ensures)) c.list.ensures

pub returns-in-None : goal.returns-in-None
returns-in-None c = absurd (none_there c.args.self.now c.args.place (sym (ap option_copied c.in-None.is) ∙ c.get.ensures ∙ ap (λ (h : HistoryState). slice_get h.ring c.args.place) c.self.view_is) c.requires)
