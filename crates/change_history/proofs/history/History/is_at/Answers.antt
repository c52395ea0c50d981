use Rattle.std.proofs.Common.{◌≡◌, ◌∙◌, ap, sym, arith}
use Rattle.change_history.specs.Histories.{is_root}
use Rattle.change_history.proofs.RootPlaces.{tested}
use Rattle.change_history.proofs.history.History.is_at.Goals as goal

pub returns-in-Some : goal.returns-in-Some
returns-in-Some c =
    tested c.args.root.now c.in-Some.known c.as_slice.result.now c.as_slice-in-Some.result.now c.cmp.result c.is_eq.result c.is_eq.ensures c.cmp.ensures c.as_slice.ensures c.as_slice-in-Some.ensures
    ∙ ap (is_root c.args.root.now) (sym c.in-Some.is ∙ c.root_at.ensures)
