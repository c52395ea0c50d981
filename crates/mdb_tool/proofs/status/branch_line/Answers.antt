use Rattle.std.proofs.Common.{◌++◌, sym, ap, ◌∙◌, append_assoc}
use Rattle.std.specs.Prelude.{codes, decimal}
use Rattle.mdb_tool.proofs.status.branch_line.Goals as goal

pub returns : goal.returns
returns c = c.in_ok-format.ensures.ok ∙ ap (λ t. codes "mdb: the store has factor " ++ t) (sym (append_assoc (decimal c.args.kept) (codes ", asked was ") (decimal c.args.asked)))
