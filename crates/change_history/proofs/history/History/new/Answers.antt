use Rattle.std.proofs.Common.{◌≡◌, ap}
use Rattle.change_history.proofs.RecalledMaps.{recalls-first}
use Rattle.change_history.proofs.history.History.new.Goals as goal

pub returns-clause-recalls : goal.returns-clause-recalls
returns-clause-recalls c = λ w m e.
    recalls-first w c.args.commits c.args.weight m c.args.root (record { commits = c.in_ok-ring.ring.capacity; weight = c.args.weight; root = c.args.root; ring = c.in_ok-ring.ring.items })
    (ap (λ b. record { commits = b.capacity; weight = c.args.weight; root = c.args.root; ring = b.items }) c.in_ok-ring.ensures) e
