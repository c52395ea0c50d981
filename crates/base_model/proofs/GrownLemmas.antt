-- Strings to which something was added.
use Rattle.std.proofs.Common.{ℕ, List, ◌++◌, ap, ◌∙◌, append_assoc}
use Rattle.base_model.specs.Bytes.{Grown}

-- what grew, and grew again, has grown
pub Grown-through : (a b c : List ℕ) → Grown a b → Grown b c → Grown a c
Grown-through a b c p q = (p.0 ++ q.0, q.1 ∙ ap (λ x. x ++ q.0) p.1 ∙ append_assoc a p.0 q.0)
