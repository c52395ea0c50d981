use Rattle.std.proofs.Common.{length, ap, ◌∙◌}
use Rattle.std.specs.FinMap.{len-entries}
use Rattle.value_store.specs.Values.{ValueState}
use Rattle.value_store.proofs.store.ValueStore.len.Goals as goal

pub returns : goal.returns
returns c = c.len.ensures.len ∙ len-entries c.self.inside.index ∙ ap (λ (s : ValueState). length s.index) c.self.view_is
