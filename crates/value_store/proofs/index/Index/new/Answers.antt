use Rattle.std.proofs.Common.{rules, ap, sym, ◌∙◌, subst}
use Rattle.value_store.specs.Index.{places_of, HasShortKeys}
use Rattle.value_store.proofs.IndexEntries.{places_of-none}
use Rattle.value_store.proofs.ShortKeys.{short-none}
use Rattle.value_store.proofs.index.Index.new.Goals as goal

pub returns : goal.returns
returns c = ap places_of c.new.ensures.empty ∙ places_of-none

pub invariant_of-result : goal.invariant_of-result
invariant_of-result c = (search rules, subst HasShortKeys (sym (ap places_of c.new.ensures.empty ∙ places_of-none)) short-none)
