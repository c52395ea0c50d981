use Rattle.std.proofs.Common.{◌≡◌, List, Vec, String, Global, Ok, ap, ◌∙◌}
use Rattle.std.proofs.lemmas.Iterator.Adapters.{YieldsList-from_vec, YieldsList-from_skip, fact_from_collect}
use Rattle.std.specs.Vec.Iter.{into_iter_items, into_iter_len}
use Rattle.mdb_tool.proofs.command_line.words_of.Goals as goal

pub returns : goal.returns
returns c =
    let source = c.skip.ensures.source in
    let all = YieldsList-from_vec {s = c.skip.result.iter} (into_iter_items c.args.args) (ap into_iter_items source) (ap into_iter_len source ∙ c.args.args.rest.ok.0) in
    let behind = YieldsList-from_skip {s = c.skip.result} 1 all c.skip.ensures.count in
    let ran = c.in_ok-collect.ensures.ran in
    let IsOf : List (String Global) → Vec (String Global) Global → Type 0 = λ xs v. v.items ≡ xs in
    fact_from_collect {E = Unit {0}} IsOf (Ok c.in_ok-collect.field-0) (ran.0, ran.1, ran.2.0) behind
