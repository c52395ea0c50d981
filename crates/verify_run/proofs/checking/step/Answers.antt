use Rattle.std.proofs.Common.{List, ℕ, subst}
use Rattle.std.specs.Prelude.{string_bytes}
use Rattle.std.specs.Io.KnownBytes.{Appends}
use Rattle.base_model.specs.Streams.{AppendsPrefix}
use Rattle.run_model.specs.End.{Write}
use Rattle.verify_run.proofs.StoresLeft.{goes_as, stops_as, stops_behind, early_ends}
use Rattle.verify_run.proofs.checking.step.Goals as goal

pub returns-in-Err-clause-err : goal.returns-in-Err-clause-err
returns-in-Err-clause-err g c = λ before local.
    stops_as (c.in-Err.ensures.err before local) (λ v h. early_ends c.args.number v (g.K.Sink.taken c.args.out.now) (g.K.Sink.faults c.args.out.now) c.in-Err.end c.in-Err.ensures.early h)

pub returns-in-Ok-write_all-clause-ok : goal.returns-in-Ok-write_all-clause-ok
returns-in-Ok-write_all-clause-ok g c = λ before local.
    let taken = g.K.Sink.taken in
    let printed = subst (λ (t : List ℕ). Appends (taken c.args.out.now) (taken c.write_all.new.out) t) c.as_bytes.ensures.value c.in-Ok-write_all.ensures.ok in
    goes_as (c.in-Ok.ensures.ok before local) (λ v is. (string_bytes c.in-Ok.text, is, printed))

pub returns-clause-err : goal.returns-clause-err
returns-clause-err g c = λ before local.
    let taken = g.K.Sink.taken in
    let printed = subst (λ (t : List ℕ). AppendsPrefix (taken c.args.out.now) (taken c.write_all.new.out) t) c.as_bytes.ensures.value c.write_all.ensures.prefix in
    stops_behind (c.in-Ok.ensures.ok before local) Write (λ is. cc is) (λ why is. cc is) (λ v is. ((string_bytes c.in-Ok.text, is, printed), c.in-Err-write_all.ensures.err))
