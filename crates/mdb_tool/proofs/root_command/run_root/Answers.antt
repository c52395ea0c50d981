use Rattle.std.proofs.Common.{Err, ap, refl, ◌∙◌}
use Rattle.bit_keys.specs.Branch.{width_of}
use Rattle.run_model.specs.OutsideThings.{outside}
use Rattle.mdb_tool.specs.declared.map_lines.MapFault.{MapFault}
use Rattle.run_model.proofs.ToldThings.{took_nothing}
use Rattle.mdb_tool.proofs.RootEnds.{Found, stopped, found, printed_all, printed_part}
use Rattle.mdb_tool.proofs.root_command.run_root.Goals as goal

pub returns-in-Err-clause-shared : goal.returns-in-Err-clause-shared
returns-in-Err-clause-shared g c = λ disk.
    let before = outside (g.S.Source.left c.args.input.now) (g.S.Source.faults c.args.input.now) (g.K.Sink.taken c.args.out.now) (g.K.Sink.faults c.args.out.now) disk in
    let after = outside (g.S.Source.left c.read_map.new.input) (g.S.Source.faults c.read_map.new.input) (g.K.Sink.taken c.args.out.now) (g.K.Sink.faults c.args.out.now) disk in
    let promises =
    stopped (width_of c.args.branch) before after c.in-Err.fault (took_nothing (g.K.Sink.taken c.args.out.now)) refl
    (λ n is. c.in-Err.ensures.line n (ap (λ (f : MapFault). Err f) is))
    (λ is. c.in-Err.ensures.limit (ap (λ (f : MapFault). Err f) is))
    (λ is. c.in-Err.ensures.read (ap (λ (f : MapFault). Err f) is))
    (λ is. c.in-Err.ensures.undecided (ap (λ (f : MapFault). Err f) is)) in
    rw c.status.ensures promises.shared

pub returns-in-Err-clause-root : goal.returns-in-Err-clause-root
returns-in-Err-clause-root g c = λ disk.
    let before = outside (g.S.Source.left c.args.input.now) (g.S.Source.faults c.args.input.now) (g.K.Sink.taken c.args.out.now) (g.K.Sink.faults c.args.out.now) disk in
    let after = outside (g.S.Source.left c.read_map.new.input) (g.S.Source.faults c.read_map.new.input) (g.K.Sink.taken c.args.out.now) (g.K.Sink.faults c.args.out.now) disk in
    let promises =
    stopped (width_of c.args.branch) before after c.in-Err.fault (took_nothing (g.K.Sink.taken c.args.out.now)) refl
    (λ n is. c.in-Err.ensures.line n (ap (λ (f : MapFault). Err f) is))
    (λ is. c.in-Err.ensures.limit (ap (λ (f : MapFault). Err f) is))
    (λ is. c.in-Err.ensures.read (ap (λ (f : MapFault). Err f) is))
    (λ is. c.in-Err.ensures.undecided (ap (λ (f : MapFault). Err f) is)) in
    rw c.status.ensures promises.root

pub returns-in-Ok-write_all-clause-shared : goal.returns-in-Ok-write_all-clause-shared
returns-in-Ok-write_all-clause-shared g c = λ disk.
    let w = width_of c.args.branch in
    let before = outside (g.S.Source.left c.args.input.now) (g.S.Source.faults c.args.input.now) (g.K.Sink.taken c.args.out.now) (g.K.Sink.faults c.args.out.now) disk in
    let after = outside (g.S.Source.left c.read_map.new.input) (g.S.Source.faults c.read_map.new.input) (g.K.Sink.taken c.write_all.new.out) (g.K.Sink.faults c.write_all.new.out) disk in
    let text = c.as_bytes.result.now in
    let made : Found w before text = found w before c.in-Ok.digests c.in-Ok-into_root.id text c.in-Ok.ensures.made c.in-Ok-into_root.ensures (c.as_bytes.ensures.value ∙ c.in-Ok-line_of_root.ensures) in
    let promises = printed_all w before after text made c.in-Ok.ensures.end c.in-Ok-write_all.ensures.ok refl in
    promises.shared

pub returns-in-Ok-write_all-clause-root : goal.returns-in-Ok-write_all-clause-root
returns-in-Ok-write_all-clause-root g c = λ disk.
    let w = width_of c.args.branch in
    let before = outside (g.S.Source.left c.args.input.now) (g.S.Source.faults c.args.input.now) (g.K.Sink.taken c.args.out.now) (g.K.Sink.faults c.args.out.now) disk in
    let after = outside (g.S.Source.left c.read_map.new.input) (g.S.Source.faults c.read_map.new.input) (g.K.Sink.taken c.write_all.new.out) (g.K.Sink.faults c.write_all.new.out) disk in
    let text = c.as_bytes.result.now in
    let made : Found w before text = found w before c.in-Ok.digests c.in-Ok-into_root.id text c.in-Ok.ensures.made c.in-Ok-into_root.ensures (c.as_bytes.ensures.value ∙ c.in-Ok-line_of_root.ensures) in
    let promises = printed_all w before after text made c.in-Ok.ensures.end c.in-Ok-write_all.ensures.ok refl in
    promises.root

pub returns-clause-shared : goal.returns-clause-shared
returns-clause-shared g c = λ disk.
    let w = width_of c.args.branch in
    let before = outside (g.S.Source.left c.args.input.now) (g.S.Source.faults c.args.input.now) (g.K.Sink.taken c.args.out.now) (g.K.Sink.faults c.args.out.now) disk in
    let after = outside (g.S.Source.left c.read_map.new.input) (g.S.Source.faults c.read_map.new.input) (g.K.Sink.taken c.write_all.new.out) (g.K.Sink.faults c.write_all.new.out) disk in
    let text = c.as_bytes.result.now in
    let made : Found w before text = found w before c.in-Ok.digests c.in-Ok-into_root.id text c.in-Ok.ensures.made c.in-Ok-into_root.ensures (c.as_bytes.ensures.value ∙ c.in-Ok-line_of_root.ensures) in
    let promises = printed_part w before after text made c.in-Err-write_all.ensures.err c.write_all.ensures.prefix refl in
    promises.shared

pub returns-clause-root : goal.returns-clause-root
returns-clause-root g c = λ disk.
    let w = width_of c.args.branch in
    let before = outside (g.S.Source.left c.args.input.now) (g.S.Source.faults c.args.input.now) (g.K.Sink.taken c.args.out.now) (g.K.Sink.faults c.args.out.now) disk in
    let after = outside (g.S.Source.left c.read_map.new.input) (g.S.Source.faults c.read_map.new.input) (g.K.Sink.taken c.write_all.new.out) (g.K.Sink.faults c.write_all.new.out) disk in
    let text = c.as_bytes.result.now in
    let made : Found w before text = found w before c.in-Ok.digests c.in-Ok-into_root.id text c.in-Ok.ensures.made c.in-Ok-into_root.ensures (c.as_bytes.ensures.value ∙ c.in-Ok-line_of_root.ensures) in
    let promises = printed_part w before after text made c.in-Err-write_all.ensures.err c.write_all.ensures.prefix refl in
    promises.root
