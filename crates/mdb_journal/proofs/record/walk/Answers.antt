use Rattle.std.proofs.Common.{length, sym, ap, ◌∙◌, subst, arith}
use Rattle.store_model.specs.Refusals.{IsOpen}
use Rattle.disk_model.specs.Files.{Files}
use Rattle.mdb_journal.specs.GateWalk.{IsFound}
use Rattle.mdb_journal.proofs.GateSteps.{one_more, at_end}
use Rattle.mdb_journal.proofs.record.walk.Goals as goal

pub gates-preserved : goal.gates-preserved
gates-preserved g c =
    let w = g.D.Disk.words in
    let old = c.args.disk.now in
    let k = c.gates.invariant in
    let h = rw c.in-Ok-Some.field-0-is at c.in-Ok-Some.ensures in
    record {
      passed = λ told len header.
          let f = h.found told (len ∙ ap (λ (s : Files). length (s c.args.file)) (sym k.untouched.seen)) in
          let here = subst (λ (s : Files). IsOpen (s c.args.file) c.gates.at × IsFound (s c.args.file) c.gates.at c.in-Ok-Some.record) k.untouched.seen f in
          one_more (w.seen old c.args.file) c.gates.at c.in-Ok-Some.record (g.met.D.Disk.lawful.reads_files told old c.args.file).bytes (omega (arith, len, k.inside header)) (k.passed told len header) here.0 here.1;
      inside = λ header. h.on.1;
      start = omega (arith, k.start, h.on.0);
      limit = omega (arith, h.on.1, c.requires.len);
      untouched = record { seen = h.untouched.seen ∙ k.untouched.seen; images = h.untouched.images ∙ k.untouched.images };
      later = omega (arith, k.later, h.later);
    }

pub returns-in-Ok-None-clause-end : goal.returns-in-Ok-None-clause-end
returns-in-Ok-None-clause-end g c = λ told len header.
    let w = g.D.Disk.words in
    let k = c.gates.invariant in
    let h = rw c.in-Ok-None.field-0-is at c.in-Ok-None.ensures in
    let shut = h.found told (len ∙ ap (λ (s : Files). length (s c.args.file)) (sym k.untouched.seen)) in
    at_end (w.seen c.args.disk.now c.args.file) c.gates.at (omega (arith, len, k.inside header)) (k.passed told len header) (λ gate. shut (subst (λ (s : Files). IsOpen (s c.args.file) c.gates.at) (sym k.untouched.seen) gate))
