use Rattle.std.proofs.Common.{◌≡◌, ◌∙◌, ap}
use Rattle.change_history.proofs.CallAnswers.{taken_no_more, taken_more, still_few, taken_all}
use Rattle.change_history.proofs.telling.take.Goals as goal

pub returns-then-not-is_taken : goal.returns-then-not-is_taken
returns-then-not-is_taken c =
    let p = taken_no_more c.args.pairs c.args.bytes c.args.nets.now c.loop-net.changes.items c.loop-net.used c.loop-net.net-index c.len.result c.size-size.result c.net-item.result c.is_taken.result c.loop-net-test.true c.net-item.is c.is_taken.ensures (c.len.ensures ∙ c.loop-net.changes.ok.0) c.size-size.ensures.exact c.if-not-is_taken.true c.loop-net.invariant.taking in
    record { listed = p.0; known = p.1 }

pub loop-net-preserved : goal.loop-net-preserved
loop-net-preserved c = record {
  taking = taken_more c.args.pairs c.args.bytes c.args.nets.now c.loop-net.changes.items c.loop-net.used c.loop-net.net-index c.len.result c.size-size.result c.net-item.result c.is_taken.result c.in_ok-change.field-0 c.push.new.self.items c.loop-net-test.true c.net-item.is c.is_taken.ensures (c.len.ensures ∙ c.loop-net.changes.ok.0) c.size-size.ensures.exact c.if-not-is_taken.false c.in_ok-change.ensures c.in_ok-push.ensures.items c.loop-net.invariant.taking;
  small = still_few c.args.pairs c.args.bytes c.args.nets.now c.loop-net.changes.items c.loop-net.used c.loop-net.net-index c.len.result c.size-size.result c.is_taken.result c.is_taken.ensures (c.len.ensures ∙ c.loop-net.changes.ok.0) c.if-not-is_taken.false c.loop-net.invariant.taking.fresh c.size-size.ensures.small c.ranges.bytes.fits;
}

pub returns : goal.returns
returns c =
    let p = taken_all c.args.pairs c.args.bytes c.args.nets.now c.loop-net.changes.items c.loop-net.used c.loop-net.net-index c.loop-net-test.false c.loop-net.invariant.taking in
    record { listed = p.0; known = p.1 }
