use Rattle.std.proofs.Common.{◌≡◌, length, take, drop, ap, ◌∙◌, arith}
use Rattle.std.proofs.lemmas.List.{take_at}
use Rattle.value_store.proofs.place_reading.read_value.Goals as goal

pub returns-clause-value : goal.returns-clause-value
returns-clause-value g c = λ told.
    let place = c.args.place in
    let here = drop place.start (g.D.Disk.words.seen c.args.disk.now c.args.journal.now.file) in
    let new = c.read.new.into in
    let count : length c.deref_mut.result.now ≡ place.count = omega (arith, c.deref_mut.ensures.len, c.in-Ok.ensures.len) in
    let long : length new ≡ c.in-Ok.value.len = omega (arith, c.read.auto.into, c.deref_mut.ensures.len) in
    let read : new ≡ take (length c.deref_mut.result.now) here = c.in-Ok-read.ensures.bytes told in
    take_at new (drop (length new) c.in-Ok.value.items) c.in-Ok.value.len long
    ∙ read
    ∙ ap (λ n. take n here) count
