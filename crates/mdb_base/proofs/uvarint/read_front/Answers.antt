use Rattle.mdb_base.proofs.ReadNumber.{read_long, not_long, read_short, read_padded, read_number, number_fits}
use Rattle.mdb_base.proofs.uvarint.read_front.Goals as goal

pub returns-then-is_long-clause-exact : goal.returns-then-is_long-clause-exact
returns-then-is_long-clause-exact c = read_long c.args.bytes.now c.leading_high_bytes-run.result c.is_long.result c.leading_high_bytes-run.ensures c.is_long.ensures c.if-is_long.true

pub returns-then-run-bytes-clause-exact : goal.returns-then-run-bytes-clause-exact
returns-then-run-bytes-clause-exact c =
    let n = not_long c.args.bytes.now c.leading_high_bytes-run.result c.is_long.result c.leading_high_bytes-run.ensures c.is_long.ensures c.if-is_long.false in
    read_short c.args.bytes.now c.leading_high_bytes-run.result n c.if-run-bytes.true

pub returns-then-is_padded-clause-exact : goal.returns-then-is_padded-clause-exact
returns-then-is_padded-clause-exact c =
    let n = not_long c.args.bytes.now c.leading_high_bytes-run.result c.is_long.result c.leading_high_bytes-run.ensures c.is_long.ensures c.if-is_long.false in
    read_padded c.args.bytes.now c.leading_high_bytes-run.result c.is_padded.result n c.if-run-bytes.false c.is_padded.ensures c.if-is_padded.true

pub value_of_groups-number-requires : goal.value_of_groups-number-requires
value_of_groups-number-requires c =
    let n = not_long c.args.bytes.now c.leading_high_bytes-run.result c.is_long.result c.leading_high_bytes-run.ensures c.is_long.ensures c.if-is_long.false in
    number_fits c.args.bytes.now c.leading_high_bytes-run.result n c.if-run-bytes.false

pub returns-clause-exact : goal.returns-clause-exact
returns-clause-exact c =
    let n = not_long c.args.bytes.now c.leading_high_bytes-run.result c.is_long.result c.leading_high_bytes-run.ensures c.is_long.ensures c.if-is_long.false in
    read_number c.args.bytes.now c.leading_high_bytes-run.result c.value_of_groups-number.result c.is_padded.result n c.if-run-bytes.false c.is_padded.ensures c.if-is_padded.false c.value_of_groups-number.ensures
