use Rattle.view_model.specs.Forest.{state}
use Rattle.view_stack.proofs.CommittableViews.{live_told}
use Rattle.view_stack.proofs.tests.random.told.Goals as goal

pub chain-requires : goal.chain-requires
chain-requires c = live_told (state c.args.views.now.forest c.args.id.number) c.state.result c.in-Some-Live.field-0 c.state.ensures c.in-Some-Live.is c.in-Some-Live.field-0-is

pub batch-requires : goal.batch-requires
batch-requires c = live_told (state c.args.views.now.forest c.args.id.number) c.state.result c.in-Some-Live.field-0 c.state.ensures c.in-Some-Live.is c.in-Some-Live.field-0-is
