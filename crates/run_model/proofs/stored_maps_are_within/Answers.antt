use Rattle.run_model.proofs.StoredMaps.{stored_maps_are_within}
use Rattle.run_model.proofs.stored_maps_are_within.Goals as goal

pub returns : goal.returns
returns c = stored_maps_are_within c.read_batches_are_spelled.ensures
