use Rattle.store_model.proofs.Journals.{maps_follow_records}
use Rattle.store_model.proofs.maps_follow_records.Goals as goal

pub returns : goal.returns
returns c = maps_follow_records
