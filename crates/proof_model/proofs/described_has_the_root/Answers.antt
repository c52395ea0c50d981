use Rattle.proof_model.proofs.DescribedValues.{described_has_the_root}
use Rattle.proof_model.proofs.described_has_the_root.Goals as goal

pub returns : goal.returns
returns c = described_has_the_root
