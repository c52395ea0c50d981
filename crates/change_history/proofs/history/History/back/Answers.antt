use Rattle.change_history.proofs.RootPlaces.{told_back}
use Rattle.change_history.proofs.history.History.back.Goals as goal

pub returns-clause-recalls : goal.returns-clause-recalls
returns-clause-recalls c = λ w maps r. told_back w c.args.commits c.args.self.now maps c.root_at.result c.root_at.ensures r
