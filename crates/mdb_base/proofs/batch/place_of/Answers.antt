use Rattle.std.proofs.Common.{rules}
use Rattle.std.proofs.lemmas.Fn.{always_returns_same}
use Rattle.base_model.specs.Bytes.{bytes_cmp}
use Rattle.batch_model.specs.Batch.{Change}
use Rattle.mdb_base.proofs.ChangePlaces.{searched}
use Rattle.mdb_base.proofs.batch.place_of.Goals as goal

pub returns-clause-found : goal.returns-clause-found
returns-clause-found c =
    let facts = c.binary_search_by.ensures in
    let by_key = facts.position (λ (x : Change). bytes_cmp x.key c.args.key.now) (always_returns_same _ _ _ (λ a r g called. search rules)) in
    (searched c.args.changes.now c.args.key.now c.requires c.binary_search_by.result facts.bound by_key).found

pub returns-clause-absent : goal.returns-clause-absent
returns-clause-absent c =
    let facts = c.binary_search_by.ensures in
    let by_key = facts.position (λ (x : Change). bytes_cmp x.key c.args.key.now) (always_returns_same _ _ _ (λ a r g called. search rules)) in
    (searched c.args.changes.now c.args.key.now c.requires c.binary_search_by.result facts.bound by_key).absent
