use Rattle.std.proofs.Common.{◌≡◌, ◌<◌, ℕ, subst, sym, refl}
use Rattle.std.specs.Prelude.{MatchOption}
use Rattle.batch_model.specs.Batch.{after_batch}
use Rattle.history_model.specs.Changes.{deltas, weight}
use Rattle.mdb_core.specs.Stores.{DbState, Keeps}
use Rattle.mdb_core.proofs.StoresAfterCalls.{applied, kept, recorded}
use Rattle.mdb_core.proofs.store.Db.apply.Goals as goal

pub invariant_of-self-in-Ok-write_told : goal.invariant_of-self-in-Ok-write_told
invariant_of-self-in-Ok-write_told g c =
    applied _ c.args.self.now c.write_told.new.values c.in-Ok.next.digests c.in-Ok.next.root c.record_commit.new.history c.args.batch c.make_room.new.views.forest c.direct-id.new.self.forest c.make_room.new.roots.items c.push_reserved.new.self.items
    c.self.view_is c.self.invariant c.in-Ok.ensures.digests c.in-Ok.ensures.short c.in-Ok.ensures.root c.record_commit.ensures.root c.make_room.ensures.forest c.direct-id.ensures.step.2 c.make_room.ensures.roots c.push_reserved.ensures.items

pub returns-in-Ok-write_told-clause-contents : goal.returns-in-Ok-write_told-clause-contents
returns-in-Ok-write_told-clause-contents g c = λ told m k.
    let w = g.D.Disk.words in
    let before = subst (λ (s : DbState). Keeps s m (w.seen c.args.disk.now)) (sym c.self.view_is) k in
    let digests = c.in-Ok.ensures.digests m k.digests in
    let made = subst (λ (z : ℕ). MatchOption c.in-Ok-write_told.deltas (z < weight m (after_batch m c.args.batch)) (λ ds. ds.items ≡ deltas m (after_batch m c.args.batch))) c.limit.ensures (c.in-Ok-write_told.ensures.deltas told m before.values) in
    let past = recorded _ c.args.self.now _ m (after_batch m c.args.batch) c.self.view_is (invariant_of-self-in-Ok-write_told g c) digests refl (λ n r e. c.record_commit.ensures.remembers n (after_batch m c.args.batch) m r made e) k.history in
    kept _ (after_batch m c.args.batch) (w.seen c.write_told.new.disk) (invariant_of-self-in-Ok-write_told g c) (c.in-Ok-write_told.ensures.contents told m before.values) digests past.0

pub returns-in-Ok-write_told-clause-held : goal.returns-in-Ok-write_told-clause-held
returns-in-Ok-write_told-clause-held g c = λ told m k.
    let before = subst (λ (s : DbState). Keeps s m (g.D.Disk.words.seen c.args.disk.now)) (sym c.self.view_is) k in
    let made = subst (λ (z : ℕ). MatchOption c.in-Ok-write_told.deltas (z < weight m (after_batch m c.args.batch)) (λ ds. ds.items ≡ deltas m (after_batch m c.args.batch))) c.limit.ensures (c.in-Ok-write_told.ensures.deltas told m before.values) in
    (recorded _ c.args.self.now _ m (after_batch m c.args.batch) c.self.view_is (invariant_of-self-in-Ok-write_told g c) (c.in-Ok.ensures.digests m k.digests) refl (λ n r e. c.record_commit.ensures.remembers n (after_batch m c.args.batch) m r made e) k.history).1
