use Rattle.std.proofs.Common.{◌≡◌, ◌<◌, ℕ, List, subst, sym, ap, ◌∙◌, refl}
use Rattle.std.specs.Prelude.{MatchOption}
use Rattle.batch_model.specs.Batch.{Change, after_batch}
use Rattle.history_model.specs.Changes.{deltas, weight}
use Rattle.value_store.specs.Values.{Keeps as ValuesKeep}
use Rattle.view_model.specs.Maps.{changes_of}
use Rattle.mdb_core.specs.Stores.{DbState, Keeps}
use Rattle.mdb_core.proofs.StoresAfterCalls.{taken, kept, recorded}
use Rattle.mdb_core.proofs.store.Db.commit.Goals as goal

pub invariant_of-self : goal.invariant_of-self
invariant_of-self g c =
    taken _ c.args.self.now c.write_told.new.values c.in-Ok.digests c.known_root-root.result c.record_commit.new.history c.args.id.number c.committed.new.self.forest c.self.view_is c.self.invariant c.in-Ok.ensures.may.next c.in-Ok.ensures.digests c.in-Ok.ensures.short c.known_root-root.ensures
    c.record_commit.ensures.root c.committed.ensures.step.1

pub returns-in-Ok-write_told-clause-contents : goal.returns-in-Ok-write_told-clause-contents
returns-in-Ok-write_told-clause-contents g c = λ told m k.
    let files = g.D.Disk.words.seen c.write_told.new.disk in
    let before = subst (λ (s : DbState). Keeps s m (g.D.Disk.words.seen c.args.disk.now)) (sym c.self.view_is) k in
    let n = changes_of c.args.self.now.forest c.args.id.number in
    let batch = c.batch.ensures ∙ ap (λ (s : DbState). changes_of s.forest c.args.id.number) c.self.view_is in
    let written = subst (λ (cs : List Change). ValuesKeep c.write_told.new.values (after_batch m cs) files) batch (c.in-Ok-write_told.ensures.contents told m before.values) in
    let read = subst (λ (cs : List Change). MatchOption c.in-Ok-write_told.deltas (c.limit.result < weight m (after_batch m cs)) (λ ds. ds.items ≡ deltas m (after_batch m cs))) batch (c.in-Ok-write_told.ensures.deltas told m before.values) in
    let made = subst (λ (z : ℕ). MatchOption c.in-Ok-write_told.deltas (z < weight m (after_batch m n)) (λ ds. ds.items ≡ deltas m (after_batch m n))) c.limit.ensures read in
    let digests = c.in-Ok.ensures.digests m k.digests in
    let past = recorded _ c.args.self.now _ m (after_batch m n) c.self.view_is (invariant_of-self g c) digests refl (λ w r e. c.record_commit.ensures.remembers w (after_batch m n) m r made e) k.history in
    kept _ (after_batch m n) files (invariant_of-self g c) written digests past.0

pub returns-in-Ok-write_told-clause-held : goal.returns-in-Ok-write_told-clause-held
returns-in-Ok-write_told-clause-held g c = λ told m k.
    let before = subst (λ (s : DbState). Keeps s m (g.D.Disk.words.seen c.args.disk.now)) (sym c.self.view_is) k in
    let n = changes_of c.args.self.now.forest c.args.id.number in
    let batch = c.batch.ensures ∙ ap (λ (s : DbState). changes_of s.forest c.args.id.number) c.self.view_is in
    let read = subst (λ (cs : List Change). MatchOption c.in-Ok-write_told.deltas (c.limit.result < weight m (after_batch m cs)) (λ ds. ds.items ≡ deltas m (after_batch m cs))) batch (c.in-Ok-write_told.ensures.deltas told m before.values) in
    let made = subst (λ (z : ℕ). MatchOption c.in-Ok-write_told.deltas (z < weight m (after_batch m n)) (λ ds. ds.items ≡ deltas m (after_batch m n))) c.limit.ensures read in
    (recorded _ c.args.self.now _ m (after_batch m n) c.self.view_is (invariant_of-self g c) (c.in-Ok.ensures.digests m k.digests) refl (λ w r e. c.record_commit.ensures.remembers w (after_batch m n) m r made e) k.history).1
