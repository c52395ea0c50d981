use Rattle.std.proofs.Common.{sym, ap, ◌∙◌, refl, true, false, Err}
use Rattle.trie_model.specs.Hashing.{zero_id}
use Rattle.mdb_core.proofs.NamedMaps.{newest_root, names_present, present_named, kept_found, none_kept, zeros_found, past_found, none_found}
use Rattle.mdb_core.proofs.store.Db.named.Goals as goal

pub returns-then-eq-clause-names : goal.returns-then-eq-clause-names
returns-then-eq-clause-names c =
    names_present c.args.self.now.history c.args.id c.self.inside.root (newest_root _ c.args.self.now c.self.view_is c.self.invariant) (sym c.eq.ensures ∙ c.if-eq.true)

pub returns-then-eq-clause-named : goal.returns-then-eq-clause-named
returns-then-eq-clause-named c = λ m r.
    present_named c.args.self.now.history c.args.id c.args.self.now.width m r c.self.inside.root (newest_root _ c.args.self.now c.self.view_is c.self.invariant) (sym c.eq.ensures ∙ c.if-eq.true)

pub returns-in-Ok-clause-names : goal.returns-in-Ok-clause-names
returns-in-Ok-clause-names c = kept_found _ c.args.self.now c.args.id c.self.view_is c.in-Ok.ensures.held

pub returns-in-Ok-clause-named : goal.returns-in-Ok-clause-named
returns-in-Ok-clause-named c = λ m r. past_found _ c.args.self.now c.args.id c.self.view_is c.undo_to.result c.undo_to.ensures.recalls m r c.in-Ok.undo c.in-Ok.is

pub returns-then-eq-2-clause-names : goal.returns-then-eq-2-clause-names
unfolding zero_id
returns-then-eq-2-clause-names c = zeros_found _ c.args.self.now c.args.id _ true refl c.self.view_is (none_kept c.args.id c.self.inside.history c.in-Err-NoEnd.field-0 c.in-Err-NoEnd.field-0-is c.in-Err-NoEnd.ensures.held) (sym c.eq-in-Err-NoEnd.ensures ∙ c.if-eq-2.true)

pub returns-then-eq-2-clause-named : goal.returns-then-eq-2-clause-named
unfolding zero_id
returns-then-eq-2-clause-named c = λ m r.
    none_found _ c.args.self.now c.args.id c.self.view_is c.undo_to.result c.undo_to.ensures.recalls m r _ refl (c.in-Err-NoEnd.is ∙ ap Err c.in-Err-NoEnd.field-0-is) (sym c.eq-in-Err-NoEnd.ensures ∙ c.if-eq-2.true)

pub returns-else-eq-2-clause-fault : goal.returns-else-eq-2-clause-fault
unfolding zero_id
returns-else-eq-2-clause-fault c = zeros_found _ c.args.self.now c.args.id _ false refl c.self.view_is (none_kept c.args.id c.self.inside.history c.in-Err-NoEnd.field-0 c.in-Err-NoEnd.field-0-is c.in-Err-NoEnd.ensures.held) (sym c.eq-in-Err-NoEnd.ensures ∙ c.if-eq-2.false)
