use Rattle.std.proofs.Common.{◌≡◌, OnOk, sym, ap, ◌∙◌, subst}
use Rattle.std.specs.Prelude.{option_map}
use Rattle.trie_model.specs.Hashing.{value_digest}
use Rattle.value_store.specs.Index.{IsShort}
use Rattle.mdb_core.proofs.ShortKeys.{short-put, short-remove_entry, short_after}
use Rattle.mdb_core.proofs.LaidChanges.{laid_put, laid_removal}
use Rattle.mdb_core.proofs.digests.Digests.lay_change.Goals as goal

pub returns-in-Some-clause-laid : goal.returns-in-Some-clause-laid
returns-in-Some-clause-laid c = λ m is.
    let key = c.deref.ensures.value ∙ ap (λ x. x.key) c.change.view_is in
    let value = sym (ap (option_map (λ v. v.items)) c.in-Some.is) ∙ ap (λ x. x.value) c.change.view_is in
    let digest = c.value_digest.ensures ∙ ap value_digest c.deref-in-Some.ensures.value in
    subst (λ ds. OnOk c.put_copy.result (c.put_copy.new.self ≡ ds)) (laid_put m c.args.self.now c.args.change.now c.deref.result.now c.in-Some.value.items c.value_digest.result is key value digest) c.put_copy.ensures.ok

pub returns-in-None-clause-laid : goal.returns-in-None-clause-laid
returns-in-None-clause-laid c = λ m is.
    let key = c.deref-in-None.ensures.value ∙ ap (λ x. x.key) c.change.view_is in
    let value = sym (ap (option_map (λ v. v.items)) c.in-None.is) ∙ ap (λ x. x.value) c.change.view_is in
    subst (λ ds. OnOk c.remove_bytes.result (c.remove_bytes.new.self ≡ ds)) (laid_removal m c.args.self.now c.args.change.now c.deref-in-None.result.now is key value) c.remove_bytes.ensures

pub returns-in-Some-clause-short : goal.returns-in-Some-clause-short
returns-in-Some-clause-short c = λ all.
    let key = c.deref.ensures.value ∙ ap (λ x. x.key) c.change.view_is in
    short_after c.put_copy.result c.put_copy.new.self _ c.put_copy.ensures.ok (short-put c.args.self.now c.deref.result.now c.value_digest.result all (subst IsShort (sym key) c.requires.key))

pub returns-in-None-clause-short : goal.returns-in-None-clause-short
returns-in-None-clause-short c = λ all.
    short_after c.remove_bytes.result c.remove_bytes.new.self _ c.remove_bytes.ensures (short-remove_entry c.args.self.now c.deref-in-None.result.now all)
