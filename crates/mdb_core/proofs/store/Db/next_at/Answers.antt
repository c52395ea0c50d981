use Rattle.std.proofs.Common.{◌≡◌, ap, sym, ◌∙◌, subst, IfOk, option_map}
use Rattle.trie_items.specs.Sources.{next_key}
use Rattle.mdb_core.specs.Stores.{DbState, keys_of}
use Rattle.mdb_core.specs.SpotParts.{ProposalState, PastState}
use Rattle.mdb_core.specs.TidyKeys.{tidy}
use Rattle.mdb_core.specs.Spots.{keys_at}
use Rattle.mdb_core.proofs.EmptyMaps.{tidy-digests}
use Rattle.mdb_core.proofs.store.Db.next_at.Goals as goal

pub returns-in-Store : goal.returns-in-Store
returns-in-Store c =
    let keys = sym (tidy-digests c.self.inside.digests c.self.invariant.digests) ∙ (ap (λ (s : DbState). tidy (keys_of s.digests)) c.self.view_is ∙ ap (keys_at c.args.self.now) (sym c.in-Store.is)) in
    subst (λ ks. IfOk c.next.result (λ key. option_map (λ k. k.items) key ≡ next_key c.args.past c.args.from.now ks)) keys c.next.ensures

pub returns-in-View : goal.returns-in-View
returns-in-View c =
    let keys = sym (tidy-digests c.proposal.inside.digests c.proposal.invariant) ∙ (ap (λ (p : ProposalState). tidy (keys_of p.digests)) c.proposal.view_is ∙ ap (keys_at c.args.self.now) (sym c.in-View.is)) in
    subst (λ ks. IfOk c.next-in-View.result (λ key. option_map (λ k. k.items) key ≡ next_key c.args.past c.args.from.now ks)) keys c.next-in-View.ensures

pub returns-in-Past : goal.returns-in-Past
returns-in-Past c =
    let keys = sym (tidy-digests c.former.inside.digests c.former.invariant) ∙ (ap (λ (p : PastState). tidy (keys_of p.digests)) c.former.view_is ∙ ap (keys_at c.args.self.now) (sym c.in-Past.is)) in
    subst (λ ks. IfOk c.next-in-Past.result (λ key. option_map (λ k. k.items) key ≡ next_key c.args.past c.args.from.now ks)) keys c.next-in-Past.ensures
