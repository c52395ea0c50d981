use Rattle.std.proofs.Common.{sym, ap, ◌∙◌, subst}
use Rattle.std.specs.List.{AllByRecursion}
use Rattle.trie_model.specs.Maps.{limits}
use Rattle.range_model.specs.Ranges.{IsRange}
use Rattle.proof_model.specs.Paths.{IsProofNode}
use Rattle.proof_model.specs.Proofs.{PointProof}
use Rattle.proof_check.proofs.ClaimItems.{All-append}
use Rattle.proof_check.proofs.tests.claims.checked.Goals as goal

pub verdict-requires-clause-claim : goal.verdict-requires-clause-claim
verdict-requires-clause-claim c = record {
  range = subst (IsRange limits) (sym c.in-Some.ensures.1) c.in-Some.ensures.0;
  reaches = λ s h. h;
  shown = All-append (IsProofNode 4) c.deref-2.result.now c.deref-3.result.now
      (subst (AllByRecursion (IsProofNode 4)) (sym (c.deref-2.ensures.value ∙ ap (λ (p : PointProof). p.path) c.start.view_is)) c.in_ok-start.ensures.nodes)
      (subst (AllByRecursion (IsProofNode 4)) (sym (c.deref-3.ensures.value ∙ ap (λ (p : PointProof). p.path) c.end.view_is)) c.in_ok-end.ensures.nodes);
}
