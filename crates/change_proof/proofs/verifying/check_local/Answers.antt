use Rattle.std.proofs.Common.{map, ap, ◌∙◌}
use Rattle.bit_keys.specs.Branch.{width_of}
use Rattle.proof_model.specs.ChangeProofs.{ChangeProof}
use Rattle.proof_check.specs.Claims.{pair_of}
use Rattle.change_proof.specs.LaidChanges.{laid}
use Rattle.change_proof.proofs.CheckedRange.{late_idle, idle_at, is_told, is_late, is_cost}
use Rattle.change_proof.proofs.verifying.check_local.Goals as goal

pub returns-in-Some-clause-refusal : goal.returns-in-Some-clause-refusal
returns-in-Some-clause-refusal g c = λ m t.
    late_idle (width_of c.args.branch) c.args.reached.now c.args.proof.now m c.in_ok-pairs.pairs.items (c.in_ok-pairs.ensures.told m t) c.requires.inside c.args.root.now c.in-Some.place
    (idle_at c.first_idle.result c.deref.result.now c.in_ok-pairs.pairs.items c.deref-2.result.now c.args.proof.now.changes c.first_idle.ensures c.deref.ensures.value (c.deref-2.ensures.value ∙ ap (λ (p : ChangeProof). p.changes) c.proof.view_is) ∙ c.in-Some.is)

pub returns-clause-refusal : goal.returns-clause-refusal
returns-clause-refusal g c = λ m t.
    let w = width_of c.args.branch in
    let p = c.args.proof.now in
    let local = c.in_ok-pairs.pairs.items in
    let entries = ap (map pair_of) c.as_slice.ensures.value ∙ c.in_ok-entries.ensures ∙ ap (λ es. laid es c.deref-4.result.now) c.deref-3.ensures.value ∙ ap (laid local) (c.deref-4.ensures.value ∙ ap (λ (p : ChangeProof). p.changes) c.proof.view_is) in
    let start = c.as_slice-2.ensures.value ∙ ap (λ (p : ChangeProof). p.start) c.proof.view_is in
    let end = c.as_slice-3.ensures.value ∙ ap (λ (p : ChangeProof). p.end) c.proof.view_is in
    let none = idle_at c.first_idle.result c.deref.result.now local c.deref-2.result.now p.changes c.first_idle.ensures c.deref.ensures.value (c.deref-2.ensures.value ∙ ap (λ (p : ChangeProof). p.changes) c.proof.view_is) ∙ c.in_default.is in
    is_told w c.args.reached.now p c.args.root.now local c.as_slice.result.now c.as_slice-2.result.now c.as_slice-3.result.now c.in_ok-pairs.ensures.sorted c.in_ok-pairs.ensures.inside c.requires.inside c.requires.paths entries start end c.check.result c.check.ensures.told m (c.in_ok-pairs.ensures.told m t) none

pub returns-clause-late : goal.returns-clause-late
returns-clause-late g c =
    let w = width_of c.args.branch in
    let p = c.args.proof.now in
    let local = c.in_ok-pairs.pairs.items in
    let entries = ap (map pair_of) c.as_slice.ensures.value ∙ c.in_ok-entries.ensures ∙ ap (λ es. laid es c.deref-4.result.now) c.deref-3.ensures.value ∙ ap (laid local) (c.deref-4.ensures.value ∙ ap (λ (p : ChangeProof). p.changes) c.proof.view_is) in
    let start = c.as_slice-2.ensures.value ∙ ap (λ (p : ChangeProof). p.start) c.proof.view_is in
    let end = c.as_slice-3.ensures.value ∙ ap (λ (p : ChangeProof). p.end) c.proof.view_is in
    is_late w c.args.reached.now p c.args.root.now local c.as_slice.result.now c.as_slice-2.result.now c.as_slice-3.result.now c.in_ok-pairs.ensures.sorted c.in_ok-pairs.ensures.inside c.requires.inside c.requires.paths entries start end c.check.result c.check.ensures.told

pub returns-clause-cost : goal.returns-clause-cost
returns-clause-cost g c = λ m t.
    let w = width_of c.args.branch in
    let p = c.args.proof.now in
    let local = c.in_ok-pairs.pairs.items in
    let entries = ap (map pair_of) c.as_slice.ensures.value ∙ c.in_ok-entries.ensures ∙ ap (λ es. laid es c.deref-4.result.now) c.deref-3.ensures.value ∙ ap (laid local) (c.deref-4.ensures.value ∙ ap (λ (p : ChangeProof). p.changes) c.proof.view_is) in
    let start = c.as_slice-2.ensures.value ∙ ap (λ (p : ChangeProof). p.start) c.proof.view_is in
    let end = c.as_slice-3.ensures.value ∙ ap (λ (p : ChangeProof). p.end) c.proof.view_is in
    is_cost w c.args.reached.now p c.args.root.now local c.as_slice.result.now c.as_slice-2.result.now c.as_slice-3.result.now c.in_ok-pairs.ensures.sorted c.in_ok-pairs.ensures.inside c.requires.inside c.requires.paths entries start end c.check.result c.args.steps.now c.check.new.steps m (c.in_ok-pairs.ensures.told m t) c.check.ensures.cost
