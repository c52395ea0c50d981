-- Whole point proofs: what is spelled is read, and what is read is spelled so.
use Rattle.std.proofs.Common.{◌≡◌, [], ◌∷◌, ◌++◌, refl, sym, ap, ◌∙◌, subst}
use Rattle.std.proofs.lemmas.List.{append-nil}
use Rattle.base_model.specs.Fields.{◌>>=◌}
use Rattle.base_model.proofs.Fields.{Stands-then}
use Rattle.base_model.proofs.Results.{bind_ok}
use Rattle.batch_model.specs.Batch.{value_form}
use Rattle.proof_model.specs.Proofs.{PointProof}
use Rattle.proof_model.specs.Wire.{LongValue, version, point_kind, path_form, point_form, IsPoint, maybe_at, path_at, head_at, all_read, point_of}
use Rattle.proof_model.specs.Laws.{SpelledPointsAreRead, ReadPointsAreSpelled}
use Rattle.proof_model.proofs.WireEnds.{start, factor_small, head_at-IsRead, head_at-Stands, all_read-end, all_read-nil}
use Rattle.proof_model.proofs.WireFields.{maybe_at-IsRead, maybe_at-Stands}
use Rattle.proof_model.proofs.WireNodes.{path_at-IsRead, path_at-Stands}

pub spelled_points_are_read : SpelledPointsAreRead
unfolding point_of
spelled_points_are_read l w p lf vf width fits =
    let bytes = point_form p in
    let h = head_at-IsRead point_kind bytes (value_form p.value ++ path_form p.path) refl in
    let v = maybe_at-IsRead LongValue l.value p.value bytes h.place (path_form p.path) vf fits.value h.inside h.left in
    let n = path_at-IsRead l w p.path bytes v.place [] lf (factor_small w width) fits.path v.inside (v.left ∙ sym (append-nil (path_form p.path))) in
    rw (h.is, v.is, n.is) (all_read-end bytes p n.place n.left n.inside)

pub read_points_are_spelled : ReadPointsAreSpelled
unfolding point_of
read_points_are_spelled l w bytes p fits e =
    let h = bind_ok (head_at point_kind bytes) (λ head. maybe_at LongValue l.value bytes head.1 >>= λ value. path_at l w bytes value.1 >>= λ path. all_read bytes (record { value = value.0; path = path.0 }, path.1)) p e in
    let v = bind_ok (maybe_at LongValue l.value bytes h.0.1) (λ value. path_at l w bytes value.1 >>= λ path. all_read bytes (record { value = value.0; path = path.0 }, path.1)) p h.2 in
    let n = bind_ok (path_at l w bytes v.0.1) (λ path. all_read bytes (record { value = v.0.0; path = path.0 }, path.1)) p v.2 in
    let th = head_at-Stands point_kind bytes h.0.0 h.0.1 h.1 in
    let tv = maybe_at-Stands LongValue l.value bytes h.0.1 v.0.0 v.0.1 fits v.1 in
    let tn = path_at-Stands l w bytes v.0.1 n.0.0 n.0.1 fits n.1 in
    let q : PointProof = record { value = v.0.0; path = n.0.0 } in
    let t = all_read-nil bytes q p n.0.1 n.2 in
    let all = Stands-then bytes 0 h.0.1 n.0.1 (version ∷ point_kind ∷ []) (value_form v.0.0 ++ path_form n.0.0) th (Stands-then bytes h.0.1 v.0.1 n.0.1 (value_form v.0.0) (path_form n.0.0) tv.0 tn.0) in
    let whole : bytes ≡ point_form q = sym (start bytes) ∙ all ∙ ap (λ x. point_form q ++ x) t.1 ∙ append-nil (point_form q) in
    subst (λ p. IsPoint l w p × (bytes ≡ point_form p)) t.0 (record { value = tv.1; path = tn.1 }, whole)
