-- Change proofs: what is spelled is read, and what is read is spelled so.
use Rattle.std.proofs.Common.{◌≡◌, ℕ, ◌^◌, ◌<◌, ◌≤◌, List, [], ◌∷◌, ◌++◌, length, drop, Ok, refl, sym, ap, ◌∙◌, arith, subst, append_assoc}
use Rattle.std.proofs.lemmas.List.{append-nil}
use Rattle.base_model.specs.Bytes.{AreBytes}
use Rattle.base_model.specs.Fields.{◌>>=◌, flag_form, flag_at}
use Rattle.base_model.proofs.Fields.{got, IsRead, flag_at-IsRead, Stands, Stands-then, flag_at-Stands}
use Rattle.base_model.proofs.Results.{ok_is, bind_ok}
use Rattle.trie_model.specs.Maps.{Limits}
use Rattle.trie_model.specs.StoredNode.{FitsLimits}
use Rattle.batch_model.specs.Sized.{sized_form}
use Rattle.batch_model.specs.Batch.{Change, IsChange, change_form, value_form}
use Rattle.proof_model.specs.ChangeProofs.{ChangeProof}
use Rattle.proof_model.specs.ChangeWire.{change_kind, changes_form, IsChangeProof, change_at, changes_of}
use Rattle.proof_model.specs.Wire.{Short, Flag, LongKey, LongValue, wrong, version, counted_form, path_form, sized_at, maybe_at, counted_at, path_at, head_at, all_read}
use Rattle.proof_model.specs.Laws.{SpelledChangesAreRead, ReadChangesAreSpelled}
use Rattle.proof_model.proofs.WireEnds.{start, factor_small, head_at-IsRead, head_at-Stands, all_read-end, all_read-nil}
use Rattle.proof_model.proofs.WireFields.{sized_at-IsRead, maybe_at-IsRead, sized_at-Stands, maybe_at-Stands}
use Rattle.proof_model.proofs.WireLists.{counted_at-IsRead, counted_at-Stands}
use Rattle.proof_model.proofs.WireNodes.{path_at-IsRead, path_at-Stands}

-- ---- what is spelled is read

-- a change is read
change_at-IsRead : (l : Limits) → FitsLimits l → l.value < 2 ^ 64 → (c : Change) (bytes : List ℕ) (at : ℕ) (rest : List ℕ) → IsChange l c → at ≤ length bytes → drop at bytes ≡ change_form c ++ rest → IsRead (change_at l bytes at) c bytes rest
unfolding change_at
change_at-IsRead l lf vf c bytes at rest fits h q =
    let k = sized_at-IsRead LongKey l.key c.key bytes at (value_form c.value ++ rest) (omega (arith, lf)) fits.key h (q ∙ append_assoc (sized_form c.key) (value_form c.value) rest) in
    let v = maybe_at-IsRead LongValue l.value c.value bytes k.place rest vf fits.value k.inside k.left in
    record { place = v.place; is = rw (k.is, v.is) (refl {a = got c v.place}); left = v.left; inside = v.inside }

pub spelled_changes_are_read : SpelledChangesAreRead
unfolding changes_of
spelled_changes_are_read l w p lf vf width fits =
    let bytes = changes_form p in
    let paths = path_form p.start ++ path_form p.end in
    let h = head_at-IsRead change_kind bytes (flag_form p.cut ++ (counted_form change_form p.changes ++ paths)) refl in
    let c = flag_at-IsRead (wrong Short) (wrong Flag) p.cut bytes h.place (counted_form change_form p.changes ++ paths) h.inside h.left in
    let e = counted_at-IsRead (change_at l) change_form (IsChange l) (change_at-IsRead l lf vf) p.changes bytes c.place paths fits.changes c.inside c.left in
    let s = path_at-IsRead l w p.start bytes e.place (path_form p.end) lf (factor_small w width) fits.start e.inside e.left in
    let t = path_at-IsRead l w p.end bytes s.place [] lf (factor_small w width) fits.end s.inside (s.left ∙ sym (append-nil (path_form p.end))) in
    rw (h.is, c.is, e.is, s.is, t.is) (all_read-end bytes p t.place t.left t.inside)

-- ---- what is read is spelled so

-- a change that was read stands there, and is within the limits
change_at-Stands : (l : Limits) (bytes : List ℕ) (at : ℕ) (c : Change) (next : ℕ) → AreBytes bytes → change_at l bytes at ≡ got c next → Stands bytes at (change_form c) next × IsChange l c
unfolding change_at
change_at-Stands l bytes at c next fits q =
    let k = bind_ok (sized_at LongKey l.key bytes at) (λ key. maybe_at LongValue l.value bytes key.1 >>= λ value. Ok (record { key = key.0; value = value.0 }, value.1)) (c, next) q in
    let v = bind_ok (maybe_at LongValue l.value bytes k.0.1) (λ value. Ok (record { key = k.0.0; value = value.0 }, value.1)) (c, next) k.2 in
    let tk = sized_at-Stands LongKey l.key bytes at k.0.0 k.0.1 fits k.1 in
    let tv = maybe_at-Stands LongValue l.value bytes k.0.1 v.0.0 v.0.1 fits v.1 in
    let change : Change = record { key = k.0.0; value = v.0.0 } in
    subst (λ (x : Change × ℕ). Stands bytes at (change_form x.0) x.1 × IsChange l x.0) (ok_is (change, v.0.1) (c, next) v.2)
    (Stands-then bytes at k.0.1 v.0.1 (sized_form k.0.0) (value_form v.0.0) tk.0 tv.0, record { key = tk.1; value = tv.1 })

pub read_changes_are_spelled : ReadChangesAreSpelled
unfolding changes_of
read_changes_are_spelled l w bytes p fits q =
    let h = bind_ok (head_at change_kind bytes) (λ head. flag_at (wrong Short) (wrong Flag) bytes head.1 >>= λ cut. counted_at (change_at l) bytes cut.1 >>= λ changes. path_at l w bytes changes.1 >>= λ start. path_at l w bytes start.1 >>= λ end. all_read bytes (record { cut = cut.0; changes = changes.0; start = start.0; end = end.0 }, end.1)) p q in
    let c = bind_ok (flag_at (wrong Short) (wrong Flag) bytes h.0.1) (λ cut. counted_at (change_at l) bytes cut.1 >>= λ changes. path_at l w bytes changes.1 >>= λ start. path_at l w bytes start.1 >>= λ end. all_read bytes (record { cut = cut.0; changes = changes.0; start = start.0; end = end.0 }, end.1)) p h.2 in
    let e = bind_ok (counted_at (change_at l) bytes c.0.1) (λ changes. path_at l w bytes changes.1 >>= λ start. path_at l w bytes start.1 >>= λ end. all_read bytes (record { cut = c.0.0; changes = changes.0; start = start.0; end = end.0 }, end.1)) p c.2 in
    let s = bind_ok (path_at l w bytes e.0.1) (λ start. path_at l w bytes start.1 >>= λ end. all_read bytes (record { cut = c.0.0; changes = e.0.0; start = start.0; end = end.0 }, end.1)) p e.2 in
    let t = bind_ok (path_at l w bytes s.0.1) (λ end. all_read bytes (record { cut = c.0.0; changes = e.0.0; start = s.0.0; end = end.0 }, end.1)) p s.2 in
    let th = head_at-Stands change_kind bytes h.0.0 h.0.1 h.1 in
    let tc = flag_at-Stands (wrong Short) (wrong Flag) bytes h.0.1 c.0.0 c.0.1 c.1 in
    let te = counted_at-Stands (change_at l) change_form (IsChange l) (change_at-Stands l) bytes c.0.1 e.0.0 e.0.1 fits e.1 in
    let ts = path_at-Stands l w bytes e.0.1 s.0.0 s.0.1 fits s.1 in
    let tn = path_at-Stands l w bytes s.0.1 t.0.0 t.0.1 fits t.1 in
    let r : ChangeProof = record { cut = c.0.0; changes = e.0.0; start = s.0.0; end = t.0.0 } in
    let a = all_read-nil bytes r p t.0.1 t.2 in
    let paths = Stands-then bytes e.0.1 s.0.1 t.0.1 (path_form s.0.0) (path_form t.0.0) ts.0 tn.0 in
    let behind = Stands-then bytes h.0.1 c.0.1 t.0.1 (flag_form c.0.0) (counted_form change_form e.0.0 ++ (path_form s.0.0 ++ path_form t.0.0)) tc (Stands-then bytes c.0.1 e.0.1 t.0.1 (counted_form change_form e.0.0) (path_form s.0.0 ++ path_form t.0.0) te.0 paths) in
    let all = Stands-then bytes 0 h.0.1 t.0.1 (version ∷ change_kind ∷ []) (flag_form c.0.0 ++ (counted_form change_form e.0.0 ++ (path_form s.0.0 ++ path_form t.0.0))) th behind in
    let whole : bytes ≡ changes_form r = sym (start bytes) ∙ all ∙ ap (λ x. changes_form r ++ x) a.1 ∙ append-nil (changes_form r) in
    subst (λ p. IsChangeProof l w p × (bytes ≡ changes_form p)) a.0 (record { changes = te.1; start = ts.1; end = tn.1 }, whole)
