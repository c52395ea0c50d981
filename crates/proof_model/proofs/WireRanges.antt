-- Range proofs: what is spelled is read, and what is read is spelled so.
use Rattle.std.proofs.Common.{◌≡◌, ℕ, zero, suc, ◌^◌, ◌<◌, ◌≤◌, List, [], ◌∷◌, ◌++◌, length, drop, Ok, refl, sym, ap, ◌∙◌, arith, subst, append_assoc}
use Rattle.std.specs.List.{flat_map, AllByRecursion}
use Rattle.std.proofs.lemmas.List.{append-nil}
use Rattle.std.proofs.lemmas.List.Concat.{flat_map-cons}
use Rattle.base_model.specs.Bytes.{AreBytes}
use Rattle.base_model.specs.Uvarint.{uvarint}
use Rattle.base_model.specs.Fields.{◌>>=◌, flag_form, number_at, flag_at}
use Rattle.base_model.proofs.Fields.{got, IsRead, number_at-IsRead, flag_at-IsRead, Stands, Stands-then, number_at-Stands, flag_at-Stands}
use Rattle.base_model.proofs.Results.{ok_is, bind_ok}
use Rattle.trie_model.specs.Maps.{Limits}
use Rattle.trie_model.specs.StoredNode.{FitsLimits}
use Rattle.batch_model.specs.Sized.{sized_form}
use Rattle.proof_model.specs.Proofs.{Pair}
use Rattle.proof_model.specs.RangeProofs.{RangeProof}
use Rattle.proof_model.specs.RangeWire.{range_kind, pair_form, pairs_form, range_form, IsWirePair, ArePairs, IsRangeProof, pair_at, pairs_at, range_of}
use Rattle.proof_model.specs.Wire.{Short, Flag, LongKey, LongValue, wrong, bad_number, version, path_form, sized_at, path_at, head_at, all_read}
use Rattle.proof_model.specs.Laws.{SpelledRangesAreRead, ReadRangesAreSpelled}
use Rattle.proof_model.proofs.WireEnds.{start, factor_small, head_at-IsRead, head_at-Stands, all_read-end, all_read-nil}
use Rattle.proof_model.proofs.WireFields.{sized_at-IsRead, sized_at-Stands}
use Rattle.proof_model.proofs.WireLists.{counted_at-IsRead, counted_at-Stands}
use Rattle.proof_model.proofs.WireNodes.{path_at-IsRead, path_at-Stands}

-- ---- what is spelled is read

-- a pair is read
pair_at-IsRead : (l : Limits) (e : Pair) (bytes : List ℕ) (at : ℕ) (rest : List ℕ) → FitsLimits l → l.value < 2 ^ 64 → IsWirePair l e → at ≤ length bytes → drop at bytes ≡ pair_form e ++ rest → IsRead (pair_at l bytes at) e bytes rest
unfolding pair_at
pair_at-IsRead l e bytes at rest lf vf fits h q =
    let k = sized_at-IsRead LongKey l.key e.0 bytes at (sized_form e.1 ++ rest) (omega (arith, lf)) fits.key h (q ∙ append_assoc (sized_form e.0) (sized_form e.1) rest) in
    let v = sized_at-IsRead LongValue l.value e.1 bytes k.place rest vf fits.value k.inside k.left in
    record { place = v.place; is = rw (k.is, v.is) (refl {a = got e v.place}); left = v.left; inside = v.inside }

-- so are pairs behind their number
pairs_at-IsRead : (l : Limits) (es : List Pair) (bytes : List ℕ) (at : ℕ) (rest : List ℕ) → FitsLimits l → l.value < 2 ^ 64 → ArePairs l es → at ≤ length bytes → drop at bytes ≡ pairs_form es ++ rest → IsRead (pairs_at l bytes at) es bytes rest
pairs_at-IsRead l es bytes at rest lf vf fits h q =
    counted_at-IsRead (pair_at l) pair_form (IsWirePair l) (λ e bytes at rest fits h q. pair_at-IsRead l e bytes at rest lf vf fits h q) es bytes at rest fits h q

pub spelled_ranges_are_read : SpelledRangesAreRead
unfolding range_of
spelled_ranges_are_read l w p lf vf width fits =
    let bytes = range_form p in
    let paths = path_form p.start ++ path_form p.end in
    let h = head_at-IsRead range_kind bytes (flag_form p.cut ++ (pairs_form p.pairs ++ paths)) refl in
    let c = flag_at-IsRead (wrong Short) (wrong Flag) p.cut bytes h.place (pairs_form p.pairs ++ paths) h.inside h.left in
    let e = pairs_at-IsRead l p.pairs bytes c.place paths lf vf fits.pairs c.inside c.left in
    let s = path_at-IsRead l w p.start bytes e.place (path_form p.end) lf (factor_small w width) fits.start e.inside e.left in
    let t = path_at-IsRead l w p.end bytes s.place [] lf (factor_small w width) fits.end s.inside (s.left ∙ sym (append-nil (path_form p.end))) in
    rw (h.is, c.is, e.is, s.is, t.is) (all_read-end bytes p t.place t.left t.inside)

-- ---- what is read is spelled so

-- a pair that was read stands there, and is within the limits
pair_at-Stands : (l : Limits) (bytes : List ℕ) (at : ℕ) (e : Pair) (next : ℕ) → AreBytes bytes → pair_at l bytes at ≡ got e next → Stands bytes at (pair_form e) next × IsWirePair l e
unfolding pair_at
pair_at-Stands l bytes at e next fits q =
    let k = bind_ok (sized_at LongKey l.key bytes at) (λ key. sized_at LongValue l.value bytes key.1 >>= λ value. Ok ((key.0, value.0), value.1)) (e, next) q in
    let v = bind_ok (sized_at LongValue l.value bytes k.0.1) (λ value. Ok ((k.0.0, value.0), value.1)) (e, next) k.2 in
    let tk = sized_at-Stands LongKey l.key bytes at k.0.0 k.0.1 fits k.1 in
    let tv = sized_at-Stands LongValue l.value bytes k.0.1 v.0.0 v.0.1 fits v.1 in
    let pair : Pair = (k.0.0, v.0.0) in
    subst (λ (x : Pair × ℕ). Stands bytes at (pair_form x.0) x.1 × IsWirePair l x.0) (ok_is (pair, v.0.1) (e, next) v.2)
    (Stands-then bytes at k.0.1 v.0.1 (sized_form k.0.0) (sized_form v.0.0) tk.0 tv.0, record { key = tk.1; value = tv.1 })

-- so do pairs behind their number
pairs_at-Stands : (l : Limits) (bytes : List ℕ) (at : ℕ) (es : List Pair) (next : ℕ) → AreBytes bytes → pairs_at l bytes at ≡ got es next → Stands bytes at (pairs_form es) next × ArePairs l es
pairs_at-Stands l bytes at es next fits q = counted_at-Stands (pair_at l) pair_form (IsWirePair l) (pair_at-Stands l) bytes at es next fits q

pub read_ranges_are_spelled : ReadRangesAreSpelled
unfolding range_of
read_ranges_are_spelled l w bytes p fits q =
    let h = bind_ok (head_at range_kind bytes) (λ head. flag_at (wrong Short) (wrong Flag) bytes head.1 >>= λ cut. pairs_at l bytes cut.1 >>= λ pairs. path_at l w bytes pairs.1 >>= λ start. path_at l w bytes start.1 >>= λ end. all_read bytes (record { cut = cut.0; pairs = pairs.0; start = start.0; end = end.0 }, end.1)) p q in
    let c = bind_ok (flag_at (wrong Short) (wrong Flag) bytes h.0.1) (λ cut. pairs_at l bytes cut.1 >>= λ pairs. path_at l w bytes pairs.1 >>= λ start. path_at l w bytes start.1 >>= λ end. all_read bytes (record { cut = cut.0; pairs = pairs.0; start = start.0; end = end.0 }, end.1)) p h.2 in
    let e = bind_ok (pairs_at l bytes c.0.1) (λ pairs. path_at l w bytes pairs.1 >>= λ start. path_at l w bytes start.1 >>= λ end. all_read bytes (record { cut = c.0.0; pairs = pairs.0; start = start.0; end = end.0 }, end.1)) p c.2 in
    let s = bind_ok (path_at l w bytes e.0.1) (λ start. path_at l w bytes start.1 >>= λ end. all_read bytes (record { cut = c.0.0; pairs = e.0.0; start = start.0; end = end.0 }, end.1)) p e.2 in
    let t = bind_ok (path_at l w bytes s.0.1) (λ end. all_read bytes (record { cut = c.0.0; pairs = e.0.0; start = s.0.0; end = end.0 }, end.1)) p s.2 in
    let th = head_at-Stands range_kind bytes h.0.0 h.0.1 h.1 in
    let tc = flag_at-Stands (wrong Short) (wrong Flag) bytes h.0.1 c.0.0 c.0.1 c.1 in
    let te = pairs_at-Stands l bytes c.0.1 e.0.0 e.0.1 fits e.1 in
    let ts = path_at-Stands l w bytes e.0.1 s.0.0 s.0.1 fits s.1 in
    let tn = path_at-Stands l w bytes s.0.1 t.0.0 t.0.1 fits t.1 in
    let r : RangeProof = record { cut = c.0.0; pairs = e.0.0; start = s.0.0; end = t.0.0 } in
    let a = all_read-nil bytes r p t.0.1 t.2 in
    let paths = Stands-then bytes e.0.1 s.0.1 t.0.1 (path_form s.0.0) (path_form t.0.0) ts.0 tn.0 in
    let behind = Stands-then bytes h.0.1 c.0.1 t.0.1 (flag_form c.0.0) (pairs_form e.0.0 ++ (path_form s.0.0 ++ path_form t.0.0)) tc (Stands-then bytes c.0.1 e.0.1 t.0.1 (pairs_form e.0.0) (path_form s.0.0 ++ path_form t.0.0) te.0 paths) in
    let all = Stands-then bytes 0 h.0.1 t.0.1 (version ∷ range_kind ∷ []) (flag_form c.0.0 ++ (pairs_form e.0.0 ++ (path_form s.0.0 ++ path_form t.0.0))) th behind in
    let whole : bytes ≡ range_form r = sym (start bytes) ∙ all ∙ ap (λ x. range_form r ++ x) a.1 ∙ append-nil (range_form r) in
    subst (λ p. IsRangeProof l w p × (bytes ≡ range_form p)) a.0 (record { pairs = te.1; start = ts.1; end = tn.1 }, whole)
