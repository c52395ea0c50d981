-- Batches: what is spelled is read, and what is read is spelled so.
use Rattle.std.proofs.Common.{◌≡◌, ℕ, zero, suc, ◌^◌, ◌<◌, ◌≤◌, Bool, true, false, cond, List, [], ◌∷◌, ◌++◌, length, drop, Option, Some, None, Ok, Err, refl, sym, ap, ◌∙◌, arith, subst, eqb, length-drop, append_assoc}
use Rattle.std.specs.Prelude.{IfSome}
use Rattle.std.specs.List.{flat_map, AllByRecursion}
use Rattle.std.proofs.lemmas.Bool.Decides.{nat_tests}
use Rattle.std.proofs.lemmas.List.{append-nil, nil_from_length}
use Rattle.std.proofs.lemmas.List.Concat.{flat_map-cons}
use Rattle.base_model.specs.Bytes.{AreBytes}
use Rattle.base_model.specs.Uvarint.{uvarint}
use Rattle.base_model.specs.Fields.{◌>>=◌, flag_form, number_at, flag_at}
use Rattle.base_model.proofs.Fields.{got, IsRead, number_at-IsRead, flag_at-IsRead, Stands, Stands-then, number_at-Stands, flag_at-Stands}
use Rattle.base_model.proofs.Results.{ok_is, bind_ok, met}
use Rattle.trie_model.specs.Maps.{Limits}
use Rattle.batch_model.specs.Sized.{sized_form, sized_at}
use Rattle.batch_model.specs.Batch.{Change, Outside, IsChange, IsBatch, FitsNumbers, AreRising, comes_after, value_form, change_form, batch_form, key_at, value_at, changes_at, batch_of}
use Rattle.batch_model.specs.Laws.{SpelledBatchesAreRead, ReadBatchesAreSpelled}
use Rattle.batch_model.proofs.SizedBytes.{sized_at-IsRead, sized_at-Stands}

start : (x : List ℕ) → drop 0 x ≡ x
start [] = refl
start (b ∷ x) = refl

-- ---- what is spelled is read

-- a key that comes after the last one is read
key_at-IsRead : (l : Limits) (last : Option (List ℕ)) (key bytes : List ℕ) (at : ℕ) (rest : List ℕ) → FitsNumbers l → length key ≤ l.key → comes_after last key ≡ true → at ≤ length bytes → drop at bytes ≡ sized_form key ++ rest → IsRead (key_at l last bytes at) key bytes rest
unfolding key_at
key_at-IsRead l last key bytes at rest fits short after h e =
    let k = sized_at-IsRead Outside l.key key bytes at rest fits.key short h e in
    record { place = k.place; is = rw (k.is, after) (refl {a = got key k.place}); left = k.left; inside = k.inside }

-- the flag is read, with the value where there is one
value_at-IsRead : (l : Limits) (v : Option (List ℕ)) (bytes : List ℕ) (at : ℕ) (rest : List ℕ) → FitsNumbers l → IfSome v (λ v. length v ≤ l.value) → at ≤ length bytes → drop at bytes ≡ value_form v ++ rest → IsRead (value_at l bytes at) v bytes rest
unfolding value_at
value_at-IsRead l None bytes at rest fits short h e =
    let f = flag_at-IsRead (λ _. Outside) (λ _. Outside) false bytes at rest h e in
    record { place = f.place; is = rw f.is (refl {a = got None f.place}); left = f.left; inside = f.inside }
value_at-IsRead l (Some v) bytes at rest fits short h e =
    let f = flag_at-IsRead (λ _. Outside) (λ _. Outside) true bytes at (sized_form v ++ rest) h e in
    let b = sized_at-IsRead Outside l.value v bytes f.place rest fits.value short f.inside f.left in
    record { place = b.place; is = rw (f.is, b.is) (refl {a = got (Some v) b.place}); left = b.left; inside = b.inside }

-- changes are read, one after the other
changes_at-IsRead : (l : Limits) (last : Option (List ℕ)) (cs : List Change) (bytes : List ℕ) (at : ℕ) (rest : List ℕ) → FitsNumbers l → AllByRecursion (IsChange l) cs → AreRising last cs → at ≤ length bytes → drop at bytes ≡ flat_map change_form cs ++ rest → IsRead (changes_at l (length cs) last bytes at) cs bytes rest
unfolding changes_at
changes_at-IsRead l last [] bytes at rest lf fits rising h e = record { place = at; is = refl; left = e; inside = h }
changes_at-IsRead l last (c ∷ cs) bytes at rest lf fits rising h e =
    let others = flat_map change_form cs ++ rest in
    let regrouped : flat_map change_form (c ∷ cs) ++ rest ≡ sized_form c.key ++ (value_form c.value ++ others) =
    ap (λ x. x ++ rest) (flat_map-cons change_form c cs) ∙ append_assoc (change_form c) (flat_map change_form cs) rest ∙ append_assoc (sized_form c.key) (value_form c.value) others in
    let k = key_at-IsRead l last c.key bytes at (value_form c.value ++ others) lf fits.0.key rising.0 h (e ∙ regrouped) in
    let v = value_at-IsRead l c.value bytes k.place others lf fits.0.value k.inside k.left in
    let o = changes_at-IsRead l (Some c.key) cs bytes v.place rest lf fits.1 rising.1 v.inside v.left in
    record { place = o.place; is = rw (k.is, v.is, o.is) (refl {a = got (c ∷ cs) o.place}); left = o.left; inside = o.inside }

-- where nothing is left, the place is the end
at_end : (bytes : List ℕ) (p : ℕ) → drop p bytes ≡ [] → p ≤ length bytes → eqb p (length bytes) ≡ true
at_end bytes p e h = let l = ap length e in let k : p ≡ length bytes = omega (arith, l, h, length-drop p bytes) in grind (arith, nat_tests)

pub spelled_batches_are_read : SpelledBatchesAreRead
unfolding batch_of
spelled_batches_are_read l cs lf fits =
    let bytes = batch_form cs in
    let n = number_at-IsRead (λ _ _. Outside) (length cs) bytes 0 (flat_map change_form cs) fits.count (omega arith) (start bytes) in
    let c = changes_at-IsRead l None cs bytes n.place [] lf fits.changes fits.rising n.inside (n.left ∙ sym (append-nil (flat_map change_form cs))) in
    rw (n.is, c.is, at_end bytes c.place c.left c.inside) refl

-- ---- what is read is spelled so

-- a key that was read stands there, and comes after the last one
key_at-Stands : (l : Limits) (last : Option (List ℕ)) (bytes : List ℕ) (at : ℕ) (key : List ℕ) (next : ℕ) → AreBytes bytes → key_at l last bytes at ≡ got key next → Stands bytes at (sized_form key) next × (length key ≤ l.key) × (comes_after last key ≡ true)
unfolding key_at
key_at-Stands l last bytes at key next fits e =
    let a = bind_ok (sized_at Outside l.key bytes at) (λ k. cond (comes_after last k.0) (Ok k) (Err Outside)) (key, next) e in
    let g = met (comes_after last a.0.0) Outside (Ok a.0) (key, next) a.2 in
    let t = sized_at-Stands Outside l.key bytes at a.0.0 a.0.1 fits a.1 in
    subst (λ (p : List ℕ × ℕ). Stands bytes at (sized_form p.0) p.1 × (length p.0 ≤ l.key) × (comes_after last p.0 ≡ true)) (ok_is a.0 (key, next) g.1) (t.0, t.1, g.0)

-- the value that was read stands there, with its flag
value_at-Stands : (l : Limits) (bytes : List ℕ) (at : ℕ) (v : Option (List ℕ)) (next : ℕ) → AreBytes bytes → value_at l bytes at ≡ got v next → Stands bytes at (value_form v) next × IfSome v (λ v. length v ≤ l.value)
unfolding value_at
value_at-Stands l bytes at v next fits e =
    let a = bind_ok (flag_at (λ _. Outside) (λ _. Outside) bytes at) (λ flag. cond flag.0 (sized_at Outside l.value bytes flag.1 >>= λ v. Ok (Some v.0, v.1)) (Ok (None, flag.1))) (v, next) e in
    which a.0.0 a.0.1 (flag_at-Stands (λ _. Outside) (λ _. Outside) bytes at a.0.0 a.0.1 a.1) a.2
  where
    which : (flag : Bool) (p : ℕ) → Stands bytes at (flag_form flag) p → cond flag (sized_at Outside l.value bytes p >>= λ v. Ok (Some v.0, v.1)) (Ok (None, p)) ≡ got v next → Stands bytes at (value_form v) next × IfSome v (λ v. length v ≤ l.value)
    which false p s f = subst (λ (x : Option (List ℕ) × ℕ). Stands bytes at (value_form x.0) x.1 × IfSome x.0 (λ v. length v ≤ l.value)) (ok_is (None, p) (v, next) f) (s, tt)
    which true p s f =
        let b = bind_ok (sized_at Outside l.value bytes p) (λ v. Ok (Some v.0, v.1)) (v, next) f in
        let t = sized_at-Stands Outside l.value bytes p b.0.0 b.0.1 fits b.1 in
        subst (λ (x : Option (List ℕ) × ℕ). Stands bytes at (value_form x.0) x.1 × IfSome x.0 (λ v. length v ≤ l.value)) (ok_is (Some b.0.0, b.0.1) (v, next) b.2)
        (Stands-then bytes at p b.0.1 (flag_form true) (sized_form b.0.0) s t.0, t.1)

-- changes that were read stand there, and their keys rise
changes_at-Stands : (l : Limits) (n : ℕ) (last : Option (List ℕ)) (bytes : List ℕ) (at : ℕ) (cs : List Change) (next : ℕ) → AreBytes bytes → changes_at l n last bytes at ≡ got cs next → Stands bytes at (flat_map change_form cs) next × (length cs ≡ n) × AllByRecursion (IsChange l) cs × AreRising last cs
unfolding changes_at
changes_at-Stands l zero last bytes at cs next fits e =
    subst (λ (x : List Change × ℕ). Stands bytes at (flat_map change_form x.0) x.1 × (length x.0 ≡ 0) × AllByRecursion (IsChange l) x.0 × AreRising last x.0) (ok_is ([], at) (cs, next) e) (refl, refl, tt, tt)
changes_at-Stands l (suc n) last bytes at cs next fits e =
    let k = bind_ok (key_at l last bytes at) (λ key. value_at l bytes key.1 >>= λ value. changes_at l n (Some key.0) bytes value.1 >>= λ others. Ok (record { key = key.0; value = value.0 } ∷ others.0, others.1)) (cs, next) e in
    let v = bind_ok (value_at l bytes k.0.1) (λ value. changes_at l n (Some k.0.0) bytes value.1 >>= λ others. Ok (record { key = k.0.0; value = value.0 } ∷ others.0, others.1)) (cs, next) k.2 in
    let o = bind_ok (changes_at l n (Some k.0.0) bytes v.0.1) (λ others. Ok (record { key = k.0.0; value = v.0.0 } ∷ others.0, others.1)) (cs, next) v.2 in
    let tk = key_at-Stands l last bytes at k.0.0 k.0.1 fits k.1 in
    let tv = value_at-Stands l bytes k.0.1 v.0.0 v.0.1 fits v.1 in
    let to = changes_at-Stands l n (Some k.0.0) bytes v.0.1 o.0.0 o.0.1 fits o.1 in
    let change : Change = record { key = k.0.0; value = v.0.0 } in
    let first = Stands-then bytes at k.0.1 v.0.1 (sized_form k.0.0) (value_form v.0.0) tk.0 tv.0 in
    let all : Stands bytes at (flat_map change_form (change ∷ o.0.0)) o.0.1 = subst (λ x. Stands bytes at x o.0.1) (sym (flat_map-cons change_form change o.0.0)) (Stands-then bytes at v.0.1 o.0.1 (change_form change) (flat_map change_form o.0.0) first to.0) in
    subst (λ (x : List Change × ℕ). Stands bytes at (flat_map change_form x.0) x.1 × (length x.0 ≡ suc n) × AllByRecursion (IsChange l) x.0 × AreRising last x.0) (ok_is (change ∷ o.0.0, o.0.1) (cs, next) o.2)
    (all, ap suc to.1, (record { key = tk.1; value = tv.1 }, to.2), (tk.2, to.3))

pub read_batches_are_spelled : ReadBatchesAreSpelled
unfolding batch_of
read_batches_are_spelled l bytes cs fits e =
    let n = bind_ok (number_at (λ _ _. Outside) bytes 0) (λ count. changes_at l count.0 None bytes count.1 >>= λ changes. cond (eqb changes.1 (length bytes)) (Ok changes.0) (Err Outside)) cs e in
    let c = bind_ok (changes_at l n.0.0 None bytes n.0.1) (λ changes. cond (eqb changes.1 (length bytes)) (Ok changes.0) (Err Outside)) cs n.2 in
    let g = met (eqb c.0.1 (length bytes)) Outside (Ok c.0.0) cs c.2 in
    let tn = number_at-Stands (λ _ _. Outside) bytes 0 n.0.0 n.0.1 fits n.1 in
    let tc = changes_at-Stands l n.0.0 None bytes n.0.1 c.0.0 c.0.1 fits c.1 in
    let count : Stands bytes 0 (uvarint (length c.0.0)) n.0.1 = subst (λ k. Stands bytes 0 (uvarint k) n.0.1) (sym tc.1) tn.0 in
    let t = Stands-then bytes 0 n.0.1 c.0.1 (uvarint (length c.0.0)) (flat_map change_form c.0.0) count tc.0 in
    let none : drop c.0.1 bytes ≡ [] = nil_from_length (drop c.0.1 bytes) (omega (arith, length-drop c.0.1 bytes, the_end c.0.1 (length bytes) g.0)) in
    let whole : bytes ≡ batch_form c.0.0 = sym (start bytes) ∙ t ∙ ap (λ x. batch_form c.0.0 ++ x) none ∙ append-nil (batch_form c.0.0) in
    let few : length c.0.0 < 2 ^ 64 = subst (λ k. k < 2 ^ 64) (sym tc.1) tn.1 in
    subst (λ cs. IsBatch l cs × (bytes ≡ batch_form cs)) (ok_is c.0.0 cs g.1) (record { count = few; changes = tc.2; rising = tc.3 }, whole)
  where
    the_end : (p n : ℕ) → eqb p n ≡ true → p ≡ n
    the_end p n t = grind (arith, nat_tests)
