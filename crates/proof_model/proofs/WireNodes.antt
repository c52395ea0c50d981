-- The nodes of a path, and a path: what is spelled is read, and what is read is spelled so.
use Rattle.std.proofs.Common.{◌≡◌, ℕ, zero, suc, ◌+◌, ◌^◌, ◌<◌, ◌≤◌, List, [], ◌∷◌, ◌++◌, length, drop, Option, Some, None, Ok, refl, sym, ap, ◌∙◌, arith, subst, append_assoc}
use Rattle.std.specs.List.{flat_map, AllByRecursion}
use Rattle.std.proofs.lemmas.List.Concat.{flat_map-cons}
use Rattle.base_model.specs.Bytes.{AreBytes}
use Rattle.base_model.specs.Uvarint.{uvarint}
use Rattle.base_model.specs.Fields.{◌>>=◌, number_at, bytes_at}
use Rattle.base_model.proofs.Fields.{got, IsRead, number_at-IsRead, bytes_at-IsRead, Stands, Stands-then, number_at-Stands, bytes_at-Stands}
use Rattle.base_model.proofs.Results.{ok_is, bind_ok}
use Rattle.trie_model.specs.Hashing.{hash_length, key_form, digest_form, child_form}
use Rattle.trie_model.specs.Maps.{Limits}
use Rattle.trie_model.specs.StoredNode.{FitsLimits}
use Rattle.batch_model.specs.Batch.{value_form}
use Rattle.proof_model.specs.Paths.{ProofNode, AreRising, IsChild}
use Rattle.proof_model.specs.Wire.{Short, LongDigest, wrong, bad_number, node_form, path_form, IsPathNode, IsPath, index_at, maybe_at, node_key_at, children_at, node_at, nodes_at, path_at}
use Rattle.proof_model.proofs.WireFields.{maybe_at-IsRead, node_key_at-IsRead, index_at-IsRead, maybe_at-Stands, node_key_at-Stands, index_at-Stands}

-- ---- what is spelled is read

-- children are read, one after the other
children_at-IsRead : (w low : ℕ) (cs : List (ℕ × List ℕ)) (bytes : List ℕ) (at : ℕ) (rest : List ℕ) → 2 ^ w ≤ 256 → AllByRecursion (IsChild w) cs → AreRising low cs → at ≤ length bytes → drop at bytes ≡ flat_map child_form cs ++ rest → IsRead (children_at (length cs) w low bytes at) cs bytes rest
unfolding children_at
children_at-IsRead w low [] bytes at rest small fits rising h e = record { place = at; is = refl; left = e; inside = h }
children_at-IsRead w low (c ∷ cs) bytes at rest small fits rising h e =
    let others = flat_map child_form cs ++ rest in
    let regrouped : flat_map child_form (c ∷ cs) ++ rest ≡ uvarint c.0 ++ (c.1 ++ others) =
    ap (λ x. x ++ rest) (flat_map-cons child_form c cs) ∙ append_assoc (child_form c) (flat_map child_form cs) rest ∙ append_assoc (uvarint c.0) c.1 others in
    let i = index_at-IsRead w low c.0 bytes at (c.1 ++ others) fits.0.0 (omega (arith, fits.0.0, small)) rising.0 h (e ∙ regrouped) in
    let d = bytes_at-IsRead (wrong Short) c.1 bytes i.place others i.inside i.left in
    let id : bytes_at (wrong Short) hash_length bytes i.place ≡ got c.1 d.place = ap (λ n. bytes_at (wrong Short) n bytes i.place) (sym fits.0.1) ∙ d.is in
    let o = children_at-IsRead w (suc c.0) cs bytes d.place rest small fits.1 rising.1 d.inside d.left in
    record { place = o.place; is = rw (i.is, id, o.is) (refl {a = got (c ∷ cs) o.place}); left = o.left; inside = o.inside }

-- the digest of a node is spelled as a value is
same_form : (d : Option (List ℕ)) → digest_form d ≡ value_form d
same_form None = refl
same_form (Some d) = refl

-- rising indices below a number are no more than it
rising_few : (w low : ℕ) (cs : List (ℕ × List ℕ)) → AllByRecursion (IsChild w) cs → AreRising low cs → low ≤ 2 ^ w → low + length cs ≤ 2 ^ w
rising_few w low [] fits rising below = omega (arith, below)
rising_few w low (c ∷ cs) fits rising below =
    let i = fits.0.0 in
    let r = rising_few w (suc c.0) cs fits.1 rising.1 (omega (arith, i)) in
    omega (arith, r, rising.0)

-- a node is read
node_at-IsRead : (l : Limits) (w : ℕ) (n : ProofNode) (bytes : List ℕ) (at : ℕ) (rest : List ℕ) → FitsLimits l → 2 ^ w ≤ 256 → IsPathNode l w n → at ≤ length bytes → drop at bytes ≡ node_form n ++ rest → IsRead (node_at l w bytes at) n bytes rest
unfolding node_at
node_at-IsRead l w n bytes at rest lf small fits h e =
    let few : length n.children < 2 ^ 64 = omega (arith, small, rising_few w 0 n.children fits.node.children fits.node.rising (omega arith)) in
    let tail = uvarint (length n.children) ++ flat_map child_form n.children in
    let cs = flat_map child_form n.children ++ rest in
    let regrouped : node_form n ++ rest ≡ key_form n.key ++ (value_form n.digest ++ (uvarint (length n.children) ++ cs)) =
    append_assoc (key_form n.key) (digest_form n.digest ++ tail) rest
    ∙ ap (λ x. key_form n.key ++ x) (append_assoc (digest_form n.digest) tail rest ∙ ap (λ x. x ++ (tail ++ rest)) (same_form n.digest) ∙ ap (λ x. value_form n.digest ++ x) (append_assoc (uvarint (length n.children)) (flat_map child_form n.children) rest)) in
    let k = node_key_at-IsRead l w n.key bytes at (value_form n.digest ++ (uvarint (length n.children) ++ cs)) lf fits.short fits.node.whole h (e ∙ regrouped) in
    let d = maybe_at-IsRead LongDigest hash_length n.digest bytes k.place (uvarint (length n.children) ++ cs) (omega arith) fits.node.digest k.inside k.left in
    let c = number_at-IsRead bad_number (length n.children) bytes d.place cs few d.inside d.left in
    let x = children_at-IsRead w 0 n.children bytes c.place rest small fits.node.children fits.node.rising c.inside c.left in
    record { place = x.place; is = rw (k.is, d.is, c.is, x.is) (refl {a = got n x.place}); left = x.left; inside = x.inside }

-- nodes are read, one after the other
nodes_at-IsRead : (l : Limits) (w : ℕ) (ns : List ProofNode) (bytes : List ℕ) (at : ℕ) (rest : List ℕ) → FitsLimits l → 2 ^ w ≤ 256 → AllByRecursion (IsPathNode l w) ns → at ≤ length bytes → drop at bytes ≡ flat_map node_form ns ++ rest → IsRead (nodes_at l (length ns) w bytes at) ns bytes rest
unfolding nodes_at
nodes_at-IsRead l w [] bytes at rest lf small fits h e = record { place = at; is = refl; left = e; inside = h }
nodes_at-IsRead l w (n ∷ ns) bytes at rest lf small fits h e =
    let others = flat_map node_form ns ++ rest in
    let regrouped : flat_map node_form (n ∷ ns) ++ rest ≡ node_form n ++ others =
    ap (λ x. x ++ rest) (flat_map-cons node_form n ns) ∙ append_assoc (node_form n) (flat_map node_form ns) rest in
    let f = node_at-IsRead l w n bytes at others lf small fits.0 h (e ∙ regrouped) in
    let o = nodes_at-IsRead l w ns bytes f.place rest lf small fits.1 f.inside f.left in
    record { place = o.place; is = rw (f.is, o.is) (refl {a = got (n ∷ ns) o.place}); left = o.left; inside = o.inside }

-- a path is read
pub path_at-IsRead : (l : Limits) (w : ℕ) (ns : List ProofNode) (bytes : List ℕ) (at : ℕ) (rest : List ℕ) → FitsLimits l → 2 ^ w ≤ 256 → IsPath l w ns → at ≤ length bytes → drop at bytes ≡ path_form ns ++ rest → IsRead (path_at l w bytes at) ns bytes rest
unfolding path_at
path_at-IsRead l w ns bytes at rest lf small fits h e =
    let c = number_at-IsRead bad_number (length ns) bytes at (flat_map node_form ns ++ rest) fits.count h (e ∙ append_assoc (uvarint (length ns)) (flat_map node_form ns) rest) in
    let x = nodes_at-IsRead l w ns bytes c.place rest lf small fits.nodes c.inside c.left in
    record { place = x.place; is = rw c.is x.is; left = x.left; inside = x.inside }

-- ---- what is read is spelled so

-- children that were read stand there, and their indices rise
children_at-Stands : (n w low : ℕ) (bytes : List ℕ) (at : ℕ) (cs : List (ℕ × List ℕ)) (next : ℕ) → AreBytes bytes → children_at n w low bytes at ≡ got cs next → Stands bytes at (flat_map child_form cs) next × (length cs ≡ n) × AllByRecursion (IsChild w) cs × AreRising low cs
unfolding children_at
children_at-Stands zero w low bytes at cs next fits e =
    subst (λ (x : List (ℕ × List ℕ) × ℕ). Stands bytes at (flat_map child_form x.0) x.1 × (length x.0 ≡ 0) × AllByRecursion (IsChild w) x.0 × AreRising low x.0) (ok_is ([], at) (cs, next) e) (refl, refl, tt, tt)
children_at-Stands (suc n) w low bytes at cs next fits e =
    let i = bind_ok (index_at w low bytes at) (λ index. bytes_at (wrong Short) hash_length bytes index.1 >>= λ id. children_at n w (suc index.0) bytes id.1 >>= λ others. Ok ((index.0, id.0) ∷ others.0, others.1)) (cs, next) e in
    let d = bind_ok (bytes_at (wrong Short) hash_length bytes i.0.1) (λ id. children_at n w (suc i.0.0) bytes id.1 >>= λ others. Ok ((i.0.0, id.0) ∷ others.0, others.1)) (cs, next) i.2 in
    let o = bind_ok (children_at n w (suc i.0.0) bytes d.0.1) (λ others. Ok ((i.0.0, d.0.0) ∷ others.0, others.1)) (cs, next) d.2 in
    let ti = index_at-Stands w low bytes at i.0.0 i.0.1 fits i.1 in
    let td = bytes_at-Stands (wrong Short) hash_length bytes i.0.1 d.0.0 d.0.1 d.1 in
    let to = children_at-Stands n w (suc i.0.0) bytes d.0.1 o.0.0 o.0.1 fits o.1 in
    let child : ℕ × List ℕ = (i.0.0, d.0.0) in
    let first = Stands-then bytes at i.0.1 d.0.1 (uvarint i.0.0) d.0.0 ti.0 td.0 in
    let all : Stands bytes at (flat_map child_form (child ∷ o.0.0)) o.0.1 = subst (λ x. Stands bytes at x o.0.1) (sym (flat_map-cons child_form child o.0.0)) (Stands-then bytes at d.0.1 o.0.1 (child_form child) (flat_map child_form o.0.0) first to.0) in
    subst (λ (x : List (ℕ × List ℕ) × ℕ). Stands bytes at (flat_map child_form x.0) x.1 × (length x.0 ≡ suc n) × AllByRecursion (IsChild w) x.0 × AreRising low x.0) (ok_is (child ∷ o.0.0, o.0.1) (cs, next) o.2)
    (all, ap suc to.1, ((ti.1, td.1), to.2), (ti.2, to.3))

-- a node that was read stands there, and is in the grammar
node_at-Stands : (l : Limits) (w : ℕ) (bytes : List ℕ) (at : ℕ) (n : ProofNode) (next : ℕ) → AreBytes bytes → node_at l w bytes at ≡ got n next → Stands bytes at (node_form n) next × IsPathNode l w n
unfolding node_at
node_at-Stands l w bytes at n next fits e =
    let k = bind_ok (node_key_at l w bytes at) (λ key. maybe_at LongDigest hash_length bytes key.1 >>= λ digest. number_at bad_number bytes digest.1 >>= λ count. children_at count.0 w 0 bytes count.1 >>= λ children. Ok (record { key = key.0; digest = digest.0; children = children.0 }, children.1)) (n, next) e in
    let d = bind_ok (maybe_at LongDigest hash_length bytes k.0.1) (λ digest. number_at bad_number bytes digest.1 >>= λ count. children_at count.0 w 0 bytes count.1 >>= λ children. Ok (record { key = k.0.0; digest = digest.0; children = children.0 }, children.1)) (n, next) k.2 in
    let c = bind_ok (number_at bad_number bytes d.0.1) (λ count. children_at count.0 w 0 bytes count.1 >>= λ children. Ok (record { key = k.0.0; digest = d.0.0; children = children.0 }, children.1)) (n, next) d.2 in
    let x = bind_ok (children_at c.0.0 w 0 bytes c.0.1) (λ children. Ok (record { key = k.0.0; digest = d.0.0; children = children.0 }, children.1)) (n, next) c.2 in
    let tk = node_key_at-Stands l w bytes at k.0.0 k.0.1 fits k.1 in
    let td = maybe_at-Stands LongDigest hash_length bytes k.0.1 d.0.0 d.0.1 fits d.1 in
    let tc = number_at-Stands bad_number bytes d.0.1 c.0.0 c.0.1 fits c.1 in
    let tx = children_at-Stands c.0.0 w 0 bytes c.0.1 x.0.0 x.0.1 fits x.1 in
    let count : Stands bytes d.0.1 (uvarint (length x.0.0)) c.0.1 = subst (λ m. Stands bytes d.0.1 (uvarint m) c.0.1) (sym tx.1) tc.0 in
    let digest : Stands bytes k.0.1 (digest_form d.0.0) d.0.1 = subst (λ f. Stands bytes k.0.1 f d.0.1) (sym (same_form d.0.0)) td.0 in
    let s1 = Stands-then bytes d.0.1 c.0.1 x.0.1 (uvarint (length x.0.0)) (flat_map child_form x.0.0) count tx.0 in
    let s2 = Stands-then bytes k.0.1 d.0.1 x.0.1 (digest_form d.0.0) (uvarint (length x.0.0) ++ flat_map child_form x.0.0) digest s1 in
    let s3 = Stands-then bytes at k.0.1 x.0.1 (key_form k.0.0) (digest_form d.0.0 ++ (uvarint (length x.0.0) ++ flat_map child_form x.0.0)) tk.0 s2 in
    subst (λ (y : ProofNode × ℕ). Stands bytes at (node_form y.0) y.1 × IsPathNode l w y.0) (ok_is (record { key = k.0.0; digest = d.0.0; children = x.0.0 }, x.0.1) (n, next) x.2)
    (s3, record { node = record { whole = tk.2; digest = td.1; children = tx.2; rising = tx.3 }; short = tk.1 })

-- nodes that were read stand there
nodes_at-Stands : (l : Limits) (n w : ℕ) (bytes : List ℕ) (at : ℕ) (ns : List ProofNode) (next : ℕ) → AreBytes bytes → nodes_at l n w bytes at ≡ got ns next → Stands bytes at (flat_map node_form ns) next × (length ns ≡ n) × AllByRecursion (IsPathNode l w) ns
unfolding nodes_at
nodes_at-Stands l zero w bytes at ns next fits e =
    subst (λ (x : List ProofNode × ℕ). Stands bytes at (flat_map node_form x.0) x.1 × (length x.0 ≡ 0) × AllByRecursion (IsPathNode l w) x.0) (ok_is ([], at) (ns, next) e) (refl, refl, tt)
nodes_at-Stands l (suc n) w bytes at ns next fits e =
    let f = bind_ok (node_at l w bytes at) (λ first. nodes_at l n w bytes first.1 >>= λ others. Ok (first.0 ∷ others.0, others.1)) (ns, next) e in
    let o = bind_ok (nodes_at l n w bytes f.0.1) (λ others. Ok (f.0.0 ∷ others.0, others.1)) (ns, next) f.2 in
    let tf = node_at-Stands l w bytes at f.0.0 f.0.1 fits f.1 in
    let to = nodes_at-Stands l n w bytes f.0.1 o.0.0 o.0.1 fits o.1 in
    let all : Stands bytes at (flat_map node_form (f.0.0 ∷ o.0.0)) o.0.1 = subst (λ x. Stands bytes at x o.0.1) (sym (flat_map-cons node_form f.0.0 o.0.0)) (Stands-then bytes at f.0.1 o.0.1 (node_form f.0.0) (flat_map node_form o.0.0) tf.0 to.0) in
    subst (λ (x : List ProofNode × ℕ). Stands bytes at (flat_map node_form x.0) x.1 × (length x.0 ≡ suc n) × AllByRecursion (IsPathNode l w) x.0) (ok_is (f.0.0 ∷ o.0.0, o.0.1) (ns, next) o.2)
    (all, ap suc to.1, (tf.1, to.2))

-- a path that was read stands there
pub path_at-Stands : (l : Limits) (w : ℕ) (bytes : List ℕ) (at : ℕ) (ns : List ProofNode) (next : ℕ) → AreBytes bytes → path_at l w bytes at ≡ got ns next → Stands bytes at (path_form ns) next × IsPath l w ns
unfolding path_at
path_at-Stands l w bytes at ns next fits e =
    let c = bind_ok (number_at bad_number bytes at) (λ count. nodes_at l count.0 w bytes count.1) (ns, next) e in
    let tc = number_at-Stands bad_number bytes at c.0.0 c.0.1 fits c.1 in
    let tx = nodes_at-Stands l c.0.0 w bytes c.0.1 ns next fits c.2 in
    let count : Stands bytes at (uvarint (length ns)) c.0.1 = subst (λ m. Stands bytes at (uvarint m) c.0.1) (sym tx.1) tc.0 in
    (Stands-then bytes at c.0.1 next (uvarint (length ns)) (flat_map node_form ns) count tx.0, record { count = subst (λ m. m < 2 ^ 64) (sym tx.1) tc.1; nodes = tx.2 })
