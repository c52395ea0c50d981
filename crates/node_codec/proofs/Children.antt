-- Children that are read one after the other.
use Rattle.std.proofs.Common.{◌≡◌, ℕ, suc, ◌+◌, ◌-◌, ◌<◌, ◌≤◌, List, [], ◌∷◌, ◌++◌, Result, Ok, Err, refl, sym, ap, subst, ◌∙◌, append_assoc, arith}
use Rattle.std.proofs.lemmas.List.{append-nil}
use Rattle.base_model.specs.Fields.{Field, ◌>>=◌}
use Rattle.trie_model.specs.Maps.{Limits}
use Rattle.trie_model.specs.StoredNode.{StoredChild, StoredFault, child_at, children_at}
use Rattle.node_codec.specs.declared.fault.NodeFault.{NodeFault}
use Rattle.node_codec.specs.declared.fault.NodeFault.TheVariants as faults
use Rattle.node_codec.specs.StoredNodes.{Fails}

-- children in front of those that are read
abbrev pub with_front : List StoredChild → Field StoredFault (List StoredChild) → Field StoredFault (List StoredChild)
with_front front read = read >>= λ x. Ok (front ++ x.0, x.1)

-- one child more in front
regroup : (front : List StoredChild) (c : StoredChild) (read : Field StoredFault (List StoredChild)) → with_front front (read >>= λ x. Ok (c ∷ x.0, x.1)) ≡ with_front (front ++ c ∷ []) read
regroup front c (Ok x) = ap (λ (cs : List StoredChild). Ok (cs, x.1)) (simp append_assoc)
regroup front c (Err f) = refl

-- the loop has read one child more
pub goes_on : (l : Limits) (front : List StoredChild) (count i w low later : ℕ) (bytes : List ℕ) (at : ℕ) (c : StoredChild) (after : ℕ) (total : Field StoredFault (List StoredChild)) → i < count → child_at l w low bytes at ≡ Ok (c, after) → later ≡ suc c.index
    → with_front front (children_at l (count - i) w low bytes at) ≡ total → with_front (front ++ c ∷ []) (children_at l (count - (i + 1)) w later bytes after) ≡ total
unfolding children_at
goes_on l front count i w low later bytes at c after total lt h next so_far =
    let k : count - i ≡ suc (count - (i + 1)) = omega arith in
    let one : with_front front (children_at l (count - i) w low bytes at) ≡ with_front (front ++ c ∷ []) (children_at l (count - (i + 1)) w (suc c.index) bytes after) = rw (k, h) (regroup front c (children_at l (count - (i + 1)) w (suc c.index) bytes after)) in
    ap (λ n. with_front (front ++ c ∷ []) (children_at l (count - (i + 1)) w n bytes after)) next ∙ sym one ∙ so_far

-- a fault of a field is that of what goes on behind it
fails_through : {A B : Type 0} (e : NodeFault) (r : Result A StoredFault) (f : A → Result B StoredFault) → Fails e r → Fails e (r >>= f)
fails_through faults.NoMemory r f h = tt
fails_through (faults.Short at) r f h = ap (λ r. r >>= f) h
fails_through (faults.BadFlag at) r f h = ap (λ r. r >>= f) h
fails_through (faults.BadVarint at) r f h = ap (λ r. r >>= f) h
fails_through (faults.Order at) r f h = ap (λ r. r >>= f) h
fails_through (faults.Padding at) r f h = ap (λ r. r >>= f) h
fails_through (faults.Index at) r f h = ap (λ r. r >>= f) h
fails_through (faults.LongDigest at) r f h = ap (λ r. r >>= f) h
fails_through (faults.Rest at) r f h = ap (λ r. r >>= f) h
fails_through (faults.Trailing at) r f h = ap (λ r. r >>= f) h

-- the loop stops at a fault
pub ends : (l : Limits) (e : NodeFault) (front : List StoredChild) (count i w low : ℕ) (bytes : List ℕ) (at : ℕ) (total : Field StoredFault (List StoredChild)) → i < count → Fails e (child_at l w low bytes at)
    → with_front front (children_at l (count - i) w low bytes at) ≡ total → Fails e total
unfolding children_at
ends l e front count i w low bytes at total lt h so_far =
    let k : count - i ≡ suc (count - (i + 1)) = omega arith in
    let more : StoredChild × ℕ → Field StoredFault (List StoredChild) = λ first. children_at l (count - (i + 1)) w (suc first.0.index) bytes first.1 >>= λ others. Ok (first.0 ∷ others.0, others.1) in
    let one : with_front front (children_at l (count - i) w low bytes at) ≡ with_front front (child_at l w low bytes at >>= more) = rw k refl in
    subst (λ r. Fails e r) (sym one ∙ so_far) (fails_through e (child_at l w low bytes at >>= more) (λ x. Ok (front ++ x.0, x.1)) (fails_through e (child_at l w low bytes at) more h))

-- the loop has read all children
pub is_done : (l : Limits) (front : List StoredChild) (count i w low : ℕ) (bytes : List ℕ) (at : ℕ) (total : Field StoredFault (List StoredChild)) → count ≤ i → with_front front (children_at l (count - i) w low bytes at) ≡ total → total ≡ Ok (front, at)
unfolding children_at
is_done l front count i w low bytes at total le so_far =
    let k : count - i ≡ 0 = omega arith in
    let one : with_front front (children_at l (count - i) w low bytes at) ≡ Ok (front, at) = rw k (ap (λ (cs : List StoredChild). Ok (cs, at)) (append-nil front)) in
    sym so_far ∙ one
