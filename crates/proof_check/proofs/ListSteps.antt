-- What is left of a list of nodes, children or other values: one more, or nothing.
use Rattle.std.proofs.Common.{◌≡◌, ℕ, suc, ◌+◌, ◌-◌, ◌<◌, ◌≤◌, List, [], ◌∷◌, Ok, Err, refl, arith}
use Rattle.base_model.specs.Fields.{Field, ◌>>=◌, bytes_at}
use Rattle.trie_model.specs.Hashing.{hash_length}
use Rattle.trie_model.specs.Maps.{Limits}
use Rattle.proof_model.specs.Wire.{WireFault, Short, wrong, index_at, children_at, node_at, nodes_at, listed_at}
use Rattle.proof_check.specs.ReaderAnswers.{child_at}
use Rattle.proof_check.proofs.ListFields.{one_and}

-- one node more
pub more_nodes : (l : Limits) (count i w : ℕ) (bytes : List ℕ) (at : ℕ) → i < count → nodes_at l (count - i) w bytes at ≡ one_and (node_at l w bytes at) (λ x. nodes_at l (count - (i + 1)) w bytes x.1)
unfolding nodes_at
more_nodes l count i w bytes at lt = let k : count - i ≡ suc (count - (i + 1)) = omega arith in rw k refl

pub no_nodes : (l : Limits) (count i w : ℕ) (bytes : List ℕ) (at : ℕ) → count ≤ i → nodes_at l (count - i) w bytes at ≡ Ok ([], at)
unfolding nodes_at
no_nodes l count i w bytes at le = let k : count - i ≡ 0 = omega arith in rw k refl

-- an index and an ID are read as a child
flat : (w low : ℕ) (bytes : List ℕ) (others : (ℕ × List ℕ) × ℕ → Field WireFault (List (ℕ × List ℕ))) (index : Field WireFault ℕ)
    → (index >>= λ i. bytes_at (wrong Short) hash_length bytes i.1 >>= λ x. others ((i.0, x.0), x.1) >>= λ xs. Ok ((i.0, x.0) ∷ xs.0, xs.1)) ≡ one_and (index >>= λ i. bytes_at (wrong Short) hash_length bytes i.1 >>= λ x. Ok ((i.0, x.0), x.1)) others
flat w low bytes others (Err e) = refl
flat w low bytes others (Ok i) = inner (bytes_at (wrong Short) hash_length bytes i.1)
  where
    inner : (id : Field WireFault (List ℕ)) → (id >>= λ x. others ((i.0, x.0), x.1) >>= λ xs. Ok ((i.0, x.0) ∷ xs.0, xs.1)) ≡ one_and (id >>= λ x. Ok ((i.0, x.0), x.1)) others
    inner (Err e) = refl
    inner (Ok x) = refl

-- one child more
pub more_children : (count i w low : ℕ) (bytes : List ℕ) (at : ℕ) → i < count → children_at (count - i) w low bytes at ≡ one_and (child_at w low bytes at) (λ x. children_at (count - (i + 1)) w (suc x.0.0) bytes x.1)
unfolding children_at child_at
more_children count i w low bytes at lt = let k : count - i ≡ suc (count - (i + 1)) = omega arith in rw k (flat w low bytes (λ x. children_at (count - (i + 1)) w (suc x.0.0) bytes x.1) (index_at w low bytes at))

pub no_children : (count i w low : ℕ) (bytes : List ℕ) (at : ℕ) → count ≤ i → children_at (count - i) w low bytes at ≡ Ok ([], at)
unfolding children_at
no_children count i w low bytes at le = let k : count - i ≡ 0 = omega arith in rw k refl

-- one value more of any grammar
pub more_listed : {A : Type 0} (read : List ℕ → ℕ → Field WireFault A) (count i : ℕ) (bytes : List ℕ) (at : ℕ) → i < count → listed_at read (count - i) bytes at ≡ one_and (read bytes at) (λ x. listed_at read (count - (i + 1)) bytes x.1)
unfolding listed_at
more_listed read count i bytes at lt = let k : count - i ≡ suc (count - (i + 1)) = omega arith in rw k refl

pub no_listed : {A : Type 0} (read : List ℕ → ℕ → Field WireFault A) (count i : ℕ) (bytes : List ℕ) (at : ℕ) → count ≤ i → listed_at read (count - i) bytes at ≡ Ok ([], at)
unfolding listed_at
no_listed read count i bytes at le = let k : count - i ≡ 0 = omega arith in rw k refl
