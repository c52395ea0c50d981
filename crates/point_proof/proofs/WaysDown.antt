-- The way down to a key, node by node.
use Rattle.std.proofs.Common.{◌≡◌, ℕ, zero, suc, ◌+◌, ◌-◌, ◌<◌, ◌≤◌, Bool, true, false, cond, leb, ◌&&◌, List, [], ◌∷◌, ◌++◌, length, take, Option, Some, None, refl, sym, ap, ◌∙◌, arith, append_assoc, append-nil, length-append}
use Rattle.std.specs.Prelude.{option_map}
use Rattle.std.proofs.lemmas.List.{length-take-le}
use Rattle.std.proofs.lemmas.Bool.{leb-true}
use Rattle.trie_model.specs.Bits.{is_prefix}
use Rattle.trie_model.specs.Maps.{Map}
use Rattle.trie_model.specs.StoredNode.{StoredNode}
use Rattle.trie_model.specs.Table.{Row, table}
use Rattle.trie_items.specs.Shown.{Shown, child_named, rest_of, shown_of}
use Rattle.trie_items.specs.Sources.{first_key, row_of}
use Rattle.proof_model.specs.Paths.{ProofNode, shown_row}
use Rattle.point_proof.specs.WaysDown.{token_on_way, key_in_slot, key_toward, next_on_way, with_node, go_on, way, whole_way}

-- how far it is at most, in bits, from a next key down to k
abbrev pub ahead : List Bool → Option (List Bool) → ℕ
ahead k None = 0
ahead k (Some n) = suc (length k - length n)

-- the next key on the way is further down, whatever rest it has
pub falls : (w : ℕ) (k n : List Bool) (rest : Option (List Bool)) → 0 < w → ahead k (key_toward w k n rest) < ahead k (Some n)
falls w k n rest p = go (is_prefix n k) (leb (length n + w) (length k)) refl
  where
    child : length n + w ≤ length k → (o : Option (List Bool)) → ahead k (key_in_slot w k n o) < suc (length k - length n)
    child l None = omega arith
    child l (Some r) = let a = length-append (take (length n + w) k) r in let b = length-take-le (length n + w) k l in omega (arith, a, b, p, l)

    go : (a b : Bool) → leb (length n + w) (length k) ≡ b → ahead k (cond (a && b) (key_in_slot w k n rest) None) < suc (length k - length n)
    go false b e = omega arith
    go true false e = omega arith
    go true true e = child (leb-true _ _ e) rest

-- a step down, with fuel enough
stepped : (w f : ℕ) (rows : List Row) (k n : List Bool) (x : StoredNode) (so_far all : List ProofNode) → 0 < w → row_of n rows ≡ Some x → ahead k (Some n) ≤ f
    → so_far ++ way w f rows k n ≡ all
    → (g : ℕ) × (ahead k (next_on_way w k n x) ≤ g) × ((so_far ++ shown_row (n, x) ∷ []) ++ go_on (next_on_way w k n x) (way w g rows k) ≡ all)
unfolding way
stepped w zero rows k n x so_far all p e h q = absurd (omega arith)
stepped w (suc f) rows k n x so_far all p e h q =
    let less = falls w k n (rest_of (child_named (token_on_way w k n) x.children)) p in
    let here : way w (suc f) rows k n ≡ shown_row (n, x) ∷ go_on (next_on_way w k n x) (way w f rows k) = ap (λ r. with_node n r (λ x. go_on (next_on_way w k n x) (way w f rows k))) e in
    (f, omega (arith, less, h), append_assoc so_far (shown_row (n, x) ∷ []) (go_on (next_on_way w k n x) (way w f rows k)) ∙ ap (λ r. so_far ++ r) (sym here) ∙ q)

-- the way ends where there is no node
ended : (w f : ℕ) (rows : List Row) (k n : List Bool) (so_far all : List ProofNode) → row_of n rows ≡ None → ahead k (Some n) ≤ f → so_far ++ way w f rows k n ≡ all → so_far ≡ all
unfolding way
ended w zero rows k n so_far all e h q = absurd (omega arith)
ended w (suc f) rows k n so_far all e h q =
    let here : way w (suc f) rows k n ≡ [] = ap (λ r. with_node n r (λ x. go_on (next_on_way w k n x) (way w f rows k))) e in sym (append-nil so_far) ∙ ap (λ r. so_far ++ r) (sym here) ∙ q

-- the nodes so far, and the way on from a next key, are the whole way
abbrev pub OnWay : ℕ → Map → List Bool → List ProofNode → Option (List Bool) → Type 0
OnWay w m k so_far next = (f : ℕ) × (ahead k next ≤ f) × (so_far ++ go_on next (way w f (table w m) k) ≡ whole_way w (table w m) k)

ahead_most : (k : List Bool) (o : Option (List Bool)) → ahead k o ≤ suc (length k)
ahead_most k None = omega arith
ahead_most k (Some n) = omega arith

pub starts : (w v : ℕ) (m : Map) (k : List Bool) (o : Option (List Bool)) (so_far : List ProofNode) → v ≡ w → so_far ≡ [] → o ≡ first_key (table v m) → OnWay w m k so_far o
starts w v m k o so_far e h q = (suc (length k), ahead_most k o, rest)
  where
    here : o ≡ first_key (table w m)
    here = q ∙ ap (λ v. first_key (table v m)) e

    rest : so_far ++ go_on o (way w (suc (length k)) (table w m) k) ≡ whole_way w (table w m) k
    rest = ap (λ r. r ++ go_on o (way w (suc (length k)) (table w m) k)) h ∙ ap (λ o. go_on o (way w (suc (length k)) (table w m) k)) here

-- ---- what is shown of a node

-- what is shown is that of a node that is there
shown_is : (t : Option ℕ) (o : Option StoredNode) (node : Shown) → option_map (shown_of t) o ≡ Some node → (x : StoredNode) × (o ≡ Some x) × (node ≡ shown_of t x)
shown_is t None node e = absurd cc
shown_is t (Some x) node e = (x, refl, cc)

none_is : (t : Option ℕ) (o : Option StoredNode) → option_map (shown_of t) o ≡ None → o ≡ None
none_is t None e = refl
none_is t (Some x) e = absurd cc

-- a node of a path, of what is shown
abbrev pub proof_node : List Bool → Shown → ProofNode
proof_node n s = record { key = n; digest = s.digest; children = s.children }

pub steps : (w v : ℕ) (m : Map) (k n : List Bool) (token : Option ℕ) (node : Shown) (before next : Option (List Bool)) (got : Option Shown) (so_far now : List ProofNode) → 0 < w → v ≡ w
    → before ≡ Some n → token ≡ token_on_way w k n → got ≡ option_map (shown_of token) (row_of n (table v m)) → got ≡ Some node → next ≡ key_toward w k n node.rest → now ≡ so_far ++ proof_node n node ∷ []
    → OnWay w m k so_far before → OnWay w m k now next
steps w v m k n token node before next got so_far now p e b u h i q r way_on =
    let s = shown_is token (row_of n (table v m)) node (sym h ∙ i) in
    let here : row_of n (table w m) ≡ Some s.0 = ap (λ v. row_of n (table v m)) (sym e) ∙ s.1 in
    let seen : node ≡ shown_of (token_on_way w k n) s.0 = s.2 ∙ ap (λ t. shown_of t s.0) u in
    let onward : next ≡ next_on_way w k n s.0 = q ∙ ap (λ (z : Shown). key_toward w k n z.rest) seen in
    let there : now ≡ so_far ++ shown_row (n, s.0) ∷ [] = r ∙ ap (λ (z : Shown). so_far ++ proof_node n z ∷ []) seen in
    let on : OnWay w m k so_far (Some n) = rw b at way_on in
    let d = stepped w on.0 (table w m) k n s.0 so_far (whole_way w (table w m) k) p here on.1 on.2 in
    rw (onward, there) d

pub further : (w : ℕ) (k n : List Bool) (rest before next : Option (List Bool)) → 0 < w → before ≡ Some n → next ≡ key_toward w k n rest → ahead k next < ahead k before
further w k n rest before next p b q = rw (b, q) (falls w k n rest p)

pub ends_at_gap : (w v : ℕ) (m : Map) (k n : List Bool) (token : Option ℕ) (before : Option (List Bool)) (got : Option Shown) (so_far : List ProofNode) → v ≡ w → before ≡ Some n → got ≡ option_map (shown_of token) (row_of n (table v m)) → got ≡ None
    → OnWay w m k so_far before → so_far ≡ whole_way w (table w m) k
ends_at_gap w v m k n token before got so_far e b h i way_on =
    let here : row_of n (table w m) ≡ None = ap (λ v. row_of n (table v m)) (sym e) ∙ none_is token (row_of n (table v m)) (sym h ∙ i) in
    let on : OnWay w m k so_far (Some n) = rw b at way_on in
    ended w on.0 (table w m) k n so_far (whole_way w (table w m) k) here on.1 on.2

pub ends_below : (w : ℕ) (m : Map) (k : List Bool) (before : Option (List Bool)) (so_far : List ProofNode) → before ≡ None → OnWay w m k so_far before → so_far ≡ whole_way w (table w m) k
ends_below w m k before so_far b way_on = let on : OnWay w m k so_far None = rw b at way_on in sym (append-nil so_far) ∙ on.2
