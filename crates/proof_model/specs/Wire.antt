-- Proofs as bytes: the one spelling of each, and what is read of any bytes, field by field from the left.
use Rattle.std.specs.Prelude.{ℕ, zero, suc, ◌%◌, ◌^◌, ◌<◌, ◌≤◌, Bool, nat_le, nat_lt, ◌==◌, if◌then◌else◌, List, [], ◌∷◌, ◌++◌, length, get_or, Option, Some, None, IfSome, Result, Ok, Err}
use Rattle.std.specs.List.{flat_map, AllByRecursion}
use Rattle.base_model.specs.Uvarint.{uvarint}
use Rattle.base_model.specs.ReadUvarint.{UvarintFault}
use Rattle.base_model.specs.Fields.{Field, ◌>>=◌, number_at, bytes_at, flag_at, bits_at}
use Rattle.trie_model.specs.Hashing.{hash_length, key_form, digest_form, child_form}
use Rattle.trie_model.specs.Maps.{Limits}
use Rattle.trie_model.specs.StoredNode.{rest_limit}
use Rattle.batch_model.specs.Batch.{value_form}
use Rattle.proof_model.specs.Paths.{ProofNode, IsProofNode}
use Rattle.proof_model.specs.Proofs.{PointProof}

-- ---- spelling

-- key, value flag with the digest, number of children, children
abbrev pub node_form : ProofNode → List ℕ
node_form n = key_form n.key ++ (digest_form n.digest ++ (uvarint (length n.children) ++ flat_map child_form n.children))

-- how many values there are, and the values
abbrev pub counted_form : {A : Type 0} → (A → List ℕ) → List A → List ℕ
counted_form form xs = uvarint (length xs) ++ flat_map form xs

-- number of nodes, nodes
abbrev pub path_form : List ProofNode → List ℕ
path_form ns = counted_form node_form ns

-- the first byte of each form
abbrev pub version : ℕ
version = 1

-- the second byte
abbrev pub point_kind : ℕ
point_kind = 4

-- version, kind, flag with the value, path
abbrev pub point_form : PointProof → List ℕ
point_form p = version ∷ point_kind ∷ (value_form p.value ++ path_form p.path)

-- ---- the grammar, for maps within the limits and tokens of w bits

-- values of a grammar behind their number
pub record AreCounted {A : Type 0} (P : A → Type 0) (xs : List A) : Type 0 where
  pub count : length xs < 2 ^ 64
  pub each : AllByRecursion P xs

pub record IsPathNode (l : Limits) (w : ℕ) (n : ProofNode) : Type 0 where
  pub node : IsProofNode w n
  pub short : length n.key ≤ rest_limit l

pub record IsPath (l : Limits) (w : ℕ) (ns : List ProofNode) : Type 0 where
  pub count : length ns < 2 ^ 64
  pub nodes : AllByRecursion (IsPathNode l w) ns

pub record IsPoint (l : Limits) (w : ℕ) (p : PointProof) : Type 0 where
  pub value : IfSome p.value (λ v. length v ≤ l.value)
  pub path : IsPath l w p.path

-- ---- reading

-- what is wrong with a field
pub data WireKind : Type 0 where
  -- it runs past the end
  Short : WireKind
  -- it is a number that is not read, also one that is cut off
  Varint : UvarintFault → WireKind
  -- the first, the second byte is another one
  Version : WireKind
  Kind : WireKind
  -- a flag above 1
  Flag : WireKind
  -- the length of a key, of a value, of a digest is above its limit
  LongKey : WireKind
  LongValue : WireKind
  LongDigest : WireKind
  -- the bits of a node's key are no whole tokens
  Tokens : WireKind
  -- unused bits are not zero
  Padding : WireKind
  -- an index is not below the factor, or else not above the one before it
  Index : WireKind
  Order : WireKind
  -- an end is below its start; a number of a request is outside its limits
  Bounds : WireKind
  Limited : WireKind
  -- bytes follow the last field
  Trailing : WireKind

-- the first field outside the grammar, by the place of its first byte
pub record WireFault : Type 0 where
  pub at : ℕ
  pub kind : WireKind

abbrev pub wrong : WireKind → ℕ → WireFault
wrong what at = record { at = at; kind = what }

abbrev pub bad_number : ℕ → UvarintFault → WireFault
bad_number at why = wrong (Varint why) at

-- one certain byte, or a fault for any other
unfoldable pub byte_at : WireKind → ℕ → List ℕ → ℕ → Field WireFault ℕ
byte_at other b bytes at = do
  x ← bytes_at (wrong Short) 1 bytes at
  if get_or x.0 0 0 == b then Ok (b, x.1) else Err (wrong other at)

-- bytes behind their length, which is at most a limit
unfoldable pub sized_at : WireKind → ℕ → List ℕ → ℕ → Field WireFault (List ℕ)
sized_at long limit bytes at = do
  n ← number_at bad_number bytes at
  if nat_lt limit n.0 then Err (wrong long at) else bytes_at (wrong Short) n.0 bytes n.1

-- a flag, and where it is 1 bytes behind their length
unfoldable pub maybe_at : WireKind → ℕ → List ℕ → ℕ → Field WireFault (Option (List ℕ))
maybe_at long limit bytes at = do
  flag ← flag_at (wrong Short) (wrong Flag) bytes at
  if flag.0 then (sized_at long limit bytes flag.1 >>= λ x. Ok (Some x.0, x.1)) else Ok (None, flag.1)

-- n values, one after the other
unfoldable pub listed_at : {A : Type 0} → (List ℕ → ℕ → Field WireFault A) → ℕ → List ℕ → ℕ → Field WireFault (List A)
listed_at read zero bytes at = Ok ([], at)
listed_at read (suc n) bytes at = do
  first ← read bytes at
  others ← listed_at read n bytes first.1
  Ok (first.0 ∷ others.0, others.1)

-- values behind their number
unfoldable pub counted_at : {A : Type 0} → (List ℕ → ℕ → Field WireFault A) → List ℕ → ℕ → Field WireFault (List A)
counted_at read bytes at = do
  count ← number_at bad_number bytes at
  listed_at read count.0 bytes count.1

-- the number of bits of a node's key: within the limit, and whole tokens
unfoldable pub bit_count_at : Limits → ℕ → List ℕ → ℕ → Field WireFault ℕ
bit_count_at l w bytes at = do
  n ← number_at bad_number bytes at
  if nat_lt (rest_limit l) n.0 then Err (wrong LongKey at) else if n.0 % w == 0 then Ok n else Err (wrong Tokens at)

unfoldable pub node_key_at : Limits → ℕ → List ℕ → ℕ → Field WireFault (List Bool)
node_key_at l w bytes at = do
  n ← bit_count_at l w bytes at
  bits_at (wrong Short) (wrong Padding) n.0 bytes n.1

-- an index below the factor, and from low on
unfoldable pub index_at : ℕ → ℕ → List ℕ → ℕ → Field WireFault ℕ
index_at w low bytes at = do
  i ← number_at bad_number bytes at
  if nat_le (2 ^ w) i.0 then Err (wrong Index at) else if nat_lt i.0 low then Err (wrong Order at) else Ok i

-- n children, whose indices strictly increase from low on
unfoldable pub children_at : ℕ → ℕ → ℕ → List ℕ → ℕ → Field WireFault (List (ℕ × List ℕ))
children_at zero w low bytes at = Ok ([], at)
children_at (suc n) w low bytes at = do
  index ← index_at w low bytes at
  id ← bytes_at (wrong Short) hash_length bytes index.1
  others ← children_at n w (suc index.0) bytes id.1
  Ok ((index.0, id.0) ∷ others.0, others.1)

unfoldable pub node_at : Limits → ℕ → List ℕ → ℕ → Field WireFault ProofNode
node_at l w bytes at = do
  key ← node_key_at l w bytes at
  digest ← maybe_at LongDigest hash_length bytes key.1
  count ← number_at bad_number bytes digest.1
  children ← children_at count.0 w 0 bytes count.1
  Ok (record { key = key.0; digest = digest.0; children = children.0 }, children.1)

-- n nodes
unfoldable pub nodes_at : Limits → ℕ → ℕ → List ℕ → ℕ → Field WireFault (List ProofNode)
nodes_at l zero w bytes at = Ok ([], at)
nodes_at l (suc n) w bytes at = do
  first ← node_at l w bytes at
  others ← nodes_at l n w bytes first.1
  Ok (first.0 ∷ others.0, others.1)

unfoldable pub path_at : Limits → ℕ → List ℕ → ℕ → Field WireFault (List ProofNode)
path_at l w bytes at = do
  count ← number_at bad_number bytes at
  nodes_at l count.0 w bytes count.1

-- the version and the kind, and the place after them
unfoldable pub head_at : ℕ → List ℕ → Field WireFault ℕ
head_at second bytes = do
  first ← byte_at Version version bytes 0
  byte_at Kind second bytes first.1

-- nothing follows
unfoldable pub all_read : {A : Type 0} → List ℕ → A × ℕ → Result A WireFault
all_read bytes x = if x.1 == length bytes then Ok x.0 else Err (wrong Trailing x.1)

-- a point proof
unfoldable pub point_of : Limits → ℕ → List ℕ → Result PointProof WireFault
point_of l w bytes = do
  head ← head_at point_kind bytes
  value ← maybe_at LongValue l.value bytes head.1
  path ← path_at l w bytes value.1
  all_read bytes (record { value = value.0; path = path.0 }, path.1)
