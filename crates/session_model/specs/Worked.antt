-- Worked scripts on a store of the empty map, with tokens of 4 bits. Bytes are in hexadecimal where they stand in a script.
use Rattle.std.specs.Prelude.{◌≡◌, ◌≢◌, ℕ, List, [], ◌∷◌, codes, Option, Some, None}
use Rattle.std.specs.List.{filter_map}
use Rattle.std.specs.FinMap as map_of
use Rattle.trie_model.specs.Maps.{Map, root}
use Rattle.text_model.specs.Texts.{commit_text, view_text, taken_text, state_text, root_text, proof_text, range_text}
use Rattle.text_model.specs.Words.{Id, Now, Empty, Back}
use Rattle.history_model.specs.Held.{no_map}
use Rattle.session_model.specs.MapsByRoot.{named}
use Rattle.session_model.specs.Session.{Step, Stop, BadLine, quiet}
use Rattle.session_model.specs.Script.{script}

abbrev pub maybe_text : List ℕ → Option (List ℕ)
maybe_text [] = None
maybe_text (b ∷ text) = Some (b ∷ text)

-- the lines that a script prints
abbrev pub printed : List ℕ → List (List ℕ)
printed bytes = filter_map (λ (s : Step). maybe_text s.text) (script 4 map_of.empty bytes).steps

-- why a script stops before its end, if it does
abbrev pub stopped : List ℕ → Option Stop
stopped bytes = (script 4 map_of.empty bytes).stop

-- a map with one pair more
abbrev pub with : ℕ → ℕ → Map → Map
with key value m = map_of.insert m (key ∷ []) (value ∷ [])

abbrev pub one_pair : Map
one_pair = with 0x6b 0x76 no_map

abbrev pub root_of : Map → List ℕ
root_of = root 4

-- what is pending is committed at the end, or by a line; an empty batch may be committed; what is pending before a bad line is not
abbrev pub WorkedScripts : Type 0
WorkedScripts =
    (printed (codes "put 6b 76\n") ≡ commit_text 1 (root_of one_pair) ∷ [])
    × (printed (codes "put 6b 76\ncommit\n") ≡ commit_text 1 (root_of one_pair) ∷ [])
    × (printed (codes "put 6b 77\nput 6b 76\ncommit\ncommit\n") ≡ commit_text 1 (root_of one_pair) ∷ commit_text 2 (root_of one_pair) ∷ [])
    × (printed [] ≡ [])
    × (stopped (codes "put 6b 76\ncomit\n") ≡ Some (BadLine 2))
    × ((script 4 map_of.empty (codes "put 6b 76\ncomit\n")).steps ≡ quiet ∷ [])

-- the maps of the scripts on views
abbrev pub a : Map
a = with 0x0a 0x61 no_map

abbrev pub b : Map
b = with 0x0b 0x62 no_map

-- of two views on the store one is committed: its sibling is invalid then, and the view that stands on it lives on
abbrev pub siblings : List ℕ
siblings = codes "put 0a 61\nview db\nput 0b 62\nview db\nput 0c 63\nview 1\ntake 1\nstate 2\nstate 3\ntake 2\ntake 3\nroot db\n"

-- a view is committed after its parent, and not before
abbrev pub parents : List ℕ
parents = codes "put 0a 61\nview db\nput 0b 62\nview 1\ntake 2\ntake 1\ntake 2\ntake 9\n"

abbrev pub ViewScripts : Type 0
ViewScripts =
    (printed siblings
    ≡ view_text 1 (root_of a) ∷ view_text 2 (root_of b) ∷ view_text 3 (root_of (with 0x0c 0x63 a)) ∷ taken_text 1 (root_of a) ∷ codes "state 2 Invalid\n" ∷ codes "state 3 Live\n" ∷ codes "refused not live Invalid\n"
    ∷ taken_text 3 (root_of (with 0x0c 0x63 a)) ∷ root_text (root_of (with 0x0c 0x63 a)) ∷ [])
    × (printed parents
    ≡ view_text 1 (root_of a) ∷ view_text 2 (root_of (with 0x0b 0x62 a)) ∷ codes "refused not parent\n" ∷ taken_text 1 (root_of a) ∷ taken_text 2 (root_of (with 0x0b 0x62 a)) ∷ codes "refused unknown\n" ∷ [])

-- a closed view takes those with it that stand on it
abbrev pub ClosedLines : Type 0
ClosedLines =
    printed (codes "view db\nview 1\nclose 1\nclose 1\nstate 2\ntake 2\n")
    ≡ view_text 1 (root_of no_map) ∷ view_text 2 (root_of no_map) ∷ codes "closed 1\n" ∷ codes "refused not live Closed\n" ∷ codes "state 2 Closed\n" ∷ codes "refused not live Closed\n" ∷ []

-- lines that are refused, and lines that only read
abbrev pub RefusedLines : Type 0
RefusedLines =
    -- a batch has a number like a view, and its state
    (printed (codes "commit\nstate 1\nstate 2\nview 1\n") ≡ commit_text 1 (root_of no_map) ∷ state_text 1 (codes "Committed") ∷ codes "refused unknown\n" ∷ codes "refused not live Committed\n" ∷ [])
    -- a view that is refused takes what is pending with it
    × (printed (codes "put 0a 61\nview 5\ncommit\n") ≡ codes "refused unknown\n" ∷ commit_text 1 (root_of no_map) ∷ [])
    -- what is pending is not read
    × (printed (codes "put 0a 61\nroot db\nroot 1\n") ≡ root_text (root_of no_map) ∷ codes "refused unknown\n" ∷ commit_text 1 (root_of a) ∷ [])
    × (printed (codes "get db 0a\n") ≡ codes "none\n" ∷ [])

-- the present map has names, and the empty map has one where it is not the present one; of the maps before it those have one
-- that are held
abbrev pub NamedMaps : Type 0
NamedMaps =
    (m : Map) → (named 4 (m ∷ []) Now ≡ Some m) × (named 4 (m ∷ []) (Back 0) ≡ Some m) × (named 4 (m ∷ []) (Back 1) ≡ None)
    × (named 4 (m ∷ []) (Id (root_of m)) ≡ Some m) × (named 4 (no_map ∷ []) Empty ≡ Some no_map)
    × ((former : Map) (maps : List Map) → (named 4 (m ∷ former ∷ maps) Now ≡ Some m) × (named 4 (m ∷ former ∷ maps) (Id (root_of m)) ≡ Some m))
    -- the map one commit back, where the present one has another root
    × ((former : Map) (maps : List Map) → root_of m ≢ root_of former → named 4 (m ∷ former ∷ maps) (Back 1) ≡ Some former)
    -- a commit that changed nothing leaves the present map one commit back
    × ((former : Map) (maps : List Map) → named 4 (m ∷ m ∷ maps) (Back 1) ≡ Some m)

-- the bytes of a proof that shows no value and no node
abbrev pub no_proof : List ℕ
no_proof = 0x01 ∷ 0x04 ∷ 0x00 ∷ 0x00 ∷ []

-- proofs of a key in the empty map, under two of its names, and in a map that the store has not. What is pending is not proved
abbrev pub ProvedLines : Type 0
ProvedLines =
    (printed (codes "prove now 6b\nprove ~0 -\nprove ~1 6b\n") ≡ proof_text no_proof ∷ proof_text no_proof ∷ codes "refused not held\n" ∷ [])
    × (printed (codes "put 6b 76\nprove now 6b\n") ≡ proof_text no_proof ∷ commit_text 1 (root_of one_pair) ∷ [])

-- the bytes of a range proof that shows no pair and no node
abbrev pub no_range : List ℕ
no_range = 0x01 ∷ 0x01 ∷ 0x00 ∷ 0x00 ∷ 0x00 ∷ 0x00 ∷ []

-- proofs of all keys in the empty map, under three of its names, and in a map that the store has not. What is pending is not proved, and stays pending
abbrev pub RangedLines : Type 0
RangedLines =
    (printed (codes "range now * * 1 1\nrange empty * * 1 1\nrange ~0 * * 1 1\nrange ~1 * * 1 1\n") ≡ range_text no_range ∷ range_text no_range ∷ range_text no_range ∷ codes "refused not held\n" ∷ [])
    × (printed (codes "put 6b 76\nrange now * * 1 1\n") ≡ range_text no_range ∷ commit_text 1 (root_of one_pair) ∷ [])
