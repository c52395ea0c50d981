-- Worked lines of an input that makes a map, of a script, and of an input of proofs. Bytes are in hexadecimal: 09 is a tab, 0d a carriage return.
use Rattle.std.specs.Prelude.{◌≡◌, ℕ, List, [], ◌∷◌, ◌++◌, codes, replicate, Some, None, Result, Ok, Err}
use Rattle.range_model.specs.Ranges.{Range, everything, only}
use Rattle.text_model.specs.LineKind.{LineKind, Word, Count, Hex, LongKey, Number, Place, Root as NoRoot, Bounds}
use Rattle.text_model.specs.ReadLine.{Batch, Script, Verify, Line, Skip, Put, Del, Commit, View, Take, Close, State, Get, Root, Prove, Point, RangeOf, ChangesOf, VerifyRange, VerifyChanges, read_line}
use Rattle.text_model.specs.Words.{Db, View as OfView, Id, Now, Empty, Back}

-- a line of an input that makes a map
abbrev pub read : List ℕ → Result Line LineKind
read = read_line Batch

-- a line of a script
abbrev pub script : List ℕ → Result Line LineKind
script = read_line Script

-- a line of an input of proofs
abbrev pub proof : List ℕ → Result Line LineKind
proof = read_line Verify

-- from 0a, and up to a bound of 257 bytes
abbrev pub to_the_limit : Range
to_the_limit = record { start = Some (0x0a ∷ []); end = Some (replicate 257 0x11) }

-- lines that are understood
abbrev pub GoodLines : Type 0
GoodLines =
    (read (codes "put 6b 76") ≡ Ok (Put (0x6b ∷ []) (0x76 ∷ [])))
    × (read (codes "del 6b") ≡ Ok (Del (0x6b ∷ [])))
    -- blanks everywhere, and digits in either case
    × (read (codes " \tput\t6B  aF ") ≡ Ok (Put (0x6b ∷ []) (0xaf ∷ [])))
    -- no bytes
    × (read (codes "put - -") ≡ Ok (Put [] []))
    -- comments, and lines without words
    × (read (codes "# put zz") ≡ Ok Skip)
    × (read [] ≡ Ok Skip)
    × (read (codes " \t") ≡ Ok Skip)
    -- a key of 256 bytes
    × (read (codes "del " ++ replicate 512 0x30) ≡ Ok (Del (replicate 256 0x00)))

-- lines that are not understood, by their faults
abbrev pub BadLines : Type 0
BadLines =
    -- only a first byte # makes a comment, and 0d is part of a word
    (read (codes " # x") ≡ Err Word)
    × (read (codes "PUT 6b 76") ≡ Err Word)
    × (read (codes "\r") ≡ Err Word)
    × (read (codes "put 6b") ≡ Err Count)
    × (read (codes "put 6b 76 76") ≡ Err Count)
    × (read (codes "del") ≡ Err Count)
    -- an odd number of digits, what is no digit, a prefix, more than one dash
    × (read (codes "put 6b 7") ≡ Err Hex)
    × (read (codes "put 6g 76") ≡ Err Hex)
    × (read (codes "put 0x6b 76") ≡ Err Hex)
    × (read (codes "del --") ≡ Err Hex)
    × (read (codes "del 6b\r") ≡ Err Hex)
    -- a key of 257 bytes
    × (read (codes "del " ++ replicate 514 0x30) ≡ Err LongKey)
    -- of two faults, the first word tells, then the number of words, then the left word
    × (read (codes "foo zz zz") ≡ Err Word)
    × (read (codes "put zz") ≡ Err Count)
    × (read (codes "put " ++ replicate 514 0x30 ++ codes " zz") ≡ Err LongKey)
    -- and a word that is not hexadecimal has no length
    × (read (codes "del z" ++ replicate 513 0x30) ≡ Err Hex)

-- lines of a script that are understood
abbrev pub ScriptLines : Type 0
ScriptLines =
    (script (codes "commit") ≡ Ok Commit)
    × (script (codes " commit ") ≡ Ok Commit)
    × (script (codes "view db") ≡ Ok (View Db))
    × (script (codes "view 12") ≡ Ok (View (OfView 12)))
    × (script (codes "\ttake\t1 ") ≡ Ok (Take 1))
    × (script (codes "close 0") ≡ Ok (Close 0))
    -- the greatest number
    × (script (codes "state 18446744073709551615") ≡ Ok (State 18446744073709551615))
    × (script (codes "get db -") ≡ Ok (Get Db []))
    × (script (codes "get 3 6B") ≡ Ok (Get (OfView 3) (0x6b ∷ [])))
    × (script (codes "root db") ≡ Ok (Root Db))
    × (script (codes "root 10") ≡ Ok (Root (OfView 10)))
    × (script (codes "prove now 6b") ≡ Ok (Prove Now (0x6b ∷ [])))
    × (script (codes "prove empty -") ≡ Ok (Prove Empty []))
    × (script (codes "prove ~0 6b") ≡ Ok (Prove (Back 0) (0x6b ∷ [])))
    × (script (codes "prove ~64 6b") ≡ Ok (Prove (Back 64) (0x6b ∷ [])))
    -- 64 digits in either case
    × (script (codes "prove " ++ replicate 62 0x30 ++ codes "aF 6b") ≡ Ok (Prove (Id (replicate 31 0x00 ++ 0xaf ∷ [])) (0x6b ∷ [])))
    × (script (codes "range now * * 1 1") ≡ Ok (RangeOf Now everything 1 1))
    × (script (codes "range ~1 0A 0a 10 1000") ≡ Ok (RangeOf (Back 1) (only (0x0a ∷ [])) 10 1000))
    × (script (codes "range empty - * 4096 2097152") ≡ Ok (RangeOf Empty (record { start = Some []; end = None }) 4096 2097152))
    × (script (codes "changes ~2 now * * 10 1000") ≡ Ok (ChangesOf (Back 2) Now everything 10 1000))
    × (script (codes "changes empty ~1 0A 0a 1 1") ≡ Ok (ChangesOf Empty (Back 1) (only (0x0a ∷ [])) 1 1))
    -- a bound may have one byte more than a key
    × (script (codes "range now 0a " ++ replicate 514 0x31 ++ codes " 1 1") ≡ Ok (RangeOf Now to_the_limit 1 1))
    -- the lines of an input that makes a map are lines of a script
    × (script (codes "put 6b 76") ≡ Ok (Put (0x6b ∷ []) (0x76 ∷ [])))
    × (script (codes "del 6b") ≡ Ok (Del (0x6b ∷ [])))
    × (script (codes "# commit") ≡ Ok Skip)
    × (script [] ≡ Ok Skip)

-- lines of a script that are not understood, by their faults
abbrev pub BadScriptLines : Type 0
BadScriptLines =
    -- an input that makes a map has no commit and no view
    (read (codes "commit") ≡ Err Word)
    × (read (codes "view db") ≡ Err Word)
    × (script (codes "comit") ≡ Err Word)
    × (script (codes "COMMIT") ≡ Err Word)
    × (script (codes "commit\r") ≡ Err Word)
    × (script (codes "put 6b") ≡ Err Count)
    -- nothing follows `commit`, and one word follows `view`
    × (script (codes "commit x") ≡ Err Count)
    × (script (codes "view") ≡ Err Count)
    × (script (codes "view db db") ≡ Err Count)
    × (script (codes "get db") ≡ Err Count)
    × (script (codes "put 6b 7") ≡ Err Hex)
    -- a zero in front, a sign, a digit that is not decimal, a number of 65 bits
    × (script (codes "take 01") ≡ Err Number)
    × (script (codes "close +1") ≡ Err Number)
    × (script (codes "state 1f") ≡ Err Number)
    × (script (codes "take 18446744073709551616") ≡ Err Number)
    -- `db` is no number of a view, and what is neither is no place
    × (script (codes "take db") ≡ Err Number)
    × (script (codes "view DB") ≡ Err Place)
    × (script (codes "view -") ≡ Err Place)
    × (script (codes "root 007") ≡ Err Place)
    × (script (codes "root 18446744073709551616") ≡ Err Place)
    -- of two words that stand for nothing the left one tells
    × (script (codes "get x 6") ≡ Err Place)
    × (script (codes "get 1 6") ≡ Err Hex)
    × (script (codes "get 1 " ++ replicate 514 0x30) ≡ Err LongKey)
    -- a root has 64 digits, and a number stands behind `~`
    × (script (codes "prove " ++ replicate 63 0x30 ++ codes " 6b") ≡ Err NoRoot)
    × (script (codes "prove " ++ replicate 63 0x30 ++ codes "g 6b") ≡ Err NoRoot)
    × (script (codes "prove " ++ replicate 66 0x30 ++ codes " 6b") ≡ Err NoRoot)
    × (script (codes "prove - 6b") ≡ Err NoRoot)
    × (script (codes "prove Now 6b") ≡ Err NoRoot)
    × (script (codes "prove ~ 6b") ≡ Err NoRoot)
    × (script (codes "prove ~01 6b") ≡ Err NoRoot)
    × (script (codes "prove db 6") ≡ Err NoRoot)
    × (script (codes "prove now 6") ≡ Err Hex)
    × (script (codes "prove now") ≡ Err Count)
    -- a range has an end that is not below its start, and is asked for within limits
    × (script (codes "range now 0b 0a 1 1") ≡ Err Bounds)
    × (script (codes "range now 0a 0a 0 1") ≡ Err Number)
    × (script (codes "range now 0a 0a 4097 1") ≡ Err Number)
    × (script (codes "range now 0a 0a 1 0") ≡ Err Number)
    × (script (codes "range now 0a 0a 1 2097153") ≡ Err Number)
    × (script (codes "range now 0a " ++ replicate 516 0x31 ++ codes " 1 1") ≡ Err LongKey)
    × (script (codes "range now 0 0a 1 1") ≡ Err Hex)
    × (script (codes "range now ** 0a 1 1") ≡ Err Hex)
    -- that tells where all words are good
    × (script (codes "range now 0b 0a 0 1") ≡ Err Number)
    × (script (codes "range db 0b 0a 1 1") ≡ Err NoRoot)
    × (script (codes "range now 0b 0a 1") ≡ Err Count)
    × (script (codes "range now 0b 0a 1 1 1") ≡ Err Count)
    × (read (codes "range now * * 1 1") ≡ Err Word)
    -- so for changes, where both roots are told before the bounds
    × (script (codes "changes now ~1 0b 0a 1 1") ≡ Err Bounds)
    × (script (codes "changes now ~1 0b 0a 0 1") ≡ Err Number)
    × (script (codes "changes now ~1 0b 0a 1 2097153") ≡ Err Number)
    × (script (codes "changes now db 0 0a 1 1") ≡ Err NoRoot)
    × (script (codes "changes db now 0 0a 1 1") ≡ Err NoRoot)
    × (script (codes "changes now ~1 0 0a 1 1") ≡ Err Hex)
    × (script (codes "changes now * * 1 1") ≡ Err Count)
    × (script (codes "changes now now * * 1 1 1") ≡ Err Count)
    × (read (codes "changes now now * * 1 1") ≡ Err Word)
    -- a script checks no proofs
    × (script (codes "point empty 6b 01") ≡ Err Word)
    × (script (codes "range empty * * 01") ≡ Err Count)

-- lines of an input of proofs
abbrev pub ProofLines : Type 0
ProofLines =
    (proof (codes "point " ++ replicate 64 0x30 ++ codes " 6b 0104") ≡ Ok (Point (replicate 32 0x00) (0x6b ∷ []) (0x01 ∷ 0x04 ∷ [])))
    × (proof (codes " point\tempty - - ") ≡ Ok (Point (replicate 32 0x00) [] []))
    × (proof (codes "# point") ≡ Ok Skip)
    × (proof [] ≡ Ok Skip)
    -- no store is there whose map `now` or `~0` could name
    × (proof (codes "point now 6b 01") ≡ Err NoRoot)
    × (proof (codes "point ~0 6b 01") ≡ Err NoRoot)
    × (proof (codes "point empty 6 0") ≡ Err Hex)
    × (proof (codes "point empty 6b 0") ≡ Err Hex)
    × (proof (codes "point empty " ++ replicate 514 0x30 ++ codes " 01") ≡ Err LongKey)
    × (proof (codes "point empty 6b") ≡ Err Count)
    × (proof (codes "point empty 6b 01 01") ≡ Err Count)
    × (proof (codes "range empty 0a * 0101") ≡ Ok (VerifyRange (replicate 32 0x00) (record { start = Some (0x0a ∷ []); end = None }) (0x01 ∷ 0x01 ∷ [])))
    × (proof (codes "range empty * 0A -") ≡ Ok (VerifyRange (replicate 32 0x00) (record { start = None; end = Some (0x0a ∷ []) }) []))
    × (proof (codes "range empty 0b 0a 0101") ≡ Err Bounds)
    × (proof (codes "range empty 0b 0a 010") ≡ Err Hex)
    × (proof (codes "range empty 0b " ++ replicate 516 0x30 ++ codes " 01") ≡ Err LongKey)
    × (proof (codes "range now * * 01") ≡ Err NoRoot)
    × (proof (codes "range empty * *") ≡ Err Count)
    × (proof (codes "range empty * * 1 1") ≡ Err Count)
    -- changes have the words of a range
    × (proof (codes "changes empty 0a * 0102") ≡ Ok (VerifyChanges (replicate 32 0x00) (record { start = Some (0x0a ∷ []); end = None }) (0x01 ∷ 0x02 ∷ [])))
    × (proof (codes "changes empty 0b 0a 0102") ≡ Err Bounds)
    × (proof (codes "changes now * * 01") ≡ Err NoRoot)
    × (proof (codes "changes empty * * 010") ≡ Err Hex)
    × (proof (codes "changes now now * * 1 1") ≡ Err Count)
    × (proof (codes "put 6b 76") ≡ Err Word)
    × (proof (codes "prove now 6b") ≡ Err Word)
