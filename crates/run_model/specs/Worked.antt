-- Worked runs: words and an input, and what they come to, with SHA-256 left as a symbol.
-- Bytes are in hexadecimal: 0a ends a line, 0d may stand before it, 09 is a tab.
use Rattle.std.specs.Prelude.{◌≡◌, ℕ, List, [], ◌∷◌, ◌++◌, codes, replicate, Result, Ok, Err}
use Rattle.std.specs.FinMap as map_of
use Rattle.sha2.specs.Sha256.{sha256}
use Rattle.hex.specs.Hex.{encode_lower}
use Rattle.trie_model.specs.Maps.{Map}
use Rattle.store_model.specs.Refusals.{Refusal}
use Rattle.proof_model.specs.CheckedBytes.{NotRead, NotAccepted}
use Rattle.proof_model.specs.Refusals.{Unsorted, Idle}
use Rattle.proof_model.specs.Wire.{Flag, Kind}
use Rattle.run_model.specs.End.{Done, BadWords, BadLine, NotOpened, VerifyRefused, NotHeld}
use Rattle.run_model.specs.Outcome.{Outcome, silent}
use Rattle.run_model.specs.Runs.{outcome}

-- `mdb - root 16` on an input
abbrev pub root_16 : List ℕ → Outcome
root_16 bytes = outcome (codes "-" ∷ codes "root" ∷ codes "16" ∷ []) (Ok map_of.empty) bytes

-- the work is finished, and this is printed
abbrev pub prints : List ℕ → Outcome
prints text = record { end = Done; text = text }

-- the work is finished, and the line of the root of 76 at 6b is printed
abbrev pub PrintsOnePair : Outcome → Type 0
PrintsOnePair result = result ≡ prints (codes "root " ++ encode_lower (sha256 (0x00 ∷ 0x01 ∷ 0x01 ∷ 0x76 ∷ 0x08 ∷ 0x6b ∷ [])) ++ 0x0a ∷ [])

-- the work is finished, and the root that is printed is 64 zeros
abbrev pub PrintsZeros : Outcome → Type 0
PrintsZeros result = result ≡ prints (codes "root " ++ replicate 64 0x30 ++ 0x0a ∷ [])

-- inputs that make the map of 76 at 6b
abbrev pub OnePairRuns : Type 0
OnePairRuns =
    -- a line; one with 0d 0a for its end; one that lacks its end
    PrintsOnePair (root_16 (codes "put 6b 76\n"))
    × PrintsOnePair (root_16 (codes "put 6b 76\r\n"))
    × PrintsOnePair (root_16 (codes "put 6b 76"))
    -- blanks everywhere, and digits in upper case
    × PrintsOnePair (root_16 (codes " \tput\t6B  76 \n"))
    -- comments and lines without words
    × PrintsOnePair (root_16 (codes "# put 6b 75\n\n \t\nput 6b 76\n\r\n#"))
    -- a later line on a key replaces an earlier one
    × PrintsOnePair (root_16 (codes "put 6b 75\nput 6b 76\n"))
    × PrintsOnePair (root_16 (codes "put 6b 75\ndel 6b\nput 6b 76\n"))
    -- deleting a key that isn't there changes nothing
    × PrintsOnePair (root_16 (codes "put 6b 76\ndel 6c\n"))
    × PrintsOnePair (root_16 (codes "del 6b\nput 6b 76\ndel -\n"))

-- inputs that make the empty map
abbrev pub EmptyRuns : Type 0
EmptyRuns =
    PrintsZeros (root_16 [])
    × PrintsZeros (root_16 (codes "\n"))
    × PrintsZeros (root_16 (codes "put 6b 76\ndel 6b"))

-- the words of `range` at factor 16, with these of its own
abbrev pub ranging : List (List ℕ) → List (List ℕ)
ranging own = codes "range" ∷ codes "16" ∷ own

-- so of `changes`
abbrev pub changing : List (List ℕ) → List (List ℕ)
changing own = codes "changes" ∷ codes "16" ∷ own

-- words outside the grammar, whatever the input and the files are
abbrev pub WrongWordRuns : Type 0
WrongWordRuns =
    (found : Result Map Refusal) (bytes : List ℕ)
    -- words that are missing
    → (outcome [] found bytes ≡ silent (BadWords 1))
    × (outcome (codes "-" ∷ []) found bytes ≡ silent (BadWords 2))
    × (outcome (codes "-" ∷ codes "root" ∷ []) found bytes ≡ silent (BadWords 3))
    -- no command, no factor
    × (outcome (codes "-" ∷ codes "Root" ∷ codes "16" ∷ []) found bytes ≡ silent (BadWords 2))
    × (outcome (codes "-" ∷ codes "root" ∷ codes "8" ∷ []) found bytes ≡ silent (BadWords 3))
    × (outcome (codes "-" ∷ codes "root" ∷ codes "016" ∷ []) found bytes ≡ silent (BadWords 3))
    -- a word too many, and the same after a wrong one
    × (outcome (codes "-" ∷ codes "root" ∷ codes "16" ∷ codes "16" ∷ []) found bytes ≡ silent (BadWords 4))
    × (outcome (codes "-" ∷ codes "root" ∷ codes "8" ∷ codes "16" ∷ []) found bytes ≡ silent (BadWords 3))
    -- a store has no folder `-`, `apply` no words of its own, and `get` just one, a key
    × (outcome (codes "-" ∷ codes "apply" ∷ codes "16" ∷ []) found bytes ≡ silent (BadWords 1))
    × (outcome (codes "D" ∷ codes "apply" ∷ codes "16" ∷ codes "6b" ∷ []) found bytes ≡ silent (BadWords 4))
    × (outcome (codes "D" ∷ codes "get" ∷ codes "16" ∷ []) found bytes ≡ silent (BadWords 4))
    × (outcome (codes "D" ∷ codes "get" ∷ codes "16" ∷ codes "6" ∷ []) found bytes ≡ silent (BadWords 4))
    × (outcome (codes "D" ∷ codes "get" ∷ codes "16" ∷ codes "6b" ∷ codes "6b" ∷ []) found bytes ≡ silent (BadWords 5))
    × (outcome (codes "D" ∷ codes "get" ∷ codes "16" ∷ codes "6" ∷ codes "6b" ∷ []) found bytes ≡ silent (BadWords 4))
    -- `prove` has a root and a key
    × (outcome (codes "-" ∷ codes "prove" ∷ codes "16" ∷ codes "now" ∷ codes "6b" ∷ []) found bytes ≡ silent (BadWords 1))
    × (outcome (codes "D" ∷ codes "prove" ∷ codes "16" ∷ []) found bytes ≡ silent (BadWords 4))
    × (outcome (codes "D" ∷ codes "prove" ∷ codes "16" ∷ codes "Now" ∷ codes "6" ∷ []) found bytes ≡ silent (BadWords 4))
    × (outcome (codes "D" ∷ codes "prove" ∷ codes "16" ∷ codes "~1" ∷ []) found bytes ≡ silent (BadWords 5))
    × (outcome (codes "D" ∷ codes "prove" ∷ codes "16" ∷ codes "empty" ∷ codes "6" ∷ []) found bytes ≡ silent (BadWords 5))
    × (outcome (codes "D" ∷ codes "prove" ∷ codes "16" ∷ codes "now" ∷ codes "6b" ∷ codes "6b" ∷ []) found bytes ≡ silent (BadWords 6))
    -- `range` has a root, a start, an end that is not below it, and two numbers within limits
    × (outcome (codes "-" ∷ ranging (codes "now" ∷ codes "*" ∷ codes "*" ∷ codes "1" ∷ codes "1" ∷ [])) found bytes ≡ silent (BadWords 1))
    × (outcome (codes "D" ∷ ranging []) found bytes ≡ silent (BadWords 4))
    × (outcome (codes "D" ∷ ranging (codes "db" ∷ codes "**" ∷ [])) found bytes ≡ silent (BadWords 4))
    × (outcome (codes "D" ∷ ranging (codes "now" ∷ codes "**" ∷ codes "0" ∷ [])) found bytes ≡ silent (BadWords 5))
    × (outcome (codes "D" ∷ ranging (codes "now" ∷ codes "0b" ∷ codes "0" ∷ [])) found bytes ≡ silent (BadWords 6))
    -- an end below its start is told before what stands behind it
    × (outcome (codes "D" ∷ ranging (codes "now" ∷ codes "0b" ∷ codes "0a" ∷ codes "0" ∷ codes "1" ∷ [])) found bytes ≡ silent (BadWords 6))
    × (outcome (codes "D" ∷ ranging (codes "now" ∷ codes "0a" ∷ codes "0a" ∷ [])) found bytes ≡ silent (BadWords 7))
    × (outcome (codes "D" ∷ ranging (codes "now" ∷ codes "*" ∷ codes "0a" ∷ codes "0" ∷ codes "0" ∷ [])) found bytes ≡ silent (BadWords 7))
    × (outcome (codes "D" ∷ ranging (codes "now" ∷ codes "*" ∷ codes "*" ∷ codes "4097" ∷ codes "1" ∷ [])) found bytes ≡ silent (BadWords 7))
    × (outcome (codes "D" ∷ ranging (codes "now" ∷ codes "*" ∷ codes "*" ∷ codes "4096" ∷ codes "2097153" ∷ [])) found bytes ≡ silent (BadWords 8))
    × (outcome (codes "D" ∷ ranging (codes "now" ∷ codes "*" ∷ codes "*" ∷ codes "4096" ∷ codes "2097152" ∷ codes "1" ∷ [])) found bytes ≡ silent (BadWords 9))
    -- `changes` has two roots in front of these
    × (outcome (codes "-" ∷ changing (codes "now" ∷ codes "now" ∷ codes "*" ∷ codes "*" ∷ codes "1" ∷ codes "1" ∷ [])) found bytes ≡ silent (BadWords 1))
    × (outcome (codes "D" ∷ changing []) found bytes ≡ silent (BadWords 4))
    × (outcome (codes "D" ∷ changing (codes "now" ∷ codes "db" ∷ codes "**" ∷ [])) found bytes ≡ silent (BadWords 5))
    × (outcome (codes "D" ∷ changing (codes "now" ∷ codes "now" ∷ codes "0b" ∷ codes "0a" ∷ codes "0" ∷ codes "1" ∷ [])) found bytes ≡ silent (BadWords 7))
    × (outcome (codes "D" ∷ changing (codes "now" ∷ codes "now" ∷ codes "*" ∷ codes "*" ∷ codes "4097" ∷ codes "1" ∷ [])) found bytes ≡ silent (BadWords 8))
    × (outcome (codes "D" ∷ changing (codes "now" ∷ codes "now" ∷ codes "*" ∷ codes "*" ∷ codes "1" ∷ codes "1" ∷ codes "1" ∷ [])) found bytes ≡ silent (BadWords 10))
    -- `verify` has no words of its own
    × (outcome (codes "-" ∷ codes "verify" ∷ codes "16" ∷ codes "now" ∷ []) found bytes ≡ silent (BadWords 4))

-- inputs with a line outside the grammar
abbrev pub WrongLineRuns : Type 0
WrongLineRuns =
    -- the last line, the first of two, and one after lines that are skipped
    (root_16 (codes "put 6b 76\nx") ≡ silent (BadLine 2))
    × (root_16 (codes "x\ny") ≡ silent (BadLine 1))
    × (root_16 (codes "# x\n\n \nx") ≡ silent (BadLine 4))
    -- only a first byte # makes a comment
    × (root_16 (codes " # x") ≡ silent (BadLine 1))
    -- 0d at the end of the input is part of the last word, and before 0a only one is dropped
    × (root_16 (codes "del 6b\r") ≡ silent (BadLine 1))
    × (root_16 (codes "del 6b\r\r\n") ≡ silent (BadLine 1))
    × (root_16 (codes "\r") ≡ silent (BadLine 1))
    -- an odd number of digits, what is no digit, a prefix, more than one dash
    × (root_16 (codes "put 6b 7") ≡ silent (BadLine 1))
    × (root_16 (codes "put 6g 76") ≡ silent (BadLine 1))
    × (root_16 (codes "put 0x6b 76") ≡ silent (BadLine 1))
    × (root_16 (codes "put -- 76") ≡ silent (BadLine 1))
    -- a word that is missing, a word too many, and other commands
    × (root_16 (codes "put 6b") ≡ silent (BadLine 1))
    × (root_16 (codes "put 6b 76 76") ≡ silent (BadLine 1))
    × (root_16 (codes "del 6b 76") ≡ silent (BadLine 1))
    × (root_16 (codes "PUT 6b 76") ≡ silent (BadLine 1))

-- a key of 256 bytes, and one of 257
abbrev pub KeyLimitRuns : Type 0
KeyLimitRuns =
    PrintsZeros (root_16 (codes "del " ++ replicate 512 0x30))
    × (root_16 (codes "del " ++ replicate 514 0x30) ≡ silent (BadLine 1))

-- `mdb - verify 16` on an input
abbrev pub verify_16 : List ℕ → Outcome
verify_16 bytes = outcome (codes "-" ∷ codes "verify" ∷ codes "16" ∷ []) (Ok map_of.empty) bytes

-- lines of proofs: that the empty map has nothing at a key is shown by no node. And bytes that are no proof
abbrev pub VerifyRuns : Type 0
VerifyRuns =
    (verify_16 (codes "point empty 6b 01040000\n# x\npoint empty - 01040000") ≡ prints (codes "ok 0\nok 0\n"))
    × (verify_16 (codes "point empty 6b 01040000\nput 6b 76\n") ≡ record { end = BadLine 2; text = codes "ok 0\n" })
    × (verify_16 (codes "point empty 6b 01040000\n\npoint empty 6b 010402\nx\n") ≡ record { end = VerifyRefused 3 (NotRead (record { at = 2; kind = Flag })); text = codes "ok 0\n" })

-- so of range proofs: that the empty map has nothing at all is shown by no node. Pairs that are not in order are refused, and so are bytes that are no proof
abbrev pub VerifyRangeRuns : Type 0
VerifyRangeRuns =
    (verify_16 (codes "range empty * * 010100000000\npoint empty - 01040000\nrange empty - ff 010100000000\n") ≡ prints (codes "ok 0\nok 0\nok 0\n"))
    × (verify_16 (codes "range empty * * 010100000000\nrange empty 0b 0a 010100000000\n") ≡ record { end = BadLine 2; text = codes "ok 0\n" })
    × (verify_16 (codes "range empty * * 01010002010b0162010a01610000\n") ≡ silent (VerifyRefused 1 (NotAccepted (Unsorted 1))))
    × (verify_16 (codes "range empty * * 010102\n") ≡ silent (VerifyRefused 1 (NotRead (record { at = 2; kind = Flag }))))

-- `mdb D verify 16` on an input, where the files of D are found to be this
abbrev pub verify_in : Result Map Refusal → List ℕ → Outcome
verify_in found bytes = outcome (codes "D" ∷ codes "verify" ∷ codes "16" ∷ []) found bytes

-- so of change proofs, in a store of the empty map: that nothing changes leads to the empty map. A deletion of a key that is
-- not there is refused. A store that is not opened ends the run at the first line that asks for it, and no line before it
abbrev pub VerifyChangesRuns : Type 0
VerifyChangesRuns =
    (verify_in (Ok map_of.empty) (codes "changes empty * * 010200000000\nchanges empty - ff 010200000000\n") ≡ prints (codes "ok 0\nok 0\n"))
    × (verify_in (Ok map_of.empty) (codes "changes empty * * 010200000000\nchanges empty * * 01020001010b000000\n") ≡ record { end = VerifyRefused 2 (NotAccepted (Idle 0)); text = codes "ok 0\n" })
    × (verify_in (Ok map_of.empty) (codes "changes empty * * 010100000000\n") ≡ silent (VerifyRefused 1 (NotRead (record { at = 1; kind = Kind }))))
    × (verify_in (Ok map_of.empty) (codes "changes empty 0b 0a 010200000000\n") ≡ silent (BadLine 1))
    × ((why : Refusal) → verify_in (Err why) (codes "point empty 6b 01040000\nchanges empty * * 010200000000\npoint empty 6b 01040000\n") ≡ record { end = NotOpened why; text = codes "ok 0\n" })
    × ((why : Refusal) → verify_in (Err why) (codes "point empty 6b 010402\nchanges empty * * 010200000000\n") ≡ silent (VerifyRefused 1 (NotRead (record { at = 2; kind = Flag }))))

-- the proof of all keys of a map, of one pair and one byte at most, on a store of the empty map: this is held under its names, and nothing else is
abbrev pub RangeRuns : Type 0
RangeRuns =
    let range_16 : List ℕ → Outcome = λ root. outcome (codes "D" ∷ ranging (root ∷ codes "*" ∷ codes "*" ∷ codes "1" ∷ codes "1" ∷ [])) (Ok map_of.empty) [] in
    (range_16 (codes "empty") ≡ prints (codes "range 010100000000\n"))
    × (range_16 (codes "now") ≡ prints (codes "range 010100000000\n"))
    × (range_16 (codes "~1") ≡ silent NotHeld)
