-- Worked texts. Bytes are in hexadecimal: 30 is the digit 0.
use Rattle.std.specs.Prelude.{◌≡◌, [], ◌∷◌, ◌++◌, codes, replicate, Some, None}
use Rattle.text_model.specs.Texts.{commit_text, view_text, taken_text, closed_text, state_text, refused_text, value_text, proof_text, range_text, changes_text, ok_text, proof_refused_text, not_held_text, no_store_text, branch_text, damaged_text}

abbrev pub WorkedTexts : Type 0
WorkedTexts =
    (commit_text 1 (replicate 32 0x00) ≡ codes "commit 1 " ++ replicate 64 0x30 ++ codes "\n")
    × (commit_text 120 (0x6b ∷ 0xaf ∷ []) ≡ codes "commit 120 6baf\n")
    × (view_text 7 (0x6b ∷ 0xaf ∷ []) ≡ codes "view 7 6baf\n")
    × (taken_text 7 (0x6b ∷ 0xaf ∷ []) ≡ codes "taken 7 6baf\n")
    × (closed_text 1000000 ≡ codes "closed 1000000\n")
    × (state_text 10 (codes "Live") ≡ codes "state 10 Live\n")
    × (refused_text (codes "too deep") ≡ codes "refused too deep\n")
    × (value_text (Some (0x76 ∷ [])) ≡ codes "value 76\n")
    × (value_text (Some (0x00 ∷ 0xaf ∷ [])) ≡ codes "value 00af\n")
    × (value_text (Some []) ≡ codes "value -\n")
    × (value_text None ≡ codes "none\n")
    × (proof_text (0x01 ∷ 0xaf ∷ []) ≡ codes "proof 01af\n")
    × (range_text (0x01 ∷ 0xaf ∷ []) ≡ codes "range 01af\n")
    × (changes_text (0x01 ∷ 0xaf ∷ []) ≡ codes "changes 01af\n")
    × (ok_text 0 ≡ codes "ok 0\n")
    × (proof_refused_text 12 (codes "path order 1") ≡ codes "mdb: line 12 refused, path order 1")
    × (not_held_text ≡ codes "mdb: root not held")
    × (no_store_text 2 ≡ codes "mdb: file 2 is no store")
    × (branch_text 16 256 ≡ codes "mdb: the store has factor 16, asked was 256")
    × (damaged_text 0 24 ≡ codes "mdb: file 0 is damaged at 24")
