-- The worked lines, by computing.
use Rattle.std.proofs.Common.{refl}
use Rattle.hex.specs.Hex.{decode_pairs}
use Rattle.trie_model.specs.Hashing.{zero_id}
use Rattle.text_model.specs.WorkedLines.{GoodLines, BadLines, ScriptLines, BadScriptLines, ProofLines}

pub good_lines : GoodLines
unfolding decode_pairs
good_lines = (refl, refl, refl, refl, refl, refl, refl, refl)

pub bad_lines : BadLines
unfolding decode_pairs
bad_lines = (refl, refl, refl, refl, refl, refl, refl, refl, refl, refl, refl, refl, refl, refl, refl, refl)

pub script_lines : ScriptLines
unfolding decode_pairs
script_lines = (refl, refl, refl, refl, refl, refl, refl, refl, refl, refl, refl, refl, refl, refl, refl, refl, refl, refl, refl, refl, refl, refl, refl, refl, refl, refl)

pub bad_script_lines : BadScriptLines
unfolding decode_pairs
bad_script_lines = (refl, refl, refl, refl, refl, refl, refl, refl, refl, refl, refl, refl, refl, refl, refl, refl, refl, refl, refl, refl, refl, refl, refl, refl, refl, refl, refl, refl, refl, refl, refl, refl, refl, refl, refl, refl, refl, refl, refl, refl, refl, refl, refl, refl, refl, refl, refl, refl, refl, refl, refl, refl, refl, refl, refl, refl, refl)

pub proof_lines : ProofLines
unfolding decode_pairs zero_id
proof_lines = (refl, refl, refl, refl, refl, refl, refl, refl, refl, refl, refl, refl, refl, refl, refl, refl, refl, refl, refl, refl, refl, refl, refl, refl, refl, refl)
