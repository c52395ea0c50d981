use Rattle.std.proofs.Common.{◌≡◌, ℕ, ap, ◌∙◌, List, Bool, Result, Ok, Err, IfOk}
use Rattle.std.specs.Prelude.{Vec}
use Rattle.std.specs.declared.alloc.Global.{Global}
use Rattle.trie_model.specs.Bits.{IsWidth, bits_of_bytes}
use Rattle.trie_model.specs.Maps.{Map}
use Rattle.trie_model.specs.Table.{table}
use Rattle.bit_keys.specs.Branch.{width_of}
use Rattle.proof_model.specs.Paths.{ProofNode, path}
use Rattle.proof_check.proofs.WholePoints.{width_of-IsWidth}
use Rattle.point_proof.specs.WaysDown.{whole_way}
use Rattle.point_proof.proofs.WalkedNodes.{way-path}
use Rattle.point_proof.proofs.walking.path_of.Goals as goal

-- the whole way to the bits of a key is the path of the key
found : {E : Type 0} (told : Map → Type 0) (w : ℕ) (k : List Bool) (key : List ℕ) → IsWidth w → k ≡ bits_of_bytes key → (r : Result (Vec ProofNode Global) E)
    → IfOk r (λ p. (m : Map) → told m → p.items ≡ whole_way w (table w m) k) → IfOk r (λ p. (m : Map) → told m → p.items ≡ path w m key)
found told w k key ww e (Ok p) h = λ m t. h m t ∙ ap (whole_way w (table w m)) e ∙ way-path w m key ww
found told w k key ww e (Err x) h = tt

pub returns-clause-path : goal.returns-clause-path
returns-clause-path g c =
    found (g.N.NodeSource.words.told c.args.source.now) (width_of c.args.branch) c.in_ok-wanted.wanted c.args.key.now (width_of-IsWidth c.args.branch) c.in_ok-wanted.ensures c.path_to.result c.path_to.ensures.path
