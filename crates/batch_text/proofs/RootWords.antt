-- Words that stand for a root.
use Rattle.std.proofs.Common.{◌≡◌, ℕ, true, codes, List, refl, Ok}
use Rattle.std.specs.Prelude.{replicate}
use Rattle.std.specs.Option.{ok_or}
use Rattle.std.specs.Str.{bytes_eq}
use Rattle.trie_model.specs.Hashing.{zero_id}
use Rattle.text_model.specs.LineKind.{Root as NoRoot}
use Rattle.text_model.specs.Words.{plain_root_word}

-- `empty` stands for 32 zeros
pub empty_read : (word : List ℕ) → bytes_eq word (codes "empty") ≡ true → ok_or (plain_root_word word) NoRoot ≡ Ok (replicate 32 0)
unfolding zero_id
empty_read word is = rw is refl
