-- What is left of a payload, and the piece of it that is in memory.
use Rattle.std.specs.Prelude.{◌≡◌, ℕ, ◌+◌, List, length, take, drop}

-- how many bytes are read at once
abbrev pub piece_limit : ℕ
piece_limit = 65536

-- where the first byte stands that is left, how many there are, and the first of them
pub record PieceState : Type 0 where
  pub place : ℕ
  pub left : ℕ
  pub piece : List ℕ

-- the piece is what stands at its place in the file
abbrev pub IsPieceOf : List ℕ → PieceState → Type 0
IsPieceOf file p = p.piece ≡ take (length p.piece) (drop p.place file)

-- the pieces are at a place of a payload in the file
pub record AreAt (file payload : List ℕ) (at : ℕ) (p : PieceState) : Type 0 where
  pub rest : drop at payload ≡ take p.left (drop p.place file)
  pub left : at + p.left ≡ length payload
  pub piece : IsPieceOf file p
