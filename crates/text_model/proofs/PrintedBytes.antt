-- Bytes in hexadecimal: what is printed of them tells them.
use Rattle.std.proofs.Common.{◌≡◌, ℕ, zero, suc, List, [], ◌∷◌, ap, ◌∙◌, arith}
use Rattle.hex.specs.Hex.{encode_lower, decode_of, IsBytes}
use Rattle.hex.proofs.HexLemmas.{decode_of-encode_lower, decode_of-same}
use Rattle.base_model.specs.Bytes.{AreBytes}

pub byte_at : (bytes : List ℕ) → AreBytes bytes → IsBytes bytes
byte_at [] h i = omega arith
byte_at (b ∷ bytes) h zero = h.0
byte_at (b ∷ bytes) h (suc i) = byte_at bytes h.1 i

-- equal digits are read back as one string of bytes
pub same_digits : (x y : List ℕ) → AreBytes x → AreBytes y → encode_lower x ≡ encode_lower y → x ≡ y
same_digits x y hx hy digits = decode_of-same (encode_lower x) x y (decode_of-encode_lower x (byte_at x hx)) (ap decode_of digits ∙ decode_of-encode_lower y (byte_at y hy))
