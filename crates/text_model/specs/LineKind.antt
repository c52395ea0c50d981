-- Why a line is not understood.

-- of several faults the first of this list down to `Count` is told, then that of the leftmost word, and `Bounds` last
pub data LineKind : Type 0 where
  -- the line has too many bytes
  TooLong : LineKind
  -- its first word is none of its input's
  Word : LineKind
  -- it has another number of words than its first word asks for
  Count : LineKind
  -- a word that stands for bytes is not hexadecimal
  Hex : LineKind
  -- a key, or a bound of a range, has too many bytes
  LongKey : LineKind
  -- a value has too many bytes
  LongValue : LineKind
  -- a word that stands for a number is none, or the number is outside its limits
  Number : LineKind
  -- a word that stands for the store or a view is neither
  Place : LineKind
  -- a word that stands for a root is none
  Root : LineKind
  -- the end of a range is below its start
  Bounds : LineKind
