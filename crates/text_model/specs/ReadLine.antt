-- The grammar of lines: what a line asks for, or why it is not understood.
use Rattle.std.specs.Prelude.{ℕ, ◌==◌, Bool, false, if◌then◌else◌, nat_le, List, [], ◌∷◌, length, codes, Option, Some, None, Result, Ok, Err, is_ok}
use Rattle.std.specs.Option.{ok_or}
use Rattle.std.specs.Str.{bytes_eq}
use Rattle.base_model.specs.Fields.{◌>>=◌}
use Rattle.trie_model.specs.Maps.{key_limit, value_limit, limits}
use Rattle.range_model.specs.Ranges.{Range, bound_limit}
use Rattle.text_model.specs.Lines.{is_overlong}
use Rattle.text_model.specs.Words.{PlaceWord, RootWord, words_of, hex_word, number_word, place_word, root_word, plain_root_word, most_pairs, most_bytes, count_word, range_between}
use Rattle.text_model.specs.LineKind.{LineKind, TooLong, Word, Count, Hex, LongKey, LongValue, Number, Place, Root as NoRoot, Bounds}

-- which lines an input may have
pub data InputKind : Type 0 where
  -- `put KEY VALUE` and `del KEY`
  Batch : InputKind
  -- these, `commit`, the lines on views, `prove ROOT KEY`, `range ROOT START END PAIRS BYTES`, and
  -- `changes FROM TO START END PAIRS BYTES`
  Script : InputKind
  -- `point ROOT KEY HEX`, `range ROOT START END HEX` and `changes ROOT START END HEX`
  Verify : InputKind

-- what a line asks for
pub data Line : Type 0 where
  -- nothing: a comment, or a line without words
  Skip : Line
  -- a value at a key
  Put : List ℕ → List ℕ → Line
  -- no value at a key
  Del : List ℕ → Line
  -- that the pending batch is committed: the changes of the lines before it
  Commit : Line
  -- that a view of the pending batch is made, on the store or on a view
  View : PlaceWord → Line
  -- that the view of this number is committed
  Take : ℕ → Line
  -- that the view of this number is closed
  Close : ℕ → Line
  -- how the view of this number stands
  State : ℕ → Line
  -- the value at a key, of the store or of a view
  Get : PlaceWord → List ℕ → Line
  -- the root, of the store or of a view
  Root : PlaceWord → Line
  -- the proof of a key, in the map that a root names
  Prove : RootWord → List ℕ → Line
  -- whether bytes prove what every map with this root has at a key
  Point : List ℕ → List ℕ → List ℕ → Line
  -- the proof of a range, in the map that a root names, with so many pairs and so many bytes of them at most
  RangeOf : RootWord → Range → ℕ → ℕ → Line
  -- the proof of what changed in a range from the map of one root to that of another, with so many changes and so many bytes of
  -- them at most
  ChangesOf : RootWord → RootWord → Range → ℕ → ℕ → Line
  -- whether bytes prove what every map with this root has in a range
  VerifyRange : List ℕ → Range → List ℕ → Line
  -- whether bytes prove how a map of one's own is led to every map with this root in a range
  VerifyChanges : List ℕ → Range → List ℕ → Line

-- a line whose first byte is `#`
abbrev pub is_comment : List ℕ → Bool
is_comment [] = false
is_comment (b ∷ line) = b == 35

-- ---- words

-- the bytes of a word, no more of them than a limit
abbrev pub at_most : ℕ → LineKind → Option (List ℕ) → Result (List ℕ) LineKind
at_most limit long None = Err Hex
at_most limit long (Some bytes) = if nat_le (length bytes) limit then Ok bytes else Err long

-- the key that a word stands for
abbrev pub key_word : List ℕ → Result (List ℕ) LineKind
key_word word = at_most key_limit LongKey (hex_word word)

-- the value that a word stands for
abbrev pub value_word : List ℕ → Result (List ℕ) LineKind
value_word word = at_most value_limit LongValue (hex_word word)

-- the bound of a range that a word stands for: none for a star. One may have a byte more than a key
abbrev pub bound_word : List ℕ → Result (Option (List ℕ)) LineKind
bound_word word = if bytes_eq word (codes "*") then Ok None else at_most (bound_limit limits) LongKey (hex_word word) >>= (λ b. Ok (Some b))

-- what follows a first word is one word
abbrev pub one_word : (List ℕ → Result Line LineKind) → List (List ℕ) → Result Line LineKind
one_word read [] = Err Count
one_word read (word ∷ []) = read word
one_word read (word ∷ next ∷ words) = Err Count

-- what follows a first word is two words
abbrev pub two_words : (List ℕ → List ℕ → Result Line LineKind) → List (List ℕ) → Result Line LineKind
two_words read [] = Err Count
two_words read (first ∷ []) = Err Count
two_words read (first ∷ second ∷ []) = read first second
two_words read (first ∷ second ∷ word ∷ words) = Err Count

-- what follows a first word is three words
abbrev pub three_words : (List ℕ → List ℕ → List ℕ → Result Line LineKind) → List (List ℕ) → Result Line LineKind
three_words read [] = Err Count
three_words read (first ∷ words) = two_words (read first) words

-- what follows a first word is four words
abbrev pub four_words : (List ℕ → List ℕ → List ℕ → List ℕ → Result Line LineKind) → List (List ℕ) → Result Line LineKind
four_words read [] = Err Count
four_words read (first ∷ words) = three_words (read first) words

-- what follows a first word is five words
abbrev pub five_words : (List ℕ → List ℕ → List ℕ → List ℕ → List ℕ → Result Line LineKind) → List (List ℕ) → Result Line LineKind
five_words read [] = Err Count
five_words read (first ∷ words) = four_words (read first) words

-- what follows a first word is six words
abbrev pub six_words : (List ℕ → List ℕ → List ℕ → List ℕ → List ℕ → List ℕ → Result Line LineKind) → List (List ℕ) → Result Line LineKind
six_words read [] = Err Count
six_words read (first ∷ words) = five_words (read first) words

-- ---- lines that change a map

-- a key and a value
abbrev pub put_line : List ℕ → List ℕ → Result Line LineKind
put_line key value = do
  k ← key_word key
  v ← value_word value
  Ok (Put k v)

-- a key
abbrev pub del_line : List ℕ → Result Line LineKind
del_line key = do
  k ← key_word key
  Ok (Del k)

-- ---- lines on views

-- the number of a view
abbrev pub number_line : (ℕ → Line) → List ℕ → Result Line LineKind
number_line line number = do
  n ← ok_or (number_word number) Number
  Ok (line n)

-- the store or a view
abbrev pub place_line : (PlaceWord → Line) → List ℕ → Result Line LineKind
place_line line place = do
  p ← ok_or (place_word place) Place
  Ok (line p)

-- the store or a view, and a key
abbrev pub get_line : List ℕ → List ℕ → Result Line LineKind
get_line place key = do
  p ← ok_or (place_word place) Place
  k ← key_word key
  Ok (Get p k)

-- ---- lines on proofs

-- a root, and a key
abbrev pub prove_line : List ℕ → List ℕ → Result Line LineKind
prove_line root key = do
  r ← ok_or (root_word root) NoRoot
  k ← key_word key
  Ok (Prove r k)

-- a root, a key and the bytes of a proof
abbrev pub point_line : List ℕ → List ℕ → List ℕ → Result Line LineKind
point_line root key proof = do
  r ← ok_or (plain_root_word root) NoRoot
  k ← key_word key
  p ← ok_or (hex_word proof) Hex
  Ok (Point r k p)

-- a root, the two bounds of a range, and how many pairs and bytes of them
abbrev pub range_line : List ℕ → List ℕ → List ℕ → List ℕ → List ℕ → Result Line LineKind
range_line root start end pairs bytes = do
  r ← ok_or (root_word root) NoRoot
  a ← bound_word start
  b ← bound_word end
  n ← ok_or (count_word most_pairs pairs) Number
  z ← ok_or (count_word most_bytes bytes) Number
  asked ← ok_or (range_between a b) Bounds
  Ok (RangeOf r asked n z)

-- two roots, the two bounds of a range, and how many changes and bytes of them
abbrev pub changes_line : List ℕ → List ℕ → List ℕ → List ℕ → List ℕ → List ℕ → Result Line LineKind
changes_line from to start end pairs bytes = do
  f ← ok_or (root_word from) NoRoot
  t ← ok_or (root_word to) NoRoot
  a ← bound_word start
  b ← bound_word end
  n ← ok_or (count_word most_pairs pairs) Number
  z ← ok_or (count_word most_bytes bytes) Number
  asked ← ok_or (range_between a b) Bounds
  Ok (ChangesOf f t asked n z)

-- a root, the two bounds of a range, and the bytes of a proof
abbrev pub verify_range_line : (List ℕ → Range → List ℕ → Line) → List ℕ → List ℕ → List ℕ → List ℕ → Result Line LineKind
verify_range_line line root start end proof = do
  r ← ok_or (plain_root_word root) NoRoot
  a ← bound_word start
  b ← bound_word end
  p ← ok_or (hex_word proof) Hex
  asked ← ok_or (range_between a b) Bounds
  Ok (line r asked p)

-- ---- lines by their words

-- what follows `commit`: nothing
abbrev pub commit_words : List (List ℕ) → Result Line LineKind
commit_words [] = Ok Commit
commit_words (word ∷ words) = Err Count

-- a line that only a script has, by its first word and those that follow it
abbrev pub script_words : List ℕ → List (List ℕ) → Result Line LineKind
script_words command words =
    if bytes_eq command (codes "commit") then commit_words words
    else if bytes_eq command (codes "view") then one_word (place_line View) words
    else if bytes_eq command (codes "take") then one_word (number_line Take) words
    else if bytes_eq command (codes "close") then one_word (number_line Close) words
    else if bytes_eq command (codes "state") then one_word (number_line State) words
    else if bytes_eq command (codes "get") then two_words get_line words
    else if bytes_eq command (codes "root") then one_word (place_line Root) words
    else if bytes_eq command (codes "prove") then two_words prove_line words
    else if bytes_eq command (codes "range") then five_words range_line words
    else if bytes_eq command (codes "changes") then six_words changes_line words
    else Err Word

-- a line that changes a map, or one that is read in another way
abbrev pub change_words : Result Line LineKind → List ℕ → List (List ℕ) → Result Line LineKind
change_words other command words =
    if bytes_eq command (codes "put") then two_words put_line words
    else if bytes_eq command (codes "del") then one_word del_line words
    else other

-- a line that tells of a proof
abbrev pub verify_words : List ℕ → List (List ℕ) → Result Line LineKind
verify_words command words =
    if bytes_eq command (codes "point") then three_words point_line words
    else if bytes_eq command (codes "range") then four_words (verify_range_line VerifyRange) words
    else if bytes_eq command (codes "changes") then four_words (verify_range_line VerifyChanges) words
    else Err Word

-- a line of an input of this kind
abbrev pub own_words : InputKind → List ℕ → List (List ℕ) → Result Line LineKind
own_words Batch command words = change_words (Err Word) command words
own_words Script command words = change_words (script_words command words) command words
own_words Verify command words = verify_words command words

-- a line by its words
abbrev pub line_of_words : InputKind → List (List ℕ) → Result Line LineKind
line_of_words kind [] = Ok Skip
line_of_words kind (command ∷ words) = own_words kind command words

-- what a line of such an input asks for
abbrev pub read_line : InputKind → List ℕ → Result Line LineKind
read_line kind line =
    if is_overlong line then Err TooLong
    else if is_comment line then Ok Skip
    else line_of_words kind (words_of line)

-- whether a line is understood
abbrev pub is_line : InputKind → List ℕ → Bool
is_line kind line = is_ok (read_line kind line)
