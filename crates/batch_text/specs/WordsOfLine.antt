-- The words at the front of a line, as they are found.
use Rattle.std.specs.Prelude.{◌≡◌, ◌≢◌, ℕ, List, [], ◌∷◌, Option, Some, None, true, false, length, All}
use Rattle.std.specs.Borrow.{Bor}
use Rattle.text_model.specs.Words.{is_blank, words_of}

abbrev pub AreBlanks : List ℕ → Type 0
AreBlanks line = All (λ b. is_blank b ≡ true) line

abbrev pub HasNoBlank : List ℕ → Type 0
HasNoBlank word = All (λ b. is_blank b ≡ false) word

-- the first word and the rest of a line, or none where it has no word
abbrev pub IsNextWord : Option (Bor (List ℕ) × Bor (List ℕ)) → List ℕ → Type 0
IsNextWord None line = words_of line ≡ []
IsNextWord (Some found) line = words_of line ≡ found.0.now ∷ words_of found.1.now

-- the word of a line that has one, or none where it has another number of them
abbrev pub IsOnlyWord : Option (Bor (List ℕ)) → List ℕ → Type 0
IsOnlyWord None line = length (words_of line) ≢ 1
IsOnlyWord (Some word) line = words_of line ≡ word.now ∷ []

-- the words of a line that has two, or none where it has another number of them
abbrev pub AreTwoWords : Option (Bor (List ℕ) × Bor (List ℕ)) → List ℕ → Type 0
AreTwoWords None line = length (words_of line) ≢ 2
AreTwoWords (Some words) line = words_of line ≡ words.0.now ∷ words.1.now ∷ []

-- so of three words, of four, and of five
abbrev pub AreThreeWords : Option (Bor (List ℕ) × Bor (List ℕ) × Bor (List ℕ)) → List ℕ → Type 0
AreThreeWords None line = length (words_of line) ≢ 3
AreThreeWords (Some (a, b, c)) line = words_of line ≡ a.now ∷ b.now ∷ c.now ∷ []

abbrev pub AreFourWords : Option (Bor (List ℕ) × Bor (List ℕ) × Bor (List ℕ) × Bor (List ℕ)) → List ℕ → Type 0
AreFourWords None line = length (words_of line) ≢ 4
AreFourWords (Some (a, b, c, d)) line = words_of line ≡ a.now ∷ b.now ∷ c.now ∷ d.now ∷ []

abbrev pub AreFiveWords : Option (Bor (List ℕ) × Bor (List ℕ) × Bor (List ℕ) × Bor (List ℕ) × Bor (List ℕ)) → List ℕ → Type 0
AreFiveWords None line = length (words_of line) ≢ 5
AreFiveWords (Some (a, b, c, d, e)) line = words_of line ≡ a.now ∷ b.now ∷ c.now ∷ d.now ∷ e.now ∷ []

abbrev pub AreSixWords : Option (Bor (List ℕ) × Bor (List ℕ) × Bor (List ℕ) × Bor (List ℕ) × Bor (List ℕ) × Bor (List ℕ)) → List ℕ → Type 0
AreSixWords None line = length (words_of line) ≢ 6
AreSixWords (Some (a, b, c, d, e, f)) line = words_of line ≡ a.now ∷ b.now ∷ c.now ∷ d.now ∷ e.now ∷ f.now ∷ []
