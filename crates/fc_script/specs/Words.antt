-- The words of a line, as they are read one by one, and the numbers in them.
use Rattle.std.specs.Prelude.{ℕ, ◌==◌, ◌^◌, nat_lt, Bool, List, [], ◌∷◌, Option, Some, None, if◌then◌else◌}
use Rattle.std.specs.List.{slice_split}
use Rattle.std.specs.Str.Parse.{digits_value}
use Rattle.fc_script.specs.declared.words.Words.{Words}

-- a space
abbrev pub is_space : ℕ → Bool
is_space c = c == 32

-- the words of a text
abbrev pub split_words : List ℕ → List (List ℕ)
split_words text = slice_split is_space text

-- the words of what stands after a space, if there is one
abbrev pub words_after : Option (List ℕ) → List (List ℕ)
words_after (Some text) = split_words text
words_after None = []

-- the words as a list
abbrev pub word_list : Words → List (List ℕ)
word_list (Words.One word) = word.now ∷ []
word_list (Words.Two word path) = word.now ∷ path.now ∷ []
word_list (Words.Three word from to) = word.now ∷ from.now ∷ to.now ∷ []
word_list (Words.Five word path load exec last) = word.now ∷ path.now ∷ load.now ∷ exec.now ∷ last.now ∷ []

-- the number that digits of a base say, if it fits 32 bits
abbrev pub number_of : ℕ → List ℕ → Option ℕ
number_of base digits = if nat_lt (digits_value base digits) (2 ^ 32) then Some (digits_value base digits) else None
