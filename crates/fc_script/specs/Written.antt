-- How the words of a reply are written one by one.
use Rattle.std.specs.Prelude.{◌≡◌, ℕ, List, [], ◌∷◌, ◌++◌, length, take}
use Rattle.std.specs.Fmt.{decimal}
use Rattle.fc_names.specs.Paths.{spelled_name}
use Rattle.fc_script.specs.declared.texts.Word.{Word}
use Rattle.fc_script.specs.Texts.{hex_word}

-- the bytes of a word
abbrev pub word_text : Word → List ℕ
word_text (Word.Text text) = text.now
word_text (Word.Name name) = spelled_name name.now
word_text (Word.Number n) = decimal n
word_text (Word.Hex n) = hex_word n

-- the words, each with a space before it
abbrev pub spaced : List Word → List ℕ
spaced [] = []
spaced (word ∷ words) = 32 ∷ word_text word ++ spaced words

-- the bytes after begin with those before
abbrev pub Extends : List ℕ → List ℕ → Type 0
Extends old new = take (length old) new ≡ old
