-- How a line is written word by word.
use Rattle.std.proofs.Common.{◌≡◌, ◌<◌, ◌+◌, ℕ, List, [], ◌∷◌, ◌++◌, length, take, map, get_or, refl, sym, ◌∙◌, ap, append_assoc}
use Rattle.std.proofs.lemmas.List.{take_more, append-nil}
use Rattle.fc_script.specs.declared.texts.Word.{Word}
use Rattle.fc_script.specs.Texts.{line_of}
use Rattle.fc_script.specs.Written.{Extends, spaced, word_text}

spaced-push : (words : List Word) (word : Word) → spaced (words ++ word ∷ []) ≡ spaced words ++ 32 ∷ word_text word
spaced-push [] word = append-nil (32 ∷ word_text word)
spaced-push (w ∷ words) word = ap (λ rest. 32 ∷ word_text w ++ rest) (spaced-push words word) ∙ sym (append_assoc (32 ∷ word_text w) (spaced words) (32 ∷ word_text word))

-- one word more is written
pub spaced_more : (start now : List ℕ) (words : List Word) (i : ℕ) (word : Word) → i < length words → word ≡ get_or words i word
    → now ≡ start ++ spaced (take i words) → now ++ 32 ∷ word_text word ≡ start ++ spaced (take (i + 1) words)
spaced_more start now words i word below same so_far =
    let more : take (i + 1) words ≡ take i words ++ word ∷ [] = take_more words i word below ∙ ap (λ w. take i words ++ w ∷ []) (sym same) in
    rw (more, spaced-push, so_far) (append_assoc start (spaced (take i words)) (32 ∷ word_text word))

-- what was appended comes after
pub Extends-append : (old more : List ℕ) → Extends old (old ++ more)
Extends-append [] more = refl
Extends-append (c ∷ old) more = ap (λ cs. c ∷ cs) (Extends-append old more)

pub Extends-then : (a b c : List ℕ) → Extends a b → Extends b c → Extends a c
Extends-then [] b c first second = refl
Extends-then (x ∷ a) [] c first second = cc first
Extends-then (x ∷ a) (y ∷ b) [] first second = cc second
Extends-then (x ∷ a) (y ∷ b) (z ∷ c) first second =
    let first_tail : take (length a) b ≡ a = cc first in
    let second_tail : take (length b) c ≡ b = cc second in
    let head : z ≡ x = cc (first, second) in
    let tail = Extends-then a b c first_tail second_tail in
    cc (head, tail)

-- the words of a line, and its end
pub line_of-spaced : (first : Word) (rest : List Word) → line_of (word_text first ∷ map word_text rest) ≡ word_text first ++ (spaced rest ++ 10 ∷ [])
line_of-spaced first [] = refl
line_of-spaced first (next ∷ rest) = ap (λ line. word_text first ++ 32 ∷ line) (line_of-spaced next rest ∙ sym (append_assoc (word_text next) (spaced rest) (10 ∷ [])))

-- a line is written in three steps
pub line_written : (start one two three : List ℕ) (first : Word) (rest : List Word) → one ≡ start ++ word_text first
    → two ≡ one ++ spaced rest → three ≡ two ++ 10 ∷ [] → three ≡ start ++ line_of (word_text first ∷ map word_text rest)
line_written start one two three first rest a b c =
    c ∙ ap (λ xs. xs ++ 10 ∷ []) (b ∙ ap (λ xs. xs ++ spaced rest) a) ∙ append_assoc (start ++ word_text first) (spaced rest) (10 ∷ [])
    ∙ append_assoc start (word_text first) (spaced rest ++ 10 ∷ []) ∙ ap (λ line. start ++ line) (sym (line_of-spaced first rest))
