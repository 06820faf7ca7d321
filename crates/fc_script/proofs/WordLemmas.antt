-- How a text is cut at its spaces.
use Rattle.std.proofs.Common.{◌≡◌, ◌<◌, ◌≤◌, ◌==◌, ◌&&◌, ◌∙◌, not, ℕ, zero, suc, Err, Bor, Bool, MatchOption, option_map, true, false, List, [], ◌∷◌, Option, Some, None, refl, ap, subst, nat_lt, length, arith}
use Rattle.std.specs.Prelude.{nat_le}
use Rattle.std.specs.List.{after_first, before_first, list_all, position_or_len}
use Rattle.std.proofs.lemmas.Bool.Decides.{nat_tests}
use Rattle.std.proofs.lemmas.Bool.{leb-true, and_parts as both}
use Rattle.std.proofs.lemmas.Str.Ascii.{IsAscii-nil, IsAscii-cons}
use Rattle.std.specs.Str.{IsAscii}
use Rattle.std.proofs.lemmas.List.Splits.{length-slice_split, slice_split_first, slice_split_none}
use Rattle.std.proofs.lemmas.List.Sums.{fails_before_first}
use Rattle.fc_names.specs.declared.refusal.Refusal.TheVariants.{BadCommand}
use Rattle.fc_script.specs.Lines.{command_in, command_of, is_printed, is_some_word}
use Rattle.fc_script.specs.declared.words.Words.{Words}
use Rattle.fc_script.specs.Words.{is_space, split_words, word_list, words_after}

-- a text that has a space is cut there, and one that has none is one word
pub cut_once : (text : List ℕ) (read : Option (Bor (List ℕ) × Bor (List ℕ)))
    → MatchOption read (position_or_len is_space text ≡ length text)
    (λ x. (position_or_len is_space text < length text) × (x.0.now ≡ before_first is_space text) × (x.1.now ≡ after_first is_space text))
    → MatchOption read (split_words text ≡ text ∷ []) (λ x. split_words text ≡ x.0.now ∷ split_words x.1.now)
cut_once text None h = slice_split_none is_space text (λ k d below. fails_before_first is_space text k d (omega (arith, h, below)))
cut_once text (Some x) h = rw (h.1, h.2) (slice_split_first is_space text 0 h.0)

-- printed bytes are text
pub printed_ascii : (line : List ℕ) → list_all is_printed line ≡ true → IsAscii line
printed_ascii [] e = IsAscii-nil
printed_ascii (c ∷ cs) e =
    let parts : (is_printed c ≡ true) × (list_all is_printed cs ≡ true) = both _ _ e in
    let range : (nat_le 32 c ≡ true) × (nat_le c 126 ≡ true) = both _ _ parts.0 in
    let most : c ≤ 126 = leb-true _ _ range.1 in
    IsAscii-cons c cs (omega arith) (printed_ascii cs parts.1)

-- whether a word has bytes, from a test that it has none
pub some_from_test : (n : ℕ) → not (n == 0) ≡ nat_lt 0 n
some_from_test zero = refl
some_from_test (suc n) = grind (arith, nat_tests)

-- no command has more than five words
pub too_many : (a b c d e : List ℕ) (text : List ℕ) → command_in (a ∷ b ∷ c ∷ d ∷ e ∷ split_words text) ≡ Err BadCommand
too_many a b c d e text = go (split_words text) (omega (arith, length-slice_split is_space text))
  where
    go : (words : List (List ℕ)) → 0 < length words → command_in (a ∷ b ∷ c ∷ d ∷ e ∷ words) ≡ Err BadCommand
    go [] h = absurd (omega arith)
    go (f ∷ words) h = refl

-- a text that was cut at a space goes on with the words after it
pub cut_on : (text word : List ℕ) (rest : Option (Bor (List ℕ))) (after : Bor (List ℕ))
    → split_words text ≡ word ∷ words_after (option_map (λ t. t.now) rest) → rest ≡ Some after
    → split_words text ≡ word ∷ split_words after.now
cut_on text word rest after parts e = parts ∙ ap (λ o. word ∷ words_after (option_map (λ t. t.now) o)) e

-- a line that is not printed is no command
pub command_of-unprinted : (line : List ℕ) → list_all is_printed line ≡ false → command_of line ≡ Err BadCommand
unfolding command_of
command_of-unprinted line e = rw e refl

-- one with an empty word is none
pub command_of-empty_word : (line text : List ℕ) → text ≡ line → list_all is_printed line ≡ true
    → list_all is_some_word (split_words text) ≡ false → command_of line ≡ Err BadCommand
unfolding command_of
command_of-empty_word line text same printed e = rw (printed, subst (λ t. list_all is_some_word (split_words t) ≡ false) same e) refl

command_of-words : (line : List ℕ) → list_all is_printed line ≡ true → list_all is_some_word (split_words line) ≡ true
    → command_of line ≡ command_in (split_words line)
unfolding command_of
command_of-words line printed e = rw (printed, e) refl

-- every other one is judged by its words
pub command_of-read : (line text : List ℕ) (read : Option Words) → text ≡ line → list_all is_printed line ≡ true
    → list_all is_some_word (split_words text) ≡ true
    → MatchOption read (command_in (split_words text) ≡ Err BadCommand) (λ words. split_words text ≡ word_list words)
    → MatchOption read (command_of line ≡ Err BadCommand) (λ words. command_of line ≡ command_in (word_list words))
command_of-read line text read same printed e h = go read (subst (λ t. MatchOption read (command_in (split_words t) ≡ Err BadCommand) (λ words. split_words t ≡ word_list words)) same h)
  where
    judged : command_of line ≡ command_in (split_words line)
    judged = command_of-words line printed (subst (λ t. list_all is_some_word (split_words t) ≡ true) same e)

    go : (r : Option Words) → MatchOption r (command_in (split_words line) ≡ Err BadCommand) (λ words. split_words line ≡ word_list words)
        → MatchOption r (command_of line ≡ Err BadCommand) (λ words. command_of line ≡ command_in (word_list words))
    go None k = judged ∙ k
    go (Some words) k = judged ∙ ap command_in k
