-- The command lines of a script.
use Rattle.std.proofs.Common.{◌≡◌, ◌≤◌, ℕ, ◌+◌, ◌-◌, ◌==◌, nat_lt, Bool, true, false, Some, None, List, [], ◌∷◌, length, take, drop, refl, sym, ap, ◌∙◌, arith, length-drop}
use Rattle.std.specs.Prelude.{filter, if◌then◌else◌}
use Rattle.std.specs.List.{position, position_or_len, slice_split}
use lib.Seq.{take_all}
use borrow.Author.Tests.{ltb-true, ltb-false}
use Rattle.std.proofs.lemmas.List.Sums.{fails_before_first}
use Rattle.std.proofs.lemmas.List.Splits.{slice_split_first, slice_split_none}
use Rattle.fc_script.specs.Lines.{is_command_line, without_empty_last}
use Rattle.fc_runs.specs.Run.{commands_in}

-- an empty line is no command line, the last one or not
pub without_last : (lines : List (List ℕ)) → filter is_command_line lines ≡ filter is_command_line (without_empty_last lines)
without_last [] = refl
without_last ([] ∷ []) = refl
without_last ([] ∷ line ∷ lines) = without_last (line ∷ lines)
without_last ((c ∷ cs) ∷ lines) = ap (λ rest. if is_command_line (c ∷ cs) then (c ∷ cs) ∷ rest else rest) (without_last lines)

-- all of a script
pub all_commands : (script : List ℕ) → filter is_command_line (slice_split (λ c. c == 10) script) ≡ commands_in script
all_commands script = without_last (slice_split (λ c. c == 10) script)

-- where a line's end is found
pub line_found : (text : List ℕ) (end : ℕ) → Some end ≡ position (λ c. c == 10) text
    → slice_split (λ c. c == 10) text ≡ take end text ∷ slice_split (λ c. c == 10) (take (length text - (end + 1)) (drop (end + 1) text))
line_found text end found = by (nat_lt (position_or_len is_end text) (length text)) refl
  where
    is_end : ℕ → Bool
    is_end c = c == 10

    whole : (n : ℕ) → take (length text - n) (drop n text) ≡ drop n text
    whole n = take_all (length text - n) (drop n text) (omega (arith, length-drop n text))

    by : (b : Bool) → nat_lt (position_or_len is_end text) (length text) ≡ b
        → slice_split is_end text ≡ take end text ∷ slice_split is_end (take (length text - (end + 1)) (drop (end + 1) text))
    by true lt =
        let at : end ≡ position_or_len is_end text = cc in
        slice_split_first is_end text 0 (ltb-true (position_or_len is_end text) (length text) lt)
        ∙ ap (λ (n : ℕ). take n text ∷ slice_split is_end (drop (n + 1) text)) (sym at)
        ∙ ap (λ (rest : List ℕ). take end text ∷ slice_split is_end rest) (sym (whole (end + 1)))
    by false ge = absurd (cc)

-- where none is found
pub no_line_found : (text : List ℕ) → None ≡ position (λ c. c == 10) text → slice_split (λ c. c == 10) text ≡ text ∷ []
no_line_found text found = by (nat_lt (position_or_len is_end text) (length text)) refl
  where
    is_end : ℕ → Bool
    is_end c = c == 10

    by : (b : Bool) → nat_lt (position_or_len is_end text) (length text) ≡ b → slice_split is_end text ≡ text ∷ []
    by true lt = absurd (cc)
    by false ge =
        let past : length text ≤ position_or_len is_end text = ltb-false (position_or_len is_end text) (length text) ge in
        slice_split_none is_end text (λ k d l. fails_before_first is_end text k d (omega (arith, past, l)))
