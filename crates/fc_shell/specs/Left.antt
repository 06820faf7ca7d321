-- What is left of a script, and the command lines in it.
use Rattle.std.specs.Prelude.{ℕ, ◌==◌, List, [], filter, length, Option, Some, None, option_map, suc}
use Rattle.std.specs.List.{slice_split}
use Rattle.fc_script.specs.Lines.{is_command_line}
use Rattle.fc_shell.specs.declared.lines.CommandLines.{CommandLines}

-- the lines of a text, if any is left; after the last line's end stands an empty one
abbrev pub lines_left : Option (List ℕ) → List (List ℕ)
lines_left None = []
lines_left (Some text) = slice_split (λ c. c == 10) text

-- how much is left
abbrev pub size_left : Option (List ℕ) → ℕ
size_left None = 0
size_left (Some text) = suc (length text)

-- the text that is left
abbrev pub text_left : CommandLines → Option (List ℕ)
text_left lines = option_map (λ text. text.now) lines.left

-- the command lines that are left
abbrev pub commands_left : CommandLines → List (List ℕ)
commands_left lines = filter is_command_line (lines_left (text_left lines))
