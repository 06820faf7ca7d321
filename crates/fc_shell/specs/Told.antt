-- The texts of what a volume tells.
use Rattle.std.specs.Prelude.{ℕ, List, ◌++◌, Option, Some, None}
use Rattle.std.specs.List.{flat_map}
use Rattle.fc_script.specs.Texts.{entry_line, ok_line}
use Rattle.fc_volume.specs.declared.lines.Line.{Line}
use Rattle.fc_volume.specs.declared.lines.Listed.{Listed}

-- the length of a file; a directory has none
abbrev pub told_length : Listed → Option ℕ
told_length Listed.Dir = None
told_length (Listed.File len) = Some len

-- the line of what is listed
abbrev pub told_line : Line → List ℕ
told_line l = entry_line l.name l.attrs l.load l.exec (told_length l.listed)

-- the reply of `cat` to these lines
abbrev pub told_lines : List Line → List ℕ
told_lines lines = flat_map told_line lines ++ ok_line
