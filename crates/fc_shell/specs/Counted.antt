-- What is counted of the replies, and the line of a demo.
use Rattle.std.specs.Prelude.{◌≡◌, ℕ, Bool, nat_lt, List, [], ◌∷◌, length, codes}
use Rattle.std.specs.Fmt.{decimal}
use Rattle.std.specs.List.{count_by}
use Rattle.hex.specs.Hex.{encode_lower}
use Rattle.sha2.specs.Sha256.{sha256}
use Rattle.fc_runs.specs.Run.{is_error}
use Rattle.fc_script.specs.Texts.{line_of}
use Rattle.fc_shell.specs.declared.tally.Tally.{Tally}

-- So many replies there are, and so many of them are error lines.
pub record AreCounted (replies : List (List ℕ)) (tally : Tally) : Type 0 where
  pub replies_are : tally.replies ≡ length replies
  pub refused_are : tally.refused ≡ count_by is_error replies

-- One of them is an error line.
abbrev pub has_refused : Tally → Bool
has_refused tally = nat_lt 0 tally.refused

-- the line of a demo, by what was counted and the text of the replies
abbrev pub tally_line : ℕ → Tally → List ℕ → List ℕ
tally_line n tally text = line_of (
    codes "demo" ∷ decimal n ∷ codes "commands" ∷ decimal tally.replies ∷ codes "refused" ∷ decimal tally.refused
    ∷ codes "sha256" ∷ encode_lower (sha256 text) ∷ [])
