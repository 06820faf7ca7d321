-- Which replies are error lines.
use Rattle.std.proofs.Common.{◌≡◌, ℕ, ◌-◌, ◌==◌, true, false, not, List, ◌++◌, length, drop, refl, ap, ◌∙◌, arith}
use Rattle.std.specs.List.{ends_with}
use Rattle.std.specs.Cmp.Lexicographic.{pointwise}
use Rattle.std.specs.Fmt.{digits}
use Rattle.std.proofs.lemmas.List.{drop_at, length-append}
use Rattle.fc_names.specs.declared.refusal.Refusal.{Refusal}
use Rattle.fc_names.specs.declared.refusal.Refusal.TheVariants.{BadCommand, BadName, NotFound, NotDirectory, IsDirectory, Exists, RootRefused, IntoItself, Locked, NotEmpty, ReadOnly, DirFull, IdsFull, DiscFull, CompactionRequired, MapFull, NoHostFile, HostTooLong, HostExists, NotNewMap}
use Rattle.fc_script.specs.Texts.{ok_line, refusal_line}
use Rattle.fc_runs.specs.Run.{is_error}

-- what ends with `ok` is none
pub ok_no_error : (text : List ℕ) → is_error (text ++ ok_line) ≡ false
ok_no_error text = ap not ends
  where
    ends : ends_with ◌==◌ (text ++ ok_line) ok_line ≡ true
    ends =
        let long : length (text ++ ok_line) - length ok_line ≡ length text = rw length-append (omega arith) in
        ap (λ (n : ℕ). pointwise ◌==◌ ok_line (drop n (text ++ ok_line))) long ∙ ap (pointwise ◌==◌ ok_line) (drop_at text ok_line (length text) refl)

-- a refusal is one
pub refusal_error : (refusal : Refusal) → is_error (refusal_line refusal) ≡ true
unfolding digits
refusal_error BadCommand = refl
refusal_error BadName = refl
refusal_error NotFound = refl
refusal_error NotDirectory = refl
refusal_error IsDirectory = refl
refusal_error Exists = refl
refusal_error RootRefused = refl
refusal_error IntoItself = refl
refusal_error Locked = refl
refusal_error NotEmpty = refl
refusal_error ReadOnly = refl
refusal_error DirFull = refl
refusal_error IdsFull = refl
refusal_error DiscFull = refl
refusal_error CompactionRequired = refl
refusal_error MapFull = refl
refusal_error NoHostFile = refl
refusal_error HostTooLong = refl
refusal_error HostExists = refl
refusal_error NotNewMap = refl
