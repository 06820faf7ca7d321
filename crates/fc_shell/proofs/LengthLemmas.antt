-- How long the lines of a script are, and the words of a line.
use Rattle.std.proofs.Common.{◌≡◌, ◌≤◌, ◌==◌, ℕ, suc, ◌+◌, Bool, true, false, List, [], ◌∷◌, length, refl, sym, ap, subst, arith}
use Rattle.std.specs.Prelude.{filter}
use Rattle.std.specs.List.{onto_first, slice_split}
use Rattle.std.proofs.lemmas.List.Splits.{length-slice_split, slice_split-cons_no, slice_split-cons_yes}
use Rattle.std.proofs.lemmas.List.Sums.{count_by-le-length, length-filter}
use Rattle.fc_script.specs.Lines.{is_command_line}
use Rattle.fc_runs.specs.Run.{commands_in}
use Rattle.fc_shell.proofs.LineLemmas.{all_commands}

-- each of these has at most so many bytes
abbrev pub AreUpTo : ℕ → List (List ℕ) → Type 0
AreUpTo n [] = Unit {0}
AreUpTo n (text ∷ texts) = (length text ≤ n) × AreUpTo n texts

up_to_more : (n m : ℕ) (texts : List (List ℕ)) → n ≤ m → AreUpTo n texts → AreUpTo m texts
up_to_more n m [] less are = tt
up_to_more n m (text ∷ texts) less are = let short = are.0 in (omega (arith, less, short), up_to_more n m texts less are.1)

onto_up_to : (n x : ℕ) (texts : List (List ℕ)) → AreUpTo n texts → AreUpTo (suc n) (onto_first x texts)
onto_up_to n x [] are = (omega arith, tt)
onto_up_to n x (text ∷ texts) are = let short = are.0 in (omega (arith, short), up_to_more n (suc n) texts (omega arith) are.1)

-- The parts of a text are no longer than it.
pub split_up_to : (p : ℕ → Bool) (text : List ℕ) → AreUpTo (length text) (slice_split p text)
split_up_to p [] = (omega arith, tt)
split_up_to p (x ∷ text) = by (p x) refl (split_up_to p text)
  where
    by : (b : Bool) → p x ≡ b → AreUpTo (length text) (slice_split p text) → AreUpTo (suc (length text)) (slice_split p (x ∷ text))
    by true is rest = subst (AreUpTo (suc (length text))) (sym (slice_split-cons_yes p x text is))
        (omega arith, up_to_more (length text) (suc (length text)) (slice_split p text) (omega arith) rest)
    by false is rest = subst (AreUpTo (suc (length text))) (sym (slice_split-cons_no p x text is)) (onto_up_to (length text) x (slice_split p text) rest)

filter_up_to : (n : ℕ) (p : List ℕ → Bool) (texts : List (List ℕ)) → AreUpTo n texts → AreUpTo n (filter p texts)
filter_up_to n p [] are = tt
filter_up_to n p (text ∷ texts) are = by (p text) refl (filter_up_to n p texts are.1)
  where
    by : (b : Bool) → p text ≡ b → AreUpTo n (filter p texts) → AreUpTo n (filter p (text ∷ texts))
    by true is rest = rw is (are.0, rest)
    by false is rest = rw is rest

-- No command line is longer than a number that the script isn't longer than.
pub commands_up_to : (n : ℕ) (script : List ℕ) → length script ≤ n → AreUpTo n (commands_in script)
commands_up_to n script short =
    let lines : List (List ℕ) = slice_split (λ c. c == 10) script in
    subst (AreUpTo n) (all_commands script) (filter_up_to n is_command_line lines (up_to_more (length script) n lines short (split_up_to (λ c. c == 10) script)))

-- A script has at most one command line more than bytes.
pub commands_few : (n : ℕ) (script : List ℕ) → length script ≤ n → length (commands_in script) ≤ n + 1
commands_few n script short =
    let lines : List (List ℕ) = slice_split (λ c. c == 10) script in
    let here = ap length (all_commands script) in
    let kept = length-filter is_command_line lines in
    let some = count_by-le-length is_command_line lines in
    let all = length-slice_split (λ c. c == 10) script in
    let ends = count_by-le-length (λ (c : ℕ). c == 10) script in
    omega (arith, short, here, kept, some, all, ends)
