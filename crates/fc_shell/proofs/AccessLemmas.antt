-- The numbers that a line gives: access, and how many bytes.
use Rattle.std.proofs.Common.{◌≡◌, ◌<◌, ◌≤◌, ◌==◌, ℕ, suc, length, Bool, true, false, ◌&&◌, List, [], ◌∷◌, Option, Some, None, Result, Ok, Err, refl, subst, arith}
use Rattle.std.specs.Prelude.{if◌then◌else◌, codes}
use Rattle.std.specs.List.{find, list_all, slice_split}
use Rattle.std.specs.Option.{option_map}
use Rattle.std.specs.Str.{bytes_eq}
use Rattle.fc_names.specs.declared.refusal.Refusal.{Refusal}
use Rattle.fc_names.specs.declared.refusal.Refusal.TheVariants.{BadCommand}
use Rattle.fc_names.specs.Names.{Path}
use Rattle.fc_names.specs.Paths.{path_of}
use Rattle.fc_model.specs.Command.{Command}
use Rattle.fc_script.specs.Lines.{access_of, access_words, alone_command, bytes_of, command_in, cons_some, command_of, is_printed, is_some_word, length_of, pair_byte, pairs_of, path_command, with_path, with_paths, with_three, word_of, words_command}
use Rattle.fc_shell.proofs.LengthLemmas.{AreUpTo, split_up_to}

-- access has bits 0 to 2 alone, and there are at most so many bytes
abbrev Fits : ℕ → Result Command Refusal → Type 0
Fits n (Ok (Command.Set path load exec access)) = access < 8
Fits n (Ok (Command.Save path load exec bytes)) = length bytes ≤ n
Fits n _ = Unit {0}

either : (n : ℕ) (b : Bool) (x y : Result Command Refusal) → Fits n x → Fits n y → Fits n (if b then x else y)
either n true x y p q = p
either n false x y p q = q

-- ---- by the number of words

one_path : (n : ℕ) (make : Path → Command) (text : List ℕ) → ((p : Path) → Fits n (Ok (make p))) → Fits n (with_path make text)
one_path n make text each = by (path_of text) refl
  where
    by : (o : Option Path) → path_of text ≡ o → Fits n (with_path make text)
    by None e = rw e tt
    by (Some p) e = rw e (each p)

two_paths : (n : ℕ) (from to : List ℕ) → Fits n (with_paths Command.Rename from to)
two_paths n from to = by (path_of from) (path_of to) refl refl
  where
    by : (a b : Option Path) → path_of from ≡ a → path_of to ≡ b → Fits n (with_paths Command.Rename from to)
    by None b e f = rw e tt
    by (Some p) None e f = rw (e, f) tt
    by (Some p) (Some q) e f = rw (e, f) tt

three_words : {X : Type 0} (n : ℕ) (make : Path → ℕ → ℕ → X → Command) (path : List ℕ) (load exec : Option ℕ) (last : Option X)
    → ((p : Path) (l e : ℕ) (x : X) → last ≡ Some x → Fits n (Ok (make p l e x))) → Fits n (with_three make path load exec last)
three_words n make path (Some l) (Some e) (Some x) each = one_path n (λ p. make p l e x) path (λ p. each p l e x refl)
three_words n make path None exec last each = tt
three_words n make path (Some l) None last each = tt
three_words n make path (Some l) (Some e) None each = tt

-- ---- the words of access bits

abbrev AreLow : List (List ℕ × ℕ) → Type 0
AreLow [] = Unit {0}
AreLow (a ∷ rest) = (a.1 < 8) × AreLow rest

found_low : (test : List ℕ × ℕ → Bool) (words : List (List ℕ × ℕ)) (access : ℕ) → AreLow words → option_map (λ a. a.1) (find test words) ≡ Some access → access < 8
found_low test [] access low e = absurd (cc)
found_low test (a ∷ rest) access low e = by (test a) refl (found_low test rest access low.1)
  where
    by : (b : Bool) → test a ≡ b → (option_map (λ a. a.1) (find test rest) ≡ Some access → access < 8) → access < 8
    by true t later =
        let is : Some a.1 ≡ Some access = rw t at e in
        let same : a.1 ≡ access = cc in
        subst (λ (n : ℕ). n < 8) same low.0
    by false t later = later (rw t at e)

access_low : (text : List ℕ) (access : ℕ) → access_of text ≡ Some access → access < 8
access_low text access e =
    found_low (λ a. bytes_eq a.0 text) access_words access (omega arith, (omega arith, (omega arith, (omega arith, (omega arith, (omega arith, (omega arith, (omega arith, tt)))))))) e

-- ---- bytes

pairs_few : (text bytes : List ℕ) → pairs_of text ≡ Some bytes → length bytes ≤ length text
pairs_few [] bytes e = let same : (let none : List ℕ = [] in none) ≡ bytes = cc in subst (λ (b : List ℕ). length b ≤ 0) same (omega arith)
pairs_few (c ∷ []) bytes e = absurd (cc)
pairs_few (c ∷ d ∷ rest) bytes e = by (pair_byte c d) (pairs_of rest) refl e (pairs_few rest)
  where
    by : (first : Option ℕ) (others : Option (List ℕ)) → pairs_of rest ≡ others → cons_some first others ≡ Some bytes
        → ((b : List ℕ) → pairs_of rest ≡ Some b → length b ≤ length rest) → length bytes ≤ suc (suc (length rest))
    by None others is e few = absurd (cc)
    by (Some b) None is e few = absurd (cc)
    by (Some b) (Some bs) is e few =
        let same : b ∷ bs ≡ bytes = cc in
        let short = few bs is in
        subst (λ (l : List ℕ). length l ≤ suc (suc (length rest))) same (omega (arith, short))

bytes_few : (text bytes : List ℕ) → bytes_of text ≡ Some bytes → length bytes ≤ length text
bytes_few text bytes e = by (bytes_eq text (codes "-")) refl
  where
    by : (b : Bool) → bytes_eq text (codes "-") ≡ b → length bytes ≤ length text
    by true is =
        let none : (let o : Option (List ℕ) = Some [] in o) ≡ Some bytes = rw is at e in
        let same : (let l : List ℕ = [] in l) ≡ bytes = cc in
        subst (λ (l : List ℕ). length l ≤ length text) same (omega arith)
    by false is = pairs_few text bytes (rw is at e)

-- ---- lines

alone : (n : ℕ) (word : List ℕ) → Fits n (alone_command word)
alone n word =
    either n (bytes_eq word (codes "free")) (Ok Command.Free) _ tt
    (either n (bytes_eq word (codes "check")) (Ok Command.Check) _ tt
    (either n (bytes_eq word (codes "compact")) (Ok Command.Compact) _ tt (either n (bytes_eq word (codes "reclaim")) (Ok Command.Reclaim) (Err BadCommand) tt tt)))

with_one : (n : ℕ) (word path : List ℕ) → Fits n (path_command word path)
with_one n word path =
    either n (bytes_eq word (codes "cat")) (with_path Command.Cat path) _ (one_path n Command.Cat path (λ p. tt))
    (either n (bytes_eq word (codes "load")) (with_path Command.Load path) _ (one_path n Command.Load path (λ p. tt))
    (either n (bytes_eq word (codes "digest")) (with_path Command.Digest path) _ (one_path n Command.Digest path (λ p. tt))
    (either n (bytes_eq word (codes "cdir")) (with_path Command.Cdir path) _ (one_path n Command.Cdir path (λ p. tt))
    (either n (bytes_eq word (codes "delete")) (with_path Command.Delete path) (Err BadCommand) (one_path n Command.Delete path (λ p. tt)) tt))))

with_words : (n : ℕ) (word path load exec last : List ℕ) → length last ≤ n → Fits n (words_command word path load exec last)
with_words n word path load exec last short =
    either n (bytes_eq word (codes "save")) (with_three Command.Save path (word_of load) (word_of exec) (bytes_of last)) _
    (three_words n Command.Save path (word_of load) (word_of exec) (bytes_of last) (λ p l e x is. let few = bytes_few last x is in omega (arith, few, short)))
    (either n (bytes_eq word (codes "create")) (with_three Command.Create path (word_of load) (word_of exec) (length_of last)) _
    (three_words n Command.Create path (word_of load) (word_of exec) (length_of last) (λ p l e x is. tt))
    (either n (bytes_eq word (codes "set")) (with_three Command.Set path (word_of load) (word_of exec) (access_of last)) (Err BadCommand)
    (three_words n Command.Set path (word_of load) (word_of exec) (access_of last) (λ p l e x is. access_low last x is)) tt))

in_words : (n : ℕ) (words : List (List ℕ)) → AreUpTo n words → Fits n (command_in words)
in_words n [] short = tt
in_words n (word ∷ []) short = alone n word
in_words n (word ∷ path ∷ []) short = with_one n word path
in_words n (word ∷ from ∷ to ∷ []) short = either n (bytes_eq word (codes "rename")) (with_paths Command.Rename from to) (Err BadCommand) (two_paths n from to) tt
in_words n (word ∷ path ∷ load ∷ exec ∷ []) short = tt
in_words n (word ∷ path ∷ load ∷ exec ∷ last ∷ []) short = with_words n word path load exec last short.1.1.1.1.0
in_words n (word ∷ path ∷ load ∷ exec ∷ last ∷ more ∷ rest) short = tt

in_line : (line : List ℕ) → Fits (length line) (command_of line)
unfolding command_of
in_line line =
    let words : List (List ℕ) = slice_split (λ c. c == 32) line in
    either (length line) (list_all is_printed line && list_all is_some_word words) (command_in words) (Err BadCommand)
    (in_words (length line) words (split_up_to (λ c. c == 32) line)) tt

-- A line's `set` gives bits 0 to 2 alone.
pub access_fits : (line : List ℕ) (path : Path) (load exec access : ℕ) → command_of line ≡ Ok (Command.Set path load exec access) → access < 8
access_fits line path load exec access is = subst (Fits (length line)) is (in_line line)

-- A line's `save` gives no more bytes than the line has.
pub bytes_fit : (line : List ℕ) (path : Path) (load exec : ℕ) (bytes : List ℕ) → command_of line ≡ Ok (Command.Save path load exec bytes) → length bytes ≤ length line
bytes_fit line path load exec bytes is = subst (Fits (length line)) is (in_line line)
