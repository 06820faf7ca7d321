-- Lines that move no file.
use Rattle.std.proofs.Common.{◌≡◌, ◌<◌, ◌≤◌, ℕ, Bool, true, false, ◌&&◌, ◌==◌, List, [], ◌∷◌, Option, Some, None, Result, Ok, Err, length, refl, subst, arith}
use Rattle.std.specs.Int.{is_in_range}
use Rattle.std.proofs.lemmas.Bool.Decides.{nat_tests}
use Rattle.std.specs.Prelude.{if◌then◌else◌, codes, slice_index}
use Rattle.std.specs.List.{list_all, slice_split}
use Rattle.std.specs.Str.{bytes_eq}
use Rattle.fc_names.specs.declared.refusal.Refusal.{Refusal}
use Rattle.fc_names.specs.declared.refusal.Refusal.TheVariants.{BadCommand}
use Rattle.fc_names.specs.Names.{Path}
use Rattle.fc_names.specs.Paths.{path_of}
use Rattle.fc_model.specs.Command.{Command}
use Rattle.fc_script.specs.HostLines.{HostLine, get_line, host_line_in, host_line_of, is_alphanumeric, is_host_byte, is_host_name, other_line, put_line}
use Rattle.fc_script.specs.Lines.{command_of, is_printed, is_some_word, with_path, word_of}
use Rattle.std.proofs.lemmas.Bool.{and_parts as both_true}

no_path : (make : Path → HostLine) (text : List ℕ) (c : Command) → ((p : Path) → make p ≡ HostLine.Other c → ⊥) → with_path make text ≡ Ok (HostLine.Other c) → ⊥
no_path make text c never e = by (path_of text) refl
  where
    by : (o : Option Path) → path_of text ≡ o → ⊥
    by None is = let clash : (let r : Result HostLine Refusal = Err Refusal.BadName in r) ≡ Ok (HostLine.Other c) = rw is at e in cc
    by (Some p) is = let same : (let r : Result HostLine Refusal = Ok (make p) in r) ≡ Ok (HostLine.Other c) = rw is at e in never p (let inner : make p ≡ HostLine.Other c = cc in inner)

chosen : (b : Bool) (x : Result HostLine Refusal) (c : Command) → (if b then x else Err BadCommand) ≡ Ok (HostLine.Other c) → x ≡ Ok (HostLine.Other c)
chosen true x c e = e
chosen false x c e = absurd (cc)

no_put : (host path : List ℕ) (load exec : Option ℕ) (c : Command) → put_line host path load exec ≡ Ok (HostLine.Other c) → ⊥
no_put host path (Some load) (Some exec) c e =
    no_path (λ p. HostLine.Put host p load exec) path c (λ p is. absurd (cc)) (chosen (is_host_name host) (with_path (λ p. HostLine.Put host p load exec) path) c e)
no_put host path (Some load) None c e = absurd (cc)
no_put host path None exec c e = absurd (cc)

no_get : (path host : List ℕ) (c : Command) → get_line path host ≡ Ok (HostLine.Other c) → ⊥
no_get path host c e = no_path (λ p. HostLine.Get p host) path c (λ p is. absurd (cc)) (chosen (is_host_name host) (with_path (λ p. HostLine.Get p host) path) c e)

other_is : (r : Result Command Refusal) (c : Command) → other_line r ≡ Ok (HostLine.Other c) → r ≡ Ok c
other_is (Ok command) c e = let same : command ≡ c = cc in let r : (let r : Result Command Refusal = Ok command in r) ≡ Ok c = cc in r
other_is (Err refusal) c e = absurd (cc)

or_other : (b : Bool) (x : Result HostLine Refusal) (r : Result Command Refusal) (c : Command) → (x ≡ Ok (HostLine.Other c) → ⊥) → (if b then x else other_line r) ≡ Ok (HostLine.Other c) → r ≡ Ok c
or_other true x r c never e = absurd (never e)
or_other false x r c never e = other_is r c e

in_words : (words : List (List ℕ)) (r : Result Command Refusal) (c : Command) → host_line_in words r ≡ Ok (HostLine.Other c) → r ≡ Ok c
in_words [] r c e = other_is r c e
in_words (a ∷ []) r c e = other_is r c e
in_words (a ∷ b ∷ []) r c e = other_is r c e
in_words (a ∷ path ∷ host ∷ []) r c e = or_other (bytes_eq a (codes "get")) (get_line path host) r c (no_get path host c) e
in_words (a ∷ b ∷ x ∷ y ∷ []) r c e = other_is r c e
in_words (a ∷ host ∷ path ∷ load ∷ exec ∷ []) r c e =
    or_other (bytes_eq a (codes "put")) (put_line host path (word_of load) (word_of exec)) r c (no_put host path (word_of load) (word_of exec) c) e
in_words (a ∷ b ∷ x ∷ y ∷ z ∷ w ∷ rest) r c e = other_is r c e

-- A line that is a command of the host's grammar is that command.
pub other_command : (line : List ℕ) (c : Command) → host_line_of line ≡ Ok (HostLine.Other c) → command_of line ≡ Ok c
unfolding host_line_of
other_command line c e =
    let words : List (List ℕ) = slice_split (λ x. x == 32) line in
    in_words words (command_of line) c (chosen (list_all is_printed line && list_all is_some_word words) (host_line_in words (command_of line)) c e)

-- ---- the name of a host's file

-- the name that a line gives is one
abbrev Named : Result HostLine Refusal → Type 0
Named (Ok (HostLine.Get path host)) = is_host_name host ≡ true
Named (Ok (HostLine.Put host path load exec)) = is_host_name host ≡ true
Named line = Unit {0}

path_named : (make : Path → HostLine) (text : List ℕ) → ((p : Path) → Named (Ok (make p))) → Named (with_path make text)
path_named make text each = by (path_of text) refl
  where
    by : (o : Option Path) → path_of text ≡ o → Named (with_path make text)
    by None is = rw is tt
    by (Some p) is = rw is (each p)

named_if : (b : Bool) (x y : Result HostLine Refusal) → (b ≡ true → Named x) → Named y → Named (if b then x else y)
named_if true x y p q = p refl
named_if false x y p q = q

get_named : (path host : List ℕ) → Named (get_line path host)
get_named path host = named_if (is_host_name host) (with_path (λ p. HostLine.Get p host) path) (Err BadCommand) (λ is. path_named (λ p. HostLine.Get p host) path (λ p. is)) tt

put_named : (host path : List ℕ) (load exec : Option ℕ) → Named (put_line host path load exec)
put_named host path (Some load) (Some exec) =
    named_if (is_host_name host) (with_path (λ p. HostLine.Put host p load exec) path) (Err BadCommand) (λ is. path_named (λ p. HostLine.Put host p load exec) path (λ p. is)) tt
put_named host path (Some load) None = tt
put_named host path None exec = tt

other_named : (r : Result Command Refusal) → Named (other_line r)
other_named (Ok c) = tt
other_named (Err refusal) = tt

words_named : (words : List (List ℕ)) (r : Result Command Refusal) → Named (host_line_in words r)
words_named [] r = other_named r
words_named (a ∷ []) r = other_named r
words_named (a ∷ b ∷ []) r = other_named r
words_named (a ∷ path ∷ host ∷ []) r = named_if (bytes_eq a (codes "get")) (get_line path host) (other_line r) (λ is. get_named path host) (other_named r)
words_named (a ∷ b ∷ x ∷ y ∷ []) r = other_named r
words_named (a ∷ host ∷ path ∷ load ∷ exec ∷ []) r =
    named_if (bytes_eq a (codes "put")) (put_line host path (word_of load) (word_of exec)) (other_line r) (λ is. put_named host path (word_of load) (word_of exec)) (other_named r)
words_named (a ∷ b ∷ x ∷ y ∷ z ∷ w ∷ rest) r = other_named r

line_named : (line : List ℕ) → Named (host_line_of line)
unfolding host_line_of
line_named line =
    let words : List (List ℕ) = slice_split (λ x. x == 32) line in
    named_if (list_all is_printed line && list_all is_some_word words) (host_line_in words (command_of line)) (Err BadCommand) (λ is. words_named words (command_of line)) tt

name_long : (host : List ℕ) → is_host_name host ≡ true → (0 < length host) × (length host ≤ 64)
name_long host is =
    let long : is_in_range 1 64 (length host) ≡ true = (both_true (is_in_range 1 64 (length host)) (list_all is_host_byte host) (both_true (is_in_range 1 64 (length host) && list_all is_host_byte host) (is_alphanumeric (slice_index host 0)) is).0).0 in
    (grind (arith, nat_tests, long), grind (arith, nat_tests, long))

-- The name of a host's file in a line has 1 to 64 bytes.
pub get_name : (line : List ℕ) (path : Path) (host : List ℕ) → host_line_of line ≡ Ok (HostLine.Get path host) → (0 < length host) × (length host ≤ 64)
get_name line path host is = name_long host (subst Named is (line_named line))

pub put_name : (line : List ℕ) (host : List ℕ) (path : Path) (load exec : ℕ) → host_line_of line ≡ Ok (HostLine.Put host path load exec) → (0 < length host) × (length host ≤ 64)
put_name line host path load exec is = name_long host (subst Named is (line_named line))
