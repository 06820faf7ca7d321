-- What a spelled byte is, and how a text is read byte by byte.
use Rattle.std.proofs.Common.{◌≡◌, ◌≤◌, ◌<◌, ◌/◌, ◌%◌, ℕ, false, List, [], ◌∷◌, ◌++◌, length, take, drop, slice_index, Option, Some, None, refl, ◌∙◌, sym, ap, arith, append_assoc, length-append, if◌then◌else◌}
use Rattle.std.specs.Int.{IsInRange, is_in_range}
use Rattle.std.proofs.lemmas.Bool.{and_right, lt-leb}
use Rattle.std.specs.List.{All, flat_map}
use Rattle.std.proofs.lemmas.List.{length-take, take-append-drop, take-append-le}
use Rattle.std.specs.Option.{option_map, option_and_then}
use Rattle.std.proofs.lemmas.List.Elements.{All-append, All-nil, All-cons}
use Rattle.hex.specs.Hex.{encode_with, upper_digits}
use Rattle.fc_names.specs.Names.{is_plain}
use Rattle.fc_names.specs.Paths.{cons_some, name_of, spelled_byte, spelled_bytes, spelled_name}

-- a byte that isn't plain is spelled by its two digits
pub spelled_byte-escaped : (c : ℕ) → is_plain c ≡ false
    → spelled_byte c ≡ 37 ∷ slice_index upper_digits (c / 16) ∷ slice_index upper_digits (c % 16) ∷ []
unfolding encode_with
spelled_byte-escaped c h = rw h refl

-- three bytes appended one by one
pub three-appended : (xs : List ℕ) (a b c : ℕ) → xs ++ a ∷ [] ++ b ∷ [] ++ c ∷ [] ≡ xs ++ a ∷ b ∷ c ∷ []
three-appended xs a b c =
    append_assoc (xs ++ a ∷ []) (b ∷ []) (c ∷ []) ∙ append_assoc xs (a ∷ []) (b ∷ c ∷ [])

-- the bytes before, and then those that are left, if there are any
abbrev pub after_some : List ℕ → Option (List ℕ) → Option (List ℕ)
after_some done left = option_map (λ bytes. done ++ bytes) left

-- a text is read up to `rest`, and what was read is `done`
pub record IsRead (text done rest : List ℕ) : Type 0 where
  pub spells : spelled_bytes text ≡ after_some done (spelled_bytes rest)
  pub printed : All (IsInRange 32 255) done

after_some-push : (done : List ℕ) (c : ℕ) (left : Option (List ℕ))
    → after_some done (cons_some (Some c) left) ≡ after_some (done ++ c ∷ []) left
after_some-push done c (Some bytes) = ap Some (sym (append_assoc done (c ∷ []) bytes))
after_some-push done c None = refl

pub IsRead-next : (text done rest after : List ℕ) (c : ℕ) → IsRead text done rest → IsInRange 32 255 c
    → spelled_bytes rest ≡ cons_some (Some c) (spelled_bytes after) → IsRead text (done ++ c ∷ []) after
IsRead-next text done rest after c read printed e = record {
  spells = read.spells ∙ ap (after_some done) e ∙ after_some-push done c (spelled_bytes after);
  printed = All-append (IsInRange 32 255) done (c ∷ []) read.printed (All-cons (IsInRange 32 255) c [] printed (All-nil (IsInRange 32 255)));
}

-- a name of what a text spells
abbrev pub named : Option (List ℕ) → Option (List ℕ)
named spelled = option_and_then (λ name. if is_in_range 1 255 (length name) then Some name else None) spelled

named-too_long : (done : List ℕ) (c : ℕ) (left : Option (List ℕ)) → length done ≡ 255
    → named (after_some done (cons_some (Some c) left)) ≡ None
named-too_long done c None full = refl
named-too_long done c (Some bytes) full =
    let size = length-append done (c ∷ bytes) in
    let long : 255 < length (done ++ c ∷ bytes) = omega (arith, size, full) in
    rw (lt-leb (length (done ++ c ∷ bytes)) 255 long) (rw (and_right _ _ refl) refl)

-- where 255 bytes were read and one more follows, a text spells no name
pub name_of-too_long : (text done rest after : List ℕ) (c : ℕ) → IsRead text done rest
    → spelled_bytes rest ≡ cons_some (Some c) (spelled_bytes after) → length done ≡ 255 → name_of text ≡ None
name_of-too_long text done rest after c read e full =
    ap named (read.spells ∙ ap (after_some done) e) ∙ named-too_long done c (spelled_bytes after) full

-- how a name is spelled in a path
abbrev pub spelled_part : List ℕ → List ℕ
spelled_part name = 46 ∷ spelled_name name

-- a name more is appended
pub part_pushed : (into new whole name : List ℕ) (names : List (List ℕ)) → into ++ flat_map spelled_part (name ∷ names) ≡ whole
    → new ≡ into ++ 46 ∷ spelled_name name → new ++ flat_map spelled_part names ≡ whole
part_pushed into new whole name names left pushed =
    ap (λ n. n ++ flat_map spelled_part names) pushed ∙ append_assoc into (46 ∷ spelled_name name) (flat_map spelled_part names) ∙ left

-- what was kept at first is kept later
pub still_kept : (old now new : List ℕ) → take (length old) now ≡ old → take (length now) new ≡ now → take (length old) new ≡ old
still_kept old now new first next =
    let size = length-take (length old) now in
    let fits : length old ≤ length now = omega (arith, size, ap length first) in
    let whole : now ++ drop (length now) new ≡ new = ap (λ n. n ++ drop (length now) new) (sym next) ∙ take-append-drop (length now) new in
    ap (take (length old)) (sym whole) ∙ take-append-le (length old) now (drop (length now) new) fits ∙ first
