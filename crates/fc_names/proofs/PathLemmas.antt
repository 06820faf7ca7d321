-- How a path is read name by name.
use Rattle.std.proofs.Common.{◌≡◌, ◌≢◌, ℕ, Bool, true, false, List, [], ◌∷◌, ◌++◌, Option, Some, None, refl, ◌∙◌, sym, ap, append_assoc, if◌then◌else◌, ne_eqb, not, nat_lt, length, take, drop, ◌-◌, ◌+◌, arith, ltb-true, ltb-false, unwrap_or}
use Rattle.std.specs.Option.{option_map, option_and_then}
use Rattle.std.specs.List.{position_or_len, slice_split}
use Rattle.std.specs.Str.{bytes_eq}
use Rattle.std.proofs.lemmas.List.{length-drop, take_all}
use Rattle.std.proofs.lemmas.List.Splits.{slice_split_first, slice_split_none}
use Rattle.std.proofs.lemmas.List.Sums.{fails_before_first}
use Rattle.std.proofs.lemmas.Slice.Eq.{bytes_eq-Decides}
use Rattle.fc_names.specs.Names.{Path}
use Rattle.fc_names.specs.Paths.{is_stop, name_of, names_of, parts_after, path_in, path_of}
use Rattle.fc_names.proofs.PackedLemmas.{place-some, place-none}
use Rattle.std.proofs.lemmas.Bool.{not-true as not_true, not-false as not_false}

-- the place of the first full stop
abbrev pub first_stop : List ℕ → Option ℕ
first_stop text = if nat_lt (position_or_len is_stop text) (length text) then Some (position_or_len is_stop text) else None

-- a text that has a full stop is cut there
pub cut_at : (text : List ℕ) (at : ℕ) → first_stop text ≡ Some at
    → slice_split is_stop text ≡ take at text ∷ slice_split is_stop (take (length text - (at + 1)) (drop (at + 1) text))
cut_at text at e =
    let place = place-some _ (position_or_len is_stop text) at e in
    let size = length-drop (at + 1) text in
    let rest : take (length text - (at + 1)) (drop (at + 1) text) ≡ drop (at + 1) text = take_all _ _ (omega (arith, size)) in
    rw (rest, ← place.1) (slice_split_first is_stop text 0 (ltb-true _ _ place.0))

-- a text with none is one part
pub cut_nowhere : (text : List ℕ) → first_stop text ≡ None → slice_split is_stop text ≡ text ∷ []
cut_nowhere text e =
    let end = ltb-false (position_or_len is_stop text) (length text) (place-none _ _ e) in
    slice_split_none is_stop text (λ k d below. fails_before_first is_stop text k d (omega (arith, end, below)))

pub root_from_test : (r : Bool) (first dollar : List ℕ) → r ≡ not (bytes_eq first dollar) → r ≡ false → dollar ≡ 36 ∷ []
    → first ≡ 36 ∷ []
root_from_test r first dollar test h e =
    (bytes_eq-Decides first dollar).0 (not_false _ (sym test ∙ h)) ∙ e

pub other_from_test : (r : Bool) (first dollar : List ℕ) → r ≡ not (bytes_eq first dollar) → r ≡ true → dollar ≡ 36 ∷ []
    → first ≢ 36 ∷ []
other_from_test r first dollar test h e same =
    let equal = (bytes_eq-Decides first dollar).1 (same ∙ sym e) in
    let unequal = not_true _ (sym test ∙ h) in
    cc (equal, unequal)

-- the names before, and then those that are left, if there are any
abbrev pub after_names : Path → Option Path → Option Path
after_names done left = option_map (λ names. done ++ names) left

-- A text is read up to `rest`. Unless memory was wanting, the path has the names that were read.
pub record AreRead (text : List ℕ) (rest : Option (List ℕ)) (full : Bool) (path : Path) : Type 0 where
  pub done : Path
  pub spells : path_of text ≡ after_names done (names_of (parts_after rest))
  pub kept : full ≡ false → path ≡ done

after_names-nil : (left : Option Path) → left ≡ after_names [] left
after_names-nil (Some names) = refl
after_names-nil None = refl

-- a path begins with `$`
pub AreRead-start : (text first : List ℕ) (rest : Option (List ℕ))
    → slice_split is_stop text ≡ first ∷ parts_after rest → first ≡ 36 ∷ [] → AreRead text rest false []
unfolding path_of
AreRead-start text first rest parts e = record {
  done = [];
  spells = ap path_in (parts ∙ ap (λ f. f ∷ parts_after rest) e) ∙ after_names-nil (names_of (parts_after rest));
  kept = λ h. refl;
}

path_in-other : (first : List ℕ) (texts : List (List ℕ)) → first ≢ 36 ∷ [] → path_in (first ∷ texts) ≡ None
path_in-other [] texts other = refl
path_in-other (c ∷ []) texts other = rw (ne_eqb c 36 (λ e. other (ap (λ b. b ∷ []) e))) refl
path_in-other (c ∷ d ∷ more) texts other = refl

pub path_of-other : (text first : List ℕ) (rest : Option (List ℕ))
    → slice_split is_stop text ≡ first ∷ parts_after rest → first ≢ 36 ∷ [] → path_of text ≡ None
unfolding path_of
path_of-other text first rest parts other = ap path_in parts ∙ path_in-other first (parts_after rest) other

-- what the next name makes of the names that are left
abbrev with_name : Option (List ℕ) → Option Path → Option Path
with_name name names = option_and_then (λ n. option_map (λ ns. n ∷ ns) names) name

after_names-push : (done : Path) (name : List ℕ) (left : Option Path)
    → after_names done (with_name (Some name) left) ≡ after_names (done ++ name ∷ []) left
after_names-push done name (Some names) = ap Some (sym (append_assoc done (name ∷ []) names))
after_names-push done name None = refl

-- the next name is read, and pushed unless memory was wanting
pub AreRead-next : (text names part name : List ℕ) (after : Option (List ℕ)) (full now_full : Bool) (path new : Path)
    → AreRead text (Some names) full path → slice_split is_stop names ≡ part ∷ parts_after after
    → name_of part ≡ Some name → (now_full ≡ false → (full ≡ false) × (new ≡ path ++ name ∷ []))
    → AreRead text after now_full new
AreRead-next text names part name after full now_full path new read parts e pushed = record {
  done = read.done ++ name ∷ [];
  spells =
      read.spells ∙ ap (λ ps. after_names read.done (names_of ps)) parts
      ∙ ap (λ n. after_names read.done (with_name n (names_of (parts_after after)))) e
      ∙ after_names-push read.done name (names_of (parts_after after));
  kept = λ h. (pushed h).1 ∙ ap (λ p. p ++ name ∷ []) (read.kept (pushed h).0);
}
