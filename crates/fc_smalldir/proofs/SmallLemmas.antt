-- What each change keeps of a directory.
use Rattle.std.proofs.Common.{◌≡◌, ◌<◌, ◌≤◌, ◌^◌, ℕ, suc, ◌&&◌, ◌||◌, Bool, true, false, nat_le, List, [], ◌∷◌, length, get_or, take, drop, set, insert, remove, option_map, slice_get, Some, refl, sym, ap, ◌∙◌, subst, arith}
use Rattle.std.specs.List.{All, list_all}
use Rattle.std.specs.Int.{is_in_range}
use Rattle.std.proofs.lemmas.List.{length-set}
use Rattle.std.proofs.lemmas.List.Edits.{length-insert, length-remove}
use Rattle.std.proofs.lemmas.List.Elements.{All-from_recursion, All-append, All-cons, All-take, All-drop, All-set}
use Rattle.std.proofs.lemmas.List.Sums.{prefix_len-le-length}
use Rattle.std.proofs.lemmas.Option.{slice_get-get_or}
use Rattle.std.proofs.lemmas.Bool.Decides.{nat_tests}
use Rattle.fc_names.specs.Names.{is_writable, is_writable_byte, name_limit, is_plain}
use Rattle.fc_dirs.specs.declared.Entry.{Entry}
use Rattle.fc_dirs.specs.declared.SmallForm.{SmallForm}
use Rattle.fc_dirs.specs.declared.SmallForm.TheVariants.{Bytes1280, Bytes2048}
use Rattle.fc_dirs.specs.Entries.{has_name, entry_place, with_entry, without_entry}
use Rattle.fc_dirs.specs.Small.{SmallDir, FitsSmall, IsSmall, tail_of, byte_limit, attrs_limit, last_limit}
use Rattle.fc_smalldir.specs.Fields.{names_of_form}
use Rattle.fc_smalldir.proofs.NameLemmas.{ArePrinted}
use Rattle.fc_dirs.proofs.SearchLemmas.{blank}
use Rattle.fc_smalldir.proofs.PlaceLemmas.{by_recursion}
use Rattle.fc_dirs.proofs.TwinLemmas.{Apart, apart_from, none_from, apart_insert, apart_remove, apart_set}

-- ---- names that may be written

left_true : (a b : Bool) → (a && b) ≡ true → a ≡ true
left_true true b is = refl
left_true false b is = is

pub right_true : (a b : Bool) → (a && b) ≡ true → b ≡ true
right_true true b is = is
right_true false b is = absurd (cc)

plain_range : (c : ℕ) → is_plain c ≡ true → (32 ≤ c) × (c < 128)
plain_range c plain =
    let range = left_true (is_in_range 33 126 c) _ plain in
    let low = left_true (nat_le 33 c) (nat_le c 126) range in
    let high = right_true (nat_le 33 c) (nat_le c 126) range in
    (grind (arith, nat_tests, low), grind (arith, nat_tests, high))

high_range : (c : ℕ) → is_in_range 128 255 c ≡ true → (32 ≤ c) × (c < 256)
high_range c range =
    let low = left_true (nat_le 128 c) (nat_le c 255) range in
    let high = right_true (nat_le 128 c) (nat_le c 255) range in
    (grind (arith, nat_tests, low), grind (arith, nat_tests, high))

byte_range : (form : SmallForm) (c : ℕ) → is_writable_byte (names_of_form form) c ≡ true → (32 ≤ c) × (c < byte_limit form)
byte_range Bytes1280 c right = plain_range c right
byte_range Bytes2048 c right = go (is_plain c) refl right where
  go : (b : Bool) → is_plain c ≡ b → (is_plain c || is_in_range 128 255 c) ≡ true → (32 ≤ c) × (c < 256)
  go true is right = let r = plain_range c is in (r.0, omega (arith, r.1))
  go false is right = high_range c (rw is at right)

printed_name : (form : SmallForm) (name : List ℕ) → list_all (is_writable_byte (names_of_form form)) name ≡ true → ArePrinted (byte_limit form) name
printed_name form [] right = tt
printed_name form (c ∷ name) right =
    (byte_range form c (left_true (is_writable_byte (names_of_form form) c) _ right), printed_name form name (right_true (is_writable_byte (names_of_form form) c) _ right))

ten_bytes : (form : SmallForm) → name_limit (names_of_form form) ≡ 10
ten_bytes Bytes2048 = refl
ten_bytes Bytes1280 = refl

-- An entry that may be put into a directory fits its place.
pub fits_put : (form : SmallForm) (e : Entry) → is_writable (names_of_form form) e.name ≡ true → e.load < 2 ^ 32 → e.exec < 2 ^ 32 → e.len < 2 ^ 32
    → e.address < 2 ^ 24 → e.attrs < attrs_limit form → e.last < last_limit form → FitsSmall form e
fits_put form e writable load exec len address attrs last =
    let limit = name_limit (names_of_form form) in
    let range = left_true (is_in_range 1 limit (length e.name)) _ writable in
    let low = left_true (nat_le 1 (length e.name)) (nat_le (length e.name) limit) range in
    let high = right_true (nat_le 1 (length e.name)) (nat_le (length e.name) limit) range in
    let few : length e.name ≤ limit = grind (arith, nat_tests, high) in
    let some : 1 ≤ length e.name = grind (arith, nat_tests, low) in
    record {
      named = some;
      short = omega (arith, few, ten_bytes form);
      printed = printed_name form e.name (right_true (is_in_range 1 limit (length e.name)) _ writable);
      load = load;
      exec = exec;
      len = len;
      address = address;
      attrs = attrs;
      last = last;
    }

-- ---- changes of the entries

-- the directory with other entries
abbrev pub with_entries : List Entry → SmallDir → SmallDir
with_entries es dir = record dir { entries = es }

pub small_with : (dir : SmallDir) (es : List Entry) → IsSmall dir → length es ≤ (tail_of dir.form).places → All (FitsSmall dir.form) es → Apart es → IsSmall (with_entries es dir)
small_with dir es small few fit apart = record {
  places = few;
  entries = by_recursion (FitsSmall dir.form) es fit;
  apart = none_from es apart;
  sequence = small.sequence;
  parent = small.parent;
  name = small.name;
  title = small.title;
  reserved = small.reserved;
}

place_within : (name : List ℕ) (es : List Entry) → entry_place name es ≤ length es
place_within name es = prefix_len-le-length _ es

pub small_inserted : (dir : SmallDir) (e : Entry) → IsSmall dir → length dir.entries < (tail_of dir.form).places → FitsSmall dir.form e → has_name dir.entries e.name ≡ false
    → IsSmall (with_entries (with_entry e dir.entries) dir)
small_inserted dir e small room fits absent =
    let es = dir.entries in
    let at = entry_place e.name es in
    let within = place_within e.name es in
    let fit = All-from_recursion (FitsSmall dir.form) es small.entries in
    small_with dir (insert es at e) small (omega (arith, length-insert es at e within))
    (All-append (FitsSmall dir.form) (take at es) (e ∷ drop at es) (All-take (FitsSmall dir.form) at es fit) (All-cons (FitsSmall dir.form) e (drop at es) fits (All-drop (FitsSmall dir.form) at es fit)))
    (apart_insert es at e (apart_from es small.apart) within absent)

pub small_removed : (dir : SmallDir) (at : ℕ) → IsSmall dir → at < length dir.entries → IsSmall (with_entries (without_entry at dir.entries) dir)
small_removed dir at small within =
    let es = dir.entries in
    let fit = All-from_recursion (FitsSmall dir.form) es small.entries in
    small_with dir (remove es at) small (omega (arith, length-remove es at within, small.places))
    (All-append (FitsSmall dir.form) (take at es) (drop (suc at) es) (All-take (FitsSmall dir.form) at es fit) (All-drop (FitsSmall dir.form) (suc at) es fit))
    (apart_remove es at (apart_from es small.apart) within)

pub small_renamed : (dir : SmallDir) (at : ℕ) (e : Entry) → IsSmall dir → at < length dir.entries → FitsSmall dir.form e → has_name (without_entry at dir.entries) e.name ≡ false
    → IsSmall (with_entries (with_entry e (without_entry at dir.entries)) dir)
small_renamed dir at e small within fits absent =
    small_inserted (with_entries (without_entry at dir.entries) dir) e (small_removed dir at small within)
    (omega (arith, length-remove dir.entries at within, small.places)) fits absent

-- the entry of that number, of which the name is the same
pub named_at : (es : List Entry) (at : ℕ) (name : List ℕ) → option_map (λ (d : Entry). d.name) (slice_get es at) ≡ Some name → at < length es → (get_or es at blank).name ≡ name
named_at es at name same within =
    let found : Some (get_or es at blank).name ≡ Some name = sym (ap (option_map (λ (d : Entry). d.name)) (slice_get-get_or es at blank within)) ∙ same in
    cc

pub small_changed : (dir : SmallDir) (at : ℕ) (e : Entry) → IsSmall dir → at < length dir.entries → option_map (λ (d : Entry). d.name) (slice_get dir.entries at) ≡ Some e.name
    → e.load < 2 ^ 32 → e.exec < 2 ^ 32 → e.len < 2 ^ 32 → e.address < 2 ^ 24 → e.attrs < attrs_limit dir.form → e.last < last_limit dir.form
    → IsSmall (with_entries (set dir.entries at e) dir)
small_changed dir at e small within same load exec len address attrs last =
    let es = dir.entries in
    let form = dir.form in
    let fit = All-from_recursion (FitsSmall form) es small.entries in
    let name : (get_or es at blank).name ≡ e.name = named_at es at e.name same within in
    let old : FitsSmall form (get_or es at blank) = fit at blank within in
    let fits : FitsSmall form e = record {
      named = rw (← name) old.named;
      short = rw (← name) old.short;
      printed = subst (ArePrinted (byte_limit form)) name old.printed;
      load = load;
      exec = exec;
      len = len;
      address = address;
      attrs = attrs;
      last = last;
    } in
    small_with dir (set es at e) small (rw (length-set es at e) small.places) (All-set (FitsSmall form) es at e fits fit) (apart_set es at e (apart_from es small.apart) (sym name) within)
