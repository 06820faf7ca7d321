-- Directories that get an entry, whose entry gets another name, or that get another name themselves.
use Rattle.std.proofs.Common.{◌≡◌, ◌≤◌, ◌&&◌, ℕ, Bool, true, false, cond, max, not, List, [], ◌∷◌, ◌++◌, filter, insert, length, map, refl, sym, ap, ◌∙◌, subst, Option}
use Rattle.std.specs.Prelude.{nat_le, slice_index}
use Rattle.std.specs.Int.{is_in_range}
use Rattle.std.specs.List.{list_all}
use Rattle.std.specs.Option.{option_map_or}
use Rattle.std.specs.Str.{bytes_eq}
use Rattle.std.proofs.lemmas.Bool.{and_parts, leb-true}
use Rattle.std.proofs.lemmas.Slice.Eq.{bytes_eq-Decides}
use Rattle.fc_names.specs.declared.name.NameForm.{NameForm}
use Rattle.fc_names.specs.declared.name.NameForm.TheVariants as forms
use Rattle.fc_names.specs.Names.{is_same_name, is_writable, is_writable_byte}
use Rattle.fc_smalldir.specs.Fields.{names_of_form}
use Rattle.fc_dirs.specs.declared.Entry.{Entry}
use Rattle.fc_dirs.specs.declared.SmallForm.{SmallForm}
use Rattle.fc_dirs.specs.Big.{BigDir, appended, is_spelled, size_with, with_big_entry, with_entry_at, without_big_entry}
use Rattle.fc_dirs.specs.Directory.{Directory, entries_of}
use Rattle.fc_dirs.specs.Entries.{entry_place, has_name, with_entry, without_entry}
use Rattle.fc_drafts.specs.Draft.{CanAddress, CanBeCalled, CanHold, CanName, NumbersFit, names_of, size_of, with_head, with_name, with_new, with_renamed}
use Rattle.fc_drafts.specs.Entries.{renamed_entry}
use Rattle.fc_drafts.specs.Gains.{GetsName, GetsNameFor, HasRoom}
use Rattle.fc_drafts.specs.Rewriting.{HasEntered, HasMoved, HasRenamed, IsAt}
use Rattle.fc_drafts.specs.declared.room.Room.TheVariants as rooms
use Rattle.fc_drafts.proofs.HeadLemmas.{fitted_entries}
use Rattle.fc_image.specs.effects.Short.{Gain, Growth}
use Rattle.fc_image.specs.effects.Steady.{replaced_entry}
use Rattle.fc_image.specs.Walk.{Listing}
use Rattle.fc_tree.specs.Agree.{HasForm}
use Rattle.fc_commands.proofs.EnteredLemmas.{HasRoomMore as FitsName, can_name}

-- ---- room for a name

-- It has room for a name in the place of another, if that is spelled otherwise.
abbrev pub FitsInPlace : Directory → List ℕ → List ℕ → Type 0
FitsInPlace dir was name = (gain : Gain) → (was ≡ name → ⊥) → GetsNameFor dir was name gain → HasRoom dir gain rooms.Fits

pub unlike : (a b : List ℕ) → bytes_eq a b ≡ false → a ≡ b → ⊥
unlike a b h same = let both : true ≡ false = sym ((bytes_eq-Decides a b).1 same) ∙ h in cc

-- ---- an entry comes

-- It keeps its size,
pub size_entered : (parent : ℕ) (e : Entry) (old new : Directory) (l : Listing) → HasEntered parent e old new → FitsName old e.name → size_of new ≡ size_of old
size_entered parent e old new l is fits =
    let gain : Gain = record { listing = l; name = e.name; names = names_of old ++ e.name ∷ [] } in
    let gets : GetsName old e.name gain = record { name_is = refl; names_are = refl } in
    is.size gain gets l.object ∙ ap (λ (x : Option Growth). option_map_or (λ (g : Growth). g.1) x (size_of old)) ((fits gain gets).1 l.object)

-- and its form.
pub form_entered : (form : NameForm) (len parent : ℕ) (e : Entry) (old new : Directory) → HasEntered parent e old new → size_of new ≡ size_of old → HasForm form len old → HasForm form len new
form_entered form len parent e old new is size has = subst (HasForm form len) (sym is.is) (by form old has (ap size_of (sym is.is) ∙ size))
  where
    by : (f : NameForm) (dir : Directory) → HasForm f len dir → size_of (with_head parent (with_new e dir)) ≡ size_of dir → HasForm f len (with_head parent (with_new e dir))
    by forms.Seven (Directory.Small dir) h same = h
    by forms.Ten (Directory.Small dir) h same = h
    by forms.Long (Directory.Small dir) h same = absurd h
    by forms.Seven (Directory.Big dir) h same = absurd h
    by forms.Ten (Directory.Big dir) h same = absurd h
    by forms.Long (Directory.Big dir) h same = same ∙ h

pub entries_entered : (parent : ℕ) (e : Entry) (old new : Directory) → HasEntered parent e old new → has_name (entries_of old) e.name ≡ false
    → entries_of new ≡ insert (entries_of old) (entry_place e.name (entries_of old)) e
entries_entered parent e old new is absent = is.entries ∙ ap (λ (b : Bool). cond b (map (replaced_entry e) (entries_of old)) (with_entry e (entries_of old))) absent

-- ---- an entry gets another name

pub size_renamed : (parent at : ℕ) (e was : Entry) (old new : Directory) (l : Listing) → HasRenamed parent at e old new → IsAt (entries_of old) at was → FitsInPlace old was.name e.name
    → size_of new ≡ size_of old
size_renamed parent at e was old new l is there fits = by (bytes_eq was.name e.name) refl
  where
    by : (b : Bool) → bytes_eq was.name e.name ≡ b → size_of new ≡ size_of old
    by true h = is.kept was there ((bytes_eq-Decides was.name e.name).0 h)
    by false h =
        let other = unlike was.name e.name h in
        let gain : Gain = record { listing = l; name = e.name; names = filter (λ (n : List ℕ). not (is_same_name n was.name)) (names_of old) ++ e.name ∷ [] } in
        let gets : GetsNameFor old was.name e.name gain = record { name_is = refl; names_are = refl } in
        is.size was gain there other gets l.object
        ∙ ap (λ (x : Option Growth). option_map_or (λ (g : Growth). g.1) x (size_of old)) ((fits gain other gets).1 l.object)

pub form_renamed : (form : NameForm) (len parent at : ℕ) (e : Entry) (old new : Directory) → HasRenamed parent at e old new → size_of new ≡ size_of old → HasForm form len old → HasForm form len new
form_renamed form len parent at e old new is size has = subst (HasForm form len) (sym is.is) (by form old has (ap size_of (sym is.is) ∙ size))
  where
    by : (f : NameForm) (dir : Directory) → HasForm f len dir → size_of (with_head parent (with_renamed at e dir)) ≡ size_of dir → HasForm f len (with_head parent (with_renamed at e dir))
    by forms.Seven (Directory.Small dir) h same = h
    by forms.Ten (Directory.Small dir) h same = h
    by forms.Long (Directory.Small dir) h same = absurd h
    by forms.Seven (Directory.Big dir) h same = absurd h
    by forms.Ten (Directory.Big dir) h same = absurd h
    by forms.Long (Directory.Big dir) h same = same ∙ h

pub entries_renamed : (parent at : ℕ) (e : Entry) (old new : Directory) → HasRenamed parent at e old new → entries_of new ≡ with_entry e (without_entry at (entries_of old))
entries_renamed parent at e old new is = ap entries_of is.is ∙ by old
  where
    big : (dir : BigDir) (b : Bool)
        → (cond b (with_entry_at (slice_index dir.name_places at) e (without_big_entry at dir)) (with_big_entry e (without_big_entry at dir))).entries ≡ with_entry e (without_entry at dir.entries)
    big dir true = refl
    big dir false = fitted_entries (record (appended e (without_big_entry at dir)) { size = max (size_with e (without_big_entry at dir)) dir.size })

    by : (dir : Directory) → entries_of (with_head parent (with_renamed at e dir)) ≡ with_entry e (without_entry at (entries_of dir))
    by (Directory.Small dir) = refl
    by (Directory.Big dir) = big dir (is_spelled at e dir)

-- ---- the directory gets another name

pub form_moved : (form : NameForm) (len parent : ℕ) (name : List ℕ) (old new : Directory) → HasMoved parent name old new → HasForm form len old → HasForm form len new
form_moved form len parent name old new is has = subst (HasForm form len) (sym is.is) (by form old has (ap size_of (sym is.is) ∙ is.size))
  where
    by : (f : NameForm) (dir : Directory) → HasForm f len dir → size_of (with_head parent (with_name name dir)) ≡ size_of dir → HasForm f len (with_head parent (with_name name dir))
    by forms.Seven (Directory.Small dir) h same = h
    by forms.Ten (Directory.Small dir) h same = h
    by forms.Long (Directory.Small dir) h same = absurd h
    by forms.Seven (Directory.Big dir) h same = absurd h
    by forms.Ten (Directory.Big dir) h same = absurd h
    by forms.Long (Directory.Big dir) h same = same ∙ h

-- ---- what it can hold

-- an entry under another name, at an address that it can hold
pub renamed_held : (dir : Directory) (e : Entry) (name : List ℕ) (address : ℕ) → CanHold dir e → CanAddress dir address → CanHold dir (renamed_entry e name address)
renamed_held (Directory.Small dir) e name address can short = record { address = short; attrs = can.attrs; last = can.last }
renamed_held (Directory.Big dir) e name address can short = can

-- as its own
pub held_address : (dir : Directory) (e : Entry) → CanHold dir e → CanAddress dir e.address
held_address (Directory.Small dir) e can = can.address
held_address (Directory.Big dir) e can = tt

-- and what another of its form can
pub alike_held : (form : NameForm) (a b : ℕ) (old new : Directory) (e : Entry) → HasForm form a old → HasForm form b new → CanHold old e → CanHold new e
alike_held forms.Seven a b (Directory.Small x) (Directory.Small y) e h k can = subst (λ (f : SmallForm). NumbersFit f e) (h ∙ sym k) can
alike_held forms.Ten a b (Directory.Small x) (Directory.Small y) e h k can = subst (λ (f : SmallForm). NumbersFit f e) (h ∙ sym k) can
alike_held forms.Long a b (Directory.Small x) new e h k can = absurd h
alike_held forms.Seven a b (Directory.Small x) (Directory.Big y) e h k can = absurd k
alike_held forms.Ten a b (Directory.Small x) (Directory.Big y) e h k can = absurd k
alike_held forms.Seven a b (Directory.Big x) new e h k can = absurd h
alike_held forms.Ten a b (Directory.Big x) new e h k can = absurd h
alike_held forms.Long a b (Directory.Big x) (Directory.Small y) e h k can = absurd k
alike_held forms.Long a b (Directory.Big x) (Directory.Big y) e h k can = can

short : (limit : ℕ) (name : List ℕ) (rest : Bool) → (is_in_range 1 limit (length name) && rest) ≡ true → length name ≤ limit
short limit name rest good = leb-true (length name) limit (and_parts (nat_le 1 (length name)) (nat_le (length name) limit) (and_parts (is_in_range 1 limit (length name)) rest good).0).1

-- and such a name in its head
pub can_call : (form : NameForm) (content : Directory) (len : ℕ) (name : List ℕ) → HasForm form len content → is_writable form name ≡ true → CanBeCalled content name
can_call forms.Seven (Directory.Small dir) len name has good = short 10 name (list_all (is_writable_byte forms.Seven) name) good
can_call forms.Ten (Directory.Small dir) len name has good = short 10 name (list_all (is_writable_byte forms.Ten) name) good
can_call forms.Long (Directory.Small dir) len name has good = absurd has
can_call form (Directory.Big dir) len name has good = tt
