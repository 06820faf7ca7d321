-- A directory that gets an entry for which it has room: it keeps its size, and so its form, and can hold the entry.
use Rattle.std.proofs.Common.{◌≡◌, ◌<◌, ◌≤◌, ◌^◌, ◌==◌, ◌++◌, ◌∷◌, [], ℕ, Bool, true, false, cond, List, insert, map, Option, None, refl, sym, ap, subst, ◌∙◌, arith}
use Rattle.std.specs.Prelude.{IsFalse}
use Rattle.std.specs.Option.{option_map_or}
use Rattle.fc_names.specs.Names.{is_writable}
use Rattle.fc_names.specs.declared.name.NameForm.{NameForm}
use Rattle.fc_names.specs.declared.name.NameForm.TheVariants as forms
use Rattle.fc_dirs.specs.declared.Entry.{Entry}
use Rattle.fc_dirs.specs.declared.SmallForm.{SmallForm}
use Rattle.fc_dirs.specs.declared.SmallForm.TheVariants.{Bytes1280, Bytes2048}
use Rattle.fc_dirs.specs.Small.{attrs_limit, last_limit}
use Rattle.fc_dirs.specs.Directory.{Directory, entries_of}
use Rattle.fc_dirs.specs.Entries.{entry_place, has_name, with_entry}
use Rattle.fc_smalldir.specs.Fields.{names_of_form}
use Rattle.fc_drafts.specs.declared.room.Room.TheVariants as rooms
use Rattle.fc_drafts.specs.Draft.{CanAddress, CanHold, CanName, names_of, size_of, with_head, with_new}
use Rattle.fc_drafts.specs.Gains.{GetsName, HasRoom}
use Rattle.fc_drafts.specs.Rewriting.{HasEntered}
use Rattle.fc_image.specs.Walk.{Listing}
use Rattle.fc_image.specs.effects.Short.{Gain, Growth, growth_with}
use Rattle.fc_image.specs.effects.Steady.{replaced_entry}
use Rattle.fc_tree.specs.Agree.{HasForm}

-- It has room for a name more.
abbrev pub HasRoomMore : Directory → List ℕ → Type 0
HasRoomMore content name = (gain : Gain) → GetsName content name gain → HasRoom content gain rooms.Fits

-- ---- what it says then

module _ (parent : ℕ) (e : Entry) (old new : Directory) (is : HasEntered parent e old new) where
  pub size_entered : Listing → HasRoomMore old e.name → size_of new ≡ size_of old
  size_entered l room =
      let gain : Gain = record { listing = l; name = e.name; names = names_of old ++ e.name ∷ [] } in
      let gets : GetsName old e.name gain = record { name_is = refl; names_are = refl } in
      is.size gain gets l.object ∙ ap (λ (x : Option Growth). option_map_or (λ (g : Growth). g.1) x (size_of old)) ((room gain gets).1 l.object)

  -- it keeps its form,
  pub form_entered : (form : NameForm) (len : ℕ) → size_of new ≡ size_of old → HasForm form len old → HasForm form len new
  form_entered form len size has = subst (HasForm form len) (sym is.is) (by form old has (ap size_of (sym is.is) ∙ size))
    where
      by : (f : NameForm) (dir : Directory) → HasForm f len dir → size_of (with_head parent (with_new e dir)) ≡ size_of dir → HasForm f len (with_head parent (with_new e dir))
      by forms.Seven (Directory.Small dir) h same = h
      by forms.Ten (Directory.Small dir) h same = h
      by forms.Long (Directory.Small dir) h same = absurd h
      by forms.Seven (Directory.Big dir) h same = absurd h
      by forms.Ten (Directory.Big dir) h same = absurd h
      by forms.Long (Directory.Big dir) h same = same ∙ h

  -- and its entries have the new one.
  pub entries_entered : IsFalse (has_name (entries_of old) e.name) → entries_of new ≡ with_entry e (entries_of old)
  entries_entered absent = is.entries ∙ ap (λ (b : Bool). cond b (map (replaced_entry e) (entries_of old)) (with_entry e (entries_of old))) absent

-- ---- what it can hold

pub can_name : (form : NameForm) (content : Directory) (len : ℕ) (name : List ℕ) → HasForm form len content → is_writable form name ≡ true → CanName content name
can_name forms.Seven (Directory.Small dir) len name has good = subst (λ (f : SmallForm). is_writable (names_of_form f) name ≡ true) (sym has) good
can_name forms.Ten (Directory.Small dir) len name has good = subst (λ (f : SmallForm). is_writable (names_of_form f) name ≡ true) (sym has) good
can_name forms.Long (Directory.Small dir) len name has good = absurd has
can_name form (Directory.Big dir) len name has good = tt

few_attrs : (f : SmallForm) (attrs : ℕ) → attrs ≤ 8 → attrs < attrs_limit f
few_attrs Bytes1280 attrs few = omega (arith, few)
few_attrs Bytes2048 attrs few = omega (arith, few)

no_last : (f : SmallForm) (last : ℕ) → last ≡ 0 → last < last_limit f
no_last Bytes1280 last none = omega (arith, none)
no_last Bytes2048 last none = omega (arith, none)

-- the entry of a new object, if its address fits
pub can_hold : (content : Directory) (e : Entry) → e.attrs ≤ 8 → e.last ≡ 0 → CanAddress content e.address → CanHold content e
can_hold (Directory.Small dir) e attrs last address = record { address = address; attrs = few_attrs dir.form e.attrs attrs; last = no_last dir.form e.last last }
can_hold (Directory.Big dir) e attrs last address = last

-- An address fits if it fits a small directory, and that is small by its form.
pub fits_form : (form : NameForm) (content : Directory) (len address : ℕ) → HasForm form len content → ((form ≡ forms.Long → ⊥) → address < 2 ^ 24) → CanAddress content address
fits_form forms.Seven (Directory.Small dir) len address has low = low (λ e. cc)
fits_form forms.Ten (Directory.Small dir) len address has low = low (λ e. cc)
fits_form forms.Long (Directory.Small dir) len address has low = absurd has
fits_form form (Directory.Big dir) len address has low = tt

-- and what fits a directory that is small fits three bytes
pub small_fits : (form : NameForm) (content : Directory) (len address : ℕ) → (form ≡ forms.Long → ⊥) → HasForm form len content → CanAddress content address → address < 2 ^ 24
small_fits forms.Seven (Directory.Small dir) len address small has can = can
small_fits forms.Ten (Directory.Small dir) len address small has can = can
small_fits forms.Long (Directory.Small dir) len address small has can = absurd has
small_fits forms.Seven (Directory.Big dir) len address small has can = absurd has
small_fits forms.Ten (Directory.Big dir) len address small has can = absurd has
small_fits forms.Long (Directory.Big dir) len address small has can = absurd (small refl)
