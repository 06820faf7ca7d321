-- Directories with other addresses can be said by bytes, as they could before.
use Rattle.std.proofs.Common.{◌≡◌, ◌<◌, ℕ, ◌^◌, Bool, true, false, cond, List, [], ◌∷◌, map, refl, sym, ap, subst, ◌∙◌, arith}
use Rattle.std.specs.Prelude.{Contains, ◌==◌}
use Rattle.std.specs.List.{AllByRecursion}
use Rattle.std.proofs.lemmas.Bool.{eqb-false}
use Rattle.std.proofs.lemmas.List.{length-map}
use Rattle.fc_names.specs.declared.name.NameForm.{NameForm}
use Rattle.fc_names.specs.declared.name.NameForm.TheVariants as forms
use Rattle.fc_dirs.specs.declared.Entry.{Entry}
use Rattle.fc_dirs.specs.declared.SmallForm.{SmallForm}
use Rattle.fc_dirs.specs.Small.{FitsSmall, IsSmall, SmallDir, next_sequence}
use Rattle.fc_dirs.specs.Directory.{Directory}
use Rattle.fc_image.specs.Walk.{object_size}
use Rattle.fc_tree.specs.Agree.{HasForm, IsDirectory}
use Rattle.fc_image.specs.declared.effects.Owned.{Owned}
use Rattle.fc_image.specs.effects.Settled.{has_same_places}
use Rattle.fc_changes.proofs.BasicLemmas.{first_in, next_in}
use Rattle.fc_oldlaws.specs.moves.After.{content_after, dir_after, entry_after, readdressed, start_after}
use Rattle.fc_laws.proofs.lemmas.agree.TwinLemmas.{twins_same}

-- ---- addresses

-- an address afterwards is that from before or the place of an object
pub moved_low : (was now : List Owned) (limit address : ℕ) → ((p : Owned) → Contains now p → p.start < limit) → address < limit → start_after was now address < limit
unfolding start_after
moved_low [] now limit address all low = low
moved_low (o ∷ was) [] limit address all low = low
moved_low (o ∷ was) (p ∷ now) limit address all low = by (o.start == address) (moved_low was now limit address (λ q at. all q (next_in p q now at)) low)
  where
    by : (b : Bool) → start_after was now address < limit → cond b p.start (start_after was now address) < limit
    by true more = all p (first_in p now)
    by false more = more

pub other_low : (was now : List Owned) (limit address : ℕ) → ((p : Owned) → Contains now p → p.start < limit) → (address == start_after was now address) ≡ false → start_after was now address < limit
unfolding start_after
other_low [] now limit address all other = absurd (eqb-false address address other refl)
other_low (o ∷ was) [] limit address all other = absurd (eqb-false address address other refl)
other_low (o ∷ was) (p ∷ now) limit address all other = by (o.start == address) (λ h. other_low was now limit address (λ q at. all q (next_in p q now at)) h) other
  where
    by : (b : Bool) → ((address == start_after was now address) ≡ false → start_after was now address < limit) → (address == cond b p.start (start_after was now address)) ≡ false
        → cond b p.start (start_after was now address) < limit
    by true more h = all p (first_in p now)
    by false more h = more h

-- ---- directories

module _ (form : NameForm) (move : ℕ → ℕ) (low : (a : ℕ) → a < 2 ^ 24 → move a < 2 ^ 24) (other : (a : ℕ) → (a == move a) ≡ false → move a < 2 ^ 24) where
  entry_fits : (small : SmallForm) (e : Entry) → FitsSmall small e → FitsSmall small (entry_after form move e)
  entry_fits small e fits = record {
    named = fits.named;
    short = fits.short;
    printed = fits.printed;
    load = fits.load;
    exec = fits.exec;
    len = fits.len;
    address = by (object_size form e == 0);
    attrs = fits.attrs;
    last = fits.last;
  }
    where
      by : (b : Bool) → cond b e.address (move e.address) < 2 ^ 24
      by true = fits.address
      by false = low e.address fits.address

  entries_fit : (small : SmallForm) (es : List Entry) → AllByRecursion (FitsSmall small) es → AllByRecursion (FitsSmall small) (map (entry_after form move) es)
  entries_fit small [] all = tt
  entries_fit small (e ∷ es) all = (entry_fits small e all.0, entries_fit small es all.1)

  small_after : (holder : ℕ) (dir : SmallDir) → IsSmall dir → IsSmall (dir_after form move holder dir)
  small_after holder dir is =
      let long = length-map dir.entries (entry_after form move) in
      let few = is.places in
      record {
        places = omega (arith, long, few);
        entries = entries_fit dir.form dir.entries is.entries;
        apart = twins_same (entry_after form move) (λ e. refl) dir.entries ∙ is.apart;
        sequence = grown (has_same_places dir (readdressed form move holder dir));
        parent = parent_low (holder == move holder) refl;
        name = is.name;
        title = is.title;
        reserved = is.reserved;
      }
    where
      grown : (b : Bool) → cond b dir.sequence (next_sequence dir.sequence) < 256
      grown true = is.sequence
      grown false = omega arith

      parent_low : (b : Bool) → (holder == move holder) ≡ b → cond b dir.parent (move holder) < 2 ^ 24
      parent_low true e = is.parent
      parent_low false e = other holder e

  pub say_after : (holder : ℕ) (content : Directory) → (dir : SmallDir) → content ≡ Directory.Small dir → IsDirectory content → IsDirectory (content_after form move holder content)
  say_after holder content dir is said = subst (λ (d : Directory). IsDirectory d → IsDirectory (content_after form move holder d)) (sym is) (small_after holder dir) said

pub form_after : (f form : NameForm) (move : ℕ → ℕ) (holder len : ℕ) (content : Directory) → HasForm f len content → HasForm f len (content_after form move holder content)
form_after forms.Seven form move holder len (Directory.Small dir) h = h
form_after forms.Ten form move holder len (Directory.Small dir) h = h
form_after forms.Long form move holder len (Directory.Small dir) h = absurd h
form_after forms.Seven form move holder len (Directory.Big dir) h = absurd h
form_after forms.Ten form move holder len (Directory.Big dir) h = absurd h
form_after forms.Long form move holder len (Directory.Big dir) h = h

-- a directory of this form is small
pub small_by_form : (f : NameForm) (len : ℕ) (content : Directory) → HasForm f len content → (f ≡ forms.Long → ⊥) → (dir : SmallDir) × (content ≡ Directory.Small dir)
small_by_form f len (Directory.Small dir) h not = (dir, refl)
small_by_form forms.Seven len (Directory.Big dir) h not = absurd h
small_by_form forms.Ten len (Directory.Big dir) h not = absurd h
small_by_form forms.Long len (Directory.Big dir) h not = absurd (not refl)
