-- An entry that is changed before its directory is rewritten.
use Rattle.std.proofs.Common.{◌≡◌, ◌<◌, inl, inr, ℕ, zero, suc, ◌+◌, Bool, true, false, cond, not, ◌||◌, ◌&&◌, List, [], ◌∷◌, ◌++◌, length, map, filter, get_or, set, refl, sym, ap, ap₂, ◌∙◌, subst, arith, Some, None, min, max, nat_le}
use Rattle.std.specs.List.{flat_map, list_any}
use Rattle.std.specs.Str.{bytes_eq}
use Rattle.std.proofs.lemmas.Bool.{cases_order}
use Rattle.std.proofs.lemmas.List.{length-set}
use Rattle.std.proofs.lemmas.List.Sums.{sum_by-cons}
use Rattle.std.proofs.lemmas.Option.{slice_get_within, get_or_from_slice_get}
use Rattle.fc_names.specs.Names.{Path, is_same_name, is_same_path}
use Rattle.fc_model.specs.Tree.{last_name}
use Rattle.fc_model.specs.Command.{Command}
use Rattle.fc_dirs.specs.declared.Entry.{Entry}
use Rattle.fc_dirs.specs.Entries.{first_twin, padded_name}
use Rattle.fc_dirs.specs.Big.{BigDir, head_space, name_space, size_for, with_big_changed}
use Rattle.fc_dirs.specs.Directory.{Directory, entries_of}
use Rattle.fc_dirs.proofs.SearchLemmas.{blank}
use Rattle.fc_dirs.proofs.TwinLemmas.{Apart, apart_from, same_name_sym}
use Rattle.fc_bigdir.specs.Fields.{packed_size}
use Rattle.fc_image.specs.Walk.{Object}
use Rattle.fc_image.proofs.CommandLemmas.{same_by_folds}
use Rattle.fc_image.proofs.PathsLemmas.{itself, same_last}
use Rattle.fc_image.proofs.TreeLemmas.{folds_alike}
use Rattle.fc_image.specs.effects.Short.{Gain, growth_with, is_full_with}
use Rattle.fc_image.specs.effects.Steady.{BigNameAfter, HeapAfter, IsRewritten, RenamedHead, holds_name, names_added, packed_len, regrown_entry}
use Rattle.fc_drafts.specs.Draft.{CanHold, IsSayable, names_of, size_of, with_changed}
use Rattle.fc_drafts.specs.Rewriting.{HasAmended, IsAt}

-- ---- what is read of names alone

pub names_set : (es : List Entry) (at : ℕ) (e : Entry) → at < length es → (get_or es at blank).name ≡ e.name → map (λ (d : Entry). d.name) (set es at e) ≡ map (λ (d : Entry). d.name) es
names_set [] at e within same = absurd (omega (arith, within))
names_set (d ∷ es) zero e within same = ap (λ (n : List ℕ). n ∷ map (λ (x : Entry). x.name) es) (sym same)
names_set (d ∷ es) (suc at) e within same = ap (λ (l : List (List ℕ)). d.name ∷ l) (names_set es at e (omega (arith, within)) same)

spelled_set : (es : List Entry) (at : ℕ) (e : Entry) (name : List ℕ) → at < length es → (get_or es at blank).name ≡ e.name
    → list_any (λ (d : Entry). bytes_eq d.name name) (set es at e) ≡ list_any (λ (d : Entry). bytes_eq d.name name) es
spelled_set [] at e name within same = absurd (omega (arith, within))
spelled_set (d ∷ es) zero e name within same = ap (λ (n : List ℕ). bytes_eq n name || list_any (λ (x : Entry). bytes_eq x.name name) es) (sym same)
spelled_set (d ∷ es) (suc at) e name within same = ap (λ (b : Bool). bytes_eq d.name name || b) (spelled_set es at e name (omega (arith, within)) same)

space_set : (es : List Entry) (at : ℕ) (e : Entry) → at < length es → (get_or es at blank).name ≡ e.name → packed_size (set es at e) ≡ packed_size es
space_set [] at e within same = absurd (omega (arith, within))
space_set (d ∷ es) zero e within same =
    sum_by-cons (λ (x : Entry). name_space x.name) e es ∙ ap (λ (n : List ℕ). name_space n + packed_size es) (sym same) ∙ sym (sum_by-cons (λ (x : Entry). name_space x.name) d es)
space_set (d ∷ es) (suc at) e within same =
    sum_by-cons (λ (x : Entry). name_space x.name) d (set es at e) ∙ ap (λ (n : ℕ). name_space d.name + n) (space_set es at e (omega (arith, within)) same)
    ∙ sym (sum_by-cons (λ (x : Entry). name_space x.name) d es)

-- ---- rewritings of what was amended

module _ (old : BigDir) (at : ℕ) (e : Entry) (within : at < length old.entries) (same : (get_or old.entries at blank).name ≡ e.name) where
  abbrev new : BigDir
  new = with_big_changed at e old

  holds_same : (heap : ℕ) (name : List ℕ) → holds_name new heap name ≡ holds_name old heap name
  holds_same heap name = ap (λ (n : ℕ). (let dir : BigDir = old in holds_with dir n heap name)) (length-set old.entries at e)
    where
      holds_with : BigDir → ℕ → ℕ → List ℕ → Bool
      holds_with dir n heap name = nat_le (size_for (head_space dir.second_form (length name)) n heap) dir.size

  packed_same : packed_len new ≡ packed_len old
  packed_same = space_set old.entries at e within same

  head_same : (b : Bool) (last name : List ℕ) → RenamedHead b new last name → RenamedHead b old last name
  head_same false last name is = is
  head_same true last name (inl (is, holds)) = inl (is, sym (holds_same (min (length old.heap) (packed_len old)) last) ∙ ap (λ (n : ℕ). holds_name new (min (length old.heap) n) last) (sym packed_same) ∙ holds)
  head_same true last name (inr (is, fails)) = inr (is, sym (holds_same (max (length old.heap) (packed_len old)) last) ∙ ap (λ (n : ℕ). holds_name new (max (length old.heap) n) last) (sym packed_same) ∙ fails)

  name_same : (c : Command) (path : Path) (name : List ℕ) → BigNameAfter c path new name → BigNameAfter c path old name
  name_same (Command.Cat p) path name is = is
  name_same (Command.Load p) path name is = is
  name_same (Command.Digest p) path name is = is
  name_same (Command.Save p load exec bytes) path name is = is
  name_same (Command.Create p load exec len) path name is = is
  name_same (Command.Cdir p) path name is = is
  name_same (Command.Delete p) path name is = is
  name_same (Command.Rename from to) path name is = head_same (is_same_path from path) (last_name to) name is
  name_same (Command.Set p load exec access) path name is = is
  name_same Command.Free path name is = is
  name_same Command.Check path name is = is
  name_same Command.Compact path name is = is
  name_same Command.Reclaim path name is = is
  name_same (Command.Mark p attrs) path name is = is

  added_same : (later : BigDir) → names_added new later ≡ names_added old later
  added_same later = λ i. filter (λ (name : List ℕ). not (spelled_set old.entries at e name within same i)) (map (λ (d : Entry). d.name) later.entries)

  heap_same : (later : BigDir) → HeapAfter new later → HeapAfter old later
  heap_same later (inl packed) = inl packed
  heap_same later (inr longer) = inr (longer ∙ ap (λ (ns : List (List ℕ)). old.heap ++ flat_map (λ (n : List ℕ). padded_name (name_space n) n) ns) (added_same later))

carries : (old : Directory) (at : ℕ) (e : Entry) → at < length (entries_of old) → (get_or (entries_of old) at blank).name ≡ e.name
    → (c : Command) (path : Path) (parent : ℕ) (later : Directory) → IsRewritten c path parent (with_changed at e old) later → IsRewritten c path parent old later
carries (Directory.Small old) at e within same c path parent (Directory.Small later) is = is
carries (Directory.Small old) at e within same c path parent (Directory.Big later) is = absurd is
carries (Directory.Big old) at e within same c path parent (Directory.Small later) is = absurd is
carries (Directory.Big old) at e within same c path parent (Directory.Big later) is =
    (name_same old at e within same c path later.name is.0, heap_same old at e within same later is.1, is.2)

-- ---- entries of grown directories

map_none : (f : Entry → Entry) (es : List Entry) → ((k : ℕ) → k < length es → f (get_or es k blank) ≡ get_or es k blank) → es ≡ map f es
map_none f [] kept = refl
map_none f (d ∷ es) kept =
    let here : f d ≡ d = kept 0 (omega arith) in
    rw here (ap (λ (l : List Entry). d ∷ l) (map_none f es (λ k h. kept (suc k) (omega (arith, h)))))

map_one : (f : Entry → Entry) (es : List Entry) (at : ℕ) (new : Entry) → at < length es → f (get_or es at blank) ≡ new
    → ((k : ℕ) → k < length es → (k ≡ at → ⊥) → f (get_or es k blank) ≡ get_or es k blank) → set es at new ≡ map f es
map_one f [] at new within is kept = absurd (omega (arith, within))
map_one f (d ∷ es) zero new within is kept =
    let here : f d ≡ new = is in
    rw here (ap (λ (l : List Entry). new ∷ l) (map_none f es (λ k h. kept (suc k) (omega (arith, h)) (λ (q : suc k ≡ zero). omega (arith, q)))))
map_one f (d ∷ es) (suc at) new within is kept =
    let here : f d ≡ d = kept 0 (omega arith) (λ (q : zero ≡ suc at). omega (arith, q)) in
    rw here (ap (λ (l : List Entry). d ∷ l) (map_one f es at new (omega (arith, within)) is (λ k h other. kept (suc k) (omega (arith, h)) (λ (q : suc k ≡ suc at). other (omega (arith, q))))))

other_name : (es : List Entry) (at k : ℕ) → Apart es → at < length es → k < length es → (k ≡ at → ⊥) → is_same_name (get_or es k blank).name (get_or es at blank).name ≡ false
other_name es at k apart inside within other = elim (cases_order k at) [
  | inl here ↦ absurd (other here)
  | inr differ ↦ elim differ [
    | inl before ↦ same_name_sym (get_or es k blank).name (get_or es at blank).name ∙ apart k at before inside
    | inr behind ↦ apart at k behind within
  ]
]

regrown_all : (es : List Entry) (at : ℕ) (was e : Entry) (dir : Path) (o : Object) → first_twin es ≡ None → IsAt es at was → is_same_path (dir ++ was.name ∷ []) o.path ≡ true
    → e ≡ record was { address = o.entry.address; len = o.entry.len } → set es at e ≡ map (regrown_entry dir (Some o)) es
regrown_all es at was e dir o twins is same_path new =
    let within = slice_get_within es at was is in
    let at_it : get_or es at blank ≡ was = get_or_from_slice_get es at was blank is in
    map_one (regrown_entry dir (Some o)) es at e within (ap (regrown_entry dir (Some o)) at_it ∙ changed)
    (λ k h other. kept (get_or es k blank) (subst (λ (d : Entry). is_same_name (get_or es k blank).name d.name ≡ false) at_it (other_name es at k (apart_from es twins) within h other)))
  where
    grown : Entry → Entry
    grown d = record d { address = o.entry.address; len = o.entry.len }

    changed : regrown_entry dir (Some o) was ≡ e
    changed = ap (λ (b : Bool). cond b (grown was) was) same_path ∙ sym new

    kept : (d : Entry) → is_same_name d.name was.name ≡ false → regrown_entry dir (Some o) d ≡ d
    kept d differs = by (is_same_path (dir ++ d.name ∷ []) o.path) refl
      where
        by : (b : Bool) → is_same_path (dir ++ d.name ∷ []) o.path ≡ b → cond (is_same_path (dir ++ d.name ∷ []) o.path) (grown d) d ≡ d
        by false h = ap (λ (b : Bool). cond b (grown d) d) h
        by true h =
            let both = same_by_folds (dir ++ d.name ∷ []) (dir ++ was.name ∷ []) (folds_alike (dir ++ d.name ∷ []) o.path h ∙ sym (folds_alike (dir ++ was.name ∷ []) o.path same_path)) in
            let last : is_same_path (dir ++ d.name ∷ []) (dir ++ was.name ∷ []) ≡ false =
            same_last dir dir d.name was.name ∙ ap₂ (λ (a b : Bool). a && b) (itself dir) differs in
            absurd (let bad : true ≡ false = sym both ∙ last in cc)

-- ---- all together

held_same : (old : Directory) (at : ℕ) (e d : Entry) → CanHold old d → CanHold (with_changed at e old) d
held_same (Directory.Small old) at e d held = held
held_same (Directory.Big old) at e d held = held

names_same : (old : Directory) (at : ℕ) (e : Entry) → at < length (entries_of old) → (get_or (entries_of old) at blank).name ≡ e.name → names_of (with_changed at e old) ≡ names_of old
names_same (Directory.Small old) at e within same = names_set old.entries at e within same
names_same (Directory.Big old) at e within same = names_set old.entries at e within same

size_same : (old : Directory) (at : ℕ) (e : Entry) → size_of (with_changed at e old) ≡ size_of old
size_same (Directory.Small old) at e = refl
size_same (Directory.Big old) at e = refl

full_same : (old : Directory) (at : ℕ) (e : Entry) (gain : Gain) → is_full_with (with_changed at e old) gain ≡ is_full_with old gain
full_same (Directory.Small old) at e gain = refl
full_same (Directory.Big old) at e gain = refl

growth_same : (old : Directory) (at : ℕ) (e : Entry) (o : Object) (gain : Gain) → growth_with o (with_changed at e old) gain ≡ growth_with o old gain
growth_same (Directory.Small old) at e o gain = refl
growth_same (Directory.Big old) at e o gain = refl

regrown_in : (old : Directory) (at : ℕ) (was e : Entry) (dir : Path) (o : Object) → IsSayable old → IsAt (entries_of old) at was → is_same_path (dir ++ was.name ∷ []) o.path ≡ true
    → e ≡ record was { address = o.entry.address; len = o.entry.len } → entries_of (with_changed at e old) ≡ map (regrown_entry dir (Some o)) (entries_of old)
regrown_in (Directory.Small old) at was e dir o small is same new = regrown_all old.entries at was e dir o small.apart is same new
regrown_in (Directory.Big old) at was e dir o big is same new = regrown_all old.entries at was e dir o big.apart is same new

pub amended : (old : Directory) (at : ℕ) (e : Entry) → IsSayable old → at < length (entries_of old) → (get_or (entries_of old) at blank).name ≡ e.name → HasAmended at e old (with_changed at e old)
amended old at e sayable within same = record {
  is = refl;
  carries = carries old at e within same;
  names = names_same old at e within same;
  size = size_same old at e;
  held = held_same old at e;
  full = full_same old at e;
  growth = growth_same old at e;
  regrown = λ dir was o is path new. regrown_in old at was e dir o sayable is path new;
}
