-- Whether a name finds room, and how large the directory becomes.
use Rattle.std.proofs.Common.{◌≡◌, ◌<◌, ◌≤◌, ℕ, ◌+◌, max, Bool, true, false, cond, not, ◌==◌, nat_lt, List, [], ◌∷◌, ◌++◌, length, map, filter, remove, refl, sym, ap, ap₂, ◌∙◌, subst, arith, Option, Some, None, length-append}
use Rattle.std.specs.Prelude.{◌↔◌, IsTrue, slice_index}
use Rattle.std.specs.Option.{option_map_or}
use Rattle.std.specs.Str.{bytes_eq}
use Rattle.std.proofs.lemmas.Bool.Decides.{nat_tests}
use Rattle.std.proofs.lemmas.List.{length-map}
use Rattle.std.proofs.lemmas.List.Edits.{length-remove}
use Rattle.std.proofs.lemmas.Option.{slice_get_within}
use Rattle.std.proofs.lemmas.Slice.Eq.{bytes_eq-Decides}
use Rattle.fc_names.specs.Names.{is_same_name}
use Rattle.fc_dirs.specs.declared.Entry.{Entry}
use Rattle.fc_dirs.specs.Entries.{first_twin}
use Rattle.fc_dirs.specs.Small.{SmallDir, IsSmall, is_full_small, tail_of}
use Rattle.fc_dirs.specs.Big.{BigDir, IsBig, appended, is_spelled, name_space, needed_size, size_limit, size_with, with_big_entry, with_big_renamed, with_entry_at, without_big_entry}
use Rattle.fc_dirs.specs.Directory.{Directory, entries_of}
use Rattle.fc_dirs.proofs.EditLemmas.{edit_law}
use Rattle.fc_names.proofs.FoldOrder.{fold_law}
use Rattle.fc_image.specs.Walk.{Object}
use Rattle.fc_image.specs.effects.Short.{Gain, Growth, growth_with, is_full_with}
use Rattle.fc_image.specs.effects.Steady.{without_name}
use Rattle.fc_bigdir.proofs.GrowLemmas.{needed_is, tight_with}
use Rattle.fc_bigdir.proofs.NeededLemmas.{needed_more}
use Rattle.fc_drafts.specs.Draft.{IsFullFor, IsFullForRenamed, IsSayable, size_of, with_head, with_new, with_renamed}
use Rattle.fc_drafts.specs.Gains.{GetsName, GetsNameFor, HasRoom, HasSizeAfter, room_of_size}
use Rattle.fc_drafts.specs.declared.room.Room.{Room}
use Rattle.fc_drafts.specs.declared.room.Room.TheVariants as rooms
use Rattle.fc_drafts.specs.Rewriting.{IsAt}
use Rattle.fc_drafts.proofs.HeadLemmas.{fitted_size}

-- ---- one name more

pub small_full : (dir : SmallDir) (name : List ℕ) (gain : Gain) → IsSmall dir → GetsName (Directory.Small dir) name gain
    → is_full_with (Directory.Small dir) gain ≡ is_full_small dir
small_full dir name gain small gets =
    let names = map (λ (e : Entry). e.name) dir.entries in
    let count : length gain.names ≡ length dir.entries + 1 =
    ap (λ (l : List (List ℕ)). length l) gets.names_are ∙ length-append names (name ∷ []) ∙ ap (λ (n : ℕ). n + 1) (length-map dir.entries (λ (e : Entry). e.name)) in
    ap (λ (n : ℕ). nat_lt (tail_of dir.form).places n) count ∙ alike (length dir.entries) (tail_of dir.form).places small.places
  where
    alike : (n places : ℕ) → n ≤ places → nat_lt places (n + 1) ≡ (n == places)
    alike n places few = grind (arith, nat_tests, few)

-- the size that a big directory needs for the name
pub big_needed : (dir : BigDir) (e : Entry) (gain : Gain) → GetsName (Directory.Big dir) e.name gain → size_with e dir ≡ needed_size dir gain.names gain.name
big_needed dir e gain gets =
    needed_is dir e (length dir.entries + 1) (length dir.heap + name_space e.name) (tight_with e dir.entries) refl refl refl
    ∙ sym (needed_more dir dir.entries e.name)
    ∙ ap₂ (λ (names : List (List ℕ)) (name : List ℕ). needed_size dir names name) (sym gets.names_are) (sym gets.name_is)

above : (n m : ℕ) → n ≡ m → (size_limit < n) ↔ IsTrue (nat_lt 4194304 m)
above n m is = (λ h. over n m is h, λ k. under n m is k)
  where
    over : (n m : ℕ) → n ≡ m → 4194304 < n → nat_lt 4194304 m ≡ true
    over n m is h = grind (arith, nat_tests, is, h)

    under : (n m : ℕ) → n ≡ m → nat_lt 4194304 m ≡ true → 4194304 < n
    under n m is k = grind (arith, nat_tests, is, k)

pub full_is : (dir : Directory) (e : Entry) (gain : Gain) → IsSayable dir → GetsName dir e.name gain → IsFullFor e dir ↔ IsTrue (is_full_with dir gain)
full_is (Directory.Small dir) e gain small gets =
    let same = small_full dir e.name gain small gets in
    (λ h. same ∙ h, λ k. sym same ∙ k)
full_is (Directory.Big dir) e gain big gets = above (size_with e dir) (needed_size dir gain.names gain.name) (big_needed dir e gain gets)

-- the size of a big directory that grows to what it needs
grown_to : (o : Object) (dir : BigDir) (gain : Gain) (size needed : ℕ) → size ≡ max needed dir.size → needed ≡ needed_size dir gain.names gain.name
    → size ≡ option_map_or (λ (g : Growth). g.1) (growth_with o (Directory.Big dir) gain) dir.size
grown_to o dir gain size needed is same = is ∙ ap (λ (n : ℕ). max n dir.size) same ∙ by (nat_lt dir.size (needed_size dir gain.names gain.name)) refl
  where
    n : ℕ
    n = needed_size dir gain.names gain.name

    by : (b : Bool) → nat_lt dir.size n ≡ b → max n dir.size ≡ option_map_or (λ (g : Growth). g.1) (cond b (Some (o, n)) None) dir.size
    by true more = greater dir.size n more
      where
        greater : (s k : ℕ) → nat_lt s k ≡ true → max k s ≡ k
        greater s k more = grind (arith, nat_tests, more)
    by false less = lesser dir.size n less
      where
        lesser : (s k : ℕ) → nat_lt s k ≡ false → max k s ≡ s
        lesser s k less = grind (arith, nat_tests, less)

entered_size : (e : Entry) (dir : BigDir) → (with_big_entry e dir).size ≡ max (size_with e dir) dir.size
entered_size e dir = fitted_size (record (appended e dir) { size = max (size_with e dir) dir.size })

pub size_grown : (parent : ℕ) (dir : Directory) (e : Entry) (gain : Gain) → GetsName dir e.name gain → HasSizeAfter dir gain (with_head parent (with_new e dir))
size_grown parent (Directory.Small dir) e gain gets = λ o. refl
size_grown parent (Directory.Big dir) e gain gets = λ o. grown_to o dir gain (with_big_entry e dir).size (size_with e dir) (entered_size e dir) (big_needed dir e gain gets)

-- ---- a name in place of another

pub same_name_itself : (a : List ℕ) → is_same_name a a ≡ true
same_name_itself a = fold_law.same.refl a

-- the names without one
names_without : (name : List ℕ) (es : List Entry) → map (λ (e : Entry). e.name) (without_name name es) ≡ filter (λ (n : List ℕ). not (is_same_name n name)) (map (λ (e : Entry). e.name) es)
names_without name [] = refl
names_without name (e ∷ es) = by (not (is_same_name e.name name)) (names_without name es)
  where
    by : (b : Bool) → map (λ (d : Entry). d.name) (without_name name es) ≡ filter (λ (n : List ℕ). not (is_same_name n name)) (map (λ (d : Entry). d.name) es)
        → map (λ (d : Entry). d.name) (cond b (e ∷ without_name name es) (without_name name es))
        ≡ cond b (e.name ∷ filter (λ (n : List ℕ). not (is_same_name n name)) (map (λ (d : Entry). d.name) es)) (filter (λ (n : List ℕ). not (is_same_name n name)) (map (λ (d : Entry). d.name) es))
    by true more = ap (λ (l : List (List ℕ)). e.name ∷ l) more
    by false more = more

-- the names of a gain, by the number of the entry
pub gain_names : (dir : Directory) (at : ℕ) (was : Entry) (name : List ℕ) (gain : Gain) → first_twin (entries_of dir) ≡ None → IsAt (entries_of dir) at was → GetsNameFor dir was.name name gain
    → gain.names ≡ map (λ (e : Entry). e.name) (remove (entries_of dir) at) ++ name ∷ []
gain_names dir at was name gain apart is gets =
    gets.names_are
    ∙ ap (λ (l : List (List ℕ)). l ++ name ∷ [])
    (sym (names_without was.name (entries_of dir)) ∙ ap (map (λ (e : Entry). e.name)) (sym (edit_law.removed (entries_of dir) at was was.name apart is (same_name_itself was.name))))

-- a small directory is never full then
pub small_renamed_fits : (dir : SmallDir) (at : ℕ) (was : Entry) (name : List ℕ) (gain : Gain) → IsSmall dir → IsAt dir.entries at was → GetsNameFor (Directory.Small dir) was.name name gain
    → is_full_with (Directory.Small dir) gain ≡ false
small_renamed_fits dir at was name gain small is gets =
    let left = map (λ (e : Entry). e.name) (remove dir.entries at) in
    let within = slice_get_within dir.entries at was is in
    let size = length-remove dir.entries at within in
    let count : length gain.names ≡ length (remove dir.entries at) + 1 =
    ap (λ (l : List (List ℕ)). length l) (gain_names (Directory.Small dir) at was name gain small.apart is gets)
    ∙ length-append left (name ∷ []) ∙ ap (λ (n : ℕ). n + 1) (length-map (remove dir.entries at) (λ (e : Entry). e.name)) in
    few (tail_of dir.form).places (length gain.names) (omega (arith, count, size, within, small.places))
  where
    few : (places n : ℕ) → n ≤ places → nat_lt places n ≡ false
    few places n h = grind (arith, nat_tests, h)

pub big_renamed_needed : (dir : BigDir) (at : ℕ) (was e : Entry) (gain : Gain) → IsBig dir → IsAt dir.entries at was → GetsNameFor (Directory.Big dir) was.name e.name gain
    → size_with e (without_big_entry at dir) ≡ needed_size dir gain.names gain.name
big_renamed_needed dir at was e gain big is gets =
    needed_is (without_big_entry at dir) e (length (remove dir.entries at) + 1) (length dir.heap + name_space e.name) (tight_with e (remove dir.entries at)) refl refl refl
    ∙ sym (needed_more dir (remove dir.entries at) e.name)
    ∙ ap₂ (λ (names : List (List ℕ)) (name : List ℕ). needed_size dir names name) (sym (gain_names (Directory.Big dir) at was e.name gain big.apart is gets)) (sym gets.name_is)

-- whether the name of an entry is spelled as before
pub spelled_is : (dir : BigDir) (at : ℕ) (was e : Entry) → IsAt dir.entries at was → is_spelled at e dir ≡ bytes_eq was.name e.name
spelled_is dir at was e is = ap (λ (o : Option Entry). option_map_or (λ (d : Entry). bytes_eq d.name e.name) o false) is

pub spelled_same : (dir : BigDir) (at : ℕ) (was e : Entry) → IsAt dir.entries at was → was.name ≡ e.name → is_spelled at e dir ≡ true
spelled_same dir at was e is same = spelled_is dir at was e is ∙ (bytes_eq-Decides was.name e.name).1 same

pub spelled_other : (dir : BigDir) (at : ℕ) (was e : Entry) → IsAt dir.entries at was → (was.name ≡ e.name → ⊥) → is_spelled at e dir ≡ false
spelled_other dir at was e is other = by (bytes_eq was.name e.name) refl
  where
    by : (b : Bool) → bytes_eq was.name e.name ≡ b → is_spelled at e dir ≡ false
    by true h = absurd (other ((bytes_eq-Decides was.name e.name).0 h))
    by false h = spelled_is dir at was e is ∙ h

-- the directory by the spelling
pub renamed_by : (dir : BigDir) (at : ℕ) (e : Entry) → (P : BigDir → Type 0) → (b : Bool) → is_spelled at e dir ≡ b
    → P (cond b (with_entry_at (slice_index dir.name_places at) e (without_big_entry at dir)) (with_big_entry e (without_big_entry at dir))) → P (with_big_renamed at e dir)
renamed_by dir at e P b is holds = subst (λ (t : Bool). P (cond t (with_entry_at (slice_index dir.name_places at) e (without_big_entry at dir)) (with_big_entry e (without_big_entry at dir)))) (sym is) holds

pub size_kept : (parent : ℕ) (dir : Directory) (at : ℕ) (was e : Entry) → IsAt (entries_of dir) at was → was.name ≡ e.name → size_of (with_head parent (with_renamed at e dir)) ≡ size_of dir
size_kept parent (Directory.Small dir) at was e is same = refl
size_kept parent (Directory.Big dir) at was e is same =
    renamed_by dir at e (λ (d : BigDir). d.size ≡ dir.size) true (spelled_same dir at was e is same) refl

pub size_renamed : (parent : ℕ) (dir : Directory) (at : ℕ) (was e : Entry) (gain : Gain) → IsSayable dir → IsAt (entries_of dir) at was → (was.name ≡ e.name → ⊥)
    → GetsNameFor dir was.name e.name gain → HasSizeAfter dir gain (with_head parent (with_renamed at e dir))
size_renamed parent (Directory.Small dir) at was e gain small is other gets = λ o. refl
size_renamed parent (Directory.Big dir) at was e gain big is other gets = λ o.
    renamed_by dir at e (λ (d : BigDir). d.size ≡ option_map_or (λ (g : Growth). g.1) (growth_with o (Directory.Big dir) gain) dir.size) false (spelled_other dir at was e is other)
    (grown_to o dir gain (with_big_entry e (without_big_entry at dir)).size (size_with e (without_big_entry at dir)) (entered_size e (without_big_entry at dir)) (big_renamed_needed dir at was e gain big is gets))

pub full_renamed : (dir : Directory) (at : ℕ) (was e : Entry) (gain : Gain) → IsSayable dir → IsAt (entries_of dir) at was → (was.name ≡ e.name → ⊥) → GetsNameFor dir was.name e.name gain
    → IsFullForRenamed at e dir ↔ IsTrue (is_full_with dir gain)
full_renamed (Directory.Small dir) at was e gain small is other gets =
    (λ h. absurd h, λ k. let bad : true ≡ false = sym k ∙ small_renamed_fits dir at was e.name gain small is gets in absurd (cc))
full_renamed (Directory.Big dir) at was e gain big is other gets =
    let test = above (size_with e (without_big_entry at dir)) (needed_size dir gain.names gain.name) (big_renamed_needed dir at was e gain big is gets) in
    (λ h. test.0 (h.1), λ k. (spelled_other dir at was e is other, test.1 k))

pub never_full : (dir : Directory) (at : ℕ) (was e : Entry) → IsAt (entries_of dir) at was → was.name ≡ e.name → IsFullForRenamed at e dir → ⊥
never_full (Directory.Small dir) at was e is same full = full
never_full (Directory.Big dir) at was e is same full = let bad : true ≡ false = sym (spelled_same dir at was e is same) ∙ full.0 in cc

-- ---- room

pub small_fits : (dir : SmallDir) (at : ℕ) (was : Entry) (name : List ℕ) (gain : Gain) → IsSmall dir → IsAt dir.entries at was → GetsNameFor (Directory.Small dir) was.name name gain
    → HasRoom (Directory.Small dir) gain rooms.Fits
small_fits dir at was name gain small is gets = (small_renamed_fits dir at was name gain small is gets, λ o. refl)

pub big_room : (dir : BigDir) (at : ℕ) (was : Entry) (name : List ℕ) (gain : Gain) (size needed : ℕ) (room : Room) → IsBig dir → IsAt dir.entries at was → GetsNameFor (Directory.Big dir) was.name name gain
    → size ≡ dir.size → needed ≡ needed_size dir (map (λ (e : Entry). e.name) (remove dir.entries at) ++ name ∷ []) name → room ≡ room_of_size size needed → HasRoom (Directory.Big dir) gain room
big_room dir at was name gain size needed room big is gets size_is needed_is room_is =
    subst (HasRoom (Directory.Big dir) gain) (sym (room_is ∙ ap₂ room_of_size size_is same)) (by (nat_lt 4194304 n) (nat_lt dir.size n) refl refl)
  where
    n : ℕ
    n = needed_size dir gain.names gain.name

    same : needed ≡ n
    same =
        needed_is ∙ ap₂ (λ (names : List (List ℕ)) (new : List ℕ). needed_size dir names new) (sym (gain_names (Directory.Big dir) at was name gain big.apart is gets)) (sym gets.name_is)

    by : (full grows : Bool) → nat_lt 4194304 n ≡ full → nat_lt dir.size n ≡ grows → HasRoom (Directory.Big dir) gain (cond full rooms.Full (cond grows (rooms.Grows n) rooms.Fits))
    by true grows f g = f
    by false true f g = (f, λ o. ap (λ (b : Bool). cond b (Some (o, n)) None) g)
    by false false f g = (f, λ o. ap (λ (b : Bool). cond b (Some (o, n)) None) g)
