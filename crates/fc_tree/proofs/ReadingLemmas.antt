-- Sectors that are read one after another.
use Rattle.std.proofs.Common.{All, min, ◌≤◌, ◌≡◌, ◌<◌, ℕ, ◌+◌, ◌*◌, ◌^◌, true, List, [], ◌∷◌, ◌++◌, length, sym, ap, ap₂, subst, ◌∙◌, arith, Option, Some}
use Rattle.std.specs.Option.{ForSome}
use Rattle.std.proofs.Math.Nat.{div-le_self}
use Rattle.fc_device.specs.declared.disk.Disk.{Ghosts}
use Rattle.fc_device.proofs.DiskLaws.{Laws}
use Rattle.fc_newmap.proofs.PlaceLemmas.{in_back}
use Rattle.fc_image.specs.Layout.{Layout, bytes_in, dir_form, is_among, sector_bytes, sectors_at}
use Rattle.fc_image.specs.Edits.{IsAt}
use Rattle.fc_image.specs.Walk.{Object, object_bytes, object_size}
use Rattle.fc_dirs.specs.declared.Entry.{Entry}
use Rattle.fc_objects.specs.Bytes.{first_bytes}
use Rattle.std.proofs.lemmas.List.Elements.{All-cons, All-nil}
use Rattle.fc_tree.proofs.LengthLemmas.{first_among}
use Rattle.fc_objects.proofs.CopyLemmas.{one_told as some_same}

-- a disk's sectors, one by one
pub all_on_disk : (n : ℕ) (xs : List ℕ) → ((s : ℕ) → is_among xs s ≡ true → s < n) → All (λ s. s < n) xs
all_on_disk n [] low = All-nil (λ s. s < n)
all_on_disk n (x ∷ xs) low = All-cons (λ s. s < n) x xs (low x (first_among x xs)) (all_on_disk n xs (λ s e. low s (in_back (x ∷ []) xs s e)))

-- the first bytes of an object's sectors are the object's
pub object_read : (told : Option (List ℕ)) (layout : Layout) (size bytes : ℕ) (e : Entry) (none read sectors : List ℕ)
    → ForSome told (λ image. read ≡ none ++ first_bytes size image sectors bytes) → none ≡ []
    → size ≡ sector_bytes layout → bytes ≡ object_size (dir_form layout) e → sectors_at layout e.address bytes ≡ Some sectors
    → ForSome told (λ image. (o : Object) → o.entry ≡ e → IsAt layout o → read ≡ object_bytes image layout o)
unfolding bytes_in first_bytes
object_read told layout size bytes e none read sectors appends empty sized count place = λ image said o entry at.
    (let here : sectors_at layout e.address (object_size (dir_form layout) e) ≡ Some o.sectors = subst (λ (x : Entry). sectors_at layout x.address (object_size (dir_form layout) x) ≡ Some o.sectors) entry at in
    let same : sectors ≡ o.sectors = some_same sectors o.sectors (sym place ∙ ap (sectors_at layout e.address) count ∙ here) in
    appends image said ∙ ap (λ (l : List ℕ). l ++ first_bytes size image sectors bytes) empty
    ∙ ap₂ (λ (n : ℕ) (xs : List ℕ). first_bytes n image xs bytes) sized same
    ∙ ap (first_bytes (sector_bytes layout) image o.sectors) (count ∙ ap (object_size (dir_form layout)) (sym entry)))

-- it has them all
pub object_long : (size bytes want long none : ℕ) (sectors : List ℕ) → long ≡ none + min bytes (length sectors * size) → none ≡ 0 → bytes ≤ length sectors * want → size ≡ want → long ≡ bytes
object_long size bytes want long none sectors is empty room same =
    let fits : bytes ≤ length sectors * size = subst (λ (k : ℕ). bytes ≤ length sectors * k) (sym same) room in
    omega (arith, is, empty, fits)
