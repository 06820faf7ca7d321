-- What a walk over directories has found in the end.
use Rattle.std.proofs.Common.{◌≡◌, ◌<◌, ◌≤◌, ℕ, zero, suc, ◌+◌, ◌*◌, ◌/◌, ◌%◌, ◌-◌, min, ◌⊎◌, Bool, true, false, cond, List, [], ◌∷◌, ◌++◌, length, map, take, drop, append-nil, refl, sym, ap, subst, ◌∙◌, arith, Some, None, Option}
use Rattle.std.specs.Prelude.{Contains, Ok, Err, filter, slice_get, nat_le, ◌==◌, ◌&&◌, ◌||◌}
use Rattle.std.specs.List.{flat_map, list_any, range_with_len}
use Rattle.std.specs.Int.{div_ceil}
use Rattle.std.proofs.Math.Nat.{mod-add-div}
use Rattle.std.proofs.lemmas.Bool.{eq-eqb, leb-true, ne_eqb}
use Rattle.std.proofs.lemmas.Option.{slice_get_within}
use Rattle.std.proofs.lemmas.List.{length-take-le}
use Rattle.std.proofs.lemmas.List.FromFn.{length-range_with_len}
use Rattle.fc_names.specs.declared.name.NameForm.{NameForm}
use Rattle.fc_names.specs.declared.name.NameForm.TheVariants.{Seven, Ten, Long}
use Rattle.fc_dirs.specs.declared.DirFault.TheVariants as dirs
use Rattle.fc_dirs.specs.Entries.{first_twin}
use Rattle.fc_dirs.specs.Directory.{Directory, directory_size, entries_of}
use Rattle.fc_image.specs.Layout.{Layout, dir_form, first_part, id_of, id_sectors, is_among, is_apart, is_object_id, low_of, low_start, sectors_at, some_sectors}
use Rattle.fc_image.specs.Walk.{Listing, Object, Reader, is_directory_object, listings_from, object_size, walk}
use Rattle.fc_image.specs.Objects.{objects_of}
use Rattle.fc_image.specs.Laws.{Tells}
use Rattle.fc_image.specs.Edits.{Apart, IsApartFrom}
use Rattle.fc_image.proofs.EditLemmas.{apart_law}
use Rattle.fc_tree.specs.declared.node.Node.{Node}
use Rattle.fc_tree.specs.Agree.{HasForm, IsDirectory}
use Rattle.fc_tree.specs.Taken.{Marks}
use Rattle.fc_tree.specs.Walking.{IsFileAt, IsFound}
use Rattle.fc_tree.proofs.PathLemmas.{same_node}
use Rattle.fc_tree.proofs.WalkingLemmas.{IsWalking, after, after_end, found_by, none_waits, step_end, waiting_from}
use Rattle.fc_tree.proofs.StepLemmas.{past_files}

-- ---- a reader of listings whose objects are apart

told_by : List Listing → Reader
told_by [] o = Err dirs.Magic
told_by (l ∷ listings) o = cond (is_apart l.object.sectors o.sectors) (told_by listings o) (Ok l.content)

abbrev objects_listed : List Listing → List Object
objects_listed listings = map (λ (l : Listing). l.object) listings

from_apart : (taken : List ℕ) (o : Object) (listings : List Listing) → IsApartFrom taken (objects_listed listings) o → (l : Listing) → Contains listings l → is_apart o.sectors l.object.sectors ≡ true
from_apart taken o [] a l (k, h, e) = absurd (omega arith)
from_apart taken o (x ∷ listings) a l (zero, h, e) = subst (λ (y : Listing). is_apart o.sectors y.object.sectors ≡ true) e a.0
from_apart taken o (x ∷ listings) a l (suc k, h, e) = from_apart taken o listings a.1 l (k, omega arith, e)

told_tells : (listings : List Listing) (taken : List ℕ) → Apart taken (objects_listed listings)
    → ((l : Listing) → Contains listings l → is_apart l.object.sectors l.object.sectors ≡ false) → Tells (told_by listings) listings
unfolding told_by
told_tells [] taken a some l (k, h, e) = absurd (omega arith)
told_tells (x ∷ listings) taken a some l (zero, h, e) =
    subst (λ (y : Listing). told_by (x ∷ listings) y.object ≡ Ok y.content) e (rw (some x (zero, omega arith, refl)) refl)
told_tells (x ∷ listings) taken a some l (suc k, h, e) =
    let removed = apart_law.removed taken [] (objects_listed listings) x.object a in
    rw (from_apart taken x.object listings removed.1 l (k, omega arith, e))
    (told_tells listings taken removed.0 (λ y c. some y (suc c.0, (let low = c.1 in omega (arith, low)), c.2)) l (k, omega arith, e))

Apart-filter : (taken : List ℕ) (objects : List Object) → Apart taken objects → Apart taken (filter is_directory_object objects)
Apart-filter taken [] a = tt
Apart-filter taken (o ∷ objects) a =
    by (is_directory_object o) (Apart-filter (o.sectors ++ taken) objects a.1) (Apart-filter taken objects ((apart_law.removed taken [] objects o a).0))
  where
    by : (b : Bool) → Apart (o.sectors ++ taken) (filter is_directory_object objects) → Apart taken (filter is_directory_object objects)
        → Apart taken (cond b (o ∷ filter is_directory_object objects) (filter is_directory_object objects))
    by true kept without = (a.0, kept)
    by false kept without = without

-- ---- directories have sectors

pub some_up : (x y : ℕ) → 0 < x → 0 < div_ceil x y
some_up x y some = by (x / y) (x % y) (mod-add-div x y)
  where
    by : (q r : ℕ) → r + y * q ≡ x → 0 < q + min 1 r
    by zero zero e = absurd (let none : y * 0 ≡ 0 = grind (arith) in omega (arith, e, none, some))
    by zero (suc r) e = omega arith
    by (suc q) r e = omega arith

pub some_first : (n : ℕ) (xs sectors : List ℕ) → 0 < n → first_part n xs ≡ Some sectors → 0 < length sectors
some_first n xs sectors some e = by (nat_le n (length xs)) refl e
  where
    by : (b : Bool) → nat_le n (length xs) ≡ b → cond b (Some (take n xs)) None ≡ Some sectors → 0 < length sectors
    by true h f =
        let is : take n xs ≡ sectors = cc in
        let long = length-take-le n xs (leb-true n (length xs) h) in
        omega (arith, some, long, ap length is)
    by false h f = absurd (cc)

has_some : (layout : Layout) (address bytes : ℕ) (sectors : List ℕ) → 0 < bytes → sectors_at layout address bytes ≡ Some sectors → 0 < length sectors
unfolding sectors_at
has_some layout address bytes sectors some e =
    on layout (ap (λ (b : Bool). cond b (Some []) (some_sectors layout address bytes)) (sym (ne_eqb bytes 0 (λ z. omega (arith, z, some)))) ∙ e)
  where
    on : (lay : Layout) → some_sectors lay address bytes ≡ Some sectors → 0 < length sectors
    on (Layout.Old space) f = by ((address % space.sector_units == 0) && nat_le (address / space.sector_units + div_ceil bytes (256 * space.sector_units)) (space.disc_units / space.sector_units)) f
      where
        by : (b : Bool) → cond b (Some (range_with_len (address / space.sector_units) (div_ceil bytes (256 * space.sector_units)))) None ≡ Some sectors → 0 < length sectors
        by true g =
            let is : range_with_len (address / space.sector_units) (div_ceil bytes (256 * space.sector_units)) ≡ sectors = cc in
            let long = length-range_with_len (address / space.sector_units) (div_ceil bytes (256 * space.sector_units)) in
            let up = some_up bytes (256 * space.sector_units) some in
            omega (arith, up, long, ap length is)
        by false g = absurd (cc)
    on (Layout.New m) f = by (is_object_id m (id_of address)) f
      where
        by : (b : Bool) → cond b (first_part (div_ceil bytes m.geometry.sector) (drop (low_start m (low_of address)) (id_sectors m (id_of address)))) None ≡ Some sectors → 0 < length sectors
        by true g = some_first (div_ceil bytes m.geometry.sector) (drop (low_start m (low_of address)) (id_sectors m (id_of address))) sectors (some_up bytes m.geometry.sector some) g
        by false g = absurd (cc)

not_apart : (xs : List ℕ) → 0 < length xs → is_apart xs xs ≡ false
not_apart [] some = absurd (omega arith)
not_apart (x ∷ xs) some =
    ap (λ (b : Bool). cond ((b || list_any (λ t. t == x) xs) || list_any (is_among (x ∷ xs)) xs) false true) (eq-eqb x x refl)

pub some_bytes : (form : NameForm) (len : ℕ) (dir : Directory) → HasForm form len dir → IsDirectory dir → 0 < directory_size form len
some_bytes Seven len (Directory.Small dir) h d = omega arith
some_bytes Seven len (Directory.Big dir) h d = absurd h
some_bytes Ten len (Directory.Small dir) h d = omega arith
some_bytes Ten len (Directory.Big dir) h d = absurd h
some_bytes Long len (Directory.Small dir) h d = absurd h
some_bytes Long len (Directory.Big dir) h d = (let big = d.fits in omega (arith, h, big))

pub no_twin : (dir : Directory) → IsDirectory dir → first_twin (entries_of dir) ≡ None
no_twin (Directory.Small dir) d = d.apart
no_twin (Directory.Big dir) d = d.apart

-- ---- the end

two_first : (l : Listing) (done : List Listing) (root : Object) (rest : List Object) → objects_listed (l ∷ done) ≡ root ∷ rest → l.object ≡ root
two_first l done root rest e = cc

objects_are : (done : List Listing) (root : Object) → objects_listed done ++ [] ≡ filter is_directory_object (found_by root done) → is_directory_object root ≡ true → objects_of done ≡ found_by root done
objects_are [] root e dir = absurd (let f : [] ≡ root ∷ filter is_directory_object [] = rw dir at e in cc)
objects_are (l ∷ done) root e dir =
    let first : l.object ≡ root = two_first l done root _ (sym (append-nil (objects_listed (l ∷ done))) ∙ (rw dir at e)) in
    ap (λ (o : Object). o ∷ flat_map (λ (k : Listing). k.children) (l ∷ done)) first

-- listings of these directories are directories'
abbrev AreDirs : List Object → Listing → Type 0
AreDirs objects l = (ls : List Listing) → objects_listed ls ≡ filter is_directory_object objects → Contains ls l → is_directory_object l.object ≡ true

is_dir_listed : (listings : List Listing) (objects : List Object) → objects_listed listings ≡ filter is_directory_object objects → (l : Listing) → Contains listings l → is_directory_object l.object ≡ true
is_dir_listed listings [] e l c = none listings e c
  where
    none : (ls : List Listing) → objects_listed ls ≡ [] → Contains ls l → is_directory_object l.object ≡ true
    none [] f (k, h, g) = absurd (omega arith)
    none (x ∷ ls) f c = absurd (cc)
is_dir_listed listings (o ∷ objects) e l c = by (is_directory_object o) refl e (λ ls f k. is_dir_listed ls objects f l k)
  where
    cons_same : (x : Listing) (ls : List Listing) (os : List Object) → objects_listed (x ∷ ls) ≡ o ∷ os → (x.object ≡ o) × (objects_listed ls ≡ os)
    cons_same x ls os f = (cc, cc)

    on : (ls : List Listing) → is_directory_object o ≡ true → objects_listed ls ≡ o ∷ filter is_directory_object objects → Contains ls l → AreDirs objects l → is_directory_object l.object ≡ true
    on [] d f (k, h, g) more = absurd (omega arith)
    on (x ∷ ls) d f (zero, h, g) more = subst (λ (y : Listing). is_directory_object y.object ≡ true) g (ap is_directory_object ((cons_same x ls (filter is_directory_object objects) f).0) ∙ d)
    on (x ∷ ls) d f (suc k, h, g) more = more ls ((cons_same x ls (filter is_directory_object objects) f).1) (k, omega arith, g)

    by : (b : Bool) → is_directory_object o ≡ b → objects_listed listings ≡ cond b (o ∷ filter is_directory_object objects) (filter is_directory_object objects) → AreDirs objects l → is_directory_object l.object ≡ true
    by true d f more = on listings d f c more
    by false d f more = more listings f c

abbrev HeldIn : List Object → List Listing → ℕ → Object → Node → Type 0
HeldIn objects done i o n = ((i ≡ 0) × (n.holder ≡ 0)) ⊎ ((l : Listing) × Contains done l × (slice_get objects n.holder ≡ Some l.object) × Contains l.children o)

pub walk_ends : (layout : Layout) (reserved : List ℕ) (address size : ℕ) (told : Option (List ℕ)) (nodes : List Node) (from left : ℕ) (marks : Marks)
    → IsWalking layout reserved address size told nodes from left marks → ((i : ℕ) → from ≤ i → IsFileAt nodes i) → IsFound layout reserved address size told nodes
walk_ends layout reserved address size told nodes from left marks before files =
    let low = before.low in
    let w = past_files layout reserved address size told nodes from left (length nodes - from) marks before (omega (arith, low)) (λ i le lt. files i le) (length nodes) (omega (arith, low)) in
    let objects = found_by w.root w.done in
    let all = w.all in
    let none : waiting_from (length nodes) objects ≡ [] = none_waits objects (length nodes) (omega (arith, all)) in
    let queue : objects_listed w.done ++ [] ≡ filter is_directory_object objects = ap (λ (os : List Object). objects_listed w.done ++ os) (sym none) ∙ w.queue in
    let listed : objects_listed w.done ≡ filter is_directory_object objects = sym (append-nil (objects_listed w.done)) ∙ queue in
    let are : objects_of w.done ≡ objects = objects_are w.done w.root queue w.root_is in
    let walks : (read : Reader) → Tells read w.done → walk read layout reserved address size ≡ Ok w.done = λ read tells.
    w.walks read tells ∙ ap (λ (os : List Object). after w.done (listings_from read layout left w.taken os)) none ∙ ap (after w.done) (step_end read layout left w.taken) ∙ after_end w.done in
    let apart : Apart reserved (objects_listed w.done) = subst (Apart reserved) (sym listed) (Apart-filter reserved objects w.apart) in
    let tells = told_tells w.done reserved apart (λ l c.
    (let h = w.listed l c in
    let dir = is_dir_listed w.done objects listed l c in
    let bytes : object_size (dir_form layout) l.object.entry ≡ directory_size (dir_form layout) l.object.entry.len = rw dir refl in
    let some = some_bytes (dir_form layout) l.object.entry.len l.content h.form h.sound in
    not_apart l.object.sectors (has_some layout l.object.entry.address (object_size (dir_form layout) l.object.entry) l.object.sectors (omega (arith, bytes, some)) h.placed))) in
    record {
      listings = w.done;
      walks = walks;
      numbered = record {
        all = all ∙ ap length (sym are);
        each = λ i n o node is.
            (let here : slice_get objects i ≡ Some o = ap (λ (os : List Object). slice_get os i) (sym are) ∙ is in
            let c = w.counted i o n here node in
            let s = w.stand i o here in
            let i_low = slice_get_within nodes i n node in
            record {
              entry = ap (λ (x : Node). x.entry) (same_node nodes i n s.node node s.is) ∙ s.entry;
              body = c.read i_low;
              held = subst (λ (os : List Object). HeldIn os w.done i o n) (sym are) c.held;
            });
      };
      sound = record { read = told_by w.done; reserved = reserved; address = address; size = size; walked = walks (told_by w.done) tells; apart = λ l c. no_twin l.content (w.listed l c).sound };
      forms = λ l c. (w.listed l c).form;
      bodies = λ l c. (w.listed l c).sound;
      tells = λ image t l c. (w.listed l c).tells image t;
    }
