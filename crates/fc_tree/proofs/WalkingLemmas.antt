-- The state of a walk over directories, one directory after another.
use Rattle.std.proofs.Common.{◌≡◌, ◌<◌, ◌≤◌, ℕ, zero, suc, ◌+◌, ◌⊎◌, inl, inr, Bool, true, false, cond, List, [], ◌∷◌, ◌++◌, length, map, drop, take, append_assoc, append-nil, refl, sym, ap, subst, ◌∙◌, arith, Some, Option}
use Rattle.std.specs.Prelude.{Contains, Result, Ok, Err, filter, slice_get, slice_set}
use Rattle.std.specs.List.{flat_map, sum_by}
use Rattle.std.specs.Option.{ForSome}
use Rattle.std.proofs.lemmas.Grind.{flat_map-append, reverse_onto}
use Rattle.fc_names.specs.Names.{Path}
use Rattle.fc_dirs.specs.declared.Entry.{Entry}
use Rattle.fc_dirs.specs.declared.DirFault.{DirFault}
use Rattle.fc_dirs.specs.Directory.{Directory, directory_size, entries_of}
use Rattle.fc_image.specs.declared.ImageFault.{ImageFault}
use Rattle.fc_image.specs.declared.ImageFault.TheVariants as faults
use Rattle.fc_image.specs.Layout.{Layout, dir_form, disc_sectors}
use Rattle.fc_image.specs.Walk.{◌>>=◌, Listing, Object, Reader, children_of, is_directory_object, listings_from, object_of, reader_of, root_entry, walk}
use Rattle.fc_image.specs.Laws.{Tells}
use Rattle.fc_image.specs.Edits.{Apart, AreChildren, IsAt}
use Rattle.fc_image.proofs.EditLemmas.{taken_by, Apart-append}
use Rattle.fc_tree.specs.declared.node.Body.TheVariants as bodies
use Rattle.fc_tree.specs.declared.node.Node.{Node}
use Rattle.fc_tree.specs.declared.node.TreeError.{TreeError}
use Rattle.fc_tree.specs.Agree.{HasForm, IsDirectory}
use Rattle.fc_tree.specs.Numbered.{HasBody}
use Rattle.fc_tree.specs.Calls.{directory_sectors}
use Rattle.fc_tree.specs.Reads.{sectors_from, walk_sectors}
use Rattle.fc_tree.specs.Taken.{AreTaken, Marks}
use Rattle.fc_tree.specs.Walking.{FailsAs, HoldsObject, Leads, new_node, said_children}
use Rattle.fc_tree.proofs.PlaceInLists.{get_set, some_same}

-- ---- the state

-- the root, and what the directories so far hold
abbrev pub found_by : Object → List Listing → List Object
found_by root done = root ∷ flat_map (λ l. l.children) done

-- the listings so far, and then others
pub after : List Listing → Result (List Listing) ImageFault → Result (List Listing) ImageFault
after done r = r >>= λ rest. Ok (done ++ rest)

-- what waits from the object of a number on
abbrev pub waiting_from : ℕ → List Object → List Object
waiting_from from objects = filter is_directory_object (drop from objects)

-- the object is the root, or one of a directory whose object has the holder's number
abbrev pub IsHeld : Object → List Listing → ℕ → Object → Node → Type 0
IsHeld root done i o n =
    ((i ≡ 0) × (n.holder ≡ 0))
    ⊎ ((l : Listing) × Contains done l × (slice_get (found_by root done) n.holder ≡ Some l.object) × Contains l.children o)

-- a node before its directory is read, and after
pub record IsCounted (root : Object) (done : List Listing) (from i : ℕ) (o : Object) (n : Node) : Type 0 where
  pub fresh : from ≤ i → n.body ≡ bodies.File
  pub read : i < from → HasBody done o n
  pub held : IsHeld root done i o n

-- what a directory that was read has
pub record IsListed (layout : Layout) (told : Option (List ℕ)) (l : Listing) : Type 0 where
  pub form : HasForm (dir_form layout) l.object.entry.len l.content
  pub sound : IsDirectory l.content
  pub placed : IsAt layout l.object
  pub tells : ForSome told (λ image. reader_of image layout l.object ≡ Ok l.content)

-- The walk has come to the node of number `from`: the directories before it are read, and `left` more may be.
pub record IsWalking (layout : Layout) (reserved : List ℕ) (address size : ℕ) (told : Option (List ℕ)) (nodes : List Node) (from left : ℕ) (marks : Marks) : Type 0 where
  pub root : Object
  pub done : List Listing
  pub taken : List ℕ
  pub marked : AreTaken marks taken
  pub low : from ≤ length nodes
  pub root_is : is_directory_object root ≡ true
  pub all : length nodes ≡ length (found_by root done)
  pub stand : (i : ℕ) (o : Object) → slice_get (found_by root done) i ≡ Some o → HoldsObject layout nodes i o
  pub counted : (i : ℕ) (o : Object) (n : Node) → slice_get (found_by root done) i ≡ Some o → slice_get nodes i ≡ Some n → IsCounted root done from i o n
  pub queue : map (λ (l : Listing). l.object) done ++ waiting_from from (found_by root done) ≡ filter is_directory_object (found_by root done)
  pub apart : Apart reserved (found_by root done)
  pub taken_is : taken ≡ taken_by reserved (found_by root done)
  pub walks : (read : Reader) → Tells read done → walk read layout reserved address size ≡ after done (listings_from read layout left taken (waiting_from from (found_by root done)))
  pub reads : (read : Reader) → Tells read done
      → walk_sectors read layout reserved address size ≡ sum_by (directory_sectors layout) (take from nodes) + sectors_from read layout left taken (waiting_from from (found_by root done))
  pub listed : (l : Listing) → Contains done l → IsListed layout told l

-- ---- nodes that are changed in their bodies

leads_set : (nodes : List Node) (at : ℕ) (n m : Node) → slice_get nodes at ≡ Some n → m.entry ≡ n.entry → m.holder ≡ n.holder → (i : ℕ) (names : Path) → Leads nodes i names → Leads (slice_set nodes at m) i names
leads_set nodes at n m is entry holder i [] l = l
leads_set nodes at n m is entry holder i (x ∷ names) l = elim (get_set nodes at i n m is) [
  | inl here ↦ (
      let same : l.0 ≡ n = some_same l.0 n (sym l.1 ∙ ap (slice_get nodes) here.0 ∙ is) in
      let up : m.holder ≡ l.0.holder = holder ∙ sym (ap (λ (k : Node). k.holder) same) in (
        m,
        here.1,
        ap (λ (e : Entry). e.name) (entry ∙ sym (ap (λ (k : Node). k.entry) same)) ∙ l.2,
        subst (λ (h : ℕ). h < i) (sym up) l.3,
        subst (λ (h : ℕ). Leads (slice_set nodes at m) h names) (sym up) (leads_set nodes at n m is entry holder l.0.holder names l.4),
      ))
  | inr other ↦ (l.0, other.1 ∙ l.1, l.2, l.3, leads_set nodes at n m is entry holder l.0.holder names l.4)
]

pub stands_set : (layout : Layout) (nodes : List Node) (at : ℕ) (n m : Node) → slice_get nodes at ≡ Some n → m.entry ≡ n.entry → m.holder ≡ n.holder → (i : ℕ) (o : Object) → HoldsObject layout nodes i o
    → HoldsObject layout (slice_set nodes at m) i o
stands_set layout nodes at n m is entry holder i o s = elim (get_set nodes at i n m is) [
  | inl here ↦ (
      let same : s.node ≡ n = some_same s.node n (sym s.is ∙ ap (slice_get nodes) here.0 ∙ is) in
      record { node = m; is = here.1; entry = entry ∙ sym (ap (λ (k : Node). k.entry) same) ∙ s.entry; names = s.names; leads = leads_set nodes at n m is entry holder i s.names s.leads; path = s.path; placed = s.placed })
  | inr other ↦ record { node = s.node; is = other.1 ∙ s.is; entry = s.entry; names = s.names; leads = leads_set nodes at n m is entry holder i s.names s.leads; path = s.path; placed = s.placed }
]

-- the node of an object that a directory holds
pub new_stands : (layout : Layout) (nodes : List Node) (at i : ℕ) (o k : Object) → HoldsObject layout nodes at o → slice_get nodes i ≡ Some (new_node at k) → at < i → k.path ≡ o.path ++ k.entry.name ∷ [] → IsAt layout k
    → HoldsObject layout nodes i k
new_stands layout nodes at i o k s is above path placed = record {
  node = new_node at k;
  is = is;
  entry = refl;
  names = k.entry.name ∷ s.names;
  leads = (new_node at k, is, refl, above, s.leads);
  path = path ∙ ap (λ (p : Path). p ++ k.entry.name ∷ []) s.path ∙ sym (reverse_onto s.names k.entry.name []);
  placed = placed;
}

pub child_at : (layout : Layout) (path : Path) (entries : List Entry) (objects : List Object) → AreChildren layout path entries objects → (j : ℕ) (k : Object) → slice_get objects j ≡ Some k
    → (k.path ≡ path ++ k.entry.name ∷ []) × IsAt layout k
child_at layout path [] [] c j k e = absurd (cc)
child_at layout path (d ∷ entries) [] c j k e = absurd c
child_at layout path [] (o ∷ objects) c j k e = absurd c
child_at layout path (d ∷ entries) (o ∷ objects) c zero k e =
    subst (λ (x : Object). (x.path ≡ path ++ x.entry.name ∷ []) × IsAt layout x) (some_same o k e)
    (c.0 ∙ ap (λ (x : Entry). path ++ x.name ∷ []) (sym c.1), c.2)
child_at layout path (d ∷ entries) (o ∷ objects) c (suc j) k e = child_at layout path entries objects c.3 j k e

pub map_get : (at : ℕ) (objects : List Object) (j : ℕ) (k : Object) → slice_get objects j ≡ Some k → slice_get (map (new_node at) objects) j ≡ Some (new_node at k)
map_get at [] j k e = absurd (cc)
map_get at (o ∷ objects) zero k e = ap (λ (x : Object). let n : Option Node = Some (new_node at x) in n) (some_same o k e)
map_get at (o ∷ objects) (suc j) k e = map_get at objects j k e

pub length-nodes : (at : ℕ) (objects : List Object) → length (map (new_node at) objects) ≡ length objects
length-nodes at [] = refl
length-nodes at (o ∷ objects) = let r = length-nodes at objects in omega arith

pub length-set_node : (nodes : List Node) (at : ℕ) (m : Node) → length (slice_set nodes at m) ≡ length nodes
length-set_node [] at m = refl
length-set_node (n ∷ nodes) zero m = refl
length-set_node (n ∷ nodes) (suc at) m = let r = length-set_node nodes at m in omega arith

-- ---- lists of objects

pub filter-append : (xs ys : List Object) → filter is_directory_object (xs ++ ys) ≡ filter is_directory_object xs ++ filter is_directory_object ys
filter-append [] ys = refl
filter-append (x ∷ xs) ys = by (is_directory_object x) (filter-append xs ys)
  where
    by : (b : Bool) → filter is_directory_object (xs ++ ys) ≡ filter is_directory_object xs ++ filter is_directory_object ys
        → cond b (x ∷ filter is_directory_object (xs ++ ys)) (filter is_directory_object (xs ++ ys)) ≡ cond b (x ∷ filter is_directory_object xs) (filter is_directory_object xs) ++ filter is_directory_object ys
    by true f = ap (λ (os : List Object). x ∷ os) f
    by false f = f

pub drop_within : (n : ℕ) (xs ys : List Object) → n ≤ length xs → drop n (xs ++ ys) ≡ drop n xs ++ ys
drop_within zero xs ys le = refl
drop_within (suc n) [] ys le = absurd (omega arith)
drop_within (suc n) (x ∷ xs) ys le = drop_within n xs ys (omega arith)

-- an object that is no directory doesn't wait
pub waits_past : (xs : List Object) (from : ℕ) (x : Object) → slice_get xs from ≡ Some x → is_directory_object x ≡ false → waiting_from from xs ≡ waiting_from (suc from) xs
waits_past [] from x e file = absurd (cc)
waits_past (y ∷ xs) zero x e file = rw (ap is_directory_object (some_same y x e) ∙ file) refl
waits_past (y ∷ xs) (suc from) x e file = waits_past xs from x e file

-- a directory waits
pub waits_here : (xs : List Object) (at : ℕ) (x : Object) → slice_get xs at ≡ Some x → is_directory_object x ≡ true → waiting_from at xs ≡ x ∷ waiting_from (suc at) xs
waits_here [] at x e dir = absurd (cc)
waits_here (y ∷ xs) zero x e dir = rw (ap is_directory_object (some_same y x e) ∙ dir) (ap (λ (z : Object). z ∷ filter is_directory_object xs) (some_same y x e))
waits_here (y ∷ xs) (suc at) x e dir = waits_here xs at x e dir

pub none_waits : (xs : List Object) (from : ℕ) → length xs ≤ from → waiting_from from xs ≡ []
none_waits [] zero le = refl
none_waits [] (suc from) le = refl
none_waits (x ∷ xs) zero le = absurd (omega arith)
none_waits (x ∷ xs) (suc from) le = none_waits xs from (omega arith)

pub taken_by-append : (taken : List ℕ) (xs ys : List Object) → taken_by taken (xs ++ ys) ≡ taken_by (taken_by taken xs) ys
taken_by-append taken [] ys = refl
taken_by-append taken (x ∷ xs) ys = taken_by-append (x.sectors ++ taken) xs ys

pub found_more : (root : Object) (done : List Listing) (l : Listing) → found_by root (done ++ l ∷ []) ≡ found_by root done ++ l.children
found_more root done l =
    ap (λ (os : List Object). root ∷ os) (flat_map-append (λ (k : Listing). k.children) done (l ∷ []) ∙ ap (λ (os : List Object). flat_map (λ (k : Listing). k.children) done ++ os) (append-nil l.children))

pub map_last : (done : List Listing) (l : Listing) → map (λ (k : Listing). k.object) (done ++ l ∷ []) ≡ map (λ (k : Listing). k.object) done ++ l.object ∷ []
map_last [] l = refl
map_last (k ∷ done) l = ap (λ (os : List Object). k.object ∷ os) (map_last done l)

-- ---- the walk, step by step

pub step_ok : (read : Reader) (layout : Layout) (left : ℕ) (taken : List ℕ) (o : Object) (waiting : List Object) (dir : Directory) (kids : List Object) (more : List ℕ) → read o ≡ Ok dir
    → children_of layout taken o.path (entries_of dir) ≡ Ok (kids, more)
    → listings_from read layout (suc left) taken (o ∷ waiting)
    ≡ (listings_from read layout left more (waiting ++ filter is_directory_object kids) >>= λ others. Ok (record { object = o; content = dir; children = kids } ∷ others))
unfolding listings_from
step_ok read layout left taken o waiting dir kids more said held = rw (said, held) refl

pub step_fault : (read : Reader) (layout : Layout) (left : ℕ) (taken : List ℕ) (o : Object) (waiting : List Object) (f : ImageFault) → said_children layout taken o.path (read o) ≡ Err f
    → listings_from read layout (suc left) taken (o ∷ waiting) ≡ Err f
unfolding listings_from
step_fault read layout left taken o waiting f e = by (read o) refl e
  where
    by : (s : Result Directory DirFault) → read o ≡ s → said_children layout taken o.path s ≡ Err f → listings_from read layout (suc left) taken (o ∷ waiting) ≡ Err f
    by (Ok dir) h g = rw (h, g) refl
    by (Err fault) h g = rw h (ap (λ (x : ImageFault). let r : Result (List Listing) ImageFault = Err x in r) (let same : faults.Directory o.path fault ≡ f = cc in same))

pub step_none_left : (read : Reader) (layout : Layout) (taken : List ℕ) (o : Object) (waiting : List Object) → listings_from read layout zero taken (o ∷ waiting) ≡ Err (faults.Overlap o.path)
unfolding listings_from
step_none_left read layout taken o waiting = refl

pub step_end : (read : Reader) (layout : Layout) (left : ℕ) (taken : List ℕ) → listings_from read layout left taken [] ≡ Ok []
unfolding listings_from
step_end read layout zero taken = refl
step_end read layout (suc left) taken = refl

pub after_more : (done : List Listing) (l : Listing) (r : Result (List Listing) ImageFault) → after done (r >>= λ others. Ok (l ∷ others)) ≡ after (done ++ l ∷ []) r
unfolding after
after_more done l (Ok rest) = ap (λ (ls : List Listing). let r : Result (List Listing) ImageFault = Ok ls in r) (sym (append_assoc done (l ∷ []) rest))
after_more done l (Err f) = refl

pub after_fault : (done : List Listing) (f : ImageFault) → after done (Err f) ≡ Err f
unfolding after
after_fault done f = refl

pub after_end : (done : List Listing) → after done (Ok []) ≡ Ok done
unfolding after
after_end done = ap (λ (ls : List Listing). let r : Result (List Listing) ImageFault = Ok ls in r) (append-nil done)

pub after_none : (r : Result (List Listing) ImageFault) → r ≡ after [] r
unfolding after
after_none (Ok rest) = refl
after_none (Err f) = refl

pub root_step : (read : Reader) (layout : Layout) (reserved : List ℕ) (address size : ℕ) (root : Object) → object_of layout reserved [] (root_entry address (directory_size (dir_form layout) size)) ≡ Ok root
    → walk read layout reserved address size ≡ listings_from read layout (disc_sectors layout + 1) (root.sectors ++ reserved) (root ∷ [])
unfolding walk
root_step read layout reserved address size root e = rw e refl

pub root_fails : (read : Reader) (layout : Layout) (reserved : List ℕ) (address size : ℕ) (e : TreeError) → FailsAs (object_of layout reserved [] (root_entry address (directory_size (dir_form layout) size))) e
    → FailsAs (walk read layout reserved address size) e
unfolding walk
root_fails read layout reserved address size (TreeError.Image f) h = rw h refl
root_fails read layout reserved address size TreeError.DiskFault h = tt
root_fails read layout reserved address size TreeError.NoMemory h = tt
