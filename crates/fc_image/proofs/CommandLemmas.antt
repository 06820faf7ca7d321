-- The tree after commands, by the objects.
use Rattle.std.proofs.Common.{◌≡◌, ◌<◌, ℕ, zero, suc, ◌+◌, ◌*◌, ◌/◌, ◌%◌, Bool, true, false, cond, ◌==◌, List, [], ◌∷◌, ◌++◌, map, length, take, drop, replicate, refl, sym, ap, ap₂, subst, ◌∙◌, arith, Option, Some, None, is_eq, eqb-true, eq-eqb, take_all}
use Rattle.std.specs.Prelude.{IsPermutation}
use Rattle.std.specs.Option.{option_map, option_map_or}
use Rattle.std.specs.Cmp.Lexicographic.{pointwise_decides, bytes_decides}
use Rattle.std.specs.FinMap.{get, insert, remove, get-insert, get-remove, same_map, entries, from_entries, find as value_at}
use Rattle.std.proofs.lemmas.List.{length-map}
use Rattle.std.proofs.lemmas.List.Sorted.{IsPermutation-trans, IsPermutation-sym, IsPermutation-map}
use Rattle.fc_names.specs.Names.{Path, folded, folded_path, key_cmp, is_same_path, is_directory}
use Rattle.fc_model.specs.Tree.{Node, Body, Tree, node_at, last_name, is_prefix}
use Rattle.fc_model.specs.Command.{Command}
use Rattle.fc_model.specs.Answer.{changed, moved_entry, with_words, with_attrs, with_file, with_directory, with_moved}
use Rattle.fc_image.specs.Layout.{Layout}
use Rattle.fc_image.specs.Walk.{Object, Listing, is_directory_object, object_bytes}
use Rattle.fc_image.specs.Objects.{objects_of, object_at, node_of, tree_entry, tree_of}
use Rattle.fc_image.specs.TreeEdits.{IsObjectEdit, IsMove, tree_entries, without_all}
use Rattle.fc_image.specs.Sound.{AreSound}
use Rattle.fc_image.specs.Commanded.{IsKept, IsMoved, Each, AreAt, IsFileMade, IsDirectoryMade, IsReworded, set_object, mark_object, ObjectsLaw, CommandLaw}
use Rattle.fc_image.proofs.PathsLemmas.{itself}
use Rattle.fc_image.proofs.TreeLemmas.{key_total, key_exact, folds_alike, found_shuffled, objects_few, tree_get, tree_node, edit', move'}

-- ---- nodes

file_or_not : (b b' : Bool) (bytes bytes' : List ℕ) → b' ≡ b → (b ≡ false → bytes' ≡ bytes) → cond b' Body.Directory (Body.File bytes') ≡ cond b Body.Directory (Body.File bytes)
file_or_not true b' bytes bytes' e same = ap (λ (c : Bool). cond c Body.Directory (Body.File bytes')) e
file_or_not false b' bytes bytes' e same = ap (λ (c : Bool). cond c Body.Directory (Body.File bytes')) e ∙ ap (λ (bs : List ℕ). Body.File bs) (same refl)

-- the node with another name, attributes and words
renoted : (image image' : List ℕ) (layout layout' : Layout) (o o' : Object) (name : List ℕ) (attrs load exec : ℕ) → o'.entry.name ≡ name → o'.entry.attrs ≡ attrs → o'.entry.load ≡ load → o'.entry.exec ≡ exec
    → is_directory_object o' ≡ is_directory_object o → (is_directory_object o ≡ false → object_bytes image' layout' o' ≡ object_bytes image layout o)
    → node_of image' layout' o' ≡ record (node_of image layout o) { name = name; attrs = attrs; load = load; exec = exec }
renoted image image' layout layout' o o' name attrs load exec n a l x kind bytes =
    let body = file_or_not (is_directory_object o) (is_directory_object o') (object_bytes image layout o) (object_bytes image' layout' o') kind bytes in
    λ i. record { name = n i; attrs = a i; load = l i; exec = x i; body = body i }

kept_entry : (image image' : List ℕ) (layout layout' : Layout) (o o' : Object) → IsKept image image' layout layout' o o' → tree_entry image' layout' o' ≡ tree_entry image layout o
kept_entry image image' layout layout' o o' k =
    let node = renoted image image' layout layout' o o' o.entry.name o.entry.attrs o.entry.load o.entry.exec k.name k.attrs k.load k.exec (ap is_directory k.attrs) k.bytes in
    λ i. (folded_path (k.path i), node i)

kept_entries : (image image' : List ℕ) (layout layout' : Layout) (objects objects' : List Object) → Each (IsKept image image' layout layout') objects objects'
    → tree_entries image' layout' objects' ≡ tree_entries image layout objects
kept_entries image image' layout layout' [] [] e = refl
kept_entries image image' layout layout' (o ∷ objects) [] e = absurd e
kept_entries image image' layout layout' [] (o' ∷ objects') e = absurd e
kept_entries image image' layout layout' (o ∷ objects) (o' ∷ objects') e =
    ap₂ (λ (x : Path × Node) (xs : List (Path × Node)). x ∷ xs) (kept_entry image image' layout layout' o o' e.0) (kept_entries image image' layout layout' objects objects' e.1)

-- ---- paths that begin with another

pub prefix_is : (p q : Path) → is_prefix p q ≡ true → p ≡ take (length p) q
prefix_is p q h = (pointwise_decides bytes_decides p (take (length p) q)).0 h

pub is_prefix_of : (p q : Path) → p ≡ take (length p) q → is_prefix p q ≡ true
is_prefix_of p q e = (pointwise_decides bytes_decides p (take (length p) q)).1 e

pub same_by_folds : (p q : Path) → folded_path p ≡ folded_path q → is_same_path p q ≡ true
same_by_folds p q e = subst (λ (k : Path). is_eq (key_cmp (folded_path p) k) ≡ true) e (itself p)

pub both_ways : (b c : Bool) → (b ≡ true → c ≡ true) → (c ≡ true → b ≡ true) → b ≡ c
both_ways true c f g = sym (f refl)
both_ways false true f g = g refl
both_ways false false f g = refl

-- of the paths that begin with a path it is the one of its length
pub same_of_length : (from path : Path) → is_prefix (folded_path from) (folded_path path) ≡ true → is_same_path from path ≡ (length (folded_path path) == length from)
same_of_length from path h =
    both_ways (is_same_path from path) (length (folded_path path) == length from)
    (λ same. eq-eqb (length (folded_path path)) (length from) (sym (ap (λ (p : Path). length p) (folds_alike from path same)) ∙ length-map from folded))
    (λ long.
    let n : length (folded_path from) ≡ length (folded_path path) = length-map from folded ∙ sym (eqb-true (length (folded_path path)) (length from) long) in
    same_by_folds from path (prefix_is (folded_path from) (folded_path path) h ∙ ap (λ (k : ℕ). take k (folded_path path)) n ∙ take_all (length (folded_path path)) (folded_path path) (omega arith)))

-- a path that doesn't begin with it is another
pub other_path : (from path : Path) → is_prefix (folded_path from) (folded_path path) ≡ false → is_same_path from path ≡ false
other_path from path h = both_ways (is_same_path from path) false (λ same.
    let folds = folds_alike from path same in
    let begins : is_prefix (folded_path from) (folded_path path) ≡ true =
    is_prefix_of (folded_path from) (folded_path path) (folds ∙ sym (take_all (length (folded_path from)) (folded_path path) (let n = ap (λ (p : Path). length p) folds in omega (arith, n)))) in
    sym h ∙ begins) (λ no'. absurd (cc))

pub map_both : (f : List ℕ → List ℕ) (xs ys : Path) → map f (xs ++ ys) ≡ map f xs ++ map f ys
map_both f [] ys = refl
map_both f (x ∷ xs) ys = ap (λ (zs : Path). f x ∷ zs) (map_both f xs ys)

map_behind : (f : List ℕ → List ℕ) (n : ℕ) (xs : Path) → map f (drop n xs) ≡ drop n (map f xs)
map_behind f zero xs = refl
map_behind f (suc n) [] = refl
map_behind f (suc n) (x ∷ xs) = map_behind f n xs

moved_entry' : (from to : Path) (image image' : List ℕ) (layout layout' : Layout) (o o' : Object) → IsMoved from to image image' layout layout' o o'
    → tree_entry image' layout' o' ≡ moved_entry from to (tree_entry image layout o)
moved_entry' from to image image' layout layout' o o' m = by (is_prefix (folded_path from) (folded_path o.path)) refl
  where
    key : Path
    key = folded_path o.path

    node : Node
    node = node_of image layout o

    other_name : (same : Bool) → is_same_path from o.path ≡ same → node_of image' layout' o' ≡ cond same (record node { name = last_name to }) node
    other_name true h =
        renoted image image' layout layout' o o' (last_name to) o.entry.attrs o.entry.load o.entry.exec
        (m.name ∙ ap (λ (b : Bool). cond b (last_name to) o.entry.name) h) m.attrs m.load m.exec (ap is_directory m.attrs) m.bytes
    other_name false h =
        renoted image image' layout layout' o o' o.entry.name o.entry.attrs o.entry.load o.entry.exec
        (m.name ∙ ap (λ (b : Bool). cond b (last_name to) o.entry.name) h) m.attrs m.load m.exec (ap is_directory m.attrs) m.bytes

    by : (b : Bool) → is_prefix (folded_path from) key ≡ b
        → tree_entry image' layout' o' ≡ cond b (folded_path to ++ drop (length from) key, cond (length key == length from) (record node { name = last_name to }) node) (key, node)
    by true h =
        let path : folded_path o'.path ≡ folded_path to ++ drop (length from) key =
        ap folded_path (m.path ∙ ap (λ (b : Bool). cond b (to ++ drop (length from) o.path) o.path) h)
        ∙ map_both folded to (drop (length from) o.path) ∙ ap (λ (p : Path). folded_path to ++ p) (map_behind folded (length from) o.path) in
        let now = other_name (length key == length from) (same_of_length from o.path h) in
        λ i. (path i, now i)
    by false h =
        let path : folded_path o'.path ≡ key = ap folded_path (m.path ∙ ap (λ (b : Bool). cond b (to ++ drop (length from) o.path) o.path) h) in
        let now = other_name false (other_path from o.path h) in
        λ i. (path i, now i)

moved_entries : (from to : Path) (image image' : List ℕ) (layout layout' : Layout) (objects objects' : List Object) → Each (IsMoved from to image image' layout layout') objects objects'
    → tree_entries image' layout' objects' ≡ map (moved_entry from to) (tree_entries image layout objects)
moved_entries from to image image' layout layout' [] [] e = refl
moved_entries from to image image' layout layout' (o ∷ objects) [] e = absurd e
moved_entries from to image image' layout layout' [] (o' ∷ objects') e = absurd e
moved_entries from to image image' layout layout' (o ∷ objects) (o' ∷ objects') e =
    ap₂ (λ (x : Path × Node) (xs : List (Path × Node)). x ∷ xs) (moved_entry' from to image image' layout layout' o o' e.0) (moved_entries from to image image' layout layout' objects objects' e.1)

moved' : (from to : Path) (image image' : List ℕ) (layout layout' : Layout) (listings listings' : List Listing) (objects objects' : List Object)
    → AreSound layout listings → AreSound layout' listings'
    → IsPermutation (objects_of listings) objects → IsPermutation (objects_of listings') objects' → Each (IsMoved from to image image' layout layout') objects objects'
    → IsMove image image' layout layout' listings listings' from to
moved' from to image image' layout layout' listings listings' objects objects' before after had has each = record {
  before = before;
  after = after;
  moved =
      IsPermutation-trans (map (moved_entry from to) (tree_entries image layout (objects_of listings))) (map (moved_entry from to) (tree_entries image layout objects)) (tree_entries image' layout' (objects_of listings'))
      (IsPermutation-map (moved_entry from to) (tree_entries image layout (objects_of listings)) (tree_entries image layout objects) (IsPermutation-map (tree_entry image layout) (objects_of listings) objects had))
      (subst (λ (es : List (Path × Node)). IsPermutation es (tree_entries image' layout' (objects_of listings'))) (moved_entries from to image image' layout layout' objects objects' each)
      (IsPermutation-sym (tree_entries image' layout' (objects_of listings')) (tree_entries image' layout' objects')
      (IsPermutation-map (tree_entry image' layout') (objects_of listings') objects' has)));
}

-- ---- objects with other words

eighth : (a n : ℕ) → n < 8 → (a * 8 + n) / 8 ≡ a
eighth a n low = omega (arith, low)

one_bit : (a b n : ℕ) → n < 8 → (a * 16 + 8 * (b % 2) + n) / 8 % 2 ≡ b % 2
one_bit a b n low = omega (arith, low)

set_kind' : (path : Path) (load exec access : ℕ) (o : Object) → access < 8 → is_directory_object (set_object path load exec access o) ≡ is_directory_object o
set_kind' path load exec access o low = by (is_same_path path o.path)
  where
    by : (b : Bool) → is_directory_object (cond b (record o { entry = record o.entry { load = load; exec = exec; attrs = o.entry.attrs / 8 * 8 + access } }) o) ≡ is_directory_object o
    by true = ap (λ (n : ℕ). n % 2 == 1) (eighth (o.entry.attrs / 8) access low)
    by false = refl

mark_kind' : (path : Path) (attrs : ℕ) (o : Object) → is_directory_object (mark_object path attrs o) ≡ is_directory_object o
mark_kind' path attrs o = by (is_same_path path o.path)
  where
    by : (b : Bool) → is_directory_object (cond b (record o { entry = record o.entry { attrs = attrs / 16 * 16 + 8 * (o.entry.attrs / 8 % 2) + attrs % 8 } }) o) ≡ is_directory_object o
    by true = ap (λ (n : ℕ). n == 1) (one_bit (attrs / 16) (o.entry.attrs / 8) (attrs % 8) (let low : attrs % 8 < 8 = omega arith in low))
    by false = refl

pub objects_law : ObjectsLaw
objects_law = record { kept = kept_entries; moved = moved'; set_kind = set_kind'; mark_kind = mark_kind' }

-- ---- commands

-- what was at the path before counts for nothing, where another node is put there
insert_over : (t : Tree) (path : Path) (node : Node) (gone : List Object) → AreAt path gone
    → insert (without_all t (map (λ o. folded_path o.path) gone)) (folded_path path) node ≡ insert t (folded_path path) node
insert_over t path node gone are =
    same_map key_total key_exact (insert (without_all t (map (λ o. folded_path o.path) gone)) (folded_path path) node) (insert t (folded_path path) node)
    (λ q. get-insert key_total (without_all t (map (λ o. folded_path o.path) gone)) (folded_path path) node q ∙ by q (is_eq (key_cmp q (folded_path path))) refl
    ∙ sym (get-insert key_total t (folded_path path) node q))
  where
    left : (s : Tree) (q : Path) (objects : List Object) → AreAt path objects → is_eq (key_cmp q (folded_path path)) ≡ false → get (without_all s (map (λ o. folded_path o.path) objects)) q ≡ get s q
    left s q [] a h = refl
    left s q (o ∷ objects) a h =
        left (remove s (folded_path o.path)) q objects a.1 h ∙ get-remove key_total s (folded_path o.path) q
        ∙ ap (λ (b : Bool). cond b None (get s q)) (ap (λ (k : Path). is_eq (key_cmp q k)) (sym (folds_alike path o.path a.0)) ∙ h)

    by : (q : Path) (b : Bool) → is_eq (key_cmp q (folded_path path)) ≡ b → cond b (Some node) (get (without_all t (map (λ o. folded_path o.path) gone)) q) ≡ cond b (Some node) (get t q)
    by q true h = refl
    by q false h = left t q gone are h

module _ (image image' : List ℕ) (layout layout' : Layout) (listings listings' : List Listing) where
  abbrev old : Tree
  old = tree_of image layout listings

  abbrev new : Tree
  new = tree_of image' layout' listings'

  -- an object comes to a path
  come_at : (path : Path) (gone : List Object) (o : Object) (node : Node) → IsObjectEdit image image' layout layout' listings listings' gone (o ∷ [])
      → AreAt path gone → is_same_path path o.path ≡ true → node_of image' layout' o ≡ node → new ≡ insert old (folded_path path) node
  come_at path gone o node e are here is =
      edit' image image' layout layout' listings listings' gone (o ∷ []) e
      ∙ ap₂ (λ (k : Path) (n : Node). insert (without_all old (map (λ p. folded_path p.path) gone)) k n) (sym (folds_alike path o.path here)) is
      ∙ insert_over old path node gone are

  of_node : {A : Type 0} (field : Node → A) (field' : Object → A) → ((p : Object) → field (node_of image layout p) ≡ field' p) → (path : Path) (d : A)
      → option_map_or field' (object_at listings path) d ≡ option_map_or field (node_at old path) d
  of_node {A} field field' same path d = by (object_at listings path) ∙ ap (λ (r : Option Node). option_map_or field r d) (sym (tree_node image layout listings path))
    where
      by : (r : Option Object) → option_map_or field' r d ≡ option_map_or field (option_map (node_of image layout) r) d
      by None = refl
      by (Some p) = sym (same p)

  made : (path : Path) (load exec : ℕ) (bytes : List ℕ) (gone : List Object) (o : Object) → IsObjectEdit image image' layout layout' listings listings' gone (o ∷ [])
      → AreAt path gone → IsFileMade image' layout' listings path load exec bytes o → new ≡ with_file old path load exec bytes
  made path load exec bytes gone o e are m =
      come_at path gone o
      (record {
        name = option_map_or (λ n. n.name) (node_at old path) (last_name path);
        attrs = option_map_or (λ n. n.attrs) (node_at old path) 3;
        load = load;
        exec = exec;
        body = Body.File bytes;
      }) e are m.at_path
      (let name = m.name ∙ of_node (λ (n : Node). n.name) (λ (p : Object). p.entry.name) (λ p. refl) path (last_name path) in
      let attrs = m.attrs ∙ of_node (λ (n : Node). n.attrs) (λ (p : Object). p.entry.attrs) (λ p. refl) path 3 in
      let body : cond (is_directory_object o) Body.Directory (Body.File (object_bytes image' layout' o)) ≡ Body.File bytes =
      ap (λ (b : Bool). cond b Body.Directory (Body.File (object_bytes image' layout' o))) m.file ∙ ap (λ (bs : List ℕ). Body.File bs) m.content in
      λ i. record { name = name i; attrs = attrs i; load = m.load_word i; exec = m.exec_word i; body = body i })

  made_directory : (path : Path) (o : Object) → IsObjectEdit image image' layout layout' listings listings' [] (o ∷ []) → IsDirectoryMade path o → new ≡ with_directory old path
  made_directory path o e m =
      come_at path [] o (record { name = last_name path; attrs = 8; load = 0; exec = 0; body = Body.Directory }) e tt m.at_path
      (let body : cond (is_directory_object o) Body.Directory (Body.File (object_bytes image' layout' o)) ≡ Body.Directory =
      ap (λ (a : ℕ). cond (is_directory a) Body.Directory (Body.File (object_bytes image' layout' o))) m.attrs in
      λ i. record { name = m.name i; attrs = m.attrs i; load = m.load i; exec = m.exec i; body = body i })

  gone_from : (path : Path) (o : Object) → IsObjectEdit image image' layout layout' listings listings' (o ∷ []) [] → is_same_path path o.path ≡ true → new ≡ remove old (folded_path path)
  gone_from path o e here = edit' image image' layout layout' listings listings' (o ∷ []) [] e ∙ ap (λ (k : Path). remove old k) (sym (folds_alike path o.path here))

  -- what stood at the path is the object that goes
  stood : (path : Path) (o : Object) (come : List Object) → IsObjectEdit image image' layout layout' listings listings' (o ∷ []) come → is_same_path path o.path ≡ true
      → node_at old path ≡ Some (node_of image layout o)
  stood path o come e here =
      tree_get image layout listings (folded_path path)
      ∙ sym ((found_shuffled (folded_path path) (tree_entries image layout (objects_of listings)) (tree_entries image layout (o ∷ e.kept))
      (IsPermutation-map (tree_entry image layout) (objects_of listings) (o ∷ e.kept) e.had)).1 (objects_few image layout listings e.before (folded_path path)))
      ∙ ap (λ (b : Bool). cond b (Some (node_of image layout o)) (value_at key_cmp (folded_path path) (tree_entries image layout e.kept))) here

  reworded : (path : Path) (attrs load exec : ℕ) (o o' : Object) → IsObjectEdit image image' layout layout' listings listings' (o ∷ []) (o' ∷ [])
      → IsReworded image image' layout layout' path attrs load exec o o'
      → new ≡ insert old (folded_path path) (record (node_of image layout o) { attrs = attrs; load = load; exec = exec })
  reworded path attrs load exec o o' e r =
      come_at path (o ∷ []) o' (record (node_of image layout o) { attrs = attrs; load = load; exec = exec }) e (r.was_at, tt) r.at_path
      (renoted image image' layout layout' o o' o.entry.name attrs load exec r.name r.attrs_now r.load_now r.exec_now r.kind r.bytes)

  set_words : (path : Path) (load exec access : ℕ) (o o' : Object) → IsObjectEdit image image' layout layout' listings listings' (o ∷ []) (o' ∷ [])
      → IsReworded image image' layout layout' path (o.entry.attrs / 8 * 8 + access) load exec o o' → new ≡ changed old (Command.Set path load exec access)
  set_words path load exec access o o' e r =
      reworded path (o.entry.attrs / 8 * 8 + access) load exec o o' e r
      ∙ sym (ap (λ (n : Option Node). option_map_or (λ node. insert old (folded_path path) (with_words load exec access node)) n old) (stood path o (o' ∷ []) e r.was_at))

  set_attrs : (path : Path) (attrs : ℕ) (o o' : Object) → IsObjectEdit image image' layout layout' listings listings' (o ∷ []) (o' ∷ [])
      → IsReworded image image' layout layout' path (attrs / 16 * 16 + 8 * (o.entry.attrs / 8 % 2) + attrs % 8) o.entry.load o.entry.exec o o' → new ≡ changed old (Command.Mark path attrs)
  set_attrs path attrs o o' e r =
      reworded path (attrs / 16 * 16 + 8 * (o.entry.attrs / 8 % 2) + attrs % 8) o.entry.load o.entry.exec o o' e r
      ∙ sym (ap (λ (n : Option Node). option_map_or (λ node. insert old (folded_path path) (with_attrs attrs node)) n old) (stood path o (o' ∷ []) e r.was_at))

-- what moves, by the folded paths, the length of the one and the last name of the other
abbrev moved_by : Path → Path → ℕ → List ℕ → Path × Node → Path × Node
moved_by key key' n name e =
    cond (is_prefix key e.0) (key' ++ drop n e.0, cond (length e.0 == n) (record e.1 { name = name }) e.1) e

respelled : (t : Tree) (from to from' to' : Path) → is_same_path from from' ≡ true → is_same_path to to' ≡ true → last_name to ≡ last_name to' → with_moved t from' to' ≡ with_moved t from to
respelled t from to from' to' same same' last =
    let source = folds_alike from from' same in
    let target = folds_alike to to' same' in
    let long : length from ≡ length from' = sym (length-map from folded) ∙ ap (λ (q : Path). length q) source ∙ length-map from' folded in
    λ i. from_entries (map (moved_by (sym source i) (sym target i) (sym long i) (sym last i)) (entries t))

moves : (image image' : List ℕ) (layout layout' : Layout) (listings listings' : List Listing) (from to from' to' : Path)
    → IsMove image image' layout layout' listings listings' from' to'
    → is_same_path from from' ≡ true → is_same_path to to' ≡ true → last_name to ≡ last_name to'
    → tree_of image' layout' listings' ≡ changed (tree_of image layout listings) (Command.Rename from to)
moves image image' layout layout' listings listings' from to from' to' m same same' last =
    move' image image' layout layout' listings listings' from' to' m ∙ respelled (tree_of image layout listings) from to from' to' same same' last

pub command_law : CommandLaw
command_law = record {
  save = made;
  create = λ image image' layout layout' listings listings' path load exec len. made image image' layout layout' listings listings' path load exec (replicate len 0);
  cdir = made_directory;
  delete = gone_from;
  set = set_words;
  mark = set_attrs;
  rename = moves;
}
