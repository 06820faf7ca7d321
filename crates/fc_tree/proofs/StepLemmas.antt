-- Steps of a walk over directories, and its end.
use Rattle.std.proofs.Common.{◌≡◌, ◌<◌, ◌≤◌, ℕ, zero, suc, ◌+◌, ◌-◌, inl, inr, true, false, List, [], ◌∷◌, ◌++◌, length, map, drop, take, length-append, append_assoc, refl, sym, ap, ap₂, subst, ◌∙◌, arith, Some, Option}
use Rattle.std.specs.Prelude.{Contains, Result, Ok, Err, filter, reverse, slice_get, slice_set}
use Rattle.std.specs.List.{sum_by}
use Rattle.std.specs.Option.{ForSome}
use Rattle.std.proofs.lemmas.Bool.{cases_lt}
use Rattle.std.proofs.lemmas.Option.{slice_get_within}
use Rattle.fc_names.specs.Names.{Path, is_directory}
use Rattle.fc_dirs.specs.declared.Entry.{Entry}
use Rattle.fc_dirs.specs.Directory.{directory_size, entries_of}
use Rattle.fc_image.specs.declared.ImageFault.{ImageFault}
use Rattle.fc_image.specs.Layout.{Layout, dir_form, disc_sectors}
use Rattle.fc_image.specs.Walk.{Listing, Object, Reader, is_directory_object, listings_from, object_of, reader_of, root_entry, walk}
use Rattle.fc_image.specs.Laws.{Tells}
use Rattle.fc_image.specs.Edits.{Apart, AreChildren, IsAt}
use Rattle.fc_image.proofs.EditLemmas.{children_have, taken_by, Apart-append}
use Rattle.fc_tree.specs.declared.node.Body.TheVariants as bodies
use Rattle.fc_tree.specs.declared.node.Node.{Node}
use Rattle.fc_tree.specs.declared.node.TreeError.{TreeError}
use Rattle.fc_tree.specs.Calls.{directory_sectors, entry_sectors}
use Rattle.fc_tree.specs.Reads.{sectors_from, walk_sectors}
use Rattle.fc_tree.specs.Numbered.{HasBody}
use Rattle.fc_tree.specs.Taken.{AreTaken, Marks}
use Rattle.fc_tree.specs.Walking.{FailsAs, HoldsObject, IsDirectoryAt, IsFileAt, IsOverlap, IsVisited, Leads, new_node, said_children, with_body}
use Rattle.fc_tree.proofs.CallLemmas.{upto_grows, upto_more, upto_set}
use Rattle.fc_tree.proofs.SectorLemmas.{of_directory, sectors_here, sectors_of_walk, sectors_on}
use Rattle.fc_tree.proofs.ChildLemmas.{get_front, stands_more}
use Rattle.fc_tree.proofs.ClaimLemmas.{object_is}
use Rattle.fc_tree.proofs.PlaceInLists.{contains_front, contains_last, contains_more, contains_at, get_cases, get_back, get_set, some_same}
use Rattle.fc_tree.proofs.WalkingLemmas.{IsCounted, IsHeld, IsListed, IsWalking, after, found_by, waiting_from, stands_set, new_stands, child_at, map_get, length-nodes, length-set_node, filter-append, drop_within, waits_past, waits_here, taken_by-append, found_more, map_last, step_ok, step_fault, step_none_left, after_more, after_fault, after_none, root_step}

-- ---- files are passed over

pub get_there : {X : Type 0} (xs : List X) (i : ℕ) → i < length xs → (x : X) × (slice_get xs i ≡ Some x)
get_there [] i low = absurd (omega arith)
get_there (x ∷ xs) zero low = (x, refl)
get_there (x ∷ xs) (suc i) low = get_there xs i (omega arith)

-- a file's node is as if it had been read
pub past_file : (layout : Layout) (reserved : List ℕ) (address size : ℕ) (told : Option (List ℕ)) (nodes : List Node) (from left : ℕ) (marks : Marks)
    → IsWalking layout reserved address size told nodes from left marks → from < length nodes → IsFileAt nodes from → IsWalking layout reserved address size told nodes (suc from) left marks
past_file layout reserved address size told nodes from left marks w low file =
    let objects = found_by w.root w.done in
    let here = get_there objects from (let a = w.all in omega (arith, a, low)) in
    let stands = w.stand from here.0 here.1 in
    let no_dir : is_directory_object here.0 ≡ false = ap (λ (e : Entry). is_directory e.attrs) (sym stands.entry) ∙ file stands.node stands.is in
    let same : waiting_from from objects ≡ waiting_from (suc from) objects = waits_past objects from here.0 here.1 no_dir in
    record {
      root = w.root;
      done = w.done;
      taken = w.taken;
      marked = w.marked;
      low = omega (arith, low);
      root_is = w.root_is;
      all = w.all;
      stand = w.stand;
      counted = λ i o n is node.
          (let c = w.counted i o n is node in
          record {
            fresh = λ le. c.fresh (omega (arith, le));
            read = λ lt. elim (cases_lt i from) [
              | inl before ↦ c.read before
              | inr at ↦ (
                  let i_is : i ≡ from = omega (arith, lt, at) in
                  let o_is : here.0 ≡ o = some_same here.0 o (sym here.1 ∙ ap (slice_get objects) (sym i_is) ∙ is) in
                  inl (ap is_directory_object (sym o_is) ∙ no_dir, c.fresh at))
            ];
            held = c.held;
          });
      queue = ap (λ (os : List Object). map (λ (l : Listing). l.object) w.done ++ os) (sym same) ∙ w.queue;
      apart = w.apart;
      taken_is = w.taken_is;
      walks = λ read tells. w.walks read tells ∙ ap (λ (os : List Object). after w.done (listings_from read layout left w.taken os)) same;
      reads = λ read tells.
          (let more = upto_more (directory_sectors layout) nodes from stands.node stands.is in
          let none : directory_sectors layout stands.node ≡ 0 = rw (file stands.node stands.is) refl in
          let rest = ap (λ (os : List Object). sectors_from read layout left w.taken os) same in
          omega (arith, w.reads read tells, more, none, rest));
      listed = w.listed;
    }

-- all files up to a node
pub past_files : (layout : Layout) (reserved : List ℕ) (address size : ℕ) (told : Option (List ℕ)) (nodes : List Node) (from left n : ℕ) (marks : Marks)
    → IsWalking layout reserved address size told nodes from left marks → from + n ≤ length nodes → ((i : ℕ) → from ≤ i → i < from + n → IsFileAt nodes i)
    → (to : ℕ) → to ≡ from + n → IsWalking layout reserved address size told nodes to left marks
past_files layout reserved address size told nodes from left zero marks w low files to is =
    subst (λ (k : ℕ). IsWalking layout reserved address size told nodes k left marks) (let e : from ≡ to = omega (arith, is) in e) w
past_files layout reserved address size told nodes from left (suc n) marks w low files to is =
    past_files layout reserved address size told nodes (suc from) left n marks
    (past_file layout reserved address size told nodes from left marks w (omega (arith, low)) (files from (omega arith) (omega arith)))
    (omega (arith, low)) (λ i le lt. files i (omega (arith, le)) (omega (arith, lt))) to (omega (arith, is))

-- ---- a directory is visited

-- the object of a directory's node, where the walk has come to it
pub record IsNext (layout : Layout) (nodes : List Node) (root : Object) (done : List Listing) (at : ℕ) : Type 0 where
  pub object : Object
  pub is : slice_get (found_by root done) at ≡ Some object
  pub stands : HoldsObject layout nodes at object
  pub dir : is_directory_object object ≡ true
  pub waits : waiting_from at (found_by root done) ≡ object ∷ waiting_from (suc at) (found_by root done)

pub next_is : (layout : Layout) (reserved : List ℕ) (address size : ℕ) (told : Option (List ℕ)) (nodes : List Node) (at left : ℕ) (marks : Marks)
    → (w : IsWalking layout reserved address size told nodes at left marks) → at < length nodes → IsDirectoryAt nodes at → IsNext layout nodes w.root w.done at
next_is layout reserved address size told nodes at left marks w low is_dir =
    let objects = found_by w.root w.done in
    let here = get_there objects at (let a = w.all in omega (arith, a, low)) in
    let stands = w.stand at here.0 here.1 in
    let dir : is_directory_object here.0 ≡ true = ap (λ (e : Entry). is_directory e.attrs) (sym stands.entry) ∙ is_dir stands.node stands.is in
    record { object = here.0; is = here.1; stands = stands; dir = dir; waits = waits_here objects at here.0 here.1 dir }

more_body : (done : List Listing) (l : Listing) (p : Object) (n : Node) → HasBody done p n → HasBody (done ++ l ∷ []) p n
more_body done l p n (inl file) = inl file
more_body done l p n (inr (k, c, a, b)) = inr (k, contains_front done (l ∷ []) k c, a, b)

more_held : (root : Object) (done : List Listing) (l : Listing) (i : ℕ) (p : Object) (n : Node) → IsHeld root done i p n → IsHeld root (done ++ l ∷ []) i p n
more_held root done l i p n (inl top) = inl top
more_held root done l i p n (inr (k, c, a, b)) =
    inr (
      k,
      contains_front done (l ∷ []) k c,
      ap (λ (os : List Object). slice_get os n.holder) (found_more root done l) ∙ get_front (found_by root done) l.children n.holder k.object a,
      b,
    )

module _ (layout : Layout) (reserved : List ℕ) (address size : ℕ) (told : Option (List ℕ)) (nodes nodes' : List Node) (at left : ℕ) (marks marks' : Marks)
    (w : IsWalking layout reserved address size told nodes at (suc left) marks) (next : IsNext layout nodes w.root w.done at)
    (v : IsVisited layout told nodes nodes' at next.object w.taken marks') where
  abbrev objects : List Object
  objects = found_by w.root w.done

  abbrev o : Object
  o = next.object

  abbrev l : Listing
  l = record { object = next.object; content = v.dir; children = v.children }

  abbrev done' : List Listing
  done' = w.done ++ l ∷ []

  abbrev news : List Node
  news = map (new_node at) v.children

  abbrev grown : List Node
  grown = nodes ++ news

  abbrev m : Node
  m = with_body v.node v.dir

  have : AreChildren layout o.path (entries_of v.dir) v.children × Apart w.taken v.children × (taken_by w.taken v.children ≡ v.after)
  have = children_have layout w.taken o.path (entries_of v.dir) (v.children, v.after) v.held

  there : slice_get grown at ≡ Some v.node
  there = get_front nodes news at v.node v.node_is

  at_low : at < length nodes
  at_low = slice_get_within nodes at v.node v.node_is

  step_stand : (i : ℕ) (p : Object) → slice_get (found_by w.root done') i ≡ Some p → HoldsObject layout nodes' i p
  step_stand i p is =
      subst (λ (ns : List Node). HoldsObject layout ns i p) (sym v.nodes_are)
      (stands_set layout grown at v.node m there refl refl i p
      (elim (get_cases objects v.children i p (ap (λ (os : List Object). slice_get os i) (sym (found_more w.root w.done l)) ∙ is)) [
        | inl old ↦ stands_more layout nodes news i p (w.stand i p old)
        | inr kid ↦ (
            let all = w.all in
            let low = at_low in
            let is_kid = kid.1 in
            let c = child_at layout o.path (entries_of v.dir) v.children have.0 kid.0 p kid.2 in
            new_stands layout grown at i o p (stands_more layout nodes news at o next.stands)
            (get_back nodes news i kid.0 (new_node at p) (omega (arith, is_kid, all)) (map_get at v.children kid.0 p kid.2)) (omega (arith, is_kid, all, low)) c.0 c.1)
      ]))

  old_counted : (i : ℕ) (p : Object) (n : Node) → (i ≡ at → ⊥) → slice_get objects i ≡ Some p → slice_get grown i ≡ Some n → IsCounted w.root done' (suc at) i p n
  old_counted i p n other old node = elim (get_cases nodes news i n node) [
    | inl n_old ↦ (
        let c = w.counted i p n old n_old in
        record {
          fresh = λ le. c.fresh (omega (arith, le));
          read = λ lt. more_body w.done l p n (c.read (elim (cases_lt i at) [
            | inl before ↦ before
            | inr past ↦ absurd (other (omega (arith, lt, past)))
          ]));
          held = more_held w.root w.done l i p n c.held;
        })
    | inr new ↦ absurd (
        let low = slice_get_within objects i p old in
        let all = w.all in
        let is_new = new.1 in
        omega (arith, low, all, is_new))
  ]

  new_counted : (i j : ℕ) (p : Object) (n : Node) → i ≡ length objects + j → slice_get v.children j ≡ Some p → slice_get grown i ≡ Some n → IsCounted w.root done' (suc at) i p n
  new_counted i j p n i_is kid node =
      let all = w.all in
      let low = at_low in
      let same : new_node at p ≡ n = some_same (new_node at p) n (sym (get_back nodes news i j (new_node at p) (omega (arith, i_is, all)) (map_get at v.children j p kid)) ∙ node) in
      subst (λ (x : Node). IsCounted w.root done' (suc at) i p x) same (record {
        fresh = λ le. refl;
        read = λ lt. absurd (omega (arith, lt, i_is, all, low));
        held = inr (
          l,
          contains_last w.done l,
          ap (λ (os : List Object). slice_get os at) (found_more w.root w.done l) ∙ get_front objects v.children at o next.is,
          contains_at v.children j p kid,
        );
      })

  here_counted : (p : Object) (n : Node) → slice_get (found_by w.root done') at ≡ Some p → m ≡ n → IsCounted w.root done' (suc at) at p n
  here_counted p n is same =
      let p_is : o ≡ p = some_same o p (sym (ap (λ (os : List Object). slice_get os at) (found_more w.root w.done l) ∙ get_front objects v.children at o next.is) ∙ is) in
      let c = w.counted at o v.node next.is v.node_is in
      subst (λ (x : Node). IsCounted w.root done' (suc at) at p x) same (record {
        fresh = λ le. absurd (omega (arith, le));
        read = λ lt. inr (l, contains_last w.done l, p_is, refl);
        held = subst (λ (q : Object). IsHeld w.root done' at q m) p_is (more_held w.root w.done l at o m c.held);
      })

  step_counted : (i : ℕ) (p : Object) (n : Node) → slice_get (found_by w.root done') i ≡ Some p → slice_get nodes' i ≡ Some n → IsCounted w.root done' (suc at) i p n
  step_counted i p n is node =
      let node' : slice_get (slice_set grown at m) i ≡ Some n = ap (λ (ns : List Node). slice_get ns i) (sym v.nodes_are) ∙ node in
      elim (get_set grown at i v.node m there) [
        | inl here ↦ subst (λ (k : ℕ). IsCounted w.root done' (suc at) k p n) (sym here.0)
            (here_counted p n (ap (slice_get (found_by w.root done')) (sym here.0) ∙ is) (some_same m n (sym here.1 ∙ node')))
        | inr other ↦ elim (get_cases objects v.children i p (ap (λ (os : List Object). slice_get os i) (sym (found_more w.root w.done l)) ∙ is)) [
          | inl old ↦ old_counted i p n other.0 old (sym other.1 ∙ node')
          | inr kid ↦ new_counted i kid.0 p n kid.1 kid.2 (sym other.1 ∙ node')
        ]
      ]

  waits_after : waiting_from (suc at) (found_by w.root done') ≡ waiting_from (suc at) objects ++ filter is_directory_object v.children
  waits_after =
      let all = w.all in
      let low = at_low in
      ap (waiting_from (suc at)) (found_more w.root w.done l)
      ∙ ap (filter is_directory_object) (drop_within (suc at) objects v.children (omega (arith, all, low)))
      ∙ filter-append (drop (suc at) objects) v.children

  step_queue : map (λ (k : Listing). k.object) done' ++ waiting_from (suc at) (found_by w.root done') ≡ filter is_directory_object (found_by w.root done')
  step_queue =
      let front = map (λ (k : Listing). k.object) w.done in
      let rest = waiting_from (suc at) objects in
      ap₂ (λ (a b : List Object). a ++ b) (map_last w.done l) waits_after
      ∙ append_assoc front (o ∷ []) (rest ++ filter is_directory_object v.children)
      ∙ sym (append_assoc front (o ∷ rest) (filter is_directory_object v.children))
      ∙ ap (λ (os : List Object). os ++ filter is_directory_object v.children) (ap (λ (os : List Object). front ++ os) (sym next.waits) ∙ w.queue)
      ∙ sym (filter-append objects v.children)
      ∙ ap (filter is_directory_object) (sym (found_more w.root w.done l))

  step_walks : (read : Reader) → Tells read done' → walk read layout reserved address size ≡ after done' (listings_from read layout left v.after (waiting_from (suc at) (found_by w.root done')))
  step_walks read tells =
      let before : Tells read w.done = λ k c. tells k (contains_front w.done (l ∷ []) k c) in
      let here : read o ≡ Ok v.dir = tells l (contains_last w.done l) in
      w.walks read before
      ∙ ap (λ (os : List Object). after w.done (listings_from read layout (suc left) w.taken os)) next.waits
      ∙ ap (after w.done) (step_ok read layout left w.taken o (waiting_from (suc at) objects) v.dir v.children v.after here v.held)
      ∙ after_more w.done l (listings_from read layout left v.after (waiting_from (suc at) objects ++ filter is_directory_object v.children))
      ∙ ap (λ (os : List Object). after done' (listings_from read layout left v.after os)) (sym waits_after)

  step_reads : (read : Reader) → Tells read done'
      → walk_sectors read layout reserved address size ≡ sum_by (directory_sectors layout) (take (suc at) nodes') + sectors_from read layout left v.after (waiting_from (suc at) (found_by w.root done'))
  step_reads read tells =
      let before : Tells read w.done = λ k c. tells k (contains_front w.done (l ∷ []) k c) in
      let here : read o ≡ Ok v.dir = tells l (contains_last w.done l) in
      let rest = ap (λ (os : List Object). sectors_from read layout (suc left) w.taken os) next.waits
      ∙ sectors_on read layout left w.taken o (waiting_from (suc at) objects) v.dir v.children v.after here v.held
      ∙ ap (λ (os : List Object). entry_sectors layout o.entry + sectors_from read layout left v.after os) (sym waits_after) in
      let entry : m.entry ≡ o.entry = ap (λ (n : Node). n.entry) (some_same v.node next.stands.node (sym v.node_is ∙ next.stands.is)) ∙ next.stands.entry in
      let counts = of_directory layout m o entry next.dir in
      let set = upto_set (directory_sectors layout) nodes news at v.node m v.node_is in
      let sum = ap (λ (ns : List Node). sum_by (directory_sectors layout) (take (suc at) ns)) v.nodes_are in
      omega (arith, w.reads read before, rest, counts, set, sum)

  step_listed : (k : Listing) → Contains done' k → IsListed layout told k
  step_listed k c = elim (contains_more w.done l k c) [
    | Ok old ↦ w.listed k old
    | Err new ↦ subst (IsListed layout told) new (record { form = v.form; sound = v.sound; placed = next.stands.placed; tells = v.tells })
  ]

  -- the walk after it
  pub visited_on : IsWalking layout reserved address size told nodes' (suc at) left marks'
  visited_on =
      let all = w.all in
      let low = at_low in
      let grows = length-append nodes news in
      let kids = length-nodes at v.children in
      let set = length-set_node grown at m in
      let long = ap length v.nodes_are in
      let more = length-append objects v.children in
      let found = ap length (found_more w.root w.done l) in
      record {
        root = w.root;
        done = done';
        taken = v.after;
        marked = v.taken;
        low = omega (arith, low, grows, set, long);
        root_is = w.root_is;
        all = omega (arith, all, grows, kids, set, long, more, found);
        stand = step_stand;
        counted = step_counted;
        queue = step_queue;
        apart = subst (Apart reserved) (sym (found_more w.root w.done l))
            (Apart-append reserved objects v.children w.apart (subst (λ (t : List ℕ). Apart t v.children) w.taken_is have.1));
        taken_is = sym have.2 ∙ ap (λ (t : List ℕ). taken_by t v.children) w.taken_is ∙ sym (taken_by-append reserved objects v.children) ∙ ap (taken_by reserved) (sym (found_more w.root w.done l));
        walks = step_walks;
        reads = step_reads;
        listed = step_listed;
      }

-- ---- faults

module _ (layout : Layout) (reserved : List ℕ) (address size : ℕ) (told : Option (List ℕ)) (nodes : List Node) (at left : ℕ) (marks : Marks)
    (w : IsWalking layout reserved address size told nodes at left marks) (next : IsNext layout nodes w.root w.done at) (image : List ℕ) (t : told ≡ Some image) where
  so_far : walk (reader_of image layout) layout reserved address size ≡ after w.done (listings_from (reader_of image layout) layout left w.taken (next.object ∷ waiting_from (suc at) (found_by w.root w.done)))
  so_far = w.walks (reader_of image layout) (λ k c. (w.listed k c).tells image t)
      ∙ ap (λ (os : List Object). after w.done (listings_from (reader_of image layout) layout left w.taken os)) next.waits

  -- a directory's fault is the walk's
  pub visit_fails : (fuel : ℕ) → left ≡ suc fuel → (e : TreeError) → FailsAs (said_children layout w.taken next.object.path (reader_of image layout next.object)) e → FailsAs (walk (reader_of image layout) layout reserved address size) e
  visit_fails fuel is (TreeError.Image f) h =
      so_far ∙ ap (λ (n : ℕ). after w.done (listings_from (reader_of image layout) layout n w.taken (next.object ∷ waiting_from (suc at) (found_by w.root w.done)))) is
      ∙ ap (after w.done) (step_fault (reader_of image layout) layout fuel w.taken next.object (waiting_from (suc at) (found_by w.root w.done)) f h) ∙ after_fault w.done f
  visit_fails fuel is TreeError.DiskFault h = tt
  visit_fails fuel is TreeError.NoMemory h = tt

  -- so is that too many directories were read
  pub too_many : left ≡ 0 → (e : TreeError) → IsOverlap next.object.path e → FailsAs (walk (reader_of image layout) layout reserved address size) e
  too_many none (TreeError.Image f) h =
      so_far ∙ ap (λ (n : ℕ). after w.done (listings_from (reader_of image layout) layout n w.taken (next.object ∷ waiting_from (suc at) (found_by w.root w.done)))) none
      ∙ ap (after w.done) (step_none_left (reader_of image layout) layout w.taken next.object (waiting_from (suc at) (found_by w.root w.done)) ∙ ap (λ (x : ImageFault). let r : Result (List Listing) ImageFault = Err x in r) (sym h))
      ∙ after_fault w.done f
  too_many none TreeError.DiskFault h = absurd h
  too_many none TreeError.NoMemory h = tt

-- what was read so far is of the walk
pub read_so_far : (layout : Layout) (reserved : List ℕ) (address size : ℕ) (told : Option (List ℕ)) (nodes : List Node) (from left : ℕ) (marks : Marks)
    → IsWalking layout reserved address size told nodes from left marks → (start now : ℕ) → now ≤ start + sum_by (directory_sectors layout) (take from nodes)
    → ForSome told (λ image. now ≤ start + walk_sectors (reader_of image layout) layout reserved address size)
read_so_far layout reserved address size told nodes from left marks w start now few = λ image t. omega (arith, few, w.reads (reader_of image layout) (λ k c. (w.listed k c).tells image t))

-- ---- the start

pub walk_starts : (layout : Layout) (reserved : List ℕ) (address size : ℕ) (told : Option (List ℕ)) (nodes : List Node) (node : Node) (left : ℕ) (marks : Marks) → nodes ≡ node ∷ []
    → node ≡ record { holder = 0; entry = root_entry address (directory_size (dir_form layout) size); body = bodies.File } → left ≡ disc_sectors layout + 1
    → (o : Object) × (object_of layout reserved [] (root_entry address (directory_size (dir_form layout) size)) ≡ Ok o) × AreTaken marks (o.sectors ++ reserved)
    → IsWalking layout reserved address size told nodes 0 left marks
walk_starts layout reserved address size told nodes node left marks nodes_are node_is left_is found =
    let root = found.0 in
    let entry = root_entry address (directory_size (dir_form layout) size) in
    let is = object_is layout reserved [] entry root found.1 in
    let dir : is_directory_object root ≡ true = ap (λ (e : Entry). is_directory e.attrs) is.1 in
    let waits : waiting_from 0 (found_by root []) ≡ root ∷ [] = rw dir refl in
    record {
      root = root;
      done = [];
      taken = root.sectors ++ reserved;
      marked = found.2;
      low = omega arith;
      root_is = dir;
      all = ap length nodes_are;
      stand = λ i p e. subst (λ (ns : List Node). HoldsObject layout ns i p) (sym nodes_are) (only i p e is.0 is.1 is.2);
      counted = λ i p n e g. one i p n e (ap (λ (ns : List Node). slice_get ns i) (sym nodes_are) ∙ g);
      queue = refl;
      apart = (is.3, tt);
      taken_is = refl;
      walks = λ read tells. root_step read layout reserved address size root found.1 ∙ ap (λ (n : ℕ). listings_from read layout n (root.sectors ++ reserved) (root ∷ [])) (sym left_is)
          ∙ after_none (listings_from read layout left (root.sectors ++ reserved) (root ∷ []))
          ∙ ap (λ (os : List Object). after [] (listings_from read layout left (root.sectors ++ reserved) os)) (sym waits);
      reads = λ read tells.
          (let rest = sectors_of_walk read layout reserved address size root found.1 ∙ ap (λ (n : ℕ). sectors_from read layout n (root.sectors ++ reserved) (root ∷ [])) (sym left_is)
          ∙ ap (λ (os : List Object). sectors_from read layout left (root.sectors ++ reserved) os) (sym waits) in
          omega (arith, rest));
      listed = λ k c. absurd (none k c);
    }
  where
    none : (k : Listing) → Contains [] k → ⊥
    none k (i, h, e) = omega arith

    only : (i : ℕ) (o : Object) → slice_get (found.0 ∷ []) i ≡ Some o → found.0.path ≡ [] → found.0.entry ≡ root_entry address (directory_size (dir_form layout) size) → IsAt layout found.0
        → HoldsObject layout (node ∷ []) i o
    only zero p e path entry placed = subst (HoldsObject layout (node ∷ []) zero) (some_same found.0 p e)
        (record { node = node; is = refl; entry = ap (λ (n : Node). n.entry) node_is ∙ sym entry; names = []; leads = refl; path = path; placed = placed })
    only (suc i) p e path entry placed = absurd (cc)

    one : (i : ℕ) (o : Object) (n : Node) → slice_get (found.0 ∷ []) i ≡ Some o → slice_get (node ∷ []) i ≡ Some n → IsCounted found.0 [] 0 i o n
    one zero p n e g = subst (λ (x : Node). IsCounted found.0 [] 0 zero p x) (sym node_is ∙ some_same node n g)
        (record { fresh = λ le. refl; read = λ lt. absurd (omega (arith, lt)); held = inl (refl, refl) })
    one (suc i) p n e g = absurd (cc)

-- ---- what the loop over directories does

module _ (layout : Layout) (reserved : List ℕ) (address size : ℕ) (told : Option (List ℕ)) (nodes seen : List Node) (from at left : ℕ) (marks : Marks)
    (before : IsWalking layout reserved address size told nodes from left marks) (same : seen ≡ nodes)
    (some : (from ≤ at) × (at < length seen) × IsDirectoryAt seen at) (files : (i : ℕ) → from ≤ i → i < at → IsFileAt seen i) where
  -- the walk has come to the next directory
  pub come_to : (w : IsWalking layout reserved address size told nodes at left marks) × IsNext layout nodes w.root w.done at
  come_to =
      let low : at < length nodes = subst (λ (ns : List Node). at < length ns) same some.1 in
      let le = some.0 in
      let w = past_files layout reserved address size told nodes from left (at - from) marks before (omega (arith, low, le))
      (λ i from_le lt. subst (λ (ns : List Node). IsFileAt ns i) same (files i from_le (omega (arith, lt, le)))) at (omega (arith, le)) in
      (w, next_is layout reserved address size told nodes at left marks w low (subst (λ (ns : List Node). IsDirectoryAt ns at) same some.2))

  pub there_is : (o : Object) × HoldsObject layout nodes at o × (is_directory_object o ≡ true)
  there_is = let next = come_to.1 in (next.object, next.stands, next.dir)

  pub on_visited : (nodes' : List Node) (marks' : Marks) (left' to : ℕ) → left ≡ suc left' → to ≡ at + 1
      → ((o : Object) (taken : List ℕ) → HoldsObject layout nodes at o → AreTaken marks taken → IsVisited layout told nodes nodes' at o taken marks')
      → IsWalking layout reserved address size told nodes' to left' marks'
  on_visited nodes' marks' left' to is to_is visit =
      let w : IsWalking layout reserved address size told nodes at (suc left') marks = subst (λ (n : ℕ). IsWalking layout reserved address size told nodes at n marks) is come_to.0 in
      let low : at < length nodes = subst (λ (ns : List Node). at < length ns) same some.1 in
      let next = next_is layout reserved address size told nodes at (suc left') marks w low (subst (λ (ns : List Node). IsDirectoryAt ns at) same some.2) in
      subst (λ (n : ℕ). IsWalking layout reserved address size told nodes' n left' marks') (let e : suc at ≡ to = omega (arith, to_is) in e)
      (visited_on layout reserved address size told nodes nodes' at left' marks marks' w next (visit next.object w.taken next.stands w.marked))

  pub on_failed : (fuel : ℕ) (e : TreeError) → left ≡ suc fuel
      → ((o : Object) (taken : List ℕ) → HoldsObject layout nodes at o → AreTaken marks taken → ForSome told (λ image. FailsAs (said_children layout taken o.path (reader_of image layout o)) e))
      → ForSome told (λ image. FailsAs (walk (reader_of image layout) layout reserved address size) e)
  on_failed fuel e is fails = λ image t.
      (let w = come_to.0 in
      let next = come_to.1 in
      visit_fails layout reserved address size told nodes at left marks w next image t fuel is e (fails next.object w.taken next.stands w.marked image t))

  -- what was read before, and the next directory, are of the walk
  pub on_read : (fuel start old now : ℕ) → left ≡ suc fuel → old ≤ start + sum_by (directory_sectors layout) (take from nodes)
      → ((n : Node) → slice_get nodes at ≡ Some n → now ≤ old + entry_sectors layout n.entry)
      → ForSome told (λ image. now ≤ start + walk_sectors (reader_of image layout) layout reserved address size)
  on_read fuel start old now is few read = λ image t.
      (let w = come_to.0 in
      let next = come_to.1 in
      let le = some.0 in
      let grows = upto_grows (directory_sectors layout) nodes from at (omega (arith, le)) in
      let entry = ap (λ (e : Entry). entry_sectors layout e) next.stands.entry in
      let here = read next.stands.node next.stands.is in
      let waits = ap (λ (os : List Object). sectors_from (reader_of image layout) layout left w.taken os) next.waits
      ∙ ap (λ (n : ℕ). sectors_from (reader_of image layout) layout n w.taken (next.object ∷ waiting_from (suc at) (found_by w.root w.done))) is in
      let within = sectors_here (reader_of image layout) layout fuel w.taken next.object (waiting_from (suc at) (found_by w.root w.done)) in
      omega (arith, few, grows, entry, here, waits, within, w.reads (reader_of image layout) (λ k c. (w.listed k c).tells image t)))

  pub on_too_many : (e : TreeError) → left ≡ 0 → ((names : Path) → Leads nodes at names → IsOverlap (reverse names) e)
      → ForSome told (λ image. FailsAs (walk (reader_of image layout) layout reserved address size) e)
  on_too_many e none overlap = λ image t.
      (let w = come_to.0 in
      let next = come_to.1 in
      too_many layout reserved address size told nodes at left marks w next image t none e
      (subst (λ (p : Path). IsOverlap p e) (sym next.stands.path) (overlap next.stands.names next.stands.leads)))

-- an overlap is no fault of a disk
pub no_disk_fault : {A : Type 0} (path : Path) (e : TreeError) → IsOverlap path e → (let r : Result A TreeError = Err e in r) ≡ Err TreeError.DiskFault → ⊥
no_disk_fault path (TreeError.Image f) o h = cc
no_disk_fault path TreeError.DiskFault o h = o
no_disk_fault path TreeError.NoMemory o h = cc
