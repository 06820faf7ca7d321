-- What is found and counted among nodes by rising paths is so in the tree.
use Rattle.std.proofs.Common.{◌≡◌, ◌<◌, ⊎_elim, ℕ, zero, suc, ◌+◌, Bool, true, false, not, cond, ◌&&◌, ◌||◌, List, [], ◌∷◌, ◌++◌, length, map, drop, filter, fold, refl, sym, ap, ap₂, subst, ◌∙◌, Option, Some, None, arith, append_assoc, length-append}
use Rattle.std.specs.Prelude.{All, Contains, IsPermutation, IsSome, IsSortedByKey, option_map, slice_index_or, if◌then◌else◌}
use Rattle.std.specs.List.{count_by}
use Rattle.std.specs.Option.{ForSome, is_some, option_and_then, option_map_or}
use Rattle.std.specs.Ordering.{nat_cmp}
use Rattle.std.specs.FinMap.{FinMap, entries, entries_sorted, get-entries}
use Rattle.std.proofs.lemmas.List.{length-map}
use Rattle.std.proofs.lemmas.List.Elements.{All-contains_itself, All-map}
use Rattle.std.proofs.lemmas.List.Sorted.{Contains-permutation, IsPermutation-sym, length_permutation}
use Rattle.fc_names.specs.declared.name.NameForm.{NameForm}
use Rattle.fc_names.specs.Names.{Path, folded_path, is_directory, is_writable, key_cmp}
use Rattle.fc_dirs.specs.declared.Entry.{Entry}
use Rattle.fc_dirs.specs.Directory.{entries_of}
use Rattle.fc_model.specs.Tree.{Node as Model, Tree, children, is_directory_body, node_at}
use Rattle.fc_image.specs.Layout.{Layout}
use Rattle.fc_image.specs.Sound.{AreSound}
use Rattle.fc_image.specs.Walk.{Listing, Object, is_directory_object}
use Rattle.fc_image.specs.Objects.{listing_at, node_of, objects_of, tree_entry, tree_of}
use Rattle.fc_image.proofs.EntriesLemmas.{cases as contains_cases, later as contains_later}
use Rattle.fc_format.specs.declared.Format.{Format}
use Rattle.fc_tree.specs.declared.node.Body.{Body}
use Rattle.fc_tree.specs.declared.node.Node.{Node}
use Rattle.fc_tree.specs.Nodes.{HoldObjects, body_of}
use Rattle.fc_tree.proofs.MemberLemmas.{contains_here, from_map, in_filter, no_element}
use Rattle.fc_tree.proofs.WalkedLemmas.{directories_listed, root_and_held}
use Rattle.fc_fit.specs.declared.fit.Misfit.{Misfit}
use Rattle.fc_fit.specs.declared.fit.What.{What}
use Rattle.fc_fit.specs.declared.fit.What.TheVariants as whats
use Rattle.fc_fit.specs.Counts.{counts_of, is_directory_in, tree_counts}
use Rattle.fc_fit.specs.Fit.{are_names_right, at_entry, first_fault, form_of, is_attrs_right, is_below_root, name_fault, object_fault, spelled_key, unfit}
use Rattle.fc_fit.specs.Fit as trees
use Rattle.fc_fit.specs.Found.{AllLead, entries_in, node_in}
use Rattle.fc_fit.specs.Misfits.{at_number, entry_fault, first_from, first_misfit, names_of}
use Rattle.fc_fit.specs.Misfits as misfits
use Rattle.fc_fit.specs.Paths.{AreRisingPaths}
use Rattle.fc_fit.specs.Rising.{RisingLaw, TellTree, misfit_in}
use Rattle.fc_fit.proofs.FoundLemmas.{entries_of_listing, node_of_object}
use Rattle.fc_fit.proofs.ListedLemmas.{names_right}
use Rattle.fc_fit.proofs.RisingLemmas.{body_test, entries_are, lifted, marked, node_there, spelled_are, spelled_of, tree_is}
use Rattle.fc_fit.proofs.TreeLemmas.{cut_first}

-- what stands after a front
index_behind : (front : List Path) (path : Path) (rest : List Path) → slice_index_or (front ++ path ∷ rest) (length front) [] ≡ path
index_behind [] path rest = refl
index_behind (p ∷ front) path rest = index_behind front path rest

-- ---- bounds

bounded : (nodes : FinMap nat_cmp Node) (fault : Node → Option What) (n : ℕ) (paths : List Path) (m : Misfit) → first_from nodes fault n paths ≡ Some m → m.at < n + length paths
bounded nodes fault n [] m is = absurd (cc)
bounded nodes fault n (path ∷ paths) m is = by (option_and_then fault (node_in nodes path)) is (λ later. bounded nodes fault (n + 1) paths m later)
  where
    by : (o : Option What) → at_number n o (first_from nodes fault (n + 1) paths) ≡ Some m → (first_from nodes fault (n + 1) paths ≡ Some m → m.at < n + 1 + length paths)
        → m.at < n + length (path ∷ paths)
    by None later more = let b = more later in omega (arith, b)
    by (Some what) here more =
        let same : n ≡ m.at = ap (λ (o : Option Misfit). option_map_or (λ (x : Misfit). x.at) o 0) here in
        omega (arith, same)

both_bounded : (nodes : FinMap nat_cmp Node) (f g : Node → Option What) (paths : List Path) (m : Misfit)
    → misfits.or_later (first_from nodes f 1 (drop 1 paths)) (first_from nodes g 0 paths) ≡ Some m → m.at < length paths
both_bounded nodes f g [] m is = absurd (cc)
both_bounded nodes f g (path ∷ paths) m is = by (first_from nodes f 1 paths) refl is
  where
    by : (o : Option Misfit) → first_from nodes f 1 paths ≡ o → misfits.or_later o (first_from nodes g 0 (path ∷ paths)) ≡ Some m → m.at < length (path ∷ paths)
    by None e later = let b = bounded nodes g 0 (path ∷ paths) m later in omega (arith, b)
    by (Some x) e here = let b = bounded nodes f 1 paths m (e ∙ here) in omega (arith, b)

-- ---- nothing is found

none_first : (n : ℕ) (o : Option What) (later : Option Misfit) → at_number n o later ≡ None → (o ≡ None) × (later ≡ None)
none_first n None later is = (refl, is)
none_first n (Some what) later is = absurd (cc)

none_faulty : (nodes : FinMap nat_cmp Node) (fault : Node → Option What) (n : ℕ) (paths : List Path) → first_from nodes fault n paths ≡ None → (path : Path) → Contains paths path
    → option_and_then fault (node_in nodes path) ≡ None
none_faulty nodes fault n [] is path at = absurd (no_element path at)
none_faulty nodes fault n (p ∷ paths) is path at =
    let both = none_first n (option_and_then fault (node_in nodes p)) (first_from nodes fault (n + 1) paths) is in
    ⊎_elim (λ same. ap (λ (q : Path). option_and_then fault (node_in nodes q)) (sym same) ∙ both.0) (λ later. none_faulty nodes fault (n + 1) paths both.1 path later) (contains_cases p path paths at)

right_attrs : (form : NameForm) (node : Node) → entry_fault form node ≡ None → is_attrs_right form node.entry.attrs ≡ true
right_attrs form node none = by (is_writable form node.entry.name) (is_attrs_right form node.entry.attrs) none
  where
    by : (w a : Bool) → (if not w then Some whats.Name else if not a then Some whats.Attributes else None) ≡ None → a ≡ true
    by true true e = refl
    by true false e = absurd (cc)
    by false a e = absurd (cc)

all_right : (nodes : FinMap nat_cmp Node) (form : NameForm) (n : ℕ) (paths : List Path) → first_from nodes (entry_fault form) n paths ≡ None
    → All (λ path. ForSome (node_in nodes path) (λ node. is_attrs_right form node.entry.attrs ≡ true)) paths
all_right nodes form n paths none k d below node is =
    right_attrs form node
    (sym (ap (option_and_then (entry_fault form)) is) ∙ none_faulty nodes (entry_fault form) n paths none (slice_index_or paths k d) (All-contains_itself paths k d below))

none_of_first : (a b : Option Misfit) → misfits.or_later a b ≡ None → a ≡ None
none_of_first None b is = refl
none_of_first (Some m) b is = absurd (cc)

-- ---- counts

count_same : (p : Path → Bool) (q : Path × Model → Bool) (entry : Object → Path × Model) (os : List Object) (a : ℕ) → ((o : Object) → Contains os o → p o.path ≡ q (entry o))
    → fold (λ (n : ℕ) (x : Path). n + cond (p x) 1 0) a (map (λ (o : Object). o.path) os) ≡ fold (λ (n : ℕ) (e : Path × Model). n + cond (q e) 1 0) a (map entry os)
count_same p q entry [] a alike = refl
count_same p q entry (o ∷ os) a alike =
    ap (λ (b : Bool). fold (λ (n : ℕ) (x : Path). n + cond (p x) 1 0) (a + cond b 1 0) (map (λ (o : Object). o.path) os)) (alike o (contains_here o os))
    ∙ count_same p q entry os (a + cond (q (entry o)) 1 0) (λ x at. alike x (contains_later o x os at))

-- ---- the first of two

split_misfit : (paths : List Path) (a b : Option Misfit) → trees.or_later (misfit_in paths a) (misfit_in paths b) ≡ misfit_in paths (misfits.or_later a b)
split_misfit paths None b = refl
split_misfit paths (Some m) b = refl

module _ (image : List ℕ) (layout : Layout) (listings : List Listing) (held_nodes : FinMap nat_cmp Node) (sound : AreSound layout listings) (held : HoldObjects held_nodes listings) where
  abbrev t : Tree
  t = tree_of image layout listings

  abbrev Own : Object → Type 0
  Own o = (node : Node) × (node_in held_nodes o.path ≡ Some node) × (node.entry ≡ o.entry) × (node.body ≡ body_of (listing_at listings o.path))

  own : (o : Object) → Contains (objects_of listings) o → Own o
  own o at = node_of_object layout listings held_nodes sound held o at

  spelled : (o : Object) → Contains (objects_of listings) o → spelled_key t (folded_path o.path) ≡ o.path
  spelled o at = spelled_of image layout listings sound (length o.path) o at refl

  -- the first fault among objects, by the tree and by nodes
  faults_same : (f : Path × Model → Option What) (g : Node → Option What) (front : List Path) (os : List Object) → ((o : Object) → Contains os o → Contains (objects_of listings) o)
      → ((o : Object) → Contains os o → f (tree_entry image layout o) ≡ option_and_then g (node_in held_nodes o.path))
      → first_fault t f (map (tree_entry image layout) os) ≡ misfit_in (front ++ map (λ (o : Object). o.path) os) (first_from held_nodes g (length front) (map (λ (o : Object). o.path) os))
  faults_same f g front [] among alike = refl
  faults_same f g front (o ∷ os) among alike =
      ap (λ (w : Option What). at_entry (spelled_key t (folded_path o.path)) w (first_fault t f (map (tree_entry image layout) os))) (alike o (contains_here o os))
      ∙ by (option_and_then g (node_in held_nodes o.path))
      (faults_same f g (front ++ o.path ∷ []) os (λ x at. among x (contains_later o x os at)) (λ x at. alike x (contains_later o x os at))
      ∙ ap₂ (λ (ps : List Path) (n : ℕ). misfit_in ps (first_from held_nodes g n (map (λ (x : Object). x.path) os))) (append_assoc front (o.path ∷ []) (map (λ (x : Object). x.path) os))
      (length-append front (o.path ∷ [])))
    where
      paths : List Path
      paths = map (λ (o : Object). o.path) os

      by : (w : Option What) → first_fault t f (map (tree_entry image layout) os) ≡ misfit_in (front ++ o.path ∷ paths) (first_from held_nodes g (length front + 1) paths)
          → at_entry (spelled_key t (folded_path o.path)) w (first_fault t f (map (tree_entry image layout) os))
          ≡ misfit_in (front ++ o.path ∷ paths) (at_number (length front) w (first_from held_nodes g (length front + 1) paths))
      by None more = more
      by (Some what) more =
          ap (λ (p : Path). let r : Option (Path × What) = Some (p, what) in r) (spelled o (among o (contains_here o os)) ∙ sym (index_behind front o.path paths))

  -- names and attributes
  names_same : (form : NameForm) (o : Object) → Contains (objects_of listings) o → object_fault form (node_of image layout o) ≡ option_and_then (entry_fault form) (node_in held_nodes o.path)
  names_same form o at =
      let n = own o at in
      ap (λ (e : Entry). name_fault form e.name e.attrs) (sym n.2) ∙ ap (option_and_then (entry_fault form)) (sym n.1)

  -- a directory's listing
  listing_for : (o : Object) → Contains (objects_of listings) o → is_directory_object o ≡ true → (l : Listing) × Contains listings l × (l.object ≡ o)
  listing_for o at dir =
      from_map (λ (l : Listing). l.object) listings o
      (subst (λ (os : List Object). Contains os o) (directories_listed layout listings sound) (in_filter is_directory_object (objects_of listings) o at dir))

  -- entries
  entries_same : (form : NameForm) (o : Object) → Contains (objects_of listings) o
      → trees.entries_fault form t (tree_entry image layout o) ≡ option_and_then (misfits.entries_fault form) (node_in held_nodes o.path)
  entries_same form o at = by (is_directory_object o) refl ∙ ap (option_and_then (misfits.entries_fault form)) (sym (own o at).1)
    where
      node : Node
      node = (own o at).0

      attrs : is_directory node.entry.attrs ≡ is_directory_object o
      attrs = ap (λ (e : Entry). is_directory e.attrs) (own o at).2

      by : (b : Bool) → is_directory_object o ≡ b → trees.entries_fault form t (tree_entry image layout o) ≡ misfits.entries_fault form node
      by false file =
          ap (λ (b : Bool). if b && not (are_names_right form o.entry.name (map (λ c. c.1.name) (children t (folded_path o.path)))) then Some whats.Entries else None) (body_test image layout o ∙ file)
          ∙ ap (λ (b : Bool). if not b || are_names_right form node.entry.name (names_of (entries_in node.body)) then None else Some whats.Entries) (sym (attrs ∙ file))
      by true dir =
          ap (λ (b : Bool). if b && not (are_names_right form o.entry.name (map (λ c. c.1.name) (children t (folded_path o.path)))) then Some whats.Entries else None) (body_test image layout o ∙ dir)
          ∙ ap (λ (b : Bool). if not b then Some whats.Entries else None) right
          ∙ turn (are_names_right form node.entry.name (names_of (entries_in node.body)))
          ∙ ap (λ (b : Bool). if not b || are_names_right form node.entry.name (names_of (entries_in node.body)) then None else Some whats.Entries) (sym (attrs ∙ dir))
        where
          l : (l : Listing) × Contains listings l × (l.object ≡ o)
          l = listing_for o at dir

          listed : entries_in node.body ≡ entries_of l.0.content
          listed = entries_of_listing layout listings held_nodes sound held l.0 node l.1 ((own o at).3 ∙ ap (λ (x : Object). body_of (listing_at listings x.path)) (sym l.2))

          right : are_names_right form o.entry.name (map (λ c. c.1.name) (children t (folded_path o.path))) ≡ are_names_right form node.entry.name (names_of (entries_in node.body))
          right =
              ap (λ (x : Object). are_names_right form o.entry.name (map (λ c. c.1.name) (children t (folded_path x.path)))) (sym l.2)
              ∙ names_right image layout listings sound l.0 l.1 form o.entry.name
              ∙ ap₂ (λ (own : List ℕ) (es : List Entry). are_names_right form own (names_of es)) (ap (λ (e : Entry). e.name) (sym (own o at).2)) (sym listed)

          turn : (b : Bool) → (if not b then Some whats.Entries else None) ≡ (if b then None else Some whats.Entries)
          turn true = refl
          turn false = refl

  module _ (os : List Object) (all : IsPermutation (objects_of listings) os) (sorted : IsSortedByKey folded_path key_cmp (map (λ (o : Object). o.path) os)) where
    abbrev paths : List Path
    paths = map (λ (o : Object). o.path) os

    among : (o : Object) → Contains os o → Contains (objects_of listings) o
    among o at = Contains-permutation os (objects_of listings) o (IsPermutation-sym (objects_of listings) os all) at

    are : entries t ≡ map (tree_entry image layout) os
    are = entries_are image layout listings sound os all sorted

    leads : AllLead held_nodes paths
    leads = All-map (λ (path : Path). IsSome (node_in held_nodes path)) (λ (o : Object). o.path) os (λ k d below. ap is_some (own _ (among _ (All-contains_itself os k d below))).1)

    -- all entries but the root's
    below : filter is_below_root (entries t) ≡ drop 1 (map (tree_entry image layout) os)
    below =
        sym (ap (drop 1) (cut_first (entries t) (entries_sorted t) (sym (get-entries t []) ∙ (tree_is image layout listings sound).root))) ∙ ap (drop 1) are

    names_fault : (form : NameForm) → first_fault t (λ e. object_fault form e.1) (filter is_below_root (entries t)) ≡ misfit_in paths (first_from held_nodes (entry_fault form) 1 (drop 1 paths))
    names_fault form = ap (first_fault t (λ e. object_fault form e.1)) below ∙ by os among
      where
        by : (xs : List Object) → ((o : Object) → Contains xs o → Contains (objects_of listings) o)
            → first_fault t (λ e. object_fault form e.1) (drop 1 (map (tree_entry image layout) xs))
            ≡ misfit_in (map (λ (o : Object). o.path) xs) (first_from held_nodes (entry_fault form) 1 (drop 1 (map (λ (o : Object). o.path) xs)))
        by [] among = refl
        by (o ∷ xs) among =
            faults_same (λ e. object_fault form e.1) (entry_fault form) (o.path ∷ []) xs (λ x at. among x (contains_later o x xs at))
            (λ x at. names_same form x (among x (contains_later o x xs at)))

    entry_faults : (form : NameForm) → first_fault t (trees.entries_fault form t) (entries t) ≡ misfit_in paths (first_from held_nodes (misfits.entries_fault form) 0 paths)
    entry_faults form =
        ap (first_fault t (trees.entries_fault form t)) are
        ∙ faults_same (trees.entries_fault form t) (misfits.entries_fault form) [] os among (λ x at. entries_same form x (among x at))

    fits : (format : Format) → unfit format t ≡ misfit_in paths (first_misfit format held_nodes paths)
    unfolding unfit
    fits format =
        ap₂ trees.or_later (names_fault (form_of format)) (entry_faults (form_of format))
        ∙ split_misfit paths (first_from held_nodes (entry_fault (form_of format)) 1 (drop 1 paths)) (first_from held_nodes (misfits.entries_fault (form_of format)) 0 paths)

    directory_same : (o : Object) → Contains os o → is_directory_in held_nodes o.path ≡ is_directory_body (node_of image layout o).body
    directory_same o at =
        let n = own o (among o at) in
        ap (λ (m : Option Node). option_map_or (λ (x : Node). is_directory x.entry.attrs) m false) n.1 ∙ ap (λ (e : Entry). is_directory e.attrs) n.2 ∙ sym (body_test image layout o)

    counted : counts_of held_nodes paths ≡ tree_counts t
    counted =
        ap₂ (λ (f d : ℕ). record { files = f; dirs = d })
        (count_same (λ p. not (is_directory_in held_nodes p)) (λ e. not (is_directory_body e.1.body)) (tree_entry image layout) os 0 (λ o at. ap not (directory_same o at)))
        (count_same (is_directory_in held_nodes) (λ e. is_directory_body e.1.body) (tree_entry image layout) os 0 directory_same)
        ∙ ap (λ (es : List (Path × Model)). let c : Rattle.fc_fit.specs.declared.counts.Counts.Counts = record { files = count_by (λ e. not (is_directory_body e.1.body)) es; dirs = count_by (λ e. is_directory_body e.1.body) es } in c) (sym are)

    stood : (e : Path × Model) → Contains (entries t) e → node_at t (spelled_key t e.0) ≡ Some e.1
    stood e at =
        let o = from_map (tree_entry image layout) os e (subst (λ (es : List (Path × Model)). Contains es e) are at) in
        subst (λ (x : Path × Model). node_at t (spelled_key t x.0) ≡ Some x.1) o.2 (ap (node_at t) (spelled o.0 (among o.0 o.1)) ∙ node_there image layout listings sound o.0 (among o.0 o.1))

    told : TellTree held_nodes paths t
    told = record {
      is_tree = tree_is image layout listings sound;
      marked = marked image layout listings sound;
      spelled = spelled_are image layout listings sound os all sorted;
      objects = below ∙ ap (drop 1) (sym are);
      stand = stood;
      some =
          let mapped = length-map os (λ (o : Object). o.path) in
          let long = length_permutation (objects_of listings) os all in
          let whole = ap length (root_and_held layout listings sound) in
          omega (arith, mapped, long, whole);
      lead = leads;
      fits = fits;
      within = λ format m is. both_bounded held_nodes (entry_fault (form_of format)) (misfits.entries_fault (form_of format)) paths m is;
      right = λ format none. all_right held_nodes (form_of format) 1 (drop 1 paths)
          (none_of_first (first_from held_nodes (entry_fault (form_of format)) 1 (drop 1 paths)) (first_from held_nodes (misfits.entries_fault (form_of format)) 0 paths) none);
      counts = counted;
    }

pub rising_law : RisingLaw
rising_law image layout listings held_nodes paths sound held rising =
    let os = lifted (λ (o : Object). o.path) (objects_of listings) paths rising.all in
    subst (λ (ps : List Path). TellTree held_nodes ps (tree_of image layout listings)) os.2
    (told image layout listings held_nodes sound held os.0 os.1 (subst (λ (ps : List Path). IsSortedByKey folded_path key_cmp ps) (sym os.2) rising.sorted))
