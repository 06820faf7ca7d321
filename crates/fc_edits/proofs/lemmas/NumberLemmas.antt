-- Where paths lead among the nodes after an edit.
use Rattle.std.proofs.Common.{◌≡◌, ◌≤◌, ◌⊎◌, inl, inr, ⊎_elim, ℕ, Bool, true, List, [], ◌∷◌, ◌++◌, length, map, flat_map, refl, sym, ap, subst, ◌∙◌, arith, Some, None}
use Rattle.std.specs.Prelude.{Contains, IsPermutation}
use Rattle.std.specs.FinMap.{get}
use Rattle.std.proofs.lemmas.List.{append_assoc}
use Rattle.std.proofs.lemmas.List.Elements.{Contains-append_cases, Contains-append_left, Contains-append_right}
use Rattle.std.proofs.lemmas.List.Sorted.{IsPermutation-append, IsPermutation-cons, IsPermutation-refl, IsPermutation-trans}
use Rattle.fc_names.specs.Names.{Path, is_same_path}
use Rattle.fc_dirs.specs.declared.Entry.{Entry}
use Rattle.fc_image.specs.Layout.{Layout}
use Rattle.fc_image.specs.Walk.{Object, Listing, is_directory_object}
use Rattle.fc_image.specs.Objects.{objects_of}
use Rattle.fc_image.specs.Order.{held}
use Rattle.fc_image.specs.Sound.{AreSound}
use Rattle.fc_image.proofs.PathsLemmas.{is_at, itself, listed_few, many}
use Rattle.fc_tree.specs.declared.node.Node.{Node}
use Rattle.fc_tree.specs.Nodes.{number_of}
use Rattle.fc_tree.proofs.MemberLemmas.{contains_here, from_flat, from_map, in_filter, in_map, many_permuted, no_element}
use Rattle.fc_tree.proofs.WalkedLemmas.{root, root_and_held, given, few_objects, child_is_object, listed_directory, root_path}
use Rattle.fc_tree.proofs.SoundLemmas.{root_object, root_or_child}
use Rattle.fc_tree.proofs.PlaceLemmas.{one_path}
use Rattle.fc_laws.specs.nodes.Edits.{Nodes}
use Rattle.fc_laws.specs.nodes.Laws.{IsHeld}
use Rattle.fc_laws.proofs.lemmas.nodes.ShapeLemmas.{some_mapped}
use Rattle.fc_laws.proofs.lemmas.nodes.FitsLemmas.{fits, kid_at, kid_lower, one_number}
use Rattle.fc_laws.proofs.lemmas.nodes.ListLemmas.{in_first, in_other}
use Rattle.fc_laws.proofs.lemmas.nodes.OtherLemmas.{all_objects}
use Rattle.fc_edits.specs.NodesEdit.{NodesEdit}
use Rattle.fc_laws.specs.nodes.Lookups.{held_as, held_by}
use Rattle.fc_edits.specs.Edit.{Amended, AreEdited, Edit, IsEdit, TopStays, TopTurns, joined_in, joining, leaving, left_in, numbers, objects, turned}
use Rattle.fc_edits.proofs.lemmas.ListLemmas.{few_second, flat_mapped, in_flat, is_in, map_flat, parted, two_apart}
use Rattle.fc_image.proofs.ShuffleLemmas.{flat_map-append as flat_append}
use Rattle.fc_image.proofs.TreeLemmas.{map_both as map_append}
use Rattle.fc_image.proofs.EntriesLemmas.{cases as contains_cases}
use Rattle.fc_image.proofs.CommandLemmas.{same_by_folds}

-- of one path there is at most one directory
pub few_listings : (layout : Layout) (listings : List Listing) (sound : AreSound layout listings) (path : Path) → many (λ (k : Listing). is_at path k.object) listings ≤ 1
unfolding many
few_listings layout listings sound path =
    let w = given layout listings sound in
    let few = listed_few sound.read layout (is_at path) (root layout listings sound ∷ []) listings w.2 in
    let most = subst (λ (os : List Object). many (is_at path) os ≤ 1) (root_and_held layout listings sound) (few_objects layout listings sound path) in
    omega (arith, few, most)

module _ (ne : NodesEdit) where
  abbrev pub nodes : Nodes
  nodes = ne.nodes

  abbrev pub nodes' : Nodes
  nodes' = ne.nodes'

  abbrev pub layout : Layout
  layout = ne.layout

  abbrev pub listings : List Listing
  listings = ne.listings

  abbrev pub e : Edit
  e = ne.edit

  abbrev pub h : IsHeld nodes layout listings
  h = ne.held

  abbrev pub is : IsEdit nodes listings e
  is = ne.is_edit

  abbrev pub ed : AreEdited nodes nodes' e
  ed = ne.nodes_edited

  -- ---- what stays

  abbrev pub stay : List Listing
  stay = map (λ (a : Amended). a.was) e.amended ++ e.same

  abbrev pub top : Object
  top = root layout listings h.sound

  abbrev pub top_in : Contains (objects_of listings) top
  top_in = root_object layout listings h.sound

  pub stay_in : (k : Listing) → Contains stay k → Contains listings k
  stay_in k at = in_first listings (e.out ++ stay) is.found k (Contains-append_right e.out stay k at)

  pub was_in : (a : Amended) → Contains e.amended a → Contains stay a.was
  was_in a at = Contains-append_left (map (λ (b : Amended). b.was) e.amended) e.same a.was (in_map (λ (b : Amended). b.was) e.amended a at)

  pub same_in : (k : Listing) → Contains e.same k → Contains stay k
  same_in k at = Contains-append_right (map (λ (b : Amended). b.was) e.amended) e.same k at

  -- the objects that stay in their directories
  abbrev pub kids : List Object
  kids = flat_map (λ (a : Amended). a.kids) e.amended ++ held e.same

  pub stay_parted : IsPermutation (held stay) (objects (left_in e) ++ kids)
  stay_parted =
      let f : Amended → List Object = λ a. a.was.children in
      let g : Amended → List Object = λ a. objects a.leave in
      let k : Amended → List Object = λ a. a.kids in
      let amended = parted f g k e.amended (λ a at. (is.amends a at).held) in
      let first : held stay ≡ flat_map f e.amended ++ held e.same =
      flat_append (λ (l : Listing). l.children) (map (λ (a : Amended). a.was) e.amended) e.same
      ∙ ap (λ (os : List Object). os ++ held e.same) (flat_mapped (λ (l : Listing). l.children) (λ (a : Amended). a.was) e.amended) in
      let left : objects (left_in e) ≡ flat_map g e.amended = map_flat (λ (p : ℕ × Object). p.1) (λ (a : Amended). a.leave) e.amended in
      subst (λ (os : List Object). IsPermutation os (objects (left_in e) ++ kids)) (sym first)
      (subst (λ (os : List Object). IsPermutation (flat_map f e.amended ++ held e.same) (os ++ kids)) (sym left)
      (subst (λ (os : List Object). IsPermutation (flat_map f e.amended ++ held e.same) os) (append_assoc (flat_map g e.amended) (flat_map k e.amended) (held e.same))
      (IsPermutation-append (flat_map f e.amended) (flat_map g e.amended ++ flat_map k e.amended) (held e.same) (held e.same) amended (IsPermutation-refl (held e.same)))))

  -- all objects
  pub all_parted : IsPermutation (objects_of listings) (top ∷ (objects (left_in e) ++ kids))
  all_parted =
      let all = all_objects layout listings nodes h.sound h.held (e.out ++ stay) is.found in
      let none : held (e.out ++ stay) ≡ held stay = flat_append (λ (l : Listing). l.children) e.out stay ∙ ap (λ (os : List Object). os ++ held stay) is.out_empty in
      IsPermutation-trans (objects_of listings) (top ∷ held stay) (top ∷ (objects (left_in e) ++ kids))
      (subst (λ (os : List Object). IsPermutation (objects_of listings) (top ∷ os)) none all)
      (IsPermutation-cons top (held stay) (objects (left_in e) ++ kids) stay_parted)

  few_all : (path : Path) → many (is_at path) (top ∷ (objects (left_in e) ++ kids)) ≤ 1
  few_all path =
      subst (λ k. k ≤ 1) (sym (many_permuted (is_at path) (objects_of listings) (top ∷ (objects (left_in e) ++ kids)) all_parted)) (few_objects layout listings h.sound path)

  pub few_stay : (path : Path) → many (λ (k : Listing). is_at path k.object) (e.out ++ stay) ≤ 1
  few_stay path =
      subst (λ k. k ≤ 1) (sym (many_permuted (λ (k : Listing). is_at path k.object) listings (e.out ++ stay) is.found)) (few_listings layout listings h.sound path)

  pub same_at : (p q : Path) (n : ℕ) → number_of nodes p ≡ Some n → number_of nodes q ≡ Some n → is_same_path p q ≡ true
  same_at p q n f g = same_by_folds p q (one_path nodes n (length p) p q refl f g)

  -- ---- numbers that leave

  -- a number that leaves a directory, and whose object it is
  pub left_of : (n : ℕ) → Contains (numbers (left_in e)) n → (q : ℕ × Object) × Contains (left_in e) q × (q.0 ≡ n) × (number_of nodes q.1.path ≡ Some n)
  left_of n at =
      let q = from_map (λ (p : ℕ × Object). p.0) (left_in e) n at in
      let a = from_flat (λ (b : Amended). b.leave) e.amended q.0 q.1 in
      (q.0, q.1, q.2, (is.amends a.0 a.1).left q.0 a.2 ∙ ap (λ (k : ℕ). Some k) q.2)

  top_leaves : (n : ℕ) → Contains (numbers e.top_leave) n → n ≡ 0
  top_leaves n at = by (is.top top top_in (root_path layout listings h.sound))
    where
      by : TopStays e top ⊎ TopTurns e top → n ≡ 0
      by (inl t) = absurd (no_element n (subst (λ (ps : List (ℕ × Object)). Contains (numbers ps) n) t.leaves at))
      by (inr t) =
          ⊎_elim (λ same. sym same) (λ later. absurd (no_element n later)) (contains_cases 0 n [] (subst (λ (ps : List (ℕ × Object)). Contains (numbers ps) n) t.leaves at))

  pub top_joins : (n : ℕ) → Contains (numbers e.top_join) n → n ≡ 0
  top_joins n at = by (is.top top top_in (root_path layout listings h.sound))
    where
      by : TopStays e top ⊎ TopTurns e top → n ≡ 0
      by (inl t) = absurd (no_element n (subst (λ (ps : List (ℕ × Object)). Contains (numbers ps) n) t.joins at))
      by (inr t) =
          ⊎_elim (λ same. sym same) (λ later. absurd (no_element n later)) (contains_cases 0 n [] (subst (λ (ps : List (ℕ × Object)). Contains (numbers ps) n) t.joins at))

  pub in_numbers : (ps qs : List (ℕ × Object)) (n : ℕ) → Contains (numbers (ps ++ qs)) n → Contains (numbers ps) n ⊎ Contains (numbers qs) n
  in_numbers ps qs n at =
      Contains-append_cases (numbers ps) (numbers qs) n (subst (λ (ns : List ℕ). Contains ns n) (map_append (λ (p : ℕ × Object). p.0) ps qs) at)

  pub left_leaves : (n : ℕ) → Contains (numbers (left_in e)) n → Contains (numbers (leaving e)) n
  left_leaves n at =
      subst (λ (ns : List ℕ). Contains ns n) (sym (map_append (λ (p : ℕ × Object). p.0) e.top_leave (left_in e))) (Contains-append_right (numbers e.top_leave) (numbers (left_in e)) n at)

  pub joined_joins : (n : ℕ) → Contains (numbers (joined_in e)) n → Contains (numbers (joining e)) n
  joined_joins n at =
      subst (λ (ns : List ℕ). Contains ns n) (sym (map_append (λ (p : ℕ × Object). p.0) e.top_join (joined_in e))) (Contains-append_right (numbers e.top_join) (numbers (joined_in e)) n at)

  -- an object of a directory leaves by its number alone
  leaves_dir : (n : ℕ) → (n ≡ 0 → ⊥) → Contains (numbers (leaving e)) n → Contains (numbers (left_in e)) n
  leaves_dir n lower at = ⊎_elim (λ own. absurd (lower (top_leaves n own))) (λ later. later) (in_numbers e.top_leave (left_in e) n at)

  -- an object that stays in its directory doesn't leave
  pub kid_stays : (p : Object) (n : ℕ) → Contains kids p → (n ≡ 0 → ⊥) → number_of nodes p.path ≡ Some n → Contains (numbers (leaving e)) n → ⊥
  kid_stays p n at lower f leaves =
      let q = left_of n (leaves_dir n lower leaves) in
      let few = few_second (is_at p.path) (top ∷ []) (objects (left_in e) ++ kids) (few_all p.path) in
      two_apart (is_at p.path) (objects (left_in e)) kids q.0.1 p few (in_map (λ (x : ℕ × Object). x.1) (left_in e) q.0 q.1) at (same_at p.path q.0.1.path n f q.3) (itself p.path)

  -- its number isn't the root's
  kid_lower_in : (p : Object) (n : ℕ) → Contains kids p → number_of nodes p.path ≡ Some n → n ≡ 0 → ⊥
  kid_lower_in p n at f =
      ⊎_elim
      (λ amended.
      let a = from_flat (λ (b : Amended). b.kids) e.amended p amended in
      let kid = in_first a.0.was.children (objects a.0.leave ++ a.0.kids) (is.amends a.0 a.1).held p (Contains-append_right (objects a.0.leave) a.0.kids p a.2) in
      kid_lower layout listings nodes h.sound h.held a.0.was p n (stay_in a.0.was (was_in a.0 a.1)) kid f)
      (λ same. let k = from_flat (λ (l : Listing). l.children) e.same p same in kid_lower layout listings nodes h.sound h.held k.0 p n (stay_in k.0 (same_in k.0 k.1)) k.2 f)
      (Contains-append_cases (flat_map (λ (b : Amended). b.kids) e.amended) (held e.same) p at)

  pub kid_away : (p : Object) (n : ℕ) → Contains kids p → number_of nodes p.path ≡ Some n → Contains (numbers (leaving e)) n → ⊥
  kid_away p n at f = kid_stays p n at (kid_lower_in p n at f) f

  -- what leaves or joins a directory isn't the root
  pub left_lower : (n : ℕ) → Contains (numbers (left_in e)) n → n ≡ 0 → ⊥
  left_lower n was =
      let q = from_map (λ (x : ℕ × Object). x.0) (left_in e) n was in
      let a = from_flat (λ (b : Amended). b.leave) e.amended q.0 q.1 in
      let i = is.amends a.0 a.1 in
      let kid = in_first a.0.was.children (objects a.0.leave ++ a.0.kids) i.held q.0.1
      (Contains-append_left (objects a.0.leave) a.0.kids q.0.1 (in_map (λ (x : ℕ × Object). x.1) a.0.leave q.0 a.2)) in
      kid_lower layout listings nodes h.sound h.held a.0.was q.0.1 n (stay_in a.0.was (was_in a.0 a.1)) kid (i.left q.0 a.2 ∙ ap (λ (k : ℕ). Some k) q.2)

  pub join_lower : (p : ℕ × Object) → Contains (joined_in e) p → p.0 ≡ 0 → ⊥
  join_lower p at = ⊎_elim (λ was. left_lower p.0 was) (λ new. new.1) (ed.free p at)

  -- a node of an old number that doesn't leave doesn't join
  pub not_joining : (n : ℕ) (a : Node) → get nodes n ≡ Some a → (n ≡ 0 → ⊥) → (Contains (numbers (leaving e)) n → ⊥) → Contains (numbers (joining e)) n → ⊥
  not_joining n a there lower stays at = ⊎_elim (λ own. lower (top_joins n own)) (λ later. by (from_map (λ (x : ℕ × Object). x.0) (joined_in e) n later)) (in_numbers e.top_join (joined_in e) n at)
    where
      by : (q : ℕ × Object) × Contains (joined_in e) q × (q.0 ≡ n) → ⊥
      by q =
          ⊎_elim (λ was. stays (left_leaves n (subst (λ (k : ℕ). Contains (numbers (left_in e)) k) q.2 was)))
          (λ new. let two : None ≡ Some a = sym new.0 ∙ ap (get nodes) q.2 ∙ there in cc) (ed.free q.0 q.1)

  -- so it is held as before
  pub held_still : (n d : ℕ) (x : Entry) → held_as nodes n ≡ Some (d, x) → (n ≡ 0 → ⊥) → (Contains (numbers (leaving e)) n → ⊥) → held_as nodes' n ≡ Some (d, x)
  held_still n d x was lower stays =
      let a = some_mapped held_by (get nodes n) (d, x) was in
      ed.others n stays (not_joining n a.0 a.1 lower stays) ∙ was

  -- ---- directories that stay

  -- the object of a directory that stays is none that goes
  pub dir_moves : (k : Listing) (n : ℕ) → Contains stay k → number_of nodes k.object.path ≡ Some n → Contains (numbers (left_in e)) n → Contains e.moving (n, k.object)
  dir_moves k n at f leaves =
      let q = left_of n leaves in
      let here = listed_directory layout listings h.sound k (stay_in k at) in
      let among = in_first (objects_of listings) (top ∷ (objects (left_in e) ++ kids)) all_parted q.0.1
      (Contains-append_right (top ∷ []) (objects (left_in e) ++ kids) q.0.1 (Contains-append_left (objects (left_in e)) kids q.0.1 (in_map (λ (x : ℕ × Object). x.1) (left_in e) q.0 q.1))) in
      let same : q.0.1 ≡ k.object = one_number layout listings nodes h.sound h.held q.0.1 k.object n among here.0 q.3 f in
      let pair : q.0 ≡ (n, k.object) = λ i. (q.2 i, same i) in
      ⊎_elim (λ goes. absurd (by q.0 same goes here.1)) (λ moves. subst (Contains e.moving) pair moves) (Contains-append_cases e.gone e.moving q.0 (in_other (left_in e) (e.gone ++ e.moving) is.left q.0 q.1))
    where
      by : (q : ℕ × Object) → q.1 ≡ k.object → Contains e.gone q → is_directory_object k.object ≡ true → ⊥
      by q same goes dir =
          let gone = in_filter is_directory_object (objects e.gone) q.1 (in_map (λ (x : ℕ × Object). x.1) e.gone q goes) (ap is_directory_object same ∙ dir) in
          let d = from_map (λ (l : Listing). l.object) e.out q.1 (subst (λ (os : List Object). Contains os q.1) (sym is.out_gone) gone) in
          let path : d.0.object.path ≡ k.object.path = ap (λ (x : Object). x.path) (d.2 ∙ same) in
          two_apart (λ (l : Listing). is_at k.object.path l.object) e.out stay d.0 k (few_stay k.object.path) d.1 at
          (subst (λ (p : Path). is_at k.object.path (record d.0.object { path = p }) ≡ true) (sym path) (itself k.object.path)) (itself k.object.path)

  -- it joins a directory again
  pub dir_joins : (k : Listing) (n : ℕ) → Contains stay k → number_of nodes k.object.path ≡ Some n → Contains (numbers (left_in e)) n → Contains (joined_in e) (n, e.turn k.object)
  dir_joins k n at f leaves =
      in_first (joined_in e) (e.come ++ map (turned e) e.moving) is.joined (n, e.turn k.object)
      (Contains-append_right e.come (map (turned e) e.moving) (n, e.turn k.object) (in_map (turned e) e.moving (n, k.object) (dir_moves k n at f leaves)))

  pub dir_leaves : (k : Listing) (n : ℕ) → Contains stay k → number_of nodes k.object.path ≡ Some n → Contains (numbers (leaving e)) n → Contains (numbers (joining e)) n
  dir_leaves k n at f leaves =
      ⊎_elim own (λ later. joined_joins n (in_map (λ (p : ℕ × Object). p.0) (joined_in e) (n, e.turn k.object) (dir_joins k n at f later))) (in_numbers e.top_leave (left_in e) n leaves)
    where
      own : Contains (numbers e.top_leave) n → Contains (numbers (joining e)) n
      own first = by (is.top top top_in (root_path layout listings h.sound))
        where
          by : TopStays e top ⊎ TopTurns e top → Contains (numbers (joining e)) n
          by (inl t) = absurd (no_element n (subst (λ (ps : List (ℕ × Object)). Contains (numbers ps) n) t.leaves first))
          by (inr t) =
              subst (λ (ps : List (ℕ × Object)). Contains (numbers (ps ++ joined_in e)) n) (sym t.joins)
              (subst (λ (m : ℕ). Contains (numbers ((0, e.turn top) ∷ joined_in e)) m) (sym (top_leaves n first)) (contains_here 0 (numbers (joined_in e))))

  -- a directory that says what it said has another number than those that don't
  pub same_other : (k : Listing) (n : ℕ) → Contains e.same k → number_of nodes k.object.path ≡ Some n → Contains (map (λ (a : Amended). a.number) e.amended) n → ⊥
  same_other k n at f amended =
      let a = from_map (λ (b : Amended). b.number) e.amended n amended in
      let t : Listing → Bool = λ l. is_at k.object.path l.object in
      let few = few_second t e.out stay (few_stay k.object.path) in
      two_apart t (map (λ (b : Amended). b.was) e.amended) e.same a.0.was k few (in_map (λ (b : Amended). b.was) e.amended a.0 a.1) at
      (same_at k.object.path a.0.was.object.path n f ((is.amends a.0 a.1).number_is ∙ ap (λ (m : ℕ). Some m) a.2)) (itself k.object.path)

  -- ---- who holds a node afterwards

  -- A node is held in this directory, which stays, under this object's entry and path.
  pub record In (above : ℕ) (dir : Listing) (n : ℕ) (o : Object) : Type 0 where
    pub stays : Contains stay dir
    pub above_is : number_of nodes dir.object.path ≡ Some above
    pub path : o.path ≡ (e.turn dir.object).path ++ o.entry.name ∷ []
    pub held : held_as nodes' n ≡ Some (above, o.entry)
    pub lower : n ≡ 0 → ⊥

  abbrev pub Up : ℕ → Object → Type 0
  Up n o = (above : ℕ) × (dir : Listing) × In above dir n o

  pub join_in : (a : Amended) (p : ℕ × Object) → Contains e.amended a → Contains a.join p → In a.number a.was p.0 p.1
  join_in a p at in_a = record {
    stays = was_in a at;
    above_is = (is.amends a at).number_is;
    path = (is.amends a at).paths p in_a;
    held = ed.joined a p at in_a;
    lower = join_lower p (in_flat (λ (b : Amended). b.join) e.amended a p at in_a);
  }

  pub joined_up : (p : ℕ × Object) → Contains (joined_in e) p → Up p.0 p.1
  joined_up p at = let a = from_flat (λ (b : Amended). b.join) e.amended p at in (a.0.number, a.0.was, join_in a.0 p a.1 a.2)

  -- an object of a directory, if it doesn't leave
  pub kid_in : (k : Listing) (p : Object) (d n : ℕ) → Contains stay k → Contains k.children p → number_of nodes k.object.path ≡ Some d → number_of nodes p.path ≡ Some n
      → (Contains (numbers (leaving e)) n → ⊥) → In d k n (e.turn p)
  kid_in k p d n at kid f g stays =
      let listed' = stay_in k at in
      let among = child_is_object layout listings h.sound k p listed' kid in
      let lower = kid_lower layout listings nodes h.sound h.held k p n listed' kid g in
      let was = kid_at layout listings nodes h.sound h.held k p d n listed' kid f g in
      let keeps = is.keeps p n among g stays in
      record {
        stays = at;
        above_is = f;
        path = is.paths k p n listed' kid g stays ∙ ap (λ (x : Entry). (e.turn k.object).path ++ x.name ∷ []) (sym keeps.entry);
        held = held_still n d p.entry was.held lower stays ∙ ap (λ (x : Entry). Some (d, x)) (sym keeps.entry);
        lower = lower;
      }

  -- a directory that stays
  pub dir_up : (k : Listing) (n : ℕ) → Contains stay k → number_of nodes k.object.path ≡ Some n → (top ≡ k.object) ⊎ Up n (e.turn k.object)
  dir_up k n at f = ⊎_elim (λ same. inl same) (λ kid. inr (by kid (is_in (numbers (left_in e)) n))) (root_or_child layout listings h.sound k.object (listed_directory layout listings h.sound k (stay_in k at)).0)
    where
      out_or_stay : (l : Listing) → Contains listings l → Contains l.children k.object → Contains stay l
      out_or_stay l there kid =
          ⊎_elim
          (λ goes. absurd (no_element k.object (subst (λ (os : List Object). Contains os k.object) is.out_empty (in_flat (λ (d : Listing). d.children) e.out l k.object goes kid))))
          (λ stays. stays) (Contains-append_cases e.out stay l (in_other listings (e.out ++ stay) is.found l there))

      by : (l : Listing) × Contains listings l × Contains l.children k.object → Contains (numbers (left_in e)) n ⊎ (Contains (numbers (left_in e)) n → ⊥) → Up n (e.turn k.object)
      by l (inl leaves) = joined_up (n, e.turn k.object) (dir_joins k n at f leaves)
      by l (inr stays) =
          let d = fits layout listings nodes h.sound h.held l.0 l.1 in
          let lower = kid_lower layout listings nodes h.sound h.held l.0 k.object n l.1 l.2 f in
          (d.0, l.0, kid_in l.0 k.object d.0 n (out_or_stay l.0 l.1 l.2) l.2 d.1.at f (λ leaves. stays (leaves_dir n lower leaves)))
