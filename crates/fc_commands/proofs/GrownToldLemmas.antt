-- The directories around one that grows, by their nodes: which are told, what they say then, and where their bytes go.
use Rattle.std.proofs.Common.{◌≡◌, ◌≤◌, ◌⊎◌, inl, inr, ℕ, ◌==◌, ◌&&◌, Bool, true, false, cond, List, [], ◌∷◌, ◌++◌, flat_map, length, map, not, refl, sym, ap, ap₂, subst, ◌∙◌, arith, eq-eqb, Option, Some}
use Rattle.std.specs.Prelude.{Contains, filter}
use Rattle.std.specs.FinMap.{get}
use Rattle.std.specs.Option.{option_map_or, option_to_list, unwrap_or}
use Rattle.std.proofs.lemmas.Bool.{eqb-true, ne_eqb, false_from_ne_true as unless}
use Rattle.fc_names.specs.Names.{Path, is_same_path}
use Rattle.fc_names.specs.declared.name.NameForm.{NameForm}
use Rattle.fc_names.specs.declared.name.NameForm.TheVariants as forms
use Rattle.fc_model.specs.Tree.{holder}
use Rattle.fc_dirs.specs.declared.Entry.{Entry}
use Rattle.fc_dirs.specs.Directory.{Directory}
use Rattle.fc_drafts.specs.Draft.{directory_in, with_changed, with_head}
use Rattle.fc_drafts.specs.Rewriting.{HasAmended, HasNewHolder}
use Rattle.fc_image.specs.Layout.{Layout}
use Rattle.fc_image.specs.Objects.{listing_at}
use Rattle.fc_image.specs.Report.{holder_address}
use Rattle.fc_image.specs.Sound.{AreSound}
use Rattle.fc_image.specs.Walk.{Listing, Object, is_directory_object}
use Rattle.fc_image.proofs.PathsLemmas.{cut}
use Rattle.fc_image.proofs.RelistLemmas.{folded_long}
use Rattle.fc_changes.proofs.BasicLemmas.{clash}
use Rattle.fc_laws.specs.nodes.Edits.{Nodes}
use Rattle.fc_laws.proofs.lemmas.nodes.FitsLemmas.{kid_lower}
use Rattle.fc_placing.proofs.CopyingLemmas.{dirs_same}
use Rattle.fc_refusals.specs.Places.{entries_at, entries_in}
use Rattle.fc_refusals.proofs.TargetLemmas.{entries_body}
use Rattle.fc_tree.specs.declared.node.Node.{Node}
use Rattle.fc_tree.specs.Agree.{HasForm}
use Rattle.fc_tree.specs.Counts.{address_in}
use Rattle.fc_tree.specs.Nodes.{HoldObjects, body_of, child, number_of}
use Rattle.fc_tree.proofs.MemberLemmas.{contains_here}
use Rattle.fc_tree.proofs.PlaceLemmas.{last_step}
use Rattle.fc_tree.proofs.SoundLemmas.{children_stored, folds_alike}
use Rattle.fc_tree.proofs.WalkedLemmas.{child_is_object, child_path, holder-push, listed_directory, same_some}
use Rattle.fc_edits.proofs.lemmas.ListLemmas.{map_map}
use Rattle.fc_change.specs.declared.change.Regrowth.{Regrowth}
use Rattle.fc_change.specs.declared.change.Says.{Says}
use Rattle.fc_change.specs.Directories.{Amends, AmendsIf, HasRegrownEntry, IsRewritingBy, Rewriting, Tells, above_of, address_after, around, child_of, children_of, directories_in, holders_of, is_holder, is_told}
use Rattle.fc_change.specs.Prepared.{IsPieceOf}
use Rattle.fc_writing.specs.declared.ready.Piece.{Piece}
use Rattle.fc_writing.specs.Ready.{place_of}
use Rattle.fc_commands.proofs.GrownAroundLemmas.{IsCutAround}
use Rattle.fc_commands.proofs.NodeLemmas.{content_is, entry_is, held_at, sectors_are, size_of_form}
use Rattle.fc_commands.proofs.NodeLemmas as its
use Rattle.fc_image.proofs.TreeLemmas.{map_both as map_append}
use Rattle.fc_image.proofs.EntriesLemmas.{later as contains_later}

-- ---- paths

-- paths of other lengths are others
pub other_long : (p q : Path) → (length p ≡ length q → ⊥) → is_same_path p q ≡ false
other_long p q other =
    unless (is_same_path p q) (λ same. other (let folds = ap (λ (x : Path). length x) (folds_alike p q same) in let a = folded_long p in let b = folded_long q in omega (arith, folds, a, b)))

pub holder_short : (path : Path) → length (holder path) ≤ length path
holder_short [] = omega arith
holder_short (x ∷ path) =
    let c = cut x path in
    let front : length (holder (x ∷ path)) ≡ length c.front = ap (λ (p : Path). length (holder p)) c.is ∙ ap (λ (p : Path). length p) (holder-push c.front c.last) in
    let whole = c.shorter in
    omega (arith, front, whole)

-- ---- lists

filter_map : {X Y : Type 0} (f : X → Y) (t : Y → Bool) (xs : List X) → filter t (map f xs) ≡ map f (filter (λ (x : X). t (f x)) xs)
filter_map f t [] = refl
filter_map {X} {Y} f t (x ∷ xs) = by (t (f x)) (filter_map f t xs)
  where
    by : (b : Bool) → filter t (map f xs) ≡ map f (filter (λ (y : X). t (f y)) xs) → cond b (f x ∷ filter t (map f xs)) (filter t (map f xs)) ≡ map f (cond b (x ∷ filter (λ (y : X). t (f y)) xs) (filter (λ (y : X). t (f y)) xs))
    by true e = ap (λ (ys : List Y). f x ∷ ys) e
    by false e = e

pub all_pass : {X : Type 0} (t : X → Bool) (xs : List X) → ((x : X) → Contains xs x → t x ≡ true) → filter t xs ≡ xs
all_pass t [] all = refl
all_pass {X} t (x ∷ xs) all =
    ap (λ (b : Bool). cond b (x ∷ filter t xs) (filter t xs)) (all x (contains_here x xs)) ∙ ap (λ (ys : List X). x ∷ ys) (all_pass t xs (λ y at. all y (contains_later x y xs at)))

-- ---- directories

pub head_form : (form : NameForm) (len parent : ℕ) (old new : Directory) → HasNewHolder parent old new → HasForm form len old → HasForm form len new
head_form form len parent old new is has = subst (HasForm form len) (sym is.is) (by form old has)
  where
    by : (f : NameForm) (dir : Directory) → HasForm f len dir → HasForm f len (with_head parent dir)
    by forms.Seven (Directory.Small dir) h = h
    by forms.Ten (Directory.Small dir) h = h
    by forms.Long (Directory.Small dir) h = absurd h
    by forms.Seven (Directory.Big dir) h = absurd h
    by forms.Ten (Directory.Big dir) h = absurd h
    by forms.Long (Directory.Big dir) h = h

pub amended_form : (form : NameForm) (len at : ℕ) (e : Entry) (old new : Directory) → HasAmended at e old new → HasForm form len old → HasForm form len new
amended_form form len at e old new is has = subst (HasForm form len) (sym is.is) (by form old has)
  where
    by : (f : NameForm) (dir : Directory) → HasForm f len dir → HasForm f len (with_changed at e dir)
    by forms.Seven (Directory.Small dir) h = h
    by forms.Ten (Directory.Small dir) h = h
    by forms.Long (Directory.Small dir) h = absurd h
    by forms.Seven (Directory.Big dir) h = absurd h
    by forms.Ten (Directory.Big dir) h = absurd h
    by forms.Long (Directory.Big dir) h = h

-- ---- around a directory l of these nodes

module _ (layout : Layout) (nodes : Nodes) (listings : List Listing) (sound : AreSound layout listings) (held : HoldObjects nodes listings) (l : Listing) (listed : Contains listings l)
    (g : Regrowth) (number : number_of nodes l.object.path ≡ Some g.node) where
  -- the number of a listed directory
  abbrev pub num_at : Object → ℕ
  num_at o = unwrap_or (number_of nodes o.path) 0

  abbrev pub num : Listing → ℕ
  num k = unwrap_or (number_of nodes k.object.path) 0

  pub num_is : (k : Listing) → Contains listings k → number_of nodes k.object.path ≡ Some (num k)
  num_is k at = let h = (held.each k.object (listed_directory layout listings sound k at).0).at_path in h ∙ ap (λ (r : Option ℕ). let s : Option ℕ = Some (unwrap_or r 0) in s) (sym h)

  abbrev l_node : Node
  l_node = its.node nodes layout listings sound held l listed g.node number

  l_there : get nodes g.node ≡ Some l_node
  l_there = its.there nodes layout listings sound held l listed g.node number

  l_has : number_of nodes (holder l.object.path) ≡ Some l_node.holder
  l_has = (held.each l.object (its.among nodes layout listings sound held l listed g.node number)).at_holder

  pub address_now : address_in nodes g.node ≡ l.object.entry.address
  address_now = ap (λ (x : Option Node). option_map_or (λ (a : Node). a.entry.address) x 0) l_there

  -- the directory k holds it
  pub holds_it : (g.node ≡ 0 → ⊥) → (k : Listing) → Contains listings k → is_holder nodes g (num k) ≡ is_same_path (holder l.object.path) k.object.path
  holds_it some k at =
      ap₂ (λ (b : Bool) (x : Option Node). not b && option_map_or (λ (a : Node). a.holder == num k) x false) (ne_eqb g.node 0 some) l_there
      ∙ dirs_same nodes (holder l.object.path) k.object.path l_node.holder (num k) l_has (num_is k at)

  -- the root is held by none
  pub none_at_top : g.node ≡ 0 → (n : ℕ) → is_holder nodes g n ≡ false
  none_at_top top n = ap (λ (b : Bool). not b && option_map_or (λ (a : Node). a.holder == n) (get nodes g.node) false) (eq-eqb g.node 0 top)

  pub holds_none : (k : Listing) → Contains listings k → (is_same_path (holder l.object.path) k.object.path ≡ true → g.node ≡ 0) → is_holder nodes g (num k) ≡ false
  holds_none k at not_it = by (g.node == 0) refl
    where
      by : (b : Bool) → (g.node == 0) ≡ b → is_holder nodes g (num k) ≡ false
      by true e = none_at_top (eqb-true g.node 0 e) (num k)
      by false e =
          let some : g.node ≡ 0 → ⊥ = λ z. clash (g.node == 0) (eq-eqb g.node 0 z) e in
          holds_it some k at ∙ unless (is_same_path (holder l.object.path) k.object.path) (λ same. some (not_it same))

  -- it doesn't hold itself
  pub not_its_own : is_holder nodes g g.node ≡ false
  not_its_own = ap (is_holder nodes g) (same_some g.node (num l) (sym number ∙ num_is l listed)) ∙ holds_none l listed (λ same. at_top l.object.path refl same)
    where
      at_top : (path : Path) → l.object.path ≡ path → is_same_path (holder l.object.path) l.object.path ≡ true → g.node ≡ 0
      at_top [] e same = same_some g.node 0 (sym number ∙ ap (number_of nodes) e)
      at_top (x ∷ path) e same =
          let c = cut x path in
          let front : length (holder (x ∷ path)) ≡ length c.front = ap (λ (p : Path). length (holder p)) c.is ∙ ap (λ (p : Path). length p) (holder-push c.front c.last) in
          let whole = c.shorter in
          absurd (clash (is_same_path (holder (x ∷ path)) (x ∷ path)) (subst (λ (p : Path). is_same_path (holder p) p ≡ true) e same)
          (other_long (holder (x ∷ path)) (x ∷ path) (λ long. omega (arith, front, whole, long))))

  -- ---- which they are

  module _ (tops kids left : List Listing) (c : IsCutAround listings l tops kids left) where
    holders_are : holders_of nodes g ≡ map num tops
    holders_are = by c.tops_are
      where
        by : ((l.object.path ≡ []) × (tops ≡ [])) ⊎ ((h : Listing) × (tops ≡ h ∷ []) × Contains listings h × Contains h.children l.object) → holders_of nodes g ≡ map num tops
        by (inl top) =
            let zero' : g.node ≡ 0 = same_some g.node 0 (sym number ∙ ap (number_of nodes) top.0) in
            ap (λ (b : Bool). cond b [] (option_map_or (λ (node : Node). node.holder ∷ []) (get nodes g.node) [])) (eq-eqb g.node 0 zero') ∙ sym (ap (map num) top.1)
        by (inr above) =
            let path = child_path layout listings sound above.0 l.object above.2 above.3 in
            let same : l_node.holder ≡ num above.0 =
            same_some l_node.holder (num above.0) (sym l_has ∙ ap (number_of nodes) (ap holder path ∙ holder-push above.0.object.path l.object.entry.name) ∙ num_is above.0 above.2) in
            ap (λ (b : Bool). cond b [] (option_map_or (λ (node : Node). node.holder ∷ []) (get nodes g.node) [])) (ne_eqb g.node 0 (kid_lower layout listings nodes sound held above.0 l.object g.node above.2 above.3 number))
            ∙ ap (λ (x : Option Node). option_map_or (λ (node : Node). node.holder ∷ []) x []) l_there ∙ ap (λ (k : ℕ). k ∷ []) same ∙ sym (ap (map num) above.1)

    child_is : (o : Object) → Contains l.children o → child nodes g.node o.entry.name ≡ Some (num_at o)
    child_is o kid =
        let has = held.each o (child_is_object layout listings sound l o listed kid) in
        let there : number_of nodes o.path ≡ Some (num_at o) = has.at_path ∙ ap (λ (r : Option ℕ). let s : Option ℕ = Some (unwrap_or r 0) in s) (sym has.at_path) in
        let step = last_step nodes l.object.path o.entry.name (num_at o) (ap (number_of nodes) (sym (child_path layout listings sound l o listed kid)) ∙ there) in
        ap (λ (d : ℕ). child nodes d o.entry.name) (same_some g.node step.dir (sym number ∙ step.above)) ∙ step.step

    dirs_in : (os : List Object) → ((o : Object) → Contains os o → Contains l.children o) → flat_map (child_of nodes g.node) (map (λ (o : Object). o.entry) os) ≡ map num_at (filter is_directory_object os)
    dirs_in [] all = refl
    dirs_in (o ∷ os) all = by (is_directory_object o) (dirs_in os (λ p at. all p (contains_later o p os at)))
      where
        by : (b : Bool) → flat_map (child_of nodes g.node) (map (λ (p : Object). p.entry) os) ≡ map num_at (filter is_directory_object os)
            → cond b (option_to_list (child nodes g.node o.entry.name)) [] ++ flat_map (child_of nodes g.node) (map (λ (p : Object). p.entry) os)
            ≡ map num_at (cond b (o ∷ filter is_directory_object os) (filter is_directory_object os))
        by true e = ap₂ (λ (x : Option ℕ) (ns : List ℕ). option_to_list x ++ ns) (child_is o (all o (contains_here o os))) e
        by false e = e

    entries_are : entries_at nodes g.node ≡ map (λ (o : Object). o.entry) l.children
    entries_are =
        ap (λ (x : Option Node). option_map_or (λ (node : Node). entries_in node.body) x []) l_there ∙ ap entries_in (its.says nodes layout listings sound held l listed g.node number) ∙ entries_body l.content
        ∙ sym (children_stored layout listings sound l listed)

    directories_are : directories_in nodes g.node ≡ map num kids
    directories_are =
        ap (flat_map (child_of nodes g.node)) entries_are ∙ dirs_in l.children (λ o at. at) ∙ ap (map num_at) (sym c.kids_are) ∙ map_map num_at (λ (k : Listing). k.object) kids

    -- it keeps its address
    abbrev pub stays : Bool
    stays = l.object.entry.address == g.address

    abbrev pub about : List Listing
    about = tops ++ cond stays [] kids

    children_are : children_of nodes g ≡ map num (cond stays [] kids)
    children_are = ap₂ (λ (a : ℕ) (ns : List ℕ). cond (a == g.address) [] ns) address_now directories_are ∙ by stays
      where
        by : (b : Bool) → (let ns : List ℕ = cond b [] (map num kids) in ns) ≡ map num (cond b [] kids)
        by true = refl
        by false = refl

    -- those of them that are told
    pub around_is : (told : List ℕ) → around (Some g) nodes told ≡ map (λ (k : Listing). let q : ℕ × Rewriting = (num k, Rewriting.Stays) in q) (filter (λ (k : Listing). not (is_told told (num k))) about)
    around_is told =
        ap (λ (ns : List ℕ). map (λ (n : ℕ). let q : ℕ × Rewriting = (n, Rewriting.Stays) in q) (filter (λ (n : ℕ). not (is_told told n)) ns))
        (ap₂ (λ (a b : List ℕ). a ++ b) holders_are children_are ∙ sym (map_append num tops (cond stays [] kids)))
        ∙ ap (map (λ (n : ℕ). let q : ℕ × Rewriting = (n, Rewriting.Stays) in q)) (filter_map num (λ (n : ℕ). not (is_told told n)) about)
        ∙ map_map (λ (n : ℕ). let q : ℕ × Rewriting = (n, Rewriting.Stays) in q) num (filter (λ (k : Listing). not (is_told told (num k))) about)

  -- ---- one directory that is told something

  -- the address of the directory that holds a path, afterwards
  abbrev pub parent_now : Path → ℕ
  parent_now path = cond (is_same_path (holder path) l.object.path) g.address (holder_address listings path)

  module _ (k : Listing) (at : Contains listings k) (r : Rewriting) (s : Says) (tells : Tells (Some g) nodes (num k) r s) where
    content_same : tells.content ≡ k.content
    content_same = content_is nodes layout listings sound held k at (num k) (num_is k at) tells.node tells.there tells.content tells.says

    pub amends_it : Amends (Some g) nodes (num k) k.content tells.middle
    amends_it = subst (λ (d : Directory). Amends (Some g) nodes (num k) d tells.middle) content_same tells.amended

    k_has : number_of nodes (holder k.object.path) ≡ Some tells.node.holder
    k_has =
        let has = held.each k.object (listed_directory layout listings sound k at).0 in
        has.at_holder ∙ ap (λ (x : Node). let q : Option ℕ = Some x.holder in q)
        (same_some (record { holder = has.holder_number; entry = k.object.entry; body = body_of (listing_at listings k.object.path) }) tells.node
        (sym has.is ∙ ap (get nodes) (same_some has.number (num k) (sym has.at_path ∙ num_is k at)) ∙ tells.there))

    parent_is : address_after (Some g) nodes tells.node.holder ≡ parent_now k.object.path
    parent_is =
        ap₂ (λ (b : Bool) (a : ℕ). cond b g.address a) (dirs_same nodes (holder k.object.path) l.object.path tells.node.holder g.node k_has number)
        (held_at nodes layout listings sound held k at (num k) (num_is k at) tells.node tells.there)

    pub rewritten : above_of r tells.node ≡ tells.node.holder → IsRewritingBy r (parent_now k.object.path) tells.middle (directory_in s.draft)
    rewritten same = subst (λ (q : ℕ). IsRewritingBy r q tells.middle (directory_in s.draft)) (ap (address_after (Some g) nodes) same ∙ parent_is) tells.rewritten

    -- It doesn't hold the grown one.
    pub not_amended : is_holder nodes g (num k) ≡ false → tells.middle ≡ k.content
    not_amended none = subst (λ (b : Bool). AmendsIf b nodes g k.content tells.middle) none amends_it

    -- It does.
    pub is_amended : is_holder nodes g (num k) ≡ true → HasRegrownEntry nodes g k.content tells.middle
    is_amended holds = subst (λ (b : Bool). AmendsIf b nodes g k.content tells.middle) holds amends_it

    pub says_number : number_of nodes k.object.path ≡ Some s.node
    says_number = num_is k at ∙ ap (λ (n : ℕ). let q : Option ℕ = Some n in q) (sym tells.number)

    -- its piece goes to its place
    pub place_same : (p : Piece) → IsPieceOf layout nodes s p → place_of p ≡ k.object.sectors
    place_same p piece = sectors_are nodes layout listings sound held k at (num k) (num_is k at) piece.node (ap (get nodes) (sym tells.number) ∙ piece.there) (place_of p) piece.place
