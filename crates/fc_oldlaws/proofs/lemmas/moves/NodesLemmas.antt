-- The nodes and owners after the objects have slid are those of the objects in their new places.
use Rattle.std.proofs.Common.{◌≡◌, ⊎_elim, ℕ, ◌*◌, ◌/◌, true, not, List, [], ◌∷◌, ◌++◌, length, map, filter, refl, sym, ap, ap₂, subst, ◌∙◌, arith, Option, Some, None, unwrap_or}
use Rattle.std.specs.Prelude.{Contains, IsPermutation, nat_lt}
use Rattle.std.specs.Int.{div_ceil}
use Rattle.std.specs.Option.{option_map, option_map_or}
use Rattle.std.specs.FinMap.{get}
use Rattle.std.proofs.lemmas.List.{length-map}
use Rattle.std.proofs.lemmas.List.FromFn.{length-range_with_len}
use Rattle.std.proofs.lemmas.List.Sorted.{IsPermutation-map}
use Rattle.fc_names.specs.Names.{Path, folded}
use Rattle.fc_names.specs.declared.name.NameForm.{NameForm}
use Rattle.fc_model.specs.Tree.{holder}
use Rattle.fc_dirs.specs.declared.Entry.{Entry}
use Rattle.fc_dirs.specs.Directory.{Directory}
use Rattle.fc_alloc.specs.declared.owner.Owner.{Owner}
use Rattle.fc_image.specs.Layout.{Layout, dir_form, id_of, low_of, sectors_at}
use Rattle.fc_image.specs.Report.{holder_address}
use Rattle.fc_image.specs.Sound.{AreSound}
use Rattle.fc_image.specs.Walk.{Listing, Object, is_directory_object, object_size}
use Rattle.fc_image.specs.Objects.{first_object, has_sectors, objects_of}
use Rattle.fc_image.specs.Order.{held}
use Rattle.fc_image.proofs.EntriesLemmas.{from_filter, from_map}
use Rattle.fc_image.proofs.HolesLemmas.{Each-contains, Each-objects, Lies, walk_lies}
use Rattle.fc_image.proofs.ShuffleLemmas.{filter-map}
use Rattle.fc_tree.specs.declared.node.Body.{Body}
use Rattle.fc_tree.specs.declared.node.Body.TheVariants as bodies
use Rattle.fc_tree.specs.declared.node.Node.{Node}
use Rattle.fc_tree.specs.Counts.{address_in}
use Rattle.fc_tree.specs.Nodes.{HoldObjects, body_in, number_of}
use Rattle.fc_tree.specs.Parts.{AreOwners, owner_of}
use Rattle.fc_tree.proofs.HeldLemmas.{holder_law}
use Rattle.fc_tree.proofs.SoundLemmas.{root_object, root_or_child}
use Rattle.fc_tree.proofs.WalkedLemmas.{child_path, holder-push, listed_directory, root, root_and_held, root_path, same_some}
use Rattle.fc_laws.specs.nodes.Edits.{Nodes, NodesFollow}
use Rattle.fc_laws.proofs.lemmas.nodes.FitsLemmas.{ChildFits, DirectoryFits, apart, fits}
use Rattle.fc_laws.proofs.lemmas.nodes.FollowLemmas.{AllFit, follow}
use Rattle.fc_laws.proofs.lemmas.nodes.KeptLemmas.{way_kept}
use Rattle.fc_laws.proofs.lemmas.nodes.ShapeLemmas.{held_as, held_by, said, says_at, some_mapped}
use Rattle.fc_laws.proofs.lemmas.nodes.WaysLemmas.{AreApart}
use Rattle.fc_changes.proofs.BasicLemmas.{clash, first_in, next_in}
use Rattle.fc_changes.proofs.lemmas.old.PlaceLemmas.{row_or_none}
use Rattle.fc_oldlaws.specs.moves.After.{Slide, address_after, content_after, entry_after, form_of, listing_after, listings_after, move_of, object_after, space_after}
use Rattle.fc_oldlaws.specs.moves.Nodes.{AreMoved, AreRemade, body_after, node_after, node_owner, remade}
use Rattle.fc_oldlaws.proofs.lemmas.moves.ListedLemmas.{passed}

-- objects in directories, each changed
pub held_moved : (s : Slide) (all ls : List Listing) → held (map (listing_after s all) ls) ≡ map (object_after s) (held ls)
held_moved s all [] = refl
held_moved s all (l ∷ ls) = ap (λ (os : List Object). map (object_after s) l.children ++ os) (held_moved s all ls) ∙ sym (both l.children (held ls))
  where
    both : (xs ys : List Object) → map (object_after s) (xs ++ ys) ≡ map (object_after s) xs ++ map (object_after s) ys
    both [] ys = refl
    both (x ∷ xs) ys = ap (λ (os : List Object). object_after s x ∷ os) (both xs ys)

-- all objects, each changed
pub objects_moved : (s : Slide) (listings : List Listing) → objects_of (listings_after s listings) ≡ map (object_after s) (objects_of listings)
objects_moved s listings = by listings ∙ ap (λ (os : List Object). map (object_after s) (first_object listings) ++ os) (held_moved s listings listings) ∙ sym (both (first_object listings) (held listings))
  where
    both : (xs ys : List Object) → map (object_after s) (xs ++ ys) ≡ map (object_after s) xs ++ map (object_after s) ys
    both [] ys = refl
    both (x ∷ xs) ys = ap (λ (os : List Object). object_after s x ∷ os) (both xs ys)

    first : (all ls : List Listing) → first_object (map (listing_after s all) ls) ≡ map (object_after s) (first_object ls)
    first all [] = refl
    first all (l ∷ ls) = refl

    by : (ls : List Listing) → first_object (listings_after s ls) ++ held (listings_after s ls) ≡ map (object_after s) (first_object ls) ++ held (listings_after s ls)
    by ls = ap (λ (os : List Object). os ++ held (listings_after s ls)) (first ls ls)

body_moved : (form : NameForm) (move : ℕ → ℕ) (a : ℕ) (content : Directory) → body_after form move a (body_in content) ≡ body_in (content_after form move a content)
body_moved form move a (Directory.Small dir) = refl
body_moved form move a (Directory.Big dir) = refl

module _ (s : Slide) (nodes nodes' : Nodes) (moved : AreMoved s nodes nodes') (listings : List Listing) (sound : AreSound (Layout.Old s.space) listings) (held_all : HoldObjects nodes listings) where
  abbrev form : NameForm
  form = form_of s

  abbrev move : ℕ → ℕ
  move = move_of s

  abbrev layout : Layout
  layout = Layout.Old s.space

  -- ---- how nodes are held

  held_now : (n h : ℕ) (d : Entry) → held_as nodes n ≡ Some (h, d) → held_as nodes' n ≡ Some (h, entry_after form move d)
  held_now n h d is = ap (option_map held_by) (moved.each n) ∙ by (get nodes n) is
    where
      by : (o : Option Node) → option_map held_by o ≡ Some (h, d) → option_map held_by (option_map (node_after form move nodes) o) ≡ Some (h, entry_after form move d)
      by None p = absurd (cc)
      by (Some a) p = ap (λ (o : Option (ℕ × Entry)). Some ((option_map_or (λ k. k) o (h, d)).0, entry_after form move (option_map_or (λ k. k) o (h, d)).1)) p

  held_was : (n h : ℕ) (e : Entry) → held_as nodes' n ≡ Some (h, e) → (d : Entry) × (held_as nodes n ≡ Some (h, d)) × (entry_after form move d ≡ e)
  held_was n h e is = by (get nodes n) (sym (ap (option_map held_by) (moved.each n)) ∙ is)
    where
      by : (o : Option Node) → option_map held_by (option_map (node_after form move nodes) o) ≡ Some (h, e) → (d : Entry) × (option_map held_by o ≡ Some (h, d)) × (entry_after form move d ≡ e)
      by None p = absurd (cc)
      by (Some a) p =
          let pair = ap (λ (o : Option (ℕ × Entry)). option_map_or (λ k. k) o (h, e)) p in
          (a.entry, ap (λ (x : ℕ × Entry). let o : Option (ℕ × Entry) = Some (x.0, a.entry) in o) pair, ap (λ (x : ℕ × Entry). x.1) pair)

  apart_now : AreApart nodes'
  apart_now m n h d e is_m is_n lower_m lower_n same =
      let a = held_was m h d is_m in
      let b = held_was n h e is_n in
      apart layout listings nodes sound held_all m n h a.0 b.0 a.1 b.1 lower_m lower_n
      (ap (λ (x : Entry). folded x.name) a.2 ∙ same ∙ sym (ap (λ (x : Entry). folded x.name) b.2))

  -- each path leads where it led
  pub leads : (path : Path) (n : ℕ) → number_of nodes path ≡ Some n → number_of nodes' path ≡ Some n
  leads path n e =
      way_kept nodes nodes' (λ p. Unit {0}) apart_now (λ front last dir m step fine. tt) (λ p m h d at fine is. (entry_after form move d, held_now m h d is, refl)) path n e tt

  -- ---- what nodes say

  says_now : (n : ℕ) (node : Node) → get nodes n ≡ Some node → says_at nodes' n ≡ Some (body_after form move (address_in nodes node.holder) node.body)
  says_now n node is = ap (option_map said) (moved.each n ∙ ap (option_map (node_after form move nodes)) is)

  -- the node that holds an object's
  pub above : (o : Object) → Contains (objects_of listings) o → (n : ℕ) → number_of nodes (holder o.path) ≡ Some n → (node : Node) × (get nodes n ≡ Some node)
  above o at n up = ⊎_elim
      (λ top.
      let r = held_all.each (root layout listings sound) (root_object layout listings sound) in
      let none : o.path ≡ [] = ap (λ (x : Object). x.path) (sym top) ∙ root_path layout listings sound in
      let zero' : r.number ≡ n = same_some r.number n (sym r.at_path ∙ ap (number_of nodes) (root_path layout listings sound) ∙ ap (λ (p : Path). number_of nodes (holder p)) (sym none) ∙ up) in
      (_, ap (get nodes) (sym zero') ∙ r.is))
      (λ kid.
      let d = held_all.each kid.0.object (listed_directory layout listings sound kid.0 kid.1).0 in
      let path = child_path layout listings sound kid.0 o kid.1 kid.2 in
      let same : d.number ≡ n = same_some d.number n (sym d.at_path ∙ ap (number_of nodes) (sym (ap holder path ∙ holder-push kid.0.object.path o.entry.name)) ∙ up) in
      (_, ap (get nodes) (sym same) ∙ d.is))
      (root_or_child layout listings sound o at)

  dir_says : (l : Listing) → Contains listings l → (n : ℕ) → number_of nodes l.object.path ≡ Some n → says_at nodes' n ≡ Some (body_in (listing_after s listings l).content)
  dir_says l at n e =
      let among = (listed_directory layout listings sound l at).0 in
      let h = held_all.each l.object among in
      let over = above l.object among h.holder_number h.at_holder in
      let number : h.number ≡ n = same_some h.number n (sym h.at_path ∙ e) in
      let there = ap (get nodes) (sym number) ∙ h.is in
      let says = holder_law layout listings nodes l n _ over.0 sound held_all at e there over.1 in
      let address : address_in nodes h.holder_number ≡ holder_address listings l.object.path = ap (λ (o : Option Node). option_map_or (λ (m : Node). m.entry.address) o 0) over.1 ∙ sym says.1 in
      says_now n _ there
      ∙ ap₂ (λ (a : ℕ) (b : Body). Some (body_after form move a b)) address says.0
      ∙ ap (λ (b : Body). Some b) (body_moved form move (holder_address listings l.object.path) l.content)

  kid_fits : (l : Listing) (dir n : ℕ) (o : Object) → ChildFits nodes dir l.object.path n o → ChildFits nodes' dir l.object.path n (object_after s o)
  kid_fits l dir n o k = record {
    path_is = k.path_is;
    at = leads o.path n k.at;
    held = held_now n dir o.entry k.held;
    file = λ file.
        let node = some_mapped said (get nodes n) bodies.File (k.file file) in
        says_now n node.0 node.1 ∙ ap (λ (b : Body). Some (body_after form move (address_in nodes node.0.holder) b)) node.2;
  }

  fits_now : (l : Listing) → Contains listings l → (n : ℕ) × DirectoryFits nodes' n (listing_after s listings l)
  fits_now l at =
      let f = fits layout listings nodes sound held_all l at in (
        f.0,
        record {
          at = leads l.object.path f.0 f.1.at;
          says = dir_says l at f.0 f.1.at;
          root = λ top. held_now 0 0 l.object.entry (f.1.root top);
          kids = λ o' kid.
              let x = from_map (object_after s) l.children o' kid in
              let k = f.1.kids x.0 x.1 in
              subst (λ (o : Object). (n : ℕ) × ChildFits nodes' f.0 l.object.path n o) x.2 (k.0, kid_fits l f.0 k.0 x.0 k.1);
        },
      )

  all_fit : AllFit nodes' (listings_after s listings)
  all_fit k at =
      let l = from_map (listing_after s listings) listings k at in
      subst (λ (j : Listing). (n : ℕ) × DirectoryFits nodes' n j) l.2 (fits_now l.0 l.1)

  -- The nodes say what the directories say, and hold the objects.
  pub moved_follow : NodesFollow nodes' (listings_after s listings)
  moved_follow =
      let whole = ap (λ (os : List Object). length os) (root_and_held layout listings sound) in
      let now = ap (λ (os : List Object). length os) (held_moved s listings listings) in
      let same = length-map (held listings) (object_after s) in
      let many = moved.many in
      let before = held_all.no_more in
      follow nodes' (listings_after s listings) all_fit (omega (arith, whole, now, same, many, before))

  -- ---- owners

  pub lies : (o : Object) → Contains (objects_of listings) o → sectors_at layout o.entry.address (object_size (dir_form layout) o.entry) ≡ Some o.sectors
  lies o at = (Each-contains (Lies layout sound.reserved) (objects_of listings) o
      (Each-objects (Lies layout sound.reserved) listings (walk_lies sound.read layout sound.reserved sound.address sound.size listings sound.walked)) at).placed

  pub long_by_bytes : (o : Object) → Contains (objects_of listings) o → has_sectors o ≡ true → div_ceil (object_size (dir_form layout) o.entry) (256 * s.space.sector_units) ≡ length o.sectors
  long_by_bytes o at some = ⊎_elim
      (λ none. absurd (clash (has_sectors o) some (ap (λ (xs : List ℕ). nat_lt 0 (length xs)) none.1)))
      (λ r. sym r.long)
      (row_or_none s.space o.entry.address (object_size (dir_form layout) o.entry) o.sectors (lies o at))

  owner_moved : (o : Object) → Contains (objects_of listings) o → has_sectors o ≡ true → remade s.space nodes' (owner_of nodes layout o) ≡ owner_of nodes' (Layout.Old (space_after s)) (object_after s o)
  owner_moved o at some =
      let h = held_all.each o at in
      let number : unwrap_or (number_of nodes o.path) 0 ≡ h.number = ap (λ (k : Option ℕ). unwrap_or k 0) h.at_path in
      let own : unwrap_or (number_of nodes' o.path) 0 ≡ h.number = ap (λ (k : Option ℕ). unwrap_or k 0) (leads o.path h.number h.at_path) in
      let up : unwrap_or (number_of nodes' (holder o.path)) 0 ≡ h.holder_number = ap (λ (k : Option ℕ). unwrap_or k 0) (leads (holder o.path) h.holder_number h.at_holder) in
      let there = moved.each h.number ∙ ap (option_map (node_after form move nodes)) h.is in
      let sectors : length (object_after s o).sectors ≡ div_ceil (object_size (dir_form layout) o.entry) (256 * s.space.sector_units) =
      length-range_with_len (address_after form move o.entry / s.space.sector_units) (length o.sectors) ∙ sym (long_by_bytes o at some) in
      ap (λ (n : ℕ). option_map_or (node_owner s.space n) (get nodes' n) (owner_of nodes layout o)) number
      ∙ ap (λ (x : Option Node). option_map_or (node_owner s.space h.number) x (owner_of nodes layout o)) there
      ∙ sym (λ i. record {
        id = id_of (address_after form move o.entry);
        dir = up i;
        node = own i;
        file = not (is_directory_object o);
        low = low_of (address_after form move o.entry);
        first = 0;
        sectors = sectors i;
      })

  some_stays : (o : Object) → has_sectors (object_after s o) ≡ has_sectors o
  some_stays o = ap (nat_lt 0) (length-range_with_len (address_after form move o.entry / s.space.sector_units) (length o.sectors))

  owners_list : (os : List Object) → ((o : Object) → Contains os o → Contains (objects_of listings) o × (has_sectors o ≡ true))
      → map (remade s.space nodes') (map (owner_of nodes layout) os) ≡ map (owner_of nodes' (Layout.Old (space_after s))) (map (object_after s) os)
  owners_list [] within = refl
  owners_list (o ∷ os) within =
      let here = within o (first_in o os) in
      ap₂ (λ (x : Owner) (xs : List Owner). x ∷ xs) (owner_moved o here.0 here.1) (owners_list os (λ p at. within p (next_in o p os at)))

  -- The owners are those of the objects.
  pub owners_moved : (owners owners' : List Owner) (objects' : List Object) → objects' ≡ map (object_after s) (objects_of listings) → AreOwners owners nodes layout (objects_of listings)
      → AreRemade s.space nodes' owners owners' → AreOwners owners' nodes' (Layout.Old (space_after s)) objects'
  owners_moved owners owners' objects' are owned remade_all =
      let os = filter has_sectors (objects_of listings) in
      let listed = owners_list os (λ o at. (from_filter has_sectors (objects_of listings) o at, passed has_sectors (objects_of listings) o at)) in
      let filtered : filter has_sectors objects' ≡ map (object_after s) os =
      ap (filter has_sectors) are ∙ filter-map has_sectors has_sectors (object_after s) some_stays (objects_of listings) in
      subst (λ (ws : List Owner). IsPermutation ws (map (owner_of nodes' (Layout.Old (space_after s))) (filter has_sectors objects'))) (sym remade_all)
      (subst (IsPermutation (map (remade s.space nodes') owners)) (listed ∙ ap (map (owner_of nodes' (Layout.Old (space_after s)))) (sym filtered))
      (IsPermutation-map (remade s.space nodes') owners (map (owner_of nodes layout) os) owned))
