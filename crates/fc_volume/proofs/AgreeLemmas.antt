-- The parts of a volume whose map is compacted.
use Rattle.std.proofs.Common.{◌≡◌, ◌≤◌, ℕ, Bool, true, false, cond, List, [], ◌∷◌, ◌++◌, length, map, Option, Some, None, refl, sym, ap, ap₂, subst, ◌∙◌}
use Rattle.std.specs.Prelude.{Ok, Contains, IsPermutation, filter, ◌==◌, ◌||◌, ◌&&◌, nat_le, nat_lt}
use Rattle.std.specs.Ordering.{nat_cmp}
use Rattle.std.specs.FinMap.{FinMap}
use Rattle.std.proofs.lemmas.Bool.{and_right, eqb-true, false_from_ne_true as unless}
use Rattle.std.proofs.lemmas.List.{length-map}
use Rattle.fc_record.specs.declared.Kind.{Kind}
use Rattle.fc_names.specs.Names.{Path, is_same_path}
use Rattle.fc_newmap.specs.Map.{Map, ZoneRun, all_runs, id_runs, map_sectors, sectors_of}
use Rattle.fc_newmap.specs.RunsLaw.{IsGeometry}
use Rattle.fc_newmap.proofs.HeldLemmas.{geometry_facts}
use Rattle.fc_alloc.specs.declared.owner.Owner.{Owner}
use Rattle.fc_alloc.specs.Owners.{is_id_owned}
use Rattle.fc_image.specs.Layout.{Layout, dir_form, hole_sectors, id_of, is_among, sectors_at}
use Rattle.fc_image.specs.Walk.{Listing, Object, Reader, object_size, walk}
use Rattle.fc_image.specs.Objects.{has_sectors, is_movable, listing_at, objects_of}
use Rattle.fc_image.specs.Opening.{boot_place, is_hole_or_movable, least_of, misplaced_sector, reserved_in}
use Rattle.fc_image.specs.Moves.{listing_in, sectors_or_none}
use Rattle.fc_image.proofs.EntriesLemmas.{from_map}
use Rattle.fc_image.proofs.HolesLemmas.{EachListed, Has, Lies, holes_loose, id_no_hole, in_id, least_none, lies_step, loose_sectors, none_loose, walk_lies, none_least}
use Rattle.fc_image.proofs.MoveLemmas.{in_carry, loose_before, loose_carry, objects_carry, sectors_carry, tight_from}
use Rattle.fc_image.proofs.RemapLemmas.{AllIn, carry, carry_listing, carry_walk, map_fixed}
use Rattle.fc_compact.specs.Ready.{AreOwnersOf, is_movable_by}
use Rattle.fc_tree.specs.declared.node.Node.{Node}
use Rattle.fc_tree.specs.Agree.{Agree, HasForm, IsDirectory, reader_of_nodes}
use Rattle.fc_tree.specs.Nodes.{HasNode, HoldObjects, body_of}
use Rattle.fc_tree.specs.Parts.{AreOwners, owner_of}
use Rattle.fc_volume.specs.Compacting.{IsCompacted}
use Rattle.fc_volume.proofs.CarryLemmas.{carried, carries, fixed_stays, no_fewer, stays_two}
use Rattle.fc_volume.proofs.MisplacedLemmas.{id_owned}
use Rattle.fc_image.proofs.MapEditLemmas.{at_zones, zones_back}
use Rattle.fc_laws.proofs.lemmas.agree.BeforeLemmas.{new_shape}

-- ---- owners

-- The owners own what the objects own.
pub own_same : (owners : List Owner) (nodes : FinMap nat_cmp Node) (layout : Layout) (objects : List Object) → AreOwners owners nodes layout objects → AreOwnersOf owners objects
own_same owners nodes layout objects owned id = ap (λ b. (id == 2) || b) (id_owned owners nodes layout objects owned id)

-- what the owners let move
pub movable_same : (owners : List Owner) (objects : List Object) → AreOwnersOf owners objects → (id : ℕ) → is_movable objects id ≡ is_movable_by owners id
movable_same owners objects own id = ap (λ b. b && nat_le 3 id) (sym (own id)) ∙ by (id == 2) refl
  where
    by : (b : Bool) → (id == 2) ≡ b → ((b || is_id_owned owners id) && nat_le 3 id) ≡ (is_id_owned owners id && nat_le 3 id)
    by true e = let low : nat_le 3 id ≡ false = ap (nat_le 3) (eqb-true id 2 e) in low ∙ sym (and_right (is_id_owned owners id) (nat_le 3 id) low)
    by false e = refl

-- ---- objects that are carried

carried_filter : (f : ℕ → ℕ) (objects : List Object) → filter has_sectors (map (carry f) objects) ≡ map (carry f) (filter has_sectors objects)
carried_filter f [] = refl
carried_filter f (o ∷ objects) =
    ap (λ (n : ℕ). cond (nat_lt 0 n) (carry f o ∷ filter has_sectors (map (carry f) objects)) (filter has_sectors (map (carry f) objects))) (length-map o.sectors f)
    ∙ by (has_sectors o) (carried_filter f objects)
  where
    by : (b : Bool) → filter has_sectors (map (carry f) objects) ≡ map (carry f) (filter has_sectors objects)
        → cond b (carry f o ∷ filter has_sectors (map (carry f) objects)) (filter has_sectors (map (carry f) objects))
        ≡ map (carry f) (cond b (o ∷ filter has_sectors objects) (filter has_sectors objects))
    by true e = ap (λ (os : List Object). carry f o ∷ os) e
    by false e = e

carried_owners : (nodes : FinMap nat_cmp Node) (m : Map) (zs : List (List ℕ)) (f : ℕ → ℕ) (objects : List Object)
    → map (owner_of nodes (Layout.New (at_zones m zs))) (map (carry f) objects) ≡ map (owner_of nodes (Layout.New m)) objects
carried_owners nodes m zs f [] = refl
carried_owners nodes m zs f (o ∷ objects) =
    ap₂ (λ (n : ℕ) (os : List Owner). record (owner_of nodes (Layout.New m) o) { sectors = n } ∷ os) (length-map o.sectors f) (carried_owners nodes m zs f objects)

owners_after : (owners : List Owner) (nodes : FinMap nat_cmp Node) (m : Map) (zs : List (List ℕ)) (f : ℕ → ℕ) (listings : List Listing) → AreOwners owners nodes (Layout.New m) (objects_of listings)
    → AreOwners owners nodes (Layout.New (at_zones m zs)) (objects_of (map (carry_listing f) listings))
owners_after owners nodes m zs f listings owned =
    subst (IsPermutation owners)
    (sym (ap (λ (os : List Object). map (owner_of nodes (Layout.New (at_zones m zs))) (filter has_sectors os)) (objects_carry f listings)
    ∙ ap (map (owner_of nodes (Layout.New (at_zones m zs)))) (carried_filter f (objects_of listings))
    ∙ carried_owners nodes m zs f (filter has_sectors (objects_of listings)))) owned

says_same : (f : ℕ → ℕ) (listings : List Listing) (path : Path) → body_of (listing_at (map (carry_listing f) listings) path) ≡ body_of (listing_at listings path)
says_same f [] path = refl
says_same f (l ∷ listings) path = by (is_same_path path l.object.path) (says_same f listings path)
  where
    by : (b : Bool) → body_of (listing_at (map (carry_listing f) listings) path) ≡ body_of (listing_at listings path)
        → body_of (cond b (Some (carry_listing f l)) (listing_at (map (carry_listing f) listings) path)) ≡ body_of (cond b (Some l) (listing_at listings path))
    by true e = refl
    by false e = e

held_after : (nodes : FinMap nat_cmp Node) (f : ℕ → ℕ) (listings : List Listing) → HoldObjects nodes listings → HoldObjects nodes (map (carry_listing f) listings)
held_after nodes f listings held = record {
  each = λ o c.
      (let from = from_map (carry f) (objects_of listings) o (subst (λ (os : List Object). Contains os o) (objects_carry f listings) c) in
      let has = held.each from.0 from.1 in
      subst (HasNode nodes (map (carry_listing f) listings)) from.2 (record {
        number = has.number;
        holder_number = has.holder_number;
        at_path = has.at_path;
        at_holder = has.at_holder;
        is = has.is ∙ ap (λ b. let n : Option Node = Some (record { holder = has.holder_number; entry = from.0.entry; body = b }) in n) (sym (says_same f listings from.0.path));
      }));
  no_more = held.no_more ∙ sym (length-map (objects_of listings) (carry f)) ∙ ap length (sym (objects_carry f listings));
}

-- ---- the walk by the compacted map

module _ (m : Map) (zs : List (List ℕ)) (owners : List Owner) (c : IsCompacted m (at_zones m zs) owners) (listings : List Listing) (own : AreOwnersOf owners (objects_of listings)) (kind : Kind)
    (read : Reader) (address size : ℕ) (walked : walk read (Layout.New m) (reserved_in kind (Layout.New m)) address size ≡ Ok listings) where
  abbrev after : Map
  after = at_zones m zs

  abbrev objects : List Object
  objects = objects_of listings

  abbrev reserved : List ℕ
  reserved = reserved_in kind (Layout.New m)

  abbrev f : ℕ → ℕ
  f = carried m after

  abbrev free : ℕ → Type 0
  free s = is_among (hole_sectors (Layout.New m)) s ≡ false

  is : IsGeometry m.geometry
  is = new_shape m c.was_map

  some : 1 ≤ m.geometry.zones
  some = (geometry_facts m.geometry c.was_map.of_record).zones

  fixed : (id : ℕ) → is_movable objects id ≡ false → id_runs after id ≡ id_runs m id
  fixed id e = c.fixed id (sym (movable_same owners objects own id) ∙ e)

  sect : (a n : ℕ) (xs : List ℕ) → sectors_at (Layout.New m) a n ≡ Some xs → (sectors_at (Layout.New after) a n ≡ Some (map f xs)) × AllIn free xs
  sect a n xs h = (
    sectors_carry m after f refl (carries m after refl is c.was_map.right c.is_map.right some (no_fewer m after owners c)) a n xs h,
    λ s i. unless (is_among (hole_sectors (Layout.New m)) s) (id_no_hole m is c.was_map.right some (id_of a) s (in_id m a n xs s h i)),
  )

  lies : EachListed (Lies (Layout.New m) reserved) listings
  lies = walk_lies read (Layout.New m) reserved address size listings walked

  -- what the new map says of the objects is what is carried
  pub same_listings : map (listing_in (Layout.New after)) listings ≡ map (carry_listing f) listings
  same_listings =
      in_carry (Layout.New after) f (Lies (Layout.New m) reserved)
      (λ x l. ap (λ (xs : Option (List ℕ)). let y : Object = record x { sectors = sectors_or_none xs } in y) (sect x.entry.address (object_size (dir_form (Layout.New m)) x.entry) x.sectors l.placed).0)
      listings lies

  module _ (placed : misplaced_sector kind (Layout.New m) (objects_of listings) ≡ None) where
    parts : (least_of (filter (is_among (loose_sectors m objects)) reserved) ≡ None) × (least_of (filter (is_among (map_sectors m.geometry)) (boot_place kind m.geometry.sector)) ≡ None)
    parts = none_least (filter (is_among (loose_sectors m objects)) reserved) (filter (is_among (map_sectors m.geometry)) (boot_place kind m.geometry.sector)) placed

    tight : (s : ℕ) → is_among reserved s ≡ true → is_among (loose_sectors m objects) s ≡ false
    tight = none_loose (loose_sectors m objects) reserved parts.0

    pub walked_after : (read' : Reader) → ((o : Object) → read' (carry f o) ≡ read o) → walk read' (Layout.New after) reserved address size ≡ Ok (map (carry_listing f) listings)
    walked_after read' reads =
        carry_walk (Layout.New m) (Layout.New after) f free read read' refl refl sect
        (stays_two m after refl is c.was_map.right c.is_map.right some (no_fewer m after owners c))
        (Lies (Layout.New m) reserved) (Has reserved) (lies_step (Layout.New m) reserved) (λ x l. reads x)
        reserved address size listings
        (λ s i. unless (is_among (hole_sectors (Layout.New m)) s) (λ h. let yes' = holes_loose m objects s h in let no' = tight s i in cc))
        (λ s i. i)
        (map_fixed f reserved (λ s i. fixed_stays m after refl is c.was_map.right c.is_map.right some (no_fewer m after owners c) objects fixed s (tight s i)))
        walked

    pub placed_after : misplaced_sector kind (Layout.New after) (objects_of (map (carry_listing f) listings)) ≡ None
    placed_after =
        let now : List Object = objects_of (map (carry_listing f) listings) in
        let loose_same : loose_sectors after now ≡ loose_sectors after objects =
        ap (λ (t : ZoneRun → Bool). sectors_of m.geometry (filter t (all_runs after)))
        (λ i p. (ap (λ (os : List Object). is_hole_or_movable os p.1.kind) (objects_carry f listings) ∙ loose_carry f objects p.1.kind) i) in
        least_none (filter (is_among (loose_sectors after now)) reserved) (filter (is_among (map_sectors m.geometry)) (boot_place kind m.geometry.sector))
        (tight_from (loose_sectors after now) reserved
        (λ s i. unless (is_among (loose_sectors after now) s)
        (λ h.
        let h' = subst (λ (xs : List ℕ). is_among xs s ≡ true) loose_same h in
        let was = loose_before m after objects refl is c.was_map.right c.is_map.right some fixed s h' in
        let no' = tight s i in
        cc)))
        parts.1

-- ---- the parts

each_listed : (P : Listing → Type 0) (f : ℕ → ℕ) (listings : List Listing) → ((l : Listing) → Contains listings l → P (carry_listing f l)) → (k : Listing) → Contains (map (carry_listing f) listings) k → P k
each_listed P f listings each k c = let from = from_map (carry_listing f) listings k c in subst P from.2 (each from.0 from.1)

agree_core : (kind : Kind) (m : Map) (zs : List (List ℕ)) (nodes : FinMap nat_cmp Node) (owners : List Owner) → IsCompacted m (at_zones m zs) owners
    → Agree kind (record { layout = Layout.New m; nodes = nodes; owners = owners }) → Agree kind (record { layout = Layout.New (at_zones m zs); nodes = nodes; owners = owners })
agree_core kind m zs nodes owners c a =
    let own = own_same owners nodes (Layout.New m) (objects_of a.listings) a.owned in
    let f = carried m (at_zones m zs) in
    record {
      root = a.root;
      root_is = a.root_is;
      listings = map (carry_listing f) a.listings;
      walked = record {
        walked = walked_after m zs owners c a.listings own kind (reader_of_nodes nodes) a.root.entry.address a.root.entry.len a.walked.walked a.map_placed (reader_of_nodes nodes) (λ o. refl);
        held = held_after nodes f a.listings a.walked.held;
        forms = each_listed (λ l. HasForm (dir_form (Layout.New m)) l.object.entry.len l.content) f a.listings a.walked.forms;
        bodies = each_listed (λ l. IsDirectory l.content) f a.listings a.walked.bodies;
      };
      map_placed = placed_after m zs owners c a.listings own kind (reader_of_nodes nodes) a.root.entry.address a.root.entry.len a.walked.walked a.map_placed;
      owned = owners_after owners nodes m zs f a.listings a.owned;
    }

-- Parts that agree agree again by the compacted map.
pub agree_after : (kind : Kind) (m m' : Map) (nodes : FinMap nat_cmp Node) (owners : List Owner) → IsCompacted m m' owners
    → Agree kind (record { layout = Layout.New m; nodes = nodes; owners = owners }) → Agree kind (record { layout = Layout.New m'; nodes = nodes; owners = owners })
agree_after kind m m' nodes owners c a =
    let back = zones_back m m' c.geometry in
    subst (λ (n : Map). Agree kind (record { layout = Layout.New n; nodes = nodes; owners = owners })) back
    (agree_core kind m m'.zones nodes owners (subst (λ (n : Map). IsCompacted m n owners) (sym back) c) a)

-- The parts of what was opened are those of what the compacted map opens.
parts_core : (kind : Kind) (m : Map) (zs : List (List ℕ)) (nodes : FinMap nat_cmp Node) (owners : List Owner) (listings : List Listing) (read : Reader) (address size : ℕ) → IsCompacted m (at_zones m zs) owners
    → AreOwnersOf owners (objects_of listings) → walk read (Layout.New m) (reserved_in kind (Layout.New m)) address size ≡ Ok listings → HoldObjects nodes listings
    → AreOwners owners nodes (Layout.New m) (objects_of listings)
    → HoldObjects nodes (map (listing_in (Layout.New (at_zones m zs))) listings)
    × AreOwners owners nodes (Layout.New (at_zones m zs)) (objects_of (map (listing_in (Layout.New (at_zones m zs))) listings))
parts_core kind m zs nodes owners listings read address size c own walked held owned =
    let same = same_listings m zs owners c listings own kind read address size walked in
    let f = carried m (at_zones m zs) in (
      subst (HoldObjects nodes) (sym same) (held_after nodes f listings held),
      subst (λ (ls : List Listing). AreOwners owners nodes (Layout.New (at_zones m zs)) (objects_of ls)) (sym same) (owners_after owners nodes m zs f listings owned),
    )

pub parts_after : (kind : Kind) (m m' : Map) (nodes : FinMap nat_cmp Node) (owners : List Owner) (listings : List Listing) (read : Reader) (address size : ℕ) → IsCompacted m m' owners
    → AreOwnersOf owners (objects_of listings) → walk read (Layout.New m) (reserved_in kind (Layout.New m)) address size ≡ Ok listings → HoldObjects nodes listings
    → AreOwners owners nodes (Layout.New m) (objects_of listings)
    → HoldObjects nodes (map (listing_in (Layout.New m')) listings) × AreOwners owners nodes (Layout.New m') (objects_of (map (listing_in (Layout.New m')) listings))
parts_after kind m m' nodes owners listings read address size c own walked held owned =
    let back = zones_back m m' c.geometry in
    subst (λ (n : Map). HoldObjects nodes (map (listing_in (Layout.New n)) listings) × AreOwners owners nodes (Layout.New n) (objects_of (map (listing_in (Layout.New n)) listings))) back
    (parts_core kind m m'.zones nodes owners listings read address size (subst (λ (n : Map). IsCompacted m n owners) (sym back) c) own walked held owned)
