-- A directory that grows, from where it was placed beside an object to where it lies then on the map, and what goes back.
use Rattle.std.proofs.Common.{◌≡◌, ◌<◌, ◌≤◌, inl, inr, ◌&&◌, ◌||◌, ◌==◌, ℕ, ◌+◌, ◌*◌, Bool, true, false, cond, List, [], ◌∷◌, length, refl, sym, ap, ap₂, subst, ◌∙◌, arith, Some, None, Option, ◌-◌}
use Rattle.std.specs.Prelude.{Contains, IfSome, IsPermutation, nat_le, not}
use Rattle.std.specs.List.{find, range_with_len}
use Rattle.std.specs.Option.{option_and_then, option_map_or}
use Rattle.std.specs.FinMap.{get}
use Rattle.std.proofs.lemmas.Bool.{le-leb, leb-true, lt-ltb, ne_eqb}
use Rattle.std.proofs.lemmas.Nat.{div-add-mod'}
use Rattle.fc_names.specs.declared.name.NameForm.{NameForm}
use Rattle.fc_names.specs.declared.name.NameForm.TheVariants as forms
use Rattle.fc_dirs.specs.Directory.{directory_size}
use Rattle.fc_alloc.specs.declared.owner.Owner.{Owner}
use Rattle.fc_alloc.specs.Owners.{is_node}
use Rattle.fc_record.specs.Record.{id_limit}
use Rattle.fc_newmap.specs.Map.{Map, ZoneRun, bits_in, hole_runs, id_runs, is_used, has_id, all_runs}
use Rattle.fc_newmap.specs.NewMap.{IsNewMap}
use Rattle.fc_image.specs.Layout.{Layout, dir_form, id_of, is_among, is_object_id, low_of, sectors_at, new_sectors}
use Rattle.fc_image.specs.Walk.{Listing, Object, is_directory_object, object_size}
use Rattle.fc_image.specs.Objects.{has_sectors, objects_of}
use Rattle.fc_image.specs.Edits.{IsAt}
use Rattle.fc_image.proofs.EntriesLemmas.{from_filter}
use Rattle.fc_image.specs.effects.Placed.{IsPlan, holes_left}
use Rattle.fc_image.specs.effects.Sharing.{new_ids, units}
use Rattle.fc_image.specs.effects.Short.{has_room, is_alone}
use Rattle.fc_changes.proofs.BasicLemmas.{any_in}
use Rattle.fc_changes.proofs.ChangeLemmas.{a_sector}
use Rattle.fc_laws.specs.nodes.Edits.{Nodes}
use Rattle.fc_laws.specs.agree.Agreed.{parts_with}
use Rattle.fc_laws.proofs.lemmas.agree.BeforeLemmas.{new_shape}
use Rattle.fc_objects.specs.Extents.{sectors_in}
use Rattle.fc_plan.specs.declared.plan.Plan.{Plan}
use Rattle.fc_plan.specs.Applied.{IsOther, IsTakenIn, id_in, parts_in}
use Rattle.fc_plan.specs.Parts.{fronts}
use Rattle.fc_plan.proofs.Shorts.{are_new_ids}
use Rattle.fc_plan.proofs.Units.{units_some}
use Rattle.fc_placing.specs.Leaving.{has_other, left_among, left_of as left_before}
use Rattle.fc_placing.specs.Places.{IsOwnPlan}
use Rattle.fc_changes.proofs.StepsLemmas.{low_in_range}
use Rattle.fc_placing.proofs.Shares.{some_sectors}
use Rattle.fc_tree.specs.Counts.{address_in}
use Rattle.fc_tree.specs.declared.node.Node.{Node}
use Rattle.fc_tree.specs.Parts.{Parts}
use Rattle.fc_tree.proofs.WalkedLemmas.{same_some}
use Rattle.fc_edits.specs.Growing.{Growing, Holder, Told}
use Rattle.fc_edits.specs.GrownPlaces.{IsGrownAt, TakesSpace}
use Rattle.fc_edits.specs.Edit.{Amended}
use Rattle.fc_edits.specs.NewPlaces.{is_taken}
use Rattle.fc_edits.specs.Placing.{takings_of}
use Rattle.fc_edits.proofs.lemmas.IdentifierLemmas.{by_map}
use Rattle.fc_change.specs.declared.job.Growth.{Growth}
use Rattle.fc_change.specs.declared.change.Regrowth.{Regrowth}
use Rattle.fc_change.specs.declared.spaces.GrownPlace.{GrownPlace}
use Rattle.fc_change.specs.GrownSpace.{GrowsInto, GrowsThere, IsIdFor, IsGrownAt as IsGrownPlace, address_moved, has_rest, left_by_growth, left_of as left_then}
use Rattle.fc_change.specs.Shortage.{has_room_by, is_alone_by, is_grown_alone}
use Rattle.fc_commands.proofs.GrownRoomLemmas.{IsNodeOf, alone_is, room_is, row_of, zones}
use Rattle.fc_commands.proofs.GrownChangeLemmas.{taking_of}
use Rattle.fc_image.proofs.HolesLemmas.{in_id}
use Rattle.fc_newmap.proofs.PlaceLemmas.{holder_of, id_run_in}
use Rattle.fc_commands.proofs.NodeLemmas.{each_at}
use Rattle.fc_changes.proofs.NewPlaceLemmas.{some_there as some_listed}
use Rattle.fc_outcomes.proofs.lemmas.AddedLemmas.{untaken_one as untaken_is}
use Rattle.fc_record.proofs.KindLemmas.{and_second}

-- ---- small facts

-- new identifiers are those of objects
new_id_high : (m : Map) (id : ℕ) → Contains (new_ids m) id → id < id_limit m.geometry
new_id_high m id at =
    let low = (are_new_ids m).some id at in
    let most = low_in_range 3 (id_limit m.geometry - 3) id (from_filter (λ k. not (is_used m k)) (range_with_len 3 (id_limit m.geometry - 3)) id at) in
    omega (arith, low, most)

-- parts with some bits are some
pub long : (parts : List ZoneRun) (bits : ℕ) → 0 < bits → bits ≤ bits_in parts → 0 < length parts
long [] bits some enough = absurd (omega (arith, some, enough))
long (x ∷ parts) bits some enough = omega arith

-- the owners of other nodes that keep an identifier, if no file is copied
rest_is : (owners : List Owner) (node id : ℕ) → has_rest owners node None id ≡ has_other owners node id
rest_is [] node id = refl
rest_is (o ∷ owners) node id = ap₂ (λ (a b : Bool). a || b) (by (o.id == id) (not (o.node == node))) (rest_is owners node id)
  where
    by : (a b : Bool) → (a && (b && true)) ≡ (a && b)
    by true true = refl
    by true false = refl
    by false b = refl

pub left_is : (owners : List Owner) (node : ℕ) → left_by_growth owners node None ≡ left_among owners node None
left_is owners node = by (find (is_node node) owners)
  where
    by : (o : Option Owner) → option_and_then (left_then owners node None) o ≡ option_and_then (left_before owners node None) o
    by None = refl
    by (Some own) = ap (λ (b : Bool). let r : Option ℕ = cond ((own.id == 2) || b) None (Some own.id) in r) (rest_is owners node own.id)

-- ---- a directory that is to grow

-- Object o of node n, a big directory, with `stay` as the other objects, is placed so to grow to `len` bytes, beside an object with this
-- plan.
pub record IsToGrow (m : Map) (nodes : Nodes) (owners : List Owner) (listings : List Listing) (o : Object) (stay : List Object) (g : Growth) (object dir : Option Plan) (p : GrownPlace) : Type 0 where
  pub node : IsNodeOf m nodes owners listings o g.node
  pub form : dir_form (Layout.New m) ≡ forms.Long
  pub directory : is_directory_object o ≡ true
  pub others : IsPermutation (objects_of listings) (o ∷ stay)
  pub some : 0 < o.entry.len
  pub longer : 0 < g.len
  pub bytes : ℕ
  pub own : IfSome object (IsOwnPlan m bytes)
  pub grown : IsGrownPlace m (parts_with m nodes owners) object g dir p

-- the growth as a part of an edit, by the directories around it
abbrev pub growing_of : Object → GrownPlace → List Told → List Listing → Option Holder → List Amended → Growing
growing_of o p again same holder others = record {
  o = o;
  dir = p.directory.node;
  address = p.directory.address;
  len = p.directory.len;
  sectors = sectors_in p.extents.items;
  again = again;
  same = same;
  holder = holder;
  others = others;
}

-- the directory at its new place
abbrev pub placed_at : GrownPlace → Object → Object
placed_at p o = record o { entry = record o.entry { address = p.directory.address; len = p.directory.len }; sectors = sectors_in p.extents.items }

module _ (m : Map) (nodes : Nodes) (owners : List Owner) (listings : List Listing) (o : Object) (stay : List Object) (g : Growth) (object dir : Option Plan) (p : GrownPlace)
    (to : IsToGrow m nodes owners listings o stay g object dir p) where
  abbrev pub h : Parts
  h = parts_with m nodes owners

  abbrev n : ℕ
  n = g.node

  abbrev objects : List Object
  objects = objects_of listings

  abbrev pub own_id : ℕ
  own_id = id_of o.entry.address

  abbrev grown : Object
  grown = placed_at p o

  abbrev pub alone : Bool
  alone = is_alone_by owners g.node o.entry.address

  is : IsNewMap m
  is = to.node.is_map

  pub address_is : address_in nodes g.node ≡ o.entry.address
  address_is =
      let has = to.node.held.each o to.node.there in
      ap (λ (x : Option Node). option_map_or (λ (a : Node). a.entry.address) x 0) (ap (get nodes) (same_some g.node has.number (sym to.node.number ∙ has.at_path)) ∙ has.is)

  pub alone_as : is_grown_alone h (Some g) ≡ alone
  alone_as = ap (λ (a : ℕ). is_alone_by owners g.node a) address_is

  pub room_as : has_room_by m owners g.node (address_in nodes g.node) g.len ≡ has_room_by m owners g.node o.entry.address g.len
  room_as = ap (λ (a : ℕ). has_room_by m owners g.node a g.len) address_is

  pub room_same : has_room (Layout.New m) objects (o, g.len) ≡ has_room_by m owners g.node o.entry.address g.len
  room_same = room_is m nodes owners listings o g.node to.node g.len to.longer

  pub size_is : (len : ℕ) → object_size (dir_form (Layout.New m)) (record o.entry { len = len }) ≡ len
  size_is len = ap₂ (λ (b : Bool) (f : NameForm). cond b (directory_size f len) len) to.directory to.form

  pub some_size : 0 < m.geometry.sector
  some_size = (new_shape m is).some

  o_at : IsAt (Layout.New m) o
  o_at = each_at (Layout.New m) listings to.node.sound o to.node.there

  o_long : 0 < object_size (dir_form (Layout.New m)) o.entry
  o_long = subst (λ (k : ℕ). 0 < k) (sym (size_is o.entry.len)) to.some

  o_sector : (s : ℕ) × (is_among o.sectors s ≡ true)
  o_sector = a_sector m o.entry.address (object_size (dir_form (Layout.New m)) o.entry) o.sectors o_long some_size o_at

  pub o_some : has_sectors o ≡ true
  o_some = some_listed o.sectors o_sector.0 o_sector.1

  alone_same : is_alone objects o ≡ alone
  alone_same = alone_is m nodes owners listings o g.node to.node o_some

  -- its identifier
  pub own_object_id : is_object_id m own_id ≡ true
  own_object_id =
      let at : new_sectors m o.entry.address (object_size (dir_form (Layout.New m)) o.entry) ≡ Some o.sectors =
      by_map m o.entry.address (object_size (dir_form (Layout.New m)) o.entry) o.sectors o_long o_at in
      (row_of m o.entry.address (object_size (dir_form (Layout.New m)) o.entry) o.sectors (some_sectors m (object_size (dir_form (Layout.New m)) o.entry) is (λ e. let l = o_long in omega (arith, e, l))) at).object

  pub own_used : is_used m own_id ≡ true
  own_used =
      let among = in_id m o.entry.address _ o.sectors o_sector.0 o_at o_sector.1 in
      let q = holder_of m.geometry (id_runs m own_id) o_sector.0 among in
      let there = id_run_in m own_id q.0 (zones m nodes owners listings o g.node to.node) q.1.0 in
      any_in (λ (x : ZoneRun). has_id own_id x.1.kind) (all_runs m) q.0 there.0 there.1

  -- ---- by where it lies

  abbrev Grows : Option Plan → Type 0
  Grows q = IsGrownPlace m (parts_with m nodes owners) object g q p

  module _ (there : GrowsThere m (parts_with m nodes owners) g p) where
    pub there_address : p.directory.address ≡ o.entry.address
    there_address = ap (λ (d : Regrowth). d.address) there.directory ∙ address_is

    pub there_len : p.directory.len ≡ g.len
    there_len = ap (λ (d : Regrowth). d.len) there.directory

    pub there_at : sectors_at (Layout.New m) o.entry.address g.len ≡ Some (sectors_in p.extents.items)
    there_at = ap (λ (a : ℕ). sectors_at (Layout.New m) a g.len) (sym address_is) ∙ there.sectors

  module _ (plan : Plan) (into : GrowsInto m (parts_with m nodes owners) object g plan p) where
    into_len : p.directory.len ≡ g.len
    into_len = ap (λ (d : Regrowth). d.len) into.directory

    into_no_room : has_room (Layout.New m) objects (o, g.len) ≡ false
    into_no_room = room_same ∙ sym room_as ∙ into.no_room

    -- by whether it was alone
    pub by_alone : {T : Type 0} → (alone ≡ true → plan.id ≡ own_id → p.directory.address ≡ o.entry.address → T)
        → (alone ≡ false → Contains (new_ids m) plan.id → IsOther plan.id object → p.directory.address ≡ 256 * plan.id → T) → T
    by_alone {T} first second =
        by alone refl (subst (λ (a : ℕ). IsIdFor m alone a object plan.id) address_is (subst (λ (b : Bool). IsIdFor m b (address_in nodes g.node) object plan.id) alone_as into.space.id))
        (ap (λ (d : Regrowth). d.address) into.directory ∙ ap₂ (λ (b : Bool) (a : ℕ). address_moved b a plan) alone_as address_is)
      where
        by : (b : Bool) → alone ≡ b → IsIdFor m b o.entry.address object plan.id → p.directory.address ≡ address_moved b o.entry.address plan → T
        by true e id address = first e id address
        by false e id address = second e id.0 id.1 address

    pub plan_object_id : is_object_id m plan.id ≡ true
    plan_object_id = by_alone (λ e id address. ap (is_object_id m) id ∙ own_object_id)
        (λ e new other address.
        (let low = (are_new_ids m).some plan.id new in
        ap₂ (λ (a b : Bool). a && b) (le-leb 2 plan.id (omega (arith, low))) (lt-ltb plan.id (id_limit m.geometry) (new_id_high m plan.id new))))

    pub at_new : (m' : Map) → m'.geometry ≡ m.geometry → IsTakenIn m' plan → sectors_at (Layout.New m') p.directory.address g.len ≡ Some (sectors_in p.extents.items)
    at_new m' same taken = by_alone
        (λ e id address.
        let low : low_of o.entry.address < 2 = (let l = leb-true (low_of o.entry.address) 1 (and_second (not (own_id == 2) && not (has_other owners g.node own_id)) (nat_le (low_of o.entry.address) 1) e) in omega (arith, l)) in
        let whole : 256 * plan.id + low_of o.entry.address ≡ o.entry.address = (let parts = div-add-mod' o.entry.address 256 in omega (arith, parts, id)) in
        ap (λ (a : ℕ). sectors_at (Layout.New m') a g.len) (address ∙ sym whole) ∙ into.leads m' (low_of o.entry.address) same taken plan_object_id low)
        (λ e new other address.
        ap (λ (a : ℕ). sectors_at (Layout.New m') a g.len) (address ∙ (let z : 256 * plan.id ≡ 256 * plan.id + 0 = omega arith in z)) ∙ into.leads m' 0 same taken plan_object_id (omega arith))

    plan_some : 0 < length (fronts plan.parts.items)
    plan_some = long (fronts plan.parts.items) (units m.geometry g.len) (units_some m g.len is to.longer) into.space.plan_is.taken.enough

  -- ---- where it lies, as growth asks for it

  pub not_before : (q : Option Plan) (id : ℕ) → IsOther id q → is_taken (takings_of (id_in q) (parts_in q)) id ≡ false
  not_before None id other = refl
  not_before (Some q) id other = by (fronts q.parts.items)
    where
      by : (parts : List ZoneRun) → is_taken (takings_of q.id parts) id ≡ false
      by [] = refl
      by (x ∷ parts) = ap (λ (b : Bool). b || false) (ne_eqb q.id id (λ same. other (sym same)))

  module _ (again : List Told) (same : List Listing) (holder : Option Holder) (others : List Amended) where
    abbrev gr : Growing
    gr = growing_of o p again same holder others

    lies_in : (q : Option Plan) → Grows q → IsGrownAt m objects (takings_of (id_in object) (parts_in object)) gr (taking_of q)
    lies_in None there = inl (record {
      room = ap (λ (k : ℕ). has_room (Layout.New m) objects (o, k)) (there_len there) ∙ room_same ∙ sym room_as ∙ there.room;
      address = there_address there;
      nothing = refl;
    })
    lies_in (Some plan) into = inr (
      record { id = plan.id; parts = fronts plan.parts.items },
      refl,
      takes,
      by_alone plan into (λ e id address. inl (record { alone = alone_same ∙ e; id = id; address = address }))
          (λ e new other address. inr (record { not_alone = alone_same ∙ e; is_new = new; other = not_before object plan.id other; address = address })),
    )
      where
        takes : TakesSpace m objects (takings_of (id_in object) (parts_in object)) gr (record { id = plan.id; parts = fronts plan.parts.items })
        takes = record {
          no_room = ap (λ (k : ℕ). has_room (Layout.New m) objects (o, k)) (into_len plan into) ∙ into_no_room plan into;
          plan = subst (λ (hs : List ZoneRun). IsPlan m.geometry hs (units m.geometry p.directory.len) (fronts plan.parts.items)) (sym (untaken_is (hole_runs m) (id_in object) (parts_in object)))
              (subst (λ (k : ℕ). IsPlan m.geometry (holes_left (hole_runs m) (parts_in object)) (units m.geometry k) (fronts plan.parts.items)) (sym (into_len plan into)) into.space.plan_is);
        }

    pub lies : IsGrownAt m objects (takings_of (id_in object) (parts_in object)) gr (taking_of dir)
    lies = lies_in dir to.grown

  pub len_is : p.directory.len ≡ g.len
  len_is = by dir to.grown
    where
      by : (q : Option Plan) → Grows q → p.directory.len ≡ g.len
      by None there = there_len there
      by (Some plan) into = into_len plan into

  pub node_is : p.directory.node ≡ g.node
  node_is = by dir to.grown
    where
      by : (q : Option Plan) → Grows q → p.directory.node ≡ g.node
      by None there = ap (λ (d : Regrowth). d.node) there.directory
      by (Some plan) into = ap (λ (d : Regrowth). d.node) into.directory

  -- its address has the identifier of an object
  pub address_id : is_object_id m (id_of p.directory.address) ≡ true
  address_id = by dir to.grown
    where
      by : (q : Option Plan) → Grows q → is_object_id m (id_of p.directory.address) ≡ true
      by None there = ap (λ (a : ℕ). is_object_id m (id_of a)) (there_address there) ∙ own_object_id
      by (Some plan) into = by_alone plan into (λ e id address. ap (λ (a : ℕ). is_object_id m (id_of a)) address ∙ own_object_id)
          (λ e new other address. ap (λ (a : ℕ). is_object_id m (id_of a)) address ∙ ap (is_object_id m) (let z : id_of (256 * plan.id) ≡ plan.id = omega arith in z) ∙ plan_object_id plan into)
