-- Any edit of the objects of agreeing parts.
use Rattle.std.proofs.Common.{◌≡◌, ◌≤◌, ℕ, ◌+◌, ◌*◌, ◌/◌, Bool, true, false, cond, List, ◌∷◌, ◌++◌, length, map, refl, sym, ap, subst, ◌∙◌, arith, None, eq-eqb}
use Rattle.std.specs.Prelude.{Contains, IsPermutation, filter, nat_le, ◌==◌, ◌||◌, ◌&&◌}
use Rattle.std.proofs.lemmas.Bool.{eqb-true, false_from_ne_true as unless}
use Rattle.std.proofs.lemmas.List.Sorted.{list_any-IsPermutation}
use Rattle.fc_names.specs.declared.name.NameForm.{NameForm}
use Rattle.fc_names.specs.declared.name.NameForm.TheVariants.{Long, Ten}
use Rattle.fc_record.specs.declared.Geometry.{Geometry}
use Rattle.fc_record.specs.declared.Kind.{Kind}
use Rattle.fc_zone.specs.declared.RunKind.{RunKind}
use Rattle.fc_zone.specs.declared.RunKind.TheVariants as kinds
use Rattle.fc_newmap.specs.Map.{Map, ZoneRun, all_runs, has_id, id_runs, is_used, map_sectors, sectors_of}
use Rattle.fc_newmap.specs.NewMap.{IsNewMap}
use Rattle.fc_newmap.specs.RunsLaw.{HasZones, HoldsSector, IsGeometry}
use Rattle.fc_newmap.proofs.CoverLemmas.{run_there}
use Rattle.fc_newmap.proofs.PlaceLemmas.{filter_in, held_in, holder_of, id_run_in, in_filter, in_id_runs}
use Rattle.fc_newmap.proofs.RunsLemmas.{runs_apart}
use Rattle.fc_dirs.specs.Directory.{directory_size}
use Rattle.fc_alloc.specs.declared.owner.Owner.{Owner}
use Rattle.fc_image.specs.Layout.{Layout, dir_form, disc_sectors, is_among}
use Rattle.fc_image.specs.Walk.{Listing, Object, root_entry}
use Rattle.fc_image.specs.Objects.{is_movable, is_owner_of, objects_of}
use Rattle.fc_image.specs.Opening.{boot_place, is_hole_or_movable, least_of, misplaced_sector, reserved_in}
use Rattle.fc_image.specs.Edits.{Apart, IsRoot, StayListed}
use Rattle.fc_image.specs.EditedWalk.{IsRelisting}
use Rattle.fc_image.specs.MapEdits.{KeepsPlace}
use Rattle.fc_image.proofs.HolesLemmas.{least_none, loose_sectors, none_loose}
use Rattle.fc_image.proofs.MapEditLemmas.{places_law}
use Rattle.fc_image.proofs.MoveLemmas.{tight_from}
use Rattle.fc_tree.specs.declared.node.Node.{Node}
use Rattle.fc_tree.specs.Agree.{Agree, HasForm, IsDirectory, reader_of_nodes}
use Rattle.fc_changes.proofs.BasicLemmas.{any_in, clash}
use Rattle.fc_laws.specs.nodes.Edits.{Nodes}
use Rattle.fc_laws.specs.agree.Agreed.{AgreeOn, PartsFollow, parts_with}
use Rattle.fc_laws.proofs.lemmas.agree.BeforeLemmas.{Had, boot_apart, had, shape, some_zones, tight}
use Rattle.fc_laws.proofs.lemmas.agree.RoomLemmas.{room}
use Rattle.fc_laws.proofs.lemmas.agree.WalkEditLemmas.{walked_after}
use Rattle.fc_laws.proofs.lemmas.agree.WalkedLemmas as on_any
use Rattle.fc_image.proofs.OpenedLemmas.{not_loose, IsFixed as AreFixed, movable_shuffled}

-- ---- loose sectors of two maps

-- a loose sector of the new map was loose in the old one
pub loose_before : (m m' : Map) (objects objects' : List Object) → m'.geometry ≡ m.geometry → IsGeometry m.geometry → HasZones m → HasZones m' → 1 ≤ m.geometry.zones
    → AreFixed m m' objects objects' → (s : ℕ) → is_among (loose_sectors m' objects') s ≡ true → is_among (loose_sectors m objects) s ≡ true
loose_before m m' objects objects' e is has has' some fixed s h =
    let test : ZoneRun → Bool = λ q. is_hole_or_movable objects' q.1.kind in
    let p' = holder_of m'.geometry (filter test (all_runs m')) s h in
    let f' = filter_in test (all_runs m') p'.0 p'.1.0 in
    let holds' : HoldsSector m.geometry p'.0 s = subst (λ (g : Geometry). HoldsSector g p'.0 s) e p'.1.1 in
    let p = run_there m m' e is has has' some p'.0 s f'.0 holds' in
    by p'.0 p.0 f' p.1 holds' (is_hole_or_movable objects p.0.1.kind) refl
  where
    stuck : (k : RunKind) → is_hole_or_movable objects k ≡ false → (id : ℕ) × ((has_id id k ≡ true) × (is_movable objects id ≡ false))
    stuck kinds.Hole h' = absurd (cc)
    stuck (kinds.Id id) h' = (id, (eq-eqb id id refl, h'))

    by : (p' p : ZoneRun) → Contains (all_runs m') p' × (is_hole_or_movable objects' p'.1.kind ≡ true) → Contains (all_runs m) p × HoldsSector m.geometry p s
        → HoldsSector m.geometry p' s → (b : Bool) → is_hole_or_movable objects p.1.kind ≡ b → is_among (loose_sectors m objects) s ≡ true
    by p' p f' c holds' true l =
        held_in m.geometry (filter (λ q. is_hole_or_movable objects q.1.kind) (all_runs m)) p s (in_filter (λ q. is_hole_or_movable objects q.1.kind) (all_runs m) p c.0 l) c.1
    by p' p f' c holds' false l =
        absurd (
        let id = stuck p.1.kind l in
        let used : is_used m id.0 ≡ true = any_in (λ (q : ZoneRun). has_id id.0 q.1.kind) (all_runs m) p c.0 id.1.0 in
        let stays = fixed id.0 id.1.1 used in
        let there = subst (λ (ps : List ZoneRun). Contains ps p) (sym stays.0) (in_id_runs m id.0 p some c.0 id.1.0) in
        let some' : 1 ≤ m'.geometry.zones = subst (λ (g : Geometry). 1 ≤ g.zones) (sym e) some in
        let p_in = id_run_in m' id.0 p some' there in
        let is' = subst IsGeometry (sym e) is in
        let same = runs_apart m' is' has' p p' p_in.0 f'.0 s (subst (λ (g : Geometry). HoldsSector g p s) (sym e) c.1) (subst (λ (g : Geometry). HoldsSector g p' s) (sym e) holds') in
        clash (is_hole_or_movable objects' p'.1.kind) f'.1
        (subst (λ (q : ZoneRun). is_hole_or_movable objects' q.1.kind ≡ false) same (not_loose objects' id.0 p.1.kind id.1.0 stays.1)))

loose_shuffled : (objects others : List Object) → IsPermutation objects others → (k : RunKind) → is_hole_or_movable objects k ≡ is_hole_or_movable others k
loose_shuffled objects others s kinds.Hole = refl
loose_shuffled objects others s (kinds.Id k) = movable_shuffled objects others k s

-- it doesn't count in which order the objects stand
pub misplaced_shuffled : (kind : Kind) (m : Map) (objects others : List Object) → IsPermutation objects others
    → misplaced_sector kind (Layout.New m) objects ≡ misplaced_sector kind (Layout.New m) others
misplaced_shuffled kind m objects others s =
    ap (λ (t : RunKind → Bool). least_of (filter (is_among (sectors_of m.geometry (filter (λ p. t p.1.kind) (all_runs m)))) (reserved_in kind (Layout.New m))
    ++ filter (is_among (map_sectors m.geometry)) (boot_place kind m.geometry.sector)))
    (λ i k. loose_shuffled objects others s k i)

-- ---- the edit

module _ (kind : Kind) (m m' : Map) (nodes nodes' : Nodes) (owners owners' : List Owner) (root : Node) (listings listings' : List Listing) (a : AgreeOn kind m nodes owners root listings)
    (g : Object → Object) (gone come kept : List Object) where
  abbrev before : Had kind m nodes owners root listings a
  before = had kind m nodes owners root listings a

  -- Objects go, come and change, and the nodes say so. The root lies where these numbers say.
  pub record IsAnyEdit (address size : ℕ) : Type 0 where
    pub is_map : IsNewMap m'
    pub geometry : m'.geometry ≡ m.geometry
    pub relisted : IsRelisting g listings listings' gone come kept
    pub few : length listings' ≤ length listings + 1
    pub say : StayListed (reader_of_nodes nodes') (Layout.New m') listings'
    pub root_now : IsRoot (Layout.New m') address size (g before.top)
    pub whole : directory_size (dir_form (Layout.New m')) size ≡ size
    pub apart : Apart (reserved_in kind (Layout.New m)) (come ++ map g (before.top ∷ kept))
    pub clear : misplaced_sector kind (Layout.New m') (come ++ map g (before.top ∷ kept)) ≡ None
    pub forms : (l : Listing) → Contains listings' l → HasForm (dir_form (Layout.New m')) l.object.entry.len l.content
    pub bodies : (l : Listing) → Contains listings' l → IsDirectory l.content
    pub follow : PartsFollow nodes' owners' (Layout.New m') listings'

  module _ (address size : ℕ) (e : IsAnyEdit address size) where
    -- These listings are found, in some order, and the parts agree on them.
    pub agreed_on : (r : Node) × (found : List Listing) × AgreeOn kind m' nodes' owners' r found × IsPermutation listings' found
    agreed_on =
        let disc_same : disc_sectors (Layout.New m') ≡ disc_sectors (Layout.New m) = ap (λ (y : Geometry). y.disc_bits * y.bit_bytes / y.sector) e.geometry in
        let reserved_same : reserved_in kind (Layout.New m') ≡ reserved_in kind (Layout.New m) = ap (λ (y : Geometry). map_sectors y ++ boot_place kind y.sector) e.geometry in
        let now =
        walked_after kind (Layout.New m) (Layout.New m') nodes nodes' owners' root listings listings' a.walked g gone come kept address size
        (record {
          relisted = e.relisted;
          room = (let few = e.few in let most = room kind m nodes owners root listings a in omega (arith, few, most, disc_same));
          say = e.say;
          root_now = e.root_now;
          whole = e.whole;
          apart = subst (λ (ss : List ℕ). Apart ss (come ++ map g (before.top ∷ kept))) (sym reserved_same) e.apart;
          forms = e.forms;
          bodies = e.bodies;
          follow = e.follow;
        }) in (
          now.node,
          now.found,
          record {
            is_map = e.is_map;
            root_is = now.root_is;
            walked = now.walked;
            map_placed = misplaced_shuffled kind m' (objects_of now.found) (come ++ map g (before.top ∷ kept)) now.objects ∙ e.clear;
            owned = now.owned;
          },
          now.order,
        )

    pub agreed_anyhow : Agree kind (parts_with m' nodes' owners')
    agreed_anyhow =
        let on = agreed_on in
        record { root = on.0; root_is = on.2.root_is; listings = on.1; walked = on.2.walked; map_placed = on.2.map_placed; owned = on.2.owned }

  -- nothing comes to be misplaced, if what isn't movable stays so with its runs
  pub clear_of : IsNewMap m' → m'.geometry ≡ m.geometry → (objects' : List Object) → AreFixed m m' (objects_of listings) objects' → misplaced_sector kind (Layout.New m') objects' ≡ None
  clear_of is_map geometry objects' fixed =
      let layout' : Layout = Layout.New m' in
      let reserved_same : reserved_in kind layout' ≡ reserved_in kind (Layout.New m) = ap (λ (y : Geometry). map_sectors y ++ boot_place kind y.sector) geometry in
      let stuck = none_loose (loose_sectors m (objects_of listings)) (reserved_in kind (Layout.New m)) (tight kind m nodes owners root listings a) in
      least_none (filter (is_among (loose_sectors m' objects')) (reserved_in kind layout')) (filter (is_among (map_sectors m'.geometry)) (boot_place kind m'.geometry.sector))
      (tight_from (loose_sectors m' objects') (reserved_in kind layout')
      (λ s i. unless (is_among (loose_sectors m' objects') s)
      (λ h. clash (is_among (loose_sectors m (objects_of listings)) s)
      (loose_before m m' (objects_of listings) objects' geometry (shape kind m nodes owners root listings a) a.is_map.right is_map.right (some_zones kind m nodes owners root listings a) fixed s h)
      (stuck s (subst (λ (ss : List ℕ). is_among ss s ≡ true) reserved_same i)))))
      (subst (λ (y : Geometry). least_of (filter (is_among (map_sectors y)) (boot_place kind y.sector)) ≡ None) (sym geometry) (boot_apart kind m nodes owners root listings a))

  -- ---- the root stays

  -- Objects go, come and change, and the nodes say so.
  pub record IsPartsEdit : Type 0 where
    pub is_map : IsNewMap m'
    pub geometry : m'.geometry ≡ m.geometry
    pub relisted : IsRelisting g listings listings' gone come kept
    pub few : length listings' ≤ length listings + 1
    pub say : StayListed (reader_of_nodes nodes') (Layout.New m') listings'
    pub top_stays : g before.top ≡ before.top
    pub top_placed : KeepsPlace m m' before.top
    pub apart : Apart (reserved_in kind (Layout.New m)) (come ++ map g (before.top ∷ kept))
    pub fixed : AreFixed m m' (objects_of listings) (come ++ map g (before.top ∷ kept))
    pub forms : (l : Listing) → Contains listings' l → HasForm (dir_form (Layout.New m')) l.object.entry.len l.content
    pub bodies : (l : Listing) → Contains listings' l → IsDirectory l.content
    pub follow : PartsFollow nodes' owners' (Layout.New m') listings'

  form_same : m'.geometry ≡ m.geometry → dir_form (Layout.New m') ≡ dir_form (Layout.New m)
  form_same same = ap (λ (y : Geometry). let f : NameForm = cond (y.version == 0) Ten Long in f) same

  -- the root's length is that of its object
  pub root_size : directory_size (dir_form (Layout.New m)) root.entry.len ≡ root.entry.len
  root_size = on_any.root_size kind (Layout.New m) nodes root listings a.walked a.root_is

  pub root_stays : m'.geometry ≡ m.geometry → KeepsPlace m m' before.top → IsRoot (Layout.New m') root.entry.address root.entry.len before.top
  root_stays geometry placed = record {
    path = before.is_root.path;
    entry = before.is_root.entry ∙ ap (λ (f : NameForm). root_entry root.entry.address (directory_size f root.entry.len)) (sym (form_same geometry));
    placed = places_law m m' before.top geometry placed before.is_root.placed;
  }

  pub any_edit : IsPartsEdit → IsAnyEdit root.entry.address root.entry.len
  any_edit e = record {
    is_map = e.is_map;
    geometry = e.geometry;
    relisted = e.relisted;
    few = e.few;
    say = e.say;
    root_now = subst (IsRoot (Layout.New m') root.entry.address root.entry.len) (sym e.top_stays) (root_stays e.geometry e.top_placed);
    whole = ap (λ (f : NameForm). directory_size f root.entry.len) (form_same e.geometry) ∙ root_size;
    apart = e.apart;
    clear = clear_of e.is_map e.geometry (come ++ map g (before.top ∷ kept)) e.fixed;
    forms = e.forms;
    bodies = e.bodies;
    follow = e.follow;
  }

  pub agreed_after : IsPartsEdit → Agree kind (parts_with m' nodes' owners')
  agreed_after e = agreed_anyhow root.entry.address root.entry.len (any_edit e)
