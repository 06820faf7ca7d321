-- What parts that agree have.
use Rattle.std.proofs.Common.{◌≡◌, ◌<◌, ◌≤◌, ℕ, true, List, [], ◌∷◌, ◌++◌, refl, sym, subst, None}
use Rattle.std.specs.Prelude.{Contains, filter}
use Rattle.fc_record.specs.declared.Kind.{Kind}
use Rattle.fc_newmap.specs.Map.{Map, id_runs, map_sectors}
use Rattle.fc_newmap.specs.NewMap.{IsNewMap}
use Rattle.fc_newmap.specs.RunsLaw.{IsGeometry}
use Rattle.fc_newmap.proofs.GeometryLemmas.{geometry_of_valid}
use Rattle.fc_newmap.proofs.HeldLemmas.{GeometryFacts, geometry_facts}
use Rattle.fc_newmap.proofs.CoverLemmas.{run_on_disc}
use Rattle.fc_newmap.proofs.PlaceLemmas.{holder_of, id_run_in}
use Rattle.fc_alloc.specs.declared.owner.Owner.{Owner}
use Rattle.fc_image.specs.Layout.{Layout, disc_sectors, hole_sectors, id_of, is_among, is_apart}
use Rattle.fc_image.specs.Walk.{Listing, Object}
use Rattle.fc_image.specs.Objects.{objects_of}
use Rattle.fc_image.specs.Opening.{boot_place, least_of, misplaced_sector, reserved_in}
use Rattle.fc_image.specs.Sound.{AreSound}
use Rattle.fc_image.specs.Edits.{IsAt, IsListing}
use Rattle.fc_image.proofs.HolesLemmas.{Lies, apart_from, id_no_hole, in_id, loose_sectors}
use Rattle.fc_tree.specs.declared.node.Node.{Node}
use Rattle.fc_tree.specs.Agree.{Agree, AreWalked, reader_of_nodes}
use Rattle.fc_tree.specs.Parts.{AreOwners, Parts}
use Rattle.fc_laws.specs.nodes.Edits.{Nodes}
use Rattle.fc_laws.specs.agree.Agreed.{AgreeOn, parts_with}
use Rattle.fc_laws.specs.agree.Laws.{AgreedLaw}
use Rattle.fc_laws.proofs.lemmas.agree.WalkedLemmas as on_any
use Rattle.fc_tree.proofs.EndLemmas.{no_twin as apart_names}
pub use Rattle.fc_image.proofs.HolesLemmas.{none_least}

-- ---- a map in memory

pub new_shape : (m : Map) → IsNewMap m → IsGeometry m.geometry
new_shape m is = subst IsGeometry is.of_record.1.1 (geometry_of_valid is.of_record.0 is.of_record.1.0)

pub new_facts : (m : Map) → IsNewMap m → GeometryFacts m.geometry
new_facts m is = geometry_facts m.geometry is.of_record

-- what lies at its address on a map lies on the disc
pub disc_holds : (m : Map) (o : Object) → IsNewMap m → IsAt (Layout.New m) o → (s : ℕ) → is_among o.sectors s ≡ true → s < disc_sectors (Layout.New m)
disc_holds m o is at s i =
    let facts = new_facts m is in
    let p = holder_of m.geometry (id_runs m (id_of o.entry.address)) s (in_id m o.entry.address _ o.sectors s at i) in
    let p_in = id_run_in m (id_of o.entry.address) p.0 facts.zones p.1.0 in
    run_on_disc m (new_shape m is) is.right facts.zones facts.begun p.0 s p_in.0 p.1.1

-- ---- parts that agree

module _ (kind : Kind) (m : Map) (nodes : Nodes) (owners : List Owner) (root : Node) (listings : List Listing) (a : AgreeOn kind m nodes owners root listings) where
  abbrev pub reserved : List ℕ
  reserved = reserved_in kind (Layout.New m)

  pub some_zones : 1 ≤ m.geometry.zones
  some_zones = (new_facts m a.is_map).zones

  pub shape : IsGeometry m.geometry
  shape = new_shape m a.is_map

  pub sound : AreSound (Layout.New m) listings
  sound = on_any.sound kind (Layout.New m) nodes root listings a.walked

  abbrev pub Had : Type 0
  Had = on_any.Had kind (Layout.New m) nodes root listings a.walked

  abbrev pub had : Had
  had = on_any.had kind (Layout.New m) nodes root listings a.walked

  -- the place of an object
  pub object_lies : (o : Object) → Contains (objects_of listings) o → Lies (Layout.New m) reserved o
  object_lies o at = on_any.object_lies kind (Layout.New m) nodes root listings a.walked o at

  -- in no hole
  pub no_hole : (o : Object) → Contains (objects_of listings) o → is_apart o.sectors (hole_sectors (Layout.New m)) ≡ true
  no_hole o at =
      apart_from o.sectors (hole_sectors (Layout.New m))
      (λ s i j. id_no_hole m shape a.is_map.right some_zones (id_of o.entry.address) s (in_id m o.entry.address _ o.sectors s (object_lies o at).placed i) j)

  -- and on the disc
  pub on_disc : (o : Object) → Contains (objects_of listings) o → (s : ℕ) → is_among o.sectors s ≡ true → s < disc_sectors (Layout.New m)
  on_disc o at s i = disc_holds m o a.is_map (object_lies o at).placed s i

  -- what is reserved is neither a hole nor movable, and the boot block is no part of the map
  pub tight : least_of (filter (is_among (loose_sectors m (objects_of listings))) reserved) ≡ None
  tight = (none_least (filter (is_among (loose_sectors m (objects_of listings))) reserved) (filter (is_among (map_sectors m.geometry)) (boot_place kind m.geometry.sector)) a.map_placed).0

  pub boot_apart : least_of (filter (is_among (map_sectors m.geometry)) (boot_place kind m.geometry.sector)) ≡ None
  boot_apart = (none_least (filter (is_among (loose_sectors m (objects_of listings))) reserved) (filter (is_among (map_sectors m.geometry)) (boot_place kind m.geometry.sector)) a.map_placed).1

  -- what a directory says and holds
  pub says : (l : Listing) → Contains listings l → IsListing (reader_of_nodes nodes) (Layout.New m) l
  says l at = on_any.says kind (Layout.New m) nodes root listings a.walked l at

-- ---- the law

named' : (kind : Kind) (parts : Parts) (m : Map) → parts.layout ≡ Layout.New m → IsNewMap m → (a : Agree kind parts) → AgreeOn kind m parts.nodes parts.owners a.root a.listings
named' kind parts m layout is a = record {
  is_map = is;
  root_is = a.root_is;
  walked = subst (λ (y : Layout). AreWalked parts.nodes y (reserved_in kind y) a.root.entry.address a.root.entry.len a.listings) layout a.walked;
  map_placed = subst (λ (y : Layout). misplaced_sector kind y (objects_of a.listings) ≡ None) layout a.map_placed;
  owned = subst (λ (y : Layout). AreOwners parts.owners parts.nodes y (objects_of a.listings)) layout a.owned;
}

same' : (kind : Kind) (parts : Parts) (m : Map) (nodes : Nodes) (owners : List Owner) → parts.layout ≡ Layout.New m → parts.nodes ≡ nodes → parts.owners ≡ owners
    → Agree kind (parts_with m nodes owners) → Agree kind parts
same' kind parts m nodes owners layout same_nodes same_owners a = subst (Agree kind) (sym whole) a
  where
    whole : parts ≡ parts_with m nodes owners
    whole = λ i. record { layout = layout i; nodes = same_nodes i; owners = same_owners i }

pub agreed_law : AgreedLaw
agreed_law = record {
  named = named';
  same = same';
  agree = λ kind m nodes owners root listings a. record { root = root; root_is = a.root_is; listings = listings; walked = a.walked; map_placed = a.map_placed; owned = a.owned };
  sound = sound;
  held = λ kind m nodes owners root listings a. a.walked.held;
  sound_by = λ kind parts a. record {
    read = reader_of_nodes parts.nodes;
    reserved = reserved_in kind parts.layout;
    address = a.root.entry.address;
    size = a.root.entry.len;
    walked = a.walked.walked;
    apart = λ l at. apart_names l.content (a.walked.bodies l at);
  };
  viewed = λ kind parts a. record { layout = refl; nodes = a.walked.held; owners = a.owned };
  placed = λ kind m nodes owners root listings a o at. (let lies = object_lies kind m nodes owners root listings a o at in (lies.placed, lies.apart));
  on_disc = disc_holds;
}
