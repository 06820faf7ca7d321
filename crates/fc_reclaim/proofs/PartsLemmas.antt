-- The parts of a volume whose lost runs have gone back.
use Rattle.std.proofs.Common.{◌≡◌, ◌*◌, ◌/◌, ℕ, Bool, true, false, List, [], ◌∷◌, map, None, refl, sym, ap, subst, ◌∙◌}
use Rattle.std.specs.Prelude.{Ok, Err, IsPermutation, filter}
use Rattle.std.specs.Ordering.{nat_cmp}
use Rattle.std.specs.FinMap.{FinMap}
use Rattle.fc_record.specs.declared.Geometry.{Geometry}
use Rattle.fc_record.specs.declared.Kind.{Kind}
use Rattle.fc_record.specs.declared.Kind.TheVariants.{DiscD}
use Rattle.fc_newmap.specs.Map.{Map, id_runs, map_sectors}
use Rattle.fc_newmap.proofs.PlaceLemmas.{in_either, in_front}
use Rattle.fc_alloc.specs.declared.owner.Owner.{Owner}
use Rattle.fc_image.specs.Layout.{Layout, dir_form, is_among}
use Rattle.fc_image.specs.Walk.{Object, walk}
use Rattle.fc_image.specs.Objects.{has_sectors, is_lost, objects_of}
use Rattle.fc_image.specs.Opening.{Opened, boot_place, misplaced_sector, reserved_in}
use Rattle.fc_image.proofs.HolesLemmas.{Each-contains, Each-objects, Lies, least_none, loose_sectors, none_loose, walk_lies}
use Rattle.fc_image.proofs.MoveLemmas.{tight_from}
use Rattle.fc_image.proofs.WalkLemmas.{walk-Tells}
use Rattle.fc_compact.specs.Ready.{AreOwnersOf}
use Rattle.fc_tree.specs.declared.node.Node.{Node}
use Rattle.fc_tree.specs.Agree.{Agree, HasForm, reader_of_nodes}
use Rattle.fc_tree.specs.Parts.{AreOwners, ArePartsOf, owner_of}
use Rattle.fc_reclaim.specs.Lost.{Covers}
use Rattle.fc_reclaim.specs.Map.{IsReclaimed}
use Rattle.fc_reclaim.specs.Settled.{by_map}
use Rattle.fc_reclaim.proofs.OwnedLemmas.{lost_same, none_least, owned_kept, placed_after}
use Rattle.fc_reclaim.proofs.SettledLemmas.{places_kept, walked_there}
use Rattle.fc_reclaim.proofs.ZoneStepLemmas.{passed_all}
use Rattle.fc_image.proofs.MapEditLemmas.{at_zones, zones_back as back}

-- ---- owners

-- an owner knows nothing of the map but its geometry
pub owners_kept : (owners : List Owner) (nodes : FinMap nat_cmp Node) (m m' : Map) (objects : List Object) → m'.geometry ≡ m.geometry
    → AreOwners owners nodes (Layout.New m) objects → AreOwners owners nodes (Layout.New m') objects
owners_kept owners nodes m m' objects same owned =
    subst (λ (n : Map). AreOwners owners nodes (Layout.New n) objects) (back m m' same) (core (filter has_sectors objects) owned)
  where
    each : (os : List Object) → map (owner_of nodes (Layout.New m)) os ≡ map (owner_of nodes (Layout.New (at_zones m m'.zones))) os
    each [] = refl
    each (o ∷ os) = ap (λ (rest : List Owner). owner_of nodes (Layout.New m) o ∷ rest) (each os)

    core : (os : List Object) → IsPermutation owners (map (owner_of nodes (Layout.New m)) os) → IsPermutation owners (map (owner_of nodes (Layout.New (at_zones m m'.zones))) os)
    core os h = subst (IsPermutation owners) (each os) h

-- ---- parts that agree

-- the kind as which the parts agree afterwards: a boot block that doesn't fit is none
abbrev pub kind_after : Bool → Kind → Kind
kind_after true kind = kind
kind_after false kind = DiscD

covered : (boot : Bool) (kind : Kind) → Covers boot (kind_after boot kind)
covered true kind sector s i = refl
covered false kind sector s i = absurd (cc)

less_reserved : (boot : Bool) (kind : Kind) (m : Map) (s : ℕ) → is_among (reserved_in (kind_after boot kind) (Layout.New m)) s ≡ true → is_among (reserved_in kind (Layout.New m)) s ≡ true
less_reserved true kind m s i = i
less_reserved false kind m s i = elim (in_either (map_sectors m.geometry) [] s i) [
  | Ok of_map ↦ in_front (map_sectors m.geometry) (boot_place kind m.geometry.sector) s of_map
  | Err of_none ↦ absurd (cc)
]

-- fewer sectors are reserved
placed_less : (boot : Bool) (kind : Kind) (m : Map) (objects : List Object) → misplaced_sector kind (Layout.New m) objects ≡ None → misplaced_sector (kind_after boot kind) (Layout.New m) objects ≡ None
placed_less true kind m objects placed = placed
placed_less false kind m objects placed =
    let parts = none_least (filter (is_among (loose_sectors m objects)) (reserved_in kind (Layout.New m))) (filter (is_among (map_sectors m.geometry)) (boot_place kind m.geometry.sector)) placed in
    least_none (filter (is_among (loose_sectors m objects)) (reserved_in DiscD (Layout.New m))) []
    (tight_from (loose_sectors m objects) (reserved_in DiscD (Layout.New m)) (λ s i. none_loose (loose_sectors m objects) (reserved_in kind (Layout.New m)) parts.0 s (less_reserved false kind m s i)))
    refl

-- Parts that agree agree again by the reclaimed map.
pub agree_after : (boot : Bool) (owners : List Owner) (kind : Kind) (m m' : Map) (nodes : FinMap nat_cmp Node) → IsReclaimed boot owners m m' → ((objects : List Object) → AreOwners owners nodes (Layout.New m) objects → AreOwnersOf owners objects)
    → Agree kind (record { layout = Layout.New m; nodes = nodes; owners = owners }) → Agree (kind_after boot kind) (record { layout = Layout.New m'; nodes = nodes; owners = owners })
agree_after boot owners kind m m' nodes done own_same a =
    let passed = passed_all boot owners m m' done in
    let objects = objects_of a.listings in
    let own = own_same objects a.owned in
    let kept : (id : ℕ) → is_lost objects id ≡ false → id_runs m' id ≡ id_runs m id = λ id h. owned_kept boot owners m m' passed id (sym (lost_same owners objects own id) ∙ h) in
    let reserved = reserved_in kind (Layout.New m) in
    let lies = walk_lies (reader_of_nodes nodes) (Layout.New m) reserved a.root.entry.address a.root.entry.len a.listings a.walked.walked in
    let form : dir_form (Layout.New m') ≡ dir_form (Layout.New m) = ap (λ (g : Geometry). dir_form (Layout.New (record { geometry = g; zones = [] }))) done.geometry in
    record {
      root = a.root;
      root_is = a.root_is;
      listings = a.listings;
      walked = record {
        walked = subst (λ (g : Geometry). walk (reader_of_nodes nodes) (Layout.New m') (reserved_in (kind_after boot kind) (Layout.New (record { geometry = g; zones = m.zones }))) a.root.entry.address a.root.entry.len ≡ Ok a.listings) (sym done.geometry)
            (walked_there (reader_of_nodes nodes) (reader_of_nodes nodes) (Layout.New m) (Layout.New m') reserved (reserved_in (kind_after boot kind) (Layout.New m)) a.root.entry.address a.root.entry.len a.listings
            form (ap (λ (g : Geometry). g.disc_bits * g.bit_bytes / g.sector) done.geometry) (less_reserved boot kind m)
            (λ o c. places_kept m m' objects done.geometry kept o c (Each-contains (Lies (Layout.New m) reserved) objects o (Each-objects (Lies (Layout.New m) reserved) a.listings lies) c).placed)
            (walk-Tells (reader_of_nodes nodes) (Layout.New m) reserved a.root.entry.address a.root.entry.len a.listings a.walked.walked) a.walked.walked);
        held = a.walked.held;
        forms = λ l c. subst (λ f. HasForm f l.object.entry.len l.content) (sym form) (a.walked.forms l c);
        bodies = a.walked.bodies;
      };
      map_placed = placed_after boot owners m m' passed (kind_after boot kind) objects own (covered boot kind) (placed_less boot kind m objects a.map_placed);
      owned = owners_kept owners nodes m m' objects done.geometry a.owned;
    }

-- the parts of what was opened are those of what the reclaimed map opens
pub parts_after : (boot : Bool) (owners : List Owner) (m m' : Map) (nodes : FinMap nat_cmp Node) (kind : Kind) (view : Opened) → m'.geometry ≡ m.geometry → view.layout ≡ Layout.New m
    → ArePartsOf (record { layout = Layout.New m; nodes = nodes; owners = owners }) view → ArePartsOf (record { layout = Layout.New m'; nodes = nodes; owners = owners }) (by_map kind view m')
parts_after boot owners m m' nodes kind view same layout parts = record {
  layout = refl;
  nodes = parts.nodes;
  owners = owners_kept owners nodes m m' (objects_of view.listings) same (subst (λ (l : Layout). AreOwners owners nodes l (objects_of view.listings)) layout parts.owners);
}
