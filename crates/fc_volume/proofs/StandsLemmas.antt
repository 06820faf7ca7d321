-- A volume that is compacted stands for its disk.
use Rattle.std.proofs.Common.{◌≡◌, ◌≤◌, ◌+◌, ◌*◌, ◌/◌, ℕ, List, refl, sym, ap, subst, ◌∙◌}
use Rattle.std.specs.Prelude.{Some}
use Rattle.std.specs.Option.{ForSome}
use Rattle.std.specs.Ordering.{nat_cmp}
use Rattle.std.specs.FinMap.{FinMap}
use Rattle.fc_device.specs.declared.disk.Disk.{Ghosts}
use Rattle.fc_device.specs.Calls.{SameForm}
use Rattle.fc_record.specs.declared.Geometry.{Geometry}
use Rattle.fc_record.specs.declared.Kind.{Kind}
use Rattle.fc_newmap.specs.Map.{Map}
use Rattle.fc_image.specs.Layout.{Layout, disc_sectors, sector_bytes}
use Rattle.fc_image.specs.Walk.{reader_of}
use Rattle.fc_image.specs.Objects.{objects_of}
use Rattle.fc_image.specs.Opening.{Opened}
use Rattle.fc_image.specs.Moves.{KeepsObjects, SameMapLaw, with_map}
use Rattle.fc_image.specs.Stays.{IsNewLayout, OpensAs}
use Rattle.fc_image.proofs.MoveLemmas.{open_by}
use Rattle.fc_image.specs.effects.Effect.{Compacts}
use Rattle.fc_compact.specs.Ready.{AreOwnersOf}
use Rattle.fc_compact.specs.Compaction.{ByOwnersLaw, ChangesLoose}
use Rattle.fc_space.specs.Space.{layout_of}
use Rattle.fc_tree.specs.declared.node.Node.{Node}
use Rattle.fc_tree.specs.Agree.{Agree}
use Rattle.fc_tree.specs.Nodes.{nodes_of}
use Rattle.fc_tree.specs.Parts.{AreOwners, ArePartsOf, Parts}
use Rattle.fc_writing.specs.declared.copies.Copies.{Copies}
use Rattle.fc_writing.specs.declared.copies.Copies.TheVariants.{Equal}
use Rattle.fc_volume.specs.Compacting.{CanCompact, HasCompacted, IsDone, KeepsDisc}
use Rattle.fc_holdings.specs.Holdings.{CopiesAre, HoldsMap, TellsVersion}
use Rattle.fc_volume.specs.Volume.{StandsFor, Volume, parts_of}
use Rattle.fc_volume.proofs.AgreeLemmas.{agree_after, own_same, parts_after}
use Rattle.fc_volume.proofs.CompactedLemmas.{compacts, new_kind}
use Rattle.fc_objects.proofs.CopyLemmas.{one_told as some_same}

-- ---- before

pub new_layout : (l : Layout) → IsNewLayout l → (m : Map) × (l ≡ Layout.New m)
new_layout (Layout.New m) is = (m, refl)
new_layout (Layout.Old space) is = absurd is

-- A volume that stands for the disk can be compacted.
pub can_compact : {D : Type 0} (d : Ghosts D) (v : Volume) (disk : D) (m : Map) → StandsFor d v disk → layout_of v.space ≡ Layout.New m → ForSome (d.bytes disk) (CanCompact m v.copies v.owners)
can_compact d v disk m stands layout image told =
    let s = stands.image image told in
    let at : s.1.layout ≡ Layout.New m = sym s.3.layout ∙ layout in
    let new = new_kind image s.0 s.1 m s.2 at in
    record {
      kind = s.0;
      of_record = new.0;
      view = s.1;
      new_kind = new.1;
      opens = s.2;
      layout = at;
      copies_are = subst (λ (l : Layout). CopiesAre v.copies l image) layout (stands.copies image told);
      owned = own_same v.owners (nodes_of v.tree) s.1.layout (objects_of s.1.listings) s.3.owners;
    }

-- ---- after

module _ {D : Type 0} {d : Ghosts D} (law : ByOwnersLaw) (one_map : SameMapLaw) (v v' : Volume) (old new : D) (m m' : Map) (stands : StandsFor d v old)
    (layout : layout_of v.space ≡ Layout.New m) (layout' : layout_of v'.space ≡ Layout.New m') (tree : v'.tree ≡ v.tree) (owners : v'.owners ≡ v.owners) (copies : v'.copies ≡ Equal)
    (form : SameForm d old new) (exits : KeepsDisc d m v.owners old new) (done : IsDone d m m' v.owners new) where
  abbrev nodes : FinMap nat_cmp Node
  nodes = nodes_of v.tree

  -- the parts, of one layout or the other
  parts_are : record { layout = Layout.New m; nodes = nodes; owners = v.owners } ≡ parts_of v
  parts_are = λ i. record { layout = sym layout i; nodes = nodes; owners = v.owners }

  now_are : (let p : Parts = record { layout = Layout.New m'; nodes = nodes; owners = v.owners } in p) ≡ parts_of v'
  now_are = λ i. record { layout = sym layout' i; nodes = nodes_of (sym tree i); owners = sym owners i }

  agrees : (kind : Kind) × Agree kind (parts_of v')
  agrees = (
    stands.agree.0,
    subst (Agree stands.agree.0) now_are (agree_after stands.agree.0 m m' nodes v.owners done.map (subst (Agree stands.agree.0) (sym parts_are) stands.agree.1)),
  )

  module _ (was image : List ℕ) (told_was : d.bytes old ≡ Some was) (told : d.bytes new ≡ Some image) (kind : Kind) (view : Opened) (opens : OpensAs was kind view) (parts : ArePartsOf (parts_of v) view) where
    at : view.layout ≡ Layout.New m
    at = sym parts.layout ∙ layout

    own : AreOwnersOf v.owners (objects_of view.listings)
    own = own_same v.owners nodes view.layout (objects_of view.listings) parts.owners

    keeps : KeepsObjects m.geometry was image
    keeps = let there = exits.objects.exit was told_was in subst (KeepsObjects m.geometry was) (some_same there.0 image (sym there.1 ∙ told)) there.2

    frame : ChangesLoose m v.owners was image
    frame = let there = exits.frame.exit was told_was in subst (ChangesLoose m v.owners was) (some_same there.0 image (sym there.1 ∙ told)) there.2

    view_compacts : Compacts kind (record { image = was; view = view }) (record { image = image; view = with_map m' view })
    view_compacts = compacts law one_map m m' v.owners done.map was image keeps frame (done.ready image told) kind view opens at own

    view_parts : ArePartsOf (parts_of v') (with_map m' view)
    view_parts =
        let new' = new_kind was kind view m opens at in
        let o = open_by was kind new'.0 view m new'.1 opens at in
        let owned = subst (λ (l : Layout). AreOwners v.owners nodes l (objects_of view.listings)) at parts.owners in
        let held = parts_after kind m m' nodes v.owners view.listings (reader_of was (Layout.New m)) o.root o.size done.map own o.walked parts.nodes owned in
        subst (λ (p : Parts). ArePartsOf p (with_map m' view)) now_are (record { layout = refl; nodes = held.0; owners = held.1 })

  pub has_compacted : HasCompacted d (parts_of v) (parts_of v') old new
  has_compacted was told_was =
      let there = exits.objects.exit was told_was in
      (there.0, there.1, λ kind view opens parts. (with_map m' view, view_compacts was there.0 told_was there.1 kind view opens parts, view_parts was there.0 told_was there.1 kind view opens parts))

  pub stands_after : StandsFor d v' new
  stands_after = record {
    size = form.size_stays ∙ stands.size ∙ ap sector_bytes layout ∙ ap (λ (g : Geometry). g.sector) (sym done.map.geometry) ∙ ap sector_bytes (sym layout');
    room = subst (λ (n : ℕ). disc_sectors (layout_of v'.space) ≤ n) (sym form.sectors_stay)
        (subst (λ (l : Layout). disc_sectors l ≤ d.sectors old) (sym layout')
        (subst (λ (g : Geometry). g.disc_bits * g.bit_bytes / g.sector ≤ d.sectors old) (sym done.map.geometry)
        (subst (λ (l : Layout). disc_sectors l ≤ d.sectors old) layout stands.room)));
    map_room = subst (λ (n : ℕ). HoldsMap (layout_of v'.space) n) (sym form.sectors_stay)
        (subst (λ (l : Layout). HoldsMap l (d.sectors old)) (sym layout')
        (subst (λ (g : Geometry). g.map_sector + 2 * g.zones ≤ d.sectors old) (sym done.map.geometry)
        (subst (λ (l : Layout). HoldsMap l (d.sectors old)) layout stands.map_room)));
    version = subst TellsVersion (sym layout') (done.map.version ∙ subst TellsVersion layout stands.version ∙ ap (λ (g : Geometry). g.version) (sym done.map.geometry));
    agree = agrees;
    image = λ image told.
        (let was = exits.objects.told image told in
        let s = stands.image was.0 was.1 in
        (s.0, with_map m' s.1, (view_compacts was.0 image was.1 told s.0 s.1 s.2 s.3).opens.opens, view_parts was.0 image was.1 told s.0 s.1 s.2 s.3));
    copies = λ image told.
        subst (λ (k : Copies). CopiesAre k (layout_of v'.space) image) (sym copies)
        (subst (λ (l : Layout). CopiesAre Equal l image) (sym layout') (done.ready image told).copies);
  }
