-- A volume on whose disc lost space was given back stands for its disk.
use Rattle.std.proofs.Common.{◌≡◌, ◌≤◌, ◌+◌, ◌*◌, ◌/◌, ℕ, false, List, [], ◌∷◌, refl, sym, ap, subst, ◌∙◌}
use Rattle.std.specs.Prelude.{Some, All}
use Rattle.std.specs.Option.{ForSome}
use Rattle.std.specs.Ordering.{nat_cmp}
use Rattle.std.specs.FinMap.{FinMap}
use Rattle.std.proofs.lemmas.List.Elements.{All-nil, All-cons}
use Rattle.fc_device.specs.declared.disk.Disk.{Ghosts}
use Rattle.fc_device.specs.Calls.{SameForm, StopsAndExitsLeave}
use Rattle.fc_device.proofs.DiskLaws.{Laws}
use Rattle.fc_device.specs.Sectors.{sector_at}
use Rattle.fc_device.proofs.StopLemmas.{keeps_start, keeps_weaker}
use Rattle.fc_record.specs.declared.Geometry.{Geometry}
use Rattle.fc_record.specs.declared.Kind.{Kind}
use Rattle.fc_newmap.specs.Map.{Map}
use Rattle.fc_image.specs.Layout.{Layout, disc_sectors, sector_bytes}
use Rattle.fc_image.specs.Objects.{objects_of}
use Rattle.fc_image.specs.Opening.{Opened}
use Rattle.fc_newmap.specs.Copies.{ChangesCopies}
use Rattle.fc_image.specs.Stays.{IsNewLayout, OpensAs}
use Rattle.fc_image.specs.safe.Reclaim.{OwnedStay, Reclaims, StaysOwned, is_owned_run, reclaimed_bytes, sectors_that}
use Rattle.fc_compact.specs.Ready.{AreOwnersOf}
use Rattle.fc_space.specs.Space.{layout_of}
use Rattle.fc_tree.specs.declared.node.Node.{Node}
use Rattle.fc_tree.specs.Agree.{Agree}
use Rattle.fc_tree.specs.Nodes.{nodes_of}
use Rattle.fc_tree.specs.Parts.{ArePartsOf, Parts}
use Rattle.fc_reclaim.specs.Reclaiming.{CanReclaim, CountsIn, LeavesOwned}
use Rattle.fc_reclaim.specs.Settled.{by_map}
use Rattle.fc_reclaim.proofs.PartsLemmas.{agree_after, kind_after, parts_after}
use Rattle.fc_writing.specs.declared.copies.Copies.{Copies}
use Rattle.fc_writing.specs.declared.copies.Copies.TheVariants.{Equal, Chosen}
use Rattle.fc_writing.specs.Copies.{HasCopies}
use Rattle.fc_holdings.specs.Holdings.{CopiesAre, HoldsMap, TellsVersion}
use Rattle.fc_volume.specs.Volume.{StandsFor, Volume, parts_of}
use Rattle.fc_volume.proofs.StandsLemmas.{can_compact, new_layout}
use Rattle.fc_volume.specs.Reclaiming.{HasGivenBack, HasReclaimed, LeavesOwnedOf, which_in}
use Rattle.fc_volume.proofs.LostOwnersLemmas.{own_same}

-- ---- before

-- what is known of the copies, in the words of the map's call
counts_in : (k : Copies) (m : Map) (image : List ℕ) → HasCopies k m image → CountsIn m (which_in k) image
counts_in Equal m image has = has
counts_in (Chosen which) m image has = (has.counts, has.content)

-- A volume that stands for the disk can give its lost space back.
pub can_reclaim : {D : Type 0} (d : Ghosts D) (v : Volume) (disk : D) (m : Map) → StandsFor d v disk → layout_of v.space ≡ Layout.New m
    → ForSome (d.bytes disk) (CanReclaim m (which_in v.copies) v.owners)
can_reclaim d v disk m stands layout image told =
    let can = can_compact d v disk m stands layout image told in
    record {
      kind = can.kind;
      of_record = can.of_record;
      view = can.view;
      new_kind = can.new_kind;
      opens = can.opens;
      layout = can.layout;
      copies_are = counts_in v.copies m image can.copies_are;
      owned = can.owned;
    }

-- ---- every crash and every exit

every : (P : ℕ → Type 0) (xs : List ℕ) → ((x : ℕ) → P x) → All P xs
every P [] each = All-nil P
every P (x ∷ xs) each = All-cons P x xs (each x) (every P xs each)

stays_same : (kind : Kind) (image : List ℕ) (view : Opened) (m : Map) → OpensAs image kind view → view.layout ≡ Layout.New m → StaysOwned kind image view image
stays_same kind image view m opens layout = record {
  view = view;
  opens = opens;
  tree = refl;
  owned = subst (λ (l : Layout). OwnedStay image image l l (objects_of view.listings)) (sym layout)
      ((λ id lost. refl), every (λ s. sector_at m.geometry.sector image s ≡ sector_at m.geometry.sector image s) (sectors_that (λ p. is_owned_run (objects_of view.listings) p.1.kind) m) (λ s. refl));
}

-- Before the first call everything stays.
pub owned_start : {D : Type 0} {d : Ghosts D} (law : Laws d) (v : Volume) (disk : D) → IsNewLayout (parts_of v).layout → d.pending disk ≡ false → StopsAndExitsLeave d disk disk (LeavesOwnedOf (parts_of v))
owned_start law v disk new_map quiet =
    let map = new_layout (parts_of v).layout new_map in
    keeps_start law (λ image kind view opens parts. stays_same kind image view map.0 opens (sym parts.layout ∙ map.1)) disk quiet

pub frame_start : {D : Type 0} {d : Ghosts D} (law : Laws d) (g : Geometry) (disk : D) → d.pending disk ≡ false → StopsAndExitsLeave d disk disk (ChangesCopies g)
frame_start law g disk quiet = keeps_start law (λ image. record { same_length = refl; outside = λ s out. refl }) disk quiet

pub leaves_owned : {D : Type 0} {d : Ghosts D} (law : Laws d) (v : Volume) (old new : D) (m : Map) → layout_of v.space ≡ Layout.New m → StopsAndExitsLeave d old new (LeavesOwned m v.owners)
    → StopsAndExitsLeave d old new (LeavesOwnedOf (parts_of v))
leaves_owned law v old new m layout owned =
    keeps_weaker law owned
    (λ was image led kind view opens parts.
    led kind view opens (sym parts.layout ∙ layout) (own_same v.owners (nodes_of v.tree) view.layout (objects_of view.listings) parts.owners))

-- ---- after

module _ {D : Type 0} {d : Ghosts D} (v v' : Volume) (old new : D) (m m' : Map) (bytes : ℕ) (stands : StandsFor d v old)
    (layout : layout_of v.space ≡ Layout.New m) (layout' : layout_of v'.space ≡ Layout.New m') (tree : v'.tree ≡ v.tree) (owners : v'.owners ≡ v.owners) (copies : v'.copies ≡ Equal)
    (form : SameForm d old new) (owned : StopsAndExitsLeave d old new (LeavesOwned m v.owners)) (given : HasGivenBack d m m' v.owners bytes old new) where
  abbrev nodes : FinMap nat_cmp Node
  nodes = nodes_of v.tree

  geometry : m'.geometry ≡ m.geometry
  geometry = given.map.map.geometry

  -- the parts, of one layout or the other
  parts_are : (let p : Parts = record { layout = Layout.New m; nodes = nodes; owners = v.owners } in p) ≡ parts_of v
  parts_are = λ i. record { layout = sym layout i; nodes = nodes; owners = v.owners }

  now_are : (let p : Parts = record { layout = Layout.New m'; nodes = nodes; owners = v.owners } in p) ≡ parts_of v'
  now_are = λ i. record { layout = sym layout' i; nodes = nodes_of (sym tree i); owners = sym owners i }

  agrees : (kind : Kind) × Agree kind (parts_of v')
  agrees =
      let boot = given.map.boot in
      let kind = stands.agree.0 in (
        kind_after boot kind,
        subst (Agree (kind_after boot kind)) now_are
            (agree_after boot v.owners kind m m' nodes given.map.map (λ objects are. own_same v.owners nodes (Layout.New m) objects are) (subst (Agree kind) (sym parts_are) stands.agree.1)),
      )

  module _ (was image : List ℕ) (told_was : d.bytes old ≡ Some was) (told : d.bytes new ≡ Some image) (kind : Kind) (view : Opened) (opens : OpensAs was kind view) (parts : ArePartsOf (parts_of v) view) where
    at : view.layout ≡ Layout.New m
    at = sym parts.layout ∙ layout

    own : AreOwnersOf v.owners (objects_of view.listings)
    own = own_same v.owners nodes view.layout (objects_of view.listings) parts.owners

    reclaims : Reclaims kind (record { image = was; view = view }) (record { image = image; view = by_map kind view m' }) × (bytes ≡ reclaimed_bytes view (by_map kind view m'))
    reclaims = given.image was told_was image told kind view opens at own

    view_parts : ArePartsOf (parts_of v') (by_map kind view m')
    view_parts =
        subst (λ (p : Parts). ArePartsOf p (by_map kind view m')) now_are
        (parts_after given.map.boot v.owners m m' nodes kind view geometry at (subst (λ (p : Parts). ArePartsOf p view) (sym parts_are) parts))

  pub has_reclaimed : HasReclaimed d (parts_of v) (parts_of v') bytes old new
  has_reclaimed was told_was =
      let there = owned.exit was told_was in (
        there.0,
        there.1,
        λ kind view opens parts.
            (let done = reclaims was there.0 told_was there.1 kind view opens parts in
            (by_map kind view m', done.0, done.1, view_parts was there.0 told_was there.1 kind view opens parts)),
      )

  pub stands_after : StandsFor d v' new
  stands_after = record {
    size = form.size_stays ∙ stands.size ∙ ap sector_bytes layout ∙ ap (λ (g : Geometry). g.sector) (sym geometry) ∙ ap sector_bytes (sym layout');
    room = subst (λ (n : ℕ). disc_sectors (layout_of v'.space) ≤ n) (sym form.sectors_stay)
        (subst (λ (l : Layout). disc_sectors l ≤ d.sectors old) (sym layout')
        (subst (λ (g : Geometry). g.disc_bits * g.bit_bytes / g.sector ≤ d.sectors old) (sym geometry)
        (subst (λ (l : Layout). disc_sectors l ≤ d.sectors old) layout stands.room)));
    map_room = subst (λ (n : ℕ). HoldsMap (layout_of v'.space) n) (sym form.sectors_stay)
        (subst (λ (l : Layout). HoldsMap l (d.sectors old)) (sym layout')
        (subst (λ (g : Geometry). g.map_sector + 2 * g.zones ≤ d.sectors old) (sym geometry)
        (subst (λ (l : Layout). HoldsMap l (d.sectors old)) layout stands.map_room)));
    version = subst TellsVersion (sym layout') (given.version ∙ subst TellsVersion layout stands.version ∙ ap (λ (g : Geometry). g.version) (sym geometry));
    agree = agrees;
    image = λ image told.
        (let was = owned.told image told in
        let s = stands.image was.0 was.1 in
        let done = reclaims was.0 image was.1 told s.0 s.1 s.2 s.3 in
        (s.0, by_map s.0 s.1 m', done.0.opens.opens, view_parts was.0 image was.1 told s.0 s.1 s.2 s.3));
    copies = λ image told.
        subst (λ (l : Layout). CopiesAre v'.copies l image) (sym layout') (subst (λ (k : Copies). HasCopies k m' image) (sym copies) (given.map.ready image told).ready.copies);
  }
