-- `compact` of a volume with an old map: what it promises, and what the volume stands for afterwards.
use Rattle.std.proofs.Common.{◌≡◌, ◌≤◌, inr, ℕ, Bool, List, sym, ap, subst, ◌∙◌, Some, None, refl}
use Rattle.std.specs.Prelude.{Ok}
use Rattle.std.specs.FinMap.{get}
use Rattle.std.specs.Option.{ForSome}
use Rattle.fc_alloc.specs.declared.owner.Owner.{Owner}
use Rattle.fc_device.specs.declared.disk.Disk.{Ghosts}
use Rattle.fc_device.specs.Calls.{SameForm}
use Rattle.fc_image.specs.declared.effects.Owned.{Owned}
use Rattle.fc_image.specs.effects.Effect.{Compacts}
use Rattle.fc_image.specs.effects.Moves.{Squashed, SquashedBytes}
use Rattle.fc_image.specs.Layout.{Layout, disc_sectors, sector_bytes}
use Rattle.fc_image.specs.Objects.{objects_of}
use Rattle.fc_image.specs.Opening.{Opened, reserved_in}
use Rattle.fc_image.specs.Sound.{AreSound}
use Rattle.fc_image.specs.Stays.{OpensAs}
use Rattle.fc_image.specs.Walk.{Listing, Reader, reader_of, walk}
use Rattle.fc_image.proofs.PathsLemmas.{opened_walk}
use Rattle.fc_record.specs.declared.Kind.{Kind}
use Rattle.fc_laws.specs.nodes.Edits.{Nodes}
use Rattle.fc_laws.specs.old.agree.Laws.{AgreeOn, parts_with}
use Rattle.fc_laws.proofs.lemmas.old.agree.BeforeLemmas.{sound}
use Rattle.fc_changes.specs.old.Owed.{IsWritten, holding}
use Rattle.fc_oldmap.specs.OldMap.{OldMapContent, IsOldMap}
use Rattle.fc_oldlaws.specs.moves.After.{IsSlide, Slide, space_after}
use Rattle.fc_oldlaws.specs.moves.Nodes.{AreMoved, AreReady, AreRemade, remade}
use Rattle.fc_oldlaws.specs.moves.Steps.{opened_after}
use Rattle.fc_oldlaws.specs.moves.Writes.{AreDirectoriesPlaced, AreDirectoriesWritten}
use Rattle.fc_space.specs.Space.{layout_of}
use Rattle.fc_squash.specs.Places.{Leaves}
use Rattle.fc_squash.specs.Sliding.{TellsAsBefore}
use Rattle.fc_squash.specs.Squashing.{KeepsBodies}
use Rattle.fc_tree.specs.Agree.{Agree, reader_of_nodes}
use Rattle.fc_tree.specs.declared.node.Node.{Node}
use Rattle.fc_tree.specs.Nodes.{HoldObjects, Numbers, bound_of, nodes_of}
use Rattle.fc_tree.specs.Parts.{ArePartsOf, Parts}
use Rattle.fc_tree.proofs.WalkedLemmas.{sound_law}
use Rattle.fc_writing.specs.declared.copies.Copies.TheVariants.{Equal}
use Rattle.fc_volume.specs.Compacting.{CompactsParts}
use Rattle.fc_holdings.specs.Holdings.{CopiesAre, HoldsMap, TellsVersion}
use Rattle.fc_volume.specs.Volume.{StandsFor, Volume, parts_of}
use Rattle.fc_volume.specs.OldChanging.{IsOldLayout}
use Rattle.fc_volume.specs.OldCompacting.{CompactsOnlyRoom, HasSlidInMemory, HasSlidOnDisk, IsNotBig, IsReadyToCompact, IsRoom, MoveLaws, WritesOnlyRoom, room_of, slide_by}
use Rattle.fc_change.specs.OldSpace.{LieBehind}
use Rattle.fc_volume.specs.OldWriting.{IsMapWritten}
use Rattle.fc_volume.specs.declared.old.compacting.Ready.{Ready}
use Rattle.fc_volume.specs.declared.old.compacting.moves.Moves.{Moves}
use Rattle.fc_volume.proofs.OldChangeLemmas.{old_layout}
use Rattle.fc_volume.proofs.CompactReadyLemmas.{all_small, is_ready}
use Rattle.fc_volume.proofs.OldRoomLemmas.{is_room, only_room}
use Rattle.fc_volume.proofs.OldChangeLemmas.{HasMap, lie_behind}

-- the map that was squashed is of the same disc
pub squashed_map : (space space' : OldMapContent) (was now : List Owned) → KeepsBodies space space' was now → space' ≡ holding space space'.holes
squashed_map space space' was now kept = λ i. record { holes = space'.holes; disc_units = kept.disc.0 i; sector_units = kept.disc.1 i }

module _ (laws : MoveLaws) (kind : Kind) (space space' : OldMapContent) (nodes nodes' : Nodes) (owners : List Owner) (was now : List Owned) (is_map : IsOldMap space) (behind : LieBehind space)
    (agree : Agree kind (parts_with space nodes owners)) (ready : AreReady space nodes was) (kept : KeepsBodies space space' was now) (squashed : Squashed space space' was now) where
  abbrev s : Slide
  s = slide_by space space' was now

  space_is : space' ≡ space_after s
  space_is = squashed_map space space' was now kept

  agree_on : AgreeOn kind space nodes owners agree.root agree.listings
  agree_on = record { is_map = is_map; holes = behind; root_is = agree.root_is; walked = agree.walked; owned = agree.owned }

  pub slides : (listings : List Listing) → AreSound (Layout.Old space) listings → HoldObjects nodes listings → IsSlide s (objects_of listings)
  slides listings are held = record {
    is_map = is_map;
    holes = behind;
    owned = laws.sliding space nodes listings was is_map.units are held ready.sliding;
    bodies = ready.bodies;
    squashed = subst (λ (m : OldMapContent). Squashed space m was now) space_is squashed;
    kept = subst (λ (m : OldMapContent). KeepsBodies space m was now) space_is kept;
  }

  pub behind_now : LieBehind space'
  behind_now = subst LieBehind (sym space_is)
      (laws.behind kind s nodes owners agree.root agree.listings agree_on (slides agree.listings (sound kind space nodes owners agree.root agree.listings agree_on) agree.walked.held))

  pub agree_now : (owners' : List Owner) → AreMoved s nodes nodes' → AreRemade space' nodes' owners owners' → Agree kind (parts_with space' nodes' owners')
  agree_now owners' moved made =
      subst (λ (m : OldMapContent). Agree kind (parts_with m nodes' owners')) (sym space_is)
      (laws.agreed kind s nodes nodes' owners owners' agree.root agree.listings agree_on
      (slides agree.listings (sound kind space nodes owners agree.root agree.listings agree_on) agree.walked.held) moved
      (subst (λ (m : OldMapContent). AreRemade m nodes' owners owners') space_is made))

  -- whatever the owners are
  pub placed_now : AreMoved s nodes nodes' → AreDirectoriesPlaced space' nodes'
  placed_now moved =
      let owners' = Rattle.std.specs.Prelude.map (remade space' nodes') owners in
      laws.directories kind space' nodes' owners' (agree_now owners' moved refl)

  module _ (owners' : List Owner) (moved : AreMoved s nodes nodes') (made : AreRemade space' nodes' owners owners') (changed : ℕ → Bool) (marked : Rattle.fc_oldlaws.specs.moves.Writes.MarkChanges s nodes changed)
      (bound : ℕ) (past : (n : ℕ) → bound ≤ n → get nodes n ≡ None) where
    pub over : (k : Kind) (view : Opened) (image slid mid image' : List ℕ) → OpensAs image k view → ArePartsOf (parts_with space nodes owners) view → SquashedBytes image slid space was now
        → AreDirectoriesWritten space' nodes' changed bound slid mid → IsMapWritten space' mid image'
        → Compacts k (record { image = image; view = view }) (record { image = image'; view = opened_after s view }) × ArePartsOf (parts_with space' nodes' owners') (opened_after s view)
    over k view image slid mid image' opens parts bytes dirs map =
        let are : AreSound (Layout.Old space) view.listings = subst (λ (l : Layout). AreSound l view.listings) (sym parts.layout) (sound_law image k view opens) in
        let map_now : IsMapWritten (space_after s) mid image' = subst (λ (m : OldMapContent). IsMapWritten m mid image') space_is map in
        let both = laws.over k image slid mid image' view s nodes nodes' owners owners' (record {
          before = record { opens = opens; layout = sym parts.layout; is_map = is_map };
          slide = slides view.listings are parts.nodes;
          bytes = bytes;
          directories = laws.rewritten s nodes nodes' view.listings changed bound slid mid are parts.nodes moved past marked
              (subst (λ (m : OldMapContent). AreDirectoriesWritten m nodes' changed bound slid mid) space_is dirs);
          map_only = record { length_stays = map_now.written.length_stays; writes = map_now.written.writes };
          map = record { few = kept.map.few; bytes = inr map_now.front; rest = map_now.rest };
        }) parts moved (subst (λ (m : OldMapContent). AreRemade m nodes' owners owners') space_is made) in
        (both.0, subst (λ (m : OldMapContent). ArePartsOf (parts_with m nodes' owners') (opened_after s view)) (sym space_is) both.1)

-- ---- the volume

module _ {D : Type 0} (d : Ghosts D) (laws : MoveLaws) (v v' : Volume) (old new : D) (space space' : OldMapContent) (was : List Owned) (moves : Moves) (changed : ℕ → Bool) (bound : ℕ)
    (layout : layout_of v.space ≡ Layout.Old space) (layout' : layout_of v'.space ≡ Layout.Old space') (is_map : IsOldMap space) (behind : LieBehind space) (stands : StandsFor d v old)
    (ready : AreReady space (nodes_of v.tree) was) (past : (n : ℕ) → bound ≤ n → get (nodes_of v.tree) n ≡ None) (mem : HasSlidInMemory space space' was moves (nodes_of v.tree) (nodes_of v'.tree) changed)
    (written : HasSlidOnDisk d old new space space' moves (nodes_of v'.tree) changed bound) (told : TellsAsBefore d old new) (made : AreRemade space' (nodes_of v'.tree) v.owners v'.owners) where
  agreed : Agree stands.agree.0 (parts_with space (nodes_of v.tree) v.owners)
  agreed = subst (Agree stands.agree.0) (λ i. record { layout = layout i; nodes = nodes_of v.tree; owners = v.owners }) stands.agree.1

  abbrev slid_by : Slide
  slid_by = slide_by space space' was moves.after.items

  parts_are : parts_with space (nodes_of v.tree) v.owners ≡ parts_of v
  parts_are = λ i. record { layout = sym layout i; nodes = nodes_of v.tree; owners = v.owners }

  parts_now : parts_with space' (nodes_of v'.tree) v'.owners ≡ parts_of v'
  parts_now = λ i. record { layout = sym layout' i; nodes = nodes_of v'.tree; owners = v'.owners }

  over_all : (k : Kind) (view : Opened) (image image' : List ℕ) → d.bytes old ≡ Some image → d.bytes new ≡ Some image' → OpensAs image k view → ArePartsOf (parts_of v) view
      → Compacts k (record { image = image; view = view }) (record { image = image'; view = opened_after slid_by view }) × ArePartsOf (parts_of v') (opened_after slid_by view)
  over_all k view image image' told_was told_now opens parts =
      let w = written image told_was in
      let same : w.2 ≡ image' = one_image (sym w.3 ∙ told_now) in
      let both = over laws stands.agree.0 space space' (nodes_of v.tree) (nodes_of v'.tree) v.owners was moves.after.items is_map behind agreed ready mem.kept mem.squashed v'.owners mem.moved made changed mem.marked
      bound past k view image w.0 w.1 image' opens (subst (λ (p : Parts). ArePartsOf p view) (sym parts_are) parts)
      (subst (λ (l : List Owned). SquashedBytes image w.0 space l moves.after.items) mem.before w.4) w.5 (subst (λ (im : List ℕ). IsMapWritten space' w.1 im) same w.6) in
      (both.0, subst (λ (p : Parts). ArePartsOf p (opened_after slid_by view)) parts_now both.1)
    where
      one_image : {x y : List ℕ} → Some x ≡ Some y → x ≡ y
      one_image e = cc

  pub compacts : ForSome (d.bytes old) (λ image. ForSome (d.bytes new) (CompactsParts (parts_of v) (parts_of v') image))
  compacts image told_was image' told_now kind view opens parts =
      let both = over_all kind view image image' told_was told_now opens parts in
      (opened_after slid_by view, both.0, both.1)

  pub stands_now : v'.copies ≡ Equal → SameForm d old new → StandsFor d v' new
  stands_now copies form =
      let is = squashed_map space space' was moves.after.items mem.kept in
      record {
        size = form.size_stays ∙ stands.size ∙ ap sector_bytes layout ∙ sym (ap (λ (m : OldMapContent). sector_bytes (Layout.Old m)) is) ∙ ap sector_bytes (sym layout');
        room = subst (λ (n : ℕ). disc_sectors (layout_of v'.space) ≤ n) (sym form.sectors_stay)
            (subst (λ (k : ℕ). k ≤ d.sectors old) (sym (ap disc_sectors layout' ∙ ap (λ (m : OldMapContent). disc_sectors (Layout.Old m)) is ∙ ap disc_sectors (sym layout))) stands.room);
        map_room = subst (λ (n : ℕ). HoldsMap (layout_of v'.space) n) (sym form.sectors_stay)
            (subst (λ (l : Layout). HoldsMap l (d.sectors old)) (sym layout') (
              (subst (λ (l : Layout). HoldsMap l (d.sectors old)) layout stands.map_room).0,
              behind_now laws stands.agree.0 space space' (nodes_of v.tree) (nodes_of v'.tree) v.owners was moves.after.items is_map behind agreed ready mem.kept mem.squashed,
            ));
        agree = (
          stands.agree.0,
          subst (Agree stands.agree.0) parts_now
              (agree_now laws stands.agree.0 space space' (nodes_of v.tree) (nodes_of v'.tree) v.owners was moves.after.items is_map behind agreed ready mem.kept mem.squashed v'.owners mem.moved made),
        );
        image = λ image' told_now.
            (let t = told image' told_now in
            let o = stands.image t.0 t.1 in
            let both = over_all o.0 o.1 t.0 image' t.1 told_now o.2 o.3 in
            (o.0, opened_after slid_by o.1, both.0.opens.opens, both.1));
        version = subst TellsVersion (sym layout') tt;
        copies = λ image' told_now. subst (λ (l : Layout). CopiesAre v'.copies l image') (sym layout') copies;
      }

-- ---- the command

pub map_is : (w v : Volume) → w ≡ v → IsOldLayout (parts_of v).layout → (m : OldMapContent) → ((space : OldMapContent) → layout_of w.space ≡ Layout.Old space → m ≡ space) → layout_of w.space ≡ Layout.Old m
map_is w v same old_map m made =
    let map = old_layout (parts_of v).layout old_map in
    let here = ap (λ (x : Volume). layout_of x.space) same ∙ map.1 in
    here ∙ ap (λ (x : OldMapContent). Layout.Old x) (sym (made map.0 here))

-- `w` is the same volume as `v`, by its parts.
module _ {D : Type 0} (d : Ghosts D) (laws : MoveLaws) (w v : Volume) (same : w ≡ v) (old : D) (stands : StandsFor d v old) (space : OldMapContent) (layout : layout_of w.space ≡ Layout.Old space)
    (maps : HasMap w) (ready : Ready) (prepared : IsReadyToCompact (layout_of w.space) (nodes_of w.tree) (bound_of w.tree) ready)
    (past : (n : ℕ) → bound_of w.tree ≤ n → get (nodes_of w.tree) n ≡ None) where
  here : StandsFor d w old
  here = subst (λ (x : Volume). StandsFor d x old) (sym same) stands

  behind : LieBehind space
  behind = lie_behind d w old space layout here

  agreed_here : Agree here.agree.0 (parts_with space (nodes_of w.tree) w.owners)
  agreed_here = subst (Agree here.agree.0) (λ i. record { layout = layout i; nodes = nodes_of w.tree; owners = w.owners }) here.agree.1

  pub are_ready : AreReady space (nodes_of w.tree) ready.moves.before.items
  are_ready = is_ready here.agree.0 space (nodes_of w.tree) w.owners agreed_here (maps space layout) behind laws.ready (bound_of w.tree) ready.moves.before.items past (prepared.all space layout) prepared.sorted

  pub no_big : (n : ℕ) (node : Node) → get (nodes_of w.tree) n ≡ Some node → IsNotBig node.body
  no_big = all_small here.agree.0 space (nodes_of w.tree) w.owners agreed_here (maps space layout) behind

  pub placed : (space' : OldMapContent) (now : List Owned) (nodes : Nodes) → KeepsBodies space space' ready.moves.before.items now → Squashed space space' ready.moves.before.items now
      → AreMoved (slide_by space space' ready.moves.before.items now) (nodes_of w.tree) nodes → AreDirectoriesPlaced space' nodes
  placed space' now nodes kept squashed moved =
      placed_now laws here.agree.0 space space' (nodes_of w.tree) nodes w.owners ready.moves.before.items now (maps space layout) behind agreed_here are_ready kept squashed moved

  -- each view whose parts these are has room for what is written
  room_by : (kind : Kind) (view : Opened) (read : Reader) (address size : ℕ) → walk read (Layout.Old space) (reserved_in kind (Layout.Old space)) address size ≡ Ok view.listings
      → AreSound (Layout.Old space) view.listings → HoldObjects (nodes_of w.tree) view.listings → IsRoom space (nodes_of w.tree) ready.moves.before.items (room_of view space)
  room_by kind view read address size walked are held =
      let was = ready.moves.before.items in
      let units = (maps space layout).units in
      is_room space (nodes_of w.tree) was view kind read address size walked are held units (laws.sliding space (nodes_of w.tree) view.listings was units are held are_ready.sliding)
      (λ space' now kept squashed. slides laws here.agree.0 space space' (nodes_of w.tree) (nodes_of w.tree) w.owners was now (maps space layout) behind agreed_here are_ready kept squashed view.listings are held)
      (λ space' now kept. squashed_map space space' was now kept)

  one_map : {m n : OldMapContent} → Layout.Old m ≡ Layout.Old n → m ≡ n
  one_map e = cc

  one_list : {x y : List ℕ} → Some x ≡ Some y → x ≡ y
  one_list e = cc

  pub only_places : (new : D) → ((sectors : List ℕ) → IsRoom space (nodes_of w.tree) ready.moves.before.items sectors → Leaves d old new (IsWritten space sectors)) → CompactsOnlyRoom d (parts_of v) old new
  only_places new leaves = λ image told.
      let a = agreed_here in
      let any : Opened = record { kind = here.agree.0; layout = Layout.Old space; listings = a.listings } in
      let first = leaves (room_of any space) (room_by here.agree.0 any (reader_of_nodes (nodes_of w.tree)) a.root.entry.address a.root.entry.len a.walked.walked
      (sound here.agree.0 space (nodes_of w.tree) w.owners a.root a.listings (record { is_map = maps space layout; holes = behind; root_is = a.root_is; walked = a.walked; owned = a.owned })) a.walked.held) image told in (
        first.0,
        first.1,
        λ kind view map opens parts at.
            (let layout_is : view.layout ≡ Layout.Old space = sym (sym layout ∙ ap (λ (x : Volume). layout_of x.space) same ∙ parts.layout) in
            let walk_of = opened_walk image kind view opens in
            let second = leaves (room_of view space) (room_by kind view (reader_of image view.layout) walk_of.address walk_of.size
            (subst (λ (l : Layout). walk (reader_of image view.layout) l (reserved_in kind l) walk_of.address walk_of.size ≡ Ok view.listings) layout_is walk_of.walked)
            (subst (λ (l : Layout). AreSound l view.listings) layout_is (sound_law image kind view opens))
            (subst (λ (x : Volume). HoldObjects (nodes_of x.tree) view.listings) (sym same) parts.nodes)) image told in
            subst (λ (m : OldMapContent). WritesOnlyRoom view m image first.0) (one_map (sym layout_is ∙ at))
            (only_room view space image first.0 (subst (IsWritten space (room_of view space) image) (one_list (sym second.1 ∙ first.1)) second.2))),
      )

  module _ (v' : Volume) (new : D) (space' : OldMapContent) (layout' : layout_of v'.space ≡ Layout.Old space') (tree : Numbers) (tree_is : v'.tree ≡ tree) (moves : Moves) (changed : ℕ → Bool)
      (mem : HasSlidInMemory space space' ready.moves.before.items moves (nodes_of w.tree) (nodes_of tree) changed)
      (written : HasSlidOnDisk d old new space space' moves (nodes_of tree) changed (bound_of w.tree)) (told : TellsAsBefore d old new) (made : AreRemade space' (nodes_of tree) w.owners v'.owners) where
    mem_now : HasSlidInMemory space space' ready.moves.before.items moves (nodes_of w.tree) (nodes_of v'.tree) changed
    mem_now = subst (λ (t : Numbers). HasSlidInMemory space space' ready.moves.before.items moves (nodes_of w.tree) (nodes_of t) changed) (sym tree_is) mem

    written_now : HasSlidOnDisk d old new space space' moves (nodes_of v'.tree) changed (bound_of w.tree)
    written_now = subst (λ (t : Numbers). HasSlidOnDisk d old new space space' moves (nodes_of t) changed (bound_of w.tree)) (sym tree_is) written

    made_now : AreRemade space' (nodes_of v'.tree) w.owners v'.owners
    made_now = subst (λ (t : Numbers). AreRemade space' (nodes_of t) w.owners v'.owners) (sym tree_is) made

    pub has_compacted : ForSome (d.bytes old) (λ image. ForSome (d.bytes new) (CompactsParts (parts_of v) (parts_of v') image))
    has_compacted = subst (λ (x : Volume). ForSome (d.bytes old) (λ image. ForSome (d.bytes new) (CompactsParts (parts_of x) (parts_of v') image))) same
        (compacts d laws w v' old new space space' ready.moves.before.items moves changed (bound_of w.tree) layout layout' (maps space layout) behind here are_ready past mem_now written_now told made_now)

    pub stands_after : v'.copies ≡ Equal → SameForm d old new → StandsFor d v' new
    stands_after =
        stands_now d laws w v' old new space space' ready.moves.before.items moves changed (bound_of w.tree) layout layout' (maps space layout) behind here are_ready past mem_now written_now told made_now
