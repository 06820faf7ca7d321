-- What comes to a directory that grows by it, on a new map: it can be taken over, and is refused for want of space as what it wants is.
use Rattle.std.proofs.Common.{◌≡◌, ◌<◌, ◌≤◌, ℕ, Bool, true, false, cond, List, [], ◌∷◌, ◌++◌, refl, sym, ap, ap₂, subst, ◌∙◌, Option, Some}
use Rattle.std.specs.Prelude.{is_some}
use Rattle.std.specs.Option.{option_and_then, option_map_or}
use Rattle.fc_alloc.specs.declared.owner.Owner.{Owner}
use Rattle.fc_names.specs.Names.{Path}
use Rattle.fc_names.specs.declared.name.NameForm.{NameForm}
use Rattle.fc_names.specs.declared.name.NameForm.TheVariants as forms
use Rattle.fc_record.specs.declared.Kind.{Kind}
use Rattle.fc_newmap.specs.Map.{Map}
use Rattle.fc_newmap.specs.NewMap.{IsNewMap}
use Rattle.fc_model.specs.Command.{Command}
use Rattle.fc_model.specs.Tree.{last_name}
use Rattle.fc_drafts.specs.declared.room.Room.TheVariants as rooms
use Rattle.fc_drafts.specs.Draft.{names_of}
use Rattle.fc_drafts.specs.Gains.{GetsName, HasRoom}
use Rattle.fc_image.specs.Layout.{Layout, dir_form}
use Rattle.fc_image.specs.Objects.{has_sectors, objects_of}
use Rattle.fc_image.specs.Opening.{Opened}
use Rattle.fc_image.specs.Sound.{AreSound}
use Rattle.fc_image.specs.Walk.{Listing, Object, object_size, is_directory_object}
use Rattle.fc_image.specs.effects.Sharing.{units}
use Rattle.fc_image.specs.effects.Short.{Gain, gain_in, gain_of, growth_of, is_full_with, object_units, short}
use Rattle.fc_changes.proofs.ChangeLemmas.{a_sector}
use Rattle.fc_laws.specs.nodes.Edits.{Nodes}
use Rattle.fc_laws.specs.agree.Agreed.{AgreeOn, parts_with}
use Rattle.fc_laws.proofs.lemmas.agree.BeforeLemmas.{agreed_law, new_shape}
use Rattle.fc_refusals.specs.Targets.{IsVacant}
use Rattle.fc_tree.specs.declared.node.Node.{Node}
use Rattle.fc_tree.specs.Counts.{address_in}
use Rattle.fc_tree.specs.Nodes.{HoldObjects}
use Rattle.fc_tree.specs.Parts.{AreOwners}
use Rattle.fc_tree.proofs.WalkedLemmas.{listed_directory}
use Rattle.fc_change.specs.declared.job.Growth.{Growth}
use Rattle.fc_change.specs.declared.job.Wants.{Wants}
use Rattle.fc_change.specs.After.{CanTakeOver, nodes_more, owners_admitted}
use Rattle.fc_change.specs.Needs.{AreWants, HasRoomFor, IsGrowthOf, SaysAt, room_of}
use Rattle.fc_change.specs.Shortage.{bytes_left, shortage, slack_for as slack_wanted}
use Rattle.fc_commands.specs.declared.stages.Prepared.{Prepared}
use Rattle.fc_commands.specs.Stages.{IsPreparedFor}
use Rattle.fc_commands.proofs.ArrivalLemmas.{Arrival, Brings, gain_same, job_of}
use Rattle.fc_commands.proofs.ArrivalShortLemmas.{either_units, length_same, slack_same}
use Rattle.fc_commands.proofs.GrownNewLemmas as new
use Rattle.fc_commands.proofs.GrownWantLemmas.{IsItsWant, its_want}
use Rattle.fc_commands.proofs.GrownShortLemmas.{GrowsTo, grown_short}
use Rattle.fc_commands.proofs.GrownSpaceLemmas as space_of
use Rattle.fc_commands.proofs.GrownTakenLemmas.{can_take_over}
use Rattle.fc_commands.proofs.VacantLemmas.{gains}
use Rattle.fc_commands.proofs.GrownWalkLemmas.{IsBigOne, big_one}
use Rattle.fc_commands.proofs.GrownWalkLemmas as walk
use Rattle.fc_commands.proofs.NodeLemmas.{each_at, size_of_form}
use Rattle.fc_commands.proofs.NodeLemmas as its_node
use Rattle.fc_dirs.specs.Directory.{directory_size}
use Rattle.fc_changes.proofs.NewPlaceLemmas.{some_there as some_listed}

-- ---- taken over

module _ (m : Map) (nodes : Nodes) (owners : List Owner) (dir : ℕ) (x : Arrival) (path : Path) (pr : Prepared) (prep : IsPreparedFor (parts_with m nodes owners) (job_of dir x) (last_name path) pr)
    (growth : Growth) (some : prep.wants.grows ≡ Some growth) (is_map : IsNewMap m)
    (kind : Kind) (root : Node) (listings : List Listing) (agreed : AgreeOn kind m nodes owners root listings) (spot : IsVacant nodes listings path dir) where
  abbrev l : Listing
  l = spot.listing

  abbrev sound : AreSound (Layout.New m) listings
  sound = agreed_law.sound kind m nodes owners root listings agreed

  -- Nodes and owners are there for it, and there is memory for one more.
  pub can_take : (layout : Layout) (number room : ℕ) → nodes_more pr.change.object ≤ room → CanTakeOver layout nodes (owners_admitted (Layout.New m) pr.change.object number owners) room pr.change
  can_take layout number room enough =
      let is = new.is m nodes owners dir x path pr prep growth some is_map in
      let at = walk.number m nodes owners dir x path prep.wants prep.spaces is kind root listings agreed spot in
      let stay = walk.stay m nodes owners dir x path prep.wants prep.spaces is kind root listings agreed spot in
      let to = walk.to m nodes owners dir x path prep.wants prep.spaces is kind root listings agreed spot in
      let p = new.p m nodes owners dir x path pr prep growth some is_map in
      let has = agreed.walked.held.each l.object (its_node.among nodes (Layout.New m) listings sound agreed.walked.held l spot.listed p.directory.node at) in
      can_take_over (Layout.New m) layout nodes owners listings l stay has.holder_number (new.e m nodes owners dir x path pr prep growth some is_map) p.directory pr.change (new.own m nodes owners dir x path pr prep growth some is_map)
      number room (new.change m nodes owners dir x path pr prep growth some is_map) (new.comes m nodes owners dir x path pr prep growth some is_map)
      (record {
        sound = sound;
        held = agreed.walked.held;
        owned = agreed.owned;
        above = has.at_holder;
        number = at;
        others = to.others;
        some = space_of.o_some m nodes owners listings l.object stay growth (new.plan m nodes owners dir x path pr prep growth some is_map) prep.spaced.places.dir p to;
      })
      (ap (λ (x : Option Node). is_some x) (its_node.there nodes (Layout.New m) listings sound agreed.walked.held l spot.listed p.directory.node at)) enough

-- ---- refused

-- By one walk the directory that grows is a big one, and so by each view of the same nodes.
module _ (m : Map) (nodes : Nodes) (owners : List Owner) (dir : ℕ) (x : Arrival) (path : Path) (w : Wants) (are : AreWants (parts_with m nodes owners) (job_of dir x) (last_name path) w) (growth : Growth) (some : w.grows ≡ Some growth)
    (is_map : IsNewMap m) (kind : Kind) (root : Node) (walked : List Listing) (agreed : AgreeOn kind m nodes owners root walked) (first : IsVacant nodes walked path dir)
    (v : Opened) (at : v.layout ≡ Layout.New m) (sound : AreSound (Layout.New m) v.listings) (held : HoldObjects nodes v.listings) (owned : AreOwners owners nodes (Layout.New m) (objects_of v.listings))
    (spot : IsVacant nodes v.listings path dir) (bytes : List ℕ) (c : Command) (brings : Brings x path bytes c) where
  want : IsItsWant (parts_with m nodes owners) dir x (last_name path) w
  want = its_want (parts_with m nodes owners) dir x (last_name path) w are

  abbrev o : Object
  o = spot.listing.object

  room : HasRoomFor nodes dir (last_name path) (rooms.Grows growth.len)
  room = subst (λ (g : Option Growth). HasRoomFor nodes dir (last_name path) (room_of g)) some want.room

  node_is : growth.node ≡ dir
  node_is = subst (IsGrowthOf dir) some want.grown

  before : AreSound (Layout.New m) walked
  before = agreed_law.sound kind m nodes owners root walked agreed

  says_by : (listings : List Listing) (s : AreSound (Layout.New m) listings) (h : HoldObjects nodes listings) (x : IsVacant nodes listings path dir) → SaysAt nodes dir x.listing.content
  says_by listings s h x = record {
    node = its_node.node nodes (Layout.New m) listings s h x.listing x.listed dir x.holder_is;
    there = its_node.there nodes (Layout.New m) listings s h x.listing x.listed dir x.holder_is;
    says = its_node.says nodes (Layout.New m) listings s h x.listing x.listed dir x.holder_is;
  }

  big : IsBigOne (dir_form (Layout.New m)) first.listing.object.entry.len growth.len
  big =
      let gain : Gain = record { listing = first.listing; name = last_name path; names = names_of first.listing.content ++ last_name path ∷ [] } in
      big_one (dir_form (Layout.New m)) first.listing.object.entry.len growth.len first.listing.content gain first.listing.object (agreed.walked.forms first.listing first.listed) (agreed.walked.bodies first.listing first.listed)
      ((room first.listing.content gain (says_by walked before agreed.walked.held first) (record { name_is = refl; names_are = refl })).1 first.listing.object)

  -- both walks have one entry of it
  same_entry : first.listing.object.entry ≡ spot.listing.object.entry
  same_entry =
      ap (λ (x : Node). x.entry) (its_node.one_node nodes (Layout.New m) walked before agreed.walked.held first.listing first.listed dir first.holder_is
      (its_node.node nodes (Layout.New m) v.listings sound held spot.listing spot.listed dir spot.holder_is) (its_node.there nodes (Layout.New m) v.listings sound held spot.listing spot.listed dir spot.holder_is))

  size_same : object_size (dir_form (Layout.New m)) first.listing.object.entry ≡ object_size (dir_form (Layout.New m)) o.entry
  size_same = ap (object_size (dir_form (Layout.New m))) same_entry

  some_size : 0 < object_size (dir_form (Layout.New m)) o.entry
  some_size =
      subst (λ (n : ℕ). 0 < n)
      (sym (space_size first.listing.object (listed_directory (Layout.New m) walked before first.listing first.listed).1 (dir_form (Layout.New m)) big.is_long) ∙ size_same) big.some
    where
      space_size : (x : Object) → is_directory_object x ≡ true → (f : NameForm) → f ≡ forms.Long → object_size f x.entry ≡ x.entry.len
      space_size x d f long = ap₂ (λ (b : Bool) (n : NameForm). cond b (directory_size n x.entry.len) x.entry.len) d long

  has : has_sectors o ≡ true
  has =
      let at = each_at (Layout.New m) v.listings sound o (listed_directory (Layout.New m) v.listings sound spot.listing spot.listed).0 in
      let s = a_sector m o.entry.address (object_size (dir_form (Layout.New m)) o.entry) o.sectors some_size (new_shape m is_map).some at in
      some_listed o.sectors s.0 s.1

  gets : GetsName spot.listing.content (last_name path) (gain_of path spot.listing)
  gets = record { name_is = refl; names_are = refl }

  gains_it : gain_in v c ≡ Some (gain_of path spot.listing)
  gains_it = sym (gain_same x path bytes c brings v) ∙ gains (Layout.New m) nodes v.listings sound path dir spot v refl

  has_room : HasRoom spot.listing.content (gain_of path spot.listing) (rooms.Grows growth.len)
  has_room = room spot.listing.content (gain_of path spot.listing) (says_by v.listings sound held spot) gets

  grows : GrowsTo v c o growth.len
  grows = record {
    growth = ap (option_and_then growth_of) gains_it ∙ has_room.1 o;
    not_full = ap (λ (x : Option Gain). option_map_or (λ (g : Gain). is_full_with g.listing.content g) x false) gains_it ∙ has_room.0;
  }

  object : object_units m v c ≡ units m.geometry (bytes_left m owners w)
  object =
      ap₂ (λ (s : Option (ℕ × ℕ)) (n : ℕ). let u : ℕ = cond (is_some s) 0 (units m.geometry n) in u) (slack_same m nodes owners is_map dir x path w want.bytes want.slack bytes c brings v at sound held owned spot)
      (length_same m nodes owners is_map dir x path w want.bytes want.slack bytes c brings v at sound held owned spot)
      ∙ either_units m.geometry w.bytes (is_some (slack_wanted m owners w))

  -- So it is refused as what it wants is.
  pub short_is : short v c ≡ shortage (parts_with m nodes owners) w
  short_is =
      grown_short m nodes owners v c o w growth some at
      (record {
        is_map = is_map;
        sound = sound;
        held = held;
        owned = owned;
        there = (listed_directory (Layout.New m) v.listings sound spot.listing spot.listed).0;
        number = spot.holder_is ∙ ap (λ (n : ℕ). let x : Option ℕ = Some n in x) (sym node_is);
      })
      has
      (ap (address_in nodes) node_is ∙ ap (λ (x : Option Node). option_map_or (λ (n : Node). n.entry.address) x 0) (its_node.there nodes (Layout.New m) v.listings sound held spot.listing spot.listed dir spot.holder_is))
      grows big.more object
