-- `rename` by which a directory grows, by any view: that the command makes it grow, and is refused for want of space as what it wants is.
use Rattle.fc_alloc.specs.declared.owner.Owner.{Owner}
use Rattle.fc_change.specs.Needs.{AreWants, HasRoomOf, IsGrowthOf, is_copied as is_copied_job, room_of}
use Rattle.fc_change.specs.Shortage.{bytes_left, shortage}
use Rattle.fc_change.specs.declared.job.Growth.{Growth}
use Rattle.fc_change.specs.declared.job.Job.TheVariants as jobs
use Rattle.fc_change.specs.declared.job.Wants.{Wants}
use Rattle.fc_changes.proofs.ChangeLemmas.{a_sector}
use Rattle.fc_changes.proofs.NewPlaceLemmas.{some_there as some_listed}
use Rattle.fc_commands.proofs.GrownShortLemmas.{GrowsTo, grown_short}
use Rattle.fc_commands.proofs.MoveShortLemmas.{asked}
use Rattle.fc_commands.proofs.MoveShortLemmas as short_of
use Rattle.fc_commands.proofs.NodeLemmas.{each_at}
use Rattle.fc_commands.proofs.NodeLemmas as its_node
use Rattle.fc_commands.proofs.TargetLemmas as target_of
use Rattle.fc_drafts.specs.declared.room.Room.TheVariants as rooms
use Rattle.fc_image.specs.Layout.{Layout, dir_form}
use Rattle.fc_image.specs.Objects.{has_sectors, objects_of}
use Rattle.fc_image.specs.Opening.{Opened}
use Rattle.fc_image.specs.Sound.{AreSound}
use Rattle.fc_image.specs.Walk.{Listing, Object, is_directory_object, object_size}
use Rattle.fc_image.specs.effects.Sharing.{units}
use Rattle.fc_image.specs.effects.Short.{Gain, Growth as Grown, gain_in, gain_of, growth_of, is_copied, is_sharing, new_length, object_units, short}
use Rattle.fc_laws.proofs.lemmas.agree.BeforeLemmas.{new_shape}
use Rattle.fc_laws.specs.agree.Agreed.{parts_with}
use Rattle.fc_laws.specs.nodes.Edits.{Nodes}
use Rattle.fc_model.specs.Command.{Command}
use Rattle.fc_model.specs.Tree.{holder, last_name}
use Rattle.fc_names.specs.Names.{Path, is_same_path}
use Rattle.fc_newmap.specs.Map.{Map}
use Rattle.fc_newmap.specs.NewMap.{IsNewMap}
use Rattle.fc_placing.proofs.CopyingLemmas.{copied_is}
use Rattle.fc_placing.specs.Places.{slack_left}
use Rattle.fc_refusals.specs.Slots.{IsRenaming}
use Rattle.fc_refusals.specs.declared.target.Renaming.{Renaming}
use Rattle.fc_tree.proofs.WalkedLemmas.{listed_directory}
use Rattle.fc_tree.specs.Counts.{address_in}
use Rattle.fc_tree.specs.Nodes.{HoldObjects}
use Rattle.fc_tree.specs.Parts.{AreOwners}
use Rattle.fc_tree.specs.declared.node.Node.{Node}
use Rattle.std.proofs.Common.{Bool, List, None, Option, Some, ap, ap₂, cond, false, inl, inr, not, refl, subst, sym, true, ℕ, ◌&&◌, ◌<◌, ◌∙◌, ◌≡◌}
use Rattle.std.proofs.lemmas.Bool.{cases_eq}
use Rattle.std.proofs.lemmas.Slice.Eq.{bytes_eq-Decides}
use Rattle.std.specs.Option.{option_and_then, option_map_or}
use Rattle.std.specs.Prelude.{Contains, is_some}
use Rattle.std.specs.Str.{bytes_eq}

module _ (v : Opened) (nodes : Nodes) (sound : AreSound v.layout v.listings) (held : HoldObjects nodes v.listings) (from to : Path) (r : Renaming) (known : IsRenaming nodes v.listings from to r) (name : List ℕ)
    (name_is : name ≡ last_name to) where
  abbrev c : Command
  c = Command.Rename from to

  abbrev l : Listing
  l = known.destination.listing

  abbrev o : Object
  o = known.target.object

  -- The directory that gets the name grows by it.
  pub grows_to : (len : ℕ) → HasRoomOf nodes (jobs.Move r) name (rooms.Grows len) → GrowsTo v (Command.Rename from to) known.destination.listing.object len
  grows_to len has = elim (cases_eq r.holder r.target.holder) [
    | inl here ↦ (
        let one = (known.within here).0 in
        let spelled : bytes_eq o.entry.name (last_name to) ≡ false = differ here (bytes_eq o.entry.name (last_name to)) refl in
        let gain = short_of.gain v nodes sound held from to r known name name_is here in
        let room = short_of.room_within v.layout nodes v.listings sound held from to r known name (rooms.Grows len) here has gain (short_of.other v nodes sound held from to r known name name_is here spelled) (short_of.gets_other v nodes sound held from to r known name name_is here) in
        let gains : gain_in v c ≡ Some gain = short_of.gain_within v nodes sound held from to r known name name_is here ∙ ap (λ (b : Bool). let x : Option Gain = cond b None (Some gain) in x) spelled in
        record {
          growth = ap (option_and_then growth_of) gains ∙ room.1 known.target.listing.object ∙ ap (λ (d : Listing). let x : Option Grown = Some (d.object, len) in x) (sym one);
          not_full = ap asked gains ∙ room.0;
        })
    | inr away ↦ (
        let gains = short_of.gain_across v nodes sound held from to r known name name_is away in
        let room = short_of.room_across v.layout nodes v.listings sound held from to r known name (rooms.Grows len) away has (gain_of to l) (short_of.gets_more v nodes sound held from to r known name name_is away) in
        record { growth = ap (option_and_then growth_of) gains ∙ room.1 l.object; not_full = ap asked gains ∙ room.0 })
  ]
    where
      differ : (here : r.holder ≡ r.target.holder) (b : Bool) → bytes_eq o.entry.name (last_name to) ≡ b → b ≡ false
      differ here true e =
          absurd (let fits = short_of.never_kept v.layout nodes v.listings sound held from to r known name (rooms.Grows len) here has ((bytes_eq-Decides o.entry.name (last_name to)).0 e ∙ sym name_is) in cc)
      differ here false e = refl

  -- ---- short

  module _ (m : Map) (owners : List Owner) (new : v.layout ≡ Layout.New m) (owned : AreOwners owners nodes (Layout.New m) (objects_of v.listings)) where
    sound_new : AreSound (Layout.New m) v.listings
    sound_new = subst (λ (y : Layout). AreSound y v.listings) new sound

    -- It is copied as its owners tell.
    pub copied_as : is_copied v from to known.target.object ≡ is_copied_job (parts_with m nodes owners) r
    copied_as =
        ap (λ (y : Layout). not (is_directory_object o) && not (is_same_path (holder from) (holder to)) && is_sharing y (objects_of v.listings) o) new
        ∙ sym (copied_is m nodes v.listings owners r.target.node r.holder from to l.object.path o sound_new held owned
        (target_of.among v.layout nodes v.listings sound held from r.target known.target) known.target.path_is known.target.node_is known.destination.above known.destination.holder_is)

    module _ (w : Wants) (are : AreWants (parts_with m nodes owners) (jobs.Move r) name w) (growth : Growth) (some : w.grows ≡ Some growth) (is_map : IsNewMap m) (big : 0 < object_size (dir_form (Layout.New m)) known.destination.listing.object.entry)
        (more : 0 < growth.len) where
      node_is : growth.node ≡ r.holder
      node_is = subst (IsGrowthOf r.holder) some are.grown

      room : HasRoomOf nodes (jobs.Move r) name (rooms.Grows growth.len)
      room = subst (λ (g : Option Growth). HasRoomOf nodes (jobs.Move r) name (room_of g)) some are.room

      there : Contains (objects_of v.listings) known.destination.listing.object
      there = (listed_directory v.layout v.listings sound l known.destination.listed).0

      has : has_sectors known.destination.listing.object ≡ true
      has =
          let at = each_at (Layout.New m) v.listings sound_new l.object there in
          let s = a_sector m l.object.entry.address (object_size (dir_form (Layout.New m)) l.object.entry) l.object.sectors big (new_shape m is_map).some at in
          some_listed l.object.sectors s.0 s.1

      length_is : new_length v (Command.Rename from to) ≡ w.bytes
      length_is =
          ap (λ (x : Option Object). option_map_or (λ (y : Object). cond (is_copied v from to y) y.entry.len 0) x 0) (target_of.there v.layout nodes v.listings sound held from r.target known.target)
          ∙ ap₂ (λ (b : Bool) (n : ℕ). cond b n 0) copied_as (sym (ap (λ (x : Option Node). option_map_or (λ (y : Node). y.entry.len) x 0) (target_of.node_is v.layout nodes v.listings sound held from r.target known.target)))
          ∙ sym are.bytes

      object : object_units m v (Command.Rename from to) ≡ units m.geometry (bytes_left m owners w)
      object =
          ap (units m.geometry)
          (length_is ∙ sym (ap (λ (x : Option ℕ). cond (is_some (option_and_then (λ (d : ℕ). slack_left m owners d w.bytes) x)) 0 w.bytes) are.slack))

      -- So it is refused as what it wants is.
      pub short_is : short v (Command.Rename from to) ≡ shortage (parts_with m nodes owners) w
      short_is =
          grown_short m nodes owners v c l.object w growth some new
          (record {
            is_map = is_map;
            sound = sound_new;
            held = held;
            owned = owned;
            there = there;
            number = known.destination.holder_is ∙ ap (λ (n : ℕ). let x : Option ℕ = Some n in x) (sym node_is);
          })
          has
          (ap (address_in nodes) node_is
          ∙ ap (λ (x : Option Node). option_map_or (λ (n : Node). n.entry.address) x 0) (its_node.there nodes v.layout v.listings sound held l known.destination.listed r.holder known.destination.holder_is))
          (grows_to growth.len room) more object
