-- `rename` by which a directory grows, by any walk: that directory is a big one, and it is known by the walk alone whether one grows.
use Rattle.fc_alloc.specs.declared.owner.Owner.{Owner}
use Rattle.fc_change.specs.Needs.{AreWants, HasRoomOf, IsGrowthOf, room_of}
use Rattle.fc_change.specs.declared.job.Growth.{Growth}
use Rattle.fc_change.specs.declared.job.Job.TheVariants as jobs
use Rattle.fc_change.specs.declared.job.Wants.{Wants}
use Rattle.fc_commands.proofs.GrownMoveAskedLemmas.{grows_to}
use Rattle.fc_commands.proofs.GrownWalkLemmas.{IsBigOne, big_one}
use Rattle.fc_commands.proofs.MoveLemmas.{IsSeen}
use Rattle.fc_commands.proofs.MoveShortLemmas as short_of
use Rattle.fc_commands.proofs.RoomyLemmas.{NoneGrows}
use Rattle.fc_drafts.specs.Draft.{names_of}
use Rattle.fc_drafts.specs.Gains.{HasRoom}
use Rattle.fc_drafts.specs.declared.room.Room.TheVariants as rooms
use Rattle.fc_image.specs.Layout.{Layout, dir_form}
use Rattle.fc_image.specs.Opening.{Opened}
use Rattle.fc_image.specs.Sound.{AreSound}
use Rattle.fc_image.specs.Walk.{Listing, Object}
use Rattle.fc_image.specs.effects.Short.{Gain, Growth as Grown, growth_in}
use Rattle.fc_laws.specs.nodes.Edits.{Nodes}
use Rattle.fc_model.specs.Command.{Command}
use Rattle.fc_model.specs.Tree.{last_name}
use Rattle.fc_names.specs.Names.{Path, is_same_name}
use Rattle.fc_names.specs.declared.name.NameForm.{NameForm}
use Rattle.fc_names.specs.declared.name.NameForm.TheVariants as forms
use Rattle.fc_oldmap.specs.OldMap.{OldMapContent}
use Rattle.fc_refusals.specs.Slots.{IsRenaming}
use Rattle.fc_refusals.specs.declared.target.Renaming.{Renaming}
use Rattle.fc_tree.specs.Nodes.{HoldObjects}
use Rattle.std.proofs.Common.{Bool, List, None, Option, Some, [], ap, cond, false, filter, inl, inr, not, refl, subst, sym, true, ℕ, ◌++◌, ◌==◌, ◌∙◌, ◌∷◌, ◌≡◌}
use Rattle.std.proofs.lemmas.Bool.{cases_eq}
use Rattle.std.specs.Option.{option_map}

-- Its growth is of these bytes.
pub big_by : (layout : Layout) (nodes : Nodes) (listings : List Listing) (from to : Path) (r : Renaming) (name : List ℕ) (x : IsSeen layout nodes listings from to r name) (len : ℕ)
    → HasRoomOf nodes (jobs.Move r) name (rooms.Grows len) → IsBigOne (dir_form layout) x.known.destination.listing.object.entry.len len
big_by layout nodes listings from to r name x len has = elim (cases_eq r.holder r.target.holder) [
  | inl here ↦ (
      let one = (x.known.within here).0 in
      let differs : it.entry.name ≡ name → ⊥ = λ same. (let fits = short_of.never_kept layout nodes listings x.sound x.held from to r x.known name (rooms.Grows len) here has same in cc) in
      let gain : Gain = record { listing = k; name = name; names = filter (λ (n : List ℕ). not (is_same_name n it.entry.name)) (names_of k.content) ++ name ∷ [] } in
      let room = short_of.room_within layout nodes listings x.sound x.held from to r x.known name (rooms.Grows len) here has gain differs (record { name_is = refl; names_are = refl }) in
      big gain (subst (λ (d : Listing). HasRoom d.content gain (rooms.Grows len)) (sym one) room))
  | inr away ↦ (
      let gain : Gain = record { listing = l; name = name; names = names_of l.content ++ name ∷ [] } in
      big gain (short_of.room_across layout nodes listings x.sound x.held from to r x.known name (rooms.Grows len) away has gain (record { name_is = refl; names_are = refl })))
]
  where
    it : Object
    it = x.known.target.object

    k : Listing
    k = x.known.target.listing

    l : Listing
    l = x.known.destination.listing

    big : (gain : Gain) → HasRoom x.known.destination.listing.content gain (rooms.Grows len) → IsBigOne (dir_form layout) x.known.destination.listing.object.entry.len len
    big gain room =
        let d = x.known.destination.listing in
        big_one (dir_form layout) d.object.entry.len len d.content gain d.object (x.forms d x.known.destination.listed) (x.bodies d x.known.destination.listed) (room.1 d.object)

-- the growth of the directory that gets the name, to so many bytes
abbrev pub growth_to : Renaming → Grown → Growth
growth_to r g = record { node = r.holder; len = g.1 }

module _ (v : Opened) (nodes : Nodes) (owners : List Owner) (sound : AreSound v.layout v.listings) (held : HoldObjects nodes v.listings) (from to : Path) (r : Renaming) (known : IsRenaming nodes v.listings from to r) (name : List ℕ)
    (name_is : name ≡ last_name to) where
  -- By whatever is wanted it grows as the command makes it grow.
  pub grows_as : (w : Wants) → AreWants (record { layout = v.layout; nodes = nodes; owners = owners }) (jobs.Move r) name w → w.grows ≡ option_map (growth_to r) (growth_in v (Command.Rename from to))
  grows_as w are = by w.grows are.room are.grown
    where
      by : (o : Option Growth) → HasRoomOf nodes (jobs.Move r) name (room_of o) → IsGrowthOf r.holder o → o ≡ option_map (growth_to r) (growth_in v (Command.Rename from to))
      by None room node = sym (ap (option_map (growth_to r)) (short_of.no_growth v nodes sound held from to r known name name_is room))
      by (Some g) room node =
          ap (λ (n : ℕ). let x : Option Growth = Some (record { node = n; len = g.len }) in x) node ∙ sym (ap (option_map (growth_to r)) (grows_to v nodes sound held from to r known name name_is g.len room).growth)

-- No directory of a disc with an old map grows.
pub none_old : (space : OldMapContent) (nodes : Nodes) (owners : List Owner) (listings : List Listing) (from to : Path) (r : Renaming) (name : List ℕ) → IsSeen (Layout.Old space) nodes listings from to r name
    → NoneGrows (record { layout = Layout.Old space; nodes = nodes; owners = owners }) (jobs.Move r) name
none_old space nodes owners listings from to r name x w are = by w.grows are.room
  where
    no_long : (b : Bool) → (let f : NameForm = cond b forms.Ten forms.Seven in f) ≡ forms.Long → ⊥
    no_long true e = absurd (cc)
    no_long false e = absurd (cc)

    by : (o : Option Growth) → HasRoomOf nodes (jobs.Move r) name (room_of o) → o ≡ None
    by None room = refl
    by (Some g) room = absurd (no_long (space.sector_units == 4) (big_by (Layout.Old space) nodes listings from to r name x g.len room).is_long)
