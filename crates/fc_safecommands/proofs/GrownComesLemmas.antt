-- An entry comes to a directory that grows, in the safe mode: what comes, what it says, and what is written of it.
use Rattle.std.proofs.Common.{◌≡◌, ◌⊎◌, inl, inr, ℕ, Bool, true, false, List, [], ◌∷◌, refl, sym, ap, ap₂, subst, ◌∙◌, Option, Some, None}
use Rattle.std.specs.Prelude.{Vec}
use Rattle.std.specs.Option.{option_map, unwrap_or}
use Rattle.std.specs.declared.alloc.Global.{Global}
use Rattle.fc_model.specs.Tree.{last_name}
use Rattle.fc_device.specs.declared.disk.Extent.{Extent}
use Rattle.fc_dirs.specs.declared.Entry.{Entry}
use Rattle.fc_dirs.specs.Directory.{entries_of}
use Rattle.fc_dirs.specs.Entries.{has_name}
use Rattle.fc_drafts.specs.declared.draft.Draft.{Draft}
use Rattle.fc_drafts.specs.declared.room.Room.TheVariants as rooms
use Rattle.fc_drafts.specs.Gains.{GetsName, HasRoom}
use Rattle.fc_edits.specs.Addition.{ComesAlone}
use Rattle.fc_image.specs.Layout.{Layout, dir_form}
use Rattle.fc_image.specs.Walk.{Listing, Object, object_size}
use Rattle.fc_image.specs.effects.Short.{Gain}
use Rattle.fc_objects.specs.Extents.{sectors_in}
use Rattle.fc_writing.specs.declared.ready.Ready.{Ready}
use Rattle.fc_change.specs.declared.change.Change.{Change}
use Rattle.fc_change.specs.declared.change.Regrowth.{Regrowth}
use Rattle.fc_change.specs.declared.change.Turned.{Turned}
use Rattle.fc_change.specs.declared.change.Turned.TheVariants as turns
use Rattle.fc_change.specs.declared.spaces.GrownPlace.{GrownPlace}
use Rattle.fc_change.specs.declared.spaces.Place.{Place}
use Rattle.fc_change.specs.declared.spaces.Spaces.{Spaces}
use Rattle.fc_change.specs.Drafts.{IsChangeOf, IsTurnedBy, address_in}
use Rattle.fc_change.specs.Prepared.{IsNewPiece, IsSourceOf}
use Rattle.fc_commands.proofs.ArrivalLemmas.{entry_of, job_of, name_is, size_is}
use Rattle.fc_commands.proofs.EmptySpaceLemmas.{none_copied}
use Rattle.fc_commands.proofs.GrownComerLemmas.{OwnsDraft, WritesIt, comes_by, comes_by_itself, listed_by, made_by, object_for, own_listings, writes_by}
use Rattle.fc_commands.proofs.GrownPreparedLemmas.{IsGrownChange}
use Rattle.fc_commands.proofs.GrownSaidLemmas.{IsOwnListing}
use Rattle.fc_safe.specs.FirstSpace.{ArePlacedFirst}
use Rattle.fc_safecommands.specs.Anew.{IsReadyAnew}
use Rattle.fc_safecommands.proofs.GrownArrivalLemmas.{GrownArrival, growing, h, has_room, job, want}
use Rattle.fc_safecommands.proofs.GrownArrivalStageLemmas.{ch, dir_is, first, p_is, place_at}
use Rattle.fc_safecommands.proofs.GrownStepLemmas.{grown_at}

-- The job, with its spaces, its change, and what is ready of it.
pub record GrownRun : Type 0 where
  pub a : GrownArrival
  pub s : Spaces
  pub placed : ArePlacedFirst a.m (h a) (job a) a.wants s
  pub c : Change
  pub change : IsChangeOf (h a) (job a) (last_name a.path) s c
  pub r : Ready
  pub ready : IsReadyAnew a.m (h a) a.wants c s r

module _ (w : GrownRun) where
  abbrev pub p : GrownPlace
  p = (grown_at (growing w.a) w.s w.placed).0

  abbrev pub place : Place
  place = (place_at w.a w.s w.placed).0

  place_is : w.s.object ≡ Some (place_at w.a w.s w.placed).0
  place_is = (place_at w.a w.s w.placed).1

  -- its entry
  abbrev pub e : Entry
  e = entry_of (dir_form (Layout.New w.a.m)) w.a.x (last_name w.a.path) (place_at w.a w.s w.placed).0.address

  entry_is : w.change.entry ≡ e
  entry_is =
      made_by (h w.a) w.a.dir w.a.x (last_name w.a.path) (address_in w.s) w.change.entry w.change.made
      ∙ ap (λ (o : Option Place). entry_of (dir_form (Layout.New w.a.m)) w.a.x (last_name w.a.path) (unwrap_or (option_map (λ (y : Place). y.address) o) 0)) place_is

  pub tells : IsGrownChange w.a.nodes e p.directory w.c
  tells = subst (λ (y : Entry). IsGrownChange w.a.nodes y p.directory w.c) entry_is (ch w.a w.s w.placed w.c w.change)

  turned : (o : Option Draft) × (w.c.object ≡ turns.Comes p.directory.node e o) × OwnsDraft (dir_form (Layout.New w.a.m)) p.directory.address w.a.x (last_name w.a.path) o
  turned =
      comes_by (h w.a) w.a.dir w.a.x (last_name w.a.path) p.directory e w.c.object (dir_is w.a w.s w.placed)
      (subst (λ (y : Entry). IsTurnedBy (h w.a) (job_of w.a.dir w.a.x) (last_name w.a.path) (Some p.directory) y w.c.object) entry_is
      (subst (λ (g : Option Regrowth). IsTurnedBy (h w.a) (job_of w.a.dir w.a.x) (last_name w.a.path) g w.change.entry w.c.object) (ap (option_map (λ (y : GrownPlace). y.directory)) (p_is w.a w.s w.placed)) w.change.object))

  pub own : Option Draft
  own = turned.0

  pub comes : w.c.object ≡ turns.Comes p.directory.node e own
  unfolding own
  comes = turned.1

  pub owns : OwnsDraft (dir_form (Layout.New w.a.m)) p.directory.address w.a.x (last_name w.a.path) own
  unfolding own
  owns = turned.2

  -- its bytes
  pub writes : WritesIt w.a.x own place w.ready.early.made w.r.source
  writes =
      writes_by w.a.x (dir_form (Layout.New w.a.m)) p.directory.address p.directory.node (last_name w.a.path) e own place w.ready.early.made w.r.source owns
      (subst (λ (t : Turned). IsNewPiece t (Some place) w.ready.early.made) comes (subst (λ (o : Option Place). IsNewPiece w.c.object o w.ready.early.made) place_is w.ready.early.makes))
      (subst (λ (t : Turned). IsSourceOf t (Some place) None w.r.source) comes
      (subst (λ (o : Option Place). IsSourceOf w.c.object o None w.r.source) place_is
      (subst (λ (v : Option (Vec Extent Global)). IsSourceOf w.c.object w.s.object v w.r.source)
      (none_copied (Layout.New w.a.m) w.a.nodes w.a.wants.copied w.s.copied (want w.a).copy w.placed.copied) w.ready.source)))

  abbrev pub sectors : List ℕ
  sectors = sectors_in (place_at w.a w.s w.placed).0.extents.items

  -- of its bytes
  pub size : object_size (dir_form (Layout.New w.a.m)) e ≡ w.a.wants.bytes
  size = size_is (dir_form (Layout.New w.a.m)) w.a.x (last_name w.a.path) place.address ∙ sym (want w.a).bytes

  abbrev pub o : Object
  o = object_for (dir_form (Layout.New w.a.m)) w.a.spot.listing.object.path w.a.x (last_name w.a.path) place.address sectors

  abbrev pub into : List Listing
  into = own_listings (dir_form (Layout.New w.a.m)) p.directory.address w.a.x (last_name w.a.path) o

  pub comes_alone : ComesAlone (Layout.New w.a.m) into o
  comes_alone = comes_by_itself (Layout.New w.a.m) w.a.spot.listing.object.path w.a.x (last_name w.a.path) place.address p.directory.address sectors own place w.ready.early.made w.r.source owns writes

  pub is_own : (number : ℕ) → IsOwnListing number own into
  is_own number = listed_by (dir_form (Layout.New w.a.m)) p.directory.address number w.a.x (last_name w.a.path) o own owns

  pub named : e.name ≡ last_name w.a.path
  named = name_is (dir_form (Layout.New w.a.m)) w.a.x (last_name w.a.path) place.address

  pub room : (gain : Gain) → GetsName w.a.spot.listing.content e.name gain → HasRoom w.a.spot.listing.content gain (rooms.Grows p.directory.len)
  room = subst (λ (n : List ℕ). (gain : Gain) → GetsName w.a.spot.listing.content n gain → HasRoom w.a.spot.listing.content gain (rooms.Grows p.directory.len)) (sym named)
      (subst (λ (n : ℕ). (gain : Gain) → GetsName w.a.spot.listing.content (last_name w.a.path) gain → HasRoom w.a.spot.listing.content gain (rooms.Grows n)) (sym (ap (λ (d : Regrowth). d.len) (first w.a w.s w.placed).directory)) (has_room w.a))

  pub absent : has_name (entries_of w.a.spot.listing.content) e.name ≡ false
  absent = subst (λ (n : List ℕ). has_name (entries_of w.a.spot.listing.content) n ≡ false) (sym named) w.a.spot.no_name
