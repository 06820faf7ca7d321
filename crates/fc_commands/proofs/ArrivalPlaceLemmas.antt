-- What comes has a place, nothing else is placed, and its address fits the directory that lists it.
use Rattle.std.proofs.Common.{◌≡◌, ◌<◌, ◌+◌, ◌*◌, ◌/◌, ◌^◌, ◌==◌, ◌&&◌, ◌⊎◌, inl, inr, ℕ, Bool, true, false, cond, find, List, [], Option, Some, None, refl, sym, ap, subst, ◌∙◌, arith}
use Rattle.std.specs.Prelude.{is_none, is_some, nat_eq}
use Rattle.std.specs.Option.{option_map, unwrap_or}
use Rattle.std.proofs.lemmas.Bool.{eqb-true}
use Rattle.fc_alloc.specs.declared.owner.Owner.{Owner}
use Rattle.fc_names.specs.declared.name.NameForm.{NameForm}
use Rattle.fc_names.specs.declared.name.NameForm.TheVariants as forms
use Rattle.fc_newmap.specs.Map.{Map, bits_in}
use Rattle.fc_newmap.specs.NewMap.{IsNewMap}
use Rattle.fc_oldmap.specs.OldMap.{OldMapContent}
use Rattle.fc_dirs.specs.Directory.{Directory}
use Rattle.fc_drafts.specs.Draft.{CanAddress}
use Rattle.fc_drafts.specs.declared.room.Room.TheVariants as rooms
use Rattle.fc_image.specs.Layout.{Layout, dir_form, sectors_at}
use Rattle.fc_image.specs.effects.Placed.{file_low}
use Rattle.fc_image.specs.effects.Sharing.{holdings_in, is_shareable, is_spare, shares, slack_among}
use Rattle.fc_image.specs.effects.Short.{new_dir_size}
use Rattle.fc_changes.proofs.MadeLemmas.{file_low_small}
use Rattle.fc_objects.specs.Extents.{sectors_in}
use Rattle.fc_placing.specs.Places.{slack_left}
use Rattle.fc_placing.specs.declared.placing.Placing.{Placing}
use Rattle.fc_placing.specs.declared.placing.Placing.TheVariants as placings
use Rattle.fc_plan.specs.declared.plan.Plan.{Plan}
use Rattle.fc_plan.specs.Parts.{fronts}
use Rattle.fc_placing.specs.Slack.{holdings, place_in}
use Rattle.fc_tree.specs.Agree.{HasForm}
use Rattle.fc_tree.specs.Parts.{Parts}
use Rattle.fc_change.specs.declared.job.Growth.{Growth}
use Rattle.fc_change.specs.declared.job.Wants.{Wants}
use Rattle.fc_change.specs.declared.spaces.GrownPlace.{GrownPlace}
use Rattle.fc_change.specs.declared.spaces.Place.{Place}
use Rattle.fc_change.specs.declared.spaces.Spaces.{Spaces}
use Rattle.fc_change.specs.Drafts.{address_in}
use Rattle.fc_change.specs.GrownSpace.{IsGrown}
use Rattle.fc_change.specs.Needs.{AreWants, HasRoomFor, room_of}
use Rattle.fc_change.specs.Places.{ArePlacesFor, ArePlacesOn, IsOldPlaced, IsPlaceFor, IsPlacingFor, address_for, extents_in, is_directory, own_address, plan_in}
use Rattle.fc_commands.specs.Run.{IsMapIn}
use Rattle.fc_commands.proofs.ArrivalLemmas.{Arrival, bytes_of, job_of}
use Rattle.fc_commands.proofs.EmptySpaceLemmas.{none_copied}
use Rattle.fc_commands.proofs.EnteredLemmas.{fits_form}
use Rattle.fc_commands.proofs.NodeLemmas.{low_address, short_id}

-- ---- what it wants

abbrev pub shares_of : ℕ → Arrival → Option ℕ
shares_of dir Arrival.Makes = None
shares_of dir (Arrival.Saves words) = Some dir

-- Its bytes, in slack if it is a file; and no directory grows.
pub record WantsPlace (h : Parts) (dir : ℕ) (x : Arrival) (w : Wants) : Type 0 where
  pub bytes : w.bytes ≡ bytes_of (dir_form h.layout) x
  pub slack : w.shares ≡ shares_of dir x
  pub copy : w.copied ≡ None
  pub grows : w.grows ≡ None

-- It wants that beside all that is there, since the directory that lists it has room.
pub record IsWanted (h : Parts) (dir : ℕ) (x : Arrival) (name : List ℕ) (w : Wants) : Type 0 where
  pub bytes : w.bytes ≡ bytes_of (dir_form h.layout) x
  pub slack : w.shares ≡ shares_of dir x
  pub copy : w.copied ≡ None
  pub goes : w.goes ≡ None
  pub grows : w.grows ≡ None
  pub room : HasRoomFor h.nodes dir name rooms.Fits

pub wanted : (h : Parts) (dir : ℕ) (x : Arrival) (name : List ℕ) (w : Wants) → w.grows ≡ None → AreWants h (job_of dir x) name w → IsWanted h dir x name w
wanted h dir Arrival.Makes name w none are = record {
  bytes = are.bytes;
  slack = are.slack;
  copy = are.copy;
  goes = are.left;
  grows = none;
  room = subst (λ (g : Option Growth). HasRoomFor h.nodes dir name (room_of g)) none are.room;
}
wanted h dir (Arrival.Saves words) name w none are = record {
  bytes = are.bytes;
  slack = are.slack;
  copy = are.copy;
  goes = are.left;
  grows = none;
  room = subst (λ (g : Option Growth). HasRoomFor h.nodes dir name (room_of g)) none are.room;
}

pub wants_place : (h : Parts) (dir : ℕ) (x : Arrival) (name : List ℕ) (w : Wants) → IsWanted h dir x name w → WantsPlace h dir x w
wants_place h dir x name w is = record { bytes = is.bytes; slack = is.slack; copy = is.copy; grows = is.grows }

pub dir_some : (form : NameForm) → 0 < new_dir_size form
dir_some forms.Seven = omega arith
dir_some forms.Ten = omega arith
dir_some forms.Long = omega arith

abbrev pub is_folder : Arrival → Bool
is_folder Arrival.Makes = true
is_folder (Arrival.Saves words) = false

-- Its place, beside which nothing else is placed.
pub record IsItsPlace (s : Spaces) : Type 0 where
  pub place : Place
  pub is : s.object ≡ Some place
  pub copied : s.copied ≡ None
  pub grown : s.grown ≡ None

module _ (h : Parts) (dir : ℕ) (x : Arrival) (w : Wants) (is : WantsPlace h dir x w) where
  -- a file without bytes may share slack, and a directory has some
  never_nowhere : w.bytes ≡ 0 → w.shares ≡ None → ⊥
  never_nowhere none alone = by x is.bytes is.slack
    where
      by : (y : Arrival) → w.bytes ≡ bytes_of (dir_form h.layout) y → w.shares ≡ shares_of dir y → ⊥
      by Arrival.Makes bytes slack = let some = dir_some (dir_form h.layout) in omega (arith, some, bytes, none)
      by (Arrival.Saves words) bytes slack = let some = sym slack ∙ alone in cc

  -- it is a directory as it is one
  pub folder_is : is_directory w ≡ is_folder x
  folder_is = (λ i. is_none (is.slack i) && is_none (is.copy i)) ∙ by x
    where
      by : (y : Arrival) → (is_none (shares_of dir y) && is_none {T = ℕ} None) ≡ is_folder y
      by Arrival.Makes = refl
      by (Arrival.Saves words) = refl

  -- ---- where it lies

  some_new : (m : Map) (placing : Placing) (o : Option Place) → IsPlaceFor m w placing o → (p : Place) × (o ≡ Some p)
  some_new m placing (Some p) at = (p, refl)
  some_new m placing None at = absurd (never_nowhere at.0 at.1)

  some_old : (space : OldMapContent) (o : Option Place) → IsOldPlaced space w o → (p : Place) × (o ≡ Some p)
  some_old space (Some p) at = (p, refl)
  some_old space None at = absurd (never_nowhere at.0 at.1)

  pub none_grown : (m : Map) (object dir' : Option Plan) (place : Option GrownPlace) → IsGrown m h object w.grows dir' place → (dir' ≡ None) × (place ≡ None)
  none_grown m object dir' place at = subst (λ (g : Option Growth). IsGrown m h object g dir' place) is.grows at

  place_on : (layout : Layout) (s : Spaces) → ArePlacesOn layout h w s → IsItsPlace s
  place_on (Layout.New m) s at =
      let p = some_new m at.placing s.object at.object in
      record { place = p.0; is = p.1; copied = none_copied (Layout.New m) h.nodes w.copied s.copied is.copy at.copied; grown = (none_grown m (plan_in at.placing) at.dir s.grown at.grown).1 }
  place_on (Layout.Old space) s at = let p = some_old space s.object at.object in record { place = p.0; is = p.1; copied = at.copied; grown = at.grown }

  pub its_place : (s : Spaces) → ArePlacesFor h w s → IsItsPlace s
  its_place s at = place_on h.layout s at

-- ---- its address fits

version_is : (b : Bool) → ((let f : NameForm = cond b forms.Ten forms.Long in f) ≡ forms.Long → ⊥) → b ≡ true
version_is true small = refl
version_is false small = absurd (small refl)

some_bytes : (m : Map) (owners : List Owner) (dir bytes : ℕ) (share : ℕ × ℕ) → slack_left m owners dir bytes ≡ Some share → (bytes == 0) ≡ false
unfolding slack_among
some_bytes m owners dir bytes share h = by (bytes == 0) refl h
  where
    by : (b : Bool) → (bytes == 0) ≡ b
        → cond b None (find (λ s. is_shareable nat_eq dir (holdings_in (holdings m owners) s.0) && is_spare m (holdings_in (holdings m owners) s.0) s.0 s.1 bytes) (shares m)) ≡ Some share
        → (bytes == 0) ≡ false
    by true e g = absurd (cc)
    by false e g = e

module _ (m : Map) (is : IsNewMap m) (w : Wants) (owners : List Owner) (small : m.geometry.version ≡ 0) where
  low_plan : (plan : Plan) (b : Bool) → plan.id < 2 ^ m.geometry.idlen → own_address b m w.bytes plan < 2 ^ 24
  low_plan plan true fits = let few = short_id m is small plan.id fits in omega (arith, few)
  low_plan plan false fits =
      let few = short_id m is small plan.id fits in
      let low = file_low_small m.geometry (bits_in (fronts plan.parts.items) * m.geometry.bit_bytes) w.bytes in
      omega (arith, few, low)

  low_new : (placing : Placing) (p : Place) → IsPlacingFor m owners w placing → IsPlaceFor m w placing (Some p) → p.address < 2 ^ 24
  low_new placings.Nowhere p placed at = omega (arith, at.0)
  low_new (placings.Shared share) p placed at = low_address m p.address w.bytes (sectors_in p.extents.items) is small (some_bytes m owners placed.0 w.bytes (place_in share) placed.2) at.1
  low_new (placings.New plan) p placed at = subst (λ (a : ℕ). a < 2 ^ 24) (sym at.0) (low_plan plan (is_directory w) placed.1.can.fits)

module _ (h : Parts) (w : Wants) (content : Directory) (len : ℕ) where
  fits_on : (layout : Layout) → IsMapIn layout → (s : Spaces) (p : Place) → HasForm (dir_form layout) len content → s.object ≡ Some p → ArePlacesOn layout h w s → CanAddress content p.address
  fits_on (Layout.New m) is s p has at placed =
      fits_form (dir_form (Layout.New m)) content len p.address has
      (λ small. low_new m is w h.owners (eqb-true m.geometry.version 0 (version_is (m.geometry.version == 0) small)) placed.placing p placed.is
      (subst (IsPlaceFor m w placed.placing) at placed.object))
  fits_on (Layout.Old space) is s p has at placed = fits_form (dir_form (Layout.Old space)) content len p.address has (λ small. (subst (IsOldPlaced space w) at placed.object).short)

  -- The directory that lists it can hold its address.
  pub address_fits : IsMapIn h.layout → (s : Spaces) (p : Place) → HasForm (dir_form h.layout) len content → s.object ≡ Some p → ArePlacesFor h w s → CanAddress content p.address
  address_fits is s p has at placed = fits_on h.layout is s p has at placed
