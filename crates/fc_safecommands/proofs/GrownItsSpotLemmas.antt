-- An entry comes to a directory that grows, in the safe mode: where its object lies.
use Rattle.std.proofs.Common.{◌≡◌, ◌&&◌, ℕ, Bool, true, false, refl, sym, ap, ap₂, subst, ◌∙◌, Option, Some, None}
use Rattle.std.specs.Prelude.{is_none}
use Rattle.std.specs.Option.{option_and_then}
use Rattle.fc_names.specs.Names.{Path}
use Rattle.fc_names.specs.declared.name.NameForm.{NameForm}
use Rattle.fc_model.specs.Tree.{holder, last_name}
use Rattle.fc_image.specs.Layout.{Layout, dir_form}
use Rattle.fc_image.specs.Walk.{is_directory_object}
use Rattle.fc_placing.specs.Places.{slack_left}
use Rattle.fc_placing.specs.declared.placing.Placing.{Placing}
use Rattle.fc_placing.specs.declared.placing.Placing.TheVariants as placings
use Rattle.fc_placing.specs.Slack.{place_in}
use Rattle.fc_tree.specs.Nodes.{number_of}
use Rattle.fc_change.specs.declared.job.Wants.{Wants}
use Rattle.fc_change.specs.declared.spaces.Place.{Place}
use Rattle.fc_change.specs.Places.{IsPlaceFor, is_directory}
use Rattle.fc_change.specs.Shortage.{slack_for}
use Rattle.fc_commands.proofs.ArrivalLemmas.{Arrival, address_is, bytes_of}
use Rattle.fc_commands.proofs.ArrivalPlaceLemmas.{is_folder, shares_of}
use Rattle.fc_commands.proofs.GrownComerLemmas.{object_for}
use Rattle.fc_commands.proofs.VacantLemmas as vacant
use Rattle.fc_safe.specs.FirstSpace.{IsFirstPlacing}
use Rattle.fc_safecommands.proofs.GrownArrivalLemmas.{growing, sound, want}
use Rattle.fc_safecommands.proofs.GrownArrivalStageLemmas.{place_at}
use Rattle.fc_safecommands.proofs.GrownComesLemmas.{GrownRun, o, place, sectors, size}
use Rattle.fc_safecommands.proofs.GrownObjectSpotLemmas.{IsSpot, in_new_space, in_slack, nowhere}

module _ (w : GrownRun) where
  abbrev form : NameForm
  form = dir_form (Layout.New w.a.m)

  abbrev wants : Wants
  wants = w.a.wants

  -- a directory is wanted where one is made
  pub folder : is_directory w.a.wants ≡ is_directory_object (o w)
  folder = ap₂ (λ (a b : Option ℕ). is_none a && is_none b) (want w.a).slack (want w.a).copy ∙ by w.a.x
    where
      by : (y : Arrival) → (is_none (shares_of w.a.dir y) && is_none {T = ℕ} None) ≡ is_directory_object (object_for form w.a.spot.listing.object.path y (last_name w.a.path) (place w).address (sectors w))
      by Arrival.Makes = refl
      by (Arrival.Saves words) = refl

  len_is : is_directory_object (o w) ≡ false → (o w).entry.len ≡ wants.bytes
  len_is e = by w.a.x e (want w.a).bytes
    where
      by : (y : Arrival) → is_directory_object (object_for form w.a.spot.listing.object.path y (last_name w.a.path) (place w).address (sectors w)) ≡ false → wants.bytes ≡ bytes_of form y
          → (object_for form w.a.spot.listing.object.path y (last_name w.a.path) (place w).address (sectors w)).entry.len ≡ wants.bytes
      by Arrival.Makes f bytes = absurd (cc)
      by (Arrival.Saves words) f bytes = sym bytes

  at : (o w).entry.address ≡ (place w).address
  at = address_is form w.a.x (last_name w.a.path) (place w).address

  near : number_of w.a.nodes (holder w.a.path) ≡ Some w.a.dir
  near = vacant.holder_number (Layout.New w.a.m) w.a.nodes w.a.listings (sound w.a) w.a.path w.a.dir w.a.spot

  shares : (y : Arrival) → wants.shares ≡ shares_of w.a.dir y → (share : ℕ × ℕ) → slack_for w.a.m w.a.owners wants ≡ Some share → wants.shares ≡ Some w.a.dir
  shares Arrival.Makes is share some =
      absurd (let none : (let n : Option (ℕ × ℕ) = None in n) ≡ Some share = sym (ap (λ (d : Option ℕ). option_and_then (λ (k : ℕ). slack_left w.a.m w.a.owners k wants.bytes) d) is) ∙ some in cc)
  shares (Arrival.Saves words) is share some = is

  -- It lies where nothing lies, in an identifier that doesn't move.
  pub its_spot : IsSpot (growing w.a) w.s w.placed (o w)
  its_spot = by w.placed.placing w.placed.placed (subst (IsPlaceFor w.a.m wants w.placed.placing) (place_at w.a w.s w.placed).1 w.placed.object)
    where
      by : (q : Placing) → IsFirstPlacing w.a.m w.a.owners wants w.placed.plans q → IsPlaceFor w.a.m wants q (Some (place w)) → IsSpot (growing w.a) w.s w.placed (o w)
      by placings.Nowhere first there = nowhere (growing w.a) w.s w.placed (o w) (place w) at refl (size w) first there
      by (placings.Shared share) first there =
          in_slack (growing w.a) w.s w.placed (o w) (place w) at refl (size w) (holder w.a.path) w.a.dir near (shares w.a.x (want w.a).slack (place_in share) first) share first there
      by (placings.New plan) first there = in_new_space (growing w.a) w.s w.placed (o w) (place w) at refl (size w) plan first.0 first.1 first.2 there folder len_is
