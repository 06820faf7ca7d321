-- Where what comes lies on an old map: at the front of the first hole that is long enough, beside what is there.
use Rattle.std.proofs.Common.{◌≡◌, ◌⊎◌, inl, inr, ⊎_elim, ℕ, true, List, [], Option, Some, sym, ap, subst, ◌∙◌, arith}
use Rattle.std.specs.Prelude.{Contains}
use Rattle.fc_alloc.specs.declared.owner.Owner.{Owner}
use Rattle.fc_record.specs.declared.Kind.{Kind}
use Rattle.fc_oldmap.specs.Holes.{after_take}
use Rattle.fc_oldmap.specs.OldMap.{OldMapContent}
use Rattle.fc_image.specs.Layout.{Layout, dir_form, disc_sectors, hole_sectors, is_among, is_apart, map_place, sectors_at}
use Rattle.fc_image.specs.Edits.{IsAt}
use Rattle.fc_image.specs.Objects.{objects_of}
use Rattle.fc_image.specs.Opening.{reserved_in}
use Rattle.fc_image.specs.Walk.{Listing, Object, object_size}
use Rattle.fc_image.specs.effects.Short.{old_need}
use Rattle.fc_image.proofs.HolesLemmas.{apart_at, apart_from}
use Rattle.fc_newmap.proofs.PlaceLemmas.{in_back}
use Rattle.fc_changes.proofs.BasicLemmas.{clash}
use Rattle.fc_changes.specs.old.Changed.{IsFileAt, IsFirstFitted}
use Rattle.fc_changes.proofs.lemmas.old.SpaceLemmas.{AreSpaced, IsNewPlace, new_place, nowhere}
use Rattle.fc_laws.specs.old.agree.Laws.{AgreeOn}
use Rattle.fc_laws.proofs.lemmas.old.agree.DirectoryLemmas.{spaced_parts}
use Rattle.fc_laws.proofs.lemmas.old.takeover.WriteLemmas.{written_bytes_law}
use Rattle.fc_space.specs.Space.{PlacesSuffice}
use Rattle.fc_laws.specs.nodes.Edits.{Nodes}
use Rattle.fc_laws.proofs.lemmas.takeover.SaidLemmas.{apart_front}
use Rattle.fc_tree.specs.declared.node.Node.{Node}
use Rattle.fc_change.specs.declared.job.Wants.{Wants}
use Rattle.fc_change.specs.declared.spaces.Place.{Place}
use Rattle.fc_change.specs.Places.{IsOldAt}
use Rattle.fc_commands.proofs.ArrivalLemmas.{Arrival, bytes_of}
use Rattle.fc_commands.proofs.ArrivalPlaceLemmas.{dir_some}
use Rattle.fc_commands.proofs.TwoPieceLemmas.{AreRoom}
use Rattle.fc_laws.proofs.lemmas.old.takeover.ApartLemmas.{no_bytes}

-- ---- as the command places it

-- a directory at the front of a hole, a file without bytes nowhere
abbrev pub IsOldPlacedAs : Arrival → OldMapContent → ℕ → Object → Type 0
IsOldPlacedAs Arrival.Makes space bytes o = IsFirstFitted space bytes o
IsOldPlacedAs (Arrival.Saves words) space bytes o = IsFileAt space bytes o

pub placed_as : (x : Arrival) (space : OldMapContent) (bytes : ℕ) (o : Object) → bytes ≡ bytes_of (dir_form (Layout.Old space)) x → IsFileAt space bytes o → IsOldPlacedAs x space bytes o
placed_as Arrival.Makes space bytes o long (inl fitted) = fitted
placed_as Arrival.Makes space bytes o long (inr none) = absurd (let some = dir_some (dir_form (Layout.Old space)) in let zero = none.0 in omega (arith, some, long, zero))
placed_as (Arrival.Saves words) space bytes o long at = at

-- ---- beside what is there

-- Sectors that an object may have beside these, by an old map.
pub record IsOldRoomBeside (space : OldMapContent) (objects : List Object) (sectors : List ℕ) : Type 0 where
  pub room : AreRoom (disc_sectors (Layout.Old space)) (map_place (Layout.Old space)) sectors
  pub apart : (p : Object) → Contains objects p → is_apart p.sectors sectors ≡ true

module _ (kind : Kind) (space : OldMapContent) (nodes : Nodes) (owners : List Owner) (root : Node) (listings : List Listing) (agreed : AgreeOn kind space nodes owners root listings) (suffice : PlacesSuffice (Layout.Old space)) where
  abbrev spaced : AreSpaced kind space (objects_of listings)
  spaced = spaced_parts kind space nodes owners root listings agreed

  module _ (bytes : ℕ) (o : Object) (size : object_size (dir_form (Layout.Old space)) o.entry ≡ bytes) (at : IsAt (Layout.Old space) o) where
    new : IsFileAt space bytes o → IsNewPlace kind space (objects_of listings) spaced o (after_take (old_need space bytes) space.holes)
    new (inl fits) = new_place kind space (objects_of listings) spaced bytes o size at fits.1
    new (inr none) =
        nowhere kind space (objects_of listings) spaced o (after_take (old_need space bytes) space.holes)
        (no_bytes (Layout.Old space) o.entry.address o.sectors (subst (λ (k : ℕ). sectors_at (Layout.Old space) o.entry.address k ≡ Some o.sectors) (size ∙ none.0) at))

    -- Wherever it lies it has room.
    pub old_room : IsFileAt space bytes o → IsOldRoomBeside space (objects_of listings) o.sectors
    old_room place =
        let free = new place in
        record {
          room = record {
            low = (suffice o.entry.address (object_size (dir_form (Layout.Old space)) o.entry) o.sectors at).on_disc;
            once = written_bytes_law.apart space o agreed.is_map at;
            beside = apart_from o.sectors (map_place (Layout.Old space)) (λ s i j. clash (is_among (map_place (Layout.Old space)) s) j (free.off_map s i));
          };
          apart = λ p there.
              apart_from p.sectors o.sectors
              (λ s i j. clash (is_among (reserved_in kind (Layout.Old space)) s) (in_back (map_place (Layout.Old space)) (hole_sectors (Layout.Old space)) s (free.was_free s j))
              (apart_at p.sectors (reserved_in kind (Layout.Old space)) s (spaced.lies p there).apart i));
        }

  -- So does a directory that is there.
  pub dir_room : (o : Object) → Contains (objects_of listings) o → AreRoom (disc_sectors (Layout.Old space)) (map_place (Layout.Old space)) o.sectors
  dir_room o there =
      let lies = spaced.lies o there in
      record {
        low = (suffice o.entry.address (object_size (dir_form (Layout.Old space)) o.entry) o.sectors lies.placed).on_disc;
        once = written_bytes_law.apart space o agreed.is_map lies.placed;
        beside = apart_front o.sectors (map_place (Layout.Old space)) (hole_sectors (Layout.Old space)) lies.apart;
      }

-- by its place
pub spot : (space : OldMapContent) (w : Wants) (place : Place) (o : Object) → o.entry.address ≡ place.address → IsOldAt space w place → IsFileAt space w.bytes o
spot space w place o same at =
    ⊎_elim (λ fits. inl (fits.0, fits.1 ∙ ap (λ (a : ℕ). let r : Option ℕ = Some a in r) (sym same))) (λ none. inr (none.0, same ∙ none.1)) at.address
