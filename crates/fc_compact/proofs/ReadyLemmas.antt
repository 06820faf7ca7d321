-- What is written into holes leaves an image ready.
use Rattle.std.proofs.Common.{◌≡◌, ◌<◌, inl, inr, ℕ, ◌+◌, ◌-◌, ◌*◌, true, false, List, length, subst, ◌∙◌, arith}
use Rattle.std.proofs.lemmas.Bool.{cases_lt}
use Rattle.fc_device.specs.Sectors.{sector_at}
use Rattle.fc_newmap.specs.Map.{Map, map_sectors}
use Rattle.fc_newmap.proofs.PlaceLemmas.{in_range}
use Rattle.fc_alloc.specs.declared.owner.Owner.{Owner}
use Rattle.fc_newmap.specs.declared.copies.Which.{Which}
use Rattle.fc_newmap.specs.declared.copies.Which.TheVariants.{One, Two}
use Rattle.fc_newmap.specs.Copies.{copy_start}
use Rattle.fc_newmap.proofs.RepairLemmas.{same_copy}
use Rattle.fc_image.specs.Layout.{Layout, hole_sectors, is_among, is_apart, map_place}
use Rattle.fc_image.specs.Stays.{OpensAs, SameOutsideHoles}
use Rattle.fc_image.proofs.HolesLemmas.{apart_at}
use Rattle.fc_compact.specs.Copy.{ChangesRow}
use Rattle.fc_compact.specs.Laws.{Laws}
use Rattle.fc_compact.specs.Ready.{IsReady}
use Rattle.fc_compact.specs.Steps.{Preserves}
use Rattle.fc_compact.proofs.PreservesLemmas.{hole_loose}

module _ (law : Laws) (m : Map) (owners : List Owner) (was image : List ℕ) (ready : IsReady m owners was) where
  -- no sector of the map lies in a hole
  pub map_no_hole : (s : ℕ) → is_among (map_sectors m.geometry) s ≡ true → is_among (hole_sectors (Layout.New m)) s ≡ false
  map_no_hole s e =
      apart_at (map_sectors m.geometry) (hole_sectors (Layout.New m)) s
      (subst (λ (l : Layout). is_apart (map_place l) (hole_sectors l) ≡ true) ready.layout (law.holes was ready.kind ready.of_record ready.view ready.new_kind ready.opens).0) e

  module _ (long : length image ≡ length was) (same : SameOutsideHoles m.geometry.sector (Layout.New m) was image) where
    hole_copy : (w : Which) → (z : ℕ) → z < m.geometry.zones → sector_at m.geometry.sector image (copy_start m.geometry w + z) ≡ sector_at m.geometry.sector was (copy_start m.geometry w + z)
    hole_copy w z lt = same (copy_start m.geometry w + z) (map_no_hole (copy_start m.geometry w + z) (place w))
      where
        place : (w : Which) → is_among (map_sectors m.geometry) (copy_start m.geometry w + z) ≡ true
        place One = in_range m.geometry.map_sector (2 * m.geometry.zones) (m.geometry.map_sector + z) (omega arith) (omega arith)
        place Two = in_range m.geometry.map_sector (2 * m.geometry.zones) (m.geometry.map_sector + m.geometry.zones + z) (omega arith) (omega arith)

    pub hole_ready : IsReady m owners image
    hole_ready =
        let step = law.hole_steps was image ready.kind ready.of_record ready.view m ready.new_kind ready.opens ready.layout long same in
        let own = law.maps.own was ready.kind ready.of_record ready.view m ready.new_kind ready.opens ready.layout in
        record {
          kind = ready.kind;
          of_record = ready.of_record;
          view = ready.view;
          new_kind = ready.new_kind;
          opens = subst (OpensAs image ready.kind) own step.opens;
          layout = ready.layout;
          copies = record {
            first = same_copy m.geometry One image was (hole_copy One) ∙ ready.copies.first;
            second = same_copy m.geometry Two image was (hole_copy Two) ∙ ready.copies.second;
            sound = ready.copies.sound;
          };
          owned = ready.owned;
        }

    pub hole_preserves : Preserves m owners was image
    hole_preserves = record {
      objects = law.keeps_objects.hole was image ready.kind ready.of_record ready.view m ready.new_kind ready.opens ready.layout long same;
      frame = record { same_length = long; outside = λ s out apart. same s (hole_loose m owners s apart) };
    }

-- ---- a row of sectors in a hole

module _ (m : Map) (to count : ℕ) (hole : (i : ℕ) → i < count → is_among (hole_sectors (Layout.New m)) (to + i) ≡ true) where
  pub row_same : (was image : List ℕ) → ChangesRow m.geometry.sector to count was image → SameOutsideHoles m.geometry.sector (Layout.New m) was image
  row_same was image row s none = elim (cases_lt s to) [
    | inl less ↦ row.outside s (inl less)
    | inr low ↦ elim (cases_lt s (to + count)) [
      | inl less ↦ absurd (
          let e : to + (s - to) ≡ s = omega arith in
          let there = subst (λ (k : ℕ). is_among (hole_sectors (Layout.New m)) k ≡ true) e (hole (s - to) (omega arith)) in
          cc)
      | inr more ↦ row.outside s (inr more)
    ]
  ]
