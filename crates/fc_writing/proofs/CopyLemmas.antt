-- Copies of a map that are made equal, and copies that stay.
use Rattle.std.proofs.Common.{◌≡◌, ◌<◌, ◌≤◌, ◌⊎◌, inl, inr, ℕ, ◌+◌, ◌*◌, true, false, List, [], ◌∷◌, map, refl, ap, ap₂, subst, ◌∙◌, arith, eq-eqb}
use Rattle.std.specs.Prelude.{◌||◌}
use Rattle.std.specs.List.{range_with_len}
use Rattle.std.proofs.lemmas.Bool.{cases_lt}
use Rattle.fc_device.specs.Sectors.{sector_at}
use Rattle.fc_record.specs.declared.Geometry.{Geometry}
use Rattle.fc_newmap.specs.Map.{Map, map_sectors}
use Rattle.fc_newmap.proofs.PlaceLemmas.{in_back, in_range, range_in}
use Rattle.fc_newmap.specs.declared.copies.Which.{Which}
use Rattle.fc_newmap.specs.declared.copies.Which.TheVariants.{One, Two}
use Rattle.fc_newmap.specs.Copies.{ChangesCopies, Chooses, HoldsCopies, RepairLeaves, chosen, copy_of, is_sound}
use Rattle.fc_newmap.proofs.ReadingLemmas.{chooses_one}
use Rattle.fc_image.specs.Layout.{is_among}
use Rattle.fc_writing.specs.Content.{IsPart}
use Rattle.fc_writing.specs.Copies.{CountsAs, KeepsMap}
use Rattle.fc_writing.proofs.ContentLemmas.{clash}

-- ---- copies that are made equal

-- the first copy counts
pub chooses_first : (g : Geometry) (zones : List (List ℕ)) (image : List ℕ) → HoldsCopies g zones image → Chooses g zones image
chooses_first g zones image holds = record { which = One; chosen_one = chooses_one g image (ap is_sound holds.first ∙ holds.sound); content = holds.first }

-- equal copies are kept as they are
pub equal_kept : (m : Map) (image : List ℕ) → HoldsCopies m.geometry m.zones image → KeepsMap m image image
equal_kept m image holds = record { frame = record { same_length = refl; outside = λ s out. refl }; content = chooses_first m.geometry m.zones image holds }

-- what a repair leaves has the map's zones
pub repaired : (m : Map) (g : Geometry) (which : Which) (was image : List ℕ) → g ≡ m.geometry → RepairLeaves g was which image → CountsAs m which was → KeepsMap m was image
repaired m g which was image same left counts = record {
  frame = subst (λ (h : Geometry). ChangesCopies h was image) same left.frame;
  content = subst (λ (zs : List (List ℕ)). Chooses m.geometry zs image) counts.content
      (subst (λ (h : Geometry). Chooses h (copy_of h which was) image) same left.content);
}

pub repaired_copies : (m : Map) (g : Geometry) (which : Which) (was image : List ℕ) → g ≡ m.geometry → HoldsCopies g (copy_of g which was) image → CountsAs m which was → HoldsCopies m.geometry m.zones image
repaired_copies m g which was image same holds counts =
    subst (λ (zs : List (List ℕ)). HoldsCopies m.geometry zs image) counts.content
    (subst (λ (h : Geometry). HoldsCopies h (copy_of h which was) image) same holds)

-- ---- copies that stay

map_among : (g : Geometry) (s : ℕ) → is_among (map_sectors g) s ≡ false → (s < g.map_sector) ⊎ (g.map_sector + 2 * g.zones ≤ s)
map_among g s out = elim (cases_lt s g.map_sector) [
  | inl low ↦ inl low
  | inr high ↦ (elim (cases_lt s (g.map_sector + 2 * g.zones)) [
    | inl inside ↦ absurd (clash (is_among (map_sectors g) s) (in_range g.map_sector (2 * g.zones) s high inside) out)
    | inr past ↦ inr past
  ])
]

-- only the copies change
pub part_of_map : (g : Geometry) (was image : List ℕ) → ChangesCopies g was image → IsPart g.sector (map_sectors g) [] was image
part_of_map g was image frame = record { length_stays = frame.same_length; each = λ s out. inl (frame.outside s (map_among g s out)) }

same_zones : (size : ℕ) (was image : List ℕ) (sectors : List ℕ) → ((s : ℕ) → is_among sectors s ≡ true → sector_at size image s ≡ sector_at size was s) → map (sector_at size image) sectors ≡ map (sector_at size was) sectors
same_zones size was image [] same = refl
same_zones size was image (s ∷ sectors) same =
    ap₂ (λ (x : List ℕ) (xs : List (List ℕ)). x ∷ xs) (same s (ap (λ b. b || is_among sectors s) (eq-eqb s s refl)))
    (same_zones size was image sectors (λ t e. same t (in_back (s ∷ []) sectors t e)))

module _ (g : Geometry) (was image : List ℕ) (stay : (s : ℕ) → is_among (map_sectors g) s ≡ true → sector_at g.sector image s ≡ sector_at g.sector was s) where
  copy_stays : (w : Which) → copy_of g w image ≡ copy_of g w was
  copy_stays One =
      same_zones g.sector was image (range_with_len g.map_sector g.zones)
      (λ s e. let r = range_in g.map_sector g.zones s e in stay s (in_range g.map_sector (2 * g.zones) s r.0 (omega (arith, r.1))))
  copy_stays Two =
      same_zones g.sector was image (range_with_len (g.map_sector + g.zones) g.zones)
      (λ s e. let r = range_in (g.map_sector + g.zones) g.zones s e in stay s (in_range g.map_sector (2 * g.zones) s (omega (arith, r.0)) (omega (arith, r.1))))

  pub copies_stay : (zones : List (List ℕ)) → HoldsCopies g zones was → HoldsCopies g zones image
  copies_stay zones h = record { first = copy_stays One ∙ h.first; second = copy_stays Two ∙ h.second; sound = h.sound }

  chosen_stays : chosen g image ≡ chosen g was
  unfolding chosen
  chosen_stays = rw (copy_stays One, copy_stays Two) refl

  -- the copy that counts
  pub chooses_stays : (zones : List (List ℕ)) → Chooses g zones was → Chooses g zones image
  chooses_stays zones c = record { which = c.which; chosen_one = chosen_stays ∙ c.chosen_one; content = copy_stays c.which ∙ c.content }
