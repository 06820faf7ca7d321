-- Images that open by a new map, and sectors that differ at most in the map's copies.
use Rattle.std.proofs.Common.{◌≡◌, ◌<◌, ◌≤◌, ◌⊎◌, inl, inr, ℕ, ◌+◌, ◌*◌, true, false, List, [], ◌∷◌, refl, ap, ◌∙◌}
use Rattle.std.specs.Prelude.{Result, Ok, Option, Some, None, ◌||◌}
use Rattle.std.proofs.lemmas.Bool.{cases_lt, eq-eqb}
use Rattle.std.proofs.lemmas.List.Elements.{All-nil, All-cons}
use Rattle.fc_device.specs.Sectors.{sector_at}
use Rattle.fc_record.specs.declared.DiscRecord.{DiscRecord}
use Rattle.fc_record.specs.declared.Kind.{Kind}
use Rattle.fc_record.specs.declared.Kind.TheVariants.{Boot, OneZone, DiscD, DiscL}
use Rattle.fc_oldmap.specs.OldMap.{OldMapContent, free_space, hole_fault}
use Rattle.fc_newmap.specs.Map.{Map, map_sectors}
use Rattle.fc_newmap.proofs.PlaceLemmas.{in_back, in_range}
use Rattle.fc_newmap.specs.Copies.{ChangesCopies}
use Rattle.fc_image.specs.declared.ImageFault.{ImageFault}
use Rattle.fc_image.specs.Layout.{Layout, is_among}
use Rattle.fc_image.specs.Opening.{MapAndRoot, Opened, holes_or}
use Rattle.fc_image.specs.Stays.{HasSectorsOf, IsNewKind, OpensAs}
use Rattle.fc_image.proofs.FreeLemmas.{parts_of}
use Rattle.fc_image.specs.effects.Steady.{SameSectors}
use Rattle.fc_changes.specs.Owed.{IsWritten}
use Rattle.fc_changes.proofs.BasicLemmas.{clash}

-- ---- the kind

pub old_never : (space : OldMapContent) (address size : ℕ) (fault : Option ℕ) (found : MapAndRoot) (m : Map) → holes_or (Layout.Old space, address, size) fault ≡ Ok found → found.0 ≡ Layout.New m → ⊥
old_never space address size None found m e new =
    let is : Layout.Old space ≡ found.0 = first (Layout.Old space, address, size) found e in
    let both : Layout.Old space ≡ Layout.New m = is ∙ new in
    cc
  where
    first : (a b : MapAndRoot) → (let x : Result MapAndRoot ImageFault = Ok a in x) ≡ Ok b → a.0 ≡ b.0
    first a b h = cc
old_never space address size (Some index) found m e new = cc

-- an image that opens by a new map opens as a kind with one
pub new_kind : (image : List ℕ) (kind : Kind) (v : Opened) (m : Map) → OpensAs image kind v → v.layout ≡ Layout.New m → (r : DiscRecord) × IsNewKind kind r
new_kind image (Boot r) v m opens layout = (r, refl)
new_kind image (OneZone r) v m opens layout = (r, refl)
new_kind image DiscD v m opens layout =
    let p = parts_of image DiscD v opens.opened in
    absurd (old_never (free_space image 4) 4 0 (hole_fault image 4) p.0 m p.1.1 (ap (λ (w : Opened). w.layout) p.1.4 ∙ layout))
new_kind image (DiscL units) v m opens layout =
    let p = parts_of image (DiscL units) v opens.opened in
    absurd (old_never (free_space image 1) 2 0 (hole_fault image 1) p.0 m p.1.1 (ap (λ (w : Opened). w.layout) p.1.4 ∙ layout))

-- ---- sectors

pub among_first : (x : ℕ) (xs : List ℕ) → is_among (x ∷ xs) x ≡ true
among_first x xs = ap (λ b. b || is_among xs x) (eq-eqb x x refl)

pub same_sectors : (size : ℕ) (image image' sectors : List ℕ) → HasSectorsOf size sectors image image' → SameSectors size sectors image image'
same_sectors size image image' [] same = All-nil (λ s. sector_at size image' s ≡ sector_at size image s)
same_sectors size image image' (x ∷ sectors) same =
    All-cons (λ s. sector_at size image' s ≡ sector_at size image s) x sectors (same x (among_first x sectors))
    (same_sectors size image image' sectors (λ s h. same s (in_back (x ∷ []) sectors s h)))

-- only the copies of the map were written
pub copies_written : (m : Map) (image image' : List ℕ) → ChangesCopies m.geometry image image' → IsWritten m [] image image'
copies_written m image image' frame = record {
  length_stays = frame.same_length;
  writes = λ s other map. frame.outside s (beside s map);
}
  where
    beside : (s : ℕ) → is_among (map_sectors m.geometry) s ≡ false → (s < m.geometry.map_sector) ⊎ (m.geometry.map_sector + 2 * m.geometry.zones ≤ s)
    beside s none = elim (cases_lt s m.geometry.map_sector) [
      | inl before ↦ inl before
      | inr from ↦ (elim (cases_lt s (m.geometry.map_sector + 2 * m.geometry.zones)) [
        | inl within ↦ absurd (clash (is_among (map_sectors m.geometry) s) (in_range m.geometry.map_sector (2 * m.geometry.zones) s from within) none)
        | inr after ↦ inr after
      ])
    ]
