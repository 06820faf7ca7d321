-- Discs of one zone that don't come to look like discs with a boot block.
use Rattle.std.proofs.Common.{◌≡◌, ℕ, ◌^◌, ◌*◌, Bool, true, false, List, length, filter, refl, sym, ap, ap₂, subst, ◌∙◌, take}
use Rattle.std.specs.Prelude.{◌&&◌, ◌||◌, ◌==◌, nat_le, not, slice_index}
use Rattle.std.specs.List.{range_with_len, list_any}
use Rattle.fc_bytes.specs.Words.{bytes_at}
use Rattle.fc_device.specs.Sectors.{sector_at}
use Rattle.fc_bytes.specs.Checks.{boot_check}
use Rattle.fc_record.specs.declared.Geometry.{Geometry}
use Rattle.fc_record.specs.declared.Kind.TheVariants.{OneZone}
use Rattle.fc_record.specs.Record.{record_of, is_valid}
use Rattle.fc_record.specs.Kinds.{boot_block, is_boot}
use Rattle.fc_zone.specs.declared.RunKind.{RunKind}
use Rattle.fc_zone.specs.declared.RunKind.TheVariants as kinds
use Rattle.fc_newmap.specs.Map.{map_sectors, all_runs, id_runs, sectors_of, has_id}
use Rattle.fc_newmap.proofs.PlaceLemmas.{holder_of, held_in, in_filter, id_run_in}
use Rattle.fc_image.specs.Layout.{Layout, map_place, is_among}
use Rattle.fc_image.specs.Walk.{Object}
use Rattle.fc_image.specs.Objects.{objects_of, is_owner_of}
use Rattle.fc_image.specs.Stays.{is_fixed_run, fixed_sectors, FixedBytesStay}
use Rattle.fc_image.specs.Moves.{LooksLaw}
use Rattle.fc_image.proofs.KindLemmas.{half_sector, map_at_front}
use Rattle.fc_image.proofs.MoveLemmas.{open_by}
use Rattle.fc_image.proofs.StepLemmas.{all_at, among_filter}

boot_of : ℕ → List ℕ → Bool
boot_of n block = nat_le 0xE00 n && (slice_index block 511 == boot_check block) && is_valid (record_of (bytes_at block 0x1C0 60))

boot_is : (image : List ℕ) → is_boot image ≡ boot_of (length image) (boot_block image)
unfolding boot_of
boot_is image = refl

-- runs of identifier 2 are fixed
fixed_two : (objects : List Object) (k : RunKind) → has_id 2 k ≡ true → is_fixed_run objects k ≡ true
fixed_two objects kinds.Hole e = absurd (cc)
fixed_two objects (kinds.Id id) e = by (id == 1) (id == 2) e
  where
    by : (a b : Bool) → b ≡ true → (a || b || (not (b || list_any (is_owner_of id) objects) && not a && not b)) ≡ true
    by true b h = refl
    by false true h = refl
    by false false h = absurd (cc)

-- sector 3 holds no map of one zone
outside_front : (g : Geometry) → g.map_sector ≡ 0 → g.zones ≡ 1 → is_among (map_sectors g) 3 ≡ false
outside_front g front one = ap₂ (λ (a b : ℕ). is_among (range_with_len a (2 * b)) 3) front one

pub looks_law : LooksLaw
looks_law image other r v m e layout two whole len =
    let o = open_by image (OneZone r) r v m refl e layout in
    let objects = objects_of v.listings in
    let p = holder_of m.geometry (id_runs m 2) 3 two in
    let p_in = id_run_in m 2 p.0 o.some p.1.0 in
    let there : is_among (sectors_of m.geometry (filter (λ q. is_fixed_run objects q.1.kind) (all_runs m))) 3 ≡ true =
    held_in m.geometry (filter (λ q. is_fixed_run objects q.1.kind) (all_runs m)) p.0 3
    (in_filter (λ q. is_fixed_run objects q.1.kind) (all_runs m) p.0 p_in.0 (fixed_two objects p.0.1.kind p_in.1)) p.1.1 in
    let outside : is_among (map_sectors m.geometry) 3 ≡ false =
    outside_front m.geometry (ap (λ (g : Geometry). g.map_sector) o.geometry_is ∙ map_at_front r e.kind_right.2) (ap (λ (g : Geometry). g.zones) o.geometry_is ∙ e.kind_right.2) in
    let fixed : is_among (fixed_sectors m objects) 3 ≡ true =
    among_filter (λ s. not (is_among (map_place (Layout.New m)) s)) (sectors_of m.geometry (filter (λ q. is_fixed_run objects q.1.kind) (all_runs m))) 3 there (ap not outside) in
    let stay : FixedBytesStay (Layout.New m) objects image other = subst (λ (l : Layout). FixedBytesStay l objects image other) layout whole.fixed_bytes in
    let same : sector_at m.geometry.sector other 3 ≡ sector_at m.geometry.sector image 3 =
    all_at (λ s. sector_at m.geometry.sector other s ≡ sector_at m.geometry.sector image s) (fixed_sectors m objects) 3 stay fixed in
    let size : m.geometry.sector ≡ 1024 = ap (λ (g : Geometry). g.sector) o.geometry_is ∙ ap (λ (n : ℕ). 2 ^ n) e.kind_right.1 in
    let same' : sector_at 1024 other 3 ≡ sector_at 1024 image 3 = subst (λ (n : ℕ). sector_at n other 3 ≡ sector_at n image 3) size same in
    let block : boot_block other ≡ boot_block image = half_sector other ∙ ap (take 512) same' ∙ sym (half_sector image) in
    boot_is other ∙ ap₂ boot_of len block ∙ sym (boot_is image)
