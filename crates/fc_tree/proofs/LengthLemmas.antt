-- How many bytes objects have.
use Rattle.std.proofs.Common.{◌≡◌, ◌<◌, ◌≤◌, ℕ, ◌+◌, ◌*◌, Bool, true, List, [], ◌∷◌, length, refl, sym, ap, subst, arith, length-append, Some}
use Rattle.std.specs.Prelude.{◌||◌}
use Rattle.std.specs.List.{flat_map}
use Rattle.std.proofs.Math.Nat.{div-mul-le_self}
use Rattle.std.proofs.lemmas.Bool.{eq-eqb}
use Rattle.std.proofs.lemmas.Nat.{mul-le}
use Rattle.std.proofs.lemmas.List.{length-take-le}
use Rattle.fc_device.specs.Sectors.{sector_at}
use Rattle.fc_device.specs.declared.disk.Disk.{Ghosts}
use Rattle.fc_device.proofs.DiskLaws.{Laws}
use Rattle.fc_device.proofs.SectorLemmas.{length-sector_at}
use Rattle.fc_newmap.proofs.PlaceLemmas.{in_back}
use Rattle.fc_image.specs.Layout.{Layout, bytes_in, dir_form, disc_sectors, is_among, sector_bytes}
use Rattle.fc_image.specs.Walk.{Object, object_bytes, object_size}
use Rattle.fc_image.specs.Edits.{IsAt}
use Rattle.fc_space.specs.Space.{PlacesSuffice}

pub first_among : (x : ℕ) (xs : List ℕ) → is_among (x ∷ xs) x ≡ true
first_among x xs = ap (λ (b : Bool). b || is_among xs x) (eq-eqb x x refl)

-- a row of blocks of one length
pub blocks_long : (f : ℕ → List ℕ) (size : ℕ) (xs : List ℕ) → ((s : ℕ) → is_among xs s ≡ true → length (f s) ≡ size) → length (flat_map f xs) ≡ length xs * size
blocks_long f size [] each = omega arith
blocks_long f size (x ∷ xs) each =
    let rest = blocks_long f size xs (λ s e. each s (in_back (x ∷ []) xs s e)) in
    let here = each x (first_among x xs) in
    let more : (length xs + 1) * size ≡ length xs * size + size = omega arith in
    omega (arith, length-append (f x) (flat_map f xs), rest, here, more)

pub sector_long : (size count : ℕ) (image : List ℕ) (s : ℕ) → s < count → count * size ≤ length image → length (sector_at size image s) ≡ size
sector_long size count image s low long =
    let part : (s + 1) * size ≤ count * size = mul-le (s + 1) size count size (omega (arith, low)) (omega arith) in
    let more : (s + 1) * size ≡ s * size + size = omega arith in
    length-sector_at size image s (omega (arith, part, more, long))

-- an object has as many bytes as its entry says
pub object_long : (image : List ℕ) (layout : Layout) (o : Object) → PlacesSuffice layout → IsAt layout o → disc_sectors layout * sector_bytes layout ≤ length image
    → length (object_bytes image layout o) ≡ object_size (dir_form layout) o.entry
unfolding bytes_in
object_long image layout o suffice at long =
    let n = object_size (dir_form layout) o.entry in
    let size = sector_bytes layout in
    let s = suffice o.entry.address n o.sectors at in
    let blocks = blocks_long (sector_at size image) size o.sectors (λ t e. sector_long size (disc_sectors layout) image t (s.on_disc t e) long) in
    length-take-le n (flat_map (sector_at size image) o.sectors) (omega (arith, blocks, s.room))

-- a disk with room for the disc tells all of its bytes
pub disk_long : {D : Type 0} {d : Ghosts D} → Laws d → (s : D) (layout : Layout) → d.sector_size s ≡ sector_bytes layout → disc_sectors layout ≤ d.sectors s
    → (image : List ℕ) → d.bytes s ≡ Some image → disc_sectors layout * sector_bytes layout ≤ length image
disk_long {d = d} law s layout size room image told =
    let part = mul-le (disc_sectors layout) (d.sector_size s) (d.sectors s) (d.sector_size s) room (omega arith) in
    let whole : d.sectors s * d.sector_size s ≤ d.image_length s =
    subst (λ (n : ℕ). n * d.sector_size s ≤ d.image_length s) (sym (law.whole_sectors s)) (div-mul-le_self (d.image_length s) (d.sector_size s)) in
    let same : disc_sectors layout * d.sector_size s ≡ disc_sectors layout * sector_bytes layout = ap (λ (n : ℕ). disc_sectors layout * n) size in
    omega (arith, part, whole, same, law.told_length s image told)
