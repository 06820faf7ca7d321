-- An image that opens has all sectors of the disc.
use Rattle.std.proofs.Common.{◌≡◌, ◌≤◌, ◌*◌, ◌/◌, ℕ, List, length, sym, ap, subst, arith}
use Rattle.std.proofs.Math.Nat.{div-mul-le_self}
use Rattle.fc_record.specs.declared.DiscRecord.{DiscRecord}
use Rattle.fc_record.specs.declared.Geometry.{Geometry}
use Rattle.fc_record.specs.declared.Kind.{Kind}
use Rattle.fc_record.specs.declared.Kind.TheVariants as kinds
use Rattle.fc_record.specs.Kinds.{disc_size}
use Rattle.fc_record.specs.Record.{geometry}
use Rattle.fc_newmap.specs.Map.{Map}
use Rattle.fc_image.specs.Layout.{Layout, disc_sectors, sector_bytes}
use Rattle.fc_image.specs.Opening.{Opened}
use Rattle.fc_image.specs.Stays.{IsNewKind, OpensAs}
use Rattle.fc_image.specs.Walk.{Listing}
use Rattle.fc_image.proofs.HolesLemmas.{open_map}

size_of_kind : (kind : Kind) (r : DiscRecord) → IsNewKind kind r → disc_size kind ≡ r.size
size_of_kind (kinds.Boot s) r is = ap (λ (t : DiscRecord). t.size) is
size_of_kind (kinds.OneZone s) r is = ap (λ (t : DiscRecord). t.size) is
size_of_kind kinds.DiscD r is = absurd is
size_of_kind (kinds.DiscL units) r is = absurd is

pub image_long : (image : List ℕ) (kind : Kind) (r : DiscRecord) (m : Map) (listings : List Listing) → IsNewKind kind r → OpensAs image kind (record { kind = kind; layout = Layout.New m; listings = listings })
    → disc_sectors (Layout.New m) * sector_bytes (Layout.New m) ≤ length image
image_long image kind r m listings new opens =
    let v : Opened = record { kind = kind; layout = Layout.New m; listings = listings } in
    let o = open_map image kind r v new opens in
    let g = geometry r in
    let sectors = div-mul-le_self (g.disc_bits * g.bit_bytes) g.sector in
    let bits = div-mul-le_self r.size g.bit_bytes in
    let size = size_of_kind kind r new in
    let long = o.1.long in
    let whole : g.disc_bits * g.bit_bytes / g.sector * g.sector ≤ length image = omega (arith, sectors, bits, size, long) in
    subst (λ (l : Layout). disc_sectors l * sector_bytes l ≤ length image) (sym o.1.layout)
    (subst (λ (h : Geometry). h.disc_bits * h.bit_bytes / h.sector * h.sector ≤ length image) (sym o.1.geometry_is) whole)
