-- What an opened disc has after a change, outside its directories.
use Rattle.std.proofs.Common.{◌≡◌, ◌<◌, ◌≤◌, ℕ, ◌+◌, ◌-◌, ◌*◌, ◌/◌, List, length, drop, sym, ap, subst, ◌∙◌, arith}
use Rattle.std.proofs.Math.Nat.{div-mul-le_self}
use Rattle.std.proofs.lemmas.Nat.{le-div}
use Rattle.std.proofs.lemmas.Bool.{false_from_ne_true as unless}
use Rattle.std.proofs.lemmas.List.{drop-drop}
use Rattle.fc_record.specs.declared.DiscRecord.{DiscRecord}
use Rattle.fc_record.specs.declared.Geometry.{Geometry}
use Rattle.fc_record.specs.declared.Kind.{Kind}
use Rattle.fc_record.specs.declared.Kind.TheVariants.{Boot, OneZone, DiscD, DiscL}
use Rattle.fc_record.specs.Record.{base, geometry}
use Rattle.fc_record.specs.Kinds.{disc_size}
use Rattle.fc_newmap.specs.Map.{Map, map_sectors}
use Rattle.fc_newmap.proofs.CoverLemmas.{run_on_disc}
use Rattle.fc_newmap.proofs.PlaceLemmas.{range_in}
use Rattle.fc_image.specs.Layout.{Layout, is_among}
use Rattle.fc_image.specs.Walk.{Listing}
use Rattle.fc_image.specs.Objects.{objects_of}
use Rattle.fc_image.specs.Stays.{IsNewKind, OpensAs}
use Rattle.fc_changes.specs.Owed.{IsWritten}
use Rattle.fc_changes.proofs.BeforeLemmas.{parts}
use Rattle.fc_changes.proofs.OutsideLemmas.{AreBusy, same_behind}
use Rattle.fc_image.proofs.HolesLemmas.{new_size}

module _ (kind : Kind) (r : DiscRecord) (image : List ℕ) (m : Map) (ls : List Listing) (new : IsNewKind kind r)
    (opens : OpensAs image kind (record { kind = kind; layout = Layout.New m; listings = ls })) where
  -- what comes after the disc in the image
  pub behind_stays : (image' sectors : List ℕ) → IsWritten m sectors image image' → AreBusy m (objects_of ls) sectors → drop (disc_size kind) image' ≡ drop (disc_size kind) image
  behind_stays image' sectors written busy =
      let o = parts kind r image m ls new opens in
      let g = m.geometry in
      let n = r.size / g.sector in
      let fits : (g.map_sector + 2 * g.zones) * g.sector ≤ r.size = subst (λ (h : Geometry). (h.map_sector + 2 * h.zones) * h.sector ≤ r.size) (sym o.geometry_is) o.facts.fits in
      let begun : base g (g.zones - 1) < g.disc_bits = subst (λ (h : Geometry). base h (h.zones - 1) < h.disc_bits) (sym o.geometry_is) o.facts.begun in
      let covers : g.disc_bits * g.bit_bytes ≤ r.size = subst (λ (h : Geometry). h.disc_bits * h.bit_bytes ≤ r.size) (sym o.geometry_is) (div-mul-le_self r.size (geometry r).bit_bytes) in
      let whole = div-mul-le_self (g.disc_bits * g.bit_bytes) g.sector in
      let runs_end : g.disc_bits * g.bit_bytes / g.sector ≤ n = le-div (g.disc_bits * g.bit_bytes / g.sector) r.size g.sector o.shape.some (omega (arith, covers, whole)) in
      let map_end : g.map_sector + 2 * g.zones ≤ n = le-div (g.map_sector + 2 * g.zones) r.size g.sector o.shape.some fits in
      let same = same_behind g.sector image image' o.shape.some written.length_stays (length image) n (omega arith)
      (λ s high. written.writes s
      (unless (is_among sectors s) (λ h. let b = busy s h in let low = run_on_disc m o.shape o.zones o.some begun b.0 s b.1 b.2 in omega (arith, low, high, runs_end)))
      (unless (is_among (map_sectors g) s) (λ h. let b = range_in g.map_sector (2 * g.zones) s h in let low = b.1 in omega (arith, low, high, map_end)))) in
      let rest = r.size - n * g.sector in
      let low = div-mul-le_self r.size g.sector in
      let sum : n * g.sector + rest ≡ r.size = omega (arith, low) in
      ap (λ (k : ℕ). drop k image') (new_size kind r new ∙ sym sum) ∙ sym (drop-drop rest (n * g.sector) image') ∙ ap (λ (xs : List ℕ). drop rest xs) same
      ∙ drop-drop rest (n * g.sector) image ∙ ap (λ (k : ℕ). drop k image) (sum ∙ sym (new_size kind r new))
