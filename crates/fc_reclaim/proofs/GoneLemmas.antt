-- A walk over the zones of a map: what has been left since a start, and what holds now.
use Rattle.std.proofs.Common.{◌≡◌, ◌<◌, ◌≤◌, ℕ, ◌+◌, ◌*◌, Bool, List, refl, sym, ap, subst, ◌∙◌, arith, IsFalse}
use Rattle.std.specs.Option.{ForSome}
use Rattle.fc_record.specs.declared.Geometry.{Geometry}
use Rattle.fc_device.specs.declared.disk.Disk.{Ghosts}
use Rattle.fc_device.specs.Calls.{SameForm, StopsAndExitsLeave}
use Rattle.fc_device.proofs.DiskLaws.{Laws, form_same, form_then}
use Rattle.fc_device.proofs.StopLemmas.{keeps_start, keeps_then}
use Rattle.fc_newmap.specs.Map.{Map}
use Rattle.fc_newmap.specs.NewMap.{IsNewMap}
use Rattle.fc_alloc.specs.declared.owner.Owner.{Owner}
use Rattle.fc_reclaim.specs.Kept.{IsReadyBy, KeepsOwned}
use Rattle.fc_reclaim.specs.Map.{IsReclaimedAt, IsReclaimedBelow, bits_below}
use Rattle.fc_reclaim.proofs.KeptLemmas.{kept_same, kept_then}
use Rattle.fc_reclaim.proofs.ZoneStepLemmas.{Fits, below_start, below_then}

pub record Gone {D : Type 0} (d : Ghosts D) (boot : Bool) (owners : List Owner) (start : D) (m0 : Map) (now : D) (m : Map) (z total : ℕ) : Type 0 where
  pub form : SameForm d start now
  pub keeps : StopsAndExitsLeave d start now (KeepsOwned boot owners m0.geometry)
  pub ready : ForSome (d.bytes now) (IsReadyBy boot m owners)
  pub settled : IsFalse (d.pending now)
  pub below : IsReclaimedBelow boot owners m0 m z
  pub total_is : total ≡ bits_below boot owners m0 z
  pub fits : Fits m0.geometry z total
  pub faults : d.faults start ≤ d.faults now

module _ {D : Type 0} {d : Ghosts D} (law : Laws d) (boot : Bool) (owners : List Owner) (start : D) (m0 : Map) where
  pub gone_start : IsNewMap m0 → ForSome (d.bytes start) (IsReadyBy boot m0 owners) → IsFalse (d.pending start) → Gone d boot owners start m0 start m0 0 0
  gone_start is ready quiet = record {
    form = form_same d start;
    keeps = keeps_start law (kept_same boot owners m0.geometry) start quiet;
    ready = ready;
    settled = quiet;
    below = below_start boot owners m0 is;
    total_is = refl;
    fits = record { within = λ low. omega arith; whole = λ e. omega arith };
    faults = omega arith;
  }

  module _ (mid : D) (m : Map) (z total : ℕ) (was : Gone d boot owners start m0 mid m z total) (new : D) where
    pub gone_keeps : StopsAndExitsLeave d mid new (KeepsOwned boot owners m.geometry) → StopsAndExitsLeave d start new (KeepsOwned boot owners m0.geometry)
    gone_keeps keeps = keeps_then law (kept_then boot owners m0.geometry) was.keeps (subst (λ (g : Geometry). StopsAndExitsLeave d mid new (KeepsOwned boot owners g)) was.below.geometry keeps)

    pub gone_then : (m' : Map) (count : ℕ) → z < m0.geometry.zones → StopsAndExitsLeave d mid new (KeepsOwned boot owners m.geometry) → SameForm d mid new → ForSome (d.bytes new) (IsReadyBy boot m' owners)
        → IsFalse (d.pending new) → IsReclaimedAt boot owners m m' z → bits_below boot owners m0 z + count ≡ bits_below boot owners m0 (z + 1) → Fits m0.geometry (z + 1) (total + count) → d.faults mid ≤ d.faults new
        → Gone d boot owners start m0 new m' (z + 1) (total + count)
    gone_then m' count low keeps form ready quiet at bits fits later = record {
      form = form_then d was.form form;
      keeps = gone_keeps keeps;
      ready = ready;
      settled = quiet;
      below = below_then boot owners m0 m m' z was.below at;
      total_is = ap (λ (k : ℕ). k + count) was.total_is ∙ bits;
      fits = fits;
      faults = omega (arith, later, was.faults);
    }

-- what the next call asks
module _ {D : Type 0} {d : Ghosts D} (boot : Bool) (owners : List Owner) (start : D) (m0 : Map) (mid : D) (m : Map) (z total : ℕ) (was : Gone d boot owners start m0 mid m z total) where
  pub gone_size : d.sector_size start ≡ m0.geometry.sector → d.sector_size mid ≡ m.geometry.sector
  gone_size e = was.form.size_stays ∙ e ∙ ap (λ (g : Geometry). g.sector) (sym was.below.geometry)

  pub gone_on_disk : m0.geometry.map_sector + 2 * m0.geometry.zones ≤ d.sectors start → m.geometry.map_sector + 2 * m.geometry.zones ≤ d.sectors mid
  gone_on_disk h = let s = was.form.sectors_stay in subst (λ (g : Geometry). g.map_sector + 2 * g.zones ≤ d.sectors mid) (sym was.below.geometry) (omega (arith, h, s))

  pub gone_zone : (y : ℕ) → y < m0.geometry.zones → y < m.geometry.zones
  gone_zone y low = subst (λ (g : Geometry). y < g.zones) (sym was.below.geometry) low
