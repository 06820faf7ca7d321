-- A run that is drawn into the hole before it: where its sectors are, and where they go.
use Rattle.std.proofs.Common.{◌≡◌, ◌<◌, ◌≤◌, ℕ, ◌+◌, ◌*◌, ◌/◌, ◌^◌, refl, subst, arith}
use Rattle.fc_zone.specs.declared.Run.{Run}
use Rattle.fc_newmap.specs.Map.{Map, first_sector, sector_count}
use Rattle.fc_newmap.specs.NewMap.{IsNewMap}
use Rattle.fc_newmap.specs.Walk.{IsInZone}
use Rattle.fc_newmap.proofs.RunsLemmas.{place_sector}
use Rattle.fc_image.specs.Layout.{Layout, disc_sectors}
use Rattle.fc_compact.specs.Rounds.{CanDraw}
use Rattle.fc_compact.specs.declared.shift.Slide.{Slide}
use Rattle.fc_compact.proofs.FindLemmas.{can_shift, len_whole, run_follows}
use Rattle.fc_compact.proofs.PieceLemmas.{apart, from_zone, id_low, low_disc, on_disc, to_zone}

pub record DrawRows (m : Map) (z : ℕ) (hole run : Run) (id : ℕ) : Type 0 where
  pub here : IsInZone m.geometry (z, run)
  pub there : IsInZone m.geometry (z, record hole { len = run.len })
  pub apart : first_sector m.geometry (z, hole) + sector_count m.geometry (z, run) ≤ first_sector m.geometry (z, run)
  pub on_disc : first_sector m.geometry (z, run) + sector_count m.geometry (z, run) ≤ disc_sectors (Layout.New m)
  pub high : disc_sectors (Layout.New m) ≤ 2 ^ 40
  pub id_low : id < 2 ^ m.geometry.idlen

-- The numbers are those of the run's sectors, and of the first of the place to which they go.
pub record IsDrawn (m : Map) (z : ℕ) (hole run : Run) (from to count : ℕ) : Type 0 where
  pub id : ℕ
  pub rows : DrawRows m z hole run id
  pub from_is : from ≡ first_sector m.geometry (z, run)
  pub to_is : to ≡ first_sector m.geometry (z, hole)
  pub count_is : count ≡ sector_count m.geometry (z, run)

pub draw_rows : (m : Map) → IsNewMap m → (z : ℕ) → z < m.geometry.zones → (hole run : Run) (id : ℕ) → CanDraw m z hole run id → DrawRows m z hole run id
draw_rows m is z low hole run id can =
    let slide : Slide = record { zone = z; start = hole.start; id = id; hole = hole.len; len = run.len } in
    let shift = can_shift m is z low can.front can.rest hole run can.runs hole.start id refl can.is_hole can.is_run in
    let whole = len_whole m is z low can.front can.rest hole run can.runs in
    let follows = run_follows m is z low can.front can.rest hole run can.runs in
    let count = run.len * m.geometry.bit_bytes / m.geometry.sector in
    let hole_at : hole.start + 0 ≡ hole.start = omega arith in
    let run_at : hole.start + 0 + hole.len ≡ run.start = omega (arith, follows) in
    let here = from_zone m is slide 0 run.len shift can.room whole in
    let there = to_zone m is slide 0 run.len shift can.room whole in
    record {
      here = record { zone = low; from = omega (arith, here.from, follows); to = omega (arith, here.to, follows) };
      there = record { zone = low; from = omega (arith, there.from); to = omega (arith, there.to) };
      apart = subst (λ (k : ℕ). place_sector m.geometry z k + count ≤ place_sector m.geometry z run.start) hole_at
          (subst (λ (k : ℕ). place_sector m.geometry z (hole.start + 0) + count ≤ place_sector m.geometry z k) run_at (apart m is slide 0 run.len shift can.room whole));
      on_disc = subst (λ (k : ℕ). place_sector m.geometry z k + count ≤ disc_sectors (Layout.New m)) run_at (on_disc m is slide 0 run.len shift can.room whole);
      high = low_disc m is slide 0 run.len shift can.room whole;
      id_low = id_low m is slide 0 run.len shift;
    }
