-- A piece of a slide: where its sectors are, and where they go.
use Rattle.std.proofs.Common.{◌≡◌, ◌<◌, ◌≤◌, ℕ, ◌+◌, ◌-◌, ◌*◌, ◌/◌, ◌%◌, ◌^◌, true, arith}
use Rattle.fc_newmap.specs.Map.{Map}
use Rattle.fc_newmap.specs.NewMap.{IsNewMap}
use Rattle.fc_newmap.specs.Walk.{IsInZone}
use Rattle.fc_newmap.proofs.RunsLemmas.{place_sector}
use Rattle.fc_image.specs.Layout.{Layout, disc_sectors, hole_sectors, is_among}
use Rattle.fc_compact.specs.Slides.{CanShift, run_at}
use Rattle.fc_compact.specs.declared.shift.Slide.{Slide}
use Rattle.fc_compact.proofs.SlideLemmas.{disc_low, id_fits, piece_apart, piece_in_hole, piece_in_zone, piece_on_disc, place_in_zone}

module _ (m : Map) (is : IsNewMap m) (s : Slide) (done n : ℕ) (can : CanShift m s done n) where
  abbrev left : ℕ
  left = s.len - done

  some : 0 < left
  some = (let few = can.some in let within = can.within in omega (arith, few, within))

  within : n ≤ left
  within = (let within = can.within in omega (arith, within))

  pub id_low : s.id < 2 ^ m.geometry.idlen
  id_low = id_fits m is s.zone can.zone s.start s.id done s.hole left can.runs.0 can.runs.1 can.runs.2 some

  module _ (few : n ≤ s.hole) (whole : n % m.geometry.q ≡ 0) where
    -- the first sector of the piece, the one to which it goes, and how many they are
    abbrev pub from : ℕ
    from = place_sector m.geometry s.zone (s.start + done + s.hole)

    abbrev pub to : ℕ
    to = place_sector m.geometry s.zone (s.start + done)

    abbrev pub count : ℕ
    count = n * m.geometry.bit_bytes / m.geometry.sector

    pub from_zone : IsInZone m.geometry (s.zone, run_at (s.start + done + s.hole) n s.id)
    from_zone = piece_in_zone m is s.zone can.zone s.start s.id done s.hole left can.runs.0 can.runs.1 can.runs.2 some n within few whole

    pub to_zone : IsInZone m.geometry (s.zone, run_at (s.start + done) n s.id)
    to_zone = place_in_zone m is s.zone can.zone s.start s.id done s.hole left can.runs.0 can.runs.1 can.runs.2 some n within few whole

    pub apart : to + count ≤ from
    apart = piece_apart m is s.zone can.zone s.start s.id done s.hole left can.runs.0 can.runs.1 can.runs.2 some n within few whole

    pub on_disc : from + count ≤ disc_sectors (Layout.New m)
    on_disc = piece_on_disc m is s.zone can.zone s.start s.id done s.hole left can.runs.0 can.runs.1 can.runs.2 some n within few whole

    pub low_disc : disc_sectors (Layout.New m) ≤ 2 ^ 40
    low_disc = disc_low m is s.zone can.zone s.start s.id done s.hole left can.runs.0 can.runs.1 can.runs.2 some n within few whole

    pub in_hole : (i : ℕ) → i < count → is_among (hole_sectors (Layout.New m)) (to + i) ≡ true
    in_hole = piece_in_hole m is s.zone can.zone s.start s.id done s.hole left can.runs.0 can.runs.1 can.runs.2 some n within few whole
