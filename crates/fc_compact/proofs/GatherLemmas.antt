-- Runs of a zone that move up into its holes by one commit.
use Rattle.std.proofs.Common.{◌≡◌, ◌<◌, ◌≤◌, inl, inr, ℕ, ◌+◌, ◌-◌, ◌*◌, ◌/◌, ◌%◌, Bool, true, false, cond, List, [], ◌∷◌, ◌++◌, refl, sym, ap, ap₂, subst, ◌∙◌, arith, append_assoc}
use Rattle.std.specs.Prelude.{◌||◌, filter, Contains}
use Rattle.std.specs.List.{range_with_len}
use Rattle.std.proofs.Math.Nat.{zero-mod}
use Rattle.std.proofs.lemmas.Bool.{cases_eq}
use Rattle.std.proofs.lemmas.List.{map-append}
use Rattle.std.proofs.lemmas.List.Elements.{Contains-append_right}
use Rattle.fc_bytes.specs.Bits.{bits}
use Rattle.fc_device.specs.Calls.{SameForm}
use Rattle.fc_device.specs.declared.disk.Disk.{Ghosts}
use Rattle.fc_device.proofs.DiskLaws.{Laws as DiskLaws, form_then}
use Rattle.fc_record.specs.declared.Geometry.{Geometry}
use Rattle.fc_zone.specs.declared.Run.{Run}
use Rattle.fc_zone.specs.declared.RunKind.{RunKind}
use Rattle.fc_zone.specs.declared.RunKind.TheVariants as kinds
use Rattle.fc_zone.proofs.HolderLemmas.{run_spelled}
use Rattle.fc_zone.proofs.ZoneLemmas.{Spells-le, Contains-head as contains_here}
use Rattle.fc_newmap.specs.Edits.{IsEdit}
use Rattle.fc_newmap.specs.Map.{Map, ZoneRun, all_runs, first_sector, has_id, hole_runs, id_runs, is_hole, runs_of, sector_count, sector_of, shape, zone_numbers}
use Rattle.fc_newmap.specs.NewMap.{IsNewMap}
use Rattle.fc_newmap.specs.RunsLaw.{placed}
use Rattle.fc_newmap.proofs.ComposeLemmas.{edit_none, edit_then, runs_other, zone_cut}
use Rattle.fc_newmap.proofs.HeldLemmas.{geometry_facts}
use Rattle.fc_newmap.proofs.PlaceLemmas.{held_in, in_filter, in_range, in_zone}
use Rattle.fc_newmap.proofs.RunsLemmas.{place_sector}
use Rattle.fc_alloc.specs.declared.owner.Owner.{Owner}
use Rattle.fc_image.specs.Layout.{Layout, disc_sectors, hole_sectors, id_sectors, is_among}
use Rattle.fc_image.specs.Moves.{Carried}
use Rattle.fc_image.specs.effects.Moves.{Slid, before_holes, with_holes_joined}
use Rattle.fc_compact.specs.Copy.{ChangesRow, IsCopied, TearsRow}
use Rattle.fc_compact.specs.Rounds.{Carrying, Drawn, Gathers, IsGathered, Spares, StaysInHoles, fresh_of}
use Rattle.fc_compact.specs.Joins.{are_holes, ids_in, joined}
use Rattle.fc_compact.specs.Laws.{Laws}
use Rattle.fc_compact.specs.Ready.{is_movable_by}
use Rattle.fc_compact.specs.Settlement.{one_if, run_weight, zone_weight}
use Rattle.fc_compact.specs.Slides.{HasRuns, hole_at, row, run_at}
use Rattle.fc_compact.specs.Steps.{SamePart}
use Rattle.fc_compact.specs.declared.rounds.Front.{Front}
use Rattle.fc_compact.proofs.CarryLemmas.{carrying_more}
use Rattle.fc_compact.proofs.FindLemmas.{first_row, len_whole, run_follows, some_len}
use Rattle.fc_compact.proofs.FoundLemmas.{or_true}
use Rattle.fc_compact.proofs.JoinLemmas.{count_up, disc_run}
use Rattle.fc_compact.proofs.MergeLemmas.{weight_cons}
use Rattle.fc_compact.proofs.PreservesLemmas.{geometry_is}
use Rattle.fc_compact.proofs.RowLemmas.{kept_torn}
use Rattle.fc_compact.proofs.ShiftLemmas.{part_some}
use Rattle.fc_compact.proofs.SlidLemmas.{part_same, slid_falls}
use Rattle.fc_compact.proofs.SlideLemmas.{count, count_more, count_none, hole_low, hole_on, on, place_more}
use Rattle.fc_compact.proofs.StepLemmas.{moved_others, row_carried}
use Rattle.fc_compact.proofs.TouchLemmas.{ids_joined}

pub part_none : (ps : List ZoneRun) → SamePart ps ps
part_none ps = record { bits = refl; fewer = omega arith; some = λ h. h }

pub part_then : (a b c : List ZoneRun) → SamePart a b → SamePart b c → SamePart a c
part_then a b c one two = record { bits = two.bits ∙ one.bits; fewer = (let x = one.fewer in let y = two.fewer in omega (arith, x, y)); some = λ h. two.some (one.some h) }

-- a hole's sectors are among those of the map's holes
pub hole_front : (m : Map) (z : ℕ) → z < m.geometry.zones → (front rest : List Run) (hole : Run) → HasRuns m z (front ++ hole ∷ rest) → is_hole hole.kind ≡ true
    → (i : ℕ) → i < sector_count m.geometry (z, hole) → is_among (hole_sectors (Layout.New m)) (first_sector m.geometry (z, hole) + i) ≡ true
hole_front m z low front rest hole runs kind i lt =
    let p : ZoneRun = (z, hole) in
    let there : Contains (placed z (runs_of m z)) p =
    subst (λ (rs : List Run). Contains (placed z rs) p) (sym runs)
    (subst (λ (ps : List ZoneRun). Contains ps p) (sym (map-append (λ (run : Run). let q : ZoneRun = (z, run) in q) front (hole ∷ rest)))
    (Contains-append_right (placed z front) (placed z (hole ∷ rest)) p (contains_here p (placed z rest)))) in
    held_in m.geometry (hole_runs m) p (first_sector m.geometry p + i)
    (in_filter (λ q. is_hole q.1.kind) (all_runs m) p (in_zone m (zone_numbers m.geometry) p (in_range 0 m.geometry.zones z (omega arith) (omega (arith, low))) there) kind)
    (record { from = omega arith; to = omega (arith, lt) })

-- ---- one run more

module _ (law : Laws) (w w' : Map) (is : IsNewMap w) (z : ℕ) (low : z < w.geometry.zones) (front rest : List Run) (hole run : Run) (id : ℕ)
    (runs : HasRuns w z (front ++ hole ∷ (run ∷ rest))) (hole_is : hole.kind ≡ kinds.Hole) (run_is : run.kind ≡ kinds.Id id) (drawn : Drawn w w' z hole run) where
  abbrev g : Geometry
  g = w.geometry

  some : 0 < run.len
  some = some_len w is z low front rest hole run runs

  whole : run.len % g.q ≡ 0
  whole = len_whole w is z low front rest hole run runs

  follows : run.start ≡ hole.start + hole.len
  follows = run_follows w is z low front rest hole run runs

  now : HasRuns w' z (front ++ record run { start = hole.start } ∷ (record hole { start = hole.start + run.len } ∷ rest))
  now = drawn.runs front rest runs

  before : HasRuns w z (front ++ row hole.start id 0 hole.len (run.len + 0) rest)
  before =
      first_row w is z low front rest hole run runs hole.start id refl hole_is run_is
      ∙ ap (λ (k : ℕ). front ++ row hole.start id 0 hole.len k rest) (let e : run.len ≡ run.len + 0 = omega arith in e)

  after : HasRuns w' z (front ++ row hole.start id (0 + run.len) hole.len 0 rest)
  after =
      now
      ∙ ap₂ (λ (a b : Run). front ++ a ∷ (b ∷ rest)) (named_run run run_is) (named_hole hole hole_is)
      ∙ ap (λ (rs : List Run). front ++ rs) (sym (part_some hole.start run.len id (hole_at (hole.start + run.len) hole.len ∷ rest) some))
      ∙ ap (λ (k : ℕ). front ++ row hole.start id k hole.len 0 rest) (let e : run.len ≡ 0 + run.len = omega arith in e)
    where
      named_run : (r : Run) → r.kind ≡ kinds.Id id → record r { start = hole.start } ≡ run_at hole.start r.len id
      named_run r e = ap (λ (k : RunKind). let x : Run = record { start = hole.start; len = r.len; kind = k } in x) e

      named_hole : (h : Run) → h.kind ≡ kinds.Hole → record h { start = hole.start + run.len } ≡ hole_at (hole.start + run.len) h.len
      named_hole h e = ap (λ (k : RunKind). let x : Run = record { start = hole.start + run.len; len = h.len; kind = k } in x) e

  elsewhere : (y : ℕ) → (y ≡ z → ⊥) → runs_of w' y ≡ runs_of w y
  elsewhere y other = runs_other w w' z y drawn.edit other

  pub drawn_others : (k : ℕ) → (k ≡ id → ⊥) → id_runs w' k ≡ id_runs w k
  drawn_others = moved_others law w w' is z low hole.start id 0 hole.len run.len 0 front rest before drawn.edit.geometry after elsewhere

  abbrev slid : Slid w w' z hole.start
  slid = record { front = front; rest = rest; hole = hole; run = run; named = refl; is_hole = hole_is; was = runs; is = now; others = elsewhere }

  pub drawn_part : (k : ℕ) → SamePart (ids_in w k z) (ids_in w' k z)
  drawn_part = part_same w w' is z hole.start low slid

  pub drawn_falls : zone_weight (runs_of w' z) + 1 ≤ zone_weight (runs_of w z)
  drawn_falls = slid_falls w w' is z hole.start low slid id run_is

  -- where the hole's front goes on
  pub drawn_place : first_sector g (z, record hole { start = hole.start + run.len }) ≡ first_sector g (z, hole) + sector_count g (z, run)
  drawn_place =
      let geo = geometry_is w is in
      let e : hole.start + 0 ≡ hole.start = omega arith in
      let row = first_row w is z low front rest hole run runs hole.start id refl hole_is run_is in
      place_more g geo z hole.start run.len (omega (arith, hole_low w is z low hole.start id 0 hole.len run.len front rest row some))
      (subst (on g geo z) e (hole_on w is z low hole.start id 0 hole.len run.len front rest row some))

  pub drawn_count : (fresh : ℕ) → run.len ≤ fresh → sector_count g (z, record hole { len = fresh }) ≡ sector_count g (z, run) + sector_count g (z, record hole { len = fresh - run.len })
  drawn_count fresh le =
      let geo = geometry_is w is in
      let e : fresh ≡ run.len + (fresh - run.len) = omega (arith, le) in
      ap (count g geo) e ∙ count_more g geo run.len (fresh - run.len) whole

  -- it is carried, and what was carried before is
  module _ (m : Map) (owners : List Owner) (was : IsNewMap m) (same : w.geometry ≡ m.geometry) (fixed : (k : ℕ) → is_movable_by owners k ≡ false → id_runs w k ≡ id_runs m k)
      (may : is_movable_by owners id ≡ true) (fresh : ℕ) (few : fresh ≤ hole.len) (fits : run.len ≤ fresh)
      (in_holes : (i : ℕ) → i < sector_count g (z, record hole { len = fresh }) → is_among (hole_sectors (Layout.New m)) (first_sector g (z, hole) + i) ≡ true)
      (image image' : List ℕ) (row_changes : ChangesRow m.geometry.sector (first_sector g (z, hole)) (sector_count g (z, record hole { len = fresh })) image image')
      (copied : IsCopied g.sector (first_sector g (z, run)) (first_sector g (z, hole)) (sector_count g (z, run)) image') (carrying : Carrying m w owners image) where
    pub drawn_carrying : Carrying m w' owners image'
    drawn_carrying =
        let to = first_sector g (z, hole) in
        let all = sector_count g (z, record hole { len = fresh }) in
        let some_sector : 0 < g.sector = (geometry_is w is).some in
        let up = count_up g fresh hole.len some_sector few in
        let less = count_up g run.len fresh some_sector fits in
        let from_is : first_sector g (z, run) ≡ place_sector g z (hole.start + 0 + hole.len) = ap (place_sector g z) (let e : run.start ≡ hole.start + 0 + hole.len = omega (arith, follows) in e) in
        let to_is : to ≡ place_sector g z (hole.start + 0) = ap (place_sector g z) (let e : hole.start ≡ hole.start + 0 = omega arith in e) in
        carrying_more m w w' owners was is drawn.edit.map same drawn.edit.geometry fixed id may drawn_others to all in_holes
        (λ i lt. hole_front w z low front (run ∷ rest) hole runs (ap is_hole hole_is) i (omega (arith, lt, up))) image image' row_changes
        (subst (λ (h : Geometry). Carried h.sector image' image' (range_with_len to all) (id_sectors w id) (id_sectors w' id)) same
        (row_carried law w w' is z low hole.start id 0 hole.len run.len 0 front rest before some (zero-mod g.q) whole drawn.edit.geometry after elsewhere image' (range_with_len to all)
        (subst (λ (k : ℕ). IsCopied g.sector k (place_sector g z (hole.start + 0)) (sector_count g (z, run)) image') from_is
        (subst (λ (k : ℕ). IsCopied g.sector (first_sector g (z, run)) k (sector_count g (z, run)) image') to_is copied))
        (λ i lt. subst (λ (k : ℕ). is_among (range_with_len to all) (k + i) ≡ true) to_is (in_range to all (to + i) (omega arith) (omega (arith, lt, less))))))
        carrying

-- ---- holes that touch

joined_one : (run : Run) (runs : List Run) → zone_weight (before_holes run runs) ≤ zone_weight (run ∷ runs)
joined_one run [] = omega arith
joined_one run (next ∷ runs) = by (are_holes run next) refl
  where
    by : (b : Bool) → are_holes run next ≡ b → zone_weight (before_holes run (next ∷ runs)) ≤ zone_weight (run ∷ (next ∷ runs))
    by true e =
        let now = ap zone_weight (before_both e) in
        let a : zone_weight (joined run next ∷ runs) ≡ run_weight run + zone_weight runs = weight_cons (joined run next) runs in
        let b = weight_cons run (next ∷ runs) in
        let c = weight_cons next runs in
        omega (arith, now, a, b, c)
      where
        before_both : are_holes run next ≡ true → before_holes run (next ∷ runs) ≡ joined run next ∷ runs
        before_both h = ap (λ b. cond b (joined run next ∷ runs) (run ∷ (next ∷ runs))) h
    by false e = (let now = ap (λ b. zone_weight (cond b (joined run next ∷ runs) (run ∷ (next ∷ runs)))) e in omega (arith, now))

pub joined_falls : (runs : List Run) → zone_weight (with_holes_joined runs) ≤ zone_weight runs
joined_falls [] = omega arith
joined_falls (run ∷ runs) =
    let first = joined_one run (with_holes_joined runs) in
    let a = weight_cons run (with_holes_joined runs) in
    let b = weight_cons run runs in
    let rest = joined_falls runs in
    omega (arith, first, a, b, rest)

-- every identifier keeps its runs
pub joined_runs : (law : Laws) (w n : Map) (z : ℕ) → IsNewMap w → IsEdit w n z → runs_of n z ≡ with_holes_joined (runs_of w z) → (k : ℕ) → id_runs n k ≡ id_runs w k
joined_runs law w n z is edit runs k =
    law.ids w n k edit.geometry (geometry_facts w.geometry is.of_record).zones
    (λ y lt. elim (cases_eq y z) [
      | inl here ↦ subst (λ (x : ℕ). filter (λ (p : ZoneRun). has_id k p.1.kind) (placed x (runs_of n x)) ≡ filter (λ (p : ZoneRun). has_id k p.1.kind) (placed x (runs_of w x))) (sym here)
          (ap (λ (rs : List Run). filter (λ (p : ZoneRun). has_id k p.1.kind) (placed z rs)) runs ∙ ids_joined k z (runs_of w z))
      | inr apart ↦ ap (λ (rs : List Run). filter (λ (p : ZoneRun). has_id k p.1.kind) (placed y rs)) (runs_other w n z y edit apart)
    ])

-- ---- a walk over a zone

-- The front of a run has been written.
abbrev pub Turned : {D : Type 0} → Ghosts D → D → D → Geometry → ℕ → Run → ℕ → Type 0
Turned d old new g z run fresh = TearsRow d old new (first_sector g (z, run)) (sector_count g (z, record run { len = fresh }))

pub gathers_none : (owners : List Owner) (m : Map) (z : ℕ) → IsNewMap m → Gathers owners m m z false
gathers_none owners m z is = record { edit = edit_none m z is; fixed = λ k stuck. refl; parts = λ k. part_none (ids_in m k z); falls = omega arith; same = λ e. refl }

pub front_fits : (run : Run) → fresh_of run ≤ run.len
front_fits run = by (is_hole run.kind)
  where
    by : (b : Bool) → cond b run.len 0 ≤ run.len
    by true = omega arith
    by false = omega arith

-- a run's front is a hole where it begins as one
pub start_front : (m : Map) → IsNewMap m → (z : ℕ) → z < m.geometry.zones → (front rest : List Run) (run : Run) → HasRuns m z (front ++ run ∷ rest)
    → (i : ℕ) → i < sector_count m.geometry (z, record run { len = fresh_of run }) → is_among (hole_sectors (Layout.New m)) (first_sector m.geometry (z, run) + i) ≡ true
start_front m is z low front rest run runs i = by (is_hole run.kind) refl
  where
    by : (b : Bool) → is_hole run.kind ≡ b → i < sector_count m.geometry (z, record run { len = cond b run.len 0 }) → is_among (hole_sectors (Layout.New m)) (first_sector m.geometry (z, run) + i) ≡ true
    by true e lt = hole_front m z low front rest run runs e i lt
    by false e lt = absurd (let none = count_none m.geometry (geometry_is m is) in omega (arith, lt, none))

-- it lies on the disc
pub front_on_disc : (w : Map) (is : IsNewMap w) (z : ℕ) (low : z < w.geometry.zones) (front rest : List Run) (run : Run) → HasRuns w z (front ++ run ∷ rest) → (fresh : ℕ) → fresh ≤ run.len
    → first_sector w.geometry (z, run) + sector_count w.geometry (z, record run { len = fresh }) ≤ disc_sectors (Layout.New w)
front_on_disc w is z low front rest run runs fresh few =
    let shape = shape w.geometry z in
    let cut = run_spelled shape (sector_of w z) front rest run (zone_cut w z (front ++ run ∷ rest) is low runs) in
    let from = Spells-le shape (bits (sector_of w z)) front shape.first run.start cut.0 in
    let whole = disc_run w is (z, run) (record { zone = low; from = from; to = cut.1.1.within }) in
    let up = count_up w.geometry fresh run.len (geometry_is w is).some few in
    omega (arith, whole, up)

or_false : (b : Bool) → (b || false) ≡ b
or_false true = refl
or_false false = refl

-- where the walk stands after one pair more
pub record OneMore (m w : Map) (owners : List Owner) (z : ℕ) (any : Bool) (s : Front) (rest : List Run) : Type 0 where
  pub front : List Run
  pub cut : HasRuns w z (front ++ s.run ∷ rest)
  pub gathers : Gathers owners m w z any
  pub few : s.fresh ≤ s.run.len

module _ (law : Laws) (m w w' : Map) (owners : List Owner) (z : ℕ) (low : z < m.geometry.zones) (any : Bool) (was : Gathers owners m w z any) (front ahead : List Run) (run next : Run)
    (here : HasRuns w z (front ++ run ∷ (next ∷ ahead))) (fresh : ℕ) (few : fresh ≤ run.len) (s : Front) (step : IsGathered owners w w' z run next fresh s) where
  low_w : z < w.geometry.zones
  low_w = subst (λ (h : Geometry). z < h.zones) (sym was.edit.geometry) low

  is : IsNewMap w
  is = was.edit.map

  pub one_more : OneMore m w' owners z (any || s.moved) s ahead
  one_more = by s.moved refl
    where
      by : (b : Bool) → s.moved ≡ b → OneMore m w' owners z (any || b) s ahead
      by true e =
          let f = step.some e in
          let id = f.0 in
          let fits = f.1 in
          let drawn = f.2 in
          let others = drawn_others law w w' is z low_w front ahead run next id here fits.is_hole fits.is_run drawn in
          let gone : Run = record next { start = run.start } in
          let hole : Run = record run { start = run.start + next.len } in
          let falls = drawn_falls law w w' is z low_w front ahead run next id here fits.is_hole fits.is_run drawn in
          let before = was.falls in
          record {
            front = front ++ gone ∷ [];
            cut = drawn.runs front ahead here ∙ sym (append_assoc front (gone ∷ []) (hole ∷ ahead)) ∙ ap (λ (r : Run). (front ++ gone ∷ []) ++ r ∷ ahead) (sym f.3);
            gathers = record {
              edit = edit_then m w w' z was.edit drawn.edit;
              fixed = λ k stuck. others k (λ same. (let may = fits.movable in let t = subst (λ (j : ℕ). is_movable_by owners j ≡ false) same stuck in cc)) ∙ was.fixed k stuck;
              parts = λ k. part_then (ids_in m k z) (ids_in w k z) (ids_in w' k z) (was.parts k) (drawn_part law w w' is z low_w front ahead run next id here fits.is_hole fits.is_run drawn k);
              falls = subst (λ (b : Bool). zone_weight (runs_of w' z) + one_if b ≤ zone_weight (runs_of m z)) (sym (or_true any)) (omega (arith, falls, before));
              same = λ h. absurd (let t = or_true any in cc);
            };
            few = (let a = ap (λ (r : Run). r.len) f.3 in let b = f.4 in omega (arith, a, b, few));
          }
      by false e =
          let f = step.none e in
          record {
            front = front ++ run ∷ [];
            cut = ap (λ (n : Map). runs_of n z) f.0 ∙ here ∙ sym (append_assoc front (run ∷ []) (next ∷ ahead)) ∙ ap (λ (r : Run). (front ++ run ∷ []) ++ r ∷ ahead) (sym f.1);
            gathers = subst (λ (n : Map). Gathers owners m n z (any || false)) (sym f.0) (subst (λ (b : Bool). Gathers owners m w z b) (sym (or_false any)) was);
            few = (let a = ap (λ (r : Run). r.len) f.1 in let b = f.2 in let fit = front_fits next in omega (arith, a, b, fit));
          }

-- the sectors of a run's front are those of a hole of the map m
abbrev pub FrontIn : Map → ℕ → Run → ℕ → Type 0
FrontIn m z run fresh =
    (i : ℕ) → i < sector_count m.geometry (z, record run { len = fresh }) → is_among (hole_sectors (Layout.New m)) (first_sector m.geometry (z, run) + i) ≡ true

-- a map m from which on runs of other zones may have been drawn
module _ (law : Laws) (m w w' : Map) (owners : List Owner) (z : ℕ) (is_m : IsNewMap m) (is : IsNewMap w) (geo : w.geometry ≡ m.geometry) (low : z < m.geometry.zones) (front ahead : List Run) (run next : Run)
    (here : HasRuns w z (front ++ run ∷ (next ∷ ahead))) (fresh : ℕ) (few : fresh ≤ run.len) (in_holes : FrontIn m z run fresh) (s : Front) (step : IsGathered owners w w' z run next fresh s) where
  low_z : z < w.geometry.zones
  low_z = subst (λ (h : Geometry). z < h.zones) (sym geo) low

  pub front_more : (passed : List Run) → HasRuns m z (passed ++ next ∷ ahead) → FrontIn m z s.run s.fresh
  front_more passed behind = by s.moved refl
    where
      by : (b : Bool) → s.moved ≡ b → FrontIn m z s.run s.fresh
      by true e =
          let f = step.some e in
          let id = f.0 in
          let fits = f.1 in
          let drawn = f.2 in
          let hole : Run = record run { start = run.start + next.len } in
          let moved : FrontIn m z hole (fresh - next.len) =
          λ i lt.
          (let place : first_sector m.geometry (z, hole) ≡ first_sector m.geometry (z, run) + sector_count m.geometry (z, next) =
          subst (λ (h : Geometry). first_sector h (z, hole) ≡ first_sector h (z, run) + sector_count h (z, next)) geo (drawn_place law w w' is z low_z front ahead run next id here fits.is_hole fits.is_run drawn) in
          let count : sector_count m.geometry (z, record run { len = fresh }) ≡ sector_count m.geometry (z, next) + sector_count m.geometry (z, record run { len = fresh - next.len }) =
          subst (λ (h : Geometry). sector_count h (z, record run { len = fresh }) ≡ sector_count h (z, next) + sector_count h (z, record run { len = fresh - next.len })) geo
          (drawn_count law w w' is z low_z front ahead run next id here fits.is_hole fits.is_run drawn fresh fits.room) in
          subst (λ (k : ℕ). is_among (hole_sectors (Layout.New m)) k ≡ true)
          (let at : first_sector m.geometry (z, run) + (sector_count m.geometry (z, next) + i) ≡ first_sector m.geometry (z, hole) + i = omega (arith, place) in at)
          (in_holes (sector_count m.geometry (z, next) + i) (omega (arith, lt, count)))) in
          subst (λ (r : Run). FrontIn m z r s.fresh) (sym f.3) (subst (λ (k : ℕ). FrontIn m z hole k) (sym f.4) moved)
      by false e =
          let f = step.none e in
          subst (λ (r : Run). FrontIn m z r s.fresh) (sym f.1) (subst (λ (k : ℕ). FrontIn m z next k) (sym f.2) (start_front m is_m z low passed ahead next behind))

  pub more_carrying : ((k : ℕ) → is_movable_by owners k ≡ false → id_runs w k ≡ id_runs m k) → (before image : List ℕ)
      → ChangesRow m.geometry.sector (first_sector w.geometry (z, run)) (sector_count w.geometry (z, record run { len = fresh })) before image
      → (s.moved ≡ true → IsCopied w.geometry.sector (first_sector w.geometry (z, next)) (first_sector w.geometry (z, run)) (sector_count w.geometry (z, next)) image)
      → (s.moved ≡ false → image ≡ before) → Carrying m w owners before → Carrying m w' owners image
  more_carrying fixed before image row copied same carrying = by s.moved refl
    where
      by : (b : Bool) → s.moved ≡ b → Carrying m w' owners image
      by true e =
          let f = step.some e in
          let fits = f.1 in
          drawn_carrying law w w' is z low_z front ahead run next f.0 here fits.is_hole fits.is_run f.2 m owners is_m geo fixed fits.movable fresh few fits.room
          (subst (λ (h : Geometry). (i : ℕ) → i < sector_count h (z, record run { len = fresh }) → is_among (hole_sectors (Layout.New m)) (first_sector h (z, run) + i) ≡ true) (sym geo) in_holes)
          before image row (copied e) carrying
      by false e = subst (λ (n : Map). Carrying m n owners image) (sym (step.none e).0) (subst (Carrying m w owners) (sym (same e)) carrying)

-- a front more is written
pub front_kept : {D : Type 0} {d : Ghosts D} (law : DiskLaws d) {old mid new : D} (n m w : Map) (owners : List Owner) (z : ℕ) (spares : Spares n m owners z) (is : IsNewMap w) (geo : w.geometry ≡ m.geometry)
    (low : z < m.geometry.zones) (front rest : List Run) (run : Run) (cut : HasRuns w z (front ++ run ∷ rest)) (fresh : ℕ) (few : fresh ≤ run.len) (in_holes : FrontIn n z run fresh)
    → SameForm d old mid → d.sector_size old ≡ m.geometry.sector → disc_sectors (Layout.New m) ≤ d.sectors old → Turned d mid new w.geometry z run fresh
    → StaysInHoles d old mid n → StaysInHoles d old new n
front_kept {d = d} law {old} {mid} {new} n m w owners z spares is geo low front rest run cut fresh few in_holes form size disc tears kept start first before =
    let both : w.geometry ≡ n.geometry = geo ∙ spares.geometry in
    let on_disc = front_on_disc w is z (subst (λ (h : Geometry). z < h.zones) (sym geo) low) front rest run cut fresh few in
    let same : disc_sectors (Layout.New w) ≡ disc_sectors (Layout.New m) = ap (λ (h : Geometry). h.disc_bits * h.bit_bytes / h.sector) geo in
    let stay = first.sectors_stay in
    kept_torn n (first_sector n.geometry (z, run)) (sector_count n.geometry (z, record run { len = fresh })) in_holes law (form_then d first form)
    (form.size_stays ∙ size ∙ ap (λ (h : Geometry). h.sector) spares.geometry)
    (subst (λ (h : Geometry). first_sector h (z, run) + sector_count h (z, record run { len = fresh }) ≤ d.sectors start) both (omega (arith, on_disc, same, disc, stay)))
    (kept start first before) (subst (λ (h : Geometry). Turned d mid new h z run fresh) both tears)
