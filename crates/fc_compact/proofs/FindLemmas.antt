-- A hole and the run that follows it, found by a walk.
use Rattle.std.proofs.Common.{◌≡◌, ◌<◌, ◌≤◌, ◌⊎◌, inl, ℕ, ◌+◌, ◌-◌, ◌*◌, ◌%◌, ◌^◌, true, List, [], ◌∷◌, ◌++◌, refl, sym, ap, ap₂, subst, ◌∙◌, arith, append_assoc}
use Rattle.fc_zone.specs.declared.Run.{Run}
use Rattle.fc_zone.specs.declared.RunKind.TheVariants.{Hole, Id}
use Rattle.fc_zone.specs.Zone.{IsShapeOf, Zone}
use Rattle.fc_zone.proofs.HolderLemmas.{run_ext, run_spelled}
use Rattle.fc_newmap.proofs.ComposeLemmas.{zone_cut}
use Rattle.fc_newmap.specs.Map.{Map, runs_of, sector_of, shape}
use Rattle.fc_newmap.specs.NewMap.{IsNewMap}
use Rattle.fc_newmap.proofs.HeldLemmas.{end_within, geometry_facts, sector_high, shape_fits}
use Rattle.fc_image.specs.effects.Moves.{Slid}
use Rattle.fc_alloc.specs.declared.owner.Owner.{Owner}
use Rattle.fc_compact.specs.Ready.{is_movable_by}
use Rattle.fc_compact.specs.Slides.{CanShift, HasRuns, HasShifted, IsSlide, hole_at, part, row, run_at, slid}
use Rattle.fc_compact.specs.declared.shift.Slide.{Slide}
use Rattle.fc_compact.proofs.ShiftLemmas.{part_some}
use Rattle.fc_compact.proofs.WholeLemmas.{run_room, run_whole}

module _ (m : Map) (is : IsNewMap m) (z : ℕ) (low : z < m.geometry.zones) (front rest : List Run) (hole run : Run) (runs : runs_of m z ≡ front ++ hole ∷ (run ∷ rest)) where
  has_pair : Zone (shape m.geometry z) (sector_of m z) (front ++ hole ∷ (run ∷ rest))
  has_pair = zone_cut m z (front ++ hole ∷ (run ∷ rest)) is low runs

  has_run : Zone (shape m.geometry z) (sector_of m z) ((front ++ hole ∷ []) ++ run ∷ rest)
  has_run = subst (Zone (shape m.geometry z) (sector_of m z)) (sym (append_assoc front (hole ∷ []) (run ∷ rest))) has_pair

  -- the run begins where the hole ends
  pub run_follows : run.start ≡ hole.start + hole.len
  run_follows = (run_spelled (shape m.geometry z) (sector_of m z) front (run ∷ rest) hole has_pair).1.3.0

  pub fits_shape : IsShapeOf (sector_of m z) (shape m.geometry z)
  fits_shape = shape_fits m.geometry z (sector_of m z) is.of_record low (is.whole z low)

  pub hole_whole : hole.len % m.geometry.q ≡ 0
  hole_whole = run_whole (shape m.geometry z) (sector_of m z) front (run ∷ rest) hole has_pair fits_shape

  pub hole_room : m.geometry.min ≤ hole.len
  hole_room = run_room (shape m.geometry z) (sector_of m z) front (run ∷ rest) hole has_pair fits_shape

  pub len_whole : run.len % m.geometry.q ≡ 0
  len_whole = run_whole (shape m.geometry z) (sector_of m z) (front ++ hole ∷ []) rest run has_run fits_shape

  pub len_room : m.geometry.min ≤ run.len
  len_room = run_room (shape m.geometry z) (sector_of m z) (front ++ hole ∷ []) rest run has_run fits_shape

  pub some_len : 0 < run.len
  some_len = (let l = fits_shape.least_room in omega (arith, l, len_room))

  pub pair_fits : hole.start + hole.len + run.len < 2 ^ 32
  pair_fits =
      let cut = run_spelled (shape m.geometry z) (sector_of m z) (front ++ hole ∷ []) rest run has_run in
      let within = cut.1.1.within in
      let high = end_within m.geometry z is.of_record low in
      let size = sector_high m.geometry (geometry_facts m.geometry is.of_record) in
      omega (arith, within, high, size, run_follows)

  module _ (start id : ℕ) (named : hole.start ≡ start) (is_hole : hole.kind ≡ Hole) (is_run : run.kind ≡ Id id) where
    hole_is : hole ≡ hole_at start hole.len
    hole_is = run_ext hole (hole_at start hole.len) named refl is_hole

    run_is : run ≡ run_at (start + hole.len) run.len id
    run_is = run_ext run (run_at (start + hole.len) run.len id) (run_follows ∙ ap (λ k. k + hole.len) named) refl is_run

    -- nothing has slid
    pub first_row : HasRuns m z (front ++ row start id 0 hole.len run.len rest)
    first_row =
        let from : start + 0 ≡ start = omega arith in
        runs
        ∙ ap (λ (r : Run). front ++ hole ∷ (r ∷ rest)) run_is
        ∙ ap (λ (h : Run). front ++ h ∷ (run_at (start + hole.len) run.len id ∷ rest)) hole_is
        ∙ ap (λ (rs : List Run). front ++ hole_at start hole.len ∷ rs) (sym (part_some (start + hole.len) run.len id rest some_len))
        ∙ ap (λ (k : ℕ). front ++ hole_at k hole.len ∷ part (k + hole.len) run.len id rest) (sym from)

    -- as a slide
    abbrev pub pair : Slide
    pair = record { zone = z; start = start; id = id; hole = hole.len; len = run.len }

    pub none_slid : HasRuns m z (front ++ slid pair 0 rest)
    none_slid = first_row ∙ ap (λ (k : ℕ). front ++ row start id 0 hole.len k rest) (let e : run.len ≡ run.len - 0 = omega arith in e)

    -- all of it can move
    pub can_shift : CanShift m pair 0 run.len
    can_shift =
        let fits = pair_fits in
        let all : 0 + run.len ≡ run.len = omega arith in
        record {
          zone = low;
          runs = (front, rest, none_slid);
          fits = omega (arith, named, fits);
          some = some_len;
          within = omega arith;
          whole = ap (λ (k : ℕ). k % m.geometry.q) all ∙ len_whole;
          room = (let room = len_room in omega (arith, room));
          hole_whole = hole_whole;
          hole_room = hole_room;
          left = inl (omega arith);
        }

    pub is_slide : (owners : List Owner) → is_movable_by owners id ≡ true → (run.len ≤ hole.len) ⊎ (2 * m.geometry.min ≤ run.len) → IsSlide m owners pair
    is_slide owners may room =
        let fits = pair_fits in
        record {
          zone = low;
          movable = may;
          runs = (front, rest, none_slid);
          fits = omega (arith, named, fits);
          len_whole = len_whole;
          hole_whole = hole_whole;
          len_room = len_room;
          hole_room = hole_room;
          room = room;
        }

    -- all has slid
    pub all_slid : (m' : Map) → HasShifted m m' pair 0 run.len → HasRuns m' z (front ++ record run { start = hole.start } ∷ (record hole { start = hole.start + run.len } ∷ rest))
    all_slid m' shifted =
        let all : 0 + run.len ≡ run.len = omega arith in
        let none : run.len - (0 + run.len) ≡ 0 = omega arith in
        shifted front rest none_slid
        ∙ ap₂ (λ (k left : ℕ). front ++ row start id k hole.len left rest) all none
        ∙ ap (λ (rs : List Run). front ++ rs) (part_some start run.len id (hole_at (start + run.len) hole.len ∷ rest) some_len)
        ∙ ap (λ (r : Run). front ++ r ∷ (hole_at (start + run.len) hole.len ∷ rest)) (run_ext (run_at start run.len id) (record run { start = hole.start }) (sym named) refl (sym is_run))
        ∙ ap (λ (h : Run). front ++ record run { start = hole.start } ∷ (h ∷ rest))
        (run_ext (hole_at (start + run.len) hole.len) (record hole { start = hole.start + run.len }) (ap (λ k. k + run.len) (sym named)) refl (sym is_hole))

    pub slid_row : (m' : Map) → HasShifted m m' pair 0 run.len → ((y : ℕ) → (y ≡ z → ⊥) → runs_of m' y ≡ runs_of m y) → Slid m m' z start
    slid_row m' shifted others = record {
      front = front;
      rest = rest;
      hole = hole;
      run = run;
      named = named;
      is_hole = is_hole;
      was = runs;
      is = all_slid m' shifted;
      others = others;
    }
