use Rattle.std.proofs.Common.{◌≡◌, ◌<◌, ◌≤◌, ◌⊎◌, inl, inr, ℕ, ◌+◌, ◌-◌, ◌*◌, ◌%◌, ◌++◌, List, refl, ap, sym, subst, ◌∙◌, arith}
use Rattle.std.proofs.Math.Nat.{zero-mod}
use Rattle.fc_record.specs.declared.Geometry.{Geometry}
use Rattle.fc_device.proofs.DiskLaws.{laws}
use Rattle.fc_zone.specs.Zone.{IsShapeOf}
use Rattle.fc_newmap.specs.Map.{Map, sector_of, shape}
use Rattle.fc_newmap.specs.NewMap.{IsNewMap}
use Rattle.fc_alloc.specs.declared.owner.Owner.{Owner}
use Rattle.fc_zone.specs.declared.Run.{Run}
use Rattle.fc_newmap.proofs.HeldLemmas.{shape_fits}
use Rattle.fc_compact.specs.Slides.{CanShift, HasRuns, IsPart, IsSlide, slid}
use Rattle.fc_compact.specs.declared.shift.Slide.{Slide}
use Rattle.fc_compact.proofs.GoneLemmas.{kept_err, kept_ok, kept_start, kept_then}
use Rattle.fc_compact.proofs.LeadsLemmas.{leads_none, leads_then}
use Rattle.fc_compact.proofs.WholeLemmas.{piece_room, piece_whole, whole_less, whole_more}
use Rattle.fc_compact.proofs.slides.slide_run.Goals as goal

pub loop-done-init : goal.loop-done-init
loop-done-init g c =
    let a = c.args in
    let room = c.requires.slide.len_room in
    let least = ap (λ (h : Geometry). h.min) c.geometry.ensures.value in
    record {
      keeps = kept_start (laws g.met.D.Disk) c.laws.ensures a.owners.now a.disk.now a.map.now 0 c.requires.stands;
      leads = leads_none a.owners.now a.map.now c.is_map.ensures;
      others = λ y other. refl;
      shifted = λ front rest zone. zone;
      within = omega arith;
      whole = (let e : 0 % a.map.now.geometry.q ≡ 0 = zero-mod a.map.now.geometry.q in e);
      begun = inl refl;
      rest = inr (omega (arith, room, least));
    }

some_left : (min left : ℕ) → 0 < left → IsPart min left → min ≤ left
some_left min left some (inl none) = absurd (omega arith)
some_left min left some (inr room) = room

pub next_piece-n-requires-clause-left : goal.next_piece-n-requires-clause-left
next_piece-n-requires-clause-left g c = some_left c.geometry.result.now.min (c.args.slide.len - c.loop-done.done) (omega (arith, c.loop-done-test.true)) c.loop-done.invariant.rest

pub next_piece-n-requires-clause-some : goal.next_piece-n-requires-clause-some
next_piece-n-requires-clause-some g c =
    let m = c.args.map.now in
    let z = c.args.slide.zone in
    let low = c.requires.slide.zone in
    let fits = shape_fits m.geometry z (sector_of m z) c.is_map.ensures.of_record low (c.is_map.ensures.whole z low) in
    let room = fits.least_room in
    let least = ap (λ (h : Geometry). h.min) c.geometry.ensures.value in
    omega (arith, room, least)

pub next_piece-n-requires-clause-hole : goal.next_piece-n-requires-clause-hole
next_piece-n-requires-clause-hole g c =
    let room = c.requires.slide.hole_room in
    let least = ap (λ (h : Geometry). h.min) c.geometry.ensures.value in
    omega (arith, room, least)

-- the piece, which is whole, can move
module _ (m : Map) (is : IsNewMap m) (owners : List Owner) (s : Slide) (req : IsSlide m owners s) (now : Map) (same : now.geometry ≡ m.geometry) (min : ℕ) (least : min ≡ m.geometry.min) (done n : ℕ)
    (which : (n ≡ s.len - done) ⊎ ((n ≡ s.hole) ⊎ ((s.hole < s.len - done) × (n ≡ s.len - done - min)))) (rest : IsPart min (s.len - done)) (whole : done % m.geometry.q ≡ 0) (more : done < s.len) where
  fits : IsShapeOf (sector_of m s.zone) (shape m.geometry s.zone)
  fits = shape_fits m.geometry s.zone (sector_of m s.zone) is.of_record req.zone (is.whole s.zone req.zone)

  room : min ≤ s.len - done
  room = some_left min (s.len - done) (omega (arith, more)) rest

  n_whole : n % m.geometry.q ≡ 0
  n_whole = piece_whole s.hole (s.len - done) min n which room m.geometry.q fits.step req.hole_whole
      (whole_less s.len done m.geometry.q fits.step (omega (arith, more)) req.len_whole whole) (subst (λ (k : ℕ). k % m.geometry.q ≡ 0) (sym least) fits.least_whole)

  pub whole_piece : n % now.geometry.q ≡ 0
  whole_piece = subst (λ (h : Geometry). n % h.q ≡ 0) (sym same) n_whole

  pub can_step : 0 < n → n ≤ s.len - done → IsPart min done → IsPart min (s.len - done - n) → (front rest : List Run) × HasRuns now s.zone (front ++ slid s done rest) → CanShift now s done n
  can_step some within begun left runs =
      let long = subst (λ (k : ℕ). (s.len ≤ s.hole) ⊎ (2 * k ≤ s.len)) (sym least) req.room in
      let hole_room = req.hole_room in
      let wide : min ≤ s.hole = omega (arith, hole_room, least) in
      let moved : min ≤ done + n = piece_room s.hole (s.len - done) min n which room done s.len refl begun long wide in
      let less : s.len - done - n ≡ s.len - (done + n) = omega arith in
      record {
        zone = subst (λ (h : Geometry). s.zone < h.zones) (sym same) req.zone;
        runs = runs;
        fits = req.fits;
        some = some;
        within = omega (arith, within, more);
        whole = subst (λ (h : Geometry). (done + n) % h.q ≡ 0) (sym same) (whole_more done n m.geometry.q fits.step whole n_whole);
        room = subst (λ (h : Geometry). h.min ≤ done + n) (sym same) (omega (arith, moved, least));
        hole_whole = subst (λ (h : Geometry). s.hole % h.q ≡ 0) (sym same) req.hole_whole;
        hole_room = subst (λ (h : Geometry). h.min ≤ s.hole) (sym same) req.hole_room;
        left = subst (λ (h : Geometry). IsPart h.min (s.len - (done + n))) (sym same) (subst (λ (k : ℕ). IsPart k (s.len - (done + n))) least (subst (IsPart min) less left));
      }

pub slide_piece-requires-clause-piece_whole : goal.slide_piece-requires-clause-piece_whole
slide_piece-requires-clause-piece_whole g c =
    let was = c.loop-done.invariant in
    whole_piece c.args.map.now c.is_map.ensures c.args.owners.now c.args.slide c.requires.slide c.loop-done.map was.keeps.geometry c.geometry.result.now.min (ap (λ (h : Geometry). h.min) c.geometry.ensures.value)
    c.loop-done.done c.next_piece-n.result c.next_piece-n.ensures.which was.rest was.whole c.loop-done-test.true

pub slide_piece-requires-clause-done_whole : goal.slide_piece-requires-clause-done_whole
slide_piece-requires-clause-done_whole g c = let was = c.loop-done.invariant in subst (λ (h : Geometry). c.loop-done.done % h.q ≡ 0) (sym was.keeps.geometry) was.whole

pub slide_piece-requires-clause-stands : goal.slide_piece-requires-clause-stands
slide_piece-requires-clause-stands g c = c.loop-done.invariant.keeps.stands

pub slide_piece-requires-clause-shift : goal.slide_piece-requires-clause-shift
slide_piece-requires-clause-shift g c =
    let was = c.loop-done.invariant in
    let req = c.requires.slide in
    let step = c.next_piece-n.ensures in
    can_step c.args.map.now c.is_map.ensures c.args.owners.now c.args.slide req c.loop-done.map was.keeps.geometry c.geometry.result.now.min (ap (λ (h : Geometry). h.min) c.geometry.ensures.value)
    c.loop-done.done c.next_piece-n.result step.which was.rest was.whole c.loop-done-test.true step.some step.within was.begun step.rest (req.runs.0, req.runs.1, was.shifted req.runs.0 req.runs.1 req.runs.2)

pub returns-in_err-slide_piece-clause-keeps : goal.returns-in_err-slide_piece-clause-keeps
returns-in_err-slide_piece-clause-keeps g c =
    let a = c.args in
    let was = c.loop-done.invariant in
    kept_err a.owners.now a.disk.now c.slide_piece.new.disk a.map.now c.slide_piece.new.map _ c.from_residual.result c.from_residual.ensures.0
    (kept_then (laws g.met.D.Disk) c.laws.ensures a.owners.now a.disk.now a.map.now c.loop-done.disk c.loop-done.map was.keeps was.leads c.slide_piece.new.disk c.slide_piece.new.map _ c.in_err-slide_piece.ensures.keeps)

pub loop-done-preserved : goal.loop-done-preserved
loop-done-preserved g c =
    let a = c.args in
    let m = a.map.now in
    let s = a.slide in
    let req = c.requires.slide in
    let was = c.loop-done.invariant in
    let done = c.loop-done.done in
    let n = c.next_piece-n.result in
    let next = c.slide_piece.new.map in
    let ok = c.in_ok-slide_piece.ensures in
    let step = c.next_piece-n.ensures in
    let can = can_step c.args.map.now c.is_map.ensures c.args.owners.now c.args.slide req c.loop-done.map was.keeps.geometry c.geometry.result.now.min (ap (λ (h : Geometry). h.min) c.geometry.ensures.value)
    c.loop-done.done c.next_piece-n.result step.which was.rest was.whole c.loop-done-test.true step.some step.within was.begun step.rest (req.runs.0, req.runs.1, was.shifted req.runs.0 req.runs.1 req.runs.2) in
    let geo = was.keeps.geometry in
    let least : c.geometry.result.now.min ≡ m.geometry.min = ap (λ (h : Geometry). h.min) c.geometry.ensures.value in
    let now = kept_then (laws g.met.D.Disk) c.laws.ensures a.owners.now a.disk.now m c.loop-done.disk c.loop-done.map was.keeps was.leads c.slide_piece.new.disk next _ ok.keeps in
    let min_is : c.loop-done.map.geometry.min ≡ c.geometry.result.now.min = ap (λ (h : Geometry). h.min) geo ∙ sym least in
    record {
      keeps = kept_ok a.owners.now a.disk.now c.slide_piece.new.disk m next _ 0 now;
      leads = leads_then a.owners.now m c.loop-done.map next was.leads ok.leads;
      others = λ y other. ok.others y other ∙ was.others y other;
      shifted = λ front rest zone. ok.shifted front rest (was.shifted front rest zone);
      within = can.within;
      whole = subst (λ (h : Geometry). (done + n) % h.q ≡ 0) geo can.whole;
      begun = inr (let room = can.room in omega (arith, room, min_is));
      rest = subst (λ (k : ℕ). IsPart k (s.len - (done + n))) min_is can.left;
    }

pub returns-clause-keeps : goal.returns-clause-keeps
returns-clause-keeps g c = kept_ok c.args.owners.now c.args.disk.now c.loop-done.disk c.args.map.now c.loop-done.map 0 _ c.loop-done.invariant.keeps

pub returns-clause-shifted : goal.returns-clause-shifted
returns-clause-shifted g c = λ front rest zone.
    let s = c.args.slide in
    let was = c.loop-done.invariant in
    let all : c.loop-done.done ≡ 0 + s.len = omega (arith, was.within, c.loop-done-test.false) in
    subst (λ (k : ℕ). HasRuns c.loop-done.map s.zone (front ++ slid s k rest)) all (was.shifted front rest zone)
