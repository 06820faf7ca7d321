-- New space of a directory that grows, planned from what an object's leaves: its sectors are different ones, and none is the object's.
use Rattle.std.proofs.Common.{◌≡◌, ◌≤◌, ◌+◌, ◌-◌, ◌*◌, ◌/◌, ◌==◌, ℕ, Bool, true, false, cond, List, [], ◌∷◌, refl, sym, ap, subst, ◌∙◌, arith, eq-eqb, Option, Some, None}
use Rattle.std.specs.Prelude.{Contains}
use Rattle.std.specs.List.{find}
use Rattle.std.proofs.lemmas.Bool.{and_from}
use Rattle.std.proofs.lemmas.List.Elements.{All-contains}
use Rattle.fc_record.specs.Record.{base, first_bit}
use Rattle.fc_newmap.specs.Map.{Map, ZoneRun, all_runs, disc_bit, first_sector, hole_runs, is_hole, sector_count}
use Rattle.fc_newmap.specs.NewMap.{IsNewMap}
use Rattle.fc_newmap.specs.RunsLaw.{HoldsSector, IsGeometry}
use Rattle.fc_newmap.proofs.PlaceLemmas.{filter_in}
use Rattle.fc_newmap.proofs.RunsLemmas.{runs_apart, sectors_add}
use Rattle.fc_image.specs.Layout.{is_apart}
use Rattle.fc_image.specs.effects.Placed.{HasRunLength, IsPlan, holes_left, left_behind, stands_at}
use Rattle.fc_image.proofs.HolesLemmas.{apart_from}
use Rattle.fc_laws.proofs.lemmas.agree.BeforeLemmas.{new_shape}
use Rattle.fc_objects.specs.Written.{AreApart}
use Rattle.fc_plan.specs.declared.plan.Plan.{Plan}
use Rattle.fc_plan.specs.Parts.{fronts}
use Rattle.fc_plan.specs.Plan.{IsFrontOfOne}
use Rattle.fc_plan.proofs.Composed.{found_some}
use Rattle.fc_plan.proofs.Left.{count_at-positive, found_within, rest_of, same_hole}
use Rattle.fc_plan.proofs.MapLemmas.{count_at, holes_apart, holes_placed, IsPlaced}
use Rattle.fc_plan.proofs.Order.{same_place}
use Rattle.fc_plan.proofs.Plans.{cut_of_plan}
use Rattle.fc_plan.proofs.Taken.{find_is}
use Rattle.fc_change.specs.GrownSpace.{place_of_plan}
use Rattle.fc_change.proofs.PlanLemmas.{LiesWithin, in_part, left_in, one_there, rest_within, within_holds}
use Rattle.fc_commands.proofs.PlanPlaceLemmas.{BeginAsOne, front_holds, once_by}
use Rattle.fc_tree.proofs.MemberLemmas.{no_element}

-- ---- what is left of a hole

pub one_rest : (hole a b : ZoneRun) (o : Option ZoneRun) → Contains (left_behind hole o) a → Contains (left_behind hole o) b → a ≡ b
one_rest hole a b None first second = sym (one_there hole a first) ∙ one_there hole b second
one_rest hole a b (Some part) first second = by (part.1.len == hole.1.len) first second
  where
    by : (c : Bool) → Contains (cond c [] (rest_of hole part ∷ [])) a → Contains (cond c [] (rest_of hole part ∷ [])) b → a ≡ b
    by true none also = absurd (no_element a none)
    by false one two = sym (one_there (rest_of hole part) a one) ∙ one_there (rest_of hole part) b two

pub is_rest : (hole part rest : ZoneRun) → Contains (left_behind hole (Some part)) rest → rest_of hole part ≡ rest
is_rest hole part rest at = by (part.1.len == hole.1.len) at
  where
    by : (c : Bool) → Contains (cond c [] (rest_of hole part ∷ [])) rest → rest_of hole part ≡ rest
    by true none = absurd (no_element rest none)
    by false one = one_there (rest_of hole part) rest one

-- the part that is found at a hole is the one that was cut from it
pub found_is : (h p : ZoneRun) (parts : List ZoneRun) → ((place : ZoneRun) → count_at place parts ≤ 1) → Contains parts p → stands_at h p ≡ true → find (stands_at h) parts ≡ Some p
found_is h p parts once among at =
    let x = found_some h parts (count_at-positive h p parts among at) in
    let is = find_is (stands_at h) x.0 parts x.1 in
    let a = same_place h x.0 is.1 in
    let b = same_place h p at in
    let there : stands_at x.0 p ≡ true = and_from (x.0.0 == p.0) (x.0.1.start == p.1.start) (eq-eqb x.0.0 p.0 (sym a.0 ∙ b.0)) (eq-eqb x.0.1.start p.1.start (sym a.1 ∙ b.1)) in
    x.1 ∙ ap (λ (q : ZoneRun). let o : Option ZoneRun = Some q in o) (same_hole parts x.0 p (once x.0) is.0 among there)

-- A part of what these parts leave of the holes: the rest of a hole at whose front it lies.
record IsInRest (m : Map) (object : List ZoneRun) (p : ZoneRun) : Type 0 where
  pub hole : ZoneRun
  pub there : Contains (hole_runs m) hole
  pub rest : ZoneRun
  pub left : Contains (left_behind hole (find (stands_at hole) object)) rest
  pub within : LiesWithin hole p
  pub zone : rest.0 ≡ p.0
  pub start : rest.1.start ≡ p.1.start

module _ (m : Map) (is : IsNewMap m) (object dir : List ZoneRun) (first second : ℕ) (one : IsPlan m.geometry (hole_runs m) first object) (two : IsPlan m.geometry (holes_left (hole_runs m) object) second dir) where
  shape : IsGeometry m.geometry
  shape = new_shape m is

  in_rest : (p : ZoneRun) → Contains dir p → IsInRest m object p
  in_rest p at =
      let front = All-contains (IsFrontOfOne m.geometry (holes_left (hole_runs m) object)) dir p two.taken.fronts at in
      let k = left_in (hole_runs m) object front.0 front.1 in
      let lies = rest_within k.0 front.0 (find (stands_at k.0) object) (found_within m.geometry (hole_runs m) object (holes_apart m is) one.taken.fronts k.0 k.1 (find (stands_at k.0) object) refl) k.2 in
      let place = same_place front.0 p front.2.at_front in
      let within = front.2.within in
      let from = lies.from in
      let to = lies.to in
      record {
        hole = k.0;
        there = k.1;
        rest = front.0;
        left = k.2;
        within = record { zone = lies.zone ∙ place.0; from = omega (arith, from, place.1); to = omega (arith, to, within, place.1) };
        zone = place.0;
        start = place.1;
      }

  in_hole : (p : ZoneRun) (at : Contains dir p) (s : ℕ) → HoldsSector m.geometry p s → HoldsSector m.geometry (in_rest p at).hole s
  in_hole p at s holds = let r = in_rest p at in within_holds m is r.hole p s r.there r.within (All-contains (HasRunLength m.geometry) dir p two.long at).1 holds

  one_hole : (h k : ZoneRun) (s : ℕ) → Contains (hole_runs m) h → Contains (hole_runs m) k → HoldsSector m.geometry h s → HoldsSector m.geometry k s → h ≡ k
  one_hole h k s at_h at_k in_h in_k =
      let run = λ (r : ZoneRun). is_hole r.1.kind in runs_apart m shape is.right h k (filter_in run (all_runs m) h at_h).0 (filter_in run (all_runs m) k at_k).0 s in_h in_k

  begin_as_one : BeginAsOne m.geometry dir
  begin_as_one p q s at_p at_q in_p in_q =
      let a = in_rest p at_p in
      let b = in_rest q at_q in
      let hole = one_hole a.hole b.hole s a.there b.there (in_hole p at_p s in_p) (in_hole q at_q s in_q) in
      let rest = one_rest b.hole a.rest b.rest (find (stands_at b.hole) object) (subst (λ (h : ZoneRun). Contains (left_behind h (find (stands_at h) object)) a.rest) hole a.left) b.left in
      (sym a.zone ∙ ap (λ (r : ZoneRun). r.0) rest ∙ b.zone, sym a.start ∙ ap (λ (r : ZoneRun). r.1.start) rest ∙ b.start)

  once : (place : ZoneRun) → count_at place object ≤ 1
  once place =
      let cut = cut_of_plan m.geometry (hole_runs m) first object one in
      let many = cut.once place in
      let apart = holes_apart m is place in omega (arith, many, apart)

  -- no sector lies in a part of the object and in one of the directory
  never : (r p : ZoneRun) (s : ℕ) → Contains object r → Contains dir p → HoldsSector m.geometry r s → HoldsSector m.geometry p s → ⊥
  never r p s at_r at_p in_r in_p =
      let f = All-contains (IsFrontOfOne m.geometry (hole_runs m)) object r one.taken.fronts at_r in
      let a = in_rest p at_p in
      let hole = one_hole f.0 a.hole s f.1 a.there (front_holds m.geometry f.0 r s shape.some f.2 in_r) (in_hole p at_p s in_p) in
      let found : find (stands_at a.hole) object ≡ Some r = subst (λ (h : ZoneRun). find (stands_at h) object ≡ Some r) hole (found_is f.0 r object once at_r f.2.at_front) in
      let rest = is_rest a.hole r a.rest (subst (λ (o : Option ZoneRun). Contains (left_behind a.hole o) a.rest) found a.left) in
      let place = same_place f.0 r f.2.at_front in
      let zone : r.0 ≡ p.0 = sym place.0 ∙ ap (λ (h : ZoneRun). h.0) (hole ∙ (let same : a.hole ≡ a.hole = refl in same)) ∙ a.within.zone in
      let start : p.1.start ≡ r.1.start + r.1.len =
      sym a.start ∙ ap (λ (x : ZoneRun). x.1.start) (sym rest) ∙ ap (λ (n : ℕ). n + r.1.len) (ap (λ (h : ZoneRun). h.1.start) (sym hole) ∙ place.1) in
      let low : first_bit r.0 ≤ r.1.start =
      subst (λ (n : ℕ). first_bit r.0 ≤ n) place.1 (subst (λ (z : ℕ). first_bit z ≤ f.0.1.start) place.0 (All-contains (IsPlaced m.geometry) (hole_runs m) f.0 (holes_placed m is) f.1).in_zone.from) in
      let bit : disc_bit m.geometry p ≡ r.1.len + disc_bit m.geometry r =
      ap (λ (z : ℕ). base m.geometry z + (p.1.start - first_bit z)) (sym zone) ∙ (let e : base m.geometry r.0 + (p.1.start - first_bit r.0) ≡ r.1.len + (base m.geometry r.0 + (r.1.start - first_bit r.0)) = omega (arith, start, low) in e) in
      let sectors : first_sector m.geometry p ≡ sector_count m.geometry r + first_sector m.geometry r =
      ap (λ (b : ℕ). b * m.geometry.bit_bytes / m.geometry.sector) bit
      ∙ sectors_add m.geometry.q m.geometry.bit_bytes m.geometry.sector r.1.len (disc_bit m.geometry r) shape.some shape.whole (All-contains (HasRunLength m.geometry) object r one.long at_r).1 in
      let to = in_r.to in
      let from = in_p.from in
      omega (arith, sectors, to, from)

-- ---- by plans

-- The sectors of the directory are different ones,
pub once_after : (m : Map) (is : IsNewMap m) (object : List ZoneRun) (first second bytes : ℕ) (plan : Plan) → IsPlan m.geometry (hole_runs m) first object
    → IsPlan m.geometry (holes_left (hole_runs m) object) second (fronts plan.parts.items) → AreApart (place_of_plan m.geometry plan bytes)
once_after m is object first second bytes plan one two = once_by m.geometry bytes plan two.rising (begin_as_one m is object (fronts plan.parts.items) first second one two)

-- and none is the object's.
pub apart_after : (m : Map) (is : IsNewMap m) (object plan : Plan) (first second own bytes : ℕ) → IsPlan m.geometry (hole_runs m) first (fronts object.parts.items)
    → IsPlan m.geometry (holes_left (hole_runs m) (fronts object.parts.items)) second (fronts plan.parts.items) → is_apart (place_of_plan m.geometry object own) (place_of_plan m.geometry plan bytes) ≡ true
apart_after m is object plan first second own bytes one two =
    apart_from (place_of_plan m.geometry object own) (place_of_plan m.geometry plan bytes)
    (λ s here there.
    let r = in_part m.geometry object own s here in
    let p = in_part m.geometry plan bytes s there in
    never m is (fronts object.parts.items) (fronts plan.parts.items) first second one two r.0 p.0 s r.1 p.1 r.2 p.2)
