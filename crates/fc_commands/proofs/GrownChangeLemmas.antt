-- Both steps of a change of space on a new map in which a directory grows, as one edit of it.
use Rattle.std.proofs.Common.{◌≡◌, ◌<◌, ◌⊎◌, inl, inr, ⊎_elim, ℕ, ◌||◌, ◌==◌, Bool, true, false, cond, List, [], ◌∷◌, ◌++◌, length, refl, sym, ap, ap₂, subst, ◌∙◌, arith, eq-eqb, Option, Some, None}
use Rattle.std.specs.Prelude.{Contains, IfSome, IsPermutation}
use Rattle.std.proofs.lemmas.List.{append-nil}
use Rattle.std.proofs.lemmas.List.Elements.{Contains-append_cases}
use Rattle.fc_record.specs.declared.Geometry.{Geometry}
use Rattle.fc_oldmap.specs.declared.Hole.{Hole}
use Rattle.fc_newmap.specs.Map.{Map, ZoneRun, hole_runs, id_runs}
use Rattle.fc_newmap.specs.NewMap.{IsNewMap}
use Rattle.fc_image.specs.effects.Placed.{holes_left}
use Rattle.fc_image.specs.effects.Steady.{holes_with, runs_that, zone_holes}
use Rattle.fc_plan.specs.declared.plan.Plan.{Plan}
use Rattle.fc_plan.specs.Applied.{IsOther, IsTakenIn, id_in, parts_in, parts_in_order, unless_gone}
use Rattle.fc_plan.specs.Giving.{is_one_of}
use Rattle.fc_plan.specs.Parts.{fronts}
use Rattle.fc_plan.specs.Taking.{as_runs}
use Rattle.fc_plan.proofs.Left.{left_of_none}
use Rattle.fc_changes.proofs.BasicLemmas.{clash}
use Rattle.fc_changes.specs.Owed.{IsSpaceEdit}
use Rattle.fc_tree.proofs.MemberLemmas.{no_element}
use Rattle.fc_edits.proofs.lemmas.ShapeLemmas.{of_one}
use Rattle.fc_changes.specs.Space.{HasTaken, IsMapEdited}
use Rattle.fc_changes.proofs.StepsLemmas.{steps_law}
use Rattle.fc_edits.specs.NewPlaces.{IsSpaceChange, Taking, is_taken, untaken}
use Rattle.fc_edits.specs.Placing.{takings_of}
use Rattle.fc_writing.specs.declared.ready.MapStep.{MapStep}
use Rattle.fc_writing.specs.declared.ready.RootPlace.{RootPlace}
use Rattle.fc_writing.specs.Steps.{HasStepped, rooted_map}
use Rattle.fc_change.specs.GrownSpace.{gone_at_once, kept_parts, plans_of}
use Rattle.fc_change.specs.Steps.{IsStep}
use Rattle.fc_commands.proofs.StepLemmas.{given_none, second_step}
use Rattle.fc_commands.proofs.GrownStepLemmas.{IsGrownTaken, PlansFit, first_taken, with_some}

-- ---- both steps

-- what is taken for a directory
abbrev pub taking_of : Option Plan → List Taking
taking_of None = []
taking_of (Some q) = record { id = q.id; parts = fronts q.parts.items } ∷ []

abbrev pub takings : Option Plan → Option Plan → List Taking
takings object dir = takings_of (id_in object) (parts_in object) ++ taking_of dir

one_taking : (id : ℕ) (parts : List ZoneRun) → 0 < length parts → takings_of id parts ≡ record { id = id; parts = parts } ∷ []
one_taking id [] some = absurd (omega (arith, some))
one_taking id (p ∷ parts) some = refl

-- A change of a map: what is taken, and what goes back at once and at last.
pub record IsGrownStepped (m m' : Map) (object dir : Option Plan) (alone : Bool) (root : Option RootPlace) (back : List ℕ) : Type 0 where
  pub edited : IsMapEdited (rooted_map root m) m'
  pub geometry : m'.geometry ≡ m.geometry
  pub space : IsSpaceChange m m' (takings object dir) (gone_at_once dir alone ++ back)
  pub object_taken : IfSome object (IsTakenIn m')
  pub dir_taken : IfSome dir (IsTakenIn m')
  pub object_first : IfSome object (λ (p : Plan). (n : Map) × HasTaken m n p.id (fronts p.parts.items) × IsTakenIn n p)

unless_both : (xs ys : List ℕ) (k : ℕ) (runs : List ZoneRun) → (xs ≡ []) ⊎ (ys ≡ []) → unless_gone ys k (unless_gone xs k runs) ≡ unless_gone (xs ++ ys) k runs
unless_both xs ys k runs (inl none) = ap (λ (zs : List ℕ). unless_gone ys k (unless_gone zs k runs)) none ∙ sym (ap (λ (zs : List ℕ). unless_gone (zs ++ ys) k runs) none)
unless_both xs ys k runs (inr none) =
    ap (λ (zs : List ℕ). unless_gone zs k (unless_gone xs k runs)) none
    ∙ sym (ap (λ (zs : List ℕ). unless_gone (xs ++ zs) k runs) none ∙ ap (λ (zs : List ℕ). unless_gone zs k runs) (append-nil xs))

module _ (m mid m' : Map) (object dir : Option Plan) (alone : Bool) (root : Option RootPlace) (back : List ℕ) (is : IsNewMap m) (fit : PlansFit m object dir alone back)
    (a : IsGrownTaken m mid object dir alone root) (edited : IsMapEdited mid m') (given : IsSpaceEdit mid m' 0 [] back) where
  abbrev at_once : List ℕ
  at_once = gone_at_once dir alone

  -- the runs of an identifier that doesn't go back at last
  last_same : (id : ℕ) → is_one_of back id ≡ false → id_runs m' id ≡ id_runs mid id
  last_same id stays = given.others id (λ some. absurd (omega (arith, some))) ∙ ap (λ (b : Bool). cond b [] (id_runs mid id)) stays

  stays_taken : (o : Option Plan) → IfSome o (IsTakenIn mid) → IfSome o (λ (p : Plan). is_one_of back p.id ≡ false) → IfSome o (IsTakenIn m')
  stays_taken None t s = tt
  stays_taken (Some p) t s =
      let same = last_same p.id s in
      record {
        runs = same ∙ t.runs ∙ ap (λ (g : Geometry). as_runs p.id (parts_in_order g p)) (sym edited.geometry);
        all = subst (IsPermutation (as_runs p.id (fronts p.parts.items))) (sym same) t.all;
      }

  object_last : IfSome object (IsTakenIn m')
  object_last = stays_taken object a.object_taken (with_some object (λ p h. h.1) fit.object_stays)

  dir_last : IfSome dir (IsTakenIn m')
  dir_last = stays_taken dir a.dir_taken fit.dir_stays

  -- the holes
  left_is : untaken (hole_runs m) (takings object dir) ≡ holes_left (holes_left (hole_runs m) (parts_in object)) (parts_in dir)
  left_is = by object fit.object_some dir
    where
      last : (hs : List ZoneRun) (d : Option Plan) → untaken hs (taking_of d) ≡ holes_left hs (parts_in d)
      last hs None = sym (left_of_none hs)
      last hs (Some q) = refl

      by : (o : Option Plan) → 0 < length (parts_in o) ⊎ (o ≡ None) → (d : Option Plan) → untaken (hole_runs m) (takings o d) ≡ holes_left (holes_left (hole_runs m) (parts_in o)) (parts_in d)
      by None some d = last (hole_runs m) d ∙ ap (λ (hs : List ZoneRun). holes_left hs (parts_in d)) (sym (left_of_none (hole_runs m)))
      by (Some p) (inl some) d =
          ap (λ (ts : List Taking). untaken (hole_runs m) (ts ++ taking_of d)) (one_taking p.id (fronts p.parts.items) some) ∙ last (holes_left (hole_runs m) (fronts p.parts.items)) d
      by (Some p) (inr none) d = absurd (cc)

  low_mid : (z : ℕ) → z < m.geometry.zones → z < mid.geometry.zones
  low_mid z low = subst (λ (g : Geometry). z < g.zones) (sym a.geometry) low

  holes_are : (at_once ≡ []) ⊎ (back ≡ []) → (z : ℕ) → z < m.geometry.zones
      → zone_holes (hole_runs m') z ≡ holes_with (zone_holes (untaken (hole_runs m) (takings object dir)) z) (zone_holes (runs_that (is_one_of (at_once ++ back)) m) z)
  holes_are (inl none) z low =
      given.holes z (low_mid z low)
      ∙ ap₂ (λ (hs gs : List ZoneRun). holes_with (zone_holes hs z) (zone_holes gs z)) (left_of_none (hole_runs mid)) (a.kept none back (with_some object (λ p h. h.1) fit.object_stays) fit.dir_stays)
      ∙ ap (λ (hs : List Hole). holes_with hs (zone_holes (runs_that (is_one_of back) m) z))
      (a.holes z low ∙ ap (λ (ids : List ℕ). holes_with (zone_holes (holes_left (holes_left (hole_runs m) (parts_in object)) (parts_in dir)) z) (zone_holes (runs_that (is_one_of ids) m) z)) none
      ∙ ap (λ (gs : List ZoneRun). holes_with (zone_holes (holes_left (holes_left (hole_runs m) (parts_in object)) (parts_in dir)) z) (zone_holes gs z)) (given_none m))
      ∙ ap₂ (λ (hs : List ZoneRun) (ids : List ℕ). holes_with (zone_holes hs z) (zone_holes (runs_that (is_one_of (ids ++ back)) m) z)) (sym left_is) (sym none)
  holes_are (inr none) z low =
      given.holes z (low_mid z low)
      ∙ ap₂ (λ (hs gs : List ZoneRun). holes_with (zone_holes hs z) (zone_holes gs z)) (left_of_none (hole_runs mid)) (ap (λ (ids : List ℕ). runs_that (is_one_of ids) mid) none ∙ given_none mid)
      ∙ a.holes z low
      ∙ ap₂ (λ (hs : List ZoneRun) (ids : List ℕ). holes_with (zone_holes hs z) (zone_holes (runs_that (is_one_of ids) m) z)) (sym left_is) (sym (ap (λ (ids : List ℕ). at_once ++ ids) none ∙ append-nil at_once))

  -- who has what is taken
  either_of : (b c : Bool) → (b || c) ≡ false → (b ≡ false) × (c ≡ false)
  either_of true c e = absurd (cc)
  either_of false c e = (refl, e)

  other_of : (x y : ℕ) → (x == y) ≡ false → y ≡ x → ⊥
  other_of x y e same = clash (x == y) (eq-eqb x y (sym same)) e

  not_taken : (o : Option Plan) → 0 < length (parts_in o) ⊎ (o ≡ None) → (d : Option Plan) (k : ℕ) → is_taken (takings o d) k ≡ false → IsOther k o × IsOther k d
  not_taken None some None k e = (tt, tt)
  not_taken None some (Some q) k e = (tt, other_of q.id k (either_of (q.id == k) false e).0)
  not_taken (Some p) (inr none) d k e = absurd (cc)
  not_taken (Some p) (inl some) None k e =
      let f = ap (λ (ts : List Taking). is_taken (ts ++ []) k) (sym (one_taking p.id (fronts p.parts.items) some)) ∙ e in (other_of p.id k (either_of (p.id == k) false f).0, tt)
  not_taken (Some p) (inl some) (Some q) k e =
      let f = ap (λ (ts : List Taking). is_taken (ts ++ taking_of (Some q)) k) (sym (one_taking p.id (fronts p.parts.items) some)) ∙ e in
      let parts = either_of (p.id == k) ((q.id == k) || false) f in (other_of p.id k parts.0, other_of q.id k (either_of (q.id == k) false parts.1).0)

  one_of_taking : (d : Option Plan) → IfSome d (IsTakenIn m') → (t : Taking) → Contains (taking_of d) t → IsPermutation (as_runs t.id t.parts) (id_runs m' t.id)
  one_of_taking None taken t at = absurd (no_element t at)
  one_of_taking (Some q) taken t at =
      of_one (λ (u : Taking). IsPermutation (as_runs u.id u.parts) (id_runs m' u.id)) (record { id = q.id; parts = fronts q.parts.items }) taken.all t at

  own_object : (o : Option Plan) → 0 < length (parts_in o) ⊎ (o ≡ None) → IfSome o (IsTakenIn m') → (t : Taking) → Contains (takings_of (id_in o) (parts_in o)) t → IsPermutation (as_runs t.id t.parts) (id_runs m' t.id)
  own_object None some taken t at = absurd (no_element t at)
  own_object (Some p) (inr none) taken t at = absurd (cc)
  own_object (Some p) (inl some) taken t at =
      of_one (λ (u : Taking). IsPermutation (as_runs u.id u.parts) (id_runs m' u.id)) (record { id = p.id; parts = fronts p.parts.items }) taken.all t
      (subst (λ (ts : List Taking). Contains ts t) (one_taking p.id (fronts p.parts.items) some) at)

  pub grown_stepped : IsGrownStepped m m' object dir alone root back
  grown_stepped = record {
    edited = steps_law.edited (rooted_map root m) mid m' a.edited edited;
    geometry = edited.geometry ∙ a.geometry;
    space = record {
      holes = holes_are fit.once;
      own = λ t at.
          ⊎_elim (own_object object fit.object_some object_last t) (one_of_taking dir dir_last t)
          (Contains-append_cases (takings_of (id_in object) (parts_in object)) (taking_of dir) t at);
      others = λ k none.
          (let no = not_taken object fit.object_some dir k none in
          given.others k (λ some. absurd (omega (arith, some))) ∙ ap (unless_gone back k) (a.others k no.0 no.1) ∙ unless_both at_once back k (id_runs m k) fit.once);
    };
    object_taken = object_last;
    dir_taken = dir_last;
    object_first = a.object_first;
  }

-- Both steps were found on the map before; the second was made of the map between.
pub both_grown : (m mid m' : Map) (object dir : Option Plan) (alone : Bool) (root : Option RootPlace) (back : List ℕ) (take give : MapStep) → IsNewMap m → PlansFit m object dir alone back
    → IsStep m (plans_of object dir) (gone_at_once dir alone) (kept_parts dir alone) root take → IsStep m [] back [] None give → HasStepped m mid take → HasStepped mid m' give
    → IsGrownStepped m m' object dir alone root back
both_grown m mid m' object dir alone root back take give is fit takes gives one two =
    let a = first_taken m mid object dir alone root back take is fit takes one in
    let b = second_step m mid m' back give a.edited.is_map gives two in
    grown_stepped m mid m' object dir alone root back is fit a b.0 b.1
