-- What one step leaves of a new map: its runs, and its zones beside them.
use Rattle.std.proofs.Common.{◌≡◌, ◌<◌, ◌≤◌, ◌⊎◌, ◌&&◌, not, inl, inr, ℕ, Bool, true, false, List, [], ◌∷◌, ◌++◌, Option, Some, None, refl, sym, ap, subst, ◌∙◌, arith, get_or-set_other, get_or-set_same}
use Rattle.std.specs.Prelude.{Contains, is_none, is_some, length}
use Rattle.std.specs.List.{find}
use Rattle.std.proofs.lemmas.Bool.{cases_eq, eqb-true}
use Rattle.std.proofs.lemmas.List.Elements.{Contains-append_cases}
use Rattle.std.proofs.lemmas.List.Sorted.{Contains-permutation}
use Rattle.fc_record.specs.declared.Geometry.{Geometry}
use Rattle.fc_zone.specs.declared.RunKind.{RunKind}
use Rattle.fc_zone.specs.declared.RunKind.TheVariants as kinds
use Rattle.fc_newmap.specs.Map.{Map, ZoneRun, has_id, id_runs, sector_of, with_root}
use Rattle.fc_newmap.specs.NewMap.{IsNewMap}
use Rattle.fc_newmap.proofs.HeldLemmas.{geometry_facts}
use Rattle.fc_newmap.proofs.PlaceLemmas.{id_run_in}
use Rattle.fc_image.specs.effects.Steady.{ZoneSteady, has_id_that}
use Rattle.fc_image.proofs.EntriesLemmas.{from_filter, from_map}
use Rattle.fc_changes.proofs.BasicLemmas.{first_in, next_in}
use Rattle.fc_commands.proofs.GrownToldLemmas.{all_pass}
use Rattle.fc_changes.specs.Space.{IsMapEdited}
use Rattle.fc_changes.proofs.StepsLemmas.{ids_same}
use Rattle.fc_plan.specs.declared.plan.Part.{Part}
use Rattle.fc_plan.specs.declared.plan.Plan.{Plan}
use Rattle.fc_plan.specs.Giving.{is_one_of, stays_given}
use Rattle.fc_plan.specs.Parts.{fronts}
use Rattle.fc_plan.specs.Taking.{as_runs, with_id}
use Rattle.fc_runs.specs.Space.{IsOfPart}
use Rattle.fc_writing.specs.declared.ready.MapStep.{MapStep}
use Rattle.fc_writing.specs.declared.ready.MapStep.TheVariants as steps
use Rattle.fc_writing.specs.declared.ready.RootPlace.{RootPlace}
use Rattle.fc_writing.specs.Steps.{AreTaken, HasMoved, HasStepped, rooted_map}
use Rattle.fc_change.specs.Steps.{IsStep}

-- ---- runs

-- the run is a part of one of these plans, as a run of the identifier
abbrev pub IsOfPlan : List Plan → ℕ → ZoneRun → Type 0
IsOfPlan plans id run = (p : Plan) × Contains plans p × IsOfPart (fronts p.parts.items) id run

-- An identifier that doesn't go back, and isn't that of a plan, keeps its runs; and each run that there is was there or is a plan's.
pub record IsRunEdit (m n : Map) (plans : List Plan) (gone : List ℕ) : Type 0 where
  pub stay : (id : ℕ) → is_one_of gone id ≡ false → ((p : Plan) → Contains plans p → p.id ≡ id → ⊥) → id_runs n id ≡ id_runs m id
  pub added : (id : ℕ) (run : ZoneRun) → Contains (id_runs n id) run → Contains (id_runs m id) run ⊎ IsOfPlan plans id run

taken_stay : (m n : Map) (plans : List Plan) → AreTaken m plans n → (id : ℕ) → ((p : Plan) → Contains plans p → p.id ≡ id → ⊥) → id_runs n id ≡ id_runs m id
taken_stay m n [] taken id never = ap (λ (x : Map). id_runs x id) taken
taken_stay m n (p ∷ plans) taken id never =
    taken_stay taken.0 n plans taken.3 id (λ q at. never q (next_in p q plans at)) ∙ taken.2.others id (λ e. never p (first_in p plans) (sym e))

later : (plans : List Plan) (p : Plan) (id : ℕ) (run : ZoneRun) → IsOfPlan plans id run → IsOfPlan (p ∷ plans) id run
later plans p id run is = (is.0, next_in p is.0 plans is.1, is.2)

of_part : (id : ℕ) (parts : List ZoneRun) (run : ZoneRun) → Contains (as_runs id parts) run → IsOfPart parts id run
of_part id parts run at = let q = from_map (with_id id) parts run at in (q.0, q.1, sym q.2)

taken_added : (m n : Map) (plans : List Plan) → AreTaken m plans n → (id : ℕ) (run : ZoneRun) → Contains (id_runs n id) run → Contains (id_runs m id) run ⊎ IsOfPlan plans id run
taken_added m n [] taken id run at = inl (subst (λ (x : Map). Contains (id_runs x id) run) taken at)
taken_added m n (p ∷ plans) taken id run at =
    elim (taken_added taken.0 n plans taken.3 id run at) [
      | inl here ↦ first here (cases_eq id p.id)
      | inr is ↦ inr (later plans p id run is)
    ]
  where
    own : Contains (id_runs taken.0 p.id) run → Contains (id_runs m p.id) run ⊎ IsOfPlan (p ∷ plans) p.id run
    own here = elim (Contains-append_cases (id_runs m p.id) (as_runs p.id (fronts p.parts.items)) run (Contains-permutation (id_runs taken.0 p.id) (id_runs m p.id ++ as_runs p.id (fronts p.parts.items)) run taken.2.gained here)) [
      | inl was ↦ inl was
      | inr part ↦ inr (p, first_in p plans, of_part p.id (fronts p.parts.items) run part)
    ]

    first : Contains (id_runs taken.0 id) run → ((id ≡ p.id) ⊎ (id ≡ p.id → ⊥)) → Contains (id_runs m id) run ⊎ IsOfPlan (p ∷ plans) id run
    first here (inl same) = subst (λ (k : ℕ). Contains (id_runs m k) run ⊎ IsOfPlan (p ∷ plans) k run) (sym same) (own (subst (λ (k : ℕ). Contains (id_runs taken.0 k) run) same here))
    first here (inr other) = inl (subst (λ (rs : List ZoneRun). Contains rs run) (taken.2.others id other) here)

-- a run of an identifier that doesn't go back
stays_run : (gone : List ℕ) (kept : List ZoneRun) (id : ℕ) (k : RunKind) (b : Bool) → is_one_of gone id ≡ false → has_id id k ≡ true → not (has_id_that (is_one_of gone) k && b) ≡ true
stays_run gone kept id kinds.Hole b never has = absurd (cc)
stays_run gone kept id (kinds.Id other) b never has = ap (λ (c : Bool). not (c && b)) (ap (is_one_of gone) (eqb-true other id has) ∙ never)

pub run_edit : (m n : Map) (plans : List Plan) (gone : List ℕ) (kept : List Part) → 1 ≤ m.geometry.zones → HasMoved m n plans gone kept → IsRunEdit m n plans gone
run_edit m n plans gone kept some moved = record {
  stay = λ id never out.
      moved.of_ids id
      ∙ all_pass (stays_given gone (fronts kept)) (id_runs moved.taken id)
      (λ run at. stays_run gone (fronts kept) id run.1.kind (is_none (find _ (fronts kept))) never (id_run_in moved.taken id run (subst (λ (g : Geometry). 1 ≤ g.zones) (sym moved.geometry) some) at).1)
      ∙ taken_stay moved.first moved.taken plans moved.takes id out ∙ ids_same m moved.first moved.same_runs id;
  added = λ id run at.
      (elim (taken_added moved.first moved.taken plans moved.takes id run
      (from_filter (stays_given gone (fronts kept)) (id_runs moved.taken id) run (subst (λ (rs : List ZoneRun). Contains rs run) (moved.of_ids id) at))) [
        | inl was ↦ inl (subst (λ (rs : List ZoneRun). Contains rs run) (ids_same m moved.first moved.same_runs id) was)
        | inr is ↦ inr is
      ]);
}

same_edit : (m : Map) (plans : List Plan) (gone : List ℕ) → IsRunEdit m m plans gone
same_edit m plans gone = record { stay = λ id never out. refl; added = λ id run at. inl at }

-- ---- zones

steady_same : (g : Geometry) (z : ℕ) (sector : List ℕ) → ZoneSteady g z sector sector
steady_same g z sector = record { header = refl; behind = refl }

-- No byte has changed but runs, FreeLink and the checks, and the root's place if there is another.
abbrev pub StaysZone : Option RootPlace → Map → Map → ℕ → Type 0
StaysZone root m n z =
    ZoneSteady m.geometry z (sector_of m z) (sector_of n z)
    ⊎ ((z ≡ 0) × (is_some root ≡ true) × ((address len : ℕ) × ZoneSteady m.geometry z (with_root (sector_of m z) address len) (sector_of n z)))

stays_zone : (root : Option RootPlace) (m n : Map) → IsNewMap m → IsMapEdited (rooted_map root m) n → (z : ℕ) → z < m.geometry.zones → StaysZone root m n z
stays_zone None m n is edited z low = inl (edited.zones z low)
stays_zone (Some p) m n is edited z low = by (cases_eq z 0)
  where
    now : List ℕ
    now = with_root (sector_of m 0) p.address p.len

    long : 0 < length m.zones
    long = let all = is.all in let some = (geometry_facts m.geometry is.of_record).zones in omega (arith, all, some)

    by : ((z ≡ 0) ⊎ (z ≡ 0 → ⊥)) → StaysZone (Some p) m n z
    by (inl zero) = inr (
      zero,
      refl,
      (
        p.address,
        p.len,
        subst (λ (y : ℕ). ZoneSteady m.geometry y (with_root (sector_of m y) p.address p.len) (sector_of n y)) (sym zero)
            (subst (λ (x : List ℕ). ZoneSteady m.geometry 0 x (sector_of n 0)) (get_or-set_same m.zones 0 (with_root (sector_of m 0) p.address p.len) [] long)
            (edited.zones 0 (subst (λ (y : ℕ). y < m.geometry.zones) zero low))),
      ),
    )
    by (inr other) = inl (subst (λ (x : List ℕ). ZoneSteady m.geometry z x (sector_of n z)) (get_or-set_other m.zones 0 z (with_root (sector_of m 0) p.address p.len) [] other) (edited.zones z low))

-- ---- a step

pub record IsStepEdit (m n : Map) (plans : List Plan) (gone : List ℕ) (root : Option RootPlace) : Type 0 where
  pub runs : IsRunEdit m n plans gone
  pub is_map : IsNewMap n
  pub geometry : n.geometry ≡ m.geometry
  pub zones : (z : ℕ) → z < m.geometry.zones → StaysZone root m n z

rooted_geometry : (root : Option RootPlace) (m : Map) → (rooted_map root m).geometry ≡ m.geometry
rooted_geometry None m = refl
rooted_geometry (Some p) m = refl

-- A step that was found on one map is made of another.
pub step_edit : (w m n : Map) (plans : List Plan) (gone : List ℕ) (kept : List Part) (root : Option RootPlace) (step : MapStep) → IsNewMap m → IsStep w plans gone kept root step → HasStepped m n step
    → IsStepEdit m n plans gone root
step_edit w m n plans gone kept root (steps.New s) is_map is done =
    let edited : IsMapEdited (rooted_map root m) n = subst (λ (o : Option RootPlace). IsMapEdited (rooted_map o m) n) is.root_is done.edited in
    let moved : HasMoved m n plans gone kept =
    subst (λ (ks : List Part). HasMoved m n plans gone ks) is.kept_are
    (subst (λ (gs : List ℕ). HasMoved m n plans gs s.kept.items) is.gone_are (subst (λ (ps : List Plan). HasMoved m n ps s.gone.items s.kept.items) is.plans_are done.moved)) in
    record {
      runs = run_edit m n plans gone kept (geometry_facts m.geometry is_map.of_record).zones moved;
      is_map = edited.is_map;
      geometry = edited.geometry ∙ rooted_geometry root m;
      zones = stays_zone root m n is_map edited;
    }
step_edit w m n plans gone kept root (steps.Old space) is_map is done = absurd is
step_edit w m n plans gone kept root steps.Nothing is_map is done =
    subst (λ (x : Map). IsStepEdit m x plans gone root) (sym done)
    (record { runs = same_edit m plans gone; is_map = is_map; geometry = refl; zones = λ z low. inl (steady_same m.geometry z (sector_of m z)) })
