-- The map that counts while a job is under way on a new map: it is of the command's own.
use Rattle.std.proofs.Common.{◌≡◌, ◌<◌, ◌≤◌, ◌⊎◌, ◌==◌, ◌||◌, ◌&&◌, not, inl, inr, ℕ, zero, suc, ◌-◌, Bool, true, false, cond, List, [], ◌∷◌, ◌++◌, filter, length, Option, Some, None, refl, sym, ap, subst, ◌∙◌, arith, eq-eqb}
use Rattle.std.specs.Prelude.{Contains, is_some, nat_lt}
use Rattle.std.specs.List.{list_any, range_with_len}
use Rattle.std.specs.FinMap.{get}
use Rattle.std.specs.Option.{option_and_then, option_map_or, option_to_list}
use Rattle.std.proofs.lemmas.Bool.{and_parts, eqb-true, false_from_ne_true as unless, ltb-true, not-true}
use Rattle.std.proofs.lemmas.List.Elements.{Contains-append_cases, Contains-append_left, Contains-append_right}
use Rattle.fc_record.specs.declared.Geometry.{Geometry}
use Rattle.fc_record.specs.Record.{id_limit}
use Rattle.fc_zone.specs.declared.Run.{Run}
use Rattle.fc_zone.specs.declared.RunKind.{RunKind}
use Rattle.fc_zone.specs.declared.RunKind.TheVariants as kinds
use Rattle.fc_newmap.specs.Map.{Map, ZoneRun, all_runs, has_id, is_used, runs_of, sector_of, with_root, zone_numbers}
use Rattle.fc_newmap.specs.NewMap.{IsNewMap}
use Rattle.fc_newmap.proofs.HeldLemmas.{geometry_facts}
use Rattle.fc_newmap.proofs.PlaceLemmas.{in_zone}
use Rattle.fc_newmap.specs.Copies.{Chooses}
use Rattle.fc_model.specs.Command.{Command}
use Rattle.fc_image.specs.Layout.{Layout, id_of, is_among}
use Rattle.fc_image.specs.Objects.{has_sectors}
use Rattle.fc_image.specs.Opening.{Opened}
use Rattle.fc_image.specs.Sound.{AreSound}
use Rattle.fc_image.specs.effects.Sharing.{new_ids}
use Rattle.fc_image.specs.effects.Short.{Growth as GrownTo, growth_in}
use Rattle.fc_image.specs.effects.Steady.{ZoneSteady, has_id_that}
use Rattle.fc_image.proofs.EntriesLemmas.{in_mapped}
use Rattle.fc_changes.proofs.BasicLemmas.{any_in, in_any, next_in}
use Rattle.fc_placing.specs.Leaving.{has_other}
use Rattle.fc_placing.specs.Places.{shared_id}
use Rattle.fc_placing.specs.declared.placing.Placing.{Placing}
use Rattle.fc_placing.specs.declared.placing.Placing.TheVariants as placings
use Rattle.fc_plan.specs.declared.plan.Part.{Part}
use Rattle.fc_plan.specs.declared.plan.Plan.{Plan}
use Rattle.fc_plan.specs.Applied.{parts_in}
use Rattle.fc_plan.specs.Giving.{has_run_of, is_one_of}
use Rattle.fc_plan.specs.Parts.{fronts, has_part}
use Rattle.fc_tree.specs.Counts.{address_in}
use Rattle.fc_tree.specs.Parts.{ArePartsOf, Parts}
use Rattle.fc_tree.specs.declared.node.Node.{Node}
use Rattle.fc_tree.proofs.MemberLemmas.{contains_here, no_element}
use Rattle.fc_tree.proofs.WalkedLemmas.{same_some}
use Rattle.fc_writing.specs.declared.ready.MapStep.{MapStep}
use Rattle.fc_writing.specs.declared.ready.MapStep.TheVariants as steps
use Rattle.fc_writing.specs.declared.ready.RootPlace.{RootPlace}
use Rattle.fc_writing.specs.Steps.{HasStepped, is_changed, is_wide}
use Rattle.fc_change.specs.declared.job.Growth.{Growth}
use Rattle.fc_change.specs.declared.job.Wants.{Wants}
use Rattle.fc_change.specs.declared.spaces.GrownPlace.{GrownPlace}
use Rattle.fc_change.specs.declared.spaces.Spaces.{Spaces}
use Rattle.fc_change.specs.GrownSpace.{IsGrown, IsIdFor, freed, gone_at_once, kept_parts, left_by_growth, left_if, plans_of, root_of}
use Rattle.fc_change.specs.Places.{AreLeft, ArePlaced, IsPlacingFor, plan_in}
use Rattle.fc_change.specs.Shortage.{is_alone_by, is_grown_alone}
use Rattle.fc_change.specs.Steps.{IsStep, with_zone_0, zones_of}
use Rattle.fc_commands.specs.Promises.{CountsInSteps, IsInSteps}
use Rattle.fc_edits.proofs.lemmas.ShapeLemmas.{only}
use Rattle.fc_runs.specs.Space.{IsOfPart, IsOwnMap, KeepsZone, may_change, may_go_back}
use Rattle.fc_runs.proofs.SpaceLemmas.{own_same}
use Rattle.fc_shell.proofs.BackLemmas as back
use Rattle.fc_shell.proofs.NeedLemmas.{IsNeed}
use Rattle.fc_shell.proofs.RunLemmas.{IsOfPlan, IsStepEdit, StaysZone, step_edit}

-- ---- one step, and another after it

-- What a step takes is unused, or may go back; its parts are among these; and what goes back may.
pub record IsAllowed (m : Map) (v : Opened) (c : Command) (parts : List ZoneRun) (plans : List Plan) (gone : List ℕ) : Type 0 where
  pub fresh : (p : Plan) → Contains plans p → (is_used m p.id ≡ false) ⊎ (may_go_back v c p.id ≡ true)
  pub inside : (p : Plan) → Contains plans p → (q : ZoneRun) → Contains (fronts p.parts.items) q → Contains parts q
  pub goes : (id : ℕ) → is_used m id ≡ true → is_one_of gone id ≡ true → may_go_back v c id ≡ true

module _ (m : Map) (v : Opened) (c : Command) (parts : List ZoneRun) where
  not_gone : (plans : List Plan) (gone : List ℕ) → IsAllowed m v c parts plans gone → (id : ℕ) → is_used m id ≡ true → may_go_back v c id ≡ false → is_one_of gone id ≡ false
  not_gone plans gone allowed id used stays = unless (is_one_of gone id) (λ e. back.true_false (may_go_back v c id) (allowed.goes id used e) stays)

  no_plan : (plans : List Plan) (gone : List ℕ) → IsAllowed m v c parts plans gone → (id : ℕ) → is_used m id ≡ true → may_go_back v c id ≡ false → (p : Plan) → Contains plans p → p.id ≡ id → ⊥
  no_plan plans gone allowed id used stays p at same =
      elim (allowed.fresh p at) [
        | inl unused ↦ back.true_false (is_used m id) used (subst (λ (k : ℕ). is_used m k ≡ false) same unused)
        | inr goes ↦ back.true_false (may_go_back v c id) (subst (λ (k : ℕ). may_go_back v c k ≡ true) same goes) stays
      ]

  part_of : (plans : List Plan) (gone : List ℕ) → IsAllowed m v c parts plans gone → (id : ℕ) (run : ZoneRun) → IsOfPlan plans id run → IsOfPart parts id run
  part_of plans gone allowed id run is = (is.2.0, allowed.inside is.0 is.1 is.2.0 is.2.1, is.2.2)

  keeps_zone : (root : Option RootPlace) → (is_some root ≡ true → is_some (growth_in v c) ≡ true) → (n : Map) (z : ℕ) → StaysZone root m n z → KeepsZone v c m n z
  keeps_zone root grows n z (inl same) = inl same
  keeps_zone root grows n z (inr other) = inr (other.0, grows other.1, other.2)

  -- after the first step,
  pub own_first : (n : Map) (plans : List Plan) (gone : List ℕ) (root : Option RootPlace) → IsAllowed m v c parts plans gone → (is_some root ≡ true → is_some (growth_in v c) ≡ true) → IsStepEdit m n plans gone root
      → IsOwnMap m v c parts n
  own_first n plans gone root allowed grows edit = record {
    geometry = edit.geometry;
    right = edit.is_map.right;
    stay = λ id used stays. edit.runs.stay id (not_gone plans gone allowed id used stays) (no_plan plans gone allowed id used stays);
    added = λ id run at.
        (elim (edit.runs.added id run at) [
          | inl was ↦ inl was
          | inr is ↦ inr (part_of plans gone allowed id run is)
        ]);
    zones = λ z low. keeps_zone root grows n z (edit.zones z low);
  }

  steady_then : (g : Geometry) (z : ℕ) (a b d : List ℕ) → ZoneSteady g z a b → ZoneSteady g z b d → ZoneSteady g z a d
  steady_then g z a b d first second = record { header = second.header ∙ first.header; behind = second.behind ∙ first.behind }

  -- and after the second.
  pub own_second : (mid n : Map) (gone : List ℕ) → IsOwnMap m v c parts mid → IsAllowed m v c parts [] gone → IsStepEdit mid n [] gone None → IsOwnMap m v c parts n
  own_second mid n gone own allowed edit = record {
    geometry = edit.geometry ∙ own.geometry;
    right = edit.is_map.right;
    stay = λ id used stays. edit.runs.stay id (not_gone [] gone allowed id used stays) (λ p at. absurd (no_element p at)) ∙ own.stay id used stays;
    added = λ id run at.
        (elim (edit.runs.added id run at) [
          | inl was ↦ own.added id run was
          | inr is ↦ absurd (no_element is.0 is.1)
        ]);
    zones = λ z low. then z (own.zones z low) (second z (edit.zones z (subst (λ (g : Geometry). z < g.zones) (sym own.geometry) low)));
  }
    where
      second : (z : ℕ) → StaysZone None mid n z → ZoneSteady m.geometry z (sector_of mid z) (sector_of n z)
      second z (inl same) = subst (λ (g : Geometry). ZoneSteady g z (sector_of mid z) (sector_of n z)) own.geometry same
      second z (inr other) = absurd (let never = other.1 in cc)

      then : (z : ℕ) → KeepsZone v c m mid z → ZoneSteady m.geometry z (sector_of mid z) (sector_of n z) → KeepsZone v c m n z
      then z (inl first) more = inl (steady_then m.geometry z (sector_of m z) (sector_of mid z) (sector_of n z) first more)
      then z (inr first) more =
          inr (first.0, first.1, (first.2.0, first.2.1, steady_then m.geometry z (with_root (sector_of m z) first.2.0 first.2.1) (sector_of mid z) (sector_of n z) first.2.2 more))

-- ---- the steps of a job

module _ (h : Parts) (v : Opened) (c : Command) (m : Map) (w : Wants) (s : Spaces) (placed_as : ArePlaced m h w s) (need : IsNeed h v c w) (is_map : IsNewMap m) (at : v.layout ≡ Layout.New m)
    (sound : AreSound v.layout v.listings) (viewed : ArePartsOf h v) (some : (g : Growth) → (e : w.grows ≡ Some g) → has_sectors (need.growth g e).0.object ≡ true) where
  abbrev object : Option Plan
  object = plan_in placed_as.placing

  abbrev parts : List ZoneRun
  parts = parts_in (plan_in placed_as.placing) ++ parts_in placed_as.dir

  abbrev alone : Bool
  alone = is_grown_alone h w.grows

  -- the two plans
  which : (q d : Option Plan) (p : Plan) → Contains (plans_of q d) p → (q ≡ Some p) ⊎ (d ≡ Some p)
  which None None p in_p = absurd (no_element p in_p)
  which (Some x) None p in_p = inl (ap (λ (y : Plan). let o : Option Plan = Some y in o) (only x p in_p))
  which None (Some x) p in_p = inr (ap (λ (y : Plan). let o : Option Plan = Some y in o) (only x p in_p))
  which (Some x) (Some y) p in_p = elim (Contains-append_cases (x ∷ []) (y ∷ []) p in_p) [
    | inl first ↦ inl (ap (λ (z : Plan). let o : Option Plan = Some z in o) (only x p first))
    | inr second ↦ inr (ap (λ (z : Plan). let o : Option Plan = Some z in o) (only y p second))
  ]

  inside : (p : Plan) → Contains (plans_of (plan_in placed_as.placing) placed_as.dir) p → (q : ZoneRun) → Contains (fronts p.parts.items) q → Contains (parts_in (plan_in placed_as.placing) ++ parts_in placed_as.dir) q
  inside p in_p q in_q =
      elim (which (plan_in placed_as.placing) placed_as.dir p in_p) [
        | inl first ↦ Contains-append_left (parts_in object) (parts_in placed_as.dir) q (subst (λ (o : Option Plan). Contains (parts_in o) q) (sym first) in_q)
        | inr second ↦ Contains-append_right (parts_in object) (parts_in placed_as.dir) q (subst (λ (o : Option Plan). Contains (parts_in o) q) (sym second) in_q)
      ]

  object_fresh : (q : Placing) (p : Plan) → IsPlacingFor m h.owners w q → plan_in q ≡ Some p → is_used m p.id ≡ false
  object_fresh placings.Nowhere p is e = absurd (cc)
  object_fresh (placings.Shared share) p is e = absurd (cc)
  object_fresh (placings.New plan) p is e = subst (λ (x : Plan). is_used m x.id ≡ false) (same plan p e) is.1.unused
    where
      same : (x y : Plan) → (let o : Option Plan = Some x in o) ≡ Some y → x ≡ y
      same x y e = cc

  -- an identifier that is new has no run
  new_unused : (id : ℕ) → Contains (new_ids m) id → is_used m id ≡ false
  new_unused id in_new = not-true (is_used m id) (passes (λ (k : ℕ). not (is_used m k)) (range_with_len 3 (id_limit m.geometry - 3)) id in_new)
    where
      passes : (t : ℕ → Bool) (xs : List ℕ) (x : ℕ) → Contains (filter t xs) x → t x ≡ true
      passes t [] x in_x = absurd (no_element x in_x)
      passes t (y ∷ xs) x in_x = by (t y) refl in_x (passes t xs x)
        where
          by : (b : Bool) → t y ≡ b → Contains (cond b (y ∷ filter t xs) (filter t xs)) x → (Contains (filter t xs) x → t x ≡ true) → t x ≡ true
          by true e in_b more = elim (Contains-append_cases (y ∷ []) (filter t xs) x in_b) [
            | inl first ↦ subst (λ (z : ℕ). t z ≡ true) (only y x first) e
            | inr rest ↦ more rest
          ]
          by false e in_b more = more in_b

  -- the address of the directory that grows
  address_is : (g : Growth) (e : w.grows ≡ Some g) → address_in h.nodes g.node ≡ (need.growth g e).0.object.entry.address
  address_is g e =
      let l = (need.growth g e).0 in
      let has = viewed.nodes.each l.object l.there in
      ap (λ (x : Option Node). option_map_or (λ (n : Node). n.entry.address) x 0) (ap (get h.nodes) (same_some g.node has.number (sym l.number ∙ has.at_path)) ∙ has.is)

  alone_back : (g : Growth) (e : w.grows ≡ Some g) → is_alone_by h.owners g.node (address_in h.nodes g.node) ≡ true → may_go_back v c (id_of (address_in h.nodes g.node)) ≡ true
  alone_back g e is =
      let l = (need.growth g e).0 in
      let own = subst (λ (a : ℕ). is_alone_by h.owners g.node a ≡ true) (address_is g e) is in
      let first = (and_parts (not (id_of l.object.entry.address == 2) && not (has_other h.owners g.node (id_of l.object.entry.address))) _ own).0 in
      let both = and_parts (not (id_of l.object.entry.address == 2)) (not (has_other h.owners g.node (id_of l.object.entry.address))) first in
      subst (λ (a : ℕ). may_go_back v c (id_of a) ≡ true) (sym (address_is g e))
      (back.alone_back h v c sound viewed g.node l (some g e) (not-true (id_of l.object.entry.address == 2) both.0) (not-true (has_other h.owners g.node (id_of l.object.entry.address)) both.1))

  id_fresh : (b : Bool) (address id : ℕ) (q : Option Plan) → IsIdFor m b address q id → (is_used m id ≡ false) ⊎ ((b ≡ true) × (id ≡ id_of address))
  id_fresh true address id q is = inr (refl, is)
  id_fresh false address id q is = inl (new_unused id is.0)

  -- the directory's plan is of a new identifier, or of its own alone
  dir_fresh : (g : Option Growth) → w.grows ≡ g → (d : Option Plan) (place : Option GrownPlace) → IsGrown m h (plan_in placed_as.placing) g d place → (p : Plan) → d ≡ Some p
      → (is_used m p.id ≡ false) ⊎ (may_go_back v c p.id ≡ true)
  dir_fresh None e d place is p same = absurd (let none = sym same ∙ is.0 in cc)
  dir_fresh (Some g) e None place is p same = absurd (cc)
  dir_fresh (Some g) e (Some x) None is p same = absurd is
  dir_fresh (Some g) e (Some x) (Some q) is p same =
      subst (λ (y : Plan). (is_used m y.id ≡ false) ⊎ (may_go_back v c y.id ≡ true)) (eq x p same)
      (elim (id_fresh (is_alone_by h.owners g.node (address_in h.nodes g.node)) (address_in h.nodes g.node) x.id (plan_in placed_as.placing) is.space.id) [
        | inl unused ↦ inl unused
        | inr own ↦ inr (subst (λ (k : ℕ). may_go_back v c k ≡ true) (sym own.1) (alone_back g e own.0))
      ])
    where
      eq : (x y : Plan) → (let o : Option Plan = Some x in o) ≡ Some y → x ≡ y
      eq x y e = cc

  fresh : (p : Plan) → Contains (plans_of (plan_in placed_as.placing) placed_as.dir) p → (is_used m p.id ≡ false) ⊎ (may_go_back v c p.id ≡ true)
  fresh p in_p = elim (which (plan_in placed_as.placing) placed_as.dir p in_p) [
    | inl first ↦ inl (object_fresh placed_as.placing p placed_as.is first)
    | inr second ↦ dir_fresh w.grows refl placed_as.dir s.grown placed_as.grown p second
  ]

  -- ---- what goes back

  goes_at_once : (d : Option Plan) (b : Bool) → placed_as.dir ≡ d → (id : ℕ) → is_used m id ≡ true → is_one_of (gone_at_once d b) id ≡ true → may_go_back v c id ≡ true
  goes_at_once None b e id used one = absurd (cc)
  goes_at_once (Some p) false e id used one = absurd (cc)
  goes_at_once (Some p) true e id used one =
      let same : p.id ≡ id = eqb-true p.id id (first (p.id == id) one) in
      elim (dir_fresh w.grows refl placed_as.dir s.grown placed_as.grown p e) [
        | inl unused ↦ absurd (back.true_false (is_used m id) used (subst (λ (k : ℕ). is_used m k ≡ false) same unused))
        | inr goes ↦ subst (λ (k : ℕ). may_go_back v c k ≡ true) same goes
      ]
    where
      first : (x : Bool) → (x || false) ≡ true → x ≡ true
      first true h = refl
      first false h = absurd (cc)

  of_option : (o : Option ℕ) (id : ℕ) → is_one_of (option_to_list o) id ≡ true → o ≡ Some id
  of_option None id one = absurd (cc)
  of_option (Some k) id one = ap (λ (n : ℕ). let o : Option ℕ = Some n in o) (eqb-true k id (first (k == id) one))
    where
      first : (x : Bool) → (x || false) ≡ true → x ≡ true
      first true h = refl
      first false h = absurd (cc)

  freed_goes : (d : Option Plan) (b : Bool) (id : ℕ) → left_if d b h.owners w ≡ Some id → may_go_back v c id ≡ true
  freed_goes None b id is = absurd (cc)
  freed_goes (Some p) true id is = absurd (cc)
  freed_goes (Some p) false id is = by w.grows refl is
    where
      by : (g : Option Growth) → w.grows ≡ g → option_and_then (λ (x : Growth). left_by_growth h.owners x.node w.copied) g ≡ Some id → may_go_back v c id ≡ true
      by None e left = absurd (cc)
      by (Some g) e left = back.freed_back h v c sound viewed g.node (need.growth g e).0 w.copied need.copied id left

  left_goes : (n : Option ℕ) → w.goes ≡ n → (gone : List ℕ) → AreLeft h.owners n (shared_id placed_as.placing) gone → (id : ℕ) → is_used m id ≡ true → is_one_of gone id ≡ true → may_go_back v c id ≡ true
  left_goes None e gone left id used one = absurd (back.true_false (is_one_of gone id) one (ap (λ (g : List ℕ). is_one_of g id) left))
  left_goes (Some n) e gone left id used one = back.gone_back h v c sound viewed m at n (need.goes n e).0 (shared_id placed_as.placing) gone left.0 id used one

  one_either : (xs ys : List ℕ) (id : ℕ) → is_one_of (xs ++ ys) id ≡ true → (is_one_of xs id ≡ true) ⊎ (is_one_of ys id ≡ true)
  one_either [] ys id one = inr one
  one_either (x ∷ xs) ys id one = by (x == id) one (one_either xs ys id)
    where
      by : (b : Bool) → (b || is_one_of (xs ++ ys) id) ≡ true → (is_one_of (xs ++ ys) id ≡ true → (is_one_of xs id ≡ true) ⊎ (is_one_of ys id ≡ true)) → ((b || is_one_of xs id) ≡ true) ⊎ (is_one_of ys id ≡ true)
      by true h more = inl refl
      by false h more = more h

  goes_at_last : (id : ℕ) → is_used m id ≡ true → is_one_of (freed h w placed_as.dir ++ placed_as.gone) id ≡ true → may_go_back v c id ≡ true
  goes_at_last id used one =
      elim (one_either (freed h w placed_as.dir) placed_as.gone id one) [
        | inl first ↦ freed_goes placed_as.dir (is_grown_alone h w.grows) id (of_option (left_if placed_as.dir (is_grown_alone h w.grows) h.owners w) id first)
        | inr second ↦ left_goes w.goes refl placed_as.gone placed_as.left id used second
      ]

  -- another root is that of a directory that grows
  root_grows : is_some (root_of s.grown) ≡ true → is_some (growth_in v c) ≡ true
  root_grows = by w.grows refl s.grown placed_as.grown
    where
      by : (g : Option Growth) → w.grows ≡ g → (place : Option GrownPlace) → IsGrown m h (plan_in placed_as.placing) g placed_as.dir place → is_some (root_of place) ≡ true → is_some (growth_in v c) ≡ true
      by g e None is some = absurd (cc)
      by None e (Some q) is some = absurd (let none = is.1 in cc)
      by (Some g) e (Some q) is some = ap (λ (o : Option GrownTo). is_some o) (need.growth g e).1

  -- ---- the map

  first_allowed : IsAllowed m v c parts (plans_of (plan_in placed_as.placing) placed_as.dir) (gone_at_once placed_as.dir (is_grown_alone h w.grows))
  first_allowed = record { fresh = fresh; inside = inside; goes = goes_at_once placed_as.dir (is_grown_alone h w.grows) refl }

  last_allowed : IsAllowed m v c parts [] (freed h w placed_as.dir ++ placed_as.gone)
  last_allowed = record { fresh = λ p in_p. absurd (no_element p in_p); inside = λ p in_p q in_q. absurd (no_element p in_p); goes = goes_at_last }

  taken : (n : Map) → HasStepped m n s.take → IsOwnMap m v c (parts_in (plan_in placed_as.placing) ++ parts_in placed_as.dir) n × IsNewMap n
  taken n done =
      let edit = step_edit m m n (plans_of (plan_in placed_as.placing) placed_as.dir) (gone_at_once placed_as.dir (is_grown_alone h w.grows)) (kept_parts placed_as.dir (is_grown_alone h w.grows)) (root_of s.grown) s.take is_map placed_as.take done in
      (own_first m v c parts n (plans_of (plan_in placed_as.placing) placed_as.dir) (gone_at_once placed_as.dir (is_grown_alone h w.grows)) (root_of s.grown) first_allowed root_grows edit, edit.is_map)

  own : (n : Map) → IsInSteps m s.take s.give n → IsOwnMap m v c (parts_in (plan_in placed_as.placing) ++ parts_in placed_as.dir) n
  own n (inl same) = subst (IsOwnMap m v c parts) (sym same) (own_same m v c parts is_map.right)
  own n (inr (inl done)) = (taken n done).0
  own n (inr (inr both)) =
      let first = taken both.0 both.1 in
      own_second m v c parts both.0 n (freed h w placed_as.dir ++ placed_as.gone) first.0 last_allowed
      (step_edit m both.0 n [] (freed h w placed_as.dir ++ placed_as.gone) [] None s.give first.1 placed_as.give both.2)

  -- ---- how many zones may change

  used_here : (z : ℕ) → is_among (zone_numbers m.geometry) z ≡ true → (run : Run) → Contains (runs_of m z) run → (id : ℕ) → has_id id run.kind ≡ true → is_used m id ≡ true
  used_here z low run in_z id has = any_in (λ (p : ZoneRun). has_id id p.1.kind) (all_runs m) (z, run) (in_zone m (zone_numbers m.geometry) (z, run) low (in_mapped (λ (r : Run). let p : ZoneRun = (z, r) in p) (runs_of m z) run in_z)) has

  has_run : (gone : List ℕ) → ((id : ℕ) → is_used m id ≡ true → is_one_of gone id ≡ true → may_go_back v c id ≡ true) → (z : ℕ) → is_among (zone_numbers m.geometry) z ≡ true → has_run_of gone (runs_of m z) ≡ true
      → list_any (λ (run : Run). has_id_that (may_go_back v c) run.kind) (runs_of m z) ≡ true
  has_run gone goes z low has =
      let r = in_any (λ (run : Run). has_id_that (is_one_of gone) run.kind) (runs_of m z) has in
      any_in (λ (run : Run). has_id_that (may_go_back v c) run.kind) (runs_of m z) r.0 r.1 (by r.0.kind r.2 (λ id e. used_here z low r.0 r.1 id e))
    where
      by : (k : RunKind) → has_id_that (is_one_of gone) k ≡ true → ((id : ℕ) → has_id id k ≡ true → is_used m id ≡ true) → has_id_that (may_go_back v c) k ≡ true
      by kinds.Hole e used = absurd (cc)
      by (kinds.Id id) e used = goes id (used id (eq-eqb id id refl)) e

  changes : (plans : List Plan) (gone : List ℕ) → IsAllowed m v c parts plans gone → (z : ℕ) → is_among (zone_numbers m.geometry) z ≡ true → is_changed m plans gone z ≡ true → may_change m v c parts z ≡ true
  changes plans gone allowed z low is = by (list_any (λ (p : Plan). has_part (fronts p.parts.items) z) plans) refl is
    where
      either : (a b d : Bool) → b ≡ true → (a || b || d) ≡ true
      either true b d e = refl
      either false true d e = refl
      either false false d e = absurd (cc)

      by : (b : Bool) → list_any (λ (p : Plan). has_part (fronts p.parts.items) z) plans ≡ b → (b || has_run_of gone (runs_of m z)) ≡ true → may_change m v c parts z ≡ true
      by true e f =
          let p = in_any (λ (p : Plan). has_part (fronts p.parts.items) z) plans e in
          let q = in_any (λ (r : ZoneRun). r.0 == z) (fronts p.0.parts.items) p.2 in
          ap (λ (b : Bool). b || list_any (λ (run : Run). has_id_that (may_go_back v c) run.kind) (runs_of m z) || ((z == 0) && is_some (growth_in v c)))
          (any_in (λ (r : ZoneRun). r.0 == z) parts q.0 (allowed.inside p.0 p.1 q.0 q.1) q.2)
      by false e f =
          either (list_any (λ (r : ZoneRun). r.0 == z) parts) (list_any (λ (run : Run). has_id_that (may_go_back v c) run.kind) (runs_of m z)) ((z == 0) && is_some (growth_in v c)) (has_run gone allowed.goes z low f)

  fewer : (t u : ℕ → Bool) (zs : List ℕ) → ((z : ℕ) → Contains zs z → t z ≡ true → u z ≡ true) → length (filter t zs) ≤ length (filter u zs)
  fewer t u [] each = omega arith
  fewer t u (z ∷ zs) each = by (t z) (u z) (each z (contains_here z zs)) (fewer t u zs (λ y in_y. each y (next_in z y zs in_y)))
    where
      by : (a b : Bool) → (a ≡ true → b ≡ true) → length (filter t zs) ≤ length (filter u zs) → length (cond a (z ∷ filter t zs) (filter t zs)) ≤ length (cond b (z ∷ filter u zs) (filter u zs))
      by true true e less = omega (arith, less)
      by true false e less = absurd (let no = e refl in cc)
      by false true e less = omega (arith, less)
      by false false e less = less

  -- so many zones are listed at most
  few_listed : (plans : List Plan) (gone : List ℕ) (root : Option RootPlace) → IsAllowed m v c parts plans gone → (is_some root ≡ true → is_some (growth_in v c) ≡ true)
      → length (zones_of m plans gone root) ≤ length (filter (may_change m v c (parts_in (plan_in placed_as.placing) ++ parts_in placed_as.dir)) (zone_numbers m.geometry))
  few_listed plans gone None allowed grows =
      fewer (is_changed m plans gone) (may_change m v c parts) (zone_numbers m.geometry) (λ z in_z is. changes plans gone allowed z (any_in (λ (t : ℕ). t == z) (zone_numbers m.geometry) z in_z (eq-eqb z z refl)) is)
  few_listed plans gone (Some p) allowed grows = by m.geometry.zones refl
    where
      more : (xs ys : List ℕ) → length (with_zone_0 (filter (is_changed m plans gone) (0 ∷ xs))) ≤ suc (length (filter (is_changed m plans gone) xs))
      more xs ys = then (is_changed m plans gone 0)
        where
          plain : (zs : List ℕ) → length (with_zone_0 zs) ≤ suc (length zs)
          plain [] = omega arith
          plain (z ∷ zs) = in_cond (z == 0)
            where
              in_cond : (b : Bool) → length (let l : List ℕ = cond b (z ∷ zs) (0 ∷ z ∷ zs) in l) ≤ suc (suc (length zs))
              in_cond true = omega arith
              in_cond false = omega arith

          then : (b : Bool) → length (with_zone_0 (cond b (0 ∷ filter (is_changed m plans gone) xs) (filter (is_changed m plans gone) xs))) ≤ suc (length (filter (is_changed m plans gone) xs))
          then true = omega arith
          then false = plain (filter (is_changed m plans gone) xs)

      zero_may : may_change m v c parts 0 ≡ true
      zero_may = last (list_any (λ (r : ZoneRun). r.0 == 0) parts) (list_any (λ (run : Run). has_id_that (may_go_back v c) run.kind) (runs_of m 0)) (is_some (growth_in v c)) (grows refl)
        where
          last : (a b d : Bool) → d ≡ true → (a || b || (true && d)) ≡ true
          last true b d e = refl
          last false true d e = refl
          last false false d e = e

      by : (k : ℕ) → m.geometry.zones ≡ k → length (with_zone_0 (filter (is_changed m plans gone) (zone_numbers m.geometry))) ≤ length (filter (may_change m v c parts) (zone_numbers m.geometry))
      by zero none = absurd (let some_zone = (geometry_facts m.geometry is_map.of_record).zones in omega (arith, some_zone, none))
      by (suc k) e =
          let rest : List ℕ = range_with_len 1 k in
          let is : zone_numbers m.geometry ≡ 0 ∷ range_with_len 1 k = ap (range_with_len 0) e in
          let less = fewer (is_changed m plans gone) (may_change m v c parts) rest
          (λ z in_z c_z. changes plans gone allowed z (any_in (λ (t : ℕ). t == z) (zone_numbers m.geometry) z (subst (λ (zs : List ℕ). Contains zs z) (sym is) (next_in 0 z rest in_z)) (eq-eqb z z refl)) c_z) in
          let front = more rest [] in
          let whole : length (filter (may_change m v c parts) (0 ∷ rest)) ≡ suc (length (filter (may_change m v c parts) rest)) =
          ap (λ (b : Bool). length (cond b (0 ∷ filter (may_change m v c parts) rest) (filter (may_change m v c parts) rest))) zero_may in
          subst (λ (zs : List ℕ). length (with_zone_0 (filter (is_changed m plans gone) zs)) ≤ length (filter (may_change m v c parts) zs)) (sym is) (omega (arith, less, front, whole))

  not_wide : (plans : List Plan) (gone : List ℕ) (kept : List Part) (root : Option RootPlace) (step : MapStep) → IsAllowed m v c parts plans gone → (is_some root ≡ true → is_some (growth_in v c) ≡ true) → IsStep m plans gone kept root step
      → length (filter (may_change m v c (parts_in (plan_in placed_as.placing) ++ parts_in placed_as.dir)) (zone_numbers m.geometry)) ≤ 9 → is_wide step ≡ false
  not_wide plans gone kept root (steps.New x) allowed grows is few =
      let listed = few_listed plans gone root allowed grows in
      let same : length x.zones.items ≡ length (zones_of m plans gone root) = ap (λ (zs : List ℕ). length zs) is.zones in
      unless (nat_lt 9 (length x.zones.items)) (λ e. let more = ltb-true 9 (length x.zones.items) e in omega (arith, listed, same, few, more))
  not_wide plans gone kept root (steps.Old space) allowed grows is few = absurd is
  not_wide plans gone kept root steps.Nothing allowed grows is few = refl

  -- ---- all of it

  pub own_counts : (image : List ℕ) → CountsInSteps m s.take s.give image → length (filter (may_change m v c (parts_in (plan_in placed_as.placing) ++ parts_in placed_as.dir)) (zone_numbers m.geometry)) ≤ 9
      → (n : Map) × IsOwnMap m v c (parts_in (plan_in placed_as.placing) ++ parts_in placed_as.dir) n × Chooses m.geometry n.zones image
  own_counts image map few =
      let alone_now = is_grown_alone h w.grows in
      let found = map.whole
      (not_wide (plans_of (plan_in placed_as.placing) placed_as.dir) (gone_at_once placed_as.dir alone_now) (kept_parts placed_as.dir alone_now) (root_of s.grown) s.take first_allowed root_grows placed_as.take few)
      (not_wide [] (freed h w placed_as.dir ++ placed_as.gone) [] None s.give last_allowed (λ never. absurd (cc)) placed_as.give few) in
      (found.0, own found.0 found.1, found.2)
