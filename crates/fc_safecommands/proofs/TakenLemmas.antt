-- What a step that takes plans leaves of each plan's identifier: the plan's parts, in the order of the search.
use Rattle.std.proofs.Common.{◌≡◌, ◌<◌, ◌⊎◌, inl, inr, ⊎_elim, ℕ, Bool, true, false, not, cond, ◌&&◌, ◌||◌, List, [], ◌∷◌, ◌++◌, map, flat_map, refl, sym, ap, ap₂, subst, ◌∙◌, Option, Some, None}
use Rattle.std.specs.Prelude.{Contains, filter, find, is_none, ◌==◌}
use Rattle.std.proofs.lemmas.Bool.{eqb-true}
use Rattle.std.proofs.lemmas.List.Elements.{Contains-get_or, filter-append}
use Rattle.fc_record.specs.declared.Geometry.{Geometry}
use Rattle.fc_zone.specs.declared.RunKind.{RunKind}
use Rattle.fc_zone.specs.declared.RunKind.TheVariants.{Hole, Id}
use Rattle.fc_newmap.specs.Map.{Map, ZoneRun, all_runs, has_id, hole_runs, id_runs, is_hole, runs_in, search_order}
use Rattle.fc_newmap.specs.NewMap.{IsNewMap}
use Rattle.fc_newmap.proofs.HeldLemmas.{geometry_facts}
use Rattle.fc_newmap.proofs.PlaceLemmas.{id_run_in, in_filter}
use Rattle.fc_image.specs.effects.Placed.{stands_at}
use Rattle.fc_image.specs.effects.Steady.{has_id_that}
use Rattle.fc_plan.specs.declared.plan.Plan.{Plan}
use Rattle.fc_plan.specs.Applied.{CanTakePlan, IsTakenIn, parts_in_order}
use Rattle.fc_plan.specs.Giving.{is_one_of, stays_given}
use Rattle.fc_plan.specs.Parts.{fronts}
use Rattle.fc_plan.specs.Taking.{as_runs, own_of, own_runs, part_taken}
use Rattle.fc_plan.proofs.Composed.{AreKept, part_stays}
use Rattle.fc_plan.proofs.InOrder.{part_of_run, parts_in_turn, unused_none}
use Rattle.fc_plan.proofs.Taken.{find_is}
use Rattle.fc_plan.specs.declared.plan.Part.{Part}
use Rattle.fc_changes.proofs.StepsLemmas.{ids_same}
use Rattle.fc_tree.proofs.MemberLemmas.{contains_here, in_map, no_element}
use Rattle.fc_writing.specs.Steps.{AreTaken, CanTakeAll, HasMoved}
use Rattle.fc_edits.specs.NewNodes.{AreDistinct}
use Rattle.fc_safeedits.specs.SafeSpace.{SafeSpaceLaw, TakesAndGives, taking_of}
use Rattle.fc_image.proofs.EntriesLemmas.{later as contains_later, cases as contains_cases}
use Rattle.fc_safeedits.proofs.lemmas.SafeSpaceLemmas.{none_found, all_same, can_after, others_after, not_again, holes_same, away}

-- ---- lists

-- ---- maps with the same runs

-- ---- one plan after another

-- ---- the step at which a plan is taken

-- Before it the plan can be taken, and its identifier has what it had; after all of them that has what it got then.
record IsTakenAt (m n : Map) (q : Plan) : Type 0 where
  pub mid : Map
  pub is_map : IsNewMap mid
  pub geometry : mid.geometry ≡ m.geometry
  pub after : n.geometry ≡ mid.geometry
  pub can : CanTakePlan mid.geometry (hole_runs mid) q
  pub had : id_runs mid q.id ≡ id_runs m q.id
  pub has : id_runs n q.id ≡ own_runs mid q.id (fronts q.parts.items)

geometry_after : (m n : Map) (plans : List Plan) → AreTaken m plans n → n.geometry ≡ m.geometry
geometry_after m n [] same = ap (λ (k : Map). k.geometry) same
geometry_after m n (a ∷ plans) taken = geometry_after taken.0 n plans taken.3 ∙ taken.2.geometry

taken_at : (m n : Map) (plans : List Plan) → IsNewMap m → AreTaken m plans n → CanTakeAll m.geometry (hole_runs m) plans → AreDistinct (map (λ (p : Plan). p.id) plans) → (q : Plan) → Contains plans q → IsTakenAt m n q
taken_at m n [] is taken can once q among = absurd (no_element q among)
taken_at m n (a ∷ plans) is taken can once q among =
    ⊎_elim
    (λ same. subst (IsTakenAt m n) same
    (record {
      mid = m;
      is_map = is;
      geometry = refl;
      after = geometry_after m n (a ∷ plans) taken;
      can = can.0;
      had = refl;
      has = others_after taken.0 n plans a.id taken.3 (not_again plans a.id once.0) ∙ taken.2.own;
    }))
    (λ later.
    let other : q.id ≡ a.id → ⊥ = λ same. once.0 (subst (Contains (map (λ (p : Plan). p.id) plans)) same (in_map (λ (p : Plan). p.id) plans q later)) in
    let r = taken_at taken.0 n plans taken.1 taken.3 (can_after m taken.0 a.id (fronts a.parts.items) plans taken.2 can.1) once.1 q later in
    record { mid = r.mid; is_map = r.is_map; geometry = r.geometry ∙ taken.2.geometry; after = r.after; can = r.can; had = r.had ∙ taken.2.others q.id other; has = r.has })
    (contains_cases a q plans among)

-- ---- what is left of an identifier that gets parts

module _ (gone : List ℕ) (kept : List ZoneRun) (id : ℕ) (parts : List ZoneRun) (keeps : AreKept gone kept id parts) where
  hole_left : (z start len : ℕ) (o : Option ZoneRun) → find (stands_at (z, record { start = start; len = len; kind = Hole })) parts ≡ o
      → filter (stays_given gone kept) (part_taken id (z, record { start = start; len = len; kind = Hole }) o) ≡ part_taken id (z, record { start = start; len = len; kind = Hole }) o
  hole_left z start len None e = refl
  hole_left z start len (Some part) e =
      ap (λ (b : Bool). cond b ((z, record { start = start; len = part.1.len; kind = Id id }) ∷ []) []) (ap not (part_stays gone kept id parts keeps z start len part e))

  run_left : (z start len : ℕ) (kind : RunKind) → (has_id id kind ≡ true → stays_given gone kept (z, record { start = start; len = len; kind = kind }) ≡ false)
      → filter (stays_given gone kept) (own_of id parts (z, record { start = start; len = len; kind = kind })) ≡ part_of_run id parts (z, record { start = start; len = len; kind = kind })
  run_left z start len Hole goes = hole_left z start len (find (stands_at (z, record { start = start; len = len; kind = Hole })) parts) refl
  run_left z start len (Id k) goes = by (has_id id (Id k)) refl
    where
      by : (b : Bool) → has_id id (Id k) ≡ b → filter (stays_given gone kept) (cond b ((z, record { start = start; len = len; kind = Id k }) ∷ []) []) ≡ []
      by true e = ap (λ (c : Bool). cond c ((z, record { start = start; len = len; kind = Id k }) ∷ []) []) (goes e)
      by false e = refl

  own_left : (xs : List ZoneRun) → ((p : ZoneRun) → Contains xs p → has_id id p.1.kind ≡ true → stays_given gone kept p ≡ false)
      → filter (stays_given gone kept) (flat_map (own_of id parts) xs) ≡ flat_map (part_of_run id parts) xs
  own_left [] goes = refl
  own_left (p ∷ xs) goes =
      filter-append (stays_given gone kept) (own_of id parts p) (flat_map (own_of id parts) xs)
      ∙ ap₂ (λ (a b : List ZoneRun). a ++ b) (run_left p.0 p.1.start p.1.len p.1.kind (goes p (contains_here p xs))) (own_left xs (λ q h. goes q (contains_later p q xs h)))

-- ---- the step

module _ (m m' : Map) (plans : List Plan) (gone : List ℕ) (kept : List Part) (is : IsNewMap m) (t : TakesAndGives m plans gone kept) (moved : HasMoved m m' plans gone kept) (same : m'.geometry ≡ m.geometry) where
  abbrev stay : List ZoneRun
  stay = fronts kept

  can : CanTakeAll moved.first.geometry (hole_runs moved.first) plans
  can =
      subst (λ (g : Geometry). CanTakeAll g (hole_runs moved.first) plans) (sym moved.same_runs.geometry) (subst (λ (hs : List ZoneRun). CanTakeAll m.geometry hs plans) (sym (holes_same m moved.first moved.same_runs)) t.can)

  -- no kept part stands where an identifier had a run
  none_kept : (p : ZoneRun) → Contains (all_runs m) p → is_hole p.1.kind ≡ false → find (stands_at p) stay ≡ None
  none_kept p at other = by (find (stands_at p) stay) refl
    where
      by : (o : Option ZoneRun) → find (stands_at p) stay ≡ o → o ≡ None
      by None e = refl
      by (Some q) e =
          let there = find_is (stands_at p) q stay e in
          let plan = t.kept_only q there.0 in
          absurd (none_found (stands_at p) (fronts plan.0.parts.items) q
          (away moved.first moved.taken plans moved.same_runs.map moved.takes can p (subst (λ (rs : List ZoneRun). Contains rs p) (sym (all_same m moved.first moved.same_runs)) at) other plan.0 plan.1) plan.2 there.1)

  -- So each plan's identifier has its parts, and no others.
  pub all_taken : SafeSpaceLaw → (q : Plan) → Contains plans q → IsTakenIn m' q
  all_taken law q at =
      let s = taken_at moved.first moved.taken plans moved.same_runs.map moved.takes can t.once q at in
      let parts : List ZoneRun = fronts q.parts.items in
      let had : id_runs s.mid q.id ≡ id_runs m q.id = s.had ∙ ids_same m moved.first moved.same_runs q.id in
      record {
        runs = moved.of_ids q.id ∙ ap (filter (stays_given gone stay)) s.has
            ∙ own_left gone stay q.id parts (λ e k d low. t.all_kept q _ at (Contains-get_or parts k d low) e) (runs_in s.mid (search_order s.mid.geometry q.id)) (goes s.mid s.is_map had)
            ∙ parts_in_turn s.mid s.is_map parts s.can.cut s.can.rising q.id
            ∙ ap (λ (g : Geometry). as_runs q.id (parts_in_order g q)) (s.geometry ∙ moved.same_runs.geometry ∙ sym same);
        all = (law m m' plans gone kept is t moved).own (taking_of q) (in_map taking_of plans q at);
      }
    where
      not_hole : (kind : RunKind) → has_id q.id kind ≡ true → is_hole kind ≡ false
      not_hole Hole e = absurd (cc)
      not_hole (Id j) e = refl

      of_kind : (kind : RunKind) → has_id q.id kind ≡ true → has_id_that (is_one_of gone) kind ≡ is_one_of gone q.id
      of_kind Hole e = absurd (cc)
      of_kind (Id j) e = ap (is_one_of gone) (eqb-true j q.id e)

      goes : (mid : Map) → IsNewMap mid → id_runs mid q.id ≡ id_runs m q.id → (p : ZoneRun) → Contains (runs_in mid (search_order mid.geometry q.id)) p → has_id q.id p.1.kind ≡ true → stays_given gone stay p ≡ false
      goes mid is_mid had p there own =
          let listed : Contains (id_runs m q.id) p = subst (λ (rs : List ZoneRun). Contains rs p) had (in_filter (λ (r : ZoneRun). has_id q.id r.1.kind) (runs_in mid (search_order mid.geometry q.id)) p there own) in
          elim (t.ids q at) [
            | inl unused ↦ absurd (unused_none m q.id is unused p listed)
            | inr one ↦
                (let among = id_run_in m q.id p (geometry_facts m.geometry is.of_record).zones listed in
                ap not (ap₂ (λ (b : Bool) (o : Option ZoneRun). b && is_none o) (of_kind p.1.kind own ∙ one) (none_kept p among.0 (not_hole p.1.kind own))))
          ]
