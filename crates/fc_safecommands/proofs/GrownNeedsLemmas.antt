-- A job by which a directory grows, as the command's: its new identifiers, and that it has some bytes before.
use Rattle.std.proofs.Common.{◌≡◌, ◌<◌, ◌≤◌, ◌+◌, ◌-◌, ◌==◌, ◌||◌, ⊎_elim, ℕ, zero, suc, Bool, true, false, not, cond, List, [], ◌∷◌, ◌++◌, length, map, take, drop, refl, sym, ap, ap₂, subst, ◌∙◌, arith, Option, Some, None}
use Rattle.std.specs.Prelude.{Contains, is_some, nat_lt}
use Rattle.std.specs.Int.{div_ceil}
use Rattle.std.specs.List.{range_with_len}
use Rattle.std.specs.Option.{option_map_or}
use Rattle.std.proofs.lemmas.Bool.{eqb-true, lt-ltb, ltb-true, ne_eqb}
use Rattle.std.proofs.lemmas.List.FromFn.{get_or-range_with_len, length-range_with_len}
use Rattle.fc_names.specs.declared.name.NameForm.{NameForm}
use Rattle.fc_names.specs.declared.name.NameForm.TheVariants as forms
use Rattle.fc_record.specs.Record.{id_limit}
use Rattle.fc_newmap.specs.Map.{Map, is_used}
use Rattle.fc_model.specs.Command.{Command}
use Rattle.fc_dirs.specs.Directory.{directory_size}
use Rattle.fc_image.specs.Layout.{Layout, dir_form, id_of}
use Rattle.fc_image.specs.Walk.{object_size}
use Rattle.fc_image.specs.effects.Sharing.{new_ids, units}
use Rattle.fc_image.specs.effects.Short.{Growth as Grown, object_units, one_if}
use Rattle.fc_image.specs.effects.Steady.{holes_with, runs_that, zone_holes}
use Rattle.fc_image.specs.safe.SafeShort.{is_given_up, is_suitable, new_id_growth, places_given_up}
use Rattle.fc_image.specs.safe.SafeSteady.{holes_unneeded}
use Rattle.fc_placing.proofs.LeavingLemmas.{from_kept}
use Rattle.fc_plan.specs.declared.plan.Plan.{Plan}
use Rattle.fc_plan.specs.Giving.{is_one_of}
use Rattle.fc_plan.proofs.Plans.{min_some}
use Rattle.fc_plan.proofs.Units.{units_some}
use Rattle.fc_tree.specs.declared.node.Node.{Node}
use Rattle.fc_tree.proofs.MemberLemmas.{contains_here}
use Rattle.fc_tree.proofs.WalkedLemmas.{listed_directory}
use Rattle.fc_edits.specs.Growing.{Growing}
use Rattle.fc_edits.specs.NewPlaces.{is_taken}
use Rattle.fc_change.specs.declared.job.Growth.{Growth}
use Rattle.fc_change.specs.declared.spaces.Spaces.{Spaces}
use Rattle.fc_change.specs.Needs.{len_at}
use Rattle.fc_commands.proofs.NodeLemmas as its
use Rattle.fc_commands.proofs.StayingLemmas.{no_ceil}
use Rattle.fc_safe.specs.declared.needs.Need.{Need}
use Rattle.fc_safe.specs.FirstNeeds.{first_gone, moving_out, need_of, out_need, own_need}
use Rattle.fc_safe.specs.FirstSpace.{ArePlacedFirst, IsLastIf}
use Rattle.fc_safe.specs.Needs.{HaveIds, parts_of}
use Rattle.fc_safe.proofs.GivenLemmas.{given_high}
use Rattle.fc_safe.proofs.SuitsLemmas.{suits_are}
use Rattle.fc_safecommands.specs.Jobs.{IsJobIn, out_count, own_count}
use Rattle.fc_safecommands.proofs.lemmas.JobLemmas.{job_law}
use Rattle.fc_safeedits.specs.SafeSpace.{takings_of}
use Rattle.fc_safeedits.specs.SafeGrowth.{its_new_id}
use Rattle.fc_safecommands.proofs.BackLemmas.{back_same}
use Rattle.fc_safecommands.proofs.GrownSpaceLemmas.{can, plan_cases, used}
use Rattle.fc_safecommands.proofs.GrownStepLemmas as step_of
use Rattle.fc_safecommands.proofs.GrownStepLemmas.{grown_at}
use Rattle.fc_safecommands.proofs.GrownStirLemmas.{GrowingJob, changed_object, end, h, ids, lies_in, own_bytes, sound, v, view}
pub use Rattle.fc_safecommands.proofs.lemmas.PlanLemmas.{take_none, drop_none}

-- ---- lists

-- The first elements are as many as there are.
pub take_self : (n : ℕ) (xs : List ℕ) → take n xs ≡ take (length (take n xs)) xs
take_self zero [] = refl
take_self zero (x ∷ xs) = refl
take_self (suc n) [] = refl
take_self (suc n) (x ∷ xs) = ap (λ (ys : List ℕ). x ∷ ys) (take_self n xs)

pub last_same : (xs ys : List Plan) (a b : Plan) → xs ++ a ∷ [] ≡ ys ++ b ∷ [] → a ≡ b
last_same [] [] a b e = cc
last_same [] (y ∷ []) a b e = absurd (cc)
last_same [] (y ∷ z ∷ ys) a b e = absurd (cc)
last_same (x ∷ []) [] a b e = absurd (cc)
last_same (x ∷ w ∷ xs) [] a b e = absurd (cc)
last_same (x ∷ xs) (y ∷ ys) a b e = last_same xs ys a b (ap (λ (ps : List Plan). drop 1 ps) e)

-- new identifiers begin at 3
pub new_high : (m : Map) (k : ℕ) → Contains (new_ids m) k → 3 ≤ k
new_high m k at =
    let there = (from_kept (λ (j : ℕ). not (is_used m j)) (range_with_len 3 (id_limit m.geometry - 3)) k at).0 in
    let size = length-range_with_len 3 (id_limit m.geometry - 3) in
    let low = there.1 in
    let value = get_or-range_with_len 3 (id_limit m.geometry - 3) there.0 k (omega (arith, size, low)) in
    let same = there.2 in
    omega (arith, value, same)

-- ---- the last need asks for a new identifier

-- the last plan has the first of those that are left for it
abbrev pub HasLast : List Plan → List ℕ → Type 0
HasLast plans new = (q : Plan) × ((before : List Plan) × (plans ≡ before ++ q ∷ [])) × ((rest : List ℕ) × (new ≡ q.id ∷ rest))

last_out : (g : Growth) (new : List ℕ) (plans : List Plan) (left : List ℕ) → HaveIds new (out_need (Some g)) plans left → HasLast plans new
last_out g new [] left have = absurd have
last_out g new (q ∷ []) left have = (q, ([], refl), (have.0, have.1))
last_out g new (q ∷ r ∷ plans) left have = absurd have.2

last_held : (end : ℕ → ℕ) (held new : List ℕ) (g : Growth) (plans : List Plan) (left : List ℕ) → HaveIds new (map (need_of end) held ++ out_need (Some g)) plans left → HasLast plans new
last_held end [] new g plans left have = last_out g new plans left have
last_held end (k ∷ held) new g [] left have = absurd have
last_held end (k ∷ held) new g (q ∷ plans) left have =
    let more = last_held end held new g plans left (subst (λ (ks : List ℕ). HaveIds ks (map (need_of end) held ++ out_need (Some g)) plans left) have.1.1 have.2) in
    (more.0, (q ∷ more.1.0, ap (λ (ps : List Plan). q ∷ ps) more.1.1), more.2)

pub last_own : (bytes : ℕ) (b : Bool) (end : ℕ → ℕ) (held new : List ℕ) (g : Growth) (plans : List Plan) (left : List ℕ)
    → HaveIds new (cond b [] ((let n : Need = record { id = None; bytes = bytes } in n) ∷ []) ++ (map (need_of end) held ++ out_need (Some g))) plans left → HasLast plans (drop (one_if (not b)) new)
last_own bytes true end held new g plans left have = subst (HasLast plans) (sym (drop_none new)) (last_held end held new g plans left have)
last_own bytes false end held new g [] left have = absurd have
last_own bytes false end held new g (q ∷ plans) left have =
    let more = last_held end held have.0 g plans left have.2 in
    (more.0, (q ∷ more.1.0, ap (λ (ps : List Plan). q ∷ ps) more.1.1), (more.2.0, ap (λ (ks : List ℕ). drop 1 ks) have.1 ∙ drop_none have.0 ∙ more.2.1))

-- ---- the directory that grows

module _ (x : GrowingJob) where
  form : dir_form (Layout.New x.m) ≡ forms.Long
  form = ap (λ (b : Bool). let f : NameForm = cond b forms.Ten forms.Long in f) x.suits.0

  -- it has some bytes before
  pub some_bytes : 0 < len_at x.nodes x.growth.node
  some_bytes =
      let d = changed_object x x.growth.node x.grower in
      let its_dir = listed_directory (Layout.New x.m) x.listings (sound x) d.0 d.1 in
      let lies = lies_in x d.0.object d.2.there d.2.some in
      let size : object_size (dir_form (Layout.New x.m)) d.0.object.entry ≡ len_at x.nodes x.growth.node =
      ap₂ (λ (b : Bool) (f : NameForm). cond b (directory_size f d.0.object.entry.len) d.0.object.entry.len) its_dir.1 form
      ∙ sym (ap (λ (n : Option Node). option_map_or (λ (k : Node). k.entry.len) n 0) (its.there x.nodes (Layout.New x.m) x.listings (sound x) x.agreed.walked.held d.0 d.1 x.growth.node d.2.number)) in
      by (len_at x.nodes x.growth.node) (length d.0.object.sectors) (lies.many ∙ ap (λ (n : ℕ). div_ceil n x.m.geometry.sector) size) (ltb-true 0 (length d.0.object.sectors) d.2.some)
    where
      by : (n many : ℕ) → many ≡ div_ceil n x.m.geometry.sector → 0 < many → 0 < n
      by zero many is some = absurd (let none = no_ceil x.m.geometry.sector in omega (arith, is, some, none))
      by (suc n) many is some = omega arith

  pub some_if : (g : Growth) → x.wants.grows ≡ Some g → 0 < len_at x.nodes g.node
  some_if g e = subst (λ (k : Growth). 0 < len_at x.nodes k.node) (same x.growth g (sym x.grows ∙ e)) some_bytes
    where
      same : (j k : Growth) → (let o : Option Growth = Some j in o) ≡ Some k → j ≡ k
      same j k e = cc

  pub suitable : is_suitable (v x) ≡ true
  suitable = sym (suits_are (h x) true (v x) x.suits (sound x) x.parts)

  -- ---- by the command

  module _ (c : Command) (job_in : IsJobIn x.m (h x) (v x) c x.job x.wants) where
    pub units_are : units x.m.geometry (own_bytes x) ≡ object_units x.m (v x) c
    units_are = job_law.object x.m (h x) (v x) c x.job x.wants job_in

    -- the object needs space of its own, or doesn't
    pub own_same : not (own_bytes x == 0) ≡ nat_lt 0 (object_units x.m (v x) c)
    own_same = by (own_bytes x) ∙ ap (λ (n : ℕ). nat_lt 0 n) units_are
      where
        by : (n : ℕ) → not (n == 0) ≡ nat_lt 0 (units x.m.geometry n)
        by zero = refl
        by (suc n) = ap not (ne_eqb (suc n) 0 (λ e. omega (arith, e))) ∙ sym (lt-ltb 0 (units x.m.geometry (suc n)) (units_some x.m (suc n) x.agreed.is_map (omega arith)))

    module _ (s : Spaces) (placed : ArePlacedFirst x.m (h x) x.job x.wants s) where
      -- the directory's identifier, if it gets another
      pub new_is : (to : Growing) → to.address ≡ (grown_at x s placed).0.directory.address → take (out_count (v x) c) (drop (own_count x.m (v x) c) (new_ids x.m)) ≡ its_new_id (v x) c to
      new_is to address = by (new_id_growth (v x) c) refl
        where
          goes : (k : Grown) → new_id_growth (v x) c ≡ Some k → is_some (moving_out x.m (h x) (Some x.growth)) ≡ true
          goes k e = ap (λ (g : Option Growth). is_some (moving_out x.m (h x) g)) (sym x.grows) ∙ job_law.out x.m (h x) (v x) c x.job x.wants job_in ∙ ap (λ (g : Option Grown). is_some g) e

          one : (j : Option Growth) → moving_out x.m (h x) (Some x.growth) ≡ j → is_some j ≡ true → take 1 (drop (own_count x.m (v x) c) (new_ids x.m)) ≡ id_of to.address ∷ []
          one None e f = absurd (cc)
          one (Some j) e f =
              let first = (grown_at x s placed).2 in
              let its_last = subst (λ (g : Option Growth). IsLastIf g placed.plans first.plan) e first.last in
              let have = subst (λ (g : Option Growth). HaveIds (new_ids x.m) (own_need (own_bytes x) ++ (map (need_of (end x)) (ids x) ++ out_need g)) placed.plans placed.met.left) (ap (moving_out x.m (h x)) x.grows ∙ e) placed.met.ids in
              let q = last_own (own_bytes x) (own_bytes x == 0) (end x) (ids x) (new_ids x.m) j placed.plans placed.met.left have in
              let same : q.0 ≡ first.plan = last_same q.1.0 its_last.0 q.0 first.plan (sym q.1.1 ∙ its_last.1) in
              let at : q.0.id ≡ id_of to.address = ap (λ (r : Plan). r.id) same ∙ first.id ∙ ap id_of (sym address) in
              ap (λ (b : Bool). take 1 (drop (one_if b) (new_ids x.m))) (sym own_same)
              ∙ ap (λ (ks : List ℕ). take 1 ks) q.2.1 ∙ ap (λ (ks : List ℕ). q.0.id ∷ ks) (take_none q.2.0) ∙ ap (λ (k : ℕ). k ∷ []) at

          by : (g : Option Grown) → new_id_growth (v x) c ≡ g
              → take (one_if (is_some (new_id_growth (v x) c))) (drop (own_count x.m (v x) c) (new_ids x.m)) ≡ option_map_or (λ (k : Grown). id_of to.address ∷ []) (new_id_growth (v x) c) []
          by None e =
              subst (λ (g : Option Grown). take (one_if (is_some g)) (drop (own_count x.m (v x) c) (new_ids x.m)) ≡ option_map_or (λ (k : Grown). id_of to.address ∷ []) g []) (sym e)
              (take_none (drop (own_count x.m (v x) c) (new_ids x.m)))
          by (Some k) e =
              subst (λ (g : Option Grown). take (one_if (is_some g)) (drop (own_count x.m (v x) c) (new_ids x.m)) ≡ option_map_or (λ (k : Grown). id_of to.address ∷ []) g []) (sym e)
              (one (moving_out x.m (h x) (Some x.growth)) refl (goes k e))

      pub fresh : (k : ℕ) → is_taken (takings_of placed.plans) k ≡ true → is_used x.m k ≡ false → 3 ≤ k
      fresh k e new =
          let q = from placed.plans e in
          ⊎_elim (λ own. subst (λ (j : ℕ). 3 ≤ j) q.2 (new_high x.m q.0.id own.0))
          (λ other. ⊎_elim (λ old. absurd (let has : is_used x.m k ≡ true = ap (is_used x.m) (sym q.2) ∙ used x q.0.id old.0 in cc)) (λ out. subst (λ (j : ℕ). 3 ≤ j) q.2 (new_high x.m q.0.id out.0)) other)
          (plan_cases x s placed q.0 q.1)
        where
          from : (ps : List Plan) → is_taken (takings_of ps) k ≡ true → (q : Plan) × Contains ps q × (q.id ≡ k)
          from [] f = absurd (cc)
          from (q ∷ ps) f = at_first (q.id == k) refl f (from ps)
            where
              at_first : (b : Bool) → (q.id == k) ≡ b → (b || is_taken (takings_of ps) k) ≡ true → (is_taken (takings_of ps) k ≡ true → (r : Plan) × Contains ps r × (r.id ≡ k)) → (r : Plan) × Contains (q ∷ ps) r × (r.id ≡ k)
              at_first true same j rest = (q, contains_here q ps, eqb-true q.id k same)
              at_first false other j rest = let t = rest j in (t.0, (suc t.1.0, (let low = t.1.1 in omega (arith, low)), t.1.2), t.2)

      -- what goes back makes the holes that the command's own makes
      pub back : (z : ℕ) → z < x.m.geometry.zones
          → holes_with (zone_holes (holes_unneeded x.m (parts_of placed.plans)) z) (zone_holes (runs_that (is_one_of (first_gone x.m (h x) x.job x.wants)) x.m) z)
          ≡ holes_with (zone_holes (holes_unneeded x.m (parts_of placed.plans)) z) (zone_holes (places_given_up x.m (v x) c) z)
      back z low =
          back_same x.m x.agreed.is_map (min_some x.m.geometry x.agreed.is_map.of_record) placed.plans (can x s placed) (first_gone x.m (h x) x.job x.wants) (is_given_up x.m (v x) c)
          (λ k high. job_law.given x.m (h x) (v x) c x.job x.wants k job_in high) (step_of.gone_low x) (λ k e. given_high x.m (h x) (v x) (view x) c suitable k e) z low
