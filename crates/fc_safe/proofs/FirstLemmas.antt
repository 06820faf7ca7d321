-- What a job gets of a new map in the safe mode, from the plans that meet its needs.
use Rattle.std.proofs.Common.{◌≡◌, ◌<◌, ◌≤◌, ◌&&◌, ◌||◌, ◌==◌, inl, inr, ℕ, zero, suc, ◌^◌, Bool, true, false, cond, List, [], ◌∷◌, ◌++◌, length, get_or, map, refl, sym, ap, ap₂, subst, ◌∙◌, arith, Some, None, Option}
use Rattle.std.specs.Prelude.{All, Contains, filter, is_some, nat_lt, not}
use Rattle.std.specs.List.{list_any, range_with_len}
use Rattle.std.specs.List.Sorted.{IsStrictlyIncreasing}
use Rattle.std.specs.Option.{option_map}
use Rattle.std.proofs.lemmas.Bool.{and_parts, eqb-true, lt-ltb, or_cases}
use Rattle.std.proofs.lemmas.List.Elements.{Contains-append_cases, Contains-get_or}
use Rattle.fc_alloc.specs.declared.owner.Owner.{Owner}
use Rattle.fc_alloc.specs.Owners.{owns}
use Rattle.fc_names.specs.declared.refusal.Refusal.TheVariants as refusals
use Rattle.fc_record.specs.Record.{id_limit}
use Rattle.fc_newmap.specs.Map.{Map, ZoneRun, hole_runs}
use Rattle.fc_newmap.specs.NewMap.{IsNewMap}
use Rattle.fc_newmap.proofs.TallyLemmas.{ids_few}
use Rattle.fc_image.specs.Layout.{id_of}
use Rattle.fc_image.specs.effects.Sharing.{new_ids}
use Rattle.fc_image.specs.safe.SafeShort.{SafeRefusal, fitted, spread_or}
use Rattle.fc_image.proofs.EntriesLemmas.{from_map, in_mapped}
use Rattle.fc_placing.specs.declared.placing.Placing.TheVariants.{Shared}
use Rattle.fc_placing.specs.Places.{id_in, shared_id}
use Rattle.fc_plan.specs.declared.plan.Part.{Part}
use Rattle.fc_plan.specs.declared.plan.Plan.{Plan}
use Rattle.fc_plan.specs.Giving.{is_one_of}
use Rattle.fc_plan.specs.Parts.{front_at, fronts}
use Rattle.fc_plan.proofs.Plans.{min_some}
use Rattle.fc_placing.specs.declared.share.Share.{Share}
use Rattle.fc_placing.specs.Slack.{place_in}
use Rattle.fc_tree.specs.Counts.{address_in}
use Rattle.fc_tree.specs.Parts.{Parts}
use Rattle.fc_writing.specs.Steps.{CanTakeAll}
use Rattle.fc_change.specs.declared.job.Growth.{Growth}
use Rattle.fc_change.specs.declared.job.Job.{Job}
use Rattle.fc_change.specs.declared.job.Wants.{Wants}
use Rattle.fc_change.specs.Places.{placing_of}
use Rattle.fc_change.specs.Shortage.{bytes_left, slack_for}
use Rattle.fc_change.proofs.PlaceLemmas.{placed_id, placing_is}
use Rattle.fc_safe.specs.Answers.{AnswersSafe}
use Rattle.fc_safe.specs.FirstNeeds.{Stir, first_gone, first_needs, first_shortage, gone_by, goes, has_ids_for, ids_of, moving_out, need_of, needs_by, out_need, own_need, shared_by, short_of_needs, stir_of, turns_root, unfit, zones_turned}
use Rattle.fc_safe.specs.FirstSpace.{CanLie, CanPlaceFirst, IsFirstOf, IsFirstPlacing, LiesInZones}
use Rattle.fc_safe.specs.Gone.{is_left, is_lost_by}
use Rattle.fc_safe.specs.Grown.{HasGrownPlan}
use Rattle.fc_safe.specs.Needs.{AreMet, CanNeed, HaveIds, bits_of, full_for, full_if, parts_of}
use Rattle.fc_safe.specs.Planned.{IsOwnFirst, IsPlanned}
use Rattle.fc_safe.specs.Staying.{holds_changed, last_end, remains}
use Rattle.fc_safe.specs.declared.error.SafeError.{SafeError}
use Rattle.fc_safe.specs.declared.error.SafeError.TheVariants as errors
use Rattle.fc_safe.specs.declared.needs.Need.{Need}
use Rattle.fc_safe.specs.declared.planned.Planned.{Planned}
use Rattle.fc_safe.proofs.CoverLemmas.{fronts_in_zones}
use Rattle.fc_safe.proofs.GrownLemmas.{each_lies, grown_plan}
use Rattle.fc_safe.proofs.ListLemmas.{found_of, in_flat, passes}
use Rattle.fc_safe.proofs.MovingLemmas.{set_is}
use Rattle.fc_safe.proofs.PlannedLemmas.{needs_can}
use Rattle.fc_safe.proofs.TakingLemmas.{CanHave, take_all}
use Rattle.fc_safe.proofs.ZoneLemmas.{in_range}

-- ---- the first plan

-- Its identifier is a new one.
first_new : (m : Map) (bytes : ℕ) (rest : List Need) (plans : List Plan) (plan : Plan) → AreMet m (own_need bytes ++ rest) plans → 0 < bytes → IsFirstOf plans plan → Contains (new_ids m) plan.id
first_new m bytes rest plans plan met some first = by (bytes == 0) refl met.ids
  where
    new : (need : Need) (needs : List Need) (ps : List Plan) → need.id ≡ None → HaveIds (new_ids m) (need ∷ needs) ps met.left → IsFirstOf ps plan → Contains (new_ids m) plan.id
    new need needs [] none have is = absurd have
    new need needs (p ∷ ps) none have is = from need.id none have.1
      where
        from : (o : Option ℕ) → o ≡ None → Rattle.fc_safe.specs.Needs.IsIdOf o (new_ids m) have.0 p.id → Contains (new_ids m) plan.id
        from None e at = (0, subst (λ (xs : List ℕ). 0 < length xs) (sym at) (omega arith), ap (λ (xs : List ℕ). get_or xs 0 plan.id) at ∙ sym is.0)
        from (Some k) e at = absurd (cc)

    by : (b : Bool) → (bytes == 0) ≡ b → HaveIds (new_ids m) (cond b [] ((let n : Need = record { id = None; bytes = bytes } in n) ∷ []) ++ rest) plans met.left → Contains (new_ids m) plan.id
    by true e have = absurd (let none = eqb-true bytes 0 e in omega (arith, none, some))
    by false e have = new (record { id = None; bytes = bytes }) rest plans refl have first

-- ---- all plans can be taken

module _ (m : Map) (is : IsNewMap m) (h : Parts) (s : Stir) (bytes : ℕ) (low : (o : Owner) → Contains h.owners o → (2 ≤ o.id) × (o.id < id_limit m.geometry)) where
  changed_low : (id : ℕ) → holds_changed s.changed s.leaving h.owners id ≡ true → (2 ≤ id) × (id < id_limit m.geometry)
  changed_low id holds =
      let r = found_of (λ (o : Owner). is_one_of s.changed o.node && remains s.leaving id o) h.owners holds in
      let stays = and_parts (is_one_of s.changed r.0.node) (remains s.leaving id r.0) r.2 in
      let mine = and_parts (r.0.id == id) (not (is_one_of s.leaving r.0.node)) stays.1 in
      let at = low r.0 r.1 in
      let same = eqb-true r.0.id id mine.0 in
      let least = at.0 in
      let most = at.1 in
      (omega (arith, least, same), omega (arith, most, same))

  lost_low : (shared : Option ℕ) (id : ℕ) → is_lost_by s.leaving shared h.owners id ≡ true → id < id_limit m.geometry
  lost_low shared id lost =
      let both = and_parts (list_any (owns id) h.owners) (is_left s.leaving shared h.owners id) lost in
      let r = found_of (owns id) h.owners both.0 in
      let most = (low r.0 r.1).1 in
      let same = eqb-true r.0.id id r.2 in
      omega (arith, most, same)

  can_have : (id : ℕ) → (2 ≤ id) × (id < id_limit m.geometry) → CanHave m id
  can_have id at = let least = at.0 in let most = at.1 in let fits : id_limit m.geometry ≤ 2 ^ m.geometry.idlen = omega arith in record { some = omega (arith, least); fits = omega (arith, most, fits) }

  -- the needs of identifiers are of those that hold a changed directory
  old_ids : (n : Need) (id : ℕ) → Contains (needs_by m h s bytes) n → n.id ≡ Some id → CanHave m id
  old_ids n id at e = elim (Contains-append_cases (own_need bytes) (map (need_of end) ids ++ out_need s.out) n at) [
    | inl own ↦ absurd (own_none own)
    | inr rest ↦ elim (Contains-append_cases (map (need_of end) ids) (out_need s.out) n rest) [
      | inl moved ↦
          (let r = from_map (need_of end) ids n moved in
          let same : r.0 ≡ id = one r.0 id (ap (λ (k : Need). k.id) r.2 ∙ e) in
          can_have id (subst (λ (k : ℕ). (2 ≤ k) × (k < id_limit m.geometry)) same (changed_low r.0 (passes (holds_changed s.changed s.leaving h.owners) (range_with_len 0 (id_limit m.geometry)) r.0 r.1))))
      | inr out ↦ absurd (out_none s.out out)
    ]
  ]
    where
      end : ℕ → ℕ
      end = last_end m.geometry s.leaving s.longer h.owners

      ids : List ℕ
      ids = ids_of m h s

      one : (a b : ℕ) → (let x : Option ℕ = Some a in x) ≡ Some b → a ≡ b
      one a b f = cc

      only : (k : Need) → Contains (k ∷ []) n → k.id ≡ None → ⊥
      only k (zero, l, f) none = let bad = sym e ∙ ap (λ (x : Need). x.id) (sym f) ∙ none in cc
      only k (suc i, l, f) none = omega (arith, l)

      own_none : Contains (own_need bytes) n → ⊥
      own_none c = by (bytes == 0) c
        where
          by : (b : Bool) → Contains (cond b [] ((let k : Need = record { id = None; bytes = bytes } in k) ∷ [])) n → ⊥
          by true (i, l, f) = omega (arith, l)
          by false d = only (record { id = None; bytes = bytes }) d refl

      out_none : (o : Option Growth) → Contains (out_need o) n → ⊥
      out_none None (i, l, f) = omega (arith, l)
      out_none (Some g) d = only (record { id = None; bytes = g.len }) d refl

  pub plans_can : (plans : List Plan) → AreMet m (needs_by m h s bytes) plans → All CanNeed (needs_by m h s bytes) → CanTakeAll m.geometry (hole_runs m) plans
  plans_can plans met can = take_all m is (needs_by m h s bytes) plans met can old_ids

  -- ---- what goes back

  pub gone_are : (shared : Option ℕ) (ids gone : List ℕ) → ids ≡ ids_of m h s → IsStrictlyIncreasing gone → ((id : ℕ) → is_one_of gone id ≡ (is_one_of ids id || is_lost_by s.leaving shared h.owners id)) → gone ≡ gone_by m h s shared
  gone_are shared ids gone are rising same =
      set_is (goes h s shared) (id_limit m.geometry) gone rising (λ id.
      same id ∙ ap (λ (b : Bool). b || is_lost_by s.leaving shared h.owners id) (ap (λ (xs : List ℕ). is_one_of xs id) are ∙ in_range (holds_changed s.changed s.leaving h.owners) (id_limit m.geometry) id ∙ only_low id))
      (λ id g. elim (or_cases (holds_changed s.changed s.leaving h.owners id) (is_lost_by s.leaving shared h.owners id) g) [ inl holds ↦ (changed_low id holds).1 | inr lost ↦ lost_low shared id lost ])
    where
      only_low : (id : ℕ) → (nat_lt id (id_limit m.geometry) && holds_changed s.changed s.leaving h.owners id) ≡ holds_changed s.changed s.leaving h.owners id
      only_low id = by (holds_changed s.changed s.leaving h.owners id) refl
        where
          none : (a : Bool) → (a && false) ≡ false
          none true = refl
          none false = refl

          by : (b : Bool) → holds_changed s.changed s.leaving h.owners id ≡ b → (nat_lt id (id_limit m.geometry) && b) ≡ b
          by true e = ap (λ (a : Bool). a && true) (lt-ltb id (id_limit m.geometry) (changed_low id e).1)
          by false e = none (nat_lt id (id_limit m.geometry))

-- ---- the object

module _ (m : Map) (is : IsNewMap m) (owners : List Owner) (w : Wants) (share : Option Share) (own : Option Plan) (plans : List Plan) (of : option_map place_in share ≡ slack_for m owners w)
    (first : IsOwnFirst (bytes_left m owners w) plans own) where
  pub first_placing : IsFirstPlacing m owners w plans (placing_of share own)
  first_placing = by share own of first
    where
      left : (o : Option (ℕ × ℕ)) → slack_for m owners w ≡ o → bytes_left m owners w ≡ cond (is_some o) 0 w.bytes
      left o e = ap (λ (x : Option (ℕ × ℕ)). let n : ℕ = cond (is_some x) 0 w.bytes in n) e

      by : (sh : Option Share) (ow : Option Plan) → option_map place_in sh ≡ slack_for m owners w → IsOwnFirst (bytes_left m owners w) plans ow → IsFirstPlacing m owners w plans (placing_of sh ow)
      by (Some x) ow e f = sym e
      by None None e f = sym (left None (sym e)) ∙ f
      by None (Some plan) e f = (sym e, f.1, subst (λ (n : ℕ). 0 < n) (left None (sym e)) f.0)

  pub shared_same : shared_id (placing_of share own) ≡ shared_by m owners w
  shared_same = by share own of
    where
      by : (sh : Option Share) (ow : Option Plan) → option_map place_in sh ≡ slack_for m owners w → shared_id (placing_of sh ow) ≡ shared_by m owners w
      by (Some x) ow e = ap (option_map (λ (p : ℕ × ℕ). p.0)) e
      by None None e = ap (option_map (λ (p : ℕ × ℕ). p.0)) e
      by None (Some plan) e = ap (option_map (λ (p : ℕ × ℕ). p.0)) e

  first_zones : (ps : List Plan) (plan : Plan) → CanTakeAll m.geometry (hole_runs m) ps → IsFirstOf ps plan → LiesInZones m plan
  first_zones [] plan can is_first k d low = absurd is_first
  first_zones (p ∷ ps) plan can is_first k d low =
      fronts_in_zones m is (min_some m.geometry is.of_record) (p ∷ ps) (front_at (get_or plan.parts.items k d)) can
      (in_flat (λ (q : Plan). fronts q.parts.items) (p ∷ ps) p (front_at (get_or plan.parts.items k d)) (0, omega arith, refl)
      (in_mapped front_at p.parts.items (get_or plan.parts.items k d) (subst (λ (xs : List Part). Contains xs (get_or plan.parts.items k d)) is_first.1 (Contains-get_or plan.parts.items k d low))))

  pub can_lie : CanTakeAll m.geometry (hole_runs m) plans → CanLie m owners w (placing_of share own)
  can_lie can = by share own of first
    where
      by : (sh : Option Share) (ow : Option Plan) → option_map place_in sh ≡ slack_for m owners w → IsOwnFirst (bytes_left m owners w) plans ow → CanLie m owners w (placing_of sh ow)
      by (Some x) ow e f = placing_is m owners w (Some x) None e (ap (λ (o : Option (ℕ × ℕ)). let n : ℕ = cond (is_some o) 0 w.bytes in n) (sym e))
      by None None e f = sym (ap (λ (o : Option (ℕ × ℕ)). let n : ℕ = cond (is_some o) 0 w.bytes in n) (sym e)) ∙ f
      by None (Some plan) e f = (
        subst (λ (n : ℕ). 0 < n) (ap (λ (o : Option (ℕ × ℕ)). let n : ℕ = cond (is_some o) 0 w.bytes in n) (sym e)) f.0,
        first_zones plans plan can f.1,
      )

  pub own_id : (rest : List Need) → AreMet m (own_need (bytes_left m owners w) ++ rest) plans → id_in (placing_of share own) < 2 ^ 24
  own_id rest met = by share own of first
    where
      by : (sh : Option Share) (ow : Option Plan) → option_map place_in sh ≡ slack_for m owners w → IsOwnFirst (bytes_left m owners w) plans ow → id_in (placing_of sh ow) < 2 ^ 24
      by (Some x) ow e f = placed_id m is owners w (Shared x) (placing_is m owners w (Some x) None e (ap (λ (o : Option (ℕ × ℕ)). let n : ℕ = cond (is_some o) 0 w.bytes in n) (sym e)))
      by None None e f = omega arith
      by None (Some plan) e f =
          let at = first_new m (bytes_left m owners w) rest plans plan met f.0 f.1 in
          let fits = (Rattle.fc_plan.proofs.Shorts.are_new_ids m).fit plan.id at in
          let few = ids_few m.geometry is.of_record in
          omega (arith, fits, few)

-- ---- all of it

module _ (m : Map) (is : IsNewMap m) (h : Parts) (job : Job) (w : Wants) (can : CanPlaceFirst m h job w) (bytes : ℕ) (share : Option Share) (own : Option Plan) (p : Planned)
    (left : bytes ≡ bytes_left m h.owners w) (planned : IsPlanned m h (stir_of m h job w) bytes p) (of : option_map place_in share ≡ slack_for m h.owners w) (own_is : IsOwnFirst bytes p.plans.items own) where
  abbrev s : Stir
  s = stir_of m h job w

  owners_low : (o : Owner) → Contains h.owners o → (2 ≤ o.id) × (o.id < id_limit m.geometry)
  owners_low o at = ((can.placed o at).id_low, (can.placed o at).id_high)

  pub needs_met : AreMet m (first_needs m h job w) p.plans.items
  needs_met = subst (λ (n : ℕ). AreMet m (needs_by m h s n) p.plans.items) left planned.met

  few_left : bytes_left m h.owners w < 2 ^ 32
  few_left = by (is_some (slack_for m h.owners w))
    where
      few : w.bytes < 2 ^ 32
      few = can.few

      by : (b : Bool) → (let n : ℕ = cond b 0 w.bytes in n) < 2 ^ 32
      by true = omega arith
      by false = few

  pub longer : (g : Growth) → w.grows ≡ Some g → (0 < g.len) × (g.len < 2 ^ 32)
  longer g e = let c = can.grows g e in (c.some, c.few)

  pub all_taken : CanTakeAll m.geometry (hole_runs m) p.plans.items
  all_taken =
      plans_can m is h s (bytes_left m h.owners w) owners_low p.plans.items needs_met
      (needs_can m is.of_record h job w (bytes_left m h.owners w) few_left can.placed longer)

  first : IsOwnFirst (bytes_left m h.owners w) p.plans.items own
  first = subst (λ (n : ℕ). IsOwnFirst n p.plans.items own) left own_is

  -- a directory that grows has a plan
  pub grown_first : (g : Growth) → w.grows ≡ Some g → HasGrownPlan (moving_out m h w.grows) p.plans.items (id_of (address_in h.nodes g.node))
  grown_first g e = grown_plan m h job w g (can.grows g e) (λ o at. (owners_low o at).1) p.plans.items needs_met

  pub plans_lie : (plan : Plan) → Contains p.plans.items plan → LiesInZones m plan × (plan.id < 2 ^ 24)
  plans_lie plan at = each_lies m is p.plans.items plan all_taken at

  pub placing_first : IsFirstPlacing m h.owners w p.plans.items (placing_of share own)
  placing_first = first_placing m is h.owners w share own p.plans.items of first

  pub lies_first : CanLie m h.owners w (placing_of share own)
  lies_first = can_lie m is h.owners w share own p.plans.items of first all_taken

  pub id_first : id_in (placing_of share own) < 2 ^ 24
  id_first = own_id m is h.owners w share own p.plans.items of first (map (need_of (last_end m.geometry s.leaving s.longer h.owners)) (ids_of m h s) ++ out_need s.out) needs_met

  pub back_first : (gone : List ℕ) → IsStrictlyIncreasing gone
      → ((id : ℕ) → is_one_of gone id ≡ (is_one_of p.ids.items id || is_lost_by p.leaving.items (shared_id (placing_of share own)) h.owners id)) → gone ≡ first_gone m h job w
  back_first gone rising same =
      gone_are m is h s bytes owners_low (shared_by m h.owners w) p.ids.items gone planned.ids rising
      (λ id. same id ∙ ap₂ (λ (ns : List ℕ) (k : Option ℕ). is_one_of p.ids.items id || is_lost_by ns k h.owners id) planned.leaving (shared_same m is h.owners w share own p.plans.items of first))

-- ---- refusals

module _ (m : Map) (h : Parts) (job : Job) (w : Wants) where
  abbrev needs : List Need
  needs = first_needs m h job w

  abbrev gone : List ℕ
  gone = first_gone m h job w

  -- what is short of a need is short at all
  short_first : (x : SafeRefusal) → short_of_needs m needs ≡ Some x → first_shortage m h job w ≡ Some x
  short_first x = by (has_ids_for m needs)
    where
      full : (o : Option (List (List ZoneRun))) → full_if o ≡ Some x → Rattle.fc_safe.specs.FirstNeeds.spread_if m gone (turns_root w.grows) o ≡ Some x
      full None e = e
      full (Some parts) e = absurd (cc)

      by : (b : Bool) → cond b (full_for m (bits_of m.geometry needs)) (Some (SafeRefusal.Refused refusals.IdsFull)) ≡ Some x → cond b (unfit m needs gone (turns_root w.grows)) (Some (SafeRefusal.Refused refusals.IdsFull)) ≡ Some x
      by true e = full (fitted m (bits_of m.geometry needs) (hole_runs m)) e
      by false e = e

  pub short_error : (S T : Type 0) (e : SafeError) → AnswersSafe {T = S} (Rattle.std.specs.Prelude.Err e) (short_of_needs m needs) → AnswersSafe {T = T} (Rattle.std.specs.Prelude.Err e) (first_shortage m h job w)
  short_error S T (errors.Refused r) a = short_first (SafeRefusal.Refused r) a
  short_error S T (errors.Spread n) a = short_first (SafeRefusal.Spread n) a
  short_error S T errors.NoMemory a = tt
  short_error S T errors.DiskFault a = absurd a

  -- If no need is, only the zones may be too many.
  pub spread_last : (plans : List Plan) (root : Bool) → root ≡ turns_root w.grows → short_of_needs m needs ≡ None → AreMet m needs plans → first_shortage m h job w ≡ spread_or (zones_turned m (parts_of plans) gone root)
  spread_last plans root turns none met = by (has_ids_for m needs) none
    where
      by : (b : Bool) → cond b (full_for m (bits_of m.geometry needs)) (Some (SafeRefusal.Refused refusals.IdsFull)) ≡ None
          → cond b (unfit m needs gone (turns_root w.grows)) (Some (SafeRefusal.Refused refusals.IdsFull)) ≡ spread_or (zones_turned m (parts_of plans) gone root)
      by true e =
          ap₂ (λ (r : Bool) (o : Option (List (List ZoneRun))). Rattle.fc_safe.specs.FirstNeeds.spread_if m gone r o) (sym turns) met.fit
      by false e = absurd (cc)
