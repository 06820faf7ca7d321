-- A job that stirs what its command does is refused for want of space as that is, gets what that needs, and gives back what that gives up.
use Rattle.std.proofs.Common.{◌≡◌, ◌≤◌, ◌&&◌, ◌||◌, ◌==◌, inl, inr, ℕ, zero, suc, ◌+◌, Bool, true, false, cond, List, [], ◌∷◌, ◌++◌, length, map, refl, sym, ap, ap₂, ◌∙◌, arith, Some, None, Option}
use Rattle.std.specs.Prelude.{count_by, drop, is_some, nat_le, nat_lt, not, take}
use Rattle.std.specs.List.{flat_map, list_any}
use Rattle.std.specs.Option.{option_map_or}
use Rattle.std.proofs.lemmas.Bool.{and_parts, lt-ltb, ltb-true, ne_eqb, or_cases}
use Rattle.fc_alloc.specs.Owners.{owns}
use Rattle.fc_names.specs.declared.refusal.Refusal.TheVariants as refusals
use Rattle.fc_record.specs.Record.{id_limit}
use Rattle.fc_newmap.specs.Map.{Map, ZoneRun, bits_in, hole_runs, runs_of, zone_numbers}
use Rattle.fc_newmap.proofs.HeldLemmas.{geometry_facts}
use Rattle.fc_model.specs.Answer.{first_of, when}
use Rattle.fc_model.specs.Command.{Command}
use Rattle.fc_image.specs.Layout.{Layout}
use Rattle.fc_image.specs.Opening.{Opened}
use Rattle.fc_image.specs.effects.Sharing.{new_ids, units}
use Rattle.fc_image.specs.effects.Short.{Gain, gain_in, is_full_with, needed_bits, needed_ids, object_units, one_if, short, space_reasons}
use Rattle.fc_image.specs.safe.SafeShort.{SafeRefusal, changed_zones, early_refusal, fit_refusal, fitted, fitted_needs, is_given_up, is_suitable, needs, new_id_growth, places_given_up, root_grows, safe_or, safe_short, spread_or, takes_slack}
use Rattle.fc_placing.specs.Leaving.{is_kept}
use Rattle.fc_changes.proofs.StepsLemmas.{any_append}
use Rattle.fc_plan.specs.declared.plan.Plan.{Plan}
use Rattle.fc_plan.specs.Giving.{has_run_of, is_one_of}
use Rattle.fc_plan.specs.Parts.{has_part}
use Rattle.fc_plan.proofs.Units.{units_some}
use Rattle.fc_tree.specs.Parts.{Parts}
use Rattle.fc_change.specs.declared.job.Job.{Job}
use Rattle.fc_change.specs.declared.job.Wants.{Wants}
use Rattle.fc_change.specs.Shortage.{bytes_left}
use Rattle.fc_safe.specs.FirstNeeds.{Stir, first_gone, first_needs, first_shortage, goes, has_ids_for, ids_of, moving_out, shared_by, spread_if, stir_of, turns_root, unfit, zones_turned}
use Rattle.fc_safe.specs.Gone.{is_left, is_lost_by}
use Rattle.fc_safe.specs.Needs.{AreMet, bits_of, is_new, parts_of}
use Rattle.fc_safe.specs.Staying.{holds_changed, last_end}
use Rattle.fc_safe.specs.Views.{IsViewOf, StirsAs}
use Rattle.fc_safe.proofs.GivenLemmas.{back_zones, changed_high, given_high, parts_zone}
use Rattle.fc_safe.proofs.PlannedLemmas.{count_needs}
use Rattle.fc_safe.proofs.StepLemmas.{filter_in, range_low}
use Rattle.fc_safe.proofs.ViewLemmas.{given_same, holds_same, ids_same, needs_same}
use Rattle.fc_safe.proofs.ZoneLemmas.{in_range}
use Rattle.fc_safecommands.specs.Jobs.{ids_taken, out_count, own_count}
use Rattle.fc_safecommands.proofs.lemmas.GrowthLemmas.{AreGrown, count_same, root_same, some_same}
use Rattle.fc_safecommands.proofs.lemmas.PlanLemmas.{all_taken}
use Rattle.fc_safecommands.proofs.lemmas.TestLemmas.{and_none}

-- What it stirs and makes is what the command does, and the directory that it gives a name isn't full.
pub record IsStirredFor (m : Map) (h : Parts) (v : Opened) (c : Command) (job : Job) (w : Wants) : Type 0 where
  pub view : IsViewOf m h v
  pub suits : is_suitable v ≡ true
  pub stirs : StirsAs m h v c (stir_of m h job w)
  pub grown : AreGrown h v c w.grows
  pub object : units m.geometry (bytes_left m h.owners w) ≡ object_units m v c
  pub shared : (id : ℕ) → is_kept (shared_by m h.owners w) id ≡ takes_slack v c id
  pub not_full : option_map_or (λ (g : Gain). is_full_with g.listing.content g) (gain_in v c) false ≡ false

-- ---- tests

turned : (a b : Bool) → (a && b) ≡ (b && a)
turned true true = refl
turned true false = refl
turned false true = refl
turned false false = refl

not_more : (n k : ℕ) → not (nat_lt k n) ≡ nat_le n k
not_more n k = grind (arith, Rattle.std.proofs.lemmas.Bool.Decides.nat_tests)

-- Of the early refusals only the one for want of identifiers stays.
early_of : (a b : Bool) → early_refusal (first_of (when a refusals.IdsFull ∷ when b refusals.DiscFull ∷ [])) ≡ cond (not a) None (Some (SafeRefusal.Refused refusals.IdsFull))
early_of true b = refl
early_of false true = refl
early_of false false = refl

module _ (m : Map) (h : Parts) (v : Opened) (c : Command) (job : Job) (w : Wants) (is : IsStirredFor m h v c job w) where
  abbrev s : Stir
  s = stir_of m h job w

  abbrev bytes : ℕ
  bytes = bytes_left m h.owners w

  bits_are : bits_of m.geometry (first_needs m h job w) ≡ needs m v c
  bits_are = needs_same m h v c s is.view is.stirs bytes is.object

  fitted_is : fitted m (bits_of m.geometry (first_needs m h job w)) (hole_runs m) ≡ fitted_needs m v c
  fitted_is = ap (λ (bits : List ℕ). fitted m bits (hole_runs m)) bits_are

  -- ---- identifiers

  some_bits : (n : ℕ) → nat_lt 0 n ≡ nat_lt 0 (units m.geometry n)
  some_bits zero = refl
  some_bits (suc n) = lt-ltb 0 (suc n) (omega arith) ∙ sym (lt-ltb 0 (units m.geometry (suc n)) (units_some m (suc n) is.view.is_map (omega arith)))

  own_some : nat_lt 0 bytes ≡ nat_lt 0 (object_units m v c)
  own_some = some_bits bytes ∙ ap (λ (n : ℕ). nat_lt 0 n) is.object

  count_is : count_by is_new (first_needs m h job w) ≡ needed_ids m v c
  count_is = count_needs m h s bytes ∙ ap₂ (λ (b : Bool) (n : ℕ). one_if b + n) own_some (sym (count_same m h v is.view c w.grows is.grown))

  has_ids : not (nat_lt (length (new_ids m)) (needed_ids m v c)) ≡ has_ids_for m (first_needs m h job w)
  has_ids = not_more (needed_ids m v c) (length (new_ids m)) ∙ ap (λ (n : ℕ). nat_le n (length (new_ids m))) (sym count_is)

  early : early_refusal (short v c) ≡ cond (has_ids_for m (first_needs m h job w)) None (Some (SafeRefusal.Refused refusals.IdsFull))
  unfolding short
  early =
      ap (λ (b : Bool). early_refusal (first_of (when b refusals.DirFull ∷ space_reasons v.layout v c))) is.not_full
      ∙ ap (λ (l : Layout). early_refusal (first_of (space_reasons l v c))) is.view.layout ∙ early_of (nat_lt (length (new_ids m)) (needed_ids m v c)) (nat_lt (bits_in (hole_runs m)) (needed_bits m v c))
      ∙ ap (λ (b : Bool). let o : Option SafeRefusal = cond b None (Some (SafeRefusal.Refused refusals.IdsFull)) in o) has_ids

  -- ---- what goes back

  goes_is : (id : ℕ) → 3 ≤ id → goes h s (shared_by m h.owners w) id ≡ is_given_up m v c id
  goes_is id low = given_same m h v c s is.view is.stirs (shared_by m h.owners w) id (is.shared id) low

  goes_low : (id : ℕ) → goes h s (shared_by m h.owners w) id ≡ true → 3 ≤ id
  goes_low id e = elim (or_cases (holds_changed s.changed s.leaving h.owners id) (is_lost_by s.leaving (shared_by m h.owners w) h.owners id) e) [
    | inl holds ↦ (changed_high m h v is.view c is.suits id (sym (holds_same m h v c s is.view is.stirs id) ∙ holds)).0
    | inr lost ↦
        (let both = and_parts (list_any (owns id) h.owners) (is_left s.leaving (shared_by m h.owners w) h.owners id) lost in
        ltb-true 2 id (and_parts (nat_lt 2 id) _ both.1).0)
  ]

  one_is : (id : ℕ) → is_one_of (first_gone m h job w) id ≡ (nat_lt id (id_limit m.geometry) && goes h s (shared_by m h.owners w) id)
  one_is id = in_range (goes h s (shared_by m h.owners w)) (id_limit m.geometry) id

  pub given_is : (id : ℕ) → 3 ≤ id → is_one_of (first_gone m h job w) id ≡ is_given_up m v c id
  given_is id low = one_is id ∙ ap (λ (b : Bool). nat_lt id (id_limit m.geometry) && b) (goes_is id low) ∙ by (is_given_up m v c id) refl
    where
      by : (b : Bool) → is_given_up m v c id ≡ b → (nat_lt id (id_limit m.geometry) && b) ≡ b
      by true e = ap (λ (a : Bool). a && true) (lt-ltb id (id_limit m.geometry) (given_high m h v is.view c is.suits id e))
      by false e = and_none (nat_lt id (id_limit m.geometry))

  gone_low : (id : ℕ) → is_one_of (first_gone m h job w) id ≡ true → 3 ≤ id
  gone_low id e = goes_low id (and_parts (nat_lt id (id_limit m.geometry)) (goes h s (shared_by m h.owners w) id) (sym (one_is id) ∙ e)).1

  -- ---- zones

  zones_is : (parts : List (List ZoneRun)) → zones_turned m parts (first_gone m h job w) (turns_root w.grows) ≡ changed_zones m v c parts
  zones_is parts =
      ap (λ (xs : List ℕ). length xs)
      (filter_in (λ (z : ℕ). (list_any (λ (ps : List ZoneRun). has_part ps z) parts || has_run_of (first_gone m h job w) (runs_of m z)) || (turns_root w.grows && (z == 0)))
      (λ (z : ℕ). list_any (λ (q : ZoneRun). q.0 == z) (flat_map (λ (ps : List ZoneRun). ps) parts ++ places_given_up m v c) || ((z == 0) && root_grows v c)) (zone_numbers m.geometry)
      (λ z at.
      ap₂ (λ (a b : Bool). (a || b) || (turns_root w.grows && (z == 0))) (sym (parts_zone parts z))
      (sym (back_zones m (geometry_facts m.geometry is.view.is_map.of_record).zones (is_given_up m v c) (first_gone m h job w) given_is gone_low (given_high m h v is.view c is.suits) z (range_low m.geometry.zones z at)))
      ∙ ap (λ (b : Bool). b || (turns_root w.grows && (z == 0))) (sym (any_append (λ (q : ZoneRun). q.0 == z) (flat_map (λ (ps : List ZoneRun). ps) parts) (places_given_up m v c)))
      ∙ ap (λ (b : Bool). list_any (λ (q : ZoneRun). q.0 == z) (flat_map (λ (ps : List ZoneRun). ps) parts ++ places_given_up m v c) || b)
      (turned (turns_root w.grows) (z == 0) ∙ ap (λ (b : Bool). (z == 0) && b) (sym (root_same m h v is.view c w.grows is.grown)))))

  -- ---- refusals

  pub short_is : safe_short m v c ≡ first_shortage m h job w
  unfolding safe_short
  short_is = ap (λ (e : Option SafeRefusal). safe_or e (fit_refusal m v c (fitted_needs m v c))) early ∙ by (has_ids_for m (first_needs m h job w))
    where
      fits : (o : Option (List (List ZoneRun))) → fit_refusal m v c o ≡ spread_if m (first_gone m h job w) (turns_root w.grows) o
      fits None = refl
      fits (Some parts) = ap spread_or (sym (zones_is parts))

      by : (b : Bool) → safe_or (cond b None (Some (SafeRefusal.Refused refusals.IdsFull))) (fit_refusal m v c (fitted_needs m v c))
          ≡ cond b (unfit m (first_needs m h job w) (first_gone m h job w) (turns_root w.grows)) (Some (SafeRefusal.Refused refusals.IdsFull))
      by true = fits (fitted_needs m v c) ∙ ap (spread_if m (first_gone m h job w) (turns_root w.grows)) (sym fitted_is)
      by false = refl

  -- ---- plans

  pub fitted_by : (plans : List Plan) → AreMet m (first_needs m h job w) plans → fitted_needs m v c ≡ Some (parts_of plans)
  fitted_by plans met = sym fitted_is ∙ met.fit

  pub out_is : is_some (moving_out m h w.grows) ≡ is_some (new_id_growth v c)
  out_is = some_same m h v is.view c w.grows is.grown

  no_zero : (n : ℕ) → not (n == 0) ≡ nat_lt 0 n
  no_zero zero = refl
  no_zero (suc n) = ap not (ne_eqb (suc n) 0 (λ e. omega (arith, e))) ∙ sym (lt-ltb 0 (suc n) (omega arith))

  pub plan_ids : (plans : List Plan) → AreMet m (first_needs m h job w) plans → map (λ (p : Plan). p.id) plans ≡ ids_taken m v c
  plan_ids plans met =
      all_taken (new_ids m) bytes (last_end m.geometry s.leaving s.longer h.owners) (ids_of m h s) s.out plans met.left met.ids
      ∙ ap₂ (λ (own : Bool) (out : Bool). take (one_if own) (new_ids m) ++ (ids_of m h s ++ take (one_if out) (drop (one_if own) (new_ids m))))
      (no_zero bytes ∙ own_some) out_is
      ∙ ap (λ (held : List ℕ). take (own_count m v c) (new_ids m) ++ (held ++ take (out_count v c) (drop (own_count m v c) (new_ids m))))
      (ids_same m h v c s is.view is.stirs)
