-- `delete`, `set` and `mark` are refused in the safe mode as the nodes tell it, and have what they need.
use Rattle.std.proofs.Common.{◌≡◌, ◌<◌, ◌≤◌, ◌&&◌, ◌||◌, ◌==◌, ◌⊎◌, inl, inr, ℕ, ◌+◌, ◌-◌, Bool, true, false, cond, List, [], ◌∷◌, ◌++◌, length, map, refl, sym, ap, ap₂, subst, ◌∙◌, arith, Some, None, Option}
use Rattle.std.specs.Prelude.{count_by, is_some, nat_le, nat_lt}
use Rattle.std.specs.List.{flat_map, list_any}
use Rattle.std.proofs.lemmas.Bool.{and_parts, le-leb, lt-ltb, or_cases}
use Rattle.fc_alloc.specs.Owners.{owns}
use Rattle.fc_names.specs.Names.{Path}
use Rattle.fc_names.specs.declared.refusal.Refusal.TheVariants as refusals
use Rattle.fc_drafts.specs.declared.room.Room.TheVariants as rooms
use Rattle.fc_record.specs.Record.{id_limit}
use Rattle.fc_newmap.specs.Map.{Map, ZoneRun, bits_in, hole_runs, runs_of, zone_numbers}
use Rattle.fc_newmap.proofs.HeldLemmas.{geometry_facts}
use Rattle.fc_model.specs.Answer.{first_of, when}
use Rattle.fc_model.specs.Command.{Command}
use Rattle.fc_image.specs.Layout.{Layout}
use Rattle.fc_image.specs.Opening.{Opened}
use Rattle.fc_image.specs.effects.Sharing.{new_ids}
use Rattle.fc_image.specs.effects.Short.{object_units, short, space_reasons}
use Rattle.fc_image.specs.safe.SafeShort.{SafeRefusal, changed_ids, changed_zones, fit_refusal, fitted, fitted_needs, holds_changed, is_given_up, needs, places_given_up, root_grows, safe_short, spread_or, suits, takes_slack}
use Rattle.fc_placing.specs.Leaving.{is_kept}
use Rattle.fc_changes.proofs.StepsLemmas.{any_append}
use Rattle.fc_plan.specs.declared.plan.Plan.{Plan}
use Rattle.fc_plan.specs.Giving.{has_run_of, is_one_of}
use Rattle.fc_plan.specs.Parts.{has_part}
use Rattle.fc_tree.specs.Parts.{Parts}
use Rattle.fc_change.specs.declared.job.Growth.{Growth}
use Rattle.fc_change.specs.declared.job.Job.{Job}
use Rattle.fc_change.specs.declared.job.Job.TheVariants as jobs
use Rattle.fc_change.specs.declared.job.Wants.{Wants}
use Rattle.fc_change.specs.Needs.{AreWants, room_of}
use Rattle.fc_change.specs.Shortage.{bytes_left, slack_for}
use Rattle.fc_safe.specs.FirstNeeds.{Stir, first_gone, first_needs, first_shortage, goes, has_ids_for, ids_of, need_of, needs_by, out_need, shared_by, spread_if, stir_of, turns_root, unfit, zones_turned}
use Rattle.fc_safe.specs.Needs.{AreMet, HaveIds, bits_of, is_new}
use Rattle.fc_safe.specs.Staying.{last_end as owners_end}
use Rattle.fc_safe.specs.Views.{IsPlain, IsPlainFor, PlainLaw, StirsAs}
use Rattle.fc_safe.specs.declared.needs.Need.{Need}
use Rattle.fc_safe.proofs.GivenLemmas.{back_zones, changed_high, given_high, parts_zone}
use Rattle.fc_safe.proofs.PlainLemmas.{marks_stir, marks_stirs, plain_stir, removal_stir, removal_stirs, words_stir, words_stirs}
use Rattle.fc_safe.proofs.PlannedLemmas.{count_needs}
use Rattle.fc_safe.proofs.ViewLemmas.{given_same, holds_same, ids_same, needs_same}
use Rattle.fc_safe.proofs.ZoneLemmas.{in_range}

-- ---- the three jobs

-- A job that needs no new object, with what it stirs and the room it has.
pub record IsPlainOf (m : Map) (h : Parts) (v : Opened) (c : Command) (job : Job) (w : Wants) : Type 0 where
  pub dir : ℕ
  pub goes : Option ℕ
  pub still : w.grows ≡ None
  pub no_bytes : w.bytes ≡ 0
  pub no_share : w.shares ≡ None
  pub stir : stir_of m h job w ≡ plain_stir dir goes
  pub stirs : StirsAs m h v c (plain_stir dir goes)
  pub no_units : 0 ≡ object_units m v c
  pub no_slack : (id : ℕ) → false ≡ takes_slack v c id
  pub enough : short v c ≡ None
  pub no_root : root_grows v c ≡ false

pub room_still : (grows : Option Growth) → room_of grows ≡ rooms.Fits → grows ≡ None
room_still None e = refl
room_still (Some g) e = absurd (cc)

below_zero : (n : ℕ) → nat_lt n 0 ≡ false
below_zero n = grind (arith, Rattle.std.proofs.lemmas.Bool.Decides.nat_tests)

enough_for : (ids bits : ℕ) → first_of (when (nat_lt ids 0) refusals.IdsFull ∷ when (nat_lt bits 0) refusals.DiscFull ∷ []) ≡ None
enough_for ids bits = ap₂ (λ (a b : Bool). first_of (when a refusals.IdsFull ∷ when b refusals.DiscFull ∷ [])) (below_zero ids) (below_zero bits)

delete_enough : (m : Map) (v : Opened) (path : Path) → v.layout ≡ Layout.New m → short v (Command.Delete path) ≡ None
unfolding short
delete_enough m v path is = ap (λ (l : Layout). first_of (space_reasons l v (Command.Delete path))) is ∙ enough_for (length (new_ids m)) (bits_in (hole_runs m))

set_enough : (m : Map) (v : Opened) (path : Path) (load exec access : ℕ) → v.layout ≡ Layout.New m → short v (Command.Set path load exec access) ≡ None
unfolding short
set_enough m v path load exec access is = ap (λ (l : Layout). first_of (space_reasons l v (Command.Set path load exec access))) is ∙ enough_for (length (new_ids m)) (bits_in (hole_runs m))

mark_enough : (m : Map) (v : Opened) (path : Path) (attrs : ℕ) → v.layout ≡ Layout.New m → short v (Command.Mark path attrs) ≡ None
unfolding short
mark_enough m v path attrs is = ap (λ (l : Layout). first_of (space_reasons l v (Command.Mark path attrs))) is ∙ enough_for (length (new_ids m)) (bits_in (hole_runs m))

plain_of : (m : Map) (h : Parts) (v : Opened) (c : Command) (job : Job) (w : Wants) → IsPlainFor m h v c job w → IsPlainOf m h v c job w
plain_of m h v c job w is = by c job is.plain is.job_is is.wants
  where
    by : (d : Command) (j : Job) → IsPlain j → Rattle.fc_change.specs.Jobs.IsJob h.nodes v.listings d j is.name → AreWants h j is.name w → IsPlainOf m h v d j w
    by (Command.Delete path) (jobs.Removal t) plain job_is wants = record {
      dir = t.holder;
      goes = Some t.node;
      still = room_still w.grows wants.room;
      no_bytes = wants.bytes;
      no_share = wants.slack;
      stir = removal_stir m h t w (room_still w.grows wants.room) wants.copy wants.left;
      stirs = removal_stirs m h v path t is.view job_is.target;
      no_units = refl;
      no_slack = λ id. refl;
      enough = delete_enough m v path is.view.layout;
      no_root = refl;
    }
    by (Command.Set path load exec access) (jobs.Words t words) plain job_is wants = record {
      dir = t.holder;
      goes = None;
      still = room_still w.grows wants.room;
      no_bytes = wants.bytes;
      no_share = wants.slack;
      stir = words_stir m h t words w (room_still w.grows wants.room) wants.copy wants.left;
      stirs = words_stirs m h v path load exec access t is.view job_is.0;
      no_units = refl;
      no_slack = λ id. refl;
      enough = set_enough m v path load exec access is.view.layout;
      no_root = refl;
    }
    by (Command.Mark path attrs) (jobs.Marks t marks) plain job_is wants = record {
      dir = t.holder;
      goes = None;
      still = room_still w.grows wants.room;
      no_bytes = wants.bytes;
      no_share = wants.slack;
      stir = marks_stir m h t marks w (room_still w.grows wants.room) wants.copy wants.left;
      stirs = marks_stirs m h v path attrs t is.view job_is.0;
      no_units = refl;
      no_slack = λ id. refl;
      enough = mark_enough m v path attrs is.view.layout;
      no_root = refl;
    }
    by (Command.Cat path) (jobs.Removal t) plain job_is wants = absurd job_is
    by (Command.Load path) (jobs.Removal t) plain job_is wants = absurd job_is
    by (Command.Digest path) (jobs.Removal t) plain job_is wants = absurd job_is
    by (Command.Save path load exec bytes) (jobs.Removal t) plain job_is wants = absurd job_is
    by (Command.Create path load exec len) (jobs.Removal t) plain job_is wants = absurd job_is
    by (Command.Cdir path) (jobs.Removal t) plain job_is wants = absurd job_is
    by (Command.Rename from to) (jobs.Removal t) plain job_is wants = absurd job_is
    by (Command.Set path load exec access) (jobs.Removal t) plain job_is wants = absurd job_is
    by Command.Free (jobs.Removal t) plain job_is wants = absurd job_is
    by Command.Check (jobs.Removal t) plain job_is wants = absurd job_is
    by Command.Compact (jobs.Removal t) plain job_is wants = absurd job_is
    by Command.Reclaim (jobs.Removal t) plain job_is wants = absurd job_is
    by (Command.Mark path attrs) (jobs.Removal t) plain job_is wants = absurd job_is
    by (Command.Cat path) (jobs.Words t words) plain job_is wants = absurd job_is
    by (Command.Load path) (jobs.Words t words) plain job_is wants = absurd job_is
    by (Command.Digest path) (jobs.Words t words) plain job_is wants = absurd job_is
    by (Command.Save path load exec bytes) (jobs.Words t words) plain job_is wants = absurd job_is
    by (Command.Create path load exec len) (jobs.Words t words) plain job_is wants = absurd job_is
    by (Command.Cdir path) (jobs.Words t words) plain job_is wants = absurd job_is
    by (Command.Delete path) (jobs.Words t words) plain job_is wants = absurd job_is
    by (Command.Rename from to) (jobs.Words t words) plain job_is wants = absurd job_is
    by Command.Free (jobs.Words t words) plain job_is wants = absurd job_is
    by Command.Check (jobs.Words t words) plain job_is wants = absurd job_is
    by Command.Compact (jobs.Words t words) plain job_is wants = absurd job_is
    by Command.Reclaim (jobs.Words t words) plain job_is wants = absurd job_is
    by (Command.Mark path attrs) (jobs.Words t words) plain job_is wants = absurd job_is
    by (Command.Cat path) (jobs.Marks t marks) plain job_is wants = absurd job_is
    by (Command.Load path) (jobs.Marks t marks) plain job_is wants = absurd job_is
    by (Command.Digest path) (jobs.Marks t marks) plain job_is wants = absurd job_is
    by (Command.Save path load exec bytes) (jobs.Marks t marks) plain job_is wants = absurd job_is
    by (Command.Create path load exec len) (jobs.Marks t marks) plain job_is wants = absurd job_is
    by (Command.Cdir path) (jobs.Marks t marks) plain job_is wants = absurd job_is
    by (Command.Delete path) (jobs.Marks t marks) plain job_is wants = absurd job_is
    by (Command.Rename from to) (jobs.Marks t marks) plain job_is wants = absurd job_is
    by (Command.Set path load exec access) (jobs.Marks t marks) plain job_is wants = absurd job_is
    by Command.Free (jobs.Marks t marks) plain job_is wants = absurd job_is
    by Command.Check (jobs.Marks t marks) plain job_is wants = absurd job_is
    by Command.Compact (jobs.Marks t marks) plain job_is wants = absurd job_is
    by Command.Reclaim (jobs.Marks t marks) plain job_is wants = absurd job_is
    by d (jobs.File slot words) plain job_is wants = absurd plain
    by d (jobs.Directory dir) plain job_is wants = absurd plain
    by d (jobs.Move renaming) plain job_is wants = absurd plain

module _ (m : Map) (h : Parts) (v : Opened) (c : Command) (job : Job) (w : Wants) (is : IsPlainFor m h v c job w) (p : IsPlainOf m h v c job w) where
  abbrev s : Stir
  s = stir_of m h job w

  stirred : StirsAs m h v c s
  stirred = subst (StirsAs m h v c) (sym p.stir) p.stirs

  none_left : bytes_left m h.owners w ≡ 0
  none_left = by (is_some (slack_for m h.owners w))
    where
      by : (b : Bool) → (let n : ℕ = cond b 0 w.bytes in n) ≡ 0
      by true = refl
      by false = p.no_bytes

  -- the needs
  needs_are : first_needs m h job w ≡ needs_by m h s 0
  needs_are = ap (needs_by m h s) none_left

  bits_are : bits_of m.geometry (first_needs m h job w) ≡ needs m v c
  bits_are = ap (bits_of m.geometry) needs_are ∙ needs_same m h v c s is.view stirred 0 p.no_units

  pub fitted_is : fitted m (bits_of m.geometry (first_needs m h job w)) (hole_runs m) ≡ fitted_needs m v c
  fitted_is = ap (λ (bits : List ℕ). fitted m bits (hole_runs m)) bits_are

  no_ids : has_ids_for m (first_needs m h job w) ≡ true
  no_ids =
      let count : count_by is_new (first_needs m h job w) ≡ 0 = ap (λ (ns : List Need). count_by is_new ns) needs_are ∙ count_needs m h s 0 ∙ ap (λ (x : Stir). Rattle.fc_image.specs.effects.Short.one_if (nat_lt 0 0) + Rattle.fc_image.specs.effects.Short.one_if (is_some x.out)) p.stir in
      ap (λ (n : ℕ). nat_le n (length (new_ids m))) count ∙ le-leb 0 (length (new_ids m)) (omega arith)

  -- what goes back
  shares_none : shared_by m h.owners w ≡ None
  shares_none = ap (λ (o : Option ℕ). Rattle.std.specs.Option.option_map (λ (share : ℕ × ℕ). share.0) (Rattle.std.specs.Option.option_and_then (λ (dir : ℕ). Rattle.fc_placing.specs.Places.slack_left m h.owners dir w.bytes) o)) p.no_share

  goes_is : (id : ℕ) → 3 ≤ id → goes h s (shared_by m h.owners w) id ≡ is_given_up m v c id
  goes_is id low = given_same m h v c s is.view stirred (shared_by m h.owners w) id (ap (λ (o : Option ℕ). is_kept o id) shares_none ∙ p.no_slack id) low

  goes_low : (id : ℕ) → goes h s (shared_by m h.owners w) id ≡ true → 3 ≤ id
  goes_low id e = elim (or_cases (Rattle.fc_safe.specs.Staying.holds_changed s.changed s.leaving h.owners id) (Rattle.fc_safe.specs.Gone.is_lost_by s.leaving (shared_by m h.owners w) h.owners id) e) [
    | inl holds ↦ (changed_high m h v is.view c is.suits id (sym (holds_same m h v c s is.view stirred id) ∙ holds)).0
    | inr lost ↦
        (let both = and_parts (list_any (owns id) h.owners) (Rattle.fc_safe.specs.Gone.is_left s.leaving (shared_by m h.owners w) h.owners id) lost in
        Rattle.std.proofs.lemmas.Bool.ltb-true 2 id (and_parts (nat_lt 2 id) _ both.1).0)
  ]

  one_is : (id : ℕ) → is_one_of (first_gone m h job w) id ≡ (nat_lt id (id_limit m.geometry) && goes h s (shared_by m h.owners w) id)
  one_is id = in_range (goes h s (shared_by m h.owners w)) (id_limit m.geometry) id

  pub given_is : (id : ℕ) → 3 ≤ id → is_one_of (first_gone m h job w) id ≡ is_given_up m v c id
  given_is id low = one_is id ∙ ap (λ (b : Bool). nat_lt id (id_limit m.geometry) && b) (goes_is id low) ∙ by (is_given_up m v c id) refl
    where
      by : (b : Bool) → is_given_up m v c id ≡ b → (nat_lt id (id_limit m.geometry) && b) ≡ b
      by true e = ap (λ (a : Bool). a && true) (lt-ltb id (id_limit m.geometry) (given_high m h v is.view c is.suits id e))
      by false e = none (nat_lt id (id_limit m.geometry))
        where
          none : (a : Bool) → (a && false) ≡ false
          none true = refl
          none false = refl

  gone_low : (id : ℕ) → is_one_of (first_gone m h job w) id ≡ true → 3 ≤ id
  gone_low id e = goes_low id (and_parts (nat_lt id (id_limit m.geometry)) (goes h s (shared_by m h.owners w) id) (sym (one_is id) ∙ e)).1

  -- ---- zones

  zones_is : (parts : List (List ZoneRun)) → zones_turned m parts (first_gone m h job w) false ≡ changed_zones m v c parts
  zones_is parts =
      ap (λ (xs : List ℕ). length xs)
      (Rattle.fc_safe.proofs.StepLemmas.filter_in (λ (z : ℕ). (list_any (λ (ps : List ZoneRun). has_part ps z) parts || has_run_of (first_gone m h job w) (runs_of m z)) || (false && (z == 0)))
      (λ (z : ℕ). list_any (λ (q : ZoneRun). q.0 == z) (flat_map (λ (ps : List ZoneRun). ps) parts ++ places_given_up m v c) || ((z == 0) && root_grows v c)) (zone_numbers m.geometry)
      (λ z at.
      ap₂ (λ (a b : Bool). (a || b) || false) (sym (parts_zone parts z))
      (sym (back_zones m (geometry_facts m.geometry is.view.is_map.of_record).zones (is_given_up m v c) (first_gone m h job w) given_is gone_low (given_high m h v is.view c is.suits) z (Rattle.fc_safe.proofs.StepLemmas.range_low m.geometry.zones z at)))
      ∙ ap (λ (b : Bool). b || false) (sym (any_append (λ (q : ZoneRun). q.0 == z) (flat_map (λ (ps : List ZoneRun). ps) parts) (places_given_up m v c)))
      ∙ ap (λ (b : Bool). list_any (λ (q : ZoneRun). q.0 == z) (flat_map (λ (ps : List ZoneRun). ps) parts ++ places_given_up m v c) || b) (sym (ap (λ (b : Bool). (z == 0) && b) p.no_root ∙ none (z == 0)))))
    where
      none : (a : Bool) → (a && false) ≡ false
      none true = refl
      none false = refl

  -- ---- refusals

  pub short_is : safe_short m v c ≡ first_shortage m h job w
  unfolding safe_short
  short_is =
      ap (λ (o : Option Rattle.fc_names.specs.declared.refusal.Refusal.Refusal). Rattle.fc_image.specs.safe.SafeShort.safe_or (Rattle.fc_image.specs.safe.SafeShort.early_refusal o) (fit_refusal m v c (fitted_needs m v c))) p.enough
      ∙ by (fitted_needs m v c)
      ∙ sym (ap₂ (λ (r : Bool) (o : Option (List (List ZoneRun))). spread_if m (first_gone m h job w) r o) (ap turns_root p.still) fitted_is)
      ∙ sym (ap (λ (b : Bool). let o : Option SafeRefusal = cond b (unfit m (first_needs m h job w) (first_gone m h job w) (turns_root w.grows)) (Some (SafeRefusal.Refused refusals.IdsFull)) in o) no_ids)
    where
      by : (o : Option (List (List ZoneRun))) → fit_refusal m v c o ≡ spread_if m (first_gone m h job w) false o
      by None = refl
      by (Some parts) = ap spread_or (sym (zones_is parts))

  -- ---- plans

  one_need : (end : ℕ → ℕ) (held new left : List ℕ) (plans : List Plan) → HaveIds new (map (need_of end) held) plans left → map (λ (q : Plan). q.id) plans ≡ held
  one_need end [] new left [] have = refl
  one_need end [] new left (q ∷ plans) have = absurd have
  one_need end (id ∷ held) new left [] have = absurd have
  one_need end (id ∷ held) new left (q ∷ plans) have = ap₂ (λ (x : ℕ) (xs : List ℕ). x ∷ xs) have.1.0 (one_need end held have.0 left plans have.2)

  moved_only : needs_by m h s 0 ≡ map (need_of (owners_end m.geometry s.leaving s.longer h.owners)) (ids_of m h s)
  moved_only =
      ap (λ (x : Stir). map (need_of (owners_end m.geometry s.leaving s.longer h.owners)) (ids_of m h s) ++ out_need x.out) p.stir ∙ Rattle.std.proofs.Common.append-nil (map (need_of (owners_end m.geometry s.leaving s.longer h.owners)) (ids_of m h s))

  pub plan_ids : (plans : List Plan) → AreMet m (first_needs m h job w) plans → map (λ (q : Plan). q.id) plans ≡ changed_ids m v c
  plan_ids plans met =
      one_need (owners_end m.geometry s.leaving s.longer h.owners) (ids_of m h s) (new_ids m) met.left plans (subst (λ (ns : List Need). HaveIds (new_ids m) ns plans met.left) (needs_are ∙ moved_only) met.ids)
      ∙ ids_same m h v c s is.view stirred

pub plain_law : PlainLaw
plain_law = record {
  short = λ m h v c job w is. short_is m h v c job w is (plain_of m h v c job w is);
  fitted = λ m h v c job w plans is met. sym (fitted_is m h v c job w is (plain_of m h v c job w is)) ∙ met.fit;
  ids = λ m h v c job w plans is met. plan_ids m h v c job w is (plain_of m h v c job w is) plans met;
  given = λ m h v c job w id is low. given_is m h v c job w is (plain_of m h v c job w is) id low;
}
