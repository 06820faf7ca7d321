-- The runs of a new map after an edit, as a command leaves them.
use Rattle.std.proofs.Common.{◌≡◌, ◌≤◌, ◌<◌, ℕ, Bool, true, false, cond, List, [], ◌++◌, refl, sym, ap, ap₂, subst, ◌∙◌, arith, eq-eqb}
use Rattle.std.specs.Prelude.{Contains, IsPermutation, not, nat_le, ◌==◌, ◌||◌, ◌&&◌}
use Rattle.std.proofs.lemmas.Bool.{leb-true, false_from_ne_true as unless}
use Rattle.fc_record.specs.declared.Geometry.{Geometry}
use Rattle.fc_zone.specs.declared.RunKind.{RunKind}
use Rattle.fc_zone.specs.declared.RunKind.TheVariants as kinds
use Rattle.fc_newmap.specs.Map.{Map, ZoneRun, all_runs, has_id, id_runs, is_used}
use Rattle.fc_model.specs.Command.{Command}
use Rattle.fc_image.specs.Layout.{Layout}
use Rattle.fc_image.specs.Walk.{Listing, Object}
use Rattle.fc_image.specs.Objects.{is_lost, is_movable, is_owned, objects_of}
use Rattle.fc_image.specs.Sound.{AreSound}
use Rattle.fc_image.specs.effects.Steady.{NewMapSteady, back_runs, goes_back, has_id_that, holes_with, keeps_runs, runs_that, zone_holes}
use Rattle.fc_plan.specs.Giving.{is_one_of}
use Rattle.fc_changes.proofs.BasicLemmas.{any_in, clash, filter_same}
use Rattle.fc_changes.proofs.SpaceLemmas.{no_runs, not_used, still_owned}
use Rattle.fc_laws.proofs.lemmas.agree.BeforeLemmas.{new_facts}
use Rattle.fc_edits.specs.Edit.{joining, listings_after, objects}
use Rattle.fc_edits.specs.NewPlaces.{is_taken}
use Rattle.fc_edits.proofs.lemmas.NewAgreeLemmas as na
use Rattle.fc_edits.proofs.lemmas.NewPlaceLemmas as np_
use Rattle.fc_edits.proofs.lemmas.OwnedLemmas.{owned_now}
use Rattle.fc_outcomes.specs.NewImage.{IsMapAsked, NewImageEdit, is_now, was}

pub lost_not_owned : (objects : List Object) (id : ℕ) → is_lost objects id ≡ true → is_owned objects id ≡ false
lost_not_owned objects id lost = by (is_owned objects id) lost
  where
    by : (b : Bool) → (not b && not (id == 1) && not (id == 2)) ≡ true → b ≡ false
    by true h = absurd (cc)
    by false h = refl

-- the runs that an identifier keeps, unless it goes back
kept_none : (b : Bool) → cond b [] [] ≡ (let runs : List ZoneRun = [] in runs)
kept_none true = refl
kept_none false = refl

module _ (x : NewImageEdit) (c : Command) (found : List Listing) (order : IsPermutation (listings_after x.parts.edit) found) (sound : AreSound (Layout.New x.parts.m') found) (asked : IsMapAsked x c found) where
  abbrev m : Map
  m = x.parts.m

  abbrev m' : Map
  m' = x.parts.m'

  abbrev before : List Object
  before = objects_of x.parts.listings

  abbrev after : List Object
  after = objects_of found

  some : 1 ≤ m.geometry.zones
  some = (new_facts m x.parts.agreed.is_map).zones

  some' : 1 ≤ m'.geometry.zones
  some' = subst (λ (g : Geometry). 1 ≤ g.zones) (sym x.places.geometry) some

  own_same : (k : ℕ) → is_owned after k ≡ is_owned (objects (joining x.parts.edit) ++ x.places.gives.stay) k
  own_same k = owned_now (na.held_edit x.parts) x.places.gives.stay x.places.gives.others found sound order k

  -- what goes back is what the command gives back
  goes : (k : ℕ) → is_used m k ≡ true → is_one_of x.gone k ≡ goes_back (was x) (is_now x found) c k
  goes k used =
      x.places.gives.exactly k used
      ∙ ap₂ (λ (a b : Bool). a || b) (ap (λ (b : Bool). is_owned before k && not b) (sym (own_same k))) (asked.left k used)

  runs_stay : (k : ℕ) → is_used m k ≡ true → is_one_of x.gone k ≡ false → keeps_runs m m' k
  runs_stay k used stays = np_.runs_keep m m' x.takings x.gone x.parts.listings x.parts.edit k x.places.space x.places.gives used stays

  gone_movable : (k : ℕ) → is_used m k ≡ true → is_one_of x.gone k ≡ true → is_movable before k ≡ true
  gone_movable = np_.gone_movable x.parts.kind m m' x.parts.nodes x.parts.owners x.parts.root x.parts.listings x.parts.edit x.takings x.gone x.parts.agreed x.parts.is_edit x.places

  -- an identifier without runs has none, unless it gets some
  none_stay : (k : ℕ) → is_used m k ≡ false → is_taken x.takings k ≡ false → id_runs m' k ≡ []
  none_stay k unused none =
      x.places.space.others k none ∙ ap (λ (runs : List ZoneRun). cond (is_one_of x.gone k) [] runs) (no_runs m k some unused) ∙ kept_none (is_one_of x.gone k)

  -- identifiers below 3 keep their runs
  low_stays : (k : ℕ) → k < 3 → keeps_runs m m' k
  low_stays k low = by (is_used m k) refl
    where
      not_movable : is_movable before k ≡ true → ⊥
      not_movable h = let high = leb-true 3 k (second (is_owned before k) (nat_le 3 k) h) in omega (arith, low, high)
        where
          second : (a b : Bool) → (a && b) ≡ true → b ≡ true
          second true b e = e
          second false b e = absurd (cc)

      by : (b : Bool) → is_used m k ≡ b → keeps_runs m m' k
      by true used = runs_stay k used (unless (is_one_of x.gone k) (λ goes. not_movable (gone_movable k used goes)))
      by false unused =
          none_stay k unused (unless (is_taken x.takings k) (λ taken. let f = asked.fresh k taken unused in let high = f.0 in omega (arith, low, high))) ∙ sym (no_runs m k some unused)

  lost_stays : (k : ℕ) → is_lost before k ≡ true → is_used m k ≡ true → keeps_runs m m' k
  lost_stays k lost used =
      let none = lost_not_owned before k lost in
      runs_stay k used (unless (is_one_of x.gone k) (λ goes. clash (is_movable before k) (gone_movable k used goes) (ap (λ (b : Bool). b && nat_le 3 k) none)))

  test : (k : RunKind) (p : ZoneRun) → Contains (all_runs m) p → p.1.kind ≡ k → has_id_that (is_one_of x.gone) k ≡ has_id_that (goes_back (was x) (is_now x found) c) k
  test kinds.Hole p at is = refl
  test (kinds.Id k) p at is = goes k (any_in (λ (q : ZoneRun). has_id k q.1.kind) (all_runs m) p at (ap (has_id k) is ∙ eq-eqb k k refl))

  back : runs_that (is_one_of x.gone) m ≡ back_runs (was x) (is_now x found) c m
  back =
      filter_same (λ (p : ZoneRun). has_id_that (is_one_of x.gone) p.1.kind) (λ (p : ZoneRun). has_id_that (goes_back (was x) (is_now x found) c) p.1.kind) (all_runs m)
      (λ p at. test p.1.kind p at refl)

  pub map_steady : NewMapSteady (was x) (is_now x found) c m m'
  map_steady = (
    λ k own used left. runs_stay k used (goes k used ∙ ap₂ (λ (a b : Bool). a || b) (still_owned before after k own) left),
    lost_stays,
    λ k not_owned unused. not_used m' k some'
        (none_stay k unused (unless (is_taken x.takings k) (λ taken. clash (is_owned after k) (asked.fresh k taken unused).1 not_owned))),
    low_stays 1 (omega arith),
    low_stays 2 (omega arith),
    λ z low. x.places.space.holes z low ∙ ap₂ (λ (hs bs : List ZoneRun). holes_with (zone_holes hs z) (zone_holes bs z)) asked.untaken_is back,
  )
