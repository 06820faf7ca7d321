-- Places for new objects, and the refusals for want of space.
use Rattle.std.proofs.Common.{◌≡◌, ◌<◌, ◌≤◌, ◌&&◌, ◌+◌, ◌*◌, ℕ, Bool, cond, List, [], ◌∷◌, length, sym, ap, ap₂, subst, ◌∙◌, arith, None, Option}
use Rattle.std.specs.Prelude.{Contains, Result, Ok, Err, IfOk, nat_lt}
use Rattle.std.proofs.lemmas.Bool.{le-ltb}
use Rattle.fc_names.specs.declared.refusal.Refusal.{Refusal}
use Rattle.fc_names.specs.declared.refusal.Refusal.TheVariants as refusals
use Rattle.fc_newmap.specs.Map.{Map, bits_in, hole_runs}
use Rattle.fc_newmap.specs.NewMap.{IsNewMap}
use Rattle.fc_model.specs.Answer.{first_of, when}
use Rattle.fc_model.specs.Command.{Command}
use Rattle.fc_image.specs.Layout.{Layout}
use Rattle.fc_image.specs.Opening.{Opened}
use Rattle.fc_image.specs.effects.Placed.{IsPlan}
use Rattle.fc_image.specs.effects.Sharing.{new_ids, units}
use Rattle.fc_image.specs.effects.Short.{growth_in, growth_units, moved_growth, needed_bits, needed_ids, object_units, one_if, short, space_reasons}
use Rattle.fc_plan.specs.declared.plan.Plan.{Plan}
use Rattle.fc_plan.specs.declared.supply.PlanError.{PlanError}
use Rattle.fc_plan.specs.Parts.{fronts}
use Rattle.fc_plan.specs.Supply.{Stock, stock_of}
use Rattle.fc_plan.proofs.Two.{can_take}
use Rattle.fc_changes.proofs.BasicLemmas.{and_false, and_then_none, first_in, map_or_none}
use Rattle.fc_placing.specs.Places.{FitsDirectory, IsOwnPlan}

-- ---- the refusals for want of space

-- if so many new bits are needed for the object, and none else
abbrev pub space_refusal : Map → ℕ → Option Refusal
space_refusal m u = first_of (when (nat_lt (length (new_ids m)) (one_if (nat_lt 0 u))) refusals.IdsFull ∷ when (nat_lt (bits_in (hole_runs m)) u) refusals.DiscFull ∷ [])

module _ (m : Map) (v : Opened) (c : Command) (new : v.layout ≡ Layout.New m) (fits : FitsDirectory v c) where
  moved : moved_growth v c ≡ None
  moved = and_then_none _ (growth_in v c) fits.no_growth

  no_bits : growth_units m v c ≡ 0
  no_bits = map_or_none _ (moved_growth v c) 0 moved

  ids_are : needed_ids m v c ≡ one_if (nat_lt 0 (object_units m v c))
  ids_are = ap (λ (n : ℕ). one_if (nat_lt 0 (object_units m v c)) + n) (map_or_none _ (moved_growth v c) 0 moved) ∙ omega arith

  bits_are : needed_bits m v c ≡ object_units m v c
  bits_are =
      ap (λ (b : ℕ). cond (nat_lt 0 (object_units m v c) && nat_lt 0 b) (object_units m v c + b + 2 * m.geometry.min) (object_units m v c + b)) no_bits
      ∙ ap (λ (t : Bool). cond t (object_units m v c + 0 + 2 * m.geometry.min) (object_units m v c + 0)) (and_false (nat_lt 0 (object_units m v c))) ∙ omega arith

  pub short_is : short v c ≡ space_refusal m (object_units m v c)
  unfolding short
  short_is =
      ap (λ (t : Bool). first_of (when t refusals.DirFull ∷ space_reasons v.layout v c)) fits.not_full
      ∙ ap (λ (l : Layout). first_of (space_reasons l v c)) new
      ∙ ap₂ (λ (i b : ℕ). first_of (when (nat_lt (length (new_ids m)) i) refusals.IdsFull ∷ when (nat_lt (bits_in (hole_runs m)) b) refusals.DiscFull ∷ [])) ids_are bits_are

pub none_refused : (m : Map) (u : ℕ) → one_if (nat_lt 0 u) ≤ length (new_ids m) → u ≤ bits_in (hole_runs m) → space_refusal m u ≡ None
none_refused m u ids bits =
    ap₂ (λ (a b : Bool). first_of (when a refusals.IdsFull ∷ when b refusals.DiscFull ∷ [])) (le-ltb (length (new_ids m)) (one_if (nat_lt 0 u)) ids) (le-ltb (bits_in (hole_runs m)) u bits)

-- ---- plans

-- what a supply answers
module _ (m : Map) (is : IsNewMap m) (bytes : ℕ) (some : 0 < bytes) (old new : Stock) (all : old ≡ stock_of m) where
  abbrev Answer : Type 0
  Answer = Result Plan PlanError

  pub own_plan : (r : Answer) → IfOk r (λ plan. IsPlan old.geometry old.holes (units old.geometry bytes) (fronts plan.parts.items)) → IfOk r (λ plan. old.ids ≡ plan.id ∷ new.ids) → IfOk r (IsOwnPlan m bytes)
  own_plan (Ok plan) is_plan id =
      let p : IsPlan m.geometry (hole_runs m) (units m.geometry bytes) (fronts plan.parts.items) = subst (λ (s : Stock). IsPlan s.geometry s.holes (units s.geometry bytes) (fronts plan.parts.items)) all is_plan in
      let here : Contains (new_ids m) plan.id = subst (λ (ids : List ℕ). Contains ids plan.id) (sym id ∙ ap (λ (s : Stock). s.ids) all) (first_in plan.id new.ids) in
      let can = can_take m (hole_runs m) (units m.geometry bytes) plan p here in
      record { some = some; is_new = here; unused = can.1; plan = p; can = can.0 }
  own_plan (Err e) is_plan id = tt
