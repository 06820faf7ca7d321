-- Places for what a job wants of a new map in the safe mode.
use Rattle.std.specs.Prelude.{◌≡◌, ◌<◌, ◌≤◌, ℕ, ◌*◌, ◌^◌, true, false, All, List, [], ◌∷◌, ◌++◌, AllPairs, Contains, IsPermutation, drop, filter, is_some, length, take, Option, Some, None, if◌then◌else◌}
use Rattle.std.specs.Int.{div_ceil}
use Rattle.std.specs.List.{flat_map}
use Rattle.fc_alloc.specs.declared.owner.Owner.{Owner}
use Rattle.fc_newmap.specs.Map.{Map, ZoneRun, zone_numbers}
use Rattle.fc_newmap.specs.Walk.{IsInZone}
use Rattle.fc_image.specs.Layout.{Layout, id_of, low_of, low_start}
use Rattle.fc_image.specs.effects.Placed.{BeginsBefore}
use Rattle.fc_objects.specs.Extents.{sectors_in}
use Rattle.fc_plan.specs.declared.plan.Part.{Part}
use Rattle.fc_plan.specs.declared.plan.Plan.{Plan}
use Rattle.fc_plan.specs.Giving.{is_one_of}
use Rattle.fc_plan.specs.Parts.{front_at, fronts}
use Rattle.fc_placing.specs.declared.placing.Placing.{Placing}
use Rattle.fc_placing.specs.declared.placing.Placing.TheVariants as placings
use Rattle.fc_tree.specs.Counts.{address_in}
use Rattle.fc_tree.specs.Parts.{Parts}
use Rattle.fc_writing.specs.declared.ready.MapStep.{MapStep}
use Rattle.fc_writing.specs.declared.ready.MapStep.TheVariants as steps
use Rattle.fc_writing.specs.declared.ready.RootPlace.{RootPlace}
use Rattle.fc_writing.specs.declared.ready.SpaceStep.{SpaceStep}
use Rattle.fc_change.specs.declared.job.Growth.{Growth}
use Rattle.fc_change.specs.declared.job.Job.{Job}
use Rattle.fc_change.specs.declared.job.Wants.{Wants}
use Rattle.fc_change.specs.declared.spaces.GrownPlace.{GrownPlace}
use Rattle.fc_change.specs.declared.spaces.Spaces.{Spaces}
use Rattle.fc_change.specs.GrownSpace.{plan_sectors, root_of}
use Rattle.fc_change.specs.Places.{IsCopiedFrom, IsPlaceFor, IsPlacingFor, extents_in}
use Rattle.fc_change.specs.Prepared.{HasPlace}
use Rattle.fc_change.specs.Shortage.{slack_for}
use Rattle.fc_placing.specs.Slack.{place_in}
use Rattle.fc_safe.specs.Changed.{named_in}
use Rattle.fc_safe.specs.FirstNeeds.{first_gone, first_needs, leaving_of, longer_of, moving_out}
use Rattle.fc_safe.specs.Moving.{IsPlacedOwner}
use Rattle.fc_safe.specs.Needs.{AreMet}
use Rattle.fc_safe.specs.Zones.{is_turned}

-- ---- the object

-- the first plan's identifier and parts
abbrev pub IsFirstOf : List Plan → Plan → Type 0
IsFirstOf [] plan = ⊥
IsFirstOf (first ∷ rest) plan = (plan.id ≡ first.id) × (plan.parts.items ≡ first.parts.items)

-- In slack if it may have any and there is some, else in the space of the first plan, and without bytes nowhere.
abbrev pub IsFirstPlacing : Map → List Owner → Wants → List Plan → Placing → Type 0
IsFirstPlacing m owners w plans placings.Nowhere = w.bytes ≡ 0
IsFirstPlacing m owners w plans (placings.Shared share) = slack_for m owners w ≡ Some (place_in share)
IsFirstPlacing m owners w plans (placings.New plan) = (slack_for m owners w ≡ None) × IsFirstOf plans plan × (0 < w.bytes)

-- ---- the directory that grows

-- Its address stays, but for a new identifier.
abbrev pub address_then : Option Growth → ℕ → Plan → ℕ
address_then None address plan = address
address_then (Some out) address plan = 256 * plan.id

-- With a new identifier its plan is the last.
abbrev pub IsLastIf : Option Growth → List Plan → Plan → Type 0
IsLastIf None plans plan = Unit {0}
IsLastIf (Some out) plans plan = (before : List Plan) × (plans ≡ before ++ plan ∷ [])

-- Its sectors are those of its plan from where it begins in its identifier.
pub record IsFirstGrown (m : Map) (h : Parts) (g : Growth) (plans : List Plan) (p : GrownPlace) : Type 0 where
  pub plan : Plan
  pub among : Contains plans plan
  pub last : IsLastIf (moving_out m h (Some g)) plans plan
  pub id : plan.id ≡ id_of p.directory.address
  pub directory : p.directory ≡ record { node = g.node; address = address_then (moving_out m h (Some g)) (address_in h.nodes g.node) plan; len = g.len }
  pub moves : p.moves ≡ true
  pub sectors : sectors_in p.extents.items ≡ take (div_ceil g.len m.geometry.sector) (drop (low_start m (low_of p.directory.address)) (plan_sectors m.geometry plan))

abbrev pub IsGrownFirst : Map → Parts → Option Growth → List Plan → Option GrownPlace → Type 0
IsGrownFirst m h None plans place = place ≡ None
IsGrownFirst m h (Some g) plans None = ⊥
IsGrownFirst m h (Some g) plans (Some p) = IsFirstGrown m h g plans p

-- ---- the step

-- all parts of plans
abbrev pub all_fronts : List Plan → List ZoneRun
all_fronts plans = flat_map (λ (p : Plan). fronts p.parts.items) plans

-- the parts of the plans whose identifiers go back
abbrev pub parts_kept : List Plan → List ℕ → List Part
parts_kept plans gone = flat_map (λ (p : Plan). if is_one_of gone p.id then p.parts.items else []) plans

-- It takes these plans' parts and gives these identifiers' runs back, but for the parts that were just taken.
pub record IsFirstStep (m : Map) (plans : List Plan) (gone : List ℕ) (root : Option RootPlace) (s : SpaceStep) : Type 0 where
  pub plans_are : s.plans.items ≡ plans
  pub gone_are : s.gone.items ≡ gone
  pub kept_are : IsPermutation (parts_kept plans gone) s.kept.items
  pub kept_rise : AllPairs BeginsBefore (fronts s.kept.items)
  pub root_is : s.root ≡ root
  pub zones : s.zones.items ≡ filter (is_turned m plans gone (is_some root)) (zone_numbers m.geometry)
  pub few : length s.zones.items ≤ 9

abbrev pub IsStepFirst : Map → List Plan → List ℕ → Option RootPlace → MapStep → Type 0
IsStepFirst m plans gone root (steps.New s) = IsFirstStep m plans gone root s
IsStepFirst m plans gone root (steps.Old space) = ⊥
IsStepFirst m plans gone root steps.Nothing = ⊥

-- ---- all of it

-- Each need is met by first fit. One step takes all plans, and gives back what goes, so that nothing is left to be given back afterwards.
pub record ArePlacedFirst (m : Map) (h : Parts) (job : Job) (w : Wants) (s : Spaces) : Type 0 where
  pub plans : List Plan
  pub placing : Placing
  pub met : AreMet m (first_needs m h job w) plans
  pub placed : IsFirstPlacing m h.owners w plans placing
  pub object : IsPlaceFor m w placing s.object
  pub copied : IsCopiedFrom (Layout.New m) h.nodes w.copied (extents_in s.copied)
  pub grown : IsGrownFirst m h w.grows plans s.grown
  pub take : IsStepFirst m plans (first_gone m h job w) (root_of s.grown) s.take
  pub give : s.give ≡ steps.Nothing

-- ---- what has to be known

-- A directory that grows gets some bytes. The job rewrites it, and it neither goes nor is copied; its owner is in the identifier of its address.
pub record CanGrowFirst (h : Parts) (job : Job) (w : Wants) (g : Growth) : Type 0 where
  pub some : 0 < g.len
  pub few : g.len < 2 ^ 32
  pub own : Owner
  pub among : Contains h.owners own
  pub node : own.node ≡ g.node
  pub id : own.id ≡ id_of (address_in h.nodes g.node)
  pub named : is_one_of (named_in job) g.node ≡ true
  pub stays : is_one_of (leaving_of w None) g.node ≡ false

-- A copied file has a place. Each owner has some sectors of an identifier that an object may have.
pub record CanPlaceFirst (m : Map) (h : Parts) (job : Job) (w : Wants) : Type 0 where
  pub few : w.bytes < 2 ^ 32
  pub grows : (g : Growth) → w.grows ≡ Some g → CanGrowFirst h job w g
  pub copied : (n : ℕ) → w.copied ≡ Some n → HasPlace h n
  pub placed : (o : Owner) → Contains h.owners o → IsPlacedOwner m.geometry (longer_of m.geometry w.grows) o

-- ---- on the way

-- The parts of a plan lie in zones.
abbrev pub LiesInZones : Map → Plan → Type 0
LiesInZones m plan = All (λ part. IsInZone m.geometry (front_at part)) plan.parts.items

-- An object that is placed so can be told where it lies.
abbrev pub CanLie : Map → List Owner → Wants → Placing → Type 0
CanLie m owners w placings.Nowhere = IsPlacingFor m owners w placings.Nowhere
CanLie m owners w (placings.Shared share) = IsPlacingFor m owners w (placings.Shared share)
CanLie m owners w (placings.New plan) = (0 < w.bytes) × LiesInZones m plan
