-- A directory that grows, from how it is judged to where it lies.
use Rattle.std.proofs.Common.{◌≡◌, ◌<◌, ◌⊎◌, inl, inr, ℕ, Bool, true, false, cond, Option, Some, None, refl, sym, ap, ap₂, subst, ◌∙◌, arith}
use Rattle.std.specs.Prelude.{AllPairs, IfSome}
use Rattle.fc_newmap.specs.Map.{Map}
use Rattle.fc_newmap.specs.NewMap.{IsNewMap}
use Rattle.fc_image.specs.effects.Placed.{BeginsBefore}
use Rattle.fc_plan.specs.declared.plan.Plan.{Plan}
use Rattle.fc_plan.specs.Parts.{fronts}
use Rattle.fc_plan.specs.Supply.{Stock, stock_of}
use Rattle.fc_tree.specs.Counts.{address_in}
use Rattle.fc_tree.specs.Parts.{Parts}
use Rattle.fc_writing.specs.declared.ready.MapStep.{MapStep}
use Rattle.fc_writing.specs.declared.ready.RootPlace.{RootPlace}
use Rattle.fc_change.specs.declared.change.Regrowth.{Regrowth}
use Rattle.fc_objects.specs.Extents.{sectors_in}
use Rattle.fc_change.specs.declared.job.Growth.{Growth}
use Rattle.fc_change.specs.declared.placing.growth.Growing.{Growing}
use Rattle.fc_change.specs.declared.placing.growth.Growing.TheVariants as growings
use Rattle.fc_change.specs.declared.spaces.GrownPlace.{GrownPlace}
use Rattle.fc_change.specs.GrownSpace.{IsGrown, IsNewSpace, LeadsTo, address_moved, gone_at_once, is_alone, kept_parts, place_of_plan, plans_of}
use Rattle.fc_change.specs.Planning.{IsGrowthPlan, IsGrowthTaken, IsGrownTo, IsJudged, IsLonger, IsMovedIf, IsMovedTo, IsNewSpaceOf, IsObjectTaken, IsPlannedAfter, alone_in, len_moved}
use Rattle.fc_change.specs.Shortage.{grown_bytes, is_grown_alone, short_of}
use Rattle.fc_change.specs.Steps.{IsStep}
use Rattle.fc_change.proofs.PlanLemmas.{directory_planned, geometry_then, holes_then, id_then}

-- ---- how it is judged

-- It grows to some bytes.
pub longer : (m : Map) (h : Parts) (grows : Option Growth) (x : Growing) → ((g : Growth) → grows ≡ Some g → 0 < g.len) → IsJudged m h grows x → IsLonger x
longer m h None x some j = subst IsLonger (sym j) tt
longer m h (Some g) growings.Nothing some j = tt
longer m h (Some g) (growings.There p) some j = tt
longer m h (Some g) (growings.Moves growth address alone) some j = subst (λ (k : Growth). 0 < k.len) (sym j.growth_is) (some g refl)

-- Where nothing needs new space for a directory it doesn't matter whether that is alone.
any_alone : (m : Map) (bytes : ℕ) (a b : Bool) → short_of m bytes a 0 ≡ short_of m bytes b 0
any_alone m bytes true true = refl
any_alone m bytes true false = refl
any_alone m bytes false true = refl
any_alone m bytes false false = refl

-- A lack of space is the one that the parts tell.
pub short_same : (m : Map) (h : Parts) (grows : Option Growth) (x : Growing) (bytes : ℕ) → IsJudged m h grows x
    → short_of m bytes (alone_in x) (len_moved x) ≡ short_of m bytes (is_grown_alone h grows) (grown_bytes m h grows)
short_same m h None x bytes j = ap (λ (y : Growing). short_of m bytes (alone_in y) (len_moved y)) j
short_same m h (Some g) growings.Nothing bytes j = absurd j
short_same m h (Some g) (growings.There p) bytes j =
    any_alone m bytes true (is_alone h g) ∙ ap (λ (b : Bool). short_of m bytes (is_alone h g) (let n : ℕ = cond b 0 g.len in n)) (sym j.room)
short_same m h (Some g) (growings.Moves growth address alone) bytes j =
    ap₂ (λ (a : Bool) (k : Growth). short_of m bytes a k.len) j.alone_is j.growth_is
    ∙ ap (λ (b : Bool). short_of m bytes (is_alone h g) (let n : ℕ = cond b 0 g.len in n)) (sym j.no_room)

-- ---- its plan

pub growth_planned : (m : Map) (is : IsNewMap m) (old left : Stock) (all : old ≡ stock_of m) (bytes : ℕ) (object : Option Plan) → IsObjectTaken old left bytes object
    → (x : Growing) (dir : Option Plan) → IsGrowthTaken left x dir → IsGrowthPlan m object x dir
growth_planned m is old left all bytes object from growings.Nothing dir t = t
growth_planned m is old left all bytes object from (growings.There p) dir t = t
growth_planned m is old left all bytes object from (growings.Moves growth address alone) None t = absurd t
growth_planned m is old left all bytes object from (growings.Moves growth address alone) (Some plan) t = record {
  plan_is = directory_planned m left object alone address growth.len plan (geometry_then m is old left all bytes object from) (holes_then m is old left all bytes object from) t;
  id = id_then m is old left all bytes object from alone address plan.id t.id;
}

-- If a directory needs no new space, it has no plan.
pub none_planned : (m : Map) (x : Growing) → IsLonger x → len_moved x ≡ 0 → IsGrowthPlan m None x None
none_planned m growings.Nothing longer none = refl
none_planned m (growings.There p) longer none = refl
none_planned m (growings.Moves growth address alone) longer none = absurd (omega (arith, longer, none))

-- It has no plan, or is alone as it was judged.
pub alone_same : (m : Map) (h : Parts) (object : Option Plan) (grows : Option Growth) (x : Growing) (dir : Option Plan) → IsJudged m h grows x → IsGrowthPlan m object x dir
    → (dir ≡ None) ⊎ (alone_in x ≡ is_grown_alone h grows)
alone_same m h object None x dir j p = inl (subst (λ (y : Growing). IsGrowthPlan m object y dir) j p)
alone_same m h object (Some g) growings.Nothing dir j p = absurd j
alone_same m h object (Some g) (growings.There q) dir j p = inl p
alone_same m h object (Some g) (growings.Moves growth address alone) dir j p = inr j.alone_is

-- So what hangs on both is the same.
pub same_by : {X : Type 0} (f : Option Plan → Bool → X) (dir : Option Plan) (a b : Bool) → ((x y : Bool) → f None x ≡ f None y) → (dir ≡ None) ⊎ (a ≡ b) → f dir a ≡ f dir b
same_by f dir a b none (inl e) = ap (λ (d : Option Plan). f d a) e ∙ none a b ∙ ap (λ (d : Option Plan). f d b) (sym e)
same_by f dir a b none (inr e) = ap (f dir) e

pub take_same : (m : Map) (object dir : Option Plan) (a b : Bool) (root : Option RootPlace) (step : MapStep) → (dir ≡ None) ⊎ (a ≡ b)
    → IsStep m (plans_of object dir) (gone_at_once dir a) (kept_parts dir a) root step → IsStep m (plans_of object dir) (gone_at_once dir b) (kept_parts dir b) root step
take_same m object dir a b root step (inl e) is = subst (λ (d : Option Plan). IsStep m (plans_of object d) (gone_at_once d b) (kept_parts d b) root step) (sym e)
    (subst (λ (d : Option Plan). IsStep m (plans_of object d) (gone_at_once d a) (kept_parts d a) root step) e is)
take_same m object dir a b root step (inr e) is = subst (λ (x : Bool). IsStep m (plans_of object dir) (gone_at_once dir x) (kept_parts dir x) root step) e is

-- ---- where it lies

pub grown_is : (m : Map) (h : Parts) (object : Option Plan) (grows : Option Growth) (x : Growing) (dir : Option Plan) (place : Option GrownPlace) → IsJudged m h grows x → IsGrowthPlan m object x dir
    → IsGrownTo m x dir place → IsGrown m h object grows dir place
grown_is m h object None x dir place j p t = (subst (λ (y : Growing). IsGrowthPlan m object y dir) j p, subst (λ (y : Growing). IsGrownTo m y dir place) j t)
grown_is m h object (Some g) growings.Nothing dir place j p t = absurd j
grown_is m h object (Some g) (growings.There q) dir place j p t =
    subst (λ (d : Option Plan). IsGrown m h object (Some g) d place) (sym p) (subst (λ (r : Option GrownPlace). IsGrown m h object (Some g) None r) (sym t) j)
grown_is m h object (Some g) (growings.Moves growth address alone) None place j p t = absurd p
grown_is m h object (Some g) (growings.Moves growth address alone) (Some plan) None j p t = absurd t
grown_is m h object (Some g) (growings.Moves growth address alone) (Some plan) (Some q) j p t = record {
  no_room = j.no_room;
  space = subst (λ (k : Growth). IsNewSpace m object (is_alone h g) (address_in h.nodes g.node) k.len plan) j.growth_is
      (subst (λ (a : ℕ). IsNewSpace m object (is_alone h g) a growth.len plan) j.address_is (subst (λ (b : Bool). IsNewSpace m object b address growth.len plan) j.alone_is p));
  directory = t.directory ∙ ap₂ (λ (b : Bool) (a : ℕ). let r : Regrowth = record { node = growth.node; address = address_moved b a plan; len = growth.len } in r) j.alone_is j.address_is
      ∙ ap (λ (k : Growth). let r : Regrowth = record { node = k.node; address = address_moved (is_alone h g) (address_in h.nodes g.node) plan; len = k.len } in r) j.growth_is;
  moves = t.moves;
  sectors = t.sectors ∙ ap (λ (k : Growth). place_of_plan m.geometry plan k.len) j.growth_is;
  leads = subst (λ (k : Growth). LeadsTo m k.len plan (sectors_in q.extents.items)) j.growth_is t.leads;
  free = t.free;
}
