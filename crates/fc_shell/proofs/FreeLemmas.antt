-- What a job under way takes of free space on a new map, and when it leaves the map.
use Rattle.std.proofs.Common.{◌≡◌, ◌==◌, inl, inr, ℕ, Bool, true, false, cond, List, [], ◌∷◌, ◌++◌, Option, Some, None, Ok, Err, refl, sym, ap, subst, ◌∙◌, arith, flat_map}
use Rattle.std.specs.Prelude.{◌≤◌}
use Rattle.std.specs.FinMap.{get}
use Rattle.std.specs.Int.{div_ceil}
use Rattle.std.specs.Option.{option_map_or, unwrap_or}
use Rattle.std.proofs.lemmas.Bool.{false_from_ne_true as unless}
use Rattle.fc_device.specs.Sectors.{sector_at}
use Rattle.fc_record.specs.declared.Geometry.{Geometry}
use Rattle.fc_record.specs.declared.Kind.{Kind}
use Rattle.fc_newmap.specs.Map.{Map, ZoneRun, hole_runs, sectors_of}
use Rattle.fc_newmap.specs.RunsLaw.{HasZones, IsGeometry}
use Rattle.fc_newmap.proofs.PlaceLemmas.{filter_in, held_in, holder_of, in_either}
use Rattle.fc_newmap.specs.Copies.{Chooses}
use Rattle.fc_model.specs.Command.{Command}
use Rattle.fc_alloc.specs.declared.owner.Owner.{Owner}
use Rattle.fc_image.specs.Layout.{Layout, dir_form, hole_sectors, id_of, is_among, is_apart, map_place, sectors_at}
use Rattle.fc_image.specs.Opening.{Opened}
use Rattle.fc_image.specs.Stays.{OpensAs}
use Rattle.fc_image.specs.Walk.{object_size}
use Rattle.fc_image.specs.effects.Placed.{IsTaken, holes_left}
use Rattle.fc_image.specs.effects.Sharing.{units}
use Rattle.fc_image.specs.effects.Short.{Growth as GrownTo, growth_in, new_length}
use Rattle.fc_image.proofs.HolesLemmas.{apart_at, holes_law, id_no_hole, in_id}
use Rattle.fc_image.proofs.MoveLemmas.{open_by}
use Rattle.fc_laws.specs.nodes.Edits.{Nodes}
use Rattle.fc_laws.proofs.lemmas.takeover.WriteLemmas.{in_taken}
use Rattle.fc_objects.specs.Extents.{sectors_in}
use Rattle.fc_placing.proofs.ExtentLemmas.{sectors_append}
use Rattle.fc_placing.specs.Extents.{parts_met}
use Rattle.fc_placing.specs.Places.{shared_id}
use Rattle.fc_placing.specs.declared.placing.Placing.{Placing}
use Rattle.fc_placing.specs.declared.placing.Placing.TheVariants as placings
use Rattle.fc_plan.specs.declared.plan.Plan.{Plan}
use Rattle.fc_plan.specs.Applied.{parts_in}
use Rattle.fc_plan.specs.Parts.{fronts}
use Rattle.fc_space.specs.Index.{is_met}
use Rattle.fc_tree.specs.Parts.{Parts}
use Rattle.fc_tree.specs.declared.node.Node.{Node}
use Rattle.fc_writing.specs.declared.ready.MapStep.{MapStep}
use Rattle.fc_writing.specs.declared.ready.MapStep.TheVariants as steps
use Rattle.fc_writing.specs.Laws.{ChangesOnly}
use Rattle.fc_change.specs.declared.change.Change.{Change}
use Rattle.fc_change.specs.declared.change.Says.{Says}
use Rattle.fc_change.specs.declared.job.Growth.{Growth}
use Rattle.fc_change.specs.declared.job.Wants.{Wants}
use Rattle.fc_change.specs.declared.spaces.GrownPlace.{GrownPlace}
use Rattle.fc_change.specs.declared.spaces.Place.{Place}
use Rattle.fc_change.specs.declared.spaces.Spaces.{Spaces}
use Rattle.fc_change.specs.GrownSpace.{IsGrown, IsGrownAt, freed, gone_at_once, kept_parts, place_of_plan, plan_sectors, plans_of, root_of}
use Rattle.fc_change.specs.Places.{AreLeft, ArePlaced, IsPlaceFor, IsPlacingFor, plan_in}
use Rattle.fc_change.specs.Shortage.{is_grown_alone}
use Rattle.fc_change.specs.Steps.{IsStep}
use Rattle.fc_commands.specs.Promises.{CountsInSteps, change_place, node_place, object_place, said_place}
use Rattle.fc_runs.specs.Space.{MayTake, MayTakeToGrow, Takes, TakesNone}
use Rattle.fc_runs.proofs.SpaceLemmas.{new_kind}
use Rattle.fc_writing.proofs.ContentLemmas.{out_left, out_right}
use Rattle.fc_shell.proofs.NeedLemmas.{IsNeed}

-- ---- lists of sectors

pub out_both : (xs ys : List ℕ) (s : ℕ) → is_among xs s ≡ false → is_among ys s ≡ false → is_among (xs ++ ys) s ≡ false
out_both xs ys s p q = unless (is_among (xs ++ ys) s) (λ h. elim (in_either xs ys s h) [
  | Ok first ↦ (let clash = sym first ∙ p in cc)
  | Err second ↦ (let clash = sym second ∙ q in cc)
])

pub out_all : {X : Type 0} (f : X → List ℕ) (xs : List X) (s : ℕ) → ((x : X) → is_among (f x) s ≡ false) → is_among (flat_map f xs) s ≡ false
out_all f [] s each = refl
out_all f (x ∷ xs) s each = out_both (f x) (flat_map f xs) s (each x) (out_all f xs s each)

-- the sectors of a plan are of its parts
in_met : (g : Geometry) (id : ℕ) (ahead : Bool) (ps : List ZoneRun) (s : ℕ) → is_among (sectors_of g (parts_met g id ahead ps)) s ≡ true → is_among (sectors_of g ps) s ≡ true
in_met g id ahead ps s h =
    let p = holder_of g (parts_met g id ahead ps) s h in
    held_in g ps p.0 s (filter_in (λ (q : ZoneRun). is_met g ahead id q.0) ps p.0 p.1.0).0 p.1.1

in_plan : (g : Geometry) (plan : Plan) (bytes s : ℕ) → is_among (place_of_plan g plan bytes) s ≡ true → is_among (sectors_of g (fronts plan.parts.items)) s ≡ true
in_plan g plan bytes s h =
    let ps = fronts plan.parts.items in
    elim (in_either (sectors_of g (parts_met g plan.id true ps)) (sectors_of g (parts_met g plan.id false ps)) s (in_taken (div_ceil bytes g.sector) (plan_sectors g plan) s h)) [
      | Ok first ↦ in_met g plan.id true ps s first
      | Err second ↦ in_met g plan.id false ps s second
    ]

out_of_plan : (g : Geometry) (plan : Plan) (bytes s : ℕ) (sectors : List ℕ) → sectors ≡ place_of_plan g plan bytes → is_among (sectors_of g (fronts plan.parts.items)) s ≡ false → is_among sectors s ≡ false
out_of_plan g plan bytes s sectors is out =
    ap (λ (xs : List ℕ). is_among xs s) is ∙ unless (is_among (place_of_plan g plan bytes) s) (λ h. let clash = sym (in_plan g plan bytes s h) ∙ out in cc)

-- ---- what is taken

module _ (m : Map) (h : Parts) (v : Opened) (c : Command) (w : Wants) (s : Spaces) (placed : ArePlaced m h w s) (need : IsNeed h v c w) where
  abbrev pub object : List ZoneRun
  object = parts_in (plan_in placed.placing)

  abbrev pub directory : List ZoneRun
  directory = parts_in placed.dir

  pub object_taken : (q : Placing) → IsPlacingFor m h.owners w q → MayTake m.geometry (hole_runs m) (new_length v c) (parts_in (plan_in q))
  object_taken placings.Nowhere is = inl refl
  object_taken (placings.Shared share) is = inl refl
  object_taken (placings.New plan) is =
      inr (subst (λ (n : ℕ). IsTaken m.geometry (hole_runs m) (units m.geometry n) (fronts plan.parts.items)) (sym need.bytes) is.1.plan.taken)

  pub grown_taken : (g : Option Growth) → w.grows ≡ g → (dir : Option Plan) (place : Option GrownPlace) → IsGrown m h (plan_in placed.placing) g dir place
      → MayTakeToGrow m.geometry (holes_left (hole_runs m) (parts_in (plan_in placed.placing))) (growth_in v c) (parts_in dir)
  grown_taken g some None place is = any (growth_in v c)
    where
      any : (o : Option GrownTo) → MayTakeToGrow m.geometry (holes_left (hole_runs m) (parts_in (plan_in placed.placing))) o []
      any None = refl
      any (Some x) = inl refl
  grown_taken None some (Some plan) place is = absurd (let none = is.0 in cc)
  grown_taken (Some g) some (Some plan) None is = absurd is
  grown_taken (Some g) some (Some plan) (Some p) is =
      let growing = need.growth g some in
      subst (λ (o : Option GrownTo). MayTakeToGrow m.geometry (holes_left (hole_runs m) (parts_in (plan_in placed.placing))) o (fronts plan.parts.items)) (sym growing.1) (inr is.space.plan_is.taken)

  abbrev pub takes : Takes m v c
  takes = record { object = object; directory = directory; object_is = object_taken placed.placing placed.is; directory_is = grown_taken w.grows refl placed.dir s.grown placed.grown }

-- ---- what isn't

module _ (m : Map) (shape : IsGeometry m.geometry) (zones : HasZones m) (some : 1 ≤ m.geometry.zones) (s : ℕ) (hole : is_among (hole_sectors (Layout.New m)) s ≡ true) where
  -- what an address has is no hole
  at_address : (address bytes : ℕ) (sectors : List ℕ) → sectors_at (Layout.New m) address bytes ≡ Some sectors → is_among sectors s ≡ false
  at_address address bytes sectors is = unless (is_among sectors s) (λ i. id_no_hole m shape zones some (id_of address) s (in_id m address bytes sectors s is i) hole)

  node_out : (nodes : Nodes) (n : ℕ) → is_among (node_place (Layout.New m) nodes n) s ≡ false
  node_out nodes n = by (get nodes n)
    where
      at : (e : Node) (o : Option (List ℕ)) → sectors_at (Layout.New m) e.entry.address (object_size (dir_form (Layout.New m)) e.entry) ≡ o → is_among (unwrap_or o []) s ≡ false
      at e None is = refl
      at e (Some sectors) is = at_address e.entry.address (object_size (dir_form (Layout.New m)) e.entry) sectors is

      by : (o : Option Node) → is_among (option_map_or (λ (node : Node). unwrap_or (sectors_at (Layout.New m) node.entry.address (object_size (dir_form (Layout.New m)) node.entry)) []) o []) s ≡ false
      by None = refl
      by (Some e) = at e (sectors_at (Layout.New m) e.entry.address (object_size (dir_form (Layout.New m)) e.entry)) refl

  object_out : (w : Wants) (owners : List Owner) (q : Placing) (place : Option Place) → IsPlaceFor m w q place → is_among (sectors_of m.geometry (parts_in (plan_in q))) s ≡ false → is_among (object_place place) s ≡ false
  object_out w owners q None is out = refl
  object_out w owners placings.Nowhere (Some p) is out = at_address p.address w.bytes (sectors_in p.extents.items) is.1
  object_out w owners (placings.Shared share) (Some p) is out = at_address p.address w.bytes (sectors_in p.extents.items) is.1
  object_out w owners (placings.New plan) (Some p) is out = out_of_plan m.geometry plan w.bytes s (sectors_in p.extents.items) is.1 out

  grown_out : (h : Parts) (first dir : Option Plan) (g : Growth) (p : GrownPlace) → IsGrownAt m h first g dir p → is_among (sectors_of m.geometry (parts_in dir)) s ≡ false → is_among (sectors_in p.extents.items) s ≡ false
  grown_out h first None g p is out = at_address _ g.len (sectors_in p.extents.items) is.sectors
  grown_out h first (Some plan) g p is out = out_of_plan m.geometry plan g.len s (sectors_in p.extents.items) is.sectors out

  said_out : (nodes : Nodes) (grown : Option GrownPlace) → ((p : GrownPlace) → grown ≡ Some p → is_among (sectors_in p.extents.items) s ≡ false) → (said : Says) → is_among (said_place (Layout.New m) nodes grown said) s ≡ false
  said_out nodes None each said = node_out nodes said.node
  said_out nodes (Some p) each said = by (p.directory.node == said.node)
    where
      by : (b : Bool) → is_among (cond b (sectors_in p.extents.items) (node_place (Layout.New m) nodes said.node)) s ≡ false
      by true = each p refl
      by false = node_out nodes said.node

  grown_by : (h : Parts) (first dir : Option Plan) (g : Option Growth) (place : Option GrownPlace) → IsGrown m h first g dir place → is_among (sectors_of m.geometry (parts_in dir)) s ≡ false
      → (p : GrownPlace) → place ≡ Some p → is_among (sectors_in p.extents.items) s ≡ false
  grown_by h first dir None place is out p at = absurd (let none = is.1 in cc)
  grown_by h first dir (Some g) None is out p at = absurd (cc)
  grown_by h first dir (Some g) (Some q) is out p at = subst (λ (x : GrownPlace). is_among (sectors_in x.extents.items) s ≡ false) (same q p at) (grown_out h first dir g q is out)
    where
      same : (x y : GrownPlace) → (let o : Option GrownPlace = Some x in o) ≡ Some y → x ≡ y
      same x y e = cc

  -- A hole that isn't taken is no place of the change.
  change_out : (h : Parts) (w : Wants) (sp : Spaces) (ch : Change) (placed : ArePlaced m h w sp) → h.layout ≡ Layout.New m
      → is_among (sectors_of m.geometry (parts_in (plan_in placed.placing) ++ parts_in placed.dir)) s ≡ false → is_among (change_place h sp ch) s ≡ false
  change_out h w sp ch placed at out =
      let both : is_among (sectors_of m.geometry (parts_in (plan_in placed.placing)) ++ sectors_of m.geometry (parts_in placed.dir)) s ≡ false =
      sym (ap (λ (xs : List ℕ). is_among xs s) (sectors_append m.geometry (parts_in (plan_in placed.placing)) (parts_in placed.dir))) ∙ out in
      let first = out_left (sectors_of m.geometry (parts_in (plan_in placed.placing))) (sectors_of m.geometry (parts_in placed.dir)) s both in
      let second = out_right (sectors_of m.geometry (parts_in (plan_in placed.placing))) (sectors_of m.geometry (parts_in placed.dir)) s both in
      out_both (object_place sp.object) (flat_map (said_place h.layout h.nodes sp.grown) ch.says.items) s (object_out w h.owners placed.placing sp.object placed.object first)
      (out_all (said_place h.layout h.nodes sp.grown) ch.says.items s (λ said.
      subst (λ (l : Layout). is_among (said_place l h.nodes sp.grown said) s ≡ false) (sym at)
      (said_out h.nodes sp.grown (grown_by h (plan_in placed.placing) placed.dir w.grows sp.grown placed.grown second) said)))

pub free_stays : (kind : Kind) (v : Opened) (m : Map) (h : Parts) (w : Wants) (sp : Spaces) (ch : Change) (was image : List ℕ) → OpensAs was kind v → v.layout ≡ Layout.New m → h.layout ≡ Layout.New m → (placed : ArePlaced m h w sp)
    → ChangesOnly m.geometry.sector (change_place h sp ch ++ map_place (Layout.New m)) was image → (s : ℕ) → is_among (hole_sectors (Layout.New m)) s ≡ true
    → is_among (sectors_of m.geometry (parts_in (plan_in placed.placing) ++ parts_in placed.dir)) s ≡ false → sector_at m.geometry.sector image s ≡ sector_at m.geometry.sector was s
free_stays kind v m h w sp ch was image opens at here placed only s hole out =
    let new = new_kind kind was v m opens at in
    let o = open_by was kind new.0 v m new.1 opens at in
    let apart : is_apart (map_place (Layout.New m)) (hole_sectors (Layout.New m)) ≡ true = subst (λ (l : Layout). is_apart (map_place l) (hole_sectors l) ≡ true) at (holes_law was kind new.0 v new.1 opens).0 in
    only.outside s
    (out_both (change_place h sp ch) (map_place (Layout.New m)) s (change_out m o.shape o.zones o.some s hole h w sp ch placed here out)
    (unless (is_among (map_place (Layout.New m)) s) (λ i. let clash = sym hole ∙ apart_at (map_place (Layout.New m)) (hole_sectors (Layout.New m)) s apart i in cc)))

-- ---- no step

-- A command that takes no space and gives none back wants none.
module _ (m : Map) (h : Parts) (v : Opened) (c : Command) (w : Wants) (s : Spaces) (placed : ArePlaced m h w s) (need : IsNeed h v c w) (none : TakesNone v c) where
  no_bytes : w.bytes ≡ 0
  no_bytes = sym need.bytes ∙ none.bytes

  no_growth : (g : Option Growth) → w.grows ≡ g → g ≡ None
  no_growth None is = refl
  no_growth (Some g) is = absurd (let clash = sym none.growth ∙ (need.growth g is).1 in cc)

  none_goes : (n : Option ℕ) → w.goes ≡ n → n ≡ None
  none_goes None is = refl
  none_goes (Some n) is = absurd ((need.goes n is).1 none.left)

  no_plan : (q : Placing) → IsPlacingFor m h.owners w q → plan_in q ≡ None
  no_plan placings.Nowhere is = refl
  no_plan (placings.Shared share) is = refl
  no_plan (placings.New plan) is = absurd (let some = is.1.some in let zero = no_bytes in omega (arith, some, zero))

  none_grown : (placed.dir ≡ None) × (s.grown ≡ None)
  none_grown = subst (λ (g : Option Growth). IsGrown m h (plan_in placed.placing) g placed.dir s.grown) (no_growth w.grows refl) placed.grown

  nothing : (step : MapStep) → IsStep m [] [] [] None step → step ≡ steps.Nothing
  nothing (steps.New x) is = absurd (is.some (record { plans_are = refl; gone_are = refl; root_is = refl }))
  nothing (steps.Old space) is = absurd is
  nothing steps.Nothing is = refl

  takes_none : s.take ≡ steps.Nothing
  takes_none =
      let alone = is_grown_alone h w.grows in
      nothing s.take
      (subst (λ (p : Option Plan). IsStep m (plans_of p None) [] [] None s.take) (no_plan placed.placing placed.is)
      (subst (λ (d : Option Plan). IsStep m (plans_of (plan_in placed.placing) d) (gone_at_once d alone) (kept_parts d alone) None s.take) none_grown.0
      (subst (λ (g : Option GrownPlace). IsStep m (plans_of (plan_in placed.placing) placed.dir) (gone_at_once placed.dir alone) (kept_parts placed.dir alone) (root_of g) s.take) none_grown.1 placed.take)))

  gives_none : s.give ≡ steps.Nothing
  gives_none =
      let left = subst (λ (n : Option ℕ). AreLeft h.owners n (shared_id placed.placing) placed.gone) (none_goes w.goes refl) placed.left in
      nothing s.give
      (subst (λ (gone : List ℕ). IsStep m [] gone [] None s.give) left
      (subst (λ (d : Option Plan). IsStep m [] (freed h w d ++ placed.gone) [] None s.give) none_grown.0 placed.give))

  pub map_stays : (image : List ℕ) → CountsInSteps m s.take s.give image → Chooses m.geometry m.zones image
  map_stays image map = map.still takes_none gives_none
