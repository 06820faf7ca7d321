-- What is written for a job that needs no new object: its directory and what stays beside it, each once, into sectors of holes.
use Rattle.std.proofs.Common.{◌≡◌, ◌<◌, ◌≤◌, ◌==◌, ◌&&◌, ◌||◌, ℕ, zero, suc, Bool, true, false, not, cond, List, [], ◌∷◌, ◌++◌, append-nil, get_or, filter, flat_map, length, map, refl, sym, ap, ap₂, subst, ◌∙◌, arith, eq-eqb, Option, Some, None}
use Rattle.std.specs.Prelude.{All, Contains, IsPermutation, Ok, Err, Vec}
use Rattle.std.specs.declared.alloc.Global.{Global}
use Rattle.std.specs.FinMap.{get}
use Rattle.std.specs.List.{find, list_any}
use Rattle.std.specs.Option.{option_to_list, unwrap_or}
use Rattle.std.proofs.lemmas.Bool.{and_parts, eqb-true}
use Rattle.std.proofs.lemmas.List.Elements.{Contains-get_or}
use Rattle.std.proofs.lemmas.List.Sorted.{Contains-permutation, IsPermutation-sym}
use Rattle.fc_alloc.specs.declared.owner.Owner.{Owner}
use Rattle.fc_alloc.specs.Owners.{is_node}
use Rattle.fc_device.specs.declared.disk.Extent.{Extent}
use Rattle.fc_record.specs.declared.Geometry.{Geometry}
use Rattle.fc_newmap.specs.Map.{Map, ZoneRun, all_runs, hole_runs, is_hole, map_sectors}
use Rattle.fc_newmap.proofs.CoverLemmas.{Distinct, Distinct-append, run_on_disc}
use Rattle.fc_newmap.proofs.PlaceLemmas.{filter_in, holder_of, in_either, in_front}
use Rattle.fc_dirs.specs.declared.Entry.{Entry}
use Rattle.fc_image.specs.Edits.{Apart}
use Rattle.fc_image.specs.Layout.{Layout, disc_sectors, hole_sectors, is_among, sectors_at, dir_form}
use Rattle.fc_image.specs.Objects.{has_sectors, objects_of}
use Rattle.fc_image.specs.Opening.{boot_place, reserved_in}
use Rattle.fc_image.specs.Walk.{Object, object_size}
use Rattle.fc_image.proofs.HolesLemmas.{apart_at, apart_from, holes_loose, loose_sectors, none_loose}
use Rattle.fc_image.proofs.ShuffleLemmas.{IsPermutation-filter, IsPermutation-flat_map, filter-map}
use Rattle.fc_plan.specs.declared.plan.Plan.{Plan}
use Rattle.fc_plan.specs.Giving.{is_one_of}
use Rattle.fc_tree.specs.Parts.{Parts, owner_of}
use Rattle.fc_tree.specs.declared.node.Node.{Node}
use Rattle.fc_tree.proofs.MemberLemmas.{in_filter, in_map, no_element}
use Rattle.fc_tree.proofs.WalkedLemmas.{same_some}
use Rattle.fc_laws.proofs.lemmas.agree.BeforeLemmas.{had, new_facts, new_shape, no_hole, object_lies, on_disc, tight}
use Rattle.fc_laws.proofs.lemmas.takeover.WriteLemmas.{apart_of}
use Rattle.fc_placing.proofs.LeavingLemmas.{from_kept}
use Rattle.fc_writing.specs.declared.ready.Piece.{Piece}
use Rattle.fc_writing.specs.declared.ready.Ready.{Ready}
use Rattle.fc_writing.specs.declared.ready.Source.{Source}
use Rattle.fc_writing.specs.declared.ready.Source.TheVariants as sources
use Rattle.fc_writing.specs.declared.ready.Transfer.{Transfer}
use Rattle.fc_writing.specs.Ready.{CanPut, IsSourceEnough, copied_place, from_of, place_of, source_from, source_place, to_of, written_place}
use Rattle.fc_change.specs.declared.change.Change.{Change}
use Rattle.fc_change.specs.declared.change.Says.{Says}
use Rattle.fc_change.specs.declared.change.Turned.{Turned}
use Rattle.fc_change.specs.declared.change.Turned.TheVariants as turns
use Rattle.fc_change.specs.declared.spaces.GrownPlace.{GrownPlace}
use Rattle.fc_change.specs.declared.spaces.Place.{Place}
use Rattle.fc_change.specs.declared.spaces.Spaces.{Spaces}
use Rattle.fc_change.specs.Prepared.{IsDrafted, IsNewPiece, IsSourceOf}
use Rattle.fc_commands.proofs.NodeLemmas.{each_at}
use Rattle.fc_commands.proofs.PieceLemmas.{all_low as every_low}
use Rattle.fc_safe.specs.FirstNeeds.{leaving_of}
use Rattle.fc_safe.specs.FirstSpace.{ArePlacedFirst}
use Rattle.fc_safe.specs.Staying.{remains}
use Rattle.fc_safe.proofs.ListLemmas.{same_test}
use Rattle.fc_safecommands.specs.Anew.{AreTakenAlong, IsReadyAnew, IsTakenAlong, PiecesAnew, is_taken_along, laid_by, plans_in}
use Rattle.fc_safecommands.proofs.ApartLemmas.{distinct_moved, few_taken, one_object}
use Rattle.fc_safecommands.proofs.LaidLemmas.{IsStaying, all_once, laid, laid_apart, laid_free, laid_once, laid_owner, staying}
use Rattle.fc_safecommands.proofs.PlainLemmas.{PlainJob, d, d_in, d_some, h, i, leaving, leaving_is, own, own_found, own_in, own_node, own_stays, owner_object, sound, y}
use Rattle.fc_safecommands.proofs.SpaceLemmas.{no_object, none_grown, one, step}

-- ---- lists

pub along_of : (m : Map) (k : Parts) (plans : List Plan) (os : List Owner) (ts : List Transfer) (o : Owner) → AreTakenAlong m k plans os ts → Contains os o → (t : Transfer) × Contains ts t × IsTakenAlong m k plans o t
along_of m k plans [] ts o along at = absurd (no_element o at)
along_of m k plans (p ∷ os) [] o along at = absurd along
along_of m k plans (p ∷ os) (t ∷ ts) o along (zero, low, e) = (t, (0, omega arith, refl), subst (λ (w : Owner). IsTakenAlong m k plans w t) e along.0)
along_of m k plans (p ∷ os) (t ∷ ts) o along (suc j, low, e) = let r = along_of m k plans os ts o along.1 (j, omega (arith, low), e) in (r.0, (suc r.1.0, (let l = r.1.1 in omega (arith, l)), r.1.2), r.2)

pub along_from : (m : Map) (k : Parts) (plans : List Plan) (os : List Owner) (ts : List Transfer) (t : Transfer) → AreTakenAlong m k plans os ts → Contains ts t → (o : Owner) × Contains os o × IsTakenAlong m k plans o t
along_from m k plans [] [] t along at = absurd (no_element t at)
along_from m k plans [] (u ∷ ts) t along at = absurd along
along_from m k plans (p ∷ os) [] t along at = absurd along
along_from m k plans (p ∷ os) (u ∷ ts) t along (zero, low, e) = (p, (0, omega arith, refl), subst (λ (w : Transfer). IsTakenAlong m k plans p w) e along.0)
along_from m k plans (p ∷ os) (u ∷ ts) t along (suc j, low, e) = let r = along_from m k plans os ts t along.1 (j, omega (arith, low), e) in (r.0, (suc r.1.0, (let l = r.1.1 in omega (arith, l)), r.1.2), r.2)

pub all_to : (m : Map) (k : Parts) (plans : List Plan) (os : List Owner) (ts : List Transfer) → AreTakenAlong m k plans os ts → flat_map to_of ts ≡ flat_map (laid_by m plans) os
all_to m k plans [] [] along = refl
all_to m k plans [] (t ∷ ts) along = absurd along
all_to m k plans (o ∷ os) [] along = absurd along
all_to m k plans (o ∷ os) (t ∷ ts) along = ap₂ (λ (a b : List ℕ). a ++ b) along.0.to (all_to m k plans os ts along.1)

pub among_flat : {X : Type 0} (f : X → List ℕ) (xs : List X) (u : ℕ) → is_among (flat_map f xs) u ≡ true → (x : X) × Contains xs x × (is_among (f x) u ≡ true)
among_flat f [] u e = absurd (cc)
among_flat f (x ∷ xs) u e = elim (in_either (f x) (flat_map f xs) u e) [
  | Ok here ↦ (x, (0, omega arith, refl), here)
  | Err more ↦ (let r = among_flat f xs u more in (r.0, (suc r.1.0, (let low = r.1.1 in omega (arith, low)), r.1.2), r.2))
]

-- ---- what is written

-- One directory is told something.
pub record TellsOne (x : PlainJob) (c : Change) : Type 0 where
  pub said : Says
  pub says : c.says.items ≡ said ∷ []
  pub node : said.node ≡ x.t.holder

-- Without a place nothing is written of an object.
pub none_made : (o : Turned) (ps : List Piece) → IsNewPiece o None ps → ps ≡ []
none_made (turns.Comes dir e None) ps none = none
none_made (turns.Comes dir e (Some draft)) ps none = none
none_made (turns.Turns n dir e) ps none = none
none_made (turns.Goes n) ps none = none

pub none_put : (o : Turned) (from : Option (Vec Extent Global)) (source : Source) → IsSourceOf o None from source → source ≡ sources.Nothing
none_put o from source none = none

module _ (x : PlainJob) (s : Spaces) (placed : ArePlacedFirst x.m (h x) x.job x.wants s) (c : Change) (tells : TellsOne x c) (r : Ready) (is : IsReadyAnew x.m (h x) x.wants c s r) where
  abbrev g : Geometry
  g = x.m.geometry

  abbrev plans : List Plan
  plans = placed.plans

  plans_are : plans_in s.take ≡ placed.plans
  plans_are = ap plans_in (step x s placed).1 ∙ (step x s placed).2.plans_are

  abbrev along : Owner → Bool
  along = is_taken_along placed.plans x.wants c

  carried : AreTakenAlong x.m (h x) placed.plans (filter (is_taken_along placed.plans x.wants c) x.owners) r.carried.items
  carried = subst (λ (ps : List Plan). AreTakenAlong x.m (h x) ps (filter (is_taken_along ps x.wants c) x.owners) r.carried.items) plans_are is.carried

  -- ---- who is taken along

  -- who is told nothing and stays in the identifier
  along_is : (o : Owner) → is_taken_along placed.plans x.wants c o ≡ (remains (leaving x) (i x) o && not (x.t.holder == o.node))
  along_is o =
      ap₂ (λ (ps : List Plan) (ss : List Says). list_any (λ (p : Plan). p.id == o.id) ps && (not (list_any (λ (k : Says). k.node == o.node) ss) && not (is_one_of (leaving_of x.wants None) o.node))) (one x s placed).1 tells.says
      ∙ ap₂ (λ (a : ℕ) (ns : List ℕ). ((a == o.id) || false) && (not ((tells.said.node == o.node) || false) && not (is_one_of ns o.node))) (one x s placed).2 (leaving_is x)
      ∙ ap (λ (n : ℕ). ((i x == o.id) || false) && (not ((n == o.node) || false) && not (is_one_of (leaving x) o.node))) tells.node
      ∙ ap (λ (a : Bool). (a || false) && (not ((x.t.holder == o.node) || false) && not (is_one_of (leaving x) o.node))) (flips (i x) o.id)
      ∙ turned (o.id == i x) (x.t.holder == o.node) (is_one_of (leaving x) o.node)
    where
      flips : (a b : ℕ) → (a == b) ≡ (b == a)
      flips a b = same_test (a == b) (b == a) (λ e. eq-eqb b a (sym (eqb-true a b e))) (λ e. eq-eqb a b (sym (eqb-true b a e)))

      turned : (a b e : Bool) → ((a || false) && (not (b || false) && not e)) ≡ ((a && not e) && not b)
      turned true true true = refl
      turned true true false = refl
      turned true false true = refl
      turned true false false = refl
      turned false b e = refl

  stays_of : (p : Object) → Contains (objects_of x.listings) p → has_sectors p ≡ true → is_taken_along placed.plans x.wants c (owner_of x.nodes (y x) p) ≡ true → Contains x.owners (owner_of x.nodes (y x) p) → IsStaying x s placed p
  stays_of p at some e own = staying x s placed p at some (and_parts (remains (leaving x) (i x) (owner_of x.nodes (y x) p)) _ (sym (along_is (owner_of x.nodes (y x) p)) ∙ e)).0 own

  -- the directory itself
  pub dir_stays : IsStaying x s placed (d x)
  dir_stays = staying x s placed (d x) (d_in x) (d_some x) (own_stays x) (own_in x)

  pub owner_in : (p : Object) → Contains (objects_of x.listings) p → has_sectors p ≡ true → Contains x.owners (owner_of x.nodes (y x) p)
  owner_in p at some =
      Contains-permutation (map (owner_of x.nodes (y x)) (filter has_sectors (objects_of x.listings))) x.owners (owner_of x.nodes (y x) p) (IsPermutation-sym x.owners (map (owner_of x.nodes (y x)) (filter has_sectors (objects_of x.listings))) x.agreed.owned)
      (in_map (owner_of x.nodes (y x)) (filter has_sectors (objects_of x.listings)) p (in_filter has_sectors (objects_of x.listings) p at some))

  -- ---- the directory's piece

  no_source : r.source ≡ sources.Nothing
  no_source = none_put c.object s.copied r.source (subst (λ (o : Option Place). IsSourceOf c.object o s.copied r.source) (no_object x s placed) is.source)

  told_are : r.early.items ≡ is.early.told
  told_are = is.early.all ∙ ap (λ (ps : List Piece). is.early.told ++ ps) (none_made c.object is.early.made (subst (λ (o : Option Place). IsNewPiece c.object o is.early.made) (no_object x s placed) is.early.makes)) ∙ append-nil is.early.told

  pieces : PiecesAnew x.m (h x) placed.plans None (tells.said ∷ []) r.early.items
  pieces =
      subst (λ (ss : List Says). PiecesAnew x.m (h x) placed.plans None ss r.early.items) tells.says
      (subst (λ (o : Option GrownPlace). PiecesAnew x.m (h x) placed.plans o c.says.items r.early.items) (none_grown x s placed)
      (subst (λ (ps : List Plan). PiecesAnew x.m (h x) ps s.grown c.says.items r.early.items) plans_are
      (subst (λ (ps : List Piece). PiecesAnew x.m (h x) (plans_in s.take) s.grown c.says.items ps) (sym told_are) is.early.tells)))

  pub record IsOnePiece (p : Piece) : Type 0 where
    pub early : r.early.items ≡ p ∷ []
    pub place : place_of p ≡ laid x s placed (d x)
    pub drafted : IsDrafted tells.said.draft p

  pub piece : (p : Piece) × IsOnePiece p
  piece = by r.early.items pieces refl
    where
      by : (ps : List Piece) → PiecesAnew x.m (h x) placed.plans None (tells.said ∷ []) ps → r.early.items ≡ ps → (p : Piece) × IsOnePiece p
      by [] is_for e = absurd is_for
      by (p ∷ []) is_for e = (
        p,
        record {
          early = e;
          place = is_for.0.place ∙ ap (laid_by x.m placed.plans) (same_some is_for.0.own (own x) (sym is_for.0.is_own ∙ ap (λ (n : ℕ). find (is_node n) x.owners) tells.node ∙ own_found x)) ∙ laid_owner x s placed (d x) dir_stays;
          drafted = is_for.0.drafted;
        },
      )
      by (p ∷ q ∷ ps) is_for e = absurd is_for.1

  -- ---- all that is written

  abbrev to : List ℕ
  to = flat_map (laid_by x.m placed.plans) (filter (is_taken_along placed.plans x.wants c) x.owners)

  pub written_is : written_place r ≡ to ++ laid x s placed (d x)
  written_is =
      ap₂ (λ (k : Source) (ls : List Piece). (source_place k ++ (flat_map to_of r.carried.items ++ flat_map place_of r.early.items)) ++ flat_map place_of ls) no_source is.no_late
      ∙ append-nil (flat_map to_of r.carried.items ++ flat_map place_of r.early.items)
      ∙ ap₂ (λ (a b : List ℕ). a ++ b) (all_to x.m (h x) placed.plans (filter (is_taken_along placed.plans x.wants c) x.owners) r.carried.items carried)
      (ap (flat_map place_of) piece.1.early ∙ append-nil (place_of piece.0) ∙ piece.1.place)

  -- a sector that is written is one of the place of an object that stays
  pub written_at : (u : ℕ) → is_among (written_place r) u ≡ true → (p : Object) × IsStaying x s placed p × (is_among (laid x s placed p) u ≡ true)
  written_at u e = elim (in_either to (laid x s placed (d x)) u (subst (λ (ss : List ℕ). is_among ss u ≡ true) written_is e)) [
    | Err dir ↦ (d x, dir_stays, dir)
    | Ok other ↦
        (let o = among_flat (laid_by x.m placed.plans) (filter (is_taken_along placed.plans x.wants c) x.owners) u other in
        let k = from_kept (is_taken_along placed.plans x.wants c) x.owners o.0 o.1 in
        let p = owner_object x o.0 k.0 in
        let st = stays_of p.0 p.1 p.2 (ap (is_taken_along placed.plans x.wants c) p.3 ∙ k.1) (subst (Contains x.owners) (sym p.3) k.0) in
        (p.0, st, subst (λ (ss : List ℕ). is_among ss u ≡ true) (ap (laid_by x.m placed.plans) (sym p.3) ∙ laid_owner x s placed p.0 st) o.2))
  ]

  -- It lies in a hole.
  pub written_free : (u : ℕ) → is_among (written_place r) u ≡ true → is_among (hole_sectors (Layout.New x.m)) u ≡ true
  written_free u e = let p = written_at u e in laid_free x s placed p.0 p.1 u p.2

  -- ---- none twice

  apart_all : Apart (reserved_in x.kind (y x)) (objects_of x.listings)
  apart_all =
      let w = had x.kind x.m x.nodes x.owners x.root x.listings x.agreed in
      subst (Apart (reserved_in x.kind (y x))) (sym w.objects) w.apart

  abbrev goes_along : Object → Bool
  goes_along p = has_sectors p && is_taken_along placed.plans x.wants c (owner_of x.nodes (y x) p)

  stays_along : (p : Object) → Contains (objects_of x.listings) p → goes_along p ≡ true → IsStaying x s placed p
  stays_along p at e = let both = and_parts (has_sectors p) (is_taken_along placed.plans x.wants c (owner_of x.nodes (y x) p)) e in stays_of p at both.0 both.1 (owner_in p at both.0)

  to_once : Distinct to
  to_once =
      distinct_moved (flat_map (laid x s placed) (filter goes_along (objects_of x.listings))) to
      (IsPermutation-sym to (flat_map (laid x s placed) (filter goes_along (objects_of x.listings)))
      (subst (IsPermutation to) same
      (IsPermutation-flat_map (laid_by x.m placed.plans) (filter along x.owners) (map owner (filter (λ (p : Object). along (owner p)) (filter has_sectors (objects_of x.listings))))
      (subst (IsPermutation (filter along x.owners)) (filter-map along (λ (p : Object). along (owner p)) owner (λ p. refl) (filter has_sectors (objects_of x.listings)))
      (IsPermutation-filter along x.owners (map owner (filter has_sectors (objects_of x.listings))) x.agreed.owned)))))
      (all_once x s placed goes_along (reserved_in x.kind (y x)) (objects_of x.listings) apart_all stays_along)
    where
      owner : Object → Owner
      owner = owner_of x.nodes (y x)

      along : Owner → Bool
      along = is_taken_along placed.plans x.wants c

      by_owner : (ps : List Object) → ((p : Object) → Contains ps p → Contains (objects_of x.listings) p)
          → flat_map (laid_by x.m placed.plans) (map owner (filter (λ (p : Object). along (owner p)) (filter has_sectors ps))) ≡ flat_map (laid x s placed) (filter goes_along ps)
      by_owner [] within = refl
      by_owner (p ∷ ps) within = by (has_sectors p) refl (along (owner p)) refl (by_owner ps (λ q at. within q (suc at.0, (let low = at.1 in omega (arith, low)), at.2)))
        where
          by : (a : Bool) → has_sectors p ≡ a → (b : Bool) → along (owner p) ≡ b
              → flat_map (laid_by x.m placed.plans) (map owner (filter (λ (q : Object). along (owner q)) (filter has_sectors ps))) ≡ flat_map (laid x s placed) (filter goes_along ps)
              → flat_map (laid_by x.m placed.plans) (map owner (filter (λ (q : Object). along (owner q)) (cond a (p ∷ filter has_sectors ps) (filter has_sectors ps)))) ≡ flat_map (laid x s placed) (cond (a && b) (p ∷ filter goes_along ps) (filter goes_along ps))
          by false e b f rest = rest
          by true e true f rest =
              let st = stays_of p (within p (0, omega arith, refl)) e f (owner_in p (within p (0, omega arith, refl)) e) in
              ap (λ (b : Bool). flat_map (laid_by x.m placed.plans) (map owner (cond b (p ∷ filter (λ (q : Object). along (owner q)) (filter has_sectors ps)) (filter (λ (q : Object). along (owner q)) (filter has_sectors ps))))) f
              ∙ ap₂ (λ (u v : List ℕ). u ++ v) (laid_owner x s placed p st) rest
          by true e false f rest =
              ap (λ (b : Bool). flat_map (laid_by x.m placed.plans) (map owner (cond b (p ∷ filter (λ (q : Object). along (owner q)) (filter has_sectors ps)) (filter (λ (q : Object). along (owner q)) (filter has_sectors ps))))) f
              ∙ rest

      same : flat_map (laid_by x.m placed.plans) (map owner (filter (λ (p : Object). along (owner p)) (filter has_sectors (objects_of x.listings)))) ≡ flat_map (laid x s placed) (filter goes_along (objects_of x.listings))
      same = by_owner (objects_of x.listings) (λ p at. at)

  -- objects that aren't one have no sector in common
  two_apart : (p : Object) → Contains (objects_of x.listings) p → (x.t.holder == (owner_of x.nodes (y x) p).node) ≡ false → (u : ℕ) → is_among p.sectors u ≡ true → is_among (d x).sectors u ≡ true → ⊥
  two_apart p at other u in_p in_d = one_object (reserved_in x.kind (y x)) (objects_of x.listings) apart_all p (d x) at (d_in x) u in_p in_d (λ same.
      (let node : (owner_of x.nodes (y x) p).node ≡ x.t.holder = ap (λ (o : Object). (owner_of x.nodes (y x) o).node) same ∙ own_node x in
      let yes = eq-eqb x.t.holder (owner_of x.nodes (y x) p).node (sym node) in cc))

  written_once : Distinct (written_place r)
  written_once =
      subst Distinct (sym written_is)
      (Distinct-append to (laid x s placed (d x)) to_once (laid_once x s placed (d x) dir_stays) (λ u in_to in_dir.
      (let o = among_flat (laid_by x.m placed.plans) (filter (is_taken_along placed.plans x.wants c) x.owners) u in_to in
      let k = from_kept (is_taken_along placed.plans x.wants c) x.owners o.0 o.1 in
      let p = owner_object x o.0 k.0 in
      let yes = ap (is_taken_along placed.plans x.wants c) p.3 ∙ k.1 in
      let st = stays_of p.0 p.1 p.2 yes (subst (Contains x.owners) (sym p.3) k.0) in
      let other = (and_parts (remains (leaving x) (i x) (owner_of x.nodes (y x) p.0)) (not (x.t.holder == (owner_of x.nodes (y x) p.0).node)) (sym (along_is (owner_of x.nodes (y x) p.0)) ∙ yes)).1 in
      laid_apart x s placed p.0 (d x) st dir_stays (two_apart p.0 p.1 (not_true (x.t.holder == (owner_of x.nodes (y x) p.0).node) other)) u
      (subst (λ (ss : List ℕ). is_among ss u ≡ true) (ap (laid_by x.m placed.plans) (sym p.3) ∙ laid_owner x s placed p.0 st) o.2) in_dir)))
    where
      not_true : (b : Bool) → not b ≡ true → b ≡ false
      not_true true e = absurd (cc)
      not_true false e = refl

  -- ---- what is copied

  -- what is copied is an object's, to its new place
  pub copies : (t : Transfer) → Contains r.carried.items t → (p : Object) × Contains (objects_of x.listings) p × IsStaying x s placed p × (from_of t ≡ p.sectors) × (to_of t ≡ laid x s placed p)
  copies t at =
      let o = along_from x.m (h x) placed.plans (filter (is_taken_along placed.plans x.wants c) x.owners) r.carried.items t carried at in
      let k = from_kept (is_taken_along placed.plans x.wants c) x.owners o.0 o.1 in
      let p = owner_object x o.0 k.0 in
      let st = stays_of p.0 p.1 p.2 (ap (is_taken_along placed.plans x.wants c) p.3 ∙ k.1) (subst (Contains x.owners) (sym p.3) k.0) in
      (p.0, p.1, st, from_is p.0 p.1 o.0 p.3 t o.2, o.2.to ∙ ap (laid_by x.m placed.plans) (sym p.3) ∙ laid_owner x s placed p.0 st)
    where
      from_is : (p : Object) → Contains (objects_of x.listings) p → (o : Owner) → owner_of x.nodes (y x) p ≡ o → (u : Transfer) → IsTakenAlong x.m (h x) placed.plans o u → from_of u ≡ p.sectors
      from_is p at_p o same u along =
          let has = x.agreed.walked.held.each p at_p in
          let number : o.node ≡ has.number = ap (λ (w : Owner). w.node) (sym same) ∙ ap (λ (q : Option ℕ). unwrap_or q 0) has.at_path in
          let node : along.node.entry ≡ p.entry = ap (λ (n : Node). n.entry) (same_some along.node _ (sym along.there ∙ ap (get x.nodes) number ∙ has.is)) in
          same_some (from_of u) p.sectors
          (sym along.from ∙ ap (λ (e : Entry). sectors_at (Layout.New x.m) e.address (object_size (dir_form (Layout.New x.m)) e)) node ∙ each_at (y x) x.listings (sound x) p at_p)

  -- each object that is taken along is copied
  pub copied_of : (p : Object) → Contains (objects_of x.listings) p → has_sectors p ≡ true → remains (leaving x) (i x) (owner_of x.nodes (y x) p) ≡ true → (x.t.holder == (owner_of x.nodes (y x) p).node) ≡ false
      → (t : Transfer) × Contains r.carried.items t × (from_of t ≡ p.sectors) × (to_of t ≡ laid x s placed p)
  copied_of p at some stays other =
      let own = owner_in p at some in
      let yes : is_taken_along placed.plans x.wants c (owner_of x.nodes (y x) p) ≡ true = along_is (owner_of x.nodes (y x) p) ∙ ap₂ (λ (a b : Bool). a && not b) stays other in
      let t = along_of x.m (h x) placed.plans (filter (is_taken_along placed.plans x.wants c) x.owners) r.carried.items (owner_of x.nodes (y x) p) carried (in_filter (is_taken_along placed.plans x.wants c) x.owners (owner_of x.nodes (y x) p) own yes) in
      let st = staying x s placed p at some stays own in
      (t.0, t.1, from_is p at t.0 t.2, t.2.to ∙ laid_owner x s placed p st)
    where
      from_is : (q : Object) → Contains (objects_of x.listings) q → (u : Transfer) → IsTakenAlong x.m (h x) placed.plans (owner_of x.nodes (y x) q) u → from_of u ≡ q.sectors
      from_is q at_q u along =
          let has = x.agreed.walked.held.each q at_q in
          let number : (owner_of x.nodes (y x) q).node ≡ has.number = ap (λ (k : Option ℕ). unwrap_or k 0) has.at_path in
          let node : along.node.entry ≡ q.entry = ap (λ (n : Node). n.entry) (same_some along.node _ (sym along.there ∙ ap (get x.nodes) number ∙ has.is)) in
          same_some (from_of u) q.sectors
          (sym along.from ∙ ap (λ (e : Entry). sectors_at (Layout.New x.m) e.address (object_size (dir_form (Layout.New x.m)) e)) node ∙ each_at (y x) x.listings (sound x) q at_q)

  copied_is : copied_place r ≡ flat_map from_of r.carried.items
  copied_is = ap (λ (k : Source). source_from k ++ flat_map from_of r.carried.items) no_source

  copied_at : (u : ℕ) → is_among (copied_place r) u ≡ true → (p : Object) × Contains (objects_of x.listings) p × (is_among p.sectors u ≡ true)
  copied_at u e =
      let t = among_flat from_of r.carried.items u (subst (λ (ss : List ℕ). is_among ss u ≡ true) copied_is e) in
      let p = copies t.0 t.1 in
      (p.0, p.1, subst (λ (ss : List ℕ). is_among ss u ≡ true) p.3 t.2)

  -- ---- it can be written

  all_low : (n : ℕ) (us : List ℕ) → ((u : ℕ) → is_among us u ≡ true → u < n) → All (λ u. u < n) us
  all_low n us low = every_low n us low

  pub can_put : (n : ℕ) → disc_sectors (Layout.New x.m) ≤ n → CanPut n (map_sectors g) r
  can_put n room = record {
    on_disk = all_low n (written_place r) (λ u e. (let low = hole_on_disc u (written_free u e) in omega (arith, low, room)));
    from_disk = all_low n (copied_place r) (λ u e. (let p = copied_at u e in let low = on_disc x.kind x.m x.nodes x.owners x.root x.listings x.agreed p.0 p.1 u p.2 in omega (arith, low, room)));
    once = apart_of (written_place r) written_once;
    beside = apart_from (written_place r) (map_sectors g) (λ u e f.
        (let loose = holes_loose x.m (objects_of x.listings) u (written_free u e) in
        let no = none_loose (loose_sectors x.m (objects_of x.listings)) (reserved_in x.kind (y x)) (tight x.kind x.m x.nodes x.owners x.root x.listings x.agreed) u (in_front (map_sectors g) (boot_place x.kind g.sector) u f) in cc));
    others = apart_from (copied_place r) (written_place r) (λ u e f.
        (let p = copied_at u e in
        let no = apart_at p.0.sectors (hole_sectors (Layout.New x.m)) u (no_hole x.kind x.m x.nodes x.owners x.root x.listings x.agreed p.0 p.1) p.2 in
        let yes = written_free u f in cc));
    unmapped = apart_from (copied_place r) (map_sectors g) (λ u e f.
        (let p = copied_at u e in
        let no = apart_at p.0.sectors (reserved_in x.kind (y x)) u (object_lies x.kind x.m x.nodes x.owners x.root x.listings x.agreed p.0 p.1).apart p.2 in
        let yes = in_front (map_sectors g) (boot_place x.kind g.sector) u f in cc));
    source_enough = subst IsSourceEnough (sym no_source) tt;
    enough = λ k e less.
        (let t = get_or r.carried.items k e in
        let p = copies t (Contains-get_or r.carried.items k e less) in
        subst (λ (us : List ℕ). length (to_of t) ≤ length us) (sym p.3) (subst (λ (us : List ℕ). length us ≤ length p.0.sectors) (sym p.4) (few_taken (length p.0.sectors) _)));
  }
    where
      hole_on_disc : (u : ℕ) → is_among (hole_sectors (Layout.New x.m)) u ≡ true → u < disc_sectors (Layout.New x.m)
      hole_on_disc u e =
          let facts = new_facts x.m x.agreed.is_map in
          let p = holder_of g (hole_runs x.m) u e in
          run_on_disc x.m (new_shape x.m x.agreed.is_map) x.agreed.is_map.right facts.zones facts.begun p.0 u (filter_in (λ (q : ZoneRun). is_hole q.1.kind) (all_runs x.m) p.0 p.1.0).0 p.1.1
