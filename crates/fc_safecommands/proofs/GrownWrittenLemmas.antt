-- What is written for a job by which a directory grows: each directory that it tells something, the one that grows in its new place, and what
-- stays beside them, each once and where nothing lies.
use Rattle.std.proofs.Common.{◌≡◌, ◌==◌, ◌&&◌, ◌⊎◌, inl, inr, ⊎_elim, ℕ, zero, suc, Bool, true, false, not, cond, List, [], ◌∷◌, ◌++◌, filter, flat_map, map, refl, sym, ap, ap₂, subst, ◌∙◌, arith, eq-eqb, Option, Some, None}
use Rattle.std.specs.Prelude.{Contains, IsPermutation, Ok, Err}
use Rattle.std.specs.FinMap.{get}
use Rattle.std.specs.Option.{unwrap_or}
use Rattle.std.proofs.lemmas.Bool.{and_parts, eqb-true}
use Rattle.std.proofs.lemmas.List.Sorted.{IsPermutation-sym}
use Rattle.fc_alloc.specs.declared.owner.Owner.{Owner}
use Rattle.fc_newmap.proofs.CoverLemmas.{Distinct, Distinct-append}
use Rattle.fc_newmap.proofs.PlaceLemmas.{in_either, in_front}
use Rattle.fc_dirs.specs.declared.Entry.{Entry}
use Rattle.fc_image.specs.Edits.{Apart}
use Rattle.fc_image.specs.Layout.{Layout, dir_form, id_of, is_among, sectors_at}
use Rattle.fc_image.specs.Objects.{has_sectors, objects_of}
use Rattle.fc_image.specs.Opening.{reserved_in}
use Rattle.fc_image.specs.Walk.{Object, object_size}
use Rattle.fc_image.specs.effects.Sharing.{new_ids}
use Rattle.fc_image.proofs.PathsLemmas.{itself}
use Rattle.fc_image.proofs.ShuffleLemmas.{IsPermutation-filter, IsPermutation-flat_map, filter-map}
use Rattle.fc_plan.specs.declared.plan.Plan.{Plan}
use Rattle.fc_plan.specs.Giving.{is_one_of}
use Rattle.fc_tree.specs.Parts.{owner_of}
use Rattle.fc_tree.specs.declared.node.Node.{Node}
use Rattle.fc_tree.proofs.MemberLemmas.{contains_here, in_filter, no_element}
use Rattle.fc_tree.proofs.SoundLemmas.{same_object}
use Rattle.fc_tree.proofs.WalkedLemmas.{same_some}
use Rattle.fc_laws.proofs.lemmas.agree.BeforeLemmas.{had}
use Rattle.fc_placing.proofs.LeavingLemmas.{from_kept}
use Rattle.fc_edits.proofs.lemmas.IdentifierLemmas.{used_of}
use Rattle.fc_writing.specs.declared.ready.Piece.{Piece}
use Rattle.fc_writing.specs.declared.ready.Ready.{Ready}
use Rattle.fc_writing.specs.declared.ready.Transfer.{Transfer}
use Rattle.fc_writing.specs.Ready.{from_of, place_of, to_of}
use Rattle.fc_change.specs.declared.change.Change.{Change}
use Rattle.fc_change.specs.declared.change.Says.{Says}
use Rattle.fc_change.specs.declared.spaces.GrownPlace.{GrownPlace}
use Rattle.fc_change.specs.declared.spaces.Spaces.{Spaces}
use Rattle.fc_change.specs.Prepared.{IsDrafted}
use Rattle.fc_commands.proofs.NodeLemmas.{each_at}
use Rattle.fc_commands.proofs.OwnerLemmas.{same_path}
use Rattle.fc_safe.specs.FirstNeeds.{leaving_of}
use Rattle.fc_safe.specs.FirstSpace.{ArePlacedFirst}
use Rattle.fc_safe.specs.Staying.{remains}
use Rattle.fc_safe.proofs.ListLemmas.{any_of, found_of}
use Rattle.fc_safecommands.specs.Anew.{AreTakenAlong, IsReadyAnew, IsTakenAlong, PiecesAnew, has_plan, is_said, is_taken_along, laid_by, plans_in, IsEarlyPiece, IsPieceIn}
use Rattle.fc_safecommands.proofs.ApartLemmas.{distinct_moved, later_apart, one_object}
use Rattle.fc_safecommands.proofs.WrittenLemmas.{all_to, along_from, along_of, among_flat}
use Rattle.fc_changes.proofs.BasicLemmas.{clash}
use Rattle.fc_change.specs.declared.change.Regrowth.{Regrowth}
use Rattle.fc_objects.specs.Extents.{sectors_in}
use Rattle.fc_safecommands.proofs.GrownStirLemmas.{GrowingJob, IsChanged, changed, changed_moves, changed_remains, goes_too, h, leaving, moves, owner_in, owner_object, sound, y}
use Rattle.fc_safecommands.proofs.GrownSpaceLemmas.{plan_at, plan_cases, unused}
use Rattle.fc_safecommands.proofs.GrownStepLemmas.{grown_at, step}
use Rattle.fc_safecommands.proofs.GrownLaidLemmas.{IsStaying, is_grown, laid, staying}
use Rattle.fc_safecommands.proofs.GrownBesideLemmas.{laid_apart}
use Rattle.fc_safecommands.proofs.GrownSpotLemmas.{IsThere, laid_once, spot, spot_apart, spot_grown, spot_once, spot_other}

-- ---- who is told something

-- The directory of this node, which the job rewrites.
pub record IsTold (x : GrowingJob) (s : Says) (d : Object) : Type 0 where
  pub changes : is_one_of (changed x) s.node ≡ true
  pub is : IsChanged x s.node d

abbrev pub AreTold : GrowingJob → List Says → List Object → Type 0
AreTold x [] [] = Unit {0}
AreTold x (s ∷ ss) (d ∷ ds) = IsTold x s d × AreTold x ss ds
AreTold x _ _ = ⊥

abbrev pub Differ : List Object → Type 0
Differ [] = Unit {0}
Differ (d ∷ ds) = ((o : Object) → Contains ds o → d ≡ o → ⊥) × Differ ds

-- These directories are told something, each once; the one that grows is among them.
pub record TellsThese (x : GrowingJob) (c : Change) : Type 0 where
  pub ds : List Object
  pub are : AreTold x c.says.items ds
  pub once : Differ ds
  pub grown : is_said c.says.items x.growth.node ≡ true

-- one of them, and what it is told
pub told_of : (x : GrowingJob) (ss : List Says) (ds : List Object) (d : Object) → AreTold x ss ds → Contains ds d → (s : Says) × Contains ss s × IsTold x s d
told_of x [] [] d are at = absurd (no_element d at)
told_of x [] (e ∷ ds) d are at = absurd are
told_of x (s ∷ ss) [] d are at = absurd are
told_of x (s ∷ ss) (e ∷ ds) d are (zero, low, same) = (s, contains_here s ss, subst (IsTold x s) same are.0)
told_of x (s ∷ ss) (e ∷ ds) d are (suc i, low, same) = let r = told_of x ss ds d are.1 (i, omega (arith, low), same) in (r.0, (suc r.1.0, (let less = r.1.1 in omega (arith, less)), r.1.2), r.2)

pub object_told : (x : GrowingJob) (ss : List Says) (ds : List Object) (s : Says) → AreTold x ss ds → Contains ss s → (d : Object) × Contains ds d × IsTold x s d
object_told x [] [] s are at = absurd (no_element s at)
object_told x [] (e ∷ ds) s are at = absurd are
object_told x (q ∷ ss) [] s are at = absurd are
object_told x (q ∷ ss) (e ∷ ds) s are (zero, low, same) = (e, contains_here e ds, subst (λ (k : Says). IsTold x k e) same are.0)
object_told x (q ∷ ss) (e ∷ ds) s are (suc i, low, same) = let r = object_told x ss ds s are.1 (i, omega (arith, low), same) in (r.0, (suc r.1.0, (let less = r.1.1 in omega (arith, less)), r.1.2), r.2)

module _ (x : GrowingJob) (s : Spaces) (placed : ArePlacedFirst x.m (h x) x.job x.wants s) (c : Change) (tells : TellsThese x c) (r : Ready) (is : IsReadyAnew x.m (h x) x.wants c s r) where
  plans_are : plans_in s.take ≡ placed.plans
  plans_are = ap plans_in (step x s placed).1 ∙ (step x s placed).2.plans_are

  abbrev along : Owner → Bool
  along = is_taken_along placed.plans x.wants c

  carried : AreTakenAlong x.m (h x) placed.plans (filter (is_taken_along placed.plans x.wants c) x.owners) r.carried.items
  carried = subst (λ (ps : List Plan). AreTakenAlong x.m (h x) ps (filter (is_taken_along ps x.wants c) x.owners) r.carried.items) plans_are is.carried

  -- ---- who is taken along

  -- who stays in an identifier that moves, and is told nothing
  along_of_owner : (o : Owner) → Contains x.owners o → along o ≡ true → (moves x o.id ≡ true) × (is_said c.says.items o.node ≡ false) × (remains (leaving x) o.id o ≡ true)
  along_of_owner o at e =
      let both = and_parts (has_plan placed.plans o.id) (not (is_said c.says.items o.node) && not (is_one_of (leaving_of x.wants None) o.node)) e in
      let rest = and_parts (not (is_said c.says.items o.node)) (not (is_one_of (leaving_of x.wants None) o.node)) both.1 in
      let p = found_of (λ (q : Plan). q.id == o.id) placed.plans both.0 in (
        ⊎_elim (λ fresh. absurd (not_fresh p.0 (eqb-true p.0.id o.id p.2) fresh.0))
            (λ more. ⊎_elim (λ moved. subst (λ (k : ℕ). moves x k ≡ true) (eqb-true p.0.id o.id p.2) moved.0) (λ last. absurd (not_fresh p.0 (eqb-true p.0.id o.id p.2) last.0)) more) (plan_cases x s placed p.0 p.1),
        not_true (is_said c.says.items o.node) rest.0,
        ap₂ (λ (a b : Bool). a && not b) (eq-eqb o.id o.id refl) (stays_put o (not_true (is_said c.says.items o.node) rest.0) (not_true (is_one_of (leaving_of x.wants None) o.node) rest.1)),
      )
    where
      not_true : (b : Bool) → not b ≡ true → b ≡ false
      not_true true f = absurd (cc)
      not_true false f = refl

      -- nobody leaves but who goes or is copied, and the one that grows, which is told something
      stays_put : (o : Owner) → is_said c.says.items o.node ≡ false → is_one_of (leaving_of x.wants None) o.node ≡ false → is_one_of (leaving x) o.node ≡ false
      stays_put o silent stays = by (is_one_of (leaving x) o.node) refl
        where
          by : (b : Bool) → is_one_of (leaving x) o.node ≡ b → b ≡ false
          by false f = refl
          by true f = ⊎_elim (λ goes. absurd (clash (is_one_of (leaving_of x.wants None) o.node) goes stays)) (λ same. absurd (clash (is_said c.says.items o.node) (ap (is_said c.says.items) same ∙ tells.grown) silent)) (x.both o.node f)

      not_fresh : (p : Plan) → p.id ≡ o.id → Contains (new_ids x.m) p.id → ⊥
      not_fresh p same fresh =
          let q = owner_object x o at in
          let id : id_of q.0.entry.address ≡ p.id = ap (λ (w : Owner). w.id) q.3 ∙ sym same in
          let has = used_of x.kind x.m x.nodes x.owners x.root x.listings x.agreed q.0 q.1 p.id (ap₂ (λ (a b : Bool). a && b) q.2 (eq-eqb (id_of q.0.entry.address) p.id id)) in
          let no = unused x p.id fresh in cc

  along_from_parts : (o : Owner) → moves x o.id ≡ true → is_said c.says.items o.node ≡ false → remains (leaving x) o.id o ≡ true → along o ≡ true
  along_from_parts o e untold stays =
      let q = plan_at x s placed o.id e in
      ap₂ (λ (a b : Bool). a && b) (any_of (λ (p : Plan). p.id == o.id) placed.plans q.0 q.1.among (eq-eqb q.0.id o.id q.1.id))
      (ap₂ (λ (a b : Bool). not a && not b) untold (goes_not (is_one_of (leaving_of x.wants None) o.node) refl))
    where
      turned : (b : Bool) → not b ≡ true → b ≡ false
      turned true f = absurd (cc)
      turned false f = refl

      goes_not : (b : Bool) → is_one_of (leaving_of x.wants None) o.node ≡ b → b ≡ false
      goes_not false f = refl
      goes_not true f = absurd (clash (is_one_of (leaving x) o.node) (goes_too x o.node f) (turned (is_one_of (leaving x) o.node) (and_parts (o.id == o.id) (not (is_one_of (leaving x) o.node)) stays).1))

  -- the one that grows is told something
  pub not_grown : (p : Object) → is_said c.says.items (owner_of x.nodes (y x) p).node ≡ false → is_grown x p ≡ false
  not_grown p silent = by (is_grown x p) refl
    where
      by : (b : Bool) → is_grown x p ≡ b → b ≡ false
      by false e = refl
      by true e = absurd (clash (is_said c.says.items (owner_of x.nodes (y x) p).node) (ap (is_said c.says.items) (eqb-true (owner_of x.nodes (y x) p).node x.growth.node e) ∙ tells.grown) silent)

  stays_of : (p : Object) → Contains (objects_of x.listings) p → has_sectors p ≡ true → along (owner_of x.nodes (y x) p) ≡ true → (is_grown x p ≡ false) × IsStaying x p
  stays_of p at some e = let parts = along_of_owner (owner_of x.nodes (y x) p) (owner_in x p at some) e in (not_grown p parts.1, staying x p at some parts.0 parts.2)

  there_of : (p : Object) → Contains (objects_of x.listings) p → has_sectors p ≡ true → (is_grown x p ≡ false) × IsStaying x p → IsThere x p
  there_of p at some k = record { at = at; some = some; stays = inr k }

  pub told_stays : (d : Object) → Contains tells.ds d → IsThere x d
  told_stays d at =
      let t = told_of x c.says.items tells.ds d tells.are at in
      record { at = t.2.is.there; some = t.2.is.some; stays = by t.0.node t.2.changes t.2.is (is_grown x d) refl }
    where
      put : (n : ℕ) → is_one_of (changed x) n ≡ true → IsChanged x n d → is_grown x d ≡ false → is_one_of (leaving x) n ≡ false
      put n e of f = from (is_one_of (leaving x) n) refl
        where
          from : (b : Bool) → is_one_of (leaving x) n ≡ b → b ≡ false
          from false g = refl
          from true g = absurd (clash (is_grown x d) (eq-eqb (owner_of x.nodes (y x) d).node x.growth.node (of.own_node ∙ x.stay n e g)) f)

      by : (n : ℕ) → is_one_of (changed x) n ≡ true → IsChanged x n d → (b : Bool) → is_grown x d ≡ b → (is_grown x d ≡ true) ⊎ ((is_grown x d ≡ false) × IsStaying x d)
      by n e of true f = inl f
      by n e of false f = let stay = put n e of f in inr (f, staying x d of.there of.some (changed_moves x n e stay d of) (changed_remains x n stay d of))

  -- whoever is none of them is told nothing
  pub untold : (p : Object) → Contains (objects_of x.listings) p → ((d : Object) → Contains tells.ds d → d ≡ p → ⊥) → is_said c.says.items (owner_of x.nodes (y x) p).node ≡ false
  untold p at other = by (is_said c.says.items (owner_of x.nodes (y x) p).node) refl
    where
      by : (b : Bool) → is_said c.says.items (owner_of x.nodes (y x) p).node ≡ b → b ≡ false
      by false e = refl
      by true e = absurd (
          let k = found_of (λ (q : Says). q.node == (owner_of x.nodes (y x) p).node) c.says.items e in
          let t = object_told x c.says.items tells.ds k.0 tells.are k.1 in
          other t.0 t.1 (sym (same_object (y x) x.listings (sound x) t.0.path p t.0 at t.2.is.there
          (same_path (y x) x.nodes x.listings x.owners t.0 k.0.node (sound x) x.agreed.walked.held x.agreed.owned t.2.is.number t.2.is.there p at (sym (eqb-true k.0.node (owner_of x.nodes (y x) p).node k.2)))
          (itself t.0.path))))

  -- ---- the directories' pieces

  abbrev place' : GrownPlace
  place' = (grown_at x s placed).0

  tells_are : PiecesAnew x.m (h x) placed.plans (Some place') c.says.items is.early.told
  tells_are =
      subst (λ (o : Option GrownPlace). PiecesAnew x.m (h x) placed.plans o c.says.items is.early.told) (grown_at x s placed).1
      (subst (λ (ps : List Plan). PiecesAnew x.m (h x) ps s.grown c.says.items is.early.told) plans_are is.early.tells)

  -- Each has one, for its place, with what it is told.
  pub record IsPieceOfTold (q : Says) (d : Object) (p : Piece) : Type 0 where
    pub place : place_of p ≡ spot x s placed d
    pub drafted : IsDrafted q.draft p

  piece_for : (q : Says) (d : Object) (p : Piece) → IsTold x q d → IsEarlyPiece x.m (h x) placed.plans (Some place') q p → IsPieceOfTold q d p
  piece_for q d p told for = by (place'.directory.node == q.node) refl for
    where
      at_node : place'.directory.node ≡ x.growth.node
      at_node = ap (λ (g : Regrowth). g.node) (grown_at x s placed).2.directory

      by : (b : Bool) → (place'.directory.node == q.node) ≡ b → IsPieceIn b x.m (h x) placed.plans place'.extents.items q p → IsPieceOfTold q d p
      by true e piece = record {
        place = ap sectors_in piece.0 ∙ sym (spot_grown x s placed d (eq-eqb (owner_of x.nodes (y x) d).node x.growth.node (told.is.own_node ∙ sym (eqb-true place'.directory.node q.node e) ∙ at_node)));
        drafted = piece.1;
      }
      by false e piece = record {
        place = piece.place ∙ ap (laid_by x.m placed.plans) (same_some piece.own (owner_of x.nodes (y x) d) (sym piece.is_own ∙ told.is.own_found)) ∙ sym (spot_other x s placed d (plain e));
        drafted = piece.drafted;
      }
        where
          plain : (place'.directory.node == q.node) ≡ false → is_grown x d ≡ false
          plain f = from (is_grown x d) refl
            where
              from : (c : Bool) → is_grown x d ≡ c → c ≡ false
              from false g = refl
              from true g = absurd (clash (place'.directory.node == q.node) (eq-eqb place'.directory.node q.node (at_node ∙ sym (eqb-true (owner_of x.nodes (y x) d).node x.growth.node g) ∙ told.is.own_node)) f)

  pieces_of : (qs : List Says) (ds : List Object) (ps : List Piece) → AreTold x qs ds → PiecesAnew x.m (h x) placed.plans (Some place') qs ps → (d : Object) → Contains ds d
      → (q : Says) × Contains qs q × IsTold x q d × (p : Piece) × Contains ps p × IsPieceOfTold q d p
  pieces_of [] [] ps are pieces d at = absurd (no_element d at)
  pieces_of [] (e ∷ ds) ps are pieces d at = absurd are
  pieces_of (q ∷ qs) [] ps are pieces d at = absurd are
  pieces_of (q ∷ qs) (e ∷ ds) [] are pieces d at = absurd pieces
  pieces_of (q ∷ qs) (e ∷ ds) (p ∷ ps) are pieces d (zero, low, same) = (q, contains_here q qs, subst (IsTold x q) same are.0, p, contains_here p ps, subst (λ (o : Object). IsPieceOfTold q o p) same (piece_for q e p are.0 pieces.0))
  pieces_of (q ∷ qs) (e ∷ ds) (p ∷ ps) are pieces d (suc i, low, same) =
      let r = pieces_of qs ds ps are.1 pieces.1 d (i, omega (arith, low), same) in
      (r.0, (suc r.1.0, (let less = r.1.1 in omega (arith, less)), r.1.2), r.2, r.3, (suc r.4.0, (let less = r.4.1 in omega (arith, less)), r.4.2), r.5)

  pub piece_of_told : (d : Object) → Contains tells.ds d → (q : Says) × Contains c.says.items q × IsTold x q d × (p : Piece) × Contains is.early.told p × IsPieceOfTold q d p
  piece_of_told d at = pieces_of c.says.items tells.ds is.early.told tells.are tells_are d at

  pieces_at : (qs : List Says) (ds : List Object) (ps : List Piece) → AreTold x qs ds → PiecesAnew x.m (h x) placed.plans (Some place') qs ps → (q : Says) → Contains qs q
      → (d : Object) × Contains ds d × IsTold x q d × (p : Piece) × Contains ps p × IsPieceOfTold q d p
  pieces_at [] ds ps are pieces q at = absurd (no_element q at)
  pieces_at (k ∷ qs) [] ps are pieces q at = absurd are
  pieces_at (k ∷ qs) (e ∷ ds) [] are pieces q at = absurd pieces
  pieces_at (k ∷ qs) (e ∷ ds) (p ∷ ps) are pieces q (zero, low, same) =
      subst (λ (r : Says). (d : Object) × Contains (e ∷ ds) d × IsTold x r d × (o : Piece) × Contains (p ∷ ps) o × IsPieceOfTold r d o) same
      (e, contains_here e ds, are.0, p, contains_here p ps, piece_for k e p are.0 pieces.0)
  pieces_at (k ∷ qs) (e ∷ ds) (p ∷ ps) are pieces q (suc i, low, same) =
      let r = pieces_at qs ds ps are.1 pieces.1 q (i, omega (arith, low), same) in
      (r.0, (suc r.1.0, (let less = r.1.1 in omega (arith, less)), r.1.2), r.2, r.3, (suc r.4.0, (let less = r.4.1 in omega (arith, less)), r.4.2), r.5)

  -- whatever is told something
  pub piece_said : (q : Says) → Contains c.says.items q → (d : Object) × Contains tells.ds d × IsTold x q d × (p : Piece) × Contains is.early.told p × IsPieceOfTold q d p
  piece_said q at = pieces_at c.says.items tells.ds is.early.told tells.are tells_are q at

  places_of : (qs : List Says) (ds : List Object) (ps : List Piece) → AreTold x qs ds → PiecesAnew x.m (h x) placed.plans (Some place') qs ps → flat_map place_of ps ≡ flat_map (spot x s placed) ds
  places_of [] [] [] are pieces = refl
  places_of [] [] (p ∷ ps) are pieces = absurd pieces
  places_of [] (e ∷ ds) ps are pieces = absurd are
  places_of (q ∷ qs) [] ps are pieces = absurd are
  places_of (q ∷ qs) (e ∷ ds) [] are pieces = absurd pieces
  places_of (q ∷ qs) (e ∷ ds) (p ∷ ps) are pieces = ap₂ (λ (a b : List ℕ). a ++ b) (piece_for q e p are.0 pieces.0).place (places_of qs ds ps are.1 pieces.1)

  -- ---- what is told and what is taken along, together

  abbrev to : List ℕ
  to = flat_map (laid_by x.m placed.plans) (filter (is_taken_along placed.plans x.wants c) x.owners)

  abbrev pub anew : List ℕ
  anew = flat_map to_of r.carried.items ++ flat_map place_of is.early.told

  anew_is : anew ≡ to ++ flat_map (spot x s placed) tells.ds
  anew_is = ap₂ (λ (a b : List ℕ). a ++ b) (all_to x.m (h x) placed.plans (filter (is_taken_along placed.plans x.wants c) x.owners) r.carried.items carried) (places_of c.says.items tells.ds is.early.told tells.are tells_are)

  -- a sector of it is one of the place of an object that stays
  pub anew_at : (u : ℕ) → is_among anew u ≡ true → (p : Object) × IsThere x p × (is_among (spot x s placed p) u ≡ true)
  anew_at u e = elim (in_either to (flat_map (spot x s placed) tells.ds) u (subst (λ (ss : List ℕ). is_among ss u ≡ true) anew_is e)) [
    | Err dir ↦ (let d = among_flat (spot x s placed) tells.ds u dir in (d.0, told_stays d.0 d.1, d.2))
    | Ok other ↦
        (let o = among_flat (laid_by x.m placed.plans) (filter (is_taken_along placed.plans x.wants c) x.owners) u other in
        let k = from_kept (is_taken_along placed.plans x.wants c) x.owners o.0 o.1 in
        let p = owner_object x o.0 k.0 in
        let plain = stays_of p.0 p.1 p.2 (ap along p.3 ∙ k.1) in
        (p.0, there_of p.0 p.1 p.2 plain, subst (λ (ss : List ℕ). is_among ss u ≡ true) (ap (laid_by x.m placed.plans) (sym p.3) ∙ sym (spot_other x s placed p.0 plain.0)) o.2))
  ]

  -- ---- none twice

  apart_all : Apart (reserved_in x.kind (y x)) (objects_of x.listings)
  apart_all =
      let w = had x.kind x.m x.nodes x.owners x.root x.listings x.agreed in
      subst (Apart (reserved_in x.kind (y x))) (sym w.objects) w.apart

  abbrev goes_along : Object → Bool
  goes_along p = has_sectors p && is_taken_along placed.plans x.wants c (owner_of x.nodes (y x) p)

  -- all that pass a test lie there with none twice
  all_once : (t : Object → Bool) (taken : List ℕ) (os : List Object) → Apart taken os → ((p : Object) → Contains os p → t p ≡ true → (is_grown x p ≡ false) × IsStaying x p) → Distinct (flat_map (laid x s placed) (filter t os))
  all_once t taken [] a st = tt
  all_once t taken (p ∷ os) a st = by (t p) refl (all_once t (p.sectors ++ taken) os a.1 (λ o at e. st o (later o at) e))
    where
      later : (o : Object) → Contains os o → Contains (p ∷ os) o
      later o at = (suc at.0, (let low = at.1 in omega (arith, low)), at.2)

      by : (b : Bool) → t p ≡ b → Distinct (flat_map (laid x s placed) (filter t os)) → Distinct (flat_map (laid x s placed) (cond b (p ∷ filter t os) (filter t os)))
      by false e rest = rest
      by true e rest =
          let sp = st p (0, omega arith, refl) e in
          Distinct-append (laid x s placed p) (flat_map (laid x s placed) (filter t os)) (laid_once x s placed p sp.1 sp.0) rest (λ u in_p in_rest.
          (let o = among_flat (laid x s placed) (filter t os) u in_rest in
          let k = from_kept t os o.0 o.1 in
          let so = st o.0 (later o.0 k.0) k.1 in
          laid_apart x s placed p o.0 sp.1 so.1 sp.0 so.0 (λ w a' b. later_apart (p.sectors ++ taken) os a.1 o.0 k.0 w b (in_front p.sectors taken w a')) u in_p o.2))

  to_once : Distinct to
  to_once =
      distinct_moved (flat_map (laid x s placed) (filter goes_along (objects_of x.listings))) to
      (IsPermutation-sym to (flat_map (laid x s placed) (filter goes_along (objects_of x.listings)))
      (subst (IsPermutation to) (by_owner (objects_of x.listings))
      (IsPermutation-flat_map (laid_by x.m placed.plans) (filter along x.owners) (map owner (filter (λ (p : Object). along (owner p)) (filter has_sectors (objects_of x.listings))))
      (subst (IsPermutation (filter along x.owners)) (filter-map along (λ (p : Object). along (owner p)) owner (λ p. refl) (filter has_sectors (objects_of x.listings)))
      (IsPermutation-filter along x.owners (map owner (filter has_sectors (objects_of x.listings))) x.agreed.owned)))))
      (all_once goes_along (reserved_in x.kind (y x)) (objects_of x.listings) apart_all (λ p at e.
      (let both = and_parts (has_sectors p) (along (owner_of x.nodes (y x) p)) e in stays_of p at both.0 both.1)))
    where
      owner : Object → Owner
      owner = owner_of x.nodes (y x)

      by_owner : (ps : List Object) → flat_map (laid_by x.m placed.plans) (map owner (filter (λ (p : Object). along (owner p)) (filter has_sectors ps))) ≡ flat_map (laid x s placed) (filter goes_along ps)
      by_owner [] = refl
      by_owner (p ∷ ps) = by (has_sectors p) refl (along (owner p)) refl (by_owner ps)
        where
          by : (a : Bool) → has_sectors p ≡ a → (b : Bool) → along (owner p) ≡ b
              → flat_map (laid_by x.m placed.plans) (map owner (filter (λ (q : Object). along (owner q)) (filter has_sectors ps))) ≡ flat_map (laid x s placed) (filter goes_along ps)
              → flat_map (laid_by x.m placed.plans) (map owner (filter (λ (q : Object). along (owner q)) (cond a (p ∷ filter has_sectors ps) (filter has_sectors ps)))) ≡ flat_map (laid x s placed) (cond (a && b) (p ∷ filter goes_along ps) (filter goes_along ps))
          by false e b f rest = rest
          by true e true f rest =
              ap (λ (b : Bool). flat_map (laid_by x.m placed.plans) (map owner (cond b (p ∷ filter (λ (q : Object). along (owner q)) (filter has_sectors ps)) (filter (λ (q : Object). along (owner q)) (filter has_sectors ps))))) f
              ∙ ap (λ (v : List ℕ). laid x s placed p ++ v) rest
          by true e false f rest =
              ap (λ (b : Bool). flat_map (laid_by x.m placed.plans) (map owner (cond b (p ∷ filter (λ (q : Object). along (owner q)) (filter has_sectors ps)) (filter (λ (q : Object). along (owner q)) (filter has_sectors ps))))) f
              ∙ rest

  -- two objects of which one isn't the other
  two_apart : (p o : Object) → Contains (objects_of x.listings) p → Contains (objects_of x.listings) o → (p ≡ o → ⊥) → (u : ℕ) → is_among p.sectors u ≡ true → is_among o.sectors u ≡ true → ⊥
  two_apart p o at_p at_o other u in_p in_o = one_object (reserved_in x.kind (y x)) (objects_of x.listings) apart_all p o at_p at_o u in_p in_o other

  told_once : (ds : List Object) → Differ ds → ((d : Object) → Contains ds d → Contains tells.ds d) → Distinct (flat_map (spot x s placed) ds)
  told_once [] once among = tt
  told_once (d ∷ ds) once among =
      let sd = told_stays d (among d (contains_here d ds)) in
      Distinct-append (spot x s placed d) (flat_map (spot x s placed) ds) (spot_once x s placed d sd) (told_once ds once.1 (λ o at. among o (later o at))) (λ u in_d in_rest.
      (let o = among_flat (spot x s placed) ds u in_rest in
      let so = told_stays o.0 (among o.0 (later o.0 o.1)) in
      spot_apart x s placed d o.0 sd so (once.0 o.0 o.1) (two_apart d o.0 sd.at so.at (once.0 o.0 o.1)) u in_d o.2))
    where
      later : (o : Object) → Contains ds o → Contains (d ∷ ds) o
      later o at = (suc at.0, (let low = at.1 in omega (arith, low)), at.2)

  pub anew_once : Distinct anew
  anew_once =
      subst Distinct (sym anew_is)
      (Distinct-append to (flat_map (spot x s placed) tells.ds) to_once (told_once tells.ds tells.once (λ d at. at)) (λ u in_to in_dirs.
      (let o = among_flat (laid_by x.m placed.plans) (filter (is_taken_along placed.plans x.wants c) x.owners) u in_to in
      let k = from_kept (is_taken_along placed.plans x.wants c) x.owners o.0 o.1 in
      let p = owner_object x o.0 k.0 in
      let e = ap along p.3 ∙ k.1 in
      let d = among_flat (spot x s placed) tells.ds u in_dirs in
      let t = told_of x c.says.items tells.ds d.0 tells.are d.1 in
      let silent = (along_of_owner (owner_of x.nodes (y x) p.0) (owner_in x p.0 p.1 p.2) e).1 in
      let plain = stays_of p.0 p.1 p.2 e in
      let other : p.0 ≡ d.0 → ⊥ = λ same. clash (is_said c.says.items (owner_of x.nodes (y x) p.0).node)
      (any_of (λ (q : Says). q.node == (owner_of x.nodes (y x) p.0).node) c.says.items t.0 t.1 (eq-eqb t.0.node (owner_of x.nodes (y x) p.0).node (sym (ap (λ (q : Object). (owner_of x.nodes (y x) q).node) same ∙ t.2.is.own_node)))) silent in
      spot_apart x s placed p.0 d.0 (there_of p.0 p.1 p.2 plain) (told_stays d.0 d.1) other (two_apart p.0 d.0 p.1 t.2.is.there other)
      u (subst (λ (ss : List ℕ). is_among ss u ≡ true) (ap (laid_by x.m placed.plans) (sym p.3) ∙ sym (spot_other x s placed p.0 plain.0)) o.2) d.2)))

  -- ---- what is copied

  from_is : (p : Object) → Contains (objects_of x.listings) p → (o : Owner) → owner_of x.nodes (y x) p ≡ o → (t : Transfer) → IsTakenAlong x.m (h x) placed.plans o t → from_of t ≡ p.sectors
  from_is p at o same t taken =
      let has = x.agreed.walked.held.each p at in
      let number : o.node ≡ has.number = ap (λ (w : Owner). w.node) (sym same) ∙ ap (λ (q : Option ℕ). unwrap_or q 0) has.at_path in
      let node : taken.node.entry ≡ p.entry = ap (λ (n : Node). n.entry) (same_some taken.node _ (sym taken.there ∙ ap (get x.nodes) number ∙ has.is)) in
      same_some (from_of t) p.sectors
      (sym taken.from ∙ ap (λ (e : Entry). sectors_at (Layout.New x.m) e.address (object_size (dir_form (Layout.New x.m)) e)) node ∙ each_at (y x) x.listings (sound x) p at)

  -- what is copied is an object's, to its new place
  pub copies : (t : Transfer) → Contains r.carried.items t → (p : Object) × Contains (objects_of x.listings) p × ((is_grown x p ≡ false) × IsStaying x p) × (from_of t ≡ p.sectors) × (to_of t ≡ laid x s placed p)
  copies t at =
      let o = along_from x.m (h x) placed.plans (filter (is_taken_along placed.plans x.wants c) x.owners) r.carried.items t carried at in
      let k = from_kept (is_taken_along placed.plans x.wants c) x.owners o.0 o.1 in
      let p = owner_object x o.0 k.0 in
      (p.0, p.1, stays_of p.0 p.1 p.2 (ap along p.3 ∙ k.1), from_is p.0 p.1 o.0 p.3 t o.2, o.2.to ∙ ap (laid_by x.m placed.plans) (sym p.3))

  -- each object that stays and is told nothing is copied
  pub copied_of : (p : Object) → Contains (objects_of x.listings) p → has_sectors p ≡ true → moves x (id_of p.entry.address) ≡ true → remains (leaving x) (id_of p.entry.address) (owner_of x.nodes (y x) p) ≡ true
      → ((d : Object) → Contains tells.ds d → d ≡ p → ⊥) → (t : Transfer) × Contains r.carried.items t × (from_of t ≡ p.sectors) × (to_of t ≡ laid x s placed p)
  copied_of p at some e stays other =
      let o = owner_of x.nodes (y x) p in
      let goes = along_from_parts o e (untold p at other) stays in
      let t = along_of x.m (h x) placed.plans (filter (is_taken_along placed.plans x.wants c) x.owners) r.carried.items o carried (in_filter (is_taken_along placed.plans x.wants c) x.owners o (owner_in x p at some) goes) in
      (t.0, t.1, from_is p at o refl t.0 t.2, t.2.to)
