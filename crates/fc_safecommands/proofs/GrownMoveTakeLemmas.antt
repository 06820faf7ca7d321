-- `rename` by which a directory grows can be taken over, in the safe mode: each directory that is told something is there, and so are both owners.
use Rattle.std.proofs.Common.{◌≡◌, ◌||◌, ◌==◌, ℕ, Bool, true, false, cond, List, [], ◌∷◌, ◌++◌, refl, sym, ap, subst, ◌∙◌, eq-eqb, Option, Some, None}
use Rattle.std.specs.Prelude.{Contains, IsSome, is_some}
use Rattle.std.specs.FinMap.{get}
use Rattle.std.specs.List.{list_any}
use Rattle.fc_alloc.specs.declared.owner.Owner.{Owner}
use Rattle.fc_alloc.specs.Owners.{has_node, is_node}
use Rattle.fc_record.specs.declared.Geometry.{Geometry}
use Rattle.fc_newmap.specs.Map.{Map}
use Rattle.fc_image.specs.Layout.{Layout}
use Rattle.fc_plan.specs.Giving.{is_one_of}
use Rattle.fc_tree.specs.Parts.{owner_of}
use Rattle.fc_change.specs.declared.change.Change.{Change}
use Rattle.fc_change.specs.declared.change.Turned.{Turned}
use Rattle.fc_change.specs.declared.job.Job.TheVariants as jobs
use Rattle.fc_change.specs.declared.spaces.Spaces.{Spaces}
use Rattle.fc_change.specs.After.{CanRegrowNode, CanTakeOver, CanTurnNode, CanTurnOwner, HasPlaceFor, owners_admitted}
use Rattle.fc_change.specs.Drafts.{IsChangeOf}
use Rattle.fc_change.specs.Owned.{owner_if, owners_with_room}
use Rattle.fc_commands.proofs.NodeLemmas as its
use Rattle.fc_commands.proofs.TargetLemmas as target_of
use Rattle.fc_safe.specs.FirstSpace.{ArePlacedFirst}
use Rattle.fc_safe.proofs.ListLemmas.{any_of}
use Rattle.fc_safecommands.proofs.GrownMoveJobLemmas.{GrownMove, growing, h, is_changed, job}
use Rattle.fc_safecommands.proofs.GrownMoveStageLemmas.{first, p, said_changed, tl}
use Rattle.fc_safecommands.proofs.GrownStirLemmas.{changed, changed_object, sound}
use Rattle.fc_safecommands.proofs.GrownTakeLemmas.{still_there}
use Rattle.fc_change.specs.declared.change.Regrowth.{Regrowth}

-- An owner has a place where there is room for it.
pub place_there : (o : Option Owner) (owners : List Owner) → HasPlaceFor o (owners_with_room o owners)
place_there None owners = tt
place_there (Some w) owners = by (has_node owners w.node) refl
  where
    last : (ws : List Owner) → list_any (is_node w.node) (ws ++ w ∷ []) ≡ true
    last [] = ap (λ (b : Bool). b || false) (eq-eqb w.node w.node refl)
    last (y ∷ ws) = either (is_node w.node y) (last ws)
      where
        either : (b : Bool) → list_any (is_node w.node) (ws ++ w ∷ []) ≡ true → (b || list_any (is_node w.node) (ws ++ w ∷ [])) ≡ true
        either true e = refl
        either false e = e

    by : (b : Bool) → has_node owners w.node ≡ b → has_node (cond b owners (owners ++ w ∷ [])) w.node ≡ true
    by true e = e
    by false e = last owners

module _ (a : GrownMove) (s : Spaces) (placed : ArePlacedFirst a.m (h a) (job a) a.wants s) (c : Change) (change : IsChangeOf (h a) (jobs.Move a.r) a.name s c) where
  -- the node of a directory that is changed, and its owner
  there_by : (n : ℕ) → is_one_of (changed (growing a)) n ≡ true → IsSome (get a.nodes n)
  there_by n e =
      let d = changed_object (growing a) n e in
      ap is_some (its.there a.nodes (Layout.New a.m) a.listings (sound (growing a)) a.agreed.walked.held d.0 d.1 n d.2.number)

  owned_by : (n : ℕ) → is_one_of (changed (growing a)) n ≡ true → has_node a.owners n ≡ true
  owned_by n e =
      let d = changed_object (growing a) n e in
      let own = owner_of a.nodes (Layout.New a.m) d.0.object in
      any_of (is_node n) a.owners own d.2.own_in (eq-eqb own.node n d.2.own_node)

  grower : is_one_of (changed (growing a)) (p a s placed).directory.node ≡ true
  grower = ap (is_one_of (changed (growing a))) (ap (λ (d : Regrowth). d.node) (first a s placed).directory) ∙ is_changed a

  pub can_take : (m' : Map) → m'.geometry ≡ a.m.geometry → (number room : ℕ) → CanTakeOver (Layout.New m') a.nodes (owners_admitted (Layout.New a.m) c.object number a.owners) room c
  can_take m' same number room =
      let owners = owners_admitted (Layout.New a.m) c.object number a.owners in
      let turned = change.object in
      let own = owner_if (Layout.New a.m) a.r.target.node a.r.holder change.entry in
      let admitted : owners ≡ owners_with_room own a.owners = ap (λ (t : Turned). owners_admitted (Layout.New a.m) t number a.owners) turned in
      let alike = ap (λ (g : Geometry). owner_if (Layout.New (record { geometry = g; zones = [] })) a.r.target.node a.r.holder change.entry) same in
      record {
        says = λ said at. there_by said.node (said_changed a s placed c change said at);
        object = subst (CanTurnNode a.nodes room) (sym turned) (target_of.has_node (Layout.New a.m) a.nodes a.listings a.seen.sound a.seen.held a.from a.r.target a.seen.known.target);
        owner = subst (λ (os : List Owner). CanTurnOwner (Layout.New m') os c.object) (sym admitted)
            (subst (CanTurnOwner (Layout.New m') (owners_with_room own a.owners)) (sym turned)
            (subst (λ (o : Option Owner). HasPlaceFor o (owners_with_room own a.owners)) (sym alike) (place_there own a.owners)));
        grown = subst (CanRegrowNode a.nodes owners) (sym (tl a s placed c change).grown) (
          there_by (p a s placed).directory.node grower,
          subst (λ (os : List Owner). has_node os (p a s placed).directory.node ≡ true) (sym admitted) (still_there own a.owners (p a s placed).directory.node (owned_by (p a s placed).directory.node grower)),
        );
      }
