-- `rename` by which a directory grows can be taken over: each directory that is told something is there, and so are both owners.
use Rattle.fc_alloc.specs.Owners.{has_node, is_node}
use Rattle.fc_alloc.specs.declared.owner.Owner.{Owner}
use Rattle.fc_change.specs.After.{CanRegrowNode, CanTakeOver, CanTurnNode, CanTurnOwner, owners_admitted}
use Rattle.fc_change.specs.Owned.{owner_if}
use Rattle.fc_change.specs.declared.change.Regrowth.{Regrowth}
use Rattle.fc_change.specs.declared.change.Turned.{Turned}
use Rattle.fc_commands.proofs.GrownMoveMadeLemmas.{EditedRename, MadeEdit}
use Rattle.fc_commands.proofs.GrownMoveNodeLemmas as move_of
use Rattle.fc_commands.proofs.GrownMoveSaidLemmas.{it, l, layout, listed}
use Rattle.fc_commands.proofs.GrownMoveStageLemmas as stage
use Rattle.fc_commands.proofs.GrownMoveToldLemmas.{entry_now}
use Rattle.fc_commands.proofs.GrownMoveWalkLemmas as walk
use Rattle.fc_commands.proofs.GrownMoveWantLemmas.{GrownRename}
use Rattle.fc_commands.proofs.GrownMoveWantLemmas as want
use Rattle.fc_commands.proofs.GrownOwnerLemmas as own_of
use Rattle.fc_commands.proofs.MoveOwnerLemmas.{has_place}
use Rattle.fc_commands.proofs.MoveOwnerLemmas as mover
use Rattle.fc_commands.proofs.NodeLemmas as its
use Rattle.fc_commands.proofs.TargetLemmas as target_of
use Rattle.fc_edits.specs.Growing.{up_of}
use Rattle.fc_image.specs.Layout.{Layout}
use Rattle.fc_image.specs.Objects.{has_sectors}
use Rattle.fc_laws.specs.nodes.Edits.{owner_with}
use Rattle.fc_newmap.specs.Map.{Map}
use Rattle.fc_tree.specs.Parts.{owner_of}
use Rattle.std.proofs.Common.{Bool, List, ap, eq-eqb, filter, map, refl, subst, sym, true, ℕ, ◌==◌, ◌||◌, ◌∙◌, ◌≡◌}
use Rattle.std.proofs.lemmas.List.Sorted.{list_any-IsPermutation}
use Rattle.std.specs.List.{list_any}
use Rattle.std.specs.Prelude.{is_some}

module _ (w : EditedRename) (md : MadeEdit w) where
  abbrev q : GrownRename
  q = w.q

  abbrev g : Regrowth
  g = (want.grown w.q).0.directory

  grown_owned : has_node w.q.owners (want.grown w.q).0.directory.node ≡ true
  grown_owned =
      list_any-IsPermutation (is_node g.node) q.owners _ (own_of.cut (layout q) q.nodes q.owners q.listings (l q).object (walk.cut q).0 (up_of md.holder) g.node (move_of.is_owned w md))
      ∙ ap (λ (b : Bool). b || list_any (is_node g.node) (map (owner_of q.nodes (layout q)) (filter has_sectors (walk.cut q).0))) (eq-eqb g.node g.node refl)

  -- On the new map, too, there is a place for the object's owner.
  module _ (m' : Map) (ow : move_of.IsOwnedThen w md m') where
    abbrev new_owner : Owner
    new_owner = owner_with (Layout.New m') q.r.holder q.r.target.node w.then

    pub can_take : (number room : ℕ) → CanTakeOver (Layout.New m') w.q.nodes (owners_admitted (Layout.New w.q.m) w.pr.change.object number w.q.owners) room w.pr.change
    can_take number room =
        let same : owners_admitted (layout q) w.pr.change.object number q.owners ≡ q.owners = ap (λ (y : Turned). owners_admitted (layout q) y number q.owners) md.turned ∙ ow.admitted number in
        let placed = stage.can_prepare q (q.r.holder == q.r.target.holder) refl w.pr.change w.change in
        record {
          says = λ s at. ap is_some (placed.placed s at).there;
          object = subst (CanTurnNode q.nodes room) (sym md.turned) (target_of.has_node (layout q) q.nodes q.listings q.seen.sound q.seen.held q.from q.r.target q.seen.known.target);
          owner = subst (λ (os : List Owner). CanTurnOwner (Layout.New m') os w.pr.change.object) (sym same)
              (subst (CanTurnOwner (Layout.New m') q.owners) (sym md.turned)
              (has_place q.r.target.node new_owner (has_sectors (it q)) q.owners refl (mover.has (layout q) q.nodes q.listings q.from q.to q.r q.name q.seen q.owners q.agreed.owned)
              (owner_if (Layout.New m') q.r.target.node q.r.holder (entry_now q)) ow.now));
          grown = subst (CanRegrowNode q.nodes (owners_admitted (layout q) w.pr.change.object number q.owners)) (sym md.grown) (
            ap is_some (its.there q.nodes (layout q) q.listings q.seen.sound q.seen.held (l q) (listed q) g.node (walk.number q)),
            subst (λ (os : List Owner). has_node os g.node ≡ true) (sym same) grown_owned,
          );
        }
