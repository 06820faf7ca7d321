-- What comes to a directory that grows by it can be taken over, in the safe mode: each directory that is told something is there, and the grown
-- one has an owner.
use Rattle.std.proofs.Common.{◌≡◌, ◌≤◌, ◌||◌, ◌==◌, ℕ, true, [], ◌∷◌, ◌++◌, sym, ap, subst, ◌∙◌, eq-eqb, Option, Some, None}
use Rattle.std.specs.Prelude.{IsSome, is_some}
use Rattle.std.specs.FinMap.{get}
use Rattle.fc_alloc.specs.Owners.{has_node, is_node}
use Rattle.fc_newmap.specs.Map.{Map}
use Rattle.fc_model.specs.Tree.{last_name}
use Rattle.fc_drafts.specs.declared.draft.Draft.{Draft}
use Rattle.fc_image.specs.Layout.{Layout}
use Rattle.fc_plan.specs.Giving.{is_one_of}
use Rattle.fc_tree.specs.Parts.{owner_of}
use Rattle.fc_change.specs.declared.change.Change.{Change}
use Rattle.fc_change.specs.declared.change.Turned.{Turned}
use Rattle.fc_change.specs.declared.change.Turned.TheVariants as turns
use Rattle.fc_change.specs.declared.job.Wants.{Wants}
use Rattle.fc_change.specs.declared.spaces.Spaces.{Spaces}
use Rattle.fc_change.specs.After.{CanRegrowNode, CanTakeOver, CanTurnNode, CanTurnOwner, nodes_more, owners_admitted}
use Rattle.fc_change.specs.Drafts.{IsChangeOf, IsTurnedBy, grown_in}
use Rattle.fc_change.specs.Owned.{owner_if}
use Rattle.fc_commands.specs.declared.stages.Prepared.{Prepared}
use Rattle.fc_commands.proofs.ArrivalLemmas.{Arrival, job_of}
use Rattle.fc_commands.proofs.NodeLemmas as its
use Rattle.fc_safe.specs.FirstNeeds.{stir_of}
use Rattle.fc_safe.specs.FirstSpace.{ArePlacedFirst}
use Rattle.fc_safe.proofs.ListLemmas.{any_of}
use Rattle.fc_safecommands.specs.Anew.{IsPreparedAnew}
use Rattle.fc_safecommands.proofs.GrownArrivalLemmas.{GrownArrival, growing, h, is_changed, job, sound}
use Rattle.fc_safecommands.proofs.GrownArrivalStageLemmas.{at_node, ch, p, said_changed}
use Rattle.fc_safecommands.proofs.GrownStirLemmas.{changed_object}
pub use Rattle.fc_commands.proofs.GrownTakenLemmas.{still_there}

module _ (a : GrownArrival) where
  -- the node of a directory that is changed, and its owner
  there_by : (n : ℕ) → is_one_of (stir_of a.m (h a) (job a) a.wants).changed n ≡ true → IsSome (get a.nodes n)
  there_by n e =
      let d = changed_object (growing a) n e in
      ap is_some (its.there a.nodes (Layout.New a.m) a.listings (sound a) a.agreed.walked.held d.0 d.1 n d.2.number)

  owned_by : (n : ℕ) → is_one_of (stir_of a.m (h a) (job a) a.wants).changed n ≡ true → has_node a.owners n ≡ true
  owned_by n e =
      let d = changed_object (growing a) n e in
      let own = owner_of a.nodes (Layout.New a.m) d.0.object in
      any_of (is_node n) a.owners own d.2.own_in (eq-eqb own.node n d.2.own_node)

  module _ (s : Spaces) (placed : ArePlacedFirst a.m (h a) (job a) a.wants s) (c : Change) (change : IsChangeOf (h a) (job a) (last_name a.path) s c) where
    comes : (own : Option Draft) × (c.object ≡ turns.Comes a.dir change.entry own)
    comes = by a.x change.object
      where
        by : (x : Arrival) → IsTurnedBy (h a) (job_of a.dir x) (last_name a.path) (grown_in s) change.entry c.object → (own : Option Draft) × (c.object ≡ turns.Comes a.dir change.entry own)
        by Arrival.Makes turned = (Some turned.0, turned.1)
        by (Arrival.Saves words) turned = (None, turned)

    grower : is_one_of (stir_of a.m (h a) (job a) a.wants).changed (p a s placed).directory.node ≡ true
    grower = ap (is_one_of (stir_of a.m (h a) (job a) a.wants).changed) (at_node a s placed) ∙ is_changed a

    pub can_take_over : (layout : Layout) (number room : ℕ) → nodes_more c.object ≤ room → CanTakeOver layout a.nodes (owners_admitted (Layout.New a.m) c.object number a.owners) room c
    can_take_over layout number room some =
        let own = comes in
        let owners = owners_admitted (Layout.New a.m) c.object number a.owners in
        record {
          says = λ said at. there_by said.node (said_changed a s placed c change said at);
          object = subst (CanTurnNode a.nodes room) (sym own.1) (subst (λ (t : Turned). nodes_more t ≤ room) own.1 some);
          owner = subst (CanTurnOwner layout owners) (sym own.1) tt;
          grown = subst (CanRegrowNode a.nodes owners) (sym (ch a s placed c change).grown) (
            there_by (p a s placed).directory.node grower,
            ap (λ (t : Turned). has_node (owners_admitted (Layout.New a.m) t number a.owners) (p a s placed).directory.node) own.1
                ∙ still_there (owner_if (Layout.New a.m) number a.dir change.entry) a.owners (p a s placed).directory.node (owned_by (p a s placed).directory.node grower),
          );
        }

  -- It can, once it is prepared by these wants.
  pub can_take : (pr : Prepared) (prep : IsPreparedAnew a.m (h a) (job a) (last_name a.path) pr) → prep.wants ≡ a.wants → (m' : Map) (number room : ℕ) → nodes_more pr.change.object ≤ room
      → CanTakeOver (Layout.New m') a.nodes (owners_admitted (Layout.New a.m) pr.change.object number a.owners) room pr.change
  can_take pr prep same m' number room some =
      can_take_over prep.spaces (subst (λ (w : Wants). ArePlacedFirst a.m (h a) (job a) w prep.spaces) same prep.placed) pr.change prep.change (Layout.New m') number room some
