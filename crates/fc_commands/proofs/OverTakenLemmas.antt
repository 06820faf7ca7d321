-- A file that comes in the place of another can be taken over.
use Rattle.std.proofs.Common.{◌≡◌, ℕ, List, sym, ap, subst, ◌∙◌}
use Rattle.std.specs.Prelude.{Contains, IsSome}
use Rattle.std.specs.FinMap.{get}
use Rattle.fc_alloc.specs.declared.owner.Owner.{Owner}
use Rattle.fc_drafts.specs.Entries.{saved_entry}
use Rattle.fc_image.specs.Layout.{Layout}
use Rattle.fc_image.specs.Sound.{AreSound}
use Rattle.fc_image.specs.Walk.{Listing}
use Rattle.fc_names.specs.Names.{Path}
use Rattle.fc_laws.specs.nodes.Edits.{Nodes}
use Rattle.fc_edits.proofs.lemmas.ShapeLemmas.{only}
use Rattle.fc_refusals.specs.Slots.{IsFile}
use Rattle.fc_refusals.specs.declared.target.Target.{Target}
use Rattle.fc_tree.specs.Nodes.{HoldObjects}
use Rattle.fc_change.specs.declared.change.Change.{Change}
use Rattle.fc_change.specs.declared.change.Says.{Says}
use Rattle.fc_change.specs.declared.change.Turned.{Turned}
use Rattle.fc_change.specs.declared.job.FileWords.{FileWords}
use Rattle.fc_change.specs.After.{CanRegrowNode, CanTakeOver, CanTurnNode, CanTurnOwner, owners_admitted}
use Rattle.fc_commands.proofs.ArrivalPartsLemmas.{IsAlike}
use Rattle.fc_commands.proofs.OverOwnersLemmas.{can_turn}
use Rattle.fc_commands.proofs.OverStageLemmas.{IsOverChange, turns_it}
use Rattle.fc_commands.proofs.TargetLemmas as target_of

-- The nodes are there, and there is memory for its owner.
pub can_take : (layout layout' : Layout) (nodes : Nodes) (listings : List Listing) (owners : List Owner) (path : Path) (t : Target) (words : FileWords) (address number room : ℕ) (c : Change) (sound : AreSound layout listings)
    (held : HoldObjects nodes listings) (file : IsFile nodes listings path t) → IsAlike layout layout' → IsOverChange nodes t words address c
    → CanTakeOver layout' nodes (owners_admitted layout c.object number owners) room c
can_take layout layout' nodes listings owners path t words address number room c sound held file alike ch =
    let e = saved_entry file.target.object.entry words.load words.exec words.len address in
    let turned = turns_it layout nodes listings sound held path t file words address c ch in
    record {
      says = λ s at.
          subst (λ (n : ℕ). IsSome (get nodes n)) (sym ch.tells.number ∙ ap (λ (y : Says). y.node) (only ch.said s (subst (λ (ss : List Says). Contains ss s) ch.says at)))
          (target_of.has_dir layout nodes listings sound held path t file.target);
      object = subst (CanTurnNode nodes room) (sym turned) (target_of.has_node layout nodes listings sound held path t file.target);
      owner = subst (λ (x : Turned). CanTurnOwner layout' (owners_admitted layout x number owners) x) (sym turned) (can_turn layout layout' alike owners t.node t.holder e);
      grown = subst (CanRegrowNode nodes (owners_admitted layout c.object number owners)) (sym ch.none) tt;
    }
