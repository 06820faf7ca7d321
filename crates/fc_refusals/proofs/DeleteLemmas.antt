-- Why `delete` is refused, by what was found among the nodes.
use Rattle.std.proofs.Common.{◌≡◌, ℕ, Bool, false, List, [], ◌∷◌, ap, refl, sym, subst, nat_cmp, Option, Some, None}
use Rattle.std.specs.Prelude.{Result, IfOk}
use Rattle.std.specs.Option.{ok_or}
use Rattle.std.specs.FinMap.{FinMap}
use Rattle.fc_names.specs.declared.name.NameForm.{NameForm}
use Rattle.fc_names.specs.declared.refusal.Refusal.{Refusal}
use Rattle.fc_names.specs.declared.refusal.Refusal.TheVariants as refusals
use Rattle.fc_names.specs.Names.{Path}
use Rattle.fc_model.specs.Command.{Command}
use Rattle.fc_model.specs.Tree.{Tree}
use Rattle.fc_model.specs.Answer.{first_of, has_entries, is_locked_at, is_root, path_refusal, reasons, when}
use Rattle.fc_image.specs.Layout.{Layout}
use Rattle.fc_image.specs.Walk.{Listing}
use Rattle.fc_image.specs.Sound.{AreSound}
use Rattle.fc_tree.specs.declared.node.Node.{Node}
use Rattle.fc_tree.specs.Nodes.{HoldObjects}
use Rattle.fc_refusals.specs.declared.target.Target.{Target}
use Rattle.fc_refusals.specs.Places.{has_entries_at, target_in}
use Rattle.fc_refusals.specs.Targets.{IsRemovable}
use Rattle.fc_refusals.proofs.ReasonLemmas.{first, test}
use Rattle.fc_refusals.proofs.NodeLemmas.{removable}
use Rattle.fc_refusals.proofs.TargetLemmas.{Leads, target_found}

-- the first of these is the refusal
pub delete_refusal : (t : Tree) (form : NameForm) (read_only : Bool) (path : Path) (p : Option Refusal) (root locked some shut : Bool)
    → path_refusal t path ≡ p → root ≡ is_root path → locked ≡ is_locked_at t path → some ≡ has_entries t path → shut ≡ read_only
    → first_of (p ∷ when root refusals.RootRefused ∷ when locked refusals.Locked ∷ when some refusals.NotEmpty ∷ when shut refusals.ReadOnly ∷ [])
    ≡ first_of (reasons t form read_only (Command.Delete path))
delete_refusal t form read_only path p root locked some shut there top lock full closed =
    ap first_of (first (sym there) (first (test refusals.RootRefused top) (first (test refusals.Locked lock) (first (test refusals.NotEmpty full) (first (test refusals.ReadOnly closed) refl)))))

-- The target of a node without entries may go.
pub removable_given : (nodes : FinMap nat_cmp Node) (path : Path) (n : ℕ) (refusal : Refusal) (t : Option Target) (r : Result Target Refusal)
    → Leads nodes path n → false ≡ is_root path → false ≡ has_entries_at nodes n → t ≡ target_in nodes n → r ≡ ok_or t refusal
    → IfOk r (λ (found : Target). (layout : Layout) (listings : List Listing) → AreSound layout listings → HoldObjects nodes listings → IsRemovable nodes listings path found)
removable_given nodes path n refusal t r leads other none is e = subst (λ (x : Result Target Refusal). IfOk x Goes) (sym e) (by t is)
  where
    Goes : Target → Type 0
    Goes found = (layout : Layout) (listings : List Listing) → AreSound layout listings → HoldObjects nodes listings → IsRemovable nodes listings path found

    by : (o : Option Target) → o ≡ target_in nodes n → IfOk (ok_or o refusal) Goes
    by None h = tt
    by (Some x) h = λ layout listings sound held. let there = leads layout listings sound held in removable layout listings nodes sound held path n there x (target_found layout listings nodes sound held path n there other x h) none
