-- Why `set` is refused, by what was found among the nodes.
use Rattle.std.proofs.Common.{◌≡◌, ℕ, Bool, List, [], ◌∷◌, ap, refl, sym, nat_cmp}
use Rattle.std.specs.Prelude.{Result}
use Rattle.std.specs.FinMap.{FinMap}
use Rattle.fc_names.specs.declared.name.NameForm.{NameForm}
use Rattle.fc_names.specs.declared.refusal.Refusal.{Refusal}
use Rattle.fc_names.specs.declared.refusal.Refusal.TheVariants as refusals
use Rattle.fc_names.specs.Names.{Path}
use Rattle.fc_model.specs.Command.{Command}
use Rattle.fc_model.specs.Answer.{first_of, is_root, reasons, when}
use Rattle.fc_image.specs.Layout.{Layout}
use Rattle.fc_image.specs.Walk.{Listing}
use Rattle.fc_image.specs.Objects.{tree_of}
use Rattle.fc_image.specs.Sound.{AreSound}
use Rattle.fc_tree.specs.declared.node.Node.{Node}
use Rattle.fc_tree.specs.Nodes.{found_in, HoldObjects}
use Rattle.fc_refusals.specs.Places.{number_found}
use Rattle.fc_refusals.specs.Targets.{refusal_of}
use Rattle.fc_refusals.proofs.ReasonLemmas.{first, test}
use Rattle.fc_refusals.proofs.FoundLemmas.{path_is}

pub set_refusal : (image : List ℕ) (layout : Layout) (listings : List Listing) (nodes : FinMap nat_cmp Node) (form : NameForm) (read_only : Bool) (path : Path) (load exec access : ℕ)
    (r : Result ℕ Refusal) (root shut : Bool) → AreSound layout listings → HoldObjects nodes listings → r ≡ number_found (found_in nodes path) → root ≡ is_root path → shut ≡ read_only
    → first_of (refusal_of r ∷ when root refusals.RootRefused ∷ when shut refusals.ReadOnly ∷ [])
    ≡ first_of (reasons (tree_of image layout listings) form read_only (Command.Set path load exec access))
set_refusal image layout listings nodes form read_only path load exec access r root shut sound held found top closed =
    ap first_of (first (sym (path_is image layout listings nodes path r sound held found)) (first (test refusals.RootRefused top) (first (test refusals.ReadOnly closed) refl)))
