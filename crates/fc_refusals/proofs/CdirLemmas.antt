-- Why `cdir` is refused, by what was found among the nodes.
use Rattle.std.proofs.Common.{◌≡◌, ℕ, Bool, true, false, not, ◌||◌, List, [], ◌∷◌, refl, sym, ap, ◌∙◌, Option, Some, None, is_some, nat_cmp}
use Rattle.std.specs.Prelude.{Ok}
use Rattle.std.specs.FinMap.{FinMap}
use Rattle.fc_names.specs.declared.name.NameForm.{NameForm}
use Rattle.fc_names.specs.declared.refusal.Refusal.{Refusal}
use Rattle.fc_names.specs.declared.refusal.Refusal.TheVariants as refusals
use Rattle.fc_names.specs.Names.{Path, is_same_path, is_writable}
use Rattle.fc_model.specs.Command.{Command}
use Rattle.fc_model.specs.Tree.{Tree, holder}
use Rattle.fc_model.specs.Answer.{first_of, holder_refusal, is_name_bad, is_present, is_root, reasons, when}
use Rattle.fc_image.specs.Layout.{Layout}
use Rattle.fc_image.specs.Walk.{Listing}
use Rattle.fc_image.specs.Objects.{tree_of}
use Rattle.fc_image.specs.Sound.{AreSound}
use Rattle.fc_tree.specs.declared.node.Node.{Node}
use Rattle.fc_tree.specs.Nodes.{child, found_in, HoldObjects}
use Rattle.fc_tree.proofs.SoundLemmas.{root_object}
use Rattle.fc_tree.proofs.TreeLemmas.{node_of_object}
use Rattle.fc_tree.proofs.WalkedLemmas.{root, root_path}
use Rattle.fc_refusals.specs.Places.{directory_found, own_name}
use Rattle.fc_refusals.specs.Targets.{IsVacant}
use Rattle.fc_refusals.proofs.HolderLemmas.{IsNamed, directory_there, holder_is, named, present_is, vacant_is}
use Rattle.fc_refusals.proofs.ReasonLemmas.{first, test}

-- a name that can be written isn't bad
pub name_good : (form : NameForm) (path : Path) (name : List ℕ) → IsNamed path name → true ≡ is_writable form name → false ≡ is_name_bad form path
name_good form path name is good =
    by (is_root path) ∙ ap (λ (b : Bool). not (is_root path || b)) (good ∙ ap (is_writable form) is.last)
  where
    by : (b : Bool) → false ≡ not (b || true)
    by true = refl
    by false = refl

-- something is at the root's path
pub root_present : (image : List ℕ) (layout : Layout) (listings : List Listing) → AreSound layout listings → true ≡ is_present (tree_of image layout listings) []
root_present image layout listings sound =
    ap is_some (sym (node_of_object image layout listings sound [] (root layout listings sound) (root_object layout listings sound) (ap (is_same_path []) (root_path layout listings sound))))

-- the first of these is the refusal
pub cdir_refusal : (t : Tree) (form : NameForm) (read_only : Bool) (path : Path) (p : Option Refusal) (bad there shut : Bool)
    → bad ≡ is_name_bad form path → holder_refusal t path ≡ p → there ≡ is_present t path → shut ≡ read_only
    → first_of (when bad refusals.BadName ∷ p ∷ when there refusals.Exists ∷ when shut refusals.ReadOnly ∷ []) ≡ first_of (reasons t form read_only (Command.Cdir path))
cdir_refusal t form read_only path p bad there shut name above present closed =
    ap first_of (first (test refusals.BadName name) (first (sym above) (first (test refusals.Exists present) (first (test refusals.ReadOnly closed) refl))))

-- the root's path is refused
pub root_refused : (image : List ℕ) (layout : Layout) (listings : List Listing) (form : NameForm) (read_only : Bool) (path : Path) → AreSound layout listings → path ≡ []
    → Some refusals.Exists ≡ first_of (reasons (tree_of image layout listings) form read_only (Command.Cdir path))
root_refused image layout listings form read_only path sound e =
    cdir_refusal (tree_of image layout listings) form read_only [] None false true read_only refl refl (root_present image layout listings sound) refl
    ∙ ap (λ (q : Path). first_of (reasons (tree_of image layout listings) form read_only (Command.Cdir q))) (sym e)

-- the same, if the holder is found
pub cdir_found : (image : List ℕ) (layout : Layout) (listings : List Listing) (nodes : FinMap nat_cmp Node) (form : NameForm) (read_only : Bool) (path : Path)
    (name : List ℕ) (dir : ℕ) (m : Option ℕ) (there shut : Bool) → AreSound layout listings → HoldObjects nodes listings
    → Some name ≡ own_name path → true ≡ is_writable form name → Ok dir ≡ directory_found nodes (found_in nodes (holder path)) → m ≡ child nodes dir name → there ≡ is_some m → shut ≡ read_only
    → first_of (when there refusals.Exists ∷ when shut refusals.ReadOnly ∷ []) ≡ first_of (reasons (tree_of image layout listings) form read_only (Command.Cdir path))
cdir_found image layout listings nodes form read_only path name dir m there shut sound held own good leads is some closed =
    let n = named path name own in
    cdir_refusal (tree_of image layout listings) form read_only path None false there shut (name_good form path name n good)
    (holder_is image layout listings nodes sound held path name (Ok dir) n leads)
    (some ∙ ap is_some is ∙ present_is layout listings nodes sound held path name dir n (directory_there layout listings nodes sound held (holder path) dir leads) image) closed

nothing : (m : Option ℕ) → false ≡ is_some m → m ≡ None
nothing None e = refl
nothing (Some n) e = absurd (cc)

-- without a child of the name the path is vacant
pub vacant_given : (nodes : FinMap nat_cmp Node) (path : Path) (name : List ℕ) (dir : ℕ) (m : Option ℕ) → Some name ≡ own_name path → Ok dir ≡ directory_found nodes (found_in nodes (holder path))
    → m ≡ child nodes dir name → false ≡ is_some m
    → (layout : Layout) (listings : List Listing) → AreSound layout listings → HoldObjects nodes listings → IsVacant nodes listings path dir
vacant_given nodes path name dir m own leads is none layout listings sound held =
    vacant_is layout listings nodes sound held path name dir (named path name own) (directory_there layout listings nodes sound held (holder path) dir leads) (sym (nothing m none) ∙ is)
