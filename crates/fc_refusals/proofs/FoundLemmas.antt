-- What a path that leads among the nodes says of the tree, and of the objects that the nodes hold.
use Rattle.std.proofs.Common.{◌≡◌, ⊎_elim, ℕ, true, false, List, [], ◌∷◌, refl, sym, ap, subst, ◌∙◌, Some, nat_cmp}
use Rattle.std.specs.Prelude.{Contains, Result, Ok, Err}
use Rattle.std.specs.FinMap.{FinMap}
use Rattle.fc_names.specs.declared.refusal.Refusal.{Refusal}
use Rattle.fc_names.specs.Names.{Path, is_same_path}
use Rattle.fc_model.specs.Tree.{Node as ModelNode}
use Rattle.fc_model.specs.Answer.{found, is_root, path_refusal}
use Rattle.fc_image.specs.Layout.{Layout}
use Rattle.fc_image.specs.Walk.{Object, Listing}
use Rattle.fc_image.specs.Objects.{objects_of, tree_of}
use Rattle.fc_image.specs.Sound.{AreSound}
use Rattle.fc_tree.specs.declared.node.Node.{Node}
use Rattle.fc_tree.specs.declared.node.Found.{Found}
use Rattle.fc_tree.specs.declared.node.Found.TheVariants as founds
use Rattle.fc_tree.specs.Nodes.{found_in, number_of, HoldObjects}
use Rattle.fc_tree.specs.Laws.{AreAlike}
use Rattle.fc_tree.proofs.FindLemmas.{find_law}
use Rattle.fc_tree.proofs.FoundLemmas.{path_refused, refusal_in}
use Rattle.fc_tree.proofs.SoundLemmas.{root_or_child}
use Rattle.fc_tree.proofs.WalkedLemmas.{root_path}
use Rattle.fc_refusals.specs.Places.{number_found}
use Rattle.fc_refusals.specs.Targets.{refusal_of}

-- ---- refusals

same_refusal : (f : Found) → refusal_in f ≡ refusal_of (number_found f)
same_refusal (founds.Node n) = refl
same_refusal founds.Absent = refl
same_refusal founds.NotDirectory = refl

-- a path is refused in the tree as among the nodes
pub path_is : (image : List ℕ) (layout : Layout) (listings : List Listing) (nodes : FinMap nat_cmp Node) (path : Path) (r : Result ℕ Refusal)
    → AreSound layout listings → HoldObjects nodes listings → r ≡ number_found (found_in nodes path) → path_refusal (tree_of image layout listings) path ≡ refusal_of r
path_is image layout listings nodes path r sound held e =
    path_refused image layout listings nodes sound held path ∙ same_refusal (found_in nodes path) ∙ ap refusal_of (sym e)

-- ---- objects

-- the object of the node to which a path leads
pub record LeadsTo (listings : List Listing) (nodes : FinMap nat_cmp Node) (path : Path) (n : ℕ) : Type 0 where
  pub object : Object
  pub among : Contains (objects_of listings) object
  pub same : is_same_path path object.path ≡ true
  pub number : number_of nodes object.path ≡ Some n

node_found : (f : Found) (n : ℕ) → Ok n ≡ number_found f → f ≡ founds.Node n
node_found (founds.Node m) n e = ap founds.Node (same m n e)
  where
    same : (a b : ℕ) → (let r : Result ℕ Refusal = Ok b in r) ≡ Ok a → a ≡ b
    same a b h = cc
node_found founds.Absent n e = absurd (cc)
node_found founds.NotDirectory n e = absurd (cc)

pub leads_to : (layout : Layout) (listings : List Listing) (nodes : FinMap nat_cmp Node) (path : Path) (n : ℕ)
    → AreSound layout listings → HoldObjects nodes listings → Ok n ≡ number_found (found_in nodes path) → LeadsTo listings nodes path n
leads_to layout listings nodes path n sound held e =
    by (found (tree_of [] layout listings) path)
    (subst (λ (f : Found). AreAlike nodes [] layout listings path f (found (tree_of [] layout listings) path)) (node_found (found_in nodes path) n e) (find_law [] layout listings nodes path sound held))
  where
    by : (r : Result ModelNode Refusal) → AreAlike nodes [] layout listings path (founds.Node n) r → LeadsTo listings nodes path n
    by (Ok m) alike = record { object = alike.0; among = alike.1; same = alike.2; number = alike.3 }
    by (Err refusal) alike = absurd alike

other_than_root : (path : Path) → false ≡ is_root path → is_same_path path [] ≡ true → ⊥
other_than_root [] e same = cc
other_than_root (x ∷ path) e same = cc

-- an object that isn't the root is held by a directory
pub held_object : (layout : Layout) (listings : List Listing) (o : Object) (path : Path) → AreSound layout listings → Contains (objects_of listings) o → is_same_path path o.path ≡ true
    → false ≡ is_root path → (l : Listing) × Contains listings l × Contains l.children o
held_object layout listings o path sound among same other =
    ⊎_elim (λ is. absurd (other_than_root path other (ap (is_same_path path) (sym (sym (ap (λ (p : Object). p.path) is) ∙ root_path layout listings sound)) ∙ same)))
    (λ held. held) (root_or_child layout listings sound o among)
