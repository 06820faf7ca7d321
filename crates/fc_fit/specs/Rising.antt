-- A law: what rising paths of nodes say of the tree that the nodes stand for.
use Rattle.std.specs.Prelude.{◌≡◌, ◌<◌, ℕ, true, List, [], length, map, drop, slice_index_or, All, Contains, Option, Some, None, option_map}
use Rattle.std.specs.Option.{ForSome}
use Rattle.std.specs.Ordering.{nat_cmp}
use Rattle.std.specs.FinMap.{FinMap, entries}
use Rattle.fc_names.specs.Names.{Path}
use Rattle.fc_model.specs.Tree.{IsTree, Node as Model, Tree, node_at}
use Rattle.fc_format.specs.declared.Format.{Format}
use Rattle.fc_image.specs.Layout.{Layout}
use Rattle.fc_image.specs.Objects.{tree_of}
use Rattle.fc_image.specs.Sound.{AreSound}
use Rattle.fc_image.specs.Walk.{Listing}
use Rattle.fc_tree.specs.declared.node.Node.{Node}
use Rattle.fc_tree.specs.Nodes.{HoldObjects}
use Rattle.fc_fit.specs.declared.fit.Misfit.{Misfit}
use Rattle.fc_fit.specs.declared.fit.What.{What}
use Rattle.fc_fit.specs.Counts.{counts_of, tree_counts}
use Rattle.fc_fit.specs.Commands.{objects_in}
use Rattle.fc_fit.specs.Fit.{form_of, is_attrs_right, spelled_key, unfit}
use Rattle.fc_fit.specs.Found.{AllLead, node_in}
use Rattle.fc_fit.specs.Makes.{AreMarked}
use Rattle.fc_fit.specs.Misfits.{first_misfit}
use Rattle.fc_fit.specs.Paths.{AreRisingPaths}

-- an object that doesn't fit, by its path
abbrev pub misfit_in : List Path → Option Misfit → Option (Path × What)
misfit_in paths misfit = option_map (λ m. (slice_index_or paths m.at [], m.what)) misfit

-- The paths are those of the tree's entries, as the tree spells them; the first is the root's, and the others are those of objects, whose
-- nodes stand there. They lead to nodes of the volume. What is found and counted among the nodes is so
-- in the tree.
pub record TellTree (nodes : FinMap nat_cmp Node) (paths : List Path) (t : Tree) : Type 0 where
  pub is_tree : IsTree t
  pub marked : AreMarked t
  pub spelled : paths ≡ map (λ e. spelled_key t e.0) (entries t)
  pub objects : objects_in t ≡ drop 1 (entries t)
  pub stand : (e : Path × Model) → Contains (entries t) e → node_at t (spelled_key t e.0) ≡ Some e.1
  pub some : 0 < length paths
  pub lead : AllLead nodes paths
  pub fits : (format : Format) → unfit format t ≡ misfit_in paths (first_misfit format nodes paths)
  pub within : (format : Format) (m : Misfit) → first_misfit format nodes paths ≡ Some m → m.at < length paths
  pub right : (format : Format) → first_misfit format nodes paths ≡ None
      → All (λ path. ForSome (node_in nodes path) (λ node. is_attrs_right (form_of format) node.entry.attrs ≡ true)) (drop 1 paths)
  pub counts : counts_of nodes paths ≡ tree_counts t

-- Nodes that hold the objects of sound listings, and the rising paths of these, tell their tree, whatever bytes the files have.
abbrev pub RisingLaw : Type 0
RisingLaw = (image : List ℕ) (layout : Layout) (listings : List Listing) (nodes : FinMap nat_cmp Node) (paths : List Path)
    → AreSound layout listings → HoldObjects nodes listings → AreRisingPaths listings paths → TellTree nodes paths (tree_of image layout listings)
