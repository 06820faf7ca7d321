-- The listings of parts that agree.
use Rattle.std.proofs.Common.{◌≡◌, ◌-◌, suc, All, IsSome, List, [], ◌∷◌, length, take, drop, None, ap, sym, subst, ◌∙◌, arith}
use Rattle.std.proofs.lemmas.List.{take_all}
use Rattle.std.specs.FinMap.{FinMap}
use Rattle.std.specs.Ordering.{nat_cmp}
use Rattle.fc_names.specs.declared.name.NameForm.{NameForm}
use Rattle.fc_names.specs.Names.{Path}
use Rattle.fc_record.specs.declared.Kind.{Kind}
use Rattle.fc_model.specs.Tree.{Tree}
use Rattle.fc_image.specs.Layout.{Layout}
use Rattle.fc_image.specs.Objects.{tree_of}
use Rattle.fc_image.specs.Opening.{reserved_in}
use Rattle.fc_image.specs.Sound.{AreSound}
use Rattle.fc_image.specs.Walk.{Listing}
use Rattle.fc_tree.specs.Agree.{Agree, reader_of_nodes}
use Rattle.fc_tree.specs.declared.node.Node.{Node}
use Rattle.fc_tree.specs.Nodes.{HoldObjects, Numbers, nodes_of}
use Rattle.fc_tree.specs.Parts.{Parts}
use Rattle.fc_format.specs.declared.Format.{Format}
use Rattle.fc_fit.specs.Fit.{form_of}
use Rattle.fc_fit.specs.Found.{AllLead, node_in}
use Rattle.fc_fit.specs.Misfits.{first_misfit}
use Rattle.fc_fit.specs.Paths.{AreRisingPaths}
use Rattle.fc_fit.specs.Rising.{RisingLaw, TellTree}
use Rattle.fc_volume.specs.Volume.{Volume, parts_of}
use Rattle.fc_convert.specs.Converting.{AreFitting}
use Rattle.fc_convert.specs.Copying.{FitsAt}
use Rattle.fc_tree.proofs.EndLemmas.{no_twin}

-- They are sound, and the nodes hold their objects.
pub agreed : (kind : Kind) (parts : Parts) → Agree kind parts → (layout : Layout) × (listings : List Listing) × AreSound layout listings × HoldObjects parts.nodes listings
agreed kind parts a = (
  parts.layout,
  a.listings,
  record {
    read = reader_of_nodes parts.nodes;
    reserved = reserved_in kind parts.layout;
    address = a.root.entry.address;
    size = a.root.entry.len;
    walked = a.walked.walked;
    apart = λ l at. no_twin l.content (a.walked.bodies l at);
  },
  a.walked.held,
)

-- What the rising paths tell of some tree with these objects.
pub agreed_tell : (nodes : FinMap nat_cmp Node) (paths : List Path) → RisingLaw → (layout : Layout) × (listings : List Listing) × AreSound layout listings × HoldObjects nodes listings
    → ((layout : Layout) (listings : List Listing) → AreSound layout listings → HoldObjects nodes listings → AreRisingPaths listings paths) → (t : Tree) × TellTree nodes paths t
agreed_tell nodes paths rising held are =
    (tree_of [] held.0 held.1, rising [] held.0 held.1 nodes paths held.2 held.3 (are held.0 held.1 held.2 held.3))

-- The paths are the rising ones of a tree's objects.
abbrev pub Rise : Numbers → List Path → Type 0
Rise tree paths = (layout : Layout) (listings : List Listing) → AreSound layout listings → HoldObjects (nodes_of tree) listings → AreRisingPaths listings paths

-- what they tell of a volume's objects
pub told_by : (rising : RisingLaw) (v : Volume) (tree : Numbers) (paths : List Path) → (kind : Kind) × Agree kind (parts_of v) → tree ≡ v.tree → Rise tree paths
    → (t : Tree) × TellTree (nodes_of v.tree) paths t
told_by rising v tree paths agree same are =
    agreed_tell (nodes_of v.tree) paths rising (agreed agree.0 (parts_of v) agree.1) (subst (λ (t : Numbers). Rise t paths) same are)

-- the first misfit, by the same nodes and paths
pub same_misfit : (format : Format) (tree other : Numbers) (paths more : List Path) → tree ≡ other → more ≡ paths
    → first_misfit format (nodes_of tree) more ≡ first_misfit format (nodes_of other) paths
same_misfit format tree other paths more same is =
    ap (λ (t : Numbers). first_misfit format (nodes_of t) more) same ∙ ap (first_misfit format (nodes_of other)) is

-- ---- of paths that fit

-- what they tell of a volume's objects
pub fitting_tell : (rising : RisingLaw) (format : Format) (v : Volume) (paths : List Path) → (kind : Kind) × Agree kind (parts_of v) → AreFitting format v paths
    → (t : Tree) × TellTree (nodes_of v.tree) paths t
fitting_tell rising format v paths agree fitting =
    agreed_tell (nodes_of v.tree) paths rising (agreed agree.0 (parts_of v) agree.1) (λ layout listings sound held. fitting.0 layout listings [] sound held)

-- all but the first of these paths
pub rest_of : (xs paths : List Path) → xs ≡ paths → take (length xs - 1) (drop 1 xs) ≡ drop 1 paths
rest_of [] paths is = ap (drop 1) is
rest_of (x ∷ xs) paths is = take_all (length (x ∷ xs) - 1) xs (omega arith) ∙ ap (drop 1) is

-- what holds of all holds of all but the first
pub all_rest : (P : Path → Type 0) (paths : List Path) → All P paths → All P (drop 1 paths)
all_rest P [] all = all
all_rest P (path ∷ paths) all = λ k d below. all (suc k) d (omega (arith, below))

-- all lead to nodes, and have attributes that an entry of this form holds
pub rest_lead : (v : Volume) (xs paths : List Path) (t : Tree) → TellTree (nodes_of v.tree) paths t → xs ≡ paths → AllLead (nodes_of v.tree) (take (length xs - 1) (drop 1 xs))
rest_lead v xs paths t tell is = subst (AllLead (nodes_of v.tree)) (sym (rest_of xs paths is)) (all_rest (λ path. IsSome (node_in (nodes_of v.tree) path)) paths tell.lead)

pub rest_fit : (format : Format) (form : NameForm) (v : Volume) (xs paths : List Path) (t : Tree) → TellTree (nodes_of v.tree) paths t → first_misfit format (nodes_of v.tree) paths ≡ None → form ≡ form_of format
    → xs ≡ paths → All (FitsAt form v) (take (length xs - 1) (drop 1 xs))
rest_fit format form v xs paths t tell fits same is =
    subst (λ (f : NameForm). All (FitsAt f v) (take (length xs - 1) (drop 1 xs))) (sym same) (subst (All (FitsAt (form_of format) v)) (sym (rest_of xs paths is)) (tell.right format fits))
