-- A listed directory that is told something, by any walk whose objects the nodes hold: what it can be told, what it was told, and where its
-- piece goes.
use Rattle.std.proofs.Common.{◌≡◌, ℕ, List, sym, ap, subst, ◌∙◌, Option, Some, None}
use Rattle.std.specs.Prelude.{Contains, IsSome, is_some}
use Rattle.std.specs.FinMap.{get}
use Rattle.std.specs.Option.{option_map_or}
use Rattle.fc_dirs.specs.Directory.{Directory}
use Rattle.fc_drafts.specs.Draft.{CanAddress, directory_in}
use Rattle.fc_image.specs.Layout.{Layout, dir_form, sectors_at}
use Rattle.fc_image.specs.Report.{holder_address}
use Rattle.fc_image.specs.Sound.{AreSound}
use Rattle.fc_image.specs.Walk.{Listing, object_size}
use Rattle.fc_tree.specs.declared.node.Node.{Node}
use Rattle.fc_tree.specs.Agree.{HasForm}
use Rattle.fc_tree.specs.Counts.{address_in}
use Rattle.fc_tree.specs.Nodes.{HoldObjects, number_of}
use Rattle.fc_tree.specs.Parts.{Parts}
use Rattle.fc_tree.proofs.WalkedLemmas.{listed_directory}
use Rattle.fc_laws.specs.nodes.Edits.{Nodes}
use Rattle.fc_change.specs.declared.change.Says.{Says}
use Rattle.fc_change.specs.Directories.{CanBe, CanTell, IsRewritingBy, Rewriting, Tells, above_of}
use Rattle.fc_change.specs.Needs.{SaysAt}
use Rattle.fc_change.specs.Prepared.{HasPlace, IsPieceOf}
use Rattle.fc_writing.specs.declared.ready.Piece.{Piece}
use Rattle.fc_writing.specs.Ready.{place_of}
use Rattle.fc_commands.specs.Run.{IsMapIn}
use Rattle.fc_commands.proofs.NodeLemmas.{can_address, content_is, each_at, held_at, sectors_are}
use Rattle.fc_commands.proofs.NodeLemmas as its

-- Each listed directory has the form of the disc's directories.
abbrev pub HaveForms : Layout → List Listing → Type 0
HaveForms layout listings = (k : Listing) → Contains listings k → HasForm (dir_form layout) k.object.entry.len k.content

module _ (layout : Layout) (nodes : Nodes) (listings : List Listing) (sound : AreSound layout listings) (held : HoldObjects nodes listings) (l : Listing) (listed : Contains listings l) (n : ℕ)
    (number : number_of nodes l.object.path ≡ Some n) where
  abbrev pub node : Node
  node = its.node nodes layout listings sound held l listed n number

  pub there : get nodes n ≡ Some node
  there = its.there nodes layout listings sound held l listed n number

  pub has_node : IsSome (get nodes n)
  has_node = ap is_some there

  pub says_at : SaysAt nodes n l.content
  says_at = record { node = node; there = there; says = its.says nodes layout listings sound held l listed n number }

  pub address_is : address_in nodes n ≡ l.object.entry.address
  address_is = ap (λ (x : Option Node). option_map_or (λ (m : Node). m.entry.address) x 0) there

  pub has_place : (h : Parts) → h.layout ≡ layout → h.nodes ≡ nodes → HasPlace h n
  has_place h at same = record {
    node = node;
    there = ap (λ (ns : Nodes). get ns n) same ∙ there;
    placed = subst (λ (x : Layout). IsSome (sectors_at x node.entry.address (object_size (dir_form x) node.entry))) (sym at) (ap is_some (its.placed nodes layout listings sound held l listed n number));
  }

  -- ---- what it can be told

  pub can_tell : (r : Rewriting) → above_of r node ≡ node.holder → CanBe r l.content → HaveForms layout listings → IsMapIn layout → CanTell None nodes n r
  can_tell r stays can form is =
      let up = its.above nodes layout listings sound held l listed n number in
      let top = listed_directory layout listings sound up.0 up.1 in
      record {
        node = node;
        content = l.content;
        there = there;
        says = its.says nodes layout listings sound held l listed n number;
        amended = tt;
        addressed = subst (CanAddress l.content) (sym (ap (address_in nodes) stays ∙ its.above_address nodes layout listings sound held l listed n number))
            (can_address layout l.content l.object.entry.len up.0.object is (form l listed) top.1 (each_at layout listings sound up.0.object top.0));
        can = λ middle amends. subst (CanBe r) (sym amends) can;
      }

  -- ---- what it was told

  module _ (r : Rewriting) (said : Says) (tells : Tells None nodes n r said) where
    middle_is : tells.middle ≡ l.content
    middle_is = tells.amended ∙ content_is nodes layout listings sound held l listed n number tells.node tells.there tells.content tells.says

    pub rewritten : above_of r tells.node ≡ tells.node.holder → IsRewritingBy r (holder_address listings l.object.path) l.content (directory_in said.draft)
    rewritten stays =
        subst (λ (p : ℕ). IsRewritingBy r p l.content (directory_in said.draft)) (ap (address_in nodes) stays ∙ held_at nodes layout listings sound held l listed n number tells.node tells.there)
        (subst (λ (dir : Directory). IsRewritingBy r (address_in nodes (above_of r tells.node)) dir (directory_in said.draft)) middle_is tells.rewritten)

    -- Its piece goes to the directory's place.
    pub place_is : (p : Piece) → IsPieceOf layout nodes said p → place_of p ≡ l.object.sectors
    place_is p piece = sectors_are nodes layout listings sound held l listed n number piece.node (ap (get nodes) (sym tells.number) ∙ piece.there) (place_of p) piece.place
