-- The target of a job, by any walk whose objects the nodes hold: where it lies, and what its directory is told.
use Rattle.std.proofs.Common.{◌≡◌, ℕ, List, [], slice_get, sym, ap, subst, ◌∙◌, Option, Some, None}
use Rattle.std.specs.Prelude.{Contains, IsSome, is_some}
use Rattle.std.specs.FinMap.{get}
use Rattle.std.specs.Option.{option_map_or}
use Rattle.fc_names.specs.Names.{Path}
use Rattle.fc_dirs.specs.declared.Entry.{Entry}
use Rattle.fc_dirs.specs.Directory.{Directory, entries_of}
use Rattle.fc_drafts.specs.Draft.{CanAddress, directory_in}
use Rattle.fc_image.specs.Layout.{Layout, dir_form, sectors_at}
use Rattle.fc_image.specs.Edits.{IsAt}
use Rattle.fc_image.specs.Objects.{listing_at, object_at, objects_of}
use Rattle.fc_image.specs.Report.{holder_address}
use Rattle.fc_image.specs.Sound.{AreSound}
use Rattle.fc_image.specs.Walk.{Listing, Object, object_size}
use Rattle.fc_tree.specs.declared.node.Node.{Node}
use Rattle.fc_tree.specs.Agree.{HasForm}
use Rattle.fc_tree.specs.Counts.{address_in}
use Rattle.fc_tree.specs.Nodes.{HasNode, HoldObjects, body_in, body_of}
use Rattle.fc_tree.proofs.WalkedLemmas.{child_is_object, contained, listed_directory, same_some}
use Rattle.fc_laws.specs.nodes.Edits.{Nodes}
use Rattle.fc_refusals.specs.Places.{entries_in}
use Rattle.fc_refusals.specs.Targets.{IsTarget}
use Rattle.fc_refusals.specs.declared.target.Target.{Target}
use Rattle.fc_refusals.proofs.TargetLemmas.{entries_body}
use Rattle.fc_change.specs.declared.change.Says.{Says}
use Rattle.fc_change.specs.Directories.{CanBe, CanTell, IsRewritingBy, Rewriting, Tells, above_of}
use Rattle.fc_change.specs.Drafts.{IsEntryOf}
use Rattle.fc_change.specs.Prepared.{HasPlace, IsPieceOf}
use Rattle.fc_tree.specs.Parts.{Parts}
use Rattle.fc_writing.specs.declared.ready.Piece.{Piece}
use Rattle.fc_writing.specs.Ready.{place_of}
use Rattle.fc_commands.specs.Run.{IsMapIn}
use Rattle.fc_commands.proofs.NodeLemmas.{can_address, child_entry, content_is, each_at, held_at, sectors_are}
use Rattle.fc_commands.proofs.NodeLemmas as its
use Rattle.fc_commands.proofs.OwnerLemmas.{object_as}

module _ (layout : Layout) (nodes : Nodes) (listings : List Listing) (sound : AreSound layout listings) (held : HoldObjects nodes listings) (path : Path) (t : Target) (target : IsTarget nodes listings path t) where
  abbrev pub l : Listing
  l = target.listing

  abbrev pub o : Object
  o = target.object

  pub kid_in : Contains l.children o
  kid_in = contained l.children t.at o target.at

  pub among : Contains (objects_of listings) o
  among = child_is_object layout listings sound l o target.listed kid_in

  pub placed : IsAt layout o
  placed = each_at layout listings sound o among

  pub there : object_at listings path ≡ Some o
  there = object_as layout listings sound path o among target.path_is

  -- its node
  abbrev has : HasNode nodes listings o
  has = held.each o among

  abbrev pub node : Node
  node = record { holder = has.holder_number; entry = o.entry; body = body_of (listing_at listings o.path) }

  pub node_is : get nodes t.node ≡ Some node
  node_is = ap (get nodes) (same_some t.node has.number (sym target.node_is ∙ has.at_path)) ∙ has.is

  pub has_node : IsSome (get nodes t.node)
  has_node = ap is_some node_is

  -- its directory's
  abbrev pub dir_node : Node
  dir_node = its.node nodes layout listings sound held l target.listed t.holder target.holder_is

  pub dir_there : get nodes t.holder ≡ Some dir_node
  dir_there = its.there nodes layout listings sound held l target.listed t.holder target.holder_is

  pub dir_says : dir_node.body ≡ body_in l.content
  dir_says = its.says nodes layout listings sound held l target.listed t.holder target.holder_is

  pub has_dir : IsSome (get nodes t.holder)
  has_dir = ap is_some dir_there

  pub dir_placed : IsAt layout l.object
  dir_placed = its.placed nodes layout listings sound held l target.listed t.holder target.holder_is

  pub dir_among : Contains (objects_of listings) l.object
  dir_among = its.among nodes layout listings sound held l target.listed t.holder target.holder_is

  pub dir_place : (h : Parts) → h.layout ≡ layout → h.nodes ≡ nodes → HasPlace h t.holder
  dir_place h at same = record {
    node = dir_node;
    there = ap (λ (ns : Nodes). get ns t.holder) same ∙ dir_there;
    placed = subst (λ (x : Layout). IsSome (sectors_at x dir_node.entry.address (object_size (dir_form x) dir_node.entry))) (sym at) (ap is_some dir_placed);
  }

  -- its entry
  pub entry_there : slice_get (entries_of l.content) t.at ≡ Some o.entry
  entry_there = child_entry layout listings l t.at o sound target.listed target.at

  pub entry : IsEntryOf nodes t o.entry
  entry =
      ap (λ (es : List Entry). slice_get es t.at) (ap (λ (x : Option Node). option_map_or (λ (n : Node). entries_in n.body) x []) dir_there ∙ ap entries_in dir_says ∙ entries_body l.content) ∙ entry_there

  -- ---- what its directory can be told

  pub can_tell : (r : Rewriting) → above_of r dir_node ≡ dir_node.holder → CanBe r l.content → ((k : Listing) → Contains listings k → HasForm (dir_form layout) k.object.entry.len k.content) → IsMapIn layout
      → CanTell None nodes t.holder r
  can_tell r stays can form is =
      let up = its.above nodes layout listings sound held l target.listed t.holder target.holder_is in
      let top = listed_directory layout listings sound up.0 up.1 in
      record {
        node = dir_node;
        content = l.content;
        there = dir_there;
        says = dir_says;
        amended = tt;
        addressed = subst (CanAddress l.content) (sym (ap (address_in nodes) stays ∙ its.above_address nodes layout listings sound held l target.listed t.holder target.holder_is))
            (can_address layout l.content l.object.entry.len up.0.object is (form l target.listed) top.1 (each_at layout listings sound up.0.object top.0));
        can = λ middle amends. subst (CanBe r) (sym amends) can;
      }

  -- ---- what it was told

  module _ (r : Rewriting) (said : Says) (tells : Tells None nodes t.holder r said) where
    middle_is : tells.middle ≡ l.content
    middle_is = tells.amended ∙ content_is nodes layout listings sound held l target.listed t.holder target.holder_is tells.node tells.there tells.content tells.says

    pub rewritten : above_of r tells.node ≡ tells.node.holder → IsRewritingBy r (holder_address listings l.object.path) l.content (directory_in said.draft)
    rewritten stays =
        subst (λ (p : ℕ). IsRewritingBy r p l.content (directory_in said.draft)) (ap (address_in nodes) stays ∙ held_at nodes layout listings sound held l target.listed t.holder target.holder_is tells.node tells.there)
        (subst (λ (dir : Directory). IsRewritingBy r (address_in nodes (above_of r tells.node)) dir (directory_in said.draft)) middle_is tells.rewritten)

    -- Its piece goes to the directory's place.
    pub place_is : (p : Piece) → IsPieceOf layout nodes said p → place_of p ≡ l.object.sectors
    place_is p piece = sectors_are nodes layout listings sound held l target.listed t.holder target.holder_is piece.node (ap (get nodes) (sym tells.number) ∙ piece.there) (place_of p) piece.place
