-- The file that a `rename` copies: by each walk it has some bytes, shares its identifier, and goes to another directory.
use Rattle.std.proofs.Common.{◌≡◌, ◌<◌, ◌&&◌, ℕ, Bool, true, false, cond, List, length, not, refl, sym, ap, ◌∙◌, Option, Some}
use Rattle.std.specs.Option.{option_map_or}
use Rattle.fc_names.specs.Names.{Path, is_same_path}
use Rattle.fc_alloc.specs.declared.owner.Owner.{Owner}
use Rattle.fc_record.specs.declared.Kind.{Kind}
use Rattle.fc_newmap.specs.Map.{Map}
use Rattle.fc_dirs.specs.Directory.{directory_size}
use Rattle.fc_model.specs.Tree.{holder}
use Rattle.fc_image.specs.Layout.{Layout, dir_form}
use Rattle.fc_image.specs.Objects.{objects_of}
use Rattle.fc_image.specs.Sound.{AreSound}
use Rattle.fc_image.specs.Walk.{Listing, Object, is_directory_object, object_size}
use Rattle.fc_image.specs.effects.Short.{is_copied, is_sharing}
use Rattle.fc_changes.proofs.BasicLemmas.{clash}
use Rattle.fc_changes.proofs.BesideLemmas.{three}
use Rattle.fc_changes.proofs.ReadsLemmas.{lies_in}
use Rattle.fc_placing.proofs.CopyingLemmas.{copied_is, copies_law}
use Rattle.fc_refusals.specs.Slots.{IsRenaming}
use Rattle.fc_refusals.specs.declared.target.Renaming.{Renaming}
use Rattle.fc_tree.specs.declared.node.Node.{Node}
use Rattle.fc_tree.specs.Nodes.{HoldObjects}
use Rattle.fc_tree.specs.Parts.{AreOwners}
use Rattle.fc_tree.proofs.PlaceLemmas.{one_path}
use Rattle.fc_tree.proofs.SoundLemmas.{folds_alike}
use Rattle.fc_tree.proofs.WalkedLemmas.{child_path}
use Rattle.fc_laws.specs.nodes.Edits.{Nodes}
use Rattle.fc_laws.specs.agree.Agreed.{parts_with}
use Rattle.fc_change.specs.Needs.{is_copied as is_copied_job, len_at}
use Rattle.fc_commands.proofs.TargetLemmas as target_of
use Rattle.std.proofs.lemmas.Bool.{not-true as not_true}
use Rattle.fc_image.proofs.CommandLemmas.{same_by_folds}

pub record IsCopiedFile (m : Map) (nodes : Nodes) (listings : List Listing) (from to : Path) (r : Renaming) (it : Object) : Type 0 where
  pub file : is_directory_object it ≡ false
  pub away : r.holder ≡ r.target.holder → ⊥
  pub sharing : is_sharing (Layout.New m) (objects_of listings) it ≡ true
  pub copied : (kind : Kind) → is_copied (record { kind = kind; layout = Layout.New m; listings = listings }) from to it ≡ true
  pub some : 0 < it.entry.len
  pub len : len_at nodes r.target.node ≡ it.entry.len
  pub size : object_size (dir_form (Layout.New m)) it.entry ≡ it.entry.len

module _ (m : Map) (nodes : Nodes) (owners : List Owner) (listings : List Listing) (from to : Path) (r : Renaming) (sound : AreSound (Layout.New m) listings) (held : HoldObjects nodes listings)
    (known : IsRenaming nodes listings from to r) where
  abbrev it : Object
  it = known.target.object

  abbrev home : Listing
  home = known.target.listing

  abbrev aim : Listing
  aim = known.destination.listing

  its_holder : is_same_path (holder from) home.object.path ≡ true
  its_holder =
      (lies_in from home.object.path it.entry.name
      (ap (is_same_path from) (sym (child_path (Layout.New m) listings sound home it known.target.listed (target_of.kid_in (Layout.New m) nodes listings sound held from r.target known.target))) ∙ known.target.path_is)).holds

  -- The holders of its paths are the same, if the directories are.
  same_holders : r.holder ≡ r.target.holder → is_same_path (holder from) (holder to) ≡ true
  same_holders same =
      same_by_folds (holder from) (holder to)
      (folds_alike (holder from) home.object.path its_holder
      ∙ one_path nodes r.holder (length home.object.path) home.object.path aim.object.path refl (known.target.holder_is ∙ ap (λ (n : ℕ). let y : Option ℕ = Some n in y) (sym same)) known.destination.holder_is
      ∙ sym (folds_alike (holder to) aim.object.path known.destination.above))

  pub copied_file : Kind → AreOwners owners nodes (Layout.New m) (objects_of listings) → is_copied_job (parts_with m nodes owners) r ≡ true → IsCopiedFile m nodes listings from to r known.target.object
  copied_file kind owned copied =
      let whole : (not (is_directory_object it) && not (is_same_path (holder from) (holder to)) && is_sharing (Layout.New m) (objects_of listings) it) ≡ true =
      sym (copied_is m nodes listings owners r.target.node r.holder from to aim.object.path it sound held owned (target_of.among (Layout.New m) nodes listings sound held from r.target known.target) known.target.path_is
      known.target.node_is known.destination.above known.destination.holder_is) ∙ copied in
      let shares = three (not (is_directory_object it)) (not (is_same_path (holder from) (holder to))) (is_sharing (Layout.New m) (objects_of listings) it) whole in
      let file = not_true (is_directory_object it) shares.0 in
      record {
        file = file;
        away = λ same. clash (is_same_path (holder from) (holder to)) (same_holders same) (not_true (is_same_path (holder from) (holder to)) shares.1);
        sharing = shares.2;
        copied = λ any. whole;
        some = copies_law.some (record { kind = kind; layout = Layout.New m; listings = listings }) m from to it (target_of.placed (Layout.New m) nodes listings sound held from r.target known.target) whole;
        len = ap (λ (y : Option Node). option_map_or (λ (n : Node). n.entry.len) y 0) (target_of.node_is (Layout.New m) nodes listings sound held from r.target known.target);
        size = ap (λ (b : Bool). cond b (directory_size (dir_form (Layout.New m)) it.entry.len) it.entry.len) file;
      }
