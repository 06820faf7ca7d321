-- Why `save` and `create` are refused, by what was found among the nodes.
use Rattle.std.proofs.Common.{◌≡◌, ℕ, Bool, true, false, List, [], ◌∷◌, refl, sym, ap, ◌∙◌, Option, Some, None, nat_cmp}
use Rattle.std.specs.Prelude.{Ok, Err}
use Rattle.std.specs.Option.{option_map_or}
use Rattle.std.specs.FinMap.{FinMap}
use Rattle.fc_names.specs.declared.name.NameForm.{NameForm}
use Rattle.fc_names.specs.declared.refusal.Refusal.{Refusal}
use Rattle.fc_names.specs.declared.refusal.Refusal.TheVariants as refusals
use Rattle.fc_names.specs.Names.{Path, is_locked, is_same_path, is_writable}
use Rattle.fc_model.specs.Command.{Command}
use Rattle.fc_model.specs.Tree.{Node as ModelNode, Tree, holder, is_directory_body}
use Rattle.fc_model.specs.Answer.{first_of, holder_refusal, is_directory_at, is_locked_at, is_name_bad, reasons, when}
use Rattle.fc_image.specs.Layout.{Layout}
use Rattle.fc_image.specs.Walk.{Listing, is_directory_object}
use Rattle.fc_image.specs.Objects.{tree_of}
use Rattle.fc_image.specs.Sound.{AreSound}
use Rattle.fc_tree.specs.declared.node.Node.{Node}
use Rattle.fc_tree.specs.Nodes.{child, found_in, is_directory_node, HoldObjects}
use Rattle.fc_tree.proofs.FindLemmas.{directory_at}
use Rattle.fc_tree.proofs.SoundLemmas.{root_object, same_object}
use Rattle.fc_tree.proofs.TreeLemmas.{node_of_object}
use Rattle.fc_tree.proofs.WalkedLemmas.{child_is_object, contained, root, root_is_directory, root_path}
use Rattle.fc_refusals.specs.declared.target.Target.{Target}
use Rattle.fc_refusals.specs.Places.{directory_found, is_locked_node, own_name, target_in}
use Rattle.fc_refusals.specs.Slots.{IsFile}
use Rattle.fc_refusals.proofs.CdirLemmas.{name_good}
use Rattle.fc_refusals.proofs.FoundLemmas.{LeadsTo}
use Rattle.fc_refusals.proofs.HolderLemmas.{child_there, directory_there, holder_is, named, no_child}
use Rattle.fc_refusals.proofs.NodeLemmas.{body_test, directory_is, locked_is}
use Rattle.fc_refusals.proofs.ReasonLemmas.{first, test}
use Rattle.fc_refusals.proofs.TargetLemmas.{target_found, target_there}

-- the first of these is the refusal
pub save_refusal : (t : Tree) (form : NameForm) (read_only : Bool) (path : Path) (load exec : ℕ) (bytes : List ℕ) (p : Option Refusal) (bad dir locked shut : Bool)
    → bad ≡ is_name_bad form path → holder_refusal t path ≡ p → dir ≡ is_directory_at t path → locked ≡ is_locked_at t path → shut ≡ read_only
    → first_of (when bad refusals.BadName ∷ p ∷ when dir refusals.IsDirectory ∷ when locked refusals.Locked ∷ when shut refusals.ReadOnly ∷ [])
    ≡ first_of (reasons t form read_only (Command.Save path load exec bytes))
save_refusal t form read_only path load exec bytes p bad dir locked shut name above is_dir lock closed =
    ap first_of (first (test refusals.BadName name) (first (sym above) (first (test refusals.IsDirectory is_dir) (first (test refusals.Locked lock) (first (test refusals.ReadOnly closed) refl)))))

-- the root's path is refused
pub root_refused : (image : List ℕ) (layout : Layout) (listings : List Listing) (form : NameForm) (read_only : Bool) (path : Path) (load exec : ℕ) (bytes : List ℕ) → AreSound layout listings → path ≡ []
    → Some refusals.IsDirectory ≡ first_of (reasons (tree_of image layout listings) form read_only (Command.Save path load exec bytes))
root_refused image layout listings form read_only path load exec bytes sound e =
    let t = tree_of image layout listings in
    save_refusal t form read_only [] load exec bytes None false true (is_locked_at t []) read_only refl refl root_directory refl refl
    ∙ ap (λ (q : Path). first_of (reasons t form read_only (Command.Save q load exec bytes))) (sym e)
  where
    root_directory : true ≡ is_directory_at (tree_of image layout listings) []
    root_directory =
        sym (ap (λ (m : Option ModelNode). option_map_or (λ (x : ModelNode). is_directory_body x.body) m false)
        (node_of_object image layout listings sound [] (root layout listings sound) (root_object layout listings sound) (ap (is_same_path []) (root_path layout listings sound)))
        ∙ body_test image layout (root layout listings sound) true (root_is_directory layout listings sound))

module _ (image : List ℕ) (layout : Layout) (listings : List Listing) (nodes : FinMap nat_cmp Node) (form : NameForm) (read_only : Bool) (path : Path) (load exec : ℕ) (bytes : List ℕ)
    (name : List ℕ) (sound : AreSound layout listings) (held : HoldObjects nodes listings) (own : Some name ≡ own_name path) (good : true ≡ is_writable form name) where
  abbrev t : Tree
  t = tree_of image layout listings

  abbrev answers : Option Refusal
  answers = first_of (reasons t form read_only (Command.Save path load exec bytes))

  -- a holder that isn't found
  pub holder_refused : (refusal : Refusal) → Err refusal ≡ directory_found nodes (found_in nodes (holder path)) → Some refusal ≡ answers
  holder_refused refusal e =
      let n = named path name own in
      save_refusal t form read_only path load exec bytes (Some refusal) false (is_directory_at t path) (is_locked_at t path) read_only (name_good form path name n good)
      (holder_is image layout listings nodes sound held path name (Err refusal) n e) refl refl refl

  module _ (dir : ℕ) (leads : Ok dir ≡ directory_found nodes (found_in nodes (holder path))) where
    -- nothing is there
    pub new_refused : (shut : Bool) → None ≡ child nodes dir name → shut ≡ read_only → first_of (when shut refusals.ReadOnly ∷ []) ≡ answers
    new_refused shut none closed =
        let n = named path name own in
        let absent = no_child layout listings nodes sound held path name dir n (directory_there layout listings nodes sound held (holder path) dir leads) image none in
        save_refusal t form read_only path load exec bytes None false false false shut (name_good form path name n good)
        (holder_is image layout listings nodes sound held path name (Ok dir) n leads)
        (sym (ap (λ (m : Option ModelNode). option_map_or (λ (x : ModelNode). is_directory_body x.body) m false) absent))
        (sym (ap (λ (m : Option ModelNode). option_map_or (λ (x : ModelNode). is_locked x.attrs) m false) absent)) closed

    -- an object is there
    pub over_refused : (m : ℕ) (is_dir locked shut : Bool) → Some m ≡ child nodes dir name → is_dir ≡ is_directory_node nodes m → locked ≡ is_locked_node nodes m → shut ≡ read_only
        → first_of (when is_dir refusals.IsDirectory ∷ when locked refusals.Locked ∷ when shut refusals.ReadOnly ∷ []) ≡ answers
    over_refused m is_dir locked shut some d l closed =
        let n = named path name own in
        let there = child_there layout listings nodes sound held path name dir n (directory_there layout listings nodes sound held (holder path) dir leads) m some in
        save_refusal t form read_only path load exec bytes None false is_dir locked shut (name_good form path name n good)
        (holder_is image layout listings nodes sound held path name (Ok dir) n leads)
        (d ∙ directory_is layout listings nodes sound held path m there image) (l ∙ locked_is layout listings nodes sound held path m there image) closed

-- ---- the place

module _ (layout : Layout) (listings : List Listing) (nodes : FinMap nat_cmp Node) (path : Path) (name : List ℕ) (dir m : ℕ)
    (sound : AreSound layout listings) (held : HoldObjects nodes listings)
    (own : Some name ≡ own_name path) (leads : Ok dir ≡ directory_found nodes (found_in nodes (holder path))) (some : Some m ≡ child nodes dir name) where
  abbrev there : LeadsTo listings nodes path m
  there = child_there layout listings nodes sound held path name dir (named path name own) (directory_there layout listings nodes sound held (holder path) dir leads) m some

  -- the file is the target
  pub file_is : (target : Target) → Some target ≡ target_in nodes m → false ≡ is_directory_node nodes m → IsFile nodes listings path target
  file_is target e file =
      let is = target_found layout listings nodes sound held path m there (named path name own).other target e in
      let among = child_is_object layout listings sound is.listing is.object is.listed (contained is.listing.children target.at is.object is.at) in
      let one = same_object layout listings sound path there.object is.object there.among among there.same is.path_is in
      record {
        target = is;
        file = ap is_directory_object (sym one) ∙ sym (directory_at layout listings nodes sound held there.object m there.among there.number) ∙ sym file;
      }

  -- there is one
  pub target_exists : None ≡ target_in nodes m → ⊥
  target_exists e = target_there layout listings nodes sound held path m there (named path name own).other (sym e)
