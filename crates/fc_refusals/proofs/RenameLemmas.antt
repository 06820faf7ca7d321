-- Why `rename` is refused, by what was found among the nodes, and to which directory it leads.
use Rattle.std.proofs.Common.{◌≡◌, ℕ, Bool, true, false, not, ◌&&◌, List, [], ◌∷◌, length, refl, sym, ap, ap₂, subst, ◌∙◌, arith, eqb-true, eq-eqb, Option, Some, None, is_some, nat_cmp}
use Rattle.std.specs.Prelude.{Contains, ◌==◌, Ok, Err, if◌then◌else◌}
use Rattle.std.specs.FinMap.{FinMap}
use Rattle.fc_names.specs.declared.name.NameForm.{NameForm}
use Rattle.fc_names.specs.declared.refusal.Refusal.{Refusal}
use Rattle.fc_names.specs.declared.refusal.Refusal.TheVariants as refusals
use Rattle.fc_names.specs.Names.{Path, is_same_name, is_same_path, is_writable}
use Rattle.fc_model.specs.Command.{Command}
use Rattle.fc_model.specs.Tree.{Node as ModelNode, Tree, holder}
use Rattle.fc_model.specs.Answer.{first_of, holder_refusal, is_above, is_locked_at, is_name_bad, is_present, is_root, path_refusal, reasons, when}
use Rattle.fc_image.specs.Layout.{Layout}
use Rattle.fc_image.specs.Walk.{Object, Listing}
use Rattle.fc_image.specs.Objects.{objects_of, tree_of}
use Rattle.fc_image.specs.Sound.{AreSound}
use Rattle.fc_tree.specs.declared.node.Node.{Node}
use Rattle.fc_tree.specs.declared.node.Found.{Found}
use Rattle.fc_tree.specs.declared.node.Found.TheVariants as founds
use Rattle.fc_tree.specs.Nodes.{child, found_in, HoldObjects}
use Rattle.fc_tree.proofs.PlaceLemmas.{one_path, same_number}
use Rattle.fc_tree.proofs.SoundLemmas.{folds_alike, same_object}
use Rattle.fc_tree.proofs.TreeLemmas.{node_of_object}
use Rattle.fc_tree.proofs.WalkedLemmas.{child_is_object, same_some}
use Rattle.fc_refusals.specs.declared.target.Renaming.{Renaming}
use Rattle.fc_refusals.specs.declared.target.Target.{Target}
use Rattle.fc_refusals.specs.Places.{directory_found, is_locked_node, is_other, number_found, own_name, refusal_to_root, target_in}
use Rattle.fc_refusals.specs.Slots.{IsDestination, IsRenaming}
use Rattle.fc_refusals.proofs.CdirLemmas.{name_good, root_present}
use Rattle.fc_refusals.proofs.FreeNameLemmas.{across, within}
use Rattle.fc_refusals.proofs.FoundLemmas.{LeadsTo, leads_to, path_is}
use Rattle.fc_refusals.proofs.HolderLemmas.{IsDirectoryAt, IsNamed, child_there, directory_there, holder_is, named, named_there, never_there, no_child}
use Rattle.fc_refusals.proofs.NodeLemmas.{locked_is}
use Rattle.fc_refusals.proofs.ReasonLemmas.{first, test}
use Rattle.fc_refusals.proofs.TargetLemmas.{target_found, target_there}
use Rattle.fc_image.proofs.CommandLemmas.{same_by_folds}

-- the first of these is the refusal
pub rename_refusal : (t : Tree) (form : NameForm) (read_only : Bool) (from to : Path) (p h : Option Refusal) (bad other root into locked shut : Bool)
    → bad ≡ is_name_bad form to → path_refusal t from ≡ p → holder_refusal t to ≡ h → other ≡ (is_present t to && not (is_same_path from to)) → root ≡ is_root from → into ≡ is_above from to
    → locked ≡ is_locked_at t from → shut ≡ read_only
    → first_of (when bad refusals.BadName ∷ p ∷ h ∷ when other refusals.Exists ∷ when root refusals.RootRefused ∷ when into refusals.IntoItself ∷ when locked refusals.Locked
    ∷ when shut refusals.ReadOnly ∷ [])
    ≡ first_of (reasons t form read_only (Command.Rename from to))
rename_refusal t form read_only from to p h bad other root into locked shut name there above exists top inside lock closed =
    ap first_of (first (test refusals.BadName name) (first (sym there) (first (sym above) (first (test refusals.Exists exists) (first (test refusals.RootRefused top)
    (first (test refusals.IntoItself inside) (first (test refusals.Locked lock) (first (test refusals.ReadOnly closed) refl))))))))

-- ---- to the root's path

other_path : (from : Path) (b : Bool) → is_root from ≡ b → is_same_path from [] ≡ b
other_path [] true e = refl
other_path [] false e = absurd (cc)
other_path (x ∷ from) true e = absurd (omega (arith, eqb-true (length (x ∷ from)) 0 e))
other_path (x ∷ from) false e = refl

pub to_root_refused : (image : List ℕ) (layout : Layout) (listings : List Listing) (nodes : FinMap nat_cmp Node) (form : NameForm) (read_only : Bool) (from to : Path) (refusal : Refusal)
    → AreSound layout listings → HoldObjects nodes listings → to ≡ [] → refusal ≡ refusal_to_root (found_in nodes from) from
    → Some refusal ≡ first_of (reasons (tree_of image layout listings) form read_only (Command.Rename from to))
to_root_refused image layout listings nodes form read_only from to refusal sound held none is =
    ap (λ (r : Refusal). let o : Option Refusal = Some r in o) is
    ∙ by (found_in nodes from) (path_is image layout listings nodes from (number_found (found_in nodes from)) sound held refl)
    ∙ ap (λ (q : Path). first_of (reasons t form read_only (Command.Rename from q))) (sym none)
  where
    t : Tree
    t = tree_of image layout listings

    there : (b : Bool) → is_root from ≡ b → not b ≡ (is_present (tree_of image layout listings) [] && not (is_same_path from []))
    there b e = ap₂ (λ (x y : Bool). x && not y) (root_present image layout listings sound) (sym (other_path from b e))

    by : (f : Found) → path_refusal (tree_of image layout listings) from ≡ Rattle.fc_refusals.specs.Targets.refusal_of (number_found f)
        → (let o : Option Refusal = Some (refusal_to_root f from) in o) ≡ first_of (reasons (tree_of image layout listings) form read_only (Command.Rename from []))
    by founds.Absent e =
        rename_refusal (tree_of image layout listings) form read_only from [] (Some refusals.NotFound) None false (is_present (tree_of image layout listings) [] && not (is_same_path from [])) (is_root from) (is_above from [])
        (is_locked_at (tree_of image layout listings) from) read_only refl e refl refl refl refl refl refl
    by founds.NotDirectory e =
        rename_refusal (tree_of image layout listings) form read_only from [] (Some refusals.NotDirectory) None false (is_present (tree_of image layout listings) [] && not (is_same_path from [])) (is_root from) (is_above from [])
        (is_locked_at (tree_of image layout listings) from) read_only refl e refl refl refl refl refl refl
    by (founds.Node n) e = go (is_root from) refl
      where
        go : (b : Bool) → is_root from ≡ b → (let o : Option Refusal = Some (if b then refusals.RootRefused else refusals.Exists) in o) ≡ first_of (reasons (tree_of image layout listings) form read_only (Command.Rename from []))
        go true h =
            rename_refusal (tree_of image layout listings) form read_only from [] None None false false true (is_above from []) (is_locked_at (tree_of image layout listings) from) read_only refl e refl (there true h) (sym h) refl refl refl
        go false h =
            rename_refusal (tree_of image layout listings) form read_only from [] None None false true (is_root from) (is_above from []) (is_locked_at (tree_of image layout listings) from) read_only refl e refl (there false h) refl refl refl refl

-- ---- two paths and their numbers

module _ (layout : Layout) (listings : List Listing) (nodes : FinMap nat_cmp Node) (from to : Path) (n m : ℕ) (a : LeadsTo listings nodes from n) (b : LeadsTo listings nodes to m) where
  same_if : m ≡ n → is_same_path from b.object.path ≡ true
  same_if e =
      same_by_folds from b.object.path (folds_alike from a.object.path a.same
      ∙ one_path nodes n (length a.object.path) a.object.path b.object.path refl a.number (b.number ∙ ap (λ (k : ℕ). let o : Option ℕ = Some k in o) e))

  -- spellings of one path lead to one node
  same_is : is_same_path from to ≡ (m == n)
  same_is = by (is_same_path from to) refl (m == n) refl
    where
      both : is_same_path from to ≡ true → (m == n) ≡ true
      both e = eq-eqb m n (same_some m n (sym b.number ∙ same_number nodes b.object.path a.object.path (sym (folds_alike to b.object.path b.same) ∙ sym (folds_alike from to e) ∙ folds_alike from a.object.path a.same)
          ∙ a.number))

      by : (x : Bool) → is_same_path from to ≡ x → (y : Bool) → (m == n) ≡ y → x ≡ y
      by true e true f = refl
      by true e false f = absurd (let g = both e in cc)
      by false e true f =
          absurd (let g = same_by_folds from to (folds_alike from b.object.path (same_if (eqb-true m n f)) ∙ sym (folds_alike to b.object.path b.same)) in cc)
      by false e false f = refl

-- ---- to a path with a name

module _ (layout : Layout) (listings : List Listing) (nodes : FinMap nat_cmp Node) (sound : AreSound layout listings) (held : HoldObjects nodes listings) (from to : Path) (n dir : ℕ) (name : List ℕ)
    (is : IsNamed to name) (a : LeadsTo listings nodes from n) (above : IsDirectoryAt listings nodes (holder to) dir) where
  other_is : (image : List ℕ) → is_other (child nodes dir name) n ≡ (is_present (tree_of image layout listings) to && not (is_same_path from to))
  other_is image = by (child nodes dir name) refl
    where
      by : (m : Option ℕ) → child nodes dir name ≡ m → is_other m n ≡ (is_present (tree_of image layout listings) to && not (is_same_path from to))
      by None e = ap (λ (o : Option ModelNode). is_some o && not (is_same_path from to)) (sym (no_child layout listings nodes sound held to name dir is above image (sym e)))
      by (Some m) e =
          let b = child_there layout listings nodes sound held to name dir is above m (sym e) in
          ap not (sym (same_is layout listings nodes from to n m a b))
          ∙ ap (λ (o : Option ModelNode). is_some o && not (is_same_path from to)) (sym (node_of_object image layout listings sound to b.object b.among b.same))

  free : false ≡ is_other (child nodes dir name) n → (o : Object) → Contains (objects_of listings) o → is_same_path to o.path ≡ true → is_same_path from o.path ≡ true
  free only o at same = by (child nodes dir name) refl only
    where
      by : (m : Option ℕ) → child nodes dir name ≡ m → false ≡ is_other m n → is_same_path from o.path ≡ true
      by None e only' = absurd (never_there layout listings nodes sound held to name dir is above (sym e) o at same)
      by (Some m) e only' =
          let b = child_there layout listings nodes sound held to name dir is above m (sym e) in
          let one = same_object layout listings sound to b.object o b.among at b.same same in
          subst (λ (p : Object). is_same_path from p.path ≡ true) one (same_if layout listings nodes from to n m a b (equal m only'))
        where
          equal : (k : ℕ) → false ≡ not (k == n) → k ≡ n
          equal k h = eqb-true k n (turned (k == n) h)
            where
              turned : (x : Bool) → false ≡ not x → x ≡ true
              turned true g = refl
              turned false g = absurd (cc)

  destination : false ≡ is_other (child nodes dir name) n → false ≡ is_above from to → IsDestination nodes listings from to dir
  destination only into = record {
    listing = above.listing;
    listed = above.listed;
    above = above.same;
    holder_is = above.number;
    no_root = is.some;
    free = free only;
    named = λ o at same. free only o (child_is_object layout listings sound above.listing o above.listed at)
        (named_there layout listings nodes sound held to name dir is above o at (ap (λ (x : List ℕ). is_same_name x o.entry.name) is.last ∙ same));
    not_into = sym into;
  }

  pub renaming : (target : Target) → Some target ≡ target_in nodes n → false ≡ is_other (child nodes dir name) n → false ≡ is_root from → false ≡ is_above from to
      → IsRenaming nodes listings from to (record { target = target; holder = dir })
  renaming target e only other into =
      let found = target_found layout listings nodes sound held from n a other target e in
      let leads = destination only into in
      let r : Renaming = record { target = target; holder = dir } in
      record {
        target = found;
        destination = leads;
        within = within layout listings nodes sound from to r found leads;
        across = across layout listings nodes sound from to r found leads;
      }

-- ---- what was found

module _ (layout : Layout) (listings : List Listing) (nodes : FinMap nat_cmp Node) (from to : Path) (name : List ℕ) (sound : AreSound layout listings) (held : HoldObjects nodes listings)
    (own : Some name ≡ own_name to) where
  module _ (image : List ℕ) (form : NameForm) (read_only : Bool) (good : true ≡ is_writable form name) where
    abbrev t : Tree
    t = tree_of image layout listings

    abbrev answers : Option Refusal
    answers = first_of (reasons t form read_only (Command.Rename from to))

    abbrev exists : Bool
    exists = is_present t to && not (is_same_path from to)

    -- nothing is renamed
    pub from_refused : (refusal : Refusal) → Err refusal ≡ number_found (found_in nodes from) → Some refusal ≡ answers
    from_refused refusal e =
        rename_refusal t form read_only from to (Some refusal) (holder_refusal t to) false exists (is_root from) (is_above from to) (is_locked_at t from) read_only
        (name_good form to name (named to name own) good) (path_is image layout listings nodes from (Err refusal) sound held e) refl refl refl refl refl refl

    module _ (n : ℕ) (leads : Ok n ≡ number_found (found_in nodes from)) where
      -- there is no new holder
      pub holder_refused : (refusal : Refusal) → Err refusal ≡ directory_found nodes (found_in nodes (holder to)) → Some refusal ≡ answers
      holder_refused refusal e =
          let is = named to name own in
          rename_refusal t form read_only from to None (Some refusal) false exists (is_root from) (is_above from to) (is_locked_at t from) read_only
          (name_good form to name is good) (path_is image layout listings nodes from (Ok n) sound held leads)
          (holder_is image layout listings nodes sound held to name (Err refusal) is e) refl refl refl refl refl

      -- both are there
      pub rename_refused : (dir : ℕ) (other root into locked shut : Bool) → Ok dir ≡ directory_found nodes (found_in nodes (holder to)) → other ≡ is_other (child nodes dir name) n
          → root ≡ is_root from → into ≡ is_above from to → locked ≡ is_locked_node nodes n → shut ≡ read_only
          → first_of (when other refusals.Exists ∷ when root refusals.RootRefused ∷ when into refusals.IntoItself ∷ when locked refusals.Locked ∷ when shut refusals.ReadOnly ∷ []) ≡ answers
      rename_refused dir other root into locked shut holds only top inside lock closed =
          let is = named to name own in
          let a = leads_to layout listings nodes from n sound held leads in
          rename_refusal t form read_only from to None None false other root into locked shut
          (name_good form to name is good) (path_is image layout listings nodes from (Ok n) sound held leads)
          (holder_is image layout listings nodes sound held to name (Ok dir) is holds)
          (only ∙ other_is layout listings nodes sound held from to n dir name is a (directory_there layout listings nodes sound held (holder to) dir holds) image)
          top inside (lock ∙ locked_is layout listings nodes sound held from n a image) closed

  module _ (n dir : ℕ) (leads : Ok n ≡ number_found (found_in nodes from)) (holds : Ok dir ≡ directory_found nodes (found_in nodes (holder to)))
      (other : false ≡ is_root from) where
    pub renaming_is : (x : Target) → Some x ≡ target_in nodes n → false ≡ is_other (child nodes dir name) n → false ≡ is_above from to
        → IsRenaming nodes listings from to (record { target = x; holder = dir })
    renaming_is x e only into =
        renaming layout listings nodes sound held from to n dir name (named to name own) (leads_to layout listings nodes from n sound held leads)
        (directory_there layout listings nodes sound held (holder to) dir holds) x e only other into

    pub target_exists : None ≡ target_in nodes n → ⊥
    target_exists e = target_there layout listings nodes sound held from n (leads_to layout listings nodes from n sound held leads) other (sym e)
