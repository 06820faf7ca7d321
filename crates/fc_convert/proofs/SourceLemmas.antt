-- What stands at a path of the source.
use Rattle.std.proofs.Common.{◌≡◌, ℕ, Bool, true, false, List, [], refl, sym, ap, ◌∙◌, Option, Some, None, nat_cmp}
use Rattle.std.specs.Prelude.{Contains, Err, Ok, Result, if◌then◌else◌, option_map}
use Rattle.std.specs.FinMap.{FinMap, get}
use Rattle.fc_device.specs.declared.disk.Disk.{Ghosts}
use Rattle.fc_device.proofs.StopLemmas.{one_told}
use Rattle.fc_names.specs.declared.refusal.Refusal.{Refusal}
use Rattle.fc_names.specs.Names.{Path, is_directory, is_same_path}
use Rattle.fc_record.specs.declared.Kind.{Kind}
use Rattle.fc_dirs.specs.declared.Entry.{Entry}
use Rattle.fc_model.specs.Answer.{found}
use Rattle.fc_model.specs.Tree.{Body, Node as Model, bytes_of_body, bytes_of_node, node_at}
use Rattle.fc_image.specs.Layout.{Layout}
use Rattle.fc_image.specs.Sound.{AreSound}
use Rattle.fc_image.specs.Walk.{Listing, Object, object_bytes}
use Rattle.fc_image.specs.Objects.{node_of, objects_of, tree_of}
use Rattle.fc_image.specs.effects.Effect.{State, tree_in}
use Rattle.fc_tree.specs.declared.node.Node.{Node}
use Rattle.fc_tree.specs.declared.node.Found.{Found}
use Rattle.fc_tree.specs.declared.node.Found.TheVariants as founds
use Rattle.fc_tree.specs.Laws.{AreAlike}
use Rattle.fc_tree.specs.Nodes.{HoldObjects, found_in, nodes_of}
use Rattle.fc_tree.proofs.FindLemmas.{find_law}
use Rattle.fc_tree.proofs.TreeLemmas.{node_of_object}
use Rattle.fc_tree.proofs.WalkedLemmas.{same_some, sound_law}
use Rattle.fc_fit.specs.Found.{node_found, node_in}
use Rattle.fc_volume.specs.declared.lines.FileRef.{FileRef}
use Rattle.fc_volume.specs.Answers.{ref_bytes}
use Rattle.fc_volume.specs.Volume.{Volume}
use Rattle.fc_convert.specs.Copying.{IsFileAt, IsNodeAt, model_of}
use Rattle.fc_convert.specs.Opened.{Holds}

-- ---- a node and its object

-- an object that a node stands for
abbrev IsOf : List Listing → Path → Node → Object → Type 0
IsOf listings path node o = Contains (objects_of listings) o × (is_same_path path o.path ≡ true) × (node.entry ≡ o.entry)

module _ (image : List ℕ) (layout : Layout) (listings : List Listing) (nodes : FinMap nat_cmp Node) (path : Path) (node : Node) where
  alike_object : (n : ℕ) (r : Result Model Refusal) → get nodes n ≡ Some node → AreAlike nodes image layout listings path (founds.Node n) r → (o : Object) × IsOf listings path node o
  alike_object n (Ok model) is h = (h.0, (h.1, h.2, same_some node.entry h.0.entry (sym (ap (option_map (λ (m : Node). m.entry)) is) ∙ h.4)))
  alike_object n (Err refusal) is h = absurd h

  object_of : AreSound layout listings → HoldObjects nodes listings → node_in nodes path ≡ Some node → (o : Object) × IsOf listings path node o
  object_of sound held there = by (found_in nodes path) there (find_law image layout listings nodes path sound held)
    where
      by : (f : Found) → node_found nodes f ≡ Some node → AreAlike nodes image layout listings path f (found (tree_of image layout listings) path) → (o : Object) × IsOf listings path node o
      by (founds.Node n) is alike = alike_object n (found (tree_of image layout listings) path) is alike
      by founds.Absent is alike = absurd (cc)
      by founds.NotDirectory is alike = absurd (cc)

  abbrev with_body : Bool → List ℕ → Model
  with_body b bytes = record {
    name = node.entry.name;
    attrs = node.entry.attrs;
    load = node.entry.load;
    exec = node.entry.exec;
    body = if b then Body.Directory else Body.File bytes;
  }

  -- the object's node in the tree
  node_is : (o : Object) (bytes : List ℕ) → node.entry ≡ o.entry → (is_directory node.entry.attrs ≡ false → object_bytes image layout o ≡ bytes) → node_of image layout o ≡ model_of node bytes
  node_is o bytes entry own =
      ap (λ (e : Entry). (let m : Model = record {
        name = e.name;
        attrs = e.attrs;
        load = e.load;
        exec = e.exec;
        body = if is_directory e.attrs then Body.Directory else Body.File (object_bytes image layout o);
      } in m)) (sym entry)
      ∙ by (is_directory node.entry.attrs) refl
    where
      by : (b : Bool) → is_directory node.entry.attrs ≡ b → with_body (is_directory node.entry.attrs) (object_bytes image layout o) ≡ with_body (is_directory node.entry.attrs) bytes
      by true dir = ap (λ (b : Bool). with_body b (object_bytes image layout o)) dir ∙ sym (ap (λ (b : Bool). with_body b bytes) dir)
      by false file = ap (with_body (is_directory node.entry.attrs)) (own file)

-- ---- by what the source holds

module _ {D : Type 0} {d : Ghosts D} (v : Volume) (disk : D) (path : Path) (node : Node) (there : node_in (nodes_of v.tree) path ≡ Some node) where
  object_at : (kind : Kind) (s : State) → Holds d kind s v disk → (o : Object) × IsOf s.view.listings path node o
  object_at kind s holds =
      object_of s.image s.view.layout s.view.listings (nodes_of v.tree) path node (sound_law s.image kind s.view holds.opens) holds.parts.nodes there

  stands : (kind : Kind) (s : State) (holds : Holds d kind s v disk) → node_at (tree_in s) path ≡ Some (node_of s.image s.view.layout (object_at kind s holds).0)
  stands kind s holds =
      let o = object_at kind s holds in
      node_of_object s.image s.view.layout s.view.listings (sound_law s.image kind s.view holds.opens) path o.0 o.1.0 o.1.1

  -- a directory
  pub dir_model : is_directory node.entry.attrs ≡ true → IsNodeAt d v disk path (model_of node [])
  dir_model dir kind s holds =
      let o = object_at kind s holds in
      stands kind s holds
      ∙ ap (λ (m : Model). let r : Option Model = Some m in r)
      (node_is s.image s.view.layout s.view.listings (nodes_of v.tree) path node o.0 [] o.1.2 (λ file. absurd (let two : true ≡ false = sym dir ∙ file in cc)))

  -- a file's object, and its bytes
  pub file_object : is_directory node.entry.attrs ≡ false → (kind : Kind) (s : State) → Holds d kind s v disk
      → (o : Object) × Contains (objects_of s.view.listings) o × (is_directory o.entry.attrs ≡ false) × (node.entry ≡ o.entry) × (bytes_of_node (node_at (tree_in s) path) ≡ object_bytes s.image s.view.layout o)
  file_object file kind s holds =
      let o = object_at kind s holds in
      let own : is_directory o.0.entry.attrs ≡ false = ap (λ (e : Entry). is_directory e.attrs) (sym o.1.2) ∙ file in (
        o.0,
        o.1.0,
        own,
        o.1.2,
        ap bytes_of_node (stands kind s holds) ∙ ap (λ (b : Bool). bytes_of_body (if b then Body.Directory else Body.File (object_bytes s.image s.view.layout o.0))) own,
      )

  -- a file of these bytes
  pub file_model : (bytes : List ℕ) → is_directory node.entry.attrs ≡ false → IsFileAt d v disk path bytes → IsNodeAt d v disk path (model_of node bytes)
  file_model bytes file is kind s holds =
      let o = object_at kind s holds in
      let own : object_bytes s.image s.view.layout o.0 ≡ bytes =
      sym (ap bytes_of_node (stands kind s holds)
      ∙ ap (λ (b : Bool). bytes_of_body (if b then Body.Directory else Body.File (object_bytes s.image s.view.layout o.0))) (ap (λ (e : Entry). is_directory e.attrs) (sym o.1.2) ∙ file))
      ∙ is kind s holds in
      stands kind s holds
      ∙ ap (λ (m : Model). let r : Option Model = Some m in r) (node_is s.image s.view.layout s.view.listings (nodes_of v.tree) path node o.0 bytes o.1.2 (λ f. own))

-- Bytes that the source tells are those of the file; if it tells none, any are.
module _ {D : Type 0} {d : Ghosts D} (v : Volume) (disk : D) (path : Path) (file : FileRef)
    (told : (kind : Kind) (s : State) → Holds d kind s v disk → bytes_of_node (node_at (tree_in s) path) ≡ ref_bytes s.image v file) where
  pub read_bytes : (bytes : List ℕ) → ((image : List ℕ) → d.bytes disk ≡ Some image → bytes ≡ ref_bytes image v file) → IsFileAt d v disk path bytes
  read_bytes bytes are kind s holds = told kind s holds ∙ sym (are s.image holds.bytes)

  pub unread_bytes : (bytes : List ℕ) × IsFileAt d v disk path bytes
  unread_bytes = by (d.bytes disk) refl
    where
      by : (o : Option (List ℕ)) → d.bytes disk ≡ o → (bytes : List ℕ) × IsFileAt d v disk path bytes
      by (Some image) is = (ref_bytes image v file, read_bytes (ref_bytes image v file) (λ other here. ap (λ (i : List ℕ). ref_bytes i v file) (one_told (sym is ∙ here))))
      by None is = ([], λ kind s holds. absurd (let two : None ≡ Some s.image = sym is ∙ holds.bytes in cc))
