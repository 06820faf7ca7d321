-- What the bytes of a directory say.
use Rattle.std.proofs.Common.{◌≡◌, ◌<◌, ℕ, true, false, Bool, List, ◌∷◌, ◌++◌, ◌*◌, ◌≤◌, length, map, get_or, refl, sym, ap, ap₂, subst, ◌∙◌, Some, None, Option}
use Rattle.std.specs.Prelude.{Result, Ok, Err, slice_get, slice_set}
use Rattle.std.specs.Option.{ForSome}
use Rattle.std.proofs.lemmas.Option.{get_or_from_slice_get, slice_get_within}
use Rattle.fc_bytes.specs.Checks.{is_big_size}
use Rattle.fc_names.specs.declared.name.NameForm.{NameForm}
use Rattle.fc_names.specs.declared.name.NameForm.TheVariants.{Seven, Ten, Long}
use Rattle.fc_names.specs.Names.{Path, is_directory}
use Rattle.fc_dirs.specs.declared.Entry.{Entry}
use Rattle.fc_dirs.specs.declared.DirFault.{DirFault}
use Rattle.fc_dirs.specs.declared.DirFault.TheVariants.{Size}
use Rattle.fc_dirs.specs.Entries.{fault_unless, first_of}
use Rattle.fc_dirs.specs.declared.SmallForm.TheVariants.{Bytes1280, Bytes2048}
use Rattle.fc_dirs.specs.Small.{IsSmallDir, SmallDir, small_dir, small_fault}
use Rattle.fc_dirs.specs.Big.{BigDir, IsBigDir, big_dir, big_fault}
use Rattle.fc_dirs.specs.Directory.{Directory, directory_of, directory_size, entries_of, read_or}
use Rattle.fc_image.specs.declared.ImageFault.{ImageFault}
use Rattle.fc_image.specs.declared.ImageFault.TheVariants as faults
use Rattle.fc_image.specs.Layout.{Layout, dir_form, disc_sectors, sector_bytes, sectors_at}
use Rattle.fc_image.specs.Walk.{Object, at_path, children_of, is_directory_object, object_bytes, object_size, reader_of}
use Rattle.fc_image.specs.Edits.{IsAt}
use Rattle.fc_space.specs.Space.{PlacesSuffice}
use Rattle.fc_tree.specs.declared.node.Body.{Body}
use Rattle.fc_tree.specs.declared.node.Body.TheVariants as bodies
use Rattle.fc_tree.specs.declared.node.Node.{Node}
use Rattle.fc_tree.specs.declared.node.TreeError.{TreeError}
use Rattle.fc_tree.specs.Agree.{HasForm, IsDirectory}
use Rattle.fc_tree.specs.Nodes.{body_in}
use Rattle.fc_tree.specs.Reading.{may_have_size}
use Rattle.fc_tree.specs.Taken.{AreTaken, Marks}
use Rattle.fc_tree.specs.Walking.{FailsAs, HoldsObject, IsDamaged, IsVisited, new_node, said_children}
use Rattle.fc_tree.proofs.LengthLemmas.{object_long}
use Rattle.fc_tree.proofs.PathLemmas.{same_node}
use Rattle.fc_tree.proofs.ChildLemmas.{get_front}

-- ---- bytes

-- the bytes say a directory, and this is it as a body
abbrev pub Says : NameForm → List ℕ → Body → Type 0
Says form bytes body = (dir : Directory) × (body ≡ body_in dir) × (directory_of form bytes ≡ Ok dir) × HasForm form (length bytes) dir

said : (fault : Option DirFault) (a b : Directory) → fault ≡ None → a ≡ b → read_or fault a ≡ Ok b
said fault a b none same = ap (λ (f : Option DirFault). read_or f a) none ∙ ap (λ (d : Directory). let r : Result Directory DirFault = Ok d in r) same

pub seven_says : (form : NameForm) (bytes : List ℕ) (dir : SmallDir) → form ≡ Seven → IsSmallDir bytes dir → dir.form ≡ Bytes1280 → Says form bytes (bodies.Small dir)
seven_says form bytes dir is d f = subst (λ (x : NameForm). Says x bytes (bodies.Small dir)) (sym is) (
  Directory.Small dir,
  refl,
  said (small_fault Bytes1280 bytes) (Directory.Small (small_dir Bytes1280 bytes)) (Directory.Small dir) (ap (λ x. small_fault x bytes) (sym f) ∙ d.right)
      (ap (λ x. Directory.Small (small_dir x bytes)) (sym f) ∙ ap (λ (x : SmallDir). Directory.Small x) d.says),
  f,
)

pub ten_says : (form : NameForm) (bytes : List ℕ) (dir : SmallDir) → form ≡ Ten → IsSmallDir bytes dir → dir.form ≡ Bytes2048 → Says form bytes (bodies.Small dir)
ten_says form bytes dir is d f = subst (λ (x : NameForm). Says x bytes (bodies.Small dir)) (sym is) (
  Directory.Small dir,
  refl,
  said (small_fault Bytes2048 bytes) (Directory.Small (small_dir Bytes2048 bytes)) (Directory.Small dir) (ap (λ x. small_fault x bytes) (sym f) ∙ d.right)
      (ap (λ x. Directory.Small (small_dir x bytes)) (sym f) ∙ ap (λ (x : SmallDir). Directory.Small x) d.says),
  f,
)

big_long : (bytes : List ℕ) → (big_dir bytes).size ≡ length bytes
unfolding big_dir
big_long bytes = refl

pub long_says : (form : NameForm) (bytes : List ℕ) (dir : BigDir) → form ≡ Long → IsBigDir bytes dir → Says form bytes (bodies.Big dir)
long_says form bytes dir is d = subst (λ (x : NameForm). Says x bytes (bodies.Big dir)) (sym is) (
  Directory.Big dir,
  refl,
  said (big_fault bytes) (Directory.Big (big_dir bytes)) (Directory.Big dir) d.right (ap (λ (x : BigDir). Directory.Big x) d.says),
  sym (ap (λ (x : BigDir). x.size) d.says) ∙ big_long bytes,
)

-- ---- sizes

pub size_again : (form : NameForm) (len n : ℕ) → n ≡ directory_size form len → n ≡ directory_size form n
size_again Seven len n e = e
size_again Ten len n e = e
size_again Long len n e = refl

form_same : (form : NameForm) (len n : ℕ) (dir : Directory) → n ≡ directory_size form len → HasForm form n dir → HasForm form len dir
form_same Seven len n (Directory.Small dir) e h = h
form_same Seven len n (Directory.Big dir) e h = h
form_same Ten len n (Directory.Small dir) e h = h
form_same Ten len n (Directory.Big dir) e h = h
form_same Long len n (Directory.Small dir) e h = h
form_same Long len n (Directory.Big dir) e h = h ∙ e

pub directory_bytes : (form : NameForm) (e : Entry) → is_directory e.attrs ≡ true → object_size form e ≡ directory_size form e.len
directory_bytes form e is = rw is refl

first_size : (right : Bool) (others more : List (Option DirFault)) → right ≡ false → first_of (first_of (fault_unless right Size ∷ others) ∷ more) ≡ Some Size
first_size true others more e = absurd (cc)
first_size false others more e = refl

big_misfit : (bytes : List ℕ) → is_big_size (length bytes) ≡ false → big_fault bytes ≡ Some Size
unfolding big_fault
big_misfit bytes e = first_size (is_big_size (length bytes)) _ _ e

-- bytes of a size that no directory has say no other fault
misfit : (form : NameForm) (len : ℕ) (bytes : List ℕ) → may_have_size form len ≡ false → length bytes ≡ directory_size form len → directory_of form bytes ≡ Err Size
misfit Seven len bytes e size = absurd (cc)
misfit Ten len bytes e size = absurd (cc)
misfit Long len bytes e size =
    ap (λ (f : Option DirFault). read_or f (Directory.Big (big_dir bytes))) (big_misfit bytes (ap is_big_size size ∙ e))

-- a fault of what a directory says, told with its path
pub damaged : (path : Path) (said : Result Directory DirFault) (fault : DirFault) (error : TreeError) → said ≡ Err fault → IsDamaged path fault error → FailsAs (at_path path said) error
damaged path said fault (TreeError.Image f) e is = ap (at_path path) e ∙ ap (λ (x : ImageFault). let r : Result Directory ImageFault = Err x in r) (sym is)
damaged path said fault TreeError.DiskFault e is = tt
damaged path said fault TreeError.NoMemory e is = tt

-- ---- a node's directory

module _ (layout : Layout) (nodes : List Node) (at : ℕ) (o : Object) (stands : HoldsObject layout nodes at o) (node : Node) (is : slice_get nodes at ≡ Some node) where
  pub node_entry : node.entry ≡ o.entry
  node_entry = ap (λ (n : Node). n.entry) (same_node nodes at node stands.node is stands.is) ∙ stands.entry

  pub node_placed : (sectors : List ℕ) × (sectors_at layout node.entry.address (object_size (dir_form layout) node.entry) ≡ Some sectors)
  node_placed = (o.sectors, subst (λ (e : Entry). sectors_at layout e.address (object_size (dir_form layout) e) ≡ Some o.sectors) (sym node_entry) stands.placed)

  pub node_is_directory : is_directory_object o ≡ true → is_directory node.entry.attrs ≡ true
  node_is_directory dir = ap (λ (e : Entry). is_directory e.attrs) node_entry ∙ dir

  pub node_size : is_directory_object o ≡ true → object_size (dir_form layout) node.entry ≡ directory_size (dir_form layout) node.entry.len
  node_size dir = directory_bytes (dir_form layout) node.entry (node_is_directory dir)

  -- the bytes of a directory of a size that none has
  pub node_misfits : (form : NameForm) (image : List ℕ) → form ≡ dir_form layout → is_directory node.entry.attrs ≡ true → may_have_size form node.entry.len ≡ false → PlacesSuffice layout
      → disc_sectors layout * sector_bytes layout ≤ length image → reader_of image layout o ≡ Err Size
  node_misfits form image form_is dir misfits suffice long =
      let size : length (object_bytes image layout o) ≡ directory_size (dir_form layout) node.entry.len =
      object_long image layout o suffice stands.placed long ∙ ap (object_size (dir_form layout)) (sym node_entry) ∙ directory_bytes (dir_form layout) node.entry dir in
      misfit (dir_form layout) node.entry.len (object_bytes image layout o) (subst (λ (f : NameForm). may_have_size f node.entry.len ≡ false) form_is misfits) size

  module _ (told : Option (List ℕ)) (form : NameForm) (bytes : List ℕ) (form_is : form ≡ dir_form layout)
      (size : length bytes ≡ directory_size (dir_form layout) node.entry.len)
      (read : ForSome told (λ image. (p : Object) → p.entry ≡ node.entry → IsAt layout p → bytes ≡ object_bytes image layout p)) where
    told_is : (image : List ℕ) → told ≡ Some image → directory_of form bytes ≡ reader_of image layout o
    told_is image t = ap₂ directory_of form_is (read image t o (sym node_entry) stands.placed)

    pub node_says : (body : Body) → Says form bytes body
        → (dir : Directory) × (body ≡ body_in dir) × HasForm (dir_form layout) o.entry.len dir × ForSome told (λ image. reader_of image layout o ≡ Ok dir)
    node_says body s = (
      s.0,
      s.1,
      form_same (dir_form layout) o.entry.len (length bytes) s.0 (size ∙ ap (λ (e : Entry). directory_size (dir_form layout) e.len) node_entry)
          (subst (λ (f : NameForm). HasForm f (length bytes) s.0) form_is s.3),
      λ image t. sym (told_is image t) ∙ s.2,
    )

    pub node_fails : (fault : DirFault) (error : TreeError) → directory_of form bytes ≡ Err fault → IsDamaged o.path fault error
        → ForSome told (λ image. FailsAs (at_path o.path (reader_of image layout o)) error)
    node_fails fault error e damage = λ image t. damaged o.path (reader_of image layout o) fault error (sym (told_is image t) ∙ e) damage

-- ---- a directory is visited

pub said_fails : (layout : Layout) (before : List ℕ) (path : Path) (s : Result Directory DirFault) (e : TreeError) → FailsAs (at_path path s) e → FailsAs (said_children layout before path s) e
said_fails layout before path (Ok dir) (TreeError.Image f) h = absurd (cc)
said_fails layout before path (Err fault) (TreeError.Image f) h = ap (λ (x : ImageFault). let r : Result (List Object × List ℕ) ImageFault = Err x in r) (let g : faults.Directory path fault ≡ f = cc in g)
said_fails layout before path s TreeError.DiskFault h = tt
said_fails layout before path s TreeError.NoMemory h = tt

pub children_fail : (layout : Layout) (before : List ℕ) (path : Path) (s : Result Directory DirFault) (dir : Directory) (entries : List Entry) (e : TreeError) → s ≡ Ok dir → entries ≡ entries_of dir
    → FailsAs (children_of layout before path entries) e → FailsAs (said_children layout before path s) e
children_fail layout before path s dir entries (TreeError.Image f) is same h =
    ap (said_children layout before path) is ∙ ap (children_of layout before path) (sym same) ∙ h
children_fail layout before path s dir entries TreeError.DiskFault is same h = tt
children_fail layout before path s dir entries TreeError.NoMemory is same h = tt

pub visited : (layout : Layout) (told : Option (List ℕ)) (was grown nodes : List Node) (at : ℕ) (o : Object) (before : List ℕ) (marks : Marks) (dir : Directory) (entries : List Entry) (body : Body) (n d : Node)
    → HoldsObject layout was at o → HasForm (dir_form layout) o.entry.len dir → IsDirectory dir → ForSome told (λ image. reader_of image layout o ≡ Ok dir) → body ≡ body_in dir → entries ≡ entries_of dir
    → (objects : List Object) × (after : List ℕ) × (children_of layout before o.path entries ≡ Ok (objects, after)) × AreTaken marks after × (grown ≡ was ++ map (new_node at) objects)
    → n ≡ get_or grown at d → nodes ≡ slice_set grown at (record { holder = n.holder; entry = n.entry; body = body })
    → IsVisited layout told was nodes at o before marks
visited layout told was grown nodes at o before marks dir entries body n d stands form sound tells body_is same found n_is nodes_is =
    let there : slice_get grown at ≡ Some stands.node = subst (λ (ns : List Node). slice_get ns at ≡ Some stands.node) (sym found.4) (get_front was (map (new_node at) found.0) at stands.node stands.is) in
    let node : n ≡ stands.node = n_is ∙ get_or_from_slice_get grown at stands.node d there in
    record {
      node = stands.node;
      node_is = stands.is;
      dir = dir;
      form = form;
      sound = sound;
      tells = tells;
      children = found.0;
      after = found.1;
      held = ap (children_of layout before o.path) (sym same) ∙ found.2;
      taken = found.3;
      nodes_are = nodes_is ∙ ap₂ (λ (ns : List Node) (m : Node). slice_set ns at m) found.4
          (ap₂ (λ (m : Node) (b : Body). let r : Node = record { holder = m.holder; entry = m.entry; body = b } in r) node body_is);
    }

pub at_there : (layout : Layout) (was grown : List Node) (at : ℕ) (o : Object) → HoldsObject layout was at o → (more : List Node) × (grown ≡ was ++ more) → at < length grown
at_there layout was grown at o stands more =
    slice_get_within grown at stands.node (subst (λ (ns : List Node). slice_get ns at ≡ Some stands.node) (sym more.1) (get_front was more.0 at stands.node stands.is))
