-- As each kind of one geometry an image has one map, and says the same.
use Rattle.std.proofs.Common.{◌≡◌, ℕ, List, [], ◌∷◌, ◌++◌, filter, refl, sym, ap, ap₂, subst, ◌∙◌, inl, inr, Some}
use Rattle.std.specs.Prelude.{Result, Ok, slice_index_or}
use Rattle.fc_names.specs.Names.{Path}
use Rattle.fc_dirs.specs.declared.Entry.{Entry}
use Rattle.fc_dirs.specs.declared.DirFault.{DirFault}
use Rattle.fc_dirs.specs.Directory.{Directory, entries_of}
use Rattle.fc_record.specs.declared.DiscRecord.{DiscRecord}
use Rattle.fc_record.specs.declared.Geometry.{Geometry}
use Rattle.fc_record.specs.Record.{geometry}
use Rattle.fc_record.specs.Kinds.{map_record}
use Rattle.fc_newmap.specs.Map.{Map}
use Rattle.fc_newmap.specs.declared.copies.Which.{Which}
use Rattle.fc_newmap.specs.Copies.{chosen, copy_of, CommitLeaves}
use Rattle.fc_image.specs.Layout.{Layout}
use Rattle.fc_image.specs.Walk.{Object, Listing, Reader, reader_of, is_directory_object}
use Rattle.fc_image.specs.Objects.{objects_of}
use Rattle.fc_image.specs.Opening.{MapAndRoot, reserved_in}
use Rattle.fc_image.specs.Stays.{SameOutsideHoles}
use Rattle.fc_image.specs.Edits.{IsAt, AreChildren, Follows, IsRoot}
use Rattle.fc_image.specs.Moves.{with_map, SameMapLaw, KeepsObjectsLaw, CanCommit}
use Rattle.fc_image.proofs.HolesLemmas.{FoundMap}
use Rattle.fc_image.proofs.EditLemmas.{walk_gives}
use Rattle.fc_image.proofs.MoveLemmas.{open_by}
use Rattle.fc_image.proofs.StepLemmas.{hole_step_law, commit_law, then_law}
use Rattle.fc_image.proofs.RecordLemmas.{agreed_own}

-- ---- what follows is one

same_object : (layout : Layout) (x y : Object) → x.path ≡ y.path → x.entry ≡ y.entry → IsAt layout x → IsAt layout y → x ≡ y
same_object layout x y path entry at_x at_y =
    let sectors : Some x.sectors ≡ Some y.sectors = sym (subst (λ (e : Entry). IsAt layout (record { path = x.path; entry = e; sectors = x.sectors })) entry at_x) ∙ at_y in
    let same : x.sectors ≡ y.sectors = some_one x.sectors y.sectors sectors in
    λ i. record { path = path i; entry = entry i; sectors = same i }
  where
    some_one : (a b : List ℕ) → Some a ≡ Some b → a ≡ b
    some_one a b e = cc

children_one : (layout : Layout) (path : Path) (entries : List Entry) (xs ys : List Object) → AreChildren layout path entries xs → AreChildren layout path entries ys → xs ≡ ys
children_one layout path [] [] [] a b = refl
children_one layout path [] [] (y ∷ ys) a b = absurd b
children_one layout path [] (x ∷ xs) ys a b = absurd a
children_one layout path (e ∷ entries) [] ys a b = absurd a
children_one layout path (e ∷ entries) (x ∷ xs) [] a b = absurd b
children_one layout path (e ∷ entries) (x ∷ xs) (y ∷ ys) a b =
    ap₂ (λ (o : Object) (os : List Object). o ∷ os) (same_object layout x y (a.0 ∙ sym b.0) (a.1 ∙ sym b.1) a.2 b.2) (children_one layout path entries xs ys a.3 b.3)

same_content : (a b : Directory) (q : Result Directory DirFault) → q ≡ Ok a → q ≡ Ok b → a ≡ b
same_content a b q e f = ok_one (sym e ∙ f)
  where
    ok_one : (let x : Result Directory DirFault = Ok a in x) ≡ Ok b → a ≡ b
    ok_one h = cc

follows_one : (read : Reader) (layout : Layout) (waiting : List Object) (xs ys : List Listing) → Follows read layout waiting xs → Follows read layout waiting ys → xs ≡ ys
follows_one read layout [] [] [] a b = refl
follows_one read layout [] [] (y ∷ ys) a b = absurd b
follows_one read layout [] (x ∷ xs) ys a b = absurd a
follows_one read layout (o ∷ waiting) [] ys a b = absurd a
follows_one read layout (o ∷ waiting) (x ∷ xs) [] a b = absurd b
follows_one read layout (o ∷ waiting) (x ∷ xs) (y ∷ ys) a b =
    let object : x.object ≡ y.object = a.0 ∙ sym b.0 in
    let content : x.content ≡ y.content = same_content x.content y.content (read x.object) a.1.0 (ap read object ∙ b.1.0) in
    let children : x.children ≡ y.children = children_one layout x.object.path (entries_of x.content) x.children y.children a.1.1
    (subst (λ (p : Path). AreChildren layout p (entries_of x.content) y.children) (ap (λ (q : Object). q.path) (sym object))
    (subst (λ (d : Directory). AreChildren layout y.object.path (entries_of d) y.children) (sym content) b.1.1)) in
    ap₂ (λ (l : Listing) (ls : List Listing). l ∷ ls)
    (λ i. record { object = object i; content = content i; children = children i })
    (follows_one read layout (waiting ++ filter is_directory_object x.children) xs ys a.2
    (subst (λ (os : List Object). Follows read layout (waiting ++ filter is_directory_object os) ys) (sym children) b.2))

root_one : (layout : Layout) (address size : ℕ) (x y : Object) → IsRoot layout address size x → IsRoot layout address size y → x ≡ y
root_one layout address size x y a b = same_object layout x y (a.path ∙ sym b.path) (a.entry ∙ sym b.entry) a.placed b.placed

-- ---- one map

pub new_map : (a b : Map) → Layout.New a ≡ Layout.New b → a ≡ b
new_map a b e = cc

which_one : (a b : Which) (q : Result Which (ℕ × ℕ)) → q ≡ Ok a → q ≡ Ok b → a ≡ b
which_one a b q e f = ok_one (sym e ∙ f)
  where
    ok_one : (let x : Result Which (ℕ × ℕ) = Ok a in x) ≡ Ok b → a ≡ b
    ok_one h = cc

-- what is found depends on the geometry alone
found_one : (image : List ℕ) (r s : DiscRecord) (a b : MapAndRoot) → geometry s ≡ geometry r → FoundMap image r a → FoundMap image s b → a ≡ b
found_one image r s a b same f h =
    let which : f.which ≡ h.which = which_one f.which h.which (chosen (geometry r) image) f.chosen_one (ap (λ (g : Geometry). chosen g image) (sym same) ∙ h.chosen_one) in
    let zones : copy_of (geometry r) f.which image ≡ copy_of (geometry s) h.which image = ap₂ (λ (g : Geometry) (w : Which). copy_of g w image) (sym same) which in
    let own : f.own ≡ h.own =
    sym (agreed_own r _ f.own _ f.agreed) ∙ ap (λ (zs : List (List ℕ)). map_record (slice_index_or zs 0 [])) zones ∙ agreed_own s _ h.own _ h.agreed in
    sym f.is
    ∙ (λ i. (Layout.New (record { geometry = sym same i; zones = zones i }), (own i).root, (own i).root_size))
    ∙ h.is

pub same_map_law : SameMapLaw
same_map_law image kind other r s v w m n new new' e e' layout layout' same =
    let o = open_by image kind r v m new e layout in
    let p = open_by image other s w n new' e' layout' in
    let found : (Layout.New m, o.root, o.size) ≡ (Layout.New n, p.root, p.size) =
    found_one image r s (Layout.New m, o.root, o.size) (Layout.New n, p.root, p.size) (sym p.geometry_is ∙ same ∙ o.geometry_is) o.found_map p.found_map in
    let one : n ≡ m = sym (new_map m n (ap (λ (q : MapAndRoot). q.0) found)) in
    let a = walk_gives (reader_of image (Layout.New m)) (Layout.New m) (reserved_in kind (Layout.New m)) o.root o.size v.listings o.walked in
    let b = walk_gives (reader_of image (Layout.New n)) (Layout.New n) (reserved_in other (Layout.New n)) p.root p.size w.listings p.walked in
    let root' : IsRoot (Layout.New m) o.root o.size b.0 = subst (λ (q : MapAndRoot). IsRoot q.0 q.1 q.2 b.0) (sym found) b.1 in
    let follows' : Follows (reader_of image (Layout.New m)) (Layout.New m) (b.0 ∷ []) w.listings =
    subst (λ (q : MapAndRoot). Follows (reader_of image q.0) q.0 (b.0 ∷ []) w.listings) (sym found) b.2 in
    let root : b.0 ≡ a.0 = root_one (Layout.New m) o.root o.size b.0 a.0 root' a.1 in (
      one,
      follows_one (reader_of image (Layout.New m)) (Layout.New m) (a.0 ∷ []) w.listings v.listings
          (subst (λ (x : Object). Follows (reader_of image (Layout.New m)) (Layout.New m) (x ∷ []) w.listings) root follows') a.2,
    )

-- ---- what each crash keeps

pub keeps_objects_law : KeepsObjectsLaw
keeps_objects_law = record {
  same = λ g image kind r v m new e layout at. (m, hole_step_law image image kind r v m new e layout refl (λ s h. refl));
  after = λ g first second third one two kind r v m new e layout at.
      (let a = one kind r v m new e layout at in
      let o = open_by first kind r v m new e layout in
      let o' = open_by second kind r (with_map a.0 v) a.0 new a.1.opens refl in
      let b = two kind r (with_map a.0 v) a.0 new a.1.opens refl (o'.geometry_is ∙ sym o.geometry_is ∙ at) in
      (b.0, then_law first second third kind r v m a.0 b.0 new e layout a.1 b.1));
  hole = λ image other kind r v m new e layout len same kind' r' w n new' e' layout' at.
      (let one = same_map_law image kind kind' r r' v w m n new new' e e' layout layout' at in
      (n, hole_step_law image other kind' r' w n new' e' layout' len (subst (λ (l : Map). SameOutsideHoles l.geometry.sector (Layout.New l) image other) (sym one.0) same)));
  commit = λ image other kind r v m m' new e layout can left kind' r' w n new' e' layout' at.
      (let one = same_map_law image kind kind' r r' v w m n new new' e e' layout layout' at in
      let can' : CanCommit n m' (objects_of w.listings) image =
      subst (λ (ls : List Listing). CanCommit n m' (objects_of ls) image) (sym one.1) (subst (λ (l : Map). CanCommit l m' (objects_of v.listings) image) (sym one.0) can) in
      let left' : CommitLeaves n.geometry image n.zones m'.zones other = subst (λ (l : Map). CommitLeaves l.geometry image l.zones m'.zones other) (sym one.0) left in
      let law = commit_law image other kind' r' w n m' new' e' layout' can' left' in
      elim left'.content [ inl old ↦ (n, law.0 old) | inr after ↦ (m', law.1 after) ]);
}
