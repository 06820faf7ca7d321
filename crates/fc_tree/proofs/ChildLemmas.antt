-- The objects of a directory's entries, one after another.
use Rattle.std.proofs.Common.{◌≡◌, ℕ, zero, suc, List, [], ◌∷◌, ◌++◌, map, refl, sym, ap, subst, ◌∙◌, Some, append_assoc, append-nil}
use Rattle.std.specs.Prelude.{Result, Ok, Err, slice_get}
use Rattle.fc_names.specs.Names.{Path}
use Rattle.fc_dirs.specs.declared.Entry.{Entry}
use Rattle.fc_image.specs.declared.ImageFault.{ImageFault}
use Rattle.fc_image.specs.Layout.{Layout}
use Rattle.fc_image.specs.Walk.{◌>>=◌, Object, children_of, object_of}
use Rattle.fc_tree.specs.declared.node.Node.{Node}
use Rattle.fc_tree.specs.declared.node.TreeError.{TreeError}
use Rattle.fc_tree.specs.Taken.{AreTaken, Marks}
use Rattle.fc_tree.specs.Walking.{FailsAs, HoldsObject, Leads, new_node}

-- ---- nodes come at the end

pub get_front : {X : Type 0} (xs ys : List X) (i : ℕ) (x : X) → slice_get xs i ≡ Some x → slice_get (xs ++ ys) i ≡ Some x
get_front [] ys i x e = absurd (cc)
get_front (z ∷ xs) ys zero x e = e
get_front (z ∷ xs) ys (suc i) x e = get_front xs ys i x e

pub leads_more : (nodes more : List Node) (at : ℕ) (names : Path) → Leads nodes at names → Leads (nodes ++ more) at names
leads_more nodes more at [] l = l
leads_more nodes more at (x ∷ names) l = (l.0, get_front nodes more at l.0 l.1, l.2, l.3, leads_more nodes more l.0.holder names l.4)

pub stands_more : (layout : Layout) (nodes more : List Node) (at : ℕ) (o : Object) → HoldsObject layout nodes at o → HoldsObject layout (nodes ++ more) at o
stands_more layout nodes more at o s = record {
  node = s.node;
  is = get_front nodes more at s.node s.is;
  entry = s.entry;
  names = s.names;
  leads = leads_more nodes more at s.names s.leads;
  path = s.path;
  placed = s.placed;
}

-- ---- the loop over entries

pub with_front : List Object → Result (List Object × List ℕ) ImageFault → Result (List Object × List ℕ) ImageFault
with_front front r = r >>= λ c. Ok (front ++ c.0, c.1)

pub record SoFar (layout : Layout) (before : List ℕ) (dir : Object) (at : ℕ) (entries left : List Entry) (was nodes : List Node) (marks : Marks) : Type 0 where
  pub objects : List Object
  pub after : List ℕ
  pub taken : AreTaken marks after
  pub nodes_are : nodes ≡ was ++ map (new_node at) objects
  pub same : children_of layout before dir.path entries ≡ with_front objects (children_of layout after dir.path left)

with_none : (r : Result (List Object × List ℕ) ImageFault) → r ≡ with_front [] r
unfolding with_front
with_none (Ok c) = refl
with_none (Err f) = refl

pub so_far_none : (layout : Layout) (before : List ℕ) (dir : Object) (at : ℕ) (entries : List Entry) (nodes : List Node) (marks : Marks) → AreTaken marks before
    → SoFar layout before dir at entries entries nodes nodes marks
so_far_none layout before dir at entries nodes marks taken = record {
  objects = [];
  after = before;
  taken = taken;
  nodes_are = sym (append-nil nodes);
  same = with_none (children_of layout before dir.path entries);
}

pub so_far_stands : (layout : Layout) (before : List ℕ) (dir : Object) (at : ℕ) (entries left : List Entry) (was nodes : List Node) (marks : Marks) → SoFar layout before dir at entries left was nodes marks
    → HoldsObject layout was at dir → HoldsObject layout nodes at dir
so_far_stands layout before dir at entries left was nodes marks s stands =
    subst (λ (ns : List Node). HoldsObject layout ns at dir) (sym s.nodes_are) (stands_more layout was (map (new_node at) s.objects) at dir stands)

map_more : (at : ℕ) (xs : List Object) (o : Object) → map (new_node at) (xs ++ o ∷ []) ≡ map (new_node at) xs ++ new_node at o ∷ []
map_more at [] o = refl
map_more at (x ∷ xs) o = ap (λ (ns : List Node). new_node at x ∷ ns) (map_more at xs o)

with_more : (front : List Object) (o : Object) (r : Result (List Object × List ℕ) ImageFault)
    → with_front front (r >>= λ others. Ok (o ∷ others.0, others.1)) ≡ with_front (front ++ o ∷ []) r
unfolding with_front
with_more front o (Ok c) = ap (λ (os : List Object). let r : Result (List Object × List ℕ) ImageFault = Ok (os, c.1) in r) (sym (append_assoc front (o ∷ []) c.0))
with_more front o (Err f) = refl

one_more : (layout : Layout) (after : List ℕ) (path : Path) (e : Entry) (rest : List Entry) (o : Object) → object_of layout after (path ++ e.name ∷ []) e ≡ Ok o
    → children_of layout after path (e ∷ rest) ≡ (children_of layout (o.sectors ++ after) path rest >>= λ others. Ok (o ∷ others.0, others.1))
unfolding children_of
one_more layout after path e rest o h = rw h refl

-- one object more
pub so_far_more : (layout : Layout) (before : List ℕ) (dir : Object) (at : ℕ) (entries left rest : List Entry) (e : Entry) (was nodes nodes' : List Node) (marks marks' : Marks)
    → (s : SoFar layout before dir at entries left was nodes marks) → left ≡ e ∷ rest
    → (o : Object) × (object_of layout s.after (dir.path ++ e.name ∷ []) e ≡ Ok o) × AreTaken marks' (o.sectors ++ s.after) × (nodes' ≡ nodes ++ new_node at o ∷ [])
    → SoFar layout before dir at entries rest was nodes' marks'
so_far_more layout before dir at entries left rest e was nodes nodes' marks marks' s is found =
    let o = found.0 in
    record {
      objects = s.objects ++ o ∷ [];
      after = o.sectors ++ s.after;
      taken = found.2;
      nodes_are = found.3 ∙ ap (λ (ns : List Node). ns ++ new_node at o ∷ []) s.nodes_are ∙ append_assoc was (map (new_node at) s.objects) (new_node at o ∷ [])
          ∙ ap (λ (ns : List Node). was ++ ns) (sym (map_more at s.objects o));
      same = s.same ∙ ap (λ (l : List Entry). with_front s.objects (children_of layout s.after dir.path l)) is
          ∙ ap (with_front s.objects) (one_more layout s.after dir.path e rest o found.1)
          ∙ with_more s.objects o (children_of layout (o.sectors ++ s.after) dir.path rest);
    }

with_all : (front : List Object) (after : List ℕ) → with_front front (Ok ([], after)) ≡ Ok (front, after)
unfolding with_front
with_all front after = ap (λ (os : List Object). let r : Result (List Object × List ℕ) ImageFault = Ok (os, after) in r) (append-nil front)

no_more : (layout : Layout) (after : List ℕ) (path : Path) → children_of layout after path [] ≡ Ok ([], after)
unfolding children_of
no_more layout after path = refl

-- all objects
pub so_far_all : (layout : Layout) (before : List ℕ) (dir : Object) (at : ℕ) (entries left : List Entry) (was nodes : List Node) (marks : Marks) → SoFar layout before dir at entries left was nodes marks → left ≡ []
    → (objects : List Object) × (after : List ℕ) × (children_of layout before dir.path entries ≡ Ok (objects, after)) × AreTaken marks after × (nodes ≡ was ++ map (new_node at) objects)
so_far_all layout before dir at entries left was nodes marks s none = (
  s.objects,
  s.after,
  s.same ∙ ap (λ (l : List Entry). with_front s.objects (children_of layout s.after dir.path l)) none ∙ ap (with_front s.objects) (no_more layout s.after dir.path) ∙ with_all s.objects s.after,
  s.taken,
  s.nodes_are,
)

with_fault : (front : List Object) (f : ImageFault) → with_front front (Err f) ≡ Err f
unfolding with_front
with_fault front f = refl

first_fault : (layout : Layout) (after : List ℕ) (path : Path) (e : Entry) (rest : List Entry) (f : ImageFault) → object_of layout after (path ++ e.name ∷ []) e ≡ Err f
    → children_of layout after path (e ∷ rest) ≡ Err f
unfolding children_of
first_fault layout after path e rest f h = rw h refl

-- a fault of an object is the directory's
pub so_far_fails : (layout : Layout) (before : List ℕ) (dir : Object) (at : ℕ) (entries left rest : List Entry) (e : Entry) (was nodes : List Node) (marks : Marks)
    → (s : SoFar layout before dir at entries left was nodes marks) → left ≡ e ∷ rest
    → (error : TreeError) → FailsAs (object_of layout s.after (dir.path ++ e.name ∷ []) e) error → FailsAs (children_of layout before dir.path entries) error
so_far_fails layout before dir at entries left rest e was nodes marks s is (TreeError.Image f) h =
    s.same ∙ ap (λ (l : List Entry). with_front s.objects (children_of layout s.after dir.path l)) is
    ∙ ap (with_front s.objects) (first_fault layout s.after dir.path e rest f h) ∙ with_fault s.objects f
so_far_fails layout before dir at entries left rest e was nodes marks s is TreeError.DiskFault h = tt
so_far_fails layout before dir at entries left rest e was nodes marks s is TreeError.NoMemory h = tt
