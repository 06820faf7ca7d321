-- The nodes after an edit, as one function of it.
use Rattle.std.specs.Prelude.{◌≡◌, ℕ, List, [], ◌∷◌, ◌++◌, map, Option, Some, None, false, Contains}
use Rattle.std.specs.List.{flat_map}
use Rattle.std.specs.FinMap.{get, insert as put, remove as take}
use Rattle.fc_image.specs.Layout.{Layout}
use Rattle.fc_image.specs.Walk.{Listing, Object, is_directory_object}
use Rattle.fc_tree.specs.declared.node.Body.TheVariants as bodies
use Rattle.fc_tree.specs.declared.node.Node.{Node}
use Rattle.fc_tree.specs.Nodes.{body_in}
use Rattle.fc_laws.specs.nodes.Edits.{Nodes, with_body}
use Rattle.fc_laws.specs.nodes.Laws.{IsHeld}
use Rattle.fc_edits.specs.Edit.{Amended, AreEdited, Edit, IsEdit, joined_in, joining, numbers}

-- A node enters a directory, with an entry, and says what it said. A new one is a file's.
abbrev pub entered : ℕ → Object → Option Node → Node
entered dir o None = record { holder = dir; entry = o.entry; body = bodies.File }
entered dir o (Some n) = record n { holder = dir; entry = o.entry }

-- Each of these objects, with the number of its node, enters the directory of the first number.
abbrev pub enter : List (ℕ × (ℕ × Object)) → Nodes → Nodes
enter [] nodes = nodes
enter (q ∷ qs) nodes = enter qs (put nodes q.1.0 (entered q.0 q.1.1 (get nodes q.1.0)))

-- Each of these directories is told what to say.
abbrev pub tell : List Amended → Nodes → Nodes
tell [] nodes = nodes
tell (a ∷ bs) nodes = tell bs (with_body a.number (body_in a.content) nodes)

-- the nodes of these numbers are taken out
abbrev pub without : List ℕ → Nodes → Nodes
without [] nodes = nodes
without (n ∷ ns) nodes = without ns (take nodes n)

-- who enters which directory
abbrev pub entering : Edit → List (ℕ × (ℕ × Object))
entering e = map (λ (p : ℕ × Object). (0, p)) e.top_join ++ flat_map (λ (a : Amended). map (λ (p : ℕ × Object). (a.number, p)) a.join) e.amended

-- a directory that comes is told what it says
abbrev pub arriving : ℕ × Listing → Amended
arriving d = record { was = d.1; number = d.0; content = d.1.content; children = []; leave = []; join = []; kids = [] }

-- the nodes after the edit
abbrev pub nodes_after : Edit → Nodes → Nodes
nodes_after e nodes = without (numbers e.gone) (tell (map arriving e.into) (tell e.amended (enter (entering e) nodes)))

-- no number stands twice
abbrev pub AreDistinct : List ℕ → Type 0
AreDistinct [] = Unit {0}
AreDistinct (n ∷ ns) = (Contains ns n → ⊥) × AreDistinct ns

-- No number is taken or given up twice, none is both, and new ones are free.
pub record HasNumbers (nodes : Nodes) (e : Edit) : Type 0 where
  pub once : AreDistinct (numbers (joining e))
  pub gone_once : AreDistinct (numbers e.gone)
  pub into_once : AreDistinct (map (λ (d : ℕ × Listing). d.0) e.into)
  pub lasting : (n : ℕ) → Contains (numbers e.gone) n → Contains (numbers (joining e)) n → ⊥
  pub new : (p : ℕ × Object) → Contains e.come p → get nodes p.0 ≡ None
  pub gone_others : (a : Amended) → Contains e.amended a → Contains (numbers e.gone) a.number → ⊥
  pub into_others : (p : ℕ × Object) → Contains (joined_in e) p → is_directory_object p.1 ≡ false → Contains (map (λ (d : ℕ × Listing). d.0) e.into) p.0 → ⊥

-- They are the nodes after the edit, by their lookups.
abbrev pub AfterLaw : Type 0
AfterLaw = (nodes : Nodes) (layout : Layout) (listings : List Listing) (e : Edit) → IsHeld nodes layout listings → IsEdit nodes listings e → HasNumbers nodes e
    → AreEdited nodes (nodes_after e nodes) e
