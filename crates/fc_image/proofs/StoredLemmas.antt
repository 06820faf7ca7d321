-- Trees by objects as they are stored.
use Rattle.std.proofs.Common.{◌≡◌, ℕ, cond, List, [], ◌∷◌, map, refl, sym, ap, ◌∙◌}
use Rattle.std.specs.FinMap.{from_entries}
use Rattle.fc_names.specs.Names.{Path, folded_path, is_directory}
use Rattle.fc_model.specs.Tree.{Node, Body}
use Rattle.fc_dirs.specs.declared.Entry.{Entry}
use Rattle.fc_image.specs.Layout.{Layout}
use Rattle.fc_image.specs.Walk.{Object}
use Rattle.fc_image.specs.Objects.{objects_of, tree_entry, tree_of}
use Rattle.fc_image.specs.Opening.{Opened}
use Rattle.fc_image.specs.Stays.{stored_object, stored_objects}

abbrev node_from : Path × Entry × List ℕ → Path × Node
node_from s = (
  folded_path s.0,
  record {
    name = s.1.name;
    attrs = s.1.attrs;
    load = s.1.load;
    exec = s.1.exec;
    body = cond (is_directory s.1.attrs) Body.Directory (Body.File s.2);
  },
)

nodes_from : (image : List ℕ) (layout : Layout) (objects : List Object) → map (tree_entry image layout) objects ≡ map node_from (map (stored_object image layout) objects)
nodes_from image layout [] = refl
nodes_from image layout (o ∷ objects) = ap (λ (es : List (Path × Node)). tree_entry image layout o ∷ es) (nodes_from image layout objects)

pub stored_tree : (image other : List ℕ) (v w : Opened) → stored_objects other w ≡ stored_objects image v
    → tree_of other w.layout w.listings ≡ tree_of image v.layout v.listings
unfolding tree_of
stored_tree image other v w e =
    ap from_entries (nodes_from other w.layout (objects_of w.listings) ∙ ap (map node_from) e ∙ sym (nodes_from image v.layout (objects_of v.listings)))
