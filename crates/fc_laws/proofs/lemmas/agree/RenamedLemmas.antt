-- `rename` within a directory.
use Rattle.std.proofs.Common.{◌≡◌, ℕ, Bool, cond, List, [], ◌∷◌, ◌++◌, refl, sym, ap, ◌∙◌}
use Rattle.fc_names.specs.Names.{Path}
use Rattle.fc_model.specs.Tree.{last_name}
use Rattle.fc_dirs.specs.declared.Entry.{Entry}
use Rattle.fc_image.specs.Walk.{Object}
use Rattle.fc_image.specs.EditedWalk.{moved_object}
use Rattle.fc_image.proofs.PathsLemmas.{itself}
use Rattle.fc_image.proofs.RenameLemmas.{last_pushed, moved_itself}

-- an object's entry and path after its move
pub moved_entry : (path : Path) (name : List ℕ) (o : Object) → (moved_object o.path (path ++ name ∷ []) o).entry ≡ record o.entry { name = name }
moved_entry path name o =
    ap (λ (n : List ℕ). let x : Entry = record o.entry { name = n } in x)
    (ap (λ (b : Bool). cond b (last_name (path ++ name ∷ [])) o.entry.name) (itself o.path) ∙ last_pushed path name)

pub moved_there : (path : Path) (name : List ℕ) (o : Object)
    → (moved_object o.path (path ++ name ∷ []) o).path ≡ path ++ (moved_object o.path (path ++ name ∷ []) o).entry.name ∷ []
moved_there path name o =
    moved_itself o.path (path ++ name ∷ []) o.path refl ∙ ap (λ (x : Entry). path ++ x.name ∷ []) (sym (moved_entry path name o))
