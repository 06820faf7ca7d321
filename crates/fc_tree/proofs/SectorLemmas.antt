-- Sectors of the directories that a walk reads, step by step.
use Rattle.std.proofs.Common.{◌≡◌, ◌≤◌, ℕ, suc, ◌+◌, true, List, [], ◌∷◌, ◌++◌, refl, ap, ◌∙◌, arith}
use Rattle.std.specs.Prelude.{Ok, filter, if◌then◌else◌}
use Rattle.fc_names.specs.Names.{is_directory}
use Rattle.fc_dirs.specs.declared.Entry.{Entry}
use Rattle.fc_dirs.specs.Directory.{Directory, directory_size, entries_of}
use Rattle.fc_image.specs.Layout.{Layout, dir_form, disc_sectors}
use Rattle.fc_image.specs.Walk.{Object, Reader, children_of, is_directory_object, object_of, root_entry}
use Rattle.fc_tree.specs.declared.node.Node.{Node}
use Rattle.fc_tree.specs.Calls.{directory_sectors, entry_sectors}
use Rattle.fc_tree.specs.Reads.{sectors_from, walk_sectors}

-- a directory without a fault is read, and then the others
pub sectors_on : (read : Reader) (layout : Layout) (left : ℕ) (taken : List ℕ) (o : Object) (waiting : List Object) (dir : Directory) (kids : List Object) (more : List ℕ) → read o ≡ Ok dir
    → children_of layout taken o.path (entries_of dir) ≡ Ok (kids, more)
    → sectors_from read layout (suc left) taken (o ∷ waiting) ≡ entry_sectors layout o.entry + sectors_from read layout left more (waiting ++ filter is_directory_object kids)
unfolding sectors_from
sectors_on read layout left taken o waiting dir kids more said held = rw (said, held) refl

-- whatever it says, it is read
pub sectors_here : (read : Reader) (layout : Layout) (left : ℕ) (taken : List ℕ) (o : Object) (waiting : List Object) → entry_sectors layout o.entry ≤ sectors_from read layout (suc left) taken (o ∷ waiting)
unfolding sectors_from
sectors_here read layout left taken o waiting = omega arith

pub sectors_of_walk : (read : Reader) (layout : Layout) (reserved : List ℕ) (address size : ℕ) (root : Object) → object_of layout reserved [] (root_entry address (directory_size (dir_form layout) size)) ≡ Ok root
    → walk_sectors read layout reserved address size ≡ sectors_from read layout (disc_sectors layout + 1) (root.sectors ++ reserved) (root ∷ [])
unfolding walk_sectors
sectors_of_walk read layout reserved address size root e = rw e refl

-- the sectors of a directory's node are those of its object
pub of_directory : (layout : Layout) (n : Node) (o : Object) → n.entry ≡ o.entry → is_directory_object o ≡ true → directory_sectors layout n ≡ entry_sectors layout o.entry
of_directory layout n o entry dir = ap (λ (e : Entry). if is_directory e.attrs then entry_sectors layout e else 0) entry ∙ (rw dir refl)
