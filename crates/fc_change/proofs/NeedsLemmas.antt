-- What a node's directory says, to whom its room is asked.
use Rattle.std.proofs.Common.{◌≡◌, Option, Some, None}
use Rattle.fc_dirs.specs.Directory.{Directory}
use Rattle.fc_tree.specs.Nodes.{body_in}
use Rattle.fc_tree.specs.declared.node.Body.TheVariants as bodies
use Rattle.fc_tree.specs.declared.node.Node.{Node}

-- a body says one directory
pub one_content : (a b : Directory) → body_in a ≡ body_in b → a ≡ b
one_content (Directory.Small a) (Directory.Small b) e = cc
one_content (Directory.Small a) (Directory.Big b) e = absurd (cc)
one_content (Directory.Big a) (Directory.Small b) e = absurd (cc)
one_content (Directory.Big a) (Directory.Big b) e = cc

-- and a file none
pub never_file : (a : Directory) → body_in a ≡ bodies.File → ⊥
never_file (Directory.Small a) e = absurd (cc)
never_file (Directory.Big a) e = absurd (cc)

pub never_both : (x : Node) → (let o : Option Node = None in o) ≡ Some x → ⊥
never_both x e = cc
