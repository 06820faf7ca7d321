-- Counts over the nodes of a tree, number by number.
use Rattle.std.proofs.Common.{◌≡◌, ◌≤◌, ℕ, ◌+◌, Bool, false, cond, sym, ap, subst, arith, Some, None, Option}
use Rattle.std.specs.Option.{option_map_or}
use Rattle.std.specs.Ordering.{nat_cmp}
use Rattle.std.specs.FinMap.{FinMap, get}
use Rattle.fc_tree.specs.declared.node.Node.{Node}
use Rattle.fc_tree.specs.Counts.{Said, address_in, is_directory_said, is_file_said, is_unsorted_said, is_wrong_parent_said, passes_at, tally}
use Rattle.fc_tree.proofs.TallyLemmas.{tally-most, tally-next}
use Rattle.fc_check.specs.declared.dirs.DirCounts.{DirCounts}
use Rattle.fc_check.specs.Dirs.{with_said}

-- the counts are those of the nodes with numbers below n
pub record Count (nodes : FinMap nat_cmp Node) (counts : DirCounts) (n : ℕ) : Type 0 where
  pub files : counts.files ≡ tally nodes is_file_said n
  pub dirs : counts.dirs ≡ tally nodes is_directory_said n
  pub unsorted : counts.unsorted ≡ tally nodes is_unsorted_said n
  pub parents : counts.parents ≡ tally nodes is_wrong_parent_said n
  pub few_files : counts.files ≤ n
  pub few_dirs : counts.dirs ≤ n
  pub few_unsorted : counts.unsorted ≤ n
  pub few_parents : counts.parents ≤ n

counted : (nodes : FinMap nat_cmp Node) (counts : DirCounts) (n : ℕ) → counts.files ≡ tally nodes is_file_said n → counts.dirs ≡ tally nodes is_directory_said n
    → counts.unsorted ≡ tally nodes is_unsorted_said n → counts.parents ≡ tally nodes is_wrong_parent_said n → Count nodes counts n
counted nodes counts n files dirs unsorted parents = record {
  files = files;
  dirs = dirs;
  unsorted = unsorted;
  parents = parents;
  few_files = omega (arith, files, tally-most nodes is_file_said n);
  few_dirs = omega (arith, dirs, tally-most nodes is_directory_said n);
  few_unsorted = omega (arith, unsorted, tally-most nodes is_unsorted_said n);
  few_parents = omega (arith, parents, tally-most nodes is_wrong_parent_said n);
}

-- what one test comes to with the next number
one_more : (nodes : FinMap nat_cmp Node) (test : Said → Bool) (n had : ℕ) (slot : Option Node) → get nodes n ≡ slot → had ≡ tally nodes test n
    → had + cond (option_map_or (λ node. test (node.entry, node.body, address_in nodes node.holder)) slot false) 1 0 ≡ tally nodes test (n + 1)
one_more nodes test n had slot is so_far =
    let more = tally-next nodes test n in
    let same : ◌≡◌ {A = ℕ} (cond (passes_at nodes test n) 1 0) (cond (option_map_or (λ node. test (node.entry, node.body, address_in nodes node.holder)) slot false) 1 0) =
    ap (λ (s : Option Node). let k : ℕ = cond (option_map_or (λ node. test (node.entry, node.body, address_in nodes node.holder)) s false) 1 0 in k) is in
    omega (arith, more, same, so_far)

pub count_more : (nodes : FinMap nat_cmp Node) (counts next : DirCounts) (n : ℕ) (node : Node) → get nodes n ≡ Some node
    → next ≡ with_said counts (node.entry, node.body, address_in nodes node.holder) → Count nodes counts n → Count nodes next (n + 1)
count_more nodes counts next n node is more c =
    subst (λ (d : DirCounts). Count nodes d (n + 1)) (sym more)
    (counted nodes (with_said counts (node.entry, node.body, address_in nodes node.holder)) (n + 1)
    (one_more nodes is_file_said n counts.files (Some node) is c.files)
    (one_more nodes is_directory_said n counts.dirs (Some node) is c.dirs)
    (one_more nodes is_unsorted_said n counts.unsorted (Some node) is c.unsorted)
    (one_more nodes is_wrong_parent_said n counts.parents (Some node) is c.parents))

pub count_other : (nodes : FinMap nat_cmp Node) (counts : DirCounts) (n : ℕ) → get nodes n ≡ None → Count nodes counts n → Count nodes counts (n + 1)
count_other nodes counts n is c =
    let files = one_more nodes is_file_said n counts.files None is c.files in
    let dirs = one_more nodes is_directory_said n counts.dirs None is c.dirs in
    let unsorted = one_more nodes is_unsorted_said n counts.unsorted None is c.unsorted in
    let parents = one_more nodes is_wrong_parent_said n counts.parents None is c.parents in
    counted nodes counts (n + 1) (omega (arith, files)) (omega (arith, dirs)) (omega (arith, unsorted)) (omega (arith, parents))
