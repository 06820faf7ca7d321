use Rattle.std.proofs.Common.{refl}
use Rattle.std.specs.Cmp.{IsTotalOrder, nat_cmp_total}
use Rattle.std.specs.Cmp.Lexicographic.{lists_total}
use Rattle.std.specs.FinMap.{get-insert, get-empty}
use Rattle.fc_names.specs.Names.{key_cmp}
use Rattle.fc_model.specs.Tree.{Node}
use Rattle.fc_model.proofs.rows.Goals as goal

key_total : IsTotalOrder key_cmp
key_total = lists_total (lists_total nat_cmp_total)

pub returns : goal.returns
returns c = record {
  into_itself = simp (get-insert {X = Node} key_total, get-empty {X = Node} key_cmp) refl;
  no_holder = simp (get-insert {X = Node} key_total, get-empty {X = Node} key_cmp) refl;
  itself = simp (get-insert {X = Node} key_total, get-empty {X = Node} key_cmp) refl;
  root_renamed = simp (get-insert {X = Node} key_total, get-empty {X = Node} key_cmp) refl;
  to_root = simp (get-insert {X = Node} key_total, get-empty {X = Node} key_cmp) refl;
  root_to_root = simp (get-insert {X = Node} key_total, get-empty {X = Node} key_cmp) refl;
  to_present = simp (get-insert {X = Node} key_total, get-empty {X = Node} key_cmp) refl;
  file_as_holder = simp (get-insert {X = Node} key_total, get-empty {X = Node} key_cmp) refl;
  locked_rename = simp (get-insert {X = Node} key_total, get-empty {X = Node} key_cmp) refl;
  locked = simp (get-insert {X = Node} key_total, get-empty {X = Node} key_cmp) refl;
  locked_save = simp (get-insert {X = Node} key_total, get-empty {X = Node} key_cmp) refl;
  set = simp (get-insert {X = Node} key_total, get-empty {X = Node} key_cmp) refl;
  read_only = simp (get-insert {X = Node} key_total, get-empty {X = Node} key_cmp) refl;
  absent_first = simp (get-insert {X = Node} key_total, get-empty {X = Node} key_cmp) refl;
  compact = refl;
  reclaim = refl;
  load_root = simp (get-insert {X = Node} key_total, get-empty {X = Node} key_cmp) refl;
  cat_file = simp (get-insert {X = Node} key_total, get-empty {X = Node} key_cmp) refl;
  below_file = simp (get-insert {X = Node} key_total, get-empty {X = Node} key_cmp) refl;
  bad_name = refl;
  save_root = simp (get-insert {X = Node} key_total, get-empty {X = Node} key_cmp) refl;
  cdir_present = simp (get-insert {X = Node} key_total, get-empty {X = Node} key_cmp) refl;
  cdir_root = simp (get-insert {X = Node} key_total, get-empty {X = Node} key_cmp) refl;
  cdir_new = simp (get-insert {X = Node} key_total, get-empty {X = Node} key_cmp) refl;
}
