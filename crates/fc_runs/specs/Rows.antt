-- Demos, replies and runs, worked out.
use Rattle.std.specs.Prelude.{◌≡◌, ℕ, List, [], ◌∷◌, ◌++◌, codes, drop, true, false, Some, None}
use Rattle.fc_dirs.specs.declared.DirFault.TheVariants as dirs
use Rattle.fc_image.specs.declared.ImageFault.TheVariants as faults
use Rattle.fc_runs.specs.Replies.{bad_image_line}
use Rattle.fc_runs.specs.Demo.{next_seed, draw, demo_script}
use Rattle.fc_names.specs.declared.refusal.Refusal.TheVariants.{NotNewMap, DiscFull, ReadOnly}
use Rattle.fc_script.specs.Texts.{refusal_line}
use Rattle.fc_runs.specs.Run.{is_error, whole_replies, all_keep_tree}
use Rattle.fc_script.specs.HostLines.{host_line_of}
use Rattle.fc_runs.specs.HostRun.{all_host_keep_tree}
use Rattle.fc_runs.specs.Early.{text_begun}
use Rattle.fc_runs.specs.Stops.{all_leave_image, all_host_leave_image, next_leaves_image, next_keeps_tree, next_host_keeps_tree, replies_written}
use Rattle.fc_runs.specs.Promises.{Cause, IsUnmade, spares_disk}

-- demos, replies and runs
pub record RunRows : Type 0 where
  pub first : draw (next_seed 1) ≡ 16838
  pub second : draw (next_seed (next_seed 1)) ≡ 5758
  pub third : draw (next_seed (next_seed (next_seed 1))) ≡ 10113
  pub script : drop 80 (demo_script 1) ≡
      codes "save $.D6.F14 fffff000 00000000 000102030405060708090a0b0c0d0e0f101112131415161718191a1b1c1d1e1f202122232425262728292a2b2c2d2e2f" ++ 10 ∷ codes "check" ++ 10 ∷ codes "free" ++ 10 ∷ []
  pub bad_dir : bad_image_line (faults.Directory (codes "D" ∷ []) (dirs.Twin 4)) ≡ codes "bad-image Directory $.D Twin 4" ++ 10 ∷ []
  pub bad_short : bad_image_line (faults.Short 1638400 1000000) ≡ codes "bad-image Short 1638400 1000000" ++ 10 ∷ []
  -- the listing of a directory that holds a file named `error` is no refusal
  pub listed : is_error (codes "error 00000003 00000000 00000000 0" ++ 10 ∷ codes "ok" ++ 10 ∷ []) ≡ false
  pub refused : is_error (refusal_line NotNewMap) ≡ true
  pub taken : whole_replies 7 ((codes "ok" ++ 10 ∷ []) ∷ (codes "ok" ++ 10 ∷ []) ∷ (codes "ok" ++ 10 ∷ []) ∷ []) ≡ 2
  -- A `save` that broke off, or was done, may leave another tree, and one that was refused doesn't; no line after the one
  -- that broke off was begun.
  pub broke_off : all_keep_tree (codes "save $.A 00000000 00000000 41" ∷ []) [] ≡ false
  pub done : all_keep_tree (codes "save $.A 00000000 00000000 41" ∷ []) ((codes "ok" ++ 10 ∷ []) ∷ []) ≡ false
  pub was_refused : all_keep_tree (codes "save $.A 00000000 00000000 41" ∷ []) (refusal_line DiscFull ∷ []) ≡ true
  pub reading_broke_off : all_keep_tree (codes "load $.A" ∷ codes "save $.A 00000000 00000000 41" ∷ []) [] ≡ true
  pub second_broke_off : all_keep_tree (codes "compact" ∷ codes "delete $.A" ∷ []) ((codes "ok" ++ 10 ∷ []) ∷ []) ≡ false
  -- `compact` leaves the tree, but not the image, unless it is refused.
  pub compacted : all_leave_image (codes "compact" ∷ []) ((codes "ok" ++ 10 ∷ []) ∷ []) ≡ false
  pub not_compacted : all_leave_image (codes "compact" ∷ codes "free" ∷ []) (refusal_line ReadOnly ∷ []) ≡ true
  pub put_broke_off : all_host_keep_tree host_line_of (codes "put a $.A 00000000 00000000" ∷ []) [] ≡ false
  pub get_broke_off : all_host_keep_tree host_line_of (codes "get $.A a" ∷ []) [] ≡ true
  -- the text of a run that breaks off in its second line: what was written of a load's reply may follow, and a demo has none
  pub begun : text_begun None ((codes "ok" ++ 10 ∷ []) ∷ []) (Some (codes "load $.A")) (λ line. codes "41" ++ 10 ∷ []) ≡ codes "ok" ++ 10 ∷ codes "41" ++ 10 ∷ []
  pub demo_begun : text_begun (Some 1) ((codes "ok" ++ 10 ∷ []) ∷ []) (Some (codes "load $.A")) (λ line. codes "41" ++ 10 ∷ []) ≡ []
  -- A run that broke off in `compact` keeps the tree that the lines before it gave, whatever they changed; in a `delete` it doesn't.
  pub delete_then_compact : next_keeps_tree (codes "delete $.A" ∷ codes "compact" ∷ []) ((codes "ok" ++ 10 ∷ []) ∷ []) ≡ true
  pub not_the_first : all_keep_tree (codes "delete $.A" ∷ codes "compact" ∷ []) ((codes "ok" ++ 10 ∷ []) ∷ []) ≡ false
  pub compact_then_delete : next_keeps_tree (codes "compact" ∷ codes "delete $.A" ∷ []) ((codes "ok" ++ 10 ∷ []) ∷ []) ≡ false
  pub then_get : next_host_keeps_tree host_line_of (codes "delete $.A" ∷ codes "get $.B b" ∷ []) ((codes "ok" ++ 10 ∷ []) ∷ []) ≡ true
  pub then_load : next_leaves_image (codes "delete $.A" ∷ codes "load $.B" ∷ []) ((codes "ok" ++ 10 ∷ []) ∷ []) ≡ true
  pub in_compact : next_leaves_image (codes "delete $.A" ∷ codes "compact" ∷ []) ((codes "ok" ++ 10 ∷ []) ∷ []) ≡ false
  pub got : all_host_leave_image host_line_of (codes "get $.A a" ∷ []) ((codes "ok" ++ 10 ∷ []) ∷ []) ≡ true
  pub then_put : next_host_keeps_tree host_line_of (codes "put a $.A 00000000 00000000" ∷ []) [] ≡ false
  -- a reply that was cut off doesn't count, and a demo writes none
  pub cut_off : replies_written None (codes "ok" ++ 10 ∷ codes "o") ((codes "ok" ++ 10 ∷ []) ∷ (codes "ok" ++ 10 ∷ []) ∷ []) ≡ 1
  pub of_a_demo : replies_written (Some 1) (codes "ok" ++ 10 ∷ []) ((codes "ok" ++ 10 ∷ []) ∷ []) ≡ 0
  -- A fresh image may be left unmade after a fault of the disk, with no text, or if memory ran out while nothing was changed. (Here a
  -- number stands for a disk.)
  pub unmade : (old new : ℕ) → IsUnmade true Cause.Disk old new []
  pub untouched : (disk : ℕ) → IsUnmade true Cause.Memory disk disk []
  pub no_fresh : (old new : ℕ) (text : List ℕ) → IsUnmade false Cause.Disk old new text → ⊥
  pub some_text : (old new : ℕ) → IsUnmade true Cause.Disk old new (codes "ok") → ⊥
  pub by_the_sink : (old new : ℕ) (text : List ℕ) → IsUnmade true Cause.Out old new text → ⊥
  pub only_the_disk : spares_disk Cause.Host ≡ true
