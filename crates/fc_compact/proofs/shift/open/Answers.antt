use Rattle.std.proofs.Common.{◌∷◌, ◌++◌, []}
use Rattle.fc_newmap.proofs.ComposeLemmas.{edit_then}
use Rattle.fc_compact.specs.Slides.{run_at}
use Rattle.fc_compact.proofs.ShiftLemmas.{low_then, open_split, released_row, run_to_release, split_row}
use Rattle.fc_compact.proofs.shift.open.Goals as goal

pub split-requires-clause-run : goal.split-requires-clause-run
split-requires-clause-run c =
    let a = c.args in
    let row = c.requires.row in
    open_split a.map.now a.z a.start a.id a.done a.hole a.left row.0 row.1 row.2 c.is_map.ensures c.requires.zone c.requires.done_whole c.requires.done_room c.requires.hole_room

pub cut_back-requires-clause-row : goal.cut_back-requires-clause-row
cut_back-requires-clause-row c =
    let a = c.args in
    let row = c.requires.row in
    (row.0 ++ run_at a.start a.done a.id ∷ [], row.1, split_row a.map.now a.z a.start a.id a.done a.hole a.left row.0 row.1 row.2 c.split.new.self c.split.ensures.runs)

pub release-requires-clause-run : goal.release-requires-clause-run
release-requires-clause-run c =
    let a = c.args in
    let row = c.requires.row in
    let n = c.split.new.self in
    let o = c.cut_back.new.map in
    let cut = split_row a.map.now a.z a.start a.id a.done a.hole a.left row.0 row.1 row.2 n c.split.ensures.runs in
    run_to_release o a.z a.start a.id a.done a.hole row.0 _ (c.cut_back.ensures.runs (row.0 ++ run_at a.start a.done a.id ∷ []) row.1 cut) c.cut_back.ensures.edit.map
    (low_then n o a.z a.z c.cut_back.ensures.edit (low_then a.map.now n a.z a.z c.split.ensures.edit c.requires.zone))

pub returns-clause-runs : goal.returns-clause-runs
returns-clause-runs c = λ front rest zone.
    let a = c.args in
    let cut = split_row a.map.now a.z a.start a.id a.done a.hole a.left front rest zone c.split.new.self c.split.ensures.runs in
    released_row c.cut_back.new.map a.z a.start a.id a.done a.hole front _ (c.cut_back.ensures.runs (front ++ run_at a.start a.done a.id ∷ []) rest cut) c.release.new.self c.release.ensures.runs

pub returns-clause-edit : goal.returns-clause-edit
returns-clause-edit c =
    let a = c.args in
    edit_then a.map.now c.cut_back.new.map c.release.new.self a.z (edit_then a.map.now c.split.new.self c.cut_back.new.map a.z c.split.ensures.edit c.cut_back.ensures.edit) c.release.ensures.edit
