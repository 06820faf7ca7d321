use Rattle.fc_newmap.proofs.ComposeLemmas.{edit_then}
use Rattle.fc_compact.proofs.ShiftLemmas.{hole_to_label, labelled_row, low_then, merged_row, runs_to_merge}
use Rattle.fc_compact.proofs.shift.close.Goals as goal

pub label-requires-clause-hole : goal.label-requires-clause-hole
label-requires-clause-hole c =
    let a = c.args in
    let row = c.requires.row in
    hole_to_label a.map.now a.z a.start a.id a.done a.hole a.left row.0 row.1 row.2 c.is_map.ensures c.requires.zone

pub merge_front-requires-clause-row : goal.merge_front-requires-clause-row
merge_front-requires-clause-row c =
    let a = c.args in
    let row = c.requires.row in
    (row.0, _, labelled_row a.map.now a.z a.start a.id a.done a.hole a.left row.0 row.1 row.2 c.label.new.self c.label.ensures.runs)

pub merge-requires-clause-runs : goal.merge-requires-clause-runs
merge-requires-clause-runs c =
    let a = c.args in
    let row = c.requires.row in
    let n = c.label.new.self in
    let o = c.merge_front.new.map in
    let labelled = labelled_row a.map.now a.z a.start a.id a.done a.hole a.left row.0 row.1 row.2 n c.label.ensures.runs in
    runs_to_merge o a.z a.start a.id _ a.left _ row.0 row.1 c.requires.some (c.merge_front.ensures.runs row.0 _ labelled) c.merge_front.ensures.edit.map
    (low_then n o a.z a.z c.merge_front.ensures.edit (low_then a.map.now n a.z a.z c.label.ensures.edit c.requires.zone))

pub returns-clause-runs : goal.returns-clause-runs
returns-clause-runs c = λ front rest zone.
    let a = c.args in
    let labelled = labelled_row a.map.now a.z a.start a.id a.done a.hole a.left front rest zone c.label.new.self c.label.ensures.runs in
    merged_row c.merge_front.new.map a.z a.start a.id _ a.left _ front rest c.requires.some (c.merge_front.ensures.runs front _ labelled) c.merge.new.self c.merge.ensures.runs

pub returns-clause-edit : goal.returns-clause-edit
returns-clause-edit c =
    let a = c.args in
    edit_then a.map.now c.merge_front.new.map c.merge.new.self a.z (edit_then a.map.now c.label.new.self c.merge_front.new.map a.z c.label.ensures.edit c.merge_front.ensures.edit) c.merge.ensures.edit
