use Rattle.std.proofs.Common.{refl}
use Rattle.fc_newmap.proofs.ComposeLemmas.{edit_then}
use Rattle.fc_compact.proofs.ReleaseLemmas.{hole_is_at}
use Rattle.fc_compact.proofs.ShiftLemmas.{low_then}
use Rattle.fc_compact.proofs.release.take_front.Goals as goal

pub label-requires-clause-hole : goal.label-requires-clause-hole
label-requires-clause-hole c =
    let a = c.args in
    let h = c.requires.hole in
    let n = c.cut_hole.new.map in
    hole_is_at n a.z a.start a.len h.0 _ c.cut_hole.ensures.edit.map (low_then a.map.now n a.z a.z c.cut_hole.ensures.edit c.requires.zone) (c.cut_hole.ensures.runs h.0 h.1 h.2)

pub returns-clause-runs : goal.returns-clause-runs
returns-clause-runs c = λ front rest zone. c.label.ensures.runs front _ _ (c.cut_hole.ensures.runs front rest zone) refl

pub returns-clause-edit : goal.returns-clause-edit
returns-clause-edit c = edit_then c.args.map.now c.cut_hole.new.map c.label.new.self c.args.z c.cut_hole.ensures.edit c.label.ensures.edit
