use Rattle.std.proofs.Common.{◌<◌, MatchOption, subst}
use Rattle.fc_dirs.specs.Big.{BigDir, size_limit, size_with, without_big_entry}
use Rattle.fc_bigdir.specs.Entered.{HasRoomFor}
use Rattle.fc_bigdir.proofs.GrowLemmas.{room_found}
use Rattle.fc_bigdir.proofs.big.BigDir.room_renamed.Goals as goal

pub returns-clause-room : goal.returns-clause-room
returns-clause-room c =
    let e = c.args.e.now in
    let at = c.args.at in
    subst (λ (d : BigDir). MatchOption c.room_for.result (size_limit < size_with e (without_big_entry at d)) (HasRoomFor e (without_big_entry at d))) c.self.view_is
    (room_found _ e c.parts_renamed.result c.room_for.result (rw (← c.self.view_is) at c.parts_renamed.ensures.parts) c.room_for.ensures)
