use Rattle.std.proofs.Common.{◌<◌, MatchOption, subst}
use Rattle.fc_dirs.specs.Big.{BigDir, size_limit, size_with}
use Rattle.fc_bigdir.specs.Entered.{HasRoomFor}
use Rattle.fc_bigdir.proofs.GrowLemmas.{room_found}
use Rattle.fc_bigdir.proofs.big.BigDir.room_with.Goals as goal

pub returns-clause-room : goal.returns-clause-room
returns-clause-room c =
    let e = c.args.e.now in
    subst (λ (d : BigDir). MatchOption c.room_for.result (size_limit < size_with e d) (HasRoomFor e d)) c.self.view_is
    (room_found _ e c.parts_with.result c.room_for.result (rw (← c.self.view_is) at c.parts_with.ensures.parts) c.room_for.ensures)
