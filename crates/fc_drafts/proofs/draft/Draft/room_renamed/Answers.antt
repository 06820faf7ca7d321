use Rattle.std.proofs.Common.{sym, ap, subst}
use Rattle.fc_dirs.specs.Directory.{Directory, entries_of}
use Rattle.fc_drafts.specs.Draft.{IsSayable, directory_in}
use Rattle.fc_drafts.specs.Gains.{GetsNameFor, HasRoom}
use Rattle.fc_drafts.specs.Rewriting.{IsAt}
use Rattle.fc_drafts.specs.declared.room.Room.TheVariants as rooms
use Rattle.fc_drafts.proofs.SizeLemmas.{small_fits}
use Rattle.fc_drafts.proofs.draft.Draft.room_renamed.Goals as goal

pub returns-in-Small-clause-respelled : goal.returns-in-Small-clause-respelled
returns-in-Small-clause-respelled c = λ was gain is other gets.
    let dir = ap directory_in c.in-Small.is in
    subst (λ (d : Directory). HasRoom d gain rooms.Fits) (sym dir)
    (small_fits c.in-Small.field-0 c.args.at was c.args.name.now gain (subst IsSayable dir c.entries.ensures.sayable) (subst (λ (d : Directory). IsAt (entries_of d) c.args.at was) dir is)
    (subst (λ (d : Directory). GetsNameFor d was.name c.args.name.now gain) dir gets))

pub returns-in-Big-clause-kept : goal.returns-in-Big-clause-kept
returns-in-Big-clause-kept c = λ was is same.
    c.in_big_renamed.ensures.kept was (subst (λ (d : Directory). IsAt (entries_of d) c.args.at was) (ap directory_in c.in-Big.is) is) same

pub returns-in-Big-clause-respelled : goal.returns-in-Big-clause-respelled
returns-in-Big-clause-respelled c = λ was gain is other gets.
    let dir = ap directory_in c.in-Big.is in
    subst (λ (d : Directory). HasRoom d gain c.in_big_renamed.result) (sym dir)
    (c.in_big_renamed.ensures.respelled was gain (subst (λ (d : Directory). IsAt (entries_of d) c.args.at was) dir is) other (subst (λ (d : Directory). GetsNameFor d was.name c.args.name.now gain) dir gets))
