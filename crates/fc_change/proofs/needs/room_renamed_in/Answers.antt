use Rattle.std.proofs.Common.{sym, subst, ◌∙◌}
use Rattle.fc_dirs.specs.Directory.{Directory, entries_of}
use Rattle.fc_drafts.specs.Gains.{GetsNameFor, HasRoom}
use Rattle.fc_drafts.specs.Rewriting.{IsAt}
use Rattle.fc_drafts.specs.declared.room.Room.TheVariants as rooms
use Rattle.fc_drafts.proofs.SizeLemmas.{small_fits}
use Rattle.fc_change.proofs.NeedsLemmas.{never_file, one_content}
use Rattle.fc_change.proofs.needs.room_renamed_in.Goals as goal

pub in_big_renamed-requires : goal.in_big_renamed-requires
in_big_renamed-requires c = c.requires (Directory.Big c.in-Big.dir) c.in-Big.is

pub returns-in-Big-clause-kept : goal.returns-in-Big-clause-kept
returns-in-Big-clause-kept c = λ content was says is same.
    let dir = one_content content (Directory.Big c.in-Big.dir) (sym says ∙ c.in-Big.is) in
    c.in_big_renamed.ensures.kept was (subst (λ (d : Directory). IsAt (entries_of d) c.args.at was) dir is) same

pub returns-in-Big-clause-respelled : goal.returns-in-Big-clause-respelled
returns-in-Big-clause-respelled c = λ content was gain says is other gets.
    let dir = one_content content (Directory.Big c.in-Big.dir) (sym says ∙ c.in-Big.is) in
    subst (λ (d : Directory). HasRoom d gain c.in_big_renamed.result) (sym dir)
    (c.in_big_renamed.ensures.respelled was gain (subst (λ (d : Directory). IsAt (entries_of d) c.args.at was) dir is) other (subst (λ (d : Directory). GetsNameFor d was.name c.args.name.now gain) dir gets))

pub returns-in-Small-clause-respelled : goal.returns-in-Small-clause-respelled
returns-in-Small-clause-respelled c = λ content was gain says is other gets.
    let dir = one_content content (Directory.Small c.in-Small.dir) (sym says ∙ c.in-Small.is) in
    subst (λ (d : Directory). HasRoom d gain rooms.Fits) (sym dir)
    (small_fits c.in-Small.dir c.args.at was c.args.name.now gain c.entries.ensures.small (subst (λ (d : Directory). IsAt (entries_of d) c.args.at was) dir is)
    (subst (λ (d : Directory). GetsNameFor d was.name c.args.name.now gain) dir gets))

pub returns-in-File-clause-respelled : goal.returns-in-File-clause-respelled
returns-in-File-clause-respelled c = λ content was gain says is other gets. absurd (never_file content (sym says ∙ c.in-File.is))
