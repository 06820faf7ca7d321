use Rattle.std.proofs.Common.{◌≡◌, ◌∙◌, [], false, Result, Err, ap, subst}
use Rattle.fc_commands.specs.declared.given.GivenError.{GivenError}
use Rattle.fc_device.proofs.DiskLaws.{laws}
use Rattle.fc_model.specs.Command.{Command as Model}
use Rattle.fc_shell.specs.Putting.{SavesGiven}
use Rattle.fc_shell.proofs.PuttingLemmas.{saved_synced, saved_unsynced}
use Rattle.fc_shell.proofs.put.save_file.Goals as goal

pub returns-in-Ok : goal.returns-in-Ok
returns-in-Ok g c =
    let call = c.save_unsynced-saved in
    let save = Model.Save c.args.path.now c.args.words.load c.args.words.exec in
    let same : c.in-Err-Supply.field-0 ≡ GivenError.Supply = rw c.in-Err-Supply.is at c.in-Err-Supply.field-0-is in
    let is : call.result ≡ Err GivenError.Supply = c.in-Err-Supply.is ∙ ap (λ (e : GivenError). let r : Result (Unit {0}) GivenError = Err e in r) same in
    let saves =
    subst (λ (r : Result (Unit {0}) GivenError). SavesGiven g.D.Disk g.H.Host c.args.name.now c.args.words.len save c.args.volume.now call.new.volume c.args.disk.now call.new.disk
    (record { host = c.args.host.now; given = []; failed = false }) (record { host = call.new.host; given = call.ensures.0; failed = call.ensures.1 }) r) is call.ensures.2 in
    saved_synced (laws g.met.D.Disk) g.H.Host c.args.name.now c.args.words.len save c.args.volume.now call.new.volume c.args.disk.now call.new.disk c.args.host.now call.new.host call.ensures.0 call.ensures.1 c.sync.new.self saves
    c.sync.ensures.form c.sync.ensures.bytes c.sync.ensures.stops c.sync.ensures.cause.later c.in-Ok.ensures.durable

pub returns-in-Err : goal.returns-in-Err
returns-in-Err g c =
    let call = c.save_unsynced-saved in
    let save = Model.Save c.args.path.now c.args.words.load c.args.words.exec in
    let same : c.in-Err-Supply.field-0 ≡ GivenError.Supply = rw c.in-Err-Supply.is at c.in-Err-Supply.field-0-is in
    let is : call.result ≡ Err GivenError.Supply = c.in-Err-Supply.is ∙ ap (λ (e : GivenError). let r : Result (Unit {0}) GivenError = Err e in r) same in
    let saves =
    subst (λ (r : Result (Unit {0}) GivenError). SavesGiven g.D.Disk g.H.Host c.args.name.now c.args.words.len save c.args.volume.now call.new.volume c.args.disk.now call.new.disk
    (record { host = c.args.host.now; given = []; failed = false }) (record { host = call.new.host; given = call.ensures.0; failed = call.ensures.1 }) r) is call.ensures.2 in
    saved_unsynced (laws g.met.D.Disk) g.H.Host c.args.name.now c.args.words.len save c.args.volume.now call.new.volume c.args.disk.now call.new.disk c.args.host.now call.new.host call.ensures.0 call.ensures.1 c.sync.new.self saves
    c.sync.ensures.form c.sync.ensures.bytes c.sync.ensures.stops c.sync.ensures.cause.later c.in-Err.ensures.cause.failed
