use Rattle.std.proofs.Common.{◌≡◌, ◌<◌, ◌≤◌, ◌∙◌, List, ℕ, [], Bool, true, false, Result, Ok, Err, IfOk, length, inl, refl, sym, ap, subst, arith}
use Rattle.std.proofs.lemmas.List.{append-nil}
use Rattle.fc_device.proofs.DiskLaws.{laws}
use Rattle.fc_device.proofs.StopLemmas.{reads_start}
use Rattle.fc_image.specs.effects.Effect.{State}
use Rattle.fc_names.specs.declared.refusal.Refusal.{Refusal}
use Rattle.fc_names.specs.declared.refusal.Refusal.TheVariants as refusals
use Rattle.fc_script.specs.HostLines.{HostLine, host_line_of}
use Rattle.fc_script.specs.HostReading.{host_line}
use Rattle.fc_script.specs.Reading.{Gives, command}
use Rattle.fc_script.specs.Texts.{refusal_line}
use Rattle.fc_script.specs.declared.command.LineError.{LineError}
use Rattle.fc_script.specs.declared.host_line.HostLine.{HostLine as Told}
use Rattle.fc_runs.specs.HostAsks.{LineAsks}
use Rattle.fc_shell.proofs.HostLineLemmas.{get_name, other_command, put_name}
use Rattle.fc_tree.specs.Parts.{ArePartsOf}
use Rattle.fc_volume.specs.Volume.{StandsFor, Volume, parts_of}
use Rattle.fc_shell.specs.declared.moving.MoveFault.{MoveFault}
use Rattle.fc_shell.specs.Modes.{SuitsMode, mode_of}
use Rattle.fc_shell.specs.Moving.{AreCaused, KeepsServing, LineMoves}
use Rattle.fc_shell.proofs.AnsweredLemmas.{caused_alone}
use Rattle.fc_shell.proofs.MovingLemmas.{caused_moved, command_moves, command_serves, reading_serves, refused_moves, unbegun_moves}
use Rattle.fc_shell.proofs.SuitsLemmas.{no_mode, suits_if, suits_moved, suits_same}
use Rattle.fc_shell.proofs.host_line.answer_host_line.Goals as goal

-- ---- `get`

-- a line that was read as this spells it
line_is : (line : List ℕ) (told other : Told) → host_line_of line ≡ Ok (host_line told) → told ≡ other → host_line_of line ≡ Ok (host_line other)
line_is line told other read is = read ∙ ap (λ (t : Told). let r : Result HostLine Refusal = Ok (host_line t) in r) is

get_line : (line : List ℕ) (path : List (List ℕ)) (name other : List ℕ) → host_line_of line ≡ Ok (HostLine.Get path name) → other ≡ name → Ok (HostLine.Get path other) ≡ host_line_of line
get_line line path name other is same = ap (λ (n : List ℕ). let r : Result HostLine Refusal = Ok (HostLine.Get path n) in r) same ∙ sym is

pub get-requires-clause-fit : goal.get-requires-clause-fit
get-requires-clause-fit g c = ap (λ (v : Volume). v.fit) c.renew_index.ensures ∙ c.requires.fit

pub get-requires-clause-stands : goal.get-requires-clause-stands
get-requires-clause-stands g c = subst (λ (v : Volume). StandsFor g.D.Disk v c.args.disk.now) (sym c.renew_index.ensures) c.requires.stands

pub get-requires-clause-some : goal.get-requires-clause-some
get-requires-clause-some g c = subst (λ (n : List ℕ). 0 < length n) (sym c.bytes.ensures.same) (get_name c.args.line.now c.in-Ok-Get.path c.in-Ok-Get.name (line_is c.args.line.now c.in-Ok-Get.field-0 (Told.Get c.in-Ok-Get.path c.in-Ok-Get.name) c.in-Ok-Get.ensures c.in-Ok-Get.field-0-is)).0

pub get-requires-clause-most : goal.get-requires-clause-most
get-requires-clause-most g c = subst (λ (n : List ℕ). length n ≤ 64) (sym c.bytes.ensures.same) (get_name c.args.line.now c.in-Ok-Get.path c.in-Ok-Get.name (line_is c.args.line.now c.in-Ok-Get.field-0 (Told.Get c.in-Ok-Get.path c.in-Ok-Get.name) c.in-Ok-Get.ensures c.in-Ok-Get.field-0-is)).1

pub returns-in-Ok-Get-clause-step : goal.returns-in-Ok-Get-clause-step
returns-in-Ok-Get-clause-step g c image told kind view opens parts =
    let s : State = record { image = image; view = view } in
    let taken = g.K.Sink.taken in
    let files = g.H.Host.files in
    let same = c.renew_index.ensures in
    let own = get_line c.args.line.now c.in-Ok-Get.path c.in-Ok-Get.name c.bytes.result.now (line_is c.args.line.now c.in-Ok-Get.field-0 (Told.Get c.in-Ok-Get.path c.in-Ok-Get.name) c.in-Ok-Get.ensures c.in-Ok-Get.field-0-is) c.bytes.ensures.same in
    let m = c.get.ensures.step c.args.safe image told kind view opens (subst (λ (v : Volume). ArePartsOf (parts_of v) view) (sym same) parts) in (
      m.0,
      m.1,
      subst (λ (l : Result HostLine Refusal). LineMoves g.D.Disk c.args.disk.now c.get.new.disk (mode_of kind c.args.volume.now.read_only c.args.safe) s c.renew_index.new.self l (taken c.args.out.now) (taken c.get.new.out) m.0 (files c.args.host.now) (files c.get.new.host) c.get.result) own
          (subst (λ (ro : Bool). LineMoves g.D.Disk c.args.disk.now c.get.new.disk (mode_of kind ro c.args.safe) s c.renew_index.new.self (Ok (HostLine.Get c.in-Ok-Get.path c.bytes.result.now)) (taken c.args.out.now) (taken c.get.new.out) m.0 (files c.args.host.now) (files c.get.new.host) c.get.result)
          (ap (λ (v : Volume). v.read_only) same) m.2),
    )

pub returns-in-Ok-Get-clause-asks : goal.returns-in-Ok-Get-clause-asks
returns-in-Ok-Get-clause-asks g c =
    let own = get_line c.args.line.now c.in-Ok-Get.path c.in-Ok-Get.name c.bytes.result.now (line_is c.args.line.now c.in-Ok-Get.field-0 (Told.Get c.in-Ok-Get.path c.in-Ok-Get.name) c.in-Ok-Get.ensures c.in-Ok-Get.field-0-is) c.bytes.ensures.same in
    let m = c.get.ensures.asks in
    (m.0, m.1, subst (λ (l : Result HostLine Refusal). LineAsks l m.0) own m.2)

pub returns-in-Ok-Get-clause-keeps : goal.returns-in-Ok-Get-clause-keeps
returns-in-Ok-Get-clause-keeps g c =
    subst (λ (v : Volume). KeepsServing g.D.Disk c.args.disk.now c.get.new.disk c.args.volume.now v (host_line_of c.args.line.now) c.get.result) (sym c.renew_index.ensures)
    (reading_serves (laws g.met.D.Disk) c.args.volume.now (host_line_of c.args.line.now) c.args.disk.now c.get.new.disk c.get.result c.requires.settled c.requires.fit c.requires.stands c.get.ensures.reads)

-- ---- `put`

put_line : (line name other : List ℕ) (path : List (List ℕ)) (load exec : ℕ) → host_line_of line ≡ Ok (HostLine.Put name path load exec) → other ≡ name → Ok (HostLine.Put other path load exec) ≡ host_line_of line
put_line line name other path load exec is same = ap (λ (n : List ℕ). let r : Result HostLine Refusal = Ok (HostLine.Put n path load exec) in r) same ∙ sym is

pub put-requires-clause-some : goal.put-requires-clause-some
put-requires-clause-some g c =
    subst (λ (n : List ℕ). 0 < length n) (sym c.bytes-in-Ok-Put.ensures.same)
    (put_name c.args.line.now c.in-Ok-Put.name c.in-Ok-Put.path c.in-Ok-Put.load c.in-Ok-Put.exec (line_is c.args.line.now c.in-Ok-Put.field-0 (Told.Put c.in-Ok-Put.name c.in-Ok-Put.path c.in-Ok-Put.load c.in-Ok-Put.exec) c.in-Ok-Put.ensures c.in-Ok-Put.field-0-is)).0

pub put-requires-clause-most : goal.put-requires-clause-most
put-requires-clause-most g c =
    subst (λ (n : List ℕ). length n ≤ 64) (sym c.bytes-in-Ok-Put.ensures.same)
    (put_name c.args.line.now c.in-Ok-Put.name c.in-Ok-Put.path c.in-Ok-Put.load c.in-Ok-Put.exec (line_is c.args.line.now c.in-Ok-Put.field-0 (Told.Put c.in-Ok-Put.name c.in-Ok-Put.path c.in-Ok-Put.load c.in-Ok-Put.exec) c.in-Ok-Put.ensures c.in-Ok-Put.field-0-is)).1

pub put_safely-requires-clause-some : goal.put_safely-requires-clause-some
put_safely-requires-clause-some g c =
    subst (λ (n : List ℕ). 0 < length n) (sym c.bytes-then-safe.ensures.same)
    (put_name c.args.line.now c.in-Ok-Put.name c.in-Ok-Put.path c.in-Ok-Put.load c.in-Ok-Put.exec (line_is c.args.line.now c.in-Ok-Put.field-0 (Told.Put c.in-Ok-Put.name c.in-Ok-Put.path c.in-Ok-Put.load c.in-Ok-Put.exec) c.in-Ok-Put.ensures c.in-Ok-Put.field-0-is)).0

pub put_safely-requires-clause-most : goal.put_safely-requires-clause-most
put_safely-requires-clause-most g c =
    subst (λ (n : List ℕ). length n ≤ 64) (sym c.bytes-then-safe.ensures.same)
    (put_name c.args.line.now c.in-Ok-Put.name c.in-Ok-Put.path c.in-Ok-Put.load c.in-Ok-Put.exec (line_is c.args.line.now c.in-Ok-Put.field-0 (Told.Put c.in-Ok-Put.name c.in-Ok-Put.path c.in-Ok-Put.load c.in-Ok-Put.exec) c.in-Ok-Put.ensures c.in-Ok-Put.field-0-is)).1

pub put_safely-requires-clause-suits : goal.put_safely-requires-clause-suits
put_safely-requires-clause-suits g c = c.requires.suits c.if-safe.true

pub returns-then-safe-clause-step : goal.returns-then-safe-clause-step
returns-then-safe-clause-step g c image told kind view opens parts =
    let s : State = record { image = image; view = view } in
    let taken = g.K.Sink.taken in
    let files = g.H.Host.files in
    let own =
    put_line c.args.line.now c.in-Ok-Put.name c.bytes-then-safe.result.now c.in-Ok-Put.path c.in-Ok-Put.load c.in-Ok-Put.exec
    (line_is c.args.line.now c.in-Ok-Put.field-0 (Told.Put c.in-Ok-Put.name c.in-Ok-Put.path c.in-Ok-Put.load c.in-Ok-Put.exec) c.in-Ok-Put.ensures c.in-Ok-Put.field-0-is) c.bytes-then-safe.ensures.same in
    let m = c.put_safely.ensures.step image told kind view opens parts in (
      m.0,
      m.1,
      subst (λ (l : Result HostLine Refusal). LineMoves g.D.Disk c.args.disk.now c.put_safely.new.disk (mode_of kind c.args.volume.now.read_only c.args.safe) s c.put_safely.new.volume l (taken c.args.out.now) (taken c.put_safely.new.out) m.0 (files c.args.host.now) (files c.put_safely.new.host) c.put_safely.result) own
          (subst (λ (b : Bool). LineMoves g.D.Disk c.args.disk.now c.put_safely.new.disk (mode_of kind c.args.volume.now.read_only b) s c.put_safely.new.volume (Ok (HostLine.Put c.bytes-then-safe.result.now c.in-Ok-Put.path c.in-Ok-Put.load c.in-Ok-Put.exec)) (taken c.args.out.now) (taken c.put_safely.new.out) m.0 (files c.args.host.now) (files c.put_safely.new.host) c.put_safely.result)
          (sym c.if-safe.true) m.2),
    )

pub returns-else-safe-clause-step : goal.returns-else-safe-clause-step
returns-else-safe-clause-step g c image told kind view opens parts =
    let s : State = record { image = image; view = view } in
    let taken = g.K.Sink.taken in
    let files = g.H.Host.files in
    let own =
    put_line c.args.line.now c.in-Ok-Put.name c.bytes-in-Ok-Put.result.now c.in-Ok-Put.path c.in-Ok-Put.load c.in-Ok-Put.exec
    (line_is c.args.line.now c.in-Ok-Put.field-0 (Told.Put c.in-Ok-Put.name c.in-Ok-Put.path c.in-Ok-Put.load c.in-Ok-Put.exec) c.in-Ok-Put.ensures c.in-Ok-Put.field-0-is) c.bytes-in-Ok-Put.ensures.same in
    let m = c.put.ensures.step image told kind view opens parts in (
      m.0,
      m.1,
      subst (λ (l : Result HostLine Refusal). LineMoves g.D.Disk c.args.disk.now c.put.new.disk (mode_of kind c.args.volume.now.read_only c.args.safe) s c.put.new.volume l (taken c.args.out.now) (taken c.put.new.out) m.0 (files c.args.host.now) (files c.put.new.host) c.put.result) own
          (subst (λ (b : Bool). LineMoves g.D.Disk c.args.disk.now c.put.new.disk (mode_of kind c.args.volume.now.read_only b) s c.put.new.volume (Ok (HostLine.Put c.bytes-in-Ok-Put.result.now c.in-Ok-Put.path c.in-Ok-Put.load c.in-Ok-Put.exec)) (taken c.args.out.now) (taken c.put.new.out) m.0 (files c.args.host.now) (files c.put.new.host) c.put.result)
          (sym c.if-safe.false) m.2),
    )

-- ---- a command

pub answer_command-requires-clause-spelled : goal.answer_command-requires-clause-spelled
answer_command-requires-clause-spelled g c = (c.args.line.now, other_command c.args.line.now (command c.in-Ok-Other.asked) (line_is c.args.line.now c.in-Ok-Other.field-0 (Told.Other c.in-Ok-Other.asked) c.in-Ok-Other.ensures c.in-Ok-Other.field-0-is), c.requires.short)

pub returns-in-Ok-Other-clause-step : goal.returns-in-Ok-Other-clause-step
returns-in-Ok-Other-clause-step g c image told kind view opens parts =
    let s : State = record { image = image; view = view } in
    let taken = g.K.Sink.taken in
    let files = g.H.Host.files c.args.host.now in
    let line = c.args.line.now in
    let asked = command c.in-Ok-Other.asked in
    let is = other_command line asked (line_is c.args.line.now c.in-Ok-Other.field-0 (Told.Other c.in-Ok-Other.asked) c.in-Ok-Other.ensures c.in-Ok-Other.field-0-is) in
    let ro : Bool = c.args.volume.now.read_only in
    let now = c.answer_command.new.volume in
    let moves = command_moves g.D.Disk c.args.disk.now c.answer_command.new.disk (mode_of kind ro c.args.safe) s line asked is (taken c.args.out.now) (taken c.answer_command.new.out) files now c.answer_command.result
    (c.answer_command.ensures.step line is image told kind view opens parts) in (
      [],
      sym (append-nil (g.H.Host.asked c.args.host.now)),
      subst (λ (l : Result HostLine Refusal). LineMoves g.D.Disk c.args.disk.now c.answer_command.new.disk (mode_of kind ro c.args.safe) s now l (taken c.args.out.now) (taken c.answer_command.new.out) [] files files c.moved.result)
          (sym (line_is c.args.line.now c.in-Ok-Other.field-0 (Told.Other c.in-Ok-Other.asked) c.in-Ok-Other.ensures c.in-Ok-Other.field-0-is))
          (subst (λ (r : Result Bool MoveFault). LineMoves g.D.Disk c.args.disk.now c.answer_command.new.disk (mode_of kind ro c.args.safe) s now (Ok (HostLine.Other asked)) (taken c.args.out.now) (taken c.answer_command.new.out) [] files files r)
          (sym c.moved.ensures) moves),
    )

pub returns-in-Ok-Other-clause-asks : goal.returns-in-Ok-Other-clause-asks
returns-in-Ok-Other-clause-asks g c =
    ([], sym (append-nil (g.H.Host.asked c.args.host.now)), subst (λ (l : Result HostLine Refusal). LineAsks l []) (sym (line_is c.args.line.now c.in-Ok-Other.field-0 (Told.Other c.in-Ok-Other.asked) c.in-Ok-Other.ensures c.in-Ok-Other.field-0-is)) refl)

pub returns-in-Ok-Other-clause-keeps : goal.returns-in-Ok-Other-clause-keeps
returns-in-Ok-Other-clause-keeps g c =
    let line = c.args.line.now in
    let asked = command c.in-Ok-Other.asked in
    let is = other_command line asked (line_is c.args.line.now c.in-Ok-Other.field-0 (Told.Other c.in-Ok-Other.asked) c.in-Ok-Other.ensures c.in-Ok-Other.field-0-is) in
    let old = c.args.disk.now in
    let new = c.answer_command.new.disk in
    let v = c.args.volume.now in
    let now = c.answer_command.new.volume in
    subst (λ (l : Result HostLine Refusal). KeepsServing g.D.Disk old new v now l c.moved.result) (sym (line_is c.args.line.now c.in-Ok-Other.field-0 (Told.Other c.in-Ok-Other.asked) c.in-Ok-Other.ensures c.in-Ok-Other.field-0-is))
    (subst (λ (r : Result Bool MoveFault). KeepsServing g.D.Disk old new v now (Ok (HostLine.Other asked)) r) (sym c.moved.ensures)
    (command_serves g.D.Disk g.K.Sink old new c.args.out.now c.answer_command.new.out v now line asked c.answer_command.result is (c.answer_command.ensures.keeps line is)))

pub returns-in-Ok-Other-clause-caused : goal.returns-in-Ok-Other-clause-caused
returns-in-Ok-Other-clause-caused g c =
    let line = c.args.line.now in
    let is = other_command line (command c.in-Ok-Other.asked) (line_is c.args.line.now c.in-Ok-Other.field-0 (Told.Other c.in-Ok-Other.asked) c.in-Ok-Other.ensures c.in-Ok-Other.field-0-is) in
    subst (λ (r : Result Bool MoveFault). AreCaused g.D.Disk g.K.Sink g.H.Host c.args.disk.now c.answer_command.new.disk c.args.out.now c.answer_command.new.out c.args.host.now c.args.host.now r) (sym c.moved.ensures)
    (caused_moved g.D.Disk g.K.Sink g.H.Host c.args.disk.now c.answer_command.new.disk c.args.out.now c.answer_command.new.out c.args.host.now c.answer_command.result (c.answer_command.ensures.keeps line is).caused)

-- ---- lines that spell nothing

pub returns-in-Err-BadCommand-clause-step : goal.returns-in-Err-BadCommand-clause-step
returns-in-Err-BadCommand-clause-step g c image told kind view opens parts =
    let s : State = record { image = image; view = view } in
    let taken = g.K.Sink.taken in
    let files = g.H.Host.files c.args.host.now in
    let line = host_line_of c.args.line.now in
    let wrong = subst (λ (f : LineError). Gives {X = Told} host_line (Err f) (host_line_of c.args.line.now)) c.in-Err-BadCommand.field-0-is c.in-Err-BadCommand.ensures in
    let v = c.args.volume.now in (
      [],
      sym (append-nil (g.H.Host.asked c.args.host.now)),
      subst (λ (r : Result Bool MoveFault). LineMoves g.D.Disk c.args.disk.now c.args.disk.now (mode_of kind v.read_only c.args.safe) s v line (taken c.args.out.now) (taken c.tell.new.out) [] files files r) (sym c.moved-in-Err-BadCommand.ensures)
          (refused_moves (laws g.met.D.Disk) kind c.args.safe v s line c.args.disk.now c.args.disk.now (taken c.args.out.now) (taken c.tell.new.out) c.requires.settled told opens (reads_start (laws g.met.D.Disk) c.args.disk.now)
          refusals.BadCommand files wrong parts c.tell.result c.tell.ensures.only.no_disk (c.tell.ensures.answered (refusal_line refusals.BadCommand) c.refusal.ensures)),
    )

pub returns-in-Err-BadCommand-clause-asks : goal.returns-in-Err-BadCommand-clause-asks
returns-in-Err-BadCommand-clause-asks g c =
    let wrong = subst (λ (f : LineError). Gives {X = Told} host_line (Err f) (host_line_of c.args.line.now)) c.in-Err-BadCommand.field-0-is c.in-Err-BadCommand.ensures in
    ([], sym (append-nil (g.H.Host.asked c.args.host.now)), subst (λ (l : Result HostLine Refusal). LineAsks l []) (sym wrong) refl)

pub returns-in-Err-BadCommand-clause-keeps : goal.returns-in-Err-BadCommand-clause-keeps
returns-in-Err-BadCommand-clause-keeps g c =
    reading_serves (laws g.met.D.Disk) c.args.volume.now (host_line_of c.args.line.now) c.args.disk.now c.args.disk.now c.moved-in-Err-BadCommand.result c.requires.settled c.requires.fit c.requires.stands
    (reads_start (laws g.met.D.Disk) c.args.disk.now)

pub returns-in-Err-BadCommand-clause-caused : goal.returns-in-Err-BadCommand-clause-caused
returns-in-Err-BadCommand-clause-caused g c =
    subst (λ (r : Result Bool MoveFault). AreCaused g.D.Disk g.K.Sink g.H.Host c.args.disk.now c.args.disk.now c.args.out.now c.tell.new.out c.args.host.now c.args.host.now r) (sym c.moved-in-Err-BadCommand.ensures)
    (caused_moved g.D.Disk g.K.Sink g.H.Host c.args.disk.now c.args.disk.now c.args.out.now c.tell.new.out c.args.host.now c.tell.result
    (caused_alone g.D.Disk g.K.Sink c.args.disk.now c.args.disk.now c.args.out.now c.tell.new.out c.tell.result c.tell.ensures.only))

pub returns-in-Err-BadName-clause-step : goal.returns-in-Err-BadName-clause-step
returns-in-Err-BadName-clause-step g c image told kind view opens parts =
    let s : State = record { image = image; view = view } in
    let taken = g.K.Sink.taken in
    let files = g.H.Host.files c.args.host.now in
    let line = host_line_of c.args.line.now in
    let wrong = subst (λ (f : LineError). Gives {X = Told} host_line (Err f) (host_line_of c.args.line.now)) c.in-Err-BadName.field-0-is c.in-Err-BadName.ensures in
    let v = c.args.volume.now in (
      [],
      sym (append-nil (g.H.Host.asked c.args.host.now)),
      subst (λ (r : Result Bool MoveFault). LineMoves g.D.Disk c.args.disk.now c.args.disk.now (mode_of kind v.read_only c.args.safe) s v line (taken c.args.out.now) (taken c.tell-in-Err-BadName.new.out) [] files files r) (sym c.moved-in-Err-BadName.ensures)
          (refused_moves (laws g.met.D.Disk) kind c.args.safe v s line c.args.disk.now c.args.disk.now (taken c.args.out.now) (taken c.tell-in-Err-BadName.new.out) c.requires.settled told opens (reads_start (laws g.met.D.Disk) c.args.disk.now)
          refusals.BadName files wrong parts c.tell-in-Err-BadName.result c.tell-in-Err-BadName.ensures.only.no_disk (c.tell-in-Err-BadName.ensures.answered (refusal_line refusals.BadName) c.refusal-in-Err-BadName.ensures)),
    )

pub returns-in-Err-BadName-clause-asks : goal.returns-in-Err-BadName-clause-asks
returns-in-Err-BadName-clause-asks g c =
    let wrong = subst (λ (f : LineError). Gives {X = Told} host_line (Err f) (host_line_of c.args.line.now)) c.in-Err-BadName.field-0-is c.in-Err-BadName.ensures in
    ([], sym (append-nil (g.H.Host.asked c.args.host.now)), subst (λ (l : Result HostLine Refusal). LineAsks l []) (sym wrong) refl)

pub returns-in-Err-BadName-clause-keeps : goal.returns-in-Err-BadName-clause-keeps
returns-in-Err-BadName-clause-keeps g c =
    reading_serves (laws g.met.D.Disk) c.args.volume.now (host_line_of c.args.line.now) c.args.disk.now c.args.disk.now c.moved-in-Err-BadName.result c.requires.settled c.requires.fit c.requires.stands
    (reads_start (laws g.met.D.Disk) c.args.disk.now)

pub returns-in-Err-BadName-clause-caused : goal.returns-in-Err-BadName-clause-caused
returns-in-Err-BadName-clause-caused g c =
    subst (λ (r : Result Bool MoveFault). AreCaused g.D.Disk g.K.Sink g.H.Host c.args.disk.now c.args.disk.now c.args.out.now c.tell-in-Err-BadName.new.out c.args.host.now c.args.host.now r) (sym c.moved-in-Err-BadName.ensures)
    (caused_moved g.D.Disk g.K.Sink g.H.Host c.args.disk.now c.args.disk.now c.args.out.now c.tell-in-Err-BadName.new.out c.args.host.now c.tell-in-Err-BadName.result
    (caused_alone g.D.Disk g.K.Sink c.args.disk.now c.args.disk.now c.args.out.now c.tell-in-Err-BadName.new.out c.tell-in-Err-BadName.result c.tell-in-Err-BadName.ensures.only))

pub returns-in-Err-NoMemory-clause-step : goal.returns-in-Err-NoMemory-clause-step
returns-in-Err-NoMemory-clause-step g c image told kind view opens parts =
    let s : State = record { image = image; view = view } in
    let taken = g.K.Sink.taken c.args.out.now in (
      [],
      sym (append-nil (g.H.Host.asked c.args.host.now)),
      unbegun_moves (laws g.met.D.Disk) kind c.args.safe c.args.volume.now s (host_line_of c.args.line.now) c.args.disk.now c.args.disk.now taken taken c.requires.settled told opens
          (reads_start (laws g.met.D.Disk) c.args.disk.now) MoveFault.NoMemory (g.H.Host.files c.args.host.now) refl,
    )

none_asks : (r : Result HostLine Refusal) → LineAsks r []
none_asks (Err refusal) = refl
none_asks (Ok (HostLine.Get path host)) = inl refl
none_asks (Ok (HostLine.Put host path load exec)) = λ k d below. absurd (omega (arith, below))
none_asks (Ok (HostLine.Other command)) = refl

pub returns-in-Err-NoMemory-clause-asks : goal.returns-in-Err-NoMemory-clause-asks
returns-in-Err-NoMemory-clause-asks g c = ([], sym (append-nil (g.H.Host.asked c.args.host.now)), none_asks (host_line_of c.args.line.now))

pub returns-in-Err-NoMemory-clause-keeps : goal.returns-in-Err-NoMemory-clause-keeps
returns-in-Err-NoMemory-clause-keeps g c =
    reading_serves (laws g.met.D.Disk) c.args.volume.now (host_line_of c.args.line.now) c.args.disk.now c.args.disk.now (Err MoveFault.NoMemory) c.requires.settled c.requires.fit c.requires.stands
    (reads_start (laws g.met.D.Disk) c.args.disk.now)

-- ---- what suits the safe mode

pub returns-in-Ok-Get-clause-suits : goal.returns-in-Ok-Get-clause-suits
returns-in-Ok-Get-clause-suits g c =
    subst (λ (v : Volume). IfOk c.get.result (λ refused. SuitsMode c.args.safe v)) (sym c.renew_index.ensures) (suits_same c.get.result c.args.safe c.args.volume.now c.requires.suits)

pub returns-in-Ok-Other-clause-suits : goal.returns-in-Ok-Other-clause-suits
returns-in-Ok-Other-clause-suits g c =
    subst (λ (r : Result Bool MoveFault). IfOk r (λ refused. SuitsMode c.args.safe c.answer_command.new.volume)) (sym c.moved.ensures)
    (suits_moved c.answer_command.result (SuitsMode c.args.safe c.answer_command.new.volume) c.answer_command.ensures.suits)

pub returns-in-Err-BadCommand-clause-suits : goal.returns-in-Err-BadCommand-clause-suits
returns-in-Err-BadCommand-clause-suits g c = suits_same c.moved-in-Err-BadCommand.result c.args.safe c.args.volume.now c.requires.suits

pub returns-in-Err-BadName-clause-suits : goal.returns-in-Err-BadName-clause-suits
returns-in-Err-BadName-clause-suits g c = suits_same c.moved-in-Err-BadName.result c.args.safe c.args.volume.now c.requires.suits
