use Rattle.std.proofs.Common.{◌≡◌, ◌≤◌, List, ℕ, length, replicate, sym, ap, subst, refl, ◌∙◌, arith}
use Rattle.std.proofs.lemmas.List.{length-replicate}
use Rattle.std.proofs.lemmas.Result.{err_from_is_err_and}
use Rattle.std.specs.Prelude.{Err, Ok, Result}
use Rattle.std.specs.Option.{ForSome}
use Rattle.fc_device.proofs.DiskLaws.{laws}
use Rattle.fc_device.proofs.StopLemmas.{keeps_weaker}
use Rattle.fc_device.specs.Calls.{StopsAndExitsLeave}
use Rattle.fc_image.specs.Layout.{Layout, dir_form, sector_bytes}
use Rattle.fc_given.specs.Law.{IsBegun}
use Rattle.fc_import.specs.declared.place.ImportFault.{ImportFault}
use Rattle.fc_space.specs.declared.space.Space.{Space}
use Rattle.fc_space.specs.Space.{layout_of}
use Rattle.fc_tree.specs.Nodes.{next_number}
use Rattle.fc_writing.specs.declared.copies.Copies.TheVariants.{Equal}
use Rattle.fc_holdings.specs.declared.holdings.Holdings.{Holdings}
use Rattle.fc_holdings.specs.Holdings.{HoldsMap, IsSameKind, parts_of}
use Rattle.fc_commands.specs.declared.given.GivenError.{GivenError}
use Rattle.fc_commands.specs.Answers.{AnswersShort}
use Rattle.fc_commands.specs.Given.{GivenKeeps, as_held, filled}
use Rattle.fc_commands.specs.Laws.{JobLaws}
use Rattle.fc_commands.specs.Written.{CanWriteOn, ChangeLeavesOn, IsChangedOn, IsGivenOn}
use Rattle.fc_commands.proofs.AdmitLemmas.{can_take_over, laws_for, layout_stays, nodes_stay, room_made, run_is, still_known}
use Rattle.fc_commands.proofs.ChangeLemmas.{accepts, faults, has_changed, nothing_written, refuses, same_form, stands_now, written}
use Rattle.fc_commands.proofs.FilledLemmas.{filled_long}
use Rattle.fc_commands.proofs.GivenLemmas.{leaves_filled}
use Rattle.fc_commands.proofs.GivenJobLemmas.{faulted, filling, given_broken, given_done, given_same, given_source, refused_not_fault, supply_of}
use Rattle.fc_commands.proofs.MomentLemmas.{leaves_nothing, leaves_written}
use Rattle.fc_commands.proofs.TakenBackLemmas.{one_admitted, still_alike, still_stands}
use Rattle.fc_commands.proofs.given.change_from.Given.{Over}
use Rattle.fc_commands.proofs.given.change_from.Goals as goal
use Rattle.fc_commands.proofs.given.change_from.Goals.{After-places_suffice, After-write_given}

-- the laws of the job, whatever the bytes are
its_laws : (g : Over) (c : After-places_suffice g) (bytes : List ℕ) → length bytes ≡ g.B.Supply.total c.args.from.now → JobLaws c.requires.stands.agree.0 (parts_of c.args.holdings.now) c.args.job.now c.args.name.now bytes
its_laws g c bytes long =
    laws_for g.D.Disk c.args.holdings.now c.args.disk.now c.jobs.ensures c.requires.stands c.is_map.ensures c.places_suffice.ensures c.args.job.now c.args.name.now bytes c.requires.covered (c.requires.judged bytes long)

-- of as many zeros
plain : (g : Over) (c : After-places_suffice g) → JobLaws c.requires.stands.agree.0 (parts_of c.args.holdings.now) c.args.job.now c.args.name.now (replicate (g.B.Supply.total c.args.from.now) 0)
plain g c = its_laws g c (replicate (g.B.Supply.total c.args.from.now) 0) (length-replicate (g.B.Supply.total c.args.from.now) 0)

pub make_ready-requires : goal.make_ready-requires
make_ready-requires g c = (plain g (goal.at.make_ready-requires g c).After-places_suffice).can_prepare

-- ---- refused, or no memory

pub returns-in_err-change-clause-refused : goal.returns-in_err-change-clause-refused
returns-in_err-change-clause-refused g c = λ cmd bytes long j.
    let h = parts_of c.args.holdings.now in
    let p = err_from_is_err_and c.from_residual.result c.from_residual.ensures.1 in
    subst (λ (r : Result (Unit {0}) GivenError). AnswersShort cmd h (as_held r)) (sym (p.1 ∙ ap (λ (y : GivenError). let r : Result (Unit {0}) GivenError = Err y in r) p.2))
    (refuses c.requires.stands.agree.0 h c.args.job.now c.args.name.now bytes (its_laws g (goal.at.returns-in_err-change-clause-refused g c).After-places_suffice bytes long) cmd j c.in_err-change.field-0.0 c.in_err-change.ensures.refused)

pub returns-in_err-change-clause-places : goal.returns-in_err-change-clause-places
returns-in_err-change-clause-places g c = λ cmd j. nothing_written g.D.Disk (laws g.met.D.Disk) (parts_of c.args.holdings.now) cmd c.args.disk.now c.is_map.ensures c.requires.settled

pub returns-in_err-change-clause-leaves : goal.returns-in_err-change-clause-leaves
returns-in_err-change-clause-leaves g c =
    leaves_nothing g.D.Disk (laws g.met.D.Disk) c.args.holdings.now c.args.job.now c.args.name.now c.args.disk.now c.requires.stands c.requires.settled

pub returns-in_err-change-clause-stopped : goal.returns-in_err-change-clause-stopped
returns-in_err-change-clause-stopped g c = λ e.
    let p = err_from_is_err_and c.from_residual.result c.from_residual.ensures.1 in
    let is = sym (p.1 ∙ ap (λ (y : GivenError). let r : Result (Unit {0}) GivenError = Err y in r) p.2) ∙ e in
    absurd (cc)

pub returns-in_err-change-clause-alike : goal.returns-in_err-change-clause-alike
returns-in_err-change-clause-alike g c = λ e.
    let p = err_from_is_err_and c.from_residual.result c.from_residual.ensures.1 in
    let is = sym (p.1 ∙ ap (λ (y : GivenError). let r : Result (Unit {0}) GivenError = Err y in r) p.2) ∙ e in
    absurd (cc)

pub returns-in_err-change-clause-keeps : goal.returns-in_err-change-clause-keeps
returns-in_err-change-clause-keeps g c =
    let d = g.D.Disk in let b = g.B.Supply in let was = c.args.holdings.now in let disk = c.args.disk.now in let from = c.args.from.now in
    let p = err_from_is_err_and c.from_residual.result c.from_residual.ensures.1 in
    let error = c.in_err-change.field-0.0 in
    subst (λ (h : Holdings). GivenKeeps d b disk disk from from was h c.from_residual.result) (sym c.in_err-change.ensures.same)
    (subst (GivenKeeps d b disk disk from from was was) (sym (p.1 ∙ ap (λ (y : GivenError). let r : Result (Unit {0}) GivenError = Err y in r) p.2))
    (given_same d b disk from was error c.requires.stands c.requires.settled (refused_not_fault (parts_of was) c.args.job.now c.args.name.now error c.in_err-change.ensures.refused)))

-- ---- written

pub write_given-requires-clause-writable : goal.write_given-requires-clause-writable
write_given-requires-clause-writable g c =
    let was = c.args.holdings.now in let p = c.in_ok-change.field-0 in let mid = c.make_ready.new.holdings in
    let stays = sym (layout_stays was mid p.change c.in_ok-change.ensures.admitted) in
    record {
      size = c.requires.stands.size ∙ ap sector_bytes stays;
      room = subst (λ (l : Layout). HoldsMap l (g.D.Disk.sectors c.args.disk.now)) stays c.requires.stands.map_room;
      can = subst (λ (l : Layout). CanWriteOn l (g.D.Disk.sectors c.args.disk.now) p.ready) stays
          ((plain g (goal.at.write_given-requires-clause-writable g c).After-places_suffice).can_write p (g.D.Disk.sectors c.args.disk.now) c.in_ok-change.ensures.ready c.requires.stands.room);
      known = still_known was mid p.change c.in_ok-change.ensures.admitted (g.D.Disk.bytes c.args.disk.now) c.requires.stands.copies;
    }

pub write_given-requires-clause-source : goal.write_given-requires-clause-source
write_given-requires-clause-source g c = given_source (parts_of c.args.holdings.now) c.args.job.now c.args.name.now c.in_ok-change.field-0 c.in_ok-change.ensures.ready c.requires.file

-- the bytes that were given, and zeros
abbrev bytes_now : (g : Over) → After-write_given g → List ℕ
bytes_now g c = filled (g.B.Supply.total c.args.from.now) (g.B.Supply.given c.write_given.new.from)

whole_long : (g : Over) (c : After-write_given g) → length (bytes_now g c) ≡ g.B.Supply.total c.args.from.now
whole_long g c =
    let most = g.met.B.Supply.within c.write_given.new.from in
    filled_long (g.B.Supply.total c.args.from.now) (g.B.Supply.given c.write_given.new.from) (omega (arith, most, c.write_given.ensures.supply.total))

left : (g : Over) (c : After-write_given g) → StopsAndExitsLeave g.D.Disk c.args.disk.now c.write_given.new.disk (ChangeLeavesOn (layout_of c.args.holdings.now.places) c.in_ok-change.field-0.ready (g.B.Supply.given c.write_given.new.from))
left g c =
    subst (λ (l : Layout). StopsAndExitsLeave g.D.Disk c.args.disk.now c.write_given.new.disk (ChangeLeavesOn l c.in_ok-change.field-0.ready (g.B.Supply.given c.write_given.new.from)))
    (layout_stays c.args.holdings.now c.make_ready.new.holdings c.in_ok-change.field-0.change c.in_ok-change.ensures.admitted) c.write_given.ensures.keeps

left_whole : (g : Over) (c : After-write_given g) → StopsAndExitsLeave g.D.Disk c.args.disk.now c.write_given.new.disk (ChangeLeavesOn (layout_of c.args.holdings.now.places) c.in_ok-change.field-0.ready (bytes_now g c))
left_whole g c =
    keeps_weaker (laws g.met.D.Disk) (left g c)
    (λ was image leaves. leaves_filled (layout_of c.args.holdings.now.places) c.in_ok-change.field-0.ready (g.B.Supply.total c.args.from.now) (g.B.Supply.given c.write_given.new.from) was image leaves)

pub returns-in-Err-clause-refused : goal.returns-in-Err-clause-refused
returns-in-Err-clause-refused g c = λ cmd bytes long j.
    let h = parts_of c.args.holdings.now in
    subst (λ (e : GivenError). AnswersShort cmd h (as_held (Err e))) (sym c.from.ensures)
    (faulted cmd h c.in-Err.fault
    (faults c.requires.stands.agree.0 h c.args.job.now c.args.name.now bytes (its_laws g (goal.at.returns-in-Err-clause-refused g c).After-places_suffice bytes long) cmd j c.in_ok-change.field-0 c.in_ok-change.ensures.ready))

pub returns-in-Err-clause-places : goal.returns-in-Err-clause-places
returns-in-Err-clause-places g c = λ cmd j.
    let at = goal.at.returns-in-Err-clause-places g c in let w = at.After-write_given in
    written g.D.Disk (laws g.met.D.Disk) c.args.holdings.now c.args.disk.now c.write_given.new.disk c.args.job.now c.args.name.now (bytes_now g w) c.requires.stands c.is_map.ensures
    (its_laws g at.After-places_suffice (bytes_now g w) (whole_long g w)) c.in_ok-change.field-0 c.in_ok-change.ensures.ready (left_whole g w) cmd j

pub returns-in-Err-clause-leaves : goal.returns-in-Err-clause-leaves
returns-in-Err-clause-leaves g c =
    let w = (goal.at.returns-in-Err-clause-leaves g c).After-write_given in
    leaves_written g.D.Disk (laws g.met.D.Disk) c.args.holdings.now c.args.job.now c.args.name.now (g.B.Supply.given c.write_given.new.from) c.args.disk.now c.write_given.new.disk c.in_ok-change.field-0 c.is_map.ensures
    c.in_ok-change.ensures.ready (left g w)

pub returns-in-Err-clause-stopped : goal.returns-in-Err-clause-stopped
returns-in-Err-clause-stopped g c = λ e.
    let was = c.args.holdings.now in let p = c.in_ok-change.field-0 in
    let supply = supply_of c.in-Err.fault c.from.result c.from.ensures e in
    let begun = (c.in-Err.ensures.stopped (ap (λ (f : ImportFault). let r : Result (Unit {0}) ImportFault = Err f in r) supply)).0 in
    keeps_weaker (laws g.met.D.Disk)
    (subst (λ (l : Layout). StopsAndExitsLeave g.D.Disk c.args.disk.now c.write_given.new.disk (IsBegun (sector_bytes l) p.ready (g.B.Supply.given c.write_given.new.from)))
    (layout_stays was c.make_ready.new.holdings p.change c.in_ok-change.ensures.admitted) begun)
    (λ first image some. filling (parts_of was) c.args.job.now c.args.name.now p c.in_ok-change.ensures.ready c.requires.file (g.B.Supply.given c.write_given.new.from) first image some)

pub returns-in-Err-clause-alike : goal.returns-in-Err-clause-alike
returns-in-Err-clause-alike g c = λ e.
    let was = c.args.holdings.now in let p = c.in_ok-change.field-0 in
    let total = g.B.Supply.total c.args.from.now in
    let supply = supply_of c.in-Err.fault c.from.result c.from.ensures e in
    let job = c.requires.judged (replicate total 0) (length-replicate total 0) in
    still_alike g.D.Disk (laws g.met.D.Disk) c.reads_back.ensures was c.args.disk.now c.write_given.new.disk c.args.job.now c.args.name.now p c.in_ok-change.ensures.ready job.0 (replicate total 0) (g.B.Supply.given c.write_given.new.from) c.requires.file
    c.is_map.ensures c.requires.stands ((plain g (goal.at.returns-in-Err-clause-alike g c).After-places_suffice).can_write p (g.D.Disk.sectors c.args.disk.now) c.in_ok-change.ensures.ready c.requires.stands.room) job.1
    (subst (λ (l : Layout). StopsAndExitsLeave g.D.Disk c.args.disk.now c.write_given.new.disk (IsBegun (sector_bytes l) p.ready (g.B.Supply.given c.write_given.new.from)))
    (layout_stays was c.make_ready.new.holdings p.change c.in_ok-change.ensures.admitted) (c.in-Err.ensures.stopped (ap (λ (f : ImportFault). let r : Result (Unit {0}) ImportFault = Err f in r) supply)).0)

pub returns-in-Err-clause-keeps : goal.returns-in-Err-clause-keeps
returns-in-Err-clause-keeps g c =
    let was = c.args.holdings.now in let p = c.in_ok-change.field-0 in let mid = c.make_ready.new.holdings in
    let admitted = c.in_ok-change.ensures.admitted in
    let total = g.B.Supply.total c.args.from.now in
    let now : Holdings = record { tree = mid.tree; places = c.write_given.new.places; owners = c.take_back.new.owners; copies = mid.copies } in
    let stays = layout_stays was mid p.change admitted in
    let more = one_admitted (layout_of was.places) p.change.object (next_number was.tree) was.owners in
    let job = c.requires.judged (replicate total 0) (length-replicate total 0) in
    let can = (plain g (goal.at.returns-in-Err-clause-keeps g c).After-places_suffice).can_write p (g.D.Disk.sectors c.args.disk.now) c.in_ok-change.ensures.ready c.requires.stands.room in
    subst (λ (e : GivenError). GivenKeeps g.D.Disk g.B.Supply c.args.disk.now c.write_given.new.disk c.args.from.now c.write_given.new.from was now (Err e)) (sym c.from.ensures)
    (given_broken g.D.Disk g.B.Supply c.args.disk.now c.write_given.new.disk c.args.from.now c.write_given.new.from was now c.in-Err.fault
    (subst (λ (l : Layout). IsSameKind l (layout_of now.places)) stays c.write_given.ensures.kind)
    c.write_given.ensures.form c.write_given.ensures.supply c.in-Err.ensures.causes
    (λ supply.
    let failed = ap (λ (f : ImportFault). let r : Result (Unit {0}) ImportFault = Err f in r) supply in
    let places = (c.in-Err.ensures.stopped failed).1 ∙ admitted.places in (
      still_stands g.D.Disk (laws g.met.D.Disk) c.reads_back.ensures was c.args.disk.now c.write_given.new.disk c.args.job.now c.args.name.now p c.in_ok-change.ensures.ready job.0 (replicate total 0) (g.B.Supply.given c.write_given.new.from) c.requires.file
          c.is_map.ensures c.requires.stands can job.1
          (subst (λ (l : Layout). StopsAndExitsLeave g.D.Disk c.args.disk.now c.write_given.new.disk (IsBegun (sector_bytes l) p.ready (g.B.Supply.given c.write_given.new.from))) stays (c.in-Err.ensures.stopped failed).0)
          now places admitted.copies (nodes_stay was mid p.change admitted) (c.take_back.ensures was.owners more.more (ap length (sym c.list-owners.ensures.same)) (admitted.owners ∙ more.is) more.few) c.write_given.ensures.form,
      ap (λ (s : Space). dir_form (layout_of s)) places,
    )))

-- ---- taken over

pub take_over-requires : goal.take_over-requires
take_over-requires g c =
    let was = c.args.holdings.now in let p = c.in_ok-change.field-0 in let mid = c.make_ready.new.holdings in
    can_take_over was mid p.change c.in_ok-change.ensures.admitted (layout_of c.write_given.new.places) mid.tree.room
    ((plain g (goal.at.take_over-requires g c).After-places_suffice).can_take p (layout_of c.write_given.new.places) (next_number was.tree) mid.tree.room c.in_ok-change.ensures.ready
    (subst (λ (l : Layout). IsGivenOn l p.ready (layout_of c.write_given.new.places)) (layout_stays was mid p.change c.in_ok-change.ensures.admitted) c.in-Ok.ensures.map)
    (room_made was mid p.change c.in_ok-change.ensures.admitted))

pub returns-in-Ok-clause-refused : goal.returns-in-Ok-clause-refused
returns-in-Ok-clause-refused g c = λ cmd bytes long j.
    accepts c.requires.stands.agree.0 (parts_of c.args.holdings.now) c.args.job.now c.args.name.now bytes (its_laws g (goal.at.returns-in-Ok-clause-refused g c).After-places_suffice bytes long) cmd j
    c.in_ok-change.field-0 c.in_ok-change.ensures.ready

pub returns-in-Ok-clause-places : goal.returns-in-Ok-clause-places
returns-in-Ok-clause-places g c = λ cmd j.
    let at = goal.at.returns-in-Ok-clause-places g c in let w = at.After-write_given in
    written g.D.Disk (laws g.met.D.Disk) c.args.holdings.now c.args.disk.now c.write_given.new.disk c.args.job.now c.args.name.now (bytes_now g w) c.requires.stands c.is_map.ensures
    (its_laws g at.After-places_suffice (bytes_now g w) (whole_long g w)) c.in_ok-change.field-0 c.in_ok-change.ensures.ready (left_whole g w) cmd j

pub returns-in-Ok-clause-leaves : goal.returns-in-Ok-clause-leaves
returns-in-Ok-clause-leaves g c =
    let w = (goal.at.returns-in-Ok-clause-leaves g c).After-write_given in
    leaves_written g.D.Disk (laws g.met.D.Disk) c.args.holdings.now c.args.job.now c.args.name.now (g.B.Supply.given c.write_given.new.from) c.args.disk.now c.write_given.new.disk c.in_ok-change.field-0 c.is_map.ensures
    c.in_ok-change.ensures.ready (left g w)

pub returns-in-Ok-clause-changed : goal.returns-in-Ok-clause-changed
returns-in-Ok-clause-changed g c = λ cmd j.
    let at = goal.at.returns-in-Ok-clause-changed g c in
    let was = c.args.holdings.now in let p = c.in_ok-change.field-0 in let mid = c.make_ready.new.holdings in let given = g.B.Supply.given c.write_given.new.from in
    let now : Holdings = record { tree = c.take_over.new.tree; places = c.write_given.new.places; owners = c.take_over.new.owners; copies = Equal } in
    let stays = layout_stays was mid p.change c.in_ok-change.ensures.admitted in
    let run = run_is was mid now p c.in_ok-change.ensures.admitted c.in-Ok.ensures.map c.take_over.ensures.nodes c.take_over.ensures.owners in
    has_changed g.D.Disk (laws g.met.D.Disk) was c.args.disk.now c.write_given.new.disk c.args.job.now c.args.name.now given c.requires.stands c.is_map.ensures (its_laws g at.After-places_suffice given c.in-Ok.ensures.all) p
    c.in_ok-change.ensures.ready (left g at.After-write_given) now (next_number was.tree) run
    (λ first told_first image told. subst (λ (l : Layout). IsChangedOn l (layout_of c.write_given.new.places) p.ready given first image) stays (c.in-Ok.ensures.done first told_first image told)) cmd j

pub returns-in-Ok-clause-keeps : goal.returns-in-Ok-clause-keeps
returns-in-Ok-clause-keeps g c =
    let at = goal.at.returns-in-Ok-clause-keeps g c in
    let d = g.D.Disk in let was = c.args.holdings.now in let p = c.in_ok-change.field-0 in let mid = c.make_ready.new.holdings in let given = g.B.Supply.given c.write_given.new.from in
    let old = c.args.disk.now in let new = c.write_given.new.disk in let job = c.args.job.now in let name = c.args.name.now in
    let now : Holdings = record { tree = c.take_over.new.tree; places = c.write_given.new.places; owners = c.take_over.new.owners; copies = Equal } in
    let jl = its_laws g at.After-places_suffice given c.in-Ok.ensures.all in
    let keeps = left g at.After-write_given in
    let stays = layout_stays was mid p.change c.in_ok-change.ensures.admitted in
    let run = run_is was mid now p c.in_ok-change.ensures.admitted c.in-Ok.ensures.map c.take_over.ensures.nodes c.take_over.ensures.owners in
    let done : ForSome (d.bytes old) (λ first. ForSome (d.bytes new) (IsChangedOn (layout_of was.places) (layout_of now.places) p.ready given first)) =
    λ first told_first image told. subst (λ (l : Layout). IsChangedOn l (layout_of c.write_given.new.places) p.ready given first image) stays (c.in-Ok.ensures.done first told_first image told) in
    let judged = c.requires.judged given c.in-Ok.ensures.all in
    let answer : Result (Unit {0}) ImportFault = Ok tt in
    given_done d g.B.Supply old new c.args.from.now c.write_given.new.from was now answer
    (stands_now d (laws g.met.D.Disk) was old new job name given c.requires.stands c.is_map.ensures jl p c.in_ok-change.ensures.ready keeps now (next_number was.tree) run done judged.0 judged.1 refl c.write_given.ensures.form)
    c.in-Ok.ensures.durable (subst (λ (l : Layout). IsSameKind l (layout_of now.places)) stays c.write_given.ensures.kind)
    (same_form d (laws g.met.D.Disk) was old new job name given c.requires.stands c.is_map.ensures jl p c.in_ok-change.ensures.ready keeps now (next_number was.tree) run done)
    c.write_given.ensures.form c.write_given.ensures.supply c.in-Ok.ensures.causes
