use Rattle.std.proofs.Common.{◌≡◌, sym, ap, subst, refl, ◌∙◌}
use Rattle.std.proofs.lemmas.Result.{err_from_is_err_and}
use Rattle.std.specs.Prelude.{Err, Result}
use Rattle.std.specs.Option.{ForSome}
use Rattle.fc_device.proofs.DiskLaws.{laws}
use Rattle.fc_image.specs.Layout.{Layout, sector_bytes}
use Rattle.fc_space.specs.declared.space.Space.TheVariants.{NewMapped}
use Rattle.fc_space.specs.Space.{layout_of}
use Rattle.fc_tree.specs.Nodes.{next_number}
use Rattle.fc_writing.specs.declared.copies.Copies.{Copies}
use Rattle.fc_writing.specs.declared.copies.Copies.TheVariants.{Equal}
use Rattle.fc_writing.specs.Copies.{HasCopies}
use Rattle.fc_holdings.specs.declared.holdings.Holdings.{Holdings}
use Rattle.fc_holdings.specs.Holdings.{HoldsMap, parts_of}
use Rattle.fc_commands.specs.Written.{IsGivenOn}
use Rattle.fc_commands.proofs.AdmitLemmas.{can_take_over, layout_stays, room_made, run_is}
use Rattle.fc_safe.specs.declared.error.SafeError.{SafeError}
use Rattle.fc_safecommands.specs.JobAnswers.{AnswersSafeOver}
use Rattle.fc_safecommands.proofs.CourseLemmas.{accepts, faults, free_kept, free_left, has_changed, kept_done, refuses, tree_kept, tree_left}
use Rattle.fc_safecommands.proofs.HeldLemmas.{known_by, laws_for, map_in, taken_by}
use Rattle.fc_safecommands.proofs.course.transact.Goals as goal

pub make_ready-requires-clause-new : goal.make_ready-requires-clause-new
make_ready-requires-clause-new g c = let h = parts_of c.args.holdings.now in map_in h.layout h.nodes c.requires.suits

pub make_ready-requires-clause-can : goal.make_ready-requires-clause-can
make_ready-requires-clause-can g c = λ m at.
    (laws_for g.D.Disk c.args.holdings.now c.args.disk.now c.safe_jobs.ensures c.requires.stands c.is_map.ensures c.requires.suits c.args.job.now c.args.name.now c.args.bytes.now c.requires.covered c.requires.judged m at).can_prepare

-- ---- refused, or no memory

pub returns-in_err-change-clause-refused : goal.returns-in_err-change-clause-refused
returns-in_err-change-clause-refused g c = λ cmd j.
    let d = g.D.Disk in let was = c.args.holdings.now in let h = parts_of was in let job = c.args.job.now in let name = c.args.name.now in let bytes = c.args.bytes.now in
    let map = map_in h.layout h.nodes c.requires.suits in
    let jl = laws_for d was c.args.disk.now c.safe_jobs.ensures c.requires.stands c.is_map.ensures c.requires.suits job name bytes c.requires.covered c.requires.judged map.0 map.1 in
    let p = err_from_is_err_and c.from_residual.result c.from_residual.ensures.1 in
    subst (λ (r : Result (Unit {0}) SafeError). AnswersSafeOver cmd h r) (sym (p.1 ∙ ap (λ (e : SafeError). let r : Result (Unit {0}) SafeError = Err e in r) p.2))
    (refuses c.requires.stands.agree.0 map.0 h job name bytes jl cmd j c.in_err-change.field-0.0 (c.in_err-change.ensures.refused map.0 map.1))

pub returns-in_err-change-clause-tree : goal.returns-in_err-change-clause-tree
returns-in_err-change-clause-tree g c = λ cmd j. tree_kept g.D.Disk (laws g.met.D.Disk) (parts_of c.args.holdings.now) cmd c.args.disk.now c.requires.settled

pub returns-in_err-change-clause-free : goal.returns-in_err-change-clause-free
returns-in_err-change-clause-free g c =
    let h = parts_of c.args.holdings.now in
    let map = map_in h.layout h.nodes c.requires.suits in free_kept g.D.Disk (laws g.met.D.Disk) h map.0 c.args.disk.now map.1 c.requires.settled

-- ---- written

pub write_new-requires-clause-size : goal.write_new-requires-clause-size
write_new-requires-clause-size g c =
    let was = c.args.holdings.now in let p = c.in_ok-change.field-0 in let mid = c.make_ready.new.holdings in
    let at : layout_of was.places ≡ Layout.New c.in-NewMapped.map = sym (layout_stays was mid p.change c.in_ok-change.ensures.admitted) ∙ ap layout_of (sym c.edit.ensures.value ∙ c.in-NewMapped.is) in
    c.requires.stands.size ∙ ap sector_bytes at

pub write_new-requires-clause-on_disk : goal.write_new-requires-clause-on_disk
write_new-requires-clause-on_disk g c =
    let was = c.args.holdings.now in let p = c.in_ok-change.field-0 in let mid = c.make_ready.new.holdings in
    let at : layout_of was.places ≡ Layout.New c.in-NewMapped.map = sym (layout_stays was mid p.change c.in_ok-change.ensures.admitted) ∙ ap layout_of (sym c.edit.ensures.value ∙ c.in-NewMapped.is) in
    subst (λ (l : Layout). HoldsMap l (g.D.Disk.sectors c.args.disk.now)) at c.requires.stands.map_room

pub write_new-requires-clause-can : goal.write_new-requires-clause-can
write_new-requires-clause-can g c =
    let d = g.D.Disk in let was = c.args.holdings.now in let job = c.args.job.now in let name = c.args.name.now in let bytes = c.args.bytes.now in
    let p = c.in_ok-change.field-0 in let mid = c.make_ready.new.holdings in
    let at : layout_of was.places ≡ Layout.New c.in-NewMapped.map = sym (layout_stays was mid p.change c.in_ok-change.ensures.admitted) ∙ ap layout_of (sym c.edit.ensures.value ∙ c.in-NewMapped.is) in
    let jl = laws_for d was c.args.disk.now c.safe_jobs.ensures c.requires.stands c.is_map.ensures c.requires.suits job name bytes c.requires.covered c.requires.judged c.in-NewMapped.map at in
    jl.can_write p (d.sectors c.args.disk.now) (c.in_ok-change.ensures.ready c.in-NewMapped.map at) c.requires.stands.room

pub write_new-requires-clause-known : goal.write_new-requires-clause-known
write_new-requires-clause-known g c =
    let d = g.D.Disk in let was = c.args.holdings.now in let p = c.in_ok-change.field-0 in let mid = c.make_ready.new.holdings in
    let at : layout_of was.places ≡ Layout.New c.in-NewMapped.map = sym (layout_stays was mid p.change c.in_ok-change.ensures.admitted) ∙ ap layout_of (sym c.edit.ensures.value ∙ c.in-NewMapped.is) in
    subst (λ (k : Copies). ForSome (d.bytes c.args.disk.now) (HasCopies k c.in-NewMapped.map)) (sym c.in_ok-change.ensures.admitted.copies)
    (known_by (layout_of was.places) c.in-NewMapped.map was.copies (d.bytes c.args.disk.now) at c.requires.stands.copies)

pub returns-in-Err-clause-refused : goal.returns-in-Err-clause-refused
returns-in-Err-clause-refused g c = λ cmd j.
    let d = g.D.Disk in let was = c.args.holdings.now in let job = c.args.job.now in let name = c.args.name.now in let bytes = c.args.bytes.now in
    let p = c.in_ok-change.field-0 in let mid = c.make_ready.new.holdings in
    let at : layout_of was.places ≡ Layout.New c.in-NewMapped.map = sym (layout_stays was mid p.change c.in_ok-change.ensures.admitted) ∙ ap layout_of (sym c.edit.ensures.value ∙ c.in-NewMapped.is) in
    let jl = laws_for d was c.args.disk.now c.safe_jobs.ensures c.requires.stands c.is_map.ensures c.requires.suits job name bytes c.requires.covered c.requires.judged c.in-NewMapped.map at in
    faults c.requires.stands.agree.0 c.in-NewMapped.map (parts_of was) job name bytes jl cmd j p (c.in_ok-change.ensures.ready c.in-NewMapped.map at)

pub returns-in-Err-clause-tree : goal.returns-in-Err-clause-tree
returns-in-Err-clause-tree g c = λ cmd j.
    let d = g.D.Disk in let was = c.args.holdings.now in let job = c.args.job.now in let name = c.args.name.now in let bytes = c.args.bytes.now in
    let p = c.in_ok-change.field-0 in let mid = c.make_ready.new.holdings in
    let at : layout_of was.places ≡ Layout.New c.in-NewMapped.map = sym (layout_stays was mid p.change c.in_ok-change.ensures.admitted) ∙ ap layout_of (sym c.edit.ensures.value ∙ c.in-NewMapped.is) in
    let jl = laws_for d was c.args.disk.now c.safe_jobs.ensures c.requires.stands c.is_map.ensures c.requires.suits job name bytes c.requires.covered c.requires.judged c.in-NewMapped.map at in
    tree_left d (laws g.met.D.Disk) (parts_of was) c.in-NewMapped.map at c.args.disk.now c.write_new.new.disk job name bytes c.requires.stands.agree.0 c.crash.ensures jl p
    (c.in_ok-change.ensures.ready c.in-NewMapped.map at) c.write_new.ensures.keeps cmd j

pub returns-in-Err-clause-free : goal.returns-in-Err-clause-free
returns-in-Err-clause-free g c =
    let d = g.D.Disk in let was = c.args.holdings.now in let job = c.args.job.now in let name = c.args.name.now in let bytes = c.args.bytes.now in
    let p = c.in_ok-change.field-0 in let mid = c.make_ready.new.holdings in
    let at : layout_of was.places ≡ Layout.New c.in-NewMapped.map = sym (layout_stays was mid p.change c.in_ok-change.ensures.admitted) ∙ ap layout_of (sym c.edit.ensures.value ∙ c.in-NewMapped.is) in
    let jl = laws_for d was c.args.disk.now c.safe_jobs.ensures c.requires.stands c.is_map.ensures c.requires.suits job name bytes c.requires.covered c.requires.judged c.in-NewMapped.map at in
    free_left d (laws g.met.D.Disk) (parts_of was) c.in-NewMapped.map at c.args.disk.now c.write_new.new.disk job name bytes c.requires.stands.agree.0 c.crash.ensures jl p
    (c.in_ok-change.ensures.ready c.in-NewMapped.map at) c.write_new.ensures.keeps c.requires.judged.0 c.requires.judged.1

-- ---- taken over

pub take_over-requires : goal.take_over-requires
take_over-requires g c =
    let d = g.D.Disk in let was = c.args.holdings.now in let job = c.args.job.now in let name = c.args.name.now in let bytes = c.args.bytes.now in
    let p = c.in_ok-change.field-0 in let mid = c.make_ready.new.holdings in
    let m = c.in-NewMapped.map in
    let m' = c.write_new.new.map in
    let at : layout_of was.places ≡ Layout.New m = sym (layout_stays was mid p.change c.in_ok-change.ensures.admitted) ∙ ap layout_of (sym c.edit.ensures.value ∙ c.in-NewMapped.is) in
    let jl = laws_for d was c.args.disk.now c.safe_jobs.ensures c.requires.stands c.is_map.ensures c.requires.suits job name bytes c.requires.covered c.requires.judged m at in
    let prep = c.in_ok-change.ensures.ready m at in
    can_take_over was mid p.change c.in_ok-change.ensures.admitted (Layout.New m') mid.tree.room
    (jl.can_take p m' (next_number was.tree) mid.tree.room prep (taken_by m m' (parts_of was) job name p prep c.in-Ok.ensures.given) (room_made was mid p.change c.in_ok-change.ensures.admitted))

pub returns-in-Ok-clause-refused : goal.returns-in-Ok-clause-refused
returns-in-Ok-clause-refused g c = λ cmd j.
    let d = g.D.Disk in let was = c.args.holdings.now in let job = c.args.job.now in let name = c.args.name.now in let bytes = c.args.bytes.now in
    let p = c.in_ok-change.field-0 in let mid = c.make_ready.new.holdings in
    let m = c.in-NewMapped.map in
    let at : layout_of was.places ≡ Layout.New m = sym (layout_stays was mid p.change c.in_ok-change.ensures.admitted) ∙ ap layout_of (sym c.edit.ensures.value ∙ c.in-NewMapped.is) in
    let jl = laws_for d was c.args.disk.now c.safe_jobs.ensures c.requires.stands c.is_map.ensures c.requires.suits job name bytes c.requires.covered c.requires.judged m at in
    accepts c.requires.stands.agree.0 m (parts_of was) job name bytes jl cmd j p (c.in_ok-change.ensures.ready m at)

pub returns-in-Ok-clause-tree : goal.returns-in-Ok-clause-tree
returns-in-Ok-clause-tree g c = λ cmd j.
    let d = g.D.Disk in let was = c.args.holdings.now in let job = c.args.job.now in let name = c.args.name.now in let bytes = c.args.bytes.now in
    let p = c.in_ok-change.field-0 in let mid = c.make_ready.new.holdings in
    let m = c.in-NewMapped.map in
    let at : layout_of was.places ≡ Layout.New m = sym (layout_stays was mid p.change c.in_ok-change.ensures.admitted) ∙ ap layout_of (sym c.edit.ensures.value ∙ c.in-NewMapped.is) in
    let jl = laws_for d was c.args.disk.now c.safe_jobs.ensures c.requires.stands c.is_map.ensures c.requires.suits job name bytes c.requires.covered c.requires.judged m at in
    tree_left d (laws g.met.D.Disk) (parts_of was) m at c.args.disk.now c.write_new.new.disk job name bytes c.requires.stands.agree.0 c.crash.ensures jl p
    (c.in_ok-change.ensures.ready m at) c.write_new.ensures.keeps cmd j

pub returns-in-Ok-clause-free : goal.returns-in-Ok-clause-free
returns-in-Ok-clause-free g c =
    let d = g.D.Disk in let was = c.args.holdings.now in let job = c.args.job.now in let name = c.args.name.now in let bytes = c.args.bytes.now in
    let p = c.in_ok-change.field-0 in let mid = c.make_ready.new.holdings in
    let m = c.in-NewMapped.map in
    let at : layout_of was.places ≡ Layout.New m = sym (layout_stays was mid p.change c.in_ok-change.ensures.admitted) ∙ ap layout_of (sym c.edit.ensures.value ∙ c.in-NewMapped.is) in
    let jl = laws_for d was c.args.disk.now c.safe_jobs.ensures c.requires.stands c.is_map.ensures c.requires.suits job name bytes c.requires.covered c.requires.judged m at in
    free_left d (laws g.met.D.Disk) (parts_of was) m at c.args.disk.now c.write_new.new.disk job name bytes c.requires.stands.agree.0 c.crash.ensures jl p
    (c.in_ok-change.ensures.ready m at) c.write_new.ensures.keeps c.requires.judged.0 c.requires.judged.1

pub returns-in-Ok-clause-changed : goal.returns-in-Ok-clause-changed
returns-in-Ok-clause-changed g c = λ cmd j.
    let d = g.D.Disk in let was = c.args.holdings.now in let job = c.args.job.now in let name = c.args.name.now in let bytes = c.args.bytes.now in
    let p = c.in_ok-change.field-0 in let mid = c.make_ready.new.holdings in
    let m = c.in-NewMapped.map in
    let m' = c.write_new.new.map in
    let at_mid : layout_of mid.places ≡ Layout.New m = ap layout_of (sym c.edit.ensures.value ∙ c.in-NewMapped.is) in
    let at : layout_of was.places ≡ Layout.New m = sym (layout_stays was mid p.change c.in_ok-change.ensures.admitted) ∙ at_mid in
    let now : Holdings = record { tree = c.take_over.new.tree; places = NewMapped m'; owners = c.take_over.new.owners; copies = Equal } in
    let jl = laws_for d was c.args.disk.now c.safe_jobs.ensures c.requires.stands c.is_map.ensures c.requires.suits job name bytes c.requires.covered c.requires.judged m at in
    let run = run_is was mid now p c.in_ok-change.ensures.admitted (subst (λ (l : Layout). IsGivenOn l p.ready (Layout.New m')) (sym at_mid) c.in-Ok.ensures.given) c.take_over.ensures.nodes c.take_over.ensures.owners in
    has_changed d (laws g.met.D.Disk) (parts_of was) m at c.args.disk.now c.write_new.new.disk job name bytes c.requires.stands.agree.0 c.crash.ensures jl p
    (c.in_ok-change.ensures.ready m at) c.write_new.ensures.keeps (parts_of now) m' refl (next_number was.tree) run c.in-Ok.ensures.given c.in-Ok.ensures.done cmd j

pub returns-in-Ok-clause-keeps : goal.returns-in-Ok-clause-keeps
returns-in-Ok-clause-keeps g c =
    let d = g.D.Disk in let was = c.args.holdings.now in let job = c.args.job.now in let name = c.args.name.now in let bytes = c.args.bytes.now in
    let p = c.in_ok-change.field-0 in let mid = c.make_ready.new.holdings in
    let m = c.in-NewMapped.map in
    let m' = c.write_new.new.map in
    let at_mid : layout_of mid.places ≡ Layout.New m = ap layout_of (sym c.edit.ensures.value ∙ c.in-NewMapped.is) in
    let at : layout_of was.places ≡ Layout.New m = sym (layout_stays was mid p.change c.in_ok-change.ensures.admitted) ∙ at_mid in
    let now : Holdings = record { tree = c.take_over.new.tree; places = NewMapped m'; owners = c.take_over.new.owners; copies = Equal } in
    let jl = laws_for d was c.args.disk.now c.safe_jobs.ensures c.requires.stands c.is_map.ensures c.requires.suits job name bytes c.requires.covered c.requires.judged m at in
    let run = run_is was mid now p c.in_ok-change.ensures.admitted (subst (λ (l : Layout). IsGivenOn l p.ready (Layout.New m')) (sym at_mid) c.in-Ok.ensures.given) c.take_over.ensures.nodes c.take_over.ensures.owners in
    kept_done d was now m m' at refl c.args.disk.now c.write_new.new.disk job name bytes c.requires.stands c.is_map.ensures jl p (c.in_ok-change.ensures.ready m at) c.write_new.ensures.keeps
    (next_number was.tree) run c.in-Ok.ensures.given c.in-Ok.ensures.done c.requires.judged.0 c.requires.judged.1 refl c.in-Ok.ensures.durable c.write_new.ensures.form c.write_new.ensures.cause.later
