use Rattle.std.proofs.Common.{◌≡◌, ◌+◌, ◌∷◌, List, Ok, Err, Some, true, take, drop, sym, subst, arith}
use Rattle.std.specs.Prelude.{IsSome}
use Rattle.std.proofs.lemmas.List.{take_all}
use Rattle.fc_device.proofs.DiskLaws.{laws}
use Rattle.fc_device.proofs.StopLemmas.{reads_then}
use Rattle.fc_names.specs.declared.name.NameForm.{NameForm}
use Rattle.fc_names.specs.Names.{Path}
use Rattle.fc_image.specs.Layout.{dir_form}
use Rattle.fc_tree.specs.Nodes.{nodes_of}
use Rattle.fc_fit.specs.Found.{node_in}
use Rattle.fc_volume.specs.Volume.{parts_of}
use Rattle.fc_convert.specs.declared.ending.ConvertEnd.TheVariants as ends
use Rattle.fc_convert.specs.Copying.{AreCopied, FitsAt}
use Rattle.fc_convert.proofs.CopyLemmas.{IsAt, at_start, ends_by, from_by, goes_by, keeps_by, leads, open_read, path_cut, path_has, path_more, same_end, to_by}
use Rattle.fc_convert.proofs.copying.copy_objects.Goals as goal

pub loop-path-init : goal.loop-path-init
loop-path-init g c = at_start (laws g.met.D.Disk) (laws g.met.E.Disk) c.args.source.now c.args.from.now c.args.target.now c.args.to.now c.requires.target

pub copy_object-requires-clause-source : goal.copy_object-requires-clause-source
copy_object-requires-clause-source g c = open_read g.D.Disk true c.args.source.now c.args.from.now c.loop-path.from c.loop-path.invariant.reads c.requires.source

pub copy_object-requires-clause-target : goal.copy_object-requires-clause-target
copy_object-requires-clause-target g c = c.loop-path.invariant.ready

pub copy_object-requires-clause-there : goal.copy_object-requires-clause-there
copy_object-requires-clause-there g c =
    path_has c.args.paths.now c.loop-path.path-index c.path-item.result c.loop-path-test.true c.path-item.is (λ (p : Path). IsSome (node_in (nodes_of c.args.source.now.tree) p)) c.requires.there

pub copy_object-requires-clause-form : goal.copy_object-requires-clause-form
copy_object-requires-clause-form g c =
    subst (λ (f : NameForm). FitsAt f c.args.source.now c.path-item.result) (sym c.loop-path.invariant.dirs)
    (path_has c.args.paths.now c.loop-path.path-index c.path-item.result c.loop-path-test.true c.path-item.is (FitsAt (dir_form (parts_of c.args.target.now).layout) c.args.source.now) c.requires.form)

pub returns-in-Err-clause-copied : goal.returns-in-Err-clause-copied
returns-in-Err-clause-copied g c =
    let i = c.loop-path.path-index in
    let paths = c.args.paths.now in
    let path = c.path-item.result in
    let low = c.loop-path-test.true in
    let node = leads (node_in (nodes_of c.args.source.now.tree) path) (path_has paths i path low c.path-item.is (λ (p : Path). IsSome (node_in (nodes_of c.args.source.now.tree) p)) c.requires.there) in
    ends_by (laws g.met.D.Disk) (laws g.met.E.Disk) c.args.source.now c.args.from.now c.loop-path.from c.copy_object.new.from c.args.target.now c.loop-path.target c.copy_object.new.target c.args.to.now
    c.loop-path.to c.copy_object.new.to (take i paths) path node.0 node.1 c.loop-path.invariant c.in-Err.ensures.reads c.in-Err.error c.end_of.result paths (drop (i + 1) paths)
    (path_cut paths i path low c.path-item.is) c.in-Err.ensures.made c.end_of.ensures

pub returns-in-Err-clause-keeps : goal.returns-in-Err-clause-keeps
returns-in-Err-clause-keeps g c =
    let i = c.loop-path.path-index in
    let paths = c.args.paths.now in
    let path = c.path-item.result in
    let low = c.loop-path-test.true in
    let node = leads (node_in (nodes_of c.args.source.now.tree) path) (path_has paths i path low c.path-item.is (λ (p : Path). IsSome (node_in (nodes_of c.args.source.now.tree) p)) c.requires.there) in
    keeps_by (laws g.met.D.Disk) (laws g.met.E.Disk) c.args.source.now c.args.from.now c.loop-path.from c.copy_object.new.from c.args.target.now c.loop-path.target c.copy_object.new.target c.args.to.now
    c.loop-path.to c.copy_object.new.to (take i paths) path node.0 node.1 c.loop-path.invariant c.in-Err.ensures.reads c.in-Err.error c.end_of.result c.in-Err.ensures.keeps c.end_of.ensures

pub returns-in-Err-clause-reads : goal.returns-in-Err-clause-reads
returns-in-Err-clause-reads g c = reads_then (laws g.met.D.Disk) c.loop-path.invariant.reads c.in-Err.ensures.reads

pub returns-in-Err-clause-from_fault : goal.returns-in-Err-clause-from_fault
returns-in-Err-clause-from_fault g c is =
    let i = c.loop-path.path-index in
    let paths = c.args.paths.now in
    let path = c.path-item.result in
    let low = c.loop-path-test.true in
    let node = leads (node_in (nodes_of c.args.source.now.tree) path) (path_has paths i path low c.path-item.is (λ (p : Path). IsSome (node_in (nodes_of c.args.source.now.tree) p)) c.requires.there) in
    from_by (laws g.met.D.Disk) (laws g.met.E.Disk) c.args.source.now c.args.from.now c.loop-path.from c.copy_object.new.from c.args.target.now c.loop-path.target c.copy_object.new.target c.args.to.now
    c.loop-path.to c.copy_object.new.to (take i paths) path node.0 node.1 c.loop-path.invariant c.in-Err.ensures.reads c.in-Err.error c.end_of.result c.in-Err.ensures.cause c.end_of.ensures
    (same_end c.end_of.result ends.FromFault is)

pub returns-in-Err-clause-to_fault : goal.returns-in-Err-clause-to_fault
returns-in-Err-clause-to_fault g c is =
    let i = c.loop-path.path-index in
    let paths = c.args.paths.now in
    let path = c.path-item.result in
    let low = c.loop-path-test.true in
    let node = leads (node_in (nodes_of c.args.source.now.tree) path) (path_has paths i path low c.path-item.is (λ (p : Path). IsSome (node_in (nodes_of c.args.source.now.tree) p)) c.requires.there) in
    to_by (laws g.met.D.Disk) (laws g.met.E.Disk) c.args.source.now c.args.from.now c.loop-path.from c.copy_object.new.from c.args.target.now c.loop-path.target c.copy_object.new.target c.args.to.now
    c.loop-path.to c.copy_object.new.to (take i paths) path node.0 node.1 c.loop-path.invariant c.in-Err.ensures.reads c.in-Err.error c.end_of.result c.in-Err.ensures.keeps c.end_of.ensures
    (same_end c.end_of.result ends.ToFault is)

pub loop-path-preserved : goal.loop-path-preserved
loop-path-preserved g c =
    let i = c.loop-path.path-index in
    let paths = c.args.paths.now in
    let path = c.path-item.result in
    let low = c.loop-path-test.true in
    let node = leads (node_in (nodes_of c.args.source.now.tree) path) (path_has paths i path low c.path-item.is (λ (p : Path). IsSome (node_in (nodes_of c.args.source.now.tree) p)) c.requires.there) in
    subst
    (IsAt g.D.Disk g.E.Disk c.args.source.now c.args.from.now c.copy_object.new.from c.args.target.now c.copy_object.new.target c.args.to.now c.copy_object.new.to)
    (sym (path_more paths i path low c.path-item.is))
    (goes_by (laws g.met.D.Disk) (laws g.met.E.Disk) c.args.source.now c.args.from.now c.loop-path.from c.copy_object.new.from c.args.target.now c.loop-path.target c.copy_object.new.target c.args.to.now
    c.loop-path.to c.copy_object.new.to (take i paths) path node.0 node.1 c.loop-path.invariant c.in_default.ensures.reads tt c.in_default.ensures.made c.in_default.ensures.keeps)

pub returns-clause-copied : goal.returns-clause-copied
returns-clause-copied g c =
    subst (AreCopied g.D.Disk g.E.Disk c.args.source.now c.args.from.now c.args.target.now c.loop-path.target c.args.to.now c.loop-path.to)
    (take_all c.loop-path.path-index c.args.paths.now (omega (arith, c.loop-path-test.false))) c.loop-path.invariant.copied

pub returns-clause-keeps : goal.returns-clause-keeps
returns-clause-keeps g c =
    let at = c.loop-path.invariant in
    record { settled = at.ready.settled; form = at.form; goes = at.goes; faults = at.faults }

pub returns-clause-reads : goal.returns-clause-reads
returns-clause-reads g c = c.loop-path.invariant.reads
