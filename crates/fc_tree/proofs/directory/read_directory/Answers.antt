use Rattle.std.proofs.Common.{◌≡◌, ◌∙◌, ap, sym, subst, length, refl, Some}
use Rattle.std.specs.Prelude.{slice_get}
use Rattle.std.proofs.lemmas.Option.{slice_get_read}
use Rattle.fc_device.proofs.DiskLaws.{laws}
use Rattle.fc_dirs.specs.declared.DirFault.TheVariants.{Size}
use Rattle.fc_dirs.specs.Directory.{directory_of, directory_size}
use Rattle.fc_image.specs.Layout.{dir_form}
use Rattle.fc_image.specs.Walk.{reader_of}
use Rattle.fc_space.specs.Space.{layout_of}
use Rattle.fc_tree.specs.Walking.{IsDamaged, IsSaidBy}
use Rattle.fc_tree.proofs.DirectoryLemmas.{damaged, node_fails, node_is_directory, node_misfits, node_placed, node_says, node_size, size_again}
use Rattle.fc_tree.proofs.LengthLemmas.{disk_long}
use Rattle.fc_tree.proofs.directory.read_directory.Goals as goal

pub read_object-requires-clause-placed : goal.read_object-requires-clause-placed
read_object-requires-clause-placed g c =
    let h = c.in-Some.ensures.lookup in
    let is : slice_get c.args.nodes.now c.args.at ≡ Some c.in-Some.node.now = slice_get_read c.args.nodes.now (length c.args.nodes.now) c.args.at c.in-Some.node.now refl h.3.0 h.1 in
    node_placed (layout_of c.args.places.now) c.args.nodes.now c.args.at c.requires.there.0 c.requires.there.1 c.in-Some.node.now is

pub body_of-requires : goal.body_of-requires
body_of-requires g c =
    let h = c.in-Some.ensures.lookup in
    let layout = layout_of c.args.places.now in
    let node = c.in-Some.node.now in
    let is : slice_get c.args.nodes.now c.args.at ≡ Some node = slice_get_read c.args.nodes.now (length c.args.nodes.now) c.args.at node refl h.3.0 h.1 in
    let size : length c.deref.result.now ≡ directory_size (dir_form layout) node.entry.len =
    ap length c.deref.ensures.value ∙ c.in_ok-read_object.ensures.long ∙ node_size layout c.args.nodes.now c.args.at c.requires.there.0 c.requires.there.1 node is c.requires.there.2 in
    size_again c.dir_form-form.result node.entry.len (length c.deref.result.now) (size ∙ ap (λ f. directory_size f node.entry.len) (sym c.dir_form-form.ensures))

pub returns-in-Ok-clause-ok : goal.returns-in-Ok-clause-ok
returns-in-Ok-clause-ok g c = λ o stands.
    let h = c.in-Some.ensures.lookup in
    let layout = layout_of c.args.places.now in
    let node = c.in-Some.node.now in
    let is : slice_get c.args.nodes.now c.args.at ≡ Some node = slice_get_read c.args.nodes.now (length c.args.nodes.now) c.args.at node refl h.3.0 h.1 in
    let size : length c.deref.result.now ≡ directory_size (dir_form layout) node.entry.len =
    ap length c.deref.ensures.value ∙ c.in_ok-read_object.ensures.long ∙ node_size layout c.args.nodes.now c.args.at c.requires.there.0 c.requires.there.1 node is c.requires.there.2 in
    node_says layout c.args.nodes.now c.args.at o stands node is (g.D.Disk.bytes c.args.disk.now) c.dir_form-form.result c.deref.result.now c.dir_form-form.ensures size
    (λ image told p e at. c.deref.ensures.value ∙ c.in_ok-read_object.ensures.bytes image told p e at) c.in-Ok.body c.in-Ok.ensures.ok

pub returns-in-Err-Fault-clause-err : goal.returns-in-Err-Fault-clause-err
returns-in-Err-Fault-clause-err g c = λ o stands.
    let h = c.in-Some.ensures.lookup in
    let layout = layout_of c.args.places.now in
    let node = c.in-Some.node.now in
    let is : slice_get c.args.nodes.now c.args.at ≡ Some node = slice_get_read c.args.nodes.now (length c.args.nodes.now) c.args.at node refl h.3.0 h.1 in
    let size : length c.deref.result.now ≡ directory_size (dir_form layout) node.entry.len =
    ap length c.deref.ensures.value ∙ c.in_ok-read_object.ensures.long ∙ node_size layout c.args.nodes.now c.args.at c.requires.there.0 c.requires.there.1 node is c.requires.there.2 in
    node_fails layout c.args.nodes.now c.args.at o stands node is (g.D.Disk.bytes c.args.disk.now) c.dir_form-form.result c.deref.result.now c.dir_form-form.ensures size
    (λ image told p e at. c.deref.ensures.value ∙ c.in_ok-read_object.ensures.bytes image told p e at) c.in-Err-Fault.fault c.damage_at-in-Err-Fault.result
    (subst (λ e. IsSaidBy (directory_of c.dir_form-form.result c.deref.result.now) e) c.in-Err-Fault.field-0-is c.in-Err-Fault.ensures.err)
    (subst (λ p. IsDamaged p c.in-Err-Fault.fault c.damage_at-in-Err-Fault.result) (sym stands.path) (c.damage_at-in-Err-Fault.ensures stands.names stands.leads))

pub returns-then-not-may_have_size-clause-err : goal.returns-then-not-may_have_size-clause-err
returns-then-not-may_have_size-clause-err g c = λ o stands. λ image told.
    let h = c.in-Some.ensures.lookup in
    let layout = layout_of c.args.places.now in
    let node = c.in-Some.node.now in
    let is : slice_get c.args.nodes.now c.args.at ≡ Some node = slice_get_read c.args.nodes.now (length c.args.nodes.now) c.args.at node refl h.3.0 h.1 in
    let directory = node_is_directory layout c.args.nodes.now c.args.at c.requires.there.0 c.requires.there.1 node is c.requires.there.2 in
    let long = disk_long (laws g.met.D.Disk) c.args.disk.now layout c.requires.size c.requires.room image told in
    damaged o.path (reader_of image layout o) Size c.damage_at.result
    (node_misfits layout c.args.nodes.now c.args.at o stands node is c.dir_form-form.result image c.dir_form-form.ensures directory (sym c.may_have_size.ensures ∙ c.if-not-may_have_size.true) c.places_suffice.ensures long)
    (subst (λ p. IsDamaged p Size c.damage_at.result) (sym stands.path) (c.damage_at.ensures stands.names stands.leads))
