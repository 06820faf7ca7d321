use Rattle.std.proofs.Common.{◌≡◌, ◌∙◌, Some, false, sym, ap, subst}
use Rattle.fc_device.specs.Calls.{OnlyReads}
use Rattle.fc_device.proofs.DiskLaws.{laws}
use Rattle.fc_device.proofs.StopLemmas.{reads_start}
use Rattle.fc_names.specs.Names.{is_directory}
use Rattle.fc_space.specs.Space.{PlacesSuffice, layout_of}
use Rattle.fc_space.specs.declared.space.Space.{Space}
use Rattle.fc_tree.specs.declared.node.Node.{Node}
use Rattle.fc_tree.specs.Nodes.{Numbers, nodes_of}
use Rattle.fc_tree.proofs.WalkedLemmas.{same_some}
use Rattle.fc_fit.specs.Found.{node_in}
use Rattle.fc_convert.proofs.LengthLemmas.{sized_bytes}
use Rattle.fc_convert.proofs.ObjectLemmas.{file_saved}
use Rattle.fc_convert.proofs.copying.copy_file.Goals as goal

pub returns-then-from-most-clause-made : goal.returns-then-from-most-clause-made
returns-then-from-most-clause-made g c = c.copy_bytes.ensures.made

pub returns-then-from-most-clause-keeps : goal.returns-then-from-most-clause-keeps
returns-then-from-most-clause-keeps g c = c.copy_bytes.ensures.keeps

pub returns-then-from-most-clause-reads : goal.returns-then-from-most-clause-reads
returns-then-from-most-clause-reads g c = c.copy_bytes.ensures.reads

pub returns-then-from-most-clause-cause : goal.returns-then-from-most-clause-cause
returns-then-from-most-clause-cause g c = c.copy_bytes.ensures.cause

pub returns-clause-made : goal.returns-clause-made
returns-clause-made g c =
    let source = c.args.source.now in
    let path = c.args.path.now in
    let here = c.node_at.result.now in
    let found = ap (λ (t : Numbers). node_in (nodes_of t) path) (sym c.tree.ensures) ∙ c.node_at.ensures in
    let same = same_some c.requires.there.0 here (sym c.requires.there.1 ∙ found) in
    let file : is_directory here.entry.attrs ≡ false = ap (λ (n : Node). is_directory n.entry.attrs) (sym same) ∙ c.requires.there.2 in
    let sized = sized_bytes (laws g.met.D.Disk) source c.args.from.now path here found file c.requires.source.stands
    (subst (λ (s : Space). PlacesSuffice (layout_of s)) c.space.ensures c.places_suffice.ensures) c.file_at.result c.file_at.ensures.bytes in
    file_saved g.D.Disk g.E.Disk source c.args.from.now path here found c.args.target.now c.refuse_file.new.target c.args.to.now c.refuse_file.new.to c.refuse_file.result sized.0 sized.1
    (c.refuse_file.ensures.made sized.0 sized.2)

pub returns-clause-keeps : goal.returns-clause-keeps
returns-clause-keeps g c = c.refuse_file.ensures.keeps

pub returns-clause-reads : goal.returns-clause-reads
returns-clause-reads g c = subst (λ (s : g.row.D.Denot). OnlyReads g.D.Disk c.args.from.now s) (sym c.file_at.ensures.disk) (reads_start (laws g.met.D.Disk) c.args.from.now)

pub returns-clause-cause : goal.returns-clause-cause
returns-clause-cause g c is = absurd (c.refuse_file.ensures.cause is)
