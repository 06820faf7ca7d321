use Rattle.std.proofs.Common.{◌≡◌, ◌∙◌, ◌+◌, ◌-◌, ◌++◌, ◌∷◌, [], ap, sym, subst, refl, arith, List}
use Rattle.std.proofs.lemmas.List.Sums.{sum_by-take-le}
use Rattle.std.proofs.lemmas.Result.{err_from_is_err_and}
use Rattle.fc_device.proofs.DiskLaws.{laws}
use Rattle.fc_device.proofs.StopLemmas.{reads_start, reads_then}
use Rattle.fc_dirs.specs.Directory.{directory_size}
use Rattle.fc_objects.specs.Extents.{sectors_in}
use Rattle.fc_image.specs.Layout.{dir_form}
use Rattle.fc_image.specs.Walk.{object_of, reader_of, root_entry}
use Rattle.fc_space.specs.Space.{layout_of}
use Rattle.fc_tree.specs.declared.node.Body.TheVariants as bodies
use Rattle.fc_tree.specs.declared.node.Node.{Node}
use Rattle.fc_tree.specs.Loaded.{not_free}
use Rattle.fc_tree.specs.Walking.{FailsAs, IsDirectoryAt, IsFileAt, IsVisited, Leads}
use Rattle.fc_tree.specs.Calls.{directory_sectors}
use Rattle.fc_tree.proofs.CallLemmas.{visited_upto}
use Rattle.fc_tree.proofs.WalkingLemmas.{root_fails}
use Rattle.fc_tree.proofs.StepLemmas.{come_to, no_disk_fault, on_failed, on_read, on_too_many, on_visited, read_so_far, there_is, walk_starts}
use Rattle.fc_tree.proofs.EndLemmas.{walk_ends}
use Rattle.fc_tree.proofs.walk.walk_disk.Goals as goal

pub returns-in_err-claim_root-clause-err : goal.returns-in_err-claim_root-clause-err
returns-in_err-claim_root-clause-err g c =
    let same : c.space-space.result.now ≡ c.args.places.now = c.space-space.ensures in
    let p = err_from_is_err_and c.from_residual-in_err-claim_root.result c.from_residual-in_err-claim_root.ensures.1 in
    let layout = layout_of c.args.places.now in
    let reserved = not_free layout (sectors_in c.args.reserved.now) in
    rw (p.1, p.2) (λ image told. root_fails (reader_of image layout) layout reserved c.args.root c.args.root_size c.in_err-claim_root.field-0.0
    (subst (λ n. FailsAs (object_of layout reserved [] (root_entry c.args.root n)) c.in_err-claim_root.field-0.0) (ap (λ f. directory_size f c.args.root_size) (rw same at c.dir_form.ensures))
    (subst (λ e. FailsAs (object_of layout reserved [] e) c.in_err-claim_root.field-0.0) (ap (λ n. n.entry) c.in_ok-node.ensures) (c.in_err-claim_root.ensures.err reserved (rw same at c.in_ok-taken.ensures.taken)))))

pub loop-at-init : goal.loop-at-init
loop-at-init g c =
    let same : c.space-space.result.now ≡ c.args.places.now = c.space-space.ensures in
    let layout = layout_of c.args.places.now in
    let reserved = not_free layout (sectors_in c.args.reserved.now) in
    let node : c.in_ok-node.node ≡ record { holder = 0; entry = root_entry c.args.root (directory_size (dir_form layout) c.args.root_size); body = bodies.File } =
    c.in_ok-node.ensures ∙ ap (λ f. let n : Node = record { holder = 0; entry = root_entry c.args.root (directory_size f c.args.root_size); body = bodies.File } in n) (rw same at c.dir_form.ensures) in
    let nodes : c.push_node.new.nodes.items ≡ c.in_ok-node.node ∷ [] = c.in_ok-push_node.ensures.ok ∙ ap (λ (ns : List Node). ns ++ c.in_ok-node.node ∷ []) c.new-nodes.ensures.items in
    record {
      reads = reads_start (laws g.met.D.Disk) c.args.disk.now;
      few = omega arith;
      sectors = c.claim_root.ensures.sectors ∙ (rw same at c.in_ok-taken.ensures.sectors);
      walking = walk_starts layout reserved c.args.root c.args.root_size (g.D.Disk.bytes c.args.disk.now) c.push_node.new.nodes.items c.in_ok-node.node (c.disc_sectors-left.result + 1) c.claim_root.new.taken nodes node
          (ap (λ n. n + 1) (rw same at c.disc_sectors-left.ensures.value))
          (rw (ap (λ n. n.entry) node) at (c.in_ok-claim_root.ensures.ok reserved (rw same at c.in_ok-taken.ensures.taken)));
    }

pub overlap_at-requires : goal.overlap_at-requires
overlap_at-requires g c =
    let next = (come_to (layout_of c.args.places.now) _ _ _ _ c.loop-at.nodes.items c.deref.result.now c.loop-at.from c.in-Some.at c.loop-at.left c.loop-at.taken c.loop-at.invariant.walking c.deref.ensures.value
    c.in-Some.ensures.some c.in-Some.ensures.first).1 in
    (next.stands.names, subst (λ ns. Leads ns c.in-Some.at next.stands.names) (sym c.deref-then-left-eq0.ensures.value) next.stands.leads)

pub returns-then-left-eq0-clause-err : goal.returns-then-left-eq0-clause-err
returns-then-left-eq0-clause-err g c =
    on_too_many (layout_of c.args.places.now) _ _ _ (g.D.Disk.bytes c.args.disk.now) c.loop-at.nodes.items c.deref.result.now c.loop-at.from c.in-Some.at c.loop-at.left c.loop-at.taken c.loop-at.invariant.walking c.deref.ensures.value
    c.in-Some.ensures.some c.in-Some.ensures.first c.overlap_at.result c.if-left-eq0.true
    (λ names l. c.overlap_at.ensures names (subst (λ ns. Leads ns c.in-Some.at names) (sym c.deref-then-left-eq0.ensures.value) l))

pub returns-then-left-eq0-clause-cause : goal.returns-then-left-eq0-clause-cause
returns-then-left-eq0-clause-cause g c = λ e.
    let next = (come_to (layout_of c.args.places.now) _ _ _ _ c.loop-at.nodes.items c.deref.result.now c.loop-at.from c.in-Some.at c.loop-at.left c.loop-at.taken c.loop-at.invariant.walking c.deref.ensures.value
    c.in-Some.ensures.some c.in-Some.ensures.first).1 in
    absurd (no_disk_fault _ c.overlap_at.result (c.overlap_at.ensures next.stands.names (subst (λ ns. Leads ns c.in-Some.at next.stands.names) (sym c.deref-then-left-eq0.ensures.value) next.stands.leads)) e)

pub visit-requires-clause-there : goal.visit-requires-clause-there
visit-requires-clause-there g c =
    let same : c.space-space.result.now ≡ c.args.places.now = c.space-space.ensures in
    there_is (layout_of c.args.places.now) _ _ _ _ c.loop-at.nodes.items c.deref.result.now c.loop-at.from c.in-Some.at c.loop-at.left c.loop-at.taken c.loop-at.invariant.walking
    c.deref.ensures.value c.in-Some.ensures.some c.in-Some.ensures.first

pub returns-in_err-visit-clause-err : goal.returns-in_err-visit-clause-err
returns-in_err-visit-clause-err g c =
    let same : c.space-space.result.now ≡ c.args.places.now = c.space-space.ensures in
    let p = err_from_is_err_and c.from_residual-in_err-visit.result c.from_residual-in_err-visit.ensures.1 in
    rw (p.1, p.2)
    (on_failed (layout_of c.args.places.now) _ _ _ (g.D.Disk.bytes c.args.disk.now) c.loop-at.nodes.items c.deref.result.now c.loop-at.from c.in-Some.at c.loop-at.left c.loop-at.taken c.loop-at.invariant.walking c.deref.ensures.value
    c.in-Some.ensures.some c.in-Some.ensures.first (c.loop-at.left - 1) c.in_err-visit.field-0.0 (omega (arith, c.if-left-eq0.false))
    (λ o before stands taken. λ image told. c.in_err-visit.ensures.err o before stands taken image (c.loop-at.invariant.reads.bytes ∙ told)))

pub returns-in_err-visit-clause-reads : goal.returns-in_err-visit-clause-reads
returns-in_err-visit-clause-reads g c = reads_then (laws g.met.D.Disk) c.loop-at.invariant.reads c.visit.ensures.reads

pub loop-at-preserved : goal.loop-at-preserved
loop-at-preserved g c =
    let same : c.space-space.result.now ≡ c.args.places.now = c.space-space.ensures in
    let layout = layout_of c.args.places.now in
    record {
      reads = reads_then (laws g.met.D.Disk) c.loop-at.invariant.reads c.visit.ensures.reads;
      few = (let come = come_to layout _ _ _ _ c.loop-at.nodes.items c.deref.result.now c.loop-at.from c.in-Some.at c.loop-at.left c.loop-at.taken c.loop-at.invariant.walking c.deref.ensures.value
          c.in-Some.ensures.some c.in-Some.ensures.first in
          visited_upto layout _ c.loop-at.nodes.items c.visit.new.nodes.items c.loop-at.from c.in-Some.at (c.in-Some.at + 1) come.1.object come.0.taken c.visit.new.taken _ _ _
          (c.in_ok-visit.ensures.ok come.1.object come.0.taken come.1.stands come.0.marked)
          (subst (λ ns. IsDirectoryAt ns c.in-Some.at) c.deref.ensures.value c.in-Some.ensures.some.2) c.in-Some.ensures.some.0 refl c.loop-at.invariant.few c.visit.ensures.few);
      sectors = c.visit.ensures.sectors ∙ c.loop-at.invariant.sectors;
      walking = on_visited layout _ _ _ (g.D.Disk.bytes c.args.disk.now) c.loop-at.nodes.items c.deref.result.now c.loop-at.from c.in-Some.at c.loop-at.left c.loop-at.taken c.loop-at.invariant.walking c.deref.ensures.value
          c.in-Some.ensures.some c.in-Some.ensures.first c.visit.new.nodes.items c.visit.new.taken (c.loop-at.left - 1) (c.in-Some.at + 1) (omega (arith, c.if-left-eq0.false)) refl
          (λ o before stands taken. subst (λ told. IsVisited layout told c.loop-at.nodes.items c.visit.new.nodes.items c.in-Some.at o before c.visit.new.taken) c.loop-at.invariant.reads.bytes
          (c.in_ok-visit.ensures.ok o before stands taken));
    }

pub returns-clause-few : goal.returns-clause-few
returns-clause-few g c =
    let all = sum_by-take-le (directory_sectors (layout_of c.args.places.now)) c.loop-at.nodes.items c.loop-at.from in
    omega (arith, c.loop-at.invariant.few, all)

pub returns-clause-ok : goal.returns-clause-ok
returns-clause-ok g c =
    walk_ends (layout_of c.args.places.now) _ _ _ (g.D.Disk.bytes c.args.disk.now) c.loop-at.nodes.items c.loop-at.from c.loop-at.left c.loop-at.taken c.loop-at.invariant.walking
    (λ i le. subst (λ ns. IsFileAt ns i) c.deref.ensures.value (c.in_default.ensures.none refl i le))

pub returns-then-left-eq0-clause-most : goal.returns-then-left-eq0-clause-most
returns-then-left-eq0-clause-most g c =
    read_so_far (layout_of c.args.places.now) _ _ _ (g.D.Disk.bytes c.args.disk.now) c.loop-at.nodes.items c.loop-at.from c.loop-at.left c.loop-at.taken c.loop-at.invariant.walking _ _ c.loop-at.invariant.few

pub returns-in_err-visit-clause-most : goal.returns-in_err-visit-clause-most
returns-in_err-visit-clause-most g c =
    on_read (layout_of c.args.places.now) _ _ _ (g.D.Disk.bytes c.args.disk.now) c.loop-at.nodes.items c.deref.result.now c.loop-at.from c.in-Some.at c.loop-at.left c.loop-at.taken c.loop-at.invariant.walking c.deref.ensures.value
    c.in-Some.ensures.some c.in-Some.ensures.first (c.loop-at.left - 1) _ _ _ (omega (arith, c.if-left-eq0.false)) c.loop-at.invariant.few c.visit.ensures.few

pub returns-clause-most : goal.returns-clause-most
returns-clause-most g c =
    read_so_far (layout_of c.args.places.now) _ _ _ (g.D.Disk.bytes c.args.disk.now) c.loop-at.nodes.items c.loop-at.from c.loop-at.left c.loop-at.taken c.loop-at.invariant.walking _ _ c.loop-at.invariant.few
