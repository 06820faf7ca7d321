use Rattle.std.proofs.Common.{false, List, refl, ap, subst, sym, ◌∙◌}
use Rattle.std.specs.Prelude.{Option}
use Rattle.fc_alloc.specs.declared.owner.Owner.{Owner}
use Rattle.fc_newmap.specs.declared.copies.Which.{Which}
use Rattle.fc_device.specs.Calls.{StopsAndExitsLeave}
use Rattle.fc_device.proofs.DiskLaws.{laws}
use Rattle.fc_image.specs.Stays.{IsNewLayout}
use Rattle.fc_names.specs.declared.refusal.Refusal.TheVariants as refusals
use Rattle.fc_space.specs.Space.{layout_of}
use Rattle.fc_writing.specs.declared.copies.Copies.TheVariants.{Equal}
use Rattle.fc_volume.specs.Volume.{Volume, parts_of}
use Rattle.fc_volume.proofs.StandsLemmas.{new_layout}
use Rattle.fc_reclaim.specs.Reclaiming.{CanReclaim, LeavesOwned}
use Rattle.fc_volume.specs.Reclaiming.{HasGivenBack, which_in}
use Rattle.fc_volume.proofs.LostKeepsLemmas.{done_for, done_keeps, failed_for, failed_keeps, locked_refused, none_refused, old_refused, refused_for, refused_keeps}
use Rattle.fc_volume.proofs.LostStandsLemmas.{can_reclaim, frame_start, has_reclaimed, leaves_owned, owned_start}
use Rattle.fc_volume.proofs.reclaiming.reclaim.Goals as goal

-- ---- refusals

pub returns-then-volume-clause-refused : goal.returns-then-volume-clause-refused
returns-then-volume-clause-refused g c reason =
    let v = c.args.volume.now in
    refused_for _ refusals.ReadOnly (locked_refused v.read_only (parts_of v).layout (sym (ap (λ (w : Volume). w.read_only) c.volume.view_is) ∙ c.if-volume.true)) reason

pub returns-then-volume-clause-owned : goal.returns-then-volume-clause-owned
returns-then-volume-clause-owned g c new_map = owned_start (laws g.met.D.Disk) c.args.volume.now c.args.disk.now new_map c.requires.settled

pub returns-then-volume-clause-frame : goal.returns-then-volume-clause-frame
returns-then-volume-clause-frame g c m layout = frame_start (laws g.met.D.Disk) m.geometry c.args.disk.now c.requires.settled

pub returns-then-volume-clause-keeps : goal.returns-then-volume-clause-keeps
returns-then-volume-clause-keeps g c = refused_keeps (laws g.met.D.Disk) c.args.volume.now c.args.disk.now refusals.ReadOnly c.requires.fit c.requires.stands c.requires.settled

pub returns-then-has_old_map-clause-refused : goal.returns-then-has_old_map-clause-refused
returns-then-has_old_map-clause-refused g c reason =
    let v = c.args.volume.now in
    refused_for _ refusals.NotNewMap
    (old_refused v.read_only (parts_of v).layout (sym (ap (λ (w : Volume). w.read_only) c.volume.view_is) ∙ c.if-volume.false)
    (λ new_map. c.has_old_map.ensures.old_map c.if-has_old_map.true (subst IsNewLayout (sym (ap (λ (w : Volume). layout_of w.space) c.volume.view_is)) new_map))) reason

pub returns-then-has_old_map-clause-owned : goal.returns-then-has_old_map-clause-owned
returns-then-has_old_map-clause-owned g c new_map = owned_start (laws g.met.D.Disk) c.args.volume.now c.args.disk.now new_map c.requires.settled

pub returns-then-has_old_map-clause-frame : goal.returns-then-has_old_map-clause-frame
returns-then-has_old_map-clause-frame g c m layout = frame_start (laws g.met.D.Disk) m.geometry c.args.disk.now c.requires.settled

pub returns-then-has_old_map-clause-keeps : goal.returns-then-has_old_map-clause-keeps
returns-then-has_old_map-clause-keeps g c = refused_keeps (laws g.met.D.Disk) c.args.volume.now c.args.disk.now refusals.NotNewMap c.requires.fit c.requires.stands c.requires.settled

-- ---- what is done

pub reclaim_places-requires-clause-ready : goal.reclaim_places-requires-clause-ready
reclaim_places-requires-clause-ready g c = λ m layout image told.
    let can = subst (λ (w : Volume). CanReclaim m (which_in w.copies) w.owners image) (sym c.volume.view_is)
    (can_reclaim g.D.Disk c.args.volume.now c.args.disk.now m c.requires.stands (sym (ap (λ (w : Volume). layout_of w.space) c.volume.view_is) ∙ layout) image told) in
    subst (λ (w : Option Which). CanReclaim m w c.volume.inside.holdings.owners image) (sym c.which_of-which.ensures) can

pub returns-in-Ok-clause-refused : goal.returns-in-Ok-clause-refused
returns-in-Ok-clause-refused g c reason =
    let v = c.args.volume.now in
    let new_map = subst IsNewLayout (ap (λ (w : Volume). layout_of w.space) c.volume.view_is) (c.has_old_map.ensures.new_map c.if-has_old_map.false) in
    done_for _ c.in-Ok.bytes (none_refused v.read_only (parts_of v).layout (sym (ap (λ (w : Volume). w.read_only) c.volume.view_is) ∙ c.if-volume.false) new_map) reason

pub returns-in-Ok-clause-reclaimed : goal.returns-in-Ok-clause-reclaimed
returns-in-Ok-clause-reclaimed g c =
    let v = c.args.volume.now in
    let new = c.reclaim_places.new.disk in
    let now : Volume = record {
      space = c.reclaim_places.new.places;
      copies = Equal;
      tree = c.volume.inside.holdings.tree;
      owners = c.volume.inside.holdings.owners;
      read_only = c.volume.inside.read_only;
      fit = c.volume.inside.fit;
    } in
    let map = new_layout (parts_of v).layout (subst IsNewLayout (ap (λ (w : Volume). layout_of w.space) c.volume.view_is) (c.has_old_map.ensures.new_map c.if-has_old_map.false)) in
    let here = ap (λ (w : Volume). layout_of w.space) c.volume.view_is ∙ map.1 in
    let owners = ap (λ (w : Volume). w.owners) c.volume.view_is in
    let owned = subst (λ (os : List Owner). StopsAndExitsLeave g.D.Disk c.args.disk.now new (LeavesOwned map.0 os)) owners (c.reclaim_places.ensures.owned map.0 here) in
    let after = c.in-Ok.ensures.given map.0 here in
    let given = subst (λ (os : List Owner). HasGivenBack g.D.Disk map.0 after.0 os c.in-Ok.bytes c.args.disk.now new) owners after.2 in
    has_reclaimed v now c.args.disk.now new map.0 after.0 c.in-Ok.bytes c.requires.stands map.1 after.1 (ap (λ (w : Volume). w.tree) c.volume.view_is) owners refl c.reclaim_places.ensures.form owned given

pub returns-in-Ok-clause-owned : goal.returns-in-Ok-clause-owned
returns-in-Ok-clause-owned g c new_map =
    let v = c.args.volume.now in
    let new = c.reclaim_places.new.disk in
    let map = new_layout (parts_of v).layout new_map in
    let owners = ap (λ (w : Volume). w.owners) c.volume.view_is in
    leaves_owned (laws g.met.D.Disk) v c.args.disk.now new map.0 map.1
    (subst (λ (os : List Owner). StopsAndExitsLeave g.D.Disk c.args.disk.now new (LeavesOwned map.0 os)) owners
    (c.reclaim_places.ensures.owned map.0 (ap (λ (w : Volume). layout_of w.space) c.volume.view_is ∙ map.1)))

pub returns-in-Ok-clause-frame : goal.returns-in-Ok-clause-frame
returns-in-Ok-clause-frame g c m layout = c.reclaim_places.ensures.frame m (ap (λ (w : Volume). layout_of w.space) c.volume.view_is ∙ layout)

pub returns-in-Ok-clause-keeps : goal.returns-in-Ok-clause-keeps
returns-in-Ok-clause-keeps g c =
    let v = c.args.volume.now in
    let new = c.reclaim_places.new.disk in
    let now : Volume = record {
      space = c.reclaim_places.new.places;
      copies = Equal;
      tree = c.volume.inside.holdings.tree;
      owners = c.volume.inside.holdings.owners;
      read_only = c.volume.inside.read_only;
      fit = c.volume.inside.fit;
    } in
    let map = new_layout (parts_of v).layout (subst IsNewLayout (ap (λ (w : Volume). layout_of w.space) c.volume.view_is) (c.has_old_map.ensures.new_map c.if-has_old_map.false)) in
    let here = ap (λ (w : Volume). layout_of w.space) c.volume.view_is ∙ map.1 in
    let owners = ap (λ (w : Volume). w.owners) c.volume.view_is in
    let owned = subst (λ (os : List Owner). StopsAndExitsLeave g.D.Disk c.args.disk.now new (LeavesOwned map.0 os)) owners (c.reclaim_places.ensures.owned map.0 here) in
    let after = c.in-Ok.ensures.given map.0 here in
    let given = subst (λ (os : List Owner). HasGivenBack g.D.Disk map.0 after.0 os c.in-Ok.bytes c.args.disk.now new) owners after.2 in
    done_keeps (laws g.met.D.Disk) v now c.args.disk.now new map.0 map.1 (ap (λ (w : Volume). w.tree) c.volume.view_is) owners (ap (λ (w : Volume). w.read_only) c.volume.view_is)
    c.reclaim_places.ensures.form owned c.reclaim_places.ensures.cause.later after.0 c.in-Ok.bytes c.requires.stands after.1 refl (ap (λ (w : Volume). w.fit) c.volume.view_is ∙ c.requires.fit) given
    c.in-Ok.ensures.durable

-- ---- the disk failed

pub returns-in-Err-clause-refused : goal.returns-in-Err-clause-refused
returns-in-Err-clause-refused g c reason =
    let v = c.args.volume.now in
    let new_map = subst IsNewLayout (ap (λ (w : Volume). layout_of w.space) c.volume.view_is) (c.has_old_map.ensures.new_map c.if-has_old_map.false) in
    failed_for _ (none_refused v.read_only (parts_of v).layout (sym (ap (λ (w : Volume). w.read_only) c.volume.view_is) ∙ c.if-volume.false) new_map) reason

pub returns-in-Err-clause-owned : goal.returns-in-Err-clause-owned
returns-in-Err-clause-owned g c new_map =
    let v = c.args.volume.now in
    let new = c.reclaim_places.new.disk in
    let map = new_layout (parts_of v).layout new_map in
    let owners = ap (λ (w : Volume). w.owners) c.volume.view_is in
    leaves_owned (laws g.met.D.Disk) v c.args.disk.now new map.0 map.1
    (subst (λ (os : List Owner). StopsAndExitsLeave g.D.Disk c.args.disk.now new (LeavesOwned map.0 os)) owners
    (c.reclaim_places.ensures.owned map.0 (ap (λ (w : Volume). layout_of w.space) c.volume.view_is ∙ map.1)))

pub returns-in-Err-clause-frame : goal.returns-in-Err-clause-frame
returns-in-Err-clause-frame g c m layout = c.reclaim_places.ensures.frame m (ap (λ (w : Volume). layout_of w.space) c.volume.view_is ∙ layout)

pub returns-in-Err-clause-keeps : goal.returns-in-Err-clause-keeps
returns-in-Err-clause-keeps g c =
    let v = c.args.volume.now in
    let new = c.reclaim_places.new.disk in
    let now : Volume = record {
      space = c.reclaim_places.new.places;
      copies = c.volume.inside.holdings.copies;
      tree = c.volume.inside.holdings.tree;
      owners = c.volume.inside.holdings.owners;
      read_only = c.volume.inside.read_only;
      fit = false;
    } in
    let map = new_layout (parts_of v).layout (subst IsNewLayout (ap (λ (w : Volume). layout_of w.space) c.volume.view_is) (c.has_old_map.ensures.new_map c.if-has_old_map.false)) in
    let here = ap (λ (w : Volume). layout_of w.space) c.volume.view_is ∙ map.1 in
    let owners = ap (λ (w : Volume). w.owners) c.volume.view_is in
    let owned = subst (λ (os : List Owner). StopsAndExitsLeave g.D.Disk c.args.disk.now new (LeavesOwned map.0 os)) owners (c.reclaim_places.ensures.owned map.0 here) in
    failed_keeps (laws g.met.D.Disk) v now c.args.disk.now new map.0 map.1 (ap (λ (w : Volume). w.tree) c.volume.view_is) owners (ap (λ (w : Volume). w.read_only) c.volume.view_is)
    c.reclaim_places.ensures.form owned c.reclaim_places.ensures.cause.later
    (λ m is. c.reclaim_places.ensures.geometry m (ap (λ (w : Volume). layout_of w.space) c.volume.view_is ∙ is)) refl c.in-Err.ensures.cause.failed
