-- `rename` that copies its file into a directory that grows by it, on a new map: what is wanted, and where the copy lies.
use Rattle.fc_change.specs.Drafts.{IsChangeOf}
use Rattle.fc_change.specs.GrownSpace.{place_of_plan}
use Rattle.fc_change.specs.Needs.{is_copied, len_at}
use Rattle.fc_change.specs.Places.{IsCopiedFrom, IsPlaceFor, IsPlaceOf, IsPlacingFor, extents_in, is_directory, own_address}
use Rattle.fc_change.specs.Prepared.{IsReadyFor, IsSourceOf}
use Rattle.fc_change.specs.declared.job.Job.TheVariants as jobs
use Rattle.fc_change.specs.declared.spaces.Place.{Place}
use Rattle.fc_commands.proofs.CopyingFileLemmas.{IsCopiedFile, copied_file}
use Rattle.fc_commands.proofs.GrownMoveReadyLemmas.{ReadyRename}
use Rattle.fc_commands.proofs.GrownMoveWantLemmas.{GrownRename, IsPlacedRename}
use Rattle.fc_commands.proofs.TargetLemmas as target_of
use Rattle.fc_commands.specs.declared.stages.Prepared.{Prepared}
use Rattle.fc_device.specs.declared.disk.Extent.{Extent}
use Rattle.fc_image.specs.Layout.{Layout}
use Rattle.fc_laws.specs.agree.Agreed.{parts_with}
use Rattle.fc_objects.specs.Extents.{sectors_in}
use Rattle.fc_placing.specs.Places.{IsOwnPlan, address_in}
use Rattle.fc_placing.specs.declared.placing.Placing.{Placing}
use Rattle.fc_placing.specs.declared.placing.Placing.TheVariants as placings
use Rattle.fc_plan.specs.declared.plan.Plan.{Plan}
use Rattle.fc_tree.proofs.WalkedLemmas.{same_some}
use Rattle.fc_writing.specs.declared.ready.Source.TheVariants as sources
use Rattle.fc_writing.specs.declared.ready.Transfer.{Transfer}
use Rattle.std.proofs.Common.{Bool, None, Option, Some, ap, arith, cond, false, refl, subst, sym, true, ℕ, ◌&&◌, ◌<◌, ◌∙◌, ◌≡◌}
use Rattle.std.specs.Prelude.{Vec, is_none}
use Rattle.std.specs.declared.alloc.Global.{Global}

-- One with its change, ready to be written.
pub record CopiedRename : Type 0 where
  pub q : GrownRename
  pub pr : Prepared
  pub placed : IsPlacedRename q
  pub copied : is_copied (parts_with q.m q.nodes q.owners) q.r ≡ true
  pub change : IsChangeOf (parts_with q.m q.nodes q.owners) (jobs.Move q.r) q.name q.spaces pr.change
  pub ready : IsReadyFor (parts_with q.m q.nodes q.owners) pr.change q.spaces pr.ready

-- The place of a copy, and where its bytes come from.
pub record IsCopySpot (q : GrownRename) : Type 0 where
  pub place : Place
  pub object : q.spaces.object ≡ Some place
  pub from : Vec Extent Global
  pub copied : q.spaces.copied ≡ Some from
  pub lies : IsPlaceOf (Layout.New q.m) q.nodes q.r.target.node from.items

-- One whose copy has a place, however it was found.
pub record SpottedRename : Type 0 where
  pub q : GrownRename
  pub pr : Prepared
  pub copied : is_copied (parts_with q.m q.nodes q.owners) q.r ≡ true
  pub spot : IsCopySpot q
  pub change : IsChangeOf (parts_with q.m q.nodes q.owners) (jobs.Move q.r) q.name q.spaces pr.change
  pub ready : IsReadyFor (parts_with q.m q.nodes q.owners) pr.change q.spaces pr.ready

abbrev pub base : SpottedRename → ReadyRename
base w = record { q = w.q; pr = w.pr; change = w.change; ready = w.ready }

-- The file gets new space of its own, and its bytes come from where it lies.
pub record IsCopyAt (q : GrownRename) (pl : IsPlacedRename q) : Type 0 where
  pub plan : Plan
  pub plan_is : pl.placing ≡ placings.New plan
  pub own : IsOwnPlan q.m q.wants.bytes plan
  pub place : Place
  pub object : q.spaces.object ≡ Some place
  pub address : place.address ≡ address_in q.m (placings.New plan) q.wants.bytes
  pub sectors : sectors_in place.extents.items ≡ place_of_plan q.m.geometry plan q.wants.bytes
  pub from : Vec Extent Global
  pub copied : q.spaces.copied ≡ Some from
  pub lies : IsPlaceOf (Layout.New q.m) q.nodes q.r.target.node from.items

module _ (q : GrownRename) (copied : is_copied (parts_with q.m q.nodes q.owners) q.r ≡ true) where
  pub file : IsCopiedFile q.m q.nodes q.listings q.from q.to q.r q.seen.known.target.object
  file = copied_file q.m q.nodes q.owners q.listings q.from q.to q.r q.seen.sound q.seen.held q.seen.known q.kind q.agreed.owned copied

  pub bytes_is : q.wants.bytes ≡ q.seen.known.target.object.entry.len
  bytes_is = q.are.bytes ∙ ap (λ (b : Bool). cond b (len_at q.nodes q.r.target.node) 0) copied ∙ file.len

  pub copy_is : q.wants.copied ≡ Some q.r.target.node
  copy_is = q.are.copy ∙ ap (λ (b : Bool). let o : Option ℕ = cond b (Some q.r.target.node) None in o) copied

  some : 0 < q.wants.bytes
  some = subst (λ (n : ℕ). 0 < n) (sym bytes_is) file.some

  plan_of : (x : Placing) → IsPlacingFor q.m q.owners q.wants x → (plan : Plan) × (x ≡ placings.New plan) × IsOwnPlan q.m q.wants.bytes plan
  plan_of placings.Nowhere at = absurd (omega (arith, some, at))
  plan_of (placings.Shared share) at = absurd (let there = sym at.1 ∙ q.are.slack in cc)
  plan_of (placings.New plan) at = (plan, refl, at.1)

  no_folder : is_directory q.wants ≡ false
  no_folder = ap (λ (o : Option ℕ). is_none q.wants.shares && is_none o) copy_is ∙ ap (λ (o : Option ℕ). is_none o && false) q.are.slack

  place_at : (plan : Plan) (o : Option Place) → IsPlaceFor q.m q.wants (placings.New plan) o
      → (p : Place) × (o ≡ Some p) × (p.address ≡ address_in q.m (placings.New plan) q.wants.bytes) × (sectors_in p.extents.items ≡ place_of_plan q.m.geometry plan q.wants.bytes)
  place_at plan (Some p) at = (p, refl, at.0 ∙ ap (λ (b : Bool). own_address b q.m q.wants.bytes plan) no_folder, at.1)
  place_at plan None at = absurd (omega (arith, some, at.0))

  from_at : (n : Option ℕ) (o : Option (Vec Extent Global)) → n ≡ Some q.r.target.node → IsCopiedFrom (Layout.New q.m) q.nodes n (extents_in o)
      → (v : Vec Extent Global) × (o ≡ Some v) × IsPlaceOf (Layout.New q.m) q.nodes q.r.target.node v.items
  from_at (Some n) (Some v) same at = (v, refl, subst (λ (k : ℕ). IsPlaceOf (Layout.New q.m) q.nodes k v.items) (same_some n q.r.target.node same) at)
  from_at (Some n) None same at = absurd at
  from_at None o same at = absurd (cc)

pub copy_at : (q : GrownRename) (pl : IsPlacedRename q) (copied : is_copied (parts_with q.m q.nodes q.owners) q.r ≡ true) → IsCopyAt q pl
copy_at q pl copied =
    let p = plan_of q copied pl.placing pl.is in
    let o = place_at q copied p.0 q.spaces.object (subst (λ (x : Placing). IsPlaceFor q.m q.wants x q.spaces.object) p.1 pl.object) in
    let f = from_at q copied q.wants.copied q.spaces.copied (copy_is q copied) pl.copied in
    record {
      plan = p.0;
      plan_is = p.1;
      own = p.2;
      place = o.0;
      object = o.1;
      address = o.2;
      sectors = o.3;
      from = f.0;
      copied = f.1;
      lies = f.2;
    }

abbrev pub spotted : CopiedRename → SpottedRename
spotted w = record {
  q = w.q;
  pr = w.pr;
  copied = w.copied;
  spot = record {
    place = (copy_at w.q w.placed w.copied).place;
    object = (copy_at w.q w.placed w.copied).object;
    from = (copy_at w.q w.placed w.copied).from;
    copied = (copy_at w.q w.placed w.copied).copied;
    lies = (copy_at w.q w.placed w.copied).lies;
  };
  change = w.change;
  ready = w.ready;
}

-- ---- where its bytes come from

module _ (w : SpottedRename) where
  pub source : (t : Transfer) × (w.pr.ready.source ≡ sources.Sectors t) × (t.from.items ≡ w.spot.from.items) × (t.to.items ≡ w.spot.place.extents.items)
  source =
      subst (λ (o : Option Place). IsSourceOf w.pr.change.object o (Some w.spot.from) w.pr.ready.source) w.spot.object
      (subst (λ (c : Option (Vec Extent Global)). IsSourceOf w.pr.change.object w.q.spaces.object c w.pr.ready.source) w.spot.copied w.ready.source)

  -- the file's sectors
  pub from_is : sectors_in w.spot.from.items ≡ w.q.seen.known.target.object.sectors
  from_is =
      let node = target_of.node (Layout.New w.q.m) w.q.nodes w.q.listings w.q.seen.sound w.q.seen.held w.q.from w.q.r.target w.q.seen.known.target in
      same_some (sectors_in w.spot.from.items) w.q.seen.known.target.object.sectors
      (sym (w.spot.lies node (target_of.node_is (Layout.New w.q.m) w.q.nodes w.q.listings w.q.seen.sound w.q.seen.held w.q.from w.q.r.target w.q.seen.known.target))
      ∙ target_of.placed (Layout.New w.q.m) w.q.nodes w.q.listings w.q.seen.sound w.q.seen.held w.q.from w.q.r.target w.q.seen.known.target)
