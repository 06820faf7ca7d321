-- What each step of compaction preserves, by the map from which compaction began.
use Rattle.std.proofs.Common.{◌≡◌, ◌≤◌, ℕ, Bool, true, false, List, refl, sym, ap, subst, ◌∙◌}
use Rattle.std.specs.Prelude.{filter, Contains}
use Rattle.std.proofs.lemmas.Bool.{eq-eqb}
use Rattle.fc_device.specs.Sectors.{sector_at}
use Rattle.fc_record.specs.declared.Geometry.{Geometry}
use Rattle.fc_zone.specs.declared.RunKind.{RunKind}
use Rattle.fc_zone.specs.declared.RunKind.TheVariants as kinds
use Rattle.fc_newmap.specs.Map.{Map, ZoneRun, all_runs, has_id, hole_runs, id_runs, is_hole, map_sectors}
use Rattle.fc_newmap.specs.NewMap.{IsNewMap}
use Rattle.fc_newmap.specs.RunsLaw.{HoldsSector, IsGeometry}
use Rattle.fc_newmap.proofs.CoverLemmas.{run_there}
use Rattle.fc_newmap.proofs.GeometryLemmas.{geometry_of_valid}
use Rattle.fc_newmap.proofs.HeldLemmas.{geometry_facts}
use Rattle.fc_newmap.proofs.PlaceLemmas.{filter_in, held_in, holder_of, id_run_in, in_filter, in_id_runs}
use Rattle.fc_newmap.proofs.RunsLemmas.{runs_apart}
use Rattle.fc_alloc.specs.declared.owner.Owner.{Owner}
use Rattle.fc_image.specs.Layout.{Layout, hole_sectors, is_among}
use Rattle.fc_image.specs.Moves.{KeepsObjects}
use Rattle.fc_compact.specs.Compaction.{is_loose, loose_sectors}
use Rattle.fc_compact.specs.Laws.{Laws}
use Rattle.fc_compact.specs.Ready.{is_movable_by}
use Rattle.fc_compact.specs.Steps.{Leads, Preserves}

pub geometry_is : (m : Map) → IsNewMap m → IsGeometry m.geometry
geometry_is m is = subst (λ (g : Geometry). IsGeometry g) is.of_record.1.1 (geometry_of_valid is.of_record.0 is.of_record.1.0)

pub preserves_same : (law : Laws) (m : Map) (owners : List Owner) (image : List ℕ) → Preserves m owners image image
preserves_same law m owners image = record { objects = law.keeps_objects.same m.geometry image; frame = record { same_length = refl; outside = λ s out apart. refl } }

pub preserves_then : (law : Laws) (m : Map) (owners : List Owner) (a b c : List ℕ) → Preserves m owners a b → Preserves m owners b c → Preserves m owners a c
preserves_then law m owners a b c one two = record {
  objects = law.keeps_objects.after m.geometry a b c one.objects two.objects;
  frame = record {
    same_length = two.frame.same_length ∙ one.frame.same_length;
    outside = λ s out apart. two.frame.outside s out apart ∙ one.frame.outside s out apart;
  };
}

-- a hole's sector is loose
pub hole_loose : (m : Map) (owners : List Owner) (s : ℕ) → is_among (loose_sectors m owners) s ≡ false → is_among (hole_sectors (Layout.New m)) s ≡ false
hole_loose m owners s apart = unless (is_among (hole_sectors (Layout.New m)) s) refl
  where
    loose : (k : RunKind) → is_hole k ≡ true → is_loose owners k ≡ true
    loose kinds.Hole e = refl
    loose (kinds.Id id) e = absurd (cc)

    unless : (b : Bool) → is_among (hole_sectors (Layout.New m)) s ≡ b → b ≡ false
    unless false e = refl
    unless true e = absurd (
        let p = holder_of m.geometry (hole_runs m) s e in
        let there = filter_in (λ (q : ZoneRun). is_hole q.1.kind) (all_runs m) p.0 p.1.0 in
        let among = held_in m.geometry (filter (λ q. is_loose owners q.1.kind) (all_runs m)) p.0 s
        (in_filter (λ q. is_loose owners q.1.kind) (all_runs m) p.0 there.0 (loose p.0.1.kind there.1)) p.1.1 in
        cc)

module _ (m m' : Map) (owners : List Owner) (is : IsNewMap m) (is' : IsNewMap m') (e : m'.geometry ≡ m.geometry)
    (fixed : (id : ℕ) → is_movable_by owners id ≡ false → id_runs m' id ≡ id_runs m id) where
  some : 1 ≤ m.geometry.zones
  some = (geometry_facts m.geometry is.of_record).zones

  some' : 1 ≤ m'.geometry.zones
  some' = subst (λ (g : Geometry). 1 ≤ g.zones) (sym e) some

  stuck : (k : RunKind) → is_loose owners k ≡ false → (id : ℕ) × ((has_id id k ≡ true) × (is_movable_by owners id ≡ false))
  stuck kinds.Hole h = absurd (cc)
  stuck (kinds.Id id) h = (id, (eq-eqb id id refl, h))

  -- a loose sector was loose before
  pub loose_before : (s : ℕ) → is_among (loose_sectors m' owners) s ≡ true → is_among (loose_sectors m owners) s ≡ true
  loose_before s h =
      let test : ZoneRun → Bool = λ q. is_loose owners q.1.kind in
      let p' = holder_of m'.geometry (filter test (all_runs m')) s h in
      let f' = filter_in test (all_runs m') p'.0 p'.1.0 in
      let holds' : HoldsSector m.geometry p'.0 s = subst (λ (g : Geometry). HoldsSector g p'.0 s) e p'.1.1 in
      let p = run_there m m' e (geometry_is m is) is.right is'.right some p'.0 s f'.0 holds' in
      by p'.0 p.0 f' p.1 holds' (is_loose owners p.0.1.kind) refl
    where
      by : (p' p : ZoneRun) → Contains (all_runs m') p' × (is_loose owners p'.1.kind ≡ true) → Contains (all_runs m) p × HoldsSector m.geometry p s
          → HoldsSector m.geometry p' s → (b : Bool) → is_loose owners p.1.kind ≡ b → is_among (loose_sectors m owners) s ≡ true
      by p' p f' c holds' true l =
          held_in m.geometry (filter (λ q. is_loose owners q.1.kind) (all_runs m)) p s (in_filter (λ q. is_loose owners q.1.kind) (all_runs m) p c.0 l) c.1
      by p' p f' c holds' false l =
          absurd (
          let id = stuck p.1.kind l in
          let there = subst (λ (ps : List ZoneRun). Contains ps p) (sym (fixed id.0 id.1.1)) (in_id_runs m id.0 p some c.0 id.1.0) in
          let p_in = id_run_in m' id.0 p some' there in
          let same = runs_apart m' (geometry_is m' is') is'.right p p' p_in.0 f'.0 s (subst (λ (g : Geometry). HoldsSector g p s) (sym e) c.1) (subst (λ (g : Geometry). HoldsSector g p' s) (sym e) holds') in
          let l' : is_loose owners p'.1.kind ≡ false = ap (λ (q : ZoneRun). is_loose owners q.1.kind) (sym same) ∙ l in
          let t' = f'.1 in
          cc)

  pub preserves_before : (a b : List ℕ) → Preserves m' owners a b → Preserves m owners a b
  preserves_before a b p = record {
    objects = subst (λ (g : Geometry). KeepsObjects g a b) e p.objects;
    frame = record {
      same_length = p.frame.same_length;
      outside = λ s out apart.
          subst (λ (g : Geometry). sector_at g.sector b s ≡ sector_at g.sector a s) e
          (p.frame.outside s (subst (λ (g : Geometry). is_among (map_sectors g) s ≡ false) (sym e) out) (unless s apart (is_among (loose_sectors m' owners) s) refl));
    };
  }
    where
      unless : (s : ℕ) → is_among (loose_sectors m owners) s ≡ false → (b : Bool) → is_among (loose_sectors m' owners) s ≡ b → is_among (loose_sectors m' owners) s ≡ false
      unless s apart false h = h
      unless s apart true h = absurd (let t = loose_before s h in cc)

pub preserves_from : (m m' : Map) (owners : List Owner) → Leads owners m m' → (a b : List ℕ) → Preserves m' owners a b → Preserves m owners a b
preserves_from m m' owners leads a b p = preserves_before m m' owners leads.was leads.map leads.geometry leads.fixed a b p
