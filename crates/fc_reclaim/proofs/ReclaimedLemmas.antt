-- One run of a zone, in the walk that gives lost runs back.
use Rattle.std.proofs.Common.{◌≡◌, ◌<◌, ◌≤◌, ℕ, suc, ◌+◌, Bool, true, false, cond, List, [], ◌∷◌, ◌++◌, Option, Some, IsTrue, IsFalse, refl, sym, ap, ap₂, subst, ◌∙◌, arith, append_assoc}
use Rattle.std.specs.Prelude.{Contains, not, slice_get, ◌&&◌}
use Rattle.fc_device.specs.declared.disk.Extent.{Extent}
use Rattle.fc_objects.specs.Extents.{extent_sectors}
use Rattle.fc_record.specs.declared.Geometry.{Geometry}
use Rattle.fc_zone.specs.declared.Run.{Run}
use Rattle.fc_zone.specs.declared.RunKind.{RunKind}
use Rattle.fc_zone.specs.declared.RunKind.TheVariants.{Hole, Id}
use Rattle.fc_newmap.specs.Edits.{IsEdit}
use Rattle.fc_newmap.specs.Map.{Map, ZoneRun, extent_of, is_hole, map_sectors, run_sectors, runs_of}
use Rattle.fc_newmap.specs.NewMap.{IsNewMap}
use Rattle.fc_newmap.specs.RunsLaw.{placed}
use Rattle.fc_newmap.specs.Walk.{IsInZone}
use Rattle.fc_alloc.specs.declared.owner.Owner.{Owner}
use Rattle.fc_image.specs.Layout.{is_apart}
use Rattle.fc_plan.proofs.MapLemmas.{run_placed}
use Rattle.fc_reclaim.specs.Lost.{boot_row, goes_back, is_lost_by, is_lost_kind}
use Rattle.fc_reclaim.specs.Zone.{AreHoles, behind_holes, chain_after, given, left_after}
use Rattle.fc_reclaim.proofs.PassLemmas.{IsPassing, go_back, stay}
use Rattle.fc_plan.proofs.Gives.{here_in}

-- ---- whether it goes

pub goes_used : (boot : Bool) (owners : List Owner) (g : Geometry) (p : ZoneRun) → goes_back boot owners g p ≡ true → is_hole p.1.kind ≡ false
goes_used boot owners g p = by p.1.kind
  where
    by : (k : RunKind) → (is_lost_kind owners k && is_apart (run_sectors g p) (map_sectors g) && is_apart (run_sectors g p) (boot_row boot g.sector)) ≡ true → is_hole k ≡ false
    by Hole e = absurd (cc)
    by (Id id) e = refl

not_not : (b c : Bool) → c ≡ not b → not c ≡ b
not_not true c e = ap not e
not_not false c e = ap not e

pub goes_lost : (boot : Bool) (owners : List Owner) (g : Geometry) (z : ℕ) (run : Run) (id : ℕ) (place row block : Extent) (of_map of_boot lost : Bool)
    → run.kind ≡ Id id → place ≡ extent_of g (z, run) → extent_sectors row ≡ map_sectors g → extent_sectors block ≡ boot_row boot g.sector
    → lost ≡ is_lost_by owners id → lost ≡ true → of_map ≡ not (is_apart (extent_sectors place) (extent_sectors row)) → of_map ≡ false
    → of_boot ≡ not (is_apart (extent_sectors place) (extent_sectors block)) → not of_boot ≡ goes_back boot owners g (z, run)
goes_lost boot owners g z run id place row block of_map of_boot lost kind there map_is block_is lost_is yes' map_test no' boot_test =
    let at : extent_sectors place ≡ run_sectors g (z, run) = ap extent_sectors there in
    let free : is_apart (run_sectors g (z, run)) (map_sectors g) ≡ true =
    sym (ap₂ is_apart at map_is) ∙ sym (not_not (is_apart (extent_sectors place) (extent_sectors row)) of_map map_test) ∙ ap not no' in
    let is_lost : is_lost_kind owners run.kind ≡ true = ap (is_lost_kind owners) kind ∙ sym lost_is ∙ yes' in
    not_not (is_apart (extent_sectors place) (extent_sectors block)) of_boot boot_test ∙ ap₂ is_apart at block_is
    ∙ sym (ap₂ (λ (a b : Bool). a && b && is_apart (run_sectors g (z, run)) (boot_row boot g.sector)) is_lost free)

-- ---- where it lies

pub in_zone : (m : Map) (z : ℕ) (front links rest : List Run) (run : Run) → IsNewMap m → z < m.geometry.zones → runs_of m z ≡ front ++ (links ++ run ∷ rest) → IsInZone m.geometry (z, run)
in_zone m z front links rest run is low runs =
    let cut : runs_of m z ≡ (front ++ links) ++ run ∷ rest = runs ∙ sym (append_assoc front links (run ∷ rest)) in
    (run_placed m is (z, run) low (subst (λ (rs : List Run). Contains (placed z rs) (z, run)) (sym cut) (here_in z (front ++ links) rest run))).in_zone

-- ---- what becomes of it

pub passed_on : (goes : ZoneRun → Bool) (used : (p : ZoneRun) → goes p ≡ true → is_hole p.1.kind ≡ false) (z : ℕ) (m now : Map) (chain : Option Run) (run : Run) (rest : List Run) (count : ℕ)
    (low : z < m.geometry.zones) (is : IsPassing goes z m now chain (run ∷ rest) count) (then : Map) (edit : IsEdit now then z) (flag : Bool) (result : Option Run) → flag ≡ goes (z, run)
    → (IsTrue flag → (front links rest : List Run) → runs_of now z ≡ front ++ (links ++ run ∷ rest) → chain ≡ slice_get links 0 → AreHoles links
    → (runs_of then z ≡ front ++ given links run rest ∷ behind_holes rest) × (result ≡ Some (given links run rest)))
    → (IsFalse flag → result ≡ chain_after chain run) → (IsFalse flag → then ≡ now) → IsPassing goes z m then result (left_after flag rest) (count + cond flag run.len 0)
passed_on goes used z m now chain run rest count low is then edit true result test runs stays same =
    let at = runs refl is.front is.links rest is.new is.first is.are in
    subst (λ (o : Option Run). IsPassing goes z m then o (behind_holes rest) (count + run.len)) (sym at.1) (go_back goes used z m now chain run rest count low is then edit (sym test) at.0)
passed_on goes used z m now chain run rest count low is then edit false result test runs stays same =
    subst (λ (k : ℕ). IsPassing goes z m then result rest k) (let e : count ≡ count + 0 = omega arith in e)
    (subst (λ (o : Option Run). IsPassing goes z m then o rest count) (sym (stays refl)) (stay goes used z m now chain run rest count low is then edit (sym test) (same refl)))
