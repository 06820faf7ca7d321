-- One zone whose lost runs have gone back, and is committed.
use Rattle.std.proofs.Common.{◌≡◌, ◌<◌, ◌≤◌, inl, inr, ℕ, ◌+◌, Bool, List, [], ◌∷◌, ◌++◌, drop, refl, sym, ap, ap₂, subst, ◌∙◌, arith}
use Rattle.std.specs.Prelude.{Contains, filter}
use Rattle.std.specs.List.{range_with_len}
use Rattle.std.proofs.lemmas.Bool.{cases_eq}
use Rattle.std.proofs.lemmas.List.{append-nil}
use Rattle.std.proofs.lemmas.List.Concat.{flat_map-append}
use Rattle.std.proofs.lemmas.List.Elements.{filter-append}
use Rattle.std.proofs.lemmas.List.Sums.{sum_by-append}
use Rattle.fc_bytes.specs.Bits.{bits}
use Rattle.fc_record.specs.declared.Geometry.{Geometry}
use Rattle.fc_record.specs.Record.{base, end_bit, first_bit}
use Rattle.fc_zone.specs.declared.Run.{Run}
use Rattle.fc_zone.specs.Edits.{KeepsLinks}
use Rattle.fc_zone.proofs.WrittenLemmas.{keeps_none, keeps_then}
use Rattle.fc_newmap.specs.Edits.{AreEdits, IsEdit, KeepsRuns}
use Rattle.fc_newmap.specs.Map.{Map, ZoneRun, bits_in, runs_in, runs_of, sector_of, shape}
use Rattle.fc_newmap.specs.NewMap.{IsNewMap}
use Rattle.fc_newmap.specs.RunsLaw.{placed}
use Rattle.fc_newmap.proofs.ComposeLemmas.{edit_all, runs_other}
use Rattle.fc_newmap.proofs.CoverLemmas.{range_cut}
use Rattle.fc_newmap.proofs.GeometryLemmas.{header_high}
use Rattle.fc_newmap.proofs.HeldLemmas.{on_disc}
use Rattle.fc_alloc.specs.declared.owner.Owner.{Owner}
use Rattle.fc_newmap.specs.declared.copies.Which.TheVariants.{One}
use Rattle.fc_newmap.specs.Committing.{CanWrite, KeepsContents}
use Rattle.fc_newmap.specs.Copies.{CommitEnds, CommitLeaves, HoldsCopies, copy_of}
use Rattle.fc_image.specs.safe.Reclaim.{all_absorbed}
use Rattle.fc_changes.proofs.CommittedLemmas.{kept_links, record_same, steady_zone}
use Rattle.fc_plan.specs.Giving.{as_spaces, spaces_in}
use Rattle.fc_compact.specs.Compaction.{ZoneStays}
use Rattle.fc_reclaim.specs.Kept.{IsReadyBy, KeepsOwned}
use Rattle.fc_reclaim.specs.Lost.{goes_back, is_used_run}
use Rattle.fc_reclaim.specs.Map.{IsReclaimed, IsReclaimedAt, IsReclaimedBelow, bits_below}
use Rattle.fc_reclaim.specs.Zone.{IsReclaimedIn, going, staying}
use Rattle.fc_reclaim.proofs.KeptLemmas.{commit_keeps, commit_ready}
use Rattle.fc_reclaim.proofs.OwnedLemmas.{HasPassed}
use Rattle.fc_compact.proofs.PreservesLemmas.{geometry_is}
use Rattle.fc_compact.proofs.LeadsLemmas.{zone_none, zone_then}

-- ---- one zone

pub can_write : (m n : Map) (edits : AreEdits m n) (changed image : List ℕ) → HoldsCopies m.geometry m.zones image → ((y : ℕ) → y < m.geometry.zones → (Contains changed y → ⊥) → sector_of n y ≡ sector_of m y)
    → CanWrite n changed image
can_write m n edits changed image copies others = record {
  base = m.zones;
  copies = subst (λ (g : Geometry). HoldsCopies g m.zones image) (sym edits.geometry) copies;
  crosses = λ y lt. edits.bytes y 3 (inr (omega arith)) (inl (header_high y));
  others = λ y lt out. others y (subst (λ (g : Geometry). y < g.zones) edits.geometry lt) out;
}

reclaimed_as : (goes goes' : ZoneRun → Bool) (a b c d : Map) (z : ℕ) → goes ≡ goes' → runs_of a z ≡ runs_of c z → runs_of b z ≡ runs_of d z → IsReclaimedIn goes a b z → IsReclaimedIn goes' c d z
reclaimed_as goes goes' a b c d z test old new is = record {
  holes = ap spaces_in (sym new) ∙ is.holes ∙ ap₂ (λ (t : ZoneRun → Bool) (rs : List Run). all_absorbed (spaces_in rs) (as_spaces (going t z rs))) test old;
  rest = ap (λ (rs : List Run). filter is_used_run (placed z rs)) (sym new) ∙ is.rest ∙ ap₂ (λ (t : ZoneRun → Bool) (rs : List Run). staying t z rs) test old;
}

pub passed_at : (boot : Bool) (owners : List Owner) (m m' : Map) (z : ℕ) → IsReclaimedAt boot owners m m' z → HasPassed boot owners m m'
passed_at boot owners m m' z at = record {
  was = at.was;
  map = at.map;
  geometry = at.geometry;
  zones = λ y low. elim (cases_eq y z) [
    | inl here ↦ inr (subst (IsReclaimedIn (goes_back boot owners m.geometry) m m') (sym here) at.done)
    | inr other ↦ inl (at.others y other)
  ];
}

pub passed_all : (boot : Bool) (owners : List Owner) (m m' : Map) → IsReclaimed boot owners m m' → HasPassed boot owners m m'
passed_all boot owners m m' done = record { was = done.was; map = done.map; geometry = done.geometry; zones = λ z low. inr (done.done z low) }

-- nothing has changed
pub at_none : (boot : Bool) (owners : List Owner) (m n : Map) (z : ℕ) → IsEdit m n z → IsReclaimedIn (goes_back boot owners m.geometry) m n z → n ≡ m → IsReclaimedAt boot owners m n z
at_none boot owners m n z edit done same = record {
  was = edit.was;
  map = edit.map;
  geometry = edit.geometry;
  done = done;
  others = λ y other. runs_other m n z y edit other;
  stays = λ y low. subst (λ (k : Map). ZoneStays m k y) (sym same) (zone_none m y);
}

module _ (boot : Bool) (owners : List Owner) (m n m' : Map) (z : ℕ) (edit : IsEdit m n z) (done : IsReclaimedIn (goes_back boot owners m.geometry) m n z) (kept : KeepsRuns n m') (contents : KeepsContents n m') where
  edits : AreEdits m n
  edits = edit_all m n z edit

  pub at_step : IsReclaimedAt boot owners m m' z
  at_step = record {
    was = edit.was;
    map = kept.map;
    geometry = kept.geometry ∙ edit.geometry;
    done = reclaimed_as (goes_back boot owners m.geometry) (goes_back boot owners m.geometry) m n m m' z refl refl (sym (kept.runs z)) done;
    others = λ y other. kept.runs y ∙ runs_other m n z y edit other;
    stays = λ y low. record { outside = steady_zone m n m' edits kept contents y low; links = kept_links m n m' edits kept contents y low };
  }

  pub zone_keeps : (was image : List ℕ) → IsReadyBy boot m owners was → CommitLeaves n.geometry was (copy_of n.geometry One was) m'.zones image → KeepsOwned boot owners m.geometry was image
  zone_keeps was image by left =
      let at : CommitLeaves m.geometry was m.zones m'.zones image =
      subst (λ (zs : List (List ℕ)). CommitLeaves m.geometry was zs m'.zones image) by.ready.copies.first
      (subst (λ (g : Geometry). CommitLeaves g was (copy_of g One was) m'.zones image) edit.geometry left) in
      commit_keeps boot owners m m' (passed_at boot owners m m' z at_step) (record_same m n m' edits kept contents) was image at.frame
      by.ready.kind by.ready.of_record by.ready.view by.ready.new_kind by.ready.opens by.ready.layout at.content

  pub zone_ready : (was image : List ℕ) → IsReadyBy boot m owners was → CommitEnds n.geometry was m'.zones image → IsReadyBy boot m' owners image
  zone_ready was image by ends =
      let at : CommitEnds m.geometry was m'.zones image = subst (λ (g : Geometry). CommitEnds g was m'.zones image) edit.geometry ends in
      commit_ready boot owners m m' (passed_at boot owners m m' z at_step) (record_same m n m' edits kept contents) was image at.frame
      by.ready.kind by.ready.of_record by.ready.view by.ready.new_kind by.ready.opens by.ready.layout by.covers by.ready.owned at.copies

-- ---- one zone after another

pub below_start : (boot : Bool) (owners : List Owner) (m : Map) → IsNewMap m → IsReclaimedBelow boot owners m m 0
below_start boot owners m is = record { was = is; map = is; geometry = refl; done = λ z low. absurd (omega (arith, low)); later = λ z high. refl; stays = λ z low. zone_none m z }

pub below_then : (boot : Bool) (owners : List Owner) (m0 m m' : Map) (z : ℕ) → IsReclaimedBelow boot owners m0 m z → IsReclaimedAt boot owners m m' z → IsReclaimedBelow boot owners m0 m' (z + 1)
below_then boot owners m0 m m' z was at =
    let test : goes_back boot owners m.geometry ≡ goes_back boot owners m0.geometry = ap (goes_back boot owners) was.geometry in
    record {
      was = was.was;
      map = at.map;
      geometry = at.geometry ∙ was.geometry;
      done = λ y low. elim (cases_eq y z) [
        | inl here ↦ subst (IsReclaimedIn (goes_back boot owners m0.geometry) m0 m') (sym here)
            (reclaimed_as (goes_back boot owners m.geometry) (goes_back boot owners m0.geometry) m m' m0 m' z test (was.later z (omega arith)) refl at.done)
        | inr other ↦ reclaimed_as (goes_back boot owners m0.geometry) (goes_back boot owners m0.geometry) m0 m m0 m' y refl refl (sym (at.others y other)) (was.done y (omega (arith, low, other)))
      ];
      later = λ y high. at.others y (λ here. omega (arith, here, high)) ∙ was.later y (omega (arith, high));
      stays = λ y low. zone_then m0 m m' y was.geometry (was.stays y low) (at.stays y (subst (λ (g : Geometry). y < g.zones) (sym was.geometry) low));
    }

pub bits_more : (boot : Bool) (owners : List Owner) (m : Map) (z count : ℕ) → count ≡ bits_in (going (goes_back boot owners m.geometry) z (runs_of m z)) → bits_below boot owners m z + count ≡ bits_below boot owners m (z + 1)
bits_more boot owners m z count e =
    let goes = goes_back boot owners m.geometry in
    let cut : range_with_len 0 (z + 1) ≡ range_with_len 0 z ++ z ∷ [] = range_cut 0 z 1 ∙ ap (λ (k : ℕ). range_with_len 0 z ++ k ∷ []) (let k : 0 + z ≡ z = omega arith in k) in
    let all : runs_in m (range_with_len 0 (z + 1)) ≡ runs_in m (range_with_len 0 z) ++ placed z (runs_of m z) =
    ap (runs_in m) cut ∙ flat_map-append (λ (y : ℕ). placed y (runs_of m y)) (range_with_len 0 z) (z ∷ []) ∙ ap (λ (ps : List ZoneRun). runs_in m (range_with_len 0 z) ++ ps) (append-nil (placed z (runs_of m z))) in
    ap (λ (k : ℕ). bits_below boot owners m z + k) e
    ∙ sym (ap (λ (ps : List ZoneRun). bits_in (filter goes ps)) all
    ∙ ap bits_in (filter-append goes (runs_in m (range_with_len 0 z)) (placed z (runs_of m z)))
    ∙ sum_by-append (λ (p : ZoneRun). p.1.len) (filter goes (runs_in m (range_with_len 0 z))) (going goes z (runs_of m z)))

-- the bits of the zones so far fit the disc
pub record Fits (g : Geometry) (z total : ℕ) : Type 0 where
  pub within : z < g.zones → total ≤ base g z
  pub whole : z ≡ g.zones → total ≤ g.disc_bits

pub fits_more : (m : Map) (z total count : ℕ) → IsNewMap m → z < m.geometry.zones → Fits m.geometry z total → first_bit z + count ≤ end_bit m.geometry z → Fits m.geometry (z + 1) (total + count)
fits_more m z total count is low fits short =
    let g = m.geometry in
    let was = fits.within low in
    record {
      within = λ more. (let next = (geometry_is m is).next z more in omega (arith, was, short, next));
      whole = λ last. (let end = on_disc g z is.of_record low in omega (arith, was, short, end));
    }
