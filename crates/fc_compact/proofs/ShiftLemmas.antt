-- A hole and a run that change places in a zone: one edit after another.
use Rattle.std.proofs.Common.{◌≡◌, ◌<◌, ◌≤◌, ℕ, ◌+◌, ◌-◌, ◌%◌, Bool, true, false, cond, List, [], ◌∷◌, ◌++◌, refl, sym, ap, subst, ◌∙◌, arith, append_assoc}
use Rattle.std.specs.Prelude.{◌==◌}
use Rattle.std.proofs.lemmas.Bool.{ne_eqb}
use Rattle.fc_zone.specs.declared.Run.{Run}
use Rattle.fc_zone.specs.declared.RunKind.TheVariants as kinds
use Rattle.fc_zone.specs.Edits.{HasHoleAt, HasRunAt, HasRunToSplit, HasRunsToMerge}
use Rattle.fc_record.specs.declared.Geometry.{Geometry}
use Rattle.fc_newmap.specs.Edits.{IsEdit, MergesIn, RelabelsIn, SplitsIn}
use Rattle.fc_newmap.specs.Map.{Map, sector_of, shape}
use Rattle.fc_newmap.specs.NewMap.{IsNewMap}
use Rattle.fc_newmap.proofs.ComposeLemmas.{zone_cut}
use Rattle.fc_compact.specs.Slides.{HasRuns, hole_at, part, row, run_at}

-- ---- parts of a row

pub part_before : (start len id : ℕ) (rest : List Run) → part start len id rest ≡ part start len id [] ++ rest
part_before start len id rest = by (len == 0)
  where
    by : (b : Bool) → cond b rest (run_at start len id ∷ rest) ≡ cond b [] (run_at start len id ∷ []) ++ rest
    by true = refl
    by false = refl

pub part_some : (start len id : ℕ) (rest : List Run) → 0 < len → part start len id rest ≡ run_at start len id ∷ rest
part_some start len id rest some = ap (λ b. cond b rest (run_at start len id ∷ rest)) (ne_eqb len 0 (omega arith))

pub front_with : (front : List Run) (start len id : ℕ) (rest : List Run) → front ++ part start len id rest ≡ (front ++ part start len id []) ++ rest
front_with front start len id rest = ap (λ (rs : List Run). front ++ rs) (part_before start len id rest) ∙ sym (append_assoc front (part start len id []) rest)

-- ---- closing

module _ (m : Map) (z start id done hole left : ℕ) (front rest : List Run) (runs : HasRuns m z (front ++ row start id done hole left rest)) where
  abbrev lead : List Run
  lead = front ++ part start done id []

  abbrev tail : List Run
  tail = part (start + done + hole) left id rest

  led : HasRuns m z (lead ++ hole_at (start + done) hole ∷ tail)
  led = runs ∙ front_with front start done id (hole_at (start + done) hole ∷ tail)

  pub hole_to_label : IsNewMap m → z < m.geometry.zones → HasHoleAt (shape m.geometry z) (sector_of m z) (start + done)
  hole_to_label is low = (hole_at (start + done) hole, (refl, refl, (lead, (tail, zone_cut m z (lead ++ hole_at (start + done) hole ∷ tail) is low led))))

  pub labelled_row : (n : Map) → RelabelsIn m n z (start + done) (kinds.Id id) → HasRuns n z (front ++ part start done id (run_at (start + done) hole id ∷ tail))
  labelled_row n relabels = relabels lead tail (hole_at (start + done) hole) led refl ∙ sym (front_with front start done id (run_at (start + done) hole id ∷ tail))

-- two runs of one identifier
module _ (m : Map) (z start id len left at : ℕ) (front rest : List Run) (some : 0 < left) (runs : HasRuns m z (front ++ run_at start len id ∷ part at left id rest)) where
  both : HasRuns m z (front ++ run_at start len id ∷ (run_at at left id ∷ rest))
  both = runs ∙ ap (λ (rs : List Run). front ++ run_at start len id ∷ rs) (part_some at left id rest some)

  pub runs_to_merge : IsNewMap m → z < m.geometry.zones → HasRunsToMerge (shape m.geometry z) (sector_of m z) start
  runs_to_merge is low =
      (run_at start len id, run_at at left id, refl, refl, (front, (rest, zone_cut m z (front ++ run_at start len id ∷ (run_at at left id ∷ rest)) is low both)))

  pub merged_row : (n : Map) → MergesIn m n z start → HasRuns n z (front ++ run_at start (len + left) id ∷ rest)
  merged_row n merges = merges front rest (run_at start len id) (run_at at left id) both refl

-- ---- opening

-- a run that is cut, if more are left of it
module _ (m : Map) (z start id len left : ℕ) (front rest : List Run) (runs : HasRuns m z (front ++ run_at start (len + left) id ∷ rest)) where
  pub cut_run : (n : Map) → 0 < left → SplitsIn m n z start len → HasRuns n z (front ++ run_at start len id ∷ part (start + len) left id rest)
  cut_run n some splits =
      splits front rest (run_at start (len + left) id) runs refl
      ∙ ap (λ (k : ℕ). front ++ run_at start len id ∷ (run_at (start + len) k id ∷ rest)) (let e : len + left - len ≡ left = omega arith in e)
      ∙ ap (λ (rs : List Run). front ++ run_at start len id ∷ rs) (sym (part_some (start + len) left id rest some))

module _ (m : Map) (z start id done hole left : ℕ) (front rest : List Run) (runs : HasRuns m z (front ++ run_at start (done + hole + left) id ∷ rest)) where
  pub open_split : IsNewMap m → z < m.geometry.zones → done % m.geometry.q ≡ 0 → m.geometry.min ≤ done → m.geometry.min ≤ hole
      → HasRunToSplit (shape m.geometry z) (sector_of m z) start done
  open_split is low whole room hole_room = (
    run_at start (done + hole + left) id,
    (
      refl,
      record { whole = whole; room = room; rest_room = omega (arith, hole_room) },
      (front, (rest, zone_cut m z (front ++ run_at start (done + hole + left) id ∷ rest) is low runs)),
    ),
  )

  pub split_row : (n : Map) → SplitsIn m n z start done → HasRuns n z ((front ++ run_at start done id ∷ []) ++ run_at (start + done) (hole + left) id ∷ rest)
  split_row n splits =
      splits front rest (run_at start (done + hole + left) id) runs refl
      ∙ ap (λ (k : ℕ). front ++ run_at start done id ∷ (run_at (start + done) k id ∷ rest)) (let e : done + hole + left - done ≡ hole + left = omega arith in e)
      ∙ sym (append_assoc front (run_at start done id ∷ []) (run_at (start + done) (hole + left) id ∷ rest))

module _ (m : Map) (z start id done hole : ℕ) (front tail : List Run) (runs : HasRuns m z ((front ++ run_at start done id ∷ []) ++ run_at (start + done) hole id ∷ tail)) where
  pub run_to_release : IsNewMap m → z < m.geometry.zones → HasRunAt (shape m.geometry z) (sector_of m z) (start + done)
  run_to_release is low =
      (run_at (start + done) hole id, (refl, (front ++ run_at start done id ∷ [], (tail, zone_cut m z ((front ++ run_at start done id ∷ []) ++ run_at (start + done) hole id ∷ tail) is low runs))))

  pub released_row : (n : Map) → RelabelsIn m n z (start + done) kinds.Hole → HasRuns n z (front ++ run_at start done id ∷ (hole_at (start + done) hole ∷ tail))
  released_row n relabels =
      relabels (front ++ run_at start done id ∷ []) tail (run_at (start + done) hole id) runs refl ∙ append_assoc front (run_at start done id ∷ []) (hole_at (start + done) hole ∷ tail)

-- a zone of a map is one of the map after an edit
pub low_then : (m n : Map) (z y : ℕ) → IsEdit m n y → z < m.geometry.zones → z < n.geometry.zones
low_then m n z y e low = subst (λ (g : Geometry). z < g.zones) (sym e.geometry) low
