-- A map that may be committed, and what a commit of it leaves.
use Rattle.std.proofs.Common.{◌≡◌, ◌<◌, ◌≤◌, ◌⊎◌, inl, inr, ℕ, ◌+◌, ◌-◌, ◌*◌, ◌/◌, ◌%◌, true, false, List, ◌++◌, refl, sym, ap, subst, ◌∙◌, arith}
use Rattle.std.specs.Prelude.{filter}
use Rattle.std.proofs.lemmas.Bool.{cases_eq, cases_lt}
use Rattle.std.proofs.lemmas.List.FromFn.{length-range_with_len}
use Rattle.fc_record.specs.declared.Geometry.{Geometry}
use Rattle.fc_record.specs.Kinds.{map_record}
use Rattle.fc_zone.specs.declared.Run.{Run}
use Rattle.fc_zone.proofs.ReadingLemmas.{Zone-zone_of}
use Rattle.fc_newmap.specs.Edits.{AreEdits, IsEdit, KeepsRuns}
use Rattle.fc_newmap.specs.Map.{IsMap, Map, ZoneRun, has_id, id_runs, map_sectors, runs_of, sector_of, sectors_of, shape}
use Rattle.fc_newmap.specs.NewMap.{IsNewMap}
use Rattle.fc_newmap.specs.RunsLaw.{placed}
use Rattle.fc_newmap.proofs.ComposeLemmas.{edit_all, runs_other as runs_elsewhere}
use Rattle.fc_newmap.proofs.HeldLemmas.{geometry_facts}
use Rattle.fc_newmap.proofs.PlaceLemmas.{in_range}
use Rattle.fc_newmap.proofs.RunsLemmas.{place_sector}
use Rattle.fc_alloc.specs.declared.owner.Owner.{Owner}
use Rattle.fc_newmap.specs.declared.copies.Which.TheVariants.{One}
use Rattle.fc_newmap.specs.Committing.{KeepsContents}
use Rattle.fc_newmap.specs.Copies.{Chooses, CommitEnds, CommitLeaves, HoldsCopies, copy_of, is_sound}
use Rattle.fc_newmap.proofs.ReadingLemmas.{chooses_one}
use Rattle.fc_image.specs.Layout.{Layout, hole_sectors, id_sectors, is_among}
use Rattle.fc_image.specs.Objects.{objects_of, is_movable}
use Rattle.fc_image.specs.Moves.{CanCommit, Carried, StaysBy, with_map}
use Rattle.fc_compact.specs.Copy.{IsCopied}
use Rattle.fc_compact.specs.Laws.{Laws}
use Rattle.fc_compact.specs.Ready.{IsReady, is_movable_by}
use Rattle.fc_compact.specs.Slides.{CanShift, HasRuns, HasShifted, row}
use Rattle.fc_compact.specs.declared.shift.Slide.{Slide}
use Rattle.fc_compact.specs.Steps.{Leads, Preserves}
use Rattle.fc_compact.proofs.KeptLemmas.{committed_geometry, committed_record, committed_zone}
use Rattle.fc_compact.proofs.OwnersLemmas.{same_movable}
use Rattle.fc_compact.proofs.PreservesLemmas.{geometry_is}
use Rattle.fc_compact.proofs.SlideLemmas.{around, carried_between, count, grown, hole_low, ids, ids_row_other, kept_back, kept_front, piece_in_hole, row_after, row_before, run_on, stretch, taken}

pub map_is : (m : Map) → IsNewMap m → IsMap m
map_is m is =
    let all = is.all in
    record {
      all = all;
      whole = λ z lt. is.whole z (omega (arith, lt, all));
      right = λ z lt. (runs_of m z, Zone-zone_of (shape m.geometry z) (sector_of m z) (runs_of m z) (is.right z (omega (arith, lt, all))));
    }

-- a sector that isn't the map's lies before it or behind
pub beyond_map : (g : Geometry) (s : ℕ) → is_among (map_sectors g) s ≡ false → (s < g.map_sector) ⊎ (g.map_sector + 2 * g.zones ≤ s)
beyond_map g s out = elim (cases_lt s g.map_sector) [
  | inl before ↦ inl before
  | inr from ↦ elim (cases_lt s (g.map_sector + 2 * g.zones)) [
    | inl inside ↦ absurd (let t = in_range g.map_sector (2 * g.zones) s from inside in cc)
    | inr behind ↦ inr behind
  ]
]

-- ---- a commit

module _ (law : Laws) (m m' : Map) (owners : List Owner) (start : List ℕ) (ready : IsReady m owners start) (after : m'.geometry ≡ m.geometry)
    (can : CanCommit m m' (objects_of ready.view.listings) start) where
  pub commit_preserves : (image : List ℕ) → CommitLeaves m.geometry start (copy_of m.geometry One start) m'.zones image → Preserves m owners start image
  commit_preserves image left = record {
    objects = law.keeps_objects.commit start image ready.kind ready.of_record ready.view m m' ready.new_kind ready.opens ready.layout can
        (subst (λ (zs : List (List ℕ)). CommitLeaves m.geometry start zs m'.zones image) ready.copies.first left);
    frame = record { same_length = left.frame.same_length; outside = λ s out apart. left.frame.outside s (beyond_map m.geometry s out) };
  }

  pub commit_ready : (image : List ℕ) → CommitEnds m.geometry start m'.zones image → IsReady m' owners image
  commit_ready image ends =
      let chosen : Chooses m.geometry m'.zones image = record { which = One; chosen_one = chooses_one m.geometry image (ap is_sound ends.copies.first ∙ ends.copies.sound); content = ends.copies.first } in
      let left : CommitLeaves m.geometry start m.zones m'.zones image = record { frame = ends.frame; content = inr chosen } in
      let stays : StaysBy ready.kind start ready.view m' image =
      (law.commits start image ready.kind ready.of_record ready.view m m' ready.new_kind ready.opens ready.layout can left).1 chosen in
      record {
        kind = ready.kind;
        of_record = ready.of_record;
        view = with_map m' ready.view;
        new_kind = ready.new_kind;
        opens = stays.opens;
        layout = refl;
        copies = subst (λ (g : Geometry). HoldsCopies g m'.zones image) (sym after) ends.copies;
        owned = λ k. ready.owned k ∙ sym (stays.owned k);
      }

-- what the owners say may move, may move by the objects
pub movable_is : (m : Map) (owners : List Owner) (image : List ℕ) (ready : IsReady m owners image) (id : ℕ) → is_movable_by owners id ≡ true → is_movable (objects_of ready.view.listings) id ≡ true
movable_is m owners image ready id may = same_movable owners (objects_of ready.view.listings) ready.owned id ∙ may

-- one identifier alone moves
pub leads_one : (m n m' : Map) (owners : List Owner) (id : ℕ) (edits : AreEdits m n) (runs : KeepsRuns n m') (contents : KeepsContents n m') → is_movable_by owners id ≡ true
    → ((k : ℕ) → (k ≡ id → ⊥) → id_runs m' k ≡ id_runs m k) → Leads owners m m'
leads_one m n m' owners id edits runs contents may others = record {
  was = edits.was;
  map = runs.map;
  geometry = committed_geometry m n m' edits runs contents;
  fixed = λ k stays. others k (λ same. (let e = ap (is_movable_by owners) same ∙ may in cc));
  zones = committed_zone m n m' edits runs contents;
}

-- ---- a piece of a run moves into the hole before it

-- the other identifiers keep their runs
pub moved_others : (law : Laws) (m m' : Map) (is : IsNewMap m) (z : ℕ) (low : z < m.geometry.zones) (start id d s n r' : ℕ) (front rest : List Run)
    → HasRuns m z (front ++ row start id d s (n + r') rest) → m'.geometry ≡ m.geometry → runs_of m' z ≡ front ++ row start id (d + n) s r' rest
    → ((y : ℕ) → (y ≡ z → ⊥) → runs_of m' y ≡ runs_of m y) → (k : ℕ) → (k ≡ id → ⊥) → id_runs m' k ≡ id_runs m k
moved_others law m m' is z low start id d s n r' front rest zone same there runs_other k other =
    let g = m.geometry in
    law.ids m m' k same (geometry_facts g is.of_record).zones
    (λ y lt. elim (cases_eq y z) [
      | inl here ↦ subst (λ (x : ℕ). filter (λ (p : ZoneRun). has_id k p.1.kind) (placed x (runs_of m' x)) ≡ filter (λ (p : ZoneRun). has_id k p.1.kind) (placed x (runs_of m x))) (sym here)
          (ap (ids g (geometry_is m is) z k) there ∙ ids_row_other g (geometry_is m is) z k start id (d + n) s r' front rest other
          ∙ sym (ids_row_other g (geometry_is m is) z k start id d s (n + r') front rest other) ∙ sym (ap (ids g (geometry_is m is) z k) zone))
      | inr apart ↦ ap (λ (rs : List Run). filter (λ (p : ZoneRun). has_id k p.1.kind) (placed y rs)) (runs_other y apart)
    ])

-- its sectors are carried into those that it takes
pub row_carried : (law : Laws) (m m' : Map) (is : IsNewMap m) (z : ℕ) (low : z < m.geometry.zones) (start id d s n r' : ℕ) (front rest : List Run)
    → HasRuns m z (front ++ row start id d s (n + r') rest) → 0 < n → d % m.geometry.q ≡ 0 → n % m.geometry.q ≡ 0 → m'.geometry ≡ m.geometry
    → runs_of m' z ≡ front ++ row start id (d + n) s r' rest → ((y : ℕ) → (y ≡ z → ⊥) → runs_of m' y ≡ runs_of m y) → (image holes : List ℕ)
    → IsCopied m.geometry.sector (place_sector m.geometry z (start + d + s)) (place_sector m.geometry z (start + d)) (n * m.geometry.bit_bytes / m.geometry.sector) image
    → ((i : ℕ) → i < n * m.geometry.bit_bytes / m.geometry.sector → is_among holes (place_sector m.geometry z (start + d) + i) ≡ true)
    → Carried m.geometry.sector image image holes (id_sectors m id) (id_sectors m' id)
row_carried law m m' is z low start id d s n r' front rest zone some d_whole n_whole same there runs_other image holes copied in_holes =
    let g = m.geometry in
    let zones = (geometry_facts g is.of_record).zones in
    let geo = geometry_is m is in
    let cut = law.one_zone m m' z id same zones low (λ y lt other. runs_other y other) in
    let keep_front = kept_front g geo z start id d s n r' front rest in
    let keep_back = kept_back g geo z start id d s n r' front rest in
    let from = stretch g geo z (start + d + s) n in
    let to = stretch g geo z (start + d) n in
    let all : 0 < n + r' = omega (arith, some) in
    let before_low = hole_low m is z low start id d s (n + r') front rest zone all in
    let old : id_sectors m id ≡ (cut.0 ++ keep_front) ++ (from ++ (keep_back ++ cut.1)) =
    cut.2 ∙ ap (λ (xs : List ℕ). cut.0 ++ (xs ++ cut.1))
    (ap (taken g geo z id) zone ∙ row_before g geo z start id d s n r' front rest (omega (arith, before_low)) (run_on m is z low start id d s (n + r') front rest zone all) n_whole)
    ∙ around cut.0 keep_front from keep_back cut.1 in
    let new : id_sectors m' id ≡ (cut.0 ++ keep_front) ++ (to ++ (keep_back ++ cut.1)) =
    ap (λ (h : Geometry). sectors_of h (id_runs m' id)) same
    ∙ cut.3 ∙ ap (λ (xs : List ℕ). cut.0 ++ (xs ++ cut.1))
    (ap (taken g geo z id) there ∙ row_after g geo z start id d s n r' front rest (grown m is z low start id d s (n + r') front rest zone all n d_whole))
    ∙ around cut.0 keep_front to keep_back cut.1 in
    let moved : Carried g.sector image image holes from to =
    law.pieces.piece g.sector image image holes (place_sector g z (start + d + s)) (place_sector g z (start + d)) (count g geo n) copied in_holes in
    subst (λ (xs : List ℕ). Carried g.sector image image holes xs (id_sectors m' id)) (sym old)
    (subst (λ (ys : List ℕ). Carried g.sector image image holes ((cut.0 ++ keep_front) ++ (from ++ (keep_back ++ cut.1))) ys) (sym new)
    (carried_between law g.sector image holes (cut.0 ++ keep_front) from to (keep_back ++ cut.1) moved
    (length-range_with_len (place_sector g z (start + d + s)) (count g geo n) ∙ sym (length-range_with_len (place_sector g z (start + d)) (count g geo n)))))

module _ (law : Laws) (m m' : Map) (owners : List Owner) (image : List ℕ) (ready : IsReady m owners image) (is : IsNewMap m) (is' : IsNewMap m') (z : ℕ) (low : z < m.geometry.zones)
    (start id d s n r' : ℕ) (front rest : List Run) (zone : HasRuns m z (front ++ row start id d s (n + r') rest)) (some : 0 < n) (few : n ≤ s)
    (d_whole : d % m.geometry.q ≡ 0) (n_whole : n % m.geometry.q ≡ 0)
    (same : m'.geometry ≡ m.geometry) (there : runs_of m' z ≡ front ++ row start id (d + n) s r' rest) (runs_other : (y : ℕ) → (y ≡ z → ⊥) → runs_of m' y ≡ runs_of m y)
    (record_stays : map_record (sector_of m' 0) ≡ map_record (sector_of m 0)) (may : is_movable_by owners id ≡ true)
    (copied : IsCopied m.geometry.sector (place_sector m.geometry z (start + d + s)) (place_sector m.geometry z (start + d)) (n * m.geometry.bit_bytes / m.geometry.sector) image) where
  abbrev g : Geometry
  g = m.geometry

  zones : 1 ≤ g.zones
  zones = (geometry_facts g is.of_record).zones

  slid_carried : Carried g.sector image image (hole_sectors (Layout.New m)) (id_sectors m id) (id_sectors m' id)
  slid_carried =
      row_carried law m m' is z low start id d s n r' front rest zone some d_whole n_whole same there runs_other image (hole_sectors (Layout.New m)) copied
      (piece_in_hole m is z low start id d s (n + r') front rest zone (omega (arith, some)) n (omega arith) few n_whole)

  pub slide_can : CanCommit m m' (objects_of ready.view.listings) image
  slide_can = inl (
    id,
    record {
      geometry_stays = same;
      record_stays = record_stays;
      is_map = map_is m' is';
      movable = movable_is m owners image ready id may;
      others = moved_others law m m' is z low start id d s n r' front rest zone same there runs_other;
      carried = slid_carried;
    },
  )

-- ---- a step of a slide, from a map m over an edited map n to a committed map

module _ (law : Laws) (m n m' : Map) (owners : List Owner) (is : IsNewMap m) (s : Slide) (d p : ℕ) (can : CanShift m s d p) (edit : IsEdit m n s.zone) (shifted : HasShifted m n s d p)
    (runs : KeepsRuns n m') (contents : KeepsContents n m') (few : p ≤ s.hole) (d_whole : d % m.geometry.q ≡ 0) (p_whole : p % m.geometry.q ≡ 0) (may : is_movable_by owners s.id ≡ true) where
  abbrev left : ℕ
  left = s.len - (d + p)

  edits : AreEdits m n
  edits = edit_all m n s.zone edit

  pub step_geometry : m'.geometry ≡ m.geometry
  step_geometry = committed_geometry m n m' edits runs contents

  pub step_shifted : HasShifted m m' s d p
  step_shifted front rest zone = runs.runs s.zone ∙ shifted front rest zone

  before_row : HasRuns m s.zone (can.runs.0 ++ row s.start s.id d s.hole (p + left) can.runs.1)
  before_row =
      let within = can.within in
      let e : s.len - d ≡ p + left = omega (arith, within) in
      can.runs.2 ∙ ap (λ (k : ℕ). can.runs.0 ++ row s.start s.id d s.hole k can.runs.1) e

  pub step_others : (y : ℕ) → (y ≡ s.zone → ⊥) → runs_of m' y ≡ runs_of m y
  step_others y other = runs.runs y ∙ runs_elsewhere m n s.zone y edit other

  step_record : map_record (sector_of m' 0) ≡ map_record (sector_of m 0)
  step_record = committed_record m n m' edits runs contents (let f = (geometry_facts m.geometry is.of_record).zones in omega (arith, f))

  there : HasRuns m' s.zone (can.runs.0 ++ row s.start s.id (d + p) s.hole left can.runs.1)
  there = step_shifted can.runs.0 can.runs.1 can.runs.2

  pub step_can : (image : List ℕ) (ready : IsReady m owners image)
      → IsCopied m.geometry.sector (place_sector m.geometry s.zone (s.start + d + s.hole)) (place_sector m.geometry s.zone (s.start + d)) (p * m.geometry.bit_bytes / m.geometry.sector) image
      → CanCommit m m' (objects_of ready.view.listings) image
  step_can image ready copied =
      slide_can law m m' owners image ready is runs.map s.zone can.zone s.start s.id d s.hole p left can.runs.0 can.runs.1 before_row can.some few d_whole p_whole step_geometry there step_others step_record may copied

  pub step_leads : Leads owners m m'
  step_leads = leads_one m n m' owners s.id edits runs contents may (moved_others law m m' is s.zone can.zone s.start s.id d s.hole p left can.runs.0 can.runs.1 before_row step_geometry there step_others)

  pub step_preserves : (was image : List ℕ) (ready : IsReady m owners was)
      → IsCopied m.geometry.sector (place_sector m.geometry s.zone (s.start + d + s.hole)) (place_sector m.geometry s.zone (s.start + d)) (p * m.geometry.bit_bytes / m.geometry.sector) was
      → CommitLeaves n.geometry was (copy_of n.geometry One was) m'.zones image → Preserves m owners was image
  step_preserves was image ready copied left =
      commit_preserves law m m' owners was ready step_geometry (step_can was ready copied) image (subst (λ (g : Geometry). CommitLeaves g was (copy_of g One was) m'.zones image) edit.geometry left)

  pub step_ready : (was image : List ℕ) (ready : IsReady m owners was)
      → IsCopied m.geometry.sector (place_sector m.geometry s.zone (s.start + d + s.hole)) (place_sector m.geometry s.zone (s.start + d)) (p * m.geometry.bit_bytes / m.geometry.sector) was
      → CommitEnds n.geometry was m'.zones image → IsReady m' owners image
  step_ready was image ready copied ends =
      commit_ready law m m' owners was ready step_geometry (step_can was ready copied) image (subst (λ (g : Geometry). CommitEnds g was m'.zones image) edit.geometry ends)
