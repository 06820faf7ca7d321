-- Two runs of a zone that become one.
use Rattle.std.proofs.Common.{◌≡◌, ◌<◌, ◌≤◌, inl, inr, ℕ, ◌+◌, Bool, true, false, cond, List, ◌∷◌, ◌++◌, length-append, refl, sym, ap, subst, ◌∙◌, arith, append_assoc}
use Rattle.std.specs.Prelude.{filter}
use Rattle.std.proofs.lemmas.Bool.{cases_eq}
use Rattle.std.proofs.lemmas.List.{map-append}
use Rattle.std.proofs.lemmas.List.Elements.{filter-append}
use Rattle.std.proofs.lemmas.List.Sums.{sum_by-append, sum_by-cons}
use Rattle.std.proofs.lemmas.Grind.{flat_map-append}
use Rattle.fc_bytes.specs.Bits.{bits}
use Rattle.fc_record.specs.declared.Geometry.{Geometry}
use Rattle.fc_zone.specs.declared.Run.{Run}
use Rattle.fc_zone.specs.declared.RunKind.{RunKind}
use Rattle.fc_zone.proofs.HolderLemmas.{run_spelled}
use Rattle.fc_zone.proofs.ZoneLemmas.{Spells-le}
use Rattle.fc_newmap.specs.Edits.{AreEdits, IsEdit, KeepsRuns, MergesIn}
use Rattle.fc_newmap.specs.Map.{Map, ZoneRun, has_id, id_runs, is_hole, run_sectors, runs_of, sector_of, sectors_of, shape}
use Rattle.fc_newmap.specs.NewMap.{IsNewMap}
use Rattle.fc_newmap.specs.RunsLaw.{placed}
use Rattle.fc_newmap.proofs.ComposeLemmas.{edit_all, runs_other, zone_cut}
use Rattle.fc_newmap.proofs.HeldLemmas.{geometry_facts}
use Rattle.fc_alloc.specs.declared.owner.Owner.{Owner}
use Rattle.fc_newmap.specs.Committing.{KeepsContents}
use Rattle.fc_newmap.specs.declared.copies.Which.TheVariants.{One}
use Rattle.fc_newmap.specs.Copies.{CommitEnds, CommitLeaves, copy_of}
use Rattle.fc_image.specs.Layout.{id_sectors}
use Rattle.fc_image.specs.Objects.{objects_of}
use Rattle.fc_image.specs.Moves.{CanCommit}
use Rattle.fc_compact.specs.Joins.{ids_in, joined}
use Rattle.fc_compact.specs.Laws.{Laws}
use Rattle.fc_compact.specs.Ready.{IsReady, is_movable_by}
use Rattle.fc_compact.specs.Settlement.{CanMergeRuns, run_weight, zone_weight}
use Rattle.fc_compact.specs.Slides.{HasRuns}
use Rattle.fc_compact.specs.Steps.{Leads, Packs, Preserves, SamePart}
use Rattle.fc_compact.proofs.HoldLemmas.{id_kind, run_is_whole}
use Rattle.fc_compact.proofs.KeptLemmas.{committed_geometry, committed_record, committed_zone}
use Rattle.fc_compact.proofs.OwnersLemmas.{same_movable}
use Rattle.fc_compact.proofs.PacksLemmas.{packs_in}
use Rattle.fc_compact.proofs.PreservesLemmas.{geometry_is}
use Rattle.fc_compact.proofs.SlideLemmas.{stretch, stretch_more}
use Rattle.fc_compact.proofs.StepLemmas.{commit_preserves, commit_ready, map_is}

-- the runs of an identifier among those of a zone
abbrev pub idz : ℕ → ℕ → List Run → List ZoneRun
idz z k runs = filter (λ (p : ZoneRun). has_id k p.1.kind) (placed z runs)

pub idz_append : (z k : ℕ) (xs ys : List Run) → idz z k (xs ++ ys) ≡ idz z k xs ++ idz z k ys
idz_append z k xs ys =
    ap (filter (λ (p : ZoneRun). has_id k p.1.kind)) (map-append (λ (run : Run). let p : ZoneRun = (z, run) in p) xs ys)
    ∙ filter-append (λ (p : ZoneRun). has_id k p.1.kind) (placed z xs) (placed z ys)

pub weight_append : (xs ys : List Run) → zone_weight (xs ++ ys) ≡ zone_weight xs + zone_weight ys
weight_append xs ys = sum_by-append run_weight xs ys

pub weight_cons : (x : Run) (ys : List Run) → zone_weight (x ∷ ys) ≡ run_weight x + zone_weight ys
weight_cons x ys = sum_by-cons run_weight x ys

some_weight : (run : Run) → 0 < run_weight run
some_weight run = by (is_hole run.kind)
  where
    by : (b : Bool) → 0 < cond b 1 (run.start + 1)
    by true = omega arith
    by false = omega arith

-- the weight falls
pub merge_falls : (front rest : List Run) (one two : Run) → zone_weight (front ++ joined one two ∷ rest) + 1 ≤ zone_weight (front ++ one ∷ (two ∷ rest))
merge_falls front rest one two =
    let now = weight_append front (joined one two ∷ rest) in
    let now' : zone_weight (joined one two ∷ rest) ≡ run_weight one + zone_weight rest = weight_cons (joined one two) rest in
    let was = weight_append front (one ∷ (two ∷ rest)) in
    let was' = weight_cons one (two ∷ rest) in
    let was'' = weight_cons two rest in
    let some = some_weight two in
    omega (arith, now, now', was, was', was'', some)

module _ (law : Laws) (m n m' : Map) (owners : List Owner) (is : IsNewMap m) (z : ℕ) (one two : Run) (can : CanMergeRuns m owners z one two) (edit : IsEdit m n z) (merges : MergesIn m n z one.start)
    (runs : KeepsRuns n m') (contents : KeepsContents n m') where
  front : List Run
  front = can.front

  edits : AreEdits m n
  edits = edit_all m n z edit

  pub merge_geometry : m'.geometry ≡ m.geometry
  merge_geometry = committed_geometry m n m' edits runs contents

  pub merge_cut : (front' rest' : List Run) → HasRuns m z (front' ++ one ∷ (two ∷ rest')) → HasRuns m' z (front' ++ joined one two ∷ rest')
  merge_cut front' rest' was = runs.runs z ∙ merges front' rest' one two was refl

  pub merge_others : (y : ℕ) → (y ≡ z → ⊥) → runs_of m' y ≡ runs_of m y
  merge_others y other = runs.runs y ∙ runs_other m n z y edit other

  abbrev left : List Run
  left = can.rest

  here : HasRuns m' z (can.front ++ joined one two ∷ can.rest)
  here = merge_cut can.front can.rest can.runs

  two_ids : (k : ℕ) → idz z k (one ∷ (two ∷ left)) ≡ cond (has_id k one.kind) ((z, one) ∷ ((z, two) ∷ idz z k left)) (idz z k left)
  two_ids k =
      ap (λ (kind : RunKind). cond (has_id k one.kind) ((z, one) ∷ cond (has_id k kind) ((z, two) ∷ idz z k left) (idz z k left)) (cond (has_id k kind) ((z, two) ∷ idz z k left) (idz z k left))) (sym can.same)
      ∙ by (has_id k one.kind)
    where
      by : (b : Bool) → cond b ((z, one) ∷ cond b ((z, two) ∷ idz z k left) (idz z k left)) (cond b ((z, two) ∷ idz z k left) (idz z k left)) ≡ cond b ((z, one) ∷ ((z, two) ∷ idz z k left)) (idz z k left)
      by true = refl
      by false = refl

  ids_was : (k : ℕ) → ids_in m k z ≡ idz z k can.front ++ cond (has_id k one.kind) ((z, one) ∷ ((z, two) ∷ idz z k left)) (idz z k left)
  ids_was k = ap (idz z k) can.runs ∙ idz_append z k can.front (one ∷ (two ∷ left)) ∙ ap (λ (ps : List ZoneRun). idz z k can.front ++ ps) (two_ids k)

  ids_is : (k : ℕ) → ids_in m' k z ≡ idz z k can.front ++ cond (has_id k one.kind) ((z, joined one two) ∷ idz z k left) (idz z k left)
  ids_is k = ap (idz z k) here ∙ idz_append z k can.front (joined one two ∷ left)

  part_same : (k : ℕ) → SamePart (ids_in m k z) (ids_in m' k z)
  part_same k = subst (λ (ps : List ZoneRun). SamePart ps (ids_in m' k z)) (sym (ids_was k)) (subst (λ (ps : List ZoneRun). SamePart (idz z k can.front ++ cond (has_id k one.kind) ((z, one) ∷ ((z, two) ∷ idz z k left)) (idz z k left)) ps) (sym (ids_is k)) (by (has_id k one.kind)))
    where
      f : List ZoneRun
      f = idz z k can.front

      by : (b : Bool) → SamePart (idz z k can.front ++ cond b ((z, one) ∷ ((z, two) ∷ idz z k left)) (idz z k left)) (idz z k can.front ++ cond b ((z, joined one two) ∷ idz z k left) (idz z k left))
      by false = record { bits = refl; fewer = omega arith; some = λ h. h }
      by true = record {
        bits = (let len : ZoneRun → ℕ = λ p. p.1.len in
            let a = sum_by-append len (idz z k can.front) ((z, joined one two) ∷ idz z k left) in
            let b = sum_by-cons len (z, joined one two) (idz z k left) in
            let c = sum_by-append len (idz z k can.front) ((z, one) ∷ ((z, two) ∷ idz z k left)) in
            let d = sum_by-cons len (z, one) ((z, two) ∷ idz z k left) in
            let e = sum_by-cons len (z, two) (idz z k left) in omega (arith, a, b, c, d, e));
        fewer = omega (arith, length-append (idz z k can.front) ((z, joined one two) ∷ idz z k left), length-append (idz z k can.front) ((z, one) ∷ ((z, two) ∷ idz z k left)));
        some = λ h. omega (arith, length-append (idz z k can.front) ((z, joined one two) ∷ idz z k left));
      }

  some : 1 ≤ m.geometry.zones
  some = (geometry_facts m.geometry is.of_record).zones

  pub merge_fixed : (k : ℕ) → is_movable_by owners k ≡ false → id_runs m' k ≡ id_runs m k
  merge_fixed k stays =
      law.ids m m' k merge_geometry some
      (λ y low. elim (cases_eq y z) [
        | inl at ↦ subst (λ (x : ℕ). ids_in m' k x ≡ ids_in m k x) (sym at) (ids_is k ∙ ap (λ b. idz z k can.front ++ cond b ((z, joined one two) ∷ idz z k left) (idz z k left)) other
            ∙ sym (ids_was k ∙ ap (λ b. idz z k can.front ++ cond b ((z, one) ∷ ((z, two) ∷ idz z k left)) (idz z k left)) other))
        | inr apart ↦ ap (idz y k) (merge_others y apart)
      ])
    where
      unless : (b : Bool) → has_id k one.kind ≡ b → b ≡ false
      unless false e = refl
      unless true e = absurd (let may = can.may k (id_kind k one.kind e) in cc)

      other : has_id k one.kind ≡ false
      other = unless (has_id k one.kind) refl

  pub merge_leads : Leads owners m m'
  merge_leads = record { was = is; map = runs.map; geometry = merge_geometry; fixed = merge_fixed; zones = committed_zone m n m' edits runs contents }

  pub merge_packs : Packs owners m m'
  merge_packs = packs_in owners m m' z merge_leads can.low merge_others (λ k may. part_same k)

  -- ---- the sectors

  abbrev g : Geometry
  g = m.geometry

  joined_sectors : run_sectors g (z, joined one two) ≡ run_sectors g (z, one) ++ run_sectors g (z, two)
  joined_sectors =
      let cut = run_spelled (shape g z) (sector_of m z) can.front (two ∷ left) one (zone_cut m z (can.front ++ one ∷ (two ∷ left)) is can.low can.runs) in
      let low = Spells-le (shape g z) (bits (sector_of m z)) can.front (shape g z).first one.start cut.0 in
      stretch_more g (geometry_is m is) z one.start one.len two.len low cut.1.1.begins (run_is_whole m is z can.low can.front (two ∷ left) one can.runs)
      ∙ ap (λ (at : ℕ). stretch g (geometry_is m is) z one.start one.len ++ stretch g (geometry_is m is) z at two.len) (sym cut.1.3.0)

  sectors_here : (k : ℕ) → sectors_of g (ids_in m' k z) ≡ sectors_of g (ids_in m k z)
  sectors_here k = ap (sectors_of g) (ids_is k) ∙ by (has_id k one.kind) ∙ sym (ap (sectors_of g) (ids_was k))
    where
      by : (b : Bool) → sectors_of g (idz z k can.front ++ cond b ((z, joined one two) ∷ idz z k left) (idz z k left)) ≡ sectors_of g (idz z k can.front ++ cond b ((z, one) ∷ ((z, two) ∷ idz z k left)) (idz z k left))
      by false = refl
      by true =
          flat_map-append (run_sectors g) (idz z k can.front) ((z, joined one two) ∷ idz z k left)
          ∙ ap (λ (xs : List ℕ). sectors_of g (idz z k can.front) ++ xs)
          (ap (λ (xs : List ℕ). xs ++ sectors_of g (idz z k left)) joined_sectors ∙ append_assoc (run_sectors g (z, one)) (run_sectors g (z, two)) (sectors_of g (idz z k left)))
          ∙ sym (flat_map-append (run_sectors g) (idz z k can.front) ((z, one) ∷ ((z, two) ∷ idz z k left)))

  sectors_same : (k : ℕ) → id_sectors m' k ≡ id_sectors m k
  sectors_same k =
      let cut = law.one_zone m m' z k merge_geometry some can.low (λ y low other. merge_others y other) in
      ap (λ (h : Geometry). sectors_of h (id_runs m' k)) merge_geometry ∙ cut.3 ∙ ap (λ (xs : List ℕ). cut.0 ++ (xs ++ cut.1)) (sectors_here k) ∙ sym cut.2

  module _ (was : List ℕ) (ready : IsReady m owners was) where
    merge_can : CanCommit m m' (objects_of ready.view.listings) was
    merge_can = inr record {
      geometry_stays = merge_geometry;
      record_stays = committed_record m n m' edits runs contents (omega (arith, some));
      is_map = map_is m' runs.map;
      fixed = λ k stays. merge_fixed k (sym (same_movable owners (objects_of ready.view.listings) ready.owned k) ∙ stays);
      sectors = sectors_same;
    }

    pub merge_preserves : (image : List ℕ) → CommitLeaves n.geometry was (copy_of n.geometry One was) m'.zones image → Preserves m owners was image
    merge_preserves image left_by =
        commit_preserves law m m' owners was ready merge_geometry merge_can image (subst (λ (h : Geometry). CommitLeaves h was (copy_of h One was) m'.zones image) edit.geometry left_by)

    pub merge_ready : (image : List ℕ) → CommitEnds n.geometry was m'.zones image → IsReady m' owners image
    merge_ready image ends = commit_ready law m m' owners was ready merge_geometry merge_can image (subst (λ (h : Geometry). CommitEnds h was m'.zones image) edit.geometry ends)
