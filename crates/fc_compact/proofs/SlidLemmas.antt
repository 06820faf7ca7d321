-- What a slide does to the runs of its zone.
use Rattle.std.proofs.Common.{◌≡◌, ◌<◌, ◌≤◌, ℕ, ◌+◌, Bool, true, false, cond, List, [], ◌∷◌, ◌++◌, length-append, refl, sym, ap, subst, ◌∙◌, arith, append_assoc, get_or}
use Rattle.std.proofs.lemmas.List.Sums.{sum_by-append, sum_by-cons}
use Rattle.fc_zone.specs.declared.Run.{Run}
use Rattle.fc_zone.specs.declared.RunKind.{RunKind}
use Rattle.fc_zone.specs.declared.RunKind.TheVariants.{Hole, Id}
use Rattle.fc_zone.proofs.UniqueLemmas.{same_cut}
use Rattle.fc_newmap.specs.Map.{Map, ZoneRun, has_id, is_hole, runs_of, sector_of, shape}
use Rattle.fc_newmap.specs.NewMap.{IsNewMap}
use Rattle.fc_newmap.proofs.ComposeLemmas.{zone_cut}
use Rattle.fc_alloc.specs.declared.owner.Owner.{Owner}
use Rattle.fc_image.specs.effects.Moves.{Slid}
use Rattle.fc_compact.specs.Joins.{ids_in}
use Rattle.fc_compact.specs.Settlement.{run_weight, zone_weight}
use Rattle.fc_compact.specs.Slides.{HasRuns}
use Rattle.fc_compact.specs.Steps.{Leads, Packs, SamePart}
use Rattle.fc_compact.proofs.FindLemmas.{run_follows, hole_room, fits_shape}
use Rattle.fc_compact.proofs.MergeLemmas.{idz, idz_append, weight_append, weight_cons}
use Rattle.fc_compact.proofs.PacksLemmas.{packs_in}

module _ (m m' : Map) (is : IsNewMap m) (z start : ℕ) (low : z < m.geometry.zones) (slid : Slid m m' z start) where
  abbrev rest : List Run
  rest = slid.rest

  abbrev moved : Run
  moved = record slid.run { start = slid.hole.start }

  abbrev gap : Run
  gap = record slid.hole { start = slid.hole.start + slid.run.len }

  no_hole_ids : (k : ℕ) (h : Run) (xs : List Run) → h.kind ≡ Hole → idz z k (h ∷ xs) ≡ idz z k xs
  no_hole_ids k h xs e = ap (λ (kind : RunKind). cond (has_id k kind) ((z, h) ∷ idz z k xs) (idz z k xs)) e

  ids_was : (k : ℕ) → ids_in m k z ≡ idz z k slid.front ++ cond (has_id k slid.run.kind) ((z, slid.run) ∷ idz z k rest) (idz z k rest)
  ids_was k = ap (idz z k) slid.was ∙ idz_append z k slid.front (slid.hole ∷ (slid.run ∷ rest)) ∙ ap (λ (ps : List ZoneRun). idz z k slid.front ++ ps) (no_hole_ids k slid.hole (slid.run ∷ rest) slid.is_hole)

  ids_is : (k : ℕ) → ids_in m' k z ≡ idz z k slid.front ++ cond (has_id k slid.run.kind) ((z, moved) ∷ idz z k rest) (idz z k rest)
  ids_is k =
      ap (idz z k) slid.is ∙ idz_append z k slid.front (moved ∷ (gap ∷ rest))
      ∙ ap (λ (ps : List ZoneRun). idz z k slid.front ++ cond (has_id k slid.run.kind) ((z, moved) ∷ ps) ps) (no_hole_ids k gap rest slid.is_hole)

  pub part_same : (k : ℕ) → SamePart (ids_in m k z) (ids_in m' k z)
  part_same k = subst (λ (ps : List ZoneRun). SamePart ps (ids_in m' k z)) (sym (ids_was k))
      (subst (λ (ps : List ZoneRun). SamePart (idz z k slid.front ++ cond (has_id k slid.run.kind) ((z, slid.run) ∷ idz z k rest) (idz z k rest)) ps) (sym (ids_is k)) (by (has_id k slid.run.kind)))
    where
      by : (b : Bool) → SamePart (idz z k slid.front ++ cond b ((z, slid.run) ∷ idz z k rest) (idz z k rest)) (idz z k slid.front ++ cond b ((z, moved) ∷ idz z k rest) (idz z k rest))
      by false = record { bits = refl; fewer = omega arith; some = λ h. h }
      by true = record {
        bits = (let len : ZoneRun → ℕ = λ p. p.1.len in
            let a = sum_by-append len (idz z k slid.front) ((z, moved) ∷ idz z k rest) in
            let b = sum_by-cons len (z, moved) (idz z k rest) in
            let c = sum_by-append len (idz z k slid.front) ((z, slid.run) ∷ idz z k rest) in
            let d = sum_by-cons len (z, slid.run) (idz z k rest) in omega (arith, a, b, c, d));
        fewer = omega (arith, length-append (idz z k slid.front) ((z, moved) ∷ idz z k rest), length-append (idz z k slid.front) ((z, slid.run) ∷ idz z k rest));
        some = λ h. omega (arith, length-append (idz z k slid.front) ((z, moved) ∷ idz z k rest));
      }

  pub slid_packs : (owners : List Owner) → Leads owners m m' → Packs owners m m'
  slid_packs owners leads = packs_in owners m m' z leads low slid.others (λ k may. part_same k)

  -- the weight falls
  pub slid_falls : (id : ℕ) → slid.run.kind ≡ Id id → zone_weight (runs_of m' z) + 1 ≤ zone_weight (runs_of m z)
  slid_falls id kind =
      let now = ap zone_weight slid.is ∙ weight_append slid.front (moved ∷ (gap ∷ rest)) in
      let now' = weight_cons moved (gap ∷ rest) in
      let now'' = weight_cons gap rest in
      let was = ap zone_weight slid.was ∙ weight_append slid.front (slid.hole ∷ (slid.run ∷ rest)) in
      let was' = weight_cons slid.hole (slid.run ∷ rest) in
      let was'' = weight_cons slid.run rest in
      let a : run_weight moved ≡ slid.hole.start + 1 = ap (λ (k : RunKind). cond (is_hole k) 1 (slid.hole.start + 1)) kind in
      let b : run_weight gap ≡ 1 = ap (λ (k : RunKind). cond (is_hole k) 1 (slid.hole.start + slid.run.len + 1)) slid.is_hole in
      let c : run_weight slid.hole ≡ 1 = ap (λ (k : RunKind). cond (is_hole k) 1 (slid.hole.start + 1)) slid.is_hole in
      let d : run_weight slid.run ≡ slid.run.start + 1 = ap (λ (k : RunKind). cond (is_hole k) 1 (slid.run.start + 1)) kind in
      let follows = run_follows m is z low slid.front rest slid.hole slid.run slid.was in
      let long = hole_room m is z low slid.front rest slid.hole slid.run slid.was in
      let shape = (fits_shape m is z low slid.front rest slid.hole slid.run slid.was).least_room in
      omega (arith, now, now', now'', was, was', was'', a, b, c, d, follows, long, shape)

  -- the hole and the run are these
  module _ (front' rest' : List Run) (run next : Run) (at : run.start ≡ start) (runs : HasRuns m z (front' ++ run ∷ (next ∷ rest'))) where
    same : (slid.front ≡ front') × (slid.hole ≡ run) × (slid.run ∷ rest ≡ next ∷ rest')
    same =
        same_cut (shape m.geometry z) (sector_of m z) slid.front front' (slid.run ∷ rest) (next ∷ rest') slid.hole run
        (zone_cut m z (slid.front ++ slid.hole ∷ (slid.run ∷ rest)) is low slid.was) (zone_cut m z (front' ++ run ∷ (next ∷ rest')) is low runs) (slid.named ∙ sym at)

    pub slid_next : slid.run ≡ next
    slid_next = ap (λ (rs : List Run). get_or rs 0 next) same.2

    rest_same : rest ≡ rest'
    rest_same = cc_rest same.2
      where
        cc_rest : (slid.run ∷ rest ≡ next ∷ rest') → rest ≡ rest'
        cc_rest e = cc

    pub slid_cut : HasRuns m' z ((front' ++ record next { start = run.start } ∷ []) ++ record run { start = run.start + next.len } ∷ rest')
    slid_cut =
        slid.is
        ∙ ap (λ (f : List Run). f ++ moved ∷ (gap ∷ rest)) same.0
        ∙ ap (λ (r : List Run). front' ++ moved ∷ (gap ∷ r)) rest_same
        ∙ ap (λ (h : Run). front' ++ record slid.run { start = h.start } ∷ (record h { start = h.start + slid.run.len } ∷ rest')) same.1
        ∙ ap (λ (r : Run). front' ++ record r { start = run.start } ∷ (record run { start = run.start + r.len } ∷ rest')) slid_next
        ∙ sym (append_assoc front' (record next { start = run.start } ∷ []) (record run { start = run.start + next.len } ∷ rest'))
