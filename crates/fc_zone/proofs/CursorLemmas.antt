-- What a walk over the runs of a zone knows.
use Rattle.std.proofs.Common.{◌≡◌, ◌<◌, ◌≤◌, ◌≢◌, ℕ, ◌+◌, Option, Some, None, List, [], ◌∷◌, ◌++◌, refl, sym, ap, subst, ◌∙◌, arith}
use Rattle.std.specs.List.{slice_get, sum_by}
use Rattle.std.proofs.lemmas.List.{append_assoc, append-nil}
use Rattle.std.proofs.lemmas.List.Sums.{sum_by-append, sum_by-cons}
use Rattle.fc_bytes.specs.Bits.{bits}
use Rattle.fc_zone.specs.declared.ZoneShape.{ZoneShape}
use Rattle.fc_zone.specs.declared.Run.{Run}
use Rattle.fc_zone.specs.declared.RunKind.{RunKind}
use Rattle.fc_zone.specs.declared.RunKind.TheVariants.{Hole, Id}
use Rattle.fc_zone.specs.declared.cursor.Cursor.{Cursor}
use Rattle.fc_zone.specs.Zone.{IsRun, Spells, Chain, Zone, field_at, first_hole, hole_from, holder_after, hole_starts, start_if_hole, next_hole}
use Rattle.fc_zone.specs.Edits.{Relabels}
use Rattle.fc_zone.specs.Reading.{run_of}
use Rattle.fc_zone.specs.Cursor.{HasLeft, StandsBetween, place_after}
use Rattle.fc_zone.proofs.ZoneLemmas.{IsRun-unique, Spells-le, hole_starts-append}
use Rattle.fc_zone.proofs.HolderLemmas.{Chain-split, Spells-split}
use Rattle.fc_zone.proofs.EditLemmas.{cut_zone}
use Rattle.fc_zone.proofs.ReadingLemmas.{run_is_read}

pub none_left : (left : List Run) → None ≡ slice_get left 0 → left ≡ []
none_left [] e = refl
none_left (r ∷ rest) e = absurd (cc)

pub first_left : (left : List Run) (run : Run) → Some run ≡ slice_get left 0 → (rest : List Run) × (left ≡ run ∷ rest)
first_left [] run e = absurd (cc)
first_left (r ∷ rest) run e = let same : r ≡ run = cc in (rest, ap (λ (first : Run). first ∷ rest) same)

module _ (shape : ZoneShape) (bs : List ℕ) where
  -- a chain names the first of its places
  pub chain_first : (hole : Option ℕ) (places : List ℕ) → Chain shape bs hole places None → hole ≡ slice_get places 0
  chain_first hole [] h = h
  chain_first hole (p ∷ places) h = h.0

  pub Spells-sum : (runs : List Run) (at end : ℕ) → Spells shape bs at runs end → end ≡ at + sum_by (λ (run : Run). run.len) runs
  Spells-sum [] at end h = omega arith
  Spells-sum (run ∷ runs) at end h =
      let rest = Spells-sum runs (at + run.len) end h.3 in
      omega (arith, sum_by-cons (λ (r : Run). r.len) run runs)

  -- where runs are left, the first is known by its length
  pub left_given : (left : List Run) (at : ℕ) (hole : Option ℕ) (found : Run) → HasLeft shape bs at hole left → at ≢ shape.end → IsRun shape bs at (at + found.len)
      → found ≡ run_of hole at found.len (field_at shape bs at) → Some found ≡ slice_get left 0
  left_given [] at hole found h early is value = absurd (early h.spelled)
  left_given (run ∷ rest) at hole found h early is value =
      let ends = IsRun-unique shape bs at (at + found.len) (at + run.len) is h.spelled.1 in
      let len : found.len ≡ run.len = omega arith in
      ap Some (value ∙ ap (λ n. run_of hole at n (field_at shape bs at)) len ∙ run_is_read shape bs run rest at hole h.spelled h.chain)

  pub left_none : (left : List Run) (at : ℕ) (hole : Option ℕ) → HasLeft shape bs at hole left → at ≡ shape.end → None ≡ slice_get left 0
  left_none [] at hole h end = refl
  left_none (run ∷ rest) at hole h end = absurd (let le = Spells-le shape bs rest (at + run.len) shape.end h.spelled.3 in let long = h.spelled.1.long in omega arith)

  pub left_begins : (left : List Run) (at : ℕ) (hole : Option ℕ) → HasLeft shape bs at hole left → at ≢ shape.end → (end : ℕ) × IsRun shape bs at end
  left_begins [] at hole h early = absurd (early h.spelled)
  left_begins (run ∷ rest) at hole h early = (at + run.len, h.spelled.1)

  -- the first run that is left begins there and lies within the zone
  pub left_fits : (left : List Run) (at : ℕ) (hole : Option ℕ) (run : Run) → HasLeft shape bs at hole left → Some run ≡ slice_get left 0
      → (run.start ≡ at) × (at + shape.idlen < at + run.len) × (at + run.len ≤ shape.end)
  left_fits [] at hole run h e = absurd (cc)
  left_fits (r ∷ rest) at hole run h e =
      let same : run ≡ r = cc in
      rw same (h.spelled.0, h.spelled.1.long, h.spelled.1.within)

  -- the first hole after a run
  pub first_past : (run : Run) (rest : List Run) (at : ℕ) (hole next : Option ℕ) → HasLeft shape bs at hole (run ∷ rest) → (run.kind ≡ Hole → next ≡ next_hole shape bs run.start)
      → ((run.kind ≡ Hole → ⊥) → next ≡ hole) → Chain shape bs next (hole_starts rest) None
  first_past run rest at hole next h after_hole other = by run.kind refl h.chain
    where
      by : (kind : RunKind) → run.kind ≡ kind → Chain shape bs hole (start_if_hole kind run.start (hole_starts rest)) None → Chain shape bs next (hole_starts rest) None
      by Hole e c = rw (after_hole e) c.1
      by (Id id) e c = rw (other (λ f. cc)) c

-- what is left after a run of the zone
pub left_after : (shape : ZoneShape) (s : List ℕ) (front rest : List Run) (run : Run) (next : Option ℕ) → Zone shape s (front ++ run ∷ rest) → (run.kind ≡ Hole → next ≡ next_hole shape (bits s) run.start)
    → ((run.kind ≡ Hole → ⊥) → next ≡ hole_from shape (bits s) (holder_after front)) → HasLeft shape (bits s) (run.start + run.len) next rest
left_after shape s front rest run next zone after_hole other =
    let cut = cut_zone shape s front rest run zone in
    let left : HasLeft shape (bits s) run.start (hole_from shape (bits s) (holder_after front)) (run ∷ rest) = record { spelled = cut.after; chain = cut.chain_after } in
    record {
      spelled = cut.after.3;
      chain = first_past shape (bits s) run rest run.start (hole_from shape (bits s) (holder_after front)) next left after_hole other;
    }

-- what is left after a cursor
pub left_of : (shape : ZoneShape) (s : List ℕ) (done left : List Run) (cursor : Cursor) → StandsBetween shape s done left cursor → HasLeft shape (bits s) cursor.at cursor.hole left
left_of shape s done left cursor stands =
    let zone = stands.zone in
    let cut = Spells-split shape (bits s) done left shape.first shape.end zone.spelled in
    let chain = Chain-split shape (bits s) (first_hole (bits s)) (hole_starts done) (hole_starts left) None (rw (hole_starts-append done left) at zone.chained) in
    let place : cut.0 ≡ cursor.at = Spells-sum shape (bits s) done shape.first cut.0 cut.1 ∙ sym stands.place in
    let hole : chain.0 ≡ cursor.hole = chain_first shape (bits s) chain.0 (hole_starts left) chain.2 ∙ sym stands.hole in
    record { spelled = rw place at cut.2; chain = rw hole at chain.2 }

-- the cursor goes past a run
pub stepped : (shape : ZoneShape) (s : List ℕ) (done rest : List Run) (run : Run) (old new : Cursor) → StandsBetween shape s done (run ∷ rest) old → new.at ≡ run.start + run.len
    → (run.kind ≡ Hole → new.hole ≡ next_hole shape (bits s) run.start) → ((run.kind ≡ Hole → ⊥) → new.hole ≡ old.hole) → StandsBetween shape s (done ++ run ∷ []) rest new
stepped shape s done rest run old new stands place after_hole other =
    let left = left_of shape s done (run ∷ rest) old stands in
    let start : run.start ≡ old.at = left.spelled.0 in
    let chain = first_past shape (bits s) run rest old.at old.hole new.hole left after_hole other in
    let sum = sum_by-append (λ (r : Run). r.len) done (run ∷ []) in
    let before = stands.place in
    record {
      zone = rw (append_assoc done (run ∷ []) rest) stands.zone;
      place = omega arith;
      hole = chain_first shape (bits s) new.hole (hole_starts rest) chain;
    }

-- a zone whose runs after the cursor stay, and whose runs before it take the same bits, keeps the cursor right
pub stands_still : (shape : ZoneShape) (s t : List ℕ) (done new left : List Run) (cursor : Cursor) → StandsBetween shape s done left cursor → Zone shape t (new ++ left) → place_after shape new ≡ place_after shape done
    → StandsBetween shape t new left cursor
stands_still shape s t done new left cursor stands zone same = record { zone = zone; place = stands.place ∙ sym same; hole = stands.hole }

-- the run before the cursor has another kind
pub stands_relabelled : (shape : ZoneShape) (s t : List ℕ) (done rest : List Run) (run : Run) (kind : RunKind) (cursor : Cursor) → StandsBetween shape s (done ++ run ∷ []) rest cursor
    → Relabels shape s t run.start kind → StandsBetween shape t (done ++ record run { kind = kind } ∷ []) rest cursor
stands_relabelled shape s t done rest run kind cursor stands relabels =
    let changed : Run = record run { kind = kind } in
    let before = rw (append_assoc done (run ∷ []) rest) at stands.zone in
    let zone = relabels done rest run before refl in
    let length_of = sum_by-append (λ (r : Run). r.len) done in
    let same : place_after shape (done ++ changed ∷ []) ≡ place_after shape (done ++ run ∷ []) = omega (arith, length_of (changed ∷ []), length_of (run ∷ [])) in
    stands_still shape s t (done ++ run ∷ []) (done ++ changed ∷ []) rest cursor stands (rw (append_assoc done (changed ∷ []) rest) zone) same

-- ---- on to a run, and to the next hole

-- before a run of the zone
pub stands_before : (shape : ZoneShape) (s : List ℕ) (front rest : List Run) (run : Run) (cursor : Cursor) → Zone shape s (front ++ run ∷ rest) → cursor.at ≡ run.start → cursor.hole ≡ slice_get (hole_starts (run ∷ rest)) 0
    → StandsBetween shape s front (run ∷ rest) cursor
stands_before shape s front rest run cursor zone at hole =
    let cut = cut_zone shape s front rest run zone in
    record { zone = zone; place = at ∙ Spells-sum shape (bits s) front shape.first run.start cut.before; hole = hole }

-- the chain from its holder names the first hole from a run on
pub hole_ahead : (shape : ZoneShape) (s : List ℕ) (front rest : List Run) (run : Run) → Zone shape s (front ++ run ∷ rest) → hole_from shape (bits s) (holder_after front) ≡ slice_get (hole_starts (run ∷ rest)) 0
hole_ahead shape s front rest run zone =
    let cut = cut_zone shape s front rest run zone in
    chain_first shape (bits s) (hole_from shape (bits s) (holder_after front)) (hole_starts (run ∷ rest)) cut.chain_after

pub no_first : (places : List ℕ) → None ≡ slice_get places 0 → places ≡ []
no_first [] e = refl
no_first (p ∷ places) e = absurd (cc)

-- no hole is left
pub stands_at_end : (shape : ZoneShape) (s : List ℕ) (done left : List Run) (old new : Cursor) → StandsBetween shape s done left old → new.at ≡ shape.end → new.hole ≡ None → StandsBetween shape s (done ++ left) [] new
stands_at_end shape s done left old new stands at none =
    let all = done ++ left in
    let zone = stands.zone in
    record {
      zone = subst (Zone shape s) (sym (append-nil all)) zone;
      place = at ∙ Spells-sum shape (bits s) all shape.first shape.end zone.spelled;
      hole = none;
    }

-- the first hole among runs
abbrev pub HasFirstHole : List Run → ℕ → Type 0
HasFirstHole left at =
    (passed : List Run) × (run : Run) × (rest : List Run) × ((left ≡ passed ++ run ∷ rest) × (hole_starts passed ≡ []) × (run.kind ≡ Hole) × (run.start ≡ at))

pub first_hole_in : (left : List Run) (at : ℕ) → Some at ≡ slice_get (hole_starts left) 0 → HasFirstHole left at
first_hole_in [] at e = absurd (cc)
first_hole_in (run ∷ rest) at e = by run.kind refl e (first_hole_in rest at)
  where
    by : (kind : RunKind) → run.kind ≡ kind → Some at ≡ slice_get (start_if_hole kind run.start (hole_starts rest)) 0 → (Some at ≡ slice_get (hole_starts rest) 0 → HasFirstHole rest at) → HasFirstHole (run ∷ rest) at
    by Hole is e later = let same : run.start ≡ at = cc in ([], run, rest, (refl, refl, is, same))
    by (Id id) is e later =
        let r = later e in
        (run ∷ r.0, r.1, r.2, (ap (λ (l : List Run). run ∷ l) r.3.0, ap (λ (k : RunKind). start_if_hole k run.start (hole_starts r.0)) is ∙ r.3.1, r.3.2, r.3.3))

-- the hole that a cursor names is a run of the zone, and lies ahead of it
pub hole_is_ahead : (shape : ZoneShape) (s : List ℕ) (done left : List Run) (cursor : Cursor) (at : ℕ) → StandsBetween shape s done left cursor → cursor.hole ≡ Some at
    → ((end : ℕ) × IsRun shape (bits s) at end) × (cursor.at ≤ at)
hole_is_ahead shape s done left cursor at stands named =
    let r = first_hole_in left at (sym named ∙ stands.hole) in
    let hole = r.1 in
    let zone : Zone shape s ((done ++ r.0) ++ hole ∷ r.2) =
    subst (Zone shape s) (ap (λ (l : List Run). done ++ l) r.3.0 ∙ sym (append_assoc done r.0 (hole ∷ r.2))) stands.zone in
    let cut = cut_zone shape s (done ++ r.0) r.2 hole zone in
    let sum = Spells-sum shape (bits s) (done ++ r.0) shape.first hole.start cut.before in
    let more = sum_by-append (λ (u : Run). u.len) done r.0 in
    let place = stands.place in
    ((at + hole.len, subst (λ (n : ℕ). IsRun shape (bits s) n (n + hole.len)) r.3.3 cut.after.1), omega (arith, sum, more, place, r.3.3))

-- the cursor goes past the next hole
pub stands_past_hole : (shape : ZoneShape) (s : List ℕ) (done left : List Run) (old new : Cursor) (at : ℕ) (run : Run) → StandsBetween shape s done left old → old.hole ≡ Some at → IsRun shape (bits s) at (at + run.len)
    → run ≡ run_of (Some at) at run.len (field_at shape (bits s) at) → new.at ≡ at + run.len → new.hole ≡ next_hole shape (bits s) at
    → (passed : List Run) × (rest : List Run) × ((left ≡ passed ++ run ∷ rest) × (hole_starts passed ≡ []) × (run.kind ≡ Hole) × StandsBetween shape s ((done ++ passed) ++ run ∷ []) rest new)
stands_past_hole shape s done left old new at run stands named is value end next =
    let r = first_hole_in left at (sym named ∙ stands.hole) in
    let passed = r.0 in
    let hole = r.1 in
    let rest = r.2 in
    let zone : Zone shape s ((done ++ passed) ++ hole ∷ rest) =
    subst (Zone shape s) (ap (λ (l : List Run). done ++ l) r.3.0 ∙ sym (append_assoc done passed (hole ∷ rest))) stands.zone in
    let mid : Cursor = record { at = at; hole = Some at } in
    let first : Some at ≡ slice_get (hole_starts (hole ∷ rest)) 0 = ap Some (sym r.3.3) ∙ sym (ap (λ (k : RunKind). slice_get (start_if_hole k hole.start (hole_starts rest)) 0) r.3.2) in
    let here = stands_before shape s (done ++ passed) rest hole mid zone (sym r.3.3) first in
    let ahead = left_of shape s (done ++ passed) (hole ∷ rest) mid here in
    let found : Some run ≡ Some hole = left_given shape (bits s) (hole ∷ rest) at (Some at) run ahead (λ e. (let long = is.long in let within = is.within in omega (arith, e))) is value in
    let same : run ≡ hole = cc in
    let kind : run.kind ≡ Hole = ap (λ (u : Run). u.kind) same ∙ r.3.2 in
    let start : run.start ≡ at = ap (λ (u : Run). u.start) same ∙ r.3.3 in
    let stands' = subst (λ (u : Run). StandsBetween shape s (done ++ passed) (u ∷ rest) mid) (sym same) here in (
      passed,
      rest,
      (
        r.3.0 ∙ ap (λ (u : Run). passed ++ u ∷ rest) (sym same),
        r.3.1,
        kind,
        stepped shape s (done ++ passed) rest run mid new stands' (omega (arith, end, start)) (λ e. next ∙ ap (next_hole shape (bits s)) (sym start)) (λ other. absurd (other kind)),
      ),
    )
