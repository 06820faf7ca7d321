-- The hole that ends where a run begins.
use Rattle.std.proofs.Common.{◌≡◌, ◌⊎◌, ℕ, ◌+◌, ◌-◌, Option, Some, None, List, [], ◌∷◌, ◌++◌, refl, sym, ap, subst, ◌∙◌, inl, inr, arith}
use Rattle.std.proofs.lemmas.List.{append_assoc}
use Rattle.fc_bytes.specs.Bits.{bits}
use Rattle.fc_zone.specs.declared.ZoneShape.{ZoneShape}
use Rattle.fc_zone.specs.declared.Run.{Run}
use Rattle.fc_zone.specs.declared.RunKind.{RunKind}
use Rattle.fc_zone.specs.declared.RunKind.TheVariants.{Hole, Id}
use Rattle.fc_zone.specs.Zone.{EndsInHole, IsRun, Spells, Zone, holder_after, hole_starts, last_from, start_if_hole}
use Rattle.fc_zone.proofs.ZoneLemmas.{IsRun-unique, Spells-le, hole_starts-append}
use Rattle.fc_zone.proofs.HolderLemmas.{Spells-split, last_from-push, run_ext, run_is, run_spelled}

-- a hole among runs that begins there
pub record HasHole (runs : List Run) (at : ℕ) : Type 0 where
  pub front : List Run
  pub hole : Run
  pub rest : List Run
  pub cut : runs ≡ front ++ hole ∷ rest
  pub kind : hole.kind ≡ Hole
  pub begins : hole.start ≡ at

held_in : (holder : Option ℕ) (runs : List Run) (at : ℕ) → Some at ≡ last_from holder (hole_starts runs) → HasHole runs at ⊎ (holder ≡ Some at)
held_in holder [] at e = inr (sym e)
held_in holder (run ∷ runs) at e = by run.kind refl e (λ h. held_in h runs at)
  where
    behind : HasHole runs at → HasHole (run ∷ runs) at
    behind is = record { front = run ∷ is.front; hole = is.hole; rest = is.rest; cut = ap (λ (rs : List Run). run ∷ rs) is.cut; kind = is.kind; begins = is.begins }

    by : (kind : RunKind) → run.kind ≡ kind → Some at ≡ last_from holder (start_if_hole kind run.start (hole_starts runs))
        → ((h : Option ℕ) → Some at ≡ last_from h (hole_starts runs) → HasHole runs at ⊎ (h ≡ Some at)) → HasHole (run ∷ runs) at ⊎ (holder ≡ Some at)
    by Hole is e later = elim (later (Some run.start) e) [
      | inl there ↦ inl (behind there)
      | inr here ↦ inl (record { front = []; hole = run; rest = runs; cut = refl; kind = is; begins = (let s : run.start ≡ at = cc in s) })
    ]
    by (Id id) is e later = elim (later holder e) [
      | inl there ↦ inl (behind there)
      | inr held ↦ inr held
    ]

-- what holds a link is a hole
pub held_hole : (runs : List Run) (at : ℕ) → Some at ≡ holder_after runs → HasHole runs at
held_hole runs at e = elim (held_in None runs at e) [
  | inl has ↦ has
  | inr none ↦ absurd (cc)
]

none_between : (shape : ZoneShape) (bs : List ℕ) (runs : List Run) (from end : ℕ) → Spells shape bs from runs end → from ≡ end → runs ≡ []
none_between shape bs [] from end h e = refl
none_between shape bs (run ∷ runs) from end h e = absurd (let le = Spells-le shape bs runs (from + run.len) end h.3 in let long = h.1.long in omega arith)

module _ (shape : ZoneShape) (s : List ℕ) (front rest : List Run) (run : Run) (zone : Zone shape s (front ++ run ∷ rest)) where
  module _ (at : ℕ) (has : HasHole front at) where
    whole : Zone shape s (has.front ++ has.hole ∷ (has.rest ++ run ∷ rest))
    whole = subst (Zone shape s) (ap (λ (runs : List Run). runs ++ run ∷ rest) has.cut ∙ append_assoc has.front (has.hole ∷ has.rest) (run ∷ rest)) zone

    pub hole_is : IsRun shape (bits s) at (at + has.hole.len)
    hole_is = subst (λ (n : ℕ). IsRun shape (bits s) n (n + has.hole.len)) has.begins (run_is shape s has.front (has.rest ++ run ∷ rest) has.hole whole)

    -- it ends where the run begins
    pub ends_here : IsRun shape (bits s) at run.start → EndsInHole front (Some (record { start = at; len = run.start - at; kind = Hole }))
    ends_here is =
        let end : at + has.hole.len ≡ run.start = IsRun-unique shape (bits s) at (at + has.hole.len) run.start hole_is is in
        let begins = has.begins in
        let cut = Spells-split shape (bits s) has.rest (run ∷ rest) (has.hole.start + has.hole.len) shape.end (run_spelled shape s has.front (has.rest ++ run ∷ rest) has.hole whole).1.3 in
        let mid : cut.0 ≡ run.start = sym cut.2.0 in
        let none : has.rest ≡ [] = none_between shape (bits s) has.rest (has.hole.start + has.hole.len) cut.0 cut.1 (omega arith) in
        let same : has.hole ≡ record { start = at; len = run.start - at; kind = Hole } = run_ext has.hole _ has.begins (omega arith) has.kind in
        (refl, (has.front, has.cut ∙ ap (λ (runs : List Run). has.front ++ has.hole ∷ runs) none ∙ ap (λ (hole : Run). has.front ++ hole ∷ []) same))

  module _ (before : List Run) (last : Run) (cut : front ≡ before ++ last ∷ []) where
    -- the last run, if it is a hole, holds the link and ends where the run begins
    pub last_held : last.kind ≡ Hole → holder_after front ≡ Some last.start
    last_held kind =
        ap holder_after cut ∙ ap (last_from None) (hole_starts-append before (last ∷ []) ∙ ap (λ (k : RunKind). hole_starts before ++ start_if_hole k last.start []) kind)
        ∙ last_from-push None (hole_starts before) last.start

    pub last_ends : IsRun shape (bits s) last.start run.start
    last_ends =
        let whole : Zone shape s (before ++ last ∷ (run ∷ rest)) = subst (Zone shape s) (ap (λ (runs : List Run). runs ++ run ∷ rest) cut ∙ append_assoc before (last ∷ []) (run ∷ rest)) zone in
        let spelled = (run_spelled shape s before (run ∷ rest) last whole).1 in
        subst (λ (n : ℕ). IsRun shape (bits s) last.start n) (sym spelled.3.0) spelled.1
