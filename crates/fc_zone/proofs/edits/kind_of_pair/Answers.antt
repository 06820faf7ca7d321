use Rattle.std.proofs.Common.{◌++◌, ◌≡◌, ◌+◌, ℕ, List, ◌∷◌, refl, sym, ap, ◌∙◌, arith}
use Rattle.fc_bytes.specs.Bits.{bits}
use Rattle.fc_zone.specs.declared.Run.{Run}
use Rattle.fc_zone.specs.declared.RunKind.{RunKind}
use Rattle.fc_zone.specs.declared.RunKind.TheVariants.{Hole, Id}
use Rattle.fc_zone.specs.declared.ZoneShape.{ZoneShape}
use Rattle.fc_zone.specs.Zone.{HasField, IsRun, Zone, field_at}
use Rattle.fc_zone.proofs.ZoneLemmas.{IsRun-unique}
use Rattle.fc_zone.proofs.EditLemmas.{cut_zone}
use Rattle.fc_zone.proofs.CutLemmas.{merge_fits}
use Rattle.fc_zone.proofs.UniqueLemmas.{same_cut}
use Rattle.fc_zone.proofs.edits.kind_of_pair.Goals as goal

-- runs of one kind whose fields differ are holes
holes_if_differ : (f f' : ℕ) → (f ≡ f' → ⊥) → (k k' : RunKind) → k ≡ k' → HasField k f → HasField k' f' → Hole ≡ k
holes_if_differ f f' differ Hole k' e a b = refl
holes_if_differ f f' differ (Id id) Hole e a b = absurd (cc)
holes_if_differ f f' differ (Id id) (Id id') e a b = absurd (differ (let same : id ≡ id' = cc in sym a ∙ same ∙ b))

module _ (shape : ZoneShape) (s : List ℕ) (front rest : List Run) (one two : Run) (zone : Zone shape s (front ++ one ∷ two ∷ rest)) (start : ℕ) (at : one.start ≡ start) (middle : ℕ) (run : IsRun shape (bits s) start middle) where
  ends : middle ≡ one.start + one.len
  ends = IsRun-unique shape (bits s) start middle (start + one.len) run (merge_fits shape s start front rest one two zone at).run ∙ ap (λ n. n + one.len) (sym at)

  are_holes : one.kind ≡ two.kind → (field_at shape (bits s) start ≡ field_at shape (bits s) middle → ⊥) → Hole ≡ one.kind
  are_holes kinds differ =
      let cut = cut_zone shape s front (two ∷ rest) one zone in
      holes_if_differ (field_at shape (bits s) one.start) (field_at shape (bits s) (one.start + one.len))
      (λ same. differ (ap (field_at shape (bits s)) (sym at) ∙ same ∙ ap (field_at shape (bits s)) (sym ends)))
      one.kind two.kind kinds cut.after.2 cut.after.3.2

pub get_bits-requires-2-clause-within : goal.get_bits-requires-2-clause-within
get_bits-requires-2-clause-within c =
    let h = c.requires.runs in
    let fits = merge_fits c.args.shape.now c.args.b.now c.args.start h.4.0 h.4.1.0 h.0 h.1 h.4.1.1 h.2 in
    let middle = ends c.args.shape.now c.args.b.now h.4.0 h.4.1.0 h.0 h.1 h.4.1.1 c.args.start h.2 c.args.middle c.requires.middle in
    omega (arith, middle, h.2, fits.next.long, fits.next.within, c.from-field.ensures, c.requires.shape.within)

pub returns-then-get_bits : goal.returns-then-get_bits
returns-then-get_bits c = λ front rest run zone start.
    let h = c.requires.runs in
    let cut = same_cut c.args.shape.now c.args.b.now h.4.0 front (h.1 ∷ h.4.1.0) rest h.0 run h.4.1.1 zone (h.2 ∙ sym start) in
    let one = rw c.from-field.ensures at c.get_bits.ensures.value in
    let two = rw c.from-field.ensures at c.get_bits-2.ensures.value in
    are_holes c.args.shape.now c.args.b.now h.4.0 h.4.1.0 h.0 h.1 h.4.1.1 c.args.start h.2 c.args.middle c.requires.middle h.3
    (λ same. let equal : c.get_bits.result ≡ c.get_bits-2.result = one ∙ same ∙ sym two in c.if-get_bits.true equal)
    ∙ ap (λ (r : Run). r.kind) cut.1

pub kind_at-requires-clause-from_first : goal.kind_at-requires-clause-from_first
kind_at-requires-clause-from_first c =
    let h = c.requires.runs in
    let fits = merge_fits c.args.shape.now c.args.b.now c.args.start h.4.0 h.4.1.0 h.0 h.1 h.4.1.1 h.2 in
    fits.low
