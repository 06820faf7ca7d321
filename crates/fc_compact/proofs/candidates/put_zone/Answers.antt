use Rattle.std.proofs.Common.{inl, inr, List, ℕ, length, sym, ◌∙◌, ap}
use Rattle.std.proofs.lemmas.Bool.{eqb-true}
use Rattle.fc_compact.specs.Joins.{is_listed}
use Rattle.fc_compact.proofs.CandidatesLemmas.{not_full, zone_kept, zone_put}
use Rattle.fc_compact.proofs.candidates.put_zone.Goals as goal

pub returns-then-is_full : goal.returns-then-is_full
returns-then-is_full c = λ front there low e.
    zone_kept front c.args.z low c.args.zones.now.items there e (inl (eqb-true (length c.args.zones.now.items) 9 (sym c.is_full.ensures.value ∙ c.if-is_full.true)))

pub returns-then-contains : goal.returns-then-contains
returns-then-contains c = λ front there low e.
    zone_kept front c.args.z low c.args.zones.now.items there e (inr (ap (λ (xs : List ℕ). is_listed xs c.args.z) (sym c.deref.ensures.0) ∙ sym c.contains.ensures.value ∙ c.if-contains.true))

pub returns : goal.returns
returns c = λ front there low e.
    let zones = c.args.zones.now.items in
    c.push.ensures.items
    ∙ zone_put front c.args.z low zones there e (not_full zones _ c.is_full.ensures.value c.if-is_full.false c.is_full.ensures.fits)
    (ap (λ (xs : List ℕ). is_listed xs c.args.z) (sym c.deref.ensures.0) ∙ sym c.contains.ensures.value ∙ c.if-contains.false)
