use Rattle.std.proofs.Common.{◌≡◌, ◌∙◌, sym, ap, Some, List, ◌++◌, ◌∷◌}
use Rattle.fc_bytes.specs.Bits.{bits}
use Rattle.fc_zone.specs.declared.Run.{Run}
use Rattle.fc_zone.specs.declared.RunKind.TheVariants.{Id}
use Rattle.fc_zone.specs.Zone.{Zone, hole_from, holder_after, field_at}
use Rattle.fc_zone.proofs.ZoneLemmas.{names_it, names_other}
use Rattle.fc_zone.proofs.HolderLemmas.{hole_iff_named, id_if_other}
use Rattle.fc_zone.proofs.reading.kind_at.Goals as goal
use Rattle.fc_zone.proofs.reading.kind_at.Goals.{After-eq}

-- what the function calls named, in terms of the runs
told : (c : After-eq) (front rest : List Run) (run : Run) → Zone c.args.shape.now c.args.b.now (front ++ run ∷ rest) → run.start ≡ c.args.at → c.hole_from.result ≡ hole_from c.args.shape.now (bits c.args.b.now) (holder_after front)
told c front rest run zone start =
    c.hole_from.ensures ∙ ap (hole_from c.args.shape.now (bits c.args.b.now)) (c.holder_before-holder.ensures.holder front rest run zone start)

pub returns-then-eq : goal.returns-then-eq
returns-then-eq c = λ front rest run zone start.
    let before = (goal.at.returns-then-eq c).After-eq in
    let named : c.hole_from.result ≡ Some c.args.at = names_it c.hole_from.result c.args.at c.if-eq.ensures in
    sym ((hole_iff_named c.args.shape.now c.args.b.now front rest run zone).0 (sym (told before front rest run zone start) ∙ named ∙ ap Some (sym start)))

pub returns-else-eq : goal.returns-else-eq
returns-else-eq c = λ front rest run zone start.
    let before = (goal.at.returns-else-eq c).After-eq in
    let other = names_other c.hole_from.result c.args.at c.if-eq.ensures in
    ap Id ((rw c.from.ensures at c.get_bits.ensures.value) ∙ ap (field_at c.args.shape.now (bits c.args.b.now)) (sym start))
    ∙ id_if_other c.args.shape.now c.args.b.now front rest run zone (λ hole. other (told before front rest run zone start ∙ (hole_iff_named c.args.shape.now c.args.b.now front rest run zone).1 hole ∙ ap Some start))
