use Rattle.std.proofs.Common.{◌∷◌, ◌++◌, ◌≡◌, length, Some, sym, ap, ◌∙◌, arith}
use Rattle.fc_bytes.specs.Bits.{bits}
use Rattle.fc_bytes.specs.BitLaws.{length-bits}
use Rattle.fc_zone.specs.declared.RunKind.TheVariants.{Hole}
use Rattle.fc_zone.specs.Zone.{hole_from, holder_after}
use Rattle.fc_zone.proofs.ZoneLemmas.{names_it, names_other}
use Rattle.fc_zone.proofs.HolderLemmas.{hole_iff_named}
use Rattle.fc_zone.proofs.EditLemmas.{run_place, hole_from_run, IfSome-known, release_zone, outside_link, outside_field, same_zone}
use Rattle.fc_zone.specs.Reading.{runs_of}
use Rattle.fc_zone.proofs.ReadingLemmas.{runs_of_zone}
use Rattle.fc_zone.proofs.WrittenLemmas.{nothing_written, release_links}
use Rattle.fc_zone.proofs.WrittenLemmas.{kept_bytes}
use Rattle.fc_zone.proofs.edits.release.Goals as goal

pub holder_before-holder-requires-clause-from_first : goal.holder_before-holder-requires-clause-from_first
holder_before-holder-requires-clause-from_first c =
    let h = c.requires.run in
    let place = run_place c.args.shape.now c.args.b.now h.1.1.0 h.1.1.1.0 h.0 h.1.1.1.1 in
    rw (← h.1.0) place.0

pub returns-then-eq-clause-runs : goal.returns-then-eq-clause-runs
returns-then-eq-clause-runs c = λ front rest run zone start.
    let shape = c.args.shape.now in
    let s = c.args.b.now in
    let named : c.hole_from-next.result ≡ Some c.args.start = names_it c.hole_from-next.result c.args.start c.if-eq.ensures in
    let holder = c.holder_before-holder.ensures.holder front rest run zone start in
    let hole = (hole_iff_named shape s front rest run zone).0
    (ap (hole_from shape (bits s)) (sym holder) ∙ sym c.hole_from-next.ensures ∙ named ∙ ap Some (sym start)) in
    same_zone shape s front rest run Hole hole zone

pub set_link-requires-clause-hole : goal.set_link-requires-clause-hole
set_link-requires-clause-hole c =
    let h = c.requires.run in
    let place = run_place c.args.shape.now c.args.b.now h.1.1.0 h.1.1.1.0 h.0 h.1.1.1.1 in
    (omega (arith, place.0, h.1.0), omega (arith, place.1, h.1.0))

pub set_link-requires-clause-onward : goal.set_link-requires-clause-onward
set_link-requires-clause-onward c =
    let shape = c.args.shape.now in
    let s = c.args.b.now in
    let h = c.requires.run in
    let known = c.holder_before-holder.ensures.holder h.1.1.0 h.1.1.1.0 h.0 h.1.1.1.1 h.1.0 in
    let next = hole_from_run shape s h.1.1.0 h.1.1.1.0 h.0 h.1.1.1.1 in
    let is : c.hole_from-next.result ≡ hole_from shape (bits s) (holder_after h.1.1.0) = c.hole_from-next.ensures ∙ ap (hole_from shape (bits s)) known in
    let other = names_other c.hole_from-next.result c.args.start c.if-eq.ensures in
    IfSome-known c.hole_from-next.result _ _ (rw (← is) at next)
    (λ p e w. (let apart : p ≡ c.args.start → ⊥ = λ f. other (e ∙ ap Some f) in omega (arith, w.0, h.1.0), omega (arith, w.1)))

pub set_link-requires-2-clause-onward : goal.set_link-requires-2-clause-onward
set_link-requires-2-clause-onward c =
    let h = c.requires.run in
    let place = run_place c.args.shape.now c.args.b.now h.1.1.0 h.1.1.1.0 h.0 h.1.1.1.1 in
    (c.holder_before-holder.ensures.before, omega (arith, place.1, h.1.0))

pub returns-clause-runs : goal.returns-clause-runs
returns-clause-runs c = λ front rest run zone start.
    let shape = c.args.shape.now in
    let s = c.args.b.now in
    let t = c.set_link.new.b in
    let u = c.set_link-2.new.b in
    let holder = c.holder_before-holder.ensures.holder front rest run zone start in
    let next : c.hole_from-next.result ≡ hole_from shape (bits s) (holder_after front) = c.hole_from-next.ensures ∙ ap (hole_from shape (bits s)) holder in
    let other : run.kind ≡ Hole → ⊥ = λ hole. names_other c.hole_from-next.result c.args.start c.if-eq.ensures (next ∙ (hole_iff_named shape s front rest run zone).1 hole ∙ ap Some start) in
    let one : length (bits s) ≡ length (bits t) = omega (arith, length-bits s, length-bits t, c.set_link.auto.b) in
    let two : length (bits t) ≡ length (bits u) = omega (arith, length-bits t, length-bits u, c.set_link-2.auto.b) in
    let link = c.set_link.ensures.names ∙ next in
    let names = rw holder at c.set_link-2.ensures.names in
    let again = rw holder at c.set_link-2.ensures.same in
    release_zone shape (omega arith) s t u one two front rest run zone other (rw start link) (rw start c.set_link.ensures.same) (names ∙ ap Some (sym start)) again

pub returns-clause-outside : goal.returns-clause-outside
returns-clause-outside c = λ k free outside.
    let shape = c.args.shape.now in
    let h = c.requires.run in
    let place = run_place shape c.args.b.now h.1.1.0 h.1.1.1.0 h.0 h.1.1.1.1 in
    c.set_link-2.ensures.same k (outside_link shape c.holder_before-holder.result k c.holder_before-holder.ensures.within free outside)
    ∙ c.set_link.ensures.same k (outside_field shape c.args.start shape.idlen k (omega (arith, place.0, h.1.0)) (omega (arith, place.1, h.1.0)) outside)

pub returns-then-eq-clause-links : goal.returns-then-eq-clause-links
returns-then-eq-clause-links c =
    let shape = c.args.shape.now in
    let s = c.args.b.now in
    nothing_written shape (bits s) (runs_of shape s)

pub returns-clause-links : goal.returns-clause-links
returns-clause-links c =
    let h = c.requires.run in
    let run = h.0 in
    let start = h.1.0 in
    let front = h.1.1.0 in
    let rest = h.1.1.1.0 in
    let zone = h.1.1.1.1 in
    let shape = c.args.shape.now in
    let s = c.args.b.now in
    let t = c.set_link.new.b in
    let u = c.set_link-2.new.b in
    let holder = c.holder_before-holder.ensures.holder front rest run zone start in
    let next : c.hole_from-next.result ≡ hole_from shape (bits s) (holder_after front) = c.hole_from-next.ensures ∙ ap (hole_from shape (bits s)) holder in
    let other : run.kind ≡ Hole → ⊥ = λ hole. names_other c.hole_from-next.result c.args.start c.if-eq.ensures (next ∙ (hole_iff_named shape s front rest run zone).1 hole ∙ ap Some start) in
    let one : length (bits s) ≡ length (bits t) = omega (arith, length-bits s, length-bits t, c.set_link.auto.b) in
    let two : length (bits t) ≡ length (bits u) = omega (arith, length-bits t, length-bits u, c.set_link-2.auto.b) in
    let again = rw holder at c.set_link-2.ensures.same in
    let small = rw holder at c.set_link-2.ensures.written in
    let names = rw holder at c.set_link-2.ensures.names in
    rw (runs_of_zone shape s (front ++ run ∷ rest) zone, runs_of_zone shape c.set_link-2.new.b _ (returns-clause-runs c front rest run zone start))
    (release_links shape (omega arith) s t u one two front rest run zone other (rw start c.set_link.ensures.same) (rw start c.set_link.ensures.written) again small (names ∙ ap Some (sym start)))

pub returns-clause-bytes : goal.returns-clause-bytes
returns-clause-bytes c = kept_bytes c.args.shape.now c.args.b.now c.set_link-2.new.b c.are_bytes.ensures (λ i. omega (arith, c.type_inv.b i)) (omega arith) (returns-clause-outside c)
