use Rattle.std.proofs.Common.{◌≡◌, ◌+◌, ◌++◌, ◌∙◌, List, ℕ, drop, false, get_or, length, sym, subst, take}
use Rattle.std.proofs.lemmas.List.{take_all, take_at}
use Rattle.fc_alloc.specs.declared.owner.Owner.{Owner}
use Rattle.fc_safe.specs.Staying.{AreRaised}
use Rattle.fc_safe.proofs.StayingLemmas.{AreEnds, ends_begin, ends_on}
use Rattle.fc_safe.proofs.staying.ends_among.Goals as goal

abbrev none : Owner
none = record { id = 0; dir = 0; node = 0; file = false; low = 0; first = 0; sectors = 0 }

pub loop-o-init : goal.loop-o-init
loop-o-init c = ends_begin c.args.g.now c.args.moving.now c.args.ids.now c.in_ok-ends.ends.items c.in_ok-ends.ensures

pub loop-o-preserved : goal.loop-o-preserved
loop-o-preserved c =
    let new = c.raise.new.ends in
    let items = c.loop-o.ends.items in
    let i = c.loop-o.o-index in
    let list : List Owner = c.args.list.now in
    let long : length new ≡ c.loop-o.ends.len = c.raise.auto.ends ∙ c.deref_mut.ensures.len in
    let back : new ≡ take c.loop-o.ends.len (new ++ drop (length new) items) = sym (take_at new (drop (length new) items) c.loop-o.ends.len long) in
    subst (λ (ns : List ℕ). AreEnds c.args.g.now c.args.moving.now (take (i + 1) list) c.args.ids.now ns) back
    (ends_on c.args.g.now c.args.moving.now list i none c.args.ids.now items new c.loop-o-test.true c.loop-o.invariant c.raise.ensures.as_many
    (subst (λ (old : List ℕ). AreRaised c.args.g.now c.args.moving.now c.args.ids.now (get_or list i none) old new) c.deref_mut.ensures.value c.raise.ensures.each))

pub returns : goal.returns
returns c =
    subst (λ (os : List Owner). c.loop-o.ends.items ≡ Rattle.std.proofs.Common.map (Rattle.fc_safe.specs.Staying.last_end c.args.g.now c.args.moving.now.leaving.items c.args.moving.now.longer os) c.args.ids.now)
    (take_all c.loop-o.o-index c.args.list.now c.loop-o-test.false) c.loop-o.invariant.are
