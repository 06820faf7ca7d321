use Rattle.std.proofs.Common.{◌≡◌, suc, ◌-◌, sym, ap, subst, ◌∙◌, arith, refl}
use Rattle.fc_oldmap.specs.Holes.{joined_at, tidied, AreOfSomeDisc}
use Rattle.fc_oldmap.proofs.FitLemmas.{joined_below, tidied-below}
use Rattle.fc_oldmap.proofs.SpaceLemmas.{ends_fit, AreOfSomeDisc-joined_at}
use Rattle.fc_oldmap.proofs.holes.tidy_all.Goals as goal

pub join_next-requires : goal.join_next-requires
join_next-requires c = ends_fit c.loop-i.holes.items c.loop-i.holes.items c.loop-i.invariant.of_disc refl

pub loop-i-init : goal.loop-i-init
loop-i-init c =
    record { of_disc = c.requires; joined = ap (λ n. joined_below n c.args.holes.now.items) c.len-i.ensures.value ∙ tidied-below c.args.holes.now.items }

pub loop-i-preserved : goal.loop-i-preserved
unfolding joined_below
loop-i-preserved c =
    let old = c.loop-i.holes.items in
    let i = c.loop-i.i - 1 in
    let e : suc i ≡ c.loop-i.i = omega arith in
    let step : joined_below i (joined_at i old) ≡ tidied c.args.holes.now.items = ap (λ n. joined_below n old) e ∙ c.loop-i.invariant.joined in
    record {
      of_disc = subst AreOfSomeDisc (sym c.join_next.ensures) (AreOfSomeDisc-joined_at i old c.loop-i.invariant.of_disc);
      joined = ap (joined_below i) c.join_next.ensures ∙ step;
    }

pub returns : goal.returns
unfolding joined_below
returns c =
    let e : c.loop-i.i ≡ 0 = omega arith in
    ap (λ n. joined_below n c.loop-i.holes.items) (sym e) ∙ c.loop-i.invariant.joined
