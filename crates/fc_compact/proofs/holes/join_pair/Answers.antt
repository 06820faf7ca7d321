use Rattle.std.proofs.Common.{◌∷◌, ◌++◌, [], refl, sym, ◌∙◌, arith, append_assoc}
use Rattle.fc_newmap.proofs.ComposeLemmas.{edit_none, zone_cut}
use Rattle.fc_compact.proofs.HoldLemmas.{run_short}
use Rattle.fc_compact.proofs.TouchLemmas.{same_kind}
use Rattle.fc_compact.proofs.holes.join_pair.Goals as goal

pub overflow_add-result : goal.overflow_add-result
overflow_add-result c =
    let a = c.args in
    let m = a.map.now in
    let r = c.requires.pair in
    let one = run_short m c.is_map.ensures a.z c.requires.zone r.0 (a.next ∷ r.1) a.run r.2 in
    let two = run_short m c.is_map.ensures a.z c.requires.zone (r.0 ++ a.run ∷ []) r.1 a.next (r.2 ∙ sym (append_assoc r.0 (a.run ∷ []) (a.next ∷ r.1))) in
    omega (arith, one, two)

pub returns-then-not-are_holes-clause-edit : goal.returns-then-not-are_holes-clause-edit
returns-then-not-are_holes-clause-edit c = edit_none c.args.map.now c.args.z c.is_map.ensures

pub merge-requires-clause-runs : goal.merge-requires-clause-runs
merge-requires-clause-runs c =
    let a = c.args in
    let r = c.requires.pair in (
      a.run,
      a.next,
      refl,
      same_kind a.run a.next (sym c.are_holes.ensures ∙ c.if-not-are_holes.false),
      (r.0, (r.1, zone_cut a.map.now a.z (r.0 ++ a.run ∷ (a.next ∷ r.1)) c.is_map.ensures c.requires.zone r.2)),
    )
