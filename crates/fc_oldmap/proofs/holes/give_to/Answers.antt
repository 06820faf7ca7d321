use Rattle.std.proofs.Common.{◌≡◌, ◌+◌, ◌<◌, ◌≤◌, ◌^◌, List, slice_get, length, sym, ap, subst, ◌∙◌, arith, refl, Some}
use Rattle.std.specs.Prelude.{All, insert}
use Rattle.std.proofs.lemmas.Bool.{eqb-true, eqb-false}
use Rattle.std.proofs.lemmas.List.{length-set}
use Rattle.std.proofs.lemmas.List.Edits.{length-insert}
use Rattle.std.proofs.lemmas.Option.{slice_get_within}
use Rattle.fc_oldmap.specs.declared.Hole.{Hole}
use Rattle.fc_oldmap.specs.Holes.{hole, hole_end, joined_at, after_give, hole_limit, IsFirstReaching}
use Rattle.fc_oldmap.proofs.FitLemmas.{after_give-below, after_give-above, after_give-apart}
use Rattle.fc_oldmap.proofs.SpaceLemmas.{ends_fit, ends_fit-set, seen_at, seen_end, length-joined_at}
use Rattle.fc_oldmap.proofs.holes.give_to.Goals as goal
use Rattle.fc_oldmap.proofs.holes.give_to.Goals.{After-hole_at, After-join_next, After-set-in-Some-2, After-is_full, in_default-via-in-Some-2+else-hole-end, in_default-via-in_default}

pub first_reaching-at-requires : goal.first_reaching-at-requires
first_reaching-at-requires c = ends_fit c.args.holes.now.items c.deref.result.now c.requires.holes c.deref.ensures.0

-- the index is that of the map's first hole that reaches the space
reaching : (c : After-hole_at) → IsFirstReaching c.args.holes.now.items c.args.space.start c.first_reaching-at.result
reaching c =
    let R : List Hole → Type 0 = λ l. IsFirstReaching l c.args.space.start c.first_reaching-at.result in
    subst R c.deref.ensures.0 c.first_reaching-at.ensures

-- what was found is the map's hole of that index
there : (c : After-hole_at) (h : Hole) → c.hole_at.result ≡ Some h → slice_get c.args.holes.now.items c.first_reaching-at.result ≡ Some h
there c h is = seen_at c.args.holes.now.items c.deref-2.result.now c.first_reaching-at.result c.hole_at.result c.deref-2.ensures.0 c.hole_at.ensures ∙ is

pub end-requires : goal.end-requires
end-requires c = omega (arith, seen_end c.args.holes.now.items c.first_reaching-at.result c.in-Some.hole c.requires.holes (there (goal.at.end-requires c).After-hole_at c.in-Some.hole c.in-Some.is))

pub set-requires : goal.set-requires
set-requires c = slice_get_within c.args.holes.now.items c.first_reaching-at.result c.in-Some.hole (there (goal.at.set-requires c).After-hole_at c.in-Some.hole c.in-Some.is)

pub set-requires-in-Some-2 : goal.set-requires-in-Some-2
set-requires-in-Some-2 c = slice_get_within c.args.holes.now.items c.first_reaching-at.result c.in-Some.hole (there (goal.at.set-requires-in-Some-2 c).After-hole_at c.in-Some.hole c.in-Some.is)

pub join_next-requires : goal.join_next-requires
join_next-requires c =
    let items = c.args.holes.now.items in
    let All_fit : List Hole → Type 0 = λ l. All (λ h. hole_end h < 2 ^ 32) l in
    let joined = hole c.in-Some.hole.start (c.in-Some.hole.len + c.args.space.len) in
    let fits : hole_end joined < 2 ^ 32 = omega (arith, c.if-end-space.true, c.end.ensures, c.requires.space) in
    subst All_fit (sym c.set.ensures) (ends_fit-set items c.first_reaching-at.result joined (ends_fit items items c.requires.holes refl) fits)

-- the three places of a space
below : (c : After-join_next) → slice_get c.args.holes.now.items c.first_reaching-at.result ≡ Some c.in-Some.hole
    → IsFirstReaching c.args.holes.now.items c.args.space.start c.first_reaching-at.result → c.join_next.new.holes.items ≡ after_give c.args.space c.args.holes.now.items
below c at r =
    c.join_next.ensures ∙ ap (joined_at c.first_reaching-at.result) c.set.ensures
    ∙ sym (after_give-below c.args.space c.args.holes.now.items c.requires.holes.disc_units c.requires.holes.sector_units 0 c.first_reaching-at.result c.in-Some.hole c.requires.positive r at (sym c.end.ensures ∙ c.if-end-space.true) c.requires.holes.are_holes c.requires.apart)

pub returns-in-Some-clause-ok : goal.returns-in-Some-clause-ok
returns-in-Some-clause-ok c =
    let before = (goal.at.returns-in-Some-clause-ok c).After-hole_at in
    below (goal.at.returns-in-Some-clause-ok c).After-join_next (there before c.in-Some.hole c.in-Some.is) (reaching before)

pub returns-in-Some-clause-full : goal.returns-in-Some-clause-full
returns-in-Some-clause-full c =
    let before = (goal.at.returns-in-Some-clause-full c).After-hole_at in
    let given = below (goal.at.returns-in-Some-clause-full c).After-join_next (there before c.in-Some.hole c.in-Some.is) (reaching before) in
    let joined = hole c.in-Some.hole.start (c.in-Some.hole.len + c.args.space.len) in
    let items = c.args.holes.now.items in
    let few : length items ≤ 82 = omega (arith, ap length c.deref.ensures.0, c.deref.ensures.1) in
    (λ e. absurd (cc e), λ more. absurd (omega (arith, few, more, ap length given, ap length c.join_next.ensures, length-joined_at c.first_reaching-at.result c.set.new.holes.items, ap length c.set.ensures, length-set items c.first_reaching-at.result joined)))

above : (c : After-set-in-Some-2) → slice_get c.args.holes.now.items c.first_reaching-at.result ≡ Some c.in-Some.hole
    → IsFirstReaching c.args.holes.now.items c.args.space.start c.first_reaching-at.result → c.set-in-Some-2.new.holes.items ≡ after_give c.args.space c.args.holes.now.items
above c at r =
    c.set-in-Some-2.ensures
    ∙ sym (after_give-above c.args.space c.args.holes.now.items c.first_reaching-at.result c.in-Some.hole r at (λ e. c.if-end-space.false (c.end.ensures ∙ e)) (sym c.end-end.ensures ∙ sym c.if-hole-end.true))

pub returns-in-Some-2-clause-ok : goal.returns-in-Some-2-clause-ok
returns-in-Some-2-clause-ok c =
    let before = (goal.at.returns-in-Some-2-clause-ok c).After-hole_at in
    above (goal.at.returns-in-Some-2-clause-ok c).After-set-in-Some-2 (there before c.in-Some.hole c.in-Some.is) (reaching before)

pub returns-in-Some-2-clause-full : goal.returns-in-Some-2-clause-full
returns-in-Some-2-clause-full c =
    let before = (goal.at.returns-in-Some-2-clause-full c).After-hole_at in
    let given = above (goal.at.returns-in-Some-2-clause-full c).After-set-in-Some-2 (there before c.in-Some.hole c.in-Some.is) (reaching before) in
    let joined = hole c.args.space.start (c.args.space.len + c.in-Some.hole.len) in
    let items = c.args.holes.now.items in
    let few : length items ≤ 82 = omega (arith, ap length c.deref.ensures.0, c.deref.ensures.1) in
    (λ e. absurd (cc e), λ more. absurd (omega (arith, few, more, ap length given, ap length c.set-in-Some-2.ensures, length-set items c.first_reaching-at.result joined)))

apart : (c : After-is_full) → slice_get c.args.holes.now.items c.first_reaching-at.result ≡ c.hole_at.result
    → IsFirstReaching c.args.holes.now.items c.args.space.start c.first_reaching-at.result
    → after_give c.args.space c.args.holes.now.items ≡ insert c.args.holes.now.items c.first_reaching-at.result c.args.space
apart c same r =
    after_give-apart c.args.space c.args.holes.now.items c.first_reaching-at.result r
    (elim c.in_default.branch [
      | in_default-via-in-Some-2+else-hole-end w ↦ (λ h at.
          let e : h ≡ w.in-Some.hole = cc (sym at ∙ same ∙ w.in-Some.is) in
          (λ t. w.if-end-space.false (w.end.ensures ∙ ap hole_end (sym e) ∙ t), λ t. w.if-hole-end.false (ap (λ (y : Hole). y.start) (sym e) ∙ t ∙ sym c.end-end.ensures)))
      | in_default-via-in_default w ↦ (λ h at. absurd (w.in_default.not-Some h (sym same ∙ at)))
    ])

pub returns-in_default-clause-full : goal.returns-in_default-clause-full
returns-in_default-clause-full c =
    let before = (goal.at.returns-in_default-clause-full c).After-hole_at in
    let items = c.args.holes.now.items in
    let same = seen_at items c.deref-2.result.now c.first_reaching-at.result c.hole_at.result c.deref-2.ensures.0 c.hole_at.ensures in
    let given = apart (goal.at.returns-in_default-clause-full c).After-is_full same (reaching before) in
    let full : length items ≡ 82 = eqb-true (length items) 82 (sym c.is_full.ensures.value ∙ c.if-is_full.true) in
    let more : hole_limit < length (after_give c.args.space items) = omega (arith, full, ap length given, length-insert items c.first_reaching-at.result c.args.space (reaching before).within) in
    (λ e. more, λ l. refl)

pub returns-in_default-2-clause-ok : goal.returns-in_default-2-clause-ok
returns-in_default-2-clause-ok c =
    let before = (goal.at.returns-in_default-2-clause-ok c).After-hole_at in
    let same = seen_at c.args.holes.now.items c.deref-2.result.now c.first_reaching-at.result c.hole_at.result c.deref-2.ensures.0 c.hole_at.ensures in
    c.insert.ensures.items ∙ sym (apart (goal.at.returns-in_default-2-clause-ok c).After-is_full same (reaching before))

pub returns-in_default-2-clause-full : goal.returns-in_default-2-clause-full
returns-in_default-2-clause-full c =
    let before = (goal.at.returns-in_default-2-clause-full c).After-hole_at in
    let items = c.args.holes.now.items in
    let same = seen_at items c.deref-2.result.now c.first_reaching-at.result c.hole_at.result c.deref-2.ensures.0 c.hole_at.ensures in
    let given = apart (goal.at.returns-in_default-2-clause-full c).After-is_full same (reaching before) in
    let other : length items ≡ 82 → ⊥ = eqb-false (length items) 82 (sym c.is_full.ensures.value ∙ c.if-is_full.false) in
    (λ e. absurd (cc e), λ more. absurd (omega (arith, other, c.is_full.ensures.fits, more, ap length given, length-insert items c.first_reaching-at.result c.args.space (reaching before).within)))
