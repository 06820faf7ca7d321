use Rattle.std.proofs.Common.{◌≡◌, ◌<◌, ℕ, Bool, cond, List, [], ◌∷◌, ◌++◌, length, ap, sym, ◌∙◌, arith}
use Rattle.std.specs.Prelude.{filter}
use Rattle.std.specs.List.{range_with_len}
use Rattle.fc_record.specs.declared.Geometry.{Geometry}
use Rattle.fc_compact.specs.Joins.{has_run_in}
use Rattle.fc_compact.proofs.FoundLemmas.{passed_more, passed_room}
use Rattle.fc_compact.proofs.HoldLemmas.{zones_same}
use Rattle.fc_compact.proofs.lookup.zones_of.Goals as goal

pub push_if-requires : goal.push_if-requires
push_if-requires c = λ flagged.
    let m = c.args.map.now in
    let t : ℕ → Bool = has_run_in m c.args.id in
    let low : c.loop-z.z < m.geometry.zones = omega (arith, c.loop-z-test.true, ap (λ (g : Geometry). g.zones) c.geometry.ensures.value) in
    let room = passed_room t c.loop-z.z m.geometry.zones low (sym c.has_run-flag.ensures ∙ flagged) in
    let all = ap length (zones_same m c.geometry.ensures.map c.args.id) in
    omega (arith, room, c.requires, all, ap (λ (xs : List ℕ). length xs) c.loop-z.invariant)

pub loop-z-preserved : goal.loop-z-preserved
loop-z-preserved c =
    let t : ℕ → Bool = has_run_in c.args.map.now c.args.id in
    let z = c.loop-z.z in
    c.push_if.ensures
    ∙ ap (λ (b : Bool). cond b (c.loop-z.found.items ++ z ∷ []) c.loop-z.found.items) c.has_run-flag.ensures
    ∙ ap (λ (xs : List ℕ). cond (t z) (xs ++ z ∷ []) xs) c.loop-z.invariant
    ∙ sym (passed_more t z)

pub returns : goal.returns
returns c =
    let m = c.args.map.now in
    let e : c.loop-z.z ≡ m.geometry.zones = omega (arith, c.loop-z.auto.z-end, c.loop-z-test.false, ap (λ (g : Geometry). g.zones) c.geometry.ensures.value) in
    c.loop-z.invariant ∙ ap (λ (k : ℕ). filter (has_run_in m c.args.id) (range_with_len 0 k)) e ∙ sym (zones_same m c.geometry.ensures.map c.args.id)
