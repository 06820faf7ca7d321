use Rattle.std.proofs.Common.{◌≡◌, ◌<◌, ◌*◌, ◌/◌, ◌^◌, ◌∙◌, ℕ, ap, ap₂, arith, subst, sym}
use Rattle.fc_record.specs.declared.Geometry.{Geometry}
use Rattle.fc_newmap.specs.Map.{bits_in, id_runs}
use Rattle.fc_placing.proofs.TallyLemmas.{bits_few, sectors_are}
use Rattle.fc_placing.proofs.room.tallied.Goals as goal

pub overflow_mul-result : goal.overflow_mul-result
overflow_mul-result c =
    let m = c.args.map.now in
    let is : c.in_ok-bits.bits ≡ bits_in (id_runs m c.args.id) = c.in_ok-bits.ensures in
    let fits : c.in_ok-bits.bits * m.geometry.bit_bytes < 2 ^ 64 = subst (λ (n : ℕ). n * m.geometry.bit_bytes < 2 ^ 64) (sym is) (bits_few m c.args.id c.geometry-g.ensures.map) in
    rw c.geometry-g.ensures.value (omega (arith, fits))

pub returns : goal.returns
returns c =
    let m = c.args.map.now in
    let same = c.geometry-g.ensures.value in
    let is : c.in_ok-bits.bits ≡ bits_in (id_runs m c.args.id) = c.in_ok-bits.ensures in
    ap₂ (λ (g : Geometry) (n : ℕ). c.in_ok-bits.bits * g.bit_bytes / n) same (c.from.ensures ∙ ap (λ (g : Geometry). g.sector) same)
    ∙ ap (λ (n : ℕ). n * m.geometry.bit_bytes / m.geometry.sector) is
    ∙ sym (sectors_are m c.args.id c.geometry-g.ensures.map)
