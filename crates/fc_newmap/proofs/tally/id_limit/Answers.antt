use Rattle.std.proofs.Common.{◌≡◌, ℕ, ◌*◌, ◌%◌, ◌^◌, min, ap₂, ◌∙◌, arith}
use Rattle.std.proofs.lemmas.Nat.{shl_whole}
use Rattle.fc_newmap.proofs.TallyLemmas.{idlen_few, ids_few}
use Rattle.fc_newmap.proofs.tally.id_limit.Goals as goal
use Rattle.fc_newmap.proofs.tally.id_limit.Goals.{After-min}

pub overflow_shl-g : goal.overflow_shl-g
overflow_shl-g c = omega (arith, idlen_few c.args.g.now c.requires)

least : (c : After-min) → c.min.result ≡ min (c.args.g.now.ids_per_zone * c.args.g.now.zones) (2 ^ c.args.g.now.idlen)
least c =
    let g = c.args.g.now in
    let low = idlen_few g c.requires in
    let whole : (1 * 2 ^ g.idlen) % 2 ^ 64 ≡ 1 * 2 ^ g.idlen = shl_whole 1 1 g.idlen 64 (omega arith) (omega (arith, low)) in
    c.min.ensures ∙ ap₂ min (ap₂ (λ (x y : ℕ). x * y) c.from.ensures c.from-2.ensures) (whole ∙ omega arith)

pub overflow_cast-result : goal.overflow_cast-result
overflow_cast-result c =
    let few = ids_few c.args.g.now c.requires in
    let is = least (goal.at.overflow_cast-result c).After-min in
    omega (arith, few, is)

pub returns : goal.returns
returns c = least (goal.at.returns c).After-min
