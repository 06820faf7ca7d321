use Rattle.std.proofs.Common.{rules, ◌++◌, ◌-◌, List, ℕ, ap, ◌∙◌, subst}
use Rattle.std.specs.Prelude.{OnOk}
use Rattle.fc_format.specs.Fresh.{boot_block, f_zone0, f_zone1, zeros}
use Rattle.fc_format.specs.Passes.{LengthensFront}
use Rattle.fc_format.proofs.DiscLemmas.{four_zones}
use Rattle.fc_format.proofs.volume.write_four_zones.Goals as goal

-- the disc of these parts
abbrev disc : List ℕ → List ℕ → List ℕ → List ℕ → List ℕ → List ℕ → List ℕ
disc b z0 z1 z2 z3 r = zeros 0xC00 ++ b ++ zeros (0xC6800 - 0xE00) ++ (z0 ++ z1 ++ z2 ++ z3) ++ (z0 ++ z1 ++ z2 ++ z3) ++ r ++ zeros (1638400 - 823296)

pub returns-clause-front : goal.returns-clause-front
returns-clause-front g c =
    let b = c.boot_block-boot.result in
    let z0 = c.f_zone0-zone0.result in
    let z1 = c.f_zone1-zone1.result in
    let z2 = c.args.zone2.now in
    let z3 = c.f_zone3-zone3.result in
    let r = c.args.root.now in
    let is = four_zones b z0 z1 z2 z3 r (search rules) (search rules) (search rules) c.told-zone2 (search rules) c.told-root
    ∙ ap (λ (l : List ℕ). disc l z0 z1 z2 z3 r) c.boot_block-boot.ensures
    ∙ ap (λ (l : List ℕ). disc (boot_block c.args.of.now) l z1 z2 z3 r) c.f_zone0-zone0.ensures
    ∙ ap (λ (l : List ℕ). disc (boot_block c.args.of.now) (f_zone0 c.args.of.now) l z2 z3 r) c.f_zone1-zone1.ensures
    ∙ ap (λ (l : List ℕ). disc (boot_block c.args.of.now) (f_zone0 c.args.of.now) f_zone1 z2 l r) c.f_zone3-zone3.ensures in
    subst (λ (l : List ℕ). OnOk c.write_parts.result (LengthensFront g.D.Disk c.args.disk.now c.write_parts.new.disk 0 l)) is c.write_parts.ensures.front
