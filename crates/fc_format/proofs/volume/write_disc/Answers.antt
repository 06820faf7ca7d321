use Rattle.std.proofs.Common.{rules, ◌++◌, ◌-◌, ◌≤◌, List, ℕ, ap, sym, ◌∙◌, subst}
use Rattle.fc_format.specs.declared.Format.{Format}
use Rattle.fc_format.specs.Fresh.{boot_block, e_map, e_plus_map, f_plus_zone2, f_record, f_zone0, f_zone1, f_zone2, f_zone3, format_size, old_map_with, plus_record, zeros}
use Rattle.fc_format.specs.Passes.{LengthensFront, disc_of}
use Rattle.fc_format.proofs.DiscLemmas.{disc_D, disc_E, disc_E+, disc_F, disc_F+, disc_L, old_d, old_l, on_ok}
use Rattle.fc_format.proofs.volume.write_disc.Goals as goal

-- the discs of these parts
abbrev one_zone_disc : List ℕ → List ℕ → List ℕ
one_zone_disc m r = m ++ m ++ r ++ zeros (819200 - 4096)

abbrev four_zones_disc : List ℕ → List ℕ → List ℕ → List ℕ
four_zones_disc of z2 r =
    zeros 0xC00 ++ boot_block of ++ zeros (0xC6800 - 0xE00) ++ (f_zone0 of ++ f_zone1 ++ z2 ++ f_zone3) ++ (f_zone0 of ++ f_zone1 ++ z2 ++ f_zone3) ++ r ++ zeros (1638400 - 823296)

pub returns-in-E-clause-front : goal.returns-in-E-clause-front
returns-in-E-clause-front g c =
    let is = ap (λ (l : List ℕ). one_zone_disc l c.new_root.result) c.e_map.ensures ∙ ap (one_zone_disc e_map) c.new_root.ensures ∙ disc_E ∙ ap disc_of (sym c.in-E.is) in
    on_ok c.write_one_zone.result c.write_one_zone.ensures.front (subst (λ (l : List ℕ). LengthensFront g.D.Disk c.args.disk.now c.write_one_zone.new.disk 0 l) is)

pub returns-in-E-clause-keeps : goal.returns-in-E-clause-keeps
returns-in-E-clause-keeps g c = λ start n le was. c.write_one_zone.ensures.keeps start n (subst (λ (f : Format). format_size f ≤ n) c.in-E.is le) was

pub returns-in-EPlus-clause-front : goal.returns-in-EPlus-clause-front
returns-in-EPlus-clause-front g c =
    let is = ap (λ (l : List ℕ). one_zone_disc l c.big_root.result) c.e_plus_map.ensures ∙ ap (one_zone_disc e_plus_map) c.big_root.ensures ∙ disc_E+ ∙ ap disc_of (sym c.in-EPlus.is) in
    on_ok c.write_one_zone-in-EPlus.result c.write_one_zone-in-EPlus.ensures.front (subst (λ (l : List ℕ). LengthensFront g.D.Disk c.args.disk.now c.write_one_zone-in-EPlus.new.disk 0 l) is)

pub returns-in-EPlus-clause-keeps : goal.returns-in-EPlus-clause-keeps
returns-in-EPlus-clause-keeps g c = λ start n le was. c.write_one_zone-in-EPlus.ensures.keeps start n (subst (λ (f : Format). format_size f ≤ n) c.in-EPlus.is le) was

pub returns-in-F-clause-front : goal.returns-in-F-clause-front
returns-in-F-clause-front g c =
    let is = ap (λ (l : List ℕ). four_zones_disc l c.f_zone2.result c.new_root-in-F.result) c.f_record.ensures
    ∙ ap (λ (l : List ℕ). four_zones_disc f_record l c.new_root-in-F.result) c.f_zone2.ensures
    ∙ ap (four_zones_disc f_record f_zone2) c.new_root-in-F.ensures
    ∙ disc_F ∙ ap disc_of (sym c.in-F.is) in
    on_ok c.write_four_zones.result c.write_four_zones.ensures.front (subst (λ (l : List ℕ). LengthensFront g.D.Disk c.args.disk.now c.write_four_zones.new.disk 0 l) is)

pub returns-in-F-clause-keeps : goal.returns-in-F-clause-keeps
returns-in-F-clause-keeps g c = λ start n le was. c.write_four_zones.ensures.keeps start n (subst (λ (f : Format). format_size f ≤ n) c.in-F.is le) was

pub returns-in-FPlus-clause-front : goal.returns-in-FPlus-clause-front
returns-in-FPlus-clause-front g c =
    let is = ap (λ (l : List ℕ). four_zones_disc l c.f_plus_zone2.result c.big_root-in-FPlus.result) (c.with_big_root-of.ensures ∙ ap plus_record c.f_record-in-FPlus.ensures)
    ∙ ap (λ (l : List ℕ). four_zones_disc (plus_record f_record) l c.big_root-in-FPlus.result) c.f_plus_zone2.ensures
    ∙ ap (four_zones_disc (plus_record f_record) f_plus_zone2) c.big_root-in-FPlus.ensures
    ∙ disc_F+ ∙ ap disc_of (sym c.in-FPlus.is) in
    on_ok c.write_four_zones-in-FPlus.result c.write_four_zones-in-FPlus.ensures.front (subst (λ (l : List ℕ). LengthensFront g.D.Disk c.args.disk.now c.write_four_zones-in-FPlus.new.disk 0 l) is)

pub returns-in-FPlus-clause-keeps : goal.returns-in-FPlus-clause-keeps
returns-in-FPlus-clause-keeps g c = λ start n le was. c.write_four_zones-in-FPlus.ensures.keeps start n (subst (λ (f : Format). format_size f ≤ n) c.in-FPlus.is le) was

pub returns-in-D-clause-front : goal.returns-in-D-clause-front
returns-in-D-clause-front g c =
    let is = old_d c.old_map-map.result c.new_root-in-D.result (search rules) (search rules)
    ∙ ap (λ (l : List ℕ). l ++ zeros 512 ++ c.new_root-in-D.result ++ zeros (819200 - 3072)) c.old_map-map.ensures
    ∙ ap (λ (l : List ℕ). old_map_with 3200 12 ++ zeros 512 ++ l ++ zeros (819200 - 3072)) c.new_root-in-D.ensures
    ∙ disc_D ∙ ap disc_of (sym c.in-D.is) in
    on_ok c.write_parts.result c.write_parts.ensures.front (subst (λ (l : List ℕ). LengthensFront g.D.Disk c.args.disk.now c.write_parts.new.disk 0 l) is)

pub returns-in-D-clause-keeps : goal.returns-in-D-clause-keeps
returns-in-D-clause-keeps g c = λ start n le was. c.write_parts.ensures.keeps start n (subst (λ (f : Format). format_size f ≤ n) c.in-D.is le) was

pub returns-in-L-clause-front : goal.returns-in-L-clause-front
returns-in-L-clause-front g c =
    let is = old_l c.old_map-map-in-L.result c.old_root.result (search rules) (search rules)
    ∙ ap (λ (l : List ℕ). l ++ c.old_root.result ++ zeros (655360 - 1792)) c.old_map-map-in-L.ensures
    ∙ ap (λ (l : List ℕ). old_map_with 2560 7 ++ l ++ zeros (655360 - 1792)) c.old_root.ensures
    ∙ disc_L ∙ ap disc_of (sym c.in-L.is) in
    on_ok c.write_parts-in-L.result c.write_parts-in-L.ensures.front (subst (λ (l : List ℕ). LengthensFront g.D.Disk c.args.disk.now c.write_parts-in-L.new.disk 0 l) is)

pub returns-in-L-clause-keeps : goal.returns-in-L-clause-keeps
returns-in-L-clause-keeps g c = λ start n le was. c.write_parts-in-L.ensures.keeps start n (subst (λ (f : Format). format_size f ≤ n) c.in-L.is le) was
