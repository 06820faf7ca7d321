-- One step of compaction after another, as far as the map goes.
use Rattle.std.proofs.Common.{◌≡◌, ◌<◌, ℕ, List, drop, refl, subst, sym, ◌∙◌}
use Rattle.fc_record.specs.declared.Geometry.{Geometry}
use Rattle.fc_record.specs.Record.{end_bit}
use Rattle.fc_bytes.specs.Bits.{bits}
use Rattle.fc_zone.specs.Edits.{KeepsLinks}
use Rattle.fc_zone.proofs.WrittenLemmas.{keeps_none, keeps_then}
use Rattle.fc_newmap.specs.Map.{Map, runs_of, sector_of, shape}
use Rattle.fc_newmap.specs.NewMap.{IsNewMap}
use Rattle.fc_alloc.specs.declared.owner.Owner.{Owner}
use Rattle.fc_compact.specs.Compaction.{ZoneStays}
use Rattle.fc_compact.specs.Steps.{Leads}

pub zone_none : (m : Map) (z : ℕ) → ZoneStays m m z
zone_none m z = record { outside = record { header = refl; behind = refl }; links = keeps_none (shape m.geometry z) (bits (sector_of m z)) (runs_of m z) }

pub zone_then : (a b c : Map) (z : ℕ) → b.geometry ≡ a.geometry → ZoneStays a b z → ZoneStays b c z → ZoneStays a c z
zone_then a b c z same one two = record {
  outside = record {
    header = two.outside.header ∙ one.outside.header;
    behind = subst (λ (g : Geometry). Behind g z (bits (sector_of b z)) (bits (sector_of c z))) same two.outside.behind ∙ one.outside.behind;
  };
  links = keeps_then (shape a.geometry z) (bits (sector_of a z)) (bits (sector_of b z)) (bits (sector_of c z)) (runs_of a z) (runs_of b z) (runs_of c z) one.links
      (subst (λ (g : Geometry). KeepsLinks (shape g z) (bits (sector_of b z)) (bits (sector_of c z)) (runs_of b z) (runs_of c z)) same two.links);
}
  where
    Behind : Geometry → ℕ → List ℕ → List ℕ → Type 0
    Behind g y old new = drop (end_bit g y) new ≡ drop (end_bit g y) old

pub leads_none : (owners : List Owner) (m : Map) → IsNewMap m → Leads owners m m
leads_none owners m is = record { was = is; map = is; geometry = refl; fixed = λ id stays. refl; zones = λ z low. zone_none m z }

pub leads_then : (owners : List Owner) (a b c : Map) → Leads owners a b → Leads owners b c → Leads owners a c
leads_then owners a b c one two = record {
  was = one.was;
  map = two.map;
  geometry = two.geometry ∙ one.geometry;
  fixed = λ id stays. two.fixed id stays ∙ one.fixed id stays;
  zones = λ z low. zone_then a b c z one.geometry (one.zones z low) (two.zones z (subst (λ (g : Geometry). z < g.zones) (sym one.geometry) low));
}
