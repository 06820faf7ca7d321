use Rattle.std.proofs.Common.{ℕ, ap, refl}
use Rattle.fc_objects.specs.Extents.{sectors_in}
use Rattle.fc_change.specs.declared.change.Regrowth.{Regrowth}
use Rattle.fc_change.proofs.LeadsLemmas.{new_few, new_free, new_leads, new_zones}
use Rattle.fc_change.proofs.placing.growth.place_moved.Goals as goal

pub extents_in-requires : goal.extents_in-requires
extents_in-requires c = new_zones c.args.map.now c.is_map.ensures c.args.growth c.args.address c.args.alone c.args.plan.now c.requires

pub address_moved-address-requires : goal.address_moved-address-requires
address_moved-address-requires c = new_few c.args.map.now c.is_map.ensures c.args.growth c.args.address c.args.alone c.args.plan.now c.requires

pub returns : goal.returns
returns c =
    let sectors = sectors_in c.in_ok-extents.extents.items in
    record {
      directory = ap (λ (a : ℕ). let r : Regrowth = record { node = c.args.growth.node; address = a; len = c.args.growth.len } in r) c.address_moved-address.ensures;
      moves = refl;
      sectors = c.in_ok-extents.ensures;
      leads = new_leads c.args.map.now c.is_map.ensures c.args.growth c.args.address c.args.alone c.args.plan.now c.requires sectors c.in_ok-extents.ensures;
      free = new_free c.args.map.now c.is_map.ensures c.args.growth c.args.address c.args.alone c.args.plan.now c.requires sectors c.in_ok-extents.ensures;
    }
