use Rattle.fc_newmap.specs.Copies.{chosen}
use Rattle.fc_volume.proofs.OpenReadsLemmas.{chosen_most}
use Rattle.fc_volume.proofs.maps.read_copy.Goals as goal

pub returns-in-Err-BothBad-clause-most : goal.returns-in-Err-BothBad-clause-most
returns-in-Err-BothBad-clause-most g c = λ image told. chosen_most (chosen c.args.g.now image) c.args.g.now.zones _ _ c.fetch.ensures.few (c.fetch.ensures.first_alone image told)
