-- `rename` without a copy, into a directory that grows by it, on images, by the laws of outcomes.
use Rattle.fc_outcomes.specs.GrownMoving.{GrownMovingLaw}
use Rattle.fc_outcomes.proofs.lemmas.GrownMovingAskedLemmas.{grown_moved}
use Rattle.fc_outcomes.proofs.lemmas.GrownMovingMayLemmas.{directory_may}
use Rattle.fc_outcomes.proofs.lemmas.RenameEntryLemmas.{across, within_one}

pub grown_moving_law : GrownMovingLaw
grown_moving_law = record {
  across = λ v nodes from to c g h is its left joined. across v nodes from to c h is.found is.k_holds its.from_is its.to_is left joined;
  within = λ v nodes from to c g h is its entries. within_one v nodes from to c h is.found is.holds its.from_is its.to_is entries;
  new = λ x from to puts image image' wr. grown_moved x from to puts image image' wr;
  new_may = λ x from to image a opens its at. directory_may x from to image opens its a at;
}
