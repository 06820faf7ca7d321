-- `rename` that copies its file into a directory that grows by it, on images, by the laws of outcomes.
use Rattle.fc_outcomes.specs.GrownCopying.{GrownCopyingLaw}
use Rattle.fc_outcomes.proofs.lemmas.GrownCopiedAskedLemmas.{grown_copied}
use Rattle.fc_outcomes.proofs.lemmas.GrownCopyingExitLemmas.{directory_may, object_may}

pub grown_copying_law : GrownCopyingLaw
grown_copying_law = record {
  new = λ x from to puts stored image image' wr. grown_copied x from to puts stored image image' wr;
  object_may = λ x from to image opens its. object_may x from to image opens its;
  directory_may = λ x from to image a opens its at. directory_may x from to image opens its a at;
}
