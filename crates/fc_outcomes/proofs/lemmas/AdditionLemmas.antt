-- `save`, `create` and `cdir` without growth, on both maps.
use Rattle.fc_oldmap.specs.Laws.{ReadsBack}
use Rattle.fc_outcomes.specs.Addition.{AdditionLaw}
use Rattle.fc_outcomes.proofs.lemmas.AddedLemmas as new
use Rattle.fc_outcomes.proofs.lemmas.OldAddedLemmas as old
use Rattle.fc_outcomes.proofs.lemmas.MayLemmas as may

pub addition_law : ReadsBack → AdditionLaw
addition_law back = record {
  new_file = λ x c path load exec bytes stored image image' w f place. new.new_file x c path load exec bytes stored image image' w f place;
  new_directory = λ x path d bytes stored image image' w is place. new.new_directory x path d bytes stored image image' w is place;
  old_file = λ x c path load exec bytes stored image image' w f place. old.old_file back x c path load exec bytes stored image image' w f place;
  old_directory = λ x path d bytes stored image image' w is place. old.old_directory back x path d bytes stored image image' w is place;
  new_may_file = may.new_may_file;
  new_may_directory = may.new_may_directory;
  old_may_file = may.old_may_file;
  old_may_directory = may.old_may_directory;
}
