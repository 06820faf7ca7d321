-- `save`, `create` and `cdir` without growth: the law.
use Rattle.std.proofs.Common.{sym}
use Rattle.fc_edits.specs.Addition.{AdditionLaw}
use Rattle.fc_edits.proofs.lemmas.AddedPlaceLemmas.{added_places, none_given, old_added_places, space_change}
use Rattle.fc_edits.proofs.lemmas.AdditionLemmas.{are_edited, can_say, is_edit, new_parts, old_parts_of, owners_as}
use Rattle.fc_edits.proofs.lemmas.NewAgreeLemmas.{agree_law, agree_now}
use Rattle.fc_edits.proofs.lemmas.ReplacedLemmas.{replaced_edited}

pub addition_law : AdditionLaw
addition_law = record {
  is_edit = is_edit;
  nodes = are_edited;
  nodes_over_it = λ nodes layout listings c p h d over. replaced_edited nodes layout listings c h d p over;
  owners = owners_as;
  can = can_say;
  change = space_change;
  none_goes = λ m o os. record { exactly = λ k used. sym (none_given o os k) };
  new_places = added_places;
  old_places = old_added_places;
  new = λ x. agree_now (new_parts x);
  old = λ x. agree_law.old (old_parts_of x);
}
