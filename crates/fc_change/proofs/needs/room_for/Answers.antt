use Rattle.std.proofs.Common.{sym, ap, ◌∙◌}
use Rattle.std.specs.Option.{option_map}
use Rattle.fc_tree.proofs.WalkedLemmas.{same_some}
use Rattle.fc_tree.specs.declared.node.Node.{Node}
use Rattle.fc_change.proofs.NeedsLemmas.{never_both}
use Rattle.fc_change.proofs.needs.room_for.Goals as goal

pub returns-in-Some : goal.returns-in-Some
returns-in-Some c = λ content gain says gets.
    let same = same_some c.in-Some.node.now says.node (sym (ap (option_map (λ x. x.now)) c.in-Some.is) ∙ c.node.ensures ∙ says.there) in
    c.room_in.ensures content gain (ap (λ (x : Node). x.body) same ∙ says.says) gets

pub returns-in-None : goal.returns-in-None
returns-in-None c = λ content gain says gets. absurd (never_both says.node (sym (ap (option_map (λ x. x.now)) c.in-None.is) ∙ c.node.ensures ∙ says.there))
