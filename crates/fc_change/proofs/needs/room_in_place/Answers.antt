use Rattle.std.proofs.Common.{refl, sym, ap, ◌∙◌}
use Rattle.std.specs.Option.{option_map}
use Rattle.fc_tree.proofs.WalkedLemmas.{same_some}
use Rattle.fc_tree.specs.declared.node.Node.{Node}
use Rattle.fc_change.proofs.NeedsLemmas.{never_both}
use Rattle.fc_change.proofs.needs.room_in_place.Goals as goal

pub room_renamed_in-requires : goal.room_renamed_in-requires
room_renamed_in-requires c = λ content says.
    c.requires content (record { node = c.in-Some.node.now; there = sym c.node.ensures ∙ ap (option_map (λ x. x.now)) c.in-Some.is; says = says })

pub returns-in-Some : goal.returns-in-Some
returns-in-Some c =
    let there = sym (ap (option_map (λ x. x.now)) c.in-Some.is) ∙ c.node.ensures in
    record {
      kept = λ content was says is same. c.room_renamed_in.ensures.kept content was (ap (λ (x : Node). x.body) (same_some c.in-Some.node.now says.node (there ∙ says.there)) ∙ says.says) is same;
      respelled = λ content was gain says is other gets.
          c.room_renamed_in.ensures.respelled content was gain (ap (λ (x : Node). x.body) (same_some c.in-Some.node.now says.node (there ∙ says.there)) ∙ says.says) is other gets;
    }

pub returns-in-None : goal.returns-in-None
returns-in-None c =
    let none = sym (ap (option_map (λ x. x.now)) c.in-None.is) ∙ c.node.ensures in
    record { kept = λ content was says is same. refl; respelled = λ content was gain says is other gets. absurd (never_both says.node (none ∙ says.there)) }
