use Rattle.std.proofs.Common.{◌≡◌, ◌&&◌, ℕ, true, ap, sym, ◌∙◌}
use Rattle.fc_placing.specs.Slack.{has_shares, may_share}
use Rattle.fc_placing.proofs.OpenLemmas.{all_found, free_found}
use Rattle.fc_placing.proofs.Searches.{least_closed, least_found, least_missing}
use Rattle.fc_placing.proofs.share.least_low.Goals as goal
use Rattle.fc_record.proofs.KindLemmas.{and_second as second}

pub returns-then-not-may_share : goal.returns-then-not-may_share
returns-then-not-may_share c =
    let m = c.args.map.now in
    let owners = c.args.owners.now in
    let dir = c.args.dir in
    let id = c.args.id in
    let test = ap (λ b. has_shares m id && b) (all_found owners c.args.group.now dir id c.requires.group c.requires.found) in
    sym (least_closed m owners dir c.args.need id (sym test ∙ sym c.may_share.ensures ∙ c.if-not-may_share.true))

pub returns-then-has_room : goal.returns-then-has_room
returns-then-has_room c =
    let m = c.args.map.now in
    let owners = c.args.owners.now in
    let group = c.args.group.now in
    let dir = c.args.dir in
    let id = c.args.id in
    let may : (has_shares m id && may_share owners dir id) ≡ true = sym (ap (λ b. has_shares m id && b) (all_found owners group dir id c.requires.group c.requires.found)) ∙ sym c.may_share.ensures ∙ c.if-not-may_share.false in
    let free = λ (first : ℕ). free_found owners group dir id c.requires.group first c.args.need (second (has_shares m id) (may_share owners dir id) may) in
    sym (least_found m owners dir c.args.need id group c.free_low-low.result may c.free_low-low.ensures free (sym c.has_room.ensures ∙ c.if-has_room.true)).1

pub returns-else-has_room : goal.returns-else-has_room
returns-else-has_room c =
    let m = c.args.map.now in
    let owners = c.args.owners.now in
    let group = c.args.group.now in
    let dir = c.args.dir in
    let id = c.args.id in
    let may : (has_shares m id && may_share owners dir id) ≡ true = sym (ap (λ b. has_shares m id && b) (all_found owners group dir id c.requires.group c.requires.found)) ∙ sym c.may_share.ensures ∙ c.if-not-may_share.false in
    let free = λ (first : ℕ). free_found owners group dir id c.requires.group first c.args.need (second (has_shares m id) (may_share owners dir id) may) in
    sym (least_missing m owners dir c.args.need id group c.free_low-low.result may c.free_low-low.ensures free (sym c.has_room.ensures ∙ c.if-has_room.false))
