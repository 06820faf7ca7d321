use Rattle.std.proofs.Common.{◌≡◌, ◌-◌, ℕ, nat_eq, sym, ap, ◌∙◌, eq-eqb}
use Rattle.std.specs.List.{find}
use Rattle.std.specs.Int.{div_ceil}
use Rattle.std.proofs.lemmas.Bool.{ne_eqb}
use Rattle.fc_record.specs.declared.Geometry.{Geometry}
use Rattle.fc_record.specs.Record.{id_limit}
use Rattle.fc_image.specs.effects.Sharing.{slack_among}
use Rattle.fc_placing.specs.Slack.{holdings, is_good, shares_from}
use Rattle.fc_placing.proofs.Shares.{slack_is, slack_none, some_sectors}
use Rattle.fc_placing.proofs.share.slack.Goals as goal
use Rattle.fc_placing.proofs.share.slack.Goals.{After-div_ceil-need}

pub returns-then-bytes-eq0 : goal.returns-then-bytes-eq0
returns-then-bytes-eq0 c = sym (slack_none c.args.map.now c.args.owners.now c.args.dir c.args.bytes (eq-eqb c.args.bytes 0 c.if-bytes-eq0.true))

-- what is first of all shares is the slack
found : (c : After-div_ceil-need) → find (is_good c.args.map.now c.args.owners.now c.args.dir c.div_ceil-need.result) (shares_from 3 (id_limit c.args.map.now.geometry - 3))
    ≡ slack_among nat_eq c.args.map.now (holdings c.args.map.now c.args.owners.now) c.args.dir c.args.bytes
found c =
    let m = c.args.map.now in
    let owners = c.args.owners.now in
    let dir = c.args.dir in
    let need : c.div_ceil-need.result ≡ div_ceil c.args.bytes m.geometry.sector = c.div_ceil-need.ensures ∙ ap (div_ceil c.args.bytes) (c.from.ensures ∙ ap (λ (g : Geometry). g.sector) c.geometry.ensures.value) in
    let some = some_sectors m c.args.bytes c.geometry.ensures.map c.if-bytes-eq0.false in
    ap (λ (k : ℕ). find (is_good m owners dir k) (shares_from 3 (id_limit m.geometry - 3))) need
    ∙ sym (slack_is m c.geometry.ensures.map owners dir c.args.bytes some (ne_eqb c.args.bytes 0 c.if-bytes-eq0.false))

pub returns-in-Some : goal.returns-in-Some
returns-in-Some c = c.first_share.ensures ∙ found (goal.at.returns-in-Some c).After-div_ceil-need

pub returns : goal.returns
returns c = c.first_share-2.ensures ∙ found (goal.at.returns c).After-div_ceil-need
