use Rattle.std.proofs.Common.{◌∙◌, ap}
use Rattle.fc_image.specs.Layout.{Layout}
use Rattle.fc_image.specs.Report.{Counts, free_bytes, hole_count}
use Rattle.fc_tree.specs.Nodes.{nodes_of}
use Rattle.fc_tree.proofs.TallyLemmas.{tally_law}
use Rattle.fc_tree.proofs.WalkedLemmas.{sound_law}
use Rattle.fc_check.specs.Space.{bytes_lost_to}
use Rattle.fc_check.proofs.SpaceLemmas.{lost_of_opened}
use Rattle.fc_check.proofs.report.Goals as goal

pub returns : goal.returns
returns c image kind view opens parts =
    let nodes = c.dir_counts-nodes.ensures in
    let space = c.space_counts-sectors.ensures in
    let all = tally_law view.layout view.listings c.args.tree.now (sound_law image kind view opens) parts.nodes in
    let lost = ap (λ (l : Layout). bytes_lost_to l c.args.owners.now) parts.layout ∙ lost_of_opened image kind view (nodes_of c.args.tree.now) c.args.owners.now opens parts.owners in
    let files = nodes.files ∙ all.files in
    let dirs = nodes.dirs ∙ all.dirs in
    let unsorted = nodes.unsorted ∙ all.unsorted in
    let parents = nodes.parents ∙ all.parents in
    let lost_all = space.lost ∙ lost in
    let holes = space.holes ∙ ap hole_count parts.layout in
    let free = space.free ∙ ap free_bytes parts.layout in
    λ k. let r : Counts = record { files = files k; dirs = dirs k; lost = lost_all k; holes = holes k; free = free k; unsorted = unsorted k; parents = parents k } in r
