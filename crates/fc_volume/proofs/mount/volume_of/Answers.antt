use Rattle.std.proofs.Common.{List, ℕ, ◌≡◌, ap, subst, sym, ◌∙◌}
use Rattle.fc_image.specs.Objects.{objects_of}
use Rattle.fc_tree.specs.Agree.{AreWalked, reader_of_nodes}
use Rattle.fc_tree.specs.Nodes.{nodes_of}
use Rattle.fc_space.specs.Space.{layout_of}
use Rattle.fc_volume.proofs.MountLemmas.{misplaced_fault}
use Rattle.fc_volume.specs.Maps.{found_of}
use Rattle.fc_volume.proofs.OpenReadsLemmas.{walk_most}
use Rattle.fc_volume.proofs.mount.volume_of.Goals as goal

pub returns-in-None-clause-parts : goal.returns-in-None-clause-parts
returns-in-None-clause-parts g c =
    let same : c.space-space.result.now ≡ c.in_ok-places.places = c.space-space.ensures in
    let loaded = c.in_ok-tree.ensures.tree in
    let nodes = nodes_of c.in_ok-tree.tree in
    let layout = layout_of c.in_ok-places.places in
    let walked = subst (λ (reserved : List ℕ). AreWalked nodes layout reserved c.args.found.root c.args.found.root_size loaded.listings) (rw same at c.reserved_rows-rows.ensures.reserved) loaded.walked in
    let owned = (rw same at c.in_ok-owners.ensures) _ _ _ loaded.listings loaded.walked loaded.in_order in
    record {
      listings = loaded.listings;
      walked = walked;
      map_placed = sym ((rw same at c.misplaced_sector.ensures) nodes (objects_of loaded.listings) owned) ∙ c.in-None.is;
      owned = owned;
      tells = loaded.tells;
    }

pub returns-in-Some-clause-fault : goal.returns-in-Some-clause-fault
returns-in-Some-clause-fault g c = λ image told.
    let same : c.space-space.result.now ≡ c.args.found.space = c.space-space.ensures ∙ c.in_ok-places.ensures in
    let loaded = rw c.in_ok-places.ensures at c.in_ok-tree.ensures.tree in
    let nodes = nodes_of c.in_ok-tree.tree in
    let layout = layout_of c.args.found.space in
    let walked = subst (λ (reserved : List ℕ). AreWalked nodes layout reserved c.args.found.root c.args.found.root_size loaded.listings) (rw same at c.reserved_rows-rows.ensures.reserved) loaded.walked in
    let owned = (rw same at c.in_ok-owners.ensures) _ _ _ loaded.listings loaded.walked loaded.in_order in
    misplaced_fault c.walking.ensures image c.args.kind.now layout c.args.found.root c.args.found.root_size (reader_of_nodes nodes) loaded.listings c.in-Some.sector walked.walked (loaded.tells image told)
    (sym ((rw same at c.misplaced_sector.ensures) nodes (objects_of loaded.listings) owned) ∙ c.in-Some.is)

pub returns-in_err-tree-clause-most : goal.returns-in_err-tree-clause-most
returns-in_err-tree-clause-most g c = λ image told.
    let same : c.space-space.result.now ≡ c.in_ok-places.places = c.space-space.ensures in
    walk_most image c.args.kind.now (found_of c.args.found) (layout_of c.in_ok-places.places) _ _ _ (ap layout_of c.in_ok-places.ensures) (rw same at c.reserved_rows-rows.ensures.reserved) (c.load.ensures.most image told)

pub returns-in-None-clause-most : goal.returns-in-None-clause-most
returns-in-None-clause-most g c = λ image told.
    let same : c.space-space.result.now ≡ c.in_ok-places.places = c.space-space.ensures in
    walk_most image c.args.kind.now (found_of c.args.found) (layout_of c.in_ok-places.places) _ _ _ (ap layout_of c.in_ok-places.ensures) (rw same at c.reserved_rows-rows.ensures.reserved) (c.load.ensures.most image told)

pub returns-in-Some-clause-most : goal.returns-in-Some-clause-most
returns-in-Some-clause-most g c = λ image told.
    let same : c.space-space.result.now ≡ c.in_ok-places.places = c.space-space.ensures in
    walk_most image c.args.kind.now (found_of c.args.found) (layout_of c.in_ok-places.places) _ _ _ (ap layout_of c.in_ok-places.ensures) (rw same at c.reserved_rows-rows.ensures.reserved) (c.load.ensures.most image told)
