use Rattle.std.proofs.Common.{rules, ◌≡◌, ◌<◌, ◌≤◌, ℕ, ◌+◌, ◌-◌, List, [], ◌∷◌, ◌++◌, length, map, Some, refl, ap, ap₂, sym, subst, ◌∙◌, arith}
use Rattle.std.specs.Prelude.{IsSome, slice_index_or}
use Rattle.std.specs.FinMap.{len}
use Rattle.fc_names.specs.Names.{Path}
use Rattle.fc_dirs.specs.declared.Entry.{Entry}
use Rattle.fc_tree.specs.Nodes.{nodes_of}
use Rattle.fc_fit.specs.Found.{entries_in, node_in}
use Rattle.fc_fit.proofs.WalkLemmas.{IsWalked, walk_bounded, walk_ends, walk_goes_on, walk_leads, walk_starts}
use Rattle.fc_fit.proofs.paths.stored_paths.Goals as goal

pub loop-at-init : goal.loop-at-init
loop-at-init c =
    λ layout listings sound held.
    (let first : c.push_path.new.paths.items ≡ [] ∷ [] = search rules in
    subst (IsWalked layout listings sound 0) (sym first) (walk_starts layout listings (nodes_of c.args.tree.now) sound held))

pub node_at-requires : goal.node_at-requires
node_at-requires c =
    let r = c.requires in
    let paths = c.loop-at.paths.items in
    let below : c.loop-at.at < length paths = search rules in
    let dir : c.in_ok-dir.dir ≡ slice_index_or paths c.loop-at.at [] = c.in_ok-dir.ensures ∙ ap (λ (ps : List Path). slice_index_or ps c.loop-at.at []) c.deref.ensures.value in
    let lead = walk_leads r.0 r.1 (nodes_of c.args.tree.now) r.2 r.3 c.loop-at.at paths (c.loop-at.invariant r.0 r.1 r.2 r.3) below in
    subst IsSome (sym (ap (node_in (nodes_of c.args.tree.now)) dir ∙ lead.1)) refl

smaller : (n at : ℕ) → at < n → n - (at + 1) < n - at
smaller n at below = omega (arith, below)

pub loop-at-smaller : goal.loop-at-smaller
loop-at-smaller c =
    let r = c.requires in
    let paths = c.loop-at.paths.items in
    let below : c.loop-at.at < length paths = search rules in
    smaller (len (nodes_of c.args.tree.now)) c.loop-at.at
    (walk_bounded r.0 r.1 (nodes_of c.args.tree.now) r.2 r.3 c.loop-at.at paths (c.loop-at.invariant r.0 r.1 r.2 r.3) below)

pub loop-at-preserved : goal.loop-at-preserved
loop-at-preserved c =
    λ layout listings sound held.
    (let nodes = nodes_of c.args.tree.now in
    let at = c.loop-at.at in
    let paths = c.loop-at.paths.items in
    let below : at < length paths = search rules in
    let dir : c.in_ok-dir.dir ≡ slice_index_or paths at [] = c.in_ok-dir.ensures ∙ ap (λ (ps : List Path). slice_index_or ps at []) c.deref.ensures.value in
    let found : node_in nodes (slice_index_or paths at []) ≡ Some c.node_at.result.now = ap (node_in nodes) (sym dir) ∙ c.node_at.ensures in
    let grown : c.push_children.new.paths.items ≡ paths ++ map (λ (e : Entry). slice_index_or paths at [] ++ e.name ∷ []) (entries_in c.node_at.result.now.body) =
    c.in_ok-push_children.ensures ∙ ap₂ (λ (p : Path) (es : List Entry). paths ++ map (λ (e : Entry). p ++ e.name ∷ []) es) dir c.entries_of.ensures.same in
    subst (IsWalked layout listings sound (at + 1)) (sym grown)
    (walk_goes_on layout listings nodes sound held at paths (c.loop-at.invariant layout listings sound held) below c.node_at.result.now found))

pub returns : goal.returns
returns c =
    λ layout listings sound held.
    (let all : length c.loop-at.paths.items ≤ c.loop-at.at = omega (arith, c.loop-at-test.false) in
    walk_ends layout listings (nodes_of c.args.tree.now) sound held c.loop-at.at c.loop-at.paths.items (c.loop-at.invariant layout listings sound held) all)
