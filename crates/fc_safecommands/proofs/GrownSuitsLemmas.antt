-- A volume that suits the safe mode still suits it after a job by which a directory grows: none comes to lie in the map's identifier.
use Rattle.std.proofs.Common.{◌≡◌, ◌≤◌, ◌==◌, ◌&&◌, ⊎_elim, ℕ, Bool, true, false, List, [], ◌∷◌, refl, sym, ap, subst, ◌∙◌, arith, Option, Some, None}
use Rattle.std.specs.FinMap.{get, insert as put_node}
use Rattle.std.specs.Option.{option_map_or}
use Rattle.std.proofs.lemmas.Bool.{ne_eqb}
use Rattle.fc_newmap.specs.Map.{Map}
use Rattle.fc_dirs.specs.declared.Entry.{Entry}
use Rattle.fc_drafts.specs.Draft.{directory_in}
use Rattle.fc_drafts.specs.Entries.{regrown}
use Rattle.fc_names.specs.Names.{is_directory}
use Rattle.fc_image.specs.Layout.{Layout, id_of}
use Rattle.fc_laws.specs.nodes.Edits.{Nodes, with_body, with_edited}
use Rattle.fc_tree.specs.Nodes.{body_in}
use Rattle.fc_tree.specs.declared.node.Node.{Node}
use Rattle.fc_change.specs.declared.change.Change.{Change}
use Rattle.fc_change.specs.declared.change.Regrowth.{Regrowth}
use Rattle.fc_change.specs.declared.change.Says.{Says}
use Rattle.fc_change.specs.declared.change.Turned.{Turned}
use Rattle.fc_change.specs.declared.change.Turned.TheVariants as turns
use Rattle.fc_change.specs.declared.spaces.Spaces.{Spaces}
use Rattle.fc_change.specs.After.{body_said, gone_in, nodes_after, with_regrown, with_said, with_turned, without_gone}
use Rattle.fc_safe.specs.FirstSpace.{ArePlacedFirst}
use Rattle.fc_safe.specs.Suits.{Suits, is_low_directory}
use Rattle.fc_safecommands.proofs.GrownNeedsLemmas.{new_high}
use Rattle.fc_safecommands.proofs.GrownSpaceLemmas.{plan_cases}
use Rattle.fc_safecommands.proofs.GrownStepLemmas.{grown_at}
use Rattle.fc_safecommands.proofs.GrownStirLemmas.{GrowingJob, h, moves_high}
use Rattle.fc_safecommands.proofs.SuitsLemmas.{NoneLow, put_low, said_low, still_suits}

-- ---- one node after another

all_said : (ss : List Says) (nodes : Nodes) → NoneLow nodes → NoneLow (with_said ss nodes)
all_said [] nodes none = none
all_said (q ∷ ss) nodes none = all_said ss (with_body q.node (body_in (directory_in q.draft)) nodes) (said_low nodes q.node (λ (x : Node). record x { body = body_in (directory_in q.draft) }) (λ x. refl) none)

-- an edited one
edited_low : (nodes : Nodes) (n : ℕ) (f : Node → Node) → ((x : Node) → is_low_directory (f x).entry ≡ false) → NoneLow nodes → NoneLow (with_edited n f nodes)
edited_low nodes n f low none = by (get nodes n)
  where
    by : (q : Option Node) → NoneLow (option_map_or (λ (x : Node). put_node nodes n (f x)) q nodes)
    by None = none
    by (Some x) = put_low nodes n (f x) (low x) none

no_low : (b : Bool) (address : ℕ) → 3 ≤ id_of address → (b && (id_of address == 2)) ≡ false
no_low true address high = ne_eqb (id_of address) 2 (λ two. omega (arith, high, two))
no_low false address high = refl

grown_low : (g : Regrowth) (nodes : Nodes) → 3 ≤ id_of g.address → NoneLow nodes → NoneLow (with_regrown (Some g) nodes)
grown_low g nodes high none = edited_low nodes g.node (λ (node : Node). record node { entry = regrown node.entry g.address g.len }) (λ x. no_low (is_directory x.entry.attrs) g.address high) none

-- The object comes or turns, and then isn't a directory in the map's identifier.
abbrev pub IsNoneLow : Turned → Type 0
IsNoneLow (turns.Comes dir e own) = is_low_directory e ≡ false
IsNoneLow (turns.Turns n dir e) = is_low_directory e ≡ false
IsNoneLow (turns.Goes n) = ⊥

after_low : (t : Turned) (ss : List Says) (number : ℕ) (nodes : Nodes) → IsNoneLow t → NoneLow nodes → NoneLow (without_gone (gone_in t) (with_said ss (with_turned t number nodes)))
after_low (turns.Comes dir e own) ss number nodes low none = all_said ss (put_node nodes number (record { holder = dir; entry = e; body = body_said own })) (put_low nodes number (record { holder = dir; entry = e; body = body_said own }) low none)
after_low (turns.Turns n dir e) ss number nodes low none =
    all_said ss (with_edited n (λ (node : Node). record node { holder = dir; entry = e }) nodes) (edited_low nodes n (λ (node : Node). record node { holder = dir; entry = e }) (λ x. low) none)
after_low (turns.Goes n) ss number nodes low none = absurd low

-- ---- the job's

module _ (x : GrowingJob) (s : Spaces) (placed : ArePlacedFirst x.m (h x) x.job x.wants s) where
  -- The grown directory lies in an identifier that may change.
  pub id_high : 3 ≤ id_of (grown_at x s placed).0.directory.address
  id_high =
      let first = (grown_at x s placed).2 in
      subst (λ (k : ℕ). 3 ≤ k) first.id
      (⊎_elim (λ own. new_high x.m first.plan.id own.0) (λ other. ⊎_elim (λ moved. (moves_high x first.plan.id moved.0).0) (λ out. new_high x.m first.plan.id out.0) other) (plan_cases x s placed first.plan first.among))

  module _ (c : Change) (grown : c.grown ≡ Some (grown_at x s placed).0.directory) (low : IsNoneLow c.object) where
    pub none_low : (number : ℕ) → NoneLow (nodes_after c number x.nodes)
    none_low number =
        after_low c.object c.says.items number (with_regrown c.grown x.nodes) low
        (subst (λ (g : Option Regrowth). NoneLow (with_regrown g x.nodes)) (sym grown) (grown_low (grown_at x s placed).0.directory x.nodes id_high x.suits.1))

    pub suits_after : (m' : Map) → m'.geometry ≡ x.m.geometry → (number : ℕ) → Suits (Layout.New m') (nodes_after c number x.nodes)
    suits_after m' same number = still_suits x.m m' x.nodes (nodes_after c number x.nodes) same x.suits (none_low number)
