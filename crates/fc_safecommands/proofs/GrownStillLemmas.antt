-- After each job by which a directory grows a volume still suits the safe mode.
use Rattle.std.proofs.Common.{◌≡◌, ◌<◌, ◌≤◌, ◌==◌, ◌&&◌, ℕ, Bool, true, false, cond, List, [], refl, sym, ap, subst, ◌∙◌, arith, Option, Some, None}
use Rattle.std.specs.Prelude.{is_some}
use Rattle.std.specs.FinMap.{get}
use Rattle.std.specs.Option.{option_and_then, option_map, option_map_or, unwrap_or}
use Rattle.std.proofs.lemmas.Bool.{ne_eqb}
use Rattle.fc_newmap.specs.Map.{Map}
use Rattle.fc_model.specs.Tree.{last_name}
use Rattle.fc_image.specs.Layout.{Layout, dir_form, id_of}
use Rattle.fc_placing.specs.Places.{slack_left}
use Rattle.fc_tree.specs.declared.node.Node.{Node}
use Rattle.fc_drafts.specs.declared.draft.Draft.{Draft}
use Rattle.fc_drafts.specs.Entries.{renamed_entry}
use Rattle.fc_change.specs.declared.change.Change.{Change}
use Rattle.fc_change.specs.declared.change.Turned.{Turned}
use Rattle.fc_change.specs.declared.change.Turned.TheVariants as turns
use Rattle.fc_change.specs.declared.job.Job.TheVariants as jobs
use Rattle.fc_change.specs.declared.spaces.Place.{Place}
use Rattle.fc_change.specs.declared.spaces.Spaces.{Spaces}
use Rattle.fc_change.specs.After.{nodes_after}
use Rattle.fc_change.specs.Drafts.{IsChangeOf, address_in}
use Rattle.fc_change.specs.Shortage.{slack_for}
use Rattle.fc_commands.proofs.ArrivalLemmas.{Arrival, bytes_of, entry_of}
use Rattle.fc_commands.proofs.ArrivalPlaceLemmas.{dir_some, shares_of}
use Rattle.fc_commands.proofs.GrownMoveWantLemmas.{no_place}
use Rattle.fc_commands.proofs.TargetLemmas as target_of
use Rattle.fc_safe.specs.FirstSpace.{ArePlacedFirst}
use Rattle.fc_safe.specs.Suits.{Suits, is_low_directory}
use Rattle.fc_safecommands.proofs.GrownArrivalLemmas as arrival
use Rattle.fc_safecommands.proofs.GrownArrivalLemmas.{GrownArrival, want}
use Rattle.fc_safecommands.proofs.GrownArrivalStageLemmas as arrives
use Rattle.fc_safecommands.proofs.GrownMoveJobLemmas as mover
use Rattle.fc_safecommands.proofs.GrownMoveJobLemmas.{GrownMove}
use Rattle.fc_safecommands.proofs.GrownMoveStageLemmas as moves
use Rattle.fc_safecommands.proofs.CopyGrownLemmas as copier
use Rattle.fc_safecommands.proofs.CopyGrownLemmas.{GrownCopy, file}
use Rattle.fc_safecommands.proofs.CopyGrownStageLemmas as copies
use Rattle.fc_safecommands.proofs.GrownStirLemmas.{own_bytes}
use Rattle.fc_safecommands.proofs.GrownSuitsLemmas.{IsNoneLow, suits_after}

-- ---- what comes

module _ (a : GrownArrival) where
  -- a new directory has space of its own
  own_some : bytes_of (dir_form (Layout.New a.m)) Arrival.Makes ≡ a.wants.bytes → a.wants.shares ≡ None → 0 < own_bytes (arrival.growing a)
  own_some bytes shares =
      let none : slack_for a.m a.owners a.wants ≡ None = ap (λ (d : Option ℕ). option_and_then (λ (k : ℕ). slack_left a.m a.owners k a.wants.bytes) d) shares in
      let all : own_bytes (arrival.growing a) ≡ a.wants.bytes = ap (λ (o : Option (ℕ × ℕ)). let n : ℕ = cond (is_some o) 0 a.wants.bytes in n) none in
      let some = dir_some (dir_form (Layout.New a.m)) in
      omega (arith, all, bytes, some)

  pub entry_low : (address : ℕ) → (0 < own_bytes (arrival.growing a) → 3 ≤ id_of address) → is_low_directory (entry_of (dir_form (Layout.New a.m)) a.x (last_name a.path) address) ≡ false
  entry_low address high = by a.x (want a).slack (want a).bytes
    where
      by : (y : Arrival) → a.wants.shares ≡ shares_of a.dir y → a.wants.bytes ≡ bytes_of (dir_form (Layout.New a.m)) y → is_low_directory (entry_of (dir_form (Layout.New a.m)) y (last_name a.path) address) ≡ false
      by (Arrival.Saves words) shares bytes = refl
      by Arrival.Makes shares bytes = ne_eqb (id_of address) 2 (λ two. (let least = high (own_some (sym bytes) shares) in omega (arith, least, two)))

  pub arrival_suits : (s : Spaces) (placed : ArePlacedFirst a.m (arrival.h a) (arrival.job a) a.wants s) (c : Change) (change : IsChangeOf (arrival.h a) (arrival.job a) (last_name a.path) s c) (address : ℕ) (own : Option Draft)
      → c.object ≡ turns.Comes a.dir (entry_of (dir_form (Layout.New a.m)) a.x (last_name a.path) address) own → (0 < own_bytes (arrival.growing a) → 3 ≤ id_of address)
      → (m' : Map) → m'.geometry ≡ a.m.geometry → (number : ℕ) → Suits (Layout.New m') (nodes_after c number a.nodes)
  arrival_suits s placed c change address own comes high m' same number =
      suits_after (arrival.growing a) s placed c (arrives.ch a s placed c change).grown (subst IsNoneLow (sym comes) (entry_low address high)) m' same number

-- ---- `rename`

module _ (a : GrownMove) (s : Spaces) (placed : ArePlacedFirst a.m (mover.h a) (mover.job a) a.wants s) (c : Change) (change : IsChangeOf (mover.h a) (jobs.Move a.r) a.name s c) where
  -- the object has its attributes and its address still
  object_low : is_low_directory a.seen.known.target.object.entry ≡ false
  object_low =
      sym (ap (λ (n : Option Node). option_map_or (λ (node : Node). is_low_directory node.entry) n false)
      (target_of.node_is (Layout.New a.m) a.nodes a.listings a.seen.sound a.seen.held a.from a.r.target a.seen.known.target)) ∙ a.suits.1 a.r.target.node

  pub move_suits : (m' : Map) → m'.geometry ≡ a.m.geometry → (number : ℕ) → Suits (Layout.New m') (nodes_after c number a.nodes)
  move_suits m' same number =
      suits_after (mover.growing a) s placed c (moves.tl a s placed c change).grown
      (subst IsNoneLow (sym (moves.tl a s placed c change).turned)
      (ap (λ (o : Option ℕ). is_directory_at o) (address_none) ∙ object_low)) m' same number
    where
      is_directory_at : Option ℕ → Bool
      is_directory_at o = is_low_directory (renamed_entry a.seen.known.target.object.entry a.name (unwrap_or o a.seen.known.target.object.entry.address))

      address_none : address_in s ≡ None
      address_none = ap (λ (p : Option Place). option_map (λ (q : Place). q.address) p) (no_place (moves.q a s placed) a.plain)

-- ---- with a copy

module _ (a : GrownCopy) (s : Spaces) (placed : ArePlacedFirst a.m (copier.h a) (copier.job a) a.wants s) (c : Change) (change : IsChangeOf (copier.h a) (jobs.Move a.r) a.name s c) where
  -- The object is a file.
  pub copy_suits : (m' : Map) → m'.geometry ≡ a.m.geometry → (number : ℕ) → Suits (Layout.New m') (nodes_after c number a.nodes)
  copy_suits m' same number =
      suits_after (copier.growing a) s placed c (copies.tl a s placed c change).grown
      (subst IsNoneLow (sym (copies.tl a s placed c change).turned) (ap (λ (b : Bool). b && (id_of (unwrap_or (address_in s) a.seen.known.target.object.entry.address) == 2)) (file a).file)) m' same number
