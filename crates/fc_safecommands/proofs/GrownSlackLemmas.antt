-- What comes to a directory that grows by it, in the safe mode: where it lies, by the space that it wants, is where the command's object lies.
use Rattle.std.proofs.Common.{◌≡◌, ◌⊎◌, inl, inr, ℕ, true, false, List, [], length, refl, sym, ap, ap₂, subst, ◌∙◌, Option, Some, None}
use Rattle.std.specs.Option.{option_and_then}
use Rattle.std.proofs.lemmas.Bool.{eqb-true}
use Rattle.fc_newmap.specs.Map.{Map}
use Rattle.fc_model.specs.Tree.{holder}
use Rattle.fc_image.specs.Layout.{Layout, dir_form}
use Rattle.fc_image.specs.Objects.{objects_of}
use Rattle.fc_image.specs.Walk.{Object}
use Rattle.fc_image.specs.effects.Placed.{is_written_empty}
use Rattle.fc_image.specs.effects.Sharing.{slack, units}
use Rattle.fc_image.specs.effects.Short.{object_units, slack_for as slack_of}
use Rattle.fc_image.specs.safe.SafeSteady.{SafeObjectPlaced}
use Rattle.fc_placing.specs.Places.{slack_left}
use Rattle.fc_placing.proofs.SlackLemmas.{same_slack}
use Rattle.fc_tree.specs.Nodes.{number_of}
use Rattle.fc_change.specs.declared.spaces.Spaces.{Spaces}
use Rattle.fc_change.specs.Shortage.{slack_for}
use Rattle.fc_commands.proofs.ArrivalLemmas.{Arrival, Brings, bytes_of}
use Rattle.fc_commands.proofs.ArrivalPlaceLemmas.{shares_of}
use Rattle.fc_commands.proofs.VacantLemmas as vacant
use Rattle.fc_safe.specs.FirstSpace.{ArePlacedFirst}
use Rattle.fc_safecommands.proofs.GrownArrivalLemmas.{GrownArrival, growing, h, job, sound, want}
use Rattle.fc_safecommands.proofs.GrownStirLemmas.{own_bytes}
use Rattle.fc_safecommands.proofs.GrownTakesLemmas.{units_are, v}

module _ (a : GrownArrival) (bytes : List ℕ) (brings : Brings a.x a.path bytes a.command) (s : Spaces) (placed : ArePlacedFirst a.m (h a) (job a) a.wants s) where
  -- the slack that it has is the command's
  slack_same : slack_for a.m a.owners a.wants ≡ slack_of (v a s placed) a.command
  slack_same = by a.x brings (want a).slack (want a).bytes
    where
      near : number_of a.nodes (holder a.path) ≡ Some a.dir
      near = vacant.holder_number (Layout.New a.m) a.nodes a.listings (sound a) a.path a.dir a.spot

      by_len : (len : ℕ) → a.wants.shares ≡ Some a.dir → a.wants.bytes ≡ len → slack_for a.m a.owners a.wants ≡ slack a.m (objects_of a.listings) (holder a.path) len
      by_len len shares long =
          ap₂ (λ (d : Option ℕ) (n : ℕ). option_and_then (λ (k : ℕ). slack_left a.m a.owners k n) d) shares long
          ∙ same_slack a.m a.nodes a.listings a.owners (holder a.path) a.dir len a.agreed.is_map (sound a) a.agreed.walked.held a.agreed.owned near

      by : (x : Arrival) → Brings x a.path bytes a.command → a.wants.shares ≡ shares_of a.dir x → a.wants.bytes ≡ bytes_of (dir_form (Layout.New a.m)) x → slack_for a.m a.owners a.wants ≡ slack_of (v a s placed) a.command
      by Arrival.Makes cdir shares long = ap (λ (d : Option ℕ). option_and_then (λ (k : ℕ). slack_left a.m a.owners k a.wants.bytes) d) shares ∙ sym (ap (slack_of (v a s placed)) cdir)
      by (Arrival.Saves words) (inl save) shares long = by_len (length bytes) shares (long ∙ save.1) ∙ sym (ap (slack_of (v a s placed)) save.0)
      by (Arrival.Saves words) (inr create) shares long = by_len words.len shares long ∙ sym (ap (slack_of (v a s placed)) create.0)

  -- It lies where the command's object does,
  pub object_placed : (o : Object) (m' : Map) → SafeObjectPlaced a.m m' (units a.m.geometry (own_bytes (growing a))) (slack_for a.m a.owners a.wants) (Some o)
      → SafeObjectPlaced a.m m' (object_units a.m (v a s placed) a.command) (slack_of (v a s placed) a.command) (Some o)
  object_placed o m' at =
      subst (λ (n : ℕ). SafeObjectPlaced a.m m' n (slack_of (v a s placed) a.command) (Some o)) (units_are a s placed)
      (subst (λ (share : Option (ℕ × ℕ)). SafeObjectPlaced a.m m' (units a.m.geometry (own_bytes (growing a))) share (Some o)) slack_same at)

  -- and has no address if the command gives no bytes.
  pub none_written : (o : Object) → (a.wants.bytes ≡ 0 → o.entry.address ≡ 0) → is_written_empty a.command ≡ true → o.entry.address ≡ 0
  none_written o at e = at (by a.x brings (want a).bytes e)
    where
      by : (x : Arrival) → Brings x a.path bytes a.command → a.wants.bytes ≡ bytes_of (dir_form (Layout.New a.m)) x → is_written_empty a.command ≡ true → a.wants.bytes ≡ 0
      by Arrival.Makes cdir long f = absurd (let no : false ≡ true = sym (ap is_written_empty cdir) ∙ f in cc)
      by (Arrival.Saves words) (inl save) long f = long ∙ save.1 ∙ eqb-true (length bytes) 0 (sym (ap is_written_empty save.0) ∙ f)
      by (Arrival.Saves words) (inr create) long f = long ∙ eqb-true words.len 0 (sym (ap is_written_empty create.0) ∙ f)
