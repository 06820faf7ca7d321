-- `save` and `create` over a file: what the job stirs and makes is what the command does.
use Rattle.std.proofs.Common.{◌≡◌, ◌&&◌, ◌==◌, inl, inr, ℕ, Bool, false, cond, List, length, refl, sym, ap, ap₂, subst, ◌∙◌, Option, Some, None}
use Rattle.std.specs.Prelude.{is_some}
use Rattle.std.specs.Option.{option_and_then, option_map_or, option_to_list}
use Rattle.fc_names.specs.Names.{Path, is_same_path}
use Rattle.fc_newmap.specs.Map.{Map}
use Rattle.fc_model.specs.Command.{Command}
use Rattle.fc_model.specs.Tree.{holder}
use Rattle.fc_image.specs.Layout.{Layout}
use Rattle.fc_image.specs.Opening.{Opened}
use Rattle.fc_image.specs.Objects.{object_at, objects_of}
use Rattle.fc_image.specs.Sound.{AreSound}
use Rattle.fc_image.specs.Walk.{Object, is_directory_object}
use Rattle.fc_image.specs.effects.Sharing.{units}
use Rattle.fc_image.specs.effects.Short.{Gain, gain_at, gain_in, growth_of, is_full_with, object_units, replaced_object, slack_for, slack_in}
use Rattle.fc_image.specs.effects.Steady.{holds_named, is_gone, is_renamed_by}
use Rattle.fc_image.specs.safe.SafeShort.{copies_away, is_replaced, takes_slack}
use Rattle.fc_placing.specs.Leaving.{is_kept}
use Rattle.fc_placing.specs.Places.{slack_left}
use Rattle.fc_placing.proofs.SlackLemmas.{same_slack}
use Rattle.fc_plan.specs.Giving.{is_one_of}
use Rattle.fc_refusals.specs.Slots.{IsFile}
use Rattle.fc_refusals.specs.declared.target.Slot.TheVariants as slots
use Rattle.fc_refusals.specs.declared.target.Target.{Target}
use Rattle.fc_tree.specs.Parts.{AreOwners, Parts}
use Rattle.fc_change.specs.declared.job.FileWords.{FileWords}
use Rattle.fc_change.specs.declared.job.Job.{Job}
use Rattle.fc_change.specs.declared.job.Job.TheVariants as jobs
use Rattle.fc_change.specs.declared.job.Wants.{Wants}
use Rattle.fc_change.specs.Needs.{AreWants}
use Rattle.fc_change.specs.Shortage.{bytes_left, slack_for as slack_wanted}
use Rattle.fc_commands.proofs.ArrivalLemmas.{Arrival, Brings}
use Rattle.fc_commands.proofs.ArrivalShortLemmas.{either_units, length_is}
use Rattle.fc_commands.proofs.TargetLemmas as target_of
use Rattle.fc_safe.specs.Changed.{named_in, renamed_in}
use Rattle.fc_safe.specs.FirstNeeds.{shared_by}
use Rattle.fc_safe.specs.Views.{IsNodeOf, IsViewOf}
use Rattle.fc_safecommands.proofs.lemmas.GrowthLemmas.{AreGrown}
use Rattle.fc_safecommands.proofs.lemmas.NumberLemmas.{held_is, number_at, one_is}
use Rattle.fc_safecommands.proofs.lemmas.PlainJobLemmas.{room_still}
use Rattle.fc_safecommands.proofs.lemmas.StirLemmas.{IsTold, kept_same}
use Rattle.fc_safecommands.proofs.lemmas.TestLemmas.{and_none, or_none}

-- What holds of both commands holds of the one.
of_both : (P : Command → Type 0) (words : FileWords) (path : Path) (bytes : List ℕ) (c : Command) → ((load exec : ℕ) (saved : List ℕ) → P (Command.Save path load exec saved)) → ((load exec len : ℕ) → P (Command.Create path load exec len))
    → Brings (Arrival.Saves words) path bytes c → P c
of_both P words path bytes c saved created (inl is) = subst P (sym is.0) (saved words.load words.exec bytes)
of_both P words path bytes c saved created (inr is) = subst P (sym is.0) (created words.load words.exec words.len)

module _ (m : Map) (h : Parts) (v : Opened) (view : IsViewOf m h v) (t : Target) (words : FileWords) (path : Path) (name : List ℕ) (w : Wants) (are : AreWants h (jobs.File (slots.Over t) words) name w)
    (bytes : List ℕ) (c : Command) (brings : Brings (Arrival.Saves words) path bytes c) (file : IsFile h.nodes v.listings path t) where
  abbrev job : Job
  job = jobs.File (slots.Over t) words

  still : w.grows ≡ None
  still = room_still w.grows are.room

  there : object_at v.listings path ≡ Some file.target.object
  there = target_of.there v.layout h.nodes v.listings view.sound view.parts.nodes path t file.target

  -- ---- what it names

  named : (o : Object) (n : ℕ) → IsNodeOf h v o n → is_one_of (named_in job) n ≡ (is_directory_object o && holds_named c o.path)
  named o n node =
      or_none (t.holder == n) ∙ held_is m h v view (holder path) file.target.listing t.holder file.target.listed file.target.above file.target.holder_is o n node
      ∙ ap (λ (b : Bool). is_directory_object o && b) (of_both (λ (k : Command). is_same_path (holder path) o.path ≡ holds_named k o.path) words path bytes c (λ load exec saved. refl) (λ load exec len. refl) brings)

  renamed : (o : Object) (n : ℕ) → is_one_of (renamed_in h.nodes job) n ≡ (is_directory_object o && is_renamed_by c o.path)
  renamed o n = of_both (λ (k : Command). false ≡ (is_directory_object o && is_renamed_by k o.path)) words path bytes c (λ load exec saved. sym (and_none (is_directory_object o))) (λ load exec len. sym (and_none (is_directory_object o))) brings

  -- ---- the file goes

  replaces : Some file.target.object ≡ replaced_object v c
  replaces = of_both (λ (k : Command). Some file.target.object ≡ replaced_object v k) words path bytes c (λ load exec saved. sym there) (λ load exec len. sym there) brings

  goes : (o : Object) (n : ℕ) → IsNodeOf h v o n → is_one_of (option_to_list w.goes) n ≡ is_replaced v c o.path
  goes o n node =
      ap (λ (k : Option ℕ). is_one_of (option_to_list k) n) are.left ∙ or_none (t.node == n) ∙ one_is m h v view file.target.object.path t.node file.target.node_is o n node
      ∙ ap (λ (q : Option Object). option_map_or (λ (p : Object). is_same_path p.path o.path) q false) replaces

  copied : (o : Object) (n : ℕ) → is_one_of (option_to_list w.copied) n ≡ copies_away v c o.path
  copied o n =
      ap (λ (k : Option ℕ). is_one_of (option_to_list k) n) are.copy ∙ of_both (λ (k : Command). false ≡ copies_away v k o.path) words path bytes c (λ load exec saved. refl) (λ load exec len. refl) brings

  none_gone : (p : Path) → is_gone c p ≡ false
  none_gone p = of_both (λ (k : Command). is_gone k p ≡ false) words path bytes c (λ load exec saved. refl) (λ load exec len. refl) brings

  -- ---- no directory gets a name

  no_gain : gain_in v c ≡ None
  no_gain = of_both (λ (k : Command). gain_in v k ≡ None) words path bytes c (λ load exec saved. none) (λ load exec len. none) brings
    where
      none : (let q : Option Gain = cond (is_some (object_at v.listings path)) None (gain_at v path) in q) ≡ None
      none = ap (λ (q : Option Object). let g : Option Gain = cond (is_some q) None (gain_at v path) in g) there

  grown : AreGrown h v c w.grows
  grown = subst (AreGrown h v c) (sym still) (ap (option_and_then growth_of) no_gain)

  -- ---- its bytes

  sound : AreSound (Layout.New m) v.listings
  sound = subst (λ (l : Layout). AreSound l v.listings) view.layout view.sound

  owned : AreOwners h.owners h.nodes (Layout.New m) (objects_of v.listings)
  owned = subst (λ (l : Layout). AreOwners h.owners h.nodes l (objects_of v.listings)) view.layout view.parts.owners

  slack_is : slack_for v c ≡ slack_wanted m h.owners w
  slack_is = by brings
    where
      found : (len : ℕ) → len ≡ w.bytes → slack_in v.layout (objects_of v.listings) (holder path) len ≡ slack_wanted m h.owners w
      found len e =
          ap (λ (l : Layout). slack_in l (objects_of v.listings) (holder path) len) view.layout
          ∙ sym (same_slack m h.nodes v.listings h.owners (holder path) t.holder len view.is_map sound view.parts.nodes owned (number_at m h v view (holder path) file.target.listing.object.path t.holder file.target.above file.target.holder_is))
          ∙ ap (slack_left m h.owners t.holder) e ∙ ap (option_and_then (λ (d : ℕ). slack_left m h.owners d w.bytes)) (sym are.slack)

      by : Brings (Arrival.Saves words) path bytes c → slack_for v c ≡ slack_wanted m h.owners w
      by (inl b) = ap (slack_for v) b.0 ∙ found (length bytes) (sym b.1 ∙ sym are.bytes)
      by (inr b) = ap (slack_for v) b.0 ∙ found words.len (sym are.bytes)

  object : units m.geometry (bytes_left m h.owners w) ≡ object_units m v c
  object =
      sym (ap₂ (λ (s : Option (ℕ × ℕ)) (n : ℕ). let u : ℕ = cond (is_some s) 0 (units m.geometry n) in u) slack_is (length_is (Arrival.Saves words) path bytes c brings v ∙ sym are.bytes)
      ∙ either_units m.geometry w.bytes (is_some (slack_wanted m h.owners w)))

  shared : (id : ℕ) → is_kept (shared_by m h.owners w) id ≡ takes_slack v c id
  shared id = kept_same (slack_wanted m h.owners w) id ∙ sym (ap (λ (q : Option (ℕ × ℕ)). option_map_or (λ (share : ℕ × ℕ). share.0 == id) q false) slack_is)

  pub overwrites : IsTold m h v c (jobs.File (slots.Over t) words) w
  overwrites = record {
    named = named;
    renamed = λ o n node. renamed o n;
    goes = goes;
    copied = λ o n node. copied o n;
    none_gone = none_gone;
    grown = grown;
    grower = λ g e. absurd (let none = sym still ∙ e in cc);
    object = object;
    shared = shared;
    not_full = ap (λ (q : Option Gain). option_map_or (λ (g : Gain). is_full_with g.listing.content g) q false) no_gain;
  }
