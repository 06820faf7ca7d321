-- `rename`: what the job stirs and makes is what the command does, whether its file is copied or not.
use Rattle.std.proofs.Common.{◌≡◌, ◌<◌, ◌&&◌, ◌||◌, ◌==◌, ℕ, Bool, true, false, cond, List, [], ◌∷◌, refl, sym, ap, ap₂, subst, ◌∙◌, Option, Some, None}
use Rattle.std.specs.Prelude.{is_some}
use Rattle.std.specs.Option.{option_and_then, option_map, option_map_or, option_to_list}
use Rattle.std.proofs.lemmas.Bool.{eq-eqb, eqb-true}
use Rattle.fc_names.specs.Names.{Path, is_directory, is_same_path}
use Rattle.fc_newmap.specs.Map.{Map}
use Rattle.fc_model.specs.Command.{Command}
use Rattle.fc_model.specs.Tree.{holder, last_name}
use Rattle.fc_image.specs.Layout.{Layout}
use Rattle.fc_image.specs.Opening.{Opened}
use Rattle.fc_image.specs.Objects.{object_at, objects_of}
use Rattle.fc_image.specs.Walk.{Object, is_directory_object}
use Rattle.fc_image.specs.effects.Sharing.{units}
use Rattle.fc_image.specs.effects.Short.{Gain, gain_in, is_copied as is_copied_in, is_full_with, new_length, object_units}
use Rattle.fc_image.specs.effects.Steady.{holds_named, is_renamed_by}
use Rattle.fc_image.specs.safe.SafeShort.{copies_away, is_suitable, takes_slack}
use Rattle.fc_image.proofs.CommandLemmas.{same_by_folds}
use Rattle.fc_placing.specs.Leaving.{is_kept}
use Rattle.fc_placing.specs.Places.{slack_left}
use Rattle.fc_placing.proofs.CopyingLemmas.{dirs_same}
use Rattle.fc_plan.specs.Giving.{is_one_of}
use Rattle.fc_refusals.specs.Slots.{IsRenaming}
use Rattle.fc_refusals.specs.declared.target.Renaming.{Renaming}
use Rattle.fc_tree.specs.declared.node.Node.{Node}
use Rattle.fc_tree.specs.Nodes.{is_directory_node, number_of}
use Rattle.fc_tree.specs.Parts.{AreOwners, Parts}
use Rattle.fc_tree.proofs.SoundLemmas.{folds_alike, same_object}
use Rattle.fc_change.specs.declared.job.Growth.{Growth}
use Rattle.fc_change.specs.declared.job.Job.TheVariants as jobs
use Rattle.fc_change.specs.declared.job.Wants.{Wants}
use Rattle.fc_change.specs.Needs.{AreWants, HasRoomOf, IsGrowthOf, copied_on, is_copied, len_at, room_of}
use Rattle.fc_change.specs.Shortage.{bytes_left}
use Rattle.fc_commands.proofs.GrownMoveAskedLemmas.{copied_as, grows_to}
use Rattle.fc_commands.proofs.MoveShortLemmas as short_of
use Rattle.fc_commands.proofs.TargetLemmas as target_of
use Rattle.fc_safe.specs.Changed.{named_in, renamed_in}
use Rattle.fc_safe.specs.FirstNeeds.{shared_by}
use Rattle.fc_safe.specs.Views.{IsNodeOf, IsViewOf}
use Rattle.fc_safe.proofs.ListLemmas.{same_test}
use Rattle.fc_safecommands.proofs.lemmas.GrowthLemmas.{AreGrown}
use Rattle.fc_safecommands.proofs.lemmas.NumberLemmas.{held_is, number_at, one_is}
use Rattle.fc_safecommands.proofs.lemmas.SomeLemmas.{grows_more, has_some}
use Rattle.fc_safecommands.proofs.lemmas.StirLemmas.{IsTold}
use Rattle.fc_safecommands.proofs.lemmas.TestLemmas.{and_none, or_none}

-- ---- tests

both_dirs : (d a b : Bool) → ((d && b) || ((d && a) || false)) ≡ (d && (a || b))
both_dirs true true true = refl
both_dirs true true false = refl
both_dirs true false true = refl
both_dirs true false false = refl
both_dirs false a b = refl

one_listed : (b : Bool) (k n : ℕ) → is_one_of (cond b (k ∷ []) []) n ≡ (b && (k == n))
one_listed true k n = or_none (k == n)
one_listed false k n = refl

one_copied : (b : Bool) (k n : ℕ) → is_one_of (option_to_list (let q : Option ℕ = cond b (Some k) None in q)) n ≡ ((k == n) && b)
one_copied true k n = by (k == n)
  where
    by : (a : Bool) → (a || false) ≡ (a && true)
    by true = refl
    by false = refl
one_copied false k n = sym (and_none (k == n))

module _ (m : Map) (h : Parts) (v : Opened) (view : IsViewOf m h v) (suit : is_suitable v ≡ true) (from to : Path) (r : Renaming) (known : IsRenaming h.nodes v.listings from to r) (name : List ℕ) (name_is : name ≡ last_name to)
    (w : Wants) (are : AreWants h (jobs.Move r) name w) (some : (g : Growth) → w.grows ≡ Some g → 0 < len_at h.nodes g.node) where
  abbrev c : Command
  c = Command.Rename from to

  abbrev it : Object
  it = known.target.object

  from_number : number_of h.nodes from ≡ Some r.target.node
  from_number = number_at m h v view from it.path r.target.node known.target.path_is known.target.node_is

  there : object_at v.listings from ≡ Some known.target.object
  there = target_of.there v.layout h.nodes v.listings view.sound view.parts.nodes from r.target known.target

  -- ---- what it names

  named : (o : Object) (n : ℕ) → IsNodeOf h v o n → is_one_of (named_in (jobs.Move r)) n ≡ (is_directory_object o && holds_named (Command.Rename from to) o.path)
  named o n node =
      ap₂ (λ (b a : Bool). b || (a || false)) (held_is m h v view (holder to) known.destination.listing r.holder known.destination.listed known.destination.above known.destination.holder_is o n node)
      (held_is m h v view (holder from) known.target.listing r.target.holder known.target.listed known.target.above known.target.holder_is o n node)
      ∙ both_dirs (is_directory_object o) (is_same_path (holder from) o.path) (is_same_path (holder to) o.path)

  directory_is : is_directory_node h.nodes r.target.node ≡ is_directory_object known.target.object
  directory_is = ap (λ (q : Option Node). option_map_or (λ (k : Node). is_directory k.entry.attrs) q false) (target_of.node_is v.layout h.nodes v.listings view.sound view.parts.nodes from r.target known.target)

  renamed : (o : Object) (n : ℕ) → IsNodeOf h v o n → is_one_of (renamed_in h.nodes (jobs.Move r)) n ≡ (is_directory_object o && is_renamed_by (Command.Rename from to) o.path)
  renamed o n node =
      ap (λ (b : Bool). is_one_of (cond b (r.target.node ∷ []) []) n) directory_is ∙ one_listed (is_directory_object it) r.target.node n
      ∙ ap (λ (b : Bool). is_directory_object it && b) turned ∙ by (is_same_path o.path from) refl
    where
      turned : (r.target.node == n) ≡ is_same_path o.path from
      turned = same_test (r.target.node == n) (n == r.target.node) (λ e. eq-eqb n r.target.node (sym (eqb-true r.target.node n e))) (λ e. eq-eqb r.target.node n (sym (eqb-true n r.target.node e)))
          ∙ dirs_same h.nodes o.path from n r.target.node node.1 from_number

      by : (b : Bool) → is_same_path o.path from ≡ b → (is_directory_object it && b) ≡ (is_directory_object o && b)
      by true e =
          ap (λ (p : Object). is_directory_object p && true)
          (same_object v.layout v.listings view.sound from it o (target_of.among v.layout h.nodes v.listings view.sound view.parts.nodes from r.target known.target) node.0 known.target.path_is
          (same_by_folds from o.path (sym (folds_alike o.path from e))))
      by false e = and_none (is_directory_object it) ∙ sym (and_none (is_directory_object o))

  -- ---- its file, if it is copied

  goes : (n : ℕ) → is_one_of (option_to_list w.goes) n ≡ false
  goes n = ap (λ (k : Option ℕ). is_one_of (option_to_list k) n) are.left

  owned : AreOwners h.owners h.nodes (Layout.New m) (objects_of v.listings)
  owned = subst (λ (l : Layout). AreOwners h.owners h.nodes l (objects_of v.listings)) view.layout view.parts.owners

  copied_is : is_copied h r ≡ is_copied_in v from to known.target.object
  copied_is =
      ap (λ (l : Layout). copied_on l h.owners r.target.node r.holder) (view.parts.layout ∙ view.layout)
      ∙ sym (copied_as v h.nodes view.sound view.parts.nodes from to r known name name_is m h.owners view.layout owned)

  copied : (o : Object) (n : ℕ) → IsNodeOf h v o n → is_one_of (option_to_list w.copied) n ≡ copies_away v (Command.Rename from to) o.path
  copied o n node =
      ap (λ (k : Option ℕ). is_one_of (option_to_list k) n) are.copy ∙ one_copied (is_copied h r) r.target.node n
      ∙ ap₂ (λ (a b : Bool). a && b) (one_is m h v view from r.target.node from_number o n node) (copied_is ∙ sym (ap (λ (q : Option Object). option_map_or (is_copied_in v from to) q false) there))

  -- ---- the directory that gets its name

  grown_by : (grows : Option Growth) → w.grows ≡ grows → IsGrowthOf r.holder grows → HasRoomOf h.nodes (jobs.Move r) name (room_of grows) → AreGrown h v (Command.Rename from to) grows
  grown_by None e node room = short_of.no_growth v h.nodes view.sound view.parts.nodes from to r known name name_is room
  grown_by (Some g) e node room =
      let d = known.destination in
      let grows = (grows_to v h.nodes view.sound view.parts.nodes from to r known name name_is g.len room).growth in
      let number = d.holder_is ∙ ap (λ (k : ℕ). let q : Option ℕ = Some k in q) (sym node) in
      record {
        listing = d.listing;
        listed = d.listed;
        number = number;
        growth = grows;
        more = grows_more v c d.listing.object g.len grows;
        has = has_some m h v view suit d.listing d.listed g.node number (some g e);
      }

  grower : (g : Growth) → w.grows ≡ Some g → is_one_of (named_in (jobs.Move r)) g.node ≡ true
  grower g e = ap (λ (b : Bool). b || ((r.target.holder == g.node) || false)) (eq-eqb r.holder g.node (sym (subst (IsGrowthOf r.holder) e are.grown)))

  not_full : (grows : Option Growth) → HasRoomOf h.nodes (jobs.Move r) name (room_of grows) → option_map_or (λ (g : Gain). is_full_with g.listing.content g) (gain_in v (Command.Rename from to)) false ≡ false
  not_full None room = short_of.not_full v h.nodes view.sound view.parts.nodes from to r known name name_is room
  not_full (Some g) room = (grows_to v h.nodes view.sound view.parts.nodes from to r known name name_is g.len room).not_full

  -- ---- its bytes

  length_is : new_length v (Command.Rename from to) ≡ w.bytes
  length_is =
      ap (λ (q : Option Object). option_map_or (λ (p : Object). cond (is_copied_in v from to p) p.entry.len 0) q 0) there
      ∙ ap₂ (λ (b : Bool) (n : ℕ). cond b n 0) (sym copied_is)
      (sym (ap (λ (q : Option Node). option_map_or (λ (k : Node). k.entry.len) q 0) (target_of.node_is v.layout h.nodes v.listings view.sound view.parts.nodes from r.target known.target))) ∙ sym are.bytes

  object : units m.geometry (bytes_left m h.owners w) ≡ object_units m v (Command.Rename from to)
  object =
      ap (units m.geometry) (ap (λ (q : Option ℕ). cond (is_some (option_and_then (λ (d : ℕ). slack_left m h.owners d w.bytes) q)) 0 w.bytes) are.slack ∙ sym length_is)

  shared : (id : ℕ) → is_kept (shared_by m h.owners w) id ≡ takes_slack v (Command.Rename from to) id
  shared id = ap (λ (q : Option ℕ). is_kept (option_map (λ (share : ℕ × ℕ). share.0) (option_and_then (λ (d : ℕ). slack_left m h.owners d w.bytes) q)) id) are.slack

  pub moves : IsTold m h v (Command.Rename from to) (jobs.Move r) w
  moves = record {
    named = named;
    renamed = renamed;
    goes = λ o n node. goes n;
    copied = copied;
    none_gone = λ path. refl;
    grown = grown_by w.grows refl are.grown are.room;
    grower = grower;
    object = object;
    shared = shared;
    not_full = not_full w.grows are.room;
  }
