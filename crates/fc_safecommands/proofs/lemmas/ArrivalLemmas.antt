-- `cdir`, `save` and `create` of what is new: what the job stirs and makes is what the command does.
use Rattle.std.proofs.Common.{◌≡◌, ◌<◌, ◌&&◌, ◌==◌, ℕ, Bool, true, false, cond, List, [], ◌∷◌, refl, sym, ap, ap₂, subst, ◌∙◌, Option, Some, None}
use Rattle.std.specs.Prelude.{is_some}
use Rattle.std.specs.Option.{option_and_then, option_map_or, option_to_list}
use Rattle.std.proofs.lemmas.Bool.{eq-eqb}
use Rattle.fc_names.specs.Names.{Path, is_same_path}
use Rattle.fc_newmap.specs.Map.{Map}
use Rattle.fc_model.specs.Command.{Command}
use Rattle.fc_model.specs.Tree.{holder, last_name}
use Rattle.fc_drafts.specs.Gains.{GetsName, HasRoom}
use Rattle.fc_image.specs.Layout.{Layout, dir_form}
use Rattle.fc_image.specs.Opening.{Opened}
use Rattle.fc_image.specs.Objects.{objects_of}
use Rattle.fc_image.specs.Sound.{AreSound}
use Rattle.fc_image.specs.Walk.{Object, is_directory_object}
use Rattle.fc_image.specs.effects.Sharing.{units}
use Rattle.fc_image.specs.effects.Short.{Gain, gain_in, gain_of, growth_of, is_full_with, object_units, replaced_object, slack_for}
use Rattle.fc_image.specs.effects.Steady.{holds_named, is_gone, is_renamed_by}
use Rattle.fc_image.specs.safe.SafeShort.{copies_away, is_replaced, is_suitable, takes_slack}
use Rattle.fc_placing.specs.Leaving.{is_kept}
use Rattle.fc_plan.specs.Giving.{is_one_of}
use Rattle.fc_refusals.specs.Targets.{IsVacant}
use Rattle.fc_tree.specs.Parts.{AreOwners, Parts}
use Rattle.fc_change.specs.declared.job.Growth.{Growth}
use Rattle.fc_change.specs.declared.job.Wants.{Wants}
use Rattle.fc_change.specs.Needs.{AreWants, IsGrowthOf, SaysAt, len_at, room_of}
use Rattle.fc_change.specs.Shortage.{bytes_left, slack_for as slack_wanted}
use Rattle.fc_commands.proofs.ArrivalLemmas.{Arrival, Brings, bytes_of, gain_same, job_of, of_each, renames_none}
use Rattle.fc_commands.proofs.ArrivalShortLemmas.{either_units, length_same, slack_same}
use Rattle.fc_commands.proofs.GrownWantLemmas.{IsItsWant, its_want}
use Rattle.fc_commands.proofs.HolderLemmas.{says_at}
use Rattle.fc_commands.proofs.VacantLemmas.{gains}
use Rattle.fc_safe.specs.Changed.{named_in, renamed_in}
use Rattle.fc_safe.specs.FirstNeeds.{shared_by}
use Rattle.fc_safe.specs.Views.{IsNodeOf, IsViewOf}
use Rattle.fc_safecommands.proofs.lemmas.GrowthLemmas.{AreGrown}
use Rattle.fc_safecommands.proofs.lemmas.NumberLemmas.{held_is}
use Rattle.fc_safecommands.proofs.lemmas.SomeLemmas.{grows_more, has_some}
use Rattle.fc_safecommands.proofs.lemmas.StirLemmas.{IsTold, kept_same}
use Rattle.fc_safecommands.proofs.lemmas.TestLemmas.{and_none, or_none}

pub named_list : (dir : ℕ) (x : Arrival) → named_in (job_of dir x) ≡ dir ∷ []
named_list dir Arrival.Makes = refl
named_list dir (Arrival.Saves words) = refl

renamed_list : (h : Parts) (dir : ℕ) (x : Arrival) → renamed_in h.nodes (job_of dir x) ≡ []
renamed_list h dir Arrival.Makes = refl
renamed_list h dir (Arrival.Saves words) = refl

module _ (m : Map) (h : Parts) (v : Opened) (view : IsViewOf m h v) (suit : is_suitable v ≡ true) (dir : ℕ) (x : Arrival) (path : Path) (w : Wants) (are : AreWants h (job_of dir x) (last_name path) w)
    (some : (g : Growth) → w.grows ≡ Some g → 0 < len_at h.nodes g.node) (bytes : List ℕ) (c : Command) (brings : Brings x path bytes c) (spot : IsVacant h.nodes v.listings path dir) where
  want : IsItsWant h dir x (last_name path) w
  want = its_want h dir x (last_name path) w are

  size : w.bytes ≡ bytes_of (dir_form (Layout.New m)) x
  size = want.bytes ∙ ap (λ (l : Layout). bytes_of (dir_form l) x) (view.parts.layout ∙ view.layout)

  -- ---- what it names

  holds : (p : Path) → is_same_path (holder path) p ≡ holds_named c p
  holds p = of_each (λ (k : Command). is_same_path (holder path) p ≡ holds_named k p) x path bytes c refl (λ load exec saved. refl) (λ load exec len. refl) brings

  named : (o : Object) (n : ℕ) → IsNodeOf h v o n → is_one_of (named_in (job_of dir x)) n ≡ (is_directory_object o && holds_named c o.path)
  named o n node =
      ap (λ (ns : List ℕ). is_one_of ns n) (named_list dir x) ∙ or_none (dir == n)
      ∙ held_is m h v view (holder path) spot.listing dir spot.listed spot.above spot.holder_is o n node ∙ ap (λ (b : Bool). is_directory_object o && b) (holds o.path)

  renamed : (o : Object) (n : ℕ) → IsNodeOf h v o n → is_one_of (renamed_in h.nodes (job_of dir x)) n ≡ (is_directory_object o && is_renamed_by c o.path)
  renamed o n node =
      ap (λ (ns : List ℕ). is_one_of ns n) (renamed_list h dir x) ∙ sym (and_none (is_directory_object o))
      ∙ ap (λ (b : Bool). is_directory_object o && b) (sym (renames_none x path bytes c brings o.path))

  -- ---- nothing goes

  replaces_none : None ≡ replaced_object v c
  replaces_none = of_each (λ (k : Command). None ≡ replaced_object v k) x path bytes c refl (λ load exec saved. sym spot.absent) (λ load exec len. sym spot.absent) brings

  goes : (o : Object) (n : ℕ) → is_one_of (option_to_list w.goes) n ≡ is_replaced v c o.path
  goes o n = ap (λ (k : Option ℕ). is_one_of (option_to_list k) n) want.left ∙ ap (λ (q : Option Object). option_map_or (λ (p : Object). is_same_path p.path o.path) q false) replaces_none

  copied : (o : Object) (n : ℕ) → is_one_of (option_to_list w.copied) n ≡ copies_away v c o.path
  copied o n =
      ap (λ (k : Option ℕ). is_one_of (option_to_list k) n) want.copy
      ∙ of_each (λ (k : Command). false ≡ copies_away v k o.path) x path bytes c refl (λ load exec saved. refl) (λ load exec len. refl) brings

  none_gone : (p : Path) → is_gone c p ≡ false
  none_gone p = of_each (λ (k : Command). is_gone k p ≡ false) x path bytes c refl (λ load exec saved. refl) (λ load exec len. refl) brings

  -- ---- the directory that gets its name

  gains_it : gain_in v c ≡ Some (gain_of path spot.listing)
  gains_it = sym (gain_same x path bytes c brings v) ∙ gains v.layout h.nodes v.listings view.sound path dir spot v refl

  says : SaysAt h.nodes dir spot.listing.content
  says = says_at v.layout h.nodes v.listings view.sound view.parts.nodes spot.listing spot.listed dir spot.holder_is

  gets : GetsName spot.listing.content (last_name path) (gain_of path spot.listing)
  gets = record { name_is = refl; names_are = refl }

  has_room : HasRoom spot.listing.content (gain_of path spot.listing) (room_of w.grows)
  has_room = want.room spot.listing.content (gain_of path spot.listing) says gets

  grown_by : (grows : Option Growth) → w.grows ≡ grows → IsGrowthOf dir grows → HasRoom spot.listing.content (gain_of path spot.listing) (room_of grows) → AreGrown h v c grows
  grown_by None e node room = ap (option_and_then growth_of) gains_it ∙ room.1 spot.listing.object
  grown_by (Some g) e node room =
      let grows = ap (option_and_then growth_of) gains_it ∙ room.1 spot.listing.object in
      let number = spot.holder_is ∙ ap (λ (k : ℕ). let q : Option ℕ = Some k in q) (sym node) in
      record {
        listing = spot.listing;
        listed = spot.listed;
        number = number;
        growth = grows;
        more = grows_more v c spot.listing.object g.len grows;
        has = has_some m h v view suit spot.listing spot.listed g.node number (some g e);
      }

  grower : (g : Growth) → w.grows ≡ Some g → is_one_of (named_in (job_of dir x)) g.node ≡ true
  grower g e =
      ap (λ (ns : List ℕ). is_one_of ns g.node) (named_list dir x) ∙ or_none (dir == g.node) ∙ eq-eqb dir g.node (sym (subst (IsGrowthOf dir) e want.grown))

  not_full : option_map_or (λ (g : Gain). is_full_with g.listing.content g) (gain_in v c) false ≡ false
  not_full = ap (λ (q : Option Gain). option_map_or (λ (g : Gain). is_full_with g.listing.content g) q false) gains_it ∙ by w.grows has_room
    where
      by : (grows : Option Growth) → HasRoom spot.listing.content (gain_of path spot.listing) (room_of grows) → is_full_with spot.listing.content (gain_of path spot.listing) ≡ false
      by None room = room.0
      by (Some g) room = room.0

  -- ---- its bytes

  sound : AreSound (Layout.New m) v.listings
  sound = subst (λ (l : Layout). AreSound l v.listings) view.layout view.sound

  owned : AreOwners h.owners h.nodes (Layout.New m) (objects_of v.listings)
  owned = subst (λ (l : Layout). AreOwners h.owners h.nodes l (objects_of v.listings)) view.layout view.parts.owners

  slack_is : slack_for v c ≡ slack_wanted m h.owners w
  slack_is = slack_same m h.nodes h.owners view.is_map dir x path w size want.slack bytes c brings v view.layout sound view.parts.nodes owned spot

  object : units m.geometry (bytes_left m h.owners w) ≡ object_units m v c
  object =
      sym (ap₂ (λ (s : Option (ℕ × ℕ)) (n : ℕ). let u : ℕ = cond (is_some s) 0 (units m.geometry n) in u) slack_is
      (length_same m h.nodes h.owners view.is_map dir x path w size want.slack bytes c brings v view.layout sound view.parts.nodes owned spot)
      ∙ either_units m.geometry w.bytes (is_some (slack_wanted m h.owners w)))

  shared : (id : ℕ) → is_kept (shared_by m h.owners w) id ≡ takes_slack v c id
  shared id = kept_same (slack_wanted m h.owners w) id ∙ sym (ap (λ (q : Option (ℕ × ℕ)). option_map_or (λ (share : ℕ × ℕ). share.0 == id) q false) slack_is)

  pub arrives : IsTold m h v c (job_of dir x) w
  arrives = record {
    named = named;
    renamed = renamed;
    goes = λ o n node. goes o n;
    copied = λ o n node. copied o n;
    none_gone = none_gone;
    grown = grown_by w.grows refl want.grown has_room;
    grower = grower;
    object = object;
    shared = shared;
    not_full = not_full;
  }
