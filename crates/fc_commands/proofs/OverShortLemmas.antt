-- `save` and `create` over a file are refused for want of space as what they want is.
use Rattle.std.proofs.Common.{◌≡◌, inl, inr, ℕ, Bool, true, false, cond, List, ◌∷◌, length, Option, Some, None, refl, sym, ap, ap₂, subst, ◌∙◌}
use Rattle.std.specs.Prelude.{is_some, nat_lt, not}
use Rattle.std.specs.Option.{option_and_then, option_map_or}
use Rattle.fc_names.specs.declared.refusal.Refusal.TheVariants as refusals
use Rattle.fc_names.specs.Names.{Path}
use Rattle.fc_alloc.specs.declared.owner.Owner.{Owner}
use Rattle.fc_oldmap.specs.declared.Hole.{Hole}
use Rattle.fc_oldmap.specs.Holes.{after_give}
use Rattle.fc_oldmap.specs.OldMap.{OldMapContent, IsOldMap}
use Rattle.fc_newmap.specs.Map.{Map}
use Rattle.fc_newmap.specs.NewMap.{IsNewMap}
use Rattle.fc_model.specs.Answer.{first_of, when}
use Rattle.fc_model.specs.Command.{Command}
use Rattle.fc_model.specs.Tree.{holder}
use Rattle.fc_image.specs.Edits.{IsAt}
use Rattle.fc_image.specs.Layout.{Layout, dir_form}
use Rattle.fc_image.specs.Objects.{object_at, objects_of}
use Rattle.fc_image.specs.Opening.{Opened}
use Rattle.fc_image.specs.Sound.{AreSound}
use Rattle.fc_image.specs.Walk.{Listing, Object}
use Rattle.fc_image.specs.effects.Sharing.{units}
use Rattle.fc_image.specs.effects.Short.{Gain, gain_at, gain_in, growth_in, growth_of, holes_without, is_full_with, new_length, old_need, replaced_object, short, slack_for, slack_in, space_reasons, with_space_of}
use Rattle.fc_laws.specs.nodes.Edits.{Nodes}
use Rattle.fc_changes.specs.old.Owed.{holding}
use Rattle.fc_placing.specs.Places.{FitsDirectory, slack_left}
use Rattle.fc_placing.proofs.PlacesLemmas.{space_refusal}
use Rattle.fc_placing.proofs.PlacesLemmas as placing
use Rattle.fc_placing.proofs.SlackLemmas.{same_slack}
use Rattle.fc_refusals.specs.Slots.{IsFile}
use Rattle.fc_refusals.specs.Targets.{IsTarget}
use Rattle.fc_refusals.specs.declared.target.Target.{Target}
use Rattle.fc_tree.specs.declared.node.Node.{Node}
use Rattle.fc_tree.specs.Nodes.{HoldObjects, number_of}
use Rattle.fc_tree.specs.Parts.{AreOwners, Parts}
use Rattle.fc_tree.proofs.PlaceLemmas.{same_number}
use Rattle.fc_tree.proofs.SoundLemmas.{folds_alike}
use Rattle.fc_change.specs.declared.job.FileWords.{FileWords}
use Rattle.fc_change.specs.declared.job.Growth.{Growth}
use Rattle.fc_change.specs.declared.job.Wants.{Wants}
use Rattle.fc_change.specs.OldSpace.{map_given, map_taken, space_at, units_of, with_space_of as map_with}
use Rattle.fc_change.specs.Shortage.{bytes_left, grown_bytes, is_grown_alone, short_of, shortage, slack_for as slack_wanted}
use Rattle.fc_commands.proofs.ArrivalLemmas.{Arrival, Brings}
use Rattle.fc_commands.proofs.ArrivalPlaceLemmas.{WantsPlace}
use Rattle.fc_commands.proofs.ArrivalShortLemmas.{either_units, length_is, none_more, refused_with}
use Rattle.fc_commands.proofs.OldRemovalLemmas.{has_units, not_zero, space_is}
use Rattle.fc_commands.proofs.TargetLemmas as target_of

-- ---- the directory

-- Over a file no directory gets a name,
no_gain : (v : Opened) (words : FileWords) (path : Path) (bytes : List ℕ) (c : Command) → Brings (Arrival.Saves words) path bytes c → (p : Object) → object_at v.listings path ≡ Some p → gain_in v c ≡ None
no_gain v words path bytes c (inl brings) p there = ap (gain_in v) brings.0 ∙ ap (λ (o : Option Object). cond (is_some o) None (gain_at v path)) there
no_gain v words path bytes c (inr brings) p there = ap (gain_in v) brings.0 ∙ ap (λ (o : Option Object). cond (is_some o) None (gain_at v path)) there

pub no_growth : (v : Opened) (words : FileWords) (path : Path) (bytes : List ℕ) (c : Command) → Brings (Arrival.Saves words) path bytes c → (p : Object) → object_at v.listings path ≡ Some p → growth_in v c ≡ None
no_growth v words path bytes c brings p there = ap (option_and_then growth_of) (no_gain v words path bytes c brings p there)

-- and so none is full.
fits : (v : Opened) (words : FileWords) (path : Path) (bytes : List ℕ) (c : Command) → Brings (Arrival.Saves words) path bytes c → (p : Object) → object_at v.listings path ≡ Some p → FitsDirectory v c
fits v words path bytes c brings p there = record {
  no_growth = no_growth v words path bytes c brings p there;
  not_full = ap (λ (g : Option Gain). option_map_or (λ (x : Gain). is_full_with x.listing.content x) g false) (no_gain v words path bytes c brings p there);
}

-- ---- on a new map

module _ (m : Map) (nodes : Nodes) (owners : List Owner) (is_map : IsNewMap m) (t : Target) (words : FileWords) (path : Path) (w : Wants)
    (is : WantsPlace (record { layout = Layout.New m; nodes = nodes; owners = owners }) t.holder (Arrival.Saves words) w) (bytes : List ℕ) (c : Command) (brings : Brings (Arrival.Saves words) path bytes c) (v : Opened)
    (at : v.layout ≡ Layout.New m) (sound : AreSound (Layout.New m) v.listings) (held : HoldObjects nodes v.listings) (owned : AreOwners owners nodes (Layout.New m) (objects_of v.listings))
    (file : IsFile nodes v.listings path t) where
  abbrev h : Parts
  h = record { layout = Layout.New m; nodes = nodes; owners = owners }

  numbered : number_of nodes (holder path) ≡ Some t.holder
  numbered = same_number nodes (holder path) file.target.listing.object.path (folds_alike (holder path) file.target.listing.object.path file.target.above) ∙ file.target.holder_is

  length_same : new_length v c ≡ w.bytes
  length_same = length_is (Arrival.Saves words) path bytes c brings v ∙ sym is.bytes

  slack_same : slack_for v c ≡ slack_wanted m owners w
  slack_same = by brings
    where
      found : (len : ℕ) → len ≡ w.bytes → slack_in v.layout (objects_of v.listings) (holder path) len ≡ slack_wanted m owners w
      found len e =
          ap (λ (l : Layout). slack_in l (objects_of v.listings) (holder path) len) at
          ∙ sym (same_slack m nodes v.listings owners (holder path) t.holder len is_map sound held owned numbered) ∙ ap (slack_left m owners t.holder) e
          ∙ ap (option_and_then (λ (d : ℕ). slack_left m owners d w.bytes)) (sym is.slack)

      by : Brings (Arrival.Saves words) path bytes c → slack_for v c ≡ slack_wanted m owners w
      by (inl b) = ap (slack_for v) b.0 ∙ found (length bytes) (sym b.1 ∙ sym is.bytes)
      by (inr b) = ap (slack_for v) b.0 ∙ found words.len (sym is.bytes)

  pub new_short : short v c ≡ shortage h w
  new_short =
      placing.short_is m v c at (fits v words path bytes c brings file.target.object (target_of.there (Layout.New m) nodes v.listings sound held path t file.target))
      ∙ ap₂ (λ (s : Option (ℕ × ℕ)) (n : ℕ). space_refusal m (cond (is_some s) 0 (units m.geometry n))) slack_same length_same
      ∙ ap (space_refusal m) (either_units m.geometry w.bytes (is_some (slack_wanted m owners w)))
      ∙ sym (none_more m (bytes_left m owners w))
      ∙ sym (ap (λ (g : Option Growth). short_of m (bytes_left m owners w) (is_grown_alone h g) (grown_bytes m h g)) is.grows)

-- ---- on an old map

-- a map of these holes, with the space of an object
module _ (space : OldMapContent) (o : Object) (is : IsOldMap space) (at : IsAt (Layout.Old space) o) (holes : List Hole) where
  either : (b : Bool) → cond (not b) (holding space holes) (holding space (after_give (space_at space o.entry) holes)) ≡ holding space (cond b (after_give (space_at space o.entry) holes) holes)
  either true = refl
  either false = refl

  given_more : map_with o.entry (holding space holes) ≡ holding space (with_space_of space (Some o) holes)
  given_more =
      ap (λ (b : Bool). cond b (holding space holes) (holding space (after_give (space_at space o.entry) holes))) (not_zero (units_of space o.entry)) ∙ either (nat_lt 0 (units_of space o.entry))
      ∙ ap₂ (λ (b : Bool) (hole : Hole). holding space (cond b (after_give hole holes) holes)) (sym (has_units space o is at)) (sym (space_is space o is at))

-- the map once the object has its space, and the one that a target was gives its own
pub given_over : (space : OldMapContent) (nodes : Nodes) → IsOldMap space → (bytes : ℕ) (t : Target) (path : Path) (listings : List Listing) → (sound : AreSound (Layout.Old space) listings) → (held : HoldObjects nodes listings)
    → (target : IsTarget nodes listings path t)
    → map_given space nodes (Some t.node) (map_taken space bytes) ≡ holding space (with_space_of space (Some target.object) (holes_without (old_need space bytes) space.holes))
given_over space nodes is bytes t path listings sound held target =
    ap (λ (n : Option Node). option_map_or (λ (x : Node). map_with x.entry (map_taken space bytes)) n (map_taken space bytes)) (target_of.node_is (Layout.Old space) nodes listings sound held path t target)
    ∙ given_more space target.object is (target_of.placed (Layout.Old space) nodes listings sound held path t target) (holes_without (old_need space bytes) space.holes)

module _ (space : OldMapContent) (nodes : Nodes) (owners : List Owner) (is_map : IsOldMap space) (t : Target) (words : FileWords) (path : Path) (w : Wants)
    (is : WantsPlace (record { layout = Layout.Old space; nodes = nodes; owners = owners }) t.holder (Arrival.Saves words) w) (goes : w.goes ≡ Some t.node) (bytes : List ℕ) (c : Command)
    (brings : Brings (Arrival.Saves words) path bytes c) (v : Opened) (at : v.layout ≡ Layout.Old space) (sound : AreSound (Layout.Old space) v.listings) (held : HoldObjects nodes v.listings) (file : IsFile nodes v.listings path t) where
  abbrev old_parts : Parts
  old_parts = record { layout = Layout.Old space; nodes = nodes; owners = owners }

  stood : object_at v.listings path ≡ Some file.target.object
  stood = target_of.there (Layout.Old space) nodes v.listings sound held path t file.target

  replaced : replaced_object v c ≡ Some file.target.object
  replaced = by brings
    where
      by : Brings (Arrival.Saves words) path bytes c → replaced_object v c ≡ Some file.target.object
      by (inl b) = ap (replaced_object v) b.0 ∙ stood
      by (inr b) = ap (replaced_object v) b.0 ∙ stood

  long : new_length v c ≡ w.bytes
  long = length_is (Arrival.Saves words) path bytes c brings v ∙ sym is.bytes

  given : map_given space nodes w.goes (map_taken space w.bytes) ≡ holding space (with_space_of space (Some file.target.object) (holes_without (old_need space w.bytes) space.holes))
  given = ap (λ (o : Option ℕ). map_given space nodes o (map_taken space w.bytes)) goes ∙ given_over space nodes is_map w.bytes t path v.listings sound held file.target

  pub old_short : short v c ≡ shortage old_parts w
  unfolding short
  old_short =
      ap (λ (b : Bool). first_of (when b refusals.DirFull ∷ space_reasons v.layout v c)) (fits v words path bytes c brings file.target.object stood).not_full
      ∙ ap (λ (l : Layout). first_of (space_reasons l v c)) at
      ∙ ap₂ (λ (n : ℕ) (o : Option Object). refused_with space (old_need space n) (length (with_space_of space o (holes_without (old_need space n) space.holes)))) long replaced
      ∙ sym (ap (λ (now : OldMapContent). refused_with space (old_need space w.bytes) (length now.holes)) given)
