-- What comes to a directory that grows by it: the command is refused for want of space as what is wanted is, on a new map.
use Rattle.std.proofs.Common.{◌≡◌, ◌<◌, ◌+◌, ℕ, Bool, true, false, cond, List, [], ◌∷◌, length, refl, sym, ap, ap₂, ◌∙◌, Option, Some, None}
use Rattle.std.specs.Prelude.{nat_lt, not}
use Rattle.std.specs.Option.{option_and_then, option_map_or}
use Rattle.std.proofs.lemmas.Bool.{lt-ltb}
use Rattle.fc_alloc.specs.declared.owner.Owner.{Owner}
use Rattle.fc_names.specs.declared.refusal.Refusal.TheVariants as refusals
use Rattle.fc_newmap.specs.Map.{Map, bits_in, hole_runs}
use Rattle.fc_model.specs.Answer.{first_of, when}
use Rattle.fc_model.specs.Command.{Command}
use Rattle.fc_image.specs.Layout.{Layout}
use Rattle.fc_image.specs.Objects.{has_sectors, objects_of}
use Rattle.fc_image.specs.Opening.{Opened}
use Rattle.fc_image.specs.Walk.{Object}
use Rattle.fc_image.specs.effects.Sharing.{new_ids, units}
use Rattle.fc_image.specs.effects.Short.{Gain, Growth as Grown, growth_in, gain_in, has_room, is_alone, is_full_with, moved_growth, needed_bits, needed_ids, object_units, one_if, short, space_reasons}
use Rattle.fc_laws.specs.agree.Agreed.{parts_with}
use Rattle.fc_laws.specs.nodes.Edits.{Nodes}
use Rattle.fc_plan.proofs.Units.{units_some}
use Rattle.fc_tree.specs.Counts.{address_in}
use Rattle.fc_change.specs.declared.job.Growth.{Growth}
use Rattle.fc_change.specs.declared.job.Wants.{Wants}
use Rattle.fc_change.specs.Shortage.{bits_for, bytes_left, grown_bytes, has_room_by, ids_for, is_alone_by, is_grown_alone, short_of, shortage}
use Rattle.fc_commands.proofs.GrownRoomLemmas.{IsNodeOf, alone_is, room_is}

-- The command makes directory o of the growth's node grow to its length, and the directory isn't full.
pub record GrowsTo (v : Opened) (c : Command) (o : Object) (len : ℕ) : Type 0 where
  pub growth : growth_in v c ≡ Some (o, len)
  pub not_full : option_map_or (λ (g : Gain). is_full_with g.listing.content g) (gain_in v c) false ≡ false

module _ (m : Map) (nodes : Nodes) (owners : List Owner) (v : Opened) (c : Command) (o : Object) (w : Wants) (g : Growth) (some : w.grows ≡ Some g) (new : v.layout ≡ Layout.New m)
    (node : IsNodeOf m nodes owners v.listings o g.node) (has : has_sectors o ≡ true) (address : address_in nodes g.node ≡ o.entry.address) (grows : GrowsTo v c o g.len) (more : 0 < g.len)
    (object : object_units m v c ≡ units m.geometry (bytes_left m owners w)) where
  abbrev room : Bool
  room = has_room_by m owners g.node (address_in nodes g.node) g.len

  abbrev alone : Bool
  alone = is_alone_by owners g.node (address_in nodes g.node)

  room_same : has_room (Layout.New m) (objects_of v.listings) (o, g.len) ≡ room
  room_same = room_is m nodes owners v.listings o g.node node g.len more ∙ ap (λ (a : ℕ). has_room_by m owners g.node a g.len) (sym address)

  alone_same : is_alone (objects_of v.listings) o ≡ alone
  alone_same = alone_is m nodes owners v.listings o g.node node has ∙ ap (λ (a : ℕ). is_alone_by owners g.node a) (sym address)

  abbrev moved_if : Bool → Option Grown
  moved_if b = cond b None (Some (o, g.len))

  moved_is : moved_growth v c ≡ moved_if room
  moved_is =
      ap (option_and_then (λ (x : Grown). let q : Option Grown = cond (has_room v.layout (objects_of v.listings) x) None (Some x) in q)) grows.growth
      ∙ ap (λ (l : Layout). let q : Option Grown = cond (has_room l (objects_of v.listings) (o, g.len)) None (Some (o, g.len)) in q) new ∙ ap moved_if room_same

  units_are : (b : Bool) → option_map_or (λ (x : Grown). units m.geometry x.1) (moved_if b) 0 ≡ units m.geometry (cond b 0 g.len)
  units_are true = refl
  units_are false = refl

  more_ids : (b : Bool) → option_map_or (λ (x : Grown). one_if (not (is_alone (objects_of v.listings) x.0))) (moved_if b) 0 ≡ cond (nat_lt 0 (units m.geometry (cond b 0 g.len))) (one_if (not alone)) 0
  more_ids true = refl
  more_ids false =
      ap (λ (a : Bool). one_if (not a)) alone_same ∙ sym (ap (λ (b : Bool). let n : ℕ = cond b (one_if (not alone)) 0 in n) (lt-ltb 0 (units m.geometry g.len) (units_some m g.len node.is_map more)))

  abbrev own : ℕ
  own = units m.geometry (bytes_left m owners w)

  ids_are : needed_ids m v c ≡ ids_for own alone (units m.geometry (cond room 0 g.len))
  ids_are =
      ap₂ (λ (a n : ℕ). one_if (nat_lt 0 a) + n) object
      (ap (λ (q : Option Grown). option_map_or (λ (x : Grown). one_if (not (is_alone (objects_of v.listings) x.0))) q 0) moved_is ∙ more_ids room)

  bits_are : needed_bits m v c ≡ bits_for m.geometry own (units m.geometry (cond room 0 g.len))
  bits_are = ap₂ (bits_for m.geometry) object (ap (λ (q : Option Grown). option_map_or (λ (x : Grown). units m.geometry x.1) q 0) moved_is ∙ units_are room)

  pub grown_short : short v c ≡ shortage (parts_with m nodes owners) w
  unfolding short
  grown_short =
      ap (λ (t : Bool). first_of (when t refusals.DirFull ∷ space_reasons v.layout v c)) grows.not_full
      ∙ ap (λ (l : Layout). first_of (space_reasons l v c)) new
      ∙ ap₂ (λ (i b : ℕ). first_of (when (nat_lt (length (new_ids m)) i) refusals.IdsFull ∷ when (nat_lt (bits_in (hole_runs m)) b) refusals.DiscFull ∷ [])) ids_are bits_are
      ∙ ap (λ (x : Option Growth). short_of m (bytes_left m owners w) (is_grown_alone (parts_with m nodes owners) x) (grown_bytes m (parts_with m nodes owners) x)) (sym some)
