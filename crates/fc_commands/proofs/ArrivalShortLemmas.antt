-- `cdir`, `save` and `create` of what is new are refused for want of space as what they want is.
use Rattle.std.proofs.Common.{◌≡◌, ◌+◌, ◌*◌, ◌&&◌, inl, inr, ℕ, Bool, true, false, cond, List, [], ◌∷◌, length, Option, Some, None, refl, sym, ap, ap₂, ◌∙◌, arith}
use Rattle.std.specs.Prelude.{is_none, is_some, nat_lt}
use Rattle.std.specs.Option.{option_and_then, option_map_or}
use Rattle.fc_names.specs.declared.refusal.Refusal.{Refusal}
use Rattle.fc_names.specs.declared.refusal.Refusal.TheVariants as refusals
use Rattle.fc_names.specs.Names.{Path}
use Rattle.fc_alloc.specs.declared.owner.Owner.{Owner}
use Rattle.fc_oldmap.specs.Holes.{first_fit_place, hole_limit, hole_sum}
use Rattle.fc_oldmap.specs.OldMap.{OldMapContent}
use Rattle.fc_newmap.specs.Map.{Map, bits_in, hole_runs}
use Rattle.fc_newmap.specs.NewMap.{IsNewMap}
use Rattle.fc_record.specs.declared.Geometry.{Geometry}
use Rattle.fc_model.specs.Answer.{first_of, when}
use Rattle.fc_model.specs.Command.{Command}
use Rattle.fc_model.specs.Tree.{holder, last_name}
use Rattle.fc_drafts.specs.declared.room.Room.TheVariants as rooms
use Rattle.fc_drafts.specs.Gains.{GetsName}
use Rattle.fc_image.specs.Layout.{Layout, dir_form}
use Rattle.fc_image.specs.Objects.{objects_of}
use Rattle.fc_image.specs.Opening.{Opened}
use Rattle.fc_image.specs.Sound.{AreSound}
use Rattle.fc_image.specs.Walk.{Object}
use Rattle.fc_image.specs.effects.Sharing.{new_ids, units}
use Rattle.fc_image.specs.effects.Short.{Gain, gain_in, gain_of, holes_without, is_full_with, new_length, old_need, one_if, replaced_object, short, slack_for, slack_in, space_reasons, with_space_of}
use Rattle.fc_changes.proofs.BasicLemmas.{and_false}
use Rattle.fc_laws.specs.nodes.Edits.{Nodes}
use Rattle.fc_placing.specs.Places.{FitsDirectory, slack_left}
use Rattle.fc_placing.proofs.PlacesLemmas.{space_refusal}
use Rattle.fc_placing.proofs.PlacesLemmas as placing
use Rattle.fc_placing.proofs.SlackLemmas.{same_slack}
use Rattle.fc_refusals.specs.Targets.{IsVacant}
use Rattle.fc_tree.specs.Nodes.{HoldObjects}
use Rattle.fc_tree.specs.Parts.{AreOwners, Parts}
use Rattle.fc_change.specs.declared.job.Growth.{Growth}
use Rattle.fc_change.specs.declared.job.Wants.{Wants}
use Rattle.fc_change.specs.Needs.{HasRoomFor}
use Rattle.fc_change.specs.OldSpace.{map_given, map_taken}
use Rattle.fc_change.specs.Shortage.{bytes_left, grown_bytes, is_grown_alone, short_of, shortage, slack_for as slack_wanted}
use Rattle.fc_commands.proofs.ArrivalLemmas.{Arrival, Brings, bytes_of, gain_same, of_each}
use Rattle.fc_commands.proofs.ArrivalPlaceLemmas.{IsWanted, shares_of}
use Rattle.fc_commands.proofs.EnteredLemmas.{HasRoomMore}
use Rattle.fc_commands.proofs.HolderLemmas as holder_of
use Rattle.fc_commands.proofs.VacantLemmas as vacant

-- ---- the directory

module _ (layout : Layout) (nodes : Nodes) (path : Path) (dir : ℕ) (x : Arrival) (bytes : List ℕ) (c : Command) (brings : Brings x path bytes c) (v : Opened) (sound : AreSound layout v.listings)
    (held : HoldObjects nodes v.listings) (spot : IsVacant nodes v.listings path dir) where
  gain : Gain
  gain = gain_of path spot.listing

  gets : GetsName spot.listing.content (last_name path) (gain_of path spot.listing)
  gets = record { name_is = refl; names_are = refl }

  gains : gain_in v c ≡ Some (gain_of path spot.listing)
  gains = sym (gain_same x path bytes c brings v) ∙ vacant.gains layout nodes v.listings sound path dir spot v refl

  full_is : option_map_or (λ (g : Gain). is_full_with g.listing.content g) (gain_in v c) false ≡ is_full_with spot.listing.content (gain_of path spot.listing)
  full_is = ap (λ (o : Option Gain). option_map_or (λ (g : Gain). is_full_with g.listing.content g) o false) gains

  -- full as the nodes tell
  pub dir_full : HasRoomFor nodes dir (last_name path) rooms.Full → short v c ≡ Some refusals.DirFull
  unfolding short
  dir_full full =
      ap (λ (b : Bool). first_of (when b refusals.DirFull ∷ space_reasons v.layout v c))
      (full_is ∙ full spot.listing.content (gain_of path spot.listing) (holder_of.says_at layout nodes v.listings sound held spot.listing spot.listed dir spot.holder_is) gets)

  pub more : HasRoomFor nodes dir (last_name path) rooms.Fits → HasRoomMore spot.listing.content (last_name path)
  more room gain' gets' = room spot.listing.content gain' (holder_of.says_at layout nodes v.listings sound held spot.listing spot.listed dir spot.holder_is) gets'

  not_full : HasRoomFor nodes dir (last_name path) rooms.Fits → option_map_or (λ (g : Gain). is_full_with g.listing.content g) (gain_in v c) false ≡ false
  not_full room = full_is ∙ (more room (gain_of path spot.listing) gets).0

  pub fits : HasRoomFor nodes dir (last_name path) rooms.Fits → FitsDirectory v c
  fits room = record { no_growth = vacant.no_growth layout nodes v.listings sound path dir spot x bytes c brings (more room) v refl; not_full = not_full room }

-- ---- its bytes

pub length_is : (x : Arrival) (path : Path) (bytes : List ℕ) (c : Command) → Brings x path bytes c → (v : Opened) → new_length v c ≡ bytes_of (dir_form v.layout) x
length_is Arrival.Makes path bytes c brings v = ap (new_length v) brings
length_is (Arrival.Saves words) path bytes c (inl brings) v = ap (new_length v) brings.0 ∙ sym brings.1
length_is (Arrival.Saves words) path bytes c (inr brings) v = ap (new_length v) brings.0

-- ---- on a new map

pub none_more : (m : Map) (bytes : ℕ) → short_of m bytes true 0 ≡ space_refusal m (units m.geometry bytes)
none_more m bytes =
    let u = units m.geometry bytes in
    ap₂ (λ (i b : ℕ). first_of (when (nat_lt (length (new_ids m)) i) refusals.IdsFull ∷ when (nat_lt (bits_in (hole_runs m)) b) refusals.DiscFull ∷ []))
    (let e : one_if (nat_lt 0 u) + 0 ≡ one_if (nat_lt 0 u) = omega arith in e)
    (ap (λ (t : Bool). let n : ℕ = cond t (u + 0 + 2 * m.geometry.min) (u + 0) in n) (and_false (nat_lt 0 u)) ∙ (let e : u + 0 ≡ u = omega arith in e))

pub either_units : (g : Geometry) (n : ℕ) (b : Bool) → (let u : ℕ = cond b 0 (units g n) in u) ≡ units g (cond b 0 n)
either_units g n true = refl
either_units g n false = refl

-- the same length and the same slack, whether a directory grows or not
module _ (m : Map) (nodes : Nodes) (owners : List Owner) (is_map : IsNewMap m) (dir : ℕ) (x : Arrival) (path : Path) (w : Wants)
    (size : w.bytes ≡ bytes_of (dir_form (Layout.New m)) x) (shares : w.shares ≡ shares_of dir x) (bytes : List ℕ) (c : Command) (brings : Brings x path bytes c) (v : Opened)
    (at : v.layout ≡ Layout.New m) (sound : AreSound (Layout.New m) v.listings) (held : HoldObjects nodes v.listings) (owned : AreOwners owners nodes (Layout.New m) (objects_of v.listings))
    (spot : IsVacant nodes v.listings path dir) where
  pub length_same : new_length v c ≡ w.bytes
  length_same = length_is x path bytes c brings v ∙ ap (λ (l : Layout). bytes_of (dir_form l) x) at ∙ sym size

  pub slack_same : slack_for v c ≡ slack_wanted m owners w
  slack_same = by x brings shares size
    where
      found : (len : ℕ) → len ≡ w.bytes → slack_in v.layout (objects_of v.listings) (holder path) len ≡ slack_left m owners dir w.bytes
      found len e =
          ap (λ (l : Layout). slack_in l (objects_of v.listings) (holder path) len) at
          ∙ sym (same_slack m nodes v.listings owners (holder path) dir len is_map sound held owned (vacant.holder_number (Layout.New m) nodes v.listings sound path dir spot)) ∙ ap (slack_left m owners dir) e

      wanted : (o : Option ℕ) → w.shares ≡ o → option_and_then (λ (d : ℕ). slack_left m owners d w.bytes) o ≡ slack_wanted m owners w
      wanted o e = ap (option_and_then (λ (d : ℕ). slack_left m owners d w.bytes)) (sym e)

      by : (y : Arrival) → Brings y path bytes c → w.shares ≡ shares_of dir y → w.bytes ≡ bytes_of (dir_form (Layout.New m)) y → slack_for v c ≡ slack_wanted m owners w
      by Arrival.Makes b shares size = ap (slack_for v) b ∙ wanted None shares
      by (Arrival.Saves words) (inl b) shares size = ap (slack_for v) b.0 ∙ found (length bytes) (sym b.1 ∙ sym size) ∙ wanted (Some dir) shares
      by (Arrival.Saves words) (inr b) shares size = ap (slack_for v) b.0 ∙ found words.len (sym size) ∙ wanted (Some dir) shares

module _ (m : Map) (nodes : Nodes) (owners : List Owner) (is_map : IsNewMap m) (dir : ℕ) (x : Arrival) (path : Path) (w : Wants)
    (is : IsWanted (record { layout = Layout.New m; nodes = nodes; owners = owners }) dir x (last_name path) w) (bytes : List ℕ) (c : Command) (brings : Brings x path bytes c) (v : Opened)
    (at : v.layout ≡ Layout.New m) (sound : AreSound (Layout.New m) v.listings) (held : HoldObjects nodes v.listings) (owned : AreOwners owners nodes (Layout.New m) (objects_of v.listings))
    (spot : IsVacant nodes v.listings path dir) where
  abbrev h : Parts
  h = record { layout = Layout.New m; nodes = nodes; owners = owners }

  pub new_short : short v c ≡ shortage h w
  new_short =
      placing.short_is m v c at (fits (Layout.New m) nodes path dir x bytes c brings v sound held spot is.room)
      ∙ ap₂ (λ (s : Option (ℕ × ℕ)) (n : ℕ). space_refusal m (cond (is_some s) 0 (units m.geometry n))) (slack_same m nodes owners is_map dir x path w is.bytes is.slack bytes c brings v at sound held owned spot)
      (length_same m nodes owners is_map dir x path w is.bytes is.slack bytes c brings v at sound held owned spot)
      ∙ ap (space_refusal m) (either_units m.geometry w.bytes (is_some (slack_wanted m owners w)))
      ∙ sym (none_more m (bytes_left m owners w))
      ∙ sym (ap (λ (g : Option Growth). short_of m (bytes_left m owners w) (is_grown_alone h g) (grown_bytes m h g)) is.grows)

-- ---- on an old map

abbrev pub refused_with : OldMapContent → (need count : ℕ) → Option Refusal
refused_with space need count =
    first_of (when (nat_lt (hole_sum space.holes) need) refusals.DiscFull
    ∷ when (nat_lt 0 need && is_none (first_fit_place need space.holes)) refusals.CompactionRequired
    ∷ when (nat_lt hole_limit count) refusals.MapFull ∷ [])

module _ (space : OldMapContent) (nodes : Nodes) (owners : List Owner) (dir : ℕ) (x : Arrival) (path : Path) (w : Wants)
    (is : IsWanted (record { layout = Layout.Old space; nodes = nodes; owners = owners }) dir x (last_name path) w) (bytes : List ℕ) (c : Command) (brings : Brings x path bytes c) (v : Opened)
    (at : v.layout ≡ Layout.Old space) (sound : AreSound (Layout.Old space) v.listings) (held : HoldObjects nodes v.listings) (spot : IsVacant nodes v.listings path dir) where
  abbrev old_parts : Parts
  old_parts = record { layout = Layout.Old space; nodes = nodes; owners = owners }

  none_replaced : replaced_object v c ≡ None
  none_replaced = of_each (λ (k : Command). replaced_object v k ≡ None) x path bytes c refl (λ load exec saved. spot.absent) (λ load exec len. spot.absent) brings

  long : new_length v c ≡ w.bytes
  long = length_is x path bytes c brings v ∙ ap (λ (l : Layout). bytes_of (dir_form l) x) at ∙ sym is.bytes

  pub old_short : short v c ≡ shortage old_parts w
  unfolding short
  old_short =
      ap (λ (b : Bool). first_of (when b refusals.DirFull ∷ space_reasons v.layout v c)) (fits (Layout.Old space) nodes path dir x bytes c brings v sound held spot is.room).not_full
      ∙ ap (λ (l : Layout). first_of (space_reasons l v c)) at
      ∙ ap₂ (λ (n : ℕ) (o : Option Object). refused_with space (old_need space n) (length (with_space_of space o (holes_without (old_need space n) space.holes)))) long none_replaced
      ∙ sym (ap (λ (o : Option ℕ). refused_with space (old_need space w.bytes) (length (map_given space nodes o (map_taken space w.bytes)).holes)) is.goes)
