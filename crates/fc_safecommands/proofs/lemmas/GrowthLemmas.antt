-- A directory that grows by a command, by its node: whether it has room, is alone, or gets a new identifier.
use Rattle.std.proofs.Common.{◌≡◌, ◌<◌, ◌/◌, ◌&&◌, ◌||◌, ◌==◌, ℕ, Bool, true, false, cond, List, [], ◌∷◌, length, refl, sym, ap, subst, ◌∙◌, arith, Option, Some, None}
use Rattle.std.specs.Prelude.{Contains, is_some, not}
use Rattle.std.specs.Option.{option_and_then, option_map_or, unwrap_or}
use Rattle.std.proofs.lemmas.Bool.{eqb-true, eq-eqb, ne_eqb}
use Rattle.fc_names.specs.Names.{Path, is_same_path}
use Rattle.fc_newmap.specs.Map.{Map}
use Rattle.fc_model.specs.Command.{Command}
use Rattle.fc_model.specs.Tree.{holder}
use Rattle.fc_image.specs.Layout.{Layout}
use Rattle.fc_image.specs.Opening.{Opened}
use Rattle.fc_image.specs.Objects.{has_sectors, objects_of}
use Rattle.fc_image.specs.Sound.{AreSound}
use Rattle.fc_image.specs.Walk.{Listing, Object}
use Rattle.fc_image.specs.effects.Sharing.{units}
use Rattle.fc_image.specs.effects.Short.{Growth as Grown, growth_in, has_room as has_room_in, is_alone as is_alone_in, moved_growth, one_if}
use Rattle.fc_image.specs.effects.Steady.{has_grown, has_new_holder}
use Rattle.fc_image.specs.safe.SafeShort.{leaves_id, new_id_growth, root_grows, sectors_after}
use Rattle.fc_tree.specs.declared.node.Node.{Node}
use Rattle.fc_tree.specs.Counts.{address_in}
use Rattle.fc_tree.specs.Nodes.{number_of}
use Rattle.fc_tree.specs.Parts.{AreOwners, Parts, owner_of}
use Rattle.fc_tree.proofs.WalkedLemmas.{listed_directory}
use Rattle.fc_placing.proofs.CopyingLemmas.{dirs_same}
use Rattle.fc_plan.specs.Giving.{is_one_of}
use Rattle.fc_change.specs.declared.job.Growth.{Growth}
use Rattle.fc_change.specs.GrownSpace.{has_room, is_alone}
use Rattle.fc_change.specs.Shortage.{has_room_by, is_alone_by}
use Rattle.fc_commands.proofs.GrownRoomLemmas.{IsNodeOf as IsOwnerOf, alone_is, room_is}
use Rattle.fc_commands.proofs.GrownToldLemmas.{other_long}
use Rattle.fc_commands.proofs.NodeLemmas as its
use Rattle.fc_safe.specs.FirstNeeds.{longer_of, moving_out, node_of, out_need, turns_root}
use Rattle.fc_safe.specs.Needs.{bits_of}
use Rattle.fc_safe.specs.Staying.{sectors_then}
use Rattle.fc_safe.specs.Views.{IsNodeOf, IsViewOf}
use Rattle.fc_safe.proofs.ListLemmas.{same_test}
use Rattle.fc_safecommands.proofs.lemmas.NumberLemmas.{one_is}
use Rattle.fc_safecommands.proofs.lemmas.TestLemmas.{or_none}

-- The command makes this directory grow, which has some sectors.
pub record GrowsIn (h : Parts) (v : Opened) (c : Command) (g : Growth) : Type 0 where
  pub listing : Listing
  pub listed : Contains v.listings listing
  pub number : number_of h.nodes listing.object.path ≡ Some g.node
  pub growth : growth_in v c ≡ Some (listing.object, g.len)
  pub more : 0 < g.len
  pub has : has_sectors listing.object ≡ true

-- It makes none grow, or the one of the node.
abbrev pub AreGrown : Parts → Opened → Command → Option Growth → Type 0
AreGrown h v c None = growth_in v c ≡ None
AreGrown h v c (Some g) = GrowsIn h v c g

-- ---- one that grows

module _ (m : Map) (h : Parts) (v : Opened) (view : IsViewOf m h v) (c : Command) (g : Growth) (x : GrowsIn h v c g) where
  abbrev pub l : Object
  l = x.listing.object

  abbrev objects : List Object
  objects = objects_of v.listings

  owner : IsOwnerOf m h.nodes h.owners v.listings x.listing.object g.node
  owner = record {
    is_map = view.is_map;
    sound = subst (λ (y : Layout). AreSound y v.listings) view.layout view.sound;
    held = view.parts.nodes;
    owned = subst (λ (y : Layout). AreOwners h.owners h.nodes y (objects_of v.listings)) view.layout view.parts.owners;
    there = (listed_directory v.layout v.listings view.sound x.listing x.listed).0;
    number = x.number;
  }

  address : address_in h.nodes g.node ≡ x.listing.object.entry.address
  address =
      ap (λ (n : Option Node). option_map_or (λ (k : Node). k.entry.address) n 0)
      (its.there h.nodes v.layout v.listings view.sound view.parts.nodes x.listing x.listed g.node x.number)

  room_same : has_room_in (Layout.New m) (objects_of v.listings) (x.listing.object, g.len) ≡ has_room m h g
  room_same = room_is m h.nodes h.owners v.listings l g.node owner g.len x.more ∙ ap (λ (a : ℕ). has_room_by m h.owners g.node a g.len) (sym address)

  alone_same : is_alone_in (objects_of v.listings) x.listing.object ≡ is_alone h g
  alone_same = alone_is m h.nodes h.owners v.listings l g.node owner x.has ∙ ap (λ (a : ℕ). is_alone_by h.owners g.node a) (sym address)

  abbrev moved_if : Bool → Option Grown
  moved_if b = cond b None (Some (x.listing.object, g.len))

  moved_is : moved_growth v c ≡ moved_if (has_room m h g)
  moved_is =
      ap (option_and_then (λ (q : Grown). let o : Option Grown = cond (has_room_in v.layout (objects_of v.listings) q) None (Some q) in o)) x.growth
      ∙ ap (λ (y : Layout). let o : Option Grown = cond (has_room_in y (objects_of v.listings) (l, g.len)) None (Some (l, g.len)) in o) view.layout ∙ ap moved_if room_same

  -- with room, or alone, it keeps its identifier
  abbrev pub stays : Bool
  stays = has_room m h g || is_alone h g

  new_is : new_id_growth v c ≡ moved_if stays
  new_is =
      ap (option_and_then (λ (q : Grown). let o : Option Grown = cond (is_alone_in (objects_of v.listings) q.0) None (Some q) in o)) moved_is ∙ by (has_room m h g)
    where
      by : (b : Bool) → option_and_then (λ (q : Grown). let o : Option Grown = cond (is_alone_in (objects_of v.listings) q.0) None (Some q) in o) (moved_if b) ≡ moved_if (b || is_alone h g)
      by true = refl
      by false = ap moved_if alone_same

  abbrev pub out_if : Bool → Option Growth
  out_if b = cond b None (Some g)

  same_end : (o : Object) (n : ℕ) → IsNodeOf h v o n → (n == g.node) ≡ is_same_path x.listing.object.path o.path
  same_end o n node = same_test (n == g.node) (g.node == n) (λ e. eq-eqb g.node n (sym (eqb-true n g.node e))) (λ e. eq-eqb n g.node (sym (eqb-true g.node n e))) ∙ one_is m h v view l.path g.node x.number o n node

  -- ---- what it needs, and what stays

  pub grown_out : bits_of m.geometry (out_need (moving_out m h (Some g))) ≡ option_map_or (λ (q : Grown). units m.geometry q.1 ∷ []) (new_id_growth v c) []
  grown_out = by stays ∙ sym (ap (λ (o : Option Grown). option_map_or (λ (q : Grown). units m.geometry q.1 ∷ []) o []) new_is)
    where
      by : (b : Bool) → bits_of m.geometry (out_need (out_if b)) ≡ option_map_or (λ (q : Grown). units m.geometry q.1 ∷ []) (moved_if b) []
      by true = refl
      by false = refl

  pub grown_some : is_some (moving_out m h (Some g)) ≡ is_some (new_id_growth v c)
  grown_some = by stays ∙ sym (ap (λ (o : Option Grown). is_some o) new_is)
    where
      by : (b : Bool) → is_some (out_if b) ≡ is_some (moved_if b)
      by true = refl
      by false = refl

  pub grown_count : option_map_or (λ (q : Grown). one_if (not (is_alone_in (objects_of v.listings) q.0))) (moved_growth v c) 0 ≡ one_if (is_some (moving_out m h (Some g)))
  grown_count = ap (λ (o : Option Grown). option_map_or (λ (q : Grown). one_if (not (is_alone_in (objects_of v.listings) q.0))) o 0) moved_is ∙ by (has_room m h g)
    where
      whether : (a : Bool) → one_if (not a) ≡ one_if (is_some (out_if a))
      whether true = refl
      whether false = refl

      by : (b : Bool) → option_map_or (λ (q : Grown). one_if (not (is_alone_in (objects_of v.listings) q.0))) (moved_if b) 0 ≡ one_if (is_some (out_if (b || is_alone h g)))
      by true = refl
      by false = ap (λ (a : Bool). one_if (not a)) alone_same ∙ whether (is_alone h g)

  pub grown_leaves : (o : Object) (n : ℕ) → IsNodeOf h v o n → is_one_of (node_of (moving_out m h (Some g))) n ≡ leaves_id v c o.path
  grown_leaves o n node = by stays ∙ sym (ap (λ (q : Option Grown). option_map_or (λ (p : Grown). is_same_path p.0.path o.path) q false) new_is)
    where
      by : (b : Bool) → is_one_of (node_of (out_if b)) n ≡ option_map_or (λ (p : Grown). is_same_path p.0.path o.path) (moved_if b) false
      by true = refl
      by false = or_none (g.node == n) ∙ one_is m h v view l.path g.node x.number o n node

  pub grown_longer : (o : Object) (n : ℕ) → IsNodeOf h v o n → sectors_then (longer_of m.geometry (Some g)) (owner_of h.nodes (Layout.New m) o) ≡ sectors_after m v c o
  grown_longer o n node =
      ap (λ (k : ℕ). cond (k == g.node) (g.len / m.geometry.sector) (length o.sectors)) (ap (λ (k : Option ℕ). unwrap_or k 0) node.1)
      ∙ ap (λ (b : Bool). cond b (g.len / m.geometry.sector) (length o.sectors)) (same_end o n node)
      ∙ sym (ap (λ (q : Option Grown). option_map_or (λ (p : Grown). cond (is_same_path p.0.path o.path) (p.1 / m.geometry.sector) (length o.sectors)) q (length o.sectors)) x.growth)

  -- ---- the directories around it

  pub grown_holder : (p : Path) → has_grown v c p ≡ is_same_path (holder x.listing.object.path) p
  grown_holder p = ap (λ (q : Option Grown). option_map_or (λ (k : Grown). is_same_path (holder k.0.path) p) q false) x.growth

  pub grown_within : (p : Path) → has_new_holder v c p ≡ (is_some (moving_out m h (Some g)) && is_same_path (holder p) x.listing.object.path)
  grown_within p =
      ap (λ (q : Option Grown). option_map_or (λ (k : Grown). is_same_path (holder p) k.0.path && not (is_alone_in (objects_of v.listings) k.0)) q false) moved_is ∙ by (has_room m h g)
    where
      turn : (s a : Bool) → (s && not a) ≡ (is_some (out_if a) && s)
      turn true true = refl
      turn true false = refl
      turn false true = refl
      turn false false = refl

      by : (b : Bool) → option_map_or (λ (k : Grown). is_same_path (holder p) k.0.path && not (is_alone_in (objects_of v.listings) k.0)) (moved_if b) false
          ≡ (is_some (out_if (b || is_alone h g)) && is_same_path (holder p) x.listing.object.path)
      by true = refl
      by false = ap (λ (a : Bool). is_same_path (holder p) l.path && not a) alone_same ∙ turn (is_same_path (holder p) l.path) (is_alone h g)

  -- ---- the root

  top_length : (p : Path) → is_same_path p [] ≡ (length p == 0)
  top_length [] = refl
  top_length (y ∷ p) = other_long (y ∷ p) [] (λ e. omega (arith, e)) ∙ sym (ne_eqb (length (y ∷ p)) 0 (λ e. omega (arith, e)))

  pub grown_root : root_grows v c ≡ (g.node == 0)
  grown_root =
      ap (λ (q : Option Grown). option_map_or (λ (k : Grown). length k.0.path == 0) q false) x.growth ∙ sym (top_length l.path)
      ∙ sym (dirs_same h.nodes l.path [] g.node 0 x.number refl)

-- ---- whether one grows or not

module _ (m : Map) (h : Parts) (v : Opened) (view : IsViewOf m h v) (c : Command) where
  none_moved : growth_in v c ≡ None → moved_growth v c ≡ None
  none_moved none = ap (option_and_then (λ (q : Grown). let o : Option Grown = cond (has_room_in v.layout (objects_of v.listings) q) None (Some q) in o)) none

  none_new : growth_in v c ≡ None → new_id_growth v c ≡ None
  none_new none = ap (option_and_then (λ (q : Grown). let o : Option Grown = cond (is_alone_in (objects_of v.listings) q.0) None (Some q) in o)) (none_moved none)

  pub out_same : (grows : Option Growth) → AreGrown h v c grows → bits_of m.geometry (out_need (moving_out m h grows)) ≡ option_map_or (λ (q : Grown). units m.geometry q.1 ∷ []) (new_id_growth v c) []
  out_same None none = sym (ap (λ (o : Option Grown). option_map_or (λ (q : Grown). units m.geometry q.1 ∷ []) o []) (none_new none))
  out_same (Some g) x = grown_out m h v view c g x

  pub some_same : (grows : Option Growth) → AreGrown h v c grows → is_some (moving_out m h grows) ≡ is_some (new_id_growth v c)
  some_same None none = sym (ap (λ (o : Option Grown). is_some o) (none_new none))
  some_same (Some g) x = grown_some m h v view c g x

  pub count_same : (grows : Option Growth) → AreGrown h v c grows → option_map_or (λ (q : Grown). one_if (not (is_alone_in (objects_of v.listings) q.0))) (moved_growth v c) 0 ≡ one_if (is_some (moving_out m h grows))
  count_same None none = ap (λ (o : Option Grown). option_map_or (λ (q : Grown). one_if (not (is_alone_in (objects_of v.listings) q.0))) o 0) (none_moved none)
  count_same (Some g) x = grown_count m h v view c g x

  pub leaves_same : (grows : Option Growth) → AreGrown h v c grows → (o : Object) (n : ℕ) → IsNodeOf h v o n → is_one_of (node_of (moving_out m h grows)) n ≡ leaves_id v c o.path
  leaves_same None none o n node = sym (ap (λ (q : Option Grown). option_map_or (λ (p : Grown). is_same_path p.0.path o.path) q false) (none_new none))
  leaves_same (Some g) x o n node = grown_leaves m h v view c g x o n node

  pub longer_same : (grows : Option Growth) → AreGrown h v c grows → (o : Object) (n : ℕ) → IsNodeOf h v o n → sectors_then (longer_of m.geometry grows) (owner_of h.nodes (Layout.New m) o) ≡ sectors_after m v c o
  longer_same None none o n node = sym (ap (λ (q : Option Grown). option_map_or (λ (p : Grown). cond (is_same_path p.0.path o.path) (p.1 / m.geometry.sector) (length o.sectors)) q (length o.sectors)) none)
  longer_same (Some g) x o n node = grown_longer m h v view c g x o n node

  pub root_same : (grows : Option Growth) → AreGrown h v c grows → root_grows v c ≡ turns_root grows
  root_same None none = ap (λ (q : Option Grown). option_map_or (λ (k : Grown). length k.0.path == 0) q false) none
  root_same (Some g) x = grown_root m h v view c g x
