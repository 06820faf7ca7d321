-- `rename` by which a directory grows, by a walk: the directory that gets the name is a big one, how it is placed, and the steps of the map.
use Rattle.fc_change.specs.GrownSpace.{gone_at_once, kept_parts, plans_of, root_of}
use Rattle.fc_change.specs.Needs.{is_copied}
use Rattle.fc_change.specs.Places.{IsPlacingFor, plan_in}
use Rattle.fc_change.specs.Shortage.{is_grown_alone}
use Rattle.fc_change.specs.Steps.{IsStep}
use Rattle.fc_commands.proofs.GrownAroundLemmas.{one_first}
use Rattle.fc_commands.proofs.GrownBackLemmas as back_of
use Rattle.fc_commands.proofs.GrownChangeLemmas.{IsGrownStepped, both_grown}
use Rattle.fc_commands.proofs.GrownMoveBigLemmas.{big_by}
use Rattle.fc_commands.proofs.GrownMoveWantLemmas.{GrownRename, IsPlacedRename}
use Rattle.fc_commands.proofs.GrownMoveWantLemmas as want
use Rattle.fc_commands.proofs.GrownSpaceLemmas.{IsToGrow}
use Rattle.fc_commands.proofs.GrownSpaceLemmas as space_of
use Rattle.fc_commands.proofs.GrownStepLemmas.{PlansFit}
use Rattle.fc_commands.proofs.GrownWalkLemmas.{IsBigOne}
use Rattle.fc_commands.proofs.MoveShortLemmas as short_of
use Rattle.fc_drafts.specs.Gains.{GetsName, GetsNameFor, HasRoom}
use Rattle.fc_drafts.specs.declared.room.Room.TheVariants as rooms
use Rattle.fc_image.specs.Layout.{Layout, dir_form}
use Rattle.fc_image.specs.Objects.{objects_of}
use Rattle.fc_image.specs.Walk.{Listing, Object}
use Rattle.fc_image.specs.effects.Short.{Gain}
use Rattle.fc_laws.specs.agree.Agreed.{parts_with}
use Rattle.fc_names.specs.declared.name.NameForm.TheVariants as forms
use Rattle.fc_newmap.specs.Map.{Map, is_used}
use Rattle.fc_placing.proofs.UsedLemmas.{leaves_used}
use Rattle.fc_placing.specs.Leaving.{left_among}
use Rattle.fc_placing.specs.Places.{IsOwnPlan}
use Rattle.fc_placing.specs.declared.placing.Placing.{Placing}
use Rattle.fc_placing.specs.declared.placing.Placing.TheVariants as placings
use Rattle.fc_plan.specs.Giving.{is_one_of}
use Rattle.fc_plan.specs.declared.plan.Plan.{Plan}
use Rattle.fc_tree.proofs.WalkedLemmas.{listed_directory}
use Rattle.fc_tree.specs.Nodes.{number_of}
use Rattle.fc_writing.specs.Steps.{HasStepped}
use Rattle.std.proofs.Common.{Bool, List, None, Option, Some, [], ap, false, refl, subst, sym, true, ℕ, ◌∙◌, ◌∷◌, ◌≡◌}
use Rattle.std.specs.Option.{option_to_list}
use Rattle.std.specs.Prelude.{Contains, IfSome, IsPermutation}

module _ (q : GrownRename) where
  abbrev pub layout : Layout
  layout = Layout.New q.m

  -- what is renamed, the directory that holds it, and the one that will and grows
  abbrev pub it : Object
  it = q.seen.known.target.object

  abbrev pub k : Listing
  k = q.seen.known.target.listing

  abbrev pub l : Listing
  l = q.seen.known.destination.listing

  pub listed : Contains q.listings q.seen.known.destination.listing
  listed = q.seen.known.destination.listed

  pub number : number_of q.nodes q.seen.known.destination.listing.object.path ≡ Some (want.grown q).0.directory.node
  number = q.seen.known.destination.holder_is ∙ ap (λ (n : ℕ). let x : Option ℕ = Some n in x) (sym (want.dir_is q))

  -- ---- room

  differs : q.r.holder ≡ q.r.target.holder → it.entry.name ≡ q.name → ⊥
  differs here same =
      let fits = short_of.never_kept layout q.nodes q.listings q.seen.sound q.seen.held q.from q.to q.r q.seen.known q.name (rooms.Grows q.growth.len) here (want.room_is q) same in cc

  pub room_across : (q.r.holder ≡ q.r.target.holder → ⊥) → (gain : Gain) → GetsName q.seen.known.destination.listing.content q.name gain
      → HasRoom q.seen.known.destination.listing.content gain (rooms.Grows q.growth.len)
  room_across away gain gets =
      short_of.room_across layout q.nodes q.listings q.seen.sound q.seen.held q.from q.to q.r q.seen.known q.name (rooms.Grows q.growth.len) away (want.room_is q) gain gets

  -- The old name isn't spelled as the new one.
  pub respelled : q.r.holder ≡ q.r.target.holder → q.seen.known.target.object.entry.name ≡ q.name → ⊥
  respelled = differs

  pub room_within : q.r.holder ≡ q.r.target.holder → (gain : Gain) → GetsNameFor q.seen.known.target.listing.content q.seen.known.target.object.entry.name q.name gain
      → HasRoom q.seen.known.target.listing.content gain (rooms.Grows q.growth.len)
  room_within here gain gets =
      short_of.room_within layout q.nodes q.listings q.seen.sound q.seen.held q.from q.to q.r q.seen.known q.name (rooms.Grows q.growth.len) here (want.room_is q) gain (differs here) gets

  pub big : IsBigOne (dir_form (Layout.New q.m)) q.seen.known.destination.listing.object.entry.len q.growth.len
  big = big_by layout q.nodes q.listings q.from q.to q.r q.name q.seen q.growth.len (want.room_is q)

  pub form : dir_form (Layout.New q.m) ≡ forms.Long
  form = big.is_long

  -- ---- its place

  -- all other objects
  pub cut : (stay : List Object) × IsPermutation (objects_of q.listings) (q.seen.known.destination.listing.object ∷ stay)
  cut = one_first (objects_of q.listings) l.object (listed_directory layout q.listings q.seen.sound l listed).0

  abbrev pub stay : List Object
  stay = cut.0

  pub len_is : (want.grown q).0.directory.len ≡ q.growth.len
  len_is = q.len

-- ---- as it is placed

module _ (q : GrownRename) (pl : IsPlacedRename q) where
  own_plan : IfSome (plan_in pl.placing) (IsOwnPlan q.m q.wants.bytes)
  own_plan = by pl.placing pl.is
    where
      by : (x : Placing) → IsPlacingFor q.m q.owners q.wants x → IfSome (plan_in x) (IsOwnPlan q.m q.wants.bytes)
      by placings.Nowhere is = tt
      by (placings.Shared share) is = tt
      by (placings.New plan) is = is.1

  pub to_grow : IsToGrow q.m q.nodes q.owners q.listings q.seen.known.destination.listing.object (cut q).0 q.growth (plan_in pl.placing) pl.dir (want.grown q).0
  to_grow = record {
    node = record {
      is_map = q.agreed.is_map;
      sound = q.seen.sound;
      held = q.seen.held;
      owned = q.agreed.owned;
      there = (listed_directory (layout q) q.listings q.seen.sound (l q) (listed q)).0;
      number = q.seen.known.destination.holder_is ∙ ap (λ (n : ℕ). let x : Option ℕ = Some n in x) (sym (want.node_is q));
    };
    form = form q;
    directory = (listed_directory (layout q) q.listings q.seen.sound (l q) (listed q)).1;
    others = (cut q).1;
    some = (big q).some;
    longer = (big q).more;
    bytes = q.wants.bytes;
    own = own_plan;
    grown = want.grown_at q pl;
  }

  -- ---- the steps of the map

  abbrev pub alone : Bool
  alone = space_of.alone q.m q.nodes q.owners q.listings (l q).object (stay q) q.growth (want.object q pl) (want.dir q pl) (want.grown q).0 to_grow

  pub alone_is : is_grown_alone (parts_with q.m q.nodes q.owners) (Some q.growth) ≡ alone
  alone_is = space_of.alone_as q.m q.nodes q.owners q.listings (l q).object (stay q) q.growth (want.object q pl) (want.dir q pl) (want.grown q).0 to_grow

  pub was_alone : alone ≡ true → want.back q pl ≡ []
  was_alone e = want.none_alone q pl (alone_is ∙ e)

  pub lost : pl.dir ≡ None → want.back q pl ≡ []
  lost = want.none_there q pl

  -- What goes back at last was used.
  module _ (unused : (k : ℕ) → is_used q.m k ≡ false → is_one_of (want.back q pl) k ≡ false) where
    pub fit : PlansFit q.m (plan_in pl.placing) pl.dir alone (want.back q pl)
    fit = back_of.plans_fit q.m q.nodes q.owners q.listings (l q).object (stay q) q.growth (want.object q pl) (want.dir q pl) (want.grown q).0 to_grow (want.back q pl) unused (λ e plan same. was_alone e)

    pub takes : IsStep q.m (plans_of (plan_in pl.placing) pl.dir) (gone_at_once pl.dir alone) (kept_parts pl.dir alone) (root_of (Some (want.grown q).0)) q.spaces.take
    takes =
        subst (λ (a : Bool). IsStep q.m (plans_of (want.object q pl) (want.dir q pl)) (gone_at_once (want.dir q pl) a) (kept_parts (want.dir q pl) a) (root_of (Some (want.grown q).0)) q.spaces.take) alone_is (want.takes q pl)

    -- What the map is after both.
    pub stepped : (mid m' : Map) → HasStepped q.m mid q.spaces.take → HasStepped mid m' q.spaces.give
        → IsGrownStepped q.m m' (plan_in pl.placing) pl.dir alone (root_of (Some (want.grown q).0)) (want.back q pl)
    stepped mid m' first second =
        both_grown q.m mid m' (want.object q pl) (want.dir q pl) alone (root_of (Some (want.grown q).0)) (want.back q pl) q.spaces.take q.spaces.give q.agreed.is_map fit takes (want.gives q pl) first second

-- ---- without a copy

module _ (q : GrownRename) (pl : IsPlacedRename q) (plain : is_copied (parts_with q.m q.nodes q.owners) q.r ≡ false) where
  pub left : (plan : Plan) → pl.dir ≡ Some plan → alone q pl ≡ false → want.back q pl ≡ option_to_list (left_among q.owners q.growth.node None)
  left plan same e = want.left_plain q pl plain plan same (alone_is q pl ∙ e)

  pub back_unused : (n : ℕ) → is_used q.m n ≡ false → is_one_of (want.back q pl) n ≡ false
  back_unused n free = by pl.dir refl (alone q pl) refl
    where
      by : (d : Option Plan) → pl.dir ≡ d → (a : Bool) → alone q pl ≡ a → is_one_of (want.back q pl) n ≡ false
      by None same a e = ap (λ (ids : List ℕ). is_one_of ids n) (lost q pl same)
      by (Some plan) same true e = ap (λ (ids : List ℕ). is_one_of ids n) (was_alone q pl e)
      by (Some plan) same false e =
          ap (λ (ids : List ℕ). is_one_of ids n) (left plan same e) ∙ leaves_used q.owners q.growth.node None q.m q.nodes q.listings n q.agreed.is_map q.seen.sound q.agreed.owned free
