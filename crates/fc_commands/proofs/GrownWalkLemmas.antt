-- What comes to a directory that grows by it, by any walk over parts that agree: the grown directory, its place, and the steps of the map.
use Rattle.std.proofs.Common.{◌≡◌, ◌<◌, ℕ, ◌%◌, ◌==◌, Bool, true, false, cond, List, [], ◌∷◌, ◌++◌, refl, sym, ap, subst, ◌∙◌, arith, Option, Some, None}
use Rattle.std.specs.Prelude.{IsPermutation, nat_le, nat_lt}
use Rattle.std.specs.Int.{is_in_range}
use Rattle.std.specs.Option.{option_to_list, option_map_or}
use Rattle.std.proofs.lemmas.Bool.{and_parts, leb-true, ltb-true}
use Rattle.fc_alloc.specs.declared.owner.Owner.{Owner}
use Rattle.fc_names.specs.Names.{Path}
use Rattle.fc_names.specs.declared.name.NameForm.{NameForm}
use Rattle.fc_names.specs.declared.name.NameForm.TheVariants as forms
use Rattle.fc_record.specs.declared.Kind.{Kind}
use Rattle.fc_newmap.specs.Map.{Map, is_used}
use Rattle.fc_model.specs.Tree.{last_name}
use Rattle.fc_dirs.specs.Big.{needed_size}
use Rattle.fc_dirs.specs.Directory.{Directory}
use Rattle.fc_drafts.specs.declared.room.Room.TheVariants as rooms
use Rattle.fc_drafts.specs.Draft.{names_of}
use Rattle.fc_drafts.specs.Gains.{GetsName, HasRoom}
use Rattle.fc_image.specs.Layout.{Layout, dir_form}
use Rattle.fc_image.specs.Objects.{objects_of}
use Rattle.fc_image.specs.Sound.{AreSound}
use Rattle.fc_image.specs.Walk.{Listing, Object}
use Rattle.fc_image.specs.effects.Short.{Gain, Growth as Grown, growth_with}
use Rattle.fc_laws.specs.nodes.Edits.{Nodes}
use Rattle.fc_laws.specs.agree.Agreed.{AgreeOn}
use Rattle.fc_laws.proofs.lemmas.agree.BeforeLemmas.{agreed_law}
use Rattle.fc_placing.specs.Leaving.{left_among}
use Rattle.fc_placing.proofs.UsedLemmas.{leaves_used}
use Rattle.fc_plan.specs.declared.plan.Plan.{Plan}
use Rattle.fc_plan.specs.Giving.{is_one_of}
use Rattle.fc_refusals.specs.Targets.{IsVacant}
use Rattle.fc_tree.specs.Agree.{HasForm, IsDirectory}
use Rattle.fc_tree.specs.declared.node.Node.{Node}
use Rattle.fc_tree.specs.Nodes.{number_of}
use Rattle.fc_tree.proofs.WalkedLemmas.{listed_directory}
use Rattle.fc_change.specs.declared.job.Wants.{Wants}
use Rattle.fc_change.specs.declared.spaces.GrownPlace.{GrownPlace}
use Rattle.fc_change.specs.declared.spaces.Spaces.{Spaces}
use Rattle.fc_change.specs.GrownSpace.{gone_at_once, kept_parts, plans_of, root_of}
use Rattle.fc_change.specs.Needs.{SaysAt}
use Rattle.fc_change.specs.Places.{plan_in}
use Rattle.fc_change.specs.Shortage.{is_grown_alone}
use Rattle.fc_change.specs.Steps.{IsStep}
use Rattle.fc_writing.specs.Steps.{HasStepped}
use Rattle.fc_commands.proofs.GrownAroundLemmas.{one_first}
use Rattle.fc_commands.proofs.GrownChangeLemmas.{IsGrownStepped, both_grown}
use Rattle.fc_commands.proofs.GrownSpaceLemmas.{IsToGrow}
use Rattle.fc_commands.proofs.GrownSpaceLemmas as space_of
use Rattle.fc_commands.proofs.GrownStepLemmas.{PlansFit}
use Rattle.fc_commands.proofs.GrownWantLemmas.{IsGrownWanted}
use Rattle.fc_commands.proofs.GrownWantLemmas as wanted
use Rattle.fc_commands.proofs.ArrivalLemmas.{Arrival}
use Rattle.fc_commands.proofs.NodeLemmas as its_node
use Rattle.fc_commands.proofs.GrownBackLemmas as back_of

-- ---- a directory that has to grow

-- It is a big one, and its length is some before and after.
pub record IsBigOne (form : NameForm) (len size : ℕ) : Type 0 where
  pub is_long : form ≡ forms.Long
  pub some : 0 < len
  pub more : 0 < size

larger : (b : Bool) (o : Object) (needed size : ℕ) → (let x : Option Grown = cond b (Some (o, needed)) None in x) ≡ Some (o, size) → (b ≡ true) × (needed ≡ size)
larger true o needed size e = (refl, ap (λ (x : Option Grown). option_map_or (λ (y : Grown). y.1) x 0) e)
larger false o needed size e = absurd (cc)

pub big_one : (form : NameForm) (len size : ℕ) (content : Directory) (gain : Gain) (o : Object) → HasForm form len content → IsDirectory content → growth_with o content gain ≡ Some (o, size) → IsBigOne form len size
big_one form len size (Directory.Small dir) gain o has is grows = absurd (cc)
big_one forms.Seven len size (Directory.Big dir) gain o has is grows = absurd has
big_one forms.Ten len size (Directory.Big dir) gain o has is grows = absurd has
big_one forms.Long len size (Directory.Big dir) gain o has is grows =
    let g = larger (nat_lt dir.size (needed_size dir gain.names gain.name)) o (needed_size dir gain.names gain.name) size grows in
    let less = ltb-true dir.size (needed_size dir gain.names gain.name) g.0 in
    let range = and_parts (nat_le 2048 dir.size) (nat_le dir.size 4194304) (and_parts (is_in_range 2048 4194304 dir.size) (dir.size % 2048 == 0) is.size).0 in
    let low = leb-true 2048 dir.size range.0 in
    record { is_long = refl; some = omega (arith, has, low); more = omega (arith, less, g.1) }

module _ (m : Map) (nodes : Nodes) (owners : List Owner) (dir : ℕ) (x : Arrival) (path : Path) (w : Wants) (s : Spaces) (is : IsGrownWanted m nodes owners dir x (last_name path) w s)
    (kind : Kind) (root : Node) (listings : List Listing) (agreed : AgreeOn kind m nodes owners root listings) (spot : IsVacant nodes listings path dir) where
  abbrev pub p : GrownPlace
  p = (wanted.grown m nodes owners dir x (last_name path) w s is).0

  abbrev pub plan : Option Plan
  plan = plan_in is.placed.placing

  abbrev pub l : Listing
  l = spot.listing

  abbrev sound : AreSound (Layout.New m) listings
  sound = agreed_law.sound kind m nodes owners root listings agreed

  pub dir_is : (wanted.grown m nodes owners dir x (last_name path) w s is).0.directory.node ≡ dir
  dir_is = wanted.dir_is m nodes owners dir x (last_name path) w s is

  pub number : number_of nodes spot.listing.object.path ≡ Some (wanted.grown m nodes owners dir x (last_name path) w s is).0.directory.node
  number = spot.holder_is ∙ ap (λ (n : ℕ). let x : Option ℕ = Some n in x) (sym dir_is)

  says_at : SaysAt nodes dir spot.listing.content
  says_at = record {
    node = its_node.node nodes (Layout.New m) listings sound agreed.walked.held l spot.listed dir spot.holder_is;
    there = its_node.there nodes (Layout.New m) listings sound agreed.walked.held l spot.listed dir spot.holder_is;
    says = its_node.says nodes (Layout.New m) listings sound agreed.walked.held l spot.listed dir spot.holder_is;
  }

  pub room_then : (gain : Gain) → GetsName spot.listing.content (last_name path) gain → HasRoom spot.listing.content gain (rooms.Grows is.growth.len)
  room_then gain gets = wanted.room_is m nodes owners dir x (last_name path) w s is l.content gain says_at gets

  big : IsBigOne (dir_form (Layout.New m)) spot.listing.object.entry.len is.growth.len
  big =
      let gain : Gain = record { listing = l; name = last_name path; names = names_of l.content ++ last_name path ∷ [] } in
      big_one (dir_form (Layout.New m)) l.object.entry.len is.growth.len l.content gain l.object (agreed.walked.forms l spot.listed) (agreed.walked.bodies l spot.listed)
      ((room_then gain (record { name_is = refl; names_are = refl })).1 l.object)

  pub form : dir_form (Layout.New m) ≡ forms.Long
  form = big.is_long

  -- all other objects
  pub cut : (stay : List Object) × IsPermutation (objects_of listings) (spot.listing.object ∷ stay)
  cut = one_first (objects_of listings) l.object (listed_directory (Layout.New m) listings sound l spot.listed).0

  abbrev pub stay : List Object
  stay = cut.0

  pub to : IsToGrow m nodes owners listings spot.listing.object cut.0 is.growth (plan_in is.placed.placing) is.placed.dir (wanted.grown m nodes owners dir x (last_name path) w s is).0
  to = record {
    node = record {
      is_map = agreed.is_map;
      sound = sound;
      held = agreed.walked.held;
      owned = agreed.owned;
      there = (listed_directory (Layout.New m) listings sound l spot.listed).0;
      number = spot.holder_is ∙ ap (λ (n : ℕ). let x : Option ℕ = Some n in x) (sym (wanted.node_is m nodes owners dir x (last_name path) w s is));
    };
    form = form;
    directory = (listed_directory (Layout.New m) listings sound l spot.listed).1;
    others = cut.1;
    some = big.some;
    longer = big.more;
    bytes = w.bytes;
    own = wanted.own m nodes owners dir x (last_name path) w s is;
    grown = (wanted.grown m nodes owners dir x (last_name path) w s is).2;
  }

  pub len_is : (wanted.grown m nodes owners dir x (last_name path) w s is).0.directory.len ≡ is.growth.len
  len_is = space_of.len_is m nodes owners listings l.object stay is.growth plan is.placed.dir p to

  pub room : (gain : Gain) → GetsName spot.listing.content (last_name path) gain → HasRoom spot.listing.content gain (rooms.Grows (wanted.grown m nodes owners dir x (last_name path) w s is).0.directory.len)
  room gain gets = subst (λ (n : ℕ). HasRoom l.content gain (rooms.Grows n)) (sym len_is) (room_then gain gets)

  -- ---- the steps of the map

  abbrev pub back : List ℕ
  back = wanted.back m nodes owners dir x (last_name path) w s is

  abbrev pub alone : Bool
  alone = space_of.alone m nodes owners listings l.object stay is.growth plan is.placed.dir p to

  alone_is : is_grown_alone (space_of.h m nodes owners listings spot.listing.object cut.0 is.growth (plan_in is.placed.placing) is.placed.dir (wanted.grown m nodes owners dir x (last_name path) w s is).0 to) (Some is.growth) ≡ alone
  alone_is = space_of.alone_as m nodes owners listings l.object stay is.growth plan is.placed.dir p to

  -- what goes back was used
  pub back_unused : (k : ℕ) → is_used m k ≡ false → is_one_of (wanted.back m nodes owners dir x (last_name path) w s is) k ≡ false
  back_unused k free = by is.placed.dir refl alone refl
    where
      by : (d : Option Plan) → is.placed.dir ≡ d → (a : Bool) → alone ≡ a → is_one_of back k ≡ false
      by None same a e = ap (λ (ids : List ℕ). is_one_of ids k) (wanted.none_there m nodes owners dir x (last_name path) w s is same)
      by (Some q) same true e = ap (λ (ids : List ℕ). is_one_of ids k) (wanted.none_alone m nodes owners dir x (last_name path) w s is (alone_is ∙ e))
      by (Some q) same false e =
          ap (λ (ids : List ℕ). is_one_of ids k) (wanted.left_then m nodes owners dir x (last_name path) w s is q same (alone_is ∙ e))
          ∙ leaves_used owners is.growth.node None m nodes listings k agreed.is_map sound agreed.owned free

  pub left : (q : Plan) → is.placed.dir ≡ Some q → alone ≡ false → back ≡ option_to_list (left_among owners is.growth.node None)
  left q same e = wanted.left_then m nodes owners dir x (last_name path) w s is q same (alone_is ∙ e)

  pub lost : is.placed.dir ≡ None → back ≡ []
  lost same = wanted.none_there m nodes owners dir x (last_name path) w s is same

  pub was_alone : alone ≡ true → back ≡ []
  was_alone e = wanted.none_alone m nodes owners dir x (last_name path) w s is (alone_is ∙ e)

  pub fit : PlansFit m (plan_in is.placed.placing) is.placed.dir alone back
  fit = back_of.plans_fit m nodes owners listings l.object stay is.growth plan is.placed.dir p to back back_unused (λ e q same. was_alone e)

  pub takes : IsStep m (plans_of (plan_in is.placed.placing) is.placed.dir) (gone_at_once is.placed.dir alone) (kept_parts is.placed.dir alone)
      (root_of (Some (wanted.grown m nodes owners dir x (last_name path) w s is).0)) s.take
  takes =
      subst (λ (a : Bool). IsStep m (plans_of plan is.placed.dir) (gone_at_once is.placed.dir a) (kept_parts is.placed.dir a) (root_of (Some p)) s.take) alone_is
      (wanted.takes m nodes owners dir x (last_name path) w s is)

  -- What the map is after both.
  pub stepped : (mid m' : Map) → HasStepped m mid s.take → HasStepped mid m' s.give
      → IsGrownStepped m m' (plan_in is.placed.placing) is.placed.dir alone (root_of (Some (wanted.grown m nodes owners dir x (last_name path) w s is).0)) back
  stepped mid m' first second =
      both_grown m mid m' plan is.placed.dir alone (root_of (Some p)) back s.take s.give agreed.is_map fit takes (wanted.gives m nodes owners dir x (last_name path) w s is) first second
