-- What comes to a directory that grows by it, in the safe mode: what is known of the job, and what its stages need.
use Rattle.std.proofs.Common.{◌≡◌, ◌<◌, ◌≤◌, ◌+◌, ◌^◌, ap₂, length, min, ◌==◌, ◌||◌, ◌&&◌, ◌%◌, inl, inr, ⊎_elim, ℕ, Bool, true, false, cond, List, [], ◌∷◌, ◌++◌, refl, sym, ap, subst, ◌∙◌, arith, eq-eqb, Option, Some, None}
use Rattle.std.specs.Prelude.{nat_le, nat_lt, sum_by}
use Rattle.std.specs.Int.{is_in_range, next_multiple_of}
use Rattle.std.specs.Option.{option_map_or, option_to_list}
use Rattle.std.proofs.lemmas.Bool.{and_parts, cases_lt, eqb-true, le-leb, leb-true, lt-ltb, ltb-true}
use Rattle.fc_alloc.specs.declared.owner.Owner.{Owner}
use Rattle.fc_names.specs.Names.{Path}
use Rattle.fc_names.specs.declared.name.NameForm.{NameForm}
use Rattle.fc_names.specs.declared.name.NameForm.TheVariants as forms
use Rattle.fc_record.specs.declared.Kind.{Kind}
use Rattle.fc_newmap.specs.Map.{Map}
use Rattle.fc_model.specs.Command.{Command}
use Rattle.fc_model.specs.Tree.{last_name}
use Rattle.fc_bytes.specs.Checks.{is_big_size}
use Rattle.fc_dirs.specs.Big.{head_space_of, name_space, needed_size, size_for}
use Rattle.fc_dirs.specs.Directory.{Directory}
use Rattle.fc_drafts.specs.Draft.{names_of}
use Rattle.fc_drafts.specs.Gains.{GetsName, HasRoom}
use Rattle.fc_drafts.specs.declared.room.Room.TheVariants as rooms
use Rattle.fc_image.specs.Layout.{Layout, dir_form, id_of}
use Rattle.fc_image.specs.Opening.{Opened}
use Rattle.fc_image.specs.Sound.{AreSound}
use Rattle.fc_image.specs.Walk.{Listing, Object}
use Rattle.fc_image.specs.effects.Short.{Gain, Growth as Grown, growth_with, is_full_with, new_dir_size}
use Rattle.fc_changes.proofs.BasicLemmas.{clash}
use Rattle.fc_plan.specs.Giving.{is_one_of}
use Rattle.fc_changes.proofs.StepsLemmas.{any_append}
use Rattle.fc_tree.specs.declared.node.Node.{Node}
use Rattle.fc_tree.specs.Agree.{IsDirectory}
use Rattle.fc_tree.specs.Nodes.{number_of}
use Rattle.fc_tree.specs.Parts.{ArePartsOf, Parts, owner_of}
use Rattle.fc_tree.proofs.WalkedLemmas.{same_some}
use Rattle.fc_laws.specs.nodes.Edits.{Nodes}
use Rattle.fc_laws.specs.agree.Agreed.{AgreeOn, parts_with}
use Rattle.fc_laws.proofs.lemmas.agree.BeforeLemmas.{agreed_law}
use Rattle.fc_refusals.specs.Targets.{IsVacant}
use Rattle.fc_change.specs.declared.job.Growth.{Growth}
use Rattle.fc_change.specs.declared.job.Job.{Job}
use Rattle.fc_change.specs.declared.job.Wants.{Wants}
use Rattle.fc_change.specs.Jobs.{IsJob}
use Rattle.fc_change.specs.Needs.{AreWants, HasRoomFor, IsGrowthOf, SaysAt, room_of}
use Rattle.fc_commands.proofs.ArrivalLemmas.{Arrival, IsShort, bytes_of, job_of}
use Rattle.fc_commands.proofs.GrownWantLemmas.{IsItsWant, its_want}
use Rattle.fc_commands.proofs.HolderLemmas.{says_at}
use Rattle.fc_commands.proofs.NodeLemmas as its
use Rattle.fc_safe.specs.Changed.{above_grown, named_in, renamed_in, within_moved}
use Rattle.fc_safe.specs.FirstNeeds.{leaving_of, moving_out, node_of, stir_of}
use Rattle.fc_safe.proofs.PlannedLemmas.{grows_out}
use Rattle.fc_safe.specs.FirstSpace.{CanGrowFirst, CanPlaceFirst}
use Rattle.fc_safe.specs.Suits.{Suits}
use Rattle.fc_safe.specs.Views.{IsPlain, IsViewOf}
use Rattle.fc_safecommands.proofs.lemmas.ListedLemmas.{changed_listed}
use Rattle.fc_safecommands.proofs.GrownStirLemmas.{GrowingJob, changed_object, long, placed_owner, short}
use Rattle.fc_safecommands.proofs.lemmas.ArrivalLemmas.{named_list as named_dir}

-- ---- sizes

-- A big directory grows to the size of a big one.
pub grown_big : (content : Directory) (gain : Gain) (o : Object) (size : ℕ) → IsDirectory content → is_full_with content gain ≡ false → growth_with o content gain ≡ Some (o, size) → is_big_size size ≡ true
grown_big (Directory.Small dir) gain o size is fits grows = absurd (cc)
grown_big (Directory.Big dir) gain o size is fits grows = by (nat_lt dir.size needed) refl grows
  where
    loose : ℕ
    loose = size_for (head_space_of dir) (length gain.names) (length dir.heap + name_space gain.name)

    tight : ℕ
    tight = size_for (head_space_of dir) (length gain.names) (sum_by name_space gain.names)

    needed : ℕ
    needed = needed_size dir gain.names gain.name

    whole : (bytes : ℕ) → next_multiple_of bytes 2048 % 2048 ≡ 0
    whole bytes = omega arith

    lesser : (a b : ℕ) → a % 2048 ≡ 0 → b % 2048 ≡ 0 → min a b % 2048 ≡ 0
    lesser a b even_a even_b = omega (arith, even_a, even_b)

    even : needed % 2048 ≡ 0
    even = lesser loose tight (whole _) (whole _)

    most : needed ≤ 4194304
    most = elim (cases_lt 4194304 needed) [
      | inl more ↦ absurd (clash (nat_lt 4194304 needed) (lt-ltb 4194304 needed more) fits)
      | inr less ↦ less
    ]

    big : (n : ℕ) → 2048 ≤ n → n ≤ 4194304 → n % 2048 ≡ 0 → is_big_size n ≡ true
    big n low high all = ap₂ (λ (p q : Bool). p && q) (ap₂ (λ (p q : Bool). p && q) (le-leb 2048 n low) (le-leb n 4194304 high)) (eq-eqb (n % 2048) 0 all)

    by : (b : Bool) → nat_lt dir.size needed ≡ b → (let q : Option Grown = cond b (Some (o, needed)) None in q) ≡ Some (o, size) → is_big_size size ≡ true
    by true less same =
        let range = and_parts (nat_le 2048 dir.size) (nat_le dir.size 4194304) (and_parts (is_in_range 2048 4194304 dir.size) (dir.size % 2048 == 0) is.size).0 in
        let low = leb-true 2048 dir.size range.0 in
        let more = ltb-true dir.size needed less in
        let is_size : needed ≡ size = ap (λ (q : Option Grown). option_map_or (λ (g : Grown). g.1) q 0) same in
        subst (λ (n : ℕ). is_big_size n ≡ true) is_size (big needed (omega (arith, low, more)) most even)
    by false less same = absurd (cc)

dir_few : (form : NameForm) → new_dir_size form < 2 ^ 32
dir_few forms.Seven = omega arith
dir_few forms.Ten = omega arith
dir_few forms.Long = omega arith

pub few_of : (form : NameForm) (x : Arrival) → IsShort x → bytes_of form x < 2 ^ 32
few_of form Arrival.Makes short = dir_few form
few_of form (Arrival.Saves words) short = short

pub makes : (dir : ℕ) (x : Arrival) → IsPlain (job_of dir x) → ⊥
makes dir Arrival.Makes plain = plain
makes dir (Arrival.Saves words) plain = plain

-- ---- what is known of the job

-- The job is the command's, by parts that agree and suit, and its directory grows by whatever it wants.
pub record GrownArrival : Type 0 where
  pub kind : Kind
  pub m : Map
  pub nodes : Nodes
  pub owners : List Owner
  pub root : Node
  pub listings : List Listing
  pub agreed : AgreeOn kind m nodes owners root listings
  pub parts : ArePartsOf (parts_with m nodes owners) (record { kind = kind; layout = Layout.New m; listings = listings })
  pub suits : Suits (Layout.New m) nodes
  pub dir : ℕ
  pub x : Arrival
  pub path : Path
  pub command : Command
  pub job_is : IsJob nodes listings command (job_of dir x) (last_name path)
  pub spot : IsVacant nodes listings path dir
  pub short : IsShort x
  pub wants : Wants
  pub are : AreWants (parts_with m nodes owners) (job_of dir x) (last_name path) wants
  pub growth : Growth
  pub grows : wants.grows ≡ Some growth

module _ (a : GrownArrival) where
  abbrev pub h : Parts
  h = parts_with a.m a.nodes a.owners

  abbrev pub job : Job
  job = job_of a.dir a.x

  abbrev v : Opened
  v = record { kind = a.kind; layout = Layout.New a.m; listings = a.listings }

  pub sound : AreSound (Layout.New a.m) a.listings
  sound = agreed_law.sound a.kind a.m a.nodes a.owners a.root a.listings a.agreed

  pub view : IsViewOf a.m h v
  view = record { is_map = a.agreed.is_map; layout = refl; sound = sound; parts = a.parts }

  pub want : IsItsWant (parts_with a.m a.nodes a.owners) a.dir a.x (last_name a.path) a.wants
  want = its_want h a.dir a.x (last_name a.path) a.wants a.are

  pub node_is : a.growth.node ≡ a.dir
  node_is = subst (IsGrowthOf a.dir) a.grows want.grown

  room : HasRoomFor a.nodes a.dir (last_name a.path) (rooms.Grows a.growth.len)
  room = subst (λ (g : Option Growth). HasRoomFor a.nodes a.dir (last_name a.path) (room_of g)) a.grows want.room

  says : SaysAt a.nodes a.dir a.spot.listing.content
  says = says_at (Layout.New a.m) a.nodes a.listings sound a.agreed.walked.held a.spot.listing a.spot.listed a.dir a.spot.holder_is

  -- the directory has this room
  pub has_room : (gain : Gain) → GetsName a.spot.listing.content (last_name a.path) gain → HasRoom a.spot.listing.content gain (rooms.Grows a.growth.len)
  has_room gain gets = room a.spot.listing.content gain says gets

  pub big : is_big_size a.growth.len ≡ true
  big =
      let gain : Gain = record { listing = a.spot.listing; name = last_name a.path; names = names_of a.spot.listing.content ++ last_name a.path ∷ [] } in
      let has = has_room gain (record { name_is = refl; names_are = refl }) in
      grown_big a.spot.listing.content gain a.spot.listing.object a.growth.len (a.agreed.walked.bodies a.spot.listing a.spot.listed) has.0 (has.1 a.spot.listing.object)

  pub number : number_of a.nodes a.spot.listing.object.path ≡ Some a.growth.node
  number = a.spot.holder_is ∙ ap (λ (n : ℕ). let q : Option ℕ = Some n in q) (sym node_is)

  pub form : dir_form (Layout.New a.m) ≡ forms.Long
  form = ap (λ (b : Bool). let f : NameForm = cond b forms.Ten forms.Long in f) a.suits.0

  -- ---- the directory that grows

  pub named : is_one_of (named_in (job_of a.dir a.x)) a.growth.node ≡ true
  named = ap (λ (ns : List ℕ). is_one_of ns a.growth.node) (named_dir a.dir a.x) ∙ ap (λ (b : Bool). b || false) (eq-eqb a.dir a.growth.node (sym node_is))

  pub is_changed : is_one_of (stir_of a.m (parts_with a.m a.nodes a.owners) (job_of a.dir a.x) a.wants).changed a.growth.node ≡ true
  is_changed =
      let rest : List ℕ = renamed_in a.nodes job ++ (above_grown a.nodes a.wants.grows ++ within_moved a.nodes (moving_out a.m h a.wants.grows)) in
      any_append (λ (k : ℕ). k == a.growth.node) (named_in job) rest ∙ ap (λ (b : Bool). b || is_one_of rest a.growth.node) named

  no_leaving : leaving_of a.wants None ≡ []
  no_leaving = (λ i. option_to_list (want.left i) ++ (option_to_list (want.copy i) ++ []))

  -- Nothing leaves its identifier but the one that grows, if it gets another.
  pub leaving_is : (n : ℕ) → is_one_of (stir_of a.m (parts_with a.m a.nodes a.owners) (job_of a.dir a.x) a.wants).leaving n ≡ is_one_of (node_of (moving_out a.m (parts_with a.m a.nodes a.owners) (Some a.growth))) n
  leaving_is n =
      (λ i. is_one_of (option_to_list (want.left i) ++ (option_to_list (want.copy i) ++ node_of (moving_out a.m h (a.grows i)))) n)

  pub leaves_one : (n : ℕ) → is_one_of (node_of (moving_out a.m h (Some a.growth))) n ≡ true → n ≡ a.growth.node
  leaves_one n e = by (moving_out a.m h (Some a.growth)) refl e
    where
      by : (o : Option Growth) → moving_out a.m h (Some a.growth) ≡ o → is_one_of (node_of o) n ≡ true → n ≡ a.growth.node
      by None f g = absurd (cc)
      by (Some k) f g =
          let same : a.growth ≡ k = same_some a.growth k (grows_out a.m h (Some a.growth) k f) in
          sym (ap (λ (j : Growth). j.node) same ∙ one k.node g)
        where
          one : (j : ℕ) → is_one_of (j ∷ []) n ≡ true → j ≡ n
          one j t = from (j == n) refl t
            where
              from : (b : Bool) → (j == n) ≡ b → (b || false) ≡ true → j ≡ n
              from true u w = eqb-true j n u
              from false u w = absurd (cc)

  -- as a job by which a directory grows
  abbrev pub growing : GrowingJob
  growing = record {
    kind = a.kind;
    m = a.m;
    nodes = a.nodes;
    owners = a.owners;
    root = a.root;
    listings = a.listings;
    agreed = a.agreed;
    parts = a.parts;
    suits = a.suits;
    job = job_of a.dir a.x;
    wants = a.wants;
    few = subst (λ (n : ℕ). n < 2 ^ 32) (sym want.bytes) (few_of (dir_form (Layout.New a.m)) a.x a.short);
    growth = a.growth;
    grows = a.grows;
    big = big;
    grower = is_changed;
    stay = λ n e f. leaves_one n (sym (leaving_is n) ∙ f);
    keeps = λ e. leaving_is a.growth.node ∙ ap (λ (o : Option Growth). is_one_of (node_of o) a.growth.node) e;
    both = λ n f. inr (leaves_one n (sym (leaving_is n) ∙ f));
    told = λ n e. (let l = changed_listed a.m h v view a.command (last_name a.path) n job a.wants (makes a.dir a.x) a.job_is a.are e in (l.listing, l.listed, l.number));
  }

  pub can_place : CanPlaceFirst a.m (parts_with a.m a.nodes a.owners) (job_of a.dir a.x) a.wants
  can_place = record {
    few = growing.few;
    grows = λ g e. subst (CanGrowFirst h job a.wants) (same_some a.growth g (sym a.grows ∙ e)) of_growth;
    copied = λ n some. absurd (let none = sym want.copy ∙ some in cc);
    placed = placed_owner growing;
  }
    where
      of_growth : CanGrowFirst h job a.wants a.growth
      of_growth =
          let d = changed_object growing a.growth.node is_changed in
          record {
            some = (let low = long growing in omega (arith, low));
            few = short growing;
            own = owner_of a.nodes (Layout.New a.m) d.0.object;
            among = d.2.own_in;
            node = d.2.own_node;
            id = sym (ap (λ (n : Option Node). id_of (option_map_or (λ (k : Node). k.entry.address) n 0)) (its.there a.nodes (Layout.New a.m) a.listings sound a.agreed.walked.held d.0 d.1 a.growth.node d.2.number));
            named = named;
            stays = ap (λ (ns : List ℕ). is_one_of ns a.growth.node) no_leaving;
          }
