-- `rename` by which a directory grows and nothing is copied, in the safe mode: what is known of it, its job, and what its place needs.
use Rattle.std.proofs.Common.{◌≡◌, ◌<◌, ◌^◌, ◌==◌, ◌||◌, inl, inr, ℕ, Bool, true, false, cond, not, filter, List, [], ◌∷◌, ◌++◌, refl, sym, ap, subst, ◌∙◌, arith, eq-eqb, Option, Some, None}
use Rattle.std.specs.Option.{option_map_or, option_to_list}
use Rattle.std.proofs.lemmas.Bool.{cases_eq, eqb-true}
use Rattle.fc_names.specs.Names.{Path, is_same_name}
use Rattle.fc_names.specs.declared.name.NameForm.{NameForm}
use Rattle.fc_names.specs.declared.name.NameForm.TheVariants as forms
use Rattle.fc_alloc.specs.declared.owner.Owner.{Owner}
use Rattle.fc_record.specs.declared.Kind.{Kind}
use Rattle.fc_newmap.specs.Map.{Map}
use Rattle.fc_model.specs.Command.{Command}
use Rattle.fc_bytes.specs.Checks.{is_big_size}
use Rattle.fc_drafts.specs.Draft.{names_of}
use Rattle.fc_drafts.specs.Gains.{HasRoom}
use Rattle.fc_drafts.specs.declared.room.Room.TheVariants as rooms
use Rattle.fc_image.specs.Layout.{Layout, dir_form, id_of}
use Rattle.fc_image.specs.Opening.{Opened}
use Rattle.fc_image.specs.Walk.{Listing, Object}
use Rattle.fc_image.specs.effects.Short.{Gain}
use Rattle.fc_plan.specs.Giving.{is_one_of}
use Rattle.fc_changes.proofs.StepsLemmas.{any_append}
use Rattle.fc_tree.specs.declared.node.Node.{Node}
use Rattle.fc_tree.specs.Nodes.{number_of}
use Rattle.fc_tree.specs.Parts.{ArePartsOf, Parts, owner_of}
use Rattle.fc_tree.proofs.WalkedLemmas.{same_some}
use Rattle.fc_laws.specs.nodes.Edits.{Nodes}
use Rattle.fc_laws.specs.agree.Agreed.{AgreeOn, parts_with}
use Rattle.fc_refusals.specs.declared.target.Renaming.{Renaming}
use Rattle.fc_change.specs.declared.job.Growth.{Growth}
use Rattle.fc_change.specs.declared.job.Job.{Job}
use Rattle.fc_change.specs.declared.job.Job.TheVariants as jobs
use Rattle.fc_change.specs.declared.job.Wants.{Wants}
use Rattle.fc_change.specs.Jobs.{IsJob}
use Rattle.fc_change.specs.Needs.{AreWants, HasRoomOf, IsGrowthOf, is_copied, len_at, room_of}
use Rattle.fc_commands.proofs.MoveLemmas.{IsSeen}
use Rattle.fc_commands.proofs.MoveShortLemmas as short_of
use Rattle.fc_commands.proofs.NodeLemmas as its
use Rattle.fc_safe.specs.Changed.{above_grown, named_in, renamed_in, within_moved}
use Rattle.fc_safe.specs.FirstNeeds.{leaving_of, moving_out, node_of, stir_of}
use Rattle.fc_safe.specs.FirstSpace.{CanGrowFirst, CanPlaceFirst}
use Rattle.fc_safe.specs.Suits.{Suits}
use Rattle.fc_safe.specs.Views.{IsPlain, IsViewOf}
use Rattle.fc_safe.proofs.PlannedLemmas.{grows_out}
use Rattle.fc_safecommands.proofs.lemmas.ListedLemmas.{changed_listed}
use Rattle.fc_safecommands.proofs.GrownArrivalLemmas.{grown_big}
use Rattle.fc_safecommands.proofs.GrownStirLemmas.{GrowingJob, changed_object, long, placed_owner, short}

-- What leaves its identifier for another is only the directory that grows.
pub leaves_only : (m : Map) (h : Parts) (g : Growth) (n : ℕ) → is_one_of (node_of (moving_out m h (Some g))) n ≡ true → n ≡ g.node
leaves_only m h g n e = by (moving_out m h (Some g)) refl e
  where
    one : (j : ℕ) (b : Bool) → (j == n) ≡ b → (b || false) ≡ true → j ≡ n
    one j true u w = eqb-true j n u
    one j false u w = absurd (cc)

    by : (o : Option Growth) → moving_out m h (Some g) ≡ o → is_one_of (node_of o) n ≡ true → n ≡ g.node
    by None f t = absurd (cc)
    by (Some k) f t = sym (ap (λ (j : Growth). j.node) (same_some g k (grows_out m h (Some g) k f)) ∙ one k.node (k.node == n) refl t)

-- ---- what is known of the job

-- The job is the command's, by parts that agree and suit, and by whatever it wants the directory that gets the name grows.
pub record GrownMove : Type 0 where
  pub kind : Kind
  pub m : Map
  pub nodes : Nodes
  pub owners : List Owner
  pub root : Node
  pub listings : List Listing
  pub agreed : AgreeOn kind m nodes owners root listings
  pub parts : ArePartsOf (parts_with m nodes owners) (record { kind = kind; layout = Layout.New m; listings = listings })
  pub suits : Suits (Layout.New m) nodes
  pub from : Path
  pub to : Path
  pub r : Renaming
  pub name : List ℕ
  pub command : Command
  pub job_is : IsJob nodes listings command (jobs.Move r) name
  pub seen : IsSeen (Layout.New m) nodes listings from to r name
  pub plain : is_copied (parts_with m nodes owners) r ≡ false
  pub wants : Wants
  pub are : AreWants (parts_with m nodes owners) (jobs.Move r) name wants
  pub growth : Growth
  pub grows : wants.grows ≡ Some growth

module _ (a : GrownMove) where
  abbrev pub h : Parts
  h = parts_with a.m a.nodes a.owners

  abbrev pub job : Job
  job = jobs.Move a.r

  abbrev v : Opened
  v = record { kind = a.kind; layout = Layout.New a.m; listings = a.listings }

  pub view : IsViewOf a.m h v
  view = record { is_map = a.agreed.is_map; layout = refl; sound = a.seen.sound; parts = a.parts }

  -- ---- what it wants

  pub node_is : a.growth.node ≡ a.r.holder
  node_is = subst (IsGrowthOf a.r.holder) a.grows a.are.grown

  pub room : HasRoomOf a.nodes (jobs.Move a.r) a.name (rooms.Grows a.growth.len)
  room = subst (λ (g : Option Growth). HasRoomOf a.nodes (jobs.Move a.r) a.name (room_of g)) a.grows a.are.room

  pub no_bytes : a.wants.bytes ≡ 0
  no_bytes = a.are.bytes ∙ ap (λ (b : Bool). cond b (len_at a.nodes a.r.target.node) 0) a.plain

  pub no_copy : a.wants.copied ≡ None
  no_copy = a.are.copy ∙ ap (λ (b : Bool). let o : Option ℕ = cond b (Some a.r.target.node) None in o) a.plain

  pub no_leaving : leaving_of a.wants None ≡ []
  no_leaving = (λ i. option_to_list (a.are.left i) ++ (option_to_list (no_copy i) ++ []))

  -- Nothing leaves its identifier but the one that grows, if it gets another.
  pub leaving_is : (n : ℕ) → is_one_of (stir_of a.m (parts_with a.m a.nodes a.owners) (jobs.Move a.r) a.wants).leaving n ≡ is_one_of (node_of (moving_out a.m (parts_with a.m a.nodes a.owners) (Some a.growth))) n
  leaving_is n = (λ i. is_one_of (option_to_list (a.are.left i) ++ (option_to_list (no_copy i) ++ node_of (moving_out a.m h (a.grows i)))) n)

  pub leaves_one : (n : ℕ) → is_one_of (stir_of a.m (parts_with a.m a.nodes a.owners) (jobs.Move a.r) a.wants).leaving n ≡ true → n ≡ a.growth.node
  leaves_one n e = leaves_only a.m h a.growth n (sym (leaving_is n) ∙ e)

  -- ---- the directory that grows

  abbrev k : Listing
  k = a.seen.known.target.listing

  abbrev l : Listing
  l = a.seen.known.destination.listing

  abbrev it : Object
  it = a.seen.known.target.object

  big_with : (gain : Gain) → HasRoom a.seen.known.destination.listing.content gain (rooms.Grows a.growth.len) → is_big_size a.growth.len ≡ true
  big_with gain has = grown_big l.content gain l.object a.growth.len (a.seen.bodies l a.seen.known.destination.listed) has.0 (has.1 l.object)

  pub big : is_big_size a.growth.len ≡ true
  big = elim (cases_eq a.r.holder a.r.target.holder) [
    | inl here ↦ (
        let one = (a.seen.known.within here).0 in
        let differs : it.entry.name ≡ a.name → ⊥ =
        λ same. (let fits = short_of.never_kept (Layout.New a.m) a.nodes a.listings a.seen.sound a.seen.held a.from a.to a.r a.seen.known a.name (rooms.Grows a.growth.len) here room same in cc) in
        let gain : Gain = record { listing = k; name = a.name; names = filter (λ (n : List ℕ). not (is_same_name n it.entry.name)) (names_of k.content) ++ a.name ∷ [] } in
        let has =
        short_of.room_within (Layout.New a.m) a.nodes a.listings a.seen.sound a.seen.held a.from a.to a.r a.seen.known a.name (rooms.Grows a.growth.len) here room gain differs (record { name_is = refl; names_are = refl }) in
        big_with gain (subst (λ (d : Listing). HasRoom d.content gain (rooms.Grows a.growth.len)) (sym one) has))
    | inr away ↦ (
        let gain : Gain = record { listing = l; name = a.name; names = names_of l.content ++ a.name ∷ [] } in
        big_with gain (short_of.room_across (Layout.New a.m) a.nodes a.listings a.seen.sound a.seen.held a.from a.to a.r a.seen.known a.name (rooms.Grows a.growth.len) away room gain (record { name_is = refl; names_are = refl })))
  ]

  pub number : number_of a.nodes a.seen.known.destination.listing.object.path ≡ Some a.growth.node
  number = a.seen.known.destination.holder_is ∙ ap (λ (n : ℕ). let q : Option ℕ = Some n in q) (sym node_is)

  pub form : dir_form (Layout.New a.m) ≡ forms.Long
  form = ap (λ (b : Bool). let f : NameForm = cond b forms.Ten forms.Long in f) a.suits.0

  pub named : is_one_of (named_in (jobs.Move a.r)) a.growth.node ≡ true
  named = ap (λ (b : Bool). b || ((a.r.target.holder == a.growth.node) || false)) (eq-eqb a.r.holder a.growth.node (sym node_is))

  pub is_changed : is_one_of (stir_of a.m (parts_with a.m a.nodes a.owners) (jobs.Move a.r) a.wants).changed a.growth.node ≡ true
  is_changed =
      let rest : List ℕ = renamed_in a.nodes job ++ (above_grown a.nodes a.wants.grows ++ within_moved a.nodes (moving_out a.m h a.wants.grows)) in
      any_append (λ (n : ℕ). n == a.growth.node) (named_in job) rest ∙ ap (λ (b : Bool). b || is_one_of rest a.growth.node) named

  -- ---- as a job by which a directory grows

  pub makes : IsPlain (jobs.Move a.r) → ⊥
  makes plain = plain

  abbrev pub growing : GrowingJob
  growing = record {
    kind = a.kind;
    m = a.m;
    nodes = a.nodes;
    owners = a.owners;
    root = a.root;
    listings = a.listings;
    agreed = a.agreed;
    parts = a.parts;
    suits = a.suits;
    job = jobs.Move a.r;
    wants = a.wants;
    few = subst (λ (n : ℕ). n < 2 ^ 32) (sym no_bytes) (omega arith);
    growth = a.growth;
    grows = a.grows;
    big = big;
    grower = is_changed;
    stay = λ n e f. leaves_one n f;
    keeps = λ e. leaving_is a.growth.node ∙ ap (λ (o : Option Growth). is_one_of (node_of o) a.growth.node) e;
    both = λ n f. inr (leaves_one n f);
    told = λ n e. (let q = changed_listed a.m h v view a.command a.name n job a.wants makes a.job_is a.are e in (q.listing, q.listed, q.number));
  }

  pub can_place : CanPlaceFirst a.m (parts_with a.m a.nodes a.owners) (jobs.Move a.r) a.wants
  can_place = record {
    few = growing.few;
    grows = λ g e. subst (CanGrowFirst h job a.wants) (same_some a.growth g (sym a.grows ∙ e)) of_growth;
    copied = λ n some. absurd (let none = sym no_copy ∙ some in cc);
    placed = placed_owner growing;
  }
    where
      of_growth : CanGrowFirst h job a.wants a.growth
      of_growth =
          let d = changed_object growing a.growth.node is_changed in
          record {
            some = (let low = long growing in omega (arith, low));
            few = short growing;
            own = owner_of a.nodes (Layout.New a.m) d.0.object;
            among = d.2.own_in;
            node = d.2.own_node;
            id = sym (ap (λ (n : Option Node). id_of (option_map_or (λ (q : Node). q.entry.address) n 0)) (its.there a.nodes (Layout.New a.m) a.listings a.seen.sound a.agreed.walked.held d.0 d.1 a.growth.node d.2.number));
            named = named;
            stays = ap (λ (ns : List ℕ). is_one_of ns a.growth.node) no_leaving;
          }
