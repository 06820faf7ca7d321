-- `rename` that copies its file into a directory that grows, in the safe mode: what is known of it, its job, and what its place needs.
use Rattle.std.proofs.Common.{◌≡◌, ◌<◌, ◌^◌, ◌==◌, ◌||◌, ◌⊎◌, inl, inr, ℕ, Bool, true, false, cond, not, filter, List, [], ◌∷◌, ◌++◌, refl, sym, ap, ap₂, subst, ◌∙◌, arith, eq-eqb, Option, Some, None}
use Rattle.std.specs.Prelude.{Contains}
use Rattle.std.specs.Option.{option_map_or, option_to_list}
use Rattle.std.proofs.lemmas.Bool.{eqb-true, ne_eqb, or_cases}
use Rattle.fc_names.specs.Names.{Path, is_same_name}
use Rattle.fc_names.specs.declared.name.NameForm.{NameForm}
use Rattle.fc_names.specs.declared.name.NameForm.TheVariants as forms
use Rattle.fc_alloc.specs.declared.owner.Owner.{Owner}
use Rattle.fc_record.specs.declared.Kind.{Kind}
use Rattle.fc_newmap.specs.Map.{Map}
use Rattle.fc_model.specs.Command.{Command}
use Rattle.fc_bytes.specs.Checks.{is_big_size}
use Rattle.fc_drafts.specs.Draft.{names_of}
use Rattle.fc_drafts.specs.Gains.{HasRoom}
use Rattle.fc_drafts.specs.declared.room.Room.TheVariants as rooms
use Rattle.fc_image.specs.Layout.{Layout, dir_form, id_of}
use Rattle.fc_image.specs.Opening.{Opened}
use Rattle.fc_image.specs.Sound.{AreSound}
use Rattle.fc_image.specs.Walk.{Listing, Object, is_directory_object}
use Rattle.fc_image.specs.effects.Short.{Gain}
use Rattle.fc_plan.specs.Giving.{is_one_of}
use Rattle.fc_changes.proofs.StepsLemmas.{any_append}
use Rattle.fc_tree.specs.declared.node.Node.{Node}
use Rattle.fc_tree.specs.Nodes.{number_of}
use Rattle.fc_tree.specs.Parts.{ArePartsOf, Parts, owner_of}
use Rattle.fc_tree.proofs.WalkedLemmas.{listed_directory, same_some}
use Rattle.fc_laws.specs.nodes.Edits.{Nodes}
use Rattle.fc_laws.specs.agree.Agreed.{AgreeOn, parts_with}
use Rattle.fc_refusals.specs.declared.target.Renaming.{Renaming}
use Rattle.fc_change.specs.declared.job.Growth.{Growth}
use Rattle.fc_change.specs.declared.job.Job.{Job}
use Rattle.fc_change.specs.declared.job.Job.TheVariants as jobs
use Rattle.fc_change.specs.declared.job.Wants.{Wants}
use Rattle.fc_change.specs.Jobs.{IsJob}
use Rattle.fc_change.specs.Needs.{AreWants, HasRoomOf, IsGrowthOf, is_copied, len_at, room_of}
use Rattle.fc_commands.proofs.MoveLemmas.{IsSeen}
use Rattle.fc_commands.proofs.MoveLemmas as seen_of
use Rattle.fc_commands.proofs.MoveStageLemmas.{own_place}
use Rattle.fc_commands.proofs.CopyingFileLemmas.{IsCopiedFile, copied_file}
use Rattle.fc_image.proofs.PathsLemmas.{itself}
use Rattle.fc_changes.proofs.BasicLemmas.{clash}
use Rattle.fc_tree.proofs.SoundLemmas.{same_object}
use Rattle.fc_change.specs.Prepared.{HasPlace}
use Rattle.fc_safecommands.proofs.GrownMoveJobLemmas.{leaves_only}
use Rattle.fc_commands.proofs.MoveShortLemmas as short_of
use Rattle.fc_commands.proofs.NodeLemmas as its
use Rattle.fc_safe.specs.Changed.{above_grown, named_in, renamed_in, within_moved}
use Rattle.fc_safe.specs.FirstNeeds.{leaving_of, moving_out, node_of, stir_of}
use Rattle.fc_safe.specs.FirstSpace.{CanGrowFirst, CanPlaceFirst}
use Rattle.fc_safe.specs.Suits.{Suits}
use Rattle.fc_safe.specs.Views.{IsPlain, IsViewOf}
use Rattle.fc_safe.proofs.PlannedLemmas.{grows_out}
use Rattle.fc_safecommands.proofs.lemmas.ListedLemmas.{changed_listed}
use Rattle.fc_safecommands.proofs.GrownArrivalLemmas.{grown_big}
use Rattle.fc_safecommands.proofs.GrownStirLemmas.{GrowingJob, changed_object, long, placed_owner, short}

-- ---- what is known of the job

-- The job is the command's, by parts that agree and suit, and by whatever it wants the directory that gets the name grows.
pub record GrownCopy : Type 0 where
  pub kind : Kind
  pub m : Map
  pub nodes : Nodes
  pub owners : List Owner
  pub root : Node
  pub listings : List Listing
  pub agreed : AgreeOn kind m nodes owners root listings
  pub parts : ArePartsOf (parts_with m nodes owners) (record { kind = kind; layout = Layout.New m; listings = listings })
  pub suits : Suits (Layout.New m) nodes
  pub from : Path
  pub to : Path
  pub r : Renaming
  pub name : List ℕ
  pub command : Command
  pub job_is : IsJob nodes listings command (jobs.Move r) name
  pub seen : IsSeen (Layout.New m) nodes listings from to r name
  pub copied : is_copied (parts_with m nodes owners) r ≡ true
  pub few : len_at nodes r.target.node < 2 ^ 32
  pub wants : Wants
  pub are : AreWants (parts_with m nodes owners) (jobs.Move r) name wants
  pub growth : Growth
  pub grows : wants.grows ≡ Some growth

module _ (a : GrownCopy) where
  abbrev pub h : Parts
  h = parts_with a.m a.nodes a.owners

  abbrev pub job : Job
  job = jobs.Move a.r

  abbrev v : Opened
  v = record { kind = a.kind; layout = Layout.New a.m; listings = a.listings }

  pub view : IsViewOf a.m h v
  view = record { is_map = a.agreed.is_map; layout = refl; sound = a.seen.sound; parts = a.parts }

  -- ---- what it wants

  pub node_is : a.growth.node ≡ a.r.holder
  node_is = subst (IsGrowthOf a.r.holder) a.grows a.are.grown

  pub room : HasRoomOf a.nodes (jobs.Move a.r) a.name (rooms.Grows a.growth.len)
  room = subst (λ (g : Option Growth). HasRoomOf a.nodes (jobs.Move a.r) a.name (room_of g)) a.grows a.are.room

  pub file : IsCopiedFile a.m a.nodes a.listings a.from a.to a.r a.seen.known.target.object
  file = copied_file a.m a.nodes a.owners a.listings a.from a.to a.r a.seen.sound a.seen.held a.seen.known a.kind a.agreed.owned a.copied

  pub bytes_at : a.wants.bytes ≡ len_at a.nodes a.r.target.node
  bytes_at = a.are.bytes ∙ ap (λ (b : Bool). cond b (len_at a.nodes a.r.target.node) 0) a.copied

  pub bytes_is : a.wants.bytes ≡ a.seen.known.target.object.entry.len
  bytes_is = bytes_at ∙ file.len

  pub some_bytes : 0 < a.wants.bytes
  some_bytes = subst (λ (n : ℕ). 0 < n) (sym bytes_is) file.some

  pub copy_is : a.wants.copied ≡ Some a.r.target.node
  copy_is = a.are.copy ∙ ap (λ (b : Bool). let o : Option ℕ = cond b (Some a.r.target.node) None in o) a.copied

  pub leaving_copy : leaving_of a.wants None ≡ a.r.target.node ∷ []
  leaving_copy = (λ i. option_to_list (a.are.left i) ++ (option_to_list (copy_is i) ++ []))

  -- The file leaves its identifier, and the directory that grows, if it gets another.
  pub leaving_is : (stir_of a.m (parts_with a.m a.nodes a.owners) (jobs.Move a.r) a.wants).leaving ≡ a.r.target.node ∷ node_of (moving_out a.m (parts_with a.m a.nodes a.owners) (Some a.growth))
  leaving_is = (λ i. option_to_list (a.are.left i) ++ (option_to_list (copy_is i) ++ node_of (moving_out a.m h (a.grows i))))

  pub leaves_two : (n : ℕ) → is_one_of (stir_of a.m (parts_with a.m a.nodes a.owners) (jobs.Move a.r) a.wants).leaving n ≡ true → (n ≡ a.r.target.node) ⊎ (n ≡ a.growth.node)
  leaves_two n e = elim (or_cases (a.r.target.node == n) (is_one_of (node_of (moving_out a.m h (Some a.growth))) n) (sym (ap (λ (ns : List ℕ). is_one_of ns n) leaving_is) ∙ e)) [
    | inl file' ↦ inl (sym (eqb-true a.r.target.node n file'))
    | inr out ↦ inr (leaves_only a.m h a.growth n out)
  ]

  -- ---- the directory that grows

  abbrev k : Listing
  k = a.seen.known.target.listing

  abbrev l : Listing
  l = a.seen.known.destination.listing

  abbrev it : Object
  it = a.seen.known.target.object

  big_with : (gain : Gain) → HasRoom a.seen.known.destination.listing.content gain (rooms.Grows a.growth.len) → is_big_size a.growth.len ≡ true
  big_with gain has = grown_big l.content gain l.object a.growth.len (a.seen.bodies l a.seen.known.destination.listed) has.0 (has.1 l.object)

  pub big : is_big_size a.growth.len ≡ true
  big =
      let gain : Gain = record { listing = l; name = a.name; names = names_of l.content ++ a.name ∷ [] } in
      big_with gain (short_of.room_across (Layout.New a.m) a.nodes a.listings a.seen.sound a.seen.held a.from a.to a.r a.seen.known a.name (rooms.Grows a.growth.len) file.away room gain (record { name_is = refl; names_are = refl }))

  pub number : number_of a.nodes a.seen.known.destination.listing.object.path ≡ Some a.growth.node
  number = a.seen.known.destination.holder_is ∙ ap (λ (n : ℕ). let q : Option ℕ = Some n in q) (sym node_is)

  pub form : dir_form (Layout.New a.m) ≡ forms.Long
  form = ap (λ (b : Bool). let f : NameForm = cond b forms.Ten forms.Long in f) a.suits.0

  pub named : is_one_of (named_in (jobs.Move a.r)) a.growth.node ≡ true
  named = ap (λ (b : Bool). b || ((a.r.target.holder == a.growth.node) || false)) (eq-eqb a.r.holder a.growth.node (sym node_is))

  pub is_changed : is_one_of (stir_of a.m (parts_with a.m a.nodes a.owners) (jobs.Move a.r) a.wants).changed a.growth.node ≡ true
  is_changed =
      let rest : List ℕ = renamed_in a.nodes job ++ (above_grown a.nodes a.wants.grows ++ within_moved a.nodes (moving_out a.m h a.wants.grows)) in
      any_append (λ (n : ℕ). n == a.growth.node) (named_in job) rest ∙ ap (λ (b : Bool). b || is_one_of rest a.growth.node) named

  -- ---- as a job by which a directory grows

  pub makes : IsPlain (jobs.Move a.r) → ⊥
  makes plain = plain

  pub told_there : (n : ℕ) → is_one_of (stir_of a.m (parts_with a.m a.nodes a.owners) (jobs.Move a.r) a.wants).changed n ≡ true → (d : Listing) × Contains a.listings d × (number_of a.nodes d.object.path ≡ Some n)
  told_there n e = let q = changed_listed a.m h v view a.command a.name n job a.wants makes a.job_is a.are e in (q.listing, q.listed, q.number)

  -- A directory that changes isn't the file.
  no_file : is_one_of (stir_of a.m (parts_with a.m a.nodes a.owners) (jobs.Move a.r) a.wants).changed a.r.target.node ≡ true → ⊥
  no_file e =
      let t = told_there a.r.target.node e in
      let dir = listed_directory (Layout.New a.m) a.listings a.seen.sound t.0 t.1 in
      let same : it ≡ t.0.object = same_object (Layout.New a.m) a.listings a.seen.sound it.path it t.0.object (seen_of.among (Layout.New a.m) a.nodes a.listings a.from a.to a.r a.name a.seen) dir.0 (itself it.path)
      (seen_of.alike (Layout.New a.m) a.nodes a.listings a.from a.to a.r a.name a.seen it.path t.0.object.path a.r.target.node a.seen.known.target.node_is t.2) in
      clash (is_directory_object it) (ap is_directory_object same ∙ dir.1) file.file

  pub stays_out : (n : ℕ) → is_one_of (stir_of a.m (parts_with a.m a.nodes a.owners) (jobs.Move a.r) a.wants).changed n ≡ true → is_one_of (stir_of a.m (parts_with a.m a.nodes a.owners) (jobs.Move a.r) a.wants).leaving n ≡ true → n ≡ a.growth.node
  stays_out n e f = elim (leaves_two n f) [
    | inl file' ↦ absurd (no_file (subst (λ (k : ℕ). is_one_of (stir_of a.m h (jobs.Move a.r) a.wants).changed k ≡ true) file' e))
    | inr same ↦ same
  ]

  pub keeps_it : moving_out a.m (parts_with a.m a.nodes a.owners) (Some a.growth) ≡ None → is_one_of (stir_of a.m (parts_with a.m a.nodes a.owners) (jobs.Move a.r) a.wants).leaving a.growth.node ≡ false
  keeps_it e =
      ap (λ (ns : List ℕ). is_one_of ns a.growth.node) (leaving_is ∙ ap (λ (o : Option Growth). a.r.target.node ∷ node_of o) e)
      ∙ ap (λ (b : Bool). b || false) (ne_eqb a.r.target.node a.growth.node (λ same. seen_of.holder_other (Layout.New a.m) a.nodes a.listings a.from a.to a.r a.name a.seen (sym node_is ∙ sym same)))

  pub both_ways : (n : ℕ) → is_one_of (stir_of a.m (parts_with a.m a.nodes a.owners) (jobs.Move a.r) a.wants).leaving n ≡ true → (is_one_of (leaving_of a.wants None) n ≡ true) ⊎ (n ≡ a.growth.node)
  both_ways n e = elim (leaves_two n e) [
    | inl file' ↦ inl (ap (λ (ns : List ℕ). is_one_of ns n) leaving_copy ∙ ap (λ (b : Bool). b || false) (eq-eqb a.r.target.node n (sym file')))
    | inr same ↦ inr same
  ]

  abbrev pub growing : GrowingJob
  growing = record {
    kind = a.kind;
    m = a.m;
    nodes = a.nodes;
    owners = a.owners;
    root = a.root;
    listings = a.listings;
    agreed = a.agreed;
    parts = a.parts;
    suits = a.suits;
    job = jobs.Move a.r;
    wants = a.wants;
    few = subst (λ (n : ℕ). n < 2 ^ 32) (sym bytes_at) a.few;
    growth = a.growth;
    grows = a.grows;
    big = big;
    grower = is_changed;
    stay = stays_out;
    keeps = keeps_it;
    both = both_ways;
    told = told_there;
  }

  pub can_place : CanPlaceFirst a.m (parts_with a.m a.nodes a.owners) (jobs.Move a.r) a.wants
  can_place = record {
    few = growing.few;
    grows = λ g e. subst (CanGrowFirst h job a.wants) (same_some a.growth g (sym a.grows ∙ e)) of_growth;
    copied = λ n is. subst (HasPlace h) (one a.r.target.node n (sym copy_is ∙ is)) (own_place (Layout.New a.m) a.nodes a.listings a.from a.to a.r a.name a.seen h refl refl);
    placed = placed_owner growing;
  }
    where
      one : (i j : ℕ) → (let q : Option ℕ = Some i in q) ≡ Some j → i ≡ j
      one i j e = cc

      of_growth : CanGrowFirst h job a.wants a.growth
      of_growth =
          let d = changed_object growing a.growth.node is_changed in
          record {
            some = (let low = long growing in omega (arith, low));
            few = short growing;
            own = owner_of a.nodes (Layout.New a.m) d.0.object;
            among = d.2.own_in;
            node = d.2.own_node;
            id = sym (ap (λ (n : Option Node). id_of (option_map_or (λ (q : Node). q.entry.address) n 0)) (its.there a.nodes (Layout.New a.m) a.listings a.seen.sound a.agreed.walked.held d.0 d.1 a.growth.node d.2.number));
            named = named;
            stays = ap (λ (ns : List ℕ). is_one_of ns a.growth.node) leaving_copy
                ∙ ap (λ (b : Bool). b || false) (ne_eqb a.r.target.node a.growth.node (λ same. seen_of.holder_other (Layout.New a.m) a.nodes a.listings a.from a.to a.r a.name a.seen (sym node_is ∙ sym same)));
          }
