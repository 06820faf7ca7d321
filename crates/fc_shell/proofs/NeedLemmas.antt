-- What a job wants of the disc, as its command needs it by any view.
use Rattle.std.proofs.Common.{◌≡◌, ◌<◌, ◌||◌, ◌&&◌, inl, inr, ℕ, Bool, true, false, cond, not, List, Option, Some, None, refl, sym, ap, ap₂, subst, ◌∙◌}
use Rattle.std.specs.Prelude.{Contains}
use Rattle.std.specs.Option.{option_and_then, option_map_or}
use Rattle.fc_drafts.specs.declared.room.Room.TheVariants as rooms
use Rattle.fc_names.specs.Names.{Path, is_directory, is_same_path, is_writable}
use Rattle.fc_names.specs.declared.name.NameForm.{NameForm}
use Rattle.fc_names.specs.declared.name.NameForm.TheVariants as forms
use Rattle.fc_dirs.specs.declared.Entry.{Entry}
use Rattle.fc_record.specs.declared.Kind.{Kind}
use Rattle.fc_model.specs.Command.{Command}
use Rattle.fc_model.specs.Tree.{holder, last_name}
use Rattle.fc_image.specs.Layout.{Layout, dir_form}
use Rattle.fc_image.specs.Objects.{objects_of}
use Rattle.fc_image.specs.Opening.{Opened}
use Rattle.fc_image.specs.Sound.{AreSound}
use Rattle.fc_dirs.specs.Directory.{directory_size}
use Rattle.fc_image.specs.Walk.{Object, is_directory_object, object_size}
use Rattle.fc_image.specs.effects.Effect.{copies_file}
use Rattle.fc_image.specs.effects.Short.{Growth as GrownTo, gain_in, gain_of, growth_in, growth_of, is_copied, is_sharing, new_length}
use Rattle.fc_image.proofs.PathsLemmas.{itself}
use Rattle.fc_laws.proofs.lemmas.agree.BeforeLemmas.{agreed_law}
use Rattle.fc_refusals.specs.Slots.{IsRenaming}
use Rattle.fc_refusals.specs.Targets.{IsTarget, IsVacant}
use Rattle.fc_refusals.specs.declared.target.Renaming.{Renaming}
use Rattle.fc_refusals.specs.declared.target.Slot.TheVariants as slots
use Rattle.fc_refusals.specs.declared.target.Target.{Target}
use Rattle.fc_runs.specs.Space.{left_path, may_leave}
use Rattle.fc_placing.proofs.LowLemmas.{or_true}
use Rattle.fc_tree.specs.Agree.{Agree}
use Rattle.fc_tree.specs.Nodes.{number_of}
use Rattle.fc_tree.specs.Parts.{ArePartsOf, AreOwners, Parts}
use Rattle.fc_tree.specs.declared.node.Node.{Node}
use Rattle.fc_tree.proofs.WalkedLemmas.{listed_directory, same_some}
use Rattle.fc_change.specs.Needs.{AreWants, HasRoomFor, HasRoomOf, IsGrowthOf, is_copied as is_copied_job, len_at, room_of}
use Rattle.fc_change.specs.declared.job.FileWords.{FileWords}
use Rattle.fc_change.specs.declared.job.Growth.{Growth}
use Rattle.fc_change.specs.declared.job.Job.{Job}
use Rattle.fc_change.specs.declared.job.Job.TheVariants as jobs
use Rattle.fc_change.specs.declared.job.Wants.{Wants}
use Rattle.fc_commands.specs.Jobs.{IsJobFor}
use Rattle.fc_commands.specs.Run.{IsMapIn}
use Rattle.fc_commands.proofs.ArrivalLemmas.{Arrival, Brings, bytes_of, gain_same, job_of}
use Rattle.fc_commands.proofs.ArrivalShortLemmas.{length_is}
use Rattle.fc_commands.proofs.ArrivalStageLemmas.{arrives}
use Rattle.fc_commands.proofs.EmptySpaceLemmas.{no_growth}
use Rattle.fc_commands.proofs.GrownMoveAskedLemmas.{copied_as, grows_to}
use Rattle.fc_commands.proofs.GrownMoveBigLemmas.{big_by}
use Rattle.fc_commands.proofs.GrownNeedLemmas.{big as big_of}
use Rattle.fc_commands.proofs.GrownWantLemmas.{IsItsWant, its_want}
use Rattle.fc_commands.proofs.HolderLemmas as holder_of
use Rattle.fc_commands.proofs.MoveStageLemmas.{renamer}
use Rattle.fc_commands.proofs.OverStageLemmas.{covers}
use Rattle.fc_commands.proofs.RemovalStageLemmas.{may_go, view_of}
use Rattle.fc_commands.proofs.RewordingLemmas as rewording
use Rattle.fc_commands.proofs.RewordingLemmas.{Gives, Wording}
use Rattle.fc_commands.proofs.RewordingStageLemmas.{targets, wants_none}
use Rattle.fc_commands.proofs.TargetLemmas as target_of
use Rattle.fc_commands.proofs.VacantLemmas as vacant

-- ---- what a command needs

-- The object of a node, which the command lets leave its place.
pub record IsLeaver (h : Parts) (v : Opened) (c : Command) (n : ℕ) : Type 0 where
  pub object : Object
  pub there : Contains (objects_of v.listings) object
  pub number : number_of h.nodes object.path ≡ Some n
  pub leaves : may_leave v c object ≡ true

-- What is wanted is what the command needs, and what goes, is copied or grows is its own.
pub record IsNeed (h : Parts) (v : Opened) (c : Command) (w : Wants) : Type 0 where
  pub bytes : new_length v c ≡ w.bytes
  pub growth : (g : Growth) → w.grows ≡ Some g → (l : IsLeaver h v c g.node) × (growth_in v c ≡ Some (l.object, g.len)) × (0 < object_size (dir_form v.layout) l.object.entry)
  pub goes : (n : ℕ) → w.goes ≡ Some n → IsLeaver h v c n × (left_path v c ≡ None → ⊥)
  pub copied : (n : ℕ) → w.copied ≡ Some n → IsLeaver h v c n

by_path : (v : Opened) (c : Command) (o : Object) (path : Path) → left_path v c ≡ Some path → is_same_path path o.path ≡ true → may_leave v c o ≡ true
by_path v c o path is same =
    ap (λ (q : Option Path). option_map_or (λ (p : Path). is_same_path p o.path) q false || option_map_or (λ (g : GrownTo). is_same_path g.0.path o.path) (growth_in v c) false) is
    ∙ ap (λ (b : Bool). b || option_map_or (λ (g : GrownTo). is_same_path g.0.path o.path) (growth_in v c) false) same

by_growth : (v : Opened) (c : Command) (o : Object) (len : ℕ) → growth_in v c ≡ Some (o, len) → may_leave v c o ≡ true
by_growth v c o len is =
    ap (λ (q : Option GrownTo). option_map_or (λ (p : Path). is_same_path p o.path) (left_path v c) false || option_map_or (λ (g : GrownTo). is_same_path g.0.path o.path) q false) is
    ∙ ap (λ (b : Bool). option_map_or (λ (p : Path). is_same_path p o.path) (left_path v c) false || b) (itself o.path) ∙ or_true (option_map_or (λ (p : Path). is_same_path p o.path) (left_path v c) false)

none_here : {A : Type 0} (o : Option A) (x : A) → o ≡ None → o ≡ Some x → ⊥
none_here o x a b = (let clash = sym a ∙ b in cc)

some_path : (o : Option Path) (path : Path) → o ≡ Some path → o ≡ None → ⊥
some_path o path a b = (let clash = sym a ∙ b in cc)

-- a big directory has as many bytes as its entry says
size_long : (form : NameForm) (e : Entry) → form ≡ forms.Long → object_size form e ≡ e.len
size_long form e long = ap (λ (f : NameForm). object_size f e) long ∙ by (is_directory e.attrs)
  where
    by : (b : Bool) → (let n : ℕ = cond b (directory_size forms.Long e.len) e.len in n) ≡ e.len
    by true = refl
    by false = refl

module _ (h : Parts) (kind : Kind) (a : Agree kind h) (is_map : IsMapIn h.layout) (v : Opened) (sound : AreSound v.layout v.listings) (parts : ArePartsOf h v) where
  some_size : (e f : Entry) → e ≡ f → dir_form h.layout ≡ forms.Long → 0 < e.len → 0 < object_size (dir_form v.layout) f
  some_size e f same long some =
      subst (λ (n : ℕ). 0 < n) (sym (size_long (dir_form v.layout) f (ap dir_form (sym parts.layout) ∙ long))) (subst (λ (x : Entry). 0 < x.len) same some)

  -- the target of a path that is left
  target_leaves : (c : Command) (path : Path) (t : Target) (n : ℕ) → IsTarget h.nodes v.listings path t → left_path v c ≡ Some path → t.node ≡ n → IsLeaver h v c n
  target_leaves c path t n target left node = record {
    object = target.object;
    there = target_of.among v.layout h.nodes v.listings sound parts.nodes path t target;
    number = target.node_is ∙ ap (λ (k : ℕ). let o : Option ℕ = Some k in o) node;
    leaves = by_path v c target.object path left target.path_is;
  }

  -- ---- `delete`

  of_removal : (c : Command) (t : Target) (name bytes : List ℕ) (w : Wants) → IsJobFor c h (jobs.Removal t) name bytes → AreWants h (jobs.Removal t) name w → IsNeed h v c w
  of_removal c t name bytes w j are =
      let mine = may_go h kind a c t name bytes j in
      let its = mine.2 v sound parts in
      let left : left_path v c ≡ Some mine.0 = ap (left_path v) mine.1 in
      record {
        bytes = ap (new_length v) mine.1 ∙ sym are.bytes;
        growth = λ g some. absurd (none_here w.grows g (no_growth w.grows are.room) some);
        goes = λ n some. (target_leaves c mine.0 t n its.target left (same_some t.node n (sym are.left ∙ some)), some_path (left_path v c) mine.0 left);
        copied = λ n some. absurd (none_here w.copied n are.copy some);
      }

  -- ---- `set` and `mark`

  words_bytes : (c : Command) (path : Path) (x : Wording) → Gives x path c → new_length v c ≡ 0
  words_bytes c path (Wording.Set words) given = ap (new_length v) given
  words_bytes c path (Wording.Mark marks) given = ap (new_length v) given

  of_words : (c : Command) (t : Target) (x : Wording) (name bytes : List ℕ) (w : Wants) → IsJobFor c h (rewording.job_of t x) name bytes → AreWants h (rewording.job_of t x) name w → IsNeed h v c w
  of_words c t x name bytes w j are =
      let mine = targets h kind a c t x name bytes j in
      let none = wants_none h t x name w are in
      record {
        bytes = words_bytes c mine.0 x mine.1 ∙ sym none.0.bytes;
        growth = λ g some. absurd (none_here w.grows g none.0.grows some);
        goes = λ n some. absurd (none_here w.goes n none.1 some);
        copied = λ n some. absurd (none_here w.copied n none.0.copy some);
      }

  -- ---- what comes

  module _ (c : Command) (dir : ℕ) (x : Arrival) (bytes : List ℕ) (path : Path) (brings : Brings x path bytes c) (spot : IsVacant h.nodes v.listings path dir) where
    gains : gain_in v c ≡ Some (gain_of path spot.listing)
    gains = sym (gain_same x path bytes c brings v) ∙ vacant.gains v.layout h.nodes v.listings sound path dir spot v refl

    grows : (len : ℕ) → HasRoomFor h.nodes dir (last_name path) (rooms.Grows len) → growth_in v c ≡ Some (spot.listing.object, len)
    grows len room =
        ap (option_and_then growth_of) gains
        ∙ (room spot.listing.content (gain_of path spot.listing) (holder_of.says_at v.layout h.nodes v.listings sound parts.nodes spot.listing spot.listed dir spot.holder_is)
        (record { name_is = refl; names_are = refl })).1 spot.listing.object

    growing : (len n : ℕ) → IsVacant h.nodes a.listings path dir → HasRoomFor h.nodes dir (last_name path) (rooms.Grows len) → n ≡ dir
        → (l : IsLeaver h v c n) × (growth_in v c ≡ Some (l.object, len)) × (0 < object_size (dir_form v.layout) l.object.entry)
    growing len n first room node = (
      record {
        object = spot.listing.object;
        there = (listed_directory v.layout v.listings sound spot.listing spot.listed).0;
        number = spot.holder_is ∙ ap (λ (k : ℕ). let o : Option ℕ = Some k in o) (sym node);
        leaves = by_growth v c spot.listing.object len (grows len room);
      },
      grows len room,
      let big = big_of h kind a path dir first len room in
          let one = same_some (holder_of.node h.layout h.nodes a.listings (agreed_law.sound_by kind h a) a.walked.held first.listing first.listed dir first.holder_is)
          (holder_of.node v.layout h.nodes v.listings sound parts.nodes spot.listing spot.listed dir spot.holder_is)
          (sym (holder_of.there h.layout h.nodes a.listings (agreed_law.sound_by kind h a) a.walked.held first.listing first.listed dir first.holder_is)
          ∙ holder_of.there v.layout h.nodes v.listings sound parts.nodes spot.listing spot.listed dir spot.holder_is) in
          some_size first.listing.object.entry spot.listing.object.entry (ap (λ (x : Node). x.entry) one) big.is_long big.some,
    )

  of_arrival : (c : Command) (dir : ℕ) (x : Arrival) (name bytes : List ℕ) (w : Wants) → IsJobFor c h (job_of dir x) name bytes → AreWants h (job_of dir x) name w → IsNeed h v c w
  of_arrival c dir x name bytes w j are =
      let came = arrives h kind a c dir x name bytes j in
      let spot = came.can.vacant v sound parts in
      let want : IsItsWant h dir x name w = its_want h dir x name w are in
      record {
        bytes = length_is x came.path bytes c came.brings v ∙ ap (λ (l : Layout). bytes_of (dir_form l) x) (sym parts.layout) ∙ sym want.bytes;
        growth = λ g some.
            growing c dir x bytes came.path came.brings spot g.len g.node (came.can.vacant (view_of h kind a) (agreed_law.sound_by kind h a) (agreed_law.viewed kind h a))
            (subst (λ (q : Option Growth). HasRoomFor h.nodes dir (last_name came.path) (room_of q)) some (subst (λ (n : List ℕ). HasRoomFor h.nodes dir n (room_of w.grows)) came.name_is want.room))
            (subst (IsGrowthOf dir) some want.grown);
        goes = λ n some. absurd (none_here w.goes n want.left some);
        copied = λ n some. absurd (none_here w.copied n want.copy some);
      }

  -- ---- a file that is saved over

  over_left : (c : Command) (path : Path) (words : FileWords) (bytes : List ℕ) → Brings (Arrival.Saves words) path bytes c → left_path v c ≡ Some path
  over_left c path words bytes (inl brings) = ap (left_path v) brings.0
  over_left c path words bytes (inr brings) = ap (left_path v) brings.0

  of_over : (c : Command) (t : Target) (words : FileWords) (name bytes : List ℕ) (w : Wants) → IsJobFor c h (jobs.File (slots.Over t) words) name bytes → AreWants h (jobs.File (slots.Over t) words) name w → IsNeed h v c w
  of_over c t words name bytes w j are =
      let mine = covers h kind a c t words name bytes j in
      let left = over_left c mine.0 words bytes mine.1 in
      record {
        bytes = length_is (Arrival.Saves words) mine.0 bytes c mine.1 v ∙ sym are.bytes;
        growth = λ g some. absurd (none_here w.grows g (no_growth w.grows are.room) some);
        goes = λ n some. (target_leaves c mine.0 t n (mine.2 v sound parts).target left (same_some t.node n (sym are.left ∙ some)), some_path (left_path v c) mine.0 left);
        copied = λ n some. absurd (none_here w.copied n are.copy some);
      }

  -- ---- `rename`

  module _ (from to : Path) (r : Renaming) (name : List ℕ) (known : IsRenaming h.nodes v.listings from to r) (name_is : name ≡ last_name to) where
    abbrev o : Object
    o = known.target.object

    never_old : (b d s : Bool) → (not b && not d && false) ≡ false
    never_old true d s = refl
    never_old false true s = refl
    never_old false false s = refl

    -- It is copied as the job says,
    copied_on : (l : Layout) → v.layout ≡ l → is_copied v from to known.target.object ≡ is_copied_job (record { layout = l; nodes = h.nodes; owners = h.owners }) r
    copied_on (Layout.New m) at =
        copied_as v h.nodes sound parts.nodes from to r known name name_is m h.owners at (subst (λ (l : Layout). AreOwners h.owners h.nodes l (objects_of v.listings)) at parts.owners)
    copied_on (Layout.Old space) at =
        ap (λ (l : Layout). not (is_directory_object o) && not (is_same_path (holder from) (holder to)) && is_sharing l (objects_of v.listings) o) at
        ∙ never_old (is_directory_object o) (is_same_path (holder from) (holder to)) true

    copied_same : is_copied v from to known.target.object ≡ is_copied_job h r
    copied_same = copied_on v.layout refl ∙ ap (λ (l : Layout). is_copied_job (record { layout = l; nodes = h.nodes; owners = h.owners }) r) (sym parts.layout)

    there : is_copied v from to known.target.object ≡ copies_file v (Command.Rename from to)
    there = sym (ap (λ (q : Option Object). option_map_or (is_copied v from to) q false) (target_of.there v.layout h.nodes v.listings sound parts.nodes from r.target known.target))

    long : new_length v (Command.Rename from to) ≡ cond (is_copied_job h r) (len_at h.nodes r.target.node) 0
    long =
        ap (λ (x : Option Object). option_map_or (λ (y : Object). cond (is_copied v from to y) y.entry.len 0) x 0) (target_of.there v.layout h.nodes v.listings sound parts.nodes from r.target known.target)
        ∙ ap₂ (λ (b : Bool) (n : ℕ). cond b n 0) copied_same
        (sym (ap (λ (x : Option Node). option_map_or (λ (y : Node). y.entry.len) x 0) (target_of.node_is v.layout h.nodes v.listings sound parts.nodes from r.target known.target)))

    growing_to : (len n : ℕ) → IsRenaming h.nodes a.listings from to r → is_writable (dir_form h.layout) name ≡ true → HasRoomOf h.nodes (jobs.Move r) name (rooms.Grows len) → n ≡ r.holder
        → (l : IsLeaver h v (Command.Rename from to) n) × (growth_in v (Command.Rename from to) ≡ Some (l.object, len)) × (0 < object_size (dir_form v.layout) l.object.entry)
    growing_to len n first good room node =
        let grows = (grows_to v h.nodes sound parts.nodes from to r known name name_is len room).growth in (
          record {
            object = known.destination.listing.object;
            there = (listed_directory v.layout v.listings sound known.destination.listing known.destination.listed).0;
            number = known.destination.holder_is ∙ ap (λ (k : ℕ). let q : Option ℕ = Some k in q) (sym node);
            leaves = by_growth v (Command.Rename from to) known.destination.listing.object len grows;
          },
          grows,
          let k = first.destination in
              let big = big_by h.layout h.nodes a.listings from to r name (record { is_map = is_map; sound = agreed_law.sound_by kind h a; held = a.walked.held; forms = a.walked.forms; bodies = a.walked.bodies; known = first; name_is = name_is; good = good }) len room in
              let one = same_some (holder_of.node h.layout h.nodes a.listings (agreed_law.sound_by kind h a) a.walked.held k.listing k.listed r.holder k.holder_is)
              (holder_of.node v.layout h.nodes v.listings sound parts.nodes known.destination.listing known.destination.listed r.holder known.destination.holder_is)
              (sym (holder_of.there h.layout h.nodes a.listings (agreed_law.sound_by kind h a) a.walked.held k.listing k.listed r.holder k.holder_is)
              ∙ holder_of.there v.layout h.nodes v.listings sound parts.nodes known.destination.listing known.destination.listed r.holder known.destination.holder_is) in
              some_size k.listing.object.entry known.destination.listing.object.entry (ap (λ (x : Node). x.entry) one) big.is_long big.some,
        )

    copying : (b : Bool) (n : ℕ) → is_copied_job h r ≡ b → (let q : Option ℕ = cond b (Some r.target.node) None in q) ≡ Some n → IsLeaver h v (Command.Rename from to) n
    copying true n copies some =
        target_leaves (Command.Rename from to) from r.target n known.target (ap (λ (b : Bool). let q : Option Path = cond b (Some from) None in q) (sym there ∙ copied_same ∙ copies)) (same_some r.target.node n some)
    copying false n copies some = absurd (cc)

  of_move : (c : Command) (r : Renaming) (name bytes : List ℕ) (w : Wants) → IsJobFor c h (jobs.Move r) name bytes → AreWants h (jobs.Move r) name w → IsNeed h v c w
  of_move c r name bytes w j are =
      let mine = renamer h kind a c r name bytes j in
      let known = mine.3.known v sound parts in
      subst (λ (d : Command). IsNeed h v d w) (sym mine.2)
      (record {
        bytes = long mine.0 mine.1 r name known mine.3.name_is ∙ sym are.bytes;
        growth = λ g some.
            growing_to mine.0 mine.1 r name known mine.3.name_is g.len g.node (mine.3.known (view_of h kind a) (agreed_law.sound_by kind h a) (agreed_law.viewed kind h a)) mine.3.good (subst (λ (q : Option Growth). HasRoomOf h.nodes (jobs.Move r) name (room_of q)) some are.room)
            (subst (IsGrowthOf r.holder) some are.grown);
        goes = λ n some. absurd (none_here w.goes n are.left some);
        copied = λ n some. copying mine.0 mine.1 r name known mine.3.name_is (is_copied_job h r) n refl (sym are.copy ∙ some);
      })

  -- ---- any job

  pub need : (c : Command) (job : Job) (name bytes : List ℕ) (w : Wants) → IsJobFor c h job name bytes → AreWants h job name w → IsNeed h v c w
  need c (jobs.File (slots.New dir) words) name bytes w j are = of_arrival c dir (Arrival.Saves words) name bytes w j are
  need c (jobs.File (slots.Over t) words) name bytes w j are = of_over c t words name bytes w j are
  need c (jobs.Directory dir) name bytes w j are = of_arrival c dir Arrival.Makes name bytes w j are
  need c (jobs.Removal t) name bytes w j are = of_removal c t name bytes w j are
  need c (jobs.Move r) name bytes w j are = of_move c r name bytes w j are
  need c (jobs.Words t words) name bytes w j are = of_words c t (Wording.Set words) name bytes w j are
  need c (jobs.Marks t marks) name bytes w j are = of_words c t (Wording.Mark marks) name bytes w j are
