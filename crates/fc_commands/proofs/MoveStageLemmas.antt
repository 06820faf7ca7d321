-- `rename`, if nothing is copied and no directory grows: whose job it is, each stage can follow on the one before, and what its change is.
use Rattle.std.proofs.Common.{◌≡◌, ◌<◌, ◌^◌, ◌==◌, ◌&&◌, ◌||◌, ⊎_elim, ℕ, Bool, true, false, cond, List, [], ◌∷◌, ◌++◌, length, not, refl, sym, ap, ap₂, subst, ◌∙◌, arith, Option, Some, None, eq-eqb, ne_eqb}
use Rattle.std.specs.Prelude.{Contains, IsSome, is_none, is_some}
use Rattle.std.specs.FinMap.{get}
use Rattle.std.specs.Option.{option_map, unwrap_or}
use Rattle.std.proofs.lemmas.Bool.{eqb-true}
use Rattle.std.proofs.lemmas.List.Elements.{Contains-append_cases}
use Rattle.std.proofs.lemmas.Option.{slice_get_within}
use Rattle.fc_names.specs.Names.{Path, is_writable}
use Rattle.fc_record.specs.declared.Kind.{Kind}
use Rattle.fc_oldmap.specs.OldMap.{OldMapContent}
use Rattle.fc_newmap.specs.Map.{Map}
use Rattle.fc_model.specs.Answer.{first_of, is_root, reasons}
use Rattle.fc_model.specs.Command.{Command}
use Rattle.fc_model.specs.Tree.{last_name}
use Rattle.fc_dirs.specs.declared.Entry.{Entry}
use Rattle.fc_dirs.specs.Directory.{Directory, entries_of}
use Rattle.fc_drafts.specs.Draft.{CanAddress, CanHold, IsSayable}
use Rattle.fc_drafts.specs.Entries.{renamed_entry}
use Rattle.fc_drafts.proofs.FindLemmas.{held as held_in}
use Rattle.fc_image.specs.Layout.{Layout, dir_form, sectors_at}
use Rattle.fc_image.specs.Objects.{tree_of}
use Rattle.fc_image.specs.Opening.{Opened}
use Rattle.fc_image.specs.Sound.{AreSound}
use Rattle.fc_image.specs.Walk.{Listing, Object, object_size}
use Rattle.fc_placing.specs.declared.placing.Placing.{Placing}
use Rattle.fc_tree.specs.Agree.{Agree, IsDirectory}
use Rattle.fc_tree.specs.Nodes.{is_directory_node, number_of}
use Rattle.fc_tree.specs.Parts.{ArePartsOf, Parts}
use Rattle.fc_tree.proofs.MemberLemmas.{no_element}
use Rattle.fc_tree.proofs.WalkedLemmas.{same_some}
use Rattle.fc_laws.specs.nodes.Edits.{Nodes}
use Rattle.fc_laws.proofs.lemmas.agree.BeforeLemmas.{agreed_law}
use Rattle.fc_edits.proofs.lemmas.ShapeLemmas.{of_one}
use Rattle.fc_refusals.specs.Slots.{IsRenaming}
use Rattle.fc_refusals.specs.declared.target.Renaming.{Renaming}
use Rattle.fc_change.specs.declared.change.Change.{Change}
use Rattle.fc_change.specs.declared.change.Regrowth.{Regrowth}
use Rattle.fc_change.specs.declared.change.Turned.TheVariants as turns
use Rattle.fc_change.specs.declared.job.Job.TheVariants as jobs
use Rattle.fc_change.specs.declared.job.Wants.{Wants}
use Rattle.fc_change.specs.declared.spaces.Place.{Place}
use Rattle.fc_change.specs.declared.spaces.Spaces.{Spaces}
use Rattle.fc_change.specs.Directories.{CanTell, CanTellAround, IsGrownThere, Rewriting, TellAll}
use Rattle.fc_change.specs.Drafts.{CanDraft, CanTellJob, IsChangeOf, IsEntryOf, address_in as place_in, told, told_first, told_last}
use Rattle.fc_change.specs.Jobs.{IsJob}
use Rattle.fc_change.specs.Needs.{AreWants, CanWant, is_copied, len_at}
use Rattle.fc_change.specs.OldSpace.{LieBehind}
use Rattle.fc_change.specs.Places.{ArePlacesFor, ArePlacesOn, CanPlace, IsOldPlaced, IsPlaceFor}
use Rattle.fc_change.specs.Prepared.{CanPrepare, HasPlace}
use Rattle.fc_commands.specs.Jobs.{IsJobFor}
use Rattle.fc_commands.proofs.RoomyLemmas.{NoneGrows}
use Rattle.fc_commands.specs.Stages.{CanPrepareJob, IsSpaced}
use Rattle.fc_commands.specs.Run.{IsMapIn}
use Rattle.fc_commands.proofs.EmptySpaceLemmas.{WantsNoSpace, empty_space, none_grown}
use Rattle.fc_commands.proofs.MoveDirectoryLemmas.{alike_held, can_call, held_address, renamed_held}
use Rattle.fc_commands.proofs.MoveLemmas.{IsSeen, absent, absent_beside, among, entry_there, k, l, node_kind, o, own_listing, same_listing_number}
use Rattle.fc_commands.proofs.MoveTellLemmas.{address_is, can_tell, can_tell_here, has_place, named, own_told, told_by}
use Rattle.fc_commands.proofs.NodeLemmas.{content_is}
use Rattle.fc_commands.proofs.RemovalStageLemmas.{view_of}
use Rattle.fc_commands.proofs.TargetLemmas as target_of
use Rattle.fc_commands.proofs.EnteredLemmas.{can_name}
use Rattle.fc_commands.proofs.ArrivalLemmas.{bad_first as good_first}

-- ---- whose job it is

-- what the job says of its command
abbrev Of : (nodes : Nodes) (listings : List Listing) → Command → Renaming → List ℕ → Type 0
Of nodes listings c r name = (from to : Path) × (c ≡ Command.Rename from to) × IsRenaming nodes listings from to r × (name ≡ last_name to)

of_job : (nodes : Nodes) (listings : List Listing) (c : Command) (r : Renaming) (name : List ℕ) → IsJob nodes listings c (jobs.Move r) name → Of nodes listings c r name
of_job nodes listings (Command.Cat path) r name is = absurd is
of_job nodes listings (Command.Load path) r name is = absurd is
of_job nodes listings (Command.Digest path) r name is = absurd is
of_job nodes listings (Command.Save path load exec bytes) r name is = absurd is
of_job nodes listings (Command.Create path load exec len) r name is = absurd is
of_job nodes listings (Command.Cdir path) r name is = absurd is
of_job nodes listings (Command.Delete path) r name is = absurd is
of_job nodes listings (Command.Rename from to) r name is = (from, to, refl, is.0, is.1)
of_job nodes listings (Command.Set path load exec access) r name is = absurd is
of_job nodes listings Command.Free r name is = absurd is
of_job nodes listings Command.Check r name is = absurd is
of_job nodes listings Command.Compact r name is = absurd is
of_job nodes listings Command.Reclaim r name is = absurd is
of_job nodes listings (Command.Mark path attrs) r name is = absurd is

-- What is renamed is at the one path and will be at the other, by each sound view whose parts these are, under a name that may be written.
pub record IsRenamer (h : Parts) (from to : Path) (r : Renaming) (name : List ℕ) : Type 0 where
  pub known : (v : Opened) → AreSound v.layout v.listings → ArePartsOf h v → IsRenaming h.nodes v.listings from to r
  pub name_is : name ≡ last_name to
  pub good : is_writable (dir_form h.layout) name ≡ true

good_name : (root good : Bool) → root ≡ false → not (root || good) ≡ false → good ≡ true
good_name true good none e = absurd (cc)
good_name false true none e = refl
good_name false false none e = absurd (cc)

pub renamer : (h : Parts) (kind : Kind) (a : Agree kind h) (c : Command) (r : Renaming) (name bytes : List ℕ) → IsJobFor c h (jobs.Move r) name bytes
    → (from to : Path) × (c ≡ Command.Rename from to) × IsRenamer h from to r name
renamer h kind a c r name bytes j =
    let v = view_of h kind a in
    let sound = agreed_law.sound_by kind h a in
    let viewed = agreed_law.viewed kind h a in
    let first = of_job h.nodes a.listings c r name (j.is v sound viewed) in
    let to = first.1 in
    let some = first.3.destination.no_root in
    let accepted = subst (λ (x : Command). first_of (reasons (tree_of [] h.layout a.listings) (dir_form h.layout) false x) ≡ None) first.2 (j.accepted v [] sound viewed) in (
      first.0,
      to,
      first.2,
      record {
        known = λ w sound' parts. (subst (λ (x : Command). IsJob h.nodes w.listings x (jobs.Move r) name) first.2 (j.is w sound' parts)).0;
        name_is = first.4;
        good = ap (is_writable (dir_form h.layout)) first.4
            ∙ good_name (is_root to) (is_writable (dir_form h.layout) (last_name to)) (ne_eqb (length to) 0 (λ e. omega (arith, e, some))) (good_first (not (is_root to || is_writable (dir_form h.layout) (last_name to))) _ accepted);
      },
    )

-- ---- what it wants

pub wants_none : (h : Parts) (r : Renaming) (name : List ℕ) (w : Wants) → NoneGrows h (jobs.Move r) name → is_copied h r ≡ false → AreWants h (jobs.Move r) name w → WantsNoSpace w × (w.goes ≡ None)
wants_none h r name w grows plain are = (
  record {
    bytes = are.bytes ∙ ap (λ (b : Bool). cond b (len_at h.nodes r.target.node) 0) plain;
    slack = are.slack;
    copy = are.copy ∙ ap (λ (b : Bool). cond b (Some r.target.node) None) plain;
    grows = grows w are;
  },
  are.left,
)

-- So nothing has a place.
pub no_place : (h : Parts) (w : Wants) (s : Spaces) → WantsNoSpace w → ArePlacesFor h w s → s.object ≡ None
no_place h w s none places = by h.layout places
  where
    never : ((w.bytes == 0) && is_none w.shares) ≡ false → ⊥
    never wanted = let both : true ≡ false = sym (ap₂ (λ (n : ℕ) (o : Option ℕ). (n == 0) && is_none o) none.bytes none.slack) ∙ wanted in cc

    new : (m : Map) (placing : Placing) (o : Option Place) → IsPlaceFor m w placing o → o ≡ None
    new m placing None is = refl
    new m placing (Some p) is = absurd (never is.2)

    old : (space : OldMapContent) (o : Option Place) → IsOldPlaced space w o → o ≡ None
    old space None is = refl
    old space (Some p) is = absurd (never is.wanted)

    by : (layout : Layout) → ArePlacesOn layout h w s → s.object ≡ None
    by (Layout.New m) are = new m are.placing s.object are.object
    by (Layout.Old space) are = old space s.object are.object

-- ---- what its change is

-- The object has its new name, and is where it was; the directories say so.
pub record IsMoveChange (nodes : Nodes) (r : Renaming) (name : List ℕ) (place : Option ℕ) (c : Change) : Type 0 where
  pub was : Entry
  pub at : IsEntryOf nodes r.target was
  pub none : c.grown ≡ None
  pub tells : TellAll None nodes (told nodes (jobs.Move r) name None (renamed_entry was name (unwrap_or place was.address))) c.says.items
  pub turns : c.object ≡ turns.Turns r.target.node r.holder (renamed_entry was name (unwrap_or place was.address))

pub move_change : (h : Parts) (r : Renaming) (name : List ℕ) (place : Option ℕ) (s : Spaces) (c : Change) → place_in s ≡ place → s.grown ≡ None → IsChangeOf h (jobs.Move r) name s c → IsMoveChange h.nodes r name place c
move_change h r name place s c place_is none is =
    let no = none_grown s none in
    let here : is.entry ≡ renamed_entry is.made.0 name (unwrap_or place is.made.0.address) =
    is.made.2 ∙ ap (λ (q : Option ℕ). renamed_entry is.made.0 name (unwrap_or q is.made.0.address)) place_is in
    record {
      was = is.made.0;
      at = is.made.1;
      none = is.grown ∙ no;
      tells = subst (λ (e : Entry). TellAll None h.nodes (told h.nodes (jobs.Move r) name None e) c.says.items) here
          (subst (λ (g : Option Regrowth). TellAll g h.nodes (told h.nodes (jobs.Move r) name g is.entry) c.says.items) no is.tells);
      turns = is.object ∙ ap (turns.Turns r.target.node r.holder) here;
    }

-- ---- by a walk

module _ (layout : Layout) (nodes : Nodes) (listings : List Listing) (from to : Path) (r : Renaming) (name : List ℕ) (x : IsSeen layout nodes listings from to r name) where
  abbrev it : Object
  it = o layout nodes listings from to r name x

  abbrev home : Listing
  home = k layout nodes listings from to r name x

  abbrev aim : Listing
  aim = l layout nodes listings from to r name x

  -- under its name, and at the address of its place if it has another
  abbrev pub entry_at : Option ℕ → Entry
  entry_at place = renamed_entry it.entry name (unwrap_or place it.entry.address)

  abbrev pub entry_now : Entry
  entry_now = renamed_entry it.entry name it.entry.address

  -- the entry is that of the object
  module _ (place : Option ℕ) (c : Change) (is : IsMoveChange nodes r name place c) where
    was_is : is.was ≡ it.entry
    was_is = same_some is.was it.entry (sym is.at ∙ target_of.entry layout nodes listings x.sound x.held from r.target x.known.target)

    pub tells_it : TellAll None nodes (told nodes (jobs.Move r) name None (entry_at place)) c.says.items
    tells_it = subst (λ (e : Entry). TellAll None nodes (told nodes (jobs.Move r) name None (renamed_entry e name (unwrap_or place e.address))) c.says.items) was_is is.tells

    pub turns_it : c.object ≡ turns.Turns r.target.node r.holder (entry_at place)
    turns_it = is.turns ∙ ap (λ (e : Entry). turns.Turns r.target.node r.holder (renamed_entry e name (unwrap_or place e.address))) was_is

  -- ---- what its directories can be told

  pub it_held : CanHold home.content it.entry
  it_held = held_in home.content r.target.at it.entry (sayable home.content (x.bodies home x.known.target.listed)) (entry_there layout nodes listings from to r name x)
    where
      sayable : (dir : Directory) → IsDirectory dir → IsSayable dir
      sayable (Directory.Small dir) is = is
      sayable (Directory.Big dir) is = is

  pub at_low : r.target.at < length (entries_of home.content)
  at_low = slice_get_within (entries_of home.content) r.target.at it.entry (entry_there layout nodes listings from to r name x)

  can_rename : r.holder ≡ r.target.holder → CanTell None nodes r.holder (Rewriting.Renames r.target.at entry_now)
  can_rename here =
      can_tell_here layout nodes listings x.sound x.held home x.known.target.listed r.holder (same_listing_number layout nodes listings from to r name x here) (Rewriting.Renames r.target.at entry_now) refl (
        at_low,
        can_name (dir_form layout) home.content home.object.entry.len name (x.forms home x.known.target.listed) x.good,
        renamed_held home.content it.entry name it.entry.address it_held (held_address home.content it.entry it_held),
        absent_beside layout nodes listings from to r name x here,
      ) x.forms x.is_map

  pub aim_held : CanHold aim.content it.entry
  aim_held = alike_held (dir_form layout) home.object.entry.len aim.object.entry.len home.content aim.content it.entry (x.forms home x.known.target.listed) (x.forms aim x.known.destination.listed) it_held

  -- the other directory, at an address that it can hold
  pub can_enter : (r.holder ≡ r.target.holder → ⊥) → (address : ℕ) → CanAddress (l layout nodes listings from to r name x).content address
      → CanTell None nodes r.holder (Rewriting.Enters (renamed_entry (o layout nodes listings from to r name x).entry name address))
  can_enter away address short =
      can_tell_here layout nodes listings x.sound x.held aim x.known.destination.listed r.holder x.known.destination.holder_is (Rewriting.Enters (renamed_entry it.entry name address)) refl (
        can_name (dir_form layout) aim.content aim.object.entry.len name (x.forms aim x.known.destination.listed) x.good,
        renamed_held aim.content it.entry name address aim_held short,
        absent layout nodes listings from to r name x away,
      ) x.forms x.is_map

  can_leave : CanTell None nodes r.target.holder (Rewriting.Leaves r.target.at)
  can_leave = can_tell_here layout nodes listings x.sound x.held home x.known.target.listed r.target.holder x.known.target.holder_is (Rewriting.Leaves r.target.at) refl at_low x.forms x.is_map

  can_turn : is_directory_node nodes r.target.node ≡ true → CanTell None nodes r.target.node (Rewriting.Turns r.holder name)
  can_turn dir =
      let d = own_listing layout listings x.sound it (among layout nodes listings from to r name x) (sym (node_kind layout nodes listings from to r name x) ∙ dir) in
      let number : number_of nodes d.0.object.path ≡ Some r.target.node = ap (λ (p : Object). number_of nodes p.path) d.2 ∙ x.known.target.node_is in
      can_tell layout nodes listings x.sound x.held d.0 d.1 r.target.node number (Rewriting.Turns r.holder name)
      (subst (CanAddress d.0.content) (sym (address_is layout nodes listings x.sound x.held aim x.known.destination.listed r.holder x.known.destination.holder_is))
      (named layout nodes listings x.sound x.held d.0 d.1 r.target.node number x.forms x.is_map aim x.known.destination.listed))
      (can_call (dir_form layout) d.0.content d.0.object.entry.len name (x.forms d.0 d.1) x.good)

  pub can_first : (q : ℕ × Rewriting) → Contains (told_first (jobs.Move r) entry_now) q → CanTell None nodes q.0 q.1
  can_first = by (r.holder == r.target.holder) refl
    where
      by : (b : Bool) → (r.holder == r.target.holder) ≡ b
          → (q : ℕ × Rewriting) → Contains (cond b ((r.holder, Rewriting.Renames r.target.at entry_now) ∷ []) ((r.holder, Rewriting.Enters entry_now) ∷ [])) q → CanTell None nodes q.0 q.1
      by true e = of_one (λ (q : ℕ × Rewriting). CanTell None nodes q.0 q.1) (r.holder, Rewriting.Renames r.target.at entry_now) (can_rename (eqb-true r.holder r.target.holder e))
      by false e =
          of_one (λ (q : ℕ × Rewriting). CanTell None nodes q.0 q.1) (r.holder, Rewriting.Enters entry_now)
          (can_enter (λ same. (let both : true ≡ false = sym (eq-eqb r.holder r.target.holder same) ∙ e in cc)) it.entry.address (held_address aim.content it.entry aim_held))

  pub can_last : (q : ℕ × Rewriting) → Contains (told_last nodes (jobs.Move r) name) q → CanTell None nodes q.0 q.1
  can_last q at =
      ⊎_elim (own (is_directory_node nodes r.target.node) refl) (left (r.holder == r.target.holder))
      (Contains-append_cases (own_told (is_directory_node nodes r.target.node) r name) (cond (r.holder == r.target.holder) [] ((r.target.holder, Rewriting.Leaves r.target.at) ∷ [])) q at)
    where
      own : (b : Bool) → is_directory_node nodes r.target.node ≡ b → Contains (own_told b r name) q → CanTell None nodes q.0 q.1
      own true e there = of_one (λ (p : ℕ × Rewriting). CanTell None nodes p.0 p.1) (r.target.node, Rewriting.Turns r.holder name) (can_turn e) q there
      own false e there = absurd (no_element q there)

      left : (b : Bool) → Contains (cond b [] ((r.target.holder, Rewriting.Leaves r.target.at) ∷ [])) q → CanTell None nodes q.0 q.1
      left true there = absurd (no_element q there)
      left false there = of_one (λ (p : ℕ × Rewriting). CanTell None nodes p.0 p.1) (r.target.holder, Rewriting.Leaves r.target.at) can_leave q there

  -- ---- they have places

  pub own_place : (h : Parts) → h.layout ≡ layout → h.nodes ≡ nodes → HasPlace h r.target.node
  own_place h at same =
      let node = target_of.node layout nodes listings x.sound x.held from r.target x.known.target in
      record {
        node = node;
        there = ap (λ (ns : Nodes). get ns r.target.node) same ∙ target_of.node_is layout nodes listings x.sound x.held from r.target x.known.target;
        placed = subst (λ (y : Layout). IsSome (sectors_at y node.entry.address (object_size (dir_form y) node.entry))) (sym at)
            (ap is_some (target_of.placed layout nodes listings x.sound x.held from r.target x.known.target));
      }

  pub places : (h : Parts) → h.layout ≡ layout → h.nodes ≡ nodes → (e : Entry) (q : ℕ × Rewriting) → Contains (told nodes (jobs.Move r) name None e) q → HasPlace h q.0
  places h at same e q there =
      ⊎_elim (first (r.holder == r.target.holder))
      (λ later.
      ⊎_elim (own (is_directory_node nodes r.target.node)) (left (r.holder == r.target.holder))
      (Contains-append_cases (own_told (is_directory_node nodes r.target.node) r name) (cond (r.holder == r.target.holder) [] ((r.target.holder, Rewriting.Leaves r.target.at) ∷ [])) q later))
      (Contains-append_cases (cond (r.holder == r.target.holder) ((r.holder, Rewriting.Renames r.target.at e) ∷ []) ((r.holder, Rewriting.Enters e) ∷ []))
      (own_told (is_directory_node nodes r.target.node) r name ++ cond (r.holder == r.target.holder) [] ((r.target.holder, Rewriting.Leaves r.target.at) ∷ [])) q there)
    where
      aim_place : HasPlace h r.holder
      aim_place = has_place layout nodes listings x.sound x.held aim x.known.destination.listed r.holder x.known.destination.holder_is h at same

      first : (b : Bool) → Contains (cond b ((r.holder, Rewriting.Renames r.target.at e) ∷ []) ((r.holder, Rewriting.Enters e) ∷ [])) q → HasPlace h q.0
      first true here = of_one (λ (p : ℕ × Rewriting). HasPlace h p.0) (r.holder, Rewriting.Renames r.target.at e) aim_place q here
      first false here = of_one (λ (p : ℕ × Rewriting). HasPlace h p.0) (r.holder, Rewriting.Enters e) aim_place q here

      own : (b : Bool) → Contains (own_told b r name) q → HasPlace h q.0
      own true here = of_one (λ (p : ℕ × Rewriting). HasPlace h p.0) (r.target.node, Rewriting.Turns r.holder name) (own_place h at same) q here
      own false here = absurd (no_element q here)

      left : (b : Bool) → Contains (cond b [] ((r.target.holder, Rewriting.Leaves r.target.at) ∷ [])) q → HasPlace h q.0
      left true here = absurd (no_element q here)
      left false here = of_one (λ (p : ℕ × Rewriting). HasPlace h p.0) (r.target.holder, Rewriting.Leaves r.target.at)
          (has_place layout nodes listings x.sound x.held home x.known.target.listed r.target.holder x.known.target.holder_is h at same) q here

  -- its entry is there
  pub can_want : CanWant nodes (jobs.Move r)
  can_want content says =
      subst (λ (dir : Directory). r.target.at < length (entries_of dir))
      (sym (content_is nodes layout listings x.sound x.held home x.known.target.listed r.target.holder x.known.target.holder_is says.node says.there content says.says)) at_low

-- ---- the stages

module _ (h : Parts) (kind : Kind) (a : Agree kind h) (r : Renaming) (from to : Path) (name : List ℕ) (is : IsRenamer h from to r name) (is_map : IsMapIn h.layout) where
  pub seen : IsSeen h.layout h.nodes a.listings from to r name
  seen = record {
    is_map = is_map;
    sound = agreed_law.sound_by kind h a;
    held = a.walked.held;
    forms = a.walked.forms;
    bodies = a.walked.bodies;
    known = is.known (view_of h kind a) (agreed_law.sound_by kind h a) (agreed_law.viewed kind h a);
    name_is = is.name_is;
    good = is.good;
  }

  module _ (behind : (space : OldMapContent) → h.layout ≡ Layout.Old space → LieBehind space) (grows : NoneGrows h (jobs.Move r) name) (plain : is_copied h r ≡ false) where
    can_place : (w : Wants) → AreWants h (jobs.Move r) name w → CanPlace h w
    can_place w are =
        let wants = wants_none h r name w grows plain are in
        let bytes = wants.0.bytes in
        record {
          few = subst (λ (n : ℕ). n < 2 ^ 32) (sym bytes) (omega arith);
          grows = λ g some. absurd (let fits = wants.0.grows in cc);
          copied = λ n some. absurd (let no = wants.0.copy in cc);
          no_growth = λ space at. wants.0.grows;
          behind = behind;
          free = λ space n at some. absurd (let no = wants.1 in cc);
        }

    can_tell_job : (address : Option ℕ) → address ≡ None → CanTellJob h (jobs.Move r) name address None
    can_tell_job address none =
        let e = entry_now h.layout h.nodes a.listings from to r name seen in
        let it' = o h.layout h.nodes a.listings from to r name seen in
        subst (λ (x : Option ℕ). CanTellJob h (jobs.Move r) name x None) (sym none)
        (record {
          entry = e;
          made = (it'.entry, target_of.entry h.layout h.nodes a.listings seen.sound seen.held from r.target seen.known.target, refl);
          first = can_first h.layout h.nodes a.listings from to r name seen;
          last = can_last h.layout h.nodes a.listings from to r name seen;
          begins = tt;
        })

    can_draft : (w : Wants) (s : Spaces) → IsSpaced h (jobs.Move r) name w s → CanDraft h (jobs.Move r) name s
    can_draft w s spaced =
        let wants = wants_none h r name w grows plain spaced.wants in
        let empty = empty_space h w wants.0 s spaced.places in
        let no = none_grown s empty.grown in
        record {
          own = subst (λ (g : Option Regrowth). CanTellJob h (jobs.Move r) name (place_in s) g) (sym no)
              (can_tell_job (place_in s) (ap (λ (p : Option Place). option_map (λ (q : Place). q.address) p) (no_place h w s wants.0 spaced.places)));
          there = subst (IsGrownThere h.nodes) (sym no) tt;
          others = subst (λ (g : Option Regrowth). (ns : List ℕ) → CanTellAround h.nodes g ns) (sym no) (λ ns q at. absurd (no_element q at)) _;
        }

    can_prepare : (w : Wants) (s : Spaces) (c : Change) → IsSpaced h (jobs.Move r) name w s → IsChangeOf h (jobs.Move r) name s c → CanPrepare h c s
    can_prepare w s c spaced ch =
        let wants = wants_none h r name w grows plain spaced.wants in
        let empty = empty_space h w wants.0 s spaced.places in
        let change = move_change h r name None s c (ap (option_map (λ (q : Place). q.address)) (no_place h w s wants.0 spaced.places)) empty.grown ch in
        record {
          placed = λ said at.
              (let q = told_by h.nodes (told h.nodes (jobs.Move r) name None (renamed_entry change.was name change.was.address)) c.says.items change.tells said at in
              subst (HasPlace h) (sym q.2.number) (places h.layout h.nodes a.listings from to r name seen h refl refl (renamed_entry change.was name change.was.address) q.0 q.1));
          grows = λ g some. absurd (let no = empty.grown in cc);
        }

    pub can_prepare_job : CanPrepareJob h (jobs.Move r) name
    can_prepare_job = record { want = can_want h.layout h.nodes a.listings from to r name seen; place = can_place; draft = can_draft; placed = λ w s spaced. tt; prepare = can_prepare }
