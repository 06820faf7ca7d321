-- `set` and `mark`: whose job it is, each stage can follow on the one before, and what their change is.
use Rattle.std.proofs.Common.{◌≡◌, ◌<◌, ◌^◌, ℕ, List, [], ◌∷◌, refl, sym, ap, subst, ◌∙◌, arith, Option, None}
use Rattle.std.specs.Prelude.{Contains}
use Rattle.fc_names.specs.Names.{Path}
use Rattle.fc_record.specs.declared.Kind.{Kind}
use Rattle.fc_dirs.specs.declared.Entry.{Entry}
use Rattle.fc_oldmap.specs.OldMap.{OldMapContent}
use Rattle.fc_model.specs.Command.{Command}
use Rattle.fc_image.specs.Layout.{Layout, dir_form}
use Rattle.fc_image.specs.Opening.{Opened}
use Rattle.fc_image.specs.Sound.{AreSound}
use Rattle.fc_image.specs.Walk.{Listing}
use Rattle.fc_tree.specs.Agree.{Agree}
use Rattle.fc_tree.specs.Nodes.{HoldObjects}
use Rattle.fc_tree.specs.Parts.{ArePartsOf, Parts}
use Rattle.fc_tree.proofs.MemberLemmas.{no_element}
use Rattle.fc_tree.proofs.WalkedLemmas.{same_some}
use Rattle.fc_laws.specs.nodes.Edits.{Nodes}
use Rattle.fc_laws.proofs.lemmas.agree.BeforeLemmas.{agreed_law}
use Rattle.fc_edits.proofs.lemmas.ShapeLemmas.{of_one, only}
use Rattle.fc_refusals.specs.Targets.{IsTarget}
use Rattle.fc_refusals.specs.declared.target.Target.{Target}
use Rattle.fc_change.specs.declared.change.Change.{Change}
use Rattle.fc_change.specs.declared.change.Regrowth.{Regrowth}
use Rattle.fc_change.specs.declared.change.Says.{Says}
use Rattle.fc_change.specs.declared.change.Turned.TheVariants as turns
use Rattle.fc_change.specs.declared.job.Job.TheVariants as jobs
use Rattle.fc_change.specs.declared.job.ObjectWords.{ObjectWords}
use Rattle.fc_change.specs.declared.job.Wants.{Wants}
use Rattle.fc_change.specs.declared.spaces.Spaces.{Spaces}
use Rattle.fc_change.specs.Directories.{CanTell, CanTellAround, IsGrownThere, Rewriting, TellAll, Tells}
use Rattle.fc_change.specs.Drafts.{CanDraft, CanTellJob, IsChangeOf, IsEntryOf, IsPlaced, address_in, told}
use Rattle.fc_change.specs.Jobs.{IsJob}
use Rattle.fc_change.specs.Needs.{AreWants, CanWant}
use Rattle.fc_change.specs.OldSpace.{LieBehind}
use Rattle.fc_change.specs.Places.{CanPlace}
use Rattle.fc_change.specs.Prepared.{CanPrepare, HasPlace}
use Rattle.fc_commands.specs.Jobs.{IsJobFor}
use Rattle.fc_commands.specs.Stages.{CanPrepareJob, IsSpaced}
use Rattle.fc_commands.specs.Run.{IsMapIn}
use Rattle.fc_commands.proofs.EmptySpaceLemmas.{WantsNoSpace, empty_space, no_growth, none_grown, one_said}
use Rattle.fc_commands.proofs.RemovalStageLemmas.{view_of}
use Rattle.fc_commands.proofs.RewordingLemmas.{Fit, Gives, Wording, job_of, worded}
use Rattle.fc_commands.proofs.RewordingLemmas as rewording
use Rattle.fc_commands.proofs.TargetLemmas as target_of

-- ---- whose job it is

-- what a job says of its command
abbrev Of : (nodes : Nodes) (listings : List Listing) → Command → Target → Wording → Type 0
Of nodes listings c t x = (path : Path) × Gives x path c × IsTarget nodes listings path t

of_set : (nodes : Nodes) (listings : List Listing) (c : Command) (t : Target) (w : ObjectWords) (name : List ℕ) → IsJob nodes listings c (jobs.Words t w) name → Of nodes listings c t (Wording.Set w)
of_set nodes listings (Command.Cat path) t w name is = absurd is
of_set nodes listings (Command.Load path) t w name is = absurd is
of_set nodes listings (Command.Digest path) t w name is = absurd is
of_set nodes listings (Command.Save path load exec bytes) t w name is = absurd is
of_set nodes listings (Command.Create path load exec len) t w name is = absurd is
of_set nodes listings (Command.Cdir path) t w name is = absurd is
of_set nodes listings (Command.Delete path) t w name is = absurd is
of_set nodes listings (Command.Rename from to) t w name is = absurd is
of_set nodes listings (Command.Set path load exec access) t w name is = (path, sym (ap (λ (v : ObjectWords). Command.Set path v.load v.exec v.access) is.1), is.0)
of_set nodes listings Command.Free t w name is = absurd is
of_set nodes listings Command.Check t w name is = absurd is
of_set nodes listings Command.Compact t w name is = absurd is
of_set nodes listings Command.Reclaim t w name is = absurd is
of_set nodes listings (Command.Mark path attrs) t w name is = absurd is

of_mark : (nodes : Nodes) (listings : List Listing) (c : Command) (t : Target) (marks : ℕ) (name : List ℕ) → IsJob nodes listings c (jobs.Marks t marks) name → Of nodes listings c t (Wording.Mark marks)
of_mark nodes listings (Command.Cat path) t marks name is = absurd is
of_mark nodes listings (Command.Load path) t marks name is = absurd is
of_mark nodes listings (Command.Digest path) t marks name is = absurd is
of_mark nodes listings (Command.Save path load exec bytes) t marks name is = absurd is
of_mark nodes listings (Command.Create path load exec len) t marks name is = absurd is
of_mark nodes listings (Command.Cdir path) t marks name is = absurd is
of_mark nodes listings (Command.Delete path) t marks name is = absurd is
of_mark nodes listings (Command.Rename from to) t marks name is = absurd is
of_mark nodes listings (Command.Set path load exec access) t marks name is = absurd is
of_mark nodes listings Command.Free t marks name is = absurd is
of_mark nodes listings Command.Check t marks name is = absurd is
of_mark nodes listings Command.Compact t marks name is = absurd is
of_mark nodes listings Command.Reclaim t marks name is = absurd is
of_mark nodes listings (Command.Mark path attrs) t marks name is = (path, sym (ap (Command.Mark path) is.1), is.0)

of_job : (nodes : Nodes) (listings : List Listing) (c : Command) (t : Target) (x : Wording) (name : List ℕ) → IsJob nodes listings c (job_of t x) name → Of nodes listings c t x
of_job nodes listings c t (Wording.Set w) name is = of_set nodes listings c t w name is
of_job nodes listings c t (Wording.Mark marks) name is = of_mark nodes listings c t marks name is

-- and the other way round: whose job it is, by another view
again : (nodes : Nodes) (listings : List Listing) (path : Path) (c : Command) (t : Target) (x : Wording) (name : List ℕ) → Gives x path c → IsJob nodes listings c (job_of t x) name → IsTarget nodes listings path t
again nodes listings path c t (Wording.Set w) name given is = (subst (λ (d : Command). IsJob nodes listings d (jobs.Words t w) name) given is).0
again nodes listings path c t (Wording.Mark marks) name given is = (subst (λ (d : Command). IsJob nodes listings d (jobs.Marks t marks) name) given is).0

-- The target is that of the path, by each sound view whose parts these are.
abbrev pub Targets : Parts → Path → Target → Type 0
Targets h path t = (v : Opened) → AreSound v.layout v.listings → ArePartsOf h v → IsTarget h.nodes v.listings path t

pub targets : (h : Parts) (kind : Kind) (a : Agree kind h) (c : Command) (t : Target) (x : Wording) (name bytes : List ℕ) → IsJobFor c h (job_of t x) name bytes → (path : Path) × Gives x path c × Targets h path t
targets h kind a c t x name bytes j =
    let first = of_job h.nodes a.listings c t x name (j.is (view_of h kind a) (agreed_law.sound_by kind h a) (agreed_law.viewed kind h a)) in
    (first.0, first.1, λ v sound parts. again h.nodes v.listings first.0 c t x name first.1 (j.is v sound parts))

-- ---- what it wants

pub wants_none : (h : Parts) (t : Target) (x : Wording) (name : List ℕ) (w : Wants) → AreWants h (job_of t x) name w → WantsNoSpace w × (w.goes ≡ None)
wants_none h t (Wording.Set words) name w are = (record { bytes = are.bytes; slack = are.slack; copy = are.copy; grows = no_growth w.grows are.room }, are.left)
wants_none h t (Wording.Mark marks) name w are = (record { bytes = are.bytes; slack = are.slack; copy = are.copy; grows = no_growth w.grows are.room }, are.left)

-- ---- what is told

-- The change is that of the target's directory, which has another entry of the same name, as the object then has.
pub record IsRewordingChange (nodes : Nodes) (t : Target) (x : Wording) (c : Change) : Type 0 where
  pub was : Entry
  pub at : IsEntryOf nodes t was
  pub said : Says
  pub says : c.says.items ≡ said ∷ []
  pub tells : Tells None nodes t.holder (Rewriting.Replaces t.at (worded x was)) said
  pub none : c.grown ≡ None
  pub turns : c.object ≡ turns.Turns t.node t.holder (worded x was)

made_change : (nodes : Nodes) (t : Target) (x : Wording) (c : Change) (was e : Entry) → IsEntryOf nodes t was → e ≡ worded x was → c.grown ≡ None → TellAll None nodes ((t.holder, Rewriting.Replaces t.at e) ∷ []) c.says.items
    → c.object ≡ turns.Turns t.node t.holder e → IsRewordingChange nodes t x c
made_change nodes t x c was e at is none tells turned =
    let one = one_said nodes (t.holder, Rewriting.Replaces t.at e) c.says.items tells in
    record {
      was = was;
      at = at;
      said = one.0;
      says = one.1;
      tells = subst (λ (d : Entry). Tells None nodes t.holder (Rewriting.Replaces t.at d) one.0) is one.2;
      none = none;
      turns = turned ∙ ap (turns.Turns t.node t.holder) is;
    }

pub rewording_change : (h : Parts) (t : Target) (x : Wording) (name : List ℕ) (s : Spaces) (c : Change) → s.grown ≡ None → IsChangeOf h (job_of t x) name s c → IsRewordingChange h.nodes t x c
rewording_change h t (Wording.Set w) name s c none is =
    let no = none_grown s none in
    made_change h.nodes t (Wording.Set w) c is.made.0 is.entry is.made.1 is.made.2 (is.grown ∙ no)
    (subst (λ (g : Option Regrowth). TellAll g h.nodes (told h.nodes (jobs.Words t w) name g is.entry) c.says.items) no is.tells) is.object
rewording_change h t (Wording.Mark marks) name s c none is =
    let no = none_grown s none in
    made_change h.nodes t (Wording.Mark marks) c is.made.0 is.entry is.made.1 is.made.2 (is.grown ∙ no)
    (subst (λ (g : Option Regrowth). TellAll g h.nodes (told h.nodes (jobs.Marks t marks) name g is.entry) c.says.items) no is.tells) is.object

-- by any walk: the entry is that of the object
module _ (layout : Layout) (nodes : Nodes) (listings : List Listing) (sound : AreSound layout listings) (held : HoldObjects nodes listings) (path : Path) (t : Target) (target : IsTarget nodes listings path t)
    (x : Wording) (c : Change) (is : IsRewordingChange nodes t x c) where
  was_is : is.was ≡ target.object.entry
  was_is = same_some is.was target.object.entry (sym is.at ∙ target_of.entry layout nodes listings sound held path t target)

  pub tells_it : Tells None nodes t.holder (Rewriting.Replaces t.at (worded x target.object.entry)) is.said
  tells_it = subst (λ (e : Entry). Tells None nodes t.holder (Rewriting.Replaces t.at (worded x e)) is.said) was_is is.tells

  pub turns_it : c.object ≡ turns.Turns t.node t.holder (worded x target.object.entry)
  turns_it = is.turns ∙ ap (λ (e : Entry). turns.Turns t.node t.holder (worded x e)) was_is

-- ---- the stages

module _ (h : Parts) (kind : Kind) (a : Agree kind h) (t : Target) (path : Path) (x : Wording) (on : Targets h path t) (fit : Fit (dir_form h.layout) x) (name : List ℕ) (is_map : IsMapIn h.layout)
    (behind : (space : OldMapContent) → h.layout ≡ Layout.Old space → LieBehind space) where
  abbrev sound : AreSound h.layout a.listings
  sound = agreed_law.sound_by kind h a

  abbrev target : IsTarget h.nodes a.listings path t
  target = on (view_of h kind a) sound (agreed_law.viewed kind h a)

  can_place : (w : Wants) → AreWants h (job_of t x) name w → CanPlace h w
  can_place w is =
      let wants = wants_none h t x name w is in
      let bytes = wants.0.bytes in
      record {
        few = subst (λ (n : ℕ). n < 2 ^ 32) (sym bytes) (omega arith);
        grows = λ g some. absurd (let fits = wants.0.grows in cc);
        copied = λ n some. absurd (let no = wants.0.copy in cc);
        no_growth = λ space at. wants.0.grows;
        behind = behind;
        free = λ space n at some. absurd (let no = wants.1 in cc);
      }

  pub tell : CanTell None h.nodes t.holder (Rewriting.Replaces t.at (worded x target.object.entry))
  tell = rewording.can_tell h.layout h.nodes a.listings sound a.walked.held path t target x fit a.walked.forms a.walked.bodies is_map

  pub can_tell_job : (y : Wording) (address : Option ℕ) → Fit (dir_form h.layout) y → CanTell None h.nodes t.holder (Rewriting.Replaces t.at (worded y target.object.entry)) → CanTellJob h (job_of t y) name address None
  can_tell_job (Wording.Set w) address low can = record {
    entry = worded (Wording.Set w) target.object.entry;
    made = (target.object.entry, target_of.entry h.layout h.nodes a.listings sound a.walked.held path t target, refl);
    first = of_one (λ (q : ℕ × Rewriting). CanTell None h.nodes q.0 q.1) (t.holder, Rewriting.Replaces t.at (worded (Wording.Set w) target.object.entry)) can;
    last = λ q at. absurd (no_element q at);
    begins = low;
  }
  can_tell_job (Wording.Mark marks) address low can = record {
    entry = worded (Wording.Mark marks) target.object.entry;
    made = (target.object.entry, target_of.entry h.layout h.nodes a.listings sound a.walked.held path t target, refl);
    first = of_one (λ (q : ℕ × Rewriting). CanTell None h.nodes q.0 q.1) (t.holder, Rewriting.Replaces t.at (worded (Wording.Mark marks) target.object.entry)) can;
    last = λ q at. absurd (no_element q at);
    begins = tt;
  }

  can_draft : (w : Wants) (s : Spaces) → IsSpaced h (job_of t x) name w s → CanDraft h (job_of t x) name s
  can_draft w s spaced =
      let empty = empty_space h w (wants_none h t x name w spaced.wants).0 s spaced.places in
      let no = none_grown s empty.grown in
      record {
        own = subst (λ (g : Option Regrowth). CanTellJob h (job_of t x) name (address_in s) g) (sym no) (can_tell_job x (address_in s) fit tell);
        there = subst (IsGrownThere h.nodes) (sym no) tt;
        others = subst (λ (g : Option Regrowth). (ns : List ℕ) → CanTellAround h.nodes g ns) (sym no) (λ ns q at. absurd (no_element q at)) _;
      }

  can_prepare : (w : Wants) (s : Spaces) (c : Change) → IsSpaced h (job_of t x) name w s → IsChangeOf h (job_of t x) name s c → CanPrepare h c s
  can_prepare w s c spaced is =
      let empty = empty_space h w (wants_none h t x name w spaced.wants).0 s spaced.places in
      let ch = rewording_change h t x name s c empty.grown is in
      record {
        placed = λ said at.
            subst (λ (n : ℕ). HasPlace h n) (sym ch.tells.number ∙ ap (λ (y : Says). y.node) (only ch.said said (subst (λ (ss : List Says). Contains ss said) ch.says at)))
            (target_of.dir_place h.layout h.nodes a.listings sound a.walked.held path t target h refl refl);
        grows = λ g some. absurd (let no = empty.grown in cc);
      }

  pub wanted : (y : Wording) → CanWant h.nodes (job_of t y)
  wanted (Wording.Set w) = tt
  wanted (Wording.Mark marks) = tt

  pub placed : (y : Wording) (address : Option ℕ) → IsPlaced (job_of t y) address
  placed (Wording.Set w) address = tt
  placed (Wording.Mark marks) address = tt

  pub can_prepare_job : CanPrepareJob h (job_of t x) name
  can_prepare_job = record { want = wanted x; place = can_place; draft = can_draft; placed = λ w s spaced. placed x (address_in s); prepare = can_prepare }
