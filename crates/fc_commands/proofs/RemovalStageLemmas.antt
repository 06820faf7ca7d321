-- `delete`: each stage can follow on the one before, and what is ready in the end.
use Rattle.std.proofs.Common.{◌≡◌, ◌<◌, ◌^◌, ℕ, List, [], ◌∷◌, refl, sym, ap, subst, ◌∙◌, arith, Option, Some, None}
use Rattle.std.specs.Prelude.{Contains}
use Rattle.fc_names.specs.Names.{Path}
use Rattle.fc_record.specs.declared.Kind.{Kind}
use Rattle.fc_oldmap.specs.OldMap.{OldMapContent}
use Rattle.fc_model.specs.Command.{Command}
use Rattle.fc_image.specs.Layout.{Layout}
use Rattle.fc_image.specs.Opening.{Opened}
use Rattle.fc_image.specs.Sound.{AreSound}
use Rattle.fc_image.specs.Walk.{Listing}
use Rattle.fc_tree.specs.Agree.{Agree}
use Rattle.fc_tree.specs.Parts.{ArePartsOf, Parts}
use Rattle.fc_tree.proofs.MemberLemmas.{no_element}
use Rattle.fc_laws.specs.nodes.Edits.{Nodes}
use Rattle.fc_laws.proofs.lemmas.agree.BeforeLemmas.{agreed_law}
use Rattle.fc_edits.proofs.lemmas.ShapeLemmas.{of_one, only}
use Rattle.fc_refusals.specs.Targets.{IsRemovable}
use Rattle.fc_refusals.specs.declared.target.Target.{Target}
use Rattle.fc_change.specs.declared.change.Change.{Change}
use Rattle.fc_change.specs.declared.change.Regrowth.{Regrowth}
use Rattle.fc_change.specs.declared.change.Says.{Says}
use Rattle.fc_change.specs.declared.change.Turned.TheVariants as turns
use Rattle.fc_change.specs.declared.job.Job.TheVariants as jobs
use Rattle.fc_change.specs.declared.job.Wants.{Wants}
use Rattle.fc_change.specs.declared.spaces.Spaces.{Spaces}
use Rattle.fc_change.specs.Directories.{CanTell, CanTellAround, IsGrownThere, Rewriting, TellAll, Tells}
use Rattle.fc_change.specs.Drafts.{CanDraft, CanTellJob, IsChangeOf, address_in, told}
use Rattle.fc_change.specs.Jobs.{IsJob}
use Rattle.fc_change.specs.Needs.{AreWants}
use Rattle.fc_change.specs.OldSpace.{CanFree, LieBehind}
use Rattle.fc_change.specs.Places.{CanPlace}
use Rattle.fc_change.specs.Prepared.{CanPrepare, HasPlace}
use Rattle.fc_commands.specs.Jobs.{IsJobFor}
use Rattle.fc_commands.specs.Stages.{CanPrepareJob, IsSpaced}
use Rattle.fc_commands.specs.Run.{IsMapIn}
use Rattle.fc_commands.proofs.EmptySpaceLemmas.{WantsNoSpace, empty_space, no_growth, none_grown, one_said}
use Rattle.fc_commands.proofs.RemovalLemmas as removal
use Rattle.fc_commands.proofs.TargetLemmas as target_of

-- ---- whose job it is

-- The command is `delete`, of a target that may go.
of_job : (nodes : Nodes) (listings : List Listing) (c : Command) (t : Target) (name : List ℕ) → IsJob nodes listings c (jobs.Removal t) name → (path : Path) × (c ≡ Command.Delete path) × IsRemovable nodes listings path t
of_job nodes listings (Command.Cat path) t name is = absurd is
of_job nodes listings (Command.Load path) t name is = absurd is
of_job nodes listings (Command.Digest path) t name is = absurd is
of_job nodes listings (Command.Save path load exec bytes) t name is = absurd is
of_job nodes listings (Command.Create path load exec len) t name is = absurd is
of_job nodes listings (Command.Cdir path) t name is = absurd is
of_job nodes listings (Command.Delete path) t name is = (path, refl, is)
of_job nodes listings (Command.Rename from to) t name is = absurd is
of_job nodes listings (Command.Set path load exec access) t name is = absurd is
of_job nodes listings Command.Free t name is = absurd is
of_job nodes listings Command.Check t name is = absurd is
of_job nodes listings Command.Compact t name is = absurd is
of_job nodes listings Command.Reclaim t name is = absurd is
of_job nodes listings (Command.Mark path attrs) t name is = absurd is

-- The target may go, by each sound view whose parts these are.
abbrev pub MayGo : Parts → Path → Target → Type 0
MayGo h path t = (v : Opened) → AreSound v.layout v.listings → ArePartsOf h v → IsRemovable h.nodes v.listings path t

-- the view of parts that agree
abbrev pub view_of : (h : Parts) (kind : Kind) → Agree kind h → Opened
view_of h kind a = record { kind = kind; layout = h.layout; listings = a.listings }

pub may_go : (h : Parts) (kind : Kind) (a : Agree kind h) (c : Command) (t : Target) (name bytes : List ℕ) → IsJobFor c h (jobs.Removal t) name bytes → (path : Path) × (c ≡ Command.Delete path) × MayGo h path t
may_go h kind a c t name bytes j =
    let first = of_job h.nodes a.listings c t name (j.is (view_of h kind a) (agreed_law.sound_by kind h a) (agreed_law.viewed kind h a)) in
    (first.0, first.1, λ v sound parts. subst (λ (x : Command). IsJob h.nodes v.listings x (jobs.Removal t) name) first.1 (j.is v sound parts))

-- ---- what it wants

pub removal_wants : (h : Parts) (t : Target) (name : List ℕ) (w : Wants) → AreWants h (jobs.Removal t) name w → WantsNoSpace w
removal_wants h t name w are = record { bytes = are.bytes; slack = are.slack; copy = are.copy; grows = no_growth w.grows are.room }

-- ---- what is told

-- The change is that of one directory, which is told to say less, and of an object that goes.
pub record IsRemovalChange (nodes : Nodes) (t : Target) (c : Change) : Type 0 where
  pub said : Says
  pub says : c.says.items ≡ said ∷ []
  pub tells : Tells None nodes t.holder (Rewriting.Leaves t.at) said
  pub none : c.grown ≡ None
  pub goes : c.object ≡ turns.Goes t.node

pub removal_change : (h : Parts) (t : Target) (name : List ℕ) (s : Spaces) (c : Change) → s.grown ≡ None → IsChangeOf h (jobs.Removal t) name s c → IsRemovalChange h.nodes t c
removal_change h t name s c none is =
    let no = none_grown s none in
    let one = one_said h.nodes (t.holder, Rewriting.Leaves t.at) c.says.items
    (subst (λ (g : Option Regrowth). TellAll g h.nodes (told h.nodes (jobs.Removal t) name g is.entry) c.says.items) no is.tells) in
    record { said = one.0; says = one.1; tells = one.2; none = is.grown ∙ no; goes = is.object }

-- ---- the stages

module _ (h : Parts) (kind : Kind) (a : Agree kind h) (t : Target) (path : Path) (may : MayGo h path t) (name : List ℕ) (is_map : IsMapIn h.layout)
    (behind : (space : OldMapContent) → h.layout ≡ Layout.Old space → LieBehind space)
    (free : (space : OldMapContent) (n : ℕ) → h.layout ≡ Layout.Old space → n ≡ t.node → CanFree space 0 h.nodes n) where
  abbrev sound : AreSound h.layout a.listings
  sound = agreed_law.sound_by kind h a

  abbrev its : IsRemovable h.nodes a.listings path t
  its = may (view_of h kind a) sound (agreed_law.viewed kind h a)

  can_place : (w : Wants) → AreWants h (jobs.Removal t) name w → CanPlace h w
  can_place w is =
      let none : w.bytes ≡ 0 = is.bytes in
      record {
        few = subst (λ (n : ℕ). n < 2 ^ 32) (sym none) (omega arith);
        grows = λ g some. absurd (let fits = no_growth w.grows is.room in cc);
        copied = λ n some. absurd (let no = is.copy in cc);
        no_growth = λ space at. no_growth w.grows is.room;
        behind = behind;
        free = λ space n at some.
            subst (λ (b : ℕ). CanFree space b h.nodes n) (sym none) (free space n at (same n t.node (sym some ∙ is.left)));
      }
    where
      same : (x y : ℕ) → (let q : Option ℕ = Some x in q) ≡ Some y → x ≡ y
      same x y e = cc

  pub can_tell_job : (address : Option ℕ) → CanTellJob h (jobs.Removal t) name address None
  can_tell_job address = record {
    entry = its.target.object.entry;
    made = (its.target.object.entry, target_of.entry h.layout h.nodes a.listings sound a.walked.held path t its.target, refl);
    first = of_one (λ (q : ℕ × Rewriting). CanTell None h.nodes q.0 q.1) (t.holder, Rewriting.Leaves t.at) (removal.can_tell h.layout h.nodes a.listings sound a.walked.held path t its a.walked.forms is_map);
    last = λ q at. absurd (no_element q at);
    begins = tt;
  }

  can_draft : (w : Wants) (s : Spaces) → IsSpaced h (jobs.Removal t) name w s → CanDraft h (jobs.Removal t) name s
  can_draft w s spaced =
      let empty = empty_space h w (removal_wants h t name w spaced.wants) s spaced.places in
      let no = none_grown s empty.grown in
      record {
        own = subst (λ (g : Option Regrowth). CanTellJob h (jobs.Removal t) name (address_in s) g) (sym no) (can_tell_job (address_in s));
        there = subst (IsGrownThere h.nodes) (sym no) tt;
        others = subst (λ (g : Option Regrowth). (ns : List ℕ) → CanTellAround h.nodes g ns) (sym no) (λ ns q at. absurd (no_element q at)) _;
      }

  can_prepare : (w : Wants) (s : Spaces) (c : Change) → IsSpaced h (jobs.Removal t) name w s → IsChangeOf h (jobs.Removal t) name s c → CanPrepare h c s
  can_prepare w s c spaced is =
      let empty = empty_space h w (removal_wants h t name w spaced.wants) s spaced.places in
      let ch = removal_change h t name s c empty.grown is in
      record {
        placed = λ said at.
            subst (λ (n : ℕ). HasPlace h n) (sym ch.tells.number ∙ ap (λ (x : Says). x.node) (only ch.said said (subst (λ (ss : List Says). Contains ss said) ch.says at)))
            (target_of.dir_place h.layout h.nodes a.listings sound a.walked.held path t its.target h refl refl);
        grows = λ g some. absurd (let no = empty.grown in cc);
      }

  pub can_prepare_job : CanPrepareJob h (jobs.Removal t) name
  can_prepare_job = record { want = tt; place = can_place; draft = can_draft; placed = λ w s spaced. tt; prepare = can_prepare }
