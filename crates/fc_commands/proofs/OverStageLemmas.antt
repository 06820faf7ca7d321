-- `save` and `create` over a file: whose job it is, what is drafted of it, and that each stage can follow on the one before.
use Rattle.std.proofs.Common.{◌≡◌, ◌<◌, ◌^◌, ◌⊎◌, inl, inr, ℕ, length, List, [], ◌∷◌, refl, sym, ap, subst, ◌∙◌, Option, Some, None}
use Rattle.std.specs.Prelude.{Contains, is_some}
use Rattle.std.specs.Option.{option_map, unwrap_or}
use Rattle.fc_names.specs.Names.{Path}
use Rattle.fc_record.specs.declared.Kind.{Kind}
use Rattle.fc_oldmap.specs.OldMap.{OldMapContent}
use Rattle.fc_model.specs.Command.{Command}
use Rattle.fc_dirs.specs.declared.Entry.{Entry}
use Rattle.fc_drafts.specs.Draft.{CanAddress}
use Rattle.fc_drafts.specs.Entries.{saved_entry}
use Rattle.fc_image.specs.Layout.{Layout}
use Rattle.fc_image.specs.Opening.{Opened}
use Rattle.fc_image.specs.Sound.{AreSound}
use Rattle.fc_image.specs.Walk.{Listing}
use Rattle.fc_tree.specs.Agree.{Agree}
use Rattle.fc_tree.specs.Nodes.{HoldObjects}
use Rattle.fc_tree.specs.Parts.{ArePartsOf, Parts}
use Rattle.fc_tree.proofs.MemberLemmas.{no_element}
use Rattle.fc_tree.proofs.WalkedLemmas.{same_some}
use Rattle.fc_laws.specs.nodes.Edits.{Nodes}
use Rattle.fc_laws.proofs.lemmas.agree.BeforeLemmas.{agreed_law}
use Rattle.fc_edits.proofs.lemmas.ShapeLemmas.{of_one, only}
use Rattle.fc_refusals.specs.Slots.{IsFile}
use Rattle.fc_refusals.specs.declared.target.Slot.TheVariants as slots
use Rattle.fc_refusals.specs.declared.target.Target.{Target}
use Rattle.fc_change.specs.declared.change.Change.{Change}
use Rattle.fc_change.specs.declared.change.Regrowth.{Regrowth}
use Rattle.fc_change.specs.declared.change.Says.{Says}
use Rattle.fc_change.specs.declared.change.Turned.TheVariants as turns
use Rattle.fc_change.specs.declared.job.FileWords.{FileWords}
use Rattle.fc_change.specs.declared.job.Job.{Job}
use Rattle.fc_change.specs.declared.job.Job.TheVariants as jobs
use Rattle.fc_change.specs.declared.job.Wants.{Wants}
use Rattle.fc_change.specs.declared.spaces.Place.{Place}
use Rattle.fc_change.specs.declared.spaces.Spaces.{Spaces}
use Rattle.fc_change.specs.Directories.{CanTell, CanTellAround, IsGrownThere, Rewriting, TellAll, Tells}
use Rattle.fc_change.specs.Drafts.{CanDraft, CanTellJob, IsChangeOf, IsEntryOf, IsPlaced, address_in, told}
use Rattle.fc_change.specs.Jobs.{IsJob}
use Rattle.fc_change.specs.Needs.{AreWants}
use Rattle.fc_change.specs.OldSpace.{CanFree, LieBehind}
use Rattle.fc_change.specs.Places.{CanPlace}
use Rattle.fc_change.specs.Prepared.{CanPrepare, HasPlace}
use Rattle.fc_commands.specs.Jobs.{HasBytes, IsJobFor}
use Rattle.fc_commands.specs.Run.{IsMapIn}
use Rattle.fc_commands.specs.Stages.{CanPrepareJob, IsSpaced}
use Rattle.fc_commands.proofs.ArrivalLemmas.{Arrival, Brings}
use Rattle.fc_commands.proofs.ArrivalPlaceLemmas.{IsItsPlace, WantsPlace, address_fits, its_place}
use Rattle.fc_commands.proofs.EmptySpaceLemmas.{no_growth, none_grown, one_said}
use Rattle.fc_commands.proofs.OverLemmas as over
use Rattle.fc_commands.proofs.RemovalStageLemmas.{view_of}
use Rattle.fc_commands.proofs.TargetLemmas as target_of

abbrev pub job_of : Target → FileWords → Job
job_of t words = jobs.File (slots.Over t) words

-- ---- whose job it is

-- The command saves the file that the target is.
pub record IsSaving (nodes : Nodes) (listings : List Listing) (c : Command) (t : Target) (words : FileWords) (bytes : List ℕ) : Type 0 where
  pub path : Path
  pub brings : Brings (Arrival.Saves words) path bytes c
  pub file : IsFile nodes listings path t

of_job : (nodes : Nodes) (listings : List Listing) (c : Command) (t : Target) (words : FileWords) (name bytes : List ℕ) → IsJob nodes listings c (jobs.File (slots.Over t) words) name → HasBytes c bytes
    → IsSaving nodes listings c t words bytes
of_job nodes listings (Command.Cat path) t words name bytes is has = absurd is
of_job nodes listings (Command.Load path) t words name bytes is has = absurd is
of_job nodes listings (Command.Digest path) t words name bytes is has = absurd is
of_job nodes listings (Command.Save path load exec saved) t words name bytes is has = record {
  path = path;
  brings = inl (
    (λ i. Command.Save path (ap (λ (w : FileWords). w.load) (sym is.1) i) (ap (λ (w : FileWords). w.exec) (sym is.1) i) (sym has i)),
    ap (λ (w : FileWords). w.len) is.1 ∙ ap (λ (bs : List ℕ). length bs) (sym has),
  );
  file = is.0;
}
of_job nodes listings (Command.Create path load exec len) t words name bytes is has = record {
  path = path;
  brings = inr ((λ i. Command.Create path (ap (λ (w : FileWords). w.load) (sym is.1) i) (ap (λ (w : FileWords). w.exec) (sym is.1) i) (ap (λ (w : FileWords). w.len) (sym is.1) i)), has);
  file = is.0;
}
of_job nodes listings (Command.Cdir path) t words name bytes is has = absurd is
of_job nodes listings (Command.Delete path) t words name bytes is has = absurd is
of_job nodes listings (Command.Rename from to) t words name bytes is has = absurd is
of_job nodes listings (Command.Set path load exec access) t words name bytes is has = absurd is
of_job nodes listings Command.Free t words name bytes is has = absurd is
of_job nodes listings Command.Check t words name bytes is has = absurd is
of_job nodes listings Command.Compact t words name bytes is has = absurd is
of_job nodes listings Command.Reclaim t words name bytes is has = absurd is
of_job nodes listings (Command.Mark path attrs) t words name bytes is has = absurd is

-- and the other way round: by another view
again : (nodes : Nodes) (listings : List Listing) (path : Path) (c : Command) (t : Target) (words : FileWords) (name bytes : List ℕ) → Brings (Arrival.Saves words) path bytes c
    → IsJob nodes listings c (jobs.File (slots.Over t) words) name → IsFile nodes listings path t
again nodes listings path c t words name bytes (inl brings) is = (subst (λ (k : Command). IsJob nodes listings k (jobs.File (slots.Over t) words) name) brings.0 is).0
again nodes listings path c t words name bytes (inr brings) is = (subst (λ (k : Command). IsJob nodes listings k (jobs.File (slots.Over t) words) name) brings.0 is).0

-- The file is that of the path, by each sound view whose parts these are.
abbrev pub Covers : Parts → Path → Target → Type 0
Covers h path t = (v : Opened) → AreSound v.layout v.listings → ArePartsOf h v → IsFile h.nodes v.listings path t

pub covers : (h : Parts) (kind : Kind) (a : Agree kind h) (c : Command) (t : Target) (words : FileWords) (name bytes : List ℕ) → IsJobFor c h (job_of t words) name bytes
    → (path : Path) × Brings (Arrival.Saves words) path bytes c × Covers h path t
covers h kind a c t words name bytes j =
    let first = of_job h.nodes a.listings c t words name bytes (j.is (view_of h kind a) (agreed_law.sound_by kind h a) (agreed_law.viewed kind h a)) j.bytes_are in
    (first.path, first.brings, λ v sound parts. again h.nodes v.listings first.path c t words name bytes first.brings (j.is v sound parts))

-- ---- what it wants

-- Its bytes, and what the file leaves that was there.
pub over_wants : (h : Parts) (t : Target) (words : FileWords) (name : List ℕ) (w : Wants) → AreWants h (job_of t words) name w → WantsPlace h t.holder (Arrival.Saves words) w × (w.goes ≡ Some t.node)
over_wants h t words name w are = (record { bytes = are.bytes; slack = are.slack; copy = are.copy; grows = no_growth w.grows are.room }, are.left)

-- ---- what is told

-- The change is that of the file's directory, which has another entry of the same name, as the file then has.
pub record IsOverChange (nodes : Nodes) (t : Target) (words : FileWords) (address : ℕ) (c : Change) : Type 0 where
  pub was : Entry
  pub at : IsEntryOf nodes t was
  pub said : Says
  pub says : c.says.items ≡ said ∷ []
  pub tells : Tells None nodes t.holder (Rewriting.Replaces t.at (saved_entry was words.load words.exec words.len address)) said
  pub none : c.grown ≡ None
  pub turns : c.object ≡ turns.Turns t.node t.holder (saved_entry was words.load words.exec words.len address)

made_change : (nodes : Nodes) (t : Target) (words : FileWords) (address : ℕ) (c : Change) (was e : Entry) → IsEntryOf nodes t was → e ≡ saved_entry was words.load words.exec words.len address → c.grown ≡ None
    → TellAll None nodes ((t.holder, Rewriting.Replaces t.at e) ∷ []) c.says.items → c.object ≡ turns.Turns t.node t.holder e → IsOverChange nodes t words address c
made_change nodes t words address c was e at is none tells turned =
    let one = one_said nodes (t.holder, Rewriting.Replaces t.at e) c.says.items tells in
    record {
      was = was;
      at = at;
      said = one.0;
      says = one.1;
      tells = subst (λ (d : Entry). Tells None nodes t.holder (Rewriting.Replaces t.at d) one.0) is one.2;
      none = none;
      turns = turned ∙ ap (turns.Turns t.node t.holder) is;
    }

pub over_change : (h : Parts) (t : Target) (words : FileWords) (name : List ℕ) (s : Spaces) (c : Change) → s.grown ≡ None → IsChangeOf h (job_of t words) name s c
    → IsOverChange h.nodes t words (unwrap_or (address_in s) 0) c
over_change h t words name s c none is =
    let no = none_grown s none in
    made_change h.nodes t words (unwrap_or (address_in s) 0) c is.made.0 is.entry is.made.1 is.made.2 (is.grown ∙ no)
    (subst (λ (g : Option Regrowth). TellAll g h.nodes (told h.nodes (jobs.File (slots.Over t) words) name g is.entry) c.says.items) no is.tells) is.object

-- by any walk: the entry is that of the file
module _ (layout : Layout) (nodes : Nodes) (listings : List Listing) (sound : AreSound layout listings) (held : HoldObjects nodes listings) (path : Path) (t : Target) (file : IsFile nodes listings path t)
    (words : FileWords) (address : ℕ) (c : Change) (is : IsOverChange nodes t words address c) where
  was_is : is.was ≡ file.target.object.entry
  was_is = same_some is.was file.target.object.entry (sym is.at ∙ target_of.entry layout nodes listings sound held path t file.target)

  pub tells_it : Tells None nodes t.holder (Rewriting.Replaces t.at (saved_entry file.target.object.entry words.load words.exec words.len address)) is.said
  tells_it = subst (λ (e : Entry). Tells None nodes t.holder (Rewriting.Replaces t.at (saved_entry e words.load words.exec words.len address)) is.said) was_is is.tells

  pub turns_it : c.object ≡ turns.Turns t.node t.holder (saved_entry file.target.object.entry words.load words.exec words.len address)
  turns_it = is.turns ∙ ap (λ (e : Entry). turns.Turns t.node t.holder (saved_entry e words.load words.exec words.len address)) was_is

-- ---- the stages

module _ (h : Parts) (kind : Kind) (a : Agree kind h) (t : Target) (path : Path) (words : FileWords) (on : Covers h path t) (few : words.len < 2 ^ 32) (name : List ℕ) (is_map : IsMapIn h.layout)
    (behind : (space : OldMapContent) → h.layout ≡ Layout.Old space → LieBehind space)
    (can_free : (space : OldMapContent) (bytes n : ℕ) → h.layout ≡ Layout.Old space → n ≡ t.node → CanFree space bytes h.nodes n) where
  abbrev sound : AreSound h.layout a.listings
  sound = agreed_law.sound_by kind h a

  abbrev file : IsFile h.nodes a.listings path t
  file = on (view_of h kind a) sound (agreed_law.viewed kind h a)

  can_place : (w : Wants) → AreWants h (job_of t words) name w → CanPlace h w
  can_place w are =
      let wants = over_wants h t words name w are in
      record {
        few = subst (λ (n : ℕ). n < 2 ^ 32) (sym wants.0.bytes) few;
        grows = λ g some. absurd (let no = wants.0.grows in cc);
        copied = λ n some. absurd (let no = wants.0.copy in cc);
        no_growth = λ space at. wants.0.grows;
        behind = behind;
        free = λ space n at some. can_free space w.bytes n at (same_some n t.node (sym some ∙ wants.1));
      }

  tell : (address : ℕ) → CanAddress file.target.listing.content address → CanTell None h.nodes t.holder (Rewriting.Replaces t.at (saved_entry file.target.object.entry words.load words.exec words.len address))
  tell address fits = over.can_tell h.layout h.nodes a.listings sound a.walked.held path t file words address a.walked.forms a.walked.bodies fits is_map

  can_tell_job : (address : Option ℕ) → CanAddress file.target.listing.content (unwrap_or address 0) → CanTellJob h (job_of t words) name address None
  can_tell_job address fits =
      let e = saved_entry file.target.object.entry words.load words.exec words.len (unwrap_or address 0) in
      record {
        entry = e;
        made = (file.target.object.entry, target_of.entry h.layout h.nodes a.listings sound a.walked.held path t file.target, refl);
        first = of_one (λ (q : ℕ × Rewriting). CanTell None h.nodes q.0 q.1) (t.holder, Rewriting.Replaces t.at e) (tell (unwrap_or address 0) fits);
        last = λ q at. absurd (no_element q at);
        begins = tt;
      }

  module _ (w : Wants) (s : Spaces) (spaced : IsSpaced h (job_of t words) name w s) where
    its : IsItsPlace s
    its = its_place h t.holder (Arrival.Saves words) w (over_wants h t words name w spaced.wants).0 s spaced.places

    address_at : unwrap_or (address_in s) 0 ≡ its.place.address
    address_at = ap (λ (o : Option Place). unwrap_or (option_map (λ (p : Place). p.address) o) 0) its.is

    fits : CanAddress file.target.listing.content (unwrap_or (address_in s) 0)
    fits =
        subst (CanAddress file.target.listing.content) (sym address_at)
        (address_fits h w file.target.listing.content file.target.listing.object.entry.len is_map s its.place (a.walked.forms file.target.listing file.target.listed) its.is spaced.places)

    can_draft : CanDraft h (job_of t words) name s
    can_draft =
        let no = none_grown s its.grown in
        record {
          own = subst (λ (g : Option Regrowth). CanTellJob h (job_of t words) name (address_in s) g) (sym no) (can_tell_job (address_in s) fits);
          there = subst (IsGrownThere h.nodes) (sym no) tt;
          others = subst (λ (g : Option Regrowth). (ns : List ℕ) → CanTellAround h.nodes g ns) (sym no) (λ ns q at. absurd (no_element q at)) _;
        }

    placed : IsPlaced (job_of t words) (address_in s)
    placed = ap (λ (o : Option Place). is_some (option_map (λ (p : Place). p.address) o)) its.is

    can_prepare : (c : Change) → IsChangeOf h (job_of t words) name s c → CanPrepare h c s
    can_prepare c is =
        let ch = over_change h t words name s c its.grown is in
        record {
          placed = λ said at.
              subst (λ (n : ℕ). HasPlace h n) (sym ch.tells.number ∙ ap (λ (y : Says). y.node) (only ch.said said (subst (λ (ss : List Says). Contains ss said) ch.says at)))
              (target_of.dir_place h.layout h.nodes a.listings sound a.walked.held path t file.target h refl refl);
          grows = λ g some. absurd (let no = its.grown in cc);
        }

  pub can_prepare_job : CanPrepareJob h (job_of t words) name
  can_prepare_job = record { want = tt; place = can_place; draft = can_draft; placed = placed; prepare = λ w s c spaced is. can_prepare w s spaced c is }
