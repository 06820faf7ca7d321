-- What follows for a change in the safe mode from the laws of its job.
use Rattle.std.proofs.Common.{◌≡◌, ◌≤◌, ◌+◌, ◌*◌, ◌/◌, inl, inr, ⊎_elim, ℕ, List, [], refl, sym, ap, subst, ◌∙◌, arith, Option, Some, None}
use Rattle.std.specs.Prelude.{Err, IsFalse, Ok, Result}
use Rattle.std.specs.Option.{ForSome}
use Rattle.fc_device.specs.Calls.{SameForm, StopsAndExitsLeave}
use Rattle.fc_device.specs.declared.disk.Disk.{Ghosts}
use Rattle.fc_device.proofs.DiskLaws.{Laws, form_same}
use Rattle.fc_device.proofs.StopLemmas.{keeps_start, keeps_weaker}
use Rattle.fc_record.specs.declared.Kind.{Kind}
use Rattle.fc_newmap.specs.Map.{Map}
use Rattle.fc_record.specs.declared.Geometry.{Geometry}
use Rattle.fc_names.specs.declared.refusal.Refusal.{Refusal}
use Rattle.fc_newmap.specs.Copies.{HoldsCopies}
use Rattle.fc_model.specs.Answer.{changed}
use Rattle.fc_model.specs.Command.{Command}
use Rattle.fc_image.specs.Layout.{Layout, disc_sectors, sector_bytes}
use Rattle.fc_image.specs.Objects.{tree_of}
use Rattle.fc_image.specs.Opening.{Opened}
use Rattle.fc_image.specs.Sound.{AreSound}
use Rattle.fc_image.specs.Stays.{OpensAs}
use Rattle.fc_image.specs.safe.SafeEffect.{HasTreeBeforeOrAfter}
use Rattle.fc_image.specs.safe.SafeShort.{SafeRefusal, safe_refusal}
use Rattle.fc_changes.proofs.lemmas.old.BeforeLemmas.{opened_as}
use Rattle.fc_space.specs.Space.{layout_of}
use Rattle.fc_tree.specs.Parts.{ArePartsOf, Parts}
use Rattle.fc_laws.proofs.lemmas.takeover.KindLemmas.{new_kind}
use Rattle.fc_writing.specs.declared.copies.Copies.{Copies}
use Rattle.fc_writing.specs.declared.copies.Copies.TheVariants.{Equal}
use Rattle.fc_writing.specs.New.{ChangeLeaves, IsChanged, IsGiven}
use Rattle.fc_writing.specs.Ready.{written_place}
use Rattle.fc_writing.proofs.NewLemmas.{step_geometry}
use Rattle.fc_holdings.specs.declared.holdings.Holdings.{Holdings}
use Rattle.fc_holdings.specs.Holdings.{CopiesAre, HoldsMap, Stands, parts_of}
use Rattle.fc_change.specs.declared.job.Job.{Job}
use Rattle.fc_change.specs.declared.job.Wants.{Wants}
use Rattle.fc_change.specs.Needs.{AreWants}
use Rattle.fc_commands.specs.declared.stages.Prepared.{Prepared}
use Rattle.fc_commands.specs.Jobs.{IsJobFor}
use Rattle.fc_commands.specs.Run.{IsMapIn, IsRun}
use Rattle.fc_commands.proofs.VersionLemmas.{tells_version}
use Rattle.fc_safe.specs.declared.error.SafeError.{SafeError}
use Rattle.fc_safe.specs.declared.error.SafeError.TheVariants as errors
use Rattle.fc_safe.specs.Answers.{AnswersSafe}
use Rattle.fc_safe.specs.FirstNeeds.{first_shortage}
use Rattle.fc_safe.specs.Suits.{Suits}
use Rattle.fc_safelaws.specs.Free.{view}
use Rattle.fc_safecrash.specs.Crash.{CrashLaw}
use Rattle.fc_safecommands.specs.Anew.{IsPreparedAnew}
use Rattle.fc_safecommands.specs.JobAnswers.{AnswersSafeOver, AnswersSafely, UnlessDiskFault}
use Rattle.fc_safecommands.specs.Laws.{MappedBy, SafeJobLaws, mapped}
use Rattle.fc_safecommands.specs.Promises.{ChangesPartsSafely, HasChangedSafely, LeavesTree, SafeKeeps, WritesFree, WritesFreeOf, WritesFreeOn}
use Rattle.fc_safecommands.specs.Stages.{RefusesAnew}

-- ---- nothing written

same_tree : (c : Command) (h : Parts) (image : List ℕ) → LeavesTree c h image image
same_tree c h image kind v opens held = inl (record { view = v; opens = opens; tree = refl })

same_free : (h : Parts) (m : Map) (image : List ℕ) → h.layout ≡ Layout.New m → WritesFreeOf h image image
same_free h m image at kind v opens held =
    subst (λ (l : Layout). WritesFreeOn l kind v image image) (sym at)
    (record {
      sectors = [];
      only = record { length_stays = refl; outside = λ s out. refl };
      free = λ s e. absurd (cc);
      boot = λ s e. refl;
      idle = λ s e low. refl;
    })

pub tree_kept : {D : Type 0} (d : Ghosts D) (law : Laws d) (h : Parts) (c : Command) (disk : D) → IsFalse (d.pending disk) → StopsAndExitsLeave d disk disk (LeavesTree c h)
tree_kept d law h c disk quiet = keeps_start law (λ image. same_tree c h image) disk quiet

pub free_kept : {D : Type 0} (d : Ghosts D) (law : Laws d) (h : Parts) (m : Map) (disk : D) → h.layout ≡ Layout.New m → IsFalse (d.pending disk) → StopsAndExitsLeave d disk disk (WritesFreeOf h)
free_kept d law h m disk at quiet = keeps_start law (λ image. same_free h m image at) disk quiet

-- ---- by an image that opens with the map

module _ (h : Parts) (m : Map) (at : h.layout ≡ Layout.New m) (kind : Kind) (v : Opened) (first : List ℕ) (opens : OpensAs first kind v) (held : ArePartsOf h v) where
  pub at_map : v.layout ≡ Layout.New m
  at_map = sym held.layout ∙ at

  pub same_view : (let u : Opened = record { kind = kind; layout = Layout.New m; listings = v.listings } in u) ≡ v
  same_view = opened_as kind first v (Layout.New m) opens at_map

  abbrev pub own : MappedBy m
  own =
      let disc = new_kind first kind v m opens at_map in
      record { kind = kind; r = disc.0; listings = v.listings; image = first; new_kind = disc.1; opens = subst (OpensAs first kind) (sym same_view) opens }

  pub own_held : ArePartsOf h (view (mapped m own))
  own_held = subst (ArePartsOf h) (sym same_view) held

-- ---- a change of which each stage was made

module _ {D : Type 0} (d : Ghosts D) (law : Laws d) (h : Parts) (m : Map) (at : h.layout ≡ Layout.New m) (old new : D) (job : Job) (name bytes : List ℕ) (kind : Kind) (crash : CrashLaw)
    (laws : SafeJobLaws kind m h job name bytes) (p : Prepared) (prep : IsPreparedAnew m h job name p) (keeps : StopsAndExitsLeave d old new (ChangeLeaves m p.ready bytes)) where
  pub tree_left : (c : Command) → IsJobFor c h job name bytes → StopsAndExitsLeave d old new (LeavesTree c h)
  tree_left c j = keeps_weaker law keeps (λ first image left k v opens held.
      (let x = own h m at k v first opens held in
      let leads = laws.leads c p x j prep (own_held h m at k v first opens held) in
      subst (λ (w : Opened). HasTreeBeforeOrAfter k (record { image = first; view = w }) (changed (tree_of first w.layout w.listings) c) image) (same_view h m at k v first opens held)
      (crash.crash (mapped m x) p.ready bytes (changed (tree_of first (Layout.New m) v.listings) c) image leads left)))

  pub free_left : (c : Command) → IsJobFor c h job name bytes → StopsAndExitsLeave d old new (WritesFreeOf h)
  free_left c j = keeps_weaker law keeps (λ first image left k v opens held.
      (let x = own h m at k v first opens held in
      let leads = laws.leads c p x j prep (own_held h m at k v first opens held) in
      let rest = crash.rest (mapped m x) p.ready bytes image leads.free left in
      subst (λ (l : Layout). WritesFreeOn l k v first image) (sym at)
      (subst (λ (w : Opened). WritesFree k w m first image) (same_view h m at k v first opens held)
      (record { sectors = written_place p.ready; only = rest.only; free = leads.free; boot = rest.boot; idle = rest.idle }))))

  -- ---- and of which the last one was made, too

  module _ (now : Parts) (m' : Map) (at_now : now.layout ≡ Layout.New m') (number : ℕ) (run : IsRun h now p number) (given : IsGiven m p.ready m')
      (done : ForSome (d.bytes old) (λ first. ForSome (d.bytes new) (IsChanged m m' p.ready bytes first))) where
    over : (c : Command) → IsJobFor c h job name bytes → (first image : List ℕ) → d.bytes old ≡ Some first → d.bytes new ≡ Some image → ChangesPartsSafely c h now first image
    over c j first image told_first told = laws.changes c p m' now number first image j prep run at_now (done first told_first image told)

    pub has_changed : (c : Command) → IsJobFor c h job name bytes → HasChangedSafely d c h now old new
    has_changed c j first told = let there = keeps.exit first told in (there.0, there.1, over c j first there.0 told there.1)

    pub suits_now : Suits now.layout now.nodes
    suits_now = (laws.agrees p now number prep run).1

    pub same_geometry : m'.geometry ≡ m.geometry
    same_geometry = step_geometry given.0 m' p.ready.give given.2 ∙ step_geometry m given.0 p.ready.take given.1

-- ---- answers

-- what first fit refuses
pub refuses_first : (T : Type 0) (m : Map) (h : Parts) (job : Job) (name : List ℕ) (w : Wants) (error : SafeError) → AreWants h job name w → AnswersSafe {T = T} (Err error) (first_shortage m h job w)
    → RefusesAnew m h job name error
refuses_first T m h job name w (errors.Refused r) are is = inr (w, are, is)
refuses_first T m h job name w (errors.Spread zones) are is = (w, are, is)
refuses_first T m h job name w errors.NoMemory are is = tt
refuses_first T m h job name w errors.DiskFault are is = absurd is

-- memory may be short, refused or not
pub no_memory : (o : Option SafeRefusal) → AnswersSafely {T = Unit {0}} o (Err errors.NoMemory)
no_memory None = tt
no_memory (Some refusal) = tt

module _ (kind : Kind) (m : Map) (h : Parts) (job : Job) (name bytes : List ℕ) (laws : SafeJobLaws kind m h job name bytes) (c : Command) (j : IsJobFor c h job name bytes) where
  -- a refusal of the stages is the command's
  pub refuses : (error : SafeError) → RefusesAnew m h job name error → AnswersSafeOver {T = Unit {0}} c h (Err error)
  refuses (errors.Refused r) is v sound held =
      subst (λ (o : Option SafeRefusal). AnswersSafely {T = Unit {0}} o (Err (errors.Refused r))) (sym (
      ⊎_elim (λ full. laws.full c v j full.1 sound held ∙ ap (λ (x : Refusal). let o : Option SafeRefusal = Some (SafeRefusal.Refused x) in o) (sym full.0))
      (λ short. laws.short_is c short.0 v j short.1 sound held ∙ short.2) is)) refl
  refuses (errors.Spread zones) is v sound held =
      subst (λ (o : Option SafeRefusal). AnswersSafely {T = Unit {0}} o (Err (errors.Spread zones))) (sym (laws.short_is c is.0 v j is.1 sound held ∙ is.2)) refl
  refuses errors.NoMemory is v sound held = no_memory (safe_refusal v c)
  refuses errors.DiskFault is v sound held = absurd is

  -- and if there is none, none is
  module _ (p : Prepared) (prep : IsPreparedAnew m h job name p) where
    none : (v : Opened) → AreSound v.layout v.listings → ArePartsOf h v → safe_refusal v c ≡ None
    none v sound held = laws.short_is c prep.wants v j prep.are_wants sound held ∙ prep.enough

    pub accepts : AnswersSafeOver {T = Unit {0}} c h (Ok tt)
    accepts v sound held = subst (λ (o : Option SafeRefusal). AnswersSafely o (Ok tt)) (sym (none v sound held)) tt

    pub faults : AnswersSafeOver {T = Unit {0}} c h (Err errors.DiskFault)
    faults v sound held = subst (λ (o : Option SafeRefusal). AnswersSafely {T = Unit {0}} o (Err errors.DiskFault)) (sym (none v sound held)) tt

-- ---- the holdings afterwards

module _ {D : Type 0} (d : Ghosts D) (was now : Holdings) (m m' : Map) (at : layout_of was.places ≡ Layout.New m) (at_now : layout_of now.places ≡ Layout.New m') (old new : D) (job : Job) (name bytes : List ℕ)
    (stands : Stands d was old) (is_map : IsMapIn (layout_of was.places)) (laws : SafeJobLaws stands.agree.0 m (parts_of was) job name bytes) (p : Prepared) (prep : IsPreparedAnew m (parts_of was) job name p)
    (keeps : StopsAndExitsLeave d old new (ChangeLeaves m p.ready bytes)) (number : ℕ) (run : IsRun (parts_of was) (parts_of now) p number) (given : IsGiven m p.ready m')
    (done : ForSome (d.bytes old) (λ first. ForSome (d.bytes new) (IsChanged m m' p.ready bytes first))) where
  same : m'.geometry ≡ m.geometry
  same = step_geometry given.0 m' p.ready.give given.2 ∙ step_geometry m given.0 p.ready.take given.1

  bytes_same : sector_bytes (layout_of now.places) ≡ sector_bytes (layout_of was.places)
  bytes_same = ap sector_bytes at_now ∙ ap (λ (g : Geometry). g.sector) same ∙ sym (ap sector_bytes at)

  sectors_same : disc_sectors (layout_of now.places) ≡ disc_sectors (layout_of was.places)
  sectors_same = ap disc_sectors at_now ∙ ap (λ (g : Geometry). g.disc_bits * g.bit_bytes / g.sector) same ∙ sym (ap disc_sectors at)

  pub stands_now : (c : Command) → IsJobFor c (parts_of was) job name bytes → now.copies ≡ Equal → SameForm d old new → Stands d now new
  stands_now c j equal form = record {
    size = form.size_stays ∙ stands.size ∙ sym bytes_same;
    room = subst (λ (n : ℕ). disc_sectors (layout_of now.places) ≤ n) (sym form.sectors_stay) (subst (λ (k : ℕ). k ≤ d.sectors old) (sym sectors_same) stands.room);
    map_room = subst (HoldsMap (layout_of now.places)) (sym form.sectors_stay)
        (subst (λ (l : Layout). HoldsMap l (d.sectors old)) (sym at_now)
        (subst (λ (g : Geometry). g.map_sector + 2 * g.zones ≤ d.sectors old) (sym same) (subst (λ (l : Layout). HoldsMap l (d.sectors old)) at stands.map_room)));
    version = tells_version (layout_of was.places) (layout_of now.places) p.ready is_map run.given stands.version;
    agree = (stands.agree.0, (laws.agrees p (parts_of now) number prep run).0);
    image = λ image told.
        (let first = keeps.told image told in
        let s = stands.image first.0 first.1 in
        let o = laws.changes c p m' (parts_of now) number first.0 image j prep run at_now (done first.0 first.1 image told) s.0 s.1 s.2 s.3 in
        (s.0, o.0, o.1.opens.opens, o.2));
    copies = λ image told.
        (let first = keeps.told image told in
        subst (λ (k : Copies). CopiesAre k (layout_of now.places) image) (sym equal)
        (subst (λ (l : Layout). CopiesAre Equal l image) (sym at_now)
        (subst (λ (g : Geometry). HoldsCopies g m'.zones image) (sym same) (done first.0 first.1 image told).copies)));
  }

  -- what an accepted command keeps
  pub kept_done : (c : Command) → IsJobFor c (parts_of was) job name bytes → now.copies ≡ Equal → IsFalse (d.pending new) → SameForm d old new → d.faults old ≤ d.faults new → SafeKeeps d old new was now (Ok tt)
  kept_done c j equal quiet form later = record {
    unchanged = tt;
    stands = stands_now c j equal form;
    settled = quiet;
    suits = (laws.agrees p (parts_of now) number prep run).1;
    form = form;
    faults = later;
    cause = λ e. absurd (cc);
  }

-- ---- a refusal, or no memory

unless_fault : (error : SafeError) (P : Type 0) → (error ≡ errors.DiskFault → ⊥) → P → UnlessDiskFault {T = Unit {0}} (Err error) P
unless_fault (errors.Refused r) P not_fault holds = holds
unless_fault (errors.Spread zones) P not_fault holds = holds
unless_fault errors.NoMemory P not_fault holds = holds
unless_fault errors.DiskFault P not_fault holds = absurd (not_fault refl)

same_error : (e f : SafeError) → (let r : Result (Unit {0}) SafeError = Err e in r) ≡ Err f → e ≡ f
same_error e f is = cc

pub kept_same : {D : Type 0} (d : Ghosts D) (disk : D) (was : Holdings) (error : SafeError) → Stands d was disk → IsFalse (d.pending disk) → Suits (parts_of was).layout (parts_of was).nodes → (error ≡ errors.DiskFault → ⊥)
    → SafeKeeps d disk disk was was (Err error)
kept_same d disk was error stands quiet suits not_fault = record {
  unchanged = λ other. (refl, refl);
  stands = unless_fault error _ not_fault stands;
  settled = unless_fault error _ not_fault quiet;
  suits = unless_fault error _ not_fault suits;
  form = form_same d disk;
  faults = omega arith;
  cause = λ e. absurd (not_fault (same_error error errors.DiskFault e));
}
