-- `set` and `mark` leave the map as it is, at any moment.
use Rattle.std.proofs.Common.{◌≡◌, ℕ, List, [], ◌++◌, ap, refl, subst, Option, None}
use Rattle.fc_names.specs.Names.{Path}
use Rattle.fc_record.specs.declared.Kind.{Kind}
use Rattle.fc_newmap.specs.Map.{Map}
use Rattle.fc_model.specs.Command.{Command}
use Rattle.fc_image.specs.Layout.{Layout}
use Rattle.fc_image.specs.Walk.{Listing}
use Rattle.fc_laws.specs.nodes.Edits.{Nodes}
use Rattle.fc_laws.proofs.lemmas.agree.BeforeLemmas.{agreed_law}
use Rattle.fc_placing.specs.Places.{shared_id}
use Rattle.fc_plan.specs.declared.plan.Plan.{Plan}
use Rattle.fc_refusals.specs.declared.target.Target.{Target}
use Rattle.fc_tree.specs.Agree.{Agree}
use Rattle.fc_tree.specs.Parts.{Parts}
use Rattle.fc_writing.specs.declared.ready.MapStep.{MapStep}
use Rattle.fc_writing.specs.declared.ready.MapStep.TheVariants as steps
use Rattle.fc_change.specs.declared.job.Job.{Job}
use Rattle.fc_change.specs.declared.job.Job.TheVariants as jobs
use Rattle.fc_change.specs.declared.job.Wants.{Wants}
use Rattle.fc_change.specs.declared.spaces.Spaces.{Spaces}
use Rattle.fc_change.specs.GrownSpace.{freed}
use Rattle.fc_change.specs.Jobs.{IsJob}
use Rattle.fc_change.specs.Needs.{AreWants}
use Rattle.fc_change.specs.OldSpace.{units_given}
use Rattle.fc_change.specs.Places.{AreLeft, ArePlacesOn, plan_in}
use Rattle.fc_change.specs.Shortage.{is_grown_alone}
use Rattle.fc_change.specs.Steps.{IsStep}
use Rattle.fc_commands.specs.Jobs.{IsJobFor}
use Rattle.fc_commands.specs.Promises.{IsUnderWay, SameMap, StepsMap}
use Rattle.fc_commands.proofs.EmptySpaceLemmas.{none_planned, placed_nowhere, takes_none}
use Rattle.fc_commands.proofs.RemovalStageLemmas.{view_of}
use Rattle.fc_commands.proofs.RewordingLemmas.{Wording, job_of}
use Rattle.fc_commands.proofs.RewordingStageLemmas.{wants_none}

-- ---- the job

-- The job gives some object other words or attributes.
abbrev IsWording : Job → Type 0
IsWording job = (t : Target) × (x : Wording) × (job ≡ job_of t x)

pub set_job : (nodes : Nodes) (listings : List Listing) (path : Path) (load exec access : ℕ) (job : Job) (name : List ℕ) → IsJob nodes listings (Command.Set path load exec access) job name → IsWording job
set_job nodes listings path load exec access (jobs.File slot words) name is = absurd is
set_job nodes listings path load exec access (jobs.Directory dir) name is = absurd is
set_job nodes listings path load exec access (jobs.Removal t) name is = absurd is
set_job nodes listings path load exec access (jobs.Move r) name is = absurd is
set_job nodes listings path load exec access (jobs.Words t words) name is = (t, Wording.Set words, refl)
set_job nodes listings path load exec access (jobs.Marks t marks) name is = absurd is

pub mark_job : (nodes : Nodes) (listings : List Listing) (path : Path) (attrs : ℕ) (job : Job) (name : List ℕ) → IsJob nodes listings (Command.Mark path attrs) job name → IsWording job
mark_job nodes listings path attrs (jobs.File slot words) name is = absurd is
mark_job nodes listings path attrs (jobs.Directory dir) name is = absurd is
mark_job nodes listings path attrs (jobs.Removal t) name is = absurd is
mark_job nodes listings path attrs (jobs.Move r) name is = absurd is
mark_job nodes listings path attrs (jobs.Words t words) name is = absurd is
mark_job nodes listings path attrs (jobs.Marks t marks) name is = (t, Wording.Mark marks, refl)

-- ---- its spaces have no step

-- No step is made.
abbrev MakesNone : Spaces → Type 0
MakesNone s = (s.take ≡ steps.Nothing) × (s.give ≡ steps.Nothing)

no_step : (m : Map) (step : MapStep) → IsStep m [] [] [] None step → step ≡ steps.Nothing
no_step m (steps.New s) is = absurd (is.some (record { plans_are = refl; gone_are = refl; root_is = refl }))
no_step m (steps.Old space) is = absurd is
no_step m steps.Nothing is = refl

makes_none : (h : Parts) (layout : Layout) (t : Target) (x : Wording) (name : List ℕ) (w : Wants) (s : Spaces) → AreWants h (job_of t x) name w → ArePlacesOn layout h w s → MakesNone s
makes_none h (Layout.New m) t x name w s wants p =
    let none = wants_none h t x name w wants in
    let nowhere = placed_nowhere h w none.0 m h.owners p.placing p.is in
    let planned = none_planned h w none.0 m (plan_in p.placing) p.dir s.grown p.grown in
    let left = subst (λ (o : Option ℕ). AreLeft h.owners o (shared_id p.placing) p.gone) none.1 p.left in
    let gives = subst (λ (d : Option Plan). IsStep m [] (freed h w d ++ p.gone) [] None s.give) planned.0 p.give in (
      no_step m s.take (takes_none m (is_grown_alone h w.grows) p.placing p.dir s.grown s.take nowhere planned.0 planned.1 p.take),
      no_step m s.give (subst (λ (gone : List ℕ). IsStep m [] gone [] None s.give) left gives),
    )
makes_none h (Layout.Old space) t x name w s wants p =
    let none = wants_none h t x name w wants in (p.takes_none none.0.bytes, p.gives_none (ap (units_given space h.nodes) none.1))

-- ---- the map

still : (layout : Layout) (take give : MapStep) (was image : List ℕ) → take ≡ steps.Nothing → give ≡ steps.Nothing → StepsMap layout take give was image → SameMap layout was image
still (Layout.New m) take give was image no_take no_give map = map.still no_take no_give
still (Layout.Old space) take give was image no_take no_give map = map.still no_take no_give

job_still : (h : Parts) (job : Job) (name was image : List ℕ) → IsWording job → IsUnderWay h job name was image → SameMap h.layout was image
job_still h job name was image wording way =
    let wants = subst (λ (j : Job). AreWants h j name way.wants) wording.2 way.spaced.wants in
    let none = makes_none h h.layout wording.0 wording.1 name way.wants way.spaces wants way.spaced.places in
    still h.layout way.spaces.take way.spaces.give was image none.0 none.1 way.map

module _ (h : Parts) (kind : Kind) (a : Agree kind h) (job : Job) (name bytes was image : List ℕ) (way : IsUnderWay h job name was image) where
  pub set_still : (path : Path) (load exec access : ℕ) → IsJobFor (Command.Set path load exec access) h job name bytes → SameMap h.layout was image
  set_still path load exec access j =
      job_still h job name was image
      (set_job h.nodes a.listings path load exec access job name (j.is (view_of h kind a) (agreed_law.sound_by kind h a) (agreed_law.viewed kind h a))) way

  pub mark_still : (path : Path) (attrs : ℕ) → IsJobFor (Command.Mark path attrs) h job name bytes → SameMap h.layout was image
  mark_still path attrs j =
      job_still h job name was image (mark_job h.nodes a.listings path attrs job name (j.is (view_of h kind a) (agreed_law.sound_by kind h a) (agreed_law.viewed kind h a))) way
