-- Each job stirs what its command does, and the law of all of them.
use Rattle.std.proofs.Common.{◌≡◌, ◌<◌, ℕ, true, List, ap, subst, Option, Some}
use Rattle.fc_names.specs.declared.refusal.Refusal.{Refusal}
use Rattle.fc_names.specs.declared.refusal.Refusal.TheVariants as refusals
use Rattle.fc_newmap.specs.Map.{Map}
use Rattle.fc_model.specs.Command.{Command}
use Rattle.fc_drafts.specs.declared.room.Room.TheVariants as rooms
use Rattle.fc_image.specs.Opening.{Opened}
use Rattle.fc_image.specs.effects.Short.{short}
use Rattle.fc_image.specs.safe.SafeShort.{SafeRefusal, early_refusal, fit_refusal, fitted_needs, is_suitable, safe_or, safe_short}
use Rattle.fc_refusals.specs.declared.target.Renaming.{Renaming}
use Rattle.fc_refusals.specs.declared.target.Slot.TheVariants as slots
use Rattle.fc_refusals.specs.declared.target.Target.{Target}
use Rattle.fc_tree.specs.Parts.{Parts}
use Rattle.fc_change.specs.declared.job.FileWords.{FileWords}
use Rattle.fc_change.specs.declared.job.Growth.{Growth}
use Rattle.fc_change.specs.declared.job.Job.{Job}
use Rattle.fc_change.specs.declared.job.Job.TheVariants as jobs
use Rattle.fc_change.specs.declared.job.Wants.{Wants}
use Rattle.fc_change.specs.Jobs.{IsJob}
use Rattle.fc_change.specs.Needs.{AreWants, HasRoomFor, HasRoomOf, len_at}
use Rattle.fc_commands.proofs.ArrivalLemmas.{Arrival, job_of, of_job}
use Rattle.fc_commands.proofs.ArrivalShortLemmas.{dir_full}
use Rattle.fc_commands.proofs.MoveShortLemmas.{full_short}
use Rattle.fc_safe.specs.Views.{IsViewOf}
use Rattle.fc_safecommands.specs.Jobs.{IsJobIn, JobLaw}
use Rattle.fc_safecommands.proofs.lemmas.ArrivalLemmas.{arrives}
use Rattle.fc_safecommands.proofs.lemmas.MoveLemmas.{moves}
use Rattle.fc_safecommands.proofs.lemmas.OverLemmas.{overwrites}
use Rattle.fc_safecommands.proofs.lemmas.PlainJobLemmas.{of_marks, of_removal, of_words}
use Rattle.fc_safecommands.proofs.lemmas.ShortageLemmas.{IsStirredFor, fitted_by, given_is, out_is, plan_ids, short_is}
use Rattle.fc_safecommands.proofs.lemmas.StirLemmas.{IsTold, stirs_as}
use Rattle.fc_safecommands.proofs.lemmas.CommandLemmas.{bytes_given, given, move_of, over_of}

-- ---- each job

module _ (m : Map) (h : Parts) (v : Opened) (c : Command) (name : List ℕ) (w : Wants) (view : IsViewOf m h v) (suit : is_suitable v ≡ true) (some : (g : Growth) → w.grows ≡ Some g → 0 < len_at h.nodes g.node) where
  of_told : (job : Job) → IsTold m h v c job w → IsStirredFor m h v c job w
  of_told job told = record {
    view = view;
    suits = suit;
    stirs = stirs_as m h v c job w view told;
    grown = told.grown;
    object = told.object;
    shared = told.shared;
    not_full = told.not_full;
  }

  of_arrival : (dir : ℕ) (x : Arrival) → IsJob h.nodes v.listings c (job_of dir x) name → AreWants h (job_of dir x) name w → IsStirredFor m h v c (job_of dir x) w
  of_arrival dir x job_is wants =
      let a = of_job h.nodes v.listings c dir x name (bytes_given c) job_is (given c) in
      of_told (job_of dir x) (arrives m h v view suit dir x a.path w (subst (λ (n : List ℕ). AreWants h (job_of dir x) n w) a.name_is wants) some (bytes_given c) c a.brings a.vacant)

  of_move : (r : Renaming) → IsJob h.nodes v.listings c (jobs.Move r) name → AreWants h (jobs.Move r) name w → IsStirredFor m h v c (jobs.Move r) w
  of_move r job_is wants =
      let x = move_of h.nodes v.listings c r name job_is in
      of_told (jobs.Move r) (subst (λ (k : Command). IsTold m h v k (jobs.Move r) w) x.command (moves m h v view suit x.from x.to r x.known name x.name_is w wants some))

  of_over : (t : Target) (words : FileWords) → IsJob h.nodes v.listings c (jobs.File (slots.Over t) words) name → AreWants h (jobs.File (slots.Over t) words) name w → IsStirredFor m h v c (jobs.File (slots.Over t) words) w
  of_over t words job_is wants =
      let x = over_of h.nodes v.listings c t words name job_is in of_told (jobs.File (slots.Over t) words) (overwrites m h v view t words x.path name w wants (bytes_given c) c x.brings x.file)

  of_any : (job : Job) → IsJob h.nodes v.listings c job name → AreWants h job name w → IsStirredFor m h v c job w
  of_any (jobs.File (slots.New dir) words) job_is wants = of_arrival dir (Arrival.Saves words) job_is wants
  of_any (jobs.File (slots.Over t) words) job_is wants = of_over t words job_is wants
  of_any (jobs.Directory dir) job_is wants = of_arrival dir Arrival.Makes job_is wants
  of_any (jobs.Removal t) job_is wants = of_removal m h v c t name w view suit job_is wants
  of_any (jobs.Move r) job_is wants = of_move r job_is wants
  of_any (jobs.Words t words) job_is wants = of_words m h v c t words name w view suit job_is wants
  of_any (jobs.Marks t marks) job_is wants = of_marks m h v c t marks name w view suit job_is wants

stirred : (m : Map) (h : Parts) (v : Opened) (c : Command) (job : Job) (w : Wants) → IsJobIn m h v c job w → IsStirredFor m h v c job w
stirred m h v c job w is = of_any m h v c is.name w is.view is.suits is.some job is.job_is is.wants

-- ---- a full directory

full_as : (m : Map) (v : Opened) (c : Command) → short v c ≡ Some refusals.DirFull → safe_short m v c ≡ Some (SafeRefusal.Refused refusals.DirFull)
unfolding safe_short
full_as m v c full = ap (λ (o : Option Refusal). safe_or (early_refusal o) (fit_refusal m v c (fitted_needs m v c))) full

module _ (m : Map) (h : Parts) (v : Opened) (c : Command) (name : List ℕ) (view : IsViewOf m h v) where
  arrival_full : (dir : ℕ) (x : Arrival) → IsJob h.nodes v.listings c (job_of dir x) name → HasRoomFor h.nodes dir name rooms.Full → short v c ≡ Some refusals.DirFull
  arrival_full dir x job_is full =
      let a = of_job h.nodes v.listings c dir x name (bytes_given c) job_is (given c) in
      dir_full v.layout h.nodes a.path dir x (bytes_given c) c a.brings v view.sound view.parts.nodes a.vacant (subst (λ (n : List ℕ). HasRoomFor h.nodes dir n rooms.Full) a.name_is full)

  move_full : (r : Renaming) → IsJob h.nodes v.listings c (jobs.Move r) name → HasRoomOf h.nodes (jobs.Move r) name rooms.Full → short v c ≡ Some refusals.DirFull
  move_full r job_is full =
      let x = move_of h.nodes v.listings c r name job_is in
      subst (λ (k : Command). short v k ≡ Some refusals.DirFull) x.command (full_short v h.nodes view.sound view.parts.nodes x.from x.to r x.known name x.name_is full)

  any_full : (job : Job) → IsJob h.nodes v.listings c job name → HasRoomOf h.nodes job name rooms.Full → short v c ≡ Some refusals.DirFull
  any_full (jobs.File (slots.New dir) words) job_is full = arrival_full dir (Arrival.Saves words) job_is full
  any_full (jobs.Directory dir) job_is full = arrival_full dir Arrival.Makes job_is full
  any_full (jobs.Move r) job_is full = move_full r job_is full
  any_full (jobs.File (slots.Over t) words) job_is full = absurd (cc)
  any_full (jobs.Removal t) job_is full = absurd (cc)
  any_full (jobs.Words t words) job_is full = absurd (cc)
  any_full (jobs.Marks t marks) job_is full = absurd (cc)

pub job_law : JobLaw
job_law = record {
  stirs = λ m h v c job w is. (stirred m h v c job w is).stirs;
  object = λ m h v c job w is. (stirred m h v c job w is).object;
  shared = λ m h v c job w id is. (stirred m h v c job w is).shared id;
  out = λ m h v c job w is. out_is m h v c job w (stirred m h v c job w is);
  short = λ m h v c job w is. short_is m h v c job w (stirred m h v c job w is);
  full = λ m h v c job is. full_as m v c (any_full m h v c is.name is.view job is.job_is is.full);
  fitted = λ m h v c job w plans is met. fitted_by m h v c job w (stirred m h v c job w is) plans met;
  ids = λ m h v c job w plans is met. plan_ids m h v c job w (stirred m h v c job w is) plans met;
  given = λ m h v c job w id is low. given_is m h v c job w (stirred m h v c job w is) id low;
}
