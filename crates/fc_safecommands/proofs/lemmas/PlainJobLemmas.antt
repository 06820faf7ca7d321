-- `delete`, `set` and `mark`: what the job stirs is what the command does, and it makes nothing.
use Rattle.std.proofs.Common.{◌≡◌, ℕ, true, false, cond, List, refl, sym, ap, ap₂, subst, ◌∙◌, Option, None}
use Rattle.std.specs.Prelude.{is_some}
use Rattle.std.specs.Option.{option_and_then, option_map, option_map_or}
use Rattle.fc_newmap.specs.Map.{Map}
use Rattle.fc_model.specs.Command.{Command}
use Rattle.fc_drafts.specs.declared.room.Room.TheVariants as rooms
use Rattle.fc_image.specs.Opening.{Opened}
use Rattle.fc_image.specs.effects.Sharing.{units}
use Rattle.fc_image.specs.effects.Short.{Gain, gain_in, growth_of, is_full_with, object_units}
use Rattle.fc_image.specs.safe.SafeShort.{is_suitable, takes_slack}
use Rattle.fc_placing.specs.Leaving.{is_kept}
use Rattle.fc_placing.specs.Places.{slack_left}
use Rattle.fc_refusals.specs.declared.target.Target.{Target}
use Rattle.fc_tree.specs.Parts.{Parts}
use Rattle.fc_change.specs.declared.job.ObjectWords.{ObjectWords}
use Rattle.fc_change.specs.declared.job.Job.{Job}
use Rattle.fc_change.specs.declared.job.Job.TheVariants as jobs
use Rattle.fc_change.specs.declared.job.Wants.{Wants}
use Rattle.fc_change.specs.Jobs.{IsJob}
use Rattle.fc_change.specs.Needs.{AreWants}
use Rattle.fc_change.specs.Shortage.{bytes_left, slack_for as slack_wanted}
use Rattle.fc_safe.specs.FirstNeeds.{stir_of}
use Rattle.fc_safe.specs.Views.{IsViewOf, StirsAs}
use Rattle.fc_safe.proofs.PlainLemmas.{marks_stir, marks_stirs, removal_stir, removal_stirs, words_stir, words_stirs}
use Rattle.fc_safecommands.proofs.lemmas.GrowthLemmas.{AreGrown}
use Rattle.fc_safecommands.proofs.lemmas.ShortageLemmas.{IsStirredFor}
pub use Rattle.fc_safe.proofs.PlainLawLemmas.{room_still}

module _ (m : Map) (h : Parts) (v : Opened) (view : IsViewOf m h v) (suit : is_suitable v ≡ true) (w : Wants) (still : w.grows ≡ None) (no_bytes : w.bytes ≡ 0) (no_share : w.shares ≡ None) where
  no_slack : slack_wanted m h.owners w ≡ None
  no_slack = ap (option_and_then (λ (dir : ℕ). slack_left m h.owners dir w.bytes)) no_share

  none_left : bytes_left m h.owners w ≡ 0
  none_left = ap₂ (λ (o : Option (ℕ × ℕ)) (n : ℕ). let k : ℕ = cond (is_some o) 0 n in k) no_slack no_bytes

  -- with what the command doesn't do
  plain_for : (c : Command) (job : Job) → StirsAs m h v c (stir_of m h job w) → gain_in v c ≡ None → 0 ≡ object_units m v c → ((id : ℕ) → false ≡ takes_slack v c id) → IsStirredFor m h v c job w
  plain_for c job stirs none no_units none_shared = record {
    view = view;
    suits = suit;
    stirs = stirs;
    grown = subst (AreGrown h v c) (sym still) (ap (option_and_then growth_of) none);
    object = ap (units m.geometry) none_left ∙ no_units;
    shared = λ id. ap (λ (o : Option (ℕ × ℕ)). is_kept (option_map (λ (share : ℕ × ℕ). share.0) o) id) no_slack ∙ none_shared id;
    not_full = ap (λ (q : Option Gain). option_map_or (λ (g : Gain). is_full_with g.listing.content g) q false) none;
  }

pub of_removal : (m : Map) (h : Parts) (v : Opened) (c : Command) (t : Target) (name : List ℕ) (w : Wants) → IsViewOf m h v → is_suitable v ≡ true
    → IsJob h.nodes v.listings c (jobs.Removal t) name → AreWants h (jobs.Removal t) name w → IsStirredFor m h v c (jobs.Removal t) w
of_removal m h v (Command.Delete path) t name w view suit job wants =
    let still = room_still w.grows wants.room in
    plain_for m h v view suit w still wants.bytes wants.slack (Command.Delete path) (jobs.Removal t)
    (subst (StirsAs m h v (Command.Delete path)) (sym (removal_stir m h t w still wants.copy wants.left)) (removal_stirs m h v path t view job.target)) refl refl (λ id. refl)
of_removal m h v (Command.Cat path) t name w view suit job wants = absurd job
of_removal m h v (Command.Load path) t name w view suit job wants = absurd job
of_removal m h v (Command.Digest path) t name w view suit job wants = absurd job
of_removal m h v (Command.Save path load exec bytes) t name w view suit job wants = absurd job
of_removal m h v (Command.Create path load exec len) t name w view suit job wants = absurd job
of_removal m h v (Command.Cdir path) t name w view suit job wants = absurd job
of_removal m h v (Command.Rename from to) t name w view suit job wants = absurd job
of_removal m h v (Command.Set path load exec access) t name w view suit job wants = absurd job
of_removal m h v Command.Free t name w view suit job wants = absurd job
of_removal m h v Command.Check t name w view suit job wants = absurd job
of_removal m h v Command.Compact t name w view suit job wants = absurd job
of_removal m h v Command.Reclaim t name w view suit job wants = absurd job
of_removal m h v (Command.Mark path attrs) t name w view suit job wants = absurd job

pub of_words : (m : Map) (h : Parts) (v : Opened) (c : Command) (t : Target) (words : ObjectWords) (name : List ℕ) (w : Wants)
    → IsViewOf m h v → is_suitable v ≡ true → IsJob h.nodes v.listings c (jobs.Words t words) name → AreWants h (jobs.Words t words) name w → IsStirredFor m h v c (jobs.Words t words) w
of_words m h v (Command.Set path load exec access) t words name w view suit job wants =
    let still = room_still w.grows wants.room in
    plain_for m h v view suit w still wants.bytes wants.slack (Command.Set path load exec access) (jobs.Words t words)
    (subst (StirsAs m h v (Command.Set path load exec access)) (sym (words_stir m h t words w still wants.copy wants.left)) (words_stirs m h v path load exec access t view job.0)) refl refl (λ id. refl)
of_words m h v (Command.Cat path) t words name w view suit job wants = absurd job
of_words m h v (Command.Load path) t words name w view suit job wants = absurd job
of_words m h v (Command.Digest path) t words name w view suit job wants = absurd job
of_words m h v (Command.Save path load exec bytes) t words name w view suit job wants = absurd job
of_words m h v (Command.Create path load exec len) t words name w view suit job wants = absurd job
of_words m h v (Command.Cdir path) t words name w view suit job wants = absurd job
of_words m h v (Command.Delete path) t words name w view suit job wants = absurd job
of_words m h v (Command.Rename from to) t words name w view suit job wants = absurd job
of_words m h v Command.Free t words name w view suit job wants = absurd job
of_words m h v Command.Check t words name w view suit job wants = absurd job
of_words m h v Command.Compact t words name w view suit job wants = absurd job
of_words m h v Command.Reclaim t words name w view suit job wants = absurd job
of_words m h v (Command.Mark path attrs) t words name w view suit job wants = absurd job

pub of_marks : (m : Map) (h : Parts) (v : Opened) (c : Command) (t : Target) (marks : ℕ) (name : List ℕ) (w : Wants)
    → IsViewOf m h v → is_suitable v ≡ true → IsJob h.nodes v.listings c (jobs.Marks t marks) name → AreWants h (jobs.Marks t marks) name w → IsStirredFor m h v c (jobs.Marks t marks) w
of_marks m h v (Command.Mark path attrs) t marks name w view suit job wants =
    let still = room_still w.grows wants.room in
    plain_for m h v view suit w still wants.bytes wants.slack (Command.Mark path attrs) (jobs.Marks t marks)
    (subst (StirsAs m h v (Command.Mark path attrs)) (sym (marks_stir m h t marks w still wants.copy wants.left)) (marks_stirs m h v path attrs t view job.0)) refl refl (λ id. refl)
of_marks m h v (Command.Cat path) t marks name w view suit job wants = absurd job
of_marks m h v (Command.Load path) t marks name w view suit job wants = absurd job
of_marks m h v (Command.Digest path) t marks name w view suit job wants = absurd job
of_marks m h v (Command.Save path load exec bytes) t marks name w view suit job wants = absurd job
of_marks m h v (Command.Create path load exec len) t marks name w view suit job wants = absurd job
of_marks m h v (Command.Cdir path) t marks name w view suit job wants = absurd job
of_marks m h v (Command.Delete path) t marks name w view suit job wants = absurd job
of_marks m h v (Command.Rename from to) t marks name w view suit job wants = absurd job
of_marks m h v (Command.Set path load exec access) t marks name w view suit job wants = absurd job
of_marks m h v Command.Free t marks name w view suit job wants = absurd job
of_marks m h v Command.Check t marks name w view suit job wants = absurd job
of_marks m h v Command.Compact t marks name w view suit job wants = absurd job
of_marks m h v Command.Reclaim t marks name w view suit job wants = absurd job
