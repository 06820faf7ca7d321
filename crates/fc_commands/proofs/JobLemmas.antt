-- The laws of each job that has them.
use Rattle.std.proofs.Common.{◌<◌, ◌^◌, ℕ, List, ◌≡◌, Bool, true, false, refl, Option, Some, None}
use Rattle.std.specs.Option.{option_map}
use Rattle.fc_alloc.specs.declared.owner.Owner.{Owner}
use Rattle.fc_record.specs.declared.Kind.{Kind}
use Rattle.fc_image.specs.Layout.{Layout}
use Rattle.fc_laws.specs.nodes.Edits.{Nodes}
use Rattle.fc_model.specs.Command.{Command}
use Rattle.fc_outcomes.specs.Addition.{AdditionLaw}
use Rattle.fc_outcomes.specs.Deletion.{DeletionLaw}
use Rattle.fc_outcomes.specs.Rewording.{RewordingLaw}
use Rattle.fc_refusals.specs.declared.target.Slot.TheVariants as slots
use Rattle.fc_refusals.specs.declared.target.Target.{Target}
use Rattle.fc_space.specs.Space.{PlacesSuffice}
use Rattle.fc_tree.specs.Agree.{Agree}
use Rattle.fc_change.specs.declared.job.FileWords.{FileWords}
use Rattle.fc_change.specs.declared.job.Job.{Job}
use Rattle.fc_change.specs.declared.job.Job.TheVariants as jobs
use Rattle.fc_holdings.specs.Holdings.{TellsVersion}
use Rattle.fc_commands.specs.Jobs.{HasLaws, IsJobFor, IsJudged}
use Rattle.fc_commands.proofs.RoomyLemmas.{NoneGrows}
use Rattle.fc_commands.specs.Laws.{JobLaws}
use Rattle.fc_commands.specs.Run.{IsMapOf}
use Rattle.fc_commands.proofs.ArrivalLemmas.{Arrival, IsShort, job_of}
use Rattle.fc_commands.proofs.ArrivalTakenLemmas.{GrowsNone}
use Rattle.fc_commands.proofs.GrownNewLawsLemmas.{grown_laws}
use Rattle.fc_commands.proofs.GrownNeedLemmas.{grows_by, none_old, to_bytes}
use Rattle.fc_commands.proofs.NewArrivalRunLemmas as new
use Rattle.fc_commands.proofs.OldArrivalRunLemmas as old
use Rattle.fc_commands.proofs.NewOverRunLemmas as new_over
use Rattle.fc_commands.proofs.OldOverRunLemmas as old_over
use Rattle.fc_commands.proofs.RemovalRunLemmas.{parts, removal_laws}
use Rattle.fc_commands.proofs.RemovalStageLemmas.{may_go}
use Rattle.fc_commands.proofs.RewordingLemmas.{Wording}
use Rattle.fc_commands.proofs.RewordingRunLemmas.{rewording_laws}
use Rattle.fc_commands.proofs.RewordingStageLemmas.{targets}
use Rattle.fc_names.specs.Names.{Path}
use Rattle.fc_outcomes.specs.Copying.{CopyingLaw}
use Rattle.fc_outcomes.specs.Moving.{MovingLaw}
use Rattle.fc_refusals.specs.declared.target.Renaming.{Renaming}
use Rattle.fc_change.specs.declared.job.Wants.{Wants}
use Rattle.fc_change.specs.Needs.{AreWants, is_copied, len_at}
use Rattle.fc_commands.proofs.CopyingRunLemmas.{copy_laws}
use Rattle.fc_commands.proofs.MoveRunLemmas.{move_laws}
use Rattle.fc_commands.proofs.GrownMoveBigLemmas.{growth_to}
use Rattle.fc_commands.proofs.GrownMoveLawsLemmas.{grown_move_laws}
use Rattle.fc_commands.proofs.GrownMoveNeedLemmas.{grows_by as move_grows_by, never_old}
use Rattle.fc_newmap.specs.Map.{Map}
use Rattle.fc_image.specs.effects.Short.{Growth as Grown}
use Rattle.fc_commands.proofs.MoveStageLemmas.{IsRenamer, renamer}

-- of what comes, where no directory grows by it
still_of : AdditionLaw → (layout : Layout) (nodes : Nodes) (owners : List Owner) (dir : ℕ) (x : Arrival) (name bytes : List ℕ) (kind : Kind) → IsShort x → GrowsNone (parts layout nodes owners) dir x name → IsMapOf layout
    → PlacesSuffice layout → Agree kind (parts layout nodes owners) → (c : Command) → IsJobFor c (parts layout nodes owners) (job_of dir x) name bytes → JobLaws kind (parts layout nodes owners) (job_of dir x) name bytes
still_of law (Layout.New m) nodes owners dir x name bytes kind few none is suffice a c j = new.arrival_laws law m nodes owners is kind a dir x few name bytes c j none
still_of law (Layout.Old space) nodes owners dir x name bytes kind few none is suffice a c j = old.arrival_laws law space nodes owners is.0 is.1 suffice kind a dir x few name bytes c j none

-- whether one grows or not
arrival_of : AdditionLaw → (layout : Layout) (nodes : Nodes) (owners : List Owner) (dir : ℕ) (x : Arrival) (name bytes : List ℕ) (kind : Kind) → IsShort x → IsMapOf layout → TellsVersion layout → PlacesSuffice layout
    → Agree kind (parts layout nodes owners) → (c : Command) → IsJobFor c (parts layout nodes owners) (job_of dir x) name bytes → JobLaws kind (parts layout nodes owners) (job_of dir x) name bytes
arrival_of law (Layout.Old space) nodes owners dir x name bytes kind few is tells suffice a c j =
    still_of law (Layout.Old space) nodes owners dir x name bytes kind few (none_old (parts (Layout.Old space) nodes owners) kind a c dir x name bytes j space refl) is suffice a c j
arrival_of law (Layout.New m) nodes owners dir x name bytes kind few is tells suffice a c j =
    let grows = grows_by (parts (Layout.New m) nodes owners) kind a c dir x name bytes j in by grows.0 grows.1
  where
    by : (o : Option ℕ) → ((w : Wants) → AreWants (parts (Layout.New m) nodes owners) (job_of dir x) name w → w.grows ≡ option_map (to_bytes dir) o) → JobLaws kind (parts (Layout.New m) nodes owners) (job_of dir x) name bytes
    by None none = still_of law (Layout.New m) nodes owners dir x name bytes kind few none is suffice a c j
    by (Some n) some = grown_laws m nodes owners is tells kind a dir x few (to_bytes dir n) name bytes c j some

-- of a file that is saved over
over_of : AdditionLaw → (layout : Layout) (nodes : Nodes) (owners : List Owner) (t : Target) (words : FileWords) (name bytes : List ℕ) (kind : Kind) → words.len < 2 ^ 32 → IsMapOf layout → PlacesSuffice layout
    → Agree kind (parts layout nodes owners) → (c : Command) → IsJobFor c (parts layout nodes owners) (jobs.File (slots.Over t) words) name bytes → JobLaws kind (parts layout nodes owners) (jobs.File (slots.Over t) words) name bytes
over_of law (Layout.New m) nodes owners t words name bytes kind few is suffice a c j = new_over.over_laws law m nodes owners is kind a t words few name bytes c j
over_of law (Layout.Old space) nodes owners t words name bytes kind few is suffice a c j = old_over.over_laws law space nodes owners is.0 is.1 suffice kind a t words few name bytes c j

-- of `rename`, where no directory grows by it, whether it copies its file or not
still_move_of : MovingLaw → CopyingLaw → (m : Map) (nodes : Nodes) (owners : List Owner) (r : Renaming) (from to : Path) (name bytes : List ℕ) (kind : Kind) → IsMapOf (Layout.New m) → PlacesSuffice (Layout.New m)
    → Agree kind (parts (Layout.New m) nodes owners) → IsRenamer (parts (Layout.New m) nodes owners) from to r name → len_at nodes r.target.node < 2 ^ 32 → NoneGrows (parts (Layout.New m) nodes owners) (jobs.Move r) name
    → JobLaws kind (parts (Layout.New m) nodes owners) (jobs.Move r) name bytes
still_move_of moves copies m nodes owners r from to name bytes kind is suffice a it few grows = by (is_copied (parts (Layout.New m) nodes owners) r) refl
  where
    by : (b : Bool) → is_copied (parts (Layout.New m) nodes owners) r ≡ b → JobLaws kind (parts (Layout.New m) nodes owners) (jobs.Move r) name bytes
    by true e = copy_laws copies m nodes owners r from to name bytes kind is suffice a it few grows e
    by false e = move_laws moves (Layout.New m) nodes owners r from to name bytes kind is suffice a it grows e

-- whether one grows or not
move_of : MovingLaw → CopyingLaw → (layout : Layout) (nodes : Nodes) (owners : List Owner) (r : Renaming) (from to : Path) (name bytes : List ℕ) (kind : Kind) → IsMapOf layout → TellsVersion layout → PlacesSuffice layout
    → Agree kind (parts layout nodes owners) → IsRenamer (parts layout nodes owners) from to r name → len_at nodes r.target.node < 2 ^ 32 → JobLaws kind (parts layout nodes owners) (jobs.Move r) name bytes
move_of moves copies (Layout.Old space) nodes owners r from to name bytes kind is tells suffice a it few =
    move_laws moves (Layout.Old space) nodes owners r from to name bytes kind is suffice a it (never_old space nodes owners r from to name kind is a it) refl
move_of moves copies (Layout.New m) nodes owners r from to name bytes kind is tells suffice a it few = let grows = move_grows_by m nodes owners r from to name kind is a it in by grows.0 grows.1
  where
    by : (o : Option Grown) → ((w : Wants) → AreWants (parts (Layout.New m) nodes owners) (jobs.Move r) name w → w.grows ≡ option_map (growth_to r) o) → JobLaws kind (parts (Layout.New m) nodes owners) (jobs.Move r) name bytes
    by None none = still_move_of moves copies m nodes owners r from to name bytes kind is suffice a it few none
    by (Some g) some =
        grown_move_laws
        (record {
          m = m;
          nodes = nodes;
          owners = owners;
          kind = kind;
          r = r;
          name = name;
          growth = growth_to r g;
          is_map = is;
          tells = tells;
          suffice = suffice;
          agree = a;
          few = few;
          grows = some;
        })
        from to bytes it

pub laws_of : DeletionLaw → RewordingLaw → AdditionLaw → MovingLaw → CopyingLaw → (layout : Layout) (nodes : Nodes) (owners : List Owner) (job : Job) (name bytes : List ℕ) (kind : Kind) → HasLaws (parts layout nodes owners) job name → IsMapOf layout
    → TellsVersion layout → PlacesSuffice layout → Agree kind (parts layout nodes owners) → IsJudged (parts layout nodes owners) job name bytes → JobLaws kind (parts layout nodes owners) job name bytes
laws_of deletes rewords adds moves copies layout nodes owners (jobs.Removal t) name bytes kind has is tells suffice a judged =
    let mine = may_go (parts layout nodes owners) kind a judged.0 t name bytes judged.1 in removal_laws deletes layout nodes owners t mine.0 name bytes kind is suffice a mine.2
laws_of deletes rewords adds moves copies layout nodes owners (jobs.Words t words) name bytes kind has is tells suffice a judged =
    let mine = targets (parts layout nodes owners) kind a judged.0 t (Wording.Set words) name bytes judged.1 in
    rewording_laws rewords layout nodes owners t (Wording.Set words) mine.0 name bytes kind is suffice a mine.2 has
laws_of deletes rewords adds moves copies layout nodes owners (jobs.Marks t marks) name bytes kind has is tells suffice a judged =
    let mine = targets (parts layout nodes owners) kind a judged.0 t (Wording.Mark marks) name bytes judged.1 in
    rewording_laws rewords layout nodes owners t (Wording.Mark marks) mine.0 name bytes kind is suffice a mine.2 has
laws_of deletes rewords adds moves copies layout nodes owners (jobs.Directory dir) name bytes kind has is tells suffice a judged =
    arrival_of adds layout nodes owners dir Arrival.Makes name bytes kind tt is tells suffice a judged.0 judged.1
laws_of deletes rewords adds moves copies layout nodes owners (jobs.File (slots.New dir) words) name bytes kind has is tells suffice a judged =
    arrival_of adds layout nodes owners dir (Arrival.Saves words) name bytes kind has is tells suffice a judged.0 judged.1
laws_of deletes rewords adds moves copies layout nodes owners (jobs.File (slots.Over target) words) name bytes kind has is tells suffice a judged =
    over_of adds layout nodes owners target words name bytes kind has is suffice a judged.0 judged.1
laws_of deletes rewords adds moves copies layout nodes owners (jobs.Move r) name bytes kind has is tells suffice a judged =
    let mine = renamer (parts layout nodes owners) kind a judged.0 r name bytes judged.1 in
    move_of moves copies layout nodes owners r mine.0 mine.1 name bytes kind is tells suffice a mine.3 has
