-- Whether a directory has to grow for `rename`: it is known from the job before anything is placed, and on an old map none has to.
use Rattle.fc_alloc.specs.declared.owner.Owner.{Owner}
use Rattle.fc_change.specs.Needs.{AreWants}
use Rattle.fc_change.specs.declared.job.Job.TheVariants as jobs
use Rattle.fc_change.specs.declared.job.Wants.{Wants}
use Rattle.fc_commands.proofs.GrownMoveBigLemmas.{grows_as, growth_to, none_old}
use Rattle.fc_commands.proofs.MoveRunLemmas.{new_seen, old_seen}
use Rattle.fc_commands.proofs.MoveStageLemmas.{IsRenamer}
use Rattle.fc_commands.proofs.RemovalRunLemmas.{parts}
use Rattle.fc_commands.proofs.RoomyLemmas.{NoneGrows}
use Rattle.fc_commands.specs.Run.{IsMapOf}
use Rattle.fc_image.specs.Layout.{Layout}
use Rattle.fc_image.specs.Opening.{Opened}
use Rattle.fc_image.specs.effects.Short.{Growth as Grown, growth_in}
use Rattle.fc_laws.proofs.lemmas.agree.BeforeLemmas.{agreed_law}
use Rattle.fc_laws.specs.nodes.Edits.{Nodes}
use Rattle.fc_model.specs.Command.{Command}
use Rattle.fc_names.specs.Names.{Path}
use Rattle.fc_newmap.specs.Map.{Map}
use Rattle.fc_newmap.specs.NewMap.{IsNewMap}
use Rattle.fc_laws.proofs.lemmas.old.agree.GivenLemmas.{space_law}
use Rattle.fc_oldmap.specs.OldMap.{OldMapContent}
use Rattle.fc_record.specs.declared.Kind.{Kind}
use Rattle.fc_refusals.specs.declared.target.Renaming.{Renaming}
use Rattle.fc_tree.specs.Agree.{Agree}
use Rattle.std.proofs.Common.{List, Option, refl, ℕ, ◌≡◌}
use Rattle.std.specs.Option.{option_map}

pub grows_by : (m : Map) (nodes : Nodes) (owners : List Owner) (r : Renaming) (from to : Path) (name : List ℕ) (kind : Kind) → IsNewMap m → Agree kind (parts (Layout.New m) nodes owners)
    → IsRenamer (parts (Layout.New m) nodes owners) from to r name
    → (o : Option Grown) × ((w : Wants) → AreWants (parts (Layout.New m) nodes owners) (jobs.Move r) name w → w.grows ≡ option_map (growth_to r) o)
grows_by m nodes owners r from to name kind is_map a it =
    let on = agreed_law.named kind (parts (Layout.New m) nodes owners) m refl is_map a in
    let x = new_seen m nodes owners kind a.root a.listings from to r name on it in
    let v : Opened = record { kind = kind; layout = Layout.New m; listings = a.listings } in
    (growth_in v (Command.Rename from to), λ w are. grows_as v nodes owners x.sound x.held from to r x.known name x.name_is w are)

pub never_old : (space : OldMapContent) (nodes : Nodes) (owners : List Owner) (r : Renaming) (from to : Path) (name : List ℕ) (kind : Kind) → IsMapOf (Layout.Old space) → Agree kind (parts (Layout.Old space) nodes owners)
    → IsRenamer (parts (Layout.Old space) nodes owners) from to r name → NoneGrows (parts (Layout.Old space) nodes owners) (jobs.Move r) name
never_old space nodes owners r from to name kind is a it =
    let on = space_law.named kind (parts (Layout.Old space) nodes owners) space refl is.0 is.1 a in
    none_old space nodes owners a.listings from to r name (old_seen space nodes owners kind a.root a.listings from to r name is.0 on it)
