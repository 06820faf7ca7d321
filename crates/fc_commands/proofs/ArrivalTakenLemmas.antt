-- What comes can be taken over, and is refused where its directory is full.
use Rattle.std.proofs.Common.{◌≡◌, ◌≤◌, ℕ, List, refl, sym, ap, subst, ◌∙◌, Some, None}
use Rattle.std.specs.Prelude.{Contains, IsSome}
use Rattle.std.specs.FinMap.{get}
use Rattle.fc_alloc.specs.declared.owner.Owner.{Owner}
use Rattle.fc_drafts.specs.declared.room.Room.TheVariants as rooms
use Rattle.fc_names.specs.Names.{Path}
use Rattle.fc_names.specs.declared.refusal.Refusal.TheVariants as refusals
use Rattle.fc_record.specs.declared.Kind.{Kind}
use Rattle.fc_model.specs.Command.{Command}
use Rattle.fc_model.specs.Tree.{last_name}
use Rattle.fc_image.specs.Layout.{Layout}
use Rattle.fc_image.specs.Opening.{Opened}
use Rattle.fc_image.specs.Sound.{AreSound}
use Rattle.fc_image.specs.effects.Short.{short}
use Rattle.fc_tree.specs.Agree.{Agree}
use Rattle.fc_tree.specs.Parts.{ArePartsOf, Parts}
use Rattle.fc_laws.specs.nodes.Edits.{Nodes}
use Rattle.fc_laws.proofs.lemmas.agree.BeforeLemmas.{agreed_law}
use Rattle.fc_edits.proofs.lemmas.ShapeLemmas.{only}
use Rattle.fc_change.specs.declared.change.Says.{Says}
use Rattle.fc_change.specs.declared.change.Turned.{Turned}
use Rattle.fc_change.specs.declared.job.Wants.{Wants}
use Rattle.fc_change.specs.After.{CanRegrowNode, CanTakeOver, CanTurnNode, CanTurnOwner, nodes_more}
use Rattle.fc_change.specs.Needs.{AreWants, HasRoomFor, HasRoomOf}
use Rattle.fc_commands.specs.declared.stages.Prepared.{Prepared}
use Rattle.fc_commands.specs.Jobs.{IsJobFor}
use Rattle.fc_commands.specs.Stages.{IsPreparedFor}
use Rattle.fc_commands.proofs.ArrivalLemmas.{Arrival, CanArrive, job_of}
use Rattle.fc_commands.proofs.ArrivalPreparedLemmas as prepared
use Rattle.fc_commands.proofs.ArrivalShortLemmas.{dir_full}
use Rattle.fc_commands.proofs.ArrivalStageLemmas.{IsArrivalChange, arrives}
use Rattle.fc_commands.proofs.HolderLemmas as holder_of
use Rattle.fc_commands.proofs.RemovalRunLemmas.{sound_in}
use Rattle.fc_commands.proofs.RemovalStageLemmas.{view_of}

-- By what it wants no directory grows.
abbrev pub GrowsNone : Parts → ℕ → Arrival → List ℕ → Type 0
GrowsNone h dir x name = (w : Wants) → AreWants h (job_of dir x) name w → w.grows ≡ None

-- The directory's node is there, and there is memory for one more.
pub can_take : (h : Parts) (layout : Layout) (owners : List Owner) (dir : ℕ) (x : Arrival) (path : Path) (kind : Kind) (p : Prepared) (room : ℕ) → Agree kind h → CanArrive h path dir → IsPreparedFor h (job_of dir x) (last_name path) p
    → GrowsNone h dir x (last_name path) → nodes_more p.change.object ≤ room → CanTakeOver layout h.nodes owners room p.change
can_take h layout owners dir x path kind p room a can prep none some =
    let ch = prepared.change h dir x (last_name path) p prep (none prep.wants prep.spaced.wants) in
    let sound = agreed_law.sound_by kind h a in
    let spot = can.vacant (view_of h kind a) sound (agreed_law.viewed kind h a) in
    record {
      says = λ s at.
          subst (λ (n : ℕ). IsSome (get h.nodes n)) (sym ch.tells.number ∙ ap (λ (y : Says). y.node) (only ch.said s (subst (λ (ss : List Says). Contains ss s) ch.says at)))
          (holder_of.has_node h.layout h.nodes a.listings sound a.walked.held spot.listing spot.listed dir spot.holder_is);
      object = subst (CanTurnNode h.nodes room) (sym ch.comes) (subst (λ (t : Turned). nodes_more t ≤ room) ch.comes some);
      owner = subst (CanTurnOwner layout owners) (sym ch.comes) tt;
      grown = subst (CanRegrowNode h.nodes owners) (sym ch.none) tt;
    }

room_for : (nodes : Nodes) (dir : ℕ) (x : Arrival) (name : List ℕ) → HasRoomOf nodes (job_of dir x) name rooms.Full → HasRoomFor nodes dir name rooms.Full
room_for nodes dir Arrival.Makes name full = full
room_for nodes dir (Arrival.Saves words) name full = full

-- If its directory is full, it is refused so.
pub full_is : (h : Parts) (kind : Kind) (a : Agree kind h) (dir : ℕ) (x : Arrival) (name bytes : List ℕ) (c : Command) (v : Opened) → IsJobFor c h (job_of dir x) name bytes → HasRoomOf h.nodes (job_of dir x) name rooms.Full
    → AreSound v.layout v.listings → ArePartsOf h v → short v c ≡ Some refusals.DirFull
full_is h kind a dir x name bytes c v j full sound held =
    let came = arrives h kind a c dir x name bytes j in
    dir_full h.layout h.nodes came.path dir x bytes c came.brings v (subst (λ (l : Layout). AreSound l v.listings) (sym held.layout) sound) held.nodes (came.can.vacant v sound held)
    (room_for h.nodes dir x (last_name came.path) (subst (λ (n : List ℕ). HasRoomOf h.nodes (job_of dir x) n rooms.Full) came.name_is full))
