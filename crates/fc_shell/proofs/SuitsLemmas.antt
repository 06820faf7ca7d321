-- What suits the safe mode after a command that keeps the tree.
use Rattle.std.proofs.Common.{◌≡◌, ◌==◌, ℕ, Bool, true, false, List, Result, Ok, Err, IfOk, refl, sym, ap, subst, ◌∙◌}
use Rattle.std.specs.Prelude.{if◌then◌else◌}
use Rattle.fc_device.specs.declared.disk.Disk.{Ghosts}
use Rattle.fc_device.specs.declared.streams.Sink.{Ghosts as Sinks}
use Rattle.fc_names.specs.declared.name.NameForm.{NameForm}
use Rattle.fc_names.specs.declared.name.NameForm.TheVariants.{Ten, Long}
use Rattle.fc_image.specs.Layout.{Layout, dir_form}
use Rattle.fc_image.specs.Stays.{IsNewLayout}
use Rattle.fc_holdings.specs.declared.error.CommandError.{CommandError}
use Rattle.fc_holdings.specs.declared.error.CommandError.TheVariants.{DiskFault, NoMemory, Refused}
use Rattle.fc_holdings.specs.Answers.{UnlessFault}
use Rattle.fc_holdings.specs.Holdings.{IsSameKind}
use Rattle.fc_laws.specs.nodes.Edits.{Nodes}
use Rattle.fc_safe.specs.Suits.{Suits, is_low_node}
use Rattle.fc_tree.specs.Nodes.{nodes_of}
use Rattle.fc_volume.specs.Changing.{KeepsVolume}
use Rattle.fc_volume.specs.Volume.{Volume, parts_of}
use Rattle.fc_shell.specs.declared.answer.LineFault.{LineFault}
use Rattle.fc_shell.specs.Changing.{TellsBy}
use Rattle.fc_shell.specs.Modes.{SuitsMode}
use Rattle.fc_shell.specs.MoveFaults.{moved_result}

-- the map is a new one
pub suits_new : (l : Layout) (nodes : Nodes) → Suits l nodes → IsNewLayout l
suits_new (Layout.New m) nodes suits = tt
suits_new (Layout.Old space) nodes suits = absurd suits

-- Big directories stay big.
same_version : (was now : Bool) → (if now then Ten else Long) ≡ (if was then Ten else Long) → was ≡ false → now ≡ false
same_version false false same big = refl
same_version false true same big = absurd (cc)
same_version true now same big = absurd (cc)

pub suits_kept : (was now : Layout) (before after : Nodes) → IsSameKind was now → dir_form now ≡ dir_form was → after ≡ before → Suits was before → Suits now after
suits_kept (Layout.New m) (Layout.New n) before after kind form nodes suits =
    (same_version (m.geometry.version == 0) (n.geometry.version == 0) form suits.0, subst (λ (x : Nodes). (k : ℕ) → is_low_node x k ≡ false) (sym nodes) suits.1)
suits_kept (Layout.New m) (Layout.Old now) before after kind form nodes suits = absurd kind
suits_kept (Layout.Old space) now before after kind form nodes suits = absurd suits

module _ {D K T : Type 0} (d : Ghosts D) (k : Sinks K) (reply : T → List ℕ) (was v : Volume) (old new : D) (before after : K) where
  -- a command that leaves the nodes
  pub suits_after : (done : Result T CommandError) (result : Result Bool LineFault) → KeepsVolume d old new was v done → (IsNewLayout (parts_of was).layout → v.tree ≡ was.tree)
      → TellsBy reply k before after done result → (safe : Bool) → SuitsMode safe was → IfOk result (λ refused. SuitsMode safe v)
  suits_after done result keeps tree tells safe suits = by done result keeps.dirs tells
    where
      stays : dir_form (parts_of v).layout ≡ dir_form (parts_of was).layout → SuitsMode safe v
      stays form is =
          let was_suits = suits is in
          suits_kept (parts_of was).layout (parts_of v).layout (parts_of was).nodes (parts_of v).nodes keeps.map form (ap nodes_of (tree (suits_new (parts_of was).layout (parts_of was).nodes was_suits))) was_suits

      by : (x : Result T CommandError) (result : Result Bool LineFault) → UnlessFault x (dir_form (parts_of v).layout ≡ dir_form (parts_of was).layout) → TellsBy reply k before after x result
          → IfOk result (λ refused. SuitsMode safe v)
      by x (Err fault) form tells = tt
      by (Ok value) (Ok refused) form tells = stays form
      by (Err (Refused r)) (Ok refused) form tells = stays form
      by (Err NoMemory) (Ok refused) form tells = stays form
      by (Err DiskFault) (Ok refused) form tells = absurd (let no = tells.0 in cc)

-- ---- by the mode

module _ {E : Type 0} (result : Result Bool E) (safe : Bool) (v : Volume) where
  pub suits_if : IfOk result (λ refused. Suits (parts_of v).layout (parts_of v).nodes) → IfOk result (λ refused. SuitsMode safe v)
  suits_if suits = by result suits
    where
      by : (r : Result Bool E) → IfOk r (λ refused. Suits (parts_of v).layout (parts_of v).nodes) → IfOk r (λ refused. SuitsMode safe v)
      by (Ok refused) suits = λ is. suits
      by (Err fault) suits = tt

  -- Outside the safe mode nothing is asked of the volume.
  pub no_mode : safe ≡ false → IfOk result (λ refused. SuitsMode safe v)
  no_mode plain = by result
    where
      by : (r : Result Bool E) → IfOk r (λ refused. SuitsMode safe v)
      by (Ok refused) = λ is. absurd (let clash : false ≡ true = sym plain ∙ is in cc)
      by (Err fault) = tt

  pub suits_same : SuitsMode safe v → IfOk result (λ refused. SuitsMode safe v)
  suits_same suits = by result
    where
      by : (r : Result Bool E) → IfOk r (λ refused. SuitsMode safe v)
      by (Ok refused) = suits
      by (Err fault) = tt

pub suits_moved : (r : Result Bool LineFault) (P : Type 0) → IfOk r (λ refused. P) → IfOk (moved_result r) (λ refused. P)
suits_moved (Ok refused) P p = p
suits_moved (Err fault) P p = tt
