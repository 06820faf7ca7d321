-- Whether there is space for a copy: the command is refused for want of it as its wants are.
use Rattle.std.proofs.Common.{◌≡◌, ℕ, List, refl, sym, ap, ap₂, ◌∙◌, cond, Option}
use Rattle.std.specs.Prelude.{is_some}
use Rattle.std.specs.Option.{option_and_then}
use Rattle.fc_names.specs.Names.{Path}
use Rattle.fc_alloc.specs.declared.owner.Owner.{Owner}
use Rattle.fc_newmap.specs.Map.{Map}
use Rattle.fc_model.specs.Command.{Command}
use Rattle.fc_model.specs.Tree.{last_name}
use Rattle.fc_image.specs.Layout.{Layout}
use Rattle.fc_image.specs.Opening.{Opened}
use Rattle.fc_image.specs.Sound.{AreSound}
use Rattle.fc_image.specs.effects.Sharing.{units}
use Rattle.fc_image.specs.effects.Short.{short}
use Rattle.fc_placing.specs.Places.{FitsDirectory, slack_left}
use Rattle.fc_placing.proofs.CopyingLemmas.{copies_law}
use Rattle.fc_placing.proofs.PlacesLemmas.{space_refusal}
use Rattle.fc_placing.proofs.PlacesLemmas as placing
use Rattle.fc_refusals.specs.Slots.{IsRenaming}
use Rattle.fc_refusals.specs.declared.target.Renaming.{Renaming}
use Rattle.fc_tree.specs.Nodes.{HoldObjects}
use Rattle.fc_laws.specs.agree.Agreed.{parts_with}
use Rattle.fc_laws.specs.nodes.Edits.{Nodes}
use Rattle.fc_change.specs.declared.job.Growth.{Growth}
use Rattle.fc_change.specs.declared.job.Wants.{Wants}
use Rattle.fc_change.specs.Shortage.{grown_bytes, is_grown_alone, short_of, shortage}
use Rattle.fc_commands.proofs.ArrivalShortLemmas.{none_more}
use Rattle.fc_commands.proofs.CopyingFileLemmas.{IsCopiedFile}
use Rattle.fc_commands.proofs.CopyingPlaceLemmas.{IsCopyWanted}
use Rattle.fc_commands.proofs.MoveShortLemmas.{no_growth, not_full}
use Rattle.fc_commands.proofs.TargetLemmas as target_of

pub copy_short : (m : Map) (nodes : Nodes) (owners : List Owner) (v : Opened) (from to : Path) (r : Renaming) (name : List ℕ) (w : Wants) → v.layout ≡ Layout.New m
    → AreSound (Layout.New m) v.listings → HoldObjects nodes v.listings → (known : IsRenaming nodes v.listings from to r) → name ≡ last_name to → IsCopiedFile m nodes v.listings from to r known.target.object
    → IsCopyWanted m nodes owners r name w
    → short v (Command.Rename from to) ≡ shortage (parts_with m nodes owners) w
copy_short m nodes owners v from to r name w at sound held known name_is file is =
    let h = parts_with m nodes owners in
    let c = Command.Rename from to in
    let it = known.target.object in
    let y : Opened = record { kind = v.kind; layout = Layout.New m; listings = v.listings } in
    let same : y ≡ v = (λ i. record { kind = v.kind; layout = sym at i; listings = v.listings }) in
    let wants = copies_law.wants y m from to it sound (target_of.among (Layout.New m) nodes v.listings sound held from r.target known.target) known.target.path_is (file.copied v.kind) in
    let fits : FitsDirectory y c = record {
      no_growth = no_growth y nodes sound held from to r known name name_is is.room;
      not_full = not_full y nodes sound held from to r known name name_is is.room;
    } in
    ap (λ (u : Opened). short u c) (sym same) ∙ placing.short_is m y c refl fits ∙ ap (λ (n : ℕ). space_refusal m (units m.geometry n)) (wants.len ∙ sym (is.bytes ∙ file.len)) ∙ sym (none_more m w.bytes)
    ∙ sym (ap₂ (λ (s : Option ℕ) (g : Option Growth).
    short_of m (let n : ℕ = cond (is_some (option_and_then (λ (d : ℕ). slack_left m owners d w.bytes) s)) 0 w.bytes in n) (is_grown_alone h g) (grown_bytes m h g)) is.slack is.grows)
