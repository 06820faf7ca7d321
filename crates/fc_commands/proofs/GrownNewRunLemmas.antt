-- What comes to a directory that grows by it, on a new map, by any view: the parts agree afterwards, and the command is done.
use Rattle.std.proofs.Common.{◌≡◌, ℕ, List, refl, sym, subst, Some, None}
use Rattle.std.specs.FinMap.{get}
use Rattle.fc_alloc.specs.declared.owner.Owner.{Owner}
use Rattle.fc_names.specs.Names.{Path}
use Rattle.fc_newmap.specs.Map.{Map}
use Rattle.fc_newmap.specs.NewMap.{IsNewMap}
use Rattle.fc_record.specs.declared.Kind.{Kind}
use Rattle.fc_model.specs.Command.{Command}
use Rattle.fc_model.specs.Tree.{last_name}
use Rattle.fc_image.specs.Layout.{Layout}
use Rattle.fc_image.specs.Opening.{Opened}
use Rattle.fc_image.specs.Sound.{AreSound}
use Rattle.fc_image.specs.Stays.{OpensAs}
use Rattle.fc_changes.proofs.lemmas.old.BeforeLemmas.{opened_as}
use Rattle.fc_tree.specs.Agree.{Agree}
use Rattle.fc_tree.specs.Parts.{ArePartsOf, Parts}
use Rattle.fc_laws.specs.nodes.Edits.{Nodes}
use Rattle.fc_laws.specs.agree.Agreed.{AgreeOn}
use Rattle.fc_laws.proofs.lemmas.agree.BeforeLemmas.{agreed_law}
use Rattle.fc_outcomes.specs.NewImage.{Outcome}
use Rattle.fc_refusals.specs.Targets.{IsVacant}
use Rattle.fc_change.specs.declared.job.Growth.{Growth}
use Rattle.fc_change.specs.After.{AreOwnersAfter, nodes_after, owners_admitted}
use Rattle.fc_writing.specs.New.{IsChanged, IsGiven}
use Rattle.fc_commands.specs.declared.stages.Prepared.{Prepared}
use Rattle.fc_commands.specs.Promises.{ChangesParts}
use Rattle.fc_commands.specs.Stages.{IsPreparedFor}
use Rattle.fc_commands.proofs.ArrivalLemmas.{Arrival, Brings, job_of}
use Rattle.fc_commands.proofs.GrownNewLemmas as new
use Rattle.fc_commands.proofs.GrownNewDoneLemmas as done
use Rattle.fc_commands.proofs.GrownStoredLemmas.{filled_by}
use Rattle.fc_commands.proofs.RemovalRunLemmas.{new_view, parts, sound_in}
use Rattle.fc_commands.proofs.RemovalStageLemmas.{view_of}

-- By each view whose parts these are the path is vacant.
abbrev pub IsVacantBy : Parts → Path → ℕ → Type 0
IsVacantBy h path dir = (v : Opened) → AreSound v.layout v.listings → ArePartsOf h v → IsVacant h.nodes v.listings path dir

module _ (m : Map) (nodes : Nodes) (owners : List Owner) (is : IsNewMap m) (other : Kind) (a : Agree other (parts (Layout.New m) nodes owners)) (dir : ℕ) (x : Arrival) (path : Path)
    (vacant : IsVacantBy (parts (Layout.New m) nodes owners) path dir) (pr : Prepared) (prep : IsPreparedFor (parts (Layout.New m) nodes owners) (job_of dir x) (last_name path) pr) (growth : Growth)
    (some : prep.wants.grows ≡ Some growth)
    (m' : Map) (owners' : List Owner) (number : ℕ) (free : get nodes number ≡ None) (given : IsGiven m pr.ready m')
    (after : AreOwnersAfter (Layout.New m') nodes pr.change (owners_admitted (Layout.New m) pr.change.object number owners) owners') where
  abbrev h : Parts
  h = parts (Layout.New m) nodes owners

  sound : AreSound (Layout.New m) a.listings
  sound = agreed_law.sound_by other h a

  on : AgreeOn other m nodes owners a.root a.listings
  on = agreed_law.named other h m refl is a

  spot : IsVacant nodes a.listings path dir
  spot = vacant (view_of h other a) sound (agreed_law.viewed other h a)

  -- The parts agree afterwards.
  pub agrees : Agree other (parts (Layout.New m') (nodes_after pr.change number nodes) owners')
  agrees = new.agrees m nodes owners dir x path pr prep growth some is other a.root a.listings on spot number free m' owners' given after

  -- The command is done.
  pub changes : (c : Command) (bytes : List ℕ) → Brings x path bytes c → (was image : List ℕ) → IsChanged m m' pr.ready bytes was image → ChangesParts c h (parts (Layout.New m') (nodes_after pr.change number nodes) owners') was image
  changes c bytes brings was image changed kind view opens held =
      let same = opened_as kind was view (Layout.New m) opens (sym held.layout) in
      let seen = new_view m nodes owners other is a kind was view opens held in
      let here = vacant view (sound_in (Layout.New m) nodes owners view (agreed_law.sound kind m nodes owners seen.0 view.listings seen.1) held) held in
      subst (λ (v : Opened). Outcome kind was image v c (parts (Layout.New m') (nodes_after pr.change number nodes) owners')) same
      (done.outcome m nodes owners dir x path pr prep growth some is kind seen.0 view.listings seen.1 here number free m' owners' given after bytes (filled_by x path bytes c brings) c brings was image
      (subst (OpensAs was kind) (sym same) opens) changed)
