-- What a command in progress leaves of free space and of the map.
use Rattle.std.proofs.Common.{◌≡◌, ◌<◌, inl, inr, ℕ, List, ◌++◌, true, refl, sym, subst}
use Rattle.std.specs.Prelude.{Contains}
use Rattle.fc_record.specs.declared.Kind.{Kind}
use Rattle.fc_newmap.specs.Map.{Map}
use Rattle.fc_newmap.specs.NewMap.{IsNewMap}
use Rattle.fc_model.specs.Command.{Command}
use Rattle.fc_image.specs.Layout.{Layout, dir_form, map_place, sector_bytes}
use Rattle.fc_image.specs.Objects.{has_sectors, objects_of}
use Rattle.fc_image.specs.Opening.{Opened}
use Rattle.fc_image.specs.Sound.{AreSound}
use Rattle.fc_image.specs.Stays.{OpensAs}
use Rattle.fc_image.specs.Walk.{Object, object_size}
use Rattle.fc_changes.proofs.ChangeLemmas.{a_sector}
use Rattle.fc_changes.proofs.NewPlaceLemmas.{some_there}
use Rattle.fc_laws.proofs.lemmas.agree.BeforeLemmas.{new_shape}
use Rattle.fc_tree.specs.Agree.{Agree}
use Rattle.fc_tree.specs.Parts.{ArePartsOf, Parts}
use Rattle.fc_tree.proofs.WalkedLemmas.{sound_law}
use Rattle.fc_writing.specs.Laws.{ChangesOnly}
use Rattle.fc_change.specs.declared.job.Job.{Job}
use Rattle.fc_change.specs.Places.{ArePlacesOn}
use Rattle.fc_commands.specs.Judgments.{CommandLeaves}
use Rattle.fc_commands.specs.Jobs.{IsJobFor}
use Rattle.fc_commands.specs.Promises.{IsUnderWay, StepsMap, change_place}
use Rattle.fc_commands.specs.Run.{IsMapIn}
use Rattle.fc_commands.proofs.NodeLemmas.{each_at}
use Rattle.fc_runs.specs.Space.{SparesNew, SparesSpace}
use Rattle.fc_runs.proofs.SpaceLemmas.{space_same}
use Rattle.fc_shell.proofs.FreeLemmas.{free_stays, map_stays, takes}
use Rattle.fc_shell.proofs.NeedLemmas.{IsNeed, need}
use Rattle.fc_shell.proofs.OldFreeLemmas.{old_spared}
use Rattle.fc_shell.proofs.OwnMapLemmas.{own_counts}
use Rattle.fc_shell.specs.SparesLaw.{SparesLaw}

-- An object of some bytes has a sector.
some_sectors : (m : Map) (v : Opened) (o : Object) → IsNewMap m → AreSound (Layout.New m) v.listings → Contains (objects_of v.listings) o → 0 < object_size (dir_form (Layout.New m)) o.entry → has_sectors o ≡ true
some_sectors m v o is sound there big =
    let s = a_sector m o.entry.address (object_size (dir_form (Layout.New m)) o.entry) o.sectors big (new_shape m is).some (each_at (Layout.New m) v.listings sound o there) in some_there o.sectors s.0 s.1

module _ (was image : List ℕ) (opened : Kind) (v : Opened) (opens : OpensAs was opened v) (h : Parts) (kind : Kind) (a : Agree kind h) (parts : ArePartsOf h v) where
  sound : AreSound v.layout v.listings
  sound = sound_law was opened v opens

  module _ (c : Command) (job : Job) (name bytes : List ℕ) (of_command : IsJobFor c h job name bytes) (way : IsUnderWay h job name was image) where
    on_new : (m : Map) → v.layout ≡ Layout.New m → h.layout ≡ Layout.New m → IsNewMap m → IsMapIn h.layout → SparesNew m v c was image
    on_new m at here is is_map =
        let placed = subst (λ (l : Layout). ArePlacesOn l h way.wants way.spaces) here way.spaced.places in
        let needs : IsNeed h v c way.wants = need h kind a is_map v sound parts c job name bytes way.wants of_command way.spaced.wants in
        let map = subst (λ (l : Layout). StepsMap l way.spaces.take way.spaces.give was image) here way.map in
        let only = subst (λ (l : Layout). ChangesOnly (sector_bytes l) (change_place h way.spaces way.change ++ map_place l) was image) here way.only in
        record {
          takes = takes m h v c way.wants way.spaces placed needs;
          free = free_stays opened v m h way.wants way.spaces way.change was image opens at here placed only;
          map = own_counts h v c m way.wants way.spaces placed needs is at sound parts
              (λ g e. some_sectors m v (needs.growth g e).0.object is (subst (λ (l : Layout). AreSound l v.listings) at sound) (needs.growth g e).0.there
              (subst (λ (l : Layout). 0 < object_size (dir_form l) (needs.growth g e).0.object.entry) at (needs.growth g e).2)) image map;
          still = λ none. map_stays m h v c way.wants way.spaces placed needs none image map;
        }

    on : (l : Layout) → v.layout ≡ l → h.layout ≡ l → IsMapIn l → SparesSpace l v c was image
    on (Layout.New m) at here is = on_new m at here is (subst IsMapIn (sym here) is)
    on (Layout.Old space) at here is =
        old_spared was image opened v opens sound h parts space at c way.wants way.spaces way.change
        (need h kind a (subst IsMapIn (sym here) is) v sound parts c job name bytes way.wants of_command way.spaced.wants)
        (subst (λ (l : Layout). ArePlacesOn l h way.wants way.spaces) here way.spaced.places)
        (subst (λ (l : Layout). ChangesOnly (sector_bytes l) (change_place (record { layout = l; nodes = h.nodes; owners = h.owners }) way.spaces way.change ++ map_place l) was image) here way.only)
        (subst (λ (l : Layout). StepsMap l way.spaces.take way.spaces.give was image) here way.map)

  space_spared : IsMapIn h.layout → (c : Command) → CommandLeaves c h was image → SparesSpace v.layout v c was image
  space_spared is c (inl before) = subst (SparesSpace v.layout v c was) (sym before.same) (space_same opened v c was opens)
  space_spared is c (inr way) = on c way.job way.name way.bytes way.of_command way.moment v.layout refl parts.layout (subst IsMapIn parts.layout is)

pub spares_law : SparesLaw
spares_law was image opened kind v h c opens parts a is leaves = space_spared was image opened v opens h kind a parts is c leaves
