-- Where a file comes to lie: in sectors in which nothing lies yet.
use Rattle.std.proofs.Common.{◌≡◌, inl, inr, ℕ, true, false, List, [], Option, Some, None, refl, sym, ap, subst, ◌∙◌}
use Rattle.std.specs.Prelude.{◌&&◌, Contains, is_none}
use Rattle.fc_alloc.specs.declared.owner.Owner.{Owner}
use Rattle.fc_record.specs.declared.Kind.{Kind}
use Rattle.fc_record.specs.declared.Kind.TheVariants.{Boot, OneZone, DiscD, DiscL}
use Rattle.fc_names.specs.Names.{Path}
use Rattle.fc_model.specs.Command.{Command}
use Rattle.fc_newmap.specs.Map.{Map}
use Rattle.fc_newmap.specs.NewMap.{IsNewMap}
use Rattle.fc_oldmap.specs.OldMap.{IsOldMap, OldMapContent}
use Rattle.fc_image.specs.Edits.{IsAt}
use Rattle.fc_image.specs.Layout.{Layout, dir_form, is_among, is_apart, sector_bytes}
use Rattle.fc_image.specs.Objects.{objects_of}
use Rattle.fc_image.specs.Opening.{MapAndRoot, Opened, boot_place}
use Rattle.fc_image.specs.Sound.{AreSound}
use Rattle.fc_image.specs.Stays.{OpensAs}
use Rattle.fc_image.specs.Walk.{Listing, Object}
use Rattle.fc_image.proofs.FreeLemmas.{parts_of}
use Rattle.fc_image.proofs.HolesLemmas.{apart_at, apart_from, found_map}
use Rattle.fc_image.proofs.OldMapLemmas.{not_old}
use Rattle.fc_image.proofs.TreeLemmas.{tree_edit_law}
use Rattle.fc_changes.specs.Changed.{IsFileAt}
use Rattle.fc_changes.specs.old.Owed.{IsBefore}
use Rattle.fc_changes.proofs.BasicLemmas.{clash}
use Rattle.fc_laws.specs.nodes.Edits.{Nodes}
use Rattle.fc_laws.specs.takeover.Places.{MayBeWritten, OpensBy}
use Rattle.fc_laws.specs.old.takeover.Places as old
use Rattle.fc_laws.proofs.lemmas.old.takeover.ApartLemmas.{places_law as old_places_law}
use Rattle.fc_objects.specs.Extents.{sectors_in}
use Rattle.fc_placing.specs.Places.{id_in, parts_in}
use Rattle.fc_placing.specs.declared.placing.Placing.{Placing}
use Rattle.fc_refusals.specs.Slots.{IsSlot}
use Rattle.fc_refusals.specs.declared.target.Slot.{Slot}
use Rattle.fc_refusals.specs.declared.target.Slot.TheVariants as slots
use Rattle.fc_tree.specs.Nodes.{number_of}
use Rattle.fc_tree.specs.Parts.{AreOwners, ArePartsOf, Parts}
use Rattle.fc_change.specs.declared.job.FileWords.{FileWords}
use Rattle.fc_change.specs.declared.job.Job.{Job}
use Rattle.fc_change.specs.declared.job.Job.TheVariants as jobs
use Rattle.fc_change.specs.declared.job.Wants.{Wants}
use Rattle.fc_change.specs.declared.spaces.Place.{Place}
use Rattle.fc_change.specs.declared.spaces.Spaces.{Spaces}
use Rattle.fc_change.specs.Jobs.{IsJob}
use Rattle.fc_change.specs.Needs.{slack_wanted}
use Rattle.fc_change.specs.Places.{ArePlacesOn, IsOldPlaced, IsPlaceFor, IsPlacingFor, is_directory}
use Rattle.fc_commands.specs.Given.{IsFile}
use Rattle.fc_commands.specs.Jobs.{IsJobFor}
use Rattle.fc_commands.specs.Promises.{object_place}
use Rattle.fc_commands.specs.Run.{IsMapIn}
use Rattle.fc_commands.specs.Stages.{IsSpaced}
use Rattle.fc_commands.proofs.ArrivalLemmas.{Arrival, entry_of}
use Rattle.fc_commands.proofs.NewPlaceLemmas.{LiesBy, may_be_written}
use Rattle.fc_commands.proofs.NewSpotLemmas.{file_spot, lies_by}
use Rattle.fc_commands.proofs.OldPlaceLemmas as old_place

-- No object lies in these sectors, and no boot block.
pub record LieFree (kind : Kind) (view : Opened) (sectors : List ℕ) : Type 0 where
  pub boot : is_apart (boot_place kind (sector_bytes view.layout)) sectors ≡ true
  pub apart : (o : Object) → Contains (objects_of view.listings) o → is_apart o.sectors sectors ≡ true

-- Some of them are so, too.
pub some_free : (kind : Kind) (view : Opened) (all some : List ℕ) → ((s : ℕ) → is_among all s ≡ false → is_among some s ≡ false) → LieFree kind view all → LieFree kind view some
some_free kind view all some within free = record {
  boot = narrow (boot_place kind (sector_bytes view.layout)) free.boot;
  apart = λ o at. narrow o.sectors (free.apart o at);
}
  where
    narrow : (xs : List ℕ) → is_apart xs all ≡ true → is_apart xs some ≡ true
    narrow xs apart = apart_from xs some (λ s i j. clash (is_among some s) j (within s (apart_at xs all s apart i)))

none_free : (kind : Kind) (view : Opened) → LieFree kind view []
none_free kind view = record { boot = apart_from (boot_place kind (sector_bytes view.layout)) [] (λ s i j. cc); apart = λ o at. apart_from o.sectors [] (λ s i j. cc) }

-- a file of so many bytes that lies there
abbrev file_there : Layout → ℕ → Place → Object
file_there layout bytes p = record {
  path = [];
  entry = entry_of (dir_form layout) (Arrival.Saves (record { load = 0; exec = 0; len = bytes })) [] p.address;
  sectors = sectors_in p.extents.items;
}

-- ---- on a new map

new_free : (m : Map) (nodes : Nodes) (owners : List Owner) (kind : Kind) (was : List ℕ) (view : Opened) → IsNewMap m → OpensAs was kind view → ArePartsOf (record { layout = Layout.New m; nodes = nodes; owners = owners }) view
    → (near : Path) (dir : ℕ) → number_of nodes near ≡ Some dir → (w : Wants) → w.shares ≡ Some dir → (q : Placing) → IsPlacingFor m owners w q → (o : Option Place) → IsPlaceFor m w q o → LieFree kind view (object_place o)
new_free m nodes owners kind was view is opens parts near dir numbered w shares q at None place = none_free kind view
new_free m nodes owners kind was view is opens parts near dir numbered w shares q at (Some p) place =
    let listings = view.listings in
    let sound = subst (λ (l : Layout). AreSound l listings) (sym parts.layout) (tree_edit_law.opened was kind view opens) in
    let owned = subst (λ (l : Layout). AreOwners owners nodes l (objects_of listings)) (sym parts.layout) parts.owners in
    let o = file_there (Layout.New m) w.bytes p in
    let lies = lies_by m nodes owners is listings sound parts.nodes owned near dir numbered w q p (inr shares) at place in
    let no_folder : is_directory w ≡ false = ap (λ (n : Option ℕ). is_none n && is_none w.copied) shares in
    let spot : IsFileAt m (objects_of listings) near w.bytes (id_in q) (parts_in q) o = file_spot m nodes owners is listings sound parts.nodes owned near dir numbered w q o shares no_folder at place.0 in
    let by : OpensBy kind was view m = record { opens = opens; layout = sym parts.layout } in
    let may : MayBeWritten kind view m Command.Free (sectors_in p.extents.items) = may_be_written kind was view m Command.Free by is o near w.bytes q refl lies (inl spot) in
    record {
      boot = subst (λ (l : Layout). is_apart (boot_place kind (sector_bytes l)) (sectors_in p.extents.items) ≡ true) parts.layout may.boot;
      apart = λ x there. may.dirs x there refl;
    }

-- ---- on an old map

no_boot : (was : List ℕ) (kind : Kind) (view : Opened) (space : OldMapContent) → OpensAs was kind view → view.layout ≡ Layout.Old space → (size : ℕ) → boot_place kind size ≡ []
no_boot was (Boot r) view space opens layout size =
    let p = parts_of was (Boot r) view opens.opened in
    let f = found_map was (Boot r) r p.0 refl p.1.1 in
    absurd (not_old _ space (ap (λ (x : MapAndRoot). x.0) f.is ∙ ap (λ (w : Opened). w.layout) p.1.4 ∙ layout))
no_boot was (OneZone r) view space opens layout size = refl
no_boot was DiscD view space opens layout size = refl
no_boot was (DiscL units) view space opens layout size = refl

old_free : (space : OldMapContent) (nodes : Nodes) (owners : List Owner) (kind : Kind) (was : List ℕ) (view : Opened) → IsOldMap space → OpensAs was kind view
    → ArePartsOf (record { layout = Layout.Old space; nodes = nodes; owners = owners }) view → (w : Wants) (o : Option Place) → IsOldPlaced space w o → LieFree kind view (object_place o)
old_free space nodes owners kind was view is opens parts w None place = none_free kind view
old_free space nodes owners kind was view is opens parts w (Some p) place =
    let o = file_there (Layout.Old space) w.bytes p in
    let lies : IsAt (Layout.Old space) o = place.sectors in
    let before : IsBefore kind was view space = record { opens = opens; layout = sym parts.layout; is_map = is } in
    let may : old.MayBeWritten view space Command.Free (sectors_in p.extents.items) = old_places_law.file kind was view space Command.Free w.bytes o before refl lies (old_place.spot space w p o refl place) in
    let spared = old_places_law.spared kind was view space Command.Free (sectors_in p.extents.items) before may in
    record {
      boot = ap (λ (xs : List ℕ). is_apart xs (sectors_in p.extents.items)) (no_boot was kind view space opens (sym parts.layout) (sector_bytes view.layout));
      apart = λ x there. spared.dirs x there refl;
    }

-- ---- on either

free_on : (layout : Layout) (nodes : Nodes) (owners : List Owner) (kind : Kind) (was : List ℕ) (view : Opened) → IsMapIn layout → OpensAs was kind view → ArePartsOf (record { layout = layout; nodes = nodes; owners = owners }) view
    → (near : Path) (dir : ℕ) → number_of nodes near ≡ Some dir → (w : Wants) → w.shares ≡ Some dir → (s : Spaces) → ArePlacesOn layout (record { layout = layout; nodes = nodes; owners = owners }) w s → LieFree kind view (object_place s.object)
free_on (Layout.New m) nodes owners kind was view is opens parts near dir numbered w shares s places =
    new_free m nodes owners kind was view is opens parts near dir numbered w shares places.placing places.is s.object places.object
free_on (Layout.Old space) nodes owners kind was view is opens parts near dir numbered w shares s places = old_free space nodes owners kind was view is opens parts w s.object places.object

-- ---- of a file's job

-- The directory that gets the file has a node of this number.
pub record HasHolder (nodes : Nodes) (slot : Slot) (words : FileWords) : Type 0 where
  pub path : Path
  pub dir : ℕ
  pub numbered : number_of nodes path ≡ Some dir
  pub wanted : slack_wanted (jobs.File slot words) ≡ Some dir

of_slot : (nodes : Nodes) (listings : List Listing) (path : Path) (slot : Slot) (words : FileWords) → IsSlot nodes listings path slot → HasHolder nodes slot words
of_slot nodes listings path (slots.New dir) words is = record { path = is.listing.object.path; dir = dir; numbered = is.holder_is; wanted = refl }
of_slot nodes listings path (slots.Over t) words is = record { path = is.target.listing.object.path; dir = t.holder; numbered = is.target.holder_is; wanted = refl }

holder_of : (nodes : Nodes) (listings : List Listing) (c : Command) (slot : Slot) (words : FileWords) (name : List ℕ) → IsJob nodes listings c (jobs.File slot words) name → HasHolder nodes slot words
holder_of nodes listings (Command.Cat path) slot words name is = absurd is
holder_of nodes listings (Command.Load path) slot words name is = absurd is
holder_of nodes listings (Command.Digest path) slot words name is = absurd is
holder_of nodes listings (Command.Save path load exec saved) slot words name is = of_slot nodes listings path slot words is.0
holder_of nodes listings (Command.Create path load exec len) slot words name is = of_slot nodes listings path slot words is.0
holder_of nodes listings (Command.Cdir path) slot words name is = absurd is
holder_of nodes listings (Command.Delete path) slot words name is = absurd is
holder_of nodes listings (Command.Rename from to) slot words name is = absurd is
holder_of nodes listings (Command.Set path load exec access) slot words name is = absurd is
holder_of nodes listings Command.Free slot words name is = absurd is
holder_of nodes listings Command.Check slot words name is = absurd is
holder_of nodes listings Command.Compact slot words name is = absurd is
holder_of nodes listings Command.Reclaim slot words name is = absurd is
holder_of nodes listings (Command.Mark path attrs) slot words name is = absurd is

-- Nothing lies in the sectors that it gets.
pub place_free : (h : Parts) (job : Job) (name : List ℕ) (w : Wants) (s : Spaces) (c : Command) (bytes : List ℕ) (kind : Kind) (was : List ℕ) (view : Opened) → IsFile job → IsMapIn h.layout → IsSpaced h job name w s → IsJobFor c h job name bytes
    → OpensAs was kind view → ArePartsOf h view → LieFree kind view (object_place s.object)
place_free h (jobs.File slot words) name w s c bytes kind was view file is spaced j opens parts =
    let sound = tree_edit_law.opened was kind view opens in
    let dir = holder_of h.nodes view.listings c slot words name (j.is view sound parts) in
    free_on h.layout h.nodes h.owners kind was view is opens parts dir.path dir.dir dir.numbered w (spaced.wants.slack ∙ dir.wanted) s spaced.places
place_free h (jobs.Directory dir) name w s c bytes kind was view file is spaced j opens parts = absurd file
place_free h (jobs.Removal target) name w s c bytes kind was view file is spaced j opens parts = absurd file
place_free h (jobs.Move r) name w s c bytes kind was view file is spaced j opens parts = absurd file
place_free h (jobs.Words t words) name w s c bytes kind was view file is spaced j opens parts = absurd file
place_free h (jobs.Marks t attrs) name w s c bytes kind was view file is spaced j opens parts = absurd file
