-- Images that differ in sectors alone in which nothing lies open as the very same.
use Rattle.std.proofs.Common.{◌≡◌, ◌≤◌, inl, ℕ, true, false, List, [], ◌++◌, length, refl, sym, ap, subst, ◌∙◌, arith}
use Rattle.std.specs.Prelude.{Contains, Ok, Err, Result}
use Rattle.std.proofs.lemmas.Bool.{false_from_ne_true as unless}
use Rattle.fc_record.specs.declared.Kind.{Kind}
use Rattle.fc_record.specs.Kinds.{fits_kind}
use Rattle.fc_newmap.specs.Map.{Map, map_sectors}
use Rattle.fc_newmap.proofs.PlaceLemmas.{in_either, in_front}
use Rattle.fc_oldmap.specs.OldMap.{IsOldMap, OldMapContent}
use Rattle.fc_oldmap.specs.Laws.{ReadsBack}
use Rattle.fc_dirs.specs.Directory.{directory_of}
use Rattle.fc_image.specs.declared.ImageFault.{ImageFault}
use Rattle.fc_image.specs.Layout.{Layout, dir_form, is_among, is_apart, map_place, sector_bytes}
use Rattle.fc_image.specs.Objects.{objects_of}
use Rattle.fc_image.specs.Opening.{MapAndRoot, Opened, boot_place, map_and_root, reserved_in}
use Rattle.fc_image.specs.Stays.{HasSectorsOf, OpensAs, stored_objects}
use Rattle.fc_image.specs.Walk.{Object, reader_of}
use Rattle.fc_image.proofs.FreeLemmas.{object_same, parts_of, stored_same}
use Rattle.fc_image.proofs.HolesLemmas.{apart_at, apart_from}
use Rattle.fc_image.proofs.MoveLemmas.{open_by}
use Rattle.fc_image.proofs.TreeLemmas.{tree_edit_law}
use Rattle.fc_image.proofs.WalkLemmas.{open_as-spelled, walk-Tells}
use Rattle.fc_changes.specs.old.Owed.{IsMapAfter}
use Rattle.fc_changes.proofs.BasicLemmas.{clash}
use Rattle.fc_changes.proofs.lemmas.old.MapLemmas.{fits_now, found_now, front_same, old_disc}
use Rattle.fc_laws.proofs.lemmas.takeover.KindLemmas.{new_kind}
use Rattle.fc_safelaws.specs.Free.{MappedImage}
use Rattle.fc_safelaws.proofs.FreeLemmas.{free_space_law}
use Rattle.fc_tree.specs.Parts.{Parts}
use Rattle.fc_tree.proofs.WalkedLemmas.{listed_directory}
use Rattle.fc_model.specs.Command.{Command}
use Rattle.fc_writing.specs.declared.copies.Copies.{Copies}
use Rattle.fc_writing.specs.Laws.{ChangesOnly}
use Rattle.fc_writing.specs.Ready.{early_place, late_place, source_content, source_place}
use Rattle.fc_writing.specs.declared.ready.Ready.{Ready}
use Rattle.fc_writing.proofs.ContentLemmas.{part_outside}
use Rattle.fc_writing.proofs.EarlyLemmas.{source_sectors}
use Rattle.fc_change.specs.declared.job.Job.{Job}
use Rattle.fc_change.specs.OldSpace.{LieBehind}
use Rattle.fc_given.specs.Law.{IsBegun}
use Rattle.fc_given.proofs.MapLemmas.{beforehand_law}
use Rattle.fc_holdings.specs.Holdings.{CopiesAre, HoldsMap}
use Rattle.fc_commands.specs.declared.stages.Prepared.{Prepared}
use Rattle.fc_commands.specs.Given.{IsFile, OpensAlike, OpensAlikeOf}
use Rattle.fc_commands.specs.Jobs.{IsJobFor}
use Rattle.fc_commands.specs.Promises.{SameMap, object_place}
use Rattle.fc_commands.specs.Run.{IsMapIn}
use Rattle.fc_commands.specs.Stages.{IsPreparedFor}
use Rattle.fc_commands.specs.Written.{CanWriteOn}
use Rattle.fc_commands.proofs.FreePlaceLemmas.{LieFree, place_free, some_free}
use Rattle.fc_commands.proofs.GivenJobLemmas.{given_within}
use Rattle.fc_commands.proofs.GivenLemmas.{can_put_on, copies_on}
use Rattle.fc_commands.proofs.MomentLemmas.{known_map}

-- It opens as the same, and each object is stored as it was.
abbrev OpensSame : Kind → Opened → List ℕ → List ℕ → Type 0
OpensSame kind view was image = OpensAs image kind view × (stored_objects image view ≡ stored_objects was view)

-- ---- with any map

-- if the map is read alike, and all objects have their sectors' bytes
any_same : (kind : Kind) (was image : List ℕ) (view : Opened) (size : ℕ) → OpensAs was kind view → sector_bytes view.layout ≡ size → length image ≡ length was → fits_kind image kind ≡ true
    → map_and_root image kind ≡ map_and_root was kind → ((o : Object) → Contains (objects_of view.listings) o → HasSectorsOf size o.sectors was image) → OpensSame kind view was image
any_same kind was image view size opens is_size long fits map objects =
    let p = parts_of was kind view opens.opened in
    let found = p.0 in
    let layout : found.0 ≡ view.layout = ap (λ (w : Opened). w.layout) p.1.4 in
    let told = walk-Tells (reader_of was found.0) found.0 (reserved_in kind found.0) found.1 found.2 view.listings p.1.2 in
    let sound = tree_edit_law.opened was kind view opens in (
      record {
        kind_right = opens.kind_right;
        opened = open_as-spelled image kind found.0 found.1 found.2 (reader_of was found.0) view.listings fits (omega (arith, p.1.0, long)) (map ∙ p.1.1) p.1.2 p.1.3
            (λ l there. ap (directory_of (dir_form found.0))
            (object_same size was image found.0 l.object (ap sector_bytes layout ∙ is_size) (objects l.object (listed_directory view.layout view.listings sound l there).0)) ∙ told l there)
            ∙ ap (λ (w : Opened). let r : Result Opened ImageFault = Ok w in r) p.1.4;
      },
      stored_same size was image view.layout (objects_of view.listings) is_size objects,
    )

module _ (kind : Kind) (was image : List ℕ) (view : Opened) (opens : OpensAs was kind view) (sectors : List ℕ) (free : LieFree kind view sectors) where
  objects_stay : (size : ℕ) → ChangesOnly size sectors was image → (o : Object) → Contains (objects_of view.listings) o → HasSectorsOf size o.sectors was image
  objects_stay size only o there s i = only.outside s (apart_at o.sectors sectors s (free.apart o there) i)

  -- ---- with an old map

  old_same : ReadsBack → (space : OldMapContent) → IsOldMap space → LieBehind space → view.layout ≡ Layout.Old space → ChangesOnly (sector_bytes (Layout.Old space)) sectors was image
      → is_apart sectors (map_place (Layout.Old space)) ≡ true → OpensSame kind view was image
  old_same back space is behind layout only off =
      let p = parts_of was kind view opens.opened in
      let at : p.0.0 ≡ Layout.Old space = ap (λ (w : Opened). w.layout) p.1.4 ∙ layout in
      let disc = old_disc kind was space p.0.1 p.0.2 (p.1.1 ∙ ap (λ (l : Layout). let r : Result MapAndRoot ImageFault = Ok (l, p.0.1, p.0.2) in r) at) p.1.5 opens.kind_right in
      let front = front_same was image space.sector_units disc.units
      (λ s i. only.outside s (unless (is_among sectors s) (λ j. clash (is_among (map_place (Layout.Old space)) s) i (apart_at sectors (map_place (Layout.Old space)) s off j)))) in
      let after : IsMapAfter space space.holes was image = record { few = is.few; bytes = inl (refl, front.0); rest = front.1 } in
      let still : IsMapAfter space space.holes was was = record { few = is.few; bytes = inl (refl, refl); rest = refl } in
      any_same kind was image view (sector_bytes (Layout.Old space)) opens (ap sector_bytes layout) only.length_stays (fits_now back kind was image space disc space.holes only.length_stays after is behind)
      (found_now back kind was image space disc space.holes only.length_stays after is behind ∙ sym (found_now back kind was was space disc space.holes refl still is behind))
      (objects_stay (sector_bytes (Layout.Old space)) only)

  -- ---- with a new map

  new_same : (m : Map) → view.layout ≡ Layout.New m → ChangesOnly (sector_bytes (Layout.New m)) sectors was image → is_apart sectors (map_place (Layout.New m)) ≡ true → SameMap (Layout.New m) was image → OpensSame kind view was image
  new_same m layout only off chooses =
      let r = new_kind was kind view m opens layout in
      let k = open_by was kind r.0 view m r.1 opens layout in
      let back : (let w : Opened = record { kind = kind; layout = Layout.New m; listings = view.listings } in w) ≡ view = λ i. record { kind = sym k.kind_is i; layout = sym layout i; listings = view.listings } in
      let x : MappedImage = record { kind = kind; r = r.0; m = m; listings = view.listings; image = was; new_kind = r.1; opens = subst (OpensAs was kind) (sym back) opens } in
      let boot = subst (λ (l : Layout). is_apart (boot_place kind (sector_bytes l)) sectors ≡ true) layout free.boot in
      let both = free_space_law.opens x sectors image
      (record {
        reserved = apart_from sectors (reserved_in kind (Layout.New m)) (λ s i j. elim (in_either (map_sectors m.geometry) (boot_place kind m.geometry.sector) s j) [
          | Ok here ↦ clash (is_among (map_sectors m.geometry) s) here (apart_at sectors (map_sectors m.geometry) s off i)
          | Err there ↦ clash (is_among sectors s) i (apart_at (boot_place kind m.geometry.sector) sectors s boot there)
        ]);
        objects_apart = free.apart;
      })
      (record { same_length = only.length_stays; outside = λ s out map. only.outside s out }) chooses in
      subst (λ (w : Opened). OpensSame kind w was image) back both

  -- ---- with either

  alike_on : ReadsBack → (layout : Layout) (n : ℕ) → IsMapIn layout → HoldsMap layout n → view.layout ≡ layout → ChangesOnly (sector_bytes layout) sectors was image → is_apart sectors (map_place layout) ≡ true → SameMap layout image image
      → OpensSame kind view was image
  alike_on back (Layout.New m) n is holds layout only off same = new_same m layout only off same
  alike_on back (Layout.Old space) n is holds layout only off same = old_same back space is holds.1 layout only off

  pub alike : ReadsBack → (layout : Layout) (n : ℕ) → IsMapIn layout → HoldsMap layout n → view.layout ≡ layout → ChangesOnly (sector_bytes layout) sectors was image → is_apart sectors (map_place layout) ≡ true → SameMap layout image image
      → OpensAlike kind view was image
  alike back layout n is holds at only off same =
      let both = alike_on back layout n is holds at only off same in
      record {
        sectors = sectors;
        only = subst (λ (l : Layout). ChangesOnly (sector_bytes l) sectors was image) (sym at) only;
        off_map = subst (λ (l : Layout). is_apart sectors (map_place l) ≡ true) (sym at) off;
        off_boot = free.boot;
        apart = free.apart;
        opens = both.0;
        objects = both.1;
      }

-- ---- a file's job, of which some of the bytes were written

source_off : (source rest late mapped : List ℕ) → is_apart ((source ++ rest) ++ late) mapped ≡ true → is_apart source mapped ≡ true
source_off source rest late mapped off =
    apart_from source mapped (λ s i j. clash (is_among mapped s) j (apart_at ((source ++ rest) ++ late) mapped s off (in_front (source ++ rest) late s (in_front source rest s i))))

pub opens_alike : ReadsBack → (h : Parts) (job : Job) (name : List ℕ) (p : Prepared) (prep : IsPreparedFor h job name p) (n : ℕ) (copies : Copies) (c : Command) (bytes given was image : List ℕ) → IsFile job → IsMapIn h.layout → HoldsMap h.layout n
    → CanWriteOn h.layout n p.ready → IsJobFor c h job name bytes → CopiesAre copies h.layout was → IsBegun (sector_bytes h.layout) p.ready given was image → OpensAlikeOf h was image
opens_alike back h job name p prep n copies c bytes given was image file is holds can j known begun = λ kind view opens parts.
    let size = sector_bytes h.layout in
    let sectors = source_place p.ready.source in
    let only : ChangesOnly size sectors was image = record {
      length_stays = begun.length_stays;
      outside = λ s out. part_outside size [] (source_content size was given p.ready.source) was image begun s refl
          (subst (λ (ss : List ℕ). is_among ss s ≡ false) (sym (source_sectors size was given p.ready.source)) out);
    } in
    let free = some_free kind view (object_place prep.spaces.object) sectors (given_within h job name p prep file)
    (place_free h job name prep.wants prep.spaces c bytes kind was view file is prep.spaced j opens parts) in
    alike kind was image view opens sectors free back h.layout n is holds (sym parts.layout) only
    (source_off sectors _ (late_place p.ready) (map_place h.layout) (can_put_on h.layout n p.ready can).beside)
    (known_map copies h.layout image (copies_on beforehand_law h.layout n p.ready copies given was image can begun known))
