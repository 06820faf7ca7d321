-- What a command has done on an image with an old map.
use Rattle.std.proofs.Common.{◌≡◌, ◌⊎◌, inl, inr, ⊎_elim, ℕ, ◌<◌, ◌*◌, ◌/◌, true, List, ◌++◌, drop, length, map, refl, sym, ap, subst, ◌∙◌, arith}
use Rattle.std.specs.Prelude.{Contains, not, ◌&&◌}
use Rattle.std.specs.List.{flat_map, range_with_len}
use Rattle.fc_device.specs.Sectors.{sector_at}
use Rattle.fc_names.specs.Names.{Path}
use Rattle.fc_record.specs.declared.Kind.{Kind}
use Rattle.fc_record.specs.Kinds.{disc_size}
use Rattle.fc_oldmap.specs.Laws.{ReadsBack}
use Rattle.fc_oldmap.specs.OldMap.{OldMapContent, map_units}
use Rattle.fc_model.specs.Answer.{changed}
use Rattle.fc_model.specs.Command.{Command}
use Rattle.fc_image.specs.Layout.{Layout, disc_sectors, hole_sectors, is_among, map_place, sector_bytes}
use Rattle.fc_image.specs.Report.{is_lost_sector}
use Rattle.fc_image.specs.Walk.{Listing, Object}
use Rattle.fc_image.specs.Objects.{objects_of, tree_of}
use Rattle.fc_image.specs.OldMaps.{IsOldDisc as IsOld}
use Rattle.fc_image.specs.TreeEdits.{IsMove, IsObjectEdit}
use Rattle.fc_image.specs.effects.Steady.{OutsideSteady, SameSectors, lost_sectors}
use Rattle.fc_image.proofs.FreeLemmas.{range_bounds}
use Rattle.fc_image.proofs.MoveLemmas.{all_filter}
use Rattle.fc_image.proofs.OldMapLemmas.{old_map_law}
use Rattle.fc_image.proofs.TreeLemmas.{tree_edit_law}
use Rattle.fc_changes.proofs.BasicLemmas.{clash}
use Rattle.fc_changes.proofs.OutsideLemmas.{same_behind}
use Rattle.fc_changes.specs.old.Owed.{holding}
use Rattle.fc_changes.proofs.lemmas.old.BeforeLemmas.{object_lies, parts}
use Rattle.fc_changes.proofs.lemmas.old.HoleLemmas.{below_end, units_in}
use Rattle.fc_changes.proofs.lemmas.old.MapLemmas.{IsOldDisc, fits_now, found_now, old_disc}
use Rattle.fc_changes.proofs.lemmas.old.PlaceLemmas.{in_disc}
use Rattle.fc_laws.specs.old.agree.Laws.{parts_with}
use Rattle.fc_edits.specs.Edit.{objects}
use Rattle.fc_edits.specs.OldPlaces.{OldLiesAgain, with_holes}
use Rattle.fc_edits.specs.PartsEdit.{PartsEdit, old_parts}
use Rattle.fc_edits.proofs.lemmas.AgreeLemmas as ag
use Rattle.fc_edits.proofs.lemmas.LeavingLemmas.{left_among}
use Rattle.fc_outcomes.specs.Done.{IsDone}
use Rattle.fc_outcomes.specs.NewImage.{Outcome}
use Rattle.fc_outcomes.specs.OldImage.{IsAskedOf, OldImageEdit, OldImageLaw, is_now, was}
use Rattle.fc_outcomes.specs.Puts.{put_sectors}
use Rattle.fc_outcomes.specs.Written.{IsEditWritten, IsOldMapWritten, KeepsPaths, MovesPaths, WritesForEdit}
use Rattle.fc_outcomes.proofs.lemmas.KeptLemmas.{whose_now}
use Rattle.fc_outcomes.proofs.lemmas.OldDoneLemmas.{done_old, done_old_moved}
use Rattle.fc_outcomes.proofs.lemmas.PutLemmas.{edit_written, written_for}
use Rattle.fc_outcomes.proofs.lemmas.SteadyLemmas.{directories_steady}
use Rattle.std.proofs.lemmas.Bool.{false_from_ne_true as unless, not-true as not_true}
use Rattle.fc_record.proofs.KindLemmas.{and_first, and_second}
use Rattle.fc_changes.proofs.PlacedLemmas.{is_in_flat as among_flat}
use Rattle.fc_laws.proofs.lemmas.old.takeover.ApartLemmas.{in_sectors}

-- ---- numbers

some_bytes : (u : ℕ) → (u ≡ 1) ⊎ (u ≡ 4) → 0 < 256 * u
some_bytes u (inl one) = omega (arith, one)
some_bytes u (inr four) = omega (arith, four)

module _ (back : ReadsBack) (x : OldImageEdit) where
  abbrev kind : Kind
  kind = x.parts.kind

  abbrev space : OldMapContent
  space = x.parts.space

  abbrev y : Layout
  y = Layout.Old x.parts.space

  abbrev y' : Layout
  y' = with_holes x.parts.space x.parts.holes

  abbrev listings : List Listing
  listings = x.parts.listings

  abbrev mem : PartsEdit
  mem = old_parts x.parts

  abbrev sectors : List ℕ
  sectors = put_sectors x.puts

  ww : WritesForEdit x.image x.image' y x.parts.edit sectors
  ww = written_for mem x.puts x.image x.image' x.out x.puts_of

  disc : IsOldDisc kind x.image space
  disc = let p = parts kind x.image y listings x.opens in old_disc kind x.image space p.address p.size p.found p.fits x.opens.kind_right

  facts : IsOld space (objects_of listings)
  facts = old_map_law x.image kind (was x) space x.opens refl

  -- ---- what is written

  joins_busy : (o : Object) → OldLiesAgain space x.parts.edit o → (s : ℕ) → is_among o.sectors s ≡ true
      → ((p : Object) × Contains (objects_of listings) p × (is_among p.sectors s ≡ true)) ⊎ (is_among (hole_sectors y) s ≡ true)
  joins_busy o (inl q) s i =
      inl (q.0.1, left_among x.parts.nodes y listings x.parts.edit (ag.h mem) x.parts.is_edit q.0 q.1, subst (λ (ss : List ℕ). is_among ss s ≡ true) q.2.sectors i)
  joins_busy o (inr new) s i = inr (new s i).0

  -- each sector that is written is an object's, or a hole's
  busy : (s : ℕ) → is_among sectors s ≡ true → ((p : Object) × Contains (objects_of listings) p × (is_among p.sectors s ≡ true)) ⊎ (is_among (hole_sectors y) s ≡ true)
  busy s i =
      ⊎_elim (λ p. joins_busy p.0.1 (x.places.lies p.0 p.1) s p.2) (λ o. inl (o.0, o.1.among, o.3)) (whose_now mem x.image x.image' sectors ww s i)

  lost_stay : SameSectors (sector_bytes y) (lost_sectors space (objects_of listings)) x.image x.image'
  lost_stay =
      all_filter (is_lost_sector y (objects_of listings)) (λ s. sector_at (sector_bytes y) x.image' s ≡ sector_at (sector_bytes y) x.image s) (range_with_len 0 (disc_sectors y))
      (λ s i h.
      let all : List ℕ = flat_map (λ (o : Object). o.sectors) (objects_of listings) in
      let both = and_first (not (is_among (hole_sectors y) s) && not (is_among (map_place y) s)) (not (is_among all s)) h in
      let object = not_true (is_among all s) (and_second (not (is_among (hole_sectors y) s) && not (is_among (map_place y) s)) (not (is_among all s)) h) in
      let hole' = not_true (is_among (hole_sectors y) s) (and_first (not (is_among (hole_sectors y) s)) (not (is_among (map_place y) s)) both) in
      let map' = not_true (is_among (map_place y) s) (and_second (not (is_among (hole_sectors y) s)) (not (is_among (map_place y) s)) both) in
      ww.writes s
      (unless (is_among sectors s)
      (λ j. ⊎_elim (λ p. clash (is_among all s) (among_flat (λ (o : Object). o.sectors) (objects_of listings) p.0 s p.1 p.2) object) (λ hole. clash (is_among (hole_sectors y) s) hole hole') (busy s j))) map')

  pub outside : (c : Command) (found : List Listing) → OutsideSteady x.image x.image' (was x) (is_now x found) c y y'
  outside c found = (x.after.bytes, x.after.rest, lost_stay)

  hole_inside : (s : ℕ) → is_among (hole_sectors y) s ≡ true → s < disc_sectors y
  hole_inside s h =
      in_sectors space.disc_units space.sector_units s disc.units disc.whole
      (below_end space.disc_units space.sector_units (map_units space.sector_units) space.holes (space.sector_units * s) facts.holes
      (units_in space.sector_units disc.units space.disc_units (map_units space.sector_units) space.holes s facts.holes h))

  written_inside : (s : ℕ) → is_among sectors s ≡ true → s < disc_sectors y
  written_inside s i =
      ⊎_elim
      (λ p. let r = in_disc space p.0.entry.address _ p.0.sectors s (object_lies kind x.image y listings x.opens p.0 p.1).placed p.2 in
      let inside = r.0.inside in let low = r.2 in omega (arith, inside, low))
      (hole_inside s) (busy s i)

  pub behind : drop (disc_size kind) x.image' ≡ drop (disc_size kind) x.image
  behind =
      let u = space.sector_units in
      let n = disc_sectors y in
      let size = sector_bytes y in
      let same = same_behind size x.image x.image' (some_bytes u disc.units) x.out.length_stays (length x.image) n (omega arith)
      (λ s high. ww.writes s (unless (is_among sectors s) (λ j. let low = written_inside s j in omega (arith, low, high)))
      (unless (is_among (map_place y) s) (λ j. let b = range_bounds 0 (map_units u / u) s j in let low = b.1 in let small = disc.small in omega (arith, low, small, high)))) in
      let turn : 256 * (n * u) ≡ n * (256 * u) = grind arith in
      let long : disc_size kind ≡ n * size = disc.size ∙ ap (λ (k : ℕ). 256 * k) disc.whole ∙ turn in
      ap (λ (k : ℕ). drop k x.image') long ∙ same ∙ ap (λ (k : ℕ). drop k x.image) (sym long)

  -- ---- the image that opens

  pub written : IsEditWritten x.image x.image' y y' x.parts.nodes listings x.parts.edit
  written = edit_written mem x.puts x.image x.image' x.out x.puts_of refl

  map_now : IsOldMapWritten kind x.image' space (holding space x.parts.holes) listings x.parts.edit
  map_now = record {
    sector_stays = refl;
    disc_stays = refl;
    address = disc.root;
    found = found_now back kind x.image x.image' space disc x.parts.holes x.out.length_stays x.after x.parts.is_map x.parts.in_order;
    fits = fits_now back kind x.image x.image' space disc x.parts.holes x.out.length_stays x.after x.parts.is_map x.parts.in_order;
    root_stays = x.root_stays;
  }

  outcome : (c : Command) (d : IsDone kind x.image' y' x.parts.nodes' x.parts.owners' x.parts.edit) → IsAskedOf x c
      → tree_of x.image' y' d.found ≡ changed (tree_of x.image y listings) c → Outcome kind x.image x.image' (was x) c (parts_with (holding space x.parts.holes) x.parts.nodes' x.parts.owners')
  outcome c d asked tree =
      let sound = tree_edit_law.opened x.image' kind (is_now x d.found) d.opens in
      let q = asked d.found sound d.order in (
        is_now x d.found,
        record {
          opens = record { opens = d.opens; copies = tt };
          tree = tree;
          placed = q.placed;
          steady = record {
            directories = directories_steady mem d.found x.image x.image' c x.opens written sound d.order q.directories;
            named = q.named;
            entry = q.entry;
            made = q.made;
            space = q.holes;
            outside = outside c d.found;
            behind = behind;
          };
        },
        d.parts,
      )

  pub changes_by : (c : Command) (changing : List Object) → KeepsPaths x.image x.image' y y' x.parts.nodes listings x.parts.edit changing → IsAskedOf x c
      → ((found : List Listing) → IsObjectEdit x.image x.image' y y' listings found (changing ++ objects x.parts.edit.gone) (map x.parts.edit.turn changing ++ objects x.parts.edit.come)
      → tree_of x.image' y' found ≡ changed (tree_of x.image y listings) c)
      → Outcome kind x.image x.image' (was x) c (parts_with (holding space x.parts.holes) x.parts.nodes' x.parts.owners')
  changes_by c changing keeps asked tree = let d = done_old x.parts x.image x.image' x.opens written map_now changing keeps in outcome c d.0 asked (tree d.0.found d.1)

  pub moves_by : (c : Command) (from to : Path) → MovesPaths x.image x.image' y y' x.parts.nodes listings x.parts.edit from to → IsAskedOf x c
      → ((found : List Listing) → IsMove x.image x.image' y y' listings found from to → tree_of x.image' y' found ≡ changed (tree_of x.image y listings) c)
      → Outcome kind x.image x.image' (was x) c (parts_with (holding space x.parts.holes) x.parts.nodes' x.parts.owners')
  moves_by c from to moves asked tree = let d = done_old_moved x.parts x.image x.image' x.opens written map_now from to moves in outcome c d.0 asked (tree d.0.found d.1)

pub old_image_law : ReadsBack → OldImageLaw
old_image_law back = record {
  outside = λ x c found. outside back x c found;
  behind = λ x. behind back x;
  changes = λ x c changing keeps asked tree. changes_by back x c changing keeps asked tree;
  moves = λ x c from to moves asked tree. moves_by back x c from to moves asked tree;
}
