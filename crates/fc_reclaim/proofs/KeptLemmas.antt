-- Images to which a reclaimed map was committed: what a crash and an exit leave, and that they are ready again.
use Rattle.std.proofs.Common.{◌≡◌, ◌⊎◌, inl, inr, ℕ, Bool, false, List, refl, sym, ap, subst, ◌∙◌, arith, None}
use Rattle.fc_record.specs.declared.DiscRecord.{DiscRecord}
use Rattle.fc_record.specs.declared.Geometry.{Geometry}
use Rattle.fc_record.specs.declared.Kind.{Kind}
use Rattle.fc_record.specs.Kinds.{map_record}
use Rattle.fc_zone.proofs.ReadingLemmas.{Zone-zone_of}
use Rattle.fc_newmap.specs.Map.{IsMap, Map, id_runs, map_sectors, runs_of, sector_of, shape}
use Rattle.fc_newmap.specs.NewMap.{IsNewMap}
use Rattle.fc_alloc.specs.declared.owner.Owner.{Owner}
use Rattle.fc_newmap.specs.declared.copies.Which.TheVariants.{One}
use Rattle.fc_newmap.specs.Copies.{ChangesCopies, Chooses, HoldsCopies, is_sound}
use Rattle.fc_newmap.proofs.ReadingLemmas.{chooses_one}
use Rattle.std.specs.Prelude.{filter}
use Rattle.fc_image.specs.Layout.{Layout, is_among}
use Rattle.fc_image.specs.Objects.{is_lost, objects_of, tree_of}
use Rattle.fc_image.specs.Opening.{Opened, boot_place, misplaced_sector, reserved_in}
use Rattle.fc_image.specs.Stays.{IsNewKind, OpensAs}
use Rattle.fc_image.proofs.HolesLemmas.{OpenMap, least_none, loose_sectors}
use Rattle.fc_image.proofs.MoveLemmas.{open_by}
use Rattle.fc_image.proofs.SameMapLemmas.{same_map_law}
use Rattle.fc_image.proofs.StoredLemmas.{stored_tree}
use Rattle.fc_compact.specs.Ready.{AreOwnersOf}
use Rattle.fc_reclaim.specs.Kept.{IsReadyBy, KeepsOwned, OwnedStayBy}
use Rattle.fc_reclaim.specs.Lost.{Covers}
use Rattle.fc_reclaim.specs.Settled.{by_map}
use Rattle.fc_reclaim.proofs.OwnedLemmas.{HasPassed, lost_same, owned_kept, placed_after}
use Rattle.fc_reclaim.proofs.SettledLemmas.{settled_law}
use Rattle.fc_compact.proofs.StepLemmas.{map_is}
use Rattle.fc_newmap.proofs.CommitLemmas.{same_frame as frame_same}

-- ---- one image, and one after another

pub frame_then : (g : Geometry) (a b c : List ℕ) → ChangesCopies g a b → ChangesCopies g b c → ChangesCopies g a c
frame_then g a b c one two = record { same_length = two.same_length ∙ one.same_length; outside = λ s out. two.outside s out ∙ one.outside s out }

-- what is opened is what is opened by its own map
pub by_own : (image : List ℕ) (kind : Kind) (r : DiscRecord) (v : Opened) (m : Map) → IsNewKind kind r → OpensAs image kind v → v.layout ≡ Layout.New m → by_map kind v m ≡ v
by_own image kind r v m new opens layout =
    let o = open_by image kind r v m new opens layout in
    λ i. record { kind = sym o.kind_is i; layout = sym layout i; listings = v.listings }

pub stay_same : (image : List ℕ) (kind : Kind) (r : DiscRecord) (v : Opened) (m : Map) → IsNewKind kind r → OpensAs image kind v → v.layout ≡ Layout.New m → OwnedStayBy kind image v m m image
stay_same image kind r v m new opens layout = record {
  geometry = refl;
  opens = subst (OpensAs image kind) (sym (by_own image kind r v m new opens layout)) opens;
  tree = ap (λ (l : Layout). tree_of image l v.listings) (sym layout);
  runs = λ id kept. refl;
}

pub kept_same : (boot : Bool) (owners : List Owner) (g : Geometry) (image : List ℕ) → KeepsOwned boot owners g image image
kept_same boot owners g image = record {
  frame = frame_same g image;
  opens = λ kind r v m new covers opens layout same own. (m, stay_same image kind r v m new opens layout);
}

pub kept_then : (boot : Bool) (owners : List Owner) (g : Geometry) (a b c : List ℕ) → KeepsOwned boot owners g a b → KeepsOwned boot owners g b c → KeepsOwned boot owners g a c
kept_then boot owners g a b c one two = record {
  frame = frame_then g a b c one.frame two.frame;
  opens = λ kind r v m new covers opens layout same own.
      (let first = one.opens kind r v m new covers opens layout same own in
      let second = two.opens kind r (by_map kind v first.0) first.0 new covers first.1.opens refl (first.1.geometry ∙ same) own in (
        second.0,
        record {
          geometry = second.1.geometry ∙ first.1.geometry;
          opens = second.1.opens;
          tree = second.1.tree ∙ first.1.tree;
          runs = λ id kept. second.1.runs id kept ∙ first.1.runs id kept;
        },
      ));
}

-- ---- a commit

own_placed : (image : List ℕ) (kind : Kind) (r : DiscRecord) (v : Opened) (m : Map) → OpenMap image kind r v m → misplaced_sector kind (Layout.New m) (objects_of v.listings) ≡ None
own_placed image kind r v m o =
    least_none (filter (is_among (loose_sectors m (objects_of v.listings))) (reserved_in kind (Layout.New m))) (filter (is_among (map_sectors m.geometry)) (boot_place kind m.geometry.sector)) o.tight o.apart

module _ (boot : Bool) (owners : List Owner) (m m' : Map) (passed : HasPassed boot owners m m') (record_stays : map_record (sector_of m' 0) ≡ map_record (sector_of m 0)) (was image : List ℕ)
    (frame : ChangesCopies m.geometry was image) where
  module _ (kind : Kind) (r : DiscRecord) (v : Opened) (new : IsNewKind kind r) (covers : Covers boot kind) (opens : OpensAs was kind v) (layout : v.layout ≡ Layout.New m)
      (own : AreOwnersOf owners (objects_of v.listings)) where
    o : OpenMap was kind r v m
    o = open_by was kind r v m new opens layout

    -- the map that was there still counts
    old_stays : Chooses m.geometry m.zones image → OwnedStayBy kind was v m m image
    old_stays chosen =
        let both = settled_law was image kind r v m m new opens layout (record {
          geometry_stays = refl;
          record_stays = refl;
          is_map = o.map_is;
          chosen_map = chosen;
          frame = frame;
          owned = λ id kept. refl;
          placed = own_placed was kind r v m o;
        }) in
        record { geometry = refl; opens = both.0; tree = stored_tree was image v (by_map kind v m) both.1; runs = λ id kept. refl }

    -- the reclaimed map counts
    pub new_stays : Chooses m.geometry m'.zones image → OwnedStayBy kind was v m m' image
    new_stays chosen =
        let owned : (id : ℕ) → is_lost (objects_of v.listings) id ≡ false → id_runs m' id ≡ id_runs m id =
        λ id kept. owned_kept boot owners m m' passed id (sym (lost_same owners (objects_of v.listings) own id) ∙ kept) in
        let both = settled_law was image kind r v m m' new opens layout (record {
          geometry_stays = passed.geometry;
          record_stays = record_stays;
          is_map = map_is m' passed.map;
          chosen_map = chosen;
          frame = frame;
          owned = owned;
          placed = placed_after boot owners m m' passed kind (objects_of v.listings) own covers (own_placed was kind r v m o);
        }) in
        record { geometry = passed.geometry; opens = both.0; tree = stored_tree was image v (by_map kind v m') both.1; runs = owned }

    pub stays_by : Chooses m.geometry m.zones image ⊎ Chooses m.geometry m'.zones image → (n : Map) × OwnedStayBy kind was v m n image
    stays_by (inl old) = (m, old_stays old)
    stays_by (inr chosen) = (m', new_stays chosen)

  -- of a map by which the image opens
  pub commit_keeps : (k : Kind) (r0 : DiscRecord) (v0 : Opened) → IsNewKind k r0 → OpensAs was k v0 → v0.layout ≡ Layout.New m → Chooses m.geometry m.zones image ⊎ Chooses m.geometry m'.zones image
      → KeepsOwned boot owners m.geometry was image
  commit_keeps k r0 v0 new0 opens0 layout0 content = record {
    frame = frame;
    opens = λ kind r v n new covers opens layout same own.
        (let one = same_map_law was k kind r0 r v0 v m n new0 new opens0 opens layout0 layout same in
        subst (λ (j : Map). (n' : Map) × OwnedStayBy kind was v j n' image) (sym one.0)
        (stays_by kind r v new covers opens (subst (λ (j : Map). v.layout ≡ Layout.New j) one.0 layout) own content));
  }

  -- the reclaimed map is that of the image
  pub commit_ready : (k : Kind) (r0 : DiscRecord) (v0 : Opened) → IsNewKind k r0 → OpensAs was k v0 → v0.layout ≡ Layout.New m → Covers boot k → AreOwnersOf owners (objects_of v0.listings)
      → HoldsCopies m.geometry m'.zones image → IsReadyBy boot m' owners image
  commit_ready k r0 v0 new0 opens0 layout0 covers own holds =
      let chosen : Chooses m.geometry m'.zones image = record { which = One; chosen_one = chooses_one m.geometry image (ap is_sound holds.first ∙ holds.sound); content = holds.first } in
      let stays = new_stays k r0 v0 new0 covers opens0 layout0 own chosen in
      record {
        ready = record {
          kind = k;
          of_record = r0;
          view = by_map k v0 m';
          new_kind = new0;
          opens = stays.opens;
          layout = refl;
          copies = subst (λ (g : Geometry). HoldsCopies g m'.zones image) (sym passed.geometry) holds;
          owned = own;
        };
        covers = covers;
      }
