-- An image whose copies are made equal, before its map is compacted.
use Rattle.std.proofs.Common.{◌≡◌, ◌<◌, ◌≤◌, ◌⊎◌, inl, inr, ℕ, ◌+◌, ◌*◌, false, List, refl, subst, ◌∙◌}
use Rattle.std.specs.Prelude.{Some}
use Rattle.std.specs.Option.{ForSome}
use Rattle.std.proofs.lemmas.Bool.{cases_lt}
use Rattle.fc_device.specs.declared.disk.Disk.{Ghosts}
use Rattle.fc_device.specs.Calls.{StopsAndExitsLeave}
use Rattle.fc_device.specs.Stops.{Keeps}
use Rattle.fc_device.proofs.DiskLaws.{Laws}
use Rattle.fc_device.proofs.StopLemmas.{keeps_then, weaker}
use Rattle.fc_newmap.specs.Map.{Map, map_sectors}
use Rattle.fc_newmap.proofs.PlaceLemmas.{in_range}
use Rattle.fc_newmap.specs.Copies.{ChangesCopies, CommitLeaves, HoldsCopies}
use Rattle.fc_alloc.specs.declared.owner.Owner.{Owner}
use Rattle.fc_image.specs.Layout.{is_among}
use Rattle.fc_image.specs.Objects.{objects_of}
use Rattle.fc_image.specs.Moves.{CanMerge, CommitLaw, KeepsObjects, KeepsObjectsLaw, WithMapLaw}
use Rattle.fc_image.specs.Stays.{OpensAs}
use Rattle.fc_image.proofs.MoveLemmas.{open_by}
use Rattle.fc_compact.specs.Ready.{IsReady}
use Rattle.fc_compact.specs.Compaction.{ChangesLoose}
use Rattle.fc_writing.specs.declared.copies.Copies.{Copies}
use Rattle.fc_writing.specs.Copies.{HasCopies, KeepsMap}
use Rattle.fc_volume.specs.Compacting.{CanCompact, KeepsDisc}

-- ---- disks

-- R leads only if Q leads too, from what is known.
keeps_told : {D : Type 0} {d : Ghosts D} (law : Laws d) {R Q : List ℕ → List ℕ → Type 0} {old new : D} → Keeps d.moment d.left_since d.bytes old new R
    → ((was image : List ℕ) → d.bytes old ≡ Some was → R was image → Q was image) → Keeps d.moment d.left_since d.bytes old new Q
keeps_told {d = d} law {Q = Q} {old = old} keeps less = record {
  stops = weaker law (λ image. ForSome (d.bytes old) (λ was. Q was image)) keeps.stops (λ image led was told. less was image told (led was told));
  exit = λ was told. let there = keeps.exit was told in (there.0, there.1, less was there.0 told there.2);
  told = keeps.told;
}

-- ---- the image

module _ (commits : CommitLaw) (keeps : KeepsObjectsLaw) (maps : WithMapLaw) (m : Map) (copies : Copies) (owners : List Owner) (was image : List ℕ) (ready : CanCompact m copies owners was)
    (kept : KeepsMap m was image) where
  leaves : CommitLeaves m.geometry was m.zones m.zones image
  leaves = record { frame = kept.frame; content = inl kept.content }

  can : CanMerge m m (objects_of ready.view.listings)
  can = record {
    geometry_stays = refl;
    record_stays = refl;
    is_map = (open_by was ready.kind ready.of_record ready.view m ready.new_kind ready.opens ready.layout).map_is;
    fixed = λ k h. refl;
    sectors = λ k. refl;
  }

  keeps_objects : KeepsObjects m.geometry was image
  keeps_objects = keeps.commit was image ready.kind ready.of_record ready.view m m ready.new_kind ready.opens ready.layout (inr can) leaves

  pub ready_after : HoldsCopies m.geometry m.zones image → IsReady m owners image
  ready_after holds = record {
    kind = ready.kind;
    of_record = ready.of_record;
    view = ready.view;
    new_kind = ready.new_kind;
    opens = subst (OpensAs image ready.kind) (maps.own was ready.kind ready.of_record ready.view m ready.new_kind ready.opens ready.layout)
        ((commits was image ready.kind ready.of_record ready.view m m ready.new_kind ready.opens ready.layout (inr can) leaves).0 kept.content).opens;
    layout = ready.layout;
    copies = holds;
    owned = ready.owned;
  }

-- ---- what changes

map_loose : (m : Map) (owners : List Owner) (was image : List ℕ) → ChangesCopies m.geometry was image → ChangesLoose m owners was image
map_loose m owners was image frame = record {
  same_length = frame.same_length;
  outside = λ s out firm. frame.outside s (sides s out);
}
  where
    sides : (s : ℕ) → is_among (map_sectors m.geometry) s ≡ false → (s < m.geometry.map_sector) ⊎ (m.geometry.map_sector + 2 * m.geometry.zones ≤ s)
    sides s out = elim (cases_lt s m.geometry.map_sector) [
      | inl low ↦ inl low
      | inr high ↦ elim (cases_lt s (m.geometry.map_sector + 2 * m.geometry.zones)) [
        | inl within ↦ absurd (let yes = in_range m.geometry.map_sector (2 * m.geometry.zones) s high within in cc)
        | inr behind ↦ inr behind
      ]
    ]

pub loose_same : (m : Map) (owners : List Owner) (image : List ℕ) → ChangesLoose m owners image image
loose_same m owners image = record { same_length = refl; outside = λ s out firm. refl }

loose_then : (m : Map) (owners : List Owner) (a b c : List ℕ) → ChangesLoose m owners a b → ChangesLoose m owners b c → ChangesLoose m owners a c
loose_then m owners a b c first second = record {
  same_length = second.same_length ∙ first.same_length;
  outside = λ s out firm. second.outside s out firm ∙ first.outside s out firm;
}

-- ---- crashes and exits

pub matched : {D : Type 0} {d : Ghosts D} (law : Laws d) (commits : CommitLaw) (keeps : KeepsObjectsLaw) (maps : WithMapLaw) (m : Map) (copies : Copies) (owners : List Owner) {old new : D}
    → ForSome (d.bytes old) (CanCompact m copies owners) → StopsAndExitsLeave d old new (λ was image. HasCopies copies m was → KeepsMap m was image) → KeepsDisc d m owners old new
matched law commits keeps maps m copies owners ready kept = record {
  objects = keeps_told law kept (λ was image told left. keeps_objects commits keeps maps m copies owners was image (ready was told) (left (ready was told).copies_are));
  frame = keeps_told law kept (λ was image told left. map_loose m owners was image (left (ready was told).copies_are).frame);
}

pub disc_then : {D : Type 0} {d : Ghosts D} (law : Laws d) (keeps : KeepsObjectsLaw) (m : Map) (owners : List Owner) {old mid new : D} → KeepsDisc d m owners old mid
    → StopsAndExitsLeave d mid new (KeepsObjects m.geometry) → StopsAndExitsLeave d mid new (ChangesLoose m owners) → KeepsDisc d m owners old new
disc_then law keeps m owners first objects frame = record {
  objects = keeps_then law (keeps.after m.geometry) first.objects objects;
  frame = keeps_then law (loose_then m owners) first.frame frame;
}
