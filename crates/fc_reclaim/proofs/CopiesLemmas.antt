-- A map whose copies are made equal before its lost runs go back.
use Rattle.std.proofs.Common.{◌≡◌, inl, ℕ, Bool, List, refl, sym, ap, subst, ◌∙◌}
use Rattle.std.specs.Prelude.{Option, Some}
use Rattle.fc_device.specs.declared.disk.Disk.{Ghosts}
use Rattle.fc_device.specs.Calls.{StopsAndExitsLeave}
use Rattle.fc_device.proofs.DiskLaws.{Laws}
use Rattle.fc_record.specs.declared.DiscRecord.{DiscRecord}
use Rattle.fc_record.specs.declared.Geometry.{Geometry}
use Rattle.fc_record.specs.declared.Kind.{Kind}
use Rattle.fc_record.specs.declared.Kind.TheVariants.{Boot, OneZone, DiscD, DiscL}
use Rattle.fc_record.specs.Kinds.{is_boot}
use Rattle.fc_newmap.specs.Map.{Map}
use Rattle.fc_newmap.specs.NewMap.{IsNewMap}
use Rattle.fc_alloc.specs.declared.owner.Owner.{Owner}
use Rattle.fc_newmap.specs.declared.copies.Which.{Which}
use Rattle.fc_newmap.specs.declared.copies.Which.TheVariants.{One}
use Rattle.fc_newmap.specs.Copies.{ChangesCopies, Chooses, HoldsCopies, RepairLeaves, copy_of, is_sound}
use Rattle.fc_newmap.proofs.ReadingLemmas.{chooses_one}
use Rattle.fc_oldmap.specs.OldMap.{OldMapContent, free_space, hole_fault}
use Rattle.fc_image.specs.declared.ImageFault.{ImageFault}
use Rattle.fc_image.specs.Layout.{Layout}
use Rattle.fc_image.specs.Opening.{MapAndRoot, Opened, holes_or}
use Rattle.fc_image.specs.Stays.{IsNewKind, OpensAs}
use Rattle.fc_image.proofs.FreeLemmas.{parts_of}
use Rattle.fc_image.proofs.MoveLemmas.{open_by}
use Rattle.std.specs.Prelude.{Result, Ok, None}
use Rattle.fc_reclaim.specs.Kept.{IsReadyBy, KeepsOwned, KeepsOwnedAll}
use Rattle.fc_reclaim.specs.Lost.{Covers}
use Rattle.fc_reclaim.specs.Map.{IsReclaimed, bits_back}
use Rattle.fc_reclaim.specs.Reclaiming.{CanReclaim, CountsIn, KeepsContent, LeavesOwned, ReclaimsMap}
use Rattle.fc_reclaim.proofs.KeptLemmas.{commit_keeps, commit_ready, kept_same}
use Rattle.fc_reclaim.proofs.OwnedLemmas.{HasPassed}
use Rattle.fc_reclaim.proofs.ReclaimsLemmas.{covers_kind, given_bytes, reclaims, stays_owned}
use Rattle.std.proofs.Common.{◌*◌}
use Rattle.fc_newmap.proofs.CommitLemmas.{same_frame as frame_same}

-- what an exit has led to is what is told
pub told_keeps : {D : Type 0} {d : Ghosts D} (law : Laws d) {R : List ℕ → List ℕ → Type 0} {old new : D} → StopsAndExitsLeave d old new R → (was image : List ℕ) → d.bytes old ≡ Some was → d.bytes new ≡ Some image → R was image
told_keeps law {R = R} keeps was image told_was told = let there = keeps.exit was told_was in subst (R was) (one_told there.0 image (sym there.1 ∙ told)) there.2
  where
    one_told : (a b : List ℕ) → (let x : Option (List ℕ) = Some a in x) ≡ Some b → a ≡ b
    one_told a b e = cc

-- ---- the copies

-- equal copies are kept as they are
pub equal_kept : (m : Map) (image : List ℕ) → HoldsCopies m.geometry m.zones image → KeepsContent m image image
equal_kept m image holds = record {
  frame = frame_same m.geometry image;
  content = record { which = One; chosen_one = chooses_one m.geometry image (ap is_sound holds.first ∙ holds.sound); content = holds.first };
}

-- what a repair leaves has the map's zones
pub repaired : (m : Map) (g : Geometry) (which : Which) (was image : List ℕ) → g ≡ m.geometry → RepairLeaves g was which image → CountsIn m (Some which) was → KeepsContent m was image
repaired m g which was image same left counts = record {
  frame = subst (λ (h : Geometry). ChangesCopies h was image) same left.frame;
  content = subst (λ (zs : List (List ℕ)). Chooses m.geometry zs image) counts.1
      (subst (λ (h : Geometry). Chooses h (copy_of h which was) image) same left.content);
}

pub repaired_copies : (m : Map) (g : Geometry) (which : Which) (was image : List ℕ) → g ≡ m.geometry → HoldsCopies g (copy_of g which was) image → CountsIn m (Some which) was → HoldsCopies m.geometry m.zones image
repaired_copies m g which was image same holds counts =
    subst (λ (zs : List (List ℕ)). HoldsCopies m.geometry zs image) counts.1
    (subst (λ (h : Geometry). HoldsCopies h (copy_of h which was) image) same holds)

-- ---- the image

none_passed : (boot : Bool) (owners : List Owner) (m : Map) → IsNewMap m → HasPassed boot owners m m
none_passed boot owners m is = record { was = is; map = is; geometry = refl; zones = λ z low. inl refl }

module _ (boot : Bool) (owners : List Owner) (m : Map) (is : IsNewMap m) (which : Option Which) (was image : List ℕ) (can : CanReclaim m which owners was) (kept : KeepsContent m was image) where
  pub matched_keeps : KeepsOwned boot owners m.geometry was image
  matched_keeps = commit_keeps boot owners m m (none_passed boot owners m is) refl was image kept.frame can.kind can.of_record can.view can.new_kind can.opens can.layout (inl kept.content)

  pub matched_ready : boot ≡ is_boot was → HoldsCopies m.geometry m.zones image → IsReadyBy boot m owners image
  matched_ready fits holds =
      commit_ready boot owners m m (none_passed boot owners m is) refl was image kept.frame can.kind can.of_record can.view can.new_kind can.opens can.layout
      (subst (λ (b : Bool). Covers b can.kind) (sym fits) (covers_kind was can.kind (open_by was can.kind can.of_record can.view m can.new_kind can.opens can.layout).fits)) can.owned holds

-- ---- by each kind

old_never : (space : OldMapContent) (address size : ℕ) (fault : Option ℕ) (found : MapAndRoot) (m : Map) → holes_or (Layout.Old space, address, size) fault ≡ Ok found → found.0 ≡ Layout.New m → ⊥
old_never space address size None found m e new =
    let is : Layout.Old space ≡ found.0 = first (Layout.Old space, address, size) found e in
    let both : Layout.Old space ≡ Layout.New m = is ∙ new in
    cc
  where
    first : (a b : MapAndRoot) → (let x : Result MapAndRoot ImageFault = Ok a in x) ≡ Ok b → a.0 ≡ b.0
    first a b h = cc
old_never space address size (Some index) found m e new = cc

-- an image that opens by a new map opens as a kind with one
new_kind : (image : List ℕ) (kind : Kind) (v : Opened) (m : Map) → OpensAs image kind v → v.layout ≡ Layout.New m → (r : DiscRecord) × IsNewKind kind r
new_kind image (Boot r) v m opens layout = (r, refl)
new_kind image (OneZone r) v m opens layout = (r, refl)
new_kind image DiscD v m opens layout =
    let p = parts_of image DiscD v opens.opened in
    absurd (old_never (free_space image 4) 4 0 (hole_fault image 4) p.0 m p.1.1 (ap (λ (w : Opened). w.layout) p.1.4 ∙ layout))
new_kind image (DiscL units) v m opens layout =
    let p = parts_of image (DiscL units) v opens.opened in
    absurd (old_never (free_space image 1) 2 0 (hole_fault image 1) p.0 m p.1.1 (ap (λ (w : Opened). w.layout) p.1.4 ∙ layout))

pub leaves_owned : (m : Map) (owners : List Owner) (was image : List ℕ) → KeepsOwnedAll owners m.geometry was image → LeavesOwned m owners was image
leaves_owned m owners was image keeps kind view opens layout own =
    let new = new_kind was kind view m opens layout in
    stays_owned (is_boot was) owners was image kind new.0 view m new.1 (covers_kind was kind (open_by was kind new.0 view m new.1 opens layout).fits) opens layout own keeps

pub reclaims_map : (boot : Bool) (m m' : Map) (owners : List Owner) (bytes : ℕ) (was image : List ℕ) → boot ≡ is_boot was → KeepsOwnedAll owners m.geometry was image → IsReclaimed boot owners m m'
    → IsReadyBy boot m' owners image → bytes ≡ bits_back boot owners m * m.geometry.bit_bytes → ReclaimsMap m m' owners bytes was image
reclaims_map boot m m' owners bytes was image fits keeps done ready given kind view opens layout own =
    let new = new_kind was kind view m opens layout in
    let covers = subst (λ (b : Bool). Covers b kind) (sym fits) (covers_kind was kind (open_by was kind new.0 view m new.1 opens layout).fits) in
    let by = subst (λ (b : Bool). KeepsOwned b owners m.geometry was image) (sym fits) keeps in (
      reclaims boot owners was image kind new.0 view m new.1 covers opens layout own by m' done fits ready,
      given ∙ given_bytes boot owners was image kind new.0 view m new.1 covers opens layout own by m' done fits ready,
    )

-- what was found of the image before is so of the one that was only read
pub found_keeps : (boot : Bool) (owners : List Owner) (g : Geometry) (was there image : List ℕ) → boot ≡ is_boot was → there ≡ was → KeepsOwned boot owners g there image → KeepsOwnedAll owners g was image
found_keeps boot owners g was there image fits e keeps =
    subst (λ (s : List ℕ). KeepsOwned (is_boot was) owners g s image) e (subst (λ (b : Bool). KeepsOwned b owners g there image) fits keeps)

pub read_keeps : (owners : List Owner) (g : Geometry) (was image : List ℕ) → image ≡ was → KeepsOwnedAll owners g was image
read_keeps owners g was image e = subst (λ (s : List ℕ). KeepsOwned (is_boot was) owners g was s) (sym e) (kept_same (is_boot was) owners g was)
