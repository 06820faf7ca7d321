-- Both copies written anew, one after the other.
use Rattle.std.proofs.Common.{◌≡◌, ◌<◌, ◌≤◌, ◌⊎◌, inl, inr, ⊎_elim, ℕ, suc, ◌+◌, ◌*◌, true, List, [], ◌∷◌, length, get_or, refl, sym, ap, ◌∙◌, arith}
use Rattle.std.specs.Prelude.{All, slice_index, ◌==◌}
use Rattle.std.proofs.lemmas.List.Elements.{All-get_or}
use Rattle.fc_device.specs.Sectors.{IsSectorSize}
use Rattle.fc_newmap.specs.NewMap.{IsNewMap}
use Rattle.std.specs.List.{AllByRecursion, zip}
use Rattle.std.specs.List.Sorted.{IsStrictlyIncreasing}
use Rattle.std.proofs.lemmas.Bool.{cases_lt, eqb-true, cases_Bool as decided}
use Rattle.std.proofs.lemmas.List.{get_or_past}
use Rattle.fc_device.specs.Sectors.{sector_at}
use Rattle.fc_record.specs.declared.Geometry.{Geometry}
use Rattle.fc_newmap.specs.Map.{Map}
use Rattle.fc_newmap.specs.declared.copies.Which.{Which}
use Rattle.fc_newmap.specs.declared.copies.Which.TheVariants.{One, Two}
use Rattle.fc_newmap.specs.Committing.{CanWrite}
use Rattle.fc_newmap.specs.Copies.{ChangesCopies, CommitEnds, CommitLeaves, copy_of, copy_start, is_sound, sealed_zones}
use Rattle.fc_newmap.specs.Gate.{gate_deltas, gated}
use Rattle.fc_newmap.specs.Passes.{HasPassed, HasPassedBoth, IsPartWritten, PassesBoth}
use Rattle.fc_newmap.proofs.MixLemmas.{NotIn, at_or_out, gated_length, gated_lengths, gated_out, gated_sound, length-gated_by, length-sealed, sealed_lengths, not_contained, sealed_out, sealed_sound, whole}
use Rattle.fc_newmap.proofs.PassLemmas.{part_start}
use Rattle.fc_newmap.proofs.ReadingLemmas.{chooses_one, chooses_two, copy_is, length-copy, zone_of_copy}
use Rattle.fc_newmap.proofs.RepairLemmas.{same_copy}

all_by_index : (xs : List ℕ) (P : ℕ → Type 0) → ((k : ℕ) → k < length xs → P (get_or xs k 0)) → AllByRecursion P xs
all_by_index [] P each = tt
all_by_index (x ∷ xs) P each = (each 0 (omega arith), all_by_index xs P (λ k lt. each (suc k) (omega (arith, lt))))

-- a pass over a copy changes only the copies
pass_frame : (g : Geometry) (start mid image : List ℕ) (first : ℕ) (new : ℕ → List ℕ) → g.map_sector ≤ first → first + g.zones ≤ g.map_sector + 2 * g.zones → ChangesCopies g start mid
    → IsPartWritten g.sector first 0 g.zones new mid image → ChangesCopies g start image
pass_frame g start mid image first new from to frame part = record {
  same_length = part.same_length ∙ frame.same_length;
  outside = λ s there. part.outside s (⊎_elim (λ l. inl (omega (arith, l, from))) (λ r. inr (omega (arith, r, to))) there) ∙ frame.outside s there;
}

pub same_frame : (g : Geometry) (start : List ℕ) → ChangesCopies g start start
same_frame g start = record { same_length = refl; outside = λ s there. refl }

-- New zones for a start, where the zones outside the list are the old ones.
module _ (g : Geometry) (start : List ℕ) (new : List (List ℕ)) (changed : List ℕ) (new_long : length new ≡ g.zones) (new_sound : is_sound new ≡ true)
    (second : copy_of g Two start ≡ copy_of g One start) (others : (z : ℕ) → NotIn z changed → get_or new z [] ≡ get_or (copy_of g One start) z []) where
  abbrev old : List (List ℕ)
  old = copy_of g One start

  abbrev new_of : ℕ → List ℕ
  new_of z = get_or new z []

  -- where the copy was old, and the listed zones are new, it is new
  renewed : (w : Which) (mid image : List ℕ) → copy_of g w mid ≡ old → HasPassed g w changed new_of mid image → copy_of g w image ≡ new
  renewed w mid image was passed =
      copy_is g w image new new_long
      (λ z lt.
      ⊎_elim
      (λ out.
      ⊎_elim (λ kept. kept ∙ sym (zone_of_copy g w mid z lt) ∙ ap (λ (zs : List (List ℕ)). get_or zs z []) was ∙ sym (others z out)) (λ fresh. fresh) (passed.part.inside z (omega arith) lt))
      (λ here. here)
      (at_or_out changed z (λ y. sector_at g.sector image (copy_start g w + y) ≡ new_of y) (all_by_index changed (λ y. sector_at g.sector image (copy_start g w + y) ≡ new_of y) passed.each)))

  module _ (mid : List ℕ) (first : HasPassed g One changed new_of start mid) where
    pub frame_one : ChangesCopies g start mid
    frame_one = pass_frame g start start mid g.map_sector new_of (omega arith) (omega arith) (same_frame g start) first.part

    one_new : copy_of g One mid ≡ new
    one_new = renewed One start mid refl first

    two_old : copy_of g Two mid ≡ old
    two_old = same_copy g Two mid start (λ z lt. first.part.outside (copy_start g Two + z) (inr (omega arith))) ∙ second

    module _ (image : List ℕ) (part : IsPartWritten g.sector (copy_start g Two) 0 g.zones new_of mid image) where
      pub frame_two : ChangesCopies g start image
      frame_two = pass_frame g start mid image (copy_start g Two) new_of (omega arith) (omega arith) frame_one part

      one_stays : copy_of g One image ≡ new
      one_stays = same_copy g One image mid (λ z lt. part.outside (g.map_sector + z) (inl (omega (arith, lt)))) ∙ one_new

      pub two_leaves : CommitLeaves g start old new image
      two_leaves = record { frame = frame_two; content = inr record { which = One; chosen_one = chooses_one g image (ap is_sound one_stays ∙ new_sound); content = one_stays } }

    pub ended : (image : List ℕ) → HasPassed g Two changed new_of mid image → CommitEnds g start new image
    ended image then = record {
      frame = frame_two image then.part;
      copies = record { first = one_stays image then.part; second = renewed Two mid image two_old then; sound = new_sound };
    }

  pub both_ended : (image : List ℕ) → HasPassedBoth g changed new_of start image → CommitEnds g start new image
  both_ended image passed = ended passed.0 passed.1 image passed.2

  -- where a mix of old and new zones is sound only if it is one of them whole
  module _ (old_sound : is_sound old ≡ true)
      (gate : (mix : List (List ℕ)) → length mix ≡ length old → ((z : ℕ) → z < length old → (get_or mix z [] ≡ get_or old z []) ⊎ (get_or mix z [] ≡ get_or new z [])) → is_sound mix ≡ true → (mix ≡ old) ⊎ (mix ≡ new)) where
    one_leaves : (image : List ℕ) → IsPartWritten g.sector (copy_start g One) 0 g.zones new_of start image → CommitLeaves g start old new image
    one_leaves image part = record {
      frame = pass_frame g start start image g.map_sector new_of (omega arith) (omega arith) (same_frame g start) part;
      content = ⊎_elim
          (λ sound.
          ⊎_elim
          (λ was. inl record { which = One; chosen_one = chooses_one g image sound; content = was })
          (λ fresh. inr record { which = One; chosen_one = chooses_one g image sound; content = fresh })
          (gate (copy_of g One image) (length-copy g One image ∙ sym (length-copy g One start)) mix sound))
          (λ torn.
          let kept = same_copy g Two image start (λ z lt. part.outside (copy_start g Two + z) (inr (omega arith))) ∙ second in
          inl record { which = Two; chosen_one = chooses_two g image torn (ap is_sound kept ∙ old_sound); content = kept })
          (decided (is_sound (copy_of g One image)));
    }
      where
        mix : (z : ℕ) → z < length old → (get_or (copy_of g One image) z [] ≡ get_or old z []) ⊎ (get_or (copy_of g One image) z [] ≡ get_or new z [])
        mix z lt =
            let inside : z < g.zones = omega (arith, lt, length-copy g One start) in
            let here = zone_of_copy g One image z inside in
            ⊎_elim (λ kept. inl (here ∙ kept ∙ sym (zone_of_copy g One start z inside))) (λ fresh. inr (here ∙ fresh)) (part.inside z (omega arith) inside)

    pub both_leaves : (image : List ℕ) → PassesBoth g changed new_of start image → CommitLeaves g start old new image
    both_leaves image passes = ⊎_elim (λ part. one_leaves image part) (λ then. two_leaves then.0 then.1 image then.2) passes

-- ---- a map that can be committed

module _ (m : Map) (changed start : List ℕ) (ready : CanWrite m changed start) (all : length m.zones ≡ m.geometry.zones) where
  abbrev g : Geometry
  g = m.geometry

  abbrev was : List (List ℕ)
  was = copy_of g One start

  was_is : was ≡ ready.base
  was_is = ready.copies.first

  same_long : length m.zones ≡ length was
  same_long = all ∙ sym (length-copy g One start)

  pub was_sound : is_sound was ≡ true
  was_sound = ap is_sound was_is ∙ ready.copies.sound

  pub equal : copy_of g Two start ≡ was
  equal = ready.copies.second ∙ sym was_is

  crosses : (z : ℕ) → z < length m.zones → slice_index (get_or m.zones z []) 3 ≡ slice_index (get_or was z []) 3
  crosses z lt = ready.crosses z (omega (arith, lt, all)) ∙ ap (λ (zs : List (List ℕ)). slice_index (get_or zs z []) 3) (sym was_is)

  others : (z : ℕ) → NotIn z changed → get_or m.zones z [] ≡ get_or was z []
  others z out = elim (cases_lt z g.zones) [
    | inl lt ↦ ready.others z lt (not_contained changed z out) ∙ ap (λ (zs : List (List ℕ)). get_or zs z []) (sym was_is)
    | inr past ↦ get_or_past m.zones z [] (omega (arith, past, all)) ∙ sym (get_or_past was z [] (omega (arith, past, length-copy g One start)))
  ]

  module _ (long : (z : ℕ) → z < length m.zones → 4 ≤ length (get_or m.zones z [])) (places : AllByRecursion (λ z. z < length m.zones) changed) where
    module _ (few : length changed ≤ 9) (rising : IsStrictlyIncreasing changed) where
      abbrev turned : List (List ℕ)
      turned = gated changed m.zones

      turned_long : length turned ≡ g.zones
      turned_long = gated_length was m.zones changed few rising places same_long long was_sound crosses others ∙ all

      turned_sound : is_sound turned ≡ true
      turned_sound = gated_sound was m.zones changed few rising places same_long long was_sound crosses others

      turned_out : (z : ℕ) → NotIn z changed → get_or turned z [] ≡ get_or was z []
      turned_out = gated_out was m.zones changed few rising places same_long long was_sound crosses others

      pub commit_leaves : (image : List ℕ) → PassesBoth g changed (λ z. get_or turned z []) start image → CommitLeaves g start was turned image
      commit_leaves = both_leaves g start turned changed turned_long turned_sound equal turned_out was_sound (whole was m.zones changed few rising places same_long long was_sound crosses others)

      pub commit_ends : (image : List ℕ) → HasPassedBoth g changed (λ z. get_or turned z []) start image → CommitEnds g start turned image
      commit_ends = both_ended g start turned changed turned_long turned_sound equal turned_out

    abbrev sealed_new : List (List ℕ)
    sealed_new = sealed_zones changed m.zones

    pub wide_ends : (image : List ℕ) → HasPassedBoth g changed (λ z. get_or sealed_new z []) start image → CommitEnds g start sealed_new image
    wide_ends =
        both_ended g start sealed_new changed (length-sealed changed m.zones ∙ all) (sealed_sound was m.zones changed same_long long was_sound crosses others) equal
        (λ z out. sealed_out changed m.zones z out ∙ others z out)

-- Both passes change only the copies.
pub passes_frame : (g : Geometry) (start image : List ℕ) (changed : List ℕ) (new : ℕ → List ℕ) → PassesBoth g changed new start image → ChangesCopies g start image
passes_frame g start image changed new passes =
    ⊎_elim (λ part. pass_frame g start start image g.map_sector new (omega arith) (omega arith) (same_frame g start) part)
    (λ then. pass_frame g start then.0 image (copy_start g Two) new (omega arith) (omega arith) (pass_frame g start start then.0 g.map_sector new (omega arith) (omega arith) (same_frame g start) then.1.part) then.2) passes

-- No pass is one over no zones.
pub none_passed : (g : Geometry) (was : List ℕ) (new : ℕ → List ℕ) → HasPassedBoth g [] new was was
none_passed g was new = (
  was,
  record { part = part_start g.sector g.map_sector 0 g.zones new was; each = λ k lt. absurd (omega (arith, lt)) },
  record { part = part_start g.sector (copy_start g Two) 0 g.zones new was; each = λ k lt. absurd (omega (arith, lt)) },
)

pub header_fits : (size : ℕ) → IsSectorSize size → 4 ≤ size
header_fits size (inl e) = omega (arith, e)
header_fits size (inr (inl e)) = omega (arith, e)
header_fits size (inr (inr e)) = omega (arith, e)

-- ---- a map in memory that is committed

module _ (m : Map) (changed : List ℕ) (header : 4 ≤ m.geometry.sector) (places : All (λ z. z < m.geometry.zones) changed) (start : List ℕ) (ready : CanWrite m changed start) where
  listed : length m.zones ≡ m.geometry.zones → AllByRecursion (λ z. z < length m.zones) changed
  listed all = all_by_index changed (λ z. z < length m.zones) (λ k lt. let below = All-get_or (λ z. z < m.geometry.zones) changed k 0 lt places in omega (arith, below, all))

  -- by the gate
  module _ (few : length changed ≤ 9) (rising : IsStrictlyIncreasing changed) (gate_map : IsNewMap (record m { zones = gated changed m.zones })) where
    gate_all : length m.zones ≡ m.geometry.zones
    gate_all = sym (length-gated_by (zip changed (gate_deltas (length changed))) m.zones) ∙ gate_map.all

    gate_long : (z : ℕ) → z < length m.zones → 4 ≤ length (get_or m.zones z [])
    gate_long z lt =
        let whole_sector = gate_map.whole z (omega (arith, lt, gate_all)) in
        omega (arith, header, whole_sector, gated_lengths (zip changed (gate_deltas (length changed))) m.zones z)

    pub gate_leaves : (image : List ℕ) → PassesBoth m.geometry changed (λ z. get_or (gated changed m.zones) z []) start image
        → CommitLeaves m.geometry start (copy_of m.geometry One start) (gated changed m.zones) image
    gate_leaves = commit_leaves m changed start ready gate_all gate_long (listed gate_all) few rising

    pub gate_ends : (image : List ℕ) → HasPassedBoth m.geometry changed (λ z. get_or (gated changed m.zones) z []) start image → CommitEnds m.geometry start (gated changed m.zones) image
    gate_ends = commit_ends m changed start ready gate_all gate_long (listed gate_all) few rising

  -- without it
  module _ (seal_map : IsNewMap (record m { zones = sealed_zones changed m.zones })) where
    seal_all : length m.zones ≡ m.geometry.zones
    seal_all = sym (length-sealed changed m.zones) ∙ seal_map.all

    seal_long : (z : ℕ) → z < length m.zones → 4 ≤ length (get_or m.zones z [])
    seal_long z lt =
        let whole_sector = seal_map.whole z (omega (arith, lt, seal_all)) in
        omega (arith, header, whole_sector, sealed_lengths changed m.zones z)

    pub seal_ends : (image : List ℕ) → HasPassedBoth m.geometry changed (λ z. get_or (sealed_zones changed m.zones) z []) start image → CommitEnds m.geometry start (sealed_zones changed m.zones) image
    seal_ends = wide_ends m changed start ready seal_all seal_long (listed seal_all)

pub no_zones : (zones : List ℕ) → (length zones == 0) ≡ true → zones ≡ []
no_zones [] e = refl
no_zones (z ∷ zones) e = let long = eqb-true (length (z ∷ zones)) 0 e in absurd (omega (arith, long))
