-- A change in two parts, on new maps and old ones.
use Rattle.std.proofs.Common.{◌≡◌, ◌⊎◌, inl, inr, ℕ, true, false, List, [], ◌++◌, refl, sym, ap, subst, ◌∙◌}
use Rattle.fc_device.specs.Sectors.{sector_at}
use Rattle.fc_newmap.specs.Map.{Map, map_sectors}
use Rattle.fc_newmap.specs.declared.copies.Which.{Which}
use Rattle.fc_newmap.specs.Copies.{Chooses, HoldsCopies}
use Rattle.fc_oldmap.specs.OldMap.{OldMapContent}
use Rattle.fc_image.specs.Layout.{Layout, is_among, map_place}
use Rattle.fc_image.specs.Stays.{HasSectorsOf}
use Rattle.fc_image.proofs.FreeLemmas.{chosen_same, copy_same}
use Rattle.fc_writing.specs.declared.copies.Copies.{Copies}
use Rattle.fc_writing.specs.declared.copies.Copies.TheVariants.{Equal, Chosen}
use Rattle.fc_writing.specs.declared.ready.Ready.{Ready}
use Rattle.fc_writing.specs.Content.{content_sectors}
use Rattle.fc_writing.specs.Copies.{HasCopies}
use Rattle.fc_writing.specs.New.{AfterTake, CanWrite, ChangeLeaves, InGive, InTake, IsChanged}
use Rattle.fc_writing.specs.Old.{IsTorn, front_after, front_given, front_in, front_taken, sector_of}
use Rattle.fc_writing.specs.Old as old
use Rattle.fc_writing.specs.Ready.{source_content}
use Rattle.fc_writing.proofs.CopyLemmas.{chooses_first, chooses_stays, copies_stay}
use Rattle.fc_writing.proofs.FrontLemmas.{HasUnits}
use Rattle.fc_writing.proofs.OldLemmas.{front_stays, torn_since}
use Rattle.fc_writing.proofs.StageLemmas.{map_stays}
use Rattle.fc_given.specs.Law.{BeforehandLaw, IsBegun, IsStored, rest_of}
use Rattle.fc_given.proofs.RestLemmas.{can_rest, first_out, first_stage, has_all, leaves_then, part_all}

-- ---- new maps

can : (n : ℕ) (m : Map) (r : Ready) → CanWrite n m r → CanWrite n m (rest_of r)
can n m r c = record { put = can_rest n (map_sectors m.geometry) r c.put; take = c.take; give = c.give }

module _ (n : ℕ) (m : Map) (r : Ready) (c : CanWrite n m r) (bytes was image : List ℕ) (begun : IsBegun m.geometry.sector r bytes was image) where
  stays : HasSectorsOf m.geometry.sector (map_sectors m.geometry) was image
  stays = map_stays m.geometry.sector (map_sectors m.geometry) (source_content m.geometry.sector was bytes r.source) was image (first_out n (map_sectors m.geometry) r c.put m.geometry.sector bytes was) begun

  copies_now : (copies : Copies) → HasCopies copies m was → HasCopies copies m image
  copies_now Equal holds = copies_stay m.geometry was image stays m.zones holds
  copies_now (Chosen which) counts = record {
    counts = chosen_same m.geometry was image stays ∙ counts.counts;
    content = copy_same m.geometry which was image stays ∙ counts.content;
  }

  chooses_was : (copies : Copies) → HasCopies copies m was → Chooses m.geometry m.zones was
  chooses_was Equal holds = chooses_first m.geometry m.zones was holds
  chooses_was (Chosen which) counts = record { which = which; chosen_one = counts.counts; content = counts.content }

  before : (copies : Copies) → HasCopies copies m was → ChangeLeaves m r bytes was image
  before copies known =
      inl (first_stage n (map_sectors m.geometry) r c.put m.geometry.sector bytes (Chooses m.geometry m.zones) was image begun
      (chooses_stays m.geometry was image stays m.zones (chooses_was copies known)))

later : (n : ℕ) (m : Map) (r : Ready) (bytes none was mid image : List ℕ) → CanWrite n m r → IsStored m.geometry.sector r bytes was mid → ChangeLeaves m (rest_of r) none mid image → ChangeLeaves m r bytes was image
later n m r bytes none was mid image c stored leaves =
    leaves_then n (map_sectors m.geometry) r c.put m.geometry.sector bytes none was mid stored image
    (Chooses m.geometry m.zones) (InTake m r) (AfterTake m r) (InGive m r) (Chooses m.geometry m.zones) (InTake m r) (AfterTake m r) (InGive m r) (λ x. x) (λ x. x) (λ x. x) (λ x. x) leaves

done : (n : ℕ) (m m' : Map) (r : Ready) (bytes none was mid image : List ℕ) → CanWrite n m r → IsStored m.geometry.sector r bytes was mid → IsChanged m m' (rest_of r) none mid image → IsChanged m m' r bytes was image
done n m m' r bytes none was mid image c stored changed = record {
  written = has_all n (map_sectors m.geometry) r c.put m.geometry.sector bytes none was mid stored image changed.written changed.others;
  others = part_all n (map_sectors m.geometry) r c.put m.geometry.sector bytes none was mid stored image changed.others;
  copies = changed.copies;
}

-- ---- old maps

old_can : (n : ℕ) (space : OldMapContent) (r : Ready) → old.CanWrite n space r → old.CanWrite n space (rest_of r)
old_can n space r c = record { put = can_rest n (map_place (Layout.Old space)) r c.put; take = c.take; give = c.give }

module _ (n : ℕ) (space : OldMapContent) (r : Ready) (units : HasUnits space) (c : old.CanWrite n space r) (bytes was : List ℕ) where
  abbrev size : ℕ
  size = sector_of space

  abbrev mapped : List ℕ
  mapped = map_place (Layout.Old space)

  out : (s : ℕ) → is_among (content_sectors (source_content size was bytes r.source)) s ≡ true → is_among mapped s ≡ false
  out = first_out n mapped r c.put size bytes was

  front_now : (image : List ℕ) → IsBegun size r bytes was image → front_in space image ≡ front_in space was
  front_now image begun = front_stays space units (source_content size was bytes r.source) out was image begun

  old_before : (image : List ℕ) → IsBegun size r bytes was image → old.ChangeLeaves space r bytes was image
  old_before image begun = inl (first_stage n mapped r c.put size bytes (λ other. front_in space other ≡ front_in space was) was image begun (front_now image begun))

  module _ (none mid image : List ℕ) (stored : IsStored size r bytes was mid) where
    same : front_in space mid ≡ front_in space was
    same = front_now mid stored.begun

    abbrev Torn : List ℕ → List ℕ → Type 0
    Torn from new = IsTorn space from new image

    old_after : old.ChangeLeaves space (rest_of r) none mid image → old.ChangeLeaves space r bytes was image
    old_after leaves =
        leaves_then n mapped r c.put size bytes none was mid stored image
        (λ other. front_in space other ≡ front_in space mid) (IsTorn space mid (front_taken space r mid)) (λ other. front_in space other ≡ front_taken space r mid) (IsTorn space (front_taken space r mid) (front_given space r mid))
        (λ other. front_in space other ≡ front_in space was) (IsTorn space was (front_taken space r was)) (λ other. front_in space other ≡ front_taken space r was) (IsTorn space (front_taken space r was) (front_given space r was))
        (λ x. x ∙ same)
        (λ x. subst (λ (f : List ℕ). IsTorn space was (front_after r.take f) image) same
        (torn_since space units (source_content size was bytes r.source) out was mid stored.begun (front_taken space r mid) image x))
        (λ x. x ∙ ap (front_after r.take) same)
        (λ x. subst (λ (f : List ℕ). IsTorn space (front_after r.take f) (front_after r.give (front_after r.take f)) image) same x) leaves

    old_ends : old.IsChanged space (rest_of r) none mid image → old.IsChanged space r bytes was image
    old_ends changed = record {
      written = has_all n mapped r c.put size bytes none was mid stored image changed.written changed.others;
      others = part_all n mapped r c.put size bytes none was mid stored image changed.others;
      map = changed.map ∙ ap (λ (f : List ℕ). front_after r.give (front_after r.take f)) same;
    }

pub beforehand_law : BeforehandLaw
beforehand_law = record {
  can = can;
  old_can = old_can;
  copies = λ n m r copies bytes was image c begun known. copies_now n m r c bytes was image begun copies known;
  first = λ n m r copies bytes was image c known begun. before n m r c bytes was image begun copies known;
  old_first = λ n space r bytes was image units c begun. old_before n space r units c bytes was image begun;
  later = later;
  old_later = λ n space r bytes none was mid image units c stored leaves. old_after n space r units c bytes was none mid image stored leaves;
  done = done;
  old_done = λ n space r bytes none was mid image units c stored changed. old_ends n space r units c bytes was none mid image stored changed;
}
