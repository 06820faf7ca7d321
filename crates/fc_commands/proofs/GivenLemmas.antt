-- A change whose object's bytes are given and written before the rest, by the map that a volume has.
use Rattle.std.proofs.Common.{◌≡◌, ◌<◌, ℕ, List, [], ◌++◌, All, refl, ap, subst}
use Rattle.std.specs.List.{flat_map}
use Rattle.fc_newmap.specs.Map.{map_sectors}
use Rattle.fc_newmap.specs.Copies.{Chooses}
use Rattle.fc_image.specs.Layout.{Layout, map_place, sector_bytes}
use Rattle.fc_objects.specs.Extents.{sectors_in}
use Rattle.fc_objects.specs.Written.{AreApart}
use Rattle.fc_writing.specs.declared.copies.Copies.{Copies}
use Rattle.fc_writing.specs.declared.ready.Ready.{Ready}
use Rattle.fc_writing.specs.declared.ready.Source.{Source}
use Rattle.fc_writing.specs.declared.ready.Source.TheVariants as sources
use Rattle.fc_writing.specs.Content.{Content, HasContent, IsPart}
use Rattle.fc_writing.specs.New.{AfterTake, InGive, InTake}
use Rattle.fc_writing.specs.Old.{IsTorn, front_given, front_in, front_taken, sector_of}
use Rattle.fc_writing.specs.Ready.{CanPut, carried_by, content_of, early_content, late_content, source_content, source_place}
use Rattle.fc_writing.specs.Stages.{Leaves}
use Rattle.fc_writing.proofs.EarlyLemmas.{once_source, source_low}
use Rattle.fc_given.specs.Law.{BeforehandLaw, IsBegun, IsStored, rest_of}
use Rattle.fc_holdings.specs.Holdings.{CopiesAre}
use Rattle.fc_commands.specs.Run.{IsMapIn}
use Rattle.fc_commands.specs.Written.{CanWriteOn, ChangeLeavesOn, IsChangedOn, IsGivenOn}
use Rattle.fc_commands.specs.Given.{filled}
use Rattle.fc_commands.proofs.FilledLemmas.{stored_filled}

pub can_put_on : (layout : Layout) (n : ℕ) (r : Ready) → CanWriteOn layout n r → CanPut n (map_place layout) r
can_put_on (Layout.New m) n r can = can.put
can_put_on (Layout.Old space) n r can = can.put

pub source_on_disk : (layout : Layout) (n : ℕ) (r : Ready) → CanWriteOn layout n r → All (λ s. s < n) (source_place r.source)
source_on_disk layout n r can = source_low n (map_place layout) r (can_put_on layout n r can)

pub source_once : (layout : Layout) (n : ℕ) (r : Ready) → CanWriteOn layout n r → AreApart (source_place r.source)
source_once layout n r can = once_source n (map_place layout) r (can_put_on layout n r can)

pub given_on : (layout layout' : Layout) (r : Ready) → IsGivenOn layout (rest_of r) layout' → IsGivenOn layout r layout'
given_on (Layout.New m) (Layout.New m') r given = given
given_on (Layout.Old space) (Layout.Old now) r given = given
given_on (Layout.New m) (Layout.Old now) r given = absurd given
given_on (Layout.Old space) (Layout.New m') r given = absurd given

-- what was written of the new object, as it was lent
module _ (size size' : ℕ) (s : Source) (r : Ready) (given was image : List ℕ) (same : size ≡ size') (is : s ≡ r.source) where
  pub begun_as : IsPart size [] (source_content size was given s) was image → IsBegun size' r given was image
  begun_as part =
      subst (λ (k : ℕ). IsPart k [] (source_content k was given r.source) was image) same (subst (λ (x : Source). IsPart size [] (source_content size was given x) was image) is part)

  pub stored_as : IsPart size [] (source_content size was given s) was image → HasContent size (source_content size was given s) image → IsStored size' r given was image
  stored_as part has = record {
    begun = begun_as part;
    whole = subst (λ (k : ℕ). HasContent k (source_content k was given r.source) image) same (subst (λ (x : Source). HasContent size (source_content size was given x) image) is has);
  }

module _ (law : BeforehandLaw) where
  pub rest_on : (layout : Layout) (n : ℕ) (r : Ready) → CanWriteOn layout n r → CanWriteOn layout n (rest_of r)
  rest_on (Layout.New m) n r can = law.can n m r can
  rest_on (Layout.Old space) n r can = law.old_can n space r can

  pub copies_on : (layout : Layout) (n : ℕ) (r : Ready) (copies : Copies) (bytes was image : List ℕ) → CanWriteOn layout n r → IsBegun (sector_bytes layout) r bytes was image → CopiesAre copies layout was → CopiesAre copies layout image
  copies_on (Layout.New m) n r copies bytes was image can begun known = law.copies n m r copies bytes was image can begun known
  copies_on (Layout.Old space) n r copies bytes was image can begun known = known

  pub first_on : (layout : Layout) (n : ℕ) (r : Ready) (copies : Copies) (bytes was image : List ℕ) → IsMapIn layout → CanWriteOn layout n r → CopiesAre copies layout was → IsBegun (sector_bytes layout) r bytes was image
      → ChangeLeavesOn layout r bytes was image
  first_on (Layout.New m) n r copies bytes was image is can known begun = law.first n m r copies bytes was image can known begun
  first_on (Layout.Old space) n r copies bytes was image is can known begun = law.old_first n space r bytes was image is.units can begun

  pub later_on : (layout : Layout) (n : ℕ) (r : Ready) (bytes none was mid image : List ℕ) → IsMapIn layout → CanWriteOn layout n r → IsStored (sector_bytes layout) r bytes was mid → ChangeLeavesOn layout (rest_of r) none mid image
      → ChangeLeavesOn layout r bytes was image
  later_on (Layout.New m) n r bytes none was mid image is can stored leaves = law.later n m r bytes none was mid image can stored leaves
  later_on (Layout.Old space) n r bytes none was mid image is can stored leaves = law.old_later n space r bytes none was mid image is.units can stored leaves

  pub done_on : (layout layout' : Layout) (n : ℕ) (r : Ready) (bytes none was mid image : List ℕ) → IsMapIn layout → CanWriteOn layout n r → IsStored (sector_bytes layout) r bytes was mid → IsChangedOn layout layout' (rest_of r) none mid image
      → IsChangedOn layout layout' r bytes was image
  done_on (Layout.New m) (Layout.New m') n r bytes none was mid image is can stored changed = law.done n m m' r bytes none was mid image can stored changed
  done_on (Layout.New m) (Layout.Old now) n r bytes none was mid image is can stored changed = absurd changed
  done_on (Layout.Old space) layout' n r bytes none was mid image is can stored changed = law.old_done n space r bytes none was mid image is.units can stored changed

-- ---- zeros in place of what wasn't given

source_filled : (size total : ℕ) (was given : List ℕ) (s : Source) → source_content size was given s ≡ source_content size was (filled total given) s
source_filled size total was given sources.Nothing = refl
source_filled size total was given (sources.Bytes place) = stored_filled size total (sectors_in place.items) given
source_filled size total was given (sources.Sectors t) = refl

early_filled : (size total : ℕ) (was given : List ℕ) (r : Ready) → early_content size was given r ≡ early_content size was (filled total given) r
early_filled size total was given r =
    ap (λ (c : Content). c ++ (flat_map (carried_by size was) r.carried.items ++ flat_map (content_of size) r.early.items)) (source_filled size total was given r.source)

pub leaves_filled : (layout : Layout) (r : Ready) (total : ℕ) (given was image : List ℕ) → ChangeLeavesOn layout r given was image → ChangeLeavesOn layout r (filled total given) was image
leaves_filled (Layout.New m) r total given was image leaves =
    subst (λ (c : Content). Leaves m.geometry.sector (map_sectors m.geometry) c (late_content m.geometry.sector r) (Chooses m.geometry m.zones) (InTake m r) (AfterTake m r) (InGive m r) was image)
    (early_filled m.geometry.sector total was given r) leaves
leaves_filled (Layout.Old space) r total given was image leaves =
    subst (λ (c : Content). Leaves (sector_of space) (map_place (Layout.Old space)) c (late_content (sector_of space) r)
    (λ other. front_in space other ≡ front_in space was) (IsTorn space was (front_taken space r was))
    (λ other. front_in space other ≡ front_taken space r was) (IsTorn space (front_taken space r was) (front_given space r was)) was image)
    (early_filled (sector_of space) total was given r) leaves
