-- A change of which one directory is written, beside the map.
use Rattle.std.proofs.Common.{◌≡◌, ◌<◌, ◌≤◌, ◌*◌, ℕ, true, List, [], ◌∷◌, ◌++◌, flat_map, length, refl, sym, ap, ap₂, subst, ◌∙◌, arith, All}
use Rattle.std.proofs.lemmas.List.{append-nil}
use Rattle.std.proofs.lemmas.List.Elements.{All-cons, All-nil}
use Rattle.fc_image.specs.Layout.{Layout, is_among, is_apart, map_place, sector_bytes}
use Rattle.fc_newmap.proofs.PlaceLemmas.{in_back}
use Rattle.fc_laws.proofs.lemmas.takeover.KindLemmas.{among_first}
use Rattle.fc_objects.specs.Written.{AreApart}
use Rattle.fc_outcomes.specs.Puts.{AreContents, ArePutOut, Put}
use Rattle.fc_outcomes.proofs.lemmas.PutLemmas.{puts_law}
use Rattle.fc_edits.proofs.lemmas.ShapeLemmas.{of_one}
use Rattle.fc_writing.specs.declared.ready.Piece.{Piece}
use Rattle.fc_writing.specs.declared.ready.Ready.{Ready}
use Rattle.fc_writing.specs.declared.ready.Source.{Source}
use Rattle.fc_writing.specs.declared.ready.Source.TheVariants as from
use Rattle.fc_writing.specs.declared.ready.Transfer.{Transfer}
use Rattle.fc_writing.specs.Content.{Content, HasContent, IsPart, stored}
use Rattle.fc_writing.specs.Laws.{ChangesOnly}
use Rattle.fc_writing.specs.Ready.{CanPut, IsEnough, IsSourceEnough, all_content, carried_by, content_of, copied_place, early_place, from_of, late_place, place_of, source_content, source_from, to_of, written_place}
use Rattle.fc_commands.proofs.PutLemmas.{CopiesNone, are_contents, contents_of, put_of}
use Rattle.fc_commands.proofs.EmptySpaceLemmas.{IsOnePiece, WritesNone}

-- ---- lists of sectors

pub all_low : (n : ℕ) (xs : List ℕ) → ((s : ℕ) → is_among xs s ≡ true → s < n) → All (λ s. s < n) xs
all_low n [] low = All-nil (λ s. s < n)
all_low n (x ∷ xs) low = All-cons (λ s. s < n) x xs (low x (among_first x xs)) (all_low n xs (λ s e. low s (in_back (x ∷ []) xs s e)))

-- ---- what is written

pub no_from : (s : Source) → CopiesNone s → source_from s ≡ []
no_from from.Nothing none = refl
no_from (from.Bytes place) none = refl
no_from (from.Sectors t) none = absurd none

pub enough : (s : Source) → CopiesNone s → IsSourceEnough s
enough from.Nothing none = tt
enough (from.Bytes place) none = tt
enough (from.Sectors t) none = absurd none

no_content : (size : ℕ) (was bytes : List ℕ) (s : Source) → WritesNone s → source_content size was bytes s ≡ []
no_content size was bytes from.Nothing w = refl
no_content size was bytes (from.Bytes place) w = ap (λ (ss : List ℕ). stored size ss bytes) w.place
no_content size was bytes (from.Sectors t) w = absurd w.plain

module _ (r : Ready) (p : Piece) (one : IsOnePiece r p) where
  early_none : early_place r ≡ []
  early_none =
      ap₂ (λ (a b : List ℕ). a ++ b) one.source.place
      (ap₂ (λ (ts : List Transfer) (ps : List Piece). flat_map to_of ts ++ flat_map place_of ps) one.carried one.early)

  late_is : late_place r ≡ place_of p
  late_is = ap (flat_map place_of) one.late ∙ append-nil (place_of p)

  pub written_is : written_place r ≡ place_of p
  written_is = ap₂ (λ (a b : List ℕ). a ++ b) early_none late_is

  copied_none : copied_place r ≡ []
  copied_none = ap₂ (λ (a b : List ℕ). a ++ b) (no_from r.source one.source.plain) (ap (flat_map from_of) one.carried)

  pub content_is : (size : ℕ) (was bytes : List ℕ) → all_content size was bytes r ≡ contents_of size (put_of p ∷ [])
  content_is size was bytes =
      ap₂ (λ (a b : Content). a ++ b)
      (ap₂ (λ (a b : Content). a ++ b) (no_content size was bytes r.source one.source)
      (ap₂ (λ (ts : List Transfer) (ps : List Piece). flat_map (carried_by size was) ts ++ flat_map (content_of size) ps) one.carried one.early))
      (ap (flat_map (content_of size)) one.late)

  -- ---- it can be written

  -- Its sectors lie on the disk, none twice, and apart from the map.
  pub can_put : (n : ℕ) (mapped : List ℕ) → All (λ s. s < n) (place_of p) → AreApart (place_of p) → is_apart (place_of p) mapped ≡ true → CanPut n mapped r
  can_put n mapped low once beside = record {
    on_disk = subst (λ (ss : List ℕ). All (λ s. s < n) ss) (sym written_is) low;
    from_disk = subst (λ (ss : List ℕ). All (λ s. s < n) ss) (sym copied_none) (λ i d less. absurd (omega (arith, less)));
    once = subst AreApart (sym written_is) once;
    beside = subst (λ (ss : List ℕ). is_apart ss mapped ≡ true) (sym written_is) beside;
    others = subst (λ (ss : List ℕ). is_apart ss (written_place r) ≡ true) (sym copied_none) refl;
    unmapped = subst (λ (ss : List ℕ). is_apart ss mapped ≡ true) (sym copied_none) refl;
    source_enough = enough r.source one.source.plain;
    enough = subst (λ (ts : List Transfer). All IsEnough ts) (sym one.carried) (λ i d less. absurd (omega (arith, less)));
  }

  -- ---- what is there then

  pub put_out : (layout : Layout) (was bytes image : List ℕ) → length p.bytes.items ≤ length (place_of p) * sector_bytes layout
      → HasContent (sector_bytes layout) (all_content (sector_bytes layout) was bytes r) image → IsPart (sector_bytes layout) (map_place layout) (all_content (sector_bytes layout) was bytes r) was image
      → ArePutOut layout (put_of p ∷ []) was image
  put_out layout was bytes image long has part =
      let size = sector_bytes layout in
      let puts : List Put = put_of p ∷ [] in
      puts_law.contents layout puts (all_content size was bytes r) was image part.length_stays
      (subst (λ (c : Content). AreContents size puts c) (sym (content_is size was bytes))
      (are_contents size puts (of_one (λ (q : Put). length q.bytes ≤ length q.sectors * size) (put_of p) long))) has part.each

  -- and what differs at any moment
  pub changes_only : (size : ℕ) (mapped was image : List ℕ) → ChangesOnly size (written_place r ++ mapped) was image → ChangesOnly size (place_of p ++ mapped) was image
  changes_only size mapped was image only = subst (λ (ss : List ℕ). ChangesOnly size (ss ++ mapped) was image) written_is only
