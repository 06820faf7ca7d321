-- A change by which sectors of its own are written before the map's first step, and one directory after it: it can be, and what is there then.
use Rattle.std.proofs.Common.{◌≡◌, ◌<◌, ◌≤◌, ◌*◌, inl, inr, ⊎_elim, ℕ, suc, zero, true, false, List, [], ◌∷◌, ◌++◌, flat_map, length, refl, sym, ap, ap₂, subst, ◌∙◌, arith, All}
use Rattle.std.specs.Prelude.{Contains, Ok, Err}
use Rattle.std.proofs.lemmas.List.{append-nil}
use Rattle.fc_newmap.proofs.CoverLemmas.{Distinct, Distinct-append}
use Rattle.fc_newmap.proofs.PlaceLemmas.{in_either}
use Rattle.fc_image.specs.Layout.{Layout, is_among, is_apart, map_place, sector_bytes}
use Rattle.fc_image.proofs.HolesLemmas.{apart_at, apart_from}
use Rattle.fc_changes.proofs.BasicLemmas.{clash}
use Rattle.fc_laws.proofs.lemmas.takeover.WriteLemmas.{apart_of}
use Rattle.fc_objects.specs.Written.{AreApart}
use Rattle.fc_outcomes.specs.Puts.{AreContents, ArePutOut, Put}
use Rattle.fc_outcomes.proofs.lemmas.PutLemmas.{puts_law}
use Rattle.fc_tree.proofs.MemberLemmas.{contains_here, no_element}
use Rattle.fc_writing.specs.declared.ready.Piece.{Piece}
use Rattle.fc_writing.specs.declared.ready.Ready.{Ready}
use Rattle.fc_writing.specs.declared.ready.Source.{Source}
use Rattle.fc_writing.specs.declared.ready.Source.TheVariants as from
use Rattle.fc_writing.specs.declared.ready.Transfer.{Transfer}
use Rattle.fc_writing.specs.Content.{Content, HasContent, IsPart, stored as bytes_in_sectors}
use Rattle.fc_writing.specs.Laws.{ChangesOnly}
use Rattle.fc_writing.specs.Ready.{CanPut, IsEnough, IsSourceEnough, all_content, content_of, copied_place, early_content, early_place, from_of, late_place, place_of, source_from, written_place}
use Rattle.fc_writing.proofs.ContentLemmas.{among_at}
use Rattle.fc_commands.proofs.PieceLemmas.{all_low, no_from, enough}
use Rattle.fc_commands.proofs.PutLemmas.{CopiesNone, are_contents, contents_of, put_of}
use Rattle.std.proofs.lemmas.Bool.{false_from_ne_true as unless}
use Rattle.fc_image.proofs.EntriesLemmas.{later as contains_later, cases as contains_cases}

-- ---- lists of sectors

distinct_of : (xs : List ℕ) → AreApart xs → Distinct xs
distinct_of [] once = tt
distinct_of (x ∷ xs) once = (
  unless (is_among xs x) (λ e. (let there = among_at xs x e in once zero (suc there.0) (omega arith) (let low = there.1 in omega (arith, low)) (sym there.2))),
  distinct_of xs (λ i j before low same. once (suc i) (suc j) (omega (arith, before)) (omega (arith, low)) same),
)

pub once_both : (xs ys : List ℕ) → AreApart xs → AreApart ys → is_apart xs ys ≡ true → AreApart (xs ++ ys)
once_both xs ys first second apart =
    apart_of (xs ++ ys) (Distinct-append xs ys (distinct_of xs first) (distinct_of ys second) (λ s here there. clash (is_among ys s) there (apart_at xs ys s apart here)))

pub apart_both : (xs ys zs : List ℕ) → is_apart xs zs ≡ true → is_apart ys zs ≡ true → is_apart (xs ++ ys) zs ≡ true
apart_both xs ys zs first second =
    apart_from (xs ++ ys) zs (λ s here there. elim (in_either xs ys s here) [
      | Ok i ↦ clash (is_among zs s) there (apart_at xs zs s first i)
      | Err j ↦ clash (is_among zs s) there (apart_at ys zs s second j)
    ])

-- ---- sectors that an object may have

-- They lie on the disc of so many sectors, each once, and apart from the map.
pub record AreRoom (n : ℕ) (mapped sectors : List ℕ) : Type 0 where
  pub low : (s : ℕ) → is_among sectors s ≡ true → s < n
  pub once : AreApart sectors
  pub beside : is_apart sectors mapped ≡ true

pub room_both : (n : ℕ) (mapped xs ys : List ℕ) → AreRoom n mapped xs → AreRoom n mapped ys → is_apart xs ys ≡ true → AreRoom n mapped (xs ++ ys)
room_both n mapped xs ys a b apart = record {
  low = λ s e. elim (in_either xs ys s e) [
    | Ok i ↦ a.low s i
    | Err j ↦ b.low s j
  ];
  once = once_both xs ys a.once b.once apart;
  beside = apart_both xs ys mapped a.beside b.beside;
}

-- ---- puts in another order

pub swapped : (layout : Layout) (a b : Put) (was image : List ℕ) → ArePutOut layout (a ∷ b ∷ []) was image → ArePutOut layout (b ∷ a ∷ []) was image
swapped layout a b was image is = record {
  length_stays = is.length_stays;
  there = λ p at. is.there p (turned p at);
  others = λ s mapped out. is.others s mapped (λ p at. out p (back p at));
}
  where
    turned : (p : Put) → Contains (b ∷ a ∷ []) p → Contains (a ∷ b ∷ []) p
    turned p at =
        ⊎_elim (λ first. subst (Contains (a ∷ b ∷ [])) first (contains_later a b (b ∷ []) (contains_here b [])))
        (λ later. ⊎_elim (λ second. subst (Contains (a ∷ b ∷ [])) second (contains_here a (b ∷ []))) (λ none. absurd (no_element p none)) (contains_cases a p [] later)) (contains_cases b p (a ∷ []) at)

    back : (p : Put) → Contains (a ∷ b ∷ []) p → Contains (b ∷ a ∷ []) p
    back p at =
        ⊎_elim (λ first. subst (Contains (b ∷ a ∷ [])) first (contains_later b a (a ∷ []) (contains_here a [])))
        (λ later. ⊎_elim (λ second. subst (Contains (b ∷ a ∷ [])) second (contains_here b (a ∷ []))) (λ none. absurd (no_element p none)) (contains_cases b p [] later)) (contains_cases a p (b ∷ []) at)

-- ---- what is written

-- Nothing is copied; these sectors come first, and one piece last.
pub record IsTwoPieces (r : Ready) (sectors : List ℕ) (p : Piece) : Type 0 where
  pub plain : CopiesNone r.source
  pub carried : r.carried.items ≡ []
  pub early : early_place r ≡ sectors
  pub late : r.late.items ≡ p ∷ []

module _ (r : Ready) (sectors : List ℕ) (p : Piece) (two : IsTwoPieces r sectors p) where
  written_is : written_place r ≡ sectors ++ place_of p
  written_is = ap₂ (λ (a b : List ℕ). a ++ b) two.early (ap (flat_map place_of) two.late ∙ append-nil (place_of p))

  copied_none : copied_place r ≡ []
  copied_none = ap₂ (λ (a b : List ℕ). a ++ b) (no_from r.source two.plain) (ap (flat_map from_of) two.carried)

  -- It can be written.
  pub can_put : (n : ℕ) (mapped : List ℕ) → AreRoom n mapped (sectors ++ place_of p) → CanPut n mapped r
  can_put n mapped room = record {
    on_disk = subst (λ (ss : List ℕ). All (λ s. s < n) ss) (sym written_is) (all_low n (sectors ++ place_of p) room.low);
    from_disk = subst (λ (ss : List ℕ). All (λ s. s < n) ss) (sym copied_none) (λ i d less. absurd (omega (arith, less)));
    once = subst AreApart (sym written_is) room.once;
    beside = subst (λ (ss : List ℕ). is_apart ss mapped ≡ true) (sym written_is) room.beside;
    others = subst (λ (ss : List ℕ). is_apart ss (written_place r) ≡ true) (sym copied_none) refl;
    unmapped = subst (λ (ss : List ℕ). is_apart ss mapped ≡ true) (sym copied_none) refl;
    source_enough = enough r.source two.plain;
    enough = subst (λ (ts : List Transfer). All IsEnough ts) (sym two.carried) (λ i d less. absurd (omega (arith, less)));
  }

  -- So the directory and the sectors have their bytes, and all else beside the map is as before.
  pub put_out : (layout : Layout) (was bytes stored image : List ℕ) → early_content (sector_bytes layout) was bytes r ≡ contents_of (sector_bytes layout) (record { sectors = sectors; bytes = stored } ∷ [])
      → length stored ≤ length sectors * sector_bytes layout → length p.bytes.items ≤ length (place_of p) * sector_bytes layout
      → HasContent (sector_bytes layout) (all_content (sector_bytes layout) was bytes r) image → IsPart (sector_bytes layout) (map_place layout) (all_content (sector_bytes layout) was bytes r) was image
      → ArePutOut layout (put_of p ∷ record { sectors = sectors; bytes = stored } ∷ []) was image
  put_out layout was bytes stored image early long_own long has part =
      let size = sector_bytes layout in
      let own : Put = record { sectors = sectors; bytes = stored } in
      let puts : List Put = own ∷ put_of p ∷ [] in
      let whole : all_content size was bytes r ≡ contents_of size puts =
      ap₂ (λ (a b : Content). a ++ b) (early ∙ append-nil (bytes_in_sectors size sectors stored)) (ap (flat_map (content_of size)) two.late) in
      swapped layout own (put_of p) was image
      (puts_law.contents layout puts (all_content size was bytes r) was image part.length_stays
      (subst (λ (c : Content). AreContents size puts c) (sym whole)
      (are_contents size puts (λ q at.
      ⊎_elim (λ first. subst (λ (x : Put). length x.bytes ≤ length x.sectors * size) first long_own)
      (λ later. ⊎_elim (λ second. subst (λ (x : Put). length x.bytes ≤ length x.sectors * size) second long) (λ none. absurd (no_element q none)) (contains_cases (put_of p) q [] later)) (contains_cases own q (put_of p ∷ []) at)))) has part.each)

  -- What differs at any moment.
  pub changes_only : (size : ℕ) (mapped was image : List ℕ) → ChangesOnly size (written_place r ++ mapped) was image → ChangesOnly size ((sectors ++ place_of p) ++ mapped) was image
  changes_only size mapped was image only = subst (λ (ss : List ℕ). ChangesOnly size (ss ++ mapped) was image) written_is only
