-- Directories that are written to rows of sectors.
use Rattle.std.proofs.Common.{◌≡◌, ◌<◌, ◌≤◌, inl, inr, ℕ, zero, suc, ◌+◌, ◌*◌, ◌/◌, Bool, true, false, List, [], ◌∷◌, length, take, refl, sym, ap, ap₂, subst, ◌∙◌, arith, All, get_or, eq-eqb}
use Rattle.std.specs.Prelude.{◌==◌, ◌||◌}
use Rattle.std.specs.Int.{div_ceil}
use Rattle.std.specs.List.{flat_map, range_with_len}
use Rattle.std.proofs.lemmas.Bool.{cases_eq, false_from_ne_true as unless}
use Rattle.std.proofs.lemmas.List.{append-nil}
use Rattle.std.proofs.lemmas.List.FromFn.{get_or-range_with_len, length-range_with_len}
use Rattle.fc_device.specs.declared.disk.Extent.{Extent}
use Rattle.fc_device.specs.Sectors.{sector_at}
use Rattle.fc_oldmap.specs.OldMap.{OldMapContent}
use Rattle.fc_dirs.specs.Small.{SmallDir, tail_of}
use Rattle.fc_dirs.specs.SmallBytes.{IsWrittenSmall}
use Rattle.fc_image.specs.Layout.{Layout, bytes_in, dir_form, is_among, sector_bytes}
use Rattle.fc_image.specs.Walk.{object_size}
use Rattle.fc_image.proofs.FreeLemmas.{flat_same, range_bounds}
use Rattle.fc_image.proofs.HolesLemmas.{apart_at}
use Rattle.fc_objects.specs.Bytes.{first_bytes}
use Rattle.fc_objects.specs.Extents.{sectors_in}
use Rattle.fc_objects.specs.Written.{AreApart, IsPartWritten}
use Rattle.fc_changes.proofs.BasicLemmas.{clash}
use Rattle.fc_tree.specs.declared.node.Body.TheVariants as bodies
use Rattle.fc_tree.specs.declared.node.Node.{Node}
use Rattle.fc_tree.proofs.WalkedLemmas.{same_some}
use Rattle.fc_laws.specs.nodes.Edits.{Nodes}
use Rattle.fc_oldlaws.specs.moves.Writes.{AreDirectoriesPlaced, AreDirectoriesWritten, IsDirAt, row_of}
use Rattle.fc_volume.specs.OldCompacting.{IsDirWritten, IsNumberWritten}
use Rattle.fc_tree.proofs.ReadingLemmas.{all_on_disk as all_low}

-- ---- one row

pub one_row : (row : Extent) → sectors_in (row ∷ []) ≡ range_with_len row.first row.sectors
one_row row = append-nil (range_with_len row.first row.sectors)

range_apart : (a n : ℕ) → AreApart (range_with_len a n)
range_apart a n i j order low same =
    let high : j < n = subst (λ (k : ℕ). j < k) (length-range_with_len a n) low in
    let lower : i < n = omega (arith, order, high) in
    let first = get_or-range_with_len a n i 0 lower in
    let second = get_or-range_with_len a n j 0 high in
    let equal : a + i ≡ a + j = sym first ∙ same ∙ second in
    omega (arith, equal, order)

pub one_row_apart : (row : Extent) → AreApart (sectors_in (row ∷ []))
one_row_apart row = subst AreApart (sym (one_row row)) (range_apart row.first row.sectors)

pub one_row_low : (sectors : ℕ) (row : Extent) → row.first + row.sectors ≤ sectors → All (λ n. n < sectors) (sectors_in (row ∷ []))
one_row_low sectors row few =
    subst (All (λ n. n < sectors)) (sym (one_row row)) (all_low sectors (range_with_len row.first row.sectors) (λ s i. (let b = range_bounds row.first row.sectors s i in omega (arith, b, few))))

pub one_row_room : (size n : ℕ) (row : Extent) → n ≤ row.sectors * size → n ≤ length (sectors_in (row ∷ [])) * size
one_row_room size n row few = subst (λ (k : ℕ). n ≤ k * size) (sym (ap (λ (xs : List ℕ). length xs) (one_row row) ∙ length-range_with_len row.first row.sectors)) few

-- ---- one directory

among_at : (xs : List ℕ) (i : ℕ) → i < length xs → is_among xs (get_or xs i 0) ≡ true
among_at [] i low = absurd (omega (arith, low))
among_at (x ∷ xs) zero low = ap (λ (b : Bool). b || is_among xs x) (eq-eqb x x refl)
among_at (x ∷ xs) (suc i) low = ap (λ (b : Bool). (x == get_or xs i 0) || b) (among_at xs i (omega (arith, low))) ∙ always (x == get_or xs i 0)
  where
    always : (b : Bool) → (b || true) ≡ true
    always true = refl
    always false = refl

bytes_are : (k : ℕ) (im xs bs : List ℕ) (n : ℕ) → length bs ≡ n → first_bytes k im xs (length bs) ≡ bs → bytes_in k im xs n ≡ bs
unfolding bytes_in first_bytes
bytes_are k im xs bs n is e = ap (λ (m : ℕ). take m (flat_map (sector_at k im) xs)) (sym is) ∙ e

pub dir_written : (size : ℕ) (row : Extent) (dir : SmallDir) (bytes was image : List ℕ) → length bytes ≡ (tail_of dir.form).size → IsWrittenSmall bytes dir
    → first_bytes size image (sectors_in (row ∷ [])) (length bytes) ≡ bytes → IsPartWritten size (sectors_in (row ∷ [])) bytes was image → IsDirWritten size row.first row.sectors dir was image
dir_written size row dir bytes was image long says back part = record {
  length_stays = part.length_stays;
  says = subst (λ (bs : List ℕ). IsWrittenSmall bs dir) (sym (bytes_are size image (range_with_len row.first row.sectors) bytes (tail_of dir.form).size long
      (ap (λ (xs : List ℕ). first_bytes size image xs (length bytes)) (sym (one_row row)) ∙ back))) says;
  others = λ t none. elim (part.each t) [
    | inl same ↦ same
    | inr at ↦ absurd (clash (is_among (sectors_in (row ∷ [])) t) (subst (λ (k : ℕ). is_among (sectors_in (row ∷ [])) k ≡ true) at.2 (among_at (sectors_in (row ∷ [])) at.0 at.1))
        (ap (λ (xs : List ℕ). is_among xs t) (one_row row) ∙ none))
  ];
}

bytes_same : (size : ℕ) (was image xs : List ℕ) (n : ℕ) → ((t : ℕ) → is_among xs t ≡ true → sector_at size image t ≡ sector_at size was t) → bytes_in size image xs n ≡ bytes_in size was xs n
unfolding bytes_in
bytes_same size was image xs n same = ap (λ (bs : List ℕ). take n bs) (flat_same (sector_at size image) (sector_at size was) xs same)

-- ---- the directory of a number

module _ (space : OldMapContent) (nodes : Nodes) (placed : AreDirectoriesPlaced space nodes) where
  abbrev size : ℕ
  size = sector_bytes (Layout.Old space)

  pub number_written : (n : ℕ) (node : Node) (dir : SmallDir) (first sectors : ℕ) (was image : List ℕ) → IsDirAt nodes n node dir → first ≡ node.entry.address / space.sector_units
      → sectors ≡ div_ceil (tail_of dir.form).size (256 * space.sector_units) → IsDirWritten (256 * space.sector_units) first sectors dir was image → IsNumberWritten space nodes n was image
  number_written n node dir first sectors was image is begins long w =
      let row : range_with_len first sectors ≡ row_of space node.entry =
      ap₂ (λ (a k : ℕ). range_with_len a k) begins (long ∙ ap (λ (k : ℕ). div_ceil k (256 * space.sector_units)) (sym (placed.size n node dir is))) in
      record {
        length_stays = w.length_stays;
        written = λ other d at.
            let one : node ≡ other = same_some node other (sym is.there ∙ at.there) in
            let says : bodies.Small dir ≡ bodies.Small d = sym is.says ∙ ap (λ (x : Node). x.body) one ∙ at.says in
            let same : dir ≡ d = small_same dir d says in
            subst (λ (x : Node). IsWrittenSmall (bytes_in size image (row_of space x.entry) (object_size (dir_form (Layout.Old space)) x.entry)) d) one
            (subst (λ (x : SmallDir). IsWrittenSmall (bytes_in size image (row_of space node.entry) (object_size (dir_form (Layout.Old space)) node.entry)) x) same
            (subst (λ (bs : List ℕ). IsWrittenSmall bs dir) (ap₂ (λ (xs : List ℕ) (k : ℕ). bytes_in size image xs k) row (sym (placed.size n node dir is))) w.says));
        others = λ t none. w.others t (ap (λ (xs : List ℕ). is_among xs t) row ∙ none node dir is);
      }
    where
      small_same : (a b : SmallDir) → bodies.Small a ≡ bodies.Small b → a ≡ b
      small_same a b e = cc

  pub none_written : (n : ℕ) (image : List ℕ) → ((node : Node) (dir : SmallDir) → IsDirAt nodes n node dir → ⊥) → IsNumberWritten space nodes n image image
  none_written n image none = record { length_stays = refl; written = λ node dir is. absurd (none node dir is); others = λ t off. refl }

  -- ---- one after another

  pub none_yet : (changed : ℕ → Bool) (image : List ℕ) → AreDirectoriesWritten space nodes changed 0 image image
  none_yet changed image = record { length_stays = refl; written = λ n node dir less mark is. absurd (omega (arith, less)); others = λ t off. refl }

  pub next_written : (changed : ℕ → Bool) (k : ℕ) (was mid image : List ℕ) → changed k ≡ true → AreDirectoriesWritten space nodes changed k was mid → IsNumberWritten space nodes k mid image
      → AreDirectoriesWritten space nodes changed (k + 1) was image
  next_written changed k was mid image marked before w = record {
    length_stays = w.length_stays ∙ before.length_stays;
    written = λ n node dir less mark is. elim (cases_eq n k) [
      | inl e ↦ w.written node dir (subst (λ (m : ℕ). IsDirAt nodes m node dir) e is)
      | inr other ↦
          subst (λ (bs : List ℕ). IsWrittenSmall bs dir)
          (sym (bytes_same size mid image (row_of space node.entry) (object_size (dir_form (Layout.Old space)) node.entry) (λ t i. w.others t (λ x d at.
          unless (is_among (row_of space x.entry) t) (λ j. clash (is_among (row_of space x.entry) t) j (apart_at (row_of space node.entry) (row_of space x.entry) t (placed.apart n k node x dir d is at other) i))))))
          (before.written n node dir (omega (arith, less, other)) mark is)
    ];
    others = λ t off. w.others t (λ node dir is. off k node dir (omega arith) marked is) ∙ before.others t (λ n node dir less mark is. off n node dir (omega (arith, less)) mark is);
  }

  pub next_skipped : (changed : ℕ → Bool) (k : ℕ) (was image : List ℕ) → changed k ≡ false → AreDirectoriesWritten space nodes changed k was image → AreDirectoriesWritten space nodes changed (k + 1) was image
  next_skipped changed k was image unmarked before = record {
    length_stays = before.length_stays;
    written = λ n node dir less mark is. elim (cases_eq n k) [
      | inl e ↦ absurd (clash (changed k) (ap changed (sym e) ∙ mark) unmarked)
      | inr other ↦ before.written n node dir (omega (arith, less, other)) mark is
    ];
    others = λ t off. before.others t (λ n node dir less mark is. off n node dir (omega (arith, less)) mark is);
  }
