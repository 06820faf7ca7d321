-- Rewritings of directories, by what becomes of the head and the heap.
use Rattle.std.proofs.Common.{◌≡◌, ◌<◌, ◌≤◌, inl, inr, ℕ, ◌%◌, min, max, Bool, true, false, cond, nat_le, List, [], ◌∷◌, ◌++◌, length, refl, sym, ap, ◌∙◌, subst, arith, eq-eqb, le-leb, ◌==◌}
use Rattle.std.specs.List.{flat_map}
use Rattle.std.specs.Int.{next_multiple_of}
use Rattle.std.proofs.lemmas.List.{append-nil}
use Rattle.std.proofs.lemmas.Bool.Decides.{nat_tests}
use Rattle.fc_names.specs.Names.{Path, is_same_path}
use Rattle.fc_model.specs.Tree.{last_name}
use Rattle.fc_model.specs.Command.{Command}
use Rattle.fc_dirs.specs.declared.Entry.{Entry}
use Rattle.fc_dirs.specs.Entries.{padded_name}
use Rattle.fc_dirs.specs.Small.{SmallDir, next_sequence}
use Rattle.fc_dirs.specs.Big.{BigDir, IsBig, bytes_for, bytes_taken, fitted, form_of, head_space, name_space, packed, size_for, with_head_name}
use Rattle.fc_dirs.specs.Directory.{Directory}
use Rattle.fc_bigdir.proofs.LaidLemmas.{SizeBounds, size_bounds}
use Rattle.fc_image.proofs.CommandLemmas.{same_by_folds}
use Rattle.fc_image.proofs.TreeLemmas.{folds_alike}
use Rattle.fc_image.specs.effects.Steady.{BigNameAfter, HeapAfter, RenamedHead, holds_name, is_renamed_by, names_added, packed_len, small_name_after}
use Rattle.fc_drafts.specs.Draft.{with_head, with_name}
use Rattle.fc_drafts.specs.Rewriting.{IsRewrittenAs, IsRewrittenFor}
use Rattle.fc_drafts.proofs.NamesLemmas.{is_unspelled, none_pass, own_name}

-- ---- paths

turned : (p q : Path) → is_same_path p q ≡ true → is_same_path q p ≡ true
turned p q h = same_by_folds q p (sym (folds_alike p q h))

other_turned : (p q : Path) → is_same_path p q ≡ false → is_same_path q p ≡ false
other_turned p q h = by (is_same_path q p) refl
  where
    by : (b : Bool) → is_same_path q p ≡ b → is_same_path q p ≡ false
    by false e = e
    by true e = absurd (let bad : true ≡ false = sym (turned q p e) ∙ h in cc)

-- ---- small directories

small_name_kept : (c : Command) (path : Path) (name : List ℕ) → is_renamed_by c path ≡ false → small_name_after c path name ≡ name
small_name_kept (Command.Cat p) path name other = refl
small_name_kept (Command.Load p) path name other = refl
small_name_kept (Command.Digest p) path name other = refl
small_name_kept (Command.Save p load exec bytes) path name other = refl
small_name_kept (Command.Create p load exec len) path name other = refl
small_name_kept (Command.Cdir p) path name other = refl
small_name_kept (Command.Delete p) path name other = refl
small_name_kept (Command.Rename from to) path name other = ap (λ (b : Bool). cond b (padded_name 10 (last_name to)) name) (other_turned path from other)
small_name_kept (Command.Set p load exec access) path name other = refl
small_name_kept Command.Free path name other = refl
small_name_kept Command.Check path name other = refl
small_name_kept Command.Compact path name other = refl
small_name_kept Command.Reclaim path name other = refl
small_name_kept (Command.Mark p attrs) path name other = refl

pub small_rewritten : (parent : ℕ) (old : SmallDir) (entries : List Entry)
    → IsRewrittenFor parent (Directory.Small old) (with_head parent (Directory.Small (record old { entries = entries })))
small_rewritten parent old entries = λ c path other.
    ap (λ (n : List ℕ). (let dir : SmallDir = record old { sequence = next_sequence old.sequence; parent = parent; name = n; entries = entries } in dir))
    (sym (small_name_kept c path old.name other))

pub small_moved : (parent : ℕ) (name : List ℕ) (old : SmallDir) → IsRewrittenAs name parent (Directory.Small old) (with_head parent (with_name name (Directory.Small old)))
small_moved parent name old = λ from to path renamed last.
    let called : padded_name 10 name ≡ cond (is_same_path from path) (padded_name 10 (last_name to)) old.name =
    ap (padded_name 10) (sym last) ∙ sym (ap (λ (b : Bool). cond b (padded_name 10 (last_name to)) old.name) (turned path from renamed)) in
    ap (λ (n : List ℕ). (let dir : SmallDir = record old { sequence = next_sequence old.sequence; parent = parent; name = n } in dir)) called

-- ---- heads of big directories

-- The head's fields are those of the old directory.
pub record SameHead (old new : BigDir) : Type 0 where
  pub sequence : new.sequence ≡ old.sequence
  pub name : new.name ≡ old.name
  pub second_form : new.second_form ≡ old.second_form
  pub reserved : new.reserved ≡ old.reserved

pub form_kept : (dir : BigDir) → IsBig dir → form_of dir.second_form dir.name ≡ dir.second_form
form_kept dir big = by dir.second_form refl
  where
    by : (s : Bool) → dir.second_form ≡ s → form_of s dir.name ≡ s
    by false is = refl
    by true is = eq-eqb (length dir.name % 4) 0 (big.form is)

big_name_kept : (c : Command) (path : Path) (old : BigDir) (name : List ℕ) → is_renamed_by c path ≡ false → name ≡ old.name → BigNameAfter c path old name
big_name_kept (Command.Cat p) path old name other is = is
big_name_kept (Command.Load p) path old name other is = is
big_name_kept (Command.Digest p) path old name other is = is
big_name_kept (Command.Save p load exec bytes) path old name other is = is
big_name_kept (Command.Create p load exec len) path old name other is = is
big_name_kept (Command.Cdir p) path old name other is = is
big_name_kept (Command.Delete p) path old name other is = is
big_name_kept (Command.Rename from to) path old name other is = subst (λ (b : Bool). RenamedHead b old (last_name to) name) (sym (other_turned path from other)) is
big_name_kept (Command.Set p load exec access) path old name other is = is
big_name_kept Command.Free path old name other is = is
big_name_kept Command.Check path old name other is = is
big_name_kept Command.Compact path old name other is = is
big_name_kept Command.Reclaim path old name other is = is
big_name_kept (Command.Mark p attrs) path old name other is = is

pub big_rewritten : (parent : ℕ) (old new : BigDir) → IsBig old → SameHead old new → HeapAfter old new
    → IsRewrittenFor parent (Directory.Big old) (with_head parent (Directory.Big new))
big_rewritten parent old new big same heap = λ c path other.
    let form : new.second_form ≡ form_of old.second_form new.name = same.second_form ∙ sym (form_kept old big) ∙ ap (form_of old.second_form) (sym same.name) in (
      big_name_kept c path old new.name other same.name,
      heap,
      λ i. record {
        size = new.size;
        sequence = next_sequence (same.sequence i);
        parent = parent;
        name = new.name;
        second_form = form i;
        reserved = same.reserved i;
        heap = new.heap;
        name_places = new.name_places;
        entries = new.entries;
      },
    )

-- ---- heaps

-- the heap stays if no name is new
pub heap_stays : (old new : BigDir) → new.heap ≡ old.heap → names_added old new ≡ [] → HeapAfter old new
heap_stays old new same none =
    inr (same ∙ sym (append-nil old.heap) ∙ ap (λ (ns : List (List ℕ)). old.heap ++ flat_map (λ (n : List ℕ). padded_name (name_space n) n) ns) (sym none))

-- one new name stands after it
pub heap_longer : (old new : BigDir) (name : List ℕ) → new.heap ≡ old.heap ++ padded_name (name_space name) name → names_added old new ≡ name ∷ [] → HeapAfter old new
heap_longer old new name longer one =
    inr (longer ∙ ap (λ (xs : List ℕ). old.heap ++ xs) (sym (append-nil (padded_name (name_space name) name)))
    ∙ ap (λ (ns : List (List ℕ)). old.heap ++ flat_map (λ (n : List ℕ). padded_name (name_space n) n) ns) (sym one))

-- the same entries have no new name
pub same_names : (old : BigDir) → names_added old old ≡ []
same_names old = none_pass (is_unspelled old.entries) old.entries (own_name old.entries)

-- ---- with the heap made anew if it must be

pub fitted_head : (old dir : BigDir) → SameHead old dir → SameHead old (fitted dir)
fitted_head old dir same = by (nat_le (bytes_taken dir) dir.size)
  where
    by : (b : Bool) → SameHead old (cond b dir (packed dir))
    by true = same
    by false = record { sequence = same.sequence; name = same.name; second_form = same.second_form; reserved = same.reserved }

pub fitted_heap : (old dir : BigDir) → HeapAfter old dir → HeapAfter old (fitted dir)
fitted_heap old dir heap = by (nat_le (bytes_taken dir) dir.size)
  where
    by : (b : Bool) → HeapAfter old (cond b dir (packed dir))
    by true = heap
    by false = inl refl

pub fitted_entries : (dir : BigDir) → (fitted dir).entries ≡ dir.entries
fitted_entries dir = by (nat_le (bytes_taken dir) dir.size)
  where
    by : (b : Bool) → (cond b dir (packed dir)).entries ≡ dir.entries
    by true = refl
    by false = refl

pub fitted_size : (dir : BigDir) → (fitted dir).size ≡ dir.size
fitted_size dir = by (nat_le (bytes_taken dir) dir.size)
  where
    by : (b : Bool) → (cond b dir (packed dir)).size ≡ dir.size
    by true = refl
    by false = refl

-- ---- another name in the head

-- the space of the head's name in the form that it then has
space_of_form : (s : Bool) (name : List ℕ) → head_space (form_of s name) (length name) ≡ head_space s (length name)
space_of_form false name = refl
space_of_form true name = by (length name % 4 == 0) refl
  where
    by : (b : Bool) → (length name % 4 == 0) ≡ b → head_space b (length name) ≡ next_multiple_of (length name) 4
    by true is = refl
    by false is = let part : 0 < length name % 4 = grind (arith, nat_tests, is) in omega (arith, part)

holds_less : (head n heap less size : ℕ) → SizeBounds size → less ≤ heap → nat_le (bytes_for head n heap) size ≡ true → nat_le (size_for head n less) size ≡ true
holds_less head n heap less size bounds fewer holds =
    let inside : bytes_for head n heap ≤ size = grind (arith, nat_tests, holds) in
    le-leb (size_for head n less) size (omega (arith, inside, fewer, bounds.whole))

fails_more : (head n heap more size : ℕ) → heap ≤ more → nat_le (bytes_for head n heap) size ≡ false → nat_le (size_for head n more) size ≡ false
fails_more head n heap more size further fails =
    let beyond : size < bytes_for head n heap = grind (arith, nat_tests, fails) in
    let above : size < size_for head n more = omega (arith, beyond, further) in
    grind (arith, nat_tests, above)

pub big_moved : (parent : ℕ) (name : List ℕ) (old : BigDir) → IsBig old → IsRewrittenAs name parent (Directory.Big old) (with_head parent (with_name name (Directory.Big old)))
big_moved parent name old big = λ from to path renamed last.
    subst (λ (b : Bool). (let rest = with_head_name name old in
    RenamedHead b old (last_name to) rest.name × HeapAfter old (record rest { parent = parent; sequence = next_sequence rest.sequence })
    × (record rest { parent = parent; sequence = next_sequence rest.sequence } ≡ record old {
      size = rest.size;
      sequence = next_sequence old.sequence;
      parent = parent;
      name = rest.name;
      second_form = form_of old.second_form rest.name;
      heap = rest.heap;
      name_places = rest.name_places;
      entries = rest.entries;
    }))) (sym (turned path from renamed)) (by (last_name to) last (nat_le (bytes_taken new) old.size) refl)
  where
    new : BigDir
    new = record old { name = name; second_form = form_of old.second_form name }

    Done : List ℕ → BigDir → Type 0
    Done last dir =
        RenamedHead true old last dir.name × HeapAfter old (record dir { parent = parent; sequence = next_sequence dir.sequence })
        × (record dir { parent = parent; sequence = next_sequence dir.sequence } ≡ record old {
          size = dir.size;
          sequence = next_sequence old.sequence;
          parent = parent;
          name = dir.name;
          second_form = form_of old.second_form dir.name;
          heap = dir.heap;
          name_places = dir.name_places;
          entries = dir.entries;
        })

    space : head_space (form_of old.second_form name) (length name) ≡ head_space old.second_form (length name)
    space = space_of_form old.second_form name

    by : (last : List ℕ) → last ≡ name → (b : Bool) → nat_le (bytes_taken new) old.size ≡ b → Done last (cond b new old)
    by last is true holds = (
      inl (
        sym is,
        subst (λ (n : List ℕ). holds_name old (min (length old.heap) (packed_len old)) n ≡ true) (sym is)
            (holds_less (head_space old.second_form (length name)) (length old.entries) (length old.heap) (min (length old.heap) (packed_len old)) old.size (size_bounds old.size big.size) (omega arith)
            (subst (λ (h : ℕ). nat_le (bytes_for h (length old.entries) (length old.heap)) old.size ≡ true) space holds)),
      ),
      heap_stays old new refl (same_names old),
      refl,
    )
    by last is false fails = (
      inr (
        refl,
        subst (λ (n : List ℕ). holds_name old (max (length old.heap) (packed_len old)) n ≡ false) (sym is)
            (fails_more (head_space old.second_form (length name)) (length old.entries) (length old.heap) (max (length old.heap) (packed_len old)) old.size (omega arith)
            (subst (λ (h : ℕ). nat_le (bytes_for h (length old.entries) (length old.heap)) old.size ≡ false) space fails)),
      ),
      heap_stays old old refl (same_names old),
      λ i. record old { sequence = next_sequence old.sequence; parent = parent; second_form = sym (form_kept old big) i },
    )
