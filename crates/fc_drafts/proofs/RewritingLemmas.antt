-- The ways of rewriting a directory.
use Rattle.std.proofs.Common.{◌≡◌, ◌<◌, ℕ, max, Bool, true, false, cond, nat_le, List, [], length, map, filter, get_or, insert, remove, set, refl, ap, ◌∙◌, subst}
use Rattle.std.specs.Prelude.{slice_index}
use Rattle.std.proofs.lemmas.Slice.Eq.{bytes_eq-Decides}
use Rattle.std.specs.Str.{bytes_eq}
use Rattle.std.proofs.lemmas.Option.{slice_get-get_or}
use Rattle.fc_dirs.specs.declared.Entry.{Entry}
use Rattle.fc_dirs.specs.Entries.{entry_place, has_name, with_entry}
use Rattle.fc_dirs.specs.Big.{BigDir, IsBig, appended, bytes_taken, form_of, is_spelled, size_with, with_big_entry, with_big_renamed, with_head_name, without_big_entry}
use Rattle.fc_dirs.specs.Directory.{Directory, entries_of}
use Rattle.fc_dirs.proofs.EditLemmas.{edit_law}
use Rattle.fc_dirs.proofs.SearchLemmas.{blank}
use Rattle.fc_bigdir.proofs.GrowLemmas.{place_within}
use Rattle.fc_image.specs.effects.Steady.{HeapAfter}
use Rattle.fc_drafts.specs.Draft.{IsSayable, with_changed, with_head, with_less, with_name, with_new, with_renamed}
use Rattle.fc_drafts.specs.Rewriting.{HasEntered, HasLeft, HasMoved, HasNewHolder, HasRenamed, HasReplaced, IsRewrittenFor}
use Rattle.fc_drafts.proofs.NamesLemmas.{AllFail, absent_unspelled, is_unspelled, left_fail, none_pass, none_passes, one_passes, own_name, respelled}
use Rattle.fc_drafts.proofs.HeadLemmas.{SameHead, big_moved, big_rewritten, fitted_entries, fitted_head, fitted_heap, heap_longer, heap_stays, same_names, small_moved, small_rewritten}
use Rattle.fc_drafts.proofs.SizeLemmas.{renamed_by, size_grown, size_kept, size_renamed, spelled_is}
use Rattle.fc_drafts.proofs.AmendLemmas.{names_set}
use Rattle.fc_drafts.proofs.EditLemmas.{made_changed, made_new, made_renamed}

-- ---- big directories

-- the entries of a directory with a new one
entered_entries : (e : Entry) (dir : BigDir) → (with_big_entry e dir).entries ≡ with_entry e dir.entries
entered_entries e dir = fitted_entries (record (appended e dir) { size = max (size_with e dir) dir.size })

-- An entry comes whose name is new byte for byte, while those of the others are not.
big_entered : (parent : ℕ) (old : BigDir) (es : List Entry) (places : List ℕ) (e : Entry) → IsBig old → AllFail (is_unspelled old.entries) es → is_unspelled old.entries e.name ≡ true
    → (let dir : BigDir = record old { entries = es; name_places = places } in IsRewrittenFor parent (Directory.Big old) (with_head parent (Directory.Big (with_big_entry e dir))))
big_entered parent old es places e big fail passes = big_rewritten parent old (with_big_entry e dir) big (fitted_head old grown head) (fitted_heap old grown heap)
  where
    dir : BigDir
    dir = record old { entries = es; name_places = places }

    grown : BigDir
    grown = record (appended e dir) { size = max (size_with e dir) dir.size }

    head : SameHead old grown
    head = record { sequence = refl; name = refl; second_form = refl; reserved = refl }

    heap : HeapAfter old grown
    heap = heap_longer old grown e.name refl (one_passes (is_unspelled old.entries) es (entry_place e.name es) e (place_within e.name es) fail passes)

-- The heap stays, and no name is new.
big_kept : (parent : ℕ) (old : BigDir) (es : List Entry) (places : List ℕ) → IsBig old → filter (is_unspelled old.entries) (map (λ (e : Entry). e.name) es) ≡ []
    → (let dir : BigDir = record old { entries = es; name_places = places } in IsRewrittenFor parent (Directory.Big old) (with_head parent (Directory.Big dir)))
big_kept parent old es places big none = big_rewritten parent old dir big (record { sequence = refl; name = refl; second_form = refl; reserved = refl }) (heap_stays old dir refl none)
  where
    dir : BigDir
    dir = record old { entries = es; name_places = places }

-- ---- a new entry

pub entered : (parent : ℕ) (dir : Directory) (e : Entry) → IsSayable dir → has_name (entries_of dir) e.name ≡ false → HasEntered parent e dir (with_head parent (with_new e dir))
entered parent (Directory.Small dir) e small absent = record {
  is = refl;
  rewritten = small_rewritten parent dir (with_entry e dir.entries);
  entries = made_new dir.entries e absent;
  size = λ gain gets. size_grown parent (Directory.Small dir) e gain gets;
}
entered parent (Directory.Big dir) e big absent = record {
  is = refl;
  rewritten = big_entered parent dir dir.entries dir.name_places e big (own_name dir.entries) (absent_unspelled dir.entries e.name absent);
  entries = entered_entries e dir ∙ made_new dir.entries e absent;
  size = λ gain gets. size_grown parent (Directory.Big dir) e gain gets;
}

-- ---- an entry of the same name

pub replaced : (parent : ℕ) (dir : Directory) (at : ℕ) (e : Entry) → IsSayable dir → at < length (entries_of dir) → (get_or (entries_of dir) at blank).name ≡ e.name
    → HasReplaced parent at e dir (with_head parent (with_changed at e dir))
replaced parent (Directory.Small dir) at e small within same = record {
  is = refl;
  rewritten = small_rewritten parent dir (set dir.entries at e);
  entries = made_changed dir.entries at (get_or dir.entries at blank) e small.apart (slice_get-get_or dir.entries at blank within) same;
  size = refl;
}
replaced parent (Directory.Big dir) at e big within same = record {
  is = refl;
  rewritten = big_kept parent dir (set dir.entries at e) dir.name_places big
      (ap (filter (is_unspelled dir.entries)) (names_set dir.entries at e within same) ∙ none_pass (is_unspelled dir.entries) dir.entries (own_name dir.entries));
  entries = made_changed dir.entries at (get_or dir.entries at blank) e big.apart (slice_get-get_or dir.entries at blank within) same;
  size = refl;
}

-- ---- one entry less

pub left : (parent : ℕ) (dir : Directory) (at : ℕ) → IsSayable dir → at < length (entries_of dir) → HasLeft parent at dir (with_head parent (with_less at dir))
left parent (Directory.Small dir) at small within = record {
  is = refl;
  rewritten = small_rewritten parent dir (remove dir.entries at);
  entries = λ was name is same. edit_law.removed dir.entries at was name small.apart is same;
  size = refl;
}
left parent (Directory.Big dir) at big within = record {
  is = refl;
  rewritten = big_kept parent dir (remove dir.entries at) (remove dir.name_places at) big
      (none_pass (is_unspelled dir.entries) (remove dir.entries at) (left_fail (is_unspelled dir.entries) dir.entries at within (own_name dir.entries)));
  entries = λ was name is same. edit_law.removed dir.entries at was name big.apart is same;
  size = refl;
}

-- ---- an entry of another name

renamed_entries : (dir : BigDir) (at : ℕ) (e : Entry) → (with_big_renamed at e dir).entries ≡ with_entry e (remove dir.entries at)
renamed_entries dir at e = by (is_spelled at e dir) refl
  where
    by : (b : Bool) → is_spelled at e dir ≡ b → (with_big_renamed at e dir).entries ≡ with_entry e (remove dir.entries at)
    by true is = renamed_by dir at e (λ (d : BigDir). d.entries ≡ with_entry e (remove dir.entries at)) true is refl
    by false is = renamed_by dir at e (λ (d : BigDir). d.entries ≡ with_entry e (remove dir.entries at)) false is (entered_entries e (without_big_entry at dir))

big_renamed : (parent : ℕ) (dir : BigDir) (at : ℕ) (e : Entry) → IsBig dir → at < length dir.entries → has_name (remove dir.entries at) e.name ≡ false
    → IsRewrittenFor parent (Directory.Big dir) (with_head parent (Directory.Big (with_big_renamed at e dir)))
big_renamed parent dir at e big within absent = by (bytes_eq (get_or es at blank).name e.name) refl
  where
    es : List Entry
    es = dir.entries

    spelled : is_spelled at e dir ≡ bytes_eq (get_or es at blank).name e.name
    spelled = spelled_is dir at (get_or es at blank) e (slice_get-get_or es at blank within)

    Done : BigDir → Type 0
    Done d = IsRewrittenFor parent (Directory.Big dir) (with_head parent (Directory.Big d))

    by : (b : Bool) → bytes_eq (get_or es at blank).name e.name ≡ b → Done (with_big_renamed at e dir)
    by true is =
        let same : (get_or es at blank).name ≡ e.name = (bytes_eq-Decides (get_or es at blank).name e.name).0 is in
        renamed_by dir at e Done true (spelled ∙ is)
        (big_kept parent dir (with_entry e (remove es at)) (insert (remove dir.name_places at) (entry_place e.name (remove es at)) (slice_index dir.name_places at)) big
        (none_passes (is_unspelled es) (remove es at) (entry_place e.name (remove es at)) e (place_within e.name (remove es at)) (left_fail (is_unspelled es) es at within (own_name es))
        (subst (λ (n : List ℕ). is_unspelled es n ≡ false) same (own_name es at within))))
    by false is =
        renamed_by dir at e Done false (spelled ∙ is)
        (big_entered parent dir (remove es at) (remove dir.name_places at) e big (left_fail (is_unspelled es) es at within (own_name es)) (respelled es at e.name within absent is))

pub renamed : (parent : ℕ) (dir : Directory) (at : ℕ) (e : Entry) → IsSayable dir → at < length (entries_of dir) → has_name (remove (entries_of dir) at) e.name ≡ false
    → HasRenamed parent at e dir (with_head parent (with_renamed at e dir))
renamed parent (Directory.Small dir) at e small within absent = record {
  is = refl;
  rewritten = small_rewritten parent dir (with_entry e (remove dir.entries at));
  entries = λ was name is same. made_renamed dir.entries at was e name small.apart absent is same;
  kept = λ was is same. size_kept parent (Directory.Small dir) at was e is same;
  size = λ was gain is other gets. size_renamed parent (Directory.Small dir) at was e gain small is other gets;
}
renamed parent (Directory.Big dir) at e big within absent = record {
  is = refl;
  rewritten = big_renamed parent dir at e big within absent;
  entries = λ was name is same. renamed_entries dir at e ∙ made_renamed dir.entries at was e name big.apart absent is same;
  kept = λ was is same. size_kept parent (Directory.Big dir) at was e is same;
  size = λ was gain is other gets. size_renamed parent (Directory.Big dir) at was e gain big is other gets;
}

-- ---- heads

pub moved : (parent : ℕ) (name : List ℕ) (dir : Directory) → IsSayable dir → HasMoved parent name dir (with_head parent (with_name name dir))
moved parent name (Directory.Small dir) small = record { is = refl; rewritten = small_moved parent name dir; entries = refl; size = refl }
moved parent name (Directory.Big dir) big = record { is = refl; rewritten = big_moved parent name dir big; entries = entries_same; size = size_same }
  where
    new : BigDir
    new = record dir { name = name; second_form = form_of dir.second_form name }

    entries_same : (with_head_name name dir).entries ≡ dir.entries
    entries_same = by (nat_le (bytes_taken new) dir.size)
      where
        by : (b : Bool) → (cond b new dir).entries ≡ dir.entries
        by true = refl
        by false = refl

    size_same : (with_head_name name dir).size ≡ dir.size
    size_same = by (nat_le (bytes_taken new) dir.size)
      where
        by : (b : Bool) → (cond b new dir).size ≡ dir.size
        by true = refl
        by false = refl

pub new_holder : (parent : ℕ) (dir : Directory) → IsSayable dir → HasNewHolder parent dir (with_head parent dir)
new_holder parent (Directory.Small dir) small = record { is = refl; rewritten = small_rewritten parent dir dir.entries; entries = refl; size = refl }
new_holder parent (Directory.Big dir) big = record {
  is = refl;
  rewritten = big_rewritten parent dir dir big (record { sequence = refl; name = refl; second_form = refl; reserved = refl }) (heap_stays dir dir refl (same_names dir));
  entries = refl;
  size = refl;
}
