-- Edits of entries by their numbers are edits by their names.
use Rattle.std.proofs.Common.{◌≡◌, ◌<◌, ℕ, Bool, true, false, cond, List, length, map, get_or, remove, set, sym, ap, ◌∙◌, subst, Some, None, slice_get, option_map}
use Rattle.std.proofs.lemmas.Option.{slice_get-get_or, get_or_from_slice_get}
use Rattle.fc_names.specs.Names.{is_same_name}
use Rattle.fc_dirs.specs.declared.Entry.{Entry}
use Rattle.fc_dirs.specs.Entries.{first_twin, has_name, with_entry}
use Rattle.fc_dirs.proofs.EditLemmas.{edit_law}
use Rattle.fc_dirs.proofs.SearchLemmas.{blank}
use Rattle.fc_image.specs.effects.Steady.{replaced_entry, with_made, without_name}
use Rattle.fc_drafts.specs.Rewriting.{IsAt}
use Rattle.fc_drafts.proofs.SizeLemmas.{same_name_itself}
use Rattle.fc_smalldir.proofs.SmallLemmas.{named_at}

pub made_new : (es : List Entry) (e : Entry) → has_name es e.name ≡ false → with_entry e es ≡ with_made (Some e) es
made_new es e absent = sym (ap (λ (b : Bool). cond b (map (replaced_entry e) es) (with_entry e es)) absent)

pub made_changed : (es : List Entry) (at : ℕ) (was e : Entry) → first_twin es ≡ None → IsAt es at was → was.name ≡ e.name → set es at e ≡ with_made (Some e) es
made_changed es at was e apart is same =
    let names : is_same_name was.name e.name ≡ true = subst (λ (n : List ℕ). is_same_name was.name n ≡ true) same (same_name_itself was.name) in
    edit_law.changed es at was e apart is names
    ∙ sym (ap (λ (b : Bool). cond b (map (replaced_entry e) es) (with_entry e es)) (edit_law.there es at was e.name is names))

pub made_renamed : (es : List Entry) (at : ℕ) (was e : Entry) (name : List ℕ) → first_twin es ≡ None → has_name (remove es at) e.name ≡ false → IsAt es at was → is_same_name was.name name ≡ true
    → with_entry e (remove es at) ≡ with_made (Some e) (without_name name es)
made_renamed es at was e name apart absent is same = made_new (remove es at) e absent ∙ ap (with_made (Some e)) (edit_law.removed es at was name apart is same)

pub name_at : (es : List Entry) (at : ℕ) (name : List ℕ) → at < length es → option_map (λ (d : Entry). d.name) (slice_get es at) ≡ Some name → (get_or es at blank).name ≡ name
name_at es at name within same = named_at es at name same within

-- the name that is read of a list of entries that is the directory's
pub read_name : (es read : List Entry) (at : ℕ) (d was : Entry) → read ≡ es → IsAt es at was → (get_or read at d).name ≡ was.name
read_name es read at d was same is = ap (λ (e : Entry). e.name) (ap (λ (l : List Entry). get_or l at d) same ∙ get_or_from_slice_get es at was d is)
