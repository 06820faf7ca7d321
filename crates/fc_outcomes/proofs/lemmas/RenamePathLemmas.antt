-- Paths before and after `rename`, and what it asks of directories elsewhere.
use Rattle.std.proofs.Common.{◌≡◌, ℕ, Bool, true, false, cond, List, ◌++◌, length, refl, sym, ap, ap₂, subst, ◌∙◌, Option, Some}
use Rattle.std.specs.Prelude.{drop}
use Rattle.fc_names.specs.Names.{Path, folded_path, is_same_path}
use Rattle.fc_model.specs.Command.{Command}
use Rattle.fc_model.specs.Tree.{holder, is_prefix, last_name}
use Rattle.fc_dirs.specs.declared.Entry.{Entry}
use Rattle.fc_dirs.specs.Directory.{Directory}
use Rattle.fc_dirs.specs.Entries.{padded_name}
use Rattle.fc_image.specs.Walk.{Object}
use Rattle.fc_image.specs.Objects.{object_at}
use Rattle.fc_image.specs.Opening.{Opened}
use Rattle.fc_image.specs.Commanded.{moved_path}
use Rattle.fc_image.specs.effects.Steady.{HasName, RenamedHead, edited, named_entry, path_after, with_made, without_name}
use Rattle.fc_image.proofs.CommandLemmas.{same_by_folds}
use Rattle.fc_image.proofs.PathsLemmas.{itself}
use Rattle.fc_image.proofs.RelistLemmas.{folded_long}
use Rattle.fc_image.proofs.TreeLemmas.{folds_alike}
use Rattle.fc_changes.proofs.BasicLemmas.{clash}
use Rattle.fc_changes.proofs.RenamedLemmas.{folds_append, same_turned as turned_same}
use Rattle.std.proofs.lemmas.Bool.{false_from_ne_true as unless}

pub after_same : (from to from' to' p : Path) → is_same_path from from' ≡ true → is_same_path to to' ≡ true → is_same_path (path_after (Command.Rename from to) p) (moved_path from' to' p) ≡ true
after_same from to from' to' p same same' =
    let folds = folds_alike from from' same in
    let long : length from ≡ length from' = sym (folded_long from) ∙ ap (λ (q : Path). length q) folds ∙ folded_long from' in
    ap (λ (q : Path). is_same_path q (moved_path from' to' p)) (ap₂ (λ (f : Path) (n : ℕ). cond (is_prefix f (folded_path p)) (to ++ drop n p) p) folds long) ∙ by (is_prefix (folded_path from') (folded_path p))
  where
    by : (b : Bool) → is_same_path (cond b (to ++ drop (length from') p) p) (cond b (to' ++ drop (length from') p) p) ≡ true
    by true =
        same_by_folds (to ++ drop (length from') p) (to' ++ drop (length from') p)
        (folds_append to (drop (length from') p) ∙ ap (λ (q : Path). q ++ folded_path (drop (length from') p)) (folds_alike to to' same') ∙ sym (folds_append to' (drop (length from') p)))
    by false = itself p

-- A path of the same spelling is another path than the same.
pub other_of : (a b p : Path) → is_same_path a b ≡ true → is_same_path b p ≡ false → is_same_path a p ≡ false
other_of a b p same other = unless (is_same_path a p) (λ also. clash (is_same_path b p) (same_by_folds b p (sym (folds_alike a b same) ∙ folds_alike a p also)) other)

pub turned_other : (a b : Path) → is_same_path a b ≡ false → is_same_path b a ≡ false
turned_other a b other = unless (is_same_path b a) (λ same. clash (is_same_path a b) (same_by_folds a b (sym (folds_alike b a same))) other)

-- what the command leaves a directory, by whether this holds the one path, and the other
pub edited_by : (from to dir : Path) (made : Option Entry) (entries : List Entry) (a b : Bool) → is_same_path (holder from) dir ≡ a → is_same_path (holder to) dir ≡ b
    → edited (Command.Rename from to) dir made entries ≡ (let kept : List Entry = cond a (without_name (last_name from) entries) entries in cond b (with_made made kept) kept)
edited_by from to dir made entries a b from_is to_is =
    ap₂ (λ (x y : Bool). let kept : List Entry = cond x (without_name (last_name from) entries) entries in cond y (with_made made kept) kept) from_is to_is

-- One that isn't renamed keeps its name.
pub kept_name : (from to dir : Path) → is_same_path from dir ≡ false → (content : Directory) → HasName (Command.Rename from to) dir content
kept_name from to dir other (Directory.Small content) = ap (λ (b : Bool). cond b (padded_name 10 (last_name to)) content.name) other
kept_name from to dir other (Directory.Big content) = subst (λ (b : Bool). RenamedHead b content (last_name to) content.name) (sym other) refl

-- The entry that the command names is that at the second path.
pub named_rename : (from to : Path) (w : Opened) (o : Object) → object_at w.listings to ≡ Some o → named_entry w (Command.Rename from to) ≡ Some o.entry
named_rename from to w o at = rw at refl
