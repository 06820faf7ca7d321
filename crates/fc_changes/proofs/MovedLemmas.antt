-- Rename to another directory.
use Rattle.std.proofs.Common.{◌≡◌, zero, ℕ, true, false, List, [], ◌∷◌, ◌++◌, length, refl, ap, ◌∙◌, arith}
use Rattle.std.specs.Prelude.{Ok}
use Rattle.fc_names.specs.Names.{Path}
use Rattle.fc_record.specs.declared.DiscRecord.{DiscRecord}
use Rattle.fc_record.specs.declared.Kind.{Kind}
use Rattle.fc_newmap.specs.Map.{Map}
use Rattle.fc_model.specs.Tree.{holder}
use Rattle.fc_dirs.specs.Directory.{Directory, entries_of}
use Rattle.fc_image.specs.Layout.{is_among, is_apart}
use Rattle.fc_image.specs.Walk.{Listing, Object}
use Rattle.fc_image.proofs.HolesLemmas.{apart_from}
use Rattle.fc_changes.specs.Changed.{IsMoveChange}
use Rattle.std.specs.Prelude.{◌-◌, suc}
use Rattle.fc_image.proofs.HolesLemmas.{apart_at}
use Rattle.fc_image.proofs.RelistLemmas.{folded_long, prefix_long}
use Rattle.fc_names.specs.Names.{folded_path, folded}
use Rattle.fc_newmap.proofs.PlaceLemmas.{in_either}
use Rattle.fc_model.specs.Tree.{is_prefix, last_name}
use Rattle.fc_dirs.specs.Entries.{entry_place}
use Rattle.std.specs.Prelude.{Err, take}
use Rattle.std.proofs.lemmas.List.{length-take}
use Rattle.fc_changes.proofs.BasicLemmas.{clash}
use Rattle.fc_changes.proofs.ChangeLemmas.{opened}
use Rattle.fc_image.proofs.CommandLemmas.{is_prefix_of, prefix_is}
use Rattle.std.proofs.lemmas.List.{take-take}
use Rattle.std.proofs.lemmas.Bool.{false_from_ne_true as unless}

-- both parts are apart
pub both_apart : (xs ys zs : List ℕ) → is_apart xs ys ≡ true → is_apart xs zs ≡ true → is_apart xs (ys ++ zs) ≡ true
both_apart xs ys zs a b = apart_from xs (ys ++ zs) (λ s i j. elim (in_either ys zs s j) [
  | Ok first ↦ clash (is_among ys s) first (apart_at xs ys s a i)
  | Err second ↦ clash (is_among zs s) second (apart_at xs zs s b i)
])

pub holder_folds : (p : Path) → folded_path (holder p) ≡ take (length p - 1) (folded_path p)
holder_folds p = go (length p - 1) p
  where
    go : (n : ℕ) (q : Path) → folded_path (take n q) ≡ take n (folded_path q)
    go zero q = refl
    go (suc n) [] = refl
    go (suc n) (x ∷ q) = ap (λ (zs : Path). folded x ∷ zs) (go n q)

-- what isn't below a path has a holder that isn't
pub holder_not : (from p : Path) → is_prefix (folded_path from) (folded_path p) ≡ false → is_prefix (folded_path from) (folded_path (holder p)) ≡ false
holder_not from p no' = unless (is_prefix (folded_path from) (folded_path (holder p))) (λ h.
    let n = length p - 1 in
    let cut' = prefix_is (folded_path from) (folded_path (holder p)) h in
    let low = prefix_long from (holder p) h in
    let t = length-take n p in
    let f = folded_long from in
    clash (is_prefix (folded_path from) (folded_path p))
    (is_prefix_of (folded_path from) (folded_path p)
    (cut' ∙ ap (take (length (folded_path from))) (holder_folds p) ∙ take-take (length (folded_path from)) n (folded_path p) (omega (arith, low, t, f)))) no')

module _ (kind : Kind) (r : DiscRecord) (image image' : List ℕ) (m : Map) (ls : List Listing) (from to : Path) (rest : List Listing) (src l : Listing) (src_content l_content : Directory) (i : ℕ) (o : Object)
    (said_now : Directory) (e : IsMoveChange kind r image image' (opened kind m ls) m from to rest src l src_content l_content i o said_now) where
  -- ---- what the directories say

  abbrev j : ℕ
  j = entry_place (last_name to) (entries_of l.content)
