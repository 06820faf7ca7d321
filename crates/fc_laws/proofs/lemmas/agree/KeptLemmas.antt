-- Edits in which no object comes or goes, and each keeps its place.
use Rattle.std.proofs.Common.{◌≡◌, ℕ, Bool, false, cond, List, ◌∷◌, ap, arith}
use Rattle.std.specs.Prelude.{Contains, IsPermutation}
use Rattle.fc_names.specs.Names.{is_same_path}
use Rattle.fc_image.specs.Layout.{Layout}
use Rattle.fc_image.specs.Walk.{Listing, Object}
use Rattle.fc_image.specs.Objects.{objects_of}
use Rattle.fc_image.specs.Sound.{AreSound}
use Rattle.fc_image.proofs.PathsLemmas.{is_at, itself, many}
use Rattle.fc_image.proofs.RenameLemmas.{many_shuffled, passes}
use Rattle.fc_image.proofs.TreeLemmas.{sound_few}
use Rattle.std.proofs.lemmas.Bool.{false_from_ne_true as unless}

-- ---- paths

-- beside an object there is none of its path
pub alone : (layout : Layout) (listings : List Listing) (o p : Object) (others : List Object) → AreSound layout listings → IsPermutation (objects_of listings) (o ∷ others) → Contains others p
    → is_same_path o.path p.path ≡ false
unfolding many
alone layout listings o p others sound all at =
    unless (is_same_path o.path p.path) (λ same.
    let few = sound_few layout listings sound o.path in
    let whole = many_shuffled (is_at o.path) (objects_of listings) (o ∷ others) all in
    let first : ◌≡◌ {A = ℕ} (cond (is_at o.path o) 1 0) 1 = ap (λ (b : Bool). let n : ℕ = cond b 1 0 in n) (itself o.path) in
    let second = passes (is_at o.path) others p at same in
    omega (arith, few, whole, first, second))
