-- What directories say that are not written; and `set` and `mark`.
use Rattle.std.proofs.Common.{◌≡◌, ℕ, true, List, ◌++◌}
use Rattle.fc_newmap.proofs.PlaceLemmas.{in_front}
use Rattle.fc_image.specs.Layout.{is_among, is_apart}
use Rattle.fc_image.proofs.HolesLemmas.{apart_at, apart_from}
use Rattle.fc_changes.proofs.BasicLemmas.{clash}

pub apart_front : (xs ys zs : List ℕ) → is_apart xs (ys ++ zs) ≡ true → is_apart xs ys ≡ true
apart_front xs ys zs e = apart_from xs ys (λ s i j. clash (is_among (ys ++ zs) s) (in_front ys zs s j) (apart_at xs (ys ++ zs) s e i))
