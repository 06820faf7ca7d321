-- `rename` by which a directory grows: the objects beside that directory and what is renamed.
use Rattle.fc_changes.proofs.BasicLemmas.{clash}
use Rattle.fc_commands.proofs.GrownAroundLemmas.{one_first}
use Rattle.fc_commands.proofs.GrownMoveSaidLemmas.{it, l, layout, unlike}
use Rattle.fc_commands.proofs.GrownMoveWalkLemmas as walk
use Rattle.fc_commands.proofs.GrownMoveWantLemmas.{GrownRename}
use Rattle.fc_commands.proofs.GrownMoveWantLemmas as want
use Rattle.fc_commands.proofs.MoveLemmas as seen_of
use Rattle.fc_image.proofs.CommandLemmas.{same_by_folds}
use Rattle.fc_image.proofs.EntriesLemmas.{cases as contains_cases, later as contains_later}
use Rattle.fc_image.proofs.PathsLemmas.{itself}
use Rattle.fc_image.specs.Layout.{Layout}
use Rattle.fc_image.specs.Objects.{objects_of}
use Rattle.fc_image.specs.Walk.{Object}
use Rattle.fc_laws.proofs.lemmas.agree.KeptLemmas.{alone}
use Rattle.fc_names.specs.Names.{is_same_path}
use Rattle.fc_placing.proofs.CopyingLemmas.{dirs_same}
use Rattle.fc_tree.proofs.SoundLemmas.{folds_alike}
use Rattle.fc_tree.specs.Parts.{owner_of}
use Rattle.std.proofs.Common.{List, Option, [], ap, false, subst, sym, true, ℕ, ⊎_elim, ◌==◌, ◌∙◌, ◌∷◌, ◌≡◌}
use Rattle.std.proofs.lemmas.Bool.{false_from_ne_true as unless}
use Rattle.std.proofs.lemmas.List.Sorted.{Contains-permutation, IsPermutation-cons, IsPermutation-middle, IsPermutation-sym, IsPermutation-trans}
use Rattle.std.specs.Option.{unwrap_or}
use Rattle.std.specs.Prelude.{Contains, IsPermutation}

module _ (q : GrownRename) where
  pub it_among : Contains (objects_of q.listings) q.seen.known.target.object
  it_among = seen_of.among (layout q) q.nodes q.listings q.from q.to q.r q.name q.seen

  pub it_stays : Contains (walk.cut q).0 q.seen.known.target.object
  it_stays =
      ⊎_elim (λ is. absurd (clash (is_same_path (it q).path (l q).object.path) (subst (λ (o : Object). is_same_path (it q).path o.path ≡ true) (sym is) (itself (it q).path)) (unlike q))) (λ later. later)
      (contains_cases (l q).object (it q) (walk.cut q).0 (Contains-permutation (objects_of q.listings) ((l q).object ∷ (walk.cut q).0) (it q) (walk.cut q).1 it_among))

  -- beside both
  pub rest : (stay : List Object) × IsPermutation (walk.cut q).0 (q.seen.known.target.object ∷ stay)
  rest = one_first (walk.cut q).0 (it q) it_stays

  pub beside : IsPermutation (objects_of q.listings) (q.seen.known.destination.listing.object ∷ q.seen.known.target.object ∷ rest.0)
  beside =
      IsPermutation-trans (objects_of q.listings) ((l q).object ∷ (walk.cut q).0) ((l q).object ∷ it q ∷ rest.0) (walk.cut q).1
      (IsPermutation-cons (l q).object (walk.cut q).0 (it q ∷ rest.0) rest.1)

  pub beside_it : IsPermutation (objects_of q.listings) (q.seen.known.target.object ∷ q.seen.known.destination.listing.object ∷ rest.0)
  beside_it = IsPermutation-trans (objects_of q.listings) ((l q).object ∷ it q ∷ rest.0) (it q ∷ (l q).object ∷ rest.0) beside (IsPermutation-middle ((l q).object ∷ []) (it q) rest.0)

  -- no other than the object has its node
  pub other_node : (o : Object) → Contains rest.0 o → ((owner_of q.nodes (Layout.New q.m) o).node == q.r.target.node) ≡ false
  other_node o at =
      let there = Contains-permutation (it q ∷ (l q).object ∷ rest.0) (objects_of q.listings) o (IsPermutation-sym (objects_of q.listings) (it q ∷ (l q).object ∷ rest.0) beside_it)
      (contains_later (it q) o ((l q).object ∷ rest.0) (contains_later (l q).object o rest.0 at)) in
      let has = q.seen.held.each o there in
      ap (λ (x : Option ℕ). unwrap_or x 0 == q.r.target.node) has.at_path
      ∙ dirs_same q.nodes o.path (it q).path has.number q.r.target.node has.at_path q.seen.known.target.node_is
      ∙ unless (is_same_path o.path (it q).path)
      (λ same. clash (is_same_path (it q).path o.path) (same_by_folds (it q).path o.path (sym (folds_alike o.path (it q).path same)))
      (alone (layout q) q.listings (it q) o ((l q).object ∷ rest.0) q.seen.sound beside_it (contains_later (l q).object o rest.0 at)))

  -- and no other than the grown directory has its
  pub other_l : (o : Object) → Contains rest.0 o → ((owner_of q.nodes (Layout.New q.m) o).node == (want.grown q).0.directory.node) ≡ false
  other_l o at =
      let there = Contains-permutation ((l q).object ∷ it q ∷ rest.0) (objects_of q.listings) o (IsPermutation-sym (objects_of q.listings) ((l q).object ∷ it q ∷ rest.0) beside)
      (contains_later (l q).object o (it q ∷ rest.0) (contains_later (it q) o rest.0 at)) in
      let has = q.seen.held.each o there in
      ap (λ (x : Option ℕ). unwrap_or x 0 == (want.grown q).0.directory.node) has.at_path
      ∙ dirs_same q.nodes o.path (l q).object.path has.number (want.grown q).0.directory.node has.at_path (walk.number q)
      ∙ unless (is_same_path o.path (l q).object.path)
      (λ same. clash (is_same_path (l q).object.path o.path) (same_by_folds (l q).object.path o.path (sym (folds_alike o.path (l q).object.path same)))
      (alone (layout q) q.listings (l q).object o (it q ∷ rest.0) q.seen.sound beside (contains_later (it q) o rest.0 at)))
