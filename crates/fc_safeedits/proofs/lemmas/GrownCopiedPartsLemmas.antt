-- `rename` that copies its file into a directory that grows by it, in the safe mode, in memory.
use Rattle.std.proofs.Common.{◌≡◌, ◌⊎◌, inr, ℕ, true, false, [], ◌∷◌, sym, subst}
use Rattle.std.specs.Prelude.{Contains}
use Rattle.fc_names.specs.Names.{is_same_path}
use Rattle.fc_image.specs.Layout.{Layout, id_of}
use Rattle.fc_image.specs.Walk.{Object}
use Rattle.fc_image.specs.Edits.{IsAt}
use Rattle.fc_tree.proofs.MemberLemmas.{contains_here, no_element}
use Rattle.fc_changes.proofs.BasicLemmas.{clash}
use Rattle.fc_laws.proofs.lemmas.nodes.OtherLemmas.{unlike}
use Rattle.fc_edits.specs.Copying.{copied, edit}
use Rattle.fc_edits.specs.GrownPlaces.{KeepsPlaceOf}
use Rattle.fc_edits.specs.NewPlaces.{LiesAgain}
use Rattle.fc_edits.proofs.lemmas.CopiesLemmas as memory
use Rattle.fc_edits.proofs.lemmas.GrownMemberLemmas as members
use Rattle.fc_edits.proofs.lemmas.ShapeLemmas.{of_one}
use Rattle.fc_safelaws.specs.Relaid.{Reaches}
use Rattle.fc_safeedits.specs.Relocation.{is_moved}
use Rattle.fc_safeedits.specs.SafeChange.{MovedParts, moves_in}
use Rattle.fc_safeedits.proofs.lemmas.SafeChangeLemmas.{held}
use Rattle.fc_safeedits.proofs.lemmas.GrowingPlacesLemmas as p_
use Rattle.fc_safeedits.proofs.lemmas.GrowingPlacesLemmas.{SafeGrowing}
use Rattle.fc_safeedits.specs.SafeGrownCopying.{GrownCopiedParts}

module _ (x : MovedParts) (d : GrownCopiedParts x) where
  pub never : {A : Type 0} → is_moved (moves_in x) (copied d.c d.c.o) ≡ true → A
  never m = absurd (clash (is_moved (moves_in x) (copied d.c d.c.o)) m d.elsewhere)

  abbrev pub grows : SafeGrowing x
  grows = record {
    edit = edit d.c;
    growing = d.growing;
    is_edit = memory.is_edit x.nodes (Layout.New x.m) x.listings d.c (held x) d.copies;
    has_numbers = memory.has_numbers x.nodes (Layout.New x.m) x.listings d.c (held x) d.copies;
    grows = d.grows;
    can = memory.can_new x.nodes (Layout.New x.m) x.listings d.c (held x) d.copies;
    nodes_edited = d.nodes_edited;
    owners_edited = d.owners_edited;
    gives = d.gives;
    some = d.some;
    lies_grown = d.lies_grown;
    elsewhere = λ q at. absurd (no_element q at);
    inside = of_one (λ (q : ℕ × Object). is_moved (moves_in x) q.1 ≡ true → IsAt (Layout.New x.m) q.1 × Reaches x.m' q.1) (d.c.number, copied d.c d.c.o) (λ m. never m);
    placed = of_one (λ (q : ℕ × Object). is_moved (moves_in x) q.1 ≡ false → IsAt (Layout.New x.m') q.1) (d.c.number, copied d.c d.c.o) (λ stays. d.at);
    lie = of_one (λ (q : ℕ × Object). LiesAgain x.m x.nodes x.listings (edit d.c) q.1) (d.c.number, copied d.c d.c.o) d.lies;
    pairs = ((λ q none. absurd (no_element q none)), tt);
    apart = of_one (λ (q : ℕ × Object). KeepsPlaceOf (edit d.c) q.1 ⊎ (id_of q.1.entry.address ≡ id_of d.growing.address → ⊥)) (d.c.number, copied d.c d.c.o) (inr d.other);
    reaches = d.reaches;
  }

  -- the file isn't the directory that grows
  pub o_other : is_same_path d.growing.o.path d.c.o.path ≡ false
  o_other =
      unlike x.nodes d.growing.o.path d.c.o.path d.growing.dir d.c.number d.grows.dir_is d.copies.number_is
      (λ same. members.dir_stays (p_.eg x grows) (subst (Contains (d.c.number ∷ [])) (sym same) (contains_here d.c.number [])))
