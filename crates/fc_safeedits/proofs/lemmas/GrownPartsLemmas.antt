-- `save`, `create` and `cdir` in a directory that grows, in the safe mode, in memory.
use Rattle.std.proofs.Common.{◌≡◌, ◌⊎◌, inr, ℕ, true, false, List, [], ◌++◌, map, sym, ap, subst, ◌∙◌}
use Rattle.std.specs.Prelude.{Contains}
use Rattle.std.proofs.lemmas.List.{append-nil}
use Rattle.fc_alloc.specs.declared.owner.Owner.{Owner}
use Rattle.fc_image.specs.Layout.{Layout, id_of}
use Rattle.fc_image.specs.Walk.{Object}
use Rattle.fc_image.specs.Edits.{IsAt}
use Rattle.fc_tree.proofs.MemberLemmas.{no_element}
use Rattle.fc_changes.proofs.BasicLemmas.{clash}
use Rattle.fc_laws.specs.nodes.Edits.{OwnersEdited, owners_with}
use Rattle.fc_laws.specs.nodes.Laws.{IsHeld}
use Rattle.fc_edits.specs.Addition.{Addition, edit, leaves}
use Rattle.fc_edits.specs.Edit.{joining, owners_in, owners_joined, owners_left}
use Rattle.fc_edits.specs.Growing.{Growing, at_place, up_of}
use Rattle.fc_edits.specs.GrownPlaces.{KeepsPlaceOf}
use Rattle.fc_edits.specs.NewPlaces.{LiesAgain}
use Rattle.fc_edits.proofs.lemmas.AdditionLemmas.{can_new, comes_edit, comes_numbers}
use Rattle.fc_edits.proofs.lemmas.ShapeLemmas.{of_one}
use Rattle.fc_safelaws.specs.Relaid.{Reaches}
use Rattle.fc_safeedits.specs.Relocation.{is_moved}
use Rattle.fc_safeedits.specs.SafeChange.{MovedParts, moves_in}
use Rattle.fc_safeedits.proofs.lemmas.SafeChangeLemmas.{held}
use Rattle.fc_safeedits.specs.SafeGrownAddition.{GrownAddedParts}
use Rattle.fc_safeedits.proofs.lemmas.GrowingPlacesLemmas.{SafeGrowing}

module _ (x : MovedParts) (d : GrownAddedParts x) where
  abbrev c : Addition
  c = d.c

  abbrev g : Growing
  g = d.growing

  abbrev y : Layout
  y = Layout.New x.m

  abbrev y' : Layout
  y' = Layout.New x.m'

  abbrev h : IsHeld x.nodes y x.listings
  h = held x

  pub never : {A : Type 0} → is_moved (moves_in x) c.o ≡ true → A
  never m = absurd (clash (is_moved (moves_in x) c.o) m d.elsewhere)

  pub owners_now : OwnersEdited x.owners x.owners' (owners_with y (up_of g.holder) g.dir g.o ++ owners_left y (edit c)) (owners_with y' (up_of g.holder) g.dir (at_place g g.o) ++ owners_joined y' (edit c))
  owners_now =
      let was = owners_with y (up_of g.holder) g.dir g.o in
      let now = owners_with y' (up_of g.holder) g.dir (at_place g g.o) in
      let new = owners_with y' c.dir c.number c.o in
      let none : owners_left y (edit c) ≡ [] =
      append-nil (owners_in y c.dir (leaves c)) ∙ ap (λ (os : List Object). owners_in y c.dir (map (λ (p : Object). (c.number, p)) os)) d.new in
      let one : owners_joined y' (edit c) ≡ new = append-nil (new ++ []) ∙ append-nil new in
      subst (λ (ws : List Owner). OwnersEdited x.owners x.owners' (was ++ ws) (now ++ owners_joined y' (edit c))) (sym none)
      (subst (λ (ws : List Owner). OwnersEdited x.owners x.owners' ws (now ++ owners_joined y' (edit c))) (sym (append-nil was))
      (subst (λ (ws : List Owner). OwnersEdited x.owners x.owners' was (now ++ ws)) (sym one) d.owners_edited))

  -- the object joins alone
  pub of_it : (P : ℕ × Object → Type 0) → P (c.number, c.o) → (p : ℕ × Object) → Contains (joining (edit c)) p → P p
  of_it P is p at = of_one P (c.number, c.o) is p at

  abbrev pub grows : SafeGrowing x
  grows = record {
    edit = edit d.c;
    growing = d.growing;
    is_edit = comes_edit x.nodes (Layout.New x.m) x.listings d.c (held x) d.comes;
    has_numbers = comes_numbers x.nodes (Layout.New x.m) x.listings d.c (held x) d.comes d.new;
    grows = d.grows;
    can = can_new (Layout.New x.m) d.c d.comes.alone;
    nodes_edited = d.nodes_edited;
    owners_edited = owners_now;
    gives = d.gives;
    some = d.some;
    lies_grown = d.lies_grown;
    elsewhere = of_it (λ (p : ℕ × Object). is_moved (moves_in x) p.1 ≡ false) d.elsewhere;
    inside = of_it (λ (p : ℕ × Object). is_moved (moves_in x) p.1 ≡ true → IsAt (Layout.New x.m) p.1 × Reaches x.m' p.1) never;
    placed = of_it (λ (p : ℕ × Object). is_moved (moves_in x) p.1 ≡ false → IsAt (Layout.New x.m') p.1) (λ still. d.at);
    lie = of_it (λ (p : ℕ × Object). LiesAgain x.m x.nodes x.listings (edit d.c) p.1) d.lies;
    pairs = ((λ p none. absurd (no_element p none)), tt);
    apart = of_it (λ (p : ℕ × Object). KeepsPlaceOf (edit d.c) p.1 ⊎ (id_of p.1.entry.address ≡ id_of d.growing.address → ⊥)) (inr d.other);
    reaches = d.reaches;
  }
