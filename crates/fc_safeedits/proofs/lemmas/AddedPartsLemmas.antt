-- `save`, `create` and `cdir` in the safe mode, in memory.
use Rattle.std.proofs.Common.{◌≡◌, ◌⊎◌, ℕ, true, false, refl}
use Rattle.fc_image.specs.Layout.{Layout}
use Rattle.fc_image.specs.Walk.{Object}
use Rattle.fc_image.specs.Edits.{IsAt}
use Rattle.fc_tree.specs.Agree.{Agree}
use Rattle.fc_tree.proofs.MemberLemmas.{no_element}
use Rattle.fc_changes.proofs.BasicLemmas.{clash}
use Rattle.fc_laws.specs.nodes.Laws.{IsHeld}
use Rattle.fc_laws.specs.agree.Agreed.{parts_with}
use Rattle.fc_laws.proofs.lemmas.agree.BeforeLemmas.{agreed_law}
use Rattle.fc_edits.specs.Addition.{Addition, edit}
use Rattle.fc_edits.specs.NewPlaces.{LiesAgain}
use Rattle.fc_edits.proofs.lemmas.AdditionLemmas as memory
use Rattle.fc_edits.proofs.lemmas.ShapeLemmas.{of_one}
use Rattle.fc_safeedits.specs.Relocation.{Relocation, is_moved}
use Rattle.fc_safeedits.specs.SafeChange.{MovedParts, moves_in}
use Rattle.fc_safeedits.specs.SafeParts.{SafeParts}
use Rattle.fc_safeedits.specs.SafePlaces.{LiesAlone, LiesInside, SafePlaces}
use Rattle.fc_safeedits.proofs.lemmas.SafeChangeLemmas.{held}
use Rattle.fc_safeedits.proofs.lemmas.SafePartsLemmas.{safe_parts_law}
use Rattle.fc_safeedits.specs.SafeAddition.{AddedParts}

module _ (x : MovedParts) (d : AddedParts x) where
  abbrev c : Addition
  c = d.c

  abbrev y : Layout
  y = Layout.New x.m

  abbrev y' : Layout
  y' = Layout.New x.m'

  pub h : IsHeld x.nodes y x.listings
  h = held x

  abbrev pub move : Relocation
  move = record {
    nodes = x.nodes;
    nodes' = x.nodes';
    m = x.m;
    m' = x.m';
    listings = x.listings;
    edit = edit c;
    moves = moves_in x;
    top = x.top;
    held = h;
    is_edit = memory.is_edit x.nodes y x.listings c h d.addition;
    nodes_edited = d.nodes_edited;
    top_in = x.top_in;
    top_path = x.top_path;
    elsewhere = of_one (λ (p : ℕ × Object). is_moved (moves_in x) p.1 ≡ false) (c.number, c.o) d.elsewhere;
  }

  never : {A : Type 0} → is_moved (moves_in x) c.o ≡ true → A
  never m = absurd (clash (is_moved (moves_in x) c.o) m d.elsewhere)

  pub places : SafePlaces move x.takings x.gone
  places = record {
    moves = refl;
    is_map = x.is_map;
    geometry = x.geometry;
    space = x.space;
    gives = d.gives;
    movable = x.movable;
    inside = of_one (λ (p : ℕ × Object). is_moved (moves_in x) p.1 ≡ true → LiesInside move p.1 ⊎ LiesAlone move p.1) (c.number, c.o) (λ m. never m);
    placed = of_one (λ (p : ℕ × Object). is_moved (moves_in x) p.1 ≡ false → IsAt y' p.1) (c.number, c.o) (λ still. d.at);
    reach_staying = d.reaches;
    lies = of_one (λ (p : ℕ × Object). LiesAgain x.m x.nodes x.listings (edit c) p.1) (c.number, c.o) d.lies;
    pairs = ((λ p none. absurd (no_element p none)), tt);
  }

  abbrev pub parts : SafeParts
  parts = record {
    kind = x.kind;
    move = move;
    owners = x.owners;
    owners' = x.owners';
    root = x.root;
    takings = x.takings;
    gone = x.gone;
    agreed = x.agreed;
    can = memory.can_say x.nodes y x.listings c d.addition;
    owners_edited = memory.owners_as y y' x.owners x.owners' c d.owners_edited;
    places = places;
  }

  pub agrees' : Agree x.kind (parts_with x.m' x.nodes' x.owners')
  agrees' = let now = safe_parts_law parts in agreed_law.agree x.kind x.m' x.nodes' x.owners' now.root now.found now.agree
