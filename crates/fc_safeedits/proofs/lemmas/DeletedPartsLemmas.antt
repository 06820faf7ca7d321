-- `delete` in the safe mode, in memory.
use Rattle.std.proofs.Common.{refl}
use Rattle.fc_image.specs.Layout.{Layout}
use Rattle.fc_tree.specs.Agree.{Agree}
use Rattle.fc_tree.proofs.MemberLemmas.{no_element}
use Rattle.fc_laws.specs.nodes.Laws.{IsHeld}
use Rattle.fc_laws.specs.agree.Agreed.{parts_with}
use Rattle.fc_laws.proofs.lemmas.agree.BeforeLemmas.{agreed_law}
use Rattle.fc_edits.specs.Deletion.{Deletion, edit}
use Rattle.fc_edits.proofs.lemmas.DeletionLemmas as memory
use Rattle.fc_safeedits.specs.Relocation.{Relocation}
use Rattle.fc_safeedits.specs.SafeChange.{MovedParts, moves_in}
use Rattle.fc_safeedits.specs.SafeDeletion.{DeletedParts}
use Rattle.fc_safeedits.specs.SafeParts.{SafeParts}
use Rattle.fc_safeedits.specs.SafePlaces.{SafePlaces}
use Rattle.fc_safeedits.proofs.lemmas.SafeChangeLemmas.{held}
use Rattle.fc_safeedits.proofs.lemmas.SafePartsLemmas.{safe_parts_law}

module _ (x : MovedParts) (d : DeletedParts x) where
  abbrev c : Deletion
  c = d.c

  abbrev y : Layout
  y = Layout.New x.m

  abbrev y' : Layout
  y' = Layout.New x.m'

  pub h : IsHeld x.nodes y x.listings
  h = held x

  abbrev pub move : Relocation
  move = record {
    nodes = x.nodes;
    nodes' = x.nodes';
    m = x.m;
    m' = x.m';
    listings = x.listings;
    edit = edit c;
    moves = moves_in x;
    top = x.top;
    held = h;
    is_edit = memory.is_edit x.nodes y x.listings c h d.deletion;
    nodes_edited = d.nodes_edited;
    top_in = x.top_in;
    top_path = x.top_path;
    elsewhere = λ p at. absurd (no_element p at);
  }

  pub places : SafePlaces move x.takings x.gone
  places = record {
    moves = refl;
    is_map = x.is_map;
    geometry = x.geometry;
    space = x.space;
    gives = d.gives;
    movable = x.movable;
    inside = λ p at. absurd (no_element p at);
    placed = λ p at. absurd (no_element p at);
    reach_staying = d.reaches;
    lies = λ p at. absurd (no_element p at);
    pairs = tt;
  }

  abbrev pub parts : SafeParts
  parts = record {
    kind = x.kind;
    move = move;
    owners = x.owners;
    owners' = x.owners';
    root = x.root;
    takings = x.takings;
    gone = x.gone;
    agreed = x.agreed;
    can = memory.can_say x.nodes y x.listings c d.deletion;
    owners_edited = memory.owners_as y y' x.owners x.owners' c d.owners_edited;
    places = places;
  }

  pub agrees' : Agree x.kind (parts_with x.m' x.nodes' x.owners')
  agrees' = let now = safe_parts_law parts in agreed_law.agree x.kind x.m' x.nodes' x.owners' now.root now.found now.agree
