-- `rename` that copies its file into a directory that grows by it, by the laws of growth.
use Rattle.std.proofs.Common.{List, refl}
use Rattle.fc_image.specs.Layout.{Layout}
use Rattle.fc_image.specs.Walk.{Listing}
use Rattle.fc_laws.specs.nodes.Edits.{Nodes}
use Rattle.fc_laws.specs.nodes.Laws.{IsHeld}
use Rattle.fc_laws.proofs.lemmas.agree.BeforeLemmas.{sound}
use Rattle.fc_edits.specs.Copying.{Copies, Copying, copied, edit}
use Rattle.fc_edits.specs.Growing.{EditGrowing, Growing, IsGrowing}
use Rattle.fc_edits.specs.GrownCopying.{GrownCopyingLaw, NewGrownCopying}
use Rattle.fc_edits.specs.GrownPlaces.{GrownPlacing, NewGrowing}
use Rattle.fc_edits.proofs.lemmas.CopiesLemmas as c_
use Rattle.fc_edits.proofs.lemmas.GrowingLawLemmas as law
use Rattle.fc_edits.proofs.lemmas.GrownPlaceLemmas.{grown_places, grown_places_law}
use Rattle.fc_edits.proofs.lemmas.GrownPlacingLemmas as gp

abbrev pub with_it : (nodes : Nodes) (layout : Layout) (listings : List Listing) (c : Copying) (g : Growing) → IsHeld nodes layout listings → Copies nodes listings c
    → IsGrowing nodes layout (edit c) g → EditGrowing
with_it nodes layout listings c g h cs grows = record {
  nodes = nodes;
  layout = layout;
  listings = listings;
  edit = edit c;
  growing = g;
  held = h;
  is_edit = c_.is_edit nodes layout listings c h cs;
  has_numbers = c_.has_numbers nodes layout listings c h cs;
  grows = grows;
}

-- its places
abbrev pub placing : NewGrownCopying → GrownPlacing
placing x =
    let h : IsHeld x.nodes (Layout.New x.m) x.listings = record { sound = sound x.kind x.m x.nodes x.owners x.root x.listings x.agreed; held = x.agreed.walked.held } in
    record {
      kind = x.kind;
      m = x.m;
      m' = x.m';
      nodes = x.nodes;
      nodes' = x.nodes';
      owners = x.owners;
      owners' = x.owners';
      root = x.root;
      listings = x.listings;
      edit = edit x.c;
      growing = x.growing;
      number = x.c.number;
      o = copied x.c x.c.o;
      id = x.id;
      parts = x.parts;
      own = x.own;
      gone = x.gone;
      near = x.near;
      agreed = x.agreed;
      is_edit = c_.is_edit x.nodes (Layout.New x.m) x.listings x.c h x.copies;
      has_numbers = c_.has_numbers x.nodes (Layout.New x.m) x.listings x.c h x.copies;
      grows = x.grows;
      can = c_.can_new x.nodes (Layout.New x.m) x.listings x.c h x.copies;
      nodes_edited = x.nodes_edited;
      owners_edited = x.owners_edited;
      joins = refl;
      is_map = x.is_map;
      geometry = x.geometry;
      space = x.space;
      gives = x.gives;
      some = x.some;
      lies = x.lies;
      grown_at = x.grown_at;
      at = x.at;
      place = x.place;
    }

abbrev pub as_growing : NewGrownCopying → NewGrowing
as_growing x = gp.as_growing (placing x)

pub grown_copying_law : GrownCopyingLaw
grown_copying_law = record {
  is_edit = λ nodes layout listings c g h cs grows. law.is_edit (with_it nodes layout listings c g h cs grows);
  nodes = λ nodes layout listings c g h cs grows. law.are_edited (with_it nodes layout listings c g h cs grows);
  new_places = λ x. grown_places (as_growing x);
  new = λ x. grown_places_law.agree (as_growing x);
}
