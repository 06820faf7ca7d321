-- `save`, `create` and `cdir` in a directory that grows, by the laws of growth.
use Rattle.std.proofs.Common.{◌≡◌, List, [], ◌++◌, map, refl, sym, ap, subst, ◌∙◌}
use Rattle.std.proofs.lemmas.List.{append-nil}
use Rattle.fc_alloc.specs.declared.owner.Owner.{Owner}
use Rattle.fc_image.specs.Layout.{Layout}
use Rattle.fc_image.specs.Walk.{Listing, Object}
use Rattle.fc_laws.specs.nodes.Edits.{Nodes, OwnersEdited, owners_with}
use Rattle.fc_laws.specs.nodes.Laws.{IsHeld}
use Rattle.fc_laws.proofs.lemmas.agree.BeforeLemmas.{sound}
use Rattle.fc_edits.specs.Addition.{Addition, Comes, edit, leaves}
use Rattle.fc_edits.specs.Edit.{owners_in, owners_joined, owners_left}
use Rattle.fc_edits.specs.Growing.{EditGrowing, Growing, IsGrowing, at_place, up_of}
use Rattle.fc_edits.specs.GrownAddition.{GrownAdditionLaw, NewGrownAddition}
use Rattle.fc_edits.specs.GrownPlaces.{GrownPlacing, NewGrowing}
use Rattle.fc_edits.proofs.lemmas.AdditionLemmas.{can_new, comes_edit, comes_numbers}
use Rattle.fc_edits.proofs.lemmas.GrowingLawLemmas as law
use Rattle.fc_edits.proofs.lemmas.GrownPlacingLemmas as gp
use Rattle.fc_edits.proofs.lemmas.GrownPlaceLemmas.{grown_places, grown_places_law}

-- ---- the edit

abbrev pub with_it : (nodes : Nodes) (layout : Layout) (listings : List Listing) (c : Addition) (g : Growing) → IsHeld nodes layout listings → Comes nodes layout listings c → c.over ≡ []
    → IsGrowing nodes layout (edit c) g → EditGrowing
with_it nodes layout listings c g h d none grows = record {
  nodes = nodes;
  layout = layout;
  listings = listings;
  edit = edit c;
  growing = g;
  held = h;
  is_edit = comes_edit nodes layout listings c h d;
  has_numbers = comes_numbers nodes layout listings c h d none;
  grows = grows;
}

-- the owners after it
module _ (x : NewGrownAddition) where
  pub owners_now : OwnersEdited x.owners x.owners' (owners_with (Layout.New x.m) (up_of x.growing.holder) x.growing.dir x.growing.o ++ owners_left (Layout.New x.m) (edit x.c))
      (owners_with (Layout.New x.m') (up_of x.growing.holder) x.growing.dir (at_place x.growing x.growing.o) ++ owners_joined (Layout.New x.m') (edit x.c))
  owners_now =
      let was = owners_with (Layout.New x.m) (up_of x.growing.holder) x.growing.dir x.growing.o in
      let its = owners_with (Layout.New x.m') (up_of x.growing.holder) x.growing.dir (at_place x.growing x.growing.o) in
      let new = owners_with (Layout.New x.m') x.c.dir x.c.number x.c.o in
      let none : owners_left (Layout.New x.m) (edit x.c) ≡ [] =
      append-nil (owners_in (Layout.New x.m) x.c.dir (leaves x.c)) ∙ ap (λ (os : List Object). owners_in (Layout.New x.m) x.c.dir (map (λ (p : Object). (x.c.number, p)) os)) x.new in
      let one : owners_joined (Layout.New x.m') (edit x.c) ≡ new = append-nil (new ++ []) ∙ append-nil new in
      subst (λ (ws : List Owner). OwnersEdited x.owners x.owners' (was ++ ws) (its ++ owners_joined (Layout.New x.m') (edit x.c))) (sym none)
      (subst (λ (ws : List Owner). OwnersEdited x.owners x.owners' ws (its ++ owners_joined (Layout.New x.m') (edit x.c))) (sym (append-nil was))
      (subst (λ (ws : List Owner). OwnersEdited x.owners x.owners' was (its ++ ws)) (sym one) x.owners_edited))

-- ---- its places

abbrev pub placing : NewGrownAddition → GrownPlacing
placing x =
    let h : IsHeld x.nodes (Layout.New x.m) x.listings = record { sound = sound x.kind x.m x.nodes x.owners x.root x.listings x.agreed; held = x.agreed.walked.held } in
    record {
      kind = x.kind;
      m = x.m;
      m' = x.m';
      nodes = x.nodes;
      nodes' = x.nodes';
      owners = x.owners;
      owners' = x.owners';
      root = x.root;
      listings = x.listings;
      edit = edit x.c;
      growing = x.growing;
      number = x.c.number;
      o = x.c.o;
      id = x.id;
      parts = x.parts;
      own = x.own;
      gone = x.gone;
      near = x.near;
      agreed = x.agreed;
      is_edit = comes_edit x.nodes (Layout.New x.m) x.listings x.c h x.comes;
      has_numbers = comes_numbers x.nodes (Layout.New x.m) x.listings x.c h x.comes x.new;
      grows = x.grows;
      can = can_new (Layout.New x.m) x.c x.comes.alone;
      nodes_edited = x.nodes_edited;
      owners_edited = owners_now x;
      joins = refl;
      is_map = x.is_map;
      geometry = x.geometry;
      space = x.space;
      gives = x.gives;
      some = x.some;
      lies = x.lies;
      grown_at = x.grown_at;
      at = x.at;
      place = x.place;
    }

abbrev pub as_growing : NewGrownAddition → NewGrowing
as_growing x = gp.as_growing (placing x)

pub grown_addition_law : GrownAdditionLaw
grown_addition_law = record {
  is_edit = λ nodes layout listings c g h d none grows. law.is_edit (with_it nodes layout listings c g h d none grows);
  nodes = λ nodes layout listings c g h d none grows. law.are_edited (with_it nodes layout listings c g h d none grows);
  new_places = λ x. grown_places (as_growing x);
  new = λ x. grown_places_law.agree (as_growing x);
}
