-- The parts of a volume agree after an edit, on a new map and on an old one.
use Rattle.std.proofs.Common.{◌≡◌, ◌<◌, ⊎_elim, ℕ, Bool, true, false, cond, List, [], ◌++◌, length, map, refl, sym, ap, ap₂, subst, ◌∙◌, arith, ◌-◌, ◌*◌, ◌/◌}
use Rattle.std.specs.Prelude.{Contains, nat_le, nat_lt, ◌==◌, ◌||◌, ◌&&◌}
use Rattle.std.specs.List.{list_any}
use Rattle.std.proofs.lemmas.Bool.{leb-true, or_right as or_second, false_from_ne_true as unless}
use Rattle.std.proofs.lemmas.List.Elements.{Contains-append_cases}
use Rattle.fc_names.specs.declared.name.NameForm.{NameForm}
use Rattle.fc_names.specs.declared.name.NameForm.TheVariants.{Long, Ten}
use Rattle.fc_record.specs.declared.Geometry.{Geometry}
use Rattle.fc_record.specs.declared.Kind.{Kind}
use Rattle.fc_newmap.specs.Map.{Map, id_runs, is_used, map_sectors}
use Rattle.fc_dirs.specs.declared.Entry.{Entry}
use Rattle.fc_alloc.specs.declared.owner.Owner.{Owner}
use Rattle.fc_image.specs.Layout.{Layout, id_of, is_apart}
use Rattle.fc_image.specs.Walk.{Object, Listing}
use Rattle.fc_image.specs.Objects.{is_movable, is_owned, is_owner_of, objects_of}
use Rattle.fc_image.specs.Opening.{boot_place, reserved_in}
use Rattle.fc_image.specs.Edits.{Apart}
use Rattle.fc_image.proofs.MapEditLemmas.{places_law}
use Rattle.fc_tree.specs.declared.node.Node.{Node}
use Rattle.fc_tree.proofs.MemberLemmas.{from_map}
use Rattle.fc_changes.proofs.BasicLemmas.{any_in, clash, in_any, or_cases}
use Rattle.fc_laws.specs.nodes.Edits.{Nodes}
use Rattle.fc_laws.specs.nodes.Laws.{IsOwned}
use Rattle.fc_laws.proofs.lemmas.nodes.ListLemmas.{in_first}
use Rattle.fc_laws.proofs.lemmas.agree.BeforeLemmas.{object_lies}
use Rattle.fc_laws.proofs.lemmas.agree.RoomLemmas.{room}
use Rattle.fc_laws.proofs.lemmas.agree.EditLemmas.{clear_of, misplaced_shuffled}
use Rattle.fc_edits.specs.PartsEdit.{AgreeLaw, NewPartsEdit, PartsEdit, old_parts}
use Rattle.fc_edits.specs.Places.{AgreeNow, PlacesFit, WalkFits}
use Rattle.fc_edits.specs.Edit.{Edit, IsEdit, joining, listings_after, objects}
use Rattle.fc_edits.proofs.lemmas.FollowLemmas.{nodes_follow}
use Rattle.fc_edits.proofs.lemmas.OwnerLemmas.{owners_follow}
use Rattle.fc_edits.proofs.lemmas.AgreeLemmas.{Cut, all_now, cut, walk_now}

-- ---- on a new map

module _ (we : NewPartsEdit) where
  abbrev kind : Kind
  kind = we.kind

  abbrev m : Map
  m = we.m

  abbrev m' : Map
  m' = we.m'

  abbrev nodes : Nodes
  nodes = we.nodes

  abbrev nodes' : Nodes
  nodes' = we.nodes'

  abbrev owners : List Owner
  owners = we.owners

  abbrev owners' : List Owner
  owners' = we.owners'

  abbrev root : Node
  root = we.root

  abbrev listings : List Listing
  listings = we.listings

  abbrev e : Edit
  e = we.edit

  abbrev is : IsEdit nodes listings e
  is = we.is_edit

  abbrev fit : PlacesFit kind m m' nodes listings e
  fit = we.fit

  pub reserved_same : reserved_in kind (Layout.New m') ≡ reserved_in kind (Layout.New m)
  reserved_same = ap (λ (y : Geometry). map_sectors y ++ boot_place kind y.sector) fit.geometry

  abbrev pub owned : IsOwned owners nodes (Layout.New m) (Layout.New m') listings
  owned = record { owned = we.agreed.owned; first = λ low. ap (λ (y : Geometry). (low - 1) * (y.share / y.sector)) fit.geometry }

  pub walk_fits : WalkFits kind (Layout.New m) (Layout.New m') nodes listings e
  walk_fits = record {
    form = ap (λ (y : Geometry). let f : NameForm = cond (y.version == 0) Ten Long in f) fit.geometry;
    disc = ap (λ (y : Geometry). y.disc_bits * y.bit_bytes / y.sector) fit.geometry;
    room = room kind m nodes owners root listings we.agreed;
    keeps = λ o s. places_law m m' o fit.geometry (fit.keeps o s) (object_lies kind m nodes owners root listings we.agreed o s.among).placed;
    placed = fit.placed;
    free = λ p at. subst (λ (ss : List ℕ). is_apart p.1.sectors ss ≡ true) (sym reserved_same) (fit.free p at);
    apart = fit.apart;
    pairs = fit.pairs;
    reserved = λ os each apart. subst (λ (ss : List ℕ). Apart ss os) (sym reserved_same) apart;
  }

  -- the edit, on any map
  abbrev pub held_edit : PartsEdit
  held_edit = record {
    kind = kind;
    layout = Layout.New m;
    layout' = Layout.New m';
    nodes = nodes;
    nodes' = nodes';
    owners = owners;
    owners' = owners';
    root = root;
    listings = listings;
    edit = e;
    walked = we.agreed.walked;
    root_is = we.agreed.root_is;
    owned = owned;
    is_edit = is;
    nodes_edited = we.nodes_edited;
    fit = walk_fits;
    can = we.can;
    owners_edited = we.owners_edited;
  }

  abbrev pub all : List Object
  all = all_now held_edit

  abbrev pub parted : Cut held_edit
  parted = cut held_edit

  -- what isn't movable stays so
  pub fixed_now : (k : ℕ) → is_movable (objects_of listings) k ≡ false → is_used m k ≡ true → (id_runs m' k ≡ id_runs m k) × (is_movable all k ≡ false)
  fixed_now k still' used = (stuck.0, by (nat_le 3 k) refl)
    where
      stuck : (id_runs m' k ≡ id_runs m k) × ((p : ℕ × Object) → Contains (joining e) p → is_owner_of k p.1 ≡ true → k < 3)
      stuck = fit.fixed k still' used

      and_false : (b : Bool) → (b && false) ≡ false
      and_false true = refl
      and_false false = refl

      owned_not : nat_le 3 k ≡ true → is_owned (objects_of listings) k ≡ false
      owned_not high = unless (is_owned (objects_of listings) k) (λ own. clash (is_movable (objects_of listings) k) (ap₂ (λ (x y : Bool). x && y) own high) still')

      none : nat_le 3 k ≡ true → is_owned all k ≡ true → ⊥
      none high own =
          or_cases (k == 2) (list_any (is_owner_of k) all) own
          (λ two. clash (is_owned (objects_of listings) k) (ap (λ (b : Bool). b || list_any (is_owner_of k) (objects_of listings)) two) (owned_not high))
          (λ any.
          let p = in_any (is_owner_of k) all any in
          let c = parted in
          ⊎_elim
          (λ joins.
          let q = from_map (λ (x : ℕ × Object). x.1) (joining e) p.0 joins in
          let low = stuck.1 q.0 q.1 (ap (is_owner_of k) q.2 ∙ p.2) in
          absurd (let three = leb-true 3 k high in omega (arith, low, three)))
          (λ stays.
          let q = from_map e.turn c.stays p.0 stays in
          let s = c.each q.0 q.1 in
          let kept' = is.keeps q.0 s.number s.among s.number_is s.stays in
          let same : is_owner_of k q.0 ≡ true =
          ap₂ (λ (ss : List ℕ) (x : Entry). nat_lt 0 (length ss) && (id_of x.address == k)) (sym kept'.sectors) (sym kept'.entry) ∙ ap (is_owner_of k) q.2 ∙ p.2 in
          clash (is_owned (objects_of listings) k) (or_second (k == 2) (list_any (is_owner_of k) (objects_of listings)) (any_in (is_owner_of k) (objects_of listings) q.0 s.among same)) (owned_not high))
          (Contains-append_cases (objects (joining e)) (map e.turn c.stays) p.0 (in_first (objects (joining e) ++ map e.turn c.stays) all c.after p.0 p.1)))

      by : (b : Bool) → nat_le 3 k ≡ b → is_movable all k ≡ false
      by false low = ap (λ (b : Bool). is_owned all k && b) low ∙ and_false (is_owned all k)
      by true high = ap (λ (b : Bool). b && nat_le 3 k) (unless (is_owned all k) (λ own. none high own))

  pub agree_now : AgreeNow kind m' nodes' owners' (listings_after e)
  agree_now =
      let w = walk_now held_edit in
      let clear = clear_of kind m m' nodes nodes' owners owners' root listings (listings_after e) we.agreed e.turn (objects e.gone) (objects e.come) [] fit.is_map fit.geometry all fixed_now in
      record {
        root = w.0;
        found = w.1;
        agree = record {
          is_map = fit.is_map;
          root_is = w.2;
          walked = w.3;
          map_placed = misplaced_shuffled kind m' (objects_of w.1) all w.6 ∙ clear;
          owned = w.4;
        };
        order = w.5;
      }

pub agree_law : AgreeLaw
agree_law = record {
  viewed = λ x layout' owners owners' kind found owned edited sound' same. record {
    layout = refl;
    nodes = (nodes_follow x).hold layout' found sound' same;
    owners = owners_follow x layout' owners owners' owned edited found sound' same;
  };
  any = λ x. (let w = walk_now x in record { root = w.0; root_is = w.2; found = w.1; walked = w.3; owned = w.4; order = w.5 });
  agree = λ x. agree_now x;
  old = λ x. (let w = walk_now (old_parts x) in
      record {
        root = w.0;
        found = w.1;
        agree = record { is_map = x.is_map; holes = x.in_order; root_is = w.2; walked = w.3; owned = w.4 };
        order = w.5;
      });
}
