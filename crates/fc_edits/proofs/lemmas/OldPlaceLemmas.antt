-- Places on an old map after an edit.
use Rattle.std.proofs.Common.{◌≡◌, inl, inr, ⊎_elim, ℕ, true, List, refl, sym, ap, subst, ◌∙◌}
use Rattle.std.specs.Prelude.{Ok, Err, Contains}
use Rattle.fc_record.specs.declared.Kind.{Kind}
use Rattle.fc_newmap.proofs.PlaceLemmas.{in_back, in_either, in_front}
use Rattle.fc_oldmap.specs.declared.Hole.{Hole}
use Rattle.fc_oldmap.specs.OldMap.{OldMapContent}
use Rattle.fc_alloc.specs.declared.owner.Owner.{Owner}
use Rattle.fc_image.specs.Layout.{Layout, hole_sectors, is_among, is_apart, map_place}
use Rattle.fc_image.specs.Walk.{Listing, Object}
use Rattle.fc_image.specs.Objects.{objects_of}
use Rattle.fc_image.specs.Opening.{reserved_in}
use Rattle.fc_image.specs.Edits.{Apart}
use Rattle.fc_image.proofs.HolesLemmas.{apart_at, apart_from}
use Rattle.fc_image.proofs.OldEditLemmas.{old_places_law}
use Rattle.fc_tree.specs.declared.node.Node.{Node}
use Rattle.fc_changes.proofs.BasicLemmas.{clash}
use Rattle.fc_changes.specs.old.Owed.{holding}
use Rattle.fc_changes.proofs.lemmas.old.PlaceLemmas.{apart_again}
use Rattle.fc_laws.specs.nodes.Edits.{Nodes}
use Rattle.fc_laws.specs.nodes.Laws.{IsHeld}
use Rattle.fc_laws.proofs.lemmas.agree.WalkedLemmas as on_any
use Rattle.fc_laws.specs.old.agree.Laws.{AgreeOn}
use Rattle.fc_laws.proofs.lemmas.old.agree.BeforeLemmas.{sound}
use Rattle.fc_laws.proofs.lemmas.old.agree.RoomLemmas.{room}
use Rattle.fc_edits.specs.Edit.{Edit, IsEdit}
use Rattle.fc_edits.specs.OldPlaces.{OldLiesAgain, OldPlaces, OldPlacesLaw, with_holes}
use Rattle.fc_edits.specs.Places.{Stays, WalkFits}
use Rattle.fc_edits.proofs.lemmas.LeavingLemmas.{left_among, left_apart}

module _ (kind : Kind) (space : OldMapContent) (holes : List Hole) (nodes : Nodes) (owners : List Owner) (root : Node) (listings : List Listing) (e : Edit)
    (a : AgreeOn kind space nodes owners root listings) (is : IsEdit nodes listings e) (op : OldPlaces space holes e) where
  abbrev y : Layout
  y = Layout.Old space

  abbrev y' : Layout
  y' = with_holes space holes

  abbrev reserved : List ℕ
  reserved = reserved_in kind y

  h : IsHeld nodes y listings
  h = record { sound = sound kind space nodes owners root listings a; held = a.walked.held }

  all_apart : Apart reserved (objects_of listings)
  all_apart = let was = on_any.had kind y nodes root listings a.walked in subst (Apart reserved) (sym was.objects) was.apart

  lies : (o : Object) → Contains (objects_of listings) o → is_apart o.sectors reserved ≡ true
  lies o at = (on_any.object_lies kind y nodes root listings a.walked o at).apart

  off_map : (o : Object) → Contains (objects_of listings) o → (s : ℕ) → is_among o.sectors s ≡ true → is_among (map_place y) s ≡ true → ⊥
  off_map o at s i j = clash (is_among reserved s) (in_front (map_place y) (hole_sectors y) s j) (apart_at o.sectors reserved s (lies o at) i)

  no_hole : (o : Object) → Contains (objects_of listings) o → (s : ℕ) → is_among o.sectors s ≡ true → is_among (hole_sectors y) s ≡ true → ⊥
  no_hole o at s i j = clash (is_among reserved s) (in_back (map_place y) (hole_sectors y) s j) (apart_at o.sectors reserved s (lies o at) i)

  -- what isn't the map's and in no hole of the new map is apart from what is reserved
  now_free : (sectors : List ℕ) → ((s : ℕ) → is_among sectors s ≡ true → is_among (map_place y) s ≡ true → ⊥) → ((s : ℕ) → is_among sectors s ≡ true → is_among (hole_sectors y') s ≡ true → ⊥)
      → is_apart sectors (reserved_in kind y') ≡ true
  now_free sectors not_map not_hole =
      apart_from sectors (reserved_in kind y')
      (λ s i j. elim (in_either (map_place y') (hole_sectors y') s j) [ Ok first ↦ not_map s i first | Err second ↦ not_hole s i second ])

  stays_free : (o : Object) → Stays nodes listings e o → is_apart o.sectors (reserved_in kind y') ≡ true
  stays_free o s =
      now_free o.sectors (off_map o s.among)
      (λ t i j.
      ⊎_elim (λ was. no_hole o s.among t i was)
      (λ q. clash (is_among o.sectors t) i (apart_at q.0.1.sectors o.sectors t (left_apart nodes y listings e h is reserved all_apart q.0 o q.1 s) q.2)) (op.left t j))

  joins_off_map : (o : Object) → OldLiesAgain space e o → (s : ℕ) → is_among o.sectors s ≡ true → is_among (map_place y) s ≡ true → ⊥
  joins_off_map o (inl q) s i j = off_map q.0.1 (left_among nodes y listings e h is q.0 q.1) s (subst (λ (ss : List ℕ). is_among ss s ≡ true) q.2.sectors i) j
  joins_off_map o (inr new) s i j = clash (is_among (map_place y) s) j (new s i).1

  joins_apart : (o p : Object) → OldLiesAgain space e o → Stays nodes listings e p → is_apart o.sectors p.sectors ≡ true
  joins_apart o p (inl q) s = ap (λ (ss : List ℕ). is_apart ss p.sectors) q.2.sectors ∙ left_apart nodes y listings e h is reserved all_apart q.0 p q.1 s
  joins_apart o p (inr new) s = apart_from o.sectors p.sectors (λ t i j. no_hole p s.among t j (new t i).0)

  pub old_fit : WalkFits kind y y' nodes listings e
  old_fit = record {
    form = refl;
    disc = refl;
    room = room kind space nodes owners root listings a;
    keeps = λ o s. old_places_law space (holding space holes) o refl refl (on_any.object_lies kind y nodes root listings a.walked o s.among).placed;
    placed = λ p at. old_places_law space (holding space holes) p.1 refl refl (op.placed p at);
    free = λ p at. now_free p.1.sectors (joins_off_map p.1 (op.lies p at)) (λ s i j. clash (is_among (hole_sectors y') s) j (op.free p at s i));
    apart = λ p o at s. joins_apart p.1 o (op.lies p at) s;
    pairs = op.pairs;
    reserved = λ os each was. apart_again reserved (reserved_in kind y') os (λ o at free. stays_free o (each o at)) was;
  }

pub old_places_of : OldPlacesLaw
old_places_of kind space holes nodes owners root listings e a is op = old_fit kind space holes nodes owners root listings e a is op
