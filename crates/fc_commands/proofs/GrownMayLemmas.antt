-- A directory that grows where it lies: its new sectors are its own or were no one's, and may be written at any moment.
use Rattle.std.proofs.Common.{◌≡◌, ◌<◌, ◌≤◌, ◌==◌, ◌&&◌, ◌⊎◌, inl, inr, ⊎_elim, ℕ, Bool, true, false, not, List, filter, refl, sym, ap, ap₂, subst, ◌∙◌, arith, eq-eqb, Option, Some, zero, suc}
use Rattle.std.specs.Prelude.{Contains, nat_le, nat_lt}
use Rattle.std.specs.Option.{option_map_or}
use Rattle.std.proofs.lemmas.Bool.{le-leb, leb-true}
use Rattle.fc_alloc.specs.declared.owner.Owner.{Owner}
use Rattle.fc_names.specs.Names.{is_same_path}
use Rattle.fc_record.specs.declared.Kind.{Kind}
use Rattle.fc_record.specs.Record.{id_limit}
use Rattle.fc_newmap.specs.Map.{Map, id_runs, map_sectors}
use Rattle.fc_newmap.proofs.PlaceLemmas.{holder_of, id_run_in, in_back}
use Rattle.fc_model.specs.Command.{Command}
use Rattle.fc_image.specs.Layout.{Layout, disc_sectors, id_of, is_among, is_apart, is_object_id, sectors_at}
use Rattle.fc_image.specs.Objects.{is_movable, is_owned, objects_of}
use Rattle.fc_image.specs.Opening.{Opened, boot_place, reserved_in}
use Rattle.fc_image.specs.Stays.{OpensAs}
use Rattle.fc_image.specs.Walk.{Listing, Object, is_directory_object}
use Rattle.fc_image.specs.effects.Short.{has_room, sectors_of_others}
use Rattle.fc_image.specs.effects.Steady.{may_be_rewritten}
use Rattle.fc_image.proofs.HolesLemmas.{apart_at, apart_from, in_id, loose_sectors, none_loose}
use Rattle.fc_changes.proofs.BasicLemmas.{clash}
use Rattle.fc_changes.proofs.OutsideLemmas.{AreBusy, owned_busy}
use Rattle.fc_laws.specs.nodes.Edits.{Nodes}
use Rattle.fc_laws.specs.agree.Agreed.{AgreeOn}
use Rattle.fc_laws.specs.takeover.Places.{MayBeWritten, OpensBy}
use Rattle.fc_laws.proofs.lemmas.agree.BeforeLemmas.{agreed_law, some_zones, tight, new_facts, new_shape}
use Rattle.fc_laws.proofs.lemmas.nodes.FitsLemmas.{one_number}
use Rattle.fc_laws.proofs.lemmas.takeover.ApartLemmas.{busy_on_disc, idle_apart}
use Rattle.fc_laws.proofs.lemmas.takeover.KindLemmas.{new_kind}
use Rattle.fc_tree.specs.declared.node.Node.{Node}
use Rattle.fc_tree.proofs.PlaceLemmas.{same_number}
use Rattle.fc_tree.proofs.SoundLemmas.{folds_alike}
use Rattle.fc_tree.proofs.WalkedLemmas.{listed_directory}
use Rattle.fc_image.proofs.MoveLemmas.{id_loose}
use Rattle.fc_edits.proofs.lemmas.IdentifierLemmas.{among_flat, by_map}
use Rattle.fc_image.proofs.EntriesLemmas.{in_filter}
use Rattle.fc_image.specs.Sound.{AreSound}
use Rattle.fc_newmap.proofs.CoverLemmas.{run_on_disc}
use Rattle.fc_changes.proofs.BeforeLemmas.{opened_as}
use Rattle.fc_record.proofs.KindLemmas.{and_first, and_second}

other_two : (n : ℕ) → 2 ≤ n → (n ≡ 2 → ⊥) → 3 ≤ n
other_two zero low other = absurd (omega (arith, low))
other_two (suc zero) low other = absurd (omega (arith, low))
other_two (suc (suc zero)) low other = absurd (other refl)
other_two (suc (suc (suc n))) low other = omega arith

-- Directory l of these parts has room for so many bytes where it lies, and these are their sectors.
pub record HasRoomThere (m : Map) (listings : List Listing) (l : Listing) (len : ℕ) (sectors : List ℕ) : Type 0 where
  pub listed : Contains listings l
  pub owns : is_owned (objects_of listings) (id_of l.object.entry.address) ≡ true
  pub object : is_object_id m (id_of l.object.entry.address) ≡ true
  pub room : has_room (Layout.New m) (objects_of listings) (l.object, len) ≡ true
  pub placed : sectors_at (Layout.New m) l.object.entry.address len ≡ Some sectors
  pub long : 0 < len

module _ (kind : Kind) (m : Map) (nodes : Nodes) (owners : List Owner) (root : Node) (listings : List Listing) (agreed : AgreeOn kind m nodes owners root listings) (l : Listing) (len : ℕ) (sectors : List ℕ)
    (has : HasRoomThere m listings l len sectors) where
  abbrev os : List Object
  os = objects_of listings

  abbrev id : ℕ
  id = id_of l.object.entry.address

  not_map : (id_of l.object.entry.address == 2) ≡ false
  not_map = by (id == 2) (and_first (not (id == 2)) _ has.room)
    where
      by : (b : Bool) → not b ≡ true → b ≡ false
      by true e = absurd (cc)
      by false e = refl

  high : 3 ≤ id_of l.object.entry.address
  high =
      let low = leb-true 2 id (and_first (nat_le 2 id) (nat_lt id (id_limit m.geometry)) has.object) in
      more (id == 2) refl low
    where
      more : (b : Bool) → (id == 2) ≡ b → 2 ≤ id → 3 ≤ id
      more true e low = absurd (clash (id == 2) e not_map)
      more false e low = other_two id low (λ same. clash (id == 2) (eq-eqb id 2 same) e)

  movable : is_movable os id ≡ true
  movable = ap₂ (λ (a b : Bool). a && b) has.owns (le-leb 3 id high)

  free_of : is_apart sectors (sectors_of_others os l.object) ≡ true
  free_of =
      ap (λ (q : Option (List ℕ)). option_map_or (λ (ss : List ℕ). is_apart ss (sectors_of_others os l.object)) q false) (sym (by_map m l.object.entry.address len sectors has.long has.placed))
      ∙ and_second (not (id == 2)) _ has.room

  -- No other object has them.
  pub beside : (p : Object) → Contains (objects_of listings) p → (p ≡ l.object) ⊎ (is_apart p.sectors sectors ≡ true)
  beside p at = by (is_same_path p.path l.object.path) refl
    where
      sound : AreSound (Layout.New m) listings
      sound = agreed_law.sound kind m nodes owners root listings agreed

      top : Contains (objects_of listings) l.object
      top = (listed_directory (Layout.New m) listings sound l has.listed).0

      by : (b : Bool) → is_same_path p.path l.object.path ≡ b → (p ≡ l.object) ⊎ (is_apart p.sectors sectors ≡ true)
      by true same =
          let n = agreed.walked.held.each p at in
          inl (one_number (Layout.New m) listings nodes sound agreed.walked.held p l.object n.number at top n.at_path (sym (same_number nodes p.path l.object.path (folds_alike p.path l.object.path same)) ∙ n.at_path))
      by false other =
          inr (apart_from p.sectors sectors (λ s here there. clash (is_among (sectors_of_others os l.object) s)
          (among_flat (filter (λ (q : Object). not (is_same_path q.path l.object.path)) os) p s (in_filter (λ (q : Object). not (is_same_path q.path l.object.path)) os p at (ap not other)) here)
          (apart_at sectors (sectors_of_others os l.object) s free_of there)))

  zones : 1 ≤ m.geometry.zones
  zones = some_zones kind m nodes owners root listings agreed

  -- They aren't reserved, and not idle.
  pub unreserved : is_apart sectors (reserved_in kind (Layout.New m)) ≡ true
  unreserved =
      apart_from sectors (reserved_in kind (Layout.New m))
      (λ s here there. clash (is_among (loose_sectors m os) s) (id_loose m os id s zones movable (in_id m l.object.entry.address len sectors s has.placed here))
      (none_loose (loose_sectors m os) (reserved_in kind (Layout.New m)) (tight kind m nodes owners root listings agreed) s there))

  busy : AreBusy m (objects_of listings) sectors
  busy s here =
      let q = holder_of m.geometry (id_runs m id) s (in_id m l.object.entry.address len sectors s has.placed here) in
      let there = id_run_in m id q.0 zones q.1.0 in
      (q.0, there.0, q.1.1, owned_busy os id q.0.1.kind there.1 has.owns (let h = high in omega (arith, h)))

  pub on_disc : (s : ℕ) → is_among sectors s ≡ true → s < disc_sectors (Layout.New m)
  on_disc s here =
      let facts = new_facts m agreed.is_map in
      let q = holder_of m.geometry (id_runs m id) s (in_id m l.object.entry.address len sectors s has.placed here) in
      run_on_disc m (new_shape m agreed.is_map) agreed.is_map.right facts.zones facts.begun q.0 s (id_run_in m id q.0 facts.zones q.1.0).0 q.1.1

  -- By a command that may rewrite the directory they may be written.
  pub there_may : (view : Opened) (image : List ℕ) (c : Command) → view.listings ≡ listings → OpensBy kind image view m → may_be_rewritten view c l.object.path ≡ true → MayBeWritten kind view m c sectors
  there_may view image c same by may =
      let r = new_kind image kind view m by.opens by.layout in
      let opens = subst (OpensAs image kind) (sym (opened_as kind r.0 image view m r.1 by.opens by.layout)) by.opens in
      let busy' = subst (λ (ls : List Listing). AreBusy m (objects_of ls) sectors) (sym same) busy in
      record {
        files = λ p at file. ⊎_elim (λ is. absurd (clash (is_directory_object l.object) directory (ap is_directory_object (sym is) ∙ file))) (λ apart. apart) (beside p (back same p at));
        dirs = λ p at kept. ⊎_elim (λ is. absurd (clash (may_be_rewritten view c l.object.path) may (ap (λ (q : Object). may_be_rewritten view c q.path) (sym is) ∙ kept))) (λ apart. apart) (beside p (back same p at));
        boot = apart_from (boot_place kind m.geometry.sector) sectors
            (λ s here there. clash (is_among (reserved_in kind (Layout.New m)) s) (in_back (map_sectors m.geometry) (boot_place kind m.geometry.sector) s here) (apart_at sectors (reserved_in kind (Layout.New m)) s unreserved there));
        idle = idle_apart m view image kind r.0 sectors r.1 opens busy';
        inside = busy_on_disc m view image kind r.0 sectors r.1 opens busy';
      }
    where
      back : view.listings ≡ listings → (p : Object) → Contains (objects_of view.listings) p → Contains (objects_of listings) p
      back e p at = subst (λ (ls : List Listing). Contains (objects_of ls) p) e at

      directory : is_directory_object l.object ≡ true
      directory = (listed_directory (Layout.New m) listings (agreed_law.sound kind m nodes owners root listings agreed) l has.listed).1
