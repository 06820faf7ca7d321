-- The parts of a volume agree after an edit, on any map.
use Rattle.std.proofs.Common.{◌≡◌, ◌≤◌, ◌⊎◌, inl, inr, ⊎_elim, ℕ, ◌+◌, true, List, [], ◌∷◌, ◌++◌, length, map, flat_map, refl, sym, ap, ap₂, subst, ◌∙◌, arith, Some, length-append}
use Rattle.std.specs.Prelude.{Contains, IsPermutation}
use Rattle.std.specs.FinMap.{get}
use Rattle.std.proofs.lemmas.List.{length-map}
use Rattle.std.proofs.lemmas.List.Elements.{Contains-append_cases, Contains-append_left, Contains-append_right}
use Rattle.std.proofs.lemmas.List.Sorted.{IsPermutation-cons, IsPermutation-middle, IsPermutation-sym, IsPermutation-trans, length_permutation}
use Rattle.fc_names.specs.declared.name.NameForm.{NameForm}
use Rattle.fc_record.specs.declared.Kind.{Kind}
use Rattle.fc_dirs.specs.declared.Entry.{Entry}
use Rattle.fc_dirs.specs.Directory.{directory_size, entries_of}
use Rattle.fc_alloc.specs.declared.owner.Owner.{Owner}
use Rattle.fc_image.specs.Layout.{Layout, dir_form, is_apart, sectors_at}
use Rattle.fc_image.specs.Walk.{Object, Listing, object_size, root_entry}
use Rattle.fc_image.specs.Objects.{objects_of}
use Rattle.fc_image.specs.Opening.{reserved_in}
use Rattle.fc_image.specs.Order.{held}
use Rattle.fc_image.specs.Edits.{Apart, AreChildren, IsAt, IsRoot, StayListed}
use Rattle.fc_image.proofs.OrderLemmas.{apart_shuffled}
use Rattle.fc_image.proofs.RelistLemmas.{apart_behind}
use Rattle.fc_tree.specs.declared.node.Node.{Node}
use Rattle.fc_tree.specs.Agree.{AreWalked, HasForm, reader_of_nodes}
use Rattle.fc_tree.specs.Nodes.{number_of}
use Rattle.fc_tree.specs.Parts.{AreOwners}
use Rattle.fc_tree.proofs.MemberLemmas.{contains_here, from_map}
use Rattle.fc_tree.proofs.SoundLemmas.{children_stored}
use Rattle.fc_tree.proofs.WalkedLemmas.{root_path}
use Rattle.fc_laws.specs.nodes.Edits.{Nodes, NodesFollow}
use Rattle.fc_laws.specs.nodes.Laws.{IsHeld}
use Rattle.fc_laws.specs.agree.Agreed.{CanSay}
use Rattle.fc_laws.proofs.lemmas.nodes.ListLemmas.{in_first, in_other}
use Rattle.fc_laws.proofs.lemmas.nodes.OtherLemmas.{top_object}
use Rattle.fc_laws.proofs.lemmas.agree.WalkEditLemmas.{walked_after}
use Rattle.fc_laws.proofs.lemmas.agree.WalkedLemmas as on_any
use Rattle.fc_edits.specs.NodesEdit.{NodesEdit}
use Rattle.fc_edits.specs.PartsEdit.{PartsEdit}
use Rattle.fc_edits.specs.Places.{CanSayAll, Stays, WalkFits}
use Rattle.fc_edits.specs.Edit.{Amended, Edit, IsEdit, KeepsEntry, TopStays, TopTurns, joined_in, joining, leaving, left_in, listings_after, now, numbers, objects, still}
use Rattle.fc_edits.proofs.lemmas.ListLemmas.{in_flat, map_map}
use Rattle.fc_edits.proofs.lemmas.NumberLemmas as n_
use Rattle.fc_edits.proofs.lemmas.FollowLemmas.{nodes_follow}
use Rattle.fc_edits.proofs.lemmas.OwnerLemmas.{owners_follow}
use Rattle.fc_edits.proofs.lemmas.RelistingLemmas.{after_parted, kept, relisting}
use Rattle.fc_edits.proofs.lemmas.ApartLemmas.{children_from, come_apart, same_apart, stay_listed}
use Rattle.fc_image.proofs.EntriesLemmas.{later as contains_later, cases as contains_cases}

-- ---- on any map

module _ (pe : PartsEdit) where
  abbrev pub kind : Kind
  kind = pe.kind

  abbrev pub layout : Layout
  layout = pe.layout

  abbrev pub layout' : Layout
  layout' = pe.layout'

  abbrev pub nodes : Nodes
  nodes = pe.nodes

  abbrev pub nodes' : Nodes
  nodes' = pe.nodes'

  abbrev pub owners : List Owner
  owners = pe.owners

  abbrev pub owners' : List Owner
  owners' = pe.owners'

  abbrev pub root : Node
  root = pe.root

  abbrev pub listings : List Listing
  listings = pe.listings

  abbrev pub e : Edit
  e = pe.edit

  abbrev pub is : IsEdit nodes listings e
  is = pe.is_edit

  abbrev pub fit : WalkFits kind layout layout' nodes listings e
  fit = pe.fit

  abbrev pub can : CanSayAll layout listings e
  can = pe.can

  abbrev pub h : IsHeld nodes layout listings
  h = record { sound = on_any.sound kind layout nodes root listings pe.walked; held = pe.walked.held }

  abbrev pub ne : NodesEdit
  ne = record { nodes = nodes; nodes' = nodes'; layout = layout; listings = listings; edit = e; held = h; is_edit = is; nodes_edited = pe.nodes_edited }

  abbrev pub before : on_any.Had kind layout nodes root listings pe.walked
  before = on_any.had kind layout nodes root listings pe.walked

  abbrev pub kids : List Object
  kids = n_.kids ne

  abbrev pub top : Object
  top = n_.top ne

  pub top_same : before.top ≡ top
  top_same =
      top_object layout listings nodes h.sound h.held before.top (subst (λ (os : List Object). Contains os before.top) (sym before.objects) (contains_here before.top (held listings))) before.is_root.path

  abbrev pub reserved : List ℕ
  reserved = reserved_in kind layout'

  -- ---- who stays

  pub kid_stays : (p : Object) → Contains kids p → Stays nodes listings e p
  kid_stays p at =
      let among = in_first (objects_of listings) (top ∷ (objects (left_in e) ++ kids)) (n_.all_parted ne) p
      (Contains-append_right (top ∷ []) (objects (left_in e) ++ kids) p (Contains-append_right (objects (left_in e)) kids p at)) in
      let n = h.held.each p among in
      record { among = among; number = n.number; number_is = n.at_path; stays = n_.kid_away ne p n.number at n.at_path }

  pub top_stays : TopStays e top → Stays nodes listings e top
  top_stays t = record {
    among = n_.top_in ne;
    number = 0;
    number_is = ap (number_of nodes) (root_path layout listings h.sound);
    stays = λ at. n_.left_lower ne 0 (subst (λ (ps : List (ℕ × Object)). Contains (numbers (ps ++ left_in e)) 0) t.leaves at) refl;
  }

  pub keeps : (o : Object) → Stays nodes listings e o → KeepsEntry e o
  keeps o s = is.keeps o s.number s.among s.number_is s.stays

  -- it lies where it lay
  pub stays_at : (o : Object) → Stays nodes listings e o → IsAt layout' (e.turn o)
  stays_at o s =
      let k = keeps o s in
      let old = fit.keeps o s in
      subst (λ (ss : List ℕ). sectors_at layout' (e.turn o).entry.address (object_size (dir_form layout') (e.turn o).entry) ≡ Some ss) (sym k.sectors)
      (subst (λ (x : Entry). sectors_at layout' x.address (object_size (dir_form layout') x) ≡ Some o.sectors) (sym k.entry) old)

  -- ---- what directories hold

  kid_now : (k : Listing) (p : Object) → Contains (n_.stay ne) k → Contains k.children p → Contains kids p
      → ((e.turn p).path ≡ (e.turn k.object).path ++ (e.turn p).entry.name ∷ []) × IsAt layout' (e.turn p)
  kid_now k p at kid left =
      let s = kid_stays p left in (
        is.paths k p s.number (n_.stay_in ne k at) kid s.number_is s.stays ∙ ap (λ (x : Entry). (e.turn k.object).path ++ x.name ∷ []) (sym (keeps p s).entry),
        stays_at p s,
      )

  joined_in_joining : (p : ℕ × Object) → Contains (joined_in e) p → Contains (joining e) p
  joined_in_joining p at = Contains-append_right e.top_join (joined_in e) p at

  pub amended_says : (b : Amended) → Contains e.amended b → AreChildren layout' (e.turn b.was.object).path (entries_of b.content) b.children
  amended_says b at =
      let i = is.amends b at in
      let there = n_.was_in ne b at in
      subst (λ (es : List Entry). AreChildren layout' (e.turn b.was.object).path es b.children) i.stored
      (children_from layout' (e.turn b.was.object).path b.children
      (λ o kid. ⊎_elim
      (λ joins.
      let q = from_map (λ (p : ℕ × Object). p.1) b.join o joins in
      subst (λ (x : Object). (x.path ≡ (e.turn b.was.object).path ++ x.entry.name ∷ []) × IsAt layout' x) q.2
      (i.paths q.0 q.1, fit.placed q.0 (joined_in_joining q.0 (in_flat (λ (c : Amended). c.join) e.amended b q.0 at q.1))))
      (λ stays.
      let q = from_map e.turn b.kids o stays in
      subst (λ (x : Object). (x.path ≡ (e.turn b.was.object).path ++ x.entry.name ∷ []) × IsAt layout' x) q.2
      (kid_now b.was q.0 there (in_first b.was.children (objects b.leave ++ b.kids) i.held q.0 (Contains-append_right (objects b.leave) b.kids q.0 q.1))
      (Contains-append_left (flat_map (λ (c : Amended). c.kids) e.amended) (held e.same) q.0 (in_flat (λ (c : Amended). c.kids) e.amended b q.0 at q.1))))
      (Contains-append_cases (objects b.join) (map e.turn b.kids) o (in_other b.children (objects b.join ++ map e.turn b.kids) i.holds o kid))))

  pub same_says : (k : Listing) → Contains e.same k → AreChildren layout' (e.turn k.object).path (entries_of k.content) (map e.turn k.children)
  same_says k at =
      let there = n_.same_in ne k at in
      let stored : map (λ (o : Object). o.entry) (map e.turn k.children) ≡ entries_of k.content =
      map_map (λ (o : Object). o.entry) e.turn k.children
      ∙ map_same (λ (o : Object). (e.turn o).entry) (λ (o : Object). o.entry) k.children (λ p kid. (keeps p (kid_stays p (in_held p kid))).entry)
      ∙ children_stored layout listings h.sound k (n_.stay_in ne k there) in
      subst (λ (es : List Entry). AreChildren layout' (e.turn k.object).path es (map e.turn k.children)) stored
      (children_from layout' (e.turn k.object).path (map e.turn k.children)
      (λ o kid.
      let q = from_map e.turn k.children o kid in
      subst (λ (x : Object). (x.path ≡ (e.turn k.object).path ++ x.entry.name ∷ []) × IsAt layout' x) q.2 (kid_now k q.0 there q.1 (in_held q.0 q.1))))
    where
      in_held : (p : Object) → Contains k.children p → Contains kids p
      in_held p kid = Contains-append_right (flat_map (λ (c : Amended). c.kids) e.amended) (held e.same) p (in_flat (λ (l : Listing). l.children) e.same k p at kid)

      map_same : {X Y : Type 0} (f g : X → Y) (xs : List X) → ((x : X) → Contains xs x → f x ≡ g x) → map f xs ≡ map g xs
      map_same f g [] each = refl
      map_same {Y = Y} f g (x ∷ xs) each = ap₂ (λ (y : Y) (ys : List Y). y ∷ ys) (each x (contains_here x xs)) (map_same f g xs (λ z at. each z (contains_later x z xs at)))

  -- ---- each listing

  -- what holds of all
  pub each_now : (P : Listing → Type 0) → ((d : ℕ × Listing) → Contains e.into d → P d.1) → ((b : Amended) → Contains e.amended b → P (now e b)) → ((k : Listing) → Contains e.same k → P (still e k))
      → (l : Listing) → Contains (listings_after e) l → P l
  each_now P into amended same l at =
      ⊎_elim (λ new. let d = from_map (λ (x : ℕ × Listing). x.1) e.into l new in subst P d.2 (into d.0 d.1))
      (λ old. ⊎_elim (λ other. let b = from_map (now e) e.amended l other in subst P b.2 (amended b.0 b.1)) (λ still'. let k = from_map (still e) e.same l still' in subst P k.2 (same k.0 k.1))
      (Contains-append_cases (map (now e) e.amended) (map (still e) e.same) l old))
      (Contains-append_cases (map (λ (x : ℕ × Listing). x.1) e.into) (map (now e) e.amended ++ map (still e) e.same) l at)

  follow : NodesFollow nodes' (listings_after e)
  follow = nodes_follow ne

  pub say_now : StayListed (reader_of_nodes nodes') layout' (listings_after e)
  say_now =
      stay_listed (reader_of_nodes nodes') layout' (listings_after e)
      (λ l at. (
        follow.say l at,
        each_now (λ (x : Listing). AreChildren layout' x.object.path (entries_of x.content) x.children)
            (λ d there. subst (λ (os : List Object). AreChildren layout' d.1.object.path (entries_of d.1.content) os) (sym (is.into_empty d there))
            (subst (λ (es : List Entry). AreChildren layout' d.1.object.path es []) (sym (can.into_none d there)) tt))
            amended_says same_says l at,
      ))

  can_now : (l : Listing) → Contains (listings_after e) l → CanSay layout l.object l.content
  can_now =
      each_now (λ (x : Listing). CanSay layout x.object x.content) can.into can.amended
      (λ k there.
      let at = n_.stay_in ne k (n_.same_in ne k there) in
      record { form = subst (λ (n : ℕ). HasForm (dir_form layout) n k.content) (sym (can.same k there)) (pe.walked.forms k at); body = pe.walked.bodies k at })

  -- ---- all objects

  abbrev pub all_now : List Object
  all_now = objects e.come ++ map e.turn (top ∷ kept ne)

  -- the objects that stay, and those that join
  pub record Cut : Type 0 where
    pub stays : List Object
    pub each : (o : Object) → Contains stays o → Stays nodes listings e o
    pub before' : IsPermutation (objects_of listings) (objects (leaving e) ++ stays)
    pub after : IsPermutation (objects (joining e) ++ map e.turn stays) all_now

  pub whole_after : IsPermutation (e.turn top ∷ (objects (joined_in e) ++ map e.turn kids)) all_now
  whole_after =
      IsPermutation-trans (e.turn top ∷ (objects (joined_in e) ++ map e.turn kids)) (e.turn top ∷ (objects e.come ++ map e.turn (kept ne))) all_now
      (IsPermutation-cons (e.turn top) (objects (joined_in e) ++ map e.turn kids) (objects e.come ++ map e.turn (kept ne)) (after_parted ne))
      (IsPermutation-sym all_now (e.turn top ∷ (objects e.come ++ map e.turn (kept ne)))
      (IsPermutation-middle (objects e.come) (e.turn top) (map e.turn (kept ne))))

  pub cut : Cut
  cut = by (is.top top (n_.top_in ne) (root_path layout listings h.sound))
    where
      all : IsPermutation (objects_of listings) (top ∷ (objects (left_in e) ++ kids))
      all = n_.all_parted ne

      by : TopStays e top ⊎ TopTurns e top → Cut
      by (inl t) = record {
        stays = top ∷ kids;
        each = λ o at. ⊎_elim (λ same. subst (Stays nodes listings e) same (top_stays t)) (λ later. kid_stays o later) (contains_cases top o kids at);
        before' = subst (λ (ps : List (ℕ × Object)). IsPermutation (objects_of listings) (objects (ps ++ left_in e) ++ top ∷ kids)) (sym t.leaves)
            (IsPermutation-trans (objects_of listings) (top ∷ (objects (left_in e) ++ kids)) (objects (left_in e) ++ top ∷ kids) all
            (IsPermutation-sym (objects (left_in e) ++ top ∷ kids) (top ∷ (objects (left_in e) ++ kids)) (IsPermutation-middle (objects (left_in e)) top kids)));
        after = subst (λ (ps : List (ℕ × Object)). IsPermutation (objects (ps ++ joined_in e) ++ map e.turn (top ∷ kids)) all_now) (sym t.joins)
            (IsPermutation-trans (objects (joined_in e) ++ e.turn top ∷ map e.turn kids) (e.turn top ∷ (objects (joined_in e) ++ map e.turn kids)) all_now
            (IsPermutation-middle (objects (joined_in e)) (e.turn top) (map e.turn kids)) whole_after);
      }
      by (inr t) = record {
        stays = kids;
        each = kid_stays;
        before' = subst (λ (ps : List (ℕ × Object)). IsPermutation (objects_of listings) (objects (ps ++ left_in e) ++ kids)) (sym t.leaves) all;
        after = subst (λ (ps : List (ℕ × Object)). IsPermutation (objects (ps ++ joined_in e) ++ map e.turn kids) all_now) (sym t.joins) whole_after;
      }

  pub apart_now : Apart reserved all_now
  apart_now =
      let c = cut in
      let was = reserved_in kind layout in
      let old =
      fit.reserved c.stays c.each
      (apart_behind was (objects (leaving e)) c.stays
      (apart_shuffled was (objects_of listings) (objects (leaving e) ++ c.stays) (subst (Apart was) (sym before.objects) before.apart) c.before')) in
      apart_shuffled reserved (objects (joining e) ++ map e.turn c.stays) all_now
      (come_apart reserved (map e.turn c.stays) (objects (joining e)) (same_apart reserved e.turn c.stays (λ o at. (keeps o (c.each o at)).sectors) old)
      (λ o at. let q = from_map (λ (p : ℕ × Object). p.1) (joining e) o at in subst (λ (x : Object). is_apart x.sectors reserved ≡ true) q.2 (fit.free q.0 q.1))
      (λ o p at bt.
      let q = from_map (λ (p : ℕ × Object). p.1) (joining e) o at in
      let r = from_map e.turn c.stays p bt in
      subst (λ (x : Object). is_apart x.sectors p.sectors ≡ true) q.2
      (subst (λ (ss : List ℕ). is_apart q.0.1.sectors ss ≡ true) (sym (keeps r.0 (c.each r.0 r.1)).sectors ∙ ap (λ (x : Object). x.sectors) r.2) (fit.apart q.0 r.0 q.1 (c.each r.0 r.1))))
      fit.pairs) c.after

  -- ---- the root

  pub record RootNow : Type 0 where
    pub address : ℕ
    pub size : ℕ
    pub is_root : IsRoot layout' address size (e.turn top)
    pub whole : directory_size (dir_form layout') size ≡ size

  pub root_now : RootNow
  root_now = by (is.top top (n_.top_in ne) (root_path layout listings h.sound))
    where
      turned_path : (e.turn top).path ≡ []
      turned_path = is.top_path top (n_.top_in ne) (root_path layout listings h.sound)

      by : TopStays e top ⊎ TopTurns e top → RootNow
      by (inl t) =
          let s = top_stays t in
          record {
            address = root.entry.address;
            size = root.entry.len;
            is_root = record {
              path = turned_path;
              entry = t.keeps.entry ∙ subst (λ (o : Object). o.entry ≡ root_entry root.entry.address (directory_size (dir_form layout) root.entry.len)) top_same before.is_root.entry
                  ∙ ap (λ (f : NameForm). root_entry root.entry.address (directory_size f root.entry.len)) (sym fit.form);
              placed = stays_at top s;
            };
            whole = ap (λ (f : NameForm). directory_size f root.entry.len) fit.form ∙ on_any.root_size kind layout nodes root listings pe.walked pe.root_is;
          }
      by (inr t) =
          let r = can.root top (n_.top_in ne) (root_path layout listings h.sound) t in
          let whole' : directory_size (dir_form layout') r.size ≡ r.size = ap (λ (f : NameForm). directory_size f r.size) fit.form ∙ r.whole in
          record {
            address = r.address;
            size = r.size;
            is_root = record {
              path = turned_path;
              entry = r.entry ∙ ap (root_entry r.address) (sym whole');
              placed = fit.placed (0, e.turn top) (subst (λ (ps : List (ℕ × Object)). Contains (ps ++ joined_in e) (0, e.turn top)) (sym t.joins) (contains_here (0, e.turn top) (joined_in e)));
            };
            whole = whole';
          }

  -- ---- they are walked

  pub few_now : length (listings_after e) ≤ length listings + 1
  few_now =
      let was = length_permutation listings (e.out ++ n_.stay ne) is.found in
      let w1 = length-append e.out (n_.stay ne) in
      let w2 = length-append (map (λ (b : Amended). b.was) e.amended) e.same in
      let w3 = length-map e.amended (λ (b : Amended). b.was) in
      let n1 = length-append (map (λ (d : ℕ × Listing). d.1) e.into) (map (now e) e.amended ++ map (still e) e.same) in
      let n2 = length-append (map (now e) e.amended) (map (still e) e.same) in
      let n3 = length-map e.amended (now e) in
      let n4 = length-map e.same (still e) in
      let n5 = length-map e.into (λ (d : ℕ × Listing). d.1) in
      let few = can.few in
      omega (arith, was, w1, w2, w3, n1, n2, n3, n4, n5, few)

  pub walk_now : (r : Node) × (found : List Listing) × (get nodes' 0 ≡ Some r) × AreWalked nodes' layout' (reserved_in kind layout') r.entry.address r.entry.len found
      × AreOwners owners' nodes' layout' (objects_of found) × IsPermutation (listings_after e) found × IsPermutation (objects_of found) all_now
  walk_now =
      let r = root_now in
      let w =
      walked_after kind layout layout' nodes nodes' owners' root listings (listings_after e) pe.walked e.turn (objects e.gone) (objects e.come) (kept ne) r.address r.size
      (record {
        relisted = relisting ne;
        room = (let few = few_now in let most = fit.room in let same = fit.disc in omega (arith, few, most, same));
        say = say_now;
        root_now = subst (λ (o : Object). IsRoot layout' r.address r.size (e.turn o)) (sym top_same) r.is_root;
        whole = r.whole;
        apart = subst (λ (o : Object). Apart reserved (objects e.come ++ map e.turn (o ∷ kept ne))) (sym top_same) apart_now;
        forms = λ l at. subst (λ (f : NameForm). HasForm f l.object.entry.len l.content) (sym fit.form) (can_now l at).form;
        bodies = λ l at. (can_now l at).body;
        follow = record { nodes_follow = follow; owners_follow = owners_follow ne layout' owners owners' pe.owned pe.owners_edited };
      }) in (
        w.node,
        w.found,
        w.root_is,
        w.walked,
        w.owned,
        w.order,
        subst (λ (o : Object). IsPermutation (objects_of w.found) (objects e.come ++ map e.turn (o ∷ kept ne))) top_same w.objects,
      )
