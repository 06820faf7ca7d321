-- `rename` of a file that is copied.
use Rattle.std.proofs.Common.{◌≡◌, inl, inr, ℕ, ◌*◌, false, cond, List, [], ◌∷◌, ◌++◌, refl, sym, ap, subst, ◌∙◌, arith}
use Rattle.std.specs.Prelude.{Contains, IsPermutation, insert, remove, ◌==◌}
use Rattle.std.proofs.lemmas.List.Elements.{Contains-append_left, Contains-append_right}
use Rattle.std.proofs.lemmas.List.Sorted.{Contains-permutation, IsPermutation-append_left, IsPermutation-append_right, IsPermutation-cons, IsPermutation-middle, IsPermutation-refl, IsPermutation-sym, IsPermutation-trans, length_permutation}
use Rattle.fc_names.specs.Names.{is_directory}
use Rattle.fc_names.specs.declared.name.NameForm.{NameForm}
use Rattle.fc_names.specs.declared.name.NameForm.TheVariants.{Long, Ten}
use Rattle.fc_record.specs.declared.Geometry.{Geometry}
use Rattle.fc_record.specs.declared.Kind.{Kind}
use Rattle.fc_newmap.specs.Map.{Map, ZoneRun, bits_in}
use Rattle.fc_dirs.specs.declared.Entry.{Entry}
use Rattle.fc_dirs.specs.Directory.{Directory, entries_of}
use Rattle.fc_alloc.specs.declared.owner.Owner.{Owner}
use Rattle.fc_image.specs.Layout.{Layout, dir_form}
use Rattle.fc_image.specs.Walk.{Listing, Object, Reader, is_directory_object}
use Rattle.fc_image.specs.Objects.{is_movable, objects_of}
use Rattle.fc_image.specs.Opening.{reserved_in}
use Rattle.fc_image.specs.Edits.{Apart, AreChildren, IsAt, IsListing, StayListed}
use Rattle.fc_image.specs.Order.{held, listed}
use Rattle.fc_image.specs.EditedWalk.{IsRelisting}
use Rattle.fc_image.specs.MapEdits.{KeepsPlace}
use Rattle.fc_image.specs.InPlace.{says_now}
use Rattle.fc_image.proofs.EntriesLemmas.{entries_law, later}
use Rattle.fc_image.proofs.MapEditLemmas.{held_in, places_law}
use Rattle.fc_image.proofs.OrderLemmas.{apart_shuffled}
use Rattle.fc_image.proofs.RelistLemmas.{apart_behind, edited_apart_law, map_itself}
use Rattle.fc_image.proofs.ShuffleLemmas.{IsPermutation-flat_map, IsPermutation-unappend}
use Rattle.fc_image.specs.effects.Placed.{file_low}
use Rattle.fc_tree.specs.declared.node.Node.{Node}
use Rattle.fc_tree.specs.Agree.{Agree, HasForm, reader_of_nodes}
use Rattle.fc_changes.specs.Changed.{IsInNewSpace}
use Rattle.fc_changes.proofs.BasicLemmas.{cases_cons, without_it}
use Rattle.fc_changes.proofs.BesideLemmas.{shared_stays}
use Rattle.fc_changes.proofs.MadeLemmas.{file_low_small}
use Rattle.fc_laws.specs.nodes.Edits.{Nodes}
use Rattle.fc_laws.specs.nodes.Copied.{IsCopied}
use Rattle.fc_laws.specs.agree.Agreed.{AgreeOn, CanSay, IsMapChange, PartsFollow, parts_with}
use Rattle.fc_laws.specs.agree.Copied.{CopiedLaw}
use Rattle.fc_laws.proofs.lemmas.agree.AddedLemmas.{apart_from_all, file_size, one_new}
use Rattle.fc_laws.proofs.lemmas.agree.BeforeLemmas.{Had, had, object_lies, says}
use Rattle.fc_laws.proofs.lemmas.agree.EditLemmas.{agreed_after}
use Rattle.fc_laws.proofs.lemmas.agree.NewPlaceLemmas.{IsFreePlace, new_place}
use Rattle.fc_laws.proofs.lemmas.agree.SpaceLemmas.{TakesSpace, fixed, places}
use Rattle.fc_zone.proofs.ZoneLemmas.{Contains-head as here}
use Rattle.fc_image.proofs.InPlaceLemmas.{no_directory}
use Rattle.fc_image.proofs.OpenedLemmas.{movable_shuffled}

module _ (kind : Kind) (m m' : Map) (nodes nodes' : Nodes) (owners owners' : List Owner) (root : Node) (listings listings' rest : List Listing) (k l : Listing)
    (k_content l_content : Directory) (i j : ℕ) (o copy : Object) (from_dir dir number : ℕ) (name : List ℕ) (id : ℕ) (parts : List ZoneRun) (stay : List Object)
    (a : AgreeOn kind m nodes owners root listings) (e : IsCopied nodes nodes' listings listings' rest k l k_content l_content i j o copy from_dir dir number name)
    (can_k : CanSay (Layout.New m) k.object k_content) (can_l : CanSay (Layout.New m) l.object l_content) (f : PartsFollow nodes' owners' (Layout.New m') listings')
    (at : IsAt (Layout.New m') copy) (place : IsInNewSpace m o.entry.len (file_low m.geometry (bits_in parts * m.geometry.bit_bytes) o.entry.len) id parts copy)
    (others : IsPermutation (objects_of listings) (o ∷ stay)) (map' : IsMapChange m m' id parts [] (objects_of listings) (copy ∷ stay)) where
  abbrev layout : Layout
  layout = Layout.New m

  abbrev layout' : Layout
  layout' = Layout.New m'

  abbrev read' : Reader
  read' = reader_of_nodes nodes'

  abbrev reserved : List ℕ
  reserved = reserved_in kind (Layout.New m)

  abbrev before : Had kind m nodes owners root listings a
  before = had kind m nodes owners root listings a

  abbrev kids : List Object
  kids = remove k.children i

  abbrev kept : List Object
  kept = kids ++ (l.children ++ held rest)

  abbrev remain : List Object
  remain = before.top ∷ kept

  abbrev k' : Listing
  k' = says_now k k_content kids

  abbrev l' : Listing
  l' = says_now l l_content (insert l.children j copy)

  abbrev now : List Listing
  now = k' ∷ l' ∷ rest

  follow : PartsFollow nodes' owners' layout' now
  follow = subst (PartsFollow nodes' owners' layout') e.listings_are f

  -- ---- the directories before

  in_old : (d : Listing) → Contains (k ∷ l ∷ rest) d → Contains listings d
  in_old d there = Contains-permutation (k ∷ l ∷ rest) listings d (IsPermutation-sym listings (k ∷ l ∷ rest) e.found) there

  k_in : Contains listings k
  k_in = in_old k (here k (l ∷ rest))

  l_in : Contains listings l
  l_in = in_old l (later k l (l ∷ rest) (here l rest))

  rest_in : (d : Listing) → Contains rest d → Contains listings d
  rest_in d there = in_old d (later k d (l ∷ rest) (later l d rest there))

  said : (d : Listing) → Contains listings d → AreChildren layout d.object.path (entries_of d.content) d.children
  said d there = (says kind m nodes owners root listings a d there).1

  -- ---- objects

  held_cut : IsPermutation (held (k ∷ l ∷ rest)) (o ∷ kept)
  held_cut = IsPermutation-append_left (l.children ++ held rest) k.children (o ∷ kids) (without_it k.children i o e.child.at)

  whole_cut : IsPermutation (before.top ∷ held listings) (o ∷ remain)
  whole_cut =
      IsPermutation-trans (before.top ∷ held listings) (before.top ∷ o ∷ kept) (o ∷ remain)
      (IsPermutation-cons before.top (held listings) (o ∷ kept)
      (IsPermutation-trans (held listings) (held (k ∷ l ∷ rest)) (o ∷ kept) (IsPermutation-flat_map (λ (x : Listing). x.children) listings (k ∷ l ∷ rest) e.found) held_cut))
      (IsPermutation-middle (before.top ∷ []) o kept)

  stay_is : IsPermutation stay remain
  stay_is =
      IsPermutation-unappend (o ∷ []) stay remain
      (IsPermutation-trans (o ∷ stay) (objects_of listings) (o ∷ remain) (IsPermutation-sym (objects_of listings) (o ∷ stay) others)
      (subst (λ (os : List Object). IsPermutation os (o ∷ remain)) (sym before.objects) whole_cut))

  stay_in : (p : Object) → Contains stay p → Contains (objects_of listings) p
  stay_in p there = Contains-permutation (o ∷ stay) (objects_of listings) p (IsPermutation-sym (objects_of listings) (o ∷ stay) others) (later o p stay there)

  copy_file : is_directory_object copy ≡ false
  copy_file = ap (λ (x : Entry). is_directory x.attrs) e.entry ∙ e.file

  free : IsFreePlace kind m (objects_of listings) id parts copy
  free =
      new_place kind m m' nodes owners root listings a o.entry.len id parts [] copy stay map' at (file_size layout' copy o.entry.len copy_file (ap (λ (x : Entry). x.len) e.entry))
      (file_low m.geometry (bits_in parts * m.geometry.bit_bytes) o.entry.len) (file_low_small m.geometry (bits_in parts * m.geometry.bit_bytes) o.entry.len) place

  taken : TakesSpace m m' (objects_of listings) (copy ∷ []) stay id parts []
  taken = record {
    is_map = a.is_map;
    placed = λ p there. (object_lies kind m nodes owners root listings a p there).placed;
    stay_in = stay_in;
    space = map'.space;
    gives = map'.gives;
    fresh = free.fresh;
    come_new = one_new kind m (objects_of listings) id parts copy free;
  }

  keeps : (p : Object) → Contains remain p → KeepsPlace m m' p
  keeps p there = places m m' (objects_of listings) (copy ∷ []) stay id parts [] taken p (Contains-permutation remain stay p (IsPermutation-sym stay remain stay_is) there)

  -- what stays in a directory lies at its place on the new map
  placed_now : (p : Object) → Contains kept p → IsAt layout' p
  placed_now p there =
      places_law m m' p map'.geometry (keeps p (later before.top p kept there))
      (object_lies kind m nodes owners root listings a p (stay_in p (Contains-permutation remain stay p (IsPermutation-sym stay remain stay_is) (later before.top p kept there)))).placed

  -- ---- the directories afterwards

  copy_path : copy.path ≡ l.object.path ++ copy.entry.name ∷ []
  copy_path = e.path ∙ ap (λ (n : List ℕ). l.object.path ++ n ∷ []) (sym (ap (λ (x : Entry). x.name) e.entry))

  k_says : IsListing read' layout' k'
  k_says = (
    follow.nodes_follow.say k' (here k' (l' ∷ rest)),
    subst (λ (es : List Entry). AreChildren layout' k.object.path es kids) (sym e.k_entries)
        (entries_law.placed layout layout' k.object.path (remove (entries_of k.content) i) kids
        (entries_law.removed layout k.object.path (entries_of k.content) k.children i o (said k k_in) e.child.at).0 (λ p there. placed_now p (Contains-append_left kids (l.children ++ held rest) p there))),
  )

  added : AreChildren layout' l.object.path (insert (entries_of l.content) j copy.entry) (insert l.children j copy) × IsPermutation (insert l.children j copy) (copy ∷ l.children)
  added =
      entries_law.added layout' l.object.path (entries_of l.content) l.children j copy
      (entries_law.placed layout layout' l.object.path (entries_of l.content) l.children (said l l_in)
      (λ p there. placed_now p (Contains-append_right kids (l.children ++ held rest) p (Contains-append_left l.children (held rest) p there)))) copy_path at

  l_says : IsListing read' layout' l'
  l_says = (
    follow.nodes_follow.say l' (later k' l' (l' ∷ rest) (here l' rest)),
    subst (λ (es : List Entry). AreChildren layout' l.object.path es (insert l.children j copy)) (sym e.l_entries) added.0,
  )

  rest_says : (d : Listing) → Contains rest d → IsListing read' layout' d
  rest_says d there = (
    follow.nodes_follow.say d (later k' d (l' ∷ rest) (later l' d rest there)),
    entries_law.placed layout layout' d.object.path (entries_of d.content) d.children (said d (rest_in d there))
        (λ p child. placed_now p (Contains-append_right kids (l.children ++ held rest) p (Contains-append_right l.children (held rest) p (held_in rest d p there child)))),
  )

  each_says : (ds : List Listing) → ((d : Listing) → Contains ds d → IsListing read' layout' d) → StayListed read' layout' ds
  each_says [] one = tt
  each_says (d ∷ ds) one = (one d (here d ds), each_says ds (λ x there. one x (later d x ds there)))

  held_now : IsPermutation (held now) (copy ∷ kept)
  held_now =
      IsPermutation-trans (kids ++ (l'.children ++ held rest)) (kids ++ (copy ∷ (l.children ++ held rest))) (copy ∷ kept)
      (IsPermutation-append_right kids (l'.children ++ held rest) (copy ∷ (l.children ++ held rest)) (IsPermutation-append_left (held rest) l'.children (copy ∷ l.children) added.1))
      (IsPermutation-middle kids copy (l.children ++ held rest))

  relisted : IsRelisting (λ (p : Object). p) listings now (o ∷ []) (copy ∷ []) kept
  relisted = record {
    out = [];
    stay = k ∷ l ∷ rest;
    into = [];
    stay' = now;
    had = e.found;
    has = IsPermutation-refl now;
    same = sym (map_itself (listed (k ∷ l ∷ rest)));
    held_before = held_cut;
    held_after = subst (λ (os : List Object). IsPermutation (held now) (copy ∷ os)) (sym (map_itself kept)) held_now;
    out_gone = no_directory o e.file;
    into_come = no_directory copy copy_file;
    out_empty = refl;
    into_empty = refl;
    kinds = λ p. refl;
  }

  can_say : (d : Listing) → Contains now d → CanSay layout d.object d.content
  can_say d there = elim (cases_cons k' (l' ∷ rest) d there) [
    | inl is ↦ subst (λ (y : Listing). CanSay layout y.object y.content) is (record { form = can_k.form; body = can_k.body })
    | inr more ↦ elim (cases_cons l' rest d more) [
      | inl is ↦ subst (λ (y : Listing). CanSay layout y.object y.content) is (record { form = can_l.form; body = can_l.body })
      | inr last ↦ record { form = a.walked.forms d (rest_in d last); body = a.walked.bodies d (rest_in d last) }
    ]
  ]

  form_same : dir_form layout ≡ dir_form layout'
  form_same = ap (λ (g : Geometry). let f : NameForm = cond (g.version == 0) Ten Long in f) (sym map'.geometry)

  apart_now : Apart reserved (copy ∷ remain)
  apart_now =
      let old : Apart reserved remain = apart_behind reserved (o ∷ []) remain (apart_shuffled reserved (before.top ∷ held listings) (o ∷ remain) before.apart whole_cut) in
      edited_apart_law.come reserved remain copy old
      (apart_from_all kind m (objects_of listings) remain id parts copy free (λ p there. stay_in p (Contains-permutation remain stay p (IsPermutation-sym stay remain stay_is) there)))

  copied_at : Agree kind (parts_with m' nodes' owners')
  copied_at =
      let long = length_permutation listings (k ∷ l ∷ rest) e.found in
      agreed_after kind m m' nodes nodes' owners owners' root listings now a (λ (p : Object). p) (o ∷ []) (copy ∷ []) kept
      (record {
        is_map = map'.is_map;
        geometry = map'.geometry;
        relisted = relisted;
        few = omega (arith, long);
        say = (k_says, (l_says, each_says rest rest_says));
        top_stays = refl;
        top_placed = keeps before.top (here before.top kept);
        apart = subst (λ (os : List Object). Apart reserved (copy ∷ os)) (sym (map_itself remain)) apart_now;
        fixed = λ n h u. (let s = fixed m m' (objects_of listings) (copy ∷ []) stay id parts [] taken n h u in (
          s.0,
          subst (λ (os : List Object). is_movable (copy ∷ os) n ≡ false) (sym (map_itself remain))
              (movable_shuffled (copy ∷ remain) (copy ∷ stay) n (IsPermutation-cons copy remain stay (IsPermutation-sym stay remain stay_is)) ∙ s.1),
        ));
        forms = λ d there. subst (λ (form : NameForm). HasForm form d.object.entry.len d.content) form_same (can_say d there).form;
        bodies = λ d there. (can_say d there).body;
        follow = follow;
      })

pub copied_law : CopiedLaw
copied_law = record {
  agree = copied_at;
  none_back = λ m objects stay o copy shares cut. shared_stays m objects stay o cut shares (copy ∷ stay) (λ p there. later copy p stay there);
}
