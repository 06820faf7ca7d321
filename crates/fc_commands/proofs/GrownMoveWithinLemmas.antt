-- `rename` within a directory that grows by the longer name: its edit, with the growth as a part of it.
use Rattle.fc_change.specs.Directories.{Rewriting, is_told, numbers}
use Rattle.fc_commands.proofs.GrownMoveEditLemmas.{AllSaidNow, IsPlainEdit, IsSaidNow, become}
use Rattle.fc_commands.proofs.GrownMoveFirstLemmas.{first_said, own_in, own_said_now, told_in, untold_in}
use Rattle.fc_commands.proofs.GrownMovePartLemmas.{IsGrownMove, PlainMove}
use Rattle.fc_commands.proofs.GrownMoveReadyLemmas.{PlainRename, about_cut, above_free, base, none_more, own_cut, plain_entry, told, whole}
use Rattle.fc_commands.proofs.GrownMoveReadyLemmas as ready_of
use Rattle.fc_commands.proofs.GrownMoveSaidLemmas.{FirstSays, IsOwnGrown, grown_numb, holder_numb, it, it_numb, k, l, layout, not_in, now, numb, own_grown, renamed_says, rewritten_own, unlike}
use Rattle.fc_commands.proofs.GrownMoveToldLemmas.{IsToldGrown, all_numbers, entry_now, last_told}
use Rattle.fc_commands.proofs.GrownMoveWantLemmas.{GrownRename}
use Rattle.fc_commands.proofs.GrownMoveWantLemmas as want
use Rattle.fc_commands.proofs.GrownPieceLemmas.{IsGrownReady}
use Rattle.fc_commands.proofs.MoveDirectoryLemmas.{entries_renamed}
use Rattle.fc_commands.proofs.MoveEditLemmas.{entries_stay, map_insert}
use Rattle.fc_commands.proofs.MoveLemmas.{AreOthers, IsOwn, are_others}
use Rattle.fc_commands.proofs.MoveLemmas as seen_of
use Rattle.fc_commands.proofs.MoveTellLemmas.{own_told}
use Rattle.fc_dirs.specs.Directory.{Directory, entries_of}
use Rattle.fc_dirs.specs.Entries.{entry_place}
use Rattle.fc_dirs.specs.declared.Entry.{Entry}
use Rattle.fc_drafts.specs.Draft.{directory_in}
use Rattle.fc_drafts.specs.Rewriting.{HasRenamed}
use Rattle.fc_edits.proofs.lemmas.ListLemmas.{map_map}
use Rattle.fc_edits.proofs.lemmas.ShapeLemmas.{kids_unlike, none_flat, of_one}
use Rattle.fc_edits.specs.Edit.{Amended, Edit}
use Rattle.fc_edits.specs.Moving.{edit, itself as amended_own, moved}
use Rattle.fc_edits.specs.Transfer.{Renames, Renaming, renaming_of, within}
use Rattle.fc_image.proofs.EntriesLemmas.{cases as contains_cases, later as contains_later}
use Rattle.fc_image.proofs.PathsLemmas.{itself}
use Rattle.fc_image.proofs.RenameLemmas.{stays}
use Rattle.fc_image.specs.EditedWalk.{moved_object}
use Rattle.fc_image.specs.Layout.{Layout}
use Rattle.fc_image.specs.Walk.{Listing, Object, is_directory_object}
use Rattle.fc_laws.proofs.lemmas.agree.CutLemmas.{cut_law}
use Rattle.fc_laws.proofs.lemmas.agree.RenamedLemmas.{moved_entry}
use Rattle.fc_laws.proofs.lemmas.agree.SayLemmas.{as_directory as says_it}
use Rattle.fc_laws.proofs.lemmas.nodes.ListLemmas.{cut_at, map_remove, put_at}
use Rattle.fc_names.specs.Names.{Path, is_same_path}
use Rattle.fc_tree.proofs.EndLemmas.{no_twin as apart_names}
use Rattle.fc_tree.proofs.MemberLemmas.{contains_here, from_map, in_map, no_element}
use Rattle.fc_tree.proofs.SoundLemmas.{children_stored, same_object}
use Rattle.fc_tree.proofs.WalkedLemmas.{listed_directory}
use Rattle.fc_tree.specs.Nodes.{is_directory_node, number_of}
use Rattle.std.proofs.Common.{Bool, List, Some, [], ap, ap₂, cond, eq-eqb, false, flat_map, inl, inr, insert, map, refl, remove, subst, sym, true, ℕ, ⊎_elim, ◌++◌, ◌==◌, ◌∙◌, ◌∷◌, ◌≡◌}
use Rattle.std.proofs.lemmas.Bool.{false_from_ne_true as unless}
use Rattle.std.proofs.lemmas.List.{append-nil}
use Rattle.std.proofs.lemmas.List.Elements.{Contains-append_right}
use Rattle.std.proofs.lemmas.List.Sorted.{Contains-permutation, IsPermutation-refl, IsPermutation-sym}
use Rattle.std.specs.Prelude.{Contains, IsPermutation}

-- a directory's number is told, if it is the object
pub own_numbers : (w : PlainRename) (b : Bool) (is_b : (w.q.r.holder == w.q.r.target.holder) ≡ b) (o : IsOwnGrown w.q (told (base w) b is_b).own)
    → ((d : Listing × Directory) → Contains o.own d → Contains (numbers (own_told (is_directory_node w.q.nodes w.q.r.target.node) w.q.r w.q.name)) (numb w.q d.0))
    × ((n : ℕ) → Contains (numbers (own_told (is_directory_node w.q.nodes w.q.r.target.node) w.q.r w.q.name)) n → (d : Listing × Directory) × Contains o.own d × (numb w.q d.0 ≡ n))
own_numbers w b is_b o = (there, back)
  where
    kind : is_directory_node w.q.nodes w.q.r.target.node ≡ is_directory_object (it w.q)
    kind = seen_of.node_kind (layout w.q) w.q.nodes w.q.listings w.q.from w.q.to w.q.r w.q.name w.q.seen

    there : (d : Listing × Directory) → Contains o.own d → Contains (numbers (own_told (is_directory_node w.q.nodes w.q.r.target.node) w.q.r w.q.name)) (numb w.q d.0)
    there d at =
        let f = own_in w.q (told (base w) b is_b).own o d at in
        let dir = ap is_directory_object (sym f.1) ∙ (listed_directory (layout w.q) w.q.listings w.q.seen.sound d.0 f.0).1 in
        subst (λ (c : Bool). Contains (numbers (own_told c w.q.r w.q.name)) (numb w.q d.0)) (sym (kind ∙ dir))
        (subst (λ (n : ℕ). Contains (w.q.r.target.node ∷ []) n) (it_numb w.q d.0 f.0 f.1) (contains_here w.q.r.target.node []))

    back : (n : ℕ) → Contains (numbers (own_told (is_directory_node w.q.nodes w.q.r.target.node) w.q.r w.q.name)) n → (d : Listing × Directory) × Contains o.own d × (numb w.q d.0 ≡ n)
    back n at = by o.is
      where
        by : IsOwn w.q.listings (it w.q) o.own → (d : Listing × Directory) × Contains o.own d × (numb w.q d.0 ≡ n)
        by (inl file) = absurd (no_element n (subst (λ (c : Bool). Contains (numbers (own_told c w.q.r w.q.name)) n) (kind ∙ file.0) at))
        by (inr (d, one, found, is)) =
            let dir = ap is_directory_object (sym is) ∙ (listed_directory (layout w.q) w.q.listings w.q.seen.sound d.0 found).1 in
            let same : n ≡ w.q.r.target.node =
            ⊎_elim (λ here. sym here) (λ none. absurd (no_element n none)) (contains_cases w.q.r.target.node n [] (subst (λ (c : Bool). Contains (numbers (own_told c w.q.r w.q.name)) n) (kind ∙ dir) at)) in
            (d, subst (λ (ds : List (Listing × Directory)). Contains ds d) (sym one) (contains_here d []), sym (it_numb w.q d.0 found is) ∙ sym same)

module _ (w : PlainRename) (here : w.q.r.holder ≡ w.q.r.target.holder) where
  abbrev q : GrownRename
  q = w.q

  pub is_b : (w.q.r.holder == w.q.r.target.holder) ≡ true
  is_b = eq-eqb w.q.r.holder w.q.r.target.holder here

  abbrev pub tl : IsToldGrown w.q (entry_now w.q) true w.pr.change
  tl = told (base w) true is_b

  abbrev pub rd : IsGrownReady (Layout.New w.q.m) w.q.nodes (want.grown w.q).0 (told (base w) true is_b).said ((told (base w) true is_b).about ++ ((told (base w) true is_b).own ++ (told (base w) true is_b).home)) w.ready.made w.pr.ready
  rd = ready_of.ready (base w) true is_b

  -- its directory
  abbrev d : Listing
  d = k w.q

  one : w.q.seen.known.destination.listing ≡ w.q.seen.known.target.listing
  one = (w.q.seen.known.within here).0

  abbrev at : ℕ
  at = w.q.r.target.at

  abbrev e : Entry
  e = entry_now w.q

  abbrev content : Directory
  content = directory_in tl.said.draft

  renamed : HasRenamed (now w.q w.q.seen.known.destination.listing.object.path) w.q.r.target.at (entry_now w.q) w.q.seen.known.destination.listing.content (directory_in (told (base w) true is_b).said.draft)
  renamed = rewritten_own q (Rewriting.Renames at e) tl.said tl.tells (λ n. refl)

  pub renamed_in : HasRenamed (now w.q w.q.seen.known.destination.listing.object.path) w.q.r.target.at (entry_now w.q) w.q.seen.known.target.listing.content (directory_in (told (base w) true is_b).said.draft)
  renamed_in = subst (λ (y : Listing). HasRenamed (now q (l q).object.path) at e y.content content) one renamed

  pub says : FirstSays w.q (directory_in (told (base w) true is_b).said.draft)
  says = renamed_says q e refl here content renamed

  pub own : IsOwnGrown w.q (told (base w) true is_b).own
  own = own_grown q tl.own tl.tell_own

  -- ---- the edit

  cut : (rest : List Listing) × IsPermutation w.q.listings (w.q.seen.known.target.listing ∷ rest)
  cut = cut_law.one q.listings d q.seen.known.target.listed

  pub others : AreOthers w.q.listings w.q.seen.known.target.object (w.q.seen.known.target.listing ∷ []) own.own
  others =
      are_others (layout q) q.listings q.seen.sound (it q) (d ∷ []) cut.0 cut.1 (of_one (λ (y : Listing). y.object ≡ it q → ⊥) d (seen_of.k_other (layout q) q.nodes q.listings q.from q.to q.r q.name q.seen)) own.own own.is

  abbrev pub kids : List Object
  kids = remove d.children at

  abbrev pub f : Object → Object
  f = moved_object (it q).path (d.object.path ++ q.name ∷ [])

  abbrev pub place : ℕ
  place = entry_place q.name (remove (entries_of d.content) at)

  abbrev pub c : Renaming
  c = record {
    l = w.q.seen.known.target.listing;
    dir = w.q.r.holder;
    content = directory_in (told (base w) true is_b).said.draft;
    children = insert (map f kids) place (f (it q));
    kids = kids;
    own = own.own;
    rest = others.rest;
    o = w.q.seen.known.target.object;
    number = w.q.r.target.node;
    name = w.q.name;
  }

  stored : map (λ (p : Object). p.entry) c.children ≡ entries_of content
  stored =
      map_insert (map f kids) place (f (it q))
      ∙ ap₂ (λ (es : List Entry) (y : Entry). insert es place y)
      (entries_stay (it q).path (d.object.path ++ q.name ∷ []) kids (kids_unlike (layout q) q.listings q.seen.sound d (it q) kids q.seen.known.target.listed (cut_at d.children at (it q) q.seen.known.target.at))
      ∙ map_remove (λ (p : Object). p.entry) d.children at ∙ ap (λ (es : List Entry). remove es at) (children_stored (layout q) q.listings q.seen.sound d q.seen.known.target.listed))
      (moved_entry d.object.path q.name (it q) ∙ sym (plain_entry w))
      ∙ sym (entries_renamed (now q (l q).object.path) at e d.content content renamed_in)

  number : number_of w.q.nodes w.q.seen.known.target.listing.object.path ≡ Some w.q.r.holder
  number = seen_of.same_listing_number (layout q) q.nodes q.listings q.from q.to q.r q.name q.seen here

  pub renames : Renames w.q.nodes w.q.listings c
  renames = record {
    found = others.found;
    dir_is = number;
    number_is = q.seen.known.target.node_is;
    holds = cut_at d.children at (it q) q.seen.known.target.at;
    holds_now = put_at (map f kids) place (f (it q));
    stored = stored;
    apart = apart_names content (says_it content rd.drafted.sayable);
    own_is = λ y there. (let g = own_in q tl.own own y there in (g.1, (own.moved y there).entries));
    others = others.others;
  }

  -- ---- as an edit beside the growth

  abbrev up : Path → ℕ
  up path = cond (is_same_path (it q).path path) (want.grown q).0.directory.address (now q path)

  abbrev pub e_move : Edit
  e_move = edit (renaming_of c)

  abbrev owns : List Amended
  owns = map (amended_own (renaming_of c)) own.own

  pub l_stays : moved (renaming_of c) w.q.seen.known.destination.listing.object ≡ w.q.seen.known.destination.listing.object
  l_stays = stays (it q).path (d.object.path ++ q.name ∷ []) (l q).object (not_in q)

  were : map (λ (a : Amended). a.was) (within c ∷ (owns ++ [])) ≡ d ∷ map (λ (y : Listing × Directory). y.0) own.own
  were =
      ap (λ (as' : List Amended). d ∷ map (λ (a : Amended). a.was) as') (append-nil owns) ∙ ap (λ (ds : List Listing). d ∷ ds) (map_map (λ (a : Amended). a.was) (amended_own (renaming_of c)) own.own)

  found : IsPermutation w.q.listings (map (λ (a : Amended). a.was) (within c ∷ (owns ++ [])) ++ others.rest)
  found = subst (λ (ds : List Listing). IsPermutation q.listings (ds ++ others.rest)) (sym were) others.found

  abbrev ns : List ℕ
  ns = all_numbers q.nodes q.r q.name true

  numbers_own : numbers (last_told w.q.nodes w.q.r w.q.name true) ≡ numbers (own_told (is_directory_node w.q.nodes w.q.r.target.node) w.q.r w.q.name)
  numbers_own = ap (λ (ys : List (ℕ × Rewriting)). numbers ys) (append-nil (own_told (is_directory_node q.nodes q.r.target.node) q.r q.name))

  number_first : numb w.q w.q.seen.known.target.listing ≡ w.q.r.holder
  number_first = ap (numb q) (sym one) ∙ sym (holder_numb q)

  are_told : (a : Amended) → Contains (within c ∷ (owns ++ [])) a → is_told ns (numb q a.was) ≡ true
  are_told a there =
      told_in ns (numb q a.was)
      (⊎_elim (λ is. subst (λ (y : Amended). Contains ns (numb q y.was)) is (subst (Contains ns) (sym number_first) (contains_here q.r.holder (numbers (last_told q.nodes q.r q.name true)))))
      (λ later.
      (let y = from_map (amended_own (renaming_of c)) own.own a (subst (λ (bs : List Amended). Contains bs a) (append-nil owns) later) in
      contains_later q.r.holder (numb q a.was) (numbers (last_told q.nodes q.r q.name true))
      (subst (λ (ms : List ℕ). Contains ms (numb q a.was)) (sym numbers_own) (subst (λ (z : Amended). Contains (numbers (own_told (is_directory_node q.nodes q.r.target.node) q.r q.name)) (numb q z.was)) y.2 ((own_numbers w true is_b own).0 y.0 y.1)))))
      (contains_cases (within c) a (owns ++ []) there))

  untold : (y : Listing) → Contains others.rest y → is_told ns (numb q y) ≡ false
  untold =
      untold_in q ns (d ∷ map (λ (y : Listing × Directory). y.0) own.own) others.rest others.found
      (λ n there.
      ⊎_elim (λ is. (d, contains_here d (map (λ (y : Listing × Directory). y.0) own.own), number_first ∙ is))
      (λ later.
      (let y = (own_numbers w true is_b own).1 n (subst (λ (ms : List ℕ). Contains ms n) numbers_own later) in
      (y.0.0, contains_later d y.0.0 (map (λ (z : Listing × Directory). z.0) own.own) (in_map (λ (z : Listing × Directory). z.0) own.own y.0 y.1), y.2)))
      (contains_cases q.r.holder n (numbers (last_told q.nodes q.r q.name true)) there))

  pub rest_in : (y : Listing) → Contains others.rest y → Contains w.q.listings y
  rest_in y there =
      let all = (d ∷ []) ++ (map (λ (z : Listing × Directory). z.0) own.own ++ others.rest) in
      Contains-permutation all q.listings y (IsPermutation-sym q.listings all others.found)
      (contains_later d y (map (λ (z : Listing × Directory). z.0) own.own ++ others.rest) (Contains-append_right (map (λ (z : Listing × Directory). z.0) own.own) others.rest y there))

  pub rest_other : (y : Listing) → Contains others.rest y → is_same_path w.q.seen.known.target.object.path y.object.path ≡ false
  rest_other y there = unless (is_same_path (it q).path y.object.path) (λ same. absurd (others.others y there
      (same_object (layout q) q.listings q.seen.sound (it q).path y.object (it q) (listed_directory (layout q) q.listings q.seen.sound y (rest_in y there)).0
      (seen_of.among (layout q) q.nodes q.listings q.from q.to q.r q.name q.seen) same (itself (it q).path))))

  pub own_none : (a : Amended) → Contains (map (amended_own (renaming_of c)) own.own) a → (a.leave ≡ []) × (a.join ≡ [])
  own_none a there = let y = from_map (amended_own (renaming_of c)) own.own a there in (ap (λ (b : Amended). b.leave) (sym y.2), ap (λ (b : Amended). b.join) (sym y.2))

  pub one_leaves : flat_map (λ (a : Amended). a.leave) (within c ∷ (map (amended_own (renaming_of c)) own.own ++ [])) ≡ (w.q.r.target.node, w.q.seen.known.target.object) ∷ []
  one_leaves = ap (λ (rs : List (ℕ × Object)). (q.r.target.node, it q) ∷ rs)
      (ap (λ (bs : List Amended). flat_map (λ (a : Amended). a.leave) bs) (append-nil owns) ∙ none_flat (λ (a : Amended). a.leave) (amended_own (renaming_of c)) own.own (λ y. refl))

  pub is_plain : IsPlainEdit w.q (edit (renaming_of c)) (all_numbers w.q.nodes w.q.r w.q.name true) (within c) (map (amended_own (renaming_of c)) own.own ++ [])
  is_plain = record {
    found = found;
    amended_is = subst (λ (bs : List Amended). IsPermutation e_move.amended (within c ∷ bs)) (sym (append-nil owns)) (IsPermutation-refl e_move.amended);
    first_is = sym one;
    first_number = sym (grown_numb q);
    stays = l_stays;
    none_leave = refl;
    none_join = refl;
    are_told = are_told;
    untold = untold;
    keeps = λ y there. record { sectors = refl; len = refl; attrs = refl };
    others = rest_other;
  }

  pub its_first : IsSaidNow w.q (become w.q (edit (renaming_of c))) (λ path. cond (is_same_path w.q.seen.known.target.object.path path) (want.grown w.q).0.directory.address (now w.q path)) (within c) (told (base w) true is_b).said rd.own
  its_first = first_said q e_move up l_stays (ap (λ (b : Bool). cond b (want.grown q).0.directory.address (now q (l q).object.path)) (unlike q)) (within c) tl.said rd.own (sym one) (sym (grown_numb q)) (sym tl.tells.number) refl says rd.drafted rd.place

  pub its_own : AllSaidNow w.q (become w.q (edit (renaming_of c))) (λ path. cond (is_same_path w.q.seen.known.target.object.path path) (want.grown w.q).0.directory.address (now w.q path)) (map (amended_own (renaming_of c)) own.own) (told (base w) true is_b).own (own_cut (base w) true is_b).0
  its_own = own_said_now q (renaming_of c) up e_move refl refl (λ path same. ap (λ (b : Bool). cond b (want.grown q).0.directory.address (now q path)) same) tl.own (own_cut (base w) true is_b).0 own (own_cut (base w) true is_b).3

  abbrev pub x : PlainMove w.q
  x = record {
    edit = edit (renaming_of c);
    numbers = all_numbers w.q.nodes w.q.r w.q.name true;
    first = within c;
    own = map (amended_own (renaming_of c)) own.own;
    home = [];
    up = λ path. cond (is_same_path w.q.seen.known.target.object.path path) (want.grown w.q).0.directory.address (now w.q path);
    number = w.q.r.target.node;
    moved = moved (renaming_of c) w.q.seen.known.target.object;
    gone = w.q.seen.known.target.object;
    s0 = (told (base w) true is_b).said;
    p0 = rd.own;
    os = (told (base w) true is_b).own;
    ops = (own_cut (base w) true is_b).0;
    is = is_plain;
    up_is = λ path other. ap (λ (b : Bool). cond b (want.grown w.q).0.directory.address (now w.q path)) other;
    first_said = its_first;
    own_said = its_own;
    first_join = refl;
    own_none = own_none;
    home_join = λ a there. absurd (no_element a there);
    leaves = one_leaves;
  }

  -- The growth is a part of it.
  pub grown_move : IsGrownMove w.q x ((told (base w) true is_b).said ∷ ((told (base w) true is_b).about ++ ((told (base w) true is_b).own ++ (told (base w) true is_b).home))) (rd.own ∷ ((about_cut (base w) true is_b).0 ++ ((own_cut (base w) true is_b).0 ++ (own_cut (base w) true is_b).1)))
  grown_move =
      whole q x tl.about (about_cut (base w) true is_b).0 tl.tell_about (about_cut (base w) true is_b).3 tl.home (own_cut (base w) true is_b).1
      (none_more q (become q e_move) up tl.home (own_cut (base w) true is_b).1 tl.tell_home (own_cut (base w) true is_b).4) (λ h there kid. above_free q true h there kid (λ none. no_element (numb q h) none))
