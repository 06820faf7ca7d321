-- `rename` to another directory, which grows by the new entry: its edit, by what the directory says that loses the object.
use Rattle.fc_change.specs.Directories.{Rewriting, is_told, numbers}
use Rattle.fc_commands.proofs.GrownMoveEditLemmas.{AllSaidNow, IsPlainEdit, IsSaidNow, become, flat_both}
use Rattle.fc_commands.proofs.GrownMoveFirstLemmas.{first_said, own_in, own_said_now, told_in, untold_in}
use Rattle.fc_commands.proofs.GrownMoveMadeLemmas.{up_in}
use Rattle.fc_commands.proofs.GrownMovePartLemmas.{PlainMove}
use Rattle.fc_commands.proofs.GrownMoveReadyLemmas.{IsHomeTold, PlainRename, about_cut, above_free, base, home_told_of, own_cut, plain_entry, told}
use Rattle.fc_commands.proofs.GrownMoveReadyLemmas as ready_of
use Rattle.fc_commands.proofs.GrownMoveSaidLemmas.{FirstSays, IsOwnGrown, entered_says, grown_numb, holder_numb, home_numb, it, k, l, layout, listed, not_in, now, numb, own_grown, rewritten_own, unlike}
use Rattle.fc_commands.proofs.GrownMoveToldLemmas.{IsToldGrown, all_numbers, entry_now, last_told}
use Rattle.fc_commands.proofs.GrownMoveWantLemmas.{GrownRename}
use Rattle.fc_commands.proofs.GrownMoveWantLemmas as want
use Rattle.fc_commands.proofs.GrownMoveWithinLemmas.{own_numbers}
use Rattle.fc_commands.proofs.GrownPieceLemmas.{IsGrownReady}
use Rattle.fc_commands.proofs.MoveDirectoryLemmas.{entries_entered}
use Rattle.fc_commands.proofs.MoveEditLemmas.{entries_stay, map_insert}
use Rattle.fc_commands.proofs.MoveLemmas.{AreOthers, are_others}
use Rattle.fc_commands.proofs.MoveLemmas as seen_of
use Rattle.fc_commands.proofs.MoveTellLemmas.{own_told}
use Rattle.fc_dirs.specs.Directory.{Directory, entries_of}
use Rattle.fc_dirs.specs.Entries.{entry_place, first_twin}
use Rattle.fc_dirs.specs.declared.Entry.{Entry}
use Rattle.fc_drafts.specs.Draft.{directory_in}
use Rattle.fc_drafts.specs.Rewriting.{HasEntered}
use Rattle.fc_edits.proofs.lemmas.ListLemmas.{map_map}
use Rattle.fc_edits.proofs.lemmas.ShapeLemmas.{kids_unlike, none_flat, only}
use Rattle.fc_edits.specs.Edit.{Amended, Edit}
use Rattle.fc_edits.specs.Moving.{edit, itself as amended_own, moved}
use Rattle.fc_edits.specs.Transfer.{Transfer, Transfers, from_it, to_it, transfer_of}
use Rattle.fc_image.proofs.EntriesLemmas.{cases as contains_cases, later as contains_later}
use Rattle.fc_image.proofs.PathsLemmas.{itself}
use Rattle.fc_image.proofs.RenameLemmas.{stays}
use Rattle.fc_image.proofs.TreeLemmas.{map_both as map_append}
use Rattle.fc_image.specs.EditedWalk.{moved_object}
use Rattle.fc_image.specs.Layout.{Layout}
use Rattle.fc_image.specs.Walk.{Listing, Object}
use Rattle.fc_laws.proofs.lemmas.agree.CutLemmas.{cut_law}
use Rattle.fc_laws.proofs.lemmas.agree.RenamedLemmas.{moved_entry}
use Rattle.fc_laws.proofs.lemmas.agree.SayLemmas.{as_directory as says_it}
use Rattle.fc_laws.proofs.lemmas.nodes.ListLemmas.{cut_at, map_remove, put_at}
use Rattle.fc_names.specs.Names.{is_same_path}
use Rattle.fc_tree.proofs.EndLemmas.{no_twin as apart_names}
use Rattle.fc_tree.proofs.MemberLemmas.{contains_here, from_map, in_map, no_element}
use Rattle.fc_tree.proofs.SoundLemmas.{children_stored, same_object}
use Rattle.fc_tree.proofs.WalkedLemmas.{listed_directory}
use Rattle.fc_tree.specs.Nodes.{is_directory_node}
use Rattle.std.proofs.Common.{Bool, List, None, [], ap, append_assoc, ap₂, cond, false, flat_map, insert, map, refl, remove, subst, sym, true, ℕ, ⊎_elim, ◌++◌, ◌==◌, ◌∙◌, ◌∷◌, ◌≡◌}
use Rattle.std.proofs.lemmas.Bool.{false_from_ne_true as unless, ne_eqb}
use Rattle.std.proofs.lemmas.List.{append-nil}
use Rattle.std.proofs.lemmas.List.Elements.{Contains-append_cases, Contains-append_left, Contains-append_right}
use Rattle.std.proofs.lemmas.List.Sorted.{Contains-permutation, IsPermutation-cons, IsPermutation-middle, IsPermutation-refl, IsPermutation-sym, IsPermutation-trans}
use Rattle.std.specs.Prelude.{Contains, IsPermutation}

module _ (w : PlainRename) (away : w.q.r.holder ≡ w.q.r.target.holder → ⊥) where
  abbrev q : GrownRename
  q = w.q

  pub is_b : (w.q.r.holder == w.q.r.target.holder) ≡ false
  is_b = ne_eqb w.q.r.holder w.q.r.target.holder away

  abbrev pub tl : IsToldGrown w.q (entry_now w.q) false w.pr.change
  tl = told (base w) false is_b

  abbrev pub rd : IsGrownReady (Layout.New w.q.m) w.q.nodes (want.grown w.q).0 (told (base w) false is_b).said ((told (base w) false is_b).about ++ ((told (base w) false is_b).own ++ (told (base w) false is_b).home)) w.ready.made w.pr.ready
  rd = ready_of.ready (base w) false is_b

  abbrev e : Entry
  e = entry_now q

  abbrev content : Directory
  content = directory_in tl.said.draft

  pub entered : HasEntered (now w.q w.q.seen.known.destination.listing.object.path) (entry_now w.q) w.q.seen.known.destination.listing.content (directory_in (told (base w) false is_b).said.draft)
  entered = rewritten_own q (Rewriting.Enters e) tl.said tl.tells (λ n. refl)

  pub says : FirstSays w.q (directory_in (told (base w) false is_b).said.draft)
  says = entered_says q e refl away content entered

  pub own : IsOwnGrown w.q (told (base w) false is_b).own
  own = own_grown q tl.own tl.tell_own

  -- the directory that loses it is told so, and has its piece
  abbrev pub home : IsHomeTold (base w) is_b
  home = home_told_of (base w) is_b

  -- ---- the edit

  cut : (rest : List Listing) × IsPermutation w.q.listings (w.q.seen.known.target.listing ∷ w.q.seen.known.destination.listing ∷ rest)
  cut = cut_law.two q.listings (k q) (l q) q.seen.known.target.listed (listed q) (seen_of.both (layout q) q.nodes q.listings q.from q.to q.r q.name q.seen away)

  pub others : AreOthers w.q.listings w.q.seen.known.target.object (w.q.seen.known.target.listing ∷ w.q.seen.known.destination.listing ∷ []) own.own
  others =
      are_others (layout q) q.listings q.seen.sound (it q) (k q ∷ l q ∷ []) cut.0 cut.1
      (λ d there.
      ⊎_elim (λ is. subst (λ (y : Listing). y.object ≡ it q → ⊥) is (seen_of.k_other (layout q) q.nodes q.listings q.from q.to q.r q.name q.seen))
      (λ later. subst (λ (y : Listing). y.object ≡ it q → ⊥) (only (l q) d later) (seen_of.l_other (layout q) q.nodes q.listings q.from q.to q.r q.name q.seen away)) (contains_cases (k q) d (l q ∷ []) there))
      own.own own.is

  abbrev pub kids : List Object
  kids = remove w.q.seen.known.target.listing.children w.q.r.target.at

  abbrev pub f : Object → Object
  f = moved_object w.q.seen.known.target.object.path (w.q.seen.known.destination.listing.object.path ++ w.q.name ∷ [])

  abbrev pub place : ℕ
  place = entry_place w.q.name (entries_of w.q.seen.known.destination.listing.content)

  l_stored : map (λ (p : Object). p.entry) (insert (map f w.q.seen.known.destination.listing.children) place (f w.q.seen.known.target.object)) ≡ entries_of (directory_in (told (base w) false is_b).said.draft)
  l_stored =
      map_insert (map f (l q).children) place (f (it q))
      ∙ ap₂ (λ (es : List Entry) (y : Entry). insert es place y)
      (entries_stay (it q).path ((l q).object.path ++ q.name ∷ []) (l q).children (seen_of.others_unlike (layout q) q.nodes q.listings q.from q.to q.r q.name q.seen away)
      ∙ children_stored (layout q) q.listings q.seen.sound (l q) (listed q))
      (moved_entry (l q).object.path q.name (it q) ∙ sym (plain_entry w))
      ∙ sym (entries_entered (now q (l q).object.path) e (l q).content content entered (seen_of.absent (layout q) q.nodes q.listings q.from q.to q.r q.name q.seen away))

  -- With this the other directory would say without the growth.
  module _ (k_content : Directory) (removed : entries_of k_content ≡ remove (entries_of w.q.seen.known.target.listing.content) w.q.r.target.at) (apart : first_twin (entries_of k_content) ≡ None) where
    abbrev pub c : Transfer
    c = record {
      k = w.q.seen.known.target.listing;
      home = w.q.r.target.holder;
      k_content = k_content;
      k_children = map f kids;
      kids = kids;
      l = w.q.seen.known.destination.listing;
      dir = w.q.r.holder;
      l_content = directory_in (told (base w) false is_b).said.draft;
      l_children = insert (map f w.q.seen.known.destination.listing.children) place (f w.q.seen.known.target.object);
      own = own.own;
      rest = others.rest;
      o = w.q.seen.known.target.object;
      number = w.q.r.target.node;
      name = w.q.name;
    }

    pub transfers : Transfers w.q.nodes w.q.listings c
    transfers = record {
      found = others.found;
      home_is = q.seen.known.target.holder_is;
      dir_is = q.seen.known.destination.holder_is;
      number_is = q.seen.known.target.node_is;
      not_into = seen_of.not_into (layout q) q.nodes q.listings q.from q.to q.r q.name q.seen away;
      k_holds = cut_at (k q).children q.r.target.at (it q) q.seen.known.target.at;
      k_children = IsPermutation-refl (map f kids);
      k_entries =
          entries_stay (it q).path ((l q).object.path ++ q.name ∷ []) kids (kids_unlike (layout q) q.listings q.seen.sound (k q) (it q) kids q.seen.known.target.listed (cut_at (k q).children q.r.target.at (it q) q.seen.known.target.at))
          ∙ map_remove (λ (p : Object). p.entry) (k q).children q.r.target.at ∙ ap (λ (es : List Entry). remove es q.r.target.at) (children_stored (layout q) q.listings q.seen.sound (k q) q.seen.known.target.listed) ∙ sym removed;
      k_apart = apart;
      l_children = put_at (map f (l q).children) place (f (it q));
      l_entries = l_stored;
      l_apart = apart_names content (says_it content rd.drafted.sayable);
      own_is = λ y there. (let g = own_in q tl.own own y there in (g.1, (own.moved y there).entries));
      others = others.others;
    }

    -- ---- as an edit beside the growth

    abbrev pub e_move : Edit
    e_move = edit (transfer_of c)

    abbrev owns : List Amended
    owns = map (amended_own (transfer_of c)) own.own

    abbrev more : List Amended
    more = owns ++ from_it c ∷ []

    l_stays : moved (transfer_of c) w.q.seen.known.destination.listing.object ≡ w.q.seen.known.destination.listing.object
    l_stays = stays (it q).path ((l q).object.path ++ q.name ∷ []) (l q).object (not_in q)

    abbrev own_listings : List Listing
    own_listings = map (λ (y : Listing × Directory). y.0) own.own

    were : map (λ (a : Amended). a.was) (to_it c ∷ (owns ++ from_it c ∷ [])) ≡ l q ∷ (own_listings ++ k q ∷ [])
    were = ap (λ (ds : List Listing). l q ∷ ds)
        (map_append (λ (a : Amended). a.was) owns (from_it c ∷ []) ∙ ap (λ (ds : List Listing). ds ++ k q ∷ []) (map_map (λ (a : Amended). a.was) (amended_own (transfer_of c)) own.own))

    turned_front : IsPermutation (k q ∷ l q ∷ (own_listings ++ others.rest)) ((l q ∷ (own_listings ++ k q ∷ [])) ++ others.rest)
    turned_front =
        IsPermutation-trans (k q ∷ l q ∷ (own_listings ++ others.rest)) (l q ∷ k q ∷ (own_listings ++ others.rest)) ((l q ∷ (own_listings ++ k q ∷ [])) ++ others.rest)
        (IsPermutation-middle (k q ∷ []) (l q) (own_listings ++ others.rest))
        (IsPermutation-cons (l q) (k q ∷ (own_listings ++ others.rest)) ((own_listings ++ k q ∷ []) ++ others.rest)
        (subst (IsPermutation (k q ∷ (own_listings ++ others.rest))) (sym (append_assoc own_listings (k q ∷ []) others.rest))
        (IsPermutation-sym (own_listings ++ k q ∷ others.rest) (k q ∷ (own_listings ++ others.rest)) (IsPermutation-middle own_listings (k q) others.rest))))

    found : IsPermutation w.q.listings (map (λ (a : Amended). a.was) (to_it c ∷ (owns ++ from_it c ∷ [])) ++ others.rest)
    found = subst (λ (ds : List Listing). IsPermutation q.listings (ds ++ others.rest)) (sym were)
        (IsPermutation-trans q.listings (k q ∷ l q ∷ (own_listings ++ others.rest)) ((l q ∷ (own_listings ++ k q ∷ [])) ++ others.rest) others.found turned_front)

    abbrev ns : List ℕ
    ns = all_numbers q.nodes q.r q.name false

    abbrev own_ns : List ℕ
    own_ns = numbers (own_told (is_directory_node q.nodes q.r.target.node) q.r q.name)

    last_numbers : numbers (last_told w.q.nodes w.q.r w.q.name false) ≡ own_ns ++ w.q.r.target.holder ∷ []
    last_numbers = map_append (λ (y : ℕ × Rewriting). y.0) (own_told (is_directory_node q.nodes q.r.target.node) q.r q.name) ((q.r.target.holder, Rewriting.Leaves q.r.target.at) ∷ [])

    in_last : (n : ℕ) → Contains (own_ns ++ w.q.r.target.holder ∷ []) n → Contains ns n
    in_last n there = contains_later q.r.holder n (numbers (last_told q.nodes q.r q.name false)) (subst (λ (ms : List ℕ). Contains ms n) (sym last_numbers) there)

    are_told : (a : Amended) → Contains (to_it c ∷ (owns ++ from_it c ∷ [])) a → is_told ns (numb q a.was) ≡ true
    are_told a there =
        told_in ns (numb q a.was)
        (⊎_elim (λ is. subst (λ (y : Amended). Contains ns (numb q y.was)) is (subst (Contains ns) (holder_numb q) (contains_here q.r.holder (numbers (last_told q.nodes q.r q.name false)))))
        (λ later. ⊎_elim
        (λ mine.
        (let y = from_map (amended_own (transfer_of c)) own.own a mine in
        in_last (numb q a.was) (Contains-append_left own_ns (q.r.target.holder ∷ []) (numb q a.was) (subst (λ (z : Amended). Contains own_ns (numb q z.was)) y.2 ((own_numbers w false is_b own).0 y.0 y.1)))))
        (λ last. subst (λ (y : Amended). Contains ns (numb q y.was)) (only (from_it c) a last)
        (in_last (numb q (k q)) (Contains-append_right own_ns (q.r.target.holder ∷ []) (numb q (k q)) (subst (Contains (q.r.target.holder ∷ [])) (home_numb q) (contains_here q.r.target.holder [])))))
        (Contains-append_cases owns (from_it c ∷ []) a later)) (contains_cases (to_it c) a (owns ++ from_it c ∷ []) there))

    untold : (y : Listing) → Contains others.rest y → is_told ns (numb q y) ≡ false
    untold =
        untold_in q ns (k q ∷ l q ∷ own_listings) others.rest others.found
        (λ n there.
        ⊎_elim (λ is. (l q, contains_later (k q) (l q) (l q ∷ own_listings) (contains_here (l q) own_listings), sym (holder_numb q) ∙ is))
        (λ later. ⊎_elim
        (λ mine.
        (let y = (own_numbers w false is_b own).1 n mine in
        (y.0.0, contains_later (k q) y.0.0 (l q ∷ own_listings) (contains_later (l q) y.0.0 own_listings (in_map (λ (z : Listing × Directory). z.0) own.own y.0 y.1)), y.2)))
        (λ last. (k q, contains_here (k q) (l q ∷ own_listings), sym (home_numb q) ∙ sym (only_number n last)))
        (Contains-append_cases own_ns (q.r.target.holder ∷ []) n (subst (λ (ms : List ℕ). Contains ms n) last_numbers later)))
        (contains_cases q.r.holder n (numbers (last_told q.nodes q.r q.name false)) there))
      where
        only_number : (n : ℕ) → Contains (w.q.r.target.holder ∷ []) n → n ≡ w.q.r.target.holder
        only_number n there = ⊎_elim (λ is. sym is) (λ none. absurd (no_element n none)) (contains_cases w.q.r.target.holder n [] there)

    rest_in : (y : Listing) → Contains others.rest y → Contains w.q.listings y
    rest_in y there =
        let all = (k q ∷ l q ∷ []) ++ (own_listings ++ others.rest) in
        Contains-permutation all q.listings y (IsPermutation-sym q.listings all others.found)
        (contains_later (k q) y (l q ∷ (own_listings ++ others.rest)) (contains_later (l q) y (own_listings ++ others.rest) (Contains-append_right own_listings others.rest y there)))

    rest_other : (y : Listing) → Contains others.rest y → is_same_path w.q.seen.known.target.object.path y.object.path ≡ false
    rest_other y there = unless (is_same_path (it q).path y.object.path) (λ same. absurd (others.others y there
        (same_object (layout q) q.listings q.seen.sound (it q).path y.object (it q) (listed_directory (layout q) q.listings q.seen.sound y (rest_in y there)).0
        (seen_of.among (layout q) q.nodes q.listings q.from q.to q.r q.name q.seen) same (itself (it q).path))))

    pub own_none : (a : Amended) → Contains (map (amended_own (transfer_of c)) own.own) a → (a.leave ≡ []) × (a.join ≡ [])
    own_none a there = let y = from_map (amended_own (transfer_of c)) own.own a there in (ap (λ (b : Amended). b.leave) (sym y.2), ap (λ (b : Amended). b.join) (sym y.2))

    pub one_leaves : flat_map (λ (a : Amended). a.leave) (to_it c ∷ (map (amended_own (transfer_of c)) own.own ++ from_it c ∷ [])) ≡ (w.q.r.target.node, w.q.seen.known.target.object) ∷ []
    one_leaves = flat_both (λ (a : Amended). a.leave) owns (from_it c ∷ []) ∙ ap (λ (rs : List (ℕ × Object)). rs ++ (q.r.target.node, it q) ∷ []) (none_flat (λ (a : Amended). a.leave) (amended_own (transfer_of c)) own.own (λ y. refl))

    pub is_plain : IsPlainEdit w.q (edit (transfer_of c)) (all_numbers w.q.nodes w.q.r w.q.name false) (to_it c) (map (amended_own (transfer_of c)) own.own ++ from_it c ∷ [])
    is_plain = record {
      found = found;
      amended_is = IsPermutation-trans (from_it c ∷ to_it c ∷ owns) (to_it c ∷ from_it c ∷ owns) (to_it c ∷ (owns ++ from_it c ∷ [])) (IsPermutation-middle (from_it c ∷ []) (to_it c) owns)
          (IsPermutation-cons (to_it c) (from_it c ∷ owns) (owns ++ from_it c ∷ [])
          (IsPermutation-sym (owns ++ from_it c ∷ []) (from_it c ∷ owns) (subst (λ (bs : List Amended). IsPermutation (owns ++ from_it c ∷ []) (from_it c ∷ bs)) (append-nil owns) (IsPermutation-middle owns (from_it c) []))));
      first_is = refl;
      first_number = sym (grown_numb q);
      stays = l_stays;
      none_leave = refl;
      none_join = refl;
      are_told = are_told;
      untold = untold;
      keeps = λ y there. record { sectors = refl; len = refl; attrs = refl };
      others = rest_other;
    }

    pub its_first : IsSaidNow w.q (become w.q (edit (transfer_of c))) (up_in w.q w.q.seen.known.target.object) (to_it c) (told (base w) false is_b).said rd.own
    its_first = first_said q e_move (up_in q (it q)) l_stays (ap (λ (b : Bool). cond b (want.grown q).0.directory.address (now q (l q).object.path)) (unlike q)) (to_it c) tl.said rd.own refl (sym (grown_numb q)) (sym tl.tells.number) refl says rd.drafted rd.place

    pub its_own : AllSaidNow w.q (become w.q (edit (transfer_of c))) (up_in w.q w.q.seen.known.target.object) (map (amended_own (transfer_of c)) own.own) (told (base w) false is_b).own (own_cut (base w) false is_b).0
    its_own = own_said_now q (transfer_of c) (up_in q (it q)) e_move refl refl (λ path same. ap (λ (b : Bool). cond b (want.grown q).0.directory.address (now q path)) same) tl.own (own_cut (base w) false is_b).0 own (own_cut (base w) false is_b).3

    pub home_none : (a : Amended) → Contains (from_it c ∷ []) a → a.join ≡ []
    home_none a there = subst (λ (b : Amended). b.join ≡ []) (only (from_it c) a there) refl

    abbrev pub x : PlainMove w.q
    x = record {
      edit = edit (transfer_of c);
      numbers = all_numbers w.q.nodes w.q.r w.q.name false;
      first = to_it c;
      own = map (amended_own (transfer_of c)) own.own;
      home = from_it c ∷ [];
      up = up_in w.q w.q.seen.known.target.object;
      number = w.q.r.target.node;
      moved = moved (transfer_of c) w.q.seen.known.target.object;
      gone = w.q.seen.known.target.object;
      s0 = (told (base w) false is_b).said;
      p0 = rd.own;
      os = (told (base w) false is_b).own;
      ops = (own_cut (base w) false is_b).0;
      is = is_plain;
      up_is = λ path other. ap (λ (b : Bool). cond b (want.grown w.q).0.directory.address (now w.q path)) other;
      first_said = its_first;
      own_said = its_own;
      first_join = refl;
      own_none = own_none;
      home_join = home_none;
      leaves = one_leaves;
    }
