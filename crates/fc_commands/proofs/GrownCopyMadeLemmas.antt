-- `rename` that copies its file into a directory that grows by it: the edit that it is, with the growth.
use Rattle.fc_change.specs.Directories.{is_holder, is_told}
use Rattle.fc_change.specs.Prepared.{IsNewPiece}
use Rattle.fc_change.specs.declared.change.Says.{Says}
use Rattle.fc_change.specs.declared.change.Turned.{Turned}
use Rattle.fc_change.specs.declared.change.Turned.TheVariants as turns
use Rattle.fc_change.specs.declared.spaces.Place.{Place}
use Rattle.fc_commands.proofs.GrownCopyBackLemmas.{back_unused}
use Rattle.fc_commands.proofs.GrownCopyEditLemmas.{all_stay, away, content, dir_other, entered, entry_at, home, is_b, its, lies_at, no_own, no_own_piece, ns_are, rd, says, stays_as, there, tl}
use Rattle.fc_commands.proofs.GrownCopyWantLemmas.{CopiedRename, SpottedRename, base, spotted}
use Rattle.fc_commands.proofs.GrownMoveAsideLemmas.{from_home, held_in_it, holder_other, k_told, k_up}
use Rattle.fc_commands.proofs.GrownMoveEditLemmas.{AllSaidNow, IsPlainEdit, IsSaidNow, KeepsBody, become}
use Rattle.fc_commands.proofs.GrownMoveFirstLemmas.{first_said, home_said, told_in, untold_in}
use Rattle.fc_commands.proofs.GrownMoveMadeLemmas.{EditedRename, IsPlacedEdit, MadeEdit, up_in}
use Rattle.fc_commands.proofs.GrownMovePartLemmas.{IsGrownMove, PlainMove}
use Rattle.fc_commands.proofs.GrownMoveReadyLemmas.{about_cut, above_free, own_cut, pieces_are, told, whole, whole_home}
use Rattle.fc_commands.proofs.GrownMoveSaidLemmas.{anew, grown_numb, holder_numb, holding_says, home_numb, it, k, l, layout, listed, now, numb, plain_says, regrown_name, unlike}
use Rattle.fc_commands.proofs.GrownMoveToldLemmas.{all_numbers, entry_now}
use Rattle.fc_commands.proofs.GrownMoveWantLemmas.{GrownRename}
use Rattle.fc_commands.proofs.GrownMoveWantLemmas as want
use Rattle.fc_commands.proofs.GrownSpaceLemmas.{growing_of}
use Rattle.fc_commands.proofs.MoveDirectoryLemmas.{entries_entered}
use Rattle.fc_commands.proofs.MoveEditLemmas.{map_insert}
use Rattle.fc_commands.proofs.MoveLemmas as seen_of
use Rattle.fc_dirs.specs.Directory.{Directory, entries_of}
use Rattle.fc_dirs.specs.Entries.{entry_place, first_twin}
use Rattle.fc_dirs.specs.declared.Entry.{Entry}
use Rattle.fc_drafts.specs.Draft.{directory_in}
use Rattle.fc_edits.proofs.lemmas.CopyingLemmas.{is_copy}
use Rattle.fc_edits.proofs.lemmas.GrownCopyingLemmas.{grown_copying_law}
use Rattle.fc_edits.proofs.lemmas.ShapeLemmas.{kids_unlike, only}
use Rattle.fc_edits.specs.Copying.{Copies, Copying, copied, edit, from_it, to_it}
use Rattle.fc_edits.specs.Edit.{Amended}
use Rattle.fc_image.proofs.EntriesLemmas.{cases as contains_cases, later as contains_later}
use Rattle.fc_image.specs.Walk.{Listing, Object}
use Rattle.fc_image.specs.effects.Steady.{holds_named, is_renamed_by, regrown_entry, with_made, without_name}
use Rattle.fc_laws.proofs.lemmas.agree.CutLemmas.{cut_law}
use Rattle.fc_laws.proofs.lemmas.agree.SayLemmas.{as_directory as says_it}
use Rattle.fc_laws.proofs.lemmas.nodes.ListLemmas.{cut_at, map_remove, put_at}
use Rattle.fc_laws.specs.nodes.Edits.{owners_with}
use Rattle.fc_model.specs.Command.{Command}
use Rattle.fc_model.specs.Tree.{holder, last_name}
use Rattle.fc_names.specs.Names.{is_same_path}
use Rattle.fc_objects.specs.Extents.{sectors_in}
use Rattle.fc_laws.proofs.lemmas.agree.TwinLemmas.{twins_same}
use Rattle.fc_tree.proofs.EndLemmas.{no_twin as apart_names}
use Rattle.fc_tree.proofs.MemberLemmas.{contains_here, no_element}
use Rattle.fc_tree.proofs.SoundLemmas.{children_stored}
use Rattle.fc_writing.specs.declared.ready.Piece.{Piece}
use Rattle.std.proofs.Common.{Bool, List, None, Option, Some, [], ap, ap₂, cond, false, inl, inr, insert, map, refl, remove, subst, sym, true, ℕ, ⊎_elim, ◌++◌, ◌||◌, ◌∙◌, ◌∷◌, ◌≡◌}
use Rattle.std.proofs.lemmas.Bool.{or_right as or_second}
use Rattle.std.proofs.lemmas.List.{append-nil}
use Rattle.std.proofs.lemmas.List.Sorted.{Contains-permutation, IsPermutation-middle, IsPermutation-refl, IsPermutation-sym, IsPermutation-trans}
use Rattle.std.specs.Prelude.{Contains, IsPermutation}

abbrev pub copying_of : SpottedRename → Copying → EditedRename
copying_of w c = record {
  q = w.q;
  pr = w.pr;
  change = w.change;
  ready = w.ready;
  e = edit c;
  then = copied c w.q.seen.known.target.object;
}

abbrev pub placed_copy : (w : CopiedRename) (c : Copying) → IsPlacedEdit (copying_of (spotted w) c)
placed_copy w c = record { placed = w.placed; unused = back_unused w.q w.placed w.copied }

-- The file becomes its copy.
pub record MadeCopy (w : SpottedRename) : Type 0 where
  pub c : Copying
  pub part : MadeEdit (copying_of w c)
  pub copies : Copies w.q.nodes w.q.listings c
  pub o_is : c.o ≡ w.q.seen.known.target.object
  pub name_is : c.name ≡ w.q.name
  pub l_is : c.l.object ≡ w.q.seen.known.destination.listing.object
  pub address : c.address ≡ w.spot.place.address
  pub sectors : c.sectors ≡ sectors_in w.spot.place.extents.items
  pub left : entries_of c.k_content ≡ without_name (last_name w.q.from) (entries_of c.k.content)
  pub joined : entries_of c.l_content ≡ with_made (Some (copied c c.o).entry) (entries_of c.l.content)

module _ (w : SpottedRename) where
  abbrev q : GrownRename
  q = w.q

  abbrev ns : List ℕ
  ns = all_numbers w.q.nodes w.q.r w.q.name false

  -- ---- the edit

  cut : (rest : List Listing) × IsPermutation w.q.listings (w.q.seen.known.target.listing ∷ w.q.seen.known.destination.listing ∷ rest)
  cut = cut_law.two q.listings (k q) (l q) q.seen.known.target.listed (listed q) (seen_of.both (layout q) q.nodes q.listings q.from q.to q.r q.name q.seen (away w))

  abbrev kids : List Object
  kids = remove w.q.seen.known.target.listing.children w.q.r.target.at

  abbrev place : ℕ
  place = entry_place w.q.name (entries_of w.q.seen.known.destination.listing.content)

  abbrev copy : Object
  copy = record { path = w.q.seen.known.destination.listing.object.path ++ w.q.name ∷ []; entry = there w; sectors = sectors_in (lies_at w).place.extents.items }

  -- With this the other directory would say without the growth.
  module _ (k_content : Directory) (removed : entries_of k_content ≡ remove (entries_of w.q.seen.known.target.listing.content) w.q.r.target.at) (apart : first_twin (entries_of k_content) ≡ None)
      (without : entries_of k_content ≡ without_name (last_name w.q.from) (entries_of w.q.seen.known.target.listing.content)) where
    abbrev c : Copying
    c = record {
      k = w.q.seen.known.target.listing;
      home = w.q.r.target.holder;
      k_content = k_content;
      k_children = kids;
      kids = kids;
      l = w.q.seen.known.destination.listing;
      dir = w.q.r.holder;
      l_content = content w;
      l_children = insert w.q.seen.known.destination.listing.children place copy;
      rest = cut.0;
      o = w.q.seen.known.target.object;
      number = w.q.r.target.node;
      name = w.q.name;
      address = (lies_at w).place.address;
      sectors = sectors_in (lies_at w).place.extents.items;
    }

    it_copied : copied c w.q.seen.known.target.object ≡ copy
    it_copied = is_copy c

    kids_stay : map (copied c) kids ≡ kids
    kids_stay = all_stay w c refl kids (kids_unlike (layout q) q.listings q.seen.sound (k q) (it q) kids q.seen.known.target.listed (cut_at (k q).children q.r.target.at (it q) q.seen.known.target.at))

    beside_stay : map (copied c) w.q.seen.known.destination.listing.children ≡ w.q.seen.known.destination.listing.children
    beside_stay = all_stay w c refl (l q).children (seen_of.others_unlike (layout q) q.nodes q.listings q.from q.to q.r q.name q.seen (away w))

    copies : Copies w.q.nodes w.q.listings c
    copies = record {
      found = cut.1;
      home_is = q.seen.known.target.holder_is;
      dir_is = q.seen.known.destination.holder_is;
      number_is = q.seen.known.target.node_is;
      file = (its w).file;
      k_holds = cut_at (k q).children q.r.target.at (it q) q.seen.known.target.at;
      k_children = subst (IsPermutation kids) (sym kids_stay) (IsPermutation-refl kids);
      k_entries = map_remove (λ (p : Object). p.entry) (k q).children q.r.target.at ∙ ap (λ (es : List Entry). remove es q.r.target.at) (children_stored (layout q) q.listings q.seen.sound (k q) q.seen.known.target.listed) ∙ sym removed;
      k_apart = apart;
      l_children = subst (λ (os : List Object). IsPermutation (insert (l q).children place copy) (copied c (it q) ∷ os)) (sym beside_stay)
          (subst (λ (p : Object). IsPermutation (insert (l q).children place copy) (p ∷ (l q).children)) (sym it_copied) (put_at (l q).children place copy));
      l_entries = map_insert (l q).children place copy
          ∙ ap₂ (λ (es : List Entry) (y : Entry). insert es place y) (children_stored (layout q) q.listings q.seen.sound (l q) (listed q)) (sym (entry_at w))
          ∙ sym (entries_entered (now q (l q).object.path) (entry_now q) (l q).content (content w) (entered w) (seen_of.absent (layout q) q.nodes q.listings q.from q.to q.r q.name q.seen (away w)));
      l_apart = apart_names (content w) (says_it (content w) (rd w).drafted.sayable);
    }

    -- ---- beside the growth

    l_stays : copied c w.q.seen.known.destination.listing.object ≡ w.q.seen.known.destination.listing.object
    l_stays = stays_as w c refl (l q).object (unlike q)

    body : (d : Listing) → Contains w.q.listings d → KeepsBody (copied c d.object) d.object
    body d listed =
        let same = stays_as w c refl d.object (dir_other w d listed) in
        record { sectors = ap (λ (o : Object). o.sectors) same; len = ap (λ (o : Object). o.entry.len) same; attrs = ap (λ (o : Object). o.entry.attrs) same }

    rest_in : (d : Listing) → Contains cut.0 d → Contains w.q.listings d
    rest_in d at =
        Contains-permutation (k q ∷ l q ∷ cut.0) q.listings d (IsPermutation-sym q.listings (k q ∷ l q ∷ cut.0) cut.1) (contains_later (k q) d (l q ∷ cut.0) (contains_later (l q) d cut.0 at))

    in_ns : (n : ℕ) → Contains (w.q.r.holder ∷ w.q.r.target.holder ∷ []) n → Contains ns n
    in_ns n at = subst (λ (ms : List ℕ). Contains ms n) (sym (ns_are w)) at

    are_told : (a : Amended) → Contains (to_it c ∷ (from_it c ∷ [])) a → is_told ns (numb w.q a.was) ≡ true
    are_told a at =
        told_in ns (numb q a.was)
        (⊎_elim (λ is. subst (λ (y : Amended). Contains ns (numb q y.was)) is (subst (Contains ns) (holder_numb q) (in_ns q.r.holder (contains_here q.r.holder (q.r.target.holder ∷ [])))))
        (λ later. subst (λ (y : Amended). Contains ns (numb q y.was)) (only (from_it c) a later)
        (subst (Contains ns) (home_numb q) (in_ns q.r.target.holder (contains_later q.r.holder q.r.target.holder (q.r.target.holder ∷ []) (contains_here q.r.target.holder [])))))
        (contains_cases (to_it c) a (from_it c ∷ []) at))

    untold : (d : Listing) → Contains cut.0 d → is_told ns (numb w.q d) ≡ false
    untold =
        untold_in q ns (k q ∷ l q ∷ []) cut.0 cut.1
        (λ n at.
        ⊎_elim (λ is. (l q, contains_later (k q) (l q) (l q ∷ []) (contains_here (l q) []), sym (holder_numb q) ∙ is))
        (λ later. (k q, contains_here (k q) (l q ∷ []), sym (home_numb q) ∙ only_number n later))
        (contains_cases q.r.holder n (q.r.target.holder ∷ []) (subst (λ (ms : List ℕ). Contains ms n) (ns_are w) at)))
      where
        only_number : (n : ℕ) → Contains (w.q.r.target.holder ∷ []) n → w.q.r.target.holder ≡ n
        only_number n at = ⊎_elim (λ is. is) (λ none. absurd (no_element n none)) (contains_cases w.q.r.target.holder n [] at)

    is_plain : IsPlainEdit w.q (edit c) (all_numbers w.q.nodes w.q.r w.q.name false) (to_it c) (from_it c ∷ [])
    is_plain = record {
      found = IsPermutation-trans q.listings (k q ∷ l q ∷ cut.0) (l q ∷ k q ∷ cut.0) cut.1 (IsPermutation-middle (k q ∷ []) (l q) cut.0);
      amended_is = IsPermutation-middle (from_it c ∷ []) (to_it c) [];
      first_is = refl;
      first_number = sym (grown_numb q);
      stays = l_stays;
      none_leave = refl;
      none_join = refl;
      are_told = are_told;
      untold = untold;
      keeps = λ d at. body d (rest_in d at);
      others = λ d at. dir_other w d (rest_in d at);
    }

    abbrev x : PlainMove w.q
    x = record {
      edit = edit c;
      numbers = all_numbers w.q.nodes w.q.r w.q.name false;
      first = to_it c;
      own = [];
      home = from_it c ∷ [];
      up = up_in w.q w.q.seen.known.target.object;
      number = w.q.r.target.node;
      moved = copied c w.q.seen.known.target.object;
      gone = w.q.seen.known.target.object;
      s0 = (told (base w) false (is_b w)).said;
      p0 = (rd w).own;
      os = [];
      ops = [];
      is = is_plain;
      up_is = λ path other. ap (λ (d : Bool). cond d (want.grown w.q).0.directory.address (now w.q path)) other;
      first_said = first_said q (edit c) (up_in q (it q)) l_stays (ap (λ (d : Bool). cond d (want.grown q).0.directory.address (now q (l q).object.path)) (unlike q)) (to_it c) (tl w).said (rd w).own refl (sym (grown_numb q)) (sym (tl w).tells.number) refl (says w)
          (rd w).drafted (rd w).place;
      own_said = tt;
      first_join = refl;
      own_none = λ a at. absurd (no_element a at);
      home_join = λ a at. subst (λ (y : Amended). y.join ≡ []) (only (from_it c) a at) refl;
      leaves = refl;
    }

    named : (a : Amended) → Contains (to_it c ∷ (from_it c ∷ [])) a → (holds_named (Command.Rename w.q.from w.q.to) a.was.object.path || is_renamed_by (Command.Rename w.q.from w.q.to) a.was.object.path) ≡ true
    named a at =
        ⊎_elim
        (λ is. subst (λ (y : Amended). (holds_named (Command.Rename q.from q.to) y.was.object.path || is_renamed_by (Command.Rename q.from q.to) y.was.object.path) ≡ true) is
        (ap (λ (d : Bool). d || is_renamed_by (Command.Rename q.from q.to) (l q).object.path)
        (or_second (is_same_path (holder q.from) (l q).object.path) (is_same_path (holder q.to) (l q).object.path) q.seen.known.destination.above)))
        (λ last. subst (λ (y : Amended). (holds_named (Command.Rename q.from q.to) y.was.object.path || is_renamed_by (Command.Rename q.from q.to) y.was.object.path) ≡ true) (only (from_it c) a last)
        (ap (λ (d : Bool). (d || is_same_path (holder q.to) (k q).object.path) || is_renamed_by (Command.Rename q.from q.to) (k q).object.path) (from_home q (away w))))
        (contains_cases (to_it c) a (from_it c ∷ []) at)

    none_made : w.ready.made ≡ []
    none_made = by w.q.spaces.object (subst (λ (y : Turned). IsNewPiece y w.q.spaces.object w.ready.made) (tl w).turned w.ready.makes)
      where
        by : (o : Option Place) → IsNewPiece (turns.Turns w.q.r.target.node w.q.r.holder (entry_now w.q)) o w.ready.made → w.ready.made ≡ []
        by None is = is
        by (Some p) is = is

    made_by : (gm : IsGrownMove w.q x ((told (base w) false (is_b w)).said ∷ ((told (base w) false (is_b w)).about ++ ([] ++ (home w).0 ∷ []))) ((rd w).own ∷ ((about_cut (base w) false (is_b w)).0 ++ ([] ++ (home w).1 ∷ [])))) → MadeCopy w
    made_by gm = record {
      c = c;
      part = record {
        said = (told (base w) false (is_b w)).said;
        others_said = (told (base w) false (is_b w)).about ++ ((told (base w) false (is_b w)).own ++ (told (base w) false (is_b w)).home);
        says = (told (base w) false (is_b w)).says;
        ready = rd w;
        said_node = (told (base w) false (is_b w)).tells.number ∙ sym (grown_numb q);
        says_own = says w;
        grown = (told (base w) false (is_b w)).grown;
        turned = (told (base w) false (is_b w)).turned;
        none_made = none_made;
        entry = ap (λ (o : Object). o.entry) it_copied ∙ sym (entry_at w);
        keeps = body;
        lefts = λ y. append-nil (owners_with y q.r.target.holder q.r.target.node (it q) ++ []) ∙ append-nil (owners_with y q.r.target.holder q.r.target.node (it q));
        joins = λ y. append-nil (owners_with y q.r.holder q.r.target.node (copied c (it q)) ++ []) ∙ append-nil (owners_with y q.r.holder q.r.target.node (copied c (it q)));
        tops = gm.tops;
        kids = gm.kids;
        left = gm.left;
        cut = gm.cut;
        again = gm.again;
        same = gm.same;
        holder = gm.holder;
        others = gm.others;
        order = gm.order;
        above = gm.above;
        grows = gm.grows;
        all = subst (λ (ps : List Piece). AllSaidNow q (become q (edit c)) (up_in q (it q)) gm.order ((told (base w) false (is_b w)).said ∷ ((told (base w) false (is_b w)).about ++ ((told (base w) false (is_b w)).own ++ (told (base w) false (is_b w)).home))) ((rd w).own ∷ ps))
            (sym (pieces_are (base w) false (is_b w)))
            (subst (λ (ss : List Says). AllSaidNow q (become q (edit c)) (up_in q (it q)) gm.order ((told (base w) false (is_b w)).said ∷ ((told (base w) false (is_b w)).about ++ ss)) ((rd w).own ∷ ((about_cut (base w) false (is_b w)).0 ++ ((own_cut (base w) false (is_b w)).0 ++ (own_cut (base w) false (is_b w)).1))))
            (sym (ap₂ (λ (a h : List Says). a ++ h) (no_own w) (home w).2))
            (subst (λ (ps : List Piece). AllSaidNow q (become q (edit c)) (up_in q (it q)) gm.order ((told (base w) false (is_b w)).said ∷ ((told (base w) false (is_b w)).about ++ (home w).0 ∷ [])) ((rd w).own ∷ ((about_cut (base w) false (is_b w)).0 ++ ps)))
            (sym (ap₂ (λ (a h : List Piece). a ++ h) (no_own_piece w) (home w).3)) gm.all));
        among = gm.among;
        back = gm.back;
        order_is = gm.order_is;
        retold = gm.retold;
        enters = gm.enters;
        leave = gm.leave;
        join = gm.join;
        told_by = gm.told_by;
        kept_by = gm.kept_by;
        found = (grown_copying_law.is_edit q.nodes (layout q) q.listings c (growing_of (l q).object (want.grown q).0 gm.again gm.same gm.holder gm.others) (record { sound = q.seen.sound; held = q.seen.held }) copies gm.grows).found;
        nodes_edited = grown_copying_law.nodes q.nodes (layout q) q.listings c (growing_of (l q).object (want.grown q).0 gm.again gm.same gm.holder gm.others) (record { sound = q.seen.sound; held = q.seen.held }) copies gm.grows;
        named = λ a at. ⊎_elim
            (λ more. inl (subst (λ (d : Listing). (holds_named (Command.Rename q.from q.to) d.object.path || is_renamed_by (Command.Rename q.from q.to) d.object.path) ≡ true) more.2 (named more.0 more.1)))
            (λ around'. inr around') (gm.whose a at);
      };
      copies = copies;
      o_is = refl;
      name_is = refl;
      l_is = refl;
      address = refl;
      sectors = refl;
      left = without;
      joined = (entered w).entries ∙ ap (λ (d : Entry). with_made (Some d) (entries_of (l q).content)) ((entry_at w) ∙ sym (ap (λ (o : Object). o.entry) it_copied));
    }

  -- ---- the other directory

  -- It doesn't hold the one that grows,
  plain_made : is_holder w.q.nodes (want.grown w.q).0.directory (numb w.q w.q.seen.known.target.listing) ≡ false → MadeCopy w
  plain_made none =
      let says' = plain_says q (home w).0 (home w).4 none in
      let said' = directory_in (home w).0.draft in
      let apart = apart_names said' (says_it said' (home w).5.drafted.sayable) in
      let c' = c said' says'.removed apart says'.without in
      let x' = x said' says'.removed apart says'.without in
      let said : IsSaidNow q (become q x'.edit) x'.up (from_it c') (home w).0 (home w).1 =
      home_said q x'.edit (up_in q (it q)) (away w) (k_up q (away w)) (body said' says'.removed apart says'.without (k q) q.seen.known.target.listed) (from_it c') (home w).0 (home w).1 (home w).4 said' refl refl refl says' (home w).5 in
      made_by said' says'.removed apart says'.without
      (whole q x' (told (base w) false (is_b w)).about (about_cut (base w) false (is_b w)).0 (told (base w) false (is_b w)).tell_about (about_cut (base w) false (is_b w)).3 ((home w).0 ∷ []) ((home w).1 ∷ []) (said, tt)
      (λ h listed kid. above_free q false h listed kid (holder_other q (away w) none h listed kid)))

  -- or it does.
  holding_made : is_holder w.q.nodes (want.grown w.q).0.directory (numb w.q w.q.seen.known.target.listing) ≡ true → MadeCopy w
  holding_made holds =
      let its_place = held_in_it q (away w) holds in
      let both = holding_says q (home w).0 (home w).4 holds its_place.1 in
      let plain = both.0 in
      let says' = both.1 in
      let said' = directory_in (home w).0.draft in
      let apart : first_twin (entries_of plain) ≡ None =
      sym (twins_same (regrown_entry (k q).object.path (Some (anew q))) (λ e. regrown_name (k q).object.path (anew q) e) (entries_of plain)) ∙ ap first_twin (sym both.2) ∙ apart_names said' (says_it said' (home w).5.drafted.sayable) in
      let c' = c plain says'.removed apart says'.without in
      let x' = x plain says'.removed apart says'.without in
      let a = from_it c' in
      let said : IsSaidNow q (become q x'.edit) x'.up (record a { content = directory_in (home w).0.draft }) (home w).0 (home w).1 =
      home_said q x'.edit (up_in q (it q)) (away w) (k_up q (away w)) (body plain says'.removed apart says'.without (k q) q.seen.known.target.listed) (record a { content = directory_in (home w).0.draft }) (home w).0 (home w).1 (home w).4 plain refl refl refl says' (home w).5 in
      made_by plain says'.removed apart says'.without
      (whole_home q x' (told (base w) false (is_b w)).about (about_cut (base w) false (is_b w)).0 (told (base w) false (is_b w)).tell_about (about_cut (base w) false (is_b w)).3 a (home w).0 (home w).1
      (record {
        home_is = refl;
        leaves = refl;
        first_none = refl;
        apart = λ y listed. ⊎_elim (λ is same. (away w) (ap (λ (z : Amended). z.number) is ∙ sym same)) (λ none same. no_element y none) (contains_cases (to_it c') y [] listed);
        listed = q.seen.known.target.listed;
        number_at = q.seen.known.target.holder_is;
        holds = its_place.0;
        keeps = its_place.2;
        entries = both.2;
        said = said;
      })
      (k_told q (away w)))

  pub made : MadeCopy w
  made = by (is_holder w.q.nodes (want.grown w.q).0.directory (numb w.q w.q.seen.known.target.listing)) refl
    where
      by : (d : Bool) → is_holder w.q.nodes (want.grown w.q).0.directory (numb w.q w.q.seen.known.target.listing) ≡ d → MadeCopy w
      by true e = holding_made e
      by false e = plain_made e
