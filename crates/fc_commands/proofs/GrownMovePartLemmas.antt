-- The growth of a directory as a part of an edit by which one object leaves a directory and joins the one that grows.
use Rattle.fc_change.specs.declared.change.Regrowth.{Regrowth}
use Rattle.fc_change.specs.declared.change.Says.{Says}
use Rattle.fc_changes.proofs.BasicLemmas.{clash}
use Rattle.fc_commands.proofs.GrownAroundLemmas.{IsCutAround}
use Rattle.fc_commands.proofs.GrownMoveEditLemmas.{AllReady, AllSaidNow, IsPlainEdit, IsSaidNow, OneReady, become, flat_both, is_free, none_pass, said_now}
use Rattle.fc_commands.proofs.GrownMoveSaidLemmas.{anew, l, now, numb, numb_is, sectors}
use Rattle.fc_commands.proofs.GrownMoveWantLemmas.{GrownRename}
use Rattle.fc_commands.proofs.GrownMoveWantLemmas as want
use Rattle.fc_commands.proofs.GrownSpaceLemmas.{growing_of}
use Rattle.fc_commands.proofs.GrownToldLemmas.{all_pass}
use Rattle.fc_dirs.specs.Directory.{directory_size}
use Rattle.fc_drafts.specs.Draft.{directory_in}
use Rattle.fc_edits.proofs.lemmas.ShapeLemmas.{none_flat}
use Rattle.fc_edits.specs.Edit.{Amended, Edit, joining, leaving, objects}
use Rattle.fc_edits.specs.Growing.{Growing, Holder, IsGrowing, Told, amended_by, grown_by, told, up_of}
use Rattle.fc_edits.specs.NewNodes.{entering, tell}
use Rattle.fc_image.proofs.CommandLemmas.{same_by_folds}
use Rattle.fc_image.proofs.EntriesLemmas.{cases as contains_cases, later as contains_later}
use Rattle.fc_image.proofs.PathsLemmas.{itself}
use Rattle.fc_image.proofs.ShuffleLemmas.{IsPermutation-filter, filter-append}
use Rattle.fc_image.specs.Layout.{Layout, dir_form}
use Rattle.fc_image.specs.Walk.{Listing, Object, object_size}
use Rattle.fc_image.specs.effects.Steady.{AreWritten, IsRewritten}
use Rattle.fc_laws.specs.agree.Agreed.{CanSay}
use Rattle.fc_laws.specs.nodes.Edits.{Nodes}
use Rattle.fc_model.specs.Command.{Command}
use Rattle.fc_model.specs.Tree.{holder as holder_path}
use Rattle.fc_names.specs.Names.{Path, is_directory, is_same_path}
use Rattle.fc_tree.proofs.MemberLemmas.{contains_here, from_map, no_element}
use Rattle.fc_tree.proofs.SoundLemmas.{folds_alike}
use Rattle.fc_tree.proofs.WalkedLemmas.{same_some}
use Rattle.fc_tree.specs.Agree.{HasForm, IsDirectory}
use Rattle.fc_tree.specs.Nodes.{number_of}
use Rattle.fc_writing.specs.declared.ready.Piece.{Piece}
use Rattle.std.proofs.Common.{Bool, List, Option, Some, [], ap, ap₂, cond, false, filter, flat_map, map, not, refl, subst, sym, true, ℕ, ⊎_elim, ◌++◌, ◌==◌, ◌∙◌, ◌∷◌, ◌≡◌, ◌⊎◌}
use Rattle.std.proofs.lemmas.Bool.{false_from_ne_true as unless}
use Rattle.std.proofs.lemmas.List.Elements.{Contains-append_cases}
use Rattle.std.proofs.lemmas.List.Sorted.{IsPermutation-sym, IsPermutation-trans}
use Rattle.std.specs.Prelude.{Contains, IsPermutation}

-- what each of these is nothing for
pub no_flat : {X Y : Type 0} (f : X → List Y) (xs : List X) → ((y : X) → Contains xs y → f y ≡ []) → flat_map f xs ≡ []
no_flat f [] none = refl
no_flat {X} {Y} f (y ∷ xs) none = ap₂ (λ (a b : List Y). a ++ b) (none y (contains_here y xs)) (no_flat f xs (λ z at. none z (contains_later y z xs at)))

-- An edit that is told to `first`, the directory that grows, by which the object joins it, to `own`, which gets and loses none, and to `home`,
-- which loses the object, if that is another directory. `s0` and `os` are what the first ones are told, `p0` and `ops` their pieces.
pub record PlainMove (q : GrownRename) : Type 0 where
  pub edit : Edit
  pub numbers : List ℕ
  pub first : Amended
  pub own : List Amended
  pub home : List Amended
  pub up : Path → ℕ
  pub number : ℕ
  pub moved : Object
  pub gone : Object
  pub s0 : Says
  pub p0 : Piece
  pub os : List Says
  pub ops : List Piece
  pub is : IsPlainEdit q edit numbers first (own ++ home)
  pub up_is : (path : Path) → is_same_path q.seen.known.target.object.path path ≡ false → up path ≡ now q path
  pub first_said : IsSaidNow q (become q edit) up first s0 p0
  pub own_said : AllSaidNow q (become q edit) up own os ops
  pub first_join : first.join ≡ (number, moved) ∷ []
  pub own_none : (a : Amended) → Contains own a → (a.leave ≡ []) × (a.join ≡ [])
  pub home_join : (a : Amended) → Contains home a → a.join ≡ []
  pub leaves : flat_map (λ (a : Amended). a.leave) (first ∷ (own ++ home)) ≡ (number, gone) ∷ []

-- The growth is a part of it; these are the directories around the grown one, and all are told in the order of `order`.
pub record IsGrownMove (q : GrownRename) (x : PlainMove q) (ss : List Says) (ps : List Piece) : Type 0 where
  pub tops : List Listing
  pub kids : List Listing
  pub left : List Listing
  pub cut : IsCutAround q.listings q.seen.known.destination.listing tops kids left
  pub again : List Told
  pub same : List Listing
  pub holder : Option Holder
  pub others : List Amended
  pub order : List Amended
  pub above : number_of q.nodes (holder_path q.seen.known.destination.listing.object.path) ≡ Some (up_of holder)
  pub grows : IsGrowing q.nodes (Layout.New q.m) x.edit (growing_of q.seen.known.destination.listing.object (want.grown q).0 again same holder others)
  pub all : AllSaidNow q (become q x.edit) x.up order ss ps
  pub among : (a : Amended) → Contains (amended_by x.edit (growing_of q.seen.known.destination.listing.object (want.grown q).0 again same holder others) holder) a → Contains order a
  pub back : (a : Amended) → Contains order a → Contains (amended_by x.edit (growing_of q.seen.known.destination.listing.object (want.grown q).0 again same holder others) holder) a
  pub order_is : IsPermutation (amended_by x.edit (growing_of q.seen.known.destination.listing.object (want.grown q).0 again same holder others) holder) order
  pub retold : (ns : Nodes) → tell order ns ≡ tell (amended_by x.edit (growing_of q.seen.known.destination.listing.object (want.grown q).0 again same holder others) holder) ns
  pub enters : entering (grown_by x.edit (growing_of q.seen.known.destination.listing.object (want.grown q).0 again same holder others) holder)
      ≡ (up_of holder, ((want.grown q).0.directory.node, anew q)) ∷ ((want.grown q).0.directory.node, (x.number, x.moved)) ∷ []
  pub leave : objects (leaving (grown_by x.edit (growing_of q.seen.known.destination.listing.object (want.grown q).0 again same holder others) holder)) ≡ q.seen.known.destination.listing.object ∷ x.gone ∷ []
  pub join : objects (joining (grown_by x.edit (growing_of q.seen.known.destination.listing.object (want.grown q).0 again same holder others) holder)) ≡ anew q ∷ x.moved ∷ []
  pub whose : (a : Amended) → Contains order a
      → ((b : Amended) × Contains (x.first ∷ (x.own ++ x.home)) b × (b.was ≡ a.was)) ⊎ Contains (tops ++ cond (q.seen.known.destination.listing.object.entry.address == (want.grown q).0.directory.address) [] kids) a.was
  pub told_by : (t : Told) → Contains again t → Contains tops t.was ⊎ ((q.seen.known.destination.listing.object.entry.address == (want.grown q).0.directory.address) ≡ false) × Contains kids t.was
  pub kept_by : (d : Listing) → Contains same d → (((q.seen.known.destination.listing.object.entry.address == (want.grown q).0.directory.address) ≡ true) × Contains kids d) ⊎ Contains left d

module _ (q : GrownRename) (x : PlainMove q) where
  abbrev pub g : Regrowth
  g = (want.grown q).0.directory

  abbrev pub t : Listing → Bool
  t = is_free q x.numbers

  abbrev pub gr : List Told → List Listing → Option Holder → List Amended → Growing
  gr again same holder others = growing_of (l q).object (want.grown q).0 again same holder others

  pub all_first : (a : Amended) → Contains (x.first ∷ (x.own ++ x.home)) a → t a.was ≡ false
  all_first a at = ap not (x.is.are_told a at)

  pub l_told : t (l q) ≡ false
  l_told = subst (λ (d : Listing). t d ≡ false) x.is.first_is (all_first x.first (contains_here x.first (x.own ++ x.home)))

  -- ---- the rest

  -- The others are those around it that aren't told, and all that are left.
  pub rest_is : (tops kids left : List Listing) → IsCutAround q.listings q.seen.known.destination.listing tops kids left
      → IsPermutation x.edit.same (filter (is_free q x.numbers) tops ++ (filter (is_free q x.numbers) kids ++ filter (is_free q x.numbers) left))
  rest_is tops kids left cut =
      let were = map (λ (a : Amended). a.was) (x.first ∷ (x.own ++ x.home)) in
      let behind = filter t tops ++ (filter t kids ++ filter t left) in
      let one : filter t (were ++ x.edit.same) ≡ x.edit.same =
      filter-append t were x.edit.same
      ∙ ap₂ (λ (a b : List Listing). a ++ b)
      (none_pass t were (λ d at. let a = from_map (λ (b : Amended). b.was) (x.first ∷ (x.own ++ x.home)) d at in subst (λ (y : Listing). t y ≡ false) a.2 (all_first a.0 a.1)))
      (all_pass t x.edit.same (λ d at. ap not (x.is.untold d at))) in
      let two : filter t (l q ∷ (tops ++ (kids ++ left))) ≡ behind =
      ap (λ (b : Bool). cond b (l q ∷ filter t (tops ++ (kids ++ left))) (filter t (tops ++ (kids ++ left)))) l_told
      ∙ filter-append t tops (kids ++ left) ∙ ap (λ (ds : List Listing). filter t tops ++ ds) (filter-append t kids left) in
      IsPermutation-trans x.edit.same (filter t q.listings) behind
      (IsPermutation-sym (filter t q.listings) x.edit.same (subst (IsPermutation (filter t q.listings)) one (IsPermutation-filter t q.listings (were ++ x.edit.same) x.is.found)))
      (subst (IsPermutation (filter t q.listings)) two (IsPermutation-filter t q.listings (l q ∷ (tops ++ (kids ++ left))) cut.all))

  -- ---- what those around it are told

  abbrev pub kid_told : Listing → Says → Told
  kid_told d s = record { was = d; number = numb q d; content = directory_in s.draft }

  abbrev pub kids_told : List Listing → List Says → List Told
  kids_told [] ss = []
  kids_told (d ∷ ds) [] = []
  kids_told (d ∷ ds) (s ∷ ss) = kid_told d s ∷ kids_told ds ss

  pub told_were : (ds : List Listing) (ss : List Says) (ps : List Piece) → AllReady q ds ss ps → map (λ (u : Told). u.was) (kids_told ds ss) ≡ ds
  told_were [] ss ps ready = refl
  told_were (d ∷ ds) [] ps ready = absurd ready
  told_were (d ∷ ds) (s ∷ ss) [] ready = absurd ready
  told_were (d ∷ ds) (s ∷ ss) (p ∷ ps) ready = ap (λ (js : List Listing). d ∷ js) (told_were ds ss ps ready.1)

  pub told_of : (ds : List Listing) (ss : List Says) (ps : List Piece) → AllReady q ds ss ps → (u : Told) → Contains (kids_told ds ss) u
      → (s : Says) × (p : Piece) × OneReady q u.was s p × (u ≡ kid_told u.was s) × Contains ds u.was
  told_of [] ss ps ready u at = absurd (no_element u at)
  told_of (d ∷ ds) [] ps ready u at = absurd ready
  told_of (d ∷ ds) (s ∷ ss) [] ready u at = absurd ready
  told_of (d ∷ ds) (s ∷ ss) (p ∷ ps) ready u at =
      ⊎_elim
      (λ same. subst (λ (v : Told). (s' : Says) × (p' : Piece) × OneReady q v.was s' p' × (v ≡ kid_told v.was s') × Contains (d ∷ ds) v.was) same (s, p, ready.0, refl, contains_here d ds))
      (λ later. let r = told_of ds ss ps ready.1 u later in (r.0, r.1, r.2, r.3, contains_later d u.was ds r.4)) (contains_cases (kid_told d s) u (kids_told ds ss) at)

  pub become_other : (o : Object) → is_same_path q.seen.known.destination.listing.object.path o.path ≡ false → become q x.edit o ≡ x.edit.turn o
  become_other o other =
      ap (λ (b : Bool). let y : Object = cond b (record (x.edit.turn o) { entry = record (x.edit.turn o).entry { address = g.address; len = g.len }; sectors = sectors q }) (x.edit.turn o) in y) other

  pub become_grown : become q x.edit q.seen.known.destination.listing.object ≡ anew q
  become_grown =
      ap (λ (b : Bool). let y : Object = cond b (record (x.edit.turn (l q).object) { entry = record (x.edit.turn (l q).object).entry { address = g.address; len = g.len }; sectors = sectors q }) (x.edit.turn (l q).object) in y)
      (itself (l q).object.path)
      ∙ ap (λ (o : Object). record o { entry = record o.entry { address = g.address; len = g.len }; sectors = sectors q }) x.is.stays

  -- another directory, that says its draft
  pub around_said : (a : Amended) (s : Says) (p : Piece) → OneReady q a.was s p → Contains x.edit.same a.was → is_same_path q.seen.known.destination.listing.object.path a.was.object.path ≡ false
      → a.number ≡ numb q a.was → a.content ≡ directory_in s.draft → IsSaidNow q (become q x.edit) x.up a s p
  around_said a s p ready there other number_same content_same =
      let o = a.was.object in
      let still = become_other o other in
      let keeps = x.is.keeps a.was there in
      let away = x.is.others a.was there in
      let size : object_size (dir_form (Layout.New q.m)) (x.edit.turn o).entry ≡ object_size (dir_form (Layout.New q.m)) o.entry =
      ap₂ (λ (len attrs : ℕ). cond (is_directory attrs) (directory_size (dir_form (Layout.New q.m)) len) len) keeps.len keeps.attrs in
      record {
        found = ready.found;
        number_at = numb_is q a.was ready.found ∙ ap (λ (n : ℕ). let y : Option ℕ = Some n in y) (sym number_same);
        number_is = number_same ∙ same_some (numb q a.was) s.node (sym (numb_is q a.was ready.found) ∙ ready.number_is);
        content_is = content_same;
        says = subst (λ (n : ℕ). IsRewritten (Command.Rename q.from q.to) o.path n a.was.content a.content) (sym (x.up_is o.path away))
            (subst (IsRewritten (Command.Rename q.from q.to) o.path (now q o.path) a.was.content) (sym content_same)
            (ready.says (Command.Rename q.from q.to)
            (unless (is_same_path o.path q.from)
            (λ same. clash (is_same_path it_path o.path) (same_by_folds it_path o.path (sym (folds_alike q.from it_path q.seen.known.target.path_is) ∙ sym (folds_alike o.path q.from same))) away))));
        can = subst (λ (y : Object). CanSay (Layout.New q.m) y a.content) (sym still)
            (record {
              form = subst (λ (n : ℕ). HasForm (dir_form (Layout.New q.m)) n a.content) (sym keeps.len) (subst (HasForm (dir_form (Layout.New q.m)) o.entry.len) (sym content_same) ready.can.form);
              body = subst IsDirectory (sym content_same) ready.can.body;
            });
        place = ready.place ∙ sym keeps.sectors ∙ ap (λ (y : Object). y.sectors) (sym still);
        bytes = subst (AreWritten p.bytes.items) (sym content_same) ready.bytes;
        long = ready.long ∙ sym size ∙ ap (λ (y : Object). object_size (dir_form (Layout.New q.m)) y.entry) (sym still);
      }
    where
      it_path : Path
      it_path = q.seen.known.target.object.path

  pub kids_said : (ds : List Listing) (ss : List Says) (ps : List Piece) → ((d : Listing) → Contains ds d → Contains x.edit.same d × (is_same_path q.seen.known.destination.listing.object.path d.object.path ≡ false))
      → AllReady q ds ss ps → AllSaidNow q (become q x.edit) x.up (map (told x.edit) (kids_told ds ss)) ss ps
  kids_said [] [] [] each ready = tt
  kids_said [] [] (p ∷ ps) each ready = absurd ready
  kids_said [] (s ∷ ss) ps each ready = absurd ready
  kids_said (d ∷ ds) [] ps each ready = absurd ready
  kids_said (d ∷ ds) (s ∷ ss) [] each ready = absurd ready
  kids_said (d ∷ ds) (s ∷ ss) (p ∷ ps) each ready =
      let here = each d (contains_here d ds) in (
        around_said (told x.edit (kid_told d s)) s p ready.0 here.0 here.1 refl refl,
        kids_said ds ss ps (λ j at. each j (contains_later d j ds at)) ready.1,
      )

  pub said_can : (bs : List Amended) (ss : List Says) (ps : List Piece) → AllSaidNow q (become q x.edit) x.up bs ss ps → (a : Amended) → Contains bs a → CanSay (Layout.New q.m) (become q x.edit a.was.object) a.content
  said_can bs ss ps all a at = let r = said_now q (become q x.edit) x.up bs ss ps all a at in r.3.can

  -- ---- who leaves and joins

  abbrev pub joins_of : Amended → List (ℕ × Object)
  joins_of a = a.join

  abbrev pub leaves_of : Amended → List (ℕ × Object)
  leaves_of a = a.leave

  abbrev pub enters_of : Amended → List (ℕ × (ℕ × Object))
  enters_of a = map (λ (o : ℕ × Object). let r : ℕ × (ℕ × Object) = (a.number, o) in r) a.join

  pub own_joins : flat_map (λ (a : Amended). a.join) (x.own ++ x.home) ≡ []
  own_joins = no_flat joins_of (x.own ++ x.home) (λ a at. ⊎_elim (λ own. (x.own_none a own).1) (λ home. x.home_join a home) (Contains-append_cases x.own x.home a at))

  pub own_enters : flat_map (λ (a : Amended). map (λ (o : ℕ × Object). let r : ℕ × (ℕ × Object) = (a.number, o) in r) a.join) (x.own ++ x.home) ≡ []
  own_enters = no_flat enters_of (x.own ++ x.home) (λ a at.
      ap (map (λ (o : ℕ × Object). let r : ℕ × (ℕ × Object) = (a.number, o) in r)) (⊎_elim (λ own. (x.own_none a own).1) (λ home. x.home_join a home) (Contains-append_cases x.own x.home a at)))

  -- Those that are told more neither get nor lose one.
  pub skipped : {Y : Type 0} (f : Amended → List Y) (us : List Told) (bs : List Amended) → ((u : Told) → f (told x.edit u) ≡ []) → flat_map f (x.first ∷ (map (told x.edit) us ++ bs)) ≡ flat_map f (x.first ∷ bs)
  skipped {Y} f us bs none =
      ap (λ (zs : List Y). f x.first ++ zs) (flat_both f (map (told x.edit) us) bs ∙ ap (λ (zs : List Y). zs ++ flat_map f bs) (none_flat f (told x.edit) us none))

  pub first_joins : (us : List Told) → flat_map (λ (a : Amended). a.join) (x.first ∷ (map (told x.edit) us ++ (x.own ++ x.home))) ≡ (x.number, x.moved) ∷ []
  first_joins us = skipped joins_of us (x.own ++ x.home) (λ u. refl) ∙ ap₂ (λ (a b : List (ℕ × Object)). a ++ b) x.first_join own_joins

  pub first_leaves : (us : List Told) → flat_map (λ (a : Amended). a.leave) (x.first ∷ (map (told x.edit) us ++ (x.own ++ x.home))) ≡ (x.number, x.gone) ∷ []
  first_leaves us = skipped leaves_of us (x.own ++ x.home) (λ u. refl) ∙ x.leaves

  pub first_enters : (us : List Told) → flat_map (λ (a : Amended). map (λ (o : ℕ × Object). let r : ℕ × (ℕ × Object) = (a.number, o) in r) a.join) (x.first ∷ (map (told x.edit) us ++ (x.own ++ x.home)))
      ≡ (g.node, (x.number, x.moved)) ∷ []
  first_enters us =
      skipped enters_of us (x.own ++ x.home) (λ u. refl)
      ∙ ap₂ (λ (a b : List (ℕ × (ℕ × Object))). a ++ b) (ap (map (λ (o : ℕ × Object). let r : ℕ × (ℕ × Object) = (x.first.number, o) in r)) x.first_join ∙ ap (λ (n : ℕ). (n, (x.number, x.moved)) ∷ []) x.is.first_number) own_enters
