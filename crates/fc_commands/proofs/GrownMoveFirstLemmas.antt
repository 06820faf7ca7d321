-- `rename` by which a directory grows: each directory that its edit tells, with what it is told and its piece.
use Rattle.fc_change.specs.Directories.{Rewriting, Tells, is_told}
use Rattle.fc_change.specs.Prepared.{IsDrafted, IsPieceOf}
use Rattle.fc_change.specs.declared.change.Says.{Says}
use Rattle.fc_changes.proofs.BasicLemmas.{clash}
use Rattle.fc_commands.proofs.GrownMoveEditLemmas.{AllSaidNow, IsSaidNow, KeepsBody, become}
use Rattle.fc_commands.proofs.GrownMoveSaidLemmas.{FirstSays, HomeSays, IsOwnGrown, anew, holder_numb, home_numb, it, k, l, layout, listed, now, numb, numb_is, sectors, unlike}
use Rattle.fc_commands.proofs.GrownMoveWalkLemmas as walk
use Rattle.fc_commands.proofs.GrownMoveWantLemmas.{GrownRename}
use Rattle.fc_commands.proofs.GrownMoveWantLemmas as want
use Rattle.fc_commands.proofs.GrownPieceLemmas.{AllPieces}
use Rattle.fc_commands.proofs.GrownToldLemmas.{other_long}
use Rattle.fc_commands.proofs.MoveDirectoryLemmas.{form_moved}
use Rattle.fc_commands.proofs.MoveLemmas.{IsOwn}
use Rattle.fc_commands.proofs.MoveLemmas as seen_of
use Rattle.fc_commands.proofs.MoveSaidLemmas.{AreOwnSaid}
use Rattle.fc_commands.proofs.NodeLemmas.{sectors_are, size_of_form}
use Rattle.fc_dirs.specs.Directory.{Directory, directory_size}
use Rattle.fc_drafts.specs.Draft.{directory_in, size_of}
use Rattle.fc_drafts.specs.Rewriting.{HasMoved}
use Rattle.fc_edits.proofs.lemmas.ListLemmas.{two_apart}
use Rattle.fc_edits.proofs.lemmas.NumberLemmas.{few_listings}
use Rattle.fc_edits.proofs.lemmas.ShapeLemmas.{only}
use Rattle.fc_edits.specs.Edit.{Amended, Edit}
use Rattle.fc_edits.specs.Moving.{Moving, itself as amended_own, moved}
use Rattle.fc_image.proofs.CommandLemmas.{same_by_folds}
use Rattle.fc_image.proofs.EntriesLemmas.{cases as contains_cases, later as contains_later}
use Rattle.fc_image.proofs.PathsLemmas.{is_at, itself}
use Rattle.fc_image.specs.Layout.{Layout, dir_form}
use Rattle.fc_image.specs.Walk.{Listing, Object, object_size}
use Rattle.fc_image.specs.effects.Steady.{AreWritten, IsRewritten, is_renamed_by}
use Rattle.fc_laws.proofs.lemmas.agree.SayLemmas.{as_directory as says_it}
use Rattle.fc_laws.specs.agree.Agreed.{CanSay}
use Rattle.fc_model.specs.Command.{Command}
use Rattle.fc_names.specs.Names.{Path, is_directory, is_same_path}
use Rattle.fc_tree.proofs.MemberLemmas.{contains_here, many_permuted, no_element}
use Rattle.fc_tree.proofs.PlaceLemmas.{one_path, same_number}
use Rattle.fc_tree.proofs.SoundLemmas.{folds_alike}
use Rattle.fc_tree.proofs.WalkedLemmas.{listed_directory, same_some}
use Rattle.fc_tree.specs.Agree.{HasForm, IsDirectory}
use Rattle.fc_tree.specs.Nodes.{number_of}
use Rattle.fc_writing.specs.Ready.{place_of}
use Rattle.fc_writing.specs.declared.ready.Piece.{Piece}
use Rattle.std.proofs.Common.{Bool, List, Option, Some, [], ap, ap₂, arith, cond, eq-eqb, false, inl, inr, length, map, refl, subst, sym, true, ℕ, ⊎_elim, ◌++◌, ◌==◌, ◌||◌, ◌∙◌, ◌∷◌, ◌≡◌, ◌≤◌}
use Rattle.std.proofs.lemmas.Bool.{eqb-true, false_from_ne_true as unless}
use Rattle.std.proofs.lemmas.List.{length_push}
use Rattle.std.proofs.lemmas.List.Elements.{Contains-append_left, Contains-append_right}
use Rattle.std.proofs.lemmas.List.Sorted.{Contains-permutation, IsPermutation-sym}
use Rattle.std.specs.FinMap.{get}
use Rattle.std.specs.Prelude.{Contains, IsPermutation}

-- ---- numbers that are told

pub told_in : (ns : List ℕ) (n : ℕ) → Contains ns n → is_told ns n ≡ true
told_in [] n at = absurd (no_element n at)
told_in (m ∷ ns) n at = by (m == n) refl (λ later. told_in ns n later)
  where
    by : (b : Bool) → (m == n) ≡ b → (Contains ns n → is_told ns n ≡ true) → (b || is_told ns n) ≡ true
    by true e more = refl
    by false e more = ⊎_elim (λ same. absurd (clash (m == n) (eq-eqb m n same) e)) more (contains_cases m n ns at)

pub in_told : (ns : List ℕ) (n : ℕ) → is_told ns n ≡ true → Contains ns n
in_told [] n e = absurd (cc)
in_told (m ∷ ns) n e = by (m == n) refl e (λ f. in_told ns n f)
  where
    by : (b : Bool) → (m == n) ≡ b → (b || is_told ns n) ≡ true → (is_told ns n ≡ true → Contains ns n) → Contains (m ∷ ns) n
    by true same f more = subst (Contains (m ∷ ns)) (eqb-true m n same) (contains_here m ns)
    by false other f more = contains_later m n ns (more f)

-- what is told of the object is of its listing
pub own_in : (q : GrownRename) (ss : List Says) (o : IsOwnGrown q ss) (d : Listing × Directory) → Contains o.own d → Contains q.listings d.0 × (d.0.object ≡ q.seen.known.target.object)
own_in q ss o d at = by o.is
  where
    by : IsOwn q.listings (it q) o.own → Contains q.listings d.0 × (d.0.object ≡ it q)
    by (inl file) = absurd (no_element d (subst (λ (ds : List (Listing × Directory)). Contains ds d) file.1 at))
    by (inr dir) =
        let same = only dir.0 d (subst (λ (ds : List (Listing × Directory)). Contains ds d) dir.1 at) in
        subst (λ (y : Listing × Directory). Contains q.listings y.0 × (y.0.object ≡ it q)) same (dir.2, dir.3)

module _ (q : GrownRename) where
  -- Directories of one number are one, so what stands beside those that are told isn't told.
  apart_in : (front rest : List Listing) → IsPermutation q.listings (front ++ rest) → (a d : Listing) → Contains front a → Contains rest d → numb q a ≡ numb q d → ⊥
  apart_in front rest found a d at_a at_d same =
      let all : (y : Listing) → Contains (front ++ rest) y → Contains q.listings y = λ y at. Contains-permutation (front ++ rest) q.listings y (IsPermutation-sym q.listings (front ++ rest) found) at in
      let a_in = all a (Contains-append_left front rest a at_a) in
      let d_in = all d (Contains-append_right front rest d at_d) in
      let s : Listing → Bool = λ y. is_at a.object.path y.object in
      two_apart s front rest a d (subst (λ (n : ℕ). n ≤ 1) (sym (many_permuted s q.listings (front ++ rest) found)) (few_listings (layout q) q.listings q.seen.sound a.object.path)) at_a at_d (itself a.object.path)
      (same_by_folds a.object.path d.object.path
      (one_path q.nodes (numb q a) (length a.object.path) a.object.path d.object.path refl (numb_is q a a_in) (numb_is q d d_in ∙ ap (λ (n : ℕ). let x : Option ℕ = Some n in x) (sym same))))

  pub untold_in : (ns : List ℕ) (front rest : List Listing) → IsPermutation q.listings (front ++ rest) → ((n : ℕ) → Contains ns n → (a : Listing) × Contains front a × (numb q a ≡ n)) → (d : Listing) → Contains rest d
      → is_told ns (numb q d) ≡ false
  untold_in ns front rest found each d at =
      unless (is_told ns (numb q d)) (λ yes. let a = each (numb q d) (in_told ns (numb q d) yes) in absurd (apart_in front rest found a.0 d a.1 at a.2))

  -- ---- paths

  pub not_renamed : (path : Path) → is_same_path q.seen.known.target.object.path path ≡ false → is_renamed_by (Command.Rename q.from q.to) path ≡ false
  not_renamed path other =
      unless (is_same_path path q.from)
      (λ same. clash (is_same_path (it q).path path) (same_by_folds (it q).path path (sym (folds_alike q.from (it q).path q.seen.known.target.path_is) ∙ sym (folds_alike path q.from same))) other)

  pub k_unlike : is_same_path q.seen.known.target.object.path q.seen.known.target.listing.object.path ≡ false
  k_unlike = other_long (it q).path (k q).object.path (λ same.
      let more = ap (λ (p : Path). length p) (seen_of.o_path (layout q) q.nodes q.listings q.from q.to q.r q.name q.seen) ∙ length_push (k q).object.path (it q).entry.name in omega (arith, same, more))

  module _ (e : Edit) (up : Path → ℕ) where
    -- ---- the directory that grows

    module _ (stays : e.turn q.seen.known.destination.listing.object ≡ q.seen.known.destination.listing.object) where
      become_l : become q e q.seen.known.destination.listing.object ≡ anew q
      become_l =
          ap (λ (b : Bool). let y : Object = cond b (record (e.turn (l q).object) { entry = record (e.turn (l q).object).entry { address = (want.grown q).0.directory.address; len = (want.grown q).0.directory.len }; sectors = sectors q }) (e.turn (l q).object) in y)
          (itself (l q).object.path)
          ∙ ap (λ (o : Object). record o { entry = record o.entry { address = (want.grown q).0.directory.address; len = (want.grown q).0.directory.len }; sectors = sectors q }) stays

      pub first_said : (up_is : up q.seen.known.destination.listing.object.path ≡ now q q.seen.known.destination.listing.object.path) (a : Amended) (s : Says) (p : Piece)
          → a.was ≡ q.seen.known.destination.listing → a.number ≡ (want.grown q).0.directory.node → a.number ≡ s.node → a.content ≡ directory_in s.draft → FirstSays q (directory_in s.draft) → IsDrafted s.draft p
          → place_of p ≡ sectors q → IsSaidNow q (become q e) up a s p
      first_said up_is a s p was number_a number content says drafted place =
          let is = sym was in
          let d = directory_in s.draft in
          let form : HasForm (dir_form (Layout.New q.m)) (anew q).entry.len d = says.form in
          record {
            found = subst (Contains q.listings) is (listed q);
            number_at = subst (λ (y : Listing). number_of q.nodes y.object.path ≡ Some a.number) is (walk.number q ∙ ap (λ (n : ℕ). let x : Option ℕ = Some n in x) (sym number_a));
            number_is = number;
            content_is = content;
            says = subst (λ (y : Listing). IsRewritten (Command.Rename q.from q.to) y.object.path (up y.object.path) y.content a.content) is
                (subst (λ (n : ℕ). IsRewritten (Command.Rename q.from q.to) (l q).object.path n (l q).content a.content) (sym up_is)
                (subst (IsRewritten (Command.Rename q.from q.to) (l q).object.path (now q (l q).object.path) (l q).content) (sym content)
                (says.rewritten (Command.Rename q.from q.to) (l q).object.path (not_renamed (l q).object.path (unlike q)))));
            can = subst (λ (y : Listing). CanSay (Layout.New q.m) (become q e y.object) a.content) is
                (subst (λ (o : Object). CanSay (Layout.New q.m) o a.content) (sym become_l)
                (subst (CanSay (Layout.New q.m) (anew q)) (sym content) (record { form = form; body = says_it d drafted.sayable })));
            place = subst (λ (y : Listing). place_of p ≡ (become q e y.object).sectors) is (place ∙ ap (λ (o : Object). o.sectors) (sym become_l));
            bytes = subst (AreWritten p.bytes.items) (sym content) drafted.bytes;
            long = subst (λ (y : Listing). length p.bytes.items ≡ object_size (dir_form (Layout.New q.m)) (become q e y.object).entry) is
                (drafted.length_is ∙ size_of_form (dir_form (Layout.New q.m)) (anew q).entry d form (listed_directory (layout q) q.listings q.seen.sound (l q) (listed q)).1
                ∙ ap (λ (o : Object). object_size (dir_form (Layout.New q.m)) o.entry) (sym become_l));
          }

    become_other : (o : Object) → is_same_path q.seen.known.destination.listing.object.path o.path ≡ false → become q e o ≡ e.turn o
    become_other o other =
        ap (λ (b : Bool). let y : Object = cond b (record (e.turn o) { entry = record (e.turn o).entry { address = (want.grown q).0.directory.address; len = (want.grown q).0.directory.len }; sectors = sectors q }) (e.turn o) in y) other

    -- ---- the directory that loses the object

    pub home_said : (away : q.r.holder ≡ q.r.target.holder → ⊥) (up_is : up q.seen.known.target.listing.object.path ≡ now q q.seen.known.target.listing.object.path) (keeps : KeepsBody (e.turn q.seen.known.target.listing.object) q.seen.known.target.listing.object)
        (a : Amended) (s : Says) (p : Piece) (tells : Tells (Some (want.grown q).0.directory) q.nodes q.r.target.holder (Rewriting.Leaves q.r.target.at) s) (plain : Directory)
        → a.was ≡ q.seen.known.target.listing → a.number ≡ q.r.target.holder → a.content ≡ directory_in s.draft → HomeSays q s tells plain → IsPieceOf (Layout.New q.m) q.nodes s p → IsSaidNow q (become q e) up a s p
    home_said away up_is keeps a s p tells plain was number content says piece =
        let is = sym was in
        let d = directory_in s.draft in
        let other : is_same_path (l q).object.path (k q).object.path ≡ false =
        unless (is_same_path (l q).object.path (k q).object.path)
        (λ same. absurd (away (holder_numb q ∙ same_some (numb q (l q)) (numb q (k q)) (sym (numb_is q (l q) (listed q)) ∙ same_number q.nodes (l q).object.path (k q).object.path (folds_alike (l q).object.path (k q).object.path same) ∙ numb_is q (k q) q.seen.known.target.listed) ∙ sym (home_numb q)))) in
        let still = become_other (k q).object other in
        let size : object_size (dir_form (Layout.New q.m)) (e.turn (k q).object).entry ≡ object_size (dir_form (Layout.New q.m)) (k q).object.entry =
        ap₂ (λ (len attrs : ℕ). cond (is_directory attrs) (directory_size (dir_form (Layout.New q.m)) len) len) keeps.len keeps.attrs in
        record {
          found = subst (Contains q.listings) is q.seen.known.target.listed;
          number_at = subst (λ (y : Listing). number_of q.nodes y.object.path ≡ Some a.number) is (q.seen.known.target.holder_is ∙ ap (λ (n : ℕ). let x : Option ℕ = Some n in x) (sym number));
          number_is = number ∙ sym tells.number;
          content_is = content;
          says = subst (λ (y : Listing). IsRewritten (Command.Rename q.from q.to) y.object.path (up y.object.path) y.content a.content) is
              (subst (λ (n : ℕ). IsRewritten (Command.Rename q.from q.to) (k q).object.path n (k q).content a.content) (sym up_is)
              (subst (IsRewritten (Command.Rename q.from q.to) (k q).object.path (now q (k q).object.path) (k q).content) (sym content)
              (says.rewritten (Command.Rename q.from q.to) (not_renamed (k q).object.path k_unlike))));
          can = subst (λ (y : Listing). CanSay (Layout.New q.m) (become q e y.object) a.content) is
              (subst (λ (o : Object). CanSay (Layout.New q.m) o a.content) (sym still)
              (record { form = subst (λ (n : ℕ). HasForm (dir_form (Layout.New q.m)) n a.content) (sym keeps.len) (subst (HasForm (dir_form (Layout.New q.m)) (k q).object.entry.len) (sym content) says.form); body = subst IsDirectory (sym content) (says_it d piece.drafted.sayable) }));
          place = subst (λ (y : Listing). place_of p ≡ (become q e y.object).sectors) is
              (sectors_are q.nodes (layout q) q.listings q.seen.sound q.seen.held (k q) q.seen.known.target.listed q.r.target.holder q.seen.known.target.holder_is piece.node (ap (get q.nodes) (sym tells.number) ∙ piece.there) (place_of p) piece.place
              ∙ sym keeps.sectors ∙ ap (λ (o : Object). o.sectors) (sym still));
          bytes = subst (AreWritten p.bytes.items) (sym content) piece.drafted.bytes;
          long = subst (λ (y : Listing). length p.bytes.items ≡ object_size (dir_form (Layout.New q.m)) (become q e y.object).entry) is
              (piece.drafted.length_is ∙ size_of_form (dir_form (Layout.New q.m)) (k q).object.entry d says.form (listed_directory (layout q) q.listings q.seen.sound (k q) q.seen.known.target.listed).1
              ∙ sym size ∙ ap (λ (o : Object). object_size (dir_form (Layout.New q.m)) o.entry) (sym still));
        }

  -- ---- the object's own directory

  module _ (c : Moving) (up : Path → ℕ) (e : Edit) (turns : e.turn ≡ moved c) (number_is : c.number ≡ q.r.target.node)
      (up_it : (path : Path) → is_same_path q.seen.known.target.object.path path ≡ true → up path ≡ (want.grown q).0.directory.address) where
    one_said : (d : Listing × Directory) (s : Says) (p : Piece) → Contains q.listings d.0 → d.0.object ≡ q.seen.known.target.object → HasMoved (want.grown q).0.directory.address q.name d.0.content d.1 → s.node ≡ q.r.target.node
        → directory_in s.draft ≡ d.1 → IsPieceOf (Layout.New q.m) q.nodes s p → IsSaidNow q (become q e) up (amended_own c d) s p
    one_said d s p found is moves node content piece =
        let o = d.0.object in
        let alike : is_same_path (it q).path o.path ≡ true = subst (λ (y : Object). is_same_path (it q).path y.path ≡ true) (sym is) (itself (it q).path) in
        let renamed : is_same_path o.path q.from ≡ true = same_by_folds o.path q.from (sym (folds_alike (it q).path o.path alike) ∙ sym (folds_alike q.from (it q).path q.seen.known.target.path_is)) in
        let other : is_same_path (l q).object.path o.path ≡ false =
        unless (is_same_path (l q).object.path o.path) (λ same.
        clash (is_same_path (it q).path (l q).object.path) (same_by_folds (it q).path (l q).object.path (folds_alike (it q).path o.path alike ∙ sym (folds_alike (l q).object.path o.path same))) (unlike q)) in
        let still : become q e o ≡ moved c o = become_other e up o other ∙ ap (λ (f : Object → Object). f o) turns in
        let number : number_of q.nodes o.path ≡ Some q.r.target.node = ap (λ (y : Object). number_of q.nodes y.path) is ∙ q.seen.known.target.node_is in
        let form : HasForm (dir_form (Layout.New q.m)) o.entry.len d.1 = form_moved (dir_form (Layout.New q.m)) o.entry.len (want.grown q).0.directory.address q.name d.0.content d.1 moves (q.seen.forms d.0 found) in
        record {
          found = found;
          number_at = number ∙ ap (λ (n : ℕ). let x : Option ℕ = Some n in x) (sym number_is);
          number_is = number_is ∙ sym node;
          content_is = sym content;
          says = subst (λ (n : ℕ). IsRewritten (Command.Rename q.from q.to) o.path n d.0.content d.1) (sym (up_it o.path alike)) (moves.rewritten q.from q.to o.path renamed (sym q.seen.name_is));
          can = subst (λ (y : Object). CanSay (Layout.New q.m) y d.1) (sym still) (record { form = form; body = subst IsDirectory content (says_it (directory_in s.draft) piece.drafted.sayable) });
          place = sectors_are q.nodes (layout q) q.listings q.seen.sound q.seen.held d.0 found q.r.target.node number piece.node (ap (get q.nodes) (sym node) ∙ piece.there) (place_of p) piece.place ∙ ap (λ (y : Object). y.sectors) (sym still);
          bytes = subst (AreWritten p.bytes.items) content piece.drafted.bytes;
          long = piece.drafted.length_is ∙ ap size_of content ∙ moves.size ∙ size_of_form (dir_form (Layout.New q.m)) o.entry d.0.content (q.seen.forms d.0 found) (listed_directory (layout q) q.listings q.seen.sound d.0 found).1
              ∙ ap (λ (y : Object). object_size (dir_form (Layout.New q.m)) y.entry) (sym still);
        }

    own_all : (own : List (Listing × Directory)) (ss : List Says) (ps : List Piece) → ((d : Listing × Directory) → Contains own d → Contains q.listings d.0 × (d.0.object ≡ q.seen.known.target.object) × HasMoved (want.grown q).0.directory.address q.name d.0.content d.1)
        → AreOwnSaid q.r.target.node own ss → AllPieces (Layout.New q.m) q.nodes ss ps → AllSaidNow q (become q e) up (map (amended_own c) own) ss ps
    own_all [] [] [] each said pieces = tt
    own_all [] [] (p ∷ ps) each said pieces = absurd pieces
    own_all [] (s ∷ ss) ps each said pieces = absurd said
    own_all (d ∷ own) [] ps each said pieces = absurd said
    own_all (d ∷ own) (s ∷ ss) [] each said pieces = absurd pieces
    own_all (d ∷ own) (s ∷ ss) (p ∷ ps) each said pieces =
        let here = each d (contains_here d own) in
        (one_said d s p here.0 here.1 here.2 said.0 said.1 pieces.0, own_all own ss ps (λ f at. each f (contains_later d f own at)) said.2 pieces.1)

    pub own_said_now : (ss : List Says) (ps : List Piece) (o : IsOwnGrown q ss) → AllPieces (Layout.New q.m) q.nodes ss ps → AllSaidNow q (become q e) up (map (amended_own c) o.own) ss ps
    own_said_now ss ps o pieces = own_all o.own ss ps (λ d at. let f = own_in q ss o d at in (f.0, f.1, o.moved d at)) o.said pieces
