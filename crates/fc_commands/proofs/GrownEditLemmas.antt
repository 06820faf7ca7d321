-- An object comes to a directory that grows by it: the growth as a part of that edit, from what the directories around it are told.
use Rattle.std.proofs.Common.{◌≡◌, ◌⊎◌, inl, inr, ⊎_elim, ℕ, ◌==◌, Bool, true, false, cond, List, [], ◌∷◌, ◌++◌, length, map, refl, sym, ap, ap₂, flat_map, subst, ◌∙◌, arith, eq-eqb, Option, Some, None}
use Rattle.std.specs.Prelude.{Contains, IsPermutation}
use Rattle.std.specs.FinMap.{get, insert as put}
use Rattle.std.proofs.lemmas.List.{length_push}
use Rattle.std.proofs.lemmas.List.Sorted.{IsPermutation-middle, IsPermutation-refl}
use Rattle.fc_names.specs.Names.{Path, is_same_path}
use Rattle.fc_names.specs.declared.name.NameForm.TheVariants as forms
use Rattle.fc_model.specs.Command.{Command}
use Rattle.fc_model.specs.Tree.{holder as holder_path}
use Rattle.fc_dirs.specs.declared.Entry.{Entry}
use Rattle.fc_dirs.specs.Directory.{Directory}
use Rattle.fc_drafts.specs.declared.draft.Draft.{Draft}
use Rattle.fc_drafts.specs.Draft.{directory_in}
use Rattle.fc_image.specs.Layout.{Layout, dir_form}
use Rattle.fc_image.specs.Sound.{AreSound}
use Rattle.fc_image.specs.Walk.{Listing, Object, object_size}
use Rattle.fc_image.specs.effects.Steady.{AreWritten, IsRewritten, is_renamed_by}
use Rattle.fc_image.proofs.PathsLemmas.{itself}
use Rattle.fc_changes.proofs.BasicLemmas.{clash, holder_pushed}
use Rattle.fc_laws.specs.agree.Agreed.{CanSay}
use Rattle.fc_laws.specs.nodes.Edits.{Nodes, with_body}
use Rattle.fc_laws.proofs.lemmas.nodes.ShapeLemmas.{put_other}
use Rattle.fc_placing.proofs.CopyingLemmas.{dirs_same}
use Rattle.fc_tree.specs.declared.node.Body.TheVariants as bodies
use Rattle.fc_tree.specs.declared.node.Node.{Node}
use Rattle.fc_tree.specs.Agree.{HasForm}
use Rattle.fc_tree.specs.Nodes.{HoldObjects, body_in, number_of}
use Rattle.fc_tree.proofs.MemberLemmas.{contains_here, no_element}
use Rattle.fc_tree.proofs.WalkedLemmas.{child_path, same_some}
use Rattle.fc_edits.specs.Addition.{Addition, amended, edit}
use Rattle.fc_edits.specs.Edit.{Amended, objects}
use Rattle.fc_edits.specs.Growing.{Growing, Holder, IsTold, Told, holding, regrown, told}
use Rattle.fc_edits.specs.NewNodes.{arriving, enter, entered, tell}
use Rattle.fc_edits.proofs.lemmas.ShapeLemmas.{none_flat}
use Rattle.fc_change.specs.declared.change.Says.{Says}
use Rattle.fc_change.specs.After.{body_said, with_regrown, with_said}
use Rattle.fc_change.specs.declared.spaces.GrownPlace.{GrownPlace}
use Rattle.fc_objects.specs.Extents.{sectors_in}
use Rattle.fc_writing.specs.declared.ready.Piece.{Piece}
use Rattle.fc_writing.specs.Ready.{place_of}
use Rattle.fc_commands.proofs.GrownAroundLemmas.{IsCutAround, one_first}
use Rattle.fc_commands.proofs.GrownNodeLemmas.{body_commute, body_put, regrown_put, said_commute}
use Rattle.fc_commands.proofs.GrownReadyLemmas.{AreReady, IsOneReady, regrown_at}
use Rattle.fc_commands.proofs.GrownSpaceLemmas.{growing_of}
use Rattle.fc_commands.proofs.NodeLemmas as node_of
use Rattle.fc_commands.proofs.GrownToldLemmas.{num, num_is, other_long, parent_now}
use Rattle.fc_commands.proofs.GrownSaidLemmas.{IsOwnListing, comes_to}
use Rattle.fc_commands.proofs.GrownSaidLemmas as said_of
use Rattle.fc_image.proofs.EntriesLemmas.{later as contains_later, cases as contains_cases}

module _ (layout : Layout) (nodes : Nodes) (listings : List Listing) (sound : AreSound layout listings) (held : HoldObjects nodes listings) (l : Listing) (listed : Contains listings l)
    (p : GrownPlace) (number : number_of nodes l.object.path ≡ Some p.directory.node) (fits : (k : Listing) → Contains listings k → HasForm (dir_form layout) k.object.entry.len k.content)
    (content : Directory) (children : List Object) (o : Object) (into : List Listing) (new : ℕ) where
  abbrev sectors : List ℕ
  sectors = sectors_in p.extents.items

  abbrev numb : Listing → ℕ
  numb k = num layout nodes listings sound held l listed p.directory number k

  abbrev now : Path → ℕ
  now path = parent_now layout nodes listings sound held l listed p.directory number path

  abbrev OneReady : Listing → Says → Piece → Type 0
  OneReady k s q = IsOneReady layout nodes listings sound held l listed p.directory number fits sectors k s q

  abbrev AllReady : List Listing → List Says → List Piece → Type 0
  AllReady ks ss ps = AreReady layout nodes listings sound held l listed p.directory number fits sectors ks ss ps

  abbrev anew : Object
  anew = regrown_at p.directory sectors l.object

  abbrev IsSaid : (Object → Object) → Amended → Says → Piece → Type 0
  IsSaid x a s q = said_of.IsSaid layout nodes listings sound held l listed p number fits content children o into new x a s q

  abbrev AllSaid : (Object → Object) → List Amended → List Says → List Piece → Type 0
  AllSaid x said ss ps = said_of.AllSaid layout nodes listings sound held l listed p number fits content children o into new x said ss ps

  abbrev kid_told : Listing → Says → Told
  kid_told k s = record { was = k; number = numb k; content = directory_in s.draft }

  abbrev kids_told : List Listing → List Says → List Told
  kids_told ks ss = said_of.kids_told layout nodes listings sound held l listed p number fits content children o into new ks ss

  told_were : (ks : List Listing) (ss : List Says) (ps : List Piece) → AllReady ks ss ps → map (λ (t : Told). t.was) (kids_told ks ss) ≡ ks
  told_were = said_of.told_were layout nodes listings sound held l listed p number fits content children o into new

  told_of : (ks : List Listing) (ss : List Says) (ps : List Piece) → AllReady ks ss ps → (t : Told) → Contains (kids_told ks ss) t
      → (s : Says) × (q : Piece) × OneReady t.was s q × (t ≡ kid_told t.was s) × Contains ks t.was
  told_of = said_of.told_of layout nodes listings sound held l listed p number fits content children o into new

  abbrev GrownEdit : (tops kids left : List Listing) → List Says → List Piece → Type 0
  GrownEdit tops kids left ss ps = said_of.GrownEdit layout nodes listings sound held l listed p number fits content children o into new tops kids left ss ps

  -- ---- both cases

  -- l itself is told this, and its piece goes to its new place
  module _ (s0 : Says) (q0 : Piece) (its : content ≡ directory_in s0.draft) (its_node : s0.node ≡ p.directory.node)
      (its_says : (c : Command) → is_renamed_by c l.object.path ≡ false → IsRewritten c l.object.path (now l.object.path) l.content content)
      (its_can : CanSay layout anew content) (its_place : place_of q0 ≡ sectors) (its_bytes : AreWritten q0.bytes.items content) (its_long : length q0.bytes.items ≡ object_size (dir_form layout) anew.entry)
      (form : dir_form layout ≡ forms.Long) where
    -- by the growth, whatever stands around it
    module _ (rest : List Listing) (again : List Told) (same : List Listing) (holder : Option Holder) (others : List Amended) where
      abbrev c : Addition
      c = comes_to l content children o into rest p.directory.node new

      abbrev gr : Growing
      gr = growing_of l.object p again same holder others

      itself_grown : regrown (edit c) gr l.object ≡ anew
      itself_grown = ap (λ (b : Bool). let x : Object = cond b anew l.object in x) (itself l.object.path)

      other_stays : (k : Object) → is_same_path l.object.path k.path ≡ false → regrown (edit c) gr k ≡ k
      other_stays k other = ap (λ (b : Bool). let x : Object = cond b (record k { entry = record k.entry { address = p.directory.address; len = p.directory.len }; sectors = sectors }) k in x) other

      l_said : IsSaid (regrown (edit c) gr) (amended c) s0 q0
      l_said = record {
        found = listed;
        number_is = sym its_node;
        content_is = its;
        says = its_says;
        can = subst (λ (x : Object). CanSay layout x content) (sym itself_grown) its_can;
        place = its_place ∙ ap (λ (x : Object). x.sectors) (sym itself_grown);
        bytes = its_bytes;
        long = its_long ∙ ap (λ (x : Object). object_size (dir_form layout) x.entry) (sym itself_grown);
      }

      -- another directory, that says its draft
      other_said : (a : Amended) (s : Says) (q : Piece) → OneReady a.was s q → is_same_path l.object.path a.was.object.path ≡ false → a.number ≡ numb a.was → a.content ≡ directory_in s.draft
          → IsSaid (regrown (edit c) gr) a s q
      other_said a s q ready other number_same content_same =
          let x = other_stays a.was.object other in
          record {
            found = ready.found;
            number_is = number_same ∙ same_some (numb a.was) s.node (sym (num_is layout nodes listings sound held l listed p.directory number a.was ready.found) ∙ ready.number_is);
            content_is = content_same;
            says = λ cmd plain. subst (IsRewritten cmd a.was.object.path (now a.was.object.path) a.was.content) (sym content_same) (ready.says cmd plain);
            can = subst (λ (y : Object). CanSay layout y a.content) (sym x) (subst (CanSay layout a.was.object) (sym content_same) ready.can);
            place = ready.place ∙ ap (λ (y : Object). y.sectors) (sym x);
            bytes = subst (AreWritten q.bytes.items) (sym content_same) ready.bytes;
            long = ready.long ∙ ap (λ (y : Object). object_size (dir_form layout) y.entry) (sym x);
          }

      kids_said : (ks : List Listing) (ss : List Says) (ps : List Piece) → ((k : Listing) → Contains ks k → is_same_path l.object.path k.object.path ≡ false) → AllReady ks ss ps
          → AllSaid (regrown (edit c) gr) (map (told (edit c)) (kids_told ks ss)) ss ps
      kids_said [] [] [] other ready = tt
      kids_said [] [] (q ∷ ps) other ready = absurd ready
      kids_said [] (s ∷ ss) ps other ready = absurd ready
      kids_said (k ∷ ks) [] ps other ready = absurd ready
      kids_said (k ∷ ks) (s ∷ ss) [] other ready = absurd ready
      kids_said (k ∷ ks) (s ∷ ss) (q ∷ ps) other ready = (
        other_said (told (edit c) (kid_told k s)) s q ready.0 (other k (contains_here k ks)) refl refl,
        kids_said ks ss ps (λ j at. other j (contains_later k j ks at)) ready.1,
      )

      said_can : (said : List Amended) (ss : List Says) (ps : List Piece) → AllSaid (regrown (edit c) gr) said ss ps → (a : Amended) → Contains said a → CanSay layout (regrown (edit c) gr a.was.object) a.content
      said_can [] ss ps all a at = absurd (no_element a at)
      said_can (b ∷ bs) [] ps all a at = absurd all
      said_can (b ∷ bs) (s ∷ ss) [] all a at = absurd all
      said_can (b ∷ bs) (s ∷ ss) (q ∷ ps) all a at =
          ⊎_elim (λ same'. subst (λ (x : Amended). CanSay layout (regrown (edit c) gr x.was.object) x.content) same' all.0.can) (λ later. said_can bs ss ps all.1 a later) (contains_cases b a bs at)

      -- ---- nodes

      tell_said : (said : List Amended) (ss : List Says) (ps : List Piece) → AllSaid (regrown (edit c) gr) said ss ps → (ns : Nodes) → tell said ns ≡ with_said ss ns
      tell_said [] [] [] all ns = refl
      tell_said [] [] (q ∷ ps) all ns = absurd all
      tell_said [] (s ∷ ss) ps all ns = absurd all
      tell_said (a ∷ bs) [] ps all ns = absurd all
      tell_said (a ∷ bs) (s ∷ ss) [] all ns = absurd all
      tell_said (a ∷ bs) (s ∷ ss) (q ∷ ps) all ns =
          ap₂ (λ (n : ℕ) (d : Directory). tell bs (with_body n (body_in d) ns)) all.0.number_is all.0.content_is ∙ tell_said bs ss ps all.1 (with_body s.node (body_in (directory_in s.draft)) ns)

    -- the node of an object that comes, and of the grown directory
    abbrev file_node : Node
    file_node = record { holder = p.directory.node; entry = o.entry; body = bodies.File }

    abbrev own_node : Node
    own_node = node_of.node nodes layout listings sound held l listed p.directory.node number

    own_there : get nodes p.directory.node ≡ Some own_node
    own_there = node_of.there nodes layout listings sound held l listed p.directory.node number

    regrown_nodes : with_regrown (Some p.directory) nodes ≡ put nodes p.directory.node (record own_node { entry = anew.entry })
    regrown_nodes = regrown_put p.directory own_node nodes own_there

    module _ (free : get nodes new ≡ None) where
      apart_from : (n : ℕ) (x : Node) → get nodes n ≡ Some x → n ≡ new → ⊥
      apart_from n x there same' = absurd (let clash' : (let y : Option Node = Some x in y) ≡ None = sym there ∙ ap (get nodes) same' ∙ free in cc)

      enter_same : (up : ℕ) (x : Object) → x ≡ anew → up ≡ own_node.holder
          → enter ((up, (p.directory.node, x)) ∷ (p.directory.node, (new, o)) ∷ []) nodes ≡ put (with_regrown (Some p.directory) nodes) new file_node
      enter_same up x is above =
          let first : put nodes p.directory.node (entered up x (get nodes p.directory.node)) ≡ with_regrown (Some p.directory) nodes =
          ap (λ (y : Option Node). put nodes p.directory.node (entered up x y)) own_there
          ∙ ap₂ (λ (u : ℕ) (e : Entry). put nodes p.directory.node (record own_node { holder = u; entry = e })) above (ap (λ (y : Object). y.entry) is) ∙ sym regrown_nodes in
          let none : get (with_regrown (Some p.directory) nodes) new ≡ None =
          ap (λ (ns : Nodes). get ns new) regrown_nodes ∙ put_other nodes p.directory.node new (record own_node { entry = anew.entry }) (λ e. apart_from p.directory.node own_node own_there (sym e)) ∙ free in
          ap (λ (ns : Nodes). put ns new (entered p.directory.node o (get ns new))) first ∙ ap (λ (y : Option Node). put (with_regrown (Some p.directory) nodes) new (entered p.directory.node o y)) none

      ready_apart : (ks : List Listing) (ss : List Says) (ps : List Piece) → AllReady ks ss ps → (s : Says) → Contains ss s → s.node ≡ new → ⊥
      ready_apart [] [] ps ready s at same' = no_element s at
      ready_apart [] (r ∷ ss) [] ready s at same' = absurd ready
      ready_apart [] (r ∷ ss) (q ∷ ps) ready s at same' = absurd ready
      ready_apart (k ∷ ks) [] ps ready s at same' = no_element s at
      ready_apart (k ∷ ks) (r ∷ ss) [] ready s at same' = absurd ready
      ready_apart (k ∷ ks) (r ∷ ss) (q ∷ ps) ready s at same' =
          ⊎_elim
          (λ is. apart_from r.node (node_of.node nodes layout listings sound held k ready.0.found r.node ready.0.number_is) (node_of.there nodes layout listings sound held k ready.0.found r.node ready.0.number_is) (ap (λ (x : Says). x.node) is ∙ same'))
          (λ later. ready_apart ks ss ps ready.1 s later same') (contains_cases r s ss at)

      says_apart : (ks : List Listing) (ss : List Says) (ps : List Piece) → AllReady ks ss ps → (s : Says) → Contains (s0 ∷ ss) s → s.node ≡ new → ⊥
      says_apart ks ss ps ready s at same' =
          ⊎_elim (λ is. apart_from p.directory.node own_node own_there (sym its_node ∙ ap (λ (x : Says). x.node) is ∙ same')) (λ later. ready_apart ks ss ps ready s later same') (contains_cases s0 s ss at)

      -- A new directory says what it says, whenever it is told.
      come_same : (own : Option Draft) → IsOwnListing new own into → (ss : List Says) → ((s : Says) → Contains ss s → s.node ≡ new → ⊥) → (ns : Nodes)
          → with_said ss (put ns new (record { holder = p.directory.node; entry = o.entry; body = body_said own })) ≡ tell (map arriving (map (λ (d : Listing). let q : ℕ × Listing = (new, d) in q) into)) (with_said ss (put ns new file_node))
      come_same None none ss apart ns = sym (ap (λ (ks : List Listing). tell (map arriving (map (λ (d : Listing). let q : ℕ × Listing = (new, d) in q) ks)) (with_said ss (put ns new file_node))) none)
      come_same (Some d) k ss apart ns =
          sym (ap (with_said ss) (body_put new (body_in (directory_in d)) file_node ns))
          ∙ sym (said_commute ss new (body_in (directory_in d)) (put ns new file_node) apart)
          ∙ ap (λ (x : Directory). with_body new (body_in x) (with_said ss (put ns new file_node))) (sym k.2)
          ∙ sym (ap (λ (ks : List Listing). tell (map arriving (map (λ (y : Listing). let q : ℕ × Listing = (new, y) in q) ks)) (with_said ss (put ns new file_node))) k.1)

    -- the directories in it that are told
    abbrev stays : Bool
    stays = l.object.entry.address == p.directory.address

    abbrev moved : List Listing → List Listing
    moved kids = cond stays [] kids

    kid_other : (kids left tops : List Listing) → IsCutAround listings l tops kids left → (k : Listing) → Contains (moved kids) k → is_same_path l.object.path k.object.path ≡ false
    kid_other = said_of.kid_other layout nodes listings sound held l listed p number fits content children o into new

    kid_is_told : (kids left tops : List Listing) (ss : List Says) (ps : List Piece) → IsCutAround listings l tops kids left → AllReady (moved kids) ss ps → (t : Told) → Contains (kids_told (moved kids) ss) t
        → IsTold nodes t
    kid_is_told = said_of.kid_is_told layout nodes listings sound held l listed p number fits content children o into new

    told_kids : (kids : List Listing) (ss : List Says) (ps : List Piece) → AllReady (moved kids) ss ps → (t : Told) → Contains (kids_told (moved kids) ss) t → (stays ≡ false) × Contains kids t.was
    told_kids = said_of.told_kids layout nodes listings sound held l listed p number fits content children o into new

    kept : (kids left : List Listing) (k : Listing) → Contains (cond stays (kids ++ left) left) k → ((stays ≡ true) × Contains kids k) ⊎ Contains left k
    kept = said_of.kept layout nodes listings sound held l listed p number fits content children o into new

    parted : (kids left : List Listing) → (let ks : List Listing = moved kids in ks) ++ cond stays (kids ++ left) left ≡ kids ++ left
    parted = said_of.parted layout nodes listings sound held l listed p number fits content children o into new

    -- ---- the root

    pub at_top : (kids left : List Listing) (ss : List Says) (ps : List Piece) → IsCutAround listings l [] kids left → AllReady (moved kids) ss ps → l.object.path ≡ [] → GrownEdit [] kids left (s0 ∷ ss) (q0 ∷ ps)
    at_top kids left ss ps cut ready top =
        let again = kids_told (moved kids) ss in
        let same = cond stays (kids ++ left) left in
        let plain = comes_to l content children o into (kids ++ left) p.directory.node new in
        let others = amended plain ∷ map (told (edit plain)) again in
        let all : AllSaid (regrown (edit plain) (growing_of l.object p again same None others)) others (s0 ∷ ss) (q0 ∷ ps) =
        (l_said (kids ++ left) again same None others, kids_said (kids ++ left) again same None others (moved kids) ss ps (kid_other kids left [] cut) ready) in
        record {
          again = again;
          same = same;
          holder = None;
          others = others;
          said = others;
          above = ap (λ (x : Path). number_of nodes (holder_path x)) top;
          grows = record {
            form = form;
            dir_is = number;
            stays = refl;
            listed = (amended plain, contains_here (amended plain) [], refl);
            none_leave = refl;
            none_join = refl;
            same_is = subst (λ (ks : List Listing). IsPermutation (kids ++ left) (ks ++ same)) (sym (told_were (moved kids) ss ps ready)) (subst (IsPermutation (kids ++ left)) (sym (parted kids left)) (IsPermutation-refl (kids ++ left)));
            told_is = kid_is_told kids left [] ss ps cut ready;
            amended_is = IsPermutation-refl others;
            held = top;
            says = said_can (kids ++ left) again same None others others (s0 ∷ ss) (q0 ∷ ps) all;
          };
          all = all;
          among = λ a at. at;
          back = λ a at. at;
          nodes_are = λ own its_own free.
              (let zero' : p.directory.node ≡ 0 = same_some p.directory.node 0 (sym number ∙ ap (number_of nodes) top) in
              let holder0 : 0 ≡ own_node.holder = same_some 0 own_node.holder (sym (ap (λ (x : Path). number_of nodes (holder_path x)) top) ∙ (held.each l.object (node_of.among nodes layout listings sound held l listed p.directory.node number)).at_holder) in
              let x = regrown (edit plain) (growing_of l.object p again same None others) l.object in
              let f : Amended → List (ℕ × (ℕ × Object)) = λ a. map (λ (q : ℕ × Object). (a.number, q)) a.join in
              let entered' : enter ((0, (0, x)) ∷ ((p.directory.node, (new, o)) ∷ flat_map f (map (told (edit plain)) again))) nodes ≡ put (with_regrown (Some p.directory) nodes) new file_node =
              ap (λ (qs : List (ℕ × (ℕ × Object))). enter ((0, (0, x)) ∷ ((p.directory.node, (new, o)) ∷ qs)) nodes) (none_flat f (told (edit plain)) again (λ t. refl))
              ∙ ap (λ (n : ℕ). enter ((0, (n, x)) ∷ (p.directory.node, (new, o)) ∷ []) nodes) (sym zero')
              ∙ enter_same free 0 x (itself_grown (kids ++ left) again same None others) holder0 in
              come_same free own its_own (s0 ∷ ss) (says_apart free (moved kids) ss ps ready) (with_regrown (Some p.directory) nodes)
              ∙ sym (ap (tell (map arriving (map (λ (d : Listing). let q : ℕ × Listing = (new, d) in q) into)))
              (tell_said (kids ++ left) again same None others others (s0 ∷ ss) (q0 ∷ ps) all (enter ((0, (0, x)) ∷ ((p.directory.node, (new, o)) ∷ flat_map f (map (told (edit plain)) again))) nodes)
              ∙ ap (with_said (s0 ∷ ss)) entered')));
          leave = ap (λ (qs : List (ℕ × Object)). l.object ∷ objects qs) (none_flat (λ (a : Amended). a.leave) (told (edit plain)) again (λ t. refl));
          join = ap (λ (qs : List (ℕ × Object)). regrown (edit plain) (growing_of l.object p again same None others) l.object ∷ o ∷ objects qs) (none_flat (λ (a : Amended). a.join) (told (edit plain)) again (λ t. refl))
              ∙ ap (λ (x : Object). x ∷ o ∷ []) (itself_grown (kids ++ left) again same None others);
          told_by = λ t at. inr (told_kids kids ss ps ready t at);
          kept_by = kept kids left;
        }

    -- ---- below it

    pub below : (h : Listing) (kids left : List Listing) (s : Says) (q : Piece) (ss : List Says) (ps : List Piece) → IsCutAround listings l (h ∷ []) kids left → Contains h.children l.object → OneReady h s q
        → AllReady (moved kids) ss ps → GrownEdit (h ∷ []) kids left (s0 ∷ s ∷ ss) (q0 ∷ q ∷ ps)
    below h kids left s q ss ps cut kid top ready =
        let first : Told = record { was = h; number = numb h; content = h.content } in
        let more = kids_told (moved kids) ss in
        let again = first ∷ more in
        let same = cond stays (kids ++ left) left in
        let plain = comes_to l content children o into (h ∷ (kids ++ left)) p.directory.node new in
        let others = amended plain ∷ map (told (edit plain)) more in
        let parting = one_first h.children l.object kid in
        let hd : Holder = record { amended = told (edit plain) first; content = directory_in s.draft; kids = parting.0 } in
        let gr = growing_of l.object p again same (Some hd) others in
        let said = amended plain ∷ holding (edit plain) gr hd ∷ map (told (edit plain)) more in
        let rest = h ∷ (kids ++ left) in
        let shorter : is_same_path l.object.path h.object.path ≡ false = other_long l.object.path h.object.path (λ same'.
        let more' = ap (λ (x : Path). length x) (child_path layout listings sound h l.object top.found kid) ∙ length_push h.object.path l.object.entry.name in omega (arith, same', more')) in
        let all : AllSaid (regrown (edit plain) gr) said (s0 ∷ s ∷ ss) (q0 ∷ q ∷ ps) = (
          l_said rest again same (Some hd) others,
          (
            other_said rest again same (Some hd) others (holding (edit plain) gr hd) s q top shorter refl refl,
            kids_said rest again same (Some hd) others (moved kids) ss ps (kid_other kids left (h ∷ []) cut) ready,
          ),
        ) in
        let among : (a : Amended) → Contains (holding (edit plain) gr hd ∷ others) a → Contains said a = λ a at.
        ⊎_elim (λ is. contains_later (amended plain) a (holding (edit plain) gr hd ∷ map (told (edit plain)) more) (subst (Contains (holding (edit plain) gr hd ∷ map (told (edit plain)) more)) is (contains_here (holding (edit plain) gr hd) (map (told (edit plain)) more))))
        (λ other. ⊎_elim (λ is. subst (Contains said) is (contains_here (amended plain) (holding (edit plain) gr hd ∷ map (told (edit plain)) more)))
        (λ later. contains_later (amended plain) a (holding (edit plain) gr hd ∷ map (told (edit plain)) more) (contains_later (holding (edit plain) gr hd) a (map (told (edit plain)) more) later))
        (contains_cases (amended plain) a (map (told (edit plain)) more) other)) (contains_cases (holding (edit plain) gr hd) a others at) in
        record {
          again = again;
          same = same;
          holder = Some hd;
          others = others;
          said = said;
          above = ap (number_of nodes) (ap holder_path (child_path layout listings sound h l.object top.found kid) ∙ holder_pushed h.object.path l.object.entry.name)
              ∙ num_is layout nodes listings sound held l listed p.directory number h top.found;
          grows = record {
            form = form;
            dir_is = number;
            stays = refl;
            listed = (amended plain, contains_here (amended plain) [], refl);
            none_leave = refl;
            none_join = refl;
            same_is = subst (λ (ks : List Listing). IsPermutation rest (h ∷ (ks ++ same))) (sym (told_were (moved kids) ss ps ready)) (subst (λ (ks : List Listing). IsPermutation rest (h ∷ ks)) (sym (parted kids left)) (IsPermutation-refl rest));
            told_is = λ t at.
                ⊎_elim (λ is. subst (IsTold nodes) is (record { number_is = num_is layout nodes listings sound held l listed p.directory number h top.found; entries = refl }))
                (λ later. kid_is_told kids left (h ∷ []) ss ps cut ready t later) (contains_cases first t more at);
            amended_is = IsPermutation-middle (amended plain ∷ []) (told (edit plain) first) (map (told (edit plain)) more);
            held = record { none_join = refl; kids = parting.1; entries = top.entries };
            says = λ a at. said_can rest again same (Some hd) others said (s0 ∷ s ∷ ss) (q0 ∷ q ∷ ps) all a (among a at);
          };
          all = all;
          among = among;
          back = λ a at.
              ⊎_elim (λ is. contains_later (holding (edit plain) gr hd) a others (subst (Contains others) is (contains_here (amended plain) (map (told (edit plain)) more))))
              (λ other. ⊎_elim (λ is. subst (Contains (holding (edit plain) gr hd ∷ others)) is (contains_here (holding (edit plain) gr hd) others))
              (λ later. contains_later (holding (edit plain) gr hd) a others (contains_later (amended plain) a (map (told (edit plain)) more) later))
              (contains_cases (holding (edit plain) gr hd) a (map (told (edit plain)) more) other)) (contains_cases (amended plain) a (holding (edit plain) gr hd ∷ map (told (edit plain)) more) at);
          nodes_are = λ own its_own free.
              (let up : numb h ≡ own_node.holder =
              same_some (numb h) own_node.holder
              (sym (num_is layout nodes listings sound held l listed p.directory number h top.found) ∙ ap (number_of nodes) (sym (holder_pushed h.object.path l.object.entry.name) ∙ sym (ap holder_path (child_path layout listings sound h l.object top.found kid)))
              ∙ (held.each l.object (node_of.among nodes layout listings sound held l listed p.directory.node number)).at_holder) in
              let x = regrown (edit plain) gr l.object in
              let f : Amended → List (ℕ × (ℕ × Object)) = λ a. map (λ (q : ℕ × Object). (a.number, q)) a.join in
              let entering' = (numb h, (p.directory.node, x)) ∷ ((p.directory.node, (new, o)) ∷ flat_map f (map (told (edit plain)) more)) in
              let entered' : enter entering' nodes ≡ put (with_regrown (Some p.directory) nodes) new file_node =
              ap (λ (qs : List (ℕ × (ℕ × Object))). enter ((numb h, (p.directory.node, x)) ∷ ((p.directory.node, (new, o)) ∷ qs)) nodes) (none_flat f (told (edit plain)) more (λ t. refl))
              ∙ enter_same free (numb h) x (itself_grown rest again same (Some hd) others) up in
              let apart' : p.directory.node ≡ numb h → ⊥ = λ e.
              clash (is_same_path l.object.path h.object.path)
              (sym (dirs_same nodes l.object.path h.object.path p.directory.node (numb h) number (num_is layout nodes listings sound held l listed p.directory number h top.found)) ∙ eq-eqb p.directory.node (numb h) e) shorter in
              let swapped : (ns : Nodes) → tell (holding (edit plain) gr hd ∷ others) ns ≡ with_said (s0 ∷ s ∷ ss) ns = λ ns.
              ap (tell (map (told (edit plain)) more)) (body_commute p.directory.node (numb h) (body_in content) (body_in (directory_in s.draft)) ns apart')
              ∙ tell_said rest again same (Some hd) others said (s0 ∷ s ∷ ss) (q0 ∷ q ∷ ps) all ns in
              come_same free own its_own (s0 ∷ s ∷ ss) (says_apart free (h ∷ moved kids) (s ∷ ss) (q ∷ ps) (top, ready)) (with_regrown (Some p.directory) nodes)
              ∙ sym (ap (tell (map arriving (map (λ (d : Listing). let y : ℕ × Listing = (new, d) in y) into))) (swapped (enter entering' nodes) ∙ ap (with_said (s0 ∷ s ∷ ss)) entered')));
          leave = ap (λ (qs : List (ℕ × Object)). l.object ∷ objects qs) (none_flat (λ (a : Amended). a.leave) (told (edit plain)) more (λ t. refl));
          join = ap (λ (qs : List (ℕ × Object)). regrown (edit plain) gr l.object ∷ o ∷ objects qs) (none_flat (λ (a : Amended). a.join) (told (edit plain)) more (λ t. refl))
              ∙ ap (λ (x : Object). x ∷ o ∷ []) (itself_grown rest again same (Some hd) others);
          told_by = λ t at. ⊎_elim (λ is. inl (subst (λ (u : Told). Contains (h ∷ []) u.was) is (contains_here h []))) (λ later. inr (told_kids kids ss ps ready t later)) (contains_cases first t more at);
          kept_by = kept kids left;
        }
