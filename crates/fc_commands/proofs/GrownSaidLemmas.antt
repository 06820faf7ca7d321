-- The directories of an edit in which one grows, as they are told and their pieces say it; and the growth as a part of that edit.
use Rattle.std.proofs.Common.{◌≡◌, ◌⊎◌, ⊎_elim, ℕ, ◌==◌, true, false, List, [], ◌∷◌, ◌++◌, length, map, refl, ap, subst, Option, Some, None, inl, inr, Bool, cond, sym, arith, ◌∙◌}
use Rattle.std.specs.Prelude.{Contains}
use Rattle.std.specs.FinMap.{get}
use Rattle.fc_names.specs.Names.{Path, is_same_path}
use Rattle.fc_model.specs.Command.{Command}
use Rattle.fc_model.specs.Tree.{holder as holder_path}
use Rattle.fc_dirs.specs.Directory.{Directory, entries_of}
use Rattle.fc_drafts.specs.declared.draft.Draft.{Draft}
use Rattle.fc_drafts.specs.Draft.{directory_in}
use Rattle.fc_image.specs.Layout.{Layout, dir_form}
use Rattle.fc_image.specs.Sound.{AreSound}
use Rattle.fc_image.specs.Walk.{Listing, Object, object_size, is_directory_object}
use Rattle.fc_image.specs.effects.Steady.{AreWritten, IsRewritten, is_renamed_by}
use Rattle.fc_laws.specs.agree.Agreed.{CanSay}
use Rattle.fc_laws.specs.nodes.Edits.{Nodes}
use Rattle.fc_tree.specs.Agree.{HasForm}
use Rattle.fc_tree.specs.Nodes.{HoldObjects, number_of}
use Rattle.fc_tree.proofs.MemberLemmas.{contains_here, no_element, in_map}
use Rattle.fc_edits.specs.Addition.{Addition, edit}
use Rattle.fc_edits.specs.Edit.{Amended, joining, leaving, objects}
use Rattle.fc_edits.specs.Growing.{Holder, IsGrowing, Told, amended_by, grown_by, regrown, up_of, IsTold}
use Rattle.fc_edits.specs.NewNodes.{nodes_after}
use Rattle.fc_change.specs.declared.change.Says.{Says}
use Rattle.fc_change.specs.declared.change.Turned.TheVariants as turns
use Rattle.fc_change.specs.After.{with_regrown, with_said, with_turned}
use Rattle.fc_change.specs.declared.spaces.GrownPlace.{GrownPlace}
use Rattle.fc_objects.specs.Extents.{sectors_in}
use Rattle.fc_writing.specs.declared.ready.Piece.{Piece}
use Rattle.fc_writing.specs.Ready.{place_of}
use Rattle.fc_commands.proofs.GrownReadyLemmas.{AreReady, IsOneReady, regrown_at}
use Rattle.fc_commands.proofs.GrownSpaceLemmas.{growing_of}
use Rattle.fc_commands.proofs.GrownToldLemmas.{num, parent_now, num_is, other_long}
use Rattle.std.proofs.lemmas.List.{length_push}
use Rattle.std.proofs.lemmas.List.Elements.{Contains-append_cases, Contains-append_left}
use Rattle.fc_tree.proofs.WalkedLemmas.{child_path}
use Rattle.fc_commands.proofs.GrownAroundLemmas.{IsCutAround, in_filtered, none_holds}
use Rattle.std.proofs.lemmas.Bool.{false_from_ne_true as unless}
use Rattle.fc_image.proofs.EntriesLemmas.{later as contains_later, cases as contains_cases}

-- A new directory comes with its own listing, and a file with none.
abbrev pub IsOwnListing : ℕ → Option Draft → List Listing → Type 0
IsOwnListing new None into = into ≡ []
IsOwnListing new (Some d) into = (k : Listing) × (into ≡ k ∷ []) × (k.content ≡ directory_in d)

-- what an object joins, a directory of these entries afterwards; the others stay
abbrev pub comes_to : (l : Listing) (content : Directory) (children : List Object) (o : Object) (into rest : List Listing) (dir number : ℕ) → Addition
comes_to l content children o into rest dir number =
    record { over = []; into = into; rest = rest; l = l; content = content; children = children; kids = l.children; o = o; dir = dir; number = number }

module _ (layout : Layout) (nodes : Nodes) (listings : List Listing) (sound : AreSound layout listings) (held : HoldObjects nodes listings) (l : Listing) (listed : Contains listings l)
    (p : GrownPlace) (number : number_of nodes l.object.path ≡ Some p.directory.node) (fits : (k : Listing) → Contains listings k → HasForm (dir_form layout) k.object.entry.len k.content)
    (content : Directory) (children : List Object) (o : Object) (into : List Listing) (new : ℕ) where
  abbrev pub sectors : List ℕ
  sectors = sectors_in p.extents.items

  abbrev pub numb : Listing → ℕ
  numb k = num layout nodes listings sound held l listed p.directory number k

  abbrev pub now : Path → ℕ
  now path = parent_now layout nodes listings sound held l listed p.directory number path

  abbrev pub OneReady : Listing → Says → Piece → Type 0
  OneReady k s q = IsOneReady layout nodes listings sound held l listed p.directory number fits sectors k s q

  abbrev pub AllReady : List Listing → List Says → List Piece → Type 0
  AllReady ks ss ps = AreReady layout nodes listings sound held l listed p.directory number fits sectors ks ss ps

  -- its own listing among what is written: the object that it is then
  abbrev pub anew : Object
  anew = regrown_at p.directory sectors l.object

  -- A directory of the edit is told this, and its piece says it, at its new place if it grows.
  pub record IsSaid (x : Object → Object) (a : Amended) (s : Says) (q : Piece) : Type 0 where
    pub found : Contains listings a.was
    pub number_is : a.number ≡ s.node
    pub content_is : a.content ≡ directory_in s.draft
    pub says : (c : Command) → is_renamed_by c a.was.object.path ≡ false → IsRewritten c a.was.object.path (now a.was.object.path) a.was.content a.content
    pub can : CanSay layout (x a.was.object) a.content
    pub place : place_of q ≡ (x a.was.object).sectors
    pub bytes : AreWritten q.bytes.items a.content
    pub long : length q.bytes.items ≡ object_size (dir_form layout) (x a.was.object).entry

  -- each of them, in the order in which they are told
  abbrev pub AllSaid : (Object → Object) → List Amended → List Says → List Piece → Type 0
  AllSaid x [] [] [] = Unit {0}
  AllSaid x (a ∷ bs) (s ∷ ss) (q ∷ qs) = IsSaid x a s q × AllSaid x bs ss qs
  AllSaid x _ _ _ = ⊥

  -- It is told what its draft says.
  abbrev pub kid_told : Listing → Says → Told
  kid_told k s = record { was = k; number = numb k; content = directory_in s.draft }

  abbrev pub kids_told : List Listing → List Says → List Told
  kids_told [] ss = []
  kids_told (k ∷ ks) [] = []
  kids_told (k ∷ ks) (s ∷ ss) = kid_told k s ∷ kids_told ks ss

  pub told_were : (ks : List Listing) (ss : List Says) (ps : List Piece) → AllReady ks ss ps → map (λ (t : Told). t.was) (kids_told ks ss) ≡ ks
  told_were [] ss ps ready = refl
  told_were (k ∷ ks) [] ps ready = absurd ready
  told_were (k ∷ ks) (s ∷ ss) [] ready = absurd ready
  told_were (k ∷ ks) (s ∷ ss) (q ∷ ps) ready = ap (λ (js : List Listing). k ∷ js) (told_were ks ss ps ready.1)

  -- a directory that is told, and is ready
  pub told_of : (ks : List Listing) (ss : List Says) (ps : List Piece) → AllReady ks ss ps → (t : Told) → Contains (kids_told ks ss) t
      → (s : Says) × (q : Piece) × OneReady t.was s q × (t ≡ kid_told t.was s) × Contains ks t.was
  told_of [] ss ps ready t at = absurd (no_element t at)
  told_of (k ∷ ks) [] ps ready t at = absurd ready
  told_of (k ∷ ks) (s ∷ ss) [] ready t at = absurd ready
  told_of (k ∷ ks) (s ∷ ss) (q ∷ ps) ready t at =
      ⊎_elim
      (λ same. subst (λ (u : Told). (s' : Says) × (q' : Piece) × OneReady u.was s' q' × (u ≡ kid_told u.was s') × Contains (k ∷ ks) u.was) same (s, q, ready.0, refl, contains_here k ks))
      (λ later. let r = told_of ks ss ps ready.1 t later in (r.0, r.1, r.2, r.3, contains_later k t.was ks r.4)) (contains_cases (kid_told k s) t (kids_told ks ss) at)

  -- the directories in it that are told
  abbrev pub stays : Bool
  stays = l.object.entry.address == p.directory.address

  abbrev pub moved : List Listing → List Listing
  moved kids = cond stays [] kids

  kid_longer : (kids left tops : List Listing) → IsCutAround listings l tops kids left → (k : Listing) → Contains kids k → is_same_path l.object.path k.object.path ≡ false
  kid_longer kids left tops cut k at =
      let kid : Contains l.children k.object = in_filtered is_directory_object l.children k.object
      (subst (λ (os : List Object). Contains os k.object) cut.kids_are (in_map (λ (j : Listing). j.object) kids k at)) in
      other_long l.object.path k.object.path (λ same.
      let more = ap (λ (x : Path). length x) (child_path layout listings sound l k.object listed kid) ∙ length_push l.object.path k.object.entry.name in omega (arith, same, more))

  pub kid_other : (kids left tops : List Listing) → IsCutAround listings l tops kids left → (k : Listing) → Contains (moved kids) k → is_same_path l.object.path k.object.path ≡ false
  kid_other kids left tops cut k at = by stays at
    where
      by : (b : Bool) → Contains (cond b [] kids) k → is_same_path l.object.path k.object.path ≡ false
      by true here = absurd (no_element k here)
      by false here = kid_longer kids left tops cut k here

  kids_plain : (kids left tops : List Listing) → IsCutAround listings l tops kids left → (k : Listing) → Contains (moved kids) k → is_same_path (holder_path l.object.path) k.object.path ≡ false
  kids_plain kids left tops cut k at =
      unless (is_same_path (holder_path l.object.path) k.object.path)
      (λ same. none_holds layout listings nodes sound held l listed tops kids left cut k (by stays at) same)
    where
      by : (b : Bool) → Contains (cond b [] kids) k → Contains (kids ++ left) k
      by true here = absurd (no_element k here)
      by false here = Contains-append_left kids left k here

  pub kid_is_told : (kids left tops : List Listing) (ss : List Says) (ps : List Piece) → IsCutAround listings l tops kids left → AllReady (moved kids) ss ps → (t : Told) → Contains (kids_told (moved kids) ss) t
      → IsTold nodes t
  kid_is_told kids left tops ss ps cut ready t at =
      let r = told_of (moved kids) ss ps ready t at in
      record {
        number_is = num_is layout nodes listings sound held l listed p.directory number t.was r.2.found ∙ ap (λ (u : Told). let x : Option ℕ = Some u.number in x) (sym r.3);
        entries = ap (λ (u : Told). entries_of u.content) r.3 ∙ r.2.plain (kids_plain kids left tops cut t.was r.4);
      }

  pub told_kids : (kids : List Listing) (ss : List Says) (ps : List Piece) → AllReady (moved kids) ss ps → (t : Told) → Contains (kids_told (moved kids) ss) t → (stays ≡ false) × Contains kids t.was
  told_kids kids ss ps ready t at = by stays refl (told_of (moved kids) ss ps ready t at).4
    where
      by : (b : Bool) → stays ≡ b → Contains (cond b [] kids) t.was → (stays ≡ false) × Contains kids t.was
      by true e here = absurd (no_element t.was here)
      by false e here = (e, here)

  pub kept : (kids left : List Listing) (k : Listing) → Contains (cond stays (kids ++ left) left) k → ((stays ≡ true) × Contains kids k) ⊎ Contains left k
  kept kids left k at = by stays refl at
    where
      by : (b : Bool) → stays ≡ b → Contains (cond b (kids ++ left) left) k → ((stays ≡ true) × Contains kids k) ⊎ Contains left k
      by true e here = ⊎_elim (λ kid. inl (e, kid)) (λ other. inr other) (Contains-append_cases kids left k here)
      by false e here = inr here

  pub parted : (kids left : List Listing) → (let ks : List Listing = moved kids in ks) ++ cond stays (kids ++ left) left ≡ kids ++ left
  parted kids left = by stays
    where
      by : (b : Bool) → cond b [] kids ++ cond b (kids ++ left) left ≡ kids ++ left
      by true = refl
      by false = refl

  -- ---- an edit in which it grows

  -- These are the directories around it; the addition leaves all but l as they are.
  pub record GrownEdit (tops kids left : List Listing) (told_says : List Says) (pieces : List Piece) : Type 0 where
    pub again : List Told
    pub same : List Listing
    pub holder : Option Holder
    pub others : List Amended
    pub said : List Amended
    pub above : number_of nodes (holder_path l.object.path) ≡ Some (up_of holder)
    pub grows : IsGrowing nodes layout (edit (comes_to l content children o into (tops ++ (kids ++ left)) p.directory.node new)) (growing_of l.object p again same holder others)
    pub all : AllSaid (regrown (edit (comes_to l content children o into (tops ++ (kids ++ left)) p.directory.node new)) (growing_of l.object p again same holder others)) said told_says pieces
    pub among : (a : Amended) → Contains (amended_by (edit (comes_to l content children o into (tops ++ (kids ++ left)) p.directory.node new)) (growing_of l.object p again same holder others) holder) a → Contains said a
    pub back : (a : Amended) → Contains said a → Contains (amended_by (edit (comes_to l content children o into (tops ++ (kids ++ left)) p.directory.node new)) (growing_of l.object p again same holder others) holder) a
    pub nodes_are : (own : Option Draft) → IsOwnListing new own into → get nodes new ≡ None
        → with_said told_says (with_turned (turns.Comes p.directory.node o.entry own) new (with_regrown (Some p.directory) nodes))
        ≡ nodes_after (grown_by (edit (comes_to l content children o into (tops ++ (kids ++ left)) p.directory.node new)) (growing_of l.object p again same holder others) holder) nodes
    pub leave : objects (leaving (grown_by (edit (comes_to l content children o into (tops ++ (kids ++ left)) p.directory.node new)) (growing_of l.object p again same holder others) holder)) ≡ l.object ∷ []
    pub join : objects (joining (grown_by (edit (comes_to l content children o into (tops ++ (kids ++ left)) p.directory.node new)) (growing_of l.object p again same holder others) holder)) ≡ anew ∷ o ∷ []
    pub told_by : (t : Told) → Contains again t → Contains tops t.was ⊎ ((l.object.entry.address == p.directory.address) ≡ false) × Contains kids t.was
    pub kept_by : (k : Listing) → Contains same k → (((l.object.entry.address == p.directory.address) ≡ true) × Contains kids k) ⊎ Contains left k
