-- An entry comes to a directory that grows by it: what the change tells that directory and those around it, and the edit that it is then.
use Rattle.std.proofs.Common.{◌≡◌, ◌⊎◌, inl, inr, ⊎_elim, ℕ, ◌==◌, ◌||◌, Bool, true, false, cond, not, List, [], ◌∷◌, ◌++◌, length, map, refl, sym, ap, ap₂, subst, ◌∙◌, arith, eq-eqb, Option, Some, None}
use Rattle.std.specs.Prelude.{Contains, filter}
use Rattle.std.specs.Option.{option_map, option_map_or}
use Rattle.std.proofs.lemmas.List.{append-nil, length_push}
use Rattle.std.proofs.lemmas.List.Elements.{Contains-append_cases, Contains-append_left, Contains-append_right}
use Rattle.std.proofs.lemmas.List.Sorted.{Contains-permutation, IsPermutation-sym}
use Rattle.fc_names.specs.Names.{Path, is_same_path}
use Rattle.fc_names.specs.declared.name.NameForm.{NameForm}
use Rattle.fc_names.specs.declared.name.NameForm.TheVariants as forms
use Rattle.fc_model.specs.Command.{Command}
use Rattle.fc_dirs.specs.declared.Entry.{Entry}
use Rattle.fc_dirs.specs.Directory.{Directory}
use Rattle.fc_drafts.specs.declared.room.Room.{Room}
use Rattle.fc_drafts.specs.declared.room.Room.TheVariants as rooms
use Rattle.fc_drafts.specs.Draft.{directory_in, names_of, size_of}
use Rattle.fc_drafts.specs.Gains.{GetsName, HasRoom}
use Rattle.fc_drafts.specs.Rewriting.{HasEntered}
use Rattle.fc_image.specs.Layout.{Layout, dir_form}
use Rattle.fc_image.specs.Sound.{AreSound}
use Rattle.fc_image.specs.Walk.{Listing, Object, is_directory_object, object_size}
use Rattle.fc_image.specs.effects.Short.{Gain, Growth as Grown}
use Rattle.fc_image.specs.effects.Steady.{IsRewritten, is_renamed_by}
use Rattle.fc_changes.proofs.BasicLemmas.{clash}
use Rattle.fc_laws.specs.agree.Agreed.{CanSay}
use Rattle.fc_laws.specs.nodes.Edits.{Nodes}
use Rattle.fc_objects.specs.Extents.{sectors_in}
use Rattle.fc_placing.proofs.CopyingLemmas.{dirs_same}
use Rattle.fc_tree.specs.Agree.{HasForm}
use Rattle.fc_tree.specs.Nodes.{HoldObjects, number_of}
use Rattle.fc_tree.specs.Parts.{Parts}
use Rattle.fc_tree.proofs.MemberLemmas.{contains_here, from_map, in_map, no_element}
use Rattle.fc_tree.proofs.WalkedLemmas.{child_path, listed_directory, same_some}
use Rattle.fc_change.specs.declared.change.Change.{Change}
use Rattle.fc_change.specs.declared.change.Regrowth.{Regrowth}
use Rattle.fc_change.specs.declared.change.Says.{Says}
use Rattle.fc_change.specs.declared.job.Job.{Job}
use Rattle.fc_change.specs.declared.spaces.GrownPlace.{GrownPlace}
use Rattle.fc_change.specs.declared.spaces.Spaces.{Spaces}
use Rattle.fc_change.specs.Directories.{Rewriting, TellAll, Tells, around, children_of, holders_of, is_told, numbers}
use Rattle.fc_change.specs.Drafts.{IsChangeOf, grown_in, told, told_first, told_last}
use Rattle.fc_change.specs.Needs.{HasRoomFor, HasRoomOf, copy_wanted, named_dir, node_left}
use Rattle.fc_writing.specs.declared.ready.Piece.{Piece}
use Rattle.fc_writing.specs.declared.ready.Ready.{Ready}
use Rattle.fc_commands.proofs.ArrivalLemmas.{Arrival, job_of}
use Rattle.fc_commands.proofs.GrownAroundLemmas.{IsCutAround, cut_around, in_filtered}
use Rattle.fc_commands.proofs.GrownEditLemmas.{at_top, below}
use Rattle.fc_commands.proofs.GrownSaidLemmas.{GrownEdit}
use Rattle.fc_commands.proofs.GrownPieceLemmas.{AllPieces, IsGrownReady}
use Rattle.fc_commands.proofs.GrownReadyLemmas.{AreReady, are_ready, own_middle, regrown_at}
use Rattle.fc_commands.proofs.GrownToldLemmas as of
use Rattle.fc_commands.proofs.GrownToldLemmas.{all_pass, num, num_is, other_long, parent_now}
use Rattle.fc_commands.proofs.NodeLemmas.{size_of_form}
use Rattle.fc_laws.proofs.lemmas.agree.SayLemmas.{as_directory as says_it}
use Rattle.fc_image.proofs.EntriesLemmas.{later as contains_later, cases as contains_cases}
use Rattle.fc_commands.proofs.GrownMoveSaidLemmas.{entered_stays as big_stays}
use Rattle.fc_commands.proofs.GrownMoveToldLemmas.{first_cut as cut_says}

-- ---- jobs by which an entry comes

-- The job tells the directory of its entry, and no other. Nothing goes by it, and nothing is copied.
pub record IsEntering (h : Parts) (job : Job) (dir : ℕ) (name : List ℕ) : Type 0 where
  pub first : (e : Entry) → told_first job e ≡ (dir, Rewriting.Enters e) ∷ []
  pub last : told_last h.nodes job name ≡ []
  pub room : (r : Room) → HasRoomOf h.nodes job name r → HasRoomFor h.nodes dir name r
  pub named : named_dir job ≡ dir
  pub left : node_left job ≡ None
  pub copy : copy_wanted h job ≡ None

pub comer_enters : (h : Parts) (dir : ℕ) (x : Arrival) (name : List ℕ) → IsEntering h (job_of dir x) dir name
comer_enters h dir Arrival.Makes name = record { first = λ e. refl; last = refl; room = λ r has. has; named = refl; left = refl; copy = refl }
comer_enters h dir (Arrival.Saves words) name = record { first = λ e. refl; last = refl; room = λ r has. has; named = refl; left = refl; copy = refl }

-- ---- the change

-- The grown directory is told of the entry, and those around it are told of its place.
pub record IsGrownChange (nodes : Nodes) (e : Entry) (g : Regrowth) (c : Change) : Type 0 where
  pub said : Says
  pub others : List Says
  pub says : c.says.items ≡ said ∷ others
  pub tells : Tells (Some g) nodes g.node (Rewriting.Enters e) said
  pub tell : TellAll (Some g) nodes (around (Some g) nodes (g.node ∷ [])) others
  pub grown : c.grown ≡ Some g

pub grown_change : (h : Parts) (job : Job) (name : List ℕ) (s : Spaces) (c : Change) (p : GrownPlace) → IsEntering h job p.directory.node name → (is : IsChangeOf h job name s c) → s.grown ≡ Some p
    → IsGrownChange h.nodes is.entry p.directory c
grown_change h job name s c p enters is grown =
    let g = p.directory in
    let g_is : grown_in s ≡ Some g = ap (option_map (λ (x : GrownPlace). x.directory)) grown in
    let all : told h.nodes job name (Some g) is.entry ≡ (g.node, Rewriting.Enters is.entry) ∷ around (Some g) h.nodes (g.node ∷ []) =
    ap₂ (λ (a b : List (ℕ × Rewriting)). a ++ (around (Some g) h.nodes (numbers (a ++ b)) ++ b)) (enters.first is.entry) enters.last
    ∙ ap (λ (qs : List (ℕ × Rewriting)). (g.node, Rewriting.Enters is.entry) ∷ qs) (append-nil (around (Some g) h.nodes (g.node ∷ []))) in
    let cut = cut_says (Some g) h.nodes (g.node, Rewriting.Enters is.entry) (around (Some g) h.nodes (g.node ∷ [])) c.says.items
    (subst (λ (qs : List (ℕ × Rewriting)). TellAll (Some g) h.nodes qs c.says.items) all (subst (λ (x : Option Regrowth). TellAll x h.nodes (told h.nodes job name x is.entry) c.says.items) g_is is.tells)) in
    record { said = cut.0; others = cut.1; says = cut.2; tells = cut.3; tell = cut.4; grown = is.grown ∙ g_is }

-- ---- the others are others

not_told : (dir : ℕ) (ns : List ℕ) (n : ℕ) → Contains (filter (λ (k : ℕ). not (is_told (dir ∷ []) k)) ns) n → n ≡ dir → ⊥
not_told dir [] n at same = no_element n at
not_told dir (k ∷ ns) n at same = by (is_told (dir ∷ []) k) refl at (λ later. not_told dir ns n later same)
  where
    by : (b : Bool) → is_told (dir ∷ []) k ≡ b → Contains (cond (not b) (k ∷ filter (λ (j : ℕ). not (is_told (dir ∷ []) j)) ns) (filter (λ (j : ℕ). not (is_told (dir ∷ []) j)) ns)) n
        → (Contains (filter (λ (j : ℕ). not (is_told (dir ∷ []) j)) ns) n → ⊥) → ⊥
    by true e here more = more here
    by false e here more =
        ⊎_elim (λ is. clash (is_told (dir ∷ []) k) (ap (λ (b : Bool). b || false) (eq-eqb dir k (sym (is ∙ same)))) e) more
        (contains_cases k n (filter (λ (j : ℕ). not (is_told (dir ∷ []) j)) ns) here)

pub told_node : (g : Option Regrowth) (nodes : Nodes) (qs : List (ℕ × Rewriting)) (ss : List Says) (s : Says) → TellAll g nodes qs ss → Contains ss s → (q : ℕ × Rewriting) × Contains qs q × (s.node ≡ q.0)
told_node g nodes [] [] s tell at = absurd (no_element s at)
told_node g nodes [] (x ∷ ss) s tell at = absurd tell
told_node g nodes (q ∷ qs) [] s tell at = absurd tell
told_node g nodes (q ∷ qs) (x ∷ ss) s tell at =
    ⊎_elim (λ is. (q, contains_here q qs, ap (λ (y : Says). y.node) (sym is) ∙ tell.0.number))
    (λ later. let r = told_node g nodes qs ss s tell.1 later in (r.0, contains_later q r.0 qs r.1, r.2)) (contains_cases x s ss at)

pub others_apart : (nodes : Nodes) (e : Entry) (g : Regrowth) (c : Change) (ch : IsGrownChange nodes e g c) (s : Says) → Contains ch.others s → s.node ≡ g.node → ⊥
others_apart nodes e g c ch s at same =
    let r = told_node (Some g) nodes (around (Some g) nodes (g.node ∷ [])) ch.others s ch.tell at in
    let back = from_map (λ (n : ℕ). let q : ℕ × Rewriting = (n, Rewriting.Stays) in q) (filter (λ (n : ℕ). not (is_told (g.node ∷ []) n)) (holders_of nodes g ++ children_of nodes g)) r.0 r.1 in
    not_told g.node (holders_of nodes g ++ children_of nodes g) back.0 back.1 (ap (λ (q : ℕ × Rewriting). q.0) back.2 ∙ sym r.2 ∙ same)

-- ---- a big directory grows by an entry

-- It gets so many bytes.
pub entered_size : (parent size : ℕ) (e : Entry) (old new : Directory) (o : Object) → HasEntered parent e old new → ((gain : Gain) → GetsName old e.name gain → HasRoom old gain (rooms.Grows size)) → Listing → size_of new ≡ size
entered_size parent size e old new o is room k =
    let gain : Gain = record { listing = k; name = e.name; names = names_of old ++ e.name ∷ [] } in
    let gets : GetsName old e.name gain = record { name_is = refl; names_are = refl } in
    is.size gain gets o ∙ ap (λ (x : Option Grown). option_map_or (λ (y : Grown). y.1) x (size_of old)) ((room gain gets).1 o)

module _ (layout : Layout) (nodes : Nodes) (listings : List Listing) (sound : AreSound layout listings) (held : HoldObjects nodes listings) (l : Listing) (listed : Contains listings l)
    (p : GrownPlace) (number : number_of nodes l.object.path ≡ Some p.directory.node) (fits : (k : Listing) → Contains listings k → HasForm (dir_form layout) k.object.entry.len k.content) where
  abbrev sectors : List ℕ
  sectors = sectors_in p.extents.items

  abbrev numb : Listing → ℕ
  numb k = num layout nodes listings sound held l listed p.directory number k

  abbrev now : ℕ
  now = parent_now layout nodes listings sound held l listed p.directory number l.object.path

  -- ---- those around it

  abbrev stays : Bool
  stays = l.object.entry.address == p.directory.address

  abbrev about : List Listing → List Listing → List Listing
  about tops kids = tops ++ cond stays [] kids

  module _ (tops kids left : List Listing) (cut : IsCutAround listings l tops kids left) where
    -- it holds it, or lies in it
    stands : (k : Listing) → Contains (about tops kids) k → Contains listings k × (Contains k.children l.object ⊎ Contains l.children k.object)
    stands k at = ⊎_elim (λ top. above cut.tops_are top) (λ kid. inside stays kid) (Contains-append_cases tops (cond stays [] kids) k at)
      where
        above : ((l.object.path ≡ []) × (tops ≡ [])) ⊎ ((h : Listing) × (tops ≡ h ∷ []) × Contains listings h × Contains h.children l.object) → Contains tops k
            → Contains listings k × (Contains k.children l.object ⊎ Contains l.children k.object)
        above (inl root) top = absurd (no_element k (subst (λ (ks : List Listing). Contains ks k) root.1 top))
        above (inr (h, one, there, kid)) top =
            ⊎_elim (λ is. subst (λ (j : Listing). Contains listings j × (Contains j.children l.object ⊎ Contains l.children j.object)) is (there, inl kid)) (λ none. absurd (no_element k none))
            (contains_cases h k [] (subst (λ (ks : List Listing). Contains ks k) one top))

        inside : (b : Bool) → Contains (cond b [] kids) k → Contains listings k × (Contains k.children l.object ⊎ Contains l.children k.object)
        inside true none = absurd (no_element k none)
        inside false kid =
            let child : Contains l.children k.object =
            in_filtered is_directory_object l.children k.object (subst (λ (os : List Object). Contains os k.object) cut.kids_are (in_map (λ (j : Listing). j.object) kids k kid)) in (
              Contains-permutation (l ∷ (tops ++ (kids ++ left))) listings k (IsPermutation-sym listings (l ∷ (tops ++ (kids ++ left))) cut.all)
                  (contains_later l k (tops ++ (kids ++ left)) (Contains-append_right tops (kids ++ left) k (Contains-append_left kids left k kid))),
              inr child,
            )

    other_path : (k : Listing) → Contains (about tops kids) k → is_same_path l.object.path k.object.path ≡ false
    other_path k at = let s = stands k at in other_long l.object.path k.object.path (λ same. ⊎_elim
        (λ top. (let more = ap (λ (q : Path). length q) (child_path layout listings sound k l.object s.0 top) ∙ length_push k.object.path l.object.entry.name in omega (arith, same, more)))
        (λ kid. (let more = ap (λ (q : Path). length q) (child_path layout listings sound l k.object listed kid) ∙ length_push l.object.path k.object.entry.name in omega (arith, same, more))) s.1)

    around_are : around (Some p.directory) nodes (p.directory.node ∷ []) ≡ map (λ (k : Listing). let q : ℕ × Rewriting = (numb k, Rewriting.Stays) in q) (about tops kids)
    around_are =
        of.around_is layout nodes listings sound held l listed p.directory number tops kids left cut (p.directory.node ∷ [])
        ∙ ap (map (λ (k : Listing). let q : ℕ × Rewriting = (numb k, Rewriting.Stays) in q))
        (all_pass (λ (k : Listing). not (is_told (p.directory.node ∷ []) (numb k))) (about tops kids)
        (λ k at. ap (λ (b : Bool). not (b || false))
        (dirs_same nodes l.object.path k.object.path p.directory.node (numb k) number (num_is layout nodes listings sound held l listed p.directory number k (stands k at).0) ∙ other_path k at)))

    pub ready_around : (ss : List Says) (ps : List Piece) → TellAll (Some p.directory) nodes (around (Some p.directory) nodes (p.directory.node ∷ [])) ss → AllPieces layout nodes ss ps
        → AreReady layout nodes listings sound held l listed p.directory number fits sectors (about tops kids) ss ps
    ready_around ss ps tell pieces =
        are_ready layout nodes listings sound held l listed p.directory number fits sectors (about tops kids) ss ps stands
        (subst (λ (qs : List (ℕ × Rewriting)). TellAll (Some p.directory) nodes qs ss) around_are tell) pieces

  -- ---- the grown directory

  module _ (form : dir_form layout ≡ forms.Long) (e : Entry) (c : Change) (ch : IsGrownChange nodes e p.directory c) (room : (gain : Gain) → GetsName l.content e.name gain → HasRoom l.content gain (rooms.Grows p.directory.len))
      (made : List Piece) (r : Ready) (ready : IsGrownReady layout nodes p ch.said ch.others made r) where
    abbrev pub content : Directory
    content = directory_in ch.said.draft

    own_tells : Tells (Some p.directory) nodes (numb l) (Rewriting.Enters e) ch.said
    own_tells =
        subst (λ (n : ℕ). Tells (Some p.directory) nodes n (Rewriting.Enters e) ch.said)
        (same_some p.directory.node (numb l) (sym number ∙ num_is layout nodes listings sound held l listed p.directory number l listed)) ch.tells

    pub entered : HasEntered now e l.content (directory_in ch.said.draft)
    entered =
        subst (λ (d : Directory). HasEntered now e d (directory_in ch.said.draft))
        (own_middle layout nodes listings sound held l listed p.directory number fits sectors (Rewriting.Enters e) ch.said own_tells)
        (of.rewritten layout nodes listings sound held l listed p.directory number l listed (Rewriting.Enters e) ch.said own_tells refl)

    pub grown_len : size_of (directory_in ch.said.draft) ≡ p.directory.len
    grown_len = entered_size now p.directory.len e l.content (directory_in ch.said.draft) l.object entered room l

    abbrev anew : Object
    anew = regrown_at p.directory sectors l.object

    own_form : HasForm (dir_form layout) p.directory.len (directory_in ch.said.draft)
    own_form =
        subst (λ (f : NameForm). HasForm f p.directory.len (directory_in ch.said.draft)) (sym form)
        (big_stays now e l.object.entry.len p.directory.len l.content (directory_in ch.said.draft) (subst (λ (f : NameForm). HasForm f l.object.entry.len l.content) form (fits l listed)) entered.is grown_len)

    pub own_can : CanSay layout (regrown_at p.directory (sectors_in p.extents.items) l.object) (directory_in ch.said.draft)
    own_can = record { form = own_form; body = says_it (directory_in ch.said.draft) ready.drafted.sayable }

    own_long : length ready.own.bytes.items ≡ object_size (dir_form layout) anew.entry
    own_long = ready.drafted.length_is ∙ size_of_form (dir_form layout) anew.entry (directory_in ch.said.draft) own_form (listed_directory layout listings sound l listed).1

    -- ---- the edit

    module _ (children : List Object) (o : Object) (into : List Listing) (new : ℕ) where
      abbrev Grows : List Listing → List Listing → List Listing → List Says → List Piece → Type 0
      Grows tops kids left ss ps =
          GrownEdit layout nodes listings sound held l listed p number fits (directory_in ch.said.draft) children o into new tops kids left (ch.said ∷ ss) (ready.own ∷ ps)

      abbrev Stand : List Listing → List Says → List Piece → Type 0
      Stand ks ss ps = AreReady layout nodes listings sound held l listed p.directory number fits sectors ks ss ps

      abbrev its_node : ch.said.node ≡ p.directory.node
      its_node = ch.tells.number

      its_says : (k : Command) → is_renamed_by k l.object.path ≡ false → IsRewritten k l.object.path now l.content (directory_in ch.said.draft)
      its_says k plain = entered.rewritten k l.object.path plain

      held_by : (h : Listing) (kids left : List Listing) → IsCutAround listings l (h ∷ []) kids left → Contains h.children l.object → (ss : List Says) (ps : List Piece)
          → Stand (h ∷ cond stays [] kids) ss ps → Grows (h ∷ []) kids left ss ps
      held_by h kids left cut kid [] ps is = absurd is
      held_by h kids left cut kid (s ∷ ss) [] is = absurd is
      held_by h kids left cut kid (s ∷ ss) (q ∷ ps) is =
          below layout nodes listings sound held l listed p number fits (directory_in ch.said.draft) children o into new ch.said ready.own refl ch.tells.number its_says own_can ready.place ready.drafted.bytes own_long form
          h kids left s q ss ps cut kid is.0 is.1

      by : (tops kids left : List Listing) → IsCutAround listings l tops kids left → ((l.object.path ≡ []) × (tops ≡ [])) ⊎ ((h : Listing) × (tops ≡ h ∷ []) × Contains listings h × Contains h.children l.object)
          → (ss : List Says) (ps : List Piece) → Stand (tops ++ cond stays [] kids) ss ps → Grows tops kids left ss ps
      by tops kids left cut (inl (root, none)) ss ps is =
          subst (λ (ts : List Listing). Grows ts kids left ss ps) (sym none)
          (at_top layout nodes listings sound held l listed p number fits (directory_in ch.said.draft) children o into new ch.said ready.own refl ch.tells.number its_says own_can ready.place ready.drafted.bytes own_long form
          kids left ss ps (subst (λ (ts : List Listing). IsCutAround listings l ts kids left) none cut) (subst (λ (ts : List Listing). Stand (ts ++ cond stays [] kids) ss ps) none is) root)
      by tops kids left cut (inr (h, one, there, kid)) ss ps is =
          subst (λ (ts : List Listing). Grows ts kids left ss ps) (sym one)
          (held_by h kids left (subst (λ (ts : List Listing). IsCutAround listings l ts kids left) one cut) kid ss ps (subst (λ (ts : List Listing). Stand (ts ++ cond stays [] kids) ss ps) one is))

      pub around_it : (tops kids left : List Listing) × IsCutAround listings l tops kids left
      around_it = cut_around layout listings sound l listed

      pub grown_edit : GrownEdit layout nodes listings sound held l listed p number fits (directory_in ch.said.draft) children o into new around_it.0 around_it.1 around_it.2 (ch.said ∷ ch.others) (ready.own ∷ ready.pieces)
      grown_edit =
          let around' = around_it in
          by around'.0 around'.1 around'.2 around'.3 around'.3.tops_are ch.others ready.pieces (ready_around around'.0 around'.1 around'.2 around'.3 ch.others ready.pieces ch.tell ready.are)
