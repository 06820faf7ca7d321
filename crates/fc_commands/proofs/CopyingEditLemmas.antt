-- `rename` that copies its file: the edit that it makes, and what the two directories say.
use Rattle.std.proofs.Common.{◌≡◌, ◌||◌, inl, inr, ℕ, Bool, true, false, cond, List, [], ◌∷◌, ◌++◌, insert, map, remove, refl, sym, ap, ap₂, subst, ◌∙◌, Option, Some, None}
use Rattle.std.specs.Prelude.{Contains, IsPermutation}
use Rattle.std.specs.FinMap.{get, insert as put}
use Rattle.std.specs.Option.{option_map_or}
use Rattle.std.proofs.lemmas.Bool.{ne_eqb, or_right as or_second}
use Rattle.std.proofs.lemmas.List.Sorted.{IsPermutation-refl}
use Rattle.fc_names.specs.Names.{Path, is_same_path}
use Rattle.fc_model.specs.Command.{Command}
use Rattle.fc_model.specs.Tree.{holder, last_name}
use Rattle.fc_dirs.specs.declared.Entry.{Entry}
use Rattle.fc_dirs.specs.Directory.{Directory, entries_of}
use Rattle.fc_dirs.specs.Entries.{entry_place}
use Rattle.fc_drafts.specs.Draft.{IsSayable, directory_in, size_of}
use Rattle.fc_drafts.specs.Entries.{renamed_entry}
use Rattle.fc_drafts.specs.Rewriting.{HasEntered, HasLeft}
use Rattle.fc_image.specs.Layout.{Layout, dir_form}
use Rattle.fc_image.specs.Report.{holder_address}
use Rattle.fc_image.specs.Walk.{Listing, Object, is_directory_object, object_size}
use Rattle.fc_image.specs.effects.Steady.{IsRewritten, holds_named, is_renamed_by, with_made, without_name}
use Rattle.fc_tree.specs.declared.node.Node.{Node}
use Rattle.fc_tree.proofs.MemberLemmas.{contains_here, no_element}
use Rattle.fc_tree.proofs.SoundLemmas.{children_stored}
use Rattle.fc_tree.proofs.WalkedLemmas.{listed_directory}
use Rattle.fc_laws.specs.nodes.Edits.{Nodes, with_edited}
use Rattle.fc_laws.proofs.lemmas.agree.CutLemmas.{cut_law}
use Rattle.fc_laws.proofs.lemmas.nodes.ListLemmas.{cut_at, map_remove, put_at}
use Rattle.fc_edits.specs.Copying.{Copying, IsCopying, copied, edit, from_it, new_path, to_it}
use Rattle.fc_edits.specs.Edit.{Amended}
use Rattle.fc_edits.specs.NewNodes as edited
use Rattle.fc_edits.specs.NewNodes.{enter, entered, entering, tell}
use Rattle.fc_edits.proofs.lemmas.CopyingLemmas.{is_copy}
use Rattle.fc_edits.proofs.lemmas.ShapeLemmas.{kids_unlike}
use Rattle.fc_refusals.specs.declared.target.Renaming.{Renaming}
use Rattle.fc_change.specs.declared.change.Change.{Change}
use Rattle.fc_change.specs.declared.change.Says.{Says}
use Rattle.fc_change.specs.declared.change.Turned.TheVariants as turns
use Rattle.fc_change.specs.declared.job.Job.TheVariants as jobs
use Rattle.fc_change.specs.After.{gone_in, nodes_after, with_regrown, with_said, with_turned, without_gone}
use Rattle.fc_change.specs.Directories.{Rewriting, TellAll}
use Rattle.fc_change.specs.Drafts.{told}
use Rattle.fc_commands.proofs.MoveDirectoryLemmas.{entries_entered, form_entered, size_entered}
use Rattle.fc_commands.proofs.MoveEditLemmas.{AreSayable, lies_there, map_insert}
use Rattle.fc_commands.proofs.MoveLemmas.{IsSeen, absent, both, entry_there, k, k_stays, l, l_stays, lies_from, named_from, node_kind, o, others_unlike}
use Rattle.fc_commands.proofs.MoveSaidLemmas.{AreSaid, last_first, nodes_said}
use Rattle.fc_commands.proofs.MoveTellLemmas.{IsFirstTold, first_told, none_told, own_told, rewritten_here, told_is}
use Rattle.fc_commands.proofs.NodeLemmas.{size_of_form}
use Rattle.fc_commands.proofs.RemovalLemmas.{entries_left, form_left}
use Rattle.fc_commands.proofs.TargetLemmas as target_of
use Rattle.fc_commands.proofs.EnteredLemmas.{HasRoomMore as FitsName}
use Rattle.fc_laws.proofs.lemmas.agree.SayLemmas.{as_directory as says_it}
use Rattle.fc_image.proofs.EntriesLemmas.{later as contains_later, cases as contains_cases}

-- What is known of the edit, of what the directory says that the file joins, and then of the one that it leaves.
pub record IsCopy (layout : Layout) (nodes : Nodes) (listings : List Listing) (from to : Path) (r : Renaming) (name : List ℕ) (it : Object) (c : Copying) (ss : List Says) : Type 0 where
  pub copying : IsCopying nodes layout listings c
  pub o_is : c.o ≡ it
  pub number_is : c.number ≡ r.target.node
  pub home_is : c.home ≡ r.target.holder
  pub dir_is : c.dir ≡ r.holder
  pub name_is : c.name ≡ name
  pub to_is : is_same_path to (new_path c) ≡ true
  pub left : entries_of c.k_content ≡ without_name (last_name from) (entries_of c.k.content)
  pub joined : entries_of c.l_content ≡ with_made (Some (copied c c.o).entry) (entries_of c.l.content)
  pub k_says : IsRewritten (Command.Rename from to) c.k.object.path (holder_address listings c.k.object.path) c.k.content c.k_content
  pub l_says : IsRewritten (Command.Rename from to) c.l.object.path (holder_address listings c.l.object.path) c.l.content c.l_content
  pub k_size : size_of c.k_content ≡ object_size (dir_form layout) c.k.object.entry
  pub l_size : size_of c.l_content ≡ object_size (dir_form layout) c.l.object.entry
  pub k_named : (holds_named (Command.Rename from to) c.k.object.path || is_renamed_by (Command.Rename from to) c.k.object.path) ≡ true
  pub l_named : (holds_named (Command.Rename from to) c.l.object.path || is_renamed_by (Command.Rename from to) c.l.object.path) ≡ true
  pub apart : c.dir ≡ c.home → ⊥
  pub said : AreSaid nodes listings (to_it c ∷ (from_it c ∷ [])) ss
  pub entry : (copied c c.o).entry ≡ renamed_entry it.entry name c.address

-- The edit, by what was said.
pub record IsCopied (layout : Layout) (nodes : Nodes) (listings : List Listing) (from to : Path) (r : Renaming) (name : List ℕ) (it : Object) (address : ℕ) (sectors : List ℕ) (ss : List Says) : Type 0 where
  pub c : Copying
  pub is : IsCopy layout nodes listings from to r name it c ss
  pub address_is : c.address ≡ address
  pub sectors_are : c.sectors ≡ sectors

module _ (layout : Layout) (nodes : Nodes) (listings : List Listing) (from to : Path) (r : Renaming) (name : List ℕ) (x : IsSeen layout nodes listings from to r name) where
  abbrev it : Object
  it = o layout nodes listings from to r name x

  -- the directory that it leaves, and the one that it joins
  abbrev home : Listing
  home = k layout nodes listings from to r name x

  abbrev aim : Listing
  aim = l layout nodes listings from to r name x

  module _ (away : r.holder ≡ r.target.holder → ⊥) (file : is_directory_object (o layout nodes listings from to r name x) ≡ false) (address : ℕ) (sectors : List ℕ) (ss : List Says) where
    abbrev e : Entry
    e = renamed_entry it.entry name address

    -- A file says nothing itself.
    pub two_told : told nodes (jobs.Move r) name None (renamed_entry (o layout nodes listings from to r name x).entry name address) ≡ (r.holder, Rewriting.Enters (renamed_entry (o layout nodes listings from to r name x).entry name address)) ∷ ((r.target.holder, Rewriting.Leaves r.target.at) ∷ [])
    two_told =
        told_is nodes r name e false (ne_eqb r.holder r.target.holder away)
        ∙ ap (λ (b : Bool). (r.holder, Rewriting.Enters e) ∷ (own_told b r name ++ (r.target.holder, Rewriting.Leaves r.target.at) ∷ [])) (node_kind layout nodes listings from to r name x ∙ file)

    module _ (fits : FitsName (l layout nodes listings from to r name x).content name) (sayable : AreSayable ss)
        (tell : TellAll None nodes ((r.holder, Rewriting.Enters (renamed_entry (o layout nodes listings from to r name x).entry name address)) ∷ ((r.target.holder, Rewriting.Leaves r.target.at) ∷ [])) ss) where
      first : IsFirstTold nodes (r.holder, Rewriting.Enters e) ((r.target.holder, Rewriting.Leaves r.target.at) ∷ []) ss
      first = first_told nodes (r.holder, Rewriting.Enters e) ((r.target.holder, Rewriting.Leaves r.target.at) ∷ []) ss tell

      last : IsFirstTold nodes (r.target.holder, Rewriting.Leaves r.target.at) [] first.later
      last = first_told nodes (r.target.holder, Rewriting.Leaves r.target.at) [] first.later first.tell_later

      ss_are : ss ≡ first.said ∷ (last.said ∷ [])
      ss_are = first.are ∙ ap (λ (ts : List Says). first.said ∷ ts) (last.are ∙ ap (λ (ts : List Says). last.said ∷ ts) (none_told nodes last.later last.tell_later))

      sayable_in : (s : Says) → Contains (first.said ∷ (last.said ∷ [])) s → IsSayable (directory_in s.draft)
      sayable_in s there = sayable s (subst (λ (ts : List Says). Contains ts s) (sym ss_are) there)

      abbrev l_content : Directory
      l_content = directory_in first.said.draft

      abbrev k_content : Directory
      k_content = directory_in last.said.draft

      entered_here : HasEntered (holder_address listings aim.object.path) e aim.content l_content
      entered_here = rewritten_here layout nodes listings x.sound x.held aim x.known.destination.listed r.holder x.known.destination.holder_is (Rewriting.Enters e) first.said first.tells refl

      left_here : HasLeft (holder_address listings home.object.path) r.target.at home.content k_content
      left_here = rewritten_here layout nodes listings x.sound x.held home x.known.target.listed r.target.holder x.known.target.holder_is (Rewriting.Leaves r.target.at) last.said last.tells refl

      same_size : size_of l_content ≡ size_of aim.content
      same_size = size_entered (holder_address listings aim.object.path) e aim.content l_content aim entered_here fits

      -- ---- the edit

      cut : (rest : List Listing) × IsPermutation listings (home ∷ aim ∷ rest)
      cut = cut_law.two listings home aim x.known.target.listed x.known.destination.listed (both layout nodes listings from to r name x away)

      abbrev kids : List Object
      kids = remove home.children r.target.at

      abbrev place : ℕ
      place = entry_place name (entries_of aim.content)

      abbrev copy : Object
      copy = record { path = aim.object.path ++ name ∷ []; entry = e; sectors = sectors }

      abbrev c : Copying
      c = record {
        k = home;
        home = r.target.holder;
        k_content = k_content;
        k_children = kids;
        kids = kids;
        l = aim;
        dir = r.holder;
        l_content = l_content;
        l_children = insert aim.children place copy;
        rest = cut.0;
        o = it;
        number = r.target.node;
        name = name;
        address = address;
        sectors = sectors;
      }

      it_copied : copied c it ≡ copy
      it_copied = is_copy c

      -- What isn't at the old path stays.
      all_stay : (os : List Object) → ((p : Object) → Contains os p → is_same_path it.path p.path ≡ false) → map (copied c) os ≡ os
      all_stay [] other = refl
      all_stay (p ∷ os) other = ap₂ (λ (q : Object) (qs : List Object). q ∷ qs) (ap (λ (b : Bool). cond b (record { path = aim.object.path ++ name ∷ []; entry = renamed_entry p.entry name address; sectors = sectors }) p) (other p (contains_here p os))) (all_stay os (λ q at. other q (contains_later p q os at)))

      kids_stay : map (copied c) kids ≡ kids
      kids_stay = all_stay kids (kids_unlike layout listings x.sound home it kids x.known.target.listed (cut_at home.children r.target.at it x.known.target.at))

      beside_stay : map (copied c) aim.children ≡ aim.children
      beside_stay = all_stay aim.children (others_unlike layout nodes listings from to r name x away)

      is_copying : IsCopying nodes layout listings c
      is_copying = record {
        found = cut.1;
        home_is = x.known.target.holder_is;
        dir_is = x.known.destination.holder_is;
        number_is = x.known.target.node_is;
        file = file;
        k_holds = cut_at home.children r.target.at it x.known.target.at;
        k_children = subst (IsPermutation kids) (sym kids_stay) (IsPermutation-refl kids);
        k_entries = map_remove (λ (p : Object). p.entry) home.children r.target.at ∙ ap (λ (es : List Entry). remove es r.target.at) (children_stored layout listings x.sound home x.known.target.listed)
            ∙ sym (entries_left (holder_address listings home.object.path) r.target.at home.content k_content left_here);
        l_children = subst (λ (os : List Object). IsPermutation (insert aim.children place copy) (copied c it ∷ os)) (sym beside_stay)
            (subst (λ (p : Object). IsPermutation (insert aim.children place copy) (p ∷ aim.children)) (sym it_copied) (put_at aim.children place copy));
        l_entries = map_insert aim.children place copy ∙ ap (λ (es : List Entry). insert es place e) (children_stored layout listings x.sound aim x.known.destination.listed)
            ∙ sym (entries_entered (holder_address listings aim.object.path) e aim.content l_content entered_here (absent layout nodes listings from to r name x away));
        k_can = record {
          form = form_left (dir_form layout) home.object.entry.len (holder_address listings home.object.path) r.target.at home.content k_content left_here (x.forms home x.known.target.listed);
          body = says_it k_content (sayable_in last.said (contains_later first.said last.said (last.said ∷ []) (contains_here last.said [])));
        };
        l_can = record {
          form = form_entered (dir_form layout) aim.object.entry.len (holder_address listings aim.object.path) e aim.content l_content entered_here same_size (x.forms aim x.known.destination.listed);
          body = says_it l_content (sayable_in first.said (contains_here first.said (last.said ∷ [])));
        };
      }

      pub copies : IsCopied layout nodes listings from to r name (o layout nodes listings from to r name x) address sectors ss
      copies = record {
        c = c;
        is = record {
          copying = is_copying;
          o_is = refl;
          number_is = refl;
          home_is = refl;
          dir_is = refl;
          name_is = refl;
          to_is = ap (λ (n : List ℕ). is_same_path to (aim.object.path ++ n ∷ [])) x.name_is ∙ lies_there to aim.object.path x.known.destination.no_root x.known.destination.above;
          left = left_here.entries it.entry (last_name from) (entry_there layout nodes listings from to r name x) (named_from layout nodes listings from to r name x);
          joined = entered_here.entries ∙ ap (λ (p : Object). with_made (Some p.entry) (entries_of aim.content)) (sym it_copied);
          k_says = left_here.rewritten (Command.Rename from to) home.object.path (k_stays layout nodes listings from to r name x);
          l_says = entered_here.rewritten (Command.Rename from to) aim.object.path (l_stays layout nodes listings from to r name x away);
          k_size = left_here.size ∙ size_of_form (dir_form layout) home.object.entry home.content (x.forms home x.known.target.listed) (listed_directory layout listings x.sound home x.known.target.listed).1;
          l_size = same_size ∙ size_of_form (dir_form layout) aim.object.entry aim.content (x.forms aim x.known.destination.listed) (listed_directory layout listings x.sound aim x.known.destination.listed).1;
          k_named = ap (λ (b : Bool). (b || is_same_path (holder to) home.object.path) || is_renamed_by (Command.Rename from to) home.object.path) (lies_from layout nodes listings from to r name x).holds;
          l_named = ap (λ (b : Bool). b || is_renamed_by (Command.Rename from to) aim.object.path)
              (or_second (is_same_path (holder from) aim.object.path) (is_same_path (holder to) aim.object.path) x.known.destination.above);
          apart = away;
          said = subst (AreSaid nodes listings (to_it c ∷ (from_it c ∷ []))) (sym ss_are) (
            record { listed = x.known.destination.listed; number = x.known.destination.holder_is; node = first.tells.number; content = refl },
            (record { listed = x.known.target.listed; number = x.known.target.holder_is; node = last.tells.number; content = refl }, tt),
          );
          entry = ap (λ (p : Object). p.entry) it_copied;
        };
        address_is = refl;
        sectors_are = refl;
      }

  -- ---- the nodes after it

  module _ (address : ℕ) (sectors : List ℕ) (ss : List Says) (cp : IsCopied layout nodes listings from to r name (o layout nodes listings from to r name x) address sectors ss) where
    abbrev e' : Entry
    e' = renamed_entry it.entry name address

    abbrev node : Node
    node = target_of.node layout nodes listings x.sound x.held from r.target x.known.target

    there : get nodes r.target.node ≡ Some node
    there = target_of.node_is layout nodes listings x.sound x.held from r.target x.known.target

    entry_is : (copied cp.c cp.c.o).entry ≡ e'
    entry_is = cp.is.entry ∙ ap (renamed_entry it.entry name) cp.address_is

    entering_is : entering (edit cp.c) ≡ (r.holder, (r.target.node, copied cp.c cp.c.o)) ∷ []
    entering_is = ap₂ (λ (d n : ℕ). (d, (n, copied cp.c cp.c.o)) ∷ []) cp.is.dir_is cp.is.number_is

    entered_is : with_edited r.target.node (λ (y : Node). record y { holder = r.holder; entry = e' }) nodes ≡ enter (entering (edit cp.c)) nodes
    entered_is =
        ap (λ (y : Option Node). option_map_or (λ (z : Node). put nodes r.target.node (record z { holder = r.holder; entry = e' })) y nodes) there
        ∙ ap (λ (d : Entry). put nodes r.target.node (record node { holder = r.holder; entry = d })) (sym entry_is)
        ∙ sym (ap (λ (qs : List (ℕ × (ℕ × Object))). enter qs nodes) entering_is ∙ ap (λ (y : Option Node). put nodes r.target.node (entered r.holder (copied cp.c cp.c.o) y)) there)

    -- They are those that are taken over.
    pub nodes_are : (c : Change) (number : ℕ) → c.grown ≡ None → c.object ≡ turns.Turns r.target.node r.holder (renamed_entry (o layout nodes listings from to r name x).entry name address) → c.says.items ≡ ss
        → nodes_after c number nodes ≡ edited.nodes_after (edit cp.c) nodes
    nodes_are c number none turned says =
        (λ i. without_gone (gone_in (turned i)) (with_said (says i) (with_turned (turned i) number (with_regrown (none i) nodes))))
        ∙ nodes_said nodes listings (to_it cp.c ∷ (from_it cp.c ∷ [])) ss cp.is.said (with_edited r.target.node (λ (y : Node). record y { holder = r.holder; entry = e' }) nodes)
        ∙ last_first (to_it cp.c ∷ []) (from_it cp.c) (with_edited r.target.node (λ (y : Node). record y { holder = r.holder; entry = e' }) nodes)
        (λ b at. elim (contains_cases (to_it cp.c) b [] at) [
          | inl is ↦ (λ same. cp.is.apart (ap (λ (a : Amended). a.number) is ∙ sym same))
          | inr none ↦ absurd (no_element b none)
        ])
        ∙ ap (tell (edit cp.c).amended) entered_is
