-- `rename` to another directory: the edit that it makes, if nothing is copied.
use Rattle.std.proofs.Common.{◌≡◌, ◌||◌, ℕ, Bool, true, false, cond, List, [], ◌∷◌, ◌++◌, insert, map, remove, refl, sym, ap, ap₂, subst, ◌∙◌, ⊎_elim, Option, Some, None}
use Rattle.std.specs.Prelude.{Contains, IsPermutation}
use Rattle.std.proofs.lemmas.List.Elements.{Contains-append_cases, Contains-append_left, Contains-append_right}
use Rattle.fc_names.specs.Names.{Path, is_same_path}
use Rattle.fc_model.specs.Command.{Command}
use Rattle.fc_model.specs.Tree.{holder, last_name}
use Rattle.fc_dirs.specs.declared.Entry.{Entry}
use Rattle.fc_dirs.specs.Directory.{Directory, entries_of}
use Rattle.fc_dirs.specs.Entries.{entry_place}
use Rattle.fc_drafts.specs.Draft.{IsSayable, directory_in, size_of}
use Rattle.fc_drafts.specs.Entries.{renamed_entry}
use Rattle.fc_drafts.specs.Rewriting.{HasEntered, HasLeft}
use Rattle.fc_image.specs.EditedWalk.{moved_object}
use Rattle.fc_image.specs.Layout.{Layout, dir_form}
use Rattle.fc_image.specs.Report.{holder_address}
use Rattle.fc_image.specs.Walk.{Listing, Object, object_size}
use Rattle.fc_image.specs.effects.Steady.{IsRewritten, edited, holds_named, is_renamed_by, with_made, without_name}
use Rattle.fc_changes.proofs.BasicLemmas.{clash}
use Rattle.fc_tree.specs.Nodes.{is_directory_node}
use Rattle.fc_tree.proofs.MemberLemmas.{contains_here, from_map}
use Rattle.fc_tree.proofs.SoundLemmas.{children_stored, folds_alike}
use Rattle.fc_tree.proofs.PlaceLemmas.{same_number}
use Rattle.fc_tree.proofs.WalkedLemmas.{listed_directory, same_some}
use Rattle.fc_laws.specs.agree.Agreed.{CanSay}
use Rattle.fc_laws.specs.nodes.Edits.{Nodes}
use Rattle.fc_laws.proofs.lemmas.agree.CutLemmas.{cut_law}
use Rattle.fc_laws.proofs.lemmas.agree.RenamedLemmas.{moved_entry}
use Rattle.fc_laws.proofs.lemmas.nodes.ListLemmas.{cut_at, map_remove, put_at}
use Rattle.std.proofs.lemmas.List.Sorted.{IsPermutation-refl}
use Rattle.fc_edits.specs.Edit.{Amended}
use Rattle.fc_edits.specs.Moving.{edit, itself as amended_own, moved}
use Rattle.fc_edits.specs.Transfer.{IsTransfer, Transfer, from_it, to_it, transfer_of}
use Rattle.fc_edits.proofs.lemmas.ShapeLemmas.{kids_unlike, none_flat, only}
use Rattle.fc_edits.proofs.lemmas.TransferLemmas.{rename_law}
use Rattle.fc_outcomes.specs.Moving.{HasEntries}
use Rattle.fc_refusals.specs.declared.target.Renaming.{Renaming}
use Rattle.fc_change.specs.declared.change.Says.{Says}
use Rattle.fc_change.specs.Directories.{Rewriting, TellAll}
use Rattle.fc_commands.proofs.MoveDirectoryLemmas.{entries_entered, form_entered, size_entered}
use Rattle.fc_commands.proofs.MoveEditLemmas.{AreSayable, IsMoved, entries_stay, lies_there, map_insert, own_can, own_entries, own_named, own_once, own_rewritten, own_said as own_are, own_size}
use Rattle.fc_commands.proofs.MoveLemmas.{AreOthers, IsSeen, absent, are_others, both, entry_there, h, holder_other, home_other, k, k_other, k_stays, l, l_other, l_stays, lies_from, named_from, not_into, o, others_unlike}
use Rattle.fc_commands.proofs.MoveSaidLemmas.{AreSaid, IsOwnTold, both_said, last_first, once_last, own_said}
use Rattle.fc_commands.proofs.MoveTellLemmas.{ArePartsTold, IsFirstTold, address_is, first_told, none_told, own_told, parts_told, rewritten_here}
use Rattle.fc_commands.proofs.NodeLemmas.{size_of_form}
use Rattle.fc_commands.proofs.RemovalLemmas.{entries_left, form_left}
use Rattle.std.proofs.lemmas.Bool.{false_from_ne_true as unless, or_right as or_second}
use Rattle.fc_commands.proofs.EnteredLemmas.{HasRoomMore as FitsName}
use Rattle.fc_laws.proofs.lemmas.agree.SayLemmas.{as_directory as says_it}
use Rattle.fc_image.proofs.EntriesLemmas.{later as contains_later, cases as contains_cases}
use Rattle.fc_image.proofs.CommandLemmas.{same_by_folds}

module _ (layout : Layout) (nodes : Nodes) (listings : List Listing) (from to : Path) (r : Renaming) (name : List ℕ) (x : IsSeen layout nodes listings from to r name) (away : r.holder ≡ r.target.holder → ⊥) where
  abbrev it : Object
  it = o layout nodes listings from to r name x

  -- the directory that it leaves, and the one that it joins
  abbrev home : Listing
  home = k layout nodes listings from to r name x

  abbrev aim : Listing
  aim = l layout nodes listings from to r name x

  abbrev at : ℕ
  at = r.target.at

  abbrev e : Entry
  e = renamed_entry it.entry name it.entry.address

  -- which of them hold the old path, and the new one
  away_path : is_same_path home.object.path aim.object.path ≡ false
  away_path = unless (is_same_path home.object.path aim.object.path) (λ same.
      absurd (away (same_some r.holder r.target.holder
      (sym x.known.destination.holder_is ∙ sym (same_number nodes home.object.path aim.object.path (folds_alike home.object.path aim.object.path same)) ∙ x.known.target.holder_is))))

  from_home : is_same_path (holder from) home.object.path ≡ true
  from_home = (lies_from layout nodes listings from to r name x).holds

  other_path : (p a b : Path) → is_same_path p a ≡ true → is_same_path a b ≡ false → is_same_path p b ≡ false
  other_path p a b same other = unless (is_same_path p b) (λ too. clash (is_same_path a b) (same_by_folds a b (sym (folds_alike p a same) ∙ folds_alike p b too)) other)

  from_aim : is_same_path (holder from) aim.object.path ≡ false
  from_aim = other_path (holder from) home.object.path aim.object.path from_home away_path

  to_home : is_same_path (holder to) home.object.path ≡ false
  to_home = other_path (holder to) aim.object.path home.object.path x.known.destination.above
      (unless (is_same_path aim.object.path home.object.path) (λ same.
      clash (is_same_path home.object.path aim.object.path) (same_by_folds home.object.path aim.object.path (sym (folds_alike aim.object.path home.object.path same))) away_path))

  abbrev own_qs : List (ℕ × Rewriting)
  own_qs = own_told (is_directory_node nodes r.target.node) r name

  module _ (ss : List Says) (fits : FitsName aim.content name) (sayable : AreSayable ss)
      (tell : TellAll None nodes ((r.holder, Rewriting.Enters e) ∷ (own_told (is_directory_node nodes r.target.node) r name ++ (r.target.holder, Rewriting.Leaves r.target.at) ∷ [])) ss) where
    first : IsFirstTold nodes (r.holder, Rewriting.Enters e) (own_qs ++ (r.target.holder, Rewriting.Leaves r.target.at) ∷ []) ss
    first = first_told nodes (r.holder, Rewriting.Enters e) (own_qs ++ (r.target.holder, Rewriting.Leaves r.target.at) ∷ []) ss tell

    parts : ArePartsTold nodes own_qs ((r.target.holder, Rewriting.Leaves r.target.at) ∷ []) first.later
    parts = parts_told nodes own_qs ((r.target.holder, Rewriting.Leaves r.target.at) ∷ []) first.later first.tell_later

    last : IsFirstTold nodes (r.target.holder, Rewriting.Leaves r.target.at) [] parts.later
    last = first_told nodes (r.target.holder, Rewriting.Leaves r.target.at) [] parts.later parts.tell_later

    ss_are : ss ≡ first.said ∷ (parts.first ++ last.said ∷ [])
    ss_are =
        first.are
        ∙ ap (λ (ts : List Says). first.said ∷ ts)
        (parts.are ∙ ap (λ (ts : List Says). parts.first ++ ts) (last.are ∙ ap (λ (ts : List Says). last.said ∷ ts) (none_told nodes last.later last.tell_later)))

    told : IsOwnTold nodes listings it r name parts.first
    told = own_said layout nodes listings from to r name x parts.first parts.tell_first

    sayable_in : (s : Says) → Contains (first.said ∷ (parts.first ++ last.said ∷ [])) s → IsSayable (directory_in s.draft)
    sayable_in s there = sayable s (subst (λ (ts : List Says). Contains ts s) (sym ss_are) there)

    own_sayable : AreSayable parts.first
    own_sayable s there = sayable_in s (contains_later first.said s (parts.first ++ last.said ∷ []) (Contains-append_left parts.first (last.said ∷ []) s there))

    abbrev l_content : Directory
    l_content = directory_in first.said.draft

    abbrev k_content : Directory
    k_content = directory_in last.said.draft

    l_sayable : IsSayable l_content
    l_sayable = sayable_in first.said (contains_here first.said (parts.first ++ last.said ∷ []))

    k_sayable : IsSayable k_content
    k_sayable = sayable_in last.said (contains_later first.said last.said (parts.first ++ last.said ∷ []) (Contains-append_right parts.first (last.said ∷ []) last.said (contains_here last.said [])))

    entered : HasEntered (holder_address listings aim.object.path) e aim.content l_content
    entered = rewritten_here layout nodes listings x.sound x.held aim x.known.destination.listed r.holder x.known.destination.holder_is (Rewriting.Enters e) first.said first.tells refl

    left : HasLeft (holder_address listings home.object.path) at home.content k_content
    left = rewritten_here layout nodes listings x.sound x.held home x.known.target.listed r.target.holder x.known.target.holder_is (Rewriting.Leaves r.target.at) last.said last.tells refl

    l_size : size_of l_content ≡ size_of aim.content
    l_size = size_entered (holder_address listings aim.object.path) e aim.content l_content aim entered fits

    -- ---- the edit

    cut : (rest : List Listing) × IsPermutation listings (home ∷ aim ∷ rest)
    cut = cut_law.two listings home aim x.known.target.listed x.known.destination.listed (both layout nodes listings from to r name x away)

    others : AreOthers listings it (home ∷ aim ∷ []) told.own
    others = are_others layout listings x.sound it (home ∷ aim ∷ []) cut.0 cut.1
        (λ d there.
        ⊎_elim (λ is. subst (λ (y : Listing). y.object ≡ it → ⊥) is (k_other layout nodes listings from to r name x))
        (λ later. subst (λ (y : Listing). y.object ≡ it → ⊥) (only aim d later) (l_other layout nodes listings from to r name x away)) (contains_cases home d (aim ∷ []) there))
        told.own told.is

    abbrev kids : List Object
    kids = remove home.children at

    abbrev g : Object → Object
    g = moved_object it.path (aim.object.path ++ name ∷ [])

    abbrev place : ℕ
    place = entry_place name (entries_of aim.content)

    abbrev c : Transfer
    c = record {
      k = home;
      home = r.target.holder;
      k_content = k_content;
      k_children = map g kids;
      kids = kids;
      l = aim;
      dir = r.holder;
      l_content = l_content;
      l_children = insert (map g aim.children) place (g it);
      own = told.own;
      rest = others.rest;
      o = it;
      number = r.target.node;
      name = name;
    }

    k_stored : map (λ (p : Object). p.entry) (map g kids) ≡ entries_of k_content
    k_stored =
        entries_stay it.path (aim.object.path ++ name ∷ []) kids (kids_unlike layout listings x.sound home it kids x.known.target.listed (cut_at home.children at it x.known.target.at))
        ∙ map_remove (λ (p : Object). p.entry) home.children at ∙ ap (λ (es : List Entry). remove es at) (children_stored layout listings x.sound home x.known.target.listed)
        ∙ sym (entries_left (holder_address listings home.object.path) at home.content k_content left)

    l_stored : map (λ (p : Object). p.entry) c.l_children ≡ entries_of l_content
    l_stored =
        map_insert (map g aim.children) place (g it)
        ∙ ap₂ (λ (es : List Entry) (d : Entry). insert es place d)
        (entries_stay it.path (aim.object.path ++ name ∷ []) aim.children (others_unlike layout nodes listings from to r name x away)
        ∙ children_stored layout listings x.sound aim x.known.destination.listed)
        (moved_entry aim.object.path name it)
        ∙ sym (entries_entered (holder_address listings aim.object.path) e aim.content l_content entered (absent layout nodes listings from to r name x away))

    abbrev own_amended : List Amended
    own_amended = map (amended_own (transfer_of c)) told.own

    -- what holds of both, and of its own
    of_all : (P : Amended → Type 0) → P (from_it c) → P (to_it c) → ((a : Amended) → Contains own_amended a → P a) → (a : Amended) → Contains (from_it c ∷ to_it c ∷ own_amended) a → P a
    of_all P of_from of_to of_own a there =
        ⊎_elim (λ is. subst P is of_from) (λ later. ⊎_elim (λ is. subst P is of_to) (of_own a) (contains_cases (to_it c) a own_amended later)) (contains_cases (from_it c) a (to_it c ∷ own_amended) there)

    of_both : (P : Amended → Type 0) → P (from_it c) → P (to_it c) → (a : Amended) → Contains (from_it c ∷ to_it c ∷ []) a → P a
    of_both P of_from of_to a there =
        ⊎_elim (λ is. subst P is of_from) (λ later. subst P (only (to_it c) a later) of_to) (contains_cases (from_it c) a (to_it c ∷ []) there)

    can : (a : Amended) → Contains (edit (transfer_of c)).amended a → CanSay layout (moved (transfer_of c) a.was.object) a.content
    can = of_all (λ (a : Amended). CanSay layout (moved (transfer_of c) a.was.object) a.content)
        (record {
          form = form_left (dir_form layout) home.object.entry.len (holder_address listings home.object.path) at home.content k_content left (x.forms home x.known.target.listed);
          body = says_it k_content k_sayable;
        })
        (record {
          form = form_entered (dir_form layout) aim.object.entry.len (holder_address listings aim.object.path) e aim.content l_content entered l_size (x.forms aim x.known.destination.listed);
          body = says_it l_content l_sayable;
        })
        (own_can layout nodes listings from to r name x parts.first told own_sayable (transfer_of c) refl refl)

    is_transfer : IsTransfer nodes layout listings c
    is_transfer = record {
      found = others.found;
      home_is = x.known.target.holder_is;
      dir_is = x.known.destination.holder_is;
      number_is = x.known.target.node_is;
      not_into = not_into layout nodes listings from to r name x away;
      k_holds = cut_at home.children at it x.known.target.at;
      k_children = IsPermutation-refl (map g kids);
      k_entries = k_stored;
      l_children = put_at (map g aim.children) place (g it);
      l_entries = l_stored;
      own_is = own_entries layout nodes listings from to r name x parts.first told own_sayable (transfer_of c) refl refl;
      others = others.others;
      says = can;
    }

    -- ---- what is known of it

    abbrev made : Option Entry
    made = Some (moved (transfer_of c) it).entry

    entries : HasEntries from to (transfer_of c)
    entries = of_both (λ (a : Amended). entries_of a.content ≡ edited (Command.Rename from to) a.was.object.path made (entries_of a.was.content))
        (left.entries it.entry (last_name from) (entry_there layout nodes listings from to r name x) (named_from layout nodes listings from to r name x)
        ∙ sym (ap₂
        (λ (a b : Bool). let rest = cond a (without_name (last_name from) (entries_of home.content)) (entries_of home.content) in cond b (with_made made rest) rest) from_home to_home))
        (entered.entries ∙ ap (λ (d : Entry). with_made (Some d) (entries_of aim.content)) (sym (moved_entry aim.object.path name it))
        ∙ sym (ap₂
        (λ (a b : Bool). let rest = cond a (without_name (last_name from) (entries_of aim.content)) (entries_of aim.content) in cond b (with_made made rest) rest) from_aim x.known.destination.above))

    own_number : (a : Amended) → Contains own_amended a → a.number ≡ r.target.node
    own_number a there = let d = from_map (amended_own (transfer_of c)) told.own a there in ap (λ (b : Amended). b.number) (sym d.2)

    -- they were told in another order
    abbrev order : List Amended
    order = to_it c ∷ (own_amended ++ from_it c ∷ [])

    of_order : (a : Amended) → Contains order a → Contains (from_it c ∷ to_it c ∷ own_amended) a
    of_order a there =
        ⊎_elim (λ is. subst (Contains (from_it c ∷ to_it c ∷ own_amended)) is (contains_later (from_it c) (to_it c) (to_it c ∷ own_amended) (contains_here (to_it c) own_amended)))
        (λ later.
        ⊎_elim (λ own. contains_later (from_it c) a (to_it c ∷ own_amended) (contains_later (to_it c) a own_amended own))
        (λ is. subst (Contains (from_it c ∷ to_it c ∷ own_amended)) (only (from_it c) a is) (contains_here (from_it c) (to_it c ∷ own_amended))) (Contains-append_cases own_amended (from_it c ∷ []) a later))
        (contains_cases (to_it c) a (own_amended ++ from_it c ∷ []) there)

    in_order : (a : Amended) → Contains (from_it c ∷ to_it c ∷ own_amended) a → Contains order a
    in_order = of_all (Contains order)
        (contains_later (to_it c) (from_it c) (own_amended ++ from_it c ∷ []) (Contains-append_right own_amended (from_it c ∷ []) (from_it c) (contains_here (from_it c) [])))
        (contains_here (to_it c) (own_amended ++ from_it c ∷ []))
        (λ a own. contains_later (to_it c) a (own_amended ++ from_it c ∷ []) (Contains-append_left own_amended (from_it c ∷ []) a own))

    pub moves : IsMoved layout nodes listings from to r name it ss
    moves = record {
      c = transfer_of c;
      order = order;
      is = record {
        moving = rename_law.across nodes layout listings c (h layout nodes listings from to r name x) is_transfer;
        o_is = refl;
        number_is = refl;
        name_is = refl;
        to_is = ap (λ (n : List ℕ). is_same_path to (aim.object.path ++ n ∷ [])) x.name_is ∙ lies_there to aim.object.path x.known.destination.no_root x.known.destination.above;
        entries = entries;
        says = of_both (λ (a : Amended). IsRewritten (Command.Rename from to) a.was.object.path (holder_address listings a.was.object.path) a.was.content a.content)
            (left.rewritten (Command.Rename from to) home.object.path (k_stays layout nodes listings from to r name x))
            (entered.rewritten (Command.Rename from to) aim.object.path (l_stays layout nodes listings from to r name x away));
        own_says = own_rewritten layout nodes listings from to r name x parts.first told own_sayable (transfer_of c) refl refl
            (address_is layout nodes listings x.sound x.held aim x.known.destination.listed r.holder x.known.destination.holder_is);
        named = of_all (λ (a : Amended). (holds_named (Command.Rename from to) a.was.object.path || is_renamed_by (Command.Rename from to) a.was.object.path) ≡ true)
            (ap (λ (b : Bool). (b || is_same_path (holder to) home.object.path) || is_renamed_by (Command.Rename from to) home.object.path) from_home)
            (ap (λ (b : Bool). b || is_renamed_by (Command.Rename from to) aim.object.path)
            (or_second (is_same_path (holder from) aim.object.path) (is_same_path (holder to) aim.object.path) x.known.destination.above))
            (own_named layout nodes listings from to r name x parts.first told own_sayable (transfer_of c) refl refl);
        sizes = of_all (λ (a : Amended). size_of a.content ≡ object_size (dir_form layout) a.was.object.entry)
            (left.size ∙ size_of_form (dir_form layout) home.object.entry home.content (x.forms home x.known.target.listed) (listed_directory layout listings x.sound home x.known.target.listed).1)
            (l_size ∙ size_of_form (dir_form layout) aim.object.entry aim.content (x.forms aim x.known.destination.listed) (listed_directory layout listings x.sound aim x.known.destination.listed).1)
            (own_size layout nodes listings from to r name x parts.first told own_sayable (transfer_of c) refl refl);
        in_order = in_order;
        of_order = of_order;
        once = (
          λ b there.
              ⊎_elim (λ own same. holder_other layout nodes listings from to r name x (same ∙ own_number b own))
              (λ is same. away (same ∙ ap (λ (a : Amended). a.number) (sym (only (from_it c) b is)))) (Contains-append_cases own_amended (from_it c ∷ []) b there),
          once_last own_amended (from_it c) (own_once layout nodes listings from to r name x parts.first told own_sayable (transfer_of c) refl refl)
              (λ b own same. home_other layout nodes listings from to r name x (sym same ∙ own_number b own)),
        );
        said = subst (AreSaid nodes listings order) (sym ss_are) (
          record { listed = x.known.destination.listed; number = x.known.destination.holder_is; node = first.tells.number; content = refl },
          both_said nodes listings own_amended (from_it c ∷ []) parts.first (last.said ∷ []) (own_are layout nodes listings from to r name x parts.first told own_sayable (transfer_of c) refl refl)
              (record { listed = x.known.target.listed; number = x.known.target.holder_is; node = last.tells.number; content = refl }, tt),
        );
        retold = λ ns. last_first (to_it c ∷ own_amended) (from_it c) ns (λ b there.
            ⊎_elim (λ is same. away (ap (λ (a : Amended). a.number) is ∙ sym same)) (λ own same. home_other layout nodes listings from to r name x (same ∙ own_number b own))
            (contains_cases (to_it c) b own_amended there));
        enters = ap (λ (qs : List (ℕ × (ℕ × Object))). (r.holder, (r.target.node, g it)) ∷ qs)
            (none_flat (λ (a : Amended). map (λ (p : ℕ × Object). (a.number, p)) a.join) (amended_own (transfer_of c)) told.own (λ d. refl));
        entry = moved_entry aim.object.path name it;
        owners = λ owners owners' edits. rename_law.owners_across layout owners owners' c edits;
      };
    }
