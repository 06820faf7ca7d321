-- `rename` within a directory: the edit that it makes.
use Rattle.std.proofs.Common.{◌≡◌, ◌||◌, ℕ, Bool, true, cond, List, [], ◌∷◌, ◌++◌, insert, map, remove, refl, sym, ap, ap₂, subst, ◌∙◌, ⊎_elim, Some, None}
use Rattle.std.specs.Prelude.{Contains, IsPermutation}
use Rattle.std.proofs.lemmas.List.{append-nil}
use Rattle.fc_names.specs.Names.{Path, is_same_path}
use Rattle.fc_alloc.specs.declared.owner.Owner.{Owner}
use Rattle.fc_model.specs.Command.{Command}
use Rattle.fc_model.specs.Tree.{holder, last_name}
use Rattle.fc_dirs.specs.declared.Entry.{Entry}
use Rattle.fc_dirs.specs.Directory.{Directory, entries_of}
use Rattle.fc_dirs.specs.Entries.{entry_place}
use Rattle.fc_drafts.specs.Draft.{IsSayable, directory_in, size_of}
use Rattle.fc_drafts.specs.Entries.{renamed_entry}
use Rattle.fc_drafts.specs.Rewriting.{HasRenamed}
use Rattle.fc_image.specs.EditedWalk.{moved_object}
use Rattle.fc_image.specs.Layout.{Layout, dir_form}
use Rattle.fc_image.specs.Report.{holder_address}
use Rattle.fc_image.specs.Walk.{Listing, Object, object_size}
use Rattle.fc_image.specs.effects.Steady.{IsRewritten, edited, holds_named, is_renamed_by, with_made, without_name}
use Rattle.fc_tree.specs.Nodes.{is_directory_node, number_of}
use Rattle.fc_tree.proofs.MemberLemmas.{contains_here, from_map}
use Rattle.fc_tree.proofs.SoundLemmas.{children_stored}
use Rattle.fc_tree.proofs.WalkedLemmas.{listed_directory}
use Rattle.fc_laws.specs.agree.Agreed.{CanSay}
use Rattle.fc_laws.specs.nodes.Edits.{Nodes, OwnersEdited, owners_with}
use Rattle.fc_laws.proofs.lemmas.agree.CutLemmas.{cut_law}
use Rattle.fc_laws.proofs.lemmas.agree.RenamedLemmas.{moved_entry}
use Rattle.fc_laws.proofs.lemmas.nodes.ListLemmas.{cut_at, map_remove, put_at}
use Rattle.fc_edits.specs.Edit.{Amended, owners_in, owners_joined, owners_left}
use Rattle.fc_edits.specs.Moving.{edit, itself as amended_own, moved}
use Rattle.fc_edits.specs.Transfer.{IsRenaming, Renaming, renaming_of, within}
use Rattle.fc_edits.proofs.lemmas.ShapeLemmas.{kids_unlike, none_flat, of_one}
use Rattle.fc_edits.proofs.lemmas.TransferLemmas.{rename_law}
use Rattle.fc_outcomes.specs.Moving.{HasEntries}
use Rattle.fc_refusals.specs.declared.target.Renaming.{Renaming as Job}
use Rattle.fc_change.specs.declared.change.Says.{Says}
use Rattle.fc_change.specs.Directories.{Rewriting, TellAll}
use Rattle.fc_commands.proofs.MoveDirectoryLemmas.{FitsInPlace, entries_renamed, form_renamed, size_renamed}
use Rattle.fc_commands.proofs.MoveEditLemmas.{AreSayable, IsMoved, entries_stay, lies_there, map_insert, own_can, own_entries, own_named, own_once, own_rewritten, own_said as own_are, own_size}
use Rattle.fc_commands.proofs.MoveLemmas.{AreOthers, IsSeen, above_to, are_others, entry_there, h, home_other, k, k_other, k_stays, lies_from, named_from, o, same_listing_number}
use Rattle.fc_commands.proofs.MoveSaidLemmas.{AreSaid, IsOwnTold, own_said}
use Rattle.fc_commands.proofs.MoveTellLemmas.{ArePartsTold, IsFirstTold, address_is, first_told, none_told, own_told, parts_told, rewritten_here}
use Rattle.fc_commands.proofs.NodeLemmas.{size_of_form}
use Rattle.fc_laws.proofs.lemmas.agree.SayLemmas.{as_directory as says_it}
use Rattle.fc_image.proofs.EntriesLemmas.{later as contains_later, cases as contains_cases}

module _ (layout : Layout) (nodes : Nodes) (listings : List Listing) (from to : Path) (r : Job) (name : List ℕ) (x : IsSeen layout nodes listings from to r name) (here : r.holder ≡ r.target.holder) where
  abbrev it : Object
  it = o layout nodes listings from to r name x

  abbrev dir : Listing
  dir = k layout nodes listings from to r name x

  abbrev at : ℕ
  at = r.target.at

  abbrev e : Entry
  e = renamed_entry it.entry name it.entry.address

  number : number_of nodes dir.object.path ≡ Some r.holder
  number = same_listing_number layout nodes listings from to r name x here

  module _ (ss : List Says) (fits : FitsInPlace dir.content it.entry.name name) (sayable : AreSayable ss)
      (tell : TellAll None nodes ((r.holder, Rewriting.Renames r.target.at e) ∷ (own_told (is_directory_node nodes r.target.node) r name ++ [])) ss) where
    first : IsFirstTold nodes (r.holder, Rewriting.Renames r.target.at e) (own_told (is_directory_node nodes r.target.node) r name ++ []) ss
    first = first_told nodes (r.holder, Rewriting.Renames r.target.at e) (own_told (is_directory_node nodes r.target.node) r name ++ []) ss tell

    parts : ArePartsTold nodes (own_told (is_directory_node nodes r.target.node) r name) [] first.later
    parts = parts_told nodes (own_told (is_directory_node nodes r.target.node) r name) [] first.later first.tell_later

    ss_are : ss ≡ first.said ∷ parts.first
    ss_are = first.are ∙ ap (λ (ts : List Says). first.said ∷ ts) (parts.are ∙ ap (λ (ts : List Says). parts.first ++ ts) (none_told nodes parts.later parts.tell_later) ∙ append-nil parts.first)

    told : IsOwnTold nodes listings it r name parts.first
    told = own_said layout nodes listings from to r name x parts.first parts.tell_first

    first_sayable : IsSayable (directory_in first.said.draft)
    first_sayable = sayable first.said (subst (λ (ts : List Says). Contains ts first.said) (sym ss_are) (contains_here first.said parts.first))

    own_sayable : AreSayable parts.first
    own_sayable s there = sayable s (subst (λ (ts : List Says). Contains ts s) (sym ss_are) (contains_later first.said s parts.first there))

    abbrev content : Directory
    content = directory_in first.said.draft

    renamed : HasRenamed (holder_address listings dir.object.path) at e dir.content content
    renamed = rewritten_here layout nodes listings x.sound x.held dir x.known.target.listed r.holder number (Rewriting.Renames r.target.at e) first.said first.tells refl

    size : size_of content ≡ size_of dir.content
    size = size_renamed (holder_address listings dir.object.path) at e it.entry dir.content content dir renamed (entry_there layout nodes listings from to r name x) fits

    -- ---- the edit

    cut : (rest : List Listing) × IsPermutation listings (dir ∷ rest)
    cut = cut_law.one listings dir x.known.target.listed

    others : AreOthers listings it (dir ∷ []) told.own
    others = are_others layout listings x.sound it (dir ∷ []) cut.0 cut.1 (of_one (λ (d : Listing). d.object ≡ it → ⊥) dir (k_other layout nodes listings from to r name x)) told.own told.is

    abbrev kids : List Object
    kids = remove dir.children at

    abbrev g : Object → Object
    g = moved_object it.path (dir.object.path ++ name ∷ [])

    abbrev place : ℕ
    place = entry_place name (remove (entries_of dir.content) at)

    abbrev c : Renaming
    c = record { l = dir; dir = r.holder; content = content; children = insert (map g kids) place (g it); kids = kids; own = told.own; rest = others.rest; o = it; number = r.target.node; name = name }

    stored : map (λ (p : Object). p.entry) c.children ≡ entries_of content
    stored =
        map_insert (map g kids) place (g it)
        ∙ ap₂ (λ (es : List Entry) (d : Entry). insert es place d)
        (entries_stay it.path (dir.object.path ++ name ∷ []) kids (kids_unlike layout listings x.sound dir it kids x.known.target.listed (cut_at dir.children at it x.known.target.at))
        ∙ map_remove (λ (p : Object). p.entry) dir.children at ∙ ap (λ (es : List Entry). remove es at) (children_stored layout listings x.sound dir x.known.target.listed))
        (moved_entry dir.object.path name it)
        ∙ sym (entries_renamed (holder_address listings dir.object.path) at e dir.content content renamed)

    can : (a : Amended) → Contains (edit (renaming_of c)).amended a → CanSay layout (moved (renaming_of c) a.was.object) a.content
    can a there =
        ⊎_elim
        (λ is. subst (λ (b : Amended). CanSay layout (moved (renaming_of c) b.was.object) b.content) is
        (record {
          form = form_renamed (dir_form layout) dir.object.entry.len (holder_address listings dir.object.path) at e dir.content content renamed size (x.forms dir x.known.target.listed);
          body = says_it content first_sayable;
        }))
        (own_can layout nodes listings from to r name x parts.first told own_sayable (renaming_of c) refl refl a) (contains_cases (within c) a (map (amended_own (renaming_of c)) told.own) there)

    is_renaming : IsRenaming nodes layout listings c
    is_renaming = record {
      found = others.found;
      dir_is = number;
      number_is = x.known.target.node_is;
      holds = cut_at dir.children at it x.known.target.at;
      holds_now = put_at (map g kids) place (g it);
      stored = stored;
      own_is = own_entries layout nodes listings from to r name x parts.first told own_sayable (renaming_of c) refl refl;
      others = others.others;
      says = can;
    }

    -- ---- what is known of it

    entries : HasEntries from to (renaming_of c)
    entries = of_one
        (λ (a : Amended). entries_of a.content ≡ edited (Command.Rename from to) a.was.object.path (Some (moved (renaming_of c) it).entry) (entries_of a.was.content)) (within c)
        (renamed.entries it.entry (last_name from) (entry_there layout nodes listings from to r name x) (named_from layout nodes listings from to r name x)
        ∙ ap (λ (d : Entry). with_made (Some d) (without_name (last_name from) (entries_of dir.content))) (sym (moved_entry dir.object.path name it))
        ∙ sym (ap₂
        (λ (a b : Bool).
        let left = cond a (without_name (last_name from) (entries_of dir.content)) (entries_of dir.content) in cond b (with_made (Some (moved (renaming_of c) it).entry) left) left)
        (lies_from layout nodes listings from to r name x).holds (above_to layout nodes listings from to r name x here)))

    owners_stay : (owners owners' : List Owner) → OwnersEdited owners owners' (owners_with layout r.target.holder r.target.node it) (owners_with layout r.holder r.target.node it)
        → OwnersEdited owners owners' (owners_left layout (edit (renaming_of c))) (owners_joined layout (edit (renaming_of c)))
    owners_stay owners owners' edits =
        subst (λ (ws : List Owner). OwnersEdited owners owners' ws (owners_joined layout (edit (renaming_of c)))) (sym left)
        (subst (λ (ws : List Owner). OwnersEdited owners owners' (owners_with layout r.holder r.target.node it) ws) (sym joined)
        (subst (λ (n : ℕ). OwnersEdited owners owners' (owners_with layout n r.target.node it) (owners_with layout r.holder r.target.node it)) (sym here) edits))
      where
        own : List Owner
        own = owners_with layout r.holder r.target.node it

        left : owners_left layout (edit (renaming_of c)) ≡ own
        left =
            ap (λ (ws : List Owner). (own ++ []) ++ ws) (none_flat (λ (b : Amended). owners_in layout b.number b.leave) (amended_own (renaming_of c)) told.own (λ d. refl))
            ∙ append-nil (own ++ []) ∙ append-nil own

        joined : owners_joined layout (edit (renaming_of c)) ≡ own
        joined =
            ap (λ (ws : List Owner). (own ++ []) ++ ws) (none_flat (λ (b : Amended). owners_in layout b.number b.join) (amended_own (renaming_of c)) told.own (λ d. refl))
            ∙ append-nil (own ++ []) ∙ append-nil own

    pub moves : IsMoved layout nodes listings from to r name it ss
    moves = record {
      c = renaming_of c;
      order = within c ∷ map (amended_own (renaming_of c)) told.own;
      is = record {
        moving = rename_law.within_one nodes layout listings c (h layout nodes listings from to r name x) is_renaming;
        o_is = refl;
        number_is = refl;
        name_is = refl;
        to_is = ap (λ (n : List ℕ). is_same_path to (dir.object.path ++ n ∷ [])) x.name_is ∙ lies_there to dir.object.path x.known.destination.no_root (above_to layout nodes listings from to r name x here);
        entries = entries;
        says = of_one
            (λ (a : Amended). IsRewritten (Command.Rename from to) a.was.object.path (holder_address listings a.was.object.path) a.was.content a.content) (within c)
            (renamed.rewritten (Command.Rename from to) dir.object.path (k_stays layout nodes listings from to r name x));
        own_says = own_rewritten layout nodes listings from to r name x parts.first told own_sayable (renaming_of c) refl refl
            (address_is layout nodes listings x.sound x.held dir x.known.target.listed r.holder number);
        named = λ a there.
            ⊎_elim
            (λ is. subst (λ (b : Amended). (holds_named (Command.Rename from to) b.was.object.path || is_renamed_by (Command.Rename from to) b.was.object.path) ≡ true) is
            (ap (λ (b : Bool). (b || is_same_path (holder to) dir.object.path) || is_renamed_by (Command.Rename from to) dir.object.path) (lies_from layout nodes listings from to r name x).holds))
            (own_named layout nodes listings from to r name x parts.first told own_sayable (renaming_of c) refl refl a) (contains_cases (within c) a (map (amended_own (renaming_of c)) told.own) there);
        sizes = λ a there.
            ⊎_elim
            (λ is. subst (λ (b : Amended). size_of b.content ≡ object_size (dir_form layout) b.was.object.entry) is
            (size
            ∙ size_of_form (dir_form layout) dir.object.entry dir.content (x.forms dir x.known.target.listed) (listed_directory layout listings x.sound dir x.known.target.listed).1))
            (own_size layout nodes listings from to r name x parts.first told own_sayable (renaming_of c) refl refl a) (contains_cases (within c) a (map (amended_own (renaming_of c)) told.own) there);
        in_order = λ a there. there;
        of_order = λ a there. there;
        once = (
          λ b there same.
              (let d = from_map (amended_own (renaming_of c)) told.own b there in
              home_other layout nodes listings from to r name x (sym here ∙ same ∙ ap (λ (a : Amended). a.number) (sym d.2))),
          own_once layout nodes listings from to r name x parts.first told own_sayable (renaming_of c) refl refl,
        );
        said = subst (AreSaid nodes listings (within c ∷ map (amended_own (renaming_of c)) told.own)) (sym ss_are) (
          record { listed = x.known.target.listed; number = number; node = first.tells.number; content = refl },
          own_are layout nodes listings from to r name x parts.first told own_sayable (renaming_of c) refl refl,
        );
        retold = λ ns. refl;
        enters = ap (λ (qs : List (ℕ × (ℕ × Object))). (r.holder, (r.target.node, g it)) ∷ qs)
            (none_flat (λ (a : Amended). map (λ (p : ℕ × Object). (a.number, p)) a.join) (amended_own (renaming_of c)) told.own (λ d. refl));
        entry = moved_entry dir.object.path name it;
        owners = owners_stay;
      };
    }
