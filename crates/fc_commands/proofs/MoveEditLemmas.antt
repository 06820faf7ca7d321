-- The edit that `rename` makes, if nothing is copied and no directory grows: what is known of it, within a directory and to another one.
use Rattle.std.proofs.Common.{◌≡◌, ◌<◌, ◌&&◌, ◌||◌, inl, inr, ℕ, zero, suc, Bool, true, false, cond, List, [], ◌∷◌, ◌++◌, insert, length, map, refl, sym, ap, ap₂, subst, ◌∙◌, arith, Option, Some}
use Rattle.std.specs.Prelude.{Contains}
use Rattle.std.proofs.lemmas.Bool.{and_parts, or_right as or_second}
use Rattle.fc_names.specs.Names.{Path, is_same_name, is_same_path}
use Rattle.fc_alloc.specs.declared.owner.Owner.{Owner}
use Rattle.fc_model.specs.Command.{Command}
use Rattle.fc_model.specs.Tree.{holder, last_name}
use Rattle.fc_dirs.specs.declared.Entry.{Entry}
use Rattle.fc_dirs.specs.Directory.{Directory, entries_of}
use Rattle.fc_drafts.specs.Draft.{IsSayable, directory_in, size_of}
use Rattle.fc_drafts.specs.Entries.{renamed_entry}
use Rattle.fc_image.specs.EditedWalk.{moved_object}
use Rattle.fc_image.specs.Layout.{Layout, dir_form}
use Rattle.fc_image.specs.Report.{holder_address}
use Rattle.fc_image.specs.Walk.{Listing, Object, object_size}
use Rattle.fc_image.specs.effects.Steady.{IsRewritten, holds_named, is_renamed_by}
use Rattle.fc_image.proofs.PathsLemmas.{cut, itself, same_last}
use Rattle.fc_image.proofs.RenameLemmas.{last_pushed}
use Rattle.fc_changes.proofs.BasicLemmas.{holder_pushed}
use Rattle.fc_tree.specs.Agree.{IsDirectory}
use Rattle.fc_tree.specs.Counts.{address_in}
use Rattle.fc_tree.specs.Nodes.{number_of}
use Rattle.fc_tree.proofs.MemberLemmas.{contains_here, from_map, no_element}
use Rattle.fc_tree.proofs.SoundLemmas.{folds_alike}
use Rattle.fc_tree.proofs.WalkedLemmas.{listed_directory}
use Rattle.fc_laws.specs.agree.Agreed.{CanSay}
use Rattle.fc_laws.specs.nodes.Edits.{Nodes, OwnersEdited, owners_with}
use Rattle.fc_edits.specs.Edit.{Amended, owners_joined, owners_left}
use Rattle.fc_edits.specs.Moving.{IsMoving, Moving, edit, itself as amended_own, moved, new_path}
use Rattle.fc_edits.specs.NewNodes.{entering, tell}
use Rattle.fc_edits.proofs.lemmas.ShapeLemmas.{only}
use Rattle.fc_edits.proofs.lemmas.TellLemmas.{AreOnce}
use Rattle.fc_outcomes.specs.Moving.{HasEntries}
use Rattle.fc_refusals.specs.declared.target.Renaming.{Renaming}
use Rattle.fc_change.specs.declared.change.Says.{Says}
use Rattle.fc_commands.proofs.MoveDirectoryLemmas.{form_moved}
use Rattle.fc_commands.proofs.MoveLemmas.{IsOwn, IsSeen, o}
use Rattle.fc_commands.proofs.MoveSaidLemmas.{AreOwnSaid, AreSaid, IsOwnTold, said_own}
use Rattle.fc_commands.proofs.NodeLemmas.{size_of_form}
use Rattle.fc_laws.proofs.lemmas.agree.SayLemmas.{as_directory as says_it}
use Rattle.fc_image.proofs.EntriesLemmas.{later as contains_later}
use Rattle.fc_image.proofs.CommandLemmas.{same_by_folds}

-- ---- what is known of it

-- This is the edit: what was said is what its directories say, one after another in the order of `order`.
pub record IsMove (layout : Layout) (nodes : Nodes) (listings : List Listing) (from to : Path) (r : Renaming) (name : List ℕ) (it : Object) (c : Moving) (order : List Amended) (ss : List Says) : Type 0 where
  pub moving : IsMoving nodes layout listings c
  pub o_is : c.o ≡ it
  pub number_is : c.number ≡ r.target.node
  pub name_is : c.name ≡ name
  pub to_is : is_same_path to (new_path c) ≡ true
  pub entries : HasEntries from to c
  pub says : (a : Amended) → Contains c.dirs a → IsRewritten (Command.Rename from to) a.was.object.path (holder_address listings a.was.object.path) a.was.content a.content
  pub own_says : (d : Listing × Directory) → Contains c.own d → IsRewritten (Command.Rename from to) d.0.object.path c.l.object.entry.address d.0.content d.1
  pub named : (a : Amended) → Contains (edit c).amended a → (holds_named (Command.Rename from to) a.was.object.path || is_renamed_by (Command.Rename from to) a.was.object.path) ≡ true
  pub sizes : (a : Amended) → Contains (edit c).amended a → size_of a.content ≡ object_size (dir_form layout) a.was.object.entry
  pub in_order : (a : Amended) → Contains (edit c).amended a → Contains order a
  pub of_order : (a : Amended) → Contains order a → Contains (edit c).amended a
  pub once : AreOnce order
  pub said : AreSaid nodes listings order ss
  pub retold : (ns : Nodes) → tell order ns ≡ tell (edit c).amended ns
  pub enters : entering (edit c) ≡ (r.holder, (r.target.node, moved c c.o)) ∷ []
  pub entry : (moved c c.o).entry ≡ renamed_entry it.entry name it.entry.address
  pub owners : (owners owners' : List Owner) → OwnersEdited owners owners' (owners_with layout r.target.holder r.target.node it) (owners_with layout r.holder r.target.node it)
      → OwnersEdited owners owners' (owners_left layout (edit c)) (owners_joined layout (edit c))

-- The edit, by what was said.
pub record IsMoved (layout : Layout) (nodes : Nodes) (listings : List Listing) (from to : Path) (r : Renaming) (name : List ℕ) (it : Object) (ss : List Says) : Type 0 where
  pub c : Moving
  pub order : List Amended
  pub is : IsMove layout nodes listings from to r name it c order ss

-- Bytes can say all that was said.
abbrev pub AreSayable : List Says → Type 0
AreSayable ss = (s : Says) → Contains ss s → IsSayable (directory_in s.draft)

-- ---- paths

-- A path lies in the directory where its holder's path leads.
pub lies_there : (path place : Path) → 0 < length path → is_same_path (holder path) place ≡ true → is_same_path path (place ++ last_name path ∷ []) ≡ true
lies_there [] place some same = absurd (omega (arith, some))
lies_there (p ∷ path) place some same =
    let c = cut p path in
    let front : holder (p ∷ path) ≡ c.front = ap holder c.is ∙ holder_pushed c.front c.last in
    let last : last_name (p ∷ path) ≡ c.last = ap last_name c.is ∙ last_pushed c.front c.last in
    ap₂ (λ (q : Path) (n : List ℕ). is_same_path q (place ++ n ∷ [])) c.is last
    ∙ same_last c.front place c.last c.last
    ∙ ap₂ (λ (a b : Bool). a && b) (ap (λ (q : Path). is_same_path q place) (sym front) ∙ same) (own c.last)
  where
    own : (n : List ℕ) → is_same_name n n ≡ true
    own n = (and_parts (is_same_path [] []) (is_same_name n n) (sym (same_last [] [] n n) ∙ itself (n ∷ []))).1

-- ---- entries of lists

pub map_insert : (os : List Object) (j : ℕ) (p : Object) → map (λ (q : Object). q.entry) (insert os j p) ≡ insert (map (λ (q : Object). q.entry) os) j p.entry
map_insert [] zero p = refl
map_insert [] (suc j) p = refl
map_insert (q ∷ os) zero p = refl
map_insert (q ∷ os) (suc j) p = ap (λ (es : List Entry). q.entry ∷ es) (map_insert os j p)

-- What isn't at the old path keeps its entry.
pub entries_stay : (from to : Path) (os : List Object) → ((p : Object) → Contains os p → is_same_path from p.path ≡ false)
    → map (λ (p : Object). p.entry) (map (moved_object from to) os) ≡ map (λ (p : Object). p.entry) os
entries_stay from to [] other = refl
entries_stay from to (p ∷ os) other =
    ap₂ (λ (e : Entry) (es : List Entry). e ∷ es)
    (ap (λ (b : Bool). record p.entry { name = cond b (last_name to) p.entry.name }) (other p (contains_here p os)))
    (entries_stay from to os (λ q at. other q (contains_later p q os at)))

-- ---- its own directory

module _ (layout : Layout) (nodes : Nodes) (listings : List Listing) (from to : Path) (r : Renaming) (name : List ℕ) (x : IsSeen layout nodes listings from to r name) (ss : List Says)
    (told : IsOwnTold nodes listings (o layout nodes listings from to r name x) r name ss) (sayable : AreSayable ss) (c : Moving) (own_is : c.own ≡ told.own) (number_is : c.number ≡ r.target.node) where
  abbrev it : Object
  it = o layout nodes listings from to r name x

  own_in : (d : Listing × Directory) → Contains told.own d → Contains listings d.0 × (d.0.object ≡ it)
  own_in d at = by told.is
    where
      by : IsOwn listings it told.own → Contains listings d.0 × (d.0.object ≡ it)
      by (inl file) = absurd (no_element d (subst (λ (ds : List (Listing × Directory)). Contains ds d) file.1 at))
      by (inr dir) =
          let same = only dir.0 d (subst (λ (ds : List (Listing × Directory)). Contains ds d) dir.1 at) in
          subst (λ (q : Listing × Directory). Contains listings q.0 × (q.0.object ≡ it)) same (dir.2, dir.3)

  in_told : (d : Listing × Directory) → Contains c.own d → Contains told.own d
  in_told d at = subst (λ (ds : List (Listing × Directory)). Contains ds d) own_is at

  pub own_entries : (d : Listing × Directory) → Contains c.own d → (d.0.object ≡ it) × (entries_of d.1 ≡ entries_of d.0.content)
  own_entries d at = ((own_in d (in_told d at)).1, (told.moved d (in_told d at)).entries)

  -- It can be said,
  pub own_can : (a : Amended) → Contains (map (amended_own c) c.own) a → CanSay layout (moved c a.was.object) a.content
  own_can a at =
      let d = from_map (amended_own c) c.own a at in
      let there = own_in d.0 (in_told d.0 d.1) in
      let s = said_own r.target.node told.own ss told.said d.0 (in_told d.0 d.1) in
      subst (λ (b : Amended). CanSay layout (moved c b.was.object) b.content) d.2
      (record {
        form = form_moved (dir_form layout) d.0.0.object.entry.len _ name d.0.0.content d.0.1 (told.moved d.0 (in_told d.0 d.1)) (x.forms d.0.0 there.0);
        body = subst IsDirectory s.2 (says_it (directory_in s.0.draft) (sayable s.0 s.1));
      })

  -- in the bytes that it has,
  pub own_size : (a : Amended) → Contains (map (amended_own c) c.own) a → size_of a.content ≡ object_size (dir_form layout) a.was.object.entry
  own_size a at =
      let d = from_map (amended_own c) c.own a at in
      let there = own_in d.0 (in_told d.0 d.1) in
      subst (λ (b : Amended). size_of b.content ≡ object_size (dir_form layout) b.was.object.entry) d.2
      ((told.moved d.0 (in_told d.0 d.1)).size
      ∙ size_of_form (dir_form layout) d.0.0.object.entry d.0.0.content (x.forms d.0.0 there.0) (listed_directory layout listings x.sound d.0.0 there.0).1)

  -- and has its new name and holder.
  pub own_rewritten : address_in nodes r.holder ≡ c.l.object.entry.address → (d : Listing × Directory) → Contains c.own d
      → IsRewritten (Command.Rename from to) d.0.object.path c.l.object.entry.address d.0.content d.1
  own_rewritten address d at =
      let there = own_in d (in_told d at) in
      subst (λ (n : ℕ). IsRewritten (Command.Rename from to) d.0.object.path n d.0.content d.1) address
      ((told.moved d (in_told d at)).rewritten from to d.0.object.path
      (ap (λ (p : Object). is_same_path p.path from) there.1 ∙ same_by_folds it.path from (sym (folds_alike from it.path x.known.target.path_is))) (sym x.name_is))

  -- So the command may rewrite it.
  pub own_named : (a : Amended) → Contains (map (amended_own c) c.own) a → (holds_named (Command.Rename from to) a.was.object.path || is_renamed_by (Command.Rename from to) a.was.object.path) ≡ true
  own_named a at =
      let d = from_map (amended_own c) c.own a at in
      let there = own_in d.0 (in_told d.0 d.1) in
      or_second (holds_named (Command.Rename from to) a.was.object.path) (is_renamed_by (Command.Rename from to) a.was.object.path)
      (ap (λ (b : Amended). is_same_path b.was.object.path from) (sym d.2) ∙ ap (λ (p : Object). is_same_path p.path from) there.1 ∙ same_by_folds it.path from (sym (folds_alike from it.path x.known.target.path_is)))

  -- As directories of the edit,
  own_told : AreSaid nodes listings (map (amended_own c) told.own) ss
  own_told = each told.own ss told.said own_in
    where
      each : (own : List (Listing × Directory)) (ts : List Says) → AreOwnSaid r.target.node own ts → ((d : Listing × Directory) → Contains own d → Contains listings d.0 × (d.0.object ≡ it))
          → AreSaid nodes listings (map (amended_own c) own) ts
      each [] [] are there = tt
      each [] (s ∷ ts) are there = absurd are
      each (d ∷ own) [] are there = absurd are
      each (d ∷ own) (s ∷ ts) are there =
          let here = there d (contains_here d own) in (
            record {
              listed = here.0;
              number = ap (λ (p : Object). number_of nodes p.path) here.1 ∙ x.known.target.node_is ∙ ap (λ (n : ℕ). let q : Option ℕ = Some n in q) (sym number_is);
              node = are.0 ∙ sym number_is;
              content = are.1;
            },
            each own ts are.2 (λ e at. there e (contains_later d e own at)),
          )

  pub own_said : AreSaid nodes listings (map (amended_own c) c.own) ss
  own_said = subst (λ (ds : List (Listing × Directory)). AreSaid nodes listings (map (amended_own c) ds) ss) (sym own_is) own_told

  -- one at most.
  pub own_once : AreOnce (map (amended_own c) c.own)
  own_once = subst (λ (ds : List (Listing × Directory)). AreOnce (map (amended_own c) ds)) (sym own_is) (by told.is)
    where
      by : IsOwn listings it told.own → AreOnce (map (amended_own c) told.own)
      by (inl file) = subst (λ (ds : List (Listing × Directory)). AreOnce (map (amended_own c) ds)) (sym file.1) tt
      by (inr dir) =
          subst (λ (ds : List (Listing × Directory)). AreOnce (map (amended_own c) ds)) (sym dir.1) ((λ b at. absurd (no_element b at)), tt)
