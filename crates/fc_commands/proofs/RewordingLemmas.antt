-- `set` and `mark`, on any map: what their stages need, and the edit that their change is.
use Rattle.std.proofs.Common.{◌≡◌, ◌<◌, ◌+◌, ◌*◌, ◌/◌, ◌%◌, inl, inr, ℕ, zero, suc, cond, ◌||◌, false, true, Bool, List, [], ◌∷◌, map, remove, slice_get, slice_set, refl, sym, ap, subst, ◌∙◌, arith, Option, Some, None}
use Rattle.std.specs.Prelude.{Contains, IsPermutation}
use Rattle.std.specs.Option.{option_map, option_map_or}
use Rattle.std.proofs.lemmas.Option.{slice_get_within}
use Rattle.fc_names.specs.Names.{Path, is_directory, is_same_path}
use Rattle.fc_names.specs.declared.name.NameForm.{NameForm}
use Rattle.fc_names.specs.declared.name.NameForm.TheVariants as forms
use Rattle.fc_model.specs.Command.{Command}
use Rattle.fc_model.specs.Tree.{holder}
use Rattle.fc_dirs.specs.declared.Entry.{Entry}
use Rattle.fc_dirs.specs.declared.SmallForm.{SmallForm}
use Rattle.fc_dirs.specs.Directory.{Directory, entries_of}
use Rattle.fc_dirs.specs.Small.{attrs_limit}
use Rattle.fc_drafts.specs.Draft.{CanHold, IsSayable, directory_in, with_changed, with_head}
use Rattle.fc_drafts.specs.Entries.{marked_entry, set_entry}
use Rattle.fc_drafts.specs.Rewriting.{HasReplaced}
use Rattle.fc_drafts.proofs.EntryLemmas.{entry_law}
use Rattle.fc_drafts.proofs.FindLemmas.{held as held_in}
use Rattle.fc_image.specs.Commanded.{mark_object, set_object}
use Rattle.fc_image.specs.Layout.{Layout, dir_form}
use Rattle.fc_image.specs.Opening.{Opened}
use Rattle.fc_image.specs.Report.{holder_address}
use Rattle.fc_image.specs.Rewords.{IsRewording}
use Rattle.fc_image.specs.Sound.{AreSound}
use Rattle.fc_image.specs.Walk.{Listing, Object}
use Rattle.fc_image.specs.effects.Steady.{has_grown, has_new_holder, is_renamed_by, may_be_rewritten, with_made}
use Rattle.fc_image.proofs.PathsLemmas.{itself}
use Rattle.fc_image.proofs.RewordLemmas.{reword_law}
use Rattle.fc_tree.specs.declared.node.Node.{Node}
use Rattle.fc_tree.specs.Agree.{HasForm, IsDirectory}
use Rattle.fc_tree.specs.Nodes.{HoldObjects, body_in}
use Rattle.fc_tree.proofs.SoundLemmas.{children_stored}
use Rattle.fc_laws.specs.nodes.Edits.{Nodes, with_body, with_edited}
use Rattle.fc_laws.specs.nodes.Laws.{IsHeld}
use Rattle.fc_laws.proofs.lemmas.agree.CutLemmas.{cut_law}
use Rattle.fc_laws.proofs.lemmas.nodes.ListLemmas.{cut_at, set_at}
use Rattle.fc_edits.specs.Edit.{AreEdited}
use Rattle.fc_edits.specs.NewNodes.{HasNumbers, entered}
use Rattle.fc_edits.specs.NewNodes as edited
use Rattle.fc_edits.specs.Rewording.{IsReworded, Rewording, edit}
use Rattle.fc_edits.proofs.lemmas.AfterLemmas.{after_law}
use Rattle.fc_edits.proofs.lemmas.RewordingLemmas.{rewording_law}
use Rattle.fc_outcomes.specs.Rewording.{HasReworded, Words}
use Rattle.fc_refusals.specs.Targets.{IsTarget}
use Rattle.fc_refusals.specs.declared.target.Target.{Target}
use Rattle.fc_tree.proofs.MemberLemmas.{no_element}
use Rattle.std.specs.FinMap.{get, insert as put}
use Rattle.fc_change.specs.declared.change.Change.{Change}
use Rattle.fc_change.specs.declared.change.Says.{Says}
use Rattle.fc_change.specs.declared.change.Turned.TheVariants as turns
use Rattle.fc_change.specs.declared.job.Job.{Job}
use Rattle.fc_change.specs.declared.job.Job.TheVariants as jobs
use Rattle.fc_change.specs.declared.job.ObjectWords.{ObjectWords}
use Rattle.fc_change.specs.After.{nodes_after, gone_in, with_regrown, with_said, with_turned, without_gone}
use Rattle.fc_change.specs.Directories.{CanBe, CanTell, Rewriting, Tells}
use Rattle.fc_change.specs.Prepared.{IsPieceOf}
use Rattle.fc_writing.specs.declared.ready.Piece.{Piece}
use Rattle.fc_commands.specs.Jobs.{FitAttributes}
use Rattle.fc_commands.specs.Run.{IsMapIn}
use Rattle.fc_commands.proofs.NodeLemmas.{size_of_form}
use Rattle.fc_commands.proofs.NodeLemmas as its
use Rattle.fc_commands.proofs.StayingLemmas.{KeepsSpace}
use Rattle.fc_commands.proofs.TargetLemmas as target_of
use Rattle.fc_laws.proofs.lemmas.agree.SayLemmas.{as_directory as says_it}

-- ---- words

-- what an object gets: the words of `set`, or the attributes of `mark`
pub data Wording : Type 0 where
  Set : ObjectWords → Wording
  Mark : ℕ → Wording

abbrev pub job_of : Target → Wording → Job
job_of t (Wording.Set w) = jobs.Words t w
job_of t (Wording.Mark attrs) = jobs.Marks t attrs

-- an entry with them
abbrev pub worded : Wording → Entry → Entry
worded (Wording.Set w) e = set_entry e w.load w.exec w.access
worded (Wording.Mark attrs) e = marked_entry e attrs

-- an object with them, if it is the one at this path
abbrev pub turned : Wording → Path → Object → Object
turned (Wording.Set w) path = set_object path w.load w.exec w.access
turned (Wording.Mark attrs) path = mark_object path attrs

-- The command gives them to the object at a path.
abbrev pub Gives : Wording → Path → Command → Type 0
Gives (Wording.Set w) path c = c ≡ Command.Set path w.load w.exec w.access
Gives (Wording.Mark attrs) path c = c ≡ Command.Mark path attrs

-- They fit an entry of this form.
abbrev pub Fit : NameForm → Wording → Type 0
Fit form (Wording.Set w) = w.access < 8
Fit form (Wording.Mark attrs) = FitAttributes form attrs

pub words_of : (x : Wording) (path there : Path) (c : Command) → Gives x path c → Words c path there (turned x there)
words_of (Wording.Set w) path there c given = inl (w.load, w.exec, w.access, given, refl)
words_of (Wording.Mark attrs) path there c given = inr (attrs, given, refl)

renames_none : (x : Wording) (path : Path) (c : Command) → Gives x path c → (p : Path) → is_renamed_by c p ≡ false
renames_none (Wording.Set w) path c given p = ap (λ (d : Command). is_renamed_by d p) given
renames_none (Wording.Mark attrs) path c given p = ap (λ (d : Command). is_renamed_by d p) given

-- So it may rewrite the directory that holds the path.
pub may_rewrite : (x : Wording) (path : Path) (c : Command) → Gives x path c → (v : Opened) (dir : Path) → is_same_path (holder path) dir ≡ true → may_be_rewritten v c dir ≡ true
may_rewrite (Wording.Set w) path c given v dir above =
    let d = Command.Set path w.load w.exec w.access in ap (λ (y : Command). may_be_rewritten v y dir) given ∙ ap (λ (b : Bool). b || false || has_grown v d dir || has_new_holder v d dir) above
may_rewrite (Wording.Mark attrs) path c given v dir above =
    let d = Command.Mark path attrs in ap (λ (y : Command). may_be_rewritten v y dir) given ∙ ap (λ (b : Bool). b || false || has_grown v d dir || has_new_holder v d dir) above

-- ---- entries and objects with them

own_entry : (x : Wording) (path : Path) (o : Object) → is_same_path path o.path ≡ true → (turned x path o).entry ≡ worded x o.entry
own_entry (Wording.Set w) path o same = ap (λ (b : Bool). (cond b (record o { entry = set_entry o.entry w.load w.exec w.access }) o).entry) same
own_entry (Wording.Mark attrs) path o same = ap (λ (b : Bool). (cond b (record o { entry = marked_entry o.entry attrs }) o).entry) same

name_stays : (x : Wording) (e : Entry) → (worded x e).name ≡ e.name
name_stays (Wording.Set w) e = refl
name_stays (Wording.Mark attrs) e = refl

pub is_rewording : (x : Wording) (form : NameForm) (path : Path) → Fit form x → IsRewording path (turned x path)
is_rewording (Wording.Set w) form path fit = reword_law.set path w.load w.exec w.access fit
is_rewording (Wording.Mark attrs) form path fit = reword_law.mark path attrs

-- attributes with bit 3 of others are below a limit of whole sixteens
marked_low : (k attrs own : ℕ) → attrs < k * 16 → attrs / 16 * 16 + 8 * (own / 8 % 2) + attrs % 8 < k * 16
marked_low k attrs own low = omega (arith, low)

-- a directory can hold its entries with them
pub worded_held : (x : Wording) (form : NameForm) (len : ℕ) (dir : Directory) (e : Entry) → Fit form x → HasForm form len dir → CanHold dir e → CanHold dir (worded x e)
worded_held (Wording.Set w) form len dir e fit has can = entry_law.set_held dir e w.load w.exec w.access can fit
worded_held (Wording.Mark attrs) forms.Seven len (Directory.Small dir) e fit has can =
    record { address = can.address; attrs = subst (λ (f : SmallForm). (marked_entry e attrs).attrs < attrs_limit f) (sym has) (marked_low 64 attrs e.attrs fit); last = can.last }
worded_held (Wording.Mark attrs) forms.Ten len (Directory.Small dir) e fit has can =
    record { address = can.address; attrs = subst (λ (f : SmallForm). (marked_entry e attrs).attrs < attrs_limit f) (sym has) (marked_low 16 attrs e.attrs fit); last = can.last }
worded_held (Wording.Mark attrs) forms.Long len (Directory.Small dir) e fit has can = absurd has
worded_held (Wording.Mark attrs) forms.Seven len (Directory.Big dir) e fit has can = absurd has
worded_held (Wording.Mark attrs) forms.Ten len (Directory.Big dir) e fit has can = absurd has
worded_held (Wording.Mark attrs) forms.Long len (Directory.Big dir) e fit has can = can

-- ---- a directory with another entry of the same name

pub form_stays : (form : NameForm) (len parent at : ℕ) (e : Entry) (old new : Directory) → HasReplaced parent at e old new → HasForm form len old → HasForm form len new
form_stays form len parent at e old new is has = subst (HasForm form len) (sym is.is) (by form old has)
  where
    by : (f : NameForm) (dir : Directory) → HasForm f len dir → HasForm f len (with_head parent (with_changed at e dir))
    by forms.Seven (Directory.Small dir) h = h
    by forms.Ten (Directory.Small dir) h = h
    by forms.Long (Directory.Small dir) h = absurd h
    by forms.Seven (Directory.Big dir) h = absurd h
    by forms.Ten (Directory.Big dir) h = absurd h
    by forms.Long (Directory.Big dir) h = h

pub entries_now : (parent at : ℕ) (e : Entry) (old new : Directory) → HasReplaced parent at e old new → entries_of new ≡ slice_set (entries_of old) at e
entries_now parent at e old new is = ap entries_of is.is ∙ by old
  where
    by : (dir : Directory) → entries_of (with_head parent (with_changed at e dir)) ≡ slice_set (entries_of dir) at e
    by (Directory.Small dir) = refl
    by (Directory.Big dir) = refl

pub map_set : (os : List Object) (i : ℕ) (o : Object) → map (λ (p : Object). p.entry) (slice_set os i o) ≡ slice_set (map (λ (p : Object). p.entry) os) i o.entry
map_set [] i o = refl
map_set (p ∷ os) zero o = refl
map_set (p ∷ os) (suc i) o = ap (λ (es : List Entry). p.entry ∷ es) (map_set os i o)

pub sayable : (dir : Directory) → IsDirectory dir → IsSayable dir
sayable (Directory.Small dir) is = is
sayable (Directory.Big dir) is = is

-- ---- the target, by any walk whose objects the nodes hold

module _ (layout : Layout) (nodes : Nodes) (listings : List Listing) (sound : AreSound layout listings) (held : HoldObjects nodes listings) (path : Path) (t : Target) (target : IsTarget nodes listings path t)
    (x : Wording) (fit : Fit (dir_form layout) x) (form : (k : Listing) → Contains listings k → HasForm (dir_form layout) k.object.entry.len k.content) where
  abbrev pub l : Listing
  l = target.listing

  abbrev pub o : Object
  o = target.object

  abbrev pub e : Entry
  e = worded x o.entry

  abbrev g : Object → Object
  g = turned x o.path

  pub new_entry : (g o).entry ≡ e
  new_entry = own_entry x o.path o (itself o.path)

  -- which keeps address, length and kind
  pub keeps : KeepsSpace e o.entry
  keeps =
      let is = is_rewording x (dir_form layout) o.path fit in
      record {
        address = ap (λ (d : Entry). d.address) (sym new_entry) ∙ is.address o;
        len = ap (λ (d : Entry). d.len) (sym new_entry) ∙ is.len o;
        kind = ap (λ (d : Entry). is_directory d.attrs) (sym new_entry) ∙ is.kind o;
      }

  entry_there : slice_get (entries_of l.content) t.at ≡ Some o.entry
  entry_there = target_of.entry_there layout nodes listings sound held path t target

  -- its directory can be told so
  pub can_tell : ((k : Listing) → Contains listings k → IsDirectory k.content) → IsMapIn layout → CanTell None nodes t.holder (Rewriting.Replaces t.at e)
  can_tell bodies is =
      let can : CanBe (Rewriting.Replaces t.at e) l.content = (
        slice_get_within (entries_of l.content) t.at o.entry entry_there,
        ap (λ (d : Option Entry). option_map (λ (y : Entry). y.name) d) entry_there ∙ ap (λ (n : List ℕ). let s : Option (List ℕ) = Some n in s) (sym (name_stays x o.entry)),
        worded_held x (dir_form layout) l.object.entry.len l.content o.entry fit (form l target.listed) (held_in l.content t.at o.entry (sayable l.content (bodies l target.listed)) entry_there),
      ) in
      target_of.can_tell layout nodes listings sound held path t target (Rewriting.Replaces t.at e) refl can form is

  -- ---- what it was told

  module _ (said : Says) (tells : Tells None nodes t.holder (Rewriting.Replaces t.at e) said) where
    abbrev pub content : Directory
    content = directory_in said.draft

    pub replaced : HasReplaced (holder_address listings l.object.path) t.at e l.content content
    replaced = target_of.rewritten layout nodes listings sound held path t target (Rewriting.Replaces t.at e) said tells refl

    -- the rewording, with the bytes of its directory
    module _ (p : Piece) (piece : IsPieceOf layout nodes said p) where
      abbrev cut : (rest : List Listing) × IsPermutation listings (l ∷ rest)
      cut = cut_law.one listings l target.listed

      abbrev pub rewording : Rewording
      rewording = record { rest = cut.0; l = l; content = content; children = slice_set l.children t.at (g o); kids = remove l.children t.at; o = o; dir = t.holder; number = t.node; turn = g }

      pub is_reworded : IsReworded nodes layout listings rewording
      is_reworded = record {
        found = cut.1;
        holds = cut_at l.children t.at o target.at;
        holds_now = set_at l.children t.at o (g o) target.at;
        dir_is = target.holder_is;
        number_is = target.node_is;
        rewording = is_rewording x (dir_form layout) o.path fit;
        stored = map_set l.children t.at (g o)
            ∙ (λ i. slice_set (children_stored layout listings sound l target.listed i) t.at (new_entry i))
            ∙ sym (entries_now (holder_address listings l.object.path) t.at e l.content content replaced);
        can = record {
          form = form_stays (dir_form layout) l.object.entry.len (holder_address listings l.object.path) t.at e l.content content replaced (form l target.listed);
          body = says_it content piece.drafted.sayable;
        };
      }

      pub has_reworded : (c : Command) → Gives x path c → HasReworded c path layout listings rewording p.bytes.items
      has_reworded c given = record {
        its = record { words = words_of x path o.path c given; path_is = target.path_is };
        says = replaced.rewritten c l.object.path (renames_none x path c given l.object.path);
        entries = replaced.entries ∙ ap (λ (y : Entry). with_made (Some y) (entries_of l.content)) (sym new_entry);
        written = piece.drafted.bytes;
        long = piece.drafted.length_is ∙ replaced.size
            ∙ size_of_form (dir_form layout) l.object.entry l.content (form l target.listed) (its.directory nodes layout listings sound held l target.listed t.holder target.holder_is);
      }

      -- ---- the nodes after it

      h : IsHeld nodes layout listings
      h = record { sound = sound; held = held }

      has_numbers : HasNumbers nodes (edit rewording)
      has_numbers = record {
        once = ((λ at. no_element t.node at), tt);
        gone_once = tt;
        into_once = tt;
        lasting = λ n gone at. no_element n gone;
        new = λ q at. absurd (no_element q at);
        gone_others = λ a at gone. no_element a.number gone;
        into_others = λ q at file there. no_element q.0 there;
      }

      pub nodes_edited : AreEdited nodes (edited.nodes_after (edit rewording) nodes) (edit rewording)
      nodes_edited = after_law nodes layout listings (edit rewording) h (rewording_law.is_edit nodes layout listings rewording h is_reworded) has_numbers

      -- They are those that are taken over.
      pub nodes_are : (c : Change) (number : ℕ) → c.grown ≡ None → c.object ≡ turns.Turns t.node t.holder e → c.says.items ≡ said ∷ [] → nodes_after c number nodes ≡ edited.nodes_after (edit rewording) nodes
      nodes_are c number none turns says =
          (λ i. without_gone (gone_in (turns i)) (with_said (says i) (with_turned (turns i) number (with_regrown (none i) nodes))))
          ∙ ap (λ (n : ℕ). with_body n (body_in content) (with_edited t.node (λ (y : Node). record y { holder = t.holder; entry = e }) nodes)) tells.number
          ∙ ap (with_body t.holder (body_in content)) turned_node
        where
          own : Node
          own = target_of.node layout nodes listings sound held path t target

          own_is : get nodes t.node ≡ Some own
          own_is = target_of.node_is layout nodes listings sound held path t target

          turned_node : with_edited t.node (λ (y : Node). record y { holder = t.holder; entry = e }) nodes ≡ put nodes t.node (entered t.holder (g o) (get nodes t.node))
          turned_node =
              ap (λ (y : Option Node). option_map_or (λ (z : Node). put nodes t.node (record z { holder = t.holder; entry = e })) y nodes) own_is
              ∙ ap (λ (d : Entry). put nodes t.node (record own { holder = t.holder; entry = d })) (sym new_entry)
              ∙ sym (ap (λ (y : Option Node). put nodes t.node (entered t.holder (g o) y)) own_is)
