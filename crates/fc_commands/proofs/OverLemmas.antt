-- A file that comes in the place of another, on any map: the edit that its change is, and the nodes after it.
use Rattle.std.proofs.Common.{◌≡◌, ℕ, Bool, cond, List, [], ◌∷◌, length, remove, slice_get, slice_set, refl, sym, ap, subst, ◌∙◌, Option, Some, None}
use Rattle.std.specs.Prelude.{Contains, IsPermutation}
use Rattle.std.specs.FinMap.{get, insert as put}
use Rattle.std.specs.Option.{option_map, option_map_or}
use Rattle.std.proofs.lemmas.Option.{slice_get_within}
use Rattle.fc_names.specs.Names.{Path}
use Rattle.fc_dirs.specs.declared.Entry.{Entry}
use Rattle.fc_dirs.specs.Directory.{Directory, directory_size, entries_of}
use Rattle.fc_drafts.specs.Draft.{CanAddress, directory_in}
use Rattle.fc_drafts.specs.Entries.{saved_entry}
use Rattle.fc_drafts.specs.Rewriting.{HasReplaced}
use Rattle.fc_drafts.proofs.EntryLemmas.{entry_law}
use Rattle.fc_drafts.proofs.FindLemmas.{held as held_in}
use Rattle.fc_model.specs.Command.{Command}
use Rattle.fc_image.specs.Layout.{Layout, dir_form}
use Rattle.fc_image.specs.Report.{holder_address}
use Rattle.fc_image.specs.Sound.{AreSound}
use Rattle.fc_image.specs.Walk.{Listing, Object, object_size}
use Rattle.fc_edits.specs.Addition.{Addition, IsAddition, nodes_over}
use Rattle.fc_edits.specs.NewNodes.{entered}
use Rattle.fc_laws.specs.nodes.Edits.{Nodes, with_body, with_edited}
use Rattle.fc_laws.proofs.lemmas.agree.CutLemmas.{cut_law}
use Rattle.fc_laws.proofs.lemmas.nodes.ListLemmas.{cut_at, set_at}
use Rattle.fc_outcomes.specs.Addition.{IsItsFile, Joins}
use Rattle.fc_refusals.specs.Slots.{IsFile}
use Rattle.fc_refusals.specs.declared.target.Target.{Target}
use Rattle.fc_tree.specs.declared.node.Node.{Node}
use Rattle.fc_tree.specs.Agree.{IsDirectory}
use Rattle.fc_tree.specs.Nodes.{HoldObjects, body_in}
use Rattle.fc_tree.proofs.MemberLemmas.{no_element}
use Rattle.fc_tree.proofs.SoundLemmas.{children_stored}
use Rattle.fc_tree.proofs.WalkedLemmas.{child_path}
use Rattle.fc_change.specs.declared.change.Change.{Change}
use Rattle.fc_change.specs.declared.change.Says.{Says}
use Rattle.fc_change.specs.declared.change.Turned.TheVariants as turns
use Rattle.fc_change.specs.declared.job.FileWords.{FileWords}
use Rattle.fc_change.specs.After.{gone_in, nodes_after, with_regrown, with_said, with_turned, without_gone}
use Rattle.fc_change.specs.Directories.{CanBe, CanTell, Rewriting, Tells}
use Rattle.fc_change.specs.Prepared.{IsPieceOf}
use Rattle.fc_writing.specs.declared.ready.Piece.{Piece}
use Rattle.fc_commands.specs.Run.{IsMapIn}
use Rattle.fc_commands.proofs.ArrivalLemmas.{Arrival, Brings, renames_none}
use Rattle.fc_commands.specs.Given.{filled}
use Rattle.fc_commands.proofs.FilledLemmas.{filled_long, given_long, makes_file}
use Rattle.fc_commands.proofs.HolderLemmas.{HaveForms}
use Rattle.fc_commands.proofs.NodeLemmas.{size_of_form}
use Rattle.fc_commands.proofs.NodeLemmas as its
use Rattle.fc_commands.proofs.RewordingLemmas.{entries_now, form_stays, map_set, sayable}
use Rattle.fc_commands.proofs.TargetLemmas as target_of
use Rattle.fc_laws.proofs.lemmas.agree.SayLemmas.{as_directory as says_it}

module _ (layout : Layout) (nodes : Nodes) (listings : List Listing) (sound : AreSound layout listings) (held : HoldObjects nodes listings) (path : Path) (t : Target) (file : IsFile nodes listings path t) (words : FileWords)
    (address : ℕ) (forms_are : HaveForms layout listings) where
  abbrev pub l : Listing
  l = file.target.listing

  abbrev pub was : Object
  was = file.target.object

  abbrev pub e : Entry
  e = saved_entry was.entry words.load words.exec words.len address

  entry_there : slice_get (entries_of l.content) t.at ≡ Some was.entry
  entry_there = target_of.entry_there layout nodes listings sound held path t file.target

  -- Its directory can be told so, if it can hold the address.
  pub can_tell : ((k : Listing) → Contains listings k → IsDirectory k.content) → CanAddress l.content address → IsMapIn layout → CanTell None nodes t.holder (Rewriting.Replaces t.at e)
  can_tell bodies fits is =
      let can : CanBe (Rewriting.Replaces t.at e) l.content = (
        slice_get_within (entries_of l.content) t.at was.entry entry_there,
        ap (λ (d : Option Entry). option_map (λ (y : Entry). y.name) d) entry_there,
        entry_law.saved_held l.content was.entry words.load words.exec words.len address (held_in l.content t.at was.entry (sayable l.content (bodies l file.target.listed)) entry_there) fits,
      ) in
      target_of.can_tell layout nodes listings sound held path t file.target (Rewriting.Replaces t.at e) refl can forms_are is

  -- ---- what it was told

  module _ (sectors : List ℕ) (said : Says) (tells : Tells None nodes t.holder (Rewriting.Replaces t.at e) said) where
    abbrev pub o : Object
    o = record { path = was.path; entry = e; sectors = sectors }

    abbrev pub content : Directory
    content = directory_in said.draft

    pub replaced : HasReplaced (holder_address listings l.object.path) t.at e l.content content
    replaced = target_of.rewritten layout nodes listings sound held path t file.target (Rewriting.Replaces t.at e) said tells refl

    -- its size
    pub size_is : object_size (dir_form layout) e ≡ words.len
    size_is = ap (λ (b : Bool). cond b (directory_size (dir_form layout) words.len) words.len) file.file

    entries_are : entries_of content ≡ slice_set (entries_of l.content) t.at e
    entries_are = entries_now (holder_address listings l.object.path) t.at e l.content content replaced

    module _ (p : Piece) (piece : IsPieceOf layout nodes said p) where
      abbrev cut : (rest : List Listing) × IsPermutation listings (l ∷ rest)
      cut = cut_law.one listings l file.target.listed

      abbrev pub addition : Addition
      addition = record {
        over = was ∷ [];
        into = [];
        rest = cut.0;
        l = l;
        content = content;
        children = slice_set l.children t.at o;
        kids = remove l.children t.at;
        o = o;
        dir = t.holder;
        number = t.node;
      }

      pub is_addition : IsAddition nodes layout listings addition
      is_addition = record {
        found = cut.1;
        had = cut_at l.children t.at was file.target.at;
        holds = set_at l.children t.at was o file.target.at;
        stored = map_set l.children t.at o ∙ ap (λ (es : List Entry). slice_set es t.at e) (children_stored layout listings sound l file.target.listed) ∙ sym entries_are;
        path = child_path layout listings sound l was file.target.listed (target_of.kid_in layout nodes listings sound held path t file.target);
        dir_is = file.target.holder_is;
        node = record { number_is = file.target.node_is; was_file = file.file; file = file.file };
        alone = file.file;
        can = record {
          form = form_stays (dir_form layout) l.object.entry.len (holder_address listings l.object.path) t.at e l.content content replaced (forms_are l file.target.listed);
          body = says_it content piece.drafted.sayable;
        };
      }

      -- ---- by a command that saves it

      module _ (c : Command) (bytes : List ℕ) (brings : Brings (Arrival.Saves words) path bytes c) where
        pub stored_long : length (filled words.len bytes) ≡ words.len
        stored_long = filled_long words.len bytes (given_long words path bytes c brings)

        pub joins : Joins c path layout listings addition p.bytes.items (filled words.len bytes)
        joins = record {
          path_is = file.target.path_is;
          stood = target_of.there layout nodes listings sound held path t file.target;
          entry = (t.at, file.target.at, entries_are, refl, refl, refl);
          says = replaced.rewritten c l.object.path (renames_none (Arrival.Saves words) path bytes c brings l.object.path);
          written = piece.drafted.bytes;
          long = piece.drafted.length_is ∙ replaced.size
              ∙ size_of_form (dir_form layout) l.object.entry l.content (forms_are l file.target.listed) (its.directory nodes layout listings sound held l file.target.listed t.holder file.target.holder_is);
          stored_long = stored_long ∙ sym size_is;
          own = λ d at. absurd (no_element d at);
        }

        pub its_file : IsItsFile c path words.load words.exec addition (filled words.len bytes)
        its_file = record { makes = makes_file words path bytes c brings; alone = refl; attrs = refl; load_word = refl; exec_word = refl }

      -- ---- the nodes after it

      pub nodes_are : (c : Change) (number : ℕ) → c.grown ≡ None → c.object ≡ turns.Turns t.node t.holder e → c.says.items ≡ said ∷ [] → nodes_after c number nodes ≡ nodes_over addition nodes
      nodes_are c number none turned says =
          (λ i. without_gone (gone_in (turned i)) (with_said (says i) (with_turned (turned i) number (with_regrown (none i) nodes))))
          ∙ ap (λ (n : ℕ). with_body n (body_in content) (with_edited t.node (λ (y : Node). record y { holder = t.holder; entry = e }) nodes)) tells.number
          ∙ ap (with_body t.holder (body_in content)) turned_node
        where
          own : Node
          own = target_of.node layout nodes listings sound held path t file.target

          own_is : get nodes t.node ≡ Some own
          own_is = target_of.node_is layout nodes listings sound held path t file.target

          turned_node : with_edited t.node (λ (y : Node). record y { holder = t.holder; entry = e }) nodes ≡ put nodes t.node (entered t.holder o (get nodes t.node))
          turned_node =
              ap (λ (y : Option Node). option_map_or (λ (z : Node). put nodes t.node (record z { holder = t.holder; entry = e })) y nodes) own_is
              ∙ sym (ap (λ (y : Option Node). put nodes t.node (entered t.holder o y)) own_is)
