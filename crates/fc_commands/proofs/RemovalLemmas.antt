-- `delete`, on any map: what its stages need, and the deletion that its change is.
use Rattle.std.proofs.Common.{◌≡◌, ℕ, cond, List, [], ◌∷◌, ◌++◌, remove, refl, sym, ap, subst, ◌∙◌, Option, Some, None}
use Rattle.std.specs.Prelude.{Contains, IsPermutation}
use Rattle.std.specs.FinMap.{remove as take}
use Rattle.std.proofs.lemmas.Option.{slice_get_within}
use Rattle.fc_names.specs.Names.{Path, is_same_path}
use Rattle.fc_names.specs.declared.name.NameForm.{NameForm}
use Rattle.fc_names.specs.declared.name.NameForm.TheVariants as forms
use Rattle.fc_alloc.specs.declared.owner.Owner.{Owner}
use Rattle.fc_model.specs.Command.{Command}
use Rattle.fc_model.specs.Tree.{last_name}
use Rattle.fc_dirs.specs.declared.Entry.{Entry}
use Rattle.fc_dirs.specs.Directory.{Directory, entries_of}
use Rattle.fc_drafts.specs.Draft.{directory_in, with_head, with_less}
use Rattle.fc_drafts.specs.Rewriting.{HasLeft}
use Rattle.fc_image.specs.Layout.{Layout, dir_form}
use Rattle.fc_image.specs.Objects.{has_sectors, objects_of}
use Rattle.fc_image.specs.Report.{holder_address}
use Rattle.fc_image.specs.Sound.{AreSound}
use Rattle.fc_image.specs.Walk.{Listing, Object}
use Rattle.fc_tree.specs.Agree.{HasForm}
use Rattle.fc_tree.specs.Nodes.{HoldObjects, body_in}
use Rattle.fc_tree.specs.Parts.{AreOwners}
use Rattle.fc_tree.proofs.SoundLemmas.{children_stored}
use Rattle.fc_tree.proofs.WalkedLemmas.{child_path}
use Rattle.fc_changes.proofs.ReadsLemmas.{lies_in, same_name_turned}
use Rattle.fc_changes.specs.Owed.{GoesAlone}
use Rattle.fc_laws.specs.nodes.Edits.{Nodes, OwnersEdited, owner_with, owners_with, with_body}
use Rattle.fc_laws.proofs.lemmas.agree.CutLemmas.{cut_law}
use Rattle.fc_laws.proofs.lemmas.nodes.ListLemmas.{cut_at, map_remove}
use Rattle.fc_laws.proofs.lemmas.nodes.OwnerLemmas.{owner_law}
use Rattle.fc_edits.specs.Deletion.{Deletion, IsDeletion, nodes_without}
use Rattle.fc_outcomes.specs.Deletion.{LeavesOut}
use Rattle.fc_refusals.specs.Targets.{IsRemovable, IsTarget}
use Rattle.fc_refusals.specs.declared.target.Target.{Target}
use Rattle.fc_change.specs.declared.change.Change.{Change}
use Rattle.fc_change.specs.declared.change.Says.{Says}
use Rattle.fc_change.specs.declared.change.Turned.{Turned}
use Rattle.fc_change.specs.declared.change.Turned.TheVariants as turns
use Rattle.fc_change.specs.After.{AreOwnersAfter, IsRegrownOwner, IsTurnedOwner, gone_in, nodes_after, with_regrown, with_said, with_turned, without_gone}
use Rattle.fc_change.specs.declared.change.Regrowth.{Regrowth}
use Rattle.fc_change.specs.Directories.{CanTell, Rewriting, Tells}
use Rattle.fc_change.specs.Owned.{HasNoOwner}
use Rattle.fc_change.specs.Prepared.{IsPieceOf}
use Rattle.fc_writing.specs.declared.ready.Piece.{Piece}
use Rattle.fc_commands.specs.Run.{IsMapIn}
use Rattle.fc_commands.proofs.NodeLemmas.{can_address, child_entry, content_is, each_at, entry_is, held_at, sectors_are, size_of_form}
use Rattle.fc_commands.proofs.NodeLemmas as its
use Rattle.fc_commands.proofs.OwnerLemmas.{owner_is, owners_left}
use Rattle.fc_commands.proofs.TargetLemmas as target_of
use Rattle.fc_laws.proofs.lemmas.agree.SayLemmas.{as_directory as says_it}

-- ---- what a directory says without an entry

pub form_left : (form : NameForm) (len parent at : ℕ) (old new : Directory) → HasLeft parent at old new → HasForm form len old → HasForm form len new
form_left form len parent at old new is has = subst (HasForm form len) (sym is.is) (by form old has)
  where
    by : (f : NameForm) (dir : Directory) → HasForm f len dir → HasForm f len (with_head parent (with_less at dir))
    by forms.Seven (Directory.Small dir) h = h
    by forms.Ten (Directory.Small dir) h = h
    by forms.Long (Directory.Small dir) h = absurd h
    by forms.Seven (Directory.Big dir) h = absurd h
    by forms.Ten (Directory.Big dir) h = absurd h
    by forms.Long (Directory.Big dir) h = h

pub entries_left : (parent at : ℕ) (old new : Directory) → HasLeft parent at old new → entries_of new ≡ remove (entries_of old) at
entries_left parent at old new is = ap entries_of is.is ∙ by old
  where
    by : (dir : Directory) → entries_of (with_head parent (with_less at dir)) ≡ remove (entries_of dir) at
    by (Directory.Small dir) = refl
    by (Directory.Big dir) = refl

-- ---- the target, by any walk whose objects the nodes hold

module _ (layout : Layout) (nodes : Nodes) (listings : List Listing) (sound : AreSound layout listings) (held : HoldObjects nodes listings) (path : Path) (t : Target) (may : IsRemovable nodes listings path t) where
  abbrev target : IsTarget nodes listings path t
  target = may.target

  abbrev pub l : Listing
  l = target.listing

  abbrev pub o : Object
  o = target.object

  module _ (form : (k : Listing) → Contains listings k → HasForm (dir_form layout) k.object.entry.len k.content) where
    -- what can be told
    pub can_tell : IsMapIn layout → CanTell None nodes t.holder (Rewriting.Leaves t.at)
    can_tell is =
        target_of.can_tell layout nodes listings sound held path t target (Rewriting.Leaves t.at) refl
        (slice_get_within (entries_of l.content) t.at o.entry (target_of.entry_there layout nodes listings sound held path t target)) form is

    -- ---- what was told

    module _ (said : Says) (tells : Tells None nodes t.holder (Rewriting.Leaves t.at) said) where
      abbrev pub content : Directory
      content = directory_in said.draft

      pub left : HasLeft (holder_address listings l.object.path) t.at l.content content
      left = target_of.rewritten layout nodes listings sound held path t target (Rewriting.Leaves t.at) said tells refl

      -- the deletion, with the bytes of its directory
      module _ (p : Piece) (piece : IsPieceOf layout nodes said p) where
        abbrev cut : (out rest : List Listing) × GoesAlone out o × IsPermutation listings (out ++ l ∷ rest)
        cut = cut_law.alone layout listings l t.at o sound target.listed target.at may.empty

        abbrev pub deletion : Deletion
        deletion = record { out = cut.0; rest = cut.1; l = l; content = content; kids = remove l.children t.at; o = o; dir = t.holder; number = t.node }

        pub is_deletion : IsDeletion nodes layout listings deletion
        is_deletion = record {
          found = cut.3;
          holds = cut_at l.children t.at o target.at;
          dir_is = target.holder_is;
          number_is = target.node_is;
          alone = cut.2;
          stored = map_remove (λ (x : Object). x.entry) l.children t.at ∙ ap (λ (es : List Entry). remove es t.at) (children_stored layout listings sound l target.listed)
              ∙ sym (entries_left (holder_address listings l.object.path) t.at l.content content left);
          can = record {
            form = form_left (dir_form layout) l.object.entry.len (holder_address listings l.object.path) t.at l.content content left (form l target.listed);
            body = says_it content piece.drafted.sayable;
          };
        }

        pub leaves : LeavesOut path layout listings deletion p.bytes.items
        leaves = record {
          path_is = target.path_is;
          says = left.rewritten (Command.Delete path) l.object.path refl;
          entries = left.entries o.entry (last_name path) (target_of.entry_there layout nodes listings sound held path t target)
              (same_name_turned (last_name path) o.entry.name
              (lies_in path l.object.path o.entry.name (ap (is_same_path path) (sym (child_path layout listings sound l o target.listed (target_of.kid_in layout nodes listings sound held path t target))) ∙ target.path_is)).named);
          written = piece.drafted.bytes;
          long = piece.drafted.length_is ∙ left.size
              ∙ size_of_form (dir_form layout) l.object.entry l.content (form l target.listed) (its.directory nodes layout listings sound held l target.listed t.holder target.holder_is);
        }

        -- the nodes after it are those that are taken over
        pub nodes_are : (c : Change) (number : ℕ) → c.grown ≡ None → c.object ≡ turns.Goes t.node → c.says.items ≡ said ∷ [] → nodes_after c number nodes ≡ nodes_without deletion nodes
        nodes_are c number none goes says =
            (λ i. without_gone (gone_in (goes i)) (with_said (says i) (with_turned (goes i) number (with_regrown (none i) nodes))))
            ∙ ap (λ (n : ℕ). take (with_body n (body_in content) nodes) t.node) tells.number

  -- the owners after it
  pub owners_are : (owners owners' : List Owner) → AreOwners owners nodes layout (objects_of listings) → HasNoOwner t.node owners owners' → OwnersEdited owners owners' (owners_with layout t.holder t.node o) []
  owners_are owners owners' owned goes =
      let own = owner_law nodes layout listings l t.at o t.holder t.node (record { sound = sound; held = held }) (record { listed = target.listed; at = target.at; dir_is = target.holder_is; number_is = target.node_is }) in
      let found = owner_is layout nodes listings owners o t.node sound held owned target.node_is (target_of.among layout nodes listings sound held path t target) ∙ ap (λ (w : Owner). cond (has_sectors o) (Some w) None) own in
      owners_left (has_sectors o) t.node owners owners' (owner_with layout t.holder t.node o) found goes.gone goes.none

-- The owners that are taken over are those without the one of the object that goes.
pub owners_after : (layout : Layout) (nodes : Nodes) (c : Change) (n : ℕ) (owners owners' : List Owner) → c.grown ≡ None → c.object ≡ turns.Goes n → AreOwnersAfter layout nodes c owners owners'
    → HasNoOwner n owners owners'
owners_after layout nodes c n owners owners' none goes after =
    let middle : after.middle ≡ owners = subst (λ (g : Option Regrowth). IsRegrownOwner layout nodes g owners after.middle) none after.grown in
    subst (λ (ws : List Owner). HasNoOwner n ws owners') middle (subst (λ (x : Turned). IsTurnedOwner layout x after.middle owners') goes after.object)
