-- The image after `rename` in the safe mode.
use Rattle.std.proofs.Common.{◌≡◌, ◌⊎◌, inl, true, List, refl, sym, subst, ◌∙◌}
use Rattle.std.specs.Prelude.{Contains, Ok}
use Rattle.fc_model.specs.Answer.{changed}
use Rattle.fc_model.specs.Command.{Command}
use Rattle.fc_dirs.specs.declared.Entry.{Entry}
use Rattle.fc_image.specs.Layout.{Layout, dir_form}
use Rattle.fc_image.specs.Walk.{Listing, Object, object_bytes, reader_of}
use Rattle.fc_image.specs.Objects.{objects_of, tree_of}
use Rattle.fc_image.specs.Moves.{object_in}
use Rattle.fc_image.specs.TreeEdits.{IsMove}
use Rattle.fc_image.specs.effects.Steady.{AreWritten}
use Rattle.fc_image.proofs.CommandLemmas.{command_law}
use Rattle.fc_image.proofs.RenameLemmas.{last_pushed}
use Rattle.fc_tree.specs.Agree.{HasForm}
use Rattle.fc_tree.proofs.MemberLemmas.{no_element}
use Rattle.fc_laws.specs.nodes.Laws.{IsHeld}
use Rattle.fc_edits.specs.Edit.{Amended}
use Rattle.fc_edits.specs.Moving.{Moving, edit, moved, new_path}
use Rattle.fc_edits.proofs.lemmas.MovingLemmas as memory
use Rattle.fc_edits.proofs.lemmas.ShapeLemmas.{of_one}
use Rattle.fc_safelaws.specs.Relaid.{AreCopied}
use Rattle.fc_safeedits.specs.Relocation.{Relocation, is_moved, turned_in}
use Rattle.fc_safeedits.specs.SafeChange.{SafeChange, moves_in}
use Rattle.fc_safeedits.specs.SafeImage.{CopiesBody, IsSafeWritten, IsUnamended, KeepsBody, MovesAllPaths, MovesNode, SafeImage}
use Rattle.fc_safeedits.proofs.lemmas.LaidLemmas.{laid_there}
use Rattle.fc_safeedits.proofs.lemmas.RelocatedLemmas.{turned_entry}
use Rattle.fc_safeedits.proofs.lemmas.SafeChangeLemmas.{says_there}
use Rattle.fc_safeedits.specs.SafeMoving.{SafeMoving}
use Rattle.fc_safeedits.proofs.lemmas.RenamedPartsLemmas as m_

module _ (d : SafeMoving) where
  abbrev x : SafeChange
  x = d.x

  abbrev c : Moving
  c = d.parts.c

  abbrev y : Layout
  y = Layout.New x.parts.m

  abbrev y' : Layout
  y' = Layout.New x.parts.m'

  pub h : IsHeld x.parts.nodes y x.parts.listings
  h = m_.h x.parts d.parts

  abbrev pub move : Relocation
  move = m_.move x.parts d.parts

  -- a directory that says something else, at its new place
  dir_now : (a : Amended) → Contains (edit c).amended a → turned_in move a.was.object ≡ object_in y' (moved c a.was.object)
  dir_now a at = laid_there x.parts.m' (moves_in x.parts) (moved c a.was.object) (d.parts.moves a at)

  pub dir_written : (a : Amended) → Contains (edit c).amended a → AreWritten (object_bytes x.image' y' (turned_in move a.was.object)) a.content
  dir_written a at = subst (λ (o : Object). AreWritten (object_bytes x.image' y' o) a.content) (sym (dir_now a at)) (d.there a at)

  dir_says : (a : Amended) → Contains (edit c).amended a → reader_of x.image' y' (turned_in move a.was.object) ≡ Ok a.content
  dir_says a at =
      let can = d.parts.moving.says a at in
      says_there x (turned_in move a.was.object) a.content (object_bytes x.image' y' (turned_in move a.was.object))
      (record { form = subst (λ (e : Entry). HasForm (dir_form y) e.len a.content) (sym (turned_entry move a.was.object)) can.form; body = can.body }) (dir_written a at) refl

  -- what else is laid anew
  copied_at : (o : Object) → Contains (objects_of x.parts.listings) o → is_moved (moves_in x.parts) o ≡ true → IsUnamended (edit c) o
      → AreCopied x.parts.m.geometry.sector x.image x.image' o.sectors (turned_in move o).sectors
  copied_at o at m other =
      subst (λ (p : Object). AreCopied x.parts.m.geometry.sector x.image x.image' o.sectors p.sectors) (sym (laid_there x.parts.m' (moves_in x.parts) (moved c o) m)) (d.copied o at m other)

  pub there : IsSafeWritten move x.written x.image x.image'
  there = record {
    changes = x.changes;
    free = x.free;
    says = dir_says;
    into_say = λ k at. absurd (no_element k at);
    copied = λ o s m other. copied_at o s.among m other;
    copied_too = of_one (λ (o : Object). is_moved (moves_in x.parts) (moved c o) ≡ true → IsUnamended (edit c) o → AreCopied x.parts.m.geometry.sector x.image x.image' o.sectors (turned_in move o).sectors) c.o
        (λ m other. copied_at c.o (m_.o_in x.parts d.parts) m other);
  }

  abbrev pub image : SafeImage
  image = record {
    parts = m_.parts x.parts d.parts;
    r = x.r;
    image = x.image;
    image' = x.image';
    written = x.written;
    new_kind = x.new_kind;
    opens = x.opens;
    bodies = of_one (λ (o : Object). IsUnamended (edit c) o → KeepsBody move o ⊎ CopiesBody move x.image x.image' o) c.o (λ other. inl (record { sectors = refl; size = refl }));
    is_written = there;
    chosen = x.chosen;
    root_is = inl (record { record_stays = d.record_stays; stays = m_.top_stays x.parts d.parts });
  }

  pub moves : MovesAllPaths move c.o.path (new_path c)
  moves = record {
    no_root = memory.some x.parts.nodes y x.parts.listings c h d.parts.moving;
    none_goes = refl;
    none_comes = refl;
    paths = λ o s. refl;
    others = λ o s. memory.unspelled x.parts.nodes y x.parts.listings c h d.parts.moving o s.number s.number_is
        (memory.others x.parts.nodes y x.parts.listings c h d.parts.moving s.number s.stays);
    moving = of_one (λ (o : Object). MovesNode c.o.path (new_path c) o (moved c o)) c.o (record { path = refl; name = refl; attrs = refl; load = refl; exec = refl });
  }

  -- the tree of the model
  pub tree_now : (found : List Listing) → IsMove x.image x.image' y y' x.parts.listings found c.o.path (new_path c)
      → tree_of x.image' y' found ≡ changed (tree_of x.image y x.parts.listings) (Command.Rename d.from d.to)
  tree_now found is_move =
      command_law.rename x.image x.image' y y' x.parts.listings found d.from d.to c.o.path (new_path c) is_move d.its.from_is d.its.to_is (d.its.name_is ∙ sym (last_pushed c.l.object.path c.name))
