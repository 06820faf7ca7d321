-- The image after `rename` into a directory that grows by it, in the safe mode.
use Rattle.std.proofs.Common.{◌≡◌, ◌⊎◌, inl, ⊎_elim, true, List, [], ◌∷◌, refl, sym, ap, subst, ◌∙◌, Option, None, Some}
use Rattle.std.specs.Prelude.{Contains}
use Rattle.fc_model.specs.Answer.{changed}
use Rattle.fc_model.specs.Command.{Command}
use Rattle.fc_image.specs.Layout.{Layout, dir_form}
use Rattle.fc_image.specs.Walk.{Listing, Object, object_bytes, object_size}
use Rattle.fc_image.specs.Objects.{tree_of}
use Rattle.fc_image.specs.TreeEdits.{IsMove}
use Rattle.fc_image.specs.effects.Steady.{AreWritten}
use Rattle.fc_image.proofs.CommandLemmas.{command_law}
use Rattle.fc_image.proofs.EntriesLemmas.{cases as contains_cases}
use Rattle.fc_image.proofs.RenameLemmas.{last_pushed}
use Rattle.fc_tree.proofs.MemberLemmas.{no_element}
use Rattle.fc_laws.specs.nodes.Laws.{IsHeld}
use Rattle.fc_edits.specs.Edit.{Amended, Edit, objects}
use Rattle.fc_edits.specs.Growing.{EditGrowing, Growing, Holder, grown_by}
use Rattle.fc_edits.specs.Moving.{Moving, edit, moved, new_path}
use Rattle.fc_edits.proofs.lemmas.GrowingLemmas as growing
use Rattle.fc_edits.proofs.lemmas.GrownMemberLemmas as members
use Rattle.fc_edits.proofs.lemmas.MovesLemmas as memory
use Rattle.fc_edits.proofs.lemmas.ShapeLemmas.{only}
use Rattle.fc_safelaws.specs.Relaid.{AreCopied}
use Rattle.fc_safeedits.specs.Relocation.{Relocation, is_moved, turned_in}
use Rattle.fc_safeedits.specs.SafeChange.{SafeChange, moves_in}
use Rattle.fc_safeedits.specs.SafeImage.{CopiesBody, IsSafeWritten, IsUnamended, KeepsBody, MovesAllPaths, MovesNode, SafeImage}
use Rattle.fc_safeedits.specs.SafeGrownMoving.{SafeGrownMoving}
use Rattle.fc_safeedits.proofs.lemmas.GrowingImageLemmas as g_
use Rattle.fc_safeedits.proofs.lemmas.GrowingPlacesLemmas as p_
use Rattle.fc_safeedits.proofs.lemmas.GrowingPlacesLemmas.{SafeGrowing}
use Rattle.fc_safeedits.proofs.lemmas.GrownRenamedPartsLemmas as m_

module _ (d : SafeGrownMoving) where
  abbrev x : SafeChange
  x = d.x

  abbrev c : Moving
  c = d.parts.c

  abbrev g : Growing
  g = d.parts.growing

  abbrev y : Layout
  y = Layout.New x.parts.m

  abbrev y' : Layout
  y' = Layout.New x.parts.m'

  abbrev pub q : SafeGrowing d.x.parts
  q = m_.grows d.x.parts d.parts

  abbrev pub h : IsHeld d.x.parts.nodes (Layout.New d.x.parts.m) d.x.parts.listings
  h = p_.h d.x.parts q

  abbrev pub eg : EditGrowing
  eg = p_.eg d.x.parts q

  abbrev pub e' : Edit
  e' = p_.e' d.x.parts q

  abbrev pub move : Relocation
  move = p_.move d.x.parts q

  -- ---- what moves

  -- the object becomes what it would without growth
  pub o_turn : (p_.e' d.x.parts (m_.grows d.x.parts d.parts)).turn d.parts.c.o ≡ moved d.parts.c d.parts.c.o
  o_turn = growing.other_turn eg c.o (m_.o_other x.parts d.parts)

  -- the object, and the directory that grows
  pub moving_are : (P : Object → Type 0) → P d.parts.growing.o → P d.parts.c.o → (o : Object) → Contains (objects (p_.e' d.x.parts (m_.grows d.x.parts d.parts)).moving) o → P o
  moving_are P its own o at = by g.holder at
    where
      by : (t : Option Holder) → Contains (objects (grown_by (edit c) g t).moving) o → P o
      by None there = subst P (only c.o o there) own
      by (Some hd) there = ⊎_elim (λ same. subst P same its) (λ later. subst P (only c.o o later) own) (contains_cases g.o o (c.o ∷ []) there)

  -- ---- what is written

  pub dir_written : (a : Amended) → Contains e'.amended a → AreWritten (object_bytes x.image' y' (turned_in move a.was.object)) a.content
  dir_written = g_.dir_written x q d.parts.moves d.there

  o_copied : is_moved (moves_in x.parts) (e'.turn c.o) ≡ true → IsUnamended e' c.o → AreCopied x.parts.m.geometry.sector x.image x.image' c.o.sectors (turned_in move c.o).sectors
  o_copied m other =
      let still : is_moved (moves_in x.parts) (moved c c.o) ≡ true = ap (is_moved (moves_in x.parts)) (sym o_turn) ∙ m in
      subst (λ (p : Object). AreCopied x.parts.m.geometry.sector x.image x.image' c.o.sectors p.sectors) (sym (g_.still_now x q c.o (m_.o_other x.parts d.parts) still))
      (d.copied c.o (m_.o_in x.parts d.parts) still other)

  pub there : IsSafeWritten move x.written x.image x.image'
  there = record {
    changes = x.changes;
    free = x.free;
    says = g_.dir_says x q d.parts.moves d.there;
    into_say = λ k at. absurd (no_element k at);
    copied = λ o s m other.
        subst (λ (p : Object). AreCopied x.parts.m.geometry.sector x.image x.image' o.sectors p.sectors) (sym (g_.still_now x q o (g_.unlike_it x q o s) m)) (d.copied o s.among m other);
    copied_too = moving_are
        (λ (o : Object). is_moved (moves_in x.parts) (e'.turn o) ≡ true → IsUnamended e' o → AreCopied x.parts.m.geometry.sector x.image x.image' o.sectors (turned_in move o).sectors)
        (λ m other. g_.says_else x q other) o_copied;
  }

  pub o_body : KeepsBody (p_.move d.x.parts (m_.grows d.x.parts d.parts)) d.parts.c.o
  o_body = record {
    sectors = ap (λ (p : Object). p.sectors) o_turn;
    size = ap (λ (p : Object). object_size (dir_form y) p.entry) o_turn;
  }

  abbrev pub image : SafeImage
  image = record {
    parts = p_.parts d.x.parts q;
    r = x.r;
    image = x.image;
    image' = x.image';
    written = x.written;
    new_kind = x.new_kind;
    opens = x.opens;
    bodies = moving_are (λ (o : Object). IsUnamended e' o → KeepsBody move o ⊎ CopiesBody move x.image x.image' o) (λ other. g_.says_else d.x q other) (λ other. inl o_body);
    is_written = there;
    chosen = x.chosen;
    root_is = g_.root_now d.x q d.recorded;
  }

  pub moves : MovesAllPaths move c.o.path (new_path c)
  moves = record {
    no_root = memory.some x.parts.nodes y x.parts.listings c h d.parts.moving;
    none_goes = refl;
    none_comes = refl;
    paths = λ o s. growing.its_path eg o;
    others = λ o s.
        (let t = members.stayed eg o s in
        memory.unspelled x.parts.nodes y x.parts.listings c h d.parts.moving o t.number t.number_is (memory.others x.parts.nodes y x.parts.listings c h d.parts.moving t.number t.stays));
    moving = moving_are (λ (o : Object). MovesNode c.o.path (new_path c) o (e'.turn o))
        (subst (MovesNode c.o.path (new_path c) g.o) (sym (growing.its_turn eg)) (record {
          path = ap (λ (p : Object). p.path) (sym d.parts.grows.stays);
          name = ap (λ (p : Object). p.entry.name) (sym d.parts.grows.stays);
          attrs = refl;
          load = refl;
          exec = refl;
        }))
        (subst (MovesNode c.o.path (new_path c) c.o) (sym o_turn) (record { path = refl; name = refl; attrs = refl; load = refl; exec = refl }));
  }

  -- the tree of the model
  pub tree_now : (found : List Listing) → IsMove x.image x.image' y y' x.parts.listings found c.o.path (new_path c)
      → tree_of x.image' y' found ≡ changed (tree_of x.image y x.parts.listings) (Command.Rename d.from d.to)
  tree_now found is_move =
      command_law.rename x.image x.image' y y' x.parts.listings found d.from d.to c.o.path (new_path c) is_move d.its.from_is d.its.to_is (d.its.name_is ∙ sym (last_pushed c.l.object.path c.name))
