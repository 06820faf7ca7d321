-- The image after `set` and `mark` in the safe mode.
use Rattle.std.proofs.Common.{◌≡◌, ◌⊎◌, inl, ℕ, true, List, [], ◌∷◌, sym, ap, subst, ◌∙◌}
use Rattle.std.specs.Prelude.{Contains, Ok}
use Rattle.std.proofs.lemmas.List.Sorted.{IsPermutation-refl}
use Rattle.fc_dirs.specs.declared.Entry.{Entry}
use Rattle.fc_image.specs.Layout.{Layout, dir_form}
use Rattle.fc_image.specs.Walk.{Object, object_bytes, reader_of}
use Rattle.fc_image.specs.Objects.{objects_of}
use Rattle.fc_image.specs.Moves.{object_in}
use Rattle.fc_image.specs.effects.Steady.{AreWritten}
use Rattle.fc_tree.specs.Agree.{HasForm}
use Rattle.fc_tree.proofs.MemberLemmas.{contains_here, no_element}
use Rattle.fc_edits.specs.Edit.{Amended}
use Rattle.fc_edits.specs.Rewording.{Rewording, amended, edit}
use Rattle.fc_edits.proofs.lemmas.ShapeLemmas.{of_one}
use Rattle.fc_safelaws.specs.Relaid.{AreCopied}
use Rattle.fc_safeedits.specs.Relocation.{Relocation, is_moved, turned_in}
use Rattle.fc_safeedits.specs.SafeChange.{SafeChange, moves_in}
use Rattle.fc_safeedits.specs.SafeImage.{CopiesBody, IsSafeWritten, IsUnamended, KeepsAllPaths, KeepsBody, SafeImage}
use Rattle.fc_safeedits.specs.SafeRewording.{SafeRewording}
use Rattle.fc_safeedits.proofs.lemmas.LaidLemmas.{laid_there}
use Rattle.fc_safeedits.proofs.lemmas.RelocatedLemmas.{turned_entry}
use Rattle.fc_safeedits.proofs.lemmas.RewordedPartsLemmas as m_
use Rattle.fc_safeedits.proofs.lemmas.SafeChangeLemmas.{says_there, sectors_as}

module _ (d : SafeRewording) where
  abbrev x : SafeChange
  x = d.x

  abbrev c : Rewording
  c = d.parts.c

  abbrev y : Layout
  y = Layout.New x.parts.m

  abbrev y' : Layout
  y' = Layout.New x.parts.m'

  abbrev listed : List Object
  listed = objects_of x.parts.listings

  abbrev pub move : Relocation
  move = m_.move x.parts d.parts

  pub dir_now : turned_in move c.l.object ≡ object_in y' c.l.object
  dir_now = laid_there x.parts.m' (moves_in x.parts) (c.turn c.l.object) (m_.l_moves x.parts d.parts) ∙ ap (object_in y') (m_.l_stays x.parts d.parts)

  pub dir_written : AreWritten (object_bytes x.image' y' (turned_in move c.l.object)) c.content
  dir_written = subst (λ (bs : List ℕ). AreWritten bs c.content) (sym (ap (object_bytes x.image' y') dir_now ∙ d.there)) d.has_words.written

  pub dir_says : reader_of x.image' y' (turned_in move c.l.object) ≡ Ok c.content
  dir_says =
      says_there x (turned_in move c.l.object) c.content d.bytes
      (record {
        form = subst (λ (e : Entry). HasForm (dir_form y) e.len c.content) (sym (turned_entry move c.l.object ∙ ap (λ (o : Object). o.entry) (m_.l_stays x.parts d.parts))) d.parts.reworded.can.form;
        body = d.parts.reworded.can.body;
      }) d.has_words.written (ap (object_bytes x.image' y') dir_now ∙ d.there)

  pub unamended : (o : Object) → IsUnamended (edit c) o → c.l.object ≡ o → ⊥
  unamended o other = other (amended c) (contains_here (amended c) [])

  pub copied_at : (o : Object) → Contains listed o → is_moved (moves_in x.parts) o ≡ true → IsUnamended (edit c) o → AreCopied x.parts.m.geometry.sector x.image x.image' o.sectors (turned_in move o).sectors
  copied_at o at m other =
      subst (λ (ss : List ℕ). AreCopied x.parts.m.geometry.sector x.image x.image' o.sectors ss)
      (sym (ap (λ (p : Object). p.sectors) (laid_there x.parts.m' (moves_in x.parts) (c.turn o) (m_.moved_same x.parts d.parts o ∙ m)) ∙ sectors_as x.parts.m' o (c.turn o) (m_.address_same x.parts d.parts o) (m_.size_same x.parts d.parts x.parts.m' o)))
      (d.copied o at m (unamended o other))

  pub there : IsSafeWritten move x.written x.image x.image'
  there = record {
    changes = x.changes;
    free = x.free;
    says = of_one (λ (a : Amended). reader_of x.image' y' (turned_in move a.was.object) ≡ Ok a.content) (amended c) dir_says;
    into_say = λ k at. absurd (no_element k at);
    copied = λ o s m other. copied_at o s.among m other;
    copied_too = of_one (λ (o : Object). is_moved (moves_in x.parts) (c.turn o) ≡ true → IsUnamended (edit c) o → AreCopied x.parts.m.geometry.sector x.image x.image' o.sectors (turned_in move o).sectors) c.o
        (λ m other. copied_at c.o (m_.o_in x.parts d.parts) (sym (m_.moved_same x.parts d.parts c.o) ∙ m) other);
  }

  abbrev pub image : SafeImage
  image = record {
    parts = m_.parts x.parts d.parts;
    r = x.r;
    image = x.image;
    image' = x.image';
    written = x.written;
    new_kind = x.new_kind;
    opens = x.opens;
    bodies = of_one (λ (o : Object). IsUnamended (edit c) o → KeepsBody move o ⊎ CopiesBody move x.image x.image' o) c.o (λ other. inl (record { sectors = d.parts.reworded.rewording.sectors c.o; size = m_.size_same x.parts d.parts x.parts.m c.o }));
    is_written = there;
    chosen = x.chosen;
    root_is = inl (record { record_stays = d.record_stays; stays = m_.top_stays x.parts d.parts });
  }

  pub keeps : KeepsAllPaths move (c.o ∷ [])
  keeps = record { paths = λ o s. d.parts.reworded.rewording.same_path o; steady = []; moving = IsPermutation-refl (c.o ∷ []); kept = λ o at. absurd (no_element o at) }
