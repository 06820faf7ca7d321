-- The image after `rename` in the safe mode that copies its file.
use Rattle.std.proofs.Common.{◌≡◌, ◌⊎◌, inl, inr, ℕ, Bool, true, false, cond, List, [], ◌∷◌, refl, sym, ap, subst, ◌∙◌}
use Rattle.std.specs.Prelude.{Contains, Ok}
use Rattle.fc_names.specs.Names.{is_same_path}
use Rattle.fc_model.specs.Answer.{changed}
use Rattle.fc_model.specs.Command.{Command}
use Rattle.fc_model.specs.Tree.{last_name}
use Rattle.fc_image.specs.Layout.{Layout, dir_form}
use Rattle.fc_image.specs.Walk.{Listing, Object, object_bytes, object_size, reader_of}
use Rattle.fc_image.specs.Objects.{objects_of, tree_of}
use Rattle.fc_image.specs.Commanded.{moved_path}
use Rattle.fc_image.specs.Moves.{object_in}
use Rattle.fc_image.specs.TreeEdits.{IsMove}
use Rattle.fc_image.specs.effects.Steady.{AreWritten}
use Rattle.fc_image.proofs.CommandLemmas.{command_law}
use Rattle.fc_image.proofs.PathsLemmas.{itself}
use Rattle.fc_image.proofs.RenameLemmas.{last_pushed, moved_itself}
use Rattle.fc_tree.proofs.MemberLemmas.{contains_here, no_element}
use Rattle.fc_laws.specs.nodes.Laws.{IsHeld}
use Rattle.fc_laws.specs.agree.Agreed.{CanSay}
use Rattle.fc_laws.proofs.lemmas.nodes.OtherLemmas.{unlike}
use Rattle.fc_edits.specs.Copying.{Copies, Copying, copied, edit, new_path}
use Rattle.fc_edits.specs.Edit.{Amended, leaving, numbers}
use Rattle.fc_edits.specs.Places.{Stays}
use Rattle.fc_edits.proofs.lemmas.CopiesLemmas.{of_both}
use Rattle.fc_edits.proofs.lemmas.CopyingLemmas as memory
use Rattle.fc_edits.proofs.lemmas.ShapeLemmas.{of_one}
use Rattle.fc_outcomes.proofs.lemmas.CopiedPathLemmas as path
use Rattle.fc_safelaws.specs.Relaid.{AreCopied}
use Rattle.fc_safeedits.specs.Relocation.{Relocation, is_moved, laid, turned_in}
use Rattle.fc_safeedits.specs.SafeChange.{SafeChange, moves_in}
use Rattle.fc_safeedits.specs.SafeImage.{CopiesBody, IsSafeWritten, IsUnamended, KeepsBody, MovesAllPaths, MovesNode, SafeImage}
use Rattle.fc_safeedits.proofs.lemmas.LaidLemmas.{laid_there}
use Rattle.fc_safeedits.proofs.lemmas.SafeChangeLemmas.{says_there}
use Rattle.fc_safeedits.specs.SafeCopying.{SafeCopying}
use Rattle.fc_safeedits.proofs.lemmas.CopiedPartsLemmas as m_

module _ (d : SafeCopying) where
  abbrev x : SafeChange
  x = d.x

  abbrev c : Copying
  c = d.parts.c

  abbrev y : Layout
  y = Layout.New x.parts.m

  abbrev y' : Layout
  y' = Layout.New x.parts.m'

  pub h : IsHeld x.parts.nodes y x.parts.listings
  h = m_.h x.parts d.parts

  abbrev pub move : Relocation
  move = m_.move x.parts d.parts

  abbrev cs : Copies x.parts.nodes x.parts.listings c
  cs = memory.copies x.parts.nodes y x.parts.listings c d.parts.copying

  pub copy_is : copied c c.o ≡ record { path = new_path c; entry = record c.o.entry { name = c.name; address = c.address }; sectors = c.sectors }
  copy_is = memory.is_copy c

  -- ---- directories

  pub dir_stays : (k : Listing) → Contains x.parts.listings k → copied c k.object ≡ k.object
  dir_stays = memory.dir_stays x.parts.nodes y x.parts.listings c h d.parts.copying

  pub dir_in : (a : Amended) → Contains (edit c).amended a → Contains x.parts.listings a.was
  dir_in = of_both c (λ (a : Amended). Contains x.parts.listings a.was) (memory.k_in x.parts.nodes y x.parts.listings c h d.parts.copying) (memory.l_in x.parts.nodes y x.parts.listings c h d.parts.copying)

  can : (a : Amended) → Contains (edit c).amended a → CanSay y a.was.object a.content
  can = of_both c (λ (a : Amended). CanSay y a.was.object a.content) d.parts.copying.k_can d.parts.copying.l_can

  -- one that says something else, at its new place
  dir_now : (a : Amended) → Contains (edit c).amended a → turned_in move a.was.object ≡ object_in y' a.was.object
  dir_now a at = ap (laid x.parts.m' (moves_in x.parts)) (dir_stays a.was (dir_in a at)) ∙ laid_there x.parts.m' (moves_in x.parts) a.was.object (d.parts.moves a at)

  pub dir_written : (a : Amended) → Contains (edit c).amended a → AreWritten (object_bytes x.image' y' (turned_in move a.was.object)) a.content
  dir_written a at = subst (λ (o : Object). AreWritten (object_bytes x.image' y' o) a.content) (sym (dir_now a at)) (d.there a at)

  dir_says : (a : Amended) → Contains (edit c).amended a → reader_of x.image' y' (turned_in move a.was.object) ≡ Ok a.content
  dir_says a at =
      let says = can a at in
      subst (λ (o : Object). reader_of x.image' y' o ≡ Ok a.content) (sym (dir_now a at))
      (says_there x (object_in y' a.was.object) a.content (object_bytes x.image' y' (object_in y' a.was.object)) (record { form = says.form; body = says.body }) (d.there a at) refl)

  -- ---- what else is written

  away : (n : ℕ) → (Contains (numbers (leaving (edit c))) n → ⊥) → n ≡ c.number → ⊥
  away n none e = none (subst (Contains (c.number ∷ [])) (sym e) (contains_here c.number []))

  -- what stays is as it was, but for its sectors
  pub stays_as : (o : Object) → Stays x.parts.nodes x.parts.listings (edit c) o → copied c o ≡ o
  stays_as o s = memory.stays x.parts.nodes y x.parts.listings c h d.parts.copying o s.number s.number_is (away s.number s.stays)

  laid_anew : (o : Object) → Stays x.parts.nodes x.parts.listings (edit c) o → is_moved (moves_in x.parts) o ≡ true → turned_in move o ≡ object_in y' o
  laid_anew o s m = ap (laid x.parts.m' (moves_in x.parts)) (stays_as o s) ∙ laid_there x.parts.m' (moves_in x.parts) o m

  pub there : IsSafeWritten move x.written x.image x.image'
  there = record {
    changes = x.changes;
    free = x.free;
    says = dir_says;
    into_say = λ k at. absurd (no_element k at);
    copied = λ o s m other. subst (λ (p : Object). AreCopied x.parts.m.geometry.sector x.image x.image' o.sectors p.sectors) (sym (laid_anew o s m)) (d.carried o s m other);
    copied_too = of_one (λ (o : Object). is_moved (moves_in x.parts) (copied c o) ≡ true → IsUnamended (edit c) o → AreCopied x.parts.m.geometry.sector x.image x.image' o.sectors (turned_in move o).sectors) c.o
        (λ m other. m_.never x.parts d.parts m);
  }

  abbrev pub image : SafeImage
  image = record {
    parts = m_.parts x.parts d.parts;
    r = x.r;
    image = x.image;
    image' = x.image';
    written = x.written;
    new_kind = x.new_kind;
    opens = x.opens;
    bodies = of_one (λ (o : Object). IsUnamended (edit c) o → KeepsBody move o ⊎ CopiesBody move x.image x.image' o) c.o
        (λ other. inr (record {
          elsewhere = d.parts.elsewhere;
          size = ap (λ (p : Object). object_size (dir_form y) p.entry) copy_is;
          copied = subst (λ (ss : List ℕ). AreCopied x.parts.m.geometry.sector x.image x.image' c.o.sectors ss) (sym (ap (λ (p : Object). p.sectors) copy_is)) d.stored;
        }));
    is_written = there;
    chosen = x.chosen;
    root_is = inl (record { record_stays = d.record_stays; stays = m_.top_stays x.parts d.parts });
  }

  -- ---- paths

  pub dir_other : (k : Listing) → Contains x.parts.listings k → is_same_path c.o.path k.object.path ≡ false
  dir_other k at = path.dir_other x.parts.nodes y x.parts.listings c h cs k at

  pub its_path : (o : Object) → Contains (objects_of x.parts.listings) o → is_same_path c.o.path o.path ≡ false → moved_path c.o.path (new_path c) o.path ≡ o.path
  its_path o at other = path.its_path x.parts.nodes y x.parts.listings c h cs o at other

  unspelled : (o : Object) → Stays x.parts.nodes x.parts.listings (edit c) o → is_same_path c.o.path o.path ≡ false
  unspelled o s = unlike x.parts.nodes c.o.path o.path c.number s.number d.parts.copying.number_is s.number_is (λ e. away s.number s.stays (sym e))

  pub moves : MovesAllPaths move c.o.path (new_path c)
  moves = record {
    no_root = path.some x.parts.nodes y x.parts.listings c h cs;
    none_goes = refl;
    none_comes = refl;
    paths = λ o s. ap (λ (p : Object). p.path) (stays_as o s) ∙ sym (its_path o s.among (unspelled o s));
    others = unspelled;
    moving = of_one (λ (o : Object). MovesNode c.o.path (new_path c) o (copied c o)) c.o
        (record {
          path = ap (λ (p : Object). p.path) copy_is ∙ sym (moved_itself c.o.path (new_path c) c.o.path refl);
          name = ap (λ (p : Object). p.entry.name) copy_is ∙ sym (ap (λ (b : Bool). cond b (last_name (new_path c)) c.o.entry.name) (itself c.o.path) ∙ last_pushed c.l.object.path c.name);
          attrs = ap (λ (p : Object). p.entry.attrs) copy_is;
          load = ap (λ (p : Object). p.entry.load) copy_is;
          exec = ap (λ (p : Object). p.entry.exec) copy_is;
        });
  }

  -- the tree of the model
  pub tree_now : (found : List Listing) → IsMove x.image x.image' y y' x.parts.listings found c.o.path (new_path c)
      → tree_of x.image' y' found ≡ changed (tree_of x.image y x.parts.listings) (Command.Rename d.from d.to)
  tree_now found is_move =
      command_law.rename x.image x.image' y y' x.parts.listings found d.from d.to c.o.path (new_path c) is_move d.its.from_is d.its.to_is (d.its.name_is ∙ sym (last_pushed c.l.object.path c.name))
