-- The image after `rename` that copies its file into a directory that grows by it, in the safe mode.
use Rattle.std.proofs.Common.{◌≡◌, ◌⊎◌, inr, ⊎_elim, ℕ, Bool, true, false, cond, List, [], ◌∷◌, refl, sym, ap, subst, ◌∙◌, Option, None, Some}
use Rattle.std.specs.Prelude.{Contains}
use Rattle.fc_names.specs.Names.{is_same_path}
use Rattle.fc_model.specs.Answer.{changed}
use Rattle.fc_model.specs.Command.{Command}
use Rattle.fc_model.specs.Tree.{last_name}
use Rattle.fc_image.specs.Layout.{Layout, dir_form}
use Rattle.fc_image.specs.Walk.{Listing, Object, object_bytes, object_size}
use Rattle.fc_image.specs.Objects.{objects_of, tree_of}
use Rattle.fc_image.specs.Commanded.{moved_path}
use Rattle.fc_image.specs.Moves.{object_in}
use Rattle.fc_image.specs.TreeEdits.{IsMove}
use Rattle.fc_image.specs.effects.Steady.{AreWritten}
use Rattle.fc_image.proofs.CommandLemmas.{command_law}
use Rattle.fc_image.proofs.EntriesLemmas.{cases as contains_cases}
use Rattle.fc_image.proofs.PathsLemmas.{itself}
use Rattle.fc_image.proofs.RenameLemmas.{last_pushed, moved_itself}
use Rattle.fc_tree.proofs.MemberLemmas.{contains_here, no_element}
use Rattle.fc_laws.specs.nodes.Laws.{IsHeld}
use Rattle.fc_laws.proofs.lemmas.nodes.OtherLemmas.{unlike}
use Rattle.fc_edits.specs.Copying.{Copies, Copying, copied, edit, new_path}
use Rattle.fc_edits.specs.Edit.{Amended, Edit, leaving, numbers, objects}
use Rattle.fc_edits.specs.Growing.{EditGrowing, Growing, Holder, grown_by}
use Rattle.fc_edits.specs.NodesEdit.{NodesEdit}
use Rattle.fc_edits.specs.Places.{Stays}
use Rattle.fc_edits.proofs.lemmas.CopiesLemmas as memory
use Rattle.fc_edits.proofs.lemmas.GrowingLemmas as growing
use Rattle.fc_edits.proofs.lemmas.GrownMemberLemmas as members
use Rattle.fc_edits.proofs.lemmas.NumberLemmas as n_
use Rattle.fc_edits.proofs.lemmas.ShapeLemmas.{only}
use Rattle.fc_outcomes.proofs.lemmas.CopiedPathLemmas as path
use Rattle.fc_outcomes.proofs.lemmas.RenamePathLemmas.{turned_other}
use Rattle.fc_safelaws.specs.Relaid.{AreCopied}
use Rattle.fc_safeedits.specs.Relocation.{Relocation, is_moved, turned_in, unmoved}
use Rattle.fc_safeedits.specs.SafeChange.{SafeChange, moves_in}
use Rattle.fc_safeedits.specs.SafeImage.{CopiesBody, IsSafeWritten, IsUnamended, KeepsBody, MovesAllPaths, MovesNode, SafeImage}
use Rattle.fc_safeedits.proofs.lemmas.GrowingImageLemmas as g_
use Rattle.fc_safeedits.proofs.lemmas.GrowingPlacesLemmas as p_
use Rattle.fc_safeedits.proofs.lemmas.GrowingPlacesLemmas.{SafeGrowing}
use Rattle.fc_safeedits.specs.SafeGrownCopying.{SafeGrownCopying}
use Rattle.fc_safeedits.proofs.lemmas.GrownCopiedPartsLemmas as m_

module _ (d : SafeGrownCopying) where
  abbrev x : SafeChange
  x = d.x

  abbrev c : Copying
  c = d.parts.c

  abbrev g : Growing
  g = d.parts.growing

  abbrev y : Layout
  y = Layout.New x.parts.m

  abbrev y' : Layout
  y' = Layout.New x.parts.m'

  abbrev cs : Copies x.parts.nodes x.parts.listings c
  cs = d.parts.copies

  abbrev pub q : SafeGrowing d.x.parts
  q = m_.grows d.x.parts d.parts

  abbrev pub h : IsHeld d.x.parts.nodes (Layout.New d.x.parts.m) d.x.parts.listings
  h = p_.h d.x.parts q

  abbrev pub eg : EditGrowing
  eg = p_.eg d.x.parts q

  abbrev pub e' : Edit
  e' = p_.e' d.x.parts q

  abbrev pub move : Relocation
  move = p_.move d.x.parts q

  abbrev ne : NodesEdit
  ne = unmoved move

  -- ---- what moves

  pub copy_is : copied d.parts.c d.parts.c.o ≡ record { path = new_path d.parts.c; entry = record d.parts.c.o.entry { name = d.parts.c.name; address = d.parts.c.address }; sectors = d.parts.c.sectors }
  copy_is = memory.is_copy c

  -- the file becomes what it would without growth
  pub o_turn : (p_.e' d.x.parts (m_.grows d.x.parts d.parts)).turn d.parts.c.o ≡ copied d.parts.c d.parts.c.o
  o_turn = growing.other_turn eg c.o (m_.o_other x.parts d.parts)

  -- the file, and the directory that grows
  pub moving_are : (P : Object → Type 0) → P d.parts.growing.o → P d.parts.c.o → (o : Object) → Contains (objects (p_.e' d.x.parts (m_.grows d.x.parts d.parts)).moving) o → P o
  moving_are P its own o at = by g.holder at
    where
      by : (t : Option Holder) → Contains (objects (grown_by (edit c) g t).moving) o → P o
      by None there = subst P (only c.o o there) own
      by (Some hd) there = ⊎_elim (λ same. subst P same its) (λ later. subst P (only c.o o later) own) (contains_cases g.o o (c.o ∷ []) there)

  -- ---- what is as it was

  pub dir_stays : (k : Listing) → Contains d.x.parts.listings k → copied d.parts.c k.object ≡ k.object
  dir_stays = memory.dir_stays x.parts.nodes y x.parts.listings c h cs

  pub was_in : (a : Amended) → Contains (p_.e' d.x.parts (m_.grows d.x.parts d.parts)).amended a → Contains d.x.parts.listings a.was
  was_in a at = n_.stay_in ne a.was (n_.was_in ne a at)

  away : (n : ℕ) → (Contains (numbers (leaving (edit c))) n → ⊥) → n ≡ c.number → ⊥
  away n none e = none (subst (Contains (c.number ∷ [])) (sym e) (contains_here c.number []))

  stays_as : (o : Object) → Stays x.parts.nodes x.parts.listings (edit c) o → copied c o ≡ o
  stays_as o s = memory.stays x.parts.nodes y x.parts.listings c h cs o s.number s.number_is (away s.number s.stays)

  unspelled : (o : Object) → Stays x.parts.nodes x.parts.listings (edit c) o → is_same_path c.o.path o.path ≡ false
  unspelled o s = unlike x.parts.nodes c.o.path o.path c.number s.number cs.number_is s.number_is (λ e. away s.number s.stays (sym e))

  -- ---- what is written

  moves_then : (a : Amended) → Contains e'.amended a → is_same_path g.o.path a.was.object.path ≡ false → is_moved (moves_in x.parts) (copied c a.was.object) ≡ true
  moves_then a at other = ap (is_moved (moves_in x.parts)) (dir_stays a.was (was_in a at)) ∙ d.parts.moves a at other

  pub dir_written : (a : Amended) → Contains (p_.e' d.x.parts (m_.grows d.x.parts d.parts)).amended a
      → AreWritten (object_bytes d.x.image' (Layout.New d.x.parts.m') (turned_in (p_.move d.x.parts (m_.grows d.x.parts d.parts)) a.was.object)) a.content
  dir_written = g_.dir_written x q moves_then d.there

  laid_anew : (o : Object) → Stays x.parts.nodes x.parts.listings e' o → is_moved (moves_in x.parts) o ≡ true → turned_in move o ≡ object_in y' o
  laid_anew o s m =
      let same = stays_as o (members.stayed eg o s) in
      g_.still_now x q o (g_.unlike_it x q o s) (ap (is_moved (moves_in x.parts)) same ∙ m) ∙ ap (object_in y') same

  pub there : IsSafeWritten move x.written x.image x.image'
  there = record {
    changes = x.changes;
    free = x.free;
    says = g_.dir_says x q moves_then d.there;
    into_say = λ k at. absurd (no_element k at);
    copied = λ o s m other. subst (λ (p : Object). AreCopied x.parts.m.geometry.sector x.image x.image' o.sectors p.sectors) (sym (laid_anew o s m)) (d.carried o s m other);
    copied_too = moving_are
        (λ (o : Object). is_moved (moves_in x.parts) (e'.turn o) ≡ true → IsUnamended e' o → AreCopied x.parts.m.geometry.sector x.image x.image' o.sectors (turned_in move o).sectors)
        (λ m other. g_.says_else x q other) (λ m other. m_.never x.parts d.parts (ap (is_moved (moves_in x.parts)) (sym o_turn) ∙ m));
  }

  o_body : CopiesBody move x.image x.image' c.o
  o_body = record {
    elsewhere = ap (is_moved (moves_in x.parts)) o_turn ∙ d.parts.elsewhere;
    size = ap (λ (p : Object). object_size (dir_form y) p.entry) (o_turn ∙ copy_is);
    copied = subst (λ (ss : List ℕ). AreCopied x.parts.m.geometry.sector x.image x.image' c.o.sectors ss) (sym (ap (λ (p : Object). p.sectors) (o_turn ∙ copy_is))) d.stored;
  }

  pub its_bodies : (o : Object) → Contains (objects (p_.e' d.x.parts (m_.grows d.x.parts d.parts)).moving) o → IsUnamended (p_.e' d.x.parts (m_.grows d.x.parts d.parts)) o
      → KeepsBody (p_.move d.x.parts (m_.grows d.x.parts d.parts)) o ⊎ CopiesBody (p_.move d.x.parts (m_.grows d.x.parts d.parts)) d.x.image d.x.image' o
  its_bodies = moving_are (λ (o : Object). IsUnamended e' o → KeepsBody move o ⊎ CopiesBody move x.image x.image' o) (λ other. g_.says_else x q other) (λ other. inr o_body)

  abbrev pub image : SafeImage
  image = record {
    parts = p_.parts d.x.parts q;
    r = x.r;
    image = x.image;
    image' = x.image';
    written = x.written;
    new_kind = x.new_kind;
    opens = x.opens;
    bodies = its_bodies;
    is_written = there;
    chosen = x.chosen;
    root_is = g_.root_now d.x q d.recorded;
  }

  -- ---- paths

  pub dir_other : (k : Listing) → Contains d.x.parts.listings k → is_same_path d.parts.c.o.path k.object.path ≡ false
  dir_other k at = path.dir_other x.parts.nodes y x.parts.listings c h cs k at

  pub its_path : (o : Object) → Contains (objects_of d.x.parts.listings) o → is_same_path d.parts.c.o.path o.path ≡ false → moved_path d.parts.c.o.path (new_path d.parts.c) o.path ≡ o.path
  its_path o at other = path.its_path x.parts.nodes y x.parts.listings c h cs o at other

  pub moves : MovesAllPaths move c.o.path (new_path c)
  moves =
      let g_other : is_same_path c.o.path g.o.path ≡ false = turned_other g.o.path c.o.path (m_.o_other x.parts d.parts) in
      record {
        no_root = path.some x.parts.nodes y x.parts.listings c h cs;
        none_goes = refl;
        none_comes = refl;
        paths = λ o s.
            (let t = members.stayed eg o s in
            growing.its_path eg o ∙ ap (λ (p : Object). p.path) (stays_as o t) ∙ sym (its_path o t.among (unspelled o t)));
        others = λ o s. unspelled o (members.stayed eg o s);
        moving = moving_are (λ (o : Object). MovesNode c.o.path (new_path c) o (e'.turn o))
            (subst (MovesNode c.o.path (new_path c) g.o) (sym (growing.its_turn eg)) (record {
              path = sym (its_path g.o (growing.o_in eg) g_other);
              name = sym (ap (λ (b : Bool). cond b (last_name (new_path c)) g.o.entry.name) g_other);
              attrs = refl;
              load = refl;
              exec = refl;
            }))
            (subst (MovesNode c.o.path (new_path c) c.o) (sym o_turn) (record {
              path = ap (λ (p : Object). p.path) copy_is ∙ sym (moved_itself c.o.path (new_path c) c.o.path refl);
              name = ap (λ (p : Object). p.entry.name) copy_is ∙ sym (ap (λ (b : Bool). cond b (last_name (new_path c)) c.o.entry.name) (itself c.o.path) ∙ last_pushed c.l.object.path c.name);
              attrs = ap (λ (p : Object). p.entry.attrs) copy_is;
              load = ap (λ (p : Object). p.entry.load) copy_is;
              exec = ap (λ (p : Object). p.entry.exec) copy_is;
            }));
      }

  -- the tree of the model
  pub tree_now : (found : List Listing) → IsMove x.image x.image' y y' x.parts.listings found c.o.path (new_path c)
      → tree_of x.image' y' found ≡ changed (tree_of x.image y x.parts.listings) (Command.Rename d.from d.to)
  tree_now found is_move =
      command_law.rename x.image x.image' y y' x.parts.listings found d.from d.to c.o.path (new_path c) is_move d.its.from_is d.its.to_is (d.its.name_is ∙ sym (last_pushed c.l.object.path c.name))
