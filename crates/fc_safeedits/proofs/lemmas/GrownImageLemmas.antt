-- The image after `save`, `create` and `cdir` in a directory that grows, in the safe mode.
use Rattle.std.proofs.Common.{◌≡◌, ◌⊎◌, ⊎_elim, ℕ, true, List, [], ◌∷◌, ◌++◌, length, map, refl, sym, ap, subst, ◌∙◌, Option, None, Some}
use Rattle.std.specs.Prelude.{Contains, IsPermutation, Ok}
use Rattle.std.specs.Option.{option_map_or}
use Rattle.std.proofs.lemmas.List.Sorted.{IsPermutation-refl}
use Rattle.fc_model.specs.Answer.{changed}
use Rattle.fc_model.specs.Command.{Command}
use Rattle.fc_model.specs.Tree.{last_name}
use Rattle.fc_image.specs.Commanded.{IsFileMade}
use Rattle.fc_image.specs.Layout.{Layout}
use Rattle.fc_image.specs.Walk.{Listing, Object, object_bytes, reader_of}
use Rattle.fc_image.specs.Objects.{tree_of}
use Rattle.fc_image.specs.TreeEdits.{IsObjectEdit}
use Rattle.fc_image.specs.effects.Steady.{AreWritten}
use Rattle.fc_image.proofs.CommandLemmas.{command_law}
use Rattle.fc_image.proofs.EntriesLemmas.{later as contains_later, cases as contains_cases}
use Rattle.fc_tree.proofs.MemberLemmas.{contains_here, from_map, no_element}
use Rattle.fc_laws.specs.nodes.Laws.{IsHeld}
use Rattle.fc_edits.specs.Addition.{Addition, ComesAlone, amended, edit, leaves, over_it}
use Rattle.fc_edits.specs.Edit.{Amended, Edit, objects}
use Rattle.fc_edits.specs.Growing.{EditGrowing, Growing, Holder, Holds, IsHeldBy, amended_by, amended_first, grown_by, holding, told}
use Rattle.fc_edits.proofs.lemmas.AdditionLemmas as memory
use Rattle.fc_edits.proofs.lemmas.AroundLemmas as ar
use Rattle.fc_edits.proofs.lemmas.GrowingLemmas as growing
use Rattle.fc_edits.proofs.lemmas.ShapeLemmas.{only}
use Rattle.fc_outcomes.specs.Addition.{IsItsFile}
use Rattle.fc_outcomes.specs.GrownAddition.{IsItsGrownDirectory}
use Rattle.fc_safelaws.specs.Relaid.{AreCopied}
use Rattle.fc_safeedits.specs.Relocation.{Relocation, is_moved, turned_in}
use Rattle.fc_safeedits.specs.SafeChange.{SafeChange, moves_in}
use Rattle.fc_safeedits.specs.SafeImage.{CopiesBody, IsSafeWritten, IsUnamended, KeepsAllPaths, KeepsBody, KeepsNode, SafeImage}
use Rattle.fc_safeedits.proofs.lemmas.SafeChangeLemmas.{says_there}
use Rattle.fc_safeedits.specs.SafeGrownAddition.{SafeGrownAddition}
use Rattle.fc_safeedits.proofs.lemmas.GrowingImageLemmas as g_
use Rattle.fc_safeedits.proofs.lemmas.GrowingPlacesLemmas as p_
use Rattle.fc_safeedits.proofs.lemmas.GrowingPlacesLemmas.{SafeGrowing}
use Rattle.fc_safeedits.proofs.lemmas.GrownPartsLemmas as m_

module _ (d : SafeGrownAddition) where
  abbrev x : SafeChange
  x = d.x

  abbrev c : Addition
  c = d.parts.c

  abbrev g : Growing
  g = d.parts.growing

  abbrev y : Layout
  y = Layout.New x.parts.m

  abbrev y' : Layout
  y' = Layout.New x.parts.m'

  abbrev pub q : SafeGrowing d.x.parts
  q = m_.grows d.x.parts d.parts

  abbrev pub h : IsHeld d.x.parts.nodes (Layout.New d.x.parts.m) d.x.parts.listings
  h = p_.h d.x.parts q

  abbrev pub eg : EditGrowing
  eg = p_.eg d.x.parts q

  abbrev pub e' : Edit
  e' = p_.e' d.x.parts q

  abbrev pub move : Relocation
  move = p_.move d.x.parts q

  -- ---- the directory in which the object comes

  -- it doesn't hold itself: something joins it
  pub not_it : (hd : Holder) → Holds g hd → amended c ≡ hd.amended → ⊥
  not_it hd hs its = no_element (c.number, c.o) (subst (λ (ps : List (ℕ × Object)). Contains ps (c.number, c.o)) (ap (λ (b : Amended). b.join) its ∙ hs.none_join) (contains_here (c.number, c.o) []))

  pub its_amended : Contains e'.amended (amended c)
  its_amended = by g.holder d.parts.grows.amended_is d.parts.grows.held
    where
      by : (q : Option Holder) → IsPermutation ((edit c).amended ++ map (told (edit c)) g.again) (amended_first q g.others) → IsHeldBy g q → Contains (amended_by (edit c) g q) (amended c)
      by None cut at_top = ar.still_amended eg None cut (amended c) (contains_here (amended c) [])
      by (Some hd) cut hs =
          ⊎_elim (λ same. absurd (not_it hd hs (sym same))) (λ later. contains_later (holding (edit c) g hd) (amended c) g.others later)
          (contains_cases hd.amended (amended c) g.others (ar.still_amended eg (Some hd) cut (amended c) (contains_here (amended c) [])))

  -- it alone moves or gets another entry
  pub moving_is : (P : Object → Type 0) → P g.o → (o : Object) → Contains (objects e'.moving) o → P o
  moving_is P its o at = by g.holder at
    where
      by : (q : Option Holder) → Contains (objects (grown_by (edit c) g q).moving) o → P o
      by None there = absurd (no_element o there)
      by (Some hd) there = subst P (only g.o o there) its

  -- ---- what is written

  pub dir_written : (a : Amended) → Contains e'.amended a → AreWritten (object_bytes x.image' y' (turned_in move a.was.object)) a.content
  dir_written = g_.dir_written x q d.parts.moves d.there

  -- and a directory that comes
  comes_say : (k : Listing) → Contains c.into k → reader_of x.image' y' k.object ≡ Ok k.content
  comes_say k at =
      let is = memory.own_listed y c.into c.o d.parts.comes.alone k at in
      subst (λ (o : Object). reader_of x.image' y' o ≡ Ok k.content) (sym is.object) (says_there x c.o k.content d.stored is.can (d.own k at) d.stored_there)

  pub there : IsSafeWritten move x.written x.image x.image'
  there = record {
    changes = x.changes;
    free = x.free;
    says = g_.dir_says x q d.parts.moves d.there;
    into_say = λ p at.
        (let k = from_map (λ (q : Listing). (c.number, q)) c.into p at in
        subst (λ (q : ℕ × Listing). reader_of x.image' y' q.1.object ≡ Ok q.1.content) k.2 (comes_say k.0 k.1));
    copied = λ o s m other. subst (λ (p : Object). AreCopied x.parts.m.geometry.sector x.image x.image' o.sectors p.sectors) (sym (g_.still_now x q o (g_.unlike_it x q o s) m)) (d.copied o s m other);
    copied_too = moving_is
        (λ (o : Object). is_moved (moves_in x.parts) (e'.turn o) ≡ true → IsUnamended e' o → AreCopied x.parts.m.geometry.sector x.image x.image' o.sectors (turned_in move o).sectors)
        (λ m other. g_.says_else x q other);
  }

  abbrev pub image : SafeImage
  image = record {
    parts = p_.parts d.x.parts q;
    r = x.r;
    image = x.image;
    image' = x.image';
    written = x.written;
    new_kind = x.new_kind;
    opens = x.opens;
    bodies = moving_is (λ (o : Object). IsUnamended e' o → KeepsBody move o ⊎ CopiesBody move x.image x.image' o) (λ other. g_.says_else d.x q other);
    is_written = there;
    chosen = x.chosen;
    root_is = g_.root_now d.x q d.recorded;
  }

  pub keeps : KeepsAllPaths move []
  keeps = record {
    paths = λ o s. growing.its_path eg o;
    steady = objects e'.moving;
    moving = IsPermutation-refl (objects e'.moving);
    kept = moving_is (λ (o : Object). KeepsNode o (e'.turn o)) (subst (KeepsNode g.o) (sym (growing.its_turn eg)) (record { path = refl; name = refl; attrs = refl; load = refl; exec = refl }));
  }

  -- ---- the tree of the model

  module _ (found : List Listing) (edited : IsObjectEdit x.image x.image' y y' x.parts.listings found (objects (leaves c)) (c.o ∷ [])) where
    alone : IsObjectEdit x.image x.image' y y' x.parts.listings found [] (c.o ∷ [])
    alone = subst (λ (os : List Object). IsObjectEdit x.image x.image' y y' x.parts.listings found (objects (map (λ (p : Object). (c.number, p)) os)) (c.o ∷ [])) d.parts.new edited

    by_file : (load exec : ℕ) → IsItsFile d.command d.path load exec c d.stored → tree_of x.image' y' found ≡ changed (tree_of x.image y x.parts.listings) d.command
    by_file load exec f =
        ⊎_elim
        (λ is. command_law.save x.image x.image' y y' x.parts.listings found d.path load exec d.stored [] c.o alone tt made ∙ ap (changed (tree_of x.image y x.parts.listings)) (sym is))
        (λ is.
        command_law.create x.image x.image' y y' x.parts.listings found d.path load exec (length d.stored) [] c.o alone tt
        (subst (λ (bs : List ℕ). IsFileMade x.image' y' x.parts.listings d.path load exec bs c.o) is.1 made) ∙ ap (changed (tree_of x.image y x.parts.listings)) (sym is.0)) f.makes
      where
        none_over : over_it c ≡ None
        none_over = ap (λ (os : List Object). over_it (record c { over = os })) d.parts.new

        made : IsFileMade x.image' y' x.parts.listings d.path load exec d.stored c.o
        made = record {
          at_path = d.path_is;
          name = d.entry.1 ∙ sym (ap (λ (q : Option Object). option_map_or (λ (p : Object). p.entry.name) q (last_name d.path)) d.stood);
          attrs = f.attrs ∙ ap (λ (q : Option Object). option_map_or (λ (p : Object). p.entry.attrs) q 3) none_over
              ∙ sym (ap (λ (q : Option Object). option_map_or (λ (p : Object). p.entry.attrs) q 3) d.stood);
          load_word = f.load_word;
          exec_word = f.exec_word;
          file = subst (λ (ks : List Listing). ComesAlone y ks c.o) f.alone d.parts.comes.alone;
          content = d.stored_there;
        }

    by_directory : (k : Listing) → IsItsGrownDirectory d.path y c g k → d.command ≡ Command.Cdir d.path → tree_of x.image' y' found ≡ changed (tree_of x.image y x.parts.listings) d.command
    by_directory k is cdir =
        command_law.cdir x.image x.image' y y' x.parts.listings found d.path c.o alone
        (record { at_path = d.path_is; name = d.entry.1; attrs = is.attrs; load = is.load; exec = is.exec }) ∙ ap (changed (tree_of x.image y x.parts.listings)) (sym cdir)

    pub tree_now : tree_of x.image' y' found ≡ changed (tree_of x.image y x.parts.listings) d.command
    tree_now = ⊎_elim (λ f. by_file f.0 f.1 f.2) (λ k. by_directory k.0 k.1 k.2) d.is_its
