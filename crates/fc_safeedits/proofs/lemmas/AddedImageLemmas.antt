-- The image after `save`, `create` and `cdir` in the safe mode.
use Rattle.std.proofs.Common.{◌≡◌, inl, ⊎_elim, ℕ, List, [], ◌∷◌, length, map, refl, sym, ap, subst, ◌∙◌, Option, None}
use Rattle.std.specs.Prelude.{Contains, Ok}
use Rattle.std.specs.Option.{option_map_or}
use Rattle.std.proofs.lemmas.List.Sorted.{IsPermutation-refl}
use Rattle.fc_model.specs.Answer.{changed}
use Rattle.fc_model.specs.Command.{Command}
use Rattle.fc_dirs.specs.declared.Entry.{Entry}
use Rattle.fc_image.specs.Commanded.{AreAt, IsFileMade}
use Rattle.fc_image.specs.Layout.{Layout, dir_form}
use Rattle.fc_image.specs.Walk.{Listing, Object, object_bytes, reader_of}
use Rattle.fc_image.specs.Objects.{tree_of}
use Rattle.fc_image.specs.Moves.{object_in}
use Rattle.fc_image.specs.TreeEdits.{IsObjectEdit}
use Rattle.fc_image.specs.effects.Steady.{AreWritten}
use Rattle.fc_image.proofs.CommandLemmas.{command_law}
use Rattle.fc_tree.specs.Agree.{HasForm}
use Rattle.fc_tree.proofs.MemberLemmas.{contains_here, from_map, no_element}
use Rattle.fc_laws.specs.nodes.Laws.{IsHeld}
use Rattle.fc_edits.specs.Addition.{Addition, ComesAlone, amended, leaves, over_it}
use Rattle.fc_edits.specs.Edit.{Amended, objects}
use Rattle.fc_edits.proofs.lemmas.AdditionLemmas as memory
use Rattle.fc_edits.proofs.lemmas.ShapeLemmas.{of_one}
use Rattle.fc_outcomes.specs.Addition.{HasEntry, IsItsDirectory, IsItsFile}
use Rattle.fc_outcomes.proofs.lemmas.JoinedLemmas as joined
use Rattle.fc_safelaws.specs.Relaid.{AreCopied}
use Rattle.fc_safeedits.specs.Relocation.{Relocation, turned_in}
use Rattle.fc_safeedits.specs.SafeChange.{SafeChange, moves_in}
use Rattle.fc_safeedits.specs.SafeImage.{IsSafeWritten, KeepsAllPaths, SafeImage}
use Rattle.fc_safeedits.proofs.lemmas.LaidLemmas.{laid_there}
use Rattle.fc_safeedits.proofs.lemmas.RelocatedLemmas.{turned_entry}
use Rattle.fc_safeedits.proofs.lemmas.SafeChangeLemmas.{form_same, held, says_there}
use Rattle.fc_safeedits.specs.SafeAddition.{SafeAddition}
use Rattle.fc_safeedits.proofs.lemmas.AddedPartsLemmas as m_

module _ (d : SafeAddition) where
  abbrev x : SafeChange
  x = d.x

  abbrev c : Addition
  c = d.parts.c

  abbrev y : Layout
  y = Layout.New x.parts.m

  abbrev y' : Layout
  y' = Layout.New x.parts.m'

  pub h : IsHeld x.parts.nodes y x.parts.listings
  h = held x.parts

  abbrev pub move : Relocation
  move = m_.move x.parts d.parts

  -- its directory at its new place
  pub dir_now : turned_in move c.l.object ≡ object_in y' c.l.object
  dir_now = laid_there x.parts.m' (moves_in x.parts) c.l.object d.parts.moves

  pub dir_written : AreWritten (object_bytes x.image' y' (turned_in move c.l.object)) c.content
  dir_written = subst (λ (bs : List ℕ). AreWritten bs c.content) (sym (ap (object_bytes x.image' y') dir_now ∙ d.there)) d.joins.written

  pub dir_says : reader_of x.image' y' (turned_in move c.l.object) ≡ Ok c.content
  dir_says =
      says_there x (turned_in move c.l.object) c.content d.bytes
      (record { form = subst (λ (e : Entry). HasForm (dir_form y) e.len c.content) (sym (turned_entry move c.l.object)) d.parts.addition.can.form; body = d.parts.addition.can.body })
      d.joins.written (ap (object_bytes x.image' y') dir_now ∙ d.there)

  -- and a directory that comes
  comes_say : (k : Listing) → Contains c.into k → reader_of x.image' y' k.object ≡ Ok k.content
  comes_say k at =
      let is = memory.own_listed y c.into c.o d.parts.addition.alone k at in
      subst (λ (o : Object). reader_of x.image' y' o ≡ Ok k.content) (sym is.object) (says_there x c.o k.content d.stored is.can (d.joins.own k at) d.stored_there)

  pub there : IsSafeWritten move x.written x.image x.image'
  there = record {
    changes = x.changes;
    free = x.free;
    says = of_one (λ (a : Amended). reader_of x.image' y' (turned_in move a.was.object) ≡ Ok a.content) (amended c) dir_says;
    into_say = λ p at.
        (let k = from_map (λ (q : Listing). (c.number, q)) c.into p at in
        subst (λ (q : ℕ × Listing). reader_of x.image' y' q.1.object ≡ Ok q.1.content) k.2 (comes_say k.0 k.1));
    copied = λ o s m other. subst (λ (p : Object). AreCopied x.parts.m.geometry.sector x.image x.image' o.sectors p.sectors) (sym (laid_there x.parts.m' (moves_in x.parts) o m))
        (d.copied o s m (other (amended c) (contains_here (amended c) [])));
    copied_too = λ o at. absurd (no_element o at);
  }

  abbrev pub image : SafeImage
  image = record {
    parts = m_.parts x.parts d.parts;
    r = x.r;
    image = x.image;
    image' = x.image';
    written = x.written;
    new_kind = x.new_kind;
    opens = x.opens;
    bodies = λ o at. absurd (no_element o at);
    is_written = there;
    chosen = x.chosen;
    root_is = inl (record { record_stays = d.record_stays; stays = record { leaves = refl; joins = refl; keeps = record { entry = refl; sectors = refl } } });
  }

  pub keeps : KeepsAllPaths move []
  keeps = record { paths = λ o s. refl; steady = []; moving = IsPermutation-refl {X = Object} []; kept = λ o at. absurd (no_element o at) }

  -- ---- the tree of the model

  pub form : dir_form y' ≡ dir_form y
  form = form_same x.parts

  module _ (found : List Listing) (edited : IsObjectEdit x.image x.image' y y' x.parts.listings found (objects (leaves c)) (c.o ∷ [])) where
    by_file : (load exec : ℕ) → IsItsFile d.command d.path load exec c d.stored → tree_of x.image' y' found ≡ changed (tree_of x.image y x.parts.listings) d.command
    by_file load exec f =
        ⊎_elim
        (λ is. command_law.save x.image x.image' y y' x.parts.listings found d.path load exec d.stored (objects (leaves c)) c.o edited stood made ∙ ap (changed (tree_of x.image y x.parts.listings)) (sym is))
        (λ is.
        command_law.create x.image x.image' y y' x.parts.listings found d.path load exec (length d.stored) (objects (leaves c)) c.o edited stood
        (subst (λ (bs : List ℕ). IsFileMade x.image' y' x.parts.listings d.path load exec bs c.o) is.1 made) ∙ ap (changed (tree_of x.image y x.parts.listings)) (sym is.0)) f.makes
      where
        stood : AreAt d.path (objects (leaves c))
        stood = joined.stood_at x.parts.nodes x.parts.nodes' y y' x.parts.listings c h d.parts.addition d.parts.nodes_edited d.command d.path d.bytes d.stored x.image x.image' d.joins form

        made : IsFileMade x.image' y' x.parts.listings d.path load exec d.stored c.o
        made = record {
          at_path = d.joins.path_is;
          name = joined.its_name x.parts.nodes x.parts.nodes' y y' x.parts.listings c h d.parts.addition d.parts.nodes_edited d.command d.path d.bytes d.stored x.image x.image' d.joins form;
          attrs = f.attrs ∙ sym (ap (λ (q : Option Object). option_map_or (λ (p : Object). p.entry.attrs) q 3) d.joins.stood);
          load_word = f.load_word;
          exec_word = f.exec_word;
          file = subst (λ (ks : List Listing). ComesAlone y ks c.o) f.alone d.parts.addition.alone;
          content = d.stored_there;
        }

    by_directory : (k : Listing) → IsItsDirectory d.path y c k → d.command ≡ Command.Cdir d.path → tree_of x.image' y' found ≡ changed (tree_of x.image y x.parts.listings) d.command
    by_directory k is cdir =
        let nothing : over_it c ≡ None = ap (λ (os : List Object). over_it (record c { over = os })) is.new in
        command_law.cdir x.image x.image' y y' x.parts.listings found d.path c.o
        (subst (λ (os : List Object). IsObjectEdit x.image x.image' y y' x.parts.listings found (objects (map (λ (p : Object). (c.number, p)) os)) (c.o ∷ [])) is.new edited)
        (record { at_path = d.joins.path_is; name = (subst (λ (q : Option Object). HasEntry q d.path c) nothing d.joins.entry).1; attrs = is.attrs; load = is.load; exec = is.exec })
        ∙ ap (changed (tree_of x.image y x.parts.listings)) (sym cdir)

    pub tree_now : tree_of x.image' y' found ≡ changed (tree_of x.image y x.parts.listings) d.command
    tree_now = ⊎_elim (λ f. by_file f.0 f.1 f.2) (λ k. by_directory k.0 k.1 k.2) d.is_its
