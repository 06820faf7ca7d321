-- `delete` in the safe mode.
use Rattle.std.proofs.Common.{◌≡◌, inl, ℕ, Bool, true, false, not, cond, ◌&&◌, ◌||◌, List, [], map, refl, sym, ap, subst, ◌∙◌, arith}
use Rattle.std.specs.Prelude.{Contains, IsPermutation, Ok}
use Rattle.std.proofs.lemmas.List.{append-nil}
use Rattle.std.proofs.lemmas.List.Sorted.{IsPermutation-refl}
use Rattle.fc_names.specs.Names.{is_same_path}
use Rattle.fc_model.specs.Command.{Command}
use Rattle.fc_model.specs.Answer.{changed}
use Rattle.fc_model.specs.Tree.{holder, last_name}
use Rattle.fc_dirs.specs.declared.Entry.{Entry}
use Rattle.fc_dirs.specs.Directory.{entries_of}
use Rattle.fc_image.specs.Layout.{Layout, dir_form}
use Rattle.fc_image.specs.Walk.{Listing, Object, is_directory_object, object_bytes, reader_of}
use Rattle.fc_image.specs.Objects.{tree_of}
use Rattle.fc_image.specs.Opening.{Opened}
use Rattle.fc_image.specs.Report.{holder_address}
use Rattle.fc_image.specs.Sound.{AreSound}
use Rattle.fc_image.specs.Moves.{object_in}
use Rattle.fc_image.specs.effects.Steady.{AreWritten, IsRewritten, has_grown, has_new_holder, is_gone, without_name}
use Rattle.fc_image.specs.safe.SafeEffect.{HasTree}
use Rattle.fc_image.specs.safe.SafeShort.{changed_ids}
use Rattle.fc_image.specs.safe.SafeSteady.{AreLeast, HaveRuns}
use Rattle.fc_image.proofs.CommandLemmas.{command_law}
use Rattle.fc_image.proofs.PathsLemmas.{itself}
use Rattle.fc_tree.proofs.MemberLemmas.{contains_here, no_element}
use Rattle.fc_tree.proofs.WalkedLemmas.{child_path}
use Rattle.fc_changes.proofs.DirectoriesLemmas.{plain_delete}
use Rattle.fc_changes.proofs.ReadsLemmas.{LiesIn, lies_in}
use Rattle.fc_tree.specs.Agree.{HasForm}
use Rattle.fc_laws.specs.nodes.Laws.{IsHeld}
use Rattle.fc_laws.specs.agree.Agreed.{parts_with}
use Rattle.fc_edits.specs.Deletion.{Deletion, amended, edit}
use Rattle.fc_edits.specs.Edit.{Amended, listings_after, now}
use Rattle.fc_edits.proofs.lemmas.DeletionLemmas as memory
use Rattle.fc_edits.proofs.lemmas.NumberLemmas as n_
use Rattle.fc_edits.proofs.lemmas.ShapeLemmas.{of_one}
use Rattle.fc_outcomes.proofs.lemmas.SteadyLemmas.{holder_same, plain_asks, unnamed, written_asks}
use Rattle.fc_safelaws.specs.Relaid.{AreCopied}
use Rattle.fc_safeedits.specs.Relocation.{Relocation, amended_in, relocated, told_again, turned_in, unmoved}
use Rattle.fc_safeedits.specs.SafeChange.{IsWholeMap, SafeChange, TakesForChanged, moves_in, view_before}
use Rattle.fc_safeedits.specs.SafeDeletion.{SafeDeletion, SafeDeletionLaw}
use Rattle.fc_safeedits.specs.SafeImage.{IsSafeWritten, KeepsAllPaths, SafeImage}
use Rattle.fc_safeedits.specs.SafeOutcome.{AreSafelyAsked, IsAskedAnew, IsSafeSpaceAsked, IsSafelyDone, SafeOutcome, is_now}
use Rattle.fc_safeedits.proofs.lemmas.AlongLemmas.{ne'}
use Rattle.fc_safeedits.proofs.lemmas.DeletedPartsLemmas as in_memory
use Rattle.fc_safeedits.proofs.lemmas.LaidLemmas.{laid_there}
use Rattle.fc_safeedits.proofs.lemmas.RelocatedLemmas.{turned_entry, turned_path}
use Rattle.fc_safeedits.proofs.lemmas.SafeChangeLemmas.{IsQuiet, held, says_there, zones_same}
use Rattle.fc_safeedits.proofs.lemmas.SafeOutcomeLemmas.{safe_outcome_law}
use Rattle.fc_outcomes.proofs.lemmas.DeletedLemmas.{goes_at}

pub none_and : (a b : Bool) → (a && false && b) ≡ false
none_and true b = refl
none_and false b = refl

module _ (d : SafeDeletion) where
  abbrev x : SafeChange
  x = d.x

  abbrev c : Deletion
  c = d.parts.c

  abbrev y : Layout
  y = Layout.New x.parts.m

  abbrev y' : Layout
  y' = Layout.New x.parts.m'

  abbrev command : Command
  command = Command.Delete d.path

  h : IsHeld x.parts.nodes y x.parts.listings
  h = held x.parts

  abbrev move : Relocation
  move = in_memory.move x.parts d.parts

  -- its directory at its new place
  dir_now : turned_in move c.l.object ≡ object_in y' c.l.object
  dir_now = laid_there x.parts.m' (moves_in x.parts) c.l.object d.parts.moves

  dir_written : AreWritten (object_bytes x.image' y' (turned_in move c.l.object)) c.content
  dir_written = subst (λ (bs : List ℕ). AreWritten bs c.content) (sym (ap (object_bytes x.image' y') dir_now ∙ d.there)) d.leaves.written

  dir_says : reader_of x.image' y' (turned_in move c.l.object) ≡ Ok c.content
  dir_says =
      says_there x (turned_in move c.l.object) c.content d.bytes
      (record { form = subst (λ (e : Entry). HasForm (dir_form y) e.len c.content) (sym (turned_entry move c.l.object)) d.parts.deletion.can.form; body = d.parts.deletion.can.body })
      d.leaves.written (ap (object_bytes x.image' y') dir_now ∙ d.there)

  there : IsSafeWritten move x.written x.image x.image'
  there = record {
    changes = x.changes;
    free = x.free;
    says = of_one (λ (a : Amended). reader_of x.image' y' (turned_in move a.was.object) ≡ Ok a.content) (amended c) dir_says;
    into_say = λ k at. absurd (no_element k at);
    copied = λ o s m other. subst (λ (p : Object). AreCopied x.parts.m.geometry.sector x.image x.image' o.sectors p.sectors) (sym (laid_there x.parts.m' (moves_in x.parts) o m))
        (d.copied o s m (other (amended c) (contains_here (amended c) [])));
    copied_too = λ o at. absurd (no_element o at);
  }

  abbrev image : SafeImage
  image = record {
    parts = in_memory.parts x.parts d.parts;
    r = x.r;
    image = x.image;
    image' = x.image';
    written = x.written;
    new_kind = x.new_kind;
    opens = x.opens;
    bodies = λ o at. absurd (no_element o at);
    is_written = there;
    chosen = x.chosen;
    root_is = inl (record { record_stays = d.record_stays; stays = record { leaves = refl; joins = refl; keeps = record { entry = refl; sectors = refl } } });
  }

  keeps : KeepsAllPaths move []
  keeps = record { paths = λ o s. refl; steady = []; moving = IsPermutation-refl {X = Object} []; kept = λ o at. absurd (no_element o at) }

  pub tree' : HasTree x.parts.kind (changed (tree_of x.image y x.parts.listings) command) x.image'
  tree' =
      safe_outcome_law.kept_tree image [] (changed (tree_of x.image y x.parts.listings) command) keeps
      (λ found edited. command_law.delete x.image x.image' y y' x.parts.listings found d.path c.o edited d.leaves.path_is)

  -- ---- what the command asks

  l_in : Contains x.parts.listings c.l
  l_in = memory.l_in x.parts.nodes y x.parts.listings c h d.parts.deletion

  lies : LiesIn d.path c.l.object.path c.o.entry.name
  lies = lies_in d.path c.l.object.path c.o.entry.name (ap (is_same_path d.path) (sym (child_path y x.parts.listings h.sound c.l c.o l_in (memory.kid_in x.parts.nodes y x.parts.listings c h d.parts.deletion))) ∙ d.leaves.path_is)

  other : (k : Listing) → Contains c.rest k → is_same_path (holder d.path) k.object.path ≡ false
  other k at = unnamed (unmoved move) d.path c.l k c.dir l_in d.parts.deletion.dir_is (contains_here c.dir []) lies.holds at

  asked : (found : List Listing) → AreSound y' found → IsPermutation (listings_after (relocated move)) found → AreSafelyAsked image command found
  asked found sound order =
      let v : Opened = view_before x.parts in
      let w : Opened = is_now image found in
      let b : Amended = amended_in move (amended c) in
      let among : Contains (relocated move).amended b = contains_here b (map (amended_in move) (map (told_again move) c.rest)) in
      let stays : holder_address found (turned_in move c.l.object).path ≡ holder_address x.parts.listings c.l.object.path =
      ap (holder_address found) (turned_path move c.l.object)
      ∙ holder_same (ne' move) y' found sound order (λ o at. (turned_path move o, ap (λ (e : Entry). e.address) (turned_entry move o))) c.l (n_.was_in (ne' move) b among) in
      let says : IsRewritten command c.l.object.path (holder_address found (turned_in move c.l.object).path) c.l.content c.content =
      subst (λ (n : ℕ). IsRewritten command c.l.object.path n c.l.content c.content) (sym stays) d.leaves.says in
      let full = written_asks x.image x.image' v w command c.l (now (relocated move) b) (plain_delete d.path) refl lies.holds
      (d.leaves.entries ∙ sym (ap (λ (t : Bool). cond t (without_name (last_name d.path) (entries_of c.l.content)) (entries_of c.l.content)) lies.holds)) says dir_written in
      record {
        out = goes_at d.path c.out c.o d.parts.deletion.alone d.leaves.path_is;
        paths = λ k at. itself k.object.path;
        amended = of_one (IsAskedAnew image command found) (amended c)
            (record {
              entries = full.entries;
              may = ap (λ (t : Bool). t || false || has_grown v command c.l.object.path || has_new_holder v command c.l.object.path) lies.holds;
              says = says;
              bytes = dir_written;
            });
        same = λ k at. plain_asks v w command (edit c) k (plain_delete d.path) refl (other k at);
        all = λ k at. ap (λ (t : Bool). is_directory_object k.object && (t || false || false || false) && not (is_gone command k.object.path)) (other k at)
            ∙ none_and (is_directory_object k.object) (not (is_gone command k.object.path));
      }

  quiet : IsQuiet x.parts.m (view_before x.parts) command
  quiet = record {
    needs = λ w. append-nil (changed_ids x.parts.m (view_before x.parts) command);
    news = λ w. refl;
    object = λ m' w some. absurd (omega (arith, some));
    grown = λ w. tt;
  }

  space : (found : List Listing) → TakesForChanged x.parts command → IsSafeSpaceAsked image command found
  space found t =
      let w : Opened = is_now image found in
      record {
        parts = t.parts;
        fitted = t.fitted;
        takes = t.takes;
        ids = t.ids ∙ sym (quiet.needs w);
        fresh = λ k taken unused. absurd (let used = t.used k taken in cc);
        needs_met = subst (λ (ns : List ℕ). HaveRuns x.parts.m' ns t.parts) (sym (quiet.needs w)) t.needs_met;
        least = subst (AreLeast x.parts.m) (sym (quiet.news w)) refl;
        object = quiet.object x.parts.m' w;
        grown = quiet.grown w;
        back = t.back;
      }

  done : TakesForChanged x.parts command → IsWholeMap x → IsSafelyDone image command
  done t whole = record {
    copies = whole.copies;
    links = whole.links;
    asked = λ found sound order. record {
      directories = asked found sound order;
      space = space found t;
      named = tt;
      entry = tt;
      made = tt;
      empty = λ none. absurd (cc);
      zones = zones_same (view_before x.parts) (is_now image found) command x.parts.m x.parts.m' refl whole.zones;
    };
  }

  pub outcome' : TakesForChanged x.parts command → IsWholeMap x → SafeOutcome x.parts.kind x.image x.image' (view_before x.parts) command (parts_with x.parts.m' x.parts.nodes' x.parts.owners')
  outcome' t whole =
      safe_outcome_law.kept image command [] keeps (done t whole)
      (λ found edited. command_law.delete x.image x.image' y y' x.parts.listings found d.path c.o edited d.leaves.path_is)

pub safe_deletion_law : SafeDeletionLaw
safe_deletion_law = record { agrees = λ x d. in_memory.agrees' x d; tree = λ d. tree' d; outcome = λ d t whole. outcome' d t whole }
