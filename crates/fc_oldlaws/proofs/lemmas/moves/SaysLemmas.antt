-- What directories say afterwards, by their bytes.
use Rattle.std.proofs.Common.{◌≡◌, ℕ, Bool, true, false, cond, List, [], ◌∷◌, map, refl, sym, ap, ap₂, subst, ◌∙◌}
use Rattle.std.specs.Prelude.{Result, Ok, Contains, ◌==◌}
use Rattle.std.specs.Str.{bytes_eq}
use Rattle.std.proofs.lemmas.Bool.{eqb-true}
use Rattle.std.proofs.lemmas.Slice.Eq.{bytes_eq-Decides}
use Rattle.fc_names.specs.declared.name.NameForm.{NameForm}
use Rattle.fc_dirs.specs.declared.DirFault.{DirFault}
use Rattle.fc_dirs.specs.declared.Entry.{Entry}
use Rattle.fc_dirs.specs.Directory.{Directory, directory_of}
use Rattle.fc_dirs.specs.Small.{SmallDir, next_sequence}
use Rattle.fc_model.specs.Command.{Command}
use Rattle.fc_image.specs.Laws.{Tells}
use Rattle.fc_image.specs.Report.{holder_address}
use Rattle.fc_image.specs.Walk.{Listing, Object, object_bytes, reader_of}
use Rattle.fc_image.proofs.EntriesLemmas.{from_map}
use Rattle.fc_image.specs.effects.Settled.{has_same_places}
use Rattle.fc_image.specs.effects.Steady.{AreWritten, IsRewritten}
use Rattle.fc_changes.proofs.BasicLemmas.{clash}
use Rattle.fc_changes.proofs.ReadsLemmas.{reads_back}
use Rattle.fc_oldlaws.specs.moves.After.{content_after, dir_after, entry_after, form_of, is_steady, listing_after, listings_after, move_of, parent_after, readdressed, sequence_after}
use Rattle.fc_oldlaws.specs.moves.Steps.{IsChanged}
use Rattle.fc_laws.proofs.lemmas.old.agree.FormLemmas.{no_big, not_long}
use Rattle.fc_oldlaws.proofs.lemmas.moves.PlaceLemmas.{says}
use Rattle.fc_oldlaws.proofs.lemmas.moves.BytesLemmas.{Steps, bytes_carried, bytes_late, listed, start, z, z'}
use Rattle.fc_record.proofs.KindLemmas.{and_first, and_second}

-- ---- directories in which nothing changes

-- lists of numbers that are the same
same_numbers : (xs ys : List ℕ) → bytes_eq xs ys ≡ true → xs ≡ ys
same_numbers xs ys e = (bytes_eq-Decides xs ys).0 e

module _ (form : NameForm) (move : ℕ → ℕ) where
  same_entries : (entries : List Entry) → map (λ (d : Entry). d.address) (map (entry_after form move) entries) ≡ map (λ (d : Entry). d.address) entries → map (entry_after form move) entries ≡ entries
  same_entries [] e = refl
  same_entries (d ∷ entries) e =
      ap₂ (λ (x : Entry) (xs : List Entry). x ∷ xs) (head (map (λ (x : Entry). x.address) (map (entry_after form move) entries)) (map (λ (x : Entry). x.address) entries) e)
      (same_entries entries (tail (entry_after form move d).address d.address (map (λ (x : Entry). x.address) (map (entry_after form move) entries)) (map (λ (x : Entry). x.address) entries) e))
    where
      first_same : (a b : ℕ) (xs ys : List ℕ) → a ∷ xs ≡ b ∷ ys → a ≡ b
      first_same a b xs ys h = cc

      tail : (a b : ℕ) (xs ys : List ℕ) → a ∷ xs ≡ b ∷ ys → xs ≡ ys
      tail a b xs ys h = cc

      head : (xs ys : List ℕ) → (entry_after form move d).address ∷ xs ≡ d.address ∷ ys → entry_after form move d ≡ d
      head xs ys h = let a = first_same (entry_after form move d).address d.address xs ys h in λ i. record d { address = a i }

  pub small_stays : (holder : ℕ) (dir : SmallDir) → has_same_places dir (readdressed form move holder dir) ≡ true → dir_after form move holder dir ≡ dir
  small_stays holder dir same =
      let new = readdressed form move holder dir in
      let entries = same_entries dir.entries (same_numbers (map (λ (d : Entry). d.address) new.entries) (map (λ (d : Entry). d.address) dir.entries)
      (and_first (bytes_eq (map (λ (d : Entry). d.address) new.entries) (map (λ (d : Entry). d.address) dir.entries)) (new.parent == dir.parent) same)) in
      let parent = eqb-true new.parent dir.parent (and_second (bytes_eq (map (λ (d : Entry). d.address) new.entries) (map (λ (d : Entry). d.address) dir.entries)) (new.parent == dir.parent) same) in
      let sequence : sequence_after dir new ≡ dir.sequence = ap (λ (b : Bool). cond b dir.sequence (next_sequence dir.sequence)) same in
      λ i. record dir { parent = parent i; entries = entries i; sequence = sequence i }

-- ---- directories that are read

small_read : (form : NameForm) (bytes : List ℕ) (content : Directory) → directory_of form bytes ≡ Ok content → (form ≡ NameForm.Long → ⊥) → (dir : SmallDir) × (content ≡ Directory.Small dir)
small_read form bytes (Directory.Small dir) e not = (dir, refl)
small_read form bytes (Directory.Big dir) e not = absurd (no_big form bytes dir e not)

module _ (f : Steps) where
  abbrev pub form : NameForm
  form = form_of f.s

  abbrev pub holder_of : Listing → ℕ
  holder_of l = holder_address f.ls l.object.path

  -- each is small
  pub is_small : (l : Listing) → Contains f.ls l → (dir : SmallDir) × (l.content ≡ Directory.Small dir)
  is_small l at = small_read form (object_bytes f.image (z f) l.object) l.content (says (start f) l at).0 (not_long f.s.space)

  -- Two listings of one object are alike.
  same_steady : (l k : Listing) → Contains f.ls l → Contains f.ls k → k.object ≡ l.object
      → is_steady form (move_of f.s) (holder_of k) k.content ≡ is_steady form (move_of f.s) (holder_of l) l.content
  same_steady l k at there same =
      let content : k.content ≡ l.content = ok_same k.content l.content (sym (says (start f) k there).0 ∙ ap (λ (o : Object). reader_of f.image (z f) o) same ∙ (says (start f) l at).0) in
      ap₂ (λ (a : ℕ) (d : Directory). is_steady form (move_of f.s) a d) (ap (λ (o : Object). holder_address f.ls o.path) same) content
    where
      ok_same : (a b : Directory) → (let q : Result Directory DirFault = Ok a in q) ≡ Ok b → a ≡ b
      ok_same a b h = cc

  -- A directory in which nothing changes keeps its bytes,
  pub steady_bytes : (l : Listing) → Contains f.ls l → is_steady form (move_of f.s) (holder_of l) l.content ≡ true
      → object_bytes f.image' (z' f) (listing_after f.s f.ls l).object ≡ object_bytes f.image (z f) l.object
  steady_bytes l at steady =
      bytes_carried f l.object (listed f l at)
      (λ k there changed same. clash (is_steady form (move_of f.s) (holder_of k) k.content) (same_steady l k at there same ∙ steady) changed)

  -- and any other is written.
  pub changed_bytes : (l : Listing) → Contains f.ls l → IsChanged f.s f.ls l
      → AreWritten (object_bytes f.image' (z' f) (listing_after f.s f.ls l).object) (listing_after f.s f.ls l).content
  changed_bytes l at changed =
      subst (λ (bs : List ℕ). AreWritten bs (listing_after f.s f.ls l).content) (sym (bytes_late f l.object (listed f l at))) (f.is.directories.written l at changed)

  steady_content : (holder : ℕ) (content : Directory) (dir : SmallDir) → content ≡ Directory.Small dir → is_steady form (move_of f.s) holder content ≡ true
      → content_after form (move_of f.s) holder content ≡ content
  steady_content holder content dir is steady =
      subst (λ (d : Directory). is_steady form (move_of f.s) holder d ≡ true → content_after form (move_of f.s) holder d ≡ d) (sym is)
      (λ same. ap (λ (x : SmallDir). Directory.Small x) (small_stays form (move_of f.s) holder dir same)) steady

  rewritten_content : (path : _) (holder : ℕ) (content : Directory) (dir : SmallDir) → content ≡ Directory.Small dir → is_steady form (move_of f.s) holder content ≡ false
      → (parent : ℕ) × IsRewritten Command.Compact path parent content (content_after form (move_of f.s) holder content)
  rewritten_content path holder content dir is changed =
      subst (λ (d : Directory). is_steady form (move_of f.s) holder d ≡ false → (parent : ℕ) × IsRewritten Command.Compact path parent d (content_after form (move_of f.s) holder d)) (sym is)
      (λ other. (
        parent_after (move_of f.s) holder dir.parent,
        (λ i. record (dir_after form (move_of f.s) holder dir) { sequence = cond (other i) dir.sequence (next_sequence dir.sequence) }),
      )) changed

  pub tells_listing : (l : Listing) → Contains f.ls l → reader_of f.image' (z' f) (listing_after f.s f.ls l).object ≡ Ok (listing_after f.s f.ls l).content
  tells_listing l at = by (is_steady form (move_of f.s) (holder_of l) l.content) refl
    where
      small : (dir : SmallDir) × (l.content ≡ Directory.Small dir)
      small = is_small l at

      by : (b : Bool) → is_steady form (move_of f.s) (holder_of l) l.content ≡ b → reader_of f.image' (z' f) (listing_after f.s f.ls l).object ≡ Ok (listing_after f.s f.ls l).content
      by true steady =
          ap (directory_of form) (steady_bytes l at steady) ∙ (says (start f) l at).0
          ∙ ap (λ (d : Directory). let q : Result Directory DirFault = Ok d in q) (sym (steady_content (holder_of l) l.content small.0 small.1 steady))
      by false changed =
          (let r = rewritten_content l.object.path (holder_of l) l.content small.0 small.1 changed in
          reads_back form (object_bytes f.image (z f) l.object) (object_bytes f.image' (z' f) (listing_after f.s f.ls l).object) Command.Compact l.object.path r.0 l.content
          (listing_after f.s f.ls l).content (says (start f) l at).0 r.1 (changed_bytes l at changed))

  pub tells_after : Tells (reader_of f.image' (z' f)) (listings_after f.s f.ls)
  tells_after k at =
      let l = from_map (listing_after f.s f.ls) f.ls k at in
      subst (λ (j : Listing). reader_of f.image' (z' f) j.object ≡ Ok j.content) l.2 (tells_listing l.0 l.1)
