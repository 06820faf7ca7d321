-- What compaction promises, from its steps.
use Rattle.std.proofs.Common.{◌≡◌, ℕ, Bool, true, false, cond, List, [], ◌∷◌, length, map, refl, sym, ap, subst, ◌∙◌, Option, Some}
use Rattle.std.specs.Prelude.{Contains, IsSomeAnd, nat_lt, find, ◌==◌}
use Rattle.std.specs.Option.{option_map, option_map_or}
use Rattle.std.proofs.lemmas.List.FromFn.{length-range_with_len}
use Rattle.fc_names.specs.Names.{Path, is_same_path}
use Rattle.fc_names.specs.declared.name.NameForm.TheVariants.{Seven, Ten}
use Rattle.fc_oldmap.specs.Laws.{ReadsBack}
use Rattle.fc_oldmap.specs.OldMap.{OldMapContent}
use Rattle.fc_model.specs.Tree.{holder}
use Rattle.fc_dirs.specs.declared.Entry.{Entry}
use Rattle.fc_dirs.specs.Directory.{Directory, directory_size}
use Rattle.fc_dirs.specs.Small.{SmallDir}
use Rattle.fc_dirs.specs.SmallBytes.{IsWrittenSmall}
use Rattle.fc_image.specs.Layout.{Layout, dir_form}
use Rattle.fc_image.specs.Report.{holder_address}
use Rattle.fc_image.specs.Sound.{AreSound}
use Rattle.fc_image.specs.Walk.{Listing, Object, is_directory_object, object_bytes, object_size}
use Rattle.fc_image.specs.Objects.{has_sectors, listing_at, objects_of}
use Rattle.fc_image.specs.Opening.{Opened}
use Rattle.fc_image.proofs.EntriesLemmas.{from_map}
use Rattle.fc_image.proofs.LookupLemmas.{lookup_law}
use Rattle.fc_image.proofs.PathsLemmas.{itself}
use Rattle.fc_image.specs.declared.effects.Owned.{Owned}
use Rattle.fc_image.specs.effects.Effect.{Compacts}
use Rattle.fc_image.specs.effects.Settled.{CompactedBytes, CompactedDir, CompactedListing, KeptOrWritten, OldListingsStay, SameEntries, has_same_places, is_settled}
use Rattle.fc_image.specs.effects.Steady.{AreWritten}
use Rattle.fc_squash.proofs.LawLemmas.{settled_space}
use Rattle.fc_changes.proofs.BasicLemmas.{clash}
use Rattle.fc_changes.proofs.lemmas.old.BeforeLemmas.{held_by, opened_as, sound}
use Rattle.fc_oldlaws.specs.moves.After.{content_after, dir_after, entry_after, form_of, is_steady, listing_after, listings_after, move_of, readdressed, space_after}
use Rattle.fc_oldlaws.specs.moves.Laws.{CompactedLaw}
use Rattle.fc_oldlaws.specs.moves.Steps.{IsCompactedInSteps, opened_after}
use Rattle.fc_oldlaws.proofs.lemmas.moves.StartLemmas.{by_number}
use Rattle.fc_oldlaws.proofs.lemmas.moves.PlaceLemmas.{Case, case_of, empty_size, had}
use Rattle.fc_oldlaws.proofs.lemmas.moves.WalkLemmas.{objects_after}
use Rattle.fc_oldlaws.proofs.lemmas.moves.ListedLemmas.{is_listed_directory}
use Rattle.fc_laws.proofs.lemmas.agree.TwinLemmas.{find_changed}
use Rattle.fc_oldlaws.proofs.lemmas.moves.BytesLemmas.{Steps, all, start, to, v, z, z'}
use Rattle.fc_oldlaws.proofs.lemmas.moves.SaysLemmas.{changed_bytes, is_small, steady_bytes}
use Rattle.fc_oldlaws.proofs.lemmas.moves.ImageLemmas.{map_after, opens, tree_stays}
use Rattle.fc_oldlaws.proofs.lemmas.moves.LostLemmas.{behind_stays, lost_stay, same_lost}

same_places : (entries : List Entry) (f : Entry → ℕ) → SameEntries entries (map (λ (d : Entry). record d { address = f d }) entries)
same_places [] f = tt
same_places (d ∷ entries) f = (refl, same_places entries f)

-- A directory has bytes.
pub dir_bytes : (space : OldMapContent) (o : Object) → is_directory_object o ≡ true → (object_size (dir_form (Layout.Old space)) o.entry == 0) ≡ false
dir_bytes space o is = by (space.sector_units == 4) (is_directory_object o) is
  where
    by : (four dir : Bool) → dir ≡ true → (cond dir (directory_size (cond four Ten Seven) o.entry.len) o.entry.len == 0) ≡ false
    by true true e = refl
    by false true e = refl
    by four false e = absurd (cc)

module _ (f : Steps) where
  abbrev w : Opened
  w = opened_after f.s (v f)

  -- ---- nothing is left to do

  settled : is_settled w ≡ true
  settled = settled_space f.s.space (space_after f.s) f.s.was f.s.now (objects_of (listings_after f.s f.ls)) each f.is.slide.squashed
    where
      by : (o : Object) → Case (start f) o → has_sectors (to f o) ≡ true → (length o.path ≡ 0 → ⊥) → (p : Owned) × Contains f.s.now p × (p.start ≡ (to f o).entry.address)
      by o (Case.Top top) some below = absurd (below (ap (λ (q : Object). length q.path) (sym top) ∙ ap (λ (p : Path). length p) (had (start f)).is_root.path))
      by o (Case.Empty none) some below = absurd (clash (has_sectors (to f o)) some (ap (nat_lt 0) (length-range_with_len _ (length o.sectors)) ∙ none))
      by o (Case.Slid k not some') some below = (k.o_now, by_number f.s.now k.i k.o_now k.now_at, sym k.begins)

      each : (o' : Object) → Contains (objects_of (listings_after f.s f.ls)) o' → has_sectors o' ≡ true → (length o'.path ≡ 0 → ⊥) → (p : Owned) × Contains f.s.now p × (p.start ≡ o'.entry.address)
      each o' at some below =
          let x = from_map (to f) (all f) o' (subst (λ (os : List Object). Contains os o') (objects_after (start f) f.ls f.ls) at) in
          subst (λ (q : Object). has_sectors q ≡ true → (length q.path ≡ 0 → ⊥) → (p : Owned) × Contains f.s.now p × (p.start ≡ q.entry.address)) x.2 (by x.0 (case_of (start f) x.0 x.1)) some below

  -- ---- directories

  sound_before : AreSound (z f) f.ls
  sound_before = sound f.kind f.image (z f) f.ls f.is.before.opens

  listing_now : (path : Path) (l : Listing) → Contains f.ls l → is_same_path path l.object.path ≡ true → listing_at (listings_after f.s f.ls) path ≡ Some (listing_after f.s f.ls l)
  listing_now path l at same =
      find_changed (λ (k : Listing). is_same_path path k.object.path) (listing_after f.s f.ls) (λ k. refl) f.ls
      ∙ ap (λ (o : Option Listing). option_map (listing_after f.s f.ls) o) (lookup_law.listing (z f) f.ls path l sound_before at same)

  -- the holder of a directory has moved with the others
  holder_now : (l : Listing) → Contains f.ls l → holder_address (listings_after f.s f.ls) l.object.path ≡ move_of f.s (holder_address f.ls l.object.path)
  holder_now l at =
      let h = held_by f.kind f.image (z f) f.ls f.is.before.opens l at in
      let same : is_same_path (holder l.object.path) h.dir.object.path ≡ true = ap (λ (p : Path). is_same_path p h.dir.object.path) h.same ∙ itself h.dir.object.path in
      ap (λ (o : Option Listing). option_map_or (λ (k : Listing). k.object.entry.address) o 0) (listing_now (holder l.object.path) h.dir h.there same)
      ∙ ap (λ (b : Bool). cond b h.dir.object.entry.address (move_of f.s h.dir.object.entry.address)) (dir_bytes f.s.space h.dir.object (is_listed_directory (start f) h.dir h.there))
      ∙ ap (λ (o : Option Listing). move_of f.s (option_map_or (λ (k : Listing). k.object.entry.address) o 0)) (sym (lookup_law.listing (z f) f.ls (holder l.object.path) h.dir sound_before h.there same))

  compacted_dir : (was is : ℕ) (content : Directory) (dir : SmallDir) → content ≡ Directory.Small dir → is ≡ move_of f.s was
      → CompactedDir was is content (content_after (form_of f.s) (move_of f.s) was content)
  compacted_dir was is content dir small moved =
      subst (λ (d : Directory). CompactedDir was is d (content_after (form_of f.s) (move_of f.s) was d)) (sym small) (
        refl,
        same_places dir.entries (λ d. (entry_after (form_of f.s) (move_of f.s) d).address),
        ap (λ (n : ℕ). cond (was == n) dir.parent n) (sym moved),
        refl,
      )

  compacted_bytes : (l : Listing) → Contains f.ls l → (content : Directory) (dir : SmallDir) → l.content ≡ Directory.Small dir
      → CompactedBytes (object_bytes f.image (z f) l.object) (object_bytes f.image' (z' f) (to f l.object)) l.content (listing_after f.s f.ls l).content
  compacted_bytes l at content dir small =
      let was = holder_address f.ls l.object.path in
      let form = form_of f.s in
      let move = move_of f.s in
      subst (λ (d : Directory). (is_steady form move was d ≡ true → object_bytes f.image' (z' f) (to f l.object) ≡ object_bytes f.image (z f) l.object)
      → (is_steady form move was d ≡ false → AreWritten (object_bytes f.image' (z' f) (to f l.object)) (content_after form move was d))
      → CompactedBytes (object_bytes f.image (z f) l.object) (object_bytes f.image' (z' f) (to f l.object)) d (content_after form move was d)) (sym small)
      (λ kept written. by (dir_after form move was dir) (has_same_places dir (readdressed form move was dir)) kept written refl)
      (λ steady. steady_bytes f l at steady) (λ changed. changed_bytes f l at changed)
    where
      by : (new : SmallDir) (b : Bool) → (b ≡ true → object_bytes f.image' (z' f) (to f l.object) ≡ object_bytes f.image (z f) l.object)
          → (b ≡ false → IsWrittenSmall (object_bytes f.image' (z' f) (to f l.object)) new) → b ≡ b
          → KeptOrWritten b (object_bytes f.image (z f) l.object) (object_bytes f.image' (z' f) (to f l.object)) new
      by new true kept written e = kept refl
      by new false kept written e = written refl

  stay : OldListingsStay f.image f.image' (v f) w
  stay = record {
    each = λ l at.
        let small = is_small f l at in
        subst (λ (o : Option Listing). IsSomeAnd o (CompactedListing f.image f.image' (v f) w l)) (sym (listing_now l.object.path l at (itself l.object.path))) (record {
          says = compacted_dir (holder_address f.ls l.object.path) (holder_address (listings_after f.s f.ls) l.object.path) l.content small.0 small.1 (holder_now l at);
          bytes = compacted_bytes l at l.content small.0 small.1;
        });
    empty = λ o at none.
        subst (λ (q : Option Object). IsSomeAnd q (λ (n : Object). n.entry.address ≡ o.entry.address))
        (sym (ap (λ (os : List Object). find (λ (k : Object). is_same_path o.path k.path) os) (objects_after (start f) f.ls f.ls)
        ∙ find_changed (λ (k : Object). is_same_path o.path k.path) (to f) (λ k. refl) (all f)
        ∙ ap (λ (q : Option Object). option_map (to f) q) (lookup_law.object (z f) f.ls o.path o sound_before at (itself o.path))))
        (ap (λ (b : Bool). cond b o.entry.address (move_of f.s o.entry.address)) (empty_size (start f) o at none));
  }

  pub compacts : Compacts f.kind (record { image = f.image; view = v f }) (record { image = f.image'; view = w })
  compacts = record {
    opens = record { opens = opens f; copies = tt };
    tree = tree_stays f;
    compacted = record { settled = settled; layout = (f.is.slide.squashed.sum, same_lost (start f)) };
    objects = stay;
    idle = tt;
    outside = ((map_after f).bytes, (map_after f).rest, lost_stay f);
    behind = behind_stays f;
  }

pub compacted_law : ReadsBack → CompactedLaw
compacted_law back kind image slid rewritten image' v s is =
    let same = opened_as kind image v (Layout.Old s.space) is.before.opens is.before.layout in
    subst (λ (u : Opened). Compacts kind (record { image = image; view = u }) (record { image = image'; view = opened_after s u })) same
    (compacts (record {
      back = back;
      kind = kind;
      image = image;
      slid = slid;
      rewritten = rewritten;
      image' = image';
      ls = v.listings;
      s = s;
      is = subst (λ (u : Opened). IsCompactedInSteps kind image slid rewritten image' u s) (sym same) is;
    }))
