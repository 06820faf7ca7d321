-- What an image opens as, from the kind, the map and the walk that were found.
use Rattle.std.proofs.Common.{◌≡◌, ◌<◌, ◌≤◌, ◌∷◌, ◌+◌, ℕ, true, List, [], ◌++◌, length, refl, sym, ap, subst, ◌∙◌, arith}
use Rattle.std.specs.Prelude.{Option, Some, None, Result, Ok, Err, IfOk, Contains, is_none}
use Rattle.std.specs.FinMap.{get}
use Rattle.std.specs.List.{flat_map}
use Rattle.std.proofs.lemmas.Bool.{lt-ltb}
use Rattle.fc_device.specs.declared.disk.Disk.{Ghosts}
use Rattle.fc_device.proofs.DiskLaws.{Laws}
use Rattle.fc_device.proofs.StopLemmas.{goes_on_same}
use Rattle.fc_device.specs.Calls.{StopsAsBefore, OnlyReads, SameImage}
use Rattle.fc_device.specs.Stops.{StillLeaves}
use Rattle.fc_names.specs.declared.name.NameForm.{NameForm}
use Rattle.fc_names.specs.declared.name.NameForm.TheVariants as forms
use Rattle.fc_dirs.specs.Directory.{directory_size}
use Rattle.fc_dirs.specs.declared.Entry.{Entry}
use Rattle.fc_record.specs.declared.DiscRecord.{DiscRecord}
use Rattle.fc_record.specs.declared.Kind.{Kind}
use Rattle.fc_record.specs.Kinds.{FoundLaw, disc_size, fits_kind, kind_of}
use Rattle.fc_record.specs.Record.{IsRecord}
use Rattle.fc_newmap.proofs.GeometryLemmas.{facts_of_valid}
use Rattle.fc_image.specs.declared.ImageFault.{ImageFault}
use Rattle.fc_image.specs.declared.ImageFault.TheVariants as faults
use Rattle.fc_image.specs.Layout.{Layout, dir_form, disc_sectors}
use Rattle.fc_image.specs.Walk.{◌>>=◌, Listing, Object, Reader, listings_from, object_of, reader_of, root_entry, walk}
use Rattle.fc_image.specs.Objects.{listing_at, objects_of}
use Rattle.fc_image.specs.Opening.{MapAndRoot, Opened, map_and_root, misplaced_sector, open_as, open_image, open_parts, reserved_in, unless_misplaced}
use Rattle.fc_image.specs.Laws.{OpensLaw, Tells, WalkLaw}
use Rattle.fc_image.proofs.EditLemmas.{root_first, walk_gives}
use Rattle.fc_tree.specs.Agree.{Agree, AreWalked, reader_of_nodes}
use Rattle.fc_tree.specs.Nodes.{HasNode, body_of, number_of}
use Rattle.fc_tree.specs.Parts.{ArePartsOf, Parts}
use Rattle.fc_tree.proofs.WalkedLemmas.{contained}
use Rattle.fc_volume.specs.declared.lines.MountError.{MountError}
use Rattle.fc_volume.specs.Answers.{IsFaultOf}
use Rattle.fc_volume.specs.Mounting.{AreMounted, opened_with}
use Rattle.fc_volume.specs.Volume.{OnlyShapes}
use Rattle.fc_image.proofs.WalkLemmas.{not_below as not_short}

-- ---- two things that are so of an answer

pub both_of : {X Y : Type 0} (r : Result X Y) (P Q : X → Type 0) → IfOk r P → IfOk r Q → IfOk r (λ x. P x × Q x)
both_of (Ok x) P Q p q = (p, q)
both_of (Err e) P Q p q = tt

-- ---- the kind

pub sizes_of : (r : DiscRecord) → IsRecord r → (8 ≤ r.log2_sector) × (r.log2_sector ≤ 10)
sizes_of r is = let facts = facts_of_valid r (ap is_none is.valid) in (facts.sector_low, facts.sector_high)

pub no_kind : (image : List ℕ) → kind_of image ≡ None → open_image image ≡ Err faults.NoKind
unfolding open_image
no_kind image none = rw none refl

as_kind : (image : List ℕ) (kind : Kind) → kind_of image ≡ Some kind → open_image image ≡ open_as image kind
unfolding open_image
as_kind image kind is = rw is refl

too_short : (image : List ℕ) (kind : Kind) → fits_kind image kind ≡ true → length image < disc_size kind → open_as image kind ≡ Err (faults.Short (disc_size kind) (length image))
unfolding open_as
too_short image kind fits short = rw (fits, lt-ltb (length image) (disc_size kind) short) refl

pub is_short : FoundLaw → (image : List ℕ) (need have : ℕ) → (kind : Kind) × (kind_of image ≡ Some kind) × (need ≡ disc_size kind) × (have ≡ length image) × (have < need) → open_image image ≡ Err (faults.Short need have)
is_short law image need have is =
    let kind = is.0 in
    let fits = (law image kind is.1).0 in
    let short : length image < disc_size kind = omega (arith, is.2, is.3, is.4) in
    as_kind image kind is.1 ∙ too_short image kind fits short
    ∙ ap (λ n. let r : Result Opened ImageFault = Err (faults.Short n (length image)) in r) (sym is.2)
    ∙ ap (λ n. let r : Result Opened ImageFault = Err (faults.Short need n) in r) (sym is.3)

long_enough : (image : List ℕ) (kind : Kind) → fits_kind image kind ≡ true → disc_size kind ≤ length image → open_as image kind ≡ open_parts image kind
unfolding open_as
long_enough image kind fits long = rw (fits, not_short _ (length image) (disc_size kind) refl long) refl

parts_of_image : (image : List ℕ) (kind : Kind) → kind_of image ≡ Some kind → fits_kind image kind ≡ true → disc_size kind ≤ length image → open_image image ≡ open_parts image kind
parts_of_image image kind is fits long = as_kind image kind is ∙ long_enough image kind fits long

-- ---- faults

pub no_map : (image : List ℕ) (kind : Kind) (e : MountError) → kind_of image ≡ Some kind → fits_kind image kind ≡ true → disc_size kind ≤ length image
    → IsFaultOf (map_and_root image kind) e → IsFaultOf (open_image image) e
no_map image kind (MountError.Image fault) is fits long wrong = parts_of_image image kind is fits long ∙ rw wrong refl
no_map image kind MountError.DiskFault is fits long wrong = tt
no_map image kind MountError.NoMemory is fits long wrong = tt

pub no_parts : (image : List ℕ) (kind : Kind) (found : MapAndRoot) (e : MountError) → kind_of image ≡ Some kind → fits_kind image kind ≡ true → disc_size kind ≤ length image
    → map_and_root image kind ≡ Ok found → IsFaultOf (opened_with image kind found) e → IsFaultOf (open_image image) e
no_parts image kind found (MountError.Image fault) is fits long map wrong = parts_of_image image kind is fits long ∙ rw map wrong
no_parts image kind found MountError.DiskFault is fits long map wrong = tt
no_parts image kind found MountError.NoMemory is fits long map wrong = tt

pub misplaced_fault : WalkLaw → (image : List ℕ) (kind : Kind) (layout : Layout) (address size : ℕ) (read : Reader) (listings : List Listing) (sector : ℕ)
    → walk read layout (reserved_in kind layout) address size ≡ Ok listings → Tells (reader_of image layout) listings → misplaced_sector kind layout (objects_of listings) ≡ Some sector
    → opened_with image kind (layout, address, size) ≡ Err (faults.MapPlace sector)
misplaced_fault law image kind layout address size read listings sector walked tells wrong =
    let here = law.any_reader read (reader_of image layout) layout (reserved_in kind layout) address size listings walked tells in
    rw here (ap (unless_misplaced (record { kind = kind; layout = layout; listings = listings })) wrong)

-- ---- the volume

same_size : (form : NameForm) (size : ℕ) → directory_size form (directory_size form size) ≡ directory_size form size
same_size forms.Seven size = refl
same_size forms.Ten size = refl
same_size forms.Long size = refl

abbrev walk_by : Reader → Layout → List ℕ → ℕ → ℕ → Result (List Listing) ImageFault
walk_by read layout reserved address n =
    object_of layout reserved [] (root_entry address n) >>= (λ root. listings_from read layout (disc_sectors layout + 1) (root.sectors ++ reserved) (root ∷ []))

walk_sized : (read : Reader) (layout : Layout) (reserved : List ℕ) (address size : ℕ) → walk read layout reserved address (directory_size (dir_form layout) size) ≡ walk read layout reserved address size
unfolding walk
walk_sized read layout reserved address size = ap (walk_by read layout reserved address) (same_size (dir_form layout) size)

module _ (kind : Kind) (address size : ℕ) (parts : Parts) (told : Option (List ℕ)) (m : AreMounted kind address size parts told) where
  abbrev pub view : Opened
  view = record { kind = kind; layout = parts.layout; listings = m.listings }

  pub opens_as : OpensLaw → (image : List ℕ) → told ≡ Some image → fits_kind image kind ≡ true → disc_size kind ≤ length image → map_and_root image kind ≡ Ok (parts.layout, address, size)
      → open_as image kind ≡ Ok view
  opens_as law image is fits long found =
      law image kind parts.layout address size (reader_of_nodes parts.nodes) m.listings fits long found m.walked.walked m.map_placed (m.tells image is)

  pub opens : OpensLaw → (image : List ℕ) → told ≡ Some image → kind_of image ≡ Some kind → fits_kind image kind ≡ true → disc_size kind ≤ length image
      → map_and_root image kind ≡ Ok (parts.layout, address, size) → open_image image ≡ Ok view
  opens law image is found_kind fits long found = as_kind image kind found_kind ∙ opens_as law image is fits long found

  pub are_parts : ArePartsOf parts view
  are_parts = record { layout = refl; nodes = m.walked.held; owners = m.owned }

  pub agrees : Agree kind parts
  agrees =
      let gives = walk_gives (reader_of_nodes parts.nodes) parts.layout (reserved_in kind parts.layout) address size m.listings m.walked.walked in
      let root = gives.0 in
      let objects = root_first (reader_of_nodes parts.nodes) parts.layout root (reserved_in kind parts.layout) m.listings gives.2 in
      let has : HasNode parts.nodes m.listings root = m.walked.held.each root (subst (λ (os : List Object). Contains os root) (sym objects) (contained (root ∷ flat_map (λ l. l.children) m.listings) 0 root refl)) in
      let number : has.number ≡ 0 = (let a = has.at_path in let b : number_of parts.nodes root.path ≡ Some 0 = ap (number_of parts.nodes) gives.1.path in let c : Some has.number ≡ Some 0 = sym a ∙ b in cc) in
      let entry = gives.1.entry in
      let at : root.entry.address ≡ address = ap (λ (e : Entry). e.address) entry in
      let long : root.entry.len ≡ directory_size (dir_form parts.layout) size = ap (λ (e : Entry). e.len) entry in
      let sized : AreWalked parts.nodes parts.layout (reserved_in kind parts.layout) address (directory_size (dir_form parts.layout) size) m.listings = record {
        walked = walk_sized (reader_of_nodes parts.nodes) parts.layout (reserved_in kind parts.layout) address size ∙ m.walked.walked;
        held = m.walked.held;
        forms = m.walked.forms;
        bodies = m.walked.bodies;
      } in
      let placed : AreWalked parts.nodes parts.layout (reserved_in kind parts.layout) root.entry.address root.entry.len m.listings =
      subst (λ (n : ℕ). AreWalked parts.nodes parts.layout (reserved_in kind parts.layout) root.entry.address n m.listings) (sym long)
      (subst (λ (n : ℕ). AreWalked parts.nodes parts.layout (reserved_in kind parts.layout) n (directory_size (dir_form parts.layout) size) m.listings) (sym at) sized) in
      record {
        root = record { holder = has.holder_number; entry = root.entry; body = body_of (listing_at m.listings root.path) };
        root_is = ap (get parts.nodes) (sym number) ∙ has.is;
        listings = m.listings;
        walked = placed;
        map_placed = m.map_placed;
        owned = m.owned;
      }

-- ---- the disk

module _ {D : Type 0} {d : Ghosts D} (law : Laws d) where
  -- reads, a change of the size of sectors, and reads
  pub shapes_then : (old mid new end : D) → OnlyReads d old mid → SameImage d mid new → d.bytes new ≡ d.bytes mid → d.pending new ≡ d.pending mid → StopsAsBefore d mid new → StillLeaves d.moment d.left_since mid new → d.faults mid ≤ d.faults new → OnlyReads d new end → OnlyShapes d old end
  shapes_then old mid new end first image bytes pending stops still faults last = record {
    attached_stays = last.form.attached_stays ∙ image.attached_stays ∙ first.form.attached_stays;
    tells_stays = last.form.tells_stays ∙ image.tells_stays ∙ first.form.tells_stays;
    gives_stays = last.form.gives_stays ∙ image.gives_stays ∙ first.form.gives_stays;
    asked_stays = last.form.asked_stays ∙ image.asked_stays ∙ first.form.asked_stays;
    length_stays = last.form.length_stays ∙ image.length_stays ∙ first.form.length_stays;
    bytes_stay = last.bytes ∙ bytes ∙ first.bytes;
    pending_stays = last.pending ∙ pending ∙ first.pending;
    stops = goes_on_same law (goes_on_same law first.stops stops) last.stops;
    still = λ image left. last.still image (still image (first.still image left));
    faults = omega (arith, first.faults, faults, last.faults);
  }
