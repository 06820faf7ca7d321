-- What comes to a directory that grows by it, once it is written: its bytes, and what the law of additions says of it.
use Rattle.std.proofs.Common.{◌≡◌, ◌⊎◌, inl, inr, ◌≤◌, ⊎_elim, ℕ, List, [], length, refl, sym, ap, subst, ◌∙◌, Option}
use Rattle.std.specs.Prelude.{Contains}
use Rattle.fc_names.specs.Names.{Path}
use Rattle.fc_names.specs.declared.name.NameForm.{NameForm}
use Rattle.fc_model.specs.Command.{Command}
use Rattle.fc_model.specs.Tree.{last_name}
use Rattle.fc_dirs.specs.Directory.{Directory}
use Rattle.fc_drafts.specs.Draft.{directory_in, size_of}
use Rattle.fc_image.specs.Layout.{Layout, dir_form}
use Rattle.fc_image.specs.Walk.{Listing, Object}
use Rattle.fc_image.specs.effects.Steady.{AreWritten, new_directory}
use Rattle.fc_objects.specs.Extents.{sectors_in}
use Rattle.fc_tree.proofs.MemberLemmas.{contains_here, no_element}
use Rattle.fc_tree.proofs.WalkedLemmas.{same_some}
use Rattle.fc_edits.specs.Growing.{Growing}
use Rattle.fc_outcomes.specs.GrownAddition.{GrownAdded, NewGrownAdditionWritten}
use Rattle.fc_outcomes.specs.Puts.{Put}
use Rattle.fc_outcomes.proofs.lemmas.GrownFiledLemmas.{grown_addition_law}
use Rattle.fc_writing.specs.declared.ready.Piece.{Piece}
use Rattle.fc_writing.specs.declared.ready.Source.{Source}
use Rattle.fc_writing.specs.Ready.{place_of}
use Rattle.fc_commands.proofs.PutLemmas.{source_puts}
use Rattle.fc_edits.specs.GrownAddition.{NewGrownAddition}
use Rattle.fc_device.specs.declared.disk.Extent.{Extent}
use Rattle.fc_commands.proofs.ArrivalPreparedLemmas.{new_size}
use Rattle.fc_image.proofs.EntriesLemmas.{cases as contains_cases}
use Rattle.fc_drafts.specs.declared.draft.Draft.{Draft}
use Rattle.fc_model.specs.Tree.{holder}
use Rattle.fc_image.specs.Objects.{objects_of}
use Rattle.fc_changes.specs.Changed.{IsFileAt}
use Rattle.fc_edits.specs.Addition.{Addition}
use Rattle.fc_outcomes.specs.Addition.{IsItsFile}
use Rattle.fc_outcomes.specs.GrownAddition.{IsItsGrownDirectory}
use Rattle.fc_writing.specs.Ready.{source_content}
use Rattle.fc_change.specs.declared.spaces.Place.{Place}
use Rattle.fc_commands.proofs.ArrivalLemmas.{Arrival, Brings, bytes_of}
use Rattle.fc_commands.proofs.ArrivalEditLemmas.{MakesIt}
use Rattle.fc_commands.specs.Given.{filled}
use Rattle.fc_commands.proofs.FilledLemmas.{filled_long, given_long, makes_file, stored_filled}
use Rattle.fc_commands.proofs.GrownComerLemmas.{OwnsDraft, WritesIt, given_to, object_for, own_listings}
use Rattle.fc_commands.proofs.GrownSaidLemmas.{comes_to}
use Rattle.fc_commands.proofs.NewDoneLemmas.{IsPlacedAs}

-- ---- its bytes

-- No more bytes are given than a file has.
abbrev pub IsFilled : Arrival → List ℕ → Type 0
IsFilled Arrival.Makes bytes = Unit {0}
IsFilled (Arrival.Saves words) bytes = length bytes ≤ words.len

pub filled_by : (x : Arrival) (path : Path) (bytes : List ℕ) (c : Command) → Brings x path bytes c → IsFilled x bytes
filled_by Arrival.Makes path bytes c brings = tt
filled_by (Arrival.Saves words) path bytes c brings = given_long words path bytes c brings

-- What is written of the object, by a piece or of the bytes that are given, are all its bytes, in all its sectors.
pub record AreItsBytes (form : NameForm) (parent : ℕ) (x : Arrival) (name : List ℕ) (o : Object) (ss : List ℕ) (made : List Piece) (source : Source) (bytes : List ℕ) : Type 0 where
  pub stored : List ℕ
  pub makes : (q : Piece) → Contains made q → (place_of q ≡ ss) × (q.bytes.items ≡ stored)
  pub gives : (y : Put) → Contains (source_puts source (given_to x bytes)) y → (y.sectors ≡ ss) × (y.bytes ≡ stored)
  pub some : ((q : Piece) × Contains made q) ⊎ Contains (source_puts source (given_to x bytes)) (record { sectors = ss; bytes = stored })
  pub says : (d : Listing) → Contains (own_listings form parent x name o) d → AreWritten stored d.content
  pub long : length stored ≡ bytes_of form x
  pub same : (size : ℕ) (was : List ℕ) → source_content size was bytes source ≡ source_content size was (given_to x bytes) source
  pub made_of : (c : Command) (path : Path) → Brings x path bytes c → MakesIt x c path stored

pub its_bytes : (form : NameForm) (parent : ℕ) (x : Arrival) (name : List ℕ) (o : Object) (own : Option Draft) (place : Place) (made : List Piece) (source : Source) (bytes : List ℕ) → OwnsDraft form parent x name own
    → WritesIt x own place made source → IsFilled x bytes → AreItsBytes form parent x name o (sectors_in place.extents.items) made source bytes
its_bytes form parent Arrival.Makes name o own place made source bytes owns writes filled' =
    let q = writes.2 in
    let same : writes.0 ≡ owns.0 = same_some writes.0 owns.0 (sym writes.1 ∙ owns.1) in
    let says : directory_in writes.0 ≡ new_directory form parent name = ap (λ (d : Draft). directory_in d) same ∙ owns.2 in
    record {
      stored = q.bytes.items;
      makes = λ r at.
          (let e : r ≡ q = ⊎_elim (λ here. sym here) (λ none. absurd (no_element r none)) (contains_cases q r [] (subst (λ (qs : List Piece). Contains qs r) writes.3 at)) in
          (ap place_of e ∙ ap (λ (xs : List Extent). sectors_in xs) writes.4, ap (λ (y : Piece). y.bytes.items) e));
      gives = λ y at. absurd (no_element y (subst (λ (s : Source). Contains (source_puts s bytes) y) writes.6 at));
      some = inl (q, subst (λ (qs : List Piece). Contains qs q) (sym writes.3) (contains_here q []));
      says = λ d at. ⊎_elim
          (λ here. subst (λ (y : Listing). AreWritten q.bytes.items y.content) here (subst (AreWritten q.bytes.items) says writes.5.bytes)) (λ none. absurd (no_element d none))
          (contains_cases (record { object = o; content = new_directory form parent name; children = [] }) d [] at);
      long = writes.5.length_is ∙ ap (λ (d : Directory). size_of d) says ∙ new_size form parent name;
      same = λ size was. refl;
      made_of = λ c path brings. tt;
    }
its_bytes form parent (Arrival.Saves words) name o own place made source bytes owns writes filled' = record {
  stored = filled words.len bytes;
  makes = λ r at. absurd (no_element r (subst (λ (qs : List Piece). Contains qs r) writes.0 at));
  gives = λ y at.
      (let put : Put = record { sectors = sectors_in place.extents.items; bytes = filled words.len bytes } in
      let e : y ≡ put = ⊎_elim (λ here. sym here) (λ none. absurd (no_element y none)) (contains_cases put y [] (subst (λ (s : Source). Contains (source_puts s (filled words.len bytes)) y) writes.1 at)) in
      (ap (λ (z : Put). z.sectors) e, ap (λ (z : Put). z.bytes) e));
  some = inr (let put : Put = record { sectors = sectors_in place.extents.items; bytes = filled words.len bytes } in
      subst (λ (s : Source). Contains (source_puts s (filled words.len bytes)) put) (sym writes.1) (contains_here put []));
  says = λ d at. absurd (no_element d at);
  long = filled_long words.len bytes filled';
  same = λ size was.
      ap (source_content size was bytes) writes.1 ∙ stored_filled size words.len (sectors_in place.extents.items) bytes ∙ ap (source_content size was (filled words.len bytes)) (sym writes.1);
  made_of = λ c path brings. makes_file words path bytes c brings;
}

-- ---- what it is

-- It is a new empty directory, which says the address of the grown one, or the file that the command makes.
abbrev pub IsItsGrown : Arrival → Command → Path → Layout → Addition → Growing → List ℕ → Type 0
IsItsGrown Arrival.Makes c path layout a g stored = (d : Listing) × IsItsGrownDirectory path layout a g d
IsItsGrown (Arrival.Saves words) c path layout a g stored = IsItsFile c path words.load words.exec a stored

pub its_grown : (x : Arrival) (c : Command) (layout : Layout) (path up : Path) (address parent : ℕ) (sectors : List ℕ) (l : Listing) (content : Directory) (children : List Object) (rest : List Listing) (dir number : ℕ) (g : Growing) (stored : List ℕ)
    → g.address ≡ parent → MakesIt x c path stored
    → IsItsGrown x c path layout (comes_to l content children (object_for (dir_form layout) up x (last_name path) address sectors)
    (own_listings (dir_form layout) parent x (last_name path) (object_for (dir_form layout) up x (last_name path) address sectors)) rest dir number) g stored
its_grown Arrival.Makes c layout path up address parent sectors l content children rest dir number g stored at makes = (
  record { object = object_for (dir_form layout) up Arrival.Makes (last_name path) address sectors; content = new_directory (dir_form layout) parent (last_name path); children = [] },
  record { listed = refl; attrs = refl; load = refl; exec = refl; len = refl; says = ap (λ (n : ℕ). new_directory (dir_form layout) n (last_name path)) (sym at) },
)
its_grown (Arrival.Saves words) c layout path up address parent sectors l content children rest dir number g stored at makes = record { makes = makes; alone = refl; attrs = refl; load_word = refl; exec_word = refl }

-- By the law of additions the command has done what it promises.
pub grown_done : (a : NewGrownAddition) (x : Arrival) (path : Path) (bytes stored : List ℕ) (c : Command) (puts : List Put) (was image : List ℕ) → Brings x path bytes c → NewGrownAdditionWritten a c path puts stored was image
    → IsItsGrown x c path (Layout.New a.m) a.c a.growing stored → length stored ≡ bytes_of (dir_form (Layout.New a.m)) x
    → IsPlacedAs x a.m (objects_of a.listings) (holder path) (bytes_of (dir_form (Layout.New a.m)) x) a.id a.parts a.c.o → GrownAdded a c was image
grown_done a Arrival.Makes path bytes stored c puts was image brings written is long place =
    subst (λ (k : Command). GrownAdded a k was image) (sym brings)
    (grown_addition_law.new_directory a path is.0 puts stored was image (subst (λ (k : Command). NewGrownAdditionWritten a k path puts stored was image) brings written) is.1 place)
grown_done a (Arrival.Saves words) path bytes stored c puts was image brings written is long place =
    grown_addition_law.new_file a c path words.load words.exec puts stored was image written is (subst (λ (n : ℕ). IsFileAt a.m (objects_of a.listings) (holder path) n a.id a.parts a.c.o) (sym long) place)
