-- What comes, as an addition to a walk whose objects the nodes hold.
use Rattle.std.proofs.Common.{◌≡◌, ◌<◌, ◌+◌, ◌++◌, ◌==◌, ℕ, zero, suc, Bool, true, false, cond, List, [], ◌∷◌, insert, length, map, Option, Some, None, refl, sym, ap, ap₂, subst, ◌∙◌}
use Rattle.std.specs.Prelude.{Contains, IsPermutation}
use Rattle.std.proofs.lemmas.List.Sorted.{IsPermutation-refl}
use Rattle.std.specs.FinMap.{get}
use Rattle.fc_names.specs.Names.{Path}
use Rattle.fc_names.specs.declared.name.NameForm.{NameForm}
use Rattle.fc_names.specs.declared.name.NameForm.TheVariants as forms
use Rattle.fc_model.specs.Command.{Command}
use Rattle.fc_model.specs.Tree.{last_name}
use Rattle.fc_dirs.specs.declared.Entry.{Entry}
use Rattle.fc_dirs.specs.Directory.{Directory, entries_of}
use Rattle.fc_dirs.specs.Entries.{entry_place, has_name}
use Rattle.fc_drafts.specs.Draft.{IsSayable, directory_in, size_of}
use Rattle.fc_drafts.specs.Rewriting.{HasEntered}
use Rattle.fc_image.specs.Layout.{Layout, dir_form}
use Rattle.fc_image.specs.Report.{holder_address}
use Rattle.fc_image.specs.Sound.{AreSound}
use Rattle.fc_image.specs.Walk.{Listing, Object, is_directory_object, object_size}
use Rattle.fc_image.specs.effects.Short.{new_dir_size}
use Rattle.fc_image.specs.effects.Steady.{AreWritten, new_directory}
use Rattle.fc_tree.specs.Agree.{IsDirectory}
use Rattle.fc_tree.specs.Nodes.{HoldObjects}
use Rattle.fc_changes.specs.Changed.{MakesFile}
use Rattle.fc_tree.proofs.MemberLemmas.{no_element}
use Rattle.fc_tree.proofs.SoundLemmas.{children_stored}
use Rattle.fc_laws.specs.agree.Agreed.{CanSay}
use Rattle.fc_laws.specs.nodes.Edits.{Nodes}
use Rattle.fc_laws.proofs.lemmas.agree.CutLemmas.{cut_law}
use Rattle.fc_laws.proofs.lemmas.agree.SayLemmas.{say_law, as_directory as says_it}
use Rattle.fc_laws.proofs.lemmas.nodes.ListLemmas.{put_at}
use Rattle.fc_edits.specs.Addition.{Addition, ComesAlone, IsAddition}
use Rattle.fc_edits.proofs.lemmas.ShapeLemmas.{of_one}
use Rattle.fc_outcomes.specs.Addition.{IsItsDirectory, IsItsFile, Joins}
use Rattle.fc_refusals.specs.Targets.{IsVacant}
use Rattle.fc_change.specs.declared.change.Says.{Says}
use Rattle.fc_change.specs.Directories.{Rewriting, Tells}
use Rattle.fc_change.specs.Prepared.{IsPieceOf}
use Rattle.fc_writing.specs.declared.ready.Piece.{Piece}
use Rattle.fc_commands.proofs.ArrivalLemmas.{Arrival, Brings, bytes_of, entry_of, no_last, renames_none, size_is}
use Rattle.fc_commands.proofs.ArrivalLemmas.{name_is as name_same}
use Rattle.fc_commands.proofs.EnteredLemmas.{HasRoomMore, entries_entered, form_entered, size_entered}
use Rattle.fc_commands.proofs.HolderLemmas.{HaveForms}
use Rattle.fc_commands.proofs.HolderLemmas as holder_of
use Rattle.fc_commands.proofs.NodeLemmas.{size_of_form}
use Rattle.fc_commands.proofs.NodeLemmas as its
use Rattle.fc_commands.proofs.VacantLemmas.{at_path}

-- ---- lists

pub map_insert : {X Y : Type 0} (f : X → Y) (xs : List X) (i : ℕ) (x : X) → map f (insert xs i x) ≡ insert (map f xs) i (f x)
map_insert f [] zero x = refl
map_insert f [] (suc i) x = refl
map_insert f (y ∷ xs) zero x = refl
map_insert {Y = Y} f (y ∷ xs) (suc i) x = ap (λ (ys : List Y). f y ∷ ys) (map_insert f xs i x)

pub no_entries : (form : NameForm) (parent : ℕ) (name : List ℕ) → entries_of (new_directory form parent name) ≡ []
no_entries forms.Seven parent name = refl
no_entries forms.Ten parent name = refl
no_entries forms.Long parent name = refl

-- ---- the object, and its own listing

-- where it comes: to a directory, with an address and sectors
abbrev pub object_of : Layout → Listing → Arrival → List ℕ → (address : ℕ) → List ℕ → Object
object_of layout l x name address sectors =
    record { path = l.object.path ++ (entry_of (dir_form layout) x name address).name ∷ []; entry = entry_of (dir_form layout) x name address; sectors = sectors }

-- what a new directory says
abbrev pub empty_in : Layout → Listing → List ℕ → Directory
empty_in layout l name = new_directory (dir_form layout) l.object.entry.address name

abbrev pub own_listings : Layout → Listing → Arrival → List ℕ → (address : ℕ) → List ℕ → List Listing
own_listings layout l Arrival.Makes name address sectors = record { object = object_of layout l Arrival.Makes name address sectors; content = empty_in layout l name; children = [] } ∷ []
own_listings layout l (Arrival.Saves words) name address sectors = []

-- Bytes can say it.
abbrev pub CanSayOwn : Layout → Listing → Arrival → List ℕ → Type 0
CanSayOwn layout l Arrival.Makes name = IsSayable (empty_in layout l name)
CanSayOwn layout l (Arrival.Saves words) name = Unit {0}

comes_alone : (layout : Layout) (l : Listing) (x : Arrival) (name : List ℕ) (address : ℕ) (sectors : List ℕ) → CanSayOwn layout l x name
    → ComesAlone layout (own_listings layout l x name address sectors) (object_of layout l x name address sectors)
comes_alone layout l Arrival.Makes name address sectors can = record {
  object = refl;
  directory = refl;
  none = refl;
  says_none = no_entries (dir_form layout) l.object.entry.address name;
  can = say_law.new layout (object_of layout l Arrival.Makes name address sectors) l.object.entry.address name refl can;
}
comes_alone layout l (Arrival.Saves words) name address sectors can = refl

-- These are the bytes of a new directory.
abbrev pub AreItsBytes : Layout → Listing → Arrival → List ℕ → List ℕ → Type 0
AreItsBytes layout l Arrival.Makes name stored = AreWritten stored (empty_in layout l name)
AreItsBytes layout l (Arrival.Saves words) name stored = Unit {0}

own_written : (layout : Layout) (l : Listing) (x : Arrival) (name : List ℕ) (address : ℕ) (sectors stored : List ℕ) → AreItsBytes layout l x name stored → (d : Listing)
    → Contains (own_listings layout l x name address sectors) d → AreWritten stored d.content
own_written layout l Arrival.Makes name address sectors stored are d at =
    of_one (λ (d : Listing). AreWritten stored d.content) (record { object = object_of layout l Arrival.Makes name address sectors; content = empty_in layout l name; children = [] }) are d at
own_written layout l (Arrival.Saves words) name address sectors stored are d at = absurd (no_element d at)

-- ---- the edit

module _ (layout : Layout) (nodes : Nodes) (listings : List Listing) (sound : AreSound layout listings) (held : HoldObjects nodes listings) (path : Path) (dir : ℕ) (spot : IsVacant nodes listings path dir)
    (x : Arrival) (address : ℕ) (sectors : List ℕ) (forms_are : HaveForms layout listings) (room : HasRoomMore spot.listing.content (last_name path)) where
  abbrev pub l : Listing
  l = spot.listing

  abbrev pub e : Entry
  e = entry_of (dir_form layout) x (last_name path) address

  abbrev pub o : Object
  o = object_of layout l x (last_name path) address sectors

  name_is : e.name ≡ last_name path
  name_is = name_same (dir_form layout) x (last_name path) address

  absent : has_name (entries_of l.content) e.name ≡ false
  absent = ap (has_name (entries_of l.content)) name_is ∙ spot.no_name

  -- what its directory was told
  module _ (said : Says) (tells : Tells None nodes dir (Rewriting.Enters e) said) where
    abbrev pub content : Directory
    content = directory_in said.draft

    pub entered : HasEntered (holder_address listings l.object.path) e l.content content
    entered = holder_of.rewritten layout nodes listings sound held l spot.listed dir spot.holder_is (Rewriting.Enters e) said tells refl

    same_size : size_of content ≡ size_of l.content
    same_size = size_entered (holder_address listings l.object.path) e l.content content entered l (subst (HasRoomMore l.content) (sym name_is) room)

    module _ (p : Piece) (piece : IsPieceOf layout nodes said p) (number : ℕ) where
      abbrev cut : (rest : List Listing) × IsPermutation listings (l ∷ rest)
      cut = cut_law.one listings l spot.listed

      abbrev j : ℕ
      j = entry_place e.name (entries_of l.content)

      abbrev pub addition : Addition
      addition = record {
        over = [];
        into = own_listings layout l x (last_name path) address sectors;
        rest = cut.0;
        l = l;
        content = content;
        children = insert l.children j o;
        kids = l.children;
        o = o;
        dir = dir;
        number = number;
      }

      pub is_addition : get nodes number ≡ None → CanSayOwn layout l x (last_name path) → IsAddition nodes layout listings addition
      is_addition free can = record {
        found = cut.1;
        had = IsPermutation-refl l.children;
        holds = put_at l.children j o;
        stored = map_insert (λ (q : Object). q.entry) l.children j o ∙ ap (λ (es : List Entry). insert es j e) (children_stored layout listings sound l spot.listed)
            ∙ sym (entries_entered (holder_address listings l.object.path) e l.content content entered absent);
        path = refl;
        dir_is = spot.holder_is;
        node = free;
        alone = comes_alone layout l x (last_name path) address sectors can;
        can = record {
          form = form_entered (holder_address listings l.object.path) e l.content content entered (dir_form layout) l.object.entry.len same_size (forms_are l spot.listed);
          body = says_it content piece.drafted.sayable;
        };
      }

      -- it joins its directory, by a command that brings it
      pub joins : (c : Command) (bytes stored : List ℕ) → Brings x path bytes c → length stored ≡ bytes_of (dir_form layout) x → AreItsBytes layout l x (last_name path) stored
          → Joins c path layout listings addition p.bytes.items stored
      joins c bytes stored brings long are = record {
        path_is = at_path path l.object.path e.name spot.no_root spot.above name_is;
        stood = spot.absent;
        entry = (
          entries_entered (holder_address listings l.object.path) e l.content content entered absent,
          name_is,
          no_last (dir_form layout) x (last_name path) address,
        );
        says = entered.rewritten c l.object.path (renames_none x path bytes c brings l.object.path);
        written = piece.drafted.bytes;
        long = piece.drafted.length_is ∙ same_size
            ∙ size_of_form (dir_form layout) l.object.entry l.content (forms_are l spot.listed) (its.directory nodes layout listings sound held l spot.listed dir spot.holder_is);
        stored_long = long ∙ sym (size_is (dir_form layout) x (last_name path) address);
        own = own_written layout l x (last_name path) address sectors stored are;
      }

-- ---- what it is

-- It is a new empty directory, or the file that the command makes.
abbrev pub IsItsArrival : Arrival → Command → Path → Layout → Addition → List ℕ → Type 0
IsItsArrival Arrival.Makes c path layout a stored = (d : Listing) × IsItsDirectory path layout a d
IsItsArrival (Arrival.Saves words) c path layout a stored = IsItsFile c path words.load words.exec a stored

-- The command makes a file of these bytes.
abbrev pub MakesIt : Arrival → Command → Path → List ℕ → Type 0
MakesIt Arrival.Makes c path stored = Unit {0}
MakesIt (Arrival.Saves words) c path stored = MakesFile c path words.load words.exec stored

module _ (layout : Layout) (nodes : Nodes) (listings : List Listing) (sound : AreSound layout listings) (held : HoldObjects nodes listings) (path : Path) (dir : ℕ) (spot : IsVacant nodes listings path dir)
    (address : ℕ) (sectors : List ℕ) (forms_are : HaveForms layout listings) (room : HasRoomMore spot.listing.content (last_name path)) where
  pub its_arrival : (x : Arrival) (said : Says) (tells : Tells None nodes dir (Rewriting.Enters (entry_of (dir_form layout) x (last_name path) address)) said) (p : Piece) (piece : IsPieceOf layout nodes said p) (number : ℕ)
      (c : Command) (stored : List ℕ) → MakesIt x c path stored
      → IsItsArrival x c path layout (addition layout nodes listings sound held path dir spot x address sectors forms_are room said tells p piece number) stored
  its_arrival Arrival.Makes said tells p piece number c stored makes = (
    record { object = object_of layout spot.listing Arrival.Makes (last_name path) address sectors; content = empty_in layout spot.listing (last_name path); children = [] },
    record { listed = refl; new = refl; attrs = refl; load = refl; exec = refl; len = refl; says = refl },
  )
  its_arrival (Arrival.Saves words) said tells p piece number c stored makes = record { makes = makes; alone = refl; attrs = refl; load_word = refl; exec_word = refl }
