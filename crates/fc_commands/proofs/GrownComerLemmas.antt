-- What comes to a directory that grows by it: what it says, what is written of it, and where it is.
use Rattle.std.proofs.Common.{◌≡◌, inl, inr, ℕ, ◌*◌, Bool, cond, List, [], ◌∷◌, ◌++◌, refl, sym, ap, subst, ◌∙◌, arith, eq-eqb, Option, Some, None}
use Rattle.std.specs.Option.{unwrap_or}
use Rattle.fc_names.specs.Names.{Path}
use Rattle.fc_names.specs.declared.name.NameForm.{NameForm}
use Rattle.fc_newmap.specs.Map.{Map}
use Rattle.fc_newmap.specs.NewMap.{IsNewMap}
use Rattle.fc_dirs.specs.declared.Entry.{Entry}
use Rattle.fc_drafts.specs.declared.draft.Draft.{Draft}
use Rattle.fc_drafts.specs.Draft.{IsSayable, directory_in}
use Rattle.fc_image.specs.Layout.{Layout, dir_form}
use Rattle.fc_image.specs.Walk.{Listing, Object}
use Rattle.fc_image.specs.effects.Steady.{new_directory}
use Rattle.fc_laws.proofs.lemmas.agree.SayLemmas.{say_law}
use Rattle.fc_tree.specs.Parts.{Parts}
use Rattle.fc_change.specs.declared.change.Regrowth.{Regrowth}
use Rattle.fc_change.specs.declared.change.Turned.{Turned}
use Rattle.fc_change.specs.declared.change.Turned.TheVariants as turns
use Rattle.fc_change.specs.declared.spaces.Place.{Place}
use Rattle.fc_tree.specs.Counts.{address_in as node_address}
use Rattle.fc_change.specs.Prepared.{IsDrafted, IsNewPiece, IsSourceOf}
use Rattle.fc_writing.specs.declared.ready.Piece.{Piece}
use Rattle.fc_writing.specs.declared.ready.Source.TheVariants as from
use Rattle.fc_commands.proofs.ArrivalEditLemmas.{no_entries}
use Rattle.fc_edits.specs.Addition.{ComesAlone}
use Rattle.fc_image.specs.effects.Placed.{file_low}
use Rattle.fc_image.specs.effects.Sharing.{slack}
use Rattle.fc_newmap.specs.Map.{bits_in}
use Rattle.fc_changes.specs.Changed.{IsFileAt}
use Rattle.fc_edits.proofs.lemmas.NewSpaceLemmas.{parts_some}
use Rattle.fc_tree.proofs.WalkedLemmas.{same_some}
use Rattle.fc_writing.specs.declared.ready.Source.{Source}
use Rattle.fc_change.specs.Drafts.{IsMade, IsTurnedBy}
use Rattle.fc_commands.proofs.ArrivalLemmas.{Arrival, entry_of, job_of}
use Rattle.fc_commands.specs.Given.{filled}
use Rattle.fc_commands.proofs.GrownSaidLemmas.{IsOwnListing}
use Rattle.fc_commands.proofs.NewDoneLemmas.{IsPlacedAs}
use Rattle.fc_commands.proofs.PutLemmas.{CopiesNone}

-- ---- what it is

-- A new directory says the grown one's address; a file says nothing.
abbrev pub OwnsDraft : NameForm → (address : ℕ) → Arrival → List ℕ → Option Draft → Type 0
OwnsDraft form address Arrival.Makes name own = (d : Draft) × (own ≡ Some d) × (directory_in d ≡ new_directory form address name)
OwnsDraft form address (Arrival.Saves words) name own = own ≡ None

-- A new directory is a piece, and a file gets the bytes that are given.
abbrev pub WritesIt : Arrival → Option Draft → Place → List Piece → Source → Type 0
WritesIt Arrival.Makes own place made source = (d : Draft) × (own ≡ Some d) × (q : Piece) × (made ≡ q ∷ []) × (q.place.items ≡ place.extents.items) × IsDrafted d q × (source ≡ from.Nothing)
WritesIt (Arrival.Saves words) own place made source = (made ≡ []) × (source ≡ from.Bytes place.extents)

-- the bytes that are written of it, of those that are given
abbrev pub given_to : Arrival → List ℕ → List ℕ
given_to Arrival.Makes bytes = bytes
given_to (Arrival.Saves words) bytes = filled words.len bytes

-- its own listing, if it is a directory
abbrev pub own_listings : NameForm → (address : ℕ) → Arrival → List ℕ → Object → List Listing
own_listings form address Arrival.Makes name o = record { object = o; content = new_directory form address name; children = [] } ∷ []
own_listings form address (Arrival.Saves words) name o = []

pub comes_by : (h : Parts) (dir : ℕ) (x : Arrival) (name : List ℕ) (g : Regrowth) (e : Entry) (t : Turned) → g.node ≡ dir → IsTurnedBy h (job_of dir x) name (Some g) e t
    → (own : Option Draft) × (t ≡ turns.Comes g.node e own) × OwnsDraft (dir_form h.layout) g.address x name own
comes_by h dir Arrival.Makes name g e t same is = (
  Some is.0,
  is.1 ∙ ap (λ (n : ℕ). turns.Comes n e (Some is.0)) (sym same),
  (is.0, refl, is.2 ∙ ap (λ (b : Bool). new_directory (dir_form h.layout) (cond b g.address (node_address h.nodes dir)) name) (eq-eqb dir g.node (sym same))),
)
comes_by h dir (Arrival.Saves words) name g e t same is = (None, is ∙ ap (λ (n : ℕ). turns.Comes n e None) (sym same), refl)

pub made_by : (h : Parts) (dir : ℕ) (x : Arrival) (name : List ℕ) (address : Option ℕ) (e : Entry) → IsMade h (job_of dir x) name address e → e ≡ entry_of (dir_form h.layout) x name (unwrap_or address 0)
made_by h dir Arrival.Makes name address e is = is
made_by h dir (Arrival.Saves words) name address e is = is

pub writes_by : (x : Arrival) (form : NameForm) (address dir : ℕ) (name : List ℕ) (e : Entry) (own : Option Draft) (place : Place) (made : List Piece) (source : Source) → OwnsDraft form address x name own
    → IsNewPiece (turns.Comes dir e own) (Some place) made → IsSourceOf (turns.Comes dir e own) (Some place) None source → WritesIt x own place made source
writes_by Arrival.Makes form address dir name e own place made source owns makes is =
    let makes' = subst (λ (o : Option Draft). IsNewPiece (turns.Comes dir e o) (Some place) made) owns.1 makes in
    (owns.0, owns.1, makes'.0, makes'.1, makes'.2, makes'.3, subst (λ (o : Option Draft). IsSourceOf (turns.Comes dir e o) (Some place) None source) owns.1 is)
writes_by (Arrival.Saves words) form address dir name e own place made source owns makes is = (
  subst (λ (o : Option Draft). IsNewPiece (turns.Comes dir e o) (Some place) made) owns makes,
  subst (λ (o : Option Draft). IsSourceOf (turns.Comes dir e o) (Some place) None source) owns is,
)

-- the object in this directory
abbrev pub object_for : NameForm → Path → Arrival → List ℕ → ℕ → List ℕ → Object
object_for form up x name address sectors = record { path = up ++ (entry_of form x name address).name ∷ []; entry = entry_of form x name address; sectors = sectors }

pub comes_by_itself : (layout : Layout) (up : Path) (x : Arrival) (name : List ℕ) (address parent : ℕ) (sectors : List ℕ) (own : Option Draft) (place : Place) (made : List Piece) (source : Source)
    → OwnsDraft (dir_form layout) parent x name own → WritesIt x own place made source
    → ComesAlone layout (own_listings (dir_form layout) parent x name (object_for (dir_form layout) up x name address sectors)) (object_for (dir_form layout) up x name address sectors)
comes_by_itself layout up Arrival.Makes name address parent sectors own place made source owns writes =
    let same : writes.0 ≡ owns.0 = same_some writes.0 owns.0 (sym writes.1 ∙ owns.1) in
    record {
      object = refl;
      directory = refl;
      none = refl;
      says_none = no_entries (dir_form layout) parent name;
      can = say_law.new layout (object_for (dir_form layout) up Arrival.Makes name address sectors) parent name refl (subst IsSayable (ap (λ (d : Draft). directory_in d) same ∙ owns.2) writes.5.sayable);
    }
comes_by_itself layout up (Arrival.Saves words) name address parent sectors own place made source owns writes = refl

pub listed_by : (form : NameForm) (address number : ℕ) (x : Arrival) (name : List ℕ) (o : Object) (own : Option Draft) → OwnsDraft form address x name own → IsOwnListing number own (own_listings form address x name o)
listed_by form address number Arrival.Makes name o own owns =
    subst (λ (d : Option Draft). IsOwnListing number d (own_listings form address Arrival.Makes name o)) (sym owns.1) (record { object = o; content = new_directory form address name; children = [] }, refl, sym owns.2)
listed_by form address number (Arrival.Saves words) name o own owns = subst (λ (d : Option Draft). IsOwnListing number d []) (sym owns) refl

-- A file that has no plan is where files are, whatever identifier is named.
file_anywhere : (m : Map) (objects : List Object) (near : Path) (n id other : ℕ) (o : Object) → IsNewMap m → IsFileAt m objects near n id [] o → IsFileAt m objects near n other [] o
file_anywhere m objects near n id other o is (inl slack) = inl slack
file_anywhere m objects near n id other o is (inr (inl new)) = absurd (let some = parts_some m n (file_low m.geometry (bits_in [] * m.geometry.bit_bytes) n) id [] o is new.1 in omega (arith, some))
file_anywhere m objects near n id other o is (inr (inr nowhere)) = inr (inr nowhere)

-- nothing is copied for it
pub copies_none : (x : Arrival) (own : Option Draft) (place : Place) (made : List Piece) (source : Source) → WritesIt x own place made source → CopiesNone source
copies_none Arrival.Makes own place made source is = subst CopiesNone (sym is.6) tt
copies_none (Arrival.Saves words) own place made source is = subst CopiesNone (sym is.1) tt

pub placed_anywhere : (x : Arrival) (m : Map) (objects : List Object) (near : Path) (n id other : ℕ) (o : Object) → IsNewMap m → IsPlacedAs x m objects near n id [] o → IsPlacedAs x m objects near n other [] o
placed_anywhere Arrival.Makes m objects near n id other o is new = absurd (let some = parts_some m n 0 id [] o is new in omega (arith, some))
placed_anywhere (Arrival.Saves words) m objects near n id other o is there = file_anywhere m objects near n id other o is there
