-- A job by which something comes, made ready: what is known of each stage.
use Rattle.std.proofs.Common.{◌≡◌, ◌≤◌, ℕ, List, [], ◌∷◌, length, refl, sym, ap, subst, ◌∙◌, Option, Some, None}
use Rattle.std.specs.Option.{option_map, unwrap_or}
use Rattle.fc_names.specs.declared.name.NameForm.{NameForm}
use Rattle.fc_names.specs.declared.name.NameForm.TheVariants as forms
use Rattle.fc_names.specs.Names.{Path}
use Rattle.fc_model.specs.Command.{Command}
use Rattle.fc_model.specs.Tree.{last_name}
use Rattle.fc_drafts.specs.Draft.{IsSayable, size_of}
use Rattle.fc_image.specs.Layout.{Layout, dir_form}
use Rattle.fc_image.specs.Walk.{Listing}
use Rattle.fc_image.specs.effects.Short.{new_dir_size}
use Rattle.fc_image.specs.effects.Steady.{AreWritten, new_directory}
use Rattle.fc_laws.specs.nodes.Edits.{Nodes}
use Rattle.fc_objects.specs.Extents.{sectors_in}
use Rattle.fc_tree.specs.Counts.{address_in as node_address}
use Rattle.fc_tree.specs.Parts.{Parts}
use Rattle.fc_change.specs.declared.change.Change.{Change}
use Rattle.fc_change.specs.declared.spaces.Place.{Place}
use Rattle.fc_change.specs.Drafts.{address_in}
use Rattle.fc_writing.specs.declared.ready.Piece.{Piece}
use Rattle.fc_commands.specs.declared.stages.Prepared.{Prepared}
use Rattle.fc_commands.specs.Stages.{IsPreparedFor}
use Rattle.fc_commands.proofs.ArrivalLemmas.{Arrival, Brings, bytes_of, job_of}
use Rattle.fc_commands.proofs.ArrivalEditLemmas.{AreItsBytes, CanSayOwn, MakesIt}
use Rattle.fc_commands.proofs.ArrivalPlaceLemmas.{IsItsPlace, IsWanted, its_place, wanted, wants_place}
use Rattle.fc_commands.proofs.ArrivalReadyLemmas.{IsArrivalReady, SaysOwn, arrival_ready, stored_of}
use Rattle.fc_commands.proofs.ArrivalStageLemmas.{IsArrivalChange, arrival_change}
use Rattle.fc_commands.proofs.FilledLemmas.{filled_long, given_long, makes_file}
use Rattle.fc_commands.proofs.TwoPieceLemmas.{IsTwoPieces}

-- ---- what it says itself

pub new_size : (form : NameForm) (parent : ℕ) (name : List ℕ) → size_of (new_directory form parent name) ≡ new_dir_size form
new_size forms.Seven parent name = refl
new_size forms.Ten parent name = refl
new_size forms.Long parent name = refl

module _ (layout : Layout) (nodes : Nodes) (dir : ℕ) (l : Listing) (name : List ℕ) (at : node_address nodes dir ≡ l.object.entry.address) where
  pub can_say_own : (x : Arrival) (ps : List Piece) → SaysOwn layout nodes dir x name ps → CanSayOwn layout l x name
  can_say_own Arrival.Makes (p ∷ ps) says = subst (λ (a : ℕ). IsSayable (new_directory (dir_form layout) a name)) at says.0
  can_say_own Arrival.Makes [] says = absurd says
  can_say_own (Arrival.Saves words) ps says = tt

  pub its_bytes : (x : Arrival) (ps : List Piece) (bytes : List ℕ) → SaysOwn layout nodes dir x name ps → AreItsBytes layout l x name (stored_of x ps bytes)
  its_bytes Arrival.Makes (p ∷ ps) bytes says = subst (λ (a : ℕ). AreWritten p.bytes.items (new_directory (dir_form layout) a name)) at says.1
  its_bytes Arrival.Makes [] bytes says = absurd says
  its_bytes (Arrival.Saves words) ps bytes says = tt

  pub its_length : (x : Arrival) (ps : List Piece) (bytes : List ℕ) (path : Path) (c : Command) → SaysOwn layout nodes dir x name ps → Brings x path bytes c → length (stored_of x ps bytes) ≡ bytes_of (dir_form layout) x
  its_length Arrival.Makes (p ∷ ps) bytes path c says brings = says.2 ∙ new_size (dir_form layout) (node_address nodes dir) name
  its_length Arrival.Makes [] bytes path c says brings = absurd says
  its_length (Arrival.Saves words) ps bytes path c says brings = filled_long words.len bytes (given_long words path bytes c brings)

-- The command makes it of all its bytes.
pub makes_it : (x : Arrival) (ps : List Piece) (path : Path) (bytes : List ℕ) (c : Command) → Brings x path bytes c → MakesIt x c path (stored_of x ps bytes)
makes_it Arrival.Makes ps path bytes c brings = tt
makes_it (Arrival.Saves words) ps path bytes c brings = makes_file words path bytes c brings

-- ---- the stages

module _ (h : Parts) (dir : ℕ) (x : Arrival) (name : List ℕ) (p : Prepared) (prep : IsPreparedFor h (job_of dir x) name p) (none : prep.wants.grows ≡ None) where
  pub wants_are : IsWanted h dir x name prep.wants
  wants_are = wanted h dir x name prep.wants none prep.spaced.wants

  pub its : IsItsPlace prep.spaces
  its = its_place h dir x prep.wants (wants_place h dir x name prep.wants wants_are) prep.spaces prep.spaced.places

  abbrev pub sectors : List ℕ
  sectors = sectors_in its.place.extents.items

  abbrev pub address : ℕ
  address = its.place.address

  pub change : IsArrivalChange h dir x name its.place.address p.change
  change =
      subst (λ (a : ℕ). IsArrivalChange h dir x name a p.change) (ap (λ (o : Option Place). unwrap_or (option_map (λ (q : Place). q.address) o) 0) its.is)
      (arrival_change h dir x name prep.spaces p.change its.grown prep.change)

  pub ready : IsArrivalReady h.layout h.nodes dir x name (sectors_in its.place.extents.items) change.said prep.spaces p.ready
  ready = arrival_ready h p.change prep.spaces p.ready its prep.ready dir name its.place.address x change

  pub two : IsTwoPieces p.ready (sectors_in its.place.extents.items) ready.piece
  two = record { plain = ready.own.plain; carried = ready.own.carried; early = ready.own.place; late = ready.late }
