-- A change of the safe mode, ready to be written: each directory that says something is written into the new runs of its identifier, and what
-- else stays in that identifier is copied there. A new object is written into its place.
use Rattle.std.specs.Prelude.{◌≡◌, ℕ, ◌==◌, ◌&&◌, ◌||◌, not, Bool, true, false, List, [], ◌∷◌, ◌++◌, filter, drop, take, Option, Some, None, Contains, IsSome}
use Rattle.std.specs.FinMap.{get}
use Rattle.std.specs.List.{count_by, find, list_any}
use Rattle.std.specs.Option.{option_map_or}
use Rattle.fc_alloc.specs.declared.owner.Owner.{Owner}
use Rattle.fc_alloc.specs.Owners.{is_id_owned, is_node, owns}
use Rattle.fc_device.specs.declared.disk.Extent.{Extent}
use Rattle.fc_newmap.specs.Map.{Map}
use Rattle.fc_image.specs.Layout.{Layout, dir_form, sectors_at}
use Rattle.fc_image.specs.Walk.{object_size}
use Rattle.fc_objects.specs.Extents.{sectors_in}
use Rattle.fc_plan.specs.declared.plan.Plan.{Plan}
use Rattle.fc_plan.specs.Giving.{is_one_of}
use Rattle.fc_tree.specs.Parts.{Parts}
use Rattle.fc_tree.specs.declared.node.Node.{Node}
use Rattle.fc_writing.specs.declared.ready.MapStep.{MapStep}
use Rattle.fc_writing.specs.declared.ready.MapStep.TheVariants as steps
use Rattle.fc_writing.specs.declared.ready.Piece.{Piece}
use Rattle.fc_writing.specs.declared.ready.Ready.{Ready}
use Rattle.fc_writing.specs.declared.ready.Transfer.{Transfer}
use Rattle.fc_change.specs.declared.change.Change.{Change}
use Rattle.fc_change.specs.declared.change.Says.{Says}
use Rattle.fc_change.specs.declared.job.Job.{Job}
use Rattle.fc_change.specs.declared.job.Wants.{Wants}
use Rattle.fc_change.specs.declared.spaces.GrownPlace.{GrownPlace}
use Rattle.fc_change.specs.declared.spaces.Spaces.{Spaces}
use Rattle.fc_change.specs.Drafts.{IsChangeOf}
use Rattle.fc_change.specs.GrownSpace.{plan_sectors}
use Rattle.fc_change.specs.Needs.{AreWants}
use Rattle.fc_change.specs.Prepared.{HasPlace, IsDrafted, IsNewPiece, IsSourceOf}
use Rattle.fc_commands.specs.declared.stages.Prepared.{Prepared}
use Rattle.fc_safe.specs.FirstNeeds.{first_shortage, leaving_of}
use Rattle.fc_safe.specs.FirstSpace.{ArePlacedFirst}

-- ---- where an owner lies then

-- the plan of an identifier
abbrev pub plan_for : List Plan → ℕ → Option Plan
plan_for plans id = find (λ (p : Plan). p.id == id) plans

-- the owner's sectors in it: as many as it has, from where it begins in its identifier; none if there is no such plan
abbrev pub laid_by : Map → List Plan → Owner → List ℕ
laid_by m plans o = option_map_or (λ (p : Plan). take o.sectors (drop o.first (plan_sectors m.geometry p))) (plan_for plans o.id) []

-- ---- what is written there

-- The directory's draft goes to its new sectors.
pub record IsPieceAnew (m : Map) (h : Parts) (plans : List Plan) (s : Says) (p : Piece) : Type 0 where
  pub own : Owner
  pub is_own : find (is_node s.node) h.owners ≡ Some own
  pub place : sectors_in p.place.items ≡ laid_by m plans own
  pub drafted : IsDrafted s.draft p

-- that of the one that grows to all its sectors then
abbrev pub IsPieceIn : (grows : Bool) → Map → Parts → List Plan → List Extent → Says → Piece → Type 0
IsPieceIn true m h plans extents s p = (p.place.items ≡ extents) × IsDrafted s.draft p
IsPieceIn false m h plans extents s p = IsPieceAnew m h plans s p

abbrev pub IsEarlyPiece : Map → Parts → List Plan → Option GrownPlace → Says → Piece → Type 0
IsEarlyPiece m h plans None s p = IsPieceAnew m h plans s p
IsEarlyPiece m h plans (Some g) s p = IsPieceIn (g.directory.node == s.node) m h plans g.extents.items s p

abbrev pub PiecesAnew : Map → Parts → List Plan → Option GrownPlace → List Says → List Piece → Type 0
PiecesAnew m h plans grown [] [] = Unit {0}
PiecesAnew m h plans grown (s ∷ says) (p ∷ pieces) = IsEarlyPiece m h plans grown s p × PiecesAnew m h plans grown says pieces
PiecesAnew m h plans grown _ _ = ⊥

-- ---- what is copied there

-- The owner's identifier gets new runs, and the owner stays in it and says nothing else. A directory that grows out of its identifier says
-- something.
abbrev pub has_plan : List Plan → ℕ → Bool
has_plan plans id = list_any (λ (p : Plan). p.id == id) plans

abbrev pub is_said : List Says → ℕ → Bool
is_said says n = list_any (λ (s : Says). s.node == n) says

-- The object goes, or is copied elsewhere.
abbrev pub is_leaving : Wants → ℕ → Bool
is_leaving w n = is_one_of (leaving_of w None) n

abbrev pub is_taken_along : List Plan → Wants → Change → Owner → Bool
is_taken_along plans w c o = has_plan plans o.id && (not (is_said c.says.items o.node) && not (is_leaving w o.node))

-- the identifier holds the object of a node
abbrev pub holds_node : List Owner → ℕ → ℕ → Bool
holds_node owners id n = option_map_or (λ (o : Owner). o.id == id) (find (is_node n) owners) false

-- the identifier has no owner, or one alone, a directory that is told what it says
abbrev pub is_said_alone : List Owner → List Says → ℕ → Bool
is_said_alone owners says id =
    not (is_id_owned owners id) || ((count_by (owns id) owners == 1) && list_any (λ (s : Says). holds_node owners id s.node) says)

-- Its sectors are copied one for one.
pub record IsTakenAlong (m : Map) (h : Parts) (plans : List Plan) (o : Owner) (t : Transfer) : Type 0 where
  pub node : Node
  pub there : get h.nodes o.node ≡ Some node
  pub from : sectors_at (Layout.New m) node.entry.address (object_size (dir_form (Layout.New m)) node.entry) ≡ Some (sectors_in t.from.items)
  pub to : sectors_in t.to.items ≡ laid_by m plans o

abbrev pub AreTakenAlong : Map → Parts → List Plan → List Owner → List Transfer → Type 0
AreTakenAlong m h plans [] [] = Unit {0}
AreTakenAlong m h plans (o ∷ owners) (t ∷ transfers) = IsTakenAlong m h plans o t × AreTakenAlong m h plans owners transfers
AreTakenAlong m h plans _ _ = ⊥

-- ---- all of it

abbrev pub plans_in : MapStep → List Plan
plans_in (steps.New s) = s.plans.items
plans_in (steps.Old space) = []
plans_in steps.Nothing = []

-- The pieces of all directories: of those that say something, and then of a new one.
pub record AreEarly (m : Map) (h : Parts) (c : Change) (s : Spaces) (ps : List Piece) : Type 0 where
  pub told : List Piece
  pub made : List Piece
  pub tells : PiecesAnew m h (plans_in s.take) s.grown c.says.items told
  pub makes : IsNewPiece c.object s.object made
  pub all : ps ≡ told ++ made

-- The object has its source. All directories come early, and so does all that is taken along; one step follows, and nothing is late.
pub record IsReadyAnew (m : Map) (h : Parts) (w : Wants) (c : Change) (s : Spaces) (r : Ready) : Type 0 where
  pub source : IsSourceOf c.object s.object s.copied r.source
  pub early : AreEarly m h c s r.early.items
  pub carried : AreTakenAlong m h (plans_in s.take) (filter (is_taken_along (plans_in s.take) w c) h.owners) r.carried.items
  pub no_late : r.late.items ≡ []
  pub take : r.take ≡ s.take
  pub no_give : r.give ≡ steps.Nothing

-- ---- what has to be known

-- Each directory that says something has an owner, and each owner an object with a place.
pub record CanWriteAnew (h : Parts) (c : Change) : Type 0 where
  pub told : (s : Says) → Contains c.says.items s → IsSome (find (is_node s.node) h.owners)
  pub placed : (o : Owner) → Contains h.owners o → HasPlace h o.node

-- ---- a job, made ready

-- The job has these wants, these spaces by first fit, this change, and this is what is to be written of it.
pub record IsPreparedAnew (m : Map) (h : Parts) (job : Job) (name : List ℕ) (p : Prepared) : Type 0 where
  pub wants : Wants
  pub spaces : Spaces
  pub are_wants : AreWants h job name wants
  pub placed : ArePlacedFirst m h job wants spaces
  pub enough : first_shortage m h job wants ≡ None
  pub change : IsChangeOf h job name spaces p.change
  pub ready : IsReadyAnew m h wants p.change spaces p.ready
