-- Places for new objects.
use Rattle.std.specs.Prelude.{◌≡◌, ◌<◌, ℕ, ◌+◌, ◌*◌, nat_eq, nat_lt, false, List, [], ◌∷◌, Option, Some, None, Contains}
use Rattle.std.specs.Option.{option_map_or}
use Rattle.std.specs.Ordering.{nat_cmp}
use Rattle.std.specs.FinMap.{FinMap}
use Rattle.fc_names.specs.Names.{Path}
use Rattle.fc_alloc.specs.declared.owner.Owner.{Owner}
use Rattle.fc_newmap.specs.Map.{Map, ZoneRun, bits_in, hole_runs, id_runs, is_used}
use Rattle.fc_newmap.specs.NewMap.{IsNewMap}
use Rattle.fc_model.specs.Command.{Command}
use Rattle.fc_image.specs.Layout.{Layout, dir_form, id_of, sectors_at}
use Rattle.fc_image.specs.Walk.{Listing, Object}
use Rattle.fc_image.specs.Objects.{has_sectors, objects_of}
use Rattle.fc_image.specs.Opening.{Opened}
use Rattle.fc_image.specs.Sound.{AreSound}
use Rattle.fc_tree.specs.declared.node.Node.{Node}
use Rattle.fc_tree.specs.Nodes.{number_of, HoldObjects}
use Rattle.fc_tree.specs.Parts.{AreOwners}
use Rattle.fc_image.specs.effects.Placed.{IsPlan, file_low}
use Rattle.fc_image.specs.effects.Sharing.{new_ids, slack, slack_among, units}
use Rattle.fc_image.specs.effects.Short.{gain_in, growth_in, is_full_with, new_dir_size, new_length, slack_for}
use Rattle.fc_plan.specs.declared.plan.Plan.{Plan}
use Rattle.fc_plan.specs.Applied.{CanTakePlan}
use Rattle.fc_plan.specs.Parts.{fronts}
use Rattle.fc_placing.specs.Slack.{holdings, place_in}
use Rattle.fc_changes.specs.Changed.{IsFileAt, IsInNewSpace}
use Rattle.fc_placing.specs.Leaving.{OwnOnly}
use Rattle.fc_placing.specs.declared.placing.Placing.{Placing}
use Rattle.fc_placing.specs.declared.placing.Placing.TheVariants.{Nowhere, Shared, New}

-- ---- slack

-- Which identifier a file may share is the same by the owners, where directories are numbers, as by the objects, where they are
-- paths.
abbrev pub SlackLaw : Type 0
SlackLaw = (m : Map) (nodes : FinMap nat_cmp Node) (listings : List Listing) (owners : List Owner) (dir : Path) (number bytes : ℕ)
    → IsNewMap m → AreSound (Layout.New m) listings → HoldObjects nodes listings → AreOwners owners nodes (Layout.New m) (objects_of listings)
    → number_of nodes dir ≡ Some number → slack_among nat_eq m (holdings m owners) number bytes ≡ slack m (objects_of listings) dir bytes

-- ---- places

-- so many bytes, some, in an identifier of their own, which is new
pub record IsOwnPlan (m : Map) (bytes : ℕ) (p : Plan) : Type 0 where
  pub some : 0 < bytes
  pub is_new : Contains (new_ids m) p.id
  pub unused : is_used m p.id ≡ false
  pub plan : IsPlan m.geometry (hole_runs m) (units m.geometry bytes) (fronts p.parts.items)
  pub can : CanTakePlan m.geometry (hole_runs m) p

-- what the owners leave for a file of so many bytes of directory number `dir`
abbrev pub slack_left : Map → List Owner → ℕ → ℕ → Option (ℕ × ℕ)
slack_left m owners dir bytes = slack_among nat_eq m (holdings m owners) dir bytes

-- a file in slack if there is some, else in new space, and of no bytes nowhere
abbrev pub IsFilePlace : Map → List Owner → ℕ → ℕ → Placing → Type 0
IsFilePlace m owners dir bytes Nowhere = bytes ≡ 0
IsFilePlace m owners dir bytes (Shared share) = slack_left m owners dir bytes ≡ Some (place_in share)
IsFilePlace m owners dir bytes (New plan) = (slack_left m owners dir bytes ≡ None) × IsOwnPlan m bytes plan

-- the address of a file of so many bytes that is placed there
abbrev pub address_in : Map → Placing → ℕ → ℕ
address_in m Nowhere bytes = 0
address_in m (Shared share) bytes = 256 * share.id + share.low
address_in m (New plan) bytes = 256 * plan.id + file_low m.geometry (bits_in (fronts plan.parts.items) * m.geometry.bit_bytes) bytes

-- the identifier that it gets, new or shared, and the parts that are taken for it
abbrev pub id_in : Placing → ℕ
id_in Nowhere = 0
id_in (Shared share) = share.id
id_in (New plan) = plan.id

abbrev pub parts_in : Placing → List ZoneRun
parts_in Nowhere = []
parts_in (Shared share) = []
parts_in (New plan) = fronts plan.parts.items

-- the identifier of others that it shares
abbrev pub shared_id : Placing → Option ℕ
shared_id (Shared share) = Some share.id
shared_id place = None

-- What a place is good for.
pub record PlaceLaw : Type 0 where
  -- a file that is placed
  pub file : (m : Map) (nodes : FinMap nat_cmp Node) (listings : List Listing) (owners : List Owner) (dir : Path) (number bytes : ℕ) (place : Placing) (o : Object)
      → IsNewMap m → AreSound (Layout.New m) listings → HoldObjects nodes listings → AreOwners owners nodes (Layout.New m) (objects_of listings)
      → number_of nodes dir ≡ Some number → IsFilePlace m owners number bytes place → o.entry.address ≡ address_in m place bytes
      → IsFileAt m (objects_of listings) dir bytes (id_in place) (parts_in place) o
  -- an object alone in its identifier
  pub alone : (m : Map) (bytes low : ℕ) (plan : Plan) (o : Object) → IsOwnPlan m bytes plan → o.entry.address ≡ 256 * plan.id + low → IsInNewSpace m bytes low plan.id (fronts plan.parts.items) o
  -- the bytes of a new directory
  pub directory : (m : Map) → new_dir_size (dir_form (Layout.New m)) ≡ 2048
  -- which identifier a file owns (`left_by_replaced`)
  pub owns : (m : Map) (nodes : FinMap nat_cmp Node) (listings : List Listing) (owners : List Owner) (dir : Path) (number bytes : ℕ) (place : Placing) (o : Object)
      → IsNewMap m → AreSound (Layout.New m) listings → HoldObjects nodes listings → AreOwners owners nodes (Layout.New m) (objects_of listings)
      → number_of nodes dir ≡ Some number → IsFilePlace m owners number bytes place → o.entry.address ≡ address_in m place bytes → has_sectors o ≡ nat_lt 0 bytes
      → OwnOnly m (shared_id place) (o ∷ [])
  -- a place stays, if the runs of its identifier stay
  pub stays : (m m' : Map) (address bytes : ℕ) → m'.geometry ≡ m.geometry → id_runs m' (id_of address) ≡ id_runs m (id_of address)
      → sectors_at (Layout.New m') address bytes ≡ sectors_at (Layout.New m) address bytes

-- ---- refusals

-- The command grows no directory, and fills none.
pub record FitsDirectory (v : Opened) (c : Command) : Type 0 where
  pub no_growth : growth_in v c ≡ None
  pub not_full : option_map_or (λ gain. is_full_with gain.listing.content gain) (gain_in v c) false ≡ false

-- The command wants so many bytes, and never in slack: a new directory, or a copied file.
pub record WantsOwnSpace (v : Opened) (c : Command) (bytes : ℕ) : Type 0 where
  pub len : new_length v c ≡ bytes
  pub no_slack : slack_for v c ≡ None
