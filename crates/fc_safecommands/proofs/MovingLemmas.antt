-- `rename` in the safe mode that copies nothing, where no directory grows: what is known of it, and its job.
use Rattle.std.proofs.Common.{◌≡◌, ◌<◌, ◌^◌, ℕ, true, false, List, [], ◌++◌, refl, sym, ap, ap₂, subst, arith, Option, Some, None}
use Rattle.std.specs.Prelude.{Contains}
use Rattle.std.specs.Option.{option_and_then, option_to_list}
use Rattle.fc_names.specs.Names.{Path}
use Rattle.fc_alloc.specs.declared.owner.Owner.{Owner}
use Rattle.fc_record.specs.declared.Kind.{Kind}
use Rattle.fc_newmap.specs.Map.{Map}
use Rattle.fc_model.specs.Command.{Command}
use Rattle.fc_image.specs.Layout.{Layout}
use Rattle.fc_image.specs.Opening.{Opened}
use Rattle.fc_image.specs.Walk.{Listing, Object}
use Rattle.fc_tree.specs.declared.node.Node.{Node}
use Rattle.fc_tree.specs.Nodes.{number_of}
use Rattle.fc_tree.specs.Parts.{ArePartsOf}
use Rattle.fc_laws.specs.nodes.Edits.{Nodes}
use Rattle.fc_laws.specs.agree.Agreed.{AgreeOn, parts_with}
use Rattle.fc_plan.specs.Giving.{is_one_of}
use Rattle.fc_placing.specs.Places.{slack_left}
use Rattle.fc_refusals.specs.declared.target.Renaming.{Renaming}
use Rattle.fc_change.specs.declared.job.Growth.{Growth}
use Rattle.fc_change.specs.declared.job.Job.TheVariants as jobs
use Rattle.fc_change.specs.declared.job.Wants.{Wants}
use Rattle.fc_change.specs.Shortage.{slack_for}
use Rattle.fc_change.specs.Needs.{AreWants, HasRoomOf, is_copied, room_of}
use Rattle.fc_drafts.specs.declared.room.Room.TheVariants as rooms
use Rattle.fc_commands.proofs.EmptySpaceLemmas.{WantsNoSpace}
use Rattle.fc_commands.proofs.MoveLemmas.{IsSeen, o}
use Rattle.fc_commands.proofs.MoveStageLemmas.{wants_none}
use Rattle.fc_commands.proofs.RoomyLemmas.{NoneGrows}
use Rattle.fc_safe.specs.Changed.{changed_in}
use Rattle.fc_safe.specs.FirstNeeds.{leaving_of, moving_out}
use Rattle.fc_safe.specs.Suits.{Suits}
use Rattle.fc_safe.specs.Views.{IsPlain, IsViewOf}
use Rattle.fc_safecommands.proofs.lemmas.ListedLemmas.{changed_listed}
use Rattle.fc_safecommands.proofs.StirredLemmas.{StirredJob}

-- By parts that agree it is seen in this view, and nothing is copied.
pub record StillMove : Type 0 where
  pub kind : Kind
  pub m : Map
  pub nodes : Nodes
  pub owners : List Owner
  pub root : Node
  pub listings : List Listing
  pub agreed : AgreeOn kind m nodes owners root listings
  pub parts : ArePartsOf (parts_with m nodes owners) (record { kind = kind; layout = Layout.New m; listings = listings })
  pub suits : Suits (Layout.New m) nodes
  pub from : Path
  pub to : Path
  pub r : Renaming
  pub name : List ℕ
  pub seen : IsSeen (Layout.New m) nodes listings from to r name
  pub plain : is_copied (parts_with m nodes owners) r ≡ false
  pub grows : NoneGrows (parts_with m nodes owners) (jobs.Move r) name
  pub wants : Wants
  pub are : AreWants (parts_with m nodes owners) (jobs.Move r) name wants

module _ (c : StillMove) where
  abbrev pub it : Object
  it = o (Layout.New c.m) c.nodes c.listings c.from c.to c.r c.name c.seen

  abbrev v : Opened
  v = record { kind = c.kind; layout = Layout.New c.m; listings = c.listings }

  -- ---- what it wants

  pub wanted : WantsNoSpace c.wants × (c.wants.goes ≡ None)
  wanted = wants_none (parts_with c.m c.nodes c.owners) c.r c.name c.wants c.grows c.plain c.are

  pub room : HasRoomOf c.nodes (jobs.Move c.r) c.name rooms.Fits
  room = subst (λ (g : Option Growth). HasRoomOf c.nodes (jobs.Move c.r) c.name (room_of g)) wanted.0.grows c.are.room

  pub leaving_is : leaving_of c.wants None ≡ []
  leaving_is = ap₂ (λ (a b : Option ℕ). let ns : List ℕ = option_to_list a ++ (option_to_list b ++ []) in ns) wanted.1 wanted.0.copy

  pub no_slack : slack_for c.m c.owners c.wants ≡ None
  no_slack = ap (λ (d : Option ℕ). option_and_then (λ (dir : ℕ). slack_left c.m c.owners dir c.wants.bytes) d) wanted.0.slack

  -- ---- the job

  makes : IsPlain (jobs.Move c.r) → ⊥
  makes plain = plain

  pub view : IsViewOf c.m (parts_with c.m c.nodes c.owners) (record { kind = c.kind; layout = Layout.New c.m; listings = c.listings })
  view = record { is_map = c.agreed.is_map; layout = refl; sound = c.seen.sound; parts = c.parts }

  pub told : (n : ℕ) → is_one_of (changed_in c.nodes (jobs.Move c.r) None None) n ≡ true → (l : Listing) × Contains c.listings l × (number_of c.nodes l.object.path ≡ Some n)
  told n e =
      let q =
      changed_listed c.m (parts_with c.m c.nodes c.owners) v view (Command.Rename c.from c.to) c.name n (jobs.Move c.r) c.wants makes (c.seen.known, c.seen.name_is) c.are
      (subst (λ (g : Option Growth). is_one_of (changed_in c.nodes (jobs.Move c.r) g (moving_out c.m (parts_with c.m c.nodes c.owners) g)) n ≡ true) (sym wanted.0.grows) e) in
      (q.listing, q.listed, q.number)

  abbrev pub job : StirredJob
  job = record {
    kind = c.kind;
    m = c.m;
    nodes = c.nodes;
    owners = c.owners;
    root = c.root;
    listings = c.listings;
    agreed = c.agreed;
    parts = c.parts;
    suits = c.suits;
    job = jobs.Move c.r;
    wants = c.wants;
    still = wanted.0.grows;
    few = subst (λ (n : ℕ). n < 2 ^ 32) (sym wanted.0.bytes) (omega arith);
    told = told;
    stay = λ n e. ap (λ (ns : List ℕ). is_one_of ns n) leaving_is;
  }
