-- What comes to the root of a disc, which grows by it, on a new map: the record can have the root's new place.
use Rattle.std.proofs.Common.{◌≡◌, ◌<◌, ◌≤◌, ◌/◌, ◌%◌, ◌^◌, ◌==◌, ⊎_elim, ℕ, Bool, true, false, cond, List, [], refl, sym, ap, subst, ◌∙◌, eq-eqb, Option, Some, None}
use Rattle.std.specs.Prelude.{Contains, IfSome}
use Rattle.std.proofs.lemmas.Bool.{eqb-true}
use Rattle.fc_alloc.specs.declared.owner.Owner.{Owner}
use Rattle.fc_names.specs.Names.{Path}
use Rattle.fc_names.specs.declared.name.NameForm.{NameForm}
use Rattle.fc_names.specs.declared.name.NameForm.TheVariants as forms
use Rattle.fc_record.specs.declared.Kind.{Kind}
use Rattle.fc_bytes.specs.Checks.{is_big_size}
use Rattle.fc_newmap.specs.Map.{Map}
use Rattle.fc_newmap.specs.NewMap.{IsNewMap}
use Rattle.fc_model.specs.Tree.{last_name}
use Rattle.fc_dirs.specs.declared.Entry.{Entry}
use Rattle.fc_drafts.specs.Draft.{directory_in}
use Rattle.fc_image.specs.Layout.{Layout, dir_form}
use Rattle.fc_image.specs.Sound.{AreSound}
use Rattle.fc_image.specs.Walk.{Listing, Object}
use Rattle.fc_changes.proofs.BasicLemmas.{clash}
use Rattle.fc_edits.specs.Edit.{Amended}
use Rattle.fc_edits.specs.Growing.{Holder, Told}
use Rattle.fc_laws.specs.nodes.Edits.{Nodes}
use Rattle.fc_laws.specs.agree.Agreed.{AgreeOn, parts_with}
use Rattle.fc_laws.proofs.lemmas.agree.BeforeLemmas.{agreed_law}
use Rattle.fc_laws.proofs.lemmas.nodes.FitsLemmas.{kid_lower}
use Rattle.fc_laws.proofs.lemmas.nodes.MovingLemmas.{some_long as longer}
use Rattle.fc_plan.specs.declared.plan.Plan.{Plan}
use Rattle.fc_refusals.specs.Targets.{IsVacant}
use Rattle.fc_tree.specs.declared.node.Node.{Node}
use Rattle.fc_tree.specs.Agree.{HasForm}
use Rattle.fc_tree.specs.Nodes.{HoldObjects, number_of}
use Rattle.fc_tree.proofs.SoundLemmas.{root_or_child}
use Rattle.fc_tree.proofs.WalkedLemmas.{listed_directory, root_path, same_some}
use Rattle.fc_change.specs.declared.job.Growth.{Growth}
use Rattle.fc_change.specs.declared.spaces.GrownPlace.{GrownPlace}
use Rattle.fc_change.specs.GrownSpace.{root_of}
use Rattle.fc_writing.specs.declared.ready.RootPlace.{RootPlace}
use Rattle.fc_writing.specs.Steps.{CanRoot}
use Rattle.fc_commands.specs.declared.stages.Prepared.{Prepared}
use Rattle.fc_commands.specs.Stages.{IsPreparedFor}
use Rattle.fc_commands.proofs.ArrivalLemmas.{Arrival, job_of}
use Rattle.fc_commands.proofs.GrownNewLemmas as new
use Rattle.fc_commands.proofs.GrownMapLemmas.{IsStepOf}
use Rattle.fc_commands.proofs.GrownPieceLemmas.{IsGrownReady}
use Rattle.fc_commands.proofs.GrownPreparedLemmas.{IsGrownChange}
use Rattle.fc_commands.proofs.GrownPreparedLemmas as prepared
use Rattle.fc_commands.proofs.GrownRootLemmas.{HasVersion, address_fits, can_root}
use Rattle.fc_commands.proofs.GrownSpaceLemmas.{IsToGrow, growing_of}
use Rattle.fc_commands.proofs.GrownSpaceLemmas as space_of
use Rattle.fc_commands.proofs.GrownWalkLemmas as walk
use Rattle.fc_commands.proofs.GrownWantLemmas.{IsGrownWanted}
use Rattle.fc_commands.proofs.GrownMoveGrowsLemmas.{big_length, big_short}

-- ---- small facts

-- node 0 is the root's
at_zero : (nodes : Nodes) (listings : List Listing) (layout : Layout) (sound : AreSound layout listings) (held : HoldObjects nodes listings) (l : Listing) → Contains listings l → number_of nodes l.object.path ≡ Some 0 → l.object.path ≡ []
at_zero nodes listings layout sound held l listed zero' =
    ⊎_elim (λ top. ap (λ (o : Object). o.path) (sym top) ∙ root_path layout listings sound) (λ kid. absurd (kid_lower layout listings nodes sound held kid.0 l.object 0 kid.1 kid.2 zero' refl))
    (root_or_child layout listings sound l.object (listed_directory layout listings sound l listed).0)

module _ (m : Map) (nodes : Nodes) (owners : List Owner) (dir : ℕ) (x : Arrival) (path : Path) (pr : Prepared) (prep : IsPreparedFor (parts_with m nodes owners) (job_of dir x) (last_name path) pr)
    (growth : Growth) (some : prep.wants.grows ≡ Some growth) (is_map : IsNewMap m)
    (kind : Kind) (root : Node) (listings : List Listing) (agreed : AgreeOn kind m nodes owners root listings) (spot : IsVacant nodes listings path dir) where
  abbrev P : GrownPlace
  P = new.p m nodes owners dir x path pr prep growth some is_map

  abbrev E : Entry
  E = new.e m nodes owners dir x path pr prep growth some is_map

  abbrev is : IsGrownWanted m nodes owners dir x (last_name path) prep.wants prep.spaces
  is = new.is m nodes owners dir x path pr prep growth some is_map

  abbrev plan : Option Plan
  plan = new.plan m nodes owners dir x path pr prep growth some is_map

  abbrev sound : AreSound (Layout.New m) listings
  sound = agreed_law.sound kind m nodes owners root listings agreed

  abbrev ch : IsGrownChange nodes E P.directory pr.change
  ch = new.change m nodes owners dir x path pr prep growth some is_map

  abbrev rd : IsGrownReady (Layout.New m) nodes P ch.said ch.others prep.ready.made pr.ready
  rd = new.ready m nodes owners dir x path pr prep growth some is_map

  abbrev at : number_of nodes spot.listing.object.path ≡ Some P.directory.node
  at = walk.number m nodes owners dir x path prep.wants prep.spaces is kind root listings agreed spot

  abbrev form : dir_form (Layout.New m) ≡ forms.Long
  form = walk.form m nodes owners dir x path prep.wants prep.spaces is kind root listings agreed spot

  abbrev stay : List Object
  stay = walk.stay m nodes owners dir x path prep.wants prep.spaces is kind root listings agreed spot

  abbrev to : IsToGrow m nodes owners listings spot.listing.object stay growth plan prep.spaced.places.dir P
  to = walk.to m nodes owners dir x path prep.wants prep.spaces is kind root listings agreed spot

  big_now : is_big_size P.directory.len ≡ true
  big_now =
      let can = prepared.own_can (Layout.New m) nodes listings sound agreed.walked.held spot.listing spot.listed P at agreed.walked.forms form E pr.change ch (new.room m nodes owners dir x path pr prep growth some is_map kind root listings agreed spot) prep.ready.made pr.ready rd in
      big_length P.directory.len (directory_in ch.said.draft) (subst (λ (f : NameForm). HasForm f P.directory.len (directory_in ch.said.draft)) form can.form) can.body

  fits : (2 ≤ P.directory.address / 256) × (P.directory.address < 2 ^ 32)
  fits = address_fits m P.directory.address is_map (space_of.address_id m nodes owners listings spot.listing.object stay growth plan prep.spaced.places.dir P to)

  abbrev as_root : RootPlace
  as_root = record { address = P.directory.address; len = P.directory.len }

  -- A record with a version can have the root's new place.
  pub rooted : HasVersion m → IfSome (root_of (Some (new.p m nodes owners dir x path pr prep growth some is_map))) (CanRoot m)
  rooted version = by (P.directory.node == 0)
    where
      by : (b : Bool) → IfSome (cond b (Some as_root) None) (CanRoot m)
      by true = can_root m as_root version fits.0 big_now
      by false = tt

  short_len : P.directory.len < 2 ^ 32
  short_len = big_short P.directory.len big_now

  pub step_of : (again : List Told) (same : List Listing) (holder : Option Holder) (others : List Amended) → HasVersion m
      → IsStepOf m (growing_of spot.listing.object (new.p m nodes owners dir x path pr prep growth some is_map) again same holder others) (root_of (Some (new.p m nodes owners dir x path pr prep growth some is_map)))
  step_of again same holder others version = by (P.directory.node == 0) refl
    where
      by : (b : Bool) → (P.directory.node == 0) ≡ b → IsStepOf m (growing_of spot.listing.object P again same holder others) (cond b (Some as_root) None)
      by true e = record {
        top = at_zero nodes listings (Layout.New m) sound agreed.walked.held spot.listing spot.listed (at ∙ ap (λ (n : ℕ). let x : Option ℕ = Some n in x) (eqb-true P.directory.node 0 e));
        address = refl;
        len = refl;
        low = fits.1;
        short = short_len;
        can = can_root m as_root version fits.0 big_now;
      }
      by false e = longer spot.listing.object.path (λ top. clash (P.directory.node == 0) (eq-eqb P.directory.node 0 (same_some P.directory.node 0 (sym at ∙ ap (number_of nodes) top))) e)
