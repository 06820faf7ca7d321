-- `rename` by which a directory grows, on a new map: what its stages need, what it promises, and what it answers.
use Rattle.fc_alloc.specs.declared.owner.Owner.{Owner}
use Rattle.fc_change.specs.After.{AreOwnersAfter, CanTakeOver, nodes_after, owners_admitted}
use Rattle.fc_change.specs.Needs.{AreWants, HasRoomOf, is_copied, len_at, room_of}
use Rattle.fc_change.specs.Shortage.{shortage}
use Rattle.fc_change.specs.declared.job.Growth.{Growth}
use Rattle.fc_change.specs.declared.job.Job.TheVariants as jobs
use Rattle.fc_change.specs.declared.job.Wants.{Wants}
use Rattle.fc_change.specs.declared.spaces.Spaces.{Spaces}
use Rattle.fc_commands.proofs.GrownCopyDoneLemmas as copy_done_of
use Rattle.fc_commands.proofs.GrownCopyMadeLemmas as copy_made
use Rattle.fc_commands.proofs.GrownCopyPutLemmas as copy_put
use Rattle.fc_commands.proofs.GrownCopyRunLemmas as copy_run
use Rattle.fc_commands.proofs.GrownCopyWantLemmas.{CopiedRename, spotted}
use Rattle.fc_commands.proofs.GrownMoveAskedLemmas as asked
use Rattle.fc_commands.proofs.GrownMoveAwayLemmas.{made}
use Rattle.fc_commands.proofs.GrownMoveBigLemmas.{big_by}
use Rattle.fc_commands.proofs.GrownMoveDoneLemmas as done
use Rattle.fc_commands.proofs.GrownMoveMadeLemmas.{moving_of}
use Rattle.fc_commands.proofs.GrownMoveMayLemmas as may
use Rattle.fc_commands.proofs.GrownMovePutLemmas as put
use Rattle.fc_commands.proofs.GrownMoveReadyLemmas.{PlainRename}
use Rattle.fc_commands.proofs.GrownMoveRunLemmas as run_of
use Rattle.fc_commands.proofs.GrownMoveStageLemmas as stage
use Rattle.fc_commands.proofs.GrownMoveTakenLemmas as taken
use Rattle.fc_commands.proofs.GrownMoveWantLemmas.{GrownRename, IsPlaceOfGrowth, place_of}
use Rattle.fc_commands.proofs.MoveLemmas.{IsSeen}
use Rattle.fc_commands.proofs.MoveRunLemmas.{new_seen}
use Rattle.fc_commands.proofs.MoveShortLemmas.{full_short, plain as plain_is}
use Rattle.fc_commands.proofs.MoveStageLemmas.{IsRenamer, renamer}
use Rattle.fc_commands.proofs.MoveStageLemmas as move_stage
use Rattle.fc_commands.proofs.NodeLemmas as its_node
use Rattle.fc_commands.proofs.RemovalRunLemmas.{new_view, parts}
use Rattle.fc_holdings.specs.Holdings.{TellsVersion}
use Rattle.fc_commands.specs.Laws.{JobLaws}
use Rattle.fc_commands.specs.Promises.{ChangesParts, WritesPlacesOf}
use Rattle.fc_commands.specs.Run.{IsRun, KeepsBehind}
use Rattle.fc_commands.specs.Stages.{CanPrepareJob, IsPreparedFor, IsSpaced}
use Rattle.fc_commands.specs.Written.{ChangeLeavesOn, IsChangedOn, IsGivenOn}
use Rattle.fc_commands.specs.declared.stages.Prepared.{Prepared}
use Rattle.fc_dirs.specs.Directory.{directory_size}
use Rattle.fc_dirs.specs.declared.Entry.{Entry}
use Rattle.fc_image.specs.Layout.{Layout, dir_form, disc_sectors}
use Rattle.fc_image.specs.Objects.{objects_of}
use Rattle.fc_image.specs.Opening.{Opened}
use Rattle.fc_image.specs.Sound.{AreSound}
use Rattle.fc_image.specs.Stays.{OpensAs}
use Rattle.fc_image.specs.Walk.{Listing, Object, is_directory_object, object_size}
use Rattle.fc_image.specs.effects.Short.{short}
use Rattle.fc_laws.proofs.lemmas.agree.BeforeLemmas.{agreed_law}
use Rattle.fc_laws.specs.agree.Agreed.{AgreeOn}
use Rattle.fc_laws.specs.nodes.Edits.{Nodes}
use Rattle.fc_laws.specs.takeover.Places.{MayBeWritten}
use Rattle.fc_model.specs.Command.{Command}
use Rattle.fc_names.specs.Names.{Path}
use Rattle.fc_names.specs.declared.name.NameForm.{NameForm}
use Rattle.fc_names.specs.declared.name.NameForm.TheVariants as forms
use Rattle.fc_newmap.specs.Map.{Map}
use Rattle.fc_newmap.specs.NewMap.{IsNewMap}
use Rattle.fc_changes.proofs.lemmas.old.BeforeLemmas.{opened_as}
use Rattle.fc_outcomes.specs.NewImage.{Outcome}
use Rattle.fc_record.specs.declared.Kind.{Kind}
use Rattle.fc_refusals.specs.declared.target.Renaming.{Renaming}
use Rattle.fc_space.specs.Space.{PlacesSuffice}
use Rattle.fc_tree.proofs.WalkedLemmas.{listed_directory}
use Rattle.fc_tree.specs.Agree.{Agree}
use Rattle.fc_tree.specs.Parts.{AreOwners, ArePartsOf, Parts}
use Rattle.fc_tree.specs.declared.node.Node.{Node}
use Rattle.fc_writing.proofs.LeavesLemmas.{leaves_law}
use Rattle.fc_writing.specs.New.{CanWrite, IsChanged, IsGiven}
use Rattle.fc_writing.specs.Ready.{written_place}
use Rattle.std.proofs.Common.{Bool, List, Option, Some, ap, ap₂, cond, false, refl, subst, sym, true, ℕ, ◌<◌, ◌==◌, ◌^◌, ◌∙◌, ◌≡◌, ◌≤◌}

-- What is known of the job: a directory grows by whatever is wanted, and the record of the disc tells its version.
pub record GrownMoveJob : Type 0 where
  pub m : Map
  pub nodes : Nodes
  pub owners : List Owner
  pub kind : Kind
  pub r : Renaming
  pub name : List ℕ
  pub growth : Growth
  pub is_map : IsNewMap m
  pub tells : TellsVersion (Layout.New m)
  pub suffice : PlacesSuffice (Layout.New m)
  pub agree : Agree kind (parts (Layout.New m) nodes owners)
  pub few : len_at nodes r.target.node < 2 ^ 32
  pub grows : (w : Wants) → AreWants (parts (Layout.New m) nodes owners) (jobs.Move r) name w → w.grows ≡ Some growth

-- ---- between two paths

module _ (j : GrownMoveJob) (from to : Path) (it : IsRenamer (parts (Layout.New j.m) j.nodes j.owners) from to j.r j.name) where
  abbrev h : Parts
  h = parts (Layout.New j.m) j.nodes j.owners

  on : AgreeOn j.kind j.m j.nodes j.owners j.agree.root j.agree.listings
  on = agreed_law.named j.kind h j.m refl j.is_map j.agree

  seen : IsSeen (Layout.New j.m) j.nodes j.agree.listings from to j.r j.name
  seen = new_seen j.m j.nodes j.owners j.kind j.agree.root j.agree.listings from to j.r j.name on it

  -- by any walk
  abbrev q_of : (kind : Kind) (root : Node) (listings : List Listing) → AgreeOn kind j.m j.nodes j.owners root listings → (w : Wants) (s : Spaces) → IsSpaced (parts (Layout.New j.m) j.nodes j.owners) (jobs.Move j.r) j.name w s → GrownRename
  q_of kind root listings agreed w s spaced = record {
    kind = kind;
    m = j.m;
    nodes = j.nodes;
    owners = j.owners;
    root = root;
    listings = listings;
    from = from;
    to = to;
    r = j.r;
    name = j.name;
    wants = w;
    spaces = s;
    growth = j.growth;
    agreed = agreed;
    seen = new_seen j.m j.nodes j.owners kind root listings from to j.r j.name agreed it;
    are = spaced.wants;
    some = j.grows w spaced.wants;
    placing = spaced.places.placing;
    object = spaced.places.object;
    read = spaced.places.copied;
    place = its_place.place;
    place_is = its_place.place_is;
    node = its_place.node;
    len = its_place.len;
  }
    where
      its_place : IsPlaceOfGrowth j.m (parts (Layout.New j.m) j.nodes j.owners) j.growth s
      its_place = place_of j.m (parts (Layout.New j.m) j.nodes j.owners) w s j.growth (j.grows w spaced.wants) spaced.places

  can_prepare : CanPrepareJob (parts (Layout.New j.m) j.nodes j.owners) (jobs.Move j.r) j.name
  can_prepare = record {
    want = move_stage.can_want (Layout.New j.m) j.nodes j.agree.listings from to j.r j.name seen;
    place = λ w are. stage.can_place j.m j.nodes j.owners j.agree.listings from to j.r j.name seen w are j.few;
    draft = λ w s spaced. stage.can_draft (q_of j.kind j.agree.root j.agree.listings on w s spaced);
    placed = λ w s spaced. tt;
    prepare = λ w s c spaced change. stage.can_prepare (q_of j.kind j.agree.root j.agree.listings on w s spaced) (j.r.holder == j.r.target.holder) refl c change;
  }

  -- ---- what is answered

  short_is : (w : Wants) (v : Opened) → AreWants (parts (Layout.New j.m) j.nodes j.owners) (jobs.Move j.r) j.name w → AreSound v.layout v.listings → ArePartsOf (parts (Layout.New j.m) j.nodes j.owners) v
      → short v (Command.Rename from to) ≡ shortage (parts (Layout.New j.m) j.nodes j.owners) w
  short_is w v are sound held =
      let known = it.known v sound held in
      let first = seen.known in
      let room = subst (λ (o : Option Growth). HasRoomOf j.nodes (jobs.Move j.r) j.name (room_of o)) (j.grows w are) are.room in
      let big = big_by (Layout.New j.m) j.nodes j.agree.listings from to j.r j.name seen j.growth.len room in
      let at : v.layout ≡ Layout.New j.m = sym held.layout in
      let one : first.destination.listing.object.entry ≡ known.destination.listing.object.entry =
      ap (λ (x : Node). x.entry)
      (its_node.one_node j.nodes (Layout.New j.m) j.agree.listings seen.sound seen.held first.destination.listing first.destination.listed j.r.holder first.destination.holder_is
      (its_node.node j.nodes v.layout v.listings sound held.nodes known.destination.listing known.destination.listed j.r.holder known.destination.holder_is)
      (its_node.there j.nodes v.layout v.listings sound held.nodes known.destination.listing known.destination.listed j.r.holder known.destination.holder_is)) in
      let some : 0 < object_size (dir_form (Layout.New j.m)) known.destination.listing.object.entry =
      subst (λ (e : Entry). 0 < object_size (dir_form (Layout.New j.m)) e) one
      (subst (λ (n : ℕ). 0 < n)
      (sym (space_size first.destination.listing.object (listed_directory (Layout.New j.m) j.agree.listings seen.sound first.destination.listing first.destination.listed).1 (dir_form (Layout.New j.m)) big.is_long)) big.some) in
      asked.short_is v j.nodes sound held.nodes from to j.r known j.name it.name_is j.m j.owners at (subst (λ (y : Layout). AreOwners j.owners j.nodes y (objects_of v.listings)) at held.owners) w are j.growth (j.grows w are) j.is_map some big.more
    where
      space_size : (x : Object) → is_directory_object x ≡ true → (f : NameForm) → f ≡ forms.Long → object_size f x.entry ≡ x.entry.len
      space_size x d f long = ap₂ (λ (b : Bool) (n : NameForm). cond b (directory_size n x.entry.len) x.entry.len) d long

  -- ---- what has to be shown of a prepared one, by any walk

  -- by this walk it is
  abbrev q_prepared : (kind : Kind) (root : Node) (listings : List Listing) → AgreeOn kind j.m j.nodes j.owners root listings → (p : Prepared) → IsPreparedFor (parts (Layout.New j.m) j.nodes j.owners) (jobs.Move j.r) j.name p → GrownRename
  q_prepared kind root listings agreed p prep = q_of kind root listings agreed prep.wants prep.spaces prep.spaced

  -- It can be written and taken over, the parts after it agree, and it does what it promises.
  pub record IsDoneBy (kind : Kind) (root : Node) (listings : List Listing) (agreed : AgreeOn kind j.m j.nodes j.owners root listings) (p : Prepared) (prep : IsPreparedFor (parts (Layout.New j.m) j.nodes j.owners) (jobs.Move j.r) j.name p) : Type 0 where
    pub can_write : (n : ℕ) → disc_sectors (Layout.New j.m) ≤ n → CanWrite n j.m p.ready
    pub can_take : (m' : Map) (number room : ℕ) → IsGiven j.m p.ready m' → CanTakeOver (Layout.New m') j.nodes (owners_admitted (Layout.New j.m) p.change.object number j.owners) room p.change
    pub agrees : (m' : Map) (owners' : List Owner) (number : ℕ) → IsGiven j.m p.ready m' → AreOwnersAfter (Layout.New m') j.nodes p.change (owners_admitted (Layout.New j.m) p.change.object number j.owners) owners'
        → Agree kind (parts (Layout.New m') (nodes_after p.change number j.nodes) owners')
    pub outcome : (m' : Map) (owners' : List Owner) (number : ℕ) (bytes was image : List ℕ) → IsGiven j.m p.ready m' → AreOwnersAfter (Layout.New m') j.nodes p.change (owners_admitted (Layout.New j.m) p.change.object number j.owners) owners'
        → OpensAs was kind (record { kind = kind; layout = Layout.New j.m; listings = listings }) → IsChanged j.m m' p.ready bytes was image
        → Outcome kind was image (record { kind = kind; layout = Layout.New j.m; listings = listings }) (Command.Rename from to) (parts (Layout.New m') (nodes_after p.change number j.nodes) owners')
    pub may : (was : List ℕ) → OpensAs was kind (record { kind = kind; layout = Layout.New j.m; listings = listings })
        → MayBeWritten kind (record { kind = kind; layout = Layout.New j.m; listings = listings }) j.m (Command.Rename from to) (written_place p.ready)

  abbrev pub IsDone : Type 0
  IsDone = (kind : Kind) (root : Node) (listings : List Listing) (agreed : AgreeOn kind j.m j.nodes j.owners root listings) (p : Prepared) (prep : IsPreparedFor (parts (Layout.New j.m) j.nodes j.owners) (jobs.Move j.r) j.name p)
      → IsDoneBy kind root listings agreed p prep

  -- without a copy
  plain_done : is_copied (parts (Layout.New j.m) j.nodes j.owners) j.r ≡ false → (kind : Kind) (root : Node) (listings : List Listing) (agreed : AgreeOn kind j.m j.nodes j.owners root listings) (p : Prepared)
      (prep : IsPreparedFor (parts (Layout.New j.m) j.nodes j.owners) (jobs.Move j.r) j.name p) → IsDoneBy kind root listings agreed p prep
  plain_done plain kind root listings agreed p prep =
      let w : PlainRename = record { q = q_prepared kind root listings agreed p prep; pr = p; plain = plain; change = prep.change; ready = prep.ready } in
      let placed = prep.spaced.places in
      let md = made w in
      record {
        can_write = λ n most. put.can_write w placed md j.tells n most;
        can_take = λ m' number room given. taken.can_take (moving_of w md.c) md.part m' (run_of.owned_then w placed md m' given) number room;
        agrees = λ m' owners' number given after. run_of.agrees w placed md m' given owners' number after;
        outcome = λ m' owners' number bytes was image given after opens changed.
            (let x = w.q.seen in
            let v : Opened = record { kind = kind; layout = Layout.New j.m; listings = listings } in
            let not_copied = plain_is v j.nodes x.sound x.held from to j.r x.known j.name x.name_is (parts (Layout.New j.m) j.nodes j.owners) refl (record { layout = refl; nodes = x.held; owners = agreed.owned }) plain in
            done.outcome w placed md m' given bytes not_copied owners' number after was image opens changed);
        may = λ was opens. may.plain_may w placed md was opens;
      }

  -- with one
  copy_done : is_copied (parts (Layout.New j.m) j.nodes j.owners) j.r ≡ true → (kind : Kind) (root : Node) (listings : List Listing) (agreed : AgreeOn kind j.m j.nodes j.owners root listings) (p : Prepared)
      (prep : IsPreparedFor (parts (Layout.New j.m) j.nodes j.owners) (jobs.Move j.r) j.name p) → IsDoneBy kind root listings agreed p prep
  copy_done copied kind root listings agreed p prep =
      let w : CopiedRename = record { q = q_prepared kind root listings agreed p prep; pr = p; placed = prep.spaced.places; copied = copied; change = prep.change; ready = prep.ready } in
      let md = copy_made.made (spotted w) in
      record {
        can_write = λ n most. copy_put.can_write w md j.tells n most;
        can_take = λ m' number room given. taken.can_take (copy_made.copying_of (spotted w) md.c) md.part m' (copy_run.owned_then w md m' given) number room;
        agrees = λ m' owners' number given after. copy_run.agrees w md m' given owners' number after;
        outcome = λ m' owners' number bytes was image given after opens changed. copy_done_of.outcome w md m' given j.suffice bytes was image opens changed owners' number after;
        may = λ was opens. copy_put.all_may w md was opens;
      }

  is_done : IsDone
  is_done = by (is_copied (parts (Layout.New j.m) j.nodes j.owners) j.r) refl
    where
      by : (b : Bool) → is_copied (parts (Layout.New j.m) j.nodes j.owners) j.r ≡ b → IsDone
      by true e = copy_done e
      by false e = plain_done e

  module _ (p : Prepared) (prep : IsPreparedFor (parts (Layout.New j.m) j.nodes j.owners) (jobs.Move j.r) j.name p) where
    can_take : (layout' : Layout) (number room : ℕ) → IsGivenOn (Layout.New j.m) p.ready layout' → CanTakeOver layout' j.nodes (owners_admitted (Layout.New j.m) p.change.object number j.owners) room p.change
    can_take (Layout.New m') number room given = (is_done j.kind j.agree.root j.agree.listings on p prep).can_take m' number room given
    can_take (Layout.Old now) number room given = absurd given

    -- The parts agree afterwards.
    agrees : (layout' : Layout) (nodes' : Nodes) (owners' : List Owner) (number : ℕ) → IsRun (parts (Layout.New j.m) j.nodes j.owners) (parts layout' nodes' owners') p number → Agree j.kind (parts layout' nodes' owners') × KeepsBehind layout'
    agrees (Layout.New m') nodes' owners' number run = (
      subst (λ (ns : Nodes). Agree j.kind (parts (Layout.New m') ns owners')) (sym run.nodes) ((is_done j.kind j.agree.root j.agree.listings on p prep).agrees m' owners' number run.given run.owners),
      tt,
    )
    agrees (Layout.Old now) nodes' owners' number run = absurd run.given

    -- The command is done.
    changes : (layout' : Layout) (nodes' : Nodes) (owners' : List Owner) (number : ℕ) (bytes was image : List ℕ) → IsRun (parts (Layout.New j.m) j.nodes j.owners) (parts layout' nodes' owners') p number
        → IsChangedOn (Layout.New j.m) layout' p.ready bytes was image → ChangesParts (Command.Rename from to) (parts (Layout.New j.m) j.nodes j.owners) (parts layout' nodes' owners') was image
    changes (Layout.Old now) nodes' owners' number bytes was image run changed kind view opens held = absurd run.given
    changes (Layout.New m') nodes' owners' number bytes was image run changed kind view opens held =
        let at : view.layout ≡ Layout.New j.m = sym held.layout in
        let same = opened_as kind was view (Layout.New j.m) opens at in
        let by = new_view j.m j.nodes j.owners j.kind j.is_map j.agree kind was view opens held in
        let its = is_done kind by.0 view.listings by.1 p prep in
        let v : Opened = record { kind = kind; layout = Layout.New j.m; listings = view.listings } in
        subst (λ (y : Opened). Outcome kind was image y (Command.Rename from to) (parts (Layout.New m') nodes' owners')) same
        (subst (λ (ns : Nodes). Outcome kind was image v (Command.Rename from to) (parts (Layout.New m') ns owners')) (sym run.nodes)
        (its.outcome m' owners' number bytes was image run.given run.owners (subst (OpensAs was kind) (sym same) opens) changed))

    -- At any moment nothing else was written.
    places : (bytes was image : List ℕ) → ChangeLeavesOn (Layout.New j.m) p.ready bytes was image → WritesPlacesOf (Command.Rename from to) (parts (Layout.New j.m) j.nodes j.owners) was image
    places bytes was image left kind view opens held =
        let same = opened_as kind was view (Layout.New j.m) opens (sym held.layout) in
        let by = new_view j.m j.nodes j.owners j.kind j.is_map j.agree kind was view opens held in
        record {
          sectors = written_place p.ready;
          only = leaves_law.frame j.m p.ready bytes was image left;
          may = subst (λ (v : Opened). MayBeWritten kind v j.m (Command.Rename from to) (written_place p.ready)) same ((is_done kind by.0 view.listings by.1 p prep).may was (subst (OpensAs was kind) (sym same) opens));
        }

-- ---- the laws

pub grown_move_laws : (j : GrownMoveJob) (from to : Path) (bytes : List ℕ) → IsRenamer (parts (Layout.New j.m) j.nodes j.owners) from to j.r j.name → JobLaws j.kind (parts (Layout.New j.m) j.nodes j.owners) (jobs.Move j.r) j.name bytes
grown_move_laws j from to bytes it =
    let h = parts (Layout.New j.m) j.nodes j.owners in
    record {
      can_prepare = can_prepare j from to it;
      can_write = λ p n prep most. (is_done j from to it j.kind j.agree.root j.agree.listings (on j from to it) p prep).can_write n most;
      can_take = λ p layout' number room prep given enough. can_take j from to it p prep layout' number room given;
      agrees = λ p now number prep run. agrees j from to it p prep now.layout now.nodes now.owners number run;
      changes = λ c p now number was image k prep run changed long.
          (let its = renamer h j.kind j.agree c j.r j.name bytes k in
          subst (λ (d : Command). ChangesParts d h now was image) (sym its.2) (changes j its.0 its.1 its.3 p prep now.layout now.nodes now.owners number bytes was image run changed));
      places = λ c p was image k prep left.
          (let its = renamer h j.kind j.agree c j.r j.name bytes k in subst (λ (d : Command). WritesPlacesOf d h was image) (sym its.2) (places j its.0 its.1 its.3 p prep bytes was image left));
      short_is = λ c w v k are sound held. (let its = renamer h j.kind j.agree c j.r j.name bytes k in ap (short v) its.2 ∙ short_is j its.0 its.1 its.3 w v are sound held);
      full = λ c v k full sound held.
          (let its = renamer h j.kind j.agree c j.r j.name bytes k in ap (short v) its.2 ∙ full_short v j.nodes sound held.nodes its.0 its.1 j.r (its.3.known v sound held) j.name its.3.name_is full);
    }
