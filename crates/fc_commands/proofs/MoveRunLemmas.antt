-- `rename` on any map, if nothing is copied and no directory grows: what its stages need, what it promises, and what it answers.
use Rattle.std.proofs.Common.{◌≡◌, ◌≤◌, ℕ, List, refl, sym, ap, subst, ◌∙◌, false, Option, None}
use Rattle.std.specs.Prelude.{IsSome, is_some}
use Rattle.std.specs.FinMap.{get}
use Rattle.fc_alloc.specs.declared.owner.Owner.{Owner}
use Rattle.fc_drafts.specs.Entries.{renamed_entry}
use Rattle.fc_drafts.specs.declared.room.Room.TheVariants as rooms
use Rattle.fc_names.specs.Names.{Path}
use Rattle.fc_record.specs.declared.Kind.{Kind}
use Rattle.fc_oldmap.specs.OldMap.{OldMapContent, IsOldMap}
use Rattle.fc_newmap.specs.Map.{Map}
use Rattle.fc_model.specs.Command.{Command}
use Rattle.fc_image.specs.Layout.{Layout, disc_sectors}
use Rattle.fc_image.specs.Objects.{objects_of}
use Rattle.fc_image.specs.Opening.{Opened}
use Rattle.fc_image.specs.Sound.{AreSound}
use Rattle.fc_image.specs.Stays.{OpensAs}
use Rattle.fc_image.specs.Walk.{Listing}
use Rattle.fc_image.specs.effects.Short.{is_copied, short}
use Rattle.fc_changes.proofs.lemmas.old.BeforeLemmas.{opened_as}
use Rattle.fc_space.specs.Space.{PlacesSuffice}
use Rattle.fc_tree.specs.declared.node.Node.{Node}
use Rattle.fc_tree.specs.Agree.{Agree}
use Rattle.fc_tree.specs.Parts.{AreOwners, ArePartsOf, Parts}
use Rattle.fc_laws.specs.nodes.Edits.{Nodes, OwnersEdited, owners_with}
use Rattle.fc_laws.specs.agree.Agreed.{AgreeOn}
use Rattle.fc_laws.proofs.lemmas.agree.BeforeLemmas.{agreed_law}
use Rattle.fc_laws.specs.old.agree.Laws.{AgreeOn as OldAgreeOn}
use Rattle.fc_laws.proofs.lemmas.old.agree.BeforeLemmas.{sound as old_sound}
use Rattle.fc_laws.proofs.lemmas.old.agree.GivenLemmas.{space_law}
use Rattle.fc_outcomes.specs.Moving as outcomes
use Rattle.fc_outcomes.specs.NewImage.{Outcome}
use Rattle.fc_refusals.specs.Slots.{IsRenaming}
use Rattle.fc_refusals.specs.declared.target.Renaming.{Renaming}
use Rattle.fc_writing.proofs.LeavesLemmas.{leaves_law}
use Rattle.fc_change.specs.declared.change.Turned.{Turned}
use Rattle.fc_change.specs.declared.job.Growth.{Growth}
use Rattle.fc_change.specs.declared.job.Job.TheVariants as jobs
use Rattle.fc_change.specs.declared.job.Wants.{Wants}
use Rattle.fc_change.specs.After.{AreOwnersAfter, CanTakeOver, CanRegrowNode, CanTurnNode, CanTurnOwner, nodes_after, owners_admitted}
use Rattle.fc_change.specs.Drafts.{told}
use Rattle.fc_change.specs.Needs.{AreWants, HasRoomOf, is_copied as is_copied_job, room_of}
use Rattle.fc_change.specs.OldSpace.{LieBehind}
use Rattle.fc_change.specs.Shortage.{shortage}
use Rattle.fc_commands.specs.declared.stages.Prepared.{Prepared}
use Rattle.fc_commands.proofs.RoomyLemmas.{NoneGrows}
use Rattle.fc_commands.specs.Laws.{HasFront, JobLaws}
use Rattle.fc_commands.specs.Promises.{ChangesParts, WritesPlacesOf}
use Rattle.fc_commands.specs.Run.{IsMapIn, IsMapOf, IsRun, KeepsBehind}
use Rattle.fc_commands.specs.Stages.{CanPrepareJob, IsPreparedFor}
use Rattle.fc_commands.specs.Written.{CanWriteOn, ChangeLeavesOn, IsChangedOn, IsGivenOn}
use Rattle.fc_commands.proofs.MoveLemmas.{IsSeen, o}
use Rattle.fc_commands.proofs.MoveOwnerLemmas.{admitted, can_turn, edited}
use Rattle.fc_commands.proofs.MoveReadyLemmas as prepared
use Rattle.fc_commands.proofs.MoveShortLemmas.{full_short, new_short, old_short, plain as plain_is}
use Rattle.fc_commands.proofs.MoveStageLemmas.{IsRenamer, can_prepare_job, places as have_places, renamer, seen, turns_it, wants_none}
use Rattle.fc_commands.proofs.MoveTellLemmas.{told_by}
use Rattle.fc_commands.proofs.NewMoveLemmas as new
use Rattle.fc_commands.proofs.OldMoveLemmas as old
use Rattle.fc_commands.proofs.RemovalRunLemmas.{new_view, old_view, parts}
use Rattle.fc_commands.proofs.TargetLemmas as target_of

map_in : (layout : Layout) → IsMapOf layout → IsMapIn layout
map_in (Layout.New m) is = is
map_in (Layout.Old space) is = is.0

-- a walk of parts that agree has the renaming
pub new_seen : (m : Map) (nodes : Nodes) (owners : List Owner) (kind : Kind) (root : Node) (listings : List Listing) (from to : Path) (r : Renaming) (name : List ℕ) → AgreeOn kind m nodes owners root listings
    → IsRenamer (parts (Layout.New m) nodes owners) from to r name → IsSeen (Layout.New m) nodes listings from to r name
new_seen m nodes owners kind root listings from to r name agreed is = record {
  is_map = agreed.is_map;
  sound = agreed_law.sound kind m nodes owners root listings agreed;
  held = agreed.walked.held;
  forms = agreed.walked.forms;
  bodies = agreed.walked.bodies;
  known = is.known (record { kind = kind; layout = Layout.New m; listings = listings }) (agreed_law.sound kind m nodes owners root listings agreed)
      (record { layout = refl; nodes = agreed.walked.held; owners = agreed.owned });
  name_is = is.name_is;
  good = is.good;
}

pub old_seen : (space : OldMapContent) (nodes : Nodes) (owners : List Owner) (kind : Kind) (root : Node) (listings : List Listing) (from to : Path) (r : Renaming) (name : List ℕ) → IsOldMap space
    → OldAgreeOn kind space nodes owners root listings → IsRenamer (parts (Layout.Old space) nodes owners) from to r name → IsSeen (Layout.Old space) nodes listings from to r name
old_seen space nodes owners kind root listings from to r name is_map agreed is = record {
  is_map = is_map;
  sound = old_sound kind space nodes owners root listings agreed;
  held = agreed.walked.held;
  forms = agreed.walked.forms;
  bodies = agreed.walked.bodies;
  known = is.known (record { kind = kind; layout = Layout.Old space; listings = listings }) (old_sound kind space nodes owners root listings agreed)
      (record { layout = refl; nodes = agreed.walked.held; owners = agreed.owned });
  name_is = is.name_is;
  good = is.good;
}

-- ---- before anything is written

can_prepare : (layout : Layout) (nodes : Nodes) (owners : List Owner) (r : Renaming) (from to : Path) (name : List ℕ) (kind : Kind) → IsMapOf layout → Agree kind (parts layout nodes owners)
    → IsRenamer (parts layout nodes owners) from to r name → NoneGrows (parts layout nodes owners) (jobs.Move r) name → is_copied_job (parts layout nodes owners) r ≡ false
    → CanPrepareJob (parts layout nodes owners) (jobs.Move r) name
can_prepare (Layout.New m) nodes owners r from to name kind is a it grows plain =
    can_prepare_job (parts (Layout.New m) nodes owners) kind a r from to name it is (λ space at. absurd (cc)) grows plain
can_prepare (Layout.Old space) nodes owners r from to name kind is a it grows plain =
    can_prepare_job (parts (Layout.Old space) nodes owners) kind a r from to name it is.0 (λ other at. subst LieBehind (one space other at) is.1) grows plain
  where
    one : (a b : OldMapContent) → Layout.Old a ≡ Layout.Old b → a ≡ b
    one a b same = cc

-- ---- a change that is prepared

module _ (law : outcomes.MovingLaw) (nodes : Nodes) (owners : List Owner) (r : Renaming) (from to : Path) (name : List ℕ) (p : Prepared) where
  -- what is known of its job
  pub record IsAsked (layout : Layout) : Type 0 where
    pub renames : IsRenamer (parts layout nodes owners) from to r name
    pub prep : IsPreparedFor (parts layout nodes owners) (jobs.Move r) name p
    pub grows : NoneGrows (parts layout nodes owners) (jobs.Move r) name
    pub plain : is_copied_job (parts layout nodes owners) r ≡ false

  can_write : (layout : Layout) (kind : Kind) (n : ℕ) → IsMapOf layout → Agree kind (parts layout nodes owners) → IsAsked layout → disc_sectors layout ≤ n → PlacesSuffice layout → CanWriteOn layout n p.ready
  can_write (Layout.New m) kind n is a it room suffice =
      let on = agreed_law.named kind (parts (Layout.New m) nodes owners) m refl is a in
      new.can_write law m nodes owners is r name p it.prep it.grows it.plain kind a.root a.listings on from to (new_seen m nodes owners kind a.root a.listings from to r name on it.renames) n room suffice
  can_write (Layout.Old space) kind n is a it room suffice =
      let on = space_law.named kind (parts (Layout.Old space) nodes owners) space refl is.0 is.1 a in
      old.can_write law space nodes owners is.0 r name p it.prep it.grows it.plain kind a.root a.listings on from to (old_seen space nodes owners kind a.root a.listings from to r name is.0 on it.renames) n room suffice

  -- the map stays
  layout_stays : (layout layout' : Layout) → IsMapOf layout → IsAsked layout → IsGivenOn layout p.ready layout' → layout' ≡ layout
  layout_stays (Layout.New m) (Layout.New m') is it given = ap Layout.New (new.map_stays law m nodes owners is r name p it.prep it.grows it.plain m' given)
  layout_stays (Layout.Old space) (Layout.Old now) is it given = ap Layout.Old (given ∙ old.map_stays law space nodes owners is.0 r name p it.prep it.grows it.plain)
  layout_stays (Layout.New m) (Layout.Old now) is it given = absurd given
  layout_stays (Layout.Old space) (Layout.New m') is it given = absurd given

  -- What is taken over can be: the nodes are there, and so is the owner.
  can_take : (layout : Layout) (kind : Kind) (number room : ℕ) → IsMapOf layout → Agree kind (parts layout nodes owners) → IsAsked layout
      → CanTakeOver layout nodes (owners_admitted layout p.change.object number owners) room p.change
  can_take layout kind number room is a it =
      let h = parts layout nodes owners in
      let x = seen h kind a r from to name it.renames (map_in layout is) in
      let change = prepared.change layout nodes owners r name p it.prep it.grows it.plain in
      let turned = turns_it layout nodes a.listings from to r name x None p.change change in
      let e = renamed_entry change.was name change.was.address in
      let same : owners_admitted layout p.change.object number owners ≡ owners =
      ap (λ (y : Turned). owners_admitted layout y number owners) turned ∙ admitted layout nodes a.listings from to r name x owners a.owned number in
      record {
        says = λ s at.
            (let q = told_by nodes (told nodes (jobs.Move r) name None e) p.change.says.items change.tells s at in
            subst (λ (n : ℕ). IsSome (get nodes n)) (sym q.2.number) (ap is_some (have_places layout nodes a.listings from to r name x h refl refl e q.0 q.1).there));
        object = subst (CanTurnNode nodes room) (sym turned) (target_of.has_node layout nodes a.listings x.sound x.held from r.target x.known.target);
        owner = subst (λ (os : List Owner). CanTurnOwner layout os p.change.object) (sym same)
            (subst (CanTurnOwner layout owners) (sym turned) (can_turn layout nodes a.listings from to r name x owners a.owned));
        grown = subst (CanRegrowNode nodes (owners_admitted layout p.change.object number owners)) (sym change.none) tt;
      }

  -- by any walk, the owner goes from the one directory to the other
  goes : (layout : Layout) (listings : List Listing) (x : IsSeen layout nodes listings from to r name) (owners' : List Owner) (number : ℕ) → IsAsked layout → AreOwners owners nodes layout (objects_of listings)
      → AreOwnersAfter layout nodes p.change (owners_admitted layout p.change.object number owners) owners'
      → OwnersEdited owners owners' (owners_with layout r.target.holder r.target.node (o layout nodes listings from to r name x)) (owners_with layout r.holder r.target.node (o layout nodes listings from to r name x))
  goes layout listings x owners' number it owned run =
      let change = prepared.change layout nodes owners r name p it.prep it.grows it.plain in
      edited layout nodes listings from to r name x owners owned p.change owners' change.none (turns_it layout nodes listings from to r name x None p.change change) number run

  -- ---- after it

  agrees : (layout : Layout) (kind : Kind) (nodes' : Nodes) (owners' : List Owner) (number : ℕ) → IsMapOf layout → Agree kind (parts layout nodes owners) → IsAsked layout → nodes' ≡ nodes_after p.change number nodes
      → AreOwnersAfter layout nodes p.change (owners_admitted layout p.change.object number owners) owners' → Agree kind (parts layout nodes' owners') × KeepsBehind layout
  agrees (Layout.New m) kind nodes' owners' number is a it nodes_are run =
      let on = agreed_law.named kind (parts (Layout.New m) nodes owners) m refl is a in
      let x = new_seen m nodes owners kind a.root a.listings from to r name on it.renames in (
        subst (λ (ns : Nodes). Agree kind (parts (Layout.New m) ns owners')) (sym nodes_are)
            (new.agrees law m nodes owners is r name p it.prep it.grows it.plain kind a.root a.listings on from to x owners' number (goes (Layout.New m) a.listings x owners' number it on.owned run)),
        tt,
      )
  agrees (Layout.Old space) kind nodes' owners' number is a it nodes_are run =
      let on = space_law.named kind (parts (Layout.Old space) nodes owners) space refl is.0 is.1 a in
      let x = old_seen space nodes owners kind a.root a.listings from to r name is.0 on it.renames in (
        subst (λ (ns : Nodes). Agree kind (parts (Layout.Old space) ns owners')) (sym nodes_are)
            (old.agrees law space nodes owners is.0 r name p it.prep it.grows it.plain kind a.root a.listings on from to x owners' number (goes (Layout.Old space) a.listings x owners' number it on.owned run)),
        is.1,
      )

  -- ---- on the disc

  changes : (layout : Layout) (kind : Kind) (nodes' : Nodes) (owners' : List Owner) (number : ℕ) (was bytes image : List ℕ) → IsMapOf layout → Agree kind (parts layout nodes owners) → IsAsked layout
      → nodes' ≡ nodes_after p.change number nodes → AreOwnersAfter layout nodes p.change (owners_admitted layout p.change.object number owners) owners'
      → IsChangedOn layout layout p.ready bytes was image → HasFront layout was → ChangesParts (Command.Rename from to) (parts layout nodes owners) (parts layout nodes' owners') was image
  changes (Layout.New m) other nodes' owners' number was bytes image is a it nodes_are run changed long kind view opens held =
      let at : view.layout ≡ Layout.New m = sym held.layout in
      let same = opened_as kind was view (Layout.New m) opens at in
      let on = new_view m nodes owners other is a kind was view opens held in
      let x = new_seen m nodes owners kind on.0 view.listings from to r name on.1 it.renames in
      let v : Opened = record { kind = kind; layout = Layout.New m; listings = view.listings } in
      let not_copied = plain_is v nodes x.sound x.held from to r x.known name x.name_is (parts (Layout.New m) nodes owners) refl (record { layout = refl; nodes = x.held; owners = on.1.owned }) it.plain in
      subst (λ (w : Opened). Outcome kind was image w (Command.Rename from to) (parts (Layout.New m) nodes' owners')) same
      (subst (λ (ns : Nodes). Outcome kind was image v (Command.Rename from to) (parts (Layout.New m) ns owners')) (sym nodes_are)
      (new.outcome law m nodes owners is r name p it.prep it.grows it.plain kind on.0 view.listings on.1 from to x owners' number (goes (Layout.New m) view.listings x owners' number it on.1.owned run) was bytes image
      (subst (OpensAs was kind) (sym same) opens) not_copied changed))
  changes (Layout.Old space) other nodes' owners' number was bytes image is a it nodes_are run changed long kind view opens held =
      let at : view.layout ≡ Layout.Old space = sym held.layout in
      let same = opened_as kind was view (Layout.Old space) opens at in
      let on = old_view space nodes owners other is.0 is.1 a kind was view opens held in
      let x = old_seen space nodes owners kind on.0 view.listings from to r name is.0 on.1 it.renames in
      let v : Opened = record { kind = kind; layout = Layout.Old space; listings = view.listings } in
      let not_copied = plain_is v nodes x.sound x.held from to r x.known name x.name_is (parts (Layout.Old space) nodes owners) refl (record { layout = refl; nodes = x.held; owners = on.1.owned }) it.plain in
      subst (λ (w : Opened). Outcome kind was image w (Command.Rename from to) (parts (Layout.Old space) nodes' owners')) same
      (subst (λ (ns : Nodes). Outcome kind was image v (Command.Rename from to) (parts (Layout.Old space) ns owners')) (sym nodes_are)
      (old.outcome law space nodes owners is.0 r name p it.prep it.grows it.plain kind on.0 view.listings on.1 from to x owners' number (goes (Layout.Old space) view.listings x owners' number it on.1.owned run) was bytes image
      (subst (OpensAs was kind) (sym same) opens) long not_copied changed))

  -- At any moment nothing differs but its directories.
  places : (layout : Layout) (kind : Kind) (was bytes image : List ℕ) → IsMapOf layout → Agree kind (parts layout nodes owners) → IsAsked layout → ChangeLeavesOn layout p.ready bytes was image
      → WritesPlacesOf (Command.Rename from to) (parts layout nodes owners) was image
  places (Layout.New m) other was bytes image is a it left kind view opens held =
      let on = new_view m nodes owners other is a kind was view opens held in
      new.places law m nodes owners is r name p it.prep it.grows it.plain kind on.0 view.listings on.1 from to (new_seen m nodes owners kind on.0 view.listings from to r name on.1 it.renames) was view opens
      (sym held.layout) refl image (leaves_law.frame m p.ready bytes was image left)
  places (Layout.Old space) other was bytes image is a it left kind view opens held =
      let on = old_view space nodes owners other is.0 is.1 a kind was view opens held in
      old.places law space nodes owners is.0 r name p it.prep it.grows it.plain kind on.0 view.listings on.1 from to (old_seen space nodes owners kind on.0 view.listings from to r name is.0 on.1 it.renames) was view opens
      (sym held.layout) refl image (leaves_law.old_frame space p.ready bytes was image left)

-- ---- what is answered

short_is : (layout : Layout) (nodes : Nodes) (owners : List Owner) (r : Renaming) (from to : Path) (name : List ℕ) (w : Wants) (v : Opened) → IsRenamer (parts layout nodes owners) from to r name
    → NoneGrows (parts layout nodes owners) (jobs.Move r) name → is_copied_job (parts layout nodes owners) r ≡ false → AreWants (parts layout nodes owners) (jobs.Move r) name w → AreSound v.layout v.listings
    → ArePartsOf (parts layout nodes owners) v → short v (Command.Rename from to) ≡ shortage (parts layout nodes owners) w
short_is layout nodes owners r from to name w v it grows plain are sound held = by layout refl
  where
    h : Parts
    h = parts layout nodes owners

    known : IsRenaming nodes v.listings from to r
    known = it.known v sound held

    room : HasRoomOf nodes (jobs.Move r) name rooms.Fits
    room = subst (λ (g : Option Growth). HasRoomOf nodes (jobs.Move r) name (room_of g)) (grows w are) are.room

    not_copied : is_copied v from to known.target.object ≡ false
    not_copied = plain_is v nodes sound held.nodes from to r known name it.name_is (parts layout nodes owners) refl held plain

    by : (l : Layout) → layout ≡ l → short v (Command.Rename from to) ≡ shortage (parts layout nodes owners) w
    by (Layout.New m) at =
        new_short v nodes sound held.nodes from to r known name it.name_is not_copied room m owners w (wants_none (parts layout nodes owners) r name w grows plain are) (sym held.layout ∙ at)
        ∙ ap (λ (l : Layout). shortage (parts l nodes owners) w) (sym at)
    by (Layout.Old space) at =
        old_short v nodes sound held.nodes from to r known name it.name_is not_copied room space owners w (wants_none (parts layout nodes owners) r name w grows plain are) (sym held.layout ∙ at)
        ∙ ap (λ (l : Layout). shortage (parts l nodes owners) w) (sym at)

-- the laws of `rename`
pub move_laws : outcomes.MovingLaw → (layout : Layout) (nodes : Nodes) (owners : List Owner) (r : Renaming) (from to : Path) (name bytes : List ℕ) (kind : Kind) → IsMapOf layout → PlacesSuffice layout
    → Agree kind (parts layout nodes owners) → IsRenamer (parts layout nodes owners) from to r name → NoneGrows (parts layout nodes owners) (jobs.Move r) name → is_copied_job (parts layout nodes owners) r ≡ false
    → JobLaws kind (parts layout nodes owners) (jobs.Move r) name bytes
move_laws law layout nodes owners r from to name bytes kind is suffice a it grows plain =
    let h = parts layout nodes owners in
    let asked = λ (p : Prepared) (prep : IsPreparedFor h (jobs.Move r) name p). (let q : IsAsked law nodes owners r from to name p layout = record { renames = it; prep = prep; grows = grows; plain = plain } in q) in
    let stays = λ (p : Prepared) (layout' : Layout) (prep : IsPreparedFor h (jobs.Move r) name p) (given : IsGivenOn layout p.ready layout').
    layout_stays law nodes owners r from to name p layout layout' is (asked p prep) given in
    let after = λ (p : Prepared) (now : Parts) (number : ℕ) (prep : IsPreparedFor h (jobs.Move r) name p) (run : IsRun h now p number).
    subst (λ (l : Layout). AreOwnersAfter l nodes p.change (owners_admitted layout p.change.object number owners) now.owners) (stays p now.layout prep run.given) run.owners in
    record {
      can_prepare = can_prepare layout nodes owners r from to name kind is a it grows plain;
      can_write = λ p n prep room. can_write law nodes owners r from to name p layout kind n is a (asked p prep) room suffice;
      can_take = λ p layout' number room prep given more.
          subst (λ (l : Layout). CanTakeOver l nodes (owners_admitted layout p.change.object number owners) room p.change) (sym (stays p layout' prep given))
          (can_take law nodes owners r from to name p layout kind number room is a (asked p prep));
      agrees = λ p now number prep run.
          subst (λ (l : Layout). Agree kind (parts l now.nodes now.owners) × KeepsBehind l) (sym (stays p now.layout prep run.given))
          (agrees law nodes owners r from to name p layout kind now.nodes now.owners number is a (asked p prep) run.nodes (after p now number prep run));
      changes = λ c p now number was image j prep run changed long.
          (let its = renamer h kind a c r name bytes j in
          let at = stays p now.layout prep run.given in
          let mine : IsAsked law nodes owners r its.0 its.1 name p layout = record { renames = its.3; prep = prep; grows = grows; plain = plain } in
          subst (λ (d : Command). ChangesParts d h now was image) (sym its.2)
          (subst (λ (l : Layout). ChangesParts (Command.Rename its.0 its.1) h (parts l now.nodes now.owners) was image) (sym at)
          (changes law nodes owners r its.0 its.1 name p layout kind now.nodes now.owners number was bytes image is a mine run.nodes (after p now number prep run)
          (subst (λ (l : Layout). IsChangedOn layout l p.ready bytes was image) at changed) long)));
      places = λ c p was image j prep left.
          (let its = renamer h kind a c r name bytes j in
          let mine : IsAsked law nodes owners r its.0 its.1 name p layout = record { renames = its.3; prep = prep; grows = grows; plain = plain } in
          subst (λ (d : Command). WritesPlacesOf d h was image) (sym its.2) (places law nodes owners r its.0 its.1 name p layout kind was bytes image is a mine left));
      short_is = λ c w v j are sound held.
          (let its = renamer h kind a c r name bytes j in ap (short v) its.2 ∙ short_is layout nodes owners r its.0 its.1 name w v its.3 grows plain are sound held);
      full = λ c v j full sound held.
          (let its = renamer h kind a c r name bytes j in ap (short v) its.2 ∙ full_short v nodes sound held.nodes its.0 its.1 r (its.3.known v sound held) name its.3.name_is full);
    }
