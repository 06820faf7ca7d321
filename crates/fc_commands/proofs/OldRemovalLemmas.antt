-- `delete` on an old map: its space can go back, it can be written and taken over, and what it then promises.
use Rattle.std.proofs.Common.{◌≡◌, ◌<◌, ◌≤◌, ◌*◌, ◌||◌, ◌==◌, ◌⊎◌, inl, inr, ℕ, Bool, true, false, cond, List, [], ◌∷◌, ◌++◌, length, refl, sym, ap, ap₂, subst, ◌∙◌, arith, Option, Some}
use Rattle.std.specs.Prelude.{Contains, nat_lt, not}
use Rattle.std.specs.Option.{option_map_or}
use Rattle.std.proofs.lemmas.Bool.{cases_lt, lt-ltb, ne_eqb}
use Rattle.std.proofs.lemmas.Bool.Decides.{nat_tests}
use Rattle.fc_names.specs.Names.{Path}
use Rattle.fc_alloc.specs.declared.owner.Owner.{Owner}
use Rattle.fc_record.specs.declared.Kind.{Kind}
use Rattle.fc_oldmap.specs.declared.Hole.{Hole}
use Rattle.fc_oldmap.specs.Holes.{after_give, hole, hole_limit}
use Rattle.fc_oldmap.specs.OldMap.{OldMapContent, IsOldMap, map_units}
use Rattle.fc_model.specs.Command.{Command}
use Rattle.fc_image.specs.Layout.{Layout, dir_form, disc_sectors, map_place, sector_bytes}
use Rattle.fc_image.specs.Edits.{IsAt}
use Rattle.fc_image.specs.Objects.{has_sectors}
use Rattle.fc_image.specs.Opening.{Opened, reserved_in}
use Rattle.fc_image.specs.Sound.{AreSound}
use Rattle.fc_image.specs.Stays.{OpensAs}
use Rattle.fc_image.specs.Walk.{Listing, Object}
use Rattle.fc_image.specs.effects.Short.{old_need, space_of, with_space_of}
use Rattle.fc_image.specs.effects.Steady.{has_grown, has_new_holder}
use Rattle.fc_changes.specs.old.Owed.{IsBefore, IsMapAfter, holding}
use Rattle.fc_space.specs.Space.{PlacesSuffice}
use Rattle.fc_tree.specs.declared.node.Node.{Node}
use Rattle.fc_tree.specs.Agree.{Agree, AreWalked, HasForm}
use Rattle.fc_tree.specs.Nodes.{HoldObjects}
use Rattle.fc_tree.specs.Parts.{ArePartsOf, Parts}
use Rattle.fc_laws.specs.nodes.Edits.{Nodes}
use Rattle.fc_laws.proofs.lemmas.agree.BeforeLemmas.{agreed_law}
use Rattle.fc_laws.specs.old.agree.Laws.{AgreeOn, parts_with}
use Rattle.fc_laws.specs.old.agree.Spaces.{CanGive}
use Rattle.fc_laws.proofs.lemmas.old.agree.BeforeLemmas.{sound as old_sound}
use Rattle.fc_laws.proofs.lemmas.old.agree.GivenLemmas.{space_law}
use Rattle.fc_laws.proofs.lemmas.old.takeover.ApartLemmas.{places_law}
use Rattle.fc_edits.specs.Deletion.{Deletion, OldDeletion, holes_with_it, nodes_without}
use Rattle.fc_edits.proofs.lemmas.DeletionLemmas.{deletion_law}
use Rattle.fc_outcomes.specs.NewImage.{Outcome}
use Rattle.fc_outcomes.specs.Puts.{ArePutOut}
use Rattle.fc_outcomes.specs.Deletion as outcomes
use Rattle.fc_refusals.specs.Targets.{IsRemovable}
use Rattle.fc_refusals.specs.declared.target.Target.{Target}
use Rattle.fc_writing.specs.declared.ready.MapStep.{MapStep}
use Rattle.fc_writing.specs.declared.ready.MapStep.TheVariants as steps
use Rattle.fc_writing.specs.Laws.{ChangesOnly}
use Rattle.fc_writing.specs.Old.{CanWrite, IsChanged}
use Rattle.fc_writing.specs.Ready.{place_of, written_place}
use Rattle.fc_change.specs.declared.job.Job.TheVariants as jobs
use Rattle.fc_change.specs.After.{AreOwnersAfter, nodes_after}
use Rattle.fc_change.specs.Directories.{Rewriting}
use Rattle.fc_change.specs.OldSpace.{CanFree, LieBehind, map_given, map_taken, space_at, units_of, with_space_of as map_with}
use Rattle.fc_change.specs.Places.{ArePlacedOld, IsOldStep}
use Rattle.fc_commands.specs.declared.stages.Prepared.{Prepared}
use Rattle.fc_commands.specs.Promises.{WritesPlaces}
use Rattle.fc_commands.specs.Stages.{IsPreparedFor}
use Rattle.fc_commands.specs.Written.{map_after}
use Rattle.fc_commands.proofs.DirectoryLemmas.{can_put_old, fits_old}
use Rattle.fc_commands.proofs.EmptySpaceLemmas.{BringsNone, IsEmptySpace, IsOneReady, empty_space, one_ready}
use Rattle.fc_commands.proofs.OldMapLemmas.{after_both, both_steps, none_taken, of_disc}
use Rattle.fc_commands.proofs.PieceLemmas as piece
use Rattle.fc_commands.proofs.RemovalLemmas as removal
use Rattle.fc_commands.proofs.TargetLemmas as target_of
use Rattle.fc_commands.proofs.RemovalStageLemmas.{IsRemovalChange, MayGo, removal_change, removal_wants, view_of}

-- ---- the space of an object

some_times : (n u : ℕ) → (u ≡ 1) ⊎ (u ≡ 4) → nat_lt 0 n ≡ nat_lt 0 (n * u)
some_times n u (inl one) = let l : nat_lt 0 n ≡ nat_lt 0 (n * 1) = grind (arith, nat_tests) in subst (λ (k : ℕ). nat_lt 0 n ≡ nat_lt 0 (n * k)) (sym one) l
some_times n u (inr four) = let l : nat_lt 0 n ≡ nat_lt 0 (n * 4) = grind (arith, nat_tests) in subst (λ (k : ℕ). nat_lt 0 n ≡ nat_lt 0 (n * k)) (sym four) l

pub not_zero : (n : ℕ) → (n == 0) ≡ not (nat_lt 0 n)
not_zero n = elim (cases_lt 0 n) [
  | inl some ↦ ne_eqb n 0 (λ e. omega (arith, some, e)) ∙ sym (ap not (lt-ltb 0 n some))
  | inr none ↦ (let z : n ≡ 0 = omega (arith, none) in subst (λ (k : ℕ). (k == 0) ≡ not (nat_lt 0 k)) (sym z) refl)
]

module _ (space : OldMapContent) (o : Object) (is : IsOldMap space) (at : IsAt (Layout.Old space) o) where
  pub has_units : has_sectors o ≡ nat_lt 0 (units_of space o.entry)
  has_units = some_times (length o.sectors) space.sector_units is.units ∙ ap (nat_lt 0) (space_law.size space o at)

  pub space_is : space_of space o ≡ space_at space o.entry
  space_is = ap (hole o.entry.address) (space_law.size space o at)

  pub some_sectors : 0 < units_of space o.entry → has_sectors o ≡ true
  some_sectors some = has_units ∙ lt-ltb 0 (units_of space o.entry) some

  either : (b : Bool) → cond (not b) space (holding space (after_give (space_at space o.entry) space.holes)) ≡ holding space (cond b (after_give (space_at space o.entry) space.holes) space.holes)
  either true = refl
  either false = refl

  -- the map with it
  pub given_is : map_with o.entry space ≡ holding space (with_space_of space (Some o) space.holes)
  given_is = ap (λ (b : Bool). cond b space (holding space (after_give (space_at space o.entry) space.holes))) (not_zero (units_of space o.entry)) ∙ either (nat_lt 0 (units_of space o.entry))
      ∙ ap₂ (λ (b : Bool) (h : Hole). holding space (cond b (after_give h space.holes) space.holes)) (sym has_units) (sym space_is)

-- the map with the space of the object that goes
pub given_at : (space : OldMapContent) (nodes : Nodes) → IsOldMap space → (t : Target) (path : Path) (listings : List Listing) → (sound : AreSound (Layout.Old space) listings) (held : HoldObjects nodes listings)
    → (may : IsRemovable nodes listings path t) → map_given space nodes (Some t.node) space ≡ holding space (with_space_of space (Some may.target.object) space.holes)
given_at space nodes is t path listings sound held may =
    ap (λ (n : Option Node). option_map_or (λ (x : Node). map_with x.entry space) n space) (target_of.node_is (Layout.Old space) nodes listings sound held path t may.target)
    ∙ given_is space may.target.object is (target_of.placed (Layout.Old space) nodes listings sound held path t may.target)

-- ---- before anything is written

module _ (space : OldMapContent) (nodes : Nodes) (owners : List Owner) (is_map : IsOldMap space) (behind : LieBehind space) (t : Target) (path : Path) where
  abbrev h : Parts
  h = parts_with space nodes owners

  module _ (kind : Kind) (a : Agree kind h) (may : MayGo h path t) where
    abbrev sound : AreSound (Layout.Old space) a.listings
    sound = agreed_law.sound_by kind h a

    abbrev its : IsRemovable nodes a.listings path t
    its = may (view_of h kind a) sound (agreed_law.viewed kind h a)

    abbrev its_object : Object
    its_object = its.target.object

    its_place : IsAt (Layout.Old space) its_object
    its_place = target_of.placed (Layout.Old space) nodes a.listings sound a.walked.held path t its.target

    -- the object's space can go back, if it has some
    can_free_it : CanFree space 0 nodes t.node
    can_free_it = record {
      node = target_of.node (Layout.Old space) nodes a.listings sound a.walked.held path t its.target;
      there = target_of.node_is (Layout.Old space) nodes a.listings sound a.walked.held path t its.target;
      free = λ some.
          subst (CanGive space (map_taken space 0).holes) (space_is space its_object is_map its_place)
          (space_law.given kind space nodes owners a.root a.listings its_object (old_need space 0) (space_law.named kind h space refl is_map behind a)
          (target_of.among (Layout.Old space) nodes a.listings sound a.walked.held path t its.target) (some_sectors space its_object is_map its_place some));
    }

    pub can_free : (other : OldMapContent) (n : ℕ) → Layout.Old space ≡ Layout.Old other → n ≡ t.node → CanFree other 0 nodes n
    can_free other n same is = subst (λ (s : OldMapContent). CanFree s 0 nodes n) (one space other same) (subst (CanFree space 0 nodes) (sym is) can_free_it)
      where
        one : (x y : OldMapContent) → Layout.Old x ≡ Layout.Old y → x ≡ y
        one x y e = cc

  -- ---- what is ready

  module _ (outcome_law : outcomes.DeletionLaw) (name : List ℕ) (p : Prepared) (prep : IsPreparedFor h (jobs.Removal t) name p) where
    abbrev spaced : ArePlacedOld space h prep.wants prep.spaces
    spaced = prep.spaced.places

    empty : IsEmptySpace prep.spaces
    empty = empty_space h prep.wants (removal_wants h t name prep.wants prep.spaced.wants) prep.spaces prep.spaced.places

    pub change : IsRemovalChange nodes t p.change
    change = removal_change h t name prep.spaces p.change empty.grown prep.change

    pub ready : IsOneReady (Layout.Old space) nodes change.said prep.spaces p.ready
    ready = one_ready h p.change prep.spaces p.ready change.said empty change.says (subst BringsNone (sym change.goes) tt) prep.ready

    -- ---- the map

    abbrev now : OldMapContent
    now = map_given space nodes (Some t.node) space

    taken_is : map_taken space prep.wants.bytes ≡ space
    taken_is = ap (map_taken space) prep.spaced.wants.bytes ∙ none_taken space is_map

    takes : IsOldStep space space p.ready.take
    takes = subst (IsOldStep space space) (sym ready.take) (subst (λ (m : OldMapContent). IsOldStep space m prep.spaces.take) taken_is spaced.take)

    gives : IsOldStep space now p.ready.give
    gives =
        subst (IsOldStep space now) (sym ready.give)
        (subst (λ (n : Option ℕ). IsOldStep space (map_given space nodes n space) prep.spaces.give) prep.spaced.wants.left
        (subst (λ (m : OldMapContent). IsOldStep m (map_given space nodes prep.wants.goes m) prep.spaces.give) taken_is spaced.give))

    pub map_is : map_after space p.ready ≡ now
    map_is = after_both space space now p.ready takes gives

    -- for any walk
    module _ (listings : List Listing) (sound' : AreSound (Layout.Old space) listings) (held : HoldObjects nodes listings) (may : IsRemovable nodes listings path t) where
      abbrev o : Object
      o = may.target.object

      pub now_is : now ≡ holding space (with_space_of space (Some o) space.holes)
      now_is = given_at space nodes is_map t path listings sound' held may

      few : (step : MapStep) → IsOldStep space now step → length now.holes ≤ hole_limit
      few steps.Nothing is = subst (λ (m : OldMapContent). length m.holes ≤ hole_limit) (sym is) is_map.few
      few (steps.New s) is = absurd is
      few (steps.Old m) is = is.1

      pub few_now : length (with_space_of space (Some o) space.holes) ≤ hole_limit
      few_now = subst (λ (m : OldMapContent). length m.holes ≤ hole_limit) now_is (few p.ready.give gives)

      abbrev dir : Object
      dir = may.target.listing.object

      -- it can be written
      module _ (kind : Kind) (a : Agree kind h) (same : a.listings ≡ listings) (n : ℕ) (room : disc_sectors (Layout.Old space) ≤ n) (suffice : PlacesSuffice (Layout.Old space))
          (form : (k : Listing) → Contains listings k → HasForm (dir_form (Layout.Old space)) k.object.entry.len k.content) where
        pub can_write : CanWrite n space p.ready
        can_write = record {
          put = can_put_old kind space nodes a.root listings dir n is_map
              (record {
                walked = subst (AreWalked nodes (Layout.Old space) (reserved_in kind (Layout.Old space)) a.root.entry.address a.root.entry.len) same a.walked;
                among = target_of.dir_among (Layout.Old space) nodes listings sound' held path t may.target;
                room = room;
                suffice = suffice;
              }) p.ready ready.piece ready.one
              (target_of.place_is (Layout.Old space) nodes listings sound' held path t may.target (Rewriting.Leaves t.at) change.said change.tells ready.piece ready.is_piece);
          take = of_disc space space space p.ready.take takes refl;
          give = of_disc space space now p.ready.give gives (now_is ∙ ap (λ (m : OldMapContent). holding space m.holes) (sym now_is));
        }

    -- ---- after it

    module _ (owners' : List Owner) (number : ℕ) (now' : OldMapContent) (map_now : now' ≡ now) (after_owners : AreOwnersAfter (Layout.Old now') nodes p.change owners owners')
        (kind : Kind) (root : Node) (listings : List Listing) (agreed : AgreeOn kind space nodes owners root listings) (may : IsRemovable nodes listings path t) where
      abbrev pub nodes' : Nodes
      nodes' = nodes_after p.change number nodes

      abbrev before : AreSound (Layout.Old space) listings
      before = old_sound kind space nodes owners root listings agreed

      abbrev d : Deletion
      d = removal.deletion (Layout.Old space) nodes listings before agreed.walked.held path t may agreed.walked.forms change.said change.tells ready.piece ready.is_piece

      pub deletes : OldDeletion
      deletes = record {
        kind = kind;
        space = space;
        nodes = nodes;
        nodes' = nodes_without d nodes;
        owners = owners;
        owners' = owners';
        root = root;
        listings = listings;
        c = d;
        agreed = agreed;
        deletion = removal.is_deletion (Layout.Old space) nodes listings before agreed.walked.held path t may agreed.walked.forms change.said change.tells ready.piece ready.is_piece;
        nodes_edited = deletion_law.nodes nodes (Layout.Old space) listings d (record { sound = before; held = agreed.walked.held })
            (removal.is_deletion (Layout.Old space) nodes listings before agreed.walked.held path t may agreed.walked.forms change.said change.tells ready.piece ready.is_piece);
        owners_edited = removal.owners_are (Layout.Old space) nodes listings before agreed.walked.held path t may owners owners' agreed.owned
            (removal.owners_after (Layout.Old now') nodes p.change t.node owners owners' change.none change.goes after_owners);
        few = few_now listings before agreed.walked.held may;
      }

      nodes_same : nodes_without d nodes ≡ nodes'
      nodes_same =
          sym (removal.nodes_are (Layout.Old space) nodes listings before agreed.walked.held path t may agreed.walked.forms change.said change.tells ready.piece ready.is_piece p.change number change.none change.goes change.says)

      -- the map is the one after it
      pub space_same : holding space (holes_with_it space d) ≡ now'
      space_same = sym (map_now ∙ now_is listings before agreed.walked.held may)

      abbrev Now : OldMapContent → Nodes → Type 0
      Now m ns = Agree kind (parts_with m ns owners') × LieBehind m

      -- the parts agree
      pub agrees : Now now' nodes'
      unfolding deletes
      agrees =
          let after = deletion_law.old deletes in
          let all : Agree kind (parts_with (holding space (holes_with_it space d)) (nodes_without d nodes) owners') = record {
            root = after.root;
            root_is = after.agree.root_is;
            listings = after.found;
            walked = after.agree.walked;
            map_placed = refl;
            owned = after.agree.owned;
          } in
          let both : Now (holding space (holes_with_it space d)) (nodes_without d nodes) = (all, after.agree.holes) in
          subst (λ (m : OldMapContent). Now m nodes') space_same (subst (Now (holding space (holes_with_it space d))) nodes_same both)

      -- and the command has done what it promises
      module _ (was bytes image : List ℕ) (opens : OpensAs was kind (record { kind = kind; layout = Layout.Old space; listings = listings })) (long : 256 * map_units space.sector_units ≤ length was)
          (changed : IsChanged space p.ready bytes was image) where
        abbrev l : Object
        l = may.target.listing.object

        sectors_same : place_of ready.piece ≡ l.sectors
        sectors_same = target_of.place_is (Layout.Old space) nodes listings before agreed.walked.held path t may.target (Rewriting.Leaves t.at) change.said change.tells ready.piece ready.is_piece

        leaves : outcomes.LeavesOut path (Layout.Old space) listings d ready.piece.bytes.items
        leaves = removal.leaves (Layout.Old space) nodes listings before agreed.walked.held path t may agreed.walked.forms change.said change.tells ready.piece ready.is_piece

        enough : length ready.piece.bytes.items ≤ length (place_of ready.piece) * sector_bytes (Layout.Old space)
        enough = fits_old space l ready.piece is_map (target_of.dir_placed (Layout.Old space) nodes listings before agreed.walked.held path t may.target) sectors_same leaves.long

        map_there : IsMapAfter space (holes_with_it space d) was image
        map_there =
            subst (λ (m : OldMapContent). IsMapAfter space m.holes was image) (now_is listings before agreed.walked.held may)
            (both_steps space is_map space now p.ready was image refl long takes gives changed.map)

        abbrev view : Opened
        view = record { kind = kind; layout = Layout.Old space; listings = listings }

        pub outcome : Outcome kind was image view (Command.Delete path) (parts_with now' nodes' owners')
        unfolding deletes
        outcome =
            subst (λ (m : OldMapContent). Outcome kind was image view (Command.Delete path) (parts_with m nodes' owners')) space_same
            (subst (λ (ns : Nodes). Outcome kind was image view (Command.Delete path) (parts_with (holding space (holes_with_it space d)) ns owners')) nodes_same
            (outcome_law.old deletes path ready.piece.bytes.items was image
            (record {
              opens = opens;
              leaves = leaves;
              out = subst (λ (ss : List ℕ). ArePutOut (Layout.Old space) (record { sectors = ss; bytes = ready.piece.bytes.items } ∷ []) was image) sectors_same
                  (piece.put_out p.ready ready.piece ready.one (Layout.Old space) was bytes image enough changed.written changed.others);
              after = map_there;
            })))

    -- ---- at any moment

    module _ (kind : Kind) (was : List ℕ) (view : Opened) (opens : OpensAs was kind view) (parts : ArePartsOf h view) (root : Node) (agreed : AgreeOn kind space nodes owners root view.listings)
        (may : IsRemovable nodes view.listings path t) (image : List ℕ) (only : ChangesOnly (sector_bytes (Layout.Old space)) (written_place p.ready ++ map_place (Layout.Old space)) was image) where
      abbrev then : AreSound (Layout.Old space) view.listings
      then = old_sound kind space nodes owners root view.listings agreed

      pub places : WritesPlaces (Layout.Old space) kind view (Command.Delete path) was image
      places =
          let before : IsBefore kind was view space = record { opens = opens; layout = sym parts.layout; is_map = is_map } in
          let may_write = places_law.directory kind was view space (Command.Delete path) may.target.listing before may.target.listed
          (ap (λ (b : Bool). b || false || has_grown view (Command.Delete path) may.target.listing.object.path || has_new_holder view (Command.Delete path) may.target.listing.object.path) may.target.above) in
          record {
            sectors = may.target.listing.object.sectors;
            only = subst (λ (ss : List ℕ). ChangesOnly (sector_bytes (Layout.Old space)) (ss ++ map_place (Layout.Old space)) was image)
                (target_of.place_is (Layout.Old space) nodes view.listings then agreed.walked.held path t may.target (Rewriting.Leaves t.at) change.said change.tells ready.piece ready.is_piece)
                (piece.changes_only p.ready ready.piece ready.one (sector_bytes (Layout.Old space)) (map_place (Layout.Old space)) was image only);
            may = (may_write, places_law.spared kind was view space (Command.Delete path) may.target.listing.object.sectors before may_write);
          }
