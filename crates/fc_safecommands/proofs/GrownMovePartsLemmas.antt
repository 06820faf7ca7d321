-- `rename` by which a directory grows and nothing is copied, in the safe mode: the edit with its parts, which agree afterwards.
use Rattle.std.proofs.Common.{◌≡◌, ◌<◌, ◌*◌, ◌==◌, ◌&&◌, ◌||◌, ℕ, suc, zero, Bool, true, false, not, cond, filter, length, map, List, [], ◌∷◌, ◌++◌, refl, sym, ap, ap₂, subst, ◌∙◌, arith, eq-eqb, ne_eqb, Option, Some, None}
use Rattle.std.specs.Prelude.{Contains, IsPermutation}
use Rattle.std.specs.Int.{div_ceil}
use Rattle.std.specs.List.{list_any}
use Rattle.std.specs.Option.{option_and_then, option_map, option_map_or, unwrap_or}
use Rattle.std.proofs.lemmas.Bool.{eqb-true, lt-ltb}
use Rattle.std.proofs.lemmas.Grind.{div_ceil_times}
use Rattle.std.proofs.lemmas.List.Sorted.{list_any-IsPermutation}
use Rattle.fc_alloc.specs.declared.owner.Owner.{Owner}
use Rattle.fc_names.specs.Names.{is_same_path}
use Rattle.fc_names.specs.declared.name.NameForm.{NameForm}
use Rattle.fc_record.specs.declared.Geometry.{Geometry}
use Rattle.fc_newmap.specs.Map.{Map, is_used}
use Rattle.fc_image.specs.Layout.{Layout, dir_form, id_of, sectors_at}
use Rattle.fc_image.specs.Objects.{has_sectors, is_owner_of, objects_of}
use Rattle.fc_image.specs.Walk.{Object, object_size}
use Rattle.fc_image.proofs.PathsLemmas.{itself}
use Rattle.fc_changes.proofs.BasicLemmas.{clash}
use Rattle.fc_plan.specs.Giving.{is_one_of}
use Rattle.fc_tree.specs.Agree.{Agree}
use Rattle.fc_tree.specs.Parts.{owner_of}
use Rattle.fc_tree.proofs.MemberLemmas.{contains_here}
use Rattle.fc_image.proofs.EntriesLemmas.{later as contains_later}
use Rattle.fc_tree.proofs.WalkedLemmas.{listed_directory}
use Rattle.fc_dirs.specs.declared.Entry.{Entry}
use Rattle.fc_edits.specs.Edit.{Amended}
use Rattle.fc_edits.specs.NewPlaces.{GivesBack, is_taken}
use Rattle.fc_image.specs.effects.Steady.{is_given_back}
use Rattle.fc_placing.specs.Leaving.{is_kept}
use Rattle.fc_placing.specs.Places.{slack_left}
use Rattle.fc_placing.proofs.LeavingLemmas.{any_owner}
use Rattle.fc_edits.specs.Growing.{Growing, at_place, grown as grown_edit_of}
use Rattle.fc_edits.specs.Moving.{edit}
use Rattle.fc_dirs.specs.Directory.{directory_size}
use Rattle.fc_laws.specs.nodes.Edits.{Nodes}
use Rattle.fc_laws.proofs.lemmas.agree.BeforeLemmas.{new_shape}
use Rattle.fc_laws.specs.agree.Agreed.{parts_with}
use Rattle.fc_writing.specs.New.{IsTaken}
use Rattle.fc_change.specs.After.{AreOwnersAfter, nodes_after, owners_admitted}
use Rattle.fc_change.specs.declared.change.Regrowth.{Regrowth}
use Rattle.fc_change.specs.declared.job.Growth.{Growth}
use Rattle.fc_change.specs.declared.job.Job.TheVariants as jobs
use Rattle.fc_change.specs.declared.spaces.Spaces.{Spaces}
use Rattle.fc_change.specs.Drafts.{IsChangeOf}
use Rattle.fc_commands.specs.declared.stages.Prepared.{Prepared}
use Rattle.fc_commands.proofs.GrownMoveNodeLemmas as node_of
use Rattle.fc_commands.proofs.GrownMoveNodeLemmas.{growing_in}
use Rattle.fc_commands.proofs.GrownMoveDoneLemmas.{found_all}
use Rattle.fc_commands.proofs.GrownMoveReadyLemmas.{node_other, plain_entry}
use Rattle.fc_commands.proofs.GrownMoveRestLemmas as rest_of
use Rattle.fc_commands.proofs.GrownMoveRunLemmas.{owned_by}
use Rattle.fc_commands.proofs.GrownMoveSaidLemmas.{anew, it}
use Rattle.fc_commands.proofs.StayingLemmas.{count as sector_count}
use Rattle.fc_safe.specs.FirstNeeds.{moving_out, node_of as nodes_out}
use Rattle.fc_safe.specs.FirstSpace.{ArePlacedFirst}
use Rattle.fc_safe.proofs.PlannedLemmas.{grows_out}
use Rattle.fc_safe.specs.Staying.{remains}
use Rattle.fc_safeedits.specs.Relocation.{is_moved}
use Rattle.fc_safeedits.specs.SafeChange.{MovedParts, moves_in}
use Rattle.fc_safeedits.specs.SafeSpace.{SafeSpaceLaw}
use Rattle.fc_safeedits.specs.SafeGrownMoving.{GrownRenamedParts, SafeGrownMovingLaw}
use Rattle.fc_safecommands.specs.Anew.{IsReadyAnew}
use Rattle.fc_safecommands.proofs.GrownImageLemmas as image_of
use Rattle.fc_safecommands.proofs.GrownLaidLemmas.{grown, grown_new, is_grown, staying}
use Rattle.fc_safecommands.proofs.GrownMoveEditLemmas as edit_of
use Rattle.fc_safecommands.proofs.GrownMoveEditLemmas.{ShownMove}
use Rattle.fc_safecommands.proofs.GrownMoveJobLemmas.{GrownMove, form, growing, h, leaving_is, leaves_one, number as number_at}
use Rattle.fc_safecommands.proofs.GrownReachLemmas.{grown_is_at}
use Rattle.fc_safecommands.proofs.GrownSafelyLemmas as safely_of
use Rattle.fc_safecommands.proofs.GrownSpaceLemmas.{unused}
use Rattle.fc_safecommands.proofs.GrownSpotLemmas.{d, grown_is, grower}
use Rattle.fc_safecommands.proofs.GrownChangeLemmas.{exactly}
use Rattle.fc_safecommands.proofs.GrownStepLemmas as step_of
use Rattle.fc_safecommands.proofs.GrownStirLemmas.{GrowingJob, leaving, long}
use Rattle.fc_safecommands.proofs.GrownWrittenLemmas.{TellsThese}
use Rattle.fc_safecommands.proofs.OldPlaceLemmas.{one_by_one_is}

-- It is made ready; where it has room, its growth is told by the old map.
pub record MoveRun : Type 0 where
  pub a : GrownMove
  pub s : Spaces
  pub placed : ArePlacedFirst a.m (h a) (jobs.Move a.r) a.wants s
  pub p : Prepared
  pub change : IsChangeOf (h a) (jobs.Move a.r) a.name s p.change
  pub ready : IsReadyAnew a.m (h a) a.wants p.change s p.ready

abbrev pub shown_of : MoveRun → ShownMove
shown_of w = record { a = w.a; s = w.s; placed = w.placed; p = w.p; change = w.change; ready = w.ready; shown = safely_of.shown (growing w.a) w.s w.placed; few = safely_of.few (growing w.a) w.s w.placed }

module _ (w : MoveRun) where
  abbrev pub x : GrowingJob
  x = growing w.a

  abbrev pub tells : TellsThese (growing w.a) w.p.change
  tells = edit_of.tells (shown_of w)

  -- the directory that grows
  abbrev pub g : Growing
  g = growing_in (edit_of.e (shown_of w)) (edit_of.md (shown_of w)).part

  l_in : Contains (objects_of w.a.listings) w.a.seen.known.destination.listing.object
  l_in = (listed_directory (Layout.New w.a.m) w.a.listings w.a.seen.sound w.a.seen.known.destination.listing w.a.seen.known.destination.listed).0

  pub its : w.a.seen.known.destination.listing.object ≡ d (growing w.a)
  its =
      sym (grown_is (growing w.a) w.a.seen.known.destination.listing.object l_in
      (eq-eqb (owner_of w.a.nodes (Layout.New w.a.m) w.a.seen.known.destination.listing.object).node w.a.growth.node (ap (λ (n : Option ℕ). unwrap_or n 0) (number_at w.a))))

  pub len_is : g.len ≡ w.a.growth.len
  len_is = ap (λ (r : Regrowth). r.len) (step_of.grown_at (growing w.a) w.s w.placed).2.directory

  pub size : object_size (dir_form (Layout.New w.a.m)) (at_place g g.o).entry ≡ w.a.growth.len
  size =
      ap₂ (λ (b : Bool) (f : NameForm). cond b (directory_size f g.len) g.len) (listed_directory (Layout.New w.a.m) w.a.listings w.a.seen.sound w.a.seen.known.destination.listing w.a.seen.known.destination.listed).1 (form w.a)
      ∙ len_is

  pub sectors_are : g.sectors ≡ safely_of.shown (growing w.a) w.s w.placed
  sectors_are = one_by_one_is (safely_of.shown (growing w.a) w.s w.placed)

  -- an object that isn't at its path isn't it
  pub none_grown : (o : Object) → Contains (objects_of w.a.listings) o → is_same_path g.o.path o.path ≡ false → is_grown (growing w.a) o ≡ false
  none_grown o at other = by (is_grown (growing w.a) o) refl
    where
      by : (b : Bool) → is_grown (growing w.a) o ≡ b → b ≡ false
      by false e = refl
      by true e = absurd (let same : g.o ≡ o = its ∙ grown_is (growing w.a) o at e in let no : true ≡ false = sym (itself g.o.path) ∙ ap (λ (p : Object). is_same_path g.o.path p.path) same ∙ other in cc)

  -- and stays in its identifier
  pub stays_in : (o : Object) → is_grown (growing w.a) o ≡ false → (k : ℕ) → id_of o.entry.address ≡ k → remains (leaving (growing w.a)) k (owner_of w.a.nodes (Layout.New w.a.m) o) ≡ true
  stays_in o other k same =
      ap₂ (λ (b c : Bool). b && not c) (eq-eqb (id_of o.entry.address) k same) (by (is_one_of (leaving (growing w.a)) (owner_of w.a.nodes (Layout.New w.a.m) o).node) refl)
    where
      by : (b : Bool) → is_one_of (leaving (growing w.a)) (owner_of w.a.nodes (Layout.New w.a.m) o).node ≡ b → b ≡ false
      by false e = refl
      by true e = absurd (clash (is_grown (growing w.a) o) (eq-eqb (owner_of w.a.nodes (Layout.New w.a.m) o).node w.a.growth.node (leaves_one w.a (owner_of w.a.nodes (Layout.New w.a.m) o).node e)) other)

  module _ (m' : Map) (taken : IsTaken w.a.m w.p.ready m') (law : SafeSpaceLaw) (number : ℕ) (owners' : List Owner)
      (after : AreOwnersAfter (Layout.New m') w.a.nodes w.p.change (owners_admitted (Layout.New w.a.m) w.p.change.object number w.a.owners) owners') where
    abbrev pub nodes_now : Nodes
    nodes_now = nodes_after w.p.change number w.a.nodes

    abbrev pub moved : MovedParts
    moved = image_of.moved (growing w.a) w.s w.placed w.p.change (edit_of.tells (shown_of w)) w.p.ready w.ready m' taken law (nodes_after w.p.change number w.a.nodes) owners'

    pub geometry : m'.geometry ≡ w.a.m.geometry
    geometry = image_of.geometry (growing w.a) w.s w.placed w.p.change (edit_of.tells (shown_of w)) w.p.ready w.ready m' taken

    -- ---- its owner

    new_at : sectors_at (Layout.New m') g.address (object_size (dir_form (Layout.New m')) (at_place g g.o).entry) ≡ Some (grown (growing w.a) w.s w.placed)
    new_at =
        grown_is_at (growing w.a) w.s w.placed m' geometry
        (step_of.taken (growing w.a) w.s w.placed m' (image_of.done (growing w.a) w.s w.placed w.p.change (edit_of.tells (shown_of w)) w.p.ready w.ready m' taken) law) (at_place g g.o) size refl

    count : length (grown (growing w.a) w.s w.placed) ≡ div_ceil w.a.growth.len w.a.m.geometry.sector
    count =
        sector_count (Layout.New m') g.address (object_size (dir_form (Layout.New m')) (at_place g g.o).entry) (grown (growing w.a) w.s w.placed) new_at
        ∙ ap₂ (λ (n : ℕ) (k : Geometry). div_ceil n k.sector) (ap (λ (k : Geometry). object_size (dir_form (Layout.New (record { geometry = k; zones = [] }))) (at_place g g.o).entry) geometry ∙ size) geometry

    many : length g.sectors ≡ div_ceil w.a.growth.len w.a.m.geometry.sector
    many = ap (λ (ss : List ℕ). length ss) sectors_are ∙ safely_of.shown_many (growing w.a) w.s w.placed count

    pub some_sectors : has_sectors (at_place g g.o) ≡ true
    some_sectors = lt-ltb 0 (length g.sectors) (by (length g.sectors) many)
      where
        by : (n : ℕ) → n ≡ div_ceil w.a.growth.len w.a.m.geometry.sector → 0 < n
        by zero e = absurd (let low = long (growing w.a) in let t = (div_ceil_times w.a.growth.len w.a.m.geometry.sector (new_shape w.a.m w.a.agreed.is_map).some).0 in let none : div_ceil w.a.growth.len w.a.m.geometry.sector * w.a.m.geometry.sector ≡ 0 * w.a.m.geometry.sector = ap (λ (k : ℕ). k * w.a.m.geometry.sector) (sym e) in omega (arith, low, t, none))
        by (suc n) e = omega arith

    pub its_owner : node_of.IsGrownOwner (edit_of.e (shown_of w)) (edit_of.md (shown_of w)).part m'
    its_owner = node_of.grown_owner (edit_of.e (shown_of w)) (edit_of.md (shown_of w)).part m' (grown (growing w.a) w.s w.placed) (count ∙ sym many) new_at

    -- ---- what goes back

    abbrev q_it : Object
    q_it = it (edit_of.q (shown_of w))

    abbrev stay : List Object
    stay = (rest_of.rest (edit_of.q (shown_of w))).0

    abbrev then : Object
    then = (edit_of.e (shown_of w)).then

    -- An object that isn't the grown one owns its identifier if it stays in it.
    owns_as : (k : ℕ) (o : Object) → is_grown (growing w.a) o ≡ false → (has_sectors o && remains (leaving (growing w.a)) k (owner_of w.a.nodes (Layout.New w.a.m) o)) ≡ is_owner_of k o
    owns_as k o other = ap (λ (b : Bool). has_sectors o && b) (by (id_of o.entry.address == k) refl)
      where
        by : (b : Bool) → (id_of o.entry.address == k) ≡ b → remains (leaving (growing w.a)) k (owner_of w.a.nodes (Layout.New w.a.m) o) ≡ (id_of o.entry.address == k)
        by true e = stays_in o other k (eqb-true (id_of o.entry.address) k e) ∙ sym e
        by false e = ap (λ (b : Bool). b && not (is_one_of (leaving (growing w.a)) (owner_of w.a.nodes (Layout.New w.a.m) o).node)) e ∙ sym e

    -- So does the grown one at its new place.
    grown_owns : (k : ℕ) → is_used w.a.m k ≡ true
        → (has_sectors w.a.seen.known.destination.listing.object && remains (leaving (growing w.a)) k (owner_of w.a.nodes (Layout.New w.a.m) w.a.seen.known.destination.listing.object)) ≡ is_owner_of k (anew (edit_of.q (shown_of w)))
    grown_owns k used = by (moving_out w.a.m (h w.a) (Some w.a.growth)) refl
      where
        l : Object
        l = w.a.seen.known.destination.listing.object

        l_some : has_sectors l ≡ true
        l_some = ap has_sectors its ∙ (grower (growing w.a)).2.some

        l_node : (owner_of w.a.nodes (Layout.New w.a.m) l).node ≡ w.a.growth.node
        l_node = ap (λ (n : Option ℕ). unwrap_or n 0) (number_at w.a)

        left : (o : Option Growth) → moving_out w.a.m (h w.a) (Some w.a.growth) ≡ o → is_one_of (leaving (growing w.a)) (owner_of w.a.nodes (Layout.New w.a.m) l).node ≡ is_one_of (nodes_out o) w.a.growth.node
        left o e = ap (is_one_of (leaving (growing w.a))) l_node ∙ leaving_is w.a w.a.growth.node ∙ ap (λ (r : Option Growth). is_one_of (nodes_out r) w.a.growth.node) e

        by : (o : Option Growth) → moving_out w.a.m (h w.a) (Some w.a.growth) ≡ o → (has_sectors l && remains (leaving (growing w.a)) k (owner_of w.a.nodes (Layout.New w.a.m) l)) ≡ is_owner_of k (anew (edit_of.q (shown_of w)))
        by None e =
            ap₂ (λ (b c : Bool). b && ((id_of l.entry.address == k) && not c)) (l_some ∙ sym some_sectors) (left None e)
            ∙ ap (λ (b : Bool). has_sectors (at_place g g.o) && b) (and_true (id_of l.entry.address == k))
            ∙ ap (λ (n : ℕ). has_sectors (at_place g g.o) && (id_of n == k)) (sym (safely_of.address_by (growing w.a) w.s w.placed None e ∙ ap (λ (o : Object). o.entry.address) (sym its)))
          where
            and_true : (b : Bool) → (b && true) ≡ b
            and_true true = refl
            and_true false = refl
        by (Some r) e =
            let plan = (step_of.grown_at (growing w.a) w.s w.placed).2.plan in
            let fresh = unused (growing w.a) plan.id (grown_new (growing w.a) w.s w.placed r e) in
            let id : id_of g.address ≡ plan.id = ap id_of (safely_of.address_by (growing w.a) w.s w.placed (Some r) e) ∙ (let z : id_of (256 * plan.id) ≡ plan.id = omega arith in z) in
            let goes : is_one_of (nodes_out (Some r)) w.a.growth.node ≡ true =
            ap (λ (b : Bool). b || false) (eq-eqb r.node w.a.growth.node (ap (λ (o : Option Growth). option_map_or (λ (j : Growth). j.node) o 0) (sym (grows_out w.a.m (h w.a) (Some w.a.growth) r e)))) in
            ap (λ (c : Bool). has_sectors l && ((id_of l.entry.address == k) && not c)) (left (Some r) e ∙ goes)
            ∙ none (has_sectors l) (id_of l.entry.address == k)
            ∙ sym (ap (λ (b : Bool). has_sectors (at_place g g.o) && b) (ne_eqb (id_of g.address) k (λ same. clash (is_used w.a.m k) used (ap (is_used w.a.m) (sym same ∙ id) ∙ fresh))) ∙ and_none (has_sectors (at_place g g.o)))
          where
            none : (b c : Bool) → (b && (c && false)) ≡ false
            none true true = refl
            none true false = refl
            none false c = refl

            and_none : (b : Bool) → (b && false) ≡ false
            and_none true = refl
            and_none false = refl

    -- The identifiers that lose their objects, and those that move, go back.
    pub gives : GivesBack w.a.m moved.takings moved.gone w.a.listings (grown_edit_of (edit (edit_of.md (shown_of w)).c) g)
    gives = record {
      stay = stay;
      others = subst (λ (os : List Object). IsPermutation (objects_of w.a.listings) (os ++ stay)) (sym (edit_of.md (shown_of w)).part.leave) (rest_of.beside (edit_of.q (shown_of w)));
      exactly = λ k used.
          exactly (growing w.a) w.s w.placed (anew (edit_of.q (shown_of w)) ∷ then ∷ stay) k used (owned k used)
          ∙ ap (λ (os : List Object). is_given_back (objects_of w.a.listings) (os ++ stay) k || is_taken moved.takings k) (sym (edit_of.md (shown_of w)).part.join);
    }
      where
        owns : ℕ → Object → Bool
        owns k o = has_sectors o && remains (leaving (growing w.a)) k (owner_of w.a.nodes (Layout.New w.a.m) o)

        not_l : (o : Object) → Contains stay o → is_grown (growing w.a) o ≡ false
        not_l o at = ap (λ (n : ℕ). (owner_of w.a.nodes (Layout.New w.a.m) o).node == n) (sym (ap (λ (r : Regrowth). r.node) (step_of.grown_at (growing w.a) w.s w.placed).2.directory)) ∙ rest_of.other_l (edit_of.q (shown_of w)) o at

        not_it : is_grown (growing w.a) q_it ≡ false
        not_it = ne_eqb (owner_of w.a.nodes (Layout.New w.a.m) q_it).node w.a.growth.node (λ same. node_other (edit_of.q (shown_of w))
            (sym (ap (λ (n : Option ℕ). unwrap_or n 0) w.a.seen.known.target.node_is) ∙ same ∙ sym (ap (λ (r : Regrowth). r.node) (step_of.grown_at (growing w.a) w.s w.placed).2.directory)))

        all : (k : ℕ) (os : List Object) → ((o : Object) → Contains os o → is_grown (growing w.a) o ≡ false) → list_any (owns k) os ≡ list_any (is_owner_of k) os
        all k [] each = refl
        all k (o ∷ os) each = ap₂ (λ (b c : Bool). b || c) (owns_as k o (each o (contains_here o os))) (all k os (λ r at. each r (contains_later o r os at)))

        owned : (k : ℕ) → is_used w.a.m k ≡ true → list_any (is_owner_of k) (anew (edit_of.q (shown_of w)) ∷ then ∷ stay) ≡ (is_kept (step_of.shared (growing w.a)) k || list_any (remains (leaving (growing w.a)) k) w.a.owners)
        owned k used = sym (
            ap (λ (o : Option ℕ). is_kept o k || list_any (remains (leaving (growing w.a)) k) w.a.owners) none_shared
            ∙ list_any-IsPermutation (remains (leaving (growing w.a)) k) w.a.owners (map (owner_of w.a.nodes (Layout.New w.a.m)) (filter has_sectors (objects_of w.a.listings))) w.a.agreed.owned
            ∙ any_owner (remains (leaving (growing w.a)) k) (owner_of w.a.nodes (Layout.New w.a.m)) (objects_of w.a.listings)
            ∙ list_any-IsPermutation (owns k) (objects_of w.a.listings) (w.a.seen.known.destination.listing.object ∷ q_it ∷ stay) (rest_of.beside (edit_of.q (shown_of w)))
            ∙ ap₂ (λ (b c : Bool). b || c) (grown_owns k used) (ap₂ (λ (b c : Bool). b || c) (owns_as k q_it not_it ∙ same_owner k) (all k stay not_l)))
          where
            none_shared : step_of.shared (growing w.a) ≡ None
            none_shared = ap (λ (o : Option ℕ). option_map (λ (share : ℕ × ℕ). share.0) (option_and_then (λ (n : ℕ). slack_left w.a.m w.a.owners n w.a.wants.bytes) o)) w.a.are.slack

            same_owner : (i : ℕ) → is_owner_of i q_it ≡ is_owner_of i then
            same_owner i = ap (λ (n : ℕ). has_sectors q_it && (id_of n == i)) (sym (ap (λ (y : Entry). y.address) ((edit_of.md (shown_of w)).part.entry ∙ plain_entry (edit_of.plain (shown_of w)))))

    -- ---- the parts

    unfoldable pub parts : GrownRenamedParts moved
    parts = record {
      c = (edit_of.md (shown_of w)).c;
      growing = g;
      moving = (edit_of.md (shown_of w)).moves;
      grows = (edit_of.md (shown_of w)).part.grows;
      nodes_edited = node_of.nodes_edited (edit_of.e (shown_of w)) (edit_of.md (shown_of w)).part number;
      owners_edited = node_of.owners_edited (edit_of.e (shown_of w)) (edit_of.md (shown_of w)).part m' (owned_by (edit_of.plain (shown_of w)) (edit_of.md (shown_of w)) m' geometry) its_owner some_sectors number owners' after;
      gives = gives;
      some = subst (λ (n : ℕ). 0 < n) (sym len_is) (let low = long (growing w.a) in omega (arith, low));
      lies_grown = safely_of.safely (growing w.a) w.s w.placed w.p.change (edit_of.tells (shown_of w)) w.p.ready w.ready m' taken law nodes_now owners' g its refl len_is sectors_are size;
      moves = λ b at other. told_moves b at other;
      reaches = λ o at other moves.
          image_of.each_reaches (growing w.a) w.s w.placed w.p.change (edit_of.tells (shown_of w)) w.p.ready w.ready m' taken law nodes_now owners' o at moves
          (λ some. (
            none_grown o at other,
            staying (growing w.a) o at some
                (image_of.it_moves (growing w.a) w.s w.placed w.p.change (edit_of.tells (shown_of w)) w.p.ready w.ready m' taken law nodes_now owners' o moves) (stays_in o (none_grown o at other) (id_of o.entry.address) refl),
          ));
    }
      where
        told_moves : (b : Amended) → Contains (grown_edit_of (edit (edit_of.md (shown_of w)).c) g).amended b → is_same_path g.o.path b.was.object.path ≡ false → is_moved (moves_in moved) b.was.object ≡ true
        told_moves b at other =
            let order = (edit_of.md (shown_of w)).part.among b at in
            let found = found_all (edit_of.e (shown_of w)) (edit_of.md (shown_of w)).part b at in
            let there = (listed_directory (Layout.New w.a.m) w.a.listings w.a.seen.sound b.was found).0 in
            image_of.dir_moves (growing w.a) w.s w.placed w.p.change (edit_of.tells (shown_of w)) w.p.ready w.ready m' taken law nodes_now owners' b.was.object
            (edit_of.in_tells (shown_of w) b order) (none_grown b.was.object there other)

    -- They agree afterwards.
    pub agrees : SafeGrownMovingLaw → Agree w.a.kind (parts_with m' (nodes_after w.p.change number w.a.nodes) owners')
    agrees moving = moving.agrees moved parts
