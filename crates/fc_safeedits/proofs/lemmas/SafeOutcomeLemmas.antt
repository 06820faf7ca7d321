-- What a command in the safe mode has done.
use Rattle.std.proofs.Common.{◌≡◌, ◌<◌, ◌≤◌, inl, inr, ⊎_elim, ℕ, Bool, true, false, not, cond, ◌&&◌, ◌||◌, List, [], ◌∷◌, ◌++◌, drop, map, refl, sym, ap, ap₂, subst, ◌∙◌, arith, Option}
use Rattle.std.specs.Prelude.{Contains, IsPermutation, IsSomeAnd, nat_le, ◌==◌}
use Rattle.std.specs.List.{fold, list_any}
use Rattle.std.proofs.lemmas.Bool.{leb-true, false_from_ne_true as unless}
use Rattle.std.proofs.lemmas.List.{append-nil}
use Rattle.std.proofs.lemmas.List.Elements.{Contains-append_cases, Contains-append_left}
use Rattle.fc_names.specs.Names.{is_same_path}
use Rattle.fc_record.specs.Kinds.{disc_size}
use Rattle.fc_newmap.specs.Map.{Map, ZoneRun, hole_runs, is_used}
use Rattle.fc_newmap.specs.Copies.{HoldsCopies}
use Rattle.fc_record.specs.declared.Geometry.{Geometry}
use Rattle.fc_model.specs.Answer.{changed}
use Rattle.fc_model.specs.Command.{Command}
use Rattle.fc_image.specs.Layout.{Layout}
use Rattle.fc_image.specs.Walk.{Listing, Object, is_directory_object}
use Rattle.fc_image.specs.Objects.{is_lost, is_movable, is_owned, listing_at, objects_of, tree_of}
use Rattle.fc_image.specs.Opening.{Opened, boot_place}
use Rattle.fc_image.specs.Report.{holder_address}
use Rattle.fc_image.specs.Sound.{AreSound}
use Rattle.fc_image.specs.effects.Placed.{holes_left}
use Rattle.fc_image.specs.effects.Steady.{DirectorySteady, IsRewritten, MapOutside, expected_zone, holes_with, idle_sectors, is_gone, keeps_runs, may_be_rewritten, path_after, runs_that, zone_holes}
use Rattle.fc_image.specs.safe.SafeSteady.{ChangedRewritten, SafeMapSteady, SafeSpaceSteady, need_ids}
use Rattle.fc_image.proofs.LookupLemmas.{lookup_law}
use Rattle.fc_image.proofs.TreeLemmas.{tree_edit_law}
use Rattle.fc_plan.specs.Giving.{is_one_of}
use Rattle.fc_changes.proofs.AfterLemmas.{behind_stays}
use Rattle.fc_changes.proofs.OutsideLemmas.{AreBusy, idle_stay}
use Rattle.fc_changes.proofs.SpaceLemmas.{no_runs}
use Rattle.fc_tree.proofs.MemberLemmas.{from_map, in_map, no_element}
use Rattle.fc_laws.specs.agree.Agreed.{parts_with}
use Rattle.fc_laws.proofs.lemmas.nodes.ListLemmas.{in_other}
use Rattle.fc_laws.proofs.lemmas.takeover.KindLemmas.{same_sectors}
use Rattle.fc_edits.specs.Edit.{Amended, Edit, listings_after, joining, now, objects}
use Rattle.fc_edits.specs.NewPlaces.{Taking, is_taken, untaken}
use Rattle.fc_edits.specs.PartsEdit.{PartsEdit}
use Rattle.fc_edits.proofs.lemmas.ListLemmas.{map_map}
use Rattle.fc_edits.proofs.lemmas.NewAgreeLemmas as na
use Rattle.fc_edits.proofs.lemmas.NewPlaceLemmas as np_
use Rattle.fc_edits.proofs.lemmas.OwnedLemmas.{owned_now}
use Rattle.fc_outcomes.specs.Done.{IsDone}
use Rattle.fc_outcomes.specs.Steady.{AreAsked}
use Rattle.fc_outcomes.proofs.lemmas.SteadyLemmas.{directories_steady, now_in}
use Rattle.fc_safelaws.proofs.FreeLemmas.{free_space_law}
use Rattle.fc_safeedits.specs.Relocation.{Relocation, all_amended, amended_in, relocated, told_again, turned_in}
use Rattle.fc_safeedits.specs.SafeImage.{SafeImage, before_image}
use Rattle.fc_safeedits.specs.SafeOutcome.{AreSafelyAsked, IsSafeSpaceAsked, IsSafelyAsked, IsSafelyDone, SafeOutcome, SafeOutcomeLaw, is_now, was}
use Rattle.fc_safecrash.proofs.BusyLemmas.{free_busy, the_map}
use Rattle.fc_safeedits.proofs.lemmas.LaidLemmas.{amended_or_told, was_all}
use Rattle.fc_safeedits.proofs.lemmas.RelocatedLemmas.{turned_path}
use Rattle.fc_safeedits.proofs.lemmas.SafeBytesLemmas.{free, told_body}
use Rattle.fc_safeedits.proofs.lemmas.SafeImageLemmas.{kept', moved', written}
use Rattle.fc_safeedits.proofs.lemmas.SafePartsLemmas.{parts, places}
use Rattle.fc_record.proofs.KindLemmas.{and_second}
use Rattle.fc_outcomes.proofs.lemmas.NewSpaceLemmas.{lost_not_owned}

-- a directory that goes isn't a changed one
stays_of : (a b c : Bool) → (a && b && not c) ≡ true → c ≡ true → ⊥
stays_of true true true h g = cc
stays_of true true false h g = cc
stays_of true false c h g = cc
stays_of false b c h g = cc

module _ (y : SafeImage) where
  abbrev x : Relocation
  x = y.parts.move

  abbrev m : Map
  m = x.m

  abbrev m' : Map
  m' = x.m'

  abbrev e : Edit
  e = x.edit

  abbrev e' : Edit
  e' = relocated x

  abbrev mem : PartsEdit
  mem = na.held_edit (parts y.parts)

  abbrev before : List Object
  before = objects_of x.listings

  busy : AreBusy m before y.written
  busy = free_busy (before_image y) y.written y.is_written.free

  -- ---- directories

  module _ (c : Command) (found : List Listing) (sound : AreSound (Layout.New m') found) (order : IsPermutation (listings_after e') found) (q : AreSafelyAsked y c found) where
    abbrev v : Opened
    v = was y

    abbrev w : Opened
    w = is_now y found

    anew : (a : Amended) → Contains e.amended a → DirectorySteady y.image y.image' v w c a.was (now e' (amended_in x a))
    anew a at = let s = q.amended a at in record { entries = s.entries; head = inr (record { may = s.may; says = s.says; bytes = s.bytes }) }

    as_before : (k : Listing) → Contains e.same k → DirectorySteady y.image y.image' v w c k (now e' (amended_in x (told_again x k)))
    as_before k at =
        let s = q.same k at in
        record { entries = s.entries; head = inl (record { bytes = told_body y k at; parent = λ gets. s.parent gets ∙ ap (holder_address found) (sym (turned_path x k.object)); name = s.name }) }

    asked_of : AreAsked y.image y.image' v w c e'
    asked_of = record {
      out = q.out;
      paths = λ k at. ap (is_same_path (path_after c k.object.path)) (turned_path x k.object)
          ∙ q.paths k (subst (λ (ks : List Listing). Contains ks k) (map_map (λ (a : Amended). a.was) (amended_in x) (all_amended x) ∙ was_all x)
          (subst (λ (ks : List Listing). Contains ks k) (append-nil (map (λ (a : Amended). a.was) e'.amended)) at));
      amended = λ b at.
          (let a = from_map (amended_in x) (all_amended x) b at in
          subst (λ (d : Amended). DirectorySteady y.image y.image' v w c d.was (now e' d)) a.2
          (⊎_elim (λ first. anew a.0 first) (λ k. subst (λ (d : Amended). DirectorySteady y.image y.image' v w c d.was (now e' (amended_in x d))) k.2 (as_before k.0 k.1)) (amended_or_told x a.0 a.1)));
      same = λ k at. absurd (no_element k at);
    }

    rewritten : ChangedRewritten v w c
    rewritten l at is =
        ⊎_elim (λ goes. absurd (stays_of (is_directory_object l.object) (may_be_rewritten v c l.object.path) (is_gone c l.object.path) is (q.out l goes)))
        (λ stays. ⊎_elim (λ first. by_amended l (from_map (λ (a : Amended). a.was) e.amended l first)) (λ same. absurd (let none = q.all l same in cc))
        (Contains-append_cases (map (λ (a : Amended). a.was) e.amended) e.same l stays))
        (Contains-append_cases e.out (map (λ (a : Amended). a.was) e.amended ++ e.same) l (in_other x.listings (e.out ++ (map (λ (a : Amended). a.was) e.amended ++ e.same)) x.is_edit.found l at))
      where
        by_amended : (k : Listing) → (a : Amended) × Contains e.amended a × (a.was ≡ k)
            → IsSomeAnd (listing_at found (path_after c k.object.path)) (λ new. IsRewritten c k.object.path (holder_address found new.object.path) k.content new.content)
        by_amended k a =
            let b = amended_in x a.0 in
            let there = now_in e' found order b (in_map (amended_in x) (all_amended x) a.0 (Contains-append_left e.amended (map (told_again x) e.same) a.0 a.1)) in
            let at_path : is_same_path (path_after c a.0.was.object.path) (turned_in x a.0.was.object).path ≡ true =
            ap (is_same_path (path_after c a.0.was.object.path)) (turned_path x a.0.was.object)
            ∙ q.paths a.0.was (Contains-append_left (map (λ (d : Amended). d.was) e.amended) e.same a.0.was (in_map (λ (d : Amended). d.was) e.amended a.0 a.1)) in
            subst (λ (j : Listing). IsSomeAnd (listing_at found (path_after c j.object.path)) (λ new. IsRewritten c j.object.path (holder_address found new.object.path) j.content new.content)) a.2
            (subst (λ (o : Option Listing). IsSomeAnd o (λ new. IsRewritten c a.0.was.object.path (holder_address found new.object.path) a.0.was.content new.content))
            (sym (lookup_law.listing (Layout.New m') found (path_after c a.0.was.object.path) (now e' b) sound there at_path)) (q.amended a.0 a.1).says)

  -- ---- the map

  some : 1 ≤ m.geometry.zones
  some = (the_map (before_image y)).some

  gone_movable : (k : ℕ) → is_used m k ≡ true → is_one_of y.parts.gone k ≡ true → is_movable before k ≡ true
  gone_movable = np_.gone_movable y.parts.kind m m' x.nodes y.parts.owners y.parts.root x.listings e' y.parts.takings y.parts.gone y.parts.agreed (parts y.parts).is_edit (places y.parts)

  runs_stay : (k : ℕ) → is_used m k ≡ true → is_one_of y.parts.gone k ≡ false → keeps_runs m m' k
  runs_stay k used stays = np_.runs_keep m m' y.parts.takings y.parts.gone x.listings e' k (places y.parts).space (places y.parts).gives used stays

  none_stay : (k : ℕ) → is_used m k ≡ false → is_taken y.parts.takings k ≡ false → keeps_runs m m' k
  none_stay k unused none =
      let empty = no_runs m k some unused in
      y.parts.places.space.others k none ∙ ap (λ (runs : List ZoneRun). cond (is_one_of y.parts.gone k) [] runs) empty ∙ kept_none (is_one_of y.parts.gone k) ∙ sym empty
    where
      kept_none : (b : Bool) → cond b [] [] ≡ (let runs : List ZoneRun = [] in runs)
      kept_none true = refl
      kept_none false = refl

  movable_high : (k : ℕ) → is_movable before k ≡ true → 3 ≤ k
  movable_high k h = leb-true 3 k (and_second (is_owned before k) (nat_le 3 k) h)

  module _ (c : Command) (found : List Listing) (sound : AreSound (Layout.New m') found) (order : IsPermutation (listings_after e') found) (s : IsSafeSpaceAsked y c found) where
    low_stays : (k : ℕ) → k < 3 → keeps_runs m m' k
    low_stays k low = by (is_used m k) refl
      where
        by : (b : Bool) → is_used m k ≡ b → keeps_runs m m' k
        by true used = runs_stay k used (unless (is_one_of y.parts.gone k) (λ goes. let high = movable_high k (gone_movable k used goes) in omega (arith, low, high)))
        by false unused = none_stay k unused (unless (is_taken y.parts.takings k) (λ taken. let high = s.fresh k taken unused in omega (arith, low, high)))

    lost_stays : (k : ℕ) → is_lost before k ≡ true → is_used m k ≡ true → keeps_runs m m' k
    lost_stays k lost used =
        let none = lost_not_owned before k lost in
        runs_stay k used (unless (is_one_of y.parts.gone k) (λ goes. let m1 = gone_movable k used goes in let m2 : is_movable before k ≡ false = ap (λ (b : Bool). b && nat_le 3 k) none in cc))

    -- what is owned, and has no need of its own
    others_stay : (k : ℕ) → is_owned (objects_of found) k ≡ true → list_any (λ n. n == k) (need_ids m (was y) (is_now y found) c) ≡ false → keeps_runs m m' k
    others_stay k own needless = by (is_used m k) refl
      where
        not_taken : is_taken y.parts.takings k ≡ false
        not_taken = ap (λ (ns : List ℕ). list_any (λ n. n == k) ns) s.ids ∙ needless

        own_now : is_owned (objects (joining e') ++ (places y.parts).gives.stay) k ≡ true
        own_now = sym (owned_now mem (places y.parts).gives.stay (places y.parts).gives.others found sound order k) ∙ own

        by : (b : Bool) → is_used m k ≡ b → keeps_runs m m' k
        by true used =
            runs_stay k used
            ((places y.parts).gives.exactly k used
            ∙ ap₂ (λ (a b : Bool). a || b) (ap (λ (b : Bool). is_owned before k && not b) own_now ∙ and_none (is_owned before k)) not_taken)
          where
            and_none : (a : Bool) → (a && not true) ≡ false
            and_none true = refl
            and_none false = refl
        by false unused = none_stay k unused not_taken

    untaken_is : (holes : List ZoneRun) (takings : List Taking) → untaken holes takings ≡ fold holes_left holes (map (λ (t : Taking). t.parts) takings)
    untaken_is holes [] = refl
    untaken_is holes (t ∷ takings) = untaken_is (holes_left holes t.parts) takings

    steady : SafeMapSteady m m' (was y) (is_now y found) c s.parts
    steady = record {
      needs_met = s.needs_met;
      least = s.least;
      object = s.object;
      grown = s.grown;
      others = others_stay;
      lost = lost_stays;
      one = low_stays 1 (omega arith);
      two = low_stays 2 (omega arith);
      holes = λ z low. y.parts.places.space.holes z low
          ∙ ap (λ (hs : List ZoneRun). holes_with (zone_holes hs z) (zone_holes (runs_that (is_one_of y.parts.gone) m) z))
          (untaken_is (hole_runs m) y.parts.takings ∙ ap (λ (ps : List (List ZoneRun)). fold holes_left (hole_runs m) ps) s.takes) ∙ s.back z low;
    }

    space : SafeSpaceSteady (was y) (is_now y found) c (Layout.New m) (Layout.New m')
    space = subst (λ (o : Option (List (List ZoneRun))). IsSomeAnd o (SafeMapSteady m m' (was y) (is_now y found) c)) (sym s.fitted) steady

  -- ---- what is outside

  outside : (c : Command) (found : List Listing) → IsSafelyDone y c → IsSafelyAsked y c found → MapOutside y.image y.image' y.parts.kind (expected_zone (was y) (is_now y found) c m) (idle_sectors (was y) m) m m'
  outside c found done asked =
      let o = the_map (before_image y) in
      record {
        geometry = y.parts.places.geometry;
        zones = asked.zones;
        links = done.links;
        boot = same_sectors m.geometry.sector y.image y.image' (boot_place y.parts.kind m.geometry.sector) (free_space_law.boot (before_image y) y.written y.image' (free y) y.is_written.changes);
        kept_stay = idle_stay m before o.some o.shape o.zones y.image y.image' y.written busy y.is_written.changes.outside;
      }

  behind : drop (disc_size y.parts.kind) y.image' ≡ drop (disc_size y.parts.kind) y.image
  behind =
      behind_stays y.parts.kind y.r y.image m x.listings y.new_kind y.opens y.image' y.written (record { length_stays = y.is_written.changes.same_length; writes = y.is_written.changes.outside }) busy

  -- ---- all of it

  outcome : (c : Command) (d : IsDone y.parts.kind y.image' (Layout.New m') x.nodes' y.parts.owners' e') → IsSafelyDone y c
      → tree_of y.image' (Layout.New m') d.found ≡ changed (tree_of y.image (Layout.New m) x.listings) c → SafeOutcome y.parts.kind y.image y.image' (was y) c (parts_with m' x.nodes' y.parts.owners')
  outcome c d done tree =
      let sound = tree_edit_law.opened y.image' y.parts.kind (is_now y d.found) d.opens in
      let q = done.asked d.found sound d.order in (
        is_now y d.found,
        record {
          opens = record { opens = d.opens; copies = subst (λ (g : Geometry). HoldsCopies g m'.zones y.image') (sym y.parts.places.geometry) done.copies };
          tree = tree;
          steady = record {
            directories = directories_steady mem d.found y.image y.image' c y.opens (written y) sound d.order (asked_of c d.found sound d.order q.directories);
            rewritten = rewritten c d.found sound d.order q.directories;
            named = q.named;
            entry = q.entry;
            made = q.made;
            empty = q.empty;
            space = space c d.found sound d.order q.space;
            outside = outside c d.found done q;
            behind = behind;
          };
        },
        d.parts,
      )

pub safe_outcome_law : SafeOutcomeLaw
safe_outcome_law = record {
  kept_tree = λ y changing t k tree.
      (let d = kept' y changing k in record { view = is_now y d.0.found; opens = d.0.opens; tree = tree d.0.found d.1 });
  moved_tree = λ y from to t k tree.
      (let d = moved' y from to k in record { view = is_now y d.0.found; opens = d.0.opens; tree = tree d.0.found d.1 });
  kept = λ y c changing k done tree. (let d = kept' y changing k in outcome y c d.0 done (tree d.0.found d.1));
  moved = λ y c from to k done tree. (let d = moved' y from to k in outcome y c d.0 done (tree d.0.found d.1));
}
