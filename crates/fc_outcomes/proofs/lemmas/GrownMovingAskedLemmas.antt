-- What `rename` asks of the map and of its object, if it copies nothing and a directory grows by it.
use Rattle.std.proofs.Common.{◌≡◌, ◌<◌, inl, inr, ℕ, Bool, true, false, cond, List, [], length, refl, sym, ap, subst, ◌∙◌, arith, None, Option, Some}
use Rattle.std.specs.Prelude.{IfSome, IsPermutation, nat_lt, ◌==◌}
use Rattle.std.specs.Option.{option_map_or}
use Rattle.fc_names.specs.Names.{Path}
use Rattle.fc_newmap.specs.Map.{hole_runs, id_runs, sector_of, with_root}
use Rattle.fc_model.specs.Command.{Command}
use Rattle.fc_image.specs.Layout.{Layout, dir_form, id_of}
use Rattle.fc_image.specs.Walk.{Listing, Object}
use Rattle.fc_image.specs.Objects.{object_at}
use Rattle.fc_image.specs.Opening.{Opened}
use Rattle.fc_image.specs.Sound.{AreSound}
use Rattle.fc_image.specs.effects.Effect.{copies_file}
use Rattle.fc_image.specs.effects.Placed.{NewObjectPlaced, holes_left, made_object, object_parts}
use Rattle.fc_image.specs.effects.Sharing.{units}
use Rattle.fc_image.specs.effects.Short.{Growth, is_copied, new_length, object_units}
use Rattle.fc_image.specs.effects.Steady.{EntrySteady, NamedEntrySteady, NamedStays, is_moved_by, zone0_after}
use Rattle.fc_image.proofs.CommandLemmas.{command_law}
use Rattle.fc_image.proofs.RenameLemmas.{last_pushed}
use Rattle.fc_plan.proofs.Left.{left_of_none}
use Rattle.fc_changes.proofs.RewordedLemmas.{same_address}
use Rattle.fc_laws.specs.agree.Agreed.{parts_with}
use Rattle.fc_edits.specs.Edit.{listings_after}
use Rattle.fc_edits.specs.Growing.{Growing, at_place}
use Rattle.fc_edits.specs.GrownMoving.{NewGrownMoving, grown_edit}
use Rattle.fc_edits.specs.GrownPlaces.{NewGrowing}
use Rattle.fc_edits.specs.Moving.{moved, new_path}
use Rattle.fc_edits.specs.NewPlaces.{is_taken}
use Rattle.fc_edits.proofs.lemmas.GrownMovingLemmas as gm
use Rattle.fc_outcomes.specs.GrownMoving.{NewGrownMovingWritten, grown_view}
use Rattle.fc_outcomes.specs.Growth.{MapGrows}
use Rattle.fc_outcomes.specs.NewImage as new
use Rattle.fc_outcomes.specs.NewImage.{IsBelowRoot, NewImageEdit, Outcome}
use Rattle.fc_outcomes.specs.Puts.{Put}
use Rattle.fc_outcomes.proofs.lemmas.GrownImageLemmas as gi
use Rattle.fc_outcomes.proofs.lemmas.GrownMovedLemmas as mv
use Rattle.fc_outcomes.proofs.lemmas.GrownRenameLemmas as directories
use Rattle.fc_outcomes.proofs.lemmas.GrownSpaceLemmas as space
use Rattle.fc_outcomes.proofs.lemmas.NewImageLemmas as new_image
use Rattle.fc_outcomes.proofs.lemmas.WordLemmas.{same_length}

module _ (x : NewGrownMoving) (from to : Path) (puts : List Put) (image image' : List ℕ) (wr : NewGrownMovingWritten x from to puts image image') where
  abbrev command : Command
  command = Command.Rename from to

  abbrev v : Opened
  v = grown_view x

  abbrev ng : NewGrowing
  ng = gm.as_growing x

  abbrev g : Growing
  g = x.growing

  abbrev on_new : NewImageEdit
  on_new = mv.on_new x from to puts image image' wr

  module _ (found : List Listing) (sound' : AreSound (Layout.New x.m') found) (order : IsPermutation (listings_after (grown_edit x.c x.growing)) found) where
    abbrev w : Opened
    w = record { kind = x.kind; layout = Layout.New x.m'; listings = found }

    abbrev now : Object
    now = moved x.c x.c.o

    now_there : object_at found to ≡ Some now
    now_there = directories.now_there x from to puts image image' wr found sound' order

    was_there : object_at x.listings from ≡ Some x.c.o
    was_there = directories.was_there x from to puts image image' wr found sound' order

    anew_there : object_at found g.o.path ≡ Some (at_place x.growing x.growing.o)
    anew_there = directories.anew_there x from to puts image image' wr found sound' order

    no_length : new_length v command ≡ 0
    no_length =
        ap (λ (q : Option Object). option_map_or (λ (p : Object). cond (is_copied v from to p) p.entry.len 0) q 0) was_there
        ∙ ap (λ (b : Bool). cond b x.c.o.entry.len 0) wr.its.not_copied

    no_copy : copies_file v command ≡ false
    no_copy = ap (λ (q : Option Object). option_map_or (is_copied v from to) q false) was_there ∙ wr.its.not_copied

    no_parts : object_parts x.m x.m' v command (made_object w command) ≡ []
    no_parts =
        ap (λ (q : Option Object). object_parts x.m x.m' v command q) now_there
        ∙ ap (λ (n : ℕ). cond (nat_lt 0 (units x.m.geometry n)) (id_runs x.m' (id_of now.entry.address)) []) no_length

    first_left : holes_left (hole_runs x.m) (object_parts x.m x.m' v command (made_object w command)) ≡ hole_runs x.m
    first_left = ap (holes_left (hole_runs x.m)) no_parts ∙ left_of_none (hole_runs x.m)

    no_units : object_units x.m v command ≡ 0
    no_units = ap (units x.m.geometry) no_length

    none_taken : IfSome (made_object w command) (λ (p : Object). 0 < object_units x.m v command → is_taken [] (id_of p.entry.address) ≡ true)
    none_taken =
        subst (λ (q : Option Object). IfSome q (λ (p : Object). 0 < object_units x.m v command → is_taken [] (id_of p.entry.address) ≡ true)) (sym now_there)
        (λ some. absurd (let none = no_units in omega (arith, none, some)))

    named : NamedStays v w command (copies_file v command)
    named = subst (λ (b : Bool). NamedStays v w command b) (sym no_copy) (same_address (object_at x.listings from) (object_at found to) x.c.o now was_there now_there refl)

    entry : NamedEntrySteady v w command
    entry =
        subst (λ (q : Option Object). IfSome q (EntrySteady (dir_form v.layout) (is_moved_by command) (object_at x.listings from))) (sym now_there)
        (subst (λ (q : Option Object). EntrySteady (dir_form v.layout) (is_moved_by command) q now) (sym was_there)
        (record { last = inl refl; len = λ dir. same_length (dir_form v.layout) x.c.o.entry.len now.entry.len refl }))

    root_asked : (q : MapGrows x.m x.m' x.growing wr.r image') → new.IsRootAsked on_new command found (gi.root_left ng wr.r image' q)
    root_asked (inl b) = subst IsBelowRoot (sym wr.its.grows.growth) b.below
    root_asked (inr t) =
        let s = sector_of x.m 0 in
        ap (λ (q : Option Growth). zone0_after w q s) wr.its.grows.growth
        ∙ ap (λ (b : Bool). cond b (option_map_or (λ (p : Object). with_root s p.entry.address p.entry.len) (object_at found []) s) s) (ap (λ (r : Path). length r == 0) t.at_top)
        ∙ ap (λ (q : Option Object). option_map_or (λ (p : Object). with_root s p.entry.address p.entry.len) q s) (ap (object_at found) (sym t.at_top) ∙ anew_there)

    asked : new.IsAsked on_new command found
    asked = record {
      root_keeps = root_asked wr.map;
      map = record {
        left = space.left_so ng command wr.its.grows.growth;
        fresh = λ k taken unused.
            space.own_fresh ng command wr.its.grows.growth k taken unused found (directories.anew_found x from to puts image image' wr found sound' order);
        untaken_is = space.left_now ng command wr.its.grows.growth found anew_there first_left;
      };
      placed = record {
        object = subst (λ (n : ℕ). NewObjectPlaced x.m x.m' n None (made_object w command)) (sym no_length) (λ some. absurd (omega (arith, some)));
        empty = λ none. absurd (cc);
        growth = space.growth_placed ng command wr.its.grows.growth found anew_there first_left none_taken;
      };
      directories = directories.asked_directories x from to puts image image' wr found sound' order;
      named = named;
      entry = entry;
      made = tt;
    }

  pub grown_moved : Outcome x.kind image image' (grown_view x) (Command.Rename from to) (parts_with x.m' x.nodes' x.owners')
  grown_moved =
      new_image.moves_by on_new command x.c.o.path (new_path x.c) (mv.moves x from to puts image image' wr) asked
      (λ found is_move.
      command_law.rename image image' (Layout.New x.m) (Layout.New x.m') x.listings found from to x.c.o.path (new_path x.c) is_move wr.its.from_is wr.its.to_is
      (wr.its.name_is ∙ sym (last_pushed x.c.l.object.path x.c.name)))
