-- `rename` by which a directory grows, as it ran: where the grown one lies then, and, without a copy, the edit with its parts, which agree
-- afterwards.
use Rattle.fc_alloc.specs.declared.owner.Owner.{Owner}
use Rattle.fc_change.specs.After.{AreOwnersAfter, nodes_after, owners_admitted}
use Rattle.fc_change.specs.GrownSpace.{gone_at_once, root_of}
use Rattle.fc_change.specs.Owned.{owner_if}
use Rattle.fc_change.specs.Places.{plan_in}
use Rattle.fc_change.specs.declared.change.Turned.TheVariants as turns
use Rattle.fc_changes.proofs.SpaceLemmas.{owned_same}
use Rattle.fc_commands.proofs.GrownBackLemmas as back_of
use Rattle.fc_commands.proofs.GrownChangeLemmas.{IsGrownStepped, taking_of, takings}
use Rattle.fc_commands.proofs.GrownMoveGrowsLemmas.{lies_now}
use Rattle.fc_commands.proofs.GrownMoveMadeLemmas.{EditedRename, IsPlacedEdit, MadeMove, moving_of, placed_move}
use Rattle.fc_commands.proofs.GrownMoveNodeLemmas.{growing_in}
use Rattle.fc_commands.proofs.GrownMoveNodeLemmas as move_of
use Rattle.fc_commands.proofs.GrownMoveReadyLemmas.{PlainRename, plain_entry}
use Rattle.fc_commands.proofs.GrownMoveRestLemmas as rest_of
use Rattle.fc_commands.proofs.GrownMoveSaidLemmas.{anew, it, l, layout}
use Rattle.fc_commands.proofs.GrownMoveWalkLemmas as walk
use Rattle.fc_commands.proofs.GrownMoveWantLemmas.{GrownRename, IsPlacedRename}
use Rattle.fc_commands.proofs.GrownMoveWantLemmas as want
use Rattle.fc_commands.proofs.GrownSpaceLemmas as space_of
use Rattle.fc_commands.proofs.MoveOwnerLemmas as mover
use Rattle.fc_dirs.specs.declared.Entry.{Entry}
use Rattle.fc_drafts.specs.Entries.{renamed_entry}
use Rattle.fc_edits.proofs.lemmas.GrownMovingLemmas.{grown_moving_law}
use Rattle.fc_edits.specs.Growing.{Growing}
use Rattle.fc_edits.specs.GrownMoving.{NewGrownMoving, grown_edit}
use Rattle.fc_edits.specs.GrownPlaces.{IsGrownAt}
use Rattle.fc_edits.specs.NewPlaces.{GivesBack, IsSpaceChange, is_taken}
use Rattle.fc_edits.specs.Placing.{takings_of}
use Rattle.fc_image.specs.Edits.{IsAt}
use Rattle.fc_image.specs.Layout.{Layout}
use Rattle.fc_image.specs.Objects.{has_sectors, is_owned, objects_of}
use Rattle.fc_image.specs.Walk.{Object}
use Rattle.fc_image.specs.effects.Steady.{is_given_back}
use Rattle.fc_laws.proofs.lemmas.agree.BeforeLemmas.{agreed_law}
use Rattle.fc_laws.specs.agree.Agreed.{parts_with}
use Rattle.fc_laws.specs.nodes.Edits.{owner_with}
use Rattle.fc_newmap.specs.Map.{Map}
use Rattle.fc_plan.specs.Applied.{id_in, parts_in}
use Rattle.fc_plan.specs.Giving.{is_one_of}
use Rattle.fc_plan.specs.declared.plan.Plan.{Plan}
use Rattle.fc_record.specs.declared.Geometry.{Geometry}
use Rattle.fc_tree.specs.Agree.{Agree}
use Rattle.fc_writing.specs.New.{IsGiven}
use Rattle.fc_writing.specs.Steps.{HasStepped}
use Rattle.std.proofs.Common.{Bool, List, None, Option, Some, [], ap, ap₂, cond, false, not, refl, subst, sym, true, ℕ, ◌&&◌, ◌++◌, ◌<◌, ◌||◌, ◌∙◌, ◌∷◌, ◌≡◌}
use Rattle.std.proofs.lemmas.List.Sorted.{IsPermutation-cons}
use Rattle.std.specs.Prelude.{IsPermutation}

module _ (w : EditedRename) (pl : IsPlacedEdit w) (m' : Map) (given : IsGiven w.q.m w.pr.ready m') where
  abbrev q : GrownRename
  q = w.q

  pub stepped : IsGrownStepped w.q.m m' (plan_in pl.placed.placing) pl.placed.dir (walk.alone w.q pl.placed) (root_of (Some (want.grown w.q).0)) (want.back w.q pl.placed)
  stepped =
      walk.stepped q pl.placed pl.unused given.0 m' (subst (HasStepped q.m given.0) w.ready.take given.1) (subst (HasStepped given.0 m') w.ready.give given.2)

  -- The grown directory's identifier stays, if it takes no space.
  pub kept : pl.placed.dir ≡ None
      → is_one_of (want.back w.q pl.placed) (space_of.own_id w.q.m w.q.nodes w.q.owners w.q.listings (l w.q).object (walk.cut w.q).0 w.q.growth (plan_in pl.placed.placing) pl.placed.dir (want.grown w.q).0 (walk.to_grow w.q pl.placed)) ≡ false
  kept same =
      ap (λ (ids : List ℕ). is_one_of ids (space_of.own_id q.m q.nodes q.owners q.listings (l q).object (walk.cut q).0 q.growth (plan_in pl.placed.placing) pl.placed.dir (want.grown q).0 (walk.to_grow q pl.placed))) (walk.lost q pl.placed same)

  -- It lies at its place.
  pub grown_at : IsAt (Layout.New m') (anew w.q)
  grown_at = back_of.grown_at q.m q.nodes q.owners q.listings (l q).object (walk.cut q).0 q.growth (plan_in pl.placed.placing) pl.placed.dir (want.grown q).0 (walk.to_grow q pl.placed) m' (root_of (Some (want.grown q).0)) (want.back q pl.placed) stepped kept

  pub grown_some : has_sectors (anew w.q) ≡ true
  grown_some = back_of.grown_some q.m q.nodes q.owners q.listings (l q).object (walk.cut q).0 q.growth (plan_in pl.placed.placing) pl.placed.dir (want.grown q).0 (walk.to_grow q pl.placed) m' (root_of (Some (want.grown q).0)) (want.back q pl.placed) stepped kept

-- ---- without a copy

module _ (w : PlainRename) (md : MadeMove w) (m' : Map) (geometry : m'.geometry ≡ w.q.m.geometry) where
  abbrev entry_then : Entry
  entry_then = renamed_entry (it w.q).entry w.q.name (it w.q).entry.address

  -- The object's owner is as it was, but in its new directory.
  pub owned_by : move_of.IsOwnedThen (moving_of w md.c) md.part m'
  owned_by = record {
    some = refl;
    now = ap (owner_if (Layout.New m') w.q.r.target.node w.q.r.holder) (plain_entry w)
        ∙ ap (λ (x : Geometry). owner_if (Layout.New (record { geometry = x; zones = [] })) w.q.r.target.node w.q.r.holder entry_then) geometry
        ∙ mover.now_is (layout w.q) w.q.nodes w.q.listings w.q.from w.q.to w.q.r w.q.name w.q.seen w.q.owners w.q.agreed.owned
        ∙ ap (λ (x : Geometry). cond (has_sectors (it w.q)) (Some (owner_with (Layout.New (record { geometry = x; zones = [] })) w.q.r.holder w.q.r.target.node (it w.q))) None) (sym geometry);
    admitted = λ number. ap (λ (d : Entry). owners_admitted (layout w.q) (turns.Turns w.q.r.target.node w.q.r.holder d) number w.q.owners) (plain_entry w)
        ∙ mover.admitted (layout w.q) w.q.nodes w.q.listings w.q.from w.q.to w.q.r w.q.name w.q.seen w.q.owners w.q.agreed.owned number;
  }

module _ (w : PlainRename) (placed : IsPlacedRename w.q) (md : MadeMove w) (m' : Map) (given : IsGiven w.q.m w.pr.ready m') where
  abbrev e : EditedRename
  e = moving_of w md.c

  abbrev pl : IsPlacedEdit (moving_of w md.c)
  pl = placed_move w md.c placed

  abbrev gr : Growing
  gr = growing_in e md.part

  pub space : IsSpaceChange w.q.m m' (taking_of placed.dir) (gone_at_once placed.dir (walk.alone w.q placed) ++ want.back w.q placed)
  space = subst (λ (o : Option Plan). IsSpaceChange w.q.m m' (takings o placed.dir) (gone_at_once placed.dir (walk.alone w.q placed) ++ want.back w.q placed)) (want.no_plan w.q placed w.plain) (stepped e pl m' given).space

  pub gives : GivesBack w.q.m (taking_of placed.dir) (gone_at_once placed.dir (walk.alone w.q placed) ++ want.back w.q placed) w.q.listings (grown_edit md.c (growing_in (moving_of w md.c) md.part))
  gives =
      let rest = rest_of.rest w.q in
      record {
        stay = rest.0;
        others = subst (λ (os : List Object). IsPermutation (objects_of w.q.listings) (os ++ rest.0)) (sym md.part.leave) (rest_of.beside w.q);
        exactly = λ n used.
            back_of.gives w.q.m w.q.nodes w.q.owners w.q.listings (l w.q).object (walk.cut w.q).0 w.q.growth (plan_in placed.placing) placed.dir (want.grown w.q).0 (walk.to_grow w.q placed) m' (root_of (Some (want.grown w.q).0)) (want.back w.q placed) (stepped e pl m' given) (kept e pl m' given)
            [] (λ i u owns. absurd (let never : false ≡ true = owns in cc)) (walk.lost w.q placed) (walk.was_alone w.q placed) (walk.left w.q placed w.plain) n used
            ∙ ap₂ (λ (b : Bool) (o : Option Plan). (is_owned (objects_of w.q.listings) n && not b) || is_taken (takings o placed.dir) n)
            (owned_same (anew w.q ∷ (walk.cut w.q).0) (anew w.q ∷ it w.q ∷ rest.0) n (IsPermutation-cons (anew w.q) (walk.cut w.q).0 (it w.q ∷ rest.0) rest.1)) (want.no_plan w.q placed w.plain)
            ∙ ap (λ (os : List Object). is_given_back (objects_of w.q.listings) (os ++ rest.0) n || is_taken (taking_of placed.dir) n) (sym md.part.join);
      }

  pub lies : IsGrownAt w.q.m (objects_of w.q.listings) [] (growing_in (moving_of w md.c) md.part) (taking_of placed.dir)
  lies = subst (λ (o : Option Plan). IsGrownAt w.q.m (objects_of w.q.listings) (takings_of (id_in o) (parts_in o)) gr (taking_of placed.dir)) (want.no_plan w.q placed w.plain) (lies_now e pl md.part)

  pub owned_then : move_of.IsOwnedThen (moving_of w md.c) md.part m'
  owned_then = owned_by w md m' (stepped e pl m' given).geometry

  module _ (owners' : List Owner) (number : ℕ) (after : AreOwnersAfter (Layout.New m') w.q.nodes w.pr.change (owners_admitted (Layout.New w.q.m) w.pr.change.object number w.q.owners) owners') where
    -- The rename, with its parts.
    abbrev pub mv : NewGrownMoving
    mv = record {
      kind = w.q.kind;
      m = w.q.m;
      m' = m';
      nodes = w.q.nodes;
      nodes' = nodes_after w.pr.change number w.q.nodes;
      owners = w.q.owners;
      owners' = owners';
      root = w.q.root;
      listings = w.q.listings;
      c = md.c;
      growing = growing_in (moving_of w md.c) md.part;
      own = taking_of placed.dir;
      gone = gone_at_once placed.dir (walk.alone w.q placed) ++ want.back w.q placed;
      agreed = w.q.agreed;
      moves = md.moves;
      grows = md.part.grows;
      nodes_edited = move_of.nodes_edited e md.part number;
      owners_edited = move_of.owners_edited e md.part m' owned_then (move_of.grown_owner e md.part m' (anew w.q).sectors refl (grown_at e pl m' given)) (grown_some e pl m' given) number owners' after;
      is_map = (stepped e pl m' given).edited.is_map;
      geometry = (stepped e pl m' given).geometry;
      space = space;
      gives = gives;
      some = subst (λ (n : ℕ). 0 < n) (sym (walk.len_is w.q)) (walk.big w.q).more;
      lies = lies;
      at = grown_at e pl m' given;
    }

    -- The parts agree afterwards.
    pub agrees : Agree w.q.kind (parts_with m' (nodes_after w.pr.change number w.q.nodes) owners')
    agrees = let now = grown_moving_law.new mv in agreed_law.agree w.q.kind m' (nodes_after w.pr.change number w.q.nodes) owners' now.root now.found now.agree
