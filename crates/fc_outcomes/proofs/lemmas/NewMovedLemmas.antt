-- `rename` without a copied file on images with new maps, by the laws of outcomes.
use Rattle.std.proofs.Common.{◌≡◌, inl, ⊎_elim, ℕ, false, cond, List, [], sym, ap, subst, ◌∙◌, arith, Option, None}
use Rattle.std.specs.Prelude.{Contains, nat_lt}
use Rattle.fc_names.specs.Names.{Path}
use Rattle.fc_newmap.specs.Map.{hole_runs, id_runs}
use Rattle.fc_model.specs.Command.{Command}
use Rattle.fc_image.specs.Layout.{Layout, id_of, sector_bytes}
use Rattle.fc_image.specs.Walk.{Object}
use Rattle.fc_image.specs.Objects.{objects_of}
use Rattle.fc_image.specs.Stays.{HasSectorsOf}
use Rattle.fc_image.specs.effects.Placed.{GrowthPlacedIn, NewObjectPlaced, made_object, object_parts}
use Rattle.fc_image.specs.effects.Sharing.{units}
use Rattle.fc_image.specs.effects.Short.{Growth, moved_growth}
use Rattle.fc_plan.proofs.Left.{left_of_none}
use Rattle.fc_tree.proofs.MemberLemmas.{contains_here}
use Rattle.fc_tree.proofs.WalkedLemmas.{listed_directory}
use Rattle.fc_changes.proofs.BasicLemmas.{map_or_none}
use Rattle.fc_changes.proofs.DirectoriesLemmas.{moved_none}
use Rattle.fc_changes.proofs.SpaceLemmas.{untaken_is}
use Rattle.fc_laws.specs.agree.Agreed.{parts_with}
use Rattle.fc_edits.specs.Edit.{Amended}
use Rattle.fc_edits.specs.Moving.{NewMoving, edit, moved, new_path}
use Rattle.fc_edits.specs.PartsEdit.{NewPartsEdit, PartsEdit}
use Rattle.fc_edits.proofs.lemmas.AgreeLemmas as ag
use Rattle.fc_edits.proofs.lemmas.MovingLemmas as memory
use Rattle.fc_edits.proofs.lemmas.NewAgreeLemmas as na
use Rattle.fc_edits.proofs.lemmas.NumberLemmas as n_
use Rattle.fc_edits.proofs.lemmas.OwnedLemmas.{joins_found}
use Rattle.fc_edits.proofs.lemmas.StillLemmas.{still_new}
use Rattle.fc_outcomes.specs.Moving.{NewMovingWritten, new_view}
use Rattle.fc_outcomes.specs.NewImage as new
use Rattle.fc_outcomes.specs.NewImage.{IsBelowRoot, NewImageEdit, Outcome}
use Rattle.fc_outcomes.specs.Puts.{Put}
use Rattle.fc_outcomes.proofs.lemmas.MovedLemmas as any
use Rattle.fc_outcomes.proofs.lemmas.NewImageLemmas as new_image
use Rattle.fc_outcomes.proofs.lemmas.UnwrittenLemmas.{unwritten}

module _ (x : NewMoving) (from to : Path) (puts : List Put) (image image' : List ℕ) (w : NewMovingWritten x from to puts image image') where
  abbrev parts : NewPartsEdit
  parts = memory.new_parts x

  abbrev mem : PartsEdit
  mem = na.held_edit parts

  abbrev y : Layout
  y = Layout.New x.m

  abbrev command : Command
  command = Command.Rename from to

  pub unwritten_new : (o : Object) → Contains (objects_of x.listings) o → ((a : Amended) → Contains (edit x.c).amended a → a.was.object ≡ o → ⊥) → HasSectorsOf (sector_bytes y) o.sectors image image'
  unwritten_new o at other =
      unwritten mem puts image image' w.out o at
      (λ p there.
      let a = w.has_moved.whose p there in
      let listed' = n_.stay_in (ag.ne mem) a.0.was (n_.was_in (ag.ne mem) a.0 a.1) in
      (a.0.was.object, (listed_directory y x.listings (memory.new_held x).sound a.0.was listed').0, a.2, other a.0 a.1))

  abbrev on_new : NewImageEdit
  on_new = record {
    parts = parts;
    takings = [];
    gone = [];
    r = w.r;
    image = image;
    image' = image';
    puts = puts;
    new_kind = w.new_kind;
    opens = w.opens;
    places = still_new x.listings (edit x.c) x.c.number x.c.o (moved x.c x.c.o) (memory.is_still x.nodes y x.listings x.c (memory.new_held x) x.is_moving) x.kind x.m x.nodes x.owners x.root x.agreed;
    out = w.out;
    puts_of = any.puts_of (new_view x) x.nodes x.nodes' x.c (memory.new_held x) x.is_moving x.nodes_edited from to w.has_moved.its image image' puts w.has_moved unwritten_new;
    root = inl (record { after = w.after; stays = λ o at none. ⊎_elim (λ t. t) (λ t. absurd (let gone = t.leaves in cc)) (parts.is_edit.top o at none) });
  }

  new_asked : new.IsAskedOf on_new command
  new_asked found sound' order =
      let its = w.has_moved.its in
      let h = memory.new_held x in
      let joined : (ℕ × Object) = (x.c.number, moved x.c x.c.o) in
      let joins = joins_found mem found sound' order joined
      (subst (λ (ps : List (ℕ × Object)). Contains ps joined) (sym (memory.joined_is x.nodes y x.listings x.c h x.is_moving)) (contains_here joined [])) in
      let now = new.is_now on_new found in
      let no_length = any.no_length (new_view x) x.nodes x.nodes' x.c h x.is_moving x.nodes_edited from to its in
      let there = any.is_there (new_view x) x.nodes x.nodes' x.c h x.is_moving x.nodes_edited from to its found sound' order joins in
      let made : object_parts x.m x.m (new_view x) command (made_object now command) ≡ [] =
      ap (λ (q : Option Object). object_parts x.m x.m (new_view x) command q) there
      ∙ ap (λ (n : ℕ). cond (nat_lt 0 (units x.m.geometry n)) (id_runs x.m (id_of (moved x.c x.c.o).entry.address)) []) no_length in
      record {
        root_keeps = subst IsBelowRoot (sym its.no_growth) tt;
        map = record {
          left = λ k used. sym (map_or_none _ (moved_growth (new_view x) command) false (moved_none (new_view x) now command its.no_growth));
          fresh = λ k taken. absurd (cc);
          untaken_is = sym (untaken_is (new_view x) now command x.m x.m [] its.no_growth made ∙ left_of_none (hole_runs x.m));
        };
        placed = record {
          object = subst (λ (n : ℕ). NewObjectPlaced x.m x.m n None (made_object now command)) (sym no_length) (λ some. absurd (omega (arith, some)));
          empty = λ none. absurd (cc);
          growth = subst (λ (q : Option Growth). GrowthPlacedIn (new_view x) now command q) (sym its.no_growth) tt;
        };
        directories = any.asked (new_view x) x.nodes x.nodes' x.c h x.is_moving x.nodes_edited from to its found sound' order joins image image' puts w.has_moved w.out;
        named = any.stays_named (new_view x) x.nodes x.nodes' x.c h x.is_moving x.nodes_edited from to its found sound' order joins;
        entry = any.entry_steady (new_view x) x.nodes x.nodes' x.c h x.is_moving x.nodes_edited from to its found sound' order joins;
        made = tt;
      }

  pub new_moved : Outcome x.kind image image' (new_view x) command (parts_with x.m x.nodes' x.owners')
  new_moved =
      let its = w.has_moved.its in
      let h = memory.new_held x in
      new_image.moves_by on_new command x.c.o.path (new_path x.c)
      (any.moves (new_view x) x.nodes x.nodes' x.c h x.is_moving x.nodes_edited from to its image image' puts w.has_moved unwritten_new) new_asked
      (λ found is_move. any.tree_now (new_view x) x.nodes x.nodes' x.c h x.is_moving x.nodes_edited from to its image image' found is_move)
