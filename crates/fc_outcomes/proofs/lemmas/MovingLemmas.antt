-- `rename` without a copied file on images with old maps, the law of both maps, and what every exit leaves.
use Rattle.std.proofs.Common.{◌≡◌, ⊎_elim, ℕ, List, [], refl, sym, subst, ◌∙◌, arith, Option, None}
use Rattle.std.specs.Prelude.{Contains}
use Rattle.fc_names.specs.Names.{Path}
use Rattle.fc_oldmap.specs.Laws.{ReadsBack}
use Rattle.fc_model.specs.Command.{Command}
use Rattle.fc_image.specs.Layout.{Layout, sector_bytes}
use Rattle.fc_image.specs.Walk.{Object}
use Rattle.fc_image.specs.Objects.{objects_of}
use Rattle.fc_image.specs.Stays.{HasSectorsOf, OpensAs}
use Rattle.fc_image.specs.effects.Placed.{GrowthPlacedIn, OldObjectPlaced, made_object}
use Rattle.fc_image.specs.effects.Short.{Growth}
use Rattle.fc_tree.proofs.MemberLemmas.{contains_here}
use Rattle.fc_tree.proofs.WalkedLemmas.{listed_directory}
use Rattle.fc_changes.proofs.lemmas.old.GrowthLemmas.{given_alone}
use Rattle.fc_laws.specs.takeover.Places.{MayBeWritten}
use Rattle.fc_laws.proofs.lemmas.takeover.ApartLemmas.{places_law}
use Rattle.fc_changes.specs.old.Owed.{IsBefore}
use Rattle.fc_laws.specs.old.agree.Laws.{parts_with}
use Rattle.fc_laws.specs.old.takeover.Places.{AreSpared, MayBeWritten as OldMayBeWritten}
use Rattle.fc_laws.proofs.lemmas.old.takeover.ApartLemmas.{places_law as old_places_law}
use Rattle.fc_edits.specs.Edit.{Amended}
use Rattle.fc_edits.specs.Moving.{NewMoving, OldMoving, edit, moved, new_path}
use Rattle.fc_edits.specs.PartsEdit.{OldPartsEdit, PartsEdit, old_parts}
use Rattle.fc_edits.proofs.lemmas.AgreeLemmas as ag
use Rattle.fc_edits.proofs.lemmas.MovingLemmas as memory
use Rattle.fc_edits.proofs.lemmas.NewAgreeLemmas as na
use Rattle.fc_edits.proofs.lemmas.NumberLemmas as n_
use Rattle.fc_edits.proofs.lemmas.OwnedLemmas.{joins_found}
use Rattle.fc_edits.proofs.lemmas.StillLemmas.{still_old}
use Rattle.fc_outcomes.specs.Moving.{IsToMove, MovingLaw, OldMovingWritten, new_view, old_view}
use Rattle.fc_outcomes.specs.NewImage.{Outcome}
use Rattle.fc_outcomes.specs.OldImage as old
use Rattle.fc_outcomes.specs.OldImage.{OldImageEdit}
use Rattle.fc_outcomes.specs.Puts.{Put}
use Rattle.fc_outcomes.proofs.lemmas.MovedLemmas as any
use Rattle.fc_outcomes.proofs.lemmas.NewMovedLemmas.{new_moved}
use Rattle.fc_outcomes.proofs.lemmas.RenameEntryLemmas.{across, within_one}
use Rattle.fc_outcomes.proofs.lemmas.OldImageLemmas as old_image
use Rattle.fc_outcomes.proofs.lemmas.UnwrittenLemmas.{unwritten}

-- an object of the same path, entry and sectors
same_parts : (o x : Object) → x.path ≡ o.path → x.entry ≡ o.entry → x.sectors ≡ o.sectors → x ≡ o
same_parts o x path entry sectors i = record { path = path i; entry = entry i; sectors = sectors i }

module _ (back : ReadsBack) (x : OldMoving) (from to : Path) (puts : List Put) (image image' : List ℕ) (w : OldMovingWritten x from to puts image image') where
  abbrev parts : OldPartsEdit
  parts = memory.old_parts_of x

  abbrev mem : PartsEdit
  mem = old_parts parts

  abbrev y : Layout
  y = Layout.Old x.space

  abbrev command : Command
  command = Command.Rename from to

  unwritten_old : (o : Object) → Contains (objects_of x.listings) o → ((a : Amended) → Contains (edit x.c).amended a → a.was.object ≡ o → ⊥) → HasSectorsOf (sector_bytes y) o.sectors image image'
  unwritten_old o at other =
      unwritten mem puts image image' w.out o at
      (λ p there.
      let a = w.has_moved.whose p there in
      let listed' = n_.stay_in (ag.ne mem) a.0.was (n_.was_in (ag.ne mem) a.0 a.1) in
      (a.0.was.object, (listed_directory y x.listings (memory.old_held x).sound a.0.was listed').0, a.2, other a.0 a.1))

  root_same : (o : Object) → Contains (objects_of x.listings) o → o.path ≡ [] → moved x.c o ≡ o
  root_same o at none =
      same_parts o (moved x.c o) (parts.is_edit.top_path o at none ∙ sym none)
      (⊎_elim (λ t. t.keeps.entry) (λ t. absurd (let gone = t.leaves in cc)) (parts.is_edit.top o at none)) refl

  abbrev on_old : OldImageEdit
  on_old = record {
    parts = parts;
    image = image;
    image' = image';
    puts = puts;
    opens = w.opens;
    places = still_old x.listings (edit x.c) x.c.number x.c.o (moved x.c x.c.o) (memory.is_still x.nodes y x.listings x.c (memory.old_held x) x.is_moving) x.kind x.space x.nodes x.owners x.root x.agreed;
    after = w.after;
    out = w.out;
    puts_of = any.puts_of (old_view x) x.nodes x.nodes' x.c (memory.old_held x) x.is_moving x.nodes_edited from to w.has_moved.its image image' puts w.has_moved unwritten_old;
    root_stays = root_same;
  }

  old_asked : old.IsAskedOf on_old command
  old_asked found sound' order =
      let its = w.has_moved.its in
      let h = memory.old_held x in
      let joined : (ℕ × Object) = (x.c.number, moved x.c x.c.o) in
      let joins = joins_found mem found sound' order joined
      (subst (λ (ps : List (ℕ × Object)). Contains ps joined) (sym (memory.joined_is x.nodes y x.listings x.c h x.is_moving)) (contains_here joined [])) in
      let now = old.is_now on_old found in
      let no_length = any.no_length (old_view x) x.nodes x.nodes' x.c h x.is_moving x.nodes_edited from to its in
      record {
        holes = given_alone x.space (old_view x) command None x.agreed.is_map.units refl no_length;
        placed = record {
          object = subst (λ (n : ℕ). OldObjectPlaced x.space n (made_object now command)) (sym no_length) (λ some. absurd (omega (arith, some)));
          empty = λ none. absurd (cc);
          growth = subst (λ (q : Option Growth). GrowthPlacedIn (old_view x) now command q) (sym its.no_growth) tt;
        };
        directories = any.asked (old_view x) x.nodes x.nodes' x.c h x.is_moving x.nodes_edited from to its found sound' order joins image image' puts w.has_moved w.out;
        named = any.stays_named (old_view x) x.nodes x.nodes' x.c h x.is_moving x.nodes_edited from to its found sound' order joins;
        entry = any.entry_steady (old_view x) x.nodes x.nodes' x.c h x.is_moving x.nodes_edited from to its found sound' order joins;
        made = tt;
      }

  old_moved : Outcome x.kind image image' (old_view x) command (parts_with x.space x.nodes' x.owners')
  old_moved =
      let its = w.has_moved.its in
      let h = memory.old_held x in
      old_image.moves_by back on_old command x.c.o.path (new_path x.c)
      (any.moves (old_view x) x.nodes x.nodes' x.c h x.is_moving x.nodes_edited from to its image image' puts w.has_moved unwritten_old) old_asked
      (λ found is_move. any.tree_now (old_view x) x.nodes x.nodes' x.c h x.is_moving x.nodes_edited from to its image image' found is_move)

-- ---- what every exit leaves

may_new : (x : NewMoving) (from to : Path) (a : Amended) (image : List ℕ) → OpensAs image x.kind (new_view x) → IsToMove (new_view x) from to x.c → Contains (edit x.c).amended a
    → MayBeWritten x.kind (new_view x) x.m (Command.Rename from to) a.was.object.sectors
may_new x from to a image opens its at =
    let ne = ag.ne (na.held_edit (memory.new_parts x)) in
    places_law.directory x.kind image (new_view x) x.m (Command.Rename from to) a.was (record { opens = opens; layout = refl }) (n_.stay_in ne a.was (n_.was_in ne a at))
    (any.may_rewrite (new_view x) x.nodes x.nodes' x.c (memory.new_held x) x.is_moving x.nodes_edited from to its a at)

may_old : (x : OldMoving) (from to : Path) (a : Amended) (image : List ℕ) → OpensAs image x.kind (old_view x) → IsToMove (old_view x) from to x.c → Contains (edit x.c).amended a
    → OldMayBeWritten (old_view x) x.space (Command.Rename from to) a.was.object.sectors × AreSpared (old_view x) x.space (Command.Rename from to) a.was.object.sectors
may_old x from to a image opens its at =
    let ne = ag.ne (old_parts (memory.old_parts_of x)) in
    let before : IsBefore x.kind image (old_view x) x.space = record { opens = opens; layout = refl; is_map = x.agreed.is_map } in
    let may = old_places_law.directory x.kind image (old_view x) x.space (Command.Rename from to) a.was before (n_.stay_in ne a.was (n_.was_in ne a at))
    (any.may_rewrite (old_view x) x.nodes x.nodes' x.c (memory.old_held x) x.is_moving x.nodes_edited from to its a at) in
    (may, old_places_law.spared x.kind image (old_view x) x.space (Command.Rename from to) a.was.object.sectors before may)

pub moving_law : ReadsBack → MovingLaw
moving_law back = record {
  across = λ v nodes from to c h g its left joined. across v nodes from to c h g.found g.k_holds its.from_is its.to_is left joined;
  within = λ v nodes from to c h g its entries. within_one v nodes from to c h g.found g.holds its.from_is its.to_is entries;
  new = λ x from to puts image image' w. new_moved x from to puts image image' w;
  old = λ x from to puts image image' w. old_moved back x from to puts image image' w;
  new_may = may_new;
  old_may = may_old;
}
