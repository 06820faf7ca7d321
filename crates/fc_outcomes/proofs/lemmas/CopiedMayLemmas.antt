-- What `rename` may write at every exit if it copies its file.
use Rattle.std.proofs.Common.{◌≡◌, ℕ, ◌*◌, Bool, true, cond, ◌||◌, List, ◌++◌, refl, sym, ap, ◌∙◌}
use Rattle.fc_names.specs.Names.{Path, is_same_path}
use Rattle.fc_newmap.specs.Map.{bits_in}
use Rattle.fc_model.specs.Command.{Command}
use Rattle.fc_model.specs.Tree.{holder}
use Rattle.fc_dirs.specs.Directory.{directory_size}
use Rattle.fc_image.specs.Layout.{Layout, dir_form}
use Rattle.fc_image.specs.Walk.{Object, object_size}
use Rattle.fc_image.specs.Stays.{OpensAs}
use Rattle.fc_image.specs.effects.Placed.{file_low}
use Rattle.fc_image.specs.effects.Steady.{has_grown, has_new_holder, holds_named, is_renamed_by, may_be_rewritten}
use Rattle.fc_tree.proofs.WalkedLemmas.{child_path}
use Rattle.fc_changes.proofs.MadeLemmas.{file_low_small}
use Rattle.fc_changes.proofs.ReadsLemmas.{lies_in}
use Rattle.fc_laws.specs.nodes.Laws.{IsHeld}
use Rattle.fc_laws.specs.takeover.Places.{MayBeWritten}
use Rattle.fc_laws.proofs.lemmas.takeover.ApartLemmas.{places_law}
use Rattle.fc_edits.specs.Copying.{NewCopying, copied}
use Rattle.fc_edits.proofs.lemmas.CopyingLemmas as memory
use Rattle.fc_outcomes.specs.Copying.{IsToCopy, new_view}
use Rattle.std.proofs.lemmas.Bool.{or_left, or_right as or_second}

module _ (x : NewCopying) (from to : Path) (its : IsToCopy x from to) where
  abbrev command : Command
  command = Command.Rename from to

  held : IsHeld x.nodes (Layout.New x.m) x.listings
  held = memory.new_held x

  pub from_holds : is_same_path (holder from) x.c.k.object.path ≡ true
  from_holds =
      let k_in = memory.k_in x.nodes (Layout.New x.m) x.listings x.c held x.copying in
      let kid = memory.kid_in x.nodes (Layout.New x.m) x.listings x.c held x.copying in
      (lies_in from x.c.k.object.path x.c.o.entry.name (ap (is_same_path from) (sym (child_path (Layout.New x.m) x.listings held.sound x.c.k x.c.o k_in kid)) ∙ its.from_is)).holds

  pub to_holds : is_same_path (holder to) x.c.l.object.path ≡ true
  to_holds = (lies_in to x.c.l.object.path x.c.name its.to_is).holds

  by_name : (p : Path) → holds_named command p ≡ true → may_be_rewritten (new_view x) command p ≡ true
  by_name p named =
      or_left (holds_named command p || is_renamed_by command p || has_grown (new_view x) command p) (has_new_holder (new_view x) command p)
      (or_left (holds_named command p || is_renamed_by command p) (has_grown (new_view x) command p) (or_left (holds_named command p) (is_renamed_by command p) named))

  pub k_may : may_be_rewritten (new_view x) command x.c.k.object.path ≡ true
  k_may = by_name x.c.k.object.path (or_left (is_same_path (holder from) x.c.k.object.path) (is_same_path (holder to) x.c.k.object.path) from_holds)

  pub l_may : may_be_rewritten (new_view x) command x.c.l.object.path ≡ true
  l_may = by_name x.c.l.object.path (or_second (is_same_path (holder from) x.c.l.object.path) (is_same_path (holder to) x.c.l.object.path) to_holds)

  pub size_is : object_size (dir_form (Layout.New x.m')) (copied x.c x.c.o).entry ≡ x.c.o.entry.len
  size_is =
      ap (λ (q : Object). object_size (dir_form (Layout.New x.m')) q.entry) (memory.is_copy x.c)
      ∙ ap (λ (b : Bool). cond b (directory_size (dir_form (Layout.New x.m')) x.c.o.entry.len) x.c.o.entry.len) x.copying.file

  pub may_new : (image : List ℕ) → OpensAs image x.kind (new_view x)
      → MayBeWritten x.kind (new_view x) x.m command (x.c.k.object.sectors ++ (x.c.l.object.sectors ++ (copied x.c x.c.o).sectors))
  may_new image opens =
      let v = new_view x in
      places_law.both x.kind v x.m command x.c.k.object.sectors (x.c.l.object.sectors ++ (copied x.c x.c.o).sectors)
      (places_law.directory x.kind image v x.m command x.c.k (record { opens = opens; layout = refl }) (memory.k_in x.nodes (Layout.New x.m) x.listings x.c held x.copying) k_may)
      (places_law.both x.kind v x.m command x.c.l.object.sectors (copied x.c x.c.o).sectors
      (places_law.directory x.kind image v x.m command x.c.l (record { opens = opens; layout = refl }) (memory.l_in x.nodes (Layout.New x.m) x.listings x.c held x.copying) l_may)
      (places_law.new_directory x.kind image v x.m x.m' command x.c.o.entry.len (file_low x.m.geometry (bits_in x.parts * x.m.geometry.bit_bytes) x.c.o.entry.len) x.id x.parts x.gone (copied x.c x.c.o) x.stay
      (file_low_small x.m.geometry (bits_in x.parts * x.m.geometry.bit_bytes) x.c.o.entry.len) (record { opens = opens; layout = refl })
      (record { is_map = x.agreed.is_map; geometry = x.geometry; space = x.space; gives = x.gives; at = x.at; size = size_is }) its.place))
