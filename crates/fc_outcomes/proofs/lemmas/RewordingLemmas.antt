-- `set` and `mark` on both maps, and what they may write at every exit.
use Rattle.std.proofs.Common.{◌≡◌, ℕ, Bool, true, ◌||◌, List, refl, sym, ap, ◌∙◌}
use Rattle.fc_names.specs.Names.{Path, is_same_path}
use Rattle.fc_oldmap.specs.Laws.{ReadsBack}
use Rattle.fc_model.specs.Command.{Command}
use Rattle.fc_image.specs.Layout.{Layout}
use Rattle.fc_image.specs.Walk.{Listing}
use Rattle.fc_image.specs.Opening.{Opened}
use Rattle.fc_image.specs.Stays.{OpensAs}
use Rattle.fc_image.specs.effects.Steady.{has_grown, has_new_holder, is_renamed_by, may_be_rewritten}
use Rattle.fc_tree.proofs.WalkedLemmas.{child_path}
use Rattle.fc_changes.proofs.ReadsLemmas.{lies_in}
use Rattle.fc_laws.specs.nodes.Edits.{Nodes}
use Rattle.fc_laws.specs.nodes.Laws.{IsHeld}
use Rattle.fc_laws.specs.takeover.Places.{MayBeWritten}
use Rattle.fc_laws.proofs.lemmas.takeover.ApartLemmas.{places_law}
use Rattle.fc_changes.specs.old.Owed.{IsBefore}
use Rattle.fc_laws.specs.old.takeover.Places.{AreSpared, MayBeWritten as OldMayBeWritten}
use Rattle.fc_laws.proofs.lemmas.old.takeover.ApartLemmas.{places_law as old_places_law}
use Rattle.fc_edits.specs.Rewording.{IsReworded, NewRewording, OldRewording, Rewording}
use Rattle.fc_edits.proofs.lemmas.AgreeLemmas as ag
use Rattle.fc_edits.proofs.lemmas.NewAgreeLemmas as na
use Rattle.fc_edits.proofs.lemmas.RewordingLemmas as memory
use Rattle.fc_outcomes.specs.Rewording.{IsToReword, RewordingLaw, new_view, old_view}
use Rattle.fc_outcomes.proofs.lemmas.RewordedLemmas.{new_reworded, old_reworded}
use Rattle.fc_outcomes.proofs.lemmas.WordLemmas.{word_command}

-- Such a command may rewrite the directory that holds its object.
may_rewrite : (nodes : Nodes) (layout : Layout) (listings : List Listing) (c : Rewording) (h : IsHeld nodes layout listings) (d : IsReworded nodes layout listings c) (v : Opened) (command : Command) (path : Path)
    → IsToReword command path c → may_be_rewritten v command c.l.object.path ≡ true
may_rewrite nodes layout listings c h d v command path its =
    let lies = lies_in path c.l.object.path c.o.entry.name
    (ap (is_same_path path) (sym (child_path layout listings h.sound c.l c.o (memory.l_in nodes layout listings c h d) (memory.kid_in nodes layout listings c h d))) ∙ its.path_is) in
    ap (λ (b : Bool). b || is_renamed_by command c.l.object.path || has_grown v command c.l.object.path || has_new_holder v command c.l.object.path)
    ((word_command command path c.o.path c.turn its.words).holds c.l.object.path ∙ lies.holds)

may_new : (x : NewRewording) (command : Command) (path : Path) (image : List ℕ) → OpensAs image x.kind (new_view x) → IsToReword command path x.c
    → MayBeWritten x.kind (new_view x) x.m command x.c.l.object.sectors
may_new x command path image opens its =
    let h = ag.h (na.held_edit (memory.new_parts x)) in
    places_law.directory x.kind image (new_view x) x.m command x.c.l (record { opens = opens; layout = refl }) (memory.l_in x.nodes (Layout.New x.m) x.listings x.c h x.reworded)
    (may_rewrite x.nodes (Layout.New x.m) x.listings x.c h x.reworded (new_view x) command path its)

may_old : (x : OldRewording) (command : Command) (path : Path) (image : List ℕ) → OpensAs image x.kind (old_view x) → IsToReword command path x.c
    → OldMayBeWritten (old_view x) x.space command x.c.l.object.sectors × AreSpared (old_view x) x.space command x.c.l.object.sectors
may_old x command path image opens its =
    let h = memory.old_held x in
    let before : IsBefore x.kind image (old_view x) x.space = record { opens = opens; layout = refl; is_map = x.agreed.is_map } in
    let may = old_places_law.directory x.kind image (old_view x) x.space command x.c.l before (memory.l_in x.nodes (Layout.Old x.space) x.listings x.c h x.reworded)
    (may_rewrite x.nodes (Layout.Old x.space) x.listings x.c h x.reworded (old_view x) command path its) in
    (may, old_places_law.spared x.kind image (old_view x) x.space command x.c.l.object.sectors before may)

pub rewording_law : ReadsBack → RewordingLaw
rewording_law back = record {
  new = λ x command path bytes image image' w. new_reworded x command path bytes image image' w;
  old = λ x command path bytes image image' w. old_reworded back x command path bytes image image' w;
  new_may = may_new;
  old_may = may_old;
}
