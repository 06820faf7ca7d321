-- An entry comes to a directory that grows, in the safe mode: the edit that this is.
use Rattle.std.proofs.Common.{◌≡◌, ℕ, List, [], ◌∷◌, ◌++◌, refl, sym, ap, ◌∙◌, Some, None}
use Rattle.std.specs.Prelude.{Contains}
use Rattle.std.specs.FinMap.{get}
use Rattle.fc_names.specs.declared.name.NameForm.TheVariants as forms
use Rattle.fc_dirs.specs.Directory.{Directory}
use Rattle.fc_drafts.specs.Draft.{directory_in}
use Rattle.fc_image.specs.Layout.{Layout, dir_form}
use Rattle.fc_image.specs.Walk.{Listing, Object}
use Rattle.fc_laws.specs.nodes.Edits.{Nodes}
use Rattle.fc_edits.specs.Addition.{Addition, Comes}
use Rattle.fc_edits.specs.Edit.{AreEdited}
use Rattle.fc_edits.specs.Growing.{Growing}
use Rattle.fc_edits.specs.GrownAddition.{grown_edit}
use Rattle.fc_change.specs.After.{nodes_after}
use Rattle.fc_commands.proofs.GrownAroundLemmas.{IsCutAround}
use Rattle.fc_commands.proofs.GrownArrivalLemmas as arrival
use Rattle.fc_commands.proofs.GrownSaidLemmas.{GrownEdit}
use Rattle.fc_laws.proofs.lemmas.agree.BeforeLemmas.{agreed_law}
use Rattle.fc_safecommands.proofs.GrownArrivalLemmas.{form}
use Rattle.fc_safecommands.proofs.GrownArrivalStageLemmas.{number_then}
use Rattle.fc_safecommands.proofs.GrownComesLemmas.{GrownRun, absent, comes, comes_alone, e, into, is_own, o, own, p, room, sectors, tells}
use Rattle.fc_safecommands.proofs.GrownOldLemmas.{p', r', ready}

module _ (w : GrownRun) (number : ℕ) where
  abbrev pub content : Directory
  content = directory_in (tells w).said.draft

  abbrev pub around : (tops kids left : List Listing) × IsCutAround w.a.listings w.a.spot.listing tops kids left
  around =
      arrival.around w.a.kind w.a.m w.a.nodes w.a.owners w.a.root w.a.listings w.a.agreed w.a.spot.listing w.a.spot.listed (p' w) (number_then w.a w.s w.placed) (form w.a) (e w) w.c (tells w) (room w) [] (r' w) (ready w) (absent w)
      (sectors w) (into w) number

  abbrev pub children : List Object
  children =
      arrival.children w.a.kind w.a.m w.a.nodes w.a.owners w.a.root w.a.listings w.a.agreed w.a.spot.listing w.a.spot.listed (p' w) (number_then w.a w.s w.placed) (form w.a) (e w) w.c (tells w) (room w) [] (r' w) (ready w) (absent w)
      (sectors w) (into w) number

  abbrev pub ge : GrownEdit (Layout.New w.a.m) w.a.nodes w.a.listings (agreed_law.sound w.a.kind w.a.m w.a.nodes w.a.owners w.a.root w.a.listings w.a.agreed) w.a.agreed.walked.held w.a.spot.listing w.a.spot.listed (p' w) (number_then w.a w.s w.placed) w.a.agreed.walked.forms (directory_in (tells w).said.draft) children (o w)
      (into w) number around.0 around.1 around.2 ((tells w).said ∷ (tells w).others) ((ready w).own ∷ (ready w).pieces)
  ge =
      arrival.grown w.a.kind w.a.m w.a.nodes w.a.owners w.a.root w.a.listings w.a.agreed w.a.spot.listing w.a.spot.listed (p' w) (number_then w.a w.s w.placed) (form w.a) (e w) w.c (tells w) (room w) [] (r' w) (ready w) (absent w)
      (sectors w) (into w) number

  -- what comes, and the directory that grows
  abbrev pub c_add : Addition
  c_add =
      arrival.c_add w.a.kind w.a.m w.a.nodes w.a.owners w.a.root w.a.listings w.a.agreed w.a.spot.listing w.a.spot.listed (p' w) (number_then w.a w.s w.placed) (form w.a) (e w) w.c (tells w) (room w) [] (r' w) (ready w) (absent w)
      (sectors w) (into w) number

  abbrev pub grows : Growing
  grows =
      arrival.growing w.a.kind w.a.m w.a.nodes w.a.owners w.a.root w.a.listings w.a.agreed w.a.spot.listing w.a.spot.listed (p' w) (number_then w.a w.s w.placed) (form w.a) (e w) w.c (tells w) (room w) [] (r' w) (ready w) (absent w)
      (sectors w) (into w) number

  module _ (free : get w.a.nodes number ≡ None) where
    pub it_comes : Comes w.a.nodes (Layout.New w.a.m) w.a.listings c_add
    it_comes =
        arrival.comes w.a.kind w.a.m w.a.nodes w.a.owners w.a.root w.a.listings w.a.agreed w.a.spot.listing w.a.spot.listed (p' w) (number_then w.a w.s w.placed) (form w.a) (e w) w.c (tells w) (room w) [] (r' w) (ready w) (absent w)
        (sectors w) (into w) number free (comes_alone w)

    pub nodes_edited : AreEdited w.a.nodes (nodes_after w.c number w.a.nodes) (grown_edit c_add grows)
    nodes_edited =
        arrival.nodes_edited w.a.kind w.a.m w.a.nodes w.a.owners w.a.root w.a.listings w.a.agreed w.a.spot.listing w.a.spot.listed (p' w) (number_then w.a w.s w.placed) (form w.a) (e w) w.c (tells w) (room w) [] (r' w) (ready w) (absent w)
        (sectors w) (into w) number free (comes_alone w) (own w) (is_own w number) (comes w)
