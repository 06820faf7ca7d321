-- The new image after an edit, on an old map.
use Rattle.std.proofs.Common.{ℕ, List, [], ◌++◌, map, refl, ap, subst}
use Rattle.fc_names.specs.Names.{Path}
use Rattle.fc_record.specs.declared.Kind.{Kind}
use Rattle.fc_oldmap.specs.OldMap.{OldMapContent}
use Rattle.fc_image.specs.Layout.{Layout}
use Rattle.fc_image.specs.Walk.{Listing, Object}
use Rattle.fc_image.specs.Opening.{Opened}
use Rattle.fc_image.specs.Stays.{OpensAs}
use Rattle.fc_image.specs.OldEdits.{IsOldMapEdit}
use Rattle.fc_image.specs.TreeEdits.{IsMove, IsObjectEdit}
use Rattle.fc_image.proofs.OldEditLemmas.{old_map_edit_law}
use Rattle.fc_changes.specs.old.Owed.{holding}
use Rattle.fc_edits.specs.Edit.{Edit, listings_after, objects}
use Rattle.fc_edits.proofs.lemmas.AgreeLemmas as ag
use Rattle.fc_edits.specs.OldPlaces.{with_holes}
use Rattle.fc_edits.specs.PartsEdit.{OldPartsEdit, PartsEdit, old_parts}
use Rattle.fc_edits.proofs.lemmas.RelistingLemmas.{relisting}
use Rattle.fc_outcomes.specs.Written.{IsEditWritten, IsOldMapWritten, KeepsPaths, MovesPaths}
use Rattle.fc_outcomes.specs.Done.{DoneLaw, IsDone}
use Rattle.fc_outcomes.proofs.lemmas.DoneLemmas.{all_moved, done_as, first_top, kept, kids, others_kept, parted, say_image, top, top_in, top_path}
use Rattle.fc_outcomes.proofs.lemmas.NewDoneLemmas.{done_new, done_new_moved}

module _ (oe : OldPartsEdit) (image image' : List ℕ) (opens : OpensAs image oe.kind (record { kind = oe.kind; layout = Layout.Old oe.space; listings = oe.listings }))
    (w : IsEditWritten image image' (Layout.Old oe.space) (with_holes oe.space oe.holes) oe.nodes oe.listings oe.edit)
    (mw : IsOldMapWritten oe.kind image' oe.space (holding oe.space oe.holes) oe.listings oe.edit) where
  abbrev kind : Kind
  kind = oe.kind

  abbrev space : OldMapContent
  space = oe.space

  abbrev space' : OldMapContent
  space' = holding oe.space oe.holes

  abbrev listings : List Listing
  listings = oe.listings

  abbrev e : Edit
  e = oe.edit

  abbrev mem : PartsEdit
  mem = old_parts oe

  abbrev v : Opened
  v = record { kind = kind; layout = Layout.Old space; listings = listings }

  abbrev top' : Object
  top' = top mem image image' opens w

  edit_now : IsOldMapEdit kind image image' v space space' top' e.turn (listings_after e) (objects e.gone) (objects e.come) (kept mem image image' opens w)
  edit_now = record {
    opens = opens;
    layout = refl;
    first = first_top mem image image' opens w;
    sector_stays = mw.sector_stays;
    disc_stays = mw.disc_stays;
    address = mw.address;
    found = mw.found;
    fits = mw.fits;
    length_stays = w.length_stays;
    relisted = relisting (ag.ne mem);
    few = ag.few_now mem;
    say = say_image mem image image' opens w;
    root_stays = mw.root_stays top' (top_in mem image image' opens w) (top_path mem image image' opens w);
    apart = ag.apart_now mem;
  }

  pub done_old : (changing : List Object) → KeepsPaths image image' (Layout.Old space) (Layout.Old space') oe.nodes listings e changing
      → (d : IsDone kind image' (Layout.Old space') oe.nodes' oe.owners' e)
      × IsObjectEdit image image' (Layout.Old space) (Layout.Old space') listings d.found (changing ++ objects e.gone) (map e.turn changing ++ objects e.come)
  done_old changing t =
      let x = old_map_edit_law.any kind image image' v space space' top' e.turn (listings_after e) (objects e.gone) (objects e.come) (kept mem image image' opens w) changing (t.steady ++ kids mem image image' opens w) edit_now
      (parted mem image image' opens w changing t) (others_kept mem image image' opens w changing t) in
      (done_as mem image image' opens w x.0, x.1)

  pub done_old_moved : (from to : Path) → MovesPaths image image' (Layout.Old space) (Layout.Old space') oe.nodes listings e from to
      → (d : IsDone kind image' (Layout.Old space') oe.nodes' oe.owners' e) × IsMove image image' (Layout.Old space) (Layout.Old space') listings d.found from to
  done_old_moved from to t =
      let x = old_map_edit_law.any_moved kind image image' v space space' top' e.turn (listings_after e) (kept mem image image' opens w) from to
      (subst (λ (os : List Object). IsOldMapEdit kind image image' v space space' top' e.turn (listings_after e) os [] (kept mem image image' opens w)) (ap objects t.none_goes)
      (subst (λ (os : List Object). IsOldMapEdit kind image image' v space space' top' e.turn (listings_after e) (objects e.gone) os (kept mem image image' opens w)) (ap objects t.none_comes) edit_now)) t.no_root
      (all_moved mem image image' opens w from to t) in
      (done_as mem image image' opens w x.0, x.1)

pub done_law : DoneLaw
done_law = record {
  new = λ x r image image' changing new opens w mw t. done_new x r image image' new opens w mw changing t;
  new_moved = λ x r image image' from to new opens w mw t. done_new_moved x r image image' new opens w mw from to t;
  old = λ x image image' changing opens w mw t. done_old x image image' opens w mw changing t;
  old_moved = λ x image image' from to opens w mw t. done_old_moved x image image' opens w mw from to t;
}
