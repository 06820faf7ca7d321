-- The new image after an edit, on a new map.
use Rattle.std.proofs.Common.{ℕ, List, [], ◌++◌, map, refl, ap, subst}
use Rattle.fc_names.specs.Names.{Path}
use Rattle.fc_record.specs.declared.DiscRecord.{DiscRecord}
use Rattle.fc_record.specs.declared.Kind.{Kind}
use Rattle.fc_newmap.specs.Map.{Map}
use Rattle.fc_image.specs.Layout.{Layout}
use Rattle.fc_image.specs.Walk.{Listing, Object}
use Rattle.fc_image.specs.Opening.{Opened}
use Rattle.fc_image.specs.Stays.{IsNewKind, OpensAs}
use Rattle.fc_image.specs.Edits.{Apart}
use Rattle.fc_image.specs.MapEdits.{IsMapEdit, IsNewMapEdit}
use Rattle.fc_image.specs.TreeEdits.{IsMove, IsObjectEdit}
use Rattle.fc_image.proofs.MapEditLemmas.{map_edit_law}
use Rattle.fc_changes.proofs.BeforeLemmas.{map_of_new}
use Rattle.fc_edits.specs.Edit.{Edit, listings_after, objects}
use Rattle.fc_edits.proofs.lemmas.AgreeLemmas as ag
use Rattle.fc_edits.specs.PartsEdit.{NewPartsEdit, PartsEdit}
use Rattle.fc_edits.proofs.lemmas.RelistingLemmas.{relisting}
use Rattle.fc_outcomes.specs.Written.{IsEditWritten, IsNewMapWritten, KeepsPaths, MovesPaths}
use Rattle.fc_outcomes.specs.Done.{IsDone}
use Rattle.fc_edits.proofs.lemmas.NewAgreeLemmas as na
use Rattle.fc_outcomes.proofs.lemmas.DoneLemmas.{all_moved, all_now, done_as, first_top, kept, kids, others_kept, parted, say_image, top, top_in, top_path}

module _ (we : NewPartsEdit) (r : DiscRecord) (image image' : List ℕ) (new : IsNewKind we.kind r)
    (opens : OpensAs image we.kind (record { kind = we.kind; layout = Layout.New we.m; listings = we.listings }))
    (w : IsEditWritten image image' (Layout.New we.m) (Layout.New we.m') we.nodes we.listings we.edit) (mw : IsNewMapWritten we.kind r image image' we.m we.m' we.listings we.edit) where
  abbrev kind : Kind
  kind = we.kind

  abbrev m : Map
  m = we.m

  abbrev m' : Map
  m' = we.m'

  abbrev listings : List Listing
  listings = we.listings

  abbrev e : Edit
  e = we.edit

  abbrev mem : PartsEdit
  mem = na.held_edit we

  abbrev v : Opened
  v = record { kind = kind; layout = Layout.New m; listings = listings }

  abbrev top' : Object
  top' = top mem image image' opens w

  map_now : IsMapEdit kind r mw.own image image' v m m' top'
  map_now = record {
    new_kind = new;
    opens = opens;
    layout = refl;
    first = first_top mem image image' opens w;
    geometry_stays = we.fit.geometry;
    agreed = mw.agreed;
    is_map = map_of_new m' we.fit.is_map;
    chosen_map = mw.chosen_map;
    length_stays = w.length_stays;
    boot_stays = mw.boot_stays;
  }

  edit_now : IsNewMapEdit kind r mw.own image image' v m m' top' e.turn (listings_after e) (objects e.gone) (objects e.come) (kept mem image image' opens w)
  edit_now = record {
    maps = map_now;
    relisted = relisting (ag.ne mem);
    few = ag.few_now mem;
    say = say_image mem image image' opens w;
    root_now = record {
      path = we.is_edit.top_path top' (top_in mem image image' opens w) (top_path mem image image' opens w);
      entry = mw.root_now top' (top_in mem image image' opens w) (top_path mem image image' opens w);
      placed = (ag.root_now mem).is_root.placed;
    };
    apart = subst (λ (ss : List ℕ). Apart ss (all_now mem image image' opens w)) (na.reserved_same we) (ag.apart_now mem);
    fixed = λ k still used. na.fixed_now we k still used;
  }

  pub done_new : (changing : List Object) → KeepsPaths image image' (Layout.New m) (Layout.New m') we.nodes listings e changing
      → (d : IsDone kind image' (Layout.New m') we.nodes' we.owners' e)
      × IsObjectEdit image image' (Layout.New m) (Layout.New m') listings d.found (changing ++ objects e.gone) (map e.turn changing ++ objects e.come)
  done_new changing t =
      let x = map_edit_law.any kind r mw.own image image' v m m' top' e.turn (listings_after e) (objects e.gone) (objects e.come) (kept mem image image' opens w) changing (t.steady ++ kids mem image image' opens w) edit_now
      (parted mem image image' opens w changing t) (others_kept mem image image' opens w changing t) in
      (done_as mem image image' opens w x.0, x.1)

  pub done_new_moved : (from to : Path) → MovesPaths image image' (Layout.New m) (Layout.New m') we.nodes listings e from to
      → (d : IsDone kind image' (Layout.New m') we.nodes' we.owners' e) × IsMove image image' (Layout.New m) (Layout.New m') listings d.found from to
  done_new_moved from to t =
      let x = map_edit_law.any_moved kind r mw.own image image' v m m' top' e.turn (listings_after e) (kept mem image image' opens w) from to
      (subst (λ (os : List Object). IsNewMapEdit kind r mw.own image image' v m m' top' e.turn (listings_after e) os [] (kept mem image image' opens w)) (ap objects t.none_goes)
      (subst (λ (os : List Object). IsNewMapEdit kind r mw.own image image' v m m' top' e.turn (listings_after e) (objects e.gone) os (kept mem image image' opens w)) (ap objects t.none_comes) edit_now)) t.no_root
      (all_moved mem image image' opens w from to t) in
      (done_as mem image image' opens w x.0, x.1)
