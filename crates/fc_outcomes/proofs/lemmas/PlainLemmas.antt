-- An edit on a new map, if the root and the map's record stay.
use Rattle.std.proofs.Common.{◌≡◌, ℕ, List, [], length, sym, ap, subst, ◌∙◌}
use Rattle.std.specs.Prelude.{Contains}
use Rattle.fc_record.specs.declared.DiscRecord.{DiscRecord}
use Rattle.fc_record.specs.declared.Kind.{Kind}
use Rattle.fc_newmap.specs.Map.{Map}
use Rattle.fc_image.specs.Layout.{Layout}
use Rattle.fc_image.specs.Walk.{Listing, Object}
use Rattle.fc_image.specs.Objects.{objects_of}
use Rattle.fc_image.specs.Stays.{IsNewKind, OpensAs}
use Rattle.fc_image.proofs.MapEditLemmas.{known_root}
use Rattle.fc_tree.proofs.MemberLemmas.{contains_here}
use Rattle.fc_changes.specs.Owed.{IsMapAfter}
use Rattle.fc_changes.proofs.BeforeLemmas as b_
use Rattle.fc_laws.proofs.lemmas.nodes.OtherLemmas.{top_object}
use Rattle.fc_edits.specs.Edit.{TopStays}
use Rattle.fc_edits.specs.PartsEdit.{NewPartsEdit, PartsEdit}
use Rattle.fc_edits.specs.Places.{Stays}
use Rattle.fc_edits.proofs.lemmas.AgreeLemmas as ag
use Rattle.fc_edits.proofs.lemmas.NewAgreeLemmas as na
use Rattle.fc_outcomes.specs.NewImage.{RootTurns}
use Rattle.fc_outcomes.specs.Written.{IsNewMapWritten, WritesForEdit}
use Rattle.fc_outcomes.proofs.lemmas.KeptLemmas.{written_free}

module _ (we : NewPartsEdit) (r : DiscRecord) (image image' : List ℕ) (new : IsNewKind we.kind r)
    (opens : OpensAs image we.kind (record { kind = we.kind; layout = Layout.New we.m; listings = we.listings })) (long : length image' ≡ length image)
    (written : List ℕ) (ww : WritesForEdit image image' (Layout.New we.m) we.edit written) where
  abbrev mem : PartsEdit
  mem = na.held_edit we

  abbrev kind : Kind
  kind = we.kind

  abbrev m : Map
  m = we.m

  abbrev listings : List Listing
  listings = we.listings

  -- the map of a root that stays
  pub map_written : IsMapAfter we.m we.m' image' → ((o : Object) → Contains (objects_of listings) o → o.path ≡ [] → TopStays we.edit o) → IsNewMapWritten kind r image image' m we.m' listings we.edit
  map_written after stays =
      let free = written_free mem image image' written ww (na.reserved_same we) in
      let boot = b_.boot_stays kind r image m listings new opens written image' free ww.writes in
      let had = b_.had kind r image m listings new opens in
      let x = b_.map_edit kind r image m listings new opens we.m' image' after.is_map after.geometry after.copies after.record_stays long boot in
      let h = ag.h mem in
      let there : Contains (objects_of listings) had.root = subst (λ (os : List Object). Contains os had.root) (sym had.objects) (contains_here had.root _) in
      let one = top_object (Layout.New m) listings we.nodes h.sound h.held had.root there had.is_root.path in
      let top_stays = ag.top_stays mem (subst (TopStays we.edit) one (stays had.root there had.is_root.path)) in
      let keeps = we.fit.keeps had.root (subst (Stays we.nodes listings we.edit) (sym one) top_stays) in
      let now = known_root kind r x.0 image image' (b_.old kind r image m listings new opens) m we.m' had.root x.1 after.record_stays keeps in
      record {
        own = x.0;
        agreed = x.1.agreed;
        chosen_map = x.1.chosen_map;
        boot_stays = boot;
        root_now = λ o at path.
            (let same = top_object (Layout.New m) listings we.nodes h.sound h.held o at path ∙ sym one in
            (stays o at path).keeps.entry ∙ ap (λ (y : Object). y.entry) same ∙ now.entry);
      }

  -- and of one that has another place
  pub map_rooted : RootTurns we r image' → IsNewMapWritten kind r image image' m we.m' listings we.edit
  map_rooted t =
      let free = written_free mem image image' written ww (na.reserved_same we) in
      record {
        own = t.own;
        agreed = t.agreed;
        chosen_map = b_.chosen_copies m.geometry we.m'.zones image' t.after.copies;
        boot_stays = b_.boot_stays kind r image m listings new opens written image' free ww.writes;
        root_now = t.turned;
      }
