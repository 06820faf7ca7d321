-- `rename` without a copy by which a directory grows: its edit is made, to another directory or within one.
use Rattle.fc_alloc.specs.declared.owner.Owner.{Owner}
use Rattle.fc_change.specs.Directories.{is_holder}
use Rattle.fc_change.specs.declared.change.Says.{Says}
use Rattle.fc_commands.proofs.GrownMoveAcrossLemmas as other_dir
use Rattle.fc_commands.proofs.GrownMoveAsideLemmas.{from_aim, from_home, held_in_it, holder_other, k_told, k_up, to_home}
use Rattle.fc_commands.proofs.GrownMoveEditLemmas.{AllSaidNow, IsSaidNow, become}
use Rattle.fc_commands.proofs.GrownMoveFirstLemmas.{home_said}
use Rattle.fc_commands.proofs.GrownMoveMadeLemmas.{MadeMove, none_made, up_in}
use Rattle.fc_commands.proofs.GrownMovePartLemmas.{IsGrownMove, PlainMove}
use Rattle.fc_commands.proofs.GrownMoveReadyLemmas.{IsHomeTold, PlainRename, about_cut, above_free, base, own_cut, pieces_are, plain_entry, told, whole, whole_home}
use Rattle.fc_commands.proofs.GrownMoveReadyLemmas as ready_of
use Rattle.fc_commands.proofs.GrownMoveSaidLemmas.{anew, grown_numb, holding_says, it, k, l, layout, numb, plain_says, regrown_name}
use Rattle.fc_commands.proofs.GrownMoveWantLemmas.{GrownRename}
use Rattle.fc_commands.proofs.GrownMoveWantLemmas as want
use Rattle.fc_commands.proofs.GrownMoveWholeLemmas.{made_within, own_named}
use Rattle.fc_commands.proofs.GrownSpaceLemmas.{growing_of}
use Rattle.fc_commands.proofs.MoveLemmas as seen_of
use Rattle.fc_dirs.specs.Directory.{Directory, entries_of}
use Rattle.fc_dirs.specs.Entries.{first_twin}
use Rattle.fc_dirs.specs.declared.Entry.{Entry}
use Rattle.fc_drafts.specs.Draft.{directory_in}
use Rattle.fc_edits.proofs.lemmas.GrownMovingLemmas.{grown_moving_law}
use Rattle.fc_edits.proofs.lemmas.ShapeLemmas.{none_flat, only}
use Rattle.fc_edits.proofs.lemmas.TransferLemmas.{rename_law}
use Rattle.fc_edits.specs.Edit.{Amended, owners_in}
use Rattle.fc_edits.specs.Moving.{Moves, edit, itself as amended_own, moved}
use Rattle.fc_edits.specs.Transfer.{Transfer, from_it, to_it, transfer_of}
use Rattle.fc_image.proofs.EntriesLemmas.{cases as contains_cases}
use Rattle.fc_image.specs.Walk.{Listing}
use Rattle.fc_image.specs.effects.Steady.{edited, holds_named, is_renamed_by, regrown_entry, with_made, without_name}
use Rattle.fc_laws.proofs.lemmas.agree.RenamedLemmas.{moved_entry}
use Rattle.fc_laws.proofs.lemmas.agree.SayLemmas.{as_directory as says_it}
use Rattle.fc_laws.specs.nodes.Edits.{owners_with}
use Rattle.fc_model.specs.Command.{Command}
use Rattle.fc_model.specs.Tree.{holder, last_name}
use Rattle.fc_names.specs.Names.{is_same_path}
use Rattle.fc_laws.proofs.lemmas.agree.TwinLemmas.{twins_same}
use Rattle.fc_outcomes.specs.Moving.{HasEntries}
use Rattle.fc_tree.proofs.EndLemmas.{no_twin as apart_names}
use Rattle.fc_tree.proofs.MemberLemmas.{from_map}
use Rattle.fc_writing.specs.declared.ready.Piece.{Piece}
use Rattle.std.proofs.Common.{Bool, List, None, Option, Some, [], ap, ap₂, cond, false, inl, inr, map, refl, remove, subst, sym, true, ⊎_elim, ◌++◌, ◌==◌, ◌||◌, ◌∙◌, ◌∷◌, ◌≡◌}
use Rattle.std.proofs.lemmas.Bool.{cases_eq, or_right as or_second}
use Rattle.std.proofs.lemmas.List.{append-nil}
use Rattle.std.proofs.lemmas.List.Elements.{Contains-append_cases}
use Rattle.std.specs.Prelude.{Contains}

-- ---- to another directory

module _ (w : PlainRename) (away : w.q.r.holder ≡ w.q.r.target.holder → ⊥) where
  abbrev q : GrownRename
  q = w.q

  abbrev b : (w.q.r.holder == w.q.r.target.holder) ≡ false
  b = other_dir.is_b w away

  abbrev home : IsHomeTold (base w) (other_dir.is_b w away)
  home = other_dir.home w away

  module _ (k_content : Directory) (removed : entries_of k_content ≡ remove (entries_of w.q.seen.known.target.listing.content) w.q.r.target.at) (apart : first_twin (entries_of k_content) ≡ None)
      (without : entries_of k_content ≡ without_name (last_name w.q.from) (entries_of w.q.seen.known.target.listing.content)) where
    abbrev c : Transfer
    c = other_dir.c w away k_content removed apart

    abbrev x : PlainMove w.q
    x = other_dir.x w away k_content removed apart

    abbrev its_entry : Option Entry
    its_entry = Some (moved (transfer_of c) (it q)).entry

    across_entries : HasEntries w.q.from w.q.to (transfer_of c)
    across_entries a there =
        ⊎_elim
        (λ is. subst (λ (y : Amended). entries_of y.content ≡ edited (Command.Rename q.from q.to) y.was.object.path its_entry (entries_of y.was.content)) is
        (without ∙ sym (ap₂
        (λ (d e : Bool). let rest = cond d (without_name (last_name q.from) (entries_of (k q).content)) (entries_of (k q).content) in cond e (with_made its_entry rest) rest) (from_home q away) (to_home q away))))
        (λ later. subst (λ (y : Amended). entries_of y.content ≡ edited (Command.Rename q.from q.to) y.was.object.path its_entry (entries_of y.was.content)) (only (to_it c) a later)
        ((other_dir.entered w away).entries ∙ ap (λ (d : Entry). with_made (Some d) (entries_of (l q).content)) (plain_entry w ∙ sym (moved_entry (l q).object.path q.name (it q)))
        ∙ sym (ap₂
        (λ (d e : Bool). let rest = cond d (without_name (last_name q.from) (entries_of (l q).content)) (entries_of (l q).content) in cond e (with_made its_entry rest) rest) (from_aim q away) q.seen.known.destination.above)))
        (contains_cases (from_it c) a (to_it c ∷ []) there)

    across_named : (a : Amended) → Contains (to_it c ∷ (map (amended_own (transfer_of c)) (other_dir.own w away).own ++ from_it c ∷ [])) a
        → (holds_named (Command.Rename w.q.from w.q.to) a.was.object.path || is_renamed_by (Command.Rename w.q.from w.q.to) a.was.object.path) ≡ true
    across_named a at =
        ⊎_elim
        (λ is. subst (λ (y : Amended). (holds_named (Command.Rename q.from q.to) y.was.object.path || is_renamed_by (Command.Rename q.from q.to) y.was.object.path) ≡ true) is
        (ap (λ (d : Bool). d || is_renamed_by (Command.Rename q.from q.to) (l q).object.path)
        (or_second (is_same_path (holder q.from) (l q).object.path) (is_same_path (holder q.to) (l q).object.path) q.seen.known.destination.above)))
        (λ later. ⊎_elim (λ mine. own_named w (told (base w) false b).own (other_dir.own w away) a (transfer_of c) mine)
        (λ last. subst (λ (y : Amended). (holds_named (Command.Rename q.from q.to) y.was.object.path || is_renamed_by (Command.Rename q.from q.to) y.was.object.path) ≡ true) (only (from_it c) a last)
        (ap (λ (d : Bool). (d || is_same_path (holder q.to) (k q).object.path) || is_renamed_by (Command.Rename q.from q.to) (k q).object.path) (from_home q away)))
        (Contains-append_cases (map (amended_own (transfer_of c)) (other_dir.own w away).own) (from_it c ∷ []) a later))
        (contains_cases (to_it c) a (map (amended_own (transfer_of c)) (other_dir.own w away).own ++ from_it c ∷ []) at)

    its_moves : Moves w.q.nodes w.q.listings (transfer_of c)
    its_moves = rename_law.across_any q.nodes (layout q) q.listings c (record { sound = q.seen.sound; held = q.seen.held }) (other_dir.transfers w away k_content removed apart)

    made_across : (gm : IsGrownMove w.q x ((told (base w) false b).said ∷ ((told (base w) false b).about ++ ((told (base w) false b).own ++ home.0 ∷ []))) ((ready_of.ready (base w) false b).own ∷ ((about_cut (base w) false b).0 ++ ((own_cut (base w) false b).0 ++ home.1 ∷ [])))) → MadeMove w
    made_across gm = record {
      c = transfer_of c;
      part = record {
        said = (told (base w) false b).said;
        others_said = (told (base w) false b).about ++ ((told (base w) false b).own ++ (told (base w) false b).home);
        says = (told (base w) false b).says;
        ready = ready_of.ready (base w) false b;
        said_node = (told (base w) false b).tells.number ∙ sym (grown_numb q);
        says_own = other_dir.says w away;
        grown = (told (base w) false b).grown;
        turned = (told (base w) false b).turned;
        none_made = none_made w (told (base w) false b).turned;
        entry = moved_entry (l q).object.path q.name (it q) ∙ sym (plain_entry w);
        keeps = λ d there. record { sectors = refl; len = refl; attrs = refl };
        lefts = λ y.
            ap (λ (ws : List Owner). (owners_with y q.r.target.holder q.r.target.node (it q) ++ []) ++ ws) (none_flat (λ (a : Amended). owners_in y a.number a.leave) (amended_own (transfer_of c)) (other_dir.own w away).own (λ d. refl))
            ∙ append-nil (owners_with y q.r.target.holder q.r.target.node (it q) ++ []) ∙ append-nil (owners_with y q.r.target.holder q.r.target.node (it q));
        joins = λ y.
            (let o = moved (transfer_of c) (it q) in
            ap (λ (ws : List Owner). (owners_with y q.r.holder q.r.target.node o ++ []) ++ ws) (none_flat (λ (a : Amended). owners_in y a.number a.join) (amended_own (transfer_of c)) (other_dir.own w away).own (λ d. refl))
            ∙ append-nil (owners_with y q.r.holder q.r.target.node o ++ []) ∙ append-nil (owners_with y q.r.holder q.r.target.node o));
        tops = gm.tops;
        kids = gm.kids;
        left = gm.left;
        cut = gm.cut;
        again = gm.again;
        same = gm.same;
        holder = gm.holder;
        others = gm.others;
        order = gm.order;
        above = gm.above;
        grows = gm.grows;
        all = subst (λ (ps : List Piece). AllSaidNow q (become q (edit (transfer_of c))) (up_in q (it q)) gm.order ((told (base w) false b).said ∷ ((told (base w) false b).about ++ ((told (base w) false b).own ++ (told (base w) false b).home))) ((ready_of.ready (base w) false b).own ∷ ps))
            (sym (pieces_are (base w) false b))
            (subst (λ (ss : List Says). AllSaidNow q (become q (edit (transfer_of c))) (up_in q (it q)) gm.order ((told (base w) false b).said ∷ ((told (base w) false b).about ++ ((told (base w) false b).own ++ ss)))
            ((ready_of.ready (base w) false b).own ∷ ((about_cut (base w) false b).0 ++ ((own_cut (base w) false b).0 ++ (own_cut (base w) false b).1)))) (sym home.2)
            (subst (λ (ps : List Piece). AllSaidNow q (become q (edit (transfer_of c))) (up_in q (it q)) gm.order ((told (base w) false b).said ∷ ((told (base w) false b).about ++ ((told (base w) false b).own ++ home.0 ∷ [])))
            ((ready_of.ready (base w) false b).own ∷ ((about_cut (base w) false b).0 ++ ((own_cut (base w) false b).0 ++ ps)))) (sym home.3) gm.all));
        among = gm.among;
        back = gm.back;
        order_is = gm.order_is;
        retold = gm.retold;
        enters = gm.enters;
        leave = gm.leave;
        join = gm.join;
        told_by = gm.told_by;
        kept_by = gm.kept_by;
        found = (grown_moving_law.is_edit q.nodes (layout q) q.listings (transfer_of c) (growing_of (l q).object (want.grown q).0 gm.again gm.same gm.holder gm.others) (record { sound = q.seen.sound; held = q.seen.held }) its_moves gm.grows).found;
        nodes_edited = grown_moving_law.nodes q.nodes (layout q) q.listings (transfer_of c) (growing_of (l q).object (want.grown q).0 gm.again gm.same gm.holder gm.others) (record { sound = q.seen.sound; held = q.seen.held }) its_moves gm.grows;
        named = λ a at. ⊎_elim
            (λ more. inl (subst (λ (d : Listing). (holds_named (Command.Rename q.from q.to) d.object.path || is_renamed_by (Command.Rename q.from q.to) d.object.path) ≡ true) more.2 (across_named more.0 more.1)))
            (λ around'. inr around') (gm.whose a at);
      };
      moves = its_moves;
      o_is = refl;
      name_is = refl;
      l_is = refl;
      entries = across_entries;
    }

  -- The other directory doesn't hold the one that grows,
  plain_made : is_holder w.q.nodes (want.grown w.q).0.directory (numb w.q w.q.seen.known.target.listing) ≡ false → MadeMove w
  plain_made none =
      let says = plain_says q home.0 home.4 none in
      let content = directory_in home.0.draft in
      let apart = apart_names content (says_it content home.5.drafted.sayable) in
      let x' = other_dir.x w away content says.removed apart in
      let said : IsSaidNow q (become q x'.edit) x'.up (from_it (other_dir.c w away content says.removed apart)) home.0 home.1 =
      home_said q x'.edit (up_in q (it q)) away (k_up q away) (record { sectors = refl; len = refl; attrs = refl }) (from_it (other_dir.c w away content says.removed apart)) home.0 home.1 home.4 content refl refl refl says home.5 in
      made_across content says.removed apart says.without
      (whole q x' (told (base w) false b).about (about_cut (base w) false b).0 (told (base w) false b).tell_about (about_cut (base w) false b).3 (home.0 ∷ []) (home.1 ∷ []) (said, tt)
      (λ h there kid. above_free q false h there kid (holder_other q away none h there kid)))

  -- or it does.
  holding_made : is_holder w.q.nodes (want.grown w.q).0.directory (numb w.q w.q.seen.known.target.listing) ≡ true → MadeMove w
  holding_made holds =
      let place = held_in_it q away holds in
      let both = holding_says q home.0 home.4 holds place.1 in
      let plain = both.0 in
      let says = both.1 in
      let content = directory_in home.0.draft in
      let apart : first_twin (entries_of plain) ≡ None =
      sym (twins_same (regrown_entry (k q).object.path (Some (anew q))) (λ e. regrown_name (k q).object.path (anew q) e) (entries_of plain)) ∙ ap first_twin (sym both.2) ∙ apart_names content (says_it content home.5.drafted.sayable) in
      let c' = other_dir.c w away plain says.removed apart in
      let x' = other_dir.x w away plain says.removed apart in
      let a = from_it c' in
      let said : IsSaidNow q (become q x'.edit) x'.up (record a { content = directory_in home.0.draft }) home.0 home.1 =
      home_said q x'.edit (up_in q (it q)) away (k_up q away) (record { sectors = refl; len = refl; attrs = refl }) (record a { content = directory_in home.0.draft }) home.0 home.1 home.4 plain refl refl refl says home.5 in
      made_across plain says.removed apart says.without
      (whole_home q x' (told (base w) false b).about (about_cut (base w) false b).0 (told (base w) false b).tell_about (about_cut (base w) false b).3 a home.0 home.1
      (record {
        home_is = refl;
        leaves = refl;
        first_none = refl;
        apart = λ y there. ⊎_elim (λ is same. away (ap (λ (z : Amended). z.number) is ∙ sym same))
            (λ mine same. (let d = from_map (amended_own (transfer_of c')) (other_dir.own w away).own y mine in
            seen_of.home_other (layout q) q.nodes q.listings q.from q.to q.r q.name q.seen (same ∙ ap (λ (z : Amended). z.number) (sym d.2)))) (contains_cases (to_it c') y (map (amended_own (transfer_of c')) (other_dir.own w away).own) there);
        listed = q.seen.known.target.listed;
        number_at = q.seen.known.target.holder_is;
        holds = place.0;
        keeps = place.2;
        entries = both.2;
        said = said;
      })
      (k_told q away))

  pub made_away : MadeMove w
  made_away = by (is_holder w.q.nodes (want.grown w.q).0.directory (numb w.q w.q.seen.known.target.listing)) refl
    where
      by : (d : Bool) → is_holder w.q.nodes (want.grown w.q).0.directory (numb w.q w.q.seen.known.target.listing) ≡ d → MadeMove w
      by true e = holding_made e
      by false e = plain_made e

-- ---- either

pub made : (w : PlainRename) → MadeMove w
made w = elim (cases_eq w.q.r.holder w.q.r.target.holder) [
  | inl here ↦ made_within w here
  | inr away ↦ made_away w away
]
