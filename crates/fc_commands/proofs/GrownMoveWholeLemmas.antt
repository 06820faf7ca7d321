-- `rename` within a directory that grows: its edit, with the growth, is made.
use Rattle.fc_alloc.specs.declared.owner.Owner.{Owner}
use Rattle.fc_change.specs.declared.change.Says.{Says}
use Rattle.fc_commands.proofs.GrownMoveEditLemmas.{AllSaidNow, become}
use Rattle.fc_commands.proofs.GrownMoveFirstLemmas.{own_in}
use Rattle.fc_commands.proofs.GrownMoveMadeLemmas.{MadeMove, none_made, up_in}
use Rattle.fc_commands.proofs.GrownMovePartLemmas.{IsGrownMove}
use Rattle.fc_commands.proofs.GrownMoveReadyLemmas.{PlainRename, about_cut, above_free, base, own_cut, pieces_are, plain_entry, told, whole, whole_home}
use Rattle.fc_commands.proofs.GrownMoveReadyLemmas as ready_of
use Rattle.fc_commands.proofs.GrownMoveSaidLemmas.{IsOwnGrown, grown_numb, it, k, l, layout}
use Rattle.fc_commands.proofs.GrownMoveWantLemmas.{GrownRename}
use Rattle.fc_commands.proofs.GrownMoveWantLemmas as want
use Rattle.fc_commands.proofs.GrownMoveWithinLemmas as same_dir
use Rattle.fc_commands.proofs.GrownSpaceLemmas.{growing_of}
use Rattle.fc_commands.proofs.MoveLemmas as seen_of
use Rattle.fc_dirs.specs.Directory.{entries_of}
use Rattle.fc_dirs.specs.declared.Entry.{Entry}
use Rattle.fc_edits.proofs.lemmas.GrownMovingLemmas.{grown_moving_law}
use Rattle.fc_edits.proofs.lemmas.ShapeLemmas.{none_flat, of_one}
use Rattle.fc_edits.proofs.lemmas.TransferLemmas.{rename_law}
use Rattle.fc_edits.specs.Edit.{Amended, owners_in}
use Rattle.fc_edits.specs.Moving.{Moves, Moving, edit, itself as amended_own, moved}
use Rattle.fc_edits.specs.Transfer.{renaming_of, within}
use Rattle.fc_image.proofs.CommandLemmas.{same_by_folds}
use Rattle.fc_image.proofs.EntriesLemmas.{cases as contains_cases}
use Rattle.fc_image.specs.Walk.{Listing, Object}
use Rattle.fc_image.specs.effects.Steady.{edited, holds_named, is_renamed_by, with_made, without_name}
use Rattle.fc_laws.proofs.lemmas.agree.RenamedLemmas.{moved_entry}
use Rattle.fc_laws.specs.nodes.Edits.{owners_with}
use Rattle.fc_model.specs.Command.{Command}
use Rattle.fc_model.specs.Tree.{holder, last_name}
use Rattle.fc_names.specs.Names.{is_same_path}
use Rattle.fc_outcomes.specs.Moving.{HasEntries}
use Rattle.fc_tree.proofs.MemberLemmas.{from_map}
use Rattle.fc_tree.proofs.SoundLemmas.{folds_alike}
use Rattle.fc_writing.specs.declared.ready.Piece.{Piece}
use Rattle.std.proofs.Common.{Bool, List, Some, [], ap, ap₂, cond, inl, inr, map, refl, subst, sym, true, ℕ, ⊎_elim, ◌++◌, ◌==◌, ◌||◌, ◌∙◌, ◌∷◌, ◌≡◌}
use Rattle.std.proofs.lemmas.Bool.{or_right as or_second}
use Rattle.std.proofs.lemmas.List.{append-nil}
use Rattle.std.specs.Prelude.{Contains}

-- ---- the object's own directory

pub own_named : (w : PlainRename) (ss : List Says) (o : IsOwnGrown w.q ss) (a : Amended) (c : Moving) → Contains (map (amended_own c) o.own) a
    → (holds_named (Command.Rename w.q.from w.q.to) a.was.object.path || is_renamed_by (Command.Rename w.q.from w.q.to) a.was.object.path) ≡ true
own_named w ss o a c at =
    let q = w.q in
    let d = from_map (amended_own c) o.own a at in
    let there = own_in q ss o d.0 d.1 in
    or_second (holds_named (Command.Rename q.from q.to) a.was.object.path) (is_renamed_by (Command.Rename q.from q.to) a.was.object.path)
    (ap (λ (b : Amended). is_same_path b.was.object.path q.from) (sym d.2) ∙ ap (λ (p : Object). is_same_path p.path q.from) there.1 ∙ same_by_folds (it q).path q.from (sym (folds_alike q.from (it q).path q.seen.known.target.path_is)))

-- ---- in its directory

module _ (w : PlainRename) (here : w.q.r.holder ≡ w.q.r.target.holder) where
  abbrev q : GrownRename
  q = w.q

  abbrev b : (w.q.r.holder == w.q.r.target.holder) ≡ true
  b = same_dir.is_b w here

  abbrev gm : IsGrownMove w.q (same_dir.x w here) ((told (base w) true (same_dir.is_b w here)).said ∷ ((told (base w) true (same_dir.is_b w here)).about ++ ((told (base w) true (same_dir.is_b w here)).own ++ (told (base w) true (same_dir.is_b w here)).home)))
      ((ready_of.ready (base w) true (same_dir.is_b w here)).own ∷ ((about_cut (base w) true (same_dir.is_b w here)).0 ++ ((own_cut (base w) true (same_dir.is_b w here)).0 ++ (own_cut (base w) true (same_dir.is_b w here)).1)))
  gm = same_dir.grown_move w here

  within_entries : HasEntries w.q.from w.q.to (renaming_of (same_dir.c w here))
  within_entries = of_one
      (λ (a : Amended). entries_of a.content ≡ edited (Command.Rename q.from q.to) a.was.object.path (Some (moved (renaming_of (same_dir.c w here)) (it q)).entry) (entries_of a.was.content)) (within (same_dir.c w here))
      ((same_dir.renamed_in w here).entries (it q).entry (last_name q.from) (seen_of.entry_there (layout q) q.nodes q.listings q.from q.to q.r q.name q.seen) (seen_of.named_from (layout q) q.nodes q.listings q.from q.to q.r q.name q.seen)
      ∙ ap (λ (d : Entry). with_made (Some d) (without_name (last_name q.from) (entries_of (k q).content))) (plain_entry w ∙ sym (moved_entry (k q).object.path q.name (it q)))
      ∙ sym (ap₂
      (λ (a c : Bool).
      let left = cond a (without_name (last_name q.from) (entries_of (k q).content)) (entries_of (k q).content) in cond c (with_made (Some (moved (renaming_of (same_dir.c w here)) (it q)).entry) left) left)
      (seen_of.lies_from (layout q) q.nodes q.listings q.from q.to q.r q.name q.seen).holds (seen_of.above_to (layout q) q.nodes q.listings q.from q.to q.r q.name q.seen here)))

  within_named : (a : Amended) → Contains (within (same_dir.c w here) ∷ (map (amended_own (renaming_of (same_dir.c w here))) (same_dir.own w here).own ++ [])) a
      → (holds_named (Command.Rename w.q.from w.q.to) a.was.object.path || is_renamed_by (Command.Rename w.q.from w.q.to) a.was.object.path) ≡ true
  within_named a at =
      ⊎_elim
      (λ is. subst (λ (c : Amended). (holds_named (Command.Rename q.from q.to) c.was.object.path || is_renamed_by (Command.Rename q.from q.to) c.was.object.path) ≡ true) is
      (ap (λ (c : Bool). (c || is_same_path (holder q.to) (k q).object.path) || is_renamed_by (Command.Rename q.from q.to) (k q).object.path) (seen_of.lies_from (layout q) q.nodes q.listings q.from q.to q.r q.name q.seen).holds))
      (λ later. own_named w (told (base w) true b).own (same_dir.own w here) a (renaming_of (same_dir.c w here))
      (subst (λ (bs : List Amended). Contains bs a) (append-nil (map (amended_own (renaming_of (same_dir.c w here))) (same_dir.own w here).own)) later))
      (contains_cases (within (same_dir.c w here)) a (map (amended_own (renaming_of (same_dir.c w here))) (same_dir.own w here).own ++ []) at)

  its_moves : Moves w.q.nodes w.q.listings (renaming_of (same_dir.c w here))
  its_moves = rename_law.within_any q.nodes (layout q) q.listings (same_dir.c w here) (record { sound = q.seen.sound; held = q.seen.held }) (same_dir.renames w here)

  pub made_within : MadeMove w
  made_within = record {
    c = renaming_of (same_dir.c w here);
    part = record {
      said = (told (base w) true b).said;
      others_said = (told (base w) true b).about ++ ((told (base w) true b).own ++ (told (base w) true b).home);
      says = (told (base w) true b).says;
      ready = ready_of.ready (base w) true b;
      said_node = (told (base w) true b).tells.number ∙ sym (grown_numb q);
      says_own = same_dir.says w here;
      grown = (told (base w) true b).grown;
      turned = (told (base w) true b).turned;
      none_made = none_made w (told (base w) true b).turned;
      entry = moved_entry (k q).object.path q.name (it q) ∙ sym (plain_entry w);
      keeps = λ d there. record { sectors = refl; len = refl; attrs = refl };
      lefts = λ y.
          ap (λ (ws : List Owner). (owners_with y q.r.holder q.r.target.node (it q) ++ []) ++ ws) (none_flat (λ (a : Amended). owners_in y a.number a.leave) (amended_own (renaming_of (same_dir.c w here))) (same_dir.own w here).own (λ d. refl))
          ∙ append-nil (owners_with y q.r.holder q.r.target.node (it q) ++ []) ∙ append-nil (owners_with y q.r.holder q.r.target.node (it q)) ∙ ap (λ (n : ℕ). owners_with y n q.r.target.node (it q)) here;
      joins = λ y.
          (let o = moved (renaming_of (same_dir.c w here)) (it q) in
          ap (λ (ws : List Owner). (owners_with y q.r.holder q.r.target.node o ++ []) ++ ws) (none_flat (λ (a : Amended). owners_in y a.number a.join) (amended_own (renaming_of (same_dir.c w here))) (same_dir.own w here).own (λ d. refl))
          ∙ append-nil (owners_with y q.r.holder q.r.target.node o ++ []) ∙ append-nil (owners_with y q.r.holder q.r.target.node o));
      tops = gm.tops;
      kids = gm.kids;
      left = gm.left;
      cut = gm.cut;
      again = gm.again;
      same = gm.same;
      holder = gm.holder;
      others = gm.others;
      order = gm.order;
      above = gm.above;
      grows = gm.grows;
      all = subst (λ (ps : List Piece). AllSaidNow q (become q (edit (renaming_of (same_dir.c w here)))) (up_in q (it q)) gm.order ((told (base w) true b).said ∷ ((told (base w) true b).about ++ ((told (base w) true b).own ++ (told (base w) true b).home))) ((ready_of.ready (base w) true b).own ∷ ps))
          (sym (pieces_are (base w) true b)) gm.all;
      among = gm.among;
      back = gm.back;
      order_is = gm.order_is;
      retold = gm.retold;
      enters = gm.enters;
      leave = gm.leave;
      join = gm.join;
      told_by = gm.told_by;
      kept_by = gm.kept_by;
      found = (grown_moving_law.is_edit q.nodes (layout q) q.listings (renaming_of (same_dir.c w here)) (growing_of (l q).object (want.grown q).0 gm.again gm.same gm.holder gm.others) (record { sound = q.seen.sound; held = q.seen.held }) its_moves gm.grows).found;
      nodes_edited = grown_moving_law.nodes q.nodes (layout q) q.listings (renaming_of (same_dir.c w here)) (growing_of (l q).object (want.grown q).0 gm.again gm.same gm.holder gm.others) (record { sound = q.seen.sound; held = q.seen.held }) its_moves gm.grows;
      named = λ a at. ⊎_elim
          (λ more. inl (subst (λ (d : Listing). (holds_named (Command.Rename q.from q.to) d.object.path || is_renamed_by (Command.Rename q.from q.to) d.object.path) ≡ true) more.2 (within_named more.0 more.1)))
          (λ around'. inr around') (gm.whose a at);
    };
    moves = its_moves;
    o_is = refl;
    name_is = refl;
    l_is = ap (λ (d : Listing). d.object) (sym (q.seen.known.within here).0);
    entries = within_entries;
  }
