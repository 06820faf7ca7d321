-- `save` and `create` over a file in the safe mode: what they promise.
use Rattle.std.proofs.Common.{◌≡◌, ◌<◌, ◌≤◌, ◌*◌, ◌^◌, ◌==◌, ◌⊎◌, ◌++◌, inl, inr, ⊎_elim, ℕ, zero, suc, Bool, true, false, cond, List, [], ◌∷◌, append-nil, length, map, take, refl, sym, ap, ap₂, subst, ◌∙◌, arith, Option, Some, None}
use Rattle.std.specs.Prelude.{drop, is_some, nat_lt}
use Rattle.std.specs.Option.{option_and_then}
use Rattle.std.proofs.lemmas.Bool.{eqb-true, lt-ltb, ne_eqb}
use Rattle.fc_names.specs.Names.{Path}
use Rattle.fc_alloc.specs.declared.owner.Owner.{Owner}
use Rattle.fc_record.specs.declared.DiscRecord.{DiscRecord}
use Rattle.fc_record.specs.declared.Geometry.{Geometry}
use Rattle.fc_record.specs.declared.Kind.{Kind}
use Rattle.fc_newmap.specs.Map.{Map, is_used}
use Rattle.fc_model.specs.Answer.{changed}
use Rattle.fc_model.specs.Command.{Command}
use Rattle.fc_model.specs.Tree.{holder}
use Rattle.fc_image.specs.Edits.{IsAt}
use Rattle.fc_image.specs.Moves.{object_in}
use Rattle.fc_image.specs.Layout.{Layout, bytes_in, dir_form, id_of}
use Rattle.fc_image.specs.Objects.{objects_of, tree_of}
use Rattle.fc_image.specs.Opening.{Opened}
use Rattle.fc_image.specs.Stays.{IsNewKind, OpensAs}
use Rattle.fc_image.specs.Walk.{Listing, Object, object_bytes, object_size}
use Rattle.fc_image.specs.effects.Placed.{is_written_empty}
use Rattle.fc_image.specs.effects.Sharing.{new_ids, slack, units}
use Rattle.fc_image.specs.effects.Short.{growth_in, object_units, one_if, slack_for as slack_of}
use Rattle.fc_image.specs.safe.SafeEffect.{HasTree}
use Rattle.fc_image.specs.safe.SafeShort.{changed_ids, is_given_up, is_suitable, new_id_growth}
use Rattle.fc_image.specs.safe.SafeSteady.{HaveRuns, SafeObjectPlaced, own_id}
use Rattle.fc_edits.specs.Addition.{edit, owners_before}
use Rattle.fc_edits.specs.NewPlaces.{Taking, is_taken}
use Rattle.fc_edits.specs.Places.{Stays}
use Rattle.fc_edits.proofs.lemmas.ShapeLemmas.{only}
use Rattle.fc_edits.proofs.lemmas.ListLemmas.{map_map}
use Rattle.fc_laws.specs.nodes.Edits.{Nodes, OwnersEdited, owners_with}
use Rattle.fc_laws.specs.agree.Agreed.{AgreeOn, parts_with}
use Rattle.fc_laws.proofs.lemmas.takeover.WriteLemmas.{written_bytes_law}
use Rattle.fc_outcomes.specs.Addition.{Joins}
use Rattle.fc_placing.specs.Places.{slack_left}
use Rattle.fc_placing.proofs.SlackLemmas.{same_slack}
use Rattle.fc_plan.specs.declared.plan.Plan.{Plan}
use Rattle.fc_plan.proofs.Plans.{min_some}
use Rattle.fc_refusals.specs.Slots.{IsFile}
use Rattle.fc_refusals.specs.declared.target.Target.{Target}
use Rattle.fc_tree.proofs.PlaceLemmas.{same_number}
use Rattle.fc_tree.proofs.SoundLemmas.{folds_alike}
use Rattle.fc_tree.specs.Nodes.{number_of}
use Rattle.fc_tree.specs.Parts.{ArePartsOf}
use Rattle.fc_tree.specs.declared.node.Node.{Node}
use Rattle.fc_tree.proofs.MemberLemmas.{contains_here}
use Rattle.fc_writing.specs.declared.ready.Source.TheVariants as sources
use Rattle.fc_writing.specs.Content.{stored}
use Rattle.fc_writing.specs.New.{IsChanged, IsTaken}
use Rattle.fc_writing.specs.Ready.{source_content}
use Rattle.fc_change.specs.declared.job.FileWords.{FileWords}
use Rattle.fc_change.specs.declared.job.Growth.{Growth}
use Rattle.fc_change.specs.Jobs.{IsJob}
use Rattle.fc_change.specs.Shortage.{slack_for}
use Rattle.fc_commands.specs.declared.stages.Prepared.{Prepared}
use Rattle.fc_commands.specs.Given.{filled}
use Rattle.fc_commands.proofs.ArrivalLemmas.{Arrival, Brings}
use Rattle.fc_commands.proofs.ArrivalPlaceLemmas.{WantsPlace}
use Rattle.fc_commands.proofs.FilledLemmas.{filled_long, given_long, stored_filled}
use Rattle.fc_commands.proofs.OverLemmas as over
use Rattle.fc_commands.proofs.OverShortLemmas.{no_growth as none_grows}
use Rattle.fc_commands.proofs.OverStageLemmas.{job_of}
use Rattle.fc_commands.proofs.TargetLemmas as target_of
use Rattle.fc_safe.specs.FirstNeeds.{first_gone, moving_out}
use Rattle.fc_safe.specs.Needs.{parts_of}
use Rattle.fc_safe.specs.Suits.{Suits}
use Rattle.fc_safe.proofs.GivenLemmas.{given_high}
use Rattle.fc_safe.proofs.SuitsLemmas.{suits_are}
use Rattle.fc_safecommands.specs.Jobs.{IsJobIn, own_count}
use Rattle.fc_safecommands.proofs.lemmas.JobLemmas.{job_law}
use Rattle.fc_safecrash.specs.Crash.{IsThere}
use Rattle.fc_safeedits.specs.SafeAddition.{IsItsObject, SafeAddition, SafeAdditionLaw, TakesForObject}
use Rattle.fc_safelaws.specs.Relaid.{AreCopied}
use Rattle.fc_safeedits.specs.Relocation.{is_moved}
use Rattle.fc_safeedits.specs.SafeChange.{KeepsRecord, MovedParts, moves_in}
use Rattle.fc_safeedits.specs.SafeOutcome.{SafeOutcome}
use Rattle.fc_safeedits.specs.SafeSpace.{SafeSpaceLaw, taking_of, takings_of}
use Rattle.fc_safeedits.specs.SafeWriting.{SafeWritingLaw}
use Rattle.fc_safecommands.specs.Anew.{IsPreparedAnew}
use Rattle.fc_safecommands.specs.Laws.{mapped}
use Rattle.fc_safecommands.proofs.BackLemmas.{back_same}
use Rattle.fc_safecommands.proofs.SavingEditLemmas as edit_of
use Rattle.fc_safecommands.proofs.SavingLemmas as saving
use Rattle.fc_safecommands.proofs.OldPieceLemmas.{source_there}
use Rattle.fc_safecommands.proofs.ObjectSpotLemmas.{IsMapThen, IsSpot}
use Rattle.fc_safecommands.proofs.StirredChangeLemmas.{have_runs, taken_from}
use Rattle.fc_safecommands.proofs.StirredImageLemmas as image_of
use Rattle.fc_safecommands.proofs.StirredLemmas.{StirredJob, own_bytes, sound, v, view}
use Rattle.fc_safecommands.proofs.StirredSpaceLemmas.{can, new_high, plan_cases, used}
use Rattle.fc_safecommands.proofs.StirredStepLemmas as step_of

module _ (kind : Kind) (m : Map) (nodes : Nodes) (owners : List Owner) (root : Node) (listings : List Listing) (agreed : AgreeOn kind m nodes owners root listings)
    (parts : ArePartsOf (parts_with m nodes owners) (record { kind = kind; layout = Layout.New m; listings = listings })) (suits : Suits (Layout.New m) nodes) (t : Target) (words : FileWords) (few : words.len < 2 ^ 32) (path : Path) (file : IsFile nodes listings path t)
    (name : List ℕ) (p : Prepared) (prep : IsPreparedAnew m (parts_with m nodes owners) (job_of t words) name p) (number : ℕ) where
  abbrev x : StirredJob
  x = edit_of.x kind m nodes owners root listings agreed parts suits t words few path file name p prep

  abbrev o : Object
  o = edit_of.o kind m nodes owners root listings agreed parts suits t words few path file name p prep

  abbrev at_spot : IsSpot (edit_of.x kind m nodes owners root listings agreed parts suits t words few path file name p prep) prep.spaces prep.placed (edit_of.o kind m nodes owners root listings agreed parts suits t words few path file name p prep)
  at_spot = edit_of.at_spot kind m nodes owners root listings agreed parts suits t words few path file name p prep

  -- ---- what the object has

  module _ (command : Command) (bytes : List ℕ) (brings : Brings (Arrival.Saves words) path bytes command) where
    pub stored_long : length (filled words.len bytes) ≡ words.len
    stored_long = filled_long words.len bytes (given_long words path bytes command brings)

    pub joins : Joins command path (Layout.New m) listings (edit_of.c kind m nodes owners root listings agreed parts suits t words few path file name p prep number) (edit_of.piece kind m nodes owners root listings agreed parts suits t words few path file name p prep).bytes.items (filled words.len bytes)
    joins =
        over.joins (Layout.New m) nodes listings (sound x) agreed.walked.held path t file words (edit_of.address kind m nodes owners root listings agreed parts suits t words few path file name p prep) agreed.walked.forms (edit_of.own kind m nodes owners root listings agreed parts suits t words few path file name p prep)
        (edit_of.change kind m nodes owners root listings agreed parts suits t words few path file name p prep).said (edit_of.tells_it kind m nodes owners root listings agreed parts suits t words few path file name p prep) (edit_of.old_piece kind m nodes owners root listings agreed parts suits t words few path file name p prep) (edit_of.is_piece kind m nodes owners root listings agreed parts suits t words few path file name p prep) command bytes brings

    pub is_its : IsItsObject command path (Layout.New m) (edit_of.c kind m nodes owners root listings agreed parts suits t words few path file name p prep number) (filled words.len bytes)
    is_its = inl (
      words.load,
      words.exec,
      over.its_file (Layout.New m) nodes listings (sound x) agreed.walked.held path t file words (edit_of.address kind m nodes owners root listings agreed parts suits t words few path file name p prep) agreed.walked.forms (edit_of.own kind m nodes owners root listings agreed parts suits t words few path file name p prep)
          (edit_of.change kind m nodes owners root listings agreed parts suits t words few path file name p prep).said (edit_of.tells_it kind m nodes owners root listings agreed parts suits t words few path file name p prep) (edit_of.old_piece kind m nodes owners root listings agreed parts suits t words few path file name p prep) (edit_of.is_piece kind m nodes owners root listings agreed parts suits t words few path file name p prep) command bytes brings,
    )

    no_growth : growth_in (edit_of.v kind m nodes owners root listings agreed parts suits t words few path file name p prep) command ≡ None
    no_growth = none_grows (edit_of.v kind m nodes owners root listings agreed parts suits t words few path file name p prep) words path bytes command brings file.target.object (target_of.there (Layout.New m) nodes listings (sound x) agreed.walked.held path t file.target)

    -- ---- after it

    module _ (space : SafeSpaceLaw) (m' : Map) (taken : IsTaken m p.ready m') (owners' : List Owner)
        (owned : OwnersEdited owners owners' (owners_before (Layout.New m) (edit_of.c kind m nodes owners root listings agreed parts suits t words few path file name p prep number)) (owners_with (Layout.New m') t.holder t.node (edit_of.o kind m nodes owners root listings agreed parts suits t words few path file name p prep))) where
      abbrev moved : MovedParts
      moved = edit_of.moved kind m nodes owners root listings agreed parts suits t words few path file name p prep number space m' taken owners' owned

      abbrev after : IsMapThen (edit_of.x kind m nodes owners root listings agreed parts suits t words few path file name p prep) prep.spaces prep.placed m'
      after = edit_of.map_then kind m nodes owners root listings agreed parts suits t words few path file name p prep number space m' taken

      lies_now : IsAt (Layout.New m') o
      lies_now = edit_of.lies_now kind m nodes owners root listings agreed parts suits t words few path file name p prep number space m' taken

      -- ---- its image

      module _ (writing : SafeWritingLaw) (disc : DiscRecord) (image : List ℕ) (new_kind : IsNewKind kind disc) (opens : OpensAs image kind (edit_of.v kind m nodes owners root listings agreed parts suits t words few path file name p prep)) (image' : List ℕ)
          (there : IsThere (mapped m (image_of.by x disc image new_kind opens)) p.ready bytes m' image') where
        size_now : object_size (dir_form (Layout.New m')) o.entry ≡ length (filled words.len bytes)
        size_now =
            ap (λ (f : Geometry). object_size (dir_form (Layout.New (record { geometry = f; zones = [] }))) o.entry) after.geometry
            ∙ saving.size kind m nodes owners root listings agreed parts suits t words few path file name prep.wants prep.are_wants prep.spaces prep.placed
            ∙ (saving.is_wanted kind m nodes owners root listings agreed parts suits t words few path file name prep.wants prep.are_wants).0.bytes
            ∙ sym stored_long

        room_own : length (filled words.len bytes) ≤ length o.sectors * m.geometry.sector
        room_own =
            subst (λ (n : ℕ). n ≤ length o.sectors * m.geometry.sector) size_now
            (subst (λ (g : Geometry). object_size (dir_form (Layout.New m')) o.entry ≤ length o.sectors * g.sector) after.geometry (written_bytes_law.room m' o moved.is_map lies_now))

        own_there : bytes_in m.geometry.sector image' o.sectors (length (filled words.len bytes)) ≡ filled words.len bytes
        own_there =
            source_there (mapped m (image_of.by x disc image new_kind opens)) p.ready bytes m' image' (edit_of.own kind m nodes owners root listings agreed parts suits t words few path file name p prep) (filled words.len bytes) there
            (ap (source_content m.geometry.sector image bytes) (saving.from_where kind m nodes owners root listings agreed parts suits t words few path file name p prep).0 ∙ stored_filled m.geometry.sector words.len (edit_of.own kind m nodes owners root listings agreed parts suits t words few path file name p prep) bytes) room_own

        pub stored_there : object_bytes image' (Layout.New m') o ≡ filled words.len bytes
        stored_there = (λ j. bytes_in (after.geometry j).sector image' o.sectors (size_now j)) ∙ own_there

        pub dir_there : object_bytes image' (Layout.New m') (object_in (Layout.New m') file.target.listing.object) ≡ (edit_of.piece kind m nodes owners root listings agreed parts suits t words few path file name p prep).bytes.items
        dir_there =
            let r = edit_of.told kind m nodes owners root listings agreed parts suits t words few path file name p prep in
            image_of.dir_there x prep.spaces prep.placed p.change (edit_of.tells kind m nodes owners root listings agreed parts suits t words few path file name p prep) p.ready prep.ready m' taken space (edit_of.nodes_now kind m nodes owners root listings agreed parts suits t words few path file name p prep number) owners' writing (image_of.by x disc image new_kind opens) refl refl bytes image' there
            file.target.listing.object (contains_here file.target.listing.object []) r.0 r.3 r.4 r.5 joins.long

        copied_there : (q : Object) → Stays nodes listings (edit (edit_of.c kind m nodes owners root listings agreed parts suits t words few path file name p prep number)) q → is_moved (moves_in moved) q ≡ true → (file.target.listing.object ≡ q → ⊥)
            → AreCopied m.geometry.sector image image' q.sectors (object_in (Layout.New m') q).sectors
        copied_there q stay at other =
            image_of.copied_as x prep.spaces prep.placed p.change (edit_of.tells kind m nodes owners root listings agreed parts suits t words few path file name p prep) p.ready prep.ready m' taken space (edit_of.nodes_now kind m nodes owners root listings agreed parts suits t words few path file name p prep number) owners' writing (image_of.by x disc image new_kind opens) refl refl bytes image' there
            q stay.among at (λ some. edit_of.stays_in kind m nodes owners root listings agreed parts suits t words few path file name p prep number space m' taken owners' owned q stay at some) (λ d at_d same. other (only file.target.listing.object d at_d ∙ same))

        record_stays : KeepsRecord moved
        record_stays = image_of.record_stays x prep.spaces prep.placed p.change (edit_of.tells kind m nodes owners root listings agreed parts suits t words few path file name p prep) p.ready prep.ready m' taken space (edit_of.nodes_now kind m nodes owners root listings agreed parts suits t words few path file name p prep number) owners'

        done : SafeAddition
        done = record {
          x = image_of.changed_image x disc image new_kind opens prep.spaces prep.placed p.change (edit_of.tells kind m nodes owners root listings agreed parts suits t words few path file name p prep) p.ready prep.ready (edit_of.own kind m nodes owners root listings agreed parts suits t words few path file name p prep) (edit_of.lies kind m nodes owners root listings agreed parts suits t words few path file name p prep) (edit_of.put kind m nodes owners root listings agreed parts suits t words few path file name p prep) m' taken space writing
              (edit_of.nodes_now kind m nodes owners root listings agreed parts suits t words few path file name p prep number) owners' bytes image' there;
          parts = edit_of.added kind m nodes owners root listings agreed parts suits t words few path file name p prep number space m' taken owners' owned;
          command = command;
          path = path;
          bytes = (edit_of.piece kind m nodes owners root listings agreed parts suits t words few path file name p prep).bytes.items;
          stored = filled words.len bytes;
          record_stays = record_stays;
          joins = joins;
          is_its = is_its;
          no_growth = no_growth;
          there = dir_there;
          stored_there = stored_there;
          copied = copied_there;
        }

        pub tree : SafeAdditionLaw → HasTree kind (changed (tree_of image (Layout.New m) listings) command) image'
        unfolding done
        tree law = law.tree done

        -- ---- what it takes

        module _ (job_is : IsJob nodes listings command (job_of t words) name) where
          wanted : WantsPlace (parts_with m nodes owners) t.holder (Arrival.Saves words) prep.wants × (prep.wants.goes ≡ Some t.node)
          wanted = saving.is_wanted kind m nodes owners root listings agreed parts suits t words few path file name prep.wants prep.are_wants

          abbrev view_is : Opened
          view_is = edit_of.v kind m nodes owners root listings agreed parts suits t words few path file name p prep

          suitable : is_suitable view_is ≡ true
          suitable = sym (suits_are (parts_with m nodes owners) true view_is suits (sound x) parts)

          job_in : IsJobIn m (parts_with m nodes owners) view_is command (job_of t words) prep.wants
          job_in = record {
            view = view x;
            suits = suitable;
            name = name;
            job_is = job_is;
            wants = prep.are_wants;
            some = λ g e. absurd (let none = sym wanted.0.grows ∙ e in cc);
          }

          units_are : units m.geometry (own_bytes x) ≡ object_units m view_is command
          units_are = job_law.object m (parts_with m nodes owners) view_is command (job_of t words) prep.wants job_in

          own_some : (n : ℕ) → object_units m view_is command ≡ suc n → 0 < own_bytes x
          own_some n e = by (own_bytes x) units_are
            where
              by : (k : ℕ) → units m.geometry k ≡ object_units m view_is command → 0 < k
              by zero same = absurd (let none : units m.geometry 0 ≡ suc n = same ∙ e in let zero' : 0 ≡ suc n = none in omega (arith, zero'))
              by (suc k) same = omega arith

          own_is : (take (own_count m view_is command) (new_ids m) ≡ own_id m view_is command (Some o)) × (own_id m view_is command (Some o) ≡ take (length (own_id m view_is command (Some o))) (new_ids m))
          own_is = by (object_units m view_is command) refl
            where
              one : (rest : List ℕ) → new_ids m ≡ id_of o.entry.address ∷ rest → take 1 (new_ids m) ≡ id_of o.entry.address ∷ []
              one rest new = ap (take 1) new

              by : (n : ℕ) → object_units m view_is command ≡ n
                  → (take (one_if (nat_lt 0 (object_units m view_is command))) (new_ids m) ≡ cond (object_units m view_is command == 0) [] (id_of o.entry.address ∷ []))
                  × (cond (object_units m view_is command == 0) [] (id_of o.entry.address ∷ []) ≡ take (length (cond (object_units m view_is command == 0) [] (id_of o.entry.address ∷ []))) (new_ids m))
              by zero e =
                  subst (λ (k : ℕ). (take (one_if (nat_lt 0 k)) (new_ids m) ≡ cond (k == 0) [] (id_of o.entry.address ∷ [])) × (cond (k == 0) [] (id_of o.entry.address ∷ []) ≡ take (length (cond (k == 0) [] (id_of o.entry.address ∷ []))) (new_ids m)))
                  (sym e) (refl, refl)
              by (suc n) e =
                  let f = at_spot.first (own_some n e) in
                  let more : nat_lt 0 (object_units m view_is command) ≡ true = lt-ltb 0 (object_units m view_is command) (omega (arith, e)) in
                  let some : (object_units m view_is command == 0) ≡ false = ne_eqb (object_units m view_is command) 0 (λ z. omega (arith, e, z)) in (
                    ap (λ (b : Bool). take (one_if b) (new_ids m)) more ∙ one f.0 f.1 ∙ sym (ap (λ (b : Bool). let ks : List ℕ = cond b [] (id_of o.entry.address ∷ []) in ks) some),
                    subst (λ (b : Bool). cond b [] (id_of o.entry.address ∷ []) ≡ take (length (cond b [] (id_of o.entry.address ∷ []))) (new_ids m)) (sym some) (sym (one f.0 f.1)),
                  )

          -- the plans' identifiers
          ids_are : map (λ (q : Plan). q.id) prep.placed.plans ≡ own_id m view_is command (Some o) ++ changed_ids m view_is command
          ids_are =
              job_law.ids m (parts_with m nodes owners) view_is command (job_of t words) prep.wants prep.placed.plans job_in prep.placed.met
              ∙ ap₂ (λ (ns : List ℕ) (b : Bool). ns ++ (changed_ids m view_is command ++ take (one_if b) (drop (own_count m view_is command) (new_ids m)))) own_is.0 none_out
              ∙ ap (λ (ns : List ℕ). own_id m view_is command (Some o) ++ ns) (append-nil (changed_ids m view_is command))
            where
              none_out : is_some (new_id_growth view_is command) ≡ false
              none_out = sym (job_law.out m (parts_with m nodes owners) view_is command (job_of t words) prep.wants job_in) ∙ ap (λ (g : Option Growth). is_some (moving_out m (parts_with m nodes owners) g)) wanted.0.grows

          -- the slack that the object has is the command's
          slack_same : slack_for m owners prep.wants ≡ slack_of view_is command
          slack_same = by brings
            where
              near : number_of nodes (holder path) ≡ Some t.holder
              near = same_number nodes (holder path) file.target.listing.object.path (folds_alike (holder path) file.target.listing.object.path file.target.above) ∙ file.target.holder_is

              by_len : (len : ℕ) → prep.wants.bytes ≡ len → slack_for m owners prep.wants ≡ slack m (objects_of listings) (holder path) len
              by_len len long =
                  ap₂ (λ (d : Option ℕ) (n : ℕ). option_and_then (λ (k : ℕ). slack_left m owners k n) d) wanted.0.slack long
                  ∙ same_slack m nodes listings owners (holder path) t.holder len agreed.is_map (sound x) agreed.walked.held agreed.owned near

              by : Brings (Arrival.Saves words) path bytes command → slack_for m owners prep.wants ≡ slack_of view_is command
              by (inl save) = by_len (length bytes) (wanted.0.bytes ∙ save.1) ∙ sym (ap (slack_of view_is) save.0)
              by (inr create) = by_len words.len wanted.0.bytes ∙ sym (ap (slack_of view_is) create.0)

          empty_is : is_written_empty command ≡ true → o.entry.address ≡ 0
          empty_is e = at_spot.empty (by brings)
            where
              by : Brings (Arrival.Saves words) path bytes command → prep.wants.bytes ≡ 0
              by (inl save) = wanted.0.bytes ∙ save.1 ∙ eqb-true (length bytes) 0 (sym (ap is_written_empty save.0) ∙ e)
              by (inr create) = wanted.0.bytes ∙ eqb-true words.len 0 (sym (ap is_written_empty create.0) ∙ e)

          takes : TakesForObject moved command o
          takes = record {
            parts = parts_of prep.placed.plans;
            fitted = job_law.fitted m (parts_with m nodes owners) view_is command (job_of t words) prep.wants prep.placed.plans job_in prep.placed.met;
            takes = map_map (λ (t : Taking). t.parts) taking_of prep.placed.plans;
            ids = map_map (λ (t : Taking). t.id) taking_of prep.placed.plans ∙ ids_are;
            fresh = λ k e new. fresh k e new;
            needs_met = subst (λ (ks : List ℕ). HaveRuns m' ks (parts_of prep.placed.plans)) ids_are (have_runs x prep.spaces prep.placed m' moved.is_map after.geometry after.taken);
            least = own_is.1;
            object = subst (λ (n : ℕ). SafeObjectPlaced m m' n (slack_of view_is command) (Some o)) units_are
                (subst (λ (share : Option (ℕ × ℕ)). SafeObjectPlaced m m' (units m.geometry (own_bytes x)) share (Some o)) slack_same (at_spot.object m' after));
            empty = empty_is;
            back = λ z low. back_same m agreed.is_map (min_some m.geometry agreed.is_map.of_record) prep.placed.plans (can x prep.spaces prep.placed) (first_gone m (parts_with m nodes owners) (job_of t words) prep.wants)
                (is_given_up m view_is command) (λ k high. job_law.given m (parts_with m nodes owners) view_is command (job_of t words) prep.wants k job_in high) (step_of.gone_low x)
                (λ k e. given_high m (parts_with m nodes owners) view_is (view x) command suitable k e) z low;
          }
            where
              fresh : (k : ℕ) → is_taken (takings_of prep.placed.plans) k ≡ true → is_used m k ≡ false → 3 ≤ k
              fresh k e new =
                  let q = taken_from x prep.spaces prep.placed k e in
                  ⊎_elim (λ own. subst (λ (j : ℕ). 3 ≤ j) q.2 (new_high x q.0.id own.0).0)
                  (λ old. absurd (let has : is_used m k ≡ true = ap (is_used m) (sym q.2) ∙ used x q.0.id old.0 in cc)) (plan_cases x prep.spaces prep.placed q.0 q.1)

          pub outcome : SafeAdditionLaw → IsChanged m m' p.ready bytes image image' → SafeOutcome kind image image' view_is command (parts_with m' (edit_of.nodes_now kind m nodes owners root listings agreed parts suits t words few path file name p prep number) owners')
          unfolding done
          outcome law is =
              law.outcome done takes
              (image_of.whole x disc image new_kind opens prep.spaces prep.placed p.change (edit_of.tells kind m nodes owners root listings agreed parts suits t words few path file name p prep) p.ready prep.ready (edit_of.own kind m nodes owners root listings agreed parts suits t words few path file name p prep) (edit_of.lies kind m nodes owners root listings agreed parts suits t words few path file name p prep) (edit_of.put kind m nodes owners root listings agreed parts suits t words few path file name p prep) m' taken space writing
              (edit_of.nodes_now kind m nodes owners root listings agreed parts suits t words few path file name p prep number) owners' bytes image' there is)
