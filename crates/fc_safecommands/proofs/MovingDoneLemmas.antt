-- `rename` in the safe mode that copies nothing, where no directory grows: what it takes, and what then stands in the image.
use Rattle.std.proofs.Common.{◌≡◌, inl, inr, ℕ, true, false, cond, List, [], ◌∷◌, ◌++◌, append-nil, drop, length, map, take, refl, sym, ap, ap₂, subst, ◌∙◌, arith, is_some, Option}
use Rattle.std.specs.Prelude.{Contains, nat_lt}
use Rattle.fc_alloc.specs.declared.owner.Owner.{Owner}
use Rattle.fc_record.specs.declared.DiscRecord.{DiscRecord}
use Rattle.fc_newmap.specs.Map.{Map, is_used}
use Rattle.fc_drafts.specs.Draft.{directory_in, size_of}
use Rattle.fc_model.specs.Answer.{changed as changed_by}
use Rattle.fc_model.specs.Command.{Command}
use Rattle.fc_image.specs.Layout.{Layout, dir_form}
use Rattle.fc_image.specs.Moves.{object_in}
use Rattle.fc_image.specs.Objects.{objects_of, tree_of}
use Rattle.fc_image.specs.Opening.{Opened}
use Rattle.fc_image.specs.Stays.{IsNewKind, OpensAs}
use Rattle.fc_image.specs.Walk.{Object, object_bytes, object_size}
use Rattle.fc_image.specs.effects.Sharing.{new_ids, units}
use Rattle.fc_image.specs.effects.Short.{is_copied as is_copied_by, one_if}
use Rattle.fc_image.specs.effects.Steady.{AreWritten}
use Rattle.fc_image.specs.safe.SafeEffect.{HasTree}
use Rattle.fc_image.specs.safe.SafeShort.{changed_ids, is_given_up, is_suitable}
use Rattle.fc_image.specs.safe.SafeSteady.{HaveRuns}
use Rattle.fc_image.proofs.EntriesLemmas.{cases as contains_cases}
use Rattle.fc_plan.specs.declared.plan.Plan.{Plan}
use Rattle.fc_plan.specs.Applied.{IsTakenIn}
use Rattle.fc_plan.proofs.Plans.{min_some}
use Rattle.fc_tree.proofs.MemberLemmas.{from_map, in_map, no_element}
use Rattle.fc_tree.proofs.WalkedLemmas.{same_some}
use Rattle.fc_laws.specs.agree.Agreed.{parts_with}
use Rattle.fc_edits.specs.Edit.{Amended}
use Rattle.fc_edits.specs.Moving.{edit}
use Rattle.fc_edits.specs.NewNodes as edited
use Rattle.fc_edits.specs.NewPlaces.{Taking}
use Rattle.fc_edits.proofs.lemmas.ListLemmas.{map_map}
use Rattle.fc_edits.proofs.lemmas.TellLemmas.{AreOnce}
use Rattle.fc_writing.specs.declared.ready.Ready.{Ready}
use Rattle.fc_writing.specs.New.{IsChanged as IsMapChanged, IsTaken}
use Rattle.fc_change.specs.declared.change.Change.{Change}
use Rattle.fc_change.specs.declared.job.Growth.{Growth}
use Rattle.fc_change.specs.declared.job.Job.TheVariants as jobs
use Rattle.fc_change.specs.declared.spaces.Spaces.{Spaces}
use Rattle.fc_change.specs.Drafts.{IsChangeOf}
use Rattle.fc_commands.proofs.MovePieceLemmas.{said_listed}
use Rattle.fc_commands.proofs.MoveReadyLemmas.{to_move}
use Rattle.fc_commands.proofs.MoveShortLemmas.{no_growth, plain as plain_is}
use Rattle.fc_safe.specs.FirstNeeds.{first_gone, moving_out}
use Rattle.fc_safe.specs.FirstSpace.{ArePlacedFirst}
use Rattle.fc_safe.specs.Needs.{parts_of}
use Rattle.fc_safe.proofs.GivenLemmas.{given_high}
use Rattle.fc_safe.proofs.SuitsLemmas.{suits_are}
use Rattle.fc_safecommands.specs.Jobs.{IsJobIn, out_count, own_count}
use Rattle.fc_safecommands.proofs.lemmas.JobLemmas.{job_law}
use Rattle.fc_safelaws.specs.Relaid.{AreCopied}
use Rattle.fc_safecrash.specs.Crash.{IsThere}
use Rattle.fc_safeedits.specs.Relocation.{is_moved}
use Rattle.fc_safeedits.specs.SafeChange.{TakesForChanged, moves_in}
use Rattle.fc_safeedits.specs.SafeOutcome.{SafeOutcome}
use Rattle.fc_safeedits.specs.SafeSpace.{SafeSpaceLaw, taking_of}
use Rattle.fc_safeedits.specs.SafeWriting.{SafeWritingLaw}
use Rattle.fc_safeedits.specs.SafeMoving.{SafeMoving, SafeMovingLaw}
use Rattle.fc_safecommands.specs.Anew.{IsReadyAnew}
use Rattle.fc_safecommands.specs.Laws.{mapped}
use Rattle.fc_safecommands.proofs.BackLemmas.{back_same}
use Rattle.fc_safecommands.proofs.CopyMoveOutcomeLemmas.{said_of}
use Rattle.fc_safecommands.proofs.MovingLemmas.{StillMove, it, job, no_slack, room, view, wanted}
use Rattle.fc_safecommands.proofs.MovingEditLemmas.{Goes, beside, is_told, map_edited, moved, mv, nodes_now, put, renamed_parts, stays_in, tells}
use Rattle.fc_safecommands.proofs.StirredChangeLemmas.{have_runs, taken_from}
use Rattle.fc_safecommands.proofs.StirredImageLemmas as im
use Rattle.fc_safecommands.proofs.StirredLemmas.{StirredJob, ids, own_bytes}
use Rattle.fc_safecommands.proofs.StirredSpaceLemmas.{HasPlanIds, can, of_ids, plan_ids, used}
use Rattle.fc_safecommands.proofs.StirredStepLemmas as step_of
use Rattle.fc_safecommands.proofs.StirredWrittenLemmas.{piece_of_told}

-- the one of a number
only_one : (bs : List Amended) → AreOnce bs → (a b : Amended) → Contains bs a → Contains bs b → a.number ≡ b.number → a ≡ b
only_one [] once a b at bt same = absurd (no_element a at)
only_one (d ∷ bs) once a b at bt same = elim (contains_cases d a bs at) [
  | inl here ↦ elim (contains_cases d b bs bt) [
    | inl too ↦ sym here ∙ too
    | inr later ↦ absurd (once.0 b later (ap (λ (e : Amended). e.number) here ∙ same))
  ]
  | inr later ↦ elim (contains_cases d b bs bt) [
    | inl here ↦ absurd (once.0 a later (ap (λ (e : Amended). e.number) here ∙ sym same))
    | inr too ↦ only_one bs once.1 a b later too same
  ]
]

module _ (c : StillMove) (s : Spaces) (placed : ArePlacedFirst c.m (parts_with c.m c.nodes c.owners) (jobs.Move c.r) c.wants s) (ch : Change) (is_change : IsChangeOf (parts_with c.m c.nodes c.owners) (jobs.Move c.r) c.name s ch) (r : Ready)
    (ready : IsReadyAnew c.m (parts_with c.m c.nodes c.owners) c.wants ch s r) where
  abbrev x : StirredJob
  x = job c

  abbrev v : Opened
  v = record { kind = c.kind; layout = Layout.New c.m; listings = c.listings }

  abbrev command : Command
  command = Command.Rename c.from c.to

  -- ---- what it needs

  suit : is_suitable v ≡ true
  suit = sym (suits_are (parts_with c.m c.nodes c.owners) true v c.suits c.seen.sound c.parts)

  its_job : IsJobIn c.m (parts_with c.m c.nodes c.owners) v command (jobs.Move c.r) c.wants
  its_job = record {
    view = view c;
    suits = suit;
    name = c.name;
    job_is = (c.seen.known, c.seen.name_is);
    wants = c.are;
    some = λ g is. absurd (let none' = sym (wanted c).0.grows ∙ is in cc);
  }

  -- no space of its own
  none_own : own_bytes (job c) ≡ 0
  none_own =
      ap (λ (q : Option (ℕ × ℕ)). let n : ℕ = cond (is_some q) 0 c.wants.bytes in n) (no_slack c)
      ∙ (wanted c).0.bytes

  own_none : own_count c.m v command ≡ 0
  own_none =
      ap (λ (n : ℕ). one_if (nat_lt 0 n)) (sym (job_law.object c.m (parts_with c.m c.nodes c.owners) v command (jobs.Move c.r) c.wants its_job) ∙ ap (units c.m.geometry) none_own)

  none_out : out_count v command ≡ 0
  none_out =
      ap one_if (sym (job_law.out c.m (parts_with c.m c.nodes c.owners) v command (jobs.Move c.r) c.wants its_job))
      ∙ ap (λ (g : Option Growth). one_if (is_some (moving_out c.m (parts_with c.m c.nodes c.owners) g))) (wanted c).0.grows

  ids_are : map (λ (p : Plan). p.id) placed.plans ≡ changed_ids c.m v command
  ids_are =
      job_law.ids c.m (parts_with c.m c.nodes c.owners) v command (jobs.Move c.r) c.wants placed.plans its_job placed.met
      ∙ ap₂ (λ (a b : ℕ). take a (new_ids c.m) ++ (changed_ids c.m v command ++ take b (drop a (new_ids c.m)))) own_none none_out
      ∙ append-nil (changed_ids c.m v command)

  -- Each plan is for an identifier that moves, so it is used.
  plan_used : (q : Plan) → Contains placed.plans q → is_used c.m q.id ≡ true
  plan_used q at = by (plan_ids (job c) s placed)
    where
      by : HasPlanIds (own_bytes (job c)) (new_ids c.m) (ids (job c)) placed.plans → is_used c.m q.id ≡ true
      by has = elim has.is [
        | inl none ↦
            (let among : Contains (ids (job c)) q.id =
            subst (λ (ks : List ℕ). Contains ks q.id) (has.all ∙ ap (λ (ks : List ℕ). ks ++ ids (job c)) none.1) (in_map (λ (p : Plan). p.id) placed.plans q at) in
            used (job c) q.id (of_ids (job c) q.id among))
        | inr one ↦ absurd (let more = one.0 in let zero' = none_own in omega (arith, more, zero'))
      ]

  module _ (space : SafeSpaceLaw) (m' : Map) (taken : IsTaken c.m r m') where
    plans_taken : (q : Plan) → Contains placed.plans q → IsTakenIn m' q
    plans_taken = step_of.taken (job c) s placed m' (im.done (job c) s placed ch (tells c s placed ch is_change r ready) r ready m' taken) space

    module _ (owners' : List Owner) (owned : Goes c s placed ch is_change r ready space m' taken owners') where
      pub takes : TakesForChanged (moved c s placed ch is_change r ready space m' taken owners' owned) (Command.Rename c.from c.to)
      takes = record {
        parts = parts_of placed.plans;
        fitted = job_law.fitted c.m (parts_with c.m c.nodes c.owners) v command (jobs.Move c.r) c.wants placed.plans its_job placed.met;
        takes = map_map (λ (t : Taking). t.parts) taking_of placed.plans;
        ids = map_map (λ (t : Taking). t.id) taking_of placed.plans ∙ ids_are;
        used = λ j at. (let p = taken_from (job c) s placed j at in subst (λ (n : ℕ). is_used c.m n ≡ true) p.2 (plan_used p.0 p.1));
        needs_met = subst (λ (ks : List ℕ). HaveRuns m' ks (parts_of placed.plans)) ids_are
            (have_runs (job c) s placed m' (map_edited c s placed ch is_change r ready space m' taken).is_map (map_edited c s placed ch is_change r ready space m' taken).geometry plans_taken);
        back = λ z low. back_same c.m c.agreed.is_map (min_some c.m.geometry c.agreed.is_map.of_record) placed.plans (can (job c) s placed) (first_gone c.m (parts_with c.m c.nodes c.owners) (jobs.Move c.r) c.wants)
            (is_given_up c.m v command) (λ j least. job_law.given c.m (parts_with c.m c.nodes c.owners) v command (jobs.Move c.r) c.wants j its_job least) (λ j at. step_of.gone_low (job c) j at)
            (λ j at. given_high c.m (parts_with c.m c.nodes c.owners) v (view c) command suit j at) z low;
      }

      -- ---- the image

      module _ (writing : SafeWritingLaw) (disc : DiscRecord) (image : List ℕ) (new_kind : IsNewKind c.kind disc) (opens : OpensAs image c.kind (record { kind = c.kind; layout = Layout.New c.m; listings = c.listings })) (bytes image' : List ℕ)
          (there : IsThere (mapped c.m (im.by (job c) disc image new_kind opens)) r bytes m' image') where
        -- a directory has what it says
        pub has : (a : Amended) → Contains (edit (mv c s placed ch is_change r ready).c).amended a → AreWritten (object_bytes image' (Layout.New m') (object_in (Layout.New m') a.was.object)) a.content
        has a at =
            let its = mv c s placed ch is_change r ready in
            let told = is_told c s placed ch is_change r ready a at in
            let t = piece_of_told (job c) s placed ch (tells c s placed ch is_change r ready) r ready a.was.object told in
            let b = said_of c.nodes c.listings its.order ch.says.items its.is.said t.0 t.1 in
            let mine = its.is.in_order a at in
            let number = (said_listed c.nodes c.listings its.order ch.says.items its.is.said a mine).1 in
            let same : b.0 ≡ a = only_one its.order its.is.once b.0 a b.1 mine (sym b.2.node ∙ same_some t.0.node a.number (sym t.2.is.number ∙ number)) in
            let content : directory_in t.0.draft ≡ a.content = b.2.content ∙ ap (λ (d : Amended). d.content) same in
            let long : length t.3.bytes.items ≡ object_size (dir_form (Layout.New c.m)) a.was.object.entry = t.5.drafted.length_is ∙ ap size_of content ∙ its.is.sizes a at in
            subst (λ (bs : List ℕ). AreWritten bs a.content)
            (sym (im.dir_there (job c) s placed ch (tells c s placed ch is_change r ready) r ready m' taken space (nodes_now c s placed ch is_change r ready) owners' writing (im.by (job c) disc image new_kind opens) refl refl bytes image' there
            a.was.object told t.0 t.3 t.4 t.5 long))
            (subst (AreWritten t.3.bytes.items) content t.5.drafted.bytes)

        -- What else lies in an identifier that moves is copied.
        pub carried : (p : Object) → Contains (objects_of c.listings) p → is_moved (moves_in (moved c s placed ch is_change r ready space m' taken owners' owned)) p ≡ true
            → ((a : Amended) → Contains (edit (mv c s placed ch is_change r ready).c).amended a → a.was.object ≡ p → ⊥) → AreCopied c.m.geometry.sector image image' p.sectors (object_in (Layout.New m') p).sectors
        carried p at m other =
            im.copied_as (job c) s placed ch (tells c s placed ch is_change r ready) r ready m' taken space (nodes_now c s placed ch is_change r ready) owners' writing (im.by (job c) disc image new_kind opens) refl refl bytes image' there
            p at m (λ some. stays_in c s placed ch is_change r ready space m' taken owners' owned p)
            (λ d there' same.
            (let a = from_map (λ (b : Amended). b.was.object) (mv c s placed ch is_change r ready).order d there' in
            other a.0 ((mv c s placed ch is_change r ready).is.of_order a.0 a.1) (a.2 ∙ same)))

        pub not_copied : is_copied_by (record { kind = c.kind; layout = Layout.New c.m; listings = c.listings }) c.from c.to (it c) ≡ false
        not_copied =
            plain_is v c.nodes c.seen.sound c.seen.held c.from c.to c.r c.seen.known c.name c.seen.name_is (parts_with c.m c.nodes c.owners) refl
            (record { layout = refl; nodes = c.seen.held; owners = c.agreed.owned }) c.plain

        abbrev pub done : SafeMoving
        done = record {
          x = im.changed_image (job c) disc image new_kind opens s placed ch (tells c s placed ch is_change r ready) r ready [] (beside c s placed ch is_change r ready) (put c s placed ch is_change r ready) m' taken space writing
              (edited.nodes_after (edit (mv c s placed ch is_change r ready).c) c.nodes) owners' bytes image' there;
          parts = renamed_parts c s placed ch is_change r ready space m' taken owners' owned;
          from = c.from;
          to = c.to;
          record_stays = im.record_stays (job c) s placed ch (tells c s placed ch is_change r ready) r ready m' taken space (edited.nodes_after (edit (mv c s placed ch is_change r ready).c) c.nodes) owners';
          its = to_move (Layout.New c.m) c.nodes c.listings c.from c.to c.r c.name c.seen ch.says.items (mv c s placed ch is_change r ready) (record { kind = c.kind; layout = Layout.New c.m; listings = c.listings }) not_copied
              (no_growth (record { kind = c.kind; layout = Layout.New c.m; listings = c.listings }) c.nodes c.seen.sound c.seen.held c.from c.to c.r c.seen.known c.name c.seen.name_is (room c));
          entries = (mv c s placed ch is_change r ready).is.entries;
          says = (mv c s placed ch is_change r ready).is.says;
          own_says = (mv c s placed ch is_change r ready).is.own_says;
          there = has;
          copied = carried;
        }

        pub tree : SafeMovingLaw → HasTree c.kind (changed_by (tree_of image (Layout.New c.m) c.listings) (Command.Rename c.from c.to)) image'
        tree law = law.tree done

        pub outcome : SafeMovingLaw → IsMapChanged c.m m' r bytes image image' → SafeOutcome c.kind image image' (record { kind = c.kind; layout = Layout.New c.m; listings = c.listings }) (Command.Rename c.from c.to)
            (parts_with m' (edited.nodes_after (edit (mv c s placed ch is_change r ready).c) c.nodes) owners')
        outcome law is = law.outcome done takes
            (im.whole (job c) disc image new_kind opens s placed ch (tells c s placed ch is_change r ready) r ready [] (beside c s placed ch is_change r ready) (put c s placed ch is_change r ready) m' taken space writing
            (nodes_now c s placed ch is_change r ready) owners' bytes image' there is)
