-- `rename` in the safe mode that copies its file: what it takes, and what then stands in the image.
use Rattle.std.proofs.Common.{◌≡◌, ◌-◌, ◌<◌, ◌≤◌, ◌*◌, ◌==◌, inl, inr, ℕ, zero, suc, Bool, true, false, not, cond, List, [], ◌∷◌, ◌++◌, append-nil, drop, flat_map, get_or, length, map, take, refl, sym, ap, ap₂, subst, ◌∙◌, arith, is_some, Option, Some}
use Rattle.std.specs.Prelude.{Contains, nat_lt}
use Rattle.std.specs.List.{range_with_len}
use Rattle.std.proofs.lemmas.Bool.{lt-ltb, ne_eqb}
use Rattle.std.proofs.lemmas.List.Elements.{Contains-append_left}
use Rattle.fc_names.specs.Names.{is_same_path, is_directory}
use Rattle.fc_alloc.specs.declared.owner.Owner.{Owner}
use Rattle.fc_record.specs.declared.DiscRecord.{DiscRecord}
use Rattle.fc_newmap.specs.Map.{Map, bits_in, id_runs, is_used}
use Rattle.fc_dirs.specs.declared.Entry.{Entry}
use Rattle.fc_drafts.specs.Draft.{directory_in, size_of}
use Rattle.fc_model.specs.Answer.{changed as changed_by}
use Rattle.fc_model.specs.Command.{Command}
use Rattle.fc_image.specs.Layout.{Layout, dir_form, id_of, low_of}
use Rattle.fc_image.specs.Moves.{object_in}
use Rattle.fc_image.specs.Objects.{tree_of}
use Rattle.fc_image.specs.Opening.{Opened}
use Rattle.fc_image.specs.Report.{holder_address}
use Rattle.fc_image.specs.Stays.{IsNewKind, OpensAs}
use Rattle.fc_image.specs.Walk.{Listing, Object, is_directory_object, object_bytes, object_size}
use Rattle.fc_image.specs.effects.Placed.{file_low, first_low}
use Rattle.fc_image.specs.effects.Sharing.{new_ids}
use Rattle.fc_image.specs.effects.Short.{is_copied as is_copied_by, object_units, one_if}
use Rattle.fc_image.specs.effects.Steady.{AreWritten, IsRewritten}
use Rattle.fc_image.specs.safe.SafeEffect.{HasTree}
use Rattle.fc_image.specs.safe.SafeShort.{changed_ids, is_given_up, is_suitable}
use Rattle.fc_image.specs.safe.SafeSteady.{HaveRuns, own_id}
use Rattle.fc_plan.specs.declared.plan.Plan.{Plan}
use Rattle.fc_plan.specs.Applied.{IsTakenIn}
use Rattle.fc_plan.proofs.Plans.{min_some}
use Rattle.fc_placing.proofs.LeavingLemmas.{from_kept}
use Rattle.fc_tree.specs.Nodes.{number_of}
use Rattle.fc_tree.proofs.MemberLemmas.{contains_here, no_element}
use Rattle.fc_tree.proofs.WalkedLemmas.{same_some}
use Rattle.fc_laws.specs.nodes.Edits.{Nodes}
use Rattle.fc_laws.specs.agree.Agreed.{parts_with}
use Rattle.fc_edits.specs.Copying.{Copying, copied, edit, from_it, to_it}
use Rattle.fc_edits.specs.Edit.{Amended}
use Rattle.fc_edits.specs.NewPlaces.{Taking}
use Rattle.fc_edits.specs.Places.{Stays}
use Rattle.fc_edits.proofs.lemmas.ListLemmas.{map_map}
use Rattle.fc_writing.specs.Ready.{carried_by, content_of, from_of, source_content, to_of}
use Rattle.fc_writing.specs.declared.ready.Ready.{Ready}
use Rattle.fc_writing.specs.declared.ready.Source.{Source}
use Rattle.fc_writing.specs.New.{IsChanged as IsMapChanged, IsTaken}
use Rattle.fc_writing.proofs.ContentLemmas.{numbered_here}
use Rattle.fc_change.specs.declared.change.Change.{Change}
use Rattle.fc_change.specs.declared.change.Says.{Says}
use Rattle.fc_change.specs.declared.job.Growth.{Growth}
use Rattle.fc_change.specs.declared.spaces.Spaces.{Spaces}
use Rattle.fc_change.specs.Drafts.{IsChangeOf}
use Rattle.fc_change.specs.GrownSpace.{place_of_plan}
use Rattle.fc_commands.proofs.MoveLemmas.{k}
use Rattle.fc_commands.proofs.MoveSaidLemmas.{AreSaid, IsSaid}
use Rattle.fc_commands.proofs.MoveShortLemmas.{no_growth}
use Rattle.fc_safe.specs.FirstNeeds.{first_gone, moving_out}
use Rattle.fc_safe.specs.FirstSpace.{ArePlacedFirst}
use Rattle.fc_safe.specs.Needs.{parts_of}
use Rattle.fc_safe.specs.Views.{IsViewOf}
use Rattle.fc_safe.proofs.GivenLemmas.{given_high}
use Rattle.fc_safe.proofs.SuitsLemmas.{suits_are}
use Rattle.fc_safecommands.specs.Jobs.{IsJobIn, out_count, own_count}
use Rattle.fc_safecommands.proofs.lemmas.JobLemmas.{job_law}
use Rattle.fc_safelaws.specs.Relaid.{AreCopied}
use Rattle.fc_safecrash.specs.Crash.{IsThere}
use Rattle.fc_safeedits.specs.Relocation.{is_moved}
use Rattle.fc_safeedits.specs.SafeChange.{MovedParts, moves_in}
use Rattle.fc_safeedits.specs.SafeOutcome.{SafeOutcome}
use Rattle.fc_safeedits.specs.SafeSpace.{SafeSpaceLaw, taking_of}
use Rattle.fc_safeedits.specs.SafeWriting.{SafeWritingLaw}
use Rattle.fc_safeedits.specs.SafeAddition.{TakesForObject}
use Rattle.fc_safeedits.specs.SafeCopying.{IsItsCopy, SafeCopying, SafeCopyingLaw}
use Rattle.fc_safecommands.specs.Anew.{IsReadyAnew}
use Rattle.fc_safecommands.specs.Laws.{mapped}
use Rattle.fc_safecommands.proofs.BackLemmas.{back_same}
use Rattle.fc_safecommands.proofs.CopyMoveChangeLemmas.{cp, e, from_is, put, tells, transfer}
use Rattle.fc_safecommands.proofs.CopyMoveLemmas.{CopyMove, bytes_is, file, job, wanted}
use Rattle.fc_safecommands.proofs.CopyMovePlaceLemmas.{beside, low_then, range_bounds, spot}
use Rattle.fc_safecommands.proofs.StirredChangeLemmas.{have_runs, taken_from}
use Rattle.fc_safecommands.proofs.StirredLemmas.{StirredJob, moves_high}
use Rattle.fc_safecommands.proofs.StirredSpaceLemmas.{can, plan_cases}
use Rattle.fc_safecommands.proofs.StirredWrittenLemmas.{piece_of_told}
use Rattle.fc_device.specs.Sectors.{sector_at}
use Rattle.fc_record.specs.Record.{id_limit}
use Rattle.fc_writing.specs.declared.ready.Transfer.{Transfer}
use Rattle.fc_safecommands.proofs.CopyMoveImageLemmas.{Goes, copied_parts, entry_now, id_now, map_edited, moved, nodes_now, stays_in}
use Rattle.fc_edits.specs.NewNodes as edited
use Rattle.fc_change.specs.declared.job.Job.TheVariants as jobs
use Rattle.fc_safecommands.proofs.StirredImageLemmas as im
use Rattle.fc_safecommands.proofs.StirredStepLemmas as step_of
use Rattle.fc_writing.specs.declared.ready.Source.TheVariants as sources

-- ---- which says is a directory's

pub said_of : (nodes : Nodes) (listings : List Listing) (bs : List Amended) (ss : List Says) → AreSaid nodes listings bs ss → (q : Says) → Contains ss q → (a : Amended) × Contains bs a × IsSaid nodes listings a q
said_of nodes listings [] [] said q at = absurd (no_element q at)
said_of nodes listings [] (t ∷ ss) said q at = absurd said
said_of nodes listings (a ∷ bs) [] said q at = absurd said
said_of nodes listings (a ∷ bs) (t ∷ ss) said q (zero, low, same) = (a, contains_here a bs, subst (IsSaid nodes listings a) same said.0)
said_of nodes listings (a ∷ bs) (t ∷ ss) said q (suc i, low, same) = let r = said_of nodes listings bs ss said.1 q (i, omega (arith, low), same) in (r.0, (suc r.1.0, (let less = r.1.1 in omega (arith, less)), r.1.2), r.2)

module _ (c : CopyMove) (s : Spaces) (placed : ArePlacedFirst c.m (parts_with c.m c.nodes c.owners) (jobs.Move c.r) c.wants s) (ch : Change) (is_change : IsChangeOf (parts_with c.m c.nodes c.owners) (jobs.Move c.r) c.name s ch) (r : Ready)
    (ready : IsReadyAnew c.m (parts_with c.m c.nodes c.owners) c.wants ch s r) where
  abbrev x : StirredJob
  x = job c

  abbrev v : Opened
  v = record { kind = c.kind; layout = Layout.New c.m; listings = c.listings }

  abbrev command : Command
  command = Command.Rename c.from c.to

  abbrev c' : Copying
  c' = e c s placed ch is_change r ready

  abbrev copy : Object
  copy = copied (e c s placed ch is_change r ready) (e c s placed ch is_change r ready).o

  -- ---- what it needs

  view : IsViewOf c.m (parts_with c.m c.nodes c.owners) v
  view = record { is_map = c.agreed.is_map; layout = refl; sound = c.seen.sound; parts = c.parts }

  suit : is_suitable v ≡ true
  suit = sym (suits_are (parts_with c.m c.nodes c.owners) true v c.suits c.seen.sound c.parts)

  its_job : IsJobIn c.m (parts_with c.m c.nodes c.owners) v command (jobs.Move c.r) c.wants
  its_job = record {
    view = view;
    suits = suit;
    name = c.name;
    job_is = (c.seen.known, c.seen.name_is);
    wants = c.are;
    some = λ g is. absurd (let none' = sym (wanted c).grows ∙ is in cc);
  }

  id : ℕ
  id = (spot c s placed).plan.id

  some_units : (n : ℕ) → nat_lt 0 (suc n) ≡ true
  some_units n = lt-ltb 0 (suc n) (omega arith)

  not_none : (n : ℕ) → (suc n == 0) ≡ false
  not_none n = ne_eqb (suc n) 0 (λ same. omega (arith, same))

  first_new : take 1 (new_ids c.m) ≡ id_of copy.entry.address ∷ []
  first_new = ap (λ (ks : List ℕ). take 1 ks) (spot c s placed).least.1 ∙ ap (λ (j : ℕ). let ks : List ℕ = j ∷ [] in ks) (sym (id_now c s placed ch is_change r ready))

  own_as : (n : ℕ) → take (one_if (nat_lt 0 n)) (new_ids c.m) ≡ cond (n == 0) [] (id_of copy.entry.address ∷ [])
  own_as zero = refl
  own_as (suc n) = ap (λ (b : Bool). take (one_if b) (new_ids c.m)) (some_units n) ∙ first_new ∙ sym (ap (λ (b : Bool). let ks : List ℕ = cond b [] (id_of copy.entry.address ∷ []) in ks) (not_none n))

  least_as : (n : ℕ) → cond (n == 0) [] (id_of copy.entry.address ∷ []) ≡ take (length (cond (n == 0) [] (id_of copy.entry.address ∷ []))) (new_ids c.m)
  least_as zero = refl
  least_as (suc n) =
      ap (λ (b : Bool). let ks : List ℕ = cond b [] (id_of copy.entry.address ∷ []) in ks) (not_none n) ∙ sym first_new
      ∙ sym (ap (λ (b : Bool). let ks : List ℕ = cond b [] (id_of copy.entry.address ∷ []) in take (length ks) (new_ids c.m)) (not_none n))

  none_out : out_count v command ≡ 0
  none_out =
      ap one_if (sym (job_law.out c.m (parts_with c.m c.nodes c.owners) v command (jobs.Move c.r) c.wants its_job))
      ∙ ap (λ (g : Option Growth). one_if (is_some (moving_out c.m (parts_with c.m c.nodes c.owners) g))) (wanted c).grows

  ids_are : map (λ (p : Plan). p.id) placed.plans ≡ own_id c.m v command (Some copy) ++ changed_ids c.m v command
  ids_are =
      job_law.ids c.m (parts_with c.m c.nodes c.owners) v command (jobs.Move c.r) c.wants placed.plans its_job placed.met
      ∙ ap (λ (n : ℕ). take (own_count c.m v command) (new_ids c.m) ++ (changed_ids c.m v command ++ take n (drop (own_count c.m v command) (new_ids c.m)))) none_out
      ∙ ap₂ (λ (a b : List ℕ). a ++ b) (own_as (object_units c.m v command)) (append-nil (changed_ids c.m v command))

  module _ (space : SafeSpaceLaw) (m' : Map) (taken : IsTaken c.m r m') where
    plans_taken : (q : Plan) → Contains placed.plans q → IsTakenIn m' q
    plans_taken = step_of.taken x s placed m' (im.done x s placed ch (tells c s placed ch is_change r ready) r ready m' taken) space

    low_first : 0 < object_units c.m v command → low_of copy.entry.address ≡ first_low m' copy (id_runs m' (id_of copy.entry.address))
    low_first some =
        let now = entry_now c s placed ch is_change r ready in
        let at : copy.entry.address ≡ (spot c s placed).place.address = ap (λ (d : Entry). d.address) now in
        let len : c.wants.bytes ≡ copy.entry.len = bytes_is c ∙ sym (ap (λ (d : Entry). d.len) now) in
        let no : is_directory_object copy ≡ false = ap (λ (d : Entry). is_directory d.attrs) now ∙ (file c).file in
        ap low_of at ∙ low_then c s placed m' (map_edited c s placed ch is_change r ready space m' taken).geometry plans_taken
        ∙ ap₂ (λ (a n : ℕ). file_low m'.geometry (bits_in (id_runs m' (id_of a)) * m'.geometry.bit_bytes) n) (sym at) len
        ∙ sym (ap (λ (b : Bool). let n : ℕ = cond b 0 (file_low m'.geometry (bits_in (id_runs m' (id_of copy.entry.address)) * m'.geometry.bit_bytes) copy.entry.len) in n) no)

    module _ (owners' : List Owner) (owned : Goes c s placed ch is_change r ready space m' taken owners') where
      abbrev mv : MovedParts
      mv = moved c s placed ch is_change r ready space m' taken owners' owned

      pub takes : TakesForObject (moved c s placed ch is_change r ready space m' taken owners' owned) (Command.Rename c.from c.to) (copied (e c s placed ch is_change r ready) (e c s placed ch is_change r ready).o)
      takes = record {
        parts = parts_of placed.plans;
        fitted = job_law.fitted c.m (parts_with c.m c.nodes c.owners) v command (jobs.Move c.r) c.wants placed.plans its_job placed.met;
        takes = map_map (λ (t : Taking). t.parts) taking_of placed.plans;
        ids = map_map (λ (t : Taking). t.id) taking_of placed.plans ∙ ids_are;
        fresh = λ j at unused'.
            (let p = taken_from x s placed j at in
            elim (plan_cases x s placed p.0 p.1) [
              | inl new ↦ subst (λ (n : ℕ). 3 ≤ n) p.2 (range_bounds 3 (id_limit c.m.geometry - 3) p.0.id (from_kept (λ (i : ℕ). not (is_used c.m i)) (range_with_len 3 (id_limit c.m.geometry - 3)) p.0.id new.0).0).0
              | inr old ↦ subst (λ (n : ℕ). 3 ≤ n) p.2 (moves_high x p.0.id old.0).0
            ]);
        needs_met = subst (λ (ks : List ℕ). HaveRuns m' ks (parts_of placed.plans)) ids_are
            (have_runs x s placed m' (map_edited c s placed ch is_change r ready space m' taken).is_map (map_edited c s placed ch is_change r ready space m' taken).geometry plans_taken);
        least = least_as (object_units c.m v command);
        object = λ some. low_first some;
        empty = λ is. absurd (cc);
        back = λ z low. back_same c.m c.agreed.is_map (min_some c.m.geometry c.agreed.is_map.of_record) placed.plans (can x s placed) (first_gone c.m (parts_with c.m c.nodes c.owners) (jobs.Move c.r) c.wants)
            (is_given_up c.m v command) (λ j least. job_law.given c.m (parts_with c.m c.nodes c.owners) v command (jobs.Move c.r) c.wants j its_job least) (λ j at. step_of.gone_low x j at)
            (λ j at. given_high c.m (parts_with c.m c.nodes c.owners) v view command suit j at) z low;
      }

      -- ---- the image

      module _ (writing : SafeWritingLaw) (disc : DiscRecord) (image : List ℕ) (new_kind : IsNewKind c.kind disc) (opens : OpensAs image c.kind (record { kind = c.kind; layout = Layout.New c.m; listings = c.listings })) (bytes image' : List ℕ)
          (there : IsThere (mapped c.m (im.by (job c) disc image new_kind opens)) r bytes m' image') where
        -- what is copied from its old place
        stored : AreCopied c.m.geometry.sector image image' c'.o.sectors c'.sectors
        stored i low =
            let t = transfer c s placed ch is_change r ready in
            let p = cp c s placed ch is_change r ready in
            let old : from_of t.0 ≡ c'.o.sectors = t.2 ∙ from_is c s placed ch is_change r ready ∙ sym (ap (λ (y : Object). y.sectors) p.is.o_is) in
            let new : to_of t.0 ≡ c'.sectors = t.3 ∙ sym p.sectors_are in
            subst (λ (us : List ℕ). AreCopied c.m.geometry.sector image image' us c'.sectors) old (subst (λ (us : List ℕ). AreCopied c.m.geometry.sector image image' (from_of t.0) us) new (by t.0 t.1)) i low
          where
            by : (t : Transfer) → r.source ≡ sources.Sectors t → AreCopied c.m.geometry.sector image image' (from_of t) (to_of t)
            by t is j less =
                there.written (get_or (to_of t) j 0, sector_at c.m.geometry.sector image (get_or (from_of t) j 0))
                (Contains-append_left (source_content c.m.geometry.sector image bytes r.source) (flat_map (carried_by c.m.geometry.sector image) r.carried.items ++ flat_map (content_of c.m.geometry.sector) r.early.items)
                (get_or (to_of t) j 0, sector_at c.m.geometry.sector image (get_or (from_of t) j 0))
                (subst (λ (y : Source). Contains (source_content c.m.geometry.sector image bytes y) (get_or (to_of t) j 0, sector_at c.m.geometry.sector image (get_or (from_of t) j 0))) (sym is)
                (numbered_here (λ (i : ℕ). sector_at c.m.geometry.sector image (get_or (from_of t) i 0)) (to_of t) j less)))

        -- a directory has what it says
        dir_has : (a : Amended) → Contains (tells c s placed ch is_change r ready).ds a.was.object → number_of c.nodes a.was.object.path ≡ Some a.number → size_of a.content ≡ object_size (dir_form (Layout.New c.m)) a.was.object.entry
            → ((b : Amended) → Contains (to_it c' ∷ (from_it c' ∷ [])) b → b.number ≡ a.number → b ≡ a) → AreWritten (object_bytes image' (Layout.New m') (object_in (Layout.New m') a.was.object)) a.content
        dir_has a at number size one =
            let t = piece_of_told x s placed ch (tells c s placed ch is_change r ready) r ready a.was.object at in
            let b = said_of c.nodes c.listings (to_it c' ∷ (from_it c' ∷ [])) ch.says.items (cp c s placed ch is_change r ready).is.said t.0 t.1 in
            let same : b.0 ≡ a = one b.0 b.1 (sym b.2.node ∙ same_some t.0.node a.number (sym t.2.is.number ∙ number)) in
            let content : directory_in t.0.draft ≡ a.content = b.2.content ∙ ap (λ (d : Amended). d.content) same in
            let long : length t.3.bytes.items ≡ object_size (dir_form (Layout.New c.m)) a.was.object.entry = t.5.drafted.length_is ∙ ap size_of content ∙ size in
            subst (λ (bs : List ℕ). AreWritten bs a.content)
            (sym (im.dir_there x s placed ch (tells c s placed ch is_change r ready) r ready m' taken space (nodes_now c s placed ch is_change r ready) owners' writing (im.by x disc image new_kind opens) refl refl bytes image' there
            a.was.object at t.0 t.3 t.4 t.5 long))
            (subst (AreWritten t.3.bytes.items) content t.5.drafted.bytes)

        apart : c'.dir ≡ c'.home → ⊥
        apart = (cp c s placed ch is_change r ready).is.apart

        l_has : AreWritten (object_bytes image' (Layout.New m') (object_in (Layout.New m') c'.l.object)) c'.l_content
        l_has = dir_has (to_it c') (zero, omega arith, refl) (cp c s placed ch is_change r ready).is.copying.dir_is (cp c s placed ch is_change r ready).is.l_size one
          where
            one : (b : Amended) → Contains (to_it c' ∷ (from_it c' ∷ [])) b → b.number ≡ c'.dir → b ≡ to_it c'
            one b (zero, low, same) number = sym same
            one b (suc zero, low, same) number = absurd (apart (sym number ∙ ap (λ (a : Amended). a.number) (sym same)))
            one b (suc (suc i), low, same) number = absurd (omega (arith, low))

        k_has : AreWritten (object_bytes image' (Layout.New m') (object_in (Layout.New m') c'.k.object)) c'.k_content
        k_has = dir_has (from_it c') (suc zero, omega arith, refl) (cp c s placed ch is_change r ready).is.copying.home_is (cp c s placed ch is_change r ready).is.k_size one
          where
            one : (b : Amended) → Contains (to_it c' ∷ (from_it c' ∷ [])) b → b.number ≡ c'.home → b ≡ from_it c'
            one b (zero, low, same) number = absurd (apart (ap (λ (a : Amended). a.number) same ∙ number))
            one b (suc zero, low, same) number = sym same
            one b (suc (suc i), low, same) number = absurd (omega (arith, low))

        -- of each of the two
        each : (P : Amended → Type 0) → P (from_it c') → P (to_it c') → (a : Amended) → Contains (edit c').amended a → P a
        each P k l a (zero, low, same) = subst P same k
        each P k l a (suc zero, low, same) = subst P same l
        each P k l a (suc (suc i), low, same) = absurd (omega (arith, low))

        told_object : (d : Object) → Contains (tells c s placed ch is_change r ready).ds d → (a : Amended) × Contains (edit c').amended a × (a.was.object ≡ d)
        told_object d (zero, low, same) = (to_it c', (suc zero, omega arith, refl), same)
        told_object d (suc zero, low, same) = (from_it c', (zero, omega arith, refl), same)
        told_object d (suc (suc i), low, same) = absurd (omega (arith, low))

        pub its : IsItsCopy (record { kind = c.kind; layout = Layout.New c.m; listings = c.listings }) c.from c.to (e c s placed ch is_change r ready)
        its =
            let is = (cp c s placed ch is_change r ready).is in
            record {
              from_is = ap (λ (y : Object). is_same_path c.from y.path) is.o_is ∙ c.seen.known.target.path_is;
              to_is = is.to_is;
              name_is = sym (is.name_is ∙ c.seen.name_is);
              shares = ap (is_copied_by v c.from c.to) is.o_is ∙ (file c).copied c.kind;
            }

        pub says : (a : Amended) → Contains (edit (e c s placed ch is_change r ready)).amended a → IsRewritten (Command.Rename c.from c.to) a.was.object.path (holder_address c.listings a.was.object.path) a.was.content a.content
        says = each (λ (a : Amended). IsRewritten (Command.Rename c.from c.to) a.was.object.path (holder_address c.listings a.was.object.path) a.was.content a.content) (cp c s placed ch is_change r ready).is.k_says (cp c s placed ch is_change r ready).is.l_says

        pub has : (a : Amended) → Contains (edit (e c s placed ch is_change r ready)).amended a → AreWritten (object_bytes image' (Layout.New m') (object_in (Layout.New m') a.was.object)) a.content
        has = each (λ (a : Amended). AreWritten (object_bytes image' (Layout.New m') (object_in (Layout.New m') a.was.object)) a.content) k_has l_has

        pub copied_there : AreCopied c.m.geometry.sector image image' (e c s placed ch is_change r ready).o.sectors (e c s placed ch is_change r ready).sectors
        copied_there = stored

        pub carried : (p : Object) → Stays c.nodes c.listings (edit (e c s placed ch is_change r ready)) p → is_moved (moves_in (moved c s placed ch is_change r ready space m' taken owners' owned)) p ≡ true
            → ((a : Amended) → Contains (edit (e c s placed ch is_change r ready)).amended a → a.was.object ≡ p → ⊥) → AreCopied c.m.geometry.sector image image' p.sectors (object_in (Layout.New m') p).sectors
        carried p st m other =
            im.copied_as x s placed ch (tells c s placed ch is_change r ready) r ready m' taken space (nodes_now c s placed ch is_change r ready) owners' writing (im.by x disc image new_kind opens) refl refl bytes image' there
            p st.among m (λ some. stays_in c s placed ch is_change r ready space m' taken owners' owned p st)
            (λ d at same. (let a = told_object d at in other a.0 a.1 (a.2 ∙ same)))

        abbrev pub done : SafeCopying
        done = record {
          x = im.changed_image (job c) disc image new_kind opens s placed ch (tells c s placed ch is_change r ready) r ready (place_of_plan c.m.geometry (spot c s placed).plan c.wants.bytes) (beside c s placed) (put c s placed ch is_change r ready) m' taken space writing
              (edited.nodes_after (edit (e c s placed ch is_change r ready)) c.nodes) owners' bytes image' there;
          parts = copied_parts c s placed ch is_change r ready space m' taken owners' owned;
          from = c.from;
          to = c.to;
          record_stays = im.record_stays (job c) s placed ch (tells c s placed ch is_change r ready) r ready m' taken space (edited.nodes_after (edit (e c s placed ch is_change r ready)) c.nodes) owners';
          its = its;
          no_growth = no_growth (record { kind = c.kind; layout = Layout.New c.m; listings = c.listings }) c.nodes c.seen.sound c.seen.held c.from c.to c.r c.seen.known c.name c.seen.name_is (wanted c).room;
          left = (cp c s placed ch is_change r ready).is.left;
          joined = (cp c s placed ch is_change r ready).is.joined;
          says = says;
          there = has;
          stored = copied_there;
          carried = carried;
        }

        pub tree : SafeCopyingLaw → HasTree c.kind (changed_by (tree_of image (Layout.New c.m) c.listings) (Command.Rename c.from c.to)) image'
        tree law = law.tree done

        pub outcome : SafeCopyingLaw → IsMapChanged c.m m' r bytes image image' → SafeOutcome c.kind image image' (record { kind = c.kind; layout = Layout.New c.m; listings = c.listings }) (Command.Rename c.from c.to)
            (parts_with m' (edited.nodes_after (edit (e c s placed ch is_change r ready)) c.nodes) owners')
        outcome law is = law.outcome done takes
            (im.whole (job c) disc image new_kind opens s placed ch (tells c s placed ch is_change r ready) r ready (place_of_plan c.m.geometry (spot c s placed).plan c.wants.bytes) (beside c s placed) (put c s placed ch is_change r ready) m' taken space writing
            (nodes_now c s placed ch is_change r ready) owners' bytes image' there is)
