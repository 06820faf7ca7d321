-- A change that needs no new object, written anew: the parts after it, and what then stands in the image.
use Rattle.std.proofs.Common.{◌≡◌, ◌<◌, ◌≤◌, ◌*◌, ◌==◌, ⊎_elim, ℕ, zero, suc, Bool, true, false, List, [], length, refl, sym, ap, subst, ◌∙◌, arith, eq-eqb}
use Rattle.std.specs.Prelude.{Contains}
use Rattle.std.proofs.lemmas.Bool.{and_parts, eqb-true}
use Rattle.std.proofs.lemmas.Grind.{div_ceil_times}
use Rattle.fc_alloc.specs.declared.owner.Owner.{Owner}
use Rattle.fc_record.specs.declared.Geometry.{Geometry}
use Rattle.fc_newmap.specs.Map.{Map, is_used}
use Rattle.fc_image.specs.Layout.{Layout, bytes_in, dir_form, disc_sectors, id_of}
use Rattle.fc_image.specs.Moves.{object_in}
use Rattle.fc_image.specs.Objects.{has_sectors, objects_of}
use Rattle.fc_image.specs.Order.{held as all_held}
use Rattle.fc_image.specs.Walk.{Object, object_bytes, object_size}
use Rattle.fc_image.specs.safe.SafeShort.{is_given_up}
use Rattle.fc_image.specs.safe.SafeSteady.{HaveRuns}
use Rattle.fc_image.proofs.PathsLemmas.{itself}
use Rattle.fc_changes.proofs.ChangeLemmas.{a_sector}
use Rattle.fc_changes.proofs.NewPlaceLemmas.{some_there}
use Rattle.fc_plan.proofs.Plans.{min_some}
use Rattle.fc_tree.specs.Parts.{owner_of}
use Rattle.fc_tree.proofs.MemberLemmas.{contains_here}
use Rattle.fc_tree.proofs.SoundLemmas.{same_object}
use Rattle.fc_laws.specs.nodes.Edits.{Nodes}
use Rattle.fc_laws.proofs.lemmas.agree.BeforeLemmas.{had, new_shape}
use Rattle.fc_edits.specs.NewPlaces.{Taking, is_taken}
use Rattle.fc_edits.proofs.lemmas.ListLemmas.{map_map}
use Rattle.fc_changes.specs.Space.{IsMapEdited}
use Rattle.fc_writing.specs.declared.ready.MapStep.{MapStep}
use Rattle.fc_writing.specs.declared.ready.MapStep.TheVariants as steps
use Rattle.fc_writing.specs.declared.ready.Piece.{Piece}
use Rattle.fc_writing.specs.declared.ready.Ready.{Ready}
use Rattle.fc_writing.specs.New.{CanWrite, IsTaken}
use Rattle.fc_writing.specs.Ready.{place_of, to_of}
use Rattle.fc_writing.specs.Steps.{CanStep, HasEdited, HasStepped, is_wide}
use Rattle.fc_change.specs.declared.change.Change.{Change}
use Rattle.fc_change.specs.declared.spaces.Spaces.{Spaces}
use Rattle.fc_commands.proofs.NodeLemmas.{each_at}
use Rattle.fc_commands.proofs.OwnerLemmas.{same_path}
use Rattle.fc_safe.specs.FirstNeeds.{first_gone}
use Rattle.fc_safe.specs.FirstSpace.{ArePlacedFirst}
use Rattle.fc_safe.specs.Needs.{parts_of}
use Rattle.fc_safe.specs.Staying.{remains}
use Rattle.fc_safe.proofs.PlainLawLemmas.{plain_law}
use Rattle.fc_safelaws.specs.Relaid.{AreCopied, Reaches}
use Rattle.fc_safelaws.proofs.RelaidLemmas.{relaid_law, within}
use Rattle.fc_safecrash.specs.Crash.{IsOneStep, IsThere}
use Rattle.fc_safeedits.specs.Relocation.{is_moved}
use Rattle.fc_safeedits.specs.SafeChange.{KeepsRecord, MovedParts, TakesForChanged, moves_in}
use Rattle.fc_safeedits.specs.SafeSpace.{SafeSpaceLaw, taking_of, takings_of}
use Rattle.fc_safeedits.specs.SafeWriting.{SafeWritingLaw}
use Rattle.fc_safecommands.specs.Anew.{IsReadyAnew}
use Rattle.fc_safecommands.specs.Laws.{MappedBy, mapped}
use Rattle.fc_safecommands.proofs.BackLemmas.{back_same}
use Rattle.fc_safecommands.proofs.GoneLemmas.{back_high, back_is, back_low, goes_one, movable, moved_is, moves_one, taken_is}
use Rattle.fc_safecommands.proofs.LaidLemmas.{IsStaying, laid, laid_there, reaches}
use Rattle.fc_safecommands.proofs.PlainLemmas.{PlainJob, d, d_in, d_some, h, i, leaving, sound, v, y}
use Rattle.fc_safecommands.proofs.RunLemmas.{have_runs}
use Rattle.fc_safecommands.proofs.SpaceLemmas as space_of
use Rattle.fc_safecommands.proofs.WrittenLemmas as written

module _ (x : PlainJob) (s : Spaces) (placed : ArePlacedFirst x.m (h x) x.job x.wants s) (c : Change) (tells : written.TellsOne x c) (r : Ready) (is : IsReadyAnew x.m (h x) x.wants c s r) where
  abbrev g : Geometry
  g = x.m.geometry

  -- ---- it can be written

  step_is : r.take ≡ steps.New (space_of.step x s placed).0
  step_is = is.take ∙ (space_of.step x s placed).1

  pub can_write : (n : ℕ) → disc_sectors (Layout.New x.m) ≤ n → CanWrite n x.m r
  can_write n room = record {
    put = written.can_put x s placed c tells r is n room;
    take = subst (CanStep x.m) (sym step_is) (space_of.can_edit x s placed);
    give = λ mid done. subst (CanStep mid) (sym is.no_give) tt;
  }

  pub one_step : IsOneStep r
  one_step = record { none_late = is.no_late; none_back = is.no_give; narrow = ap is_wide step_is ∙ space_of.narrow x s placed }

  -- ---- the map after it

  module _ (m' : Map) (taken : IsTaken x.m r m') where
    pub done : HasEdited x.m m' (space_of.step x s placed).0
    done = subst (λ (t : MapStep). HasStepped x.m m' t) step_is taken

    pub edited : IsMapEdited x.m m'
    edited = space_of.edited x s placed (goes_one x) m' done

    module _ (law : SafeSpaceLaw) (nodes' : Nodes) (owners' : List Owner) where
      -- The parts after it, with these nodes and owners.
      abbrev pub moved : MovedParts
      moved =
          let w = had x.kind x.m x.nodes x.owners x.root x.listings x.agreed in
          record {
            kind = x.kind;
            m = x.m;
            m' = m';
            nodes = x.nodes;
            nodes' = nodes';
            owners = x.owners;
            owners' = owners';
            root = x.root;
            top = w.top;
            listings = x.listings;
            takings = takings_of placed.plans;
            gone = first_gone x.m (h x) x.job x.wants;
            agreed = x.agreed;
            top_in = subst (λ (os : List Object). Contains os w.top) (sym w.objects) (contains_here w.top (all_held x.listings));
            top_path = w.is_root.path;
            is_map = (edited).is_map;
            geometry = (edited).geometry;
            space = space_of.space x s placed (goes_one x) m' done law;
            movable = movable x s placed;
          }

      pub record_stays : KeepsRecord moved
      record_stays = edited.record_stays

      pub dir_moves : is_moved (moves_in moved) (d x) ≡ true
      dir_moves = moves_one x s placed

      -- Its identifier reaches as far as what stays.
      pub each_reaches : (o : Object) → Contains (objects_of x.listings) o → is_moved (moves_in moved) o ≡ true → (has_sectors o ≡ true → IsStaying x s placed o) → Reaches m' o
      each_reaches o at m st = reaches x s placed m' edited.geometry (space_of.taken x s placed (goes_one x) m' done) o at (moved_is x s placed (id_of o.entry.address) m) st

      -- ---- what the command takes

      pub takes : TakesForChanged moved x.c
      takes = record {
        parts = parts_of placed.plans;
        fitted = plain_law.fitted x.m (h x) (v x) x.c x.job x.wants placed.plans x.its placed.met;
        takes = map_map (λ (t : Taking). t.parts) taking_of placed.plans;
        ids = map_map (λ (t : Taking). t.id) taking_of placed.plans ∙ plain_law.ids x.m (h x) (v x) x.c x.job x.wants placed.plans x.its placed.met;
        used = λ k e.
            (let same = eqb-true (i x) k (sym (taken_is x s placed k) ∙ e) in
            subst (λ (n : ℕ). is_used x.m n ≡ true) same (and_parts (is_taken (takings_of placed.plans) (i x)) (is_used x.m (i x)) (moves_one x s placed)).1);
        needs_met = subst (λ (ids : List ℕ). HaveRuns m' ids (parts_of placed.plans)) (plain_law.ids x.m (h x) (v x) x.c x.job x.wants placed.plans x.its placed.met)
            (have_runs x s placed m' edited.is_map (space_of.taken x s placed (goes_one x) m' done) edited.geometry);
        back = λ z low. back_same x.m x.agreed.is_map (min_some g x.agreed.is_map.of_record) placed.plans (space_of.can x s placed) (first_gone x.m (h x) x.job x.wants)
            (is_given_up x.m (v x) x.c) (back_is x) (back_low x) (back_high x) z low;
      }

      -- ---- the image after it

      module _ (writing : SafeWritingLaw) (by : MappedBy x.m) (kind : by.kind ≡ x.kind) (listings : by.listings ≡ x.listings) (bytes image' : List ℕ) (there : IsThere (mapped x.m by) r bytes m' image') where
        pub copied_as : (o : Object) → Contains (objects_of x.listings) o → is_moved (moves_in moved) o ≡ true
            → (has_sectors o ≡ true → (remains (leaving x) (i x) (owner_of x.nodes (y x) o) ≡ true) × ((x.t.holder == (owner_of x.nodes (y x) o).node) ≡ false) × IsStaying x s placed o)
            → AreCopied g.sector by.image image' o.sectors (object_in (Layout.New m') o).sectors
        copied_as o at m st = has (has_sectors o) refl
          where
            has : (b : Bool) → has_sectors o ≡ b → AreCopied g.sector by.image image' o.sectors (object_in (Layout.New m') o).sectors
            has true some =
                let k = st some in
                let t = written.copied_of x s placed c tells r is o at some k.0 k.1 in
                subst (AreCopied g.sector by.image image' o.sectors) (t.3 ∙ sym (laid_there x s placed m' edited.geometry (space_of.taken x s placed (goes_one x) m' done) o at k.2 some))
                (subst (λ (ss : List ℕ). AreCopied g.sector by.image image' ss (to_of t.0)) t.2 (writing.carried (mapped x.m by) r bytes m' image' t.0 there t.1))
            has false none = λ k low. absurd (empty k low)
              where
                size_none : object_size (dir_form (y x)) o.entry ≡ 0
                size_none = by_zero (object_size (dir_form (y x)) o.entry) refl
                  where
                    by_zero : (n : ℕ) → object_size (dir_form (y x)) o.entry ≡ n → n ≡ 0
                    by_zero zero e = refl
                    by_zero (suc n) e = absurd (
                        let t = a_sector x.m o.entry.address (object_size (dir_form (y x)) o.entry) o.sectors (omega (arith, e)) (new_shape x.m x.agreed.is_map).some (each_at (y x) x.listings (sound x) o at) in
                        let yes = some_there o.sectors t.0 t.1 in cc)

                size_then : object_size (dir_form (Layout.New m')) o.entry ≡ 0
                size_then = ap (λ (f : Geometry). object_size (dir_form (Layout.New (record { geometry = f; zones = [] }))) o.entry) edited.geometry ∙ size_none

                reached : Reaches m' o
                reached = record { id = λ some. absurd (omega (arith, some, size_then)); long = λ some. absurd (omega (arith, some, size_then)) }

                empty : (k : ℕ) → k < length (object_in (Layout.New m') o).sectors → ⊥
                empty k less =
                    ⊎_elim (λ e. (let no : length (object_in (Layout.New m') o).sectors ≡ 0 = ap (λ (ss : List ℕ). length ss) e.1 in omega (arith, no, less)))
                    (λ w. (let some = w.some in let zero' = eq-eqb (object_size (dir_form (Layout.New m')) o.entry) 0 size_then in let bad : true ≡ false = sym zero' ∙ some in cc))
                    (within m' o.entry.address (object_size (dir_form (Layout.New m')) o.entry) (object_in (Layout.New m') o).sectors (relaid_law.placed m' o reached))

        -- the directory has its new bytes
        pub dir_there : length (written.piece x s placed c tells r is).0.bytes.items ≡ object_size (dir_form (y x)) (d x).entry
            → object_bytes image' (Layout.New m') (object_in (Layout.New m') (d x)) ≡ (written.piece x s placed c tells r is).0.bytes.items
        dir_there size =
            let p = written.piece x s placed c tells r is in
            let at = laid_there x s placed m' edited.geometry (space_of.taken x s placed (goes_one x) m' done) (d x) (d_in x) (written.dir_stays x s placed c tells r is) (d_some x) in
            let same : (object_in (Layout.New m') (d x)).sectors ≡ place_of p.0 = at ∙ sym p.1.place in
            let long : object_size (dir_form (Layout.New m')) (d x).entry ≡ length p.0.bytes.items =
            ap (λ (f : Geometry). object_size (dir_form (Layout.New (record { geometry = f; zones = [] }))) (d x).entry) edited.geometry ∙ sym size in
            (λ j. bytes_in (edited.geometry j).sector image' (same j) (long j))
            ∙ writing.pieces (mapped x.m by) r bytes m' image' p.0 there (subst (λ (ps : List Piece). Contains ps p.0) (sym p.1.early) (contains_here p.0 [])) (fits p.0 size p.1.place)
          where
            fits : (p : Piece) → length p.bytes.items ≡ object_size (dir_form (y x)) (d x).entry → place_of p ≡ laid x s placed (d x) → length p.bytes.items ≤ length (place_of p) * g.sector
            fits p long at =
                let st = written.dir_stays x s placed c tells r is in
                let count : length (place_of p) ≡ length (d x).sectors =
                ap (λ (ss : List ℕ). length ss) (at ∙ sym (laid_there x s placed m' edited.geometry (space_of.taken x s placed (goes_one x) m' done) (d x) (d_in x) st (d_some x)))
                ∙ laid_long in
                let many = st.lies.many in
                let whole = (div_ceil_times (object_size (dir_form (y x)) (d x).entry) g.sector (new_shape x.m x.agreed.is_map).some).0 in
                subst (λ (n : ℕ). n ≤ length (place_of p) * g.sector) (sym long)
                (subst (λ (n : ℕ). object_size (dir_form (y x)) (d x).entry ≤ n * g.sector) (sym (count ∙ many)) whole)
              where
                laid_long : length (object_in (Layout.New m') (d x)).sectors ≡ length (d x).sectors
                laid_long = relaid_law.as_many x.m m' (d x) (object_in (Layout.New m') (d x)) edited.geometry
                    (record {
                      address = refl;
                      size = refl;
                      before = each_at (y x) x.listings (sound x) (d x) (d_in x);
                      now = relaid_law.placed m' (d x) (reaches x s placed m' edited.geometry (space_of.taken x s placed (goes_one x) m' done) (d x) (d_in x) refl (λ e. written.dir_stays x s placed c tells r is));
                    })

  -- ---- whose number is the directory's

  pub other_node : (o : Object) → Contains (objects_of x.listings) o → (d x ≡ o → ⊥) → (x.t.holder == (owner_of x.nodes (y x) o).node) ≡ false
  other_node o at other = by (x.t.holder == (owner_of x.nodes (y x) o).node) refl
    where
      by : (b : Bool) → (x.t.holder == (owner_of x.nodes (y x) o).node) ≡ b → b ≡ false
      by false e = refl
      by true e = absurd (other (same_object (y x) x.listings (sound x) (d x).path (d x) o (d_in x) at (itself (d x).path)
          (same_path (y x) x.nodes x.listings x.owners (d x) x.t.holder (sound x) x.agreed.walked.held x.agreed.owned x.target.holder_is (d_in x) o at (sym (eqb-true x.t.holder (owner_of x.nodes (y x) o).node e)))))
