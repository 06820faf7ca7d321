-- A job by which no directory grows, written anew: what its stages need, the parts after it, and what then stands in the image.
use Rattle.std.proofs.Common.{◌≡◌, ◌<◌, ◌≤◌, ◌*◌, ◌^◌, ◌==◌, ⊎_elim, ℕ, zero, suc, Bool, true, false, List, [], ◌∷◌, ◌++◌, append-nil, find, flat_map, get_or, length, refl, sym, ap, subst, ◌∙◌, arith, eq-eqb, is_some, IsSome, Option, None}
use Rattle.std.specs.Prelude.{Contains}
use Rattle.std.specs.FinMap.{get}
use Rattle.std.specs.Option.{unwrap_or}
use Rattle.std.proofs.lemmas.Grind.{div_ceil_times}
use Rattle.std.proofs.lemmas.List.Elements.{Contains-append_left, Contains-get_or}
use Rattle.fc_alloc.specs.declared.owner.Owner.{Owner}
use Rattle.fc_alloc.specs.Owners.{is_node}
use Rattle.fc_record.specs.declared.DiscRecord.{DiscRecord}
use Rattle.fc_record.specs.declared.Geometry.{Geometry}
use Rattle.fc_newmap.specs.Map.{Map, hole_runs, map_sectors}
use Rattle.fc_image.specs.Layout.{Layout, bytes_in, dir_form, id_of}
use Rattle.fc_image.specs.Moves.{object_in}
use Rattle.fc_image.specs.Objects.{has_sectors, objects_of}
use Rattle.fc_image.specs.Order.{held as all_held}
use Rattle.fc_image.specs.Stays.{IsNewKind, OpensAs}
use Rattle.fc_image.specs.Walk.{Object, object_bytes, object_size}
use Rattle.fc_changes.proofs.ChangeLemmas.{a_sector}
use Rattle.fc_changes.proofs.NewPlaceLemmas.{some_there}
use Rattle.fc_plan.specs.declared.plan.Plan.{Plan}
use Rattle.fc_plan.specs.Parts.{front_at, fronts}
use Rattle.fc_plan.proofs.Plans.{min_some}
use Rattle.fc_changes.specs.Space.{IsMapEdited}
use Rattle.fc_tree.specs.Parts.{owner_of}
use Rattle.fc_tree.proofs.MemberLemmas.{contains_here, in_map}
use Rattle.fc_laws.specs.nodes.Edits.{Nodes}
use Rattle.fc_laws.proofs.lemmas.agree.BeforeLemmas.{had, new_shape}
use Rattle.fc_writing.specs.declared.ready.MapStep.{MapStep}
use Rattle.fc_writing.specs.declared.ready.Piece.{Piece}
use Rattle.fc_writing.specs.declared.ready.Ready.{Ready}
use Rattle.fc_writing.specs.Content.{Content, HasContent, IsPart}
use Rattle.fc_writing.specs.New.{IsChanged, IsTaken}
use Rattle.fc_writing.specs.Ready.{content_of, early_content, place_of, to_of, written_place}
use Rattle.fc_writing.specs.Steps.{HasEdited, HasStepped}
use Rattle.fc_writing.proofs.CopyLemmas.{chooses_first}
use Rattle.fc_change.specs.declared.change.Change.{Change}
use Rattle.fc_change.specs.declared.change.Says.{Says}
use Rattle.fc_change.specs.declared.job.Growth.{Growth}
use Rattle.fc_change.specs.declared.spaces.Spaces.{Spaces}
use Rattle.fc_change.specs.Prepared.{HasPlace}
use Rattle.fc_commands.proofs.NodeLemmas.{each_at}
use Rattle.fc_safe.specs.FirstNeeds.{first_gone, longer_of}
use Rattle.fc_safe.specs.FirstSpace.{ArePlacedFirst, LiesInZones}
use Rattle.fc_safe.specs.Moving.{IsPlacedOwner}
use Rattle.fc_safe.specs.Staying.{remains}
use Rattle.fc_safe.proofs.CoverLemmas.{fronts_in_zones}
use Rattle.fc_safelaws.specs.Relaid.{AreCopied, Reaches}
use Rattle.fc_safelaws.proofs.RelaidLemmas.{relaid_law, within}
use Rattle.fc_safecrash.specs.Crash.{IsOneStep, IsThere}
use Rattle.fc_safeedits.specs.Relocation.{is_moved}
use Rattle.fc_safeedits.specs.SafeChange.{IsWholeMap, KeepsRecord, MovedParts, SafeChange, moves_in}
use Rattle.fc_safeedits.specs.SafeSpace.{SafeSpaceLaw, takings_of}
use Rattle.fc_safeedits.specs.SafeWriting.{SafeWritingLaw}
use Rattle.fc_safecommands.specs.Anew.{CanWriteAnew, IsReadyAnew, plans_in}
use Rattle.fc_safecommands.specs.Laws.{MappedBy, mapped}
use Rattle.fc_safecommands.proofs.PlansApartLemmas.{in_fronts}
use Rattle.fc_safecommands.proofs.StirredChangeLemmas.{movable, moved_is, moves_is}
use Rattle.fc_safecommands.proofs.StirredLaidLemmas.{IsStaying, laid, laid_there, reaches, staying}
use Rattle.fc_safecommands.proofs.StirredLemmas.{StirredJob, changed_moves, h, leaving, moves, owner_object, placed_owner, sound, y}
use Rattle.fc_safecommands.proofs.StirredPutLemmas.{IsPutThere, LiesBeside, written_free}
use Rattle.fc_safecommands.proofs.StirredSpaceLemmas.{can}
use Rattle.fc_safecommands.proofs.StirredStepLemmas as step_of
use Rattle.fc_safecommands.proofs.StirredWrittenLemmas.{IsPieceOfTold, IsTold, TellsThese, copied_of, object_told, piece_of_told, told_of, told_stays}

module _ (x : StirredJob) where
  -- ---- before anything is written

  -- each owner's object has a place
  pub placed_at : (o : Owner) → Contains x.owners o → HasPlace (h x) o.node
  placed_at o at =
      let p = owner_object x o at in
      let has = x.agreed.walked.held.each p.0 p.1 in
      let number : o.node ≡ has.number = ap (λ (w : Owner). w.node) (sym p.3) ∙ ap (λ (k : Option ℕ). unwrap_or k 0) has.at_path in
      record { node = _; there = ap (get x.nodes) number ∙ has.is; placed = ap is_some (each_at (y x) x.listings (sound x) p.0 p.1) }

  pub placed_first : (o : Owner) → Contains x.owners o → IsPlacedOwner x.m.geometry (longer_of x.m.geometry x.wants.grows) o
  placed_first o at = subst (λ (growth : Option Growth). IsPlacedOwner x.m.geometry (longer_of x.m.geometry growth) o) (sym x.still) (placed_owner x o at)

  pub can_write_anew : (c : Change) → TellsThese x c → CanWriteAnew (h x) c
  can_write_anew c tells = record {
    told = λ s at. (let t = object_told x c.says.items tells.ds s tells.are at in ap is_some t.2.is.own_found);
    placed = placed_at;
  }

  pub zones : (s : Spaces) (placed : ArePlacedFirst x.m (h x) x.job x.wants s) (p : Plan) → Contains (plans_in s.take) p → LiesInZones x.m p
  zones s placed p at =
      let is : plans_in s.take ≡ placed.plans = ap plans_in (step_of.step x s placed).1 ∙ (step_of.step x s placed).2.plans_are in
      let among = subst (λ (ps : List Plan). Contains ps p) is at in
      (λ k d low. fronts_in_zones x.m x.agreed.is_map (min_some x.m.geometry x.agreed.is_map.of_record) placed.plans (front_at (get_or p.parts.items k d)) (can x s placed)
      (in_fronts placed.plans p (front_at (get_or p.parts.items k d)) among (in_map front_at p.parts.items (get_or p.parts.items k d) (Contains-get_or p.parts.items k d low))))

  module _ (s : Spaces) (placed : ArePlacedFirst x.m (h x) x.job x.wants s) (c : Change) (tells : TellsThese x c) (r : Ready) (is : IsReadyAnew x.m (h x) x.wants c s r) where
    abbrev g : Geometry
    g = x.m.geometry

    -- ---- the map after it

    module _ (m' : Map) (taken : IsTaken x.m r m') where
      pub done : HasEdited x.m m' (step_of.step x s placed).0
      done = subst (λ (t : MapStep). HasStepped x.m m' t) (is.take ∙ (step_of.step x s placed).1) taken

      pub edited : IsMapEdited x.m m'
      edited = step_of.edited x s placed m' done

      module _ (law : SafeSpaceLaw) (nodes' : Nodes) (owners' : List Owner) where
        -- The parts after it, with these nodes and owners.
        abbrev pub moved : MovedParts
        moved =
            let w = had x.kind x.m x.nodes x.owners x.root x.listings x.agreed in
            record {
              kind = x.kind;
              m = x.m;
              m' = m';
              nodes = x.nodes;
              nodes' = nodes';
              owners = x.owners;
              owners' = owners';
              root = x.root;
              top = w.top;
              listings = x.listings;
              takings = takings_of placed.plans;
              gone = first_gone x.m (h x) x.job x.wants;
              agreed = x.agreed;
              top_in = subst (λ (os : List Object). Contains os w.top) (sym w.objects) (contains_here w.top (all_held x.listings));
              top_path = w.is_root.path;
              is_map = (edited).is_map;
              geometry = (edited).geometry;
              space = step_of.space x s placed m' done law;
              movable = movable x s placed;
            }

        pub record_stays : KeepsRecord moved
        record_stays = edited.record_stays

        -- A directory that is told something is in an identifier that moves.
        pub dir_moves : (d : Object) → Contains tells.ds d → is_moved (moves_in moved) d ≡ true
        dir_moves d at = let t = told_of x c.says.items tells.ds d tells.are at in moves_is x s placed (id_of d.entry.address) (changed_moves x t.0.node t.2.changes d t.2.is)

        pub it_moves : (o : Object) → is_moved (moves_in moved) o ≡ true → moves x (id_of o.entry.address) ≡ true
        it_moves o e = moved_is x s placed (id_of o.entry.address) e

        -- Its identifier reaches as far as what stays.
        pub each_reaches : (o : Object) → Contains (objects_of x.listings) o → is_moved (moves_in moved) o ≡ true → (has_sectors o ≡ true → IsStaying x o) → Reaches m' o
        each_reaches o at m st = reaches x s placed m' edited.geometry (step_of.taken x s placed m' done law) o at (it_moves o m) st

        -- ---- the image after it

        module _ (writing : SafeWritingLaw) (by : MappedBy x.m) (kind : by.kind ≡ x.kind) (listings : by.listings ≡ x.listings) (bytes image' : List ℕ) (there : IsThere (mapped x.m by) r bytes m' image') where
          pub copied_as : (o : Object) → Contains (objects_of x.listings) o → is_moved (moves_in moved) o ≡ true → (has_sectors o ≡ true → remains (leaving x) (id_of o.entry.address) (owner_of x.nodes (y x) o) ≡ true)
              → ((d : Object) → Contains tells.ds d → d ≡ o → ⊥) → AreCopied g.sector by.image image' o.sectors (object_in (Layout.New m') o).sectors
          copied_as o at m stays other = has (has_sectors o) refl
            where
              has : (b : Bool) → has_sectors o ≡ b → AreCopied g.sector by.image image' o.sectors (object_in (Layout.New m') o).sectors
              has true some =
                  let e = it_moves o m in
                  let st = staying x o at some e (stays some) in
                  let t = copied_of x s placed c tells r is o at some e (stays some) other in
                  subst (AreCopied g.sector by.image image' o.sectors) (t.3 ∙ sym (laid_there x s placed m' edited.geometry (step_of.taken x s placed m' done law) o at st some))
                  (subst (λ (ss : List ℕ). AreCopied g.sector by.image image' ss (to_of t.0)) t.2 (writing.carried (mapped x.m by) r bytes m' image' t.0 there t.1))
              has false none = λ k low. absurd (empty k low)
                where
                  size_none : object_size (dir_form (y x)) o.entry ≡ 0
                  size_none = by_zero (object_size (dir_form (y x)) o.entry) refl
                    where
                      by_zero : (n : ℕ) → object_size (dir_form (y x)) o.entry ≡ n → n ≡ 0
                      by_zero zero e = refl
                      by_zero (suc n) e = absurd (
                          let t = a_sector x.m o.entry.address (object_size (dir_form (y x)) o.entry) o.sectors (omega (arith, e)) (new_shape x.m x.agreed.is_map).some (each_at (y x) x.listings (sound x) o at) in
                          let has = some_there o.sectors t.0 t.1 in cc)

                  size_then : object_size (dir_form (Layout.New m')) o.entry ≡ 0
                  size_then = ap (λ (f : Geometry). object_size (dir_form (Layout.New (record { geometry = f; zones = [] }))) o.entry) edited.geometry ∙ size_none

                  reached : Reaches m' o
                  reached = record { id = λ some. absurd (omega (arith, some, size_then)); long = λ some. absurd (omega (arith, some, size_then)) }

                  empty : (k : ℕ) → k < length (object_in (Layout.New m') o).sectors → ⊥
                  empty k less =
                      ⊎_elim (λ e. (let no : length (object_in (Layout.New m') o).sectors ≡ 0 = ap (λ (ss : List ℕ). length ss) e.1 in omega (arith, no, less)))
                      (λ w. (let some = w.some in let zero' = eq-eqb (object_size (dir_form (Layout.New m')) o.entry) 0 size_then in let bad : true ≡ false = sym zero' ∙ some in cc))
                      (within m' o.entry.address (object_size (dir_form (Layout.New m')) o.entry) (object_in (Layout.New m') o).sectors (relaid_law.placed m' o reached))

          -- a directory that is told something has its new bytes
          pub dir_there : (d : Object) → Contains tells.ds d → (q : Says) (p : Piece) → Contains is.early.told p → IsPieceOfTold x s placed c tells r is q d p → length p.bytes.items ≡ object_size (dir_form (y x)) d.entry
              → object_bytes image' (Layout.New m') (object_in (Layout.New m') d) ≡ p.bytes.items
          dir_there d at q p early of size =
              let same : (object_in (Layout.New m') d).sectors ≡ place_of p = laid_at ∙ sym of.place in
              let long : object_size (dir_form (Layout.New m')) d.entry ≡ length p.bytes.items =
              ap (λ (f : Geometry). object_size (dir_form (Layout.New (record { geometry = f; zones = [] }))) d.entry) edited.geometry ∙ sym size in
              (λ j. bytes_in (edited.geometry j).sector image' (same j) (long j))
              ∙ writing.pieces (mapped x.m by) r bytes m' image' p there (subst (λ (ps : List Piece). Contains ps p) (sym is.early.all) (Contains-append_left is.early.told is.early.made p early)) fits
            where
              t : (q : Says) × Contains c.says.items q × IsTold x q d
              t = told_of x c.says.items tells.ds d tells.are at

              st : IsStaying x d
              st = told_stays x s placed c tells r is d at

              laid_at : (object_in (Layout.New m') d).sectors ≡ laid x s placed d
              laid_at = laid_there x s placed m' edited.geometry (step_of.taken x s placed m' done law) d t.2.is.there st t.2.is.some

              as_many : length (object_in (Layout.New m') d).sectors ≡ length d.sectors
              as_many = relaid_law.as_many x.m m' d (object_in (Layout.New m') d) edited.geometry
                  (record {
                    address = refl;
                    size = refl;
                    before = each_at (y x) x.listings (sound x) d t.2.is.there;
                    now = relaid_law.placed m' d (reaches x s placed m' edited.geometry (step_of.taken x s placed m' done law) d t.2.is.there st.moved (λ e. st));
                  })

              fits : length p.bytes.items ≤ length (place_of p) * g.sector
              fits =
                  let count : length (place_of p) ≡ length d.sectors = ap (λ (ss : List ℕ). length ss) (of.place ∙ sym laid_at) ∙ as_many in
                  let many = st.lies.many in
                  let whole = (div_ceil_times (object_size (dir_form (y x)) d.entry) g.sector (new_shape x.m x.agreed.is_map).some).0 in
                  subst (λ (n : ℕ). n ≤ length (place_of p) * g.sector) (sym size) (subst (λ (n : ℕ). object_size (dir_form (y x)) d.entry ≤ n * g.sector) (sym (count ∙ many)) whole)

  -- ---- the image

  module _ (disc : DiscRecord) (image : List ℕ) (new_kind : IsNewKind x.kind disc) (opens : OpensAs image x.kind (record { kind = x.kind; layout = Layout.New x.m; listings = x.listings })) where
    abbrev pub by : MappedBy x.m
    by = record { kind = x.kind; r = disc; listings = x.listings; image = image; new_kind = new_kind; opens = opens }

    -- A change that is whole has all of it there.
    pub there_of : (r : Ready) (bytes image' : List ℕ) (m' : Map) → IsOneStep r → IsChanged x.m m' r bytes image image' → IsThere (mapped x.m by) r bytes m' image'
    there_of r bytes image' m' one changed =
        let size = x.m.geometry.sector in
        let early = early_content size image bytes r in
        let none : flat_map (content_of size) r.late.items ≡ [] = ap (flat_map (content_of size)) one.none_late in
        record {
          written = subst (λ (c : Content). HasContent size c image') (ap (λ (c : Content). early ++ c) none ∙ append-nil early) changed.written;
          sectors = subst (λ (c : Content). IsPart size (map_sectors x.m.geometry) (early ++ c) image image') none changed.others;
          map = chooses_first x.m.geometry m'.zones image' changed.copies;
        }

    module _ (s : Spaces) (placed : ArePlacedFirst x.m (h x) x.job x.wants s) (c : Change) (tells : TellsThese x c) (r : Ready) (is : IsReadyAnew x.m (h x) x.wants c s r) (own : List ℕ) (lies : LiesBeside x s placed own)
        (put : IsPutThere x own r is.early.made) (m' : Map) (taken : IsTaken x.m r m') (space : SafeSpaceLaw) (writing : SafeWritingLaw) (nodes' : Nodes) (owners' : List Owner) (bytes image' : List ℕ)
        (there : IsThere (mapped x.m by) r bytes m' image') where
      abbrev pub changed_image : SafeChange
      changed_image = record {
        parts = moved s placed c tells r is m' taken space nodes' owners';
        r = disc;
        image = image;
        image' = image';
        written = written_place r;
        new_kind = new_kind;
        opens = opens;
        changes = writing.changes (mapped x.m by) r bytes m' image' there;
        free = λ u e. written_free x s placed c tells r is own lies put u e;
        chosen = there.map;
      }

      pub whole : IsChanged x.m m' r bytes image image' → IsWholeMap changed_image
      whole changed =
          let e = edited s placed c tells r is m' taken in
          record { copies = changed.copies; zones = e.zones; links = e.links }
