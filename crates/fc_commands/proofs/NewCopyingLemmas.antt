-- A copy on a new map, by any walk: it can be written, and what may be written at any moment.
use Rattle.std.proofs.Common.{◌≡◌, ◌<◌, ◌≤◌, ◌||◌, ◌++◌, inl, inr, ℕ, true, List, [], ◌∷◌, flat_map, length, refl, sym, ap, subst, ◌∙◌, arith, Some, None}
use Rattle.std.specs.Prelude.{All, Contains}
use Rattle.std.specs.Int.{div_ceil}
use Rattle.std.proofs.lemmas.List.{length-take}
use Rattle.fc_names.specs.Names.{Path}
use Rattle.fc_alloc.specs.declared.owner.Owner.{Owner}
use Rattle.fc_record.specs.declared.Kind.{Kind}
use Rattle.fc_newmap.specs.Map.{Map, map_sectors}
use Rattle.fc_model.specs.Command.{Command}
use Rattle.fc_image.specs.Layout.{Layout, dir_form, disc_sectors, hole_sectors, is_among, is_apart}
use Rattle.fc_image.specs.Objects.{objects_of}
use Rattle.fc_image.specs.Opening.{Opened, boot_place, reserved_in}
use Rattle.fc_image.specs.Stays.{OpensAs}
use Rattle.fc_image.specs.Walk.{Listing, Object, is_directory_object, object_size}
use Rattle.fc_image.specs.effects.Steady.{has_grown, has_new_holder, holds_named, is_renamed_by, may_be_rewritten}
use Rattle.fc_image.proofs.HolesLemmas.{apart_from}
use Rattle.fc_changes.proofs.BasicLemmas.{clash}
use Rattle.fc_objects.specs.Extents.{sectors_in}
use Rattle.fc_objects.specs.Written.{AreApart}
use Rattle.fc_plan.specs.declared.plan.Plan.{Plan}
use Rattle.fc_tree.specs.declared.node.Node.{Node}
use Rattle.fc_tree.proofs.MemberLemmas.{contains_here}
use Rattle.fc_tree.proofs.WalkedLemmas.{listed_directory, same_some}
use Rattle.fc_laws.specs.agree.Agreed.{AgreeOn}
use Rattle.fc_laws.specs.nodes.Edits.{Nodes}
use Rattle.fc_laws.specs.takeover.Places.{MayBeWritten}
use Rattle.fc_laws.proofs.lemmas.agree.BeforeLemmas.{agreed_law, disc_holds}
use Rattle.fc_laws.proofs.lemmas.takeover.ApartLemmas.{places_law}
use Rattle.fc_laws.proofs.lemmas.takeover.SaidLemmas.{apart_front}
use Rattle.fc_laws.proofs.lemmas.takeover.WriteLemmas.{written_bytes_law}
use Rattle.fc_edits.specs.Copying.{from_it, to_it}
use Rattle.fc_edits.specs.Edit.{Amended}
use Rattle.fc_edits.proofs.lemmas.LeavingLemmas.{one_of_sector}
use Rattle.fc_edits.proofs.lemmas.ShapeLemmas.{only}
use Rattle.fc_refusals.specs.declared.target.Renaming.{Renaming}
use Rattle.fc_writing.specs.Laws.{ChangesOnly}
use Rattle.fc_writing.specs.New.{CanWrite}
use Rattle.fc_writing.specs.Ready.{place_of, written_place}
use Rattle.fc_change.specs.GrownSpace.{place_of_plan, plan_sectors}
use Rattle.fc_change.specs.Steps.{IsStep}
use Rattle.fc_commands.specs.declared.stages.Prepared.{Prepared}
use Rattle.fc_commands.specs.Promises.{WritesPlaces}
use Rattle.fc_commands.proofs.CopyingPreparedLemmas.{IsCopyAsked, are_for, bytes_is, cp, file, once, order, placed, ready, sectors}
use Rattle.fc_commands.proofs.CopyingReadyLemmas.{can_put, written_is}
use Rattle.fc_commands.proofs.MoveLemmas.{IsSeen, among, o}
use Rattle.fc_commands.proofs.MovePieceLemmas.{AreListed, all_apart, among_flat, apart, beside, lies, places_are, said_listed, sectors_of}
use Rattle.fc_commands.proofs.NewPlaceLemmas.{IsRoomBeside, hole_room}
use Rattle.fc_commands.proofs.PieceLemmas.{all_low}
use Rattle.fc_commands.proofs.PlanPlaceLemmas.{plan_free}
use Rattle.fc_commands.proofs.SpaceLemmas.{can_give, can_take}
use Rattle.fc_commands.proofs.StayingLemmas.{count}
use Rattle.fc_commands.proofs.TargetLemmas as target_of
use Rattle.fc_commands.proofs.TwoPieceLemmas.{AreRoom, apart_both, room_both}
use Rattle.std.proofs.lemmas.Bool.{or_left}
use Rattle.fc_image.proofs.EditLemmas.{apart_turned as flipped}
use Rattle.fc_image.proofs.EntriesLemmas.{later as contains_later, cases as contains_cases}

module _ (m : Map) (nodes : Nodes) (owners : List Owner) (r : Renaming) (name : List ℕ) (p : Prepared) (q : IsCopyAsked m nodes owners r name p) (kind : Kind) (root : Node) (listings : List Listing)
    (agreed : AgreeOn kind m nodes owners root listings) (from to : Path) (x : IsSeen (Layout.New m) nodes listings from to r name) where
  abbrev it : Object
  it = o (Layout.New m) nodes listings from to r name x

  abbrev new : List ℕ
  new = sectors m nodes owners r name p q kind root listings agreed from to x

  abbrev dirs : List Amended
  dirs = order m nodes owners r name p q kind root listings agreed from to x

  listed : AreListed nodes listings dirs
  listed = said_listed nodes listings dirs p.change.says.items (cp m nodes owners r name p q kind root listings agreed from to x).is.said

  late_is : flat_map place_of p.ready.late.items ≡ sectors_of dirs
  late_is = places_are dirs p.ready.late.items (are_for m nodes owners r name p q kind root listings agreed from to x)

  -- ---- the sectors

  new_free : (s : ℕ) → is_among new s ≡ true → is_among (hole_sectors (Layout.New m)) s ≡ true
  new_free s e =
      let at = placed m nodes owners r name p q kind root listings agreed from to x in
      plan_free m q.is_map q.prep.wants.bytes at.plan at.own s (subst (λ (ss : List ℕ). is_among ss s ≡ true) at.sectors e)

  new_room : IsRoomBeside m (objects_of listings) new
  new_room =
      let at = placed m nodes owners r name p q kind root listings agreed from to x in
      subst (IsRoomBeside m (objects_of listings)) (sym at.sectors) (hole_room kind m nodes owners root listings agreed q.prep.wants.bytes at.plan at.own)

  dirs_room : AreRoom (disc_sectors (Layout.New m)) (map_sectors m.geometry) (sectors_of dirs)
  dirs_room = record {
    low = λ s e.
        (let a = among_flat (λ (b : Amended). b.was.object.sectors) dirs s e in
        disc_holds m a.0.was.object q.is_map (lies kind (Layout.New m) nodes root listings agreed.walked a.0.was (listed a.0 a.1).0).placed s a.2);
    once = apart kind (Layout.New m) nodes root listings agreed.walked dirs listed (once m nodes owners r name p q kind root listings agreed from to x)
        (λ d at. written_bytes_law.apart m d.object q.is_map (lies kind (Layout.New m) nodes root listings agreed.walked d at).placed);
    beside = beside kind (Layout.New m) nodes root listings agreed.walked dirs listed (map_sectors m.geometry)
        (λ d at. apart_front d.object.sectors (map_sectors m.geometry) (boot_place kind m.geometry.sector) (lies kind (Layout.New m) nodes root listings agreed.walked d at).apart);
  }

  dirs_apart : (sectors : List ℕ) → ((d : Listing) → Contains listings d → is_apart d.object.sectors sectors ≡ true) → is_apart sectors (sectors_of dirs) ≡ true
  dirs_apart sectors each = flipped (sectors_of dirs) sectors (beside kind (Layout.New m) nodes root listings agreed.walked dirs listed sectors each)

  -- a directory is another object than the file
  file_apart : (d : Listing) → Contains listings d → is_apart d.object.sectors it.sectors ≡ true
  file_apart d at =
      let there = listed_directory (Layout.New m) listings x.sound d at in
      apart_from d.object.sectors it.sectors (λ s here other.
      let same = one_of_sector (reserved_in kind (Layout.New m)) (objects_of listings) d.object it s (all_apart kind (Layout.New m) nodes root listings agreed.walked) there.0 (among (Layout.New m) nodes listings from to r name x) here other in
      clash (is_directory_object it) (ap is_directory_object (sym same) ∙ there.1) (file m nodes owners r name p q kind root listings agreed from to x).file)

  both : AreRoom (disc_sectors (Layout.New m)) (map_sectors m.geometry) (new ++ sectors_of dirs)
  both = room_both (disc_sectors (Layout.New m)) (map_sectors m.geometry) new (sectors_of dirs) new_room.room dirs_room
      (dirs_apart new (λ d at. new_room.apart d.object (listed_directory (Layout.New m) listings x.sound d at).0))

  pub from_is : sectors_in (placed m nodes owners r name p q kind root listings agreed from to x).from.items ≡ (o (Layout.New m) nodes listings from to r name x).sectors
  from_is =
      let at = placed m nodes owners r name p q kind root listings agreed from to x in
      let node = target_of.node (Layout.New m) nodes listings x.sound x.held from r.target x.known.target in
      same_some (sectors_in at.from.items) it.sectors
      (sym (at.lies node (target_of.node_is (Layout.New m) nodes listings x.sound x.held from r.target x.known.target)) ∙ target_of.placed (Layout.New m) nodes listings x.sound x.held from r.target x.known.target)

  long_enough : length new ≤ length it.sectors
  long_enough =
      let at = placed m nodes owners r name p q kind root listings agreed from to x in
      let its = file m nodes owners r name p q kind root listings agreed from to x in
      let there = count (Layout.New m) it.entry.address (object_size (dir_form (Layout.New m)) it.entry) it.sectors (target_of.placed (Layout.New m) nodes listings x.sound x.held from r.target x.known.target) in
      let same = ap (λ (n : ℕ). div_ceil n m.geometry.sector) (bytes_is m nodes owners r name p q kind root listings agreed from to x ∙ sym its.size) in
      let cut = ap (λ (ss : List ℕ). length ss) at.sectors in
      let fits = plan_long at.plan q.prep.wants.bytes in
      omega (arith, there, same, cut, fits)
    where
      plan_long : (plan : Plan) (bytes : ℕ) → length (place_of_plan m.geometry plan bytes) ≤ div_ceil bytes m.geometry.sector
      plan_long plan bytes = let cut = length-take (div_ceil bytes m.geometry.sector) (plan_sectors m.geometry plan) in omega (arith, cut)

  its_apart : is_apart it.sectors (new ++ sectors_of dirs) ≡ true
  its_apart =
      flipped (new ++ sectors_of dirs) it.sectors
      (apart_both new (sectors_of dirs) it.sectors (flipped it.sectors new (new_room.apart it (among (Layout.New m) nodes listings from to r name x)))
      (flipped it.sectors (sectors_of dirs) (dirs_apart it.sectors file_apart)))

  -- ---- it can be written

  pub taking : IsStep m ((placed m nodes owners r name p q kind root listings agreed from to x).plan ∷ []) [] [] None p.ready.take
  taking =
      let at = placed m nodes owners r name p q kind root listings agreed from to x in
      subst (IsStep m (at.plan ∷ []) [] [] None) (sym (ready m nodes owners r name p q kind root listings agreed from to x).take) at.take

  pub giving : IsStep m [] [] [] None p.ready.give
  giving = subst (IsStep m [] [] [] None) (sym (ready m nodes owners r name p q kind root listings agreed from to x).give) (placed m nodes owners r name p q kind root listings agreed from to x).give

  pub can_write : (n : ℕ) → disc_sectors (Layout.New m) ≤ n → CanWrite n m p.ready
  can_write n most =
      let at = placed m nodes owners r name p q kind root listings agreed from to x in
      let its_place = target_of.placed (Layout.New m) nodes listings x.sound x.held from r.target x.known.target in
      let its_among = among (Layout.New m) nodes listings from to r name x in
      let mapped = map_sectors m.geometry in
      record {
        put = can_put (Layout.New m) nodes p.change.says.items q.prep.spaces (sectors_in at.from.items) new p.ready (ready m nodes owners r name p q kind root listings agreed from to x) n mapped
            (subst (λ (ss : List ℕ). All (λ k. k < n) (new ++ ss)) (sym late_is) (all_low n (new ++ sectors_of dirs) (λ s e. (let low = both.low s e in omega (arith, low, most)))))
            (subst (λ (ss : List ℕ). All (λ k. k < n) ss) (sym from_is) (all_low n it.sectors (λ s e. (let low = disc_holds m it q.is_map its_place s e in omega (arith, low, most)))))
            (subst (λ (ss : List ℕ). AreApart (new ++ ss)) (sym late_is) both.once)
            (subst (λ (ss : List ℕ). is_apart (new ++ ss) mapped ≡ true) (sym late_is) both.beside)
            (subst (λ (ss : List ℕ). is_apart (sectors_in at.from.items) (new ++ ss) ≡ true) (sym late_is)
            (subst (λ (ss : List ℕ). is_apart ss (new ++ sectors_of dirs) ≡ true) (sym from_is) its_apart))
            (subst (λ (ss : List ℕ). is_apart ss mapped ≡ true) (sym from_is)
            (apart_front it.sectors mapped (boot_place kind m.geometry.sector) (agreed_law.placed kind m nodes owners root listings agreed it its_among).1))
            (subst (λ (ss : List ℕ). length new ≤ length ss) (sym from_is) long_enough);
        take = can_take m (Some at.plan) p.ready.take taking at.own.can;
        give = λ mid done. can_give m mid (Some at.plan) [] p.ready.take p.ready.give q.is_map taking giving refl done;
      }

  -- ---- at any moment

  abbrev cmd : Command
  cmd = Command.Rename from to

  pub places : (was : List ℕ) (view : Opened) → OpensAs was kind view → view.layout ≡ Layout.New m → view.listings ≡ listings → (image : List ℕ)
      → ChangesOnly m.geometry.sector (written_place p.ready ++ map_sectors m.geometry) was image → WritesPlaces (Layout.New m) kind view (Command.Rename from to) was image
  places was view opens at listings_are image narrow = record {
    sectors = new ++ sectors_of dirs;
    only = subst (λ (ss : List ℕ). ChangesOnly m.geometry.sector (ss ++ map_sectors m.geometry) was image) (written ∙ ap (λ (ss : List ℕ). new ++ ss) late_is) narrow;
    may = places_law.both kind view m cmd new (sectors_of dirs) (places_law.holes kind was view m cmd new (record { opens = opens; layout = at }) new_free) (each dirs (λ a there. (listed a there).0) named);
  }
    where
      written : written_place p.ready ≡ new ++ flat_map place_of p.ready.late.items
      written = written_is (Layout.New m) nodes p.change.says.items q.prep.spaces (sectors_in (placed m nodes owners r name p q kind root listings agreed from to x).from.items) new p.ready
          (ready m nodes owners r name p q kind root listings agreed from to x)

      named : (a : Amended) → Contains dirs a → (holds_named cmd a.was.object.path || is_renamed_by cmd a.was.object.path) ≡ true
      named a there =
          let e = cp m nodes owners r name p q kind root listings agreed from to x in
          elim (contains_cases (to_it e.c) a (from_it e.c ∷ []) there) [
            | inl is ↦ subst (λ (b : Amended). (holds_named cmd b.was.object.path || is_renamed_by cmd b.was.object.path) ≡ true) is e.is.l_named
            | inr later ↦ subst (λ (b : Amended). (holds_named cmd b.was.object.path || is_renamed_by cmd b.was.object.path) ≡ true) (only (from_it e.c) a later) e.is.k_named
          ]

      rewritten : (a : Amended) → (holds_named cmd a.was.object.path || is_renamed_by cmd a.was.object.path) ≡ true → may_be_rewritten view cmd a.was.object.path ≡ true
      rewritten a is =
          let path = a.was.object.path in
          or_left (holds_named cmd path || is_renamed_by cmd path || has_grown view cmd path) (has_new_holder view cmd path) (or_left (holds_named cmd path || is_renamed_by cmd path) (has_grown view cmd path) is)

      each : (bs : List Amended) → ((a : Amended) → Contains bs a → Contains listings a.was) → ((a : Amended) → Contains bs a → (holds_named cmd a.was.object.path || is_renamed_by cmd a.was.object.path) ≡ true)
          → MayBeWritten kind view m cmd (sectors_of bs)
      each [] its its_name = places_law.none kind view m cmd
      each (a ∷ bs) its its_name =
          places_law.both kind view m cmd a.was.object.sectors (sectors_of bs)
          (places_law.directory kind was view m cmd a.was (record { opens = opens; layout = at }) (subst (λ (ls : List Listing). Contains ls a.was) (sym listings_are) (its a (contains_here a bs))) (rewritten a (its_name a (contains_here a bs))))
          (each bs (λ b there. its b (contains_later a b bs there)) (λ b there. its_name b (contains_later a b bs there)))
