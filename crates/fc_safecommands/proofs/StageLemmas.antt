-- What the stages of a job that needs no new object need, and the image in which all of it is written.
use Rattle.std.proofs.Common.{◌≡◌, ◌<◌, ◌^◌, append-nil, inl, ℕ, List, [], ◌++◌, find, flat_map, get_or, sym, ap, subst, ◌∙◌, arith, Option, None, is_some, IsSome}
use Rattle.std.specs.Prelude.{Contains}
use Rattle.std.specs.FinMap.{get}
use Rattle.std.specs.Option.{unwrap_or}
use Rattle.std.proofs.lemmas.List.Elements.{Contains-get_or}
use Rattle.fc_alloc.specs.declared.owner.Owner.{Owner}
use Rattle.fc_alloc.specs.Owners.{is_node}
use Rattle.fc_record.specs.declared.DiscRecord.{DiscRecord}
use Rattle.fc_newmap.specs.Map.{Map, map_sectors}
use Rattle.fc_image.specs.Layout.{Layout}
use Rattle.fc_image.specs.Stays.{IsNewKind, OpensAs}
use Rattle.fc_plan.specs.declared.plan.Plan.{Plan}
use Rattle.fc_plan.specs.Parts.{front_at}
use Rattle.fc_tree.proofs.MemberLemmas.{in_map}
use Rattle.fc_laws.specs.nodes.Edits.{Nodes}
use Rattle.fc_edits.proofs.lemmas.ShapeLemmas.{only}
use Rattle.fc_writing.specs.declared.ready.Ready.{Ready}
use Rattle.fc_writing.specs.Content.{Content, HasContent, IsPart}
use Rattle.fc_writing.specs.New.{IsChanged, IsTaken}
use Rattle.fc_writing.specs.Ready.{content_of, early_content, written_place}
use Rattle.fc_writing.proofs.CopyLemmas.{chooses_first}
use Rattle.fc_change.specs.declared.change.Change.{Change}
use Rattle.fc_change.specs.declared.change.Says.{Says}
use Rattle.fc_change.specs.declared.job.Growth.{Growth}
use Rattle.fc_change.specs.declared.spaces.Spaces.{Spaces}
use Rattle.fc_change.specs.Prepared.{HasPlace}
use Rattle.fc_commands.proofs.NodeLemmas.{each_at}
use Rattle.fc_safe.specs.FirstSpace.{ArePlacedFirst, CanPlaceFirst, LiesInZones}
use Rattle.fc_safe.specs.FirstNeeds.{longer_of}
use Rattle.fc_safe.specs.Moving.{IsPlacedOwner}
use Rattle.fc_safecrash.specs.Crash.{IsOneStep, IsThere}
use Rattle.fc_safeedits.specs.SafeChange.{IsWholeMap, MovedParts, SafeChange}
use Rattle.fc_safeedits.specs.SafeSpace.{SafeSpaceLaw}
use Rattle.fc_safeedits.specs.SafeWriting.{SafeWritingLaw}
use Rattle.fc_safecommands.specs.Anew.{CanWriteAnew, IsReadyAnew, plans_in}
use Rattle.fc_safecommands.specs.Laws.{MappedBy, mapped}
use Rattle.fc_safecommands.proofs.ChangeLemmas as change_of
use Rattle.fc_safecommands.proofs.PlainLemmas.{PlainJob, h, own_found, owner_object, placed_owner, sound, y}
use Rattle.fc_safecommands.proofs.SpaceLemmas as space_of
use Rattle.fc_safecommands.proofs.WrittenLemmas as written

module _ (x : PlainJob) where
  -- ---- before anything is written

  -- each owner's object has a place
  pub placed_at : (o : Owner) → Contains x.owners o → HasPlace (h x) o.node
  placed_at o at =
      let p = owner_object x o at in
      let has = x.agreed.walked.held.each p.0 p.1 in
      let number : o.node ≡ has.number = ap (λ (w : Owner). w.node) (sym p.3) ∙ ap (λ (k : Option ℕ). unwrap_or k 0) has.at_path in
      record { node = _; there = ap (get x.nodes) number ∙ has.is; placed = ap is_some (each_at (y x) x.listings (sound x) p.0 p.1) }

  pub can_place : x.wants.copied ≡ None → CanPlaceFirst x.m (h x) x.job x.wants
  can_place no_copy = record {
    few = subst (λ (n : ℕ). n < 2 ^ 32) (sym x.no_bytes) (omega arith);
    grows = λ g e. absurd (let none = sym x.still ∙ e in cc);
    copied = λ n some. absurd (let no = sym no_copy ∙ some in cc);
    placed = λ o at. subst (λ (growth : Option Growth). IsPlacedOwner x.m.geometry (longer_of x.m.geometry growth) o) (sym x.still) (placed_owner x o at);
  }

  pub can_write_anew : (c : Change) → written.TellsOne x c → CanWriteAnew (h x) c
  can_write_anew c tells = record {
    told = λ s at.
        subst (λ (n : ℕ). IsSome (find (is_node n) x.owners)) (sym tells.node ∙ ap (λ (said : Says). said.node) (only tells.said s (subst (λ (ss : List Says). Contains ss s) tells.says at)))
        (ap is_some (own_found x));
    placed = placed_at;
  }

  pub zones : (s : Spaces) (placed : ArePlacedFirst x.m (h x) x.job x.wants s) (p : Plan) → Contains (plans_in s.take) p → LiesInZones x.m p
  zones s placed p at =
      let is : plans_in s.take ≡ placed.plans = ap plans_in (space_of.step x s placed).1 ∙ (space_of.step x s placed).2.plans_are in
      let same = only (space_of.one x s placed).0 p (subst (λ (ps : List Plan). Contains ps p) (is ∙ (space_of.one x s placed).1) at) in
      let q = (space_of.one x s placed).0 in
      subst (LiesInZones x.m) same
      (λ k d low. (space_of.placeable x s placed).zones (front_at (get_or q.parts.items k d)) (in_map front_at q.parts.items (get_or q.parts.items k d) (Contains-get_or q.parts.items k d low)))

  -- ---- the image after it

  module _ (disc : DiscRecord) (image : List ℕ) (new_kind : IsNewKind x.kind disc) (opens : OpensAs image x.kind (record { kind = x.kind; layout = Layout.New x.m; listings = x.listings })) where
    abbrev pub by : MappedBy x.m
    by = record { kind = x.kind; r = disc; listings = x.listings; image = image; new_kind = new_kind; opens = opens }

    -- A change that is whole has all of it there.
    pub there_of : (r : Ready) (bytes image' : List ℕ) (m' : Map) → IsOneStep r → IsChanged x.m m' r bytes image image' → IsThere (mapped x.m by) r bytes m' image'
    there_of r bytes image' m' one changed =
        let size = x.m.geometry.sector in
        let early = early_content size image bytes r in
        let none : flat_map (content_of size) r.late.items ≡ [] = ap (flat_map (content_of size)) one.none_late in
        record {
          written = subst (λ (c : Content). HasContent size c image') (ap (λ (c : Content). early ++ c) none ∙ append-nil early) changed.written;
          sectors = subst (λ (c : Content). IsPart size (map_sectors x.m.geometry) (early ++ c) image image') none changed.others;
          map = chooses_first x.m.geometry m'.zones image' changed.copies;
        }

    module _ (s : Spaces) (placed : ArePlacedFirst x.m (h x) x.job x.wants s) (c : Change) (tells : written.TellsOne x c) (r : Ready) (is : IsReadyAnew x.m (h x) x.wants c s r) (m' : Map) (taken : IsTaken x.m r m')
        (space : SafeSpaceLaw) (writing : SafeWritingLaw) (nodes' : Nodes) (owners' : List Owner) (bytes image' : List ℕ) (there : IsThere (mapped x.m by) r bytes m' image') where
      abbrev pub moved : MovedParts
      moved = change_of.moved x s placed c tells r is m' taken space nodes' owners'

      abbrev pub changed_image : SafeChange
      changed_image = record {
        parts = moved;
        r = disc;
        image = image;
        image' = image';
        written = written_place r;
        new_kind = new_kind;
        opens = opens;
        changes = writing.changes (mapped x.m by) r bytes m' image' there;
        free = λ u e. inl (written.written_free x s placed c tells r is u e);
        chosen = there.map;
      }

      pub whole : IsChanged x.m m' r bytes image image' → IsWholeMap changed_image
      whole changed =
          let edited = change_of.edited x s placed c tells r is m' taken in
          record { copies = changed.copies; zones = edited.zones; links = edited.links }
