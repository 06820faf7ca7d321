-- Where a directory grows in the safe mode, the record of the map: it stays, or has the root's new place, which it can have.
use Rattle.std.proofs.Common.{◌≡◌, ◌<◌, ◌≤◌, ◌+◌, ◌/◌, ◌^◌, ◌==◌, ◌⊎◌, inl, inr, ⊎_elim, ℕ, Bool, true, false, cond, List, [], ◌∷◌, length, refl, sym, ap, ap₂, subst, ◌∙◌, arith, eq-eqb, Option, Some, None}
use Rattle.std.specs.Prelude.{Contains, IfSome, nat_le, nat_lt, ◌&&◌}
use Rattle.std.proofs.lemmas.Bool.{eqb-true, le-leb, lt-ltb, ne_eqb}
use Rattle.fc_alloc.specs.declared.owner.Owner.{Owner}
use Rattle.fc_names.specs.Names.{Path}
use Rattle.fc_names.specs.declared.name.NameForm.{NameForm}
use Rattle.fc_names.specs.declared.name.NameForm.TheVariants as forms
use Rattle.fc_record.specs.declared.DiscRecord.{DiscRecord}
use Rattle.fc_record.specs.Kinds.{map_record}
use Rattle.fc_record.specs.Record.{id_limit}
use Rattle.fc_bytes.specs.Checks.{is_big_size}
use Rattle.fc_newmap.specs.Map.{Map, sector_of}
use Rattle.fc_image.specs.Layout.{Layout, dir_form, id_of, is_object_id}
use Rattle.fc_image.specs.Objects.{objects_of}
use Rattle.fc_image.specs.Opening.{Opened}
use Rattle.fc_image.specs.Stays.{IsNewKind, OpensAs}
use Rattle.fc_image.specs.Walk.{Object}
use Rattle.fc_image.specs.effects.Steady.{KeepsOrWritesLinks, ZoneSteady}
use Rattle.fc_changes.specs.Owed.{IsBefore}
use Rattle.fc_changes.proofs.BasicLemmas.{clash}
use Rattle.fc_laws.specs.nodes.Edits.{Nodes}
use Rattle.fc_laws.proofs.lemmas.nodes.FitsLemmas.{kid_lower}
use Rattle.fc_laws.proofs.lemmas.nodes.MovingLemmas.{some_long}
use Rattle.fc_edits.specs.Growing.{Growing}
use Rattle.fc_newmap.specs.Copies.{Chooses, HoldsCopies}
use Rattle.fc_outcomes.specs.Growth.{GrowsRoot, MapGrows}
use Rattle.fc_outcomes.specs.NewImage.{rooted_zone}
use Rattle.fc_changes.specs.Space.{IsMapEdited}
use Rattle.fc_tree.specs.Nodes.{number_of}
use Rattle.fc_tree.proofs.SoundLemmas.{root_or_child}
use Rattle.fc_tree.proofs.WalkedLemmas.{root_path, same_some}
use Rattle.fc_writing.specs.declared.ready.Ready.{Ready}
use Rattle.fc_writing.specs.declared.ready.RootPlace.{RootPlace}
use Rattle.fc_writing.specs.New.{IsChanged, IsTaken}
use Rattle.fc_writing.specs.Steps.{CanRoot, rooted_map}
use Rattle.fc_change.specs.declared.change.Change.{Change}
use Rattle.fc_change.specs.declared.change.Regrowth.{Regrowth}
use Rattle.fc_change.specs.declared.spaces.GrownPlace.{GrownPlace}
use Rattle.fc_change.specs.declared.spaces.Spaces.{Spaces}
use Rattle.fc_change.specs.GrownSpace.{root_of}
use Rattle.fc_commands.proofs.GrownMapLemmas.{IsStepOf, grows_root, map_grows}
use Rattle.fc_commands.proofs.GrownRootLemmas.{address_fits, can_root, version_of}
use Rattle.fc_holdings.specs.Holdings.{TellsVersion}
use Rattle.fc_safe.specs.FirstSpace.{ArePlacedFirst}
use Rattle.fc_safecrash.specs.Crash.{IsThere}
use Rattle.fc_safeedits.specs.SafeSpace.{SafeSpaceLaw}
use Rattle.fc_safeedits.specs.SafeWriting.{SafeWritingLaw}
use Rattle.fc_safeedits.specs.SafeGrowth.{IsRecorded, IsWholeGrown, zone_with}
use Rattle.fc_safecommands.specs.Anew.{IsReadyAnew}
use Rattle.fc_safecommands.specs.Laws.{MappedBy, mapped}
use Rattle.fc_record.specs.declared.Geometry.{Geometry}
use Rattle.fc_safecommands.proofs.GrownImageLemmas.{by, changed_image, edited, geometry}
use Rattle.fc_safecommands.proofs.GrownPutLemmas.{IsPutThere, LiesBeside}
use Rattle.fc_safecommands.proofs.GrownSpaceLemmas.{plan_bounds}
use Rattle.fc_safecommands.proofs.GrownStepLemmas.{grown_at}
use Rattle.fc_safecommands.proofs.GrownStirLemmas.{GrowingJob, h, sound, short, y}
use Rattle.fc_safecommands.proofs.GrownWrittenLemmas.{TellsThese}
use Rattle.fc_safecommands.proofs.BothCopiesLemmas.{both_copies, chosen_sound}

module _ (x : GrowingJob) (s : Spaces) (placed : ArePlacedFirst x.m (h x) x.job x.wants s) where
  abbrev place : GrownPlace
  place = (grown_at x s placed).0

  -- It is the directory that grows, with its new place.
  pub record IsItsGrowing (g : Growing) : Type 0 where
    pub there : Contains (objects_of x.listings) g.o
    pub number : number_of x.nodes g.o.path ≡ Some x.growth.node
    pub address : g.address ≡ (grown_at x s placed).0.directory.address
    pub len : g.len ≡ (grown_at x s placed).0.directory.len

  -- ---- its place

  len_is : place.directory.len ≡ x.growth.len
  len_is = ap (λ (r : Regrowth). r.len) (grown_at x s placed).2.directory

  node_is : place.directory.node ≡ x.growth.node
  node_is = ap (λ (r : Regrowth). r.node) (grown_at x s placed).2.directory

  form : dir_form (Layout.New x.m) ≡ forms.Long
  form = ap (λ (b : Bool). let f : NameForm = cond b forms.Ten forms.Long in f) x.suits.0

  fits : (2 ≤ place.directory.address / 256) × (place.directory.address < 2 ^ 32)
  fits =
      let bound = plan_bounds x s placed (grown_at x s placed).2.plan (grown_at x s placed).2.among in
      address_fits x.m place.directory.address x.agreed.is_map
      (subst (λ (k : ℕ). is_object_id x.m k ≡ true) (grown_at x s placed).2.id
      (ap₂ (λ (a b : Bool). a && b) (le-leb 2 (grown_at x s placed).2.plan.id bound.0) (lt-ltb (grown_at x s placed).2.plan.id (id_limit x.m.geometry) bound.1)))

  abbrev as_root : RootPlace
  as_root = record { address = place.directory.address; len = place.directory.len }

  can : TellsVersion (Layout.New x.m) → CanRoot x.m as_root
  can tells = can_root x.m as_root (version_of x.m tells form) fits.0 (subst (λ (n : ℕ). is_big_size n ≡ true) (sym len_is) x.big)

  root_is : root_of s.grown ≡ cond (place.directory.node == 0) (Some as_root) None
  root_is = ap root_of (grown_at x s placed).1

  -- The record can have the root's new place.
  pub rooted : TellsVersion (Layout.New x.m) → IfSome (root_of s.grown) (CanRoot x.m)
  rooted tells = subst (λ (o : Option RootPlace). IfSome o (CanRoot x.m)) (sym root_is) (by_root (place.directory.node == 0))
    where
      by_root : (b : Bool) → IfSome (cond b (Some as_root) None) (CanRoot x.m)
      by_root true = can tells
      by_root false = tt

  -- ---- which of the two

  -- node 0 is the root's
  at_top : (o : Object) → Contains (objects_of x.listings) o → number_of x.nodes o.path ≡ Some 0 → o.path ≡ []
  at_top o at zero' =
      ⊎_elim (λ top. ap (λ (p : Object). p.path) (sym top) ∙ root_path (y x) x.listings (sound x))
      (λ kid. absurd (kid_lower (y x) x.listings x.nodes (sound x) x.agreed.walked.held kid.0 o 0 kid.1 kid.2 zero' refl)) (root_or_child (y x) x.listings (sound x) o at)

  step_of : TellsVersion (Layout.New x.m) → (g : Growing) → IsItsGrowing g → IsStepOf x.m g (root_of s.grown)
  step_of tells g is = subst (IsStepOf x.m g) (sym root_is) (by_root (place.directory.node == 0) refl)
    where
      by_root : (b : Bool) → (place.directory.node == 0) ≡ b → IsStepOf x.m g (cond b (Some as_root) None)
      by_root true e = record {
        top = at_top g.o is.there (is.number ∙ ap (λ (n : ℕ). let o : Option ℕ = Some n in o) (sym node_is ∙ eqb-true place.directory.node 0 e));
        address = is.address;
        len = is.len;
        low = fits.1;
        short = (let low = short x in let same = len_is in omega (arith, low, same));
        can = can tells;
      }
      by_root false e = some_long g.o.path (λ top. clash (place.directory.node == 0) (eq-eqb place.directory.node 0 (node_is ∙ same_some x.growth.node 0 (sym is.number ∙ ap (number_of x.nodes) top))) e)

  -- ---- the record then

  module _ (disc : DiscRecord) (image : List ℕ) (new_kind : IsNewKind x.kind disc) (opens : OpensAs image x.kind (record { kind = x.kind; layout = Layout.New x.m; listings = x.listings })) where
    abbrev v : Opened
    v = record { kind = x.kind; layout = Layout.New x.m; listings = x.listings }

    before : IsBefore x.kind disc image v x.m
    before = record { new_kind = new_kind; opens = opens; layout = refl; is_map = x.agreed.is_map }

    -- It stays, or has the root's new place.
    abbrev IsRecordThen : Map → Growing → Type 0
    IsRecordThen m' g = ((0 < length g.o.path) × (map_record (sector_of m' 0) ≡ map_record (sector_of x.m 0))) ⊎ ((whole : List ℕ) × GrowsRoot x.m m' g disc whole)

    record_then : (m' : Map) (g : Growing) (root : Option RootPlace) → IsStepOf x.m g root → IsMapEdited (rooted_map root x.m) m' → (whole : List ℕ) × HoldsCopies x.m.geometry m'.zones whole → IsRecordThen m' g
    record_then m' g None below done copies = inl (below, done.record_stays)
    record_then m' g (Some p) st done copies =
        inr (copies.0, grows_root x.m x.agreed.is_map p m' copies.0 done copies.1 x.kind disc image v g before st.top st.address st.len st.low st.short st.can)

    module _ (c : Change) (tells : TellsThese x c) (r : Ready) (is : IsReadyAnew x.m (h x) x.wants c s r) (own : List ℕ) (lies : LiesBeside x s placed own) (put : IsPutThere x own r is.early.made) (can_be : IfSome (root_of s.grown) (CanRoot x.m))
        (m' : Map) (taken : IsTaken x.m r m') (space : SafeSpaceLaw) (writing : SafeWritingLaw) (nodes' : Nodes) (owners' : List Owner) (bytes image' : List ℕ)
        (there : IsThere (mapped x.m (by x disc image new_kind opens)) r bytes m' image') (version : TellsVersion (Layout.New x.m)) (g : Growing) (it : IsItsGrowing g) where
      -- An image has both copies of the new map, since one of them counts.
      copies : (whole : List ℕ) × HoldsCopies x.m.geometry m'.zones whole
      copies =
          let same = geometry x s placed c tells r is m' taken in
          let both = both_copies m' (edited x s placed c tells r is m' taken).is_map (chosen_sound x.m.geometry m'.zones image' there.map) in
          (both.0, subst (λ (k : Geometry). HoldsCopies k m'.zones both.0) same both.1)

      pub recorded : IsRecorded (changed_image x disc image new_kind opens s placed c tells r is own lies put can_be m' taken space writing nodes' owners' bytes image' there) g
      recorded = elim (record_then m' g (root_of s.grown) (step_of version g it) (edited x s placed c tells r is m' taken) copies) [
        | inl stays ↦ inl (record { below = stays.0; record_stays = stays.1 })
        | inr turns ↦ inr (record { at_top = turns.1.at_top; own = turns.1.own; agreed = turns.1.agreed; address = turns.1.address; len = turns.1.len })
      ]

      -- Once all is written, both copies are the new map.
      pub whole : IsChanged x.m m' r bytes image image' → IsWholeGrown (changed_image x disc image new_kind opens s placed c tells r is own lies put can_be m' taken space writing nodes' owners' bytes image' there) g
      whole changed =
          elim
          (map_grows x.m m' g (root_of s.grown) x.kind disc image image' v before (edited x s placed c tells r is m' taken) (step_of version g it) changed.copies) [
            | inl below ↦ record {
              copies = below.after.copies;
              zones = λ z low. subst (λ (b : Bool). ZoneSteady x.m.geometry z (cond b (rooted_zone x.m g.address g.len z) (sector_of x.m z)) (sector_of m' z)) (sym (not_empty g.o.path below.below)) (below.after.zones z low);
              links = below.after.links;
            }
            | inr top ↦ record {
              copies = top.after.copies;
              zones = λ z low. subst (λ (p : Path). ZoneSteady x.m.geometry z (cond (length p == 0) (rooted_zone x.m g.address g.len z) (sector_of x.m z)) (sector_of m' z)) (sym top.at_top) (top.after.zones z low);
              links = top.after.links;
            }
          ]
        where
          not_empty : (p : Path) → 0 < length p → (length p == 0) ≡ false
          not_empty p low = ne_eqb (length p) 0 (λ e. omega (arith, low, e))
