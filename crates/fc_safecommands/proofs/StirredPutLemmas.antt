-- All that is written for a job by which no directory grows, a new object included, can be written.
use Rattle.std.proofs.Common.{◌≡◌, ◌<◌, ◌≤◌, ◌⊎◌, inl, inr, ℕ, true, List, [], ◌∷◌, ◌++◌, append-nil, append_assoc, get_or, flat_map, length, sym, ap, ap₂, subst, ◌∙◌, arith}
use Rattle.std.specs.Prelude.{Contains, Ok, Err}
use Rattle.std.proofs.lemmas.List.Elements.{Contains-get_or}
use Rattle.fc_newmap.specs.Map.{map_sectors}
use Rattle.fc_newmap.proofs.CoverLemmas.{Distinct, Distinct-append}
use Rattle.fc_newmap.proofs.PlaceLemmas.{in_either, in_front}
use Rattle.fc_image.specs.Layout.{Layout, disc_sectors, hole_sectors, is_among, is_apart}
use Rattle.fc_image.specs.Objects.{objects_of}
use Rattle.fc_image.specs.Opening.{boot_place, reserved_in}
use Rattle.fc_image.specs.Walk.{Object}
use Rattle.fc_image.proofs.HolesLemmas.{apart_at, apart_from, holes_loose, loose_sectors, none_loose}
use Rattle.fc_image.proofs.ShuffleLemmas.{flat_map-append}
use Rattle.fc_laws.proofs.lemmas.agree.BeforeLemmas.{no_hole, object_lies, on_disc, tight}
use Rattle.fc_laws.proofs.lemmas.takeover.WriteLemmas.{apart_of}
use Rattle.fc_writing.specs.declared.ready.MapStep.TheVariants as steps
use Rattle.fc_writing.specs.declared.ready.Piece.{Piece}
use Rattle.fc_writing.specs.declared.ready.Ready.{Ready}
use Rattle.fc_writing.specs.New.{CanWrite}
use Rattle.fc_writing.specs.Ready.{CanPut, IsSourceEnough, copied_place, from_of, place_of, source_from, source_place, to_of, written_place}
use Rattle.fc_writing.specs.Steps.{CanStep, is_wide}
use Rattle.fc_change.specs.declared.change.Change.{Change}
use Rattle.fc_change.specs.declared.spaces.Spaces.{Spaces}
use Rattle.fc_commands.proofs.NewPlaceLemmas.{hole_on_disc}
use Rattle.fc_commands.proofs.PieceLemmas.{all_low}
use Rattle.fc_commands.proofs.TwoPieceLemmas.{AreRoom}
use Rattle.fc_safe.specs.FirstSpace.{ArePlacedFirst}
use Rattle.fc_safecrash.specs.Crash.{IsOneStep}
use Rattle.fc_safelaws.specs.Free.{IsFreeSector}
use Rattle.fc_safecommands.specs.Anew.{IsReadyAnew}
use Rattle.fc_safecommands.proofs.ApartLemmas.{distinct_of, few_taken}
use Rattle.fc_safecommands.proofs.StirredLaidLemmas.{IsStaying, laid, laid_free, laid_is}
use Rattle.fc_safecommands.proofs.StirredLemmas.{StirredJob, h, y}
use Rattle.fc_safecommands.proofs.StirredStepLemmas.{can_edit, narrow, step}
use Rattle.fc_safecommands.proofs.StirredWrittenLemmas.{TellsThese, anew, anew_at, anew_once, copies}
use Rattle.fc_safecommands.proofs.WrittenLemmas.{among_flat}

-- ---- the sectors of a new object

-- Nothing lies there, and nothing that stays in an identifier that moves comes there; an object may have them.
pub record LiesBeside (x : StirredJob) (s : Spaces) (placed : ArePlacedFirst x.m (h x) x.job x.wants s) (own : List ℕ) : Type 0 where
  pub free : (u : ℕ) → is_among own u ≡ true → IsFreeSector x.m (objects_of x.listings) u
  pub room : AreRoom (disc_sectors (Layout.New x.m)) (map_sectors x.m.geometry) own
  pub apart : (p : Object) → Contains (objects_of x.listings) p → is_apart p.sectors own ≡ true
  pub beside : (p : Object) → IsStaying x p → (u : ℕ) → is_among own u ≡ true → is_among (laid x s placed p) u ≡ true → ⊥

-- Its bytes are given, or copied from an object, or it is a directory.
pub record IsPutThere (x : StirredJob) (own : List ℕ) (r : Ready) (made : List Piece) : Type 0 where
  pub from : (u : ℕ) → is_among (source_from r.source) u ≡ true → (p : Object) × Contains (objects_of x.listings) p × (is_among p.sectors u ≡ true)
  pub enough : IsSourceEnough r.source
  pub place : ((source_place r.source ≡ own) × (flat_map place_of made ≡ [])) ⊎ ((source_place r.source ≡ []) × (flat_map place_of made ≡ own))

module _ (x : StirredJob) (s : Spaces) (placed : ArePlacedFirst x.m (h x) x.job x.wants s) (c : Change) (tells : TellsThese x c) (r : Ready) (is : IsReadyAnew x.m (h x) x.wants c s r) (own : List ℕ) (lies : LiesBeside x s placed own)
    (put : IsPutThere x own r is.early.made) where
  abbrev rest : List ℕ
  rest = anew x s placed c tells r is

  -- ---- all that is written

  written_is : written_place r ≡ source_place r.source ++ (rest ++ flat_map place_of is.early.made)
  written_is =
      ap₂ (λ (ps ls : List Piece). (source_place r.source ++ (flat_map to_of r.carried.items ++ flat_map place_of ps)) ++ flat_map place_of ls) is.early.all is.no_late
      ∙ append-nil (source_place r.source ++ (flat_map to_of r.carried.items ++ flat_map place_of (is.early.told ++ is.early.made)))
      ∙ ap (λ (ss : List ℕ). source_place r.source ++ (flat_map to_of r.carried.items ++ ss)) (flat_map-append place_of is.early.told is.early.made)
      ∙ ap (λ (ss : List ℕ). source_place r.source ++ ss) (sym (append_assoc (flat_map to_of r.carried.items) (flat_map place_of is.early.told) (flat_map place_of is.early.made)))

  -- the object's come first, or last
  either : (written_place r ≡ own ++ rest) ⊎ (written_place r ≡ rest ++ own)
  either = elim put.place [
    | inl file ↦ inl (written_is ∙ ap₂ (λ (a b : List ℕ). a ++ (rest ++ b)) file.0 file.1 ∙ ap (λ (ss : List ℕ). own ++ ss) (append-nil rest))
    | inr dir ↦ inr (written_is ∙ ap₂ (λ (a b : List ℕ). a ++ (rest ++ b)) dir.0 dir.1)
  ]

  pub written_at : (u : ℕ) → is_among (written_place r) u ≡ true → (is_among own u ≡ true) ⊎ ((p : Object) × IsStaying x p × (is_among (laid x s placed p) u ≡ true))
  written_at u e = elim either [
    | inl file ↦ (elim (in_either own rest u (subst (λ (ss : List ℕ). is_among ss u ≡ true) file e)) [
      | Ok i ↦ inl i
      | Err j ↦ inr (anew_at x s placed c tells r is u j)
    ])
    | inr dir ↦ (elim (in_either rest own u (subst (λ (ss : List ℕ). is_among ss u ≡ true) dir e)) [
      | Ok i ↦ inr (anew_at x s placed c tells r is u i)
      | Err j ↦ inl j
    ])
  ]

  -- Nothing lies in it.
  pub written_free : (u : ℕ) → is_among (written_place r) u ≡ true → IsFreeSector x.m (objects_of x.listings) u
  written_free u e = elim (written_at u e) [
    | inl i ↦ lies.free u i
    | inr p ↦ inl (laid_free x s placed p.0 p.1 u p.2)
  ]

  written_once : Distinct (written_place r)
  written_once = elim either [
    | inl file ↦ subst Distinct (sym file) (Distinct-append own rest own_once (anew_once x s placed c tells r is) (λ u i j. apart u i j))
    | inr dir ↦ subst Distinct (sym dir) (Distinct-append rest own (anew_once x s placed c tells r is) own_once (λ u j i. apart u i j))
  ]
    where
      own_once : Distinct own
      own_once = distinct_of own lies.room.once

      apart : (u : ℕ) → is_among own u ≡ true → is_among rest u ≡ true → ⊥
      apart u i j = let p = anew_at x s placed c tells r is u j in lies.beside p.0 p.1 u i p.2

  -- ---- what is copied

  copied_at : (u : ℕ) → is_among (copied_place r) u ≡ true → (p : Object) × Contains (objects_of x.listings) p × (is_among p.sectors u ≡ true)
  copied_at u e = elim (in_either (source_from r.source) (flat_map from_of r.carried.items) u e) [
    | Ok i ↦ put.from u i
    | Err j ↦
        (let t = among_flat from_of r.carried.items u j in
        let p = copies x s placed c tells r is t.0 t.1 in
        (p.0, p.1, subst (λ (ss : List ℕ). is_among ss u ≡ true) p.3 t.2))
  ]

  -- ---- it can be written

  on_the_disc : (u : ℕ) → is_among (written_place r) u ≡ true → u < disc_sectors (Layout.New x.m)
  on_the_disc u e = elim (written_at u e) [
    | inl i ↦ lies.room.low u i
    | inr p ↦ hole_on_disc x.m x.agreed.is_map u (laid_free x s placed p.0 p.1 u p.2)
  ]

  off_the_map : (u : ℕ) → is_among (written_place r) u ≡ true → is_among (map_sectors x.m.geometry) u ≡ true → ⊥
  off_the_map u e f = elim (written_at u e) [
    | inl i ↦ (let no = apart_at own (map_sectors x.m.geometry) u lies.room.beside i in cc)
    | inr p ↦
        (let loose = holes_loose x.m (objects_of x.listings) u (laid_free x s placed p.0 p.1 u p.2) in
        let no = none_loose (loose_sectors x.m (objects_of x.listings)) (reserved_in x.kind (y x)) (tight x.kind x.m x.nodes x.owners x.root x.listings x.agreed) u (in_front (map_sectors x.m.geometry) (boot_place x.kind x.m.geometry.sector) u f) in cc)
  ]

  off_objects : (u : ℕ) → is_among (written_place r) u ≡ true → (p : Object) → Contains (objects_of x.listings) p → is_among p.sectors u ≡ true → ⊥
  off_objects u e p at f = elim (written_at u e) [
    | inl i ↦ (let no = apart_at p.sectors own u (lies.apart p at) f in cc)
    | inr q ↦
        (let no = apart_at p.sectors (hole_sectors (Layout.New x.m)) u (no_hole x.kind x.m x.nodes x.owners x.root x.listings x.agreed p at) f in
        let has = laid_free x s placed q.0 q.1 u q.2 in cc)
  ]

  pub can_put : (n : ℕ) → disc_sectors (Layout.New x.m) ≤ n → CanPut n (map_sectors x.m.geometry) r
  can_put n room = record {
    on_disk = all_low n (written_place r) (λ u e. (let low = on_the_disc u e in omega (arith, low, room)));
    from_disk = all_low n (copied_place r) (λ u e. (let p = copied_at u e in let low = on_disc x.kind x.m x.nodes x.owners x.root x.listings x.agreed p.0 p.1 u p.2 in omega (arith, low, room)));
    once = apart_of (written_place r) written_once;
    beside = apart_from (written_place r) (map_sectors x.m.geometry) (λ u e f. off_the_map u e f);
    others = apart_from (copied_place r) (written_place r) (λ u e f. (let p = copied_at u e in off_objects u f p.0 p.1 p.2));
    unmapped = apart_from (copied_place r) (map_sectors x.m.geometry) (λ u e f.
        (let p = copied_at u e in
        let no = apart_at p.0.sectors (reserved_in x.kind (y x)) u (object_lies x.kind x.m x.nodes x.owners x.root x.listings x.agreed p.0 p.1).apart p.2 in
        let has = in_front (map_sectors x.m.geometry) (boot_place x.kind x.m.geometry.sector) u f in cc));
    source_enough = put.enough;
    enough = λ k e less.
        (let t = get_or r.carried.items k e in
        let p = copies x s placed c tells r is t (Contains-get_or r.carried.items k e less) in
        subst (λ (us : List ℕ). length (to_of t) ≤ length us) (sym p.3) (subst (λ (us : List ℕ). length us ≤ length p.0.sectors) (sym p.4) (short p.0 p.2)));
  }
    where
      short : (p : Object) → IsStaying x p → length (laid x s placed p) ≤ length p.sectors
      short p st = subst (λ (us : List ℕ). length us ≤ length p.sectors) (sym (laid_is x s placed p st)) (few_taken (length p.sectors) _)

  step_is : r.take ≡ steps.New (step x s placed).0
  step_is = is.take ∙ (step x s placed).1

  pub can_write : (n : ℕ) → disc_sectors (Layout.New x.m) ≤ n → CanWrite n x.m r
  can_write n room = record {
    put = can_put n room;
    take = subst (CanStep x.m) (sym step_is) (can_edit x s placed);
    give = λ mid done. subst (CanStep mid) (sym is.no_give) tt;
  }

  pub one_step : IsOneStep r
  one_step = record { none_late = is.no_late; none_back = is.no_give; narrow = ap is_wide step_is ∙ narrow x s placed }
