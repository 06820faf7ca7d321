-- Where what stays in an identifier that moves comes to lie, if a directory grows, and where that one does: each in a stretch of its plan.
use Rattle.std.proofs.Common.{◌≡◌, ◌<◌, ◌≤◌, ◌++◌, ◌+◌, ◌*◌, ◌/◌, ◌==◌, ◌&&◌, ◌||◌, ⊎_elim, inl, inr, ℕ, zero, suc, Bool, true, false, cond, not, List, [], ◌∷◌, length, take, drop, refl, sym, ap, ap₂, subst, ◌∙◌, arith, eq-eqb, Option, Some, None}
use Rattle.std.specs.Prelude.{Contains, is_some, nat_le}
use Rattle.std.specs.Int.{div_ceil}
use Rattle.std.specs.List.{list_all, list_any}
use Rattle.std.specs.Option.{option_map_or}
use Rattle.std.proofs.lemmas.Bool.{and_parts, cases_eq, eqb-true, leb-true, or_cases}
use Rattle.fc_alloc.specs.declared.owner.Owner.{Owner}
use Rattle.fc_record.specs.Record.{id_limit}
use Rattle.fc_newmap.specs.Map.{Map, is_used}
use Rattle.fc_image.specs.Layout.{Layout, hole_sectors, id_of, id_sectors, is_among, low_of, low_start, new_sectors}
use Rattle.fc_image.specs.Objects.{has_sectors, objects_of}
use Rattle.fc_image.specs.Walk.{Object}
use Rattle.fc_image.specs.effects.Sharing.{new_ids}
use Rattle.fc_plan.specs.declared.plan.Plan.{Plan}
use Rattle.fc_plan.specs.Giving.{is_one_of}
use Rattle.fc_placing.specs.Leaving.{has_other}
use Rattle.fc_tree.specs.Counts.{address_in}
use Rattle.fc_tree.specs.Parts.{owner_of}
use Rattle.fc_tree.proofs.WalkedLemmas.{same_some}
use Rattle.fc_objects.specs.Extents.{sectors_in}
use Rattle.fc_change.specs.declared.change.Regrowth.{Regrowth}
use Rattle.fc_change.specs.declared.job.Growth.{Growth}
use Rattle.fc_change.specs.declared.spaces.GrownPlace.{GrownPlace}
use Rattle.fc_change.specs.declared.spaces.Spaces.{Spaces}
use Rattle.fc_change.specs.GrownSpace.{has_room, is_alone, plan_sectors}
use Rattle.fc_change.specs.Shortage.{leaves_free_for, others_leave_free}
use Rattle.fc_safe.specs.FirstNeeds.{longer_of, moving_out, stir_of}
use Rattle.fc_safe.specs.FirstSpace.{ArePlacedFirst, IsFirstGrown, IsLastIf, address_then}
use Rattle.fc_safe.specs.Staying.{remains, sectors_then}
use Rattle.fc_safe.proofs.ListLemmas.{any_of}
use Rattle.fc_safelaws.proofs.PlaceLemmas.{HasPlace, has_place}
use Rattle.fc_safecommands.specs.Anew.{laid_by, plan_for}
use Rattle.fc_safecommands.proofs.LaidLemmas.{place_stretch}
use Rattle.fc_safecommands.proofs.PlainLemmas.{LiesIn}
use Rattle.fc_safecommands.proofs.GrownStirLemmas.{GrowingJob, IsChanged, end, grown_some, h, leaving, lies_in, long, longer, moves, owner_in, sector_end, short, whole, y}
use Rattle.fc_safecommands.proofs.GrownSpaceLemmas.{IsPlanOf, can, once, out_fits, out_is, out_new, plan_at}
use Rattle.fc_safecommands.proofs.GrownStepLemmas.{grown_at}
use Rattle.fc_safecommands.proofs.StretchLemmas.{IsStretch, one_plan, stretch_apart, stretch_distinct, stretch_free}

module _ (x : GrowingJob) where
  -- as many sectors of an identifier as it then needs
  abbrev pub count : ℕ → ℕ
  count k = div_ceil (end x k) x.m.geometry.sector

  -- The object's is the directory that grows.
  abbrev pub is_grown : Object → Bool
  is_grown p = (owner_of x.nodes (y x) p).node == x.growth.node

  pub then_as : (p : Object) → sectors_then (longer x) (owner_of x.nodes (y x) p) ≡ cond (is_grown p) (x.growth.len / x.m.geometry.sector) (length p.sectors)
  then_as p = ap (λ (q : Option Growth). sectors_then (longer_of x.m.geometry q) (owner_of x.nodes (y x) p)) x.grows

  -- It is in an identifier that moves, and what it then has ends within that.
  pub record IsStaying (p : Object) : Type 0 where
    pub moved : moves x (id_of p.entry.address) ≡ true
    pub lies : LiesIn x.m p
    pub fits : low_start x.m (low_of p.entry.address) + sectors_then (longer x) (owner_of x.nodes (y x) p) ≤ count (id_of p.entry.address)

  pub staying : (p : Object) → Contains (objects_of x.listings) p → has_sectors p ≡ true → moves x (id_of p.entry.address) ≡ true → remains (leaving x) (id_of p.entry.address) (owner_of x.nodes (y x) p) ≡ true → IsStaying p
  staying p at some e stays = record { moved = e; lies = lies_in x p at some; fits = sector_end x (id_of p.entry.address) (owner_of x.nodes (y x) p) (owner_in x p at some) stays }

  module _ (s : Spaces) (placed : ArePlacedFirst x.m (h x) x.job x.wants s) where
    abbrev pub Stretch : List ℕ → Type 0
    Stretch ss = IsStretch x.m x.agreed.is_map placed.plans (can x s placed) (once x s placed) ss

    abbrev pub laid : Object → List ℕ
    laid p = laid_by x.m placed.plans (owner_of x.nodes (y x) p)

    abbrev pub plan : (p : Object) → IsStaying p → (q : Plan) × IsPlanOf x s placed (id_of p.entry.address) q
    plan p st = plan_at x s placed (id_of p.entry.address) st.moved

    pub laid_is : (p : Object) (st : IsStaying p) → laid p ≡ take (length p.sectors) (drop (low_start x.m (low_of p.entry.address)) (plan_sectors x.m.geometry (plan p st).0))
    laid_is p st =
        let f : ℕ = low_start x.m (low_of p.entry.address) in
        let of : Option Plan → List ℕ = λ o. option_map_or (λ (r : Plan). take (length p.sectors) (drop f (plan_sectors x.m.geometry r))) o [] in
        ap of (plan p st).1.found

    -- What doesn't grow lies in as many sectors of its identifier's plan.
    abbrev pub laid_at : (p : Object) → IsStaying p → is_grown p ≡ false → Stretch (laid p)
    laid_at p st other = record {
      plan = (plan p st).0;
      among = (plan p st).1.among;
      bytes = end x (id_of p.entry.address);
      fit = (plan p st).1.fits;
      from = low_start x.m (low_of p.entry.address);
      long = length p.sectors;
      fits = (let fits = st.fits in let same : sectors_then (longer x) (owner_of x.nodes (y x) p) ≡ length p.sectors = then_as p ∙ ap (λ (b : Bool). cond b (x.growth.len / x.m.geometry.sector) (length p.sectors)) other in omega (arith, fits, same));
      is = laid_is p st;
    }

    -- ---- the directory that grows

    abbrev pub p' : GrownPlace
    p' = (grown_at x s placed).0

    abbrev pub first : IsFirstGrown x.m (h x) x.growth placed.plans p'
    first = (grown_at x s placed).2

    abbrev pub grown : List ℕ
    grown = sectors_in (grown_at x s placed).0.extents.items

    -- With another identifier it has a new one.
    pub grown_new : (k : Growth) → moving_out x.m (h x) (Some x.growth) ≡ Some k → Contains (new_ids x.m) (grown_at x s placed).2.plan.id
    grown_new k e =
        let last = subst (λ (o : Option Growth). IsLastIf o placed.plans first.plan) e first.last in
        let goes = ap (moving_out x.m (h x)) x.grows ∙ e in
        out_new x s placed first.plan last.0 last.1 (goes ∙ ap (λ (g : Growth). let q : Option Growth = Some g in q) (sym (out_is x k goes)))

    module _ (d : Object) (is : IsChanged x x.growth.node d) (address : address_in x.nodes x.growth.node ≡ d.entry.address) where
      pub at_address : (o : Option Growth) → moving_out x.m (h x) (Some x.growth) ≡ o → p'.directory.address ≡ address_then o d.entry.address first.plan
      at_address o e = ap (λ (g : Regrowth). g.address) first.directory ∙ ap₂ (λ (q : Option Growth) (a : ℕ). address_then q a first.plan) e address

      node_is : (owner_of x.nodes (y x) d).node ≡ x.growth.node
      node_is = is.own_node

      pub long_then : sectors_then (longer x) (owner_of x.nodes (y x) d) ≡ div_ceil x.growth.len x.m.geometry.sector
      long_then = then_as d ∙ ap (λ (b : Bool). cond b (x.growth.len / x.m.geometry.sector) (length d.sectors)) (eq-eqb (owner_of x.nodes (y x) d).node x.growth.node node_is) ∙ whole x

      -- It stays in its identifier, from where it begins there,
      abbrev pub grown_stays : moving_out x.m (h x) (Some x.growth) ≡ None → IsStaying d → Stretch grown
      grown_stays e st =
          let q = plan d st in
          let addr = at_address None e in
          let one = one_plan placed.plans first.plan q.0 (once x s placed) first.among q.1.among (first.id ∙ ap id_of addr ∙ sym q.1.id) in
          record {
            plan = q.0;
            among = q.1.among;
            bytes = end x (id_of d.entry.address);
            fit = q.1.fits;
            from = low_start x.m (low_of d.entry.address);
            long = div_ceil x.growth.len x.m.geometry.sector;
            fits = (let fits = st.fits in let same = long_then in omega (arith, fits, same));
            is = first.sectors ∙ ap₂ (λ (a : ℕ) (r : Plan). take (div_ceil x.growth.len x.m.geometry.sector) (drop (low_start x.m (low_of a)) (plan_sectors x.m.geometry r))) addr one;
          }

      -- or gets another, from its begin on.
      pub grown_leaves : (k : Growth) → moving_out x.m (h x) (Some x.growth) ≡ Some k → Stretch grown
      grown_leaves k e =
          let addr = at_address (Some k) e in
          let low : low_of (256 * first.plan.id) ≡ 0 = omega arith in
          let start : low_start x.m (low_of p'.directory.address) ≡ 0 = ap (λ (a : ℕ). low_start x.m (low_of a)) addr ∙ ap (low_start x.m) low ∙ (let z : 0 * (x.m.geometry.share / x.m.geometry.sector) ≡ 0 = omega arith in z) in
          record {
            plan = first.plan;
            among = first.among;
            bytes = x.growth.len;
            fit = out_fits x s placed first.plan first.among last.0 last.1 (ap (moving_out x.m (h x)) x.grows ∙ e ∙ ap (λ (g : Growth). let q : Option Growth = Some g in q) (sym (out_is x k (ap (moving_out x.m (h x)) x.grows ∙ e))));
            from = 0;
            long = div_ceil x.growth.len x.m.geometry.sector;
            fits = omega arith;
            is = first.sectors ∙ ap (λ (a : ℕ). take (div_ceil x.growth.len x.m.geometry.sector) (drop a (plan_sectors x.m.geometry first.plan))) start;
          }
        where
          last : (before : List Plan) × (placed.plans ≡ before ++ first.plan ∷ [])
          last = subst (λ (o : Option Growth). IsLastIf o placed.plans first.plan) e first.last

      pub leaves_plan : (k : Growth) (e : moving_out x.m (h x) (Some x.growth) ≡ Some k) → (grown_leaves k e).plan.id ≡ first.plan.id
      unfolding grown_leaves
      leaves_plan k e = refl
