-- What stays in an identifier that moves, and a directory that grows, have no sector in common where they come to lie.
use Rattle.std.proofs.Common.{◌⊎◌, ◌≡◌, ◌<◌, ◌≤◌, ◌+◌, ◌==◌, ◌&&◌, ◌||◌, ⊎_elim, inl, inr, ℕ, Bool, true, false, cond, not, List, length, refl, sym, ap, ap₂, subst, ◌∙◌, arith, eq-eqb, Option, Some, None}
use Rattle.std.specs.Prelude.{Contains, is_some, nat_le}
use Rattle.std.specs.Int.{div_ceil}
use Rattle.std.specs.List.{list_all, list_any}
use Rattle.std.proofs.lemmas.Bool.{and_parts, cases_eq, eqb-true, leb-true, or_cases}
use Rattle.fc_alloc.specs.declared.owner.Owner.{Owner}
use Rattle.fc_newmap.specs.Map.{is_used}
use Rattle.fc_image.specs.Layout.{id_of, id_sectors, is_among, low_of, low_start, new_sectors}
use Rattle.fc_image.specs.Objects.{has_sectors, objects_of}
use Rattle.fc_image.specs.Walk.{Object}
use Rattle.fc_changes.proofs.BasicLemmas.{clash}
use Rattle.fc_plan.specs.declared.plan.Plan.{Plan}
use Rattle.fc_placing.specs.Leaving.{has_other}
use Rattle.fc_placing.specs.Slack.{leaves_free}
use Rattle.fc_tree.specs.Counts.{address_in}
use Rattle.fc_tree.specs.Parts.{owner_of}
use Rattle.fc_change.specs.declared.job.Growth.{Growth}
use Rattle.fc_change.specs.declared.spaces.Spaces.{Spaces}
use Rattle.fc_change.specs.GrownSpace.{has_room, is_alone}
use Rattle.fc_change.specs.Shortage.{leaves_free_for, others_leave_free}
use Rattle.fc_safe.specs.FirstNeeds.{moving_out}
use Rattle.fc_safe.specs.FirstSpace.{ArePlacedFirst}
use Rattle.fc_safe.proofs.ListLemmas.{any_of}
use Rattle.fc_safelaws.proofs.PlaceLemmas.{HasPlace, has_place}
use Rattle.fc_safecommands.proofs.LaidLemmas.{place_stretch}
use Rattle.fc_safecommands.proofs.GrownStirLemmas.{GrowingJob, IsChanged, h, owner_in, y}
use Rattle.fc_safecommands.proofs.GrownSpaceLemmas.{can, once, plan_at, unused, used}
use Rattle.fc_safecommands.proofs.SaidAloneLemmas.{all_there}
use Rattle.fc_safecommands.proofs.GrownLaidLemmas.{IsStaying, grown, grown_leaves, grown_new, grown_stays, is_grown, laid, laid_at, leaves_plan, plan}
use Rattle.fc_safecommands.proofs.StretchLemmas.{stretch_apart, stretch_beside}

module _ (x : GrowingJob) (s : Spaces) (placed : ArePlacedFirst x.m (h x) x.job x.wants s) where
  -- Objects that have none in common have none in common there.
  pub laid_apart : (p o : Object) (sp : IsStaying x p) (so : IsStaying x o) → is_grown x p ≡ false → is_grown x o ≡ false → ((u : ℕ) → is_among p.sectors u ≡ true → is_among o.sectors u ≡ true → ⊥)
      → (u : ℕ) → is_among (laid x s placed p) u ≡ true → is_among (laid x s placed o) u ≡ true → ⊥
  laid_apart p o sp so plain_p plain_o none =
      stretch_apart x.m x.agreed.is_map placed.plans (can x s placed) (once x s placed) (laid x s placed p) (laid x s placed o) (laid_at x s placed p sp plain_p) (laid_at x s placed o so plain_o) in_one
    where
      in_one : (plan_at x s placed (id_of p.entry.address) sp.moved).0.id ≡ (plan_at x s placed (id_of o.entry.address) so.moved).0.id → (i j : ℕ) → i < length p.sectors → j < length o.sectors
          → low_start x.m (low_of p.entry.address) + i ≡ low_start x.m (low_of o.entry.address) + j → ⊥
      in_one ids i j low_i low_j place =
          let same : id_of p.entry.address ≡ id_of o.entry.address = sym (plan_at x s placed (id_of p.entry.address) sp.moved).1.id ∙ ids ∙ (plan_at x s placed (id_of o.entry.address) so.moved).1.id in
          let f = low_start x.m (low_of p.entry.address) in
          let f' = low_start x.m (low_of o.entry.address) in
          let room = sp.lies.room in
          let there = has_place (id_sectors x.m (id_of p.entry.address)) (f + i) (omega (arith, low_i, room)) in
          let w = there.0 in
          none w
          (subst (λ (ss : List ℕ). is_among ss w ≡ true) sp.lies.is (place_stretch f (length p.sectors) (id_sectors x.m (id_of p.entry.address)) i w low_i there.1))
          (subst (λ (ss : List ℕ). is_among ss w ≡ true) so.lies.is
          (place_stretch f' (length o.sectors) (id_sectors x.m (id_of o.entry.address)) j w low_j
          (subst (λ (k : ℕ). HasPlace (id_sectors x.m (id_of o.entry.address)) k w) place (subst (λ (k : ℕ). HasPlace (id_sectors x.m k) (f + i) w) same there.1))))

  -- ---- beside the directory that grows

  module _ (d : Object) (is : IsChanged x x.growth.node d) (address : address_in x.nodes x.growth.node ≡ d.entry.address) (p : Object) (at : Contains (objects_of x.listings) p) (some : has_sectors p ≡ true) (other : is_grown x p ≡ false) where
    abbrev own : Owner
    own = owner_of x.nodes (y x) p

    own_there : Contains x.owners (owner_of x.nodes (y x) p)
    own_there = owner_in x p at some

    either : (b c : Bool) → (let o : Option Growth = cond (b || c) None (Some x.growth) in o) ≡ None → (b ≡ true) ⊎ (c ≡ true)
    either true c e = inl refl
    either false true e = inr refl
    either false false e = absurd (cc)

    abbrev first : ℕ
    first = low_start x.m (low_of (address_in x.nodes x.growth.node))

    abbrev need : ℕ
    need = div_ceil x.growth.len x.m.geometry.sector

    -- With room its sectors are none of another's; and alone there is no other.
    never : moving_out x.m (h x) (Some x.growth) ≡ None → id_of p.entry.address ≡ id_of (address_in x.nodes x.growth.node) → (i j : ℕ) → i < length p.sectors → j < div_ceil x.growth.len x.m.geometry.sector
        → low_start x.m (low_of p.entry.address) + i ≡ low_start x.m (low_of (address_in x.nodes x.growth.node)) + j → ⊥
    never e same i j low_i low_j place = elim (either (has_room x.m (h x) x.growth) (is_alone (h x) x.growth) e) [
      | inl room ↦ (
          let id : ℕ = id_of (address_in x.nodes x.growth.node) in
          let free = and_parts (is_some (new_sectors x.m (address_in x.nodes x.growth.node) x.growth.len)) (others_leave_free x.owners x.growth.node id first need) (and_parts (not (id == 2)) _ room).1 in
          of_room id same (all_there (leaves_free_for x.growth.node id first need) x.owners (owner_of x.nodes (y x) p) free.1 own_there))
      | inr alone ↦ (
          let id : ℕ = id_of (address_in x.nodes x.growth.node) in
          let none = and_parts (not (id == 2)) (not (has_other x.owners x.growth.node id)) (and_parts (not (id == 2) && not (has_other x.owners x.growth.node id)) (nat_le (low_of (address_in x.nodes x.growth.node)) 1) alone).0 in
          let one : has_other x.owners x.growth.node id ≡ true =
          any_of (λ (o : Owner). (o.id == id) && not (o.node == x.growth.node)) x.owners (owner_of x.nodes (y x) p) own_there (ap₂ (λ (a b : Bool). a && not b) (eq-eqb (id_of p.entry.address) id same) other) in
          let bad : false ≡ true = sym (ap not one) ∙ none.1 in cc)
    ]
      where
        of_room : (id : ℕ) → id_of p.entry.address ≡ id → leaves_free_for x.growth.node id first need (owner_of x.nodes (y x) p) ≡ true → ⊥
        of_room id at_id free =
            let plain : leaves_free id first need (owner_of x.nodes (y x) p) ≡ true = sym (ap (λ (b : Bool). b || leaves_free id first need (owner_of x.nodes (y x) p)) other) ∙ free in
            let tests = sym (ap (λ (b : Bool). not b || (nat_le (first + need) own.first || (nat_le (own.first + own.sectors) first || (own.sectors == 0)))) (eq-eqb (id_of p.entry.address) id at_id)) ∙ plain in
            elim (or_cases (nat_le (first + need) own.first) (nat_le (own.first + own.sectors) first || (own.sectors == 0)) tests) [
              | inl after ↦ (let low = leb-true (first + need) own.first after in omega (arith, low, low_i, low_j, place))
              | inr more ↦ elim (or_cases (nat_le (own.first + own.sectors) first) (own.sectors == 0) more) [
                | inl before ↦ (let low = leb-true (own.first + own.sectors) first before in omega (arith, low, low_i, low_j, place))
                | inr none ↦ (let empty = eqb-true own.sectors 0 none in omega (arith, empty, low_i))
              ]
            ]

    pub beside_grown : (sp : IsStaying x p) → (moving_out x.m (h x) (Some x.growth) ≡ None → IsStaying x d) → (u : ℕ) → is_among (laid x s placed p) u ≡ true → is_among (grown x s placed) u ≡ true → ⊥
    beside_grown sp stays = by (moving_out x.m (h x) (Some x.growth)) refl
      where
        by : (o : Option Growth) → moving_out x.m (h x) (Some x.growth) ≡ o → (u : ℕ) → is_among (laid x s placed p) u ≡ true → is_among (grown x s placed) u ≡ true → ⊥
        by None e =
            stretch_apart x.m x.agreed.is_map placed.plans (can x s placed) (once x s placed) (laid x s placed p) (grown x s placed) (laid_at x s placed p sp other) (grown_stays x s placed d is address e (stays e))
            (λ ids i j low_i low_j place.
            never e (sym (plan_at x s placed (id_of p.entry.address) sp.moved).1.id ∙ ids ∙ (plan_at x s placed (id_of d.entry.address) (stays e).moved).1.id ∙ ap id_of (sym address)) i j low_i low_j
            (place ∙ ap (λ (a : ℕ). low_start x.m (low_of a) + j) (sym address)))
        by (Some k) e =
            stretch_beside x.m x.agreed.is_map placed.plans (can x s placed) (once x s placed) (laid x s placed p) (grown x s placed) (laid_at x s placed p sp other) (grown_leaves x s placed d is address k e)
            (λ ids. (let yes = used x (id_of p.entry.address) sp.moved in
            let no = unused x _ (grown_new x s placed k e) in
            let there = ap (is_used x.m) (sym (plan_at x s placed (id_of p.entry.address) sp.moved).1.id ∙ ids ∙ leaves_plan x s placed d is address k e) in cc))
