-- Where each object that stays in an identifier that moves, and the directory that grows, come to lie: free, once, and apart.
use Rattle.std.proofs.Common.{◌≡◌, ◌==◌, ◌⊎◌, inl, inr, ⊎_elim, ℕ, Bool, true, false, cond, List, refl, sym, ap, subst, ◌∙◌, eq-eqb, Option, Some, None}
use Rattle.std.specs.Prelude.{Contains}
use Rattle.std.specs.Option.{option_map_or}
use Rattle.std.proofs.lemmas.Bool.{cases_Bool, eqb-true}
use Rattle.fc_newmap.proofs.CoverLemmas.{Distinct}
use Rattle.fc_image.specs.Layout.{Layout, hole_sectors, is_among}
use Rattle.fc_image.specs.Objects.{has_sectors, objects_of}
use Rattle.fc_image.specs.Walk.{Listing, Object}
use Rattle.fc_changes.proofs.BasicLemmas.{clash}
use Rattle.fc_plan.specs.Giving.{is_one_of}
use Rattle.fc_tree.specs.Counts.{address_in}
use Rattle.fc_tree.specs.Parts.{owner_of}
use Rattle.fc_tree.specs.declared.node.Node.{Node}
use Rattle.fc_change.specs.declared.job.Growth.{Growth}
use Rattle.fc_change.specs.declared.spaces.Spaces.{Spaces}
use Rattle.fc_commands.proofs.NodeLemmas as its
use Rattle.fc_commands.proofs.OwnerLemmas.{same_path}
use Rattle.fc_safe.specs.FirstNeeds.{moving_out}
use Rattle.fc_safe.specs.FirstSpace.{ArePlacedFirst}
use Rattle.fc_tree.proofs.SoundLemmas.{same_object}
use Rattle.fc_image.proofs.PathsLemmas.{itself}
use Rattle.fc_safecommands.proofs.GrownStirLemmas.{GrowingJob, IsChanged, changed_moves, changed_object, changed_remains, h, sound, y}
use Rattle.fc_safecommands.proofs.GrownSpaceLemmas.{can, once}
use Rattle.fc_safecommands.proofs.GrownLaidLemmas.{IsStaying, Stretch, grown, grown_leaves, grown_stays, is_grown, laid, laid_at, staying}
use Rattle.fc_safecommands.proofs.GrownBesideLemmas.{beside_grown, laid_apart}
use Rattle.fc_safecommands.proofs.StretchLemmas.{stretch_distinct, stretch_free}

module _ (x : GrowingJob) where
  -- the directory that grows
  abbrev pub grower : (l : Listing) × Contains x.listings l × IsChanged x x.growth.node l.object
  grower = changed_object x x.growth.node x.grower

  abbrev pub d : Object
  d = (changed_object x x.growth.node x.grower).0.object

  pub address : address_in x.nodes x.growth.node ≡ (changed_object x x.growth.node x.grower).0.object.entry.address
  address = ap (λ (n : Option Node). option_map_or (λ (k : Node). k.entry.address) n 0) (its.there x.nodes (y x) x.listings (sound x) x.agreed.walked.held grower.0 grower.1 x.growth.node grower.2.number)

  pub d_grown : is_grown x (changed_object x x.growth.node x.grower).0.object ≡ true
  d_grown = eq-eqb (owner_of x.nodes (y x) d).node x.growth.node grower.2.own_node

  -- no other is
  pub grown_is : (p : Object) → Contains (objects_of x.listings) p → is_grown x p ≡ true → d ≡ p
  grown_is p at e =
      same_object (y x) x.listings (sound x) d.path d p grower.2.there at (itself d.path)
      (same_path (y x) x.nodes x.listings x.owners d x.growth.node (sound x) x.agreed.walked.held x.agreed.owned grower.2.number grower.2.there p at (eqb-true (owner_of x.nodes (y x) p).node x.growth.node e))

  -- it stays in its identifier, unless it gets another
  pub d_stays : moving_out x.m (h x) (Some x.growth) ≡ None → IsStaying x (changed_object x x.growth.node x.grower).0.object
  d_stays e = staying x d grower.2.there grower.2.some (changed_moves x x.growth.node x.grower (x.keeps e) d grower.2) (changed_remains x x.growth.node (x.keeps e) d grower.2)

  -- An object that has a place then: the directory that grows, or another that stays in an identifier that moves.
  pub record IsThere (p : Object) : Type 0 where
    pub at : Contains (objects_of x.listings) p
    pub some : has_sectors p ≡ true
    pub stays : (is_grown x p ≡ true) ⊎ ((is_grown x p ≡ false) × IsStaying x p)

  module _ (s : Spaces) (placed : ArePlacedFirst x.m (h x) x.job x.wants s) where
    -- where it lies then
    abbrev pub spot : Object → List ℕ
    spot p = cond (is_grown x p) (grown x s placed) (laid x s placed p)

    pub spot_grown : (p : Object) → is_grown x p ≡ true → spot p ≡ grown x s placed
    spot_grown p e = ap (λ (b : Bool). cond b (grown x s placed) (laid x s placed p)) e

    pub spot_other : (p : Object) → is_grown x p ≡ false → spot p ≡ laid x s placed p
    spot_other p e = ap (λ (b : Bool). cond b (grown x s placed) (laid x s placed p)) e

    pub grown_at_last : Stretch x s placed (grown x s placed)
    grown_at_last = by (moving_out x.m (h x) (Some x.growth)) refl
      where
        by : (o : Option Growth) → moving_out x.m (h x) (Some x.growth) ≡ o → Stretch x s placed (grown x s placed)
        by None e = grown_stays x s placed d grower.2 address e (d_stays e)
        by (Some k) e = grown_leaves x s placed d grower.2 address k e

    stretch_of : (p : Object) → IsThere p → Stretch x s placed (spot p)
    stretch_of p there = elim there.stays [
      | inl e ↦ subst (Stretch x s placed) (sym (spot_grown p e)) grown_at_last
      | inr other ↦ subst (Stretch x s placed) (sym (spot_other p other.0)) (laid_at x s placed p other.1 other.0)
    ]

    -- Each of its sectors lies in a hole,
    pub spot_free : (p : Object) → IsThere p → (u : ℕ) → is_among (spot p) u ≡ true → is_among (hole_sectors (Layout.New x.m)) u ≡ true
    spot_free p there = stretch_free x.m x.agreed.is_map placed.plans (can x s placed) (once x s placed) (spot p) (stretch_of p there)

    pub laid_once : (p : Object) → IsStaying x p → is_grown x p ≡ false → Distinct (laid x s placed p)
    laid_once p st other = stretch_distinct x.m x.agreed.is_map placed.plans (can x s placed) (once x s placed) (laid x s placed p) (laid_at x s placed p st other)

    -- none is there twice,
    pub spot_once : (p : Object) → IsThere p → Distinct (spot p)
    spot_once p there = stretch_distinct x.m x.agreed.is_map placed.plans (can x s placed) (once x s placed) (spot p) (stretch_of p there)

    -- and two objects have none in common.
    pub spot_apart : (p o : Object) → IsThere p → IsThere o → (p ≡ o → ⊥) → ((u : ℕ) → is_among p.sectors u ≡ true → is_among o.sectors u ≡ true → ⊥) → (u : ℕ) → is_among (spot p) u ≡ true → is_among (spot o) u ≡ true → ⊥
    spot_apart p o tp to other none u in_p in_o = elim tp.stays [
      | inl grown_p ↦ elim to.stays [
        | inl grown_o ↦ absurd (other (sym (grown_is p tp.at grown_p) ∙ grown_is o to.at grown_o))
        | inr plain ↦ beside_grown x s placed d grower.2 address o to.at to.some plain.0 plain.1 d_stays u (subst (λ (ss : List ℕ). is_among ss u ≡ true) (spot_other o plain.0) in_o)
            (subst (λ (ss : List ℕ). is_among ss u ≡ true) (spot_grown p grown_p) in_p)
      ]
      | inr plain ↦ elim to.stays [
        | inl grown_o ↦ beside_grown x s placed d grower.2 address p tp.at tp.some plain.0 plain.1 d_stays u (subst (λ (ss : List ℕ). is_among ss u ≡ true) (spot_other p plain.0) in_p)
            (subst (λ (ss : List ℕ). is_among ss u ≡ true) (spot_grown o grown_o) in_o)
        | inr also ↦ laid_apart x s placed p o plain.1 also.1 plain.0 also.0 none u (subst (λ (ss : List ℕ). is_among ss u ≡ true) (spot_other p plain.0) in_p)
            (subst (λ (ss : List ℕ). is_among ss u ≡ true) (spot_other o also.0) in_o)
      ]
    ]
