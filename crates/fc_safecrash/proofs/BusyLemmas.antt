-- Sectors in which nothing lies are in holes or in movable identifiers.
use Rattle.std.proofs.Common.{◌≡◌, ◌≤◌, inl, inr, ℕ, Bool, true, false, List, [], ◌∷◌, refl, ap, subst, arith, eq-eqb}
use Rattle.std.specs.Prelude.{nat_le, ◌==◌, ◌||◌}
use Rattle.std.proofs.lemmas.Bool.{eqb-true, leb-true}
use Rattle.fc_newmap.specs.Map.{id_runs}
use Rattle.fc_newmap.proofs.PlaceLemmas.{holder_of, id_run_in}
use Rattle.fc_image.specs.Layout.{Layout, hole_sectors, is_among}
use Rattle.fc_image.specs.Objects.{is_movable, is_owned, objects_of}
use Rattle.fc_image.proofs.HolesLemmas.{OpenMap}
use Rattle.fc_image.proofs.MoveLemmas.{open_by}
use Rattle.fc_changes.proofs.OutsideLemmas.{AreBusy, holes_busy, owned_busy}
use Rattle.fc_safelaws.specs.Free.{IsFreeSector, MappedImage, view}
use Rattle.fc_record.proofs.KindLemmas.{and_first, and_second}

pub the_map : (x : MappedImage) → OpenMap x.image x.kind x.r (view x) x.m
the_map x = open_by x.image x.kind x.r (view x) x.m x.new_kind x.opens refl

pub free_busy : (x : MappedImage) (written : List ℕ) → ((s : ℕ) → is_among written s ≡ true → IsFreeSector x.m (objects_of x.listings) s) → AreBusy x.m (objects_of x.listings) written
free_busy x written free s i = elim (free s i) [
  | inl hole ↦
      holes_busy x.m (objects_of x.listings) (the_map x).some (s ∷ []) (λ t j. subst (λ (u : ℕ). is_among (hole_sectors (Layout.New x.m)) u ≡ true) (alone s t j) hole) s
      (ap (λ (b : Bool). b || false) (eq-eqb s s refl))
  | inr id ↦
      (let p = holder_of x.m.geometry (id_runs x.m id.0) s id.2 in
      let there = id_run_in x.m id.0 p.0 (the_map x).some p.1.0 in
      (p.0, there.0, p.1.1, owned_busy (objects_of x.listings) id.0 p.0.1.kind there.1 (and_first (is_owned (objects_of x.listings) id.0) (nat_le 3 id.0) id.1) (high id.0 id.1)))
]
  where
    alone : (s t : ℕ) → is_among (s ∷ []) t ≡ true → s ≡ t
    alone s t j = eqb-true s t (by (s == t) j)
      where
        by : (b : Bool) → (b || false) ≡ true → b ≡ true
        by true e = refl
        by false e = e

    high : (id : ℕ) → is_movable (objects_of x.listings) id ≡ true → 2 ≤ id
    high id h = let low = leb-true 3 id (and_second (is_owned (objects_of x.listings) id) (nat_le 3 id) h) in omega (arith, low)
