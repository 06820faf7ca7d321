-- An object in new space, beside a directory that grows.
use Rattle.std.proofs.Common.{◌≡◌, ◌<◌, ◌≤◌, ℕ, Bool, true, false, cond, List, [], ◌∷◌, length, refl, sym, ap, subst, ◌∙◌, arith, eq-eqb, Some}
use Rattle.std.specs.Prelude.{Contains, IsPermutation, nat_lt, ◌||◌}
use Rattle.std.proofs.lemmas.Bool.{lt-ltb}
use Rattle.std.proofs.lemmas.List.Elements.{Contains-append_left}
use Rattle.fc_record.specs.declared.Geometry.{Geometry}
use Rattle.fc_newmap.specs.Map.{ZoneRun, hole_runs, id_runs}
use Rattle.fc_image.specs.Layout.{Layout, dir_form, id_of, sectors_at}
use Rattle.fc_image.specs.Walk.{Listing, object_size}
use Rattle.fc_image.specs.Objects.{is_owned, objects_of}
use Rattle.fc_image.specs.effects.Sharing.{units}
use Rattle.fc_image.specs.effects.Placed.{holes_left}
use Rattle.fc_plan.specs.Taking.{as_runs}
use Rattle.fc_plan.proofs.Units.{units_some}
use Rattle.fc_tree.proofs.MemberLemmas.{contains_here}
use Rattle.fc_changes.specs.Changed.{IsInNewSpace}
use Rattle.fc_changes.proofs.ChangeLemmas.{a_sector}
use Rattle.fc_changes.proofs.OutsideLemmas.{object_owns}
use Rattle.fc_laws.proofs.lemmas.agree.BeforeLemmas.{new_shape}
use Rattle.fc_edits.specs.GrownPlaces.{GrownPlacing}
use Rattle.fc_edits.specs.NewPlaces.{Taking, is_taken}
use Rattle.fc_edits.specs.Placing.{takings_of}
use Rattle.fc_edits.proofs.lemmas.NewSpaceLemmas.{id_in, new_id_high, parts_left, parts_some}
use Rattle.fc_outcomes.proofs.lemmas.AddedLemmas.{taken_is}

module _ (x : GrownPlacing) (n low : ℕ) (small : low < 256) (new : IsInNewSpace x.m n low x.id x.parts x.o) where
  some : 0 < length x.parts
  some = parts_some x.m n low x.id x.parts x.o x.agreed.is_map new

  pub runs_are : IsPermutation (as_runs x.id x.parts) (id_runs x.m' x.id)
  runs_are = x.space.own (record { id = x.id; parts = x.parts }) (Contains-append_left (takings_of x.id x.parts) x.own (record { id = x.id; parts = x.parts }) (there x.parts some))
    where
      there : (ps : List ZoneRun) → 0 < length ps → Contains (takings_of x.id ps) (record { id = x.id; parts = ps })
      there [] h = absurd (omega (arith, h))
      there (p ∷ ps) h = contains_here (let t : Taking = record { id = x.id; parts = p ∷ ps } in t) []

  pub its_id : id_of x.o.entry.address ≡ x.id
  its_id = id_in x.m n low x.id x.parts x.o small new

  pub left_new : holes_left (hole_runs x.m) (cond (nat_lt 0 (units x.m.geometry n)) (id_runs x.m' (id_of x.o.entry.address)) []) ≡ holes_left (hole_runs x.m) x.parts
  left_new =
      ap (λ (b : Bool). holes_left (hole_runs x.m) (cond b (id_runs x.m' (id_of x.o.entry.address)) [])) (lt-ltb 0 (units x.m.geometry n) (units_some x.m n x.agreed.is_map new.some))
      ∙ ap (λ (k : ℕ). holes_left (hole_runs x.m) (id_runs x.m' k)) its_id ∙ parts_left x.m x.m' n low x.id x.parts x.o x.agreed.is_map x.geometry small new runs_are

  pub taken_new : is_taken (takings_of x.id x.parts) (id_of x.o.entry.address) ≡ true
  taken_new = subst (λ (k : ℕ). is_taken (takings_of x.id x.parts) k ≡ true) (sym its_id) (by x.parts some)
    where
      by : (ps : List ZoneRun) → 0 < length ps → is_taken (takings_of x.id ps) x.id ≡ true
      by [] h = absurd (omega (arith, h))
      by (p ∷ ps) h = ap (λ (b : Bool). b || false) (eq-eqb x.id x.id refl)

  pub high_new : (k : ℕ) → is_taken (takings_of x.id x.parts) k ≡ true → object_size (dir_form (Layout.New x.m')) x.o.entry ≡ n → (found : List Listing) → Contains (objects_of found) x.o
      → (3 ≤ k) × (is_owned (objects_of found) k ≡ true)
  high_new k taken size found among =
      let same = taken_is x.id x.parts k taken in
      let sector : 0 < x.m'.geometry.sector = subst (λ (g : Geometry). 0 < g.sector) (sym x.geometry) (new_shape x.m x.agreed.is_map).some in
      let at : sectors_at (Layout.New x.m') x.o.entry.address n ≡ Some x.o.sectors = subst (λ (j : ℕ). sectors_at (Layout.New x.m') x.o.entry.address j ≡ Some x.o.sectors) size x.at in
      let s = a_sector x.m' x.o.entry.address n x.o.sectors new.some sector at in (
        subst (λ (j : ℕ). 3 ≤ j) (sym same) (new_id_high x.m x.id new.is_new),
        subst (λ (j : ℕ). is_owned (objects_of found) j ≡ true) (its_id ∙ sym same) (object_owns (objects_of found) x.o s.0 among s.1),
      )
