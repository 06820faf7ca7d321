-- What is said by owners, said by the objects that they own for.
use Rattle.std.proofs.Common.{◌≡◌, ◌<◌, ◌≤◌, ℕ, zero, suc, ◌+◌, Bool, true, false, List, [], ◌∷◌, refl, sym, ap, ap₂, ◌∙◌, arith}
use Rattle.std.specs.Prelude.{◌==◌, ◌||◌, ◌&&◌, not, nat_le}
use Rattle.std.specs.List.{list_all, range_with_len}
use Rattle.std.proofs.lemmas.Bool.{eqb-true}
use Rattle.fc_record.specs.declared.Geometry.{Geometry}
use Rattle.fc_zone.specs.declared.Run.{Run}
use Rattle.fc_zone.specs.declared.RunKind.{RunKind}
use Rattle.fc_zone.specs.declared.RunKind.TheVariants as kinds
use Rattle.fc_newmap.specs.Map.{Map, runs_of}
use Rattle.fc_alloc.specs.declared.owner.Owner.{Owner}
use Rattle.fc_alloc.specs.Owners.{is_id_owned}
use Rattle.fc_image.specs.Layout.{id_of}
use Rattle.fc_image.specs.Objects.{is_movable}
use Rattle.fc_image.specs.Walk.{Object}
use Rattle.fc_image.specs.effects.Settled.{CompactedMap, can_join, can_slide, is_done, is_settled_map, passes_adjacent}
use Rattle.fc_compact.specs.Compaction.{ByOwnersLaw, CompactedBy, IsSettledBy, is_done_by}
use Rattle.fc_compact.specs.Ready.{AreOwnersOf, is_movable_by}

module _ (owners : List Owner) (objects : List Object) (own : AreOwnersOf owners objects) where
  pub same_movable : (id : ℕ) → is_movable objects id ≡ is_movable_by owners id
  same_movable id =
      ap (λ b. b && nat_le 3 id) (sym (own id))
      ∙ by (id == 2) (is_id_owned owners id) (nat_le 3 id) (λ e. ap (nat_le 3) (eqb-true id 2 e))
    where
      by : (a b c : Bool) → (a ≡ true → c ≡ false) → ((a || b) && c) ≡ (b && c)
      by false b c two = refl
      by true true c two = refl
      by true false c two = two refl

  same_done : (g : Geometry) (run next : Run) → is_done g objects run next ≡ is_done_by g owners run next
  same_done g run next = by run.kind next.kind
    where
      by : (a b : RunKind) → is_done g objects (record run { kind = a }) (record next { kind = b }) ≡ is_done_by g owners (record run { kind = a }) (record next { kind = b })
      by kinds.Hole kinds.Hole = refl
      by kinds.Hole (kinds.Id id) = ap (λ b. not (b && can_slide g run.len next.len)) (same_movable id)
      by (kinds.Id id) kinds.Hole = refl
      by (kinds.Id id) (kinds.Id other) = ap (λ b. not ((id == other) && b)) (same_movable id)

  same_adjacent : (f h : Run → Run → Bool) → ((a b : Run) → f a b ≡ h a b) → (runs : List Run) → passes_adjacent f runs ≡ passes_adjacent h runs
  same_adjacent f h same [] = refl
  same_adjacent f h same (run ∷ []) = refl
  same_adjacent f h same (run ∷ (next ∷ runs)) = ap₂ (λ a b. a && b) (same run next) (same_adjacent f h same (next ∷ runs))

  range_all : (t : ℕ → Bool) (from n : ℕ) → ((z : ℕ) → from ≤ z → z < from + n → t z ≡ true) → list_all t (range_with_len from n) ≡ true
  range_all t from zero each = refl
  range_all t from (suc n) each =
      ap (λ b. b && list_all t (range_with_len (from + 1) n)) (each from (omega arith) (omega arith))
      ∙ range_all t (from + 1) n (λ z low high. each z (omega arith) (omega arith))

  pub objects_all : (t : Object → Bool) (xs : List Object) → ((o : Object) → t o ≡ true) → list_all t xs ≡ true
  objects_all t [] each = refl
  objects_all t (x ∷ xs) each = ap (λ b. b && list_all t xs) (each x) ∙ objects_all t xs each

  module _ (m : Map) (settled : IsSettledBy m owners) where
    none_joins : (id : ℕ) → not (is_movable objects id && can_join m id) ≡ true
    none_joins id = ap (λ b. not (b && can_join m id)) (same_movable id) ∙ by (is_movable_by owners id) refl
      where
        by : (b : Bool) → is_movable_by owners id ≡ b → not (b && can_join m id) ≡ true
        by false e = refl
        by true e = ap not (settled.ids id e)

    pub settled_map : is_settled_map m objects ≡ true
    settled_map =
        ap₂ (λ a b. a && b)
        (range_all (λ z. passes_adjacent (is_done m.geometry objects) (runs_of m z)) 0 m.geometry.zones
        (λ z low high. same_adjacent (is_done m.geometry objects) (is_done_by m.geometry owners) (same_done m.geometry) (runs_of m z) ∙ settled.zones z (omega (arith, high))))
        (objects_all (λ o. not (is_movable objects (id_of o.entry.address) && can_join m (id_of o.entry.address))) objects (λ o. none_joins (id_of o.entry.address)))

  pub compacted_map : (m m' : Map) → CompactedBy m m' owners → CompactedMap m m' objects
  compacted_map m m' c = record {
    no_new = c.no_new;
    bits = λ id may. c.bits id (sym (same_movable id) ∙ may);
    runs = λ id may. c.runs id (sym (same_movable id) ∙ may);
  }

pub by_owners_law : ByOwnersLaw
by_owners_law = record {
  settled = λ m owners objects own settled. settled_map owners objects own m settled;
  compacted = λ m m' owners objects own c. compacted_map owners objects own m m' c;
}
