-- Slots and their index under changes of one node.
use Rattle.std.proofs.Common.{◌≡◌, ◌⊎◌, ◌<◌, ◌≤◌, ℕ, zero, suc, ◌+◌, true, false, min, cond, take, drop, position, ◌-◌, List, [], ◌∷◌, ◌++◌, length, map, Option, Some, None, refl, sym, ap, ◌∙◌, subst, arith, inl, inr, length-set}
use Rattle.std.specs.Prelude.{is_some, is_none, slice_set}
use Rattle.std.specs.List.{position_or_len}
use Rattle.std.specs.Ordering.{nat_cmp, eq_by_cmp}
use Rattle.std.specs.Cmp.{nat_cmp_total}
use Rattle.std.specs.FinMap.{from_entries, get, insert as put, remove as without, get-insert, get-remove, same_map, nat_cmp-IsAntisymmetric}
use Rattle.std.proofs.lemmas.Bool.{cases_eq, cond-true, cond-false}
use Rattle.std.proofs.lemmas.List.{take_all, length-drop}
use Rattle.std.specs.Option.{unwrap_or}
use Rattle.fc_dirs.proofs.SearchLemmas.{place_or_end}
use Rattle.fc_tree.specs.declared.node.Node.{Node}
use Rattle.fc_tree.specs.Nodes.{Numbers, nodes_of, numbered_from}
use Rattle.fc_tree.specs.declared.table.Table.{Table}
use Rattle.fc_tree.specs.declared.vacancy.Vacancy.{Vacancy}
use Rattle.fc_tree.specs.Slots.{slot_at, AreFull, AreSameBut}
use Rattle.fc_tree.specs.Table.{AreIndexed, IsHeld}
use Rattle.fc_tree.specs.Vacancy.{IsVacancy}
use Rattle.fc_tree.proofs.SlotLemmas.{get-nodes_of, other, level}

-- ---- slots

pub slot_set : (slots : List (Option Node)) (n : ℕ) (o : Option Node) → n < length slots → slot_at (slice_set slots n o) n ≡ o
slot_set [] n o within = absurd (omega (arith, within))
slot_set (x ∷ slots) zero o within = refl
slot_set (x ∷ slots) (suc n) o within = slot_set slots n o (omega (arith, within))

pub slot_set_other : (slots : List (Option Node)) (n : ℕ) (o : Option Node) → AreSameBut n slots (slice_set slots n o)
slot_set_other [] n o m apart = refl
slot_set_other (x ∷ slots) zero o zero apart = absurd (apart refl)
slot_set_other (x ∷ slots) zero o (suc m) apart = refl
slot_set_other (x ∷ slots) (suc n) o zero apart = refl
slot_set_other (x ∷ slots) (suc n) o (suc m) apart = slot_set_other slots n o m (λ e. apart (ap suc e))

pub slot_pushed : (slots : List (Option Node)) (o : Option Node) → slot_at (slots ++ o ∷ []) (length slots) ≡ o
slot_pushed [] o = refl
slot_pushed (x ∷ slots) o = slot_pushed slots o

pub slot_pushed_other : (slots : List (Option Node)) (o : Option Node) → AreSameBut (length slots) slots (slots ++ o ∷ [])
slot_pushed_other [] o zero apart = absurd (apart refl)
slot_pushed_other [] o (suc m) apart = refl
slot_pushed_other (x ∷ slots) o zero apart = refl
slot_pushed_other (x ∷ slots) o (suc m) apart = slot_pushed_other slots o m (λ e. apart (ap suc e))

-- ---- vacant numbers

-- the search may begin after numbers that have nodes
vacant_from : (slots : List (Option Node)) (least : ℕ) → least ≤ length slots → AreFull slots least → position_or_len is_none slots ≡ least + position_or_len is_none (drop least slots)
vacant_from slots zero within full = omega arith
vacant_from [] (suc least) within full = absurd (omega (arith, within))
vacant_from (None ∷ slots) (suc least) within full = absurd (let none : false ≡ true = full 0 (omega arith) in cc)
vacant_from (Some node ∷ slots) (suc least) within full =
    let more = vacant_from slots least (omega (arith, within)) (λ m below. full (suc m) (omega (arith, below))) in
    omega (arith, more)

-- what a slice from there to the end has
pub rest_whole : (slots : List (Option Node)) (least : ℕ) → take (length slots - least) (drop least slots) ≡ drop least slots
rest_whole slots least = take_all (length slots - least) (drop least slots) (omega (arith, length-drop least slots))

vacant_within : (slots : List (Option Node)) → position_or_len is_none slots ≤ length slots
vacant_within [] = omega arith
vacant_within (None ∷ slots) = omega arith
vacant_within (Some node ∷ slots) = omega (arith, vacant_within slots)

pub slot_vacant : (slots : List (Option Node)) → slot_at slots (position_or_len is_none slots) ≡ None
slot_vacant [] = refl
slot_vacant (None ∷ slots) = refl
slot_vacant (Some node ∷ slots) =
    let next : 1 + position_or_len is_none slots ≡ suc (position_or_len is_none slots) = omega arith in
    ap (slot_at (Some node ∷ slots)) next ∙ slot_vacant slots

full_below : (slots : List (Option Node)) → AreFull slots (position_or_len is_none slots)
full_below [] m below = absurd (omega (arith, below))
full_below (None ∷ slots) m below = absurd (omega (arith, below))
full_below (Some node ∷ slots) zero below = refl
full_below (Some node ∷ slots) (suc m) below = full_below slots m (omega (arith, below))

-- a number is the least that is vacant
pub record IsVacant (slots : List (Option Node)) (n : ℕ) : Type 0 where
  pub number : n ≡ position_or_len is_none slots
  pub within : n ≤ length slots
  pub full : AreFull slots n

pub is_vacant : (slots : List (Option Node)) (n : ℕ) → n ≡ position_or_len is_none slots → IsVacant slots n
is_vacant slots n number = record {
  number = number;
  within = omega (arith, number, vacant_within slots);
  full = subst (AreFull slots) (sym number) (full_below slots);
}

-- where the search from there on answers so
pub vacant_found : (slots : List (Option Node)) (least n : ℕ) (r : Option ℕ) → least ≤ length slots → AreFull slots least → r ≡ position is_none (drop least slots)
    → n ≡ least + unwrap_or r (length (drop least slots)) → IsVacant slots n
vacant_found slots least n r within full found is =
    is_vacant slots n (is ∙ ap (λ k. least + k) (place_or_end is_none (drop least slots) r found) ∙ sym (vacant_from slots least within full))

-- ---- where the search begins

pub vacancy_past : (slots : List (Option Node)) (count : ℕ) (vacancy : Vacancy) → length slots ≡ count → AreFull slots count → vacancy.least ≡ count → vacancy.others ≡ 0 → IsVacancy slots vacancy
vacancy_past slots count vacancy size full least none = record {
  within = omega (arith, size, least);
  full = subst (AreFull slots) (sym least) full;
  others_within = omega (arith, none);
  others = λ m below apart. absurd (omega (arith, below, none));
}

-- a node is taken out
pub vacancy_taken : (slots new : List (Option Node)) (n : ℕ) (old vacancy : Vacancy) → AreSameBut n slots new → length new ≡ length slots → IsVacancy slots old → vacancy.taken ≡ n → vacancy.others ≡ old.least → vacancy.least ≡ min old.least n
    → IsVacancy new vacancy
vacancy_taken slots new n old vacancy same size is taken others least =
    let within = is.within in record {
      within = omega (arith, within, size, least);
      full = λ m below. (ap is_some (same m (λ e. omega (arith, below, least, e))) ∙ is.full m (omega (arith, below, least)));
      others_within = omega (arith, within, size, others);
      others = λ m below apart. (ap is_some (same m (λ e. apart (e ∙ sym taken))) ∙ is.full m (omega (arith, below, others)));
    }

-- ---- what is held

pub held_set : (slots new : List (Option Node)) (table longer : Table) (vacancy next : Vacancy) (room n cs cs' : ℕ) (node : Node) → IsHeld slots table vacancy room cs
    → AreIndexed new longer → IsVacancy new next → new ≡ slice_set slots n (Some node) → cs' ≡ cs → IsHeld new longer next room cs'
held_set slots new table longer vacancy next room n cs cs' node held index vacant made slots_stay =
    let size : length new ≡ length slots = ap length made ∙ length-set slots n (Some node) in
    record {
      index = index;
      slots_room = omega (arith, size, slots_stay, held.slots_room);
      vacant = vacant;
    }

pub held_cleared : (slots new : List (Option Node)) (table shorter : Table) (vacancy next : Vacancy) (room n cs cs' : ℕ) → IsHeld slots table vacancy room cs
    → AreIndexed new shorter → IsVacancy new next → new ≡ slice_set slots n None → cs' ≡ cs → IsHeld new shorter next room cs'
held_cleared slots new table shorter vacancy next room n cs cs' held index vacant made slots_stay =
    let size : length new ≡ length slots = ap length made ∙ length-set slots n None in
    record {
      index = index;
      slots_room = omega (arith, size, slots_stay, held.slots_room);
      vacant = vacant;
    }

-- ---- the nodes

pub same_nodes : (a b : Numbers) → a.slots ≡ b.slots → nodes_of a ≡ nodes_of b
unfolding nodes_of
same_nodes a b e = ap (λ (slots : List (Option Node)). from_entries {R = nat_cmp} (numbered_from 0 slots)) e

pub nodes_put : (old new : Numbers) (n : ℕ) (node : Node) → slot_at new.slots n ≡ Some node → AreSameBut n old.slots new.slots → nodes_of new ≡ put (nodes_of old) n node
nodes_put old new n node is same = same_map nat_cmp_total nat_cmp-IsAntisymmetric (nodes_of new) (put (nodes_of old) n node)
    (λ q. get-nodes_of new q ∙ at q (cases_eq q n) ∙ sym (get-insert nat_cmp_total (nodes_of old) n node q))
  where
    at : (q : ℕ) → (q ≡ n) ⊎ (q ≡ n → ⊥) → slot_at new.slots q ≡ cond (eq_by_cmp nat_cmp q n) (Some node) (get (nodes_of old) q)
    at q (inl e) = ap (slot_at new.slots) e ∙ is ∙ sym (cond-true (eq_by_cmp nat_cmp q n) (Some node) (get (nodes_of old) q) (level q n e))
    at q (inr a) = same q a ∙ sym (get-nodes_of old q) ∙ sym (cond-false (eq_by_cmp nat_cmp q n) (Some node) (get (nodes_of old) q) (other q n a))

pub nodes_taken : (old new : Numbers) (n : ℕ) → slot_at new.slots n ≡ None → AreSameBut n old.slots new.slots → nodes_of new ≡ without (nodes_of old) n
nodes_taken old new n is same = same_map nat_cmp_total nat_cmp-IsAntisymmetric (nodes_of new) (without (nodes_of old) n)
    (λ q. get-nodes_of new q ∙ at q (cases_eq q n) ∙ sym (get-remove nat_cmp_total (nodes_of old) n q))
  where
    at : (q : ℕ) → (q ≡ n) ⊎ (q ≡ n → ⊥) → slot_at new.slots q ≡ cond (eq_by_cmp nat_cmp q n) None (get (nodes_of old) q)
    at q (inl e) = ap (slot_at new.slots) e ∙ is ∙ sym (cond-true (eq_by_cmp nat_cmp q n) None (get (nodes_of old) q) (level q n e))
    at q (inr a) = same q a ∙ sym (get-nodes_of old q) ∙ sym (cond-false (eq_by_cmp nat_cmp q n) None (get (nodes_of old) q) (other q n a))

-- each number of a tree without gaps has a node
pub all_full : (nodes : List Node) → AreFull (map Some nodes) (length nodes)
all_full [] m below = absurd (omega (arith, below))
all_full (x ∷ nodes) zero below = refl
all_full (x ∷ nodes) (suc m) below = all_full nodes m (omega (arith, below))
