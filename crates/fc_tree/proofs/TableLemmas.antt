-- The index of all directories under changes of one node.
use Rattle.std.proofs.Common.{◌≡◌, ◌≢◌, ◌<◌, ℕ, List, Option, Some, None, sym, ap, subst, ◌∙◌, inl, inr, length, Vec, Global, arith}
use Rattle.std.specs.Prelude.{slice_index}
use Rattle.std.specs.List.{insert, remove}
use Rattle.std.proofs.lemmas.Bool.{cases_eq, cases_lt}
use Rattle.fc_alloc.specs.Lists.{nodes_at}
use Rattle.fc_alloc.proofs.ListLemmas.{nodes_past}
use Rattle.fc_tree.specs.declared.node.Node.{Node}
use Rattle.fc_tree.specs.Slots.{slot_at, AreSameBut}
use Rattle.fc_tree.specs.Index.{key_of, IsIndex, IsRank}
use Rattle.fc_tree.proofs.PlaceInLists.{some_same}
use Rattle.fc_tree.proofs.IndexLemmas.{index_other, index_put, index_taken}

-- the list of each directory is right
abbrev pub AreLists : List (Option Node) → List (Vec ℕ Global) → Type 0
AreLists slots lists = (dir : ℕ) → IsIndex dir slots (nodes_at lists dir)

empty : (slots : List (Option Node)) (n : ℕ) (x : Node) → slot_at slots n ≡ None → slot_at slots n ≡ Some x → ⊥
empty slots n x none is = cc

-- one more number, at its rank among those of its directory
pub lists_put : (slots new : List (Option Node)) (old lists : List (Vec ℕ Global)) (rank n : ℕ) (node : Node) → AreLists slots old → slot_at slots n ≡ None → slot_at new n ≡ Some node → AreSameBut n slots new
    → IsRank slots (nodes_at old node.holder) (key_of n node) rank → nodes_at lists node.holder ≡ insert (nodes_at old node.holder) rank n
    → ((d : ℕ) → d ≢ node.holder → nodes_at lists d ≡ nodes_at old d) → AreLists new lists
lists_put slots new old lists rank n node index none is same ranked here elsewhere dir =
    elim (cases_eq dir node.holder) [
      | inl e ↦
          subst (λ d. IsIndex d new (nodes_at lists d)) (sym e)
          (subst (IsIndex node.holder new) (sym here) (index_put slots new (nodes_at old node.holder) rank n node (index node.holder) none is same ranked))
      | inr a ↦
          subst (IsIndex dir new) (sym (elsewhere dir a))
          (index_other dir slots new (nodes_at old dir) n (index dir) same
          (λ x was held. empty slots n x none was)
          (λ x now held. a (sym held ∙ ap (λ (y : Node). y.holder) (some_same x node (sym now ∙ is)))))
    ]

-- one number less
pub lists_taken : (slots new : List (Option Node)) (old lists : List (Vec ℕ Global)) (rank n : ℕ) (node : Node) → AreLists slots old → slot_at slots n ≡ Some node → slot_at new n ≡ None → AreSameBut n slots new
    → rank < length (nodes_at old node.holder) → slice_index (nodes_at old node.holder) rank ≡ n → nodes_at lists node.holder ≡ remove (nodes_at old node.holder) rank
    → ((d : ℕ) → d ≢ node.holder → nodes_at lists d ≡ nodes_at old d) → AreLists new lists
lists_taken slots new old lists rank n node index is none same within at here elsewhere dir =
    elim (cases_eq dir node.holder) [
      | inl e ↦
          subst (λ d. IsIndex d new (nodes_at lists d)) (sym e)
          (subst (IsIndex node.holder new) (sym here) (index_taken slots new (nodes_at old node.holder) rank n node (index node.holder) is none same within at))
      | inr a ↦
          subst (IsIndex dir new) (sym (elsewhere dir a))
          (index_other dir slots new (nodes_at old dir) n (index dir) same
          (λ x was held. a (sym held ∙ ap (λ (y : Node). y.holder) (some_same x node (sym was ∙ is))))
          (λ x now held. empty new n x none now))
    ]

-- a directory with numbers is in the table
pub list_there : (lists : List (Vec ℕ Global)) (dir at : ℕ) → at < length (nodes_at lists dir) → dir < length lists
list_there lists dir at within = elim (cases_lt dir (length lists)) [
  | inl l ↦ l
  | inr l ↦ absurd (omega (arith, within, ap length (nodes_past lists dir l)))
]
