use Rattle.std.proofs.Common.{◌≡◌, ◌≤◌, ℕ, ◌-◌, true, false, length, take, drop, List, rules, sym, ap, subst, ◌∙◌}
use Rattle.std.specs.Prelude.{nat_le, nat_lt}
use Rattle.std.specs.List.Sorted.{IsPartitionPoint, IsNonDecreasingBy}
use Rattle.std.proofs.lemmas.Fn.{always_returns_same}
use Rattle.std.proofs.lemmas.List.Sorted.{IsNonDecreasingBy-drop, IsPartitionedBy-leb, IsPartitionedBy-ltb}
use Rattle.fc_space.specs.declared.index.IdRow.{IdRow}
use Rattle.fc_space.proofs.IndexLemmas.{all_left, rows_cut}
use Rattle.fc_space.proofs.index.rows_of.Goals as goal

pub returns : goal.returns
returns c =
    let rows = c.args.rows.now in
    let id = c.args.id in
    let from = c.partition_point-from.result in
    let count = c.partition_point-count.result in
    let rest : List IdRow = take (length rows - from) (drop from rows) in
    let same : rest ≡ drop from rows = all_left from rows in
    let key : IdRow → ℕ = (λ r. r.id) in
    let rises : IsNonDecreasingBy key rest = subst (IsNonDecreasingBy key) (sym same) (IsNonDecreasingBy-drop key from rows c.requires) in
    let low : IsPartitionPoint (λ (r : IdRow). nat_lt r.id id ≡ true) (λ (r : IdRow). nat_lt r.id id ≡ false) rows from =
    c.partition_point-from.ensures.partitioned (λ r. nat_lt r.id id) (always_returns_same _ _ _ (λ a r q h. search rules)) (IsPartitionedBy-ltb key rows id c.requires) in
    let high : IsPartitionPoint (λ (r : IdRow). nat_le r.id id ≡ true) (λ (r : IdRow). nat_le r.id id ≡ false) rest count =
    c.partition_point-count.ensures.partitioned (λ r. nat_le r.id id) (always_returns_same _ _ _ (λ a r q h. search rules)) (IsPartitionedBy-leb key rest id rises) in
    ap (take count) same
    ∙ rows_cut rows id from count c.partition_point-from.ensures.bound (subst (λ (l : List IdRow). count ≤ length l) same c.partition_point-count.ensures.bound) low
    (subst (λ (l : List IdRow). IsPartitionPoint (λ (r : IdRow). nat_le r.id id ≡ true) (λ (r : IdRow). nat_le r.id id ≡ false) l count) same high)
