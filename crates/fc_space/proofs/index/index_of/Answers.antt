use Rattle.std.proofs.Common.{◌≡◌, ◌++◌, true, false, List, rules, ap, ◌∙◌}
use Rattle.std.specs.List.Sorted.{IsStableByKey}
use Rattle.std.specs.Ordering.{nat_cmp}
use Rattle.std.proofs.lemmas.Fn.{always_returns_same}
use Rattle.std.proofs.lemmas.List.Sorted.{All-permutation, IsNonDecreasingBy-from_sort_by_key}
use Rattle.fc_newmap.specs.Map.{ZoneRun, all_runs}
use Rattle.fc_newmap.proofs.HeldLemmas.{geometry_facts}
use Rattle.fc_space.specs.declared.index.IdRow.{IdRow}
use Rattle.fc_space.specs.Index.{IsLow, places_in, rows_of, rows_with}
use Rattle.fc_space.proofs.IndexLemmas.{none_low, rows_found, rows_sorted}
use Rattle.fc_space.proofs.index.index_of.Goals as goal

pub returns : goal.returns
returns c =
    let m = c.args.map.now in
    let runs : List ZoneRun = all_runs m in
    let ahead : List IdRow = rows_with m.geometry true runs in
    let behind : List IdRow = rows_with m.geometry false runs in
    let old = c.push_runs-2.new.rows.items in
    let new = c.sort_by_key.new.self.items in
    let first : c.push_runs.new.rows.items ≡ ahead = c.in_ok-push_runs.ensures.rows ∙ ap (λ (l : List IdRow). l ++ ahead) c.new-rows.ensures.items in
    let all : old ≡ ahead ++ behind = c.in_ok-push_runs-2.ensures.rows ∙ ap (λ (l : List IdRow). l ++ behind) first in
    let stable : IsStableByKey (λ (r : IdRow). r.id) nat_cmp old new = c.in_ok-sort_by_key.ensures.stable (λ (r : IdRow). r.id) (always_returns_same _ _ _ (λ a r q h. search rules)) in
    let facts = geometry_facts m.geometry c.in_ok-push_runs.ensures.map.of_record in
    record {
      each = λ id. ap places_in (rows_sorted old new stable id ∙ ap (rows_of id) all) ∙ rows_found m id facts.zones;
      rising = IsNonDecreasingBy-from_sort_by_key (λ (r : IdRow). r.id) new c.in_ok-sort_by_key.ensures.sorted (λ a r q k. search rules);
      low = All-permutation IsLow old new c.in_ok-sort_by_key.ensures.permutation
          (c.in_ok-push_runs-2.ensures.low (c.in_ok-push_runs.ensures.low (none_low c.new-rows.result.items c.new-rows.ensures.items)));
    }
