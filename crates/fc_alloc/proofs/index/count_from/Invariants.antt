use Rattle.std.proofs.Common.{◌≡◌, ℕ, ◌<◌, ◌≤◌, get_or, take, vec_len}
use Rattle.fc_alloc.proofs.CountLemmas.{count}
use Rattle.fc_alloc.proofs.index.count_from.Given as goal

abbrev pub invariant-loop-owner : goal.invariant-loop-owner
invariant-loop-owner l = record {
  len : vec_len l.counts ≡ vec_len l.fn.counts;
  before : (id : ℕ) → id < l.from → get_or l.counts.items id 0 ≡ get_or l.fn.counts.items id 0;
  counted : (id : ℕ) → l.from ≤ id → id < vec_len l.fn.counts → get_or l.counts.items id 0 ≡ count (take l.owner-index l.list) id;
}
