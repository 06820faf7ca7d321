use Rattle.std.proofs.Common.{ℕ, List, nat_eq, is_some, sym, ◌∙◌, ap, subst, Contains, Vec}
use Rattle.std.specs.Global.{Global}
use Rattle.std.specs.Map.{lookup, remove_entry}
use Rattle.lru.proofs.CallerLemmas.{Contains-remove_entry}
use Rattle.lru.specs.LruCache.{LruCache}
use Rattle.fc_cache.specs.Sectors.{entries_in}
use Rattle.fc_cache.proofs.KeptLemmas.{missed, removed}
use Rattle.fc_cache.proofs.kept.Kept.remove.Goals as goal

pub returns-then-len-gt0-clause-gone : goal.returns-then-len-gt0-clause-gone
returns-then-len-gt0-clause-gone c =
    ap (λ (k : LruCache ℕ (Vec ℕ Global)). is_some (lookup (nat_eq c.args.n) k.entries)) c.pop.ensures.entries ∙ ap is_some (removed c.in-Some.cache.entries c.args.n c.len.ensures.valid.0)

pub returns-then-len-gt0-clause-none : goal.returns-then-len-gt0-clause-none
returns-then-len-gt0-clause-none c =
    λ bytes there.
    missed (remove_entry (nat_eq c.args.n) c.in-Some.cache.entries) c.args.n bytes (subst (λ (k : LruCache ℕ (Vec ℕ Global)). Contains k.entries (c.args.n, bytes)) c.pop.ensures.entries there)
    (removed c.in-Some.cache.entries c.args.n c.len.ensures.valid.0)

pub returns-then-len-gt0-clause-no_more : goal.returns-then-len-gt0-clause-no_more
returns-then-len-gt0-clause-no_more c =
    let at = ap entries_in c.in-Some.is in
    λ n bytes there. subst (λ (es : List (ℕ × Vec ℕ Global)). Contains es (n, bytes)) (sym at)
    (Contains-remove_entry (nat_eq c.args.n) c.in-Some.cache.entries (n, bytes) (subst (λ (k : LruCache ℕ (Vec ℕ Global)). Contains k.entries (n, bytes)) c.pop.ensures.entries there))

pub returns-then-len-gt0-clause-order : goal.returns-then-len-gt0-clause-order
returns-then-len-gt0-clause-order c =
    ap (λ (k : LruCache ℕ (Vec ℕ Global)). k.entries) c.pop.ensures.entries ∙ ap (remove_entry (nat_eq c.args.n)) (sym (ap entries_in c.in-Some.is))
