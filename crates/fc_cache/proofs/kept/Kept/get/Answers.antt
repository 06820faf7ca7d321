use Rattle.std.proofs.Common.{ℕ, List, option_copied, nat_eq, sym, ◌∙◌, ap, subst, length, Contains, Vec}
use Rattle.std.specs.Global.{Global}
use Rattle.lru.proofs.CallerLemmas.{Contains-promoted}
use Rattle.lru.specs.LruCache.{LruCache, promoted}
use Rattle.fc_cache.specs.Sectors.{entries_in}
use Rattle.fc_cache.proofs.KeptLemmas.{found}
use Rattle.fc_cache.proofs.kept.Kept.get.Goals as goal

pub copy_from_slice-requires : goal.copy_from_slice-requires
copy_from_slice-requires c =
    let at = ap entries_in c.in-Some.is in
    let bytes = c.in-Some-get.bytes.now in
    let there = found c.in-Some.cache.entries c.args.n bytes (sym c.get.ensures.value ∙ ap option_copied c.in-Some-get.is) in
    let long = c.requires.whole c.args.n bytes (subst (λ (es : List (ℕ × Vec ℕ Global)). Contains es (c.args.n, bytes)) (sym at) there) in
    sym (ap (λ (l : List ℕ). length l) c.deref.ensures.value ∙ long)

pub returns-in-None-get-clause-no_more : goal.returns-in-None-get-clause-no_more
returns-in-None-get-clause-no_more c =
    let at = ap entries_in c.in-Some.is in
    λ n bytes there. subst (λ (es : List (ℕ × Vec ℕ Global)). Contains es (n, bytes)) (sym at)
    (Contains-promoted (nat_eq c.args.n) c.in-Some.cache.entries (n, bytes) (subst (λ (k : LruCache ℕ (Vec ℕ Global)). Contains k.entries (n, bytes)) c.get.follows.holds-at-none there))

pub returns-in-Some-get-clause-filled : goal.returns-in-Some-get-clause-filled
returns-in-Some-get-clause-filled c =
    let at = ap entries_in c.in-Some.is in
    let bytes = c.in-Some-get.bytes.now in
    let there = found c.in-Some.cache.entries c.args.n bytes (sym c.get.ensures.value ∙ ap option_copied c.in-Some-get.is) in
    λ hit. (bytes, subst (λ (es : List (ℕ × Vec ℕ Global)). Contains es (c.args.n, bytes)) (sym at) there, c.copy_from_slice.ensures.after ∙ c.deref.ensures.value)

pub returns-in-Some-get-clause-no_more : goal.returns-in-Some-get-clause-no_more
returns-in-Some-get-clause-no_more c =
    let at = ap entries_in c.in-Some.is in
    λ n bytes there. subst (λ (es : List (ℕ × Vec ℕ Global)). Contains es (n, bytes)) (sym at)
    (Contains-promoted (nat_eq c.args.n) c.in-Some.cache.entries (n, bytes) (subst (λ (k : LruCache ℕ (Vec ℕ Global)). Contains k.entries (n, bytes)) c.get.follows.holds-at-none there))

pub returns-in-None-get-clause-order : goal.returns-in-None-get-clause-order
returns-in-None-get-clause-order c =
    ap (λ (k : LruCache ℕ (Vec ℕ Global)). k.entries) c.get.follows.holds-at-none ∙ ap (promoted (nat_eq c.args.n)) (sym (ap entries_in c.in-Some.is))

pub returns-in-Some-get-clause-order : goal.returns-in-Some-get-clause-order
returns-in-Some-get-clause-order c =
    ap (λ (k : LruCache ℕ (Vec ℕ Global)). k.entries) c.get.follows.holds-at-none ∙ ap (promoted (nat_eq c.args.n)) (sym (ap entries_in c.in-Some.is))
