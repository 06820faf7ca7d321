use Rattle.std.proofs.Common.{ℕ, List, inl, inr, ⊎_elim, sym, ◌∙◌, ap, subst, Contains, Vec}
use Rattle.std.specs.Global.{Global}
use Rattle.fc_cache.specs.Sectors.{entries_in}
use Rattle.fc_cache.proofs.KeptLemmas.{put_is, put_or_not}
use Rattle.fc_cache.proofs.kept.Kept.put.Goals as goal

pub returns-in-Ok-clause-no_more : goal.returns-in-Ok-clause-no_more
returns-in-Ok-clause-no_more c =
    let at = ap entries_in c.in-Some.is in
    let copy = c.in-Ok.ensures.items_if_clones_equal (λ x y e. e) in
    λ m bytes there.
    ⊎_elim (λ old. inl (subst (λ (es : List (ℕ × Vec ℕ Global)). Contains es (m, bytes)) (sym at) old)) (λ put. inr (put.0, ap (λ (v : Vec ℕ Global). v.items) put.1 ∙ copy))
    (put_or_not c.put.result c.in-Some.cache c.put.new.self c.args.n c.in-Ok.bytes c.put.ensures.entries c.put.ensures.err m bytes there)

pub returns-in-Ok-clause-order : goal.returns-in-Ok-clause-order
returns-in-Ok-clause-order c =
    put_is c.put.result c.in-Some.cache c.put.new.self c.args.n c.in-Ok.bytes c.args.from.now (entries_in c.args.self.now.cache) (ap entries_in c.in-Some.is) (c.args.self.now.most c.in-Some.cache c.in-Some.is)
    (c.in-Ok.ensures.items_if_clones_equal (λ x y e. e)) c.put.ensures.entries c.put.ensures.err
