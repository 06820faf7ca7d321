use Rattle.std.proofs.Common.{◌≡◌, ℕ, length, rules, List, Some, Vec, refl, sym, ◌∙◌, subst}
use Rattle.std.specs.Global.{Global}
use Rattle.fc_cache.specs.Sectors.{IsPut, entries_of}
use Rattle.fc_cache.proofs.CachedLemmas.{failed_read, never_both, right_with, still_right, still_whole, whole_with}
use Rattle.fc_cache.proofs.KeptLemmas.{none_promoted}
use Rattle.fc_cache.proofs.cached.CachedDiskDisk.read.Goals as goal

pub get-requires : goal.get-requires
get-requires g c = record { whole = λ n bytes there. c.args.self.now.whole n bytes there ∙ sym c.requires.whole }

pub invariant_of-self : goal.invariant_of-self
invariant_of-self g c =
    let was = c.args.self.now in
    let size = g.D.Disk.sector_size was.inner in
    record {
      whole = still_whole was.kept c.get.new.self size size refl was.whole c.get.ensures.no_more;
      right = still_right was.kept c.get.new.self size size _ _ refl refl was.right c.get.ensures.no_more;
    }

pub returns-then-get-clause-filled : goal.returns-then-get-clause-filled
returns-then-get-clause-filled g c =
    let hit = c.get.ensures.filled c.if-get.true in
    λ image told. hit.2 ∙ c.args.self.now.right image told c.args.n hit.0 hit.1

pub invariant_of-self-in-Break-1 : goal.invariant_of-self-in-Break-1
invariant_of-self-in-Break-1 g c =
    let was = c.args.self.now in
    let size = g.D.Disk.sector_size was.inner in
    let same = c.read.ensures.form.size_stays in
    record {
      whole = still_whole was.kept c.get.new.self size _ same was.whole c.get.ensures.no_more;
      right = still_right was.kept c.get.new.self size _ _ _ same c.read.ensures.bytes was.right c.get.ensures.no_more;
    }

pub invariant_of-self-2 : goal.invariant_of-self-2
invariant_of-self-2 g c =
    let d = g.D.Disk in
    let was = c.args.self.now in
    let now = c.read.new.self in
    let size = d.sector_size was.inner in
    let same = c.read.ensures.form.size_stays in
    let whole = still_whole was.kept c.get.new.self size size refl was.whole c.get.ensures.no_more in
    let right = still_right was.kept c.get.new.self size size (d.bytes was.inner) (d.bytes now) refl c.read.ensures.bytes was.right c.get.ensures.no_more in
    let filled = λ (image : List ℕ) (told : d.bytes now ≡ Some image). c.in_ok-read.ensures.filled image (sym c.read.ensures.bytes ∙ told) in
    let kept = c.put.new.self in
    let long : length c.read.new.into ≡ size = search rules in
    record {
      whole = still_whole kept kept size _ same (whole_with c.get.new.self kept size c.args.n c.read.new.into long whole c.put.ensures.no_more) (λ n bytes there. there);
      right = still_right kept kept size _ (d.bytes now) _ same refl (right_with c.get.new.self kept size c.args.n c.read.new.into (d.bytes now) filled right c.put.ensures.no_more) (λ n bytes there. there);
    }

pub returns-then-get-clause-keeps : goal.returns-then-get-clause-keeps
returns-then-get-clause-keeps g c =
    let kept = sym c.get.ensures.kept ∙ c.if-get.true in
    record {
      hit = λ is. c.get.ensures.order;
      miss = λ not. absurd (never_both kept not);
      failed = λ not. absurd (never_both kept not);
    }

pub returns-in_err-read-clause-keeps : goal.returns-in_err-read-clause-keeps
returns-in_err-read-clause-keeps g c =
    let out = sym c.get.ensures.kept ∙ c.if-get.false in
    failed_read c.from_residual.result c.from_residual.ensures.0 c.args.n c.read.new.into c.args.self.now.kept c.get.new.self out
    (c.get.ensures.order ∙ none_promoted (entries_of c.args.self.now.kept) c.args.n out)

pub returns-clause-keeps : goal.returns-clause-keeps
returns-clause-keeps g c =
    let out = sym c.get.ensures.kept ∙ c.if-get.false in
    let same = c.get.ensures.order ∙ none_promoted (entries_of c.args.self.now.kept) c.args.n out in
    record {
      hit = λ is. absurd (never_both is out);
      miss = λ not. subst (λ (es : List (ℕ × Vec ℕ Global)). IsPut c.args.n c.read.new.into es (entries_of c.put.new.self)) same c.put.ensures.order;
      failed = λ not. tt;
    }
