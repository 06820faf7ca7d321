use Rattle.std.proofs.Common.{rules, ◌≡◌, ◌∙◌, ◌+◌, ◌++◌, ◌≤◌, true, false, List, ℕ, length, inl, refl, sym, ap, subst, length-append, arith}
use Rattle.fc_host.specs.Asked.{taken_by}
use Rattle.fc_host.specs.Files.{bytes_of}
use Rattle.fc_host.specs.Looks.{Takes}
use Rattle.fc_host.specs.declared.asks.HostCall.TheVariants as calls
use Rattle.fc_host.proofs.AskedLemmas.{taken_push}
use Rattle.fc_host.proofs.FileLemmas.{given_more}
use Rattle.fc_host.proofs.host_supply.HostSupplySupply.fill.Goals as goal

pub returns-clause-given : goal.returns-clause-given
returns-clause-given g c =
    let old = c.args.self.now in
    ap taken_by c.note.ensures ∙ taken_push old.given.list (old.name.now, calls.Take old.at, c.take_all.new.into)

pub invariant_of-self-2 : goal.invariant_of-self-2
invariant_of-self-2 g c =
    let old = c.args.self.now in
    let into = c.take_all.new.into in
    let is : taken_by c.note.new.self.list ≡ taken_by old.given.list ++ into = ap taken_by c.note.ensures ∙ taken_push old.given.list (old.name.now, calls.Take old.at, into) in
    let same : length c.args.into.now ≡ length into = search rules in
    record {
      named = old.named;
      short = old.short;
      inside = omega (arith, c.requires, same, old.given_is);
      given_is = ap length is ∙ length-append (taken_by old.given.list) into ∙ ap (λ (n : ℕ). n + length into) old.given_is;
      told = λ files known.
          given_more (bytes_of files old.name.now) (taken_by old.given.list) into (taken_by c.note.new.self.list) old.at old.total (length c.args.into.now) old.given_is is same
          (old.told files (sym c.take_all.ensures.files ∙ known)) (c.in_default.ensures.told files (sym c.take_all.ensures.files ∙ known));
    }

pub returns-clause-goes : goal.returns-clause-goes
returns-clause-goes g c =
    let old = c.args.self.now in
    let into = c.take_all.new.into in (
      refl,
      refl,
      refl,
      record {
        files = c.take_all.ensures.files;
        later = c.take_all.ensures.cause.later;
        looks = c.take_all.ensures.asked;
        fails = λ is. inl is;
        stays = λ is. absurd (let clash : false ≡ true = sym c.if-self.false ∙ is in cc);
        takes = λ is. (is, (into, returns-clause-given g c, subst (λ (n : ℕ). Takes old.name.now n into (g.H.Host.asked old.host.now) (g.H.Host.asked c.take_all.new.host)) (sym old.given_is) c.in_default.ensures.taken));
      },
    )
