use Rattle.std.proofs.Common.{◌≡◌, ◌<◌, ◌≤◌, ℕ, Bool, true, false, List, [], ◌∷◌, ◌++◌, length, refl, sym, ap, ap₂, ◌∙◌, arith, append_assoc, append-nil}
use Rattle.std.specs.Prelude.{◌&&◌, nat_le, nat_lt}
use Rattle.std.proofs.lemmas.Bool.{le-leb, le-ltb, lt-leb, lt-ltb}
use Rattle.fc_newmap.specs.Map.{ZoneRun, bits_in, id_runs}
use Rattle.fc_compact.proofs.PassLemmas.{bits_front, bits_more, long_more, not_second}
use Rattle.fc_compact.proofs.listed.several_found.Goals as goal

pub returns-then-total-from : goal.returns-then-total-from
returns-then-total-from c =
    let ids = id_runs c.args.map.now c.args.id in
    let was = c.loop-run.invariant in
    let p : ZoneRun = (c.in-Some.field-0-0, c.in-Some.run') in
    let r = c.in-Some.ensures.value was.left was.stands in
    let cut : ids ≡ was.passed ++ p ∷ r.0 = was.cut ∙ ap (λ (l : List ZoneRun). was.passed ++ l) r.1.0 in
    let front = bits_front was.passed p r.0 in
    let all : bits_in ids ≡ bits_in (was.passed ++ p ∷ r.0) = ap bits_in cut in
    not_second (nat_lt 1 (length ids)) (nat_le (bits_in ids) c.args.most)
    (lt-leb (bits_in ids) c.args.most (omega (arith, front, all, was.sum, c.from-total.ensures, c.from.ensures, c.if-total-from.true)))

pub loop-run-preserved : goal.loop-run-preserved
loop-run-preserved c =
    let was = c.loop-run.invariant in
    let p : ZoneRun = (c.in-Some.field-0-0, c.in-Some.run') in
    let r = c.in-Some.ensures.value was.left was.stands in
    let more = bits_more was.passed p in
    let long = long_more was.passed p in
    record {
      left = r.0;
      passed = was.passed ++ p ∷ [];
      stands = r.1.1;
      cut = was.cut ∙ ap (λ (l : List ZoneRun). was.passed ++ l) r.1.0 ∙ sym (append_assoc was.passed (p ∷ []) r.0);
      sum = omega (arith, more, was.sum, c.from-total.ensures);
      most = omega (arith, c.if-total-from.false, c.from.ensures);
      some = λ e. omega (arith, long);
      none = λ e. absurd (cc);
      more = λ e. (let s = was.some e in omega (arith, long, s));
      fewer = λ e. (let s = was.none e in omega (arith, long, s));
    }

pub returns : goal.returns
returns c =
    let ids = id_runs c.args.map.now c.args.id in
    let was = c.loop-run.invariant in
    let r = c.in_default.ensures.value was.left was.stands in
    let all : ids ≡ was.passed = was.cut ∙ ap (λ (l : List ZoneRun). was.passed ++ l) r.0 ∙ append-nil was.passed in
    let long : length ids ≡ length was.passed = ap length all in
    let bits : bits_in ids ≡ bits_in was.passed = ap bits_in all in
    by c.loop-run.several (length ids) (bits_in ids) c.args.most (λ e. (let m = was.more e in omega (arith, long, m))) (λ e. (let m = was.fewer e in omega (arith, long, m))) (omega (arith, bits, was.sum, was.most))
  where
    by : (s : Bool) (len bits most : ℕ) → (s ≡ true → 1 < len) → (s ≡ false → len ≤ 1) → bits ≤ most → s ≡ (nat_lt 1 len && nat_le bits most)
    by true len bits most more fewer fit = sym (ap₂ (λ a b. a && b) (lt-ltb 1 len (more refl)) (le-leb bits most fit))
    by false len bits most more fewer fit = sym (ap (λ a. a && nat_le bits most) (le-ltb 1 len (fewer refl)))
