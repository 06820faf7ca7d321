use Rattle.std.proofs.Common.{◌≡◌, ◌+◌, ◌%◌, ◌∷◌, [], ◌++◌, sym, ap, ◌∙◌, arith, length-set}
use Rattle.std.proofs.lemmas.List.{take_more_set}
use Rattle.std.proofs.lemmas.List.FromFn.{map-range_with_len_more}
use Rattle.fc_demo.proofs.words.saved_bytes.Goals as goal

pub loop-j-preserved : goal.loop-j-preserved
loop-j-preserved c =
    let byte = (c.args.i + c.loop-j.j) % 256 in
    let long = c.loop-j.invariant.long in
    record {
      long = length-set c.loop-j.bytes c.loop-j.j byte ∙ long;
      first = take_more_set c.loop-j.bytes c.loop-j.j byte (omega (arith, long, c.loop-j-test.true, c.requires.few))
          ∙ ap (λ xs. xs ++ byte ∷ []) c.loop-j.invariant.first
          ∙ sym (map-range_with_len_more (λ j. (c.args.i + j) % 256) 0 c.loop-j.j c.loop-j.j (let e : 0 + c.loop-j.j ≡ c.loop-j.j = omega arith in e));
    }
