use Rattle.std.proofs.Common.{◌≡◌, ℕ, ◌++◌, ◌∷◌, [], length, map, take, drop, slice_index_or, sym, ap, ◌∙◌, arith}
use Rattle.std.proofs.lemmas.List.{take_more, map-append, length-map, length-take, take_all}
use Rattle.fc_oldmap.specs.Holes.{hole}
use Rattle.fc_oldmap.specs.declared.Hole.{Hole}
use Rattle.fc_oldmap.proofs.WriteLemmas.{padded, padded-none, padded-written, padded-triples}
use Rattle.fc_oldmap.proofs.write.write_holes.Goals as goal

pub loop-i-init : goal.loop-i-init
loop-i-init c =
    record {
      starts = c.clear.ensures ∙ ap (λ l. l ++ drop 246 c.args.starts.now) padded-none;
      lengths = c.clear-2.ensures ∙ ap (λ l. l ++ drop 246 c.args.lengths.now) padded-none;
    }

pub loop-i-preserved : goal.loop-i-preserved
loop-i-preserved c =
    let holes = c.args.holes.now in
    let i = c.loop-i.i in
    let d = hole 0 0 in
    let more = take_more holes i d c.loop-i-test.true in
    let one = slice_index_or holes i d ∷ [] in
    let before = take i holes in
    let start : Hole → ℕ = λ h. h.start in
    let len : Hole → ℕ = λ h. h.len in
    let count : i ≡ length before = omega (arith, length-take i holes, c.loop-i-test.true) in
    record {
      starts = padded-written (map start before) (slice_index_or holes i d).start i c.loop-i.starts c.put_le24.new.b (drop 246 c.args.starts.now) (count ∙ sym (length-map before start)) (omega (arith, c.loop-i-test.true, c.requires.few)) c.loop-i.invariant.starts c.put_le24.ensures.bytes
          ∙ ap (λ l. padded l ++ drop 246 c.args.starts.now) (sym (ap (map start) more ∙ map-append start before one));
      lengths = padded-written (map len before) (slice_index_or holes i d).len i c.loop-i.lengths c.put_le24-in-loop-i.new.b (drop 246 c.args.lengths.now) (count ∙ sym (length-map before len)) (omega (arith, c.loop-i-test.true, c.requires.few)) c.loop-i.invariant.lengths c.put_le24-in-loop-i.ensures.bytes
          ∙ ap (λ l. padded l ++ drop 246 c.args.lengths.now) (sym (ap (map len) more ∙ map-append len before one));
    }

pub returns-clause-starts : goal.returns-clause-starts
returns-clause-starts c =
    let holes = c.args.holes.now in
    let start : Hole → ℕ = λ h. h.start in
    let all : take c.loop-i.i holes ≡ holes = take_all c.loop-i.i holes c.loop-i-test.false in
    c.loop-i.invariant.starts ∙ ap (λ l. padded (map start l) ++ drop 246 c.args.starts.now) all ∙ ap (λ l. l ++ drop 246 c.args.starts.now) (padded-triples (map start holes) (omega (arith, length-map holes start, c.requires.few)))

pub returns-clause-lengths : goal.returns-clause-lengths
returns-clause-lengths c =
    let holes = c.args.holes.now in
    let len : Hole → ℕ = λ h. h.len in
    let all : take c.loop-i.i holes ≡ holes = take_all c.loop-i.i holes c.loop-i-test.false in
    c.loop-i.invariant.lengths ∙ ap (λ l. padded (map len l) ++ drop 246 c.args.lengths.now) all ∙ ap (λ l. l ++ drop 246 c.args.lengths.now) (padded-triples (map len holes) (omega (arith, length-map holes len, c.requires.few)))
