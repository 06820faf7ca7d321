use Rattle.std.proofs.Common.{◌*◌, ◌++◌, length, map, take, drop, slice_set, ap, ◌∙◌}
use Rattle.fc_oldmap.specs.declared.Hole.{Hole}
use Rattle.fc_oldmap.specs.OldMap.{with_holes, triples, checked_half}
use Rattle.fc_oldmap.proofs.WriteLemmas.{first_half, second_half}
use Rattle.fc_oldmap.proofs.write.write_map.Goals as goal

pub returns : goal.returns
unfolding with_holes
returns c =
    let b = c.args.b.now in
    let holes = c.args.holes.now in
    let starts = map (λ (h : Hole). h.start) holes in
    let lengths = map (λ (h : Hole). h.len) holes in
    let split = c.split_at_mut-first.ensures in
    let first = c.write_holes.ensures.starts ∙ ap (λ l. triples starts ++ drop 246 l) split.front in
    let second = c.write_holes.ensures.lengths ∙ ap (λ l. triples lengths ++ drop 246 l) split.back in
    let one = c.seal_half.ensures ∙ ap checked_half first ∙ first_half starts b c.requires.size in
    let two = c.seal_half-2.ensures ∙ ap (λ l. checked_half (slice_set l 254 (3 * length holes))) second ∙ second_half lengths b (3 * length holes) c.requires.size in
    ap (λ l. l ++ c.seal_half-2.new.half) one ∙ ap (λ l. checked_half (triples starts ++ take 9 (drop 246 b)) ++ l) two
