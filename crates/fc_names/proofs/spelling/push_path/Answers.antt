use Rattle.std.proofs.lemmas.List.Elements.{All-tail}
use Rattle.fc_names.specs.Names.{IsName}
use Rattle.fc_names.proofs.SpellingLemmas.{part_pushed, still_kept}
use Rattle.fc_names.proofs.spelling.push_path.Goals as goal

pub loop-name-preserved : goal.loop-name-preserved
loop-name-preserved c =
    let left = c.in-Some.ensures.steps in
    let named = rw left at c.loop-name.invariant.1 in (
      part_pushed c.loop-name.into.items c.push_part.new.into.items _ c.in-Some.name.now c.next.new.self
          (rw left at c.loop-name.invariant.0) c.in_ok-push_part.ensures.ok,
      All-tail IsName c.in-Some.name.now c.next.new.self named,
      still_kept c.args.into.now.items c.loop-name.into.items c.push_part.new.into.items c.loop-name.invariant.2 c.push_part.ensures.kept,
    )

pub returns-in_err-push_part-clause-kept : goal.returns-in_err-push_part-clause-kept
returns-in_err-push_part-clause-kept c =
    still_kept c.args.into.now.items c.loop-name.into.items c.push_part.new.into.items c.loop-name.invariant.2 c.push_part.ensures.kept
