use Rattle.std.proofs.Common.{ap, arith}
use Rattle.std.specs.Prelude.{slice_index, bit_xor}
use Rattle.fc_newmap.proofs.ComposeLemmas.{same_then}
use Rattle.fc_newmap.proofs.CopyMapLemmas.{turned, turned_contents}
use Rattle.fc_newmap.proofs.copies.committing.turn.Goals as goal

pub returns-clause-map : goal.returns-clause-map
returns-clause-map c = turned c.args.map.now c.set_cross.new.self c.seal.new.self c.args.z _ c.args.delta c.set_cross.ensures.map c.seal.ensures.map (ap (λ s. bit_xor (slice_index s 3) c.args.delta) c.bytes.ensures.value)

pub returns-clause-runs : goal.returns-clause-runs
returns-clause-runs c = same_then c.args.map.now c.set_cross.new.self c.seal.new.self c.set_cross.ensures.runs c.seal.ensures.runs

pub returns-clause-contents : goal.returns-clause-contents
returns-clause-contents c = turned_contents c.args.map.now c.seal.new.self c.args.z c.args.delta (let is = c.set_cross.ensures.runs.was in omega (arith, c.requires.zone, is.all)) (returns-clause-map c)
