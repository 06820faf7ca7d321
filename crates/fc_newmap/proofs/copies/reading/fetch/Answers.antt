use Rattle.std.proofs.Common.{◌∙◌}
use Rattle.fc_newmap.specs.declared.copies.Which.TheVariants.{One, Two}
use Rattle.fc_newmap.specs.Copies.{copy_of}
use Rattle.fc_newmap.proofs.ReadingLemmas.{chooses_none, chooses_one, chooses_two, not_counted, sound_copy, wrong_copy}
use Rattle.fc_newmap.proofs.copies.reading.fetch.Goals as goal

pub returns-in_default-clause-answer : goal.returns-in_default-clause-answer
returns-in_default-clause-answer g c = λ image told.
    chooses_one c.args.g.now image (sound_copy (copy_of c.args.g.now One image) c.in_ok-c1.field-0 (c.in_ok-c1.ensures.found image told) c.in_default.is)

pub returns-in-None-clause-answer : goal.returns-in-None-clause-answer
returns-in-None-clause-answer g c = λ image told.
    let geometry = c.args.g.now in
    let first = wrong_copy (copy_of geometry One image) c.in_ok-c1.field-0 c.in-Some.c1 (c.in_ok-c1.ensures.found image told) c.in-Some.is in
    let there = c.in_ok-read_copy.ensures.found image (c.read_copy.ensures.reads.bytes ∙ told) in
    chooses_two geometry image first.0 (sound_copy (copy_of geometry Two image) c.in_ok-read_copy.field-0 there c.in-None.is)

pub returns-in-Some-2-clause-answer : goal.returns-in-Some-2-clause-answer
returns-in-Some-2-clause-answer g c = λ image told.
    let geometry = c.args.g.now in
    let first = wrong_copy (copy_of geometry One image) c.in_ok-c1.field-0 c.in-Some.c1 (c.in_ok-c1.ensures.found image told) c.in-Some.is in
    let there = c.in_ok-read_copy.ensures.found image (c.read_copy.ensures.reads.bytes ∙ told) in
    let second = wrong_copy (copy_of geometry Two image) c.in_ok-read_copy.field-0 c.in-Some-2.c2 there c.in-Some-2.is in
    chooses_none geometry image c.in-Some.c1 c.in-Some-2.c2 first.0 first.1 second.0 second.1

pub returns-in-None-clause-first_alone : goal.returns-in-None-clause-first_alone
returns-in-None-clause-first_alone g c = λ image told counts.
    absurd (not_counted c.args.g.now image (wrong_copy (copy_of c.args.g.now One image) c.in_ok-c1.field-0 c.in-Some.c1 (c.in_ok-c1.ensures.found image told) c.in-Some.is).0 counts)

pub returns-in-Some-2-clause-first_alone : goal.returns-in-Some-2-clause-first_alone
returns-in-Some-2-clause-first_alone g c = λ image told counts.
    absurd (not_counted c.args.g.now image (wrong_copy (copy_of c.args.g.now One image) c.in_ok-c1.field-0 c.in-Some.c1 (c.in_ok-c1.ensures.found image told) c.in-Some.is).0 counts)

pub returns-in_err-read_copy-clause-first_alone : goal.returns-in_err-read_copy-clause-first_alone
returns-in_err-read_copy-clause-first_alone g c = λ image told counts.
    absurd (not_counted c.args.g.now image (wrong_copy (copy_of c.args.g.now One image) c.in_ok-c1.field-0 c.in-Some.c1 (c.in_ok-c1.ensures.found image told) c.in-Some.is).0 counts)
