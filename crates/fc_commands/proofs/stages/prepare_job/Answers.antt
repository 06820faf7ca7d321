use Rattle.fc_commands.proofs.stages.prepare_job.Goals as goal

pub draft-requires-clause-can : goal.draft-requires-clause-can
draft-requires-clause-can c = c.requires.draft c.in_ok-wanted.wanted c.in-Ok.spaces (record { wants = c.in_ok-wanted.ensures.wants; places = c.in-Ok.ensures.places })
