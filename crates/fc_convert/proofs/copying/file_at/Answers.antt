use Rattle.fc_convert.proofs.copying.file_at.Goals as goal

pub returns-clause-bytes : goal.returns-clause-bytes
returns-clause-bytes g c kind s holds = (c.in-Ok.ensures.answer s.image kind s.view holds.opens holds.parts).1
