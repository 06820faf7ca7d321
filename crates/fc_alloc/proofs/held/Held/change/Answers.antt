use Rattle.fc_alloc.proofs.held.Held.change.Goals as goal

pub returns : goal.returns
returns c owners left changed before after had = c.put.ensures left changed after (c.take.ensures owners left before had)
