use Rattle.host_records.proofs.step.Goals as goal

pub returns : goal.returns
returns c = c.take-taken.ensures.goes _ c.taken_words.ensures
