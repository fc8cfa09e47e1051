use Rattle.decide_read.proofs.no_capability.Goals as goal

pub returns : goal.returns
returns c = simp c.blank.ensures
