use Rattle.decide_start.proofs.numbers_of.Goals as goal

pub returns : goal.returns
returns c = rw c.first_state-state.ensures
