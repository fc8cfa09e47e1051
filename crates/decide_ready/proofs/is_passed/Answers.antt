use Rattle.decide_ready.proofs.is_passed.Goals as goal

pub returns-in-Failed : goal.returns-in-Failed
returns-in-Failed c = simp c.in-Failed.is
