use Rattle.decide_read.proofs.no_receipt.Goals as goal

pub returns : goal.returns
returns c = simp c.blank.ensures
