use Rattle.model.proofs.ActiveSlot.blank.Goals as goal

pub returns : goal.returns
returns c = simp c.blank.ensures
