use Rattle.decide_reply.proofs.receipt_reason.Goals as goal

pub returns-then-ok : goal.returns-then-ok
returns-then-ok c = simp c.if-ok.true

pub returns : goal.returns
returns c = simp c.if-ok.false
