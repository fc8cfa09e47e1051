use native.Mathlib.Omega.{arith}
use Rattle.card.proofs.Entries.{at-end, past_end, refused, accepted}
use Rattle.card.proofs.read_at.Goals as goal

pub returns-then-count-at : goal.returns-then-count-at
returns-then-count-at c = at-end c.args.card.now c.args.at c.if-count-at.true

pub returns-then-count-at-2 : goal.returns-then-count-at-2
returns-then-count-at-2 c = past_end c.args.card.now c.args.at c.if-count-at.false c.if-count-at-2.true

pub returns-in_default : goal.returns-in_default
returns-in_default c = refused c.args.card.now c.args.at c.if-count-at.false c.if-count-at-2.false c.receipt_in.ensures c.in_default.is

pub returns : goal.returns
returns c = accepted c.args.card.now c.args.at c.if-count-at.false c.if-count-at-2.false c.receipt_in.ensures _ _ (omega arith) c.in-Some.is
