use Rattle.receipts.proofs.Promises.{older-le, points_none, points-rejection, points-other}
use Rattle.receipts.proofs.place_of.Goals as goal

pub returns-then-count-at : goal.returns-then-count-at
returns-then-count-at c = points_none c.args.index c.args.at c.if-count-at.true

pub overflow_sub-at : goal.overflow_sub-at
overflow_sub-at c = older-le c.args.index c.requires c.args.at c.if-count-at.false

pub returns-then-upto-eq1 : goal.returns-then-upto-eq1
returns-then-upto-eq1 c = rw c.at.ensures (points-rejection c.args.index c.requires c.args.at c.if-count-at.false c.if-upto-eq1.true)

pub returns-else-upto-eq1 : goal.returns-else-upto-eq1
returns-else-upto-eq1 c = rw c.at-else-upto-eq1.ensures (points-other c.args.index c.requires c.args.at c.if-count-at.false c.if-upto-eq1.false)
