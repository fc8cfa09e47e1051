use Rattle.receipts.proofs.Promises.{pushes-rejection, pushes-other}
use Rattle.receipts.proofs.push.Goals as goal

pub returns-then-rejected : goal.returns-then-rejected
returns-then-rejected c =
    let f = c.free-freed in
    rw (c.if-rejected.true, c.longer.ensures, c.at.ensures)
    (pushes-rejection c.args.index c.args.oldest_rejected c.args.oldest_other f.result f.ensures)

pub returns-else-rejected : goal.returns-else-rejected
returns-else-rejected c =
    let f = c.free-freed in
    rw (c.if-rejected.false, c.longer-else-rejected.ensures, c.at-else-rejected.ensures)
    (pushes-other c.args.index c.args.oldest_rejected c.args.oldest_other f.result f.ensures)
