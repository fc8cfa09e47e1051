use Rattle.host_steps.proofs.Leases.{fits-so, unfit-so}
use borrow.Author.Rules.{rules}
use Rattle.host_steps.proofs.fits.Goals as goal

pub returns-then-axis-lt8 : goal.returns-then-axis-lt8
returns-then-axis-lt8 c = fits-so c.args.axis c.args.now c.args.duration_ms (search rules) c.if-axis-lt8.true

pub returns-else-axis-lt8 : goal.returns-else-axis-lt8
returns-else-axis-lt8 c = unfit-so c.args.axis c.args.now c.args.duration_ms c.if-axis-lt8.false
