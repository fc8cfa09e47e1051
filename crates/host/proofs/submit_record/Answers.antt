use borrow.Author.Rules.{rules}
use Rattle.cells.specs.Cells.{part}
use Rattle.host.proofs.submit_record.Goals as goal

pub returns : goal.returns
unfolding part
returns c = search rules
