use mathlib.Core.Path.{refl}
use Rattle.rows.specs.Rows.{renewal_row}
use Rattle.rows.proofs.Signs.{renewal-back}
use borrow.Author.Rules.{rules}
use Rattle.rows.proofs.renewal_row.Goals as goal

pub returns : goal.returns
unfolding renewal_row
returns c = record { row = refl; back = renewal-back _ (search rules) }
