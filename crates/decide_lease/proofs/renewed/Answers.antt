use mathlib.Core.Path.{refl}
use Rattle.decide_lease.proofs.Grants.{renews}
use borrow.Author.Rules.{rules}
use Rattle.decide_lease.proofs.renewed.Goals as goal

pub returns : goal.returns
returns c =
    let a = c.args in
    renews a.fixed a.numbers a.axis a.slot a.renewal _ refl c.sooner.ensures c.event_receipt-receipt.ensures (search rules)
