use Rattle.std.specs.Prelude.{Some}
use mathlib.Core.Path.{refl}
use Rattle.rules.specs.Receipts.{axis_or255}
use Rattle.decide_reply.proofs.Receipts.{fails}
use Rattle.decide_reply.proofs.failed.Goals as goal

pub returns : goal.returns
unfolding axis_or255
returns c =
    λ t q h s e.
    let a = c.args in
    fails a.fixed a.numbers t q h s a.capability a.reason _ a.submission e (c.order_receipt.ensures t (Some a.capability) refl)
