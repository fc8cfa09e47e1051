use Rattle.std.specs.Prelude.{Some}
use mathlib.Core.Path.{refl}
use Rattle.rules.specs.Receipts.{axis_or255}
use Rattle.decide_reply.proofs.Receipts.{completes}
use Rattle.decide_reply.specs.Replies.{seen_by}
use borrow.Author.Rules.{rules}
use Rattle.decide_reply.proofs.completed.Goals as goal

pub returns : goal.returns
unfolding axis_or255 seen_by
returns c =
    λ t q h s e same carried.
    let a = c.args in
    completes a.fixed a.numbers t q h s a.capability a.carrying.end _ a.submission _ same carried (search rules)
    c.sooner.ensures c.active_until.ensures (c.order_receipt-receipt.ensures t (Some a.capability) refl)
