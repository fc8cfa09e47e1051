use Rattle.decide_order.proofs.Orders.{rejects}
use Rattle.decide_order.proofs.rejected.Goals as goal

pub returns : goal.returns
returns c =
    λ t q h sound asked axis first.
    let a = c.args in
    rejects a.fixed a.numbers t q h a.submission sound asked a.reason a.original _ first
    (c.order_receipt-receipt.ensures t _ axis)
    c.bump_rejections.ensures
