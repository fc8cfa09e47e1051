use Rattle.decide_reply.proofs.Receipts.{tells}
use Rattle.decide_reply.proofs.told.Goals as goal

pub returns : goal.returns
returns c =
    λ t q h s same taken.
    let a = c.args in
    tells a.fixed a.numbers t q h s a.falling a.revoked a.ok _ same c.receipt_reason-reason.ensures (c.event_receipt.ensures t)
