use Rattle.rows.proofs.Signs.{receipt-made}
use Rattle.rows.proofs.receipt_of.Goals as goal

pub returns : goal.returns
returns c = receipt-made c.args.words c.as_u32.ensures c.as_u16.ensures c.as_u8.ensures c.decision_of.ensures c.reason_of.ensures c.signs_of.ensures c.signs_of-2.ensures c.low.ensures c.high.ensures c.as_bool.ensures c.as_bool-2.ensures
