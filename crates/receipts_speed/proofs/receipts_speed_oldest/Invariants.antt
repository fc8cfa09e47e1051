use Rattle.receipts_speed.specs.Pushes.{Filled}
use Rattle.receipts_speed.proofs.receipts_speed_oldest.Given as goal

abbrev pub invariant-loop-id : goal.invariant-loop-id
invariant-loop-id l = Filled l.kinds l.id l.ring
