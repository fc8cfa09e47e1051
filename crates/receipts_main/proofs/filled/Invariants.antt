use Prim.Native.Nat.{◌-◌}
use Rattle.receipts_main.specs.CaseG.{Holds, issued}
use Rattle.receipts_main.proofs.filled.Given as goal

abbrev pub invariant-loop-number : goal.invariant-loop-number
invariant-loop-number l = Holds l.ring (issued (l.number - 1))
