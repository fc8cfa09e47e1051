use Rattle.wire.proofs.Answered.{Ran}
use Rattle.wire.proofs.run_records.Given as goal

abbrev pub invariant-loop-i : goal.invariant-loop-i
invariant-loop-i l = Ran l.input l.initial.output l.output l.state l.i
