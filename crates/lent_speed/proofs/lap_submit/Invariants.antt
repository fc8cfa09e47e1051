use Rattle.runtime.specs.Stages.{RuntimeSound}
use Rattle.lent_speed.proofs.lap_submit.Given as goal

abbrev pub invariant-loop-i : goal.invariant-loop-i
invariant-loop-i l = RuntimeSound l.rt
