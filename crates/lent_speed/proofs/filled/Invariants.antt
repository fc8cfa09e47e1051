use Rattle.runtime.specs.Stages.{RuntimeSound}
use Rattle.lent_speed.proofs.filled.Given as goal

abbrev pub invariant-loop : goal.invariant-loop
invariant-loop l = RuntimeSound l.rt
