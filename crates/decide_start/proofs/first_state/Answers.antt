use borrow.Author.Tests.{eq-eqb, ne_eqb}
use Rattle.model.specs.Words.{share_no_bit}
use Rattle.rules.specs.Rules.{meets_estop}
use Rattle.decide_start.proofs.first_state.Goals as goal

pub returns-then-flags-config-ne0 : goal.returns-then-flags-config-ne0
unfolding meets_estop share_no_bit
returns-then-flags-config-ne0 c = rw (ne_eqb _ _ c.if-flags-config-ne0.true)

pub returns : goal.returns
unfolding meets_estop share_no_bit
returns c = rw (eq-eqb _ _ c.if-flags-config-ne0.false)
