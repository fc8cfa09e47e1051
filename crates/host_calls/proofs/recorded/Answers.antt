use mathlib.Core.Path.{refl}
use Rattle.host_calls.proofs.Callings.{reply-steps, unheard-steps}
use Rattle.host_calls.proofs.recorded.Goals as goal

pub returns-then-is_started : goal.returns-then-is_started
returns-then-is_started c = reply-steps _ c.starting_in-starting.ensures c.is_started.ensures _ c.if-is_started.true c.recorded_on.ensures

pub returns : goal.returns
returns c = unheard-steps _ c.starting_in-starting.ensures c.is_started.ensures _ refl c.if-is_started.false c.unheard.ensures
