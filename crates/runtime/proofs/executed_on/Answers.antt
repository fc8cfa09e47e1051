use mathlib.Core.Path.{refl}
use Rattle.runtime.proofs.Turned.{executed-fails, executed-none, executed-observes, executed-other}
use Rattle.runtime.specs.Runtimes.{state_in}
use Rattle.runtime.proofs.executed_on.Goals as goal

pub fail-requires : goal.fail-requires
fail-requires c = c.requires

pub returns-in-NoReply : goal.returns-in-NoReply
returns-in-NoReply c = executed-none c.args.rt.now c.requires c.args.ok c.on_executed-step.result (c.on_executed-step.ensures (state_in c.args.rt.now) c.requires.sound refl) c.in-NoReply.is

pub returns-in-Other : goal.returns-in-Other
returns-in-Other c = executed-other c.args.rt.now c.requires c.args.ok c.on_executed-step.result (c.on_executed-step.ensures (state_in c.args.rt.now) c.requires.sound refl) c.in-Other.is

pub returns-in-Observes : goal.returns-in-Observes
returns-in-Observes c = rw c.awaiting-rt.ensures (executed-observes c.args.rt.now c.requires c.args.ok c.on_executed-step.result (c.on_executed-step.ensures (state_in c.args.rt.now) c.requires.sound refl) _ c.in-Observes.is (refl, refl, refl, refl, refl, refl, refl, refl, refl, refl, refl) refl)

pub returns-in-Fails : goal.returns-in-Fails
returns-in-Fails c = executed-fails c.args.rt.now c.requires c.args.ok c.on_executed-step.result (c.on_executed-step.ensures (state_in c.args.rt.now) c.requires.sound refl) c.unexecuted.result c.in-Fails.is c.unexecuted.ensures c.fail.ensures
