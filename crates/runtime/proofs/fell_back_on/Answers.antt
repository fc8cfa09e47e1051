use mathlib.Core.Path.{refl}
use Rattle.runtime.proofs.Turned.{fell-back-none, fell-back-other, fell-back-tells}
use Rattle.runtime.specs.Runtimes.{state_in}
use Rattle.runtime.proofs.fell_back_on.Goals as goal

pub tell-requires : goal.tell-requires
tell-requires c = c.requires

pub returns-in-NoReply : goal.returns-in-NoReply
returns-in-NoReply c = fell-back-none c.args.rt.now c.requires c.args.ok c.on_fell_back-step.result (c.on_fell_back-step.ensures (state_in c.args.rt.now) c.args.ok refl) c.in-NoReply.is

pub returns-in-Other : goal.returns-in-Other
returns-in-Other c = fell-back-other c.args.rt.now c.requires c.args.ok c.on_fell_back-step.result (c.on_fell_back-step.ensures (state_in c.args.rt.now) c.args.ok refl) c.in-Other.is

pub returns-in-Tells : goal.returns-in-Tells
returns-in-Tells c = fell-back-tells c.args.rt.now c.requires c.args.ok c.on_fell_back-step.result (c.on_fell_back-step.ensures (state_in c.args.rt.now) c.args.ok refl) c.in-Tells.is c.tell.ensures
