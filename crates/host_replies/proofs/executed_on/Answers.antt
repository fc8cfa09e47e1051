use mathlib.Core.Path.{sym}
use Rattle.runtime.proofs.Turned.{executed-none, executed-other}
use Rattle.host_replies.proofs.Replies.{turned, observes-executed, fails-executed}
use Rattle.runtime.specs.Runtimes.{state_in}
use Rattle.layout.specs.Layout.{runtime_in}
use Rattle.host_replies.proofs.executed_on.Goals as goal

pub returns-in-NoReply : goal.returns-in-NoReply
returns-in-NoReply c =
    let h = runtime_in c.args.state.now in
    turned (λ g. executed-none h g c.args.ok _ (c.on_executed-step.ensures (state_in h) g.sound (sym c.waiting_in-waiting.ensures)) c.in-NoReply.is)

pub returns-in-Other : goal.returns-in-Other
returns-in-Other c =
    let h = runtime_in c.args.state.now in
    turned (λ g. executed-other h g c.args.ok _ (c.on_executed-step.ensures (state_in h) g.sound (sym c.waiting_in-waiting.ensures)) c.in-Other.is)

pub returns-in-Observes : goal.returns-in-Observes
returns-in-Observes c =
    let h = runtime_in c.args.state.now in
    observes-executed c.args.ok _ (λ g. c.on_executed-step.ensures (state_in h) g.sound (sym c.waiting_in-waiting.ensures)) c.in-Observes.is c.awaiting.ensures c.put_waiting.ensures

pub returns-in-Fails : goal.returns-in-Fails
returns-in-Fails c =
    let h = runtime_in c.args.state.now in
    fails-executed _ c.args.ok _ c.carrying_in-carrying.ensures (λ g. c.on_executed-step.ensures (state_in h) g.sound (sym c.waiting_in-waiting.ensures)) c.in-Fails.is c.unexecuted.ensures c.fail.ensures
