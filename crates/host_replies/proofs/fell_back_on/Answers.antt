use mathlib.Core.Path.{sym}
use Rattle.runtime.proofs.Turned.{fell-back-none, fell-back-other, fell-back-tells}
use Rattle.host_replies.proofs.Replies.{turned, turns-by}
use Rattle.runtime.specs.Runtimes.{state_in}
use Rattle.layout.specs.Layout.{runtime_in}
use Rattle.host_replies.proofs.fell_back_on.Goals as goal

pub returns-in-NoReply : goal.returns-in-NoReply
returns-in-NoReply c =
    let h = runtime_in c.args.state.now in
    turned (λ g. fell-back-none h g c.args.ok _ (c.on_fell_back-step.ensures (state_in h) c.args.ok (sym c.waiting_in-waiting.ensures)) c.in-NoReply.is)

pub returns-in-Other : goal.returns-in-Other
returns-in-Other c =
    let h = runtime_in c.args.state.now in
    turned (λ g. fell-back-other h g c.args.ok _ (c.on_fell_back-step.ensures (state_in h) c.args.ok (sym c.waiting_in-waiting.ensures)) c.in-Other.is)

pub returns-in-Tells : goal.returns-in-Tells
returns-in-Tells c =
    let h = runtime_in c.args.state.now in
    turns-by _ c.tell.ensures (λ g. g) (λ g m. fell-back-tells h g c.args.ok _ (c.on_fell_back-step.ensures (state_in h) c.args.ok (sym c.waiting_in-waiting.ensures)) c.in-Tells.is m)
