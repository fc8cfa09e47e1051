use mathlib.Core.Path.{sym}
use Rattle.runtime.proofs.Turned.{recorded-none, recorded-other, recorded-fails, recorded-storms, recorded-resumes}
use Rattle.host_replies.proofs.Replies.{turned, turns-by, leases-recorded, submits-recorded, trips-by}
use Rattle.runtime.specs.Runtimes.{state_in}
use Rattle.layout.specs.Layout.{runtime_in}
use Rattle.host_replies.proofs.recorded_on.Goals as goal

pub returns-in-NoReply : goal.returns-in-NoReply
returns-in-NoReply c =
    let h = runtime_in c.args.state.now in
    turned (λ g. recorded-none h g _ (c.on_recorded-step.ensures (state_in h) g.sound (sym c.fixed_in-fixed.ensures) (sym c.numbers_in-numbers.ensures) (sym c.waiting_in-waiting.ensures)) c.in-NoReply.is)

pub returns-in-Other : goal.returns-in-Other
returns-in-Other c =
    let h = runtime_in c.args.state.now in
    turned (λ g. recorded-other h g _ (c.on_recorded-step.ensures (state_in h) g.sound (sym c.fixed_in-fixed.ensures) (sym c.numbers_in-numbers.ensures) (sym c.waiting_in-waiting.ensures)) c.in-Other.is)

pub returns-in-Leased : goal.returns-in-Leased
returns-in-Leased c =
    let h = runtime_in c.args.state.now in
    leases-recorded _ (λ g. c.on_recorded-step.ensures (state_in h) g.sound (sym c.fixed_in-fixed.ensures) (sym c.numbers_in-numbers.ensures) (sym c.waiting_in-waiting.ensures)) c.in-Leased.is c.awaiting.ensures c.put_waiting.ensures

pub returns-in-Submitted : goal.returns-in-Submitted
returns-in-Submitted c =
    let h = runtime_in c.args.state.now in
    submits-recorded _ c.waiting_in-waiting.ensures (λ g. c.on_recorded-step.ensures (state_in h) g.sound (sym c.fixed_in-fixed.ensures) (sym c.numbers_in-numbers.ensures) (sym c.waiting_in-waiting.ensures)) c.in-Submitted.is c.rested.ensures c.put_waiting-in-Submitted.ensures

pub returns-in-Fails : goal.returns-in-Fails
returns-in-Fails c =
    let h = runtime_in c.args.state.now in
    turns-by _ (trips-by c.slot_in.ensures.0 c.receipt_at-receipt.ensures c.trip_order.ensures) (λ g. g) (λ g m. recorded-fails h g _ (c.on_recorded-step.ensures (state_in h) g.sound (sym c.fixed_in-fixed.ensures) (sym c.numbers_in-numbers.ensures) (sym c.waiting_in-waiting.ensures)) c.in-Fails.is m)

pub returns-in-Storms : goal.returns-in-Storms
returns-in-Storms c =
    let h = runtime_in c.args.state.now in
    turns-by _ c.trip_order-in-Storms.ensures (λ g. g) (λ g m. recorded-storms h g _ (c.on_recorded-step.ensures (state_in h) g.sound (sym c.fixed_in-fixed.ensures) (sym c.numbers_in-numbers.ensures) (sym c.waiting_in-waiting.ensures)) c.in-Storms.is m)

pub returns-in-Resumes : goal.returns-in-Resumes
returns-in-Resumes c =
    let h = runtime_in c.args.state.now in
    turns-by _ c.resume.ensures (λ g. g) (λ g m. recorded-resumes h g _ (c.on_recorded-step.ensures (state_in h) g.sound (sym c.fixed_in-fixed.ensures) (sym c.numbers_in-numbers.ensures) (sym c.waiting_in-waiting.ensures)) c.in-Resumes.is m)
