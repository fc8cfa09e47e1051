use Rattle.runtime.proofs.Turned.{observed-none, observed-other, observed-executes}
use Rattle.host_replies.proofs.Replies.{carried-low, turned, turns-stored, turns_as, observed-as, completes-seen, fails-seen}
use mathlib.Core.Path.{refl}
use Rattle.layout.specs.Layout.{runtime_in}
use Rattle.host_replies.proofs.observed_on.Goals as goal

pub capability_at-capability-requires : goal.capability_at-capability-requires
capability_at-capability-requires c = (c.requires, carried-low _ c.carrying_in-carrying.ensures)

pub fail-requires : goal.fail-requires
fail-requires c = c.requires

pub returns-in-NoReply : goal.returns-in-NoReply
returns-in-NoReply c =
    let h = runtime_in c.args.state.now in
    turned (λ g. observed-none h g c.args.reply _ (observed-as _ c.args.reply _ c.waiting_in-waiting.ensures c.carrying_in-carrying.ensures c.capability_at-capability.ensures c.submission_in-submission.ensures c.on_observed-step.ensures g) c.in-NoReply.is)

pub returns-in-Other : goal.returns-in-Other
returns-in-Other c =
    let h = runtime_in c.args.state.now in
    turned (λ g. observed-other h g c.args.reply _ (observed-as _ c.args.reply _ c.waiting_in-waiting.ensures c.carrying_in-carrying.ensures c.capability_at-capability.ensures c.submission_in-submission.ensures c.on_observed-step.ensures g) c.in-Other.is)

pub returns-in-Executes : goal.returns-in-Executes
returns-in-Executes c =
    let h = runtime_in c.args.state.now in
    turns_as c.execute.ensures.1
    (turns-stored c.execute.ensures.0 refl (λ g. observed-executes h g c.args.reply _ (observed-as _ c.args.reply _ c.waiting_in-waiting.ensures c.carrying_in-carrying.ensures c.capability_at-capability.ensures c.submission_in-submission.ensures c.on_observed-step.ensures g) _ c.in-Executes.is (refl, refl, refl, refl, refl, refl, refl, refl, refl, refl, refl) refl))

pub returns-in-Completes : goal.returns-in-Completes
returns-in-Completes c = completes-seen c.args.reply _ (observed-as _ c.args.reply _ c.waiting_in-waiting.ensures c.carrying_in-carrying.ensures c.capability_at-capability.ensures c.submission_in-submission.ensures c.on_observed-step.ensures) c.in-Completes.is c.complete.ensures

pub returns-in-Fails : goal.returns-in-Fails
returns-in-Fails c =
    fails-seen _ c.args.reply _ c.waiting_in-waiting.ensures c.carrying_in-carrying.ensures c.submission_in-submission.ensures (observed-as _ c.args.reply _ c.waiting_in-waiting.ensures c.carrying_in-carrying.ensures c.capability_at-capability.ensures c.submission_in-submission.ensures c.on_observed-step.ensures) c.in-Fails.is c.fail_reason.ensures c.came.ensures
    c.fail.ensures
