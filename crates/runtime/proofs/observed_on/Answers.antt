use mathlib.Core.Path.{refl, sym, ap}
use Rattle.model.specs.declared.Capability.{Capability}
use Rattle.runtime.proofs.Told.{record-read}
use Rattle.runtime.proofs.Turned.{observed-completes, observed-executes, observed-fails, observed-last, observed-none, observed-other}
use Rattle.runtime.specs.Runtimes.{state_in}
use Rattle.runtime.proofs.observed_on.Goals as goal

pub bounds-rt-at : goal.bounds-rt-at
bounds-rt-at c = c.requires.kept.placed.capability

pub complete-requires : goal.complete-requires
complete-requires c =
    let k = c.requires.kept in
    (c.requires, observed-last c.args.rt.now c.requires c.args.reply c.on_observed-step.result (c.on_observed-step.ensures (state_in c.args.rt.now) c.requires.sound refl (ap (λ (x : Capability). x.verification) (sym (record-read c.args.rt.now k c.args.rt.now.carrying.at k.placed.capability _))) refl) c.in-Completes.is)

pub fail-requires : goal.fail-requires
fail-requires c = c.requires

pub returns-in-NoReply : goal.returns-in-NoReply
returns-in-NoReply c =
    let k = c.requires.kept in
    observed-none c.args.rt.now c.requires c.args.reply c.on_observed-step.result (c.on_observed-step.ensures (state_in c.args.rt.now) c.requires.sound refl (ap (λ (x : Capability). x.verification) (sym (record-read c.args.rt.now k c.args.rt.now.carrying.at k.placed.capability _))) refl) c.in-NoReply.is

pub returns-in-Other : goal.returns-in-Other
returns-in-Other c =
    let k = c.requires.kept in
    observed-other c.args.rt.now c.requires c.args.reply c.on_observed-step.result (c.on_observed-step.ensures (state_in c.args.rt.now) c.requires.sound refl (ap (λ (x : Capability). x.verification) (sym (record-read c.args.rt.now k c.args.rt.now.carrying.at k.placed.capability _))) refl) c.in-Other.is

pub returns-in-Executes : goal.returns-in-Executes
returns-in-Executes c =
    let k = c.requires.kept in
    rw c.awaiting-rt.ensures (observed-executes c.args.rt.now c.requires c.args.reply c.on_observed-step.result (c.on_observed-step.ensures (state_in c.args.rt.now) c.requires.sound refl (ap (λ (x : Capability). x.verification) (sym (record-read c.args.rt.now k c.args.rt.now.carrying.at k.placed.capability _))) refl) _ c.in-Executes.is (refl, refl, refl, refl, refl, refl, refl, refl, refl, refl, refl) refl)

pub returns-in-Completes : goal.returns-in-Completes
returns-in-Completes c =
    let k = c.requires.kept in
    observed-completes c.args.rt.now c.requires c.args.reply c.on_observed-step.result (c.on_observed-step.ensures (state_in c.args.rt.now) c.requires.sound refl (ap (λ (x : Capability). x.verification) (sym (record-read c.args.rt.now k c.args.rt.now.carrying.at k.placed.capability _))) refl) c.in-Completes.is c.complete.ensures

pub returns-in-Fails : goal.returns-in-Fails
returns-in-Fails c =
    let k = c.requires.kept in
    observed-fails c.args.rt.now c.requires c.args.reply c.on_observed-step.result (c.on_observed-step.ensures (state_in c.args.rt.now) c.requires.sound refl (ap (λ (x : Capability). x.verification) (sym (record-read c.args.rt.now k c.args.rt.now.carrying.at k.placed.capability _))) refl) c.came.result c.in-Fails.is c.came.ensures (rw c.fail_reason.ensures at c.fail.ensures)
