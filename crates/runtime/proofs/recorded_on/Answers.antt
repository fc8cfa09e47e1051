use Rattle.runtime.proofs.Told.{slot-read}
use mathlib.Core.Path.{refl}
use Rattle.runtime.proofs.Turned.{recorded-fails, recorded-leased, recorded-none, recorded-other, recorded-resumes, recorded-storms, recorded-submitted}
use Rattle.runtime.specs.Runtimes.{state_in}
use Rattle.runtime.proofs.recorded_on.Goals as goal

pub bounds-rt-slot : goal.bounds-rt-slot
bounds-rt-slot c = c.requires.kept.placed.slot

pub trip_order-requires : goal.trip_order-requires
trip_order-requires c = c.requires

pub trip_order-requires-in-Storms : goal.trip_order-requires-in-Storms
trip_order-requires-in-Storms c = c.requires

pub resume-requires : goal.resume-requires
resume-requires c = c.requires

pub returns-in-NoReply : goal.returns-in-NoReply
returns-in-NoReply c = recorded-none c.args.rt.now c.requires c.on_recorded-step.result (c.on_recorded-step.ensures (state_in c.args.rt.now) c.requires.sound refl refl refl) c.in-NoReply.is

pub returns-in-Other : goal.returns-in-Other
returns-in-Other c = recorded-other c.args.rt.now c.requires c.on_recorded-step.result (c.on_recorded-step.ensures (state_in c.args.rt.now) c.requires.sound refl refl refl) c.in-Other.is

pub returns-in-Leased : goal.returns-in-Leased
returns-in-Leased c = rw c.awaiting-rt.ensures (recorded-leased c.args.rt.now c.requires c.on_recorded-step.result (c.on_recorded-step.ensures (state_in c.args.rt.now) c.requires.sound refl refl refl) _ c.in-Leased.is (refl, refl, refl, refl, refl, refl, refl, refl, refl, refl, refl) refl)

pub returns-in-Submitted : goal.returns-in-Submitted
returns-in-Submitted c = recorded-submitted c.args.rt.now c.requires c.on_recorded-step.result (c.on_recorded-step.ensures (state_in c.args.rt.now) c.requires.sound refl refl refl) _ c.in-Submitted.is (refl, refl, refl, refl, refl, refl, refl, refl, refl, refl, refl) refl

pub returns-in-Fails : goal.returns-in-Fails
returns-in-Fails c =
    let k = c.requires.kept in
    recorded-fails c.args.rt.now c.requires c.on_recorded-step.result (c.on_recorded-step.ensures (state_in c.args.rt.now) c.requires.sound refl refl refl) c.in-Fails.is (rw (slot-read c.args.rt.now k c.args.rt.now.slot k.placed.slot) at c.trip_order.ensures)

pub returns-in-Storms : goal.returns-in-Storms
returns-in-Storms c = recorded-storms c.args.rt.now c.requires c.on_recorded-step.result (c.on_recorded-step.ensures (state_in c.args.rt.now) c.requires.sound refl refl refl) c.in-Storms.is c.trip_order-in-Storms.ensures

pub returns-in-Resumes : goal.returns-in-Resumes
returns-in-Resumes c = recorded-resumes c.args.rt.now c.requires c.on_recorded-step.result (c.on_recorded-step.ensures (state_in c.args.rt.now) c.requires.sound refl refl refl) c.in-Resumes.is c.resume.ensures
