use native.Mathlib.Omega.{arith}
use mathlib.Core.Path.{◌∙◌, refl}
use Rattle.runtime.proofs.Cells.{same_at, fails, step-nearer, step-within, below_next, bears}
use Rattle.model.specs.Records.{no_lease, no_active}
use Rattle.runtime.proofs.Looks.{low-lease, low-order, due-at, due_at, early-none, first-here, first_on, first_past}
use Rattle.runtime.proofs.look_due.Goals.{then-time-rt, else-time-rt}
use Rattle.runtime.proofs.look_due.Goals as goal

pub returns-else-not-is_due : goal.returns-else-not-is_due
returns-else-not-is_due c = (first-here (due_at c.args.rt.now c.args.time) (c.loop-i.i) c.loop-i-test.true (due-at c.args.rt.now (c.requires.0) (c.loop-i.i) c.loop-i-test.true c.args.time) (bears (rw (same_at _ no_lease c.args.rt.now.leases c.loop-i.i (low-lease c.args.rt.now c.requires.0 c.loop-i.i c.loop-i-test.true), same_at _ no_active c.args.rt.now.active c.loop-i.i (low-order c.args.rt.now c.requires.0 c.loop-i.i c.loop-i-test.true)) at c.is_due.ensures) c.if-not-is_due.false) ∙ c.loop-i.invariant.so_far, below_next 8 (c.loop-i.i) (c.loop-i.invariant.within))

pub returns-after-loop-i : goal.returns-after-loop-i
returns-after-loop-i c = (first_past (due_at c.args.rt.now c.args.time) (c.loop-i.i) (c.loop-i.invariant.within) c.loop-i-test.false ∙ c.loop-i.invariant.so_far, below_next 8 (c.loop-i.i) (c.loop-i.invariant.within))

pub loop-i-init : goal.loop-i-init
loop-i-init c =
    elim c.if-time-rt.branch [
      | then-time-rt w ↦ rw w.i-is (record { within = omega arith; so_far = early-none c.args.rt.now c.requires.0 c.args.time w.if-time-rt.true c.args.from c.requires.1 })
      | else-time-rt w ↦ rw w.i-is (record { within = c.requires.1; so_far = refl })
    ]

pub loop-i-preserved : goal.loop-i-preserved
loop-i-preserved c = record { within = step-within 8 (c.loop-i.i) c.loop-i-test.true; so_far = first_on (due_at c.args.rt.now c.args.time) (c.loop-i.i) c.loop-i-test.true (due-at c.args.rt.now (c.requires.0) (c.loop-i.i) c.loop-i-test.true c.args.time) (fails (rw (same_at _ no_lease c.args.rt.now.leases c.loop-i.i (low-lease c.args.rt.now c.requires.0 c.loop-i.i c.loop-i-test.true), same_at _ no_active c.args.rt.now.active c.loop-i.i (low-order c.args.rt.now c.requires.0 c.loop-i.i c.loop-i-test.true)) at c.is_due.ensures) c.if-not-is_due.true) ∙ c.loop-i.invariant.so_far }

pub loop-i-smaller : goal.loop-i-smaller
loop-i-smaller c = step-nearer 8 (c.loop-i.i) c.loop-i-test.true
