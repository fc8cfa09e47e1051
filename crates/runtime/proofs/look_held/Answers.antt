use mathlib.Core.Path.{◌∙◌, refl}
use Rattle.runtime.proofs.Cells.{same_at, fails, none-up, step-nearer, step-within, below_next, bears}
use Rattle.model.specs.Records.{no_lease}
use Rattle.runtime.proofs.Looks.{low-lease, first-here, first_on, first_past, held-at, held_at}
use Rattle.runtime.proofs.look_held.Goals as goal

pub returns-else-not-is_held : goal.returns-else-not-is_held
returns-else-not-is_held c = (first-here (held_at c.args.rt.now c.args.owner c.args.lease_id) (c.loop-i.i) c.loop-i-test.true (held-at c.args.rt.now c.requires (c.loop-i.i) c.loop-i-test.true c.args.owner c.args.lease_id) (bears (rw (same_at _ no_lease c.args.rt.now.leases c.loop-i.i (low-lease c.args.rt.now c.requires c.loop-i.i c.loop-i-test.true)) at c.is_held.ensures) c.if-not-is_held.false) ∙ c.loop-i.invariant.so_far, below_next 8 (c.loop-i.i) (c.loop-i.invariant.within))

pub returns-after-loop-i : goal.returns-after-loop-i
returns-after-loop-i c = (first_past (held_at c.args.rt.now c.args.owner c.args.lease_id) (c.loop-i.i) (c.loop-i.invariant.within) c.loop-i-test.false ∙ c.loop-i.invariant.so_far, below_next 8 (c.loop-i.i) (c.loop-i.invariant.within))

pub loop-i-init : goal.loop-i-init
loop-i-init c = record { within = none-up 8; so_far = refl }

pub loop-i-preserved : goal.loop-i-preserved
loop-i-preserved c = record { within = step-within 8 (c.loop-i.i) c.loop-i-test.true; so_far = first_on (held_at c.args.rt.now c.args.owner c.args.lease_id) (c.loop-i.i) c.loop-i-test.true (held-at c.args.rt.now c.requires (c.loop-i.i) c.loop-i-test.true c.args.owner c.args.lease_id) (fails (rw (same_at _ no_lease c.args.rt.now.leases c.loop-i.i (low-lease c.args.rt.now c.requires c.loop-i.i c.loop-i-test.true)) at c.is_held.ensures) c.if-not-is_held.true) ∙ c.loop-i.invariant.so_far }

pub loop-i-smaller : goal.loop-i-smaller
loop-i-smaller c = step-nearer 8 (c.loop-i.i) c.loop-i-test.true
