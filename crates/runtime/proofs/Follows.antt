-- A course followed in a runtime is the course taken by its state. Assumes nothing.
use Prim.Native.Nat.{◌<◌}
use mathlib.Core.Path.{◌≡◌}
use native.Mathlib.Omega.{arith}
use Rattle.model.specs.Records.{no_lease}
use Rattle.rules.specs.Rules.{lease_id, lease_owner}
use Rattle.state.specs.State.{lease_in, active_in, InBounds}
use Rattle.state.specs.Stores.{without, fallen, ended, followed_by}
use Rattle.state.specs.declared.Course.{Course}
use Rattle.state.specs.declared.Way.{Way}
use Rattle.state.specs.declared.Way.TheVariants.{Falls, Ends, GoesOn}
use Rattle.runtime.specs.declared.Runtime.{Runtime}
use Rattle.runtime.specs.Kept.{clears, waits_by, followed_at}
use Rattle.runtime.specs.Runtimes.{state_in, Sized}
use Rattle.runtime.proofs.Slots.{shown-set, spare-set, shown-at}

pub follows : (w : Way) (c : Course) (rt : Runtime) → Sized rt → InBounds c.falling
    → state_in (followed_at (clears w c.falling.axis) (waits_by w) c rt) ≡ followed_by w c (state_in rt)
unfolding followed_by fallen ended without lease_id lease_owner
follows Falls c rt z b =
    let i = c.falling.axis in
    rw (
      shown-set lease_in 8 rt.leases i _ b.axis,
      shown-set active_in 8 rt.active i _ b.axis,
      shown-at lease_in no_lease 8 rt.leases i b.axis (rw z.leases (omega (arith, b.axis))),
    )
follows Ends c rt z b = rw (spare-set lease_in 8 rt.leases 8 _ (omega arith), spare-set active_in 8 rt.active 8 _ (omega arith), z.lease)
follows GoesOn c rt z b = rw (spare-set lease_in 8 rt.leases 8 _ (omega arith), spare-set active_in 8 rt.active 8 _ (omega arith), z.lease)

-- an axis that has a slot
pub clears-inside : (w : Way) (c : Course) → InBounds c.falling → clears w c.falling.axis < 9
clears-inside Falls c b = omega (arith, b.axis)
clears-inside Ends c b = omega arith
clears-inside GoesOn c b = omega arith
