-- A lease may be granted or renewed in a book: the checks of 01 as plain facts, in 01's order. A law (proofs/Grantable) joins them to the
-- checks that the rules run.
use Rattle.std.specs.Prelude.{ℕ, ◌+◌, ◌-◌, ◌^◌, ◌≤◌, ◌<◌, ◌≢◌, ◌≡◌, ◌≤ℤ◌}
use Rattle.std.specs.Prelude.{Some, None}
use Rattle.std.specs.Int.Bits.{bit_and}
use Rattle.model.specs.declared.Bounds.{Bounds}
use Rattle.model.specs.declared.Capability.{Capability}
use Rattle.model.specs.declared.Lease.{Lease}
use Rattle.model.specs.declared.LeaseRequest.{LeaseRequest}
use Rattle.model.specs.declared.Renewal.{Renewal}
use Rattle.model.specs.declared.RuntimeState.TheVariants as State
use Rattle.rules.specs.Lists.{Mem}
use Rattle.rules.specs.Book.{Book, lease_at}
use Rattle.rules.specs.Receipts.{top}

-- readiness: 11 Estopped, 12 Faulted, 18 now before last tick, 22 state age at or over the limit
pub record Ready (now : ℕ) (b : Book) : Type 0 where
  pub not-estopped : b.state ≢ State.Estopped
  pub not-faulted : b.state ≢ State.Faulted
  pub clock : b.last_tick ≤ now
  pub fresh : now - b.state_at < b.config.state_ttl_ms

pub record Grantable (r : LeaseRequest) (now : ℕ) (b : Book) : Type 0 where
  pub ready : Ready now b
  -- 10 axis bad or unused, owner, mask or duration 0, duration over the limit, a limit with min above max
  pub used : (c : Capability) × Mem c b.capabilities × (c.resource ≡ r.resource)
  pub owner : r.owner ≢ 0
  pub mask : r.capabilities ≢ 0
  pub duration : (r.duration_ms ≢ 0) × (r.duration_ms ≤ b.config.max_lease_ms)
  pub limits : (x : Bounds) → Mem x r.limits → x.min ≤ℤ x.max
  -- 3 a mask bit that no capability of the axis has
  pub bits :
      (n : ℕ) → bit_and r.capabilities (2 ^ n) ≢ 0
      → (c : Capability) × Mem c b.capabilities × (c.resource ≡ r.resource) × (c.id ≡ n)
  -- 19 taken
  pub free : lease_at b r.resource ≡ None
  -- 10 expiry past u64
  pub fits : now + r.duration_ms ≤ top

-- the lease that stands on an axis
pub record Renewable (r : Renewal) (b : Book) (axis : ℕ) (lease : Lease) : Type 0 where
  pub ready : Ready r.now b
  -- 10 duration
  pub duration : (r.duration_ms ≢ 0) × (r.duration_ms ≤ b.config.max_lease_ms)
  -- 3 no lease with this id and owner
  pub stands : lease_at b axis ≡ Some lease
  pub held : (lease.id ≡ r.lease_id) × (lease.owner ≡ r.owner)
  -- 6 renewal not above the last one
  pub newer : lease.last_renewal < r.renewal
  -- 10 overflow
  pub fits : r.now + r.duration_ms ≤ top
