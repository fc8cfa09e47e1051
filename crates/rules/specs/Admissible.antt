-- An order is admissible in a book: the 17 admission checks of 01 as plain facts, in 01's order. A law (proofs/Admission) joins them to
-- the checks that the rules run.
use Rattle.std.specs.Prelude.{◌+◌, ◌-◌, ◌^◌, ◌≤◌, ◌<◌, List, [], ◌∷◌, ◌≢◌, ◌≡◌, ℤ, ◌≤ℤ◌}
use Rattle.std.specs.Prelude.{Some}
use Rattle.std.specs.Int.Bits.{bit_and}
use Rattle.model.specs.declared.Bounds.{Bounds}
use Rattle.model.specs.declared.Capability.{Capability}
use Rattle.model.specs.declared.Lease.{Lease}
use Rattle.model.specs.declared.Replay.{Replay}
use Rattle.model.specs.declared.RuntimeState.TheVariants as State
use Rattle.model.specs.declared.Submission.{Submission}
use Rattle.rules.specs.Lists.{Mem}
use Rattle.rules.specs.Book.{Book, lease_at}
use Rattle.rules.specs.Receipts.{top}
use Rattle.rules.specs.SoundStart.{Named}

-- every parameter lies in its bounds
abbrev pub Inside : List Bounds → List ℤ → Type 0
Inside [] ps = Unit
Inside (b ∷ bs) [] = Unit
Inside (b ∷ bs) (p ∷ ps) = ((b.min ≤ℤ p) × (p ≤ℤ b.max)) × Inside bs ps

pub record Admissible (s : Submission) (b : Book) : Type 0 where
  -- the capability that the order names, and the lease that stands on its axis
  pub capability : Capability
  pub lease : Lease
  -- readiness: 11, 12, 18, 22
  pub not-estopped : b.state ≢ State.Estopped
  pub not-faulted : b.state ≢ State.Faulted
  pub clock : b.last_tick ≤ s.now
  pub fresh : s.now - b.state_at < b.config.state_ttl_ms
  -- 23 boot
  pub boot : s.action.boot_id ≡ b.boot_id
  -- 3 principal 0 or not the requester
  pub principal : (s.principal ≢ 0) × (s.principal ≡ s.action.requester)
  -- 8 no such capability
  pub known : Named s.action.capability b.capabilities capability
  -- 3 no lease, other id, other owner, capability bit clear
  pub leased : lease_at b capability.resource ≡ Some lease
  pub authority :
      (lease.id ≡ s.action.lease_id)
      × ((lease.owner ≡ s.principal) × (bit_and lease.capabilities (2 ^ s.action.capability) ≢ 0))
  -- 10 action id or sequence 0, received after now, validity 0 or over limit, execute_after ≥ deadline
  pub numbered : (s.action.action_id ≢ 0) × (s.action.sequence ≢ 0)
  pub received : s.received_at ≤ s.now
  pub validity : (s.action.valid_for_ms ≢ 0) × (s.action.valid_for_ms ≤ b.config.max_valid_for_ms)
  pub window : s.action.execute_after < s.action.deadline
  -- 4 same owner and action id in the replay ring
  pub unused : (e : Replay) → Mem e b.replay → e.owner ≡ s.principal → e.action_id ≢ s.action.action_id
  -- 6 sequence not above the lease's last
  pub sequence : lease.last_sequence < s.action.sequence
  -- 10 received plus validity past u64
  pub fits : s.received_at + s.action.valid_for_ms ≤ top
  -- 2 now ≥ deadline or ≥ that sum
  pub in-time : (s.now < s.action.deadline) × (s.now < s.received_at + s.action.valid_for_ms)
  -- 9 now before execute_after
  pub not-early : s.action.execute_after ≤ s.now
  -- 7 epoch
  pub epoch : s.action.based_on_epoch ≡ b.epoch
  -- 1 a parameter outside capability or lease bounds
  pub bounds : Inside capability.bounds s.action.parameters × Inside lease.limits s.action.parameters
  -- 5 flags
  pub flags :
      (bit_and b.flags capability.require_set ≡ capability.require_set)
      × (bit_and b.flags capability.require_clear ≡ 0)
