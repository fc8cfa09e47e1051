-- What is read of a table, whatever a look past its end would give. Assumes nothing.
use Prim.Native.Nat.{ℕ, ◌<◌}
use mathlib.Core.Path.{◌≡◌}
use lib.ListN.{get_or}
use Rattle.std.proofs.lemmas.List.{get_or_default}
use Rattle.model.specs.declared.Capability.{Capability}
use Rattle.model.specs.declared.LeaseSlot.{LeaseSlot}
use Rattle.model.specs.declared.Receipt.{Receipt}
use Rattle.model.specs.Records.{no_lease, no_capability, no_receipt}
use Rattle.runtime.specs.declared.Runtime.{Runtime}
use Rattle.runtime.specs.Promises.{Kept}

module _ (h : Runtime) (k : Kept h) (i : ℕ) where
  pub lease-read : i < 9 → (d : LeaseSlot) → get_or h.leases i d ≡ get_or h.leases i no_lease
  lease-read less d = get_or_default h.leases i d no_lease (rw k.sized.leases less)

  pub record-read : i < 17 → (d : Capability) → get_or h.capabilities i d ≡ get_or h.capabilities i no_capability
  record-read less d = get_or_default h.capabilities i d no_capability (rw k.sized.capabilities less)

  pub slot-read : i < 65 → (d : Receipt) → get_or h.slots i d ≡ get_or h.slots i no_receipt
  slot-read less d = get_or_default h.slots i d no_receipt (rw k.sized.slots less)
