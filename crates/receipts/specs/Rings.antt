-- The ring: an index with what stands beside it.
use Rattle.std.specs.Prelude.{◌≡◌, List, []}
use Rattle.model.specs.declared.Receipt.{Receipt}
use Rattle.rules.specs.Receipts.{keep}
use Rattle.receipts.specs.declared.Ring.{Ring}
use Rattle.receipts.specs.Indexes.{Stores, Sound, list_of}

abbrev pub stores_of : Ring → Stores
stores_of ring = record { rejections = ring.rejected; others = ring.others; receipts = ring.slots }

-- what a ring is under from `Ring::empty` on
abbrev pub Kept : Ring → Type 0
Kept ring = Sound ring.index (stores_of ring)

-- the receipts that a ring keeps, oldest first
abbrev pub receipts_of : Ring → List Receipt
receipts_of ring = list_of ring.index (stores_of ring)

-- what `Ring::empty` promises
pub record Starts (ring : Ring) : Type 0 where
  pub kept : Kept ring
  pub nothing : receipts_of ring ≡ []

-- what `Ring::record` promises: the rule of 01, and that the ring stays one
pub record Records (before : Ring) (r : Receipt) (after : Ring) : Type 0 where
  pub kept : Kept after
  pub keeps : receipts_of after ≡ keep 64 (receipts_of before) r
