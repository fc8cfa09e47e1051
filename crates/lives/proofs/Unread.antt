-- What the readings promise where there is nothing to read (01: "until it ends there is no runtime to read"): each says so, and all else in it is blank;
-- and an axis without a lease, an index past the records or past the receipts shows a blank, whatever stands in its place. Assumes nothing.
use Prim.Native.Nat.{ℕ}
use mathlib.Core.Bool.{Bool, true, false, false≢true}
use Rattle.std.specs.Prelude.{None}
use mathlib.Core.Path.{◌≡◌, refl, sym, ap, ◌∙◌}
use Rattle.model.specs.declared.Capability.{Capability}
use Rattle.model.specs.declared.LeaseSlot.{LeaseSlot}
use Rattle.model.specs.declared.Presence.{Presence}
use Rattle.model.specs.declared.Presence.TheVariants.{Absent, Present}
use Rattle.model.specs.declared.Receipt.{Receipt}
use Rattle.model.specs.declared.RuntimeState.TheVariants.{Faulted}
use Rattle.model.specs.Records.{no_lease, no_capability, no_receipt}
use Rattle.rules.specs.Protocol.{Reading, ReadState, ReadConfig, ReadSnapshot, ReadLease, ReadCapability, ReadReceipt, OfLease, OfCapability, OfReceipt, Output, Started, StartRefused, Hands, Answers, Reminds, Refuses, Shows, NoRuntime, book_in, shown}
use Rattle.state.specs.State.{lease_in}
use Rattle.decide_read.specs.Shown.{no_config, no_snapshot, number_says, state_says, config_says, snapshot_says, lease_says, capability_says, receipt_says}
use Rattle.decide_read.specs.declared.CapabilityShown.{CapabilityShown}
use Rattle.decide_read.specs.declared.ConfigShown.{ConfigShown}
use Rattle.decide_read.specs.declared.LeaseShown.{LeaseShown}
use Rattle.decide_read.specs.declared.NumberShown.{NumberShown}
use Rattle.decide_read.specs.declared.ReceiptShown.{ReceiptShown}
use Rattle.decide_read.specs.declared.SnapshotShown.{SnapshotShown}
use Rattle.decide_read.specs.declared.StateShown.{StateShown}
use Rattle.runtime.specs.declared.Runtime.{Runtime}
use Rattle.runtime.specs.Stages.{phase_in, NumberReads, StateReads, ConfigReads, SnapshotReads, LeaseReads, CapabilityReads, ReceiptReads}

is_shown : Output → Bool
is_shown Started = false
is_shown (StartRefused n) = false
is_shown (Hands item) = false
is_shown (Answers a) = false
is_shown (Reminds n item) = false
is_shown (Refuses n) = false
is_shown (Shows v) = true
is_shown NoRuntime = false

-- what says that there is no runtime has it absent
hides : (says : Presence → Output) → is_shown (says Present) ≡ true → (p : Presence) → says p ≡ NoRuntime → p ≡ Absent
unfolding is_shown
hides says e Absent z = refl
hides says e Present z = absurd (false≢true (sym (ap is_shown z) ∙ e))

-- before a start has ended, and after a refused one
module _ (rt : Runtime) (e : book_in (phase_in rt) ≡ None) where
  nothing : (q : Reading) → shown q (book_in (phase_in rt)) ≡ NoRuntime
  unfolding shown
  nothing q = ap (shown q) e

  pub number-unread : (q : Reading) (r : NumberShown) → NumberReads q rt r → (r.runtime ≡ Absent) × (r.number ≡ 0)
  unfolding is_shown
  number-unread q r k =
      let a = hides (λ p. number_says (record { runtime = p; number = r.number })) refl r.runtime (k.shows ∙ nothing q) in
      (a, k.blank a)

  pub state-unread : (r : StateShown) → StateReads rt r → (r.runtime ≡ Absent) × (r.state ≡ Faulted)
  unfolding is_shown
  state-unread r k =
      let a = hides (λ p. state_says (record { runtime = p; state = r.state })) refl r.runtime (k.shows ∙ nothing ReadState) in
      (a, k.blank a)

  pub config-unread : (r : ConfigShown) → ConfigReads rt r → (r.runtime ≡ Absent) × (r.config ≡ no_config)
  unfolding is_shown
  config-unread r k =
      let a = hides (λ p. config_says (record { runtime = p; config = r.config })) refl r.runtime (k.shows ∙ nothing ReadConfig) in
      (a, k.blank a)

  pub snapshot-unread : (r : SnapshotShown) → SnapshotReads rt r → (r.runtime ≡ Absent) × (r.snapshot ≡ no_snapshot)
  unfolding is_shown
  snapshot-unread r k =
      let a = hides (λ p. snapshot_says (record { runtime = p; snapshot = r.snapshot })) refl r.runtime (k.shows ∙ nothing ReadSnapshot) in
      (a, k.blank a)

  pub lease-unread : (axis : ℕ) (r : LeaseShown) → LeaseReads axis rt r → (r.runtime ≡ Absent) × (r.slot ≡ no_lease)
  unfolding is_shown
  lease-unread axis r k =
      let a = hides (λ p. lease_says (record { runtime = p; slot = r.slot })) refl r.runtime (k.shows ∙ nothing (ReadLease axis)) in
      (a, k.unread a)

  pub capability-unread : (index : ℕ) (r : CapabilityShown) → CapabilityReads index rt r → (r.runtime ≡ Absent) × (r.capability ≡ no_capability)
  unfolding is_shown
  capability-unread index r k =
      let a = hides (λ p. capability_says (record { runtime = p; presence = r.presence; capability = r.capability })) refl r.runtime (k.shows ∙ nothing (ReadCapability index)) in
      (a, k.blank (k.unread a))

  pub receipt-unread : (index : ℕ) (r : ReceiptShown) → ReceiptReads index rt r → (r.runtime ≡ Absent) × (r.receipt ≡ no_receipt)
  unfolding is_shown
  receipt-unread index r k =
      let a = hides (λ p. receipt_says (record { runtime = p; presence = r.presence; receipt = r.receipt })) refl r.runtime (k.shows ∙ nothing (ReadReceipt index)) in
      (a, k.blank (k.unread a))

-- what there is not while there is a runtime ----------------------------------------------------------------------------

no-lease : (p : Presence) (s : LeaseSlot) → lease_says (record { runtime = p; slot = s }) ≡ Shows (OfLease None) → (p ≡ Present) × (lease_in s ≡ None)
no-lease Absent s e = (cc, cc)
no-lease Present s e = (refl, cc)

no-capability : (p q : Presence) (c : Capability) → capability_says (record { runtime = p; presence = q; capability = c }) ≡ Shows (OfCapability None)
    → (p ≡ Present) × (q ≡ Absent)
no-capability Absent q c e = (cc, cc)
no-capability Present Absent c e = (refl, refl)
no-capability Present Present c e = (refl, cc)

no-receipt : (p q : Presence) (x : Receipt) → receipt_says (record { runtime = p; presence = q; receipt = x }) ≡ Shows (OfReceipt None)
    → (p ≡ Present) × (q ≡ Absent)
no-receipt Absent q x e = (cc, cc)
no-receipt Present Absent x e = (refl, refl)
no-receipt Present Present x e = (refl, cc)

-- 01: "`lease` with axis 8 or more and `receipt` with an index at or past the count return none", and so does `capabilities`: nothing of what stands in
-- the place is shown with it
module _ (rt : Runtime) where
  pub no-lease-shown : (axis : ℕ) (r : LeaseShown) → LeaseReads axis rt r → shown (ReadLease axis) (book_in (phase_in rt)) ≡ Shows (OfLease None)
      → (r.runtime ≡ Present) × (r.slot ≡ no_lease)
  no-lease-shown axis r k e = let n = no-lease r.runtime r.slot (k.shows ∙ e) in (n.0, k.blank n.1)

  pub no-capability-shown : (index : ℕ) (r : CapabilityShown) → CapabilityReads index rt r
      → shown (ReadCapability index) (book_in (phase_in rt)) ≡ Shows (OfCapability None)
      → (r.runtime ≡ Present) × ((r.presence ≡ Absent) × (r.capability ≡ no_capability))
  no-capability-shown index r k e =
      let n = no-capability r.runtime r.presence r.capability (k.shows ∙ e) in
      (n.0, (n.1, k.blank n.1))

  pub no-receipt-shown : (index : ℕ) (r : ReceiptShown) → ReceiptReads index rt r
      → shown (ReadReceipt index) (book_in (phase_in rt)) ≡ Shows (OfReceipt None)
      → (r.runtime ≡ Present) × ((r.presence ≡ Absent) × (r.receipt ≡ no_receipt))
  no-receipt-shown index r k e =
      let n = no-receipt r.runtime r.presence r.receipt (k.shows ∙ e) in
      (n.0, (n.1, k.blank n.1))
