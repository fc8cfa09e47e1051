-- The 26 words of an output record determine the output. Assumes nothing.
use Prim.Native.Nat.{ℕ, zero, suc}
use native.Mathlib.Omega.{arith}
use mathlib.Core.List.{List, [], ◌∷◌}
use Rattle.std.specs.Prelude.{Some, None}
use mathlib.Core.Path.{◌≡◌, refl, ap}
use lib.IntN.{ℤ}
use Rattle.model.specs.declared.Capability.{Capability}
use Rattle.model.specs.declared.Config.{Config}
use Rattle.model.specs.declared.Lease.{Lease}
use Rattle.model.specs.declared.Reason.{Reason}
use Rattle.model.specs.declared.Receipt.{Receipt}
use Rattle.model.specs.declared.Snapshot.{Snapshot}
use Rattle.rules.specs.Interaction.{Answer, Returned, Polled, Succeeded, Leased, Refused, Submitted}
use Rattle.rules.specs.Protocol.{Item, ItemObserve, ItemExecute, ItemFallback, ItemRecord, Value, OfState, OfNumber, OfConfig, OfSnapshot, OfLease, OfCapability, OfReceipt, Output, Started, StartRefused, Hands, Answers, Reminds, Refuses, Shows, NoRuntime}
use Rattle.format.specs.Encode.{receipt_words, lease_words, capability_words, config_words, snapshot_words, padded, item_words, answer_words, value_words, encode}
use Rattle.format.specs.Inputs.{RangedCapability}
use Rattle.format.specs.Back.{receipt_in, lease_in, capability_in, config_in, snapshot_in, handed, outputs, output_at, output_in, FitsReceipt, FitsLease, FitsItem, FitsAnswer, FitsValue, Fits}
use Rattle.format.proofs.FieldLaws.{bit-back, parts-back, bounds-back, decision-back, state-back, reason-back}
use Rattle.format.proofs.Inputs.{capability-words-back}

-- records, after a kind and a number -------------------------------------------------------------------------------------

module _ (kind n : ℕ) where
  pub receipt-back : (r : Receipt) → FitsReceipt r → receipt_in (padded kind n (receipt_words r)) ≡ r
  unfolding receipt_in padded receipt_words
  receipt-back r p =
      rw (decision-back r.decision, reason-back r.reason, parts-back p.0, parts-back p.1, bit-back r.dispatched, bit-back r.observed_valid)

  pub lease-back : (l : Lease) → FitsLease l → lease_in (padded kind n (lease_words l)) ≡ l
  unfolding lease_in padded lease_words
  lease-back l p = rw (bounds-back p)

  pub capability-back : (c : Capability) → RangedCapability c → capability_in (padded kind n (capability_words c)) ≡ c
  unfolding capability_in padded capability_words
  capability-back c p = capability-words-back n (0 ∷ 0 ∷ 0 ∷ 0 ∷ 0 ∷ 0 ∷ 0 ∷ 0 ∷ 0 ∷ 0 ∷ 0 ∷ []) c p

  pub config-back : (c : Config) → config_in (padded kind n (config_words c)) ≡ c
  unfolding config_in padded config_words
  config-back c = refl

  pub snapshot-back : (s : Snapshot) → snapshot_in (padded kind n (snapshot_words s)) ≡ s
  unfolding snapshot_in padded snapshot_words
  snapshot-back s = rw (state-back s.state)

-- outputs ----------------------------------------------------------------------------------------------------------------

pub item_back : (n : ℕ) (item : Item) → FitsItem item → output_in (item_words n item) ≡ Some (handed n item)
unfolding output_in output_at outputs item_words padded
item_back n (ItemObserve axis) p = refl
item_back n (ItemExecute capability parameters) p = ap (λ (zs : List ℤ). Some (handed n (ItemExecute capability zs))) (parts-back p)
item_back n (ItemFallback axis reason) p = ap (λ (r : Reason). Some (handed n (ItemFallback axis r))) (reason-back reason)
item_back n (ItemRecord r) p = ap (λ (x : Receipt). Some (handed n (ItemRecord x))) (receipt-back 19 n r p)

pub answer_back : (a : Answer) → FitsAnswer a → output_in (answer_words a) ≡ Some (Answers a)
unfolding output_in output_at outputs answer_words padded
answer_back Returned p = refl
answer_back (Polled seen) p = rw (bit-back seen)
answer_back Succeeded p = refl
answer_back (Leased l) p = ap (λ (x : Lease). Some (Answers (Leased x))) (lease-back 35 0 l p)
answer_back (Refused reason) p = ap (λ (r : Reason). Some (Answers (Refused r))) (reason-back reason)
answer_back (Submitted r) p = ap (λ (x : Receipt). Some (Answers (Submitted x))) (receipt-back 37 0 r p)

pub value-back : (v : Value) → FitsValue v → output_in (value_words v) ≡ Some (Shows v)
unfolding output_in output_at outputs value_words padded
value-back (OfState s) p = rw (state-back s)
value-back (OfNumber n) p = refl
value-back (OfConfig c) p = ap (λ (x : Config). Some (Shows (OfConfig x))) (config-back 53 0 c)
value-back (OfSnapshot s) p = ap (λ (x : Snapshot). Some (Shows (OfSnapshot x))) (snapshot-back 54 0 s)
value-back (OfLease None) p = refl
value-back (OfLease (Some l)) p = ap (λ (x : Lease). Some (Shows (OfLease (Some x)))) (lease-back 55 1 l p)
value-back (OfCapability None) p = refl
value-back (OfCapability (Some c)) p = ap (λ (x : Capability). Some (Shows (OfCapability (Some x)))) (capability-back 56 1 c p)
value-back (OfReceipt None) p = refl
value-back (OfReceipt (Some r)) p = ap (λ (x : Receipt). Some (Shows (OfReceipt (Some x)))) (receipt-back 57 1 r p)

pub told_back : (out : Output) → Fits out → output_in (encode out) ≡ Some out
unfolding output_in output_at outputs encode padded handed
told_back Started p = refl
told_back (StartRefused n) p = refl
told_back NoRuntime p = refl
told_back (Refuses n) p = refl
told_back (Hands item) p = item_back 0 item p
told_back (Reminds zero item) p = absurd (omega arith)
told_back (Reminds (suc n) item) p = item_back (suc n) item p.1
told_back (Answers a) p = answer_back a p
told_back (Shows v) p = value-back v p
