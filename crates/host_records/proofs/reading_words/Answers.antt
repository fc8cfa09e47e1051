use Prim.Native.Nat.{ℕ}
use mathlib.Core.Path.{ap, ◌∙◌}
use Rattle.rules.specs.Protocol.{ReadLease, book_in, shown}
use Rattle.runtime.specs.Stages.{phase_in}
use Rattle.layout.specs.Layout.{runtime_in}
use Rattle.format.specs.Decode.{reading_of}
use Rattle.format.specs.Encode.{encode}
use Rattle.host_records.proofs.reading_words.Goals as goal

pub returns-in-State : goal.returns-in-State
unfolding reading_of
returns-in-State c = λ good. rw c.in-State.is (c.state_words.ensures ∙ ap encode c.mode.ensures.shows)

pub returns-in-Epoch : goal.returns-in-Epoch
unfolding reading_of
returns-in-Epoch c = λ good. rw c.in-Epoch.is (c.number_words.ensures ∙ ap encode c.epoch.ensures.shows)

pub returns-in-BootId : goal.returns-in-BootId
unfolding reading_of
returns-in-BootId c = λ good. rw c.in-BootId.is (c.number_words-in-BootId.ensures ∙ ap encode c.boot_id.ensures.shows)

pub returns-in-Flags : goal.returns-in-Flags
unfolding reading_of
returns-in-Flags c = λ good. rw c.in-Flags.is (c.number_words-in-Flags.ensures ∙ ap encode c.flags.ensures.shows)

pub returns-in-ReceiptCount : goal.returns-in-ReceiptCount
unfolding reading_of
returns-in-ReceiptCount c = λ good. rw c.in-ReceiptCount.is (c.number_words-in-ReceiptCount.ensures ∙ ap encode (c.receipt_count.ensures good).shows)

pub returns-in-Config : goal.returns-in-Config
unfolding reading_of
returns-in-Config c = λ good. rw c.in-Config.is (c.config_shown_words.ensures ∙ ap encode c.config.ensures.shows)

pub returns-in-Snapshot : goal.returns-in-Snapshot
unfolding reading_of
returns-in-Snapshot c = λ good. rw c.in-Snapshot.is (c.snapshot_shown_words.ensures ∙ ap encode (c.snapshot.ensures good).shows)

pub returns-in-Lease : goal.returns-in-Lease
unfolding reading_of
returns-in-Lease c = λ good. rw c.in-Lease.is (c.lease_shown_words.ensures ∙ ap encode (c.lease.ensures good).shows ∙ ap (λ (n : ℕ). encode (shown (ReadLease n) (book_in (phase_in (runtime_in c.args.state.now))))) c.as_u8.ensures)

pub returns-in-CapabilityAt : goal.returns-in-CapabilityAt
unfolding reading_of
returns-in-CapabilityAt c = λ good. rw c.in-CapabilityAt.is (c.capability_shown_words.ensures ∙ ap encode (c.capability.ensures good).shows)

pub returns-in-ReceiptAt : goal.returns-in-ReceiptAt
unfolding reading_of
returns-in-ReceiptAt c = λ good. rw c.in-ReceiptAt.is (c.receipt_shown_words.ensures ∙ ap encode (c.receipt.ensures good).shows)
