use Prim.Native.Nat.{ℕ}
use mathlib.Core.List.{[]}
use mathlib.Core.Path.{sym, ap, ◌∙◌}
use Rattle.state.specs.State.{output_of}
use Rattle.format.specs.Encode.{bit, padded, answer_words, encode}
use Rattle.host_records.proofs.answer_words.Goals.{in-Item, in-ReplyAwaited, in-OtherAwaited}
use Rattle.host_records.proofs.answer_words.Goals as goal

pub returns-in-Returned : goal.returns-in-Returned
unfolding encode answer_words bit output_of
returns-in-Returned c = λ good. rw c.in-Returned.is c.plain_words.ensures

pub returns-in-Unraised : goal.returns-in-Unraised
unfolding encode answer_words bit output_of
returns-in-Unraised c = λ good. rw c.in-Unraised.is c.plain_words-in-Unraised.ensures

pub returns-in-Raised : goal.returns-in-Raised
unfolding encode answer_words bit output_of
returns-in-Raised c = λ good. rw c.in-Raised.is c.plain_words-in-Raised.ensures

pub returns-in-Succeeded : goal.returns-in-Succeeded
unfolding encode answer_words bit output_of
returns-in-Succeeded c = λ good. rw c.in-Succeeded.is c.plain_words-in-Succeeded.ensures

pub returns-in-Leased : goal.returns-in-Leased
unfolding encode answer_words bit output_of
returns-in-Leased c = λ good. rw c.in-Leased.is (c.lease_words.ensures ∙ sym (ap encode (c.answered_lease.ensures good)))

pub returns-in-Refused : goal.returns-in-Refused
unfolding encode answer_words bit output_of
returns-in-Refused c = λ good. rw c.in-Refused.is (c.plain_words-in-Refused.ensures ∙ ap (λ (n : ℕ). padded 36 n []) c.reason_number.ensures ∙ sym (ap encode c.refusal.ensures))

pub returns-in-Submitted : goal.returns-in-Submitted
unfolding encode answer_words bit output_of
returns-in-Submitted c = λ good. rw c.in-Submitted.is (c.receipt_words.ensures ∙ sym (ap encode c.answered_receipt.ensures))

pub returns-in-NoReplyAwaited : goal.returns-in-NoReplyAwaited
unfolding encode answer_words bit output_of
returns-in-NoReplyAwaited c = λ good. rw c.in-NoReplyAwaited.is c.plain_words-in-NoReplyAwaited.ensures

pub returns-in-NoRuntime : goal.returns-in-NoRuntime
unfolding encode answer_words bit output_of
returns-in-NoRuntime c = λ good. rw c.in-NoRuntime.is c.plain_words-in-NoRuntime.ensures

pub returns-in-Started : goal.returns-in-Started
unfolding encode answer_words bit output_of
returns-in-Started c = λ good. rw c.in-Started.is c.plain_words-in-Started.ensures

pub returns-in-InvalidBootId : goal.returns-in-InvalidBootId
unfolding encode answer_words bit output_of
returns-in-InvalidBootId c = λ good. rw c.in-InvalidBootId.is c.plain_words-in-InvalidBootId.ensures

pub returns-in-InvalidConfig : goal.returns-in-InvalidConfig
unfolding encode answer_words bit output_of
returns-in-InvalidConfig c = λ good. rw c.in-InvalidConfig.is c.plain_words-in-InvalidConfig.ensures

pub returns-in-InvalidCapability : goal.returns-in-InvalidCapability
unfolding encode answer_words bit output_of
returns-in-InvalidCapability c = λ good. rw c.in-InvalidCapability.is c.plain_words-in-InvalidCapability.ensures

pub returns-in-DuplicateCapability : goal.returns-in-DuplicateCapability
unfolding encode answer_words bit output_of
returns-in-DuplicateCapability c = λ good. rw c.in-DuplicateCapability.is c.plain_words-in-DuplicateCapability.ensures

pub returns-in-StartupFailed : goal.returns-in-StartupFailed
unfolding encode answer_words bit output_of
returns-in-StartupFailed c = λ good. rw c.in-StartupFailed.is c.plain_words-in-StartupFailed.ensures

pub returns : goal.returns
unfolding encode answer_words bit output_of
returns c =
    λ good. elim c.match-answer.branch [
      | in-Item w ↦ rw w.in-Item.is (rw w.number-is at c.item_words.ensures)
      | in-ReplyAwaited w ↦ rw w.in-ReplyAwaited.is (rw w.number-is at c.item_words.ensures)
      | in-OtherAwaited w ↦ rw w.in-OtherAwaited.is (rw w.number-is at c.item_words.ensures)
    ]
