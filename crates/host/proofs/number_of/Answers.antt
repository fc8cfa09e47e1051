use borrow.Author.Rules.{rules}
use Rattle.host.specs.Host.{number_of}
use Rattle.host.proofs.number_of.Goals as goal

pub returns-in-Returned : goal.returns-in-Returned
unfolding number_of
returns-in-Returned c = simp c.in-Returned.is

pub returns-in-Unraised : goal.returns-in-Unraised
unfolding number_of
returns-in-Unraised c = simp c.in-Unraised.is

pub returns-in-Raised : goal.returns-in-Raised
unfolding number_of
returns-in-Raised c = simp c.in-Raised.is

pub returns-in-Succeeded : goal.returns-in-Succeeded
unfolding number_of
returns-in-Succeeded c = simp c.in-Succeeded.is

pub returns-in-Leased : goal.returns-in-Leased
unfolding number_of
returns-in-Leased c = simp c.in-Leased.is

pub returns-in-Refused : goal.returns-in-Refused
unfolding number_of
returns-in-Refused c = simp c.in-Refused.is

pub returns-in-Submitted : goal.returns-in-Submitted
unfolding number_of
returns-in-Submitted c = simp c.in-Submitted.is

pub returns-in-Item : goal.returns-in-Item
unfolding number_of
returns-in-Item c = simp c.in-Item.is

pub returns-in-ReplyAwaited : goal.returns-in-ReplyAwaited
unfolding number_of
returns-in-ReplyAwaited c = simp c.in-ReplyAwaited.is

pub returns-in-OtherAwaited : goal.returns-in-OtherAwaited
unfolding number_of
returns-in-OtherAwaited c = simp c.in-OtherAwaited.is

pub returns-in-NoReplyAwaited : goal.returns-in-NoReplyAwaited
unfolding number_of
returns-in-NoReplyAwaited c = simp c.in-NoReplyAwaited.is

pub returns-in-NoRuntime : goal.returns-in-NoRuntime
unfolding number_of
returns-in-NoRuntime c = simp c.in-NoRuntime.is

pub returns-in-Started : goal.returns-in-Started
unfolding number_of
returns-in-Started c = simp c.in-Started.is

pub returns-in-InvalidBootId : goal.returns-in-InvalidBootId
unfolding number_of
returns-in-InvalidBootId c = simp c.in-InvalidBootId.is

pub returns-in-InvalidConfig : goal.returns-in-InvalidConfig
unfolding number_of
returns-in-InvalidConfig c = simp c.in-InvalidConfig.is

pub returns-in-InvalidCapability : goal.returns-in-InvalidCapability
unfolding number_of
returns-in-InvalidCapability c = simp c.in-InvalidCapability.is

pub returns-in-DuplicateCapability : goal.returns-in-DuplicateCapability
unfolding number_of
returns-in-DuplicateCapability c = simp c.in-DuplicateCapability.is

pub returns-in-StartupFailed : goal.returns-in-StartupFailed
unfolding number_of
returns-in-StartupFailed c = simp c.in-StartupFailed.is
