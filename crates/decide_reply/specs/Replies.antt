-- What follows each reply of the driver, by where the state stands; and the state with it stored.
use Rattle.std.specs.Prelude.{ℕ, Bool, true, false, ◌≡◌, set}
use Rattle.std.specs.Prelude.{Option, Some, None}
use Rattle.model.specs.declared.Observation.{Observation}
use Rattle.model.specs.declared.Presence.{Presence}
use Rattle.model.specs.declared.Presence.TheVariants.{Absent, Present}
use Rattle.model.specs.declared.Reason.{Reason}
use Rattle.model.specs.declared.Receipt.{Receipt}
use Rattle.rules.specs.Interaction.{Done, Submitted}
use Rattle.rules.specs.Protocol as Protocol
use Rattle.rules.specs.Protocol.{Replies, proceed, react}
use Rattle.rules.specs.Receipts.{Progress, not_sent}
use Rattle.rules.specs.Rules.{complete, fail, trip}
use Rattle.state.specs.State.{active_in, Hand, Order, State, state, book_in, after_fallback, after_fell_back, phase_of, reaction_of, Moves}
use Rattle.state.specs.Stores.{awaiting, recorded}
use Rattle.state.specs.declared.AfterRecord.TheVariants as AfterRecord
use Rattle.state.specs.declared.Answer.TheVariants as Answer
use Rattle.state.specs.declared.Awaited.{Awaited}
use Rattle.state.specs.declared.Numbers.{Numbers}
use Rattle.state.specs.declared.Revoked.{Revoked}
use Rattle.state.specs.declared.Waiting.{Waiting}
use Rattle.decide_reply.specs.declared.Completing.{Completing}
use Rattle.decide_reply.specs.declared.Observed.{Observed}
use Rattle.decide_reply.specs.declared.OnExecuted.{OnExecuted}
use Rattle.decide_reply.specs.declared.OnFellBack.{OnFellBack}
use Rattle.decide_reply.specs.declared.OnObserved.{OnObserved}
use Rattle.decide_reply.specs.declared.OnRecorded.{OnRecorded}

-- the reply to an observation; none where the driver failed
abbrev pub observation_if : Presence → Observation → Option Observation
observation_if Absent seen = None
observation_if Present seen = Some seen

abbrev pub observation_in : Observed → Option Observation
observation_in o = observation_if o.presence o.observation

-- the hand with another place -------------------------------------------------------------------------------------------

abbrev pub hand_at : Waiting → Order → Revoked → Hand → Hand
hand_at w o v h =
    record { waiting = w; falling = h.falling; revoked = v; order = o; receipt = h.receipt; axis = h.axis; reason = h.reason }

-- no reply awaited: the call is over; where it is an order, what follows its receipt stays to say which receipt is answered
abbrev pub over : Waiting → State → State
over w s = state s.fixed s.numbers s.tables s.asked (hand_at w s.hand.order s.hand.revoked s.hand)

-- the order in the driver's hands, with the state observed before
abbrev pub executing : ℕ → State → State
executing pre_state s =
    state s.fixed s.numbers s.tables s.asked
    (hand_at (awaiting Awaited.Execute) (record { capability = s.hand.order.capability; end = s.hand.order.end; pre_state = pre_state })
    s.hand.revoked s.hand)

-- .. executed, and to be observed
abbrev pub observing : State → State
observing s =
    state s.fixed s.numbers s.tables s.asked (hand_at (awaiting Awaited.ObserveAfter) s.hand.order s.hand.revoked s.hand)

-- the receipt of a fallback, and whether the driver succeeded
abbrev pub told : Receipt → Bool → State → State
told r ok s =
    recorded r AfterRecord.Fallback
    (state s.fixed s.numbers s.tables s.asked
    (hand_at s.hand.waiting s.hand.order
    (record { lease_id = s.hand.revoked.lease_id; owner = s.hand.revoked.owner; ok = ok }) s.hand))

abbrev pub completing : ℕ → Numbers → Numbers
completing soonest n =
    record {
      next_receipt = n.next_receipt;
      next_lease = n.next_lease;
      epoch = n.epoch;
      state_at = n.state_at;
      last_tick = n.last_tick;
      flags = n.flags;
      estop_seen = n.estop_seen;
      invalid_count = 0;
      mode = n.mode;
      held = n.held;
      soonest = soonest;
    }

-- an order's end stored: what stays active on its axis, no rejections, then its receipt
unfoldable pub completed : Completing → ℕ → State → State
completed c axis s =
    recorded c.receipt AfterRecord.Executed
    (state s.fixed (completing c.soonest s.numbers)
    (record {
      capabilities = s.tables.capabilities;
      leases = s.tables.leases;
      active = set s.tables.active axis (active_in c.active);
      replay = s.tables.replay;
      receipts = s.tables.receipts;
    })
    s.asked s.hand)

-- how far an order came -------------------------------------------------------------------------------------------------

-- sent at a time, and what was then observed, if anything
unfoldable pub seen_by : ℕ → ℕ → Option Observation → Progress
seen_by pre_state now None =
    record { dispatched = true; pre_state = pre_state; executed_at = now; observed_valid = false; observed = not_sent.observed; post_state = 0 }
seen_by pre_state now (Some seen) =
    record { dispatched = true; pre_state = pre_state; executed_at = now; observed_valid = true; observed = seen.parameters; post_state = seen.state }

-- an order that fails by an observation: before its execution, or after it
unfoldable pub failed_by : Awaited → ℕ → ℕ → Option Observation → Progress
failed_by Awaited.Nothing pre_state now o = not_sent
failed_by Awaited.ObserveBefore pre_state now o = not_sent
failed_by Awaited.Execute pre_state now o = not_sent
failed_by Awaited.ObserveAfter pre_state now o = seen_by pre_state now o
failed_by Awaited.Fallback pre_state now o = not_sent
failed_by Awaited.Record pre_state now o = not_sent

-- 16 where the driver brought none, else 17
unfoldable pub reason_by : Option Observation → Reason
reason_by None = Reason.Driver
reason_by (Some seen) = Reason.Verification

-- sent, and the driver failed
abbrev pub unexecuted_by : ℕ → Progress
unexecuted_by pre_state =
    record { dispatched = true; pre_state = pre_state; executed_at = 0; observed_valid = false; observed = not_sent.observed; post_state = 0 }

-- what follows a reply, by what is decided: 112, 113, or what the rules say it goes on with ----------------------------------

unfoldable pub ObservesAs : OnObserved → State → Observed → Type 0
ObservesAs OnObserved.NoReply s o = reaction_of Answer.NoReplyAwaited s ≡ react (phase_of s) (Replies (Protocol.Observed (observation_in o)))
ObservesAs OnObserved.Other s o = reaction_of Answer.OtherAwaited s ≡ react (phase_of s) (Replies (Protocol.Observed (observation_in o)))
ObservesAs OnObserved.Executes s o = Moves (executing o.observation.state s) Answer.Item (react (phase_of s) (Replies (Protocol.Observed (observation_in o))))
ObservesAs OnObserved.Completes s o =
    (s.hand.waiting.awaited ≡ Awaited.ObserveAfter)
    × (proceed
    (complete s.hand.order.capability s.hand.order.end (seen_by s.hand.order.pre_state s.asked.submission.now (Some o.observation))
    s.asked.submission (book_in s))
    ≡ react (phase_of s) (Replies (Protocol.Observed (observation_in o))))
ObservesAs OnObserved.Fails s o =
    proceed
    (fail s.hand.order.capability (reason_by (observation_in o))
    (failed_by s.hand.waiting.awaited s.hand.order.pre_state s.asked.submission.now (observation_in o)) s.asked.submission (book_in s))
    ≡ react (phase_of s) (Replies (Protocol.Observed (observation_in o)))

unfoldable pub ExecutesAs : OnExecuted → State → Bool → Type 0
ExecutesAs OnExecuted.NoReply s ok = reaction_of Answer.NoReplyAwaited s ≡ react (phase_of s) (Replies (Protocol.Executed ok))
ExecutesAs OnExecuted.Other s ok = reaction_of Answer.OtherAwaited s ≡ react (phase_of s) (Replies (Protocol.Executed ok))
ExecutesAs OnExecuted.Observes s ok = Moves (observing s) Answer.Item (react (phase_of s) (Replies (Protocol.Executed ok)))
ExecutesAs OnExecuted.Fails s ok =
    proceed (fail s.hand.order.capability Reason.Driver (unexecuted_by s.hand.order.pre_state) s.asked.submission (book_in s))
    ≡ react (phase_of s) (Replies (Protocol.Executed ok))

unfoldable pub FallsBackAs : OnFellBack → State → Bool → Type 0
FallsBackAs OnFellBack.NoReply s ok = reaction_of Answer.NoReplyAwaited s ≡ react (phase_of s) (Replies (Protocol.FellBack ok))
FallsBackAs OnFellBack.Other s ok = reaction_of Answer.OtherAwaited s ≡ react (phase_of s) (Replies (Protocol.FellBack ok))
FallsBackAs OnFellBack.Tells s ok =
    proceed (after_fell_back s.hand.falling s.hand.revoked s.asked ok (book_in s)) ≡ react (phase_of s) (Replies (Protocol.FellBack ok))

unfoldable pub RecordsAs : OnRecorded → State → Type 0
RecordsAs OnRecorded.NoReply s = reaction_of Answer.NoReplyAwaited s ≡ react (phase_of s) (Replies Protocol.Recorded)
RecordsAs OnRecorded.Other s = reaction_of Answer.OtherAwaited s ≡ react (phase_of s) (Replies Protocol.Recorded)
RecordsAs OnRecorded.Leased s = Moves (over (awaiting Awaited.Nothing) s) Answer.Leased (react (phase_of s) (Replies Protocol.Recorded))
RecordsAs OnRecorded.Submitted s =
    Moves (over (record { awaited = Awaited.Nothing; after_record = s.hand.waiting.after_record }) s) Answer.Submitted
    (react (phase_of s) (Replies Protocol.Recorded))
RecordsAs OnRecorded.Fails s =
    proceed (trip s.hand.receipt.reason s.asked.submission.now (book_in s) (λ b. Done b (Submitted s.hand.receipt)))
    ≡ react (phase_of s) (Replies Protocol.Recorded)
RecordsAs OnRecorded.Storms s =
    proceed (trip Reason.InvalidStorm s.asked.submission.now (book_in s) (λ b. Done b (Submitted s.hand.receipt)))
    ≡ react (phase_of s) (Replies Protocol.Recorded)
RecordsAs OnRecorded.Resumes s =
    proceed (after_fallback s.hand.falling s.tables.capabilities s.asked s.hand.revoked.ok (book_in s))
    ≡ react (phase_of s) (Replies Protocol.Recorded)
