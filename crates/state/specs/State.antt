-- What the parts of the state stand for, whatever they are stored in: the book that they keep, the item whose reply is awaited, and the rest
-- of the call that the stored place denotes. Then soundness, and where a state is left.
use Rattle.std.specs.Prelude.{ℕ, suc, ◌+◌, ◌<◌, ◌≤◌, Bool, true, false, cond, ◌&&◌, List, [], ◌∷◌, ◌≢◌, ◌≡◌, length, get_or}
use Rattle.std.specs.Prelude.{Option, Some, None}
use Rattle.model.specs.declared.Active.{Active}
use Rattle.model.specs.declared.ActiveSlot.{ActiveSlot}
use Rattle.model.specs.declared.Capability.{Capability}
use Rattle.model.specs.declared.Decision.TheVariants as Decision
use Rattle.model.specs.declared.Lease.{Lease}
use Rattle.model.specs.declared.LeaseRequest.{LeaseRequest}
use Rattle.model.specs.declared.LeaseSlot.{LeaseSlot}
use Rattle.model.specs.declared.Presence.{Presence}
use Rattle.model.specs.declared.Presence.TheVariants.{Absent, Present}
use Rattle.model.specs.declared.Reason.{Reason}
use Rattle.model.specs.declared.Receipt.{Receipt}
use Rattle.model.specs.declared.Renewal.{Renewal}
use Rattle.model.specs.declared.Replay.{Replay}
use Rattle.model.specs.declared.Submission.{Submission}
use Rattle.model.specs.Reasons.{invalid_boot_id, invalid_config, invalid_capability, duplicate_capability, startup_failed, reply_awaited, no_reply_awaited, other_reply_awaited}
use Rattle.model.specs.Records.{no_lease}
use Rattle.model.specs.Soundness.{axis_used, sound}
use Rattle.rules.specs.Admission.{axes, first_failing, acquire_checks, renew_checks, held_axis, is_some, validate}
use Rattle.rules.specs.Book.{Book, lease_at}
use Rattle.rules.specs.Interaction.{Returned, Polled, Succeeded, Leased, Refused, Submitted, Interaction, Done, Observe}
use Rattle.rules.specs.Lists.{Mem}
use Rattle.rules.specs.Protocol.{Item, ItemObserve, ItemExecute, ItemFallback, ItemRecord, Output, NoRuntime, Started, StartRefused, Hands, Answers, Reminds, Refuses, Phase, Idle, Waiting as Waits, OnObserve, OnExecute, OnFallback, OnRecord, Reaction}
use Rattle.rules.specs.Receipts.{event, not_sent}
use Rattle.rules.specs.Receipts as Receipts
use Rattle.rules.specs.Rules.{record_receipt, refresh_state, fallbacks, trip, staleness, expiries, preconditions, sense, recover, recoveries, grant, renewed, canceled, storm, fail, dispatch, verify, admit}
use Rattle.rules.specs.With.{with_last_tick}
use Rattle.state.specs.Axes.{axes_from, used_from}
use Rattle.state.specs.declared.AfterFallback.{AfterFallback}
use Rattle.state.specs.declared.AfterRecord.{AfterRecord}
use Rattle.state.specs.declared.AfterTrip.{AfterTrip}
use Rattle.state.specs.declared.Answer.{Answer}
use Rattle.state.specs.declared.Awaited.{Awaited}
use Rattle.state.specs.declared.CallKind.{CallKind}
use Rattle.state.specs.declared.Falling.{Falling}
use Rattle.state.specs.declared.Fixed.{Fixed}
use Rattle.state.specs.declared.Numbers.{Numbers}
use Rattle.state.specs.declared.Pending.{Pending}
use Rattle.state.specs.declared.Progress.{Progress}
use Rattle.state.specs.declared.Revoked.{Revoked}
use Rattle.state.specs.declared.Waiting.{Waiting}

-- the parts ------------------------------------------------------------------------------------------------------------

abbrev pub lease_if : Presence → Lease → Option Lease
lease_if Absent l = None
lease_if Present l = Some l

abbrev pub active_if : Presence → Active → Option Active
active_if Absent a = None
active_if Present a = Some a

-- what a slot of a table holds
abbrev pub lease_in : LeaseSlot → Option Lease
lease_in s = lease_if s.presence s.lease

abbrev pub active_in : ActiveSlot → Option Active
active_in s = active_if s.presence s.active

-- the tables as the rules have them
pub record Tables : Type 0 where
  pub capabilities : List Capability
  pub leases : List (Option Lease)
  pub active : List (Option Active)
  pub replay : List Replay
  pub receipts : List Receipt

-- the call in hand with its arguments, and the receipt that is kept to be answered after a trip
pub record Asked : Type 0 where
  pub pending : Pending
  pub request : LeaseRequest
  pub renewal : Renewal
  pub submission : Submission
  pub submitted : Receipt

-- the order in hand: its capability, the end of a stream, and the state observed before its execution
pub record Order : Type 0 where
  pub capability : Capability
  pub end : ℕ
  pub pre_state : ℕ

-- where the call in hand stands
pub record Hand : Type 0 where
  pub waiting : Waiting
  pub falling : Falling
  pub revoked : Revoked
  pub order : Order
  pub receipt : Receipt  -- the one whose record item was handed out last
  pub axis : ℕ  -- of the lease that was granted or renewed last
  pub reason : Reason  -- of a refusal, while it is the answer

pub record State : Type 0 where
  pub fixed : Fixed
  pub numbers : Numbers
  pub tables : Tables
  pub asked : Asked
  pub hand : Hand

abbrev pub state : Fixed → Numbers → Tables → Asked → Hand → State
state f n t q h = record { fixed = f; numbers = n; tables = t; asked = q; hand = h }

-- how far the driver came with an order, as the rules have it
abbrev pub progress_of : Progress → Receipts.Progress
progress_of p =
    record {
      dispatched = p.dispatched;
      pre_state = p.pre_state;
      executed_at = p.executed_at;
      observed_valid = p.observed_valid;
      observed = p.observed;
      post_state = p.post_state;
    }

-- the book -------------------------------------------------------------------------------------------------------------

unfoldable pub book_of : Fixed → Numbers → Tables → Book
book_of f n t =
    record {
      config = f.config;
      boot_id = f.boot_id;
      capabilities = t.capabilities;
      leases = t.leases;
      active = t.active;
      replay = t.replay;
      receipts = t.receipts;
      next_receipt = n.next_receipt;
      next_lease = n.next_lease;
      epoch = n.epoch;
      flags = n.flags;
      state_at = n.state_at;
      last_tick = n.last_tick;
      state = n.mode.state;
      invalid_count = n.invalid_count;
      estop_seen = n.estop_seen;
    }

abbrev pub book_in : State → Book
book_in s = book_of s.fixed s.numbers s.tables

-- what a stored place denotes ------------------------------------------------------------------------------------------

-- what follows the opening tick of a call
unfoldable pub after_tick_of : CallKind → Asked → Book → Interaction
after_tick_of CallKind.Tick q b = Done b Returned
after_tick_of CallKind.UpdateState q b = sense q.pending.flags q.pending.now b
after_tick_of CallKind.RecoverLocal q b = recover q.pending.now b
after_tick_of CallKind.Acquire q b = grant (first_failing (acquire_checks q.request q.pending.now b)) q.request q.pending.now b
after_tick_of CallKind.Renew q b = renewed (first_failing (renew_checks q.renewal b)) q.renewal b
after_tick_of CallKind.Cancel q b = canceled (held_axis q.pending.owner q.pending.lease_id b) q.pending.now b
after_tick_of CallKind.Submit q b = admit (validate q.submission b) q.submission b

abbrev pub after_tick : Asked → Book → Interaction
after_tick q b = after_tick_of q.pending.kind q b

-- what follows the expiries of a tick, and the preconditions of new flags
abbrev pub tick_end : Asked → Book → Interaction
tick_end q b = after_tick q (refresh_state b)

abbrev pub flags_end : Book → Interaction
flags_end b = Done (refresh_state b) Returned

-- what follows a trip at a time, in a call, whose loop stood at an axis
unfoldable pub after_trip : AfterTrip → ℕ → ℕ → Asked → Book → Interaction
after_trip AfterTrip.Tick at time q b = after_tick q b
after_trip AfterTrip.Watchdog at time q b = staleness time (with_last_tick time b) (λ b'. expiries axes time b' (tick_end q))
after_trip AfterTrip.Stale at time q b = expiries axes time b (tick_end q)
after_trip AfterTrip.Expiry at time q b = expiries (axes_from (at + 1)) time b (tick_end q)
after_trip AfterTrip.Precondition at time q b = preconditions (axes_from (at + 1)) time b flags_end
after_trip AfterTrip.Return at time q b = Done b Returned
after_trip AfterTrip.Poll at time q b = Done b (Polled true)
after_trip AfterTrip.Cancel at time q b = Done b (Refused Reason.Driver)
after_trip AfterTrip.Submit at time q b = Done b (Submitted q.submitted)

-- what follows a fallback, given whether the driver succeeded
unfoldable pub after_fallback_of : AfterFallback → Falling → List Capability → Asked → Bool → Book → Interaction
after_fallback_of AfterFallback.Trip f cs q ok b =
    fallbacks (used_from cs (f.axis + 1)) f.reason f.time b (after_trip f.after_trip f.at f.time q)
after_fallback_of AfterFallback.Expiry f cs q ok b =
    cond ok (expiries (axes_from (f.axis + 1)) f.time b (tick_end q))
    (trip Reason.Driver f.time b (λ b'. expiries (axes_from (f.axis + 1)) f.time b' (tick_end q)))
after_fallback_of AfterFallback.Precondition f cs q ok b =
    cond ok (preconditions (axes_from (f.axis + 1)) f.time b flags_end)
    (trip Reason.Driver f.time b (λ b'. preconditions (axes_from (f.axis + 1)) f.time b' flags_end))
after_fallback_of AfterFallback.Recovery f cs q ok b = recoveries (used_from cs (f.axis + 1)) (f.good && ok) f.time b
after_fallback_of AfterFallback.Cancel f cs q ok b =
    cond ok (Done (refresh_state b) Succeeded) (trip Reason.Driver f.time b (λ b'. Done b' (Refused Reason.Driver)))

abbrev pub after_fallback : Falling → List Capability → Asked → Bool → Book → Interaction
after_fallback f cs q ok b = after_fallback_of f.after f cs q ok b

-- what follows the driver's reply to a fallback
unfoldable pub after_fell_back : Falling → Revoked → Asked → Bool → Book → Interaction
after_fell_back f v q ok b =
    record_receipt (event f.axis v.lease_id v.owner Decision.Fallback (cond ok f.reason Reason.Driver) f.time b) b
    (λ r' b'. after_fallback f b.capabilities q ok b')

-- what follows the driver's reply to an execution
unfoldable pub after_executed : Order → Submission → Book → Bool → Interaction
after_executed o s b ok =
    cond ok (Observe o.capability.resource b (verify o.capability o.end o.pre_state s b))
    (fail o.capability Reason.Driver
    (record { dispatched = true; pre_state = o.pre_state; executed_at = 0; observed_valid = false; observed = not_sent.observed; post_state = 0 }) s b)

unfoldable pub lease_or : Lease → Option Lease → Lease
lease_or d None = d
lease_or d (Some l) = l

-- the lease that is answered: the one that stands on the axis; where none does, a blank
abbrev pub answered_lease : Book → ℕ → Lease
answered_lease b axis = lease_or no_lease.lease (lease_at b axis)

-- what follows a receipt: of a fallback, given whether the driver succeeded, of a lease on an axis, or of an order
unfoldable pub after_record_of : AfterRecord → Falling → Bool → ℕ → Asked → Receipt → Book → Interaction
after_record_of AfterRecord.Fallback f ok axis q r b = after_fallback f b.capabilities q ok b
after_record_of AfterRecord.Lease f ok axis q r b = Done b (Leased (answered_lease b axis))
after_record_of AfterRecord.Executed f ok axis q r b = Done b (Submitted r)
after_record_of AfterRecord.Failed f ok axis q r b = trip r.reason q.submission.now b (λ b'. Done b' (Submitted r))
after_record_of AfterRecord.Rejected f ok axis q r b = storm q.submission.now r b

-- where the state stands -----------------------------------------------------------------------------------------------

unfoldable pub phase_at : Awaited → Hand → Asked → Book → Phase
phase_at Awaited.Nothing h q b = Idle b
phase_at Awaited.ObserveBefore h q b =
    Waits (OnObserve h.order.capability.resource b (dispatch h.order.capability h.order.end q.submission b))
phase_at Awaited.Execute h q b =
    Waits (OnExecute h.order.capability.id q.submission.action.parameters b (after_executed h.order q.submission b))
phase_at Awaited.ObserveAfter h q b =
    Waits
    (OnObserve h.order.capability.resource b
    (verify h.order.capability h.order.end h.order.pre_state q.submission b))
phase_at Awaited.Fallback h q b =
    Waits (OnFallback h.falling.axis h.falling.reason b (λ ok. after_fell_back h.falling h.revoked q ok b))
phase_at Awaited.Record h q b =
    Waits
    (OnRecord h.receipt b
    (after_record_of h.waiting.after_record h.falling h.revoked.ok h.axis q h.receipt b))

unfoldable pub phase_of : State → Phase
phase_of s = phase_at s.hand.waiting.awaited s.hand s.asked (book_in s)

-- the item whose reply is awaited; where none is, whichever
unfoldable pub item_at : Awaited → Hand → Asked → Item
item_at Awaited.Nothing h q = ItemRecord h.receipt
item_at Awaited.ObserveBefore h q = ItemObserve h.order.capability.resource
item_at Awaited.Execute h q = ItemExecute h.order.capability.id q.submission.action.parameters
item_at Awaited.ObserveAfter h q = ItemObserve h.order.capability.resource
item_at Awaited.Fallback h q = ItemFallback h.falling.axis h.falling.reason
item_at Awaited.Record h q = ItemRecord h.receipt

abbrev pub item_of : State → Item
item_of s = item_at s.hand.waiting.awaited s.hand s.asked

-- the receipt that `submit` answers: the order's own, or the one that was kept while a trip followed
unfoldable pub answered_at : AfterRecord → Receipt → Receipt → Receipt
answered_at AfterRecord.Fallback r kept = kept
answered_at AfterRecord.Lease r kept = kept
answered_at AfterRecord.Executed r kept = r
answered_at AfterRecord.Failed r kept = r
answered_at AfterRecord.Rejected r kept = r

abbrev pub answered_receipt : State → Receipt
answered_receipt s = answered_at s.hand.waiting.after_record s.hand.receipt s.asked.submitted

-- what comes out (01's numbers and values, by the answer and what stands in the state with it)
unfoldable pub output_of : Answer → State → Output
output_of Answer.Returned s = Answers Returned
output_of Answer.Unraised s = Answers (Polled false)
output_of Answer.Raised s = Answers (Polled true)
output_of Answer.Succeeded s = Answers Succeeded
output_of Answer.Leased s = Answers (Leased (answered_lease (book_in s) s.hand.axis))
output_of Answer.Refused s = Answers (Refused s.hand.reason)
output_of Answer.Submitted s = Answers (Submitted (answered_receipt s))
output_of Answer.Item s = Hands (item_of s)
output_of Answer.ReplyAwaited s = Reminds reply_awaited (item_of s)
output_of Answer.OtherAwaited s = Reminds other_reply_awaited (item_of s)
output_of Answer.NoReplyAwaited s = Refuses no_reply_awaited
output_of Answer.NoRuntime s = NoRuntime
output_of Answer.Started s = Started
output_of Answer.InvalidBootId s = StartRefused invalid_boot_id
output_of Answer.InvalidConfig s = StartRefused invalid_config
output_of Answer.InvalidCapability s = StartRefused invalid_capability
output_of Answer.DuplicateCapability s = StartRefused duplicate_capability
output_of Answer.StartupFailed s = StartRefused startup_failed

unfoldable pub reaction_of : Answer → State → Reaction
reaction_of a s = record { output = output_of a s; phase = phase_of s }

-- a reply is awaited
abbrev pub waits : Awaited → Bool
waits Awaited.Nothing = false
waits Awaited.ObserveBefore = true
waits Awaited.Execute = true
waits Awaited.ObserveAfter = true
waits Awaited.Fallback = true
waits Awaited.Record = true

-- soundness ------------------------------------------------------------------------------------------------------------

-- what a start has checked, and nothing changes: sound records, and the axes that they name
pub record Checked (cs : List Capability) (marks : List Bool) : Type 0 where
  pub some : cs ≢ []
  pub each : (c : Capability) → Mem c cs → sound c ≡ true
  pub used : (axis : ℕ) → axis < 8 → get_or marks axis false ≡ axis_used cs axis

-- how many leases stand
unfoldable pub count_of : List (Option Lease) → ℕ
count_of [] = 0
count_of (None ∷ ls) = count_of ls
count_of (Some l ∷ ls) = suc (count_of ls)

-- eight axes each; an active order has a lease on its axis
pub record Sized (ls : List (Option Lease)) (os : List (Option Active)) : Type 0 where
  pub leases : length ls ≡ 8
  pub active : length os ≡ 8
  pub under : (axis : ℕ) (a : Active) → get_or os axis None ≡ Some a → is_some (get_or ls axis None) ≡ true

-- what the numbers say of the tables: the leases are counted, and none of them and no active order ends before `soonest`
pub record Counted (n soonest : ℕ) (ls : List (Option Lease)) (os : List (Option Active)) : Type 0 where
  pub held : n ≡ count_of ls
  pub leases : (axis : ℕ) (l : Lease) → get_or ls axis None ≡ Some l → soonest ≤ l.expires_at
  pub active : (axis : ℕ) (a : Active) → get_or os axis None ≡ Some a → soonest ≤ a.expires_at

-- axes of the fallback in hand
pub record InBounds (f : Falling) : Type 0 where
  pub axis : f.axis < 8
  pub at : f.at < 8

-- an order is in the driver's hands
abbrev pub carries : Awaited → Bool
carries Awaited.Nothing = false
carries Awaited.ObserveBefore = true
carries Awaited.Execute = true
carries Awaited.ObserveAfter = true
carries Awaited.Fallback = false
carries Awaited.Record = false

-- the order in hand is on an axis, and has its lease while the driver carries it out
pub record Carried (w : Awaited) (o : Order) (leases : List (Option Lease)) : Type 0 where
  pub axis : o.capability.resource < 8
  pub leased : carries w ≡ true → is_some (get_or leases o.capability.resource None) ≡ true

-- the one condition on a state: what a start sets up and every call and reply keeps
pub record Sound (s : State) : Type 0 where
  pub checked : Checked s.tables.capabilities s.fixed.used
  pub sized : Sized s.tables.leases s.tables.active
  pub counted : Counted s.numbers.held s.numbers.soonest s.tables.leases s.tables.active
  pub falling : InBounds s.hand.falling
  pub order : Carried s.hand.waiting.awaited s.hand.order s.tables.leases

-- where a state is left, given what the rules say
pub record Moves (s : State) (answer : Answer) (x : Reaction) : Type 0 where
  pub reaction : reaction_of answer s ≡ x
  pub sound : Sound s
