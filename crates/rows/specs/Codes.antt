-- The words of the state's cases: each case is its place in a list, and a word past the last is the first case, so that every word means
-- something. A number that is a place of a table is 0 where it is past the last.
use Rattle.std.specs.Prelude.{ℕ, ◌+◌, ◌*◌, ◌/◌, ◌%◌, cond, List, [], ◌∷◌, ltb, ℤ, get_or}
use Rattle.words.specs.Signs.{signed, unsigned}
use Rattle.model.specs.Decisions.{decisions}
use Rattle.model.specs.declared.Decision.{Decision}
use Rattle.model.specs.declared.Decision.TheVariants.{Executed}
use Rattle.model.specs.declared.Presence.{Presence}
use Rattle.model.specs.declared.Presence.TheVariants.{Absent, Present}
use Rattle.model.specs.declared.Reason.{Reason}
use Rattle.model.specs.declared.RuntimeState.{RuntimeState}
use Rattle.model.specs.declared.RuntimeState.TheVariants as State
use Rattle.model.specs.Reasons.{reasons}
use Rattle.state.specs.declared.AfterFallback.{AfterFallback}
use Rattle.state.specs.declared.AfterRecord.{AfterRecord}
use Rattle.state.specs.declared.AfterTrip.{AfterTrip}
use Rattle.state.specs.declared.Awaited.{Awaited}
use Rattle.state.specs.declared.CallKind.{CallKind}
use Rattle.decide_start.specs.declared.Stage.{Stage}

-- numbers ----------------------------------------------------------------------------------------------------------------

-- a place below n
unfoldable pub below : ℕ → ℕ → ℕ
below n x = cond (ltb x n) x 0

-- two numbers of 32 bits in one word
unfoldable pub paired : ℕ → ℕ → ℕ
paired low high = low + 4294967296 * high

unfoldable pub low_of : ℕ → ℕ
low_of x = x % 4294967296

unfoldable pub high_of : ℕ → ℕ
high_of x = x / 4294967296 % 4294967296

-- .. and two signed ones
abbrev pub signs_of : ℕ → List ℤ
signs_of x = signed (low_of x) ∷ signed (high_of x) ∷ []

abbrev pub signs_word : ℤ → ℤ → ℕ
signs_word a b = paired (unsigned a) (unsigned b)

-- cases ------------------------------------------------------------------------------------------------------------------

abbrev pub presence_of : ℕ → Presence
presence_of n = get_or (Absent ∷ Present ∷ []) n Absent

abbrev pub presence_word : Presence → ℕ
presence_word Absent = 0
presence_word Present = 1

abbrev pub decision_of : ℕ → Decision
decision_of n = get_or decisions n Executed

abbrev pub reason_of : ℕ → Reason
reason_of n = get_or reasons n Reason.Ok

abbrev pub mode_of : ℕ → RuntimeState
mode_of n = get_or (State.SafeIdle ∷ State.Armed ∷ State.Faulted ∷ State.Estopped ∷ []) n State.SafeIdle

abbrev pub awaited_of : ℕ → Awaited
awaited_of n =
    get_or
    (Awaited.Nothing
    ∷ Awaited.ObserveBefore
    ∷ Awaited.Execute
    ∷ Awaited.ObserveAfter
    ∷ Awaited.Fallback
    ∷ Awaited.Record
    ∷ []) n Awaited.Nothing

abbrev pub awaited_word : Awaited → ℕ
awaited_word Awaited.Nothing = 0
awaited_word Awaited.ObserveBefore = 1
awaited_word Awaited.Execute = 2
awaited_word Awaited.ObserveAfter = 3
awaited_word Awaited.Fallback = 4
awaited_word Awaited.Record = 5

abbrev pub after_record_of : ℕ → AfterRecord
after_record_of n =
    get_or
    (AfterRecord.Fallback
    ∷ AfterRecord.Lease
    ∷ AfterRecord.Executed
    ∷ AfterRecord.Failed
    ∷ AfterRecord.Rejected
    ∷ []) n AfterRecord.Fallback

abbrev pub after_record_word : AfterRecord → ℕ
after_record_word AfterRecord.Fallback = 0
after_record_word AfterRecord.Lease = 1
after_record_word AfterRecord.Executed = 2
after_record_word AfterRecord.Failed = 3
after_record_word AfterRecord.Rejected = 4

abbrev pub after_fallback_of : ℕ → AfterFallback
after_fallback_of n =
    get_or
    (AfterFallback.Trip
    ∷ AfterFallback.Expiry
    ∷ AfterFallback.Precondition
    ∷ AfterFallback.Recovery
    ∷ AfterFallback.Cancel
    ∷ []) n AfterFallback.Trip

abbrev pub after_fallback_word : AfterFallback → ℕ
after_fallback_word AfterFallback.Trip = 0
after_fallback_word AfterFallback.Expiry = 1
after_fallback_word AfterFallback.Precondition = 2
after_fallback_word AfterFallback.Recovery = 3
after_fallback_word AfterFallback.Cancel = 4

abbrev pub after_trip_of : ℕ → AfterTrip
after_trip_of n =
    get_or
    (AfterTrip.Tick
    ∷ AfterTrip.Watchdog
    ∷ AfterTrip.Stale
    ∷ AfterTrip.Expiry
    ∷ AfterTrip.Precondition
    ∷ AfterTrip.Return
    ∷ AfterTrip.Poll
    ∷ AfterTrip.Cancel
    ∷ AfterTrip.Submit
    ∷ []) n AfterTrip.Tick

abbrev pub after_trip_word : AfterTrip → ℕ
after_trip_word AfterTrip.Tick = 0
after_trip_word AfterTrip.Watchdog = 1
after_trip_word AfterTrip.Stale = 2
after_trip_word AfterTrip.Expiry = 3
after_trip_word AfterTrip.Precondition = 4
after_trip_word AfterTrip.Return = 5
after_trip_word AfterTrip.Poll = 6
after_trip_word AfterTrip.Cancel = 7
after_trip_word AfterTrip.Submit = 8

abbrev pub call_kind_of : ℕ → CallKind
call_kind_of n =
    get_or
    (CallKind.Tick
    ∷ CallKind.UpdateState
    ∷ CallKind.RecoverLocal
    ∷ CallKind.Acquire
    ∷ CallKind.Renew
    ∷ CallKind.Cancel
    ∷ CallKind.Submit
    ∷ []) n CallKind.Tick

abbrev pub call_kind_word : CallKind → ℕ
call_kind_word CallKind.Tick = 0
call_kind_word CallKind.UpdateState = 1
call_kind_word CallKind.RecoverLocal = 2
call_kind_word CallKind.Acquire = 3
call_kind_word CallKind.Renew = 4
call_kind_word CallKind.Cancel = 5
call_kind_word CallKind.Submit = 6

-- zeros are a start that is over without a runtime
abbrev pub stage_of : ℕ → Stage
stage_of n = get_or (Stage.Gone ∷ Stage.Trying ∷ Stage.Started ∷ []) n Stage.Gone

abbrev pub stage_word : Stage → ℕ
stage_word Stage.Gone = 0
stage_word Stage.Trying = 1
stage_word Stage.Started = 2
