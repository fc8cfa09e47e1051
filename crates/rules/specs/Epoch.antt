-- The flags, the raise number last seen and the epoch, from the log alone.
use Rattle.std.specs.Prelude.{ℕ, ◌+◌, Bool, true, false, cond, not, ◌&&◌, ◌||◌, [], ◌∷◌, eqb}
use Rattle.std.specs.Prelude.{Option, Some, None}
use Rattle.std.specs.Int.Bits.{bit_or}
use Rattle.model.specs.declared.Reason.{Reason}
use Rattle.model.specs.Reasons.{number}
use Rattle.rules.specs.Admission.{is_some}
use Rattle.rules.specs.Protocol.{Call, Tick, UpdateState, EmergencyStop, PollEstop, RecoverLocal, Acquire, Renew, Cancel, Submit, Item, ItemObserve, ItemExecute, ItemFallback, ItemRecord, Start}
use Rattle.rules.specs.Log.{Event, Took, Replied, Handed, Ended, Log, call_of, is_grant}

-- flags ----------------------------------------------------------------------------------------------------------------

-- the raise number of the last poll, 0 before the first
unfoldable pub seen_raise : Log → ℕ
seen_raise [] = 0
seen_raise (Took (Tick now) ∷ l) = seen_raise l
seen_raise (Took (UpdateState flags now) ∷ l) = seen_raise l
seen_raise (Took (EmergencyStop now) ∷ l) = seen_raise l
seen_raise (Took (PollEstop raised now) ∷ l) = raised
seen_raise (Took (RecoverLocal now) ∷ l) = seen_raise l
seen_raise (Took (Acquire r now) ∷ l) = seen_raise l
seen_raise (Took (Renew r) ∷ l) = seen_raise l
seen_raise (Took (Cancel owner id now) ∷ l) = seen_raise l
seen_raise (Took (Submit s) ∷ l) = seen_raise l
seen_raise (Replied r ∷ l) = seen_raise l
seen_raise (Handed i ∷ l) = seen_raise l
seen_raise (Ended a ∷ l) = seen_raise l

-- an emergency stop, or a poll whose raise number differs from the one last seen
unfoldable pub stops : Event → Log → Bool
stops (Took (Tick now)) l = false
stops (Took (UpdateState flags now)) l = false
stops (Took (EmergencyStop now)) l = true
stops (Took (PollEstop raised now)) l = not (eqb raised (seen_raise l))
stops (Took (RecoverLocal now)) l = false
stops (Took (Acquire r now)) l = false
stops (Took (Renew r)) l = false
stops (Took (Cancel owner id now)) l = false
stops (Took (Submit s)) l = false
stops (Replied r) l = false
stops (Handed i) l = false
stops (Ended a) l = false

-- a fallback for this reason
unfoldable pub falls_for : Reason → Item → Bool
falls_for reason (ItemObserve axis) = false
falls_for reason (ItemExecute capability parameters) = false
falls_for reason (ItemFallback axis r) = eqb (number r) (number reason)
falls_for reason (ItemRecord r) = false

-- the call in hand fell back for Clock: its time is before the last tick (that trip always shows, since a start names a used axis)
unfoldable pub clock_tripped : Log → Bool
clock_tripped [] = false
clock_tripped (Took c ∷ l) = false
clock_tripped (Replied r ∷ l) = clock_tripped l
clock_tripped (Handed i ∷ l) = falls_for Reason.Clock i || clock_tripped l
clock_tripped (Ended a ∷ l) = clock_tripped l

-- From this event on an update in hand is in force. 01: "tick; return if now is before last tick; .. an estop bit trips 11; else active
-- orders that flags forbid fall back with 5". The tick falls back for other reasons than these two: a fallback for one of them shows
-- that the flags were set, and so does the call's end unless it returned at once.
unfoldable pub in_force : Event → Log → Bool
in_force (Took c) l = false
in_force (Replied r) l = false
in_force (Handed i) l = falls_for Reason.Estop i || falls_for Reason.Precondition i
in_force (Ended a) l = not (clock_tripped l)

-- the flags of the update in hand in place of these; another call has none
unfoldable pub updated : Option Call → ℕ → ℕ
updated None n = n
updated (Some (Tick now)) n = n
updated (Some (UpdateState flags now)) n = flags
updated (Some (EmergencyStop now)) n = n
updated (Some (PollEstop raised now)) n = n
updated (Some (RecoverLocal now)) n = n
updated (Some (Acquire r now)) n = n
updated (Some (Renew r)) n = n
updated (Some (Cancel owner id now)) n = n
updated (Some (Submit s)) n = n

-- the flags: those of the start, with the stop mask after a stop, replaced where an update comes into force
unfoldable pub flags_of : Start → Log → ℕ
flags_of s [] = s.flags
flags_of s (e ∷ l) =
    cond (stops e l) (bit_or (flags_of s l) s.config.estop_mask)
    (cond (in_force e l) (updated (call_of l) (flags_of s l)) (flags_of s l))

-- the epoch ------------------------------------------------------------------------------------------------------------

-- an update comes into force with other flags; those of a stop are set "without bumping for that"
abbrev pub new_flags_at : Start → Event → Log → Bool
new_flags_at s e l = in_force e l && not (eqb (updated (call_of l) (flags_of s l)) (flags_of s l))

-- a fallback of a call (those of the start come before any), or a grant
unfoldable pub bumps_at : Event → Log → Bool
bumps_at (Took c) l = false
bumps_at (Replied r) l = false
bumps_at (Handed (ItemObserve axis)) l = false
bumps_at (Handed (ItemExecute capability parameters)) l = false
bumps_at (Handed (ItemFallback axis reason)) l = is_some (call_of l)
bumps_at (Handed (ItemRecord r)) l = is_grant r
bumps_at (Ended a) l = false

abbrev pub one_more_if : Bool → ℕ → ℕ
one_more_if t n = cond t (n + 1) n

-- how many fallbacks of calls, grants and new flags there were
unfoldable pub bumps : Start → Log → ℕ
bumps s [] = 0
bumps s (e ∷ l) = one_more_if (bumps_at e l) (one_more_if (new_flags_at s e l) (bumps s l))
