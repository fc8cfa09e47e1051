-- The reasons and their numbers (model.rs, `enum Reason`), and the numbers that the port adds (01, "What the customer meets as a refusal").
use Rattle.std.specs.Prelude.{ℕ, ◌≡◌, List, [], ◌∷◌, Option, Some, None, Result, MatchResult, slice_get}
use Rattle.model.specs.declared.Reason.{Reason}
use Rattle.model.specs.declared.Reason.TheVariants.{Ok, Bound, Stale, Authority, Duplicate, Precondition, OldSequence, Epoch, UnknownCapability, TooEarly, Invalid, Estop, Faulted, Watchdog, LeaseExpired, StreamExpired, Driver, Verification, Clock, Busy, Canceled, InvalidStorm, StateStale, BootMismatch, LeaseGranted, LeaseRenewed, Recovered, Startup}
use Rattle.model.specs.declared.UnknownNumber.{UnknownNumber}

abbrev pub number : Reason → ℕ
number Ok = 0
number Bound = 1
number Stale = 2
number Authority = 3
number Duplicate = 4
number Precondition = 5
number OldSequence = 6
number Epoch = 7
number UnknownCapability = 8
number TooEarly = 9
number Invalid = 10
number Estop = 11
number Faulted = 12
number Watchdog = 13
number LeaseExpired = 14
number StreamExpired = 15
number Driver = 16
number Verification = 17
number Clock = 18
number Busy = 19
number Canceled = 20
number InvalidStorm = 21
number StateStale = 22
number BootMismatch = 23
number LeaseGranted = 24
number LeaseRenewed = 25
number Recovered = 26
number Startup = 27

-- every reason, each at the place that is its number
abbrev pub reasons : List Reason
reasons =
    Ok
    ∷ Bound
    ∷ Stale
    ∷ Authority
    ∷ Duplicate
    ∷ Precondition
    ∷ OldSequence
    ∷ Epoch
    ∷ UnknownCapability
    ∷ TooEarly
    ∷ Invalid
    ∷ Estop
    ∷ Faulted
    ∷ Watchdog
    ∷ LeaseExpired
    ∷ StreamExpired
    ∷ Driver
    ∷ Verification
    ∷ Clock
    ∷ Busy
    ∷ Canceled
    ∷ InvalidStorm
    ∷ StateStale
    ∷ BootMismatch
    ∷ LeaseGranted
    ∷ LeaseRenewed
    ∷ Recovered
    ∷ Startup
    ∷ []

-- the reason that a number stands for, or none
abbrev pub reason_at : ℕ → Option Reason
reason_at n = slice_get reasons n

-- what is made of a number: its reason, or an error where it has none
abbrev pub StandsForReason : ℕ → Result Reason UnknownNumber → Type 0
StandsForReason n r = MatchResult r (λ reason. reason_at n ≡ Some reason) (λ _. reason_at n ≡ None)

-- boot number 0
abbrev pub invalid_boot_id : ℕ
invalid_boot_id = 101

-- list empty or above 16, or one of the six `Config` fields 0
abbrev pub invalid_config : ℕ
invalid_config = 102

-- unsound record
abbrev pub invalid_capability : ℕ
invalid_capability = 103

-- id used earlier in the list
abbrev pub duplicate_capability : ℕ
duplicate_capability = 104

-- a startup fallback failed
abbrev pub startup_failed : ℕ
startup_failed = 105

-- a call begun while a reply is awaited
abbrev pub reply_awaited : ℕ
reply_awaited = 111

-- a reply while none is awaited
abbrev pub no_reply_awaited : ℕ
no_reply_awaited = 112

-- a reply of another kind than awaited
abbrev pub other_reply_awaited : ℕ
other_reply_awaited = 113
