-- Which axis has to be looked for before a call goes on after a fallback, and that it was.
use Rattle.std.specs.Prelude.{ℕ, ◌+◌, ◌≡◌}
use Rattle.model.specs.declared.LeaseSlot.{LeaseSlot}
use Rattle.state.specs.State.{Tables}
use Rattle.state.specs.declared.AfterFallback.{AfterFallback}
use Rattle.state.specs.declared.AfterTrip.{AfterTrip}
use Rattle.state.specs.declared.Falling.{Falling}
use Rattle.decide_tick.specs.Ticks.{ShowsDue}
use Rattle.decide_flags.specs.Flags.{ShowsForbidden}
use Rattle.decide_resume.specs.declared.Search.{Search}
use Rattle.decide_resume.specs.declared.Sought.{Sought}

-- what a search says of the tables: the first axis from one on that is due, or whose order the flags forbid
unfoldable pub ShowsSought : Sought → ℕ → ℕ → ℕ → ℕ → LeaseSlot → Tables → Type 0
ShowsSought Sought.Due from time flags axis lease t = ShowsDue time from axis lease t
ShowsSought Sought.Forbidden from time flags axis lease t = ShowsForbidden flags from axis t
ShowsSought Sought.Nothing from time flags axis lease t = Unit {0}

-- what follows a trip goes on with the expiries or with the preconditions, or with neither
unfoldable pub TripSeeks : AfterTrip → ℕ → Search → Type 0
TripSeeks AfterTrip.Tick at s = Unit {0}
TripSeeks AfterTrip.Watchdog at s = (s.sought ≡ Sought.Due) × (s.from ≡ 0)
TripSeeks AfterTrip.Stale at s = (s.sought ≡ Sought.Due) × (s.from ≡ 0)
TripSeeks AfterTrip.Expiry at s = (s.sought ≡ Sought.Due) × (s.from ≡ at + 1)
TripSeeks AfterTrip.Precondition at s = (s.sought ≡ Sought.Forbidden) × (s.from ≡ at + 1)
TripSeeks AfterTrip.Return at s = Unit {0}
TripSeeks AfterTrip.Poll at s = Unit {0}
TripSeeks AfterTrip.Cancel at s = Unit {0}
TripSeeks AfterTrip.Submit at s = Unit {0}

unfoldable pub SeeksAfter : AfterFallback → Falling → Search → Type 0
SeeksAfter AfterFallback.Trip f s = TripSeeks f.after_trip f.at s
SeeksAfter AfterFallback.Expiry f s = (s.sought ≡ Sought.Due) × (s.from ≡ f.axis + 1)
SeeksAfter AfterFallback.Precondition f s = (s.sought ≡ Sought.Forbidden) × (s.from ≡ f.axis + 1)
SeeksAfter AfterFallback.Recovery f s = Unit {0}
SeeksAfter AfterFallback.Cancel f s = Unit {0}

abbrev pub Seeks : Falling → Search → Type 0
Seeks f s = SeeksAfter f.after f s

-- the search that the fallback in hand asks for was made
pub record ShowsNext (f : Falling) (flags axis : ℕ) (lease : LeaseSlot) (t : Tables) : Type 0 where
  pub search : Search
  pub seeks : Seeks f search
  pub shown : ShowsSought search.sought search.from f.time flags axis lease t
