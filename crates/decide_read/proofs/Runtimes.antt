-- Whether a start has ended, by what was read of it. Assumes nothing.
use mathlib.Core.Bool.{Bool, true, false}
use mathlib.Core.Path.{◌≡◌}
use Rattle.decide_start.specs.Starts.{is_started}
use Rattle.decide_start.specs.declared.Stage.{Stage}
use Rattle.model.specs.declared.Presence.{Presence}
use Rattle.model.specs.declared.Presence.TheVariants.{Absent, Present}
use Rattle.decide_read.specs.Shown.{presence_of}

abbrev is_there : Presence → Bool
is_there Absent = false
is_there Present = true

pub told : (s : Stage) {p : Presence} → p ≡ presence_of (is_started s) → is_started s ≡ is_there p
told Stage.Trying e = rw e
told Stage.Gone e = rw e
told Stage.Started e = rw e
