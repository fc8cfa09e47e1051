use Rattle.decide_flags.proofs.Stops.{stops_so}
use Prim.Native.Nat.{max}
use mathlib.Core.Path.{◌≡◌}
use native.Mathlib.Omega.{arith}
use borrow.Author.Rules.{rules}
use Rattle.decide_flags.proofs.stopped.Goals.{then-time-numbers, else-time-numbers}
use Rattle.decide_flags.proofs.stopped.Goals as goal

pub returns : goal.returns
returns c = (
  c.trips.ensures.0,
  let a = c.args in
      let larger : c.if-time-numbers.larger ≡ max a.numbers.last_tick a.time = elim c.if-time-numbers.branch [
        | then-time-numbers w ↦ omega (arith, w.larger-is, w.if-time-numbers.true)
        | else-time-numbers w ↦ omega (arith, w.larger-is, w.if-time-numbers.false)
      ] in
      stops_so a.fixed a.numbers a.time a.after_trip c.if-time-numbers.larger larger (c.trips.ensures.1 (search rules)),
)
