use Rattle.host_readings.proofs.Showing.{not-numbered, noted-some}
use native.Mathlib.Omega.{arith}
use Rattle.host_readings.proofs.noted_any.Goals as goal

pub noted_at-requires : goal.noted_at-requires
noted_at-requires c = c.is_numbered.ensures.yes c.if-is_numbered.true

pub returns-then-is_numbered : goal.returns-then-is_numbered
returns-then-is_numbered c = noted-some c.noted_at.ensures

pub returns : goal.returns
returns c = record { rejected = omega arith; others = omega arith; noted = not-numbered c.is_numbered.ensures c.if-is_numbered.false }
