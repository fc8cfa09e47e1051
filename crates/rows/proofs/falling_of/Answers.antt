use native.Mathlib.Omega.{arith}
use lib.ListN.{get_or}
use Rattle.rows.specs.Rows.{falling_of}
use Rattle.rows.proofs.Codes.{below_less}
use Rattle.rows.proofs.falling_of.Goals as goal

pub overflow_cast-result : goal.overflow_cast-result
overflow_cast-result c = record { fits = omega (arith, c.held_below.ensures, below_less 8 (get_or c.args.words 1 0) (omega arith)) }

pub overflow_cast-result-2 : goal.overflow_cast-result-2
overflow_cast-result-2 c = record { fits = omega (arith, c.held_below-2.ensures, below_less 8 (get_or c.args.words 2 0) (omega arith)) }

pub returns : goal.returns
unfolding falling_of
returns c = rw (c.after_trip_of.ensures, c.as_bool.ensures, c.after_fallback_of.ensures, c.reason_of.ensures, c.held_below-2.ensures, c.held_below.ensures)
