use Rattle.host_calls.proofs.Callings.{next-within, next-tried}
use native.Mathlib.Omega.{arith}
use Rattle.host_calls.proofs.try_next.Goals as goal

pub overflow_add-falling : goal.overflow_add-falling
overflow_add-falling c = omega (arith, next-within _ c.falling_in-falling.ensures)

pub try_from-requires : goal.try_from-requires
try_from-requires c = (c.requires, next-within _ c.falling_in-falling.ensures)

pub returns : goal.returns
returns c = next-tried c.args.ok c.falling_in-falling.ensures c.starting_in-starting.ensures c.still_good-good.ensures c.try_from.ensures
