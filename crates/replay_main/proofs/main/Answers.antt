use mathlib.Core.Path.{refl}
use Rattle.replay.specs.Ring.{find_entry, is_entry}
use Rattle.replay_main.specs.Orders.{orders}
use Rattle.replay_main.proofs.Orders.{answered}
use Rattle.replay_main.proofs.main.Goals as goal

pub prove-unreachable-requires : goal.prove-unreachable-requires
unfolding find_entry is_entry orders
prove-unreachable-requires c = c.if-prove.true (answered 1 c.filled-ring.ensures c.find.ensures c.unwrap_or-first.ensures refl)

pub prove-unreachable-requires-2 : goal.prove-unreachable-requires-2
unfolding find_entry is_entry orders
prove-unreachable-requires-2 c = c.if-prove-2.true (answered 2 c.filled-ring.ensures c.find-2.ensures c.unwrap_or-second.ensures refl)

pub prove-unreachable-requires-3 : goal.prove-unreachable-requires-3
unfolding find_entry is_entry orders
prove-unreachable-requires-3 c = c.if-prove-3.true (answered 33 c.filled-ring.ensures c.find-3.ensures c.unwrap_or-last.ensures refl)
