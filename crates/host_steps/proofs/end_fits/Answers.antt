use native.Mathlib.Nat.{add_comm}
use Rattle.decide_lease.proofs.Numbers.{sum_fits}
use borrow.Author.Rules.{rules}
use Rattle.host_steps.proofs.end_fits.Goals as goal

pub returns : goal.returns
returns c = rw (add_comm c.args.received_at c.args.valid_for_ms) (sum_fits c.args.valid_for_ms c.args.received_at 18446744073709551615 (search rules))
