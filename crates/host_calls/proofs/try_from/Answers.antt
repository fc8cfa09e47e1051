use Rattle.host_calls.proofs.Callings.{from-tried}
use Rattle.host_calls.proofs.try_from.Goals as goal

pub returns : goal.returns
returns c = from-tried c.args.from c.args.good c.fixed_in-fixed.ensures c.first_used-axis.ensures c.tried-trial.ensures c.falling_in-falling.ensures c.put_starting.ensures c.put_waiting.ensures c.put_falling.ensures.becomes c.put_falling.ensures.falling_value
