use Rattle.runtime.proofs.Trials.{tries-from}
use Rattle.runtime.proofs.try_from.Goals as goal

pub first_used-axis-requires : goal.first_used-axis-requires
first_used-axis-requires c = c.requires.1

pub returns : goal.returns
returns c = rw (c.tried-trial.ensures, c.first_used-axis.ensures) (tries-from c.args.rt.now c.requires.0 c.args.from c.args.good)
