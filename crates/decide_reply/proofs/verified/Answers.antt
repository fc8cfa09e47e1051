use Rattle.rules.specs.Rules.{verified}
use Rattle.decide_reply.proofs.verified.Goals as goal

pub returns-in-Parameters : goal.returns-in-Parameters
unfolding verified
returns-in-Parameters c = rw c.in-Parameters.is c.same_parameters.ensures

pub returns-in-State : goal.returns-in-State
unfolding verified
returns-in-State c = rw c.in-State.is
