use mathlib.Core.Path.{ap, sym}
use Rattle.rules.specs.Rules.{active_until}
use Rattle.decide_reply.proofs.active_until.Goals as goal

pub returns-in-Stream : goal.returns-in-Stream
unfolding active_until
returns-in-Stream c = sym (ap (λ k. active_until c.args.capability k c.args.end) c.in-Stream.is)

pub returns-in-Discrete : goal.returns-in-Discrete
unfolding active_until
returns-in-Discrete c = sym (ap (λ k. active_until c.args.capability k c.args.end) c.in-Discrete.is)

pub returns-in-Control : goal.returns-in-Control
unfolding active_until
returns-in-Control c = sym (ap (λ k. active_until c.args.capability k c.args.end) c.in-Control.is)
