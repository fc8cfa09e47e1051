use Rattle.host_calls.proofs.Callings.{tried-steps, gone-steps, fell-steps}
use Rattle.host_calls.proofs.fell_back.Goals as goal

pub returns-in-Trying : goal.returns-in-Trying
returns-in-Trying c = tried-steps _ c.starting_in-starting.ensures c.args.ok c.in-Trying.is c.try_next.ensures

pub returns-in-Gone : goal.returns-in-Gone
returns-in-Gone c = gone-steps _ c.starting_in-starting.ensures _ c.in-Gone.is

pub returns-in-Started : goal.returns-in-Started
returns-in-Started c = fell-steps _ c.starting_in-starting.ensures _ c.in-Started.is c.fell_back_on.ensures
