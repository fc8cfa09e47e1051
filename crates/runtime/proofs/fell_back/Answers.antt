use Rattle.runtime.proofs.Trials.{gone-turns, is-started, started-good, started-turns, tried-turns, trying-tries}
use Rattle.runtime.proofs.fell_back.Goals as goal

pub try_next-requires : goal.try_next-requires
try_next-requires c = trying-tries c.args.rt.now c.requires c.in-Trying.is

pub fell_back_on-requires : goal.fell_back_on-requires
fell_back_on-requires c = started-good c.args.rt.now c.requires (is-started c.args.rt.now c.in-Started.is)

pub returns-in-Trying : goal.returns-in-Trying
returns-in-Trying c = tried-turns c.args.rt.now c.try_next.new.rt c.try_next.result c.args.ok c.in-Trying.is c.try_next.ensures

pub returns-in-Gone : goal.returns-in-Gone
returns-in-Gone c = gone-turns c.args.rt.now _ c.requires c.in-Gone.is

pub returns-in-Started : goal.returns-in-Started
returns-in-Started c = started-turns c.args.rt.now c.fell_back_on.new.rt c.fell_back_on.result _ (is-started c.args.rt.now c.in-Started.is) c.fell_back_on.ensures
