use Rattle.decide_tick.specs.Ticks.{OpensAs}
use Rattle.decide_tick.proofs.Quiet.{opens-so}
use Rattle.decide_tick.proofs.opened.Goals as goal

pub returns-then-is_quiet : goal.returns-then-is_quiet
returns-then-is_quiet c =
    let a = c.args in
    opens-so a.fixed a.numbers a.now _ c.refreshed.ensures (c.is_quiet.ensures c.if-is_quiet.true)

pub returns : goal.returns
unfolding OpensAs
returns c = tt
