use mathlib.Core.Path.{refl}
use Rattle.host_replies.proofs.Replies.{carried-low, executes-on}
use Rattle.layout.proofs.Chains.{long_after}
use Rattle.host_replies.proofs.execute.Goals as goal

pub put_carrying-requires : goal.put_carrying-requires
put_carrying-requires c = (long_after c.requires c.put_waiting.ensures.same, carried-low _ c.carrying_in-carrying.ensures)

pub returns : goal.returns
returns c = (executes-on _ c.carrying_in-carrying.ensures c.awaiting.ensures c.put_waiting.ensures c.put_carrying.ensures, refl)
