use Rattle.runtime.proofs.Cells.{fails, holds}
use Rattle.runtime.proofs.Callings.{polls-raised, polls-seen}
use Rattle.runtime.proofs.poll_on.Goals as goal

pub poll-requires : goal.poll-requires
poll-requires c = c.requires.0

pub returns-then-is_seen : goal.returns-then-is_seen
returns-then-is_seen c = polls-seen c.args.rt.now c.args.raised c.args.time c.requires.0 c.requires.1 (holds c.is_seen.ensures c.if-is_seen.true)

pub returns-else-is_seen : goal.returns-else-is_seen
returns-else-is_seen c = polls-raised c.args.rt.now c.args.raised c.args.time c.poll.new.rt c.poll.result (fails c.is_seen.ensures c.if-is_seen.false) c.poll.ensures
