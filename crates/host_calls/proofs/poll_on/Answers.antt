use Rattle.host_calls.proofs.Callings.{poll-seen, poll-raised}
use Rattle.host_calls.proofs.poll_on.Goals as goal

pub returns-then-is_seen : goal.returns-then-is_seen
returns-then-is_seen c = poll-seen _ c.args.raised c.args.time c.numbers_in-numbers.ensures c.is_seen.ensures c.if-is_seen.true

pub returns : goal.returns
returns c = poll-raised _ c.args.raised c.args.time c.numbers_in-numbers.ensures c.is_seen.ensures c.if-is_seen.false c.poll.ensures
