use borrow.Author.Rules.{rules}
use Rattle.replay.proofs.Entries.{length-mapped}
use Rattle.replay.proofs.Kept.{pushed}
use Rattle.replay.proofs.ReplayRing.push.Goals as goal

pub returns : goal.returns
returns c = pushed c.args.self _ c.args.entry c.requires (search (rules, length-mapped)) (search rules) (search rules)
