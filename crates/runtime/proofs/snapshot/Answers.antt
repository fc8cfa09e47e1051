use Rattle.runtime.proofs.Showing.{snapshot-reads}
use Rattle.runtime.proofs.snapshot.Goals as goal

pub retained-count-requires : goal.retained-count-requires
retained-count-requires c = c.requires.kept.placed.receipts.numbered

pub returns : goal.returns
returns c = rw (c.snapshot_shown.ensures, c.retained-count.ensures) (snapshot-reads c.args.rt.now c.requires)
