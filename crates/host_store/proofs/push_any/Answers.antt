use Rattle.host_store.proofs.Counts.{any-pushed, any-spare}
use Rattle.host_store.proofs.push_any.Goals as goal

pub push-pushed-requires : goal.push-pushed-requires
push-pushed-requires c = c.is_numbered.ensures.yes c.if-is_numbered.true

pub returns-then-is_numbered : goal.returns-then-is_numbered
returns-then-is_numbered c = any-pushed _ _ _ _ _ c.push-pushed.ensures

pub returns : goal.returns
returns c = any-spare _ _ _ _ _ c.requires c.is_numbered.ensures c.if-is_numbered.false
