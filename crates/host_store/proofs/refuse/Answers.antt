use Rattle.layout.specs.Fields.{with_why}
use Rattle.layout.proofs.Chains.{becomes-then, goes_by}
use Rattle.runtime.proofs.Alters.{refuses}
use Rattle.host_store.proofs.refuse.Goals as goal

pub returns : goal.returns
returns c = goes_by _ (becomes-then (with_why _) (rw c.awaiting.ensures at c.put_waiting.ensures) c.put_reason.ensures) (λ g. refuses _ _ g)
